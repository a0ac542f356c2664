-- A layer over any tier, made of its own part.
use Rattle.std.specs.Prelude.{◌≡◌, ℕ, ℤ, pos, ◌-ℤ◌, Some, Option}
use Rattle.tier.specs.Answers.{Answers}
use Rattle.tier.specs.Routes.{and_then}
use Rattle.tier.specs.Meaning.{Meaning, Outcome, taken, lifted}
use Rattle.tier.specs.Layers.{higher, shut_above_four, own_or_below}
use Rattle.layer.specs.Sums.{charge_sum, gap_sum}
use Rattle.layer.specs.Owns.{Own, OwnLaws, WalksNoCheaper}

-- A state T of the layer is a state S below with what the layer adds, M.
pub record Pairing (S M T : Type 0) : Type 0 where
  pub join : S → M → T
  pub below : T → S
  pub own : T → M
  pub below_join : (s : S) (m : M) → below (join s m) ≡ s
  pub own_join : (s : S) (m : M) → own (join s m) ≡ m
  pub join_parts : (t : T) → join (below t) (own t) ≡ t

module _ {S M T : Type 0} (pair : Pairing S M T) where
  -- a step below with a step of the layer's own
  abbrev pub step_sum : S × ℤ → M × ℕ → Option (T × ℤ)
  step_sum p q = and_then (charge_sum p.1 q.1) (λ x. Some (pair.join p.0 q.0, x))

  -- What a layer answers as far as it goes: charges, gaps and credits add up, and what is barred or absent below
  -- stays so.
  abbrev pub over : Answers S → Own M → Answers T
  over m o = record {
    stops = m.stops;
    tiers = higher m.tiers;
    start = pair.join m.start o.first;
    key = λ t. m.key (pair.below t);
    reach = λ t i j. and_then (m.reach (pair.below t) i j) (λ p. and_then (o.step j (pair.own t)) (λ q. step_sum p q));
    finish = λ t i. m.finish (pair.below t) i;
    gap = λ a b. and_then (m.gap (pair.below a) (pair.below b)) (λ g. and_then (o.behind (pair.own a) (pair.own b)) (λ h. gap_sum g h));
    credit = m.credit -ℤ pos o.penalties;
  }

-- A layer's own table: the own part that it gives, and what the layer's own set and tighten make of it. Both are
-- told the number of stops first.
pub record Kind (Table M : Type 0) : Type 0 where
  pub own_of : Table → Own M
  -- of the stops, a table, index and amount
  pub own_set : ℕ → Table → ℕ → ℤ → Outcome Table
  -- of the stops, a table, index, set of stops and amount
  pub own_tighten : ℕ → Table → ℕ → ℕ → ℤ → Outcome Table

-- where a layer stands: the value below, and its own table
pub record LayerValue (V Table : Type 0) : Type 0 where
  pub under : V
  pub table : Table

abbrev pub layer_at : {V Table : Type 0} → V → Table → LayerValue V Table
layer_at v t = record { under = v; table = t }

module _ {S M T Table : Type 0} (pair : Pairing S M T) (kind : Kind Table M) where
  -- A layer takes a call whose tier equals its height, and passes others down. Its ground is the ground below.
  abbrev pub open_layer : Meaning S → Meaning T
  open_layer d = record {
    Value = LayerValue d.Value Table;
    answers = λ v. over pair (d.answers v.under) (kind.own_of v.table);
    ground_of = λ v. d.ground_of v.under;
    sets = λ v tier index amount.
        own_or_below (higher (d.answers v.under).tiers) tier
        (lifted (layer_at v.under) (kind.own_set (d.answers v.under).stops v.table index amount))
        (lifted (λ w. layer_at w v.table) (d.sets v.under tier index amount));
    tightens = λ v tier index set amount.
        own_or_below (higher (d.answers v.under).tiers) tier
        (lifted (layer_at v.under) (kind.own_tighten (d.answers v.under).stops v.table index set amount))
        (lifted (λ w. layer_at w v.table) (d.tightens v.under tier index set amount));
  }

  -- over four tiers it is shut
  abbrev pub layer : Meaning S → Meaning T
  layer d = shut_above_four (open_layer d)

-- WHAT A KIND OF LAYER OWES

-- `Good n` is what holds of every table over n stops
pub record KindLaws {Table M : Type 0} (kind : Kind Table M) (Good : ℕ → Table → Type 0) : Type 0 where
  pub own_laws : (n : ℕ) (t : Table) → Good n t → OwnLaws n (kind.own_of t)
  pub set_good : (n : ℕ) (t u : Table) (index : ℕ) (amount : ℤ) → Good n t → kind.own_set n t index amount ≡ taken u → Good n u
  pub tighten_good : (n : ℕ) (t u : Table) (index set : ℕ) (amount : ℤ) → Good n t → kind.own_tighten n t index set amount ≡ taken u → Good n u
  pub tighten_no_cheaper : (n : ℕ) (t u : Table) (index set : ℕ) (amount : ℤ) → Good n t → kind.own_tighten n t index set amount ≡ taken u → WalksNoCheaper (kind.own_of t) (kind.own_of u)
