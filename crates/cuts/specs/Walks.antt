-- One cut along a route, and with a larger memory. Assumes nothing.
use Rattle.std.specs.Prelude.{◌≡◌, ℕ, ◌+◌, ◌*◌, ◌≤◌, Bool, true, false, cond, not, ◌&&◌, List, [], ◌∷◌, refl}
use Rattle.std.proofs.Common.{ap, subst, arith, mul-add, mul-le-mul}
use Rattle.std.proofs.lemmas.Bool.{false≢true}
use Rattle.stops.specs.Stops.{member}
use Rattle.cuts.specs.declared.cut.Cut.{Cut}
use Rattle.cuts.specs.Cuts.{next_bit, is_charged, fee}

abbrev pub worth : Bool → ℕ
worth b = cond b 1 0

-- the bit after a visit and whether it is charged, by whether the stop is in the memory and one of the cut's
abbrev after : Bool → Bool → Bool → Bool
after inside own bit = cond own (not (inside && bit)) (inside && bit)

abbrev charged : Bool → Bool → Bool → Bool
charged inside own bit = own && (inside && bit)

-- how often a route is charged, from this bit
abbrev pub charges : Cut → Bool → List ℕ → ℕ
charges c bit [] = 0
charges c bit (j ∷ js) = worth (is_charged c j bit) + charges c (next_bit c j bit) js

-- the bit at the end of the route
abbrev pub last_bit : Cut → Bool → List ℕ → Bool
last_bit c bit [] = bit
last_bit c bit (j ∷ js) = last_bit c (next_bit c j bit) js

-- what the route pays
abbrev pub pays : Cut → Bool → List ℕ → ℕ
pays c bit [] = 0
pays c bit (j ∷ js) = fee c j bit + pays c (next_bit c j bit) js

fee_worth : (p : ℕ) (b : Bool) → cond b p 0 ≡ p * worth b
fee_worth p true = omega arith
fee_worth p false = omega arith

pub pays_charges : (c : Cut) (bit : Bool) (r : List ℕ) → pays c bit r ≡ c.penalty * charges c bit r
pays_charges c bit [] = omega arith
pays_charges c bit (j ∷ js) =
    let h = pays_charges c (next_bit c j bit) js in
    let f = fee_worth c.penalty (is_charged c j bit) in
    let m = mul-add c.penalty (worth (is_charged c j bit)) (charges c (next_bit c j bit) js) in
    omega arith

-- TWICE THE CHARGES AND THE BIT ARE AT MOST THE VISITS

-- how often the route visits a stop that passes the test
abbrev pub visits_in : (ℕ → Bool) → List ℕ → ℕ
visits_in p [] = 0
visits_in p (j ∷ js) = worth (p j) + visits_in p js

visit : (inside own bit : Bool) → 2 * worth (charged inside own bit) + worth (after inside own bit) ≤ worth own + worth bit
visit true true true = omega arith
visit true true false = omega arith
visit true false true = omega arith
visit true false false = omega arith
visit false true true = omega arith
visit false true false = omega arith
visit false false true = omega arith
visit false false false = omega arith

pub halves : (c : Cut) (bit : Bool) (r : List ℕ) → 2 * charges c bit r + worth (last_bit c bit r) ≤ visits_in (member c.stops.word) r + worth bit
halves c bit [] = omega arith
halves c bit (j ∷ js) =
    let h = halves c (next_bit c j bit) js in
    let v = visit (member c.memory.word j) (member c.stops.word j) bit in
    omega arith

-- A LARGER MEMORY

-- the same stops, and a memory and a penalty that are no less
pub record Wider (c d : Cut) : Type 0 where
  pub stops : c.stops.word ≡ d.stops.word
  pub memory : (j : ℕ) → member c.memory.word j ≡ true → member d.memory.word j ≡ true
  pub penalty : c.penalty ≤ d.penalty

-- twice the charges and the bit stay in order over a visit
in_order : (inside wide own : Bool) → (inside ≡ true → wide ≡ true) → (k l : ℕ) (a b : Bool) → 2 * k + worth a ≤ 2 * l + worth b → 2 * (k + worth (charged inside own a)) + worth (after inside own a) ≤ 2 * (l + worth (charged wide own b)) + worth (after wide own b)
in_order false true true w k l true true h = omega arith
in_order false true true w k l true false h = omega arith
in_order false true true w k l false true h = omega arith
in_order false true true w k l false false h = omega arith
in_order false false true w k l true true h = omega arith
in_order false false true w k l true false h = omega arith
in_order false false true w k l false true h = omega arith
in_order false false true w k l false false h = omega arith
in_order true false own w k l a b h = absurd (false≢true (w refl))
in_order true true true w k l true true h = omega arith
in_order true true true w k l true false h = omega arith
in_order true true true w k l false true h = omega arith
in_order true true true w k l false false h = omega arith
in_order true true false w k l a b h = omega arith
in_order false true false w k l true b h = omega arith
in_order false true false w k l false b h = omega arith
in_order false false false w k l true true h = omega arith
in_order false false false w k l true false h = omega arith
in_order false false false w k l false true h = omega arith
in_order false false false w k l false false h = omega arith

module _ (c d : Cut) (w : Wider c d) where
  visit_wider : (j : ℕ) (k l : ℕ) (a b : Bool) → 2 * k + worth a ≤ 2 * l + worth b → 2 * (k + worth (is_charged c j a)) + worth (next_bit c j a) ≤ 2 * (l + worth (is_charged d j b)) + worth (next_bit d j b)
  visit_wider j k l a b h =
      subst (λ (own : Bool). 2 * (k + worth (is_charged c j a)) + worth (next_bit c j a) ≤ 2 * (l + worth (charged (member d.memory.word j) own b)) + worth (after (member d.memory.word j) own b)) (ap (λ s. member s j) w.stops)
      (in_order (member c.memory.word j) (member d.memory.word j) (member c.stops.word j) (w.memory j) k l a b h)

  from : (r : List ℕ) (k l : ℕ) (a b : Bool) → 2 * k + worth a ≤ 2 * l + worth b → 2 * (k + charges c a r) + worth (last_bit c a r) ≤ 2 * (l + charges d b r) + worth (last_bit d b r)
  from [] k l a b h = omega arith
  from (j ∷ js) k l a b h =
      let v = visit_wider j k l a b h in
      let f = from js (k + worth (is_charged c j a)) (l + worth (is_charged d j b)) (next_bit c j a) (next_bit d j b) v in
      omega arith

  wider_charges : (r : List ℕ) → charges c false r ≤ charges d false r
  wider_charges r = let f = from r 0 0 false false (omega arith) in let z = small (last_bit d false r) in omega arith
    where
      small : (b : Bool) → worth b ≤ 1
      small true = omega arith
      small false = omega arith

  -- no route pays less
  pub wider_pays : (r : List ℕ) → pays c false r ≤ pays d false r
  wider_pays r =
      let e = pays_charges c false r in
      let f = pays_charges d false r in
      let m = mul-le-mul w.penalty (wider_charges r) in
      omega arith
