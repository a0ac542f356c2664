-- What every layer needs: what stands below it, which calls went down, and how it becomes lawful. Assumes nothing.
use Rattle.std.proofs.Common.{◌≡◌, ℕ, ◌≤◌, eqb, ◌⊎◌, List, [], ◌∷◌, ℤ, Some, None, Option, sym, refl, ap, ◌∙◌, subst, inl, inr, ⊎_elim, arith}
use Rattle.std.proofs.lemmas.Bool.{cond_both}
use Rattle.stops.specs.Stops.{most_stops}
use Rattle.tier.specs.Answers.{Answers, Standing, at_depot, reached}
use Rattle.tier.specs.Routes.{and_then, plus, replay_from}
use Rattle.tier.specs.Plans.{total}
use Rattle.tier.specs.Meaning.{Meaning, Outcome, taken, refused, Comes, here, by_set, by_tighten}
use Rattle.tier.specs.Laws.{Small, Kept, Laws, Lawful, most_tiers}
use Rattle.tier.specs.Layers.{higher, shut_above_four, carry, own_or_below}
use Rattle.tier.proofs.Options.{none_some, some_same, and_then_some, plus_some}
use Rattle.tier.proofs.Outcomes.{refused_taken}
use Rattle.tier.proofs.Shut.{OwedAtAnyHeight, OwedUpToFour, laws_shut_above_four}

-- HEIGHT

pub fewer_below : (tiers : ℕ) → higher tiers ≤ most_tiers → tiers ≤ most_tiers
fewer_below tiers few = omega arith

-- what is small below is small one tier higher
pub small_higher : (tiers : ℕ) (x : ℤ) → higher tiers ≤ most_tiers → Small tiers x → Small (higher tiers) x
small_higher tiers x few s = omega arith

-- BELOW A LAYER

module _ {S T : Type 0} (m : Answers S) (up : Answers T) (below : T → S) where
  -- where every step of the layer is a step below, for whatever charge, what stands on the layer stands below
  pub stands_below : below up.start ≡ m.start → ((s t : T) (i j : ℕ) (x : ℤ) → up.reach s i j ≡ Some (t, x) → (y : ℤ) × (m.reach (below s) i j ≡ Some (below t, y))) → {i : ℕ} {s : T} → Standing up i s → Standing m i (below s)
  stands_below start step at_depot = subst (Standing m 0) (sym start) at_depot
  stands_below start step (reached {i} {s} j t x st e) = let d = step s t i j x e in reached j (below t) d.0 (stands_below start step st) d.1

  -- where the layer only carries the states below, a replay costs the same
  pub same_replay : ((s : T) (i j : ℕ) → carry below (up.reach s i j) ≡ m.reach (below s) i j) → ((s : T) (i : ℕ) → up.finish s i ≡ m.finish (below s) i) → (s : T) (i : ℕ) (r : List ℕ) → replay_from up s i r ≡ replay_from m (below s) i r
  same_replay step home s i [] = home s i
  same_replay step home s i (j ∷ js) = by (up.reach s i j) (λ t. same_replay step home t j js) ∙ ap (λ o. and_then o (λ p. plus p.1 (replay_from m p.0 j js))) (step s i j)
    where
      by : (o : Option (T × ℤ)) → ((t : T) → replay_from up t j js ≡ replay_from m (below t) j js) → and_then o (λ p. plus p.1 (replay_from up p.0 j js)) ≡ and_then (carry below o) (λ p. plus p.1 (replay_from m p.0 j js))
      by None rest = refl
      by (Some p) rest = ap (plus p.1) (rest p.0)

  -- where each step of the layer is the same step below, what the layer admits costs the same below
  pub admitted_below : ((s t : T) (i j : ℕ) (x : ℤ) → up.reach s i j ≡ Some (t, x) → m.reach (below s) i j ≡ Some (below t, x)) → ((s : T) (i : ℕ) (x : ℤ) → up.finish s i ≡ Some x → m.finish (below s) i ≡ Some x) → (s : T) (i : ℕ) (r : List ℕ) (c : ℤ) → replay_from up s i r ≡ Some c → replay_from m (below s) i r ≡ Some c
  admitted_below step home s i [] c e = home s i c e
  admitted_below step home s i (j ∷ js) c e =
      let b = and_then_some (up.reach s i j) (λ p. plus p.1 (replay_from up p.0 j js)) c e in
      let p = b.first in
      let more = plus_some p.1 c (replay_from up p.0 j js) b.then in
      let rest = admitted_below step home p.0 j js more.rest more.is in
      ap (λ o. and_then o (λ q. plus q.1 (replay_from m q.0 j js))) (step s p.0 i j p.1 b.is) ∙ ap (plus p.1) rest ∙ ap Some (sym more.sum)

-- what it says that a carried step is there
pub record Carried {S T : Type 0} (f : S → T) (o : Option (S × ℤ)) (t : T) (x : ℤ) : Type 0 where
  pub below : S
  pub is : o ≡ Some (below, x)
  pub becomes : f below ≡ t

pub carried : {S T : Type 0} (f : S → T) (o : Option (S × ℤ)) (t : T) (x : ℤ) → carry f o ≡ Some (t, x) → Carried f o t x
carried f None t x e = absurd (none_some e)
carried {S} {T} f (Some p) t x e =
    let q = some_same e in
    record { below = p.0; is = ap (λ (r : T × ℤ). Some (p.0, r.1)) q; becomes = ap (λ (r : T × ℤ). r.0) q }

pub total_same : (f g : List ℕ → Option ℤ) → ((r : List ℕ) → f r ≡ g r) → (rs : List (List ℕ)) → total f rs ≡ total g rs
total_same f g same [] = refl
total_same f g same (r ∷ rs) = rw (same r, total_same f g same rs)

-- CALLS

-- a call that was taken is the layer's own or went down
pub own_or_below_taken : {V : Type 0} (tiers tier : ℕ) (own below : Outcome V) (w : V) → own_or_below tiers tier own below ≡ taken w → (own ≡ taken w) ⊎ (below ≡ taken w)
own_or_below_taken tiers tier own below w = cond_both (eqb tier tiers) own below (λ o. o ≡ taken w → (own ≡ taken w) ⊎ (below ≡ taken w)) (λ _ e. inl e) (λ _ e. inr e)

-- a layer that refuses its own calls takes only those that went down
pub only_below_taken : {V : Type 0} (tiers tier number : ℕ) (below : Outcome V) (w : V) → own_or_below tiers tier (refused number) below ≡ taken w → below ≡ taken w
only_below_taken tiers tier number below w e = ⊎_elim (λ f. absurd (refused_taken f)) (λ f. f) (own_or_below_taken tiers tier (refused number) below w e)

-- LAYERS

-- `up` is a layer over d, before it is shut: `below` is the value that the tier below has, and `Holds` is what the
-- layer keeps of its own.
pub record Layer {S T : Type 0} (d : Meaning S) (up : Meaning T) (below : up.Value → d.Value) (Holds : up.Value → Type 0) : Type 0 where
  pub stops : (v : up.Value) → (up.answers v).stops ≡ (d.answers (below v)).stops
  pub tiers : (v : up.Value) → (up.answers v).tiers ≡ higher (d.answers (below v)).tiers
  pub start_key : (v : up.Value) → (up.answers v).key (up.answers v).start ≡ (d.answers (below v)).key (d.answers (below v)).start
  pub ground_of : (v : up.Value) → up.ground_of v ≡ d.ground_of (below v)
  -- a taken call changes nothing below, or is taken below
  pub set_below : (v w : up.Value) (tier index : ℕ) (amount : ℤ) → up.sets v tier index amount ≡ taken w → (below v ≡ below w) ⊎ (d.sets (below v) tier index amount ≡ taken (below w))
  pub tighten_below : (v w : up.Value) (tier index set : ℕ) (amount : ℤ) → up.tightens v tier index set amount ≡ taken w → (below v ≡ below w) ⊎ (d.tightens (below v) tier index set amount ≡ taken (below w))
  -- and what the layer keeps still holds
  pub set_holds : (v w : up.Value) (tier index : ℕ) (amount : ℤ) → Laws d (below v) → Holds v → up.sets v tier index amount ≡ taken w → Holds w
  pub tighten_holds : (v w : up.Value) (tier index set : ℕ) (amount : ℤ) → Laws d (below v) → Holds v → up.tightens v tier index set amount ≡ taken w → Holds w

unchanged : {S : Type 0} (d : Meaning S) (v : d.Value) → Kept d v v
unchanged d v = record { stops = refl; tiers = refl; ground_of = refl }

module _ {S T : Type 0} (d : Meaning S) (up : Meaning T) (below : up.Value → d.Value) (Holds : up.Value → Type 0) (layer : Layer d up below Holds) where
  kept_above : (v w : up.Value) → Kept d (below v) (below w) → Kept up v w
  kept_above v w k = record {
    stops = layer.stops w ∙ k.stops ∙ sym (layer.stops v);
    tiers = layer.tiers w ∙ ap higher k.tiers ∙ sym (layer.tiers v);
    ground_of = layer.ground_of w ∙ k.ground_of ∙ sym (layer.ground_of v);
  }

  always : (v : up.Value) → Laws d (below v) → OwedAtAnyHeight up v
  always v l = record {
    few_stops = subst (λ n. n ≤ most_stops) (sym (layer.stops v)) l.sizes.few_stops;
    start_at_zero = layer.start_key v ∙ l.keys.start_at_zero;
    set_keeps = λ w tier index amount e.
        kept_above v w
        (⊎_elim (λ same. subst (Kept d (below v)) same (unchanged d (below v))) (λ f. l.set_keeps (below w) tier index amount f)
        (layer.set_below v w tier index amount e));
    tighten_keeps = λ w tier index set amount e.
        kept_above v w
        (⊎_elim (λ same. subst (Kept d (below v)) same (unchanged d (below v))) (λ f. l.tighten_keeps (below w) tier index set amount f)
        (layer.tighten_below v w tier index set amount e));
  }

  -- what the layer comes to, the tier below comes to
  pub comes_below : {v w : up.Value} → Comes (shut_above_four up) v w → Comes d (below v) (below w)
  comes_below here = here
  comes_below {v} (by_set {w} x tier index amount p e) =
      ⊎_elim (λ same. subst (Comes d (below v)) same (comes_below p)) (λ f. by_set (below x) tier index amount (comes_below p) f)
      (layer.set_below w x tier index amount e)
  comes_below {v} (by_tighten {w} x tier index set amount p e) =
      ⊎_elim (λ same. subst (Comes d (below v)) same (comes_below p)) (λ f. by_tighten (below x) tier index set amount (comes_below p) f)
      (layer.tighten_below w x tier index set amount e)

  still_holds : {v w : up.Value} → Lawful d (below v) → Holds v → Comes (shut_above_four up) v w → Holds w
  still_holds l h here = h
  still_holds l h (by_set {w} x tier index amount p e) = layer.set_holds w x tier index amount (l (below w) (comes_below p)) (still_holds l h p) e
  still_holds l h (by_tighten {w} x tier index set amount p e) = layer.tighten_holds w x tier index set amount (l (below w) (comes_below p)) (still_holds l h p) e

  -- A layer is lawful over every lawful tier if up to four tiers it keeps the laws of one value's answers.
  pub layer_lawful : ((v : up.Value) → Laws d (below v) → Holds v → (up.answers v).tiers ≤ most_tiers → OwedUpToFour up v) → (v : up.Value) → Holds v → Lawful d (below v) → Lawful (shut_above_four up) v
  layer_lawful each v h lawful w comes =
      let l = lawful (below w) (comes_below comes) in
      laws_shut_above_four up w (always w l) (each w l (still_holds lawful h comes))
