-- A pile over four tiers is shut, and keeps the laws for want of states. Assumes nothing.
use Rattle.std.proofs.Common.{◌≡◌, ℕ, ◌<◌, ◌≤◌, List, [], ◌∷◌, ℤ, Some, None, sym, refl, ap, ◌∙◌, subst, ⊎_elim, arith}
use Rattle.std.proofs.lemmas.Bool.{cases_lt, lt-ltb, le-ltb}
use Rattle.stops.specs.Stops.{Stop, most_stops}
use Rattle.tier.specs.Answers.{Answers, Standing, at_depot, reached}
use Rattle.tier.specs.Routes.{and_then, plus, replay_from}
use Rattle.tier.specs.Meaning.{Meaning, taken}
use Rattle.tier.specs.Laws.{IsLeg, Interface, Shut, GapLaws, SizeLaws, KeyLaws, PlansPay, NoCheaper, Kept, Laws, most_tiers}
use Rattle.tier.specs.Layers.{shut_if, up_to_four, shut_above_four}
use Rattle.tier.proofs.Options.{none_some}

module _ {S : Type 0} (m : Answers S) (shut : Shut m) where
  nothing_reached : {P : Type 0} (s t : S) (i j : ℕ) (x : ℤ) → m.reach s i j ≡ Some (t, x) → P
  nothing_reached s t i j x e = absurd (none_some (sym (shut.reach_barred s i j) ∙ e))

  -- only the start stands, and at the depot
  only_start : {i : ℕ} {s : S} → Standing m i s → (i ≡ 0) × (s ≡ m.start)
  only_start at_depot = (refl, refl)
  only_start (reached {i} {s} j t x st e) = nothing_reached s t i j x e

  none_at_stop : {P : Type 0} {i : ℕ} {s : S} → Stop m.stops i → Standing m i s → P
  none_at_stop stop st = let e = (only_start st).0 in absurd (omega arith)

  pub admits_none : (s : S) (i : ℕ) (r : List ℕ) → replay_from m s i r ≡ None
  admits_none s i [] = shut.finish_barred s i
  admits_none s i (j ∷ js) = ap (λ o. and_then o (λ p. plus p.1 (replay_from m p.0 j js))) (shut.reach_barred s i j)

  shut_gaps : GapLaws m
  shut_gaps = record {
    gap_to_itself = λ i a stop p. none_at_stop stop p;
    gap_through = λ i a b c g h stop p q r e f. none_at_stop stop p;
    reach_follows = λ i j a b t g y stop p q e f. none_at_stop stop p;
    finish_follows = λ i a b g y stop p q e f. none_at_stop stop p;
  }

  shut_keys : m.key m.start ≡ 0 → KeyLaws m
  shut_keys zero = record {
    start_at_zero = zero;
    key_in_range = λ i s p. let e = ap m.key (only_start p).1 in omega arith;
    reach_raises_key = λ i j s t x p e. nothing_reached s t i j x e;
    gap_orders_keys = λ i a b g stop p q e. none_at_stop stop p;
  }

  shut_interface : Interface m
  shut_interface = record {
    reach_is_leg = λ s t i j x e. nothing_reached s t i j x e;
    finish_from_stop = λ s i x e. absurd (none_some (sym (shut.finish_barred s i) ∙ e));
    shut_over_four = λ _. shut;
  }

  shut_sizes : most_tiers < m.tiers → m.stops ≤ most_stops → SizeLaws m
  shut_sizes deep few = record {
    few_stops = few;
    reach_small = λ low. absurd (omega arith);
    finish_small = λ low. absurd (omega arith);
    gap_small = λ low. absurd (omega arith);
    credit_small = λ low. absurd (omega arith);
  }

module _ {S : Type 0} (m : Answers S) where
  pub same_up_to_four : m.tiers ≤ most_tiers → m ≡ up_to_four m
  same_up_to_four few = sym (ap (λ b. shut_if b m) (le-ltb most_tiers m.tiers few))

  pub shut_above : most_tiers < m.tiers → Shut (up_to_four m)
  shut_above deep = subst (λ b. Shut (shut_if b m)) (sym (lt-ltb most_tiers m.tiers deep)) (record {
    reach_barred = λ s i j. refl;
    finish_barred = λ s i. refl;
    gap_zero = λ a b. refl;
    credit_zero = refl;
  })

-- what is owed at any height
pub record OwedAtAnyHeight {S : Type 0} (d : Meaning S) (v : d.Value) : Type 0 where
  pub few_stops : (d.answers v).stops ≤ most_stops
  pub start_at_zero : (d.answers v).key (d.answers v).start ≡ 0
  pub set_keeps : (w : d.Value) (tier index : ℕ) (amount : ℤ) → d.sets v tier index amount ≡ taken w → Kept d v w
  pub tighten_keeps : (w : d.Value) (tier index set : ℕ) (amount : ℤ) → d.tightens v tier index set amount ≡ taken w → Kept d v w

-- what is owed besides, up to four tiers only
pub record OwedUpToFour {S : Type 0} (d : Meaning S) (v : d.Value) : Type 0 where
  pub reach_is_leg : (s t : S) (i j : ℕ) (x : ℤ) → (d.answers v).reach s i j ≡ Some (t, x) → IsLeg (d.answers v).stops i j
  pub finish_from_stop : (s : S) (i : ℕ) (x : ℤ) → (d.answers v).finish s i ≡ Some x → Stop (d.answers v).stops i
  pub gaps : GapLaws (d.answers v)
  pub sizes : SizeLaws (d.answers v)
  pub keys : KeyLaws (d.answers v)
  pub plans : PlansPay (d.answers v) (d.ground_of v)
  pub tighten_no_cheaper : (w : d.Value) (tier index set : ℕ) (amount : ℤ) → d.tightens v tier index set amount ≡ taken w → NoCheaper (d.answers v) (d.answers w)

module _ {S : Type 0} (d : Meaning S) (v : d.Value) (always : OwedAtAnyHeight d v) where
  set_keeps : (w : d.Value) (tier index : ℕ) (amount : ℤ) → d.sets v tier index amount ≡ taken w → Kept (shut_above_four d) v w
  set_keeps w tier index amount e = let k = always.set_keeps w tier index amount e in record { stops = k.stops; tiers = k.tiers; ground_of = k.ground_of }

  tighten_keeps : (w : d.Value) (tier index set : ℕ) (amount : ℤ) → d.tightens v tier index set amount ≡ taken w → Kept (shut_above_four d) v w
  tighten_keeps w tier index set amount e = let k = always.tighten_keeps w tier index set amount e in record { stops = k.stops; tiers = k.tiers; ground_of = k.ground_of }

  laws_low : (d.answers v).tiers ≤ most_tiers → OwedUpToFour d v → Laws (shut_above_four d) v
  laws_low few l =
      let same = same_up_to_four (d.answers v) few in
      record {
        interface = subst Interface same (record { reach_is_leg = l.reach_is_leg; finish_from_stop = l.finish_from_stop; shut_over_four = λ deep. absurd (omega arith) });
        gaps = subst GapLaws same l.gaps;
        sizes = subst SizeLaws same l.sizes;
        keys = subst KeyLaws same l.keys;
        plans = subst (λ m. PlansPay m (d.ground_of v)) same l.plans;
        tighten_no_cheaper = λ w tier index set amount e.
            let t = (always.tighten_keeps w tier index set amount e).tiers in
            let after = same_up_to_four (d.answers w) (omega arith) in
            subst (λ m. NoCheaper m (up_to_four (d.answers w))) same (subst (NoCheaper (d.answers v)) after (l.tighten_no_cheaper w tier index set amount e));
        set_keeps = set_keeps;
        tighten_keeps = tighten_keeps;
      }

  laws_high : most_tiers < (d.answers v).tiers → Laws (shut_above_four d) v
  laws_high deep =
      let m = up_to_four (d.answers v) in
      let shut = shut_above (d.answers v) deep in
      record {
        interface = shut_interface m shut;
        gaps = shut_gaps m shut;
        sizes = shut_sizes m shut deep always.few_stops;
        keys = shut_keys m shut always.start_at_zero;
        plans = λ low. absurd (omega arith);
        tighten_no_cheaper = λ w tier index set amount e r c route f.
            let t = (always.tighten_keeps w tier index set amount e).tiers in
            let n = up_to_four (d.answers w) in
            let none = admits_none n (shut_above (d.answers w) (omega arith)) n.start 0 r in
            absurd (none_some (sym none ∙ f));
        set_keeps = set_keeps;
        tighten_keeps = tighten_keeps;
      }

  pub laws_shut_above_four : ((d.answers v).tiers ≤ most_tiers → OwedUpToFour d v) → Laws (shut_above_four d) v
  laws_shut_above_four l = ⊎_elim laws_high (λ few. laws_low few (l few)) (cases_lt most_tiers (d.answers v).tiers)
