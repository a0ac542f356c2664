-- A layer that passes every question down keeps the laws of the tier below. Assumes nothing.
use Rattle.std.specs.Prelude.{◌≡◌, ℕ, ◌≤◌, List, ℤ, pos, Some, None, Option, refl}
use Rattle.std.proofs.Common.{sym, ap, ◌∙◌, inr}
use Rattle.tier.specs.Answers.{Answers, Standing}
use Rattle.tier.specs.Routes.{reduced_cost}
use Rattle.tier.specs.Meaning.{Meaning, taken}
use Rattle.tier.specs.Laws.{GapLaws, SizeLaws, KeyLaws, PlansPay, NoCheaper, Laws, Lawful, most_tiers}
use Rattle.tier.specs.Layers.{carry}
use Rattle.tier.proofs.Shut.{OwedUpToFour}
use Rattle.tier.proofs.Layers.{fewer_below, small_higher, stands_below, same_replay, carried, total_same, only_below_taken, Layer, layer_lawful}
use Rattle.stranger.specs.declared.through.Passed.{Passed}
use Rattle.stranger.specs.Through.{wrap, passes, passing, through}

module _ {S : Type 0} (m : Answers S) where
  -- a step of the layer is the same step below
  step_below : (s t : Passed S) (i j : ℕ) (x : ℤ) → (passes m).reach s i j ≡ Some (t, x) → m.reach s.below i j ≡ Some (t.below, x)
  step_below s t i j x e =
      let c = carried wrap (m.reach s.below i j) t x e in
      c.is ∙ ap (λ (r : Passed S). Some (r.below, x)) c.becomes

  lower : {i : ℕ} {s : Passed S} → Standing (passes m) i s → Standing m i s.below
  lower st = stands_below m (passes m) (λ s. s.below) refl (λ s t i j x e. (x, step_below s t i j x e)) st

  unwrapped : (o : Option (S × ℤ)) → carry (λ (s : Passed S). s.below) (carry wrap o) ≡ o
  unwrapped None = refl
  unwrapped (Some p) = refl

  same_cost : (r : List ℕ) → reduced_cost (passes m) r ≡ reduced_cost m r
  same_cost r = same_replay m (passes m) (λ s. s.below) (λ s i j. unwrapped (m.reach s.below i j)) (λ s i. refl) (wrap m.start) 0 r

  passes_gaps : GapLaws m → GapLaws (passes m)
  passes_gaps l = record {
    gap_to_itself = λ i a stop p. l.gap_to_itself i a.below stop (lower p);
    gap_through = λ i a b c g h stop p q r e f.
        let w = l.gap_through i a.below b.below c.below g h stop (lower p) (lower q) (lower r) e f in
        record { width = w.width; present = w.present; small = w.small };
    reach_follows = λ i j a b t g y stop p q e f.
        let w = l.reach_follows i j a.below b.below t.below g y stop (lower p) (lower q) e (step_below b t i j y f) in
        record {
          next = wrap w.next;
          charge = w.charge;
          reaches = ap (carry wrap) w.reaches;
          width = w.width;
          present = w.present;
          small = w.small;
        };
    finish_follows = λ i a b g y stop p q e f.
        let w = l.finish_follows i a.below b.below g y stop (lower p) (lower q) e f in
        record { charge = w.charge; finishes = w.finishes; small = w.small };
  }

  passes_sizes : (passes m).tiers ≤ most_tiers → SizeLaws m → SizeLaws (passes m)
  passes_sizes few l =
      let low = fewer_below m.tiers few in
      record {
        few_stops = l.few_stops;
        reach_small = λ _ i j s t x p e. small_higher m.tiers x few (l.reach_small low i j s.below t.below x (lower p) (step_below s t i j x e));
        finish_small = λ _ i s x p e. small_higher m.tiers x few (l.finish_small low i s.below x (lower p) e);
        gap_small = λ _ i a b g stop p q e. small_higher m.tiers (pos g) few (l.gap_small low i a.below b.below g stop (lower p) (lower q) e);
        credit_small = λ _. small_higher m.tiers m.credit few (l.credit_small low);
      }

  passes_keys : KeyLaws m → KeyLaws (passes m)
  passes_keys l = record {
    start_at_zero = l.start_at_zero;
    key_in_range = λ i s p. l.key_in_range i s.below (lower p);
    reach_raises_key = λ i j s t x p e. l.reach_raises_key i j s.below t.below x (lower p) (step_below s t i j x e);
    gap_orders_keys = λ i a b g stop p q e. l.gap_orders_keys i a.below b.below g stop (lower p) (lower q) e;
  }

  passes_plans : (ground_of : List ℕ → Option ℤ) → (passes m).tiers ≤ most_tiers → PlansPay m ground_of → PlansPay (passes m) ground_of
  passes_plans ground_of few l _ vans rs cost plan =
      let p = l (fewer_below m.tiers few) vans rs cost plan in
      record { sum = p.sum; admitted = total_same (reduced_cost (passes m)) (reduced_cost m) same_cost rs ∙ p.admitted; at_most = p.at_most }

passes_no_cheaper : {S : Type 0} (before after : Answers S) → NoCheaper before after → NoCheaper (passes before) (passes after)
passes_no_cheaper before after l r c route e =
    let b = l r c route (sym (same_cost after r) ∙ e) in
    (b.0, same_cost before r ∙ b.1, b.2)

module _ {S : Type 0} (d : Meaning S) where
  set_below : (v w : d.Value) (tier index : ℕ) (amount : ℤ) → (passing d).sets v tier index amount ≡ taken w → d.sets v tier index amount ≡ taken w
  set_below v w tier index amount e = only_below_taken _ tier 7 (d.sets v tier index amount) w e

  tighten_below : (v w : d.Value) (tier index set : ℕ) (amount : ℤ) → (passing d).tightens v tier index set amount ≡ taken w → d.tightens v tier index set amount ≡ taken w
  tighten_below v w tier index set amount e = only_below_taken _ tier 7 (d.tightens v tier index set amount) w e

  -- it has nothing of its own to keep
  passing_layer : Layer d (passing d) (λ v. v) (λ _. Unit {0})
  passing_layer = record {
    stops = λ v. refl;
    tiers = λ v. refl;
    start_key = λ v. refl;
    ground_of = λ v. refl;
    set_below = λ v w tier index amount e. inr (set_below v w tier index amount e);
    tighten_below = λ v w tier index set amount e. inr (tighten_below v w tier index set amount e);
    set_holds = λ v w tier index amount l h e. tt;
    tighten_holds = λ v w tier index set amount l h e. tt;
  }

  passing_laws : (v : d.Value) → Laws d v → Unit {0} → (passes (d.answers v)).tiers ≤ most_tiers → OwedUpToFour (passing d) v
  passing_laws v l _ few =
      let m = d.answers v in
      record {
        reach_is_leg = λ s t i j x e. l.interface.reach_is_leg s.below t.below i j x (step_below m s t i j x e);
        finish_from_stop = λ s i x e. l.interface.finish_from_stop s.below i x e;
        gaps = passes_gaps m l.gaps;
        sizes = passes_sizes m few l.sizes;
        keys = passes_keys m l.keys;
        plans = passes_plans m (d.ground_of v) few l.plans;
        tighten_no_cheaper = λ w tier index set amount e. passes_no_cheaper m (d.answers w) (l.tighten_no_cheaper w tier index set amount (tighten_below v w tier index set amount e));
      }

  pub through_lawful : (v : d.Value) → Lawful d v → Lawful (through d) v
  through_lawful v lawful = layer_lawful d (passing d) (λ v. v) (λ _. Unit {0}) passing_layer passing_laws v tt lawful
