-- A layer keeps the laws of sizes and of keys. Assumes nothing.
use Rattle.std.proofs.Common.{◌≡◌, ℕ, ◌≤◌, ℤ, pos, Some, sym, ap, ◌∙◌, subst}
use Rattle.stops.specs.Stops.{Stop}
use Rattle.tier.specs.Answers.{Answers, Standing}
use Rattle.tier.specs.Laws.{Small, SizeLaws, KeyLaws, most_tiers}
use Rattle.tier.specs.Layers.{higher}
use Rattle.tier.proofs.Layers.{fewer_below, small_higher}
use Rattle.layer.specs.Owns.{Own, OwnLaws}
use Rattle.layer.specs.Layers.{Pairing, over}
use Rattle.layer.proofs.InWord.{small_sum, small_less}
use Rattle.layer.proofs.Parts.{step_parts, gap_parts, lower}

module _ {S M T : Type 0} (pair : Pairing S M T) (m : Answers S) (o : Own M) where
  module _ (few : higher m.tiers ≤ most_tiers) (sizes : SizeLaws m) (own : OwnLaws m.stops o) where
    reach_small : (i j : ℕ) (t u : T) (x : ℤ) → Standing (over pair m o) i t → (over pair m o).reach t i j ≡ Some (u, x) → Small (higher m.tiers) x
    reach_small i j t u x p e =
        let k = step_parts pair m o t u i j x e in
        let small = sizes.reach_small (fewer_below m.tiers few) i j (pair.below t) (pair.below u) k.charge (lower pair m o p) k.below_reaches in
        let little = own.step_small j (pair.own t) (pair.own u) k.own_charge k.own_steps in
        subst (Small (higher m.tiers)) (sym k.sum) (small_sum m.tiers k.charge k.own_charge few small little)

    gap_small : (i : ℕ) (a b : T) (g : ℕ) → Stop m.stops i → Standing (over pair m o) i a → Standing (over pair m o) i b → (over pair m o).gap a b ≡ Some g → Small (higher m.tiers) (pos g)
    gap_small i a b g stop p q e =
        let k = gap_parts pair m o a b g e in
        let small = sizes.gap_small (fewer_below m.tiers few) i (pair.below a) (pair.below b) k.width stop (lower pair m o p) (lower pair m o q) k.below_gap in
        let little = own.behind_small (pair.own a) (pair.own b) k.own_width k.own_behind in
        subst (λ w. Small (higher m.tiers) (pos w)) (sym k.sum) (small_sum m.tiers (pos k.width) k.own_width few small little)

    pub over_sizes : SizeLaws (over pair m o)
    over_sizes = record {
      few_stops = sizes.few_stops;
      reach_small = λ _. reach_small;
      finish_small = λ _ i t x p e. small_higher m.tiers x few (sizes.finish_small (fewer_below m.tiers few) i (pair.below t) x (lower pair m o p) e);
      gap_small = λ _. gap_small;
      credit_small = λ _. small_less m.tiers m.credit o.penalties few (sizes.credit_small (fewer_below m.tiers few)) own.penalties_small;
    }

  -- the keys are those below
  pub over_keys : KeyLaws m → KeyLaws (over pair m o)
  over_keys l = record {
    start_at_zero = ap m.key (pair.below_join m.start o.first) ∙ l.start_at_zero;
    key_in_range = λ i t p. l.key_in_range i (pair.below t) (lower pair m o p);
    reach_raises_key = λ i j t u x p e.
        let k = step_parts pair m o t u i j x e in
        l.reach_raises_key i j (pair.below t) (pair.below u) k.charge (lower pair m o p) k.below_reaches;
    gap_orders_keys = λ i a b g stop p q e.
        let k = gap_parts pair m o a b g e in
        l.gap_orders_keys i (pair.below a) (pair.below b) k.width stop (lower pair m o p) (lower pair m o q) k.below_gap;
  }
