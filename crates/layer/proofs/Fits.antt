-- On at most four tiers, over charges and gaps that are small, no sum at a standing state leaves the word.
-- Assumes nothing.
use Rattle.std.proofs.Common.{◌≡◌, ℕ, ◌+◌, ◌≤◌, ℤ, pos, ◌+ℤ◌, Some}
use Rattle.stops.specs.Stops.{Stop}
use Rattle.tier.specs.Answers.{Answers, Standing}
use Rattle.tier.specs.Laws.{SizeLaws, most_tiers}
use Rattle.tier.specs.Layers.{higher}
use Rattle.tier.proofs.Layers.{fewer_below}
use Rattle.layer.specs.Sums.{charge_sum}
use Rattle.layer.specs.Owns.{Own, OwnLaws}
use Rattle.layer.specs.Layers.{Pairing, over}
use Rattle.layer.proofs.InWord.{charge_sum_fits, gap_sum_fits}
use Rattle.layer.proofs.Parts.{step_from_parts, gap_from_parts}

module _ {S M T : Type 0} (pair : Pairing S M T) (m : Answers S) (o : Own M) (few : higher m.tiers ≤ most_tiers) (sizes : SizeLaws m) (own : OwnLaws m.stops o) where
  -- the charges of a step below and of an own step have a sum
  pub charge_fits : (s u : S) (n k : M) (i j : ℕ) (x : ℤ) (y : ℕ) → Standing m i s → m.reach s i j ≡ Some (u, x) → o.step j n ≡ Some (k, y) → charge_sum x y ≡ Some (x +ℤ pos y)
  charge_fits s u n k i j x y st e f =
      let small = sizes.reach_small (fewer_below m.tiers few) i j s u x st e in
      let little = own.step_small j n k y f in
      charge_sum_fits m.tiers x y few small little

  -- a step below and an own step are a step of the layer
  pub step_fits : (t : T) (u : S) (k : M) (i j : ℕ) (x : ℤ) (y : ℕ) → Standing m i (pair.below t) → m.reach (pair.below t) i j ≡ Some (u, x) → o.step j (pair.own t) ≡ Some (k, y) → (over pair m o).reach t i j ≡ Some (pair.join u k, x +ℤ pos y)
  step_fits t u k i j x y st e f = step_from_parts pair m o t u k i j x y e f (charge_fits (pair.below t) u (pair.own t) k i j x y st e f)

  -- a gap below and an own gap are a gap of the layer
  pub gap_fits : (a b : T) (i g h : ℕ) → Stop m.stops i → Standing m i (pair.below a) → Standing m i (pair.below b) → m.gap (pair.below a) (pair.below b) ≡ Some g → o.behind (pair.own a) (pair.own b) ≡ Some h → (over pair m o).gap a b ≡ Some (g + h)
  gap_fits a b i g h stop p q e f =
      let small = sizes.gap_small (fewer_below m.tiers few) i (pair.below a) (pair.below b) g stop p q e in
      let little = own.behind_small (pair.own a) (pair.own b) h f in
      gap_from_parts pair m o a b g h e f (gap_sum_fits m.tiers g h few small little)
