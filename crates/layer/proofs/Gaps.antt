-- A layer keeps the laws of gaps: the gap below and the own gap add up. Assumes nothing.
use Rattle.std.proofs.Common.{◌≡◌, ℕ, ◌+◌, ◌≤◌, ℤ, pos, ◌+ℤ◌, Some, arith}
use Rattle.std.proofs.lemmas.Int.{ints}
use Rattle.stops.specs.Stops.{Stop}
use Rattle.tier.specs.Answers.{Answers, Standing, reached}
use Rattle.tier.specs.Laws.{Interface, GapWithin, ReachesWithin, FinishesWithin, GapLaws, SizeLaws, most_tiers}
use Rattle.tier.specs.Layers.{higher}
use Rattle.layer.specs.Owns.{Own, OwnLaws}
use Rattle.layer.specs.Layers.{Pairing, over}
use Rattle.layer.proofs.Parts.{step_parts, gap_parts, lower}
use Rattle.layer.proofs.Fits.{step_fits, gap_fits}

module _ {S M T : Type 0} (pair : Pairing S M T) (m : Answers S) (o : Own M) (few : higher m.tiers ≤ most_tiers) (sizes : SizeLaws m) (own : OwnLaws m.stops o) where
  -- the gap from a joined state
  gap_from_join : (s : S) (k : M) (t : T) (i g h : ℕ) → Stop m.stops i → Standing m i s → Standing m i (pair.below t) → m.gap s (pair.below t) ≡ Some g → o.behind k (pair.own t) ≡ Some h → (over pair m o).gap (pair.join s k) t ≡ Some (g + h)
  gap_from_join s k t i g h stop p q e f =
      let same = pair.below_join s k in
      gap_fits pair m o few sizes own (pair.join s k) t i g h stop (rw same p) q (rw same e) (rw (pair.own_join s k) f)

  module _ (interface : Interface m) (gaps : GapLaws m) where
    gap_to_itself : (i : ℕ) (a : T) → Stop m.stops i → Standing (over pair m o) i a → (over pair m o).gap a a ≡ Some 0
    gap_to_itself i a stop p =
        let low = lower pair m o p in
        gap_fits pair m o few sizes own a a i 0 0 stop low low (gaps.gap_to_itself i (pair.below a) stop low) (own.behind_itself (pair.own a))

    gap_through : (i : ℕ) (a b c : T) (g h : ℕ) → Stop m.stops i → Standing (over pair m o) i a → Standing (over pair m o) i b → Standing (over pair m o) i c → (over pair m o).gap a b ≡ Some g → (over pair m o).gap b c ≡ Some h → GapWithin (over pair m o) a c (g + h)
    gap_through i a b c g h stop p q r e f =
        let low_a = lower pair m o p in
        let low_c = lower pair m o r in
        let x = gap_parts pair m o a b g e in
        let y = gap_parts pair m o b c h f in
        let under = gaps.gap_through i (pair.below a) (pair.below b) (pair.below c) x.width y.width stop low_a (lower pair m o q) low_c x.below_gap y.below_gap in
        let mine = own.behind_through (pair.own a) (pair.own b) (pair.own c) x.own_width y.own_width x.own_behind y.own_behind in
        record {
          width = under.width + mine.width;
          present = gap_fits pair m o few sizes own a c i under.width mine.width stop low_a low_c under.present mine.present;
          small = omega arith;
        }

    reach_follows : (i j : ℕ) (a b t : T) (g : ℕ) (y : ℤ) → Stop m.stops i → Standing (over pair m o) i a → Standing (over pair m o) i b → (over pair m o).gap a b ≡ Some g → (over pair m o).reach b i j ≡ Some (t, y) → ReachesWithin (over pair m o) i j a t (y +ℤ pos g)
    reach_follows i j a b t g y stop p q e f =
        let low_a = lower pair m o p in
        let low_b = lower pair m o q in
        let x = gap_parts pair m o a b g e in
        let z = step_parts pair m o b t i j y f in
        let under = gaps.reach_follows i j (pair.below a) (pair.below b) (pair.below t) x.width z.charge stop low_a low_b x.below_gap z.below_reaches in
        let mine = own.step_follows j (pair.own a) (pair.own b) (pair.own t) x.own_width z.own_charge x.own_behind z.own_steps in
        let to = (interface.reach_is_leg (pair.below b) (pair.below t) i j z.charge z.below_reaches).to in
        let next_stands = reached j under.next under.charge low_a under.reaches in
        let t_stands = reached j (pair.below t) z.charge low_b z.below_reaches in
        record {
          next = pair.join under.next mine.next;
          charge = under.charge +ℤ pos mine.charge;
          reaches = step_fits pair m o few sizes own a under.next mine.next i j under.charge mine.charge low_a under.reaches mine.steps;
          width = under.width + mine.width;
          present = gap_from_join under.next mine.next t j under.width mine.width to next_stands t_stands under.present mine.present;
          small = let s = under.small in let u = mine.small in let v = x.sum in let w = z.sum in omega (arith, ints);
        }

    finish_follows : (i : ℕ) (a b : T) (g : ℕ) (y : ℤ) → Stop m.stops i → Standing (over pair m o) i a → Standing (over pair m o) i b → (over pair m o).gap a b ≡ Some g → (over pair m o).finish b i ≡ Some y → FinishesWithin (over pair m o) i a (y +ℤ pos g)
    finish_follows i a b g y stop p q e f =
        let x = gap_parts pair m o a b g e in
        let under = gaps.finish_follows i (pair.below a) (pair.below b) x.width y stop (lower pair m o p) (lower pair m o q) x.below_gap f in
        record { charge = under.charge; finishes = under.finishes; small = let s = under.small in let v = x.sum in omega (arith, ints) }

    pub over_gaps : GapLaws (over pair m o)
    over_gaps = record { gap_to_itself = gap_to_itself; gap_through = gap_through; reach_follows = reach_follows; finish_follows = finish_follows }
