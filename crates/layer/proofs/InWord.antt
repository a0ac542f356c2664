-- Sums that stay within the word, and what a sum that is there says. Assumes nothing.
use Rattle.std.proofs.Common.{◌≡◌, ℕ, ◌+◌, ◌^◌, ◌≤◌, true, ltb, ℤ, pos, ◌+ℤ◌, ◌-ℤ◌, neg_ℤ, Some, None, sym, arith}
use lib.Signed.{le_z, lt_z}
use Rattle.std.proofs.lemmas.Bool.{cond-true, cond_both, lt-ltb, and_from}
use Rattle.std.proofs.lemmas.Int.{ints}
use Rattle.tier.specs.Laws.{Small, most_tiers}
use Rattle.tier.specs.Layers.{higher}
use Rattle.tier.proofs.Options.{none_some, some_same}
use Rattle.layer.specs.Sums.{in_word, charge_sum, gap_sum}
use Rattle.layer.specs.Owns.{most_own}

-- a sum that is there is the sum
pub charge_sum_some : (x z : ℤ) (own : ℕ) → charge_sum x own ≡ Some z → z ≡ x +ℤ pos own
charge_sum_some x z own = cond_both (in_word (x +ℤ pos own)) (Some (x +ℤ pos own)) None (λ o. o ≡ Some z → z ≡ x +ℤ pos own) (λ _ e. sym (some_same e)) (λ _ e. absurd (none_some e))

pub gap_sum_some : (g own w : ℕ) → gap_sum g own ≡ Some w → w ≡ g + own
gap_sum_some g own w = cond_both (ltb (g + own) (2 ^ 64)) (Some (g + own)) None (λ o. o ≡ Some w → w ≡ g + own) (λ _ e. sym (some_same e)) (λ _ e. absurd (none_some e))

-- below the fourth tier there is room in the word for the own charge
pub charge_sum_fits : (tiers : ℕ) (x : ℤ) (own : ℕ) → higher tiers ≤ most_tiers → Small tiers x → own ≤ most_own → charge_sum x own ≡ Some (x +ℤ pos own)
charge_sum_fits tiers x own few small little =
    let low : le_z (neg_ℤ (pos (2 ^ 63))) (x +ℤ pos own) ≡ true = grind (arith, ints) in
    let high : lt_z (x +ℤ pos own) (pos (2 ^ 63)) ≡ true = grind (arith, ints) in
    cond-true (in_word (x +ℤ pos own)) (Some (x +ℤ pos own)) None (and_from _ _ low high)

pub gap_sum_fits : (tiers g own : ℕ) → higher tiers ≤ most_tiers → Small tiers (pos g) → own ≤ most_own → gap_sum g own ≡ Some (g + own)
gap_sum_fits tiers g own few small little = cond-true (ltb (g + own) (2 ^ 64)) (Some (g + own)) None (lt-ltb (g + own) (2 ^ 64) (omega arith))

-- an own part makes a sum one tier larger at most
pub small_sum : (tiers : ℕ) (x : ℤ) (own : ℕ) → higher tiers ≤ most_tiers → Small tiers x → own ≤ most_own → Small (higher tiers) (x +ℤ pos own)
small_sum tiers x own few small little = omega (arith, ints)

pub small_less : (tiers : ℕ) (x : ℤ) (own : ℕ) → higher tiers ≤ most_tiers → Small tiers x → own ≤ most_own → Small (higher tiers) (x -ℤ pos own)
small_less tiers x own few small little = omega (arith, ints)
