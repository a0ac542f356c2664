-- The sum of the duals, and its size. Assumes nothing.
use Rattle.std.proofs.Common.{◌≡◌, ℕ, zero, suc, ◌+◌, ◌*◌, ◌≤◌, List, ℤ, ◌+ℤ◌, nat_abs, refl, arith, add-one}
use Rattle.std.proofs.lemmas.Int.{ints}
use Rattle.tier.specs.Sums.{sum_to}
use Rattle.duals.specs.Duals.{DualsInRange, most_dual, sum_of_duals}

-- one stop more
pub sum_more : (f : ℕ → ℤ) (k : ℕ) → sum_to f (k + 1) ≡ sum_to f k +ℤ f (k + 1)
sum_more f k = simp add-one refl

pub sum_small : (duals : List ℤ) (n : ℕ) → DualsInRange duals → nat_abs (sum_of_duals duals n) ≤ n * most_dual
sum_small duals zero h = omega arith
sum_small duals (suc n) h =
    let l = sum_small duals n h in
    let r = h (suc n) in
    omega (arith, ints)
