-- The floor fits the machine's word. Assumes nothing.
use Rattle.std.proofs.Common.{ℕ, suc, ◌*◌, ◌^◌, ◌≤◌, ℤ, pos, negsuc, ◌*ℤ◌, nat_abs, mul-le-mul_right, mul-le-mul_left, arith}
use lib.Signed.{lt_z}
use Rattle.std.specs.Int.{int_min}
use Rattle.std.proofs.lemmas.Int.{ints}
use Rattle.std.proofs.lemmas.Bool.{cond_both}

product : (x y a b : ℕ) → x ≤ a → y ≤ b → x * y ≤ a * b
product x y a b h k = let u = mul-le-mul_right y h in let v = mul-le-mul_left a k in omega arith

pub times_small : (v : ℕ) (z : ℤ) → v ≤ 60 → nat_abs z ≤ 2 ^ 50 → nat_abs (pos v *ℤ z) ≤ 60 * 2 ^ 50
times_small v (pos n) h k = let p = product v n 60 (2 ^ 50) h k in omega (arith, ints)
times_small v (negsuc n) h k = let p = product v (suc n) 60 (2 ^ 50) h k in omega (arith, ints)

pub lesser_small : (z : ℤ) (n : ℕ) → nat_abs z ≤ n → nat_abs (int_min (pos 0) z) ≤ n
lesser_small z n h = cond_both (lt_z z (pos 0)) z (pos 0) (λ x. nat_abs x ≤ n) (λ _. h) (λ _. omega arith)
