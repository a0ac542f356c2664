-- Options that are known, and sums that may be missing. Assumes nothing.
use Rattle.std.proofs.Common.{◌≡◌, ℤ, pos, ◌+ℤ◌, Some, None, Option, refl, ap, arith}
use Rattle.std.proofs.lemmas.Int.{ints}
use Rattle.tier.specs.Routes.{and_then, plus}

pub none_some : {A : Type 0} {x : A} → None ≡ Some x → ⊥
none_some e = cc

pub some_same : {A : Type 0} {x y : A} → Some x ≡ Some y → x ≡ y
some_same e = cc

-- what it says that there is something in the end
pub record Both {A B : Type 0} (o : Option A) (f : A → Option B) (b : B) : Type 0 where
  pub first : A
  pub is : o ≡ Some first
  pub then : f first ≡ Some b

pub and_then_some : {A B : Type 0} (o : Option A) (f : A → Option B) (b : B) → and_then o f ≡ Some b → Both o f b
and_then_some None f b e = absurd (none_some e)
and_then_some (Some a) f b e = record { first = a; is = refl; then = e }

-- a sum of x and something that is there
pub record More (x : ℤ) (o : Option ℤ) (z : ℤ) : Type 0 where
  pub rest : ℤ
  pub is : o ≡ Some rest
  pub sum : z ≡ x +ℤ rest

pub plus_some : (x z : ℤ) (o : Option ℤ) → plus x o ≡ Some z → More x o z
plus_some x z None e = absurd (none_some e)
plus_some x z (Some y) e = record { rest = y; is = refl; sum = let s = some_same e in omega (arith, ints) }

pub plus_zero : (o : Option ℤ) → o ≡ plus (pos 0) o
plus_zero None = refl
plus_zero (Some y) = ap Some (omega (arith, ints))

pub plus_plus : (x y : ℤ) (o : Option ℤ) → plus x (plus y o) ≡ plus (x +ℤ y) o
plus_plus x y None = refl
plus_plus x y (Some z) = ap Some (omega (arith, ints))
