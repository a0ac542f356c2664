-- The bits that cuts add to a state, and sums over cuts.
use Rattle.std.specs.Prelude.{ℕ, zero, suc, ◌+◌, Bool, cond}
use Rattle.stops.specs.Stops.{member, empty_set, just, joined}
use Rattle.cuts.specs.declared.bits.Bits.{Bits}

-- the bit of cut k is 1
abbrev pub stands : Bits → ℕ → Bool
stands bits k = member bits.word k

abbrev pub no_bits : Bits
no_bits = record { word = empty_set }

abbrev pub with_bit : Bits → ℕ → Bits
with_bit bits k = record { word = joined bits.word (just k) }

-- 1 for the numbers below n that pass the test, 0 for all others
abbrev pub bits_where : (ℕ → Bool) → ℕ → Bits
bits_where p zero = no_bits
bits_where p (suc n) = cond (p n) (with_bit (bits_where p n) n) (bits_where p n)

-- f 0 + .. + f (n - 1)
abbrev pub sum_below : (ℕ → ℕ) → ℕ → ℕ
sum_below f zero = 0
sum_below f (suc n) = sum_below f n + f n
