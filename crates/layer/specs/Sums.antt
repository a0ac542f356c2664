-- Sums that stay within a machine word. No standing state of a lawful pile leaves it; a state that nobody reaches may.
use Rattle.std.specs.Prelude.{ℕ, ◌+◌, ◌^◌, Bool, cond, ◌&&◌, ℤ, pos, ◌+ℤ◌, neg_ℤ, Some, None, Option, int_le, int_lt, nat_lt}

-- a signed word of 64 bits holds it
abbrev pub in_word : ℤ → Bool
in_word z = int_le (neg_ℤ (pos (2 ^ 63))) z && int_lt z (pos (2 ^ 63))

-- a charge below with the layer's own; outside the word it is barred
abbrev pub charge_sum : ℤ → ℕ → Option ℤ
charge_sum x own = cond (in_word (x +ℤ pos own)) (Some (x +ℤ pos own)) None

-- a gap below with the layer's own; outside the word it is absent
abbrev pub gap_sum : ℕ → ℕ → Option ℕ
gap_sum g own = cond (nat_lt (g + own) (2 ^ 64)) (Some (g + own)) None
