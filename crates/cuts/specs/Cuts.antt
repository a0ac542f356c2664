-- Cuts, and what they add to a state, to charges and to gaps.
use Rattle.std.specs.Prelude.{ℕ, ◌^◌, Bool, cond, not, ◌&&◌, List, length, Some, slice_index_or}
use Rattle.stops.specs.Stops.{member, empty_set}
use Rattle.layer.specs.Owns.{Own}
use Rattle.cuts.specs.declared.bits.Bits.{Bits}
use Rattle.cuts.specs.declared.cut.Cut.{Cut}
use Rattle.cuts.specs.Bits.{stands, no_bits, bits_where, sum_below}

-- there are at most this many cuts
abbrev pub most_cuts : ℕ
most_cuts = 32

-- a penalty is at most this
abbrev pub most_penalty : ℕ
most_penalty = 2 ^ 30

-- ONE CUT

-- the bit on reaching j: it falls to 0 outside the memory
abbrev pub kept_bit : Cut → ℕ → Bool → Bool
kept_bit c j bit = member c.memory.word j && bit

-- the bit after reaching j: at the cut's own stops 0 becomes 1, and 1 becomes 0
abbrev pub next_bit : Cut → ℕ → Bool → Bool
next_bit c j bit = cond (member c.stops.word j) (not (kept_bit c j bit)) (kept_bit c j bit)

-- 1 becomes 0 at one of the cut's own stops
abbrev pub is_charged : Cut → ℕ → Bool → Bool
is_charged c j bit = member c.stops.word j && kept_bit c j bit

abbrev pub fee : Cut → ℕ → Bool → ℕ
fee c j bit = cond (is_charged c j bit) c.penalty 0

-- by how much a state with the first bit may do worse than one with the second
abbrev pub lag : Cut → Bool → Bool → ℕ
lag c a b = cond (a && not b) c.penalty 0

-- A TABLE OF CUTS

abbrev pub blank_cut : Cut
blank_cut = record { stops = record { word = empty_set }; memory = record { word = empty_set }; penalty = 0 }

-- cut k
abbrev pub cut_at : List Cut → ℕ → Cut
cut_at cs k = slice_index_or cs k blank_cut

-- the bits after reaching j; of what is no cut of the table they are 0
abbrev pub bits_after : List Cut → ℕ → Bits → Bits
bits_after cs j bits = bits_where (λ k. next_bit (cut_at cs k) j (stands bits k)) (length cs)

abbrev pub charge_at : List Cut → ℕ → Bits → ℕ
charge_at cs j bits = sum_below (λ k. fee (cut_at cs k) j (stands bits k)) (length cs)

abbrev pub gap_between : List Cut → Bits → Bits → ℕ
gap_between cs a b = sum_below (λ k. lag (cut_at cs k) (stands a k) (stands b k)) (length cs)

abbrev pub penalties_of : List Cut → ℕ
penalties_of cs = sum_below (λ k. (cut_at cs k).penalty) (length cs)

-- what a layer of cuts adds to a tier; it bars nothing, and every two states have a gap
abbrev pub cuts_own : List Cut → Own Bits
cuts_own cs = record {
  first = no_bits;
  step = λ j bits. Some (bits_after cs j bits, charge_at cs j bits);
  behind = λ a b. Some (gap_between cs a b);
  penalties = penalties_of cs;
}
