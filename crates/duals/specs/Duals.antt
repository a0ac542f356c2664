-- The duals of a bottom: one signed amount for each stop.
use Rattle.std.specs.Prelude.{ℕ, ◌^◌, ◌≤◌, cond, ◌&&◌, List, replicate, ℤ, pos, ◌==◌, nat_le, slice_index_or, slice_set, unsigned_abs}
use Rattle.stops.specs.Stops.{most_places}
use Rattle.tier.specs.Meaning.{Outcome, taken, refused}
use Rattle.tier.specs.Refusals.{number}
use Rattle.tier.specs.Sums.{sum_to}
use Rattle.tier.specs.declared.refusal.Refusal.TheVariants.{NoSuchTier, NotAtThisTier, NoSuchIndex, BadAmount}

-- a dual is at most this in size
abbrev pub most_dual : ℕ
most_dual = 2 ^ 30

-- a table of 61 places, in which the dual of stop j stands at j
abbrev pub dual_of : List ℤ → ℕ → ℤ
dual_of duals j = slice_index_or duals j (pos 0)

abbrev pub DualsInRange : List ℤ → Type 0
DualsInRange duals = (j : ℕ) → unsigned_abs (dual_of duals j) ≤ most_dual

-- duals start at 0
abbrev pub zero_duals : List ℤ
zero_duals = replicate most_places (pos 0)

-- the credit of a bottom over n stops
abbrev pub sum_of_duals : List ℤ → ℕ → ℤ
sum_of_duals duals n = sum_to (dual_of duals) n

-- A bottom's set puts the dual of stop `index`, 1 to n, at the amount. It refuses, in this order, a tier other
-- than 1, an index that is no stop, and an amount out of range.
abbrev pub set_dual : ℕ → List ℤ → ℕ → ℕ → ℤ → Outcome (List ℤ)
set_dual n duals tier index amount =
    cond (tier == 1)
    (cond (nat_le 1 index && nat_le index n)
    (cond (nat_le (unsigned_abs amount) most_dual) (taken (slice_set duals index amount))
    (refused (number BadAmount)))
    (refused (number NoSuchIndex)))
    (refused (number NoSuchTier))

-- a bottom takes no tighten: it refuses a tier other than 1, and else the call itself
abbrev pub tighten_refusal : ℕ → ℕ
tighten_refusal tier = cond (tier == 1) (number NotAtThisTier) (number NoSuchTier)
