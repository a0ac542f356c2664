-- The two facts about arrivals on which the laws of Round rest. Assumes nothing.
use Rattle.std.specs.Prelude.{ℕ, ◌<◌, ◌≤◌, ◌≢◌}
use Rattle.std.proofs.Common.{arith}
use Rattle.book.specs.Books.{Contents}
use Rattle.book.proofs.Kept.{InRanges, leg_kept}
use Rattle.round.specs.Round.{arrival}

-- a later departure never arrives earlier
pub no_overtaking : (b : Contents) (i j t u : ℕ) → t ≤ u → arrival b i j t ≤ arrival b i j u
no_overtaking b i j t u h = omega arith

-- an arrival at another place is later than the departure
pub arrives_later : (b : Contents) → InRanges b → (i j t : ℕ) → j ≤ b.stops → (j ≢ i) → t < arrival b i j t
arrives_later b ok i j t to apart = let some = (leg_kept b ok i j to apart).some in omega arith
