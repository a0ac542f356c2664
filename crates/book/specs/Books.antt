-- What a book holds, and what each call makes of it.
use Rattle.std.specs.Prelude.{ℕ, ◌*◌, Bool, cond, not, ◌&&◌, List, replicate, ◌==◌, nat_le, slice_index_or, slice_set}
use Rattle.stops.specs.Stops.{most_places}
use Rattle.book.specs.Ranges.{between, visit_fits, leg_fits, blank_visit, blank_leg, leg_index}
use Rattle.book.specs.declared.parts.Fleet.{Fleet}
use Rattle.book.specs.declared.parts.Visit.{Visit}
use Rattle.book.specs.declared.parts.Leg.{Leg}
use Rattle.book.specs.declared.book.Book.{Book}

-- A book without the proofs that its numbers are in range. The visit of stop j stands at j, the leg from i to j
-- at i * 61 + j; every other place of the two tables is blank, so that books with the same deck are the same.
pub record Contents : Type 0 where
  pub stops : ℕ
  pub fleet : Fleet
  pub visits : List Visit
  pub legs : List Leg

abbrev pub contents : Book → Contents
contents b = record { stops = b.stops; fleet = b.fleet; visits = b.visits; legs = b.legs }

-- a stop of the book
abbrev pub is_stop : Contents → ℕ → Bool
is_stop b j = between 1 b.stops j

-- a stop of the book, or the depot
abbrev pub is_place : Contents → ℕ → Bool
is_place b j = nat_le j b.stops

-- from a place to a stop other than that place
abbrev pub can_go : Contents → ℕ → ℕ → Bool
can_go b i j = is_place b i && is_stop b j && not (i == j)

-- of a stop of the book
abbrev pub visit_at : Contents → ℕ → Visit
visit_at b j = slice_index_or b.visits j blank_visit

-- from a place to itself
abbrev pub no_leg : Leg
no_leg = record { cost = 0; minutes = 0 }

-- of two places of the book
abbrev pub leg_at : Contents → ℕ → ℕ → Leg
leg_at b i j = cond (i == j) no_leg (slice_index_or b.legs (leg_index i j) blank_leg)

-- MAKING A BOOK

-- the first line is read: nothing is said yet of the stops and the legs
abbrev pub opened : ℕ → Fleet → Contents
opened stops f = record { stops = stops; fleet = f; visits = replicate most_places blank_visit; legs = replicate (most_places * most_places) blank_leg }

-- the book without stops
abbrev pub empty_book : Contents
empty_book = opened 0 (record { vans = 0; capacity = 0; battery = 0; most = 0 })

abbrev pub can_put_visit : Contents → ℕ → Visit → Bool
can_put_visit b j v = is_stop b j && visit_fits v

abbrev pub with_visit : Contents → ℕ → Visit → Contents
with_visit b j v = record { stops = b.stops; fleet = b.fleet; visits = slice_set b.visits j v; legs = b.legs }

-- between different places a leg in its ranges, from a place to itself (0, 0)
abbrev pub can_put_leg : Contents → ℕ → ℕ → Leg → Bool
can_put_leg b i j l = is_place b i && is_place b j && cond (i == j) (l.cost == 0 && l.minutes == 0) (leg_fits l)

abbrev pub with_leg : Contents → ℕ → ℕ → Leg → Contents
with_leg b i j l = cond (i == j) b (record { stops = b.stops; fleet = b.fleet; visits = b.visits; legs = slice_set b.legs (leg_index i j) l })
