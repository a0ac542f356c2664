-- The ranges of a book's numbers.
use Rattle.std.specs.Prelude.{◌≡◌, ℕ, ◌+◌, ◌*◌, Bool, true, false, cond, not, ◌&&◌, List, ◌==◌, nat_le, nat_lt, slice_index_or}
use Rattle.stops.specs.Stops.{most_stops, most_places}
use Rattle.book.specs.Limits.{most_vans, most_capacity, most_load, most_battery, most_made, last_minute, most_minutes, most_cost}
use Rattle.book.specs.declared.parts.Fleet.{Fleet}
use Rattle.book.specs.declared.parts.Visit.{Visit}
use Rattle.book.specs.declared.parts.Leg.{Leg}

-- least ≤ n ≤ most
abbrev pub between : ℕ → ℕ → ℕ → Bool
between least most n = nat_le least n && nat_le n most

-- the numbers of a deck's first line: 1 to 60 stops, and what the fleet has
abbrev pub fleet_fits : ℕ → Fleet → Bool
fleet_fits stops f = between 1 most_stops stops && between 1 most_vans f.vans && between 0 most_capacity f.capacity && between 1 most_battery f.battery && between 1 most_made f.most

-- a window opens no later than it closes, within the day
abbrev pub visit_fits : Visit → Bool
visit_fits v = nat_le v.opens v.closes && nat_le v.closes last_minute && between 0 most_load v.load

-- a leg between two different places
abbrev pub leg_fits : Leg → Bool
leg_fits l = between 0 most_cost l.cost && between 1 most_minutes l.minutes

-- WHAT STANDS WHERE NOTHING WAS SAID

-- the book without stops says nothing of a fleet
abbrev pub fleet_blank : Fleet → Bool
fleet_blank f = f.vans == 0 && f.capacity == 0 && f.battery == 0 && f.most == 0

abbrev pub blank_visit : Visit
blank_visit = record { opens = 0; closes = 0; load = 0; charger = false }

abbrev pub visit_blank : Visit → Bool
visit_blank v = v.opens == 0 && v.closes == 0 && v.load == 0 && not v.charger

abbrev pub blank_leg : Leg
blank_leg = record { cost = 0; minutes = 1 }

abbrev pub leg_blank : Leg → Bool
leg_blank l = l.cost == 0 && l.minutes == 1

-- WHAT A BOOK KEEPS

-- of a deck's first line, or of no deck
abbrev pub fleet_ok : ℕ → Fleet → Bool
fleet_ok stops f = cond (stops == 0) (fleet_blank f) (fleet_fits stops f)

-- in range at a stop, blank elsewhere
abbrev pub visit_ok : ℕ → ℕ → Visit → Bool
visit_ok stops j v = cond (between 1 stops j) (visit_fits v) (visit_blank v)

-- from one of the places 0 to n to another
abbrev pub apart : ℕ → ℕ → ℕ → Bool
apart stops i j = nat_le i stops && nat_le j stops && not (i == j)

-- in range between two different places, blank elsewhere in the table
abbrev pub leg_ok : ℕ → ℕ → ℕ → Leg → Bool
leg_ok stops i j l = cond (apart stops i j) (leg_fits l) (cond (nat_lt j most_places) (leg_blank l) true)

-- the leg from i to j stands here in the table
abbrev pub leg_index : ℕ → ℕ → ℕ
leg_index i j = i * most_places + j

abbrev pub VisitsOk : ℕ → List Visit → Type 0
VisitsOk stops visits = (j : ℕ) → visit_ok stops j (slice_index_or visits j blank_visit) ≡ true

abbrev pub LegsOk : ℕ → List Leg → Type 0
LegsOk stops legs = (i j : ℕ) → leg_ok stops i j (slice_index_or legs (leg_index i j) blank_leg) ≡ true
