-- Stops are the numbers 1 to n; place 0 is the depot. A set of stops is one number, whose bit j stands for stop j.
use Rattle.std.specs.Prelude.{ℕ, zero, suc, ◌+◌, ◌/◌, ◌%◌, ◌^◌, ◌<◌, ◌≤◌, Bool, cond, ◌&&◌, ◌==◌, bit_and, bit_or, nat_lt}

-- n is at most this
abbrev pub most_stops : ℕ
most_stops = 60

-- the depot and the stops together are at most this many
abbrev pub most_places : ℕ
most_places = most_stops + 1

-- the greatest number that a set can have for a member
abbrev pub most_member : ℕ
most_member = 63

-- j is one of the stops 1 to n
abbrev pub Stop : ℕ → ℕ → Type 0
Stop n j = (0 < j) × (j ≤ n)

-- SETS OF STOPS

-- j is a member of the set
abbrev pub member : ℕ → ℕ → Bool
member set j = (set / 2 ^ j % 2) == 1

abbrev pub empty_set : ℕ
empty_set = 0

-- j alone
abbrev pub just : ℕ → ℕ
just j = 2 ^ j

-- the members of both
abbrev pub common : ℕ → ℕ → ℕ
common a b = bit_and a b

-- the members of either
abbrev pub joined : ℕ → ℕ → ℕ
joined a b = bit_or a b

-- every member of a is one of b
abbrev pub within : ℕ → ℕ → Bool
within a b = bit_and a b == a

-- every member is one of the stops 1 to n
abbrev pub all_stops : ℕ → ℕ → Bool
all_stops n set = (set % 2) == 0 && nat_lt set (2 ^ (n + 1))

-- how many of 1 to n have the property
abbrev pub count_to : (ℕ → Bool) → ℕ → ℕ
count_to p zero = 0
count_to p (suc n) = count_to p n + cond (p (suc n)) 1 0
