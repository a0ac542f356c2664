-- The limits of a deck's numbers, each by name. The code has the same numbers as constants in src/limits.rt, and
-- is proved against these; a capacity and a load have 16 bits, and so no test. (The most stops are a limit of
-- sets of stops too, and stand there.)
use Rattle.std.specs.Prelude.{ℕ, ◌^◌}

abbrev pub most_vans : ℕ
most_vans = 60

abbrev pub most_capacity : ℕ
most_capacity = 65535

abbrev pub most_load : ℕ
most_load = 65535

abbrev pub most_battery : ℕ
most_battery = 1440

-- of the number of stops that a van with a battery makes
abbrev pub most_made : ℕ
most_made = 100

-- of a window
abbrev pub last_minute : ℕ
last_minute = 1440

-- of a leg
abbrev pub most_minutes : ℕ
most_minutes = 1440

-- of a leg, in mils
abbrev pub most_cost : ℕ
most_cost = 2 ^ 30
