-- Routes, their replay and their reduced cost.
use Rattle.std.specs.Prelude.{◌≡◌, ℕ, ◌<◌, List, [], ◌∷◌, length, ℤ, ◌+ℤ◌, Some, None, Option}
use Rattle.std.specs.List.{AllByRecursion}
use Rattle.stops.specs.Stops.{Stop}
use Rattle.tier.specs.Answers.{Answers}

-- a list of one or more of the stops 1 to n
abbrev pub Route : ℕ → List ℕ → Type 0
Route n r = (0 < length r) × AllByRecursion (Stop n) r

-- go on with what is there
abbrev pub and_then : {A B : Type 0} → Option A → (A → Option B) → Option B
and_then None f = None
and_then (Some a) f = f a

-- x more, if there is a sum
abbrev pub plus : ℤ → Option ℤ → Option ℤ
plus x None = None
plus x (Some y) = Some (x +ℤ y)

-- the charges from place i on: along the stops in order, then home; None if one of them is barred
abbrev pub replay_from : {S : Type 0} → Answers S → S → ℕ → List ℕ → Option ℤ
replay_from m s i [] = m.finish s i
replay_from m s i (j ∷ js) = and_then (m.reach s i j) (λ p. plus p.1 (replay_from m p.0 j js))

-- The replay of a route begins at start, reaches its stops in order and finishes. The reduced cost is the sum
-- of all charges; None: something is barred, and the route is not admitted.
abbrev pub reduced_cost : {S : Type 0} → Answers S → List ℕ → Option ℤ
reduced_cost m r = replay_from m m.start 0 r

-- nothing on the route is barred
abbrev pub Admitted : {S : Type 0} → Answers S → List ℕ → Type 0
Admitted m r = (c : ℤ) × (reduced_cost m r ≡ Some c)
