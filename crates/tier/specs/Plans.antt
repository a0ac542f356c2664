-- Plans: routes that together visit every stop exactly once.
use Rattle.std.specs.Prelude.{◌≡◌, ℕ, ◌+◌, ◌≤◌, List, [], ◌∷◌, length, ℤ, pos, Some, count_by, Option, nat_eq}
use Rattle.std.specs.List.{AllByRecursion}
use Rattle.stops.specs.Stops.{Stop}
use Rattle.tier.specs.Routes.{Route, and_then, plus}

-- how often the routes together visit j
abbrev pub visits : ℕ → List (List ℕ) → ℕ
visits j [] = 0
visits j (r ∷ rs) = count_by (nat_eq j) r + visits j rs

-- the sum of a cost over routes; None if one of them has none
abbrev pub total : (List ℕ → Option ℤ) → List (List ℕ) → Option ℤ
total f [] = Some (pos 0)
total f (r ∷ rs) = and_then (f r) (λ x. plus x (total f rs))

-- A plan over n stops: at most `vans` routes, each admitted by the ground, that together visit every stop
-- exactly once. The ground gives the leg costs of a route that can be driven, the way home included; `cost` is
-- what the routes cost together.
pub record Plan (n : ℕ) (ground_of : List ℕ → Option ℤ) (vans : ℕ) (rs : List (List ℕ)) (cost : ℤ) : Type 0 where
  pub routes : AllByRecursion (Route n) rs
  pub few : length rs ≤ vans
  pub once : (j : ℕ) → Stop n j → visits j rs ≡ 1
  pub costs : total ground_of rs ≡ Some cost
