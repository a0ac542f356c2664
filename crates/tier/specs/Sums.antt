-- Sums over the stops of a route, over the routes of a plan, and over the stops 1 to n.
use Rattle.std.specs.Prelude.{ℕ, zero, suc, List, [], ◌∷◌, ℤ, pos, ◌+ℤ◌}

-- f 1 + .. + f n
abbrev pub sum_to : (ℕ → ℤ) → ℕ → ℤ
sum_to f zero = pos 0
sum_to f (suc n) = sum_to f n +ℤ f (suc n)

-- over the stops of a route, each as often as it stands there
abbrev pub sum_over : (ℕ → ℤ) → List ℕ → ℤ
sum_over f [] = pos 0
sum_over f (j ∷ js) = f j +ℤ sum_over f js

-- over routes
abbrev pub sum_routes : (List ℕ → ℤ) → List (List ℕ) → ℤ
sum_routes w [] = pos 0
sum_routes w (r ∷ rs) = w r +ℤ sum_routes w rs
