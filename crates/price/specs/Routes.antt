-- The way to a label, read off its parents' places.
use Rattle.std.specs.Prelude.{◌≡◌, ℕ, zero, suc, ◌<◌, List, [], ◌∷◌, ◌++◌, length, Some, None, Option}
use Rattle.price.specs.declared.label.Label.{Label as Cell}
use Rattle.price.specs.declared.label.Parent.{Parent}

-- the element at i, if there is one
abbrev pub lookup : {X : Type 0} → List X → ℕ → Option X
lookup [] i = None
lookup (x ∷ xs) zero = Some x
lookup (x ∷ xs) (suc i) = lookup xs i

abbrev pub after_parent : (ℕ → List ℕ) → ℕ → Option Parent → List ℕ
after_parent way stop None = []
after_parent way stop (Some p) = way p.place ++ stop ∷ []

abbrev pub way_of : {S : Type 0} → (ℕ → List ℕ) → Option (Cell S) → List ℕ
way_of way None = []
way_of way (Some c) = after_parent way c.stop c.parent

-- the stops from the depot to the label at i, by so many steps at most
abbrev pub way_in : {S : Type 0} → ℕ → List (Cell S) → ℕ → List ℕ
way_in zero cells i = []
way_in (suc f) cells i = way_of (way_in f cells) (lookup cells i)

abbrev pub number_in : {S : Type 0} → Option (Cell S) → ℕ
number_in None = 0
number_in (Some c) = c.number

-- A parent's number is less than its child's, so the number of the label is enough of a measure.
abbrev pub way_back : {S : Type 0} → List (Cell S) → ℕ → List ℕ
way_back cells i = way_in (number_in (lookup cells i)) cells i

-- each parent has a place, and a lesser number
abbrev pub FallsBack : {S : Type 0} → List (Cell S) → Type 0
FallsBack {S} cells = (i : ℕ) (c : Cell S) (p : Parent) → lookup cells i ≡ Some c → c.parent ≡ Some p → (q : Cell S) × (lookup cells p.place ≡ Some q) × (p.place < length cells) × (q.number < c.number)
