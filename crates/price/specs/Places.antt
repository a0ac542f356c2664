-- Which places of a store can hold labels.
use Rattle.std.specs.Prelude.{◌≡◌, ℕ, ◌+◌, ◌≤◌, Bool, cond, ◌&&◌, List, [], ◌∷◌, length, drop, Some, None, Option}
use Rattle.std.specs.List.{AllByRecursion}
use Rattle.tier.specs.Answers.{Answers}
use Rattle.labelling.specs.Labelling.{covers}
use Rattle.price.specs.declared.label.Label.{Label as Cell}
use Rattle.price.specs.Labels.{blank, view, is_live}

-- the places from `used` on are blank
pub record Unused {S : Type 0} (start : S) (used : ℕ) (cells : List (Cell S)) : Type 0 where
  pub within : used ≤ length cells
  pub rest : AllByRecursion (λ c. c ≡ blank start) (drop used cells)

-- k is live, and covers l
abbrev pub blocks : {S : Type 0} → Answers S → Cell S → Cell S → Bool
blocks m l k = is_live k.status && covers m (view k) (view l)

-- the first place without a live label; i is the place of the list's first element
abbrev pub first_free : {S : Type 0} → ℕ → List (Cell S) → Option ℕ
first_free i [] = None
first_free i (c ∷ cs) = cond (is_live c.status) (first_free (i + 1) cs) (Some i)
