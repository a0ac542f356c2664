-- How far labelling has come, by the store and the progress.
use Rattle.std.specs.Prelude.{ℕ, ◌^◌, ◌≤◌, Bool, cond, List, ℤ, Some, None, Option, int_lt, unsigned_abs, ◌++◌, codes, decimal}
use Rattle.tier.specs.Answers.{Answers, Standing}
use Rattle.tier.specs.Laws.{most_tiers}
use Rattle.store.specs.Works.{Work}
use Rattle.price.specs.declared.label.Label.{Label as Cell}
use Rattle.price.specs.declared.progress.Counts.{Counts}
use Rattle.price.specs.declared.progress.Progress.{Progress}

-- the words by which counts are told
abbrev pub counts_words : Counts → List ℕ
counts_words c = decimal c.kept ++ (codes " kept, " ++ (decimal c.struck ++ (codes " struck, " ++ (decimal c.turned ++ codes " turned away"))))

abbrev pub work : {S : Type 0} → List (Cell S) → Progress → Work (Cell S)
work cells p = record { cells = cells; best = p.best; kept = p.counts.kept; struck = p.counts.struck; turned = p.counts.turned }

-- the root alone is kept
abbrev pub at_first : Progress
at_first = record { best = None; counts = record { kept = 1; struck = 0; turned = 0 } }

-- None: the places did not suffice
abbrev pub outcome : {S : Type 0} → Bool → List (Cell S) → Progress → Option (Work (Cell S))
outcome ok cells p = cond ok (Some (work cells p)) None

-- no count passes n
pub record Few (n : ℕ) (p : Progress) : Type 0 where
  pub kept : p.counts.kept ≤ n
  pub struck : p.counts.struck ≤ n
  pub turned : p.counts.turned ≤ n

-- A label that can be treated in the machine's words: it stands at its stop, and its cost leaves room for a charge.
pub record Sound {S : Type 0} (m : Answers S) (c : Cell S) : Type 0 where
  pub few_tiers : m.tiers ≤ most_tiers
  pub stands : Standing m c.stop c.state
  pub small : unsigned_abs c.cost ≤ 2 ^ 50

-- the lower of a new total and the best so far; of equal totals the earlier stays
abbrev pub lower : ℤ → ℕ → Option (ℤ × ℕ) → Option (ℤ × ℕ)
lower z i None = Some (z, i)
lower z i (Some b) = cond (int_lt z b.0) (Some (z, i)) (Some b)
