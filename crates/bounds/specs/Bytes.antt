-- How the openings and closings of lines and items are written.
use Rattle.std.specs.Prelude.{ℕ, List, ◌++◌, codes, decimal}
use Rattle.words.specs.declared.vocabulary.Keyword.{Keyword}
use Rattle.words.specs.Vocabulary.{spelt}

abbrev pub line_start : Keyword → List ℕ
line_start line = codes "(" ++ spelt line

abbrev pub numbered_start : Keyword → ℕ → List ℕ
numbered_start line n = line_start line ++ (codes " " ++ decimal n)

abbrev pub item_start : Keyword → List ℕ
item_start item = codes " (" ++ (spelt item ++ codes " ")

abbrev pub line_end : List ℕ
line_end = codes ")\n"
