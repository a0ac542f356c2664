-- The words by which it is told why a leg is barred.
use Rattle.std.specs.Prelude.{ℕ, List, ◌++◌, codes, decimal}
use Rattle.round.specs.declared.state.Barred.{Barred}
use Rattle.round.specs.declared.state.Barred.TheVariants.{NoLeg, TooLate, TooHeavy}

abbrev pub barred_words : Barred → List ℕ
barred_words NoLeg = codes "there is no such leg"
barred_words (TooLate arrival closes) = codes "arrives at " ++ (decimal arrival ++ (codes ", the window closes at " ++ decimal closes))
barred_words (TooHeavy load capacity) = codes "the load would be " ++ (decimal load ++ (codes ", the van carries " ++ decimal capacity))
