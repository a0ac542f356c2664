-- The words by which it is told why a leg is barred.
use Rattle.std.specs.Prelude.{ℕ, List, ◌++◌, codes, decimal}
use Rattle.town.specs.declared.barred.Barred.{Barred}
use Rattle.town.specs.declared.barred.Barred.TheVariants.{NoLeg, TooFar, TooMany}

abbrev pub barred_words : Barred → List ℕ
barred_words NoLeg = codes "there is no such leg"
barred_words (TooFar minutes charge) = codes "the leg uses " ++ (decimal minutes ++ (codes ", " ++ (decimal charge ++ codes " are left")))
barred_words (TooMany made most) = codes "it would make " ++ (decimal made ++ (codes " stops, " ++ (decimal most ++ codes " are allowed")))
