-- The numbers of the refusals of calls.
use Rattle.std.specs.Prelude.{ℕ, List, ◌++◌, codes, decimal}
use Rattle.tier.specs.Refusals.{number}
use Rattle.calls.specs.Refusals.{number as price_number}
use Rattle.sitting.specs.declared.refusal.CallRefusal.{CallRefusal}
use Rattle.sitting.specs.declared.refusal.CallRefusal.TheVariants.{Pile, Price}

abbrev pub number_of : CallRefusal → ℕ
number_of (Pile e) = number e
number_of (Price e) = price_number e

-- the words by which a refusal is told
abbrev pub refusal_words : CallRefusal → List ℕ
refusal_words e = codes "refused by " ++ decimal (number_of e)
