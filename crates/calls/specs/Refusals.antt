-- The numbers of the refusals of a price.
use Rattle.std.specs.Prelude.{ℕ, List, ◌++◌, codes, decimal, Some, None, Ok, Err, Option, Result}
use Rattle.calls.specs.declared.refusal.PriceRefusal.{PriceRefusal}
use Rattle.calls.specs.declared.refusal.PriceRefusal.TheVariants.{TooManyTiers, BadVans, BadPlaces, ShortRow, StoreFull}

abbrev pub number : PriceRefusal → ℕ
number TooManyTiers = 1
number BadVans = 2
number BadPlaces = 3
number ShortRow = 4
number StoreFull = 5

-- the words by which a refusal is told
abbrev pub refusal_words : PriceRefusal → List ℕ
refusal_words e = codes "refused by " ++ decimal (number e)

-- the number of a refusal, if there is one
abbrev pub refusal : Result (Unit {0}) PriceRefusal → Option ℕ
refusal (Ok u) = None
refusal (Err e) = Some (number e)
