-- The numbers of the refusals of set and tighten, and what a call did.
use Rattle.std.specs.Prelude.{◌≡◌, ℕ, Ok, Err, Result}
use Rattle.tier.specs.Meaning.{Outcome, taken, refused}
use Rattle.tier.specs.declared.refusal.Refusal.{Refusal}
use Rattle.tier.specs.declared.refusal.Refusal.TheVariants.{NoSuchTier, NotAtThisTier, NoSuchIndex, BadAmount, BadMembers, TableFull}

abbrev pub number : Refusal → ℕ
number NoSuchTier = 6
number NotAtThisTier = 7
number NoSuchIndex = 8
number BadAmount = 9
number BadMembers = 10
number TableFull = 11

-- What a call did, by what it gives, the value before, the result and the value after: taken, and the value
-- after is the one given; or refused by the number given, and the value is as before.
abbrev pub Did : {V : Type 0} → Outcome V → V → Result (Unit {0}) Refusal → V → Type 0
Did (taken w) before (Ok _) after = after ≡ w
Did (taken w) before (Err _) after = ⊥
Did (refused n) before (Ok _) after = ⊥
Did (refused n) before (Err e) after = (number e ≡ n) × (after ≡ before)
