-- The code's calls and answers, read as those of the definition.
use Rattle.std.specs.Prelude.{Ok, Err, vec_items, Result}
use Rattle.tier.specs.Refusals.{number}
use Rattle.tier.specs.declared.refusal.Refusal.{Refusal}
use Rattle.price.specs.Prices.{counts, answer_of}
use Rattle.calls.specs.Calls.{Call, set, tighten, price, Answer, call_taken, call_refused}
use Rattle.sitting.specs.declared.refusal.CallRefusal.{CallRefusal}
use Rattle.sitting.specs.declared.told.Call.{Call as CodeCall}
use Rattle.sitting.specs.declared.told.Call.TheVariants.{Set, Tighten, Price}
use Rattle.sitting.specs.declared.told.Done.{Done}
use Rattle.sitting.specs.declared.told.Done.TheVariants.{Taken, Priced}
use Rattle.sitting.specs.Refusals.{number_of}

abbrev pub called : CodeCall → Call
called (Set tier index amount) = set tier index amount
called (Tighten tier index members amount) = tighten tier index members.word amount
called (Price places row) = price places row

abbrev pub meant : Result Done CallRefusal → Answer
meant (Ok Taken) = call_taken
meant (Ok (Priced p)) = answer_of vec_items p.lowest (counts p.counts)
meant (Err e) = call_refused (number_of e)

-- what a set or tighten answers
abbrev pub judged : Result (Unit {0}) Refusal → Answer
judged (Ok u) = call_taken
judged (Err e) = call_refused (number e)
