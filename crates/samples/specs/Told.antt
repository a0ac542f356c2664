-- What a sample tells, as an answer.
use Rattle.std.specs.Prelude.{List, ℕ, Ok, Err, Result}
use Rattle.std.specs.Borrow.{Bor}
use Rattle.calls.specs.Calls.{Answer, call_refused}
use Rattle.calls.specs.Refusals.{number}
use Rattle.calls.specs.declared.refusal.PriceRefusal.{PriceRefusal}
use Rattle.price.specs.declared.answer.Priced.{Priced}
use Rattle.price.specs.Prices.{counts, answer_of}

abbrev pub answer : Result (Priced (Bor (List ℕ))) PriceRefusal → Answer
answer (Ok p) = answer_of (λ (r : Bor (List ℕ)). r.now) p.lowest (counts p.counts)
answer (Err e) = call_refused (number e)
