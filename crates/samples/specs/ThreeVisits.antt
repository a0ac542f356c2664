-- Three visits with ties: equal costs, equal keys and equal totals, a strike, and places that just suffice. A price that
-- compares costs strictly, treats labels by number, tests the places before it strikes, prefers the later of equal
-- totals, or breaks ties of keys by the greatest number, answers something else.
use Rattle.std.specs.Prelude.{ℕ, false, pos, slice_set}
use Rattle.tier.specs.Answers.{Answers}
use Rattle.book.specs.Books.{Contents, opened, with_visit, with_leg}
use Rattle.book.specs.declared.parts.Leg.{Leg}
use Rattle.book.specs.declared.parts.Visit.{Visit}
use Rattle.duals.specs.Duals.{zero_duals}
use Rattle.duals.specs.Bottoms.{bottom_at}
use Rattle.round.specs.Round.{round}
use Rattle.round.specs.declared.state.RoundState.{RoundState}
use Rattle.labelling.specs.Labelling.{by_key}
use Rattle.calls.specs.Calls.{Answer, priced}

abbrev open_to : ℕ → Visit
open_to closes = record { opens = 0; closes = closes; load = 0; charger = false }

abbrev leg : ℕ → ℕ → Leg
leg cost minutes = record { cost = cost; minutes = minutes }

-- the legs from place i to the three others in order
abbrev legs_from : ℕ → ℕ → Leg → ℕ → Leg → ℕ → Leg → Contents → Contents
legs_from i a x b y c z book = with_leg (with_leg (with_leg book i a x) i b y) i c z

abbrev three_visits : Contents
three_visits =
    legs_from 0 1 (leg 2 2) 2 (leg 0 1) 3 (leg 3 1)
    (legs_from 1 0 (leg 2 3) 2 (leg 0 3) 3 (leg 0 2)
    (legs_from 2 0 (leg 1 2) 1 (leg 0 1) 3 (leg 1 2)
    (legs_from 3 0 (leg 1 1) 1 (leg 0 2) 2 (leg 0 1)
    (with_visit (with_visit (with_visit (opened 3 (record { vans = 2; capacity = 0; battery = 40; most = 4 }))
    1 (open_to 5)) 2 (open_to 4)) 3 (open_to 3)))))

-- Round over them, with the duals 1, 2 and 3
abbrev three_answers : Answers RoundState
three_answers = round.answers (bottom_at three_visits (slice_set (slice_set (slice_set zero_duals 1 (pos 1)) 2 (pos 2)) 3 (pos 3)))

-- a price for two vans in seven places
abbrev pub price_three : Answer
price_three = priced three_answers (by_key three_answers) 2 7 1440
