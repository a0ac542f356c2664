-- Two visits whose windows both open at minute zero, as a book, and what a price of them answers by the definition.
use Rattle.std.specs.Prelude.{ℕ, true, false, ℤ, slice_set}
use Rattle.tier.specs.Answers.{Answers}
use Rattle.book.specs.Books.{Contents, opened, with_visit, with_leg}
use Rattle.book.specs.declared.parts.Leg.{Leg}
use Rattle.duals.specs.Duals.{zero_duals}
use Rattle.duals.specs.Bottoms.{bottom_at}
use Rattle.round.specs.Round.{round}
use Rattle.round.specs.declared.state.RoundState.{RoundState}
use Rattle.labelling.specs.Labelling.{by_key}
use Rattle.calls.specs.Calls.{Answer, priced}

abbrev leg : ℕ → ℕ → Leg
leg cost minutes = record { cost = cost; minutes = minutes }

-- the same both ways
abbrev both_ways : ℕ → ℕ → Leg → Contents → Contents
both_ways i j l b = with_leg (with_leg b i j l) j i l

-- with vans that carry this
abbrev pub two_visits : ℕ → Contents
two_visits capacity =
    both_ways 0 1 (leg 10 5) (both_ways 0 2 (leg 12 6) (both_ways 1 2 (leg 4 3)
    (with_visit (with_visit (opened 2 (record { vans = 2; capacity = capacity; battery = 40; most = 4 }))
    1 (record { opens = 0; closes = 10; load = 2; charger = false }))
    2 (record { opens = 0; closes = 20; load = 3; charger = true }))))

-- Round over them, with these duals of stops 1 and 2
abbrev pub two_answers : ℕ → ℤ → ℤ → Answers RoundState
two_answers capacity first second = round.answers (bottom_at (two_visits capacity) (slice_set (slice_set zero_duals 1 first) 2 second))

-- a price for two vans
abbrev pub price_two : ℕ → ℤ → ℤ → ℕ → Answer
price_two capacity first second places = priced (two_answers capacity first second) (by_key (two_answers capacity first second)) 2 places 1440
