-- The lines of a deck: one form a line, its items in this order, each number in its range.
use Rattle.std.specs.Prelude.{ℕ, suc, Bool, cond, Ok, Err, Result, ◌==◌}
use Rattle.stops.specs.Stops.{most_stops}
use Rattle.text.specs.Readers.{Reader, and_then, give, repeated}
use Rattle.words.specs.declared.vocabulary.Keyword.{Keyword}
use Rattle.words.specs.declared.vocabulary.Keyword.TheVariants.{Deck, Stops, Vans, Capacity, Battery, Most, Stop, Window, Load, Charger, Legs, End}
use Rattle.text.specs.declared.token.Mark.TheVariants.{Close, Blank}
use Rattle.form.specs.Forms.{same, mark_due}
use Rattle.bounds.specs.declared.fault.BookFault.{BookFault}
use Rattle.bounds.specs.declared.fault.BookFault.TheVariants.{Form}
use Rattle.bounds.specs.Bounds.{number_within, line_opening, numbered_opening, nested_opening, item_opening, line_closing}
use Rattle.book.specs.declared.parts.Visit.{Visit}
use Rattle.book.specs.declared.parts.Leg.{Leg}
use Rattle.book.specs.Limits.{most_vans, most_capacity, most_load, most_battery, most_made, last_minute, most_minutes, most_cost}
use Rattle.book.specs.Books.{Contents, opened, empty_book, with_visit, with_leg}
use Rattle.deck.specs.declared.first_line.FirstLine.{FirstLine}

-- a blank and (NAME NUMBER)
abbrev pub item : Keyword → ℕ → ℕ → Reader ℕ BookFault
item name least most =
    and_then Form (item_opening name) (λ _.
    and_then same (number_within least most) (λ n.
    and_then Form (mark_due Close) (λ _.
    give n)))

-- (deck (stops N) (vans V) (capacity C) (battery B) (most M))
abbrev pub first_line : Reader FirstLine BookFault
first_line =
    and_then same (line_opening Deck) (λ _.
    and_then same (item Stops 1 most_stops) (λ stops.
    and_then same (item Vans 1 most_vans) (λ vans.
    and_then same (item Capacity 0 most_capacity) (λ capacity.
    and_then same (item Battery 1 most_battery) (λ battery.
    and_then same (item Most 1 most_made) (λ most.
    and_then Form line_closing (λ _.
    give (record { stops = stops; fleet = record { vans = vans; capacity = capacity; battery = battery; most = most } }))))))))

-- a blank and (window OPENS CLOSES)
abbrev pub window_item : Reader (ℕ × ℕ) BookFault
window_item =
    and_then Form (item_opening Window) (λ _.
    and_then same (number_within 0 last_minute) (λ opens.
    and_then Form (mark_due Blank) (λ _.
    and_then same (number_within opens last_minute) (λ closes.
    and_then Form (mark_due Close) (λ _.
    give (opens, closes))))))

-- a blank and (charger 0) or (charger 1)
abbrev pub charger_item : Reader Bool BookFault
charger_item =
    and_then same (item Charger 0 1) (λ n.
    give (n == 1))

-- (stop J (window OPENS CLOSES) (load L) (charger C)), where stops are 1 to n and stop j is due
abbrev pub stop_line : ℕ → ℕ → Reader Visit BookFault
stop_line stops j =
    and_then same (numbered_opening Stop 1 stops j) (λ _.
    and_then same window_item (λ window.
    and_then same (item Load 0 most_load) (λ load.
    and_then same charger_item (λ charger.
    and_then Form line_closing (λ _.
    give (record { opens = window.0; closes = window.1; load = load; charger = charger }))))))

-- from a place to itself a leg is (0 0)
abbrev pub most_cost_between : ℕ → ℕ → ℕ
most_cost_between i j = cond (i == j) 0 most_cost

abbrev pub least_minutes_between : ℕ → ℕ → ℕ
least_minutes_between i j = cond (i == j) 0 1

abbrev pub most_minutes_between : ℕ → ℕ → ℕ
most_minutes_between i j = cond (i == j) 0 most_minutes

-- a blank and (COST MINUTES), from i to j
abbrev pub leg_pair : ℕ → ℕ → Reader Leg BookFault
leg_pair i j =
    and_then Form nested_opening (λ _.
    and_then same (number_within 0 (most_cost_between i j)) (λ cost.
    and_then Form (mark_due Blank) (λ _.
    and_then same (number_within (least_minutes_between i j) (most_minutes_between i j)) (λ minutes.
    and_then Form (mark_due Close) (λ _.
    give (record { cost = cost; minutes = minutes }))))))

-- (end)
abbrev pub end_line : Reader (Unit {0}) BookFault
end_line =
    and_then same (line_opening End) (λ _.
    and_then Form line_closing (λ _.
    give tt))

-- THE DECK, line by line into a book

-- k stops, from stop j on
abbrev pub stop_lines : Contents → ℕ → ℕ → Reader Contents BookFault
stop_lines = repeated (λ b j. stop_line b.stops j) with_visit

-- k legs from place i, the first to place j
abbrev pub leg_pairs : ℕ → Contents → ℕ → ℕ → Reader Contents BookFault
leg_pairs i = repeated (λ b j. leg_pair i j) (λ b j leg. with_leg b i j leg)

-- (legs I (COST MINUTES) ..), to each of the places 0 to n, where place i is due
abbrev pub leg_line : Contents → ℕ → Reader Contents BookFault
leg_line b i =
    and_then same (numbered_opening Legs 0 b.stops i) (λ _.
    and_then same (leg_pairs i b (suc b.stops) 0) (λ c.
    and_then Form line_closing (λ _.
    give c)))

-- k lines of legs, from place i on
abbrev pub leg_lines : Contents → ℕ → ℕ → Reader Contents BookFault
leg_lines = repeated leg_line (λ b i c. c)

-- the first line, stops 1 to n, legs 0 to n, and end; what follows is not looked at
abbrev pub deck : Reader Contents BookFault
deck =
    and_then same first_line (λ first.
    and_then same (stop_lines (opened first.stops first.fleet) first.stops 1) (λ b.
    and_then same (leg_lines b (suc b.stops) 0) (λ c.
    and_then same end_line (λ _.
    give c))))

-- what the caller is handed: the book and the place after the deck, or the empty book and the fault
abbrev pub handed : Result (Contents × ℕ) BookFault → Contents × Result ℕ BookFault
handed (Ok x) = (x.0, Ok x.1)
handed (Err e) = (empty_book, Err e)
