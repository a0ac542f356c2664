-- How a book is written as a deck.
use Rattle.std.specs.Prelude.{ℕ, suc, Bool, cond, List, [], ◌++◌, codes, decimal, ◌==◌}
use Rattle.output.specs.Outputs.{pieces}
use Rattle.words.specs.declared.vocabulary.Keyword.{Keyword}
use Rattle.words.specs.declared.vocabulary.Keyword.TheVariants.{Deck, Stops, Vans, Capacity, Battery, Most, Stop, Window, Load, Charger, Legs, End}
use Rattle.bounds.specs.Bytes.{line_start, numbered_start, item_start, line_end}
use Rattle.book.specs.declared.parts.Fleet.{Fleet}
use Rattle.book.specs.declared.parts.Visit.{Visit}
use Rattle.book.specs.declared.parts.Leg.{Leg}
use Rattle.book.specs.Books.{Contents, visit_at, leg_at}

abbrev pub item_bytes : Keyword → ℕ → List ℕ
item_bytes name n = item_start name ++ (decimal n ++ codes ")")

abbrev pub first_line_bytes : ℕ → Fleet → List ℕ
first_line_bytes stops f = line_start Deck ++ (item_bytes Stops stops ++ (item_bytes Vans f.vans ++ (item_bytes Capacity f.capacity ++ (item_bytes Battery f.battery ++ (item_bytes Most f.most ++ line_end)))))

abbrev pub window_bytes : ℕ → ℕ → List ℕ
window_bytes opens closes = item_start Window ++ (decimal opens ++ (codes " " ++ (decimal closes ++ codes ")")))

abbrev pub charger_number : Bool → ℕ
charger_number c = cond c 1 0

abbrev pub stop_bytes : ℕ → Visit → List ℕ
stop_bytes j v = numbered_start Stop j ++ (window_bytes v.opens v.closes ++ (item_bytes Load v.load ++ (item_bytes Charger (charger_number v.charger) ++ line_end)))

-- k stops, from stop j on
abbrev pub stops_bytes : Contents → ℕ → ℕ → List ℕ
stops_bytes b = pieces (λ j. stop_bytes j (visit_at b j))

abbrev pub leg_bytes : Leg → List ℕ
leg_bytes l = codes " (" ++ (decimal l.cost ++ (codes " " ++ (decimal l.minutes ++ codes ")")))

-- k legs from place i, the first to place j
abbrev pub pairs_bytes : Contents → ℕ → ℕ → ℕ → List ℕ
pairs_bytes b i = pieces (λ j. leg_bytes (leg_at b i j))

abbrev pub leg_line_bytes : Contents → ℕ → List ℕ
leg_line_bytes b i = numbered_start Legs i ++ (pairs_bytes b i (suc b.stops) 0 ++ line_end)

-- k lines of legs, from place i on
abbrev pub leg_lines_bytes : Contents → ℕ → ℕ → List ℕ
leg_lines_bytes b = pieces (leg_line_bytes b)

abbrev pub end_bytes : List ℕ
end_bytes = line_start End ++ line_end

-- the lines of a book with stops
abbrev pub lines_bytes : Contents → List ℕ
lines_bytes b = first_line_bytes b.stops b.fleet ++ (stops_bytes b b.stops 1 ++ (leg_lines_bytes b (suc b.stops) 0 ++ end_bytes))

-- the empty book is written as no bytes
abbrev pub deck_bytes : Contents → List ℕ
deck_bytes b = cond (b.stops == 0) [] (lines_bytes b)
