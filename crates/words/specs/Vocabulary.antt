-- The words of the forms, and how they are spelt.
use Rattle.std.specs.Prelude.{ℕ, Bool, true, false, List, [], ◌∷◌, codes, Option}
use Rattle.std.specs.List.{find}
use Rattle.std.specs.Str.{bytes_eq}
use Rattle.words.specs.declared.vocabulary.Keyword.{Keyword}
use Rattle.words.specs.declared.vocabulary.Keyword.TheVariants.{Deck, Stops, Vans, Capacity, Battery, Most, Stop, Window, Load, Charger, Legs, End, Pile, Round, Town, Price, Set, Tighten}

-- THE VOCABULARY

abbrev pub spelt : Keyword → List ℕ
spelt Deck = codes "deck"
spelt Stops = codes "stops"
spelt Vans = codes "vans"
spelt Capacity = codes "capacity"
spelt Battery = codes "battery"
spelt Most = codes "most"
spelt Stop = codes "stop"
spelt Window = codes "window"
spelt Load = codes "load"
spelt Charger = codes "charger"
spelt Legs = codes "legs"
spelt End = codes "end"
spelt Pile = codes "pile"
spelt Round = codes "round"
spelt Town = codes "town"
spelt Price = codes "price"
spelt Set = codes "set"
spelt Tighten = codes "tighten"

-- all of them
abbrev pub words : List Keyword
words = Deck ∷ Stops ∷ Vans ∷ Capacity ∷ Battery ∷ Most ∷ Stop ∷ Window ∷ Load ∷ Charger ∷ Legs ∷ End ∷ Pile ∷ Round ∷ Town ∷ Price ∷ Set ∷ Tighten ∷ []

-- the word that bytes spell; none if it stands in no form
abbrev pub keyword_of : List ℕ → Option Keyword
keyword_of w = find (λ k. bytes_eq w (spelt k)) words

abbrev pub same_word : Keyword → Keyword → Bool
same_word a b = bytes_eq (spelt a) (spelt b)

-- the names of forms that stand on a line of their own
abbrev pub opens_line : Keyword → Bool
opens_line Deck = true
opens_line Stops = false
opens_line Vans = false
opens_line Capacity = false
opens_line Battery = false
opens_line Most = false
opens_line Stop = true
opens_line Window = false
opens_line Load = false
opens_line Charger = false
opens_line Legs = true
opens_line End = true
opens_line Pile = true
opens_line Round = false
opens_line Town = false
opens_line Price = true
opens_line Set = true
opens_line Tighten = true
