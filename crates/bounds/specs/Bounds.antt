-- Ranges and order: numbers, and how lines and their items open and close.
use Rattle.std.specs.Prelude.{ℕ, cond, ◌&&◌, Ok, Err, Result, ◌==◌, nat_le}
use Rattle.text.specs.Tokens.{with_place}
use Rattle.text.specs.Readers.{Reader, then, and_then}
use Rattle.words.specs.declared.vocabulary.Keyword.{Keyword}
use Rattle.words.specs.Vocabulary.{same_word, opens_line}
use Rattle.text.specs.declared.token.Mark.TheVariants.{Open, Close, Blank, Feed}
use Rattle.form.specs.declared.fault.FormFault.{FormFault}
use Rattle.form.specs.declared.fault.FormFault.TheVariants.{NotDue}
use Rattle.form.specs.Forms.{same, mark_due, word_due, name_due, number_due}
use Rattle.bounds.specs.declared.fault.BookFault.{BookFault}
use Rattle.bounds.specs.declared.fault.BookFault.TheVariants.{Form, Range, Order}

-- NUMBERS, each with its place

-- from least to most
abbrev pub ranged : ℕ → ℕ → ℕ × ℕ → Result ℕ BookFault
ranged least most n = cond (nat_le least n.0 && nat_le n.0 most) (Ok n.0) (Err (Range n.1))

-- from least to most, and then the one that is due
abbrev pub ordered : ℕ → ℕ → ℕ → ℕ × ℕ → Result (Unit {0}) BookFault
ordered least most due n = cond (nat_le least n.0 && nat_le n.0 most) (cond (n.0 == due) (Ok tt) (Err (Order n.1))) (Err (Range n.1))

abbrev pub number_within : ℕ → ℕ → Reader ℕ BookFault
number_within least most bs p = then Form (number_due bs p) (λ n q. with_place same (ranged least most n) q)

abbrev pub number_in_order : ℕ → ℕ → ℕ → Reader (Unit {0}) BookFault
number_in_order least most due bs p = then Form (number_due bs p) (λ n q. with_place same (ordered least most due n) q)

-- LINES

-- a word, with its place, that opens a line where another was due
abbrev pub misplaced_of : Keyword × ℕ → BookFault
misplaced_of n = cond (opens_line n.0) (Order n.1) (Form (NotDue n.1))

abbrev pub line_named : Keyword → Keyword × ℕ → Result (Unit {0}) BookFault
line_named due n = cond (same_word n.0 due) (Ok tt) (Err (misplaced_of n))

abbrev pub line_name : Keyword → Reader (Unit {0}) BookFault
line_name due bs p = then Form (name_due bs p) (λ n q. with_place same (line_named due n) q)

-- "(" and the name of the line that is due
abbrev pub line_opening : Keyword → Reader (Unit {0}) BookFault
line_opening due bs p =
    then Form (mark_due Open bs p) (λ _ q.
    line_name due bs q)

-- "(", the name of a line, a blank and the number that is due
abbrev pub numbered_opening : Keyword → ℕ → ℕ → ℕ → Reader (Unit {0}) BookFault
numbered_opening line least most due bs p =
    then same (line_opening line bs p) (λ _ q.
    then Form (mark_due Blank bs q) (λ _ r.
    number_in_order least most due bs r))

-- a blank and "("
abbrev pub nested_opening : Reader (Unit {0}) FormFault
nested_opening bs p =
    then same (mark_due Blank bs p) (λ _ q.
    mark_due Open bs q)

-- the name of an item and a blank
abbrev pub item_name : Keyword → Reader (Unit {0}) FormFault
item_name item bs p =
    then same (word_due item bs p) (λ _ q.
    mark_due Blank bs q)

-- a blank, "(", the name of an item and a blank
abbrev pub item_opening : Keyword → Reader (Unit {0}) FormFault
item_opening item =
    and_then same nested_opening (λ _.
    item_name item)

-- ")" and a line feed
abbrev pub line_closing : Reader (Unit {0}) FormFault
line_closing bs p =
    then same (mark_due Close bs p) (λ _ q.
    mark_due Feed bs q)
