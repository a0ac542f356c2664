-- The lines that follow a deck: which bottom the pile stands on, and then one call a line.
use Rattle.std.specs.Prelude.{ℕ, zero, suc, ◌+◌, Bool, true, false, cond, ℤ, pos, neg_ℤ, Some, None, Ok, Err, Option, Result, nat_le}
use Rattle.stops.specs.Stops.{most_member, empty_set, just, joined}
use Rattle.tier.specs.Laws.{greatest_key}
use Rattle.text.specs.Tokens.{Seen, opens, closes, blanks, feeds, word, number, negative, ends, scan, with_place}
use Rattle.text.specs.Readers.{Reader, then, and_then, give}
use Rattle.words.specs.declared.vocabulary.Keyword.{Keyword}
use Rattle.words.specs.declared.vocabulary.Keyword.TheVariants.{Pile, Round, Town, Price, Set, Tighten}
use Rattle.words.specs.Vocabulary.{same_word}
use Rattle.text.specs.declared.token.Mark.TheVariants.{Open, Blank}
use Rattle.form.specs.declared.fault.FormFault.{FormFault}
use Rattle.form.specs.declared.fault.FormFault.TheVariants.{Text, NotDue}
use Rattle.form.specs.Forms.{same, undue_of, mark_due, name_due, number_due, amount_due}
use Rattle.bounds.specs.declared.fault.BookFault.{BookFault}
use Rattle.bounds.specs.declared.fault.BookFault.TheVariants.{Form, Range, Order}
use Rattle.bounds.specs.Bounds.{number_within, misplaced_of, line_opening, line_closing}
use Rattle.calls.specs.Calls.{Call, set, tighten, price}
use Rattle.sitting.specs.declared.told.Call.{Call as CodeCall}
use Rattle.sitting.specs.Answers.{called}
use Rattle.lines.specs.declared.pile.Bottom.{Bottom}
use Rattle.lines.specs.declared.pile.Bottom.TheVariants.{OfRounds, OfTowns}

-- THE PILE

-- the bottom that a word names; another word of the forms is not due here
abbrev pub bottom_named : Keyword × ℕ → Result Bottom FormFault
bottom_named n = cond (same_word n.0 Round) (Ok OfRounds) (cond (same_word n.0 Town) (Ok OfTowns) (Err (NotDue n.1)))

abbrev pub bottom_due : Reader Bottom FormFault
bottom_due bs p = then same (name_due bs p) (λ n q. with_place same (bottom_named n) q)

-- (pile round) or (pile town)
abbrev pub pile_line : Reader Bottom BookFault
pile_line =
    and_then same (line_opening Pile) (λ _.
    and_then Form (mark_due Blank) (λ _.
    and_then Form bottom_due (λ b.
    and_then Form line_closing (λ _.
    give b))))

-- MEMBERS OF A SET, rising, each at most 63. The next token says whether there is another.

-- ")", and there is none, or a number with its place
abbrev pub first_is : Seen → ℕ → Result (Option (ℕ × ℕ) × ℕ) FormFault
first_is (opens p) q = Err (undue_of (opens p))
first_is (closes p) q = Ok (None, q)
first_is (blanks p) q = Err (undue_of (blanks p))
first_is (feeds p) q = Err (undue_of (feeds p))
first_is (word w p) q = Err (undue_of (word w p))
first_is (number n ds p) q = Ok (Some (n, p), q)
first_is (negative n ds p) q = Err (undue_of (negative n ds p))
first_is (ends p) q = Err (undue_of (ends p))

abbrev pub first_due : Reader (Option (ℕ × ℕ)) FormFault
first_due bs p = then Text (scan bs p) first_is

-- a blank, and another follows, or ")"
abbrev pub more_is : Seen → ℕ → Result (Bool × ℕ) FormFault
more_is (opens p) q = Err (undue_of (opens p))
more_is (closes p) q = Ok (false, q)
more_is (blanks p) q = Ok (true, q)
more_is (feeds p) q = Err (undue_of (feeds p))
more_is (word w p) q = Err (undue_of (word w p))
more_is (number n ds p) q = Err (undue_of (number n ds p))
more_is (negative n ds p) q = Err (undue_of (negative n ds p))
more_is (ends p) q = Err (undue_of (ends p))

abbrev pub more_due : Reader Bool FormFault
more_due bs p = then Text (scan bs p) more_is

-- a member, with its place: at most 63, and then no less than `least`
abbrev pub member_of : ℕ → ℕ × ℕ → Result ℕ BookFault
member_of least n = cond (nat_le n.0 most_member) (cond (nat_le least n.0) (Ok n.0) (Err (Order n.1))) (Err (Range n.1))

abbrev pub member_due : ℕ → Reader ℕ BookFault
member_due least bs p = then Form (number_due bs p) (λ n q. with_place same (member_of least n) q)

-- behind the members of a set, those from `least` on, at most so many steps: with `least` they are never under 65, so
-- that the last step finds ")" or a fault
abbrev pub more_members : ℕ → ℕ → ℕ → Reader ℕ BookFault
more_members zero least members = give members
more_members (suc k) least members = and_then Form more_due (λ more. cond more (and_then same (member_due least) (λ n. more_members k (n + 1) (joined members (just n)))) (give members))

abbrev pub members_from : Option (ℕ × ℕ) → Reader ℕ BookFault
members_from None bs p = give empty_set bs p
members_from (Some n) bs p = then same (with_place same (member_of 0 n) p) (λ j q. more_members 64 (j + 1) (just j) bs q)

-- "(", members with a blank between them, and ")"
abbrev pub members_due : Reader ℕ BookFault
members_due =
    and_then Form (mark_due Open) (λ _.
    and_then Form first_due (λ n.
    members_from n))

-- CALLS. Tier, index and amount are any numbers: the call judges them.

-- a blank and a number
abbrev pub next_number : Reader ℕ FormFault
next_number =
    and_then same (mark_due Blank) (λ _.
    and_then same number_due (λ n.
    give n.0))

-- a number with its sign
abbrev pub signed_value : Bool × ℕ × ℕ → ℤ
signed_value a = cond a.0 (neg_ℤ (pos a.1)) (pos a.1)

-- behind the name: tier, index and amount
abbrev pub set_call : Reader Call BookFault
set_call =
    and_then Form next_number (λ tier.
    and_then Form next_number (λ index.
    and_then Form (mark_due Blank) (λ _.
    and_then Form amount_due (λ a.
    and_then Form line_closing (λ _.
    give (set tier index (signed_value a)))))))

-- tier, index, members and amount
abbrev pub tighten_call : Reader Call BookFault
tighten_call =
    and_then Form next_number (λ tier.
    and_then Form next_number (λ index.
    and_then Form (mark_due Blank) (λ _.
    and_then same members_due (λ members.
    and_then Form next_number (λ amount.
    and_then Form line_closing (λ _.
    give (tighten tier index members (pos amount))))))))

-- a session's prices have at most this many places
abbrev pub session_places : ℕ
session_places = 1000

-- places; the row has just the numbers that a price needs
abbrev pub price_call : Reader Call BookFault
price_call =
    and_then Form (mark_due Blank) (λ _.
    and_then same (number_within 0 session_places) (λ places.
    and_then Form line_closing (λ _.
    give (price places greatest_key))))

-- the call that a word names, which opens the line
abbrev pub call_named : Keyword × ℕ → Reader Call BookFault
call_named n bs p = cond (same_word n.0 Price) (price_call bs p) (cond (same_word n.0 Set) (set_call bs p) (cond (same_word n.0 Tighten) (tighten_call bs p) (Err (misplaced_of n))))

-- "(" of a call, or the end of the text
abbrev pub begins_is : Seen → ℕ → Result (Bool × ℕ) FormFault
begins_is (opens p) q = Ok (true, q)
begins_is (closes p) q = Err (undue_of (closes p))
begins_is (blanks p) q = Err (undue_of (blanks p))
begins_is (feeds p) q = Err (undue_of (feeds p))
begins_is (word w p) q = Err (undue_of (word w p))
begins_is (number n ds p) q = Err (undue_of (number n ds p))
begins_is (negative n ds p) q = Err (undue_of (negative n ds p))
begins_is (ends p) q = Ok (false, q)

abbrev pub begins_due : Reader Bool FormFault
begins_due bs p = then Text (scan bs p) begins_is

-- behind "("
abbrev pub call_line : Reader Call BookFault
call_line =
    and_then Form name_due (λ n.
    call_named n)

-- a call, or none where the text ends
abbrev pub next_call : Reader (Option Call) BookFault
next_call =
    and_then Form begins_due (λ more.
    cond more (and_then same call_line (λ c. give (Some c))) (give None))

-- the code's calls, read so
abbrev pub maybe_called : Option CodeCall → Option Call
maybe_called None = None
maybe_called (Some c) = Some (called c)
