-- Which token is due, and the fault where another stands: 15 for a word in no form, else 14.
use Rattle.std.specs.Prelude.{ℕ, Bool, true, false, cond, Some, None, Ok, Err, Option, Result, ◌==◌, ℤ, unsigned_abs}
use Rattle.std.specs.Int.{is_negative}
use Rattle.std.specs.Str.{bytes_eq}
use Rattle.text.specs.declared.token.Mark.{Mark}
use Rattle.text.specs.declared.token.Mark.TheVariants.{Open, Close, Blank, Feed}
use Rattle.text.specs.Tokens.{Seen, opens, closes, blanks, feeds, word, number, negative, ends, scan, amount_at}
use Rattle.text.specs.Readers.{Reader, then}
use Rattle.words.specs.declared.vocabulary.Keyword.{Keyword}
use Rattle.words.specs.Vocabulary.{spelt, keyword_of}
use Rattle.form.specs.declared.placed.Placed.{Placed}
use Rattle.form.specs.declared.fault.FormFault.{FormFault}
use Rattle.form.specs.declared.fault.FormFault.TheVariants.{Text, NotDue, NoForm}

-- what is read, as it is
abbrev pub same : {X : Type 0} → X → X
same x = x

-- a word where another token was due
abbrev pub unless : Option Keyword → ℕ → FormFault
unless None p = NoForm p
unless (Some k) p = NotDue p

-- any token where another was due
abbrev pub undue_of : Seen → FormFault
undue_of (opens p) = NotDue p
undue_of (closes p) = NotDue p
undue_of (blanks p) = NotDue p
undue_of (feeds p) = NotDue p
undue_of (word w p) = unless (keyword_of w) p
undue_of (number n ds p) = NotDue p
undue_of (negative n ds p) = NotDue p
undue_of (ends p) = NotDue p

-- MARKS

-- the byte that tells a mark, and 0 for a token of another kind
abbrev pub told : Seen → ℕ
told (opens p) = 40
told (closes p) = 41
told (blanks p) = 32
told (feeds p) = 10
told (word w p) = 0
told (number n ds p) = 0
told (negative n ds p) = 0
told (ends p) = 0

abbrev pub byte_of : Mark → ℕ
byte_of Open = 40
byte_of Close = 41
byte_of Blank = 32
byte_of Feed = 10

abbrev pub mark_due : Mark → Reader (Unit {0}) FormFault
mark_due due bs p = then Text (scan bs p) (λ t q. cond (told t == byte_of due) (Ok (tt, q)) (Err (undue_of t)))

-- WORDS

abbrev pub word_is : Keyword → Seen → ℕ → Result (Unit {0} × ℕ) FormFault
word_is due (opens p) q = Err (NotDue p)
word_is due (closes p) q = Err (NotDue p)
word_is due (blanks p) q = Err (NotDue p)
word_is due (feeds p) q = Err (NotDue p)
word_is due (word w p) q = cond (bytes_eq w (spelt due)) (Ok (tt, q)) (Err (unless (keyword_of w) p))
word_is due (number n ds p) q = Err (NotDue p)
word_is due (negative n ds p) q = Err (NotDue p)
word_is due (ends p) q = Err (NotDue p)

-- this word
abbrev pub word_due : Keyword → Reader (Unit {0}) FormFault
word_due due bs p = then Text (scan bs p) (word_is due)

-- a word with its place
abbrev pub named : Placed Keyword → Keyword × ℕ
named n = (n.value, n.place)

abbrev pub found : Option Keyword → ℕ → ℕ → Result ((Keyword × ℕ) × ℕ) FormFault
found None p q = Err (NoForm p)
found (Some k) p q = Ok ((k, p), q)

abbrev pub name_is : Seen → ℕ → Result ((Keyword × ℕ) × ℕ) FormFault
name_is (opens p) q = Err (NotDue p)
name_is (closes p) q = Err (NotDue p)
name_is (blanks p) q = Err (NotDue p)
name_is (feeds p) q = Err (NotDue p)
name_is (word w p) q = found (keyword_of w) p q
name_is (number n ds p) q = Err (NotDue p)
name_is (negative n ds p) q = Err (NotDue p)
name_is (ends p) q = Err (NotDue p)

-- some word of the forms
abbrev pub name_due : Reader (Keyword × ℕ) FormFault
name_due bs p = then Text (scan bs p) name_is

-- NUMBERS

-- a number with its place
abbrev pub numeral : Placed ℕ → ℕ × ℕ
numeral n = (n.value, n.place)

abbrev pub number_is : Seen → ℕ → Result ((ℕ × ℕ) × ℕ) FormFault
number_is (opens p) q = Err (NotDue p)
number_is (closes p) q = Err (NotDue p)
number_is (blanks p) q = Err (NotDue p)
number_is (feeds p) q = Err (NotDue p)
number_is (word w p) q = Err (unless (keyword_of w) p)
number_is (number n ds p) q = Ok ((n, p), q)
number_is (negative n ds p) q = Err (NotDue p)
number_is (ends p) q = Err (NotDue p)

abbrev pub number_due : Reader (ℕ × ℕ) FormFault
number_due bs p = then Text (scan bs p) number_is

-- an amount: whether it is negative, its size, and its place
abbrev pub signed : Placed ℤ → Bool × ℕ × ℕ
signed a = (is_negative a.value, unsigned_abs a.value, a.place)

abbrev pub amount_is : Seen → ℕ → Result ((Bool × ℕ × ℕ) × ℕ) FormFault
amount_is (opens p) q = Err (NotDue p)
amount_is (closes p) q = Err (NotDue p)
amount_is (blanks p) q = Err (NotDue p)
amount_is (feeds p) q = Err (NotDue p)
amount_is (word w p) q = Err (unless (keyword_of w) p)
amount_is (number n ds p) q = Ok ((false, n, p), q)
amount_is (negative n ds p) q = Ok ((true, n, p), q)
amount_is (ends p) q = Err (NotDue p)

-- the amount of a set
abbrev pub amount_due : Reader (Bool × ℕ × ℕ) FormFault
amount_due bs p = then Text (amount_at bs p) amount_is
