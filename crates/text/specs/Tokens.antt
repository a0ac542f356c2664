-- The tokens of a text. A text is a list of bytes; a place is an offset in it.
use Rattle.std.specs.Prelude.{ℕ, ◌+◌, ◌-◌, ◌*◌, ◌^◌, ◌<◌, Bool, cond, not, ◌&&◌, ◌||◌, List, length, take, drop, Ok, Err, Result, ◌==◌, nat_le, nat_lt, slice_index, fold}
use Rattle.std.specs.List.{prefix_len}
use Rattle.text.specs.declared.token.Mark.{Mark}
use Rattle.text.specs.declared.token.Mark.TheVariants.{Open, Close, Blank, Feed}
use Rattle.text.specs.declared.token.Token.{Token}
use Rattle.text.specs.declared.token.Token.TheVariants.{Word, Number, Negative, End}
use Rattle.text.specs.declared.fault.TextFault.{TextFault}
use Rattle.text.specs.declared.fault.TextFault.TheVariants.{NoKind, BadNumber}

-- a token by its bytes and its place, whichever reference holds the bytes
pub data Seen : Type 0 where
  opens : ℕ → Seen
  closes : ℕ → Seen
  blanks : ℕ → Seen
  feeds : ℕ → Seen
  word : List ℕ → ℕ → Seen
  number : ℕ → List ℕ → ℕ → Seen
  negative : ℕ → List ℕ → ℕ → Seen
  ends : ℕ → Seen

-- a mark at its place
abbrev pub marked : Mark → ℕ → Seen
marked Open p = opens p
marked Close p = closes p
marked Blank p = blanks p
marked Feed p = feeds p

abbrev pub seen : Token → Seen
seen (Token.Mark m p) = marked m p
seen (Word w p) = word w.now p
seen (Number n ds p) = number n ds.now p
seen (Negative n ds p) = negative n ds.now p
seen (End p) = ends p

-- a number has at most ten digits, and behind a hyphen it is not 0
abbrev pub sized : Token → Type 0
sized (Token.Mark m p) = Unit {0}
sized (Word w p) = Unit {0}
sized (Number n ds p) = n < 10 ^ 10
sized (Negative n ds p) = (0 < n) × (n < 10 ^ 10)
sized (End p) = Unit {0}

-- what a step read, with the place where the next begins; after a fault no place counts
abbrev pub with_place : {X Y E : Type 0} → (X → Y) → Result X E → ℕ → Result (Y × ℕ) E
with_place f (Ok x) q = Ok (f x, q)
with_place f (Err e) q = Err e

-- a token that cannot fail to be read
abbrev pub ok_token : Token → Result Token TextFault
ok_token t = Ok t

-- RUNS

-- a to z
abbrev pub is_letter : ℕ → Bool
is_letter c = nat_le 97 c && nat_le c 122

-- 0 to 9
abbrev pub is_digit : ℕ → Bool
is_digit c = nat_le 48 c && nat_le c 57

-- the longest run at the front of a text of bytes that pass a test
abbrev pub front : (ℕ → Bool) → List ℕ → List ℕ
front p bs = take (prefix_len p bs) bs

-- the number that digits write, behind the number so far
abbrev pub read_on : ℕ → List ℕ → ℕ
read_on n ds = fold (λ m c. m * 10 + (c - 48)) n ds

abbrev pub value_of : List ℕ → ℕ
value_of ds = read_on 0 ds

-- at most ten digits, and no zero before another digit
abbrev pub well_formed : List ℕ → Bool
well_formed ds = nat_le (length ds) 10 && (nat_le (length ds) 1 || not (slice_index ds 0 == 48))

-- well formed, and not 0
abbrev pub non_zero : List ℕ → Bool
non_zero ds = nat_le 1 (length ds) && nat_le (length ds) 10 && not (slice_index ds 0 == 48)

-- TOKENS

abbrev pub word_at : List ℕ → ℕ → Result (Seen × ℕ) TextFault
word_at bs p = Ok (word (front is_letter (drop p bs)) p, p + prefix_len is_letter (drop p bs))

abbrev pub number_at : List ℕ → ℕ → Result (Seen × ℕ) TextFault
number_at bs p = cond (well_formed (front is_digit (drop p bs))) (Ok (number (value_of (front is_digit (drop p bs))) (front is_digit (drop p bs)) p, p + prefix_len is_digit (drop p bs))) (Err (BadNumber p))

-- the token whose first byte is c, at the place p: brackets, blank and line feed by the byte itself
abbrev pub token : List ℕ → ℕ → ℕ → Result (Seen × ℕ) TextFault
token bs p c =
    cond (c == 40) (Ok (opens p, p + 1))
    (cond (c == 41) (Ok (closes p, p + 1))
    (cond (c == 32) (Ok (blanks p, p + 1))
    (cond (c == 10) (Ok (feeds p, p + 1))
    (cond (is_letter c) (word_at bs p)
    (cond (is_digit c) (number_at bs p)
    (cond (c == 45) (Err (BadNumber p)) (Err (NoKind p))))))))

-- the token at p where no signed amount is due; the end of the text is at its length
abbrev pub scan : List ℕ → ℕ → Result (Seen × ℕ) TextFault
scan bs p = cond (nat_lt p (length bs)) (token bs p (slice_index bs p)) (Ok (ends (length bs), p))

-- a hyphen at p, and the digits behind it
abbrev pub negative_at : List ℕ → ℕ → Result (Seen × ℕ) TextFault
negative_at bs p = cond (non_zero (front is_digit (drop (p + 1) bs))) (Ok (negative (value_of (front is_digit (drop (p + 1) bs))) (take (1 + prefix_len is_digit (drop (p + 1) bs)) (drop p bs)) p, p + 1 + prefix_len is_digit (drop (p + 1) bs))) (Err (BadNumber p))

-- the token at p where a signed amount is due
abbrev pub amount_at : List ℕ → ℕ → Result (Seen × ℕ) TextFault
amount_at bs p = cond (nat_lt p (length bs) && slice_index bs p == 45) (negative_at bs p) (scan bs p)
