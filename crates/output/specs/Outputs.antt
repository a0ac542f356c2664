-- What a printer writes at the front of a slice.
use Rattle.std.specs.Prelude.{◌≡◌, ℕ, zero, suc, ◌+◌, ◌/◌, ◌%◌, Bool, true, false, cond, List, [], ◌∷◌, ◌++◌, length, take, drop, is_ok, Some, None, Ok, Err, Option, Result, nat_le}
use Rattle.output.specs.declared.out.Full.{Full}
use Rattle.output.specs.declared.out.Out.{Out}

-- how many bytes a printer of bs says that it wrote into so many places
abbrev pub fit : List ℕ → ℕ → Option ℕ
fit bs room = cond (nat_le (length bs) room) (Some (length bs)) None

-- bs at the front, if they fit there; the rest as it was
abbrev pub put : List ℕ → List ℕ → List ℕ
put bs before = cond (nat_le (length bs) (length before)) (bs ++ drop (length bs) before) before

-- a printer's answer, and what the slice then holds
pub record Printed (before after : List ℕ) (r : Option ℕ) (bs : List ℕ) : Type 0 where
  pub count : r ≡ fit bs (length before)
  pub bytes : after ≡ put bs before

-- the one value of its type
abbrev pub full : Full
full = record {}

abbrev pub refusal_full : ℕ
refusal_full = 19

abbrev pub done : Bool → Result (Unit {0}) Full
done true = Ok tt
done false = Err full

-- bs were written behind what was there, or did not fit
pub record Wrote (before after : Out) (r : Result (Unit {0}) Full) (bs : List ℕ) : Type 0 where
  pub held : after.out.ghost_name ≡ before.out.ghost_name
  pub fits : r ≡ done (nat_le (before.len + length bs) (length before.out.now))
  pub long : length after.out.now ≡ length before.out.now
  pub moved : is_ok r ≡ true → after.len ≡ before.len + length bs
  pub front : is_ok r ≡ true → take after.len after.out.now ≡ take before.len before.out.now ++ bs
  pub back : is_ok r ≡ true → drop after.len after.out.now ≡ drop after.len before.out.now

-- where a single piece does not fit, nothing is written of it
abbrev pub LeftAlone : Out → Out → Result (Unit {0}) Full → Type 0
LeftAlone before after r = is_ok r ≡ false → (after.len ≡ before.len) × (after.out.now ≡ before.out.now)

-- the last k digits of n
abbrev pub padded : ℕ → ℕ → List ℕ
padded zero n = []
padded (suc k) n = padded k (n / 10) ++ ((48 + n % 10) ∷ [])

-- k pieces in a row, numbered from j on
abbrev pub pieces : (ℕ → List ℕ) → ℕ → ℕ → List ℕ
pieces piece zero j = []
pieces piece (suc k) j = piece j ++ pieces piece k (j + 1)
