-- Readers: what is made of the bytes of a text from a place on.
use Rattle.std.specs.Prelude.{◌≡◌, ℕ, zero, suc, ◌+◌, List, Ok, Err, Result}
use Rattle.text.specs.declared.cursor.Cursor.{Cursor}
use Rattle.text.specs.Tokens.{with_place}

-- what is read, with the place after it, or a fault
abbrev pub Reader : Type 0 → Type 0 → Type 0
Reader Y E = List ℕ → ℕ → Result (Y × ℕ) E

-- a step of a cursor did what the reader says, and left the text alone
pub record Read {X Y E : Type 0} (f : X → Y) (before after : Cursor) (r : Result X E) (reader : Reader Y E) : Type 0 where
  pub text : after.text.now ≡ before.text.now
  pub read : with_place f r after.at ≡ reader before.text.now before.at

abbrev pub then : {X Y E F : Type 0} → (E → F) → Result (X × ℕ) E → (X → ℕ → Result (Y × ℕ) F) → Result (Y × ℕ) F
then wrap (Ok x) k = k x.0 x.1
then wrap (Err e) k = Err (wrap e)

-- one reader after another, the first one's fault wrapped
unfoldable pub and_then : {X Y E F : Type 0} → (E → F) → Reader X E → (X → Reader Y F) → Reader Y F
and_then wrap first next bs p = then wrap (first bs p) (λ x q. next x bs q)

-- a reader that reads nothing
unfoldable pub give : {X E : Type 0} → X → Reader X E
give x bs p = Ok (x, p)

-- k readers in a row, numbered from j on; each is told what was made of those before it
abbrev pub repeated : {S X E : Type 0} → (S → ℕ → Reader X E) → (S → ℕ → X → S) → S → ℕ → ℕ → Reader S E
repeated step next s zero j = give s
repeated step next s (suc k) j = and_then (λ e. e) (step s j) (λ x. repeated step next (next s j x) k (j + 1))
