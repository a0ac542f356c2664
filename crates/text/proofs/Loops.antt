-- A loop of a cursor that reads one thing after another.
use Rattle.std.proofs.Common.{◌≡◌, ℕ, suc, ◌+◌, IsErrAnd, Ok, Err, Result, sym, subst}
use Rattle.text.specs.declared.cursor.Cursor.{Cursor}
use Rattle.text.specs.Readers.{Reader, Read, repeated}
use Rattle.text.proofs.Reading.{steps, escapes, gives}

module _ {S X E : Type 0} (step : S → ℕ → Reader X E) (next : S → ℕ → X → S) (all : Reader S E) (start : Cursor) where
  -- what reads the k that are left, from j on, reads them all
  abbrev pub Onward : Cursor → S → ℕ → ℕ → Type 0
  Onward here s k j = (g : Unit {0} → S) (after : Cursor) (r : Result (Unit {0}) E) → Read g here after r (repeated step next s k j) → Read g start after r all

  pub again : {Z : Type 0} {f : Z → X} {z : Z} {here there : Cursor} {t : S} (s : S) (j k l : ℕ) → k ≡ suc l → Onward here s k j → Read f here there (Ok z) (step s j) → t ≡ next s j (f z) → Onward there t l (j + 1)
  again {f} {z} {here} {there} {t} s j k l more on read is g after r rest =
      let left : Read g there after r (repeated step next (next s j (f z)) l (j + 1)) = subst (λ x. Read g there after r (repeated step next x l (j + 1))) is rest in
      on g after r (subst (λ n. Read g here after r (repeated step next s n j)) (sym more) (steps _ _ read left))

  pub faulty : {Z : Type 0} {f : Z → X} {e : E} {here there : Cursor} (s : S) (j k l : ℕ) (g : Unit {0} → S) (r : Result (Unit {0}) E) → k ≡ suc l → Onward here s k j → Read f here there (Err e) (step s j) → IsErrAnd r (λ y. y ≡ e) → Read g start there r all
  faulty {here} {there} s j k l g r more on read is =
      on g there r (subst (λ n. Read g here there r (repeated step next s n j)) (sym more) (escapes _ _ _ read is))

  pub whole : {here : Cursor} (s : S) (j k : ℕ) → k ≡ 0 → Onward here s k j → Read (λ (_ : Unit {0}). s) start here (Ok (tt {0})) all
  whole {here} s j k none on =
      on (λ _. s) here (Ok (tt {0})) (subst (λ n. Read (λ (_ : Unit {0}). s) here here (Ok (tt {0})) (repeated step next s n j)) (sym none) (gives {g = λ (_ : Unit {0}). s} {a = here} {z = tt {0}}))
