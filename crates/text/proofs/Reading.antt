-- How the steps of a cursor follow one another.
use Rattle.std.proofs.Common.{◌≡◌, IsErrAnd, Ok, Err, Result, refl, ap, ◌∙◌}
use Rattle.std.proofs.lemmas.Result.{err_from_is_err_and}
use Rattle.text.specs.declared.cursor.Cursor.{Cursor}
use Rattle.text.specs.Readers.{Reader, Read, then, and_then, give}

-- a step, and the rest of the reader after it
pub steps : {X Y Z W E F : Type 0} {f : X → Y} {g : Z → W} {a b d : Cursor} {x : X} {r : Result Z F} {m : Reader Y E} (wrap : E → F) (k : Y → Reader W F) → Read f a b (Ok x) m → Read g b d r (k (f x)) → Read g a d r (and_then wrap m k)
unfolding and_then
steps {f} {a} {b} {x} wrap k h l = record {
  text = l.text ∙ h.text;
  read = l.read ∙ ap (λ bs. k (f x) bs b.at) h.text ∙ ap (λ o. then wrap o (λ y q. k y a.text.now q)) h.read;
}

-- a step that faults
pub faults : {X Y Z W E F : Type 0} {f : X → Y} {g : Z → W} {a b : Cursor} {e : E} {m : Reader Y E} (wrap : E → F) (k : Y → Reader W F) → Read f a b (Err e) m → Read g a b (Err (wrap e)) (and_then wrap m k)
unfolding and_then
faults {a} wrap k h = record {
  text = h.text;
  read = ap (λ o. then wrap o (λ y q. k y a.text.now q)) h.read;
}

-- nothing more to read
pub gives : {Z W E : Type 0} {g : Z → W} {a : Cursor} {z : Z} → Read {E = E} g a a (Ok z) (give (g z))
unfolding give
gives = record { text = refl; read = refl }

-- the exit of a `?`
pub escapes : {X Y Z W E F : Type 0} {f : X → Y} {g : Z → W} {a b : Cursor} {e : E} {m : Reader Y E} (wrap : E → F) (k : Y → Reader W F) (r : Result Z F) → Read f a b (Err e) m → IsErrAnd r (λ y. y ≡ wrap e) → Read g a b r (and_then wrap m k)
escapes {g} {a} {b} {m} wrap k r h l = let p = err_from_is_err_and r l in rw (p.1, p.2) (faults wrap k h)
