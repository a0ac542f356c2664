-- The lines of the stops, one by one.
use Rattle.std.proofs.Common.{◌≡◌, ℕ, ◌≤◌, true, cond, Ok, arith}
use Rattle.std.proofs.lemmas.Bool.Decides.{nat_tests}
use Rattle.text.specs.declared.cursor.Cursor.{Cursor}
use Rattle.text.specs.Readers.{Read}
use Rattle.text.proofs.Trips.{read_sound}
use Rattle.form.specs.Forms.{same}
use Rattle.book.specs.declared.parts.Visit.{Visit}
use Rattle.book.specs.Ranges.{visit_fits}
use Rattle.book.specs.Books.{Contents, can_put_visit, with_visit}
use Rattle.deck.specs.Lines.{stop_line}
use Rattle.deck.specs.Bytes.{stop_bytes}
use Rattle.deck.proofs.LineTrips.{stop_sounds}

-- what is read of a stop, the book takes
pub taken : {here next : Cursor} {v : Visit} (b : Contents) (stops j : ℕ) → b.stops ≡ stops → 1 ≤ j → j ≤ stops → Read same here next (Ok v) (stop_line stops j) → can_put_visit b j v ≡ true
taken {v} b stops j known l h read =
    let s = read_sound (λ v xs. (xs ≡ stop_bytes j v) × (visit_fits v ≡ true)) (stop_sounds stops j) read in
    let fits = s.1.1 in
    grind (arith, nat_tests)

pub put : {here next : Cursor} {v : Visit} {c : Contents} (b : Contents) (stops j : ℕ) → b.stops ≡ stops → 1 ≤ j → j ≤ stops → Read same here next (Ok v) (stop_line stops j) → c ≡ cond (can_put_visit b j v) (with_visit b j v) b → c ≡ with_visit b j v
put b stops j known l h read e = let t = taken b stops j known l h read in rw t at e
