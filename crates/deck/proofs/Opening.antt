-- The first line gives a book.
use Rattle.std.proofs.Common.{◌≡◌, true, Ok}
use Rattle.text.specs.declared.cursor.Cursor.{Cursor}
use Rattle.text.specs.Readers.{Read}
use Rattle.text.proofs.Trips.{read_sound}
use Rattle.form.specs.Forms.{same}
use Rattle.book.specs.Ranges.{fleet_fits}
use Rattle.deck.specs.declared.first_line.FirstLine.{FirstLine}
use Rattle.deck.specs.Lines.{first_line}
use Rattle.deck.specs.Bytes.{first_line_bytes}
use Rattle.deck.proofs.LineTrips.{first_sounds}

pub taken : {here next : Cursor} {f : FirstLine} → Read same here next (Ok f) first_line → fleet_fits f.stops f.fleet ≡ true
taken read = (read_sound (λ f xs. (xs ≡ first_line_bytes f.stops f.fleet) × (fleet_fits f.stops f.fleet ≡ true)) first_sounds read).1.1
