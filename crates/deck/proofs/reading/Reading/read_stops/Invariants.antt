use Rattle.std.proofs.Common.{◌≡◌, ◌+◌, ◌-◌}
use Rattle.text.proofs.Loops.{Onward}
use Rattle.book.specs.Books.{contents, with_visit}
use Rattle.deck.specs.Lines.{stop_line, stop_lines}
use Rattle.deck.proofs.reading.Reading.read_stops.Given as goal

abbrev pub invariant-loop-stop : goal.invariant-loop-stop
invariant-loop-stop l = ((contents l.self.book).stops ≡ l.stops) × Onward (λ b j. stop_line b.stops j) with_visit (stop_lines (contents l.initial.self.book) (contents l.initial.self.book).stops 1) l.initial.self.cursor l.self.cursor (contents l.self.book) (l.stops + 1 - l.stop) l.stop
