use Rattle.std.proofs.Common.{◌≡◌, suc, ◌+◌, ◌-◌}
use Rattle.text.proofs.Loops.{Onward}
use Rattle.book.specs.Books.{contents}
use Rattle.deck.specs.Lines.{leg_line, leg_lines}
use Rattle.deck.proofs.reading.Reading.read_legs.Given as goal

abbrev pub invariant-loop-from : goal.invariant-loop-from
invariant-loop-from l = ((contents l.self.book).stops ≡ l.from-end) × Onward leg_line (λ b i c. c) (leg_lines (contents l.initial.self.book) (suc (contents l.initial.self.book).stops) 0) l.initial.self.cursor l.self.cursor (contents l.self.book) (l.from-end + 1 - l.from) l.from
