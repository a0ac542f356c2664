use Rattle.std.proofs.Common.{◌≡◌, suc, ◌+◌, ◌-◌}
use Rattle.text.proofs.Loops.{Onward}
use Rattle.book.specs.Books.{contents, with_leg}
use Rattle.deck.specs.Lines.{leg_pair, leg_pairs}
use Rattle.deck.proofs.reading.Reading.read_pairs.Given as goal

abbrev pub invariant-loop-to : goal.invariant-loop-to
invariant-loop-to l = ((contents l.self.book).stops ≡ l.to-end) × Onward (λ b j. leg_pair l.from j) (λ b j leg. with_leg b l.from j leg) (leg_pairs l.from (contents l.initial.self.book) (suc (contents l.initial.self.book).stops) 0) l.initial.self.cursor l.self.cursor (contents l.self.book) (l.to-end + 1 - l.to) l.to
