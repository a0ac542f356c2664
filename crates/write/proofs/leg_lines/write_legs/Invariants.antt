use Rattle.std.proofs.Common.{Ok}
use Rattle.output.specs.Outputs.{Wrote}
use Rattle.book.specs.Books.{contents}
use Rattle.deck.specs.Bytes.{leg_lines_bytes}
use Rattle.write.proofs.leg_lines.write_legs.Given as goal

abbrev pub invariant-loop-from : goal.invariant-loop-from
invariant-loop-from l = Wrote l.initial.out l.out (Ok tt) (leg_lines_bytes (contents l.book) l.from 0)
