use Rattle.std.proofs.Common.{Ok}
use Rattle.output.specs.Outputs.{Wrote}
use Rattle.book.specs.Books.{contents}
use Rattle.deck.specs.Bytes.{pairs_bytes}
use Rattle.write.proofs.leg_lines.write_pairs.Given as goal

abbrev pub invariant-loop-to : goal.invariant-loop-to
invariant-loop-to l = Wrote l.initial.out l.out (Ok tt) (pairs_bytes (contents l.book) l.from l.to 0)
