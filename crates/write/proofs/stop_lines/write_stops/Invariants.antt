use Rattle.std.proofs.Common.{◌+◌, ◌-◌, ◌≤◌, Ok}
use Rattle.output.specs.Outputs.{Wrote}
use Rattle.book.specs.Books.{contents}
use Rattle.deck.specs.Bytes.{stops_bytes}
use Rattle.write.proofs.stop_lines.write_stops.Given as goal

abbrev pub invariant-loop-stop : goal.invariant-loop-stop
invariant-loop-stop l = (l.stop ≤ l.stop-end + 1) × Wrote l.initial.out l.out (Ok tt) (stops_bytes (contents l.book) (l.stop - 1) 1)
