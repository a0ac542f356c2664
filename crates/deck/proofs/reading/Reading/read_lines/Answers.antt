use Rattle.std.proofs.Common.{arith}
use Rattle.deck.proofs.Opening.{taken}
use Rattle.deck.proofs.reading.Reading.read_lines.Goals as goal

pub unwrap-self-requires : goal.unwrap-self-requires
unwrap-self-requires c = let fits = taken c.in_ok-first.ensures in grind arith
