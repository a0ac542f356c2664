use Rattle.output.proofs.Lent.{writes}
use Rattle.write.proofs.items.open_numbered.Goals as goal

pub returns : goal.returns
returns c = writes c.in_ok-open_line.ensures (writes c.in_ok-bytes.ensures.wrote c.number.ensures.wrote)
