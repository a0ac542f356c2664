use Rattle.output.proofs.Lent.{writes}
use Rattle.write.proofs.items.write_item.Goals as goal

pub returns : goal.returns
returns c = writes c.in_ok-open_item.ensures (writes c.in_ok-number.ensures.wrote c.bytes.ensures.wrote)
