use Rattle.output.proofs.Lent.{writes}
use Rattle.write.proofs.items.open_item.Goals as goal

pub returns : goal.returns
returns c = writes c.in_ok-bytes.ensures.wrote (writes c.in_ok-write_word.ensures c.bytes-2.ensures.wrote)
