use Rattle.output.proofs.Lent.{writes}
use Rattle.write.proofs.items.open_line.Goals as goal

pub returns : goal.returns
returns c = writes c.in_ok-bytes.ensures.wrote c.write_word.ensures
