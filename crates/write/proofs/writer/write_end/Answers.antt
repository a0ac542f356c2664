use Rattle.output.proofs.Lent.{writes}
use Rattle.write.proofs.writer.write_end.Goals as goal

pub returns : goal.returns
returns c = writes c.in_ok-open_line.ensures c.close_line.ensures
