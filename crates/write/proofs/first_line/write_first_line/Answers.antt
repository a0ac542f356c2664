use Rattle.output.proofs.Lent.{writes}
use Rattle.write.proofs.first_line.write_first_line.Goals as goal

pub returns : goal.returns
returns c = rw (c.from.ensures, c.from-2.ensures, c.from-3.ensures, c.from-4.ensures) at (writes c.in_ok-open_line.ensures (writes c.in_ok-write_item.ensures (writes c.in_ok-write_item-2.ensures (writes c.in_ok-write_item-3.ensures (writes c.in_ok-write_item-4.ensures (writes c.in_ok-write_item-5.ensures c.close_line.ensures))))))
