use Rattle.output.proofs.Lent.{writes}
use Rattle.write.proofs.stop_lines.write_window.Goals as goal

pub returns : goal.returns
returns c = rw (c.from.ensures, c.from-2.ensures) at (writes c.in_ok-open_item.ensures (writes c.in_ok-number.ensures.wrote (writes c.in_ok-bytes.ensures.wrote (writes c.in_ok-number-2.ensures.wrote c.bytes-2.ensures.wrote))))
