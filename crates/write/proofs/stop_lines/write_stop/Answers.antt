use Rattle.output.proofs.Lent.{writes}
use Rattle.write.proofs.stop_lines.write_stop.Goals as goal

pub returns : goal.returns
returns c = rw c.from.ensures at (writes c.in_ok-open_numbered.ensures (writes c.in_ok-write_window.ensures (writes c.in_ok-write_item.ensures (writes c.in_ok-write_charger.ensures c.close_line.ensures))))
