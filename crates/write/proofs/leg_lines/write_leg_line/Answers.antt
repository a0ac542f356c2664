use Rattle.output.proofs.Lent.{writes, stays}
use Rattle.output.proofs.Loops.{room_after}
use Rattle.write.proofs.leg_lines.write_leg_line.Goals as goal

pub returns : goal.returns
returns c = writes c.in_ok-open_numbered.ensures (writes c.in_ok-write_pairs.ensures c.close_line.ensures)

pub returns-in_err-open_numbered : goal.returns-in_err-open_numbered
returns-in_err-open_numbered c = stays _ _ c.in_err-open_numbered.ensures c.from_residual.ensures.1

pub returns-in_err-write_pairs : goal.returns-in_err-write_pairs
returns-in_err-write_pairs c = writes c.in_ok-open_numbered.ensures (stays _ _ c.in_err-write_pairs.ensures c.from_residual-in_err-write_pairs.ensures.1)

pub write_pairs-requires-clause-room : goal.write_pairs-requires-clause-room
write_pairs-requires-clause-room c = room_after c.in_ok-open_numbered.ensures
