use Rattle.output.proofs.Lent.{writes, stays}
use Rattle.output.proofs.Loops.{room_after}
use Rattle.write.proofs.writer.write_lines.Goals as goal

pub returns-in_err-write_first_line : goal.returns-in_err-write_first_line
returns-in_err-write_first_line c =
    let w = rw (c.stops.ensures, c.fleet.ensures) at c.in_err-write_first_line.ensures in
    stays _ _ w c.from_residual.ensures.1

pub returns-in_err-write_stops : goal.returns-in_err-write_stops
returns-in_err-write_stops c =
    let w = rw (c.stops.ensures, c.fleet.ensures) at c.in_ok-write_first_line.ensures in
    writes w (stays _ _ c.in_err-write_stops.ensures c.from_residual-in_err-write_stops.ensures.1)

pub returns-in_err-write_legs : goal.returns-in_err-write_legs
returns-in_err-write_legs c =
    let w = rw (c.stops.ensures, c.fleet.ensures) at c.in_ok-write_first_line.ensures in
    writes w (writes c.in_ok-write_stops.ensures (stays _ _ c.in_err-write_legs.ensures c.from_residual-in_err-write_legs.ensures.1))

pub returns : goal.returns
returns c =
    let w = rw (c.stops.ensures, c.fleet.ensures) at c.in_ok-write_first_line.ensures in
    writes w (writes c.in_ok-write_stops.ensures (writes c.in_ok-write_legs.ensures c.write_end.ensures))

pub write_stops-requires : goal.write_stops-requires
write_stops-requires c = room_after c.in_ok-write_first_line.ensures

pub write_legs-requires : goal.write_legs-requires
write_legs-requires c = room_after c.in_ok-write_stops.ensures
