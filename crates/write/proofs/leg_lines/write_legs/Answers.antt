use Rattle.std.proofs.Common.{suc, ◌+◌, arith}
use Rattle.output.proofs.Loops.{more, cut}
use Rattle.book.specs.Books.{contents}
use Rattle.deck.specs.Bytes.{leg_line_bytes}
use Rattle.write.proofs.leg_lines.write_legs.Goals as goal

pub returns-in_err-write_leg_line : goal.returns-in_err-write_leg_line
returns-in_err-write_leg_line c =
    let b = contents c.args.book.now in
    let i = c.loop-from.from in
    let known = c.stops-from-end.ensures in
    cut (leg_line_bytes b) i (suc b.stops) 0 i c.from_residual.result (omega arith) (omega arith) c.loop-from.invariant c.in_err-write_leg_line.ensures c.from_residual.ensures.1

pub loop-from-preserved : goal.loop-from-preserved
loop-from-preserved c =
    let i = c.loop-from.from in
    more (leg_line_bytes (contents c.args.book.now)) i (i + 1) 0 i (omega arith) (omega arith) c.loop-from.invariant c.in_ok-write_leg_line.ensures

pub returns-in_ok-write_leg_line : goal.returns-in_ok-write_leg_line
returns-in_ok-write_leg_line c =
    let b = contents c.args.book.now in
    let i = c.loop-from.from in
    let known = c.stops-from-end.ensures in
    more (leg_line_bytes b) i (suc b.stops) 0 i (omega arith) (omega arith) c.loop-from.invariant c.in_ok-write_leg_line.ensures
