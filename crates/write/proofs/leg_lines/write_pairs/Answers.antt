use Rattle.std.proofs.Common.{suc, ◌+◌, arith}
use Rattle.output.proofs.Loops.{more, cut}
use Rattle.book.specs.Books.{contents, leg_at}
use Rattle.deck.specs.Bytes.{leg_bytes}
use Rattle.write.proofs.Looking.{leg_written}
use Rattle.write.proofs.leg_lines.write_pairs.Goals as goal

pub returns-in_err-write_leg : goal.returns-in_err-write_leg
returns-in_err-write_leg c =
    let b = contents c.args.book.now in
    let i = c.args.from in
    let j = c.loop-to.to in
    let known = c.stops-to-end.ensures in
    let w = leg_written b i j c.unwrap.ensures c.leg.ensures c.in_err-write_leg.ensures in
    cut (λ k. leg_bytes (leg_at b i k)) j (suc b.stops) 0 j c.from_residual.result (omega arith) (omega arith) c.loop-to.invariant w c.from_residual.ensures.1

pub loop-to-preserved : goal.loop-to-preserved
loop-to-preserved c =
    let b = contents c.args.book.now in
    let i = c.args.from in
    let j = c.loop-to.to in
    let w = leg_written b i j c.unwrap.ensures c.leg.ensures c.in_ok-write_leg.ensures in
    more (λ k. leg_bytes (leg_at b i k)) j (j + 1) 0 j (omega arith) (omega arith) c.loop-to.invariant w

pub returns-in_ok-write_leg : goal.returns-in_ok-write_leg
returns-in_ok-write_leg c =
    let b = contents c.args.book.now in
    let i = c.args.from in
    let j = c.loop-to.to in
    let known = c.stops-to-end.ensures in
    let w = leg_written b i j c.unwrap.ensures c.leg.ensures c.in_ok-write_leg.ensures in
    more (λ k. leg_bytes (leg_at b i k)) j (suc b.stops) 0 j (omega arith) (omega arith) c.loop-to.invariant w
