use Rattle.std.proofs.Common.{◌≡◌, ◌+◌, ◌-◌, arith}
use Rattle.output.proofs.Loops.{more, cut}
use Rattle.book.specs.Books.{contents, visit_at}
use Rattle.deck.specs.Bytes.{stop_bytes}
use Rattle.write.proofs.Looking.{visit_written}
use Rattle.write.proofs.stop_lines.write_stops.Goals as goal

pub returns-in_err-write_stop : goal.returns-in_err-write_stop
returns-in_err-write_stop c =
    let b = contents c.args.book.now in
    let j = c.loop-stop.stop in
    let known = c.stops-stop-end.ensures in
    let w = visit_written b j c.unwrap.ensures c.visit.ensures c.in_err-write_stop.ensures in
    cut (λ k. stop_bytes k (visit_at b k)) (j - 1) b.stops 1 j c.from_residual.result (omega arith) (omega arith) c.loop-stop.invariant.1 w c.from_residual.ensures.1

pub loop-stop-preserved : goal.loop-stop-preserved
loop-stop-preserved c =
    let b = contents c.args.book.now in
    let j = c.loop-stop.stop in
    let w = visit_written b j c.unwrap.ensures c.visit.ensures c.in_ok-write_stop.ensures in
    (omega arith, more (λ k. stop_bytes k (visit_at b k)) (j - 1) (j + 1 - 1) 1 j (omega arith) (omega arith) c.loop-stop.invariant.1 w)

pub returns-in_ok-write_stop : goal.returns-in_ok-write_stop
returns-in_ok-write_stop c =
    let b = contents c.args.book.now in
    let j = c.loop-stop.stop in
    let known = c.stops-stop-end.ensures in
    let w = visit_written b j c.unwrap.ensures c.visit.ensures c.in_ok-write_stop.ensures in
    more (λ k. stop_bytes k (visit_at b k)) (j - 1) b.stops 1 j (omega arith) (omega arith) c.loop-stop.invariant.1 w

pub returns : goal.returns
returns c =
    let known = c.stops-stop-end.ensures in
    let all : c.args.book.now.stops ≡ c.loop-stop.stop - 1 = omega arith in
    rw all c.loop-stop.invariant.1
