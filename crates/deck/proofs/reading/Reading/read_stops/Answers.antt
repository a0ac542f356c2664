use Rattle.std.proofs.Common.{◌≡◌, ◌+◌, ◌-◌, sym, refl, ap, ◌∙◌, arith}
use Rattle.text.proofs.Loops.{again, faulty, whole}
use Rattle.book.specs.Books.{Contents, contents, with_visit}
use Rattle.deck.specs.Lines.{stop_line}
use Rattle.deck.proofs.StopLoop.{taken, put}
use Rattle.deck.proofs.reading.Reading.read_stops.Goals as goal

pub loop-stop-init : goal.loop-stop-init
loop-stop-init c =
    let known = c.stops-stops.ensures in
    let all : c.stops-stops.result + 1 - 1 ≡ c.args.self.now.book.stops = omega arith in
    (sym known, λ g after r rest. rw all at rest)

pub unwrap-requires : goal.unwrap-requires
unwrap-requires c =
    c.put_visit.ensures.answer ∙ taken (contents c.loop-stop.self.book) c.stops-stops.result c.loop-stop.stop c.loop-stop.invariant.0 (omega arith) c.loop-stop-test.true c.in_ok-visit.ensures

pub loop-stop-preserved : goal.loop-stop-preserved
loop-stop-preserved c =
    let inv = c.loop-stop.invariant in
    let line = rw (sym inv.0) at c.in_ok-visit.ensures in
    let is = put (contents c.loop-stop.self.book) c.stops-stops.result c.loop-stop.stop inv.0 (omega arith) c.loop-stop-test.true c.in_ok-visit.ensures c.put_visit.ensures.book in (
      ap (λ (x : Contents). x.stops) is ∙ inv.0,
      again (λ b j. stop_line b.stops j) with_visit _ _ (contents c.loop-stop.self.book) c.loop-stop.stop (c.stops-stops.result + 1 - c.loop-stop.stop) (c.stops-stops.result + 1 - (c.loop-stop.stop + 1)) (omega arith) inv.1 line is,
    )

pub returns-in_err-visit : goal.returns-in_err-visit
returns-in_err-visit c =
    let line = rw (sym c.loop-stop.invariant.0) at c.in_err-visit.ensures in
    faulty (λ b j. stop_line b.stops j) with_visit _ _ (contents c.loop-stop.self.book) c.loop-stop.stop (c.stops-stops.result + 1 - c.loop-stop.stop) (c.stops-stops.result - c.loop-stop.stop) _ _ (omega arith) c.loop-stop.invariant.1 line c.from_residual.ensures.1

pub returns-in_ok-visit : goal.returns-in_ok-visit
returns-in_ok-visit c =
    let inv = c.loop-stop.invariant in
    let line = rw (sym inv.0) at c.in_ok-visit.ensures in
    let is = put (contents c.loop-stop.self.book) c.stops-stops.result c.loop-stop.stop inv.0 (omega arith) c.loop-stop-test.true c.in_ok-visit.ensures c.put_visit.ensures.book in
    whole (λ b j. stop_line b.stops j) with_visit _ _ (contents c.put_visit.new.self) (c.loop-stop.stop + 1) 0 refl (again (λ b j. stop_line b.stops j) with_visit _ _ (contents c.loop-stop.self.book) c.loop-stop.stop (c.stops-stops.result + 1 - c.loop-stop.stop) 0 (omega arith) inv.1 line is)

pub returns : goal.returns
returns c = whole (λ b j. stop_line b.stops j) with_visit _ _ (contents c.loop-stop.self.book) c.loop-stop.stop (c.stops-stops.result + 1 - c.loop-stop.stop) (omega arith) c.loop-stop.invariant.1
