use Rattle.std.proofs.Common.{◌≡◌, suc, ◌+◌, ◌-◌, sym, refl, ap, ◌∙◌, arith}
use Rattle.text.proofs.Loops.{again, faulty, whole}
use Rattle.book.specs.Books.{Contents, contents, with_leg}
use Rattle.deck.specs.Lines.{leg_pair}
use Rattle.deck.proofs.LegLoop.{taken, put, leg_keeps}
use Rattle.deck.proofs.reading.Reading.read_pairs.Goals as goal

pub loop-to-init : goal.loop-to-init
loop-to-init c =
    let known = c.stops-to-end.ensures in
    let all : c.stops-to-end.result + 1 - 0 ≡ suc c.args.self.now.book.stops = omega arith in
    (sym known, λ g after r rest. rw all at rest)

pub unwrap-requires : goal.unwrap-requires
unwrap-requires c =
    c.put_leg.ensures.answer ∙ taken (contents c.loop-to.self.book) c.stops-to-end.result c.args.from c.loop-to.to c.loop-to.invariant.0 (omega (arith, c.requires)) c.loop-to-test.true c.in_ok-leg.ensures

pub loop-to-preserved : goal.loop-to-preserved
loop-to-preserved c =
    let inv = c.loop-to.invariant in
    let is = put (contents c.loop-to.self.book) c.stops-to-end.result c.args.from c.loop-to.to inv.0 (omega (arith, c.requires)) c.loop-to-test.true c.in_ok-leg.ensures c.put_leg.ensures.book in (
      ap (λ (x : Contents). x.stops) is ∙ leg_keeps (contents c.loop-to.self.book) c.args.from c.loop-to.to c.in_ok-leg.leg ∙ inv.0,
      again (λ b j. leg_pair c.args.from j) (λ b j leg. with_leg b c.args.from j leg) _ _ (contents c.loop-to.self.book) c.loop-to.to (c.stops-to-end.result + 1 - c.loop-to.to) (c.stops-to-end.result + 1 - (c.loop-to.to + 1)) (omega arith) inv.1 c.in_ok-leg.ensures is,
    )

pub returns-in_err-leg : goal.returns-in_err-leg
returns-in_err-leg c =
    faulty (λ b j. leg_pair c.args.from j) (λ b j leg. with_leg b c.args.from j leg) _ _ (contents c.loop-to.self.book) c.loop-to.to (c.stops-to-end.result + 1 - c.loop-to.to) (c.stops-to-end.result - c.loop-to.to) _ _ (omega arith) c.loop-to.invariant.1 c.in_err-leg.ensures c.from_residual.ensures.1

pub returns-in_ok-leg : goal.returns-in_ok-leg
returns-in_ok-leg c =
    let inv = c.loop-to.invariant in
    let is = put (contents c.loop-to.self.book) c.stops-to-end.result c.args.from c.loop-to.to inv.0 (omega (arith, c.requires)) c.loop-to-test.true c.in_ok-leg.ensures c.put_leg.ensures.book in
    whole (λ b j. leg_pair c.args.from j) (λ b j leg. with_leg b c.args.from j leg) _ _ (contents c.put_leg.new.self) (c.loop-to.to + 1) 0 refl (again (λ b j. leg_pair c.args.from j) (λ b j leg. with_leg b c.args.from j leg) _ _ (contents c.loop-to.self.book) c.loop-to.to (c.stops-to-end.result + 1 - c.loop-to.to) 0 (omega arith) inv.1 c.in_ok-leg.ensures is)
