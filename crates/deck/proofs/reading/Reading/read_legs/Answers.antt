use Rattle.std.proofs.Common.{◌≡◌, suc, ◌+◌, ◌-◌, sym, refl, ◌∙◌, arith}
use Rattle.text.proofs.Loops.{again, faulty, whole}
use Rattle.book.specs.Books.{contents}
use Rattle.deck.specs.Lines.{leg_line}
use Rattle.deck.proofs.LegLoop.{kept}
use Rattle.deck.proofs.reading.Reading.read_legs.Goals as goal

pub loop-from-init : goal.loop-from-init
loop-from-init c =
    let known = c.stops-from-end.ensures in
    let all : c.stops-from-end.result + 1 - 0 ≡ suc c.args.self.now.book.stops = omega arith in
    (sym known, λ g after r rest. rw all at rest)

pub read_leg_line-requires : goal.read_leg_line-requires
read_leg_line-requires c = let known = c.loop-from.invariant.0 in omega arith

pub loop-from-preserved : goal.loop-from-preserved
loop-from-preserved c =
    let inv = c.loop-from.invariant in
    let line = c.in_ok-read_leg_line.ensures in (
      kept (contents c.loop-from.self.book) c.loop-from.from line ∙ inv.0,
      again leg_line (λ b i c. c) _ _ (contents c.loop-from.self.book) c.loop-from.from (c.stops-from-end.result + 1 - c.loop-from.from) (c.stops-from-end.result + 1 - (c.loop-from.from + 1)) (omega arith) inv.1 line refl,
    )

pub returns-in_err-read_leg_line : goal.returns-in_err-read_leg_line
returns-in_err-read_leg_line c =
    faulty leg_line (λ b i c. c) _ _ (contents c.loop-from.self.book) c.loop-from.from (c.stops-from-end.result + 1 - c.loop-from.from) (c.stops-from-end.result - c.loop-from.from) _ _ (omega arith) c.loop-from.invariant.1 c.in_err-read_leg_line.ensures c.from_residual.ensures.1

pub returns-in_ok-read_leg_line : goal.returns-in_ok-read_leg_line
returns-in_ok-read_leg_line c =
    whole leg_line (λ b i c. c) _ _ (contents c.read_leg_line.new.self.book) (c.loop-from.from + 1) 0 refl (again leg_line (λ b i c. c) _ _ (contents c.loop-from.self.book) c.loop-from.from (c.stops-from-end.result + 1 - c.loop-from.from) 0 (omega arith) c.loop-from.invariant.1 c.in_ok-read_leg_line.ensures refl)
