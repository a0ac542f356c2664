use Rattle.std.proofs.Common.{[], ◌∷◌, map, IfErr, Ok, Err, Result, vec_items, ap, ◌∙◌}
use Rattle.std.proofs.lemmas.List.{map-append}
use Rattle.calls.specs.Promises.{Promises}
use Rattle.calls.proofs.Runs.{keeps_promise}
use Rattle.sitting.specs.Answers.{called, meant}
use Rattle.sitting.proofs.Steps.{answered_more, left_more, left_so_far, cut_short, carried}
use Rattle.sitting.proofs.Sitting.make_all.Given as given
use Rattle.sitting.proofs.Sitting.make_all.Goals as goal

promised : (g : given.Over) (pile : g.row.T.Denot) → Promises g.T.Tier.meaning (g.T.Tier.value pile)
promised g pile vans = keeps_promise g.T.Tier.meaning vans (g.T.Tier.value pile) (g.met.T.Tier.lawful pile)

failed_so : {X Y H : Type 0} (r : Result X Y) → H → IfErr r (λ _. H)
failed_so (Ok x) h = tt
failed_so (Err y) h = h

pub loop-call-preserved : goal.loop-call-preserved
loop-call-preserved g c =
    let d = g.T.Tier.meaning in
    let vans = c.args.self.now.vans in
    let inv = c.loop-call.invariant in
    let xs = vec_items c.loop-call.answers in
    let v = g.T.Tier.value c.loop-call.self.pile in
    let w = g.T.Tier.value c.make.new.self.pile in
    let cs = c.args.calls.now in
    let i = c.loop-call.call-index in
    let h = c.loop-call-test.true in
    let num = c.loop-call.self.vans in (
      answered_more d vans called cs i _ h num inv.2 v w c.make.ensures.after (map meant xs) (map meant (vec_items c.push.new.self)) _ (meant c.in_ok-answer.answer) (ap (map meant) c.in_ok-push.ensures.items ∙ map-append meant xs (c.in_ok-answer.answer ∷ [])) c.in_ok-answer.ensures.answer inv.0,
      left_more d vans called cs i _ h num inv.2 v w c.make.ensures.after _ inv.1,
      c.make.ensures.vans ∙ inv.2,
      left_so_far d vans called cs i _ h num inv.2 v w c.make.ensures.after _ inv.3,
    )

pub returns-clause-carried : goal.returns-clause-carried
returns-clause-carried g c =
    let inv = c.loop-call.invariant in
    carried g.T.Tier.meaning c.args.self.now.vans called (g.T.Tier.value c.args.self.now.pile) (g.T.Tier.value c.loop-call.self.pile) c.args.calls.now c.loop-call.call-index (map meant (vec_items c.loop-call.answers)) (g.met.T.Tier.lawful c.args.self.now.pile) c.loop-call-test.false inv.0 inv.1

pub returns-clause-promise : goal.returns-clause-promise
returns-clause-promise g c = promised g c.args.self.now.pile c.args.self.now.vans (map called c.args.calls.now)

pub returns-in_err-answer-clause-cut_short : goal.returns-in_err-answer-clause-cut_short
returns-in_err-answer-clause-cut_short g c =
    let inv = c.loop-call.invariant in
    failed_so c.from_residual.result (cut_short g.T.Tier.meaning c.args.self.now.vans called c.args.calls.now c.loop-call.call-index _ c.loop-call-test.true c.loop-call.self.vans inv.2 (g.T.Tier.value c.loop-call.self.pile) _ c.make.ensures.after (g.T.Tier.value c.args.self.now.pile) (g.met.T.Tier.lawful c.args.self.now.pile) inv.3)

pub returns-in_err-answer-clause-promise : goal.returns-in_err-answer-clause-promise
returns-in_err-answer-clause-promise g c = promised g c.args.self.now.pile c.args.self.now.vans (map called c.args.calls.now)

pub returns-in_err-push-clause-cut_short : goal.returns-in_err-push-clause-cut_short
returns-in_err-push-clause-cut_short g c =
    let inv = c.loop-call.invariant in
    failed_so c.from_residual-in_err-push.result (cut_short g.T.Tier.meaning c.args.self.now.vans called c.args.calls.now c.loop-call.call-index _ c.loop-call-test.true c.loop-call.self.vans inv.2 (g.T.Tier.value c.loop-call.self.pile) _ c.make.ensures.after (g.T.Tier.value c.args.self.now.pile) (g.met.T.Tier.lawful c.args.self.now.pile) inv.3)

pub returns-in_err-push-clause-promise : goal.returns-in_err-push-clause-promise
returns-in_err-push-clause-promise g c = promised g c.args.self.now.pile c.args.self.now.vans (map called c.args.calls.now)
