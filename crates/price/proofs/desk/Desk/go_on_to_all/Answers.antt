use Rattle.std.proofs.Common.{◌+◌, ◌≤◌, arith}
use Rattle.tier.specs.Meaning.{here}
use Rattle.price.proofs.Steps.{not_ok, few_still, goes_on, breaks_off, arrives}
use Rattle.price.proofs.desk.Desk.go_on_to_all.Given as given
use Rattle.price.proofs.desk.Desk.go_on_to_all.Goals as goal

few_stops : (g : given.Over) (t : g.row.T.Denot) → (g.T.Tier.meaning.answers (g.T.Tier.value t)).stops ≤ 60
few_stops g t = (g.met.T.Tier.lawful t (g.T.Tier.value t) here).sizes.few_stops

pub go_on-requires-clause-few : goal.go_on-requires-clause-few
go_on-requires-clause-few g c =
    let n = few_stops g c.args.self.now.tier.now in
    let s = c.stops-stop-end.ensures in
    let t = c.loop-stop-test.true in
    few_still c.args.self.now c.args.label.now c.args.place c.loop-stop.self c.loop-stop.stop c.loop-stop.invariant (omega arith)

pub returns-in_err-go_on : goal.returns-in_err-go_on
returns-in_err-go_on g c =
    let s = c.stops-stop-end.ensures in
    let t = c.loop-stop-test.true in
    breaks_off c.args.self.now c.args.label.now c.args.place c.loop-stop.self c.loop-stop.stop c.loop-stop.invariant c.go_on.new.self (omega arith) _ (not_ok c.from_residual.result c.from_residual.ensures.0) c.in_err-go_on.ensures

pub loop-stop-preserved : goal.loop-stop-preserved
loop-stop-preserved g c =
    let s = c.stops-stop-end.ensures in
    let t = c.loop-stop-test.true in
    goes_on c.args.self.now c.args.label.now c.args.place c.loop-stop.self c.loop-stop.stop c.loop-stop.invariant c.go_on.new.self (omega arith) c.in_ok-go_on.ensures

pub returns-in_ok-go_on : goal.returns-in_ok-go_on
returns-in_ok-go_on g c =
    let s = c.stops-stop-end.ensures in
    let t = c.loop-stop-test.true in
    let e = goes_on c.args.self.now c.args.label.now c.args.place c.loop-stop.self c.loop-stop.stop c.loop-stop.invariant c.go_on.new.self (omega arith) c.in_ok-go_on.ensures in
    arrives c.args.self.now c.args.label.now c.args.place c.go_on.new.self (c.loop-stop.stop + 1) e (omega arith)
