use Rattle.std.proofs.Common.{◌≡◌, ◌++◌, map, take, drop, vec_items}
use Rattle.calls.specs.Calls.{run, left}
use Rattle.sitting.specs.Answers.{called, meant}
use Rattle.sitting.proofs.Sitting.make_all.Given as goal

abbrev pub invariant-loop-call : goal.invariant-loop-call
invariant-loop-call g l =
    let d = g.T.Tier.meaning in
    let vans = l.initial.self.vans in
    let first = g.T.Tier.value l.initial.self.pile in
    let here = g.T.Tier.value l.self.pile in
    (map meant (vec_items l.answers) ++ map (λ e. e.answer) (run d vans here (map called (drop l.call-index l.calls))) ≡ map (λ e. e.answer) (run d vans first (map called l.calls)))
    × (left d vans here (map called (drop l.call-index l.calls)) ≡ left d vans first (map called l.calls))
    × (l.self.vans ≡ vans)
    × (here ≡ left d vans first (map called (take l.call-index l.calls)))
