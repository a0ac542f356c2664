use Rattle.std.proofs.Common.{◌≡◌, ◌*◌, ◌^◌, ◌≤◌, drop, nat_abs}
use Rattle.tier.specs.Answers.{Standing}
use Rattle.tier.specs.Routes.{plus, replay_from, reduced_cost}
use Rattle.tier.proofs.replays.go.Given as goal

-- what is left of the route costs what the whole does, less the cost so far
abbrev pub invariant-loop-to : goal.invariant-loop-to
invariant-loop-to g l =
    let m = g.T.Tier.meaning.answers (g.T.Tier.value l.tier) in
    (reduced_cost m l.route ≡ plus l.cost (replay_from m l.state l.from (drop l.to-index l.route))) × Standing m l.from l.state × (nat_abs l.cost ≤ m.key l.state * 2 ^ 38)
