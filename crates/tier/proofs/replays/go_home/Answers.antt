use Rattle.std.proofs.Common.{◌^◌, ◌≤◌, nat_abs, Some, sym, ap, ◌∙◌, arith}
use Rattle.std.proofs.lemmas.Int.{ints}
use Rattle.tier.specs.Meaning.{here}
use Rattle.tier.specs.Routes.{plus}
use Rattle.tier.proofs.Walks.{finish_bound}
use Rattle.tier.proofs.replays.go_home.Given as given
use Rattle.tier.proofs.replays.go_home.Goals as goal
use Rattle.tier.proofs.replays.go_home.Goals.{In_ok-home}

home_small : (g : given.Over) (c : In_ok-home g) → nat_abs c.in_ok-home.home ≤ 2 ^ 38
home_small g c =
    let t = c.args.tier.now in
    let m = g.T.Tier.meaning.answers (g.T.Tier.value t) in
    let l = g.met.T.Tier.lawful t (g.T.Tier.value t) here in
    finish_bound m l.interface l.sizes _ _ _ c.requires.stands (sym c.finish.ensures ∙ c.in_ok-home.was)

pub overflow_add-result : goal.overflow_add-result
overflow_add-result g c =
    let h = home_small g (goal.at.overflow_add-result g c).In_ok-home in
    let s = c.requires.small in
    omega (arith, ints)

pub returns : goal.returns
returns g c =
    let h = home_small g (goal.at.returns g c).In_ok-home in
    let s = c.requires.small in
    let e = sym c.finish.ensures ∙ c.in_ok-home.was in
    sym (ap (plus c.args.cost) e ∙ ap Some (omega (arith, ints)))
