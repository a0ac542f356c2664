use Rattle.std.proofs.Common.{◌^◌, ◌≤◌, nat_abs, sym, ◌∙◌, arith}
use Rattle.std.proofs.lemmas.Int.{ints}
use Rattle.tier.specs.Meaning.{here}
use Rattle.tier.proofs.Walks.{finish_bound}
use Rattle.price.specs.Labels.{view}
use Rattle.price.proofs.Goes.{finishes}
use Rattle.price.proofs.turns.try_finish.Given as given
use Rattle.price.proofs.turns.try_finish.Goals as goal
use Rattle.price.proofs.turns.try_finish.Goals.{In-Some}

home_small : (g : given.Over) (c : In-Some g) → nat_abs c.in-Some.home ≤ 2 ^ 38
home_small g c =
    let t = c.args.tier.now in
    let l = g.met.T.Tier.lawful t (g.T.Tier.value t) here in
    finish_bound (g.T.Tier.meaning.answers (g.T.Tier.value t)) l.interface l.sizes _ _ _ c.requires.stands (sym c.in-Some.ensures)

pub overflow_add-label : goal.overflow_add-label
overflow_add-label g c = let h = home_small g (goal.at.overflow_add-label g c).In-Some in let s = c.requires.small in omega (arith, ints)

pub returns : goal.returns
returns g c =
    let m = g.T.Tier.meaning.answers (g.T.Tier.value c.args.tier.now) in
    let h = home_small g (goal.at.returns g c).In-Some in
    let s = c.requires.small in
    c.lower.ensures ∙ finishes m (view c.args.label.now) c.args.place c.args.best c.in-Some.home _ (λ e. c.if-label-eq0.false e) (sym c.in-Some.ensures) (omega (arith, ints))
