use Rattle.std.proofs.Common.{◌≡◌, ◌^◌, ◌<◌, ◌≤◌, get_or, nat_abs, Some, sym, ◌∙◌, subst, arith}
use Rattle.std.proofs.lemmas.Int.{ints}
use Rattle.tier.specs.Answers.{Standing, at_depot, reached}
use Rattle.tier.specs.Meaning.{here}
use Rattle.tier.specs.Replays.{Went}
use Rattle.tier.specs.Laws.{Laws}
use Rattle.tier.proofs.Options.{plus_zero}
use Rattle.tier.proofs.Walks.{goes_on, barred_here, all_behind, reach_bound}
use Rattle.tier.proofs.replays.go.Given as given
use Rattle.tier.proofs.replays.go.Goals as goal
use Rattle.tier.proofs.replays.go.Goals.{In_ok-next}

abbrev laws_of : (g : given.Over) (t : g.row.T.Denot) → Laws g.T.Tier.meaning (g.T.Tier.value t)
laws_of g t = g.met.T.Tier.lawful t (g.T.Tier.value t) here

pub loop-to-init : goal.loop-to-init
loop-to-init g c =
    let m = g.T.Tier.meaning.answers (g.T.Tier.value c.args.tier.now) in
    let e = c.start-state.ensures in
    (rw e (plus_zero _), subst (Standing m 0) (sym e) at_depot, omega arith)

pub returns-in_err-next : goal.returns-in_err-next
returns-in_err-next g c =
    let m = g.T.Tier.meaning.answers (g.T.Tier.value c.args.tier.now) in
    subst (Went m c.args.route.now) (sym c.from_residual.ensures) (barred_here m _ _ _ _ _ c.loop-to-test.true c.loop-to.invariant.0 (sym c.reach.ensures ∙ c.in_err-next.was))

-- one stop further: the key has risen and stays within the day, and the charge is small
record Moved (g : given.Over) (c : In_ok-next g) : Type 0 where
  rises : (g.T.Tier.meaning.answers (g.T.Tier.value c.args.tier.now)).key c.loop-to.state < (g.T.Tier.meaning.answers (g.T.Tier.value c.args.tier.now)).key c.in_ok-next.next
  in_day : (g.T.Tier.meaning.answers (g.T.Tier.value c.args.tier.now)).key c.in_ok-next.next ≤ 1440
  small : nat_abs c.in_ok-next.charge ≤ 2 ^ 38
  reaches : (g.T.Tier.meaning.answers (g.T.Tier.value c.args.tier.now)).reach c.loop-to.state c.loop-to.from (get_or c.args.route.now c.loop-to.to-index 0) ≡ Some (c.in_ok-next.next, c.in_ok-next.charge)
  stands : Standing (g.T.Tier.meaning.answers (g.T.Tier.value c.args.tier.now)) (get_or c.args.route.now c.loop-to.to-index 0) c.in_ok-next.next

moved : (g : given.Over) (c : In_ok-next g) → Moved g c
moved g c =
    let m = g.T.Tier.meaning.answers (g.T.Tier.value c.args.tier.now) in
    let l = laws_of g c.args.tier.now in
    let stands = c.loop-to.invariant.1 in
    let e = sym c.reach.ensures ∙ c.in_ok-next.was in
    record {
      rises = l.keys.reach_raises_key _ _ _ _ _ stands e;
      in_day = l.keys.key_in_range _ _ (reached _ _ _ stands e);
      small = reach_bound m l.interface l.sizes _ _ _ _ _ stands e;
      reaches = e;
      stands = reached _ _ _ stands e;
    }

pub overflow_add-cost : goal.overflow_add-cost
overflow_add-cost g c = let k = moved g (goal.at.overflow_add-cost g c).In_ok-next in let b = c.loop-to.invariant.2 in omega (arith, ints)

pub loop-to-preserved : goal.loop-to-preserved
loop-to-preserved g c =
    let m = g.T.Tier.meaning.answers (g.T.Tier.value c.args.tier.now) in
    let k = moved g (goal.at.loop-to-preserved g c).In_ok-next in
    let b = c.loop-to.invariant.2 in
    (goes_on m _ _ _ _ _ _ _ _ c.loop-to-test.true c.loop-to.invariant.0 k.reaches (omega (arith, ints)), k.stands, omega (arith, ints))

pub returns : goal.returns
returns g c =
    let m = g.T.Tier.meaning.answers (g.T.Tier.value c.args.tier.now) in
    let l = laws_of g c.args.tier.now in
    let stands = c.loop-to.invariant.1 in
    let d = l.keys.key_in_range _ _ stands in
    let b = c.loop-to.invariant.2 in
    record {
      stands = stands;
      small = omega (arith, ints);
      left = all_behind m _ _ _ _ _ c.loop-to-test.false c.loop-to.invariant.0;
    }
