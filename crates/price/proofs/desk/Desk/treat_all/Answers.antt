use Rattle.tier.specs.Meaning.{here}
use Rattle.tier.specs.Laws.{Laws}
use Rattle.price.proofs.Steps.{not_ok}
use Rattle.price.proofs.Along.{starts, ended, few_yet, sound_yet, overfull, goes_along}
use Rattle.price.proofs.desk.Desk.treat_all.Given as given
use Rattle.price.proofs.desk.Desk.treat_all.Goals as goal

abbrev laws_of : (g : given.Over) (t : g.row.T.Denot) → Laws g.T.Tier.meaning (g.T.Tier.value t)
laws_of g t = g.met.T.Tier.lawful t (g.T.Tier.value t) here

pub loop-place-init : goal.loop-place-init
loop-place-init g c = starts c.args.self.now c.requires.begun

pub treat-requires-clause-sound : goal.treat-requires-clause-sound
treat-requires-clause-sound g c =
    let l = laws_of g c.args.self.now.tier.now in
    sound_yet c.args.self.now c.loop-place.self c.loop-place.invariant c.in-Some.place c.in-Some.ensures.first c.requires.few l.sizes l.keys

pub treat-requires-clause-few : goal.treat-requires-clause-few
treat-requires-clause-few g c = few_yet c.args.self.now c.loop-place.self c.loop-place.invariant c.requires.places (laws_of g c.args.self.now.tier.now).sizes.few_stops

pub loop-place-smaller : goal.loop-place-smaller
loop-place-smaller g c = (goes_along c.args.self.now c.loop-place.self c.loop-place.invariant c.in-Some.place c.in-Some.ensures.first c.treat.new.self c.requires.places c.in_ok-treat.ensures).1

pub loop-place-preserved : goal.loop-place-preserved
loop-place-preserved g c = (goes_along c.args.self.now c.loop-place.self c.loop-place.invariant c.in-Some.place c.in-Some.ensures.first c.treat.new.self c.requires.places c.in_ok-treat.ensures).0

pub returns-in_err-treat-clause-comes : goal.returns-in_err-treat-clause-comes
returns-in_err-treat-clause-comes g c = overfull c.args.self.now c.loop-place.self c.loop-place.invariant c.in-Some.place c.in-Some.ensures.first c.treat.new.self c.requires.places _ (not_ok c.from_residual.result c.from_residual.ensures.0) c.in_err-treat.ensures

pub returns-clause-comes : goal.returns-clause-comes
returns-clause-comes g c = ended c.args.self.now c.loop-place.self c.loop-place.invariant c.in_default.ensures.first
