use Rattle.std.proofs.Common.{sym, refl, ◌∙◌}
use Rattle.tier.specs.Meaning.{here}
use Rattle.tier.specs.Laws.{Laws}
use Rattle.price.specs.Desks.{answers, so_far}
use Rattle.price.proofs.Goes.{charged, goes}
use Rattle.price.proofs.desk.Desk.go_on.Given as given
use Rattle.price.proofs.desk.Desk.go_on.Goals as goal

abbrev laws_of : (g : given.Over) (t : g.row.T.Denot) → Laws g.T.Tier.meaning (g.T.Tier.value t)
laws_of g t = g.met.T.Tier.lawful t (g.T.Tier.value t) here

pub overflow_add-label : goal.overflow_add-label
overflow_add-label g c =
    let d = c.args.self.now in
    let l = laws_of g d.tier.now in
    (charged (answers d) l.interface l.sizes c.args.label.now c.args.stop _ c.requires.sound c.in-Some.ensures).0

pub returns : goal.returns
returns g c =
    let d = c.args.self.now in
    let l = laws_of g d.tier.now in
    record {
      tier = c.offer.ensures.tier;
      store = c.offer.ensures.store;
      is = c.offer.ensures.is ∙ goes (answers d) c.args.label.now c.args.place c.args.stop d.progress.counts.kept (so_far d) _ _ (sym c.in-Some.ensures) (charged (answers d) l.interface l.sizes c.args.label.now c.args.stop _ c.requires.sound c.in-Some.ensures).1 refl;
    }
