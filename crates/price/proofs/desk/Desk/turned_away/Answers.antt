use Rattle.std.proofs.Common.{take, refl, ◌∙◌, rules}
use Rattle.std.proofs.lemmas.Iterator.{YieldsList-from_slice}
use Rattle.std.proofs.lemmas.Iterator.Search.{any_from_yields_List}
use Rattle.price.specs.Desks.{answers}
use Rattle.price.specs.Places.{blocks}
use Rattle.price.proofs.Scans.{any_used}
use Rattle.price.proofs.desk.Desk.turned_away.Goals as goal

pub returns : goal.returns
returns g c =
    let d = c.args.self.now in
    let p = blocks (answers d) c.args.offered.now in
    any_from_yields_List p _ _ _ c.any.ensures.ran (YieldsList-from_slice (take d.used d.store.now) cc) (λ x b q k. search rules)
    ∙ any_used (answers d).start d.used d.store.now p d.unused refl
