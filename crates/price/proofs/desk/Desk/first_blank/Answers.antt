use Rattle.std.proofs.Common.{◌+◌, not, rules}
use Rattle.std.proofs.lemmas.Iterator.{YieldsList-from_slice, YieldsList-from_take}
use Rattle.std.proofs.lemmas.Iterator.Search.{position_from_yields_List}
use Rattle.price.specs.Desks.{answers}
use Rattle.price.specs.Labels.{is_live}
use Rattle.price.proofs.Scans.{free_used}
use Rattle.price.proofs.desk.Desk.first_blank.Goals as goal

pub returns-clause-value : goal.returns-clause-value
returns-clause-value g c =
    let d = c.args.self.now in
    free_used (answers d).start d.used d.store.now d.unused c.position.result (position_from_yields_List (λ l. not (is_live l.status)) _ _ _ c.position.ensures.ran (YieldsList-from_take (d.used + 1) (YieldsList-from_slice d.store.now cc) cc) (λ x b q k. search rules))
