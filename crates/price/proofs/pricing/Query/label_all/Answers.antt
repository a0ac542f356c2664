use Rattle.std.proofs.Common.{length, arith}
use Rattle.std.proofs.lemmas.Grind.{common_steps}
use Rattle.price.proofs.Endings.{labelled_ok}
use Rattle.price.proofs.pricing.Query.label_all.Goals as goal

pub returns-in-Ok : goal.returns-in-Ok
returns-in-Ok g c = labelled_ok g.T.Tier c.args.self.now.pile (length c.args.store.now) c.begin-desk.result c.treat_all.new.self _ c.begin-desk.ensures.tier c.begin-desk.ensures.begun.long (grind (arith, common_steps, c.in-Ok.ensures.lent, c.begin-desk.ensures.lent)) c.in-Ok.ensures.comes
