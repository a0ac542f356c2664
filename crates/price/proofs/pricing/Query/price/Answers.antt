use Rattle.std.proofs.Common.{arith}
use Rattle.price.proofs.Endings.{prices}
use Rattle.price.proofs.pricing.Query.price.Goals as goal

pub returns : goal.returns
returns g c = prices (g.T.Tier.meaning.answers (g.T.Tier.value c.args.self.now.pile.now)) c.args.self.now.vans c.args.store.now c.args.row.now c.requires c.label_all.new.store c.in_ok-progress.progress c.in_ok-progress.ensures c.tell.result c.tell.new.row (omega arith) c.tell.ensures
