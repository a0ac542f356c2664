use Rattle.calls.specs.Promises.{Promises}
use Rattle.calls.proofs.Runs.{keeps_promise}
use Rattle.calls.proofs.refuse_early.Given as given
use Rattle.calls.proofs.refuse_early.Goals as goal

promised : (g : given.Over) (pile : g.row.T.Denot) → Promises g.T.Tier.meaning (g.T.Tier.value pile)
promised g pile vans = keeps_promise g.T.Tier.meaning vans (g.T.Tier.value pile) (g.met.T.Tier.lawful pile)

pub returns-then-tiers-gt-MOST_TIERS-clause-promises : goal.returns-then-tiers-gt-MOST_TIERS-clause-promises
returns-then-tiers-gt-MOST_TIERS-clause-promises g c = promised g c.args.pile.now

pub returns-then-not-contains-clause-promises : goal.returns-then-not-contains-clause-promises
returns-then-not-contains-clause-promises g c = promised g c.args.pile.now

pub returns-then-stops-eq0-clause-promises : goal.returns-then-stops-eq0-clause-promises
returns-then-stops-eq0-clause-promises g c = promised g c.args.pile.now

pub returns-then-row-lt-ROW_LENGTH-clause-promises : goal.returns-then-row-lt-ROW_LENGTH-clause-promises
returns-then-row-lt-ROW_LENGTH-clause-promises g c = promised g c.args.pile.now

pub returns-clause-promises : goal.returns-clause-promises
returns-clause-promises g c = promised g c.args.pile.now
