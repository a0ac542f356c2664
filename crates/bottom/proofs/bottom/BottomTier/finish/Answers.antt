use Rattle.std.proofs.Common.{rules}
use Rattle.book.specs.Books.{contents}
use Rattle.bottom.proofs.bottom.BottomTier.finish.Goals as goal

pub returns-in_err-home : goal.returns-in_err-home
returns-in_err-home g c =
    let cost = g.met.R.Rules.homes (contents c.args.self.now.book) c.args.state c.args.from in
    search rules

pub returns : goal.returns
returns g c =
    let cost = g.met.R.Rules.homes (contents c.args.self.now.book) c.args.state c.args.from in
    search rules
