use Rattle.std.proofs.Common.{◌≡◌, ◌+◌, ◌*◌, ◌<◌, length, Some, ap, arith, rules}
use Rattle.std.proofs.lemmas.List.{get_or_default}
use Rattle.std.proofs.lemmas.Bool.{ne_eqb, le-leb}
use Rattle.book.specs.Ranges.{blank_leg}
use Rattle.book.proofs.Fits.{few_stops}
use Rattle.book.proofs.book.Book.leg.Goals as goal

pub returns : goal.returns
returns c =
    let t = c.args.self.now in
    let few = few_stops t.stops t.fleet t.fleets in
    let len : length t.legs ≡ 3721 = search rules in
    let inside : c.args.from * 61 + c.args.to < length t.legs = omega arith in
    let same = get_or_default t.legs (c.args.from * 61 + c.args.to) (record { cost = 0; minutes = 0 }) blank_leg inside in
    let apart = ne_eqb c.args.from c.args.to c.if-from-to.false in
    let from = le-leb c.args.from t.stops c.if-from-self.false in
    let to = le-leb c.args.to t.stops c.if-to-self.false in
    simp (from, to, apart) (ap Some same)
