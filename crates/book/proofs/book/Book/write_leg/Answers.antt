use Rattle.std.proofs.Common.{◌+◌, ◌*◌, ◌∙◌, arith, length-set}
use Rattle.book.specs.Books.{contents}
use Rattle.book.proofs.Fits.{few_stops, apart_of, legs_put, taken_leg}
use Rattle.book.proofs.book.Book.write_leg.Goals as goal

pub overflow_mul-leg : goal.overflow_mul-leg
overflow_mul-leg c =
    let t = c.args.self.now in
    let few = few_stops t.stops t.fleet t.fleets in
    let k = taken_leg (contents t) c.args.from c.args.to c.args.leg c.requires c.if-from-to.true in
    omega arith

pub bounds-self-from : goal.bounds-self-from
bounds-self-from c =
    let t = c.args.self.now in
    let few = few_stops t.stops t.fleet t.fleets in
    let k = taken_leg (contents t) c.args.from c.args.to c.args.leg c.requires c.if-from-to.true in
    omega arith

pub invariant_of-self : goal.invariant_of-self
invariant_of-self c =
    let t = c.args.self.now in
    let few = few_stops t.stops t.fleet t.fleets in
    let k = taken_leg (contents t) c.args.from c.args.to c.args.leg c.requires c.if-from-to.true in
    let between = apart_of t.stops c.args.from c.args.to k.from k.to c.if-from-to.true in
    record {
      fleets = t.fleets;
      visiting = t.visiting;
      driving = legs_put t.stops t.legs c.args.from c.args.to c.args.leg few between k.fits t.driving;
      places = t.places;
      pairs = length-set t.legs (c.args.from * 61 + c.args.to) c.args.leg ∙ t.pairs;
    }
