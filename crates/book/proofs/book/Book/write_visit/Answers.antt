use Rattle.std.proofs.Common.{◌∙◌, length-set}
use Rattle.book.specs.Books.{contents}
use Rattle.book.proofs.Fits.{visits_put, taken_visit}
use Rattle.book.proofs.book.Book.write_visit.Goals as goal

pub invariant_of-self : goal.invariant_of-self
invariant_of-self c =
    let t = c.args.self.now in
    let k = taken_visit (contents t) c.args.stop c.args.visit c.requires in
    record {
      fleets = t.fleets;
      visiting = visits_put t.stops t.visits c.args.stop c.args.visit k.stop k.fits t.visiting;
      driving = t.driving;
      places = length-set t.visits c.args.stop c.args.visit ∙ t.places;
      pairs = t.pairs;
    }
