use Rattle.std.proofs.lemmas.List.{length-replicate}
use Rattle.book.specs.Ranges.{blank_visit, blank_leg}
use Rattle.book.proofs.Fits.{visits_blank, legs_blank}
use Rattle.book.proofs.calls.unsaid.Goals as goal

pub invariant_of-result : goal.invariant_of-result
invariant_of-result c = record {
  fleets = c.requires;
  visiting = visits_blank 61 c.args.stops;
  driving = legs_blank 3721 c.args.stops;
  places = length-replicate 61 blank_visit;
  pairs = length-replicate 3721 blank_leg;
}
