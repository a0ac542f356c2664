use Rattle.labelling.proofs.Moments.{every_moment}
use Rattle.labelling.proofs.Lowest.{finds_lowest}
use Rattle.labelling.proofs.Small.{stays_small}
use Rattle.labelling.proofs.row_length.Goals as goal

pub returns : goal.returns
returns g c = record {
  length = c.last_key.ensures;
  moments = every_moment;
  lowest = finds_lowest;
  small = λ m earlier places t few sizes keys p. stays_small m keys few sizes earlier places t p;
}
