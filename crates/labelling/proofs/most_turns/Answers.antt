use Rattle.labelling.proofs.Ends.{ends, stays_in_a_turn, stays_treated, counts_add_up}
use Rattle.labelling.proofs.Order.{covers_no_treated}
use Rattle.labelling.proofs.most_turns.Goals as goal

pub returns : goal.returns
returns g c = record {
  turns = c.turns_in.ensures;
  ends = λ m earlier places t a e. ends m earlier places t a e;
  treated = record {
    in_a_turn = λ m earlier places t u e. stays_in_a_turn m earlier places t u e;
    in_a_run = λ m earlier places n t u e. stays_treated m earlier places n t u e;
  };
  unstruck = covers_no_treated;
  counts = λ m earlier places t a p. counts_add_up m earlier places a t p;
}
