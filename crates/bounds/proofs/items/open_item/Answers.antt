use Rattle.text.proofs.Reading.{steps, escapes}
use Rattle.bounds.proofs.items.open_item.Goals as goal

pub returns-in_err-open_nested : goal.returns-in_err-open_nested
returns-in_err-open_nested c = escapes _ _ _ c.in_err-open_nested.ensures c.from_residual.ensures.1

pub returns : goal.returns
returns c = steps _ _ c.in_ok-open_nested.ensures c.due_item.ensures
