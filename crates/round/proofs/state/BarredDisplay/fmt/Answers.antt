use Rattle.round.proofs.state.BarredDisplay.fmt.Goals as goal

-- src/state.rt:29:5
pub returns-in-TooLate-clause-writes : goal.returns-in-TooLate-clause-writes
returns-in-TooLate-clause-writes g c plain ok = rw c.in-TooLate.is (c.write-in-TooLate.ensures.writes plain ok)

-- src/state.rt:29:5
pub returns-in-TooHeavy-clause-writes : goal.returns-in-TooHeavy-clause-writes
returns-in-TooHeavy-clause-writes g c plain ok = rw c.in-TooHeavy.is (c.write-in-TooHeavy.ensures.writes plain ok)
