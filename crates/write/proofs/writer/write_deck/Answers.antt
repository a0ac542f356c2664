use Rattle.book.proofs.Kept.{in_ranges}
use Rattle.deck.proofs.DeckTrips.{read_back, written_back}
use Rattle.write.proofs.writer.write_deck.Goals as goal

pub returns-then-empty-clause-read_back : goal.returns-then-empty-clause-read_back
returns-then-empty-clause-read_back c = read_back _ (in_ranges c.args.book.now)

pub returns-then-empty-clause-written_back : goal.returns-then-empty-clause-written_back
returns-then-empty-clause-written_back c = written_back

pub returns-in-Ok-clause-read_back : goal.returns-in-Ok-clause-read_back
returns-in-Ok-clause-read_back c = read_back _ (in_ranges c.args.book.now)

pub returns-in-Ok-clause-written_back : goal.returns-in-Ok-clause-written_back
returns-in-Ok-clause-written_back c = written_back

pub returns-in-Err-clause-read_back : goal.returns-in-Err-clause-read_back
returns-in-Err-clause-read_back c = read_back _ (in_ranges c.args.book.now)

pub returns-in-Err-clause-written_back : goal.returns-in-Err-clause-written_back
returns-in-Err-clause-written_back c = written_back
