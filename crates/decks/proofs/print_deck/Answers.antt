-- A deck ends within its text.
use Rattle.std.proofs.Common.{◌≡◌, ℕ, ◌≤◌, List, length, Ok, Err, Result, refl, ap, arith, length-append}
use Rattle.std.proofs.lemmas.List.{length-take-le}
use Rattle.bounds.specs.declared.fault.BookFault.{BookFault}
use Rattle.book.specs.Books.{Contents}
use Rattle.deck.specs.Lines.{deck, handed}
use Rattle.deck.proofs.DeckTrips.{written_back}
use Rattle.decks.proofs.print_deck.Goals as goal

inside : (bs : List ℕ) (b : Contents) (o : Result ℕ BookFault) (q : ℕ) → (b, o) ≡ handed (deck bs 0) → o ≡ Ok q → q ≤ length bs
inside bs b o q e is = by (deck bs 0) refl (ap (λ p. p.1) e)
  where
    by : (r : Result (Contents × ℕ) BookFault) → deck bs 0 ≡ r → o ≡ (handed r).1 → q ≤ length bs
    by (Ok (c, p)) read ok =
        let w = written_back bs c p read in
        let same : q ≡ p = cc in
        omega (arith, ap length w.0, length-append {A = ℕ}, w.1)
    by (Err f) read e = cc

pub slice_bounds-print_read-end : goal.slice_bounds-print_read-end
slice_bounds-print_read-end c =
    let h = inside c.args.text.now _ _ c.in-Ok.end c.read_deck-read.ensures c.in-Ok.is in
    omega (arith, length-take-le c.in-Ok.end c.args.text.now h)
