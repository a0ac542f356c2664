-- A deck and its book, both ways.
use Rattle.std.specs.Prelude.{◌≡◌, ℕ, ◌≤◌, List, ◌++◌, length, drop, Ok, Err, ◌≢◌}
use Rattle.form.specs.declared.fault.FormFault.TheVariants.{NotDue}
use Rattle.bounds.specs.declared.fault.BookFault.TheVariants.{Form}
use Rattle.book.specs.Books.{Contents}
use Rattle.deck.specs.Lines.{deck as read, handed}
use Rattle.deck.specs.Bytes.{deck_bytes}

-- what is written of a book is read back as that book: of the empty one too, whose no bytes are a fault; and
-- the deck of a book with stops is read whatever follows it, up to its end
pub record ReadBack (b : Contents) : Type 0 where
  pub book : (handed (read (deck_bytes b) 0)).0 ≡ b
  pub empty : b.stops ≡ 0 → read (deck_bytes b) 0 ≡ Err (Form (NotDue 0))
  pub deck : (b.stops ≢ 0) → (rest : List ℕ) → read (deck_bytes b ++ rest) 0 ≡ Ok (b, length (deck_bytes b))

-- of a text that reads, the bytes up to where reading stopped are those that are written of its book, which has stops
abbrev pub WrittenBack : List ℕ → Type 0
WrittenBack bs = (b : Contents) (q : ℕ) → read bs 0 ≡ Ok (b, q) → (bs ≡ deck_bytes b ++ drop q bs) × (q ≡ length (deck_bytes b)) × (1 ≤ b.stops)
