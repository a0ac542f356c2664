-- The lines of the legs, one by one.
use Rattle.std.proofs.Common.{◌≡◌, ℕ, zero, suc, ◌+◌, ◌≤◌, Bool, true, false, cond, eqb, set, Ok, refl, ◌∙◌, arith}
use Rattle.std.proofs.lemmas.Bool.Decides.{nat_tests}
use Rattle.text.specs.declared.cursor.Cursor.{Cursor}
use Rattle.text.specs.Readers.{Read}
use Rattle.text.proofs.Trips.{Sounds, sounds_then, sounds_give, sounds_weaker, read_sound}
use Rattle.words.specs.declared.vocabulary.Keyword.TheVariants.{Legs}
use Rattle.form.specs.Forms.{same}
use Rattle.bounds.specs.declared.fault.BookFault.TheVariants.{Form}
use Rattle.bounds.specs.Bounds.{numbered_opening, line_closing}
use Rattle.bounds.specs.Bytes.{numbered_start, line_end}
use Rattle.bounds.proofs.Trips.{numbered_sounds, close_sounds}
use Rattle.book.specs.declared.parts.Leg.{Leg}
use Rattle.book.specs.Ranges.{leg_index}
use Rattle.book.specs.Books.{Contents, with_leg, can_put_leg}
use Rattle.deck.specs.Lines.{leg_pair, leg_pairs, leg_line}
use Rattle.deck.specs.Bytes.{leg_bytes}
use Rattle.deck.proofs.LineTrips.{LegBetween, leg_sounds}

-- what is read of a leg, the book takes
pub taken : {here next : Cursor} {x : Leg} (b : Contents) (stops i j : ℕ) → b.stops ≡ stops → i ≤ stops → j ≤ stops → Read same here next (Ok x) (leg_pair i j) → can_put_leg b i j x ≡ true
taken {x} b stops i j known h k read =
    let s = read_sound (λ x xs. (xs ≡ leg_bytes x) × LegBetween i j x) (leg_sounds i j) read in
    let between = s.1.1 in
    grind (arith, nat_tests)

pub put : {here next : Cursor} {x : Leg} {c : Contents} (b : Contents) (stops i j : ℕ) → b.stops ≡ stops → i ≤ stops → j ≤ stops → Read same here next (Ok x) (leg_pair i j) → c ≡ cond (can_put_leg b i j x) (with_leg b i j x) b → c ≡ with_leg b i j x
put b stops i j known h k read e = let t = taken b stops i j known h k read in rw t at e

-- A LINE OF LEGS KEEPS THE NUMBER OF STOPS

pub leg_keeps : (b : Contents) (i j : ℕ) (x : Leg) → (with_leg b i j x).stops ≡ b.stops
leg_keeps b i j x = by (eqb i j)
  where
    by : (t : Bool) → (cond t b (record { stops = b.stops; fleet = b.fleet; visits = b.visits; legs = set b.legs (leg_index i j) x })).stops ≡ b.stops
    by true = refl
    by false = refl

pub pairs_keep : (i k : ℕ) (b : Contents) (j : ℕ) → Sounds (leg_pairs i b k j) (λ c _. c.stops ≡ b.stops)
pairs_keep i zero b j = sounds_give b (λ c _. c.stops ≡ b.stops) refl
pairs_keep i (suc k) b j =
    sounds_then same (leg_pair i j) (λ x. leg_pairs i (with_leg b i j x) k (j + 1)) (λ x xs. (xs ≡ leg_bytes x) × LegBetween i j x) (λ c _. c.stops ≡ b.stops) (leg_sounds i j) (λ x x1 e1.
    sounds_weaker (leg_pairs i (with_leg b i j x) k (j + 1)) (λ c _. c.stops ≡ (with_leg b i j x).stops) (λ c _. c.stops ≡ b.stops) (pairs_keep i k (with_leg b i j x) (j + 1)) (λ c _ q. q ∙ leg_keeps b i j x))

pub line_keeps : (b : Contents) (i : ℕ) → Sounds (leg_line b i) (λ c _. c.stops ≡ b.stops)
line_keeps b i =
    sounds_then same (numbered_opening Legs 0 b.stops i) _ (λ _ xs. xs ≡ numbered_start Legs i) (λ c _. c.stops ≡ b.stops) (numbered_sounds Legs 0 b.stops i) (λ _ x1 e1.
    sounds_then same (leg_pairs i b (suc b.stops) 0) _ (λ c _. c.stops ≡ b.stops) (λ c _. c.stops ≡ b.stops) (pairs_keep i (suc b.stops) b 0) (λ c x2 e2.
    sounds_then Form line_closing _ (λ _ xs. xs ≡ line_end) (λ c _. c.stops ≡ b.stops) close_sounds (λ _ x3 e3.
    sounds_give _ _ e2)))

pub kept : {X : Type 0} {f : X → Contents} {here next : Cursor} {x : X} (b : Contents) (i : ℕ) → Read f here next (Ok x) (leg_line b i) → (f x).stops ≡ b.stops
kept b i read = (read_sound (λ c _. c.stops ≡ b.stops) (line_keeps b i) read).1
