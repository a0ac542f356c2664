-- What the openings and closings of lines, and numbers in their bounds, read and how they are written.
use Rattle.std.proofs.Common.{◌≡◌, ℕ, ◌^◌, ◌<◌, ◌≤◌, cond, ◌&&◌, eqb, leb, List, [], ◌∷◌, ◌++◌, Ok, Err, codes, decimal, sym, refl, ap, ◌∙◌, append-nil, add-zero}
use Rattle.std.proofs.lemmas.Bool.{cond_both, and_parts, and_from, leb-true, le-leb, eqb-true, eq-eqb}
use Rattle.text.specs.Tokens.{with_place}
use Rattle.text.specs.Readers.{and_then}
use Rattle.text.proofs.Trips.{NoLetter, NoDigit, Any, scan_number, Spent, SoundAt, Sounds, Takes, sounds_then, sounds_weaker, takes_then}
use Rattle.words.specs.declared.vocabulary.Keyword.{Keyword}
use Rattle.words.specs.Vocabulary.{spelt, same_word}
use Rattle.words.proofs.Inverse.{same_spelling, same_as_itself}
use Rattle.text.specs.declared.token.Mark.TheVariants.{Open, Close, Blank, Feed}
use Rattle.form.specs.Forms.{same, mark_due, word_due, name_due, number_due}
use Rattle.form.proofs.Trips.{mark_sounds, word_sounds, name_sounds, number_sounds, mark_takes, word_takes, name_taken}
use Rattle.bounds.specs.declared.fault.BookFault.TheVariants.{Form, Range, Order}
use Rattle.bounds.specs.Bounds.{ranged, ordered, number_within, number_in_order, misplaced_of, line_named, line_name, line_opening, numbered_opening, nested_opening, item_opening, line_closing}
use Rattle.bounds.specs.Bytes.{line_start, numbered_start, item_start, line_end}

nothing : (bs : List ℕ) (q : ℕ) → Spent bs q q []
nothing bs q = record { spent = refl; to = sym (add-zero q) }

-- NUMBERS

pub within_takes : (least most n : ℕ) → least ≤ n → n ≤ most → n < 10 ^ 10 → Takes (number_within least most) NoDigit (decimal n) n
within_takes least most n l h small = record { taken = λ bs p rest e c. rw (scan_number bs p n rest e small c, and_from (leb least n) (leb n most) (le-leb least n l) (le-leb n most h)) }

pub within_sounds : (least most : ℕ) → Sounds (number_within least most) (λ n xs. (xs ≡ decimal n) × (least ≤ n) × (n ≤ most))
unfolding and_then
within_sounds least most =
    sounds_then Form number_due (λ n bs q. with_place same (ranged least most n) q) (λ n xs. xs ≡ decimal n.0) (λ n xs. (xs ≡ decimal n) × (least ≤ n) × (n ≤ most)) number_sounds
    (λ n xs e. record {
      sound = λ bs q. cond_both (leb least n.0 && leb n.0 most) (Ok n.0) (Err (Range n.1)) (λ r. SoundAt (λ m ys. (xs ++ ys ≡ decimal m) × (least ≤ m) × (m ≤ most)) bs q (with_place same r q))
          (λ t. let b = and_parts _ _ t in ([], nothing bs q, (append-nil xs ∙ e, leb-true least n.0 b.0, leb-true n.0 most b.1)))
          (λ _. tt);
    })

pub order_takes : (least most due : ℕ) → least ≤ due → due ≤ most → due < 10 ^ 10 → Takes (number_in_order least most due) NoDigit (decimal due) tt
order_takes least most due l h small = record { taken = λ bs p rest e c. rw (scan_number bs p due rest e small c, and_from (leb least due) (leb due most) (le-leb least due l) (le-leb due most h), eq-eqb due due refl) }

pub order_sounds : (least most due : ℕ) → Sounds (number_in_order least most due) (λ _ xs. xs ≡ decimal due)
unfolding and_then
order_sounds least most due =
    sounds_then Form number_due (λ n bs q. with_place same (ordered least most due n) q) (λ n xs. xs ≡ decimal n.0) (λ _ xs. xs ≡ decimal due) number_sounds
    (λ n xs e. record {
      sound = λ bs q. cond_both (leb least n.0 && leb n.0 most) (cond (eqb n.0 due) (Ok tt) (Err (Order n.1))) (Err (Range n.1)) (λ r. SoundAt (λ _ ys. xs ++ ys ≡ decimal due) bs q (with_place same r q))
          (λ _. cond_both (eqb n.0 due) (Ok tt) (Err (Order n.1)) (λ r. SoundAt (λ _ ys. xs ++ ys ≡ decimal due) bs q (with_place same r q))
          (λ t. ([], nothing bs q, append-nil xs ∙ e ∙ ap decimal (eqb-true n.0 due t)))
          (λ _. tt))
          (λ _. tt);
    })

-- LINES

name_takes : (due : Keyword) → Takes (line_name due) NoLetter (spelt due) tt
name_takes due = record { taken = λ bs p rest e c. rw (name_taken due bs p rest e c, same_as_itself due) }

name_is : (due : Keyword) → Sounds (line_name due) (λ _ xs. xs ≡ spelt due)
unfolding and_then
name_is due =
    sounds_then Form name_due (λ n bs q. with_place same (line_named due n) q) (λ n xs. xs ≡ spelt n.0) (λ _ xs. xs ≡ spelt due) name_sounds
    (λ n xs e. record {
      sound = λ bs q. cond_both (same_word n.0 due) (Ok tt) (Err (misplaced_of n)) (λ r. SoundAt (λ _ ys. xs ++ ys ≡ spelt due) bs q (with_place same r q))
          (λ t. ([], nothing bs q, append-nil xs ∙ e ∙ same_spelling n.0 due t))
          (λ _. tt);
    })

pub line_takes : (due : Keyword) → Takes (line_opening due) NoLetter (line_start due) tt
unfolding and_then
line_takes due = takes_then Form (mark_due Open) _ Any NoLetter (40 ∷ []) (spelt due) tt tt (mark_takes Open) (name_takes due) (λ _ _. tt)

pub line_sounds : (due : Keyword) → Sounds (line_opening due) (λ _ xs. xs ≡ line_start due)
unfolding and_then
line_sounds due =
    sounds_then Form (mark_due Open) _ (λ _ xs. xs ≡ 40 ∷ []) (λ _ xs. xs ≡ line_start due) (mark_sounds Open) (λ _ x₁ e₁.
    sounds_weaker (line_name due) (λ _ xs. xs ≡ spelt due) (λ _ ys. x₁ ++ ys ≡ line_start due) (name_is due) (λ _ x₂ e₂. rw (e₁, e₂)))

pub numbered_takes : (line : Keyword) (least most due : ℕ) → least ≤ due → due ≤ most → due < 10 ^ 10 → Takes (numbered_opening line least most due) NoDigit (numbered_start line due) tt
unfolding and_then
numbered_takes line least most due l h small =
    takes_then same (line_opening line) _ NoLetter NoDigit (line_start line) (32 ∷ decimal due) tt tt (line_takes line)
    (takes_then Form (mark_due Blank) _ Any NoDigit (32 ∷ []) (decimal due) tt tt (mark_takes Blank) (order_takes least most due l h small) (λ _ _. tt))
    (λ _ _. refl)

pub numbered_sounds : (line : Keyword) (least most due : ℕ) → Sounds (numbered_opening line least most due) (λ _ xs. xs ≡ numbered_start line due)
unfolding and_then
numbered_sounds line least most due =
    sounds_then same (line_opening line) _ (λ _ xs. xs ≡ line_start line) (λ _ xs. xs ≡ numbered_start line due) (line_sounds line) (λ _ x₁ e₁.
    sounds_then Form (mark_due Blank) _ (λ _ xs. xs ≡ 32 ∷ []) (λ _ ys. x₁ ++ ys ≡ numbered_start line due) (mark_sounds Blank) (λ _ x₂ e₂.
    sounds_weaker (number_in_order least most due) (λ _ xs. xs ≡ decimal due) (λ _ ys. x₁ ++ (x₂ ++ ys) ≡ numbered_start line due) (order_sounds least most due) (λ _ x₃ e₃. rw (e₁, e₂, e₃))))

pub nested_takes : Takes nested_opening Any (codes " (") tt
unfolding and_then
nested_takes = takes_then same (mark_due Blank) _ Any Any (32 ∷ []) (40 ∷ []) tt tt (mark_takes Blank) (mark_takes Open) (λ _ _. tt)

pub nested_sounds : Sounds nested_opening (λ _ xs. xs ≡ codes " (")
unfolding and_then
nested_sounds =
    sounds_then same (mark_due Blank) _ (λ _ xs. xs ≡ 32 ∷ []) (λ _ xs. xs ≡ codes " (") (mark_sounds Blank) (λ _ x₁ e₁.
    sounds_weaker (mark_due Open) (λ _ xs. xs ≡ 40 ∷ []) (λ _ ys. x₁ ++ ys ≡ codes " (") (mark_sounds Open) (λ _ x₂ e₂. rw (e₁, e₂)))

pub item_takes : (item : Keyword) → Takes (item_opening item) Any (item_start item) tt
unfolding and_then
item_takes item =
    takes_then same nested_opening _ Any Any (codes " (") (spelt item ++ (32 ∷ [])) tt tt nested_takes
    (takes_then same (word_due item) _ NoLetter Any (spelt item) (32 ∷ []) tt tt (word_takes item) (mark_takes Blank) (λ _ _. refl))
    (λ _ _. tt)

pub item_sounds : (item : Keyword) → Sounds (item_opening item) (λ _ xs. xs ≡ item_start item)
unfolding and_then
item_sounds item =
    sounds_then same nested_opening _ (λ _ xs. xs ≡ codes " (") (λ _ xs. xs ≡ item_start item) nested_sounds (λ _ x₁ e₁.
    sounds_then same (word_due item) _ (λ _ xs. xs ≡ spelt item) (λ _ ys. x₁ ++ ys ≡ item_start item) (word_sounds item) (λ _ x₂ e₂.
    sounds_weaker (mark_due Blank) (λ _ xs. xs ≡ 32 ∷ []) (λ _ ys. x₁ ++ (x₂ ++ ys) ≡ item_start item) (mark_sounds Blank) (λ _ x₃ e₃. rw (e₁, e₂, e₃))))

pub close_takes : Takes line_closing Any line_end tt
unfolding and_then
close_takes = takes_then same (mark_due Close) _ Any Any (41 ∷ []) (10 ∷ []) tt tt (mark_takes Close) (mark_takes Feed) (λ _ _. tt)

pub close_sounds : Sounds line_closing (λ _ xs. xs ≡ line_end)
unfolding and_then
close_sounds =
    sounds_then same (mark_due Close) _ (λ _ xs. xs ≡ 41 ∷ []) (λ _ xs. xs ≡ line_end) (mark_sounds Close) (λ _ x₁ e₁.
    sounds_weaker (mark_due Feed) (λ _ xs. xs ≡ 10 ∷ []) (λ _ ys. x₁ ++ ys ≡ line_end) (mark_sounds Feed) (λ _ x₂ e₂. rw (e₁, e₂)))
