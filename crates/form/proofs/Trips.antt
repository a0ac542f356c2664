-- What the due tokens read and how they are written.
use Rattle.std.proofs.Common.{◌≡◌, ℕ, ◌+◌, ◌<◌, true, cond, eqb, List, [], ◌∷◌, ◌++◌, length, drop, Some, None, Ok, Err, decimal, Option, sym, refl, ap, ◌∙◌, append-nil, add-zero, arith}
use Rattle.std.specs.Str.{bytes_eq}
use Rattle.std.proofs.lemmas.Slice.Eq.{bytes_eq-Decides}
use Rattle.std.proofs.lemmas.Bool.{cond_both, eqb-true}
use Rattle.text.specs.Tokens.{Seen, opens, closes, blanks, feeds, word, number, negative, ends, scan}
use Rattle.text.specs.Readers.{and_then}
use Rattle.text.proofs.Trips.{all_letters, NoLetter, Any, scan_is, scan_spelt, scan_sound, written, Spent, SoundAt, Sounds, Takes, sounds_then}
use Rattle.words.specs.declared.vocabulary.Keyword.{Keyword}
use Rattle.text.specs.declared.token.Mark.{Mark}
use Rattle.text.specs.declared.token.Mark.TheVariants.{Open, Close, Blank, Feed}
use Rattle.form.specs.declared.fault.FormFault.TheVariants.{Text}
use Rattle.words.specs.Vocabulary.{spelt, keyword_of}
use Rattle.words.proofs.Inverse.{of_each, keyword_spelt, spells_found, Spells, some_letters}
use Rattle.form.specs.Forms.{undue_of, told, byte_of, unless, mark_due, word_is, word_due, found, name_is, name_due, number_is, number_due}

some_byte : (due : Mark) → 0 < byte_of due
some_byte Open = omega arith
some_byte Close = omega arith
some_byte Blank = omega arith
some_byte Feed = omega arith

told_written : (t : Seen) (c : ℕ) → 0 < c → told t ≡ c → written t ≡ c ∷ []
told_written (opens p) c h e = ap (λ x. x ∷ []) e
told_written (closes p) c h e = ap (λ x. x ∷ []) e
told_written (blanks p) c h e = ap (λ x. x ∷ []) e
told_written (feeds p) c h e = ap (λ x. x ∷ []) e
told_written (word w p) c h e = absurd (omega arith)
told_written (number n ds p) c h e = absurd (omega arith)
told_written (negative n ds p) c h e = absurd (omega arith)
told_written (ends p) c h e = absurd (omega arith)

scans : Sounds scan (λ t xs. xs ≡ written t)
scans = record { sound = scan_sound }

nothing : (bs : List ℕ) (q : ℕ) → Spent bs q q []
nothing bs q = record { spent = refl; to = sym (add-zero q) }

pub mark_sounds : (due : Mark) → Sounds (mark_due due) (λ _ xs. xs ≡ byte_of due ∷ [])
unfolding and_then
mark_sounds due = sounds_then Text scan (λ t bs q. cond (eqb (told t) (byte_of due)) (Ok (tt, q)) (Err (undue_of t))) (λ t xs. xs ≡ written t) (λ _ xs. xs ≡ byte_of due ∷ []) scans
    (λ t xs e. record {
      sound = λ bs q. cond_both (eqb (told t) (byte_of due)) (Ok (tt, q)) (Err (undue_of t)) (SoundAt (λ _ ys. xs ++ ys ≡ byte_of due ∷ []) bs q)
          (λ same. ([], nothing bs q, append-nil xs ∙ e ∙ told_written t (byte_of due) (some_byte due) (eqb-true (told t) (byte_of due) same)))
          (λ _. tt);
    })

pub word_sounds : (due : Keyword) → Sounds (word_due due) (λ _ xs. xs ≡ spelt due)
unfolding and_then
word_sounds due = sounds_then Text scan (λ t bs q. word_is due t q) (λ t xs. xs ≡ written t) (λ _ xs. xs ≡ spelt due) scans (λ t xs e. record { sound = λ bs q. at t xs e bs q })
  where
    at : (t : Seen) (xs : List ℕ) → xs ≡ written t → (bs : List ℕ) (q : ℕ) → SoundAt (λ _ ys. xs ++ ys ≡ spelt due) bs q (word_is due t q)
    at (opens p) xs e bs q = tt
    at (closes p) xs e bs q = tt
    at (blanks p) xs e bs q = tt
    at (feeds p) xs e bs q = tt
    at (word w p) xs e bs q = cond_both (bytes_eq w (spelt due)) (Ok (tt, q)) (Err (unless (keyword_of w) p)) (SoundAt (λ _ ys. xs ++ ys ≡ spelt due) bs q) (λ s. ([], nothing bs q, append-nil xs ∙ e ∙ (bytes_eq-Decides w (spelt due)).0 s)) (λ _. tt)
    at (number n ds p) xs e bs q = tt
    at (negative n ds p) xs e bs q = tt
    at (ends p) xs e bs q = tt

pub number_sounds : Sounds number_due (λ n xs. xs ≡ decimal n.0)
unfolding and_then
number_sounds = sounds_then Text scan (λ t bs q. number_is t q) (λ t xs. xs ≡ written t) (λ n xs. xs ≡ decimal n.0) scans (λ t xs e. record { sound = λ bs q. at t xs e bs q })
  where
    at : (t : Seen) (xs : List ℕ) → xs ≡ written t → (bs : List ℕ) (q : ℕ) → SoundAt (λ n ys. xs ++ ys ≡ decimal n.0) bs q (number_is t q)
    at (opens p) xs e bs q = tt
    at (closes p) xs e bs q = tt
    at (blanks p) xs e bs q = tt
    at (feeds p) xs e bs q = tt
    at (word w p) xs e bs q = tt
    at (number n ds p) xs e bs q = ([], nothing bs q, append-nil xs ∙ e)
    at (negative n ds p) xs e bs q = tt
    at (ends p) xs e bs q = tt

pub mark_takes : (due : Mark) → Takes (mark_due due) Any (byte_of due ∷ []) tt
mark_takes Open = record { taken = λ bs p rest e c. rw (scan_is bs p 40 rest e) }
mark_takes Close = record { taken = λ bs p rest e c. rw (scan_is bs p 41 rest e) }
mark_takes Blank = record { taken = λ bs p rest e c. rw (scan_is bs p 32 rest e) }
mark_takes Feed = record { taken = λ bs p rest e c. rw (scan_is bs p 10 rest e) }

letters : (k : Keyword) → all_letters (spelt k) ≡ true
letters k = of_each (λ j. all_letters (spelt j)) refl k

pub word_takes : (due : Keyword) → Takes (word_due due) NoLetter (spelt due) tt
word_takes due = record { taken = λ bs p rest e c. rw (scan_spelt bs p (spelt due) rest e (letters due) (some_letters due) c, (bytes_eq-Decides (spelt due) (spelt due)).1 refl) }

pub name_sounds : Sounds name_due (λ n xs. xs ≡ spelt n.0)
unfolding and_then
name_sounds = sounds_then Text scan (λ t bs q. name_is t q) (λ t xs. xs ≡ written t) (λ n xs. xs ≡ spelt n.0) scans (λ t xs e. record { sound = λ bs q. at t xs e bs q })
  where
    is : (w : List ℕ) (k : Option Keyword) → Spells w k → (xs : List ℕ) → xs ≡ w → (p : ℕ) (bs : List ℕ) (q : ℕ) → SoundAt (λ n ys. xs ++ ys ≡ spelt n.0) bs q (found k p q)
    is w None s xs e p bs q = tt
    is w (Some k) s xs e p bs q = ([], nothing bs q, append-nil xs ∙ e ∙ s)

    at : (t : Seen) (xs : List ℕ) → xs ≡ written t → (bs : List ℕ) (q : ℕ) → SoundAt (λ n ys. xs ++ ys ≡ spelt n.0) bs q (name_is t q)
    at (opens p) xs e bs q = tt
    at (closes p) xs e bs q = tt
    at (blanks p) xs e bs q = tt
    at (feeds p) xs e bs q = tt
    at (word w p) xs e bs q = is w (keyword_of w) (spells_found w) xs e p bs q
    at (number n ds p) xs e bs q = tt
    at (negative n ds p) xs e bs q = tt
    at (ends p) xs e bs q = tt

-- a word is found at its place
pub name_taken : (k : Keyword) (bs : List ℕ) (p : ℕ) (rest : List ℕ) → drop p bs ≡ spelt k ++ rest → NoLetter rest → name_due bs p ≡ Ok ((k, p), p + length (spelt k))
name_taken k bs p rest e c = rw (scan_spelt bs p (spelt k) rest e (letters k) (some_letters k) c, keyword_spelt k)
