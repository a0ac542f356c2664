-- Spelling a word and looking it up are each other's inverse.
use Rattle.std.proofs.Common.{◌≡◌, ℕ, ◌<◌, Bool, true, ltb, List, [], ◌∷◌, length, Some, None, Option, refl, lit<}
use Rattle.std.specs.List.{find, list_all, Contains}
use Rattle.std.specs.Str.{bytes_eq}
use Rattle.std.proofs.lemmas.Slice.Eq.{bytes_eq-Decides}
use Rattle.std.proofs.lemmas.Bool.{cond_both, ltb-true}
use Rattle.std.proofs.lemmas.List.Elements.{All-contains}
use Rattle.std.proofs.lemmas.List.Sums.{AllPass-from_list_all}
use Rattle.words.specs.declared.vocabulary.Keyword.{Keyword}
use Rattle.words.specs.declared.vocabulary.Keyword.TheVariants.{Deck, Stops, Vans, Capacity, Battery, Most, Stop, Window, Load, Charger, Legs, End, Pile, Round, Town, Price, Set, Tighten}
use Rattle.words.specs.Vocabulary.{spelt, words, keyword_of, same_word}

-- what passes a test of all words
pub of_each : (p : Keyword → Bool) → list_all p words ≡ true → (k : Keyword) → p k ≡ true
of_each p h k = All-contains (λ j. p j ≡ true) words k (AllPass-from_list_all p words h) (one k)
  where
    one : (j : Keyword) → Contains words j
    one Deck = (0, lit< tt, refl)
    one Stops = (1, lit< tt, refl)
    one Vans = (2, lit< tt, refl)
    one Capacity = (3, lit< tt, refl)
    one Battery = (4, lit< tt, refl)
    one Most = (5, lit< tt, refl)
    one Stop = (6, lit< tt, refl)
    one Window = (7, lit< tt, refl)
    one Load = (8, lit< tt, refl)
    one Charger = (9, lit< tt, refl)
    one Legs = (10, lit< tt, refl)
    one End = (11, lit< tt, refl)
    one Pile = (12, lit< tt, refl)
    one Round = (13, lit< tt, refl)
    one Town = (14, lit< tt, refl)
    one Price = (15, lit< tt, refl)
    one Set = (16, lit< tt, refl)
    one Tighten = (17, lit< tt, refl)

pub keyword_spelt : (k : Keyword) → keyword_of (spelt k) ≡ Some k
keyword_spelt Deck = refl
keyword_spelt Stops = refl
keyword_spelt Vans = refl
keyword_spelt Capacity = refl
keyword_spelt Battery = refl
keyword_spelt Most = refl
keyword_spelt Stop = refl
keyword_spelt Window = refl
keyword_spelt Load = refl
keyword_spelt Charger = refl
keyword_spelt Legs = refl
keyword_spelt End = refl
keyword_spelt Pile = refl
keyword_spelt Round = refl
keyword_spelt Town = refl
keyword_spelt Price = refl
keyword_spelt Set = refl
keyword_spelt Tighten = refl

abbrev pub Spells : List ℕ → Option Keyword → Type 0
Spells w None = Unit {0}
Spells w (Some k) = w ≡ spelt k

-- bytes that are looked up are the spelling of what is found
pub spells_found : (w : List ℕ) → Spells w (keyword_of w)
spells_found w = among words
  where
    among : (ks : List Keyword) → Spells w (find (λ k. bytes_eq w (spelt k)) ks)
    among [] = tt
    among (k ∷ ks) = cond_both (bytes_eq w (spelt k)) _ _ (Spells w) (λ e. (bytes_eq-Decides w (spelt k)).0 e) (λ _. among ks)

pub spelt_keyword : (w : List ℕ) (k : Keyword) → keyword_of w ≡ Some k → w ≡ spelt k
spelt_keyword w k e = rw e at (spells_found w)

pub same_spelling : (a b : Keyword) → same_word a b ≡ true → spelt a ≡ spelt b
same_spelling a b e = (bytes_eq-Decides (spelt a) (spelt b)).0 e

pub same_as_itself : (k : Keyword) → same_word k k ≡ true
same_as_itself k = (bytes_eq-Decides (spelt k) (spelt k)).1 refl

-- no word is without letters
pub some_letters : (k : Keyword) → 0 < length (spelt k)
some_letters k = ltb-true 0 (length (spelt k)) (of_each (λ j. ltb 0 (length (spelt j))) refl k)
