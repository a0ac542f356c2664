-- What set and tighten keep of a table, and that tighten lowers no route's charges. Assumes nothing.
use Rattle.std.specs.Prelude.{◌≡◌, ℕ, zero, suc, ◌^◌, ◌<◌, ◌≤◌, Bool, true, cond, List, [], ◌∷◌, ◌++◌, length, ℤ, pos, ◌==◌, ◌≢◌, int_le, nat_le, nat_lt, slice_index_or, slice_set, unsigned_abs, refl}
use Rattle.std.proofs.Common.{sym, ap, subst, ⊎_elim, arith}
use Rattle.std.proofs.lemmas.List.{length-set, length_push, get_or-set_same, get_or-set_other, get_or_append_left}
use Rattle.std.proofs.lemmas.Bool.{cond_both, ltb-true, leb-true, eqb-true, and_parts, cases_lt, cases_eq}
use Rattle.stops.specs.Stops.{member, within, all_stops, count_to, joined}
use Rattle.stops.proofs.Lists.{each_set}
use Rattle.stops.proofs.Members.{not_member, all_stops_member, count_past, within_members, members_within, within_itself, in_left, none_in_empty}
use Rattle.tier.specs.Meaning.{taken, refused}
use Rattle.tier.proofs.Outcomes.{taken_same, refused_taken}
use Rattle.layer.specs.Layers.{KindLaws}
use Rattle.cuts.specs.declared.cut.Cut.{Cut}
use Rattle.cuts.specs.Cuts.{blank_cut, cut_at}
use Rattle.cuts.specs.Tables.{Good, in_range, reprice, set_penalty, remember, tighten_old, three_stops, new_cut, tighten_new, tighten_cut}
use Rattle.cuts.specs.Layer.{cuts_kind}
use Rattle.cuts.specs.Walks.{Wider}
use Rattle.cuts.specs.Owns.{own_laws, Grown, grown_no_cheaper}

-- WHAT ONE CUT KEEPS

pub record GoodCut (c : Cut) : Type 0 where
  pub sparse : (n : ℕ) → count_to (member c.stops.word) n ≤ 3
  pub cheap : c.penalty ≤ 2 ^ 30
  pub kept : within c.stops.word c.memory.word ≡ true

pub in_range_small : (amount : ℤ) → in_range amount ≡ true → unsigned_abs amount ≤ 2 ^ 30
in_range_small amount e = leb-true (unsigned_abs amount) (2 ^ 30) (and_parts (int_le (pos 0) amount) (nat_le (unsigned_abs amount) (2 ^ 30)) e).1

pub good_reprice : (c : Cut) (amount : ℤ) → GoodCut c → in_range amount ≡ true → GoodCut (reprice c amount)
good_reprice c amount g e = record { sparse = g.sparse; cheap = in_range_small amount e; kept = g.kept }

pub good_remember : (c : Cut) (members : ℕ) → GoodCut c → GoodCut (remember c members)
good_remember c members g = record {
  sparse = g.sparse;
  cheap = g.cheap;
  kept = members_within c.stops.word (joined c.memory.word members) (λ j h. in_left c.memory.word members j (within_members c.stops.word c.memory.word g.kept j h));
}

count_longer : (p : ℕ → Bool) (m n : ℕ) → m ≤ n → count_to p m ≤ count_to p n
count_longer p m zero l = let e = ap (count_to p) (let z : m ≡ 0 = omega arith in z) in omega arith
count_longer p m (suc n) l =
    ⊎_elim
    (λ b. let s = count_longer p m n (omega arith) in omega arith)
    (λ b. let e = ap (count_to p) (let z : m ≡ suc n = omega arith in z) in omega arith)
    (cases_lt m (suc n))

-- three of the stops 1 to n, and no other member
few_members : (n members : ℕ) → all_stops n members ≡ true → count_to (member members) n ≡ 3 → (m : ℕ) → count_to (member members) m ≤ 3
few_members n members e three m =
    ⊎_elim
    (λ l. let c = count_longer (member members) m n (omega arith) in omega arith)
    (λ l. let c = count_past (member members) n m (λ j h. not_member members j (λ i. let s = (all_stops_member n members j e i).1 in omega arith)) l in omega arith)
    (cases_lt m n)

pub good_new : (n members : ℕ) (amount : ℤ) → three_stops n members ≡ true → in_range amount ≡ true → GoodCut (new_cut members amount)
good_new n members amount e r =
    let p = and_parts (all_stops n members) (count_to (member members) n == 3) e in
    record {
      sparse = few_members n members p.0 (eqb-true _ _ p.1);
      cheap = in_range_small amount r;
      kept = within_itself members;
    }

pub good_blank : GoodCut blank_cut
good_blank = record { sparse = none; cheap = omega arith; kept = within_itself 0 }
  where
    none : (n : ℕ) → count_to (member 0) n ≤ 3
    none n = let c = count_past (member 0) 0 n (λ j h. none_in_empty j) (omega arith) in omega arith

-- WHAT A TABLE KEEPS

pub good_at : (n : ℕ) (cs : List Cut) (k : ℕ) → Good n cs → GoodCut (cut_at cs k)
good_at n cs k g = record { sparse = g.sparse k; cheap = g.cheap k; kept = g.kept k }

pub good_each : (n : ℕ) (cs : List Cut) → length cs ≤ 32 → ((k : ℕ) → GoodCut (cut_at cs k)) → Good n cs
good_each n cs few g = record { few = few; sparse = λ k. (g k).sparse; cheap = λ k. (g k).cheap; kept = λ k. (g k).kept }

pub good_set : (n : ℕ) (cs : List Cut) (k : ℕ) (c : Cut) → Good n cs → GoodCut c → Good n (slice_set cs k c)
good_set n cs k c g h = good_each n (slice_set cs k c) (let e = length-set cs k c in let f = g.few in omega arith) (each_set GoodCut blank_cut cs k c (λ i. good_at n cs i g) h)

-- it holds of one element more
each_push : {A : Type 0} (P : A → Type 0) (d : A) (xs : List A) (y : A) → ((i : ℕ) → P (slice_index_or xs i d)) → P y → (i : ℕ) → P (slice_index_or (xs ++ y ∷ []) i d)
each_push P d [] y h p zero = p
each_push P d [] y h p (suc i) = h i
each_push P d (x ∷ xs) y h p zero = h 0
each_push P d (x ∷ xs) y h p (suc i) = each_push P d xs y (λ i. h (suc i)) p i

pub good_push : (n : ℕ) (cs : List Cut) (c : Cut) → length cs < 32 → Good n cs → GoodCut c → Good n (cs ++ c ∷ [])
good_push n cs c l g h = good_each n (cs ++ c ∷ []) (let e = length_push cs c in omega arith) (each_push GoodCut blank_cut cs c (λ i. good_at n cs i g) h)

-- WHAT GROWS

same_wider : (c : Cut) → Wider c c
same_wider c = record { stops = refl; memory = λ j e. e; penalty = omega arith }

remember_wider : (c : Cut) (members : ℕ) → Wider c (remember c members)
remember_wider c members = record { stops = refl; memory = λ j e. in_left c.memory.word members j e; penalty = omega arith }

grown_set : (cs : List Cut) (i : ℕ) (d : Cut) → i < length cs → Wider (cut_at cs i) d → Grown cs (slice_set cs i d)
grown_set cs i d l w = record {
  longer = let e = length-set cs i d in omega arith;
  wider = λ k h. ⊎_elim (at k) (other k) (cases_eq k i);
}
  where
    at : (k : ℕ) → k ≡ i → Wider (cut_at cs k) (cut_at (slice_set cs i d) k)
    at k e = subst (λ (z : ℕ). Wider (cut_at cs z) (cut_at (slice_set cs i d) z)) (sym e) (subst (λ (c : Cut). Wider (cut_at cs i) c) (sym (get_or-set_same cs i d blank_cut l)) w)

    other : (k : ℕ) → (k ≢ i) → Wider (cut_at cs k) (cut_at (slice_set cs i d) k)
    other k n = subst (λ (c : Cut). Wider (cut_at cs k) c) (sym (get_or-set_other cs i k d blank_cut n)) (same_wider (cut_at cs k))

grown_push : (cs : List Cut) (c : Cut) → Grown cs (cs ++ c ∷ [])
grown_push cs c = record {
  longer = let e = length_push cs c in omega arith;
  wider = λ k l. subst (λ (d : Cut). Wider (cut_at cs k) d) (sym (get_or_append_left cs (c ∷ []) blank_cut k l)) (same_wider (cut_at cs k));
}

-- SET AND TIGHTEN

-- what a taken tighten does
record Tightened (n : ℕ) (cs ds : List Cut) : Type 0 where
  good : Good n cs → Good n ds
  grown : Grown cs ds

module _ (n : ℕ) (cs ds : List Cut) where
  set_good : (index : ℕ) (amount : ℤ) → Good n cs → set_penalty cs index amount ≡ taken ds → Good n ds
  set_good index amount g =
      cond_both (nat_lt index (length cs)) (cond (in_range amount) (taken (slice_set cs index (reprice (cut_at cs index) amount))) (refused 9)) (refused 8) (λ o. o ≡ taken ds → Good n ds)
      (λ l. cond_both (in_range amount) (taken (slice_set cs index (reprice (cut_at cs index) amount))) (refused 9) (λ o. o ≡ taken ds → Good n ds)
      (λ r e. subst (λ (z : List Cut). Good n z) (taken_same e) (good_set n cs index (reprice (cut_at cs index) amount) g (good_reprice (cut_at cs index) amount (good_at n cs index g) r)))
      (λ r e. absurd (refused_taken e)))
      (λ l e. absurd (refused_taken e))

  old_tightened : (index members : ℕ) (amount : ℤ) → index < length cs → tighten_old n cs index members amount ≡ taken ds → Tightened n cs ds
  old_tightened index members amount l =
      cond_both (all_stops n members) (cond (unsigned_abs amount == 0) (taken (slice_set cs index (remember (cut_at cs index) members))) (refused 9)) (refused 10) (λ o. o ≡ taken ds → Tightened n cs ds)
      (λ s. cond_both (unsigned_abs amount == 0) (taken (slice_set cs index (remember (cut_at cs index) members))) (refused 9) (λ o. o ≡ taken ds → Tightened n cs ds)
      (λ z e. subst (λ (z : List Cut). Tightened n cs z) (taken_same e) (record {
        good = λ g. good_set n cs index (remember (cut_at cs index) members) g (good_remember (cut_at cs index) members (good_at n cs index g));
        grown = grown_set cs index (remember (cut_at cs index) members) l (remember_wider (cut_at cs index) members);
      }))
      (λ z e. absurd (refused_taken e)))
      (λ s e. absurd (refused_taken e))

  new_tightened : (members : ℕ) (amount : ℤ) → tighten_new n cs members amount ≡ taken ds → Tightened n cs ds
  new_tightened members amount =
      cond_both (nat_lt (length cs) 32) (cond (three_stops n members) (cond (in_range amount) (taken (cs ++ new_cut members amount ∷ [])) (refused 9)) (refused 10)) (refused 11) (λ o. o ≡ taken ds → Tightened n cs ds)
      (λ room. cond_both (three_stops n members) (cond (in_range amount) (taken (cs ++ new_cut members amount ∷ [])) (refused 9)) (refused 10) (λ o. o ≡ taken ds → Tightened n cs ds)
      (λ s. cond_both (in_range amount) (taken (cs ++ new_cut members amount ∷ [])) (refused 9) (λ o. o ≡ taken ds → Tightened n cs ds)
      (λ r e. subst (λ (z : List Cut). Tightened n cs z) (taken_same e) (record {
        good = λ g. good_push n cs (new_cut members amount) (ltb-true _ _ room) g (good_new n members amount s r);
        grown = grown_push cs (new_cut members amount);
      }))
      (λ r e. absurd (refused_taken e)))
      (λ s e. absurd (refused_taken e)))
      (λ room e. absurd (refused_taken e))

  tightened : (index members : ℕ) (amount : ℤ) → tighten_cut n cs index members amount ≡ taken ds → Tightened n cs ds
  tightened index members amount =
      cond_both (nat_lt index (length cs)) (tighten_old n cs index members amount) (cond (index == length cs) (tighten_new n cs members amount) (refused 8)) (λ o. o ≡ taken ds → Tightened n cs ds)
      (λ l. old_tightened index members amount (ltb-true _ _ l))
      (λ l. cond_both (index == length cs) (tighten_new n cs members amount) (refused 8) (λ o. o ≡ taken ds → Tightened n cs ds) (λ q. new_tightened members amount) (λ q e. absurd (refused_taken e)))

pub cuts_kind_laws : KindLaws cuts_kind Good
cuts_kind_laws = record {
  own_laws = λ n cs g. own_laws cs n g;
  set_good = λ n cs ds index amount g e. set_good n cs ds index amount g e;
  tighten_good = λ n cs ds index members amount g e. (tightened n cs ds index members amount e).good g;
  tighten_no_cheaper = λ n cs ds index members amount g e. grown_no_cheaper cs ds (tightened n cs ds index members amount e).grown;
}
