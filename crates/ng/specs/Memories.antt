-- What is remembered along a route, by its members. Assumes nothing.
use Rattle.std.specs.Prelude.{◌≡◌, ℕ, true, false, ◌⊎◌, List}
use Rattle.std.proofs.Common.{sym, ap, subst, ◌∙◌, inl, inr, ⊎_elim}
use Rattle.std.proofs.lemmas.List.{get_or-set_other}
use Rattle.std.proofs.lemmas.Bool.{cases_eq}
use Rattle.stops.specs.Stops.{member, empty_set, just, common, joined}
use Rattle.stops.specs.declared.StopSet.{StopSet}
use Rattle.stops.proofs.Lists.{get_or_set_at}
use Rattle.stops.proofs.Members.{not_member, no_member, common_left, common_right, in_common, in_left, in_right, of_either, only_just}
use Rattle.ng.specs.Ng.{set_of, near_of, recall, wider_at}

-- every member of a is one of b
abbrev pub Part : ℕ → ℕ → Type 0
Part a b = (k : ℕ) → member a k ≡ true → member b k ≡ true

-- a smaller memory bars no more
pub freer : (a b j : ℕ) → Part a b → member b j ≡ false → member a j ≡ false
freer a b j part free = not_member a j (λ h. no_member b j free (part j h))

-- only j is new
pub learnt : (near j memory k : ℕ) → member (recall near j memory) k ≡ true → (member memory k ≡ true) ⊎ (k ≡ j)
learnt near j memory k h =
    ⊎_elim (λ l. inl (common_left memory near k l)) (λ r. inr (only_just j k r)) (of_either (common memory near) (just j) k h)

-- in the larger neighbourhood, the larger memory remembers more
pub recall_more : (small large j a b : ℕ) → Part small large → Part a b → Part (recall small j a) (recall large j b)
recall_more small large j a b near part k h =
    ⊎_elim
    (λ l. in_left (common b large) (just j) k (in_common b large k (part k (common_left a small k l)) (near k (common_right a small k l))))
    (λ r. in_right (common b large) (just j) k r)
    (of_either (common a small) (just j) k h)

-- every neighbourhood is larger
abbrev pub Wider : List StopSet → List StopSet → Type 0
Wider near far = (j : ℕ) → Part (near_of near j) (near_of far j)

pub wider_here : (near : List StopSet) (index stops : ℕ) → Wider near (wider_at near index stops)
wider_here near index stops j =
    ⊎_elim
    (λ same. subst (λ i. Part (near_of near i) (near_of (wider_at near index stops) i)) (sym same) at)
    (λ other k h. ap (λ (s : StopSet). member s.word k) (get_or-set_other near index j (set_of (joined (near_of near index) stops)) (set_of empty_set) other) ∙ h)
    (cases_eq j index)
  where
    at : Part (near_of near index) (near_of (wider_at near index stops) index)
    at = get_or_set_at (λ s. Part (near_of near index) s.word) near index (set_of (joined (near_of near index) stops)) (set_of empty_set) (λ k h. in_left (near_of near index) stops k h) (λ k h. h)
