use Rattle.std.proofs.Common.{rules, ◌≡◌, ℕ, zero, suc, ◌+◌, ◌<◌, ◌≤◌, cond, ltb, List, [], ◌∷◌, ◌++◌, map, length, get_or, refl, ap, ◌∙◌, arith}
use Rattle.std.specs.List.{range_with_len}
use Rattle.std.proofs.lemmas.List.FromFn.{map-range_with_len_more, fill_by_all}
use Rattle.std.proofs.lemmas.Bool.{lt-ltb}
use Rattle.stops.specs.Stops.{just, empty_set}
use Rattle.stops.specs.declared.StopSet.{StopSet}
use Rattle.ng.specs.Ng.{set_of, alone_to}
use Rattle.ng.proofs.each_alone.Goals as goal

abbrev alone : ℕ → StopSet
alone k = set_of (just k)

alone_in_range : (n : ℕ) → map alone (range_with_len 0 n) ≡ alone_to n
alone_in_range zero = refl
alone_in_range (suc n) =
    ap (λ m. map alone (range_with_len 0 m)) (let e : suc n ≡ n + 1 = omega arith in e)
    ∙ map-range_with_len_more alone 0 n n (omega arith)
    ∙ ap (λ xs. xs ++ alone n ∷ []) (alone_in_range n)

each_made : (near : List StopSet) (n : ℕ) → n ≤ 64 → length near ≡ n → ((k : ℕ) → k < n → (get_or near k (set_of empty_set)).word ≡ cond (ltb k 64) (just k) empty_set) → near ≡ alone_to n
each_made near n small long h =
    fill_by_all alone near n (set_of empty_set) long (λ k l. ap set_of (h k l ∙ ap (λ b. cond b (just k) empty_set) (lt-ltb k 64 (omega arith)))) ∙ alone_in_range n

pub returns : goal.returns
returns c =
    let made = c.from_fn.ensures.items in
    each_made c.from_fn.result 61 (omega arith) made.long (λ k l. let called = (made.at k (set_of empty_set) l).2 in search rules)
