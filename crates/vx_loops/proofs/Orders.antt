-- How often a number stands in a list, and orders that have each number once.
use Rattle.std.proofs.Common.{◌≡◌, inl, inr, get_or, ℕ, zero, suc, ◌+◌, ◌<◌, ◌≤◌, ◌^◌, Bool, true, false, List, [], ◌∷◌, ◌++◌, length, slice_set, refl, sym, ap, subst, ◌∙◌, arith}
use Rattle.std.specs.Prelude.{◌==◌, if◌then◌else◌, min, nat_lt, replicate}
use Rattle.std.proofs.lemmas.Bool.Decides.{nat_tests}
use Rattle.std.proofs.lemmas.List.{get_or-set_same, get_or-set_other, get_or_past}
use Rattle.vx_flow.specs.Effects.{IsIn}
use Rattle.vx_flow.specs.Rows.{is_marked}
use Rattle.vx_flow.proofs.Members.{in_front_or_last}
use Rattle.vx_loops.specs.Path.{EachFrom}
use Rattle.vx_loops.specs.Order.{HasEachOnce, MarksStay, Placed, times_in}

pub times_append : (b : ℕ) (xs ys : List ℕ) → times_in b (xs ++ ys) ≡ times_in b xs + times_in b ys
times_append b [] ys = omega arith
times_append b (x ∷ xs) ys = let h : times_in b (xs ++ ys) ≡ times_in b xs + times_in b ys = times_append b xs ys in omega arith

-- one more number

pub times_same : (b x : ℕ) → (b ≡ x) → times_in b (x ∷ []) ≡ 1
times_same b x e = grind (arith, nat_tests)

pub times_other : (b x : ℕ) → (b ≡ x → ⊥) → times_in b (x ∷ []) ≡ 0
times_other b x n = grind (arith, nat_tests)

pub same_or_not : {P : Type 0} (b x : ℕ) → (b ≡ x → P) → ((b ≡ x → ⊥) → P) → P
same_or_not {P = P} b x f g = by (b == x) refl
  where
    by : (t : Bool) → (b == x) ≡ t → P
    by true e = f (grind (arith, nat_tests))
    by false e = g (λ q. grind (arith, nat_tests))

pub times_more_same : (b x : ℕ) (xs : List ℕ) → b ≡ x → times_in b (xs ++ x ∷ []) ≡ times_in b xs + 1
times_more_same b x xs e = let a : times_in b (xs ++ x ∷ []) ≡ times_in b xs + times_in b (x ∷ []) = times_append b xs (x ∷ []) in let o : times_in b (x ∷ []) ≡ 1 = times_same b x e in omega arith

pub times_more_other : (b x : ℕ) (xs : List ℕ) → (b ≡ x → ⊥) → times_in b (xs ++ x ∷ []) ≡ times_in b xs
times_more_other b x xs n = let a : times_in b (xs ++ x ∷ []) ≡ times_in b xs + times_in b (x ∷ []) = times_append b xs (x ∷ []) in let o : times_in b (x ∷ []) ≡ 0 = times_other b x n in omega arith

pub below_or_not : {P : Type 0} (b n : ℕ) → (b < n → P) → (n ≤ b → P) → P
below_or_not {P = P} b n f g = by (nat_lt b n) refl
  where
    by : (t : Bool) → nat_lt b n ≡ t → P
    by true e = f (grind (arith, nat_tests))
    by false e = g (grind (arith, nat_tests))

-- what stands in a list

pub in_at : (xs : List ℕ) (i x : ℕ) → i < length xs → x ≡ get_or xs i 0 → IsIn x xs
in_at [] i x lt e = absurd (omega arith)
in_at (y ∷ xs) zero x lt e = inl e
in_at (y ∷ xs) (suc i) x lt e = inr (in_at xs i x (omega arith) e)

pub none_from : (all some : List ℕ) → some ≡ [] → EachFrom all some
none_from all some e b i = absurd (subst (IsIn b) e i)

pub each_more : (all some now : List ℕ) (x : ℕ) → EachFrom all some → now ≡ some ++ x ∷ [] → IsIn x all → EachFrom all now
each_more all some now x h e there b i = elim (in_front_or_last b x some (subst (IsIn b) e i)) [ inl a ↦ h b a | inr q ↦ subst (λ z. IsIn z all) (sym q) there ]

-- marks

pub mark_there : (marks : List Bool) (p : ℕ) → p < length marks → is_marked (slice_set marks p true) p ≡ true
mark_there marks p h = get_or-set_same marks p true false h

pub mark_other : (marks : List Bool) (p b : ℕ) → (b ≡ p → ⊥) → is_marked (slice_set marks p true) b ≡ is_marked marks b
mark_other marks p b n = get_or-set_other marks p b true false n

pub marks_stay : (marks : List Bool) (p : ℕ) → p < length marks → MarksStay marks (slice_set marks p true)
marks_stay marks p h b m = same_or_not b p (λ e. subst (λ z. is_marked (slice_set marks p true) z ≡ true) (sym e) (mark_there marks p h)) (λ n. mark_other marks p b n ∙ m)

pub all_more : (place : ℕ) (before after : List Bool) → MarksStay before after → (place < length before → is_marked after place ≡ true) → place < length before → ((b : ℕ) → b < place → b < 2 ^ 32 → is_marked before b ≡ true) → (b : ℕ) → b < place + 1 → b < 2 ^ 32 → is_marked after b ≡ true
all_more place before after stay mark there all b lt small = same_or_not b place (λ e. subst (λ z. is_marked after z ≡ true) (sym e) (mark there)) (λ n. stay b (all b (omega (arith, lt, n)) small))

pub all_past : (place : ℕ) (marks : List Bool) → 2 ^ 32 ≤ place → ((b : ℕ) → b < place → b < 2 ^ 32 → is_marked marks b ≡ true) → (b : ℕ) → b < place + 1 → b < 2 ^ 32 → is_marked marks b ≡ true
all_past place marks past all b lt small = all b (omega (arith, past, small)) small

pub placed_more : (marks : List Bool) (xs : List ℕ) (p : ℕ) → Placed marks xs → p < length marks → is_marked marks p ≡ false → p < 2 ^ 32 → Placed (slice_set marks p true) (xs ++ p ∷ [])
placed_more marks xs p h there free small = record {
  counted = λ b. same_or_not b p
      (λ e. (let k : times_in b xs ≡ 0 = h.counted b ∙ ap (λ z. if z then 1 else 0) (ap (is_marked marks) e ∙ free) in let o : times_in b (xs ++ p ∷ []) ≡ times_in b xs + 1 = times_more_same b p xs e in let s : times_in b (xs ++ p ∷ []) ≡ 1 = omega arith in s) ∙ ap (λ z. if z then 1 else 0) (sym (ap (is_marked (slice_set marks p true)) e ∙ mark_there marks p there)))
      (λ n. times_more_other b p xs n ∙ h.counted b ∙ ap (λ z. if z then 1 else 0) (sym (mark_other marks p b n)));
  small = λ b m. same_or_not b p (λ e. subst (λ z. z < 2 ^ 32) (sym e) small) (λ n. h.small b (sym (mark_other marks p b n) ∙ m));
}

none_marked : (n b : ℕ) → is_marked (replicate n false) b ≡ false
none_marked zero b = refl
none_marked (suc n) zero = refl
none_marked (suc n) (suc b) = none_marked n b

pub placed_none : (n : ℕ) → Placed (replicate n false) []
placed_none n = record {
  counted = λ b. ap (λ z. if z then 1 else 0) (sym (none_marked n b));
  small = λ b m. let e : false ≡ true = sym (none_marked n b) ∙ m in absurd (cc);
}

not_marked_past : (marks : List Bool) (b : ℕ) → length marks ≤ b → is_marked marks b ≡ false
not_marked_past marks b h = get_or_past marks b false h

pub each_once : (count : ℕ) (marks : List Bool) (xs : List ℕ) → Placed marks xs → length marks ≡ count → ((b : ℕ) → b < count → b < 2 ^ 32 → is_marked marks b ≡ true) → HasEachOnce (min count (2 ^ 32)) xs
each_once count marks xs h many all = record {
  each = λ b lt. h.counted b ∙ ap (λ z. if z then 1 else 0) (all b (omega arith) (omega arith));
  no_other = λ b le. h.counted b ∙ ap (λ z. if z then 1 else 0) (by b le (is_marked marks b) refl);
}
  where
    by : (b : ℕ) → min count (2 ^ 32) ≤ b → (t : Bool) → is_marked marks b ≡ t → is_marked marks b ≡ false
    by b le false e = e
    by b le true e = let s : b < 2 ^ 32 = h.small b e in let k : count ≤ b = omega arith in not_marked_past marks b (subst (λ z. z ≤ b) (sym many) k)
