-- The slots of marked values and the arrays of a frame stand apart.
use Rattle.std.proofs.Common.{◌≡◌, ◌⊎◌, ◌<◌, ◌≤◌, ◌+◌, ℕ, zero, suc, Bool, true, false, Some, None, List, [], ◌∷◌, ◌++◌, length, drop, get_or, slice_get, slice_index_or, inl, inr, refl, sym, ap, ◌∙◌, subst, arith, append_assoc}
use Rattle.std.proofs.lemmas.List.{drop_more, drop_all}
use Rattle.vx_flow.specs.declared.graph.Array.{Array}
use Rattle.vx_flow.specs.Effects.{IsIn}
use Rattle.vx_regs.specs.declared.map.Kept.{Kept}
use Rattle.vx_regs.specs.declared.map.Kept.TheVariants.{InRegister, InSlot, Nowhere}
use Rattle.vx_regs.specs.declared.map.RegMap.{RegMap}
use Rattle.vx_regs.specs.Marks.{is_marked, Marks}
use Rattle.vx_regs.proofs.Marking.{in_either, in_left, in_right}
use Rattle.vx_calls.proofs.Pieces.{placed_more}
use Rattle.vx_calls.specs.Framing.{SlotNeeded}
use Rattle.vx_calls.proofs.Marked.{as_many_slots, is_marked_in, marked_from, marked_once, own_behind}
use Rattle.vx_calls.specs.Slots.{FrameStands, Marking, MarksJust, arrays_end, arrays_from, in_slots, joined, slots_end, slots_from}

-- marks of one step after the other

pub none_marked : (vs : List ℕ) (a : List Bool) → Marking vs vs a a
none_marked vs a = record { named = λ v i. inr i; kept = λ v h. h; only = λ v h. inl h; among = λ v i. i }

pub more_marked : (vs xs left rest : List ℕ) (old a b : List Bool) → left ≡ xs ++ rest → Marking vs left old a → MarksJust xs a b → Marking vs rest old b
more_marked vs xs left rest old a b e m just = record {
  named = λ v i. by v (m.named v i);
  kept = λ v h. more.kept v (m.kept v h);
  only = λ v h. before v (just.only v h);
  among = λ v i. m.among v (subst (IsIn v) (sym e) (in_right v xs rest i));
}
  where
    more : Marks xs a b
    more = just.marks

    before : (v : ℕ) → (is_marked a v ≡ true) ⊎ IsIn v xs → (is_marked old v ≡ true) ⊎ IsIn v vs
    before v (inl h) = m.only v h
    before v (inr i) = inr (m.among v (subst (IsIn v) (sym e) (in_left v xs rest i)))

    next_ : (v : ℕ) → IsIn v xs ⊎ IsIn v rest → (is_marked b v ≡ true) ⊎ IsIn v rest
    next_ v (inl i) = inl (more.named v i)
    next_ v (inr i) = inr i

    by : (v : ℕ) → (is_marked a v ≡ true) ⊎ IsIn v left → (is_marked b v ≡ true) ⊎ IsIn v rest
    by v (inl h) = inl (more.kept v h)
    by v (inr i) = next_ v (in_either v xs rest (subst (IsIn v) e i))

pub all_marked : (vs : List ℕ) (old new : List Bool) → Marking vs [] old new → MarksJust vs old new
all_marked vs old new m = record { marks = record { named = λ v i. by v (m.named v i); kept = m.kept }; only = m.only }
  where
    by : (v : ℕ) → (is_marked new v ≡ true) ⊎ IsIn v [] → is_marked new v ≡ true
    by v (inl h) = h
    by v (inr i) = absurd i

pub one_list : (saved : List (List ℕ)) (i : ℕ) (vs : List ℕ) (old a b : List Bool) → i < length saved → vs ≡ get_or saved i vs → Marking (joined saved) (joined (drop i saved)) old a → MarksJust vs a b → Marking (joined saved) (joined (drop (i + 1) saved)) old b
one_list saved i vs old a b h e m more =
    more_marked (joined saved) vs (joined (drop i saved)) (joined (drop (i + 1) saved)) old a b (ap joined (drop_more saved i vs h ∙ ap (λ xs. xs ∷ drop (i + 1) saved) (sym e))) m more

-- one value more that may be in a slot

slotted_left : (ks : List Kept) (i : ℕ) (d : Kept) → i < length ks → in_slots i (drop i ks) ≡ in_slots i (get_or ks i d ∷ drop (i + 1) ks)
slotted_left ks i d lt = ap (in_slots i) (drop_more ks i d lt)

next_slots : (ks : List Kept) (i : ℕ) → in_slots (suc i) (drop (i + 1) ks) ≡ in_slots (i + 1) (drop (i + 1) ks)
next_slots ks i = let e : suc i ≡ i + 1 = omega arith in ap (λ n. in_slots n (drop (i + 1) ks)) e

pub slotted_more : (ks : List Kept) (i k : ℕ) (d : Kept) (old a b : List Bool) → i < length ks → get_or ks i d ≡ InSlot k → Marking (in_slots 0 ks) (in_slots i (drop i ks)) old a → MarksJust (i ∷ []) a b → Marking (in_slots 0 ks) (in_slots (i + 1) (drop (i + 1) ks)) old b
slotted_more ks i k d old a b lt is m more =
    more_marked (in_slots 0 ks) (i ∷ []) (in_slots i (drop i ks)) (in_slots (i + 1) (drop (i + 1) ks)) old a b
    (slotted_left ks i d lt ∙ ap (λ z. in_slots i (z ∷ drop (i + 1) ks)) is ∙ ap (λ vs. i ∷ vs) (next_slots ks i)) m more

pub unslotted_more : (ks : List Kept) (i : ℕ) (d : Kept) (old a : List Bool) → i < length ks → ((k : ℕ) → get_or ks i d ≡ InSlot k → ⊥) → Marking (in_slots 0 ks) (in_slots i (drop i ks)) old a → Marking (in_slots 0 ks) (in_slots (i + 1) (drop (i + 1) ks)) old a
unslotted_more ks i d old a lt other m = subst (λ left. Marking (in_slots 0 ks) left old a) (slotted_left ks i d lt ∙ by (get_or ks i d) other ∙ next_slots ks i) m
  where
    by : (x : Kept) → ((k : ℕ) → x ≡ InSlot k → ⊥) → in_slots i (x ∷ drop (i + 1) ks) ≡ in_slots (suc i) (drop (i + 1) ks)
    by (InRegister n) other = refl
    by (InSlot k) other = absurd (other k refl)
    by Nowhere other = refl

-- what needs a slot is marked

in_joined : (saved : List (List ℕ)) (p v : ℕ) → IsIn v (slice_index_or saved p []) → IsIn v (joined saved)
in_joined [] p v i = absurd i
in_joined (vs ∷ more) zero v i = in_left v vs (joined more) i
in_joined (vs ∷ more) (suc p) v i = in_right v vs (joined more) (in_joined more p v i)

slotted_in : (n : ℕ) (ks : List Kept) (v k : ℕ) → slice_index_or ks v Nowhere ≡ InSlot k → IsIn (n + v) (in_slots n ks)
slotted_in n [] v k e = absurd (let z : Nowhere ≡ InSlot k = e in cc)
slotted_in n (InRegister m ∷ ks) zero k e = absurd (let z : InRegister m ≡ InSlot k = e in cc)
slotted_in n (InSlot m ∷ ks) zero k e = inl (omega arith)
slotted_in n (Nowhere ∷ ks) zero k e = absurd (let z : Nowhere ≡ InSlot k = e in cc)
slotted_in n (InRegister m ∷ ks) (suc v) k e = let z : suc n + v ≡ n + suc v = omega arith in subst (λ u. IsIn u (in_slots (suc n) ks)) z (slotted_in (suc n) ks v k e)
slotted_in n (InSlot m ∷ ks) (suc v) k e = let z : suc n + v ≡ n + suc v = omega arith in inr (subst (λ u. IsIn u (in_slots (suc n) ks)) z (slotted_in (suc n) ks v k e))
slotted_in n (Nowhere ∷ ks) (suc v) k e = let z : suc n + v ≡ n + suc v = omega arith in subst (λ u. IsIn u (in_slots (suc n) ks)) z (slotted_in (suc n) ks v k e)

in_slot : (ks : List Kept) (v k : ℕ) → slice_index_or ks v Nowhere ≡ InSlot k → IsIn v (in_slots 0 ks)
in_slot ks v k e = let z : 0 + v ≡ v = omega arith in subst (λ u. IsIn u (in_slots 0 ks)) z (slotted_in 0 ks v k e)

-- and nothing else is

joined_in : (saved : List (List ℕ)) (v : ℕ) → IsIn v (joined saved) → (p : ℕ) × IsIn v (slice_index_or saved p [])
joined_in [] v i = absurd i
joined_in (vs ∷ more) v i = elim (in_either v vs (joined more) i) [
  | inl a ↦ (0, a)
  | inr b ↦ let r = joined_in more v b in (suc r.0, r.1)
]

record Slotted (n : ℕ) (ks : List Kept) (v : ℕ) : Type 0 where
  i : ℕ
  k : ℕ
  is : v ≡ n + i
  kept : slice_index_or ks i Nowhere ≡ InSlot k

further : (n : ℕ) (x : Kept) (ks : List Kept) (v : ℕ) → Slotted (suc n) ks v → Slotted n (x ∷ ks) v
further n x ks v r = let e = r.is in let j = r.i in let z : v ≡ n + suc j = omega arith in record { i = suc j; k = r.k; is = z; kept = r.kept }

slotted : (n : ℕ) (ks : List Kept) (v : ℕ) → IsIn v (in_slots n ks) → Slotted n ks v
slotted n [] v h = absurd h
slotted n (InRegister m ∷ ks) v h = further n (InRegister m) ks v (slotted (suc n) ks v h)
slotted n (InSlot m ∷ ks) v (inl e) = let z : v ≡ n + 0 = omega arith in record { i = 0; k = m; is = z; kept = refl }
slotted n (InSlot m ∷ ks) v (inr h) = further n (InSlot m) ks v (slotted (suc n) ks v h)
slotted n (Nowhere ∷ ks) v h = further n Nowhere ks v (slotted (suc n) ks v h)

needed : (parameters : List ℕ) (map : RegMap) (saved : List (List ℕ)) (v : ℕ) → IsIn v (parameters ++ (in_slots 0 map.values ++ joined saved)) → SlotNeeded parameters map saved v
needed parameters map saved v h = elim (in_either v parameters (in_slots 0 map.values ++ joined saved) h) [
  | inl a ↦ SlotNeeded.is_passed a
  | inr b ↦ elim (in_either v (in_slots 0 map.values) (joined saved) b) [
    | inl c ↦ let r = slotted 0 map.values v c in let e = r.is in let j = r.i in let z : j ≡ v = omega arith in SlotNeeded.is_kept r.k (subst (λ u. slice_index_or map.values u Nowhere ≡ InSlot r.k) z r.kept)
    | inr d ↦ let r = joined_in saved v d in SlotNeeded.is_saved r.0 r.1
  ]
]

-- slots

slot_from : (n : ℕ) (marks : List Bool) (v : ℕ) → is_marked marks v ≡ true → n ≤ slice_index_or (slots_from n marks) v 0
slot_from n [] v h = absurd (let e : false ≡ true = h in cc)
slot_from n (true ∷ marks) zero h = omega arith
slot_from n (false ∷ marks) zero h = absurd (let e : false ≡ true = h in cc)
slot_from n (true ∷ marks) (suc v) h = let a = slot_from (suc n) marks v h in omega arith
slot_from n (false ∷ marks) (suc v) h = slot_from n marks v h

end_from : (n : ℕ) (marks : List Bool) → n ≤ slots_end n marks
end_from n [] = omega arith
end_from n (true ∷ marks) = let a = end_from (suc n) marks in omega arith
end_from n (false ∷ marks) = end_from n marks

slot_to : (n : ℕ) (marks : List Bool) (v : ℕ) → is_marked marks v ≡ true → slice_index_or (slots_from n marks) v 0 < slots_end n marks
slot_to n [] v h = absurd (let e : false ≡ true = h in cc)
slot_to n (true ∷ marks) zero h = let a = end_from (suc n) marks in omega arith
slot_to n (false ∷ marks) zero h = absurd (let e : false ≡ true = h in cc)
slot_to n (true ∷ marks) (suc v) h = slot_to (suc n) marks v h
slot_to n (false ∷ marks) (suc v) h = slot_to n marks v h

slots_apart : (n : ℕ) (marks : List Bool) (u v : ℕ) → is_marked marks u ≡ true → is_marked marks v ≡ true → slice_index_or (slots_from n marks) u 0 ≡ slice_index_or (slots_from n marks) v 0 → u ≡ v
slots_apart n [] u v a b e = absurd (let z : false ≡ true = a in cc)
slots_apart n (x ∷ marks) zero zero a b e = refl
slots_apart n (true ∷ marks) zero (suc v) a b e = absurd (let h = slot_from (suc n) marks v b in omega arith)
slots_apart n (false ∷ marks) zero (suc v) a b e = absurd (let z : false ≡ true = a in cc)
slots_apart n (true ∷ marks) (suc u) zero a b e = absurd (let h = slot_from (suc n) marks u a in omega arith)
slots_apart n (false ∷ marks) (suc u) zero a b e = absurd (let z : false ≡ true = b in cc)
slots_apart n (true ∷ marks) (suc u) (suc v) a b e = ap suc (slots_apart (suc n) marks u v a b e)
slots_apart n (false ∷ marks) (suc u) (suc v) a b e = ap suc (slots_apart n marks u v a b e)

-- arrays

abbrev begin_of : ℕ → List Array → List ℕ → ℕ → ℕ
begin_of n xs addresses a = slice_index_or (arrays_from n xs addresses) a 0

-- one mark more

module _ (marks : List Bool) (i n m : ℕ) (d : Bool) where
  abbrev rest : List Bool
  rest = drop (i + 1) marks

  pub marked_placed : (words new all : List ℕ) → words ++ slots_from n (drop i marks) ≡ all → i < length marks → get_or marks i d ≡ true → m ≡ n + 1 → new ≡ words ++ (n ∷ []) → new ++ slots_from m rest ≡ all
  marked_placed words new all so_far lt is e put =
      let k : suc n ≡ m = omega (arith, e) in
      placed_more slots_from words all n marks i so_far new (n ∷ []) m d lt (ap (λ b. slots_from n (b ∷ rest)) is ∙ ap (λ j. n ∷ slots_from j rest) k) put

  pub marked_end : (all : ℕ) → slots_end n (drop i marks) ≡ all → i < length marks → get_or marks i d ≡ true → m ≡ n + 1 → slots_end m rest ≡ all
  marked_end all so_far lt is e =
      let k : m ≡ suc n = omega (arith, e) in
      ap (λ j. slots_end j rest) k ∙ sym (ap (λ l. slots_end n l) (drop_more marks i d lt) ∙ ap (λ b. slots_end n (b ∷ rest)) is) ∙ so_far

  pub unmarked_placed : (words new all : List ℕ) → words ++ slots_from n (drop i marks) ≡ all → i < length marks → get_or marks i d ≡ false → m ≡ n → new ≡ words ++ (0 ∷ []) → new ++ slots_from m rest ≡ all
  unmarked_placed words new all so_far lt is e put =
      placed_more slots_from words all n marks i so_far new (0 ∷ []) m d lt (ap (λ b. slots_from n (b ∷ rest)) is ∙ ap (λ j. 0 ∷ slots_from j rest) (sym e)) put

  pub unmarked_end : (all : ℕ) → slots_end n (drop i marks) ≡ all → i < length marks → get_or marks i d ≡ false → m ≡ n → slots_end m rest ≡ all
  unmarked_end all so_far lt is e =
      ap (λ j. slots_end j rest) e ∙ sym (ap (λ l. slots_end n l) (drop_more marks i d lt) ∙ ap (λ b. slots_end n (b ∷ rest)) is) ∙ so_far

global_at : (n : ℕ) (xs : List Array) (addresses : List ℕ) (a : ℕ) (x : Array) → slice_get xs a ≡ Some x → a < length addresses → begin_of n xs addresses a ≡ slice_index_or addresses a 0
global_at n [] addresses a x e h = absurd (let z : None ≡ Some x = e in cc)
global_at n (y ∷ xs) [] a x e h = absurd (omega arith)
global_at n (y ∷ xs) (c ∷ addresses) zero x e h = refl
global_at n (y ∷ xs) (c ∷ addresses) (suc a) x e h = global_at n xs addresses a x e (omega arith)

own_from : (n : ℕ) (xs : List Array) (addresses : List ℕ) (a : ℕ) (x : Array) → slice_get xs a ≡ Some x → length addresses ≤ a → n ≤ begin_of n xs addresses a
own_from n [] addresses a x e h = absurd (let z : None ≡ Some x = e in cc)
own_from n (y ∷ xs) [] zero x e h = omega arith
own_from n (y ∷ xs) [] (suc a) x e h = let l = own_from (n + y.words) xs [] a x e (omega arith) in omega arith
own_from n (y ∷ xs) (c ∷ addresses) zero x e h = absurd (omega arith)
own_from n (y ∷ xs) (c ∷ addresses) (suc a) x e h = own_from n xs addresses a x e (omega arith)

end_behind : (n : ℕ) (xs : List Array) (addresses : List ℕ) → n ≤ arrays_end n xs addresses
end_behind n [] addresses = omega arith
end_behind n (y ∷ xs) [] = let l = end_behind (n + y.words) xs [] in omega arith
end_behind n (y ∷ xs) (c ∷ addresses) = end_behind n xs addresses

-- one more array

pushed : {A : Type 0} (now new : List A) (x : A) (rest all : List A) → now ++ (x ∷ rest) ≡ all → new ≡ now ++ (x ∷ []) → new ++ rest ≡ all
pushed now new x rest all h e = ap (λ l. l ++ rest) e ∙ append_assoc now (x ∷ []) rest ∙ h

pub global_placed : (n m i address : ℕ) (xs : List Array) (addresses words new all : List ℕ) (d : Array) → i < length xs → i < length addresses → address ≡ get_or addresses i address → m ≡ n →
    words ++ arrays_from n (drop i xs) (drop i addresses) ≡ all → new ≡ words ++ (address ∷ []) → new ++ arrays_from m (drop (i + 1) xs) (drop (i + 1) addresses) ≡ all
global_placed n m i address xs addresses words new all d l k a e h q =
    let rest = arrays_from n (drop (i + 1) xs) (drop (i + 1) addresses) in
    let x : drop i xs ≡ get_or xs i d ∷ drop (i + 1) xs = drop_more xs i d l in
    let y : drop i addresses ≡ address ∷ drop (i + 1) addresses = drop_more addresses i address k ∙ ap (λ z. z ∷ drop (i + 1) addresses) (sym a) in
    let first : words ++ arrays_from n (get_or xs i d ∷ drop (i + 1) xs) (drop i addresses) ≡ all = subst (λ z. words ++ arrays_from n z (drop i addresses) ≡ all) x h in
    let second : words ++ (address ∷ rest) ≡ all = subst (λ z. words ++ arrays_from n (get_or xs i d ∷ drop (i + 1) xs) z ≡ all) y first in
    subst (λ z. new ++ arrays_from z (drop (i + 1) xs) (drop (i + 1) addresses) ≡ all) (sym e) (pushed words new address rest all second q)

pub global_end : (n m i end : ℕ) (xs : List Array) (addresses : List ℕ) (d : Array) → i < length xs → i < length addresses → m ≡ n →
    arrays_end n (drop i xs) (drop i addresses) ≡ end → arrays_end m (drop (i + 1) xs) (drop (i + 1) addresses) ≡ end
global_end n m i end xs addresses d l k e h =
    let first : arrays_end n (get_or xs i d ∷ drop (i + 1) xs) (drop i addresses) ≡ end = subst (λ z. arrays_end n z (drop i addresses) ≡ end) (drop_more xs i d l) h in
    let second : arrays_end n (drop (i + 1) xs) (drop (i + 1) addresses) ≡ end = subst (λ z. arrays_end n (get_or xs i d ∷ drop (i + 1) xs) z ≡ end) (drop_more addresses i 0 k) first in
    subst (λ z. arrays_end z (drop (i + 1) xs) (drop (i + 1) addresses) ≡ end) (sym e) second

pub own_placed : (n m i : ℕ) (xs : List Array) (addresses words new all : List ℕ) (d : Array) → i < length xs → length addresses ≤ i → m ≡ n + (get_or xs i d).words →
    words ++ arrays_from n (drop i xs) (drop i addresses) ≡ all → new ≡ words ++ (n ∷ []) → new ++ arrays_from m (drop (i + 1) xs) (drop (i + 1) addresses) ≡ all
own_placed n m i xs addresses words new all d l k e h q =
    let x : drop i xs ≡ get_or xs i d ∷ drop (i + 1) xs = drop_more xs i d l in
    let rest = arrays_from (n + (get_or xs i d).words) (drop (i + 1) xs) [] in
    let first : words ++ arrays_from n (get_or xs i d ∷ drop (i + 1) xs) (drop i addresses) ≡ all = subst (λ z. words ++ arrays_from n z (drop i addresses) ≡ all) x h in
    let second : words ++ (n ∷ rest) ≡ all = subst (λ z. words ++ arrays_from n (get_or xs i d ∷ drop (i + 1) xs) z ≡ all) (drop_all i addresses k) first in
    subst (λ z. new ++ arrays_from z (drop (i + 1) xs) (drop (i + 1) addresses) ≡ all) (sym e)
    (subst (λ z. new ++ arrays_from (n + (get_or xs i d).words) (drop (i + 1) xs) z ≡ all) (sym (drop_all (i + 1) addresses (omega arith))) (pushed words new n rest all second q))

pub own_end : (n m i end : ℕ) (xs : List Array) (addresses : List ℕ) (d : Array) → i < length xs → length addresses ≤ i → m ≡ n + (get_or xs i d).words →
    arrays_end n (drop i xs) (drop i addresses) ≡ end → arrays_end m (drop (i + 1) xs) (drop (i + 1) addresses) ≡ end
own_end n m i end xs addresses d l k e h =
    let first : arrays_end n (get_or xs i d ∷ drop (i + 1) xs) (drop i addresses) ≡ end = subst (λ z. arrays_end n z (drop i addresses) ≡ end) (drop_more xs i d l) h in
    let second : arrays_end (n + (get_or xs i d).words) (drop (i + 1) xs) [] ≡ end = subst (λ z. arrays_end n (get_or xs i d ∷ drop (i + 1) xs) z ≡ end) (drop_all i addresses k) first in
    subst (λ z. arrays_end z (drop (i + 1) xs) (drop (i + 1) addresses) ≡ end) (sym e)
    (subst (λ z. arrays_end (n + (get_or xs i d).words) (drop (i + 1) xs) z ≡ end) (sym (drop_all (i + 1) addresses (omega arith))) second)

array_is : {x y : Array} → Some x ≡ Some y → x ≡ y
array_is e = cc

own_to : (n : ℕ) (xs : List Array) (addresses : List ℕ) (a : ℕ) (x : Array) → slice_get xs a ≡ Some x → length addresses ≤ a → begin_of n xs addresses a + x.words ≤ arrays_end n xs addresses
own_to n [] addresses a x e h = absurd (let z : None ≡ Some x = e in cc)
own_to n (y ∷ xs) [] zero x e h = let l = end_behind (n + y.words) xs [] in let s = ap (λ z. z.words) (array_is e) in omega arith
own_to n (y ∷ xs) [] (suc a) x e h = own_to (n + y.words) xs [] a x e (omega arith)
own_to n (y ∷ xs) (c ∷ addresses) zero x e h = absurd (omega arith)
own_to n (y ∷ xs) (c ∷ addresses) (suc a) x e h = own_to n xs addresses a x e (omega arith)

own_apart : (n : ℕ) (xs : List Array) (addresses : List ℕ) (a b : ℕ) (x z : Array) → slice_get xs a ≡ Some x → slice_get xs b ≡ Some z → length addresses ≤ a → a < b → begin_of n xs addresses a + x.words ≤ begin_of n xs addresses b
own_apart n [] addresses a b x z e f h l = absurd (let q : None ≡ Some x = e in cc)
own_apart n (y ∷ xs) addresses a zero x z e f h l = absurd (omega arith)
own_apart n (y ∷ xs) [] zero (suc b) x z e f h l = let k = own_from (n + y.words) xs [] b z f (omega arith) in let s = ap (λ q. q.words) (array_is e) in omega arith
own_apart n (y ∷ xs) [] (suc a) (suc b) x z e f h l = own_apart (n + y.words) xs [] a b x z e f (omega arith) (omega arith)
own_apart n (y ∷ xs) (c ∷ addresses) zero (suc b) x z e f h l = absurd (omega arith)
own_apart n (y ∷ xs) (c ∷ addresses) (suc a) (suc b) x z e f h l = own_apart n xs addresses a b x z e f (omega arith) (omega arith)

-- the frame

frame_stands : (parameters : List ℕ) (map : RegMap) (saved : List (List ℕ)) (xs : List Array) (addresses : List ℕ) (marks : List Bool) →
    MarksJust (parameters ++ (in_slots 0 map.values ++ joined saved)) [] marks →
    FrameStands parameters map saved xs addresses (slots_from 1 marks) (arrays_from (slots_end 1 marks) xs addresses) (arrays_end (slots_end 1 marks) xs addresses)
frame_stands parameters map saved xs addresses marks just = record {
  between = slots_end 1 marks;
  behind_link = end_from 1 marks;
  slots = record {
    from = λ v n. slot_from 1 marks v (marked v n);
    to = λ v n. slot_to 1 marks v (marked v n);
    apart = λ u v m n e. slots_apart 1 marks u v (marked u m) (marked v n) e;
  };
  arrays = record {
    globals = global_at (slots_end 1 marks) xs addresses;
    own_from = own_from (slots_end 1 marks) xs addresses;
    own_to = own_to (slots_end 1 marks) xs addresses;
    own_apart = own_apart (slots_end 1 marks) xs addresses;
  };
  within = end_behind (slots_end 1 marks) xs addresses;
  size = record {
    values = marked_from 0 marks;
    once = marked_once 0 marks;
    each = λ v h. elim (just.only v (is_marked_in marks v h)) [
      | inl none ↦ absurd (let z : false ≡ true = none in cc)
      | inr i ↦ needed parameters map saved v i
    ];
    words_are = (let a = own_behind (slots_end 1 marks) xs addresses in let b = as_many_slots 1 0 marks in omega arith);
  };
}
  where
    m : Marks (parameters ++ (in_slots 0 map.values ++ joined saved)) [] marks
    m = just.marks

    marked : (v : ℕ) → SlotNeeded parameters map saved v → is_marked marks v ≡ true
    marked v (SlotNeeded.is_passed i) = m.named v (in_left v parameters (in_slots 0 map.values ++ joined saved) i)
    marked v (SlotNeeded.is_kept k e) = m.named v (in_right v parameters (in_slots 0 map.values ++ joined saved) (in_left v (in_slots 0 map.values) (joined saved) (in_slot map.values v k e)))
    marked v (SlotNeeded.is_saved p i) = m.named v (in_right v parameters (in_slots 0 map.values ++ joined saved) (in_right v (in_slots 0 map.values) (joined saved) (in_joined saved p v i)))

pub stood : (parameters : List ℕ) (map : RegMap) (saved : List (List ℕ)) (xs ys : List Array) (addresses : List ℕ) (marks ms : List Bool) (ps : List ℕ) (ks : List Kept) (slots begins : List ℕ) (next words : ℕ) →
    ps ≡ parameters → ks ≡ map.values → ms ≡ marks → ys ≡ xs → MarksJust (ps ++ (in_slots 0 ks ++ joined saved)) [] marks →
    slots ≡ slots_from 1 ms → next ≡ slots_end 1 ms → begins ≡ arrays_from next ys addresses → words ≡ arrays_end next ys addresses →
    FrameStands parameters map saved xs addresses slots begins words
stood parameters map saved xs ys addresses marks ms ps ks slots begins next words a b c d m e f g h =
    let first : MarksJust (parameters ++ (in_slots 0 ks ++ joined saved)) [] marks = subst (λ z. MarksJust (z ++ (in_slots 0 ks ++ joined saved)) [] marks) a m in
    let all : MarksJust (parameters ++ (in_slots 0 map.values ++ joined saved)) [] marks = subst (λ z. MarksJust (parameters ++ (in_slots 0 z ++ joined saved)) [] marks) b first in
    let n = slots_end 1 marks in
    let s : slots_from 1 marks ≡ slots = cc in
    let t : arrays_from n xs addresses ≡ begins = cc in
    let u : arrays_end n xs addresses ≡ words = cc in
    subst (λ z. FrameStands parameters map saved xs addresses z begins words) s
    (subst (λ z. FrameStands parameters map saved xs addresses (slots_from 1 marks) z words) t
    (subst (λ z. FrameStands parameters map saved xs addresses (slots_from 1 marks) (arrays_from n xs addresses) z) u
    (frame_stands parameters map saved xs addresses marks all)))
