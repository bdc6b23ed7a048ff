-- Words of which each leads below their count lead to words among them.
use Rattle.std.proofs.Common.{◌≡◌, ◌<◌, ◌+◌, ◌&&◌, ℕ, zero, suc, nat_lt, Bool, true, false, refl, Some, List, [], ◌∷◌, inl, inr, sym, subst, arith, length, slice_get}
use Rattle.std.specs.List.{list_all}
use Rattle.std.proofs.lemmas.Bool.{ltb-true}
use Rattle.vx_flow.specs.Effects.{IsIn}
use Rattle.vx_mixed.specs.declared.layout.Laid.{Laid}
use Rattle.vx_mixed.specs.declared.layout.Laid.TheVariants.{Split}
use Rattle.vx_mixed.specs.declared.layout.VirtualWord.{VirtualWord}
use Rattle.vx_mixed.specs.declared.layout.VirtualWord.TheVariants.{Planned, Drain, Transfer, Choice, Call, Return, Ends}
use Rattle.vx_mixed.specs.LaidSettled.{LeadsTo}
use Rattle.vx_mixed_tests.specs.Inside.{is_inside, are_inside, leads_below, all_lead}

both_hold : (a b : Bool) → (a && b) ≡ true → (a ≡ true) × (b ≡ true)
both_hold true b h = (refl, h)
both_hold false b h = cc

same_item : {A : Type 0} (y x : A) → Some y ≡ Some x → y ≡ x
same_item y x e = cc

split_in : (count : ℕ) (items : List Laid) (test q : ℕ) (y : Bool) → are_inside count items ≡ true → IsIn (Split test y q) items → q < count
split_in count [] test q y h i = absurd i
split_in count (x ∷ xs) test q y h (inl e) = ltb-true q count (subst (λ z. is_inside count z ≡ true) (sym e) (both_hold (is_inside count x) (are_inside count xs) h).0)
split_in count (x ∷ xs) test q y h (inr i) = split_in count xs test q y (both_hold (is_inside count x) (are_inside count xs) h).1 i

on : (place count q : ℕ) → nat_lt (place + 1) count ≡ true → q ≡ suc place → q < count
on place count q h e = let l : place + 1 < count = ltb-true (place + 1) count h in omega arith

to_place : (count to q : ℕ) → nat_lt to count ≡ true → q ≡ to → q < count
to_place count to q h e = subst (λ z. z < count) (sym e) (ltb-true to count h)

below : (place count q : ℕ) (word : VirtualWord) → leads_below place count word ≡ true → LeadsTo place word q → q < count
below place count q (Planned r w items) h (inl e) = on place count q (both_hold (nat_lt (place + 1) count) (are_inside count items) h).0 e
below place count q (Planned r w items) h (inr s) = split_in count items s.0 q s.1 (both_hold (nat_lt (place + 1) count) (are_inside count items) h).1 s.2
below place count q (Drain n) h e = on place count q h e
below place count q (Transfer to) h e = to_place count to q h e
below place count q (Choice test to) h (inl e) = to_place count to q (both_hold (nat_lt (place + 1) count) (nat_lt to count) h).1 e
below place count q (Choice test to) h (inr e) = on place count q (both_hold (nat_lt (place + 1) count) (nat_lt to count) h).0 e
below place count q (Call g arguments result) h e = on place count q h e
below place count q (Return x) h e = absurd e
below place count q (Ends k) h e = absurd e

inside_from : (place count : ℕ) (words : List VirtualWord) (k q : ℕ) (word : VirtualWord) → all_lead place count words ≡ true → slice_get words k ≡ Some word → LeadsTo (place + k) word q → q < count
inside_from place count [] k q word h e l = cc
inside_from place count (x ∷ xs) zero q word h e l =
    let both = both_hold (leads_below place count x) (all_lead (place + 1) count xs) h in
    let at : place + zero ≡ place = omega arith in
    below place count q x both.0 (subst (λ z. LeadsTo place z q) (sym (same_item x word e)) (subst (λ z. LeadsTo z word q) at l))
inside_from place count (x ∷ xs) (suc k) q word h e l =
    let both = both_hold (leads_below place count x) (all_lead (place + 1) count xs) h in
    let at : place + suc k ≡ place + 1 + k = omega arith in
    inside_from (place + 1) count xs k q word both.1 e (subst (λ z. LeadsTo z word q) at l)

pub inside : (words : List VirtualWord) → all_lead 0 (length words) words ≡ true → (p q : ℕ) (word : VirtualWord) → slice_get words p ≡ Some word → LeadsTo p word q → q < length words
inside words h p q word e l =
    let at : p ≡ 0 + p = omega arith in
    inside_from 0 (length words) words p q word h e (subst (λ z. LeadsTo z word q) at l)
