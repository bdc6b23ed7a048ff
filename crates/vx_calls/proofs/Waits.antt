-- The steps by which pauses are found.
use Rattle.std.proofs.lemmas.Result.{IfOk-weaker}
use Rattle.std.proofs.Common.{◌≡◌, ◌-◌, ◌+◌, ◌==◌, ℕ, zero, suc, Bool, true, false, List, refl, sym, ap, ◌∙◌, arith}
use Rattle.std.specs.Prelude.{IfOk, Result, if◌then◌else◌, Some, None, slice_get}
use Rattle.std.specs.List.{list_any}
use Rattle.std.proofs.lemmas.Bool.{eqb-true}
use Rattle.vx_isa.specs.declared.operation.Register.{Register}
use Rattle.vx_mixed.specs.declared.layout.Laid.{Laid}
use Rattle.vx_mixed.specs.declared.layout.VirtualWord.{VirtualWord}
use Rattle.vx_mixed.specs.declared.layout.VirtualWord.TheVariants.{Planned, Transfer}
use Rattle.vx_target.specs.Target.{Target, beside_turn, by_way, is_split, most_spared, past, spared, spared_at, spares, turns}

pub spared_none : (T : Target) (f : ℕ) (r : Register) (n p : ℕ) → (n == 0) ≡ true → 0 ≡ spared T f r n p
spared_none T f r n p e = let z : n ≡ 0 = eqb-true n 0 e in ap (λ k. spared T f r k p) (sym z)

pub spared_some : (T : Target) (f : ℕ) (r : Register) (n p : ℕ) → (n ≡ 0 → ⊥) → spared_at T f r p (spared T f r (n - 1)) (slice_get (T.layout f).words p) ≡ spared T f r n p
spared_some T f r zero p e = absurd (e refl)
spared_some T f r (suc n) p e = let z : suc n - 1 ≡ n = omega arith in ap (λ k. spared_at T f r p (spared T f r k) (slice_get (T.layout f).words p)) z

-- by the word there
spared_by : (T : Target) (f : ℕ) (r : Register) (n p : ℕ) (words : List VirtualWord) (word : VirtualWord) → words ≡ (T.layout f).words → slice_get words p ≡ Some word → (n ≡ 0 → ⊥) → spared_at T f r p (spared T f r (n - 1)) (Some word) ≡ spared T f r n p
spared_by T f r n p words word e there some =
    ap (spared_at T f r p (spared T f r (n - 1))) (sym there ∙ ap (λ ws. slice_get ws p) e) ∙ spared_some T f r n p some

pub spared_planned : (T : Target) (f : ℕ) (r : Register) (n p : ℕ) (words : List VirtualWord) (x : VirtualWord) (rg k : ℕ) (items tested split_in : List Laid) (spare_in split : Bool) (next left time : ℕ) → words ≡ (T.layout f).words → slice_get words p ≡ Some x → x ≡ Planned rg k items → (n ≡ 0 → ⊥) →
    tested ≡ items → spare_in ≡ spares T f r tested → spare_in ≡ true → split_in ≡ items → split ≡ list_any is_split split_in → split ≡ false → next ≡ p + 1 → left ≡ spared T f r (n - 1) next → time ≡ beside_turn (turns T f next) left → 1 + time ≡ spared T f r n p
spared_planned T f r n p words x rg k items tested split_in spare_in split next left time e there is some a b c d g h i j l =
    let whole = spared_by T f r n p words (Planned rg k items) e (there ∙ ap Some is) some in
    let spare : spares T f r items ≡ true = ap (spares T f r) (sym a) ∙ sym b ∙ c in
    let none : list_any is_split items ≡ false = ap (list_any is_split) (sym d) ∙ sym g ∙ h in
    let rest : ℕ = beside_turn (turns T f (p + 1)) (spared T f r (n - 1) (p + 1)) in
    let value : spared_at T f r p (spared T f r (n - 1)) (Some (Planned rg k items)) ≡ suc rest = ap (λ s. if s then (if list_any is_split items then 1 else suc rest) else 0) spare ∙ ap (λ s. if s then 1 else suc rest) none in
    let last : time ≡ rest = l ∙ ap (beside_turn (turns T f next)) j ∙ ap (λ q. beside_turn (turns T f q) (spared T f r (n - 1) q)) i in omega arith

pub spared_transfer : (T : Target) (f : ℕ) (r : Register) (n p : ℕ) (words : List VirtualWord) (x : VirtualWord) (to d next left : ℕ) → words ≡ (T.layout f).words → slice_get words p ≡ Some x → x ≡ Transfer to → (n ≡ 0 → ⊥) → d ≡ past T f to → next ≡ p + 1 → left ≡ spared T f r (n - 1) d → by_way T f next d left ≡ spared T f r n p
spared_transfer T f r n p words x to d next left e there is some a b c =
    ap (λ z. by_way T f z d left) b ∙ ap (by_way T f (p + 1) d) c ∙ ap (λ z. by_way T f (p + 1) z (spared T f r (n - 1) z)) a
    ∙ spared_by T f r n p words (Transfer to) e (there ∙ ap Some is) some

-- behind the last word, and at a word that spares nothing
pub spared_past : (T : Target) (f : ℕ) (r : Register) (n p : ℕ) (words : List VirtualWord) → words ≡ (T.layout f).words → slice_get words p ≡ None → (n ≡ 0 → ⊥) → 0 ≡ spared T f r n p
spared_past T f r n p words e there some = ap (spared_at T f r p (spared T f r (n - 1))) (sym there ∙ ap (λ ws. slice_get ws p) e) ∙ spared_some T f r n p some

pub spared_other : (T : Target) (f : ℕ) (r : Register) (n p : ℕ) (words : List VirtualWord) (x y : VirtualWord) → words ≡ (T.layout f).words → slice_get words p ≡ Some x → x ≡ y → (n ≡ 0 → ⊥) → 0 ≡ spared_at T f r p (spared T f r (n - 1)) (Some y) → 0 ≡ spared T f r n p
spared_other T f r n p words x y e there is some none = none ∙ spared_by T f r n p words y e (there ∙ ap Some is) some

-- as many words as are looked at
pub spared_most : (T : Target) (f : ℕ) (r : Register) (p : ℕ) → spared T f r 16 p ≡ spared T f r most_spared p
unfolding most_spared
spared_most T f r p = refl

-- what a call answers, where it is something else besides
pub answers : {X E : Type 0} (r : Result X E) (y z : X) → IfOk r (λ n. n ≡ y) → y ≡ z → IfOk r (λ n. n ≡ z)
answers r y z h e = IfOk-weaker r (λ n. n ≡ y) (λ n. n ≡ z) (λ n p. p ∙ e) h
