-- Which values operations name, and the least that they write.
use Rattle.std.proofs.Common.{◌≡◌, ℕ, ◌<◌, ◌≤◌, ◌||◌, ◌==◌, Bool, true, false, cond, List, [], ◌∷◌, ◌++◌, Option, Some, None, refl, sym, ap, subst, ◌∙◌, arith}
use Rattle.std.specs.Prelude.{nat_le}
use Rattle.std.specs.List.{list_any}
use Rattle.std.proofs.lemmas.Bool.{leb-true}
use Rattle.std.proofs.lemmas.List.Folds.{list_any-append}
use Rattle.vx_flow.specs.declared.graph.Op.{Op}
use Rattle.vx_flow.specs.declared.operands.Reads.{Reads}
use Rattle.vx_flow.specs.Effects.{reads, writes}
use Rattle.vx_flow.specs.Operands.{value_list, read_by, values_read}
use Rattle.vx_flow.proofs.OperandLaws.{reads_are, writes_are}
use Rattle.vx_select.specs.Selected.{has, written, named}
use Rattle.vx_select.specs.Values.{names_it, are_writing, IsNext, lesser}

-- ---- what is read

pub read_is : (r : Reads) (v : ℕ) (a b c : Bool) → a ≡ has (value_list r.first) v → b ≡ has (value_list r.second) v → c ≡ has (value_list r.third) v → (a || b || c) ≡ has (values_read r) v
read_is r v a b c p q s =
    let one = value_list r.first in
    let two = value_list r.second in
    let three = value_list r.third in
    assoc a b c ∙ ap (λ x. x || (b || c)) p ∙ ap (λ x. has one v || (x || c)) q ∙ ap (λ x. has one v || (has two v || x)) s
    ∙ ap (λ x. has one v || x) (sym (list_any-append (λ u. u == v) two three)) ∙ sym (list_any-append (λ u. u == v) one (two ++ three))
  where
    assoc : (a b c : Bool) → (a || b || c) ≡ (a || (b || c))
    assoc true b c = refl
    assoc false b c = refl

-- ---- as lists of values

pub writing_is : (ops : List Op) (v : ℕ) → are_writing ops v ≡ has (written ops) v
writing_is [] v = refl
writing_is (op ∷ ops) v =
    ap (λ x. x || are_writing ops v) (ap (λ l. has l v) (writes_are op)) ∙ ap (λ x. has (writes op) v || x) (writing_is ops v) ∙ sym (list_any-append (λ u. u == v) (writes op) (written ops))

pub naming_is : (ops : List Op) (v : ℕ) → list_any (names_it v) ops ≡ has (named ops) v
naming_is [] v = refl
naming_is (op ∷ ops) v =
    ap (λ x. x || list_any (names_it v) ops) one ∙ ap (λ x. has (writes op ++ reads op) v || x) (naming_is ops v) ∙ sym (list_any-append (λ u. u == v) (writes op ++ reads op) (named ops))
  where
    one : names_it v op ≡ has (writes op ++ reads op) v
    one = ap (λ x. x || has (values_read (read_by op)) v) (ap (λ l. has l v) (writes_are op)) ∙ ap (λ l. has (writes op) v || has l v) (reads_are op) ∙ sym (list_any-append (λ u. u == v) (writes op) (reads op))

-- ---- the least that is written

pub lesser_next : (p q : ℕ → Bool) (k : ℕ) (a b c : Option ℕ) → IsNext p k a → IsNext q k b → c ≡ lesser a b → IsNext (λ v. p v || q v) k c
lesser_next p q k a b c n m e = subst (IsNext (λ v. p v || q v) k) (sym e) (by a b n m)
  where
    neither : (v : ℕ) → p v ≡ false → q v ≡ false → (p v || q v) ≡ false
    neither v x y = ap (λ z. z || q v) x ∙ y

    or_one : (v : ℕ) → p v ≡ true → (p v || q v) ≡ true
    or_one v x = ap (λ z. z || q v) x

    or_other : (v : ℕ) → q v ≡ true → (p v || q v) ≡ true
    or_other v x = at (p v)
      where
        at : (b : Bool) → (b || q v) ≡ true
        at true = refl
        at false = x

    by : (a b : Option ℕ) → IsNext p k a → IsNext q k b → IsNext (λ v. p v || q v) k (lesser a b)
    by None None n m = λ v l. neither v (n v l) (m v l)
    by None (Some v) n m = (m.0, or_other v m.1, λ u l h. neither u (n u l) (m.2 u l h))
    by (Some u) None n m = (n.0, or_one u n.1, λ v l h. neither v (n.2 v l h) (m v l))
    by (Some u) (Some v) n m = at (nat_le u v) refl
      where
        at : (b : Bool) → nat_le u v ≡ b → IsNext (λ w. p w || q w) k (cond b (Some u) (Some v))
        at true e = let h : u ≤ v = leb-true u v e in (n.0, or_one u n.1, λ w l j. neither w (n.2 w l j) (m.2 w l (omega arith)))
        at false e = let h : v < u = grind (arith, e) in (m.0, or_other v m.1, λ w l j. neither w (n.2 w l (omega arith)) (m.2 w l j))
