-- What comes out of converting diamonds is one flow, and each conversion takes a block away.
use Rattle.std.proofs.Common.{◌≡◌, ℕ, zero, suc, ◌+◌, ◌≤◌, ◌<◌, Bool, true, false, cond, List, [], ◌∷◌, length, slice_get, Option, Some, None, refl, sym, ap, subst, ◌∙◌, arith}
use Rattle.std.proofs.Math.Path.{fun_ext}
use Rattle.std.proofs.lemmas.Bool.{false≢true}
use Rattle.vx_flow.specs.declared.graph.Op.{Op}
use Rattle.vx_flow.specs.declared.graph.Exit.{Exit}
use Rattle.vx_flow.specs.declared.graph.Exit.TheVariants.{Goto, Split}
use Rattle.vx_flow.specs.declared.graph.Block.{Block}
use Rattle.vx_flow.specs.declared.graph.Graph.{Graph}
use Rattle.vx_shape.specs.Flows.{with_graphs, Each}
use Rattle.vx_select.specs.Selected.{Diamond, IsLiveness, stays, changed, blocks_left, converted, IsDiamond, Selects, none_left, converts}
use Rattle.vx_select.specs.Laws.{SelectedOnce, ConvertedShorter}
use Rattle.vx_select.proofs.Numbered.{yes_goes}

-- ---- liveness is one

same_test : (a b : Bool) → (a ≡ true → b ≡ true) → (b ≡ true → a ≡ true) → a ≡ b
same_test true b f k = sym (f refl)
same_test false true f k = k refl
same_test false false f k = refl

same_live : (g : Graph) (x y : ℕ → ℕ → Bool) → IsLiveness g x → IsLiveness g y → x ≡ y
same_live g x y l m = fun_ext (λ b. fun_ext (λ v. same_test (x b v) (y b v) (λ h. (m b v).1 ((l b v).0 h)) (λ h. (l b v).1 ((m b v).0 h))))

-- ---- a diamond is told by its block

abbrev exit_of : Option Block → Exit
exit_of None = Goto 0
exit_of (Some k) = k.exit

abbrev ops_of : Option Block → List Op
ops_of None = []
ops_of (Some k) = k.ops

split_parts : (p y n q x z : ℕ) → Split p y n ≡ Split q x z → (p ≡ q) × (y ≡ x) × (n ≡ z)
split_parts p y n q x z e = let a : p ≡ q = cc in let b : y ≡ x = cc in let c : n ≡ z = cc in (a, b, c)

goto_part : (c e : ℕ) → Goto c ≡ Goto e → c ≡ e
goto_part c e q = cc

same_diamond : (live : ℕ → ℕ → Bool) (most : ℕ) (g : Graph) (d e : Diamond) → IsDiamond live most g d → IsDiamond live most g e → d.block ≡ e.block → d ≡ e
same_diamond live most g d e a b q =
    let split : Some (record { ops = d.before; exit = Split d.test d.yes d.no }) ≡ Some (record { ops = e.before; exit = Split e.test e.yes e.no }) = sym a.splits ∙ ap (slice_get g.blocks) q ∙ b.splits in
    let before : d.before ≡ e.before = ap ops_of split in
    let parts = split_parts d.test d.yes d.no e.test e.yes e.no (ap exit_of split) in
    let at_yes : Some (record { ops = d.left; exit = Goto d.join }) ≡ Some (record { ops = e.left; exit = Goto e.join }) = sym a.at_yes ∙ ap (slice_get g.blocks) parts.1 ∙ b.at_yes in
    let at_no : Some (record { ops = d.right; exit = Goto d.join }) ≡ Some (record { ops = e.right; exit = Goto e.join }) = sym a.at_no ∙ ap (slice_get g.blocks) parts.2 ∙ b.at_no in
    let left : d.left ≡ e.left = ap ops_of at_yes in
    let right : d.right ≡ e.right = ap ops_of at_no in
    let join : d.join ≡ e.join = goto_part d.join e.join (ap exit_of at_yes) in
    λ i. record { block = q i; test = parts.0 i; yes = parts.1 i; no = parts.2 i; join = join i; before = before i; left = left i; right = right i }

-- ---- what comes out is one

selects_one : (most : ℕ) (g h k : Graph) → Selects most g h → Selects most g k → h ≡ k
selects_one most g h k (none_left live l n) s = by s
  where
    by : {z : Graph} → Selects most g z → g ≡ z
    by (none_left m o p) = refl
    by (converts m d o it low rest) = absurd (n d (subst (λ x. IsDiamond x most g d) (same_live g m live o l) it))
selects_one most g h k (converts {h = h1} live d l it low rest) s = by s (λ z t. selects_one most (converted live g d) h1 z rest t)
  where
    by : {z : Graph} → Selects most g z → ((y : Graph) → Selects most (converted live g d) y → h1 ≡ y) → h1 ≡ z
    by (none_left m o p) rec = absurd (p d (subst (λ x. IsDiamond x most g d) (same_live g live m l o) it))
    by (converts {h = z1} m e o jt lowest later) rec =
        let same = same_live g m live o l in
        let jt' : IsDiamond live most g e = subst (λ x. IsDiamond x most g e) same jt in
        let below : d.block ≤ e.block = low e jt' in
        let above : e.block ≤ d.block = lowest d (subst (λ x. IsDiamond x most g d) (sym same) it) in
        let q : e ≡ d = same_diamond live most g e d jt' it (omega arith) in
        rec z1 (subst (λ x. Selects most (converted live g x) z1) q (subst (λ x. Selects most (converted x g e) z1) same later))

each_one : (most : ℕ) (gs hs ks : List Graph) → Each (Selects most) gs hs → Each (Selects most) gs ks → hs ≡ ks
each_one most [] [] [] a b = refl
each_one most [] [] (k ∷ ks) a b = absurd b
each_one most [] (h ∷ hs) ks a b = absurd a
each_one most (g ∷ gs) [] ks a b = absurd a
each_one most (g ∷ gs) (h ∷ hs) [] a b = absurd b
each_one most (g ∷ gs) (h ∷ hs) (k ∷ ks) a b = ap (λ x. x ∷ hs) (selects_one most g h k a.0 b.0) ∙ ap (λ xs. k ∷ xs) (each_one most gs hs ks a.1 b.1)

pub selected_once : SelectedOnce
selected_once old a b most s t = s.is ∙ ap (with_graphs old) (each_one most old.functions a.functions b.functions s.each t.each) ∙ sym t.is

-- ---- fewer blocks

module _ (live : ℕ → ℕ → Bool) (g : Graph) (d : Diamond) where
  no_more : (b : ℕ) (blocks : List Block) → length (blocks_left live g d b blocks) ≤ length blocks
  no_more b [] = omega arith
  no_more b (x ∷ xs) = by (stays d b) (no_more (suc b) xs)
    where
      by : (s : Bool) → length (blocks_left live g d (suc b) xs) ≤ length xs → length (cond s (changed live g d b x ∷ blocks_left live g d (suc b) xs) (blocks_left live g d (suc b) xs)) ≤ suc (length xs)
      by true h = omega arith
      by false h = omega arith

  one_less : (b : ℕ) (blocks : List Block) (i : ℕ) (block : Block) → slice_get blocks i ≡ Some block → stays d (b + i) ≡ false → length (blocks_left live g d b blocks) < length blocks
  one_less b [] i block e s = absurd (cc)
  one_less b (x ∷ xs) zero block e s = by (stays d b) (let q : b + 0 ≡ b = omega arith in subst (λ n. stays d n ≡ false) q s)
    where
      by : (t : Bool) → t ≡ false → length (cond t (changed live g d b x ∷ blocks_left live g d (suc b) xs) (blocks_left live g d (suc b) xs)) < suc (length xs)
      by true t = absurd (false≢true (sym t))
      by false t = let h = no_more (suc b) xs in omega arith
  one_less b (x ∷ xs) (suc i) block e s = by (stays d b) (one_less (suc b) xs i block e (let q : suc b + i ≡ b + suc i = omega arith in subst (λ n. stays d n ≡ false) (sym q) s))
    where
      by : (t : Bool) → length (blocks_left live g d (suc b) xs) < length xs → length (cond t (changed live g d b x ∷ blocks_left live g d (suc b) xs) (blocks_left live g d (suc b) xs)) < suc (length xs)
      by true h = omega arith
      by false h = omega arith

pub converted_shorter : ConvertedShorter
converted_shorter live most g d it = let q : 0 + d.yes ≡ d.yes = omega arith in one_less live g d 0 g.blocks d.yes _ it.at_yes (subst (λ n. stays d n ≡ false) (sym q) (yes_goes d))
