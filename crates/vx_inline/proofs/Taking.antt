-- What the values of the callee take: free values of the caller, each another.
use Rattle.std.proofs.Common.{◌≡◌, ◌⊎◌, inl, inr, ℕ, zero, suc, ◌+◌, ◌<◌, ◌≤◌, Bool, true, false, cond, ◌==◌, ◌&&◌, List, [], ◌∷◌, ◌++◌, length, slice_get, Option, Some, refl, sym, ap, ◌∙◌, subst, eq-eqb, eqb-true, arith}
use Rattle.std.proofs.lemmas.Bool.{false≢true}
use Rattle.std.proofs.lemmas.Option.{slice_get_within}
use Rattle.std.specs.Cmp.Derive.{both_true}
use Rattle.std.specs.List.{flat_map, filter}
use Rattle.vx_base.specs.declared.arithmetic.Code.{Code}
use Rattle.vx_base.specs.declared.arithmetic.Code.TheVariants.{Mov}
use Rattle.vx_flow.specs.declared.graph.Operand.{Operand}
use Rattle.vx_flow.specs.declared.graph.Operand.TheVariants.{Held, Number, Stack}
use Rattle.vx_flow.specs.declared.graph.Bank.{Bank}
use Rattle.vx_flow.specs.declared.graph.Bank.TheVariants.{General, Branch}
use Rattle.vx_flow.specs.declared.graph.Op.{Op}
use Rattle.vx_flow.specs.declared.graph.Op.TheVariants.{Compute, Select, Place, Load, Store, More, Input, Text, Decimal, Across, Base, PlaceIn}
use Rattle.vx_flow.specs.declared.graph.Exit.{Exit}
use Rattle.vx_flow.specs.declared.graph.Exit.TheVariants.{Goto, Split, Call, Return, Ends}
use Rattle.vx_flow.specs.declared.graph.Block.{Block}
use Rattle.vx_flow.specs.declared.graph.Graph.{Graph}
use Rattle.vx_flow.specs.declared.graph.Flow.{Flow}
use Rattle.vx_flow.specs.Effects.{IsIn, value_in, is_unary, reads, writes}
use Rattle.vx_flow.specs.Live.{reads_of_exit}
use Rattle.vx_flow.specs.Sound.{HasOperation, HasExit, Has, IsOperandOf, Sound, is_bank, operands_of, bank_written, results_of_exit}
use Rattle.vx_flow.specs.Walk.{numbers}
use Rattle.vx_flow.proofs.Members.{in_left, in_right, in_either}
use Rattle.vx_flow.proofs.SoundLists.{any_of}
use Rattle.vx_inline.specs.declared.site.Site.{Site}
use Rattle.vx_inline.specs.Inlined.{CallAt, IsPermitted, Ascends, IsFree, is_among, named_by, names, named, beside, bank_of, taken}

-- ---- what stands beside

pub beside_in : (xs ys : List ℕ) (v : ℕ) → length xs ≤ length ys → IsIn v xs → IsIn (beside xs ys v) ys
beside_in [] ys v l m = absurd m
beside_in (x ∷ xs) [] v l m = absurd (omega arith)
beside_in (x ∷ xs) (y ∷ ys) v l m = by (v == x) refl m (beside_in xs ys v (omega arith))
  where
    by : (b : Bool) → (v == x) ≡ b → IsIn v (x ∷ xs) → (IsIn v xs → IsIn (beside xs ys v) ys) → IsIn (cond b y (beside xs ys v)) (y ∷ ys)
    by true e m k = inl refl
    by false e (inl q) k = absurd (false≢true (sym e ∙ eq-eqb v x q))
    by false e (inr n) k = inr (k n)

below_differs : (y : ℕ) (ys : List ℕ) → Ascends (y ∷ ys) → IsIn y ys → ⊥
below_differs y ys a m = let l : y < y = a.0 y m in omega arith

pub beside_one : (xs ys : List ℕ) (u v : ℕ) → length xs ≤ length ys → Ascends ys → IsIn u xs → IsIn v xs → beside xs ys u ≡ beside xs ys v → u ≡ v
beside_one [] ys u v l a m n e = absurd m
beside_one (x ∷ xs) [] u v l a m n e = absurd (omega arith)
beside_one (x ∷ xs) (y ∷ ys) u v l a m n e = by (u == x) (v == x) refl refl m n e (beside_one xs ys u v (omega arith) a.1) (beside_in xs ys u (omega arith)) (beside_in xs ys v (omega arith))
  where
    by : (p q : Bool) → (u == x) ≡ p → (v == x) ≡ q → IsIn u (x ∷ xs) → IsIn v (x ∷ xs) → cond p y (beside xs ys u) ≡ cond q y (beside xs ys v) → (IsIn u xs → IsIn v xs → beside xs ys u ≡ beside xs ys v → u ≡ v) →
        (IsIn u xs → IsIn (beside xs ys u) ys) → (IsIn v xs → IsIn (beside xs ys v) ys) → u ≡ v
    by true true i j m n e k f g = eqb-true u x i ∙ sym (eqb-true v x j)
    by true false i j m (inl q) e k f g = absurd (false≢true (sym j ∙ eq-eqb v x q))
    by true false i j m (inr n) e k f g = absurd (below_differs y ys a (subst (λ z. IsIn z ys) (sym e) (g n)))
    by false true i j (inl q) n e k f g = absurd (false≢true (sym i ∙ eq-eqb u x q))
    by false true i j (inr m) n e k f g = absurd (below_differs y ys a (subst (λ z. IsIn z ys) e (f m)))
    by false false i j (inl q) n e k f g = absurd (false≢true (sym i ∙ eq-eqb u x q))
    by false false i j (inr m) (inl q) e k f g = absurd (false≢true (sym j ∙ eq-eqb v x q))
    by false false i j (inr m) (inr n) e k f g = k m n e

-- ---- the named values of a bank

pub numbers_in : (b n v : ℕ) → b ≤ v → v < b + n → IsIn v (numbers b n)
numbers_in b zero v l m = absurd (omega arith)
numbers_in b (suc n) v l m = by (v == b) refl (numbers_in (b + 1) n v)
  where
    by : (t : Bool) → (v == b) ≡ t → (b + 1 ≤ v → v < b + 1 + n → IsIn v (numbers (b + 1) n)) → IsIn v (numbers b (suc n))
    by true e k = inl (eqb-true v b e)
    by false e k =
        let w : v ≡ b → ⊥ = λ i. false≢true (sym e ∙ eq-eqb v b i) in
        let low : b + 1 ≤ v = grind (arith, w) in
        inr (k low (omega arith))

pub filter_in : (p : ℕ → Bool) (xs : List ℕ) (v : ℕ) → IsIn v xs → p v ≡ true → IsIn v (filter p xs)
filter_in p [] v m h = absurd m
filter_in p (x ∷ xs) v m h = by (p x) refl m (filter_in p xs v)
  where
    by : (b : Bool) → p x ≡ b → IsIn v (x ∷ xs) → (IsIn v xs → p v ≡ true → IsIn v (filter p xs)) → IsIn v (cond b (x ∷ filter p xs) (filter p xs))
    by true e (inl q) k = inl q
    by true e (inr n) k = inr (k n h)
    by false e (inl q) k = absurd (false≢true (sym e ∙ ap p (sym q) ∙ h))
    by false e (inr n) k = k n h

pub is_bank_here : (bank : Bank) → is_bank bank (Some bank) ≡ true
is_bank_here General = refl
is_bank_here Branch = refl

pub in_named : (g : Graph) (bank : Bank) (v : ℕ) → IsIn v (names g) → Has g v bank → IsIn v (named g bank)
in_named g bank v m h =
    let l : v < length g.banks = slice_get_within g.banks v bank h in
    filter_in (λ u. is_bank bank (slice_get g.banks u) && is_among (names g) u) (numbers 0 (length g.banks)) v (numbers_in 0 (length g.banks) v (omega arith) (omega arith))
    (both_true (ap (is_bank bank) h ∙ is_bank_here bank) (any_of (λ u. u == v) (names g) v m (eq-eqb v v refl)))

-- ---- what a sound graph without calls names is there

pub record InFlat {A B : Type 0} (f : A → List B) (xs : List A) (y : B) : Type 0 where
  pub item : A
  pub has : IsIn item xs
  pub names : IsIn y (f item)

pub from_flat : {A B : Type 0} (f : A → List B) (xs : List A) (y : B) → IsIn y (flat_map f xs) → InFlat f xs y
from_flat f [] y m = absurd m
from_flat f (x ∷ xs) y m = by (in_either y (f x) (flat_map f xs) m) (from_flat f xs y)
  where
    by : IsIn y (f x) ⊎ IsIn y (flat_map f xs) → (IsIn y (flat_map f xs) → InFlat f xs y) → InFlat f (x ∷ xs) y
    by (inl n) k = record { item = x; has = inl refl; names = n }
    by (inr n) k = let r = k n in record { item = r.item; has = inr r.has; names = r.names }

pub in_flat : {A B : Type 0} (f : A → List B) (xs : List A) (x : A) (y : B) → IsIn x xs → IsIn y (f x) → IsIn y (flat_map f xs)
in_flat f [] x y m n = absurd m
in_flat f (z ∷ xs) x y (inl e) n = in_left y (f z) (flat_map f xs) (subst (λ w. IsIn y (f w)) e n)
in_flat f (z ∷ xs) x y (inr m) n = in_right y (f z) (flat_map f xs) (in_flat f xs x y m n)

abbrev pub Banked : Graph → ℕ → Type 0
Banked g v = (bank : Bank) × Has g v bank

module _ (g : Graph) (sound : Sound g) where
  operand_banked : (x : Operand) (v : ℕ) → IsOperandOf g x → IsIn v (value_in x) → Banked g v
  operand_banked (Held u) v h (inl e) = (General, subst (λ z. Has g z General) (sym e) h)
  operand_banked (Held u) v h (inr m) = absurd m
  operand_banked (Number n) v h m = absurd m
  operand_banked Stack v h m = absurd m

  left_there : (code : Code) (v : ℕ) (a b : Operand) → IsIn a (operands_of (Compute code v a b))
  left_there Mov v a b = inl refl
  left_there code v a b = inl refl

  right_there : (code : Code) (v : ℕ) (a b : Operand) → is_unary code ≡ false → IsIn b (operands_of (Compute code v a b))
  right_there Mov v a b e = absurd (false≢true (sym e))
  right_there code v a b e = inr (inl refl)

  two_banked : (a b : Operand) (v : ℕ) → IsOperandOf g a → IsOperandOf g b → IsIn v (value_in a ++ value_in b) → Banked g v
  two_banked a b v h k m = elim (in_either v (value_in a) (value_in b) m) [ inl n ↦ operand_banked a v h n | inr n ↦ operand_banked b v k n ]

  reads_banked : (op : Op) (v : ℕ) → HasOperation g op → IsIn v (reads op) → Banked g v
  reads_banked (Compute code u a b) v at m = by (is_unary code) refl m
    where
      by : (t : Bool) → is_unary code ≡ t → IsIn v (cond t (value_in a) (value_in a ++ value_in b)) → Banked g v
      by true e n = operand_banked a v (sound.operands (Compute code u a b) a at (left_there code u a b)) n
      by false e n = two_banked a b v (sound.operands (Compute code u a b) a at (left_there code u a b)) (sound.operands (Compute code u a b) b at (right_there code u a b e)) n
  reads_banked (Select u p a b) v at (inl e) = (Branch, subst (λ z. Has g z Branch) (sym e) (sound.tests (Select u p a b) p at (inl refl)))
  reads_banked (Select u p a b) v at (inr m) = two_banked a b v (sound.operands (Select u p a b) a at (inl refl)) (sound.operands (Select u p a b) b at (inr (inl refl))) m
  reads_banked (Place u a i) v at m = operand_banked i v (sound.operands (Place u a i) i at (inl refl)) m
  reads_banked (Load u a p d) v at m = operand_banked p v (sound.operands (Load u a p d) p at (inl refl)) m
  reads_banked (Store a p x) v at m = two_banked p x v (sound.operands (Store a p x) p at (inl refl)) (sound.operands (Store a p x) x at (inr (inl refl))) m
  reads_banked (More u) v at m = absurd m
  reads_banked (Input u) v at m = absurd m
  reads_banked (Text n) v at m = absurd m
  reads_banked (Decimal x) v at m = operand_banked x v (sound.operands (Decimal x) x at (inl refl)) m
  reads_banked (Across u w) v at m = absurd (sound.no_across u w at)
  reads_banked (Base u a x) v at m = absurd m
  reads_banked (PlaceIn u a w i) v at m = two_banked i (Held w) v (sound.operands (PlaceIn u a w i) i at (inl refl)) (sound.operands (PlaceIn u a w i) (Held w) at (inr (inl refl))) m

  module _ (calls_none : (f next : ℕ) (arguments : List Operand) (result : Option ℕ) → HasExit g (Call f arguments result next) → ⊥) where
    exit_banked : (exit : Exit) (v : ℕ) → HasExit g exit → IsIn v (reads_of_exit exit) → Banked g v
    exit_banked (Goto c) v at m = absurd m
    exit_banked (Split p c d) v at (inl e) = (Branch, subst (λ z. Has g z Branch) (sym e) (sound.exit_tests (Split p c d) p at (inl refl)))
    exit_banked (Split p c d) v at (inr m) = absurd m
    exit_banked (Call f xs result c) v at m = absurd (calls_none f c xs result at)
    exit_banked (Return x) v at m = operand_banked x v (sound.exit_operands (Return x) x at (inl refl)) m
    exit_banked (Ends k) v at m = absurd m

    block_banked : (block : Block) (v : ℕ) → IsIn block g.blocks → IsIn v (named_by block) → Banked g v
    block_banked block v has m = by (in_either v (flat_map (λ op. reads op ++ writes op) block.ops) (reads_of_exit block.exit ++ results_of_exit block.exit) m)
      where
        exit_here : HasExit g block.exit
        exit_here = record { block = block; has = has; ends = refl }

        in_op : (op : Op) → IsIn op block.ops → IsIn v (reads op) ⊎ IsIn v (writes op) → Banked g v
        in_op op n (inl k) = reads_banked op v (record { block = block; has = has; stands = n }) k
        in_op op n (inr k) = (bank_written op, sound.results op v (record { block = block; has = has; stands = n }) k)

        in_exit : IsIn v (reads_of_exit block.exit) ⊎ IsIn v (results_of_exit block.exit) → Banked g v
        in_exit (inl k) = exit_banked block.exit v exit_here k
        in_exit (inr k) = (General, sound.exit_results block.exit v exit_here k)

        by : IsIn v (flat_map (λ op. reads op ++ writes op) block.ops) ⊎ IsIn v (reads_of_exit block.exit ++ results_of_exit block.exit) → Banked g v
        by (inl n) = let r = from_flat (λ op. reads op ++ writes op) block.ops v n in in_op r.item r.has (in_either v (reads r.item) (writes r.item) r.names)
        by (inr n) = in_exit (in_either v (reads_of_exit block.exit) (results_of_exit block.exit) n)

    pub banked : (v : ℕ) → IsIn v (names g) → Banked g v
    banked v m = by (in_either v g.parameters (flat_map named_by g.blocks) m)
      where
        by : IsIn v g.parameters ⊎ IsIn v (flat_map named_by g.blocks) → Banked g v
        by (inl n) = (General, sound.parameters v n)
        by (inr n) = let r = from_flat named_by g.blocks v n in block_banked r.item v r.has r.names

-- ---- what is taken

module _ (flow : Flow) (site : Site) (c : CallAt flow site) (free : Bank → List ℕ) (permitted : IsPermitted flow site c free) (sound : Sound c.parts.callee) where
  abbrev to : ℕ → ℕ
  to = taken c.parts.callee free

  banked_here : (v : ℕ) → IsIn v (names c.parts.callee) → Banked c.parts.callee v
  banked_here v m = banked c.parts.callee sound permitted.calls_none v m

  pub taken_in : (v : ℕ) (bank : Bank) → IsIn v (names c.parts.callee) → Has c.parts.callee v bank → IsIn (taken c.parts.callee free v) (free bank)
  taken_in v bank m h =
      subst (λ o. IsIn (beside (named c.parts.callee (bank_of o)) (free (bank_of o)) v) (free bank)) (sym h)
      (beside_in (named c.parts.callee bank) (free bank) v (permitted.enough bank) (in_named c.parts.callee bank v m h))

  pub taken_free : (v : ℕ) (bank : Bank) → IsIn v (names c.parts.callee) → Has c.parts.callee v bank → Has c.parts.caller (taken c.parts.callee free v) bank × IsFree c.parts (taken c.parts.callee free v)
  taken_free v bank m h = ((permitted.are_free bank).exact (taken c.parts.callee free v)).0 (taken_in v bank m h)

  bank_same : (o : Option Bank) (a b : Bank) → o ≡ Some a → o ≡ Some b → a ≡ b
  bank_same o a b e d = let q : Option.Some a ≡ Some b = sym e ∙ d in cc

  pub taken_one : (u v : ℕ) → IsIn u (names c.parts.callee) → IsIn v (names c.parts.callee) → taken c.parts.callee free u ≡ taken c.parts.callee free v → u ≡ v
  taken_one u v m n e =
      let a = banked_here u m in
      let b = banked_here v n in
      let f = taken_free u a.0 m a.1 in
      let g = taken_free v b.0 n b.1 in
      let same : a.0 ≡ b.0 = bank_same (slice_get c.parts.caller.banks (to v)) a.0 b.0 (subst (λ z. Has c.parts.caller z a.0) e f.0) g.0 in
      let v_has : Has c.parts.callee v a.0 = subst (λ k. Has c.parts.callee v k) (sym same) b.1 in
      let first : taken c.parts.callee free u ≡ beside (named c.parts.callee a.0) (free a.0) u = ap (λ o. beside (named c.parts.callee (bank_of o)) (free (bank_of o)) u) a.1 in
      let second : taken c.parts.callee free v ≡ beside (named c.parts.callee a.0) (free a.0) v = ap (λ o. beside (named c.parts.callee (bank_of o)) (free (bank_of o)) v) v_has in
      beside_one (named c.parts.callee a.0) (free a.0) u v (permitted.enough a.0) (permitted.are_free a.0).ascends (in_named c.parts.callee a.0 u m a.1) (in_named c.parts.callee a.0 v n v_has) (sym first ∙ e ∙ second)

  pub is_free : (v : ℕ) → IsIn v (names c.parts.callee) → IsFree c.parts (taken c.parts.callee free v)
  is_free v m = let a = banked_here v m in (taken_free v a.0 m a.1).1
