-- The graph sets all words of an array to 0.
use Rattle.std.proofs.Common.{◌≡◌, ℕ, zero, suc, ◌+◌, ◌<◌, ◌⊎◌, ◌^◌, ℤ, pos, true, false, cond, ◌||◌, List, [], ◌∷◌, length, map, slice_index_or, slice_set, Some, refl, sym, ap, ◌∙◌, subst, inl, inr, arith}
use Rattle.std.specs.Prelude.{nat_lt, nat_eq}
use Rattle.std.proofs.lemmas.List.{length-map}
use Rattle.std.proofs.lemmas.Bool.Decides.{eqb_tells}
use Rattle.vx_base.specs.Arithmetic.{IsNumber, one_if, compare_of, product_of}
use Rattle.vx_base.specs.declared.arithmetic.Code.TheVariants.{Add, Mov, ToBranch}
use Rattle.vx_base.specs.declared.arithmetic.Compare.TheVariants.{Lt}
use Rattle.vx_ast.specs.Meaning.{Store, cleared, array_at}
use Rattle.vx_ast.specs.Accepted.{Scope, is_in}
use Rattle.vx_flow.specs.declared.graph.Operand.{Operand}
use Rattle.vx_flow.specs.declared.graph.Operand.TheVariants.{Held, Number}
use Rattle.vx_flow.specs.declared.graph.Op.TheVariants.{Compute, Place, Store as Keep}
use Rattle.vx_flow.specs.declared.graph.Block.{Block}
use Rattle.vx_flow.specs.Effects.{Content, State, held, with_value, with_cell, row_of, place_of}
use Rattle.vx_flow.specs.Meaning.{Program}
use Rattle.vx_lower.specs.Seen.{Sees}
use Rattle.vx_lower.specs.Does.{Zeroes}
use Rattle.vx_lower.proofs.Base.{SameRow, set_row, set_shape, is_below, one_up}
use Rattle.vx_lower.proofs.Steps.{Here, setting_at, HasBlocks, Comes, comes_on, comes_goes, comes_past, comes_tests, later_jump, is_later}
use Rattle.vx_lower.proofs.Ties.{InForce, Above, Tied, Keeps, keeps_value, value_there, computes, stores, range_row, same_count, row_length, source_length}
use Rattle.vx_lower.proofs.Values.{zero_fits}

-- the first k words are 0
abbrev pub wiped : ℕ → List Content → List Content
wiped zero r = r
wiped (suc k) [] = []
wiped (suc k) (x ∷ r) = Some (pos 0) ∷ wiped k r

wiped_none : (k : ℕ) → wiped k [] ≡ []
wiped_none zero = refl
wiped_none (suc k) = refl

length_wiped : (k : ℕ) (r : List Content) → length (wiped k r) ≡ length r
length_wiped zero r = refl
length_wiped (suc k) [] = refl
length_wiped (suc k) (x ∷ r) = ap suc (length_wiped k r)

one_wiped : (k : ℕ) (r : List Content) → slice_set (wiped k r) k (Some (pos 0)) ≡ wiped (suc k) r
one_wiped zero [] = refl
one_wiped zero (x ∷ r) = refl
one_wiped (suc k) [] = refl
one_wiped (suc k) (x ∷ r) = ap (λ z. Some (pos 0) ∷ z) (one_wiped k r)

-- all words of a row with as many words as a row of numbers
all_wiped : (r : List Content) (ys : List ℤ) → length r ≡ length ys → wiped (length r) r ≡ map Some (map (λ z. pos 0) ys)
all_wiped [] [] e = refl
all_wiped [] (y ∷ ys) e = absurd (omega arith)
all_wiped (x ∷ r) [] e = absurd (omega arith)
all_wiped (x ∷ r) (y ∷ ys) e = ap (λ z. Some (pos 0) ∷ z) (all_wiped r ys (omega arith))

zeros_fit : (ys : List ℤ) (j : ℕ) → IsNumber (slice_index_or (map (λ z. pos 0) ys) j (pos 0))
zeros_fit [] j = zero_fits
zeros_fit (y ∷ ys) zero = zero_fits
zeros_fit (y ∷ ys) (suc j) = zeros_fit ys j

wiped_there : (A : List (List Content)) (p k : ℕ) → slice_index_or (slice_set A p (wiped k (slice_index_or A p []))) p [] ≡ wiped k (slice_index_or A p [])
wiped_there [] p k = sym (wiped_none k)
wiped_there (x ∷ A) zero k = refl
wiped_there (x ∷ A) (suc p) k = wiped_there A p k

set_twice : {A : Type 0} (xs : List A) (p : ℕ) (x y : A) → slice_set (slice_set xs p x) p y ≡ slice_set xs p y
set_twice [] p x y = refl
set_twice (z ∷ xs) zero x y = refl
set_twice (z ∷ xs) (suc p) x y = ap (λ zs. z ∷ zs) (set_twice xs p x y)

set_same : {A : Type 0} (xs : List A) (p : ℕ) (d : A) → xs ≡ slice_set xs p (slice_index_or xs p d)
set_same [] p d = refl
set_same (x ∷ xs) zero d = refl
set_same (x ∷ xs) (suc p) d = ap (λ zs. x ∷ zs) (set_same xs p d)

less_test : (k size : ℕ) → compare_of Lt (pos k) (pos size) ≡ nat_lt k size
less_test k size = refl

module _ (P : Program) (h : Here) (B : List Block) (has : HasBlocks P h B) (vars a size : ℕ) (size_op : Operand) where
  abbrev place : ℕ
  place = (setting_at P h).spot a

  pub record Wiped (p : Block) (s : State) (q : Block) (A : List (List Content)) : Type 0 where
    pub to : State
    pub comes : Comes P h p s q to
    pub arrays : to.arrays ≡ slice_set A ((setting_at P h).spot a) (wiped size (slice_index_or A ((setting_at P h).spot a) []))
    pub keeps : Keeps vars s to
    pub input : to.input ≡ s.input
    pub out : to.out ≡ s.out

  module _ (p q : Block) (x : Zeroes B size_op vars a p q) (A : List (List Content)) (size_is : length (slice_index_or A ((setting_at P h).spot a) []) ≡ size) (small : size < 2 ^ 29) (s0 : State) (sized : (u : State) → Keeps vars s0 u → held u size_op ≡ Some (pos size)) where
    abbrev After : ℕ → List (List Content)
    After k = slice_set A ((setting_at P h).spot a) (wiped k (slice_index_or A ((setting_at P h).spot a) []))

    row_is : (k : ℕ) (s : State) → s.arrays ≡ After k → row_of s ((setting_at P h).spot a) ≡ wiped k (slice_index_or A ((setting_at P h).spot a) [])
    row_is k s e = ap (λ z. slice_index_or z ((setting_at P h).spot a) []) e ∙ wiped_there A ((setting_at P h).spot a) k

    size_of : (k : ℕ) (s : State) → s.arrays ≡ After k → length (row_of s ((setting_at P h).spot a)) ≡ size
    size_of k s e = ap length (row_is k s e) ∙ length_wiped k (slice_index_or A ((setting_at P h).spot a) []) ∙ size_is

    tested : (k : ℕ) (s : State) → Keeps vars s0 s → s.values x.i ≡ Some (pos k) → Comes P h x.head s (cond (nat_lt k size) x.yes x.no) (with_value s x.c (Some (one_if (nat_lt k size))))
    tested k s kept e = (comes_tests P h B has (Compute (ToBranch Lt) x.c (Held x.i) size_op) x.c x.head x.yes x.no s (with_value s x.c (Some (one_if (nat_lt k size)))) (nat_lt k size) x.tests (computes (setting_at P h) (ToBranch Lt) x.c (Held x.i) size_op s (pos k) (pos size) e (sized s kept) ∙ ap (λ b. Some (with_value s x.c (Some (one_if b)))) (less_test k size)) (value_there x.c s (Some (one_if (nat_lt k size))))).comes

    wipes : (r k : ℕ) → k + r ≡ size → (s : State) → Keeps vars s0 s → s.values x.i ≡ Some (pos k) → s.arrays ≡ After k → Wiped x.head s q A
    wipes zero k e s kept at arr =
        let full : k ≡ size = omega arith in
        let b : nat_lt k size ≡ false = grind (arith, full) in
        let up = x.above in let ic = x.apart_c in
        record {
          to = with_value s x.c (Some (one_if (nat_lt k size)));
          comes = comes_on P h (subst (λ v. Comes P h x.head s (cond v x.yes x.no) (with_value s x.c (Some (one_if (nat_lt k size))))) b (tested k s kept at)) (comes_goes P h B has q x.no (with_value s x.c (Some (one_if (nat_lt k size)))) x.ends_at);
          arrays = arr ∙ ap (λ z. After z) full;
          keeps = keeps_value vars x.c s (Some (one_if (nat_lt k size))) (omega arith);
          input = refl;
          out = refl;
        }
    wipes (suc r) k e s kept at arr =
        let lt : k < size = omega arith in
        let up = x.above in let ic = x.apart_c in let it = x.apart_t in
        let s1 : State = with_value s x.c (Some (one_if (nat_lt k size))) in
        let i1 : s1.values x.i ≡ Some (pos k) = keeps_value x.c x.c s (Some (one_if (nat_lt k size))) (omega arith) x.i ic ∙ at in
        let s2 : State = with_value s1 x.t (Some (product_of (pos 4) (pos k))) in
        let i2 : s2.values x.i ≡ Some (pos k) = keeps_value x.t x.t s1 (Some (product_of (pos 4) (pos k))) (omega arith) x.i it ∙ i1 in
        let s3 : State = with_cell s2 ((setting_at P h).spot a) k (Some (pos 0)) in
        let s4 : State = with_value s3 x.i (Some (pos (k + 1))) in
        let c1 : Comes P h x.head s x.yes s1 = subst (λ v. Comes P h x.head s (cond v x.yes x.no) s1) (is_below k size lt) (tested k s kept at) in
        let c2 : Comes P h x.yes s1 x.store s2 = comes_past P h B has (Place x.t a (Held x.i)) x.yes x.store s1 s2 x.places (ap (λ v. Some (with_value s1 x.t (place_of v))) i1) in
        let c3 : Comes P h x.store s2 x.step s3 = comes_past P h B has (Keep a (Held x.t) (Number (pos 0))) x.store x.step s2 s3 x.stores (stores (setting_at P h) a k size (Held x.t) (Number (pos 0)) (pos 0) s2 small lt (size_of k s2 arr) (value_there x.t s1 (Some (product_of (pos 4) (pos k)))) refl) in
        let c4 : Comes P h x.step s3 x.last s4 = comes_past P h B has (Compute Add x.i (Held x.i) (Number (pos 1))) x.step x.last s3 s4 x.steps (computes (setting_at P h) Add x.i (Held x.i) (Number (pos 1)) s3 (pos k) (pos 1) i2 refl ∙ ap (λ v. Some (with_value s3 x.i (Some v))) (one_up k (omega arith))) in
        let c5 : Comes P h x.last s4 x.head s4 = is_later P h (later_jump P h B has x.last x.head x.h s4 x.again x.at_head) in
        let e2 : k + 1 + r ≡ size = omega arith in
        let sk : suc k ≡ k + 1 = omega arith in
        let a4 : s4.arrays ≡ After (k + 1) =
        ap (λ z. slice_set s2.arrays ((setting_at P h).spot a) z) (ap (λ z. slice_set z k (Some (pos 0))) (row_is k s2 arr) ∙ one_wiped k (slice_index_or A ((setting_at P h).spot a) []))
        ∙ ap (λ z. slice_set z ((setting_at P h).spot a) (wiped (suc k) (slice_index_or A ((setting_at P h).spot a) []))) arr
        ∙ set_twice A ((setting_at P h).spot a) (wiped k (slice_index_or A ((setting_at P h).spot a) [])) (wiped (suc k) (slice_index_or A ((setting_at P h).spot a) []))
        ∙ ap (λ z. After z) sk in
        let k4 : Keeps vars s0 s4 = λ u l. keeps_value vars x.i s3 (Some (pos (k + 1))) up u l ∙ keeps_value vars x.t s1 (Some (product_of (pos 4) (pos k))) (omega arith) u l ∙ keeps_value vars x.c s (Some (one_if (nat_lt k size))) (omega arith) u l ∙ kept u l in
        let w = wipes r (k + 1) e2 s4 k4 (value_there x.i s3 (Some (pos (k + 1)))) a4 in
        record {
          to = w.to;
          comes = comes_on P h c1 (comes_on P h c2 (comes_on P h c3 (comes_on P h c4 (comes_on P h c5 w.comes))));
          arrays = w.arrays;
          keeps = λ u l. w.keeps u l ∙ keeps_value vars x.i s3 (Some (pos (k + 1))) up u l ∙ keeps_value vars x.t s1 (Some (product_of (pos 4) (pos k))) (omega arith) u l ∙ keeps_value vars x.c s (Some (one_if (nat_lt k size))) (omega arith) u l;
          input = w.input;
          out = w.out;
        }

    -- from the start
    pub zeroes_run : s0.arrays ≡ A → Wiped p s0 q A
    zeroes_run e =
        let s = s0 in
        let s1 : State = with_value s x.i (Some (pos 0)) in
        let c1 : Comes P h p s x.first s1 = comes_past P h B has (Compute Mov x.i (Number (pos 0)) (Number (pos 0))) p x.first s s1 x.starts refl in
        let c2 : Comes P h x.first s1 x.head s1 = is_later P h (later_jump P h B has x.first x.head x.h s1 x.enters x.at_head) in
        let z : 0 + size ≡ size = omega arith in
        let w = wipes size 0 z s1 (keeps_value vars x.i s (Some (pos 0)) x.above) (value_there x.i s (Some (pos 0))) (e ∙ set_same A ((setting_at P h).spot a) []) in
        record {
          to = w.to;
          comes = comes_on P h c1 (comes_on P h c2 w.comes);
          arrays = w.arrays;
          keeps = λ u l. w.keeps u l ∙ keeps_value vars x.i s (Some (pos 0)) x.above u l;
          input = w.input;
          out = w.out;
        }

-- the tie after an array was set to zeros: it is then in force
pub tied_zeroed : (globals : ℕ) (spot : ℕ → ℕ) (sc : Scope) (kept : ℕ → Type 0) (shapes : List ℕ) (words : Sees) (a size vars : ℕ) (σ : Store) (s t : State) → Above words sc vars → Tied globals spot sc kept shapes words σ s → slice_index_or shapes (spot a) 0 ≡ size → Keeps vars s t → t.arrays ≡ slice_set s.arrays (spot a) (wiped size (slice_index_or s.arrays (spot a) [])) → t.input ≡ s.input → t.out ≡ s.out → Tied globals spot (record sc { arrays = a ∷ sc.arrays }) kept shapes words (cleared σ (spot a)) t
tied_zeroed globals spot sc kept shapes words a size vars σ s t above tied size_is keep arr inp out = record {
  scalars = λ y i. keep y (let l = above.scalars y i in let f = above.few in omega arith) ∙ tied.scalars y i;
  handed = λ d b c e. let h = above.handed d b c e in let v = tied.handed d b c e in (keep b h.1 ∙ v.0, keep c h.3 ∙ v.1);
  own = owns;
  others = λ p i. row p (tied.others p i);
  shape = ap (λ z. map (λ r. length r) z) arr ∙ set_shape s.arrays (spot a) (wiped size (slice_index_or s.arrays (spot a) [])) (length_wiped size (slice_index_or s.arrays (spot a) [])) ∙ tied.shape;
  source_shape = set_shape σ.arrays (spot a) (map (λ z. pos 0) (array_at σ (spot a))) (length-map (array_at σ (spot a)) (λ z. pos 0)) ∙ tied.source_shape;
  input = inp ∙ tied.input;
  out = out ∙ tied.out;
  ranges = range_row σ (spot a) (map (λ z. pos 0) (array_at σ (spot a))) (zeros_fit (array_at σ (spot a))) tied.ranges;
}
  where
    count : length σ.arrays ≡ length s.arrays
    count = same_count globals spot kept shapes words sc σ s tied

    now : wiped size (slice_index_or s.arrays (spot a) []) ≡ map Some (map (λ z. pos 0) (array_at σ (spot a)))
    now =
        let l1 : length (slice_index_or s.arrays (spot a) []) ≡ size = row_length globals spot kept shapes words sc σ s (spot a) tied ∙ size_is in
        let l2 : length (array_at σ (spot a)) ≡ size = source_length globals spot kept shapes words sc σ s (spot a) tied ∙ size_is in
        ap (λ z. wiped z (slice_index_or s.arrays (spot a) [])) (sym l1) ∙ all_wiped (slice_index_or s.arrays (spot a) []) (array_at σ (spot a)) (l1 ∙ sym l2)

    row : (p : ℕ) → SameRow σ.arrays s.arrays p → SameRow (cleared σ (spot a)).arrays t.arrays p
    row p e = ap (λ z. slice_index_or z p []) arr ∙ set_row σ.arrays s.arrays (spot a) p (map (λ z. pos 0) (array_at σ (spot a))) (wiped size (slice_index_or s.arrays (spot a) [])) count now e

    -- the array itself, whatever it held
    itself : (xs : List (List ℤ)) (ys : List (List Content)) (p : ℕ) (r : List ℤ) (r' : List Content) → length xs ≡ length ys → r' ≡ map Some r → SameRow (slice_set xs p r) (slice_set ys p r') p
    itself [] [] p r r' l e = refl
    itself [] (y ∷ ys) p r r' l e = absurd (omega arith)
    itself (x ∷ xs) [] p r r' l e = absurd (omega arith)
    itself (x ∷ xs) (y ∷ ys) zero r r' l e = e
    itself (x ∷ xs) (y ∷ ys) (suc p) r r' l e = itself xs ys p r r' (omega arith) e

    here : SameRow (cleared σ (spot a)).arrays t.arrays (spot a)
    here = ap (λ z. slice_index_or z (spot a) []) arr ∙ itself σ.arrays s.arrays (spot a) (map (λ z. pos 0) (array_at σ (spot a))) (wiped size (slice_index_or s.arrays (spot a) [])) count now

    inner : (b : ℕ) → is_in b (a ∷ sc.arrays) ≡ true → ((nat_eq b a ≡ true) × (b ≡ a)) ⊎ ((nat_eq b a ≡ false) × (b ≡ a → ⊥)) → SameRow (cleared σ (spot a)).arrays t.arrays (spot b)
    inner b i (inl w) = subst (λ c. SameRow (cleared σ (spot a)).arrays t.arrays (spot c)) (sym w.1) here
    inner b i (inr w) = row (spot b) (tied.own b (inr (sym (ap (λ z. z || is_in b sc.arrays) w.0) ∙ i)))

    owns : (b : ℕ) → InForce globals (record sc { arrays = a ∷ sc.arrays }) b → SameRow (cleared σ (spot a)).arrays t.arrays (spot b)
    owns b (inl l) = row (spot b) (tied.own b (inl l))
    owns b (inr i) = inner b i (eqb_tells b a)
