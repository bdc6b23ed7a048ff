-- What the rows of blocks have where they come from: numbers, kinds, exits and lengths.
use Rattle.std.proofs.Common.{◌≡◌, ◌⊎◌, inl, inr, ℕ, zero, suc, ◌+◌, ◌<◌, ◌≤◌, Bool, true, false, cond, ◌==◌, ◌&&◌, nat_lt, not, List, [], ◌∷◌, ◌++◌, length, map, take, slice_get, Option, Some, None, refl, sym, ap, ◌∙◌, subst, ltb-true, ltb-false, arith}
use Rattle.std.proofs.lemmas.Bool.{false≢true}
use Rattle.std.proofs.lemmas.List.{length-map}
use Rattle.std.specs.List.{filter, list_any}
use Rattle.vx_base.specs.declared.outcome.Trap.{Trap}
use Rattle.vx_base.specs.declared.outcome.Trap.TheVariants.{Divide, Index, Input, Depth}
use Rattle.vx_flow.specs.declared.graph.Operand.{Operand}
use Rattle.vx_flow.specs.declared.graph.Exit.{Exit}
use Rattle.vx_flow.specs.declared.graph.Exit.TheVariants.{Goto, Split, Call, Return, Ends}
use Rattle.vx_flow.specs.declared.graph.Block.{Block}
use Rattle.vx_flow.specs.Effects.{IsIn}
use Rattle.vx_flow.specs.Operands.{with_value_in, with_values, value_list}
use Rattle.vx_flow.specs.Sound.{targets_of}
use Rattle.vx_lower.specs.FlowOf.{EndsBy}
use Rattle.vx_shape.specs.ShapeTest.{is_none_left, is_trap, is_trap_of}
use Rattle.vx_inline.specs.Inlined.{is_plain, kinds_of, kind_place, plain_before, placed_as, moved, moves_in, moves_out, stayed, copied, copied_as, stayed_all}
use Rattle.vx_inline.proofs.Depth.{get_in}
use Rattle.vx_inline.proofs.Numbering.{before_all, trap_at, IsTrap, trap_of, kind_at}

pub longer : {A : Type 0} (xs ys : List A) → length (xs ++ ys) ≡ length xs + length ys
longer [] ys = omega arith
longer (x ∷ xs) ys = let e : length (xs ++ ys) ≡ length xs + length ys = longer xs ys in omega (arith, e)

pub stayed_from : (at : ℕ → ℕ) (new : Block) (site i : ℕ) (blocks : List Block) (b : ℕ) (block : Block) → slice_get (stayed_all at new site i blocks) b ≡ Some block → (x : Block) × (slice_get blocks b ≡ Some x) × (block ≡ cond (i + b == site) new (stayed at x))
stayed_from at new site i [] b block e = absurd (cc)
stayed_from at new site i (x ∷ xs) zero block e =
    let q : cond (i == site) new (stayed at x) ≡ block = cc in
    let n : i ≡ i + 0 = omega arith in
    (x, refl, sym q ∙ ap (λ j. cond (j == site) new (stayed at x)) n)
stayed_from at new site i (x ∷ xs) (suc b) block e =
    let r = stayed_from at new site (suc i) xs b block e in
    let n : suc i + b ≡ i + suc b = omega arith in
    (r.0, r.1, r.2 ∙ ap (λ j. cond (j == site) new (stayed at r.0)) n)

-- ---- numbers of plain blocks

more_put : (t : Bool) (y : Block) (a b : List Block) → length a < length b → length (cond t (y ∷ a) a) < length (cond t (y ∷ b) b)
more_put true y a b l = omega (arith, l)
more_put false y a b l = l

before_less : (xs : List Block) (b d : ℕ) (x : Block) → slice_get xs b ≡ Some x → is_plain x ≡ true → b < d → plain_before xs b < plain_before xs d
before_less [] b d x e p l = absurd (cc)
before_less (y ∷ ys) b zero x e p l = absurd (omega arith)
before_less (y ∷ ys) zero (suc d) x e p l =
    let q : y ≡ x = cc in
    let t : is_plain y ≡ true = ap is_plain q ∙ p in
    let k : 0 < length (y ∷ filter is_plain (take d ys)) = omega arith in
    subst (λ z. 0 < length (cond z (y ∷ filter is_plain (take d ys)) (filter is_plain (take d ys)))) (sym t) k
before_less (y ∷ ys) (suc b) (suc d) x e p l =
    more_put (is_plain y) y (filter is_plain (take b ys)) (filter is_plain (take d ys)) (before_less ys b d x e p (omega arith))

before_one : (xs : List Block) (b d : ℕ) (x z : Block) → slice_get xs b ≡ Some x → slice_get xs d ≡ Some z → is_plain x ≡ true → is_plain z ≡ true → plain_before xs b ≡ plain_before xs d → b ≡ d
before_one xs b d x z e f p q same = by (nat_lt b d) (nat_lt d b) refl refl
  where
    by : (s t : Bool) → nat_lt b d ≡ s → nat_lt d b ≡ t → b ≡ d
    by true t h k = let l : plain_before xs b < plain_before xs d = before_less xs b d x e p (ltb-true b d h) in absurd (omega (arith, l, same))
    by false true h k = let l : plain_before xs d < plain_before xs b = before_less xs d b z f q (ltb-true d b k) in absurd (omega (arith, l, same))
    by false false h k = let l : d ≤ b = ltb-false b d h in let m : b ≤ d = ltb-false d b k in omega (arith, l, m)

-- where all blocks before one are plain
pub all_before : (xs : List Block) (b : ℕ) (x : Block) → slice_get xs b ≡ Some x → ((j : ℕ) (y : Block) → j < b → slice_get xs j ≡ Some y → is_plain y ≡ true) → plain_before xs b ≡ b
all_before [] b x e k = absurd (cc)
all_before (y ∷ ys) zero x e k = refl
all_before (y ∷ ys) (suc b) x e k =
    let p : is_plain y ≡ true = k 0 y (omega arith) refl in
    let r : plain_before ys b ≡ b = all_before ys b x e (λ j z l f. k (suc j) z (omega (arith, l)) f) in
    ap (λ t. length (cond t (y ∷ filter is_plain (take b ys)) (filter is_plain (take b ys)))) p ∙ ap suc r

trap_is : (a b : Trap) → Option.Some (trap_at a) ≡ Some (trap_at b) → a ≡ b
trap_is a b e =
    let q : trap_at a ≡ trap_at b = cc in
    let r : Ends a ≡ Ends b = ap (λ (z : Block). z.exit) q in
    cc

-- two blocks of one row do not stand at one place
pub placed_one : (first m : ℕ) (A B blocks : List Block) (b d : ℕ) (x z : Block) → first + length (filter is_plain blocks) ≤ m → ((w : Block) → IsIn w blocks → IsIn w (A ++ B)) →
    ((i j : ℕ) (k : Trap) → EndsBy (record { blocks = blocks; banks = []; parameters = []; arrays = [] }) i k → EndsBy (record { blocks = blocks; banks = []; parameters = []; arrays = [] }) j k → i ≡ j) →
    slice_get blocks b ≡ Some x → slice_get blocks d ≡ Some z → placed_as first m (kinds_of (A ++ B)) blocks b (slice_get blocks b) ≡ placed_as first m (kinds_of (A ++ B)) blocks d (slice_get blocks d) → b ≡ d
placed_one first m A B blocks b d x z fits within alone e f same = by (is_plain x) (is_plain z) refl refl
  where
    at_plain : (i : ℕ) (w : Block) → slice_get blocks i ≡ Some w → is_plain w ≡ true → placed_as first m (kinds_of (A ++ B)) blocks i (slice_get blocks i) ≡ first + plain_before blocks i
    at_plain i w h p = ap (placed_as first m (kinds_of (A ++ B)) blocks i) h ∙ ap (λ t. cond t (first + plain_before blocks i) (m + kind_place (kinds_of (A ++ B)) w.exit)) p

    at_trap : (i : ℕ) (w : Block) → slice_get blocks i ≡ Some w → is_plain w ≡ false → placed_as first m (kinds_of (A ++ B)) blocks i (slice_get blocks i) ≡ m + kind_place (kinds_of (A ++ B)) w.exit
    at_trap i w h p = ap (placed_as first m (kinds_of (A ++ B)) blocks i) h ∙ ap (λ t. cond t (first + plain_before blocks i) (m + kind_place (kinds_of (A ++ B)) w.exit)) p

    by : (s t : Bool) → is_plain x ≡ s → is_plain z ≡ t → b ≡ d
    by true true p q =
        let k : first + plain_before blocks b ≡ first + plain_before blocks d = sym (at_plain b x e p) ∙ same ∙ at_plain d z f q in
        before_one blocks b d x z e f p q (omega (arith, k))
    by true false p q =
        let k : first + plain_before blocks b ≡ m + kind_place (kinds_of (A ++ B)) z.exit = sym (at_plain b x e p) ∙ same ∙ at_trap d z f q in
        let l : plain_before blocks b < length (filter is_plain blocks) = before_all blocks b x e p in
        absurd (omega (arith, k, l, fits))
    by false true p q =
        let k : m + kind_place (kinds_of (A ++ B)) x.exit ≡ first + plain_before blocks d = sym (at_trap b x e p) ∙ same ∙ at_plain d z f q in
        let l : plain_before blocks d < length (filter is_plain blocks) = before_all blocks d z f q in
        absurd (omega (arith, k, l, fits))
    by false false p q =
        let k : m + kind_place (kinds_of (A ++ B)) x.exit ≡ m + kind_place (kinds_of (A ++ B)) z.exit = sym (at_trap b x e p) ∙ same ∙ at_trap d z f q in
        let one : kind_place (kinds_of (A ++ B)) x.exit ≡ kind_place (kinds_of (A ++ B)) z.exit = omega (arith, k) in
        let s : IsTrap x = trap_of x p in
        let t : IsTrap z = trap_of z q in
        let kinds_same : s.kind ≡ t.kind =
        trap_is s.kind t.kind (sym (kind_at (A ++ B) x (within x (get_in blocks b x e)) s) ∙ ap (slice_get (map trap_at (kinds_of (A ++ B)))) one ∙ kind_at (A ++ B) z (within z (get_in blocks d z f)) t) in
        alone b d s.kind (record { block = x; has = e; ends = s.exit }) (record { block = z; has = f; ends = t.exit ∙ ap Ends (sym kinds_same) })

-- ---- each kind once

abbrev Once : List Trap → Type 0
Once [] = Unit {0}
Once (k ∷ ks) = (IsIn k ks → ⊥) × Once ks

in_filter : (P : Trap → Bool) (ks : List Trap) (k : Trap) → IsIn k (filter P ks) → IsIn k ks
in_filter P [] k m = m
in_filter P (j ∷ ks) k m = by (P j) m (in_filter P ks k)
  where
    by : (t : Bool) → IsIn k (cond t (j ∷ filter P ks) (filter P ks)) → (IsIn k (filter P ks) → IsIn k ks) → IsIn k (j ∷ ks)
    by true (inl e) h = inl e
    by true (inr n) h = inr (h n)
    by false n h = inr (h n)

once_filter : (P : Trap → Bool) (ks : List Trap) → Once ks → Once (filter P ks)
once_filter P [] o = tt
once_filter P (k ∷ ks) o = by (P k) (once_filter P ks o.1)
  where
    by : (t : Bool) → Once (filter P ks) → Once (cond t (k ∷ filter P ks) (filter P ks))
    by true r = (λ m. o.0 (in_filter P ks k m), r)
    by false r = r

once_at : (ks : List Trap) (i j : ℕ) (k : Trap) → Once ks → slice_get ks i ≡ Some k → slice_get ks j ≡ Some k → i ≡ j
once_at [] i j k o e f = absurd (cc)
once_at (h ∷ ks) zero zero k o e f = refl
once_at (h ∷ ks) zero (suc j) k o e f = let q : h ≡ k = cc in absurd (o.0 (subst (λ z. IsIn z ks) (sym q) (get_in ks j k f)))
once_at (h ∷ ks) (suc i) zero k o e f = let q : h ≡ k = cc in absurd (o.0 (subst (λ z. IsIn z ks) (sym q) (get_in ks i k e)))
once_at (h ∷ ks) (suc i) (suc j) k o e f = ap suc (once_at ks i j k o.1 e f)

all_once : Once (Divide ∷ Index ∷ Input ∷ Depth ∷ [])
all_once = (first, (second, (third, (λ m. m, tt))))
  where
    first : IsIn Divide (Index ∷ Input ∷ Depth ∷ []) → ⊥
    first (inl e) = cc
    first (inr (inl e)) = cc
    first (inr (inr (inl e))) = cc
    first (inr (inr (inr z))) = z

    second : IsIn Index (Input ∷ Depth ∷ []) → ⊥
    second (inl e) = cc
    second (inr (inl e)) = cc
    second (inr (inr z)) = z

    third : IsIn Input (Depth ∷ []) → ⊥
    third (inl e) = cc
    third (inr z) = z

pub kinds_one : (blocks : List Block) (i j : ℕ) (k : Trap) → slice_get (kinds_of blocks) i ≡ Some k → slice_get (kinds_of blocks) j ≡ Some k → i ≡ j
kinds_one blocks i j k e f =
    once_at (kinds_of blocks) i j k (once_filter (λ k. list_any (λ (block : Block). is_trap_of k block.exit && is_none_left block.ops) blocks) (Divide ∷ Index ∷ Input ∷ Depth ∷ []) all_once) e f

-- ---- exits

pub moved_ends : (at : ℕ → ℕ) (exit : Exit) (k : Trap) → moved at exit ≡ Ends k → exit ≡ Ends k
moved_ends at (Goto d) k e = absurd (cc)
moved_ends at (Split p d f) k e = absurd (cc)
moved_ends at (Call f xs result d) k e = absurd (cc)
moved_ends at (Return x) k e = absurd (cc)
moved_ends at (Ends j) k e = e

pub copied_ends : (copy to : ℕ → ℕ) (result : Option ℕ) (back : ℕ) (block : Block) (k : Trap) → (copied copy to result back block).exit ≡ Ends k → (block.exit ≡ Ends k) × ((copied copy to result back block).ops ≡ map (with_values to) block.ops)
copied_ends copy to result back block k e = by block.exit e
  where
    by : (exit : Exit) → (copied_as copy to result back (map (with_values to) block.ops) exit).exit ≡ Ends k → (exit ≡ Ends k) × ((copied_as copy to result back (map (with_values to) block.ops) exit).ops ≡ map (with_values to) block.ops)
    by (Goto d) e = absurd (cc)
    by (Split p d f) e = absurd (cc)
    by (Call f xs v d) e = absurd (cc)
    by (Return x) e = absurd (cc)
    by (Ends j) e = (e, refl)

pub not_both_trap : (block : Block) (k : Trap) → is_plain block ≡ true → block.exit ≡ Ends k → block.ops ≡ [] → ⊥
not_both_trap block k p e o =
    let q : is_plain block ≡ false = ap (λ x. not (is_trap x && is_none_left block.ops)) e ∙ ap (λ ops. not (is_none_left ops)) o in
    false≢true (sym q ∙ p)

pub moves_few : (to : ℕ → ℕ) (qs : List ℕ) (xs : List Operand) → length (moves_in to qs xs) ≤ length xs
moves_few to [] xs = omega arith
moves_few to (q ∷ qs) [] = omega arith
moves_few to (q ∷ qs) (x ∷ xs) = let l : length (moves_in to qs xs) ≤ length xs = moves_few to qs xs in omega (arith, l)

moves_out_few : (result : Option ℕ) (x : Operand) → length (moves_out result x) ≡ length (value_list result)
moves_out_few None x = refl
moves_out_few (Some v) x = refl

pub copied_short : (copy to : ℕ → ℕ) (result : Option ℕ) (back : ℕ) (block : Block) → length block.ops ≤ 512 → ((x : Operand) → block.exit ≡ Return x → length block.ops + length (value_list result) ≤ 512) → length (copied copy to result back block).ops ≤ 512
copied_short copy to result back block l r = by block.exit r
  where
    same : length (map (with_values to) block.ops) ≤ 512
    same = let q : length (map (with_values to) block.ops) ≡ length block.ops = length-map block.ops (with_values to) in omega (arith, q, l)

    by : (exit : Exit) → ((x : Operand) → exit ≡ Return x → length block.ops + length (value_list result) ≤ 512) → length (copied_as copy to result back (map (with_values to) block.ops) exit).ops ≤ 512
    by (Goto d) r = same
    by (Split p d f) r = same
    by (Call f xs v d) r = same
    by (Return x) r =
        let q : length (map (with_values to) block.ops) ≡ length block.ops = length-map block.ops (with_values to) in
        let a : length (map (with_values to) block.ops ++ moves_out result (with_value_in to x)) ≡ length (map (with_values to) block.ops) + length (moves_out result (with_value_in to x)) =
        longer (map (with_values to) block.ops) (moves_out result (with_value_in to x)) in
        let o : length (moves_out result (with_value_in to x)) ≡ length (value_list result) = moves_out_few result (with_value_in to x) in
        let s : length block.ops + length (value_list result) ≤ 512 = r x refl in
        omega (arith, q, a, o, s)
    by (Ends k) r = same

pub record MovedSplit (at : ℕ → ℕ) (exit : Exit) (y z : ℕ) : Type 0 where
  pub test : ℕ
  pub first : ℕ
  pub second : ℕ
  pub is : exit ≡ Split test first second
  pub at_first : at first ≡ y
  pub at_second : at second ≡ z

pub moved_split : (at : ℕ → ℕ) (exit : Exit) (p y z : ℕ) → moved at exit ≡ Split p y z → MovedSplit at exit y z
moved_split at (Goto d) p y z e = absurd (cc)
moved_split at (Split q u v) p y z e = record { test = q; first = u; second = v; is = refl; at_first = cc; at_second = cc }
moved_split at (Call f xs result d) p y z e = absurd (cc)
moved_split at (Return x) p y z e = absurd (cc)
moved_split at (Ends k) p y z e = absurd (cc)

pub copied_split : (copy to : ℕ → ℕ) (result : Option ℕ) (back : ℕ) (block : Block) (p y z : ℕ) → (copied copy to result back block).exit ≡ Split p y z → MovedSplit copy block.exit y z
copied_split copy to result back block p y z e = by block.exit e
  where
    by : (exit : Exit) → (copied_as copy to result back (map (with_values to) block.ops) exit).exit ≡ Split p y z → MovedSplit copy exit y z
    by (Goto d) e = absurd (cc)
    by (Split q u v) e = record { test = q; first = u; second = v; is = refl; at_first = cc; at_second = cc }
    by (Call f xs w d) e = absurd (cc)
    by (Return x) e = absurd (cc)
    by (Ends k) e = absurd (cc)

pub moved_target : (at : ℕ → ℕ) (exit : Exit) (v : ℕ) → IsIn v (targets_of (moved at exit)) → (d : ℕ) × IsIn d (targets_of exit) × (v ≡ at d)
moved_target at (Goto d) v (inl e) = (d, inl refl, e)
moved_target at (Goto d) v (inr z) = absurd z
moved_target at (Split p d f) v (inl e) = (d, inl refl, e)
moved_target at (Split p d f) v (inr (inl e)) = (f, inr (inl refl), e)
moved_target at (Split p d f) v (inr (inr z)) = absurd z
moved_target at (Call f xs result d) v (inl e) = (d, inl refl, e)
moved_target at (Call f xs result d) v (inr z) = absurd z
moved_target at (Return x) v m = absurd m
moved_target at (Ends k) v m = absurd m

pub copied_target : (copy to : ℕ → ℕ) (result : Option ℕ) (back : ℕ) (block : Block) (v : ℕ) → IsIn v (targets_of (copied copy to result back block).exit) → ((d : ℕ) × IsIn d (targets_of block.exit) × (v ≡ copy d)) ⊎ (v ≡ back)
copied_target copy to result back block v m = by block.exit m
  where
    by : (exit : Exit) → IsIn v (targets_of (copied_as copy to result back (map (with_values to) block.ops) exit).exit) → ((d : ℕ) × IsIn d (targets_of exit) × (v ≡ copy d)) ⊎ (v ≡ back)
    by (Goto d) (inl e) = inl (d, inl refl, e)
    by (Goto d) (inr z) = absurd z
    by (Split p d f) (inl e) = inl (d, inl refl, e)
    by (Split p d f) (inr (inl e)) = inl (f, inr (inl refl), e)
    by (Split p d f) (inr (inr z)) = absurd z
    by (Call f xs w d) (inl e) = inl (d, inl refl, e)
    by (Call f xs w d) (inr z) = absurd z
    by (Return x) (inl e) = inr e
    by (Return x) (inr z) = absurd z
    by (Ends k) m = absurd m
