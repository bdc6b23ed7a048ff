-- A graph that a table shows sound is sound.
use Rattle.std.proofs.Common.{◌≡◌, ◌⊎◌, inl, inr, ℕ, zero, suc, Bool, true, false, ◌==◌, ◌||◌, List, [], ◌∷◌, Option, Some, None, slice_get, refl, sym, subst, eq-eqb, ◌&&◌, if◌then◌else◌}
use Rattle.std.proofs.lemmas.Bool.{and_parts, false≢true, eqb-true}
use Rattle.std.specs.Cmp.Derive.{both_true}
use Rattle.std.specs.List.{list_all, list_any}
use Rattle.std.specs.Prelude.{not}
use Rattle.vx_base.specs.declared.arithmetic.Code.{Code}
use Rattle.vx_base.specs.declared.arithmetic.Code.TheVariants.{Mov}
use Rattle.vx_flow.specs.declared.graph.Operand.{Operand}
use Rattle.vx_flow.specs.declared.graph.Operand.TheVariants.{Held, Number, Stack}
use Rattle.vx_flow.specs.declared.graph.Op.{Op}
use Rattle.vx_flow.specs.declared.graph.Op.TheVariants.{Compute, Select, Place, Load, Store, More, Input, Text, Decimal, Across, Base, PlaceIn}
use Rattle.vx_flow.specs.declared.graph.Exit.{Exit}
use Rattle.vx_flow.specs.declared.graph.Exit.TheVariants.{Goto, Split, Call, Return, Ends}
use Rattle.vx_flow.specs.declared.graph.Block.{Block}
use Rattle.vx_flow.specs.declared.graph.Graph.{Graph}
use Rattle.vx_flow.specs.declared.graph.Array.{Array}
use Rattle.vx_flow.specs.Effects.{is_unary, IsIn}
use Rattle.vx_flow.specs.Operands.{held_by, reads_three}
use Rattle.vx_flow.specs.Sound.{is_local, is_handed, is_that, is_value, is_right_value, keeps_place, is_result, leaves_alone, block_keeps, is_only_place, is_kept, is_place_in, has_place_in, is_placed, is_placed_by, is_placed_in, is_access_placed, keeps_base, leaves_base, block_keeps_base, is_parameter, is_handed_well, is_array_kept, is_sound_in, is_sound_block, is_sound}
use Rattle.vx_flow.proofs.SoundLists.{or_parts, or_left, or_right, not_of, differs_of, all_in, all_of, any_in}
use Rattle.vx_sound.specs.declared.origins.Origin.{Origin}
use Rattle.vx_sound.specs.declared.origins.Origin.TheVariants.{Element, Made, Given}
use Rattle.vx_sound.specs.Origins.{noted, is_nothing, is_for, is_made_one, is_given_one, is_free, is_array, is_made, is_given_at, is_free_operand, is_free_or_none, are_free_reads, is_place_or_free, keeps_origins, is_argument, leaves_origins, is_place_of, is_place_at, is_found, is_base_found, is_shown_by, is_shown_place, is_shown_access, is_origin, is_shown_base, is_shown_array, is_parameter_shown, is_shown_in, is_shown_block, is_shown}

-- ---- what is noted of a value

not_nothing : (a : ℕ) (o : Option Origin) → is_for a o ≡ true → is_nothing o ≡ true → ⊥
not_nothing a None h k = false≢true h
not_nothing a (Some o) h k = false≢true k

made_something : (o : Option Origin) → is_made_one o ≡ true → is_nothing o ≡ true → ⊥
made_something None h k = false≢true h
made_something (Some o) h k = false≢true k

given_something : (o : Option Origin) → is_given_one o ≡ true → is_nothing o ≡ true → ⊥
given_something None h k = false≢true h
given_something (Some o) h k = false≢true k

one_array : (a b : ℕ) (o : Option Origin) → is_for a o ≡ true → is_for b o ≡ true → b ≡ a
one_array a b None h k = absurd (false≢true h)
one_array a b (Some (Element c block op)) h k =
    let e : c ≡ a = eqb-true c a h in
    let f : c ≡ b = eqb-true c b k in
    cc
one_array a b (Some (Made block op)) h k = absurd (false≢true h)
one_array a b (Some (Given c place)) h k = absurd (false≢true h)

no_place : (a : ℕ) (o : Option Origin) → is_for a o ≡ true → is_given_one o ≡ true → ⊥
no_place a None h k = false≢true h
no_place a (Some (Element c block op)) h k = false≢true k
no_place a (Some (Made block op)) h k = false≢true h
no_place a (Some (Given c place)) h k = false≢true h

not_made : (o : Option Origin) → is_made_one o ≡ true → is_given_one o ≡ true → ⊥
not_made None h k = false≢true h
not_made (Some (Element c block op)) h k = false≢true h
not_made (Some (Made block op)) h k = false≢true k
not_made (Some (Given c place)) h k = false≢true h

no_base : (a : ℕ) (o : Option Origin) → is_for a o ≡ true → is_made_one o ≡ true → ⊥
no_base a None h k = false≢true h
no_base a (Some (Element c block op)) h k = false≢true k
no_base a (Some (Made block op)) h k = false≢true h
no_base a (Some (Given c place)) h k = false≢true h

-- something is noted of the value
abbrev pub IsNoted : List (Option Origin) → ℕ → Type 0
IsNoted ts v = is_free ts v ≡ true → ⊥

as_place : (ts : List (Option Origin)) (v a : ℕ) → is_array ts a v ≡ true → IsNoted ts v
as_place ts v a h = not_nothing a (noted ts v) h

-- the value is noted as a base
abbrev pub IsBaseNoted : List (Option Origin) → ℕ → Type 0
IsBaseNoted ts v = (is_made ts v ≡ true) ⊎ (is_given_at ts v ≡ true)

pub as_base : (ts : List (Option Origin)) (v : ℕ) → IsBaseNoted ts v → IsNoted ts v
as_base ts v (inl h) = made_something (noted ts v) h
as_base ts v (inr h) = given_something (noted ts v) h

base_or_place : (ts : List (Option Origin)) (v a : ℕ) → IsBaseNoted ts v → is_array ts a v ≡ true → ⊥
base_or_place ts v a (inl h) k = no_base a (noted ts v) k h
base_or_place ts v a (inr h) k = no_place a (noted ts v) k h

other : (ts : List (Option Origin)) (v u : ℕ) → IsNoted ts v → is_free ts u ≡ true → not (u == v) ≡ true
other ts v u h k = differs_of u v (λ e. h (subst (λ w. is_free ts w ≡ true) e k))

-- a place is no base
other_base : (ts : List (Option Origin)) (v u a : ℕ) → IsBaseNoted ts v → is_array ts a u ≡ true → not (u == v) ≡ true
other_base ts v u a h k = differs_of u v (λ e. base_or_place ts v a h (subst (λ w. is_array ts a w ≡ true) e k))

other_place : (ts : List (Option Origin)) (v u a : ℕ) → is_array ts a v ≡ true → IsBaseNoted ts u → not (u == v) ≡ true
other_place ts v u a h k = differs_of u v (λ e. base_or_place ts u a k (subst (λ w. is_array ts a w ≡ true) (sym e) h))

not_held : (ts : List (Option Origin)) (v : ℕ) (x : Operand) → IsNoted ts v → is_free_operand ts x ≡ true → not (is_value v x) ≡ true
not_held ts v (Held u) h k = other ts v u h k
not_held ts v (Number n) h k = refl
not_held ts v Stack h k = refl

not_read : (ts : List (Option Origin)) (v : ℕ) (x : Operand) → IsNoted ts v → is_free_or_none ts (held_by x) ≡ true → not (is_value v x) ≡ true
not_read ts v (Held u) h k = other ts v u h k
not_read ts v (Number n) h k = refl
not_read ts v Stack h k = refl

not_right : (ts : List (Option Origin)) (v : ℕ) (code : Code) (x : Operand) → IsNoted ts v → is_free_or_none ts (held_by x) ≡ true → not (is_right_value v code x) ≡ true
not_right ts v Mov x h k = refl
not_right ts v code x h k = not_read ts v x h k

-- the operands of an operation of which nothing is noted
both_read : (ts : List (Option Origin)) (first second : Option ℕ) → are_free_reads ts (reads_three first second None) ≡ true → (is_free_or_none ts first ≡ true) × (is_free_or_none ts second ≡ true)
both_read ts first second k = and_parts _ _ (and_parts _ _ k).0

not_computed : (ts : List (Option Origin)) (v : ℕ) (code : Code) (x y : Operand) → IsNoted ts v → are_free_reads ts (if is_unary code then reads_three (held_by x) None None else reads_three (held_by x) (held_by y) None) ≡ true → (not (is_value v x) && not (is_right_value v code y)) ≡ true
not_computed ts v Mov x y h k = both_true (not_read ts v x h (both_read ts (held_by x) None k).0) refl
not_computed ts v code x y h k = let (f, g) = both_read ts (held_by x) (held_by y) k in both_true (not_read ts v x h f) (not_right ts v code y h g)

-- ---- what operations do with places

same_where : (a b : Bool) → (a ≡ true → b ≡ true) → (not a || b) ≡ true
same_where true b f = f refl
same_where false b f = refl

-- what is noted for array b is no value of another array
same_array : (ts : List (Option Origin)) (v a u b : ℕ) → is_array ts a v ≡ true → is_array ts b u ≡ true → (not (u == v) || (b == a)) ≡ true
same_array ts v a u b h f = same_where (u == v) (b == a) (λ e. eq-eqb b a (one_array a b (noted ts v) h (subst (λ w. is_array ts b w ≡ true) (eqb-true u v e) f)))

same_or_other : (ts : List (Option Origin)) (v a u b : ℕ) → is_array ts a v ≡ true → (is_free ts u || is_array ts b u) ≡ true → (not (u == v) || (b == a)) ≡ true
same_or_other ts v a u b h k = elim (or_parts (is_free ts u) (is_array ts b u) k) [
  | inl f ↦ or_left (not (u == v)) (b == a) (other ts v u (as_place ts v a h) f)
  | inr f ↦ same_array ts v a u b h f
]

held_or_other : (ts : List (Option Origin)) (v a : ℕ) (x : Operand) (b : ℕ) → is_array ts a v ≡ true → is_place_or_free ts b x ≡ true → (not (is_value v x) || (b == a)) ≡ true
held_or_other ts v a (Held u) b h k = same_or_other ts v a u b h k
held_or_other ts v a (Number n) b h k = refl
held_or_other ts v a Stack b h k = refl

keeps : (ts : List (Option Origin)) (v a : ℕ) (op : Op) → is_array ts a v ≡ true → keeps_origins ts op ≡ true → keeps_place v a op ≡ true
keeps ts v a (Compute code u x y) h k =
    let (f, g) = and_parts _ _ k in
    let n = as_place ts v a h in
    let (l, r) = and_parts _ _ (not_computed ts v code x y n g) in
    both_true (both_true (other ts v u n f) l) r
keeps ts v a (Select u p x y) h k =
    let (f, g) = and_parts _ _ k in
    let (pq, r) = and_parts _ _ g in
    let (q, l) = and_parts _ _ pq in
    let n = as_place ts v a h in
    both_true (both_true (both_true (other ts v u n f) (other ts v p n q)) (not_read ts v x n l)) (not_read ts v y n r)
keeps ts v a (Place u b i) h k =
    let (f, g) = and_parts _ _ k in
    both_true (same_or_other ts v a u b h f) (not_held ts v i (as_place ts v a h) g)
keeps ts v a (Load u b p dismissible) h k =
    let (f, g) = and_parts _ _ k in
    both_true (other ts v u (as_place ts v a h) f) (held_or_other ts v a p b h g)
keeps ts v a (Store b p x) h k =
    let (f, g) = and_parts _ _ k in
    both_true (held_or_other ts v a p b h f) (not_held ts v x (as_place ts v a h) g)
keeps ts v a (More u) h k = other ts v u (as_place ts v a h) (and_parts _ _ k).0
keeps ts v a (Input u) h k = other ts v u (as_place ts v a h) (and_parts _ _ k).0
keeps ts v a (Text n) h k = refl
keeps ts v a (Decimal x) h k = not_read ts v x (as_place ts v a h) (both_read ts (held_by x) None k).0
keeps ts v a (Across u w) h k =
    let (f, g) = and_parts _ _ k in
    let n = as_place ts v a h in
    both_true (other ts v u n f) (other ts v w n (both_read ts (Some w) None g).0)
keeps ts v a (Base u b x) h k = other_place ts v u a h (inl k)
keeps ts v a (PlaceIn u b w i) h k =
    let (fg, l) = and_parts _ _ k in
    let (f, g) = and_parts _ _ fg in
    both_true (both_true (same_array ts v a u b h f) (not_held ts v i (as_place ts v a h) g)) (other_place ts v w a h (inr l))

-- ---- and with bases

apart_from_base : (ts : List (Option Origin)) (v u b : ℕ) → IsBaseNoted ts v → (is_free ts u || is_array ts b u) ≡ true → not (u == v) ≡ true
apart_from_base ts v u b h k = elim (or_parts (is_free ts u) (is_array ts b u) k) [ inl f ↦ other ts v u (as_base ts v h) f | inr f ↦ other_base ts v u b h f ]

held_apart : (ts : List (Option Origin)) (v : ℕ) (x : Operand) (b : ℕ) → IsBaseNoted ts v → is_place_or_free ts b x ≡ true → not (is_value v x) ≡ true
held_apart ts v (Held u) b h k = apart_from_base ts v u b h k
held_apart ts v (Number n) b h k = refl
held_apart ts v Stack b h k = refl

keeps_as_base : (ts : List (Option Origin)) (v : ℕ) (op : Op) → IsBaseNoted ts v → keeps_origins ts op ≡ true → keeps_base v op ≡ true
keeps_as_base ts v (Compute code u x y) h k =
    let (f, g) = and_parts _ _ k in
    let n = as_base ts v h in
    let (l, r) = and_parts _ _ (not_computed ts v code x y n g) in
    both_true (both_true (other ts v u n f) l) r
keeps_as_base ts v (Select u p x y) h k =
    let (f, g) = and_parts _ _ k in
    let (pq, r) = and_parts _ _ g in
    let (q, l) = and_parts _ _ pq in
    let n = as_base ts v h in
    both_true (both_true (both_true (other ts v u n f) (other ts v p n q)) (not_read ts v x n l)) (not_read ts v y n r)
keeps_as_base ts v (Place u b i) h k =
    let (f, g) = and_parts _ _ k in
    both_true (apart_from_base ts v u b h f) (not_held ts v i (as_base ts v h) g)
keeps_as_base ts v (Load u b p dismissible) h k =
    let (f, g) = and_parts _ _ k in
    both_true (other ts v u (as_base ts v h) f) (held_apart ts v p b h g)
keeps_as_base ts v (Store b p x) h k =
    let (f, g) = and_parts _ _ k in
    both_true (held_apart ts v p b h f) (not_held ts v x (as_base ts v h) g)
keeps_as_base ts v (More u) h k = other ts v u (as_base ts v h) (and_parts _ _ k).0
keeps_as_base ts v (Input u) h k = other ts v u (as_base ts v h) (and_parts _ _ k).0
keeps_as_base ts v (Text n) h k = refl
keeps_as_base ts v (Decimal x) h k = not_read ts v x (as_base ts v h) (both_read ts (held_by x) None k).0
keeps_as_base ts v (Across u w) h k =
    let (f, g) = and_parts _ _ k in
    let n = as_base ts v h in
    both_true (other ts v u n f) (other ts v w n (both_read ts (Some w) None g).0)
keeps_as_base ts v (Base u b x) h k = refl
keeps_as_base ts v (PlaceIn u b w i) h k =
    let (f, g) = and_parts _ _ (and_parts _ _ k).0 in
    both_true (other_base ts v u b h f) (not_held ts v i (as_base ts v h) g)

-- ---- exits

no_result : (ts : List (Option Origin)) (v : ℕ) (result : Option ℕ) → IsNoted ts v → is_free_or_none ts result ≡ true → not (is_result v result) ≡ true
no_result ts v None h k = refl
no_result ts v (Some u) h k = other ts v u h k

not_base_found : (g : Graph) (v a : ℕ) (o : Option Origin) → is_for a o ≡ true → is_base_found g v o ≡ true → ⊥
not_base_found g v a None h k = false≢true h
not_base_found g v a (Some (Element c block op)) h k = false≢true k
not_base_found g v a (Some (Made block op)) h k = false≢true h
not_base_found g v a (Some (Given c place)) h k = false≢true h

-- a place is no argument
not_argument : (ts : List (Option Origin)) (g : Graph) (v a : ℕ) (x : Operand) → is_array ts a v ≡ true → is_argument ts g x ≡ true → not (is_value v x) ≡ true
not_argument ts g v a (Held u) h k = elim (or_parts (is_free ts u) (is_base_found g u (noted ts u)) k) [
  | inl f ↦ other ts v u (as_place ts v a h) f
  | inr f ↦ differs_of u v (λ e. not_base_found g u a (noted ts u) (subst (λ w. is_array ts a w ≡ true) (sym e) h) f)
]
not_argument ts g v a (Number n) h k = refl
not_argument ts g v a Stack h k = refl

no_arguments : (ts : List (Option Origin)) (g : Graph) (v a : ℕ) (xs : List Operand) → is_array ts a v ≡ true → list_all (is_argument ts g) xs ≡ true → list_all (λ x. not (is_value v x)) xs ≡ true
no_arguments ts g v a xs h k = all_of (λ x. not (is_value v x)) xs (λ x m. not_argument ts g v a x h (all_in (is_argument ts g) xs x k m))

leaves : (ts : List (Option Origin)) (g : Graph) (v a : ℕ) (exit : Exit) → is_array ts a v ≡ true → leaves_origins ts g exit ≡ true → leaves_alone v exit ≡ true
leaves ts g v a (Goto c) h k = refl
leaves ts g v a (Split p c d) h k = other ts v p (as_place ts v a h) k
leaves ts g v a (Call f arguments result next) h k =
    let (l, r) = and_parts _ _ k in
    both_true (no_arguments ts g v a arguments h l) (no_result ts v result (as_place ts v a h) r)
leaves ts g v a (Return x) h k = not_held ts v x (as_place ts v a h) k
leaves ts g v a (Ends t) h k = refl

leaves_as_base : (ts : List (Option Origin)) (g : Graph) (v : ℕ) (exit : Exit) → IsBaseNoted ts v → leaves_origins ts g exit ≡ true → leaves_base v exit ≡ true
leaves_as_base ts g v (Goto c) h k = refl
leaves_as_base ts g v (Split p c d) h k = other ts v p (as_base ts v h) k
leaves_as_base ts g v (Call f arguments result next) h k = no_result ts v result (as_base ts v h) (and_parts _ _ k).1
leaves_as_base ts g v (Return x) h k = not_held ts v x (as_base ts v h) k
leaves_as_base ts g v (Ends t) h k = refl

-- ---- what stands where it is noted

pub any_at : {A : Type 0} (p : A → Bool) (xs : List A) (i : ℕ) (x : A) → slice_get xs i ≡ Some x → p x ≡ true → list_any p xs ≡ true
any_at p [] i x e h = absurd (cc)
any_at p (y ∷ ys) zero x e h = let q : x ≡ y = cc in or_left (p y) (list_any p ys) (subst (λ z. p z ≡ true) q h)
any_at p (y ∷ ys) (suc i) x e h = or_right (p y) (list_any p ys) (any_at p ys i x e h)

stands_in : (v a i : ℕ) (block : Block) (o : Option Op) → slice_get block.ops i ≡ o → is_place_of v a o ≡ true → has_place_in v a block ≡ true
stands_in v a i block None e h = absurd (false≢true h)
stands_in v a i block (Some op) e h = any_at (is_place_in v a) block.ops i op e h

stands_at : (v a i b : ℕ) (blocks : List Block) (o : Option Block) → slice_get blocks b ≡ o → is_place_at v a i o ≡ true → list_any (has_place_in v a) blocks ≡ true
stands_at v a i b blocks None e h = absurd (false≢true h)
stands_at v a i b blocks (Some block) e h = any_at (has_place_in v a) blocks b block e (stands_in v a i block (slice_get block.ops i) refl h)

found_stands : (v a : ℕ) (blocks : List Block) (o : Option Origin) → is_found blocks v a o ≡ true → list_any (has_place_in v a) blocks ≡ true
found_stands v a blocks None h = absurd (false≢true h)
found_stands v a blocks (Some (Element b block op)) h = stands_at v a op block blocks (slice_get blocks block) refl h
found_stands v a blocks (Some (Made block op)) h = absurd (false≢true h)
found_stands v a blocks (Some (Given b place)) h = absurd (false≢true h)

shown_by : (ts : List (Option Origin)) (g : Graph) (a : ℕ) (p : Operand) → is_shown_by ts g a p ≡ true → is_placed_by g a p ≡ true
shown_by ts g a (Held v) h = found_stands v a g.blocks (noted ts v) h
shown_by ts g a (Number n) h = h
shown_by ts g a Stack h = h

shown_placed : (ts : List (Option Origin)) (g : Graph) (a : ℕ) (p : Operand) → is_shown_place ts g a p ≡ true → is_placed g a p ≡ true
shown_placed ts g a (Held v) h = shown_by ts g a (Held v) h
shown_placed ts g a (Number n) h = refl
shown_placed ts g a Stack h = h

not_or_of : (a b c : Bool) → (b ≡ true → c ≡ true) → (not a || b) ≡ true → (not a || c) ≡ true
not_or_of true b c f h = f h
not_or_of false b c f h = refl

shown_access : (ts : List (Option Origin)) (g : Graph) (a : ℕ) (p : Operand) → is_shown_access ts g a p ≡ true → is_placed_in g a p ≡ true
shown_access ts g a p h =
    let (l, r) = and_parts _ _ h in
    both_true
    (not_or_of (is_local g.arrays a) (is_shown_place ts g a p) (is_placed g a p) (λ k. shown_placed ts g a p k) l)
    (not_or_of (is_handed g.arrays a) (is_shown_by ts g a p) (is_placed_by g a p) (λ k. shown_by ts g a p k) r)

accesses : (ts : List (Option Origin)) (g : Graph) (op : Op) → is_origin ts g op ≡ true → is_access_placed g op ≡ true
accesses ts g (Load v a p dismissible) h = shown_access ts g a p h
accesses ts g (Store a p x) h = shown_access ts g a p h
accesses ts g op h = refl

-- ---- a graph

-- what a table shows of a whole graph
pub record Shows (ts : List (Option Origin)) (g : Graph) : Type 0 where
  pub parameters : list_all (is_parameter_shown ts) g.parameters ≡ true
  pub blocks : list_all (is_shown_block ts g) g.blocks ≡ true
  pub arrays : list_all (is_shown_array ts g) g.arrays ≡ true

pub shows : (ts : List (Option Origin)) (g : Graph) → is_shown ts g ≡ true → Shows ts g
shows ts g h =
    let (abc, d) = and_parts _ _ h in
    let (ab, c) = and_parts _ _ abc in
    record { parameters = (and_parts _ _ ab).1; blocks = c; arrays = d }

-- what it shows of an operation
pub record ShownOp (ts : List (Option Origin)) (g : Graph) (op : Op) : Type 0 where
  pub keeps : keeps_origins ts op ≡ true
  pub origin : is_origin ts g op ≡ true

shown_op : (ts : List (Option Origin)) (g : Graph) (op : Op) → is_shown_in ts g op ≡ true → ShownOp ts g op
shown_op ts g op h = let (abc, d) = and_parts _ _ h in record { keeps = (and_parts _ _ abc).1; origin = d }

pub op_in : (ts : List (Option Origin)) (g : Graph) (block : Block) (op : Op) → is_shown_block ts g block ≡ true → IsIn op block.ops → ShownOp ts g op
op_in ts g block op h m = shown_op ts g op (all_in (is_shown_in ts g) block.ops op (and_parts _ _ (and_parts _ _ h).0).0 m)

pub exit_in : (ts : List (Option Origin)) (g : Graph) (block : Block) → is_shown_block ts g block ≡ true → leaves_origins ts g block.exit ≡ true
exit_in ts g block h = (and_parts _ _ h).1

block_kept : (ts : List (Option Origin)) (g : Graph) (v a : ℕ) (block : Block) → is_array ts a v ≡ true → is_shown_block ts g block ≡ true → block_keeps v a block ≡ true
block_kept ts g v a block h k = both_true
    (all_of (keeps_place v a) block.ops (λ op m. keeps ts v a op h (op_in ts g block op k m).keeps))
    (leaves ts g v a block.exit h (exit_in ts g block k))

parameter_kept : (ts : List (Option Origin)) (v a p : ℕ) → is_array ts a v ≡ true → is_parameter_shown ts p ≡ true → not (p == v) ≡ true
parameter_kept ts v a p h k = elim (or_parts (is_free ts p) (is_given_at ts p) k) [ inl f ↦ other ts v p (as_place ts v a h) f | inr f ↦ other_place ts v p a h (inr f) ]

value_kept : (ts : List (Option Origin)) (g : Graph) (v a : ℕ) → Shows ts g → is_array ts a v ≡ true → is_only_place g v a ≡ true
value_kept ts g v a s h = both_true
    (all_of (λ p. not (p == v)) g.parameters (λ p m. parameter_kept ts v a p h (all_in (is_parameter_shown ts) g.parameters p s.parameters m)))
    (all_of (block_keeps v a) g.blocks (λ block m. block_kept ts g v a block h (all_in (is_shown_block ts g) g.blocks block s.blocks m)))

block_keeps_it : (ts : List (Option Origin)) (g : Graph) (v : ℕ) (block : Block) → IsBaseNoted ts v → is_shown_block ts g block ≡ true → block_keeps_base v block ≡ true
block_keeps_it ts g v block h k = both_true
    (all_of (keeps_base v) block.ops (λ op m. keeps_as_base ts v op h (op_in ts g block op k m).keeps))
    (leaves_as_base ts g v block.exit h (exit_in ts g block k))

base_kept : (ts : List (Option Origin)) (g : Graph) (v : ℕ) → Shows ts g → IsBaseNoted ts v → list_all (block_keeps_base v) g.blocks ≡ true
base_kept ts g v s h = all_of (block_keeps_base v) g.blocks (λ block m. block_keeps_it ts g v block h (all_in (is_shown_block ts g) g.blocks block s.blocks m))

-- a base that is made is no parameter
no_parameter : (ts : List (Option Origin)) (g : Graph) (v : ℕ) → Shows ts g → is_made ts v ≡ true → is_parameter g v ≡ true → ⊥
no_parameter ts g v s h k =
    let found = any_in (λ p. p == v) g.parameters k in
    let shown : is_parameter_shown ts v ≡ true = subst (λ p. is_parameter_shown ts p ≡ true) (eqb-true found.item v found.holds) (all_in (is_parameter_shown ts) g.parameters found.item s.parameters found.has) in
    elim (or_parts (is_free ts v) (is_given_at ts v) shown) [ inl f ↦ made_something (noted ts v) h f | inr f ↦ not_made (noted ts v) h f ]

kept : (ts : List (Option Origin)) (g : Graph) (op : Op) → Shows ts g → ShownOp ts g op → is_kept g op ≡ true
kept ts g (Place v a i) s h = not_or_of (is_local g.arrays a) (is_array ts a v) (is_only_place g v a) (λ k. value_kept ts g v a s k) h.origin
kept ts g (PlaceIn v a u i) s h = value_kept ts g v a s (and_parts _ _ (and_parts _ _ h.keeps).0).0
kept ts g (Base v a x) s h = both_true (not_of (is_parameter g v) (no_parameter ts g v s h.keeps)) (base_kept ts g v s (inl h.keeps))
kept ts g op s h = refl

sound_in : (ts : List (Option Origin)) (g : Graph) (op : Op) → Shows ts g → is_shown_in ts g op ≡ true → is_sound_in g op ≡ true
sound_in ts g op s h =
    let o = shown_op ts g op h in
    both_true (both_true (and_parts _ _ (and_parts _ _ h).0).0 (kept ts g op s o)) (accesses ts g op o.origin)

sound_block : (ts : List (Option Origin)) (g : Graph) (block : Block) → Shows ts g → is_shown_block ts g block ≡ true → is_sound_block g block ≡ true
sound_block ts g block s h =
    let (ab, c) = and_parts _ _ h in
    let (ops, exit) = and_parts _ _ ab in
    both_true (all_of (is_sound_in g) block.ops (λ op m. sound_in ts g op s (all_in (is_shown_in ts g) block.ops op ops m))) exit

-- the base of an array that was handed over is the parameter that is noted
given_parameter : (g : Graph) (v : ℕ) (o : Option Origin) → is_given_one o ≡ true → is_base_found g v o ≡ true → is_parameter g v ≡ true
given_parameter g v None h k = absurd (false≢true h)
given_parameter g v (Some (Element a block op)) h k = absurd (false≢true h)
given_parameter g v (Some (Made block op)) h k = absurd (false≢true h)
given_parameter g v (Some (Given a place)) h k = by (slice_get g.parameters place) refl (and_parts _ _ k).1
  where
    by : (o : Option ℕ) → slice_get g.parameters place ≡ o → is_that v o ≡ true → is_parameter g v ≡ true
    by None e f = absurd (false≢true f)
    by (Some u) e f = any_at (λ p. p == v) g.parameters place u e f

handed_well : (ts : List (Option Origin)) (g : Graph) (array : Array) (o : Option ℕ) → Shows ts g → is_shown_base ts g array o ≡ true → is_handed_well g array o ≡ true
handed_well ts g array None s h = refl
handed_well ts g array (Some v) s h =
    let (abc, found) = and_parts _ _ h in
    let (ab, is) = and_parts _ _ abc in
    both_true (both_true ab (given_parameter g v (noted ts v) is found)) (base_kept ts g v s (inr is))

pub shown_sound : (ts : List (Option Origin)) (g : Graph) → is_shown ts g ≡ true → is_sound g ≡ true
shown_sound ts g h =
    let (ab, c) = and_parts _ _ (and_parts _ _ h).0 in
    let s = shows ts g h in
    both_true (both_true (and_parts _ _ ab).0
    (all_of (is_sound_block g) g.blocks (λ block m. sound_block ts g block s (all_in (is_shown_block ts g) g.blocks block s.blocks m))))
    (all_of (is_array_kept g) g.arrays (λ array m. handed_well ts g array array.base s (all_in (is_shown_array ts g) g.arrays array s.arrays m)))
