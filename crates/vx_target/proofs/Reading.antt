-- What the operation that carries one reads: operands, tests, and addresses of words of arrays.
use Rattle.std.proofs.Common.{◌≡◌, ◌<◌, inl, ◌+◌, ◌*◌, ◌/◌, ◌%◌, ◌^◌, ℕ, ℤ, pos, negsuc, Bool, true, false, ◌&&◌, eqb, ltb, cond, Option, Some, None, List, [], ◌∷◌, ◌++◌, refl, sym, ap, ◌∙◌, subst, arith}
use Rattle.std.specs.Prelude.{if◌then◌else◌, ◌==◌, nat_lt}
use Rattle.std.proofs.lemmas.Bool.{eqb-true, ltb-true, and_parts}
use Rattle.std.proofs.lemmas.Nat.{div-add-mod'}
use Rattle.vx_base.specs.Arithmetic.{sum_of, unsigned}
use Rattle.vx_flow.specs.declared.graph.Operand.{Operand}
use Rattle.vx_flow.specs.declared.graph.Operand.TheVariants.{Held, Number, Stack}
use Rattle.vx_flow.specs.Effects.{Content, State as VState, IsIn, held, cell_in, value_in}
use Rattle.vx_flow.specs.Sound.{is_given, base_at}
use Rattle.vx_flow.proofs.Members.{in_left, in_right}
use Rattle.vx_isa.specs.declared.operation.Register.TheVariants.{General, Branch}
use Rattle.vx_isa.specs.Machine.{State, register, source, address}
use Rattle.vx_target.specs.Target.{Target, general_of, branch_of, register_of, holds_branch, is_own, is_handed, zero_on, stack_on, base_of, offset_of, source_of, access_base, access_offset, bytes}
use Rattle.vx_target.specs.Tied.{Kind, Itself, InFrame, InHanded, Seating, IsShown, Shows, kind_of, kind_in, begins_at}
use Rattle.vx_target.proofs.Bytes.{address_is, address_then, address_of_sum}
use Rattle.vx_target.proofs.ValueKinds.{handed_not_local}
use Rattle.vx_target.proofs.Proper.{itself, PlainOperand, IsPlacedIn}

-- the word of an array that a place is
pub record CellKnown (words : ℕ) (x : Content) (i : ℕ) : Type 0 where
  pub is : x ≡ Some (pos (4 * i))
  pub below : i < words

cell_cond : (words p i : ℕ) (b : Bool) → ((p % 4 == 0) && nat_lt (p / 4) words) ≡ b → cond b (Some (p / 4)) None ≡ Some i → CellKnown words (Some (pos p)) i
cell_cond words p i true t e =
    let q : p / 4 ≡ i = cc in
    let parts = and_parts (eqb (p % 4) 0) (ltb (p / 4) words) t in
    let m : p % 4 ≡ 0 = eqb-true (p % 4) 0 parts.0 in
    let d : p ≡ 4 * (p / 4) = omega (arith, div-add-mod' p 4) in
    record { is = ap (λ k. Some (pos k)) (d ∙ ap (λ k. 4 * k) q); below = subst (λ k. k < words) q (ltb-true (p / 4) words parts.1) }
cell_cond words p i false t e = absurd (cc)

pub cell_known : (words : ℕ) (x : Content) (i : ℕ) → cell_in words x ≡ Some i → CellKnown words x i
cell_known words None i e = absurd (cc)
cell_known words (Some (negsuc n)) i e = absurd (cc)
cell_known words (Some (pos p)) i e = cell_cond words p i _ refl e

-- an array that was handed over is no local one
pub handed_not_own : (T : Target) (f a : ℕ) → is_handed T f a ≡ true → is_own T f a ≡ false
handed_not_own T f a e = by (base_at (T.graph f).arrays a) refl
  where
    by : (o : Option ℕ) → base_at (T.graph f).arrays a ≡ o → is_own T f a ≡ false
    by None q = absurd (let z : true ≡ false = sym e ∙ ap is_given q in cc)
    by (Some u) q = handed_not_local (T.graph f).arrays a u q

module _ (T : Target) (f : ℕ) (here : Seating) (IsArray : ℕ → Type 0) (rs : List ℕ) (s : VState) (u : State) where
  -- the values that are read stand where the word reads them
  abbrev pub Right : List ℕ → Type 0
  Right vs = (v : ℕ) (n : ℤ) → IsIn v vs → s.values v ≡ Some n → Shows T here f v n (register u (register_of T f rs v))

  pub right_left : (xs ys : List ℕ) → Right (xs ++ ys) → Right xs
  right_left xs ys h v n i e = h v n (in_left v xs ys i) e

  pub right_right : (xs ys : List ℕ) → Right (xs ++ ys) → Right ys
  right_right xs ys h v n i e = h v n (in_right v xs ys i) e

  pub as_general : (v : ℕ) → holds_branch T f v ≡ false → register_of T f rs v ≡ General (general_of T f rs v)
  as_general v e = ap (λ b. if b then Branch (record { cluster = 0; number = branch_of T f rs v }) else General (general_of T f rs v)) e

  pub as_branch : (v : ℕ) → holds_branch T f v ≡ true → register_of T f rs v ≡ Branch (record { cluster = 0; number = branch_of T f rs v })
  as_branch v e = ap (λ b. if b then Branch (record { cluster = 0; number = branch_of T f rs v }) else General (general_of T f rs v)) e

  -- a general value, of whatever kind
  pub general_read : (v : ℕ) (n : ℤ) (kind : Kind) → Right (v ∷ []) → kind_of T f v ≡ kind → holds_branch T f v ≡ false → s.values v ≡ Some n → IsShown (T.graph f).arrays here kind n (register u (General (general_of T f rs v)))
  general_read v n kind right k b e = subst (λ c. IsShown (T.graph f).arrays here c n (register u (General (general_of T f rs v)))) k (subst (λ q. IsShown (T.graph f).arrays here (kind_of T f v) n (register u q)) (as_general v b) (right v n (inl refl) e).is)

  pub operand_read : (a : Operand) (n : ℤ) → Right (value_in a) → PlainOperand T f IsArray a → held s a ≡ Some n → source u (source_of (general_of T f rs) a) ≡ n
  operand_read (Held v) n right plain e = general_read v n Itself right plain.0 plain.1 e
  operand_read (Number z) n right plain e = cc
  operand_read Stack n right plain e = absurd plain

  pub test_read : (p : ℕ) (n : ℤ) → Right (p ∷ []) → kind_of T f p ≡ Itself → holds_branch T f p ≡ true → s.values p ≡ Some n → register u (Branch (record { cluster = 0; number = branch_of T f rs p })) ≡ n
  test_read p n right l b e = ap (register u) (sym (as_branch p b)) ∙ itself (right p n (inl refl) e) l

  module _ (stack : (k : ℕ) → k < T.machine.clusters → register u (General (stack_on k)) ≡ pos (4 * here.frame)) where
    pub base_read : (k a : ℕ) → k < T.machine.clusters → (own : Bool) → is_own T f a ≡ own → register u (General (base_of T f k a)) ≡ (if own then pos (4 * here.frame) else pos 0)
    base_read k a lt true e = ap (λ b. register u (General (if b then stack_on k else zero_on k))) e ∙ stack k lt
    base_read k a lt false e = ap (λ b. register u (General (if b then stack_on k else zero_on k))) e

    abbrev pub begins_by : ℕ → Bool → ℕ
    begins_by a own = if own then here.frame + T.array_at f a else T.array_at f a

    abbrev offset_by : ℕ → Bool → ℕ
    offset_by a handed = if handed then 0 else T.array_at f a

    -- the address of a word of an array that was not handed over
    pub address_read : (k a i words : ℕ) (p : Operand) → Right (value_in p) → IsPlacedIn T f IsArray a p → is_handed T f a ≡ false → k < T.machine.clusters → cell_in words (held s p) ≡ Some i → 4 * (begins_at T here.frame f a + i) < 2 ^ 32 → address u (access_base T f (general_of T f rs) k a p) (access_offset T f a p) ≡ 4 * (begins_at T here.frame f a + i)
    address_read k a i words p right place bare lt cell small = by_kind (is_own T f a) refl p right place cell
      where
        offset : offset_of T f a ≡ T.array_at f a
        offset = ap (offset_by a) bare

        kind_is : (own : Bool) → is_own T f a ≡ own → kind_in T f a ≡ (if own then InFrame else Itself)
        kind_is own o = ap (λ b. if b then InFrame else if is_handed T f a then InHanded a else Itself) o ∙ ap (λ b. if own then InFrame else if b then InHanded a else Itself) bare

        by_kind : (own : Bool) → is_own T f a ≡ own → (p : Operand) → Right (value_in p) → IsPlacedIn T f IsArray a p → cell_in words (held s p) ≡ Some i → address u (access_base T f (general_of T f rs) k a p) (access_offset T f a p) ≡ 4 * (begins_at T here.frame f a + i)
        by_kind true o (Held v) right place cell =
            let c = cell_known words (s.values v) i cell in
            let b : begins_at T here.frame f a ≡ here.frame + T.array_at f a = ap (begins_by a) o in
            let r = general_read v (pos (4 * i)) InFrame right (place.0 ∙ kind_is true o) place.1 c.is in
            ap (λ y. unsigned (sum_of (register u (General (general_of T f rs v))) (bytes y))) offset
            ∙ ap (λ z. unsigned (sum_of z (bytes (T.array_at f a)))) r ∙ address_then (4 * i) (4 * here.frame) (4 * T.array_at f a) (omega arith) ∙ omega arith
        by_kind false o (Held v) right place cell =
            let c = cell_known words (s.values v) i cell in
            let b : begins_at T here.frame f a ≡ T.array_at f a = ap (begins_by a) o in
            let r = general_read v (pos (4 * i)) Itself right (place.0 ∙ kind_is false o) place.1 c.is in
            ap (λ y. unsigned (sum_of (register u (General (general_of T f rs v))) (bytes y))) offset
            ∙ ap (λ z. unsigned (sum_of z (bytes (T.array_at f a)))) r ∙ address_is (4 * i) (4 * T.array_at f a) (omega arith) ∙ omega arith
        by_kind true o (Number z) right place cell =
            let c = cell_known words (Some z) i cell in
            let n : z ≡ pos (4 * i) = cc in
            let b : begins_at T here.frame f a ≡ here.frame + T.array_at f a = ap (begins_by a) o in
            ap (λ y. unsigned (sum_of (register u (General (base_of T f k a))) (sum_of (bytes y) z))) offset
            ∙ ap (λ y. unsigned (sum_of y (sum_of (bytes (T.array_at f a)) z))) (base_read k a lt true o)
            ∙ ap (λ y. unsigned (sum_of (pos (4 * here.frame)) (sum_of (bytes (T.array_at f a)) y))) n ∙ address_of_sum (4 * here.frame) (4 * T.array_at f a) (4 * i) (omega arith) ∙ omega arith
        by_kind false o (Number z) right place cell =
            let c = cell_known words (Some z) i cell in
            let n : z ≡ pos (4 * i) = cc in
            let b : begins_at T here.frame f a ≡ T.array_at f a = ap (begins_by a) o in
            ap (λ y. unsigned (sum_of (register u (General (base_of T f k a))) (sum_of (bytes y) z))) offset
            ∙ ap (λ y. unsigned (sum_of y (sum_of (bytes (T.array_at f a)) z))) (base_read k a lt false o)
            ∙ ap (λ y. unsigned (sum_of (pos 0) (sum_of (bytes (T.array_at f a)) y))) n ∙ address_of_sum 0 (4 * T.array_at f a) (4 * i) (omega arith) ∙ omega arith
        by_kind own o Stack right place cell = absurd place

  -- the address of a word of one that was: its place is that address
  pub handed_read : (k a i words : ℕ) (p : Operand) → Right (value_in p) → IsPlacedIn T f IsArray a p → is_handed T f a ≡ true → cell_in words (held s p) ≡ Some i → 4 * (here.seats (here.spot a) + i) < 2 ^ 32 → address u (access_base T f (general_of T f rs) k a p) (access_offset T f a p) ≡ 4 * (here.seats (here.spot a) + i)
  handed_read k a i words (Held v) right place handed cell small =
      let c = cell_known words (s.values v) i cell in
      let r = general_read v (pos (4 * i)) (InHanded a) right (place.0 ∙ kind_handed) place.1 c.is in
      ap (λ y. unsigned (sum_of (register u (General (general_of T f rs v))) (bytes y))) (ap (λ b. if b then 0 else T.array_at f a) handed)
      ∙ ap (λ z. unsigned (sum_of z (bytes 0))) r.1 ∙ address_then (4 * i) (4 * here.seats (here.spot a)) 0 (omega arith) ∙ omega arith
    where
      kind_handed : kind_in T f a ≡ InHanded a
      kind_handed = ap (λ b. if b then InFrame else if is_handed T f a then InHanded a else Itself) (handed_not_own T f a handed) ∙ ap (λ b. if b then InHanded a else Itself) handed
  handed_read k a i words (Number z) right place handed cell small = absurd (let y : true ≡ false = sym handed ∙ place in cc)
  handed_read k a i words Stack right place handed cell small = absurd place
