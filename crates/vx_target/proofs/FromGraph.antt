-- Operations of a layout that has the code of a sound graph name each value where it may stand.
use Rattle.std.proofs.Common.{◌≡◌, ◌<◌, inl, inr, ⊎_elim, ◌%◌, ◌&&◌, not, ℕ, zero, suc, pos, Bool, true, false, Option, Some, None, List, [], ◌∷◌, ◌++◌, length, refl, sym, ap, ◌∙◌, subst, arith}
use Rattle.std.specs.Prelude.{if◌then◌else◌, slice_get}
use Rattle.std.proofs.Math.Nat.{mod-eq_of_lt, mul-add-mod_self_right}
use Rattle.vx_base.specs.declared.arithmetic.Code.{Code}
use Rattle.vx_base.specs.declared.arithmetic.Code.TheVariants.{Add}
use Rattle.vx_flow.specs.declared.graph.Array.{Array}
use Rattle.vx_flow.specs.declared.graph.Bank.{Bank}
use Rattle.vx_flow.specs.declared.graph.Bank.TheVariants.{General, Branch}
use Rattle.vx_flow.specs.declared.graph.Operand.{Operand}
use Rattle.vx_flow.specs.declared.graph.Operand.TheVariants.{Held, Number, Stack}
use Rattle.vx_flow.specs.declared.graph.Op.{Op}
use Rattle.vx_flow.specs.declared.graph.Op.TheVariants.{Compute, Select, Place, Load, Store, More, Input, Text, Decimal, Across, Base, PlaceIn}
use Rattle.vx_flow.specs.Effects.{IsIn, is_unary, dismissed, value_in, reads, writes}
use Rattle.vx_flow.specs.Sound.{HasOperation, operands_of, bank_written, IsAccess, loads, stores, Has, MakesPlace, by_itself, by_base, IsPlace, in_own, in_handed, ReadAsPlace, IsBase, given, made, IsMadeFrom, Sound, is_given, is_own as is_own_or_none, base_of, base_at, HasExit}
use Rattle.vx_flow.specs.declared.graph.Exit.TheVariants.{Split as Branches}
use Rattle.vx_flow.proofs.Members.{in_left, in_right}
use Rattle.vx_flow.proofs.OperandLaws.{first_operand_in, second_operand_in}
use Rattle.vx_flow.proofs.SoundBases.{WrittenAsBase, ReadAsBase}
use Rattle.vx_flow.proofs.SoundLaw.{place_general, base_general}
use Rattle.vx_mixed.specs.LaidSettled.{bank_in}
use Rattle.vx_layout.specs.Origins.{whole, whole_operand, whole_op, copy_of, ComesFrom, graph_op, copy, LaidFromGraph}
use Rattle.vx_target.specs.Target.{Target, is_branch, is_own, is_handed, holds_branch}
use Rattle.vx_target.specs.Tied.{Itself, InFrame, InHanded, AsBase, value_kind, kind_of, kind_in}
use Rattle.vx_target.proofs.Forms.{to_branch}
use Rattle.vx_target.proofs.ValueKinds.{plain_value, base_value, handed_value, place_kind}
use Rattle.vx_target.proofs.Proper.{PlainValue, PlainOperand, IsPlacedIn, ProperOp}

-- forms

abbrev is_load : Op → Bool
is_load (Load v a p d) = true
is_load op = false

pub undismissed : (op origin : Op) → is_load op ≡ false → op ≡ dismissed origin → origin ≡ op
undismissed op (Load v a p d) e h = absurd (let q : is_load op ≡ true = ap is_load h in let z : true ≡ false = sym q ∙ e in cc)
undismissed op o e h = sym h

load_origin : (v a : ℕ) (p : Operand) (origin : Op) → Load v a p true ≡ dismissed origin → (d : Bool) × (origin ≡ Load v a p d)
load_origin v a p (Load u b q d) h = (d, cc)
load_origin v a p op h = absurd cc

bank_code : (code : Code) (v : ℕ) (a b : Operand) → is_branch (Some (bank_written (Compute code v a b))) ≡ to_branch code
bank_code Add v a b = refl
bank_code code v a b = refl

first_read : (code : Code) (v y : ℕ) (a b : Operand) → IsIn y (value_in a) → IsIn y (reads (Compute code v a b))
first_read code v y a b i = by (is_unary code)
  where
    by : (c : Bool) → IsIn y (if c then value_in a else value_in a ++ value_in b)
    by true = i
    by false = in_left y (value_in a) (value_in b) i

second_read : (code : Code) (v y : ℕ) (a b : Operand) → is_unary code ≡ false → IsIn y (value_in b) → IsIn y (reads (Compute code v a b))
second_read code v y a b e i = subst (λ c. IsIn y (if c then value_in a else value_in a ++ value_in b)) (sym e) (in_right y (value_in a) (value_in b) i)

abbrev is_access : Op → Bool
is_access (Load v a p d) = true
is_access (Store a p x) = true
is_access op = false

access_told : (a : ℕ) (p : Operand) (op : Op) → IsAccess a p op → is_access op ≡ true
access_told a p op loads = refl
access_told a p op stores = refl

no_access : (a : ℕ) (p : Operand) (op : Op) → is_access op ≡ false → IsAccess a p op → ⊥
no_access a p op e k = let z : true ≡ false = sym (access_told a p op k) ∙ e in absurd (cc)

load_parts : (a b v : ℕ) (p q : Operand) (d : Bool) → IsAccess a p (Load v b q d) → (b ≡ a) × (q ≡ p)
load_parts a b v p q d loads = (refl, refl)

store_parts : (a b : ℕ) (p q x : Operand) → IsAccess a p (Store b q x) → (b ≡ a) × (q ≡ p)
store_parts a b p q x stores = (refl, refl)

-- an operation that makes a place is one of two forms

abbrev is_placing : Op → Bool
is_placing (Place v a i) = true
is_placing (PlaceIn v a u i) = true
is_placing op = false

placing_told : (v a : ℕ) (op : Op) → MakesPlace v a op → is_placing op ≡ true
placing_told v a op by_itself = refl
placing_told v a op by_base = refl

no_placing : (v a : ℕ) (op : Op) → is_placing op ≡ false → MakesPlace v a op → ⊥
no_placing v a op e m = absurd (let z : true ≡ false = sym (placing_told v a op m) ∙ e in cc)

placed_array : (v w a b : ℕ) (i : Operand) → MakesPlace v a (Place w b i) → b ≡ a
placed_array v w a b i by_itself = refl

get_below : {A : Type 0} (xs : List A) (i : ℕ) (x : A) → slice_get xs i ≡ Some x → i < length xs
get_below [] i x e = absurd (cc)
get_below (y ∷ ys) zero x e = omega arith
get_below (y ∷ ys) (suc i) x e = let h = get_below ys i x e in omega arith

module _ (T : Target) (f : ℕ) (IsArray : ℕ → Type 0) (sound : Sound (T.graph f)) (code : LaidFromGraph (T.graph f) (T.layout f)) where
  abbrev Count : ℕ
  Count = length (T.graph f).banks

  abbrev Whole : ℕ → ℕ
  Whole v = whole Count v

  -- the bank of a value is that of its whole
  pub whole_bank : (v : ℕ) (b : Bank) → Has (T.graph f) (Whole v) b → bank_in (T.layout f) v ≡ Some b
  whole_bank v b h = ap (λ bs. slice_get bs (v % length bs)) code.banks ∙ h

  holds_is : (v : ℕ) (b : Bank) → Has (T.graph f) (Whole v) b → holds_branch T f v ≡ is_branch (Some b)
  holds_is v b h = ap is_branch (whole_bank v b h)

  -- kinds

  -- a value that is no place and no base
  pub plain_kind : (v : ℕ) → ((a : ℕ) → IsPlace (T.graph f) (Whole v) a → ⊥) → (IsBase (T.graph f) (Whole v) → ⊥) → kind_of T f v ≡ Itself
  plain_kind v h k = plain_value (T.graph f) sound (Whole v) h k

  pub base_kind : (v : ℕ) → IsBase (T.graph f) (Whole v) → kind_of T f v ≡ AsBase (Whole v)
  base_kind v b = base_value (T.graph f) sound (Whole v) b

  place_is : (v a : ℕ) → IsPlace (T.graph f) (Whole v) a → kind_of T f v ≡ kind_in T f a
  place_is v a p = place_kind (T.graph f) sound (Whole v) a p

  pub branch_plain : (v : ℕ) → holds_branch T f v ≡ true → kind_of T f v ≡ Itself
  branch_plain v e = plain_kind v (λ a p. general (place_general (T.graph f) (Whole v) a sound p)) (λ b. general (base_general (T.graph f) (Whole v) sound b))
    where
      general : Has (T.graph f) (Whole v) General → ⊥
      general h = absurd (let z : true ≡ false = sym e ∙ holds_is v General h in cc)

  -- an operation that is no access reads no place, and one that makes no place reads no base
  plain_read : (v : ℕ) (origin : Op) → HasOperation (T.graph f) origin → IsIn (Held (Whole v)) (operands_of origin) → IsIn (Whole v) (reads origin) → ((a : ℕ) → ReadAsPlace (Whole v) a origin → ⊥) → (ReadAsBase (Whole v) origin → ⊥) → PlainValue T f IsArray v
  plain_read v origin has o r h k = (plain_kind v (λ a p. h a (sound.place_read (Whole v) a origin p has r)) (λ b. k (sound.base_read (Whole v) origin b has r)), holds_is v General (sound.operands origin (Held (Whole v)) has o))

  plain_operand : (x : Operand) (origin : Op) → HasOperation (T.graph f) origin → IsIn (whole_operand Count x) (operands_of origin) → ((y : ℕ) → x ≡ Held y → IsIn (Whole y) (reads origin)) → ((y a : ℕ) → x ≡ Held y → ReadAsPlace (Whole y) a origin → ⊥) → ((y : ℕ) → x ≡ Held y → ReadAsBase (Whole y) origin → ⊥) → PlainOperand T f IsArray x
  plain_operand (Held y) origin has o r h k = plain_read y origin has o (r y refl) (λ a z. h y a refl z) (k y refl)
  plain_operand (Number n) origin has o r h k = tt
  plain_operand Stack origin has o r h k = sound.operands origin Stack has o

  written_bank : (v : ℕ) (origin : Op) → HasOperation (T.graph f) origin → IsIn (Whole v) (writes origin) → holds_branch T f v ≡ is_branch (Some (bank_written origin))
  written_bank v origin has i = holds_is v (bank_written origin) (sound.results origin (Whole v) has i)

  held_in : (x : Operand) (y : ℕ) → x ≡ Held y → IsIn (Whole y) (value_in (whole_operand Count x))
  held_in x y e = subst (λ z. IsIn (Whole y) (value_in (whole_operand Count z))) (sym e) (inl refl)

  -- an operation that makes neither writes a value of its own
  no_written : (v : ℕ) (op : Op) → HasOperation (T.graph f) op → IsIn (Whole v) (writes op) → is_placing op ≡ false → (WrittenAsBase (Whole v) op → ⊥) → kind_of T f v ≡ Itself
  no_written v op has i e k = plain_kind v (λ a p. no_placing (Whole v) a op e (sound.place_written (Whole v) a op p has i)) (λ b. k (sound.base_written (Whole v) op b has i))

  -- an array that is not local and was not handed over has no places of a kind of their own

  kind_bare : (a : ℕ) → is_own T f a ≡ false → base_at (T.graph f).arrays a ≡ None → kind_in T f a ≡ Itself
  kind_bare a e b = ap (λ t. if t then InFrame else if is_handed T f a then InHanded a else Itself) e ∙ ap (λ o. if is_given o then InHanded a else Itself) b

  no_place_in : (v a : ℕ) → is_own T f a ≡ false → base_at (T.graph f).arrays a ≡ None → IsPlace (T.graph f) (Whole v) a → ⊥
  no_place_in v a e b (in_own i has local) = absurd (let z : true ≡ false = sym local ∙ e in cc)
  no_place_in v a e b (in_handed u i has) = absurd (let z : Some u ≡ None = sym (sound.place_base (Whole v) a u i has) ∙ b in cc)

  -- a base of an array that was handed over is a parameter
  given_parameter : (a v : ℕ) → base_at (T.graph f).arrays a ≡ Some v → IsIn v (T.graph f).parameters
  given_parameter a v e = by (slice_get (T.graph f).arrays a) refl e
    where
      by : (o : Option Array) → slice_get (T.graph f).arrays a ≡ o → base_of o ≡ Some v → IsIn v (T.graph f).parameters
      by None q h = absurd (cc)
      by (Some array) q h = (sound.handed a v array q h).2

  -- an access is at a place in its array, which is a number only where the array was not handed over
  place_in : (a : ℕ) (x : Operand) (op : Op) → HasOperation (T.graph f) op → IsAccess a (whole_operand Count x) op → ((y : ℕ) → x ≡ Held y → IsIn (Held (Whole y)) (operands_of op) × IsIn (Whole y) (reads op)) → ((b : ℕ) (q : Operand) → IsAccess b q op → b ≡ a) → IsIn (whole_operand Count x) (operands_of op) → IsPlacedIn T f IsArray a x
  place_in a (Number n) op has k r one o = by (base_at (T.graph f).arrays a) refl
    where
      by : (b : Option ℕ) → base_at (T.graph f).arrays a ≡ b → is_handed T f a ≡ false
      by None e = ap is_given e
      by (Some u) e = absurd (let q = sound.placed_by a u (Number n) op has k e in let z : Number n ≡ Held q.0 = q.1 in cc)
  place_in a Stack op has k r one o = sound.operands op Stack has o
  place_in a (Held y) op has k r one o = (by (is_own T f a) refl, holds_is y General (sound.operands op (Held (Whole y)) has o))
    where
      held_same : (v : ℕ) → Held (Whole y) ≡ Held v → Whole y ≡ v
      held_same v e = cc

      at_place : (v : ℕ) → Held (Whole y) ≡ Held v → IsPlace (T.graph f) v a → kind_of T f y ≡ kind_in T f a
      at_place v e p = place_is y a (subst (λ w. IsPlace (T.graph f) w a) (sym (held_same v e)) p)

      by_handed : is_own T f a ≡ false → (b : Option ℕ) → base_at (T.graph f).arrays a ≡ b → kind_of T f y ≡ kind_in T f a
      by_handed e (Some u) b = let q = sound.placed_by a u (Held (Whole y)) op has k b in at_place q.0 q.1 q.2
      by_handed e None b =
          plain_kind y
          (λ c p. no_place_in y a e b (subst (λ d. IsPlace (T.graph f) (Whole y) d) (one c (Held (Whole y)) (sound.place_read (Whole y) c op p has (r y refl).1).access) p))
          (λ c. no_base (sound.base_read (Whole y) op c has (r y refl).1))
          ∙ sym (kind_bare a e b)
        where
          no_base : ReadAsBase (Whole y) op → ⊥
          no_base q = no_access a (Held (Whole y)) op (ap is_access q.3) k

      by : (b : Bool) → is_own T f a ≡ b → kind_of T f y ≡ kind_in T f a
      by true e = ⊎_elim
          (λ n. absurd (let z : Held (Whole y) ≡ Number n.0 = n.1 in cc))
          (λ q. at_place q.0 q.1 q.2)
          (sound.placed a (Held (Whole y)) op has k e)
      by false e = by_handed e (base_at (T.graph f).arrays a) refl

  module _ (arrays : (a : ℕ) → a < length (T.graph f).arrays → IsArray a) where
    access_of_load : (a b v : ℕ) (p q : Operand) (d : Bool) → IsAccess b q (Load v a p d) → b ≡ a
    access_of_load a b v p q d k = sym (load_parts b a v q p d k).0

    graph_proper : (op : Op) (k : ℕ) → k < T.machine.clusters → (origin : Op) → HasOperation (T.graph f) origin → dismissed (whole_op Count op) ≡ dismissed origin → ProperOp T f IsArray op k
    graph_proper (Compute c v a b) k lt origin has e =
        let g : Op = Compute c (Whole v) (whole_operand Count a) (whole_operand Count b) in
        let h : HasOperation (T.graph f) g = subst (HasOperation (T.graph f)) (undismissed g origin refl e) has in (
          no_written v g h (inl refl) refl (λ q. absurd (let z = q.2 in cc)),
          written_bank v g h (inl refl) ∙ bank_code c (Whole v) (whole_operand Count a) (whole_operand Count b),
          plain_operand a g h (first_operand_in c (Whole v) (whole_operand Count a) (whole_operand Count b)) (λ y q. first_read c (Whole v) (Whole y) (whole_operand Count a) (whole_operand Count b) (held_in a y q)) (λ y x q r. no_access x (Held (Whole y)) g refl r.access) (λ y q r. absurd (let z = r.3 in cc)),
          λ u. plain_operand b g h (second_operand_in c (Whole v) (whole_operand Count a) (whole_operand Count b) u) (λ y q. second_read c (Whole v) (Whole y) (whole_operand Count a) (whole_operand Count b) u (held_in b y q)) (λ y x q r. no_access x (Held (Whole y)) g refl r.access) (λ y q r. absurd (let z = r.3 in cc)),
        )
    graph_proper (Select v p a b) k lt origin has e =
        let g : Op = Select (Whole v) (Whole p) (whole_operand Count a) (whole_operand Count b) in
        let h : HasOperation (T.graph f) g = subst (HasOperation (T.graph f)) (undismissed g origin refl e) has in
        let t : holds_branch T f p ≡ true = holds_is p Branch (sound.tests g (Whole p) h (inl refl)) in (
          (no_written v g h (inl refl) refl (λ q. absurd (let z = q.2 in cc)), written_bank v g h (inl refl)),
          (branch_plain p t, t),
          plain_operand a g h (inl refl) (λ y q. inr (in_left (Whole y) (value_in (whole_operand Count a)) (value_in (whole_operand Count b)) (held_in a y q))) (λ y x q r. no_access x (Held (Whole y)) g refl r.access) (λ y q r. absurd (let z = r.3 in cc)),
          plain_operand b g h (inr (inl refl)) (λ y q. inr (in_right (Whole y) (value_in (whole_operand Count a)) (value_in (whole_operand Count b)) (held_in b y q))) (λ y x q r. no_access x (Held (Whole y)) g refl r.access) (λ y q r. absurd (let z = r.3 in cc)),
        )
    graph_proper (Place v a i) k lt origin has e =
        let g : Op = Place (Whole v) a (whole_operand Count i) in
        let h : HasOperation (T.graph f) g = subst (HasOperation (T.graph f)) (undismissed g origin refl e) has in (
          (by g h refl (is_own T f a) refl, written_bank v g h (inl refl)),
          plain_operand i g h (inl refl) (λ y q. held_in i y q) (λ y x q r. no_access x (Held (Whole y)) g refl r.access) (λ y q r. absurd (let z = r.3 in cc)),
          lt,
          ap is_given (sound.place_bare (Whole v) a (whole_operand Count i) h),
        )
      where
        by : (g : Op) → HasOperation (T.graph f) g → g ≡ Place (Whole v) a (whole_operand Count i) → (b : Bool) → is_own T f a ≡ b → kind_of T f v ≡ kind_in T f a
        by g h eq true q = place_is v a (in_own (whole_operand Count i) (subst (HasOperation (T.graph f)) eq h) q)
        by g h eq false q =
            let it : HasOperation (T.graph f) (Place (Whole v) a (whole_operand Count i)) = subst (HasOperation (T.graph f)) eq h in
            let bare = sound.place_bare (Whole v) a (whole_operand Count i) it in
            plain_kind v
            (λ b p. no_place_in v a q bare (subst (λ c. IsPlace (T.graph f) (Whole v) c) (sym (placed_array (Whole v) (Whole v) b a (whole_operand Count i) (sound.place_written (Whole v) b (Place (Whole v) a (whole_operand Count i)) p it (inl refl)))) p))
            (λ b. let w = sound.base_written (Whole v) (Place (Whole v) a (whole_operand Count i)) b it (inl refl) in absurd (let z = w.2 in cc))
            ∙ sym (kind_bare a q bare)
    graph_proper (Load v a p d) k lt origin has e =
        let o = load_origin (Whole v) a (whole_operand Count p) origin e in
        let g : Op = Load (Whole v) a (whole_operand Count p) o.0 in
        let h : HasOperation (T.graph f) g = subst (HasOperation (T.graph f)) o.1 has in (
          (no_written v g h (inl refl) refl (λ q. absurd (let z = q.2 in cc)), written_bank v g h (inl refl)),
          place_in a p g h loads (λ y q. (inl (ap (whole_operand Count) (sym q)), held_in p y q)) (λ b q k. sym (load_parts b a (Whole v) q (whole_operand Count p) o.0 k).0) (inl refl),
          lt,
          arrays a (sound.arrays g a h (inl refl)),
        )
    graph_proper (Store a p x) k lt origin has e =
        let g : Op = Store a (whole_operand Count p) (whole_operand Count x) in
        let h : HasOperation (T.graph f) g = subst (HasOperation (T.graph f)) (undismissed g origin refl e) has in (
          place_in a p g h stores (λ y q. (inl (ap (whole_operand Count) (sym q)), in_left (Whole y) (value_in (whole_operand Count p)) (value_in (whole_operand Count x)) (held_in p y q))) (λ b q k. sym (store_parts b a q (whole_operand Count p) (whole_operand Count x) k).0) (inl refl),
          plain_operand x g h (inr (inl refl)) (λ y q. in_right (Whole y) (value_in (whole_operand Count p)) (value_in (whole_operand Count x)) (held_in x y q)) (λ y b q r. unstored y b q r) (λ y q r. absurd (let z = r.3 in cc)),
          lt,
          arrays a (sound.arrays g a h (inl refl)),
        )
      where
        unstored : (y b : ℕ) → x ≡ Held y → ReadAsPlace (Whole y) b (Store a (whole_operand Count p) (whole_operand Count x)) → ⊥
        unstored y b q r =
            let parts = store_parts b a (Held (Whole y)) (whole_operand Count p) (whole_operand Count x) r.access in
            r.unstored (whole_operand Count x) (ap (λ c. Store c (whole_operand Count p) (whole_operand Count x)) parts.0 ∙ ap (λ z. Store b z (whole_operand Count x)) parts.1) (ap (whole_operand Count) q)
    graph_proper (More v) k lt origin has e =
        let g : Op = More (Whole v) in
        let h : HasOperation (T.graph f) g = subst (HasOperation (T.graph f)) (undismissed g origin refl e) has in
        (no_written v g h (inl refl) refl (λ q. absurd (let z = q.2 in cc)), written_bank v g h (inl refl))
    graph_proper (Input v) k lt origin has e =
        let g : Op = Input (Whole v) in
        let h : HasOperation (T.graph f) g = subst (HasOperation (T.graph f)) (undismissed g origin refl e) has in
        (no_written v g h (inl refl) refl (λ q. absurd (let z = q.2 in cc)), written_bank v g h (inl refl))
    graph_proper (Text n) k lt origin has e = tt
    graph_proper (Decimal x) k lt origin has e =
        let g : Op = Decimal (whole_operand Count x) in
        let h : HasOperation (T.graph f) g = subst (HasOperation (T.graph f)) (undismissed g origin refl e) has in
        plain_operand x g h (inl refl) (λ y q. held_in x y q) (λ y b q r. no_access b (Held (Whole y)) g refl r.access) (λ y q r. absurd (let z = r.3 in cc))
    graph_proper (Across v u) k lt origin has e =
        let g : Op = Across (Whole v) (Whole u) in
        let h : HasOperation (T.graph f) g = subst (HasOperation (T.graph f)) (undismissed g origin refl e) has in
        absurd (sound.no_across (Whole v) (Whole u) h)
    graph_proper (Base v a x) k lt origin has e =
        let g : Op = Base (Whole v) a x in
        let h : HasOperation (T.graph f) g = subst (HasOperation (T.graph f)) (undismissed g origin refl e) has in
        let m = sound.base_from (Whole v) a x h in
        record {
          value = Whole v;
          kind = base_kind v (made a x h);
          made = λ b q. sound.base_parameter (Whole v) a x h (given_parameter b (Whole v) q);
          general = written_bank v g h (inl refl);
          below = lt;
          from = made_from m m.array.global refl;
          array = arrays a (sound.arrays g a h (inl refl));
          bare = ap base_of m.is ∙ m.bare;
        }
      where
        made_from : (m : IsMadeFrom (T.graph f) a x) → (b : Bool) → m.array.global ≡ b → x ≡ (if is_own T f a then Stack else Number (pos 0))
        made_from m b q = m.from ∙ ap (λ t. if t then Number (pos 0) else Stack) q ∙ turned b ∙ ap (λ t. if t then Stack else Number (pos 0)) (sym own)
          where
            turned : (t : Bool) → (if t then Number (pos 0) else Stack) ≡ (if not t then Stack else Number (pos 0))
            turned true = refl
            turned false = refl

            also : (t : Bool) → (t && true) ≡ t
            also true = refl
            also false = refl

            own : is_own T f a ≡ not b
            own = ap is_own_or_none m.is ∙ ap (λ o. not m.array.global && not (is_given o)) m.bare ∙ also (not m.array.global) ∙ ap not q
    graph_proper (PlaceIn v a u i) k lt origin has e =
        let g : Op = PlaceIn (Whole v) a (Whole u) (whole_operand Count i) in
        let h : HasOperation (T.graph f) g = subst (HasOperation (T.graph f)) (undismissed g origin refl e) has in
        let b = sound.place_base (Whole v) a (Whole u) (whole_operand Count i) h in
        record {
          kind = handed_value (T.graph f) sound (Whole v) a (Whole u) (whole_operand Count i) h;
          general = written_bank v g h (inl refl);
          value = Whole u;
          base = base_kind u (given a b);
          is = b;
          base_general = holds_is u General (sound.operands g (Held (Whole u)) h (inr (inl refl)));
          index = plain_operand i g h (inl refl) (λ y q. in_left (Whole y) (value_in (whole_operand Count i)) (Whole u ∷ []) (held_in i y q)) (λ y x q r. no_access x (Held (Whole y)) g refl r.access) (λ y q r. no_index y q r);
        }
      where
        same_index : (w b c : ℕ) (j : Operand) → PlaceIn (Whole v) a (Whole u) (whole_operand Count i) ≡ PlaceIn w b c j → whole_operand Count i ≡ j
        same_index w b c j q = cc

        no_index : (y : ℕ) → i ≡ Held y → ReadAsBase (Whole y) (PlaceIn (Whole v) a (Whole u) (whole_operand Count i)) → ⊥
        no_index y q r = r.4 (sym (same_index r.0 r.1 (Whole y) r.2 r.3) ∙ ap (whole_operand Count) q)

    pub whole_is : (v : ℕ) (b : Bank) → Has (T.graph f) v b → Whole v ≡ v
    whole_is v b h = mod-eq_of_lt (get_below (T.graph f).banks v b h)

    pub has_whole : (v : ℕ) (b : Bank) → Has (T.graph f) v b → Has (T.graph f) (Whole v) b
    has_whole v b h = subst (λ x. Has (T.graph f) x b) (sym (whole_is v b h)) h

    copy_proper : (u j k : ℕ) → Has (T.graph f) u General → ProperOp T f IsArray (Across (copy_of Count u j) u) k
    copy_proper u j k h =
        let w : Whole (copy_of Count u j) ≡ Whole u = mul-add-mod_self_right (suc j) Count u in
        let a = has_whole u General h in (
          ap (value_kind (T.graph f)) w,
          holds_is (copy_of Count u j) General (subst (λ x. Has (T.graph f) x General) (sym w) a),
          holds_is u General a,
        )

    -- an operation of the layout
    pub op_proper : (op : Op) (k : ℕ) → k < T.machine.clusters → ComesFrom (T.graph f) op → ProperOp T f IsArray op k
    op_proper op k lt (graph_op origin has same writes_same below) = graph_proper op k lt origin has same
    op_proper op k lt (copy {u = u} {k = j} h less) = copy_proper u j k h

    -- a split's test
    pub test_proper : (test c d : ℕ) → HasExit (T.graph f) (Branches test c d) → (kind_of T f test ≡ Itself) × (holds_branch T f test ≡ true)
    test_proper test c d has =
        let h = has_whole test Branch (sound.exit_tests (Branches test c d) test has (inl refl)) in
        let b = holds_is test Branch h in (branch_plain test b, b)
