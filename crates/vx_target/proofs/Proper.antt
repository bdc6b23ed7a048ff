-- What operations of a layout name: places of arrays, bases, branch values and other values, each where it may stand.
use Rattle.std.proofs.Common.{◌≡◌, ◌<◌, ℕ, ℤ, pos, true, false, Some, None, List, [], ◌∷◌, sym, subst}
use Rattle.std.specs.Prelude.{if◌then◌else◌}
use Rattle.vx_flow.specs.declared.graph.Operand.{Operand}
use Rattle.vx_flow.specs.declared.graph.Operand.TheVariants.{Held, Number, Stack}
use Rattle.vx_flow.specs.declared.graph.Op.{Op}
use Rattle.vx_flow.specs.declared.graph.Op.TheVariants.{Compute, Select, Place, Load, Store, More, Input, Text, Decimal, Across, Base, PlaceIn}
use Rattle.vx_flow.specs.Effects.{is_unary}
use Rattle.vx_flow.specs.Sound.{base_at}
use Rattle.vx_mixed.specs.declared.layout.Laid.{Laid}
use Rattle.vx_mixed.specs.declared.layout.Laid.TheVariants.{Plain, Split}
use Rattle.vx_target.specs.Target.{Target, is_own, is_handed, holds_branch}
use Rattle.vx_target.specs.Tied.{Seating, Itself, InHanded, AsBase, IsAnswer, IsShown, Shows, kind_of, kind_in}
use Rattle.vx_target.proofs.Forms.{to_branch}

-- a value of the first kind is shown by itself

pub itself : {T : Target} {here : Seating} {f v : ℕ} {n x : ℤ} → Shows T here f v n x → kind_of T f v ≡ Itself → x ≡ n
itself {T = T} {here = here} {f = f} {n = n} {x = x} s e = subst (λ k. IsShown (T.graph f).arrays here k n x) e s.is

pub shows_itself : (T : Target) (here : Seating) (f v : ℕ) (n x : ℤ) → kind_of T f v ≡ Itself → IsAnswer (holds_branch T f v) n → x ≡ n → Shows T here f v n x
shows_itself T here f v n x e a h = record { answer = a; is = subst (λ k. IsShown (T.graph f).arrays here k n x) (sym e) h }

module _ (T : Target) (f : ℕ) (IsArray : ℕ → Type 0) where
  -- a general value that is no place and no base
  abbrev pub PlainValue : ℕ → Type 0
  PlainValue v = (kind_of T f v ≡ Itself) × (holds_branch T f v ≡ false)

  abbrev pub PlainOperand : Operand → Type 0
  PlainOperand (Held v) = PlainValue v
  PlainOperand (Number n) = Unit {0}
  PlainOperand Stack = ⊥

  -- a place in an array: a value of the kind of places there, or a number where the array was not handed over
  abbrev pub IsPlacedIn : ℕ → Operand → Type 0
  IsPlacedIn a (Held v) = (kind_of T f v ≡ kind_in T f a) × (holds_branch T f v ≡ false)
  IsPlacedIn a (Number n) = is_handed T f a ≡ false
  IsPlacedIn a Stack = ⊥

  -- a base that is made of an array: the array was not handed over, and the base is that of no array which was
  pub record ProperBase (v a : ℕ) (x : Operand) (k : ℕ) : Type 0 where
    pub value : ℕ
    pub kind : kind_of T f v ≡ AsBase value
    pub made : (b : ℕ) → base_at (T.graph f).arrays b ≡ Some value → ⊥
    pub general : holds_branch T f v ≡ false
    pub below : k < T.machine.clusters
    pub from : x ≡ (if is_own T f a then Stack else Number (pos 0))
    pub array : IsArray a
    pub bare : base_at (T.graph f).arrays a ≡ None

  -- a place in an array that was handed over, made by the array's base
  pub record ProperPlaceIn (v a u : ℕ) (i : Operand) : Type 0 where
    pub kind : kind_of T f v ≡ InHanded a
    pub general : holds_branch T f v ≡ false
    pub value : ℕ
    pub base : kind_of T f u ≡ AsBase value
    pub is : base_at (T.graph f).arrays a ≡ Some value
    pub base_general : holds_branch T f u ≡ false
    pub index : PlainOperand i

  -- an operation on a cluster
  abbrev pub ProperOp : Op → (cluster : ℕ) → Type 0
  ProperOp (Compute code v a b) k = (kind_of T f v ≡ Itself) × (holds_branch T f v ≡ to_branch code) × PlainOperand a × (is_unary code ≡ false → PlainOperand b)
  ProperOp (Select v p a b) k = PlainValue v × ((kind_of T f p ≡ Itself) × (holds_branch T f p ≡ true)) × PlainOperand a × PlainOperand b
  ProperOp (Place v a i) k = ((kind_of T f v ≡ kind_in T f a) × (holds_branch T f v ≡ false)) × PlainOperand i × (k < T.machine.clusters) × (is_handed T f a ≡ false)
  ProperOp (Load v a p dismissible) k = PlainValue v × IsPlacedIn a p × (k < T.machine.clusters) × IsArray a
  ProperOp (Store a p x) k = IsPlacedIn a p × PlainOperand x × (k < T.machine.clusters) × IsArray a
  ProperOp (More v) k = PlainValue v
  ProperOp (Input v) k = PlainValue v
  ProperOp (Text n) k = Unit {0}
  ProperOp (Decimal x) k = PlainOperand x
  ProperOp (Across v u) k = (kind_of T f v ≡ kind_of T f u) × (holds_branch T f v ≡ false) × (holds_branch T f u ≡ false)
  ProperOp (Base v a x) k = ProperBase v a x k
  ProperOp (PlaceIn v a u i) k = ProperPlaceIn v a u i

  abbrev pub ProperItems : List Laid → Type 0
  ProperItems [] = Unit {0}
  ProperItems (Plain op cluster ∷ items) = ProperOp op cluster × ProperItems items
  ProperItems (Split test y q ∷ items) = ((kind_of T f test ≡ Itself) × (holds_branch T f test ≡ true)) × ProperItems items
