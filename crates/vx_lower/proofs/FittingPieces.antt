-- The pieces of the code of expressions keep a graph well shaped.
use Rattle.std.proofs.Common.{ap, ◌≡◌, ℕ, ◌<◌, pos, List, length, Option, Some, None, refl, arith}
use Rattle.vx_base.specs.declared.arithmetic.Code.{Code}
use Rattle.vx_base.specs.declared.arithmetic.Code.TheVariants.{Add, Sub, And, Or, Xor, Shl, Shr, ToGeneral, ToBranch, Mpylu, Mpyhs, Div, Rem}
use Rattle.vx_base.specs.declared.arithmetic.Compare.TheVariants.{Eq, Ne, Lt, Le, Gt, Ge, Ltu}
use Rattle.vx_base.specs.declared.outcome.Trap.TheVariants.{Divide as ByDivide, Index as ByIndex}
use Rattle.std.proofs.Common.{subst, sym}
use Rattle.vx_ast.specs.declared.tree.BinaryOperator.{BinaryOperator}
use Rattle.vx_ast.specs.declared.tree.BinaryOperator.TheVariants.{Multiply, Divide, Remainder, Add as Adds, Subtract, ShiftLeft, ShiftRight, Less, LessEqual, Greater, GreaterEqual, Equal, NotEqual, BitAnd, BitXor, BitOr}
use Rattle.vx_flow.specs.declared.graph.Bank.TheVariants.{General, Branch}
use Rattle.vx_flow.specs.declared.graph.Operand.{Operand}
use Rattle.vx_flow.specs.declared.graph.Operand.TheVariants.{Held, Number, Stack}
use Rattle.vx_flow.specs.declared.graph.Op.TheVariants.{Compute, Place, PlaceIn, Base}
use Rattle.vx_flow.specs.Sound.{MakesPlace, by_itself, by_base}
use Rattle.vx_lower.specs.declared.seen.Seen.{Seen}
use Rattle.vx_lower.specs.declared.seen.Seen.TheVariants.{GlobalArray, OwnArray, Handed}
use Rattle.vx_lower.specs.Seen.{Sees, seen_at, size_of, size_at, place_by, place_op}
use Rattle.vx_lower.specs.Holds.{operation_of}
use Rattle.vx_lower.specs.Builds.{with_value}
use Rattle.vx_lower.specs.Adds.{AddsBase, Added, Trapped, Last}
use Rattle.vx_flow.specs.declared.graph.Op.{Op}
use Rattle.std.proofs.lemmas.Option.{slice_get_within, get_or_from_slice_get}
use Rattle.std.proofs.lemmas.List.{length-map}
use Rattle.vx_lower.specs.Named.{Known}
use Rattle.vx_lower.specs.Fits.{Role, Scalar, PlaceOf, Stand, HasRole, OperandFits, RightFits, role_written, NotHanded, FromFits, BaseFits, IsHandedBase, bank_of_role, OpFits, Shaped, DestFits, ChecksWell, CombinesWell, StandsWell}
use Rattle.vx_lower.specs.declared.builder.Builder.{Builder}
use Rattle.vx_lower.proofs.Fitting.{Kept, operand_on}
use Rattle.vx_lower.proofs.Keeping.{Makes, keeps_self, keeps_on, keeps_most, keeps_added, taken_scalar, taken_test, taken_made, last, trapped}

pub dest_on : (roles later : List Role) → Kept roles later → (dest : Option ℕ) → DestFits roles dest → DestFits later dest
dest_on roles later kept None h = h
dest_on roles later kept (Some t) h = kept t Scalar h

-- the size of an array is a number, or a value that holds one
pub size_fits : {words : Sees} (k : Known words) (texts : ℕ) (roles : List Role) (b : Builder) (a : ℕ) (size : Operand) → size ≡ size_at words a → Shaped k texts roles b → OperandFits roles size
size_fits {words} k texts roles b a size e s = subst (OperandFits roles) (sym e) (by (seen_at words a) refl)
  where
    by : (x : Seen) → seen_at words a ≡ x → OperandFits roles (size_of x)
    by (GlobalArray n) q = tt
    by (OwnArray n) q = tt
    by (Handed base size) q = (s.fits.handed a base size q).1

-- the operation of a place fits
place_fits : {words : Sees} (k : Known words) (texts : ℕ) (roles : List Role) (t a : ℕ) (index : Operand) → HasRole roles t (PlaceOf a) → a < length words.arrays → OperandFits roles index → OpFits k texts roles (place_op words t a index)
place_fits {words} k texts roles t a index h l fit = by (seen_at words a) refl
  where
    by : (x : Seen) → seen_at words a ≡ x → OpFits k texts roles (place_by x t a index)
    by (GlobalArray n) q = (h, l, fit, subst NotHanded (sym q) tt)
    by (OwnArray n) q = (h, l, fit, subst NotHanded (sym q) tt)
    by (Handed base size) q = (h, l, subst (λ z. BaseFits z base) (sym q) refl, fit)

place_made : (words : Sees) (a : ℕ) (index : Operand) → Makes (PlaceOf a) (λ v. place_op words v a index)
place_made words a index = record { place = λ v c e. by v c e (seen_at words a); stand = λ v e. absurd (cc); general = refl }
  where
    by : (v c : ℕ) → PlaceOf a ≡ PlaceOf c → (x : Seen) → MakesPlace v c (place_by x v a index)
    by v c e (GlobalArray n) = let q : a ≡ c = cc in subst (λ z. MakesPlace v z (Place v a index)) q by_itself
    by v c e (OwnArray n) = let q : a ≡ c = cc in subst (λ z. MakesPlace v z (Place v a index)) q by_itself
    by v c e (Handed base size) = let q : a ≡ c = cc in subst (λ z. MakesPlace v z (PlaceIn v a base index)) q by_base

pub checks_well : {words : Sees} (a : ℕ) (index : Operand) (t c : ℕ) (size : Operand) (op : Op) (b0 b1 b2 b3 b4 : Builder) → size ≡ size_at words a → op ≡ place_op words t a index → (t ≡ length b0.banks) × (b1 ≡ with_value b0 General) → Added op b1 b2 → (c ≡ length b2.banks) × (b3 ≡ with_value b2 Branch) → Trapped (Compute (ToBranch Ltu) c index size) c ByIndex b3 b4 → ChecksWell words a index t b0 b4
checks_well {words} a index t c size op b0 b1 b2 b3 b4 es eo et pt ec pc k texts roles s below fit =
    let x = taken_made (PlaceOf a) (λ v. place_op words v a index) (place_made words a index) et (subst (λ z. Added z b1 b2) eo pt) s (λ later kept has. place_fits k texts later (length b0.banks) a index has below (operand_on roles later kept index fit)) in
    let y = taken_test ec x.keeps.shaped in
    let inner = operand_on x.later y.later y.keeps.kept index (operand_on roles x.later x.keeps.kept index fit) in
    let g = trapped pc y.keeps.shaped (y.has, inner, size_fits k texts y.later b3 a size es y.keeps.shaped) y.has in
    record { later = y.later; keeps = keeps_on x.keeps (keeps_on y.keeps g); has = y.keeps.kept t (PlaceOf a) x.has }

-- where an array stands that is handed over

base_made : (a : ℕ) (from : Operand) → Makes Stand (λ v. Base v a from)
base_made a from = record { place = λ v c e. absurd (cc); stand = λ v e. (a, from, refl); general = refl }

-- a value that is taken is none of those that are handed over
not_handed : {words : Sees} (k : Known words) (texts : ℕ) (roles : List Role) (b : Builder) → Shaped k texts roles b → IsHandedBase words (length b.banks) → ⊥
not_handed {words} k texts roles b s h =
    let seen : seen_at words h.0 ≡ Handed (length b.banks) h.1 = get_or_from_slice_get words.arrays h.0 (Handed (length b.banks) h.1) (OwnArray 0) h.2 in
    let w = slice_get_within roles (length b.banks) Stand (s.fits.handed h.0 (length b.banks) h.1 seen).0 in
    let e = ap length s.fits.banks in let m = length-map roles bank_of_role in
    omega arith

stands_made : {words : Sees} (a : ℕ) (from : Operand) (v : ℕ) (b0 b1 : Builder) → FromFits (seen_at words a) from → AddsBase a from v b0 b1 → StandsWell words a v b0 b1
stands_made {words} a from v b0 b1 fit x k texts roles s below = taken_made Stand (λ v. Base v a from) (base_made a from) x.taken x.added s (λ later kept has. (has, below, fit, not_handed k texts roles b0 s))

pub global_stands : {words : Sees} (a n v : ℕ) (b0 b1 : Builder) → seen_at words a ≡ GlobalArray n → AddsBase a (Number (pos 0)) v b0 b1 → StandsWell words a v b0 b1
global_stands {words} a n v b0 b1 e x = stands_made {words = words} a (Number (pos 0)) v b0 b1 (subst (λ z. FromFits z (Number (pos 0))) (sym e) refl) x

pub own_stands : {words : Sees} (a n v : ℕ) (b0 b1 : Builder) → seen_at words a ≡ OwnArray n → AddsBase a Stack v b0 b1 → StandsWell words a v b0 b1
own_stands {words} a n v b0 b1 e x = stands_made {words = words} a Stack v b0 b1 (subst (λ z. FromFits z Stack) (sym e) refl) x

pub handed_stands : {words : Sees} (a base size : ℕ) (b : Builder) → seen_at words a ≡ Handed base size → StandsWell words a base b b
handed_stands a base size b e k texts roles s below = record { later = roles; keeps = keeps_most 1 0 (omega arith) (omega arith) (keeps_self s); has = (s.fits.handed a base size e).0 }

-- an operation of an operator is no move, and writes a scalar
pub record Plain (code : Code) : Type 0 where
  pub role : role_written code ≡ Scalar
  pub right : (roles : List Role) (o : Operand) → OperandFits roles o → RightFits roles code o

pub plain_of : (operator : BinaryOperator) (code : Code) → operation_of operator ≡ Some code → Plain code
plain_of Multiply code e = absurd (cc)
plain_of Divide code e = let q : Div ≡ code = cc in subst Plain q (record { role = refl; right = λ roles o h. h })
plain_of Remainder code e = let q : Rem ≡ code = cc in subst Plain q (record { role = refl; right = λ roles o h. h })
plain_of Adds code e = let q : Add ≡ code = cc in subst Plain q (record { role = refl; right = λ roles o h. h })
plain_of Subtract code e = let q : Sub ≡ code = cc in subst Plain q (record { role = refl; right = λ roles o h. h })
plain_of ShiftLeft code e = let q : Shl ≡ code = cc in subst Plain q (record { role = refl; right = λ roles o h. h })
plain_of ShiftRight code e = let q : Shr ≡ code = cc in subst Plain q (record { role = refl; right = λ roles o h. h })
plain_of Less code e = let q : ToGeneral Lt ≡ code = cc in subst Plain q (record { role = refl; right = λ roles o h. h })
plain_of LessEqual code e = let q : ToGeneral Le ≡ code = cc in subst Plain q (record { role = refl; right = λ roles o h. h })
plain_of Greater code e = let q : ToGeneral Gt ≡ code = cc in subst Plain q (record { role = refl; right = λ roles o h. h })
plain_of GreaterEqual code e = let q : ToGeneral Ge ≡ code = cc in subst Plain q (record { role = refl; right = λ roles o h. h })
plain_of Equal code e = let q : ToGeneral Eq ≡ code = cc in subst Plain q (record { role = refl; right = λ roles o h. h })
plain_of NotEqual code e = let q : ToGeneral Ne ≡ code = cc in subst Plain q (record { role = refl; right = λ roles o h. h })
plain_of BitAnd code e = let q : And ≡ code = cc in subst Plain q (record { role = refl; right = λ roles o h. h })
plain_of BitXor code e = let q : Xor ≡ code = cc in subst Plain q (record { role = refl; right = λ roles o h. h })
plain_of BitOr code e = let q : Or ≡ code = cc in subst Plain q (record { role = refl; right = λ roles o h. h })

pub product_well : (a b : Operand) (dest : Option ℕ) (t u v : ℕ) (b0 b1 b2 b3 b4 b5 : Builder) → (u ≡ length b0.banks) × (b1 ≡ with_value b0 General) → Added (Compute Mpylu u a b) b1 b2 → (v ≡ length b2.banks) × (b3 ≡ with_value b2 General) → Added (Compute Mpyhs v a b) b3 b4 → Last (Compute Add t (Held u) (Held v)) dest t b4 b5 → CombinesWell a b dest t b0 b5
product_well a b dest t u v b0 b1 b2 b3 b4 b5 eu pu ev pv pt words k texts roles s fa fb d =
    let x = taken_scalar eu s in
    let fa1 = operand_on roles x.later x.keeps.kept a fa in
    let fb1 = operand_on roles x.later x.keeps.kept b fb in
    let p = keeps_added pu x.keeps.shaped (x.has, fa1, fb1) in
    let y = taken_scalar ev p.shaped in
    let q = keeps_added pv y.keeps.shaped (y.has, operand_on x.later y.later y.keeps.kept a fa1, operand_on x.later y.later y.keeps.kept b fb1) in
    let d2 = dest_on x.later y.later y.keeps.kept dest (dest_on roles x.later x.keeps.kept dest d) in
    let z = last pt q.shaped d2 (λ later kept h. (h, kept u Scalar (y.keeps.kept u Scalar x.has), kept v Scalar y.has)) in
    record { later = z.later; keeps = keeps_most 3 1 (omega arith) (omega arith) (keeps_on x.keeps (keeps_on p (keeps_on y.keeps (keeps_on q z.keeps)))); has = z.has }

pub quotient_well : (operator : BinaryOperator) (code : Code) (a b : Operand) (dest : Option ℕ) (t c : ℕ) (b0 b1 b2 b3 : Builder) → (c ≡ length b0.banks) × (b1 ≡ with_value b0 Branch) → Trapped (Compute (ToBranch Ne) c b (Number (pos 0))) c ByDivide b1 b2 → Last (Compute code t a b) dest t b2 b3 → operation_of operator ≡ Some code → CombinesWell a b dest t b0 b3
quotient_well operator code a b dest t c b0 b1 b2 b3 ec pc pt is words k texts roles s fa fb d =
    let plain = plain_of operator code is in
    let x = taken_test ec s in
    let fa1 = operand_on roles x.later x.keeps.kept a fa in
    let fb1 = operand_on roles x.later x.keeps.kept b fb in
    let p = trapped pc x.keeps.shaped (x.has, fb1, tt) x.has in
    let z = last pt p.shaped (dest_on roles x.later x.keeps.kept dest d) (λ later kept h. (subst (HasRole later t) (sym plain.role) h, operand_on x.later later kept a fa1, plain.right later b (operand_on x.later later kept b fb1))) in
    record { later = z.later; keeps = keeps_most 3 1 (omega arith) (omega arith) (keeps_on x.keeps (keeps_on p z.keeps)); has = z.has }

pub single_well : (operator : BinaryOperator) (code : Code) (a b : Operand) (dest : Option ℕ) (t : ℕ) (b0 b1 : Builder) → Last (Compute code t a b) dest t b0 b1 → operation_of operator ≡ Some code → CombinesWell a b dest t b0 b1
single_well operator code a b dest t b0 b1 pt is words k texts roles s fa fb d =
    let plain = plain_of operator code is in
    let z = last pt s d (λ later kept h. (subst (HasRole later t) (sym plain.role) h, operand_on roles later kept a fa, plain.right later b (operand_on roles later kept b fb))) in
    record { later = z.later; keeps = keeps_most 3 1 (omega arith) (omega arith) z.keeps; has = z.has }
