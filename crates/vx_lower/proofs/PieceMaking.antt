-- The pieces of the code of expressions.
use Rattle.std.proofs.Common.{◌≡◌, ℕ, ◌+◌, ◌<◌, ◌≤◌, pos, true, false, List, [], length, Option, Some, None, refl, sym, ap, ◌∙◌, subst, arith}
use Rattle.std.specs.Prelude.{slice_get}
use Rattle.vx_base.specs.declared.arithmetic.Code.{Code}
use Rattle.vx_base.specs.declared.arithmetic.Code.TheVariants.{Add, Mov, ToBranch, Mpylu, Mpyhs}
use Rattle.vx_base.specs.declared.arithmetic.Compare.TheVariants.{Ne, Ltu}
use Rattle.vx_base.specs.declared.outcome.Trap.{Trap}
use Rattle.vx_base.specs.declared.outcome.Trap.TheVariants.{Divide as ByDivide, Index as ByIndex}
use Rattle.vx_ast.specs.Meaning.{divides}
use Rattle.vx_ast.specs.Tree.{One}
use Rattle.vx_ast.specs.declared.tree.BinaryOperator.{BinaryOperator}
use Rattle.vx_ast.specs.declared.tree.BinaryOperator.TheVariants.{Multiply, Divide, Remainder, Add as Adds, Subtract, ShiftLeft, ShiftRight, Less, LessEqual, Greater, GreaterEqual, Equal, NotEqual, BitAnd, BitXor, BitOr}
use Rattle.vx_flow.specs.declared.graph.Bank.{Bank}
use Rattle.vx_flow.specs.declared.graph.Bank.TheVariants.{General, Branch}
use Rattle.vx_flow.specs.declared.graph.Operand.{Operand}
use Rattle.vx_flow.specs.declared.graph.Operand.TheVariants.{Held, Number, Stack}
use Rattle.vx_flow.specs.declared.graph.Op.{Op}
use Rattle.vx_flow.specs.declared.graph.Op.TheVariants.{Compute, Base}
use Rattle.vx_flow.specs.declared.graph.Exit.TheVariants.{Ends}
use Rattle.vx_flow.specs.declared.graph.Block.{Block}
use Rattle.vx_lower.specs.declared.seen.Seen.TheVariants.{GlobalArray, OwnArray, Handed}
use Rattle.vx_lower.specs.Seen.{Sees, seen_at, size_at, place_op}
use Rattle.vx_lower.specs.Holds.{Goes, Tests, single, product, quotient, operation_of, Way, Into, Lands, fresh, into, Bases, of_global, of_own, given, then_op, ends}
use Rattle.vx_lower.specs.Builds.{Ready, Grows, Finishes, Opens, From, Puts, Branches, Guards, with_value}
use Rattle.vx_lower.specs.Emits.{way_of, Aimed, Lasts, Delivers, Checked, Combined, MakesBase, Stands, Spare}
use Rattle.vx_lower.specs.declared.builder.Builder.{Builder}
use Rattle.vx_lower.proofs.Ties.{below_on}
use Rattle.vx_lower.proofs.Places.{length_more}
use Rattle.vx_lower.proofs.Building.{grows_self, grows_on, grows_value, finishes_back}

pub lands_on : (lo mid : ℕ) (w : Way One) (t : ℕ) (q : Block) → lo ≤ mid → Lands mid w t q → Lands lo w t q
lands_on lo mid w t q le (fresh l) = fresh (omega arith)
lands_on lo mid w t q le into = into

-- a value is taken
value_is : (b b1 : Builder) (bank : Bank) → b1 ≡ with_value b bank → Ready b → Grows b b1
value_is b b1 bank e r = subst (Grows b) (sym e) (grows_value b bank r)

pub value_next : (b b1 : Builder) (bank : Bank) → b1 ≡ with_value b bank → length b1.banks ≡ length b.banks + 1
value_next b b1 bank e = ap (λ z. length z.banks) e ∙ length_more b.banks bank

opens_value : (B : List Block) (b b1 : Builder) (bank : Bank) → b1 ≡ with_value b bank → (q : Block) → Opens B b1 q → Opens B b q
opens_value B b b1 bank e q o = let o2 = subst (λ z. Opens B z q) e o in record { is = o2.is }

from_value : (B : List Block) (b b1 : Builder) (bank : Bank) → b1 ≡ with_value b bank → (Q : Block → Type 0) → From B b1 Q → From B b Q
from_value B b b1 bank e Q x = record { start = x.start; opens = opens_value B b b1 bank e x.start x.opens; holds = x.holds }

-- an operation that writes a value of its own
pub record Sets (op : Op) (t : ℕ) (old new : Builder) : Type 0 where
  pub grows : Grows old new
  pub fresh : t ≡ length old.banks
  pub below : t < length new.banks
  pub step : (B : List Block) (q : Block) → Finishes B new → Opens B new q → From B old (λ p. Goes B (then_op op q) p)

pub sets_of : (b b1 b2 : Builder) (t : ℕ) (bank : Bank) (op : Op) → (t ≡ length b.banks) × (b1 ≡ with_value b bank) → (Ready b1 → Puts op b1 b2) → Ready b → Sets op t b b2
sets_of b b1 b2 t bank op e p r =
    let g = value_is b b1 bank e.1 r in let n = value_next b b1 bank e.1 in let m = e.0 in
    let x = p g.ready in let k = x.grows.values in
    record { grows = grows_on b b1 b2 r g x.grows; fresh = m; below = omega arith; step = λ B q f o. from_value B b b1 bank e.1 (λ p. Goes B (then_op op q) p) (x.step B q f o) }

-- a test of its own that ends by a trap
pub record Guarded (op : Op) (c : ℕ) (k : Trap) (old new : Builder) : Type 0 where
  pub grows : Grows old new
  pub fresh : c ≡ length old.banks
  pub below : c < length new.banks
  pub step : (B : List Block) (q : Block) → Finishes B new → Opens B new q → From B old (λ p. (no : Block) × Tests B op c p q no × Goes B (ends (Ends k)) no)

pub guarded_of : (b b1 b2 : Builder) (c : ℕ) (k : Trap) (bank : Bank) (op : Op) → (c ≡ length b.banks) × (b1 ≡ with_value b bank) → (Ready b1 → Guards op c k b1 b2) → Ready b → Guarded op c k b b2
guarded_of b b1 b2 c k bank op e p r =
    let g = value_is b b1 bank e.1 r in let n = value_next b b1 bank e.1 in let m = e.0 in
    let x = p g.ready in let v = x.grows.values in
    record { grows = grows_on b b1 b2 r g x.grows; fresh = m; below = omega arith; step = λ B q f o. from_value B b b1 bank e.1 (λ p. (no : Block) × Tests B op c p q no × Goes B (ends (Ends k)) no) (x.step B q f o) }

-- a test of its own with two ways on
pub record Branched (op : Op) (c n : ℕ) (old new : Builder) : Type 0 where
  pub grows : Grows old new
  pub fresh : c ≡ length old.banks
  pub below : c < length new.banks
  pub spare : Spare new n
  pub late : length old.blocks ≤ n
  pub moved : length old.blocks ≤ new.current
  pub empty : new.ops ≡ []
  pub step : (B : List Block) (one two : Block) → Finishes B new → Opens B new one → slice_get B n ≡ Some two → From B old (λ p. Tests B op c p one two)

pub branched_of : (b b1 b2 : Builder) (c n : ℕ) (bank : Bank) (op : Op) → (c ≡ length b.banks) × (b1 ≡ with_value b bank) → (Ready b1 → Branches op c n b1 b2) → Ready b → Branched op c n b b2
branched_of b b1 b2 c n bank op e p r =
    let g = value_is b b1 bank e.1 r in let m = value_next b b1 bank e.1 in let w = e.0 in let l = g.longer in
    let x = p g.ready in let v = x.grows.values in let k = x.late in let h = x.moved in
    record { grows = grows_on b b1 b2 r g x.grows; fresh = w; below = omega arith; spare = record { free = x.other; apart = x.apart }; late = omega arith; moved = omega arith; empty = x.empty; step = λ B one two f o at. from_value B b b1 bank e.1 (λ p. Tests B op c p one two) (x.step B one two f o at) }

-- a last operation
pub lasts_of : (dest : Option ℕ) (t : ℕ) (op : Op) (b b1 b2 : Builder) → Aimed dest t b b1 → (Ready b1 → Puts op b1 b2) → Ready b → Lasts op dest t b b2
lasts_of None t op b b1 b2 e p r =
    let s = sets_of b b1 b2 t General op e p r in let f = s.fresh in
    record { grows = s.grows; below = λ n. s.below; lands = λ q. fresh (omega arith); step = s.step }
lasts_of (Some d) t op b b1 b2 e p r =
    let x = subst (λ z. Ready z → Puts op z b2) e.1 p r in
    record { grows = x.grows; below = λ n. absurd (cc); lands = λ q. subst (λ z. Lands (length b.banks) (Into z q) t q) e.0 into; step = x.step }

pub delivers_self : (o : Operand) (b : Builder) → Ready b → Delivers None o o b b
delivers_self o b r = record { grows = grows_self b r; kept = λ n. refl; step = λ B q f w. record { start = q; opens = w; holds = (refl, refl) } }

pub delivers_moved : (t : ℕ) (o : Operand) (b b1 : Builder) → (Ready b → Puts (Compute Mov t o (Number (pos 0))) b b1) → Ready b → Delivers (Some t) o (Held t) b b1
delivers_moved t o b b1 p r =
    let x = p r in
    record { grows = x.grows; kept = λ n. absurd (cc); step = λ B q f w. let s = x.step B q f w in record { start = s.start; opens = s.opens; holds = (refl, s.holds) } }

pub checked_of : (words : Sees) (a : ℕ) (o : Operand) (t c : ℕ) (size : Operand) (op : Op) (b0 b1 b2 b3 b4 : Builder) → size ≡ size_at words a → op ≡ place_op words t a o → (t ≡ length b0.banks) × (b1 ≡ with_value b0 General) → (Ready b1 → Puts op b1 b2) → (c ≡ length b2.banks) × (b3 ≡ with_value b2 Branch) → (Ready b3 → Guards (Compute (ToBranch Ltu) c o size) c ByIndex b3 b4) → Ready b0 → Checked words a o t b0 b4
checked_of words a o t c size op b0 b1 b2 b3 b4 es eo et pt ec pc r =
    let s = sets_of b0 b1 b2 t General (place_op words t a o) et (subst (λ z. Ready b1 → Puts z b1 b2) eo pt) r in
    let k = guarded_of b2 b3 b4 c ByIndex Branch (Compute (ToBranch Ltu) c o (size_at words a)) ec (subst (λ z. Ready b3 → Guards (Compute (ToBranch Ltu) c o z) c ByIndex b3 b4) es pc) s.grows.ready in
    let f = s.fresh in let l = s.below in let fc = k.fresh in let v = k.grows.values in
    record {
      grows = grows_on b0 b2 b4 r s.grows k.grows;
      below = omega arith;
      step = λ below B q fin w.
          let s2 = k.step B q fin w in
          let s1 = s.step B s2.start (finishes_back B b2 b4 s.grows.ready k.grows fin) s2.opens in
          record { start = s1.start; opens = s1.opens; holds = record { place = s2.start; no = s2.holds.0; c = c; goes = s1.holds; tests = s2.holds.1; stops = s2.holds.2; free = below_on (length b0.banks) t o (omega arith) below; above = omega arith; fresh = omega arith } };
    }

pub made_base_of : (a : ℕ) (from : Operand) (v : ℕ) (b0 b1 b2 : Builder) → (v ≡ length b0.banks) × (b1 ≡ with_value b0 General) → (Ready b1 → Puts (Base v a from) b1 b2) → Ready b0 → MakesBase a from v b0 b2
made_base_of a from v b0 b1 b2 e p r =
    let s = sets_of b0 b1 b2 v General (Base v a from) e p r in let f = s.fresh in
    record { grows = s.grows; fresh = omega arith; below = s.below; step = s.step }

pub stands_global : (words : Sees) (a n v : ℕ) (b0 b1 : Builder) → seen_at words a ≡ GlobalArray n → (Ready b0 → MakesBase a (Number (pos 0)) v b0 b1) → Ready b0 → Stands words a v b0 b1
stands_global words a n v b0 b1 e m r =
    let x = m r in
    record { grows = x.grows; step = λ B q f w. let s = x.step B q f w in record { start = s.start; opens = s.opens; holds = subst (λ z. Bases B a (length b0.banks) (length b1.banks) z v s.start q) (sym e) (of_global x.fresh x.below s.holds) } }

pub stands_own : (words : Sees) (a n v : ℕ) (b0 b1 : Builder) → seen_at words a ≡ OwnArray n → (Ready b0 → MakesBase a Stack v b0 b1) → Ready b0 → Stands words a v b0 b1
stands_own words a n v b0 b1 e m r =
    let x = m r in
    record { grows = x.grows; step = λ B q f w. let s = x.step B q f w in record { start = s.start; opens = s.opens; holds = subst (λ z. Bases B a (length b0.banks) (length b1.banks) z v s.start q) (sym e) (of_own x.fresh x.below s.holds) } }

pub stands_handed : (words : Sees) (a base size : ℕ) (b : Builder) → seen_at words a ≡ Handed base size → Ready b → Stands words a base b b
stands_handed words a base size b e r =
    record { grows = grows_self b r; step = λ B q f w. record { start = q; opens = w; holds = subst (λ z. Bases B a (length b.banks) (length b.banks) z base q q) (sym e) (given (omega arith)) } }

pub product_of : (a b : Operand) (dest : Option ℕ) (t u v : ℕ) (b0 b1 b2 b3 b4 b5 : Builder) → (u ≡ length b0.banks) × (b1 ≡ with_value b0 General) → (Ready b1 → Puts (Compute Mpylu u a b) b1 b2) → (v ≡ length b2.banks) × (b3 ≡ with_value b2 General) → (Ready b3 → Puts (Compute Mpyhs v a b) b3 b4) → (Ready b4 → Lasts (Compute Add t (Held u) (Held v)) dest t b4 b5) → Ready b0 → Combined Multiply a b dest t b0 b5
product_of a b dest t u v b0 b1 b2 b3 b4 b5 eu pu ev pv pt r =
    let x = sets_of b0 b1 b2 u General (Compute Mpylu u a b) eu pu r in
    let y = sets_of b2 b3 b4 v General (Compute Mpyhs v a b) ev pv x.grows.ready in
    let z = pt y.grows.ready in
    let fu = x.fresh in let lu = x.below in let fv = y.fresh in let vx = x.grows.values in let vy = y.grows.values in
    record {
      grows = grows_on b0 b2 b5 r x.grows (grows_on b2 b4 b5 x.grows.ready y.grows z.grows);
      below = z.below;
      lands = λ q. lands_on (length b0.banks) (length b4.banks) (way_of dest (Held t) q) t q (omega arith) (z.lands q);
      step = λ B q f w.
          let s3 = z.step B q f w in
          let f4 = finishes_back B b4 b5 y.grows.ready z.grows f in
          let s2 = y.step B s3.start f4 s3.opens in
          let s1 = x.step B s2.start (finishes_back B b2 b4 x.grows.ready y.grows f4) s2.opens in
          record { start = s1.start; opens = s1.opens; holds = product (omega arith) (omega arith) s1.holds s2.holds s3.holds };
    }

pub quotient_of : (operator : BinaryOperator) (code : Code) (a b : Operand) (dest : Option ℕ) (t c : ℕ) (b0 b1 b2 b3 : Builder) → (c ≡ length b0.banks) × (b1 ≡ with_value b0 Branch) → (Ready b1 → Guards (Compute (ToBranch Ne) c b (Number (pos 0))) c ByDivide b1 b2) → (Ready b2 → Lasts (Compute code t a b) dest t b2 b3) → Ready b0 → operation_of operator ≡ Some code → divides operator ≡ true → Combined operator a b dest t b0 b3
quotient_of operator code a b dest t c b0 b1 b2 b3 ec pc pt r is whole =
    let k = guarded_of b0 b1 b2 c ByDivide Branch (Compute (ToBranch Ne) c b (Number (pos 0))) ec pc r in
    let z = pt k.grows.ready in
    let fc = k.fresh in let v = k.grows.values in
    record {
      grows = grows_on b0 b2 b3 r k.grows z.grows;
      below = z.below;
      lands = λ q. lands_on (length b0.banks) (length b2.banks) (way_of dest (Held t) q) t q v (z.lands q);
      step = λ B q f w.
          let s2 = z.step B q f w in
          let s1 = k.step B s2.start (finishes_back B b2 b3 k.grows.ready z.grows f) s2.opens in
          record { start = s1.start; opens = s1.opens; holds = quotient code is whole (omega arith) s1.holds.1 s1.holds.2 s2.holds };
    }

pub single_of : (operator : BinaryOperator) (code : Code) (a b : Operand) (dest : Option ℕ) (t : ℕ) (b0 b1 : Builder) → (Ready b0 → Lasts (Compute code t a b) dest t b0 b1) → operation_of operator ≡ Some code → divides operator ≡ false → Ready b0 → Combined operator a b dest t b0 b1
single_of operator code a b dest t b0 b1 pt is whole r =
    let z = pt r in
    record {
      grows = z.grows;
      below = z.below;
      lands = z.lands;
      step = λ B q f w. let s = z.step B q f w in record { start = s.start; opens = s.opens; holds = single code is whole s.holds };
    }

pub no_operation : (operator : BinaryOperator) → operation_of operator ≡ None → Multiply ≡ operator
no_operation Multiply e = refl
no_operation Divide e = absurd (cc)
no_operation Remainder e = absurd (cc)
no_operation Adds e = absurd (cc)
no_operation Subtract e = absurd (cc)
no_operation ShiftLeft e = absurd (cc)
no_operation ShiftRight e = absurd (cc)
no_operation Less e = absurd (cc)
no_operation LessEqual e = absurd (cc)
no_operation Greater e = absurd (cc)
no_operation GreaterEqual e = absurd (cc)
no_operation Equal e = absurd (cc)
no_operation NotEqual e = absurd (cc)
no_operation BitAnd e = absurd (cc)
no_operation BitXor e = absurd (cc)
no_operation BitOr e = absurd (cc)
