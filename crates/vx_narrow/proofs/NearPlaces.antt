-- A place that is a sum with one at hand is the same place.
use Rattle.std.proofs.Common.{◌≡◌, ℕ, ◌==◌, Bool, true, false, ◌&&◌, ℤ, pos, ◌+ℤ◌, ◌*ℤ◌, List, [], ◌∷◌, Option, Some, None, refl, sym, ap, ◌∙◌, arith}
use Rattle.std.specs.Int.{w32}
use Rattle.std.proofs.lemmas.Int.{ints, int_wrap-mul_right}
use Rattle.std.proofs.lemmas.Bool.{eqb-true, false≢true}
use Rattle.vx_base.specs.Arithmetic.{wrap, sum_of, product_of}
use Rattle.vx_base.specs.declared.arithmetic.Code.TheVariants.{Add}
use Rattle.vx_base.proofs.WrapLaws.{sum_of-wrap}
use Rattle.vx_flow.specs.declared.graph.Operand.{Operand}
use Rattle.vx_flow.specs.declared.graph.Operand.TheVariants.{Held, Number, Stack}
use Rattle.vx_flow.specs.declared.graph.Array.{Array}
use Rattle.vx_flow.specs.declared.graph.Op.{Op}
use Rattle.vx_flow.specs.declared.graph.Op.TheVariants.{Compute, Place}
use Rattle.vx_flow.specs.Sound.{is_value}
use Rattle.vx_flow.specs.Effects.{Content, State, Setting, held, computed, place_of, with_value, effect}
use Rattle.vx_claims.specs.declared.access.Access.{Access}
use Rattle.vx_claims.specs.declared.access.Access.TheVariants.{Placed, Stored}
use Rattle.vx_claims.specs.declared.fact.Fact.{Fact}
use Rattle.vx_claims.specs.declared.sums.Sum.{Sum}
use Rattle.vx_claims.specs.Accesses.{AllTell}
use Rattle.vx_claims.specs.Facts.{AllHold}
use Rattle.vx_narrow.specs.Placing.{is_open, held_sum, near_if, near, placed_at, placed_by, placed_if, placed}
use Rattle.vx_narrow.proofs.Ranges.{and_two}
use Rattle.vx_narrow.proofs.SumForms.{IsSum, sum_holds}

place_moved : (u n : ℤ) → sum_of (product_of (pos 4) u) (product_of (pos 4) n) ≡ product_of (pos 4) (sum_of u n)
unfolding sum_of product_of
place_moved u n =
    let e : pos 4 *ℤ u +ℤ pos 4 *ℤ n ≡ pos 4 *ℤ (u +ℤ n) = omega (arith, ints) in
    sum_of-wrap (pos 4 *ℤ u) (pos 4 *ℤ n) ∙ ap wrap e ∙ sym (int_wrap-mul_right w32 (pos 4) (u +ℤ n))

moved_content : (x : Content) (n : ℤ) → computed Add (place_of x) (Some (product_of (pos 4) n)) ≡ place_of (computed Add x (Some n))
moved_content None n = refl
moved_content (Some u) n = ap Some (place_moved u n)

value_is : (s : State) (u : ℕ) (x : Operand) → is_value u x ≡ true → held s x ≡ s.values u
value_is s u (Held v) e = ap s.values (eqb-true v u e)
value_is s u (Number n) e = absurd (false≢true e)
value_is s u Stack e = absurd (false≢true e)

module _ (setting : Setting) (s : State) where
  -- the place of what value u holds
  abbrev IsNear : ℕ → Option ℕ → Type 0
  IsNear u None = Unit {0}
  IsNear u (Some p) = s.values p ≡ place_of (s.values u)

  if_is : (t : Bool) (p u : ℕ) (o : Option ℕ) → (t ≡ true → s.values p ≡ place_of (s.values u)) → IsNear u o → IsNear u (near_if t p o)
  if_is true p u o h k = h refl
  if_is false p u o h k = k

  near_is : (xs : List Access) (a u : ℕ) → AllTell setting s xs → IsNear u (near xs a u)
  near_is [] a u h = tt
  near_is (Placed p b i ∷ xs) a u h = if_is ((b == a) && is_value u i) p u (near xs a u) (λ e. h.0 ∙ ap place_of (value_is s u i (and_two (b == a) (is_value u i) e))) (near_is xs a u h.1)
  near_is (Stored b p x ∷ xs) a u h = near_is xs a u h.1

  at_same : (o : Option ℕ) (v u : ℕ) (n : ℤ) (otherwise : Op) → IsNear u o → effect setting s otherwise s ≡ Some (with_value s v (place_of (computed Add (s.values u) (Some n)))) → effect setting s (placed_at o v n otherwise) s ≡ effect setting s otherwise s
  at_same None v u n otherwise h e = refl
  at_same (Some p) v u n otherwise h e = ap (λ x. Some (with_value s v (computed Add x (Some (product_of (pos 4) n))))) h ∙ ap (λ x. Some (with_value s v x)) (moved_content (s.values u) n) ∙ sym e

  by_same : (xs : List Access) (o : Option Sum) (v a : ℕ) (i : Operand) → AllTell setting s xs → IsSum s.values (held s i) o → effect setting s (placed_by xs a o v (Place v a i)) s ≡ effect setting s (Place v a i) s
  by_same xs None v a i h k = refl
  by_same xs (Some r) v a i h k = at_same (near xs a r.base) v r.base r.by (Place v a i) (near_is xs a r.base h) (ap (λ x. Some (with_value s v (place_of x))) k)

  if_same : (t : Bool) (xs : List Access) (o : Option Sum) (v a : ℕ) (i : Operand) → AllTell setting s xs → IsSum s.values (held s i) o → effect setting s (placed_if t xs a o v (Place v a i)) s ≡ effect setting s (Place v a i) s
  if_same true xs o v a i h k = by_same xs o v a i h k
  if_same false xs o v a i h k = refl

  sum_is : (fs : List Fact) (x : Operand) → AllHold s.values fs → IsSum s.values (held s x) (held_sum fs x)
  sum_is fs (Held v) h = sum_holds s.values fs v h
  sum_is fs (Number n) h = tt
  sum_is fs Stack h = tt

  pub placed_same : (arrays : List Array) (ops : List Op) (fs : List Fact) (xs : List Access) (op : Op) → AllHold s.values fs → AllTell setting s xs → effect setting s (placed arrays ops fs xs op) s ≡ effect setting s op s
  placed_same arrays ops fs xs (Place v a i) k h = if_same (is_open arrays ops a) xs (held_sum fs i) v a i h (sum_is fs i k)
  placed_same arrays ops fs xs op k h = refl
