-- The free values that are listed are all that there are, and whether there are enough.
use Rattle.std.proofs.Common.{◌≡◌, ◌⊎◌, ◌↔◌, inl, inr, ℕ, zero, suc, ◌+◌, ◌<◌, ◌≤◌, Bool, true, false, cond, not, ◌&&◌, List, [], ◌∷◌, ◌++◌, length, slice_get, Option, Some, None, refl, sym, ap, ◌∙◌, subst, arith, leb-true, le-leb, IsTrue}
use Rattle.std.proofs.lemmas.Bool.{false≢true, and_parts}
use Rattle.std.proofs.lemmas.Option.{slice_get_within}
use Rattle.std.specs.Cmp.Derive.{both_true}
use Rattle.std.specs.List.{filter, flat_map}
use Rattle.vx_flow.specs.declared.graph.Array.{Array}
use Rattle.vx_flow.specs.declared.graph.Operand.{Operand}
use Rattle.vx_flow.specs.declared.graph.Bank.{Bank}
use Rattle.vx_flow.specs.declared.graph.Block.{Block}
use Rattle.vx_flow.specs.declared.graph.Bank.TheVariants.{General, Branch}
use Rattle.vx_flow.specs.declared.graph.Op.{Op}
use Rattle.vx_flow.specs.declared.graph.Op.TheVariants.{Compute, Select, Place, Load, Store, More, Input, Text, Decimal, Across, Base, PlaceIn}
use Rattle.vx_flow.specs.Effects.{IsIn, value_in}
use Rattle.vx_flow.specs.Live.{IsLive}
use Rattle.vx_flow.specs.Operands.{value_list}
use Rattle.vx_flow.specs.Rows.{lives, row_at}
use Rattle.vx_flow.specs.Sound.{HasOperation, Has, IsBase, given, made, is_bank, is_local}
use Rattle.vx_flow.specs.Walk.{numbers}
use Rattle.vx_flow.proofs.Members.{in_left, in_right, in_either}
use Rattle.vx_flow.proofs.SoundBases.{array_of_base, base_of_array}
use Rattle.vx_flow.proofs.SoundLists.{not_of, not_both}
use Rattle.vx_flow.proofs.ClosingSteps.{any_in, in_any}
use Rattle.vx_inline.specs.Inlined.{TheCall, Ascends, IsFree, AreFree, is_among, named}
use Rattle.vx_inline.specs.Permitting.{HasEnough}
use Rattle.vx_inline.specs.Values.{local_place, local_places, given_bases, kept, free_of, is_enough, has_values}
use Rattle.vx_inline.proofs.Depth.{get_in}
use Rattle.vx_inline.proofs.Edges.{in_there}
use Rattle.vx_inline.proofs.One.{frees_same}
use Rattle.vx_inline.proofs.Taking.{InFlat, from_flat, in_flat, numbers_in, filter_in, is_bank_here}

-- ---- lists

numbers_above : (b n v : ℕ) → IsIn v (numbers b n) → b ≤ v
numbers_above b zero v m = absurd m
numbers_above b (suc n) v (inl e) = omega (arith, e)
numbers_above b (suc n) v (inr m) = let l : b + 1 ≤ v = numbers_above (b + 1) n v m in omega (arith, l)

pub in_filtered : (p : ℕ → Bool) (xs : List ℕ) (v : ℕ) → IsIn v (filter p xs) → IsIn v xs × (p v ≡ true)
in_filtered p [] v m = absurd m
in_filtered p (x ∷ xs) v m = by (p x) refl m (in_filtered p xs v)
  where
    by : (t : Bool) → p x ≡ t → IsIn v (cond t (x ∷ filter p xs) (filter p xs)) → (IsIn v (filter p xs) → IsIn v xs × (p v ≡ true)) → IsIn v (x ∷ xs) × (p v ≡ true)
    by true e (inl q) k = (inl q, ap p q ∙ e)
    by true e (inr n) k = (inr (k n).0, (k n).1)
    by false e n k = (inr (k n).0, (k n).1)

pub filter_ascends : (p : ℕ → Bool) (b n : ℕ) → Ascends (filter p (numbers b n))
filter_ascends p b zero = tt
filter_ascends p b (suc n) = by (p b) (filter_ascends p (b + 1) n)
  where
    above : (u : ℕ) → IsIn u (filter p (numbers (b + 1) n)) → b < u
    above u m = let l : b + 1 ≤ u = numbers_above (b + 1) n u (in_filtered p (numbers (b + 1) n) u m).0 in omega (arith, l)

    by : (t : Bool) → Ascends (filter p (numbers (b + 1) n)) → Ascends (cond t (b ∷ filter p (numbers (b + 1) n)) (filter p (numbers (b + 1) n)))
    by true a = (above, a)
    by false a = a

-- ---- places of arrays that are no globals, and bases

-- an operation that keeps a value from being taken
data Keeps (arrays : List Array) (op : Op) (v : ℕ) : Type 0 where
  own_place : (a : ℕ) (i : Operand) → op ≡ Place v a i → is_local arrays a ≡ true → Keeps arrays op v
  handed_place : (a u : ℕ) (i : Operand) → op ≡ PlaceIn v a u i → Keeps arrays op v
  a_base : (a : ℕ) (x : Operand) → op ≡ Base v a x → Keeps arrays op v

place_of : (arrays : List Array) (op : Op) (v : ℕ) → IsIn v (local_place arrays op) → Keeps arrays op v
place_of arrays (Compute code u x y) v m = absurd m
place_of arrays (Select u p x y) v m = absurd m
place_of arrays (Place u a i) v m = by (is_local arrays a) refl m
  where
    by : (t : Bool) → is_local arrays a ≡ t → IsIn v (cond t (u ∷ []) []) → Keeps arrays (Place u a i) v
    by true e (inl q) = own_place a i (ap (λ w. Place w a i) (sym q)) e
    by true e (inr z) = absurd z
    by false e z = absurd z
place_of arrays (Load u a p d) v m = absurd m
place_of arrays (Store a p x) v m = absurd m
place_of arrays (More u) v m = absurd m
place_of arrays (Input u) v m = absurd m
place_of arrays (Text n) v m = absurd m
place_of arrays (Decimal x) v m = absurd m
place_of arrays (Across u w) v m = absurd m
place_of arrays (Base u a x) v (inl q) = a_base a x (ap (λ w. Base w a x) (sym q))
place_of arrays (Base u a x) v (inr z) = absurd z
place_of arrays (PlaceIn u a w i) v (inl q) = handed_place a w i (ap (λ y. PlaceIn y a w i) (sym q))
place_of arrays (PlaceIn u a w i) v (inr z) = absurd z

own_place_in : (arrays : List Array) (v a : ℕ) (i : Operand) → is_local arrays a ≡ true → IsIn v (local_place arrays (Place v a i))
own_place_in arrays v a i e = subst (λ t. IsIn v (cond t (v ∷ []) [])) (sym e) (inl refl)

in_value_list : (o : Option ℕ) (v : ℕ) → IsIn v (value_list o) → o ≡ Some v
in_value_list None v m = absurd m
in_value_list (Some u) v (inl e) = ap Some (sym e)
in_value_list (Some u) v (inr z) = absurd z

value_list_in : (o : Option ℕ) (v : ℕ) → o ≡ Some v → IsIn v (value_list o)
value_list_in o v e = subst (λ x. IsIn v (value_list x)) (sym e) (inl refl)

module _ (rows : List (List ℕ)) (c : TheCall) (exact : (v : ℕ) → IsTrue (lives rows c.next v) ↔ IsLive c.caller c.next v) where
  abbrev behind : List ℕ
  behind = row_at rows c.next

  abbrev arguments : List ℕ
  arguments = flat_map value_in c.arguments

  abbrev takers : List ℕ
  takers = value_list c.result

  abbrev places : List ℕ
  places = flat_map (local_places c.caller.arrays) c.caller.blocks

  abbrev bases : List ℕ
  bases = given_bases c.caller.arrays

  free_kept : (v : ℕ) → IsFree c v → IsIn v (kept rows c) → ⊥
  free_kept v f m = by (in_either v (behind ++ arguments ++ takers ++ places) bases m)
    where
      by_op : (block : Block) (op : Op) → IsIn block c.caller.blocks → IsIn op block.ops → Keeps c.caller.arrays op v → ⊥
      by_op block op m s (own_place a i e l) = f.place a i (record { block = block; has = m; stands = subst (λ o. IsIn o block.ops) e s }) l
      by_op block op m s (handed_place a u i e) = f.place_by a u i (record { block = block; has = m; stands = subst (λ o. IsIn o block.ops) e s })
      by_op block op m s (a_base a x e) = f.base (made a x (record { block = block; has = m; stands = subst (λ o. IsIn o block.ops) e s }))

      by_place : InFlat (local_places c.caller.arrays) c.caller.blocks v → ⊥
      by_place r =
          let s : InFlat (local_place c.caller.arrays) r.item.ops v = from_flat (local_place c.caller.arrays) r.item.ops v r.names in
          by_op r.item s.item r.has s.has (place_of c.caller.arrays s.item v s.names)

      by_base : InFlat (λ (array : Array). value_list array.base) c.caller.arrays v → ⊥
      by_base r =
          let i : (a : ℕ) × (slice_get c.caller.arrays a ≡ Some r.item) = in_there c.caller.arrays r.item r.has in
          f.base (given i.0 (base_of_array c.caller.arrays i.0 r.item v i.1 (in_value_list r.item.base v r.names)))

      by_first : IsIn v behind ⊎ IsIn v arguments → ⊥
      by_first (inl k) = f.dead ((exact v).0 (in_any v behind k))
      by_first (inr k) = f.argument k

      by_three : IsIn v (behind ++ arguments) ⊎ IsIn v takers → ⊥
      by_three (inl k) = by_first (in_either v behind arguments k)
      by_three (inr k) = f.result (in_value_list c.result v k)

      by_four : IsIn v (behind ++ arguments ++ takers) ⊎ IsIn v places → ⊥
      by_four (inl k) = by_three (in_either v (behind ++ arguments) takers k)
      by_four (inr k) = by_place (from_flat (local_places c.caller.arrays) c.caller.blocks v k)

      by : IsIn v (behind ++ arguments ++ takers ++ places) ⊎ IsIn v bases → ⊥
      by (inl k) = by_four (in_either v (behind ++ arguments ++ takers) places k)
      by (inr k) = by_base (from_flat (λ (array : Array). value_list array.base) c.caller.arrays v k)

  kept_free : (v : ℕ) → (IsIn v (kept rows c) → ⊥) → IsFree c v
  kept_free v n = record {
    dead = λ l. three (in_left v (behind ++ arguments) takers (in_left v behind arguments (any_in v behind ((exact v).1 l))));
    argument = λ k. three (in_left v (behind ++ arguments) takers (in_right v behind arguments k));
    result = λ e. three (in_right v (behind ++ arguments) takers (value_list_in c.result v e));
    place = λ a i h l. place (Place v a i) h (own_place_in c.caller.arrays v a i l);
    place_by = λ a u i h. place (PlaceIn v a u i) h (inl refl);
    base = base;
  }
    where
      three : IsIn v (behind ++ arguments ++ takers) → ⊥
      three m = n (in_left v (behind ++ arguments ++ takers ++ places) bases (in_left v (behind ++ arguments ++ takers) places m))

      place : (op : Op) → HasOperation c.caller op → IsIn v (local_place c.caller.arrays op) → ⊥
      place op h m =
          n (in_left v (behind ++ arguments ++ takers ++ places) bases (in_right v (behind ++ arguments ++ takers) places
          (in_flat (local_places c.caller.arrays) c.caller.blocks h.block v h.has (in_flat (local_place c.caller.arrays) h.block.ops op v h.stands m))))

      base : IsBase c.caller v → ⊥
      base (made a x h) = place (Base v a x) h (inl refl)
      base (given a e) =
          let r = array_of_base c.caller.arrays a v e in
          n (in_right v (behind ++ arguments ++ takers ++ places) bases
          (in_flat (λ (array : Array). value_list array.base) c.caller.arrays r.0 v (get_in c.caller.arrays a r.0 r.1) (value_list_in r.0.base v r.2)))

  bank_there : (bank : Bank) (o : Option Bank) → is_bank bank o ≡ true → o ≡ Some bank
  bank_there General None e = absurd (false≢true e)
  bank_there General (Some General) e = refl
  bank_there General (Some Branch) e = absurd (false≢true e)
  bank_there Branch None e = absurd (false≢true e)
  bank_there Branch (Some General) e = absurd (false≢true e)
  bank_there Branch (Some Branch) e = refl

  pub free_exact : (bank : Bank) → AreFree c bank (free_of rows c bank)
  free_exact bank = record {
    ascends = filter_ascends (λ v. is_bank bank (slice_get c.caller.banks v) && not (is_among (kept rows c) v)) 0 (length c.caller.banks);
    exact = λ v. (there v, back v);
  }
    where
      there : (v : ℕ) → IsIn v (free_of rows c bank) → Has c.caller v bank × IsFree c v
      there v m =
          let r = in_filtered (λ v. is_bank bank (slice_get c.caller.banks v) && not (is_among (kept rows c) v)) (numbers 0 (length c.caller.banks)) v m in
          let p = and_parts (is_bank bank (slice_get c.caller.banks v)) (not (is_among (kept rows c) v)) r.1 in
          (bank_there bank (slice_get c.caller.banks v) p.0, kept_free v (λ k. not_both (is_among (kept rows c) v) (in_any v (kept rows c) k) p.1))

      back : (v : ℕ) → Has c.caller v bank × IsFree c v → IsIn v (free_of rows c bank)
      back v h =
          let l : v < length c.caller.banks = slice_get_within c.caller.banks v bank h.0 in
          filter_in (λ v. is_bank bank (slice_get c.caller.banks v) && not (is_among (kept rows c) v)) (numbers 0 (length c.caller.banks)) v (numbers_in 0 (length c.caller.banks) v (omega arith) (omega (arith, l)))
          (both_true (ap (is_bank bank) h.0 ∙ is_bank_here bank) (not_of (is_among (kept rows c) v) (λ e. free_kept v h.1 (any_in v (kept rows c) e))))

  pub enough_exact : IsTrue (has_values rows c) ↔ HasEnough c
  enough_exact = (there, back)
    where
      there : has_values rows c ≡ true → HasEnough c
      there e =
          let p = and_parts (is_enough rows c General) (is_enough rows c Branch) e in
          record { free = free_of rows c; are_free = free_exact; enough = enough p.0 p.1 }
        where
          enough : is_enough rows c General ≡ true → is_enough rows c Branch ≡ true → (bank : Bank) → length (named c.callee bank) ≤ length (free_of rows c bank)
          enough g b General = leb-true (length (named c.callee General)) (length (free_of rows c General)) g
          enough g b Branch = leb-true (length (named c.callee Branch)) (length (free_of rows c Branch)) b

      one : (h : HasEnough c) (bank : Bank) → is_enough rows c bank ≡ true
      one h bank = le-leb (length (named c.callee bank)) (length (free_of rows c bank)) (subst (λ l. length (named c.callee bank) ≤ length l) (frees_same c bank (h.free bank) (free_of rows c bank) (h.are_free bank) (free_exact bank)) (h.enough bank))

      back : HasEnough c → has_values rows c ≡ true
      back h = both_true (one h General) (one h Branch)
