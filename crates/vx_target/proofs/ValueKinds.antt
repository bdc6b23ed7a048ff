-- The kind of each value of a sound graph: of a place, of a base, and of what is neither.
use Rattle.std.proofs.Common.{◌≡◌, inl, inr, ⊎_elim, ℕ, Bool, true, false, ◌&&◌, not, eqb, Option, Some, None, List, [], ◌∷◌, refl, sym, ap, ◌∙◌, subst}
use Rattle.std.specs.Prelude.{if◌then◌else◌, slice_get}
use Rattle.std.specs.List.{flat_map}
use Rattle.std.proofs.lemmas.Bool.{eqb-true, eq-eqb, and_from, and_parts, false_from_ne_true}
use Rattle.vx_flow.specs.declared.graph.Array.{Array}
use Rattle.vx_flow.specs.declared.graph.Graph.{Graph}
use Rattle.vx_flow.specs.declared.graph.Operand.{Operand}
use Rattle.vx_flow.specs.declared.graph.Op.{Op}
use Rattle.vx_flow.specs.declared.graph.Op.TheVariants.{Place, PlaceIn}
use Rattle.vx_flow.specs.Effects.{IsIn}
use Rattle.vx_flow.specs.Sound.{is_given, is_own, is_local, is_handed, base_of, base_at, is_base, HasOperation, MakesPlace, by_itself, by_base, IsPlace, in_own, in_handed, IsBase, Sound}
use Rattle.vx_flow.proofs.Members.{in_left, in_right, in_either}
use Rattle.vx_flow.proofs.SoundFlowLaw.{tested_base, base_tested}
use Rattle.vx_flow.proofs.SoundLists.{any_in, any_of}
use Rattle.vx_target.specs.Tied.{Itself, InFrame, InHanded, AsBase, places_own, has_own_place, is_own_place, placed_by_base, placed_in_block, handed_of, kind_by, value_kind}

-- lists of lists

record FromList {A B : Type 0} (f : A → List B) (y : B) (xs : List A) : Type 0 where
  item : A
  has : IsIn item xs
  names : IsIn y (f item)

from_list : {A B : Type 0} (f : A → List B) (y : B) (xs : List A) → IsIn y (flat_map f xs) → FromList f y xs
from_list f y [] i = absurd i
from_list f y (x ∷ xs) i = ⊎_elim
    (λ j. record { item = x; has = inl refl; names = j })
    (λ j. let r = from_list f y xs j in record { item = r.item; has = inr r.has; names = r.names })
    (in_either y (f x) (flat_map f xs) i)

in_lists : {A B : Type 0} (f : A → List B) (y : B) (xs : List A) (x : A) → IsIn x xs → IsIn y (f x) → IsIn y (flat_map f xs)
in_lists f y [] x m i = absurd m
in_lists f y (z ∷ zs) x (inl e) i = in_left y (f z) (flat_map f zs) (subst (λ a. IsIn y (f a)) e i)
in_lists f y (z ∷ zs) x (inr m) i = in_right y (f z) (flat_map f zs) (in_lists f y zs x m i)

-- arrays

not_both : (b : Bool) → (b && false) ≡ false
not_both true = refl
not_both false = refl

handed_not_own : (o : Option Array) (u : ℕ) → base_of o ≡ Some u → is_own o ≡ false
handed_not_own None u e = absurd (cc)
handed_not_own (Some array) u e = ap (λ b. not array.global && not (is_given b)) e ∙ not_both (not array.global)

-- an array that was handed over is no local one
pub handed_not_local : (arrays : List Array) (a u : ℕ) → base_at arrays a ≡ Some u → is_local arrays a ≡ false
handed_not_local arrays a u e = handed_not_own (slice_get arrays a) u e

-- what makes a value a place

-- an operation makes the value a place of a local array
pub record OwnMade (g : Graph) (v : ℕ) : Type 0 where
  pub array : ℕ
  pub index : Operand
  pub has : HasOperation g (Place v array index)
  pub local : is_local g.arrays array ≡ true

-- one makes it a place by a base
pub record HandedMade (g : Graph) (v a : ℕ) : Type 0 where
  pub base : ℕ
  pub index : Operand
  pub has : HasOperation g (PlaceIn v a base index)

own_op : (g : Graph) (v : ℕ) (op : Op) → places_own g v op ≡ true → (a : ℕ) × (i : Operand) × (op ≡ Place v a i) × (is_local g.arrays a ≡ true)
own_op g v (Place u a i) e =
    let parts = and_parts (eqb u v) (is_local g.arrays a) e in
    (a, i, ap (λ x. Place x a i) (eqb-true u v parts.0), parts.1)
own_op g v op e = absurd cc

pub own_made : (g : Graph) (v : ℕ) → is_own_place g v ≡ true → OwnMade g v
own_made g v e =
    let b = any_in (has_own_place g v) g.blocks e in
    let o = any_in (places_own g v) b.item.ops b.holds in
    let k = own_op g v o.item o.holds in
    record { array = k.0; index = k.1; has = record { block = b.item; has = b.has; stands = subst (λ x. IsIn x b.item.ops) k.2 o.has }; local = k.3 }

pub own_tested : (g : Graph) (v a : ℕ) (i : Operand) → HasOperation g (Place v a i) → is_local g.arrays a ≡ true → is_own_place g v ≡ true
own_tested g v a i has local = any_of (has_own_place g v) g.blocks has.block has.has (any_of (places_own g v) has.block.ops (Place v a i) has.stands (and_from (eqb v v) (is_local g.arrays a) (eq-eqb v v refl) local))

handed_op : (v a : ℕ) (op : Op) → IsIn a (placed_by_base v op) → (u : ℕ) × (i : Operand) × (op ≡ PlaceIn v a u i)
handed_op v a (PlaceIn y b u i) e = by (eqb y v) refl e
  where
    by : (t : Bool) → eqb y v ≡ t → IsIn a (if t then b ∷ [] else []) → (w : ℕ) × (j : Operand) × (PlaceIn y b u i ≡ PlaceIn v a w j)
    by true q (inl k) = (u, i, ap (λ x. PlaceIn x b u i) (eqb-true y v q) ∙ ap (λ x. PlaceIn v x u i) (sym k))
    by true q (inr k) = absurd k
    by false q k = absurd k
handed_op v a op e = absurd e

pub handed_made : (g : Graph) (v a : ℕ) → IsIn a (handed_of g v) → HandedMade g v a
handed_made g v a i =
    let b = from_list (placed_in_block v) a g.blocks i in
    let o = from_list (placed_by_base v) a b.item.ops b.names in
    let k = handed_op v a o.item o.names in
    record { base = k.0; index = k.1; has = record { block = b.item; has = b.has; stands = subst (λ x. IsIn x b.item.ops) k.2 o.has } }

pub handed_tested : (g : Graph) (v a u : ℕ) (i : Operand) → HasOperation g (PlaceIn v a u i) → IsIn a (handed_of g v)
handed_tested g v a u i has =
    in_lists (placed_in_block v) a g.blocks has.block has.has (in_lists (placed_by_base v) a has.block.ops (PlaceIn v a u i) has.stands (subst (λ t. IsIn a (if t then a ∷ [] else [])) (sym (eq-eqb v v refl)) (inl refl)))

-- kinds

kind_is : (g : Graph) (v : ℕ) (own : Bool) (handed : List ℕ) (base : Bool) → is_own_place g v ≡ own → handed_of g v ≡ handed → is_base g v ≡ base → value_kind g v ≡ kind_by own handed base v
kind_is g v own handed base eo eh eb = ap (λ x. kind_by x (handed_of g v) (is_base g v) v) eo ∙ ap (λ x. kind_by own x (is_base g v) v) eh ∙ ap (λ x. kind_by own handed x v) eb

made_same : (v w a b : ℕ) (i : Operand) → MakesPlace v a (Place w b i) → b ≡ a
made_same v w a b i by_itself = refl

placed_same : (v w a b u : ℕ) (i : Operand) → MakesPlace v a (PlaceIn w b u i) → b ≡ a
placed_same v w a b u i by_base = refl

module _ (g : Graph) (sound : Sound g) (v : ℕ) where
  -- a value that is no place is in no list of places

  not_own : ((a : ℕ) → IsPlace g v a → ⊥) → is_own_place g v ≡ false
  not_own h = false_from_ne_true (is_own_place g v) (λ e. let m = own_made g v e in h m.array (in_own m.index m.has m.local))

  not_handed : ((a : ℕ) → IsPlace g v a → ⊥) → handed_of g v ≡ []
  not_handed h = by (handed_of g v) refl
    where
      by : (xs : List ℕ) → handed_of g v ≡ xs → handed_of g v ≡ []
      by [] e = e
      by (a ∷ xs) e = absurd (let m = handed_made g v a (subst (λ ys. IsIn a ys) (sym e) (inl refl)) in h a (in_handed m.base m.index m.has))

  -- what is no place and no base is shown by itself
  pub plain_value : ((a : ℕ) → IsPlace g v a → ⊥) → (IsBase g v → ⊥) → value_kind g v ≡ Itself
  plain_value h k = kind_is g v false [] false (not_own h) (not_handed h) (false_from_ne_true (is_base g v) (λ e. k (tested_base g v e)))

  -- a base is no place, since it is written only as a base
  pub base_no_place : IsBase g v → (a : ℕ) → IsPlace g v a → ⊥
  base_no_place b a (in_own i has local) = let w = sound.base_written v (Place v a i) b has (inl refl) in absurd (let q = w.2 in cc)
  base_no_place b a (in_handed u i has) = let w = sound.base_written v (PlaceIn v a u i) b has (inl refl) in absurd (let q = w.2 in cc)

  pub base_value : IsBase g v → value_kind g v ≡ AsBase v
  base_value b = kind_is g v false [] true (not_own (base_no_place b)) (not_handed (base_no_place b)) (base_tested g v b)

  pub own_value : (a : ℕ) (i : Operand) → HasOperation g (Place v a i) → is_local g.arrays a ≡ true → value_kind g v ≡ InFrame
  own_value a i has local = kind_is g v true (handed_of g v) (is_base g v) (own_tested g v a i has local) refl refl

  -- a place in an array that was handed over is none of a local array, and of that array alone
  pub handed_value : (a u : ℕ) (i : Operand) → HasOperation g (PlaceIn v a u i) → value_kind g v ≡ InHanded a
  handed_value a u i has = by (handed_of g v) refl
    where
      place : IsPlace g v a
      place = in_handed u i has

      none_own : is_own_place g v ≡ false
      none_own = false_from_ne_true (is_own_place g v) (λ e.
          let m = own_made g v e in
          let same = made_same v v a m.array m.index (sound.place_written v a (Place v m.array m.index) place m.has (inl refl)) in
          let yes : is_local g.arrays a ≡ true = subst (λ b. is_local g.arrays b ≡ true) same m.local in
          absurd (let z : true ≡ false = sym yes ∙ handed_not_local g.arrays a u (sound.place_base v a u i has) in cc))

      by : (xs : List ℕ) → handed_of g v ≡ xs → value_kind g v ≡ InHanded a
      by [] e = absurd (subst (λ ys. IsIn a ys) e (handed_tested g v a u i has))
      by (b ∷ xs) e =
          let m = handed_made g v b (subst (λ ys. IsIn b ys) (sym e) (inl refl)) in
          let same = placed_same v v a b m.base m.index (sound.place_written v a (PlaceIn v b m.base m.index) place m.has (inl refl)) in
          kind_is g v false (b ∷ xs) (is_base g v) none_own e refl ∙ ap InHanded same

  -- a place is of the kind of its array
  pub place_kind : (a : ℕ) → IsPlace g v a → value_kind g v ≡ (if is_local g.arrays a then InFrame else if is_handed g.arrays a then InHanded a else Itself)
  place_kind a (in_own i has local) = own_value a i has local ∙ sym (ap (λ b. if b then InFrame else if is_handed g.arrays a then InHanded a else Itself) local)
  place_kind a (in_handed u i has) =
      let e = sound.place_base v a u i has in
      handed_value a u i has
      ∙ sym (ap (λ b. if b then InFrame else if is_handed g.arrays a then InHanded a else Itself) (handed_not_local g.arrays a u e) ∙ ap (λ b. if is_given b then InHanded a else Itself) e)

  -- each value is one of these
  pub data Told : Type 0 where
    plain : value_kind g v ≡ Itself → ((a : ℕ) → IsPlace g v a → ⊥) → (IsBase g v → ⊥) → Told
    own : (a : ℕ) → value_kind g v ≡ InFrame → IsPlace g v a → is_local g.arrays a ≡ true → Told
    handed : (a u : ℕ) → value_kind g v ≡ InHanded a → IsPlace g v a → base_at g.arrays a ≡ Some u → Told
    as_base : value_kind g v ≡ AsBase v → IsBase g v → Told

  pub told : Told
  told = by (is_own_place g v) refl (handed_of g v) refl (is_base g v) refl
    where
      by : (o : Bool) → is_own_place g v ≡ o → (xs : List ℕ) → handed_of g v ≡ xs → (b : Bool) → is_base g v ≡ b → Told
      by true eo xs eh b eb = let m = own_made g v eo in own m.array (own_value m.array m.index m.has m.local) (in_own m.index m.has m.local) m.local
      by false eo (a ∷ xs) eh b eb =
          let m = handed_made g v a (subst (λ ys. IsIn a ys) (sym eh) (inl refl)) in
          handed a m.base (handed_value a m.base m.index m.has) (in_handed m.base m.index m.has) (sound.place_base v a m.base m.index m.has)
      by false eo [] eh true eb = let b = tested_base g v eb in as_base (base_value b) b
      by false eo [] eh false eb = plain (kind_is g v false [] false eo eh eb) none (λ b. absurd (let z : true ≡ false = sym (base_tested g v b) ∙ eb in cc))
        where
          none : (a : ℕ) → IsPlace g v a → ⊥
          none a (in_own i has local) = absurd (let z : true ≡ false = sym (own_tested g v a i has local) ∙ eo in cc)
          none a (in_handed u i has) = absurd (subst (λ ys. IsIn a ys) eh (handed_tested g v a u i has))
