-- The blocks of each function that call, as they are listed, and as a call that is inlined changes them.
use Rattle.std.proofs.Common.{◌≡◌, inl, inr, ℕ, zero, suc, ◌+◌, ◌<◌, true, cond, List, [], ◌∷◌, ◌++◌, length, map, drop, get_or, slice_get, slice_set, Option, Some, None, sym, ap, ◌∙◌, subst, arith, append_assoc}
use Rattle.vx_flow.specs.declared.graph.Block.{Block}
use Rattle.vx_flow.specs.declared.graph.Flow.{Flow}
use Rattle.vx_flow.specs.declared.graph.Graph.{Graph}
use Rattle.vx_flow.specs.Effects.{IsIn}
use Rattle.vx_lower.proofs.Base.{map_set}
use Rattle.vx_inline.specs.declared.site.Site.{Site}
use Rattle.vx_inline.specs.CallPlaces.{ListsCalls, call_place, call_places, calling_blocks}
use Rattle.vx_inline.specs.Counts.{is_call}
use Rattle.vx_inline.specs.Fitting.{is_calling}
use Rattle.vx_inline.specs.Inlined.{CallAt, Inlined, inlined_blocks}
use Rattle.vx_inline.proofs.Splicing.{at_next}

-- one block more
pub places_next : (blocks : List Block) (i : ℕ) (d : Block) (now new target : List ℕ) → i < length blocks → d ≡ get_or blocks i d → now ++ call_places i (drop i blocks) ≡ target → new ≡ now ++ call_place i d → new ++ call_places (i + 1) (drop (i + 1) blocks) ≡ target
places_next blocks i d now new target l e h n =
    let a : suc i ≡ i + 1 = omega arith in
    ap (λ x. x ++ call_places (i + 1) (drop (i + 1) blocks)) n ∙ append_assoc now (call_place i d) (call_places (i + 1) (drop (i + 1) blocks)) ∙
    ap (λ x. now ++ x) (ap (λ k. call_place i d ++ call_places k (drop (i + 1) blocks)) (sym a) ∙ sym (at_next (call_places i) blocks i d l e)) ∙ h

-- ---- with a call inlined

set_get : {A : Type 0} (xs : List A) (i : ℕ) (x y : A) → slice_get (slice_set xs i x) i ≡ Some y → x ≡ y
set_get [] i x y e = absurd (cc)
set_get (z ∷ zs) zero x y e = cc
set_get (z ∷ zs) (suc i) x y e = set_get zs i x y e

pub calls_anew : (new : Flow) (graph : Graph) (f : ℕ) (calls next : List (List ℕ)) (own : List ℕ) → slice_get new.functions f ≡ Some graph → own ≡ calling_blocks graph → next ≡ slice_set calls f own →
    (flow : Flow) (site : Site) → Inlined flow site new → site.function ≡ f → ListsCalls flow calls → ListsCalls new next
calls_anew new graph f calls next own e o q flow site i same k =
    let after : Graph = record i.call.parts.caller { blocks = inlined_blocks i.call.parts site.block i.free } in
    let row : new.functions ≡ slice_set flow.functions f after = ap (λ (x : Flow). x.functions) i.is ∙ ap (λ j. slice_set flow.functions j after) same in
    let is : after ≡ graph = set_get flow.functions f after graph (sym (ap (λ gs. slice_get gs f) row) ∙ e) in
    q ∙ ap (λ z. slice_set z f own) k ∙ ap (slice_set (map calling_blocks flow.functions) f) (o ∙ ap calling_blocks (sym is)) ∙ sym (map_set calling_blocks flow.functions f after) ∙ ap (map calling_blocks) (sym row)

-- ---- what is listed

in_front : (x : ℕ) (xs ys : List ℕ) → IsIn x xs → IsIn x (xs ++ ys)
in_front x [] ys i = absurd i
in_front x (z ∷ zs) ys (inl e) = inl e
in_front x (z ∷ zs) ys (inr i) = inr (in_front x zs ys i)

in_back : (x : ℕ) (xs ys : List ℕ) → IsIn x ys → IsIn x (xs ++ ys)
in_back x [] ys i = i
in_back x (z ∷ zs) ys i = inr (in_back x zs ys i)

listed_from : (b k : ℕ) (blocks : List Block) (block : Block) → slice_get blocks k ≡ Some block → is_calling block ≡ true → IsIn (b + k) (call_places b blocks)
listed_from b k [] block e c = absurd (cc)
listed_from b zero (x ∷ xs) block e c =
    let is : x ≡ block = cc in
    let t : is_calling x ≡ true = ap is_calling is ∙ c in
    let z : b + 0 ≡ b = omega arith in
    in_front (b + 0) (call_place b x) (call_places (suc b) xs) (subst (λ s. IsIn (b + 0) (cond s (b ∷ []) [])) (sym t) (inl z))
listed_from b (suc k) (x ∷ xs) block e c =
    let z : suc b + k ≡ b + suc k = omega arith in
    in_back (b + suc k) (call_place b x) (call_places (suc b) xs) (subst (λ j. IsIn j (call_places (suc b) xs)) z (listed_from (suc b) k xs block e c))

-- a block that calls is listed
pub listed_there : (g : Graph) (b : ℕ) (block : Block) → slice_get g.blocks b ≡ Some block → is_calling block ≡ true → IsIn b (calling_blocks g)
listed_there g b block e c = let z : 0 + b ≡ b = omega arith in subst (λ j. IsIn j (calling_blocks g)) z (listed_from 0 b g.blocks block e c)

map_get : {A B : Type 0} (f : A → B) (xs : List A) (i : ℕ) (x : A) → slice_get xs i ≡ Some x → slice_get (map f xs) i ≡ Some (f x)
map_get f [] i x e = absurd (cc)
map_get f (y ∷ ys) zero x e = let q : y ≡ x = cc in ap (λ z. Some (f z)) q
map_get f (y ∷ ys) (suc i) x e = map_get f ys i x e

-- the blocks of a function that call
pub listed_of : (flow : Flow) (calls : List (List ℕ)) (f : ℕ) (g : Graph) → ListsCalls flow calls → slice_get flow.functions f ≡ Some g → slice_get calls f ≡ Some (calling_blocks g)
listed_of flow calls f g k e = ap (λ z. slice_get z f) k ∙ map_get calling_blocks flow.functions f g e

pub site_listed : (flow : Flow) (site : Site) (calls : List (List ℕ)) (row : List ℕ) → ListsCalls flow calls → slice_get calls site.function ≡ Some row → CallAt flow site → IsIn site.block row
site_listed flow site calls row k e c =
    let both : Option.Some row ≡ Some (calling_blocks c.parts.caller) = sym e ∙ listed_of flow calls site.function c.parts.caller k c.is_caller in
    let is : calling_blocks c.parts.caller ≡ row = cc in
    subst (IsIn site.block) is (listed_there c.parts.caller site.block c.parts.block c.is_block (ap is_call c.ends))

pub none_listed : (flow : Flow) (site : Site) (calls : List (List ℕ)) → ListsCalls flow calls → slice_get calls site.function ≡ None → CallAt flow site → ⊥
none_listed flow site calls k e c = let both : Option.None ≡ Some (calling_blocks c.parts.caller) = sym e ∙ listed_of flow calls site.function c.parts.caller k c.is_caller in cc
