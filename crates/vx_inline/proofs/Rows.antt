-- The worked call.
use Rattle.std.proofs.Common.{◌≡◌, ◌⊎◌, inl, inr, ℕ, zero, suc, ◌+◌, ◌<◌, ◌≤◌, pos, List, [], ◌∷◌, length, slice_get, Option, Some, refl, sym, ap, ◌∙◌, subst, arith}
use Rattle.std.specs.List.{flat_map}
use Rattle.vx_base.specs.declared.arithmetic.Code.{Code}
use Rattle.vx_flow.specs.declared.graph.Operand.{Operand}
use Rattle.vx_flow.specs.declared.graph.Operand.TheVariants.{Held, Number}
use Rattle.vx_flow.specs.declared.graph.Bank.{Bank}
use Rattle.vx_flow.specs.declared.graph.Bank.TheVariants.{General, Branch}
use Rattle.vx_flow.specs.declared.graph.Op.TheVariants.{Compute, Place, Decimal, Base, PlaceIn}
use Rattle.vx_flow.specs.declared.graph.Exit.TheVariants.{Call, Return}
use Rattle.vx_flow.specs.declared.graph.Block.{Block}
use Rattle.vx_flow.specs.declared.graph.Graph.{Graph}
use Rattle.vx_flow.specs.Effects.{IsIn, value_in}
use Rattle.vx_flow.specs.Live.{IsLive, here, beyond, ReadsFirst}
use Rattle.vx_flow.specs.Sound.{HasOperation, HasExit, Has, IsBase, given, made, targets_of}
use Rattle.vx_inline.specs.declared.site.Site.{Site}
use Rattle.vx_inline.specs.Inlined.{IsPermitted, CallAt, CallsTo, Reaches, calls, through, OnCycle, IsFree, AreFree, Ascends, named, move}
use Rattle.vx_inline.specs.Rows.{row_of_values, first_block, last_block, twice, before, the_site, RowIsInlined, RowIsNotPermitted, RowIsChosen, RowHasNone, EdgesGetBlocks}

-- what holds of what is read first, and is handed on along edges, holds of what is live
pub live_so : (g : Graph) (P : ℕ → ℕ → Type 0) → ((b v : ℕ) (block : Block) → slice_get g.blocks b ≡ Some block → ReadsFirst block.ops block.exit v → P b v) →
    ((b d v : ℕ) (block : Block) → slice_get g.blocks b ≡ Some block → IsIn d (targets_of block.exit) → P d v → P b v) → (b v : ℕ) → IsLive g b v → P b v
live_so g P first on b v (here {block = block} e r) = first b v block e r
live_so g P first on b v (beyond {c = d} {block = block} e n m l) = on b d v block e m (live_so g P first on d v l)

-- what is live behind the call is value 1
abbrev BehindOne : ℕ → ℕ → Type 0
BehindOne b v = b ≡ 1 → v ≡ 1

block_one : (n b : ℕ) (block : Block) → b ≡ 1 → slice_get (row_of_values n (first_block ∷ last_block ∷ [])).blocks b ≡ Some block → last_block ≡ block
block_one n b block i e = let q : slice_get (first_block ∷ last_block ∷ []) 1 ≡ Some block = ap (slice_get (first_block ∷ last_block ∷ [])) (sym i) ∙ e in cc

one_read : (v : ℕ) → ReadsFirst last_block.ops last_block.exit v → v ≡ 1
one_read v (inl (inl e)) = e
one_read v (inl (inr z)) = absurd z
one_read v (inr r) = absurd r.1

live_behind : (n v : ℕ) → IsLive (row_of_values n (first_block ∷ last_block ∷ [])) 1 v → v ≡ 1
live_behind n v l = live_so (row_of_values n (first_block ∷ last_block ∷ [])) BehindOne
    (λ b v block e r i. one_read v (subst (λ (x : Block). ReadsFirst x.ops x.exit v) (sym (block_one n b block i e)) r))
    (λ b d v block e m k i. absurd (subst (λ (x : Block). IsIn d (targets_of x.exit)) (sym (block_one n b block i e)) m)) 1 v l refl

-- calls

blocks_of : (n : ℕ) (block : Block) → IsIn block (first_block ∷ last_block ∷ []) → (block ≡ first_block) ⊎ (block ≡ last_block)
blocks_of n block (inl e) = inl e
blocks_of n block (inr (inl e)) = inr e
blocks_of n block (inr (inr z)) = absurd z

twice_calls_none : (f next : ℕ) (arguments : List Operand) (result : Option ℕ) → HasExit twice (Call f arguments result next) → ⊥
twice_calls_none f next arguments result h = by h.has
  where
    by : IsIn h.block twice.blocks → ⊥
    by (inl e) = let q : Call f arguments result next ≡ Return (Held 1) = h.ends ∙ ap (λ (x : Block). x.exit) e in cc
    by (inr z) = z

-- only function 0 calls, and it calls function 1
calls_so : (n f g : ℕ) → CallsTo (before n) f g → (f ≡ 0) × (g ≡ 1)
calls_so n zero g k = (refl, by (blocks_of n k.has.block (subst (λ (x : Graph). IsIn k.has.block x.blocks) (sym same) k.has.has)))
  where
    same : row_of_values n (first_block ∷ last_block ∷ []) ≡ k.graph
    same = let e : Some (row_of_values n (first_block ∷ last_block ∷ [])) ≡ Some k.graph = k.is in cc

    by : (k.has.block ≡ first_block) ⊎ (k.has.block ≡ last_block) → g ≡ 1
    by (inl e) = let q : Call g k.arguments k.result k.next ≡ Call 1 (Held 0 ∷ []) (Some 1) 1 = k.has.ends ∙ ap (λ (x : Block). x.exit) e in cc
    by (inr e) = let q : Call g k.arguments k.result k.next ≡ Return (Number (pos 0)) = k.has.ends ∙ ap (λ (x : Block). x.exit) e in absurd (cc)
calls_so n (suc zero) g k =
    let same : twice ≡ k.graph = (let e : Some twice ≡ Some k.graph = k.is in cc) in
    absurd (twice_calls_none g k.next k.arguments k.result (subst (λ x. HasExit x (Call g k.arguments k.result k.next)) (sym same) k.has))
calls_so n (suc (suc f)) g k = let e : Option.None ≡ Some k.graph = k.is in absurd (cc)

reaches_so : (n f g : ℕ) → Reaches (before n) f g → (f ≡ 0) × (g ≡ 1)
reaches_so n f g (calls k) = calls_so n f g k
reaches_so n f g (through {g = h} k r) = ((calls_so n f h k).0, (reaches_so n h g r).1)

on_none : (n f : ℕ) → OnCycle (before n) f → ⊥
on_none n f o = let r = reaches_so n f f o in let a : f ≡ 0 = r.0 in let b : f ≡ 1 = r.1 in omega (arith, a, b)

-- operations

place_none : (n v a : ℕ) (i : Operand) → HasOperation (row_of_values n (first_block ∷ last_block ∷ [])) (Place v a i) → ⊥
place_none n v a i h = by (blocks_of n h.block h.has)
  where
    by : (h.block ≡ first_block) ⊎ (h.block ≡ last_block) → ⊥
    by (inl e) = elim (subst (λ (x : Block). IsIn (Place v a i) x.ops) e h.stands) [ inl q ↦ (let k : Place v a i ≡ move 0 (Number (pos 4)) = q in cc) | inr z ↦ z ]
    by (inr e) = elim (subst (λ (x : Block). IsIn (Place v a i) x.ops) e h.stands) [ inl q ↦ (let k : Place v a i ≡ Decimal (Held 1) = q in cc) | inr z ↦ z ]

place_in_none : (n v a u : ℕ) (i : Operand) → HasOperation (row_of_values n (first_block ∷ last_block ∷ [])) (PlaceIn v a u i) → ⊥
place_in_none n v a u i h = by (blocks_of n h.block h.has)
  where
    by : (h.block ≡ first_block) ⊎ (h.block ≡ last_block) → ⊥
    by (inl e) = elim (subst (λ (x : Block). IsIn (PlaceIn v a u i) x.ops) e h.stands) [ inl q ↦ (let k : PlaceIn v a u i ≡ move 0 (Number (pos 4)) = q in cc) | inr z ↦ z ]
    by (inr e) = elim (subst (λ (x : Block). IsIn (PlaceIn v a u i) x.ops) e h.stands) [ inl q ↦ (let k : PlaceIn v a u i ≡ Decimal (Held 1) = q in cc) | inr z ↦ z ]

base_none : (n v : ℕ) → IsBase (row_of_values n (first_block ∷ last_block ∷ [])) v → ⊥
base_none n v (given zero e) = let q : Option.None ≡ Some v = e in cc
base_none n v (given (suc a) e) = let q : Option.None ≡ Some v = e in cc
base_none n v (made a x h) = by (blocks_of n h.block h.has)
  where
    by : (h.block ≡ first_block) ⊎ (h.block ≡ last_block) → ⊥
    by (inl e) = elim (subst (λ (z : Block). IsIn (Base v a x) z.ops) e h.stands) [ inl q ↦ (let k : Base v a x ≡ move 0 (Number (pos 4)) = q in cc) | inr z ↦ z ]
    by (inr e) = elim (subst (λ (z : Block). IsIn (Base v a x) z.ops) e h.stands) [ inl q ↦ (let k : Base v a x ≡ Decimal (Held 1) = q in cc) | inr z ↦ z ]

twice_makes_none : (v a : ℕ) (x : Operand) → HasOperation twice (Base v a x) → ⊥
twice_makes_none v a x h = elim h.has [ inl e ↦ by e | inr z ↦ z ]
  where
    by : h.block ≡ record { ops = Compute Code.Add 1 (Held 0) (Held 0) ∷ []; exit = Return (Held 1) } → ⊥
    by e = elim (subst (λ (z : Block). IsIn (Base v a x) z.ops) e h.stands) [ inl q ↦ (let k : Base v a x ≡ Compute Code.Add 1 (Held 0) (Held 0) = q in cc) | inr z ↦ z ]

abbrev the_call : (n : ℕ) → CallAt (before n) the_site
the_call n = record {
  parts = record { caller = row_of_values n (first_block ∷ last_block ∷ []); block = first_block; called = 1; arguments = Held 0 ∷ []; result = Some 1; next = 1; callee = twice };
  is_caller = refl;
  is_block = refl;
  ends = refl;
  is_callee = refl;
}

abbrev the_free : Bank → List ℕ
the_free General = 2 ∷ 3 ∷ []
the_free Branch = []

unread : (v : ℕ) → (v ≡ 0 → ⊥) → IsIn v (flat_map value_in (Held 0 ∷ [])) → ⊥
unread v n (inl e) = n e
unread v n (inr z) = z

free_here : (v : ℕ) → (v ≡ 0 → ⊥) → (v ≡ 1 → ⊥) → IsFree (the_call 4).parts v
free_here v n m = record {
  dead = λ l. m (live_behind 4 v l);
  argument = λ k. unread v n k;
  result = λ (e : Some 1 ≡ Some v). m (let q : 1 ≡ v = cc in sym q);
  place = λ a i h l. place_none 4 v a i h;
  place_by = λ a u i h. place_in_none 4 v a u i h;
  base = λ b. base_none 4 v b;
}

general_free : (v : ℕ) → IsIn v (2 ∷ 3 ∷ []) → Has (row_of_values 4 (first_block ∷ last_block ∷ [])) v General × IsFree (the_call 4).parts v
general_free v (inl e) =
    (subst (λ z. Has (row_of_values 4 (first_block ∷ last_block ∷ [])) z General) (sym e) refl, free_here v (λ i. (let q : v ≡ 2 = e in omega (arith, q, i))) (λ i. (let q : v ≡ 2 = e in omega (arith, q, i))))
general_free v (inr (inl e)) =
    (subst (λ z. Has (row_of_values 4 (first_block ∷ last_block ∷ [])) z General) (sym e) refl, free_here v (λ i. (let q : v ≡ 3 = e in omega (arith, q, i))) (λ i. (let q : v ≡ 3 = e in omega (arith, q, i))))
general_free v (inr (inr z)) = absurd z

free_general : (v : ℕ) → Has (row_of_values 4 (first_block ∷ last_block ∷ [])) v General → IsFree (the_call 4).parts v → IsIn v (2 ∷ 3 ∷ [])
free_general zero h f = absurd (f.argument (inl refl))
free_general (suc zero) h f = absurd (f.result refl)
free_general (suc (suc zero)) h f = inl refl
free_general (suc (suc (suc zero))) h f = inr (inl refl)
free_general (suc (suc (suc (suc v)))) h f = let e : Option.None ≡ Some General = h in absurd (cc)

no_branch : (v : ℕ) → Has (row_of_values 4 (first_block ∷ last_block ∷ [])) v Branch → ⊥
no_branch zero h = let e : Some General ≡ Some Branch = h in cc
no_branch (suc zero) h = let e : Some General ≡ Some Branch = h in cc
no_branch (suc (suc zero)) h = let e : Some General ≡ Some Branch = h in cc
no_branch (suc (suc (suc zero))) h = let e : Some General ≡ Some Branch = h in cc
no_branch (suc (suc (suc (suc v)))) h = let e : Option.None ≡ Some Branch = h in cc

frees : (bank : Bank) → AreFree (the_call 4).parts bank (the_free bank)
frees General = record {
  ascends = (λ u m. elim m [ inl e ↦ (let q : u ≡ 3 = e in let l : 2 < u = omega (arith, q) in l) | inr z ↦ absurd z ], (λ u m. absurd m, tt));
  exact = λ v. (general_free v, λ h. free_general v h.0 h.1);
}
frees Branch = record { ascends = tt; exact = λ v. (λ m. absurd m, λ h. absurd (no_branch v h.0)) }

enough_free : (bank : Bank) → length (named twice bank) ≤ length (the_free bank)
enough_free General = let l : 2 ≤ 2 = omega arith in l
enough_free Branch = let l : 0 ≤ 0 = omega arith in l

short_callee : (b : ℕ) (block : Block) (x : Operand) → slice_get twice.blocks b ≡ Some block → block.exit ≡ Return x → length block.ops + 1 ≤ 512
short_callee zero block x e r =
    let q : record { ops = Compute Code.Add 1 (Held 0) (Held 0) ∷ []; exit = Return (Held 1) } ≡ block = cc in
    subst (λ (z : Block). length z.ops + 1 ≤ 512) q (let l : 2 ≤ 512 = omega arith in l)
short_callee (suc b) block x e r = absurd (cc)

the_permitted : IsPermitted (before 4) the_site (the_call 4) the_free
the_permitted = record {
  alone = on_none 4 0;
  apart = λ f o r. on_none 4 f o;
  calls_none = twice_calls_none;
  bases_none = twice_makes_none;
  globals_alone = λ a array e. absurd (cc);
  are_free = frees;
  enough = enough_free;
  caller_short = (let l : 2 ≤ 512 = omega arith in l);
  callee_short = short_callee;
}

pub row_is_inlined : RowIsInlined
row_is_inlined = record { call = the_call 4; free = the_free; permitted = the_permitted; is = refl }

-- no other block calls
one_calls : (n : ℕ) (site : Site) → CallAt (before n) site → site ≡ the_site
one_calls n site c = by site.function site.block refl refl c.is_caller c.is_block
  where
    returns : (x : Operand) (block : Block) → block.exit ≡ Return x → block ≡ c.parts.block → ⊥
    returns x block e q = let k : Return x ≡ Call c.parts.called c.parts.arguments c.parts.result c.parts.next = sym e ∙ ap (λ (z : Block). z.exit) q ∙ c.ends in cc

    by : (f b : ℕ) → site.function ≡ f → site.block ≡ b → slice_get (before n).functions f ≡ Some c.parts.caller → slice_get c.parts.caller.blocks b ≡ Some c.parts.block → site ≡ the_site
    by zero zero e h i j = λ k. record { function = e k; block = h k }
    by zero (suc b) e h i j =
        let same : row_of_values n (first_block ∷ last_block ∷ []) ≡ c.parts.caller = cc in
        absurd (second b (subst (λ (g : Graph). slice_get g.blocks (suc b) ≡ Some c.parts.block) (sym same) j))
      where
        second : (b : ℕ) → slice_get (first_block ∷ last_block ∷ []) (suc b) ≡ Some c.parts.block → ⊥
        second zero j = returns (Number (pos 0)) last_block refl (let q : last_block ≡ c.parts.block = cc in q)
        second (suc b) j = cc
    by (suc zero) b e h i j =
        let same : twice ≡ c.parts.caller = cc in
        absurd (only b (subst (λ (g : Graph). slice_get g.blocks b ≡ Some c.parts.block) (sym same) j))
      where
        doubling : Block
        doubling = record { ops = Compute Code.Add 1 (Held 0) (Held 0) ∷ []; exit = Return (Held 1) }

        only : (b : ℕ) → slice_get twice.blocks b ≡ Some c.parts.block → ⊥
        only zero j = returns (Held 1) doubling refl (let q : doubling ≡ c.parts.block = cc in q)
        only (suc b) j = cc
    by (suc (suc f)) b e h i j = absurd (cc)

pub row_is_chosen : RowIsChosen
row_is_chosen counts most l = record {
  candidate = record { call = the_call 4; free = the_free; permitted = the_permitted; few = l };
  first = λ other k. inl (one_calls 4 other k.call);
}

-- ---- with three values

only_two : (v : ℕ) → Has (row_of_values 3 (first_block ∷ last_block ∷ [])) v General → (v ≡ 0 → ⊥) → (v ≡ 1 → ⊥) → v ≡ 2
only_two zero h n m = absurd (n refl)
only_two (suc zero) h n m = absurd (m refl)
only_two (suc (suc zero)) h n m = refl
only_two (suc (suc (suc v))) h n m = let e : Option.None ≡ Some General = h in absurd (cc)

at_most_one : (xs : List ℕ) → Ascends xs → ((v : ℕ) → IsIn v xs → v ≡ 2) → length xs ≤ 1
at_most_one [] a k = omega arith
at_most_one (x ∷ []) a k = omega arith
at_most_one (x ∷ y ∷ xs) a k =
    let l : x < y = a.0 y (inl refl) in
    let p : x ≡ 2 = k x (inl refl) in
    let q : y ≡ 2 = k y (inr (inl refl)) in
    absurd (omega (arith, l, p, q))

pub row_is_not_permitted : RowIsNotPermitted
row_is_not_permitted c free permitted =
    let caller_e : Some (row_of_values 3 (first_block ∷ last_block ∷ [])) ≡ Some c.parts.caller = c.is_caller in
    let caller_is : row_of_values 3 (first_block ∷ last_block ∷ []) ≡ c.parts.caller = cc in
    let block_e : Some first_block ≡ Some c.parts.block = subst (λ (g : Graph). slice_get g.blocks 0 ≡ Some c.parts.block) (sym caller_is) c.is_block in
    let block_is : first_block ≡ c.parts.block = cc in
    let ends : Call 1 (Held 0 ∷ []) (Some 1) 1 ≡ Call c.parts.called c.parts.arguments c.parts.result c.parts.next = ap (λ (b : Block). b.exit) block_is ∙ c.ends in
    let called_is : 1 ≡ c.parts.called = cc in
    let arguments_are : Held 0 ∷ [] ≡ c.parts.arguments = cc in
    let result_is : Some 1 ≡ c.parts.result = cc in
    let callee_e : Some twice ≡ Some c.parts.callee = ap (slice_get (before 3).functions) called_is ∙ c.is_callee in
    let callee_is : twice ≡ c.parts.callee = cc in
    let all_two : (v : ℕ) → IsIn v (free General) → v ≡ 2 =
    λ v m. (let k = ((permitted.are_free General).exact v).0 m in
    only_two v (subst (λ g. Has g v General) (sym caller_is) k.0)
    (λ i. k.1.argument (subst (λ xs. IsIn v (flat_map value_in xs)) arguments_are (inl i)))
    (λ i. k.1.result (sym result_is ∙ ap Some (sym i)))) in
    let one : length (free General) ≤ 1 = at_most_one (free General) (permitted.are_free General).ascends all_two in
    let two : 2 ≤ length (free General) = subst (λ g. length (named g General) ≤ length (free General)) (sym callee_is) (permitted.enough General) in
    omega (arith, one, two)

pub row_has_none : RowHasNone
row_has_none counts most site k = by site (one_calls 3 site k.call) k.call k.free k.permitted
  where
    by : (site : Site) → site ≡ the_site → (c : CallAt (before 3) site) (free : Bank → List ℕ) → IsPermitted (before 3) site c free → ⊥
    by site e = subst (λ s. (c : CallAt (before 3) s) (free : Bank → List ℕ) → IsPermitted (before 3) s c free → ⊥) (sym e) row_is_not_permitted

pub edges_get_blocks : EdgesGetBlocks
edges_get_blocks = refl
