-- What is asked of a call by itself, in words.
use Rattle.std.proofs.Common.{◌≡◌, ℕ, ◌+◌, ◌-◌, ◌<◌, ◌≤◌, Bool, true, false, cond, not, nat_lt, ◌&&◌, List, [], ◌∷◌, length, slice_get, Option, Some, refl, sym, ap, ◌∙◌, subst, arith, leb-true, le-leb, ltb-true, ltb-false}
use Rattle.std.proofs.lemmas.Bool.{false≢true, and_parts}
use Rattle.std.specs.Cmp.Derive.{both_true}
use Rattle.vx_flow.specs.declared.graph.Array.{Array}
use Rattle.vx_flow.specs.declared.graph.Bank.{Bank}
use Rattle.vx_flow.specs.declared.graph.Operand.{Operand}
use Rattle.vx_flow.specs.declared.graph.Op.{Op}
use Rattle.vx_flow.specs.declared.graph.Op.TheVariants.{Compute, Select, Place, Load, Store, More, Input, Text, Decimal, Across, Base, PlaceIn}
use Rattle.vx_flow.specs.declared.graph.Exit.{Exit}
use Rattle.vx_flow.specs.declared.graph.Exit.TheVariants.{Goto, Split, Call, Return, Ends}
use Rattle.vx_flow.specs.declared.graph.Block.{Block}
use Rattle.vx_flow.specs.declared.graph.Flow.{Flow}
use Rattle.vx_flow.specs.Operands.{value_list}
use Rattle.vx_flow.specs.Effects.{IsIn}
use Rattle.vx_flow.specs.Sound.{HasOperation, HasExit}
use Rattle.vx_flow.proofs.SoundLists.{all_in, all_of, all_at, all_of_at}
use Rattle.vx_inline.specs.declared.site.Site.{Site}
use Rattle.vx_inline.specs.Choosing.{operations}
use Rattle.vx_inline.specs.Counts.{is_call}
use Rattle.vx_inline.specs.Fitting.{is_calling, calls_nothing, is_base_made, makes_no_base, make_no_bases, are_global, is_entered_short, is_short_with, is_left_short, are_left_short, fits, has_few}
use Rattle.vx_inline.specs.Inlined.{TheCall, CallAt, IsPermitted}
use Rattle.vx_inline.specs.Permitting.{MayInline}

pub record FitsInWords (c : TheCall) : Type 0 where
  pub calls_none : (f next : ℕ) (arguments : List Operand) (result : Option ℕ) → HasExit c.callee (Call f arguments result next) → ⊥
  pub globals_alone : (a : ℕ) (array : Array) → slice_get c.callee.arrays a ≡ Some array → array.global ≡ true
  pub bases_none : (v a : ℕ) (x : Operand) → HasOperation c.callee (Base v a x) → ⊥
  pub caller_short : length c.block.ops + length c.arguments ≤ 512
  pub callee_short : (b : ℕ) (block : Block) (x : Operand) → slice_get c.callee.blocks b ≡ Some block → block.exit ≡ Return x → length block.ops + length (value_list c.result) ≤ 512

not_call : (t : Bool) → not t ≡ true → t ≡ true → ⊥
not_call true e h = false≢true e
not_call false e h = false≢true h

base_made : (op : Op) → is_base_made op ≡ true → (v : ℕ) × (a : ℕ) × (x : Operand) × (op ≡ Base v a x)
base_made (Compute code v x y) e = absurd (false≢true e)
base_made (Select v p x y) e = absurd (false≢true e)
base_made (Place v a i) e = absurd (false≢true e)
base_made (Load v a p dismissible) e = absurd (false≢true e)
base_made (Store a p x) e = absurd (false≢true e)
base_made (More v) e = absurd (false≢true e)
base_made (Input v) e = absurd (false≢true e)
base_made (Text n) e = absurd (false≢true e)
base_made (Decimal x) e = absurd (false≢true e)
base_made (Across v u) e = absurd (false≢true e)
base_made (Base v a x) e = (v, a, x, refl)
base_made (PlaceIn v a u i) e = absurd (false≢true e)

fits_parts : (c : TheCall) → calls_nothing c.callee.blocks ≡ true → are_global c.callee.arrays ≡ true → is_entered_short c ≡ true → are_left_short c.result c.callee.blocks ≡ true → make_no_bases c.callee.blocks ≡ true → FitsInWords c
fits_parts c a b d e m = record {
  calls_none = λ f next arguments result h. not_call (is_calling h.block) (all_in (λ block. not (is_calling block)) c.callee.blocks h.block a h.has) (ap is_call (sym h.ends));
  globals_alone = λ i array e. all_at (λ (x : Array). x.global) c.callee.arrays i array b e;
  bases_none = λ v i x h. not_call (is_base_made (Base v i x)) (all_in (λ op. not (is_base_made op)) h.block.ops (Base v i x) (all_in (λ (block : Block). makes_no_base block.ops) c.callee.blocks h.block m h.has) h.stands) refl;
  caller_short = leb-true (length c.block.ops + length c.arguments) 512 d;
  callee_short = λ i block x h q. leb-true (length block.ops + length (value_list c.result)) 512 (ap (is_short_with c.result (length block.ops)) (sym q) ∙ all_at (is_left_short c.result) c.callee.blocks i block e h);
}

pub in_words : (c : TheCall) → fits c ≡ true → FitsInWords c
in_words c h =
    let w = and_parts (calls_nothing c.callee.blocks && are_global c.callee.arrays && is_entered_short c && are_left_short c.result c.callee.blocks) (make_no_bases c.callee.blocks) h in
    let p = and_parts (calls_nothing c.callee.blocks && are_global c.callee.arrays && is_entered_short c) (are_left_short c.result c.callee.blocks) w.0 in
    let q = and_parts (calls_nothing c.callee.blocks && are_global c.callee.arrays) (is_entered_short c) p.0 in
    let r = and_parts (calls_nothing c.callee.blocks) (are_global c.callee.arrays) q.0 in
    fits_parts c r.0 r.1 q.1 p.1 w.1

calls_is : (exit : Exit) → is_call exit ≡ true → (f : ℕ) × (arguments : List Operand) × (result : Option ℕ) × (next : ℕ) × (exit ≡ Call f arguments result next)
calls_is (Goto c) e = absurd (false≢true e)
calls_is (Split p c d) e = absurd (false≢true e)
calls_is (Call f arguments result c) e = (f, arguments, result, c, refl)
calls_is (Return x) e = absurd (false≢true e)
calls_is (Ends k) e = absurd (false≢true e)

not_so : (t : Bool) → (t ≡ true → ⊥) → not t ≡ true
not_so true n = absurd (n refl)
not_so false n = refl

left_short : (taker : Option ℕ) (n : ℕ) (exit : Exit) → ((x : Operand) → exit ≡ Return x → n + length (value_list taker) ≤ 512) → is_short_with taker n exit ≡ true
left_short taker n (Goto c) h = refl
left_short taker n (Split p c d) h = refl
left_short taker n (Call f arguments result c) h = refl
left_short taker n (Return x) h = le-leb (n + length (value_list taker)) 512 (h x refl)
left_short taker n (Ends k) h = refl

pub as_test : (c : TheCall) → FitsInWords c → fits c ≡ true
as_test c w = both_true (both_true (both_true (both_true calls globals) entered) left) bases
  where
    calls : calls_nothing c.callee.blocks ≡ true
    calls = all_of (λ block. not (is_calling block)) c.callee.blocks (λ block m. not_so (is_calling block) (λ e. (let k = calls_is block.exit e in w.calls_none k.0 k.3 k.1 k.2 (record { block = block; has = m; ends = sym k.4 }))))

    globals : are_global c.callee.arrays ≡ true
    globals = all_of_at (λ (x : Array). x.global) c.callee.arrays (λ i array e. w.globals_alone i array e)

    entered : is_entered_short c ≡ true
    entered = le-leb (length c.block.ops + length c.arguments) 512 w.caller_short

    left : are_left_short c.result c.callee.blocks ≡ true
    left = all_of_at (is_left_short c.result) c.callee.blocks (λ i block e. left_short c.result (length block.ops) block.exit (λ x q. w.callee_short i block x e q))

    bases : make_no_bases c.callee.blocks ≡ true
    bases =
        all_of (λ (block : Block). makes_no_base block.ops) c.callee.blocks (λ block m.
        all_of (λ op. not (is_base_made op)) block.ops (λ op k. not_so (is_base_made op) (λ e. (let b = base_made op e in w.bases_none b.0 b.1 b.2 (record { block = block; has = m; stands = subst (λ o. IsIn o block.ops) b.3 k })))))

-- ---- a permitted call, taken apart

pub may_be : (flow : Flow) (site : Site) (c : CallAt flow site) (free : Bank → List ℕ) → IsPermitted flow site c free → MayInline flow site.function c.parts
may_be flow site c free p = record {
  fits = as_test c.parts (record { calls_none = p.calls_none; globals_alone = p.globals_alone; bases_none = p.bases_none; caller_short = p.caller_short; callee_short = p.callee_short });
  apart = record { alone = p.alone; apart = p.apart };
  enough = record { free = free; are_free = p.are_free; enough = p.enough };
}

pub is_so : (flow : Flow) (site : Site) (c : CallAt flow site) (m : MayInline flow site.function c.parts) → IsPermitted flow site c m.enough.free
is_so flow site c m =
    let w = in_words c.parts m.fits in
    record {
      alone = m.apart.alone;
      apart = m.apart.apart;
      calls_none = w.calls_none;
      bases_none = w.bases_none;
      globals_alone = w.globals_alone;
      are_free = m.enough.are_free;
      enough = m.enough.enough;
      caller_short = w.caller_short;
      callee_short = w.callee_short;
    }

-- ---- few operations

pub few_in_words : (blocks : List Block) (most : ℕ) → has_few most blocks ≡ true → operations blocks ≤ most
few_in_words [] most e = omega arith
few_in_words (block ∷ blocks) most e = by (nat_lt most (length block.ops)) refl e (few_in_words blocks (most - length block.ops))
  where
    by : (t : Bool) → nat_lt most (length block.ops) ≡ t → cond t false (has_few (most - length block.ops) blocks) ≡ true → (has_few (most - length block.ops) blocks ≡ true → operations blocks ≤ most - length block.ops) → length block.ops + operations blocks ≤ most
    by true h q k = absurd (false≢true q)
    by false h q k = let l : length block.ops ≤ most = ltb-false most (length block.ops) h in let r : operations blocks ≤ most - length block.ops = k q in omega (arith, l, r)

pub few_as_test : (blocks : List Block) (most : ℕ) → operations blocks ≤ most → has_few most blocks ≡ true
few_as_test [] most l = refl
few_as_test (block ∷ blocks) most l = by (nat_lt most (length block.ops)) refl (few_as_test blocks (most - length block.ops))
  where
    by : (t : Bool) → nat_lt most (length block.ops) ≡ t → (operations blocks ≤ most - length block.ops → has_few (most - length block.ops) blocks ≡ true) → cond t false (has_few (most - length block.ops) blocks) ≡ true
    by true h k = let m : most < length block.ops = ltb-true most (length block.ops) h in absurd (omega (arith, l, m))
    by false h k = k (omega (arith, l))
