-- Graphs that make no place of an array that is no global, and no base.
use Rattle.std.proofs.Common.{◌≡◌, ℕ, zero, suc, Bool, true, false, cond, ◌==◌, ◌&&◌, not, List, [], ◌∷◌, ◌++◌, append-nil, map, take, drop, slice_get, Option, Some, None, refl, sym, ap, ◌∙◌}
use Rattle.std.specs.List.{filter, flat_map, list_all}
use Rattle.vx_base.specs.declared.outcome.Trap.{Trap}
use Rattle.vx_flow.specs.declared.graph.Array.{Array}
use Rattle.vx_flow.specs.declared.graph.Bank.{Bank}
use Rattle.vx_flow.specs.declared.graph.Block.{Block}
use Rattle.vx_flow.specs.declared.graph.Edge.{Edge}
use Rattle.vx_flow.specs.declared.graph.Exit.{Exit}
use Rattle.vx_flow.specs.declared.graph.Exit.TheVariants.{Goto, Split, Call, Return, Ends}
use Rattle.vx_flow.specs.declared.graph.Op.{Op}
use Rattle.vx_flow.specs.declared.graph.Op.TheVariants.{Compute, Select, Place, Load, Store, More, Input, Text, Decimal, Across, Base, PlaceIn}
use Rattle.vx_flow.specs.declared.graph.Operand.{Operand}
use Rattle.vx_flow.specs.Operands.{with_values}
use Rattle.vx_flow.specs.Sound.{is_local}
use Rattle.vx_flow.proofs.SoundLists.{all_in}
use Rattle.vx_inline.specs.Inlined.{TheCall, all_kinds, all_plain, behind, caller_at, callee_at, copied, copied_as, critical, entering, inlined_blocks, is_plain, joined, moves_in, moves_out, relinked, stayed, stayed_all, taken}
use Rattle.vx_inline.specs.Values.{is_bare, local_place, local_places, makes_none}
use Rattle.vx_inline.proofs.Depth.{get_in}

-- ---- what is not there

no_place : (arrays : List Array) (op : Op) → makes_none arrays op ≡ true → local_place arrays op ≡ []
no_place arrays (Compute code v a b) e = refl
no_place arrays (Select v p a b) e = refl
no_place arrays (Place v a i) e = by (is_local arrays a) e
  where
    by : (t : Bool) → not t ≡ true → cond t (v ∷ []) [] ≡ []
    by true q = absurd (cc)
    by false q = refl
no_place arrays (Load v a p dismissible) e = refl
no_place arrays (Store a p x) e = refl
no_place arrays (More v) e = refl
no_place arrays (Input v) e = refl
no_place arrays (Text n) e = refl
no_place arrays (Decimal x) e = refl
no_place arrays (Across v u) e = refl
no_place arrays (Base v a x) e = absurd (cc)
no_place arrays (PlaceIn v a u i) e = absurd (cc)

none_from : {X Y : Type 0} (p : X → Bool) (f : X → List Y) → ((x : X) → p x ≡ true → f x ≡ []) → (xs : List X) → list_all p xs ≡ true → flat_map f xs ≡ []
none_from p f h [] e = refl
none_from p f h (x ∷ xs) e = by (p x) refl e (none_from p f h xs)
  where
    by : (t : Bool) → p x ≡ t → (t && list_all p xs) ≡ true → (list_all p xs ≡ true → flat_map f xs ≡ []) → f x ++ flat_map f xs ≡ []
    by true q a r = ap (λ l. l ++ flat_map f xs) (h x q) ∙ r a
    by false q a r = absurd (cc)

pub bare_none : (arrays : List Array) (blocks : List Block) → is_bare arrays blocks ≡ true → flat_map (local_places arrays) blocks ≡ []
bare_none arrays blocks e = none_from (λ (block : Block). list_all (makes_none arrays) block.ops) (local_places arrays) (λ block q. none_from (makes_none arrays) (local_place arrays) (no_place arrays) block.ops q) blocks e

pub none_pushed : (arrays : List Array) (blocks : List Block) (values : List ℕ) → is_bare arrays blocks ≡ true → values ≡ values ++ flat_map (local_places arrays) blocks
none_pushed arrays blocks values e = sym (append-nil values) ∙ ap (λ l. values ++ l) (sym (bare_none arrays blocks e))

-- ---- lists

all_both : {X : Type 0} (p : X → Bool) (xs ys : List X) → list_all p xs ≡ true → list_all p ys ≡ true → list_all p (xs ++ ys) ≡ true
all_both p [] ys a b = b
all_both p (x ∷ xs) ys a b = by (p x) a (all_both p xs ys)
  where
    by : (t : Bool) → (t && list_all p xs) ≡ true → (list_all p xs ≡ true → list_all p ys ≡ true → list_all p (xs ++ ys) ≡ true) → (t && list_all p (xs ++ ys)) ≡ true
    by true q r = r q b
    by false q r = q

all_filter : {X : Type 0} (p q : X → Bool) (xs : List X) → list_all p xs ≡ true → list_all p (filter q xs) ≡ true
all_filter p q [] e = refl
all_filter p q (x ∷ xs) e = by (p x) refl e (q x) (all_filter p q xs)
  where
    by : (t : Bool) → p x ≡ t → (t && list_all p xs) ≡ true → (u : Bool) → (list_all p xs ≡ true → list_all p (filter q xs) ≡ true) → list_all p (cond u (x ∷ filter q xs) (filter q xs)) ≡ true
    by true h a true r = ap (λ t. t && list_all p (filter q xs)) h ∙ r a
    by true h a false r = r a
    by false h a u r = absurd (cc)

all_take : {X : Type 0} (p : X → Bool) (n : ℕ) (xs : List X) → list_all p xs ≡ true → list_all p (take n xs) ≡ true
all_take p zero xs e = refl
all_take p (suc n) [] e = refl
all_take p (suc n) (x ∷ xs) e = by (p x) e (all_take p n xs)
  where
    by : (t : Bool) → (t && list_all p xs) ≡ true → (list_all p xs ≡ true → list_all p (take n xs) ≡ true) → (t && list_all p (take n xs)) ≡ true
    by true a r = r a
    by false a r = a

all_drop : {X : Type 0} (p : X → Bool) (n : ℕ) (xs : List X) → list_all p xs ≡ true → list_all p (drop n xs) ≡ true
all_drop p zero xs e = e
all_drop p (suc n) [] e = refl
all_drop p (suc n) (x ∷ xs) e = by (p x) e (all_drop p n xs)
  where
    by : (t : Bool) → (t && list_all p xs) ≡ true → (list_all p xs ≡ true → list_all p (drop n xs) ≡ true) → list_all p (drop n xs) ≡ true
    by true a r = r a
    by false a r = absurd (cc)

all_map : {X Y : Type 0} (p : X → Bool) (q : Y → Bool) (f : X → Y) → ((x : X) → p x ≡ true → q (f x) ≡ true) → (xs : List X) → list_all p xs ≡ true → list_all q (map f xs) ≡ true
all_map p q f h [] e = refl
all_map p q f h (x ∷ xs) e = by (p x) refl e (all_map p q f h xs)
  where
    by : (t : Bool) → p x ≡ t → (t && list_all p xs) ≡ true → (list_all p xs ≡ true → list_all q (map f xs) ≡ true) → (q (f x) && list_all q (map f xs)) ≡ true
    by true k a r = ap (λ t. t && list_all q (map f xs)) (h x k) ∙ r a
    by false k a r = absurd (cc)

-- ---- the blocks with the call inlined

module _ (arrays : List Array) where
  abbrev bare : Block → Bool
  bare block = list_all (makes_none arrays) block.ops

  renamed_makes : (to : ℕ → ℕ) (op : Op) → makes_none arrays op ≡ true → makes_none arrays (with_values to op) ≡ true
  renamed_makes to (Compute code v a b) e = refl
  renamed_makes to (Select v p a b) e = refl
  renamed_makes to (Place v a i) e = e
  renamed_makes to (Load v a p dismissible) e = refl
  renamed_makes to (Store a p x) e = refl
  renamed_makes to (More v) e = refl
  renamed_makes to (Input v) e = refl
  renamed_makes to (Text n) e = refl
  renamed_makes to (Decimal x) e = refl
  renamed_makes to (Across v u) e = refl
  renamed_makes to (Base v a x) e = e
  renamed_makes to (PlaceIn v a u i) e = e

  moves_bare : (to : ℕ → ℕ) (qs : List ℕ) (xs : List Operand) → list_all (makes_none arrays) (moves_in to qs xs) ≡ true
  moves_bare to [] xs = refl
  moves_bare to (q ∷ qs) [] = refl
  moves_bare to (q ∷ qs) (x ∷ xs) = moves_bare to qs xs

  taken_bare : (result : Option ℕ) (x : Operand) → list_all (makes_none arrays) (moves_out result x) ≡ true
  taken_bare None x = refl
  taken_bare (Some v) x = refl

  copied_bare : (copy to : ℕ → ℕ) (result : Option ℕ) (back : ℕ) (block : Block) → bare block ≡ true → bare (copied copy to result back block) ≡ true
  copied_bare copy to result back block e = by block.exit
    where
      ops : list_all (makes_none arrays) (map (with_values to) block.ops) ≡ true
      ops = all_map (makes_none arrays) (makes_none arrays) (with_values to) (renamed_makes to) block.ops e

      by : (exit : Exit) → bare (copied_as copy to result back (map (with_values to) block.ops) exit) ≡ true
      by (Goto c) = ops
      by (Split p c d) = ops
      by (Call f arguments v c) = ops
      by (Return x) = all_both (makes_none arrays) (map (with_values to) block.ops) (moves_out result _) ops (taken_bare result _)
      by (Ends k) = ops

  stayed_bare : (at : ℕ → ℕ) (new : Block) (site b : ℕ) (blocks : List Block) → bare new ≡ true → list_all bare blocks ≡ true → list_all bare (stayed_all at new site b blocks) ≡ true
  stayed_bare at new site b [] n e = refl
  stayed_bare at new site b (block ∷ blocks) n e = by (bare block) refl e (stayed_bare at new site (suc b) blocks n)
    where
      one : (u : Bool) → bare block ≡ true → bare (cond u new (stayed at block)) ≡ true
      one true q = n
      one false q = q

      by : (t : Bool) → bare block ≡ t → (t && list_all bare blocks) ≡ true → (list_all bare blocks ≡ true → list_all bare (stayed_all at new site (suc b) blocks) ≡ true) → list_all bare (stayed_all at new site b (block ∷ blocks)) ≡ true
      by true q a r = ap (λ t. t && list_all bare (stayed_all at new site (suc b) blocks)) (one (b == site) q) ∙ r a
      by false q a r = absurd (cc)

  traps_bare : (kinds : List Trap) → list_all bare (map (λ k. record { ops = []; exit = Ends k }) kinds) ≡ true
  traps_bare [] = refl
  traps_bare (k ∷ ks) = traps_bare ks

  edges_bare : (place count : ℕ) (es : List Edge) → list_all bare (map (λ (e : Edge). record { ops = []; exit = Goto (behind place count e.to) }) es) ≡ true
  edges_bare place count [] = refl
  edges_bare place count (e ∷ es) = edges_bare place count es

  relinked_bare : (place : ℕ) (es : List Edge) (b : ℕ) (blocks : List Block) → list_all bare blocks ≡ true → list_all bare (relinked place es b blocks) ≡ true
  relinked_bare place es b [] e = refl
  relinked_bare place es b (block ∷ blocks) e = by (bare block) e (relinked_bare place es (suc b) blocks)
    where
      by : (t : Bool) → (t && list_all bare blocks) ≡ true → (list_all bare blocks ≡ true → list_all bare (relinked place es (suc b) blocks) ≡ true) → (t && list_all bare (relinked place es (suc b) blocks)) ≡ true
      by true a r = r a
      by false a r = a

pub bare_inlined : (c : TheCall) (site : ℕ) (free : Bank → List ℕ) → slice_get c.caller.blocks site ≡ Some c.block → is_bare c.caller.arrays c.caller.blocks ≡ true → is_bare c.caller.arrays c.callee.blocks ≡ true → is_bare c.caller.arrays (inlined_blocks c site free) ≡ true
bare_inlined c site free here own more =
    let arrays = c.caller.arrays in
    let to = taken c.callee free in
    let enter : Block = entering to c.callee.parameters c.arguments (callee_at c 0) c.block.ops in
    let first : bare arrays c.block ≡ true = all_in (bare arrays) c.caller.blocks c.block own (get_in c.caller.blocks site c.block here) in
    let entered : bare arrays enter ≡ true = all_both (makes_none arrays) c.block.ops (moves_in to c.callee.parameters c.arguments) first (moves_bare arrays to c.callee.parameters c.arguments) in
    let callers : list_all (bare arrays) (filter is_plain (stayed_all (caller_at c) enter site 0 c.caller.blocks)) ≡ true =
    all_filter (bare arrays) is_plain (stayed_all (caller_at c) enter site 0 c.caller.blocks) (stayed_bare arrays (caller_at c) enter site 0 c.caller.blocks entered own) in
    let copies : list_all (bare arrays) (filter is_plain (map (copied (callee_at c) to c.result (caller_at c c.next)) c.callee.blocks)) ≡ true =
    all_filter (bare arrays) is_plain (map (copied (callee_at c) to c.result (caller_at c c.next)) c.callee.blocks)
    (all_map (bare arrays) (bare arrays) (copied (callee_at c) to c.result (caller_at c c.next)) (copied_bare arrays (callee_at c) to c.result (caller_at c c.next)) c.callee.blocks more) in
    let all : list_all (bare arrays) (joined c site free) ≡ true =
    all_both (bare arrays) (filter is_plain (stayed_all (caller_at c) enter site 0 c.caller.blocks)) _ callers
    (all_both (bare arrays) (filter is_plain (map (copied (callee_at c) to c.result (caller_at c c.next)) c.callee.blocks)) (map (λ k. record { ops = []; exit = Ends k }) (all_kinds c)) copies (traps_bare arrays (all_kinds c))) in
    let m = all_plain c in
    let es : List Edge = critical (joined c site free) 0 (joined c site free) in
    all_both (bare arrays) (relinked m es 0 (take m (joined c site free))) _ (relinked_bare arrays m es 0 (take m (joined c site free)) (all_take (bare arrays) m (joined c site free) all))
    (all_both (bare arrays) (map (λ (e : Edge). record { ops = []; exit = Goto (behind m _ e.to) }) es) (drop m (joined c site free)) (edges_bare arrays m _ es) (all_drop (bare arrays) m (joined c site free) all))
