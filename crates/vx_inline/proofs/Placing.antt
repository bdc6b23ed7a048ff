-- Where blocks stand, as the list of places tells.
use Rattle.std.proofs.Common.{◌≡◌, ℕ, zero, suc, ◌+◌, ◌<◌, Bool, true, false, cond, List, [], ◌∷◌, ◌++◌, length, take, drop, slice_get, slice_index_or, get_or, drop-cons, append_assoc, Option, Some, None, refl, sym, ap, ◌∙◌, arith}
use Rattle.std.specs.List.{filter}
use Rattle.vx_base.specs.declared.outcome.Trap.{Trap}
use Rattle.vx_flow.specs.declared.graph.Exit.{Exit}
use Rattle.vx_flow.specs.declared.graph.Block.{Block}
use Rattle.vx_shape.specs.ShapeTest.{is_trap_of}
use Rattle.vx_inline.specs.declared.places.Places.{Places}
use Rattle.vx_inline.specs.Inlined.{is_plain, kind_place, plain_before, placed_as, placed}
use Rattle.vx_inline.specs.Placing.{place_in, place_at, next_at, places_from, place_behind}

-- behind a block
next_placed : (first traps : ℕ) (kinds : List Trap) (x : Block) (xs : List Block) (b : ℕ) (o : Option Block) → placed_as (next_at first x) traps kinds xs b o ≡ placed_as first traps kinds (x ∷ xs) (suc b) o
next_placed first traps kinds x xs b o = by o (counted (is_plain x))
  where
    counted : (t : Bool) → cond t (first + 1) first + plain_before xs b ≡ first + length (cond t (x ∷ filter is_plain (take b xs)) (filter is_plain (take b xs)))
    counted true = omega arith
    counted false = refl

    by : (o : Option Block) → next_at first x + plain_before xs b ≡ first + plain_before (x ∷ xs) (suc b) → placed_as (next_at first x) traps kinds xs b o ≡ placed_as first traps kinds (x ∷ xs) (suc b) o
    by None e = e
    by (Some block) e = ap (λ n. cond (is_plain block) n (traps + kind_place kinds block.exit)) e

told : (first traps : ℕ) (kinds : List Trap) (blocks : List Block) (b : ℕ) → slice_index_or (places_from first traps kinds blocks) b (place_behind first blocks) ≡ placed_as first traps kinds blocks b (slice_get blocks b)
told first traps kinds [] zero = omega arith
told first traps kinds [] (suc b) = omega arith
told first traps kinds (x ∷ xs) zero = let z : first ≡ first + 0 = omega arith in ap (λ n. cond (is_plain x) n (traps + kind_place kinds x.exit)) z
told first traps kinds (x ∷ xs) (suc b) = told (next_at first x) traps kinds xs b ∙ next_placed first traps kinds x xs b (slice_get xs b)

pub placed_where_told : (first traps : ℕ) (kinds : List Trap) (blocks : List Block) (places : Places) → places.blocks.items ≡ places_from first traps kinds blocks → places.beyond ≡ place_behind first blocks → (b : ℕ) → place_in places b ≡ placed first traps kinds blocks b
placed_where_told first traps kinds blocks places e q b = ap (λ l. slice_index_or l b places.beyond) e ∙ ap (λ d. slice_index_or (places_from first traps kinds blocks) b d) q ∙ told first traps kinds blocks b

-- one block more

at_next : {X Y : Type 0} (F : List X → Y) (xs : List X) (i : ℕ) (d : X) → i < length xs → d ≡ get_or xs i d → F (drop i xs) ≡ F (d ∷ drop (i + 1) xs)
at_next F xs i d l e =
    let a : suc i ≡ i + 1 = omega arith in
    ap F (drop-cons xs i d l) ∙ ap (λ x. F (x ∷ drop (suc i) xs)) (sym e) ∙ ap (λ k. F (d ∷ drop k xs)) a

pub told_next : (traps : ℕ) (kinds : List Trap) (blocks : List Block) (i next later : ℕ) (d : Block) (listed new target : List ℕ) → i < length blocks → d ≡ get_or blocks i d → listed ++ places_from next traps kinds (drop i blocks) ≡ target →
    new ≡ listed ++ place_at next traps kinds d ∷ [] → later ≡ next_at next d → new ++ places_from later traps kinds (drop (i + 1) blocks) ≡ target
told_next traps kinds blocks i next later d listed new target l e h n k =
    ap (λ x. x ++ places_from later traps kinds (drop (i + 1) blocks)) n ∙ append_assoc listed (place_at next traps kinds d ∷ []) (places_from later traps kinds (drop (i + 1) blocks)) ∙
    ap (λ x. listed ++ (place_at next traps kinds d ∷ places_from x traps kinds (drop (i + 1) blocks))) k ∙ ap (λ x. listed ++ x) (sym (at_next (places_from next traps kinds) blocks i d l e)) ∙ h

pub behind_next : (blocks : List Block) (i next later target : ℕ) (d : Block) → i < length blocks → d ≡ get_or blocks i d → place_behind next (drop i blocks) ≡ target → later ≡ next_at next d → place_behind later (drop (i + 1) blocks) ≡ target
behind_next blocks i next later target d l e h k = ap (λ x. place_behind x (drop (i + 1) blocks)) k ∙ sym (at_next (place_behind next) blocks i d l e) ∙ h

pub counted_in : (blocks : List Block) (i n k total : ℕ) (d : Block) → i < length blocks → d ≡ get_or blocks i d → is_plain d ≡ true → n + length (filter is_plain (drop i blocks)) ≡ total → k ≡ n + 1 → k + length (filter is_plain (drop (i + 1) blocks)) ≡ total
counted_in blocks i n k total d l e p h q =
    let a : length (filter is_plain (drop i blocks)) ≡ length (filter is_plain (d ∷ drop (i + 1) blocks)) = at_next (λ xs. length (filter is_plain xs)) blocks i d l e in
    let b : length (filter is_plain (d ∷ drop (i + 1) blocks)) ≡ suc (length (filter is_plain (drop (i + 1) blocks))) = ap (λ t. length (cond t (d ∷ filter is_plain (drop (i + 1) blocks)) (filter is_plain (drop (i + 1) blocks)))) p in
    omega (arith, a, b, h, q)

pub counted_out : (blocks : List Block) (i n total : ℕ) (d : Block) → i < length blocks → d ≡ get_or blocks i d → is_plain d ≡ false → n + length (filter is_plain (drop i blocks)) ≡ total → n + length (filter is_plain (drop (i + 1) blocks)) ≡ total
counted_out blocks i n total d l e p h =
    let a : length (filter is_plain (drop i blocks)) ≡ length (filter is_plain (d ∷ drop (i + 1) blocks)) = at_next (λ xs. length (filter is_plain xs)) blocks i d l e in
    let b : length (filter is_plain (d ∷ drop (i + 1) blocks)) ≡ length (filter is_plain (drop (i + 1) blocks)) = ap (λ t. length (cond t (d ∷ filter is_plain (drop (i + 1) blocks)) (filter is_plain (drop (i + 1) blocks)))) p in
    omega (arith, a, b, h)

pub kind_next : (kinds : List Trap) (exit : Exit) (i n k total : ℕ) (z : Trap) → i < length kinds → is_trap_of (get_or kinds i z) exit ≡ false → n + kind_place (drop i kinds) exit ≡ total → k ≡ n + 1 → k + kind_place (drop (i + 1) kinds) exit ≡ total
kind_next kinds exit i n k total z l p h q =
    let s : suc i ≡ i + 1 = omega arith in
    let a : kind_place (drop i kinds) exit ≡ kind_place (get_or kinds i z ∷ drop (i + 1) kinds) exit = ap (λ ks. kind_place ks exit) (drop-cons kinds i z l ∙ ap (λ j. get_or kinds i z ∷ drop j kinds) s) in
    let b : kind_place (get_or kinds i z ∷ drop (i + 1) kinds) exit ≡ suc (kind_place (drop (i + 1) kinds) exit) = ap (λ t. cond t 0 (suc (kind_place (drop (i + 1) kinds) exit))) p in
    omega (arith, a, b, h, q)
