-- Blocks that are spliced, one at a time.
use Rattle.std.proofs.Common.{◌≡◌, ℕ, zero, suc, ◌+◌, ◌<◌, Bool, true, false, cond, List, [], ◌∷◌, ◌++◌, length, map, drop, slice_get, get_or, drop-cons, append_assoc, Option, refl, sym, ap, ◌∙◌, arith, append-nil}
use Rattle.std.specs.List.{filter}
use Rattle.vx_flow.specs.declared.graph.Operand.{Operand}
use Rattle.vx_flow.specs.declared.graph.Op.{Op}
use Rattle.vx_flow.specs.declared.graph.Exit.{Exit}
use Rattle.vx_flow.specs.declared.graph.Exit.TheVariants.{Goto, Split, Call, Return, Ends}
use Rattle.vx_flow.specs.declared.graph.Block.{Block}
use Rattle.vx_inline.specs.Inlined.{copied_as, is_plain, moves_in}
use Rattle.vx_inline.specs.Splicing.{move_at, back_moves, back_exit}

pub copied_in_parts : (copy to : ℕ → ℕ) (taker : Option ℕ) (back : ℕ) (ops : List Op) (exit : Exit) → record { ops = ops ++ back_moves to taker exit; exit = back_exit copy to back exit } ≡ copied_as copy to taker back ops exit
copied_in_parts copy to taker back ops (Goto c) = ap (λ l. record { ops = l; exit = Goto (copy c) }) (append-nil ops)
copied_in_parts copy to taker back ops (Split p c d) = ap (λ l. record { ops = l; exit = Split (to p) (copy c) (copy d) }) (append-nil ops)
copied_in_parts copy to taker back ops (Call f arguments v c) = ap (λ l. record { ops = l; exit = Call f arguments v (copy c) }) (append-nil ops)
copied_in_parts copy to taker back ops (Return x) = refl
copied_in_parts copy to taker back ops (Ends k) = ap (λ l. record { ops = l; exit = Ends k }) (append-nil ops)

pub filter_cons : {A : Type 0} (p : A → Bool) (x : A) (xs : List A) → filter p (x ∷ xs) ≡ filter p (x ∷ []) ++ filter p xs
filter_cons p x xs = by (p x)
  where
    by : (t : Bool) → cond t (x ∷ filter p xs) (filter p xs) ≡ cond t (x ∷ []) [] ++ filter p xs
    by true = refl
    by false = refl

moves_none : (to : ℕ → ℕ) (qs : List ℕ) → moves_in to qs [] ≡ []
moves_none to [] = refl
moves_none to (q ∷ qs) = refl

pub moves_next : (to : ℕ → ℕ) (q : ℕ) (qs : List ℕ) (xs : List Operand) (i : ℕ) → moves_in to (q ∷ qs) (drop i xs) ≡ move_at (to q) (slice_get xs i) ++ moves_in to qs (drop (suc i) xs)
moves_next to q qs [] zero = sym (moves_none to qs)
moves_next to q qs [] (suc i) = sym (moves_none to qs)
moves_next to q qs (x ∷ xs) zero = refl
moves_next to q qs (x ∷ xs) (suc i) = moves_next to q qs xs i

-- ---- one block, or one parameter more

pub at_next : {X Y : Type 0} (F : List X → Y) (xs : List X) (i : ℕ) (d : X) → i < length xs → d ≡ get_or xs i d → F (drop i xs) ≡ F (d ∷ drop (i + 1) xs)
at_next F xs i d l e =
    let a : suc i ≡ i + 1 = omega arith in
    ap F (drop-cons xs i d l) ∙ ap (λ x. F (x ∷ drop (suc i) xs)) (sym e) ∙ ap (λ k. F (d ∷ drop k xs)) a

-- blocks of the callee
pub copied_next : (f : Block → Block) (blocks : List Block) (i : ℕ) (d made : Block) (now new target : List Block) → i < length blocks → d ≡ get_or blocks i d → now ++ filter is_plain (map f (drop i blocks)) ≡ target →
    made ≡ f d → new ≡ now ++ filter is_plain (made ∷ []) → new ++ filter is_plain (map f (drop (i + 1) blocks)) ≡ target
copied_next f blocks i d made now new target l e h m n =
    ap (λ x. x ++ filter is_plain (map f (drop (i + 1) blocks))) n ∙ append_assoc now (filter is_plain (made ∷ [])) (filter is_plain (map f (drop (i + 1) blocks))) ∙
    ap (λ x. now ++ x) (sym (filter_cons is_plain made (map f (drop (i + 1) blocks)))) ∙ ap (λ x. now ++ filter is_plain (x ∷ map f (drop (i + 1) blocks))) m ∙
    ap (λ x. now ++ x) (sym (at_next (λ xs. filter is_plain (map f xs)) blocks i d l e)) ∙ h

-- parameters
pub moves_more : (to : ℕ → ℕ) (parameters : List ℕ) (arguments : List Operand) (i z : ℕ) (now new target : List Op) → i < length parameters → now ++ moves_in to (drop i parameters) (drop i arguments) ≡ target →
    new ≡ now ++ move_at (to (get_or parameters i z)) (slice_get arguments i) → new ++ moves_in to (drop (i + 1) parameters) (drop (i + 1) arguments) ≡ target
moves_more to parameters arguments i z now new target l h n =
    let a : suc i ≡ i + 1 = omega arith in
    let first : List Op = move_at (to (get_or parameters i z)) (slice_get arguments i) in
    ap (λ x. x ++ moves_in to (drop (i + 1) parameters) (drop (i + 1) arguments)) n ∙ append_assoc now first (moves_in to (drop (i + 1) parameters) (drop (i + 1) arguments)) ∙
    ap (λ x. now ++ x) (ap (λ k. first ++ moves_in to (drop k parameters) (drop k arguments)) (sym a) ∙ sym (moves_next to (get_or parameters i z) (drop (suc i) parameters) arguments i) ∙ sym (ap (λ qs. moves_in to qs (drop i arguments)) (drop-cons parameters i z l))) ∙ h
