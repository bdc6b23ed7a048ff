-- The arrays that a function of an accepted program sees have fewer than 2^31 words each.
use Rattle.std.proofs.Common.{◌≡◌, ◌<◌, ◌≤◌, ◌^◌, ℕ, zero, suc, true, Some, List, [], ◌∷◌, ◌++◌, length, map, refl, sym, ap, subst, arith, get_or, lt-ltb, append_assoc}
use Rattle.std.specs.Prelude.{slice_get, slice_index_or}
use Rattle.std.specs.Cmp.Derive.{both_true}
use Rattle.vx_ast.specs.Tree.{Function, Program}
use Rattle.vx_ast.specs.declared.tree.GlobalVariable.{GlobalVariable}
use Rattle.vx_ast.specs.Accepted.{is_accepted, global_words, arrays_taken}
use Rattle.vx_lower.specs.declared.seen.Seen.{Seen}
use Rattle.vx_lower.specs.declared.seen.Seen.TheVariants.{OwnArray}
use Rattle.vx_lower.specs.Seen.{are_small}
use Rattle.vx_lower.specs.Lowered.{handed_from, global_seen, arrays_seen}
use Rattle.vx_lower.proofs.Facts.{few_own, few_global}

small_globals : (gs : List GlobalVariable) (rest : List Seen) → ((a : ℕ) → slice_index_or (map global_words gs) a 0 ≤ 262144) → are_small rest ≡ true → are_small (map global_seen gs ++ rest) ≡ true
small_globals [] rest h e = e
small_globals (g ∷ gs) rest h e =
    let k : global_words g ≤ 262144 = h zero in
    both_true (lt-ltb (global_words g) (2 ^ 31) (omega arith)) (small_globals gs rest (λ a. h (suc a)) e)

small_handed : (v n : ℕ) (rest : List Seen) → are_small rest ≡ true → are_small (handed_from v n ++ rest) ≡ true
small_handed v zero rest e = e
small_handed v (suc n) rest e = both_true refl (small_handed (suc (suc v)) n rest e)

small_own : (ns : List ℕ) → ((a : ℕ) → slice_index_or ns a 0 ≤ 262144) → are_small (map OwnArray ns) ≡ true
small_own [] h = refl
small_own (n ∷ ns) h =
    let k : n ≤ 262144 = h zero in
    both_true (lt-ltb n (2 ^ 31) (omega arith)) (small_own ns (λ a. h (suc a)))

pub small_list : (p : Program) → is_accepted p ≡ true → (i : ℕ) (f : Function) → slice_get p.functions i ≡ Some f → are_small (arrays_seen p f) ≡ true
small_list p accepted i f at =
    subst (λ z. are_small z ≡ true) (sym (append_assoc (map global_seen p.globals) (handed_from f.scalars (arrays_taken f)) (map OwnArray f.arrays)))
    (small_globals p.globals (handed_from f.scalars (arrays_taken f) ++ map OwnArray f.arrays) (few_global p accepted)
    (small_handed f.scalars (arrays_taken f) (map OwnArray f.arrays) (small_own f.arrays (few_own p accepted i f at))))

pub function_there : {A : Type 0} (view : A → Function) (xs : List A) (i : ℕ) (x : A) → i < length xs → x ≡ get_or xs i x → slice_get (map view xs) i ≡ Some (view x)
function_there view [] i x h e = absurd (omega arith)
function_there view (y ∷ xs) zero x h e = ap (λ z. Some (view z)) (sym e)
function_there view (y ∷ xs) (suc i) x h e = function_there view xs i x (omega arith) e
