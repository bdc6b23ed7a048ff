-- What is known of a program that is unrolled, where there is one.
use Rattle.std.proofs.Common.{◌≡◌, ◌<◌, ℕ, ℤ, Bool, true, List, [], ◌∷◌, length, map, refl, arith, ltb-true, lt-ltb, Result, Ok, Err, IfOk, sym, ap, ◌∙◌, subst}
use Rattle.std.specs.List.{list_all}
use Rattle.std.proofs.lemmas.Bool.{and_parts, and_from}
use Rattle.vx_base.specs.Outcome.{Same}
use Rattle.vx_ast.specs.Accepted.{at_most}
use Rattle.vx_unroll.specs.Growth.{has_few_words}
use Rattle.vx_unroll.proofs.Sizes.{words_stay_within}
use Rattle.vx_ast.specs.declared.typed.Typed.{Typed}
use Rattle.vx_ast.specs.Meaning.{source}
use Rattle.vx_ast.specs.Tree.{Function, Program}
use Rattle.vx_ast.specs.View.{program_of}
use Rattle.vx_unroll.specs.Unrolling.{Unrolled, function_words, unrolled_function}
use Rattle.vx_unroll.specs.Laws.{names}
use Rattle.vx_unroll.proofs.Unrolled.{unrolled_is_same}
use Rattle.vx_unroll.proofs.Accepting.{names_stay}

pub same_of : {E : Type 0} (r : Result Typed E) (p : Program) (k : ℕ) → IfOk r (λ made. Unrolled p k (program_of made.program)) → IfOk r (λ made. (input : List ℤ) → Same (source p input) (source (program_of made.program) input))
same_of (Err e) p k h = tt
same_of (Ok made) p k h = λ input. subst (λ (q : Program). Same (source p input) (source q input)) (sym h) (unrolled_is_same k p input)

pub names_of : {E : Type 0} (r : Result Typed E) (p : Program) (k : ℕ) → IfOk r (λ made. Unrolled p k (program_of made.program)) → IfOk r (λ made. names (program_of made.program) ≡ names p)
names_of (Err e) p k h = tt
names_of (Ok made) p k h = ap names h ∙ names_stay k p

few_stay : (k globals : ℕ) (fs : List Function) → list_all (λ f. at_most (function_words globals f) 8192) fs ≡ true → list_all (λ f. at_most (function_words globals f) 8192) (map (unrolled_function k globals) fs) ≡ true
few_stay k globals [] e = refl
few_stay k globals (f ∷ fs) e =
    let few : Function → Bool = λ g. at_most (function_words globals g) 8192 in
    let h = and_parts (few f) (list_all few fs) e in
    let l : function_words globals f < 8193 = ltb-true (function_words globals f) 8193 h.0 in
    let m = words_stay_within k globals f (omega (arith, l)) in
    and_from (few (unrolled_function k globals f)) (list_all few (map (unrolled_function k globals) fs)) (lt-ltb (function_words globals (unrolled_function k globals f)) 8193 (omega (arith, m))) (few_stay k globals fs h.1)

pub words_of : {E : Type 0} (r : Result Typed E) (p : Program) (k : ℕ) → IfOk r (λ made. Unrolled p k (program_of made.program)) → IfOk r (λ made. has_few_words p ≡ true → has_few_words (program_of made.program) ≡ true)
words_of (Err e) p k h = tt
words_of (Ok made) p k h = λ e. ap has_few_words h ∙ few_stay k (length p.globals) p.functions e
