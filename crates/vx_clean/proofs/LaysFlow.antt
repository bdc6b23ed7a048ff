-- A flow of a program, laid out as linked chains, stays one.
use Rattle.std.proofs.Common.{◌≡◌, ℕ, zero, suc, ◌+◌, List, [], ◌∷◌, length, map, slice_get, Option, Some, None, refl, sym, ap, ◌∙◌, subst, arith}
use Rattle.std.specs.Option.{option_map}
use Rattle.vx_ast.specs.Tree.{Function, Program}
use Rattle.vx_flow.specs.declared.graph.Block.{Block}
use Rattle.vx_flow.specs.declared.graph.Graph.{Graph}
use Rattle.vx_lower.specs.FlowOf.{GraphOf}
use Rattle.vx_clean.specs.Cleaning.{Place, FunctionCleaned, Cleaned}
use Rattle.vx_clean.specs.Laying.{joined, laid, places_from}
use Rattle.vx_shape.proofs.FlowsStay.{shape_kept}
use Rattle.vx_clean.specs.LaidFlows.{FunctionLaid, laid_functions, LaidFlow}
use Rattle.vx_clean.proofs.CleanFlow.{cleaned_flow}
use Rattle.vx_clean.proofs.Lays.{laid_cleaned}

get_laid : (to : ℕ → ℕ → ℕ) (chains : ℕ → List (List ℕ)) (n : ℕ) (gs : List Graph) (i : ℕ) → slice_get (laid_functions to chains n gs) i ≡ option_map (laid (to (n + i)) (chains (n + i))) (slice_get gs i)
get_laid to chains n [] i = refl
get_laid to chains n (g ∷ gs) zero = let e : n ≡ n + 0 = omega arith in ap (λ m. Some (laid (to m) (chains m) g)) e
get_laid to chains n (g ∷ gs) (suc i) =
    let e : suc n + i ≡ n + suc i = omega arith in
    get_laid to chains (suc n) gs i ∙ ap (λ m. option_map (laid (to m) (chains m)) (slice_get gs i)) e

laid_length : (to : ℕ → ℕ → ℕ) (chains : ℕ → List (List ℕ)) (n : ℕ) (gs : List Graph) → length (laid_functions to chains n gs) ≡ length gs
laid_length to chains n [] = refl
laid_length to chains n (g ∷ gs) = ap suc (laid_length to chains (suc n) gs)

abbrev blocks_of : Option Graph → List Block
blocks_of None = []
blocks_of (Some g) = g.blocks

function_cleaned : (to : ℕ → ℕ) (chains : List (List ℕ)) (o : Option Graph) → ((g : Graph) → o ≡ Some g → FunctionLaid to chains g) → FunctionCleaned (places_from (blocks_of o) 0 chains) o (option_map (laid to chains) o)
function_cleaned to chains None h = tt
function_cleaned to chains (Some g) h = let l = h g refl in laid_cleaned to chains g l.first l.begun l.linked

graph_by : (p : Program) (function : Function) (to : ℕ → ℕ) (chains : List (List ℕ)) (graph : Graph) (o : Option Graph) → ((g : Graph) → o ≡ Some g → FunctionLaid to chains g) → ((g : Graph) → o ≡ Some g → GraphOf p function g) → option_map (laid to chains) o ≡ Some graph → GraphOf p function graph
graph_by p function to chains graph None h k e = absurd (cc)
graph_by p function to chains graph (Some g) h k e =
    let q : laid to chains g ≡ graph = cc in
    let l : FunctionLaid to chains g = h g refl in
    subst (GraphOf p function) q (shape_kept p function (map (joined to g.blocks) chains) g (k g refl) l.shaped)

pub laid_stays : LaidFlow
laid_stays p flow to chains o h sound =
    let graphs : List Graph = laid_functions to chains 0 flow.functions in
    let at : (f : ℕ) → slice_get graphs f ≡ option_map (laid (to f) (chains f)) (slice_get flow.functions f) =
    λ f. (let e : 0 + f ≡ f = omega arith in get_laid to chains 0 flow.functions f ∙ ap (λ m. option_map (laid (to m) (chains m)) (slice_get flow.functions f)) e) in
    let places : ℕ → ℕ → List Place = λ f. places_from (blocks_of (slice_get flow.functions f)) 0 (chains f) in
    let cleaned : Cleaned places flow graphs =
    λ f. subst (FunctionCleaned (places f) (slice_get flow.functions f)) (sym (at f)) (function_cleaned (to f) (chains f) (slice_get flow.functions f) (h f)) in
    cleaned_flow p flow graphs places cleaned o sound (laid_length to chains 0 flow.functions ∙ o.count)
    (λ f function graph e q. graph_by p function (to f) (chains f) graph (slice_get flow.functions f) (h f) (λ g r. o.graphs f function g e r) (sym (at f) ∙ q))
