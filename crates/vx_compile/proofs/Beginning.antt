-- The graphs of an accepted program can begin as graphs of blocks and regions, and are small.
use Rattle.std.proofs.Common.{◌≡◌, ◌⊎◌, inl, inr, ℕ, zero, suc, ◌+◌, ◌*◌, ◌^◌, ◌<◌, ◌≤◌, Bool, true, false, cond, List, [], ◌∷◌, ◌++◌, length, replicate, append_assoc, map, count_by, Option, Some, None, refl, sym, ap, ◌∙◌, subst, arith, ltb-true}
use Rattle.std.specs.Prelude.{slice_get}
use Rattle.std.specs.List.{sum, flat_map}
use Rattle.std.specs.Option.{option_map}
use Rattle.std.proofs.lemmas.Bool.{and_parts, cases_eq}
use Rattle.std.proofs.lemmas.List.{length-map}
use Rattle.std.proofs.lemmas.List.Sums.{sum_by-cons}
use Rattle.std.proofs.lemmas.Option.{slice_get-map, slice_get_within}
use Rattle.vx_ast.specs.Tree.{Function, Program}
use Rattle.vx_ast.specs.Accepted.{Over, over, or_else, limit_of, is_none, at_most, is_accepted, is_suited, function_nodes, arrays_taken, global_words, formats_of}
use Rattle.vx_flow.specs.declared.graph.Array.{Array}
use Rattle.vx_flow.specs.declared.graph.Bank.{Bank}
use Rattle.vx_flow.specs.declared.graph.Bank.TheVariants.{General, Branch}
use Rattle.vx_flow.specs.declared.graph.Edge.{Edge}
use Rattle.vx_flow.specs.declared.graph.Exit.{Exit}
use Rattle.vx_flow.specs.declared.graph.Exit.TheVariants.{Goto, Split, Call, Return, Ends}
use Rattle.vx_flow.specs.declared.graph.Global.{Global}
use Rattle.vx_flow.specs.declared.graph.Graph.{Graph}
use Rattle.vx_flow.specs.declared.graph.Flow.{Flow}
use Rattle.vx_flow.specs.Effects.{IsIn}
use Rattle.vx_flow.proofs.SoundLaw.{sound_of}
use Rattle.vx_flow.proofs.SoundFlowLaw.{flow_is}
use Rattle.vx_isa.proofs.Lists.{count_by-cons}
use Rattle.vx_lower.proofs.Facts.{none_is, or_one, or_two}
use Rattle.vx_lower.specs.FlowOf.{is_general, is_branch, GraphOf, FlowOf, IsEdge}
use Rattle.vx_mixed.specs.Valid.{PartsWays, NoCritical, IsGraphEdge, CanBegin}
use Rattle.vx_target.specs.Tied.{words_before}
use Rattle.vx_calls.specs.Bounds.{own_words}
use Rattle.vx_compile.specs.Stages.{AllBegin, IsSmall, IsSmallGraph}

-- limits

within : (number most m : ℕ) (rest : Option Over) (t : Bool) → at_most m most ≡ t → cond t rest (Some (record { number = number; count = m })) ≡ None → (m ≤ most) × (rest ≡ None)
within number most m rest true q e = (let h : m < suc most = ltb-true m (suc most) q in omega arith, e)
within number most m rest false q e = absurd (cc)

not_over : (number most : ℕ) (ns : List ℕ) (i n : ℕ) → over number most ns ≡ None → slice_get ns i ≡ Some n → n ≤ most
not_over number most [] i n e at = absurd (cc)
not_over number most (m ∷ ns) zero n e at = let h = within number most m (over number most ns) (at_most m most) refl e in let q : m ≡ n = cc in subst (λ z. z ≤ most) q h.0
not_over number most (m ∷ ns) (suc i) n e at = not_over number most ns i n (within number most m (over number most ns) (at_most m most) refl e).1 at

limited : (p : Program) → is_accepted p ≡ true → limit_of p ≡ None
unfolding is_accepted
limited p accepted = none_is (limit_of p) (and_parts (is_suited p) (is_none (limit_of p)) accepted).1

-- the limits, one by one

abbrev functions_over : Program → Option Over
functions_over p = over 3 256 (length p.functions ∷ [])

abbrev parameters_over : Program → Option Over
parameters_over p = over 4 8 (map (λ (f : Function). length f.takes) p.functions)

abbrev nodes_over : Program → Option Over
nodes_over p = over 5 4000 (map function_nodes p.functions)

abbrev arrays_over : Program → Option Over
arrays_over p = over 6 8192 (map (λ (f : Function). sum f.arrays) p.functions)

abbrev globals_over : Program → Option Over
globals_over p = over 7 262144 (sum (map global_words p.globals) ∷ [])

abbrev formats_over : Program → Option Over
formats_over p = over 8 4096 (flat_map (λ (f : Function). map (λ format. length format) (formats_of f.body)) p.functions)

abbrev last_over : Program → Option Over
last_over p = or_else (arrays_over p) (or_else (globals_over p) (formats_over p))

from_nodes : (p : Program) → is_accepted p ≡ true → or_else (nodes_over p) (last_over p) ≡ None
from_nodes p accepted = or_two (parameters_over p) (or_else (nodes_over p) (last_over p)) (or_two (functions_over p) (or_else (parameters_over p) (or_else (nodes_over p) (last_over p))) (limited p accepted))

behind_nodes : (p : Program) → is_accepted p ≡ true → last_over p ≡ None
behind_nodes p accepted = or_two (nodes_over p) (last_over p) (from_nodes p accepted)

pub few_nodes : (p : Program) (i : ℕ) (f : Function) → is_accepted p ≡ true → slice_get p.functions i ≡ Some f → function_nodes f ≤ 4000
few_nodes p i f accepted at = not_over 5 4000 (map function_nodes p.functions) i (function_nodes f) (or_one (nodes_over p) (last_over p) (from_nodes p accepted)) (slice_get-map function_nodes p.functions i ∙ ap (option_map function_nodes) at)

few_array_words : (p : Program) (i : ℕ) (f : Function) → is_accepted p ≡ true → slice_get p.functions i ≡ Some f → sum f.arrays ≤ 8192
few_array_words p i f accepted at =
    not_over 6 8192 (map (λ (f : Function). sum f.arrays) p.functions) i (sum f.arrays) (or_one (arrays_over p) (or_else (globals_over p) (formats_over p)) (behind_nodes p accepted))
    (slice_get-map (λ (f : Function). sum f.arrays) p.functions i ∙ ap (option_map (λ (f : Function). sum f.arrays)) at)

few_global_words : (p : Program) → is_accepted p ≡ true → sum (map global_words p.globals) ≤ 262144
few_global_words p accepted =
    not_over 7 262144 (sum (map global_words p.globals) ∷ []) 0 (sum (map global_words p.globals))
    (or_one (globals_over p) (formats_over p) (or_two (arrays_over p) (or_else (globals_over p) (formats_over p)) (behind_nodes p accepted))) refl

-- values

pub both_counted : (banks : List Bank) → length banks ≡ count_by is_general banks + count_by is_branch banks
both_counted [] = refl
both_counted (General ∷ banks) =
    let a = count_by-cons is_general General banks in
    let b = count_by-cons is_branch General banks in
    let c = both_counted banks in
    omega arith
both_counted (Branch ∷ banks) =
    let a = count_by-cons is_general Branch banks in
    let b = count_by-cons is_branch Branch banks in
    let c = both_counted banks in
    omega arith

-- edges

parts : (exit : Exit) → ((test c d : ℕ) → exit ≡ Split test c d → c ≡ d → ⊥) → PartsWays exit
parts (Split test c d) h = λ e. h test c d refl e
parts (Goto c) h = tt
parts (Call g arguments result next) h = tt
parts (Return x) h = tt
parts (Ends k) h = tt

edge_of : (g : Graph) (e : Edge) → IsGraphEdge g e → IsEdge g e.from e.to
edge_of g e h = record { block = h.block; has = h.has; leads = h.leads }

same_edge : (e f : Edge) → f.from ≡ e.from → f.to ≡ e.to → f ≡ e
same_edge e f a b = ap (λ z. record { from = z; to = f.to }) a ∙ ap (λ z. record { from = e.from; to = z }) b

uncritical : (p : Program) (f : Function) (g : Graph) → GraphOf p f g → NoCritical (IsGraphEdge g)
uncritical p fun g is e f h at at' at'' same_from same_to = by (cases_eq f.to e.to)
  where
    first : IsEdge g e.from f.to
    first = subst (λ z. IsEdge g z f.to) same_from (edge_of g f at')

    third_edge : IsEdge g h.from e.to
    third_edge = subst (λ z. IsEdge g h.from z) same_to (edge_of g h at'')

    by : (f.to ≡ e.to) ⊎ (f.to ≡ e.to → ⊥) → (f ≡ e) ⊎ (h ≡ e)
    by (inl q) = inl (same_edge e f same_from q)
    by (inr n) = inr (same_edge e h (is.uncritical e.from f.to e.to h.from first (edge_of g e at) n third_edge) same_to)

pub can_begin : (p : Program) (f : Function) (g : Graph) → function_nodes f ≤ 4000 → GraphOf p f g → CanBegin g
can_begin p f g few is = record {
  copies = copies;
  parts = λ b block at. parts block.exit (λ test c d e q. is.apart b block test c d at e q);
  entry = λ e at to. is.entry e.from (subst (λ z. IsEdge g e.from z) to (edge_of g e at));
  uncritical = uncritical p f g is;
}
  where
    copies : 5 * length g.banks < 2 ^ 32
    copies =
        let a = both_counted g.banks in
        let b = is.general_values in
        let c = is.branch_values in
        omega arith

-- the graph of each function of an accepted program

in_list : {A : Type 0} (xs : List A) (i : ℕ) (x : A) → slice_get xs i ≡ Some x → IsIn x xs
in_list [] i x e = absurd (cc)
in_list (y ∷ ys) zero x e = inl (cc)
in_list (y ∷ ys) (suc i) x e = inr (in_list ys i x e)

there : {A : Type 0} (xs : List A) (i : ℕ) → i < length xs → (x : A) × (slice_get xs i ≡ Some x)
there [] i h = absurd (omega arith)
there (x ∷ xs) zero h = (x, refl)
there (x ∷ xs) (suc i) h = there xs i (omega arith)

pub all_begin : (p : Program) (flow : Flow) → is_accepted p ≡ true → FlowOf p flow → AllBegin flow.functions
all_begin p flow accepted is i g at =
    let short : i < length flow.functions = slice_get_within flow.functions i g at in
    let same = is.count in
    let f = there p.functions i (omega arith) in
    let sound = flow_is flow is.sound in
    record {
      sound = sound_of g (sound.graphs g (in_list flow.functions i g at));
      can = can_begin p f.0 g (few_nodes p i f.0 accepted f.1) (is.graphs i f.0 g f.1 at);
      some = sound.blocks g (in_list flow.functions i g at);
    }

-- they are small

all_words : (gs : List Global) → words_before gs (length gs) ≡ sum (map (λ (g : Global). g.words) gs)
all_words [] = refl
all_words (g ∷ gs) = ap (λ n. g.words + n) (all_words gs) ∙ sym (sum_by-cons (λ (n : ℕ). n) g.words (map (λ (g : Global). g.words) gs))

no_globals : (xs : List Array) → own_words 0 xs ≡ sum (map (λ (x : Array). x.words) xs)
no_globals [] = refl
no_globals (x ∷ xs) = ap (λ n. x.words + n) (no_globals xs) ∙ sym (sum_by-cons (λ (n : ℕ). n) x.words (map (λ (x : Array). x.words) xs))

behind_globals : (gs rest : List ℕ) (xs : List Array) → map (λ (x : Array). x.words) xs ≡ gs ++ rest → own_words (length gs) xs ≡ sum rest
behind_globals [] rest xs e = no_globals xs ∙ ap sum e
behind_globals (g ∷ gs) rest [] e = absurd (let z : [] ≡ g ∷ (gs ++ rest) = e in cc)
behind_globals (g ∷ gs) rest (x ∷ xs) e = let tail : map (λ (x : Array). x.words) xs ≡ gs ++ rest = cc in behind_globals gs rest xs tail

handed_over : (n : ℕ) (rest : List ℕ) → sum (replicate n 0 ++ rest) ≡ sum rest
handed_over zero rest = refl
handed_over (suc n) rest =
    let a : sum (0 ∷ (replicate n 0 ++ rest)) ≡ 0 + sum (replicate n 0 ++ rest) = sum_by-cons (λ (n : ℕ). n) 0 (replicate n 0 ++ rest) in
    let b : sum (replicate n 0 ++ rest) ≡ sum rest = handed_over n rest in
    let d : sum (0 ∷ (replicate n 0 ++ rest)) ≡ sum rest = omega (arith, a, b) in
    d

small_graph : (p : Program) (globals : List Global) (f : Function) (g : Graph) → map (λ (x : Global). x.words) globals ≡ map global_words p.globals → function_nodes f ≤ 4000 → sum f.arrays ≤ 8192 → GraphOf p f g → IsSmallGraph (length globals) g
small_graph p globals f g same few words is = record {
  general = (let h = is.general_values in omega (arith, h, few));
  branch = (let h = is.branch_values in omega (arith, h, few));
  arrays = (
      let all : map (λ (x : Array). x.words) g.arrays ≡ map global_words p.globals ++ (replicate (arrays_taken f) 0 ++ f.arrays) = is.arrays ∙ append_assoc (map global_words p.globals) (replicate (arrays_taken f) 0) f.arrays in
      let many : length globals ≡ length (map global_words p.globals) = sym (length-map globals (λ (x : Global). x.words)) ∙ ap length same in
      let own : own_words (length globals) g.arrays ≡ sum f.arrays = ap (λ n. own_words n g.arrays) many ∙ behind_globals (map global_words p.globals) (replicate (arrays_taken f) 0 ++ f.arrays) g.arrays all ∙ handed_over (arrays_taken f) f.arrays in
      omega (arith, own, words));
}

pub all_small : (p : Program) (flow : Flow) → is_accepted p ≡ true → FlowOf p flow → IsSmall flow
all_small p flow accepted is = record {
  globals = (let a = all_words flow.globals ∙ ap sum is.globals in let b = few_global_words p accepted in omega (arith, a, b));
  graphs = λ i g at. (
      let short : i < length flow.functions = slice_get_within flow.functions i g at in
      let same = is.count in
      let f = there p.functions i (omega arith) in
      small_graph p flow.globals f.0 g is.globals (few_nodes p i f.0 accepted f.1) (few_array_words p i f.0 accepted f.1) (is.graphs i f.0 g f.1 at));
}
