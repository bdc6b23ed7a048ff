-- A generated source is within its limits, and so it reads.
use Rattle.std.proofs.Common.{◌≡◌, ℕ, suc, ◌+◌, ◌<◌, ◌≤◌, max, Bool, true, false, cond, List, [], ◌∷◌, ◌++◌, length, map, Option, Some, None, refl, sym, ap, subst, arith}
use Rattle.std.specs.List.{flat_map, sum}
use Rattle.std.proofs.lemmas.Bool.{lt-ltb}
use Rattle.vx_ast.specs.declared.tree.GlobalVariable.{GlobalVariable}
use Rattle.vx_ast.specs.declared.tree.GlobalVariable.TheVariants.{Array as ArrayGlobal}
use Rattle.vx_ast.specs.declared.token.Token.{Token}
use Rattle.vx_ast.specs.declared.token.TokenKind.TheVariants as kinds
use Rattle.vx_ast.specs.declared.syntax.Place.{Place}
use Rattle.vx_ast.specs.Tokens.{token_at}
use Rattle.vx_ast.specs.Tree as tree
use Rattle.vx_ast.specs.Syntax as syntax
use Rattle.vx_ast.specs.Scopes.{Environment, names_of, takes_of, takes_from, globals_of, at_function}
use Rattle.vx_ast.specs.Resolved.{function_in, functions_from, resolved}
use Rattle.vx_ast.specs.Accepted.{Over, over, or_else, at_most, function_nodes, formats_of, global_words, limit_of}
use Rattle.vx_ast.specs.Phrases as phrases
use Rattle.vx_ast.specs.Phrases.{Program, A, Node, NoMore, Then}
use Rattle.vx_ast.specs.Derivations.{place_of, depth_behind, row_depth}
use Rattle.vx_ast.specs.Reads.{Reads, Parses}
use Rattle.vx_gen.specs.Program.{program_text, function_count}
use Rattle.vx_gen.proofs.Length.{program_length}
use Rattle.vx_generated.proofs.Scoped.{in_function, takes_numbers, array_name}
use Rattle.vx_generated.proofs.Parts.{enters}
use Rattle.vx_generated.proofs.Functions.{Good}
use Rattle.vx_generated.proofs.Names.{file_names}
use Rattle.vx_generated.proofs.Mains.{GoodMain}
use Rattle.vx_generated.proofs.Sources.{DrawnSource, source_drawn, all_tokens}
use Rattle.vx_generated.proofs.Programs.{Listing, Whole, source_whole}
use Rattle.vx_generated.proofs.Suited.{program_with, faultless, names_of_all, takes_of_all, globals_of_all}

record Fits (f : tree.Function) : Type 0 where
  parameters : length f.takes ≤ 8
  nodes : function_nodes f ≤ 4000
  arrays : sum f.arrays ≤ 8192
  formats : over 8 4096 (map (λ (t : List ℕ). length t) (formats_of f.body)) ≡ None

data AllFit : List tree.Function → Type 0 where
  none_left : AllFit []
  one_fits : {f : tree.Function} {fs : List tree.Function} → Fits f → AllFit fs → AllFit (f ∷ fs)

over_next : (number most n : ℕ) (ns : List ℕ) → n ≤ most → over number most ns ≡ None → over number most (n ∷ ns) ≡ None
over_next number most n ns h r = rw (lt-ltb n (suc most) (omega (arith, h))) r

over_append : (number most : ℕ) (a b : List ℕ) → over number most a ≡ None → over number most b ≡ None → over number most (a ++ b) ≡ None
over_append number most [] b h r = r
over_append number most (n ∷ ns) b h r = by (at_most n most) h (over_append number most ns b) where
  by : (t : Bool) → cond t (over number most ns) (Some (record { number = number; count = n })) ≡ None → (over number most ns ≡ None → over number most b ≡ None → over number most (ns ++ b) ≡ None) → cond t (over number most (ns ++ b)) (Some (record { number = number; count = n })) ≡ None
  by true h go = go h r
  by false h go = cc

over_map : (number most : ℕ) (g : tree.Function → ℕ) → ((f : tree.Function) → Fits f → g f ≤ most) → (fs : List tree.Function) → AllFit fs → over number most (map g fs) ≡ None
over_map number most g h fs AllFit.none_left = refl
over_map number most g h fs (AllFit.one_fits {f = f} {fs = gs} k more) = over_next number most (g f) (map g gs) (h f k) (over_map number most g h gs more)

over_formats : (fs : List tree.Function) → AllFit fs → over 8 4096 (flat_map (λ (f : tree.Function). map (λ (t : List ℕ). length t) (formats_of f.body)) fs) ≡ None
over_formats fs AllFit.none_left = refl
over_formats fs (AllFit.one_fits {f = f} {fs = gs} k more) = over_append 8 4096 (map (λ (t : List ℕ). length t) (formats_of f.body)) (flat_map (λ (f : tree.Function). map (λ (t : List ℕ). length t) (formats_of f.body)) gs) k.formats (over_formats gs more)

or_none : (a b : Option Over) → a ≡ None → b ≡ None → or_else a b ≡ None
or_none a b h k = rw h k

within : (p : tree.Program) → AllFit p.functions → length p.functions ≤ 256 → sum (map global_words p.globals) ≤ 262144 → limit_of p ≡ None
within p all few words =
    or_none (over 3 256 (length p.functions ∷ [])) _ (over_next 3 256 (length p.functions) [] few refl)
    (or_none (over 4 8 (map (λ f. length f.takes) p.functions)) _ (over_map 4 8 (λ (f : tree.Function). length f.takes) (λ f k. k.parameters) p.functions all)
    (or_none (over 5 4000 (map function_nodes p.functions)) _ (over_map 5 4000 function_nodes (λ f k. k.nodes) p.functions all)
    (or_none (over 6 8192 (map (λ f. sum f.arrays) p.functions)) _ (over_map 6 8192 (λ (f : tree.Function). sum f.arrays) (λ f k. k.arrays) p.functions all)
    (or_none (over 7 262144 (sum (map global_words p.globals) ∷ [])) _ (over_next 7 262144 (sum (map global_words p.globals)) [] words refl)
    (over_formats p.functions all)))))

no_words : (l : List ℕ) → l ≡ [] → sum l ≤ 8192
no_words l h = rw h (omega arith)

function_fits : (n j : ℕ) (f : syntax.Function) → Good (file_names 0 n) j f → Fits (function_in (in_function (suc j) (array_name ∷ file_names 0 n) [] 0) f)
function_fits n j f g = record {
  parameters = let two : length (takes_of f.parameters) ≡ 2 = ap (λ ks. length ks) g.takes in omega (arith, two);
  nodes = g.nodes;
  arrays = no_words _ g.arrays;
  formats = ap (λ (l : List (List ℕ)). over 8 4096 (map (λ (t : List ℕ). length t) l)) g.formats;
}

main_fits : (n j : ℕ) (f : syntax.Function) → GoodMain (file_names 0 n) j f → Fits (function_in (in_function (suc j) (array_name ∷ file_names 0 n) [] 0) f)
main_fits n j f g = record {
  parameters = let none : length (takes_of f.parameters) ≡ 0 = ap (λ ps. length (takes_of ps)) g.parameters in omega (arith, none);
  nodes = g.nodes;
  arrays = no_words _ g.arrays;
  formats = g.formats;
}

all_fit : (p : syntax.Program) (n j k above : ℕ) (ds : List syntax.Definition) → names_of p ≡ array_name ∷ file_names 0 n → takes_from p.definitions ≡ takes_numbers (array_name ∷ file_names 0 n) → length (globals_of p.definitions) ≡ 1 → above ≡ suc j → Listing (file_names 0 n) j k ds
    → AllFit (functions_from p above ds)
all_fit p n j m above es names takes one is (Listing.main_alone {f = f} g) =
    let here : in_function (suc j) (array_name ∷ file_names 0 n) [] 0 ≡ at_function p above = sym (λ i. record { depth = 1; locals = []; names = names i; above = is i; takes = takes i; scalars = 0; arrays = one i; sizes = [] }) in
    AllFit.one_fits (subst (λ (e : Environment). Fits (function_in e f)) here (main_fits n j f g)) AllFit.none_left
all_fit p n j m above es names takes one is (Listing.one_more {k = k} {f = f} {ds = ds} g more) =
    let here : in_function (suc j) (array_name ∷ file_names 0 n) [] 0 ≡ at_function p above = sym (λ i. record { depth = 1; locals = []; names = names i; above = is i; takes = takes i; scalars = 0; arrays = one i; sizes = [] }) in
    AllFit.one_fits (subst (λ (e : Environment). Fits (function_in e f)) here (function_fits n j f g)) (all_fit p n (j + 1) k (above + 1) ds names takes one (omega (arith, is)) more)

functions_count : (p : syntax.Program) (n j k above : ℕ) (ds : List syntax.Definition) → Listing (file_names 0 n) j k ds → length (functions_from p above ds) ≡ suc k
functions_count p n j m above es (Listing.main_alone {f = f} g) = refl
functions_count p n j m above es (Listing.one_more {k = k} {f = f} {ds = ds} g more) = ap (λ (c : ℕ). suc c) (functions_count p n (j + 1) k (above + 1) ds more)

one_global : (gs : List GlobalVariable) → length gs ≡ 0 → sum (map global_words (ArrayGlobal 16 ∷ gs)) ≤ 262144
one_global [] h = omega arith
one_global (g ∷ gs) h = absurd (omega (arith, h))

kept : (place size_place end : Place) (n : ℕ) (ds : List syntax.Definition) → n ≤ 100 → Listing (file_names 0 n) 0 n ds → limit_of (resolved (program_with place size_place end ds)) ≡ None
kept place size_place end n ds few l =
    let p : syntax.Program = program_with place size_place end ds in
    let one : length (globals_of p.definitions) ≡ 1 = globals_of_all place size_place end n ds l in
    let none : length (globals_of ds) ≡ 0 = let e : suc (length (globals_of ds)) ≡ 1 = one in omega (arith, e) in
    let words : sum (map global_words (ArrayGlobal 16 ∷ globals_of ds)) ≤ 262144 = one_global (globals_of ds) none in
    let count : length (functions_from p 1 ds) ≡ suc n = functions_count p n 0 n 1 ds l in
    within (resolved p) (all_fit p n 0 n 1 ds (names_of_all place size_place end n ds l) (takes_of_all place size_place end n ds l) one refl l) (omega (arith, count, few)) words

-- the whole

shallow_enough : (d : ℕ) → d ≤ max 0 12 → d ≤ 200
shallow_enough d h = omega (arith, h)

parsed : (k : ℕ) (ts : List Token) (last : Token) → (w : Whole (file_names 0 k) k ts (last ∷ [])) → Parses ts (program_with w.place w.size_place (place_of last) w.functions)
unfolding depth_behind row_depth
parsed k ts last w = record {
  derivation = Then (Node Program w.row) NoMore;
  last = last;
  is = enters Program w.inner [] ts (last ∷ []) (last ∷ []) w.row NoMore w.enters w.is phrases.nothing;
  shallow = shallow_enough (depth_behind 0 (Node Program w.row)) (w.depth 0);
  is_tree = λ i. record { definitions = (sym w.definitions) i; end = place_of last };
}

pub program_reads : (seed size : ℕ) → size ≤ 10000 → (p : tree.Program) × Reads (program_text seed size) p
program_reads seed size h =
    let k : ℕ = function_count size in
    let bytes : List ℕ = program_text seed size in
    let few : k ≤ 100 = omega (arith, h) in
    let last : Token = token_at bytes kinds.End (length bytes) 0 in
    let d : DrawnSource seed size = source_drawn seed size h in
    let w : Whole (file_names 0 k) k (all_tokens bytes k d.lists) (last ∷ []) = source_whole k d.lists bytes (length bytes) few d.count d.few in
    let parsed_tree : syntax.Program = program_with w.place w.size_place (place_of last) w.functions in
    let short : length bytes < 1048576 = program_length seed size h in (
      resolved parsed_tree,
      record {
        short = omega (arith, short);
        tokens = all_tokens bytes k d.lists;
        lexes = d.lexes;
        tree = parsed_tree;
        parses = parsed k (all_tokens bytes k d.lists) last w;
        faultless = faultless w.place w.size_place (place_of last) k w.functions few w.listing;
        within = kept w.place w.size_place (place_of last) k w.functions few w.listing;
        is_program = refl;
      },
    )
