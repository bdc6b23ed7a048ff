-- A generated source has no fault, and is within its limits.
use Rattle.std.proofs.Common.{◌≡◌, ℕ, suc, ◌+◌, ◌≤◌, Bool, true, false, not, ◌||◌, List, [], ◌∷◌, length, take, codes, None, refl, ap, ◌∙◌, arith}
use Rattle.std.specs.List.{list_any}
use Rattle.vx_ast.specs.declared.tree.GlobalVariable.{GlobalVariable}
use Rattle.vx_ast.specs.declared.tree.Takes.{Takes}
use Rattle.vx_ast.specs.declared.tree.Takes.TheVariants.{Number as TakesNumber}
use Rattle.vx_ast.specs.declared.syntax.Place.{Place}
use Rattle.vx_ast.specs.declared.names.Named.TheVariants.{Function as AFunctionNamed}
use Rattle.vx_ast.specs.declared.names.FileName.{FileName}
use Rattle.vx_ast.specs.Syntax as syntax
use Rattle.vx_ast.specs.Scopes.{Environment, predeclared, names_from, names_of, takes_of, takes_from, globals_of, at_function}
use Rattle.vx_ast.specs.Faults.{fault_if, is_repeated, function_faults, definition_faults, definitions_faults, is_main, least, first_fault}
use Rattle.vx_generated.proofs.Fine.{both_none}
use Rattle.vx_generated.proofs.Scoped.{in_function, takes_numbers, array_name}
use Rattle.vx_generated.proofs.Functions.{function_name, Good}
use Rattle.vx_generated.proofs.Names.{file_names, function_file, main_file, function_once, main_once}
use Rattle.vx_generated.proofs.Mains.{GoodMain}
use Rattle.vx_generated.proofs.Programs.{Listing}

-- the names of the definitions

function_named : (others : List FileName) (j : ℕ) (f : syntax.Function) → Good others j f → (record { name = f.name.bytes; everywhere = true; named = AFunctionNamed j f.gives (length f.parameters) }) ≡ function_file j
function_named others j f g = λ i. record { name = g.name i; everywhere = true; named = AFunctionNamed j (g.gives i) (g.parameters i) }

main_named : (others : List FileName) (j : ℕ) (f : syntax.Function) → GoodMain others j f → (record { name = f.name.bytes; everywhere = true; named = AFunctionNamed j f.gives (length f.parameters) }) ≡ main_file j
main_named others j f g = λ i. record { name = g.name i; everywhere = true; named = AFunctionNamed j (g.gives i) (length (g.parameters i)) }

names_are : (others : List FileName) (j k : ℕ) (ds : List syntax.Definition) → Listing others j k ds → names_from 1 j ds ≡ file_names j k
names_are others j n es (Listing.main_alone {f = f} g) = ap (λ (n : FileName). n ∷ []) (main_named others j f g)
names_are others j n es (Listing.one_more {k = k} {f = f} {ds = ds} g more) =
    ap (λ (n : FileName). n ∷ names_from 1 (j + 1) ds) (function_named others j f g) ∙ ap (λ (ns : List FileName). function_file j ∷ ns) (names_are others (j + 1) k ds more)

takes_are : (others : List FileName) (j k : ℕ) (ds : List syntax.Definition) → Listing others j k ds → takes_from ds ≡ takes_numbers (file_names j k)
takes_are others j n es (Listing.main_alone {f = f} g) = ap (λ ps. takes_of ps ∷ []) g.parameters
takes_are others j n es (Listing.one_more {k = k} {f = f} {ds = ds} g more) =
    ap (λ (ks : List Takes). ks ∷ takes_from ds) g.takes ∙ ap (λ (kss : List (List Takes)). (TakesNumber ∷ TakesNumber ∷ []) ∷ kss) (takes_are others (j + 1) k ds more)

no_globals : (others : List FileName) (j k : ℕ) (ds : List syntax.Definition) → Listing others j k ds → globals_of ds ≡ []
no_globals others j n es (Listing.main_alone {f = f} g) = refl
no_globals others j n es (Listing.one_more {k = k} {f = f} {ds = ds} g more) = no_globals others (j + 1) k ds more

-- faults

none_if : (b : Bool) (code : ℕ) (place : Place) → b ≡ false → fault_if b code place ≡ []
none_if b code place h = rw h refl

definitions_none : (p : syntax.Program) (n j k above : ℕ) (ds : List syntax.Definition) → names_of p ≡ array_name ∷ file_names 0 n → takes_from p.definitions ≡ takes_numbers (array_name ∷ file_names 0 n) → length (globals_of p.definitions) ≡ 1 → above ≡ suc j → j + k ≡ n → n ≤ 100 → Listing (file_names 0 n) j k ds
    → definitions_faults p above ds ≡ []
definitions_none p n j m above es names takes one is all few (Listing.main_alone {f = f} g) =
    let here : at_function p above ≡ in_function (suc j) (array_name ∷ file_names 0 n) [] 0 = λ i. record { depth = 1; locals = []; names = names i; above = is i; takes = takes i; scalars = 0; arrays = one i; sizes = [] } in
    let same : j ≡ n = omega (arith, all) in
    let once : is_repeated (take above (names_of p)) f.name.bytes ≡ false =
    ap (λ (x : List ℕ). is_repeated (take above (names_of p)) x) g.name ∙ ap (λ (ns : List FileName). is_repeated (take above ns) (codes "main")) names
    ∙ ap (λ (m : ℕ). is_repeated (take m (array_name ∷ file_names 0 n)) (codes "main")) (is ∙ ap (λ (m : ℕ). suc m) same) ∙ main_once n in
    both_none (definition_faults p above (syntax.AFunction f)) [] (both_none (fault_if (is_repeated (take above (names_of p)) f.name.bytes) 6 f.name.place) (function_faults (at_function p above) f)
    (none_if (is_repeated (take above (names_of p)) f.name.bytes) 6 f.name.place once) (ap (λ (e : Environment). function_faults e f) here ∙ g.faults)) refl
definitions_none p n j m above es names takes one is all few (Listing.one_more {k = k} {f = f} {ds = ds} g more) =
    let here : at_function p above ≡ in_function (suc j) (array_name ∷ file_names 0 n) [] 0 = λ i. record { depth = 1; locals = []; names = names i; above = is i; takes = takes i; scalars = 0; arrays = one i; sizes = [] } in
    let once : is_repeated (take above (names_of p)) f.name.bytes ≡ false =
    ap (λ (x : List ℕ). is_repeated (take above (names_of p)) x) g.name ∙ ap (λ (ns : List FileName). is_repeated (take above ns) (function_name j)) names
    ∙ ap (λ (m : ℕ). is_repeated (take m (array_name ∷ file_names 0 n)) (function_name j)) is ∙ function_once j n (omega (arith, all)) (omega (arith, all, few)) in
    both_none (definition_faults p above (syntax.AFunction f)) (definitions_faults p (above + 1) ds) (both_none (fault_if (is_repeated (take above (names_of p)) f.name.bytes) 6 f.name.place) (function_faults (at_function p above) f)
    (none_if (is_repeated (take above (names_of p)) f.name.bytes) 6 f.name.place once) (ap (λ (e : Environment). function_faults e f) here ∙ g.faults))
    (definitions_none p n (j + 1) k (above + 1) ds names takes one (omega (arith, is)) (omega (arith, all)) few more)

has_main : (others : List FileName) (j k : ℕ) (ds : List syntax.Definition) → Listing others j k ds → list_any is_main ds ≡ true
has_main others j n es (Listing.main_alone {f = f} g) = rw g.name (rw g.gives (rw g.parameters refl))
has_main others j n es (Listing.one_more {k = k} {f = f} {ds = ds} g more) = by (is_main (syntax.AFunction f)) (has_main others (j + 1) k ds more) where
  by : (b : Bool) → list_any is_main ds ≡ true → (b || list_any is_main ds) ≡ true
  by true h = refl
  by false h = h

-- the program of these definitions
abbrev pub program_with : (place size_place end : Place) → List syntax.Definition → syntax.Program
program_with place size_place end ds = record { definitions = syntax.GlobalArray (record { bytes = codes "m"; place = place }) (record { words = 16; place = size_place }) ∷ ds; end = end }

pub names_of_all : (place size_place end : Place) (n : ℕ) (ds : List syntax.Definition) → Listing (file_names 0 n) 0 n ds → names_of (program_with place size_place end ds) ≡ array_name ∷ file_names 0 n
names_of_all place size_place end n ds l = ap (λ (ns : List FileName). array_name ∷ ns) (names_are (file_names 0 n) 0 n ds l)

pub takes_of_all : (place size_place end : Place) (n : ℕ) (ds : List syntax.Definition) → Listing (file_names 0 n) 0 n ds → takes_from (program_with place size_place end ds).definitions ≡ takes_numbers (array_name ∷ file_names 0 n)
takes_of_all place size_place end n ds l = takes_are (file_names 0 n) 0 n ds l

pub globals_of_all : (place size_place end : Place) (n : ℕ) (ds : List syntax.Definition) → Listing (file_names 0 n) 0 n ds → length (globals_of (program_with place size_place end ds).definitions) ≡ 1
globals_of_all place size_place end n ds l = ap (λ (gs : List GlobalVariable). suc (length gs)) (no_globals (file_names 0 n) 0 n ds l)

pub faultless : (place size_place end : Place) (n : ℕ) (ds : List syntax.Definition) → n ≤ 100 → Listing (file_names 0 n) 0 n ds → first_fault (program_with place size_place end ds) ≡ None
unfolding predeclared
faultless place size_place end n ds few l =
    let p : syntax.Program = program_with place size_place end ds in
    let none : definitions_faults p 1 ds ≡ [] = definitions_none p n 0 n 1 ds (names_of_all place size_place end n ds l) (takes_of_all place size_place end n ds l) (globals_of_all place size_place end n ds l) refl (omega arith) few l in
    let main : fault_if (not (list_any is_main ds)) 10 end ≡ [] = none_if (not (list_any is_main ds)) 10 end (ap (λ (b : Bool). not b) (has_main (file_names 0 n) 0 n ds l)) in
    ap (λ fs. least None fs) (both_none (definitions_faults p 1 ds) (fault_if (not (list_any is_main ds)) 10 end) none main)
