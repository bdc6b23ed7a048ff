-- Programs, definition by definition.
use Rattle.std.proofs.Common.{◌≡◌, ℕ, suc, ◌+◌, ◌<◌, Bool, true, if◌then◌else◌, List, [], ◌∷◌, ◌++◌, length, take, drop, map, get_or, refl, ap, sym, ◌∙◌, Option, None, append_assoc, append-nil}
use Rattle.vx_ast.specs.declared.tree.Takes.{Takes}
use Rattle.vx_ast.specs.declared.syntax.Parameter.{Parameter}
use Rattle.vx_ast.specs.declared.syntax.Definition.{Definition as Written}
use Rattle.vx_ast.specs.declared.names.FileName.{FileName}
use Rattle.vx_ast.specs.declared.names.Fault.{Fault}
use Rattle.vx_ast.specs.Tree as tree
use Rattle.vx_ast.specs.Syntax.{Definition, GlobalScalar, GlobalArray, AFunction, Program}
use Rattle.vx_ast.specs.Scopes.{Environment, with_parameter, with_parameters, takes_from, names_from, names_of, globals_of, at_function}
use Rattle.vx_ast.specs.Faults.{declares, parameter_faults, is_main, definition_faults, definitions_faults, least, fault_if, function_faults, is_repeated}
use Rattle.vx_ast.specs.Resolved.{function_in, functions_from, main_from, resolved}
use Rattle.vx_ast.specs.SyntaxView.{definition_of}
use Rattle.vx_types.specs.Whole.{at_start, own_faults, own_functions}
use Rattle.vx_names.proofs.Lists.{drop_next}
use Rattle.vx_types.proofs.Leasts.{least_append}

-- parameters

pub record ParametersSo (env : Environment) (first : Option Fault) (left : List Parameter) (start : Environment) (before : Option Fault) (all : List Parameter) : Type 0 where
  pub known_so : with_parameters left env ≡ with_parameters all start
  pub faults_so : least first (parameter_faults env left) ≡ least before (parameter_faults start all)

pub parameters_begin : (env : Environment) (first : Option Fault) (all : List Parameter) → ParametersSo env first all env first all
parameters_begin env first all = record { known_so = refl; faults_so = refl }

pub parameters_step : (env next : Environment) (first after : Option Fault) (left rest : List Parameter) (q : Parameter) (start : Environment) (before : Option Fault) (all : List Parameter)
    → ParametersSo env first left start before all → left ≡ q ∷ rest → next ≡ with_parameter q env → after ≡ least first (declares env q.name) → ParametersSo next after rest start before all
parameters_step env next first after left rest q start before all s e k f = record {
  known_so = ap (λ (z : Environment). with_parameters rest z) k ∙ sym (ap (λ (z : List Parameter). with_parameters z env) e) ∙ s.known_so;
  faults_so = ap (λ (z : Option Fault). least z (parameter_faults next rest)) f ∙ ap (λ (z : Environment). least (least first (declares env q.name)) (parameter_faults z rest)) k
      ∙ sym (least_append first (declares env q.name) (parameter_faults (with_parameter q env) rest)) ∙ sym (ap (λ (z : List Parameter). least first (parameter_faults env z)) e) ∙ s.faults_so;
}

pub parameters_end : (env : Environment) (first : Option Fault) (left : List Parameter) (start : Environment) (before : Option Fault) (all : List Parameter) → ParametersSo env first left start before all → left ≡ []
    → (env ≡ with_parameters all start) × (first ≡ least before (parameter_faults start all))
parameters_end env first left start before all s e =
    (sym (ap (λ (z : List Parameter). with_parameters z env) e) ∙ s.known_so, sym (ap (λ (z : List Parameter). least first (parameter_faults env z)) e) ∙ s.faults_so)

-- definitions as they are seen

pub next_seen : (all : List Written) (i : ℕ) (x : Written) → i < length all → x ≡ get_or all i x → map definition_of (drop i all) ≡ definition_of x ∷ map definition_of (drop (i + 1) all)
next_seen all i x h e = ap (λ (z : List Written). map definition_of z) (drop_next all i x h e)

pub one_name : (old new : List FileName) (r : FileName) (rest : List FileName) → new ≡ old ++ r ∷ [] → new ++ rest ≡ old ++ (r ∷ rest)
one_name old new r rest e = ap (λ (z : List FileName). z ++ rest) e ∙ append_assoc old (r ∷ []) rest

pub names_length : (a f : ℕ) (ds : List Definition) → length (names_from a f ds) ≡ length ds
names_length a f [] = refl
names_length a f (GlobalScalar x z ∷ ds) = ap suc (names_length (a + 1) f ds)
names_length a f (GlobalArray x size ∷ ds) = ap suc (names_length (a + 1) f ds)
names_length a f (AFunction g ∷ ds) = ap suc (names_length a (f + 1) ds)

pub seen_length : (ds : List Written) → length (map definition_of ds) ≡ length ds
seen_length [] = refl
seen_length (d ∷ ds) = ap suc (seen_length ds)

pub main_here : (d : Definition) (n : ℕ) (ds : List Definition) → is_main d ≡ true → main_from n (d ∷ ds) ≡ n
main_here (GlobalScalar x z) n ds h = cc
main_here (GlobalArray x size) n ds h = cc
main_here (AFunction f) n ds h = ap (λ (b : Bool). if b then n else main_from (n + 1) ds) h

-- what is known at a definition is what the file says there

pub at_its_start : (p : Program) (i arrays : ℕ) (env : Environment) → env.locals ≡ [] → env.names ≡ names_of p → env.above ≡ i → env.takes ≡ takes_from p.definitions → arrays ≡ length (globals_of p.definitions) → at_start env arrays ≡ at_function p i
at_its_start p i arrays env l n a t g =
    ap (λ z. record { depth = 1; locals = z; names = env.names; above = env.above; takes = env.takes; scalars = 0; arrays = arrays; sizes = [] }) l
    ∙ ap (λ z. record { depth = 1; locals = []; names = z; above = env.above; takes = env.takes; scalars = 0; arrays = arrays; sizes = [] }) n
    ∙ ap (λ z. record { depth = 1; locals = []; names = names_of p; above = z; takes = env.takes; scalars = 0; arrays = arrays; sizes = [] }) a
    ∙ ap (λ z. record { depth = 1; locals = []; names = names_of p; above = i; takes = z; scalars = 0; arrays = arrays; sizes = [] }) t
    ∙ ap (λ z. record { depth = 1; locals = []; names = names_of p; above = i; takes = takes_from p.definitions; scalars = 0; arrays = z; sizes = [] }) g

own_are : (p : Program) (i arrays : ℕ) (env : Environment) (d : Definition) → env.names ≡ names_of p → env.above ≡ i → at_start env arrays ≡ at_function p i → own_faults env arrays d ≡ definition_faults p i d
own_are p i arrays env (GlobalScalar x z) n a s = ap (λ ns. own_faults (record env { names = ns }) arrays (GlobalScalar x z)) n ∙ ap (λ k. own_faults (record env { names = names_of p; above = k }) arrays (GlobalScalar x z)) a
own_are p i arrays env (GlobalArray x size) n a s = ap (λ ns. own_faults (record env { names = ns }) arrays (GlobalArray x size)) n ∙ ap (λ k. own_faults (record env { names = names_of p; above = k }) arrays (GlobalArray x size)) a
own_are p i arrays env (AFunction f) n a s =
    ap (λ ns. fault_if (is_repeated (take env.above ns) f.name.bytes) 6 f.name.place ++ function_faults (at_start env arrays) f) n
    ∙ ap (λ k. fault_if (is_repeated (take k (names_of p)) f.name.bytes) 6 f.name.place ++ function_faults (at_start env arrays) f) a
    ∙ ap (λ e. fault_if (is_repeated (take i (names_of p)) f.name.bytes) 6 f.name.place ++ function_faults e f) s

own_made : (p : Program) (i arrays : ℕ) (env : Environment) (d : Definition) (ds : List Definition) → at_start env arrays ≡ at_function p i → own_functions env arrays d ++ functions_from p (i + 1) ds ≡ functions_from p i (d ∷ ds)
own_made p i arrays env (GlobalScalar x z) ds s = refl
own_made p i arrays env (GlobalArray x size) ds s = refl
own_made p i arrays env (AFunction f) ds s = ap (λ e. function_in e f ∷ functions_from p (i + 1) ds) s

-- the functions so far, the first fault so far, and what is known behind the definitions above
pub record PassedSo (p : Program) (arrays : ℕ) (done : List tree.Function) (env : Environment) (first : Option Fault) (i : ℕ) (left : List Definition) : Type 0 where
  pub made_so : done ++ functions_from p i left ≡ (resolved p).functions
  pub faults_so : least first (definitions_faults p i left) ≡ least None (definitions_faults p 0 p.definitions)
  pub locals_so : env.locals ≡ []
  pub names_so : env.names ≡ names_of p
  pub above_so : env.above ≡ i
  pub takes_so : env.takes ≡ takes_from p.definitions
  pub arrays_so : arrays ≡ length (globals_of p.definitions)

pub passed_begin : (p : Program) (arrays : ℕ) (env : Environment) → env ≡ record { depth = 0; locals = []; names = names_of p; above = 0; takes = takes_from p.definitions; scalars = 0; arrays = 0; sizes = [] } → arrays ≡ length (globals_of p.definitions) → PassedSo p arrays [] env None 0 p.definitions
passed_begin p arrays env e g = record { made_so = refl; faults_so = refl; locals_so = ap (λ (z : Environment). z.locals) e; names_so = ap (λ (z : Environment). z.names) e; above_so = ap (λ (z : Environment). z.above) e; takes_so = ap (λ (z : Environment). z.takes) e; arrays_so = g }

pub passed_step : (p : Program) (arrays : ℕ) (done more : List tree.Function) (env last : Environment) (first after : Option Fault) (i : ℕ) (left rest : List Definition) (d : Definition)
    → PassedSo p arrays done env first i left → left ≡ d ∷ rest → more ≡ done ++ own_functions env arrays d → after ≡ least first (own_faults env arrays d)
    → last.locals ≡ [] → last.names ≡ env.names → last.above ≡ env.above + 1 → last.takes ≡ env.takes → PassedSo p arrays more last after (i + 1) rest
passed_step p arrays done more env last first after i left rest d s e m f l n a t =
    let start = at_its_start p i arrays env s.locals_so s.names_so s.above_so s.takes_so s.arrays_so in
    record {
      made_so = ap (λ z. z ++ functions_from p (i + 1) rest) m ∙ append_assoc done (own_functions env arrays d) (functions_from p (i + 1) rest)
          ∙ ap (λ z. done ++ z) (own_made p i arrays env d rest start) ∙ sym (ap (λ z. done ++ functions_from p i z) e) ∙ s.made_so;
      faults_so = ap (λ z. least z (definitions_faults p (i + 1) rest)) (f ∙ ap (λ z. least first z) (own_are p i arrays env d s.names_so s.above_so start))
          ∙ sym (least_append first (definition_faults p i d) (definitions_faults p (i + 1) rest)) ∙ sym (ap (λ z. least first (definitions_faults p i z)) e) ∙ s.faults_so;
      locals_so = l;
      names_so = n ∙ s.names_so;
      above_so = a ∙ ap (λ z. z + 1) s.above_so;
      takes_so = t ∙ s.takes_so;
      arrays_so = s.arrays_so;
    }

pub passed_end : (p : Program) (arrays : ℕ) (done : List tree.Function) (env : Environment) (first : Option Fault) (i : ℕ) (left : List Definition) → PassedSo p arrays done env first i left → left ≡ []
    → (done ≡ (resolved p).functions) × (first ≡ least None (definitions_faults p 0 p.definitions))
passed_end p arrays done env first i left s e =
    (sym (append-nil done) ∙ sym (ap (λ z. done ++ functions_from p i z) e) ∙ s.made_so, sym (ap (λ z. least first (definitions_faults p i z)) e) ∙ s.faults_so)

-- what the functions take, definition by definition

pub takes_pushed : (old new : List (List Takes)) (ts : List Takes) (rest : List (List Takes)) → new ≡ old ++ ts ∷ [] → new ++ rest ≡ old ++ (ts ∷ rest)
takes_pushed old new ts rest e = ap (λ (z : List (List Takes)). z ++ rest) e ∙ append_assoc old (ts ∷ []) rest
