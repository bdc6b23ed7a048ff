-- A program without faults is suited, and with its limits kept it is accepted.
use Rattle.std.proofs.Common.{◌≡◌, ℕ, zero, suc, ◌+◌, ◌-◌, ◌<◌, ◌≤◌, Bool, true, false, ◌&&◌, ◌||◌, if◌then◌else◌, not, nat_eq, nat_lt, List, [], ◌∷◌, ◌++◌, length, take, map, refl, ap, sym, ◌∙◌, subst, Option, Some, None, arith, append_assoc, length-append, codes}
use Rattle.std.specs.Prelude.{slice_get, slice_index_or}
use Rattle.std.specs.List.{list_all, list_any}
use Rattle.vx_ast.specs.declared.tree.GlobalVariable.{GlobalVariable}
use Rattle.vx_ast.specs.declared.tree.GlobalVariable.TheVariants.{Scalar as ScalarGlobal, Array as ArrayGlobal}
use Rattle.vx_ast.specs.declared.syntax.Name.{Name}
use Rattle.vx_ast.specs.declared.tree.Takes.{Takes}
use Rattle.vx_ast.specs.declared.tree.Takes.TheVariants.{Number as TakesNumber, Array as TakesArray}
use Rattle.vx_ast.specs.declared.syntax.Parameter.{Parameter}
use Rattle.vx_ast.specs.declared.names.Named.TheVariants.{Scalar as AScalar, Array as AnArray}
use Rattle.vx_ast.specs.declared.names.FileName.{FileName}
use Rattle.vx_ast.specs.declared.names.Fault.{Fault}
use Rattle.vx_ast.specs.Tree as tree
use Rattle.vx_ast.specs.Accepted as accepted
use Rattle.vx_ast.specs.Accepted.{gives_int, numbers_among, arrays_among, is_word, is_scalar, is_array, is_in, at_most, below, names_array, suits_code, suits_function, suits_global, in_force_at_start, scalars_of, arrays_of, are_all_from, is_suited, is_accepted, is_none, limit_of}
use Rattle.vx_ast.specs.Syntax.{Function, Definition, GlobalScalar, GlobalArray, AFunction, Program}
use Rattle.vx_ast.specs.Scopes.{Environment, Known, same_name, predeclared, known_of, names_from, names_of, globals_of, at_function, takes_of, takes_from, with_taken, with_parameter, with_parameters, behind, in_file}
use Rattle.vx_ast.specs.Faults.{fault_if, sizes_faults, is_repeated, parameter_faults, code_faults, function_faults, definition_faults, definitions_faults, is_main, faults_of, least, first_fault, stands_before}
use Rattle.vx_ast.specs.Resolved.{function_in, functions_from, main_from, resolved, code_in}
use Rattle.vx_limits.specs.Words.{function_words, global_words, program_words}
use Rattle.vx_names.proofs.Declaring.{declared_counts}
use Rattle.vx_types.proofs.Numbered.{eq_itself, in_below, in_added, lt_true, lt_false, numbers_all, numbers_rise}
use Rattle.vx_types.proofs.Suits.{and_both, and_left, and_right, none_left, none_right, no_fault, not_false, Fits, AllFit}
use Rattle.vx_types.proofs.SuitsCode.{Ties, code_suits, declared_fits, scalars_numbered, arrays_numbered, sized, over_zero}

-- lists

slice_behind : {A : Type 0} (done rest : List A) (x : A) → slice_get (done ++ (x ∷ rest)) (length done) ≡ Some x
slice_behind [] rest x = refl
slice_behind (d ∷ done) rest x = slice_behind done rest x

pub slice_at : {A : Type 0} (done rest xs : List A) (x : A) (i : ℕ) → xs ≡ done ++ (x ∷ rest) → i ≡ length done → slice_get xs i ≡ Some x
slice_at done rest xs x i e n = ap (λ z. slice_get z i) e ∙ ap (λ k. slice_get (done ++ (x ∷ rest)) k) n ∙ slice_behind done rest x

one_more : {A : Type 0} (done : List A) (x : A) (n : ℕ) → n ≡ length done → n + 1 ≡ length (done ++ x ∷ [])
one_more done x n e = (let k = length-append done (x ∷ []) in omega (arith, k, e))

shifted : {A : Type 0} (done rest xs : List A) (x : A) → xs ≡ done ++ (x ∷ rest) → xs ≡ (done ++ x ∷ []) ++ rest
shifted done rest xs x e = e ∙ sym (append_assoc done (x ∷ []) rest)

-- what the names of the file stand for

abbrev NamesFit : tree.Program → accepted.Scope → List FileName → Type 0
NamesFit P sc [] = Unit {0}
NamesFit P sc (n ∷ ns) = Fits P sc n.named × NamesFit P sc ns

known_fit : (P : tree.Program) (sc : accepted.Scope) (above : ℕ) (ns : List FileName) → NamesFit P sc ns → AllFit P sc (known_of above ns)
known_fit P sc above [] f = tt
known_fit P sc zero (n ∷ ns) f =
    elim n.everywhere as (λ b. AllFit P sc (if b then in_file n.name n.named ∷ known_of zero ns else known_of zero ns))
    [ true ↦ (f.0, known_fit P sc zero ns f.1) | false ↦ known_fit P sc zero ns f.1 ]
known_fit P sc (suc above) (n ∷ ns) f = (f.0, known_fit P sc above ns f.1)

predeclared_fit : (P : tree.Program) (sc : accepted.Scope) (ks : List Known) → AllFit P sc ks → AllFit P sc (predeclared ++ ks)
unfolding predeclared
predeclared_fit P sc ks f = (tt, (tt, (tt, f)))

array_there : (P : tree.Program) (sc : accepted.Scope) (a n : ℕ) → a < length P.globals → slice_get P.globals a ≡ Some (ArrayGlobal n) → names_array P sc a ≡ true
array_there P sc a n h e = ap (λ (b : Bool). if b then is_array (slice_get P.globals a) else is_in a sc.arrays) (lt_true a (length P.globals) h) ∙ ap (λ (z : Option GlobalVariable). is_array z) e

takes_length : (qs : List Parameter) → length (takes_of qs) ≡ length qs
takes_length [] = refl
takes_length (q ∷ qs) = ap suc (takes_length qs)

names_fit : (p : Program) (P : tree.Program) (sc : accepted.Scope) (gdone : List GlobalVariable) (fdone : List tree.Function) (above a f : ℕ) (ds : List Definition)
    → P.globals ≡ gdone ++ globals_of ds → P.functions ≡ fdone ++ functions_from p above ds → a ≡ length gdone → f ≡ length fdone → NamesFit P sc (names_from a f ds)
names_fit p P sc gdone fdone above a f [] g h m n = tt
names_fit p P sc gdone fdone above a f (GlobalScalar x z ∷ ds) g h m n = (
  ap (λ (z : Option GlobalVariable). is_scalar z) (slice_at gdone (globals_of ds) P.globals (ScalarGlobal z) a g m),
  names_fit p P sc (gdone ++ ScalarGlobal z ∷ []) fdone (above + 1) (a + 1) f ds (shifted gdone (globals_of ds) P.globals (ScalarGlobal z) g) h (one_more gdone (ScalarGlobal z) a m) n,
)
names_fit p P sc gdone fdone above a f (GlobalArray x size ∷ ds) g h m n =
    let l = ap (λ (z : List GlobalVariable). length z) g ∙ length-append gdone (ArrayGlobal size.words ∷ globals_of ds) in (
      array_there P sc a size.words (omega (arith, l, m)) (slice_at gdone (globals_of ds) P.globals (ArrayGlobal size.words) a g m),
      names_fit p P sc (gdone ++ ArrayGlobal size.words ∷ []) fdone (above + 1) (a + 1) f ds (shifted gdone (globals_of ds) P.globals (ArrayGlobal size.words) g) h (one_more gdone (ArrayGlobal size.words) a m) n,
    )
names_fit p P sc gdone fdone above a f (AFunction d ∷ ds) g h m n = (
  (function_in (at_function p above) d, slice_at fdone (functions_from p (above + 1) ds) P.functions (function_in (at_function p above) d) f h n, refl, takes_length d.parameters),
  names_fit p P sc gdone (fdone ++ function_in (at_function p above) d ∷ []) (above + 1) a (f + 1) ds g (shifted fdone (functions_from p (above + 1) ds) P.functions (function_in (at_function p above) d) h) m (one_more fdone (function_in (at_function p above) d) f n),
)

-- functions

-- what each function takes is what is known of it
takes_fit : (p : Program) (above : ℕ) (ds : List Definition) (f : ℕ) (t : tree.Function) → slice_get (functions_from p above ds) f ≡ Some t → slice_index_or (takes_from ds) f [] ≡ t.takes
takes_fit p above [] f t e = cc
takes_fit p above (GlobalScalar x z ∷ ds) f t e = takes_fit p (above + 1) ds f t e
takes_fit p above (GlobalArray x size ∷ ds) f t e = takes_fit p (above + 1) ds f t e
takes_fit p above (AFunction d ∷ ds) zero t e = some_takes (function_in (at_function p above) d) t e
  where
    some_takes : (u t : tree.Function) → Some u ≡ Some t → u.takes ≡ t.takes
    some_takes u t e = (let q : u ≡ t = cc in ap (λ (z : tree.Function). z.takes) q)
takes_fit p above (AFunction d ∷ ds) (suc f) t e = takes_fit p (above + 1) ds f t e

-- parameters: so many scalars below the first number, and so many arrays behind the globals

array_in_force : (P : tree.Program) (sc : accepted.Scope) (a m : ℕ) → sc.arrays ≡ map (λ k. length P.globals + k) (below m) → length P.globals ≤ a → a < length P.globals + m → names_array P sc a ≡ true
array_in_force P sc a m e h k =
    ap (λ (b : Bool). if b then is_array (slice_get P.globals a) else is_in a sc.arrays) (lt_false a (length P.globals) h)
    ∙ ap (λ (z : List ℕ). is_in a z) e ∙ in_added (length P.globals) a m h k

taken_counts : (w : Takes) (x : Name) (env : Environment) (ws : List Takes)
    → ((with_taken w x env).scalars + numbers_among ws ≡ env.scalars + numbers_among (w ∷ ws)) × ((with_taken w x env).arrays + arrays_among ws ≡ env.arrays + arrays_among (w ∷ ws)) × ((with_taken w x env).sizes ≡ env.sizes)
taken_counts TakesNumber x env ws =
    let c = declared_counts x.bytes (AScalar env.scalars) env in
    (omega arith, ap (λ (k : ℕ). k + arrays_among ws) c.1, c.2)
taken_counts TakesArray x env ws =
    let c = declared_counts x.bytes (AnArray env.arrays) env in
    (ap (λ (k : ℕ). k + numbers_among ws) c.0, omega arith, c.2)

taken_ties : (P : tree.Program) (sc : accepted.Scope) (m n : ℕ) (w : Takes) (x : Name) (env : Environment) (ws : List Takes) → sc.scalars ≡ below m → sc.arrays ≡ map (λ k. length P.globals + k) (below n)
    → env.scalars + numbers_among (w ∷ ws) ≤ m → env.arrays + arrays_among (w ∷ ws) ≤ length P.globals + n → Ties P sc env → Ties P sc (with_taken w x env)
taken_ties P sc m n TakesNumber x env ws s a h k t =
    let few : env.scalars + suc (numbers_among ws) ≤ m = h in
    let c = declared_counts x.bytes (AScalar env.scalars) env in
    record {
      fits = declared_fits P x.bytes (AScalar env.scalars) sc env (ap (λ (z : List ℕ). is_in env.scalars z) s ∙ in_below env.scalars m (omega (arith, few))) t.fits.names t.fits.takes;
      own = (let o = t.own in let q = c.1 in omega (arith, o, q));
    }
taken_ties P sc m n TakesArray x env ws s a h k t =
    let few : env.arrays + suc (arrays_among ws) ≤ length P.globals + n = k in
    let o = t.own in
    record {
      fits = declared_fits P x.bytes (AnArray env.arrays) sc env (array_in_force P sc env.arrays n a t.own (omega (arith, few))) t.fits.names t.fits.takes;
      own = omega (arith, o);
    }

parameter_ties : (P : tree.Program) (sc : accepted.Scope) (m n : ℕ) (qs : List Parameter) (env : Environment) → sc.scalars ≡ below m → sc.arrays ≡ map (λ k. length P.globals + k) (below n)
    → env.scalars + numbers_among (takes_of qs) ≤ m → env.arrays + arrays_among (takes_of qs) ≤ length P.globals + n → Ties P sc env → Ties P sc (with_parameters qs env)
parameter_ties P sc m n [] env s a h k t = t
parameter_ties P sc m n (q ∷ qs) env s a h k t =
    let c = taken_counts q.takes q.name env (takes_of qs) in
    let c0 = c.0 in
    let c1 = c.1 in
    let few : env.scalars + numbers_among (q.takes ∷ takes_of qs) ≤ m = h in
    let less : env.arrays + arrays_among (q.takes ∷ takes_of qs) ≤ length P.globals + n = k in
    parameter_ties P sc m n qs (with_parameter q env) s a (omega (arith, c0, few)) (omega (arith, c1, less)) (taken_ties P sc m n q.takes q.name env (takes_of qs) s a h k t)

pub parameter_counts : (qs : List Parameter) (env : Environment)
    → ((with_parameters qs env).scalars ≡ env.scalars + numbers_among (takes_of qs)) × ((with_parameters qs env).arrays ≡ env.arrays + arrays_among (takes_of qs)) × ((with_parameters qs env).sizes ≡ env.sizes)
parameter_counts [] env = (omega arith, omega arith, refl)
parameter_counts (q ∷ qs) env =
    let c = taken_counts q.takes q.name env (takes_of qs) in
    let r = parameter_counts qs (with_parameter q env) in
    (r.0 ∙ c.0, r.1 ∙ c.1, r.2 ∙ c.2)

module _ (p : Program) where
  function_ties : (sc : accepted.Scope) (above : ℕ) → Ties (resolved p) sc (at_function p above)
  function_ties sc above = record {
    fits = record {
      names = predeclared_fit (resolved p) sc (known_of above (names_of p)) (known_fit (resolved p) sc above (names_of p) (names_fit p (resolved p) sc [] [] 0 0 0 p.definitions refl refl refl refl));
      takes = takes_fit p 0 p.definitions;
    };
    own = omega arith;
  }

  function_suits : (above : ℕ) (f : Function) → function_faults (at_function p above) f ≡ [] → function_words (function_in (at_function p above) f) ≡ true → suits_function (resolved p) (function_in (at_function p above) f) ≡ true
  function_suits above f h w =
      let n = numbers_among (takes_of f.parameters) in
      let m = arrays_among (takes_of f.parameters) in
      let start = with_parameters f.parameters (at_function p above) in
      let last = behind f.body (with_parameters f.parameters (at_function p above)) in
      let force : accepted.Scope = record { scalars = below (numbers_among (takes_of f.parameters)); arrays = map (λ k. length (resolved p).globals + k) (below (arrays_among (takes_of f.parameters))) } in
      let faultless = none_right (parameter_faults (at_function p above) f.parameters) (code_faults f.gives false (with_parameters f.parameters (at_function p above)) f.body) h in
      let counts = parameter_counts f.parameters (at_function p above) in
      let few : 0 + numbers_among (takes_of f.parameters) ≤ numbers_among (takes_of f.parameters) = omega arith in
      let less : length (resolved p).globals + arrays_among (takes_of f.parameters) ≤ length (resolved p).globals + arrays_among (takes_of f.parameters) = omega arith in
      let ties = parameter_ties (resolved p) force n m f.parameters (at_function p above) refl refl few less (function_ties force above) in
      let scalars = scalars_numbered f.body (with_parameters f.parameters (at_function p above)) in
      let arrays = arrays_numbered f.body (with_parameters f.parameters (at_function p above)) in
      let sizes = sized f.gives false f.body (with_parameters f.parameters (at_function p above)) faultless in
      let first : (with_parameters f.parameters (at_function p above)).scalars ≡ numbers_among (takes_of f.parameters) = (let k = counts.0 in omega (arith, k)) in
      let rise = numbers_rise start.scalars last.scalars (scalars_of (code_in start f.body)) scalars in
      let all_sizes : last.sizes ≡ sizes.more = sizes.sizes ∙ ap (λ (z : List ℕ). z ++ sizes.more) counts.2 in
      let long : last.arrays - start.arrays ≡ length last.sizes = (let k = sizes.arrays in let l = ap (λ (z : List ℕ). length z) all_sizes in omega (arith, k, l)) in
      and_both (suits_code (resolved p) f.gives false force (code_in start f.body) && (at_most n last.scalars && nat_eq n n))
      (are_all_from n (last.scalars - n) (scalars_of (code_in start f.body)) && (are_all_from (length (resolved p).globals + m) (length last.sizes) (arrays_of (code_in start f.body)) && list_all (nat_lt 0) last.sizes))
      (and_both (suits_code (resolved p) f.gives false force (code_in start f.body)) (at_most n last.scalars && nat_eq n n)
      (code_suits (resolved p) f.gives false f.body force (with_parameters f.parameters (at_function p above)) ties w faultless)
      (and_both (at_most n last.scalars) (nat_eq n n) (lt_true n (suc last.scalars) (omega (arith, rise, first))) (eq_itself n)))
      (and_both (are_all_from n (last.scalars - n) (scalars_of (code_in start f.body))) (are_all_from (length (resolved p).globals + m) (length last.sizes) (arrays_of (code_in start f.body)) && list_all (nat_lt 0) last.sizes)
      (subst (λ (z : ℕ). are_all_from z (last.scalars - z) (scalars_of (code_in start f.body)) ≡ true) first (numbers_all start.scalars last.scalars (scalars_of (code_in start f.body)) scalars))
      (and_both (are_all_from (length (resolved p).globals + m) (length last.sizes) (arrays_of (code_in start f.body))) (list_all (nat_lt 0) last.sizes)
      (subst (λ (z : ℕ). are_all_from z (length last.sizes) (arrays_of (code_in start f.body)) ≡ true) counts.1
      (subst (λ (z : ℕ). are_all_from start.arrays z (arrays_of (code_in start f.body)) ≡ true) long (numbers_all start.arrays last.arrays (arrays_of (code_in start f.body)) arrays)))
      (ap (λ (z : List ℕ). list_all (nat_lt 0) z) all_sizes ∙ sizes.positive)))

  functions_suit : (above : ℕ) (ds : List Definition) → definitions_faults p above ds ≡ [] → list_all function_words (functions_from p above ds) ≡ true → list_all (suits_function (resolved p)) (functions_from p above ds) ≡ true
  functions_suit above [] h w = refl
  functions_suit above (GlobalScalar x z ∷ ds) h w = functions_suit (above + 1) ds (none_right (definition_faults p above (GlobalScalar x z)) (definitions_faults p (above + 1) ds) h) w
  functions_suit above (GlobalArray x size ∷ ds) h w = functions_suit (above + 1) ds (none_right (definition_faults p above (GlobalArray x size)) (definitions_faults p (above + 1) ds) h) w
  functions_suit above (AFunction f ∷ ds) h w =
      let t = function_in (at_function p above) f in
      let own = none_left (definition_faults p above (AFunction f)) (definitions_faults p (above + 1) ds) h in
      and_both (suits_function (resolved p) t) (list_all (suits_function (resolved p)) (functions_from p (above + 1) ds))
      (function_suits above f (none_right (fault_if (is_repeated (take above (names_of p)) f.name.bytes) 6 f.name.place) (function_faults (at_function p above) f) own) (and_left (function_words (function_in (at_function p above) f)) (list_all function_words (functions_from p (above + 1) ds)) w))
      (functions_suit (above + 1) ds (none_right (definition_faults p above (AFunction f)) (definitions_faults p (above + 1) ds) h) (and_right (function_words (function_in (at_function p above) f)) (list_all function_words (functions_from p (above + 1) ds)) w))

  globals_suit : (above : ℕ) (ds : List Definition) → definitions_faults p above ds ≡ [] → list_all global_words (globals_of ds) ≡ true → list_all suits_global (globals_of ds) ≡ true
  globals_suit above [] h w = refl
  globals_suit above (GlobalScalar x z ∷ ds) h w =
      and_both (is_word z) (list_all suits_global (globals_of ds)) (and_left (is_word z) (list_all global_words (globals_of ds)) w)
      (globals_suit (above + 1) ds (none_right (definition_faults p above (GlobalScalar x z)) (definitions_faults p (above + 1) ds) h) (and_right (is_word z) (list_all global_words (globals_of ds)) w))
  globals_suit above (GlobalArray x size ∷ ds) h w =
      let own = none_left (definition_faults p above (GlobalArray x size)) (definitions_faults p (above + 1) ds) h in
      and_both (nat_lt 0 size.words) (list_all suits_global (globals_of ds))
      (over_zero size.words (no_fault (nat_eq size.words 0) 13 size.place (none_right (fault_if (is_repeated (take above (names_of p)) x.bytes) 6 x.place) (sizes_faults size) own)))
      (globals_suit (above + 1) ds (none_right (definition_faults p above (GlobalArray x size)) (definitions_faults p (above + 1) ds) h) w)
  globals_suit above (AFunction f ∷ ds) h w = globals_suit (above + 1) ds (none_right (definition_faults p above (AFunction f)) (definitions_faults p (above + 1) ds) h) w

  main_there : (fdone : List tree.Function) (above n : ℕ) (ds : List Definition) → (resolved p).functions ≡ fdone ++ functions_from p above ds → n ≡ length fdone → list_any is_main ds ≡ true → accepted.is_main (slice_get (resolved p).functions (main_from n ds)) ≡ true
  main_there fdone above n [] e l h = cc
  main_there fdone above n (GlobalScalar x z ∷ ds) e l h = main_there fdone (above + 1) n ds e l h
  main_there fdone above n (GlobalArray x size ∷ ds) e l h = main_there fdone (above + 1) n ds e l h
  main_there fdone above n (AFunction f ∷ ds) e l h =
      let t = function_in (at_function p above) f in
      let here : is_main (AFunction f) ≡ true → accepted.is_main (slice_get (resolved p).functions n) ≡ true
      = λ m. ap (λ (z : Option tree.Function). accepted.is_main z) (slice_at fdone (functions_from p (above + 1) ds) (resolved p).functions (function_in (at_function p above) f) n e l)
      ∙ ap (λ (k : ℕ). gives_int f.gives && nat_eq k 0) (takes_length f.parameters)
      ∙ and_right (same_name (codes "main") f.name.bytes) (gives_int f.gives && nat_eq (length f.parameters) 0) m in
      let later : list_any is_main ds ≡ true → accepted.is_main (slice_get (resolved p).functions (main_from (n + 1) ds)) ≡ true
      = λ m. main_there (fdone ++ function_in (at_function p above) f ∷ []) (above + 1) (n + 1) ds (shifted fdone (functions_from p (above + 1) ds) (resolved p).functions (function_in (at_function p above) f) e) (one_more fdone (function_in (at_function p above) f) n l) m in
      let by : (b : Bool) → is_main (AFunction f) ≡ b → (b || list_any is_main ds) ≡ true → accepted.is_main (slice_get (resolved p).functions (if b then n else main_from (n + 1) ds)) ≡ true
      = λ b. elim b as (λ b. is_main (AFunction f) ≡ b → (b || list_any is_main ds) ≡ true → accepted.is_main (slice_get (resolved p).functions (if b then n else main_from (n + 1) ds)) ≡ true)
      [ true ↦ λ m q. here m | false ↦ λ m q. later q ] in
      by (is_main (AFunction f)) refl h

  pub suited : faults_of p ≡ [] → program_words (resolved p) ≡ true → is_suited (resolved p) ≡ true
  suited h w =
      let d = none_left (definitions_faults p 0 p.definitions) (fault_if (not (list_any is_main p.definitions)) 10 p.end) h in
      let m = not_false (list_any is_main p.definitions) (no_fault (not (list_any is_main p.definitions)) 10 p.end (none_right (definitions_faults p 0 p.definitions) (fault_if (not (list_any is_main p.definitions)) 10 p.end) h)) in
      and_both (list_all (suits_function (resolved p)) (resolved p).functions && list_all suits_global (resolved p).globals) (accepted.is_main (slice_get (resolved p).functions (resolved p).main))
      (and_both (list_all (suits_function (resolved p)) (resolved p).functions) (list_all suits_global (resolved p).globals)
      (functions_suit 0 p.definitions d (and_left (list_all function_words (resolved p).functions) (list_all global_words (resolved p).globals) w))
      (globals_suit 0 p.definitions d (and_right (list_all function_words (resolved p).functions) (list_all global_words (resolved p).globals) w)))
      (main_there [] 0 0 p.definitions refl refl m)

-- no fault is first exactly where there is none
least_some : (f : Fault) (fs : List Fault) → least (Some f) fs ≡ None → ⊥
least_some f [] e = cc
least_some f (g ∷ fs) e = least_some (if stands_before g f then g else f) fs e

pub no_first : (fs : List Fault) → least None fs ≡ None → fs ≡ []
no_first [] e = refl
no_first (f ∷ fs) e = absurd (least_some f fs e)

pub accepts : (p : Program) (q : tree.Program) → q ≡ resolved p → first_fault p ≡ None → limit_of q ≡ None → program_words q ≡ true → is_accepted q ≡ true
unfolding is_accepted
accepts p q e h l w =
    let s : is_suited (resolved p) ≡ true = suited p (no_first (faults_of p) h) (sym (ap (λ (z : tree.Program). program_words z) e) ∙ w) in
    and_both (is_suited q) (is_none (limit_of q)) (ap (λ (z : tree.Program). is_suited z) e ∙ s) (ap is_none l)
