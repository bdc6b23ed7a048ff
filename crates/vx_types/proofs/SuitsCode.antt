-- Statements without faults suit what is known where they stand.
use Rattle.std.proofs.Common.{◌≡◌, ℕ, zero, suc, ◌+◌, ◌≤◌, Bool, true, false, ◌&&◌, if◌then◌else◌, not, nat_eq, nat_lt, List, [], ◌∷◌, ◌++◌, length, refl, ap, sym, ◌∙◌, subst, arith, append_assoc, append-nil, length-append}
use Rattle.std.specs.Prelude.{slice_get}
use Rattle.std.specs.List.{list_all}
use Rattle.std.proofs.lemmas.List.Folds.{list_all-append}
use Rattle.std.proofs.lemmas.Bool.{eq-eqb, eqb-true}
use Rattle.vx_ast.specs.declared.tree.Gives.{Gives}
use Rattle.vx_ast.specs.declared.tree.Takes.{Takes}
use Rattle.vx_ast.specs.declared.tree.Gives.TheVariants.{Int as GivesInt, Nothing as GivesNothing}
use Rattle.vx_ast.specs.declared.syntax.Name.{Name}
use Rattle.vx_ast.specs.declared.syntax.Size.{Size}
use Rattle.vx_ast.specs.declared.names.Named.{Named}
use Rattle.vx_ast.specs.declared.names.Named.TheVariants.{Scalar as AScalar, Global as AGlobal, Array as AnArray, Function as AFunctionNamed, ReadInt as Reads, MoreInput as AsksMore, Print as Prints}
use Rattle.vx_ast.specs.declared.names.FileName.{FileName}
use Rattle.vx_ast.specs.Tree as tree
use Rattle.vx_ast.specs.Tree.{One}
use Rattle.vx_ast.specs.Accepted as accepted
use Rattle.vx_ast.specs.Accepted.{gives_int, is_array, is_in, is_format, numbers_of, has_numbers, names_array, suits, suits_action, suits_test, suits_code, scope_after, scalars_of, arrays_of}
use Rattle.vx_ast.specs.Syntax.{Code, Nothing, Seq, Empty, Block, Scalar, ScalarWith, Array, Simply, Head, Print, If, IfElse, While, DoWhile, For, Break, Continue, Return, ReturnValue}
use Rattle.vx_ast.specs.Scopes.{Environment, Known, is_at, look, declared, with_scalar, with_array, inside, outside, behind, predeclared, known_of, file_in}
use Rattle.vx_ast.specs.Faults.{fault_if, declares, sizes_faults, prints, row_length, phrase_faults, row_faults, test_faults, code_faults}
use Rattle.vx_ast.specs.Resolved.{tree_in, row_in, test_in, code_in}
use Rattle.vx_limits.specs.Words.{tree_words, test_words, code_words}
use Rattle.vx_names.proofs.Declaring.{declared_counts}
use Rattle.vx_types.proofs.Scoping.{behind_keeps}
use Rattle.vx_types.proofs.Numbered.{in_front, in_more, lt_true, lt_false, Numbers, numbers_none, numbers_one, numbers_on, numbers_rise}
use Rattle.vx_types.proofs.Suits.{and_both, and_left, and_right, none_left, none_right, no_fault, not_false, Fits, AllFit, KnownFit, TakesFit, phrase_suits, row_suits, action_suits, test_suits, lengths, all_numbers}

-- the numbers of scalars and arrays

pub scalars_numbered : (s : Code) (env : Environment) → Numbers env.scalars (behind s env).scalars (scalars_of (code_in env s))
scalars_numbered Nothing env = numbers_none env.scalars
scalars_numbered (Seq a b) env = numbers_on env.scalars (behind a env).scalars (behind b (behind a env)).scalars (scalars_of (code_in env a)) (scalars_of (code_in (behind a env) b)) (scalars_numbered a env) (scalars_numbered b (behind a env))
scalars_numbered Empty env = numbers_none env.scalars
scalars_numbered (Block a) env = scalars_numbered a (inside env)
scalars_numbered (Scalar x) env = numbers_one env.scalars
scalars_numbered (ScalarWith x e) env = numbers_one env.scalars
scalars_numbered (Array a size) env = subst (λ (z : ℕ). Numbers env.scalars z []) (sym (declared_counts a.bytes (AnArray env.arrays) env).0) (numbers_none env.scalars)
scalars_numbered (Simply a) env = numbers_none env.scalars
scalars_numbered (Head a) env = numbers_none env.scalars
scalars_numbered (Print at at_format format row) env = numbers_none env.scalars
scalars_numbered (If e a) env = scalars_numbered a (inside env)
scalars_numbered (IfElse e a b) env =
    numbers_on env.scalars (behind a (inside env)).scalars (behind b (inside (outside env (behind a (inside env))))).scalars (scalars_of (code_in (inside env) a)) (scalars_of (code_in (inside (outside env (behind a (inside env)))) b))
    (scalars_numbered a (inside env)) (scalars_numbered b (inside (outside env (behind a (inside env)))))
scalars_numbered (While e a) env = scalars_numbered a (inside env)
scalars_numbered (DoWhile a e) env = scalars_numbered a (inside env)
scalars_numbered (For first test step a) env =
    numbers_on env.scalars (behind first (inside env)).scalars (behind a (inside (behind first (inside env)))).scalars (scalars_of (code_in (inside env) first)) (scalars_of (code_in (inside (behind first (inside env))) a))
    (scalars_numbered first (inside env)) (scalars_numbered a (inside (behind first (inside env))))
scalars_numbered (Break at) env = numbers_none env.scalars
scalars_numbered (Continue at) env = numbers_none env.scalars
scalars_numbered (Return at) env = numbers_none env.scalars
scalars_numbered (ReturnValue at e) env = numbers_none env.scalars

pub arrays_numbered : (s : Code) (env : Environment) → Numbers env.arrays (behind s env).arrays (arrays_of (code_in env s))
arrays_numbered Nothing env = numbers_none env.arrays
arrays_numbered (Seq a b) env = numbers_on env.arrays (behind a env).arrays (behind b (behind a env)).arrays (arrays_of (code_in env a)) (arrays_of (code_in (behind a env) b)) (arrays_numbered a env) (arrays_numbered b (behind a env))
arrays_numbered Empty env = numbers_none env.arrays
arrays_numbered (Block a) env = arrays_numbered a (inside env)
arrays_numbered (Scalar x) env = subst (λ (z : ℕ). Numbers env.arrays z []) (sym (declared_counts x.bytes (AScalar env.scalars) env).1) (numbers_none env.arrays)
arrays_numbered (ScalarWith x e) env = subst (λ (z : ℕ). Numbers env.arrays z []) (sym (declared_counts x.bytes (AScalar env.scalars) env).1) (numbers_none env.arrays)
arrays_numbered (Array a size) env = numbers_one env.arrays
arrays_numbered (Simply a) env = numbers_none env.arrays
arrays_numbered (Head a) env = numbers_none env.arrays
arrays_numbered (Print at at_format format row) env = numbers_none env.arrays
arrays_numbered (If e a) env = arrays_numbered a (inside env)
arrays_numbered (IfElse e a b) env =
    numbers_on env.arrays (behind a (inside env)).arrays (behind b (inside (outside env (behind a (inside env))))).arrays (arrays_of (code_in (inside env) a)) (arrays_of (code_in (inside (outside env (behind a (inside env)))) b))
    (arrays_numbered a (inside env)) (arrays_numbered b (inside (outside env (behind a (inside env)))))
arrays_numbered (While e a) env = arrays_numbered a (inside env)
arrays_numbered (DoWhile a e) env = arrays_numbered a (inside env)
arrays_numbered (For first test step a) env =
    numbers_on env.arrays (behind first (inside env)).arrays (behind a (inside (behind first (inside env)))).arrays (arrays_of (code_in (inside env) first)) (arrays_of (code_in (inside (behind first (inside env))) a))
    (arrays_numbered first (inside env)) (arrays_numbered a (inside (behind first (inside env))))
arrays_numbered (Break at) env = numbers_none env.arrays
arrays_numbered (Continue at) env = numbers_none env.arrays
arrays_numbered (Return at) env = numbers_none env.arrays
arrays_numbered (ReturnValue at e) env = numbers_none env.arrays

-- the words of the arrays, each over 0
pub record Sized (before after : Environment) : Type 0 where
  pub more : List ℕ
  pub sizes : after.sizes ≡ before.sizes ++ more
  pub arrays : after.arrays ≡ before.arrays + length more
  pub positive : list_all (nat_lt 0) more ≡ true

sized_none : (env : Environment) → Sized env env
sized_none env = record { more = []; sizes = sym (append-nil env.sizes); arrays = omega arith; positive = refl }

sized_on : (a b c : Environment) → Sized a b → Sized b c → Sized a c
sized_on a b c p q = record {
  more = p.more ++ q.more;
  sizes = q.sizes ∙ ap (λ (z : List ℕ). z ++ q.more) p.sizes ∙ append_assoc a.sizes p.more q.more;
  arrays = (let k = p.arrays in let l = q.arrays in let m = length-append p.more q.more in omega (arith, k, l, m));
  positive = list_all-append (nat_lt 0) p.more q.more ∙ and_both (list_all (nat_lt 0) p.more) (list_all (nat_lt 0) q.more) p.positive q.positive;
}

-- in and behind a scope of its own
sized_inside : (env inner : Environment) → Sized (inside env) inner → Sized env (outside env inner)
sized_inside env inner s = record { more = s.more; sizes = s.sizes; arrays = s.arrays; positive = s.positive }

sized_scalar : (x : Name) (env : Environment) → Sized env (with_scalar x env)
sized_scalar x env =
    let d = declared_counts x.bytes (AScalar env.scalars) env in
    record { more = []; sizes = d.2 ∙ sym (append-nil env.sizes); arrays = (let k = d.1 in omega (arith, k)); positive = refl }

pub over_zero : (n : ℕ) → nat_eq n 0 ≡ false → nat_lt 0 n ≡ true
over_zero zero h = cc
over_zero (suc n) h = lt_true 0 (suc n) (omega arith)

pub sized : (gives : Gives) (loops : Bool) (s : Code) (env : Environment) → code_faults gives loops env s ≡ [] → Sized env (behind s env)
sized gives loops Nothing env h = sized_none env
sized gives loops (Seq a b) env h =
    sized_on env (behind a env) (behind b (behind a env))
    (sized gives loops a env (none_left (code_faults gives loops env a) (code_faults gives loops (behind a env) b) h))
    (sized gives loops b (behind a env) (none_right (code_faults gives loops env a) (code_faults gives loops (behind a env) b) h))
sized gives loops Empty env h = sized_none env
sized gives loops (Block a) env h = sized_inside env (behind a (inside env)) (sized gives loops a (inside env) h)
sized gives loops (Scalar x) env h = sized_scalar x env
sized gives loops (ScalarWith x e) env h = sized_scalar x env
sized gives loops (Array a size) env h =
    let d = declared_counts a.bytes (AnArray env.arrays) env in
    let z = no_fault (nat_eq size.words 0) 13 size.place (none_right (declares env a) (sizes_faults size) h) in
    record { more = size.words ∷ []; sizes = refl; arrays = refl; positive = and_both (nat_lt 0 size.words) true (over_zero size.words z) refl }
sized gives loops (Simply a) env h = sized_none env
sized gives loops (Head a) env h = sized_none env
sized gives loops (Print at at_format format row) env h = sized_none env
sized gives loops (If e a) env h = sized_inside env (behind a (inside env)) (sized gives loops a (inside env) (none_right (phrase_faults env e) (code_faults gives loops (inside env) a) h))
sized gives loops (IfElse e a b) env h =
    let r = none_right (phrase_faults env e) (code_faults gives loops (inside env) a ++ code_faults gives loops (inside (outside env (behind a (inside env)))) b) h in
    let one = sized_inside env (behind a (inside env)) (sized gives loops a (inside env) (none_left (code_faults gives loops (inside env) a) (code_faults gives loops (inside (outside env (behind a (inside env)))) b) r)) in
    let two = sized_inside (outside env (behind a (inside env))) (behind b (inside (outside env (behind a (inside env))))) (sized gives loops b (inside (outside env (behind a (inside env)))) (none_right (code_faults gives loops (inside env) a) (code_faults gives loops (inside (outside env (behind a (inside env)))) b) r)) in
    let all = sized_on env (outside env (behind a (inside env))) (outside (outside env (behind a (inside env))) (behind b (inside (outside env (behind a (inside env)))))) one two in
    record { more = all.more; sizes = all.sizes; arrays = all.arrays; positive = all.positive }
sized gives loops (While e a) env h = sized_inside env (behind a (inside env)) (sized gives true a (inside env) (none_right (phrase_faults env e) (code_faults gives true (inside env) a) h))
sized gives loops (DoWhile a e) env h = sized_inside env (behind a (inside env)) (sized gives true a (inside env) (none_right (phrase_faults env e) (code_faults gives true (inside env) a) h))
sized gives loops (For first test step a) env h =
    let f = code_faults gives loops (inside env) first in
    let t = test_faults (behind first (inside env)) test in
    let s = code_faults gives loops (behind first (inside env)) step in
    let b = code_faults gives true (inside (behind first (inside env))) a in
    let r = none_right s b (none_right t (s ++ b) (none_right f (t ++ (s ++ b)) h)) in
    let one = sized gives loops first (inside env) (none_left f (t ++ (s ++ b)) h) in
    let two = sized_inside (behind first (inside env)) (behind a (inside (behind first (inside env)))) (sized gives true a (inside (behind first (inside env))) r) in
    let all = sized_on (inside env) (behind first (inside env)) (outside (behind first (inside env)) (behind a (inside (behind first (inside env))))) one two in
    record { more = all.more; sizes = all.sizes; arrays = all.arrays; positive = all.positive }
sized gives loops (Break at) env h = sized_none env
sized gives loops (Continue at) env h = sized_none env
sized gives loops (Return at) env h = sized_none env
sized gives loops (ReturnValue at e) env h = sized_none env

-- what is known behind a statement fits what is in force there

abbrev more_scalar : ℕ → accepted.Scope → accepted.Scope
more_scalar x sc = record sc { scalars = x ∷ sc.scalars }

abbrev more_array : ℕ → accepted.Scope → accepted.Scope
more_array x sc = record sc { arrays = x ∷ sc.arrays }

module _ (P : tree.Program) where
  fits_scalar : (x : ℕ) (sc : accepted.Scope) (n : Named) → Fits P sc n → Fits P (more_scalar x sc) n
  fits_scalar x sc (AScalar n) f = in_more n x sc.scalars f
  fits_scalar x sc (AGlobal a) f = f
  fits_scalar x sc (AnArray a) f = f
  fits_scalar x sc (AFunctionNamed g gives count) f = f
  fits_scalar x sc Reads f = f
  fits_scalar x sc AsksMore f = f
  fits_scalar x sc Prints f = f

  array_more : (x a : ℕ) (sc : accepted.Scope) (b : Bool) → (if b then is_array (slice_get P.globals a) else is_in a sc.arrays) ≡ true → (if b then is_array (slice_get P.globals a) else is_in a (x ∷ sc.arrays)) ≡ true
  array_more x a sc true f = f
  array_more x a sc false f = in_more a x sc.arrays f

  fits_array : (x : ℕ) (sc : accepted.Scope) (n : Named) → Fits P sc n → Fits P (more_array x sc) n
  fits_array x sc (AScalar n) f = f
  fits_array x sc (AGlobal a) f = f
  fits_array x sc (AnArray a) f = array_more x a sc (nat_lt a (length P.globals)) f
  fits_array x sc (AFunctionNamed g gives count) f = f
  fits_array x sc Reads f = f
  fits_array x sc AsksMore f = f
  fits_array x sc Prints f = f

  all_scalar : (x : ℕ) (sc : accepted.Scope) (ks : List Known) → AllFit P sc ks → AllFit P (more_scalar x sc) ks
  all_scalar x sc [] f = tt
  all_scalar x sc (k ∷ ks) f = (fits_scalar x sc k.meant.named f.0, all_scalar x sc ks f.1)

  all_array : (x : ℕ) (sc : accepted.Scope) (ks : List Known) → AllFit P sc ks → AllFit P (more_array x sc) ks
  all_array x sc [] f = tt
  all_array x sc (k ∷ ks) f = (fits_array x sc k.meant.named f.0, all_array x sc ks f.1)

  pub declared_fits : (x : List ℕ) (n : Named) (sc : accepted.Scope) (env : Environment) → Fits P sc n → AllFit P sc (env.locals ++ file_in env) → TakesFit P env.takes → KnownFit P sc (declared x n env)
  unfolding declared
  declared_fits x n sc env f k t =
      elim (is_at env.depth (look x env)) as (λ b. KnownFit P sc (if b then env else record env { locals = (record { name = x; meant = record { depth = env.depth; named = n } }) ∷ env.locals }))
      [ true ↦ record { names = k; takes = t } | false ↦ record { names = (f, k); takes = t } ]

  pub record Ties (sc : accepted.Scope) (env : Environment) : Type 0 where
    pub fits : KnownFit P sc env
    pub own : length P.globals ≤ env.arrays

  ties_scalar : (x : Name) (sc : accepted.Scope) (env : Environment) → Ties sc env → Ties (more_scalar env.scalars sc) (with_scalar x env)
  ties_scalar x sc env t = record {
    fits = declared_fits x.bytes (AScalar env.scalars) (more_scalar env.scalars sc) env (in_front env.scalars sc.scalars) (all_scalar env.scalars sc (env.locals ++ file_in env) t.fits.names) t.fits.takes;
    own = (let k = t.own in let l = (declared_counts x.bytes (AScalar env.scalars) env).1 in omega (arith, k, l));
  }

  own_array : (a : ℕ) (sc : accepted.Scope) → length P.globals ≤ a → names_array P (more_array a sc) a ≡ true
  own_array a sc h = ap (λ (b : Bool). if b then is_array (slice_get P.globals a) else is_in a (a ∷ sc.arrays)) (lt_false a (length P.globals) h) ∙ in_front a sc.arrays

  ties_array : (x : Name) (size : Size) (sc : accepted.Scope) (env : Environment) → Ties sc env → Ties (more_array env.arrays sc) (with_array x size env)
  ties_array x size sc env t = record {
    fits = declared_fits x.bytes (AnArray env.arrays) (more_array env.arrays sc) env (own_array env.arrays sc t.own) (all_array env.arrays sc (env.locals ++ file_in env) t.fits.names) t.fits.takes;
    own = (let k = t.own in omega (arith, k));
  }

  pub ties_inside : (sc : accepted.Scope) (env : Environment) → Ties sc env → Ties sc (inside env)
  ties_inside sc env t = record { fits = t.fits; own = t.own }

  ties_outside : (sc : accepted.Scope) (env inner : Environment) → Ties sc env → inner.names ≡ env.names → inner.above ≡ env.above → inner.takes ≡ env.takes → env.arrays ≤ inner.arrays → Ties sc (outside env inner)
  ties_outside sc env inner t n a k r = record {
    fits = record {
      names = subst (λ (z : List FileName). AllFit P sc (env.locals ++ (predeclared ++ known_of inner.above z))) (sym n) (subst (λ (z : ℕ). AllFit P sc (env.locals ++ (predeclared ++ known_of z env.names))) (sym a) t.fits.names);
      takes = subst (λ (z : List (List Takes)). TakesFit P z) (sym k) t.fits.takes;
    };
    own = (let k = t.own in omega (arith, k, r));
  }

  ties_block : (s : Code) (sc : accepted.Scope) (env : Environment) → Ties sc env → Ties sc (outside env (behind s (inside env)))
  ties_block s sc env t =
      let k = behind_keeps s (inside env) in
      ties_outside sc env (behind s (inside env)) t k.names k.above k.takes (numbers_rise env.arrays (behind s (inside env)).arrays (arrays_of (code_in (inside env) s)) (arrays_numbered s (inside env)))

  pub ties_behind : (s : Code) (sc : accepted.Scope) (env : Environment) → Ties sc env → Ties (scope_after (code_in env s) sc) (behind s env)
  ties_behind Nothing sc env t = t
  ties_behind (Seq a b) sc env t = ties_behind b (scope_after (code_in env a) sc) (behind a env) (ties_behind a sc env t)
  ties_behind Empty sc env t = t
  ties_behind (Block a) sc env t = ties_block a sc env t
  ties_behind (Scalar x) sc env t = ties_scalar x sc env t
  ties_behind (ScalarWith x e) sc env t = ties_scalar x sc env t
  ties_behind (Array a size) sc env t = ties_array a size sc env t
  ties_behind (Simply a) sc env t = t
  ties_behind (Head a) sc env t = t
  ties_behind (Print at at_format format row) sc env t = t
  ties_behind (If e a) sc env t = ties_block a sc env t
  ties_behind (IfElse e a b) sc env t =
      let k = ties_block b sc (outside env (behind a (inside env))) (ties_block a sc env t) in
      record { fits = k.fits; own = k.own }
  ties_behind (While e a) sc env t = ties_block a sc env t
  ties_behind (DoWhile a e) sc env t = ties_block a sc env t
  ties_behind (For first test step a) sc env t =
      let k = behind_keeps first (inside env) in
      let l = behind_keeps a (inside (behind first (inside env))) in
      let m = numbers_rise env.arrays (behind first (inside env)).arrays (arrays_of (code_in (inside env) first)) (arrays_numbered first (inside env)) in
      let n = numbers_rise (behind first (inside env)).arrays (behind a (inside (behind first (inside env)))).arrays (arrays_of (code_in (inside (behind first (inside env))) a)) (arrays_numbered a (inside (behind first (inside env)))) in
      ties_outside sc env (behind a (inside (behind first (inside env)))) t (l.names ∙ k.names) (l.above ∙ k.above) (l.takes ∙ k.takes) (omega (arith, m, n))
  ties_behind (Break at) sc env t = t
  ties_behind (Continue at) sc env t = t
  ties_behind (Return at) sc env t = t
  ties_behind (ReturnValue at e) sc env t = t

  -- statements

  pub code_suits : (gives : Gives) (loops : Bool) (s : Code) (sc : accepted.Scope) (env : Environment) → Ties sc env → code_words (code_in env s) ≡ true → code_faults gives loops env s ≡ [] → suits_code P gives loops sc (code_in env s) ≡ true
  code_suits gives loops Nothing sc env t w h = refl
  code_suits gives loops (Seq a b) sc env t w h =
      and_both (suits_code P gives loops sc (code_in env a)) (suits_code P gives loops (scope_after (code_in env a) sc) (code_in (behind a env) b))
      (code_suits gives loops a sc env t (and_left (code_words (code_in env a)) (code_words (code_in (behind a env) b)) w) (none_left (code_faults gives loops env a) (code_faults gives loops (behind a env) b) h))
      (code_suits gives loops b (scope_after (code_in env a) sc) (behind a env) (ties_behind a sc env t) (and_right (code_words (code_in env a)) (code_words (code_in (behind a env) b)) w) (none_right (code_faults gives loops env a) (code_faults gives loops (behind a env) b) h))
  code_suits gives loops Empty sc env t w h = refl
  code_suits gives loops (Block a) sc env t w h = code_suits gives loops a sc (inside env) (ties_inside sc env t) w h
  code_suits gives loops (Scalar x) sc env t w h = refl
  code_suits gives loops (ScalarWith x e) sc env t w h = phrase_suits P sc env e t.fits w (none_left (phrase_faults env e) (declares env x) h)
  code_suits gives loops (Array a size) sc env t w h = refl
  code_suits gives loops (Simply a) sc env t w h = action_suits P sc env a t.fits w h
  code_suits gives loops (Head a) sc env t w h = action_suits P sc env a t.fits w h
  code_suits gives loops (Print at at_format format row) sc env t w h =
      let n = not (nat_eq (row_length row) (numbers_of format)) in
      let g = prints at at_format format (row_length row) in
      let made = row_in env [] row in
      let p = none_left g (row_faults env [] row) h in
      let count = not_false (nat_eq (row_length row) (numbers_of format)) (no_fault n 8 at (none_left (fault_if n 8 at) (fault_if (not (is_format format)) 9 at_format) p)) in
      let spelled = not_false (is_format format) (no_fault (not (is_format format)) 9 at_format (none_right (fault_if n 8 at) (fault_if (not (is_format format)) 9 at_format) p)) in
      and_both (is_format format && (nat_eq (numbers_of format) (accepted.row_length made) && has_numbers made)) (suits P sc made)
      (and_both (is_format format) (nat_eq (numbers_of format) (accepted.row_length made) && has_numbers made) spelled
      (and_both (nat_eq (numbers_of format) (accepted.row_length made)) (has_numbers made) (counted (row_length row) (numbers_of format) (accepted.row_length made) (lengths env [] row) count) (all_numbers env row)))
      (row_suits P sc env [] row t.fits w (none_right g (row_faults env [] row) h))
    where
      counted : (m n k : ℕ) → m ≡ k → nat_eq m n ≡ true → nat_eq n k ≡ true
      counted m n k e q = (let r : m ≡ n = eqb-true m n q in eq-eqb n k (sym r ∙ e))
  code_suits gives loops (If e a) sc env t w h =
      and_both (suits P sc (tree_in env e)) (suits_code P gives loops sc (code_in (inside env) a))
      (phrase_suits P sc env e t.fits (and_left (tree_words (tree_in env e)) (code_words (code_in (inside env) a)) w) (none_left (phrase_faults env e) (code_faults gives loops (inside env) a) h))
      (code_suits gives loops a sc (inside env) (ties_inside sc env t) (and_right (tree_words (tree_in env e)) (code_words (code_in (inside env) a)) w) (none_right (phrase_faults env e) (code_faults gives loops (inside env) a) h))
  code_suits gives loops (IfElse e a b) sc env t w h =
      let middle = outside env (behind a (inside env)) in
      let fa = code_faults gives loops (inside env) a in
      let fb = code_faults gives loops (inside (outside env (behind a (inside env)))) b in
      let wr = and_right (tree_words (tree_in env e)) (code_words (code_in (inside env) a) && code_words (code_in (inside (outside env (behind a (inside env)))) b)) w in
      let hr = none_right (phrase_faults env e) (fa ++ fb) h in
      and_both (suits P sc (tree_in env e)) (suits_code P gives loops sc (code_in (inside env) a) && suits_code P gives loops sc (code_in (inside middle) b))
      (phrase_suits P sc env e t.fits (and_left (tree_words (tree_in env e)) (code_words (code_in (inside env) a) && code_words (code_in (inside (outside env (behind a (inside env)))) b)) w) (none_left (phrase_faults env e) (fa ++ fb) h))
      (and_both (suits_code P gives loops sc (code_in (inside env) a)) (suits_code P gives loops sc (code_in (inside middle) b))
      (code_suits gives loops a sc (inside env) (ties_inside sc env t) (and_left (code_words (code_in (inside env) a)) (code_words (code_in (inside (outside env (behind a (inside env)))) b)) wr) (none_left fa fb hr))
      (code_suits gives loops b sc (inside (outside env (behind a (inside env)))) (ties_inside sc (outside env (behind a (inside env))) (ties_block a sc env t)) (and_right (code_words (code_in (inside env) a)) (code_words (code_in (inside (outside env (behind a (inside env)))) b)) wr) (none_right fa fb hr)))
  code_suits gives loops (While e a) sc env t w h =
      and_both (suits P sc (tree_in env e)) (suits_code P gives true sc (code_in (inside env) a))
      (phrase_suits P sc env e t.fits (and_left (tree_words (tree_in env e)) (code_words (code_in (inside env) a)) w) (none_left (phrase_faults env e) (code_faults gives true (inside env) a) h))
      (code_suits gives true a sc (inside env) (ties_inside sc env t) (and_right (tree_words (tree_in env e)) (code_words (code_in (inside env) a)) w) (none_right (phrase_faults env e) (code_faults gives true (inside env) a) h))
  code_suits gives loops (DoWhile a e) sc env t w h =
      and_both (suits_code P gives true sc (code_in (inside env) a)) (suits P sc (tree_in env e))
      (code_suits gives true a sc (inside env) (ties_inside sc env t) (and_right (tree_words (tree_in env e)) (code_words (code_in (inside env) a)) w) (none_right (phrase_faults env e) (code_faults gives true (inside env) a) h))
      (phrase_suits P sc env e t.fits (and_left (tree_words (tree_in env e)) (code_words (code_in (inside env) a)) w) (none_left (phrase_faults env e) (code_faults gives true (inside env) a) h))
  code_suits gives loops (For first test step a) sc env t w h =
      let middle = behind first (inside env) in
      let force = scope_after (code_in (inside env) first) sc in
      let ff = code_faults gives loops (inside env) first in
      let ft = test_faults (behind first (inside env)) test in
      let fs = code_faults gives loops (behind first (inside env)) step in
      let fa = code_faults gives true (inside (behind first (inside env))) a in
      let tied = ties_behind first sc (inside env) (ties_inside sc env t) in
      let w1 = and_right (code_words (code_in (inside env) first)) (test_words (test_in (behind first (inside env)) test) && (code_words (code_in (behind first (inside env)) step) && code_words (code_in (inside (behind first (inside env))) a))) w in
      let w2 = and_right (test_words (test_in (behind first (inside env)) test)) (code_words (code_in (behind first (inside env)) step) && code_words (code_in (inside (behind first (inside env))) a)) w1 in
      let h1 = none_right ff (ft ++ (fs ++ fa)) h in
      let h2 = none_right ft (fs ++ fa) h1 in
      and_both (suits_code P gives loops sc (code_in (inside env) first)) (suits_test P force (test_in middle test) && (suits_code P gives loops force (code_in middle step) && suits_code P gives true force (code_in (inside middle) a)))
      (code_suits gives loops first sc (inside env) (ties_inside sc env t) (and_left (code_words (code_in (inside env) first)) (test_words (test_in (behind first (inside env)) test) && (code_words (code_in (behind first (inside env)) step) && code_words (code_in (inside (behind first (inside env))) a))) w) (none_left ff (ft ++ (fs ++ fa)) h))
      (and_both (suits_test P force (test_in middle test)) (suits_code P gives loops force (code_in middle step) && suits_code P gives true force (code_in (inside middle) a))
      (test_suits P (scope_after (code_in (inside env) first) sc) (behind first (inside env)) test tied.fits (and_left (test_words (test_in (behind first (inside env)) test)) (code_words (code_in (behind first (inside env)) step) && code_words (code_in (inside (behind first (inside env))) a)) w1) (none_left ft (fs ++ fa) h1))
      (and_both (suits_code P gives loops force (code_in middle step)) (suits_code P gives true force (code_in (inside middle) a))
      (code_suits gives loops step (scope_after (code_in (inside env) first) sc) (behind first (inside env)) tied (and_left (code_words (code_in (behind first (inside env)) step)) (code_words (code_in (inside (behind first (inside env))) a)) w2) (none_left fs fa h2))
      (code_suits gives true a (scope_after (code_in (inside env) first) sc) (inside (behind first (inside env))) (ties_inside (scope_after (code_in (inside env) first) sc) (behind first (inside env)) tied) (and_right (code_words (code_in (behind first (inside env)) step)) (code_words (code_in (inside (behind first (inside env))) a)) w2) (none_right fs fa h2))))
  code_suits gives loops (Break at) sc env t w h = not_false loops (no_fault (not loops) 11 at h)
  code_suits gives loops (Continue at) sc env t w h = not_false loops (no_fault (not loops) 11 at h)
  code_suits GivesInt loops (Return at) sc env t w h = cc
  code_suits GivesNothing loops (Return at) sc env t w h = refl
  code_suits GivesInt loops (ReturnValue at e) sc env t w h = phrase_suits P sc env e t.fits w h
  code_suits GivesNothing loops (ReturnValue at e) sc env t w h = cc
