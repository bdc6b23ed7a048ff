-- What a statement leaves as it was: the scope of the place and the names that were known.
use Rattle.std.proofs.Common.{◌≡◌, ℕ, suc, ◌+◌, ◌-◌, true, false, if◌then◌else◌, length, drop, List, [], ◌∷◌, ◌++◌, refl, ap, sym, ◌∙◌, subst, arith, append_assoc, length-append}
use Rattle.vx_ast.specs.declared.syntax.Name.{Name}
use Rattle.vx_ast.specs.declared.syntax.Size.{Size}
use Rattle.vx_ast.specs.declared.syntax.Parameter.{Parameter}
use Rattle.vx_ast.specs.declared.tree.Takes.{Takes}
use Rattle.vx_ast.specs.declared.tree.Takes.TheVariants.{Number as TakesNumber, Array as TakesArray}
use Rattle.vx_ast.specs.declared.names.Named.{Named}
use Rattle.vx_ast.specs.declared.names.Named.TheVariants.{Scalar as AScalar, Array as AnArray}
use Rattle.vx_ast.specs.Syntax.{Code, Nothing, Seq, Empty, Block, Scalar, ScalarWith, Array, Simply, Head, Print, If, IfElse, While, DoWhile, For, Break, Continue, Return, ReturnValue}
use Rattle.vx_ast.specs.Scopes.{Environment, Known, declared, with_scalar, with_array, with_handed, with_taken, with_parameter, with_parameters, inside, outside, behind, is_at, look}

pub record Keeps (old new : Environment) : Type 0 where
  pub depth : new.depth ≡ old.depth
  pub more : List Known
  pub locals : new.locals ≡ more ++ old.locals
  pub names : new.names ≡ old.names
  pub above : new.above ≡ old.above
  pub takes : new.takes ≡ old.takes

pub keeps_itself : (env : Environment) → Keeps env env
keeps_itself env = record { depth = refl; more = []; locals = refl; names = refl; above = refl; takes = refl }

pub keeps_on : (a b c : Environment) → Keeps a b → Keeps b c → Keeps a c
keeps_on a b c p q = record {
  depth = q.depth ∙ p.depth;
  more = q.more ++ p.more;
  locals = q.locals ∙ ap (λ z. q.more ++ z) p.locals ∙ sym (append_assoc q.more p.more a.locals);
  names = q.names ∙ p.names;
  above = q.above ∙ p.above;
  takes = q.takes ∙ p.takes;
}

pub declared_keeps : (x : List ℕ) (n : Named) (env : Environment) → Keeps env (declared x n env)
unfolding declared
declared_keeps x n env =
    elim (is_at env.depth (look x env)) as (λ b. Keeps env (if b then env else record env { locals = (record { name = x; meant = record { depth = env.depth; named = n } }) ∷ env.locals })) [
      | true ↦ keeps_itself env
      | false ↦ record { depth = refl; more = (record { name = x; meant = record { depth = env.depth; named = n } }) ∷ []; locals = refl; names = refl; above = refl; takes = refl }
    ]

scalar_keeps : (x : Name) (env : Environment) → Keeps env (with_scalar x env)
scalar_keeps x env = let k = declared_keeps x.bytes (AScalar env.scalars) env in record { depth = k.depth; more = k.more; locals = k.locals; names = k.names; above = k.above; takes = k.takes }

array_keeps : (a : Name) (size : Size) (env : Environment) → Keeps env (with_array a size env)
array_keeps a size env = let k = declared_keeps a.bytes (AnArray env.arrays) env in record { depth = k.depth; more = k.more; locals = k.locals; names = k.names; above = k.above; takes = k.takes }

-- behind a scope of its own
outside_keeps : (env inner : Environment) → Keeps (inside env) inner → Keeps env (outside env inner)
outside_keeps env inner k = record { depth = refl; more = []; locals = refl; names = k.names; above = k.above; takes = k.takes }

inside_keeps : (env inner : Environment) → Keeps env inner → Keeps (inside env) (inside inner)
inside_keeps env inner k = record { depth = ap (λ n. n + 1) k.depth; more = k.more; locals = k.locals; names = k.names; above = k.above; takes = k.takes }

-- a scope of its own within another one
within_keeps : (env middle inner : Environment) → Keeps (inside env) middle → Keeps (inside middle) inner → Keeps (inside env) (outside middle inner)
within_keeps env middle inner p q = keeps_on (inside env) middle (outside middle inner) p (outside_keeps middle inner q)

pub behind_keeps : (s : Code) (env : Environment) → Keeps env (behind s env)
behind_keeps Nothing env = keeps_itself env
behind_keeps (Seq a b) env = keeps_on env (behind a env) (behind b (behind a env)) (behind_keeps a env) (behind_keeps b (behind a env))
behind_keeps Empty env = keeps_itself env
behind_keeps (Block a) env = outside_keeps env (behind a (inside env)) (behind_keeps a (inside env))
behind_keeps (Scalar x) env = scalar_keeps x env
behind_keeps (ScalarWith x e) env = scalar_keeps x env
behind_keeps (Array a size) env = array_keeps a size env
behind_keeps (Simply a) env = keeps_itself env
behind_keeps (Head a) env = keeps_itself env
behind_keeps (Print at at_format format row) env = keeps_itself env
behind_keeps (If e a) env = outside_keeps env (behind a (inside env)) (behind_keeps a (inside env))
behind_keeps (IfElse e a b) env =
    let one = outside_keeps env (behind a (inside env)) (behind_keeps a (inside env)) in
    let two = behind_keeps b (inside (outside env (behind a (inside env)))) in
    record { depth = refl; more = []; locals = refl; names = two.names ∙ one.names; above = two.above ∙ one.above; takes = two.takes ∙ one.takes }
behind_keeps (While e a) env = outside_keeps env (behind a (inside env)) (behind_keeps a (inside env))
behind_keeps (DoWhile a e) env = outside_keeps env (behind a (inside env)) (behind_keeps a (inside env))
behind_keeps (For first test step a) env =
    let one = behind_keeps first (inside env) in
    let two = behind_keeps a (inside (behind first (inside env))) in
    record { depth = refl; more = []; locals = refl; names = two.names ∙ one.names; above = two.above ∙ one.above; takes = two.takes ∙ one.takes }
behind_keeps (Break at) env = keeps_itself env
behind_keeps (Continue at) env = keeps_itself env
behind_keeps (Return at) env = keeps_itself env
behind_keeps (ReturnValue at e) env = keeps_itself env

handed_keeps : (a : Name) (env : Environment) → Keeps env (with_handed a env)
handed_keeps a env = let k = declared_keeps a.bytes (AnArray env.arrays) env in record { depth = k.depth; more = k.more; locals = k.locals; names = k.names; above = k.above; takes = k.takes }

taken_keeps : (t : Takes) (x : Name) (env : Environment) → Keeps env (with_taken t x env)
taken_keeps TakesNumber x env = scalar_keeps x env
taken_keeps TakesArray x env = handed_keeps x env

pub parameters_keep : (qs : List Parameter) (env : Environment) → Keeps env (with_parameters qs env)
parameters_keep [] env = keeps_itself env
parameters_keep (q ∷ qs) env = keeps_on env (with_parameter q env) (with_parameters qs (with_parameter q env)) (taken_keeps q.takes q.name env) (parameters_keep qs (with_parameter q env))

-- leaving a scope

drop_front : {A : Type 0} (more rest : List A) → drop (length (more ++ rest) - length rest) (more ++ rest) ≡ rest
drop_front [] rest = let k : length rest - length rest ≡ 0 = omega arith in ap (λ n. drop n rest) k
drop_front (x ∷ more) rest =
    let e : length (x ∷ (more ++ rest)) - length rest ≡ suc (length (more ++ rest) - length rest) = omega (arith, length-append more rest) in
    ap (λ n. drop n (x ∷ (more ++ rest))) e ∙ drop_front more rest

pub leaves : (env inner : Environment) → Keeps (inside env) inner → (record inner { depth = inner.depth - 1; locals = drop (length inner.locals - length env.locals) inner.locals }) ≡ outside env inner
leaves env inner k =
    let d : inner.depth - 1 ≡ env.depth = omega (arith, k.depth) in
    let l : drop (length inner.locals - length env.locals) inner.locals ≡ env.locals = subst (λ (z : List Known). drop (length z - length env.locals) z ≡ env.locals) (sym k.locals) (drop_front k.more env.locals) in
    ap (λ (z : ℕ). record inner { depth = z; locals = drop (length inner.locals - length env.locals) inner.locals }) d ∙ ap (λ (z : List Known). record inner { depth = env.depth; locals = z }) l

pub leaves_block : (s : Code) (env : Environment) → (record (behind s (inside env)) { depth = (behind s (inside env)).depth - 1; locals = drop (length (behind s (inside env)).locals - length env.locals) (behind s (inside env)).locals }) ≡ outside env (behind s (inside env))
leaves_block s env = leaves env (behind s (inside env)) (behind_keeps s (inside env))

pub leaves_for : (first s : Code) (env middle : Environment) → middle ≡ behind first (inside env) → (record (outside middle (behind s (inside middle))) { depth = middle.depth - 1; locals = drop (length middle.locals - length env.locals) middle.locals }) ≡ outside env (behind s (inside middle))
leaves_for first s env middle e =
    let k = subst (λ (z : Environment). Keeps (inside env) z) (sym e) (behind_keeps first (inside env)) in
    leaves env (outside middle (behind s (inside middle))) (within_keeps env middle (behind s (inside middle)) k (behind_keeps s (inside middle)))

-- a scope that is left, by what was known where it was entered
pub block_left : (s : Code) (env entered inner left : Environment) (count : ℕ) → count ≡ length env.locals → entered ≡ inside env → inner ≡ behind s entered
    → left ≡ (record inner { depth = inner.depth - 1; locals = drop (length inner.locals - count) inner.locals }) → left ≡ outside env (behind s (inside env))
block_left s env entered inner left count n e i l =
    l ∙ ap (λ (z : ℕ). record inner { depth = inner.depth - 1; locals = drop (length inner.locals - z) inner.locals }) n
    ∙ ap (λ (z : Environment). record z { depth = z.depth - 1; locals = drop (length z.locals - length env.locals) z.locals }) (i ∙ ap (λ (z : Environment). behind s z) e) ∙ leaves_block s env

pub for_left : (first s : Code) (env entered middle inner left : Environment) (count : ℕ) → count ≡ length env.locals → entered ≡ inside env → middle ≡ behind first entered → inner ≡ outside middle (behind s (inside middle))
    → left ≡ (record inner { depth = inner.depth - 1; locals = drop (length inner.locals - count) inner.locals }) → left ≡ outside env (behind s (inside (behind first (inside env))))
for_left first s env entered middle inner left count n e m i l =
    let b : middle ≡ behind first (inside env) = m ∙ ap (λ (z : Environment). behind first z) e in
    l ∙ ap (λ (z : ℕ). record inner { depth = inner.depth - 1; locals = drop (length inner.locals - z) inner.locals }) n
    ∙ ap (λ (z : Environment). record z { depth = z.depth - 1; locals = drop (length z.locals - length env.locals) z.locals }) i ∙ leaves_for first s env middle b
    ∙ ap (λ (z : Environment). outside env (behind s (inside z))) b
