-- What is known behind declarations, and behind a scope whose names are forgotten one by one.
use Rattle.std.proofs.Common.{◌≡◌, Bool, ℕ, zero, suc, ◌+◌, ◌-◌, ◌<◌, ◌≤◌, true, false, if◌then◌else◌, length, drop, List, [], ◌∷◌, ◌++◌, refl, ap, sym, ◌∙◌, arith}
use Rattle.std.proofs.lemmas.List.{length-drop}
use Rattle.vx_ast.specs.declared.syntax.Name.{Name}
use Rattle.vx_ast.specs.declared.syntax.Size.{Size}
use Rattle.vx_ast.specs.declared.names.Named.{Named}
use Rattle.vx_ast.specs.declared.names.Named.TheVariants.{Scalar as AScalar, Array as AnArray}
use Rattle.vx_ast.specs.Scopes.{Environment, Known, declared, with_scalar, with_array, with_handed, is_at, look}

-- names that are forgotten one by one

pub record Removed (env now : Environment) (most : ℕ) : Type 0 where
  pub count : ℕ
  pub within : count ≤ most
  pub is : now ≡ record env { locals = drop count env.locals }

pub removed_none : (env : Environment) (most : ℕ) → Removed env env most
removed_none env most = record { count = 0; within = omega arith; is = refl }

drop_one : {A : Type 0} (n : ℕ) (xs : List A) → drop 1 (drop n xs) ≡ drop (n + 1) xs
drop_one zero xs = refl
drop_one (suc n) [] = (let k : suc n + 1 ≡ suc (n + 1) = omega arith in sym (ap (λ m. drop m []) k))
drop_one (suc n) (x ∷ xs) = drop_one n xs ∙ (let k : suc n + 1 ≡ suc (n + 1) = omega arith in sym (ap (λ m. drop m (x ∷ xs)) k))

pub removed_more : (env now next : Environment) (count : ℕ) → Removed env now (length env.locals - count) → count < length now.locals → next ≡ record now { locals = drop 1 now.locals } → Removed env next (length env.locals - count)
removed_more env now next count r h e =
    let l : length now.locals ≡ length env.locals - r.count = ap (λ (z : Environment). length z.locals) r.is ∙ length-drop r.count env.locals in
    record {
      count = r.count + 1;
      within = omega (arith, l, h);
      is = e ∙ ap (λ (z : Environment). record z { locals = drop 1 z.locals }) r.is ∙ ap (λ (z : List Known). record env { locals = z }) (drop_one r.count env.locals);
    }

pub removed_all : (env now last : Environment) (count : ℕ) → Removed env now (length env.locals - count) → length now.locals ≤ count → last ≡ record now { depth = now.depth - 1 } → last ≡ record env { depth = env.depth - 1; locals = drop (length env.locals - count) env.locals }
removed_all env now last count r h e =
    let l : length now.locals ≡ length env.locals - r.count = ap (λ (z : Environment). length z.locals) r.is ∙ length-drop r.count env.locals in
    let w : r.count ≤ length env.locals - count = r.within in
    let n : r.count ≡ length env.locals - count = omega (arith, l, h, w) in
    e ∙ ap (λ (z : Environment). record z { depth = z.depth - 1 }) r.is ∙ ap (λ (k : ℕ). record env { depth = env.depth - 1; locals = drop k env.locals }) n

-- a name that is declared, where its scope has it already and where it has not

pub declared_still : (x : List ℕ) (n : Named) (env now : Environment) → env ≡ now → is_at env.depth (look x env) ≡ true → env ≡ declared x n now
unfolding declared
declared_still x n env now e h =
    let here : Environment = record env { locals = (record { name = x; meant = record { depth = env.depth; named = n } }) ∷ env.locals } in
    sym (ap (λ (b : Bool). if b then env else here) h) ∙ ap (λ (z : Environment). declared x n z) e

pub declared_pushed : (x bytes : List ℕ) (n : Named) (env now : Environment) (ks : List Known) → env ≡ now → bytes ≡ x → ks ≡ (record { name = bytes; meant = record { depth = env.depth; named = n } }) ∷ env.locals → is_at env.depth (look x env) ≡ false → record env { locals = ks } ≡ declared x n now
unfolding declared
declared_pushed x bytes n env now ks e b k h =
    let here : Environment = record env { locals = (record { name = x; meant = record { depth = env.depth; named = n } }) ∷ env.locals } in
    ap (λ (z : List Known). record env { locals = z }) k
    ∙ ap (λ (z : List ℕ). record env { locals = (record { name = z; meant = record { depth = env.depth; named = n } }) ∷ env.locals }) b
    ∙ sym (ap (λ (b : Bool). if b then env else here) h) ∙ ap (λ (z : Environment). declared x n z) e

-- what a declaration leaves as it was

pub declared_counts : (x : List ℕ) (n : Named) (env : Environment) → ((declared x n env).scalars ≡ env.scalars) × ((declared x n env).arrays ≡ env.arrays) × ((declared x n env).sizes ≡ env.sizes)
unfolding declared
declared_counts x n env =
    let here : Environment = record env { locals = (record { name = x; meant = record { depth = env.depth; named = n } }) ∷ env.locals } in
    elim (is_at env.depth (look x env)) as (λ b. ((if b then env else here).scalars ≡ env.scalars) × ((if b then env else here).arrays ≡ env.arrays) × ((if b then env else here).sizes ≡ env.sizes))
    [ true ↦ (refl, refl, refl) | false ↦ (refl, refl, refl) ]

pub with_scalar_is : (x : Name) (env middle last : Environment) (n : ℕ) → n ≡ env.scalars → middle ≡ declared x.bytes (AScalar n) env → last ≡ record middle { scalars = middle.scalars + 1 } → last ≡ with_scalar x env
with_scalar_is x env middle last n p q r =
    r ∙ ap (λ (z : Environment). record z { scalars = z.scalars + 1 }) (q ∙ ap (λ (k : ℕ). declared x.bytes (AScalar k) env) p)
    ∙ ap (λ (k : ℕ). record (declared x.bytes (AScalar env.scalars) env) { scalars = k + 1 }) (declared_counts x.bytes (AScalar env.scalars) env).0

pub with_array_is : (a : Name) (size : Size) (env middle counted last : Environment) (n : ℕ) → n ≡ env.arrays → middle ≡ declared a.bytes (AnArray n) env → counted ≡ record middle { arrays = middle.arrays + 1 } → last ≡ record counted { sizes = counted.sizes ++ size.words ∷ [] } → last ≡ with_array a size env
with_array_is a size env middle counted last n p q r s =
    s ∙ ap (λ (z : Environment). record z { sizes = z.sizes ++ size.words ∷ [] }) (r ∙ ap (λ (z : Environment). record z { arrays = z.arrays + 1 }) (q ∙ ap (λ (k : ℕ). declared a.bytes (AnArray k) env) p))
    ∙ ap (λ (k : ℕ). record (declared a.bytes (AnArray env.arrays) env) { arrays = k + 1; sizes = (declared a.bytes (AnArray env.arrays) env).sizes ++ size.words ∷ [] }) (declared_counts a.bytes (AnArray env.arrays) env).1
    ∙ ap (λ (k : List ℕ). record (declared a.bytes (AnArray env.arrays) env) { arrays = env.arrays + 1; sizes = k ++ size.words ∷ [] }) (declared_counts a.bytes (AnArray env.arrays) env).2

-- an array that is handed over
pub handed_is : (a : Name) (env middle last : Environment) (n : ℕ) → n ≡ env.arrays → middle ≡ declared a.bytes (AnArray n) env → last ≡ record middle { arrays = middle.arrays + 1 } → last ≡ with_handed a env
handed_is a env middle last n p q r =
    r ∙ ap (λ (z : Environment). record z { arrays = z.arrays + 1 }) (q ∙ ap (λ (k : ℕ). declared a.bytes (AnArray k) env) p)
    ∙ ap (λ (k : ℕ). record (declared a.bytes (AnArray env.arrays) env) { arrays = k + 1 }) (declared_counts a.bytes (AnArray env.arrays) env).1
