-- The names of the functions of a source: no two are the same, and main knows them all.
use Rattle.std.proofs.Common.{◌≡◌, ◌≢◌, ◌⊎◌, inl, inr, ℕ, zero, suc, ◌+◌, ◌<◌, ◌≤◌, Bool, true, false, ◌&&◌, cond, nat_eq, List, [], ◌∷◌, take, drop, codes, Option, Some, refl, sym, ap, ◌∙◌, arith}
use Rattle.std.specs.Prelude.{decimal}
use Rattle.std.specs.List.{list_any}
use Rattle.std.proofs.lemmas.Bool.{cases_order, eqb-true, eq-eqb}
use Rattle.std.proofs.lemmas.Fmt.{decimal_injective}
use Rattle.vx_ast.specs.declared.tree.Gives.TheVariants.{Int as GivesInt}
use Rattle.vx_ast.specs.declared.names.Named.TheVariants.{Function as AFunctionNamed}
use Rattle.vx_ast.specs.declared.names.Meant.{Meant}
use Rattle.vx_ast.specs.declared.names.FileName.{FileName}
use Rattle.vx_ast.specs.Scopes.{find, same_name, predeclared, known_of, look, named, named_in}
use Rattle.vx_ast.specs.Faults.{is_repeated}
use Rattle.vx_generated.proofs.Scoped.{in_function, array_name}
use Rattle.vx_generated.proofs.Functions.{function_name}

self_equal : (n : ℕ) → nat_eq n n ≡ true
self_equal n = eq-eqb n n refl

same_self : (xs : List ℕ) → same_name xs xs ≡ true
same_self [] = refl
same_self (x ∷ xs) = rw (self_equal x) (same_self xs)

both_hold : (a b : Bool) → (a && b) ≡ true → (a ≡ true) × (b ≡ true)
both_hold true b h = (refl, h)
both_hold false b h = cc

same_is : (xs ys : List ℕ) → same_name xs ys ≡ true → xs ≡ ys
same_is [] [] h = refl
same_is [] (y ∷ ys) h = cc
same_is (x ∷ xs) [] h = cc
same_is (x ∷ xs) (y ∷ ys) h =
    let both = both_hold (nat_eq x y) (same_name xs ys) h in
    let first : x ≡ y = eqb-true x y both.0 in
    let rest : xs ≡ ys = same_is xs ys both.1 in
    cc

differ : (i j : ℕ) → i < 1000 → j < 1000 → i ≢ j → same_name (function_name i) (function_name j) ≡ false
differ i j h k ne = by (same_name (function_name i) (function_name j)) refl where
  by : (b : Bool) → same_name (function_name i) (function_name j) ≡ b → b ≡ false
  by false e = refl
  by true e =
      let same : function_name i ≡ function_name j = same_is (function_name i) (function_name j) e in
      let digits : decimal i ≡ decimal j = ap (λ (l : List ℕ). drop 1 l) same in
      absurd (ne (decimal_injective i j (omega (arith, h)) (omega (arith, k)) digits))

-- the names of k functions from number j on, and of main behind them

abbrev pub function_file : ℕ → FileName
function_file j = record { name = function_name j; everywhere = true; named = AFunctionNamed j GivesInt 2 }

abbrev pub main_file : ℕ → FileName
main_file j = record { name = codes "main"; everywhere = true; named = AFunctionNamed j GivesInt 0 }

abbrev pub file_names : (j k : ℕ) → List FileName
file_names j zero = main_file j ∷ []
file_names j (suc k) = function_file j ∷ file_names (j + 1) k

abbrev meant : ℕ → Meant
meant i = record { depth = 0; named = AFunctionNamed i GivesInt 2 }

found : (i j k : ℕ) → j ≤ i → i < j + k → j + k < 1000 → find (function_name i) (known_of k (file_names j k)) ≡ Some (meant i)
found i j zero h l few = absurd (omega (arith, h, l))
found i j (suc k) h l few = by (cases_order i j) (λ g. found i (j + 1) k (omega (arith, g)) (omega (arith, l)) (omega (arith, few))) where
  by : (i ≡ j) ⊎ ((i < j) ⊎ (j < i)) → (j < i → find (function_name i) (known_of k (file_names (j + 1) k)) ≡ Some (meant i))
      → cond (same_name (function_name i) (function_name j)) (Some (meant j)) (find (function_name i) (known_of k (file_names (j + 1) k))) ≡ Some (meant i)
  by (inl e) go =
      ap (λ (n : ℕ). cond (same_name (function_name i) (function_name n)) (Some (meant n)) (find (function_name i) (known_of k (file_names (j + 1) k)))) (sym e)
      ∙ ap (λ (b : Bool). cond b (Some (meant i)) (find (function_name i) (known_of k (file_names (j + 1) k)))) (same_self (function_name i))
  by (inr (inl g)) go = absurd (omega (arith, h, g))
  by (inr (inr g)) go =
      let ne : i ≢ j = λ e. omega (arith, g, e) in
      ap (λ (b : Bool). cond b (Some (meant j)) (find (function_name i) (known_of k (file_names (j + 1) k)))) (differ i j (omega (arith, l, few)) (omega (arith, few)) ne) ∙ go g

pub main_knows : (i k : ℕ) → i < k → k < 1000 → named (function_name i) (in_function (suc k) (array_name ∷ file_names 0 k) [] 0) ≡ Some (AFunctionNamed i GivesInt 2)
unfolding look predeclared
main_knows i k h few = ap (λ (o : Option Meant). named_in o) (found i 0 k (omega arith) (omega (arith, h)) (omega (arith, few)))

-- none stands twice

none_of : (i m j k : ℕ) → j + m ≤ i → m ≤ k → i < 1000 → list_any (λ n. same_name (function_name i) n.name) (take m (file_names j k)) ≡ false
none_of i zero j k h l few = refl
none_of i (suc m) j zero h l few = absurd (omega (arith, l))
none_of i (suc m) j (suc k) h l few =
    let ne : i ≢ j = λ e. omega (arith, h, e) in
    rw (differ i j few (omega (arith, h, few)) ne) (none_of i m (j + 1) k (omega (arith, h)) (omega (arith, l)) few)

none_main : (m j k : ℕ) → m ≤ k → list_any (λ n. same_name (codes "main") n.name) (take m (file_names j k)) ≡ false
none_main zero j k l = refl
none_main (suc m) j zero l = absurd (omega (arith, l))
none_main (suc m) j (suc k) l = none_main m (j + 1) k (omega (arith, l))

pub function_once : (j k : ℕ) → j ≤ k → j < 1000 → is_repeated (take (suc j) (array_name ∷ file_names 0 k)) (function_name j) ≡ false
unfolding predeclared
function_once j k h few = none_of j j 0 k (omega arith) h few

pub main_once : (k : ℕ) → is_repeated (take (suc k) (array_name ∷ file_names 0 k)) (codes "main") ≡ false
unfolding predeclared
main_once k = none_main k 0 k (omega arith)
