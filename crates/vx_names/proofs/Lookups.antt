-- What a table says of a name, before and after a name is put into it.
use Rattle.std.proofs.Common.{◌≡◌, ℕ, Bool, true, false, if◌then◌else◌, List, [], ◌∷◌, refl, sym, ap, ◌∙◌, Option, Some, None, nat_eq, subst}
use Rattle.std.specs.Prelude.{Vec}
use Rattle.std.specs.Map.{lookup}
use Rattle.std.specs.Bool.{Decides}
use Rattle.std.specs.Cmp.{unsigned_Decides}
use Rattle.std.proofs.lemmas.Slice.Eq.{slice_eq-Decides}
use lib.Pointwise.{pointwise}
use Rattle.indexmap.specs.IndexMap.{insert_entry}
use Rattle.vx_ast.specs.declared.names.Meant.{Meant}
use Rattle.vx_ast.specs.Scopes.{same_name}
use Rattle.vx_names.specs.Entries.{entry_of}

-- names are the same exactly where their bytes are
pub same_name-Decides : (x y : List ℕ) → Decides (same_name x y) (x ≡ y)
same_name-Decides x y = slice_eq-Decides unsigned_Decides x y (same_name x y) refl

pub same_name-itself : (x : List ℕ) → same_name x x ≡ true
same_name-itself x = (same_name-Decides x x).1 refl

module _ {A : Type 0} where
  pub entry_some : (x : List ℕ) (es : List (Vec ℕ A × Option Meant)) (m : Option Meant) → Some m ≡ lookup (λ (k : Vec ℕ A). pointwise nat_eq x k.items) es → m ≡ entry_of x es
  entry_some x [] m e = cc
  entry_some x (k ∷ es) m e =
      let step : (b : Bool) → Some m ≡ (if b then Some k.1 else lookup (λ (q : Vec ℕ A). pointwise nat_eq x q.items) es) → m ≡ (if b then k.1 else entry_of x es)
      = λ b. elim b as (λ v. Some m ≡ (if v then Some k.1 else lookup (λ (q : Vec ℕ A). pointwise nat_eq x q.items) es) → m ≡ (if v then k.1 else entry_of x es))
      [ true ↦ λ (h : Some m ≡ Some k.1). cc | false ↦ λ h. entry_some x es m h ] in
      step (same_name x k.0.items) e

  pub entry_none : (x : List ℕ) (es : List (Vec ℕ A × Option Meant)) → None ≡ lookup (λ (k : Vec ℕ A). pointwise nat_eq x k.items) es → None ≡ entry_of x es
  entry_none x [] e = refl
  entry_none x (k ∷ es) e =
      let step : (b : Bool) → None ≡ (if b then Some k.1 else lookup (λ (q : Vec ℕ A). pointwise nat_eq x q.items) es) → None ≡ (if b then k.1 else entry_of x es)
      = λ b. elim b as (λ v. None ≡ (if v then Some k.1 else lookup (λ (q : Vec ℕ A). pointwise nat_eq x q.items) es) → None ≡ (if v then k.1 else entry_of x es))
      [ true ↦ λ (h : None ≡ Some k.1). cc | false ↦ λ h. entry_none x es h ] in
      step (same_name x k.0.items) e

  pub put_entry : (x : List ℕ) (es : List (Vec ℕ A × Option Meant)) (key : Vec ℕ A) (v : Option Meant) → entry_of x (insert_entry (λ (a b : Vec ℕ A). pointwise nat_eq a.items b.items) es key v) ≡ (if same_name x key.items then v else entry_of x es)
  put_entry x [] key v = refl
  put_entry x (e ∷ es) key v =
      let there : same_name key.items e.0.items ≡ true → (if same_name x e.0.items then v else entry_of x es) ≡ (if same_name x key.items then v else (if same_name x e.0.items then e.1 else entry_of x es))
      = λ h. subst (λ (z : List ℕ). (if same_name x z then v else entry_of x es) ≡ (if same_name x key.items then v else (if same_name x z then e.1 else entry_of x es))) ((same_name-Decides key.items e.0.items).0 h)
      (elim (same_name x key.items) as (λ b. (if b then v else entry_of x es) ≡ (if b then v else (if b then e.1 else entry_of x es))) [ true ↦ refl | false ↦ refl ]) in
      let apart : same_name key.items e.0.items ≡ false → (b c : Bool) → same_name x e.0.items ≡ b → same_name x key.items ≡ c → (if b then e.1 else (if c then v else entry_of x es)) ≡ (if c then v else (if b then e.1 else entry_of x es))
      = λ h b. elim b as (λ b. (c : Bool) → same_name x e.0.items ≡ b → same_name x key.items ≡ c → (if b then e.1 else (if c then v else entry_of x es)) ≡ (if c then v else (if b then e.1 else entry_of x es))) [
        | true ↦ λ c. elim c as (λ c. same_name x e.0.items ≡ true → same_name x key.items ≡ c → e.1 ≡ (if c then v else e.1)) [
          | true ↦ λ p q. (let k : key.items ≡ e.0.items = sym ((same_name-Decides x key.items).0 q) ∙ (same_name-Decides x e.0.items).0 p in let f : same_name key.items e.0.items ≡ true = (same_name-Decides key.items e.0.items).1 k in cc)
          | false ↦ λ p q. refl
        ]
        | false ↦ λ c p q. refl
      ] in
      let step : (b : Bool) → same_name key.items e.0.items ≡ b → entry_of x (if b then (e.0, v) ∷ es else e ∷ insert_entry (λ (a b : Vec ℕ A). pointwise nat_eq a.items b.items) es key v) ≡ (if same_name x key.items then v else (if same_name x e.0.items then e.1 else entry_of x es))
      = λ b. elim b as (λ b. same_name key.items e.0.items ≡ b → entry_of x (if b then (e.0, v) ∷ es else e ∷ insert_entry (λ (a b : Vec ℕ A). pointwise nat_eq a.items b.items) es key v) ≡ (if same_name x key.items then v else (if same_name x e.0.items then e.1 else entry_of x es))) [
        | true ↦ there
        | false ↦ λ h. ap (λ z. if same_name x e.0.items then e.1 else z) (put_entry x es key v) ∙ apart h (same_name x e.0.items) (same_name x key.items) refl refl
      ] in
      step (same_name key.items e.0.items) refl
