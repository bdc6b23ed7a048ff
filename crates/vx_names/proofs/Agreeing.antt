-- A table goes on to agree with what is known, as names are declared and as scopes are left.
use Rattle.std.proofs.Common.{◌≡◌, ℕ, suc, Bool, true, false, if◌then◌else◌, List, [], ◌∷◌, ◌++◌, length, drop, refl, ap, sym, ◌∙◌, Option, Some, subst}
use Rattle.std.specs.Prelude.{reverse}
use Rattle.std.proofs.lemmas.List.{reverse-append, length-reverse}
use Rattle.vx_ast.specs.declared.names.Meant.{Meant}
use Rattle.vx_ast.specs.Scopes.{same_name, Known, find}
use Rattle.vx_names.specs.declared.local.Local.{Local}
use Rattle.vx_ast.specs.declared.names.FileName.{FileName}
use Rattle.vx_names.specs.Agrees.{Agrees, Sees, known_in}
use Rattle.vx_names.proofs.Lookups.{same_name-Decides}

pub agrees_taken : (says next : List ℕ → Option Meant) (l : Local) (latest : List Local) (file : List Known) → Agrees says latest file → l.before ≡ find l.name (known_in latest ++ file) → ((x : List ℕ) → next x ≡ (if same_name x l.name then Some l.meant else says x)) → Agrees next (l ∷ latest) file
agrees_taken says next l latest file a b n = record {
  table_says = λ x. n x ∙ ap (λ (z : Option Meant). if same_name x l.name then Some l.meant else z) (a.table_says x);
  locals_remember = (b, a.locals_remember);
}

pub agrees_forgotten : (says next : List ℕ → Option Meant) (l : Local) (latest : List Local) (file : List Known) → Agrees says (l ∷ latest) file → ((x : List ℕ) → next x ≡ (if same_name x l.name then l.before else says x)) → Agrees next latest file
agrees_forgotten says next l latest file a n = record {
  table_says = λ x.
      let here : same_name x l.name ≡ true → (if same_name x l.name then l.before else says x) ≡ find x (known_in latest ++ file)
      = λ h. ap (λ (b : Bool). if b then l.before else says x) h ∙ a.locals_remember.0 ∙ ap (λ (z : List ℕ). find z (known_in latest ++ file)) (sym ((same_name-Decides x l.name).0 h)) in
      let other : same_name x l.name ≡ false → (if same_name x l.name then l.before else says x) ≡ find x (known_in latest ++ file)
      = λ h. ap (λ (b : Bool). if b then l.before else says x) h ∙ a.table_says x ∙ ap (λ (b : Bool). if b then Some l.meant else find x (known_in latest ++ file)) h in
      let both : (b : Bool) → same_name x l.name ≡ b → (if same_name x l.name then l.before else says x) ≡ find x (known_in latest ++ file)
      = λ b. elim b as (λ b. same_name x l.name ≡ b → (if same_name x l.name then l.before else says x) ≡ find x (known_in latest ++ file)) [ true ↦ here | false ↦ other ] in
      n x ∙ both (same_name x l.name) refl;
  locals_remember = a.locals_remember.1;
}

-- a table that says the same
pub agrees_along : (says next : List ℕ → Option Meant) (latest : List Local) (file : List Known) → Agrees says latest file → ((x : List ℕ) → next x ≡ says x) → Agrees next latest file
agrees_along says next latest file a n = record { table_says = λ x. n x ∙ a.table_says x; locals_remember = a.locals_remember }

pub latest_first : (ls : List Local) (l : Local) → reverse (ls ++ l ∷ []) ≡ l ∷ reverse ls
latest_first ls l = reverse-append ls (l ∷ [])

pub agrees_pushed : (says next : List ℕ → Option Meant) (ls new : List Local) (l : Local) (file : List Known) → new ≡ ls ++ l ∷ [] → Agrees says (reverse ls) file → l.before ≡ find l.name (known_in (reverse ls) ++ file) → ((x : List ℕ) → next x ≡ (if same_name x l.name then Some l.meant else says x)) → Agrees next (reverse new) file
agrees_pushed says next ls new l file e a b n = subst (λ (z : List Local). Agrees next z file) (sym (ap (λ (z : List Local). reverse z) e ∙ latest_first ls l)) (agrees_taken says next l (reverse ls) file a b n)

pub agrees_popped : (says next : List ℕ → Option Meant) (ls new : List Local) (l : Local) (file : List Known) → ls ≡ new ++ l ∷ [] → Agrees says (reverse ls) file → ((x : List ℕ) → next x ≡ (if same_name x l.name then l.before else says x)) → Agrees next (reverse new) file
agrees_popped says next ls new l file e a n = agrees_forgotten says next l (reverse new) file (subst (λ (z : List Local). Agrees says z file) (ap (λ (z : List Local). reverse z) e ∙ latest_first new l) a) n

pub known_length : (ls : List Local) → length (known_in ls) ≡ length ls
known_length [] = refl
known_length (l ∷ ls) = ap suc (known_length ls)

pub known_count : (ls : List Local) → length (known_in (reverse ls)) ≡ length ls
known_count ls = known_length (reverse ls) ∙ length-reverse ls

pub known_rest : (ls new : List Local) (l : Local) → ls ≡ new ++ l ∷ [] → known_in (reverse new) ≡ drop 1 (known_in (reverse ls))
known_rest ls new l e = sym (ap (λ (z : List Local). drop 1 (known_in (reverse z))) e ∙ ap (λ (z : List Local). drop 1 (known_in z)) (latest_first new l))

pub agrees_empty : (says : List ℕ → Option Meant) (items : List Local) (file : List Known) → items ≡ [] → ((x : List ℕ) → says x ≡ find x file) → Agrees says (reverse items) file
agrees_empty says items file e t = subst (λ (z : List Local). Agrees says (reverse z) file) (sym e) (record { table_says = t; locals_remember = tt })

none_known : (ls : List Local) → known_in ls ≡ [] → ls ≡ []
none_known [] e = refl
none_known (l ∷ ls) e = cc

pub agrees_alone : (says : List ℕ → Option Meant) (items : List Local) (file : List Known) → known_in (reverse items) ≡ [] → ((x : List ℕ) → says x ≡ find x file) → Agrees says (reverse items) file
agrees_alone says items file e t = subst (λ (z : List Local). Agrees says z file) (sym (none_known (reverse items) e)) (record { table_says = t; locals_remember = tt })

pub sees_along : (says : List ℕ → Option Meant) (above other : List FileName) → above ≡ other → Sees says above → Sees says other
sees_along says above other e s = subst (λ (z : List FileName). Sees says z) e s
