-- A declaration, item by item.
use Rattle.std.proofs.Common.{◌≡◌, Bool, false, List, [], ◌∷◌, ◌++◌, refl, ap, sym, ◌∙◌, Option, None, Some}
use Rattle.vx_ast.specs.declared.tree.Gives.{Gives}
use Rattle.vx_ast.specs.declared.tree.Gives.TheVariants.{Int}
use Rattle.vx_ast.specs.declared.tree.Item.{Item as Made}
use Rattle.vx_ast.specs.declared.syntax.Item.{Item as Written}
use Rattle.vx_ast.specs.declared.syntax.Item.TheVariants.{Scalar, ScalarWith, Array}
use Rattle.vx_ast.specs.declared.syntax.First.{First}
use Rattle.vx_ast.specs.declared.syntax.First.TheVariants.{Nothing, Simple, Items}
use Rattle.vx_ast.specs.declared.syntax.Simple.{Simple as ASimple}
use Rattle.vx_ast.specs.declared.names.Fault.{Fault}
use Rattle.vx_ast.specs.Tree as tree
use Rattle.vx_ast.specs.Faults.{code_faults, least}
use Rattle.vx_ast.specs.Resolved.{code_in}
use Rattle.vx_ast.specs.Scopes.{Environment, behind, inside}
use Rattle.vx_ast.specs.SyntaxView.{item_of, items_of, first_of, step_of}
use Rattle.vx_ast.specs.View as view
use Rattle.vx_types.specs.Onto.{items_onto}
use Rattle.vx_types.proofs.Leasts.{least_append}
use Rattle.vx_types.proofs.Views.{items_onto_push, items_onto_end}

-- what is made of a list so far, what is known there and the first fault so far, with what is left of the list
pub record ItemsSo (gives : Gives) (loops : Bool) (made : List Made) (env : Environment) (first : Option Fault) (left : List Written) (start : Environment) (before : Option Fault) (all : List Written) : Type 0 where
  pub made_so : items_onto made (code_in env (items_of left)) ≡ code_in start (items_of all)
  pub known_so : behind (items_of left) env ≡ behind (items_of all) start
  pub faults_so : least first (code_faults gives loops env (items_of left)) ≡ least before (code_faults gives loops start (items_of all))

pub items_begin : (gives : Gives) (loops : Bool) (made : List Made) (env : Environment) (first : Option Fault) (all : List Written) → made ≡ [] → ItemsSo gives loops made env first all env first all
items_begin gives loops made env first all e = record { made_so = ap (λ (z : List Made). items_onto z (code_in env (items_of all))) e; known_so = refl; faults_so = refl }

pub items_step : (gives : Gives) (loops : Bool) (made next : List Made) (d : Made) (env then : Environment) (first after : Option Fault) (left rest : List Written) (x : Written) (start : Environment) (before : Option Fault) (all : List Written)
    → ItemsSo gives loops made env first left start before all → left ≡ x ∷ rest → next ≡ made ++ d ∷ [] → view.item_of d ≡ code_in env (item_of x) → then ≡ behind (item_of x) env → after ≡ least first (code_faults gives loops env (item_of x))
    → ItemsSo gives loops next then after rest start before all
items_step gives loops made next d env then first after left rest x start before all s e n m k f = record {
  made_so = ap (λ (z : List Made). items_onto z (code_in then (items_of rest))) n ∙ items_onto_push made d (code_in then (items_of rest))
      ∙ ap (λ (z : tree.Code). items_onto made (tree.Seq z (code_in then (items_of rest)))) m
      ∙ ap (λ (z : Environment). items_onto made (tree.Seq (code_in env (item_of x)) (code_in z (items_of rest)))) k
      ∙ sym (ap (λ (z : List Written). items_onto made (code_in env (items_of z))) e) ∙ s.made_so;
  known_so = ap (λ (z : Environment). behind (items_of rest) z) k ∙ sym (ap (λ (z : List Written). behind (items_of z) env) e) ∙ s.known_so;
  faults_so = ap (λ (z : Option Fault). least z (code_faults gives loops then (items_of rest))) f
      ∙ ap (λ (z : Environment). least (least first (code_faults gives loops env (item_of x))) (code_faults gives loops z (items_of rest))) k
      ∙ sym (least_append first (code_faults gives loops env (item_of x)) (code_faults gives loops (behind (item_of x) env) (items_of rest)))
      ∙ sym (ap (λ (z : List Written). least first (code_faults gives loops env (items_of z))) e) ∙ s.faults_so;
}

pub items_end : (gives : Gives) (loops : Bool) (made : List Made) (env : Environment) (first : Option Fault) (left : List Written) (start : Environment) (before : Option Fault) (all : List Written) → ItemsSo gives loops made env first left start before all → left ≡ []
    → (view.items_of made ≡ code_in start (items_of all)) × (env ≡ behind (items_of all) start) × (first ≡ least before (code_faults gives loops start (items_of all)))
items_end gives loops made env first left start before all s e = (
  sym (items_onto_end made) ∙ sym (ap (λ (z : List Written). items_onto made (code_in env (items_of z))) e) ∙ s.made_so,
  sym (ap (λ (z : List Written). behind (items_of z) env) e) ∙ s.known_so,
  sym (ap (λ (z : List Written). least first (code_faults gives loops env (items_of z))) e) ∙ s.faults_so,
)

-- the faults of declarations and of the head of a `for` are the same in every function

item_alike : (gives : Gives) (loops : Bool) (env : Environment) (i : Written) → code_faults gives loops env (item_of i) ≡ code_faults Int false env (item_of i)
item_alike gives loops env (Scalar x) = refl
item_alike gives loops env (ScalarWith x e) = refl
item_alike gives loops env (Array a size) = refl

pub items_alike : (gives : Gives) (loops : Bool) (env : Environment) (is : List Written) → code_faults gives loops env (items_of is) ≡ code_faults Int false env (items_of is)
items_alike gives loops env [] = refl
items_alike gives loops env (i ∷ is) =
    ap (λ z. z ++ code_faults gives loops (behind (item_of i) env) (items_of is)) (item_alike gives loops env i)
    ∙ ap (λ z. code_faults Int false env (item_of i) ++ z) (items_alike gives loops (behind (item_of i) env) is)

pub first_alike : (gives : Gives) (loops : Bool) (env : Environment) (f : First) → code_faults gives loops env (first_of f) ≡ code_faults Int false env (first_of f)
first_alike gives loops env Nothing = refl
first_alike gives loops env (Simple a) = refl
first_alike gives loops env (Items is) = items_alike gives loops env is.items

pub step_alike : (gives : Gives) (loops : Bool) (env : Environment) (s : Option ASimple) → code_faults gives loops env (step_of s) ≡ code_faults Int false env (step_of s)
step_alike gives loops env None = refl
step_alike gives loops env (Some a) = refl

pub for_alike : (gives : Gives) (loops : Bool) (env : Environment) (first : First) (test : List Fault) (step : Option ASimple) (body : List Fault)
    → code_faults gives loops (inside env) (first_of first) ++ (test ++ (code_faults gives loops (behind (first_of first) (inside env)) (step_of step) ++ body))
    ≡ code_faults Int false (inside env) (first_of first) ++ (test ++ (code_faults Int false (behind (first_of first) (inside env)) (step_of step) ++ body))
for_alike gives loops env first test step body =
    ap (λ (z : List Fault). z ++ (test ++ (code_faults gives loops (behind (first_of first) (inside env)) (step_of step) ++ body))) (first_alike gives loops (inside env) first)
    ∙ ap (λ (z : List Fault). code_faults Int false (inside env) (first_of first) ++ (test ++ (z ++ body))) (step_alike gives loops (behind (first_of first) (inside env)) step)
