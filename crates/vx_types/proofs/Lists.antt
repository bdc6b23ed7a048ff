-- A list of statements, one by one.
use Rattle.std.proofs.Common.{◌≡◌, Bool, List, [], ◌∷◌, ◌++◌, refl, ap, sym, ◌∙◌, Option}
use Rattle.vx_ast.specs.declared.tree.Gives.{Gives}
use Rattle.vx_ast.specs.declared.tree.Statement.{Statement as Made}
use Rattle.vx_ast.specs.declared.syntax.Statement.{Statement as Written}
use Rattle.vx_ast.specs.declared.names.Fault.{Fault}
use Rattle.vx_ast.specs.Tree as tree
use Rattle.vx_ast.specs.Faults.{code_faults, least}
use Rattle.vx_ast.specs.Resolved.{code_in}
use Rattle.vx_ast.specs.Scopes.{Environment, behind}
use Rattle.vx_ast.specs.SyntaxView.{code_of, all_in}
use Rattle.vx_ast.specs.View as view
use Rattle.vx_types.specs.Onto.{code_onto}
use Rattle.vx_types.proofs.Leasts.{least_append}
use Rattle.vx_types.proofs.Views.{code_onto_push, code_onto_end}

-- what is made of a list so far, what is known there and the first fault so far, with what is left of the list
pub record ListSo (gives : Gives) (loops : Bool) (made : List Made) (env : Environment) (first : Option Fault) (left : List Written) (start : Environment) (before : Option Fault) (all : List Written) : Type 0 where
  pub made_so : code_onto made (code_in env (all_in left)) ≡ code_in start (all_in all)
  pub known_so : behind (all_in left) env ≡ behind (all_in all) start
  pub faults_so : least first (code_faults gives loops env (all_in left)) ≡ least before (code_faults gives loops start (all_in all))

pub list_begin : (gives : Gives) (loops : Bool) (made : List Made) (env : Environment) (first : Option Fault) (all : List Written) → made ≡ [] → ListSo gives loops made env first all env first all
list_begin gives loops made env first all e = record { made_so = ap (λ (z : List Made). code_onto z (code_in env (all_in all))) e; known_so = refl; faults_so = refl }

pub list_step : (gives : Gives) (loops : Bool) (made next : List Made) (d : Made) (env then : Environment) (first after : Option Fault) (left rest : List Written) (x : Written) (start : Environment) (before : Option Fault) (all : List Written)
    → ListSo gives loops made env first left start before all → left ≡ x ∷ rest → next ≡ made ++ d ∷ [] → view.code_of d ≡ code_in env (code_of x) → then ≡ behind (code_of x) env → after ≡ least first (code_faults gives loops env (code_of x))
    → ListSo gives loops next then after rest start before all
list_step gives loops made next d env then first after left rest x start before all s e n m k f = record {
  made_so = ap (λ (z : List Made). code_onto z (code_in then (all_in rest))) n ∙ code_onto_push made d (code_in then (all_in rest))
      ∙ ap (λ (z : tree.Code). code_onto made (tree.Seq z (code_in then (all_in rest)))) m
      ∙ ap (λ (z : Environment). code_onto made (tree.Seq (code_in env (code_of x)) (code_in z (all_in rest)))) k
      ∙ sym (ap (λ (z : List Written). code_onto made (code_in env (all_in z))) e) ∙ s.made_so;
  known_so = ap (λ (z : Environment). behind (all_in rest) z) k ∙ sym (ap (λ (z : List Written). behind (all_in z) env) e) ∙ s.known_so;
  faults_so = ap (λ (z : Option Fault). least z (code_faults gives loops then (all_in rest))) f
      ∙ ap (λ (z : Environment). least (least first (code_faults gives loops env (code_of x))) (code_faults gives loops z (all_in rest))) k
      ∙ sym (least_append first (code_faults gives loops env (code_of x)) (code_faults gives loops (behind (code_of x) env) (all_in rest)))
      ∙ sym (ap (λ (z : List Written). least first (code_faults gives loops env (all_in z))) e) ∙ s.faults_so;
}

pub list_end : (gives : Gives) (loops : Bool) (made : List Made) (env : Environment) (first : Option Fault) (left : List Written) (start : Environment) (before : Option Fault) (all : List Written) → ListSo gives loops made env first left start before all → left ≡ []
    → (view.all_in made ≡ code_in start (all_in all)) × (env ≡ behind (all_in all) start) × (first ≡ least before (code_faults gives loops start (all_in all)))
list_end gives loops made env first left start before all s e = (
  sym (code_onto_end made) ∙ sym (ap (λ (z : List Written). code_onto made (code_in env (all_in z))) e) ∙ s.made_so,
  sym (ap (λ (z : List Written). behind (all_in z) env) e) ∙ s.known_so,
  sym (ap (λ (z : List Written). least first (code_faults gives loops env (all_in z))) e) ∙ s.faults_so,
)
