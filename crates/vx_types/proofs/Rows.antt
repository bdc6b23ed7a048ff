-- Rows of arguments and calls: how many they are, their faults, and what they become.
use Rattle.std.proofs.Common.{◌≡◌, ℕ, zero, suc, ◌+◌, ◌<◌, Bool, length, drop, get_or, List, [], ◌∷◌, ◌++◌, refl, ap, sym, ◌∙◌, add-one, arith, Option}
use Rattle.vx_ast.specs.declared.tree.Takes.{Takes}
use Rattle.vx_ast.specs.declared.tree.Takes.TheVariants.{Number as TakesNumber, Array as TakesArray}
use Rattle.vx_ast.specs.declared.syntax.Place.{Place}
use Rattle.vx_ast.specs.declared.syntax.Name.{Name}
use Rattle.vx_ast.specs.declared.syntax.Argument.{Argument}
use Rattle.vx_ast.specs.declared.tree.Argument.{Argument as MadeArgument}
use Rattle.vx_ast.specs.declared.tree.Expression.{Expression as Made}
use Rattle.vx_ast.specs.declared.names.Named.{Named}
use Rattle.vx_ast.specs.declared.names.Fault.{Fault}
use Rattle.vx_ast.specs.Syntax as syntax
use Rattle.vx_ast.specs.Syntax.{Phrase}
use Rattle.vx_ast.specs.Tree as tree
use Rattle.vx_ast.specs.Tree.{Tree, One, Row}
use Rattle.vx_ast.specs.Faults.{row_length, called, least, row_faults}
use Rattle.vx_ast.specs.Resolved as resolved
use Rattle.vx_ast.specs.Resolved.{tree_in, call_named}
use Rattle.vx_ast.specs.Scopes.{Environment, named, wanted_by}
use Rattle.vx_ast.specs.SyntaxView.{phrase_of, row_in}
use Rattle.vx_ast.specs.View as view
use Rattle.vx_types.specs.Arguments.{first_taken, argument_faults, argument_in}
use Rattle.vx_types.specs.Onto.{row_onto, arguments_onto}
use Rattle.vx_names.proofs.Lists.{drop_next}
use Rattle.vx_types.proofs.Leasts.{least_append}
use Rattle.vx_types.proofs.Views.{row_onto_push, row_onto_end, arguments_onto_push, arguments_onto_end}

pub row_count : (row : List Argument) → row_length (row_in row) ≡ length row
row_count [] = refl
row_count (a ∷ rest) = ap (λ n. n + 1) (row_count rest) ∙ add-one (length rest)

-- the faults of a call with its arguments
pub application_faults : (whole : Bool) (env : Environment) (f : Name) (row : List Argument) (count : ℕ) (bytes : List ℕ) (who : Option Named) (takes : List Takes) (first kind out : Option Fault)
    → count ≡ length row → bytes ≡ f.bytes → who ≡ named bytes env → takes ≡ wanted_by env who → kind ≡ least first (called whole count f who) → out ≡ least kind (row_faults env takes (row_in row))
    → out ≡ least first (called whole (row_length (row_in row)) f (named f.bytes env) ++ row_faults env (wanted_by env (named f.bytes env)) (row_in row))
application_faults whole env f row count bytes who takes first kind out n b w t k o =
    let many : count ≡ row_length (row_in row) = n ∙ sym (row_count row) in
    let name : who ≡ named f.bytes env = w ∙ ap (λ (z : List ℕ). named z env) b in
    o ∙ ap (λ (z : Option Fault). least z (row_faults env takes (row_in row))) k
    ∙ ap (λ (z : List Takes). least (least first (called whole count f who)) (row_faults env z (row_in row))) t
    ∙ ap (λ (z : ℕ). least (least first (called whole z f who)) (row_faults env (wanted_by env who) (row_in row))) many
    ∙ ap (λ (z : Option Named). least (least first (called whole (row_length (row_in row)) f z)) (row_faults env (wanted_by env z) (row_in row))) name
    ∙ sym (least_append first (called whole (row_length (row_in row)) f (named f.bytes env)) (row_faults env (wanted_by env (named f.bytes env)) (row_in row)))

-- parameters that are left, one by one

drop_one : (i : ℕ) (ts : List Takes) → drop 1 (drop i ts) ≡ drop (i + 1) ts
drop_one zero ts = refl
drop_one (suc i) [] = (let k : suc i + 1 ≡ suc (i + 1) = omega arith in sym (ap (λ m. drop m []) k))
drop_one (suc i) (t ∷ ts) = drop_one i ts ∙ (let k : suc i + 1 ≡ suc (i + 1) = omega arith in sym (ap (λ m. drop m (t ∷ ts)) k))

faults_split : (env : Environment) (ts : List Takes) (at : Place) (e : Phrase One) (rest : Phrase Row) → row_faults env ts (syntax.Then at e rest) ≡ argument_faults env (first_taken ts) at e ++ row_faults env (drop 1 ts) rest
faults_split env [] at e rest = refl
faults_split env (TakesNumber ∷ ts) at e rest = refl
faults_split env (TakesArray ∷ ts) at e rest = refl

made_split : (env : Environment) (ts : List Takes) (at : Place) (e : Phrase One) (rest : Phrase Row) → resolved.row_in env ts (syntax.Then at e rest) ≡ argument_in env (first_taken ts) e (resolved.row_in env (drop 1 ts) rest)
made_split env [] at e rest = refl
made_split env (TakesNumber ∷ ts) at e rest = refl
made_split env (TakesArray ∷ ts) at e rest = refl

pub row_faults_step : (env : Environment) (takes : List Takes) (so next : Option Fault) (all : List Argument) (i : ℕ) (x : Argument) (t : Takes) (whole : Option Fault) → i < length all → x ≡ get_or all i x → t ≡ first_taken (drop i takes)
    → least so (row_faults env (drop i takes) (row_in (drop i all))) ≡ whole → next ≡ least so (argument_faults env t x.place (phrase_of x.expression)) → least next (row_faults env (drop (i + 1) takes) (row_in (drop (i + 1) all))) ≡ whole
row_faults_step env takes so next all i x t whole h e k w n =
    let left = drop i takes in
    let more = drop (i + 1) all in
    let own = argument_faults env (first_taken left) x.place (phrase_of x.expression) in
    ap (λ (z : Option Fault). least z (row_faults env (drop (i + 1) takes) (row_in more))) (n ∙ ap (λ (z : Takes). least so (argument_faults env z x.place (phrase_of x.expression))) k)
    ∙ sym (ap (λ (z : List Takes). least (least so own) (row_faults env z (row_in more))) (drop_one i takes))
    ∙ sym (least_append so own (row_faults env (drop 1 left) (row_in more)))
    ∙ sym (ap (λ (z : List Fault). least so z) (faults_split env left x.place (phrase_of x.expression) (row_in more)))
    ∙ sym (ap (λ (z : List Argument). least so (row_faults env left (row_in z))) (drop_next all i x h e)) ∙ w

pub row_faults_end : (env : Environment) (takes : List Takes) (so : Option Fault) (left : List Argument) (whole : Option Fault) → left ≡ [] → least so (row_faults env takes (row_in left)) ≡ whole → so ≡ whole
row_faults_end env takes so left whole e w = sym (ap (λ (z : List Argument). least so (row_faults env takes (row_in z))) e) ∙ w

-- what arguments become, where this is taken

pub arguments_made_step : (env : Environment) (takes : List Takes) (made next : List MadeArgument) (one : MadeArgument) (all : List Argument) (i : ℕ) (x : Argument) (t : Takes) (whole : Tree Row) → i < length all → x ≡ get_or all i x → t ≡ first_taken (drop i takes)
    → arguments_onto made (resolved.row_in env (drop i takes) (row_in (drop i all))) ≡ whole → next ≡ made ++ one ∷ [] → ((rest : Tree Row) → view.argument_before one rest ≡ argument_in env t (phrase_of x.expression) rest)
    → arguments_onto next (resolved.row_in env (drop (i + 1) takes) (row_in (drop (i + 1) all))) ≡ whole
arguments_made_step env takes made next one all i x t whole h e k w n m =
    let left = drop i takes in
    let more = drop (i + 1) all in
    let rest = resolved.row_in env (drop 1 left) (row_in more) in
    ap (λ (z : List MadeArgument). arguments_onto z (resolved.row_in env (drop (i + 1) takes) (row_in more))) n
    ∙ sym (ap (λ (z : List Takes). arguments_onto (made ++ one ∷ []) (resolved.row_in env z (row_in more))) (drop_one i takes))
    ∙ arguments_onto_push made one rest
    ∙ ap (λ (z : Tree Row). arguments_onto made z) (m rest ∙ ap (λ (z : Takes). argument_in env z (phrase_of x.expression) rest) k ∙ sym (made_split env left x.place (phrase_of x.expression) (row_in more)))
    ∙ sym (ap (λ (z : List Argument). arguments_onto made (resolved.row_in env left (row_in z))) (drop_next all i x h e)) ∙ w

pub arguments_made_end : (env : Environment) (takes : List Takes) (made : List MadeArgument) (left : List Argument) (whole : Tree Row) → left ≡ [] → arguments_onto made (resolved.row_in env takes (row_in left)) ≡ whole → view.arguments_in made ≡ whole
arguments_made_end env takes made left whole e w = sym (arguments_onto_end made) ∙ sym (ap (λ (z : List Argument). arguments_onto made (resolved.row_in env takes (row_in z))) e) ∙ w

-- what is printed

pub row_made_step : (env : Environment) (made next : List Made) (one : Made) (all : List Argument) (i : ℕ) (x : Argument) (whole : Tree Row) → i < length all → x ≡ get_or all i x
    → row_onto made (resolved.row_in env [] (row_in (drop i all))) ≡ whole → next ≡ made ++ one ∷ [] → view.tree_of one ≡ tree_in env (phrase_of x.expression) → row_onto next (resolved.row_in env [] (row_in (drop (i + 1) all))) ≡ whole
row_made_step env made next one all i x whole h e w n m =
    let rest = resolved.row_in env [] (row_in (drop (i + 1) all)) in
    ap (λ (z : List Made). row_onto z rest) n ∙ row_onto_push made one rest
    ∙ ap (λ (z : Tree One). row_onto made (tree.Then z rest)) m
    ∙ sym (ap (λ (z : List Argument). row_onto made (resolved.row_in env [] (row_in z))) (drop_next all i x h e)) ∙ w

pub row_made_end : (env : Environment) (made : List Made) (left : List Argument) (whole : Tree Row) → left ≡ [] → row_onto made (resolved.row_in env [] (row_in left)) ≡ whole → view.row_in made ≡ whole
row_made_end env made left whole e w = sym (row_onto_end made) ∙ sym (ap (λ (z : List Argument). row_onto made (resolved.row_in env [] (row_in z))) e) ∙ w

-- a call with its arguments
pub call_made : (env : Environment) (f : Name) (all row : List Argument) (bytes : List ℕ) (who : Option Named) (takes : List Takes) (args : List MadeArgument) (out : Made)
    → row ≡ all → bytes ≡ f.bytes → who ≡ named bytes env → takes ≡ wanted_by env who → view.arguments_in args ≡ resolved.row_in env takes (row_in row) → view.tree_of out ≡ call_named who (view.arguments_in args)
    → view.tree_of out ≡ call_named (named f.bytes env) (resolved.row_in env (wanted_by env (named f.bytes env)) (row_in all))
call_made env f all row bytes who takes args out r b w t a o =
    let name : who ≡ named f.bytes env = w ∙ ap (λ (z : List ℕ). named z env) b in
    o ∙ ap (λ (z : Tree Row). call_named who z) (a ∙ ap (λ (z : List Argument). resolved.row_in env takes (row_in z)) r ∙ ap (λ (z : List Takes). resolved.row_in env z (row_in all)) t)
    ∙ ap (λ (z : Option Named). call_named z (resolved.row_in env (wanted_by env z) (row_in all))) name
