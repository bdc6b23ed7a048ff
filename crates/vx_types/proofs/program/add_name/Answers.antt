use Rattle.std.proofs.Common.{◌≡◌, ℕ, false, List, [], ◌∷◌, ◌++◌, ap, sym, ◌∙◌, append_assoc}
use Rattle.vx_ast.specs.declared.names.FileName.{FileName}
use Rattle.vx_ast.specs.declared.names.Named.TheVariants.{Global as AGlobal, Array as AnArray}
use Rattle.vx_ast.specs.declared.syntax.Definition.{Definition}
use Rattle.vx_ast.specs.Scopes.{names_from}
use Rattle.vx_ast.specs.SyntaxView.{definition_of}
use Rattle.vx_types.proofs.program.add_name.Goals as goal

one_named : (old new rest all : List FileName) (entry : FileName) → new ≡ old ++ entry ∷ [] → entry ∷ rest ≡ all → new ++ rest ≡ old ++ all
one_named old new rest all entry n e = ap (λ z. z ++ rest) n ∙ append_assoc old (entry ∷ []) rest ∙ ap (λ z. old ++ z) e

pub returns-in_ok-arrays-in-Scalar : goal.returns-in_ok-arrays-in-Scalar
returns-in_ok-arrays-in-Scalar c =
    let a = c.args.arrays.now in
    let f = c.args.functions.now in
    let entry : FileName = record { name = c.in-Scalar.name.bytes; everywhere = false; named = AGlobal a } in
    λ ds. one_named c.args.made.now c.push_name.new.made (names_from c.in_ok-arrays-in-Scalar.field-0 f ds) (names_from a f (definition_of c.args.definition.now ∷ ds)) entry c.in_ok-push_name-in-Scalar.ensures
    (ap (λ (n : ℕ). entry ∷ names_from n f ds) c.in_ok-arrays-in-Scalar.ensures ∙ ap (λ (z : Definition). names_from a f (definition_of z ∷ ds)) (sym c.in-Scalar.is))

pub returns-in_ok-arrays-in-Array : goal.returns-in_ok-arrays-in-Array
returns-in_ok-arrays-in-Array c =
    let a = c.args.arrays.now in
    let f = c.args.functions.now in
    let entry : FileName = record { name = c.in-Array.name.bytes; everywhere = false; named = AnArray a } in
    λ ds. one_named c.args.made.now c.push_name-in-Array.new.made (names_from c.in_ok-arrays-in-Array.field-0 f ds) (names_from a f (definition_of c.args.definition.now ∷ ds)) entry c.in_ok-push_name-in-Array.ensures
    (ap (λ (n : ℕ). entry ∷ names_from n f ds) c.in_ok-arrays-in-Array.ensures ∙ ap (λ (z : Definition). names_from a f (definition_of z ∷ ds)) (sym c.in-Array.is))
