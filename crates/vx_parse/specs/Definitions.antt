-- What the derivations of definitions mean.
use Rattle.std.specs.Prelude.{◌≡◌, ◌<◌, ℕ, ℤ, ◌++◌, List, [], ◌∷◌, map}
use Rattle.vx_ast.specs.declared.syntax.Name.{Name}
use Rattle.vx_ast.specs.declared.syntax.Parameter.{Parameter}
use Rattle.vx_ast.specs.declared.syntax.Definition.{Definition}
use Rattle.vx_ast.specs.declared.tree.Gives.{Gives}
use Rattle.vx_ast.specs.declared.tree.Takes.{Takes}
use Rattle.vx_ast.specs.declared.token.Mark.TheVariants as marks
use Rattle.vx_ast.specs.declared.token.Token.{Token}
use Rattle.vx_ast.specs.Tree.{One}
use Rattle.vx_ast.specs.SyntaxView as view
use Rattle.vx_ast.specs.Phrases as phrases
use Rattle.vx_ast.specs.Phrases.{Phrase, AfterName, MoreGlobals, MoreParameters, Parameters, Block, Part, A, mark, Derivation, Leaf, NoMore, Then}
use Rattle.vx_ast.specs.Derivations.{name_of, signed_of, global_of, more_globals_of, takes_of, parameter_of, parameters_of, block_of, after_name_of, definitions_of}
use Rattle.vx_parse.specs.declared.definition.Definitions.{Definitions}
use Rattle.vx_parse.specs.declared.definition.ParametersRead.{ParametersRead}
use Rattle.vx_parse.specs.declared.definition.FunctionRead.{FunctionRead}
use Rattle.vx_parse.specs.Reading.{Parted, IsPhrase, Continues}

abbrev pub MeansSigned : ℤ → Derivation One → Type 0
MeansSigned z d = signed_of d ≡ z

-- behind each token that is this name
abbrev pub MeansGlobal : Name → Definition → Derivation One → Type 0
MeansGlobal name global d = (t : Token) → name ≡ name_of t → global_of t d ≡ view.definition_of global

abbrev pub MeansGlobals : List Definition → Derivation One → Type 0
MeansGlobals globals d = more_globals_of d ≡ map view.definition_of globals

-- globals with the definitions before them
pub record GlobalsBehind (before : Definitions) (tokens : List Token) (r : Definitions) : Type 0 where
  pub more : List Definition
  pub joined : r.definitions.items ≡ before.definitions.items ++ more
  pub phrase : IsPhrase MoreGlobals tokens before.next before.next r.next 0 (MeansGlobals more)

abbrev pub MeansBrackets : Takes → Derivation One → Type 0
MeansBrackets takes d = takes_of d ≡ takes

abbrev pub MeansParameter : Parameter → Derivation One → Type 0
MeansParameter parameter d = parameter_of d ≡ parameter ∷ []

abbrev pub MeansParameters : List Parameter → Derivation One → Type 0
MeansParameters parameters d = parameters_of d ≡ parameters

-- parameters with those before them
pub record ParametersBehind (before : ParametersRead) (tokens : List Token) (r : ParametersRead) : Type 0 where
  pub more : List Parameter
  pub joined : r.parameters ≡ before.parameters ++ more
  pub phrase : IsPhrase MoreParameters tokens before.next before.next r.next 0 (MeansParameters more)

-- a function from its `(` on
abbrev pub Heading : List Part
Heading = mark marks.OpenParenthesis ∷ A Parameters ∷ mark marks.CloseParenthesis ∷ A Block ∷ []

pub record IsFunction (tokens : List Token) (place : ℕ) (name : Name) (gives : Gives) (r : FunctionRead) : Type 0 where
  pub opening : Token
  pub parameters : Derivation One
  pub closing : Token
  pub block : Derivation One
  pub parted : Parted Heading tokens place r.next 0 (Then (Leaf opening) (Then parameters (Then (Leaf closing) (Then block NoMore))))
  pub tree : view.function_of r.function ≡ record { gives = gives; name = name; parameters = parameters_of parameters; body = block_of block }

-- behind each token that is this name
abbrev pub MeansAfter : Name → List Definition → Derivation One → Type 0
MeansAfter name definitions d = (t : Token) → name ≡ name_of t → after_name_of t d ≡ map view.definition_of definitions

-- what stands behind `int` and a name, with the definitions before it
pub record IsAfterName (name : Name) (before : Definitions) (tokens : List Token) (r : Definitions) : Type 0 where
  pub more : List Definition
  pub joined : r.definitions.items ≡ before.definitions.items ++ more
  pub phrase : IsPhrase AfterName tokens before.next before.next r.next 0 (MeansAfter name more)

abbrev pub MeansDefinitions : List Definition → Derivation One → Type 0
MeansDefinitions definitions d = definitions_of d ≡ map view.definition_of definitions

-- a program goes on with some definitions behind the others
pub record Defines (before : Definitions) (tokens : List Token) (r : Definitions) : Type 0 where
  pub more : List Definition
  pub joined : r.definitions.items ≡ before.definitions.items ++ more
  pub continues : Continues phrases.Program tokens before.next 0 MeansDefinitions r.next more
  pub further : before.next < r.next
