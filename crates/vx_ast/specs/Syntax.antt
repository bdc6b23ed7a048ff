-- The tree of a source as it is parsed, without pointers. An expression is one, or a row of arguments; a statement is
-- one, or a list of statements.
use Rattle.std.specs.Prelude.{ℕ, ℤ, List, Option}
use Rattle.vx_ast.specs.declared.tree.UnaryOperator.{UnaryOperator}
use Rattle.vx_ast.specs.declared.tree.BinaryOperator.{BinaryOperator}
use Rattle.vx_ast.specs.declared.tree.Gives.{Gives}
use Rattle.vx_ast.specs.declared.syntax.Place.{Place}
use Rattle.vx_ast.specs.declared.syntax.Name.{Name}
use Rattle.vx_ast.specs.declared.syntax.Size.{Size}
use Rattle.vx_ast.specs.declared.syntax.Parameter.{Parameter}
use Rattle.vx_ast.specs.Tree.{Shape, One, Row}

pub data Phrase : Shape → Type 0 where
  Number : ℤ → Phrase One
  -- a name used as a number
  Use : Name → Phrase One
  Element : Name → Phrase One → Phrase One
  Call : Name → Phrase Row → Phrase One
  Unary : UnaryOperator → Phrase One → Phrase One
  Binary : BinaryOperator → Phrase One → Phrase One → Phrase One
  Both : Phrase One → Phrase One → Phrase One
  Either : Phrase One → Phrase One → Phrase One
  Choice : Phrase One → Phrase One → Phrase One → Phrase One
  NoMore : Phrase Row
  -- an argument, and where its first token stands
  Then : Place → Phrase One → Phrase Row → Phrase Row

-- what stands where a target is wanted, and where its first token stands
pub record Target : Type 0 where
  pub place : Place
  pub phrase : Phrase One

pub data Action : Type 0 where
  Evaluate : Phrase One → Action
  Assign : Target → Phrase One → Action
  Compound : Target → BinaryOperator → Phrase One → Action
  Increase : Target → Action
  Decrease : Target → Action

pub data Code : Type 0 where
  -- the end of a list of statements, and a statement before the others
  Nothing : Code
  Seq : Code → Code → Code
  Empty : Code
  Block : Code → Code
  -- items of declarations: a scalar without and with a value, an array
  Scalar : Name → Code
  ScalarWith : Name → Phrase One → Code
  Array : Name → Size → Code
  -- a simple statement, and the same as a part of the head of a for
  Simply : Action → Code
  Head : Action → Code
  -- where `printf` and where the format stands, the format, the arguments
  Print : Place → Place → List ℕ → Phrase Row → Code
  If : Phrase One → Code → Code
  IfElse : Phrase One → Code → Code → Code
  While : Phrase One → Code → Code
  DoWhile : Code → Phrase One → Code
  For : (first : Code) → (test : Option (Phrase One)) → (step body : Code) → Code
  Break : Place → Code
  Continue : Place → Code
  Return : Place → Code
  ReturnValue : Place → Phrase One → Code

pub record Function : Type 0 where
  pub gives : Gives
  pub name : Name
  pub parameters : List Parameter
  pub body : Code

pub data Definition : Type 0 where
  GlobalScalar : Name → ℤ → Definition
  GlobalArray : Name → Size → Definition
  AFunction : Function → Definition

pub record Program : Type 0 where
  pub definitions : List Definition
  -- the end of the source
  pub end : Place
