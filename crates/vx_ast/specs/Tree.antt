-- The tree of a program without pointers. An expression is one, or a row of arguments; a statement is one, or a
-- list of statements.
use Rattle.std.specs.Prelude.{ℕ, ℤ, List, Option}
use Rattle.vx_ast.specs.declared.tree.UnaryOperator.{UnaryOperator}
use Rattle.vx_ast.specs.declared.tree.BinaryOperator.{BinaryOperator}
use Rattle.vx_ast.specs.declared.tree.Gives.{Gives}
use Rattle.vx_ast.specs.declared.tree.Takes.{Takes}
use Rattle.vx_ast.specs.declared.tree.GlobalVariable.{GlobalVariable}

pub data Shape : Type 0 where
  One : Shape
  Row : Shape

pub data Tree : Shape → Type 0 where
  Literal : ℤ → Tree One
  -- a scalar of the function
  Local : ℕ → Tree One
  -- a global scalar, by its array
  Global : ℕ → Tree One
  Element : ℕ → Tree One → Tree One
  Unary : UnaryOperator → Tree One → Tree One
  Binary : BinaryOperator → Tree One → Tree One → Tree One
  Both : Tree One → Tree One → Tree One
  Either : Tree One → Tree One → Tree One
  Choice : Tree One → Tree One → Tree One → Tree One
  Apply : ℕ → Tree Row → Tree One
  ReadInt : Tree One
  MoreInput : Tree One
  NoMore : Tree Row
  -- an argument that is a number, and an array that is handed over
  Then : Tree One → Tree Row → Tree Row
  Hand : ℕ → Tree Row → Tree Row

-- what an assignment changes
pub data Place : Type 0 where
  InLocal : ℕ → Place
  InGlobal : ℕ → Place
  InElement : ℕ → Tree One → Place

pub data Action : Type 0 where
  Evaluate : Tree One → Action
  Assign : Place → Tree One → Action
  Compound : Place → BinaryOperator → Tree One → Action
  Increase : Place → Action
  Decrease : Place → Action

pub data Code : Type 0 where
  -- the end of a list of statements, and a statement before the others
  Nothing : Code
  Seq : Code → Code → Code
  Empty : Code
  Block : Code → Code
  -- items of declarations: a scalar without and with a value, an array
  Clear : ℕ → Code
  Declare : ℕ → Tree One → Code
  ClearArray : ℕ → Code
  -- a simple statement, and the same as a part of the head of a for
  Simply : Action → Code
  Head : Action → Code
  Print : List ℕ → Tree Row → Code
  If : Tree One → Code → Code
  IfElse : Tree One → Code → Code → Code
  While : Tree One → Code → Code
  DoWhile : Code → Tree One → Code
  For : (first : Code) → (test : Option (Tree One)) → (step body : Code) → Code
  Break : Code
  Continue : Code
  Return : Code
  ReturnValue : Tree One → Code

pub record Function : Type 0 where
  pub name : List ℕ
  pub gives : Gives
  -- how many parameters are numbers, and what each parameter takes
  pub parameters : ℕ
  pub takes : List Takes
  pub scalars : ℕ
  -- the words of its own arrays
  pub arrays : List ℕ
  pub body : Code

pub record Program : Type 0 where
  pub globals : List GlobalVariable
  pub functions : List Function
  pub main : ℕ
