-- Fronts of programs, and where a fault of the grammar stands: at the first token with which no program goes on.
use Rattle.std.specs.Prelude.{◌≡◌, ◌⊎◌, ℕ, List, [], ◌∷◌, ◌++◌}
use Rattle.vx_ast.specs.declared.fault.SourceFault.TheVariants.{Bad}
use Rattle.vx_ast.specs.declared.token.Token.{Token}
use Rattle.vx_ast.specs.Tree.{Row}
use Rattle.vx_ast.specs.Phrases.{Program, A, Derivation, Begins, IsProgram, Unexpected}
use Rattle.vx_ast.specs.Derivations.{TooDeep}
use Rattle.vx_ast.specs.Reads.{Misparses}
use Rattle.vx_parse.specs.Reading.{Ended}

-- with some tokens put behind them these are a program
abbrev pub IsFront : List Token → Type 0
IsFront front = (other : List Token) × IsProgram (front ++ other)

-- what begins a program, as the grammar reads it up to the rest, is such a front
abbrev pub BegunIsFront : Type 0
BegunIsFront = (front rest : List Token) (d : Derivation Row) → Begins (A Program ∷ []) (front ++ rest) d rest → IsFront front

-- and each front of a program begins it so
abbrev pub FrontIsBegun : Type 0
FrontIsBegun = (front rest : List Token) (t : Token) → IsProgram (front ++ t ∷ rest) → (d : Derivation Row) × Begins (A Program ∷ []) (front ++ t ∷ rest) d (t ∷ rest)

-- the first token with which no program goes on
pub record FirstUnexpected (ts : List Token) (t : Token) : Type 0 where
  pub front : List Token
  pub rest : List Token
  pub is : ts ≡ front ++ t ∷ rest
  pub unexpected : Unexpected front t

-- S4 stands at that token
abbrev pub FaultIsFirst : Type 0
FaultIsFirst = (ts : List Token) (line column : ℕ) → Misparses ts (Bad 4 line column) → (t : Token) × (FirstUnexpected ts t × ((t.line ≡ line) × (t.column ≡ column)))

-- and where there is such a token in tokens that end with the end token, S4 stands there or a construct before it is too deep
abbrev pub FirstIsFault : Type 0
FirstIsFault = (ts : List Token) (t : Token) → Ended ts → FirstUnexpected ts t → Misparses ts (Bad 4 t.line t.column) ⊎ TooDeep ts
