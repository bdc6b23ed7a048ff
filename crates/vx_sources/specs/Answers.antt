-- What every source comes to: the program that it reads as, or the one fault or limit for which it is refused.
use Rattle.std.specs.Prelude.{◌≡◌, ◌⊎◌, ℕ, List}
use Rattle.vx_ast.specs.declared.fault.SourceFault.{SourceFault}
use Rattle.vx_ast.specs.declared.token.Token.{Token}
use Rattle.vx_ast.specs.Tree.{Program}
use Rattle.vx_ast.specs.Syntax as syntax
use Rattle.vx_ast.specs.Reads.{Parses, Misparses, Reads, Refusal}
use Rattle.vx_parse.specs.Reading.{Ended}

-- what may be answered of a source
pub data Answer : Type 0 where
  Accepted : Program → Answer
  Refused : SourceFault → Answer

-- the bytes come to this answer
abbrev pub ComesTo : List ℕ → Answer → Type 0
ComesTo bytes (Accepted program) = Reads bytes program
ComesTo bytes (Refused fault) = Refusal bytes fault

-- every list of bytes comes to an answer
abbrev pub EverySourceIsAnswered : Type 0
EverySourceIsAnswered = (bytes : List ℕ) → (answer : Answer) × ComesTo bytes answer

-- and to no other
abbrev pub AnsweredOnce : Type 0
AnsweredOnce = (bytes : List ℕ) (answer other : Answer) → ComesTo bytes answer → ComesTo bytes other → answer ≡ other

-- tokens that end with the end token, and hold no other, are a program, or are none for a reason
abbrev pub TokensAreParsedOrNot : Type 0
TokensAreParsedOrNot = (ts : List Token) → Ended ts → ((tree : syntax.Program) × Parses ts tree) ⊎ ((fault : SourceFault) × Misparses ts fault)
