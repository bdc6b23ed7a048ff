-- What the calls of this crate answer.
use Rattle.std.specs.Prelude.{◌≡◌, ℕ, List}
use Rattle.vx_ast.specs.declared.fault.SourceFault.{SourceFault}
use Rattle.vx_ast.specs.declared.fault.SourceFault.TheVariants.{Bad, Limit, NoMemory}
use Rattle.vx_ast.specs.Tokens.{Refuses, line_at, column_at}
use Rattle.vx_lex.specs.declared.scanner.Spot.{Spot}

-- a spot with the line and the column of its place
pub record IsSpot (bytes : List ℕ) (spot : Spot) : Type 0 where
  pub line : spot.line ≡ line_at bytes spot.place
  pub column : spot.column ≡ column_at bytes spot.place

-- why a source is refused: its first fault, or want of memory
abbrev pub Refusal : List ℕ → SourceFault → Type 0
Refusal bytes (Bad code line column) = Refuses bytes (Bad code line column)
Refusal bytes (Limit number count) = ⊥
Refusal bytes NoMemory = Unit {0}
