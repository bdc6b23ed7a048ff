-- Laws of phrases, of programs and of sources.
use Rattle.std.specs.Prelude.{◌≡◌, ℕ, List, [], ◌∷◌, ◌++◌}
use Rattle.vx_ast.specs.declared.token.Token.{Token}
use Rattle.vx_ast.specs.declared.fault.SourceFault.{SourceFault}
use Rattle.vx_ast.specs.Tree.{Row, Program}
use Rattle.vx_ast.specs.Syntax as syntax
use Rattle.vx_ast.specs.Reads.{Parses, Misparses, Reads, Refusal}
use Rattle.vx_ast.specs.Phrases as phrases
use Rattle.vx_ast.specs.Phrases.{Part, A, Derivation, Is, Stuck, Unexpected}

abbrev pub OneDerivation : Type 0
OneDerivation = (parts : List Part) (ts r s : List Token) (d e : Derivation Row) → Is parts ts d r → Is parts ts e s → (d ≡ e) × (r ≡ s)

-- never both
abbrev pub ReadOrStuck : Type 0
ReadOrStuck = (parts : List Part) (ts r s : List Token) (d e : Derivation Row) → Stuck parts ts d s → Is parts ts e r → ⊥

abbrev pub StuckIsUnexpected : Type 0
StuckIsUnexpected = (ts rest : List Token) (t : Token) (d : Derivation Row) → Stuck (A phrases.Program ∷ []) ts d (t ∷ rest) → (front : List Token) × (ts ≡ front ++ t ∷ rest) × Unexpected front t

-- tokens are one program at most
abbrev pub OneTree : Type 0
OneTree = (ts : List Token) (p q : syntax.Program) → Parses ts p → Parses ts q → p ≡ q

-- never a program and a fault of the grammar
abbrev pub ParsedOrNot : Type 0
ParsedOrNot = (ts : List Token) (p : syntax.Program) (f : SourceFault) → Parses ts p → Misparses ts f → ⊥

abbrev pub OneMisparse : Type 0
OneMisparse = (ts : List Token) (f g : SourceFault) → Misparses ts f → Misparses ts g → f ≡ g

-- a source is one program at most
abbrev pub OneProgram : Type 0
OneProgram = (b : List ℕ) (p q : Program) → Reads b p → Reads b q → p ≡ q

-- never a program and a refusal
abbrev pub ReadOrNot : Type 0
ReadOrNot = (b : List ℕ) (p : Program) (f : SourceFault) → Reads b p → Refusal b f → ⊥

abbrev pub OneRefusal : Type 0
OneRefusal = (b : List ℕ) (f g : SourceFault) → Refusal b f → Refusal b g → f ≡ g
