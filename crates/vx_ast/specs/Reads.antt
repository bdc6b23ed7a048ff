-- When bytes are an accepted source, and the one fault or limit that is answered where they are not. There is one order:
-- the length; then the first fault of tokens; then the first token that no program goes on with, or with which a construct
-- is too deep; then the first fault of names and kinds; then the lowest limit that is over.
use Rattle.std.specs.Prelude.{◌≡◌, ◌≤◌, ◌<◌, ℕ, Option, Some, None, List, [], ◌∷◌, length}
use Rattle.vx_ast.specs.declared.fault.SourceFault.{SourceFault}
use Rattle.vx_ast.specs.declared.fault.SourceFault.TheVariants.{Bad, Limit}
use Rattle.vx_ast.specs.declared.token.Token.{Token}
use Rattle.vx_ast.specs.declared.names.Fault.{Fault}
use Rattle.vx_ast.specs.Tree.{Row, Program}
use Rattle.vx_ast.specs.Syntax as syntax
use Rattle.vx_ast.specs.Tokens.{Lexes, Refuses}
use Rattle.vx_ast.specs.Phrases.{A, Derivation, Is, Stuck}
use Rattle.vx_ast.specs.Phrases as phrases
use Rattle.vx_ast.specs.Derivations.{program_of, depth_of, TooDeep}
use Rattle.vx_ast.specs.Faults.{first_fault}
use Rattle.vx_ast.specs.Resolved.{resolved}
use Rattle.vx_ast.specs.Accepted.{Over, limit_of}

-- the most bytes of a source, and the deepest construct
abbrev pub most_bytes : ℕ
most_bytes = 1048576

abbrev pub deepest_construct : ℕ
deepest_construct = 200

-- the tokens are a program with this tree, and no construct of it is too deep
pub record Parses (ts : List Token) (tree : syntax.Program) : Type 0 where
  pub derivation : Derivation Row
  pub last : Token
  pub is : Is (A phrases.Program ∷ []) ts derivation (last ∷ [])
  pub shallow : depth_of derivation ≤ deepest_construct
  pub is_tree : tree ≡ program_of derivation last

-- no program goes on with this token, and before it no construct is too deep
pub record Leaves (ts : List Token) (t : Token) : Type 0 where
  pub derivation : Derivation Row
  pub rest : List Token
  pub stuck : Stuck (A phrases.Program ∷ []) ts derivation (t ∷ rest)
  pub shallow : depth_of derivation ≤ deepest_construct

-- why tokens are no program
pub data Misparses (ts : List Token) : SourceFault → Type 0 where
  unexpected : {t : Token} → Leaves ts t → Misparses ts (Bad 4 t.line t.column)
  too_deep : TooDeep ts → Misparses ts (Limit 2 201)

-- why a tree is no program: its first fault, or where it has none its lowest limit that is over
pub data Missuits (tree : syntax.Program) : SourceFault → Type 0 where
  faulty : (f : Fault) → first_fault tree ≡ Some f → Missuits tree (Bad f.code f.place.line f.place.column)
  over : (o : Over) → first_fault tree ≡ None → limit_of (resolved tree) ≡ Some o → Missuits tree (Limit o.number o.count)

-- the bytes are an accepted source, and the program is its reading
pub record Reads (bytes : List ℕ) (program : Program) : Type 0 where
  pub short : length bytes ≤ most_bytes
  pub tokens : List Token
  pub lexes : Lexes bytes tokens
  pub tree : syntax.Program
  pub parses : Parses tokens tree
  pub faultless : first_fault tree ≡ None
  pub within : limit_of (resolved tree) ≡ None
  pub is_program : program ≡ resolved tree

-- the fault or limit that is answered where the bytes are no accepted source
pub data Refusal (bytes : List ℕ) : SourceFault → Type 0 where
  too_long : most_bytes < length bytes → Refusal bytes (Limit 1 1048577)
  in_tokens : {f : SourceFault} → length bytes ≤ most_bytes → Refuses bytes f → Refusal bytes f
  in_grammar : {f : SourceFault} {ts : List Token} → length bytes ≤ most_bytes → Lexes bytes ts → Misparses ts f → Refusal bytes f
  in_names : {f : SourceFault} {ts : List Token} {tree : syntax.Program} → length bytes ≤ most_bytes → Lexes bytes ts → Parses ts tree → Missuits tree f → Refusal bytes f
