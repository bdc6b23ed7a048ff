-- The refusal of each pass is that of the whole source.
use Rattle.std.proofs.Common.{◌≡◌, ◌≤◌, ◌⊎◌, inl, inr, ℕ, List, [], ◌∷◌, length, refl, ap}
use Rattle.vx_ast.specs.declared.fault.SourceFault.{SourceFault}
use Rattle.vx_ast.specs.declared.fault.SourceFault.TheVariants.{Bad, Limit, NoMemory}
use Rattle.vx_ast.specs.declared.token.Token.{Token}
use Rattle.vx_ast.specs.Syntax as syntax
use Rattle.vx_ast.specs.Tokens.{Lexes, InOrder}
use Rattle.vx_ast.specs.Reads.{most_bytes, Parses, Misparses, Missuits, Refusal, in_tokens, in_grammar, in_names}
use Rattle.vx_ast.proofs.TokenLaws.{spans_in_order}
use Rattle.vx_lex.specs.Answer as lex
use Rattle.vx_parse.specs.Reading.{Ended}

pub refused_tokens : (bytes : List ℕ) (fault : SourceFault) → length bytes ≤ most_bytes → lex.Refusal bytes fault → (fault ≡ NoMemory) ⊎ Refusal bytes fault
refused_tokens bytes (Bad code line column) short r = inr (in_tokens short r)
refused_tokens bytes (Limit number count) short r = absurd r
refused_tokens bytes NoMemory short r = inl refl

pub refused_grammar : (bytes : List ℕ) (tokens : List Token) (fault : SourceFault) → length bytes ≤ most_bytes → Lexes bytes tokens → ((fault ≡ NoMemory) ⊎ Misparses tokens fault) → (fault ≡ NoMemory) ⊎ Refusal bytes fault
refused_grammar bytes tokens fault short lexes (inl no_room) = inl no_room
refused_grammar bytes tokens fault short lexes (inr why) = inr (in_grammar short lexes why)

pub refused_names : (bytes : List ℕ) (tokens : List Token) (tree : syntax.Program) (fault : SourceFault) → length bytes ≤ most_bytes → Lexes bytes tokens → Parses tokens tree → ((fault ≡ NoMemory) ⊎ Missuits tree fault)
    → (fault ≡ NoMemory) ⊎ Refusal bytes fault
refused_names bytes tokens tree fault short lexes parses (inl no_room) = inl no_room
refused_names bytes tokens tree fault short lexes parses (inr why) = inr (in_names short lexes parses why)

ended_from : (bytes : List ℕ) (place : ℕ) (tokens : List Token) → InOrder bytes place tokens → Ended tokens
ended_from bytes place [] order = order
ended_from bytes place (t ∷ []) order = ap (λ (u : Token). u.kind) order
ended_from bytes place (t ∷ u ∷ tokens) order = (order.0, ended_from bytes t.end (u ∷ tokens) order.3)

pub ended : (bytes : List ℕ) (tokens : List Token) → Lexes bytes tokens → Ended tokens
ended bytes tokens lexes = ended_from bytes 0 tokens (spans_in_order bytes tokens lexes)
