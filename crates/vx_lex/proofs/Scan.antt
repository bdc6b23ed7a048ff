-- A piece that stands first lies within the source.
use Rattle.std.proofs.Common.{◌≡◌, ◌≤◌, ◌<◌, ◌+◌, ◌-◌, ℕ, List, length, subst, sym, arith, ◌++◌, [], ◌∷◌, append_assoc}
use Rattle.vx_ast.specs.declared.token.TokenKind.{TokenKind}
use Rattle.vx_ast.specs.declared.token.Token.{Token}
use Rattle.vx_ast.specs.declared.fault.SourceFault.{SourceFault}
use Rattle.vx_ast.specs.declared.fault.SourceFault.TheVariants.{Bad}
use Rattle.vx_ast.specs.declared.token.Piece.{Piece}
use Rattle.vx_ast.specs.declared.token.Piece.TheVariants.{Skipped, Spelled, Faulty}
use Rattle.vx_ast.specs.Tokens.{piece_at, IsWithin, LexesFrom, RefusesFrom, Lexes, token_at, line_at, column_at}
use Rattle.vx_ast.proofs.PieceLaws.{at_within}

within : (bytes : List ℕ) (place : ℕ) (p : Piece) → place < length bytes → p ≡ piece_at bytes place → IsWithin p (length bytes - place)
within bytes place p h is = let P : Piece → Type 0 = λ q. IsWithin q (length bytes - place) in subst P (sym is) (at_within bytes place h)

pub skip_within : (bytes : List ℕ) (place count : ℕ) → place < length bytes → Skipped count ≡ piece_at bytes place → (0 < count) × (place + count ≤ length bytes)
skip_within bytes place count h is = let fits = within bytes place (Skipped count) h is in (fits.0, omega (arith, fits.1))

pub token_within : (bytes : List ℕ) (place count : ℕ) (kind : TokenKind) → place < length bytes → Spelled kind count ≡ piece_at bytes place → (0 < count) × (place + count ≤ length bytes)
token_within bytes place count kind h is = let fits = within bytes place (Spelled kind count) h is in (fits.1, omega (arith, fits.2))

pub fault_within : (bytes : List ℕ) (place code offset : ℕ) → place < length bytes → Faulty code offset ≡ piece_at bytes place → place + offset ≤ length bytes
fault_within bytes place code offset h is = let fits = within bytes place (Faulty code offset) h is in omega (arith, fits)

-- what stands first, and what is read behind it

pub lexes_skip : (bytes : List ℕ) (place count next : ℕ) (rest : List Token) → place < length bytes → Skipped count ≡ piece_at bytes place → next ≡ place + count
    → LexesFrom bytes next rest → LexesFrom bytes place rest
lexes_skip bytes place count next rest h is e d = let P : ℕ → Type 0 = λ n. LexesFrom bytes n rest in LexesFrom.skip count h (sym is) (subst P e d)

pub lexes_token : (bytes : List ℕ) (place count next : ℕ) (kind : TokenKind) (items items' rest : List Token) → place < length bytes → Spelled kind count ≡ piece_at bytes place
    → next ≡ place + count → items' ≡ items ++ token_at bytes kind place count ∷ [] → ((ts : List Token) → LexesFrom bytes place ts → Lexes bytes (items ++ ts))
    → LexesFrom bytes next rest → Lexes bytes (items' ++ rest)
lexes_token bytes place count next kind items items' rest h is e pushed so_far d =
    let P : ℕ → Type 0 = λ n. LexesFrom bytes n rest in
    let all = so_far (token_at bytes kind place count ∷ rest) (LexesFrom.token kind count h (sym is) (subst P e d)) in
    rw (pushed, append_assoc) all

pub refuses_skip : (bytes : List ℕ) (place count next : ℕ) (f : SourceFault) → place < length bytes → Skipped count ≡ piece_at bytes place → next ≡ place + count
    → RefusesFrom bytes next f → RefusesFrom bytes place f
refuses_skip bytes place count next f h is e d = let P : ℕ → Type 0 = λ n. RefusesFrom bytes n f in RefusesFrom.skip count h (sym is) (subst P e d)

pub refuses_token : (bytes : List ℕ) (place count next : ℕ) (kind : TokenKind) (f : SourceFault) → place < length bytes → Spelled kind count ≡ piece_at bytes place → next ≡ place + count
    → RefusesFrom bytes next f → RefusesFrom bytes place f
refuses_token bytes place count next kind f h is e d = let P : ℕ → Type 0 = λ n. RefusesFrom bytes n f in RefusesFrom.token kind count h (sym is) (subst P e d)

pub refuses_fault : (bytes : List ℕ) (place code offset next line column : ℕ) → place < length bytes → Faulty code offset ≡ piece_at bytes place → next ≡ place + offset
    → line ≡ line_at bytes next → column ≡ column_at bytes next → RefusesFrom bytes place (Bad code line column)
refuses_fault bytes place code offset next line column h is e at_line at_column = rw (at_line, at_column, e) (RefusesFrom.fault code offset h (sym is))
