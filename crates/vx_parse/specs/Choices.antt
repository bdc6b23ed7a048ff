-- What a token tells of the phrase that it begins.
use Rattle.std.specs.Prelude.{◌≡◌, Bool, true, false, [], ◌∷◌, Some}
use Rattle.vx_ast.specs.declared.token.Keyword.TheVariants as words
use Rattle.vx_ast.specs.declared.token.Mark.TheVariants as marks
use Rattle.vx_ast.specs.declared.token.TokenKind.{TokenKind}
use Rattle.vx_ast.specs.declared.token.TokenKind.TheVariants as kinds
use Rattle.vx_ast.specs.Phrases.{Expression, Statement, Simple, Print, The, AName, A, mark, Fits, parts_of, simple_rest}
use Rattle.vx_parse.specs.declared.choice.Following.{Following}
use Rattle.vx_parse.specs.declared.choice.Following.TheVariants as following
use Rattle.vx_parse.specs.declared.first_token.Opening.{Opening}
use Rattle.vx_parse.specs.declared.first_token.Opening.TheVariants as opening

-- what stands behind the first expression of a simple statement whose next token is this
abbrev pub FollowedBy : Following → TokenKind → Type 0
FollowedBy following.Step k = simple_rest k ≡ The k ∷ []
FollowedBy following.Value k = simple_rest k ≡ The k ∷ A Expression ∷ []
FollowedBy following.Nothing k = simple_rest k ≡ []

-- some simple statement begins with this token
abbrev pub begins_simple : TokenKind → Bool
begins_simple (kinds.Mark marks.PlusPlus) = true
begins_simple (kinds.Mark marks.MinusMinus) = true
begins_simple (kinds.Mark marks.Plus) = true
begins_simple (kinds.Mark marks.Minus) = true
begins_simple (kinds.Mark marks.Exclamation) = true
begins_simple (kinds.Mark marks.Tilde) = true
begins_simple (kinds.Mark marks.OpenParenthesis) = true
begins_simple (kinds.Name name) = true
begins_simple (kinds.Number value) = true
begins_simple k = false

-- what a statement is whose first token is this
abbrev pub OpenedBy : Opening → TokenKind → Type 0
OpenedBy opening.Block k = k ≡ kinds.Mark marks.OpenBrace
OpenedBy opening.Empty k = k ≡ kinds.Mark marks.Semicolon
OpenedBy opening.If k = k ≡ kinds.Keyword words.If
OpenedBy opening.While k = k ≡ kinds.Keyword words.While
OpenedBy opening.Do k = k ≡ kinds.Keyword words.Do
OpenedBy opening.For k = k ≡ kinds.Keyword words.For
OpenedBy opening.Break k = k ≡ kinds.Keyword words.Break
OpenedBy opening.Continue k = k ≡ kinds.Keyword words.Continue
OpenedBy opening.Return k = k ≡ kinds.Keyword words.Return
OpenedBy opening.Print k = Fits AName k × (parts_of Statement k ≡ Some (A Print ∷ mark marks.Semicolon ∷ []))
OpenedBy opening.Simple k = (begins_simple k ≡ true) × (parts_of Statement k ≡ Some (A Simple ∷ mark marks.Semicolon ∷ []))
OpenedBy opening.Nothing k = (begins_simple k ≡ false) × (parts_of Statement k ≡ Some (A Simple ∷ mark marks.Semicolon ∷ []))
