use Rattle.std.proofs.Common.{ℕ, ◌≡◌, List, [], ◌∷◌, refl}
use types.Run.{OneOf, miss}
use borrow.Enum.Refused.{opened}
use denote.Enum.Declared.{tag_of}
use borrow.Enum.Known.{ValuesAt}
use borrow.Enum.Total.{values_d}
use Rattle.vx_ast.specs.declared.token.Keyword.{Keyword}
use Rattle.vx_ast.specs.declared.token.Keyword.TheVariants as words
use Rattle.vx_ast.specs.declared.token.Mark.{Mark}
use Rattle.vx_ast.specs.declared.token.Mark.TheVariants as marks
use Rattle.vx_ast.specs.declared.token.TokenKind.{TokenKind}
use Rattle.vx_ast.specs.declared.token.TokenKind.TheVariants as kinds
use Rattle.vx_ast.specs.contracts.token.Keyword as of_word
use Rattle.vx_ast.specs.contracts.token.Mark as of_mark
use Rattle.vx_ast.specs.contracts.token.TokenKind as of_kind
use Rattle.vx_ast.specs.Phrases.{parts_of}
use Rattle.vx_parse.specs.declared.first_token.Opening.TheVariants as opening
use Rattle.vx_parse.specs.Choices.{OpenedBy}
use Rattle.vx_parse.proofs.first_token.opening_of.Goals as goal

-- the marks that no arm takes
abbrev mark_tags : List ℕ
mark_tags = 2 ∷ 3 ∷ 4 ∷ 5 ∷ 6 ∷ 7 ∷ 8 ∷ 9 ∷ 10 ∷ 11 ∷ 12 ∷ 13 ∷ 14 ∷ 15 ∷ 16 ∷ 17 ∷ 18 ∷ 19 ∷ 22 ∷ 23 ∷ 24 ∷ 25 ∷ 26 ∷ 27 ∷ 30 ∷ 31 ∷ 32 ∷ 33 ∷ 34 ∷ 35 ∷ 38 ∷ 39 ∷ 40 ∷ 42 ∷ []

no_mark : (x : Mark) → OneOf mark_tags (tag_of of_mark.the_type x) → OpenedBy opening.Nothing (kinds.Mark x)
unfolding parts_of
no_mark marks.PlusPlus h = absurd (miss mark_tags 0 tt h)
no_mark marks.MinusMinus h = absurd (miss mark_tags 1 tt h)
no_mark marks.Plus h = absurd (miss mark_tags 20 tt h)
no_mark marks.Minus h = absurd (miss mark_tags 21 tt h)
no_mark marks.Tilde h = absurd (miss mark_tags 28 tt h)
no_mark marks.Exclamation h = absurd (miss mark_tags 29 tt h)
no_mark marks.Semicolon h = absurd (miss mark_tags 36 tt h)
no_mark marks.OpenParenthesis h = absurd (miss mark_tags 37 tt h)
no_mark marks.OpenBrace h = absurd (miss mark_tags 41 tt h)
no_mark x h = (refl, refl)

no_mark_at : (dv : ValuesAt of_kind.enum.parts 4) (k : TokenKind) (x : Mark) → k ≡ kinds.Mark x → OneOf mark_tags (tag_of of_mark.the_type (values_d of_kind.enum 4 dv k).0) → OpenedBy opening.Nothing k
no_mark_at dv (kinds.Mark x) y e h = no_mark x h
no_mark_at dv k x e h = absurd (cc)

-- the keywords that no arm takes
abbrev word_tags : List ℕ
word_tags = 0 ∷ 2 ∷ 3 ∷ 4 ∷ 6 ∷ 8 ∷ 9 ∷ 10 ∷ 11 ∷ 12 ∷ 14 ∷ 16 ∷ 17 ∷ 18 ∷ 20 ∷ 21 ∷ 22 ∷ 23 ∷ 24 ∷ 25 ∷ 26 ∷ 27 ∷ 28 ∷ 29 ∷ 30 ∷ []

no_word : (x : Keyword) → OneOf word_tags (tag_of of_word.the_type x) → OpenedBy opening.Nothing (kinds.Keyword x)
unfolding parts_of
no_word words.Break h = absurd (miss word_tags 1 tt h)
no_word words.Continue h = absurd (miss word_tags 5 tt h)
no_word words.Do h = absurd (miss word_tags 7 tt h)
no_word words.For h = absurd (miss word_tags 13 tt h)
no_word words.If h = absurd (miss word_tags 15 tt h)
no_word words.Return h = absurd (miss word_tags 19 tt h)
no_word words.While h = absurd (miss word_tags 31 tt h)
no_word x h = (refl, refl)

no_word_at : (dv : ValuesAt of_kind.enum.parts 0) (k : TokenKind) (x : Keyword) → k ≡ kinds.Keyword x → OneOf word_tags (tag_of of_word.the_type (values_d of_kind.enum 0 dv k).0) → OpenedBy opening.Nothing k
no_word_at dv (kinds.Keyword x) y e h = no_word x h
no_word_at dv k x e h = absurd (cc)

-- the kinds that no arm takes
abbrev others : List ℕ
others = 3 ∷ 5 ∷ []

no_kind : (k : TokenKind) → OneOf others (tag_of of_kind.the_type k) → OpenedBy opening.Nothing k
unfolding parts_of
no_kind (kinds.Keyword x) h = absurd (miss others 0 tt h)
no_kind (kinds.Name x) h = absurd (miss others 1 tt h)
no_kind (kinds.Number x) h = absurd (miss others 2 tt h)
no_kind (kinds.Mark x) h = absurd (miss others 4 tt h)
no_kind k h = (refl, refl)

pub returns-in_default : goal.returns-in_default
returns-in_default c = no_mark_at _ c.args.kind.now c.in_default.field-0 c.in_default.is (opened c.in_default.in_default-own.keys4)

pub returns-in_default-2 : goal.returns-in_default-2
returns-in_default-2 c = no_word_at _ c.args.kind.now c.in_default.field-0 c.in_default.is (opened c.in_default.in_default-own.keys8)

pub returns-in_default-3 : goal.returns-in_default-3
returns-in_default-3 c = no_kind c.args.kind.now c.in_default.in_default-own.keys5
