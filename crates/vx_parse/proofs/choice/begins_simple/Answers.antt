use Rattle.std.proofs.Common.{◌≡◌, ℕ, false, List, [], ◌∷◌, refl}
use types.Run.{OneOf, miss}
use borrow.Enum.Refused.{opened}
use denote.Enum.Declared.{tag_of}
use borrow.Enum.Known.{ValuesAt}
use borrow.Enum.Total.{values_d}
use Rattle.vx_ast.specs.declared.token.Mark.{Mark}
use Rattle.vx_ast.specs.declared.token.Mark.TheVariants as marks
use Rattle.vx_ast.specs.declared.token.TokenKind.{TokenKind}
use Rattle.vx_ast.specs.declared.token.TokenKind.TheVariants as kinds
use Rattle.vx_ast.specs.contracts.token.Mark as of_mark
use Rattle.vx_ast.specs.contracts.token.TokenKind as of_kind
use Rattle.vx_parse.specs.Choices.{begins_simple}
use Rattle.vx_parse.proofs.choice.begins_simple.Goals as goal

-- the marks that no arm takes
abbrev left : List ℕ
left = 2 ∷ 3 ∷ 4 ∷ 5 ∷ 6 ∷ 7 ∷ 8 ∷ 9 ∷ 10 ∷ 11 ∷ 12 ∷ 13 ∷ 14 ∷ 15 ∷ 16 ∷ 17 ∷ 18 ∷ 19 ∷ 22 ∷ 23 ∷ 24 ∷ 25 ∷ 26 ∷ 27 ∷ 30 ∷ 31 ∷ 32 ∷ 33 ∷ 34 ∷ 35 ∷ 36 ∷ 38 ∷ 39 ∷ 40 ∷ 41 ∷ 42 ∷ []

no_mark : (m : Mark) → OneOf left (tag_of of_mark.the_type m) → false ≡ begins_simple (kinds.Mark m)
no_mark marks.PlusPlus h = absurd (miss left 0 tt h)
no_mark marks.MinusMinus h = absurd (miss left 1 tt h)
no_mark marks.Plus h = absurd (miss left 20 tt h)
no_mark marks.Minus h = absurd (miss left 21 tt h)
no_mark marks.Tilde h = absurd (miss left 28 tt h)
no_mark marks.Exclamation h = absurd (miss left 29 tt h)
no_mark marks.OpenParenthesis h = absurd (miss left 37 tt h)
no_mark m h = refl

no_mark_at : (dv : ValuesAt of_kind.enum.parts 4) (k : TokenKind) (m : Mark) → k ≡ kinds.Mark m → OneOf left (tag_of of_mark.the_type (values_d of_kind.enum 4 dv k).0) → false ≡ begins_simple k
no_mark_at dv (kinds.Mark m) n e h = no_mark m h
no_mark_at dv k m e h = absurd (cc)

-- the kinds that no arm takes
abbrev others : List ℕ
others = 0 ∷ 3 ∷ 5 ∷ []

no_kind : (k : TokenKind) → OneOf others (tag_of of_kind.the_type k) → false ≡ begins_simple k
no_kind (kinds.Name x) h = absurd (miss others 1 tt h)
no_kind (kinds.Number x) h = absurd (miss others 2 tt h)
no_kind (kinds.Mark x) h = absurd (miss others 4 tt h)
no_kind k h = refl

pub returns-in_default : goal.returns-in_default
returns-in_default c = no_mark_at _ c.args.kind.now c.in_default.field-0 c.in_default.is (opened c.in_default.in_default-own.keys2)

pub returns-in_default-2 : goal.returns-in_default-2
returns-in_default-2 c = no_kind c.args.kind.now c.in_default.in_default-own.keys4
