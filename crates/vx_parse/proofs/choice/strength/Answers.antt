use Rattle.std.proofs.Common.{◌≡◌, ℕ, List, [], ◌∷◌, refl}
use types.Run.{OneOf, miss}
use borrow.Enum.Refused.{opened}
use denote.Enum.Declared.{tag_of}
use borrow.Enum.Known.{ValuesAt}
use borrow.Enum.Total.{values_d}
use Rattle.vx_ast.specs.declared.token.Mark.{Mark}
use Rattle.vx_ast.specs.declared.token.Mark.TheVariants as marks
use Rattle.vx_ast.specs.declared.token.TokenKind.{TokenKind}
use Rattle.vx_ast.specs.declared.token.TokenKind.TheVariants as kinds
use Rattle.vx_ast.specs.contracts.token.Mark as of_mark
use Rattle.vx_ast.specs.contracts.token.TokenKind as of_kind
use Rattle.vx_ast.specs.Phrases.{strength}
use Rattle.vx_parse.proofs.choice.strength.Goals as goal

-- the marks that no arm takes
abbrev left : List ℕ
left = 0 ∷ 1 ∷ 2 ∷ 3 ∷ 4 ∷ 5 ∷ 6 ∷ 7 ∷ 8 ∷ 9 ∷ 10 ∷ 11 ∷ 28 ∷ 29 ∷ 32 ∷ 33 ∷ 34 ∷ 35 ∷ 36 ∷ 37 ∷ 38 ∷ 39 ∷ 40 ∷ 41 ∷ 42 ∷ []

no_mark : (m : Mark) → OneOf left (tag_of of_mark.the_type m) → 10 ≡ strength (kinds.Mark m)
no_mark marks.ShiftLeft h = absurd (miss left 12 tt h)
no_mark marks.ShiftRight h = absurd (miss left 13 tt h)
no_mark marks.LessEqual h = absurd (miss left 14 tt h)
no_mark marks.GreaterEqual h = absurd (miss left 15 tt h)
no_mark marks.EqualEqual h = absurd (miss left 16 tt h)
no_mark marks.ExclamationEqual h = absurd (miss left 17 tt h)
no_mark marks.AmpersandAmpersand h = absurd (miss left 18 tt h)
no_mark marks.BarBar h = absurd (miss left 19 tt h)
no_mark marks.Plus h = absurd (miss left 20 tt h)
no_mark marks.Minus h = absurd (miss left 21 tt h)
no_mark marks.Star h = absurd (miss left 22 tt h)
no_mark marks.Slash h = absurd (miss left 23 tt h)
no_mark marks.Percent h = absurd (miss left 24 tt h)
no_mark marks.Ampersand h = absurd (miss left 25 tt h)
no_mark marks.Bar h = absurd (miss left 26 tt h)
no_mark marks.Caret h = absurd (miss left 27 tt h)
no_mark marks.Less h = absurd (miss left 30 tt h)
no_mark marks.Greater h = absurd (miss left 31 tt h)
no_mark m h = refl

no_mark_at : (dv : ValuesAt of_kind.enum.parts 4) (k : TokenKind) (m : Mark) → k ≡ kinds.Mark m → OneOf left (tag_of of_mark.the_type (values_d of_kind.enum 4 dv k).0) → 10 ≡ strength k
no_mark_at dv (kinds.Mark m) n e h = no_mark m h
no_mark_at dv k m e h = absurd (cc)

-- the kinds that no arm takes
abbrev others : List ℕ
others = 0 ∷ 1 ∷ 2 ∷ 3 ∷ 5 ∷ []

no_kind : (k : TokenKind) → OneOf others (tag_of of_kind.the_type k) → 10 ≡ strength k
no_kind (kinds.Mark x) h = absurd (miss others 4 tt h)
no_kind k h = refl

pub returns-in_default : goal.returns-in_default
returns-in_default c = no_mark_at _ c.args.kind.now c.in_default.field-0 c.in_default.is (opened c.in_default.in_default-own.keys11)

pub returns-in_default-2 : goal.returns-in_default-2
returns-in_default-2 c = no_kind c.args.kind.now (opened c.in_default.in_default-own.keys2)
