use Rattle.std.proofs.Common.{◌≡◌, ℕ, List, [], ◌∷◌, refl}
use types.Run.{OneOf, miss}
use borrow.Enum.Refused.{opened}
use denote.Enum.Declared.{tag_of}
use borrow.Enum.Known.{ValuesAt}
use borrow.Enum.Total.{values_d}
use Rattle.vx_ast.specs.declared.token.Mark.{Mark}
use Rattle.vx_ast.specs.declared.token.Mark.TheVariants as marks
use Rattle.vx_ast.specs.declared.token.TokenKind.{TokenKind}
use Rattle.vx_ast.specs.declared.token.TokenKind.TheVariants as kinds
use Rattle.vx_ast.specs.contracts.token.Mark as of_mark
use Rattle.vx_ast.specs.contracts.token.TokenKind as of_kind
use Rattle.vx_ast.specs.Phrases.{simple_rest}
use Rattle.vx_parse.proofs.choice.what_follows.Goals as goal

-- the marks that no arm takes
abbrev left : List ℕ
left = 12 ∷ 13 ∷ 14 ∷ 15 ∷ 16 ∷ 17 ∷ 18 ∷ 19 ∷ 20 ∷ 21 ∷ 22 ∷ 23 ∷ 24 ∷ 25 ∷ 26 ∷ 27 ∷ 28 ∷ 29 ∷ 30 ∷ 31 ∷ 33 ∷ 34 ∷ 35 ∷ 36 ∷ 37 ∷ 38 ∷ 39 ∷ 40 ∷ 41 ∷ 42 ∷ []

no_mark : (m : Mark) → OneOf left (tag_of of_mark.the_type m) → simple_rest (kinds.Mark m) ≡ []
no_mark marks.PlusPlus h = absurd (miss left 0 tt h)
no_mark marks.MinusMinus h = absurd (miss left 1 tt h)
no_mark marks.PlusEqual h = absurd (miss left 2 tt h)
no_mark marks.MinusEqual h = absurd (miss left 3 tt h)
no_mark marks.StarEqual h = absurd (miss left 4 tt h)
no_mark marks.SlashEqual h = absurd (miss left 5 tt h)
no_mark marks.PercentEqual h = absurd (miss left 6 tt h)
no_mark marks.AmpersandEqual h = absurd (miss left 7 tt h)
no_mark marks.BarEqual h = absurd (miss left 8 tt h)
no_mark marks.CaretEqual h = absurd (miss left 9 tt h)
no_mark marks.ShiftLeftEqual h = absurd (miss left 10 tt h)
no_mark marks.ShiftRightEqual h = absurd (miss left 11 tt h)
no_mark marks.Equal h = absurd (miss left 32 tt h)
no_mark m h = refl

no_mark_at : (dv : ValuesAt of_kind.enum.parts 4) (k : TokenKind) (m : Mark) → k ≡ kinds.Mark m → OneOf left (tag_of of_mark.the_type (values_d of_kind.enum 4 dv k).0) → simple_rest k ≡ []
no_mark_at dv (kinds.Mark m) n e h = no_mark m h
no_mark_at dv k m e h = absurd (cc)

-- the kinds that no arm takes
abbrev others : List ℕ
others = 0 ∷ 1 ∷ 2 ∷ 3 ∷ 5 ∷ []

no_kind : (k : TokenKind) → OneOf others (tag_of of_kind.the_type k) → simple_rest k ≡ []
no_kind (kinds.Mark x) h = absurd (miss others 4 tt h)
no_kind k h = refl

pub returns-in_default : goal.returns-in_default
returns-in_default c = no_mark_at _ c.args.kind.now c.in_default.field-0 c.in_default.is (opened c.in_default.in_default-own.keys3)

pub returns-in_default-2 : goal.returns-in_default-2
returns-in_default-2 c = no_kind c.args.kind.now (opened c.in_default.in_default-own.keys2)
