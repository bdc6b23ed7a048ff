use Rattle.std.proofs.Common.{◌≡◌, ap, sym, ◌∙◌, rules}
use denote.Enum.Bare.{same_true, same_false}
use Rattle.vx_ast.specs.declared.token.Mark.{Mark}
use Rattle.vx_ast.specs.declared.token.TokenKind.TheVariants as kinds
use Rattle.vx_ast.specs.contracts.token.Mark.{the_type}
use Rattle.vx_parse.proofs.token.is_mark.Goals as goal

one_mark : (m n : Mark) → kinds.Mark m ≡ kinds.Mark n → m ≡ n
one_mark m n e = cc

pub returns-in-Mark-clause-yes : goal.returns-in-Mark-clause-yes
returns-in-Mark-clause-yes c = λ h. c.in-Mark.is ∙ ap kinds.Mark (same_true the_type tt c.in-Mark.found c.args.mark (sym c.eq.ensures ∙ h))

pub returns-in-Mark-clause-no : goal.returns-in-Mark-clause-no
returns-in-Mark-clause-no c = λ h e. same_false the_type c.in-Mark.found c.args.mark (sym c.eq.ensures ∙ h) (one_mark c.in-Mark.found c.args.mark (sym c.in-Mark.is ∙ e))

pub returns-in_default : goal.returns-in_default
returns-in_default c = record { yes = λ h. search rules; no = λ h e. c.in_default.not-Mark c.args.mark e }
