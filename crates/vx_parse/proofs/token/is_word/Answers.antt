use Rattle.std.proofs.Common.{◌≡◌, ap, sym, ◌∙◌, rules}
use denote.Enum.Bare.{same_true, same_false}
use Rattle.vx_ast.specs.declared.token.Keyword.{Keyword}
use Rattle.vx_ast.specs.declared.token.TokenKind.TheVariants as kinds
use Rattle.vx_ast.specs.contracts.token.Keyword.{the_type}
use Rattle.vx_parse.proofs.token.is_word.Goals as goal

one_word : (m n : Keyword) → kinds.Keyword m ≡ kinds.Keyword n → m ≡ n
one_word m n e = cc

pub returns-in-Keyword-clause-yes : goal.returns-in-Keyword-clause-yes
returns-in-Keyword-clause-yes c = λ h. c.in-Keyword.is ∙ ap kinds.Keyword (same_true the_type tt c.in-Keyword.found c.args.word (sym c.eq.ensures ∙ h))

pub returns-in-Keyword-clause-no : goal.returns-in-Keyword-clause-no
returns-in-Keyword-clause-no c = λ h e. same_false the_type c.in-Keyword.found c.args.word (sym c.eq.ensures ∙ h) (one_word c.in-Keyword.found c.args.word (sym c.in-Keyword.is ∙ e))

pub returns-in_default : goal.returns-in_default
returns-in_default c = record { yes = λ h. search rules; no = λ h e. c.in_default.not-Keyword c.args.word e }
