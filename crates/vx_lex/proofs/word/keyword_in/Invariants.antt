-- no entry before this one is spelled so
use Rattle.std.proofs.Common.{◌≡◌, drop}
use Rattle.vx_ast.specs.Tokens.{keyword_in}
use Rattle.vx_lex.specs.Table.{spelled}
use Rattle.vx_lex.proofs.word.keyword_in.Given as goal

abbrev pub invariant-loop-entry : goal.invariant-loop-entry
invariant-loop-entry l = keyword_in (spelled (drop l.entry-index l.table)) l.name ≡ keyword_in (spelled l.table) l.name
