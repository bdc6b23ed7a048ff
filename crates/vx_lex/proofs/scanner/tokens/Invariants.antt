-- what is read from here on completes what was read
use Rattle.std.proofs.Common.{◌≤◌, ◌-◌, ◌++◌, List, length}
use Rattle.vx_ast.specs.declared.token.Token.{Token}
use Rattle.vx_ast.specs.declared.fault.SourceFault.{SourceFault}
use Rattle.vx_ast.specs.Tokens.{Lexes, LexesFrom, Refuses, RefusesFrom}
use Rattle.vx_lex.specs.Answer.{IsSpot}
use Rattle.vx_lex.proofs.scanner.tokens.Given as goal

abbrev pub invariant-pieces : goal.invariant-pieces
invariant-pieces l = record {
  spot : IsSpot l.bytes l.spot;
  within : l.spot.place ≤ length l.bytes;
  lexes : (rest : List Token) → LexesFrom l.bytes l.spot.place rest → Lexes l.bytes (l.tokens.items ++ rest);
  refuses : (fault : SourceFault) → RefusesFrom l.bytes l.spot.place fault → Refuses l.bytes fault;
}

abbrev pub decreases-pieces : goal.decreases-pieces
decreases-pieces l = length l.bytes - l.spot.place
