-- the bytes read so far, and those of the rest, are those of the whole string
use Rattle.std.proofs.Common.{◌≡◌, ◌++◌, drop, false}
use Rattle.vx_ast.specs.Tokens.{escapes_read}
use Rattle.vx_lex.proofs.quoted.escapes_read.Given as goal

abbrev pub invariant-loop-byte : goal.invariant-loop-byte
invariant-loop-byte l = l.bytes ++ escapes_read l.escaped (drop l.byte-index l.inner) ≡ escapes_read false l.inner
