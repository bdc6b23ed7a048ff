use Rattle.std.proofs.Common.{◌≡◌, drop, if◌then◌else◌}
use Rattle.vx_ast.specs.Accepted.{is_format, is_directive}
use Rattle.vx_types.proofs.formats.is_format.Given as goal

abbrev pub invariant-loop-byte : goal.invariant-loop-byte
invariant-loop-byte l = (if l.directive then is_directive (drop l.byte-index l.fn.format) else is_format (drop l.byte-index l.fn.format)) ≡ is_format l.fn.format
