use Rattle.std.proofs.Common.{◌≡◌, drop}
use Rattle.vx_ast.specs.Accepted.{over, formats_of}
use Rattle.vx_ast.specs.View.{all_in}
use Rattle.vx_limits.specs.Capped.{lengths_of}
use Rattle.vx_limits.proofs.limits.+formats.Given as goal

abbrev pub invariant-long_format_in-loop-statement : goal.invariant-long_format_in-loop-statement
invariant-long_format_in-loop-statement l = over 8 4096 (lengths_of (formats_of (all_in (drop l.statement-index l.fn.all)))) ≡ over 8 4096 (lengths_of (formats_of (all_in l.fn.all)))
