use Rattle.std.proofs.Common.{◌≡◌, ◌++◌, drop}
use Rattle.vx_reader.specs.declared.quoted.Escape.TheVariants.{Plain}
use Rattle.vx_reader.specs.Steps.{unquoted_from, IsDigitValue}
use Rattle.vx_reader.proofs.quoted.unquoted_bytes.Given as goal

abbrev pub invariant-loop-byte : goal.invariant-loop-byte
invariant-loop-byte l = record {
  digit : IsDigitValue l.escape;
  rest : l.out.items ++ unquoted_from l.escape (drop l.byte-index l.text) ≡ unquoted_from Plain l.text;
}
