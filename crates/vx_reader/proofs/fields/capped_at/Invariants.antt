use Rattle.std.proofs.Common.{◌≡◌, ◌≤◌, drop}
use Rattle.vx_reader.specs.Fields.{number_from}
use Rattle.vx_reader.proofs.fields.capped_at.Given as goal

abbrev pub invariant-loop-place : goal.invariant-loop-place
invariant-loop-place l = record {
  bound : l.value ≤ l.most;
  same : number_from l.most l.value (drop l.place l.text) ≡ number_from l.most 0 l.text;
}
