use Rattle.std.proofs.Common.{length, slice_index_or, ap, ◌∙◌}
use Rattle.vx_calls.proofs.Globals.{begins, begins_each}
use Rattle.vx_calls.proofs.addresses.addresses_of.Goals as goal

pub returns-clause-each : goal.returns-clause-each
returns-clause-each c = ap length c.in_ok-addresses.ensures.begins ∙ begins_each 0 c.args.globals.now

pub returns-clause-begins : goal.returns-clause-begins
returns-clause-begins c = λ a h. ap (λ xs. slice_index_or xs a 0) c.in_ok-addresses.ensures.begins ∙ begins c.args.globals.now a h
