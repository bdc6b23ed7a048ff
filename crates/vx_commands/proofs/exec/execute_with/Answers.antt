-- The boxes are there, or they are not and the name is told.
use Rattle.std.proofs.Common.{refl}
use Rattle.vx_runs.proofs.Picking.{some_wanted}
use Rattle.vx_commands.proofs.Performing.{execution_with, execution_without_probes, execution_without_timing}
use Rattle.vx_commands.proofs.exec.execute_with.Goals as goal

pub returns-in-None : goal.returns-in-None
returns-in-None g c = execution_without_timing _ _ _ _ _ (record { files = refl; reads = refl; replaces = refl; output = refl; faults = refl }) c.in-None.ensures c.no_box.ensures.usage c.no_box.ensures.line c.no_box.ensures.adds

pub returns-in-Ok : goal.returns-in-Ok
returns-in-Ok g c = execution_with _ _ _ _ _ _ _ c.in-Some.ensures c.in-Ok.ensures.picked c.execute.ensures

pub returns-in-Err : goal.returns-in-Err
returns-in-Err g c = execution_without_probes _ _ _ _ _ _ (record { files = refl; reads = refl; replaces = refl; output = refl; faults = refl }) c.in-Some.ensures (rw c.no_probe.ensures.same c.in-Err.ensures.missing) c.no_probe.ensures.line c.no_probe.ensures.adds

pub execute-requires : goal.execute-requires
execute-requires g c = record { wanted = some_wanted _ c.args.asked.now.run.probe _ _ c.in-Ok.probes.items c.in-Ok.ensures.picked }
