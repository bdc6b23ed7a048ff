-- The machine of the description that is named.
use Rattle.std.proofs.Common.{◌≡◌, IfOk, IfSome, option_map, sym, subst}
use Rattle.vx_files.specs.Held.{machine_found, Is}
use Rattle.vx_files.proofs.machines.machine_for.Goals as goal

pub returns-in-Some-clause-machine : goal.returns-in-Some-clause-machine
returns-in-Some-clause-machine g c =
    subst (λ name. IfOk c.read_machine.result (λ machine. IfSome (g.D.Depot.files c.args.depot.now) (λ held. machine_found held (option_map (λ s. s.now) name) ≡ Is machine))) (sym c.in-Some.is) c.read_machine.ensures.machine
