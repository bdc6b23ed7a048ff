-- What the words ask for is done, or they are refused.
use Rattle.std.proofs.Common.{refl}
use Rattle.vx_commands.proofs.Performing.{performed_of, performed_refused}
use Rattle.vx_commands.proofs.commands.perform_check.Goals as goal

pub returns-in-Ok : goal.returns-in-Ok
returns-in-Ok g c = λ boxes.
    let done = c.check_with.ensures in
    performed_of _ boxes _ _ _ _ c.in-Ok.ensures.asked (record {
      answers = done.answers;
      line = done.line;
      nothing = done.nothing;
      adds = done.adds;
      reads_never_fall = done.reads_never_fall;
      replaces_never_fall = done.replaces_never_fall;
      out_never_falls = done.out_never_falls;
    })

pub returns-in-Err : goal.returns-in-Err
returns-in-Err g c = λ boxes. performed_refused _ boxes _ _ _ (record { files = refl; reads = refl; replaces = refl; output = refl; faults = refl }) (rw c.refuse.ensures.same c.in-Err.ensures.refused) c.refuse.ensures.tells c.refuse.ensures.adds
