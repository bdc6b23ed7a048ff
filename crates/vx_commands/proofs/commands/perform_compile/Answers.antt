-- What the words ask for is done, or they are refused.
use Rattle.std.proofs.Common.{refl, rules}
use Rattle.vx_commands.proofs.Performing.{performed_of, performed_refused}
use Rattle.vx_commands.proofs.commands.perform_compile.Goals as goal

pub returns-in-Ok : goal.returns-in-Ok
returns-in-Ok g c = λ boxes told faults.
    performed_of _ boxes _ _ _ _ c.in-Ok.ensures.asked (record {
      answers = rw c.tell.ensures.same c.compile-status.ensures.answers;
      line = c.tell.ensures.tells;
      nothing = λ none. refl;
      adds = c.tell.ensures.adds;
      reads_never_fall = c.compile-status.ensures.reads_never_fall;
      replaces_never_fall = c.compile-status.ensures.replaces_never_fall;
      out_never_falls = search rules;
    })

pub returns-in-Err : goal.returns-in-Err
returns-in-Err g c = λ boxes told faults. performed_refused _ boxes _ _ _ (record { files = refl; reads = refl; replaces = refl; output = refl; faults = refl }) (rw c.refuse.ensures.same c.in-Err.ensures.refused) c.refuse.ensures.tells c.refuse.ensures.adds
