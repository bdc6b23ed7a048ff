-- The timing is there, or it is not and its name is told.
use Rattle.std.proofs.Common.{refl}
use Rattle.vx_commands.proofs.Performing.{soak_performed, soak_without_timing}
use Rattle.vx_commands.proofs.soak.soak.Goals as goal

pub returns-in-Some : goal.returns-in-Some
returns-in-Some g c = λ e probes reads.
    let done = c.soak_with.ensures in
    soak_performed _ _ e _ _ reads _ c.in-Some.ensures done.answers done.tells done.nothing done.adds done.out_never_falls

pub returns-in-None : goal.returns-in-None
returns-in-None g c = λ e probes reads. soak_without_timing _ _ e _ _ reads refl refl c.in-None.ensures c.no_box.ensures.usage c.no_box.ensures.line c.no_box.ensures.adds
