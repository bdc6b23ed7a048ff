-- Lines of statuses, as docs/FORMATS.md has them.
use Rattle.std.proofs.Common.{◌≡◌, refl}
use Rattle.std.specs.Fmt.{digits}
use Rattle.std.specs.Prelude.{codes}
use Rattle.vx_base.specs.declared.outcome.Reason.TheVariants.{Overfull}
use Rattle.vx_base.specs.declared.outcome.Trap.TheVariants.{Divide}
use Rattle.vx_io.specs.declared.role.Role.TheVariants.{Profile as TheProfile, Source as TheSource}
use Rattle.vx_machine.specs.Descriptions.{names}
use Rattle.vx_status.specs.declared.status.Breach.TheVariants.{Unfit, Pending}
use Rattle.vx_status.specs.declared.status.Status.TheVariants.{Trapped, Source, Limit, Words, Profile, Machine, NoFile, ReadFault, Input, Stuck, NotStrict}
use Rattle.vx_status.specs.Status.{no_box_line, status_line}

of_a_trap : status_line (Trapped Divide) ≡ codes "trap 1 divide\n"
of_a_trap = refl

of_a_source : status_line (Source 4 3 7) ≡ codes "source S4 at 3:7\n"
unfolding digits
of_a_source = refl

of_a_limit : status_line (Limit 5 4001) ≡ codes "limit L5 at 4001\n"
unfolding digits
of_a_limit = refl

of_words : status_line (Words 3 3) ≡ codes "words V3 at line 3\n"
unfolding digits
of_words = refl

of_a_profile : status_line (Profile 1 2) ≡ codes "profile P1 at line 2\n"
unfolding digits
of_a_profile = refl

of_a_machine : status_line (Machine 3 2) ≡ codes "machine M3 issue\n"
unfolding digits names
of_a_machine = refl

of_a_machine_of_three_branches : status_line (Machine 3 17) ≡ codes "machine M3 branches\n"
unfolding digits names
of_a_machine_of_three_branches = refl

of_a_machine_without_a_field : status_line (Machine 1 0) ≡ codes "machine M1\n"
unfolding digits
of_a_machine_without_a_field = refl

of_no_file : status_line (NoFile TheProfile) ≡ codes "no file profile\n"
of_no_file = refl

of_a_read_fault : status_line (ReadFault TheSource) ≡ codes "read fault source\n"
of_a_read_fault = refl

of_an_input : status_line (Input 3) ≡ codes "input at 3\n"
unfolding digits
of_an_input = refl

of_a_stuck_run : status_line (Stuck Overfull 0) ≡ codes "stuck overfull at word 0\n"
unfolding digits
of_a_stuck_run = refl

of_an_unfit_word : status_line (NotStrict Unfit 0) ≡ codes "unfit at word 0\n"
unfolding digits
of_an_unfit_word = refl

of_a_pending_word : status_line (NotStrict Pending 2) ≡ codes "pending at word 2\n"
unfolding digits
of_a_pending_word = refl

of_no_box : no_box_line (codes "late") ≡ codes "no box late\n"
of_no_box = refl
