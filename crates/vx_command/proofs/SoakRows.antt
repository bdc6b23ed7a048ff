-- Words of `soak`, worked out by hand.
use Rattle.std.proofs.Common.{◌≡◌, refl, [], ◌∷◌, Some, None, codes}
use Rattle.clap.proofs.OnLiterals.{clap_on_literals}
use Rattle.vx_command.specs.Command.{Soak, soak_app, soak_of, command_of}

plain : command_of (codes "vexc" ∷ codes "soak" ∷ codes "7" ∷ codes "2000" ∷ []) ≡ Some (Soak (record { seed = 7; size = 2000 }))
unfolding clap_on_literals soak_app soak_of
plain = refl

least : command_of (codes "vexc" ∷ codes "soak" ∷ codes "0" ∷ codes "1" ∷ []) ≡ Some (Soak (record { seed = 0; size = 1 }))
unfolding clap_on_literals soak_app soak_of
least = refl

greatest : command_of (codes "vexc" ∷ codes "soak" ∷ codes "1000000000" ∷ codes "10000" ∷ []) ≡ Some (Soak (record { seed = 1000000000; size = 10000 }))
unfolding clap_on_literals soak_app soak_of
greatest = refl

no_size : command_of (codes "vexc" ∷ codes "soak" ∷ codes "7" ∷ []) ≡ None
unfolding clap_on_literals soak_app soak_of
no_size = refl

no_words : command_of (codes "vexc" ∷ codes "soak" ∷ []) ≡ None
unfolding clap_on_literals soak_app soak_of
no_words = refl

three_words : command_of (codes "vexc" ∷ codes "soak" ∷ codes "7" ∷ codes "8" ∷ codes "9" ∷ []) ≡ None
unfolding clap_on_literals soak_app soak_of
three_words = refl

seed_too_large : command_of (codes "vexc" ∷ codes "soak" ∷ codes "1000000001" ∷ codes "1" ∷ []) ≡ None
unfolding clap_on_literals soak_app soak_of
seed_too_large = refl

size_of_none : command_of (codes "vexc" ∷ codes "soak" ∷ codes "7" ∷ codes "0" ∷ []) ≡ None
unfolding clap_on_literals soak_app soak_of
size_of_none = refl

size_too_large : command_of (codes "vexc" ∷ codes "soak" ∷ codes "7" ∷ codes "10001" ∷ []) ≡ None
unfolding clap_on_literals soak_app soak_of
size_too_large = refl

no_turns : command_of (codes "vexc" ∷ codes "soak" ∷ codes "7" ∷ codes "2000" ∷ codes "--unroll=4" ∷ []) ≡ None
unfolding clap_on_literals soak_app soak_of
no_turns = refl
