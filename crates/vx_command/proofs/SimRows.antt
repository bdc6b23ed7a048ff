-- What words ask for, worked out by hand.
use Rattle.std.proofs.Common.{◌≡◌, refl, [], ◌∷◌, Some, None, codes}
use Rattle.clap.proofs.OnLiterals.{clap_on_literals}
use Rattle.vx_command.specs.Command.{Simulate, sim_app, sim_of, command_of}

plain : command_of (codes "vexc" ∷ codes "sim" ∷ codes "w" ∷ []) ≡
    Some (Simulate (record { words = codes "w"; machine = None; input = None; budget = 1000000000; timing = codes "late"; probe = None }))
unfolding clap_on_literals sim_app sim_of
plain = refl

limited : command_of (codes "vexc" ∷ codes "sim" ∷ codes "--words=3" ∷ codes "w" ∷ codes "--timing" ∷ codes "early" ∷ []) ≡
    Some (Simulate (record { words = codes "w"; machine = None; input = None; budget = 3; timing = codes "early"; probe = None }))
unfolding clap_on_literals sim_app sim_of
limited = refl

no_word_at_all : command_of (codes "vexc" ∷ codes "sim" ∷ codes "w" ∷ codes "--words" ∷ codes "0" ∷ []) ≡ None
unfolding clap_on_literals sim_app sim_of
no_word_at_all = refl

no_growth : command_of (codes "vexc" ∷ codes "sim" ∷ codes "w" ∷ codes "--growth" ∷ codes "1" ∷ []) ≡ None
unfolding clap_on_literals sim_app sim_of
no_growth = refl

no_profile : command_of (codes "vexc" ∷ codes "sim" ∷ codes "w" ∷ codes "--profile" ∷ codes "p" ∷ []) ≡ None
unfolding clap_on_literals sim_app sim_of
no_profile = refl

no_turns : command_of (codes "vexc" ∷ codes "sim" ∷ codes "w" ∷ codes "--unroll=4" ∷ []) ≡ None
unfolding clap_on_literals sim_app sim_of
no_turns = refl
