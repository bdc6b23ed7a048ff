-- What words ask for, worked out by hand.
use Rattle.std.proofs.Common.{◌≡◌, ℕ, refl, [], ◌∷◌, Option, Some, None, codes}
use Rattle.clap.proofs.OnLiterals.{clap_on_literals}
use Rattle.vx_command.specs.Command.{Execute, Rewriting, exec_app, exec_of, command_of}

abbrev turns : Option ℕ → Rewriting
turns unroll = record { unroll = unroll; inline = None; select = None }

plain : command_of (codes "vexc" ∷ codes "exec" ∷ codes "a.c" ∷ []) ≡
    Some (Execute (record { source = codes "a.c"; growth = 4000; rewriting = turns None; profile = None; machine = None; input = None; budget = 1000000000; timing = codes "late"; probe = None }))
unfolding clap_on_literals exec_app exec_of
plain = refl

with_all : command_of (codes "vexc" ∷ codes "exec" ∷ codes "--machine=m" ∷ codes "--input" ∷ codes "i" ∷ codes "a.c" ∷ codes "--words=7" ∷ codes "--timing=early" ∷ codes "--probe=words" ∷ []) ≡
    Some (Execute (record { source = codes "a.c"; growth = 4000; rewriting = turns None; profile = None; machine = Some (codes "m"); input = Some (codes "i"); budget = 7; timing = codes "early"; probe = Some (codes "words") }))
unfolding clap_on_literals exec_app exec_of
with_all = refl

no_source : command_of (codes "vexc" ∷ codes "exec" ∷ codes "--words=7" ∷ []) ≡ None
unfolding clap_on_literals exec_app exec_of
no_source = refl

no_words : command_of (codes "vexc" ∷ codes "exec" ∷ codes "a.c" ∷ codes "--words" ∷ codes "0" ∷ []) ≡ None
unfolding clap_on_literals exec_app exec_of
no_words = refl

some_growth : command_of (codes "vexc" ∷ codes "exec" ∷ codes "a.c" ∷ codes "--growth" ∷ codes "7" ∷ []) ≡
    Some (Execute (record { source = codes "a.c"; growth = 7; rewriting = turns None; profile = None; machine = None; input = None; budget = 1000000000; timing = codes "late"; probe = None }))
unfolding clap_on_literals exec_app exec_of
some_growth = refl

some_profile : command_of (codes "vexc" ∷ codes "exec" ∷ codes "--profile" ∷ codes "p" ∷ codes "a.c" ∷ []) ≡
    Some (Execute (record { source = codes "a.c"; growth = 4000; rewriting = turns None; profile = Some (codes "p"); machine = None; input = None; budget = 1000000000; timing = codes "late"; probe = None }))
unfolding clap_on_literals exec_app exec_of
some_profile = refl

too_much_growth : command_of (codes "vexc" ∷ codes "exec" ∷ codes "a.c" ∷ codes "--growth=1000001" ∷ []) ≡ None
unfolding clap_on_literals exec_app exec_of
too_much_growth = refl

some_turns : command_of (codes "vexc" ∷ codes "exec" ∷ codes "a.c" ∷ codes "--unroll=2" ∷ codes "--input=i" ∷ []) ≡
    Some (Execute (record { source = codes "a.c"; growth = 4000; rewriting = turns (Some 2); profile = None; machine = None; input = Some (codes "i"); budget = 1000000000; timing = codes "late"; probe = None }))
unfolding clap_on_literals exec_app exec_of
some_turns = refl

too_many_turns : command_of (codes "vexc" ∷ codes "exec" ∷ codes "a.c" ∷ codes "--unroll" ∷ codes "9" ∷ []) ≡ None
unfolding clap_on_literals exec_app exec_of
too_many_turns = refl

turns_of_no_number : command_of (codes "vexc" ∷ codes "exec" ∷ codes "a.c" ∷ codes "--unroll" ∷ codes "x" ∷ []) ≡ None
unfolding clap_on_literals exec_app exec_of
turns_of_no_number = refl

calls_inlined : command_of (codes "vexc" ∷ codes "exec" ∷ codes "a.c" ∷ codes "--inline" ∷ codes "200" ∷ []) ≡
    Some (Execute (record { source = codes "a.c"; growth = 4000; rewriting = record { unroll = None; inline = Some 200; select = None }; profile = None; machine = None; input = None; budget = 1000000000; timing = codes "late"; probe = None }))
unfolding clap_on_literals exec_app exec_of
calls_inlined = refl
