-- What words ask for, worked out by hand.
use Rattle.std.proofs.Common.{◌≡◌, ℕ, refl, [], ◌∷◌, Option, Some, None, codes}
use Rattle.clap.proofs.OnLiterals.{clap_on_literals}
use Rattle.vx_command.specs.Command.{Compile, Rewriting, compile_app, compile_of, exec_app, exec_of, command_of}

abbrev turns : Option ℕ → Rewriting
turns unroll = record { unroll = unroll; inline = None; select = None }

plain : command_of (codes "vexc" ∷ codes "compile" ∷ codes "a.c" ∷ codes "b" ∷ []) ≡ Some (Compile (record { source = codes "a.c"; out = codes "b"; profile = None; machine = None; growth = 4000; rewriting = turns None; report = None }))
unfolding clap_on_literals compile_app compile_of
plain = refl

with_machine : command_of (codes "vexc" ∷ codes "compile" ∷ codes "--machine" ∷ codes "m" ∷ codes "a.c" ∷ codes "b" ∷ []) ≡ Some (Compile (record { source = codes "a.c"; out = codes "b"; profile = None; machine = Some (codes "m"); growth = 4000; rewriting = turns None; report = None }))
unfolding clap_on_literals compile_app compile_of
with_machine = refl

attached : command_of (codes "vexc" ∷ codes "compile" ∷ codes "a.c" ∷ codes "--machine=m" ∷ codes "b" ∷ []) ≡ Some (Compile (record { source = codes "a.c"; out = codes "b"; profile = None; machine = Some (codes "m"); growth = 4000; rewriting = turns None; report = None }))
unfolding clap_on_literals compile_app compile_of
attached = refl

twice : command_of (codes "vexc" ∷ codes "compile" ∷ codes "--machine=m" ∷ codes "a.c" ∷ codes "b" ∷ codes "--machine=m" ∷ []) ≡ None
unfolding clap_on_literals compile_app compile_of
twice = refl

no_out : command_of (codes "vexc" ∷ codes "compile" ∷ codes "a.c" ∷ []) ≡ None
unfolding clap_on_literals compile_app compile_of
no_out = refl

too_many : command_of (codes "vexc" ∷ codes "compile" ∷ codes "a.c" ∷ codes "b" ∷ codes "c" ∷ []) ≡ None
unfolding clap_on_literals compile_app compile_of
too_many = refl

help : command_of (codes "vexc" ∷ codes "compile" ∷ codes "a.c" ∷ codes "b" ∷ codes "--help" ∷ []) ≡ None
unfolding clap_on_literals compile_app compile_of
help = refl

unknown : command_of (codes "vexc" ∷ codes "compile" ∷ codes "a.c" ∷ codes "b" ∷ codes "--words" ∷ codes "1" ∷ []) ≡ None
unfolding clap_on_literals compile_app compile_of
unknown = refl

no_machine : command_of (codes "vexc" ∷ codes "compile" ∷ codes "a.c" ∷ codes "b" ∷ codes "--machine" ∷ []) ≡ None
unfolding clap_on_literals compile_app compile_of
no_machine = refl

no_growth_at_all : command_of (codes "vexc" ∷ codes "compile" ∷ codes "a.c" ∷ codes "b" ∷ codes "--growth" ∷ codes "0" ∷ []) ≡ Some (Compile (record { source = codes "a.c"; out = codes "b"; profile = None; machine = None; growth = 0; rewriting = turns None; report = None }))
unfolding clap_on_literals compile_app compile_of
no_growth_at_all = refl

most_growth : command_of (codes "vexc" ∷ codes "compile" ∷ codes "a.c" ∷ codes "b" ∷ codes "--growth=1000000" ∷ []) ≡ Some (Compile (record { source = codes "a.c"; out = codes "b"; profile = None; machine = None; growth = 1000000; rewriting = turns None; report = None }))
unfolding clap_on_literals compile_app compile_of
most_growth = refl

too_much_growth : command_of (codes "vexc" ∷ codes "compile" ∷ codes "a.c" ∷ codes "b" ∷ codes "--growth" ∷ codes "1000001" ∷ []) ≡ None
unfolding clap_on_literals compile_app compile_of
too_much_growth = refl

growth_of_no_number : command_of (codes "vexc" ∷ codes "compile" ∷ codes "a.c" ∷ codes "b" ∷ codes "--growth=-1" ∷ []) ≡ None
unfolding clap_on_literals compile_app compile_of
growth_of_no_number = refl

machine_and_growth : command_of (codes "vexc" ∷ codes "compile" ∷ codes "a.c" ∷ codes "b" ∷ codes "--growth" ∷ codes "12" ∷ codes "--machine" ∷ codes "m" ∷ []) ≡ Some (Compile (record { source = codes "a.c"; out = codes "b"; profile = None; machine = Some (codes "m"); growth = 12; rewriting = turns None; report = None }))
unfolding clap_on_literals compile_app compile_of
machine_and_growth = refl

growth_twice : command_of (codes "vexc" ∷ codes "compile" ∷ codes "a.c" ∷ codes "b" ∷ codes "--growth=1" ∷ codes "--growth=1" ∷ []) ≡ None
unfolding clap_on_literals compile_app compile_of
growth_twice = refl

with_profile : command_of (codes "vexc" ∷ codes "compile" ∷ codes "a.c" ∷ codes "b" ∷ codes "--machine=m" ∷ codes "--profile" ∷ codes "p" ∷ []) ≡ Some (Compile (record { source = codes "a.c"; out = codes "b"; profile = Some (codes "p"); machine = Some (codes "m"); growth = 4000; rewriting = turns None; report = None }))
unfolding clap_on_literals compile_app compile_of
with_profile = refl

profile_twice : command_of (codes "vexc" ∷ codes "compile" ∷ codes "a.c" ∷ codes "b" ∷ codes "--profile=p" ∷ codes "--profile=p" ∷ []) ≡ None
unfolding clap_on_literals compile_app compile_of
profile_twice = refl

with_report : command_of (codes "vexc" ∷ codes "compile" ∷ codes "--report" ∷ codes "r" ∷ codes "a.c" ∷ codes "b" ∷ []) ≡ Some (Compile (record { source = codes "a.c"; out = codes "b"; profile = None; machine = None; growth = 4000; rewriting = turns None; report = Some (codes "r") }))
unfolding clap_on_literals compile_app compile_of
with_report = refl

report_twice : command_of (codes "vexc" ∷ codes "compile" ∷ codes "a.c" ∷ codes "b" ∷ codes "--report=r" ∷ codes "--report=r" ∷ []) ≡ None
unfolding clap_on_literals compile_app compile_of
report_twice = refl

no_report_of_a_run : command_of (codes "vexc" ∷ codes "exec" ∷ codes "a.c" ∷ codes "--report=r" ∷ []) ≡ None
unfolding clap_on_literals exec_app exec_of
no_report_of_a_run = refl

some_turns : command_of (codes "vexc" ∷ codes "compile" ∷ codes "a.c" ∷ codes "b" ∷ codes "--unroll" ∷ codes "4" ∷ codes "--report=r" ∷ []) ≡ Some (Compile (record { source = codes "a.c"; out = codes "b"; profile = None; machine = None; growth = 4000; rewriting = turns (Some 4); report = Some (codes "r") }))
unfolding clap_on_literals compile_app compile_of
some_turns = refl

one_turn : command_of (codes "vexc" ∷ codes "compile" ∷ codes "a.c" ∷ codes "b" ∷ codes "--unroll" ∷ codes "1" ∷ []) ≡ None
unfolding clap_on_literals compile_app compile_of
one_turn = refl

too_many_turns : command_of (codes "vexc" ∷ codes "compile" ∷ codes "a.c" ∷ codes "b" ∷ codes "--unroll=9" ∷ []) ≡ None
unfolding clap_on_literals compile_app compile_of
too_many_turns = refl

turns_of_no_number : command_of (codes "vexc" ∷ codes "compile" ∷ codes "a.c" ∷ codes "b" ∷ codes "--unroll=x" ∷ []) ≡ None
unfolding clap_on_literals compile_app compile_of
turns_of_no_number = refl

turns_twice : command_of (codes "vexc" ∷ codes "compile" ∷ codes "a.c" ∷ codes "b" ∷ codes "--unroll=4" ∷ codes "--unroll=4" ∷ []) ≡ None
unfolding clap_on_literals compile_app compile_of
turns_twice = refl

abbrev asks : (unroll inline select : Option ℕ) → Rewriting
asks unroll inline select = record { unroll = unroll; inline = inline; select = select }

all_rewritings : command_of (codes "vexc" ∷ codes "compile" ∷ codes "--inline=200" ∷ codes "a.c" ∷ codes "--select" ∷ codes "8" ∷ codes "b" ∷ codes "--unroll=4" ∷ []) ≡
    Some (Compile (record { source = codes "a.c"; out = codes "b"; profile = None; machine = None; growth = 4000; rewriting = asks (Some 4) (Some 200) (Some 8); report = None }))
unfolding clap_on_literals compile_app compile_of
all_rewritings = refl

most_of_both : command_of (codes "vexc" ∷ codes "compile" ∷ codes "a.c" ∷ codes "b" ∷ codes "--inline=4000" ∷ codes "--select=16" ∷ []) ≡
    Some (Compile (record { source = codes "a.c"; out = codes "b"; profile = None; machine = None; growth = 4000; rewriting = asks None (Some 4000) (Some 16); report = None }))
unfolding clap_on_literals compile_app compile_of
most_of_both = refl

no_choice : command_of (codes "vexc" ∷ codes "compile" ∷ codes "a.c" ∷ codes "b" ∷ codes "--select=0" ∷ []) ≡ None
unfolding clap_on_literals compile_app compile_of
no_choice = refl

too_many_choices : command_of (codes "vexc" ∷ codes "compile" ∷ codes "a.c" ∷ codes "b" ∷ codes "--select=17" ∷ []) ≡ None
unfolding clap_on_literals compile_app compile_of
too_many_choices = refl

no_callee : command_of (codes "vexc" ∷ codes "compile" ∷ codes "a.c" ∷ codes "b" ∷ codes "--inline=0" ∷ []) ≡ None
unfolding clap_on_literals compile_app compile_of
no_callee = refl

too_large_a_callee : command_of (codes "vexc" ∷ codes "compile" ∷ codes "a.c" ∷ codes "b" ∷ codes "--inline=4001" ∷ []) ≡ None
unfolding clap_on_literals compile_app compile_of
too_large_a_callee = refl

another : command_of (codes "vexc" ∷ codes "run" ∷ codes "a.c" ∷ codes "b" ∷ []) ≡ None
another = refl
