-- The output of the word machine only grows, so its runs are steady.
use Rattle.std.proofs.Common.{◌≡◌, ℕ, zero, suc, List, Option, Some, None, refl, subst}
use Rattle.std.specs.Prelude.{slice_get}
use Rattle.std.specs.List.{flat_map}
use Rattle.vx_base.specs.Outcome.{output_of, Begins, Step, On, Over}
use Rattle.vx_base.specs.declared.outcome.Reason.{Reason}
use Rattle.vx_base.proofs.Same.{begins_self}
use Rattle.vx_base.proofs.Runs.{Grows, run_steady}
use Rattle.vx_isa.specs.declared.program.Word.{Word}
use Rattle.vx_isa.specs.declared.program.WordProgram.{WordProgram}
use Rattle.vx_isa.specs.Numbers.{Numbers}
use Rattle.vx_isa.specs.Machine.{State, Lead, To, Halts, TrapsBy, after_cycles, print_of, cycles_of, effect, leads_to, unless_stuck, issue, step, start, issuing_machine, lead_of, stuck_by}
use Rattle.vx_isa.specs.Steady.{WordsAreSteady}

pub after_cycles_out : (n : ℕ) (s : State) → (after_cycles n s).out ≡ s.out
after_cycles_out zero s = refl
after_cycles_out (suc n) s = after_cycles_out n _

-- what a step comes to begins with this output
abbrev pub GoesOn : List ℕ → Step State → Type 0
GoesOn out (On t) = Begins out t.out
GoesOn out (Over o) = Begins out (output_of o)

lead_goes_on : (out : List ℕ) (l : Lead) (s : State) → Begins out s.out → GoesOn out (leads_to l s)
lead_goes_on out (To p) s b = b
lead_goes_on out (Halts z) s b = b
lead_goes_on out (TrapsBy k) s b = b

unless_stuck_goes_on : (why : Option Reason) (s : State) (x : Step State) → GoesOn s.out x → GoesOn s.out (unless_stuck why s x)
unless_stuck_goes_on (Some why) s x g = begins_self s.out
unless_stuck_goes_on None s x g = g

module _ (m : Numbers) (times : List ℕ) (w : WordProgram) where
  effect_begins : (s : State) (word : Word) → Begins s.out (effect m times w s word).out
  effect_begins s word = record { rest = flat_map (print_of w s) word.ops; is = after_cycles_out (cycles_of word) _ }

  issue_goes_on : (s : State) (word : Option Word) → GoesOn s.out (issue m times w s word)
  issue_goes_on s None = begins_self s.out
  issue_goes_on s (Some word) =
      unless_stuck_goes_on (stuck_by m w s word.ops) s _ (lead_goes_on s.out (lead_of s word.ops) (effect m times w s word) (effect_begins s word))

  pub step_goes_on : (s : State) → GoesOn s.out (step m times w s)
  step_goes_on s = issue_goes_on s (slice_get w.words s.place)

  pub output_grows : Grows (step m times w) (λ t. t.out)
  output_grows = record {
    on = λ s t e. subst (GoesOn s.out) e (step_goes_on s);
    over = λ s o e. subst (GoesOn s.out) e (step_goes_on s);
  }

pub words_are_steady : WordsAreSteady
words_are_steady m times w input = run_steady (step (issuing_machine w m) times w) (λ t. t.out) (output_grows (issuing_machine w m) times w) (start w input)
