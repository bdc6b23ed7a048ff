-- The answers of `exec` and `soak` from those of their boxes, and of words that are refused.
use Rattle.std.proofs.Common.{◌≡◌, ◌⊎◌, inl, inr, List, [], Option, Some, None, refl, sym, subst}
use Rattle.std.specs.Prelude.{codes}
use Rattle.vx_probe.specs.Times.{Times}
use Rattle.vx_probe.specs.Watch.{Watch}
use Rattle.vx_status.specs.declared.status.Status.{Status}
use Rattle.vx_status.specs.declared.status.Status.TheVariants.{Usage, NoMemory}
use Rattle.vx_command.specs.Command.{Command, Compile, Simulate, Execute, Count, Soak, Check, Execution, Soaking}
use Rattle.vx_files.specs.Effects.{Effect, SameFiles}
use Rattle.vx_runs.specs.Boxes.{Boxes, Chosen, chosen, timing_named, probes_named}
use Rattle.vx_runs.specs.Simulated.{Streams}
use Rattle.vx_commands.specs.Executed.{ExecAnswers, ExecutionAnswers}
use Rattle.vx_commands.specs.Soaked.{SoakAnswers, SoakedAnswers}
use Rattle.vx_commands.specs.Commands.{Answers}
use Rattle.vx_runs.proofs.Runs.{memory_boxes, without_timing, without_probes, with_boxes, no_memory_answers}

execution_memory : (asked : Execution) (e : Effect) (s : Streams) (status : Status) → status ≡ NoMemory → (these : Chosen) → ExecutionAnswers asked e s status these
execution_memory asked e s status is these = subst (λ t. ExecutionAnswers asked e s t these) (sym is) tt

module _ (asked : Execution) (boxes : Boxes) (e : Effect) (s : Streams) (status : Status) (same : SameFiles e) where
  pub exec_no_timing : None ≡ timing_named asked.timing boxes.timings → status ≡ Usage → ExecAnswers asked boxes e s status
  exec_no_timing none is = (same, without_timing (ExecutionAnswers asked e s status) status asked.timing asked.probe boxes none is)

  pub exec_no_probes : ((status ≡ NoMemory) ⊎ ((status ≡ Usage) × (probes_named asked.probe boxes.probes ≡ None))) → ExecAnswers asked boxes e s status
  exec_no_probes why = (same, without_probes (ExecutionAnswers asked e s status) status asked.timing asked.probe boxes why (execution_memory asked e s status))

  pub exec_boxes_there : (times : Times) (watches : List Watch) → Some times ≡ timing_named asked.timing boxes.timings → probes_named asked.probe boxes.probes ≡ Some watches →
      ExecutionAnswers asked e s status (record { times = times; watches = watches }) → ExecAnswers asked boxes e s status
  exec_boxes_there times watches timing probes a = (same, with_boxes (ExecutionAnswers asked e s status) status asked.timing asked.probe boxes times watches timing probes a)

  pub exec_no_memory : status ≡ NoMemory → ExecAnswers asked boxes e s status
  exec_no_memory is = (same, memory_boxes (ExecutionAnswers asked e s status) status (chosen asked.timing asked.probe boxes) is (execution_memory asked e s status is))

soak_memory : (asked : Soaking) (s : Streams) (status : Status) → status ≡ NoMemory → (these : Chosen) → SoakedAnswers asked s status these
soak_memory asked s status is these = subst (λ t. SoakedAnswers asked s t these) (sym is) tt

module _ (asked : Soaking) (boxes : Boxes) (e : Effect) (s : Streams) (status : Status) (same : SameFiles e) where
  pub soak_no_timing : None ≡ timing_named (codes "late") boxes.timings → status ≡ Usage → SoakAnswers asked boxes e s status
  soak_no_timing none is = (same, without_timing (SoakedAnswers asked s status) status (codes "late") None boxes none is)

  pub soak_timing_there : (times : Times) → Some times ≡ timing_named (codes "late") boxes.timings → SoakedAnswers asked s status (record { times = times; watches = [] }) → SoakAnswers asked boxes e s status
  soak_timing_there times timing a = (same, with_boxes (SoakedAnswers asked s status) status (codes "late") None boxes times [] timing refl a)

  pub soak_no_memory : status ≡ NoMemory → SoakAnswers asked boxes e s status
  soak_no_memory is = (same, memory_boxes (SoakedAnswers asked s status) status (chosen (codes "late") None boxes) is (soak_memory asked s status is))

-- words that are refused

pub refused_answers : (command : Option Command) (boxes : Boxes) (e : Effect) (s : Streams) (status : Status) → SameFiles e → ((status ≡ NoMemory) ⊎ ((status ≡ Usage) × (command ≡ None))) →
    Answers command boxes e s status
refused_answers None boxes e s status same (inl memory) = (inr memory, same)
refused_answers None boxes e s status same (inr usage) = (inl usage.0, same)
refused_answers (Some (Compile asked)) boxes e s status same (inl memory) = subst (Answers (Some (Compile asked)) boxes e s) (sym memory) (inl same)
refused_answers (Some (Compile asked)) boxes e s status same (inr usage) = let none = usage.1 in absurd cc
refused_answers (Some (Simulate asked)) boxes e s status same (inl memory) = no_memory_answers asked boxes e s status same memory
refused_answers (Some (Simulate asked)) boxes e s status same (inr usage) = let none = usage.1 in absurd cc
refused_answers (Some (Execute asked)) boxes e s status same (inl memory) = exec_no_memory asked boxes e s status same memory
refused_answers (Some (Execute asked)) boxes e s status same (inr usage) = let none = usage.1 in absurd cc
refused_answers (Some (Count asked)) boxes e s status same (inl memory) = subst (Answers (Some (Count asked)) boxes e s) (sym memory) (same, tt)
refused_answers (Some (Count asked)) boxes e s status same (inr usage) = let none = usage.1 in absurd cc
refused_answers (Some (Soak asked)) boxes e s status same (inl memory) = soak_no_memory asked boxes e s status same memory
refused_answers (Some (Soak asked)) boxes e s status same (inr usage) = let none = usage.1 in absurd cc
refused_answers (Some (Check asked)) boxes e s status same (inl memory) = subst (Answers (Some (Check asked)) boxes e s) (sym memory) (same, tt)
refused_answers (Some (Check asked)) boxes e s status same (inr usage) = let none = usage.1 in absurd cc
