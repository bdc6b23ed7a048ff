-- The run of `soak` and its line: how much there was of everything.
use Rattle.std.specs.Prelude.{◌≡◌, ◌%◌, ◌^◌, ℕ, ℤ, Bool, true, false, List, [], ◌∷◌, ◌++◌, length, codes}
use Rattle.std.specs.List.{sum_by}
use Rattle.vx_io.specs.Outside.{PutsFront, with_bytes}
use Rattle.vx_base.specs.declared.outcome.Trap.{Trap}
use Rattle.vx_probe.specs.Times.{Times}
use Rattle.vx_sim.specs.Ran.{outcome_of}
use Rattle.vx_sim.specs.declared.ended.Ended.{Ended}
use Rattle.vx_sim.specs.declared.ended.Ended.TheVariants.{Halted, Trapped as TrappedBy, Stopped as StoppedAt}
use Rattle.vx_runs.specs.declared.soak_run.ProgramSizes.{ProgramSizes}
use Rattle.vx_status.specs.Status.{counted}
use Rattle.vx_status.specs.declared.status.Status.{Status}
use Rattle.vx_status.specs.declared.status.Status.TheVariants.{Done, Trapped, WriteFault, Stopped, NoMemory}
use Rattle.vx_runs.specs.Simulated.{Loaded, Streams, OutRose, outcome_within, events_within}

-- the most words that are issued
abbrev pub soak_budget : ℕ
soak_budget = 100000000

-- the sum of some bytes, modulo 2 ^ 32
abbrev pub byte_sum : List ℕ → ℕ
byte_sum bytes = sum_by (λ b. b) bytes % 2 ^ 32

abbrev pub summary : (functions blocks traces words copies sum issued : ℕ) → List ℕ
summary functions blocks traces words copies sum issued =
    counted (codes "functions ") functions ++ counted (codes " blocks ") blocks ++ counted (codes " traces ") traces
    ++ counted (codes " words ") words ++ counted (codes " copies ") copies ++ counted (codes " sum ") sum ++ counted (codes " issued ") issued ++ 10 ∷ []

-- only the line is put on the output
abbrev pub puts_summary : Status → Bool
puts_summary Done = true
puts_summary WriteFault = true
puts_summary status = false

-- the run of some words within the budget ends so, with so many words issued and this sum of the bytes of its output
pub record RunEndsSo (x : Loaded) (times : Times) (ended : Ended) (issued sum : ℕ) : Type 0 where
  pub out : List ℕ
  pub outcome : outcome_within x times soak_budget ≡ outcome_of ended out
  pub issued_is : issued ≡ length (events_within x times soak_budget)
  pub sum_is : sum ≡ byte_sum out

abbrev pub line_of : ProgramSizes → (sum issued : ℕ) → List ℕ
line_of sizes sum issued = summary sizes.functions sizes.blocks sizes.traces sizes.words sizes.copies sum issued

-- what is put of an end: the line of one with a result, whole or a front of it, and of any other nothing
pub data PutsEnd (ended : Ended) (line : List ℕ) (s : Streams) (status : Status) : Type 0 where
  whole : (z : ℤ) → ended ≡ Halted z → status ≡ Done → s.out_after ≡ with_bytes s.out_before line → s.err_after ≡ s.err_before → PutsEnd ended line s status
  cut : (z : ℤ) → ended ≡ Halted z → status ≡ WriteFault → OutRose s → PutsFront s.out_before s.out_after line → PutsEnd ended line s status
  trapped : (trap : Trap) → ended ≡ TrappedBy trap → status ≡ Trapped trap → PutsEnd ended line s status
  stopped : ended ≡ StoppedAt → status ≡ Stopped → PutsEnd ended line s status
  no_memory : status ≡ NoMemory → PutsEnd ended line s status
