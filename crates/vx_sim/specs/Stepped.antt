-- What one step of the simulator leaves: the step of the word machine from where the simulator stands.
use Rattle.std.specs.Prelude.{◌≡◌, ℕ, ◌+◌, ◌-◌, Bool, true, false, List, [], Option, Some, None, map}
use Rattle.vx_base.specs.Outcome.{Outcome, Ends, Traps, Stuck, Step, On, Over}
use Rattle.vx_io.specs.Outside.{with_bytes, PutsFront}
use Rattle.vx_isa.specs.declared.program.WordProgram.{WordProgram}
use Rattle.vx_isa.specs.Numbers.{Numbers}
use Rattle.vx_isa.specs.Machine.{State, step}
use Rattle.vx_probe.specs.Times.{Times, list_of, moved_by}
use Rattle.vx_probe.specs.Watch.{Watch, shown}
use Rattle.vx_sim.specs.Passed.{Taken, taken, counted}
use Rattle.vx_sim.specs.Standing.{rested}
use Rattle.vx_sim.specs.declared.ended.Ended.{Ended}
use Rattle.vx_sim.specs.declared.ended.Ended.TheVariants.{Halted, Trapped, Stopped, Stuck as StuckAt, SinkFault}
use Rattle.vx_sim.specs.declared.leads.Lead.{Lead}
use Rattle.vx_sim.specs.declared.leads.Lead.TheVariants.{To, Halts, TrapsBy}

-- where a word that leads so leaves the machine
abbrev pub leads_by : Lead → State → Step State
leads_by (To p) s = On s
leads_by (Halts z) s = Over (Ends z s.out)
leads_by (TrapsBy k) s = Over (Traps k s.out)

-- how the program ended by it, if it did
abbrev pub ended_as : Lead → Option Ended
ended_as (To p) = None
ended_as (Halts z) = Some (Halted z)
ended_as (TrapsBy k) = Some (Trapped k)

abbrev pub is_fault_of : Option Ended → Bool
is_fault_of (Some SinkFault) = true
is_fault_of ended = false

module _ (m : Numbers) (w : WordProgram) (before after : State) (times times' : Times) (watches watches' : List Watch) where
  -- the word took effect, and the machine comes to this step
  pub record Took (issued issued' : ℕ) (leads : State → Step State) : Type 0 where
    pub word : Taken
    pub is : taken m (list_of times) w before ≡ Some word
    pub step : step m (list_of times) w before ≡ leads word.state
    pub state : after ≡ rested word.state
    pub timing : times' ≡ moved_by (word.state.asked - before.asked) times
    pub seen : watches' ≡ map (λ v. shown v word.event) watches
    pub counts : issued' ≡ counted (issued + 1)

  -- nothing took effect
  pub record Stayed (issued issued' : ℕ) : Type 0 where
    pub state : after ≡ record before { asked = 0 }
    pub timing : times' ≡ times
    pub seen : watches' ≡ watches
    pub counts : issued' ≡ issued

  -- its text was put too
  pub record Passed (issued issued' : ℕ) (earlier later : Option (List ℕ)) (leads : State → Step State) : Type 0 where
    pub took : Took issued issued' leads
    pub told : later ≡ with_bytes earlier took.word.state.out

  -- the word is stuck
  pub record Refused (issued issued' : ℕ) (earlier later : Option (List ℕ)) (outcome : Outcome) : Type 0 where
    pub stayed : Stayed issued issued'
    pub untaken : taken m (list_of times) w before ≡ None
    pub step : step m (list_of times) w before ≡ Over outcome
    pub told : later ≡ earlier

  -- of its text only a front was put
  pub record Failed (issued issued' : ℕ) (earlier later : Option (List ℕ)) : Type 0 where
    pub stayed : Stayed issued issued'
    pub word : Taken
    pub is : taken m (list_of times) w before ≡ Some word
    pub front : PutsFront earlier later word.state.out

  abbrev pub Stepped : (issued issued' : ℕ) (earlier later : Option (List ℕ)) → Option Ended → Type 0
  Stepped issued issued' earlier later None = Passed issued issued' earlier later (λ s. On s)
  Stepped issued issued' earlier later (Some (Halted z)) = Passed issued issued' earlier later (λ s. Over (Ends z s.out))
  Stepped issued issued' earlier later (Some (Trapped k)) = Passed issued issued' earlier later (λ s. Over (Traps k s.out))
  Stepped issued issued' earlier later (Some Stopped) = ⊥
  Stepped issued issued' earlier later (Some (StuckAt why p)) = Refused issued issued' earlier later (Stuck why p [])
  Stepped issued issued' earlier later (Some SinkFault) = Failed issued issued' earlier later
