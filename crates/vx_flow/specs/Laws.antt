-- Laws of the definitions, each the clause of a public function.
use Rattle.std.specs.Prelude.{◌≡◌, ℕ, ℤ, true, List, slice_get}
use Rattle.vx_base.specs.Outcome.{Steady}
use Rattle.vx_flow.specs.declared.graph.Flow.{Flow}
use Rattle.vx_flow.specs.declared.graph.Graph.{Graph}
use Rattle.vx_flow.specs.Agree.{Agree, Alike}
use Rattle.vx_flow.specs.Effects.{Setting, State}
use Rattle.vx_flow.specs.Live.{IsLive}
use Rattle.vx_flow.specs.Meaning.{graph_run, hop_of}
use Rattle.vx_flow.specs.Sound.{is_sound}
use Rattle.vx_flow.specs.Walking.{LeadWithin}

-- with a larger bound what does not go on stays, and the output only grows
abbrev pub GraphRunIsSteady : Type 0
GraphRunIsSteady = (flow : Flow) (input : List ℤ) → Steady (graph_run flow input)

-- the exits of a sound graph lead to blocks of it
abbrev pub SoundLeadsWithin : Type 0
SoundLeadsWithin = (g : Graph) → is_sound g ≡ true → LeadWithin g

-- a block leaves states that agree on what is live at its start alike
abbrev pub HopsLeaveAlike : Type 0
HopsLeaveAlike = (g : Graph) (setting : Setting) (b : ℕ) (s t : State) → Agree (IsLive g b) s t →
    Alike (λ c d. c ≡ d) (IsLive g) (hop_of setting b (slice_get g.blocks b) s) (hop_of setting b (slice_get g.blocks b) t)
