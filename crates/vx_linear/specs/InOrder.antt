-- A trace executed in its order, from its start or from one of its joins, and what it is that two accesses touch no
-- common word there.
use Rattle.std.specs.Prelude.{◌≡◌, ◌⊎◌, ◌+◌, ℕ, zero, suc, true, Option, Some, None, List, [], ◌∷◌, drop, slice_get}
use Rattle.vx_flow.specs.declared.trace.TraceOp.{TraceOp}
use Rattle.vx_flow.specs.declared.trace.TraceOp.TheVariants.{Plain, Split}
use Rattle.vx_flow.specs.declared.trace.Trace.{Trace}
use Rattle.vx_flow.specs.Effects.{State, Setting, calm_effect, Location, Cell, ReadsBesides, WritesBesides}
use Rattle.vx_flow.specs.Apart.{StandApart}
use Rattle.vx_linear.specs.declared.form.Form.{Form}
use Rattle.vx_linear.specs.Forms.{NeverSame}
use Rattle.vx_linear.specs.Followed.{is_join, forms_of}

-- one operation, so that it always has a meaning; no split is taken
abbrev pub in_order : Setting → State → TraceOp → State
in_order setting s (Plain op) = calm_effect setting s op s
in_order setting s (Split test leaves_when edge live) = s

-- the state in which operation k is executed, where the first one is executed in s
abbrev pub state_before : Setting → List TraceOp → State → ℕ → State
state_before setting ops s zero = s
state_before setting [] s (suc k) = s
state_before setting (op ∷ ops) s (suc k) = state_before setting ops (in_order setting s op) k

-- executed in s, the operation reads or writes there
abbrev pub Touches : Setting → State → Option TraceOp → Location → Type 0
Touches setting s None l = ⊥
Touches setting s (Some (Plain op)) l = ReadsBesides setting s op l ⊎ WritesBesides setting s op l
Touches setting s (Some (Split test leaves_when edge live)) l = ⊥

-- operations i and j touch no common word
abbrev pub Apart : Setting → List TraceOp → State → ℕ → ℕ → Type 0
Apart setting ops s i j =
    (a c : ℕ) →
    Touches setting (state_before setting ops s i) (slice_get ops i) (Cell a c) →
    Touches setting (state_before setting ops s j) (slice_get ops j) (Cell a c) → ⊥

-- a trace is entered at its start and at its joins
abbrev pub IsEntrance : Trace → ℕ → Type 0
IsEntrance t q = (q ≡ 0) ⊎ (is_join t q ≡ true)

-- The never law: accesses whose forms never name one word touch none in common, from whatever state and by whichever
-- entrance the trace is entered. i and j are counted from the entrance.
abbrev pub NeverLaw : Type 0
NeverLaw =
    (t : Trace) (setting : Setting) (q : ℕ) (s : State) (i j : ℕ) (f g : Form) →
    StandApart t.arrays setting.spot → IsEntrance t q →
    slice_get (forms_of t) (q + i) ≡ Some (Some f) → slice_get (forms_of t) (q + j) ≡ Some (Some g) → NeverSame f g →
    Apart setting (drop q t.ops) s i j
