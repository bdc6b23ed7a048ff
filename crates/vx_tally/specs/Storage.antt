-- The state of a run as it is held: the values of the active function as a list, and the input as all of it with how many
-- numbers were read.
use Rattle.std.specs.Prelude.{ℕ, Bool, true, false, Option, Some, None, List, [], ◌∷◌, drop, slice_index_or}
use Rattle.vx_flow.specs.Effects.{Content, State, Setting, effect}
use Rattle.vx_flow.specs.Meaning.{setting_with, program_of}
use Rattle.vx_flow.specs.declared.graph.Op.{Op}
use Rattle.vx_flow.specs.declared.graph.Flow.{Flow}
use Rattle.vx_tally.specs.declared.storage.Storage.{Storage}

-- a value that is not listed is undefined
abbrev pub value_at : List Content → ℕ → Content
value_at items v = slice_index_or items v None

abbrev pub state_of : Storage → State
state_of s = record { values = value_at s.values.items; arrays = s.arrays.items; input = drop s.read s.input.items; out = s.out.items }

abbrev pub setting_in : Flow → (passed : List (Option ℕ)) → (base : ℕ) → Setting
setting_in flow passed base = setting_with (program_of flow) passed base

-- the state that was come to, where there is one
abbrev pub came : Bool → State → Option State
came true s = Some s
came false s = None

abbrev pub and_after : Option State → (State → Option State) → Option State
and_after None f = None
and_after (Some s) f = f s

-- what operations do, one after the other
abbrev pub effects : Setting → State → List Op → Option State
effects setting s [] = Some s
effects setting s (op ∷ ops) = and_after (effect setting s op s) (λ t. effects setting t ops)
