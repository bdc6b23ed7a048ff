-- Laws of converting diamonds, each the clause of a public function.
use Rattle.std.specs.Prelude.{◌≡◌, ◌<◌, length, ℕ, ℤ, Bool, true, List}
use Rattle.vx_base.specs.Outcome.{Same, NeverFails}
use Rattle.vx_ast.specs.Tree.{Function, Program}
use Rattle.vx_flow.specs.declared.graph.Graph.{Graph}
use Rattle.vx_flow.specs.declared.graph.Flow.{Flow}
use Rattle.vx_flow.specs.Meaning.{graph_run}
use Rattle.vx_flow.specs.Sound.{is_sound, is_sound_flow}
use Rattle.vx_lower.specs.FlowOf.{GraphOf, FlowOf}
use Rattle.vx_select.specs.Selected.{Diamond, IsDiamond, converted, Selected}
use Rattle.vx_select.specs.Search.{IsFirst, first_diamond}

-- one diamond of a sound graph: the graph stays sound, and that of its function
abbrev pub ConvertedStays : Type 0
ConvertedStays = (live : ℕ → ℕ → Bool) (most : ℕ) (g : Graph) (d : Diamond) → is_sound g ≡ true → IsDiamond live most g d →
    (is_sound (converted live g d) ≡ true) × ((p : Program) (f : Function) → GraphOf p f g → GraphOf p f (converted live g d))

-- a sound flow stays sound
abbrev pub SelectedSound : Type 0
SelectedSound = (old new : Flow) (most : ℕ) → Selected old most new → is_sound_flow old ≡ true → is_sound_flow new ≡ true

-- on every input where the old flow never fails, the new one does the same and never fails
abbrev pub SelectedRuns : Type 0
SelectedRuns = (old new : Flow) (most : ℕ) → Selected old most new → is_sound_flow old ≡ true → (input : List ℤ) → NeverFails (graph_run old input) →
    Same (graph_run old input) (graph_run new input) × NeverFails (graph_run new input)

-- a flow of a program stays one
abbrev pub SelectedStays : Type 0
SelectedStays = (p : Program) (old new : Flow) (most : ℕ) → Selected old most new → FlowOf p old → FlowOf p new

-- what comes out is one flow
abbrev pub SelectedOnce : Type 0
SelectedOnce = (old a b : Flow) (most : ℕ) → Selected old most a → Selected old most b → a ≡ b

-- a conversion takes at least one block away
abbrev pub ConvertedShorter : Type 0
ConvertedShorter = (live : ℕ → ℕ → Bool) (most : ℕ) (g : Graph) (d : Diamond) → IsDiamond live most g d → length (converted live g d).blocks < length g.blocks

-- the first diamond, looked for block by block, is the one with the lowest block
abbrev pub FirstIsFirst : Type 0
FirstIsFirst = (live : ℕ → ℕ → Bool) (most : ℕ) (g : Graph) → IsFirst live most g (first_diamond live most g)
