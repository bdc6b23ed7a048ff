-- The laws of inlining.
use Rattle.std.specs.Prelude.{◌≡◌, ◌≤◌, ℕ, ℤ, true, List, length, Some, slice_get}
use Rattle.vx_base.specs.Outcome.{Same, NeverFails}
use Rattle.vx_ast.specs.Accepted.{is_accepted}
use Rattle.vx_ast.specs.Tree.{Program}
use Rattle.vx_flow.specs.declared.graph.Bank.{Bank}
use Rattle.vx_flow.specs.declared.graph.Block.{Block}
use Rattle.vx_flow.specs.declared.graph.Flow.{Flow}
use Rattle.vx_flow.specs.Meaning.{graph_run}
use Rattle.vx_flow.specs.Sound.{SoundFlow}
use Rattle.vx_lower.specs.FlowOf.{FlowOf, RunsAs}
use Rattle.vx_inline.specs.declared.site.Site.{Site}
use Rattle.vx_inline.specs.Inlined.{CallAt, IsPermitted, Inlined, inlined, is_plain}

-- the entry of the caller is no trap block
abbrev pub BeginsPlain : (flow : Flow) (site : Site) → CallAt flow site → Type 0
BeginsPlain flow site c = (block : Block) → slice_get c.parts.caller.blocks 0 ≡ Some block → is_plain block ≡ true

-- on every input where a sound flow of at most 256 functions never fails, the flow with a permitted call inlined does the same and
-- never fails
abbrev pub InlinedRuns : Type 0
InlinedRuns = (flow : Flow) (site : Site) (c : CallAt flow site) (free : Bank → List ℕ) → IsPermitted flow site c free → SoundFlow flow → BeginsPlain flow site c → length flow.functions ≤ 256 →
    (input : List ℤ) → NeverFails (graph_run flow input) → Same (graph_run flow input) (graph_run (inlined flow site c.parts free) input) × NeverFails (graph_run (inlined flow site c.parts free) input)

-- a flow of a program with a permitted call inlined runs as the program
abbrev pub InlinedRunsAs : Type 0
InlinedRunsAs = (p : Program) (flow new : Flow) (site : Site) → is_accepted p ≡ true → FlowOf p flow → Inlined flow site new → RunsAs p new

-- and is a flow of the program still
abbrev pub InlinedStays : Type 0
InlinedStays = (p : Program) (flow new : Flow) (site : Site) → is_accepted p ≡ true → FlowOf p flow → Inlined flow site new → FlowOf p new

-- one flow comes of inlining the call of a site
abbrev pub InlinedIsOne : Type 0
InlinedIsOne = (flow one other : Flow) (site : Site) → Inlined flow site one → Inlined flow site other → other ≡ one

-- a sound flow with a permitted call inlined is sound
abbrev pub InlinedSound : Type 0
InlinedSound = (flow new : Flow) (site : Site) → SoundFlow flow → Inlined flow site new → SoundFlow new
