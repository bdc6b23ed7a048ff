-- As long as a site is chosen, its call is inlined.
use Rattle.std.specs.Prelude.{ℕ, Some, None}
use Rattle.vx_flow.specs.declared.graph.Flow.{Flow}
use Rattle.vx_profile.specs.declared.counts.Counts.{Counts}
use Rattle.vx_inline.specs.declared.site.Site.{Site}
use Rattle.vx_inline.specs.Choosing.{Chosen}
use Rattle.vx_inline.specs.Inlined.{Inlined}

-- the counts are read by the numbers that blocks have at that moment
pub data InlinesAll (counts : Counts) (most : ℕ) : Flow → Flow → Type 0 where
  none_left : {flow : Flow} → Chosen flow counts most None → InlinesAll counts most flow flow
  inlines : {flow next new : Flow} (site : Site) → Chosen flow counts most (Some site) → Inlined flow site next → InlinesAll counts most next new → InlinesAll counts most flow new
