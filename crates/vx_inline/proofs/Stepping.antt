-- A flow with a call inlined keeps what it is, and its banks.
use Rattle.std.proofs.Common.{◌≡◌, ◌+◌, ◌<◌, ℕ, true, Some, None, refl, ◌∙◌, arith}
use Rattle.vx_ast.specs.Accepted.{is_accepted}
use Rattle.vx_ast.specs.Tree.{Program}
use Rattle.vx_flow.specs.declared.graph.Flow.{Flow}
use Rattle.vx_flow.specs.Sound.{SoundFlow}
use Rattle.vx_lower.specs.FlowOf.{FlowOf}
use Rattle.vx_inline.specs.declared.site.Site.{Site}
use Rattle.vx_inline.specs.Inlined.{Permitted, Inlined}
use Rattle.vx_inline.specs.Inlining.{banks_of}
use Rattle.vx_profile.specs.declared.counts.Counts.{Counts}
use Rattle.vx_inline.specs.Choosing.{Chosen, IsChosen}
use Rattle.vx_inline.specs.Repeating.{InlinesAll}
use Rattle.vx_inline.specs.Repeating.InlinesAll.{none_left, inlines}
use Rattle.vx_inline.specs.Counts.{calls_of}
use Rattle.vx_inline.proofs.Counts.{one_call_less}
use Rattle.vx_inline.proofs.Programs.{inlined_stays}
use Rattle.vx_inline.proofs.Reaching.{names_stay}

-- what stays of a flow, and that what comes of the new one by inlining on comes of it
pub record Kept (counts : Counts) (most : ℕ) (flow new : Flow) : Type 0 where
  pub stays : (p : Program) → is_accepted p ≡ true → FlowOf p flow → FlowOf p new
  pub sound : SoundFlow new
  pub banks : banks_of new ≡ banks_of flow
  pub along : (last : Flow) → InlinesAll counts most new last → InlinesAll counts most flow last

pub kept_first : (counts : Counts) (most : ℕ) (flow : Flow) → SoundFlow flow → Kept counts most flow flow
kept_first counts most flow sound = record {
  stays = λ p a o. o;
  sound = sound;
  banks = refl;
  along = λ last h. h;
}

pub kept_next : (counts : Counts) (most : ℕ) (flow now new : Flow) (site : Site) → Kept counts most flow now → Chosen now counts most (Some site) → Inlined now site new → SoundFlow new → Kept counts most flow new
kept_next counts most flow now new site k c i sound = record {
  stays = λ p a o. inlined_stays p now new site a (k.stays p a o) i;
  sound = sound;
  banks = (names_stay now new site i).0 ∙ k.banks;
  along = λ last h. k.along last (inlines site c i h);
}

pub kept_last : (counts : Counts) (most : ℕ) (flow now : Flow) → Kept counts most flow now → Chosen now counts most None → InlinesAll counts most flow now
kept_last counts most flow now k c = k.along now (none_left c)

-- each step removes a call
pub less_calls : (now new : Flow) (site : Site) → Inlined now site new → calls_of new.functions < calls_of now.functions
less_calls now new site i = let e : calls_of new.functions + 1 ≡ calls_of now.functions = one_call_less now new site i in omega (arith, e)

-- what is chosen is permitted
pub chosen_permitted : (flow : Flow) (counts : Counts) (most : ℕ) (site : Site) → IsChosen flow counts most site → Permitted flow site
chosen_permitted flow counts most site k = record { call = k.candidate.call; free = k.candidate.free; permitted = k.candidate.permitted }
