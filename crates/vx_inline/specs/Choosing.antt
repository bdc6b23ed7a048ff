-- The site whose call is inlined next.
use Rattle.std.specs.Prelude.{◌≡◌, ◌<◌, ◌≤◌, ◌⊎◌, ◌+◌, ◌==◌, ◌&&◌, ◌||◌, ℕ, Bool, true, nat_lt, Option, Some, None, List, [], ◌∷◌, length}
use Rattle.vx_flow.specs.declared.graph.Bank.{Bank}
use Rattle.vx_flow.specs.declared.graph.Block.{Block}
use Rattle.vx_flow.specs.declared.graph.Flow.{Flow}
use Rattle.vx_flow.specs.Effects.{IsIn}
use Rattle.vx_profile.specs.declared.counts.Counts.{Counts}
use Rattle.vx_profile.specs.Counts.{block_count}
use Rattle.vx_inline.specs.declared.site.Site.{Site}
use Rattle.vx_inline.specs.Inlined.{TheCall, CallAt, IsPermitted}
use Rattle.vx_inline.specs.Finding.{call_in}
use Rattle.vx_inline.specs.Fitting.{fits, has_few}

-- how many operations blocks have together; exits are none
abbrev pub operations : List Block → ℕ
operations [] = 0
operations (block ∷ blocks) = length block.ops + operations blocks

-- a permitted site whose callee has at most so many operations
pub record IsCandidate (flow : Flow) (most : ℕ) (site : Site) : Type 0 where
  pub call : CallAt flow site
  pub free : Bank → List ℕ
  pub permitted : IsPermitted flow site call free
  pub few : operations call.parts.callee.blocks ≤ most

abbrev pub count_of : Counts → Site → ℕ
count_of counts site = block_count counts site.function site.block

-- by function, then by block
abbrev pub Below : (site other : Site) → Type 0
Below site other = (site.function < other.function) ⊎ ((site.function ≡ other.function) × (site.block < other.block))

-- a site comes before another: its block has the greater count, or the same and the lower numbers
abbrev pub ComesBefore : Counts → (site other : Site) → Type 0
ComesBefore counts site other = (count_of counts other < count_of counts site) ⊎ ((count_of counts other ≡ count_of counts site) × Below site other)

pub record IsChosen (flow : Flow) (counts : Counts) (most : ℕ) (site : Site) : Type 0 where
  pub candidate : IsCandidate flow most site
  pub first : (other : Site) → IsCandidate flow most other → (other ≡ site) ⊎ ComesBefore counts site other

-- the site that comes first among the candidates; none where there is no candidate
abbrev pub Chosen : Flow → Counts → (most : ℕ) → Option Site → Type 0
Chosen flow counts most None = (site : Site) → IsCandidate flow most site → ⊥
Chosen flow counts most (Some site) = IsChosen flow counts most site

-- ---- while it is looked for

abbrev pub site_of : ℕ → ℕ → Site
site_of f b = record { function = f; block = b }

pub record IsFirst (flow : Flow) (counts : Counts) (most f b : ℕ) (site : Site) : Type 0 where
  pub candidate : IsCandidate flow most site
  pub first : (other : Site) → Below other (site_of f b) → IsCandidate flow most other → (other ≡ site) ⊎ ComesBefore counts site other

-- none of the candidates below block b of function f comes before this one
abbrev pub BestBefore : Flow → Counts → (most f b : ℕ) → Option Site → Type 0
BestBefore flow counts most f b None = (site : Site) → Below site (site_of f b) → IsCandidate flow most site → ⊥
BestBefore flow counts most f b (Some site) = IsFirst flow counts most f b site

abbrev pub is_below : (site other : Site) → Bool
is_below site other = nat_lt site.function other.function || ((site.function == other.function) && nat_lt site.block other.block)

-- a site comes before the best
abbrev pub exceeds : Counts → Option Site → Site → Bool
exceeds counts None site = true
exceeds counts (Some best) site = nat_lt (count_of counts best) (count_of counts site) || ((count_of counts best == count_of counts site) && is_below site best)

-- the site is no candidate, or does not come before the best
abbrev pub NoneIsWorthIt : Flow → Counts → (most : ℕ) → Option Site → Site → Type 0
NoneIsWorthIt flow counts most best site = IsCandidate flow most site → exceeds counts best site ≡ true → ⊥

-- all but the values and other functions is tested of this call
pub record MayBeBetter (flow : Flow) (counts : Counts) (most : ℕ) (best : Option Site) (site : Site) (c : TheCall) : Type 0 where
  pub is : call_in flow site ≡ Some c
  pub fits : fits c ≡ true
  pub few : has_few most c.callee.blocks ≡ true
  pub exceeds : exceeds counts best site ≡ true

abbrev pub IsWorthIt : Flow → Counts → (most : ℕ) → Option Site → Site → Option TheCall → Type 0
IsWorthIt flow counts most best site None = NoneIsWorthIt flow counts most best site
IsWorthIt flow counts most best site (Some c) = MayBeBetter flow counts most best site c

-- ---- by what is tested of all but free values

-- no candidate comes before the best
abbrev pub NoneFirst : Flow → Counts → (most : ℕ) → (best : Option Site) → Type 0
NoneFirst flow counts most best = (site : Site) → NoneIsWorthIt flow counts most best site

-- the best of another and a site: what did not come before the other does not come before it
pub record BestOfTwo (flow : Flow) (counts : Counts) (most : ℕ) (site : Site) (other best : Option Site) : Type 0 where
  pub own : NoneIsWorthIt flow counts most best site
  pub rest : (s : Site) → NoneIsWorthIt flow counts most other s → NoneIsWorthIt flow counts most best s

-- the best of another and these blocks of function f
pub record BestOfBlocks (flow : Flow) (counts : Counts) (most f : ℕ) (blocks : List ℕ) (other best : Option Site) : Type 0 where
  pub own : (b : ℕ) → IsIn b blocks → NoneIsWorthIt flow counts most best (site_of f b)
  pub rest : (s : Site) → NoneIsWorthIt flow counts most other s → NoneIsWorthIt flow counts most best s

-- the best of another and all of function f
pub record BestOfFunction (flow : Flow) (counts : Counts) (most f : ℕ) (other best : Option Site) : Type 0 where
  pub own : (s : Site) → s.function ≡ f → NoneIsWorthIt flow counts most best s
  pub rest : (s : Site) → NoneIsWorthIt flow counts most other s → NoneIsWorthIt flow counts most best s
