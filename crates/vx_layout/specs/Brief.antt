-- That the empty cycles behind regions are few.
use Rattle.std.specs.Prelude.{◌≡◌, ◌≤◌, ℕ, Bool, Some, List, slice_get}
use Rattle.vx_flow.specs.declared.graph.Edge.{Edge}
use Rattle.vx_flow.specs.Effects.{IsIn}
use Rattle.vx_mixed.specs.declared.region.Item.{Item}
use Rattle.vx_mixed.specs.declared.region.Item.TheVariants.{Split}
use Rattle.vx_mixed.specs.declared.region.Region.{Region}
use Rattle.vx_mixed.specs.declared.mixed.MixedGraph.{MixedGraph}
use Rattle.vx_mixed.specs.declared.replacement.Replacement.{Replacement}
use Rattle.vx_mixed.specs.declared.layout.VirtualWord.TheVariants.{Drain}
use Rattle.vx_mixed.specs.declared.layout.VWords.{VWords}
use Rattle.vx_layout.specs.LayoutLaws.{LaidOut}
use Rattle.vx_mixed.specs.Next.{next_mixed}

-- no write takes longer than so many cycles behind the one after its word
abbrev pub most_drain : ℕ
most_drain = 15

pub record IsBrief (m : MixedGraph) : Type 0 where
  pub splits : (r j p d : ℕ) (y : Bool) (e : Edge) (g : Region) (word : List Item) → slice_get m.regions r ≡ Some g → slice_get g.words j ≡ Some word → IsIn (Split p y e d) word → d ≤ most_drain
  pub last : (r : ℕ) (g : Region) → slice_get m.regions r ≡ Some g → g.drain ≤ most_drain

abbrev pub IsBriefLayout : VWords → Type 0
IsBriefLayout l = (p n : ℕ) → slice_get l.words p ≡ Some (Drain n) → n ≤ most_drain

pub record DrainsBriefly (r : Replacement) : Type 0 where
  pub splits : (d : ℕ) → IsIn d r.drains → d ≤ most_drain
  pub last : r.last_drain ≤ most_drain

-- It stays so by replacements with few, and in the layout.
abbrev pub BriefStays : Type 0
BriefStays = (m : MixedGraph) (r : Replacement) → IsBrief m → DrainsBriefly r → IsBrief (next_mixed m r)

abbrev pub LayoutIsBrief : Type 0
LayoutIsBrief = (m : MixedGraph) (l : VWords) → LaidOut m l → IsBrief m → IsBriefLayout l
