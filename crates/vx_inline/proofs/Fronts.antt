-- Functions that are entered alike: their graphs have the same parameters and arrays.
use Rattle.std.proofs.Common.{◌≡◌, inl, ℕ, ℤ, List, ◌++◌, map, drop, Option, Some, None, refl}
use Rattle.vx_flow.specs.declared.graph.Exit.{Exit}
use Rattle.vx_flow.specs.declared.graph.Exit.TheVariants.{Goto, Split, Call, Return, Ends}
use Rattle.vx_flow.specs.declared.graph.Block.{Block}
use Rattle.vx_flow.specs.declared.graph.Graph.{Graph}
use Rattle.vx_flow.specs.Effects.{State}
use Rattle.vx_flow.specs.Meaning.{at_entry, entered, body_of, undefined, words_in}
use Rattle.vx_inline.specs.Joined.{Follows}

pub graph_is : (g h : Graph) → Option.Some g ≡ Some h → g ≡ h
graph_is g h e = cc

abbrev pub Fronts : Option Graph → Option Graph → Type 0
Fronts None None = Unit {0}
Fronts None (Some h) = ⊥
Fronts (Some g) None = ⊥
Fronts (Some g) (Some h) = (h.parameters ≡ g.parameters) × (h.arrays ≡ g.arrays)

pub own_front : (o : Option Graph) → Fronts o o
own_front None = tt
own_front (Some g) = (refl, refl)

pub entered_same : (globals : ℕ) (ns : List ℤ) (s : State) (x y : Graph) → y.parameters ≡ x.parameters → y.arrays ≡ x.arrays → entered (body_of globals y) ns s ≡ entered (body_of globals x) ns s
entered_same globals ns s x y p a = λ i. record s { values = at_entry (p i) ns; arrays = s.arrays ++ map undefined (words_in (drop globals (a i))) }

pub follows_itself : (blocks : List Block) (exit : Exit) → Follows blocks (λ b. b) exit exit
follows_itself blocks (Goto d) = refl
follows_itself blocks (Split p d e) = (d, e, inl refl, inl refl, refl)
follows_itself blocks (Call f xs result d) = refl
follows_itself blocks (Return x) = refl
follows_itself blocks (Ends k) = refl
