-- The shape of the graph that a graph which is being made becomes, once its blocks are finished.
use Rattle.std.specs.Prelude.{◌≡◌, ◌⊎◌, ℕ, ◌<◌, ◌≤◌, pos, true, false, List, [], ◌∷◌, length, Option, Some, None, slice_get}
use Rattle.vx_base.specs.declared.outcome.Trap.{Trap}
use Rattle.vx_flow.specs.declared.graph.Operand.{Operand}
use Rattle.vx_flow.specs.declared.graph.Operand.TheVariants.{Number}
use Rattle.vx_flow.specs.declared.graph.Op.TheVariants.{Text}
use Rattle.vx_flow.specs.declared.graph.Exit.TheVariants.{Split, Call, Return, Ends}
use Rattle.vx_flow.specs.declared.graph.Block.{Block}
use Rattle.vx_flow.specs.declared.graph.Graph.{Graph}
use Rattle.vx_flow.specs.Effects.{IsIn}
use Rattle.vx_flow.specs.Sound.{HasOperation, HasExit, is_base_operand, is_sound}
use Rattle.vx_ast.specs.declared.tree.Takes.{Takes}
use Rattle.vx_ast.specs.declared.tree.Takes.TheVariants.{Number as TakesNumber, Array as TakesArray}
use Rattle.vx_lower.specs.declared.seen.Seen.TheVariants.{Handed}
use Rattle.vx_lower.specs.Seen.{Sees, arrays_from}
use Rattle.vx_lower.specs.FlowOf.{IsEdge}
use Rattle.vx_lower.specs.LoweredGraphs.{NoneDismissible}
use Rattle.vx_lower.specs.Holds.{ends, jump}
use Rattle.vx_lower.specs.Builds.{closed}
use Rattle.vx_lower.specs.Named.{Known, TakesArguments}
use Rattle.vx_lower.specs.Fits.{Role, Shaped}
use Rattle.vx_lower.specs.declared.builder.Builder.{Builder}

-- the blocks that were made, with trap blocks behind them: a block stays, but one that ends by a trap is an empty jump to
-- a trap block, and one that was not made returns 0
pub record Settled (slots : List (Option Block)) (blocks : List Block) : Type 0 where
  pub longer : length slots ≤ length blocks
  pub waits : (i : ℕ) → slice_get slots i ≡ Some None → slice_get blocks i ≡ Some (ends (Return (Number (pos 0))))
  pub stays : (i : ℕ) (x : Block) → slice_get slots i ≡ Some (Some x) → ((trap : Trap) → x.exit ≡ Ends trap → ⊥) → slice_get blocks i ≡ Some x
  pub stops : (i : ℕ) (x : Block) (trap : Trap) → slice_get slots i ≡ Some (Some x) → x.exit ≡ Ends trap → (c : ℕ) × (length slots ≤ c) × (c < length blocks) × (slice_get blocks i ≡ Some (jump c))
  pub behind : (i : ℕ) (x : Block) → length slots ≤ i → slice_get blocks i ≡ Some x → (trap : Trap) × (x ≡ ends (Ends trap))

-- the last block returns 0, and none is open
abbrev pub finally : Builder → Builder
finally b = closed b (Return (Number (pos 0))) b.current

-- what is passed is a base exactly where an array is taken
abbrev pub HandsOver : Graph → List Takes → List Operand → Type 0
HandsOver g [] [] = Unit {0}
HandsOver g [] (x ∷ xs) = ⊥
HandsOver g (TakesNumber ∷ takes) [] = ⊥
HandsOver g (TakesNumber ∷ takes) (x ∷ xs) = (is_base_operand g x ≡ false) × HandsOver g takes xs
HandsOver g (TakesArray ∷ takes) [] = ⊥
HandsOver g (TakesArray ∷ takes) (x ∷ []) = ⊥
HandsOver g (TakesArray ∷ takes) (x ∷ y ∷ xs) = (is_base_operand g x ≡ true) × (is_base_operand g y ≡ false) × HandsOver g takes xs

-- the parameters are scalars, and the values of all that is handed over
pub record ArePassed (words : Sees) (parameters : List ℕ) : Type 0 where
  pub known : (v : ℕ) → IsIn v parameters → (v < words.scalars) ⊎ ((a base size : ℕ) × (slice_get words.arrays a ≡ Some (Handed base size)) × ((v ≡ base) ⊎ (v ≡ size)))
  pub bases : (a base size : ℕ) → slice_get words.arrays a ≡ Some (Handed base size) → IsIn base parameters

pub record WellShaped {words : Sees} (k : Known words) (texts : ℕ) (g : Graph) : Type 0 where
  pub sound : is_sound g ≡ true
  pub some : 0 < length g.blocks
  pub loads : NoneDismissible g
  pub texts_there : (n : ℕ) → HasOperation g (Text n) → n < texts
  pub calls : (f : ℕ) (arguments : List Operand) (result : Option ℕ) (next : ℕ) → HasExit g (Call f arguments result next) → (takes : List Takes) × TakesArguments k f takes × HandsOver g takes arguments
  pub apart : (b : ℕ) (block : Block) (test y z : ℕ) → slice_get g.blocks b ≡ Some block → block.exit ≡ Split test y z → y ≡ z → ⊥
  -- where two edges leave a block and one of them leads to d, no other block has an edge to d
  pub uncritical : (b c d e : ℕ) → IsEdge g b c → IsEdge g b d → (c ≡ d → ⊥) → IsEdge g e d → e ≡ b
  pub entry : (b : ℕ) → IsEdge g b 0 → ⊥

-- a graph that is made of one that was well shaped at its end is well shaped
abbrev pub ShapeLaw : Type 0
ShapeLaw = (words : Sees) (k : Known words) (texts : ℕ) (roles : List Role) (b : Builder) (g : Graph) → Shaped k texts roles b → Settled (finally b).blocks g.blocks → g.banks ≡ b.banks → g.arrays ≡ arrays_from 0 words.arrays → ArePassed words g.parameters → WellShaped k texts g
