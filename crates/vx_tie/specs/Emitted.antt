-- The words of a program of layouts, whatever words a call, an entry, a way or a wait takes: they carry the plan, part by part in the
-- order of the layouts; slots and arrays have places of their own in a frame; and memory is the globals and the frames.
use Rattle.std.specs.Prelude.{◌≡◌, ◌<◌, ◌≤◌, ◌+◌, ◌*◌, ℕ, suc, Bool, false, nat_lt, if◌then◌else◌, List, [], length, Some, slice_get}
use Rattle.std.specs.List.{list_any}
use Rattle.vx_base.specs.declared.outcome.Trap.TheVariants.{Depth as ByDepth}
use Rattle.vx_flow.specs.declared.graph.Flow.{Flow}
use Rattle.vx_flow.specs.declared.graph.Global.{Global}
use Rattle.vx_flow.specs.Effects.{IsIn}
use Rattle.vx_isa.specs.declared.operation.Operation.TheVariants.{EndByTrap}
use Rattle.vx_isa.specs.declared.program.Word.{Word}
use Rattle.vx_isa.specs.declared.program.WordProgram.{WordProgram}
use Rattle.vx_isa.specs.Machine.{memory_at_start}
use Rattle.vx_isa.specs.Numbers.{Numbers}
use Rattle.vx_isa.specs.Operations.{is_control}
use Rattle.vx_isa.specs.Paths.{WordAt}
use Rattle.vx_mixed.specs.declared.layout.Laid.{Laid}
use Rattle.vx_mixed.specs.declared.layout.Laid.TheVariants.{Split}
use Rattle.vx_mixed.specs.declared.layout.VirtualWord.TheVariants.{Planned}
use Rattle.vx_mixed.specs.declared.layout.VWords.{VWords}
use Rattle.vx_mixed.specs.LaidSettled.{laid_writes}
use Rattle.vx_layout.specs.Numbered.{words_in}
use Rattle.vx_regs.specs.declared.map.RegMap.{RegMap}
use Rattle.vx_target.specs.declared.finished.TracePlaces.{TracePlaces}
use Rattle.vx_target.specs.Frames.{IsSaved, IsFramed, first_or_zero}
use Rattle.vx_target.specs.PlacesIn.{places_in, regions_before}
use Rattle.vx_target.specs.Target.{Target, memory_words, one, slotted}
use Rattle.vx_target.specs.Tied.{IsFunction, words_before}
use Rattle.vx_tie.specs.Plans.{CarriesPlan, IsPlaceIn}

-- order

-- where the words of a function end: at the entry of the next one, or at the trap of the depth
abbrev pub end_of : Target → (count f : ℕ) → ℕ
end_of T count f = if nat_lt (suc f) count then T.entry (suc f) else T.depth_trap

-- The words of a function stand in the order of its layout: those of its entry, then those of each word of the layout up to the start
-- of the next one; behind the last one, before the end, stands what follows a split that is taken in a word with results for slots.
pub record InOrder (T : Target) (f end : ℕ) : Type 0 where
  pub entry : T.entry f ≤ T.starts f 0
  pub words : (p : ℕ) → p < length (T.layout f).words → T.starts f p ≤ T.starts f (suc p)
  pub last : T.starts f (length (T.layout f).words) ≤ end
  pub landings : (p r i test q : ℕ) (y : Bool) (items : List Laid) → slice_get (T.layout f).words p ≡ Some (Planned r i items) → IsIn (Split test y q) items → (slotted T f (laid_writes items) ≡ [] → ⊥) → (T.starts f (length (T.layout f).words) ≤ T.landing f p q) × (T.landing f p q ≤ end)

-- places

-- from one place to another no word leads elsewhere
abbrev pub GoesStraight : WordProgram → (from to : ℕ) → Type 0
GoesStraight w from to = (q : ℕ) (word : Word) → from ≤ q → q < to → WordAt w q word → list_any is_control word.ops ≡ false

-- the word of the plan that has place q among those of place p of a layout: who comes to that place comes to the word
pub record IsInPart (T : Target) (w : WordProgram) (f p q : ℕ) : Type 0 where
  pub from : T.starts f p ≤ q
  pub to : q < T.starts f (suc p)
  pub straight : GoesStraight w (T.starts f p) q

-- The words are those of a target: each function has its graph and layout, what is saved round its calls, and a frame; memory is the
-- globals, with their first numbers, and a frame for each function that may be active. The words of functions stand in order, the trap of
-- the depth behind them. The plan has a place for each word of each region, in its part; there stands the word of the plan, and elsewhere
-- stand words of other kinds.
pub record Emitted (m : Numbers) (flow : Flow) (ls : List VWords) (maps : List RegMap) (places : List TracePlaces) (w : WordProgram) : Type 0 where
  pub target : Target
  pub machine_is : target.machine ≡ m
  pub one_layout_each : length ls ≡ length flow.functions
  pub maps_are : (f : ℕ) → f < length flow.functions → slice_get maps f ≡ Some (target.maps f)
  pub functions : (f : ℕ) → f < length flow.functions → IsFunction target flow ls f
  pub saved : (f : ℕ) → f < length flow.functions → IsSaved target f
  pub framed : (f : ℕ) → f < length flow.functions → IsFramed target flow f
  pub frame_not_empty : 1 ≤ target.frame
  pub globals : target.globals ≡ words_before flow.globals (length flow.globals)
  pub small : 4 * memory_words target ≤ 132644864
  pub memory : w.memory ≡ 4 * memory_words target
  pub start : (a i : ℕ) (x : Global) → slice_get flow.globals a ≡ Some x → i < x.words → memory_at_start w.start (4 * (words_before flow.globals a + i)) ≡ first_or_zero x.first i
  pub texts : w.texts ≡ flow.texts
  pub order : (f : ℕ) → f < length flow.functions → InOrder target f (end_of target (length flow.functions) f)
  pub trap : WordAt w target.depth_trap (one (EndByTrap ByDepth))
  pub regions : length places ≡ regions_before ls (length ls)
  pub counts : (f r : ℕ) → f < length ls → r < (target.layout f).regions → length (places_in places ls f r) ≡ words_in r (target.layout f).words
  pub in_part : (f p r i q : ℕ) (items : List Laid) → f < length ls → slice_get (target.layout f).words p ≡ Some (Planned r i items) → IsPlaceIn places ls f r i q → IsInPart target w f p q
  pub carries : CarriesPlan target ls places w
