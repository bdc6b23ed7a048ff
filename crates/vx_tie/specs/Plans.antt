-- The words of a program carry the words of its plan: at the place of each one stands a word with exactly its operations and perhaps, as
-- the last one, the goto of the transfer behind; and every other word is of one of the kinds below.
use Rattle.std.specs.Prelude.{◌≡◌, ◌⊎◌, ◌<◌, ◌≤◌, ◌+◌, ℕ, zero, suc, ℤ, pos, neg_ℤ, Bool, true, false, Option, Some, None, List, [], ◌∷◌, ◌++◌, length, slice_get}
use Rattle.std.specs.List.{list_any}
use Rattle.vx_base.specs.declared.arithmetic.Code.TheVariants.{Add, ToBranch}
use Rattle.vx_base.specs.declared.arithmetic.Compare.TheVariants.{Ltu, Ne}
use Rattle.vx_base.specs.declared.outcome.Trap.{Trap}
use Rattle.vx_base.specs.declared.outcome.Trap.TheVariants.{Depth as ByDepth}
use Rattle.vx_flow.specs.declared.graph.Bank.TheVariants.{Branch}
use Rattle.vx_flow.specs.declared.graph.Op.{Op}
use Rattle.vx_flow.specs.declared.graph.Operand.{Operand}
use Rattle.vx_flow.specs.Effects.{IsIn}
use Rattle.vx_isa.specs.declared.operation.GeneralRegister.{GeneralRegister}
use Rattle.vx_isa.specs.declared.operation.Register.TheVariants.{General as InGeneral, Branch as InBranch}
use Rattle.vx_isa.specs.declared.operation.Source.{Source}
use Rattle.vx_isa.specs.declared.operation.Source.TheVariants.{Held, Number}
use Rattle.vx_isa.specs.declared.operation.Operation.{Operation}
use Rattle.vx_isa.specs.declared.operation.Operation.TheVariants.{Compute, Move, Select, Load, Store, Goto, BranchOn, Call, Return, FromLink, ToLink, EndByTrap, Halt}
use Rattle.vx_isa.specs.declared.program.Word.{Word}
use Rattle.vx_isa.specs.declared.program.WordProgram.{WordProgram}
use Rattle.vx_isa.specs.Machine.{cycles_of}
use Rattle.vx_isa.specs.Paths.{WordAt}
use Rattle.vx_mixed.specs.declared.layout.Laid.{Laid}
use Rattle.vx_mixed.specs.declared.layout.Laid.TheVariants.{Plain, Split}
use Rattle.vx_mixed.specs.declared.layout.VirtualWord.{VirtualWord}
use Rattle.vx_mixed.specs.declared.layout.VirtualWord.TheVariants.{Planned, Drain, Transfer, Choice, Call as Calls, Return as Returns, Ends}
use Rattle.vx_mixed.specs.declared.layout.VWords.{VWords}
use Rattle.vx_mixed.specs.declared.mixed.MixedGraph.{MixedGraph}
use Rattle.vx_mixed.specs.declared.region.Node.TheVariants.{Enters}
use Rattle.vx_mixed.specs.LaidSettled.{laid_reads, laid_writes}
use Rattle.vx_mixed.specs.Layout.{layout_of, region_place, IsDone}
use Rattle.vx_mixed.specs.Valid.{Valid}
use Rattle.vx_regs.specs.declared.map.Kept.TheVariants.{InRegister}
use Rattle.vx_regs.specs.Mapped.{first_of}
use Rattle.vx_target.specs.declared.finished.TracePlaces.{TracePlaces}
use Rattle.vx_target.specs.Target.{Target, answer, bytes, first_frame, general, holds_branch, is_drain, is_slotted, kept, on_clusters, one, carried, branch_of, is_split, slotted, stack_on, stack_steps, waits}
use Rattle.vx_target.specs.Frames.{CallsAt, NeedsSlot}
use Rattle.vx_target.specs.PlacesIn.{places_in}

-- places

-- an entrance of a layout: where it is entered, or a place to which one of its words goes on
pub data IsEntrance (l : VWords) (q : ℕ) : Type 0 where
  at_entry : q ≡ l.entry → IsEntrance l q
  by_transfer : (p : ℕ) → slice_get l.words p ≡ Some (Transfer q) → IsEntrance l q
  by_choice : (p test : ℕ) → slice_get l.words p ≡ Some (Choice test q) → IsEntrance l q

-- where a block of a graph of regions is entered: the start of a region, or a word of one to which an edge leads
pub record IsEntered (m : MixedGraph) (q : ℕ) : Type 0 where
  pub block : ℕ
  pub region : ℕ
  pub word : ℕ
  pub enters : slice_get m.nodes block ≡ Some (Enters region word)
  pub is : q ≡ region_place m.regions region + word

-- The entrances of the layout of a graph of which no block is left are where its blocks are entered.
abbrev pub EntranceLaw : Type 0
EntranceLaw = (m : MixedGraph) → Valid m → IsDone m → 0 < length m.nodes → (q : ℕ) → IsEntrance (layout_of m) q → IsEntered m q

-- the empty cycles of the way out of a split, where its word has a result that is stored in a slot first
pub record IsWayOut (T : Target) (f q : ℕ) : Type 0 where
  pub place : ℕ
  pub region : ℕ
  pub number : ℕ
  pub items : List Laid
  pub planned : slice_get (T.layout f).words place ≡ Some (Planned region number items)
  pub test : ℕ
  pub leaves_when : Bool
  pub leads : IsIn (Split test leaves_when q) items
  pub result : ℕ
  pub stored : IsIn result (slotted T f (laid_writes items))
  pub cycles : ℕ
  pub empty : slice_get (T.layout f).words q ≡ Some (Drain cycles)

-- among the first words of the program, in front of all functions
abbrev pub IsInStart : Target → (place : ℕ) → Type 0
IsInStart T place = place < T.entry 0

-- among the words by which a function is entered, in front of its layout
pub record IsInEntry (T : Target) (functions place : ℕ) : Type 0 where
  pub function : ℕ
  pub low : function < functions
  pub from : T.entry function ≤ place
  pub to : place < T.starts function 0

-- among the words of a call
pub record IsInCall (T : Target) (functions place : ℕ) : Type 0 where
  pub function : ℕ
  pub at : ℕ
  pub called : ℕ
  pub arguments : List Operand
  pub result : Option ℕ
  pub low : function < functions
  pub calls : CallsAt T function at called arguments result
  pub from : T.starts function at ≤ place
  pub to : place < T.starts function (suc at)

-- among the words of a return
pub record IsInReturn (T : Target) (functions place : ℕ) : Type 0 where
  pub function : ℕ
  pub at : ℕ
  pub value : Operand
  pub low : function < functions
  pub returns : slice_get (T.layout function).words at ≡ Some (Returns value)
  pub from : T.starts function at ≤ place
  pub to : place < T.starts function (suc at)

-- b is the register of branch value v, or a scratch one where v is in a slot
abbrev pub IsBranchOf : Target → (f v b : ℕ) → Type 0
IsBranchOf T f v b = (kept T f v ≡ InRegister b) ⊎ ((is_slotted (kept T f v) ≡ true) × (b < first_of T.machine Branch))

-- The word at a place, where it is none of the plan, in a program of so many functions; link and answer have registers of their own.
-- A slot is that of a parameter, of a value that no register is left for, or of one that is saved round a call. Two words of a return do
-- two of its steps at once.
pub data IsOther (T : Target) (functions place : ℕ) : Word → Type 0 where
  -- the slot of a value that needs one, in the frame or, while a call is made, in the caller's, which begins a frame above
  loads_slot : (f v up : ℕ) (to : GeneralRegister) → f < functions → NeedsSlot T f v → (up ≡ 0) ⊎ ((up ≡ T.frame) × IsInCall T functions place) → IsOther T functions place (one (Load to.cluster to (bytes (up + T.slot f v)) (stack_on to.cluster) false))
  stores_slot : (f v k : ℕ) (from : Source) → f < functions → NeedsSlot T f v → IsOther T functions place (one (Store k (bytes (T.slot f v)) (stack_on k) from))
  -- a branch value to its slot, and from it, by way of the answer's register
  picks_number : (f v b : ℕ) → f < functions → NeedsSlot T f v → holds_branch T f v ≡ true → IsBranchOf T f v b → IsOther T functions place (one (Select 0 answer (record { cluster = 0; number = b }) (Number (pos 1)) (Number (pos 0))))
  tests_number : (f v b : ℕ) → f < functions → NeedsSlot T f v → holds_branch T f v ≡ true → IsBranchOf T f v b → IsOther T functions place (one (Compute 0 (ToBranch Ne) (InBranch (record { cluster = 0; number = b })) (Held answer) (Number (pos 0))))
  moves : (k : ℕ) (to : GeneralRegister) (from : Source) → IsOther T functions place (one (Move k to from))
  -- calls: the depth is tested, and the stack pointers of all clusters go a frame down, perhaps in the word that leaves by the depth,
  -- and behind the call up again; the last argument goes to its slot, perhaps in the word of the call
  tests_depth : IsInCall T functions place → IsOther T functions place (one (Compute 0 (ToBranch Ltu) (InBranch (record { cluster = 0; number = 0 })) (Held (stack_on 0)) (Number (bytes (T.globals + T.frame)))))
  leaves_by_depth : IsInCall T functions place → IsOther T functions place (one (BranchOn 0 true T.depth_trap))
  leaves_or_lowers : IsInCall T functions place → IsOther T functions place (record { ops = BranchOn 0 true T.depth_trap ∷ stack_steps T (neg_ℤ (bytes T.frame)); idle = 0 })
  moves_stacks : (z : ℤ) → (z ≡ bytes T.frame) ⊎ (z ≡ neg_ℤ (bytes T.frame)) → IsInCall T functions place → IsOther T functions place (record { ops = on_clusters T.machine.clusters (λ k. Compute k Add (InGeneral (stack_on k)) (Held (stack_on k)) (Number z)); idle = 0 })
  calls : (here : IsInCall T functions place) → IsOther T functions place (one (Call (T.entry here.called)))
  stores_slot_and_calls : (here : IsInCall T functions place) (v k : ℕ) (from : Source) → NeedsSlot T here.called v → IsOther T functions place (record { ops = Store k (bytes (T.slot here.called v)) (stack_on k) from ∷ Call (T.entry here.called) ∷ []; idle = 0 })
  -- entries: the link goes to the frame
  takes_link : IsInEntry T functions place → IsOther T functions place (one (FromLink (general 0 3)))
  stores_link : IsInEntry T functions place → IsOther T functions place (one (Store 0 (pos 0) (stack_on 0) (Held (general 0 3))))
  -- returns: the link comes back, perhaps in the word that moves the answer; or the answer is moved in the word that returns
  loads_link : IsInReturn T functions place → IsOther T functions place (one (Load 0 (general 0 3) (pos 0) (stack_on 0) false))
  moves_and_loads_link : (from : Source) → IsInReturn T functions place → IsOther T functions place (record { ops = Move 0 answer from ∷ Load 0 (general 0 3) (pos 0) (stack_on 0) false ∷ []; idle = 0 })
  gives_link : IsInReturn T functions place → IsOther T functions place (one (ToLink (Held (general 0 3))))
  returns : IsInReturn T functions place → IsOther T functions place (one Return)
  moves_and_returns : (from : Source) → IsInReturn T functions place → IsOther T functions place (record { ops = Move 0 answer from ∷ Return ∷ []; idle = 0 })
  -- the program begins: the stack pointers are set, and a function is called
  sets_stacks : IsInStart T place → IsOther T functions place (record { ops = on_clusters T.machine.clusters (λ k. Move k (stack_on k) (Number (bytes (first_frame T)))); idle = 0 })
  calls_first : (f : ℕ) → f < functions → IsInStart T place → IsOther T functions place (one (Call (T.entry f)))
  -- ends: of the first function, by a trap of a layout, and by that of the depth
  halts : IsInStart T place → IsOther T functions place (one (Halt (Held answer)))
  traps : (f p : ℕ) (k : Trap) → f < functions → slice_get (T.layout f).words p ≡ Some (Ends k) → place ≡ T.starts f p → IsOther T functions place (one (EndByTrap k))
  traps_depth : place ≡ T.depth_trap → IsOther T functions place (one (EndByTrap ByDepth))
  -- empty cycles
  idles : (n : ℕ) → n ≤ 16 → IsOther T functions place (waits n)
  -- to an entrance; or, where results have been stored behind a split that was taken, on to the empty cycles of its way out
  goes : (f q : ℕ) → f < functions → IsEntrance (T.layout f) q → IsOther T functions place (one (Goto (T.starts f q)))
  branches : (f q b : ℕ) → f < functions → IsEntrance (T.layout f) q → IsOther T functions place (one (BranchOn b true (T.starts f q)))
  goes_out : (f q : ℕ) → f < functions → IsWayOut T f q → IsOther T functions place (one (Goto (T.starts f q)))

-- words of the plan

-- from place q of a layout transfers lead to d, one after the other; or it is that place
pub data LeadsOn (l : VWords) (q : ℕ) : (d : ℕ) → Type 0 where
  no_further : LeadsOn l q q
  further : (d to : ℕ) → LeadsOn l q d → slice_get l.words d ≡ Some (Transfer to) → LeadsOn l q to

-- The operation that carries an item of a word at place p, which reads and writes these values: on its cluster, with its registers and
-- numbers. A split leads to where its way out goes on, or, where the word leaves a result for a slot, to its landing.
pub data CarriesItem (T : Target) (f p : ℕ) (reads writes : List ℕ) : Laid → Operation → Type 0 where
  plain : (op : Op) (cluster : ℕ) → CarriesItem T f p reads writes (Plain op cluster) (carried T f reads writes cluster op)
  leaves : (test q d : ℕ) (y : Bool) → slotted T f writes ≡ [] → LeadsOn (T.layout f) q d → CarriesItem T f p reads writes (Split test y q) (BranchOn (branch_of T f reads test) y (T.starts f d))
  lands : (test q v : ℕ) (y : Bool) → IsIn v (slotted T f writes) → CarriesItem T f p reads writes (Split test y q) (BranchOn (branch_of T f reads test) y (T.landing f p q))

-- item by item, in their order
abbrev pub CarryItems : Target → (f p : ℕ) → (reads writes : List ℕ) → List Laid → List Operation → Type 0
CarryItems T f p reads writes [] [] = Unit {0}
CarryItems T f p reads writes (item ∷ items) (op ∷ ops) = CarriesItem T f p reads writes item op × CarryItems T f p reads writes items ops
CarryItems T f p reads writes [] (op ∷ ops) = ⊥
CarryItems T f p reads writes (item ∷ items) [] = ⊥

-- The word of these items: the operations that carry them. Where none is a split and nothing is left for slots, the goto of the
-- transfer behind may stand with them, as the last one.
pub data IsPlanWord (T : Target) (f p : ℕ) (items : List Laid) : Word → Type 0 where
  by_itself : (ops : List Operation) → CarryItems T f p (laid_reads items) (laid_writes items) items ops → IsPlanWord T f p items (record { ops = ops; idle = 0 })
  and_goes : (ops : List Operation) (to d : ℕ) → CarryItems T f p (laid_reads items) (laid_writes items) items ops → list_any is_split items ≡ false → slotted T f (laid_writes items) ≡ [] → slice_get (T.layout f).words (suc p) ≡ Some (Transfer to) → LeadsOn (T.layout f) to d → IsPlanWord T f p items (record { ops = ops ++ Goto (T.starts f d) ∷ []; idle = 0 })

-- q is the place of word i of region r of function f
abbrev pub IsPlaceIn : List TracePlaces → List VWords → (f r i q : ℕ) → Type 0
IsPlaceIn places ls f r i q = slice_get (places_in places ls f r) i ≡ Some q

-- q is the place of a word of the plan
pub record IsPlanPlace (T : Target) (ls : List VWords) (places : List TracePlaces) (q : ℕ) : Type 0 where
  pub function : ℕ
  pub place : ℕ
  pub region : ℕ
  pub number : ℕ
  pub items : List Laid
  pub below : function < length ls
  pub planned : slice_get (T.layout function).words place ≡ Some (Planned region number items)
  pub at : IsPlaceIn places ls function region number q

-- at q stands a word without an operation that is none of the plan
pub record IsIdle (T : Target) (ls : List VWords) (places : List TracePlaces) (w : WordProgram) (q : ℕ) : Type 0 where
  pub word : Word
  pub at : WordAt w q word
  pub empty : word.ops ≡ []
  pub other : IsPlanPlace T ls places q → ⊥

abbrev pub cycles_at : Option Word → ℕ
cycles_at None = 0
cycles_at (Some word) = cycles_of word

-- how many cycles n words from place q on last together
abbrev pub cycles_from : List Word → (q n : ℕ) → ℕ
cycles_from words q zero = 0
cycles_from words q (suc n) = cycles_at (slice_get words q) + cycles_from words (suc q) n

-- At its place each word of the plan stands; every word that stands at no such place is another one; and others without an operation,
-- one behind the other, last at most 16 cycles together.
pub record CarriesPlan (T : Target) (ls : List VWords) (places : List TracePlaces) (w : WordProgram) : Type 0 where
  pub planned : (f p r i : ℕ) (items : List Laid) → f < length ls → slice_get (T.layout f).words p ≡ Some (Planned r i items) → (q : ℕ) × (word : Word) × IsPlaceIn places ls f r i q × WordAt w q word × IsPlanWord T f p items word
  pub others : (q : ℕ) (word : Word) → WordAt w q word → IsPlanPlace T ls places q ⊎ IsOther T (length ls) q word
  pub idle : (q n : ℕ) → ((i : ℕ) → i < n → IsIdle T ls places w (q + i)) → cycles_from w.words q n ≤ 16

-- behind a word of a layout another one stands, which is none of empty cycles
pub record GoesOn (l : VWords) (p : ℕ) : Type 0 where
  pub word : VirtualWord
  pub next : slice_get l.words (suc p) ≡ Some word
  pub other : is_drain word ≡ false

-- the way out of a split: at once to an entrance, or by empty cycles
pub data LeavesAt (l : VWords) (q : ℕ) : Type 0 where
  at_once : (to : ℕ) → slice_get l.words q ≡ Some (Transfer to) → LeavesAt l q
  by_empty : (n : ℕ) → slice_get l.words q ≡ Some (Drain n) → LeavesAt l q

-- a layout goes on so behind empty cycles and behind calls, and so its splits are left
pub record IsSpaced (l : VWords) : Type 0 where
  pub splits : (p r i test q : ℕ) (y : Bool) (items : List Laid) → slice_get l.words p ≡ Some (Planned r i items) → IsIn (Split test y q) items → LeavesAt l q
  pub drains : (p n : ℕ) → slice_get l.words p ≡ Some (Drain n) → GoesOn l p
  pub calls : (p g : ℕ) (arguments : List Operand) (result : Option ℕ) → slice_get l.words p ≡ Some (Calls g arguments result) → GoesOn l p

-- Each layout of a graph of regions is spaced.
abbrev pub SpacedLaw : Type 0
SpacedLaw = (m : MixedGraph) → IsSpaced (layout_of m)

abbrev pub AreSpaced : List VWords → Type 0
AreSpaced ls = (f : ℕ) (l : VWords) → slice_get ls f ≡ Some l → IsSpaced l
