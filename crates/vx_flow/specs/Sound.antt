-- When a graph is sound, and when the graphs of a program are: first the test, then the same in words.
use Rattle.std.specs.Prelude.{if◌then◌else◌, ◌≡◌, ◌<◌, ◌≤◌, ◌⊎◌, ℕ, zero, ℤ, pos, Bool, true, false, ◌&&◌, ◌||◌, not, ◌==◌, nat_lt, List, [], ◌∷◌, length, Option, Some, None, slice_get}
use Rattle.std.specs.List.{list_all, list_any}
use Rattle.vx_base.specs.declared.arithmetic.Code.{Code}
use Rattle.vx_base.specs.declared.arithmetic.Code.TheVariants.{Mov, ToBranch}
use Rattle.vx_flow.specs.declared.graph.Operand.{Operand}
use Rattle.vx_flow.specs.declared.graph.Operand.TheVariants.{Held, Number, Stack}
use Rattle.vx_flow.specs.declared.graph.Bank.{Bank}
use Rattle.vx_flow.specs.declared.graph.Bank.TheVariants.{General, Branch}
use Rattle.vx_flow.specs.declared.graph.Op.{Op}
use Rattle.vx_flow.specs.declared.graph.Op.TheVariants.{Compute, Select, Place, Load, Store, More, Input, Text, Decimal, Across, Base, PlaceIn}
use Rattle.vx_flow.specs.declared.graph.Exit.{Exit}
use Rattle.vx_flow.specs.declared.graph.Exit.TheVariants.{Goto, Split, Call, Return, Ends}
use Rattle.vx_flow.specs.declared.graph.Block.{Block}
use Rattle.vx_flow.specs.declared.graph.Array.{Array}
use Rattle.vx_flow.specs.declared.graph.Graph.{Graph}
use Rattle.vx_flow.specs.declared.graph.Global.{Global}
use Rattle.vx_flow.specs.declared.graph.Flow.{Flow}
use Rattle.vx_flow.specs.Effects.{IsIn, reads, writes}

-- values, operands, arrays

abbrev pub is_bank : Bank → Option Bank → Bool
is_bank General (Some General) = true
is_bank Branch (Some Branch) = true
is_bank bank found = false

abbrev pub is_general : List Bank → ℕ → Bool
is_general banks v = is_bank General (slice_get banks v)

abbrev pub is_branch : List Bank → ℕ → Bool
is_branch banks v = is_bank Branch (slice_get banks v)

-- a number, or a general value that is there
abbrev pub is_operand : List Bank → Operand → Bool
is_operand banks (Held v) = is_general banks v
is_operand banks (Number n) = true
is_operand banks Stack = false

abbrev pub is_zero : Operand → Bool
is_zero (Number (pos zero)) = true
is_zero x = false

-- what stands as the right operand of a move is no operand
abbrev pub is_right : List Bank → Code → Operand → Bool
is_right banks Mov x = is_zero x
is_right banks code x = is_operand banks x

-- a compare to a branch value writes one, every other code a general value
abbrev pub is_written : List Bank → Code → ℕ → Bool
is_written banks (ToBranch compare) v = is_branch banks v
is_written banks code v = is_general banks v

abbrev pub is_given : Option ℕ → Bool
is_given None = false
is_given (Some v) = true

-- the array is one that was handed over: where it stands is what its base holds
abbrev pub has_base : Array → Bool
has_base array = is_given array.base

abbrev pub is_own_array : Array → Bool
is_own_array array = not array.global && not (has_base array)

abbrev pub is_own : Option Array → Bool
is_own None = false
is_own (Some array) = is_own_array array

-- the array is a local one of the function: no global, and none that was handed over
abbrev pub is_local : List Array → ℕ → Bool
is_local arrays a = is_own (slice_get arrays a)

abbrev pub base_of : Option Array → Option ℕ
base_of None = None
base_of (Some array) = array.base

-- the value that holds where array a stands, where it was handed over
abbrev pub base_at : List Array → ℕ → Option ℕ
base_at arrays a = base_of (slice_get arrays a)

abbrev pub is_handed : List Array → ℕ → Bool
is_handed arrays a = is_given (base_at arrays a)

abbrev pub is_that : ℕ → Option ℕ → Bool
is_that v None = false
is_that v (Some u) = u == v

-- what an operation and an exit name is there and of its kind

abbrev pub is_sound_operation : List Bank → (arrays : ℕ) → Op → Bool
is_sound_operation banks arrays (Compute code v a b) = is_written banks code v && is_operand banks a && is_right banks code b
is_sound_operation banks arrays (Select v p a b) = is_general banks v && is_branch banks p && is_operand banks a && is_operand banks b
is_sound_operation banks arrays (Place v a i) = is_general banks v && nat_lt a arrays && is_operand banks i
is_sound_operation banks arrays (Load v a p dismissible) = is_general banks v && nat_lt a arrays && is_operand banks p
is_sound_operation banks arrays (Store a p x) = nat_lt a arrays && is_operand banks p && is_operand banks x
is_sound_operation banks arrays (More v) = is_general banks v
is_sound_operation banks arrays (Input v) = is_general banks v
is_sound_operation banks arrays (Text n) = true
is_sound_operation banks arrays (Decimal x) = is_operand banks x
is_sound_operation banks arrays (Across v u) = false
is_sound_operation banks arrays (Base v a x) = is_general banks v && nat_lt a arrays
is_sound_operation banks arrays (PlaceIn v a u i) = is_general banks v && nat_lt a arrays && is_general banks u && is_operand banks i

abbrev pub is_general_or_none : List Bank → Option ℕ → Bool
is_general_or_none banks None = true
is_general_or_none banks (Some v) = is_general banks v

abbrev pub is_sound_exit : List Bank → (blocks : ℕ) → Exit → Bool
is_sound_exit banks blocks (Goto c) = nat_lt c blocks
is_sound_exit banks blocks (Split p c d) = is_branch banks p && nat_lt c blocks && nat_lt d blocks
is_sound_exit banks blocks (Call g arguments result next) = list_all (is_operand banks) arguments && is_general_or_none banks result && nat_lt next blocks
is_sound_exit banks blocks (Return x) = is_operand banks x
is_sound_exit banks blocks (Ends k) = true

-- arrays and bases agree

abbrev pub is_stack : Operand → Bool
is_stack (Held v) = false
is_stack (Number n) = false
is_stack Stack = true

-- in words the base of a local array is made from the stack pointer, that of a global one from 0; what was handed over has one
abbrev pub is_made_from : Option Array → Operand → Bool
is_made_from None x = false
is_made_from (Some array) x = not (has_base array) && (if array.global then is_zero x else is_stack x)

-- a place is made by the base of the array where the array was handed over, and nowhere else
abbrev pub is_based : List Array → Op → Bool
is_based arrays (Place v a i) = not (is_handed arrays a)
is_based arrays (Base v a x) = is_made_from (slice_get arrays a) x
is_based arrays (PlaceIn v a u i) = is_that u (base_at arrays a)
is_based arrays op = true

-- places of local arrays, and of those that were handed over

abbrev pub is_value : ℕ → Operand → Bool
is_value v (Held u) = u == v
is_value v (Number n) = false
is_value v Stack = false

abbrev pub is_right_value : ℕ → Code → Operand → Bool
is_right_value v Mov x = false
is_right_value v code x = is_value v x

-- the operation leaves value v to the places of array a: it writes v only as a place of a, and reads it only as the place
-- of a load or store of a
abbrev pub keeps_place : (v a : ℕ) → Op → Bool
keeps_place v a (Compute code u x y) = not (u == v) && not (is_value v x) && not (is_right_value v code y)
keeps_place v a (Select u p x y) = not (u == v) && not (p == v) && not (is_value v x) && not (is_value v y)
keeps_place v a (Place u b i) = (not (u == v) || (b == a)) && not (is_value v i)
keeps_place v a (Load u b p dismissible) = not (u == v) && (not (is_value v p) || (b == a))
keeps_place v a (Store b p x) = (not (is_value v p) || (b == a)) && not (is_value v x)
keeps_place v a (More u) = not (u == v)
keeps_place v a (Input u) = not (u == v)
keeps_place v a (Text n) = true
keeps_place v a (Decimal x) = not (is_value v x)
keeps_place v a (Across u w) = not (u == v) && not (w == v)
keeps_place v a (Base u b x) = not (u == v)
keeps_place v a (PlaceIn u b w i) = (not (u == v) || (b == a)) && not (is_value v i) && not (w == v)

abbrev pub is_result : ℕ → Option ℕ → Bool
is_result v None = false
is_result v (Some u) = u == v

-- the exit neither reads nor writes v
abbrev pub leaves_alone : ℕ → Exit → Bool
leaves_alone v (Goto c) = true
leaves_alone v (Split p c d) = not (p == v)
leaves_alone v (Call g arguments result next) = list_all (λ x. not (is_value v x)) arguments && not (is_result v result)
leaves_alone v (Return x) = not (is_value v x)
leaves_alone v (Ends k) = true

abbrev pub block_keeps : (v a : ℕ) → Block → Bool
block_keeps v a block = list_all (keeps_place v a) block.ops && leaves_alone v block.exit

-- value v is a place of array a and nothing else
abbrev pub is_only_place : Graph → (v a : ℕ) → Bool
is_only_place g v a = list_all (λ p. not (p == v)) g.parameters && list_all (block_keeps v a) g.blocks

abbrev pub is_place_in : (v a : ℕ) → Op → Bool
is_place_in v a (Place u b i) = (u == v) && (b == a)
is_place_in v a (PlaceIn u b w i) = (u == v) && (b == a)
is_place_in v a op = false

abbrev pub has_place_in : (v a : ℕ) → Block → Bool
has_place_in v a block = list_any (is_place_in v a) block.ops

-- a value that a place of the array writes
abbrev pub is_placed_by : Graph → ℕ → Operand → Bool
is_placed_by g a (Held v) = list_any (has_place_in v a) g.blocks
is_placed_by g a (Number n) = false
is_placed_by g a Stack = false

-- a number, or such a value
abbrev pub is_placed : Graph → ℕ → Operand → Bool
is_placed g a (Held v) = is_placed_by g a (Held v)
is_placed g a (Number n) = true
is_placed g a Stack = false

-- the place of an access to a local array is such a number or value; to an array that was handed over it is such a value
abbrev pub is_placed_in : Graph → ℕ → Operand → Bool
is_placed_in g a p = (not (is_local g.arrays a) || is_placed g a p) && (not (is_handed g.arrays a) || is_placed_by g a p)

abbrev pub is_access_placed : Graph → Op → Bool
is_access_placed g (Load v a p dismissible) = is_placed_in g a p
is_access_placed g (Store a p x) = is_placed_in g a p
is_access_placed g op = true

-- bases

-- the operation leaves value v to bases: it writes v only as one, and reads it only as the base of a place
abbrev pub keeps_base : ℕ → Op → Bool
keeps_base v (Compute code u x y) = not (u == v) && not (is_value v x) && not (is_right_value v code y)
keeps_base v (Select u p x y) = not (u == v) && not (p == v) && not (is_value v x) && not (is_value v y)
keeps_base v (Place u b i) = not (u == v) && not (is_value v i)
keeps_base v (Load u b p dismissible) = not (u == v) && not (is_value v p)
keeps_base v (Store b p x) = not (is_value v p) && not (is_value v x)
keeps_base v (More u) = not (u == v)
keeps_base v (Input u) = not (u == v)
keeps_base v (Text n) = true
keeps_base v (Decimal x) = not (is_value v x)
keeps_base v (Across u w) = not (u == v) && not (w == v)
keeps_base v (Base u b x) = true
keeps_base v (PlaceIn u b w i) = not (u == v) && not (is_value v i)

-- the exit reads v only as an argument, and does not write it
abbrev pub leaves_base : ℕ → Exit → Bool
leaves_base v (Goto c) = true
leaves_base v (Split p c d) = not (p == v)
leaves_base v (Call g arguments result next) = not (is_result v result)
leaves_base v (Return x) = not (is_value v x)
leaves_base v (Ends k) = true

abbrev pub block_keeps_base : ℕ → Block → Bool
block_keeps_base v block = list_all (keeps_base v) block.ops && leaves_base v block.exit

abbrev pub is_parameter : Graph → ℕ → Bool
is_parameter g v = list_any (λ p. p == v) g.parameters

-- a place is only a place where its array is local or was handed over, and a base that is made is only a base and no parameter
abbrev pub is_kept : Graph → Op → Bool
is_kept g (Place v a i) = not (is_local g.arrays a) || is_only_place g v a
is_kept g (PlaceIn v a u i) = is_only_place g v a
is_kept g (Base v a x) = not (is_parameter g v) && list_all (block_keeps_base v) g.blocks
is_kept g op = true

-- an array that was handed over has no words of its own, and its base is a parameter and only a base
abbrev pub is_handed_well : Graph → Array → Option ℕ → Bool
is_handed_well g array None = true
is_handed_well g array (Some v) = not array.global && (array.words == 0) && is_parameter g v && list_all (block_keeps_base v) g.blocks

abbrev pub is_array_kept : Graph → Array → Bool
is_array_kept g array = is_handed_well g array array.base

-- graphs

abbrev pub is_sound_in : Graph → Op → Bool
is_sound_in g op = is_sound_operation g.banks (length g.arrays) op && is_based g.arrays op && is_kept g op && is_access_placed g op

abbrev pub is_sound_block : Graph → Block → Bool
is_sound_block g block = list_all (is_sound_in g) block.ops && is_sound_exit g.banks (length g.blocks) block.exit

abbrev pub is_sound : Graph → Bool
is_sound g = list_all (is_general g.banks) g.parameters && list_all (is_sound_block g) g.blocks && list_all (is_array_kept g) g.arrays

-- programs

abbrev pub are_distinct : List ℕ → Bool
are_distinct [] = true
are_distinct (v ∷ vs) = list_all (λ u. not (u == v)) vs && are_distinct vs

abbrev pub is_global : ℕ → Array → Bool
is_global words array = array.global && (array.words == words) && not (has_base array)

abbrev pub is_no_global : Array → Bool
is_no_global array = not array.global

-- the globals in their order, with their words, and then no other global
abbrev pub begins_with : List Global → List Array → Bool
begins_with [] arrays = list_all is_no_global arrays
begins_with (g ∷ gs) [] = false
begins_with (g ∷ gs) (array ∷ arrays) = is_global g.words array && begins_with gs arrays

abbrev pub has_parameters : ℕ → Option Graph → Bool
has_parameters n None = false
has_parameters n (Some g) = length g.parameters == n

abbrev pub is_text_there : Flow → Op → Bool
is_text_there flow (Text n) = nat_lt n (length flow.texts)
is_text_there flow op = true

-- the value is the base of an array that was handed over to the graph
abbrev pub is_given_base : Graph → ℕ → Bool
is_given_base g v = list_any (λ array. is_that v array.base) g.arrays

abbrev pub makes_base : ℕ → Op → Bool
makes_base v (Base u a x) = u == v
makes_base v op = false

-- it is that, or a base that the graph makes
abbrev pub is_base : Graph → ℕ → Bool
is_base g v = is_given_base g v || list_any (λ block. list_any (makes_base v) block.ops) g.blocks

abbrev pub is_base_operand : Graph → Operand → Bool
is_base_operand g (Held v) = is_base g v
is_base_operand g (Number n) = false
is_base_operand g Stack = false

abbrev pub agrees : Bool → Bool → Bool
agrees true b = b
agrees false b = not b

-- the arguments of graph g have one parameter each of graph h, and are bases where the parameters are
abbrev pub hands_over : (g h : Graph) → List Operand → (parameters : List ℕ) → Bool
hands_over g h [] [] = true
hands_over g h [] (p ∷ ps) = false
hands_over g h (x ∷ xs) [] = false
hands_over g h (x ∷ xs) (p ∷ ps) = agrees (is_base_operand g x) (is_given_base h p) && hands_over g h xs ps

abbrev pub takes : Graph → List Operand → Option Graph → Bool
takes g arguments None = false
takes g arguments (Some h) = hands_over g h arguments h.parameters

-- the function that is called is there, and takes these arguments
abbrev pub is_call_there : Flow → Graph → Exit → Bool
is_call_there flow g (Call f arguments result next) = takes g arguments (slice_get flow.functions f)
is_call_there flow g exit = true

abbrev pub is_block_there : Flow → Graph → Block → Bool
is_block_there flow g block = list_all (is_text_there flow) block.ops && is_call_there flow g block.exit

abbrev pub is_sound_function : Flow → Graph → Bool
is_sound_function flow g =
    is_sound g && not (length g.blocks == 0) && are_distinct g.parameters && begins_with flow.globals g.arrays && list_all (is_block_there flow g) g.blocks

abbrev pub is_sound_flow : Flow → Bool
is_sound_flow flow = has_parameters 0 (slice_get flow.functions flow.main) && list_all (is_sound_function flow) flow.functions

-- The same in words

pub record HasOperation (g : Graph) (op : Op) : Type 0 where
  pub block : Block
  pub has : IsIn block g.blocks
  pub stands : IsIn op block.ops

pub record HasExit (g : Graph) (exit : Exit) : Type 0 where
  pub block : Block
  pub has : IsIn block g.blocks
  pub ends : exit ≡ block.exit

abbrev pub operands_of : Op → List Operand
operands_of (Compute Mov v a b) = a ∷ []
operands_of (Compute code v a b) = a ∷ b ∷ []
operands_of (Select v p a b) = a ∷ b ∷ []
operands_of (Place v a i) = i ∷ []
operands_of (Load v a p dismissible) = p ∷ []
operands_of (Store a p x) = p ∷ x ∷ []
operands_of (More v) = []
operands_of (Input v) = []
operands_of (Text n) = []
operands_of (Decimal x) = x ∷ []
operands_of (Across v u) = []
operands_of (Base v a x) = []
operands_of (PlaceIn v a u i) = i ∷ Held u ∷ []

abbrev pub operands_of_exit : Exit → List Operand
operands_of_exit (Goto c) = []
operands_of_exit (Split p c d) = []
operands_of_exit (Call g arguments result next) = arguments
operands_of_exit (Return x) = x ∷ []
operands_of_exit (Ends k) = []

-- a value that an operand holds is a general one
abbrev pub tests_of : Op → List ℕ
tests_of (Select v p a b) = p ∷ []
tests_of op = []

abbrev pub tests_of_exit : Exit → List ℕ
tests_of_exit (Split p c d) = p ∷ []
tests_of_exit exit = []

abbrev pub bank_written : Op → Bank
bank_written (Compute (ToBranch compare) v a b) = Branch
bank_written op = General

abbrev pub results_of_exit : Exit → List ℕ
results_of_exit (Call g arguments (Some v) next) = v ∷ []
results_of_exit exit = []

abbrev pub targets_of : Exit → List ℕ
targets_of (Goto c) = c ∷ []
targets_of (Split p c d) = c ∷ d ∷ []
targets_of (Call g arguments result next) = next ∷ []
targets_of (Return x) = []
targets_of (Ends k) = []

-- an edge leads from one block to the other
pub record Leads (blocks : List Block) (from to : ℕ) : Type 0 where
  pub block : Block
  pub has : slice_get blocks from ≡ Some block
  pub leads : IsIn to (targets_of block.exit)

abbrev pub arrays_of : Op → List ℕ
arrays_of (Place v a i) = a ∷ []
arrays_of (Base v a x) = a ∷ []
arrays_of (PlaceIn v a u i) = a ∷ []
arrays_of (Load v a p dismissible) = a ∷ []
arrays_of (Store a p x) = a ∷ []
arrays_of op = []

-- a load or store of array a at a place
pub data IsAccess (a : ℕ) (p : Operand) : Op → Type 0 where
  loads : {v : ℕ} {dismissible : Bool} → IsAccess a p (Load v a p dismissible)
  stores : {x : Operand} → IsAccess a p (Store a p x)

-- the bank of a value that is there
abbrev pub Has : Graph → ℕ → Bank → Type 0
Has g v bank = slice_get g.banks v ≡ Some bank

-- an operand of a graph: a number, or a general value that is there
abbrev pub IsOperandOf : Graph → Operand → Type 0
IsOperandOf g (Held v) = Has g v General
IsOperandOf g (Number n) = Unit {0}
IsOperandOf g Stack = ⊥

-- the operation makes value v a place of array a
pub data MakesPlace (v a : ℕ) : Op → Type 0 where
  by_itself : {i : Operand} → MakesPlace v a (Place v a i)
  by_base : {u : ℕ} {i : Operand} → MakesPlace v a (PlaceIn v a u i)

-- value v is a place of array a, which is the function's own or was handed over
pub data IsPlace (g : Graph) (v a : ℕ) : Type 0 where
  in_own : (i : Operand) → HasOperation g (Place v a i) → is_local g.arrays a ≡ true → IsPlace g v a
  in_handed : (u : ℕ) (i : Operand) → HasOperation g (PlaceIn v a u i) → IsPlace g v a

-- such a value is read by an operation only as the place of a load or store of a, and that is not stored
pub record ReadAsPlace (v a : ℕ) (op : Op) : Type 0 where
  pub access : IsAccess a (Held v) op
  pub unstored : (x : Operand) → op ≡ Store a (Held v) x → x ≡ Held v → ⊥

-- value v is a base: of an array that was handed over, or one that the graph makes
pub data IsBase (g : Graph) (v : ℕ) : Type 0 where
  given : (a : ℕ) → base_at g.arrays a ≡ Some v → IsBase g v
  made : (a : ℕ) (x : Operand) → HasOperation g (Base v a x) → IsBase g v

-- the base of array a is made from x, and the array was not handed over
pub record IsMadeFrom (g : Graph) (a : ℕ) (x : Operand) : Type 0 where
  pub array : Array
  pub is : slice_get g.arrays a ≡ Some array
  pub bare : array.base ≡ None
  pub from : x ≡ (if array.global then Number (pos 0) else Stack)

pub record Sound (g : Graph) : Type 0 where
  -- what is named is there, and kinds agree
  pub parameters : (v : ℕ) → IsIn v g.parameters → Has g v General
  pub operands : (op : Op) (x : Operand) → HasOperation g op → IsIn x (operands_of op) → IsOperandOf g x
  pub results : (op : Op) (v : ℕ) → HasOperation g op → IsIn v (writes op) → Has g v (bank_written op)
  pub tests : (op : Op) (v : ℕ) → HasOperation g op → IsIn v (tests_of op) → Has g v Branch
  pub arrays : (op : Op) (a : ℕ) → HasOperation g op → IsIn a (arrays_of op) → a < length g.arrays
  pub exit_operands : (exit : Exit) (x : Operand) → HasExit g exit → IsIn x (operands_of_exit exit) → IsOperandOf g x
  pub exit_results : (exit : Exit) (v : ℕ) → HasExit g exit → IsIn v (results_of_exit exit) → Has g v General
  pub exit_tests : (exit : Exit) (v : ℕ) → HasExit g exit → IsIn v (tests_of_exit exit) → Has g v Branch
  pub targets : (exit : Exit) (c : ℕ) → HasExit g exit → IsIn c (targets_of exit) → c < length g.blocks
  pub no_across : (v u : ℕ) → HasOperation g (Across v u) → ⊥
  -- a base is made of an array that was not handed over, and a place is made by the base of an array that was
  pub base_from : (v a : ℕ) (x : Operand) → HasOperation g (Base v a x) → IsMadeFrom g a x
  pub place_bare : (v a : ℕ) (i : Operand) → HasOperation g (Place v a i) → base_at g.arrays a ≡ None
  pub place_base : (v a u : ℕ) (i : Operand) → HasOperation g (PlaceIn v a u i) → base_at g.arrays a ≡ Some u
  -- a place of a local array, or of one that was handed over, is nothing else
  pub place_written : (v a : ℕ) (op : Op) → IsPlace g v a → HasOperation g op → IsIn v (writes op) → MakesPlace v a op
  pub place_read : (v a : ℕ) (op : Op) → IsPlace g v a → HasOperation g op → IsIn v (reads op) → ReadAsPlace v a op
  pub place_parameter : (v a : ℕ) → IsPlace g v a → IsIn v g.parameters → ⊥
  pub place_exit : (v a : ℕ) (exit : Exit) → IsPlace g v a → HasExit g exit → IsIn (Held v) (operands_of_exit exit) ⊎ IsIn v (results_of_exit exit) → ⊥
  -- a local array is accessed at its places and at numbers alone
  pub placed : (a : ℕ) (p : Operand) (op : Op) → HasOperation g op → IsAccess a p op → is_local g.arrays a ≡ true → ((n : ℤ) × (p ≡ Number n)) ⊎ ((v : ℕ) × (p ≡ Held v) × IsPlace g v a)
  -- one that was handed over is accessed at its places alone
  pub placed_by : (a u : ℕ) (p : Operand) (op : Op) → HasOperation g op → IsAccess a p op → base_at g.arrays a ≡ Some u → (v : ℕ) × (p ≡ Held v) × IsPlace g v a
  -- an array that was handed over has no words of its own, and its base is a parameter
  pub handed : (a v : ℕ) (array : Array) → slice_get g.arrays a ≡ Some array → array.base ≡ Some v → (array.global ≡ false) × (array.words ≡ 0) × IsIn v g.parameters
  -- a base is written only as one, by no call, and no parameter is; it is read only as the base of a place and as an argument
  pub base_written : (v : ℕ) (op : Op) → IsBase g v → HasOperation g op → IsIn v (writes op) → (a : ℕ) × (x : Operand) × (op ≡ Base v a x)
  pub base_parameter : (v a : ℕ) (x : Operand) → HasOperation g (Base v a x) → IsIn v g.parameters → ⊥
  pub base_read : (v : ℕ) (op : Op) → IsBase g v → HasOperation g op → IsIn v (reads op) → (w a : ℕ) × (i : Operand) × (op ≡ PlaceIn w a v i) × (i ≡ Held v → ⊥)
  pub base_result : (v : ℕ) (exit : Exit) → IsBase g v → HasExit g exit → IsIn v (results_of_exit exit) → ⊥
  pub base_returned : (v : ℕ) (x : Operand) → IsBase g v → HasExit g (Return x) → x ≡ Held v → ⊥
  pub moves : (v : ℕ) (a b : Operand) → HasOperation g (Compute Mov v a b) → b ≡ Number (pos 0)

-- function f is there, with so many parameters
pub record Callable (flow : Flow) (f count : ℕ) : Type 0 where
  pub graph : Graph
  pub is : slice_get flow.functions f ≡ Some graph
  pub parameters : length graph.parameters ≡ count

-- an operand that is a base
pub data IsBaseOperand (g : Graph) : Operand → Type 0 where
  base : {v : ℕ} → IsBase g v → IsBaseOperand g (Held v)

-- the parameter is the base of an array that was handed over
pub record IsGivenBase (g : Graph) (p : ℕ) : Type 0 where
  pub array : ℕ
  pub base : base_at g.arrays array ≡ Some p

-- array i is there, and is a global of so many words; it has no base
pub record HasGlobal (arrays : List Array) (i words : ℕ) : Type 0 where
  pub array : Array
  pub is : slice_get arrays i ≡ Some array
  pub global : array.global ≡ true
  pub size : array.words ≡ words
  pub base : array.base ≡ None

pub record SoundFlow (flow : Flow) : Type 0 where
  -- every graph is sound, has a block, and has no parameter twice
  pub graphs : (g : Graph) → IsIn g flow.functions → Sound g
  pub blocks : (g : Graph) → IsIn g flow.functions → 0 < length g.blocks
  pub parameters : (g : Graph) (i j v : ℕ) → IsIn g flow.functions → i < j → slice_get g.parameters i ≡ Some v → slice_get g.parameters j ≡ Some v → ⊥
  -- what is called and printed is there; main has no parameter, and a call has an argument for each
  pub main : Callable flow flow.main 0
  pub calls : (g : Graph) (f next : ℕ) (arguments : List Operand) (result : Option ℕ) → IsIn g flow.functions → HasExit g (Call f arguments result next) → Callable flow f (length arguments)
  -- an argument is a base exactly where its parameter is
  pub handed : (g h : Graph) (f next k p : ℕ) (arguments : List Operand) (result : Option ℕ) (x : Operand) → IsIn g flow.functions → HasExit g (Call f arguments result next)
      → slice_get flow.functions f ≡ Some h → slice_get arguments k ≡ Some x → slice_get h.parameters k ≡ Some p → (IsBaseOperand g x → IsGivenBase h p) × (IsGivenBase h p → IsBaseOperand g x)
  pub texts : (g : Graph) (n : ℕ) → IsIn g flow.functions → HasOperation g (Text n) → n < length flow.texts
  -- the arrays of a graph begin with the globals in their order, with their words; no later one is global
  pub globals : (g : Graph) (i : ℕ) (x : Global) → IsIn g flow.functions → slice_get flow.globals i ≡ Some x → HasGlobal g.arrays i x.words
  pub own : (g : Graph) (i : ℕ) (array : Array) → IsIn g flow.functions → slice_get g.arrays i ≡ Some array → length flow.globals ≤ i → array.global ≡ false
