-- When a table shows a graph sound. For each value the table notes whether it is a place of an array or a base, and where that is seen;
-- each operation, exit and array is then tested by itself. What a function takes is noted once for each of its parameters.
use Rattle.std.specs.Prelude.{ℕ, Bool, true, false, ◌&&◌, ◌||◌, not, ◌==◌, List, [], ◌∷◌, length, map, Option, Some, None, slice_get}
use Rattle.std.specs.List.{list_all}
use Rattle.vx_flow.specs.declared.graph.Operand.{Operand}
use Rattle.vx_flow.specs.declared.graph.Operand.TheVariants.{Held, Number, Stack}
use Rattle.vx_flow.specs.declared.graph.Op.{Op}
use Rattle.vx_flow.specs.declared.graph.Op.TheVariants.{Place, Load, Store, Base, PlaceIn}
use Rattle.vx_flow.specs.declared.graph.Exit.{Exit}
use Rattle.vx_flow.specs.declared.graph.Exit.TheVariants.{Goto, Split, Call, Return, Ends}
use Rattle.vx_flow.specs.declared.graph.Block.{Block}
use Rattle.vx_flow.specs.declared.graph.Array.{Array}
use Rattle.vx_flow.specs.declared.graph.Graph.{Graph}
use Rattle.vx_flow.specs.declared.graph.Flow.{Flow}
use Rattle.vx_flow.specs.declared.operands.Reads.{Reads}
use Rattle.vx_flow.specs.Operands.{read_by, written_by}
use Rattle.vx_flow.specs.Sound.{is_general, is_local, base_at, is_handed, is_that, is_sound_operation, is_sound_exit, is_based, is_place_in, makes_base, is_given_base, agrees, is_text_there}
use Rattle.vx_sound.specs.declared.origins.Origin.{Origin}
use Rattle.vx_sound.specs.declared.origins.Origin.TheVariants.{Element, Made, Given}

-- what the table notes of a value

abbrev pub origin_or_none : Option (Option Origin) → Option Origin
origin_or_none None = None
origin_or_none (Some o) = o

abbrev pub noted : List (Option Origin) → ℕ → Option Origin
noted origins v = origin_or_none (slice_get origins v)

abbrev pub is_nothing : Option Origin → Bool
is_nothing None = true
is_nothing (Some o) = false

abbrev pub is_for : ℕ → Option Origin → Bool
is_for a (Some (Element b block op)) = b == a
is_for a o = false

abbrev pub is_made_one : Option Origin → Bool
is_made_one (Some (Made block op)) = true
is_made_one o = false

abbrev pub is_given_one : Option Origin → Bool
is_given_one (Some (Given a place)) = true
is_given_one o = false

-- nothing is noted of the value
abbrev pub is_free : List (Option Origin) → ℕ → Bool
is_free origins v = is_nothing (noted origins v)

-- the value is noted as a place of array a
abbrev pub is_array : List (Option Origin) → (a v : ℕ) → Bool
is_array origins a v = is_for a (noted origins v)

-- the value is noted as a base that is made
abbrev pub is_made : List (Option Origin) → ℕ → Bool
is_made origins v = is_made_one (noted origins v)

-- the value is noted as the base of an array that was handed over
abbrev pub is_given_at : List (Option Origin) → ℕ → Bool
is_given_at origins v = is_given_one (noted origins v)

-- the noted values are places of their arrays, or bases, and nothing else

abbrev pub is_free_operand : List (Option Origin) → Operand → Bool
is_free_operand origins (Held v) = is_free origins v
is_free_operand origins (Number n) = true
is_free_operand origins Stack = true

abbrev pub is_place_or_free : List (Option Origin) → ℕ → Operand → Bool
is_place_or_free origins a (Held v) = is_free origins v || is_array origins a v
is_place_or_free origins a (Number n) = true
is_place_or_free origins a Stack = true

-- nothing is noted of the value, if there is one
abbrev pub is_free_or_none : List (Option Origin) → Option ℕ → Bool
is_free_or_none origins None = true
is_free_or_none origins (Some v) = is_free origins v

abbrev pub are_free_reads : List (Option Origin) → Reads → Bool
are_free_reads origins r = is_free_or_none origins r.first && is_free_or_none origins r.second && is_free_or_none origins r.third

-- only places of an array, and its loads and stores, write and read what is noted as such; only bases are written, and read by places
-- from them, where a base is noted
abbrev pub keeps_origins : List (Option Origin) → Op → Bool
keeps_origins origins (Place v a i) = (is_free origins v || is_array origins a v) && is_free_operand origins i
keeps_origins origins (Load v a p dismissible) = is_free origins v && is_place_or_free origins a p
keeps_origins origins (Store a p x) = is_place_or_free origins a p && is_free_operand origins x
keeps_origins origins (Base v a x) = is_made origins v
keeps_origins origins (PlaceIn v a u i) = is_array origins a v && is_free_operand origins i && is_given_at origins u
keeps_origins origins op = is_free_or_none origins (written_by op) && are_free_reads origins (read_by op)

-- what stands where it is noted

abbrev pub is_place_of : (v a : ℕ) → Option Op → Bool
is_place_of v a None = false
is_place_of v a (Some op) = is_place_in v a op

abbrev pub is_place_at : (v a i : ℕ) → Option Block → Bool
is_place_at v a i None = false
is_place_at v a i (Some block) = is_place_of v a (slice_get block.ops i)

abbrev pub is_found : List Block → (v a : ℕ) → Option Origin → Bool
is_found blocks v a (Some (Element b block op)) = is_place_at v a op (slice_get blocks block)
is_found blocks v a o = false

abbrev pub is_base_of : ℕ → Option Op → Bool
is_base_of v None = false
is_base_of v (Some op) = makes_base v op

abbrev pub is_made_at : (v i : ℕ) → Option Block → Bool
is_made_at v i None = false
is_made_at v i (Some block) = is_base_of v (slice_get block.ops i)

-- a base is made where it is noted, and one that was given is that of the array that is noted and the parameter at the place that is
abbrev pub is_base_found : Graph → ℕ → Option Origin → Bool
is_base_found g v (Some (Made block op)) = is_made_at v op (slice_get g.blocks block)
is_base_found g v (Some (Given a place)) = is_that v (base_at g.arrays a) && is_that v (slice_get g.parameters place)
is_base_found g v o = false

-- an argument may be a base
abbrev pub is_argument : List (Option Origin) → Graph → Operand → Bool
is_argument origins g (Held v) = is_free origins v || is_base_found g v (noted origins v)
is_argument origins g (Number n) = true
is_argument origins g Stack = true

abbrev pub leaves_origins : List (Option Origin) → Graph → Exit → Bool
leaves_origins origins g (Goto c) = true
leaves_origins origins g (Split p c d) = is_free origins p
leaves_origins origins g (Call f arguments result next) = list_all (is_argument origins g) arguments && is_free_or_none origins result
leaves_origins origins g (Return x) = is_free_operand origins x
leaves_origins origins g (Ends k) = true

abbrev pub is_shown_by : List (Option Origin) → Graph → ℕ → Operand → Bool
is_shown_by origins g a (Held v) = is_found g.blocks v a (noted origins v)
is_shown_by origins g a (Number n) = false
is_shown_by origins g a Stack = false

abbrev pub is_shown_place : List (Option Origin) → Graph → ℕ → Operand → Bool
is_shown_place origins g a (Held v) = is_shown_by origins g a (Held v)
is_shown_place origins g a (Number n) = true
is_shown_place origins g a Stack = false

abbrev pub is_shown_access : List (Option Origin) → Graph → ℕ → Operand → Bool
is_shown_access origins g a p = (not (is_local g.arrays a) || is_shown_place origins g a p) && (not (is_handed g.arrays a) || is_shown_by origins g a p)

-- a place of a local array is noted, and so is a base that is made; an access to a local array has a number or a value that a place of
-- the array writes, and one to an array that was handed over has such a value
abbrev pub is_origin : List (Option Origin) → Graph → Op → Bool
is_origin origins g (Place v a i) = not (is_local g.arrays a) || is_array origins a v
is_origin origins g (Load v a p dismissible) = is_shown_access origins g a p
is_origin origins g (Store a p x) = is_shown_access origins g a p
is_origin origins g (Base v a x) = is_base_found g v (noted origins v)
is_origin origins g op = true

-- the base of an array that was handed over is noted, and the array has no words of its own
abbrev pub is_shown_base : List (Option Origin) → Graph → Array → Option ℕ → Bool
is_shown_base origins g array None = true
is_shown_base origins g array (Some v) = not array.global && (array.words == 0) && is_given_at origins v && is_base_found g v (noted origins v)

abbrev pub is_shown_array : List (Option Origin) → Graph → Array → Bool
is_shown_array origins g array = is_shown_base origins g array array.base

abbrev pub is_parameter_shown : List (Option Origin) → ℕ → Bool
is_parameter_shown origins v = is_free origins v || is_given_at origins v

-- graphs

abbrev pub is_shown_in : List (Option Origin) → Graph → Op → Bool
is_shown_in origins g op = is_sound_operation g.banks (length g.arrays) op && is_based g.arrays op && keeps_origins origins op && is_origin origins g op

abbrev pub is_shown_block : List (Option Origin) → Graph → Block → Bool
is_shown_block origins g block =
    list_all (is_shown_in origins g) block.ops && is_sound_exit g.banks (length g.blocks) block.exit && leaves_origins origins g block.exit

abbrev pub is_shown : List (Option Origin) → Graph → Bool
is_shown origins g =
    list_all (is_general g.banks) g.parameters && list_all (is_parameter_shown origins) g.parameters && list_all (is_shown_block origins g) g.blocks && list_all (is_shown_array origins g) g.arrays

-- programs

-- which parameters of a function are bases
abbrev pub bases_taken : Graph → List Bool
bases_taken g = map (is_given_base g) g.parameters

-- the arguments have one parameter each, and of those that hold a value of which something is noted the parameters are bases
abbrev pub hands_shown : List (Option Origin) → List Operand → List Bool → Bool
hands_shown origins [] [] = true
hands_shown origins [] (b ∷ bs) = false
hands_shown origins (x ∷ xs) [] = false
hands_shown origins (x ∷ xs) (b ∷ bs) = agrees (not (is_free_operand origins x)) b && hands_shown origins xs bs

abbrev pub takes_shown : List (Option Origin) → List Operand → Option (List Bool) → Bool
takes_shown origins arguments None = false
takes_shown origins arguments (Some bs) = hands_shown origins arguments bs

abbrev pub is_call_shown : List (Option Origin) → (taken : List (List Bool)) → Exit → Bool
is_call_shown origins taken (Call f arguments result next) = takes_shown origins arguments (slice_get taken f)
is_call_shown origins taken exit = true

abbrev pub is_block_named : List (Option Origin) → (taken : List (List Bool)) → Flow → Block → Bool
is_block_named origins taken flow block = list_all (is_text_there flow) block.ops && is_call_shown origins taken block.exit
