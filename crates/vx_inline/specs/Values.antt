-- Which values of the caller are free where a call is, as lists that are found.
use Rattle.std.specs.Prelude.{◌&&◌, ℕ, Bool, true, false, not, if◌then◌else◌, List, [], ◌∷◌, ◌++◌, length, nat_le, slice_get, slice_set, take}
use Rattle.std.specs.List.{flat_map, filter, list_all}
use Rattle.vx_flow.specs.declared.graph.Array.{Array}
use Rattle.vx_flow.specs.declared.graph.Bank.{Bank}
use Rattle.vx_flow.specs.declared.graph.Bank.TheVariants.{General, Branch}
use Rattle.vx_flow.specs.declared.graph.Op.{Op}
use Rattle.vx_flow.specs.declared.graph.Op.TheVariants.{Compute, Select, Place, Load, Store, More, Input, Text, Decimal, Across, Base, PlaceIn}
use Rattle.vx_flow.specs.declared.graph.Block.{Block}
use Rattle.vx_flow.specs.Effects.{value_in}
use Rattle.vx_flow.specs.Operands.{value_list}
use Rattle.vx_flow.specs.Rows.{is_marked, row_at}
use Rattle.vx_flow.specs.Sound.{is_bank, is_local}
use Rattle.vx_flow.specs.Walk.{numbers}
use Rattle.vx_inline.specs.declared.by_bank.ByBank.{ByBank}
use Rattle.vx_inline.specs.Inlined.{TheCall, is_among, named}

abbrev pub of_bank : ByBank → Bank → List ℕ
of_bank values General = values.general
of_bank values Branch = values.branch

-- a table with the numbers of a list marked as well
abbrev pub marked_all : List ℕ → List Bool → List Bool
marked_all [] marks = marks
marked_all (v ∷ vs) marks = marked_all vs (slice_set marks v true)

-- a value of the bank that is marked, or one that is not
abbrev pub is_listed : List Bank → (marks : List Bool) → (marked : Bool) → Bank → ℕ → Bool
is_listed banks marks marked bank v = is_bank bank (slice_get banks v) && (if marked then is_marked marks v else not (is_marked marks v))

-- the value that an operation writes as a place of an array that is no global, or as a base
abbrev pub local_place : List Array → Op → List ℕ
local_place arrays (Compute code v a b) = []
local_place arrays (Select v p a b) = []
local_place arrays (Place v a i) = if is_local arrays a then v ∷ [] else []
local_place arrays (Load v a p dismissible) = []
local_place arrays (Store a p x) = []
local_place arrays (More v) = []
local_place arrays (Input v) = []
local_place arrays (Text n) = []
local_place arrays (Decimal x) = []
local_place arrays (Across v u) = []
local_place arrays (Base v a x) = v ∷ []
local_place arrays (PlaceIn v a u i) = v ∷ []

abbrev pub local_places : List Array → Block → List ℕ
local_places arrays block = flat_map (local_place arrays) block.ops

-- an operation writes no place of an array that is no global, and no base
abbrev pub makes_none : List Array → Op → Bool
makes_none arrays (Compute code v a b) = true
makes_none arrays (Select v p a b) = true
makes_none arrays (Place v a i) = not (is_local arrays a)
makes_none arrays (Load v a p dismissible) = true
makes_none arrays (Store a p x) = true
makes_none arrays (More v) = true
makes_none arrays (Input v) = true
makes_none arrays (Text n) = true
makes_none arrays (Decimal x) = true
makes_none arrays (Across v u) = true
makes_none arrays (Base v a x) = false
makes_none arrays (PlaceIn v a u i) = false

-- no operation of blocks writes one
abbrev pub is_bare : List Array → List Block → Bool
is_bare arrays blocks = list_all (λ (block : Block). list_all (makes_none arrays) block.ops) blocks

-- the bases of arrays that were handed over
abbrev pub given_bases : List Array → List ℕ
given_bases arrays = flat_map (λ (array : Array). value_list array.base) arrays

-- the values that are not free, where these rows list what is live at each block of the caller
abbrev pub kept : (rows : List (List ℕ)) → TheCall → List ℕ
kept rows c = row_at rows c.next ++ flat_map value_in c.arguments ++ value_list c.result ++ flat_map (local_places c.caller.arrays) c.caller.blocks ++ given_bases c.caller.arrays

-- the free ones of a bank, ascending
abbrev pub free_of : (rows : List (List ℕ)) → TheCall → Bank → List ℕ
free_of rows c bank = filter (λ v. is_bank bank (slice_get c.caller.banks v) && not (is_among (kept rows c) v)) (numbers 0 (length c.caller.banks))

-- the first free ones of a bank, at most as many as others
abbrev pub first_free : (rows : List (List ℕ)) → TheCall → (others : ByBank) → Bank → List ℕ
first_free rows c others bank = take (length (of_bank others bank)) (free_of rows c bank)

-- of a bank there are as many free ones as the callee names
abbrev pub is_enough : (rows : List (List ℕ)) → TheCall → Bank → Bool
is_enough rows c bank = nat_le (length (named c.callee bank)) (length (free_of rows c bank))

abbrev pub has_values : (rows : List (List ℕ)) → TheCall → Bool
has_values rows c = is_enough rows c General && is_enough rows c Branch
