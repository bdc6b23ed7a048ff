-- Words at the edge of room, by computation.
use Rattle.std.proofs.Common.{◌≡◌, ℕ, pos, true, false, [], ◌∷◌, Some, None, refl}
use Rattle.vx_base.specs.declared.arithmetic.Code.TheVariants.{Add, Mov, ToBranch}
use Rattle.vx_base.specs.declared.arithmetic.Compare.TheVariants.{Lt}
use Rattle.vx_flow.specs.declared.graph.Operand.{Operand}
use Rattle.vx_flow.specs.declared.graph.Operand.TheVariants.{Held, Number}
use Rattle.vx_flow.specs.declared.graph.Op.TheVariants.{Compute, Select, Place, Load, Store, Text, Across}
use Rattle.vx_flow.specs.declared.trace.Homes.{Homes}
use Rattle.vx_isa.specs.Numbers.{Numbers, vex, narrow}
use Rattle.vx_room.specs.declared.items.Item.TheVariants.{Plain, Split}
use Rattle.vx_room.specs.declared.items.ClusteredItem.{ClusteredItem}
use Rattle.vx_room.specs.Room.{has_room}

-- value 0 stands on cluster 0, value 1 on cluster 1, value 2 nowhere
abbrev homes : Homes
homes = record { clusters = Some 0 ∷ Some 1 ∷ None ∷ [] }

-- `v3 = add ..` on cluster k
abbrev sum : ℕ → Operand → Operand → ClusteredItem
sum k a b = record { cluster = k; item = Plain (Compute Add 3 a b) }

abbrev number : Operand
number = Number (pos 1)

abbrev across : ℕ → ℕ → ClusteredItem
across k v = record { cluster = k; item = Plain (Across 4 v) }

abbrev split : ℕ → ClusteredItem
split k = record { cluster = k; item = Split 5 }

abbrev printing : ℕ → ClusteredItem
printing k = record { cluster = k; item = Plain (Text 0) }

abbrev place : Operand → ClusteredItem
place i = record { cluster = 0; item = Plain (Place 3 0 i) }

abbrev load : Operand → ClusteredItem
load p = record { cluster = 0; item = Plain (Load 3 0 p false) }

abbrev store : Operand → Operand → ClusteredItem
store p x = record { cluster = 0; item = Plain (Store 0 p x) }

-- wide clusters with two read ports each
abbrev two_ports : ℕ → Numbers
two_ports n = record (vex n) { read_ports = 2; memory_units = 2 }

nothing_has_room : has_room narrow homes [] ≡ true
nothing_has_room = refl

-- issue slots

four_have_room : has_room (vex 1) homes (sum 0 number number ∷ sum 0 number number ∷ sum 0 number number ∷ sum 0 number number ∷ []) ≡ true
four_have_room = refl

five_have_none : has_room (vex 1) homes (sum 0 number number ∷ sum 0 number number ∷ sum 0 number number ∷ sum 0 number number ∷ sum 0 number number ∷ []) ≡ false
five_have_none = refl

a_split_takes_a_slot : has_room narrow homes (split 0 ∷ sum 0 number number ∷ []) ≡ false
a_split_takes_a_slot = refl

a_split_has_room : has_room narrow homes (split 0 ∷ []) ≡ true
a_split_has_room = refl

-- clusters that are not there, and what stands on cluster 0

no_cluster : has_room (vex 2) homes (sum 2 number number ∷ []) ≡ false
no_cluster = refl

split_elsewhere : has_room (vex 2) homes (split 1 ∷ []) ≡ false
split_elsewhere = refl

printing_elsewhere : has_room (vex 2) homes (printing 1 ∷ []) ≡ false
printing_elsewhere = refl

two_splits : has_room (vex 1) homes (split 0 ∷ split 0 ∷ []) ≡ false
two_splits = refl

-- a machine of two branches has room for two splits and no more

abbrev of_two : Numbers
of_two = record (vex 1) { branches = 2 }

two_splits_of_two : has_room of_two homes (split 0 ∷ split 0 ∷ []) ≡ true
two_splits_of_two = refl

three_splits_of_two : has_room of_two homes (split 0 ∷ split 0 ∷ split 0 ∷ []) ≡ false
three_splits_of_two = refl

two_printings : has_room (two_ports 1) homes (printing 0 ∷ printing 0 ∷ []) ≡ false
two_printings = refl

-- read ports: repeats are counted, numbers are not

one_value_twice : has_room (two_ports 1) homes (sum 0 (Held 0) (Held 0) ∷ sum 0 number number ∷ []) ≡ true
one_value_twice = refl

one_value_thrice : has_room (two_ports 1) homes (sum 0 (Held 0) (Held 0) ∷ sum 0 (Held 0) number ∷ []) ≡ false
one_value_thrice = refl

-- a place reads the stack pointer besides its index

place_of_a_value : has_room (two_ports 1) homes (place (Held 0) ∷ []) ≡ true
place_of_a_value = refl

place_and_one_more : has_room (two_ports 1) homes (place (Held 0) ∷ sum 0 (Held 0) number ∷ []) ≡ false
place_and_one_more = refl

-- an access at a number reads the stack pointer

load_at_a_number : has_room (two_ports 1) homes (load number ∷ sum 0 (Held 0) (Held 0) ∷ []) ≡ false
load_at_a_number = refl

load_and_one_more : has_room (two_ports 1) homes (load number ∷ sum 0 (Held 0) number ∷ []) ≡ true
load_and_one_more = refl

store_at_a_number : has_room (two_ports 1) homes (store number (Held 0) ∷ []) ≡ true
store_at_a_number = refl

store_and_one_more : has_room (two_ports 1) homes (store number (Held 0) ∷ load (Held 0) ∷ []) ≡ false
store_and_one_more = refl

-- what stands as the right operand of a move is not read, and a test is no general value

abbrev choice : ClusteredItem
choice = record { cluster = 0; item = Plain (Select 3 5 (Held 0) (Held 0)) }

abbrev moved : ClusteredItem
moved = record { cluster = 0; item = Plain (Compute Mov 3 (Held 0) (Held 0)) }

choice_has_room : has_room (two_ports 1) homes (choice ∷ []) ≡ true
choice_has_room = refl

two_moves_have_room : has_room (two_ports 1) homes (moved ∷ moved ∷ []) ≡ true
two_moves_have_room = refl

three_moves_have_none : has_room (two_ports 1) homes (moved ∷ moved ∷ moved ∷ []) ≡ false
three_moves_have_none = refl

-- a compare to a branch value takes no write port

abbrev compare : ClusteredItem
compare = record { cluster = 0; item = Plain (Compute (ToBranch Lt) 5 number number) }

abbrev one_write : Numbers
one_write = record (vex 1) { write_ports = 1 }

compare_has_room : has_room one_write homes (compare ∷ sum 0 number number ∷ []) ≡ true
compare_has_room = refl

two_writes_have_none : has_room one_write homes (sum 0 number number ∷ sum 0 number number ∷ []) ≡ false
two_writes_have_none = refl

-- a copy across takes a slot and a write port where it stands, and a read port where its operand has its home

copy_has_room : has_room (vex 2) homes (across 1 0 ∷ []) ≡ true
copy_has_room = refl

copy_of_no_home : has_room (vex 2) homes (across 1 2 ∷ []) ≡ false
copy_of_no_home = refl

copy_from_no_cluster : has_room (vex 1) homes (across 0 1 ∷ []) ≡ false
copy_from_no_cluster = refl

copy_reads_at_home : has_room (two_ports 2) homes (across 1 0 ∷ sum 0 (Held 0) (Held 0) ∷ []) ≡ false
copy_reads_at_home = refl

copy_reads_nothing_here : has_room (two_ports 2) homes (across 1 0 ∷ sum 1 (Held 1) (Held 1) ∷ []) ≡ true
copy_reads_nothing_here = refl

three_copies : has_room (vex 2) homes (across 1 0 ∷ across 1 0 ∷ across 0 1 ∷ []) ≡ false
three_copies = refl
