-- Descriptions that are read and refused, by computation.
use Rattle.std.proofs.Common.{◌≡◌, ℕ, List, [], ◌∷◌, ◌++◌, Ok, Err, codes, refl}
use Rattle.toml.specs.Parse.{parse_document}
use Rattle.toml.proofs.OnLiterals.{toml_on_literals}
use Rattle.vx_isa.specs.Numbers.{vex}
use Rattle.vx_machine.specs.declared.description.MachineFault.TheVariants.{Bad}
use Rattle.vx_machine.specs.Descriptions.{names, of_table}

abbrev rest : List ℕ
rest = codes "alus = 4\nmultipliers = 2\nmemory_units = 1\nregisters = 64\nbranch_registers = 8\nread_ports = 8\nwrite_ports = 4\ncopy_paths = 2\nlatency_alu = 1\nlatency_compare = 2\nlatency_multiply = 2\nlatency_load = 3\nlatency_divide = 8\nlatency_copy = 1\n"

default_machine : of_table (parse_document (codes "clusters = 4\nissue = 4\n" ++ rest)) ≡ Ok (vex 4)
unfolding toml_on_literals names
default_machine = refl

five_slots : of_table (parse_document (codes "clusters = 4\nissue = 5\n" ++ rest)) ≡ Err (Bad 3 2)
unfolding toml_on_literals names
five_slots = refl

no_slots : of_table (parse_document (codes "clusters = 4\n" ++ rest)) ≡ Err (Bad 2 2)
unfolding toml_on_literals names
no_slots = refl

speed : of_table (parse_document (codes "speed = 1\nclusters = 4\nissue = 4\n" ++ rest)) ≡ Err (Bad 4 0)
unfolding toml_on_literals names
speed = refl

empty : of_table (parse_document []) ≡ Err (Bad 2 1)
unfolding toml_on_literals names
empty = refl

broken : of_table (parse_document (codes "a =")) ≡ Err (Bad 1 0)
unfolding toml_on_literals names
broken = refl

-- two issue slots serve four read ports at most
ports_by_slots : of_table (parse_document (codes "clusters = 4\nissue = 2\n" ++ rest)) ≡ Err (Bad 3 8)
unfolding toml_on_literals names
ports_by_slots = refl

-- a key that is no field comes before any fault of a field
speed_first : of_table (parse_document (codes "speed = 1\nclusters = 5\n")) ≡ Err (Bad 4 0)
unfolding toml_on_literals names
speed_first = refl

text_for_a_number : of_table (parse_document (codes "clusters = \"4\"\n")) ≡ Err (Bad 3 1)
unfolding toml_on_literals names
text_for_a_number = refl

past_64_bits : of_table (parse_document (codes "clusters = 9223372036854775808\n")) ≡ Err (Bad 1 0)
unfolding toml_on_literals names
past_64_bits = refl

-- a byte order mark says nothing
mark : of_table (parse_document (239 ∷ 187 ∷ 191 ∷ codes "clusters = 5\n")) ≡ Err (Bad 3 1)
unfolding toml_on_literals names
mark = refl

-- of the branches nothing may be said, and they are looked at last

two_branches : of_table (parse_document (codes "branches = 2\nclusters = 4\nissue = 4\n" ++ rest)) ≡ Ok (record (vex 4) { branches = 2 })
unfolding toml_on_literals names
two_branches = refl

three_branches : of_table (parse_document (codes "branches = 3\nclusters = 4\nissue = 4\n" ++ rest)) ≡ Err (Bad 3 17)
unfolding toml_on_literals names
three_branches = refl

no_branches : of_table (parse_document (codes "branches = 0\nclusters = 4\nissue = 4\n" ++ rest)) ≡ Err (Bad 3 17)
unfolding toml_on_literals names
no_branches = refl

branches_last : of_table (parse_document (codes "branches = 3\nclusters = 4\n" ++ rest)) ≡ Err (Bad 2 2)
unfolding toml_on_literals names
branches_last = refl
