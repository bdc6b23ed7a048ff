-- How a description of a machine is read: a TOML table with every field as an integer at its top level. The last field may be
-- absent.
use Rattle.std.specs.Prelude.{◌≡◌, ◌↔◌, ◌⊎◌, Contains, ℕ, zero, suc, ◌+◌, ◌*◌, ℤ, pos, Bool, false, ◌||◌, not, ◌==◌, if◌then◌else◌, List, [], ◌∷◌, Option, Some, None, Result, Ok, Err, codes, option_and_then, slice_index_or}
use Rattle.std.specs.List.{list_any}
use Rattle.std.specs.Str.{bytes_eq, is_utf8}
use Rattle.toml.specs.Data.{Data, integer, as_integer, Members, no_members, member, get_member}
use Rattle.toml.specs.Parse.{parse_document}
use Rattle.vx_isa.specs.Numbers.{Numbers, IsMachine, is_between}
use Rattle.vx_machine.specs.declared.description.Field.{Field}
use Rattle.vx_machine.specs.declared.description.MachineFault.{MachineFault}
use Rattle.vx_machine.specs.declared.description.MachineFault.TheVariants.{Bad}

-- the fields, in the order of their numbers from 1

unfoldable pub names : List (List ℕ)
names =
    codes "clusters" ∷ codes "issue" ∷ codes "alus" ∷ codes "multipliers" ∷ codes "memory_units" ∷ codes "registers"
    ∷ codes "branch_registers" ∷ codes "read_ports" ∷ codes "write_ports" ∷ codes "copy_paths"
    ∷ codes "latency_alu" ∷ codes "latency_compare" ∷ codes "latency_multiply" ∷ codes "latency_load" ∷ codes "latency_divide" ∷ codes "latency_copy" ∷ codes "branches" ∷ []

abbrev pub name_of : ℕ → List ℕ
name_of zero = []
name_of (suc n) = slice_index_or names n []

abbrev pub field : ℕ → ℕ → ℕ → Field
field number least greatest = record { number = number; least = least; greatest = greatest }

-- the range of each field that must be there; three of them are counted from the issue slots
abbrev pub fields : (issue : ℕ) → List Field
fields issue =
    field 1 1 4
    ∷ field 2 1 4
    ∷ field 3 1 4
    ∷ field 4 1 4
    ∷ field 5 1 2
    ∷ field 6 16 64
    ∷ field 7 (issue + 1) 8
    ∷ field 8 2 (2 * issue)
    ∷ field 9 1 issue
    ∷ field 10 1 8
    ∷ field 11 1 16
    ∷ field 12 1 16
    ∷ field 13 1 16
    ∷ field 14 1 16
    ∷ field 15 1 16
    ∷ field 16 1 16 ∷ []

-- the field that may be absent
abbrev pub branches_field : Field
branches_field = field 17 1 2

-- some field that must be there has this number
abbrev pub is_field : ℕ → Bool
is_field n = list_any (λ f. f.number == n) (fields 4)

-- the table that a description is: TOML in UTF-8, which may begin with a byte order mark

abbrev pub table_of : List ℕ → Option Members
table_of bytes = if not (is_utf8 bytes) then None else parse_document bytes

-- the number at a field, where a whole number of at least 0 stands there, else 0

abbrev pub whole : Option ℤ → ℕ
whole (Some (pos n)) = n
whole z = 0

abbrev pub number_at : Members → ℕ → ℕ
number_at t n = whole (option_and_then as_integer (get_member (name_of n) t))

-- the branches of a word: 1 where nothing is said of them
abbrev pub whole_or_one : Option Data → ℕ
whole_or_one None = 1
whole_or_one (Some d) = whole (as_integer d)

abbrev pub branches_at : Members → ℕ
branches_at t = whole_or_one (get_member (name_of 17) t)

-- what is wrong with a description: 4 where a key is no field, else for the first field that has a fault 2 where
-- it is missing, and 3 where no integer of its range stands there; the field that may be absent is looked at last

abbrev pub has_unknown : Members → Bool
has_unknown no_members = false
has_unknown (member key d ms) = not (list_any (bytes_eq key) names) || has_unknown ms

abbrev pub is_within : Field → Option ℤ → Bool
is_within f (Some (pos n)) = is_between f.least f.greatest n
is_within f z = false

abbrev pub fault_of : Field → Option Data → Option MachineFault
fault_of f None = Some (Bad 2 f.number)
fault_of f (Some d) = if is_within f (as_integer d) then None else Some (Bad 3 f.number)

abbrev pub fault_or : Option MachineFault → Option MachineFault → Option MachineFault
fault_or (Some why) other = Some why
fault_or None other = other

abbrev pub first_fault : Members → List Field → Option MachineFault
first_fault t [] = None
first_fault t (f ∷ fs) = fault_or (fault_of f (get_member (name_of f.number) t)) (first_fault t fs)

abbrev pub fault_if_there : Field → Option Data → Option MachineFault
fault_if_there f None = None
fault_if_there f (Some d) = fault_of f (Some d)

abbrev pub machine_fault : Members → Option MachineFault
machine_fault t =
    if has_unknown t then Some (Bad 4 0)
    else fault_or (first_fault t (fields (number_at t 2))) (fault_if_there branches_field (get_member (name_of 17) t))

-- the machine that a description gives

abbrev pub numbers_of : Members → Numbers
numbers_of t = record {
  clusters = number_at t 1;
  issue = number_at t 2;
  alus = number_at t 3;
  multipliers = number_at t 4;
  memory_units = number_at t 5;
  registers = number_at t 6;
  branch_registers = number_at t 7;
  read_ports = number_at t 8;
  write_ports = number_at t 9;
  copy_paths = number_at t 10;
  latency_alu = number_at t 11;
  latency_compare = number_at t 12;
  latency_multiply = number_at t 13;
  latency_load = number_at t 14;
  latency_divide = number_at t 15;
  latency_copy = number_at t 16;
  branches = branches_at t;
}

abbrev pub numbers_unless : Option MachineFault → Numbers → Result Numbers MachineFault
numbers_unless None m = Ok m
numbers_unless (Some why) m = Err why

abbrev pub of_table : Option Members → Result Numbers MachineFault
of_table None = Err (Bad 1 0)
of_table (Some t) = numbers_unless (machine_fault t) (numbers_of t)

abbrev pub reading : List ℕ → Result Numbers MachineFault
reading bytes = of_table (table_of bytes)

-- the same in words: at each field stands an integer of its range, but that nothing may be said of the branches, which are 1
-- then, and no other key is there

pub record Describes (t : Members) (m : Numbers) : Type 0 where
  pub clusters : get_member (codes "clusters") t ≡ Some (integer (pos m.clusters))
  pub issue : get_member (codes "issue") t ≡ Some (integer (pos m.issue))
  pub alus : get_member (codes "alus") t ≡ Some (integer (pos m.alus))
  pub multipliers : get_member (codes "multipliers") t ≡ Some (integer (pos m.multipliers))
  pub memory_units : get_member (codes "memory_units") t ≡ Some (integer (pos m.memory_units))
  pub registers : get_member (codes "registers") t ≡ Some (integer (pos m.registers))
  pub branch_registers : get_member (codes "branch_registers") t ≡ Some (integer (pos m.branch_registers))
  pub read_ports : get_member (codes "read_ports") t ≡ Some (integer (pos m.read_ports))
  pub write_ports : get_member (codes "write_ports") t ≡ Some (integer (pos m.write_ports))
  pub copy_paths : get_member (codes "copy_paths") t ≡ Some (integer (pos m.copy_paths))
  pub latency_alu : get_member (codes "latency_alu") t ≡ Some (integer (pos m.latency_alu))
  pub latency_compare : get_member (codes "latency_compare") t ≡ Some (integer (pos m.latency_compare))
  pub latency_multiply : get_member (codes "latency_multiply") t ≡ Some (integer (pos m.latency_multiply))
  pub latency_load : get_member (codes "latency_load") t ≡ Some (integer (pos m.latency_load))
  pub latency_divide : get_member (codes "latency_divide") t ≡ Some (integer (pos m.latency_divide))
  pub latency_copy : get_member (codes "latency_copy") t ≡ Some (integer (pos m.latency_copy))
  pub branches : (get_member (codes "branches") t ≡ Some (integer (pos m.branches))) ⊎ ((get_member (codes "branches") t ≡ None) × (m.branches ≡ 1))
  pub ranges : IsMachine m
  pub keys : (key : List ℕ) (d : Data) → get_member key t ≡ Some d → Contains names key

-- bytes are read as a machine exactly where they are a table that describes it
abbrev pub ReadsInWords : Type 0
ReadsInWords = (bytes : List ℕ) (m : Numbers) → (reading bytes ≡ Ok m) ↔ ((t : Members) × (table_of bytes ≡ Some t) × Describes t m)
