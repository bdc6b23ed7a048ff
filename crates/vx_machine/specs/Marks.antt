-- A mark for each register that an operation of a word has written, by a number of its own.
use Rattle.std.specs.Prelude.{ℕ, ◌+◌, ◌*◌, ◌<◌, Bool, true, false, ◌||◌, List, [], ◌∷◌, slice_index_or, slice_set}
use Rattle.vx_isa.specs.declared.operation.Register.{Register}
use Rattle.vx_isa.specs.declared.operation.Register.TheVariants.{General, Branch, Link}

-- the number of a register, below 289 for those that a machine may have: clusters 0 to 3, general registers 0 to 63,
-- branch registers 0 to 7
abbrev pub mark_of : Register → ℕ
mark_of (General r) = 64 * r.cluster + r.number
mark_of (Branch r) = 256 + (8 * r.cluster + r.number)
mark_of Link = 288

abbrev pub HasMark : Register → Type 0
HasMark (General r) = (r.cluster < 4) × (r.number < 64)
HasMark (Branch r) = (r.cluster < 4) × (r.number < 8)
HasMark Link = Unit {0}

-- one of the registers is marked, or comes twice
abbrev pub is_marked_or_twice : List Bool → List Register → Bool
is_marked_or_twice marks [] = false
is_marked_or_twice marks (r ∷ rs) = slice_index_or marks (mark_of r) false || is_marked_or_twice (slice_set marks (mark_of r) true) rs
