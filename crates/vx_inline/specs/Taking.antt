-- What value of the caller each value of the callee takes, as a table.
use Rattle.std.specs.Prelude.{◌≡◌, ℕ, List, length, map, slice_get, slice_index_or}
use Rattle.vx_flow.specs.declared.graph.Bank.{Bank}
use Rattle.vx_flow.specs.Walk.{numbers}
use Rattle.vx_inline.specs.declared.by_bank.ByBank.{ByBank}
use Rattle.vx_inline.specs.Inlined.{bank_of, beside}
use Rattle.vx_inline.specs.Values.{of_bank}

abbrev pub taken_in : ByBank → ByBank → Bank → ℕ → ℕ
taken_in named free bank v = beside (of_bank named bank) (of_bank free bank) v

abbrev pub taken_by : List Bank → ByBank → ByBank → ℕ → ℕ
taken_by banks named free v = taken_in named free (bank_of (slice_get banks v)) v

-- what a table tells of a value; itself where it tells nothing
abbrev pub value_at : List ℕ → ℕ → ℕ
value_at to v = slice_index_or to v v

-- the table has what each value of these banks takes
abbrev pub Tells : List Bank → (named free : ByBank) → List ℕ → Type 0
Tells banks named free to = to ≡ map (taken_by banks named free) (numbers 0 (length banks))
