-- What the fields of a line can only be, read from the left. Whether they are spelled so is asked afterwards, by
-- spelling them again; so a reader need not look at what stands between the numbers.
use Rattle.std.specs.Prelude.{ℕ, zero, suc, ◌+◌, ◌-◌, ◌*◌, min, ℤ, pos, negsuc, Bool, ◌&&◌, ◌==◌, nat_le, if◌then◌else◌, List, [], ◌∷◌, drop, slice_index}
use Rattle.vx_isa.specs.declared.operation.GeneralRegister.{GeneralRegister}
use Rattle.vx_isa.specs.declared.operation.BranchRegister.{BranchRegister}
use Rattle.vx_isa.specs.declared.operation.Register.{Register}
use Rattle.vx_isa.specs.declared.operation.Register.TheVariants.{General, Branch}
use Rattle.vx_isa.specs.declared.operation.Source.{Source}
use Rattle.vx_isa.specs.declared.operation.Source.TheVariants.{Held, Number}

abbrev pub is_digit : ℕ → Bool
is_digit c = nat_le 48 c && nat_le c 57

-- the value of the digits that begin a text, behind digits of value n, and what stands behind them; what is more
-- than `most` counts as `most`
abbrev pub number_from : (most n : ℕ) → List ℕ → ℕ × List ℕ
number_from most n [] = (n, [])
number_from most n (c ∷ cs) = if is_digit c then number_from most (min most (10 * n + (c - 48))) cs else (n, c ∷ cs)

unfoldable pub number_at : List ℕ → ℕ × List ℕ
number_at text = number_from 4294967295 0 text

abbrev pub negative : ℕ → ℤ
negative zero = pos 0
negative (suc n) = negsuc n

unfoldable pub signed_at : List ℕ → ℤ × List ℕ
signed_at text =
    if slice_index text 0 == 45
    then (let n = number_from 2147483648 0 (drop 1 text) in (negative n.0, n.1))
    else (let n = number_from 2147483647 0 text in (pos n.0, n.1))

-- the cluster and the number of a register
unfoldable pub numbers_at : List ℕ → ℕ × ℕ × List ℕ
numbers_at text = let k = number_at (drop 2 text) in let n = number_at (drop 1 k.1) in (k.0, n.0, n.1)

unfoldable pub general_at : List ℕ → GeneralRegister × List ℕ
general_at text = let x = numbers_at text in (record { cluster = x.0; number = x.1 }, x.2)

unfoldable pub branch_at : List ℕ → BranchRegister × List ℕ
branch_at text = let x = numbers_at text in (record { cluster = x.0; number = x.1 }, x.2)

-- a destination: `$b` begins a branch register
unfoldable pub register_at : List ℕ → Register × List ℕ
register_at text =
    if slice_index text 1 == 98 then (Branch (branch_at text).0, (branch_at text).1) else (General (general_at text).0, (general_at text).1)

-- `$` begins a register
unfoldable pub source_at : List ℕ → Source × List ℕ
source_at text =
    if slice_index text 0 == 36 then (Held (general_at text).0, (general_at text).1) else (Number (signed_at text).0, (signed_at text).1)
