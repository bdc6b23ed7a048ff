-- Remainders of numbers by powers of 2, which are their low bits, and what operations make of them. A result that wraps has the same
-- ones, since 2 ^ 32 is a multiple of each of these powers.
use Rattle.std.specs.Prelude.{◌≡◌, ℕ, zero, suc, ◌==◌, ◌+◌, ◌-◌, ◌%◌, ◌^◌, Bool, ◌&&◌, ℤ, pos, ◌+ℤ◌, ◌*ℤ◌, nat_le, if◌then◌else◌, Some, None}
use Rattle.vx_base.specs.Arithmetic.{unsigned, sum_of, difference_of, product_of}
use Rattle.vx_flow.specs.Effects.{Content}
use Rattle.vx_claims.specs.declared.residues.Residue.{Residue}

-- the number, where there is one, differs from the rest by a multiple of 2 ^ places
abbrev pub Agrees : Residue → Content → Type 0
Agrees c None = Unit {0}
Agrees c (Some z) = (k : ℤ) × (z ≡ c.rest +ℤ k *ℤ pos (2 ^ c.places))

-- every number
abbrev pub unknown : Residue
unknown = record { places = 0; rest = pos 0 }

-- one number
abbrev pub exactly : ℤ → Residue
exactly n = record { places = 32; rest = n }

abbrev pub fewer : ℕ → ℕ → ℕ
fewer m n = if nat_le m n then m else n

-- the low bits of a number in so many places, 32 at most
abbrev pub low_bits : (places : ℕ) → ℤ → ℕ
low_bits places n = unsigned n % 2 ^ fewer places 32

-- in how many places, so many at most, a number has no low bits
abbrev pub empty_places : (places : ℕ) → ℤ → ℕ
empty_places zero n = zero
empty_places (suc places) n = if low_bits (suc places) n == 0 then suc places else empty_places places n

-- of two the one that says more
abbrev pub finer : Residue → Residue → Residue
finer c d = if nat_le d.places c.places then c else d

abbrev pub known_of_both : Residue → Residue → ℕ
known_of_both c d = fewer (fewer c.places d.places) 32

abbrev pub sum_residue : Residue → Residue → Residue
sum_residue c d = record { places = known_of_both c d; rest = sum_of c.rest d.rest }

abbrev pub difference_residue : Residue → Residue → Residue
difference_residue c d = record { places = known_of_both c d; rest = difference_of c.rest d.rest }

-- times a number: the places that it has empty are known besides
abbrev pub times_residue : Residue → ℤ → Residue
times_residue c n = record { places = fewer c.places 32 + empty_places (32 - fewer c.places 32) n; rest = product_of c.rest n }

-- what two have in common: the places in which their rests do not differ
abbrev pub joined : Residue → Residue → Residue
joined c d = record { places = empty_places (known_of_both c d) (difference_of c.rest d.rest); rest = c.rest }

-- whether one says all that another says
abbrev pub is_implied : (known claimed : Residue) → Bool
is_implied d c = nat_le c.places (fewer d.places 32) && (low_bits c.places (difference_of d.rest c.rest) == 0)
