-- Masks: the bits of a value that a mask lets through stand, where the value was made with a number that leaves them alone, in what it
-- was made of.
use Rattle.std.specs.Prelude.{ℕ, zero, suc, ◌==◌, Bool, true, false, ℤ, pos, Option, Some, None, List, [], ◌∷◌}
use Rattle.std.specs.Ordering.{int_eq}
use Rattle.vx_base.specs.Arithmetic.{value_of}
use Rattle.vx_base.specs.declared.arithmetic.Code.{Code}
use Rattle.vx_base.specs.declared.arithmetic.Code.TheVariants.{And, Or, Xor}
use Rattle.vx_flow.specs.declared.graph.Operand.{Operand}
use Rattle.vx_flow.specs.declared.graph.Operand.TheVariants.{Held, Number, Stack}
use Rattle.vx_flow.specs.declared.graph.Op.{Op}
use Rattle.vx_flow.specs.declared.graph.Op.TheVariants.{Compute}
use Rattle.vx_claims.specs.declared.fact.Fact.{Fact}
use Rattle.vx_claims.specs.declared.fact.Fact.TheVariants.{Between, Congruent, Equals, Never}
use Rattle.vx_narrow.specs.declared.one_mask.Masked.{Masked}

-- a value and a number as the two operands, in either order
abbrev pub masked_of : Operand → Operand → Option Masked
masked_of (Held u) (Number c) = Some (record { value = u; number = c })
masked_of (Number c) (Held u) = Some (record { value = u; number = c })
masked_of a b = None

abbrev pub mask_if : Bool → ℤ → Option ℤ
mask_if true m = Some m
mask_if false m = None

-- the mask that lets through of a value what m lets through of that value with c
abbrev pub mask_behind : Code → (c m : ℤ) → Option ℤ
mask_behind And c m = Some (value_of And c m)
mask_behind Or c m = mask_if (int_eq (value_of And c m) (pos 0)) m
mask_behind Xor c m = mask_if (int_eq (value_of And c m) (pos 0)) m
mask_behind code c m = None

abbrev pub with_mask : ℕ → Option ℤ → Option Masked
with_mask u None = None
with_mask u (Some m) = Some (record { value = u; number = m })

abbrev pub masked_with : Option Masked → Code → (m : ℤ) → Option Masked
masked_with None code m = None
masked_with (Some x) code m = with_mask x.value (mask_behind code x.number m)

abbrev pub found_or : Option Masked → Option Masked → Option Masked
found_or None otherwise = otherwise
found_or (Some x) otherwise = Some x

abbrev pub found_if : Bool → Option Masked → Option Masked → Option Masked
found_if true found otherwise = found_or found otherwise
found_if false found otherwise = otherwise

-- the value and mask behind value u with mask m, by the first fact that tells of some
abbrev pub behind_of : List Fact → (u : ℕ) → (m : ℤ) → Option Masked
behind_of [] u m = None
behind_of (Between w i ∷ fs) u m = behind_of fs u m
behind_of (Congruent w c ∷ fs) u m = behind_of fs u m
behind_of (Never ∷ fs) u m = behind_of fs u m
behind_of (Equals w code a b ∷ fs) u m = found_if (w == u) (masked_with (masked_of a b) code m) (behind_of fs u m)

abbrev pub masked_or : Option Masked → Masked → Masked
masked_or None x = x
masked_or (Some y) x = y

-- so many times
abbrev pub far_behind : ℕ → List Fact → Masked → Masked
far_behind zero fs x = x
far_behind (suc n) fs x = far_behind n fs (masked_or (behind_of fs x.value x.number) x)

abbrev pub mask_as : ℕ → Masked → Op
mask_as v x = Compute And v (Held x.value) (Number x.number)

-- the bits of a value that a number lets through, into v
abbrev pub far_mask : List Fact → ℕ → Operand → Operand → Op
far_mask fs v (Held u) (Number m) = mask_as v (far_behind 4 fs (record { value = u; number = m }))
far_mask fs v a b = Compute And v a b
