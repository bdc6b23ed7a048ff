-- A worked word of two branches: both targets and the next place are followed, and version 1 does not have it.
use Rattle.std.proofs.Common.{◌≡◌, ℕ, true, pos, List, [], ◌∷◌, inl, inr, refl, arith}
use Rattle.vx_base.specs.Paths.{first, here}
use Rattle.vx_base.specs.declared.arithmetic.Code.TheVariants.{Mpylu}
use Rattle.vx_isa.specs.declared.operation.GeneralRegister.{GeneralRegister}
use Rattle.vx_isa.specs.declared.operation.Register.TheVariants.{General}
use Rattle.vx_isa.specs.declared.operation.Source.TheVariants.{Held, Number}
use Rattle.vx_isa.specs.declared.operation.Operation.{Operation}
use Rattle.vx_isa.specs.declared.operation.Operation.TheVariants.{Compute, BranchOn, Halt}
use Rattle.vx_isa.specs.declared.program.Word.{Word}
use Rattle.vx_isa.specs.declared.program.WordProgram.{WordProgram}
use Rattle.vx_isa.specs.Numbers.{Numbers, vex}
use Rattle.vx_isa.specs.Fits.{fits}
use Rattle.vx_isa.specs.Machine.{issuing_machine}
use Rattle.vx_check.specs.Checked.{IsEarly, IsUnfit}
use Rattle.vx_check.specs.InFlight.{places_of}

abbrev of_two : Numbers
of_two = record (vex 1) { branches = 2 }

abbrev r3 : GeneralRegister
r3 = record { cluster = 0; number = 3 }

abbrev alone : Operation → Word
alone op = record { ops = op ∷ []; idle = 0 }

abbrev two_ways : List Operation
two_ways = Compute 0 Mpylu (General r3) (Number (pos 7)) (Number (pos 5)) ∷ BranchOn 0 true 2 ∷ BranchOn 1 true 3 ∷ []

-- a product is awaited at the second target alone, a word too early
abbrev both : (version : ℕ) → WordProgram
both version = record {
  version = version;
  memory = 0;
  start = [];
  texts = [];
  words = record { ops = two_ways; idle = 0 } ∷ alone (Halt (Number (pos 0))) ∷ alone (Halt (Number (pos 1))) ∷ alone (Halt (Held r3)) ∷ [];
}

leads_three_ways : places_of two_ways 1 ≡ 2 ∷ 3 ∷ 1 ∷ []
leads_three_ways = refl

second_target_reads_early : IsEarly of_two (both 2) 3
second_target_reads_early = record {
  writer = 0;
  register = General r3;
  latency = 2;
  since = 1;
  reached = here;
  writes = (record { ops = two_ways; idle = 0 }, Compute 0 Mpylu (General r3) (Number (pos 7)) (Number (pos 5)), refl, inl refl, refl, refl, refl, refl);
  path = first (record { ops = two_ways; idle = 0 }, alone (Halt (Held r3)), refl, refl, inr (inl refl));
  reads = (alone (Halt (Held r3)), refl, inl refl, refl);
  early = omega arith;
}

two_branches_fit : fits (issuing_machine (both 2) of_two) two_ways ≡ true
two_branches_fit = refl

version_1_is_unfit : IsUnfit of_two (both 1) 0
version_1_is_unfit = (record { ops = two_ways; idle = 0 }, refl, refl)

one_branch_is_unfit : IsUnfit (vex 1) (both 2) 0
one_branch_is_unfit = (record { ops = two_ways; idle = 0 }, refl, refl)
