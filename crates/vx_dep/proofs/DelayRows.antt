-- Worked rows of the delay of two splits.
use Rattle.std.proofs.Common.{◌≡◌, ℕ, refl, Bool, true, false, Option, Some, []}
use Rattle.vx_flow.specs.declared.trace.TraceOp.{TraceOp}
use Rattle.vx_flow.specs.declared.trace.TraceOp.TheVariants.{Split}
use Rattle.vx_isa.specs.Numbers.{Numbers, vex}
use Rattle.vx_dep.specs.declared.mode.Mode.{Mode}
use Rattle.vx_dep.specs.declared.mode.Mode.TheVariants.{Free, Barred}
use Rattle.vx_dep.specs.Delays.{between_splits}
use Rattle.vx_dep.specs.Traits.{traits_of}
use Rattle.vx_dep.specs.Rows.{delay_of}

abbrev of_two : Numbers
of_two = record (vex 1) { branches = 2 }

one_branch_a_word : between_splits (vex 1) ≡ 1
one_branch_a_word = refl

two_branches_a_word : between_splits of_two ≡ 0
two_branches_a_word = refl

abbrev split_on : (test : ℕ) → TraceOp
split_on test = Split test true (record { from = 0; to = 3 }) []

-- by all rows, with a join between them or without
abbrev delay_on : Numbers → Mode → (joined : Bool) → Option ℕ
delay_on m mode joined = delay_of mode (traits_of m (split_on 8)) (traits_of m (split_on 9)) (record { last = true; touch = false; joined = joined; live = false })

apart : delay_on (vex 1) Free false ≡ Some 1
apart = refl

beside : delay_on of_two Free false ≡ Some 0
beside = refl

apart_behind_a_join : delay_on of_two Free true ≡ Some 1
apart_behind_a_join = refl

apart_where_barred : delay_on of_two Barred false ≡ Some 1
apart_where_barred = refl
