-- What is found once for a planned word.
use Rattle.std.specs.Prelude.{◌≡◌}
use Rattle.vx_mixed.specs.LaidSettled.{laid_reads, laid_writes}
use Rattle.vx_target.specs.Target.{Target, slotted, slots_in_flight}
use Rattle.vx_carry.specs.declared.word_plan.Plan.{Plan}

-- the values that its operations read and write, those of them that are left in slots, and for how many cycles these are in flight
pub record IsPlan (T : Target) (x : Plan) : Type 0 where
  pub reads : x.reads ≡ laid_reads x.items.now
  pub writes : x.writes ≡ laid_writes x.items.now
  pub left : x.left ≡ slotted T x.function (laid_writes x.items.now)
  pub pause : x.pause ≡ slots_in_flight T x.function x.items.now
