-- The worked region, by computation.
use Rattle.std.proofs.Common.{refl}
use Rattle.std.specs.Int.{int_wrap}
use Rattle.vx_base.specs.Arithmetic.{sum_of, mpylu_of}
use Rattle.vx_motion.specs.Example.{Works, FailsWithoutCopy}
use Rattle.vx_motion.specs.NextExample.{NextIsNew, SharesEntrances}
use Rattle.vx_motion.specs.TraceExample.{IsItsTrace}
use Rattle.vx_motion.specs.LayoutExample.{IsLaidOut}

pub works : Works
unfolding sum_of mpylu_of int_wrap
works = record {
  below = refl;
  below_soon = refl;
  below_late = refl;
  above = refl;
  above_soon = refl;
  above_late = refl;
  joined = refl;
  joined_soon = refl;
  joined_late = refl;
}

pub fails_without_copy : FailsWithoutCopy
unfolding sum_of mpylu_of int_wrap
fails_without_copy = record { soon_too = refl; late_too = refl }

pub next_is_new : NextIsNew
next_is_new = record { nodes = refl; regions = refl }

pub shares_entrances : SharesEntrances
shares_entrances = record {
  start = refl;
  outside = refl;
  join = refl;
  inside = refl;
  not_at_once = refl;
  made = refl;
  on = refl;
  on_too = refl;
  leaves = refl;
  joins = refl;
  leaves_new = refl;
  joins_new = refl;
  behind = refl;
}

pub is_laid_out : IsLaidOut
is_laid_out = refl

pub its_trace : IsItsTrace
its_trace = record { ops = refl; fixed = refl; joins = refl }
