-- The words of a placement meet the table.
use Rattle.vx_region.specs.Meets.{TableMet}
use Rattle.vx_region.proofs.Waited.{met}
use Rattle.vx_region.proofs.Table.{never_at, table_met}
use Rattle.vx_region.proofs.NeverMeeting.{never_apart}

pub the_table_is_met : TableMet
the_table_is_met c m homes mode height words heights placed = record {
  never = never_at c.trace.ops words;
  meets = table_met m mode c.trace words (met c m homes mode height words heights placed);
  apart = never_apart m mode c.trace words (met c m homes mode height words heights placed);
}
