use Rattle.vx_region.proofs.Waited.{delays_met}
use Rattle.vx_region.proofs.TableMet.{the_table_is_met}
use Rattle.vx_region.proofs.laws.placed_words_meet_the_delays.Goals as goal

-- src/laws.rt:7:1
pub returns-clause-delays : goal.returns-clause-delays
returns-clause-delays c = delays_met

-- src/laws.rt:7:1
pub returns-clause-table : goal.returns-clause-table
returns-clause-table c = the_table_is_met
