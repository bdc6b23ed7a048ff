use Rattle.vx_regs.proofs.WayLives.{lives_entered}
use Rattle.vx_calls.proofs.saves.saves_of.Goals as goal

pub saves_with-requires : goal.saves_with-requires
saves_with-requires c = lives_entered c.args.layout.now c.in_ok-living.living c.requires.inside c.requires.entry c.in_ok-living.ensures
