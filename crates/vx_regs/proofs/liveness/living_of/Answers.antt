use Rattle.vx_regs.proofs.WayLives.{numbers_few, begins_within, lives_exact}
use Rattle.vx_regs.proofs.liveness.living_of.Goals as goal

pub ways_of-requires : goal.ways_of-requires
ways_of-requires c = numbers_few c.args.layout.now c.in_ok-nodes.nodes c.as_slice-words.result.now c.in_ok-nodes.ensures.are c.as_slice-words.ensures

pub live_on-requires : goal.live_on-requires
live_on-requires c = begins_within c.args.layout.now c.in_ok-nodes.nodes c.as_slice-words.result.now c.in_ok-routes.routes c.in_ok-nodes.ensures.are c.as_slice-words.ensures c.in_ok-routes.ensures

pub returns : goal.returns
returns c = lives_exact c.args.layout.now (record { nodes = c.in_ok-nodes.nodes; live = c.in_ok-live.live }) c.as_slice-words.result.now c.in_ok-routes.routes c.in_ok-nodes.ensures c.requires.inside c.as_slice-words.ensures c.in_ok-routes.ensures c.in_ok-live.ensures.exact
