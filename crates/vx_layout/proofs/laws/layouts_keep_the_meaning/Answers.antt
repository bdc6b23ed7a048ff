use Rattle.vx_layout.proofs.laws.layouts_keep_the_meaning.Goals as goal
use Rattle.vx_layout.proofs.LaidRuns.{layout_runs}
use Rattle.vx_layout.proofs.LaidSources.{layout_comes_from_graph}
use Rattle.vx_layout.proofs.LaidSettles.{layout_settles}

pub returns-clause-runs : goal.returns-clause-runs
returns-clause-runs c = layout_runs

pub returns-clause-settles : goal.returns-clause-settles
returns-clause-settles c = layout_settles

pub returns-clause-code : goal.returns-clause-code
returns-clause-code c = layout_comes_from_graph
