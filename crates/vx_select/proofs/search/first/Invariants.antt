use Rattle.std.proofs.Common.{◌≡◌, drop}
use Rattle.vx_select.specs.Known.{told}
use Rattle.vx_select.specs.Search.{first_diamond, first_from}
use Rattle.vx_select.proofs.search.first.Given as goal

abbrev pub invariant-loop-block : goal.invariant-loop-block
invariant-loop-block l = first_diamond (told l.known) l.most l.graph ≡ first_from (told l.known) l.most l.graph l.block (drop l.block l.graph.blocks)
