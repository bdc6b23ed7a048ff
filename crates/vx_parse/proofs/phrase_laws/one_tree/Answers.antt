use Rattle.vx_parse.proofs.Wholes.{one_tree}
use Rattle.vx_parse.proofs.phrase_laws.one_tree.Goals as goal

pub returns : goal.returns
returns c = one_tree
