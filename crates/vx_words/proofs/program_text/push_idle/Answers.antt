-- The number stands behind the name.
use Rattle.std.proofs.Common.{codes}
use Rattle.std.specs.Prelude.{decimal}
use Rattle.vx_words.proofs.Pieces.{put_both}
use Rattle.vx_words.proofs.program_text.push_idle.Goals as goal

pub returns : goal.returns
returns c = put_both c.push_named_number.result c.args.out.now.items _ (codes "xnop ") (decimal c.args.cycles) c.push_named_number.ensures
