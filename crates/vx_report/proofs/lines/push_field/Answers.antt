use Rattle.std.specs.Prelude.{decimal}
use Rattle.vx_report.proofs.Pieces.{put_behind}
use Rattle.vx_report.proofs.lines.push_field.Goals as goal

pub returns : goal.returns
returns c = put_behind c.push_number.result c.args.out.now.items _ _ c.args.word.now (decimal c.args.number) c.in_ok-push_bytes.ensures c.push_number.ensures
