-- Each turn puts one line more.
use Rattle.vx_words.specs.Spelling.{operation_line}
use Rattle.vx_words.proofs.Pieces.{piece_more, pieces_all}
use Rattle.vx_words.proofs.program_text.push_operation_lines.Goals as goal

pub loop-operation-preserved : goal.loop-operation-preserved
loop-operation-preserved c = piece_more operation_line c.args.out.now.items c.loop-operation.out.items c.args.operations.now c.loop-operation.operation-index c.push_operation_line.new.out.items _ c.loop-operation.invariant c.in_ok-push_operation_line.ensures c.loop-operation-test.true

pub returns : goal.returns
returns c = pieces_all operation_line c.args.out.now.items c.loop-operation.out.items c.args.operations.now c.loop-operation.operation-index c.loop-operation.invariant c.loop-operation-test.false
