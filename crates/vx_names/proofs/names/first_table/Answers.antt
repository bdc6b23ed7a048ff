use Rattle.std.proofs.Common.{ap, ◌∙◌, ◌++◌, List}
use Rattle.std.proofs.lemmas.List.{take_all}
use Rattle.vx_ast.specs.declared.names.FileName.{FileName}
use Rattle.vx_ast.specs.Scopes.{find, predeclared, known_of}
use Rattle.vx_names.specs.Entries.{entry_of}
use Rattle.vx_names.proofs.Passing.{starts_more}
use Rattle.vx_names.proofs.names.first_table.Goals as goal

pub loop-name-preserved : goal.loop-name-preserved
loop-name-preserved c = λ x.
    starts_more c.loop-name.name-index c.args.names.now c.name-item.result c.loop-name-test.true c.name-item.is (λ y. entry_of y c.loop-name.table.entries.entries) (λ y. entry_of y c.start_name.new.table.entries.entries) c.loop-name.invariant c.in_ok-start_name.ensures x

pub returns : goal.returns
returns c = λ x. c.loop-name.invariant x ∙ ap (λ (z : List FileName). find x (predeclared ++ known_of 0 z)) (take_all c.loop-name.name-index c.args.names.now c.loop-name-test.false)
