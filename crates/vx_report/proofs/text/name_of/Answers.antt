-- The name stands where the function does.
use Rattle.std.proofs.Common.{◌∙◌}
use Rattle.vx_report.proofs.Names.{name_there, name_nowhere}
use Rattle.vx_report.proofs.text.name_of.Goals as goal

pub returns-in-Some : goal.returns-in-Some
returns-in-Some c =
    let items = c.args.program.now.program.functions.items in
    let at = rw c.as_slice.ensures.value at c.in-Some.ensures.lookup in
    c.as_slice-in-Some.ensures ∙ name_there items c.args.function c.in-Some.found.now at.3.0 at.1

pub returns-in-None : goal.returns-in-None
returns-in-None c =
    let items = c.args.program.now.program.functions.items in
    let at = rw c.as_slice.ensures.value at c.in-None.ensures.lookup in
    name_nowhere items c.args.function at.3
