-- The graphs are laid out, and their layouts finished.
use Rattle.std.proofs.Common.{sym, subst}
use Rattle.vx_compile.specs.Stages.{AllBegin, AreFinished, AreLaidOut, AreLayoutsOf}
use Rattle.vx_compile.proofs.words.compiled_of.Goals as goal

pub layouts_of-requires : goal.layouts_of-requires
layouts_of-requires c = subst AllBegin (sym c.as_slice.ensures) c.requires.begin

pub finished_of-requires-clause-layouts : goal.finished_of-requires-clause-layouts
finished_of-requires-clause-layouts c =
    let laid = c.in_ok-laid.laid in
    let made : AreLaidOut c.args.machine.now c.args.counts.now c.args.growth c.args.flow.now.functions laid.traces laid.layouts laid.copies =
    subst (λ z. AreLaidOut c.args.machine.now c.args.counts.now c.args.growth z laid.traces laid.layouts laid.copies) c.as_slice.ensures c.in_ok-laid.ensures in
    subst (AreLayoutsOf c.args.machine.now c.args.flow.now.functions) (sym c.as_slice-2.ensures) made.laid

pub finished_of-requires-clause-small : goal.finished_of-requires-clause-small
finished_of-requires-clause-small c = c.requires.small

pub returns : goal.returns
returns c =
    let machine = c.args.machine.now in
    let flow = c.args.flow.now in
    let laid = c.in_ok-laid.laid in
    let done = c.in_ok-done.done in
    record {
      layouts = laid.layouts;
      laid = subst (λ z. AreLaidOut machine c.args.counts.now c.args.growth z laid.traces laid.layouts laid.copies) c.as_slice.ensures c.in_ok-laid.ensures;
      finished = subst (λ z. AreFinished machine flow z done.finished done.spilled) c.as_slice-2.ensures c.in_ok-done.ensures;
    }
