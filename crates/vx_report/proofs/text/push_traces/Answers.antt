-- Each turn puts the lines of one trace more.
use Rattle.std.proofs.Common.{◌∙◌, ◌++◌, ℕ, List, refl, ap}
use Rattle.vx_ast.specs.View.{program_of}
use Rattle.vx_region.specs.declared.trace_plan.TracePlan.{TracePlan}
use Rattle.vx_report.specs.Report.{name_at, names_of, places_at, trace_text, traces_text}
use Rattle.vx_report.proofs.Pieces.{placed_all, placed_more}
use Rattle.vx_report.proofs.text.push_traces.Goals as goal

pub loop-number-preserved : goal.loop-number-preserved
loop-number-preserved c =
    let names = names_of (program_of c.args.program.now.program) in
    let places = c.args.places.now in
    let number = c.loop-number.number in
    let out = c.loop-number.out.items in
    let plan = c.index-traces-number.result in
    placed_more (traces_text names places) out _ c.args.traces.now number c.loop-number.invariant c.push_trace.new.out.items _ plan c.loop-number-test.true refl
    (c.in_ok-push_trace.ensures
    ∙ ap (λ (name : List ℕ). out ++ trace_text number name plan c.places_of.result.now) c.name_of.ensures
    ∙ ap (λ (ps : List ℕ). out ++ trace_text number (name_at names plan.function) plan ps) c.places_of.ensures
    ∙ ap (λ (t : TracePlan). out ++ trace_text number (name_at names t.function) t (places_at places number)) c.index-traces-number.is)

pub returns : goal.returns
returns c = placed_all (traces_text (names_of (program_of c.args.program.now.program)) c.args.places.now) c.loop-number.out.items _ c.args.traces.now c.loop-number.number c.loop-number.invariant c.loop-number-test.false refl
