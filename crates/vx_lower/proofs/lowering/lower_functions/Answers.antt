use Rattle.std.proofs.Common.{◌≡◌, ◌<◌, ◌≤◌, length, get_or, map, take, subst, sym}
use Rattle.vx_ast.specs.View.{function_of, program_of}
use Rattle.vx_lower.specs.FunctionShape.{GraphsWell}
use Rattle.vx_lower.specs.Graphs.{AllGraphed}
use Rattle.vx_lower.proofs.Bodies.{none_graphed, graphed_step}
use Rattle.vx_lower.proofs.FunctionShaping.{no_graphs, graphs_step}
use Rattle.vx_lower.proofs.Places.{take_whole}
use Rattle.vx_lower.proofs.SmallWords.{small_list, function_there}
use Rattle.vx_lower.proofs.lowering.lower_functions.Goals as goal

pub loop-f-init : goal.loop-f-init
loop-f-init c = (
  subst (λ z. AllGraphed (program_of c.args.source.now) (map function_of (take 0 c.args.source.now.functions.items)) z c.args.texts.now c.args.texts.now) (sym c.new-graphs.ensures) (none_graphed (program_of c.args.source.now) c.args.texts.now),
  subst (λ z. GraphsWell (program_of c.args.source.now) (map function_of (take 0 c.args.source.now.functions.items)) z c.args.texts.now) (sym c.new-graphs.ensures) (no_graphs (program_of c.args.source.now) c.args.texts.now),
)

pub loop-f-preserved : goal.loop-f-preserved
loop-f-preserved c =
    let within = subst (λ z. c.loop-f.f-index < length z) c.as_slice-f-items.ensures.value c.loop-f-test.true in
    let item = subst (λ z. c.f-item.result ≡ get_or z c.loop-f.f-index c.f-item.result) c.as_slice-f-items.ensures.value c.f-item.is in (
      graphed_step (program_of c.args.source.now) function_of c.args.source.now.functions.items c.loop-f.f-index c.f-item.result c.loop-f.graphs c.push.new.self c.in_ok-graph.graph c.args.texts.now c.loop-f.texts c.lower_function.new.texts within item c.loop-f.invariant.0 c.in_ok-graph.ensures.code c.in_ok-push.ensures.ok,
      graphs_step (program_of c.args.source.now) function_of c.args.source.now.functions.items c.loop-f.f-index c.f-item.result c.loop-f.graphs c.push.new.self c.in_ok-graph.graph c.loop-f.texts c.lower_function.new.texts within item c.loop-f.invariant.0.count c.loop-f.invariant.1 c.in_ok-graph.ensures.code.texts c.in_ok-graph.ensures.fits c.in_ok-push.ensures.ok,
    )

pub lower_function-requires : goal.lower_function-requires
lower_function-requires c =
    let within = subst (λ z. c.loop-f.f-index < length z) c.as_slice-f-items.ensures.value c.loop-f-test.true in
    let item = subst (λ z. c.f-item.result ≡ get_or z c.loop-f.f-index c.f-item.result) c.as_slice-f-items.ensures.value c.f-item.is in
    record { small = small_list (program_of c.args.source.now) c.requires.accepted c.loop-f.f-index (function_of c.f-item.result) (function_there function_of c.args.source.now.functions.items c.loop-f.f-index c.f-item.result within item) }

pub returns-clause-fits : goal.returns-clause-fits
returns-clause-fits c =
    let past = subst (λ z. length z ≤ c.loop-f.f-index) c.as_slice-f-items.ensures.value c.loop-f-test.false in
    subst (λ z. GraphsWell (program_of c.args.source.now) (map function_of z) c.loop-f.graphs c.loop-f.texts) (take_whole c.args.source.now.functions.items c.loop-f.f-index past) c.loop-f.invariant.1

pub returns-clause-code : goal.returns-clause-code
returns-clause-code c =
    let past = subst (λ z. length z ≤ c.loop-f.f-index) c.as_slice-f-items.ensures.value c.loop-f-test.false in
    subst (λ z. AllGraphed (program_of c.args.source.now) (map function_of z) c.loop-f.graphs c.args.texts.now c.loop-f.texts) (take_whole c.args.source.now.functions.items c.loop-f.f-index past) c.loop-f.invariant.0
