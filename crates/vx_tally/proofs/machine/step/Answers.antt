use Rattle.std.proofs.Common.{◌≡◌, ◌∙◌, ◌∷◌, [], ap, sym, subst, slice_get}
use Rattle.vx_flow.specs.Meaning.{AtBlock, after_hop, edge_taken, hop, program_of}
use Rattle.vx_tally.specs.Storage.{state_of}
use Rattle.vx_tally.specs.Tally.{TallyMore}
use Rattle.vx_tally.specs.Machine.{active_of, graph_hop, hop_from, stacked, taken_by, IsStep}
use Rattle.vx_tally.proofs.Running.{hop_is, step_after}
use Rattle.vx_tally.proofs.Paths.{counts_both, taken_is}
use Rattle.vx_tally.proofs.machine.step.Goals as goal

pub returns-clause-step : goal.returns-clause-step
returns-clause-step c =
    let p = program_of c.args.flow.now in
    let r = active_of c.args.machine.now in
    let t = state_of c.run_block.new.storage in
    let h : hop p r ≡ hop_from c.args.machine.now.block t c.in_ok-left.left = hop_is c.args.flow.now c.args.machine.now ∙ ap (λ l. graph_hop c.args.flow.now (slice_get c.args.flow.now.functions c.args.machine.now.function) l c.args.machine.now.base c.args.machine.now.block (state_of c.args.machine.now.storage)) (sym c.as_slice.ensures.value) ∙ c.in_ok-left.ensures in
    step_after c.in_ok-ending.ending p r t (hop p r) c.follow.new.machine
    (subst (λ k. IsStep c.in_ok-ending.ending (after_hop p (record r { state = t }) k) c.follow.new.machine) (sym h) c.in_ok-ending.ensures)

pub returns-clause-counts : goal.returns-clause-counts
returns-clause-counts c =
    let p = program_of c.args.flow.now in
    let m = c.args.machine.now in
    let r = active_of m in
    let t = state_of c.run_block.new.storage in
    let h : hop p r ≡ hop_from m.block t c.in_ok-left.left = hop_is c.args.flow.now m ∙ ap (λ l. graph_hop c.args.flow.now (slice_get c.args.flow.now.functions m.function) l m.base m.block (state_of m.storage)) (sym c.as_slice.ensures.value) ∙ c.in_ok-left.ensures in
    let e : edge_taken r (hop p r) ≡ taken_by m.function m.block (stacked [] m.waiting.items) c.in_ok-left.left = ap (edge_taken r) h ∙ taken_is r t c.in_ok-left.left in
    let edge = subst (λ ws. TallyMore c.add_block.new.self c.count_edge.new.tally (taken_by m.function m.block (stacked [] ws) c.in_ok-left.left)) c.as_slice-2.ensures.value c.in_ok-count_edge.ensures in
    counts_both c.args.tally.now c.add_block.new.self c.count_edge.new.tally (AtBlock m.function m.block ∷ []) (edge_taken r (hop p r)) c.in_ok-add_block.ensures (subst (TallyMore c.add_block.new.self c.count_edge.new.tally) (sym e) edge)
