use Rattle.std.proofs.Common.{◌≡◌, ◌+◌, ◌-◌, suc, ◌∙◌, sym, subst, arith}
use Rattle.vx_flow.specs.Meaning.{graph_path, next, program_of, program_run}
use Rattle.vx_tally.specs.Machine.{active_of, IsOutcome}
use Rattle.vx_tally.proofs.Running.{run_on, run_none, step_on, run_ends}
use Rattle.vx_tally.proofs.Paths.{run_begun, path_begun, counted_on, counted_over, counted_end, over_at}
use Rattle.vx_tally.proofs.plain.run_counted.Goals as goal

pub each-init : goal.each-init
each-init c =
    let all : c.args.blocks - 0 ≡ c.args.blocks = omega arith in
    let a = active_of c.in_ok-machine.machine in
    record {
      outcome = run_begun c.args.flow.now c.args.input.now c.args.blocks (c.args.blocks - 0) a c.in_ok-machine.ensures all;
      tally = path_begun c.args.flow.now c.args.input.now c.args.blocks (c.args.blocks - 0) a c.in_ok-tally.tally c.in_ok-tally.ensures c.in_ok-machine.ensures all;
    }

pub each-preserved : goal.each-preserved
each-preserved c =
    let p = program_of c.args.flow.now in
    let r = active_of c.each.machine in
    let s = active_of c.step.new.machine in
    let n = c.args.blocks - c.each.counter in
    let k = c.args.blocks - (c.each.counter + 1) in
    let less = c.each-test.true in
    let count : c.args.blocks - c.each.counter ≡ suc (c.args.blocks - (c.each.counter + 1)) = omega arith in
    let on = step_on c.in_ok-ending.ending (next p r) c.step.new.machine c.in-None.is c.in_ok-ending.ensures.step in
    record {
      outcome = c.each.invariant.outcome ∙ run_on p n k r s count on;
      tally = counted_on p (graph_path c.args.flow.now c.args.input.now c.args.blocks) c.each.tally c.step.new.tally n k r s c.each.invariant.tally c.in_ok-ending.ensures.counts count on;
    }

pub returns-in-Some : goal.returns-in-Some
returns-in-Some c =
    let p = program_of c.args.flow.now in
    let r = active_of c.each.machine in
    let n = c.args.blocks - c.each.counter in
    let k = c.args.blocks - (c.each.counter + 1) in
    let less = c.each-test.true in
    let count : c.args.blocks - c.each.counter ≡ suc (c.args.blocks - (c.each.counter + 1)) = omega arith in
    let m = c.step.new.machine in
    let ends = run_ends c.in_ok-ending.ending c.in-Some.field-0 p n k r m count c.in-Some.is c.in_ok-ending.ensures.step in
    let over = over_at c.in_ok-ending.ending c.in-Some.field-0 (next p r) m c.in-Some.is c.in_ok-ending.ensures.step in
    record {
      outcome = subst (λ o. IsOutcome c.in_ok-ending.ending m.storage.out.items o) (sym c.each.invariant.outcome) (subst (λ e. IsOutcome e m.storage.out.items (program_run p n r)) (sym c.in-Some.is) ends);
      tally = counted_over p (graph_path c.args.flow.now c.args.input.now c.args.blocks) c.each.tally c.step.new.tally n k r over.outcome c.each.invariant.tally c.in_ok-ending.ensures.counts count over.is;
    }

pub returns : goal.returns
returns c =
    let p = program_of c.args.flow.now in
    let r = active_of c.each.machine in
    let n = c.args.blocks - c.each.counter in
    let over = c.each-test.false in
    let none : c.args.blocks - c.each.counter ≡ 0 = omega arith in
    record {
      outcome = c.each.invariant.outcome ∙ run_none p n r none;
      tally = counted_end p (graph_path c.args.flow.now c.args.input.now c.args.blocks) c.each.tally n r c.each.invariant.tally none;
    }
