-- A graph begins as one of blocks, and ends as one of regions that does the same.
use Rattle.std.proofs.Common.{◌<◌, length, arith, subst, sym}
use Rattle.vx_region.specs.Regions.{AllReplaced, IsGraphOf, ReplacesAll}
use Rattle.vx_compile.proofs.OneFunction.{same_count}
use Rattle.vx_compile.proofs.layouts.layout_of.Goals as goal

pub all_regions-requires : goal.all_regions-requires
all_regions-requires c = record {
  graph = (
    c.args.graph.now,
    subst (IsGraphOf c.args.machine.now c.args.graph.now) (sym c.set_function.ensures)
        (c.graphs_begin_so.ensures c.args.machine.now c.args.graph.now c.in_ok-begun.begun c.args.function c.keeps_ranges.ensures c.requires.sound c.in_ok-begun.ensures),
  );
}

pub laid_out-requires : goal.laid_out-requires
laid_out-requires c =
    let begun : IsGraphOf c.args.machine.now c.args.graph.now c.set_function.new.self =
    subst (IsGraphOf c.args.machine.now c.args.graph.now) (sym c.set_function.ensures)
    (c.graphs_begin_so.ensures c.args.machine.now c.args.graph.now c.in_ok-begun.begun c.args.function c.keeps_ranges.ensures c.requires.sound c.in_ok-begun.ensures) in
    let replaced : AllReplaced c.args.machine.now c.args.graph.now c.set_function.new.self c.in_ok-regions.regions.mixed =
    c.all_steps_keep_the_graph.ensures c.args.machine.now c.args.counts.now c.args.budget.now.cap c.args.budget.now.used c.all_regions.new.budget.used c.args.graph.now c.set_function.new.self c.in_ok-regions.regions.mixed c.in_ok-regions.regions.plans c.keeps_valid.ensures
    begun c.in_ok-regions.ensures.regions in
    replaced.done

pub returns-clause-laid : goal.returns-clause-laid
returns-clause-laid c =
    let first = c.in_ok-begun.begun in
    let begun : IsGraphOf c.args.machine.now c.args.graph.now c.set_function.new.self =
    subst (IsGraphOf c.args.machine.now c.args.graph.now) (sym c.set_function.ensures)
    (c.graphs_begin_so.ensures c.args.machine.now c.args.graph.now first c.args.function c.keeps_ranges.ensures c.requires.sound c.in_ok-begun.ensures) in
    let done = c.in_ok-regions.regions.mixed in
    let replaced : AllReplaced c.args.machine.now c.args.graph.now (record first { function = c.args.function }) done =
    subst (λ m. AllReplaced c.args.machine.now c.args.graph.now m done) c.set_function.ensures
    (c.all_steps_keep_the_graph.ensures c.args.machine.now c.args.counts.now c.args.budget.now.cap c.args.budget.now.used c.all_regions.new.budget.used c.args.graph.now c.set_function.new.self done c.in_ok-regions.regions.plans c.keeps_valid.ensures
    begun c.in_ok-regions.ensures.regions) in
    let all : ReplacesAll c.args.machine.now c.args.counts.now c.args.budget.now.cap (record first { function = c.args.function }) c.args.budget.now.used c.in_ok-regions.regions.plans done c.all_regions.new.budget.used =
    subst (λ m. ReplacesAll c.args.machine.now c.args.counts.now c.args.budget.now.cap m c.args.budget.now.used c.in_ok-regions.regions.plans done c.all_regions.new.budget.used) c.set_function.ensures c.in_ok-regions.ensures.regions in
    let many = replaced.many in
    let same = same_count c.args.graph.now first c.in_ok-begun.ensures in
    let has = c.requires.some in
    let some : 0 < length done.nodes = omega (arith, many, same, has) in
    record {
      laid = record { begun = first; from = c.in_ok-begun.ensures; done = done; valid = c.keeps_valid-2.ensures; some = some; replaced = replaced; is = c.in_ok-layout.ensures };
      all = all;
    }
