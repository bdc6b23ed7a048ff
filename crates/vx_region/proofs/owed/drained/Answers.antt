use Rattle.std.proofs.Common.{◌∷◌, ◌++◌, ◌∙◌, [], List, length, sym, ap, append_assoc, arith}
use Rattle.vx_dep.specs.declared.copies.EdgeCopies.{EdgeCopies}
use Rattle.vx_region.specs.Owed.{with_drains}
use Rattle.vx_region.proofs.Owing.{drained_more}
use Rattle.vx_region.proofs.owed.drained.Goals as goal

pub loop-split-preserved : goal.loop-split-preserved
loop-split-preserved c =
    let machine = c.args.machine.now in
    let p = c.args.placed.now in
    let split = c.in-Some.split in
    let steps = c.in-Some.ensures.steps in
    let so_far = with_drains machine p c.loop-split.yielded in
    record {
      made = c.in_ok-push.ensures.ok
          ∙ ap (λ (l : List EdgeCopies). l ++ (record split { drain = c.split_drain-drain.result }) ∷ []) c.loop-split.invariant.made
          ∙ ap (λ d. so_far ++ (record split { drain = d }) ∷ []) c.split_drain-drain.ensures
          ∙ sym (drained_more machine p c.loop-split.yielded split);
      rest = append_assoc c.loop-split.yielded (split ∷ []) c.next.new.self.rest.items ∙ ap (λ (l : List EdgeCopies). c.loop-split.yielded ++ l) (sym steps.0) ∙ c.loop-split.invariant.rest;
      left = omega (arith, c.loop-split.invariant.left, steps.1, ap length steps.0);
    }
