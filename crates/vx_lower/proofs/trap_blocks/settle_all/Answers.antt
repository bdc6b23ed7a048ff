use Rattle.std.proofs.Common.{◌≡◌, ◌∙◌, ◌++◌, [], ap, append-nil, arith, length, map, sym}
use Rattle.vx_lower.specs.Finished.{settled}
use Rattle.vx_lower.proofs.Places.{nothing}
use Rattle.vx_lower.proofs.Turns.{taken_left, taken_made, taken_rest}
use Rattle.vx_lower.proofs.trap_blocks.settle_all.Goals as goal

pub loop-slot-preserved : goal.loop-slot-preserved
loop-slot-preserved c =
    let done = c.loop-slot.yielded in
    let old = c.loop-slot.slot-iterator.rest.items in
    let new = c.next.new.self.rest.items in
    let h = c.in-Some.ensures.steps in
    record {
      made = taken_made (settled c.len-count.result c.args.kinds.now) done c.in-Some.slot c.loop-slot.blocks.items c.push.new.self.items c.settle.result c.loop-slot.invariant.made c.settle.ensures c.in_ok-push.ensures.items;
      rest = taken_rest done old new c.args.slots.items c.in-Some.slot h.0 c.loop-slot.invariant.rest;
      left = taken_left old new c.in-Some.slot c.loop-slot.slot-iterator.rest.len c.next.new.self.rest.len h.0 h.1 c.loop-slot.invariant.left;
    }

pub returns : goal.returns
returns c =
    let kinds = c.args.kinds.now in
    let slots = c.args.slots.items in
    let done = c.loop-slot.yielded in
    let count : c.len-count.result ≡ length slots = omega (arith, c.args.slots.ok.0) in
    let none : c.loop-slot.slot-iterator.rest.items ≡ [] = nothing _ (c.loop-slot.invariant.left ∙ c.in-None.ensures.steps.0) in
    let all : done ≡ slots = sym (append-nil done) ∙ ap (λ z. done ++ z) (sym none) ∙ c.loop-slot.invariant.rest in
    c.loop-slot.invariant.made ∙ ap (λ n. map (settled n kinds) done) count ∙ ap (map (settled (length slots) kinds)) all
