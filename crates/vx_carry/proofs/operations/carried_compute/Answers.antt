use Rattle.std.proofs.Common.{ap, ◌∙◌}
use Rattle.vx_isa.specs.declared.operation.GeneralRegister.{GeneralRegister}
use Rattle.vx_isa.specs.declared.operation.Register.{Register}
use Rattle.vx_isa.specs.declared.operation.Source.{Source}
use Rattle.vx_target.specs.Target.{computes, general_of, register_of, source_of}
use Rattle.vx_slots.specs.Seen.{seen}
use Rattle.vx_carry.proofs.operations.carried_compute.Goals as goal

pub returns : goal.returns
returns c =
    let T = seen c.args.whole.now in
    let s = c.args.site.now in
    let to = register_of T s.function s.writes.now c.args.to in
    let general = general_of T s.function s.writes.now c.args.to in
    let names = general_of T s.function s.reads.now in
    let moved = c.target_of-moved.result in
    let left = c.operand_of-left.result in
    let right = c.operand_of-right.result in
    c.computes.ensures
    ∙ ap (λ (r : Register). computes s.cluster c.args.code r moved left right) c.register_of-register.ensures
    ∙ ap (λ (r : GeneralRegister). computes s.cluster c.args.code to r left right) c.target_of-moved.ensures
    ∙ ap (λ (x : Source). computes s.cluster c.args.code to general x right) c.operand_of-left.ensures
    ∙ ap (λ (x : Source). computes s.cluster c.args.code to general (source_of names c.args.left) x) c.operand_of-right.ensures
