use Rattle.std.proofs.Common.{◌≡◌, ◌+◌}
use Rattle.std.proofs.lemmas.Result.{IfOk-weaker}
use Rattle.vx_regs.specs.Spans.{Gives}
use Rattle.vx_regs.proofs.Holding.{gives_slot, gives_its}
use Rattle.vx_regs.proofs.scan.give_last.Goals as goal

pub returns-in_ok-take-in-Some : goal.returns-in_ok-take-in-Some
returns-in_ok-take-in-Some c =
    IfOk-weaker c.sum.result (λ sum. sum ≡ c.args.next + 1) (λ new. Gives c.args.span c.args.first c.args.held.now.items c.args.kept.now.items c.args.next c.take.new.held.items c.take.new.kept.items new)
    (λ new e. gives_its c.args.span c.args.first c.args.next new c.args.held.now.items c.take.new.held.items c.args.kept.now.items c.put.new.kept.items c.take.new.kept.items c.args.last c.in-Some.register
    c.requires.held c.requires.last c.in-Some.is c.put.ensures c.in_ok-take-in-Some.ensures.held c.in_ok-take-in-Some.ensures.kept e)
    c.sum.ensures

pub returns-in-None : goal.returns-in-None
returns-in-None c =
    IfOk-weaker c.sum-in-None.result (λ sum. sum ≡ c.args.next + 1) (λ new. Gives c.args.span c.args.first c.args.held.now.items c.args.kept.now.items c.args.next c.args.held.now.items c.put-in-None.new.kept.items new)
    (λ new e. gives_slot c.args.span c.args.first c.args.next new c.args.held.now.items c.args.kept.now.items c.put-in-None.new.kept.items c.args.last
    c.requires.held c.requires.last c.in-None.is c.put-in-None.ensures e)
    c.sum-in-None.ensures
