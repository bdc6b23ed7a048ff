use Rattle.std.proofs.Common.{◌∙◌, ◌∷◌, map, refl, ap, sym}
use Rattle.vx_dep.specs.Traits.{traits_of}
use Rattle.vx_dep.proofs.Moved.{moved, all_moved}
use Rattle.vx_dep.proofs.tables.all_traits.Goals as goal

pub ask-preserved : goal.ask-preserved
ask-preserved c =
    let all = map (traits_of c.args.machine.now) in
    moved all (all c.args.ops.now) c.ask.traits c.push.new.self c.ask.rest.now c.in-Some.behind.now c.traits_of.result c.ask.invariant (ap all c.in-Some.ensures.cases.0 ∙ ap (λ x. x ∷ all c.in-Some.behind.now) (sym c.traits_of.ensures)) c.in_ok-push-in-Some.ensures.ok

pub returns-in-None : goal.returns-in-None
returns-in-None c =
    let all = map (traits_of c.args.machine.now) in
    all_moved all (all c.args.ops.now) c.ask.traits c.ask.rest.now refl c.in-None.ensures.cases c.ask.invariant
