use Rattle.std.proofs.Common.{◌∙◌, ◌∷◌, map, refl, ap, sym}
use Rattle.vx_dep.specs.Keys.{key_of}
use Rattle.vx_dep.proofs.Moved.{moved, all_moved}
use Rattle.vx_dep.proofs.keys.keys.Goals as goal

pub ask-preserved : goal.ask-preserved
ask-preserved c =
    moved (map key_of) (map key_of c.args.standings.now) c.ask.keys c.push.new.self c.ask.rest.now c.in-Some.behind.now c.key_of.result c.ask.invariant (ap (map key_of) c.in-Some.ensures.cases.0 ∙ ap (λ x. x ∷ map key_of c.in-Some.behind.now) (sym c.key_of.ensures)) c.in_ok-push-in-Some.ensures.ok

pub returns-in-None : goal.returns-in-None
returns-in-None c = all_moved (map key_of) (map key_of c.args.standings.now) c.ask.keys c.ask.rest.now refl c.in-None.ensures.cases c.ask.invariant
