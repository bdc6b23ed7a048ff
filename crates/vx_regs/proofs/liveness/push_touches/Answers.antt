use Rattle.std.proofs.Common.{◌++◌, ◌∷◌, [], List, map, take, get_or, append_assoc, sym, ap, ◌∙◌}
use Rattle.std.proofs.lemmas.List.{map_more}
use Rattle.vx_flow.specs.declared.routes.Touch.{Touch}
use Rattle.vx_flow.specs.Live.{touch}
use Rattle.vx_regs.proofs.liveness.push_touches.Goals as goal

-- one value more
pub loop-value-preserved : goal.loop-value-preserved
loop-value-preserved c =
    let old = c.args.touches.now in
    let values = c.args.values.now in
    let i = c.loop-value.value-index in
    let one = touch c.args.reads (get_or values i 0) ∷ [] in
    c.in_ok-push.ensures.ok
    ∙ ap (λ (z : List Touch). z ++ one) c.loop-value.invariant
    ∙ append_assoc old (map (touch c.args.reads) (take i values)) one
    ∙ ap (λ (z : List Touch). old ++ z) (sym (map_more (touch c.args.reads) values i 0 c.loop-value-test.true))
