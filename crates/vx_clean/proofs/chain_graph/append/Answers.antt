use Rattle.std.proofs.Common.{◌≡◌, ◌∙◌, ◌++◌, ◌∷◌, [], ◌+◌, ◌<◌, List, ap, append_assoc, get_or, length, sym, take, ℕ}
use Rattle.std.proofs.lemmas.List.{take_more}
use Rattle.vx_flow.specs.declared.graph.Op.{Op}
use Rattle.vx_clean.proofs.chain_graph.append.Goals as goal

-- one operation more
turn : (old more ops new : List Op) (i : ℕ) (d : Op) → i < length more → ops ≡ old ++ take i more → new ≡ ops ++ get_or more i d ∷ [] → new ≡ old ++ take (i + 1) more
turn old more ops new i d lt so put = put ∙ ap (λ z. z ++ get_or more i d ∷ []) so ∙ append_assoc old (take i more) (get_or more i d ∷ []) ∙ ap (λ z. old ++ z) (sym (take_more more i d lt))

pub loop-op-preserved : goal.loop-op-preserved
loop-op-preserved c = turn c.args.ops.now c.args.more.now c.loop-op.ops c.push.new.self c.loop-op.op-index _ c.loop-op-test.true c.loop-op.invariant c.in_ok-push.ensures.ok
