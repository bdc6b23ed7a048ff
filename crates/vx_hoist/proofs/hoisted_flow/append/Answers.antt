use Rattle.std.proofs.Common.{◌≡◌, ℕ, ◌+◌, ◌<◌, List, [], ◌∷◌, ◌++◌, length, take, get_or, sym, ap, ◌∙◌}
use Rattle.std.proofs.lemmas.List.{append_assoc, take_more}
use Rattle.vx_flow.specs.declared.graph.Op.{Op}
use Rattle.vx_hoist.proofs.hoisted_flow.append.Goals as goal

pushed : (start list new all : List Op) (i : ℕ) (d : Op) → list ≡ start ++ take i all → new ≡ list ++ get_or all i d ∷ [] → i < length all → new ≡ start ++ take (i + 1) all
pushed start list new all i d e p n = p ∙ ap (λ l. l ++ get_or all i d ∷ []) e ∙ append_assoc start (take i all) (get_or all i d ∷ []) ∙ ap (λ l. start ++ l) (sym (take_more all i d n))

pub loop-op-preserved : goal.loop-op-preserved
loop-op-preserved c = pushed c.args.list.now c.loop-op.list c.push.new.self c.args.ops.now c.loop-op.op-index _ c.loop-op.invariant c.in_ok-push.ensures.ok c.loop-op-test.true
