use Rattle.vx_flow.proofs.ClosingSteps.{unmarked_more}
use Rattle.std.proofs.Common.{length-append, arith, ◌≡◌, ◌+◌, length, subst, ap, ◌∙◌, [], ◌∷◌, ◌++◌, false, true}
use Rattle.vx_flow.specs.Rows.{is_marked}
use Rattle.vx_flow.proofs.live_nodes.unmarked.Goals as goal

pub nodes-preserved : goal.nodes-preserved
nodes-preserved c =
    let n = c.nodes.invariant.len in
    let k : length (c.nodes.row.items ++ false ∷ []) ≡ c.nodes.counter + 1 = simp length-append (omega arith) in
    record {
      none = λ b h. c.nodes.invariant.none b (unmarked_more c.nodes.row.items b (subst (λ l. is_marked l b ≡ true) c.in_ok-push.ensures.items h));
      len = ap length c.in_ok-push.ensures.items ∙ k;
    }
