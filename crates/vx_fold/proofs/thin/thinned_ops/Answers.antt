use Rattle.std.proofs.Common.{◌≡◌, ◌∙◌, ◌++◌, ◌∷◌, [], ◌+◌, ◌<◌, Bool, true, false, List, ap, append_assoc, drop, get_or, length, sym, ℕ}
use Rattle.std.proofs.lemmas.List.{drop_more}
use Rattle.vx_flow.specs.declared.graph.Op.{Op}
use Rattle.vx_fold.specs.Thinning.{is_unread, op_unless, result_alone, thinned_ops, unread_of}
use Rattle.vx_fold.proofs.thin.thinned_ops.Goals as goal
use Rattle.vx_fold.proofs.thin.thinned_ops.Goals.{then-not-is_dropped+in_ok-push, else-not-is_dropped}

-- what the rest comes to, where it is known whether its first operation goes
turn : (unread : ℕ → Bool) (ops whole made : List Op) (e x : Bool) (i : ℕ) (d : Op) → i < length ops → made ++ thinned_ops unread (drop i ops) ≡ whole → e ≡ is_unread unread (result_alone (get_or ops i d)) → e ≡ x
    → made ++ op_unless x (get_or ops i d) (thinned_ops unread (drop (i + 1) ops)) ≡ whole
turn unread ops whole made e x i d lt so is same =
    let rest = thinned_ops unread (drop (i + 1) ops) in
    ap (λ z. made ++ op_unless z (get_or ops i d) rest) (sym same ∙ is) ∙ ap (λ z. made ++ thinned_ops unread z) (sym (drop_more ops i d lt)) ∙ so

-- the operation stays
kept : (unread : ℕ → Bool) (ops whole made new : List Op) (e : Bool) (i : ℕ) (d : Op) → i < length ops → made ++ thinned_ops unread (drop i ops) ≡ whole → e ≡ is_unread unread (result_alone (get_or ops i d)) → e ≡ false
    → new ≡ made ++ get_or ops i d ∷ [] → new ++ thinned_ops unread (drop (i + 1) ops) ≡ whole
kept unread ops whole made new e i d lt so is same put =
    let rest = thinned_ops unread (drop (i + 1) ops) in
    ap (λ z. z ++ rest) put ∙ append_assoc made (get_or ops i d ∷ []) rest ∙ turn unread ops whole made e false i d lt so is same

pub loop-op-preserved : goal.loop-op-preserved
loop-op-preserved c =
    let unread = unread_of c.args.needed.now in
    let ops = c.args.ops.now in
    let rest = thinned_ops unread (drop (c.loop-op.op-index + 1) ops) in
    elim c.if-not-is_dropped.branch [
      | then-not-is_dropped+in_ok-push w ↦ ap (λ z. z ++ rest) w.thinned-is ∙ kept unread ops _ c.loop-op.thinned w.push.new.self c.is_dropped.result c.loop-op.op-index _ c.loop-op-test.true c.loop-op.invariant c.is_dropped.ensures w.if-not-is_dropped.true w.in_ok-push.ensures.ok
      | else-not-is_dropped w ↦ ap (λ z. z ++ rest) w.thinned-is ∙ turn unread ops _ c.loop-op.thinned c.is_dropped.result true c.loop-op.op-index _ c.loop-op-test.true c.loop-op.invariant c.is_dropped.ensures w.if-not-is_dropped.false
    ]
