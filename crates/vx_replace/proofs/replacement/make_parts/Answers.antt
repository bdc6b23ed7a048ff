use Rattle.std.proofs.Common.{◌++◌, ◌∙◌, length, map, ap}
use Rattle.std.proofs.lemmas.Result.{IfOk-from_err}
use Rattle.vx_mixed.specs.Next.{made_node, made_origin, nodes_from}
use Rattle.vx_replace.proofs.Pushed.{few_blocks}
use Rattle.vx_replace.proofs.replacement.make_parts.Goals as goal

pub push_old_nodes-requires : goal.push_old_nodes-requires
push_old_nodes-requires c = few_blocks _ _ _ _ _ c.len.ensures.len (ap length c.as_slice-made.ensures) c.from.ensures c.if-blocks-from.false

pub edges_after-requires-clause-few : goal.edges_after-requires-clause-few
edges_after-requires-clause-few c = few_blocks _ _ _ _ _ c.len.ensures.len (ap length c.as_slice-made.ensures) c.from.ensures c.if-blocks-from.false

pub edges_after-requires-clause-valid : goal.edges_after-requires-clause-valid
edges_after-requires-clause-valid c = c.requires.valid

pub edges_after-requires-clause-edges : goal.edges_after-requires-clause-edges
edges_after-requires-clause-edges c = c.requires.edges

pub edges_after-requires-clause-can : goal.edges_after-requires-clause-can
edges_after-requires-clause-can c = c.requires.can

pub returns-in_err-push_old_nodes : goal.returns-in_err-push_old_nodes
returns-in_err-push_old_nodes c = let e = c.from_residual.ensures.0 in record { few = IfOk-from_err _ _ e; nodes = IfOk-from_err _ _ e; origins = IfOk-from_err _ _ e; edges = IfOk-from_err _ _ e }

pub returns-in_err-push_made_nodes : goal.returns-in_err-push_made_nodes
returns-in_err-push_made_nodes c = let e = c.from_residual-in_err-push_made_nodes.ensures.0 in record { few = IfOk-from_err _ _ e; nodes = IfOk-from_err _ _ e; origins = IfOk-from_err _ _ e; edges = IfOk-from_err _ _ e }

pub returns-in_err-push_origins : goal.returns-in_err-push_origins
returns-in_err-push_origins c = let e = c.from_residual-in_err-push_origins.ensures.0 in record { few = IfOk-from_err _ _ e; nodes = IfOk-from_err _ _ e; origins = IfOk-from_err _ _ e; edges = IfOk-from_err _ _ e }

pub returns-in_err-push_made_origins : goal.returns-in_err-push_made_origins
returns-in_err-push_made_origins c = let e = c.from_residual-in_err-push_made_origins.ensures.0 in record { few = IfOk-from_err _ _ e; nodes = IfOk-from_err _ _ e; origins = IfOk-from_err _ _ e; edges = IfOk-from_err _ _ e }

pub returns-in_err-parts : goal.returns-in_err-parts
returns-in_err-parts c = let e = c.from_residual-in_err-parts.ensures.0 in record { few = IfOk-from_err _ _ e; nodes = IfOk-from_err _ _ e; origins = IfOk-from_err _ _ e; edges = IfOk-from_err _ _ e }

pub returns-clause-few : goal.returns-clause-few
returns-clause-few c = few_blocks _ _ _ _ _ c.len.ensures.len (ap length c.as_slice-made.ensures) c.from.ensures c.if-blocks-from.false

pub returns-clause-nodes : goal.returns-clause-nodes
returns-clause-nodes c =
    let old = nodes_from c.args.graph.now c.args.replacement.now 0 c.args.graph.now.nodes in
    c.in_ok-push_made_nodes.ensures
    ∙ ap (λ l. l ++ map made_node c.as_slice-made.result.now) (c.in_ok-push_old_nodes.ensures ∙ ap (λ l. l ++ old) c.requires.no_nodes)
    ∙ ap (λ made. old ++ map made_node made) c.as_slice-made.ensures

pub returns-clause-origins : goal.returns-clause-origins
returns-clause-origins c =
    let old = c.args.graph.now.origins in
    let ops = c.as_slice-ops.result.now in
    let made = c.as_slice-made.result.now in
    c.in_ok-push_made_origins.ensures
    ∙ ap (λ l. l ++ map (made_origin ops) made) (c.in_ok-push_origins.ensures ∙ ap (λ l. l ++ c.as_slice.result.now) c.requires.no_origins ∙ c.as_slice.ensures)
    ∙ ap (λ o. old ++ map (made_origin o) made) c.as_slice-ops.ensures
    ∙ ap (λ l. old ++ map (made_origin c.args.replacement.now.trace.ops) l) c.as_slice-made.ensures

pub returns-clause-edges : goal.returns-clause-edges
returns-clause-edges c = c.in_ok-parts.ensures
