use Rattle.std.proofs.Common.{◌∙◌, List, ℕ, ap}
use Rattle.vx_flow.specs.declared.graph.Flow.{Flow}
use Rattle.vx_shape.proofs.copies.with_graphs.Goals as goal

pub returns : goal.returns
returns c =
    let flow = c.args.flow.now in
    let made : Flow = record flow { functions = c.args.functions } in
    ap (λ globals. record made { globals = globals; texts = c.in_ok-texts.texts }) (c.in_ok-globals.ensures ∙ c.as_slice.ensures)
    ∙ ap (λ (texts : List (List ℕ)). record made { texts = texts }) (c.in_ok-texts.ensures ∙ c.as_slice-2.ensures)
