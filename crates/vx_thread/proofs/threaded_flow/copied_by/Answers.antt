use Rattle.std.proofs.Common.{◌≡◌, ◌∙◌, ap, sym, true, List, ℕ}
use Rattle.vx_flow.specs.declared.graph.Block.{Block}
use Rattle.vx_flow.specs.declared.graph.Graph.{Graph}
use Rattle.vx_clean.specs.LinkTest.{is_laid_out}
use Rattle.vx_thread.proofs.ThreadFlow.{copied_where_laid}
use Rattle.vx_thread.proofs.threaded_flow.copied_by.Goals as goal

pub returns-in_ok-copied : goal.returns-in_ok-copied
returns-in_ok-copied c =
    let g : Graph = c.args.graph.now in
    let to : List ℕ = c.as_slice-to.result.now in
    let chains : List (List ℕ) = c.as_slice-chains.result.now in
    let t : is_laid_out to g.blocks chains ≡ true = sym (c.is_laid_out.ensures ∙ ap (λ (bs : List Block). is_laid_out to bs chains) c.as_slice.ensures) ∙ c.if-is_laid_out.true in
    copied_where_laid to chains g c.in_ok-copied.copied c.in_ok-copied.ensures t
