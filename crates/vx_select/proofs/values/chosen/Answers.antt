use Rattle.std.proofs.Common.{◌∙◌, ◌&&◌, ◌||◌, List, ℕ, Bool, ap}
use Rattle.std.specs.List.{filter}
use Rattle.std.proofs.lemmas.Result.{IfOk-weaker}
use Rattle.vx_flow.specs.declared.graph.Op.{Op}
use Rattle.vx_select.specs.Known.{told, ops_at}
use Rattle.vx_select.specs.Selected.{those_from, has, written}
use Rattle.vx_select.specs.Values.{either_writing}
use Rattle.vx_select.proofs.Freeing.{chosen_is}
use Rattle.vx_select.proofs.values.chosen.Goals as goal

pub returns : goal.returns
returns c =
    let k : ℕ → Bool = told c.args.known.now c.args.corners.now.join in
    let left : List Op = ops_at c.args.graph.now c.args.corners.now.yes in
    let right : List Op = ops_at c.args.graph.now c.args.corners.now.no in
    IfOk-weaker c.living.result _ _
    (λ values same.
    same ∙ ap (filter k) (c.as_slice.ensures.value ∙ c.in_ok-both.ensures)
    ∙ ap (λ (l : List Op). filter k (those_from (either_writing l c.ops_at-right.result.now) 0 c.args.count)) c.ops_at-left.ensures
    ∙ ap (λ (l : List Op). filter k (those_from (either_writing left l) 0 c.args.count)) c.ops_at-right.ensures
    ∙ chosen_is k left right c.args.count
    ∙ ap (λ n. those_from (λ v. (has (written left) v || has (written right) v) && k v) 0 n) c.requires)
    c.living.ensures
