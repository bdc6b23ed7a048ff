use Rattle.std.proofs.Common.{◌∙◌, ◌*◌, ◌-◌, ℕ, ap}
use Rattle.std.specs.Prelude.{count_by}
use Rattle.std.proofs.lemmas.Result.{IfOk-weaker}
use Rattle.vx_lower.specs.FlowOf.{is_branch, is_general}
use Rattle.vx_select.proofs.Exactly.{lacking_is}
use Rattle.vx_select.proofs.padding.push_lacking.Goals as goal

pub returns : goal.returns
returns c =
    let n : ℕ = c.args.size in
    IfOk-weaker c.push_many-2.result _ _
    (λ u e. lacking_is n c.lack-general.result c.lack-branch.result c.args.banks.now c.push_many.new.banks c.push_many-2.new.banks
    (c.lack-general.ensures ∙ ap (λ k. 3 * n - k) (c.generals.ensures ∙ ap (count_by is_general) c.as_slice.ensures))
    (c.lack-branch.ensures ∙ ap (λ k. 2 * n - k) (c.branches.ensures ∙ ap (count_by is_branch) c.as_slice-2.ensures))
    c.in_ok-push_many.ensures e)
    c.push_many-2.ensures
