use Rattle.std.proofs.Common.{◌∷◌, [], subst}
use Rattle.std.proofs.lemmas.Result.{on_ok_weaker}
use Rattle.vx_bug.specs.Copies.{here, renamed_op}
use Rattle.vx_bug.specs.Laying.{Adds, standing}
use Rattle.vx_bug.specs.Ledgers.{homes_in}
use Rattle.vx_bug.proofs.Needing.{with_three}
use Rattle.vx_bug.proofs.cluster_copies.put_with_copies.Goals as goal

pub returns : goal.returns
returns c =
    let site = c.args.site.now in
    let needed = c.args.needed in
    on_ok_weaker c.put.result
    (λ p. with_three site.values site.cluster needed.first needed.second (standing (renamed_op (here site.values (homes_in site.homes.now) site.cluster) c.args.op.now) site.cluster c.args.fixed ∷ []) c.args.out.now c.put_copy.new.out c.put_copy-2.new.out c.put.new.out
    c.in_ok-put_copy.ensures c.in_ok-put_copy-2.ensures
    (subst (λ o. Adds c.put_copy-2.new.out c.put.new.out (standing o site.cluster c.args.fixed ∷ [])) c.in_ok-op.ensures p))
    c.put.ensures
