use Rattle.std.proofs.Common.{◌<◌, ◌+◌, ◌∷◌, ◌∙◌, drop, get_or, length, sym, ap, subst}
use Rattle.vx_mixed.specs.declared.region.Node.TheVariants.{Enters}
use Rattle.vx_mixed.proofs.RouteSteps.{left_at, left_from}
use Rattle.vx_replace.specs.Exchanged.{with_rejoins}
use Rattle.vx_replace.proofs.PutSteps.{item_is, set_many}
use Rattle.vx_replace.proofs.exchange.put_rejoins.Goals as goal

pub set-requires : goal.set-requires
set-requires c =
    let j = c.index-joins-index.result in
    subst (λ n. j.block < n) (sym c.loop-index.invariant.1) (c.requires.joins j (item_is c.args.joins.now c.loop-index.index j c.loop-index-test.true c.index-joins-index.is))

pub loop-index-preserved : goal.loop-index-preserved
loop-index-preserved c =
    let region = c.args.region in
    let joins = c.args.joins.now in
    let words = c.args.rejoins.now in
    let i = c.loop-index.index in
    let j = c.index-joins-index.result in
    let nodes = c.loop-index.nodes in
    let low = subst (λ n. i < n) (sym c.requires.many) c.loop-index-test.true in (
      ap (with_rejoins region (drop (i + 1) joins) (drop (i + 1) words)) c.set.ensures
          ∙ sym (ap (λ l. with_rejoins region l (drop i words) nodes) (left_at joins i j c.loop-index-test.true c.index-joins-index.is) ∙ ap (λ l. with_rejoins region (j ∷ drop (i + 1) joins) l nodes) (left_from words i 0 low))
          ∙ c.loop-index.invariant.0,
      ap length c.set.ensures ∙ set_many nodes j.block (Enters region (get_or words i 0)) ∙ c.loop-index.invariant.1,
    )
