use Rattle.std.proofs.Common.{◌≡◌, ◌<◌, ◌-◌, ◌∙◌, drop, length, slice_index_or, take, sym, ap, subst, arith}
use Rattle.vx_flow.specs.Effects.{IsIn}
use Rattle.vx_mixed.specs.declared.region.Node.TheVariants.{Enters}
use Rattle.vx_replace.specs.Exchanged.{with_blocks, with_inner, with_rejoins}
use Rattle.vx_replace.proofs.PutSteps.{first_of, none_of, item_in, in_rest, set_many}
use Rattle.vx_replace.proofs.exchange.exchange.Goals as goal

pub set-requires : goal.set-requires
set-requires c =
    let some = c.in-len1-up.len_at_least in
    let low : 0 < length c.as_slice.result.now = omega arith in
    c.requires.blocks (slice_index_or c.as_slice.result.now 0 0) (subst (IsIn (slice_index_or c.as_slice.result.now 0 0)) c.as_slice.ensures (item_in c.as_slice.result.now 0 0 low))

pub put_inner-requires : goal.put_inner-requires
put_inner-requires c = λ b h.
    let many : length c.set.new.self ≡ length c.args.nodes.now = ap length c.set.ensures ∙ set_many c.args.nodes.now (slice_index_or c.as_slice.result.now 0 0) (Enters c.args.region 0) in
    subst (λ n. b < n) (sym many) (c.requires.blocks b (subst (IsIn b) c.as_slice.ensures (in_rest c.as_slice.result.now (length c.as_slice.result.now - 1) b h)))

pub put_rejoins-requires-clause-joins : goal.put_rejoins-requires-clause-joins
put_rejoins-requires-clause-joins c = λ j h.
    let many : length c.put_inner.new.nodes ≡ length c.args.nodes.now = c.put_inner.ensures.many ∙ ap length c.set.ensures ∙ set_many c.args.nodes.now (slice_index_or c.as_slice.result.now 0 0) (Enters c.args.region 0) in
    subst (λ n. j.block < n) (sym many) (c.requires.joins j (subst (IsIn j) c.as_slice-joins.ensures h))

pub returns-in-len1-up : goal.returns-in-len1-up
returns-in-len1-up c =
    let region = c.args.region in
    let r = c.args.replacement.now in
    let nodes = c.args.nodes.now in
    let bs = c.as_slice.result.now in
    c.put_rejoins.ensures
    ∙ ap (λ joins. with_rejoins region joins c.as_slice-in-len1-up.result.now c.put_inner.new.nodes) c.as_slice-joins.ensures
    ∙ ap (λ words. with_rejoins region r.trace.joins words c.put_inner.new.nodes) c.as_slice-in-len1-up.ensures
    ∙ ap (with_rejoins region r.trace.joins r.rejoins) (c.put_inner.ensures.exact ∙ ap (with_inner (take (length bs - 1) (drop 1 bs))) c.set.ensures)
    ∙ ap (λ blocks. with_blocks region blocks r.trace.joins r.rejoins nodes) (sym (first_of bs c.in-len1-up.len_at_least) ∙ c.as_slice.ensures)

pub put_rejoins-requires-clause-many : goal.put_rejoins-requires-clause-many
put_rejoins-requires-clause-many c = ap length c.as_slice-in-len1-up.ensures ∙ c.requires.rejoins ∙ sym (ap length c.as_slice-joins.ensures)

pub returns-in_default : goal.returns-in_default
returns-in_default c =
    let r = c.args.replacement.now in
    ap (λ blocks. with_blocks c.args.region blocks r.trace.joins r.rejoins c.args.nodes.now) (sym (none_of c.as_slice.result.now c.in_default.len_below) ∙ c.as_slice.ensures)
