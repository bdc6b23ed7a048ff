use Rattle.std.proofs.Common.{◌<◌, List, [], ◌∷◌, length, slice_set, sym, subst, arith}
use Rattle.std.proofs.lemmas.Result.{IfOk-weaker}
use Rattle.vx_tables.proofs.Members.{row_is}
use Rattle.vx_check.specs.declared.in_flight.InFlight.{InFlight}
use Rattle.vx_check.specs.InFlight.{Joins, JoinsAt}
use Rattle.vx_check.proofs.Passing.{joins_at}
use Rattle.vx_check.proofs.rounds.put_at.Goals as goal

pub returns-then-place-len : goal.returns-then-place-len
returns-then-place-len c =
    let few = c.if-place-len.true in
    let len = c.len.ensures in
    let there : c.args.place < length c.args.rows.now.items = omega arith in
    IfOk-weaker c.add_all.result (λ x. Joins c.index_mut-row.result.now c.args.out.now c.add_all.new.list)
    (λ x. JoinsAt (c.args.place ∷ []) c.args.out.now c.args.rows.now.items (slice_set c.args.rows.now.items c.args.place c.add_all.new.list))
    (λ x j. joins_at c.args.rows.now.items c.args.place c.args.out.now c.add_all.new.list there
    (subst (λ (l : List InFlight). Joins l c.args.out.now c.add_all.new.list) (sym (row_is c.args.rows.now.items c.args.place c.index_mut-row.result.now there c.index_mut-row.ensures.value)) j))
    c.add_all.ensures
