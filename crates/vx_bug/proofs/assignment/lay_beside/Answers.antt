use Rattle.std.proofs.Common.{ℕ, List, Option, refl, sym, subst}
use Rattle.vx_bug.specs.Copies.{pieces_of}
use Rattle.vx_bug.specs.Laying.{AreLaid}
use Rattle.vx_bug.specs.Ledgers.{homes_in}
use Rattle.vx_bug.proofs.Pieces.{whole, moved_told}
use Rattle.vx_bug.proofs.assignment.lay_beside.Goals as goal

pub returns-clause-clustered : goal.returns-clause-clustered
returns-clause-clustered c =
    let t = c.args.trace.now in
    let kept = c.in_ok-kept.kept in
    let out = c.lay_all.new.out in
    let starts = c.lay_all.new.starts in
    let laid : AreLaid (pieces_of t (homes_in c.args.homes.items) c.args.chosen.now) out starts =
    subst (λ (z : List (Option ℕ)). AreLaid (pieces_of t (homes_in z) c.args.chosen.now) out starts) c.as_slice.ensures.value c.in_ok-lay_all.ensures in
    sym (whole t (homes_in c.args.homes.items) c.args.chosen.now kept.blocks kept.arrays out starts kept.joins c.in_ok-kept.ensures.blocks c.in_ok-kept.ensures.arrays laid
    (moved_told starts c.as_slice-2.result.now t.joins t.joins kept.joins c.as_slice-2.ensures refl c.in_ok-kept.ensures.joins))

pub returns-clause-homes : goal.returns-clause-homes
returns-clause-homes c = c.in_ok-homes.ensures

pub lay_all-requires-clause-chosen : goal.lay_all-requires-clause-chosen
lay_all-requires-clause-chosen c = c.requires.chosen

pub lay_all-requires-clause-fixed : goal.lay_all-requires-clause-fixed
lay_all-requires-clause-fixed c = c.requires.fixed

pub lay_all-requires-clause-out : goal.lay_all-requires-clause-out
lay_all-requires-clause-out c = c.requires.out

pub lay_all-requires-clause-starts : goal.lay_all-requires-clause-starts
lay_all-requires-clause-starts c = c.new-starts.ensures
