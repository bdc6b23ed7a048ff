use Rattle.std.proofs.Common.{sym}
use Rattle.vx_bug.proofs.assignment.copies_housed.Goals as goal

pub returns-clause-clustered : goal.returns-clause-clustered
returns-clause-clustered c = sym c.in_ok-beside.ensures.clustered

pub lay_beside-requires-clause-out : goal.lay_beside-requires-clause-out
lay_beside-requires-clause-out c = c.no_standings-out.ensures

pub lay_beside-requires-clause-chosen : goal.lay_beside-requires-clause-chosen
lay_beside-requires-clause-chosen c = c.requires.chosen

pub lay_beside-requires-clause-fixed : goal.lay_beside-requires-clause-fixed
lay_beside-requires-clause-fixed c = c.requires.fixed

pub returns-clause-homes : goal.returns-clause-homes
returns-clause-homes c = c.in_ok-beside.ensures.homes
