use Rattle.vx_dep.proofs.Nearby.{ok_always, ok_by_two}
use Rattle.vx_dep.proofs.Sought.{none_more_noted, one_more_noted}
use Rattle.vx_dep.proofs.earlier.find_near.Goals as goal

pub returns-in-None-clause-noted : goal.returns-in-None-clause-noted
returns-in-None-clause-noted c = ok_always c.find_earlier.result (none_more_noted c.args.sight.now.keys c.args.near.now c.args.place c.requires c.in-None.ensures.none)

pub returns-in_ok-find_behind-in-Some-clause-noted : goal.returns-in_ok-find_behind-in-Some-clause-noted
returns-in_ok-find_behind-in-Some-clause-noted c =
    ok_by_two c.note.result
    (λ keeps is. one_more_noted c.args.sight.now.keys c.args.near.now c.note.new.self c.args.place c.in-Some.b.now c.requires c.in-Some.ensures.some keeps is)
    c.note.ensures.keeps c.note.ensures.noted
