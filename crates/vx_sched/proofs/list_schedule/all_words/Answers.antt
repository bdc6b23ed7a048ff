use Rattle.std.proofs.Common.{◌∙◌, ◌∷◌, map, refl, ap, sym}
use Rattle.vx_sched.specs.Filling.{word_or_0}
use Rattle.vx_dep.proofs.Moved.{moved, all_moved}
use Rattle.vx_sched.proofs.list_schedule.all_words.Goals as goal

pub list-preserved : goal.list-preserved
list-preserved c = moved (map word_or_0) (map word_or_0 c.args.words.now) c.list.list c.push.new.self c.list.rest.now c.in-Some.others.now c.word_or_0.result c.list.invariant
    (ap (map word_or_0) c.in-Some.ensures.cases.0 ∙ ap (λ w. w ∷ map word_or_0 c.in-Some.others.now) (sym c.word_or_0.ensures)) c.in_ok-push-in-Some.ensures.ok

pub returns-in-None : goal.returns-in-None
returns-in-None c = all_moved (map word_or_0) (map word_or_0 c.args.words.now) c.list.list c.list.rest.now refl c.in-None.ensures.cases c.list.invariant
