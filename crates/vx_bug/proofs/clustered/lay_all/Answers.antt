use Rattle.std.proofs.Common.{◌≡◌, ◌<◌, ◌≤◌, ◌++◌, ◌∷◌, ◌∙◌, [], length, ap, subst}
use Rattle.vx_bug.specs.Ledgers.{homes_in}
use Rattle.vx_bug.proofs.Pieces.{step_laid, end_laid}
use Rattle.vx_bug.proofs.clustered.lay_all.Goals as goal

pub lay-preserved : goal.lay-preserved
lay-preserved c =
    let inside : c.lay.place < length c.args.trace.now.ops = subst (λ n. c.lay.place < n) c.len.ensures.len c.lay-test.true in
    let more : c.push.new.self ≡ c.lay.starts ++ length c.lay.out.ops ∷ [] = c.in_ok-push.ensures.ok ∙ ap (λ n. c.lay.starts ++ n ∷ []) c.len-in-lay.ensures.len in
    step_laid c.args.trace.now (homes_in c.args.homes.now) c.args.chosen.now c.lay.place c.lay.served.items c.lay_one.new.served.items c.lay.out c.lay_one.new.out c.lay.starts c.push.new.self
    inside c.requires.chosen c.requires.fixed c.lay.invariant c.in_ok-lay_one.ensures more

pub returns : goal.returns
returns c =
    let past : length c.args.trace.now.ops ≤ c.lay.place = subst (λ n. n ≤ c.lay.place) c.len.ensures.len c.lay-test.false in
    let all : c.push-2.new.self ≡ c.lay.starts ++ length c.lay.out.ops ∷ [] = c.in_ok-push-2.ensures.ok ∙ ap (λ n. c.lay.starts ++ n ∷ []) c.len-2.ensures.len in
    end_laid c.args.trace.now (homes_in c.args.homes.now) c.args.chosen.now c.lay.place c.lay.served.items c.lay.out c.lay.starts c.push-2.new.self past c.lay.invariant all

pub lay_one-requires-clause-chosen : goal.lay_one-requires-clause-chosen
lay_one-requires-clause-chosen c = c.requires.chosen

pub lay_one-requires-clause-fixed : goal.lay_one-requires-clause-fixed
lay_one-requires-clause-fixed c = c.requires.fixed
