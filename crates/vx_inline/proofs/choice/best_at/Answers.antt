use Rattle.vx_inline.specs.Finding.{seen}
use Rattle.vx_inline.proofs.Candidates.{candidate_with, none_with}
use Rattle.vx_inline.proofs.Firsts.{best_stays, best_taken}
use Rattle.vx_inline.proofs.choice.best_at.Goals as goal

pub returns-then-branch : goal.returns-then-branch
returns-then-branch c =
    let flow = c.args.asked.now.flow.now in
    let counts = c.args.asked.now.counts.now in
    let most = c.args.asked.now.most in
    let site = c.args.site in
    let candidate = candidate_with flow counts most c.args.best site (seen c.in-Some.found) _ c.requires.apart c.in-Some.ensures c.in_ok-has_room-in-Some.ensures c.if-branch.true in
    best_taken flow counts most site.function site.block c.args.best candidate c.in-Some.ensures.exceeds c.requires.best

pub returns-else-branch : goal.returns-else-branch
returns-else-branch c =
    let flow = c.args.asked.now.flow.now in
    let counts = c.args.asked.now.counts.now in
    let most = c.args.asked.now.most in
    let site = c.args.site in
    let none = none_with flow counts most c.args.best site (seen c.in-Some.found) _ c.requires.apart c.in-Some.ensures c.in_ok-has_room-in-Some.ensures c.if-branch.false in
    best_stays flow counts most site.function site.block c.args.best none c.requires.best
