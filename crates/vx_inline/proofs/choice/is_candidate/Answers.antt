use Rattle.std.proofs.Common.{◌∙◌, sym}
use Rattle.std.proofs.lemmas.Result.{IfOk-weaker}
use Rattle.vx_inline.specs.Finding.{seen}
use Rattle.vx_inline.proofs.Candidates.{apart_known, candidate_with}
use Rattle.vx_inline.proofs.choice.is_candidate.Goals as goal

pub returns-in-Some : goal.returns-in-Some
returns-in-Some c =
    let flow = c.args.asked.now.flow.now in
    let call = seen c.in-Some.found in
    let worth = c.in-Some.ensures in
    let apart = apart_known flow c.args.site.now call c.args.asked.now.known.now c.requires.known worth.is (sym c.is_apart.ensures ∙ c.if-not-is_apart.false) in
    IfOk-weaker c.has_room.result _ _ (λ has h t. candidate_with flow c.args.asked.now.counts.now c.args.asked.now.most _ c.args.site.now call has apart worth h t) c.has_room.ensures
