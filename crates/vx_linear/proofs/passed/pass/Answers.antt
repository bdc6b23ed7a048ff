use Rattle.std.proofs.Common.{◌≡◌, ◌+◌, ◌++◌, [], ◌∷◌, length, ◌∙◌, ap, arith, if◌then◌else◌}
use Rattle.std.proofs.lemmas.List.{length-append}
use Rattle.vx_linear.specs.Followed.{is_join}
use Rattle.vx_linear.proofs.Passing.{passes_next}
use Rattle.vx_linear.proofs.passed.pass.Goals as goal

pub returns : goal.returns
returns c =
    let t = c.args.trace.now in
    let p = c.args.passed.now in
    let knowns_are : c.push.new.self ≡ p.knowns ++ c.args.found ∷ [] = c.in_ok-push.ensures.ok in
    let indices_are : c.push-2.new.self ≡ p.indices ++ c.args.index ∷ [] = c.in_ok-push-2.ensures.ok in
    let count = c.requires.passed.all_made in
    let next : c.len.result ≡ c.args.place + 1 = omega (arith, c.len.ensures.len ∙ ap length knowns_are ∙ length-append p.knowns (c.args.found ∷ []), count) in
    passes_next t c.args.place p c.args.op.now c.args.found c.args.index c.requires.passed c.requires.there c.requires.found c.requires.index
    (record { knowns = c.push.new.self; indices = c.push-2.new.self; writers = c.note_writer.new.writers; join = c.join_at-passed.result })
    knowns_are indices_are c.in_ok-note_writer.ensures
    (c.join_at-passed.ensures ∙ ap (λ n. if is_join t n then n else p.join) next)
