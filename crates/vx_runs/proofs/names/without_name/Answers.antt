-- One word more is put behind those so far.
use Rattle.std.proofs.Common.{◌∷◌, ◌∙◌, map, string_bytes, ap, arith}
use Rattle.std.proofs.lemmas.List.{take_all}
use Rattle.vx_runs.proofs.Naming.{words_more}
use Rattle.vx_runs.proofs.names.without_name.Goals as goal

pub loop-other-preserved : goal.loop-other-preserved
loop-other-preserved c =
    words_more _ string_bytes (string_bytes c.args.program.now) c.loop-other.words.items _ _ c.args.others.now c.loop-other.other-index c.other-item.result c.in_ok-push-2.ensures.items c.loop-other.invariant c.as_str-in-loop-other.ensures.value c.other-item.is c.loop-other-test.true

pub returns : goal.returns
returns c = c.loop-other.invariant ∙ ap (λ words. string_bytes c.args.program.now ∷ map string_bytes words) (take_all c.loop-other.other-index c.args.others.now (omega (arith, c.loop-other-test.false)))
