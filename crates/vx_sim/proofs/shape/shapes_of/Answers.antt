use Rattle.std.proofs.Common.{◌∙◌, ◌++◌, ◌∷◌, [], map, take, sym, ap, arith}
use Rattle.std.proofs.lemmas.List.{map_more, take_all}
use Rattle.vx_sim.specs.Shapes.{shape_of}
use Rattle.vx_sim.proofs.shape.shapes_of.Goals as goal

pub loop-word-preserved : goal.loop-word-preserved
loop-word-preserved c =
    let m = c.args.machine.now in
    let words = c.args.words.now in
    let i = c.loop-word.word-index in
    c.in_ok-push.ensures.items ∙ ap (λ shapes. shapes ++ c.shape_of.result ∷ []) c.loop-word.invariant
    ∙ ap (λ shape. map (shape_of m) (take i words) ++ shape ∷ []) (c.shape_of.ensures ∙ ap (shape_of m) c.word-item.is) ∙ sym (map_more (shape_of m) words i _ c.loop-word-test.true)

pub returns : goal.returns
returns c =
    let words = c.args.words.now in
    c.loop-word.invariant ∙ ap (map (shape_of c.args.machine.now)) (take_all c.loop-word.word-index words (omega (arith, c.loop-word-test.false)))
