-- Each turn puts one line more.
use Rattle.std.proofs.Common.{◌∙◌, ◌++◌, ap, codes}
use Rattle.vx_words.specs.Spelling.{quoted_text, text_line}
use Rattle.vx_words.proofs.Pieces.{piece_more, pieces_all, two_put}
use Rattle.vx_words.proofs.program_text.push_text_lines.Goals as goal

pub loop-text-preserved : goal.loop-text-preserved
loop-text-preserved c =
    let out = c.loop-text.out.items in
    let first = c.in_ok-push_quoted.ensures ∙ ap (λ l. out ++ quoted_text l) (c.as_slice.ensures ∙ c.text-item.is) in
    let put = two_put out _ _ _ (codes "\n") first c.in_ok-push_bytes.ensures in
    piece_more text_line c.args.out.now.items out c.args.texts.now c.loop-text.text-index c.push_bytes.new.out.items _ c.loop-text.invariant put c.loop-text-test.true

pub returns : goal.returns
returns c = pieces_all text_line c.args.out.now.items c.loop-text.out.items c.args.texts.now c.loop-text.text-index c.loop-text.invariant c.loop-text-test.false
