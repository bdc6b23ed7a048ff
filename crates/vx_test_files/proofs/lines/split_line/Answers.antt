use Rattle.std.proofs.Common.{◌≡◌, ◌≢◌, ◌<◌, ◌≤◌, ◌+◌, ℕ, List, All, length, take_all, arith, subst, add-one}
use Rattle.std.specs.List.{prefix_len}
use Rattle.vx_io.proofs.PutSoFar.{slice_from}
use Rattle.vx_test_files.proofs.LineLemmas.{lines_of-ended, lines_of-last, is_inside}
use Rattle.vx_test_files.proofs.lines.split_line.Goals as goal

pub returns-then-length-text-clause-first : goal.returns-then-length-text-clause-first
returns-then-length-text-clause-first c =
    let text = c.args.text.now in
    let counts : c.first_length-length.result ≡ prefix_len is_inside text = c.first_length-length.ensures.counts in
    let below : prefix_len is_inside text < length text = omega (arith, counts, c.if-length-text.true) in
    rw (slice_from (c.first_length-length.result + 1) text, add-one, counts) (lines_of-ended text below)

pub returns-else-length-text-clause-first : goal.returns-else-length-text-clause-first
returns-else-length-text-clause-first c =
    let text = c.args.text.now in
    let past : length text ≤ prefix_len is_inside text = omega (arith, c.first_length-length.ensures.counts, c.if-length-text.false) in
    lines_of-last text c.requires past

pub returns-else-length-text-clause-no_line_feed : goal.returns-else-length-text-clause-no_line_feed
returns-else-length-text-clause-no_line_feed c =
    let text = c.args.text.now in
    let P : List ℕ → Type 0 = λ bytes. All (λ byte. byte ≢ 10) bytes in
    subst P (take_all c.first_length-length.result text c.if-length-text.false) c.first_length-length.ensures.inside
