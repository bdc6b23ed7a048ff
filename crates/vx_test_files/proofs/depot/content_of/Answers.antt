use Rattle.std.proofs.Common.{◌∙◌, sym, ap, ◌<◌, ◌≤◌, length, arith, Some, List, ℕ}
use Rattle.std.specs.List.{prefix_len}
use Rattle.vx_test_files.proofs.MemFiles.{content-here, content-none, is_other}
use Rattle.vx_test_files.proofs.depot.content_of.Goals as goal

pub returns-then-at-files : goal.returns-then-at-files
returns-then-at-files c =
    let files = c.args.files.now in
    let name = c.args.name.now in
    let below : prefix_len (is_other name) files < length files = omega (arith, c.place_of-at.ensures, c.if-at-files.true) in
    ap (λ (bytes : List ℕ). Some bytes) (c.as_slice.ensures.value) ∙ rw c.place_of-at.ensures (sym (content-here files name c.index-files-at.result below))

pub returns-else-at-files : goal.returns-else-at-files
returns-else-at-files c =
    let files = c.args.files.now in
    let name = c.args.name.now in
    let past : length files ≤ prefix_len (is_other name) files = omega (arith, c.place_of-at.ensures, c.if-at-files.false) in
    sym (content-none files name past)
