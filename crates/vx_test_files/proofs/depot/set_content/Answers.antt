use Rattle.std.proofs.Common.{◌≡◌, ◌<◌, ◌≤◌, ◌∙◌, List, length, arith, ap}
use Rattle.std.specs.List.{prefix_len}
use Rattle.std.specs.Prelude.{string_bytes}
use Rattle.std.proofs.Math.Path.{fun_ext}
use Rattle.vx_test_files.proofs.MemFiles.{content-set, content-push, name-here, is_other, Stored}
use Rattle.vx_test_files.proofs.depot.set_content.Goals as goal

pub returns-then-at-len-clause-set : goal.returns-then-at-len-clause-set
returns-then-at-len-clause-set c =
    let files = c.args.files.now.items in
    let name = c.args.name.now in
    let old : Stored = c.index_mut-file.result.now in
    let new : Stored = (old.0, c.args.content) in
    let at : c.place_of-at.result ≡ prefix_len (is_other name) files = c.place_of-at.ensures ∙ ap (λ (xs : List Stored). prefix_len (is_other name) xs) c.deref.ensures.value in
    let below : prefix_len (is_other name) files < length files = omega (arith, at, c.if-at-len.true, c.len.ensures) in
    let named : string_bytes old.0 ≡ name = ap (λ (file : Stored). string_bytes file.0) c.index_mut-file.ensures.value ∙ rw at (name-here files name old below) in
    rw at (fun_ext (λ q. content-set files name new q below named))

pub returns-clause-set : goal.returns-clause-set
returns-clause-set c =
    let files = c.args.files.now.items in
    let name = c.args.name.now in
    let new : Stored = (c.in_ok-name.name, c.args.content) in
    let at : c.place_of-at.result ≡ prefix_len (is_other name) files = c.place_of-at.ensures ∙ ap (λ (xs : List Stored). prefix_len (is_other name) xs) c.deref.ensures.value in
    let past : length files ≤ prefix_len (is_other name) files = omega (arith, at, c.if-at-len.false, c.len.ensures) in
    rw c.in_ok-push.ensures.items (fun_ext (λ q. content-push files name new q past c.in_ok-name.ensures.ok))
