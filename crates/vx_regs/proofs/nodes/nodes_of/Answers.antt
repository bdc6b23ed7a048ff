use Rattle.std.proofs.Common.{◌≡◌, ◌<◌, ◌∙◌, ℕ, true, Some, ap, Result, Ok, Err, IfOk}
use Rattle.vx_regs.specs.Ways.{marked_by_words, node_in, numbered, starts, NodesFound}
use Rattle.vx_regs.specs.declared.nodes.Nodes.{Nodes}
use Rattle.vx_regs.proofs.NodeMarks.{nodes_found}
use Rattle.vx_regs.proofs.nodes.nodes_of.Goals as goal

both : {A E : Type 0} (P Q R : A → Type 0) (r : Result A E) → ((x : A) → P x → Q x → R x) → IfOk r P → IfOk r Q → IfOk r R
both P Q R (Ok x) f p q = f x p q
both P Q R (Err e) f p q = tt

pub returns : goal.returns
returns c =
    let l = c.args.layout.now in
    let start = c.in_ok-marks.marks.items in
    let first = c.mark.new.marks.items in
    let last = c.mark_words.new.marks.items in
    let given = c.as_slice.result.now in
    both (λ (nodes : Nodes). nodes.numbers ≡ numbered 0 given) (λ (nodes : Nodes). (place n : ℕ) → node_in nodes.numbers place ≡ Some n → n < nodes.count) (NodesFound l) c.numbered.result
    (λ (nodes : Nodes) are count. nodes_found l nodes start first last
    (c.in_ok-marks.ensures ∙ ap (starts true) c.as_slice-words.ensures) c.mark.ensures
    (c.in_ok-mark_words.ensures ∙ ap (marked_by_words first 0) c.as_slice-words.ensures)
    (are ∙ ap (numbered 0) c.as_slice.ensures.value) count)
    c.numbered.ensures.numbers c.numbered.ensures.count
