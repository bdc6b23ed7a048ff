use Rattle.std.proofs.Common.{◌≡◌, ◌∙◌, ◌+◌, List, ℕ, ap, length, take, []}
use Rattle.vx_flow.specs.declared.graph.Op.{Op}
use Rattle.vx_select.specs.Known.{told, whole, ops_at}
use Rattle.vx_select.specs.Selected.{those_from, has, written, left_values, right_values, free_values}
use Rattle.vx_select.specs.Values.{either_writing}
use Rattle.vx_select.proofs.Freeing.{written_is}
use Rattle.vx_select.proofs.values.values_of.Goals as goal

pub returns : goal.returns
returns c =
    let g = c.args.graph.now in
    let d = whole c.args.graph.now c.args.corners.now in
    let left : c.in_ok-left.left.items ≡ left_values g d =
    c.in_ok-left.ensures ∙ ap (λ (l : List Op). those_from (either_writing l []) 0 c.len-count.result) c.ops_at.ensures ∙ written_is (ops_at g c.args.corners.now.yes) c.len-count.result ∙ ap (those_from (has (written (ops_at g c.args.corners.now.yes))) 0) c.len-count.ensures.len in
    let right : c.in_ok-right.right.items ≡ right_values g d =
    c.in_ok-right.ensures ∙ ap (λ (l : List Op). those_from (either_writing l []) 0 c.len-count.result) c.ops_at-2.ensures ∙ written_is (ops_at g c.args.corners.now.no) c.len-count.result ∙ ap (those_from (has (written (ops_at g c.args.corners.now.no))) 0) c.len-count.ensures.len in
    record {
      left = left;
      right = right;
      free = c.in_ok-free.ensures ∙ ap (λ n. take n (free_values (told c.args.known.now) g d)) (ap (λ n. n + c.len-2.result) (c.len.ensures ∙ c.in_ok-left.left.ok.0 ∙ ap (λ (l : List ℕ). length l) left) ∙ ap (λ n. length (left_values g d) + n) (c.len-2.ensures ∙ c.in_ok-right.right.ok.0 ∙ ap (λ (l : List ℕ). length l) right));
      chosen = c.in_ok-chosen.ensures;
    }
