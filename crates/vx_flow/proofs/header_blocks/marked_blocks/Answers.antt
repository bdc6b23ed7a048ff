use Rattle.std.proofs.Common.{◌≡◌, ◌∙◌, ◌++◌, ◌∷◌, ℕ, Vec, Global, [], ap, arith, sym}
use Rattle.std.specs.List.{filter}
use Rattle.vx_flow.specs.Rows.{is_marked}
use Rattle.vx_flow.specs.Walk.{numbers}
use Rattle.vx_flow.proofs.HeaderSteps.{marked_next, unmarked_next}
use Rattle.vx_flow.proofs.header_blocks.marked_blocks.Goals as goal
use Rattle.vx_flow.proofs.header_blocks.marked_blocks.Goals.{then-is_marked+in_ok-push, else-is_marked}

pub loop-block-preserved : goal.loop-block-preserved
loop-block-preserved c = elim c.if-is_marked.branch [
  | then-is_marked+in_ok-push w ↦
      let q : c.if-is_marked.found.items ≡ c.loop-block.found.items ++ c.loop-block.block ∷ [] = ap (λ (v : Vec ℕ Global). v.items) w.found-is ∙ w.in_ok-push.ensures.items in
      marked_next c.args.marks.now c.loop-block.found.items c.if-is_marked.found.items c.loop-block.block c.loop-block.invariant (sym c.is_marked.ensures ∙ w.if-is_marked.true) q
  | else-is_marked w ↦
      let q : c.if-is_marked.found.items ≡ c.loop-block.found.items = ap (λ (v : Vec ℕ Global). v.items) w.found-is in
      q ∙ unmarked_next c.args.marks.now c.loop-block.found.items c.loop-block.block c.loop-block.invariant (sym c.is_marked.ensures ∙ w.if-is_marked.false)
]

pub returns : goal.returns
returns c =
    let all : c.loop-block.block ≡ c.args.blocks = omega (arith, c.loop-block-test.false, c.loop-block.auto.block-end) in
    c.loop-block.invariant ∙ ap (λ (n : ℕ). filter (λ b. is_marked c.args.marks.now b) (numbers 0 n)) all
