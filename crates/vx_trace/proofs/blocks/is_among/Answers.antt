use Rattle.std.proofs.Common.{◌∙◌, ◌==◌, ◌||◌, ℕ, Bool, sym, ap}
use Rattle.std.specs.List.{list_any}
use Rattle.std.proofs.lemmas.Bool.{eq-eqb, ne_eqb}
use Rattle.std.proofs.lemmas.List.{take_all}
use Rattle.std.proofs.lemmas.List.Folds.{list_any_more, list_any_at}
use Rattle.vx_trace.proofs.blocks.is_among.Goals as goal

pub returns-then-other-block : goal.returns-then-other-block
returns-then-other-block c =
    let is : ℕ → Bool = λ other. other == c.args.block in
    sym (list_any_at is c.args.blocks.now c.loop-other.other-index _ c.loop-other-test.true (eq-eqb _ _ c.if-other-block.true))

pub loop-other-preserved : goal.loop-other-preserved
loop-other-preserved c =
    let is : ℕ → Bool = λ other. other == c.args.block in
    let none = ne_eqb _ _ c.if-other-block.false in
    list_any_more is c.args.blocks.now c.loop-other.other-index _ c.loop-other-test.true ∙ (λ i. c.loop-other.invariant i || none i)

pub returns : goal.returns
returns c =
    let is : ℕ → Bool = λ other. other == c.args.block in
    sym (ap (list_any is) (sym (take_all c.loop-other.other-index c.args.blocks.now c.loop-other-test.false)) ∙ c.loop-other.invariant)
