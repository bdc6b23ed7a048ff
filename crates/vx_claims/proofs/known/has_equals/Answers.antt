use Rattle.std.proofs.Common.{◌||◌, ◌+◌, Bool, List, drop, ap, sym, ◌∙◌}
use Rattle.std.proofs.lemmas.List.{at_drop_more, at_drop_all}
use Rattle.vx_claims.specs.declared.fact.Fact.{Fact}
use Rattle.vx_claims.specs.Facts.{has_equals}
use Rattle.vx_claims.proofs.known.has_equals.Goals as goal

pub returns-then-is_claimed : goal.returns-then-is_claimed
returns-then-is_claimed c =
    let rest = has_equals (drop (c.loop-fact.fact-index + 1) c.args.facts.now) c.args.value c.args.code c.args.left c.args.right in
    sym (ap (λ (b : Bool). b || rest) (sym c.is_claimed.ensures ∙ c.if-is_claimed.true))
    ∙ sym (at_drop_more (λ (l : List Fact). has_equals l c.args.value c.args.code c.args.left c.args.right) c.args.facts.now c.loop-fact.fact-index _ c.loop-fact-test.true) ∙ c.loop-fact.invariant

pub loop-fact-preserved : goal.loop-fact-preserved
loop-fact-preserved c =
    let rest = has_equals (drop (c.loop-fact.fact-index + 1) c.args.facts.now) c.args.value c.args.code c.args.left c.args.right in
    sym (ap (λ (b : Bool). b || rest) (sym c.is_claimed.ensures ∙ c.if-is_claimed.false))
    ∙ sym (at_drop_more (λ (l : List Fact). has_equals l c.args.value c.args.code c.args.left c.args.right) c.args.facts.now c.loop-fact.fact-index _ c.loop-fact-test.true) ∙ c.loop-fact.invariant

pub returns : goal.returns
returns c = sym (at_drop_all (λ (l : List Fact). has_equals l c.args.value c.args.code c.args.left c.args.right) c.args.facts.now c.loop-fact.fact-index c.loop-fact-test.false) ∙ c.loop-fact.invariant
