use Rattle.std.proofs.Common.{◌≡◌, ◌++◌, ℕ, List, Option, IfOk, ap, subst, ◌∙◌}
use Rattle.vx_flow.specs.Operands.{written_by}
use Rattle.vx_claims.specs.declared.fact.Fact.{Fact}
use Rattle.vx_claims.specs.Facts.{without_written}
use Rattle.vx_claims.specs.Forming.{most_equals, newest}
use Rattle.vx_claims.specs.Keeping.{all_said}
use Rattle.vx_claims.proofs.Kept.{known_parts}
use Rattle.vx_claims.proofs.update.learn.Goals as goal

pub returns : goal.returns
returns c =
    let fs : List Fact = c.args.facts.now in
    let xs = c.args.known.now in
    let op = c.args.op.now in
    let made = c.args.form.now in
    let s : c.as_slice.result.now ≡ c.in_ok-said.said = c.as_slice.ensures in
    let said : c.as_slice.result.now ≡ all_said fs xs op made = s ∙ c.in_ok-said.ensures in
    let left : c.forget.new.facts ≡ without_written (written_by made) fs = c.in_ok-forget.ensures ∙ ap (λ (w : Option ℕ). without_written w fs) c.written_by.ensures in
    let both = c.in_ok-put_said.ensures ∙ ap (λ (l : List Fact). l ++ c.forget.new.facts) said ∙ ap (λ (l : List Fact). all_said fs xs op made ++ l) left in
    subst (λ (l : List Fact). IfOk c.keep_newest.result (λ _. c.keep_newest.new.facts ≡ l)) (ap (λ (l : List Fact). newest most_equals l) both ∙ known_parts fs xs op made) c.keep_newest.ensures
