use Rattle.std.proofs.Common.{◌∙◌, ◌++◌, [], append-nil, ap, sym}
use Rattle.vx_linear.specs.Linear.{with_term}
use Rattle.vx_linear.proofs.Merging.{empty_of, put_behind}
use Rattle.vx_linear.proofs.Moved.{moved}
use Rattle.vx_linear.proofs.linear.with_term.Goals as goal

pub insert-preserved : goal.insert-preserved
insert-preserved c =
    let all = with_term c.args.term in
    let first = c.in-Some.first.now in
    let others = c.in-Some.others.now in
    let behind = put_behind c.args.term first others (sym c.is_before.ensures ∙ c.if-is_before.false) (sym c.is_same.ensures ∙ c.if-is_same.false) in
    moved all (all c.args.terms.now) c.insert.list c.push.new.self c.insert.rest.now others first c.insert.invariant (ap all c.in-Some.ensures.cases.0 ∙ behind) c.in_ok-push-in-Some.ensures.ok

pub returns-in-None : goal.returns-in-None
returns-in-None c =
    let none = empty_of c.insert.rest.now c.in-None.ensures.cases in
    sym (append-nil c.push_unless_zero.new.list) ∙ c.in_ok-push_unless_zero-in-None.ensures [] ∙ ap (λ ts. c.insert.list ++ with_term c.args.term ts) (sym none) ∙ c.insert.invariant
