use Rattle.std.proofs.Common.{List, Bool, subst}
use Rattle.std.proofs.lemmas.List.{nil_from_length}
use Rattle.vx_regs.proofs.NodeMarks.{Numbering, numbering_next, numbering_last}
use Rattle.vx_regs.proofs.nodes.numbered.Goals as goal

pub returns-in-None-clause-numbers : goal.returns-in-None-clause-numbers
returns-in-None-clause-numbers c =
    numbering_last c.args.marks.now c.marks.numbers c.marks.count
    (subst (λ (z : List Bool). Numbering c.args.marks.now c.marks.numbers c.marks.count z) (nil_from_length c.marks.rest.now c.in-None.ensures.cases) c.marks.invariant)

pub returns-in-None-clause-count : goal.returns-in-None-clause-count
returns-in-None-clause-count c = c.marks.invariant.below

pub marks-preserved : goal.marks-preserved
marks-preserved c =
    numbering_next c.args.marks.now c.in-Some.others.now c.in-Some.marked.now c.marks.numbers c.push_number.new.numbers c.marks.count c.in_ok-count-in-Some.count
    (subst (λ (z : List Bool). Numbering c.args.marks.now c.marks.numbers c.marks.count z) c.in-Some.ensures.cases.0 c.marks.invariant)
    c.in_ok-count-in-Some.ensures.numbers c.in_ok-count-in-Some.ensures.next
