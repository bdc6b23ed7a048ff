use Rattle.std.proofs.Common.{◌∷◌, ◌++◌, [], ◌∙◌, Bool, List, not, sym, ap, append_assoc, append-nil}
use Rattle.std.proofs.lemmas.List.{nil_from_length}
use Rattle.vx_mixed.specs.declared.layout.VirtualWord.{VirtualWord}
use Rattle.vx_regs.specs.Ways.{starts}
use Rattle.vx_regs.proofs.nodes.starts.Goals as goal

pub returns-in-None : goal.returns-in-None
returns-in-None c =
    let marks = c.words.marks.items in
    sym (append-nil marks) ∙ ap (λ (z : List VirtualWord). marks ++ starts c.words.first z) (sym (nil_from_length c.words.rest.now c.in-None.ensures.cases)) ∙ c.words.invariant

pub words-preserved : goal.words-preserved
words-preserved c =
    let marks = c.words.marks.items in
    let first = c.words.first in
    let others = c.in-Some.others.now in
    ap (λ (z : List Bool). z ++ starts (not c.steps_on-first.result) others) c.in_ok-push-in-Some.ensures.items
    ∙ append_assoc marks (first ∷ []) (starts (not c.steps_on-first.result) others)
    ∙ ap (λ b. marks ++ first ∷ starts (not b) others) c.steps_on-first.ensures
    ∙ ap (λ (z : List VirtualWord). marks ++ starts first z) (sym c.in-Some.ensures.cases.0)
    ∙ c.words.invariant
