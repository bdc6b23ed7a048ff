use Rattle.std.proofs.Common.{◌≡◌, ◌<◌, ℕ, List, [], ◌∷◌, true, false, length, sym, subst, ◌∙◌, arith}
use Rattle.std.proofs.lemmas.List.{nil_from_length}
use Rattle.std.proofs.lemmas.Result.{IfOk-weaker}
use Rattle.vx_tables.specs.Rows.{IsIn}
use Rattle.vx_tables.proofs.Members.{in_last}
use Rattle.vx_check.specs.InFlight.{IsFilled, Marked, Reaching, ReachedMarks, leads_anywhere}
use Rattle.vx_check.proofs.Reaches.{all_followed, all_reached, begins, mark_within, word_there}
use Rattle.vx_check.proofs.reached.reached.Goals as goal

pub waiting-init : goal.waiting-init
waiting-init c =
    begins c.args.program.now c.in_ok-marks.marks.items c.mark.new.marks.items c.mark.new.waiting.items
    (subst (λ n. IsFilled n false c.in_ok-marks.marks.items) c.len-places.ensures.len c.in_ok-marks.ensures)
    (subst (λ (l : List ℕ). Marked (0 ∷ []) c.in_ok-marks.marks.items c.mark.new.marks.items l c.mark.new.waiting.items) c.new-waiting.ensures.items c.in_ok-mark.ensures)

pub leads_everywhere-requires : goal.leads_everywhere-requires
leads_everywhere-requires c =
    let i : IsIn c.in-Some.place c.waiting.waiting.items = subst (IsIn c.in-Some.place) (sym c.in-Some.ensures.items) (in_last c.in-Some.place c.pop.new.self.items) in
    let marked = c.waiting.invariant.waits c.in-Some.place i in
    subst (λ n. c.in-Some.place < n) c.waiting.invariant.len (mark_within c.waiting.marks.items c.in-Some.place marked)

pub follow-requires-clause-there : goal.follow-requires-clause-there
follow-requires-clause-there c =
    let i : IsIn c.in-Some.place c.waiting.waiting.items = subst (IsIn c.in-Some.place) (sym c.in-Some.ensures.items) (in_last c.in-Some.place c.pop.new.self.items) in
    let marked = c.waiting.invariant.waits c.in-Some.place i in
    subst (λ n. c.in-Some.place < n) c.waiting.invariant.len (mark_within c.waiting.marks.items c.in-Some.place marked)

pub returns-then-leads_everywhere : goal.returns-then-leads_everywhere
returns-then-leads_everywhere c =
    let i : IsIn c.in-Some.place c.waiting.waiting.items = subst (IsIn c.in-Some.place) (sym c.in-Some.ensures.items) (in_last c.in-Some.place c.pop.new.self.items) in
    let marked = c.waiting.invariant.waits c.in-Some.place i in
    let there : c.in-Some.place < length c.args.program.now.words = subst (λ n. c.in-Some.place < n) c.waiting.invariant.len (mark_within c.waiting.marks.items c.in-Some.place marked) in
    let word = word_there c.args.program.now.words c.in-Some.place there in
    let returns : leads_anywhere word.0.ops ≡ true = sym (c.leads_everywhere.ensures word.0 word.1) ∙ c.if-leads_everywhere.true in
    IfOk-weaker c.filled-then-leads_everywhere.result (λ all. IsFilled c.len-places.result true all.items) (λ all. ReachedMarks c.args.program.now all.items)
    (λ all f. all_reached c.args.program.now c.in-Some.place word.0 c.waiting.marks.items all.items c.waiting.waiting.items word.1 returns c.waiting.invariant i
    (subst (λ n. IsFilled n true all.items) c.len-places.ensures.len f)) c.filled-then-leads_everywhere.ensures

pub returns-in-None : goal.returns-in-None
returns-in-None c =
    let e : c.waiting.waiting.items ≡ [] = nil_from_length c.waiting.waiting.items (let h = c.in-None.ensures.cases in omega arith) in
    all_followed c.args.program.now c.waiting.marks.items (subst (λ (l : List ℕ). Reaching c.args.program.now c.waiting.marks.items l) e c.waiting.invariant)
