-- A word for a marked value, or none.
use Rattle.std.proofs.Common.{◌∙◌, refl, sym}
use Rattle.std.proofs.lemmas.List.{at_drop_all}
use Rattle.vx_calls.specs.Slots.{slots_end, slots_from}
use Rattle.vx_calls.proofs.Offsets.{marked_end, marked_placed, unmarked_end, unmarked_placed}
use Rattle.vx_calls.proofs.Pieces.{placed_all}
use Rattle.vx_calls.proofs.frames.slots.Goals as goal
use Rattle.vx_calls.proofs.frames.slots.Goals.{then-marked+in_ok-push+in_ok-next, else-marked+in_ok-push-2}

pub loop-marked-preserved : goal.loop-marked-preserved
loop-marked-preserved c =
    let marks = c.args.marks.now in
    let i = c.loop-marked.marked-index in
    let n = c.loop-marked.next in
    let words = c.loop-marked.words in
    let h = c.loop-marked.invariant in
    let lt = c.loop-marked-test.true in
    elim c.if-marked.branch [
      | then-marked+in_ok-push+in_ok-next w ↦ record {
        words = marked_placed marks i n c.if-marked.next _ words c.if-marked.words _ h.words lt w.if-marked.true (w.next-is ∙ w.in_ok-next.ensures) (w.words-is ∙ w.in_ok-push.ensures.ok);
        next = marked_end marks i n c.if-marked.next _ _ h.next lt w.if-marked.true (w.next-is ∙ w.in_ok-next.ensures);
      }
      | else-marked+in_ok-push-2 w ↦ record {
        words = unmarked_placed marks i n c.if-marked.next _ words c.if-marked.words _ h.words lt w.if-marked.false w.next-is (w.words-is ∙ w.in_ok-push-2.ensures.ok);
        next = unmarked_end marks i n c.if-marked.next _ _ h.next lt w.if-marked.false w.next-is;
      }
    ]

pub returns-clause-words : goal.returns-clause-words
returns-clause-words c = placed_all slots_from c.loop-marked.words _ c.loop-marked.next c.args.marks.now c.loop-marked.marked-index c.loop-marked.invariant.words c.loop-marked-test.false refl

pub returns-clause-next : goal.returns-clause-next
returns-clause-next c = sym (at_drop_all (slots_end c.loop-marked.next) c.args.marks.now c.loop-marked.marked-index c.loop-marked-test.false) ∙ c.loop-marked.invariant.next
