use Rattle.std.proofs.Common.{Bool, Vec, Global, ◌∷◌, [], drop, ap, sym, subst}
use Rattle.vx_regs.specs.declared.map.Kept.TheVariants.{InRegister}
use Rattle.vx_calls.specs.Slots.{Marking, MarksJust, in_slots}
use Rattle.vx_calls.proofs.Offsets.{slotted_more, unslotted_more}
use Rattle.vx_calls.proofs.frames.mark_slotted.Goals as goal
use Rattle.vx_calls.proofs.frames.mark_slotted.Goals.{in-InSlot+in_ok-number_of+in_ok-mark, in_default}

pub loop-value-preserved : goal.loop-value-preserved
loop-value-preserved c =
    let ks = c.args.kept.now in
    let i = c.loop-value.value in
    let old = c.args.marks.now.items in
    let h = c.loop-value.invariant in
    let lt = c.loop-value-test.true in
    elim c.match-kept.branch [
      | in-InSlot+in_ok-number_of+in_ok-mark w ↦
          (let first : MarksJust (i ∷ []) c.loop-value.marks.items w.mark.new.marks.items = subst (λ v. MarksJust (v ∷ []) c.loop-value.marks.items w.mark.new.marks.items) w.in_ok-number_of.ensures w.in_ok-mark.ensures in
          slotted_more ks i w.in-InSlot.field-0 (InRegister 0) old c.loop-value.marks.items c.match-kept.marks.items lt w.in-InSlot.is h (subst (λ xs. MarksJust (i ∷ []) c.loop-value.marks.items xs) (sym (ap (λ (z : Vec Bool Global). z.items) w.marks-is)) first))
      | in_default w ↦ unslotted_more ks i (InRegister 0) old c.match-kept.marks.items lt w.in_default.not-InSlot (subst (λ xs. Marking (in_slots 0 ks) (in_slots i (drop i ks)) old xs) (sym (ap (λ (z : Vec Bool Global). z.items) w.marks-is)) h)
    ]
