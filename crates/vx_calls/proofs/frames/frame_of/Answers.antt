use Rattle.std.proofs.Common.{ℕ, suc, [], slice_index_or, subst}
use Rattle.vx_flow.specs.Effects.{IsIn}
use Rattle.vx_calls.specs.Bounds.{MayNeedSlot, passes, keeps, lives}
use Rattle.vx_calls.specs.Framing.{SlotNeeded, SlotsStand, is_passed, is_kept, is_saved}
use Rattle.vx_calls.proofs.frames.frame_of.Goals as goal

pub returns : goal.returns
returns c =
    let h = c.in_ok-stood.ensures in
    let may : (v : ℕ) → SlotNeeded c.args.graph.now.parameters c.args.map.now c.as_slice.result.now v → MayNeedSlot c.args.graph.now.parameters c.args.layout.now c.args.map.now v = λ v n. elim n [
      | is_passed i ↦ passes i
      | is_kept k e ↦ keeps k e
      | is_saved p i ↦ lives (suc p) (c.in_ok-saves.ensures.live p v (subst (λ saved. IsIn v (slice_index_or saved p [])) c.as_slice.ensures i))
    ] in
    record {
      saves = c.in_ok-saves.ensures;
      between = h.between;
      behind_link = h.behind_link;
      slots = subst (λ saved. SlotsStand (SlotNeeded c.args.graph.now.parameters c.args.map.now saved) c.in_ok-stood.stood.slots h.between) c.as_slice.ensures h.slots;
      arrays = h.arrays;
      within = h.within;
      size = record { values = h.size.values; once = h.size.once; each = λ v i. may v (h.size.each v i); words_are = h.size.words_are };
    }
