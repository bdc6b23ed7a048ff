-- The plan is that of the word.
use Rattle.std.proofs.Common.{◌≡◌, ◌++◌, ◌∙◌, ℕ, List, IfOk, length, subst, sym}
use Rattle.vx_mixed.specs.declared.layout.Laid.{Laid}
use Rattle.vx_mixed.specs.declared.layout.VirtualWord.{VirtualWord}
use Rattle.vx_slots.specs.Seen.{seen}
use Rattle.vx_slots.specs.declared.program.SplitLanding.{SplitLanding}
use Rattle.vx_carry.specs.Landings.{item_spots}
use Rattle.vx_frame.specs.Placing.{word_spots}
use Rattle.vx_target.specs.Placed.{item_landings, word_landings, words_of}
use Rattle.vx_frame.proofs.pieces.push_word_landings.Goals as goal

pub returns-in_ok-plan-in-Planned-clause-words : goal.returns-in_ok-plan-in-Planned-clause-words
returns-in_ok-plan-in-Planned-clause-words c =
    let T = seen c.args.whole.now in
    let f = c.args.function in
    let p = c.args.place in
    let items = c.in-Planned.items in
    let old = c.args.words.now in
    let new = c.push_item_landings.new.words in
    let result = c.push_item_landings.result in
    let plan = c.in_ok-plan-in-Planned.plan in
    let is = c.in_ok-plan-in-Planned.ensures in
    subst (λ (x : VirtualWord). IfOk result (λ _. new ≡ old ++ words_of (word_landings T f p x))) (sym c.in-Planned.is)
    (subst (λ (q : ℕ). IfOk result (λ _. new ≡ old ++ words_of (item_landings T f q items items))) is.place
    (subst (λ (g : ℕ). IfOk result (λ _. new ≡ old ++ words_of (item_landings T g plan.place items items))) is.function
    (subst (λ (xs : List Laid). IfOk result (λ _. new ≡ old ++ words_of (item_landings T plan.function plan.place xs items))) (is.items ∙ c.as_slice.ensures)
    (subst (λ (xs : List Laid). IfOk result (λ _. new ≡ old ++ words_of (item_landings T plan.function plan.place plan.items.now xs))) c.as_slice-in-Planned.ensures c.push_item_landings.ensures.words))))

pub returns-in_ok-plan-in-Planned-clause-spots : goal.returns-in_ok-plan-in-Planned-clause-spots
returns-in_ok-plan-in-Planned-clause-spots c =
    let T = seen c.args.whole.now in
    let f = c.args.function in
    let p = c.args.place in
    let items = c.in-Planned.items in
    let q = length c.args.words.now in
    let new = c.push_item_landings.new.spots in
    let result = c.push_item_landings.result in
    let plan = c.in_ok-plan-in-Planned.plan in
    let is = c.in_ok-plan-in-Planned.ensures in
    subst (λ (x : VirtualWord). IfOk result (λ _. new ≡ word_spots T f p q x)) (sym c.in-Planned.is)
    (subst (λ (k : ℕ). IfOk result (λ _. new ≡ item_spots T f k q items items)) is.place
    (subst (λ (g : ℕ). IfOk result (λ _. new ≡ item_spots T g plan.place q items items)) is.function
    (subst (λ (xs : List Laid). IfOk result (λ _. new ≡ item_spots T plan.function plan.place q xs items)) (is.items ∙ c.as_slice.ensures)
    (subst (λ (xs : List Laid). IfOk result (λ _. new ≡ item_spots T plan.function plan.place q plan.items.now xs)) c.as_slice-in-Planned.ensures
    (subst (λ (xs : List SplitLanding). IfOk result (λ _. new ≡ xs ++ item_spots T plan.function plan.place q plan.items.now c.as_slice-in-Planned.result.now)) c.requires c.push_item_landings.ensures.spots)))))
