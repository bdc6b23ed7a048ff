use Rattle.std.proofs.Common.{◌≡◌, ◌+◌, ◌++◌, ◌∷◌, ◌∙◌, true, false, List, sym, ap, subst}
use Rattle.std.proofs.lemmas.List.{nil_from_length}
use Rattle.vx_mixed.specs.declared.layout.VirtualWord.{VirtualWord}
use Rattle.vx_regs.specs.Ways.{ends_at, word_ways}
use Rattle.vx_regs.proofs.WaySteps.{Walked, walked_next, walked_over, walked_end}
use Rattle.vx_regs.proofs.liveness.way_from.Goals as goal

pub returns-in-None : goal.returns-in-None
returns-in-None c =
    let numbers = c.args.nodes.now.numbers in
    walked_over numbers c.args.place c.way.next c.args.node c.args.words.now c.way.to c.way.touches
    (subst (λ (z : List VirtualWord). Walked numbers c.args.place c.args.words.now c.way.to c.way.touches c.way.next z) (nil_from_length c.way.rest.now c.in-None.ensures.cases) c.way.invariant)

pub returns-then-ends_at : goal.returns-then-ends_at
returns-then-ends_at c =
    let numbers = c.args.nodes.now.numbers in
    let word = c.in-Some.word.now in
    let others = c.in-Some.others.now in
    let next = c.in_ok-next-in-Some.ensures in
    let g : Walked numbers c.args.place c.args.words.now c.way.to c.way.touches c.way.next (word ∷ others) =
    subst (λ (z : List VirtualWord). Walked numbers c.args.place c.args.words.now c.way.to c.way.touches c.way.next z) c.in-Some.ensures.cases.0 c.way.invariant in
    let ends : ends_at numbers (c.way.next + 1) word ≡ true = ap (λ z. ends_at numbers z word) (sym next) ∙ sym c.ends_at.ensures ∙ c.if-ends_at.true in
    walked_end numbers c.args.place c.way.next c.args.node c.args.words.now others word c.way.to c.push_ways.new.to c.way.touches c.touch_word.new.touches
    g c.in_ok-touch_word-in-Some.ensures ends (c.in_ok-push_ways-in-Some.ensures ∙ ap (λ z. c.way.to ++ word_ways numbers z word) next)

pub way-preserved : goal.way-preserved
way-preserved c =
    let numbers = c.args.nodes.now.numbers in
    let word = c.in-Some.word.now in
    let others = c.in-Some.others.now in
    let next = c.in_ok-next-in-Some.ensures in
    let g : Walked numbers c.args.place c.args.words.now c.way.to c.way.touches c.way.next (word ∷ others) =
    subst (λ (z : List VirtualWord). Walked numbers c.args.place c.args.words.now c.way.to c.way.touches c.way.next z) c.in-Some.ensures.cases.0 c.way.invariant in
    let goes_on : ends_at numbers (c.way.next + 1) word ≡ false = ap (λ z. ends_at numbers z word) (sym next) ∙ sym c.ends_at.ensures ∙ c.if-ends_at.false in
    subst (λ z. Walked numbers c.args.place c.args.words.now c.way.to c.touch_word.new.touches z others) (sym next)
    (walked_next numbers c.args.place c.way.next c.args.words.now others word c.way.to c.way.touches c.touch_word.new.touches g c.in_ok-touch_word-in-Some.ensures goes_on)
