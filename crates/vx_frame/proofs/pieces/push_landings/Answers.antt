use Rattle.std.proofs.Common.{List, subst, sym}
use Rattle.std.proofs.lemmas.List.{nil_from_length}
use Rattle.vx_mixed.specs.declared.layout.VirtualWord.{VirtualWord}
use Rattle.vx_slots.specs.declared.program.SplitLanding.{SplitLanding}
use Rattle.vx_slots.specs.Seen.{seen}
use Rattle.vx_frame.proofs.Emitting.{Lands, lands_first, lands_landings, lands_turn, lands_words}
use Rattle.vx_frame.proofs.Shorter.{shorter}
use Rattle.vx_frame.proofs.pieces.push_landings.Goals as goal

-- no word so far
pub landings-init : goal.landings-init
landings-init c =
    let T = seen c.args.whole.now in
    let laid = c.args.laid.now in
    let words = c.args.words.now in
    subst (λ (z : List (List SplitLanding)). Lands T c.args.function laid words words z 0 laid) (sym c.requires) (lands_first T c.args.function laid words)

-- one word more
pub landings-preserved : goal.landings-preserved
landings-preserved c =
    lands_turn (seen c.args.whole.now) c.args.function c.landings.place c.in_ok-place-in-Some.place c.push_word_landings.new.spots c.args.laid.now c.landings.rest.now c.in-Some.others.now c.in-Some.word.now c.args.words.now c.landings.words c.push_word_landings.new.words c.landings.landings c.push.new.self
    c.landings.invariant c.in-Some.ensures.cases.0 c.in_ok-push_word_landings-in-Some.ensures.words c.in_ok-push_word_landings-in-Some.ensures.spots c.in_ok-push-in-Some.ensures.ok c.in_ok-place-in-Some.ensures

-- no word is left
pub returns-in-None-clause-words : goal.returns-in-None-clause-words
returns-in-None-clause-words c =
    let T = seen c.args.whole.now in
    lands_words T c.args.function c.landings.place c.args.laid.now c.args.words.now c.landings.words c.landings.landings
    (subst (λ (z : List VirtualWord). Lands T c.args.function c.args.laid.now c.args.words.now c.landings.words c.landings.landings c.landings.place z) (nil_from_length c.landings.rest.now c.in-None.ensures.cases) c.landings.invariant)

pub returns-in-None-clause-landings : goal.returns-in-None-clause-landings
returns-in-None-clause-landings c =
    let T = seen c.args.whole.now in
    lands_landings T c.args.function c.landings.place c.args.laid.now c.args.words.now c.landings.words c.landings.landings
    (subst (λ (z : List VirtualWord). Lands T c.args.function c.args.laid.now c.args.words.now c.landings.words c.landings.landings c.landings.place z) (nil_from_length c.landings.rest.now c.in-None.ensures.cases) c.landings.invariant)

pub landings-smaller : goal.landings-smaller
landings-smaller c = shorter c.landings.rest.now c.in-Some.others.now c.in-Some.word.now c.in-Some.ensures.cases.0
