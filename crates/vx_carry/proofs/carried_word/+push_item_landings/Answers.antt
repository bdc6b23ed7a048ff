use Rattle.std.proofs.Common.{◌≡◌, ◌+◌, ◌++◌, ◌∷◌, [], ℕ, List, append_assoc, append-nil, length, length-append, sym, ap, ◌∙◌, arith}
use Rattle.std.proofs.lemmas.List.{nil_from_length}
use Rattle.std.proofs.lemmas.Result.{IfOk-equal}
use Rattle.vx_isa.specs.declared.program.Word.{Word}
use Rattle.vx_mixed.specs.LaidSettled.{laid_writes}
use Rattle.vx_mixed.specs.declared.layout.Laid.{Laid}
use Rattle.vx_mixed.specs.declared.layout.Laid.TheVariants.{Plain, Split}
use Rattle.vx_target.specs.Placed.{Labelled, item_landings, landing_of, words_of}
use Rattle.vx_target.specs.Target.{Target, slotted}
use Rattle.vx_slots.specs.Seen.{seen}
use Rattle.vx_slots.specs.declared.program.SplitLanding.{SplitLanding}
use Rattle.vx_carry.specs.Landings.{item_spots}
use Rattle.vx_carry.proofs.carried_word.+push_item_landings.Goals as goal

-- one item more in front
spots_are : (T : Target) (f p q : ℕ) (items : List Laid) (item : Laid) (rest : List Laid) → item_spots T f p q items (item ∷ rest) ≡ item_spots T f p q items (item ∷ []) ++ item_spots T f p (q + length (words_of (item_landings T f p items (item ∷ [])))) items rest
spots_are T f p q items (Plain op k) rest = let z : q ≡ q + 0 = omega arith in ap (λ (n : ℕ). item_spots T f p n items rest) z
spots_are T f p q items (Split test y to) rest =
    let here : List Labelled = landing_of T f p items (slotted T f (laid_writes items)) to in
    let spot : SplitLanding = record { to = to; at = q } in
    ap (λ (xs : List Labelled). spot ∷ item_spots T f p (q + length (words_of xs)) items rest) (sym (append-nil here))

pub returns-in_ok-push_item_landing-in-Some-clause-spots : goal.returns-in_ok-push_item_landing-in-Some-clause-spots
returns-in_ok-push_item_landing-in-Some-clause-spots t c =
    let T = seen c.args.whole.now in
    let plan = c.args.plan.now in
    let f = plan.function in
    let p = plan.place in
    let items = plan.items.now in
    let old = c.args.spots.now in
    let words : List Word = c.args.words.now in
    let longer : List Word = c.push_item_landing.new.words in
    let item = c.in-Some.item.now in
    let rest = c.in-Some.rest.now in
    let landings : List Word = words_of (item_landings T f p items (item ∷ [])) in
    let here : List SplitLanding = item_spots T f p (length words) items (item ∷ []) in
    let more : List SplitLanding = item_spots T f p (length longer) items rest in
    let all : c.args.items.now ≡ item ∷ rest = c.in-Some.ensures.cases.0 in
    let many : length longer ≡ length words + length landings = ap length c.in_ok-push_item_landing-in-Some.ensures.words ∙ length-append words landings in
    IfOk-equal _ _ _ _ c.push_item_landings.ensures.spots
    (ap (λ (z : List SplitLanding). z ++ more) c.in_ok-push_item_landing-in-Some.ensures.spots
    ∙ append_assoc old here more
    ∙ ap (λ (k : ℕ). old ++ (here ++ item_spots T f p k items rest)) many
    ∙ ap (λ (z : List SplitLanding). old ++ z) (sym (spots_are T f p (length words) items item rest))
    ∙ ap (λ (z : List Laid). old ++ item_spots T f p (length words) items z) (sym all))

pub returns-in-None-clause-words : goal.returns-in-None-clause-words
returns-in-None-clause-words t c =
    let plan = c.args.plan.now in
    let old = c.args.words.now in
    sym (append-nil old) ∙ ap (λ (z : List Laid). old ++ words_of (item_landings (seen c.args.whole.now) plan.function plan.place plan.items.now z)) (sym (nil_from_length c.args.items.now c.in-None.ensures.cases))

pub returns-in-None-clause-spots : goal.returns-in-None-clause-spots
returns-in-None-clause-spots t c =
    let plan = c.args.plan.now in
    let old = c.args.spots.now in
    sym (append-nil old) ∙ ap (λ (z : List Laid). old ++ item_spots (seen c.args.whole.now) plan.function plan.place (length c.args.words.now) plan.items.now z) (sym (nil_from_length c.args.items.now c.in-None.ensures.cases))
