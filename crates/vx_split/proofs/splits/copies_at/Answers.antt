use Rattle.std.proofs.Common.{◌≡◌, ◌<◌, ◌+◌, ◌≤◌, ◌++◌, ◌∷◌, ℕ, List, Bool, if◌then◌else◌, nat_lt, arith, ◌∙◌}
use Rattle.vx_dep.specs.Compensation.{word_at, copies_at_split}
use Rattle.vx_split.proofs.Filtering.{filter_step}
use Rattle.vx_split.proofs.splits.copies_at.Goals as goal

pub above-preserved : goal.above-preserved
above-preserved c =
    let words = c.args.words.now in
    let split = c.args.split in
    let place = c.above.place in
    let copies = c.above.copies in
    let held = c.above.invariant in
    let below = held.1 in
    let word_is = held.2 in
    let test : ℕ → Bool = λ i. nat_lt (word_at words split) (word_at words i) in
    let here : place < split = omega (arith, below, c.if-place-split.false) in
    let taken : (rest : List ℕ) → c.push_later.new.copies ++ rest ≡ copies ++ (if test place then place ∷ rest else rest)
    = λ rest. c.in_ok-push_later.ensures rest ∙ (λ i. copies ++ (if nat_lt (word_is i) (c.word_at.ensures i) then place ∷ rest else rest)) in
    let next : place + 1 ≤ split = omega (arith, here) in
    (filter_step test place split copies c.push_later.new.copies (copies_at_split words split) here taken held.0, next, word_is)
