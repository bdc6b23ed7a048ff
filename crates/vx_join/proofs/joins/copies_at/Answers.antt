use Rattle.std.proofs.Common.{rules, ◌≡◌, ◌<◌, ◌++◌, ◌∷◌, ℕ, List, Bool, length, if◌then◌else◌, nat_lt, arith, ◌∙◌}
use Rattle.vx_dep.specs.Compensation.{word_at, copies_at_join}
use Rattle.vx_join.proofs.Filtering.{filter_step}
use Rattle.vx_join.proofs.joins.copies_at.Goals as goal

pub below-preserved : goal.below-preserved
below-preserved c =
    let words = c.args.words.now in
    let place = c.below.place in
    let copies = c.below.copies in
    let count_is = c.len-count.ensures.len in
    let test : ℕ → Bool = λ i. nat_lt (word_at words i) c.args.rejoin in
    let here : place < length words = omega (arith, count_is, c.if-place-count.false) in
    let word_is : c.word_at.result ≡ word_at words place = search rules in
    let taken : (rest : List ℕ) → c.push_earlier.new.copies ++ rest ≡ copies ++ (if test place then place ∷ rest else rest)
    = λ rest. c.in_ok-push_earlier.ensures rest ∙ (λ i. copies ++ (if nat_lt (word_is i) c.args.rejoin then place ∷ rest else rest)) in
    filter_step test place (length words) copies c.push_earlier.new.copies (copies_at_join words c.args.join) here taken c.below.invariant
