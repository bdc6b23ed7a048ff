use Rattle.std.proofs.Common.{◌≡◌, ◌++◌, length, ap, ◌∙◌}
use Rattle.vx_frame.specs.Placing.{all_places}
use Rattle.vx_slots.specs.Seen.{seen}
use Rattle.vx_target.specs.Target.{start_words}
use Rattle.vx_frame.proofs.Emitting.{program_words, trap_is}
use Rattle.vx_frame.proofs.pieces.pieces_of.Goals as goal

pub returns-clause-words : goal.returns-clause-words
returns-clause-words c =
    let T = seen c.args.whole.now in
    let started : c.push_start.new.words ≡ start_words T c.args.main = c.in_ok-push_start.ensures ∙ ap (λ xs. xs ++ start_words T c.args.main) c.new-words.ensures in
    program_words T c.args.main c.args.functions c.push_start.new.words c.push_functions.new.words c.push_one.new.words started c.in_ok-push_functions.ensures.words c.in_ok-push_one.ensures

pub returns-clause-places : goal.returns-clause-places
returns-clause-places c =
    let T = seen c.args.whole.now in
    let started : c.push_start.new.words ≡ start_words T c.args.main = c.in_ok-push_start.ensures ∙ ap (λ xs. xs ++ start_words T c.args.main) c.new-words.ensures in
    c.in_ok-push_functions.ensures.places ∙ ap (λ xs. all_places T (length xs) 0 c.args.functions) started

pub returns-clause-trap : goal.returns-clause-trap
returns-clause-trap c =
    let T = seen c.args.whole.now in
    let started : c.push_start.new.words ≡ start_words T c.args.main = c.in_ok-push_start.ensures ∙ ap (λ xs. xs ++ start_words T c.args.main) c.new-words.ensures in
    trap_is T c.args.main c.args.functions c.len-depth_trap.result c.push_start.new.words c.push_functions.new.words started c.in_ok-push_functions.ensures.words c.len-depth_trap.ensures.len
