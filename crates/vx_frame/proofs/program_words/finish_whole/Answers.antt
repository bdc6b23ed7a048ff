use Rattle.std.proofs.Common.{Result, Ok, Err, IfOk}
use Rattle.std.proofs.lemmas.Result.{IfOk-weaker}
use Rattle.vx_frame.proofs.Assembled.{layouts_differ, no_more, finishes}
use Rattle.vx_frame.proofs.program_words.finish_whole.Goals as goal

pub program_of-requires-clause-differ : goal.program_of-requires-clause-differ
program_of-requires-clause-differ c = layouts_differ c.args.whole.now.machine.now c.args.flow.now c.args.whole.now.layouts.now c.args.whole.now.maps.now c.requires.found.can

pub program_of-requires-clause-no_more : goal.program_of-requires-clause-no_more
program_of-requires-clause-no_more c = no_more c.args.whole.now.machine.now c.args.flow.now c.args.whole.now.layouts.now c.args.whole.now.maps.now c.requires.found.can

both_ok : {T E : Type 0} (r : Result T E) (P Q : T → Type 0) → IfOk r P → IfOk r Q → IfOk r (λ t. P t × Q t)
both_ok (Ok t) P Q a b = (a, b)
both_ok (Err e) P Q a b = tt

pub returns : goal.returns
returns c = IfOk-weaker c.program_of.result _ _ (λ x both. finishes c.args.whole.now c.args.flow.now x c.words_are_sound.ensures c.requires.sound c.requires.found both.0 both.1) (both_ok c.program_of.result _ _ c.program_of.ensures.made c.program_of.ensures.places)
