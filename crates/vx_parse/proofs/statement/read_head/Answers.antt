use Rattle.vx_parse.proofs.HandedOn.{handed_on}
use Rattle.vx_parse.proofs.Parts.{past_token, past_phrase, within_phrase, ends, misfit}
use Rattle.vx_parse.proofs.Statements.{head_start}
use Rattle.vx_parse.proofs.statement.read_head.Goals as goal

pub returns-in_err-first_place-clause-stop : goal.returns-in_err-first_place-clause-stop
returns-in_err-first_place-clause-stop c =
    let b0 = head_start c.args.tokens.now c.args.place c.args.depth c.requires.within c.requires.depth in
    handed_on _ _ _ c.from_residual.ensures.1 (misfit b0 c.in_err-first_place.field-0.0 c.in_err-first_place.ensures.stop)

pub returns-in_err-first-clause-stop : goal.returns-in_err-first-clause-stop
returns-in_err-first-clause-stop c =
    let b0 = head_start c.args.tokens.now c.args.place c.args.depth c.requires.within c.requires.depth in
    let b1 = past_token b0 c.in_ok-first_place.ensures.ok in
    handed_on _ _ _ c.from_residual-in_err-first.ensures.1 (within_phrase b1 c.in_err-first.field-0.0 c.in_err-first.ensures.stop)

pub returns-in_err-test_place-clause-stop : goal.returns-in_err-test_place-clause-stop
returns-in_err-test_place-clause-stop c =
    let b0 = head_start c.args.tokens.now c.args.place c.args.depth c.requires.within c.requires.depth in
    let b1 = past_token b0 c.in_ok-first_place.ensures.ok in
    let b2 = past_phrase b1 c.in_ok-first.ensures.ok.parted in
    handed_on _ _ _ c.from_residual-in_err-test_place.ensures.1 (misfit b2 c.in_err-test_place.field-0.0 c.in_err-test_place.ensures.stop)

pub returns-in_err-test-clause-stop : goal.returns-in_err-test-clause-stop
returns-in_err-test-clause-stop c =
    let b0 = head_start c.args.tokens.now c.args.place c.args.depth c.requires.within c.requires.depth in
    let b1 = past_token b0 c.in_ok-first_place.ensures.ok in
    let b2 = past_phrase b1 c.in_ok-first.ensures.ok.parted in
    let b3 = past_token b2 c.in_ok-test_place.ensures.ok in
    handed_on _ _ _ c.from_residual-in_err-test.ensures.1 (within_phrase b3 c.in_err-test.field-0.0 c.in_err-test.ensures.stop)

pub returns-in_err-step_place-clause-stop : goal.returns-in_err-step_place-clause-stop
returns-in_err-step_place-clause-stop c =
    let b0 = head_start c.args.tokens.now c.args.place c.args.depth c.requires.within c.requires.depth in
    let b1 = past_token b0 c.in_ok-first_place.ensures.ok in
    let b2 = past_phrase b1 c.in_ok-first.ensures.ok.parted in
    let b3 = past_token b2 c.in_ok-test_place.ensures.ok in
    let b4 = past_phrase b3 c.in_ok-test.ensures.ok.parted in
    handed_on _ _ _ c.from_residual-in_err-step_place.ensures.1 (misfit b4 c.in_err-step_place.field-0.0 c.in_err-step_place.ensures.stop)

pub returns-in_err-step-clause-stop : goal.returns-in_err-step-clause-stop
returns-in_err-step-clause-stop c =
    let b0 = head_start c.args.tokens.now c.args.place c.args.depth c.requires.within c.requires.depth in
    let b1 = past_token b0 c.in_ok-first_place.ensures.ok in
    let b2 = past_phrase b1 c.in_ok-first.ensures.ok.parted in
    let b3 = past_token b2 c.in_ok-test_place.ensures.ok in
    let b4 = past_phrase b3 c.in_ok-test.ensures.ok.parted in
    let b5 = past_token b4 c.in_ok-step_place.ensures.ok in
    handed_on _ _ _ c.from_residual-in_err-step.ensures.1 (within_phrase b5 c.in_err-step.field-0.0 c.in_err-step.ensures.stop)

pub returns-in_err-next-clause-stop : goal.returns-in_err-next-clause-stop
returns-in_err-next-clause-stop c =
    let b0 = head_start c.args.tokens.now c.args.place c.args.depth c.requires.within c.requires.depth in
    let b1 = past_token b0 c.in_ok-first_place.ensures.ok in
    let b2 = past_phrase b1 c.in_ok-first.ensures.ok.parted in
    let b3 = past_token b2 c.in_ok-test_place.ensures.ok in
    let b4 = past_phrase b3 c.in_ok-test.ensures.ok.parted in
    let b5 = past_token b4 c.in_ok-step_place.ensures.ok in
    let b6 = past_phrase b5 c.in_ok-step.ensures.ok.parted in
    handed_on _ _ _ c.from_residual-in_err-next.ensures.1 (misfit b6 c.in_err-next.field-0.0 c.in_err-next.ensures.stop)

pub returns-clause-ok : goal.returns-clause-ok
returns-clause-ok c =
    let b0 = head_start c.args.tokens.now c.args.place c.args.depth c.requires.within c.requires.depth in
    let b1 = past_token b0 c.in_ok-first_place.ensures.ok in
    let b2 = past_phrase b1 c.in_ok-first.ensures.ok.parted in
    let b3 = past_token b2 c.in_ok-test_place.ensures.ok in
    let b4 = past_phrase b3 c.in_ok-test.ensures.ok.parted in
    let b5 = past_token b4 c.in_ok-step_place.ensures.ok in
    let b6 = past_phrase b5 c.in_ok-step.ensures.ok.parted in
    let b7 = past_token b6 c.in_ok-next.ensures.ok in
    record {
      opening = c.in_ok-first_place.ensures.ok.token;
      first = c.in_ok-first.ensures.ok.derivation;
      one = c.in_ok-test_place.ensures.ok.token;
      test = c.in_ok-test.ensures.ok.derivation;
      two = c.in_ok-step_place.ensures.ok.token;
      step = c.in_ok-step.ensures.ok.derivation;
      closing = c.in_ok-next.ensures.ok.token;
      parted = ends b7;
      is_first = c.in_ok-first.ensures.ok.means;
      is_test = c.in_ok-test.ensures.ok.means;
      is_step = c.in_ok-step.ensures.ok.means;
    }

pub read_first-requires-clause-depth : goal.read_first-requires-clause-depth
read_first-requires-clause-depth c = c.requires.depth

pub read_first-requires-clause-ended : goal.read_first-requires-clause-ended
read_first-requires-clause-ended c = c.requires.ended

pub read_first-requires-clause-within : goal.read_first-requires-clause-within
read_first-requires-clause-within c = c.in_ok-first_place.ensures.ok.within

pub read_mark-requires-2-clause-ended : goal.read_mark-requires-2-clause-ended
read_mark-requires-2-clause-ended c = c.requires.ended

pub read_mark-requires-2-clause-within : goal.read_mark-requires-2-clause-within
read_mark-requires-2-clause-within c = c.in_ok-first.ensures.ok.parted.within

pub read_mark-requires-3-clause-ended : goal.read_mark-requires-3-clause-ended
read_mark-requires-3-clause-ended c = c.requires.ended

pub read_mark-requires-3-clause-within : goal.read_mark-requires-3-clause-within
read_mark-requires-3-clause-within c = c.in_ok-test.ensures.ok.parted.within

pub read_mark-requires-4-clause-ended : goal.read_mark-requires-4-clause-ended
read_mark-requires-4-clause-ended c = c.requires.ended

pub read_mark-requires-4-clause-within : goal.read_mark-requires-4-clause-within
read_mark-requires-4-clause-within c = c.in_ok-step.ensures.ok.parted.within

pub read_mark-requires-clause-within : goal.read_mark-requires-clause-within
read_mark-requires-clause-within c = c.requires.within

pub read_optional-requires-clause-depth : goal.read_optional-requires-clause-depth
read_optional-requires-clause-depth c = c.requires.depth

pub read_optional-requires-clause-ended : goal.read_optional-requires-clause-ended
read_optional-requires-clause-ended c = c.requires.ended

pub read_optional-requires-clause-within : goal.read_optional-requires-clause-within
read_optional-requires-clause-within c = c.in_ok-test_place.ensures.ok.within

pub read_step-requires-clause-depth : goal.read_step-requires-clause-depth
read_step-requires-clause-depth c = c.requires.depth

pub read_step-requires-clause-ended : goal.read_step-requires-clause-ended
read_step-requires-clause-ended c = c.requires.ended

pub read_step-requires-clause-within : goal.read_step-requires-clause-within
read_step-requires-clause-within c = c.in_ok-step_place.ensures.ok.within
