use Rattle.std.proofs.Common.{◌<◌, ◌≤◌, ℕ, length, slice_index_or, List, ap, ◌∙◌, subst, sym, arith}
use Rattle.vx_flow.specs.declared.graph.Global.{Global}
use Rattle.vx_flow.specs.declared.graph.Graph.{Graph}
use Rattle.vx_target.specs.Tied.{words_before}
use Rattle.vx_slots.specs.declared.program.FunctionFrame.{FunctionFrame}
use Rattle.vx_calls.specs.Bounds.{most_frame_words}
use Rattle.vx_calls.specs.Framing.{IsFrameOf}
use Rattle.vx_slots.specs.Seen.{no_graph, no_layout, no_map, no_frame}
use Rattle.vx_frame.proofs.Assembled.{layout_settled}
use Rattle.vx_frame.proofs.SmallFrames.{frames_are_small}
use Rattle.vx_frame.proofs.program_words.finish.Goals as goal

pub frames-requires-clause-inside : goal.frames-requires-clause-inside
frames-requires-clause-inside c f p q word lt at leads =
    (layout_settled c.args.machine.now c.args.flow.now c.args.code.now c.args.maps.now c.requires.functions f (let e = ap (λ (xs : List Graph). length xs) c.as_slice-graphs.ensures in omega arith)).inside p q word at leads

pub frames-requires-clause-entry : goal.frames-requires-clause-entry
frames-requires-clause-entry c f lt =
    (layout_settled c.args.machine.now c.args.flow.now c.args.code.now c.args.maps.now c.requires.functions f (let e = ap (λ (xs : List Graph). length xs) c.as_slice-graphs.ensures in omega arith)).entry

pub finish_whole-requires-clause-found : goal.finish_whole-requires-clause-found
finish_whole-requires-clause-found c = record {
  addresses = c.as_slice-begins.result.now;
  machine = c.keeps_ranges.ensures;
  functions = c.as_slice-graphs.ensures;
  can = c.requires.functions;
  each = λ f lt. subst (λ xs. IsFrameOf (slice_index_or c.as_slice-graphs.result.now f no_graph) (slice_index_or c.args.code.now f no_layout) (slice_index_or c.args.maps.now f no_map) c.as_slice-begins.result.now (slice_index_or xs f no_frame)) (sym c.as_slice-frames.ensures) (c.in_ok-framed.ensures.stand f lt);
  some_frame = c.frame_size.ensures.some;
  most_frame = λ f. c.frame_size.ensures.most f;
  as_many = ap length c.as_slice-begins.ensures ∙ c.in_ok-globals.ensures.each ∙ ap (λ (gs : List Global). length gs) c.as_slice-variables.ensures;
  address = λ a lt. ap (λ xs. slice_index_or xs a 0) c.as_slice-begins.ensures ∙ c.in_ok-globals.ensures.begins a (let e = ap (λ (gs : List Global). length gs) c.as_slice-variables.ensures in omega arith) ∙ ap (λ gs. words_before gs a) c.as_slice-variables.ensures;
  globals = c.in_ok-globals.ensures.words ∙ ap (λ gs. words_before gs (length gs)) c.as_slice-variables.ensures;
  few_globals = (let e = c.in_ok-globals.ensures.words ∙ ap (λ gs. words_before gs (length gs)) c.as_slice-variables.ensures in let few = c.requires.fits.globals in omega (arith, e, few));
  small_frame = c.frame_size.ensures.least most_frame_words (omega arith)
      (subst (λ (xs : List FunctionFrame). (f : ℕ) → f < length xs → (slice_index_or xs f no_frame).words ≤ most_frame_words) (sym c.as_slice-frames.ensures)
      (frames_are_small c.args.machine.now c.args.flow.now c.args.code.now c.args.maps.now c.requires.functions c.requires.fits c.as_slice-graphs.result.now c.as_slice-begins.result.now c.in_ok-framed.framed c.as_slice-graphs.ensures
      (ap length c.as_slice-begins.ensures ∙ c.in_ok-globals.ensures.each ∙ ap (λ (gs : List Global). length gs) c.as_slice-variables.ensures) c.in_ok-framed.ensures.each c.in_ok-framed.ensures.stand));
}

pub frames-requires-clause-layouts : goal.frames-requires-clause-layouts
frames-requires-clause-layouts c = c.requires.functions.layouts ∙ ap (λ (xs : List Graph). length xs) (sym c.as_slice-graphs.ensures)

pub frames-requires-clause-maps : goal.frames-requires-clause-maps
frames-requires-clause-maps c = c.requires.functions.maps ∙ ap (λ (xs : List Graph). length xs) (sym c.as_slice-graphs.ensures)
