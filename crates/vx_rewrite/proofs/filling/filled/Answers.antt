-- The sizes are those of the program, and no graph has more values than its function allows.
use Rattle.std.proofs.Common.{◌∙◌, ap, map, subst, sym}
use Rattle.std.proofs.lemmas.Result.{IfOk-weaker}
use Rattle.vx_ast.specs.Accepted.{function_nodes}
use Rattle.vx_ast.specs.View.{function_of, program_of}
use Rattle.vx_rewrite.specs.Filling.{AreSmall}
use Rattle.vx_rewrite.proofs.Full.{accepted_small, flow_within, padded_full}
use Rattle.vx_rewrite.proofs.filling.filled.Goals as goal

pub sizes_in-requires : goal.sizes_in-requires
sizes_in-requires c = subst (λ fs. AreSmall (map function_of fs)) (sym c.as_slice.ensures.value) (accepted_small (program_of c.args.program.now.program) c.args.program.now.accepted)

pub padded-requires : goal.padded-requires
padded-requires c = flow_within (program_of c.args.program.now.program) c.as_slice-2.result.now (c.as_slice-2.ensures.value ∙ c.in_ok-sizes.ensures ∙ ap (λ fs. map function_nodes (map function_of fs)) c.as_slice.ensures.value) c.args.flow c.requires

pub returns-clause-full : goal.returns-clause-full
returns-clause-full c = IfOk-weaker c.padded.result _ _ (λ new is. padded_full (program_of c.args.program.now.program) c.as_slice-2.result.now (c.as_slice-2.ensures.value ∙ c.in_ok-sizes.ensures ∙ ap (λ fs. map function_nodes (map function_of fs)) c.as_slice.ensures.value) c.args.flow new is) c.padded.ensures.padded

pub returns-clause-sound : goal.returns-clause-sound
returns-clause-sound c = IfOk-weaker c.padded.result _ _ (λ new is. is c.requires.sound) c.padded.ensures.sound

pub returns-clause-flow : goal.returns-clause-flow
returns-clause-flow c = IfOk-weaker c.padded.result _ _ (λ new is. is (program_of c.args.program.now.program) (c.as_slice-2.ensures.value ∙ c.in_ok-sizes.ensures ∙ ap (λ fs. map function_nodes (map function_of fs)) c.as_slice.ensures.value) c.requires) c.padded.ensures.flow
