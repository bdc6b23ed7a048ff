use Rattle.std.proofs.Common.{◌∙◌, ◌++◌, ◌+◌, ◌*◌, ap, map, subst, refl, ◌≡◌}
use Rattle.vx_ast.specs.Accepted.{arrays_taken}
use Rattle.vx_ast.specs.View.{function_of, program_of}
use Rattle.vx_flow.specs.declared.graph.Graph.{Graph}
use Rattle.vx_lower.specs.declared.seen.Seen.TheVariants.{OwnArray}
use Rattle.vx_lower.specs.Seen.{Sees, arrays_from}
use Rattle.vx_lower.specs.FunctionShape.{BodyWell}
use Rattle.vx_lower.specs.Graphs.{Built}
use Rattle.vx_lower.specs.Lowered.{arrays_seen, sees_of, first_value, global_seen, handed_from, values_for}
use Rattle.vx_lower.proofs.Bodies.{graphed_is}
use Rattle.vx_lower.proofs.FunctionShaping.{graph_well}
use Rattle.vx_lower.proofs.lowering.lower_sized.Goals as goal

pub returns-clause-code : goal.returns-clause-code
returns-clause-code c =
    let g : Graph = record { blocks = c.in_ok-blocks.blocks; banks = c.in_ok-built.built.banks; parameters = c.in_ok-parameters.parameters; arrays = c.in_ok-arrays.arrays } in
    let p = program_of c.args.source.now in
    let f = function_of c.args.f.now in
    let seen : c.in_ok-seen.seen.items ≡ arrays_seen p f = c.in_ok-seen.ensures ∙ ap (λ z. map global_seen z ++ handed_from c.args.f.now.scalars c.args.count ++ map OwnArray c.as_slice-2.result.now) c.as_slice.ensures ∙ ap (λ z. map global_seen c.args.source.now.globals ++ handed_from c.args.f.now.scalars z ++ map OwnArray c.as_slice-2.result.now) c.requires.count ∙ ap (λ z. map global_seen c.args.source.now.globals ++ handed_from c.args.f.now.scalars (arrays_taken f) ++ map OwnArray z) c.as_slice-2.ensures in
    let whole : record { scalars = c.args.f.now.scalars; arrays = c.in_ok-seen.seen.items } ≡ sees_of p f = ap (λ z. (let s : Sees = record { scalars = c.args.f.now.scalars; arrays = z } in s)) seen in
    let first : c.args.f.now.scalars + 2 * c.args.count ≡ first_value f = ap (λ z. c.args.f.now.scalars + 2 * z) c.requires.count in
    graphed_is p f (sees_of p f) c.in_ok-built.built g c.args.texts.now c.build.new.texts refl
    (c.in_ok-parameters.ensures ∙ ap (values_for 0 c.args.f.now.scalars) c.as_slice-4.ensures)
    (c.in_ok-arrays.ensures ∙ ap (arrays_from 0) (c.as_slice-3.ensures.value ∙ seen))
    (subst (λ z. Built z f c.in_ok-built.built c.args.texts.now c.build.new.texts) (c.make-sizes.ensures ∙ whole) (c.in_ok-built.ensures.code first))
    c.in_ok-blocks.ensures.stands c.in_ok-blocks.ensures.traps c.in_ok-blocks.ensures.short

pub returns-clause-fits : goal.returns-clause-fits
returns-clause-fits c =
    let g : Graph = record { blocks = c.in_ok-blocks.blocks; banks = c.in_ok-built.built.banks; parameters = c.in_ok-parameters.parameters; arrays = c.in_ok-arrays.arrays } in
    let p = program_of c.args.source.now in
    let f = function_of c.args.f.now in
    let seen : c.in_ok-seen.seen.items ≡ arrays_seen p f = c.in_ok-seen.ensures ∙ ap (λ z. map global_seen z ++ handed_from c.args.f.now.scalars c.args.count ++ map OwnArray c.as_slice-2.result.now) c.as_slice.ensures ∙ ap (λ z. map global_seen c.args.source.now.globals ++ handed_from c.args.f.now.scalars z ++ map OwnArray c.as_slice-2.result.now) c.requires.count ∙ ap (λ z. map global_seen c.args.source.now.globals ++ handed_from c.args.f.now.scalars (arrays_taken f) ++ map OwnArray z) c.as_slice-2.ensures in
    let whole : record { scalars = c.args.f.now.scalars; arrays = c.in_ok-seen.seen.items } ≡ sees_of p f = ap (λ z. (let s : Sees = record { scalars = c.args.f.now.scalars; arrays = z } in s)) seen in
    let first : c.args.f.now.scalars + 2 * c.args.count ≡ first_value f = ap (λ z. c.args.f.now.scalars + 2 * z) c.requires.count in
    graph_well p f c.in_ok-built.built g c.build.new.texts
    (c.in_ok-parameters.ensures ∙ ap (values_for 0 c.args.f.now.scalars) c.as_slice-4.ensures)
    (c.in_ok-arrays.ensures ∙ ap (arrays_from 0) (c.as_slice-3.ensures.value ∙ seen))
    refl (subst (λ z. BodyWell z f c.in_ok-built.built c.build.new.texts) (c.make-sizes.ensures ∙ whole) (c.in_ok-built.ensures.fits first)) c.in_ok-blocks.ensures.settled
