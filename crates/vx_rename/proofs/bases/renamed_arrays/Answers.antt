use Rattle.std.proofs.Common.{◌∙◌, ◌∷◌, map, refl, ap, sym}
use Rattle.vx_rename.specs.Renaming.{parameter_name, renamed_array}
use Rattle.vx_rename.proofs.Moved.{moved, all_moved}
use Rattle.vx_rename.proofs.bases.renamed_arrays.Goals as goal

pub name-preserved : goal.name-preserved
name-preserved c =
    let all = map (renamed_array (parameter_name c.args.old.now c.args.new.now)) in
    moved all (all c.args.arrays.now) c.name.made c.push.new.self c.name.rest.now c.in-Some.others.now c.renamed_array.result c.name.invariant
    (ap all c.in-Some.ensures.cases.0 ∙ ap (λ x. x ∷ all c.in-Some.others.now) (sym c.renamed_array.ensures)) c.in_ok-push-in-Some.ensures.ok

pub returns-in-None : goal.returns-in-None
returns-in-None c =
    let all = map (renamed_array (parameter_name c.args.old.now c.args.new.now)) in all_moved all (all c.args.arrays.now) c.name.made c.name.rest.now refl c.in-None.ensures.cases c.name.invariant
