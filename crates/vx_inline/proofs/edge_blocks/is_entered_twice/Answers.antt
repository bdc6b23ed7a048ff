use Rattle.std.proofs.Common.{◌≡◌, ◌∙◌, Some, slice_get, sym, ap}
use Rattle.std.proofs.lemmas.Bool.{ltb-true}
use Rattle.std.proofs.lemmas.Option.{slice_get-get_or}
use Rattle.vx_inline.proofs.Linking.{entered_where_many}
use Rattle.vx_inline.proofs.edge_blocks.is_entered_twice.Goals as goal

pub returns-in-Some : goal.returns-in-Some
returns-in-Some c =
    let origins = c.args.origins.now in
    let origin = c.in-Some.origin.now in
    let l = c.in-Some.ensures.lookup in
    let at : slice_get origins c.args.to ≡ Some origin = slice_get-get_or origins c.args.to origin (ltb-true _ _ (sym l.0)) ∙ ap Some (sym l.1) in
    entered_where_many c.args.blocks.now origins c.requires.few c.requires.origins c.args.to origin at
