use Rattle.std.proofs.Common.{◌≡◌, ◌∙◌, ◌++◌, ◌∷◌, [], slice_set, ap, subst, sym}
use Rattle.std.proofs.lemmas.List.{get_or_read}
use Rattle.vx_sched.specs.Filling.{row_of, Puts}
use Rattle.vx_sched.proofs.RowSteps.{puts}
use Rattle.vx_sched.proofs.rows.put.Goals as goal

pub returns : goal.returns
returns c =
    let rows = c.args.rows.now.items in
    let reached = c.reach.new.rows.items in
    let word = c.args.word in
    let item = c.args.item in
    let inside = c.in_ok-reach.ensures.there in
    let row : c.index.result.now ≡ row_of reached word = get_or_read reached word c.index.result.now inside c.index.ensures [] in
    let longer : c.in_ok-longer.longer ≡ row_of reached word ++ item ∷ [] = c.in_ok-longer.ensures ∙ ap (λ r. r ++ item ∷ []) (c.as_slice.ensures ∙ row) in
    subst (λ l. Puts rows (slice_set reached word l) word item) (sym longer) (puts rows reached word item inside c.in_ok-reach.ensures.same)
