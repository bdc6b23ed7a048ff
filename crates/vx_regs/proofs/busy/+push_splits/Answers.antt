use Rattle.std.proofs.Common.{◌++◌, List, append-nil, sym, ap, ◌∙◌}
use Rattle.std.proofs.lemmas.List.{nil_from_length}
use Rattle.std.specs.List.{flat_map}
use Rattle.vx_mixed.specs.declared.layout.Laid.{Laid}
use Rattle.vx_regs.specs.BusyPlaces.{split_places}
use Rattle.vx_regs.proofs.busy.+push_splits.Goals as goal

pub returns-in-None : goal.returns-in-None
returns-in-None t c =
    let old = c.args.places.now in
    sym (append-nil old) ∙ ap (λ (z : List Laid). old ++ flat_map split_places z) (sym (nil_from_length c.args.items.now c.in-None.ensures.cases))
