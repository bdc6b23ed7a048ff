use Rattle.std.proofs.Common.{[], ◌∷◌, subst, sym}
use Rattle.vx_flow.specs.Sound.{targets_of}
use Rattle.vx_shape.specs.Origins.{Takes}
use Rattle.vx_shape.proofs.Noting.{takes_both}
use Rattle.vx_shape.proofs.origins.note_exit.Goals as goal

pub returns-in-Split : goal.returns-in-Split
returns-in-Split c =
    subst (λ z. Takes c.args.from (targets_of z) c.args.origins.now.items c.note-in-Split-2.new.origins.items) (sym c.in-Split.is)
    (takes_both c.args.from (c.in-Split.yes ∷ []) (c.in-Split.no ∷ []) c.args.origins.now.items c.note-in-Split.new.origins.items c.note-in-Split-2.new.origins.items c.requires c.note-in-Split.ensures c.note-in-Split-2.ensures)
