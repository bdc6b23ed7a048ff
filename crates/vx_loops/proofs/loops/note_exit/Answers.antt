use Rattle.std.proofs.Common.{[], ◌∷◌, subst, sym}
use Rattle.std.proofs.lemmas.Result.{IfOk-weaker}
use Rattle.vx_flow.specs.Sound.{targets_of}
use Rattle.vx_loops.specs.Noted.{Gains}
use Rattle.vx_loops.proofs.Edges.{gains_both, gains_none}
use Rattle.vx_loops.proofs.loops.note_exit.Goals as goal

pub returns-in_ok-note-in-Split : goal.returns-in_ok-note-in-Split
returns-in_ok-note-in-Split c = IfOk-weaker c.note-in-Split-2.result _ _
    (λ done h.
    subst (λ z. Gains c.args.from (targets_of z) c.args.sources.now.items c.note-in-Split-2.new.sources.items) (sym c.in-Split.is)
    (gains_both c.args.from (c.in-Split.yes ∷ []) (c.in-Split.no ∷ []) c.args.sources.now.items c.note-in-Split.new.sources.items c.note-in-Split-2.new.sources.items c.in_ok-note-in-Split.ensures h))
    c.note-in-Split-2.ensures

pub returns-in-Return : goal.returns-in-Return
returns-in-Return c = subst (λ z. Gains c.args.from (targets_of z) c.args.sources.now.items c.args.sources.now.items) (sym c.in-Return.is) (gains_none c.args.from c.args.sources.now.items)

pub returns-in-Ends : goal.returns-in-Ends
returns-in-Ends c = subst (λ z. Gains c.args.from (targets_of z) c.args.sources.now.items c.args.sources.now.items) (sym c.in-Ends.is) (gains_none c.args.from c.args.sources.now.items)
