use Rattle.std.proofs.Common.{◌≡◌, ℕ, ◌+◌, ◌<◌, Bool, true, List, length, take, get_or, ap, sym, ◌∙◌}
use Rattle.std.specs.Prelude.{◌&&◌}
use Rattle.std.specs.List.{list_all}
use Rattle.std.proofs.lemmas.List.Folds.{list_all_more}
use Rattle.vx_flow.specs.declared.graph.Op.{Op}
use Rattle.vx_flow.specs.Effects.{reads}
use Rattle.vx_fold.specs.Thinning.{are_read, unread_of}
use Rattle.vx_hoist.proofs.hoisted_flow.ops_read_named.Goals as goal

one_more : (p : Op → Bool) (ops : List Op) (i : ℕ) (d : Op) → i < length ops → list_all p (take i ops) ≡ true → p (get_or ops i d) ≡ true → list_all p (take (i + 1) ops) ≡ true
one_more p ops i d there all this = list_all_more p ops i d there ∙ ap (λ z. z && p (get_or ops i d)) all ∙ this

pub loop-op-preserved : goal.loop-op-preserved
loop-op-preserved c = one_more (λ op. are_read (unread_of c.args.named.now) (reads op)) c.args.ops.now c.loop-op.op-index _ c.loop-op-test.true c.loop-op.invariant (sym c.are_reads_needed.ensures ∙ c.if-not-are_reads_needed.false)
