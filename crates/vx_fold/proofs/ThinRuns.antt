-- Runs of a flow without the operations whose results are not read come to the same, at every bound.
use Rattle.std.proofs.Common.{◌≡◌, ℕ, Bool, true, map, slice_get, Option, Some, None, refl, sym, ap, ◌∙◌, subst}
use Rattle.std.proofs.lemmas.Bool.{and_parts}
use Rattle.std.proofs.lemmas.Option.{slice_get-map}
use Rattle.std.specs.List.{list_all}
use Rattle.std.specs.Option.{option_map}
use Rattle.vx_flow.specs.declared.graph.Block.{Block}
use Rattle.vx_flow.specs.declared.graph.Graph.{Graph}
use Rattle.vx_flow.specs.Effects.{State, Setting}
use Rattle.vx_flow.specs.Live.{reads_of_exit}
use Rattle.vx_flow.specs.Meaning.{hop_of}
use Rattle.vx_flow.specs.Agree.{Agree}
use Rattle.vx_flow.proofs.SoundLists.{all_at}
use Rattle.vx_shape.proofs.FlowsAlike.{Holds, Alikes, wrong, GraphAlike, runs_alike}
use Rattle.vx_fold.specs.Thinning.{thinned_block, are_read, reads_read, block_reads_read, GraphThins, ThinnedRuns}
use Rattle.vx_fold.proofs.Thins.{Lives, ops_alike}

block_alike : (unread : ℕ → Bool) (setting : Setting) (b : ℕ) (o : Option Block) (s t : State) → ((block : Block) → o ≡ Some block → block_reads_read unread block ≡ true) → Agree (Lives unread) s t →
    Alikes (Holds (Lives unread)) (hop_of setting b o s) (hop_of setting b (option_map (thinned_block unread) o) t)
block_alike unread setting b None s t h a = wrong
block_alike unread setting b (Some block) s t h a =
    let k = and_parts (list_all (reads_read unread) block.ops) (are_read unread (reads_of_exit block.exit)) (h block refl) in
    ops_alike unread setting b block.ops block.exit k.0 k.1 s t a

module _ (g h : Graph) (thin : GraphThins g h) where
  hops_alike : (setting : Setting) (b : ℕ) (s t : State) → Agree (Lives thin.unread) s t → Alikes (Holds (Lives thin.unread)) (hop_of setting b (slice_get g.blocks b) s) (hop_of setting b (slice_get h.blocks b) t)
  hops_alike setting b s t a =
      let e : slice_get h.blocks b ≡ option_map (thinned_block thin.unread) (slice_get g.blocks b) = ap (λ (x : Graph). slice_get x.blocks b) thin.is ∙ slice_get-map (thinned_block thin.unread) g.blocks b in
      subst (λ o. Alikes (Holds (Lives thin.unread)) (hop_of setting b (slice_get g.blocks b) s) (hop_of setting b o t)) (sym e)
      (block_alike thin.unread setting b (slice_get g.blocks b) s t (λ block q. all_at (block_reads_read thin.unread) g.blocks b block thin.reads q) a)

  graph_alike : GraphAlike (Holds (Lives thin.unread)) g h
  graph_alike = record {
    blocks = map (thinned_block thin.unread) g.blocks;
    is = thin.is;
    entry = λ ns v n l e. e;
    hops = λ setting b s t w a. hops_alike setting b s t (record { world = w; values = a });
  }

pub thinned_runs : ThinnedRuns
thinned_runs flow graphs thins input safe n = runs_alike GraphThins (λ g h thin. Holds (Lives thin.unread)) graph_alike flow graphs thins input safe n
