-- Runs of a flow in which values that only ever hold one number are read as that number come to the same, at every bound.
use Rattle.std.proofs.Common.{◌≡◌, ℕ, true, ℤ, map, slice_get, Option, Some, None, refl, sym, ap, ◌∙◌, subst}
use Rattle.std.proofs.lemmas.Bool.{and_parts}
use Rattle.std.proofs.lemmas.Option.{slice_get-map}
use Rattle.std.specs.List.{list_all}
use Rattle.std.specs.Option.{option_map}
use Rattle.vx_flow.specs.declared.graph.Block.{Block}
use Rattle.vx_flow.specs.declared.graph.Graph.{Graph}
use Rattle.vx_flow.specs.Effects.{State, Setting}
use Rattle.vx_flow.specs.Meaning.{hop_of}
use Rattle.vx_flow.specs.Agree.{Agree}
use Rattle.vx_flow.proofs.SoundLists.{all_at}
use Rattle.vx_shape.proofs.FlowsAlike.{Alikes, wrong, GraphAlike, runs_alike}
use Rattle.vx_fold.specs.Folding.{no_number, settles, settles_exit, settles_block, folded_block, GraphFolds, FoldedRuns}
use Rattle.vx_fold.proofs.Folds.{All, Settled, Tied, settled_entry, ops_alike}

block_alike : (numbers : ℕ → Option ℤ) (setting : Setting) (b : ℕ) (o : Option Block) (s t : State) → ((block : Block) → o ≡ Some block → settles_block numbers block ≡ true) → Settled numbers s.values → Agree All s t →
    Alikes (Tied numbers) (hop_of setting b o s) (hop_of setting b (option_map (folded_block numbers) o) t)
block_alike numbers setting b None s t h i a = wrong
block_alike numbers setting b (Some block) s t h i a =
    let k = and_parts (list_all (settles numbers) block.ops) (settles_exit numbers block.exit) (h block refl) in
    ops_alike numbers setting b block.ops block.exit k.0 k.1 s t i a

module _ (g h : Graph) (fold : GraphFolds g h) where
  hops_alike : (setting : Setting) (b : ℕ) (s t : State) → Settled fold.numbers s.values → Agree All s t → Alikes (Tied fold.numbers) (hop_of setting b (slice_get g.blocks b) s) (hop_of setting b (slice_get h.blocks b) t)
  hops_alike setting b s t i a =
      let e : slice_get h.blocks b ≡ option_map (folded_block fold.numbers) (slice_get g.blocks b) = ap (λ (x : Graph). slice_get x.blocks b) fold.is ∙ slice_get-map (folded_block fold.numbers) g.blocks b in
      let k = and_parts (list_all (λ v. no_number (fold.numbers v)) g.parameters) (list_all (settles_block fold.numbers) g.blocks) fold.settled in
      subst (λ o. Alikes (Tied fold.numbers) (hop_of setting b (slice_get g.blocks b) s) (hop_of setting b o t)) (sym e)
      (block_alike fold.numbers setting b (slice_get g.blocks b) s t (λ block q. all_at (settles_block fold.numbers) g.blocks b block k.1 q) i a)

  graph_alike : GraphAlike (Tied fold.numbers) g h
  graph_alike = record {
    blocks = map (folded_block fold.numbers) g.blocks;
    is = fold.is;
    entry = λ ns. (λ v n l e. e, settled_entry fold.numbers g.parameters ns (and_parts (list_all (λ v. no_number (fold.numbers v)) g.parameters) (list_all (settles_block fold.numbers) g.blocks) fold.settled).0);
    hops = λ setting b s t w a. hops_alike setting b s t a.1 (record { world = w; values = a.0 });
  }

pub folded_runs : FoldedRuns
folded_runs flow graphs folds input safe n = runs_alike GraphFolds (λ g h fold. Tied fold.numbers) graph_alike flow graphs folds input safe n
