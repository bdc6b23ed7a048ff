-- A path of blocks comes to its end, or leaves before it.
use Rattle.std.proofs.Common.{◌≡◌, ℕ, Bool, true, false, Option, Some, None, List, [], ◌∷◌, slice_get, refl, ap, ◌∙◌, inl, inr, ⊎_elim}
use Rattle.std.specs.Prelude.{◌⊎◌, if◌then◌else◌}
use Rattle.vx_flow.specs.declared.graph.Op.{Op}
use Rattle.vx_flow.specs.declared.graph.Exit.{Exit}
use Rattle.vx_flow.specs.declared.graph.Exit.TheVariants.{Goto, Split as Branch}
use Rattle.vx_flow.specs.Effects.{Content, State, Setting, effect, is_one}
use Rattle.vx_flow.specs.Meaning.{Hop, Arrives, Wrong, leave, by_test, and_then, block_hop}
use Rattle.vx_mixed.specs.declared.region.Item.{Item}
use Rattle.vx_mixed.specs.declared.region.Node.TheVariants.{Unused}
use Rattle.vx_mixed.specs.declared.mixed.MixedGraph.{MixedGraph}
use Rattle.vx_mixed.specs.Meaning.{node_hop, timed_from_start, hop}
use Rattle.vx_mixed.specs.Agree.{Segment, last, on}
use Rattle.vx_mixed.specs.Path.{Path, ends, jumps, on_yes, on_no}
use Rattle.vx_motion.proofs.Unchanged.{block_ends}

-- a block has no meaning, or is left by its exit
block_way : (setting : Setting) (b : ℕ) (ops : List Op) (x : Exit) (s : State) → (block_hop setting b ops x s ≡ Wrong) ⊎ ((t : State) × (block_hop setting b ops x s ≡ leave b x t))
block_way setting b [] x s = inr (s, refl)
block_way setting b (op ∷ ops) x s = by (effect setting s op s) (λ t. block_way setting b ops x t)
  where
    by : (o : Option State) → ((t : State) → (block_hop setting b ops x t ≡ Wrong) ⊎ ((u : State) × (block_hop setting b ops x t ≡ leave b x u))) → (and_then o (block_hop setting b ops x) ≡ Wrong) ⊎ ((u : State) × (and_then o (block_hop setting b ops x) ≡ leave b x u))
    by None h = inl refl
    by (Some t) h = h t

module _ (setting : Setting) (times : List ℕ) (latency : Op → ℕ) (m : MixedGraph) (meet : ℕ → ℕ → Bool) where
  abbrev H : ℕ → State → Hop
  H = hop setting times latency m

  abbrev Ends : ℕ → State → Type 0
  Ends b s = (h : Hop) × Segment H meet b s h

  block_is : (b : ℕ) (ops : List Op) (x : Exit) (s : State) → slice_get m.nodes b ≡ Some (Unused (record { ops = ops; exit = x })) → H b s ≡ block_hop setting b ops x s
  block_is b ops x s e = ap (λ n. node_hop setting (timed_from_start setting times latency) m b n s) e

  -- a two-way exit of which one edge is inner
  at_test : (b p c d : ℕ) (s t : State) → H b s ≡ leave b (Branch p c d) t → (H b s ≡ Arrives b c t → Ends b s) → (H b s ≡ Arrives b d t → Ends b s) → Ends b s
  at_test b p c d s t e on_first on_second = by (t.values p) e
    where
      way : (one : Bool) → H b s ≡ (if one then Arrives b c t else Arrives b d t) → Ends b s
      way true f = on_first f
      way false f = on_second f

      by : (v : Content) → H b s ≡ by_test v (Arrives b c t) (Arrives b d t) → Ends b s
      by None f = (Wrong, last f tt)
      by (Some z) f = way (is_one z) f

  pub path_ends : {b l : ℕ} {is : List Item} {x : Exit} → Path m meet b is l x → (s : State) → (h : Hop) × Segment H meet b s h
  path_ends {b} {l} {is} {x} (ends ops e i eb all) s = (block_hop setting b ops x s, last (block_is b ops x s e) (block_ends setting meet b ops x s all))
  path_ends {b} {l} {is} {x} (jumps c ops rest e inner i path) s =
      ⊎_elim
      (λ w. (Wrong, last (block_is b ops (Goto c) s e ∙ w) tt))
      (λ r. let rest = path_ends path r.0 in (rest.0, on (block_is b ops (Goto c) s e ∙ r.1) inner rest.1))
      (block_way setting b ops (Goto c) s)
  path_ends {b} {l} {is} {x} (on_yes p c d ops rest e inner out i path) s =
      ⊎_elim
      (λ w. (Wrong, last (block_is b ops (Branch p c d) s e ∙ w) tt))
      (λ r. at_test b p c d s r.0 (block_is b ops (Branch p c d) s e ∙ r.1) (λ f. let rest = path_ends path r.0 in (rest.0, on f inner rest.1)) (λ f. (Arrives b d r.0, last f out)))
      (block_way setting b ops (Branch p c d) s)
  path_ends {b} {l} {is} {x} (on_no p c d ops rest e inner out i path) s =
      ⊎_elim
      (λ w. (Wrong, last (block_is b ops (Branch p c d) s e ∙ w) tt))
      (λ r. at_test b p c d s r.0 (block_is b ops (Branch p c d) s e ∙ r.1) (λ f. (Arrives b c r.0, last f out)) (λ f. let rest = path_ends path r.0 in (rest.0, on f inner rest.1)))
      (block_way setting b ops (Branch p c d) s)
