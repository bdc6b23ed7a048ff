-- A count that is replaced.
use Rattle.std.proofs.Common.{◌≡◌, ◌∙◌, ℕ, Bool, true, false, cond, ◌==◌, ◌&&◌, Option, Some, ap, refl}
use Rattle.std.specs.Option.{unwrap_or}
use Rattle.std.specs.BTreeMap.{get, is_at}
use Rattle.vx_flow.specs.Meaning.{AtBlock, AlongEdge}
use Rattle.vx_profile.specs.declared.counts.Counts.{Counts}
use Rattle.vx_profile.specs.Counts.{Pair, Triple, pair_cmp, triple_cmp, CountsReplaced}
use Rattle.vx_profile.proofs.Counting.{at_pair, at_triple}

chosen : (here : Bool) (count : ℕ) (found : Option ℕ) → unwrap_or (cond here (Some count) found) 0 ≡ cond here count (unwrap_or found 0)
chosen true count found = refl
chosen false count found = refl

pub block_replaced : (old new : Counts) (g c count : ℕ) → ((q : Pair) → get pair_cmp new.blocks q ≡ cond (is_at (pair_cmp (g, c)) q) (Some count) (get pair_cmp old.blocks q)) → new.edges ≡ old.edges → CountsReplaced old new (AtBlock g c) count
block_replaced old new g c count h e = record {
  blocks = λ f b.
      ap (λ o. unwrap_or o 0) (h (f, b))
      ∙ ap (λ t. unwrap_or (cond t (Some count) (get pair_cmp old.blocks (f, b))) 0) (at_pair g c f b)
      ∙ chosen ((g == f) && (c == b)) count (get pair_cmp old.blocks (f, b));
  edges = λ f b d. ap (λ m. unwrap_or (get triple_cmp m (f, b, d)) 0) e;
}

pub edge_replaced : (old new : Counts) (g c t count : ℕ) → ((q : Triple) → get triple_cmp new.edges q ≡ cond (is_at (triple_cmp (g, c, t)) q) (Some count) (get triple_cmp old.edges q)) → new.blocks ≡ old.blocks → CountsReplaced old new (AlongEdge g c t) count
edge_replaced old new g c t count h e = record {
  blocks = λ f b. ap (λ m. unwrap_or (get pair_cmp m (f, b)) 0) e;
  edges = λ f b d.
      ap (λ o. unwrap_or o 0) (h (f, b, d))
      ∙ ap (λ t. unwrap_or (cond t (Some count) (get triple_cmp old.edges (f, b, d))) 0) (at_triple g c t f b d)
      ∙ chosen ((g == f) && (c == b) && (t == d)) count (get triple_cmp old.edges (f, b, d));
}
