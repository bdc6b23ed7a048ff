-- What a sound graph begins as is a graph of blocks and regions on the clusters of a machine, whatever the function's number is.
use Rattle.std.proofs.Common.{◌≡◌, ◌⊎◌, inl, inr, ℕ, zero, suc, ◌<◌, ◌≤◌, Bool, true, false, ◌&&◌, Option, Some, None, List, [], ◌∷◌, length, slice_get, slice_index_or, refl, sym, ap, ◌∙◌, subst, arith}
use Rattle.std.specs.Prelude.{◌||◌, replicate, if◌then◌else◌}
use Rattle.std.specs.List.{list_all, list_any}
use Rattle.std.proofs.lemmas.Bool.{and_parts, cases_lt, eq-eqb}
use Rattle.vx_flow.specs.declared.graph.Block.{Block}
use Rattle.vx_flow.specs.declared.graph.Edge.{Edge}
use Rattle.vx_flow.specs.declared.graph.Graph.{Graph}
use Rattle.vx_flow.specs.declared.graph.Op.{Op}
use Rattle.vx_flow.specs.declared.graph.Op.TheVariants.{Select, More, Input}
use Rattle.vx_flow.specs.Effects.{IsIn, reads, writes}
use Rattle.vx_flow.specs.Sound.{HasOperation, Sound, is_sound, is_general, is_sound_operation, is_sound_exit, is_sound_in, is_sound_block, is_kept, is_access_placed, bank_written}
use Rattle.vx_flow.specs.Operands.{binds}
use Rattle.vx_flow.proofs.IndexSteps.{get_below}
use Rattle.vx_flow.proofs.Members.{in_right, in_either}
use Rattle.vx_flow.proofs.SoundLists.{all_in}
use Rattle.vx_flow.proofs.SoundLaw.{sound_is}
use Rattle.vx_room.specs.Items.{latency_of_op}
use Rattle.vx_mixed.specs.declared.region.Origin.{Origin}
use Rattle.vx_mixed.specs.declared.mixed.MixedGraph.{MixedGraph}
use Rattle.vx_mixed.specs.FromGraph.{FromGraph, is_some_of, is_bound, OfGraph}
use Rattle.vx_mixed.specs.Edges.{IsEdge, of_block, of_split, of_last}
use Rattle.vx_layout.specs.OriginLaws.{BeginsWithCode}
use Rattle.vx_layout.specs.Origins.{ComesFromGraph}
use Rattle.vx_mixed.specs.Settled.{has_home}
use Rattle.vx_mixed.specs.Valid.{IsOp, block_op, region_op, names_of}
use Rattle.vx_mixed.proofs.Begins.{sound_op, sound_blocks, op_below, no_region, begins_tidy, begins_settled, node_is, is_block}
use Rattle.vx_mixed.proofs.Linked.{index_in}
use Rattle.vx_motion.specs.MadeBlocks.{MadeFacts}
use Rattle.vx_motion.specs.Paths.{UnusedEdge, IsHeaded}
use Rattle.vx_motion.proofs.Headed.{begins_headed, headed_by, stays}
use Rattle.vx_motion.proofs.MadeBlocks.{made_begins}
use Rattle.vx_bug.proofs.Best.{some_clusters}
use Rattle.vx_region.specs.Regions.{room_in, BeginsAsGraph}
use Rattle.vx_region.proofs.ClusteredOps.{value_below}

past : (xs : List (Option ℕ)) (v : ℕ) → length xs ≤ v → slice_index_or xs v None ≡ None
past [] v le = refl
past (x ∷ xs) zero le = absurd (omega (arith, le))
past (x ∷ xs) (suc v) le = past xs v (omega (arith, le))

or_true : (b : Bool) → (b || true) ≡ true
or_true true = refl
or_true false = refl

-- what is bound is written
binds_written : (op : Op) (v : ℕ) → binds op ≡ Some v → IsIn v (writes op)
binds_written (Select w p a b) v e = let q : v ≡ w = cc in inl q
binds_written (More w) v e = let q : v ≡ w = cc in inl q
binds_written (Input w) v e = let q : v ≡ w = cc in inl q
binds_written op v e = absurd cc

module _ (graph : Graph) (m : MixedGraph) (sound_test : is_sound graph ≡ true) (from : FromGraph graph m) where
  sound : Sound graph
  sound = sound_is graph sound_test

  has : (op : Op) → IsOp m op → HasOperation graph op
  has op (block_op b block at i) =
      let there = is_block graph m sound_test from.blocks (slice_get graph.blocks b) block (sym (node_is graph m sound_test from.blocks b) ∙ at) in
      record { block = block; has = index_in graph.blocks b block there; stands = i }
  has op (region_op r j cluster g word at there i) = no_region graph m from.blocks r g at

  -- what has a home at the start is a value of the graph, and stands on cluster 0
  pub record IsFirst (v k : ℕ) : Type 0 where
    pub value : v < length graph.banks
    pub zero_is : k ≡ 0

  first : (v k : ℕ) → has_home m.homes.clusters v ≡ Some k → IsFirst v k
  first v k h = by (cases_lt v (length graph.banks))
    where
      if_bound : (b : Bool) → (if b then Some 0 else None) ≡ Some k → k ≡ 0
      if_bound true e = cc
      if_bound false e = absurd (cc)

      by : (v < length graph.banks) ⊎ (length graph.banks ≤ v) → IsFirst v k
      by (inl lt) = record { value = lt; zero_is = if_bound (is_bound graph v) (sym (from.homes.homes v lt) ∙ h) }
      by (inr le) = let e : None ≡ Some k = sym (past m.homes.clusters v (subst (λ n. n ≤ v) (sym from.homes.size) le)) ∙ h in absurd (cc)

  -- what is bound has its home
  op_binds : (ops : List Op) (op : Op) (v : ℕ) → IsIn op ops → binds op ≡ Some v → list_any (λ o. is_some_of (binds o) v) ops ≡ true
  op_binds [] op v h e = absurd h
  op_binds (o ∷ ops) op v (inl q) e = ap (λ z. is_some_of z v || list_any (λ o. is_some_of (binds o) v) ops) (ap binds (sym q) ∙ e) ∙ ap (λ z. z || list_any (λ o. is_some_of (binds o) v) ops) (eq-eqb v v refl)
  op_binds (o ∷ ops) op v (inr h) e = ap (λ z. is_some_of (binds o) v || z) (op_binds ops op v h e) ∙ or_true (is_some_of (binds o) v)

  block_binds : (blocks : List Block) (block : Block) (op : Op) (v : ℕ) → IsIn block blocks → IsIn op block.ops → binds op ≡ Some v → list_any (λ (b : Block). list_any (λ o. is_some_of (binds o) v) b.ops) blocks ≡ true
  block_binds [] block op v h i e = absurd h
  block_binds (b ∷ bs) block op v (inl q) i e = ap (λ z. z || list_any (λ (b : Block). list_any (λ o. is_some_of (binds o) v) b.ops) bs) (op_binds b.ops op v (subst (λ (z : Block). IsIn op z.ops) q i) e)
  block_binds (b ∷ bs) block op v (inr h) i e = ap (λ z. list_any (λ o. is_some_of (binds o) v) b.ops || z) (block_binds bs block op v h i e) ∙ or_true (list_any (λ o. is_some_of (binds o) v) b.ops)

  bound_first : (op : Op) (v : ℕ) → v < length graph.banks → HasOperation graph op → binds op ≡ Some v → has_home m.homes.clusters v ≡ Some 0
  bound_first op v lt h e = from.homes.homes v lt ∙ ap (λ z. if z then Some 0 else None) (block_binds graph.blocks h.block op v h.has h.stands e)

named_below : (graph : Graph) → is_sound graph ≡ true → (op : Op) (v : ℕ) → HasOperation graph op → IsIn v (names_of op) → v < length graph.banks
named_below graph sound op v h i =
    let s = all_in (is_sound_block graph) graph.blocks h.block (sound_blocks graph sound) h.has in
    let y = all_in (is_sound_in graph) h.block.ops op (and_parts (list_all (is_sound_in graph) h.block.ops) (is_sound_exit graph.banks (length graph.blocks) h.block.exit) s).0 h.stands in
    let w = sound_op graph op y in
    elim (in_either v (reads op) (writes op) i) [
      | inl r ↦ op_below graph.banks (length graph.arrays) op w v r
      | inr x ↦ get_below graph.banks v (bank_written op) ((sound_is graph sound).results op v h x)
    ]

-- a number of the function changes nothing but itself

module _ (m : MixedGraph) (f : ℕ) where
  abbrev numbered : MixedGraph
  numbered = record m { function = f }

  op_of : (op : Op) → IsOp numbered op → IsOp m op
  op_of op (block_op b block at i) = block_op b block at i
  op_of op (region_op r j cluster g word at there i) = region_op r j cluster g word at there i

  edge_of : (e : Edge) → IsEdge numbered e → IsEdge m e
  edge_of e (of_block at t) = of_block at t
  edge_of e (of_split r j p d y g word at x h) = of_split r j p d y g word at x h
  edge_of e (of_last r g at k t) = of_last r g at k t

  still_headed : IsHeaded m → IsHeaded numbered
  still_headed h = headed_by (UnusedEdge numbered) (UnusedEdge m) (λ b. IsIn b m.headers) (λ e u. stays (record { is_edge = edge_of e u.is_edge; begins = u.begins; arrives = u.arrives })) h

  still_of : (graph : Graph) → OfGraph graph m → OfGraph graph numbered
  still_of graph b = record { nodes = b.nodes; regions = b.regions; banks = b.banks; parameters = b.parameters; arrays = b.arrays }

  still_code : (graph : Graph) → ComesFromGraph graph m → ComesFromGraph graph numbered
  still_code graph c = record {
    banks = c.banks;
    parameters = c.parameters;
    arrays = c.arrays;
    ops = λ op h. c.ops op (op_of op h);
    block_exits = c.block_exits;
    region_exits = c.region_exits;
    splits = c.splits;
  }

  still_facts : MadeFacts m → MadeFacts numbered
  still_facts x = record {
    lower = x.lower;
    goes = x.goes;
    entered = λ b o e at l is to. x.entered b o e at l (edge_of e is) to;
    left = λ b o e at l is to. x.left b o e at l (edge_of e is) to;
  }

pub begins_on : BeginsWithCode → BeginsAsGraph
begins_on with_code machine graph m f works sound_test from = record {
  sound = sound_test;
  code = still_code m f graph (with_code graph m sound_test from);
  on = record {
    homes = λ v k h. let q = (first graph m sound_test from v k h).zero_is in let some : 1 ≤ machine.clusters = some_clusters machine works in let z : k < machine.clusters = omega (arith, q, some) in z;
    copies_at_home = λ v k h le. absurd (let l = (first graph m sound_test from v k h).value in let e = ap length from.blocks.banks in omega (arith, l, le, e));
    bound = λ op v h e. bound_first graph m sound_test from op v (named_below graph sound_test op v (has graph m sound_test from op (op_of m f op h)) (in_right v (reads op) (writes op) (binds_written op v e))) (has graph m sound_test from op (op_of m f op h)) e;
    values = λ op v h i. value_below (length m.banks) v machine.clusters (banks_below op v (has graph m sound_test from op (op_of m f op h)) i);
    copies = λ op u h i. inl (banks_below op u (has graph m sound_test from op (op_of m f op h)) (in_right u (reads op) (writes op) i));
    copied_away = λ op v h i le. absurd (let l = banks_below op v (has graph m sound_test from op (op_of m f op h)) i in omega (arith, l, le));
    tidy = begins_tidy graph (numbered m f) sound_test (still_of m f graph from.blocks);
    made = λ b i cluster block origin op at o. absurd (no_origin b origin o);
    facts = still_facts m f (made_begins graph m from);
  };
  settled = begins_settled graph (numbered m f) (still_of m f graph from.blocks) (room_in machine) (latency_of_op machine);
  brief = record { splits = λ r j p d y e g word at there i. no_region graph m from.blocks r g at; last = λ r g at. no_region graph m from.blocks r g at };
  headed = still_headed m f (begins_headed graph m from);
}
  where
    banks_below : (op : Op) (v : ℕ) → HasOperation graph op → IsIn v (names_of op) → v < length m.banks
    banks_below op v h i = subst (λ bs. v < length bs) (sym from.blocks.banks) (named_below graph sound_test op v h i)

    no_origin : (b : ℕ) (origin : Origin) → slice_get m.origins b ≡ Some (Some origin) → ⊥
    no_origin b origin o = none (length graph.blocks) b (ap (λ z. slice_get z b) (sym from.origins) ∙ o)
      where
        none : (n i : ℕ) → slice_get (replicate {A = Option Origin} n None) i ≡ Some (Some origin) → ⊥
        none zero i e = cc
        none (suc n) zero e = cc
        none (suc n) (suc i) e = none n i e
