-- What a sound graph begins as is valid.
use Rattle.std.proofs.Common.{◌≡◌, ℕ, zero, suc, ◌<◌, true, ◌&&◌, Option, Some, None, List, [], ◌∷◌, length, replicate, slice_get, refl, sym, ap, ◌∙◌, subst, inl, inr, arith}
use Rattle.std.specs.Prelude.{◌*◌, ◌^◌, ◌%◌, nat_lt}
use Rattle.std.specs.List.{list_all}
use Rattle.std.specs.Option.{option_map}
use Rattle.std.proofs.Math.Nat.{mod-eq_of_lt}
use Rattle.std.proofs.lemmas.Bool.{and_parts, ltb-true}
use Rattle.std.proofs.lemmas.List.{length-replicate, length-map}
use Rattle.vx_flow.specs.declared.graph.Bank.{Bank}
use Rattle.vx_flow.specs.declared.graph.Bank.TheVariants.{General, Branch}
use Rattle.vx_flow.specs.declared.graph.Block.{Block}
use Rattle.vx_flow.specs.declared.graph.Edge.{Edge}
use Rattle.vx_flow.specs.declared.graph.Exit.{Exit}
use Rattle.vx_flow.specs.declared.graph.Exit.TheVariants.{Goto, Split as Branches, Call, Return, Ends}
use Rattle.vx_flow.specs.declared.graph.Graph.{Graph}
use Rattle.vx_flow.specs.declared.graph.Op.{Op}
use Rattle.vx_flow.specs.declared.graph.Op.TheVariants.{Across}
use Rattle.vx_flow.specs.declared.graph.Operand.{Operand}
use Rattle.vx_flow.specs.Effects.{IsIn, reads, writes}
use Rattle.vx_flow.specs.Live.{reads_of_exit}
use Rattle.vx_flow.specs.Sound.{is_bank, is_branch, is_operand, is_sound_operation, is_sound_exit, is_sound_in, is_sound_block, is_sound, is_general_or_none, targets_of, results_of_exit, bank_written}
use Rattle.vx_flow.proofs.IndexSteps.{get_below}
use Rattle.vx_flow.proofs.SoundNames.{results_are}
use Rattle.vx_mixed.specs.declared.region.Node.TheVariants.{Unused, Inner}
use Rattle.vx_mixed.specs.declared.region.Origin.{Origin}
use Rattle.vx_mixed.specs.declared.mixed.MixedGraph.{MixedGraph}
use Rattle.vx_mixed.specs.Edges.{IsEdge, of_block, of_split, of_last}
use Rattle.vx_mixed.specs.FromGraph.{FromGraph}
use Rattle.vx_mixed.specs.Valid.{TestsBranch, is_entrance, IsOp, block_op, region_op, Names, Valid, IsGraphEdge, CanBegin}
use Rattle.vx_mixed.proofs.Begins.{bank_below, Below, both_below, op_below, exit_below, get_in, all_in, node_is, is_block, no_entry, no_region, sound_op, sound_blocks}

module _ (banks : List Bank) where
  one_below : (v : ℕ) (bank : Bank) → is_bank bank (slice_get banks v) ≡ true → Below banks (v ∷ [])
  one_below v bank h u (inl e) = subst (λ z. z < length banks) (sym e) (bank_below banks v bank h)
  one_below v bank h u (inr q) = absurd q

  result_below : (result : Option ℕ) (g next : ℕ) (arguments : List Operand) → is_general_or_none banks result ≡ true → Below banks (results_of_exit (Call g arguments result next))
  result_below None g next arguments h = λ v q. absurd q
  result_below (Some u) g next arguments h = one_below u General h

  results_below : (blocks : ℕ) (x : Exit) → is_sound_exit banks blocks x ≡ true → Below banks (results_of_exit x)
  results_below n (Goto c) h = λ v q. absurd q
  results_below n (Branches p c d) h = λ v q. absurd q
  results_below n (Call g arguments result next) h =
      result_below result g next arguments (and_parts (list_all (is_operand banks) arguments) (is_general_or_none banks result) (and_parts (list_all (is_operand banks) arguments && is_general_or_none banks result) (nat_lt next n) h).0).1
  results_below n (Return x) h = λ v q. absurd q
  results_below n (Ends k) h = λ v q. absurd q

  targets_below : (n : ℕ) (x : Exit) → is_sound_exit banks n x ≡ true → (c : ℕ) → IsIn c (targets_of x) → c < n
  targets_below n (Goto d) h c (inl e) = subst (λ z. z < n) (sym e) (ltb-true d n h)
  targets_below n (Goto d) h c (inr q) = absurd q
  targets_below n (Branches p d e) h c (inl q) = subst (λ z. z < n) (sym q) (ltb-true d n (and_parts (is_branch banks p) (nat_lt d n) (and_parts (is_branch banks p && nat_lt d n) (nat_lt e n) h).0).1)
  targets_below n (Branches p d e) h c (inr (inl q)) = subst (λ z. z < n) (sym q) (ltb-true e n (and_parts (is_branch banks p && nat_lt d n) (nat_lt e n) h).1)
  targets_below n (Branches p d e) h c (inr (inr q)) = absurd q
  targets_below n (Call g arguments result next) h c (inl q) = subst (λ z. z < n) (sym q) (ltb-true next n (and_parts (list_all (is_operand banks) arguments && is_general_or_none banks result) (nat_lt next n) h).1)
  targets_below n (Call g arguments result next) h c (inr q) = absurd q
  targets_below n (Return x) h c q = absurd q
  targets_below n (Ends k) h c q = absurd q

has_branch : (o : Option Bank) → is_bank Branch o ≡ true → o ≡ Some Branch
has_branch None h = absurd (cc)
has_branch (Some General) h = absurd (cc)
has_branch (Some Branch) h = refl

none_made : (n b : ℕ) (o : Origin) → slice_get (replicate n None) b ≡ Some (Some o) → ⊥
none_made zero b o e = cc
none_made (suc n) zero o e = cc
none_made (suc n) (suc b) o e = none_made n b o e

get_some : {A : Type 0} (xs : List A) (i : ℕ) → i < length xs → (x : A) × (slice_get xs i ≡ Some x)
get_some [] i h = absurd (omega arith)
get_some (x ∷ xs) zero h = (x, refl)
get_some (x ∷ xs) (suc i) h = get_some xs i (omega arith)

no_inner : (o : Option Block) → option_map Unused o ≡ Some Inner → ⊥
no_inner None e = cc
no_inner (Some b) e = cc

writes_below : (graph : Graph) (op : Op) → is_sound_operation graph.banks (length graph.arrays) op ≡ true → Below graph.banks (writes op)
writes_below graph op h v i = get_below graph.banks v (bank_written op) (results_are graph op v h i)

module _ (graph : Graph) (m : MixedGraph) (sound : is_sound graph ≡ true) (can : CanBegin graph) (from : FromGraph graph m) where
  banks : m.banks ≡ graph.banks
  banks = from.blocks.banks

  here : (b : ℕ) (k : Block) → slice_get m.nodes b ≡ Some (Unused k) → slice_get graph.blocks b ≡ Some k
  here b k e = is_block graph m sound from.blocks (slice_get graph.blocks b) k (sym (node_is graph m sound from.blocks b) ∙ e)

  block_sound : (b : ℕ) (k : Block) → slice_get graph.blocks b ≡ Some k → (list_all (is_sound_in graph) k.ops ≡ true) × (is_sound_exit graph.banks (length graph.blocks) k.exit ≡ true)
  block_sound b k e =
      and_parts (list_all (is_sound_in graph) k.ops) (is_sound_exit graph.banks (length graph.blocks) k.exit)
      (get_in (is_sound_block graph) graph.blocks b k (sound_blocks graph sound) e)

  op_sound : (op : Op) (ops : List Op) → list_all (is_sound_in graph) ops ≡ true → IsIn op ops → is_sound_operation graph.banks (length graph.arrays) op ≡ true
  op_sound op ops all i = sound_op graph op (all_in (is_sound_in graph) ops op all i)

  graph_edge : (e : Edge) → IsEdge m e → IsGraphEdge graph e
  graph_edge e (of_block {block = k} at t) = record { block = k; has = here e.from k at; leads = t }
  graph_edge e (of_split r j p d y g word at in_word h) = no_region graph m from.blocks r g at
  graph_edge e (of_last r g at f t) = no_region graph m from.blocks r g at

  no_origin : (b : ℕ) (o : Origin) → slice_get m.origins b ≡ Some (Some o) → ⊥
  no_origin b o e = none_made (length graph.blocks) b o (sym (ap (λ z. slice_get z b) from.origins) ∙ e)

  tests : (x : Exit) → is_sound_exit graph.banks (length graph.blocks) x ≡ true → TestsBranch m x
  tests (Goto c) h = tt
  tests (Branches p c d) h =
      let n = length graph.blocks in
      let b : is_branch graph.banks p ≡ true = (and_parts (is_branch graph.banks p) (nat_lt c n) (and_parts (is_branch graph.banks p && nat_lt c n) (nat_lt d n) h).0).0 in
      let lt : p < length graph.banks = bank_below graph.banks p Branch b in
      let same : p % length graph.banks ≡ p = mod-eq_of_lt lt in
      ap (λ z. slice_get z (p % length z)) banks ∙ ap (slice_get graph.banks) same ∙ has_branch (slice_get graph.banks p) b
  tests (Call g arguments result next) h = tt
  tests (Return x) h = tt
  tests (Ends k) h = tt

  names_below : (b v : ℕ) (k : Block) → slice_get graph.blocks b ≡ Some k → Names k v → v < length graph.banks
  names_below b v k at (inl h) =
      let s = op_sound h.0 k.ops (block_sound b k at).0 h.1 in
      both_below graph.banks (reads h.0) (writes h.0) (op_below graph.banks (length graph.arrays) h.0 s) (writes_below graph h.0 s) v h.2
  names_below b v k at (inr h) =
      let s = (block_sound b k at).1 in
      both_below graph.banks (reads_of_exit k.exit) (results_of_exit k.exit) (exit_below graph.banks (length graph.blocks) k.exit s) (results_below graph.banks (length graph.blocks) k.exit s) v h

  leads_on : (e : Edge) → IsGraphEdge graph e → is_entrance (slice_get m.nodes e.to) ≡ true
  leads_on e g =
      let lt = targets_below graph.banks (length graph.blocks) g.block.exit (block_sound e.from g.block g.has).1 e.to g.leads in
      let k = get_some graph.blocks e.to lt in
      ap is_entrance (node_is graph m sound from.blocks e.to ∙ ap (option_map Unused) k.1)

  no_across : (v u : ℕ) → IsOp m (Across v u) → ⊥
  no_across v u (block_op b k at i) =
      let s = op_sound (Across v u) k.ops (block_sound b k (here b k at)).0 i in cc
  no_across v u (region_op r j cluster g word at in_word i) = no_region graph m from.blocks r g at

  pub starts_valid : Valid m
  starts_valid = record {
    copies = subst (λ z. 5 * length z < 2 ^ 32) (sym banks) can.copies;
    origins = ap length from.origins ∙ length-replicate (length graph.blocks) None ∙ sym (ap length from.blocks.nodes ∙ length-map graph.blocks Unused);
    clusters = λ b k o at e. absurd (no_origin b o e);
    block_parts = λ b k at. (can.parts b k (here b k at), tests k.exit (block_sound b k (here b k at)).1);
    region_parts = λ r g e. no_region graph m from.blocks r g e;
    begins = λ e. absurd (no_inner (slice_get graph.blocks 0) (sym (node_is graph m sound from.blocks 0) ∙ e));
    splits_from = λ r j p d y e g word at in_word h. no_region graph m from.blocks r g at;
    last_from = λ r g e. no_region graph m from.blocks r g e;
    leads = λ e h. leads_on e (graph_edge e h);
    entry = λ e h. can.entry e (graph_edge e h);
    uncritical = λ e f g a b c. can.uncritical e f g (graph_edge e a) (graph_edge f b) (graph_edge g c);
    one_way = λ e f a b made. absurd (no_origin e.to made.0 made.1);
    enters = λ b r w e. absurd (no_entry graph m sound from.blocks (slice_get graph.blocks b) r w (sym (node_is graph m sound from.blocks b) ∙ e));
    names = λ b v k at none n. subst (λ z. v < length z) (sym banks) (names_below b v k (here b k at) n);
    copied = λ v u h. absurd (no_across v u h);
    away = λ v u h. absurd (no_across v u h);
  }
