-- Which edges are noted for each block.
use Rattle.std.proofs.Common.{◌≡◌, inl, inr, ℕ, zero, suc, ◌+◌, ◌<◌, ◌≤◌, List, [], ◌∷◌, ◌++◌, length, get_or, take, slice_get, slice_index_or, slice_set, refl, sym, ap, subst, ◌∙◌, arith}
use Rattle.std.specs.Prelude.{replicate}
use Rattle.std.proofs.lemmas.List.{append-nil, length-append, length-replicate, length-set, take_more, take_all}
use Rattle.std.proofs.lemmas.Grind.{flat_map-append}
use Rattle.vx_flow.specs.declared.graph.Block.{Block}
use Rattle.vx_flow.specs.declared.graph.Graph.{Graph}
use Rattle.vx_flow.specs.Effects.{IsIn}
use Rattle.vx_flow.specs.Rows.{row_at}
use Rattle.vx_flow.specs.Sound.{targets_of}
use Rattle.vx_flow.proofs.IndexSteps.{get_some}
use Rattle.vx_flow.proofs.Members.{in_front_or_last, in_left, in_right, row_is, set_elsewhere, set_there}
use Rattle.vx_loops.specs.Noted.{Gains, SourcesOf, TablesIn}
use Rattle.vx_loops.specs.Order.{times_in}
use Rattle.vx_loops.specs.Path.{all_targets}
use Rattle.vx_loops.proofs.Orders.{same_or_not, times_append, times_other, times_same}

pub gains_none : (from : ℕ) (rows : List (List ℕ)) → Gains from [] rows rows
gains_none from rows = record { rows = refl; more = λ b lt. omega arith; leads = λ o b i. inl i }

pub gains_both : (from : ℕ) (xs ys : List ℕ) (old now new : List (List ℕ)) → Gains from xs old now → Gains from ys now new → Gains from (xs ++ ys) old new
gains_both from xs ys old now new g h = record {
  rows = h.rows ∙ g.rows;
  more = λ b lt.
      let a : length (row_at now b) ≡ length (row_at old b) + times_in b xs = g.more b lt in
      let c : length (row_at new b) ≡ length (row_at now b) + times_in b ys = h.more b (subst (λ z. b < z) (sym g.rows) lt) in
      let t : times_in b (xs ++ ys) ≡ times_in b xs + times_in b ys = times_append b xs ys in
      omega arith;
  leads = λ o b i. elim (h.leads o b i) [
    | inl k ↦ elim (g.leads o b k) [ inl l ↦ inl l | inr q ↦ inr (q.0, in_left b xs ys q.1) ]
    | inr q ↦ inr (q.0, in_right b xs ys q.1)
  ];
}

gains_one : (rows : List (List ℕ)) (p from : ℕ) → p < length rows → Gains from (p ∷ []) rows (slice_set rows p (row_at rows p ++ from ∷ []))
gains_one rows p from there = record {
  rows = length-set rows p (row_at rows p ++ from ∷ []);
  more = λ b lt. same_or_not b p
      (λ e.
      let l : length (row_at rows p ++ from ∷ []) ≡ length (row_at rows p) + length (from ∷ []) = length-append (row_at rows p) (from ∷ []) in
      let o : times_in b (p ∷ []) ≡ 1 = times_same b p e in
      let r : length (row_at (slice_set rows p (row_at rows p ++ from ∷ [])) b) ≡ length (row_at rows p ++ from ∷ []) = ap (λ z. length (row_at (slice_set rows p (row_at rows p ++ from ∷ [])) z)) e ∙ ap length (set_there rows p (row_at rows p ++ from ∷ []) there) in
      let s : length (row_at rows b) ≡ length (row_at rows p) = ap (λ z. length (row_at rows z)) e in
      let u : length (from ∷ []) ≡ 1 = refl in
      omega arith)
      (λ n.
      let o : times_in b (p ∷ []) ≡ 0 = times_other b p n in
      let r : length (row_at (slice_set rows p (row_at rows p ++ from ∷ [])) b) ≡ length (row_at rows b) = ap length (set_elsewhere rows p (row_at rows p ++ from ∷ []) b n) in
      omega arith);
  leads = λ o b i. same_or_not b p
      (λ e.
      let r : row_at (slice_set rows p (row_at rows p ++ from ∷ [])) b ≡ row_at rows p ++ from ∷ [] = ap (λ z. row_at (slice_set rows p (row_at rows p ++ from ∷ [])) z) e ∙ set_there rows p (row_at rows p ++ from ∷ []) there in
      elim (in_front_or_last o from (row_at rows p) (subst (IsIn o) r i)) [
        | inl k ↦ inl (subst (λ z. IsIn o (row_at rows z)) (sym e) k)
        | inr q ↦ inr (q, inl e)
      ])
      (λ n. inl (subst (IsIn o) (set_elsewhere rows p (row_at rows p ++ from ∷ []) b n) i));
}

pub gains_pushed : (rows : List (List ℕ)) (p from : ℕ) (row new : List ℕ) → p < length rows → row ≡ slice_index_or rows p row → new ≡ row ++ from ∷ [] → Gains from (p ∷ []) rows (slice_set rows p new)
gains_pushed rows p from row new there is e = subst (λ z. Gains from (p ∷ []) rows (slice_set rows p z)) (ap (λ z. z ++ from ∷ []) (row_is rows p row there is) ∙ sym e) (gains_one rows p from there)

pub gains_past : (rows : List (List ℕ)) (p from : ℕ) → length rows ≤ p → Gains from (p ∷ []) rows rows
gains_past rows p from past = record {
  rows = refl;
  more = λ b lt. let o : times_in b (p ∷ []) ≡ 0 = times_other b p (λ e. absurd (omega arith)) in omega arith;
  leads = λ o b i. inl i;
}

pub targets_more : (blocks : List Block) (i : ℕ) (block : Block) → i < length blocks → block ≡ get_or blocks i block → all_targets (take (i + 1) blocks) ≡ all_targets (take i blocks) ++ targets_of block.exit
targets_more blocks i block lt is =
    ap all_targets (take_more blocks i block lt) ∙ flat_map-append (λ x. targets_of x.exit) (take i blocks) (get_or blocks i block ∷ []) ∙ ap (λ z. all_targets (take i blocks) ++ z) (append-nil (targets_of (get_or blocks i block).exit)) ∙ ap (λ z. all_targets (take i blocks) ++ targets_of z.exit) (sym is)

empty_row : (n b : ℕ) → row_at {A = ℕ} (replicate n []) b ≡ []
empty_row zero b = refl
empty_row (suc n) zero = refl
empty_row (suc n) (suc b) = empty_row n b

pub no_edges : (blocks : List Block) → SourcesOf blocks [] (replicate (length blocks) [])
no_edges blocks = record {
  rows = length-replicate (length blocks) [];
  count = λ b lt. ap length (empty_row (length blocks) b);
  leads = λ from b i. absurd (subst (IsIn from) (empty_row (length blocks) b) i);
}

pub edges_more : (blocks : List Block) (i : ℕ) (block : Block) (now new : List (List ℕ)) → i < length blocks → block ≡ get_or blocks i block → SourcesOf blocks (take i blocks) now → Gains i (targets_of block.exit) now new → SourcesOf blocks (take (i + 1) blocks) new
edges_more blocks i block now new lt is g h = record {
  rows = h.rows ∙ g.rows;
  count = λ b below.
      let a : length (row_at now b) ≡ times_in b (all_targets (take i blocks)) = g.count b below in
      let c : length (row_at new b) ≡ length (row_at now b) + times_in b (targets_of block.exit) = h.more b (subst (λ z. b < z) (sym g.rows) below) in
      let t : times_in b (all_targets (take i blocks) ++ targets_of block.exit) ≡ times_in b (all_targets (take i blocks)) + times_in b (targets_of block.exit) = times_append b (all_targets (take i blocks)) (targets_of block.exit) in
      let s : length (row_at new b) ≡ times_in b (all_targets (take i blocks) ++ targets_of block.exit) = omega arith in
      s ∙ ap (times_in b) (sym (targets_more blocks i block lt is));
  leads = λ from b i_in. elim (h.leads from b i_in) [
    | inl k ↦ g.leads from b k
    | inr q ↦ record { block = block; has = ap (slice_get blocks) q.0 ∙ get_some blocks i block lt is; leads = q.1 }
  ];
}

pub edges_all : (blocks : List Block) (i : ℕ) (rows : List (List ℕ)) → length blocks ≤ i → SourcesOf blocks (take i blocks) rows → SourcesOf blocks blocks rows
edges_all blocks i rows le g = subst (λ z. SourcesOf blocks z rows) (take_all i blocks le) g

-- the tables of a graph

pub tables_made : (g : Graph) (members writers stores : List ℕ) (sources : List (List ℕ)) → length members ≡ length g.blocks → length writers ≡ length g.banks → length stores ≡ length g.arrays → SourcesOf g.blocks g.blocks sources → TablesIn g members writers stores sources
tables_made g members writers stores sources m w s e = record { members = m; values = w; arrays = s; edges = e.count; leads = e.leads }

pub member_put : (g : Graph) (members writers stores : List ℕ) (sources : List (List ℕ)) (p n : ℕ) → TablesIn g members writers stores sources → TablesIn g (slice_set members p n) writers stores sources
member_put g members writers stores sources p n t = record { members = length-set members p n ∙ t.members; values = t.values; arrays = t.arrays; edges = t.edges; leads = t.leads }

pub writer_put : (g : Graph) (members writers stores : List ℕ) (sources : List (List ℕ)) (p n : ℕ) → TablesIn g members writers stores sources → TablesIn g members (slice_set writers p n) stores sources
writer_put g members writers stores sources p n t = record { members = t.members; values = length-set writers p n ∙ t.values; arrays = t.arrays; edges = t.edges; leads = t.leads }

pub store_put : (g : Graph) (members writers stores : List ℕ) (sources : List (List ℕ)) (p n : ℕ) → TablesIn g members writers stores sources → TablesIn g members writers (slice_set stores p n) sources
store_put g members writers stores sources p n t = record { members = t.members; values = t.values; arrays = length-set stores p n ∙ t.arrays; edges = t.edges; leads = t.leads }
