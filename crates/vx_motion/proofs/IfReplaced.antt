-- The worked replacement fits the graph of the worked `if` without `else`.
use Rattle.std.proofs.Common.{◌≡◌, ℕ, zero, suc, ◌+◌, ◌<◌, ◌≤◌, Bool, false, Option, Some, None, List, [], ◌∷◌, length, map, slice_get, slice_index_or, refl, sym, ap, ◌∙◌, subst, ⊎_elim, inl, inr, arith}
use Rattle.std.specs.Prelude.{◌⊎◌, ◌*◌, if◌then◌else◌, replicate}
use Rattle.std.proofs.lemmas.Bool.{cases_lt}
use Rattle.vx_flow.specs.declared.graph.Bank.{Bank}
use Rattle.vx_flow.specs.declared.graph.Edge.{Edge}
use Rattle.vx_flow.specs.declared.graph.Graph.{Graph}
use Rattle.vx_flow.specs.declared.graph.Op.{Op}
use Rattle.vx_flow.specs.declared.graph.Op.TheVariants.{Across}
use Rattle.vx_flow.specs.declared.trace.TraceOp.{TraceOp}
use Rattle.vx_flow.specs.declared.trace.TraceOp.TheVariants.{Plain, Split}
use Rattle.vx_flow.specs.declared.trace.Join.{Join}
use Rattle.vx_flow.specs.Effects.{IsIn}
use Rattle.vx_flow.specs.Sound.{arrays_of}
use Rattle.vx_flow.specs.Walk.{edge}
use Rattle.vx_flow.proofs.IndexSteps.{get_below}
use Rattle.vx_mixed.specs.declared.region.Made.{Made}
use Rattle.vx_mixed.specs.declared.region.Node.TheVariants.{Unused}
use Rattle.vx_mixed.specs.declared.mixed.MixedGraph.{MixedGraph}
use Rattle.vx_mixed.specs.CanReplace.{CanReplace, TraceFits, IsFormed, NamesFit, ListsFit, WordsFit, MadeFits, MadeStands, Stands, HomesFit, IsNamed, in_trace, in_made, AwayFits}
use Rattle.vx_mixed.specs.TraceItems.{splits_of}
use Rattle.vx_mixed.specs.Edges.{Before, Ascending}
use Rattle.vx_motion.specs.Example.{sum, test, step, product, total}
use Rattle.vx_mixed.specs.FromGraph.{FromGraph, is_bound}
use Rattle.vx_mixed.specs.declared.replacement.Replacement.{Replacement}
use Rattle.vx_motion.specs.ReplaceExample.{if_homes, IsWorked, IfIsReplaced}
use Rattle.vx_mixed.specs.Settled.{StandsOn, has_home}
use Rattle.vx_motion.specs.TraceExample.{if_blocks, if_banks}
use Rattle.vx_mixed.specs.TraceOf.{CanTrace, IsTraceOf, trace_ops, trace_fixed, trace_joins}
use Rattle.vx_mixed.specs.Valid.{names_of}
use Rattle.vx_mixed.proofs.BlockEdges.{block_edges_are}
use Rattle.vx_mixed.proofs.MovedEdges.{not_before}
use Rattle.vx_motion.proofs.Traced.{if_traces}

-- ascending lists of the same edges are the same

no_turn : (e f : Edge) → Before e f → Before f e → ⊥
no_turn e f (inl a) (inl b) = absurd (omega arith)
no_turn e f (inl a) (inr b) = let k = b.0 in absurd (omega arith)
no_turn e f (inr a) (inl b) = let k = a.0 in absurd (omega arith)
no_turn e f (inr a) (inr b) = let k = a.1 in let l = b.1 in absurd (omega arith)

off_itself : (e f : Edge) → e ≡ f → Before f e → ⊥
off_itself e f q up = not_before f e (ap (λ (z : Edge). z.from) (sym q)) (ap (λ (z : Edge). z.to) (sym q)) up

pub same_lists : (xs ys : List Edge) → Ascending xs → Ascending ys → ((e : Edge) → IsIn e xs → IsIn e ys) → ((e : Edge) → IsIn e ys → IsIn e xs) → xs ≡ ys
same_lists [] [] a b there back = refl
same_lists [] (y ∷ ys) a b there back = absurd (back y (inl refl))
same_lists (x ∷ xs) [] a b there back = absurd (there x (inl refl))
same_lists (x ∷ xs) (y ∷ ys) a b there back = ap (λ z. z ∷ xs) head ∙ ap (λ z. y ∷ z) (same_lists xs ys a.1 b.1 on off)
  where
    head : x ≡ y
    head = ⊎_elim (λ q. q) (λ p. ⊎_elim (λ q. sym q) (λ q. absurd (no_turn y x (b.0 x p) (a.0 y q))) (back y (inl refl))) (there x (inl refl))

    on : (e : Edge) → IsIn e xs → IsIn e ys
    on e h = ⊎_elim (λ q. absurd (off_itself e x (q ∙ sym head) (a.0 e h))) (λ p. p) (there e (inr h))

    off : (e : Edge) → IsIn e ys → IsIn e xs
    off e h = ⊎_elim (λ q. absurd (off_itself e y (q ∙ head) (b.0 e h))) (λ p. p) (back e (inr h))

pub beyond : (xs : List (Option ℕ)) (v : ℕ) → length xs ≤ v → slice_index_or xs v None ≡ None
beyond [] v h = refl
beyond (x ∷ xs) zero h = absurd (omega arith)
beyond (x ∷ xs) (suc v) h = beyond xs v (omega arith)

abbrev pub Below : ℕ → List ℕ → Type 0
Below n [] = Unit {0}
Below n (v ∷ vs) = (v < n) × Below n vs

pub below : (n : ℕ) (vs : List ℕ) (v : ℕ) → Below n vs → IsIn v vs → v < n
below n [] v b h = absurd h
below n (x ∷ vs) v b (inl q) = let l = b.0 in omega arith
below n (x ∷ vs) v b (inr h) = below n vs v b.1 h

abbrev three : List ℕ
three = 0 ∷ 1 ∷ 2 ∷ []

abbrev if_edges : List Edge
if_edges = edge 0 1 ∷ edge 0 3 ∷ edge 1 2 ∷ edge 3 2 ∷ []

abbrev if_ops : List ℕ → List TraceOp
if_ops live = Plain sum ∷ Plain test ∷ Split 6 false (edge 0 3) live ∷ Plain step ∷ Plain product ∷ Plain total ∷ []

abbrev if_join : Join
if_join = record { place = 4; block = 2; edges = edge 3 2 ∷ [] }

abbrev if_made : Made
if_made = record { edge = edge 3 2; ops = product ∷ []; clusters = 0 ∷ [] }

same_op : (op o : Op) → Plain op ≡ Plain o → o ≡ op
same_op op o q = cc

not_split : (op : Op) (p : ℕ) (y : Bool) (e : Edge) (vs : List ℕ) → Plain op ≡ Split p y e vs → ⊥
not_split op p y e vs q = cc

in_ops : (live : List ℕ) (P : Op → Type 0) → P sum → P test → P step → P product → P total → (op : Op) → IsIn (Plain op) (if_ops live) → P op
in_ops live P a b c d e op (inl q) = subst P (same_op op sum q) a
in_ops live P a b c d e op (inr (inl q)) = subst P (same_op op test q) b
in_ops live P a b c d e op (inr (inr (inl q))) = absurd (not_split op 6 false (edge 0 3) live q)
in_ops live P a b c d e op (inr (inr (inr (inl q)))) = subst P (same_op op step q) c
in_ops live P a b c d e op (inr (inr (inr (inr (inl q))))) = subst P (same_op op product q) d
in_ops live P a b c d e op (inr (inr (inr (inr (inr (inl q)))))) = subst P (same_op op total q) e
in_ops live P a b c d e op (inr (inr (inr (inr (inr (inr h)))))) = absurd h

no_across : (op : Op) (v u : ℕ) → op ≡ Across v u → (op ≡ product) ⊎ ((op ≡ sum) ⊎ ((op ≡ test) ⊎ ((op ≡ step) ⊎ (op ≡ total)))) → ⊥
no_across op v u q (inl e) = let z : Across v u ≡ product = sym q ∙ e in cc
no_across op v u q (inr (inl e)) = let z : Across v u ≡ sum = sym q ∙ e in cc
no_across op v u q (inr (inr (inl e))) = let z : Across v u ≡ test = sym q ∙ e in cc
no_across op v u q (inr (inr (inr (inl e)))) = let z : Across v u ≡ step = sym q ∙ e in cc
no_across op v u q (inr (inr (inr (inr e)))) = let z : Across v u ≡ total = sym q ∙ e in cc

abbrev with_homes : List Bank → List (Option ℕ) → MixedGraph → MixedGraph
with_homes banks homes m = record m { banks = banks; homes = record { clusters = homes } }

module _ (graph : Graph) (m : MixedGraph) (r : Replacement) (blocks : graph.blocks ≡ if_blocks) (banks : graph.banks ≡ if_banks) (from : FromGraph graph m) (trace : IsTraceOf m three r.trace) (w : IsWorked r) where
  nodes : m.nodes ≡ map Unused if_blocks
  nodes = from.blocks.nodes ∙ ap (map Unused) blocks

  banks_are : m.banks ≡ if_banks
  banks_are = from.blocks.banks ∙ banks

  origins : m.origins ≡ None ∷ None ∷ None ∷ None ∷ []
  origins = from.origins ∙ ap (λ bs. replicate (length bs) None) blocks

  edges_are : trace.edges ≡ if_edges
  edges_are =
      let all = block_edges_are m if_blocks nodes from.blocks.regions in
      same_lists trace.edges if_edges trace.all_edges.ascending all.ascending (λ e h. (all.exact e).1 ((trace.all_edges.exact e).0 h)) (λ e h. (trace.all_edges.exact e).1 ((all.exact e).0 h))

  ops_are : r.trace.ops ≡ if_ops (trace.live 3)
  ops_are = trace.ops ∙ ap (λ ns. trace_ops (record m { nodes = ns }) trace.live three) nodes

  fixed_long : length r.trace.fixed ≡ 6
  fixed_long =
      ap length trace.fixed
      ∙ ap (λ ns. length (trace_fixed (record m { nodes = ns }) trace.live three)) nodes
      ∙ ap (λ os. length (trace_fixed (record m { nodes = map Unused if_blocks; origins = os }) trace.live three)) origins

  joins_are : r.trace.joins ≡ if_join ∷ []
  joins_are =
      trace.joins
      ∙ ap (λ es. trace_joins m trace.live es three) edges_are
      ∙ ap (λ ns. trace_joins (record m { nodes = ns }) trace.live if_edges three) nodes

  ops_long : length r.trace.ops ≡ 6
  ops_long = ap length ops_are

  joins_long : length r.trace.joins ≡ 1
  joins_long = ap length joins_are

  made_long : length r.made ≡ 1
  made_long = ap length w.made

  traced : (P : Op → Type 0) → P sum → P test → P step → P product → P total → (op : Op) → IsIn (Plain op) r.trace.ops → P op
  traced P a b c d e op h = in_ops (trace.live 3) P a b c d e op (subst (IsIn (Plain op)) ops_are h)

  made_is : (x : Made) → IsIn x r.made → if_made ≡ x
  made_is x h = by (subst (IsIn x) w.made h)
    where
      by : IsIn x (if_made ∷ []) → if_made ≡ x
      by (inl q) = sym q
      by (inr q) = absurd q

  joined : (j : Join) → IsIn j r.trace.joins → if_join ≡ j
  joined j h = by (subst (IsIn j) joins_are h)
    where
      by : IsIn j (if_join ∷ []) → if_join ≡ j
      by (inl q) = sym q
      by (inr q) = absurd q

  in_product : (x : Made) (op : Op) → IsIn x r.made → IsIn op x.ops → product ≡ op
  in_product x op h i = by (subst (λ (z : Made). IsIn op z.ops) (sym (made_is x h)) i)
    where
      by : IsIn op (product ∷ []) → product ≡ op
      by (inl q) = sym q
      by (inr q) = absurd q

  trace_fits : TraceFits m r
  trace_fits = record {
    can = subst (CanTrace m) (sym trace.blocks_are) (if_traces graph blocks m from);
    plain = r.trace;
    is_trace = subst (λ bs. IsTraceOf m bs r.trace) (sym trace.blocks_are) trace;
    function = refl;
    values = refl;
    arrays = refl;
    splits = refl;
    join_blocks = refl;
    join_edges = refl;
  }

  formed : IsFormed r.trace
  formed = record {
    fixed = fixed_long ∙ sym ops_long;
    ascend = λ i j k a b. absurd (let l = get_below r.trace.joins (i + 1) k b in let n = joins_long in omega arith);
    places = λ j h. subst (λ (z : Join). z.place ≤ length r.trace.ops) (joined j h) (let n = ops_long in omega arith);
    arrays = λ op a h i. traced (λ o. IsIn a (arrays_of o) → a < length r.trace.arrays) (λ z. absurd z) (λ z. absurd z) (λ z. absurd z) (λ z. absurd z) (λ z. absurd z) op h i;
  }

  few_values : 5 * length m.banks ≡ 35
  few_values = ap (λ bs. 5 * length bs) banks_are

  low : (vs : List ℕ) (v : ℕ) → Below 35 vs → IsIn v vs → v < 5 * length m.banks
  low vs v b h = let k = below 35 vs v b h in let n = few_values in omega arith

  names : NamesFit m r
  names = record {
    traced = λ op v h. traced (λ o. IsIn v (names_of o) → v < 5 * length m.banks) (low (1 ∷ 3 ∷ []) v (omega arith, (omega arith, tt))) (low (1 ∷ 6 ∷ []) v (omega arith, (omega arith, tt))) (low (2 ∷ 2 ∷ []) v (omega arith, (omega arith, tt))) (low (3 ∷ 1 ∷ 4 ∷ []) v (omega arith, (omega arith, (omega arith, tt)))) (low (2 ∷ 4 ∷ 5 ∷ []) v (omega arith, (omega arith, (omega arith, tt)))) op h;
    made = λ x op v h i. subst (λ o. IsIn v (names_of o) → v < 5 * length m.banks) (in_product x op h i) (low (3 ∷ 1 ∷ 4 ∷ []) v (omega arith, (omega arith, (omega arith, tt))));
    arrays = λ x op a h i. subst (λ o. IsIn a (arrays_of o) → a < length m.arrays) (in_product x op h i) (λ z. absurd z);
  }

  lists : ListsFit r
  lists = record {
    clusters = ap length w.clusters ∙ sym ops_long;
    words = ap length w.words ∙ sym ops_long;
    drains = ap length w.drains ∙ sym (ap (λ l. length (splits_of l)) ops_are);
    rejoins = ap length w.rejoins ∙ sym joins_long;
    made = λ x h. subst (λ (z : Made). length z.clusters ≡ length z.ops) (made_is x h) refl;
  }

  words : WordsFit r
  words = record {
    words = λ k h. let n = w.long in let l = below 5 (0 ∷ 0 ∷ 2 ∷ 3 ∷ 1 ∷ 4 ∷ []) k (omega arith, (omega arith, (omega arith, (omega arith, (omega arith, (omega arith, tt)))))) (subst (IsIn k) w.words h) in omega arith;
    rejoins = λ k h. let n = w.long in let l = below 5 (4 ∷ []) k (omega arith, tt) (subst (IsIn k) w.rejoins h) in omega arith;
  }

  made : MadeFits r
  made = record {
    made_where = λ x h. inr (if_join, subst (IsIn if_join) (sym joins_are) (inl refl), subst (λ (z : Made). IsIn z.edge (edge 3 2 ∷ [])) (made_is x h) (inl refl));
    made_once = λ i k x y a b q. let n = made_long in let s = get_below r.made i x a in let t = get_below r.made k y b in omega arith;
  }

  abbrev After : MixedGraph
  After = record m { homes = r.homes }

  -- the values of the product are general ones
  stands_at : (v : ℕ) → StandsOn (with_homes if_banks if_homes m) v 0 → StandsOn After v 0
  stands_at v h =
      subst (λ hs. StandsOn (with_homes m.banks hs m) v 0) (sym w.homes)
      (subst (λ bs. StandsOn (with_homes bs if_homes m) v 0) (sym banks_are) h)

  product_reads : (v : ℕ) → IsIn v (3 ∷ 1 ∷ []) → StandsOn After v 0
  product_reads v (inl q) = subst (λ z. StandsOn After z 0) (sym q) (stands_at 3 refl)
  product_reads v (inr (inl q)) = subst (λ z. StandsOn After z 0) (sym q) (stands_at 1 refl)
  product_reads v (inr (inr h)) = absurd h

  product_writes : (v : ℕ) → IsIn v (4 ∷ []) → StandsOn After v 0
  product_writes v (inl q) = subst (λ z. StandsOn After z 0) (sym q) (stands_at 4 refl)
  product_writes v (inr h) = absurd h

  product_stands : Stands After product 0
  product_stands = record { reads = product_reads; writes = product_writes; bound = λ v q. absurd (cc); first = λ e. refl }

  stand : MadeStands m r
  stand x i cluster op h o k = by i (subst (λ (z : Made). slice_get z.ops i ≡ Some op) (sym (made_is x h)) o) (subst (λ (z : Made). slice_get z.clusters i ≡ Some cluster) (sym (made_is x h)) k)
    where
      by : (i : ℕ) → slice_get (product ∷ []) i ≡ Some op → slice_get (0 ∷ []) i ≡ Some cluster → Stands After op cluster
      by zero a b = let p : product ≡ op = cc in let q : 0 ≡ cluster = cc in subst (λ z. Stands After z cluster) p (subst (Stands After product) q product_stands)
      by (suc i) a b = absurd (cc)

  no_home : (v : ℕ) → has_home m.homes.clusters v ≡ None
  no_home v =
      ⊎_elim
      (λ l. from.homes.homes v l ∙ ap (λ bs. if is_bound (record graph { blocks = bs }) v then Some 0 else None) blocks)
      (λ g. beyond m.homes.clusters v (let n = from.homes.size in omega arith))
      (cases_lt v (length graph.banks))

  homes : HomesFit m r
  homes v k h = absurd (let z : None ≡ Some k = sym (no_home v) ∙ h in cc)

  abbrev Worked : Op → Type 0
  Worked op = (op ≡ product) ⊎ ((op ≡ sum) ⊎ ((op ≡ test) ⊎ ((op ≡ step) ⊎ (op ≡ total))))

  named : (op : Op) → IsNamed r op → Worked op
  named op (in_trace h) = traced Worked (inr (inl refl)) (inr (inr (inl refl))) (inr (inr (inr (inl refl)))) (inl refl) (inr (inr (inr (inr refl)))) op h
  named op (in_made x h i) = inl (sym (in_product x op h i))

  away : AwayFits m r
  away v u h = absurd (no_across (Across v u) v u refl (named (Across v u) h))

  pub if_can : CanReplace m r
  if_can = record { trace = trace_fits; formed = formed; names = names; lists = lists; words = words; made = made; stand = stand; homes = homes; away = away }

pub if_is_replaced : IfIsReplaced
if_is_replaced graph m r blocks banks from trace w = if_can graph m r blocks banks from trace w
