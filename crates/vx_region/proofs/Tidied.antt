-- Where a graph is tidy no copy is wanted at an operation of a block that was not made, so that copies can be made there.
use Rattle.std.proofs.Common.{◌≡◌, ◌⊎◌, inl, inr, ⊎_elim, refl, sym, ◌∙◌, ap, subst, arith, Bool, true, false, if◌then◌else◌, nat_eq, ℕ, zero, suc, ◌+◌, ◌<◌, ◌≤◌, Option, Some, None, List, [], ◌∷◌, ◌++◌, length, map, drop, slice_get, slice_index_or}
use Rattle.std.specs.Prelude.{nat_lt, replicate}
use Rattle.std.proofs.lemmas.Bool.{ltb-true}
use Rattle.std.proofs.lemmas.List.{append_assoc}
use Rattle.vx_flow.specs.declared.graph.Exit.{Exit}
use Rattle.vx_flow.specs.declared.graph.Exit.TheVariants.{Goto, Split as Branches, Call, Return, Ends}
use Rattle.vx_flow.specs.declared.graph.Op.{Op}
use Rattle.vx_flow.specs.declared.graph.Edge.{Edge}
use Rattle.vx_flow.specs.Walk.{edge}
use Rattle.vx_flow.specs.declared.trace.Trace.{Trace}
use Rattle.vx_flow.specs.declared.trace.TraceOp.{TraceOp}
use Rattle.vx_flow.specs.declared.trace.TraceOp.TheVariants.{Plain, Split}
use Rattle.vx_flow.specs.Effects.{IsIn, writes}
use Rattle.vx_dep.specs.Delays.{writes_of}
use Rattle.vx_mixed.specs.declared.region.Origin.{Origin}
use Rattle.vx_mixed.specs.declared.mixed.MixedGraph.{MixedGraph}
use Rattle.vx_mixed.specs.Alive.{Alive, AtEnd}
use Rattle.vx_mixed.specs.Settled.{is_copy, made_at_split, block, Tidy}
use Rattle.vx_mixed.specs.TraceOf.{block_at, split_behind, block_ops, trace_ops, clusters_of, trace_fixed, IsTraceOf}
use Rattle.vx_mixed.specs.TraceItems.{plain_items}
use Rattle.vx_mixed.specs.Next.{last_of, exit_in}
use Rattle.vx_mixed.proofs.Alive.{live_start}
use Rattle.vx_mixed.proofs.PathOf.{Ways, ways_behind, path_of}
use Rattle.vx_bug.specs.Clusters.{general_reads}
use Rattle.vx_bug.specs.CanAssign.{ValuesAreThere, IsWellFormed}
use Rattle.vx_region.specs.Beside.{Wanted, IsCopyOf}
use Rattle.vx_region.specs.Ways.{live_in, TracesTidily}
use Rattle.vx_region.proofs.Runs.{length_two}

-- places in two lists

pub data InPart {A : Type 0} (xs ys : List A) (i : ℕ) (x : A) : Type 0 where
  in_first : i < length xs → slice_get xs i ≡ Some x → InPart xs ys i x
  in_second : (j : ℕ) → i ≡ length xs + j → slice_get ys j ≡ Some x → InPart xs ys i x

pub in_part : {A : Type 0} (xs ys : List A) (i : ℕ) (x : A) → slice_get (xs ++ ys) i ≡ Some x → InPart xs ys i x
in_part [] ys i x e = in_second i (omega arith) e
in_part (z ∷ zs) ys zero x e = in_first (omega arith) e
in_part (z ∷ zs) ys (suc i) x e = by (in_part zs ys i x e)
  where
    by : InPart zs ys i x → InPart (z ∷ zs) ys (suc i) x
    by (in_first l q) = in_first (let g : suc i < suc (length zs) = omega (arith, l) in g) q
    by (in_second j p q) = in_second j (let g : suc i ≡ suc (length zs) + j = omega (arith, p) in g) q

pub entry_first : (xs ys : List (Option ℕ)) (i : ℕ) → i < length xs → slice_index_or (xs ++ ys) i None ≡ slice_index_or xs i None
entry_first [] ys i l = absurd (omega (arith, l))
entry_first (x ∷ xs) ys zero l = refl
entry_first (x ∷ xs) ys (suc i) l = entry_first xs ys i (let g : suc i < suc (length xs) = l in omega (arith, g))

pub entry_second : (xs ys : List (Option ℕ)) (j : ℕ) → slice_index_or (xs ++ ys) (length xs + j) None ≡ slice_index_or ys j None
entry_second [] ys j = let e : 0 + j ≡ j = omega arith in ap (λ n. slice_index_or ys n None) e
entry_second (x ∷ xs) ys j = let e : suc (length xs) + j ≡ suc (length xs + j) = omega arith in ap (λ n. slice_index_or (x ∷ (xs ++ ys)) n None) e ∙ entry_second xs ys j

drop_second : {A : Type 0} (xs ys : List A) (j : ℕ) → drop (length xs + j) (xs ++ ys) ≡ drop j ys
drop_second [] ys j = let e : 0 + j ≡ j = omega arith in ap (λ n. drop n ys) e
drop_second (x ∷ xs) ys j = let e : suc (length xs) + j ≡ suc (length xs + j) = omega arith in ap (λ n. drop n (x ∷ (xs ++ ys))) e ∙ drop_second xs ys j

some_of_copied : (clusters : List ℕ) (i : ℕ) → i < length clusters → slice_index_or (map Some clusters) i None ≡ None → ⊥
some_of_copied [] i l e = omega (arith, l)
some_of_copied (c ∷ cs) zero l e = let h : Some c ≡ None = e in absurd cc
some_of_copied (c ∷ cs) (suc i) l e = some_of_copied cs i (let g : suc i < suc (length cs) = l in omega (arith, g)) e

pub length_map : {A B : Type 0} (f : A → B) (xs : List A) → length (map f xs) ≡ length xs
length_map f [] = refl
length_map f (x ∷ xs) = ap suc (length_map f xs)

pub length_none : (n : ℕ) (o : Option ℕ) → length (replicate n o) ≡ n
length_none zero o = refl
length_none (suc n) o = ap suc (length_none n o)

plain_at : (ops : List Op) (more : List TraceOp) (i : ℕ) (op : TraceOp) → i < length ops → slice_get (map Plain ops ++ more) i ≡ Some op → (o : Op) × IsIn o ops × (op ≡ Plain o)
plain_at [] more i op l e = absurd (omega (arith, l))
plain_at (o ∷ os) more zero op l e = let q : op ≡ Plain o = cc in (o, inl refl, q)
plain_at (o ∷ os) more (suc i) op l e = let p = plain_at os more i op (let g : suc i < suc (length os) = l in omega (arith, g)) e in (p.0, inr p.1, p.2)

split_names : (f : TraceOp → List ℕ) → ((p : ℕ) (y : Bool) (e : Edge) (l : List ℕ) → f (Split p y e l) ≡ []) → (live : ℕ → List ℕ) (b : ℕ) (x : Exit) (bs : List ℕ) (j : ℕ) (op : TraceOp) (v : ℕ) → slice_get (split_behind live b x bs) j ≡ Some op → IsIn v (f op) → ⊥
split_names f none live b x bs j op v e h = at_exit x bs (in_list (split_behind live b x bs) j op e)
  where
    in_list : (xs : List TraceOp) (j : ℕ) (op : TraceOp) → slice_get xs j ≡ Some op → IsIn op xs
    in_list [] j op e = absurd cc
    in_list (x ∷ xs) zero op e = let q : op ≡ x = cc in inl q
    in_list (x ∷ xs) (suc j) op e = inr (in_list xs j op e)

    one : (o : TraceOp) → (f o ≡ []) → op ≡ o → ⊥
    one o n q = subst (λ vs. IsIn v vs) (ap f q ∙ n) h

    two : (p c d : ℕ) (t : Bool) → IsIn op (if t then Split p false (edge b d) (live d) ∷ [] else Split p true (edge b c) (live c) ∷ []) → ⊥
    two p c d true m = ⊎_elim (λ q. one (Split p false (edge b d) (live d)) (none p false (edge b d) (live d)) q) (λ z. z) m
    two p c d false m = ⊎_elim (λ q. one (Split p true (edge b c) (live c)) (none p true (edge b c) (live c)) q) (λ z. z) m

    at_exit : (x : Exit) (bs : List ℕ) → IsIn op (split_behind live b x bs) → ⊥
    at_exit x [] m = m
    at_exit (Goto c) (d ∷ bs) m = m
    at_exit (Branches p y z) (d ∷ bs) m = two p y z (nat_eq y d) m
    at_exit (Call g args result next) (d ∷ bs) m = m
    at_exit (Return y) (d ∷ bs) m = m
    at_exit (Ends k) (d ∷ bs) m = m

module _ (m : MixedGraph) (meet : ℕ → ℕ → Bool) (live : ℕ → List ℕ) where
  -- what is asked of blocks, besides
  pub record NamesTidily (b : ℕ) : Type 0 where
    pub made : (origin : Origin) → slice_get m.origins b ≡ Some (Some origin) → length origin.clusters ≡ length (block_at m b).ops
    pub copies : (o : Op) (u : ℕ) → IsIn o (block_at m b).ops → IsIn u (writes o) → (u < length m.banks) ⊎ IsCopyOf (length m.banks) (Plain o) u
    pub others : ((origin : Origin) → slice_get m.origins b ≡ Some (Some origin) → ⊥) → (o : Op) (u : ℕ) → IsIn o (block_at m b).ops → IsIn u (writes o) → u < length m.banks

  module _ (exit : Exit) where
    abbrev Beyond : List TraceOp → ℕ → Type 0
    Beyond ops = Wanted (live_in m) (AtEnd m exit) ops

    alive_of : (ops : List TraceOp) (v : ℕ) → Beyond ops v → Alive m (plain_items ops) v (AtEnd m exit v)
    alive_of [] v h = h
    alive_of (Plain op ∷ ops) v h = ⊎_elim (λ i. inl i) (λ r. ⊎_elim (λ o. absurd o) (λ (p : (IsIn v (writes op) → ⊥) × Beyond ops v). inr (inr (p.0, alive_of ops v p.1))) r) h
    alive_of (Split p y edge names ∷ ops) v h = ⊎_elim (λ i. inl i) (λ r. ⊎_elim (λ o. inr (inl o)) (λ (p : (⊥ → ⊥) × Beyond ops v). inr (inr (p.0, alive_of ops v p.1))) r) h

    -- what is wanted at a place, and not written above it, is wanted above
    wanted_above : (i : ℕ) (ops : List TraceOp) (u : ℕ) → ((j : ℕ) (op : TraceOp) → j < i → slice_get ops j ≡ Some op → IsIn u (writes_of op) → ⊥) → Beyond (drop i ops) u → Beyond ops u
    wanted_above zero ops u none h = h
    wanted_above (suc i) [] u none h = h
    wanted_above (suc i) (op ∷ ops) u none h = inr (inr ((λ w. none 0 op (omega arith) refl w), wanted_above i ops u (λ j o l e w. none (suc j) o (omega (arith, l)) e w) h))

  copy_there : (u : ℕ) → length m.banks ≤ u → is_copy (length m.banks) u ≡ true
  copy_there u l = by (nat_lt u (length m.banks)) refl
    where
      by : (c : Bool) → nat_lt u (length m.banks) ≡ c → (if c then false else true) ≡ true
      by true e = absurd (let g : u < length m.banks = ltb-true u (length m.banks) e in omega (arith, g, l))
      by false e = refl

  clusters_long : (b : ℕ) → NamesTidily b → (o : Option (Option Origin)) → slice_get m.origins b ≡ o → length (clusters_of (length (block_at m b).ops) o) ≡ length (block_at m b).ops
  clusters_long b n None e = length_none (length (block_at m b).ops) None
  clusters_long b n (Some None) e = length_none (length (block_at m b).ops) None
  clusters_long b n (Some (Some origin)) e = length_map Some origin.clusters ∙ n.made origin e

  -- in the first of these blocks
  no_copy : (b : ℕ) (bs : List ℕ) → Ways m meet live (b ∷ bs) → Tidy m → NamesTidily b → (i u : ℕ) → i < length (block_at m b).ops → made_at_split (slice_get m.origins b) ≡ false → ((origin : Origin) → slice_get m.origins b ≡ Some (Some origin) → ⊥) → length m.banks ≤ u →
      Wanted (live_in m) (AtEnd m (exit_in (slice_get m.nodes (last_of (b ∷ bs))))) (drop i (trace_ops m live (b ∷ bs))) u → ⊥
  no_copy b bs w T n i u l q none g h =
      let exit : Exit = exit_in (slice_get m.nodes (last_of (b ∷ bs))) in
      let ops : List Op = (block_at m b).ops in
      let split : List TraceOp = split_behind live b (block_at m b).exit bs in
      let whole : Wanted (live_in m) (AtEnd m exit) (trace_ops m live (b ∷ bs)) u = wanted_above exit i (trace_ops m live (b ∷ bs)) u (λ j op k e x.
      let p = plain_at ops (split ++ trace_ops m live bs) j op (omega (arith, l, k)) (ap (λ z. slice_get z j) (sym (append_assoc (map Plain ops) split (trace_ops m live bs))) ∙ e) in
      let r : u < length m.banks = n.others none p.0 u p.1 (subst (λ z. IsIn u (writes_of z)) p.2 x) in omega (arith, r, g)) h in
      let k = w.unused b (inl refl) in
      T b u (block k.1) q (copy_there u g) (live_start m meet (path_of m meet live b bs w) u (alive_of exit (trace_ops m live (b ∷ bs)) u whole))

  in_block : (b : ℕ) (bs : List ℕ) → Ways m meet live (b ∷ bs) → Tidy m → NamesTidily b → (i u : ℕ) → i < length (block_at m b).ops →
      (o : Option (Option Origin)) → slice_get m.origins b ≡ o → slice_index_or (clusters_of (length (block_at m b).ops) o) i None ≡ None → length m.banks ≤ u →
      Wanted (live_in m) (AtEnd m (exit_in (slice_get m.nodes (last_of (b ∷ bs))))) (drop i (trace_ops m live (b ∷ bs))) u → ⊥
  in_block b bs w T n i u l (Some (Some origin)) e f g h = some_of_copied origin.clusters i (let q = n.made origin e in omega (arith, q, l)) f
  in_block b bs w T n i u l None e f g h = no_copy b bs w T n i u l (ap made_at_split e) (λ origin q. let z : None ≡ Some (Some origin) = sym e ∙ q in absurd cc) g h
  in_block b bs w T n i u l (Some None) e f g h = no_copy b bs w T n i u l (ap made_at_split e) (λ origin q. let z : Some None ≡ Some (Some origin) = sym e ∙ q in absurd cc) g h

  one_block : (b : ℕ) (bs : List ℕ) → Ways m meet live (b ∷ bs) → Tidy m → NamesTidily b → (i : ℕ) (op : TraceOp) (v u : ℕ) →
      slice_get (trace_ops m live (b ∷ bs)) i ≡ Some op → slice_index_or (trace_fixed m live (b ∷ bs)) i None ≡ None → IsIn v (general_reads op) → length m.banks ≤ u →
      Wanted (live_in m) (AtEnd m (exit_in (slice_get m.nodes (last_of (b ∷ bs))))) (drop i (trace_ops m live (b ∷ bs))) u →
      ((j : ℕ) → slice_get (trace_ops m live bs) j ≡ Some op → slice_index_or (trace_fixed m live bs) j None ≡ None → Wanted (live_in m) (AtEnd m (exit_in (slice_get m.nodes (last_of (b ∷ bs))))) (drop j (trace_ops m live bs)) u → ⊥) → ⊥
  one_block b bs w T n i op v u at f r g h more = by (in_part (block_ops m live b bs) (trace_ops m live bs) i op at)
    where
      plains : List TraceOp
      plains = map Plain (block_at m b).ops

      split : List TraceOp
      split = split_behind live b (block_at m b).exit bs

      cl : List (Option ℕ)
      cl = clusters_of (length (block_at m b).ops) (slice_get m.origins b)

      rep : List (Option ℕ)
      rep = replicate (length split) None

      fx : List (Option ℕ)
      fx = trace_fixed m live bs

      long : length cl ≡ length (block_at m b).ops
      long = clusters_long b n (slice_get m.origins b) refl

      both_long : length (cl ++ rep) ≡ length (block_ops m live b bs)
      both_long = length_two cl rep ∙ ap (λ z. length cl + z) (length_none (length split) None) ∙ ap (λ z. z + length split) (long ∙ sym (length_map Plain (block_at m b).ops)) ∙ sym (length_two plains split)

      in_plain : InPart plains split i op → ⊥
      in_plain (in_first l q) =
          let l' : i < length (block_at m b).ops = subst (λ z. i < z) (length_map Plain (block_at m b).ops) l in
          in_block b bs w T n i u l' (slice_get m.origins b) refl (sym (entry_first cl (rep ++ fx) i (subst (λ z. i < z) (sym long) l')) ∙ f) g h
      in_plain (in_second j p q) = split_names general_reads (λ p y e l. refl) live b (block_at m b).exit bs j op v q r

      by : InPart (block_ops m live b bs) (trace_ops m live bs) i op → ⊥
      by (in_first l q) = in_plain (in_part plains split i op q)
      by (in_second j p q) =
          let e : i ≡ length (cl ++ rep) + j = p ∙ ap (λ z. z + j) (sym both_long) in
          more j q
          (sym (entry_second (cl ++ rep) fx j) ∙ sym (ap (λ z. slice_index_or ((cl ++ rep) ++ fx) z None) e) ∙ ap (λ z. slice_index_or z i None) (append_assoc cl rep fx) ∙ f)
          (subst (λ z. Wanted (live_in m) (AtEnd m (exit_in (slice_get m.nodes (last_of (b ∷ bs))))) z u) (ap (λ z. drop z (trace_ops m live (b ∷ bs))) p ∙ drop_second (block_ops m live b bs) (trace_ops m live bs) j) h)

  -- of all of these blocks
  pub none_wanted : (b : ℕ) (bs : List ℕ) → Ways m meet live (b ∷ bs) → Tidy m → ((c : ℕ) → IsIn c (b ∷ bs) → NamesTidily c) → (i : ℕ) (op : TraceOp) (v u : ℕ) →
      slice_get (trace_ops m live (b ∷ bs)) i ≡ Some op → slice_index_or (trace_fixed m live (b ∷ bs)) i None ≡ None → IsIn v (general_reads op) → length m.banks ≤ u →
      Wanted (live_in m) (AtEnd m (exit_in (slice_get m.nodes (last_of (b ∷ bs))))) (drop i (trace_ops m live (b ∷ bs))) u → ⊥
  none_wanted b [] w T n i op v u at f r g h = one_block b [] w T (n b (inl refl)) i op v u at f r g h (λ j e k x. absurd cc)
  none_wanted b (c ∷ bs) w T n i op v u at f r g h = one_block b (c ∷ bs) w T (n b (inl refl)) i op v u at f r g h
      (λ j e k x. none_wanted c bs (ways_behind m meet live b c bs w) T (λ d q. n d (inr q)) j op v u e k r g x)

  -- what is written
  one_writes : (b : ℕ) (bs : List ℕ) → NamesTidily b → (i : ℕ) (op : TraceOp) (u : ℕ) → slice_get (trace_ops m live (b ∷ bs)) i ≡ Some op → IsIn u (writes_of op) →
      ((j : ℕ) → slice_get (trace_ops m live bs) j ≡ Some op → (u < length m.banks) ⊎ IsCopyOf (length m.banks) op u) → (u < length m.banks) ⊎ IsCopyOf (length m.banks) op u
  one_writes b bs n i op u at h more = by (in_part (block_ops m live b bs) (trace_ops m live bs) i op at)
    where
      ops : List Op
      ops = (block_at m b).ops

      split : List TraceOp
      split = split_behind live b (block_at m b).exit bs

      in_plain : InPart (map Plain ops) split i op → (u < length m.banks) ⊎ IsCopyOf (length m.banks) op u
      in_plain (in_first l q) =
          let p = plain_at ops (split ++ trace_ops m live bs) i op (subst (λ z. i < z) (length_map Plain ops) l) (ap (λ z. slice_get z i) (sym (append_assoc (map Plain ops) split (trace_ops m live bs))) ∙ at) in
          subst (λ z. (u < length m.banks) ⊎ IsCopyOf (length m.banks) z u) (sym p.2) (n.copies p.0 u p.1 (subst (λ z. IsIn u (writes_of z)) p.2 h))
      in_plain (in_second j p q) = absurd (split_names writes_of (λ p y e l. refl) live b (block_at m b).exit bs j op u q h)

      by : InPart (block_ops m live b bs) (trace_ops m live bs) i op → (u < length m.banks) ⊎ IsCopyOf (length m.banks) op u
      by (in_first l q) = in_plain (in_part (map Plain ops) split i op q)
      by (in_second j p q) = more j q

  pub writes_tidily : (bs : List ℕ) → ((c : ℕ) → IsIn c bs → NamesTidily c) → (i : ℕ) (op : TraceOp) (u : ℕ) → slice_get (trace_ops m live bs) i ≡ Some op → IsIn u (writes_of op) → (u < length m.banks) ⊎ IsCopyOf (length m.banks) op u
  writes_tidily [] n i op u at h = absurd cc
  writes_tidily (b ∷ bs) n i op u at h = one_writes b bs (n b (inl refl)) i op u at h (λ j e. writes_tidily bs (λ c q. n c (inr q)) j op u e h)

-- the trace of blocks of a tidy graph
pub traces_tidily : (m : MixedGraph) (meet : ℕ → ℕ → Bool) (b : ℕ) (bs : List ℕ) (t : Trace) (is : IsTraceOf m (b ∷ bs) t) → Ways m meet is.live (b ∷ bs) → Tidy m → ((c : ℕ) → IsIn c (b ∷ bs) → NamesTidily m meet is.live c) → IsWellFormed t → ValuesAreThere t →
    TracesTidily t (live_in m) (AtEnd m (exit_in (slice_get m.nodes (last_of (b ∷ bs)))))
traces_tidily m meet b bs t is w T n well there = record {
  well_formed = well;
  values_there = there;
  writes = λ i op u s h. subst (λ z. (u < z) ⊎ IsCopyOf z op u) (sym is.values) (writes_tidily m meet is.live (b ∷ bs) n i op u (ap (λ z. slice_get z i) (sym is.ops) ∙ s) h);
  none_wanted = λ i op v u s f r g h. none_wanted m meet is.live b bs w T n i op v u
      (ap (λ z. slice_get z i) (sym is.ops) ∙ s)
      (ap (λ z. slice_index_or z i None) (sym is.fixed) ∙ f)
      r
      (subst (λ z. z ≤ u) is.values g)
      (subst (λ z. Wanted (live_in m) (AtEnd m (exit_in (slice_get m.nodes (last_of (b ∷ bs))))) (drop i z) u) is.ops h);
}
