-- One operation of the plain trace, and its copies and what stands for it in the clustered one.
use Rattle.std.proofs.Common.{◌≡◌, ◌⊎◌, inl, inr, ⊎_elim, refl, sym, ◌∙◌, ap, subst, Bool, true, false, not, if◌then◌else◌, nat_eq, ℕ, ◌<◌, Option, List, [], ◌∷◌, ◌++◌, map}
use Rattle.std.specs.List.{list_any, filter}
use Rattle.std.proofs.lemmas.Bool.{eqb-true, eq-eqb, true≢false}
use Rattle.vx_flow.specs.declared.graph.Edge.{Edge}
use Rattle.vx_flow.specs.declared.graph.Op.TheVariants.{Across}
use Rattle.vx_flow.specs.declared.trace.TraceOp.{TraceOp}
use Rattle.vx_flow.specs.declared.trace.TraceOp.TheVariants.{Plain}
use Rattle.vx_flow.specs.Effects.{State, Setting, IsIn}
use Rattle.vx_linear.specs.InOrder.{in_order}
use Rattle.vx_linear.proofs.InOrder.{with_value_kept, with_value_there}
use Rattle.vx_dep.specs.Delays.{reads_of, writes_of}
use Rattle.vx_bug.specs.declared.served.Served.{Served}
use Rattle.vx_bug.specs.Clusters.{general_reads}
use Rattle.vx_bug.specs.Copies.{copy_of, is_away, serve, copied_for, reads_copies, served_behind, here, renamed_op, Standing, across}
use Rattle.vx_bug.specs.Laying.{served_with}
use Rattle.vx_bug.proofs.Listing.{in_append, any_in}
use Rattle.vx_bug.proofs.Housed.{copy_is_new}
use Rattle.vx_region.specs.Beside.{SameReadsOf, Wanted, Tied, IsCopyOf}
use Rattle.vx_region.proofs.Effects.{Moved, in_orders, renamed_reads, same_reads}
use Rattle.vx_region.proofs.Lists.{different, equal, one_value, any_is_in, in_filter, in_moved, entry, served_now, general_in_reads, run_through}

abbrev pub Below : ℕ → List Served → Type 0
Below values served = (e : Served) → IsIn e served → e.value < values

pub fewer : {values : ℕ} {wants : ℕ → Type 0} {s s' : State} (more less : List Served) → ((e : Served) → IsIn e less → IsIn e more) → Tied values more wants s s' → Tied values less wants s s'
fewer more less f T = record { of_values = T.of_values; of_wanted = T.of_wanted; of_served = λ e i. T.of_served e (f e i); world = T.world }

-- a copy is made

one_copy : (values : ℕ) (served : List Served) (wants : ℕ → Type 0) (setting : Setting) (s s' : State) (v k : ℕ) → Below values served → v < values → (wants (copy_of values v k) → ⊥) → Tied values served wants s s' →
    Tied values (entry v k ∷ served) wants s (in_order setting s' (Plain (Across (copy_of values v k) v)))
one_copy values served wants setting s s' v k below b free T = record {
  of_values = λ u m. with_value_kept s' (copy_of values v k) u (s'.values v) (different u (copy_of values v k) (λ e. copy_is_new values u v k m e)) ∙ T.of_values u m;
  of_wanted = λ u w. with_value_kept s' (copy_of values v k) u (s'.values v) (different u (copy_of values v k) (λ e. free (subst wants e w))) ∙ T.of_wanted u w;
  of_served = λ e m. ⊎_elim (λ q. made e q) (λ i. old e i (nat_eq (copy_of values e.value e.cluster) (copy_of values v k)) refl) m;
  world = record { arrays = T.world.arrays; input = T.world.input; out = T.world.out };
}
  where
    new : State
    new = in_order setting s' (Plain (Across (copy_of values v k) v))

    made : (e : Served) → e ≡ entry v k → new.values (copy_of values e.value e.cluster) ≡ s.values e.value
    made e q = subst (λ (d : Served). new.values (copy_of values d.value d.cluster) ≡ s.values d.value) (sym q) (with_value_there s' (copy_of values v k) (copy_of values v k) (s'.values v) (equal (copy_of values v k) (copy_of values v k) refl) ∙ T.of_values v b)

    old : (e : Served) → IsIn e served → (x : Bool) → nat_eq (copy_of values e.value e.cluster) (copy_of values v k) ≡ x → new.values (copy_of values e.value e.cluster) ≡ s.values e.value
    old e i true q =
        let p : copy_of values e.value e.cluster ≡ copy_of values v k = eqb-true (copy_of values e.value e.cluster) (copy_of values v k) q in
        with_value_there s' (copy_of values v k) (copy_of values e.value e.cluster) (s'.values v) (equal (copy_of values e.value e.cluster) (copy_of values v k) p)
        ∙ T.of_values v b ∙ ap s.values (sym (one_value values e.value v e.cluster k (below e i) b p))
    old e i false q = with_value_kept s' (copy_of values v k) (copy_of values e.value e.cluster) (s'.values v) (different (copy_of values e.value e.cluster) (copy_of values v k) (λ p. not_both p)) ∙ T.of_served e i
      where
        not_both : copy_of values e.value e.cluster ≡ copy_of values v k → ⊥
        not_both p = true≢false (sym (same_test (copy_of values e.value e.cluster) (copy_of values v k) p) ∙ q)
          where
            same_test : (m n : ℕ) → m ≡ n → nat_eq m n ≡ true
            same_test m n p = eq-eqb m n p

abbrev pub copying : (values k : ℕ) → List ℕ → List TraceOp
copying values k vs = map (λ (s : Standing). s.op) (map (across values k) vs)

copies : (values : ℕ) (served : List Served) (wants : ℕ → Type 0) (setting : Setting) (s s' : State) (k : ℕ) (vs : List ℕ) → Below values served → ((v : ℕ) → IsIn v vs → v < values) → ((v : ℕ) → IsIn v vs → wants (copy_of values v k) → ⊥) → Tied values served wants s s' →
    Tied values (serve k vs ++ served) wants s (run_through setting s' (copying values k vs))
copies values served wants setting s s' k [] below b free T = T
copies values served wants setting s s' k (v ∷ vs) below b free T =
    let one : Tied values (entry v k ∷ served) wants s (in_order setting s' (Plain (Across (copy_of values v k) v))) = one_copy values served wants setting s s' v k below (b v (inl refl)) (free v (inl refl)) T in
    let rest : Tied values (serve k vs ++ entry v k ∷ served) wants s (run_through setting s' (copying values k (v ∷ vs))) =
    copies values (entry v k ∷ served) wants setting s (in_order setting s' (Plain (Across (copy_of values v k) v))) k vs
    (λ e m. ⊎_elim (λ q. subst (λ (d : Served). d.value < values) (sym q) (b v (inl refl))) (λ i. below e i) m)
    (λ u i. b u (inr i)) (λ u i. free u (inr i)) one in
    fewer (serve k vs ++ entry v k ∷ served) (serve k (v ∷ vs) ++ served) (λ e m. in_moved e (entry v k) (serve k vs) served m) rest

serve_below : (values k : ℕ) (vs : List ℕ) → ((v : ℕ) → IsIn v vs → v < values) → Below values (serve k vs)
serve_below values k [] b e m = absurd m
serve_below values k (v ∷ vs) b e m = ⊎_elim (λ q. subst (λ (d : Served). d.value < values) (sym q) (b v (inl refl))) (λ i. serve_below values k vs (λ u j. b u (inr j)) e i) m

with_below : (values k : ℕ) (vs : List ℕ) (served : List Served) → ((v : ℕ) → IsIn v vs → v < values) → Below values served → Below values (serve k vs ++ served)
with_below values k vs served b below e m = ⊎_elim (λ i. serve_below values k vs b e i) (λ i. below e i) (in_append e (serve k vs) served m)

-- the operation

abbrev left_over : TraceOp → List Served → List Served
left_over op served = filter (λ (s : Served). not (list_any (nat_eq s.value) (writes_of op))) served

not_true : (b : Bool) → not b ≡ true → b ≡ false
not_true true e = let f : false ≡ true = e in absurd cc
not_true false e = refl

module _ (values : ℕ) (served : List Served) (lives : Edge → List ℕ → ℕ → Type 0) (end : ℕ → Type 0) (setting : Setting) (s s' : State) (op op' : TraceOp) (ops : List TraceOp) (below : Below values served)
    (writes : (u : ℕ) → IsIn u (writes_of op) → (u < values) ⊎ IsCopyOf values op u) (T : Tied values served (Wanted lives end (op ∷ ops)) s s') (R : SameReadsOf s s' op op') where
  moved : Moved (writes_of op) s s' (in_order setting s op) (in_order setting s' op')
  moved = in_orders setting s s' op op' R T.world

  carry : (u : ℕ) → (list_any (nat_eq u) (writes_of op) ≡ false → s'.values u ≡ s.values u) → (in_order setting s' op').values u ≡ (in_order setting s op).values u
  carry u h = by (list_any (nat_eq u) (writes_of op)) refl
    where
      by : (b : Bool) → list_any (nat_eq u) (writes_of op) ≡ b → (in_order setting s' op').values u ≡ (in_order setting s op).values u
      by true e = moved.same u e
      by false e = moved.kept_there u e ∙ h e ∙ sym (moved.kept u e)

  unwritten : (u : ℕ) → list_any (nat_eq u) (writes_of op) ≡ false → IsIn u (writes_of op) → ⊥
  unwritten u e i = true≢false (sym (any_in u (writes_of op) i) ∙ e)

  copied_now : (u w : ℕ) → op ≡ Plain (Across u w) → (in_order setting s op).values u ≡ s.values w
  copied_now u w e = subst (λ o. (in_order setting s o).values u ≡ s.values w) (sym e) (with_value_there s u u (s.values w) (equal u u refl))

  still : (e : Served) → IsIn e served → list_any (nat_eq e.value) (writes_of op) ≡ false → (in_order setting s' op').values (copy_of values e.value e.cluster) ≡ (in_order setting s op).values e.value
  still e i n = by (list_any (nat_eq (copy_of values e.value e.cluster)) (writes_of op)) refl
    where
      made : (list_any (nat_eq (copy_of values e.value e.cluster)) (writes_of op)) ≡ true → IsCopyOf values op (copy_of values e.value e.cluster) → (in_order setting s' op').values (copy_of values e.value e.cluster) ≡ (in_order setting s op).values e.value
      made q c = moved.same (copy_of values e.value e.cluster) q ∙ copied_now (copy_of values e.value e.cluster) c.value c.is
          ∙ ap s.values (sym (one_value values e.value c.value e.cluster c.cluster (below e i) c.below c.number)) ∙ sym (moved.kept e.value n)

      by : (b : Bool) → list_any (nat_eq (copy_of values e.value e.cluster)) (writes_of op) ≡ b → (in_order setting s' op').values (copy_of values e.value e.cluster) ≡ (in_order setting s op).values e.value
      by true q = ⊎_elim (λ l. absurd (copy_is_new values (copy_of values e.value e.cluster) e.value e.cluster l refl)) (λ c. made q c) (writes (copy_of values e.value e.cluster) (any_is_in (copy_of values e.value e.cluster) (writes_of op) q))
      by false q = moved.kept_there (copy_of values e.value e.cluster) q ∙ T.of_served e i ∙ sym (moved.kept e.value n)

  executed : Tied values (left_over op served) (Wanted lives end ops) (in_order setting s op) (in_order setting s' op')
  executed = record {
    of_values = λ u b. carry u (λ e. T.of_values u b);
    of_wanted = λ u w. carry u (λ e. T.of_wanted u (inr (inr (unwritten u e, w))));
    of_served = λ e m. let p = in_filter (λ (d : Served). not (list_any (nat_eq d.value) (writes_of op))) e served m in still e p.0 (not_true (list_any (nat_eq e.value) (writes_of op)) p.1);
    world = moved.world;
  }

-- all of it

abbrev pub copied_here : (homes : ℕ → Option ℕ) → List Served → TraceOp → (k : ℕ) → (f : Option ℕ) → List ℕ
copied_here homes now op k f = if reads_copies f op then copied_for homes k now (general_reads op) else []

abbrev pub op_here : (values : ℕ) → (homes : ℕ → Option ℕ) → TraceOp → (k : ℕ) → (f : Option ℕ) → TraceOp
op_here values homes op k f = if reads_copies f op then renamed_op (here values homes k) op else op

pub record Stepped (values : ℕ) (homes : ℕ → Option ℕ) (now : List Served) (lives : Edge → List ℕ → ℕ → Type 0) (end : ℕ → Type 0) (setting : Setting) (s s' : State) (op : TraceOp) (ops : List TraceOp) (k : ℕ) (f : Option ℕ) : Type 0 where
  pub below : Below values (served_behind homes now op k f)
  pub tied : Tied values (served_with homes now op k f) (Wanted lives end (op ∷ ops)) s (run_through setting s' (copying values k (copied_here homes now op k f)))
  pub reads : SameReadsOf s (run_through setting s' (copying values k (copied_here homes now op k f))) op (op_here values homes op k f)
  pub behind : Tied values (served_behind homes now op k f) (Wanted lives end ops) (in_order setting s op) (in_order setting (run_through setting s' (copying values k (copied_here homes now op k f))) (op_here values homes op k f))

served_is : (homes : ℕ → Option ℕ) (now : List Served) (op : TraceOp) (k : ℕ) (b : Bool) → serve k (if b then copied_for homes k now (general_reads op) else []) ++ now ≡ (if b then serve k (copied_for homes k now (general_reads op)) ++ now else now)
served_is homes now op k true = refl
served_is homes now op k false = refl

reads_one : (values : ℕ) (homes : ℕ → Option ℕ) (now : List Served) (s s1 : State) (op : TraceOp) (k : ℕ) (b : Bool) → ((v : ℕ) → IsIn v (reads_of op) → s1.values v ≡ s.values v) →
    ((e : Served) → IsIn e (if b then serve k (copied_for homes k now (general_reads op)) ++ now else now) → s1.values (copy_of values e.value e.cluster) ≡ s.values e.value) →
    SameReadsOf s s1 op (if b then renamed_op (here values homes k) op else op)
reads_one values homes now s s1 op k false own copied = same_reads s s1 op own
reads_one values homes now s s1 op k true own copied = renamed_reads s s1 (here values homes k) op (λ v i. by v i (is_away (homes v) k) refl) own
  where
    by : (v : ℕ) → IsIn v (general_reads op) → (b : Bool) → is_away (homes v) k ≡ b → s1.values (here values homes k v) ≡ s.values v
    by v i true e = ap (λ b. s1.values (if b then copy_of values v k else v)) e ∙ copied (entry v k) (served_now homes k now (general_reads op) v i e)
    by v i false e = ap (λ b. s1.values (if b then copy_of values v k else v)) e ∙ own v (general_in_reads op v i)

pub stepped : (values : ℕ) (homes : ℕ → Option ℕ) (now : List Served) (lives : Edge → List ℕ → ℕ → Type 0) (end : ℕ → Type 0) (setting : Setting) (s s' : State) (op : TraceOp) (ops : List TraceOp) (k : ℕ) (f : Option ℕ) →
    Below values now → ((v : ℕ) → IsIn v (copied_here homes now op k f) → v < values) → ((u : ℕ) → IsIn u (writes_of op) → (u < values) ⊎ IsCopyOf values op u) →
    ((v : ℕ) → IsIn v (copied_here homes now op k f) → Wanted lives end (op ∷ ops) (copy_of values v k) → ⊥) → Tied values now (Wanted lives end (op ∷ ops)) s s' → Stepped values homes now lives end setting s s' op ops k f
stepped values homes now lives end setting s s' op ops k f below small writes free T =
    let vs : List ℕ = copied_here homes now op k f in
    let s1 : State = run_through setting s' (copying values k vs) in
    let made : Tied values (serve k vs ++ now) (Wanted lives end (op ∷ ops)) s s1 = copies values now (Wanted lives end (op ∷ ops)) setting s s' k vs below small free T in
    let e : serve k vs ++ now ≡ served_with homes now op k f = served_is homes now op k (reads_copies f op) in
    let with_them : Tied values (served_with homes now op k f) (Wanted lives end (op ∷ ops)) s s1 = subst (λ x. Tied values x (Wanted lives end (op ∷ ops)) s s1) e made in
    let low : Below values (served_with homes now op k f) = subst (λ x. Below values x) e (with_below values k vs now small below) in
    let R : SameReadsOf s s1 op (op_here values homes op k f) = reads_one values homes now s s1 op k (reads_copies f op) (λ v i. with_them.of_wanted v (inl i)) with_them.of_served in
    record {
      below = λ d m. low d (in_filter (λ (x : Served). not (list_any (nat_eq x.value) (writes_of op))) d (served_with homes now op k f) m).0;
      tied = with_them;
      reads = R;
      behind = executed values (served_with homes now op k f) lives end setting s s1 op (op_here values homes op k f) ops low writes with_them R;
    }
