-- What is wanted of a trace is wanted of the trace with copies: the reverse of `nothing_new_at`.
use Rattle.std.proofs.Common.{◌≡◌, ◌⊎◌, inl, inr, ⊎_elim, refl, sym, ◌∙◌, ap, subst, arith, Bool, true, false, not, if◌then◌else◌, nat_eq, ℕ, zero, suc, ◌+◌, Option, List, [], ◌∷◌, ◌++◌, length, map, drop}
use Rattle.std.specs.List.{list_any}
use Rattle.vx_flow.specs.declared.graph.Edge.{Edge}
use Rattle.vx_flow.specs.declared.graph.Op.TheVariants.{Select, Across, Base}
use Rattle.vx_flow.specs.declared.trace.TraceOp.{TraceOp}
use Rattle.vx_flow.specs.declared.trace.TraceOp.TheVariants.{Plain, Split}
use Rattle.vx_flow.specs.declared.trace.Trace.{Trace}
use Rattle.vx_flow.specs.Effects.{IsIn}
use Rattle.vx_linear.specs.Followed.{is_join}
use Rattle.vx_linear.specs.InOrder.{IsEntrance}
use Rattle.vx_dep.specs.Delays.{reads_of, writes_of}
use Rattle.vx_mixed.proofs.Alike.{in_or}
use Rattle.vx_bug.specs.declared.served.Served.{Served}
use Rattle.vx_bug.specs.Clusters.{general_reads, is_across}
use Rattle.vx_bug.specs.Copies.{Standing, copy_of, is_away, serve, copied_for, reads_copies, served_behind, here, renamed_op, pieces_from, pieces_of, joined}
use Rattle.vx_bug.specs.Laying.{served_at, served_with}
use Rattle.vx_bug.proofs.Listing.{in_append}
use Rattle.vx_region.specs.Beside.{Off, Wanted, copied_from, CopiesFit}
use Rattle.vx_region.proofs.Fresh.{renamed_writes}
use Rattle.vx_region.proofs.Renamed.{values_renamed}
use Rattle.vx_region.proofs.Lists.{entry, in_filter, covered}
use Rattle.vx_region.proofs.CopySteps.{copying, copied_here, op_here}
use Rattle.vx_region.proofs.Runs.{op_of, ops_are, fits_tail}

-- a value that keeps its name is read
kept : (to : ℕ → ℕ) (vs : List ℕ) (v : ℕ) → to v ≡ v → IsIn v vs → IsIn v (map to vs)
kept to [] v e h = absurd h
kept to (w ∷ vs) v e (inl q) = inl (sym e ∙ ap to q)
kept to (w ∷ vs) v e (inr h) = inr (kept to vs v e h)

general_kept : (to : ℕ → ℕ) (op : TraceOp) (v : ℕ) → is_across op ≡ false → to v ≡ v → IsIn v (general_reads op) → IsIn v (general_reads (renamed_op to op))
general_kept to op v n e h = subst (IsIn v) (sym (values_renamed to op n)) (kept to (general_reads op) v e h)

kept_read : (to : ℕ → ℕ) (op : TraceOp) (v : ℕ) → to v ≡ v → IsIn v (reads_of op) → IsIn v (reads_of (renamed_op to op))
kept_read to (Plain (Select w p a b)) v e (inl q) = inl q
kept_read to (Plain (Select w p a b)) v e (inr i) = inr (general_kept to (Plain (Select w p a b)) v refl e i)
kept_read to (Plain (Across w u)) v e h = h
kept_read to (Plain op) v e h = general_kept to (Plain op) v refl e h
kept_read to (Split p y edge live) v e h = h

-- a value that is read is a general one, or a test, which keeps its name
general_or : (to : ℕ → ℕ) (op : TraceOp) (v : ℕ) → IsIn v (reads_of op) → IsIn v (general_reads op) ⊎ IsIn v (reads_of (renamed_op to op))
general_or to (Plain (Select w p a b)) v h = ⊎_elim (λ q. inr (inl q)) (λ i. inl i) h
general_or to (Plain (Base w a x)) v h = absurd h
general_or to (Plain op) v h = inl h
general_or to (Split p y edge live) v h = inr h

module _ (t : Trace) (homes : ℕ → Option ℕ) (lives lives' : Edge → List ℕ → ℕ → Type 0) (end end' : ℕ → Type 0) (v : ℕ) (wider : (ops : List TraceOp) → Wanted lives end ops v → Wanted lives' end' ops v) where
  -- no copy of it serves
  abbrev pub Unserved : List Served → Type 0
  Unserved served = (e : Served) → IsIn e served → e.value ≡ v → ⊥

  -- past copies that are made, or read by one of them
  over : (k : ℕ) (vs : List ℕ) (more : List TraceOp) → ((x : ℕ) → IsIn x vs → v ≡ copy_of t.values x k → ⊥) → Wanted lives end more v ⊎ IsIn v vs → Wanted lives end (copying t.values k vs ++ more) v
  over k [] more apart (inl h) = h
  over k [] more apart (inr i) = absurd i
  over k (x ∷ xs) more apart (inl h) = inr (inr ((λ w. ⊎_elim (λ q. apart x (inl refl) q) (λ n. absurd n) w), over k xs more (λ y i. apart y (inr i)) (inl h)))
  over k (x ∷ xs) more apart (inr (inl q)) = inl (inl q)
  over k (x ∷ xs) more apart (inr (inr i)) = inr (inr ((λ w. ⊎_elim (λ q. apart x (inl refl) q) (λ n. absurd n) w), over k xs more (λ y j. apart y (inr j)) (inr i)))

  read_still : (op : TraceOp) (now : List Served) (k : ℕ) (b : Bool) → Unserved now → IsIn v (reads_of op) →
      IsIn v (reads_of (if b then renamed_op (here t.values homes k) op else op)) ⊎ IsIn v (if b then copied_for homes k now (general_reads op) else [])
  read_still op now k false none h = inl h
  read_still op now k true none h = by (is_away (homes v) k) refl
    where
      by : (b : Bool) → is_away (homes v) k ≡ b → IsIn v (reads_of (renamed_op (here t.values homes k) op)) ⊎ IsIn v (copied_for homes k now (general_reads op))
      by false e = inl (kept_read (here t.values homes k) op v (ap (λ b. if b then copy_of t.values v k else v) e) h)
      by true e = ⊎_elim
          (λ g. ⊎_elim (λ i. absurd (none (entry v k) i refl)) (λ i. inr i) (covered homes k now (general_reads op) v g e))
          (λ i. inl i)
          (general_or (here t.values homes k) op v h)

  off_still : (op : TraceOp) (k : ℕ) (b : Bool) → Off lives op v → Off lives (if b then renamed_op (here t.values homes k) op else op) v
  off_still op k false h = h
  off_still (Plain op) k true h = h
  off_still (Split p y edge live) k true h = h

  writes_still : (op : TraceOp) (k : ℕ) (b : Bool) → writes_of (if b then renamed_op (here t.values homes k) op else op) ≡ writes_of op
  writes_still op k true = renamed_writes (here t.values homes k) op
  writes_still op k false = refl

  not_served : (k : ℕ) (vs : List ℕ) (e : Served) → (IsIn v vs → ⊥) → IsIn e (serve k vs) → e.value ≡ v → ⊥
  not_served k [] e n h q = h
  not_served k (x ∷ xs) e n h q = ⊎_elim (λ p. n (inl (sym q ∙ ap (λ (d : Served). d.value) p))) (λ i. not_served k xs e (λ j. n (inr j)) i q) h

  unserved_with : (op : TraceOp) (now : List Served) (k : ℕ) (b : Bool) → Unserved now → (IsIn v (if b then copied_for homes k now (general_reads op) else []) → ⊥) →
      Unserved (if b then serve k (copied_for homes k now (general_reads op)) ++ now else now)
  unserved_with op now k true none n e h q = ⊎_elim (λ i. not_served k (copied_for homes k now (general_reads op)) e n i q) (λ i. none e i q) (in_append e (serve k (copied_for homes k now (general_reads op))) now h)
  unserved_with op now k false none n e h q = none e h q

  unserved_join : (b : Bool) (served : List Served) → Unserved served → Unserved (if b then [] else served)
  unserved_join true served none = λ e h q. h
  unserved_join false served none = none

  -- one operation
  one_op : (op : TraceOp) (ops rest : List TraceOp) (now : List Served) (k : ℕ) (f : Option ℕ) → ((x : ℕ) → IsIn x (copied_here homes now op k f) → v ≡ copy_of t.values x k → ⊥) → Unserved now → (Unserved (served_behind homes now op k f) → Wanted lives end ops v → Wanted lives end rest v) →
      Wanted lives end (op ∷ ops) v → Wanted lives end (copying t.values k (copied_here homes now op k f) ++ op_here t.values homes op k f ∷ rest) v
  one_op op ops rest now k f apart none more h = over k (copied_here homes now op k f) (op_here t.values homes op k f ∷ rest) apart (by h)
    where
      by : Wanted lives end (op ∷ ops) v → Wanted lives end (op_here t.values homes op k f ∷ rest) v ⊎ IsIn v (copied_here homes now op k f)
      by (inl i) = ⊎_elim (λ j. inl (inl j)) (λ j. inr j) (read_still op now k (reads_copies f op) none i)
      by (inr (inl o)) = inl (inr (inl (off_still op k (reads_copies f op) o)))
      by (inr (inr p)) = ⊎_elim
          (λ i. inr i)
          (λ n. inl (inr (inr (
            (λ w. p.0 (subst (λ ws. IsIn v ws) (writes_still op k (reads_copies f op)) w)),
            more (λ e i q. unserved_with op now k (reads_copies f op) none n e (in_filter (λ (d : Served). not (list_any (nat_eq d.value) (writes_of op))) e (served_with homes now op k f) i).0 q) p.1,
          ))))
          (in_or v (copied_here homes now op k f))

  lost_none : (i : ℕ) (served : List Served) (ops : List TraceOp) (chosen : List ℕ) (fixed : List (Option ℕ)) → CopiesFit t.values ops chosen fixed (copied_from t homes i served ops chosen fixed) lives' end' → Unserved (served_at t i served) →
      Wanted lives end ops v → Wanted lives end (map op_of (joined (pieces_from t homes i served ops chosen fixed))) v
  lost_none i served [] chosen fixed F none h = h
  lost_none i served (op ∷ ops) [] fixed F none h = let g : 0 ≡ suc (length ops) = F.each_chosen in absurd (omega (arith, g))
  lost_none i served (op ∷ ops) (k ∷ chosen) [] F none h = let g : 0 ≡ suc (length ops) = F.each_fixed in absurd (omega (arith, g))
  lost_none i served (op ∷ ops) (k ∷ chosen) (f ∷ fixed) F none h =
      let now : List Served = served_at t i served in
      let next : List Served = served_behind homes now op k f in
      let pieces : List (List Standing) = pieces_from t homes (i + 1) next ops chosen fixed in
      subst (λ x. Wanted lives end x v) (sym (ops_are t.values homes now op k f (joined pieces)))
      (one_op op ops (map op_of (joined pieces)) now k f (λ x j q. F.free 0 k (copied_here homes now op k f) x refl refl j (subst (Wanted lives' end' (op ∷ ops)) q (wider (op ∷ ops) h))) none (λ u w. lost_none (i + 1) next ops chosen fixed (fits_tail F) (unserved_join (is_join t (i + 1)) next u) w) h)

  none_at_join : (b : Bool) (served : List Served) → b ≡ true → Unserved (if b then [] else served)
  none_at_join true served e = λ d h q. h
  none_at_join false served e = let h : false ≡ true = e in absurd cc

  lost_from : (q i : ℕ) (served : List Served) (ops : List TraceOp) (chosen : List ℕ) (fixed : List (Option ℕ)) → CopiesFit t.values ops chosen fixed (copied_from t homes i served ops chosen fixed) lives' end' → is_join t (i + q) ≡ true →
      Wanted lives end (drop q ops) v → Wanted lives end (map op_of (joined (drop q (pieces_from t homes i served ops chosen fixed)))) v
  lost_from zero i served ops chosen fixed F j h = let e : i + 0 ≡ i = omega arith in lost_none i served ops chosen fixed F (none_at_join (is_join t i) served (sym (ap (is_join t) e) ∙ j)) h
  lost_from (suc q) i served [] chosen fixed F j h = h
  lost_from (suc q) i served (op ∷ ops) [] fixed F j h = let g : 0 ≡ suc (length ops) = F.each_chosen in absurd (omega (arith, g))
  lost_from (suc q) i served (op ∷ ops) (k ∷ chosen) [] F j h = let g : 0 ≡ suc (length ops) = F.each_fixed in absurd (omega (arith, g))
  lost_from (suc q) i served (op ∷ ops) (k ∷ chosen) (f ∷ fixed) F j h =
      let e : i + suc q ≡ (i + 1) + q = omega arith in
      lost_from q (i + 1) (served_behind homes (served_at t i served) op k f) ops chosen fixed (fits_tail F) (sym (ap (is_join t) e) ∙ j) h

pub nothing_lost_at : (lives lives' : Edge → List ℕ → ℕ → Type 0) (end end' : ℕ → Type 0) (t : Trace) (homes : ℕ → Option ℕ) (chosen : List ℕ) (q v : ℕ) → ((ops : List TraceOp) → Wanted lives end ops v → Wanted lives' end' ops v) →
    CopiesFit t.values t.ops chosen t.fixed (copied_from t homes 0 [] t.ops chosen t.fixed) lives' end' → IsEntrance t q →
    Wanted lives end (drop q t.ops) v → Wanted lives end (map op_of (joined (drop q (pieces_of t homes chosen)))) v
nothing_lost_at lives lives' end end' t homes chosen q v wider F E = ⊎_elim at_start (λ j. let e : 0 + q ≡ q = omega arith in lost_from t homes lives lives' end end' v wider q 0 [] t.ops chosen t.fixed F (ap (is_join t) e ∙ j)) E
  where
    Goal : ℕ → Type 0
    Goal n = Wanted lives end (drop n t.ops) v → Wanted lives end (map op_of (joined (drop n (pieces_of t homes chosen)))) v

    at_start : q ≡ 0 → Goal q
    at_start e = subst Goal (sym e) (λ h. lost_none t homes lives lives' end end' v wider 0 [] t.ops chosen t.fixed F (unserved_join t homes lives lives' end end' v wider (is_join t 0) [] (λ d i p. i)) h)
