-- Nothing more is wanted of a trace with copies.
use Rattle.std.proofs.Common.{◌≡◌, ◌⊎◌, inl, inr, ⊎_elim, refl, sym, ◌∙◌, ap, subst, arith, Bool, true, false, not, if◌then◌else◌, nat_eq, ℕ, zero, suc, ◌+◌, Option, List, [], ◌∷◌, ◌++◌, length, map, drop}
use Rattle.std.specs.List.{list_any}
use Rattle.vx_flow.specs.declared.graph.Edge.{Edge}
use Rattle.vx_flow.specs.declared.graph.Op.TheVariants.{Compute, Select, Across}
use Rattle.vx_flow.specs.declared.trace.TraceOp.{TraceOp}
use Rattle.vx_flow.specs.declared.trace.TraceOp.TheVariants.{Plain, Split}
use Rattle.vx_flow.specs.declared.trace.Trace.{Trace}
use Rattle.vx_flow.specs.Effects.{IsIn}
use Rattle.vx_linear.specs.Followed.{is_join}
use Rattle.vx_linear.specs.InOrder.{IsEntrance}
use Rattle.vx_dep.specs.Delays.{reads_of, writes_of}
use Rattle.vx_bug.specs.declared.served.Served.{Served}
use Rattle.vx_bug.specs.Clusters.{general_reads}
use Rattle.vx_bug.specs.Copies.{Standing, copy_of, is_away, serve, copied_for, reads_copies, served_behind, here, renamed_op, pieces_from, pieces_of, joined}
use Rattle.vx_bug.specs.Laying.{served_at, served_with}
use Rattle.vx_bug.proofs.Listing.{in_append}
use Rattle.vx_region.specs.Beside.{Off, Wanted, NothingNewFor, NothingNew}
use Rattle.vx_region.proofs.Renamed.{IsNamed, reads_named}
use Rattle.vx_region.proofs.Lists.{entry, in_filter, copied_in, covered, general_in_reads}
use Rattle.vx_region.proofs.CopySteps.{copying, copied_here, op_here}
use Rattle.vx_region.proofs.Runs.{op_of, ops_are, moved_entrance}

-- what stands for an operation reads a value, or what is read in its place
pub renamed_read : (to : ℕ → ℕ) (op : TraceOp) (v : ℕ) → IsIn v (reads_of (renamed_op to op)) → IsNamed to (general_reads op) v ⊎ IsIn v (reads_of op)
renamed_read to (Plain (Select w p a b)) v (inl q) = inr (inl q)
renamed_read to (Plain (Select w p a b)) v (inr i) = inl (reads_named to (Plain (Select w p a b)) v refl i)
renamed_read to (Plain (Across w u)) v h = inr h
renamed_read to (Plain op) v h = inl (reads_named to (Plain op) v refl h)
renamed_read to (Split p y edge live) v h = inr h

pub renamed_writes : (to : ℕ → ℕ) (op : TraceOp) → writes_of (renamed_op to op) ≡ writes_of op
renamed_writes to (Plain (Compute code w a b)) = refl
renamed_writes to (Plain op) = refl
renamed_writes to (Split p y edge live) = refl

module _ (t : Trace) (homes : ℕ → Option ℕ) (lives : Edge → List ℕ → ℕ → Type 0) (end : ℕ → Type 0) where
  renamed_off : (to : ℕ → ℕ) (op : TraceOp) (v : ℕ) → Off lives (renamed_op to op) v → Off lives op v
  renamed_off to (Plain op) v h = h
  renamed_off to (Split p y edge live) v h = h

  -- it is the copy of a value that serves
  pub record ServesAs (served : List Served) (v : ℕ) : Type 0 where
    pub copy : Served
    pub serves : IsIn copy served
    pub is : v ≡ copy_of t.values copy.value copy.cluster

  -- the copies of these are made above
  abbrev NotMade : (k : ℕ) → List ℕ → ℕ → Type 0
  NotMade k vs v = (w : ℕ) → IsIn w vs → v ≡ copy_of t.values w k → ⊥

  past_copies : (k : ℕ) (vs : List ℕ) (more : List TraceOp) (v : ℕ) → Wanted lives end (copying t.values k vs ++ more) v → IsIn v vs ⊎ (NotMade k vs v × Wanted lives end more v)
  past_copies k [] more v h = inr ((λ w i e. absurd i), h)
  past_copies k (x ∷ xs) more v h = ⊎_elim
      (λ i. inl (⊎_elim (λ q. inl q) (λ n. absurd n) i))
      (λ r. ⊎_elim (λ o. absurd o) (λ (p : (IsIn v (copy_of t.values x k ∷ []) → ⊥) × Wanted lives end (copying t.values k xs ++ more) v). ⊎_elim (λ i. inl (inr i))
      (λ m. inr ((λ w i e. ⊎_elim (λ q. p.0 (inl (e ∙ ap (λ z. copy_of t.values z k) q))) (λ j. m.0 w j e) i), m.1))
      (past_copies k xs more v p.1)) r)
      h

  made_is_read : (op : TraceOp) (now : List Served) (k : ℕ) (b : Bool) (v : ℕ) → IsIn v (if b then copied_for homes k now (general_reads op) else []) → IsIn v (reads_of op)
  made_is_read op now k true v h = general_in_reads op v (copied_in homes k now (general_reads op) v h)
  made_is_read op now k false v h = absurd h

  read_here : (op : TraceOp) (now : List Served) (k : ℕ) (b : Bool) (v : ℕ) → NotMade k (if b then copied_for homes k now (general_reads op) else []) v →
      IsIn v (reads_of (if b then renamed_op (here t.values homes k) op else op)) → IsIn v (reads_of op) ⊎ ServesAs now v
  read_here op now k false v n h = inl h
  read_here op now k true v n h = ⊎_elim
      (λ p. by p (is_away (homes p.value) k) refl)
      (λ i. inl i)
      (renamed_read (here t.values homes k) op v h)
    where
      by : (p : IsNamed (here t.values homes k) (general_reads op) v) → (b : Bool) → is_away (homes p.value) k ≡ b → IsIn v (reads_of op) ⊎ ServesAs now v
      by p true e =
          let q : v ≡ copy_of t.values p.value k = p.is ∙ ap (λ b. if b then copy_of t.values p.value k else p.value) e in
          ⊎_elim (λ i. inr (record { copy = entry p.value k; serves = i; is = q })) (λ i. absurd (n p.value i q)) (covered homes k now (general_reads op) p.value p.member e)
      by p false e =
          let q : v ≡ p.value = p.is ∙ ap (λ b. if b then copy_of t.values p.value k else p.value) e in
          inl (subst (λ z. IsIn z (reads_of op)) (sym q) (general_in_reads op p.value p.member))

  off_here : (op : TraceOp) (k : ℕ) (b : Bool) (v : ℕ) → Off lives (if b then renamed_op (here t.values homes k) op else op) v → Off lives op v
  off_here op k true v h = renamed_off (here t.values homes k) op v h
  off_here op k false v h = h

  writes_here : (op : TraceOp) (k : ℕ) (b : Bool) → writes_of (if b then renamed_op (here t.values homes k) op else op) ≡ writes_of op
  writes_here op k true = renamed_writes (here t.values homes k) op
  writes_here op k false = refl

  serve_made : (k : ℕ) (vs : List ℕ) (e : Served) (v : ℕ) → IsIn e (serve k vs) → v ≡ copy_of t.values e.value e.cluster → NotMade k vs v → ⊥
  serve_made k [] e v h q n = absurd h
  serve_made k (x ∷ xs) e v h q n = ⊎_elim
      (λ p. n x (inl refl) (q ∙ ap (λ (d : Served). copy_of t.values d.value d.cluster) p))
      (λ i. serve_made k xs e v i q (λ w j. n w (inr j))) h

  with_made : (op : TraceOp) (now : List Served) (k : ℕ) (b : Bool) (e : Served) (v : ℕ) → IsIn e (if b then serve k (copied_for homes k now (general_reads op)) ++ now else now) → v ≡ copy_of t.values e.value e.cluster →
      NotMade k (if b then copied_for homes k now (general_reads op) else []) v → ServesAs now v
  with_made op now k true e v h q n = ⊎_elim (λ i. absurd (serve_made k (copied_for homes k now (general_reads op)) e v i q n)) (λ i. record { copy = e; serves = i; is = q })
      (in_append e (serve k (copied_for homes k now (general_reads op))) now h)
  with_made op now k false e v h q n = record { copy = e; serves = h; is = q }

  behind_join : (b : Bool) (served : List Served) (v : ℕ) → ServesAs (if b then [] else served) v → ServesAs served v
  behind_join true served v s = absurd s.serves
  behind_join false served v s = s

  -- one operation
  past_op : (op : TraceOp) (ops rest : List TraceOp) (now : List Served) (k : ℕ) (f : Option ℕ) (v : ℕ) → (Wanted lives end rest v → Wanted lives end ops v ⊎ ServesAs (served_behind homes now op k f) v) →
      Wanted lives end (copying t.values k (copied_here homes now op k f) ++ op_here t.values homes op k f ∷ rest) v → Wanted lives end (op ∷ ops) v ⊎ ServesAs now v
  past_op op ops rest now k f v more h = ⊎_elim
      (λ i. inl (inl (made_is_read op now k (reads_copies f op) v i)))
      (λ p. here_or p.0 p.1)
      (past_copies k (copied_here homes now op k f) (op_here t.values homes op k f ∷ rest) v h)
    where
      here_or : NotMade k (copied_here homes now op k f) v → Wanted lives end (op_here t.values homes op k f ∷ rest) v → Wanted lives end (op ∷ ops) v ⊎ ServesAs now v
      here_or n w = ⊎_elim
          (λ i. ⊎_elim (λ j. inl (inl j)) (λ s. inr s) (read_here op now k (reads_copies f op) v n i))
          (λ r. ⊎_elim (λ o. inl (inr (inl (off_here op k (reads_copies f op) v o))))
          (λ (p : (IsIn v (writes_of (op_here t.values homes op k f)) → ⊥) × Wanted lives end rest v). ⊎_elim
          (λ x. inl (inr (inr ((λ i. p.0 (subst (λ ws. IsIn v ws) (sym (writes_here op k (reads_copies f op))) i)), x))))
          (λ s. inr (with_made op now k (reads_copies f op) s.copy v (in_filter (λ (d : Served). not (list_any (nat_eq d.value) (writes_of op))) s.copy (served_with homes now op k f) s.serves).0 s.is n))
          (more p.1)) r)
          w

  pub new_is_served : (i : ℕ) (served : List Served) (ops : List TraceOp) (chosen : List ℕ) (fixed : List (Option ℕ)) (v : ℕ) → length fixed ≡ length ops → length chosen ≡ length ops →
      Wanted lives end (map op_of (joined (pieces_from t homes i served ops chosen fixed))) v → Wanted lives end ops v ⊎ ServesAs (served_at t i served) v
  new_is_served i served [] chosen fixed v a b h = inl h
  new_is_served i served (op ∷ ops) [] fixed v a b h = let g : 0 ≡ suc (length ops) = b in absurd (omega (arith, g))
  new_is_served i served (op ∷ ops) (k ∷ chosen) [] v a b h = let g : 0 ≡ suc (length ops) = a in absurd (omega (arith, g))
  new_is_served i served (op ∷ ops) (k ∷ chosen) (f ∷ fixed) v a b h =
      let now : List Served = served_at t i served in
      let next : List Served = served_behind homes now op k f in
      let pieces : List (List Standing) = pieces_from t homes (i + 1) next ops chosen fixed in
      let a' : length fixed ≡ length ops = (let g : suc (length fixed) ≡ suc (length ops) = a in omega (arith, g)) in
      let b' : length chosen ≡ length ops = (let g : suc (length chosen) ≡ suc (length ops) = b in omega (arith, g)) in
      past_op op ops (map op_of (joined pieces)) now k f v
      (λ w. ⊎_elim (λ x. inl x) (λ s. inr (behind_join (is_join t (i + 1)) next v s)) (new_is_served (i + 1) next ops chosen fixed v a' b' w))
      (subst (λ x. Wanted lives end x v) (ops_are t.values homes now op k f (joined pieces)) h)

  none_serves : (b : Bool) (served : List Served) (v : ℕ) → b ≡ true → ServesAs (if b then [] else served) v → ⊥
  none_serves true served v e s = absurd s.serves
  none_serves false served v e s = let h : false ≡ true = e in absurd cc

  none_of_none : (b : Bool) (v : ℕ) → ServesAs (if b then [] else []) v → ⊥
  none_of_none true v s = absurd s.serves
  none_of_none false v s = absurd s.serves

  pub new_from_join : (q i : ℕ) (served : List Served) (ops : List TraceOp) (chosen : List ℕ) (fixed : List (Option ℕ)) (v : ℕ) → length fixed ≡ length ops → length chosen ≡ length ops → is_join t (i + q) ≡ true →
      Wanted lives end (map op_of (joined (drop q (pieces_from t homes i served ops chosen fixed)))) v → Wanted lives end (drop q ops) v
  new_from_join zero i served ops chosen fixed v a b j h = let e : i + 0 ≡ i = omega arith in
      ⊎_elim (λ x. x) (λ s. absurd (none_serves (is_join t i) served v (sym (ap (is_join t) e) ∙ j) s)) (new_is_served i served ops chosen fixed v a b h)
  new_from_join (suc q) i served [] chosen fixed v a b j h = h
  new_from_join (suc q) i served (op ∷ ops) [] fixed v a b j h = let g : 0 ≡ suc (length ops) = b in absurd (omega (arith, g))
  new_from_join (suc q) i served (op ∷ ops) (k ∷ chosen) [] v a b j h = let g : 0 ≡ suc (length ops) = a in absurd (omega (arith, g))
  new_from_join (suc q) i served (op ∷ ops) (k ∷ chosen) (f ∷ fixed) v a b j h =
      let e : i + suc q ≡ (i + 1) + q = omega arith in
      let a' : length fixed ≡ length ops = (let g : suc (length fixed) ≡ suc (length ops) = a in omega (arith, g)) in
      let b' : length chosen ≡ length ops = (let g : suc (length chosen) ≡ suc (length ops) = b in omega (arith, g)) in
      new_from_join q (i + 1) (served_behind homes (served_at t i served) op k f) ops chosen fixed v a' b' (sym (ap (is_join t) e) ∙ j) h

pub nothing_new_at : (lives : Edge → List ℕ → ℕ → Type 0) (end : ℕ → Type 0) (t : Trace) (homes : ℕ → Option ℕ) (chosen : List ℕ) (q v : ℕ) → length t.fixed ≡ length t.ops → length chosen ≡ length t.ops → IsEntrance t q →
    Wanted lives end (map op_of (joined (drop q (pieces_of t homes chosen)))) v → Wanted lives end (drop q t.ops) v
nothing_new_at lives end t homes chosen q v a b E = ⊎_elim at_start (λ j. let e : 0 + q ≡ q = omega arith in new_from_join t homes lives end q 0 [] t.ops chosen t.fixed v a b (ap (is_join t) e ∙ j)) E
  where
    Goal : ℕ → Type 0
    Goal n = Wanted lives end (map op_of (joined (drop n (pieces_of t homes chosen)))) v → Wanted lives end (drop n t.ops) v

    at_start : q ≡ 0 → Goal q
    at_start e = subst Goal (sym e) (λ h. ⊎_elim (λ x. x) (λ s. absurd (none_of_none t homes lives end (is_join t 0) v s)) (new_is_served t homes lives end 0 [] t.ops chosen t.fixed v a b h))

pub nothing_new_for : (lives : Edge → List ℕ → ℕ → Type 0) (end : ℕ → Type 0) → NothingNewFor lives end
nothing_new_for lives end t homes chosen q v a b E h = nothing_new_at lives end t homes chosen q v a b E (subst (λ x. Wanted lives end x v) (moved_entrance q (pieces_of t homes chosen)) h)

pub nothing_new : NothingNew
nothing_new end = nothing_new_for (λ edge live v. IsIn v live) (λ v. IsIn v end)
