-- The copies that serve at a place are those of an earlier operation that reads the value away on the cluster, with neither a join
-- nor a writer of the value between.
use Rattle.std.proofs.Common.{◌≡◌, ◌<◌, ◌≤◌, ◌+◌, ◌⊎◌, inl, inr, ⊎_elim, ◌||◌, not, refl, sym, ◌∙◌, ap, arith, subst, Bool, true, false, nat_eq, if◌then◌else◌, ℕ, Option, Some, None, List, [], ◌∷◌, ◌++◌, slice_get, slice_index_or}
use Rattle.std.specs.List.{list_any}
use Rattle.std.proofs.lemmas.Bool.{eqb-true, eq-eqb, true≢false, cases_lt}
use Rattle.vx_flow.specs.declared.graph.Op.TheVariants.{Across}
use Rattle.vx_flow.specs.declared.trace.TraceOp.{TraceOp}
use Rattle.vx_flow.specs.declared.trace.TraceOp.TheVariants.{Plain, Split}
use Rattle.vx_flow.specs.declared.trace.Join.{Join}
use Rattle.vx_flow.specs.declared.trace.Trace.{Trace}
use Rattle.vx_flow.specs.Effects.{IsIn}
use Rattle.vx_linear.specs.Followed.{is_join}
use Rattle.vx_dep.specs.Delays.{Stands, writes_of, JoinBetween}
use Rattle.vx_bug.specs.declared.served.Served.{Served}
use Rattle.vx_bug.specs.Clusters.{general_reads, is_across}
use Rattle.vx_bug.specs.Copies.{is_away, is_served, reads_copies, serve, copied_for, served_behind}
use Rattle.vx_bug.specs.Laying.{served_at}
use Rattle.vx_bug.proofs.Listing.{in_append, append_in_left, append_in_right, any_in}
use Rattle.vx_bug.proofs.Making.{reading_is_none}
use Rattle.vx_copy_laws.specs.CopyStands.{ReadsAway, WriterBetween, IsServed, CopyStands}
use Rattle.vx_copy_laws.proofs.Members.{in_filter, filter_has, any_is_in, copy, Has, served_has, has_served, in_serve, serve_in}
use Rattle.vx_copy_laws.proofs.CopiedFor.{copied_is, is_copied}

-- numbers

below_or : (p n : ℕ) → p < n + 1 → (p < n) ⊎ (p ≡ n)
below_or p n h = ⊎_elim (λ l. inl l) (λ l. inr (omega (arith, h, l))) (cases_lt p n)

up_to : (p n : ℕ) → p ≤ n → (p < n) ⊎ (p ≡ n)
up_to p n h = ⊎_elim (λ l. inl l) (λ l. inr (omega (arith, h, l))) (cases_lt p n)

-- joins

pub record JoinAt (joins : List Join) (n : ℕ) : Type 0 where
  pub join : Join
  pub is : IsIn join joins
  pub at : join.place ≡ n

abbrev joined_at : List Join → ℕ → Bool
joined_at joins n = list_any (λ (j : Join). nat_eq j.place n) joins

join_there : (joins : List Join) (n : ℕ) → joined_at joins n ≡ true → JoinAt joins n
join_there [] n e = absurd cc
join_there (j ∷ js) n e = by (nat_eq j.place n) refl (join_there js n)
  where
    by : (b : Bool) → nat_eq j.place n ≡ b → (joined_at js n ≡ true → JoinAt js n) → JoinAt (j ∷ js) n
    by true f more = record { join = j; is = inl refl; at = eqb-true j.place n f }
    by false f more = let r = more (sym (ap (λ b. b || joined_at js n) f) ∙ e) in record { join = r.join; is = inr r.is; at = r.at }

there_join : (joins : List Join) (join : Join) (n : ℕ) → IsIn join joins → join.place ≡ n → joined_at joins n ≡ true
there_join [] join n i e = absurd i
there_join (j ∷ js) join n i e = by (nat_eq j.place n) refl (λ k. there_join js join n k e)
  where
    by : (b : Bool) → nat_eq j.place n ≡ b → (IsIn join js → joined_at js n ≡ true) → (nat_eq j.place n || joined_at js n) ≡ true
    by true f more = ap (λ b. b || joined_at js n) f
    by false f more = ap (λ b. b || joined_at js n) f ∙ ⊎_elim (λ q. absurd (true≢false (sym (eq-eqb j.place n (ap (λ (x : Join). x.place) (sym q) ∙ e)) ∙ f))) more i

-- away

pub record Elsewhere (homes : ℕ → Option ℕ) (v k : ℕ) : Type 0 where
  pub home : ℕ
  pub lives : homes v ≡ Some home
  pub other : home ≡ k → ⊥

pub away_is : (homes : ℕ → Option ℕ) (v k : ℕ) → is_away (homes v) k ≡ true → Elsewhere homes v k
away_is homes v k e = by (homes v) refl e
  where
    by : (h : Option ℕ) → homes v ≡ h → is_away h k ≡ true → Elsewhere homes v k
    by None f g = absurd cc
    by (Some home) f g = record { home = home; lives = f; other = λ q. true≢false (sym g ∙ ap not (eq-eqb home k q)) }

pub is_elsewhere : (homes : ℕ → Option ℕ) (v k home : ℕ) → homes v ≡ Some home → (home ≡ k → ⊥) → is_away (homes v) k ≡ true
is_elsewhere homes v k home f other = ap (λ h. is_away h k) f ∙ by (nat_eq home k) refl
  where
    by : (b : Bool) → nat_eq home k ≡ b → not (nat_eq home k) ≡ true
    by true g = absurd (other (eqb-true home k g))
    by false g = ap not g

-- what has copies made for it

pub none_reads : (op : TraceOp) → is_across op ≡ false → reads_copies None op ≡ true
none_reads (Split test leaves_when edge live) e = refl
none_reads (Plain (Across v u)) e = absurd cc
none_reads (Plain op) e = refl

-- the operation at a place with its cluster, and whether copies are made for it

module _ (t : Trace) (homes : ℕ → Option ℕ) (chosen : List ℕ) where
  pub record Turn (i : ℕ) (op : TraceOp) (k : ℕ) (f : Option ℕ) : Type 0 where
    pub stands : Stands t i op
    pub takes : slice_get chosen i ≡ Some k
    pub had : slice_index_or t.fixed i None ≡ f

  pub reads_by : (i : ℕ) (op : TraceOp) (k : ℕ) (f : Option ℕ) (v : ℕ) → Turn i op k f → reads_copies f op ≡ true → IsIn v (general_reads op) → is_away (homes v) k ≡ true → ReadsAway t homes chosen i v k
  reads_by i op k f v T e h a =
      let r = reading_is_none f op e in
      let w = away_is homes v k a in
      record { op = op; stands = T.stands; takes = T.takes; no_compensation = T.had ∙ r.0; no_copy = r.1; reads = h; home = w.home; lives = w.lives; elsewhere = w.other }

  pub record AwayBy (op : TraceOp) (k : ℕ) (f : Option ℕ) (v c : ℕ) : Type 0 where
    pub cluster : c ≡ k
    pub reading : reads_copies f op ≡ true
    pub reads : IsIn v (general_reads op)
    pub away : is_away (homes v) k ≡ true

  pub by_reads : (i : ℕ) (op : TraceOp) (k : ℕ) (f : Option ℕ) (v c : ℕ) → Turn i op k f → ReadsAway t homes chosen i v c → AwayBy op k f v c
  by_reads i op k f v c T r =
      let a : Some r.op ≡ Some op = sym r.stands ∙ T.stands in
      let same : r.op ≡ op = cc in
      let b : Some c ≡ Some k = sym r.takes ∙ T.takes in
      let cluster : c ≡ k = cc in
      let free : f ≡ None = sym T.had ∙ r.no_compensation in
      let plain : is_across op ≡ false = ap is_across (sym same) ∙ r.no_copy in
      record {
        cluster = cluster;
        reading = ap (λ g. reads_copies g op) free ∙ none_reads op plain;
        reads = subst (λ o. IsIn v (general_reads o)) same r.reads;
        away = is_elsewhere homes v k r.home r.lives (λ q. r.elsewhere (q ∙ sym cluster));
      }

  -- the copies that serve at place i
  pub record Knows (i : ℕ) (now : List Served) : Type 0 where
    pub each : (v k : ℕ) → Has now v k → IsServed t homes chosen i v k
    pub all : (v k : ℕ) → IsServed t homes chosen i v k → Has now v k

  pub at_first : Knows 0 (served_at t 0 [])
  at_first = record { each = λ v k h. absurd (nothing v k h); all = λ v k s. let u = s.above in absurd (omega (arith, u)) }
    where
      by : (b : Bool) (v k : ℕ) → Has (if b then [] else []) v k → ⊥
      by true v k h = h
      by false v k h = h

      nothing : (v k : ℕ) → Has (served_at t 0 []) v k → ⊥
      nothing v k h = by (is_join t 0) v k h

  module _ (i : ℕ) (op : TraceOp) (k : ℕ) (f : Option ℕ) (now : List Served) (turn : Turn i op k f) (knows : Knows i now) where
    abbrev New : List ℕ
    New = copied_for homes k now (general_reads op)

    abbrev With : Bool → List Served
    With b = if b then serve k New ++ now else now

    -- a value that the operation writes

    written : (v : ℕ) → not (list_any (nat_eq v) (writes_of op)) ≡ true → IsIn v (writes_of op) → ⊥
    written v e h = true≢false (sym e ∙ ap not (any_in v (writes_of op) h))

    not_written : (v : ℕ) → (IsIn v (writes_of op) → ⊥) → not (list_any (nat_eq v) (writes_of op)) ≡ true
    not_written v free = by (list_any (nat_eq v) (writes_of op)) refl
      where
        by : (b : Bool) → list_any (nat_eq v) (writes_of op) ≡ b → not (list_any (nat_eq v) (writes_of op)) ≡ true
        by true e = absurd (free (any_is_in v (writes_of op) e))
        by false e = ap not e

    -- a step further

    no_further_join : is_join t (i + 1) ≡ false → (r : ℕ) → (JoinBetween t r i → ⊥) → JoinBetween t r (i + 1) → ⊥
    no_further_join e r free j =
        let u = j.below in
        let a = j.above in
        ⊎_elim
        (λ l. free (record { join = j.join; is = j.is; above = a; below = omega (arith, l) }))
        (λ q. true≢false (sym (there_join t.joins j.join (i + 1) j.is q) ∙ e))
        (up_to j.join.place (i + 1) u)

    no_further_writer : (v : ℕ) → (IsIn v (writes_of op) → ⊥) → (r : ℕ) → (WriterBetween t v r i → ⊥) → WriterBetween t v r (i + 1) → ⊥
    no_further_writer v free r before w =
        let u = w.above in
        ⊎_elim
        (λ l. before (record { place = w.place; op = w.op; stands = w.stands; from = w.from; above = l; writes = w.writes }))
        (λ q. let a : Some w.op ≡ Some op = sym w.stands ∙ ap (slice_get t.ops) q ∙ turn.stands in
        let same : w.op ≡ op = cc in
        free (subst (λ o. IsIn v (writes_of o)) same w.writes))
        (below_or w.place i u)

    none_from_here : is_join t (i + 1) ≡ false → JoinBetween t i i → ⊥
    none_from_here e j = let u = j.below in let a = j.above in omega (arith, u, a)

    no_writer_from_here : (v : ℕ) → WriterBetween t v i i → ⊥
    no_writer_from_here v w = let u = w.from in let a = w.above in omega (arith, u, a)

    -- what serves with the copies made for the operation, serves behind it

    serves_behind : (v c : ℕ) → is_join t (i + 1) ≡ false → (IsIn v (writes_of op) → ⊥) → (b : Bool) → reads_copies f op ≡ b → Has (With b) v c → IsServed t homes chosen (i + 1) v c
    serves_behind v c e free b g h = by b g h
      where
        old : Has now v c → IsServed t homes chosen (i + 1) v c
        old n =
            let s = knows.each v c n in
            let u = s.above in
            record { reader = s.reader; above = omega (arith, u); reads = s.reads; no_join = no_further_join e s.reader s.no_join; no_writer = no_further_writer v free s.reader s.no_writer }

        by : (b : Bool) → reads_copies f op ≡ b → Has (With b) v c → IsServed t homes chosen (i + 1) v c
        by true g h = ⊎_elim
            (λ n. let r = in_serve k New v c n in
            let is = copied_is homes k now (general_reads op) v r.0 in
            record {
              reader = i;
              above = omega arith;
              reads = subst (λ d. ReadsAway t homes chosen i v d) (sym r.1) (reads_by i op k f v turn g is.reads is.away);
              no_join = no_further_join e i (none_from_here e);
              no_writer = no_further_writer v free i (no_writer_from_here v);
            })
            old
            (in_append (copy v c) (serve k New) now h)
        by false g h = old h

    -- and nothing else

    is_made : (v c : ℕ) → ReadsAway t homes chosen i v c → Has (With (reads_copies f op)) v c
    is_made v c r =
        let a = by_reads i op k f v c turn r in
        subst (λ b. Has (With b) v c) (sym a.reading) (subst (λ d. Has (With true) v d) (sym a.cluster) (by (is_served now v k) refl a.reads a.away))
      where
        by : (b : Bool) → is_served now v k ≡ b → IsIn v (general_reads op) → is_away (homes v) k ≡ true → Has (With true) v k
        by true e h a = append_in_right (copy v k) (serve k New) now (served_has now v k e)
        by false e h a = append_in_left (copy v k) (serve k New) now (serve_in k New v (is_copied homes k now (general_reads op) v (record { reads = h; away = a; no_copy = λ n. true≢false (sym (has_served now v k n) ∙ e) })))

    is_kept : (v c : ℕ) → (b : Bool) → Has now v c → Has (With b) v c
    is_kept v c true n = append_in_right (copy v c) (serve k New) now n
    is_kept v c false n = n

    found_behind : (v c : ℕ) → IsServed t homes chosen (i + 1) v c → Has (With (reads_copies f op)) v c
    found_behind v c s =
        let u = s.above in
        ⊎_elim
        (λ l. is_kept v c (reads_copies f op) (knows.all v c (record {
          reader = s.reader;
          above = l;
          reads = s.reads;
          no_join = λ j. let w = j.below in s.no_join (record { join = j.join; is = j.is; above = j.above; below = omega (arith, w) });
          no_writer = λ w. let p = w.above in s.no_writer (record { place = w.place; op = w.op; stands = w.stands; from = w.from; above = omega (arith, p); writes = w.writes });
        })))
        (λ q. is_made v c (subst (λ r. ReadsAway t homes chosen r v c) q s.reads))
        (below_or s.reader i u)

    abbrev Behind : List Served
    Behind = served_behind homes now op k f

    abbrev Stays : Served → Bool
    Stays s = not (list_any (nat_eq s.value) (writes_of op))

    step_each : (v c : ℕ) (b : Bool) → is_join t (i + 1) ≡ b → Has (if b then [] else Behind) v c → IsServed t homes chosen (i + 1) v c
    step_each v c true e h = absurd h
    step_each v c false e h =
        let r = in_filter Stays (With (reads_copies f op)) (copy v c) h in
        serves_behind v c e (written v r.1) (reads_copies f op) refl r.0

    step_all : (v c : ℕ) → IsServed t homes chosen (i + 1) v c → (b : Bool) → is_join t (i + 1) ≡ b → Has (if b then [] else Behind) v c
    step_all v c s true e =
        let j = join_there t.joins (i + 1) e in
        let p = j.at in
        let u = s.above in
        absurd (s.no_join (record { join = j.join; is = j.is; above = omega (arith, p, u); below = omega (arith, p) }))
    step_all v c s false e = filter_has Stays (With (reads_copies f op)) (copy v c) (found_behind v c s)
        (not_written v (λ h. s.no_writer (let u = s.above in record { place = i; op = op; stands = turn.stands; from = omega (arith, u); above = omega arith; writes = h })))

    pub step : Knows (i + 1) (served_at t (i + 1) (served_behind homes now op k f))
    step = record { each = λ v c h. step_each v c (is_join t (i + 1)) refl h; all = λ v c s. step_all v c s (is_join t (i + 1)) refl }

    -- the copies that are made for the operation are those that stand in front of it

    pub made_stands : (v : ℕ) → reads_copies f op ≡ true → IsIn v New → CopyStands t homes chosen i v k
    made_stands v g h =
        let is = copied_is homes k now (general_reads op) v h in
        record { reads = reads_by i op k f v turn g is.reads is.away; first = λ s. is.no_copy (knows.all v k s) }

    pub stands_made : (v c : ℕ) → CopyStands t homes chosen i v c → (c ≡ k) × (reads_copies f op ≡ true) × IsIn v New
    stands_made v c s =
        let a = by_reads i op k f v c turn s.reads in
        (a.cluster, a.reading, is_copied homes k now (general_reads op) v (record { reads = a.reads; away = a.away; no_copy = λ n. s.first (subst (λ d. IsServed t homes chosen i v d) (sym a.cluster) (knows.each v k n)) }))
