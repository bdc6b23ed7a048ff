-- What one more route does to the nodes that are marked, and what is marked in the end.
use Rattle.std.proofs.Common.{◌≡◌, ◌⊎◌, inl, inr, ◌↔◌, ℕ, zero, suc, ◌+◌, ◌<◌, Bool, true, false, ◌==◌, ◌&&◌, ◌||◌, cond, List, [], ◌∷◌, ◌++◌, length, slice_get, slice_set, Option, Some, None, refl, sym, ap, subst, ◌∙◌, arith, eq-eqb, eqb-true, drop, drop-cons, get_or}
use Rattle.std.specs.List.{list_any}
use Rattle.vx_flow.specs.declared.routes.Route.{Route}
use Rattle.vx_flow.specs.Effects.{IsIn}
use Rattle.vx_flow.specs.Live.{first_touch, LiveOn}
use Rattle.vx_flow.specs.Rows.{Added, is_marked, row_at}
use Rattle.vx_flow.specs.Closing.{BeginWithin, Closing, PutUnder, Spreads, Starting, cleared_row, is_read, is_untouched, marked_pending, marked_row, passes, pending_passed, pending_started, row_passed, row_started, starts}
use Rattle.vx_flow.proofs.Members.{in_left, in_last, in_front_or_last}
use Rattle.vx_tables.proofs.Marks.{set_only, set_keeps, set_self}

-- marks

record Marks (row after : List Bool) (pending later : List ℕ) (n : ℕ) : Type 0 where
  keeps : (b : ℕ) → is_marked row b ≡ true → is_marked after b ≡ true
  self : is_marked after n ≡ true
  only : (b : ℕ) → is_marked after b ≡ true → (is_marked row b ≡ true) ⊎ ((b ≡ n) × IsIn b later)
  pending_keeps : (b : ℕ) → IsIn b pending → IsIn b later
  pending_only : (b : ℕ) → IsIn b later → IsIn b pending ⊎ (b ≡ n)

marks_by : (row : List Bool) (pending : List ℕ) (n : ℕ) → n < length row → (t : Bool) → is_marked row n ≡ t → Marks row (cond t row (slice_set row n true)) pending (cond t pending (pending ++ n ∷ [])) n
marks_by row pending n h true e = record { keeps = λ b m. m; self = e; only = λ b m. inl m; pending_keeps = λ b m. m; pending_only = λ b m. inl m }
marks_by row pending n h false e = record {
  keeps = set_keeps row n;
  self = set_self row n h;
  only = λ b m. elim (set_only row n b m) [ inl a ↦ inl a | inr q ↦ inr (q, subst (λ x. IsIn x (pending ++ n ∷ [])) (sym q) (in_last n pending)) ];
  pending_keeps = λ b m. in_left b pending (n ∷ []) m;
  pending_only = λ b m. in_front_or_last b n pending m;
}

marks : (row : List Bool) (pending : List ℕ) (n : ℕ) → n < length row → Marks row (marked_row row n) pending (marked_pending row pending n) n
marks row pending n h = marks_by row pending n h (is_marked row n) refl

-- tests

or_cases : (a b : Bool) → (a || b) ≡ true → (a ≡ true) ⊎ (b ≡ true)
or_cases true b h = inl refl
or_cases false b h = inr h

or_right : (a b : Bool) → b ≡ true → (a || b) ≡ true
or_right true b h = refl
or_right false b h = h

or_left : (a b : Bool) → a ≡ true → (a || b) ≡ true
or_left true b h = refl
or_left false b h = absurd (cc)

and_left : (a b : Bool) → (a && b) ≡ true → a ≡ true
and_left true b h = refl
and_left false b h = h

and_right : (a b : Bool) → (a && b) ≡ true → b ≡ true
and_right true b h = h
and_right false b h = absurd (cc)

and_both : (a b : Bool) → a ≡ true → b ≡ true → (a && b) ≡ true
and_both true b h k = k
and_both false b h k = h

pub any_in : (c : ℕ) (xs : List ℕ) → list_any (λ u. u == c) xs ≡ true → IsIn c xs
any_in c [] h = absurd (cc)
any_in c (x ∷ xs) h = elim (or_cases (x == c) (list_any (λ u. u == c) xs) h) [ inl e ↦ inl (sym (eqb-true x c e)) | inr k ↦ inr (any_in c xs k) ]

pub in_any : (c : ℕ) (xs : List ℕ) → IsIn c xs → list_any (λ u. u == c) xs ≡ true
in_any c [] h = absurd h
in_any c (x ∷ xs) (inl e) = or_left (x == c) (list_any (λ u. u == c) xs) (eq-eqb x c (sym e))
in_any c (x ∷ xs) (inr k) = or_right (x == c) (list_any (λ u. u == c) xs) (in_any c xs k)

is_read_some : (o : Option Bool) → is_read o ≡ true → o ≡ Some true
is_read_some None h = absurd (cc)
is_read_some (Some b) h = ap Some h

untouched_none : (o : Option Bool) → is_untouched o ≡ true → o ≡ None
untouched_none None h = refl
untouched_none (Some b) h = absurd (cc)

-- starting

module _ (routes : List Route) (v : ℕ) where
  -- a route that is not the one that is taken is still to do
  not_taken : (i j : ℕ) (r : Route) (todo : List ℕ) → slice_get routes j ≡ Some r → (slice_get routes i ≡ Some r → ⊥) → IsIn j (i ∷ todo) → IsIn j todo
  not_taken i j r todo e n (inl q) = absurd (n (subst (λ k. slice_get routes k ≡ Some r) q e))
  not_taken i j r todo e n (inr h) = h

  start_skips : (i : ℕ) (todo : List ℕ) (row : List Bool) (pending : List ℕ) → Starting routes v (i ∷ todo) row pending →
      ((r : Route) → slice_get routes i ≡ Some r → first_touch v r.touches ≡ Some true → ⊥) → Starting routes v todo row pending
  start_skips i todo row pending s n = record {
    sound = s.sound;
    pends = s.pends;
    marked = s.marked;
    started = λ j r e f. elim (s.started j r e f) [ inl m ↦ inl m | inr h ↦ inr (not_taken i j r todo e (λ q. n r q f) h) ];
  }

  start_marks : (i : ℕ) (r : Route) (todo : List ℕ) (row after : List Bool) (pending later : List ℕ) → Starting routes v (i ∷ todo) row pending →
      slice_get routes i ≡ Some r → first_touch v r.touches ≡ Some true → Marks row after pending later r.from → Starting routes v todo after later
  start_marks i r todo row after pending later s e f m = record {
    sound = λ b h. elim (m.only b h) [ inl k ↦ s.sound b k | inr q ↦ LiveOn.here i e q.0 f ];
    pends = λ b h. elim (m.only b h) [ inl k ↦ m.pending_keeps b (s.pends b k) | inr q ↦ q.1 ];
    marked = λ b h. elim (m.pending_only b h) [ inl k ↦ m.keeps b (s.marked b k) | inr q ↦ subst (λ x. is_marked after x ≡ true) (sym q) m.self ];
    started = λ j x d g. elim (s.started j x d g) [ inl k ↦ inl (m.keeps x.from k) | inr h ↦ elim h [ inl q ↦ inl (let w : r ≡ x = cc in subst (λ (z : Route). is_marked after z.from ≡ true) w m.self) | inr k ↦ inr k ] ];
  }

  start_by : (i : ℕ) (r : Route) (todo : List ℕ) (row : List Bool) (pending : List ℕ) → r.from < length row → Starting routes v (i ∷ todo) row pending → slice_get routes i ≡ Some r →
      (t : Bool) → starts r v ≡ t → Starting routes v todo (cond t (marked_row row r.from) row) (cond t (marked_pending row pending r.from) pending)
  start_by i r todo row pending w s e true t = start_marks i r todo row (marked_row row r.from) pending (marked_pending row pending r.from) s e (is_read_some (first_touch v r.touches) t) (marks row pending r.from w)
  start_by i r todo row pending w s e false t = start_skips i todo row pending s (λ x q f. let p : r ≡ x = cc in let g : starts x v ≡ false = subst (λ (z : Route). starts z v ≡ false) p t in let k : is_read (Some true) ≡ false = subst (λ o. is_read o ≡ false) f g in absurd (cc))

  start_on : (i : ℕ) (o : Option Route) (todo : List ℕ) (row : List Bool) (pending : List ℕ) → BeginWithin (length row) routes → Starting routes v (i ∷ todo) row pending → slice_get routes i ≡ o →
      Starting routes v todo (row_started o v row) (pending_started o v row pending)
  start_on i None todo row pending w s e = start_skips i todo row pending s (λ r q f. absurd (cc))
  start_on i (Some r) todo row pending w s e = start_by i r todo row pending (w i r e) s e (starts r v) refl

  -- one more of the routes that read v
  pub starting_step : (i : ℕ) (todo : List ℕ) (row : List Bool) (pending : List ℕ) → BeginWithin (length row) routes → Starting routes v (i ∷ todo) row pending →
      Starting routes v todo (row_started (slice_get routes i) v row) (pending_started (slice_get routes i) v row pending)
  starting_step i todo row pending w s = start_on i (slice_get routes i) todo row pending w s refl

  -- nothing is marked at first
  pub starting_first : (todo : List ℕ) (row : List Bool) → ((b : ℕ) → is_marked row b ≡ true → ⊥) → ((i : ℕ) (r : Route) → slice_get routes i ≡ Some r → first_touch v r.touches ≡ Some true → IsIn i todo) → Starting routes v todo row []
  starting_first todo row n h = record {
    sound = λ b m. absurd (n b m);
    pends = λ b m. absurd (n b m);
    marked = λ b m. absurd m;
    started = λ i r e f. inr (h i r e f);
  }

  -- closing

  pub closing_first : (row : List Bool) (pending : List ℕ) → Starting routes v [] row pending → Closing routes v 0 [] row pending
  closing_first row pending s = record {
    sound = s.sound;
    marked = s.marked;
    node_marked = λ i h. absurd h;
    started = λ i r e f. elim (s.started i r e f) [ inl m ↦ m | inr h ↦ absurd h ];
    closed = λ i c r e h f m. inr (inl (s.pends c m));
  }

  -- a pending node is taken, and the routes to it are to do
  pub closing_next : (n node : ℕ) (todo : List ℕ) (row : List Bool) (pending rest : List ℕ) → Closing routes v n [] row pending → pending ≡ rest ++ node ∷ [] →
      ((i : ℕ) (r : Route) → slice_get routes i ≡ Some r → IsIn node r.to → IsIn i todo) → Closing routes v node todo row rest
  closing_next n node todo row pending rest s e h = record {
    sound = s.sound;
    marked = λ b m. s.marked b (subst (IsIn b) (sym e) (in_left b rest (node ∷ []) m));
    node_marked = λ i k. s.marked node (subst (IsIn node) (sym e) (in_last node rest));
    started = s.started;
    closed = λ i c r q k f m. elim (s.closed i c r q k f m) [
      | inl a ↦ inl a
      | inr z ↦ elim z [
        | inl p ↦ elim (in_front_or_last c node rest (subst (IsIn c) e p)) [ inl a ↦ inr (inl a) | inr w ↦ inr (inr (w, h i r q (subst (λ x. IsIn x r.to) w k))) ]
        | inr p ↦ absurd p.1
      ]
    ];
  }

  follow_skips : (node i : ℕ) (todo : List ℕ) (row : List Bool) (pending : List ℕ) → Closing routes v node (i ∷ todo) row pending →
      ((r : Route) → slice_get routes i ≡ Some r → IsIn node r.to → first_touch v r.touches ≡ None → ⊥) → Closing routes v node todo row pending
  follow_skips node i todo row pending s n = record {
    sound = s.sound;
    marked = s.marked;
    node_marked = λ j h. s.node_marked j (inr h);
    started = s.started;
    closed = λ j c r e k f m. elim (s.closed j c r e k f m) [
      | inl a ↦ inl a
      | inr z ↦ elim z [ inl p ↦ inr (inl p) | inr p ↦ inr (inr (p.0, not_taken i j r todo e (λ q. n r q (subst (λ x. IsIn x r.to) p.0 k) f) p.1)) ]
    ];
  }

  follow_marks : (node i : ℕ) (r : Route) (todo : List ℕ) (row after : List Bool) (pending later : List ℕ) → Closing routes v node (i ∷ todo) row pending →
      slice_get routes i ≡ Some r → IsIn node r.to → first_touch v r.touches ≡ None → Marks row after pending later r.from → Closing routes v node todo after later
  follow_marks node i r todo row after pending later s e k f m = record {
    sound = λ b h. elim (m.only b h) [ inl a ↦ s.sound b a | inr q ↦ LiveOn.beyond i e q.0 f k (s.sound node (s.node_marked i (inl refl))) ];
    marked = λ b h. elim (m.pending_only b h) [ inl a ↦ m.keeps b (s.marked b a) | inr q ↦ subst (λ x. is_marked after x ≡ true) (sym q) m.self ];
    node_marked = λ j h. m.keeps node (s.node_marked j (inr h));
    started = λ j x d g. m.keeps x.from (s.started j x d g);
    closed = λ j c x d g h a. elim (m.only c a) [
      | inl b ↦ elim (s.closed j c x d g h b) [
        | inl p ↦ inl (m.keeps x.from p)
        | inr z ↦ elim z [
          | inl p ↦ inr (inl (m.pending_keeps c p))
          | inr p ↦ elim p.1 [ inl q ↦ inl (let w : r ≡ x = cc in subst (λ (y : Route). is_marked after y.from ≡ true) w m.self) | inr o ↦ inr (inr (p.0, o)) ]
        ]
      ]
      | inr q ↦ inr (inl q.1)
    ];
  }

  follow_by : (node i : ℕ) (r : Route) (todo : List ℕ) (row : List Bool) (pending : List ℕ) → r.from < length row → Closing routes v node (i ∷ todo) row pending → slice_get routes i ≡ Some r →
      (t : Bool) → passes r v node ≡ t → Closing routes v node todo (cond t (marked_row row r.from) row) (cond t (marked_pending row pending r.from) pending)
  follow_by node i r todo row pending w s e true t =
      follow_marks node i r todo row (marked_row row r.from) pending (marked_pending row pending r.from) s e
      (any_in node r.to (and_left (list_any (λ u. u == node) r.to) (is_untouched (first_touch v r.touches)) t))
      (untouched_none (first_touch v r.touches) (and_right (list_any (λ u. u == node) r.to) (is_untouched (first_touch v r.touches)) t)) (marks row pending r.from w)
  follow_by node i r todo row pending w s e false t = follow_skips node i todo row pending s (λ x q k f.
      let p : r ≡ x = cc in
      let g : passes x v node ≡ false = subst (λ (z : Route). passes z v node ≡ false) p t in
      let h : passes x v node ≡ true = and_both (list_any (λ u. u == node) x.to) (is_untouched (first_touch v x.touches)) (in_any node x.to k) (ap is_untouched f) in
      absurd (cc))

  follow_on : (node i : ℕ) (o : Option Route) (todo : List ℕ) (row : List Bool) (pending : List ℕ) → BeginWithin (length row) routes → Closing routes v node (i ∷ todo) row pending → slice_get routes i ≡ o →
      Closing routes v node todo (row_passed o v node row) (pending_passed o v node row pending)
  follow_on node i None todo row pending w s e = follow_skips node i todo row pending s (λ r q k f. absurd (cc))
  follow_on node i (Some r) todo row pending w s e = follow_by node i r todo row pending (w i r e) s e (passes r v node) refl

  -- one more of the routes to the node
  pub closing_step : (node i : ℕ) (todo : List ℕ) (row : List Bool) (pending : List ℕ) → BeginWithin (length row) routes → Closing routes v node (i ∷ todo) row pending →
      Closing routes v node todo (row_passed (slice_get routes i) v node row) (pending_passed (slice_get routes i) v node row pending)
  closing_step node i todo row pending w s = follow_on node i (slice_get routes i) todo row pending w s refl

  -- where no node pends, all that is live is marked
  all_marked : (node : ℕ) (row : List Bool) → Closing routes v node [] row [] → (b u : ℕ) → u ≡ v → LiveOn routes b u → is_marked row b ≡ true
  all_marked node row s b u w (LiveOn.here {r = r} i e q f) = subst (λ x. is_marked row x ≡ true) (sym q) (s.started i r e (subst (λ x. first_touch x r.touches ≡ Some true) w f))
  all_marked node row s b u w (LiveOn.beyond {c = c} {r = r} i e q f k l) =
      subst (λ x. is_marked row x ≡ true) (sym q) (elim (s.closed i c r e k (subst (λ x. first_touch x r.touches ≡ None) w f) (all_marked node row s c u w l)) [
        | inl m ↦ m
        | inr z ↦ elim z [ inl p ↦ absurd p | inr p ↦ absurd p.1 ]
      ])

  pub closing_exact : (node : ℕ) (row : List Bool) → Closing routes v node [] row [] → (b : ℕ) → (is_marked row b ≡ true) ↔ LiveOn routes b v
  closing_exact node row s b = (s.sound b, all_marked node row s b v refl)

  -- the same along the list of the routes that are to do
  pub starting_along : (readers : List ℕ) (i : ℕ) (row after : List Bool) (pending later : List ℕ) → i < length readers → BeginWithin (length row) routes → Starting routes v (drop i readers) row pending →
      after ≡ row_started (slice_get routes (get_or readers i 0)) v row → later ≡ pending_started (slice_get routes (get_or readers i 0)) v row pending → Starting routes v (drop (i + 1) readers) after later
  starting_along readers i row after pending later h w s e f =
      let t = starting_step (get_or readers i 0) (drop (suc i) readers) row pending w (subst (λ l. Starting routes v l row pending) (drop-cons readers i 0 h) s) in
      let k : suc i ≡ i + 1 = omega arith in
      subst (λ j. Starting routes v (drop j readers) after later) k (subst (λ r. Starting routes v (drop (suc i) readers) r later) (sym e) (subst (λ p. Starting routes v (drop (suc i) readers) (row_started (slice_get routes (get_or readers i 0)) v row) p) (sym f) t))

  pub closing_along : (node : ℕ) (entering : List ℕ) (i : ℕ) (row after : List Bool) (pending later : List ℕ) → i < length entering → BeginWithin (length row) routes → Closing routes v node (drop i entering) row pending →
      after ≡ row_passed (slice_get routes (get_or entering i 0)) v node row → later ≡ pending_passed (slice_get routes (get_or entering i 0)) v node row pending → Closing routes v node (drop (i + 1) entering) after later
  closing_along node entering i row after pending later h w s e f =
      let t = closing_step node (get_or entering i 0) (drop (suc i) entering) row pending w (subst (λ l. Closing routes v node l row pending) (drop-cons entering i 0 h) s) in
      let k : suc i ≡ i + 1 = omega arith in
      subst (λ j. Closing routes v node (drop j entering) after later) k (subst (λ r. Closing routes v node (drop (suc i) entering) r later) (sym e) (subst (λ p. Closing routes v node (drop (suc i) entering) (row_passed (slice_get routes (get_or entering i 0)) v node row) p) (sym f) t))

  -- the node does not matter where nothing is to do
  pub closing_any : (n m : ℕ) (row : List Bool) (pending : List ℕ) → Closing routes v n [] row pending → Closing routes v m [] row pending
  closing_any n m row pending s = record {
    sound = s.sound;
    marked = s.marked;
    node_marked = λ i h. absurd h;
    started = s.started;
    closed = λ i c r e k f a. elim (s.closed i c r e k f a) [ inl p ↦ inl p | inr z ↦ elim z [ inl p ↦ inr (inl p) | inr p ↦ absurd p.1 ] ];
  }

pub unmarked_more : (row : List Bool) (b : ℕ) → is_marked (row ++ false ∷ []) b ≡ true → is_marked row b ≡ true
unmarked_more [] zero h = absurd (cc)
unmarked_more [] (suc b) h = h
unmarked_more (x ∷ row) zero h = h
unmarked_more (x ∷ row) (suc b) h = unmarked_more row b h

pub empty_list : {A : Type 0} (xs : List A) → length xs ≡ 0 → xs ≡ []
empty_list [] h = refl
empty_list (x ∷ xs) h = absurd (omega arith)

-- what following does to marks, and to what pends

spreads_none : (row : List Bool) (pending : List ℕ) → Spreads row row pending pending
spreads_none row pending = record { keeps = λ b m. m; anew = λ b m. inl m; pends = λ b m. m }

spreads_by : (row : List Bool) (pending : List ℕ) (n : ℕ) → n < length row → (t : Bool) → Spreads row (cond t (marked_row row n) row) pending (cond t (marked_pending row pending n) pending)
spreads_by row pending n h true =
    let m = marks row pending n h in
    record { keeps = m.keeps; anew = λ b k. elim (m.only b k) [ inl a ↦ inl a | inr q ↦ inr q.1 ]; pends = m.pending_keeps }
spreads_by row pending n h false = spreads_none row pending

spreads_on : (routes : List Route) (v node i : ℕ) (o : Option Route) (row : List Bool) (pending : List ℕ) → BeginWithin (length row) routes → slice_get routes i ≡ o → Spreads row (row_passed o v node row) pending (pending_passed o v node row pending)
spreads_on routes v node i None row pending w e = spreads_none row pending
spreads_on routes v node i (Some r) row pending w e = spreads_by row pending r.from (w i r e) (passes r v node)

spreads_then : (a b c : List Bool) (p q r : List ℕ) → Spreads a b p q → Spreads b c q r → Spreads a c p r
spreads_then a b c p q r s t = record {
  keeps = λ n m. t.keeps n (s.keeps n m);
  anew = λ n m. elim (t.anew n m) [ inl k ↦ elim (s.anew n k) [ inl x ↦ inl x | inr y ↦ inr (t.pends n y) ] | inr k ↦ inr k ];
  pends = λ n m. t.pends n (s.pends n m);
}

pub spreads_along : (routes : List Route) (v node i : ℕ) (first row after : List Bool) (begun pending later : List ℕ) → BeginWithin (length row) routes → Spreads first row begun pending →
    after ≡ row_passed (slice_get routes i) v node row → later ≡ pending_passed (slice_get routes i) v node row pending → Spreads first after begun later
spreads_along routes v node i first row after begun pending later w s e f =
    spreads_then first row after begun pending later s (subst (λ r. Spreads row r pending later) (sym e) (subst (λ p. Spreads row (row_passed (slice_get routes i) v node row) pending p) (sym f) (spreads_on routes v node i (slice_get routes i) row pending w refl)))

-- each marked node pends or has been found
pub record Tracked (row : List Bool) (pending found : List ℕ) : Type 0 where
  pub each : (b : ℕ) → is_marked row b ≡ true → IsIn b pending ⊎ IsIn b found
  pub marked : (b : ℕ) → IsIn b found → is_marked row b ≡ true

pub tracked_first : (row : List Bool) (pending : List ℕ) → ((b : ℕ) → is_marked row b ≡ true → IsIn b pending) → Tracked row pending []
tracked_first row pending h = record { each = λ b m. inl (h b m); marked = λ b m. absurd m }

-- a pending node is found, and nodes that are marked from it pend
pub tracked_next : (row after : List Bool) (pending rest later found more : List ℕ) (node : ℕ) → Tracked row pending found → is_marked row node ≡ true → pending ≡ rest ++ node ∷ [] → more ≡ found ++ node ∷ [] → Spreads row after rest later → Tracked after later more
tracked_next row after pending rest later found more node t m e f s = record {
  each = λ b k. elim (s.anew b k) [
    | inl a ↦ elim (t.each b a) [
      | inl p ↦ elim (in_front_or_last b node rest (subst (IsIn b) e p)) [
        | inl x ↦ inl (s.pends b x)
        | inr q ↦ inr (subst (IsIn b) (sym f) (subst (λ x. IsIn x (found ++ node ∷ [])) (sym q) (in_last node found)))
      ]
      | inr p ↦ inr (subst (IsIn b) (sym f) (in_left b found (node ∷ []) p))
    ]
    | inr a ↦ inl a
  ];
  marked = λ b k. elim (in_front_or_last b node found (subst (IsIn b) f k)) [
    | inl p ↦ s.keeps b (t.marked b p)
    | inr q ↦ s.keeps b (subst (λ x. is_marked row x ≡ true) (sym q) m)
  ];
}

pub tracked_all : (row : List Bool) (found : List ℕ) → Tracked row [] found → (b : ℕ) → (is_marked row b ≡ true) ↔ IsIn b found
tracked_all row found t b = (λ m. elim (t.each b m) [ inl p ↦ absurd p | inr p ↦ p ], t.marked b)

-- marks are taken away

pub marked_below : (row : List Bool) (b : ℕ) → is_marked row b ≡ true → b < length row
marked_below [] b h = absurd (cc)
marked_below (x ∷ row) zero h = omega arith
marked_below (x ∷ row) (suc b) h = let k = marked_below row b h in omega arith

clear_only : (row : List Bool) (p b : ℕ) → is_marked (slice_set row p false) b ≡ true → (is_marked row b ≡ true) × (b ≡ p → ⊥)
clear_only [] p b h = absurd (cc)
clear_only (x ∷ row) zero zero h = absurd (cc)
clear_only (x ∷ row) zero (suc b) h = (h, λ e. absurd (omega (arith, e)))
clear_only (x ∷ row) (suc p) zero h = (h, λ e. absurd (omega (arith, e)))
clear_only (x ∷ row) (suc p) (suc b) h = let k = clear_only row p b h in (k.0, λ e. k.1 (omega (arith, e)))

clear_rest : (row : List Bool) (p b : ℕ) → is_marked (slice_set row p false) b ≡ false → (is_marked row b ≡ false) ⊎ (b ≡ p)
clear_rest [] p b h = inl h
clear_rest (x ∷ row) zero zero h = inr refl
clear_rest (x ∷ row) zero (suc b) h = inl h
clear_rest (x ∷ row) (suc p) zero h = inl h
clear_rest (x ∷ row) (suc p) (suc b) h = elim (clear_rest row p b h) [ inl m ↦ inl m | inr e ↦ inr (ap suc e) ]

both_ways : (t : Bool) → t ≡ true → t ≡ false → ⊥
both_ways true e f = absurd (cc)
both_ways false e f = absurd (cc)

-- so far: the value is under each node whose mark is away, and the nodes that are still marked are to come
pub record Putting (value : ℕ) (first marks : List Bool) (before now : List (List ℕ)) (todo : List ℕ) : Type 0 where
  pub comes : (b : ℕ) → is_marked marks b ≡ true → IsIn b todo
  pub was : (b : ℕ) → is_marked marks b ≡ true → is_marked first b ≡ true
  pub still : (b : ℕ) → is_marked marks b ≡ true → row_at now b ≡ row_at before b
  pub put : (b : ℕ) → is_marked first b ≡ true → is_marked marks b ≡ false → row_at now b ≡ row_at before b ++ value ∷ []
  pub other : (b : ℕ) → is_marked first b ≡ false → row_at now b ≡ row_at before b

pub putting_first : (value : ℕ) (marks : List Bool) (rows : List (List ℕ)) (todo : List ℕ) → ((b : ℕ) → is_marked marks b ≡ true → IsIn b todo) → Putting value marks marks rows rows todo
putting_first value marks rows todo h = record {
  comes = h;
  was = λ b m. m;
  still = λ b m. refl;
  put = λ b m n. absurd (both_ways (is_marked marks b) m n);
  other = λ b m. refl;
}

putting_by : (value : ℕ) (first row : List Bool) (before now after : List (List ℕ)) (node : ℕ) (todo : List ℕ) → Putting value first row before now (node ∷ todo) → (t : Bool) → is_marked row node ≡ t →
    (is_marked row node ≡ true → Added node value now after) → (is_marked row node ≡ false → after ≡ now) → Putting value first (cond t (slice_set row node false) row) before after todo
putting_by value first row before now after node todo s true e a n =
    let d = a e in
    record {
      comes = λ b m. let k = clear_only row node b m in elim (s.comes b k.0) [ inl q ↦ absurd (k.1 q) | inr q ↦ q ];
      was = λ b m. s.was b (clear_only row node b m).0;
      still = λ b m. let k = clear_only row node b m in d.elsewhere b k.1 ∙ s.still b k.0;
      put = λ b m z. at_node b (is_marked row b) refl m z d;
      other = λ b m. d.elsewhere b (λ q. both_ways (is_marked first b) (subst (λ x. is_marked first x ≡ true) (sym q) (s.was node e)) m) ∙ s.other b m;
    }
  where
    at_node : (b : ℕ) (u : Bool) → is_marked row b ≡ u → is_marked first b ≡ true → is_marked (slice_set row node false) b ≡ false → Added node value now after → row_at after b ≡ row_at before b ++ value ∷ []
    at_node b false u m z d = d.elsewhere b (λ q. both_ways (is_marked row b) (subst (λ x. is_marked row x ≡ true) (sym q) e) u) ∙ s.put b m u
    at_node b true u m z d = elim (clear_rest row node b z) [
      | inl k ↦ absurd (both_ways (is_marked row b) u k)
      | inr q ↦ subst (λ x. row_at after x ≡ row_at before x ++ value ∷ []) (sym q) (d.there ∙ ap (λ l. l ++ value ∷ []) (s.still node e))
    ]
putting_by value first row before now after node todo s false e a n =
    subst (λ rows. Putting value first row before rows todo) (sym (n e)) (record {
      comes = λ b m. elim (s.comes b m) [ inl q ↦ absurd (both_ways (is_marked row node) (subst (λ x. is_marked row x ≡ true) q m) e) | inr q ↦ q ];
      was = s.was;
      still = s.still;
      put = s.put;
      other = s.other;
    })

pub putting_along : (value : ℕ) (first marks later : List Bool) (before now after : List (List ℕ)) (found : List ℕ) (i : ℕ) → i < length found → Putting value first marks before now (drop i found) → later ≡ cleared_row marks (get_or found i 0) →
    (is_marked marks (get_or found i 0) ≡ true → Added (get_or found i 0) value now after) → (is_marked marks (get_or found i 0) ≡ false → after ≡ now) → Putting value first later before after (drop (i + 1) found)
putting_along value first marks later before now after found i h s e a n =
    let node = get_or found i 0 in
    let k : suc i ≡ i + 1 = omega arith in
    subst (λ j. Putting value first later before after (drop j found)) k
    (subst (λ m. Putting value first m before after (drop (suc i) found)) (sym e)
    (putting_by value first marks before now after node (drop (suc i) found) (subst (λ l. Putting value first marks before now l) (drop-cons found i 0 h) s) (is_marked marks node) refl a n))

true_or_false : (t : Bool) → (t ≡ true) ⊎ (t ≡ false)
true_or_false true = inl refl
true_or_false false = inr refl

pub putting_ends : (value : ℕ) (first marks : List Bool) (before now : List (List ℕ)) → Putting value first marks before now [] → PutUnder value first before now
putting_ends value first marks before now s = record {
  marked = λ b m. elim (true_or_false (is_marked marks b)) [ inl k ↦ absurd (s.comes b k) | inr k ↦ s.put b m k ];
  unmarked = s.other;
}

pub in_along : (found : List ℕ) (i : ℕ) → i < length found → IsIn (get_or found i 0) found
in_along [] i h = absurd (omega arith)
in_along (x ∷ xs) zero h = inl refl
in_along (x ∷ xs) (suc i) h = inr (in_along xs i (omega arith))
