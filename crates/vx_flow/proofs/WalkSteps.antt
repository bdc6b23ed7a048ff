-- One step of the depth-first walk, and its end.
use Rattle.std.proofs.Common.{◌≡◌, inl, inr, ◌↔◌, ℕ, zero, suc, ◌+◌, ◌-◌, ◌<◌, ◌≤◌, Bool, true, false, cond, List, [], ◌∷◌, ◌++◌, length, drop, slice_get, slice_set, Option, Some, None, refl, sym, ap, subst, ◌∙◌, arith, append_assoc, append-nil}
use Rattle.std.specs.Option.{IfSome}
use Rattle.vx_flow.specs.declared.graph.Graph.{Graph}
use Rattle.vx_flow.specs.declared.graph.Edge.{Edge}
use Rattle.vx_flow.specs.declared.walk.Place.{Place}
use Rattle.vx_flow.specs.Effects.{IsIn}
use Rattle.vx_flow.specs.Rows.{is_marked}
use Rattle.vx_flow.specs.Walk.{Walks, BackEdges, edge, numbers, successors}
use Rattle.vx_flow.specs.Walking.{LeadWithin, Walking, Rest, Distinct, place, path_of, back_after, path_after, path_begun, places_after, places_begun, seen_after, seen_begun}
use Rattle.vx_tables.proofs.Marks.{set_only, set_keeps, set_self}

-- lists

drop_none : (xs : List ℕ) (k : ℕ) → slice_get xs k ≡ None → drop k xs ≡ []
drop_none [] zero e = refl
drop_none [] (suc k) e = refl
drop_none (x ∷ xs) zero e = absurd (cc)
drop_none (x ∷ xs) (suc k) e = drop_none xs k e

drop_some : (xs : List ℕ) (k c : ℕ) → slice_get xs k ≡ Some c → drop k xs ≡ c ∷ drop (suc k) xs
drop_some [] zero c e = absurd (cc)
drop_some [] (suc k) c e = absurd (cc)
drop_some (x ∷ xs) zero c e = let q : x ≡ c = cc in ap (λ y. y ∷ xs) q
drop_some (x ∷ xs) (suc k) c e = drop_some xs k c e

some_in : (xs : List ℕ) (k c : ℕ) → slice_get xs k ≡ Some c → IsIn c xs
some_in [] k c e = absurd (cc)
some_in (x ∷ xs) zero c e = let q : c ≡ x = cc in inl q
some_in (x ∷ xs) (suc k) c e = inr (some_in xs k c e)

-- marks

pub marked_below : (row : List Bool) (b : ℕ) → is_marked row b ≡ true → b < length row
marked_below [] b h = absurd (cc)
marked_below (x ∷ row) zero h = omega arith
marked_below (x ∷ row) (suc b) h = let k = marked_below row b h in omega arith

unset_only : (row : List Bool) (p b : ℕ) → is_marked (slice_set row p false) b ≡ true → (is_marked row b ≡ true) × (b ≡ p → ⊥)
unset_only [] p b h = absurd (cc)
unset_only (x ∷ row) zero zero h = absurd (cc)
unset_only (x ∷ row) zero (suc b) h = (h, λ e. absurd (cc))
unset_only (x ∷ row) (suc p) zero h = (h, λ e. absurd (cc))
unset_only (x ∷ row) (suc p) (suc b) h = let k = unset_only row p b h in (k.0, λ e. k.1 (cc))

unset_keeps : (row : List Bool) (p b : ℕ) → is_marked row b ≡ true → (b ≡ p → ⊥) → is_marked (slice_set row p false) b ≡ true
unset_keeps [] p b h n = h
unset_keeps (x ∷ row) zero zero h n = absurd (n refl)
unset_keeps (x ∷ row) zero (suc b) h n = h
unset_keeps (x ∷ row) (suc p) zero h n = h
unset_keeps (x ∷ row) (suc p) (suc b) h n = unset_keeps row p b h (λ e. n (ap suc e))

-- one more is marked
marked_more : (row : List Bool) (bs : List ℕ) (c : ℕ) → c < length row → ((b : ℕ) → (is_marked row b ≡ true) ↔ IsIn b bs) → (b : ℕ) → (is_marked (slice_set row c true) b ≡ true) ↔ IsIn b (c ∷ bs)
marked_more row bs c h s b = (
  λ m. elim (set_only row c b m) [ inl k ↦ inr ((s b).0 k) | inr e ↦ inl e ],
  λ m. elim m [ inl e ↦ subst (λ x. is_marked (slice_set row c true) x ≡ true) (sym e) (set_self row c h) | inr k ↦ set_keeps row c b ((s b).1 k) ],
)

marked_less : (row : List Bool) (bs : List ℕ) (c : ℕ) → (IsIn c bs → ⊥) → ((b : ℕ) → (is_marked row b ≡ true) ↔ IsIn b (c ∷ bs)) → (b : ℕ) → (is_marked (slice_set row c false) b ≡ true) ↔ IsIn b bs
marked_less row bs c n s b = (
  λ m. let k = unset_only row c b m in elim ((s b).0 k.0) [ inl e ↦ absurd (k.1 e) | inr i ↦ i ],
  λ m. unset_keeps row c b ((s b).1 (inr m)) (λ e. n (subst (λ x. IsIn x bs) e m)),
)

-- the path

path_snoc : (below : List ℕ) (ps : List Place) (p : Place) → path_of below (ps ++ p ∷ []) ≡ p.block ∷ path_of below ps
path_snoc below [] p = refl
path_snoc below (q ∷ ps) p = path_snoc (q.block ∷ below) ps p

module _ (g : Graph) where
  -- what is said of the end of the path holds of the whole of it
  lift : (path todo : List ℕ) (ps tail tail' : List Place) (seen seen' : List ℕ) (pre : List Edge) →
      ((t after : List ℕ) (back : List Edge) → Rest g (path_of path ps) t tail' seen' after back → Rest g (path_of path ps) t tail seen after (pre ++ back)) →
      (after : List ℕ) (back : List Edge) → Rest g path todo (ps ++ tail') seen' after back → Rest g path todo (ps ++ tail) seen after (pre ++ back)
  lift path todo [] tail tail' seen seen' pre h after back r = h todo after back r
  lift path todo (p ∷ ps) tail tail' seen seen' pre h after back r =
      (r.0, pre ++ r.1, r.2, lift (p.block ∷ path) (drop p.taken (successors g p.block)) ps tail tail' seen seen' pre h r.0 r.1 r.3, r.4, ap (λ l. pre ++ l) r.5 ∙ sym (append_assoc pre r.1 r.2))

  -- a place without a further successor
  ends : (path t : List ℕ) (p : Place) (seen after : List ℕ) (back : List Edge) → slice_get (successors g p.block) p.taken ≡ None → Walks g path t seen after back → Rest g path t (p ∷ []) seen after back
  ends path t p seen after back e w =
      let d : Walks g (p.block ∷ path) (drop p.taken (successors g p.block)) seen seen [] = subst (λ l. Walks g (p.block ∷ path) l seen seen []) (sym (drop_none (successors g p.block) p.taken e)) Walks.done in
      (seen, [], back, d, w, refl)

  along : (path t : List ℕ) (p : Place) (c : ℕ) (seen after : List ℕ) (back : List Edge) → slice_get (successors g p.block) p.taken ≡ Some c →
      Walks g path (c ∷ drop (p.taken + 1) (successors g p.block)) seen after back → Walks g path (drop p.taken (successors g p.block)) seen after back
  along path t p c seen after back e w =
      let z : p.taken + 1 ≡ suc p.taken = omega arith in
      subst (λ l. Walks g path l seen after back) (sym (drop_some (successors g p.block) p.taken c e)) (subst (λ k. Walks g path (c ∷ drop k (successors g p.block)) seen after back) z w)

  comes_back : (path t : List ℕ) (p : Place) (c : ℕ) (seen after : List ℕ) (back : List Edge) → slice_get (successors g p.block) p.taken ≡ Some c → IsIn c (p.block ∷ path) →
      Rest g path t (place p.block (p.taken + 1) ∷ []) seen after back → Rest g path t (p ∷ []) seen after (edge p.block c ∷ back)
  comes_back path t p c seen after back e m r =
      (r.0, edge p.block c ∷ r.1, r.2, along (p.block ∷ path) t p c seen r.0 (edge p.block c ∷ r.1) e (Walks.closes m r.3), r.4, ap (λ l. edge p.block c ∷ l) r.5)

  goes_by : (path t : List ℕ) (p : Place) (c : ℕ) (seen after : List ℕ) (back : List Edge) → slice_get (successors g p.block) p.taken ≡ Some c → (IsIn c (p.block ∷ path) → ⊥) → IsIn c seen →
      Rest g path t (place p.block (p.taken + 1) ∷ []) seen after back → Rest g path t (p ∷ []) seen after back
  goes_by path t p c seen after back e n m r =
      (r.0, r.1, r.2, along (p.block ∷ path) t p c seen r.0 r.1 e (Walks.passes n m r.3), r.4, r.5)

  goes_in : (path t : List ℕ) (p : Place) (c : ℕ) (seen after : List ℕ) (back : List Edge) → slice_get (successors g p.block) p.taken ≡ Some c → (IsIn c seen → ⊥) →
      Rest g path t (place p.block (p.taken + 1) ∷ place c 0 ∷ []) (c ∷ seen) after back → Rest g path t (p ∷ []) seen after back
  goes_in path t p c seen after back e n r =
      let q = r.3 in
      (r.0, q.1 ++ q.2, r.2, along (p.block ∷ path) t p c seen r.0 (q.1 ++ q.2) e (Walks.enters n q.3 q.4), r.4, r.5 ∙ ap (λ l. l ++ r.2) q.5)

  -- steps

  after_none : (root : ℕ) (seen on_path : List Bool) (ps : List Place) (p : Place) (back : List Edge) → Walking g root seen on_path (ps ++ p ∷ []) back → slice_get (successors g p.block) p.taken ≡ None →
      Walking g root seen (slice_set on_path p.block false) ps back
  after_none root seen on_path ps p back w e =
      let d : Distinct (p.block ∷ path_of [] ps) = subst Distinct (path_snoc [] ps p) w.distinct in
      record {
        visited = w.visited;
        seen_is = w.seen_is;
        path_is = marked_less on_path (path_of [] ps) p.block d.0 (λ b. subst (λ l. (is_marked on_path b ≡ true) ↔ IsIn b l) (path_snoc [] ps p) (w.path_is b));
        path_seen = λ b h. w.path_seen b (subst (IsIn b) (sym (path_snoc [] ps p)) (inr h));
        distinct = d.1;
        completes = λ after later r. w.completes after later
            (lift [] (numbers root (length g.blocks - root)) ps (p ∷ []) [] w.visited w.visited [] (λ t aft bk x. ends (path_of [] ps) t p w.visited aft bk e x) after later
            (subst (λ l. Rest g [] (numbers root (length g.blocks - root)) l w.visited after later) (sym (append-nil ps)) r));
      }

  -- the path is the same where one more successor of its end was taken
  same_path : (ps : List Place) (p : Place) (k : ℕ) → path_of [] (ps ++ p ∷ []) ≡ path_of [] (ps ++ place p.block k ∷ [])
  same_path ps p k = path_snoc [] ps p ∙ sym (path_snoc [] ps (place p.block k))

  after_back : (root : ℕ) (seen on_path : List Bool) (ps : List Place) (p : Place) (back : List Edge) (c : ℕ) → Walking g root seen on_path (ps ++ p ∷ []) back → slice_get (successors g p.block) p.taken ≡ Some c → is_marked on_path c ≡ true →
      Walking g root seen on_path (ps ++ place p.block (p.taken + 1) ∷ []) (back ++ edge p.block c ∷ [])
  after_back root seen on_path ps p back c w e m =
      let i : IsIn c (p.block ∷ path_of [] ps) = subst (IsIn c) (path_snoc [] ps p) ((w.path_is c).0 m) in
      record {
        visited = w.visited;
        seen_is = w.seen_is;
        path_is = λ b. subst (λ l. (is_marked on_path b ≡ true) ↔ IsIn b l) (same_path ps p (p.taken + 1)) (w.path_is b);
        path_seen = λ b h. w.path_seen b (subst (IsIn b) (sym (same_path ps p (p.taken + 1))) h);
        distinct = subst Distinct (same_path ps p (p.taken + 1)) w.distinct;
        completes = λ after later r. subst (λ l. Walks g [] (numbers 0 (length g.blocks)) [] after l) (sym (append_assoc back (edge p.block c ∷ []) later)) (w.completes after (edge p.block c ∷ later)
            (lift [] (numbers root (length g.blocks - root)) ps (p ∷ []) (place p.block (p.taken + 1) ∷ []) w.visited w.visited (edge p.block c ∷ []) (λ t aft bk x. comes_back (path_of [] ps) t p c w.visited aft bk e i x) after later r));
      }

  after_known : (root : ℕ) (seen on_path : List Bool) (ps : List Place) (p : Place) (back : List Edge) (c : ℕ) → Walking g root seen on_path (ps ++ p ∷ []) back → slice_get (successors g p.block) p.taken ≡ Some c → is_marked on_path c ≡ false → is_marked seen c ≡ true →
      Walking g root seen on_path (ps ++ place p.block (p.taken + 1) ∷ []) back
  after_known root seen on_path ps p back c w e m s =
      let n : IsIn c (p.block ∷ path_of [] ps) → ⊥ = λ i. let q : is_marked on_path c ≡ true = (w.path_is c).1 (subst (IsIn c) (sym (path_snoc [] ps p)) i) in absurd (cc) in
      let v : IsIn c w.visited = (w.seen_is c).0 s in
      record {
        visited = w.visited;
        seen_is = w.seen_is;
        path_is = λ b. subst (λ l. (is_marked on_path b ≡ true) ↔ IsIn b l) (same_path ps p (p.taken + 1)) (w.path_is b);
        path_seen = λ b h. w.path_seen b (subst (IsIn b) (sym (same_path ps p (p.taken + 1))) h);
        distinct = subst Distinct (same_path ps p (p.taken + 1)) w.distinct;
        completes = λ after later r. w.completes after later
            (lift [] (numbers root (length g.blocks - root)) ps (p ∷ []) (place p.block (p.taken + 1) ∷ []) w.visited w.visited [] (λ t aft bk x. goes_by (path_of [] ps) t p c w.visited aft bk e n v x) after later r);
      }

  after_new : (root : ℕ) (seen on_path : List Bool) (ps : List Place) (p : Place) (back : List Edge) (c : ℕ) → Walking g root seen on_path (ps ++ p ∷ []) back → slice_get (successors g p.block) p.taken ≡ Some c → is_marked seen c ≡ false → c < length seen → c < length on_path →
      Walking g root (slice_set seen c true) (slice_set on_path c true) ((ps ++ place p.block (p.taken + 1) ∷ []) ++ place c 0 ∷ []) back
  after_new root seen on_path ps p back c w e s h k =
      let q = ps ++ place p.block (p.taken + 1) ∷ [] in
      let n : IsIn c w.visited → ⊥ = λ i. let z : is_marked seen c ≡ true = (w.seen_is c).1 i in absurd (cc) in
      let y : path_of [] ((ps ++ place p.block (p.taken + 1) ∷ []) ++ place c 0 ∷ []) ≡ c ∷ path_of [] (ps ++ p ∷ []) =
      path_snoc [] (ps ++ place p.block (p.taken + 1) ∷ []) (place c 0) ∙ ap (λ l. c ∷ l) (sym (same_path ps p (p.taken + 1))) in
      record {
        visited = c ∷ w.visited;
        seen_is = marked_more seen w.visited c h w.seen_is;
        path_is = λ b. subst (λ l. (is_marked (slice_set on_path c true) b ≡ true) ↔ IsIn b l) (sym y) (marked_more on_path (path_of [] (ps ++ p ∷ [])) c k w.path_is b);
        path_seen = λ b i. elim (subst (IsIn b) y i) [ inl z ↦ inl z | inr j ↦ inr (w.path_seen b j) ];
        distinct = subst Distinct (sym y) ((λ i. n (w.path_seen c i)), w.distinct);
        completes = λ after later r. w.completes after later
            (lift [] (numbers root (length g.blocks - root)) ps (p ∷ []) (place p.block (p.taken + 1) ∷ place c 0 ∷ []) w.visited (c ∷ w.visited) [] (λ t aft bk x. goes_in (path_of [] ps) t p c w.visited aft bk e n x) after later
            (subst (λ l. Rest g [] (numbers root (length g.blocks - root)) l (c ∷ w.visited) after later) (append_assoc ps (place p.block (p.taken + 1) ∷ []) (place c 0 ∷ [])) r));
      }

  new_by : (root : ℕ) (seen on_path : List Bool) (ps : List Place) (p : Place) (back : List Edge) (c : ℕ) → Walking g root seen on_path (ps ++ p ∷ []) back → slice_get (successors g p.block) p.taken ≡ Some c → is_marked on_path c ≡ false → c < length seen → c < length on_path →
      (t : Bool) → is_marked seen c ≡ t →
      Walking g root (cond t seen (slice_set seen c true)) (cond t on_path (slice_set on_path c true)) (cond t (ps ++ place p.block (p.taken + 1) ∷ []) ((ps ++ place p.block (p.taken + 1) ∷ []) ++ place c 0 ∷ [])) back
  new_by root seen on_path ps p back c w e m h k true s = after_known root seen on_path ps p back c w e m s
  new_by root seen on_path ps p back c w e m h k false s = after_new root seen on_path ps p back c w e s h k

  some_by : (root : ℕ) (seen on_path : List Bool) (ps : List Place) (p : Place) (back : List Edge) (c : ℕ) → Walking g root seen on_path (ps ++ p ∷ []) back → slice_get (successors g p.block) p.taken ≡ Some c → c < length seen → c < length on_path →
      (t : Bool) → is_marked on_path c ≡ t →
      Walking g root (cond t seen (seen_begun seen c)) (cond t on_path (path_begun seen on_path c)) (cond t (ps ++ place p.block (p.taken + 1) ∷ []) (places_begun seen (ps ++ place p.block (p.taken + 1) ∷ []) c)) (cond t (back ++ edge p.block c ∷ []) back)
  some_by root seen on_path ps p back c w e h k true m = after_back root seen on_path ps p back c w e m
  some_by root seen on_path ps p back c w e h k false m = new_by root seen on_path ps p back c w e m h k (is_marked seen c) refl

  step_on : (root : ℕ) (seen on_path : List Bool) (ps : List Place) (p : Place) (back : List Edge) (next : Option ℕ) → Walking g root seen on_path (ps ++ p ∷ []) back → slice_get (successors g p.block) p.taken ≡ next →
      IfSome next (λ c. c < length seen) → IfSome next (λ c. c < length on_path) → Walking g root (seen_after next seen on_path) (path_after next p seen on_path) (places_after next p seen on_path ps) (back_after next p on_path back)
  step_on root seen on_path ps p back None w e h k = after_none root seen on_path ps p back w e
  step_on root seen on_path ps p back (Some c) w e h k = some_by root seen on_path ps p back c w e h k (is_marked on_path c) refl

  pub walking_step : (root : ℕ) (seen on_path : List Bool) (places ps : List Place) (p : Place) (back : List Edge) (next : Option ℕ) → Walking g root seen on_path places back → places ≡ ps ++ p ∷ [] → next ≡ slice_get (successors g p.block) p.taken →
      IfSome next (λ c. c < length seen) → IfSome next (λ c. c < length on_path) → Walking g root (seen_after next seen on_path) (path_after next p seen on_path) (places_after next p seen on_path ps) (back_after next p on_path back)
  walking_step root seen on_path places ps p back next w q e h k = step_on root seen on_path ps p back next (subst (λ l. Walking g root seen on_path l back) q w) (sym e) h k

  -- the end of the path is a block
  pub last_below : (root : ℕ) (seen on_path : List Bool) (places ps : List Place) (p : Place) (back : List Edge) → Walking g root seen on_path places back → places ≡ ps ++ p ∷ [] → p.block < length on_path
  last_below root seen on_path places ps p back w q = marked_below on_path p.block ((w.path_is p.block).1 (subst (λ l. IsIn p.block (path_of [] l)) (sym q) (subst (IsIn p.block) (sym (path_snoc [] ps p)) (inl refl))))

  pub next_below : (b k n : ℕ) (next : Option ℕ) → LeadWithin g → length g.blocks ≡ n → next ≡ slice_get (successors g b) k → IfSome next (λ c. c < n)
  next_below b k n None l z e = tt
  next_below b k n (Some c) l z e = subst (λ m. c < m) z (l b c (some_in (successors g b) k c (sym e)))

  -- beginnings

  numbers_first : (b n : ℕ) → b < n → numbers b (n - b) ≡ b ∷ numbers (b + 1) (n - (b + 1))
  numbers_first b n h = let e : n - b ≡ suc (n - (b + 1)) = omega arith in ap (numbers b) e

  begin_known : (root : ℕ) (seen on_path : List Bool) (back : List Edge) → Walking g root seen on_path [] back → root < length g.blocks → is_marked seen root ≡ true → Walking g (root + 1) seen on_path [] back
  begin_known root seen on_path back w h s = record {
    visited = w.visited;
    seen_is = w.seen_is;
    path_is = w.path_is;
    path_seen = w.path_seen;
    distinct = w.distinct;
    completes = λ after later r. w.completes after later (subst (λ l. Walks g [] l w.visited after later) (sym (numbers_first root (length g.blocks) h)) (Walks.passes (λ i. i) ((w.seen_is root).0 s) r));
  }

  begin_new : (root : ℕ) (seen on_path : List Bool) (back : List Edge) → Walking g root seen on_path [] back → root < length g.blocks → is_marked seen root ≡ false → root < length seen → root < length on_path →
      Walking g (root + 1) (slice_set seen root true) (slice_set on_path root true) (place root 0 ∷ []) back
  begin_new root seen on_path back w h s k l =
      let n : IsIn root w.visited → ⊥ = λ i. let z : is_marked seen root ≡ true = (w.seen_is root).1 i in absurd (cc) in
      record {
        visited = root ∷ w.visited;
        seen_is = marked_more seen w.visited root k w.seen_is;
        path_is = marked_more on_path [] root l w.path_is;
        path_seen = λ b i. elim i [ inl e ↦ inl e | inr z ↦ absurd z ];
        distinct = ((λ i. i), tt);
        completes = λ after later r. w.completes after later (subst (λ t. Walks g [] t w.visited after later) (sym (numbers_first root (length g.blocks) h)) (subst (λ x. Walks g [] (root ∷ numbers (root + 1) (length g.blocks - (root + 1))) w.visited after x) (sym r.5) (Walks.enters n r.3 r.4)));
      }

  begin_by : (root : ℕ) (seen on_path : List Bool) (back : List Edge) → Walking g root seen on_path [] back → root < length g.blocks → root < length seen → root < length on_path → (t : Bool) → is_marked seen root ≡ t →
      Walking g (root + 1) (cond t seen (slice_set seen root true)) (cond t on_path (slice_set on_path root true)) (cond t [] (place root 0 ∷ [])) back
  begin_by root seen on_path back w h k l true s = begin_known root seen on_path back w h s
  begin_by root seen on_path back w h k l false s = begin_new root seen on_path back w h s k l

  pub walking_begin : (root : ℕ) (seen on_path : List Bool) (places : List Place) (back : List Edge) → Walking g root seen on_path places back → places ≡ [] → root < length g.blocks → root < length seen → root < length on_path →
      Walking g (root + 1) (seen_begun seen root) (path_begun seen on_path root) (places_begun seen [] root) back
  walking_begin root seen on_path places back w e h k l = begin_by root seen on_path back (subst (λ x. Walking g root seen on_path x back) e w) h k l (is_marked seen root) refl

  -- nothing is done at first, and all at last

  pub walking_first : (seen on_path : List Bool) → ((b : ℕ) → is_marked seen b ≡ true → ⊥) → ((b : ℕ) → is_marked on_path b ≡ true → ⊥) → Walking g 0 seen on_path [] []
  walking_first seen on_path m n = record {
    visited = [];
    seen_is = λ b. ((λ h. absurd (m b h)), λ h. absurd h);
    path_is = λ b. ((λ h. absurd (n b h)), λ h. absurd h);
    path_seen = λ b h. absurd h;
    distinct = tt;
    completes = λ after later r. let z : length g.blocks - 0 ≡ length g.blocks = omega arith in subst (λ k. Walks g [] (numbers 0 k) [] after later) z r;
  }

  pub walking_last : (root : ℕ) (seen on_path : List Bool) (places : List Place) (back : List Edge) → Walking g root seen on_path places back → places ≡ [] → length g.blocks ≤ root → BackEdges g back
  walking_last root seen on_path places back w e h =
      let v = subst (λ x. Walking g root seen on_path x back) e w in
      let z : length g.blocks - root ≡ 0 = omega arith in
      let d : Walks g [] (numbers root (length g.blocks - root)) v.visited v.visited [] = subst (λ k. Walks g [] (numbers root k) v.visited v.visited []) (sym z) Walks.done in
      record { after = v.visited; walk = subst (λ l. Walks g [] (numbers 0 (length g.blocks)) [] v.visited l) (append-nil back) (v.completes v.visited [] d) }

  pub walking_same : (root root' : ℕ) (seen seen' on_path on_path' : List Bool) (places places' : List Place) (back back' : List Edge) → Walking g root seen on_path places back → root' ≡ root → seen' ≡ seen → on_path' ≡ on_path → places' ≡ places → back' ≡ back → Walking g root' seen' on_path' places' back'
  walking_same root root' seen seen' on_path on_path' places places' back back' w a b c d e =
      subst (λ r. Walking g r seen' on_path' places' back') (sym a) (subst (λ s. Walking g root s on_path' places' back') (sym b) (subst (λ o. Walking g root seen o places' back') (sym c) (subst (λ p. Walking g root seen on_path p back') (sym d) (subst (λ k. Walking g root seen on_path places k) (sym e) w))))
