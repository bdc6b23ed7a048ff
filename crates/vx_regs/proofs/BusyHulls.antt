-- The notes of names, of live values at nodes and of writes in flight make the hulls of all places at which values are busy.
use Rattle.std.proofs.Common.{◌≡◌, ◌⊎◌, ◌<◌, ◌≤◌, ◌+◌, ◌-◌, ℕ, zero, suc, Bool, true, false, Option, Some, None, List, [], ◌∷◌, ◌++◌, length, inl, inr, sym, ap, subst, refl, arith, ◌∙◌, slice_get}
use Rattle.std.specs.Prelude.{IsTrue}
use Rattle.std.specs.List.{flat_map}
use Rattle.std.proofs.lemmas.Option.{slice_get_within}
use Rattle.vx_flow.specs.declared.graph.Op.{Op}
use Rattle.vx_flow.specs.Effects.{IsIn, writes}
use Rattle.vx_flow.specs.Rows.{lives}
use Rattle.vx_mixed.specs.declared.layout.Laid.{Laid}
use Rattle.vx_mixed.specs.declared.layout.Laid.TheVariants.{Plain, Split}
use Rattle.vx_mixed.specs.declared.layout.VirtualWord.{VirtualWord}
use Rattle.vx_mixed.specs.declared.layout.VirtualWord.TheVariants.{Planned, Drain, Transfer, Choice, Call, Return, Ends}
use Rattle.vx_mixed.specs.declared.layout.VWords.{VWords}
use Rattle.vx_mixed.specs.LaidSettled.{LeadsTo, Pends, cycles_of}
use Rattle.vx_mixed.specs.LaidSettled.Pends.{written, later}
use Rattle.vx_regs.specs.declared.hulls.Hull.{Hull}
use Rattle.vx_regs.specs.declared.liveness.Living.{Living}
use Rattle.vx_regs.specs.BusyPlaces.{AreHulls, Flight, LiveNear, NamedBelow, WroteBelow, leads_list, nodes_near, split_places}
use Rattle.vx_regs.specs.BusyPlaces.Flight.{stays, goes}
use Rattle.vx_regs.specs.Hulls.{AtEdge, Notes, Spanned, hull_at}
use Rattle.vx_regs.specs.Intervals.{IsBusy, IsLive, word_reads, word_writes}
use Rattle.vx_regs.specs.Intervals.IsBusy.{is_live, is_named, is_pending}
use Rattle.vx_regs.specs.Intervals.IsLive.{here, beyond}
use Rattle.vx_regs.specs.Ways.{LivesAtNodes, ends_at, node_in, node_list, word_ways}
use Rattle.vx_regs.proofs.Marking.{in_either, in_left, in_right}
use Rattle.vx_regs.proofs.NodeMarks.{Inside, leads_node, leads_next}
use Rattle.vx_mixed.proofs.Alike.{in_or}
use Rattle.vx_regs.proofs.WayLives.{list_in, in_list, ways_back, ways_there}

some_is : {A : Type 0} {x y : A} → Some x ≡ Some y → x ≡ y
some_is e = cc

-- where a word leads, as a list

split_in : (items : List Laid) (test q : ℕ) (y : Bool) → IsIn (Split test y q) items → IsIn q (flat_map split_places items)
split_in [] test q y i = absurd i
split_in (x ∷ xs) test q y (inl e) = in_left q (split_places x) (flat_map split_places xs) (subst (λ z. IsIn q (split_places z)) e (inl refl))
split_in (x ∷ xs) test q y (inr i) = in_right q (split_places x) (flat_map split_places xs) (split_in xs test q y i)

in_split : (items : List Laid) (q : ℕ) → IsIn q (flat_map split_places items) → (test : ℕ) × (y : Bool) × IsIn (Split test y q) items
in_split [] q i = absurd i
in_split (Plain op k ∷ xs) q i = let r = in_split xs q i in (r.0, r.1, inr r.2)
in_split (Split test y to ∷ xs) q (inl e) = (test, y, inl (ap (Split test y) e))
in_split (Split test y to ∷ xs) q (inr i) = let r = in_split xs q i in (r.0, r.1, inr r.2)

next_is : (p : ℕ) → p + 1 ≡ suc p
next_is p = omega arith

pub leads_in : (p q : ℕ) (word : VirtualWord) → LeadsTo p word q → IsIn q (leads_list p word)
leads_in p q (Planned r w items) (inl e) = in_right q (flat_map split_places items) ((p + 1) ∷ []) (inl (e ∙ sym (next_is p)))
leads_in p q (Planned r w items) (inr s) = in_left q (flat_map split_places items) ((p + 1) ∷ []) (split_in items s.0 q s.1 s.2)
leads_in p q (Drain n) e = inl (e ∙ sym (next_is p))
leads_in p q (Transfer to) e = inl e
leads_in p q (Choice test to) (inl e) = inl e
leads_in p q (Choice test to) (inr e) = inr (inl (e ∙ sym (next_is p)))
leads_in p q (Call g arguments result) e = inl (e ∙ sym (next_is p))
leads_in p q (Return x) e = absurd e
leads_in p q (Ends k) e = absurd e

in_one : (p q : ℕ) → IsIn q ((p + 1) ∷ []) → q ≡ suc p
in_one p q (inl e) = e ∙ next_is p
in_one p q (inr i) = absurd i

in_leads : (p q : ℕ) (word : VirtualWord) → IsIn q (leads_list p word) → LeadsTo p word q
in_leads p q (Planned r w items) i = by (in_either q (flat_map split_places items) ((p + 1) ∷ []) i)
  where
    by : IsIn q (flat_map split_places items) ⊎ IsIn q ((p + 1) ∷ []) → LeadsTo p (Planned r w items) q
    by (inl j) = inr (in_split items q j)
    by (inr j) = inl (in_one p q j)
in_leads p q (Drain n) i = in_one p q i
in_leads p q (Transfer to) (inl e) = e
in_leads p q (Transfer to) (inr i) = absurd i
in_leads p q (Choice test to) (inl e) = inl e
in_leads p q (Choice test to) (inr i) = inr (in_one p q i)
in_leads p q (Call g arguments result) i = in_one p q i
in_leads p q (Return x) i = absurd i
in_leads p q (Ends k) i = absurd i

-- a write in flight pends, and what pends is in flight

flight_more : (words : List VirtualWord) (p n q k r : ℕ) (word : VirtualWord) → Flight words p n q k → slice_get words q ≡ Some word → IsIn r (leads_list q word) → Flight words p n r (k - cycles_of word)
flight_more words p n q k r word stays at i = goes r at i stays
flight_more words p n q k r word (goes s at' j f) at i = goes s at' j (flight_more words s _ q k r word f at i)

module _ (latency : Op → ℕ) (l : VWords) where
  flown : (v p n q k : ℕ) → Flight l.words p n q k → Pends latency l p v n → Pends latency l q v k
  flown v p n q k stays h = h
  flown v p n q k (goes {word = word} r at i f) h = flown v r (n - cycles_of word) q k f (later p n word h at (in_leads p r word i))

  -- a write is in flight from where its word leads
  record Flown (v place left : ℕ) : Type 0 where
    pub from : ℕ
    pub region : ℕ
    pub number : ℕ
    pub items : List Laid
    pub there : slice_get l.words from ≡ Some (Planned region number items)
    pub op : Op
    pub cluster : ℕ
    pub is_item : IsIn (Plain op cluster) items
    pub writes_it : IsIn v (writes op)
    pub target : ℕ
    pub is_target : IsIn target (leads_list from (Planned region number items))
    pub flight : Flight l.words target (latency op - 1) place left

  pends_flown : (p v n : ℕ) → Pends latency l p v n → Flown v p n
  pends_flown p v n (written {p = from} {r = r} {w = w} {items = items} op cluster at i m leads) =
      record { from = from; region = r; number = w; items = items; there = at; op = op; cluster = cluster; is_item = i; writes_it = m; target = p; is_target = leads_in from p (Planned r w items) leads; flight = stays }
  pends_flown p v n (later q k word h at leads) =
      let f = pends_flown q v k h in
      record { from = f.from; region = f.region; number = f.number; items = f.items; there = f.there; op = f.op; cluster = f.cluster; is_item = f.is_item; writes_it = f.writes_it; target = f.target; is_target = f.is_target; flight = flight_more l.words f.target (latency f.op - 1) q k p word f.flight at (leads_in q p word leads) }

  wrote_pends : (v p : ℕ) → WroteBelow latency l.words (length l.words) v p → (k : ℕ) × Pends latency l p v (suc k)
  wrote_pends v p b =
      let w = b.wrote in
      let o = w.wrote in
      let f = o.flies in
      let g = f.flies in
      let r = g.1 in
      let at : slice_get l.words b.from ≡ Some (Planned w.region w.number w.items) = b.there ∙ ap Some w.is in
      let i : IsIn f.target (leads_list b.from (Planned w.region w.number w.items)) = subst (λ z. IsIn f.target (leads_list b.from z)) w.is f.is_target in
      (r.0, flown v f.target (latency o.op - 1) p (suc r.0) r.1 (written o.op o.cluster at o.is_item o.writes_it (in_leads b.from f.target (Planned w.region w.number w.items) i)))

  pends_wrote : (v p k : ℕ) → Pends latency l p v (suc k) → WroteBelow latency l.words (length l.words) v p
  pends_wrote v p k h =
      let f = pends_flown p v (suc k) h in
      record {
        from = f.from;
        word = Planned f.region f.number f.items;
        below = slice_get_within l.words f.from (Planned f.region f.number f.items) f.there;
        there = f.there;
        wrote = record {
          region = f.region;
          number = f.number;
          items = f.items;
          is = refl;
          wrote = record { op = f.op; cluster = f.cluster; is_item = f.is_item; writes_it = f.writes_it; flies = record { target = f.target; is_target = f.is_target; flies = (refl, (k, f.flight)) } };
        };
      }

  module _ (living : Living) (right : LivesAtNodes l living) (inside : Inside l) (a b c : List (Option Hull)) (count : ℕ) (counted : count ≡ length a)
      (names : Notes (NamedBelow l.words (length l.words)) [] a)
      (lively : Notes (LiveNear living.live living.nodes.numbers l.words count (length l.words)) a b)
      (pending : Notes (WroteBelow latency l.words (length l.words)) b c) where
    named_below : (v p : ℕ) (word : VirtualWord) → slice_get l.words p ≡ Some word → IsIn v (word_reads word ++ word_writes word) → NamedBelow l.words (length l.words) v p
    named_below v p word at i = record { word = word; below = slice_get_within l.words p word at; there = at; named = i }

    spanned_named : (v p : ℕ) (word : VirtualWord) → slice_get l.words p ≡ Some word → IsIn v (word_reads word ++ word_writes word) → Spanned c v p
    spanned_named v p word at i = pending.kept v p (lively.kept v p (names.more v p (named_below v p word at i)))

    -- a live value is one of the first, since some word names it
    few_there : (hulls : List (Option Hull)) (v : ℕ) (h : Hull) → hull_at hulls v ≡ Some h → v < length hulls
    few_there [] v h e = absurd (let f : None ≡ Some h = e in cc)
    few_there (x ∷ xs) zero h e = omega arith
    few_there (x ∷ xs) (suc v) h e = let g = few_there xs v h e in omega arith

    live_few : (p v : ℕ) → IsLive l p v → v < count
    live_few p v (here {word = word} at i) =
        let s = names.more v p (named_below v p word at (in_left v (word_reads word) (word_writes word) i)) in
        let f = few_there a v s.hull s.is in
        omega arith
    live_few p v (beyond {q = q} at n leads more) = live_few q v more

    near : (p v n : ℕ) (word : VirtualWord) → slice_get l.words p ≡ Some word → IsIn n (nodes_near living.nodes.numbers p word) → IsTrue (lives living.live n v) → v < count → Spanned c v p
    near p v n word at i h few = pending.kept v p (lively.more v p (record { word = word; below = slice_get_within l.words p word at; there = at; live = record { node = n; is_node = i; few = few; live = h; place_is = refl } }))

    at_node : (p v n : ℕ) (word : VirtualWord) → slice_get l.words p ≡ Some word → node_in living.nodes.numbers p ≡ Some n → IsLive l p v → Spanned c v p
    at_node p v n word at e h =
        near p v n word at (in_left n (node_list (node_in living.nodes.numbers p)) (word_ways living.nodes.numbers (p + 1) word) (list_in (node_in living.nodes.numbers p) n e)) ((right.exact p n v e).1 h) (live_few p v h)

    above_node : (p q v n : ℕ) (word : VirtualWord) → slice_get l.words p ≡ Some word → LeadsTo p word q → node_in living.nodes.numbers q ≡ Some n → IsLive l q v → Spanned c v p
    above_node p q v n word at leads e h =
        let i : IsIn n (word_ways living.nodes.numbers (suc p) word) = ways_there living.nodes.numbers p word q n leads e in
        let j : IsIn n (word_ways living.nodes.numbers (p + 1) word) = subst (λ z. IsIn n (word_ways living.nodes.numbers z word)) (sym (next_is p)) i in
        near p v n word at (in_right n (node_list (node_in living.nodes.numbers p)) (word_ways living.nodes.numbers (p + 1) word) j) ((right.exact q n v e).1 h) (live_few q v h)

    word_of : (p v : ℕ) → IsLive l p v → (word : VirtualWord) × (slice_get l.words p ≡ Some word)
    word_of p v (here {word = word} at i) = (word, at)
    word_of p v (beyond {word = word} at n leads more) = (word, at)

    -- further on it is noted
    higher : (p v : ℕ) → IsLive l p v → (q : ℕ) × (p ≤ q) × Spanned c v q
    higher p v (here {word = word} at i) = (p, (let g : p ≤ p = omega arith in g), spanned_named v p word at (in_left v (word_reads word) (word_writes word) i))
    higher p v (beyond {q = q} {word = word} at n leads more) = by (ends_at living.nodes.numbers (suc p) word) refl (higher q v more)
      where
        by : (x : Bool) → ends_at living.nodes.numbers (suc p) word ≡ x → (r : ℕ) × (q ≤ r) × Spanned c v r → (r : ℕ) × (p ≤ r) × Spanned c v r
        by true e r =
            let m = leads_node l living.nodes right.nodes inside p q word at leads e in
            (p, (let g : p ≤ p = omega arith in g), above_node p q v m.0 word at leads m.1 more)
        by false e r =
            let s : q ≡ suc p = leads_next l living.nodes right.nodes inside p q word at leads e in
            let g = r.1 in
            (r.0, omega arith, r.2)

    -- and before it, or there
    lower : (p v : ℕ) → IsLive l p v → (q : ℕ) × (q ≤ p) × Spanned c v q
    lower zero v h = by (right.ways.reached zero (slice_get_within l.words zero (word_of zero v h).0 (word_of zero v h).1))
      where
        by : ((n : ℕ) × (node_in living.nodes.numbers zero ≡ Some n)) ⊎ ((p : ℕ) × (word : VirtualWord) × (zero ≡ suc p) × (slice_get l.words p ≡ Some word) × LeadsTo p word zero) → (q : ℕ) × (q ≤ zero) × Spanned c v q
        by (inl n) = (zero, (let g : zero ≤ zero = omega arith in g), at_node zero v n.0 (word_of zero v h).0 (word_of zero v h).1 n.1 h)
        by (inr r) = absurd (let e = r.2 in omega arith)
    lower (suc p) v h = by (λ w at leads n. lower p v (beyond at n leads h)) (right.ways.reached (suc p) (slice_get_within l.words (suc p) (word_of (suc p) v h).0 (word_of (suc p) v h).1))
      where
        above : ((w : VirtualWord) → slice_get l.words p ≡ Some w → LeadsTo p w (suc p) → (IsIn v (word_writes w) → ⊥) → (q : ℕ) × (q ≤ p) × Spanned c v q) → (w : VirtualWord) → slice_get l.words p ≡ Some w → LeadsTo p w (suc p) → IsIn v (word_writes w) ⊎ (IsIn v (word_writes w) → ⊥) → (q : ℕ) × (q ≤ suc p) × Spanned c v q
        above on w at leads (inl i) = (p, (let g : p ≤ suc p = omega arith in g), spanned_named v p w at (in_right v (word_reads w) (word_writes w) i))
        above on w at leads (inr n) = let r = on w at leads n in let g = r.1 in (r.0, omega arith, r.2)

        by : ((w : VirtualWord) → slice_get l.words p ≡ Some w → LeadsTo p w (suc p) → (IsIn v (word_writes w) → ⊥) → (q : ℕ) × (q ≤ p) × Spanned c v q) → ((n : ℕ) × (node_in living.nodes.numbers (suc p) ≡ Some n)) ⊎ ((q : ℕ) × (word : VirtualWord) × (suc p ≡ suc q) × (slice_get l.words q ≡ Some word) × LeadsTo q word (suc p)) → (q : ℕ) × (q ≤ suc p) × Spanned c v q
        by on (inl n) = (suc p, (let g : suc p ≤ suc p = omega arith in g), at_node (suc p) v n.0 (word_of (suc p) v h).0 (word_of (suc p) v h).1 n.1 h)
        by on (inr r) =
            let e = r.2 in
            let same : r.0 ≡ p = omega arith in
            let at : slice_get l.words p ≡ Some r.1 = ap (slice_get l.words) (sym same) ∙ r.3 in
            let leads : LeadsTo p r.1 (suc p) = subst (λ z. LeadsTo z r.1 (suc p)) same r.4 in
            above on r.1 at leads (in_or v (word_writes r.1))

    between : (v x p y : ℕ) → x ≤ p → p ≤ y → Spanned c v x → Spanned c v y → Spanned c v p
    between v x p y low high s t =
        let e : s.hull ≡ t.hull = some_is (sym s.is ∙ t.is) in
        let f = s.below in
        let g : p ≤ s.hull.to = subst (λ z. p ≤ z.to) (sym e) (let k = t.above in omega arith) in
        record { hull = s.hull; is = s.is; below = omega arith; above = g }

    all_spanned : (v p : ℕ) → IsBusy latency l p v → Spanned c v p
    all_spanned v p (is_live h) = let x = lower p v h in let y = higher p v h in between v x.0 p y.0 x.1 y.1 x.2 y.2
    all_spanned v p (is_named {word = word} at i) = spanned_named v p word at i
    all_spanned v p (is_pending {left = left} h) = pending.more v p (pends_wrote v p left h)

    -- what is noted is busy

    busy_name : (v p : ℕ) → NamedBelow l.words (length l.words) v p → IsBusy latency l p v
    busy_name v p n = is_named n.there n.named

    busy_near : (v p : ℕ) → LiveNear living.live living.nodes.numbers l.words count (length l.words) v p → IsBusy latency l p v
    busy_near v p m =
        let k = m.live in
        by k.node k.live (in_either k.node (node_list (node_in living.nodes.numbers p)) (word_ways living.nodes.numbers (p + 1) m.word) k.is_node)
      where
        behind : (n q : ℕ) → IsTrue (lives living.live n v) → LeadsTo p m.word q → node_in living.nodes.numbers q ≡ Some n → IsIn v (word_writes m.word) ⊎ (IsIn v (word_writes m.word) → ⊥) → IsBusy latency l p v
        behind n q h leads e (inl i) = is_named m.there (in_right v (word_reads m.word) (word_writes m.word) i)
        behind n q h leads e (inr none) = is_live (beyond m.there none leads ((right.exact q n v e).0 h))

        by : (n : ℕ) → IsTrue (lives living.live n v) → IsIn n (node_list (node_in living.nodes.numbers p)) ⊎ IsIn n (word_ways living.nodes.numbers (p + 1) m.word) → IsBusy latency l p v
        by n h (inl i) = is_live ((right.exact p n v (in_list (node_in living.nodes.numbers p) n i)).0 h)
        by n h (inr i) =
            let t = ways_back living.nodes.numbers p m.word n (subst (λ z. IsIn n (word_ways living.nodes.numbers z m.word)) (next_is p) i) in
            behind n t.0 h t.1 t.2 (in_or v (word_writes m.word))

    busy_wrote : (v p : ℕ) → WroteBelow latency l.words (length l.words) v p → IsBusy latency l p v
    busy_wrote v p w = let r = wrote_pends v p w in is_pending r.1

    busy_edge : (v p : ℕ) → AtEdge c v p → IsBusy latency l p v
    busy_edge v p e = third (pending.only v p e)
      where
        first : NamedBelow l.words (length l.words) v p ⊎ AtEdge [] v p → IsBusy latency l p v
        first (inl n) = busy_name v p n
        first (inr x) = absurd (let f : None ≡ Some x.hull = x.is in cc)

        second : LiveNear living.live living.nodes.numbers l.words count (length l.words) v p ⊎ AtEdge a v p → IsBusy latency l p v
        second (inl n) = busy_near v p n
        second (inr x) = first (names.only v p x)

        third : WroteBelow latency l.words (length l.words) v p ⊎ AtEdge b v p → IsBusy latency l p v
        third (inl n) = busy_wrote v p n
        third (inr x) = second (lively.only v p x)

    pub are_hulls : AreHulls latency l c
    are_hulls = record { all = all_spanned; edges = busy_edge }
