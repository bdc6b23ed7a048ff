-- Which places the notes of a layout's words are, one after the other.
use Rattle.std.proofs.Common.{◌==◌, zero, length, ◌≡◌, ◌≢◌, ◌⊎◌, ◌<◌, ◌≤◌, ◌+◌, ◌-◌, ℕ, suc, Bool, true, Option, Some, None, List, [], ◌∷◌, ◌++◌, inl, inr, sym, ap, subst, refl, arith, ◌∙◌, slice_get}
use Rattle.std.specs.List.{list_any}
use Rattle.std.specs.Prelude.{IsTrue}
use Rattle.std.proofs.lemmas.Bool.{cases_lt}
use Rattle.std.proofs.lemmas.Option.{slice_get_within}
use Rattle.vx_flow.specs.declared.graph.Op.{Op}
use Rattle.vx_flow.specs.Effects.{IsIn, writes}
use Rattle.vx_flow.specs.Rows.{lives, row_at}
use Rattle.vx_flow.proofs.ClosingSteps.{any_in, in_any}
use Rattle.vx_mixed.specs.declared.layout.Laid.{Laid}
use Rattle.vx_mixed.specs.declared.layout.Laid.TheVariants.{Plain, Split}
use Rattle.vx_mixed.specs.declared.layout.VirtualWord.{VirtualWord}
use Rattle.vx_mixed.specs.declared.layout.VirtualWord.TheVariants.{Planned, Drain, Transfer, Choice, Call, Return, Ends}
use Rattle.vx_mixed.specs.LaidSettled.{cycles_of}
use Rattle.vx_regs.specs.declared.hulls.Hull.{Hull}
use Rattle.vx_regs.specs.BusyPlaces.{AmongAt, Flight, InFlight, InFlights, LiveAmong, LiveBelow, LiveNear, NamedBelow, OneBelow, OpWrote, WordWrote, Wrote, WroteBelow, leads_list, nodes_near}
use Rattle.vx_regs.specs.BusyPlaces.Flight.{stays, goes}
use Rattle.vx_regs.specs.Hulls.{At, Notes}
use Rattle.vx_regs.specs.Intervals.{word_reads, word_writes}
use Rattle.vx_regs.proofs.HullNotes.{notes_both, notes_none, notes_same}
use Rattle.vx_regs.proofs.Marking.{in_either, in_left, in_right}

abbrev Table : Type 0
Table = List (Option Hull)

some_is : {A : Type 0} {x y : A} → Some x ≡ Some y → x ≡ y
some_is e = cc

-- names

pub values_none : (at : ℕ) (a : Table) → Notes (AmongAt [] at) a a
values_none at a = notes_none (AmongAt [] at) a (λ v p n. n.0)

pub values_more : (x : ℕ) (xs : List ℕ) (at : ℕ) (a b c : Table) → Notes (At x at) a b → Notes (AmongAt xs at) b c → Notes (AmongAt (x ∷ xs) at) a c
values_more x xs at a b c = notes_both (At x at) (AmongAt xs at) (AmongAt (x ∷ xs) at) a b c (λ v p n. by v p n.0 n.1) (λ v p n. (inl n.0, n.1)) (λ v p n. (inr n.0, n.1))
  where
    by : (v p : ℕ) → IsIn v (x ∷ xs) → p ≡ at → At x at v p ⊎ AmongAt xs at v p
    by v p (inl e) q = inl (e, q)
    by v p (inr i) q = inr (i, q)

pub values_two : (xs ys : List ℕ) (at : ℕ) (a b c : Table) → Notes (AmongAt xs at) a b → Notes (AmongAt ys at) b c → Notes (AmongAt (xs ++ ys) at) a c
values_two xs ys at a b c = notes_both (AmongAt xs at) (AmongAt ys at) (AmongAt (xs ++ ys) at) a b c (λ v p n. by v p n.1 (in_either v xs ys n.0)) (λ v p n. (in_left v xs ys n.0, n.1)) (λ v p n. (in_right v xs ys n.0, n.1))
  where
    by : (v p : ℕ) → p ≡ at → IsIn v xs ⊎ IsIn v ys → AmongAt xs at v p ⊎ AmongAt ys at v p
    by v p q (inl i) = inl (i, q)
    by v p q (inr i) = inr (i, q)

pub names_first : (words : List VirtualWord) (a : Table) → Notes (NamedBelow words 0) a a
names_first words a = notes_none (NamedBelow words 0) a (λ v p n. let h = n.below in omega arith)

pub names_next : (words : List VirtualWord) (place : ℕ) (word : VirtualWord) (a b c : Table) → slice_get words place ≡ Some word → Notes (NamedBelow words place) a b → Notes (AmongAt (word_reads word ++ word_writes word) place) b c → Notes (NamedBelow words (place + 1)) a c
names_next words place word a b c at = notes_both (NamedBelow words place) (AmongAt (word_reads word ++ word_writes word) place) (NamedBelow words (place + 1)) a b c
    (λ v p n. by v p n (cases_lt p place))
    (λ v p n. let h = n.below in record { word = n.word; below = omega arith; there = n.there; named = n.named })
    (λ v p n. let e = n.1 in record { word = word; below = omega arith; there = ap (slice_get words) n.1 ∙ at; named = n.0 })
  where
    by : (v p : ℕ) → NamedBelow words (place + 1) v p → (p < place) ⊎ (place ≤ p) → NamedBelow words place v p ⊎ AmongAt (word_reads word ++ word_writes word) place v p
    by v p n (inl h) = inl (record { word = n.word; below = h; there = n.there; named = n.named })
    by v p n (inr h) =
        let g = n.below in
        let e : p ≡ place = omega arith in
        let f : n.word ≡ word = some_is (sym n.there ∙ ap (slice_get words) e ∙ at) in
        inr (subst (λ w. IsIn v (word_reads w ++ word_writes w)) f n.named, e)

-- live values

pub below_one : (value at count : ℕ) (a b : Table) → value < count → Notes (At value at) a b → Notes (OneBelow value at count) a b
below_one value at count a b h = notes_same (At value at) (OneBelow value at count) a b (λ v p n. (n.1, n.2)) (λ v p n. (subst (λ z. z < count) (sym n.0) h, n.0, n.1))

pub beyond_one : (value at count : ℕ) (a : Table) → count ≤ value → Notes (OneBelow value at count) a a
beyond_one value at count a h = notes_none (OneBelow value at count) a (λ v p n. let k = n.0 in let e = n.1 in omega arith)

-- one of the values at the first places of a list, and one of the first values
pub record ListedBelow (values : List ℕ) (at count bound v place : ℕ) : Type 0 where
  pub index : ℕ
  pub within : index < bound
  pub there : slice_get values index ≡ Some v
  pub few : v < count
  pub place_is : place ≡ at

pub listed_first : (values : List ℕ) (at count : ℕ) (a : Table) → Notes (ListedBelow values at count 0) a a
listed_first values at count a = notes_none (ListedBelow values at count 0) a (λ v p n. let h = n.within in omega arith)

pub listed_next : (values : List ℕ) (at count index value : ℕ) (a b c : Table) → slice_get values index ≡ Some value → Notes (ListedBelow values at count index) a b → Notes (OneBelow value at count) b c → Notes (ListedBelow values at count (index + 1)) a c
listed_next values at count index value a b c is = notes_both (ListedBelow values at count index) (OneBelow value at count) (ListedBelow values at count (index + 1)) a b c
    (λ v p n. by v p n (cases_lt n.index index))
    (λ v p n. let h = n.within in record { index = n.index; within = omega arith; there = n.there; few = n.few; place_is = n.place_is })
    (λ v p n. record { index = index; within = omega arith; there = is ∙ ap Some (sym n.1); few = n.0; place_is = n.2 })
  where
    by : (v p : ℕ) (n : ListedBelow values at count (index + 1) v p) → (n.index < index) ⊎ (index ≤ n.index) → ListedBelow values at count index v p ⊎ OneBelow value at count v p
    by v p n (inl h) = inl (record { index = n.index; within = h; there = n.there; few = n.few; place_is = n.place_is })
    by v p n (inr h) =
        let g = n.within in
        let e : n.index ≡ index = omega arith in
        inr (n.few, some_is (sym n.there ∙ ap (slice_get values) e ∙ is), n.place_is)

got_is_in : (values : List ℕ) (index value : ℕ) → slice_get values index ≡ Some value → IsIn value values
got_is_in [] index value e = absurd (cc)
got_is_in (x ∷ values) zero value e = inl (sym (some_is e))
got_is_in (x ∷ values) (suc index) value e = inr (got_is_in values index value e)

place_of : (values : List ℕ) (value : ℕ) → IsIn value values → (index : ℕ) × (index < length values) × (slice_get values index ≡ Some value)
place_of [] value i = absurd i
place_of (x ∷ values) value (inl e) = (zero, omega arith, ap Some (sym e))
place_of (x ∷ values) value (inr i) = let w = place_of values value i in let h = w.1 in (suc w.0, omega arith, w.2)

pub whole_list : (values : List ℕ) (at count index : ℕ) (a b : Table) → length values ≤ index → Notes (ListedBelow values at count index) a b → Notes (ListedBelow values at count (length values)) a b
whole_list values at count index a b h = notes_same (ListedBelow values at count index) (ListedBelow values at count (length values)) a b
    (λ v p n. let k = n.within in record { index = n.index; within = omega arith; there = n.there; few = n.few; place_is = n.place_is })
    (λ v p n. record { index = n.index; within = slice_get_within values n.index v n.there; there = n.there; few = n.few; place_is = n.place_is })

-- the whole row of a node
pub listed_all : (rows : List (List ℕ)) (node at count : ℕ) (values : List ℕ) (a b : Table) → values ≡ row_at rows node → Notes (ListedBelow values at count (length values)) a b → Notes (LiveBelow rows node at count) a b
listed_all rows node at count values a b is = notes_same (ListedBelow values at count (length values)) (LiveBelow rows node at count) a b
    (λ v p n. let w = place_of values v (any_in v values (subst (λ l. list_any (λ u. u == v) l ≡ true) (sym is) n.1)) in record { index = w.0; within = w.1; there = w.2; few = n.0; place_is = n.2 })
    (λ v p n. (n.few, subst (λ l. list_any (λ u. u == v) l ≡ true) is (in_any v values (got_is_in values n.index v n.there)), n.place_is))

pub among_none : (rows : List (List ℕ)) (at count : ℕ) (a : Table) → Notes (LiveAmong rows [] at count) a a
among_none rows at count a = notes_none (LiveAmong rows [] at count) a (λ v p n. n.is_node)

pub among_more : (rows : List (List ℕ)) (node : ℕ) (nodes : List ℕ) (at count : ℕ) (a b c : Table) → Notes (LiveBelow rows node at count) a b → Notes (LiveAmong rows nodes at count) b c → Notes (LiveAmong rows (node ∷ nodes) at count) a c
among_more rows node nodes at count a b c = notes_both (LiveBelow rows node at count) (LiveAmong rows nodes at count) (LiveAmong rows (node ∷ nodes) at count) a b c
    (λ v p n. by v p n n.is_node)
    (λ v p n. record { node = node; is_node = inl refl; few = n.0; live = n.1; place_is = n.2 })
    (λ v p n. record { node = n.node; is_node = inr n.is_node; few = n.few; live = n.live; place_is = n.place_is })
  where
    by : (v p : ℕ) (n : LiveAmong rows (node ∷ nodes) at count v p) → IsIn n.node (node ∷ nodes) → LiveBelow rows node at count v p ⊎ LiveAmong rows nodes at count v p
    by v p n (inl e) = inl (n.few, subst (λ z. IsTrue (lives rows z v)) e n.live, n.place_is)
    by v p n (inr i) = inr (record { node = n.node; is_node = i; few = n.few; live = n.live; place_is = n.place_is })

pub near_first : (rows : List (List ℕ)) (numbers : List (Option ℕ)) (words : List VirtualWord) (count : ℕ) (a : Table) → Notes (LiveNear rows numbers words count 0) a a
near_first rows numbers words count a = notes_none (LiveNear rows numbers words count 0) a (λ v p n. let h = n.below in omega arith)

pub near_next : (rows : List (List ℕ)) (numbers : List (Option ℕ)) (words : List VirtualWord) (count place : ℕ) (word : VirtualWord) (a b c : Table) → slice_get words place ≡ Some word → Notes (LiveNear rows numbers words count place) a b → Notes (LiveAmong rows (nodes_near numbers place word) place count) b c → Notes (LiveNear rows numbers words count (place + 1)) a c
near_next rows numbers words count place word a b c at = notes_both (LiveNear rows numbers words count place) (LiveAmong rows (nodes_near numbers place word) place count) (LiveNear rows numbers words count (place + 1)) a b c
    (λ v p n. by v p n (cases_lt p place))
    (λ v p n. let h = n.below in record { word = n.word; below = omega arith; there = n.there; live = n.live })
    (λ v p n. let e = n.place_is in subst (LiveNear rows numbers words count (place + 1) v) (sym e) (record { word = word; below = let k : place < place + 1 = omega arith in k; there = at; live = record { node = n.node; is_node = n.is_node; few = n.few; live = n.live; place_is = refl } }))
  where
    by : (v p : ℕ) → LiveNear rows numbers words count (place + 1) v p → (p < place) ⊎ (place ≤ p) → LiveNear rows numbers words count place v p ⊎ LiveAmong rows (nodes_near numbers place word) place count v p
    by v p n (inl h) = inl (record { word = n.word; below = h; there = n.there; live = n.live })
    by v p n (inr h) =
        let g = n.below in
        let e : p ≡ place = omega arith in
        let f : n.word ≡ word = some_is (sym n.there ∙ ap (slice_get words) e ∙ at) in
        let l : LiveAmong rows (nodes_near numbers place word) place count v place = subst (λ w. LiveAmong rows (nodes_near numbers place w) place count v place) f (subst (λ q. LiveAmong rows (nodes_near numbers q n.word) q count v q) e n.live) in
        inr (subst (LiveAmong rows (nodes_near numbers place word) place count v) (sym e) l)

-- writes in flight

landed : (words : List VirtualWord) (p n q k : ℕ) → Flight words p n q k → n ≡ 0 → k ≡ 0
landed words p n q k stays e = e
landed words p n q k (goes {word = word} r at i f) e = landed words r (n - cycles_of word) q k f (omega arith)

pub flight_over : (words : List VirtualWord) (at left value : ℕ) (a : Table) → left ≡ 0 → Notes (InFlight words at left value) a a
flight_over words at left value a e = notes_none (InFlight words at left value) a (λ v p n. let r = n.1 in let h : suc r.0 ≡ 0 = landed words at left p (suc r.0) r.1 e in omega arith)

-- a flight ends here, or goes on
by_first : (words : List VirtualWord) (p n q k : ℕ) → Flight words p n q k → (p ≡ q) ⊎ ((word : VirtualWord) × (slice_get words p ≡ Some word) × ((r : ℕ) × IsIn r (leads_list p word) × Flight words r (n - cycles_of word) q k))
by_first words p n q k stays = inl refl
by_first words p n q k (goes {word = word} r at i f) = inr (word, at, (r, i, f))

here : (words : List VirtualWord) (at left value : ℕ) → 0 < left → (v p : ℕ) → At value at v p → InFlight words at left value v p
here words at left value h v p n =
    let e : left ≡ suc (left - 1) = omega arith in
    (n.0, (left - 1, subst (λ z. Flight words at left z (suc (left - 1))) (sym n.1) (subst (λ k. Flight words at left at k) e stays)))

pub flight_nowhere : (words : List VirtualWord) (at left value : ℕ) (a b : Table) → 0 < left → slice_get words at ≡ None → Notes (At value at) a b → Notes (InFlight words at left value) a b
flight_nowhere words at left value a b h none = notes_same (At value at) (InFlight words at left value) a b (λ v p n. let r = n.1 in by v p n.0 (by_first words at left p (suc r.0) r.1)) (here words at left value h)
  where
    by : (v p : ℕ) {k : ℕ} → v ≡ value → (at ≡ p) ⊎ ((word : VirtualWord) × (slice_get words at ≡ Some word) × ((r : ℕ) × IsIn r (leads_list at word) × Flight words r (left - cycles_of word) p k)) → At value at v p
    by v p e (inl f) = (e, sym f)
    by v p e (inr g) = absurd (let x : None ≡ Some g.0 = sym none ∙ g.1 in cc)

pub flight_on : (words : List VirtualWord) (at left rest value : ℕ) (word : VirtualWord) (a b c : Table) → 0 < left → slice_get words at ≡ Some word → rest ≡ left - cycles_of word → Notes (At value at) a b → Notes (InFlights words (leads_list at word) rest value) b c → Notes (InFlight words at left value) a c
flight_on words at left rest value word a b c h is e = notes_both (At value at) (InFlights words (leads_list at word) rest value) (InFlight words at left value) a b c
    (λ v p n. let r = n.1 in by v p r.0 n.0 (by_first words at left p (suc r.0) r.1))
    (here words at left value h)
    (λ v p n. let f = n.flies in let r = f.1 in (f.0, (r.0, goes n.target is n.is_target (subst (λ z. Flight words n.target z p (suc r.0)) e r.1))))
  where
    by : (v p k : ℕ) → v ≡ value → (at ≡ p) ⊎ ((w : VirtualWord) × (slice_get words at ≡ Some w) × ((r : ℕ) × IsIn r (leads_list at w) × Flight words r (left - cycles_of w) p (suc k))) → At value at v p ⊎ InFlights words (leads_list at word) rest value v p
    by v p k q (inl f) = inl (q, sym f)
    by v p k q (inr g) =
        let same : g.0 ≡ word = some_is (sym g.1 ∙ is) in
        let d : (r : ℕ) × IsIn r (leads_list at word) × Flight words r (left - cycles_of word) p (suc k) = subst (λ w. (r : ℕ) × IsIn r (leads_list at w) × Flight words r (left - cycles_of w) p (suc k)) same g.2 in
        inr (record { target = d.0; is_target = d.1; flies = (q, (k, subst (λ z. Flight words d.0 z p (suc k)) (sym e) d.2)) })

pub flights_none : (words : List VirtualWord) (left value : ℕ) (a : Table) → Notes (InFlights words [] left value) a a
flights_none words left value a = notes_none (InFlights words [] left value) a (λ v p n. n.is_target)

pub flights_more : (words : List VirtualWord) (target : ℕ) (targets : List ℕ) (left value : ℕ) (a b c : Table) → Notes (InFlight words target left value) a b → Notes (InFlights words targets left value) b c → Notes (InFlights words (target ∷ targets) left value) a c
flights_more words target targets left value a b c = notes_both (InFlight words target left value) (InFlights words targets left value) (InFlights words (target ∷ targets) left value) a b c
    (λ v p n. by v p n n.is_target)
    (λ v p n. record { target = target; is_target = inl refl; flies = n })
    (λ v p n. record { target = n.target; is_target = inr n.is_target; flies = n.flies })
  where
    by : (v p : ℕ) (n : InFlights words (target ∷ targets) left value v p) → IsIn n.target (target ∷ targets) → InFlight words target left value v p ⊎ InFlights words targets left value v p
    by v p n (inl e) = inl (subst (λ z. InFlight words z left value v p) e n.flies)
    by v p n (inr i) = inr (record { target = n.target; is_target = i; flies = n.flies })

no_cycles : (p : ℕ) (word : VirtualWord) → cycles_of word ≡ 0 → leads_list p word ≡ (p + 1) ∷ []
no_cycles p (Planned r w items) e = absurd (let f : 1 ≡ 0 = e in omega arith)
no_cycles p (Drain n) e = refl
no_cycles p (Transfer to) e = absurd (let f : 1 ≡ 0 = e in omega arith)
no_cycles p (Choice test to) e = absurd (let f : 1 ≡ 0 = e in omega arith)
no_cycles p (Call g arguments result) e = absurd (let f : 1 ≡ 0 = e in omega arith)
no_cycles p (Return x) e = absurd (let f : 1 ≡ 0 = e in omega arith)
no_cycles p (Ends k) e = absurd (let f : 1 ≡ 0 = e in omega arith)

-- a word that takes no cycle
pub flight_still : (words : List VirtualWord) (at left next value : ℕ) (word : VirtualWord) (a b c : Table) → 0 < left → slice_get words at ≡ Some word → cycles_of word ≡ 0 → next ≡ at + 1 → Notes (At value at) a b → Notes (InFlight words next left value) b c → Notes (InFlight words at left value) a c
flight_still words at left next value word a b c h is z n one more =
    flight_on words at left left value word a b c h is (let y : cycles_of word ≡ 0 = z in omega arith) one
    (subst (λ l. Notes (InFlights words l left value) b c) (sym (no_cycles at word z))
    (flights_more words (at + 1) [] left value b c c (subst (λ q. Notes (InFlight words q left value) b c) n more) (flights_none words left value c)))

-- what operations write

pub op_none : (latency : Op → ℕ) (words : List VirtualWord) (op : Op) (targets : List ℕ) (a : Table) → [] ≡ writes op → Notes (OpWrote latency words op targets) a a
op_none latency words op targets a e = notes_none (OpWrote latency words op targets) a (λ v p n. subst (IsIn v) (sym e) n.0)

pub op_one : (latency : Op → ℕ) (words : List VirtualWord) (op : Op) (targets : List ℕ) (value left : ℕ) (a b : Table) → value ∷ [] ≡ writes op → left ≡ latency op - 1 → Notes (InFlights words targets left value) a b → Notes (OpWrote latency words op targets) a b
op_one latency words op targets value left a b e l = notes_same (InFlights words targets left value) (OpWrote latency words op targets) a b (λ v p n. there v p (subst (IsIn v) (sym e) n.0) n.1) back
  where
    there : (v p : ℕ) → IsIn v (value ∷ []) → InFlights words targets (latency op - 1) v v p → InFlights words targets left value v p
    there v p (inl q) n = subst (λ z. InFlights words targets z value v p) (sym l) (subst (λ z. InFlights words targets (latency op - 1) z v p) q n)
    there v p (inr i) n = absurd i

    back : (v p : ℕ) → InFlights words targets left value v p → OpWrote latency words op targets v p
    back v p n =
        let f = n.flies in
        let q : v ≡ value = f.0 in
        (subst (IsIn v) e (inl q), subst (λ z. InFlights words targets z v v p) l (subst (λ z. InFlights words targets left z v p) (sym q) n))

pub items_none : (latency : Op → ℕ) (words : List VirtualWord) (targets : List ℕ) (a : Table) → Notes (Wrote latency words [] targets) a a
items_none latency words targets a = notes_none (Wrote latency words [] targets) a (λ v p n. n.is_item)

op_is : {op op' : Op} {k k' : ℕ} → Plain op k ≡ Plain op' k' → op ≡ op'
op_is e = cc

pub item_plain : (latency : Op → ℕ) (words : List VirtualWord) (op : Op) (cluster : ℕ) (targets : List ℕ) (a b : Table) → Notes (OpWrote latency words op targets) a b → Notes (Wrote latency words (Plain op cluster ∷ []) targets) a b
item_plain latency words op cluster targets a b = notes_same (OpWrote latency words op targets) (Wrote latency words (Plain op cluster ∷ []) targets) a b
    (λ v p n. by v p n n.is_item)
    (λ v p n. record { op = op; cluster = cluster; is_item = inl refl; writes_it = n.0; flies = n.1 })
  where
    by : (v p : ℕ) (n : Wrote latency words (Plain op cluster ∷ []) targets v p) → IsIn (Plain n.op n.cluster) (Plain op cluster ∷ []) → OpWrote latency words op targets v p
    by v p n (inl e) = subst (λ o. OpWrote latency words o targets v p) (op_is e) (n.writes_it, n.flies)
    by v p n (inr i) = absurd i

pub item_split : (latency : Op → ℕ) (words : List VirtualWord) (test to : ℕ) (y : Bool) (targets : List ℕ) (a : Table) → Notes (Wrote latency words (Split test y to ∷ []) targets) a a
item_split latency words test to y targets a = notes_none (Wrote latency words (Split test y to ∷ []) targets) a (λ v p n. by v p n n.is_item)
  where
    by : (v p : ℕ) (n : Wrote latency words (Split test y to ∷ []) targets v p) → IsIn (Plain n.op n.cluster) (Split test y to ∷ []) → ⊥
    by v p n (inl e) = let x : Plain n.op n.cluster ≡ Split test y to = e in cc
    by v p n (inr i) = i

pub items_more : (latency : Op → ℕ) (words : List VirtualWord) (item : Laid) (items : List Laid) (targets : List ℕ) (a b c : Table) → Notes (Wrote latency words (item ∷ []) targets) a b → Notes (Wrote latency words items targets) b c → Notes (Wrote latency words (item ∷ items) targets) a c
items_more latency words item items targets a b c = notes_both (Wrote latency words (item ∷ []) targets) (Wrote latency words items targets) (Wrote latency words (item ∷ items) targets) a b c
    (λ v p n. by v p n n.is_item)
    (λ v p n. record { op = n.op; cluster = n.cluster; is_item = ahead (Plain n.op n.cluster) n.is_item; writes_it = n.writes_it; flies = n.flies })
    (λ v p n. record { op = n.op; cluster = n.cluster; is_item = inr n.is_item; writes_it = n.writes_it; flies = n.flies })
  where
    ahead : (x : Laid) → IsIn x (item ∷ []) → IsIn x (item ∷ items)
    ahead x (inl e) = inl e
    ahead x (inr i) = absurd i

    by : (v p : ℕ) (n : Wrote latency words (item ∷ items) targets v p) → IsIn (Plain n.op n.cluster) (item ∷ items) → Wrote latency words (item ∷ []) targets v p ⊎ Wrote latency words items targets v p
    by v p n (inl e) = inl (record { op = n.op; cluster = n.cluster; is_item = inl e; writes_it = n.writes_it; flies = n.flies })
    by v p n (inr i) = inr (record { op = n.op; cluster = n.cluster; is_item = i; writes_it = n.writes_it; flies = n.flies })

items_of : {r w r' w' : ℕ} {is is' : List Laid} → Planned r w is ≡ Planned r' w' is' → is ≡ is'
items_of e = cc

pub word_planned : (latency : Op → ℕ) (words : List VirtualWord) (from r w : ℕ) (items : List Laid) (a b : Table) → Notes (Wrote latency words items (leads_list from (Planned r w items))) a b → Notes (WordWrote latency words from (Planned r w items)) a b
word_planned latency words from r w items a b = notes_same (Wrote latency words items (leads_list from (Planned r w items))) (WordWrote latency words from (Planned r w items)) a b
    (λ v p n. subst (λ z. Wrote latency words z (leads_list from (Planned r w items)) v p) (sym (items_of n.is)) n.wrote)
    (λ v p n. record { region = r; number = w; items = items; is = refl; wrote = n })

pub word_other : (latency : Op → ℕ) (words : List VirtualWord) (from : ℕ) (word : VirtualWord) (a : Table) → ((r w : ℕ) (items : List Laid) → word ≢ Planned r w items) → Notes (WordWrote latency words from word) a a
word_other latency words from word a none = notes_none (WordWrote latency words from word) a (λ v p n. none n.region n.number n.items n.is)

pub wrote_first : (latency : Op → ℕ) (words : List VirtualWord) (a : Table) → Notes (WroteBelow latency words 0) a a
wrote_first latency words a = notes_none (WroteBelow latency words 0) a (λ v p n. let h = n.below in omega arith)

pub wrote_next : (latency : Op → ℕ) (words : List VirtualWord) (place : ℕ) (word : VirtualWord) (a b c : Table) → slice_get words place ≡ Some word → Notes (WroteBelow latency words place) a b → Notes (WordWrote latency words place word) b c → Notes (WroteBelow latency words (place + 1)) a c
wrote_next latency words place word a b c at = notes_both (WroteBelow latency words place) (WordWrote latency words place word) (WroteBelow latency words (place + 1)) a b c
    (λ v p n. by v p n (cases_lt n.from place))
    (λ v p n. let h = n.below in record { from = n.from; word = n.word; below = omega arith; there = n.there; wrote = n.wrote })
    (λ v p n. record { from = place; word = word; below = let k : place < place + 1 = omega arith in k; there = at; wrote = n })
  where
    by : (v p : ℕ) (n : WroteBelow latency words (place + 1) v p) → (n.from < place) ⊎ (place ≤ n.from) → WroteBelow latency words place v p ⊎ WordWrote latency words place word v p
    by v p n (inl h) = inl (record { from = n.from; word = n.word; below = h; there = n.there; wrote = n.wrote })
    by v p n (inr h) =
        let g = n.below in
        let e : n.from ≡ place = omega arith in
        let f : n.word ≡ word = some_is (sym n.there ∙ ap (slice_get words) e ∙ at) in
        inr (subst (λ w. WordWrote latency words place w v p) f (subst (λ q. WordWrote latency words q n.word v p) e n.wrote))
