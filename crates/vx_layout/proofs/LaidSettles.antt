-- The layout of a settled graph is settled.
use Rattle.std.proofs.Common.{◌≡◌, ℕ, zero, suc, ◌+◌, ◌-◌, ◌/◌, ◌<◌, ◌≤◌, max, Bool, true, false, Option, Some, None, List, [], ◌∷◌, ◌++◌, length, map, slice_get, refl, sym, ap, ◌∙◌, subst, ⊎_elim, inl, inr, arith}
use Rattle.std.specs.Prelude.{◌⊎◌, nat_lt, if◌then◌else◌}
use Rattle.std.proofs.lemmas.Bool.{cases_lt, lt-ltb}
use Rattle.std.proofs.lemmas.Option.{slice_get_within}
use Rattle.vx_flow.specs.declared.graph.Op.{Op}
use Rattle.vx_flow.specs.declared.graph.Op.TheVariants.{Across}
use Rattle.vx_flow.specs.declared.graph.Bank.{Bank}
use Rattle.vx_flow.specs.declared.graph.Bank.TheVariants.{General, Branch}
use Rattle.vx_flow.specs.declared.graph.Edge.{Edge}
use Rattle.vx_flow.specs.Walk.{edge}
use Rattle.vx_flow.specs.Sound.{targets_of}
use Rattle.vx_flow.specs.Effects.{IsIn, writes}
use Rattle.vx_mixed.specs.declared.region.Item.{Item}
use Rattle.vx_mixed.specs.declared.region.Region.{Region}
use Rattle.vx_mixed.specs.declared.region.Node.{Node}
use Rattle.vx_mixed.specs.declared.region.Node.TheVariants.{Unused, Enters, Inner}
use Rattle.vx_mixed.specs.declared.layout.Laid.{Laid}
use Rattle.vx_mixed.specs.declared.layout.Laid.TheVariants.{Plain, Split}
use Rattle.vx_mixed.specs.declared.layout.VirtualWord.{VirtualWord}
use Rattle.vx_mixed.specs.declared.layout.VirtualWord.TheVariants.{Planned, Drain, Transfer, Choice}
use Rattle.vx_mixed.specs.declared.layout.VWords.{VWords}
use Rattle.vx_mixed.specs.declared.mixed.MixedGraph.{MixedGraph}
use Rattle.vx_mixed.specs.Edges.{IsEdge, of_last}
use Rattle.vx_mixed.specs.Live.{word_reads, word_writes}
use Rattle.vx_mixed.specs.Settled.{NoTwice, Settled, has_home, home_of, bank_of, stands_for, StandsOn}
use Rattle.vx_mixed.specs.Valid.{Valid, is_entrance, region_op}
use Rattle.vx_mixed.specs.Layout.{leave_words, laid, place_of_node, place_of, layout_of, IsDone}
use Rattle.vx_mixed.specs.LaidSettled.{laid_reads, laid_writes, laid_ways, or_zero, home_in, bank_in, LeadsTo, cycles_of, LeavesCold, Plans, Pends, written, later, SettledLayout}
use Rattle.vx_layout.specs.LayoutLaws.{AreItems, SameRoom, LayoutSettles}
use Rattle.vx_mixed.proofs.Timed.{writer_of}
use Rattle.vx_mixed.proofs.Standing.{StandsAt, get_some}
use Rattle.vx_layout.proofs.DatedWords.{Dated, word_in, landed, waiting, given_in, given_at, left_before}
use Rattle.vx_layout.proofs.LayoutPlaces.{dated, region_stands}
use Rattle.vx_layout.proofs.LayoutKinds.{split_at, begins_at, DrainOf, at_exit, at_split, Kind, plans, drains, jumps, chooses, calls, returns, ends, kind_of, first_leave}
use Rattle.vx_layout.proofs.LaidSources.{are_items, same_reads, same_writes, ways_differ, plain_from, plain_to, split_from, source_of, word_of, word_there, PlanOf, plan_of, plan_word}
use Rattle.vx_layout.proofs.LaidLeft.{max_is, Giver, given_cases, given_covers, none_at_end, none_at_split, none_where_named}

-- a value that may be named on a cluster stands there
named_there : (b : Option Bank) (h : Option ℕ) (k cluster : ℕ) → (h ≡ Some cluster → k ≡ cluster) → stands_for b h cluster → stands_for b (Some k) cluster
named_there None h k cluster f s = s
named_there (Some General) h k cluster f s = ap Some (f s)
named_there (Some Branch) h k cluster f s = s

home_is : (b : Bool) (h : Option ℕ) (k cluster : ℕ) → (if b then h else Some k) ≡ Some cluster → (if b then or_zero h else k) ≡ cluster
home_is true None k cluster e = absurd (cc)
home_is true (Some j) k cluster e = cc
home_is false h k cluster e = cc

abbrev items_of : VirtualWord → List Laid
items_of (Planned r w items) = items
items_of word = []

abbrev items_at : Option Dated → List Laid
items_at None = []
items_at (Some x) = items_of x.word

-- the first of so many empty cycles, or what comes where there are none
first_waits : (whole : List Dated) (q n : ℕ) (f : ℕ → ℕ) (rest : List Dated) → StandsAt whole q (waiting n f ++ rest) → (y : Dated) → slice_get rest 0 ≡ Some y → ((v : ℕ) → y.left v ≡ 0) → ((v : ℕ) → f v ≤ n) → (x : Dated) × (slice_get whole q ≡ Some x) × ((v : ℕ) → x.left v ≡ f v)
first_waits whole q zero f rest h y e cold le = (y, (let z : q ≡ q + 0 = omega arith in ap (slice_get whole) z ∙ h.item 0 y e), λ v. let a = cold v in let b = le v in omega arith)
first_waits whole q (suc n) f rest h y e cold le = (record { word = Drain (suc n); left = f }, (let z : q ≡ q + 0 = omega arith in ap (slice_get whole) z ∙ h.item 0 (record { word = Drain (suc n); left = f }) refl), λ v. refl)

module _ (latency : Op → ℕ) (m : MixedGraph) (valid : Valid m) (done : IsDone m) where
  abbrev L : VWords
  L = layout_of m

  abbrev D : List Dated
  D = dated latency m

  abbrev start : ℕ → ℕ
  start r = begins_at latency m r

  abbrev left_at : Option Dated → ℕ → ℕ
  left_at None v = 0
  left_at (Some x) v = x.left v

  abbrev left : ℕ → ℕ → ℕ
  left p v = left_at (slice_get D p) v

  left_is : (p v : ℕ) (x : Dated) → slice_get D p ≡ Some x → left p v ≡ x.left v
  left_is p v x e = ap (λ o. left_at o v) e

  within : (q : ℕ) (x : Dated) → slice_get D q ≡ Some x → q < length L.words
  within q x e = slice_get_within L.words q x.word (word_of latency m q x e)

  -- where entrances are

  entered : (r w : ℕ) (g : Region) → slice_get m.regions r ≡ Some g → w ≤ length g.words → start r + w < length L.words
  entered r w g e le = ⊎_elim (λ lt. inside lt) (λ ge. behind ge) (cases_lt w (length g.words))
    where
      inside : w < length g.words → start r + w < length L.words
      inside lt =
          let x = get_some g.words w lt in
          let at = word_there latency m r w g x.0 e x.1 in
          within (start r + w) (record { word = Planned r w (laid at.at x.0); left = left_before latency g.words w }) at.is

      first : (n : ℕ) (f : ℕ → ℕ) (rest : List Dated) (y : Dated) → slice_get rest 0 ≡ Some y → (x : Dated) × (slice_get (waiting n f ++ rest) 0 ≡ Some x)
      first zero f rest y u = (y, u)
      first (suc n) f rest y u = (record { word = Drain (suc n); left = f }, refl)

      behind : length g.words ≤ w → start r + w < length L.words
      behind ge =
          let at = region_stands latency m r g e in
          let y = first_leave latency m g.last in
          let x = first g.drain (left_before latency g.words (length g.words)) (map landed (leave_words (place_of m) g.last)) y.0 y.1 in
          let z : start r + w ≡ start r + length g.words + 0 = omega arith in
          within (start r + w) x.0 (ap (slice_get D) z ∙ at.exit.item 0 x.0 x.1)

  place_within : (b : ℕ) (o : Option Node) → slice_get m.nodes b ≡ o → is_entrance o ≡ true → place_of_node m.regions o < length L.words
  place_within b None e h = absurd (cc)
  place_within b (Some (Unused block)) e h = absurd (done b block e)
  place_within b (Some Inner) e h = absurd (cc)
  place_within b (Some (Enters r w)) e h = let x = valid.enters b r w e in entered r w x.0 x.1 x.2

  edge_within : (e : Edge) → IsEdge m e → place_of m e.to < length L.words
  edge_within e h = place_within e.to (slice_get m.nodes e.to) refl (valid.leads e h)

  entry_within : 0 < length m.nodes → place_of m 0 < length L.words
  entry_within lt = by (slice_get m.nodes 0) refl
    where
      by : (o : Option Node) → slice_get m.nodes 0 ≡ o → place_of_node m.regions o < length L.words
      by None e = absurd (let x = get_some m.nodes 0 lt in let q : Some x.0 ≡ None = sym x.1 ∙ e in cc)
      by (Some (Unused block)) e = absurd (done 0 block e)
      by (Some Inner) e = absurd (valid.begins e)
      by (Some (Enters r w)) e = place_within 0 (Some (Enters r w)) e refl

  module _ (room : List (Option ℕ) → List Item → Bool) (settled : Settled room latency m) where
    -- what is left where a word of a region leads
    leads_left : (r w : ℕ) (g : Region) (word : List Item) (er : slice_get m.regions r ≡ Some g) (ew : slice_get g.words w ≡ Some word) (q : ℕ) → LeadsTo (start r + w) (Planned r w (laid (word_there latency m r w g word er ew).at word)) q → (x : Dated) × (slice_get D q ≡ Some x) × ((v : ℕ) → x.left v ≡ left_before latency g.words (suc w) v)
    leads_left r w g word er ew q (inl e) =
        ⊎_elim
        (λ lt.
        let x = get_some g.words (suc w) lt in
        let at = word_there latency m r (suc w) g x.0 er x.1 in
        let z : q ≡ start r + suc w = e ∙ omega arith in
        (record { word = Planned r (suc w) (laid at.at x.0); left = left_before latency g.words (suc w) }, ap (slice_get D) z ∙ at.is, λ v. refl))
        (λ ge.
        let at = region_stands latency m r g er in
        let y = first_leave latency m g.last in
        let lt = slice_get_within g.words w word ew in
        let n : length g.words ≡ suc w = omega arith in
        let x = first_waits D (start r + length g.words) g.drain (left_before latency g.words (length g.words)) (map landed (leave_words (place_of m) g.last)) at.exit y.0 y.1 y.2 (none_at_end latency g (settled.times r g er)) in
        let z : q ≡ start r + length g.words = e ∙ omega arith in
        (x.0, ap (slice_get D) z ∙ x.1, λ v. x.2 v ∙ ap (λ k. left_before latency g.words k v) n))
        (cases_lt (suc w) (length g.words))
    leads_left r w g word er ew q (inr h) =
        let at = word_there latency m r w g word er ew in
        let s = split_at D (place_of m) (left_before latency g.words (suc w)) at.at word at.stubs h.0 q h.1 h.2 in
        first_waits D q s.drain (left_before latency g.words (suc w)) (landed (Transfer (place_of m s.edge.to)) ∷ []) s.stands (landed (Transfer (place_of m s.edge.to))) refl (λ v. refl)
        (λ v. none_at_split latency g (settled.times r g er) w h.0 s.drain s.edge h.1 word v ew s.has)

    -- no more is left than along some way

    pends_after : (r w : ℕ) (g : Region) (word : List Item) (er : slice_get m.regions r ≡ Some g) (ew : slice_get g.words w ≡ Some word) (p q v n : ℕ) → p ≡ start r + w → LeadsTo p (Planned r w (laid (word_there latency m r w g word er ew).at word)) q → left_before latency g.words (suc w) v ≡ suc n → ((k : ℕ) → left_before latency g.words w v ≡ suc k → Pends latency L p v (suc k)) → Pends latency L q v (suc n)
    pends_after r w g word er ew p q v n place leads e before =
        let at = word_there latency m r w g word er ew in
        let stands : slice_get L.words p ≡ Some (Planned r w (laid at.at word)) = ap (slice_get L.words) place ∙ word_of latency m (start r + w) (record { word = Planned r w (laid at.at word); left = left_before latency g.words w }) at.is in
        let a = left_before latency g.words w v in
        let b = given_in latency word v in
        let same : given_at latency (slice_get g.words w) v ≡ b = ap (λ o. given_at latency o v) ew in
        by stands (max_is a (given_at latency (slice_get g.words w) v)) same
      where
        items : List Laid
        items = laid (word_there latency m r w g word er ew).at word

        earlier : slice_get L.words p ≡ Some (Planned r w items) → left_before latency g.words w v ≡ suc (suc n) → Pends latency L q v (suc n)
        earlier stands f = let z : suc (suc n) - 1 ≡ suc n = omega arith in subst (Pends latency L q v) z (later p (suc (suc n)) (Planned r w items) (before (suc n) f) stands leads)

        here : slice_get L.words p ≡ Some (Planned r w items) → given_in latency word v ≡ suc (suc n) → (given_in latency word v ≡ 0) ⊎ Giver latency word v → Pends latency L q v (suc n)
        here stands f (inl z) = absurd (let k : suc (suc n) ≡ 0 = sym f ∙ z in omega arith)
        here stands f (inr x) =
            let z : latency x.op - 1 ≡ suc n = let k : latency x.op ≡ suc (suc n) = sym x.lasts ∙ f in omega arith in
            subst (Pends latency L q v) z (written x.op x.cluster stands (plain_to (word_there latency m r w g word er ew).at word x.op x.cluster x.has) x.makes leads)

        by : slice_get L.words p ≡ Some (Planned r w items) → (max (left_before latency g.words w v) (given_at latency (slice_get g.words w) v) ≡ left_before latency g.words w v) ⊎ (max (left_before latency g.words w v) (given_at latency (slice_get g.words w) v) ≡ given_at latency (slice_get g.words w) v) → given_at latency (slice_get g.words w) v ≡ given_in latency word v → Pends latency L q v (suc n)
        by stands (inl f) same = earlier stands (omega arith)
        by stands (inr f) same = here stands (omega arith) (given_cases latency word v)

    pends_at : (r : ℕ) (g : Region) → slice_get m.regions r ≡ Some g → (t p v n : ℕ) → p ≡ start r + t → t ≤ length g.words → left_before latency g.words t v ≡ suc n → Pends latency L p v (suc n)
    pends_at r g er zero p v n place le e = absurd (omega arith)
    pends_at r g er (suc w) p v n place le e =
        let x = get_some g.words w (omega arith) in
        let z : p ≡ suc (start r + w) = place ∙ omega arith in
        pends_after r w g x.0 er x.1 (start r + w) p v n refl (inl z) e (λ k f. pends_at r g er w (start r + w) v k refl (omega arith) f)

    pends_drain : (p n : ℕ) (f : ℕ → ℕ) → DrainOf latency m p n f → (v k : ℕ) → f v ≡ suc k → Pends latency L p v (suc k)
    pends_drain p n f (at_exit r g er place d is) v k e = pends_at r g er (length g.words) p v k place (omega arith) (sym (ap (λ h. h v) is) ∙ e)
    pends_drain p n f (at_split r w at test y out g word er ew stands has lays is) v k e =
        let x = word_there latency m r w g word er ew in
        let one : laid at word ≡ laid x.at word = sym (ap items_at stands) ∙ ap items_at x.is in
        let lt = slice_get_within g.words w word ew in
        pends_after r w g word er ew (start r + w) p v k refl (inr (test, y, subst (IsIn (Split test y p)) one lays)) (sym (ap (λ h. h v) is) ∙ e)
        (λ j c. pends_at r g er w (start r + w) v j refl (omega arith) c)

    drain_left : (p n : ℕ) (f : ℕ → ℕ) → DrainOf latency m p n f → (v : ℕ) → f v ≤ suc n
    drain_left p n f (at_exit r g er place d is) v = let a = none_at_end latency g (settled.times r g er) v in let b : f v ≡ left_before latency g.words (length g.words) v = ap (λ h. h v) is in omega arith
    drain_left p n f (at_split r w at test y out g word er ew stands has lays is) v =
        let a = none_at_split latency g (settled.times r g er) w test (suc n) out y word v ew has in
        let b : f v ≡ left_before latency g.words (suc w) v = ap (λ h. h v) is in
        omega arith

    -- where nothing is in flight, but at planned words and empty cycles

    data Class (x : Dated) : Type 0 where
      planned_word : (r w : ℕ) (items : List Laid) → x.word ≡ Planned r w items → Class x
      empty_cycles : (n : ℕ) → x.word ≡ Drain n → Class x
      quiet_word : ((v : ℕ) → x.left v ≡ 0) → Class x

    class_of : (p : ℕ) (x : Dated) → slice_get D p ≡ Some x → Kind latency m p x → Class x
    class_of p x e (plans r w g word er ew b) = let z = plan_word latency m p r w g word x er ew b e in planned_word r w z.0 z.1
    class_of p x e (drains n f y is next cold of) = empty_cycles (suc n) (ap word_in is)
    class_of p x e (jumps out is_edge is) = quiet_word (λ v. ap (λ (z : Dated). z.left v) is)
    class_of p x e (chooses r test c d g y er last is next) = quiet_word (λ v. ap (λ (z : Dated). z.left v) is)
    class_of p x e (calls r f next arguments result g y er last is after) = quiet_word (λ v. ap (λ (z : Dated). z.left v) is)
    class_of p x e (returns r a g er last is) = quiet_word (λ v. ap (λ (z : Dated). z.left v) is)
    class_of p x e (ends k is) = quiet_word (λ v. ap (λ (z : Dated). z.left v) is)

    choice_left : (p test q : ℕ) → slice_get L.words p ≡ Some (Choice test q) → left p test ≡ 0
    choice_left p test q e = let s = source_of latency m p (Choice test q) e in by s.x s.has s.is (class_of p s.x s.has (kind_of latency m p s.x s.has))
      where
        by : (x : Dated) → slice_get D p ≡ Some x → x.word ≡ Choice test q → Class x → left p test ≡ 0
        by x has is (planned_word r w items f) = absurd (let a : Planned r w items ≡ Choice test q = sym f ∙ is in cc)
        by x has is (empty_cycles n f) = absurd (let a : Drain n ≡ Choice test q = sym f ∙ is in cc)
        by x has is (quiet_word f) = left_is p test x has ∙ f test

    cold_left : (p v : ℕ) (word : VirtualWord) → slice_get L.words p ≡ Some word → LeavesCold word → left p v ≡ 0
    cold_left p v word e cold = let s = source_of latency m p word e in by s.x s.has (subst LeavesCold (sym s.is) cold) (class_of p s.x s.has (kind_of latency m p s.x s.has))
      where
        by : (x : Dated) → slice_get D p ≡ Some x → LeavesCold x.word → Class x → left p v ≡ 0
        by x has c (planned_word r w items f) = absurd (subst LeavesCold f c)
        by x has c (empty_cycles n f) = absurd (subst LeavesCold f c)
        by x has c (quiet_word f) = left_is p v x has ∙ f v

    -- from a planned word
    record Step (r w : ℕ) (g : Region) (p q : ℕ) : Type 0 where
      here : (v : ℕ) → left p v ≡ left_before latency g.words w v
      there : (v : ℕ) → left q v ≡ left_before latency g.words (suc w) v
      inside : q < length L.words

    step : (r w : ℕ) (g : Region) (word : List Item) (er : slice_get m.regions r ≡ Some g) (ew : slice_get g.words w ≡ Some word) (p q : ℕ) → p ≡ start r + w → LeadsTo p (Planned r w (laid (word_there latency m r w g word er ew).at word)) q → Step r w g p q
    step r w g word er ew p q b leads =
        let at = word_there latency m r w g word er ew in
        let x = leads_left r w g word er ew q (subst (λ z. LeadsTo z (Planned r w (laid at.at word)) q) b leads) in
        record {
          here = λ v. ap (λ z. left z v) b ∙ left_is (start r + w) v (record { word = Planned r w (laid at.at word); left = left_before latency g.words w }) at.is;
          there = λ v. left_is q v x.0 x.1 ∙ x.2 v;
          inside = within q x.0 x.1;
        }

    word_at : (r w : ℕ) (g : Region) (word : List Item) (er : slice_get m.regions r ≡ Some g) (ew : slice_get g.words w ≡ Some word) (p : ℕ) (x : Dated) → slice_get D p ≡ Some x → p ≡ start r + w → x.word ≡ Planned r w (laid (word_there latency m r w g word er ew).at word)
    word_at r w g word er ew p x e b =
        let at = word_there latency m r w g word er ew in
        let y : Dated = record { word = Planned r w (laid at.at word); left = left_before latency g.words w } in
        let s : Some x ≡ Some y = sym e ∙ ap (slice_get D) b ∙ at.is in
        ap (word_or x) s
      where
        word_or : Dated → Option Dated → VirtualWord
        word_or d None = d.word
        word_or d (Some y) = y.word

    kept_by : (p q v : ℕ) (x : Dated) → slice_get D p ≡ Some x → Kind latency m p x → LeadsTo p x.word q → left p v ≤ left q v + cycles_of x.word
    kept_by p q v x e (plans r w g word er ew b) leads =
        let is = word_at r w g word er ew p x e b in
        let s = step r w g word er ew p q b (subst (λ z. LeadsTo p z q) is leads) in
        let a = s.here v in
        let c = s.there v in
        let one : cycles_of x.word ≡ 1 = ap cycles_of is in
        omega arith
    kept_by p q v x e (drains n f y is next cold of) leads =
        let a = left_is p v x e in
        let b : x.left v ≡ f v = ap (λ (z : Dated). z.left v) is in
        let c = drain_left p n f of v in
        let d : cycles_of x.word ≡ suc n = ap (λ (z : Dated). cycles_of z.word) is in
        omega arith
    kept_by p q v x e (jumps out is_edge is) leads = let a = left_is p v x e in let b : x.left v ≡ 0 = ap (λ (z : Dated). z.left v) is in omega arith
    kept_by p q v x e (chooses r test c d g y er last is next) leads = let a = left_is p v x e in let b : x.left v ≡ 0 = ap (λ (z : Dated). z.left v) is in omega arith
    kept_by p q v x e (calls r f next arguments result g y er last is after) leads = let a = left_is p v x e in let b : x.left v ≡ 0 = ap (λ (z : Dated). z.left v) is in omega arith
    kept_by p q v x e (returns r a g er last is) leads = let c = left_is p v x e in let b : x.left v ≡ 0 = ap (λ (z : Dated). z.left v) is in omega arith
    kept_by p q v x e (ends k is) leads = let a = left_is p v x e in let b : x.left v ≡ 0 = ap (λ (z : Dated). z.left v) is in omega arith

    inside_by : (p q : ℕ) (x : Dated) → slice_get D p ≡ Some x → Kind latency m p x → LeadsTo p x.word q → q < length L.words
    inside_by p q x e (plans r w g word er ew b) leads = (step r w g word er ew p q b (subst (λ z. LeadsTo p z q) (word_at r w g word er ew p x e b) leads)).inside
    inside_by p q x e (drains n f y is next cold of) leads = let a : q ≡ suc p = subst (λ z. LeadsTo p z q) (ap word_in is) leads in subst (λ z. z < length L.words) (sym a) (within (suc p) y next)
    inside_by p q x e (jumps out is_edge is) leads = let a : q ≡ place_of m out.to = subst (λ z. LeadsTo p z q) (ap word_in is) leads in subst (λ z. z < length L.words) (sym a) (edge_within out is_edge)
    inside_by p q x e (chooses r test c d g y er last is next) leads =
        let a : (q ≡ place_of m c) ⊎ (q ≡ suc p) = subst (λ z. LeadsTo p z q) (ap word_in is) leads in
        ⊎_elim
        (λ f. subst (λ z. z < length L.words) (sym f) (edge_within (edge g.from c) (of_last r g er refl (subst (λ z. IsIn c (targets_of z)) (sym last) (inl refl)))))
        (λ f. subst (λ z. z < length L.words) (sym f) (within (suc p) y next))
        a
    inside_by p q x e (calls r f next arguments result g y er last is after) leads = let a : q ≡ suc p = subst (λ z. LeadsTo p z q) (ap word_in is) leads in subst (λ z. z < length L.words) (sym a) (within (suc p) y after)
    inside_by p q x e (returns r a g er last is) leads = absurd (subst (λ z. LeadsTo p z q) (ap word_in is) leads)
    inside_by p q x e (ends k is) leads = absurd (subst (λ z. LeadsTo p z q) (ap word_in is) leads)

    attained_by : (p v n : ℕ) (x : Dated) → slice_get D p ≡ Some x → Kind latency m p x → left p v ≡ suc n → Pends latency L p v (suc n)
    attained_by p v n x e (plans r w g word er ew b) h =
        let at = word_there latency m r w g word er ew in
        let lt = slice_get_within g.words w word ew in
        let a : left p v ≡ left_before latency g.words w v = ap (λ z. left z v) b ∙ left_is (start r + w) v (record { word = Planned r w (laid at.at word); left = left_before latency g.words w }) at.is in
        pends_at r g er w p v n b (omega arith) (sym a ∙ h)
    attained_by p v n x e (drains k f y is next cold of) h = pends_drain p k f of v n (sym (ap (λ (z : Dated). z.left v) is) ∙ sym (left_is p v x e) ∙ h)
    attained_by p v n x e (jumps out is_edge is) h = absurd (let a : 0 ≡ suc n = sym (ap (λ (z : Dated). z.left v) is) ∙ sym (left_is p v x e) ∙ h in omega arith)
    attained_by p v n x e (chooses r test c d g y er last is next) h = absurd (let a : 0 ≡ suc n = sym (ap (λ (z : Dated). z.left v) is) ∙ sym (left_is p v x e) ∙ h in omega arith)
    attained_by p v n x e (calls r f next arguments result g y er last is after) h = absurd (let a : 0 ≡ suc n = sym (ap (λ (z : Dated). z.left v) is) ∙ sym (left_is p v x e) ∙ h in omega arith)
    attained_by p v n x e (returns r a g er last is) h = absurd (let c : 0 ≡ suc n = sym (ap (λ (z : Dated). z.left v) is) ∙ sym (left_is p v x e) ∙ h in omega arith)
    attained_by p v n x e (ends k is) h = absurd (let a : 0 ≡ suc n = sym (ap (λ (z : Dated). z.left v) is) ∙ sym (left_is p v x e) ∙ h in omega arith)

    attained_at : (p v n : ℕ) → left p v ≡ suc n → Pends latency L p v (suc n)
    attained_at p v n h = by (slice_get D p) refl
      where
        by : (o : Option Dated) → slice_get D p ≡ o → Pends latency L p v (suc n)
        by None e = absurd (let a : 0 ≡ suc n = sym (ap (λ o. left_at o v) e) ∙ h in omega arith)
        by (Some x) e = attained_by p v n x e (kind_of latency m p x e) h

    left_planned : (p v : ℕ) (items : List Laid) (x : PlanOf latency m p items) → left p v ≡ left_before latency x.g.words x.number v
    left_planned p v items x = ap (λ z. left z v) x.place ∙ left_is (start x.region + x.number) v (record { word = Planned x.region x.number (laid x.stands.at x.word); left = left_before latency x.g.words x.number }) x.stands.is

    reads_left : (p v : ℕ) (items : List Laid) → Plans L p items → IsIn v (laid_reads items) → left p v ≡ 0
    reads_left p v items h i =
        let x = plan_of latency m p items h in
        let times = settled.times x.region x.g x.has_region in
        let read : IsIn v (word_reads x.word) = subst (IsIn v) (ap laid_reads x.is ∙ same_reads x.stands.at x.word) i in
        left_planned p v items x ∙ none_where_named latency x.g times x.number v (λ j l lt w. times.reads j x.number v l lt w (x.word, x.has_word, read))

    writes_left : (p v : ℕ) (items : List Laid) → Plans L p items → IsIn v (laid_writes items) → left p v ≡ 0
    writes_left p v items h i =
        let x = plan_of latency m p items h in
        let times = settled.times x.region x.g x.has_region in
        let wrote : IsIn v (word_writes x.word) = subst (IsIn v) (ap laid_writes x.is ∙ same_writes x.stands.at x.word) i in
        let by = writer_of v x.word wrote in
        left_planned p v items x ∙ none_where_named latency x.g times x.number v (λ j l lt w. times.writes j x.number v l (latency by.0) lt w (x.word, by.0, by.1, x.has_word, by.2, by.3, refl))

    home_there : (v cluster : ℕ) → StandsOn m v cluster → stands_for (bank_in L v) (Some (home_in L v)) cluster
    home_there v cluster s =
        named_there (bank_of m v) (home_of m v) (home_in L v) cluster (home_is (nat_lt v (length m.banks)) (has_home m.homes.clusters v) (v / length m.banks - 1) cluster) s

    comes_across : (p v u cluster : ℕ) (items : List Laid) → Plans L p items → IsIn (Plain (Across v u) cluster) items → bank_in L v ≡ Some General → home_in L u ≡ cluster → ⊥
    comes_across p v u cluster items h i bank same =
        let x = plan_of latency m p items h in
        let from = plain_from x.stands.at x.word (Across v u) cluster (subst (IsIn (Plain (Across v u) cluster)) x.is i) in
        let s = (settled.clusters x.region x.g x.has_region).writes x.number v cluster (Across v u) x.word x.has_word from (inl refl) in
        let home : home_of m v ≡ Some cluster = subst (λ z. stands_for z (home_of m v) cluster) bank s in
        let a = valid.away v u (region_op x.region x.number cluster x.g x.word x.has_region x.has_word from) in
        let at : home_in L u ≡ a.1 = ap (λ b. if b then or_zero (has_home m.homes.clusters u) else (u / length m.banks - 1)) (lt-ltb u (length m.banks) a.0) ∙ ap or_zero a.2 in
        a.3 (home ∙ ap Some (sym same ∙ at))

    fresh_left : (p q v r w cluster : ℕ) (op : Op) (items : List Laid) → slice_get L.words p ≡ Some (Planned r w items) → LeadsTo p (Planned r w items) q → IsIn (Plain op cluster) items → IsIn v (writes op) → latency op ≤ left q v + 1
    fresh_left p q v r w cluster op items e leads i wr =
        let x = plan_of latency m p items (r, w, e) in
        let at = word_there latency m x.region x.number x.g x.word x.has_region x.has_word in
        let s = source_of latency m p (Planned r w items) e in
        let is = word_at x.region x.number x.g x.word x.has_region x.has_word p s.x s.has x.place in
        let t = step x.region x.number x.g x.word x.has_region x.has_word p q x.place (subst (λ z. LeadsTo p z q) (sym s.is ∙ is) leads) in
        let c = given_covers latency x.word v op cluster (plain_from x.stands.at x.word op cluster (subst (IsIn (Plain op cluster)) x.is i)) wr in
        let same : given_at latency (slice_get x.g.words x.number) v ≡ given_in latency x.word v = ap (λ o. given_at latency o v) x.has_word in
        let d = t.there v in
        omega arith

    settled_layout : (laid_room : List (Option ℕ) → List Laid → Bool) → 0 < length m.nodes → SameRoom room laid_room → SettledLayout laid_room latency L
    settled_layout laid_room some same = record {
      left = left;
      inside = λ p q word e leads. let s = source_of latency m p word e in inside_by p q s.x s.has (kind_of latency m p s.x s.has) (subst (λ z. LeadsTo p z q) (sym s.is) leads);
      entry = entry_within some;
      fits = λ p items h. let x = plan_of latency m p items h in same m.homes.clusters x.word items (subst (λ z. AreItems z x.word) (sym x.is) (are_items x.stands.at x.word)) ∙ settled.fits x.region x.number x.g x.word x.has_region x.has_word;
      once = λ p items h. let x = plan_of latency m p items h in subst NoTwice (sym (ap laid_writes x.is ∙ same_writes x.stands.at x.word)) ((settled.times x.region x.g x.has_region).once x.number x.word x.has_word);
      ways = λ p items h. let x = plan_of latency m p items h in subst (λ z. NoTwice (laid_ways z)) (sym x.is) (ways_differ x.stands.at x.word);
      reads_home = λ p v cluster op items h i r. let x = plan_of latency m p items h in home_there v cluster ((settled.clusters x.region x.g x.has_region).reads x.number v cluster op x.word x.has_word (plain_from x.stands.at x.word op cluster (subst (IsIn (Plain op cluster)) x.is i)) r);
      writes_home = λ p v cluster op items h i r. let x = plan_of latency m p items h in home_there v cluster ((settled.clusters x.region x.g x.has_region).writes x.number v cluster op x.word x.has_word (plain_from x.stands.at x.word op cluster (subst (IsIn (Plain op cluster)) x.is i)) r);
      across = comes_across;
      tests = λ p test q y items h i. let x = plan_of latency m p items h in let s = split_from x.stands.at x.word test q y (subst (IsIn (Split test y q)) x.is i) in (settled.clusters x.region x.g x.has_region).tests x.number test s.1 s.0 y x.word x.has_word s.2;
      reads_none = reads_left;
      writes_none = writes_left;
      choices = choice_left;
      cold = cold_left;
      kept = λ p q v word e leads. let s = source_of latency m p word e in subst (λ z. left p v ≤ left q v + cycles_of z) s.is (kept_by p q v s.x s.has (kind_of latency m p s.x s.has) (subst (λ z. LeadsTo p z q) (sym s.is) leads));
      fresh = fresh_left;
      attained = attained_at;
    }

pub layout_settles : LayoutSettles
layout_settles m l latency room laid_room some out same settled = subst (SettledLayout laid_room latency) (sym out.is) (settled_layout latency m out.valid out.done room settled laid_room some same)
