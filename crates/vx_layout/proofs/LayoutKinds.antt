-- What stands at a place of a layout: a word of a region, the empty cycles behind its last word or behind a split, or a word
-- by which it is left.
use Rattle.std.proofs.Common.{◌≡◌, ℕ, zero, suc, ◌+◌, Bool, Option, Some, List, [], ◌∷◌, ◌++◌, length, map, slice_get, refl, sym, ap, ◌∙◌, subst, inl, inr, arith}
use Rattle.std.proofs.lemmas.Option.{slice_get_within}
use Rattle.vx_flow.specs.declared.graph.Op.{Op}
use Rattle.vx_flow.specs.declared.graph.Operand.{Operand}
use Rattle.vx_flow.specs.declared.graph.Edge.{Edge}
use Rattle.vx_flow.specs.declared.graph.Exit.{Exit}
use Rattle.vx_flow.specs.declared.graph.Exit.TheVariants.{Goto, Split as Branches, Call as Calling, Return as Returning, Ends as Ending}
use Rattle.vx_flow.specs.Effects.{IsIn}
use Rattle.vx_flow.specs.Sound.{targets_of}
use Rattle.vx_flow.specs.Walk.{edge}
use Rattle.vx_base.specs.declared.outcome.Trap.{Trap}
use Rattle.vx_mixed.specs.declared.region.Item.{Item}
use Rattle.vx_mixed.specs.declared.region.Item.TheVariants.{Plain, Split}
use Rattle.vx_mixed.specs.declared.region.Region.{Region}
use Rattle.vx_mixed.specs.declared.layout.Laid.TheVariants.{Split as LaidSplit}
use Rattle.vx_mixed.specs.declared.layout.VirtualWord.TheVariants.{Planned, Drain, Transfer, Choice, Call, Return, Ends}
use Rattle.vx_mixed.specs.declared.mixed.MixedGraph.{MixedGraph}
use Rattle.vx_mixed.specs.Edges.{IsEdge, of_split, of_last}
use Rattle.vx_mixed.specs.Layout.{leave_words, stub, word_stubs, exit_words, laid, region_size, region_place, place_of}
use Rattle.vx_mixed.proofs.Standing.{StandsAt, stands_front, stands_back, stands_moved, InParts, in_front, in_back, in_parts, get_some}
use Rattle.vx_layout.proofs.DatedWords.{Dated, landed, waiting, dated_stub, dated_word_stubs, left_before, dated_words, dated_stubs, dated_exit, dated_region, dated_all}
use Rattle.vx_layout.proofs.LayoutPlaces.{dated_stub_size, dated_word_stubs_size, dated_words_size, dated_exit_size, dated_region_size, exit_size, RegionAt, dated, region_stands}

-- the way out of a split of a word, from what is laid out
pub record SplitAt (whole : List Dated) (place f : ℕ → ℕ) (word : List Item) (test q : ℕ) (y : Bool) : Type 0 where
  pub edge : Edge
  pub drain : ℕ
  pub has : IsIn (Split test y edge drain) word
  pub stands : StandsAt whole q (dated_stub place f (Split test y edge drain))

pub split_at : (whole : List Dated) (place f : ℕ → ℕ) (at : ℕ) (word : List Item) → StandsAt whole at (dated_word_stubs place f word) → (test q : ℕ) (y : Bool) → IsIn (LaidSplit test y q) (laid at word) → SplitAt whole place f word test q y
split_at whole place f at [] h test q y i = absurd i
split_at whole place f at (Plain op cluster ∷ items) h test q y (inl e) = absurd (cc)
split_at whole place f at (Plain op cluster ∷ items) h test q y (inr i) =
    let r = split_at whole place f at items h test q y i in
    record { edge = r.edge; drain = r.drain; has = inr r.has; stands = r.stands }
split_at whole place f at (Split p z e d ∷ items) h test q y (inl i) =
    let a : test ≡ p = cc in
    let b : y ≡ z = cc in
    let c : at ≡ q = cc in
    record {
      edge = e;
      drain = d;
      has = inl (ap (λ t. Split t y e d) a ∙ ap (λ t. Split p t e d) b);
      stands = subst (λ t. StandsAt whole q (dated_stub place f (Split t y e d))) (sym a) (stands_moved whole at q (dated_stub place f (Split p y e d)) c (stands_front whole at (dated_stub place f (Split p z e d)) (dated_word_stubs place f items) h));
    }
split_at whole place f at (Split p z e d ∷ items) h test q y (inr i) =
    let here = dated_stub place f (Split p z e d) in
    let more = at + length (stub (λ b. 0) (Split p z e d)) in
    let rest = stands_moved whole (at + length here) more (dated_word_stubs place f items) (ap (λ t. at + t) (dated_stub_size place f (Split p z e d))) (stands_back whole at here (dated_word_stubs place f items) h) in
    let r = split_at whole place f more items rest test q y i in
    record { edge = r.edge; drain = r.drain; has = inr r.has; stands = r.stands }

-- and back: what stands in the ways out of a word is of one of its splits
record FromSplit (whole : List Dated) (place f : ℕ → ℕ) (at : ℕ) (word : List Item) (j : ℕ) (x : Dated) : Type 0 where
  test : ℕ
  y : Bool
  edge : Edge
  drain : ℕ
  q : ℕ
  i : ℕ
  has : IsIn (Split test y edge drain) word
  lays : IsIn (LaidSplit test y q) (laid at word)
  stands : StandsAt whole q (dated_stub place f (Split test y edge drain))
  behind : at + j ≡ q + i
  is : slice_get (dated_stub place f (Split test y edge drain)) i ≡ Some x

in_word_stubs : (whole : List Dated) (place f : ℕ → ℕ) (at : ℕ) (word : List Item) → StandsAt whole at (dated_word_stubs place f word) → (j : ℕ) (x : Dated) → slice_get (dated_word_stubs place f word) j ≡ Some x → FromSplit whole place f at word j x
in_word_stubs whole place f at [] h j x e = absurd (cc)
in_word_stubs whole place f at (Plain op cluster ∷ items) h j x e =
    let r = in_word_stubs whole place f at items h j x e in
    record { test = r.test; y = r.y; edge = r.edge; drain = r.drain; q = r.q; i = r.i; has = inr r.has; lays = inr r.lays; stands = r.stands; behind = r.behind; is = r.is }
in_word_stubs whole place f at (Split p z g d ∷ items) h j x e =
    let here = dated_stub place f (Split p z g d) in
    let more = at + length (stub (λ b. 0) (Split p z g d)) in
    let rest = stands_moved whole (at + length here) more (dated_word_stubs place f items) (ap (λ t. at + t) (dated_stub_size place f (Split p z g d))) (stands_back whole at here (dated_word_stubs place f items) h) in
    by (in_parts here (dated_word_stubs place f items) j x e) (λ k u. in_word_stubs whole place f more items rest k x u)
  where
    by : InParts (dated_stub place f (Split p z g d)) (dated_word_stubs place f items) j x → ((k : ℕ) → slice_get (dated_word_stubs place f items) k ≡ Some x → FromSplit whole place f (at + length (stub (λ b. 0) (Split p z g d))) items k x) → FromSplit whole place f at (Split p z g d ∷ items) j x
    by (in_front u) go = record { test = p; y = z; edge = g; drain = d; q = at; i = j; has = inl refl; lays = inl refl; stands = stands_front whole at (dated_stub place f (Split p z g d)) (dated_word_stubs place f items) h; behind = refl; is = u }
    by (in_back k b u) go =
        let r = go k u in
        let n = dated_stub_size place f (Split p z g d) in
        let m = r.behind in
        record { test = r.test; y = r.y; edge = r.edge; drain = r.drain; q = r.q; i = r.i; has = inr r.has; lays = inr r.lays; stands = r.stands; behind = omega arith; is = r.is }

module _ (latency : Op → ℕ) (place : ℕ → ℕ) where
  record FromStub (whole : List Dated) (all : List (List Item)) (w at : ℕ) (words : List (List Item)) (j : ℕ) (x : Dated) : Type 0 where
    k : ℕ
    number : ℕ
    word : List Item
    start : ℕ
    i : ℕ
    has : slice_get words k ≡ Some word
    numbered : number ≡ w + k
    planned : (r : ℕ) → slice_get (dated_words latency r all w at words) k ≡ Some (record { word = Planned r number (laid start word); left = left_before latency all number })
    behind : at + j ≡ start + i
    split : FromSplit whole place (left_before latency all (suc number)) start word i x

  in_stubs : (whole : List Dated) (all : List (List Item)) (w at : ℕ) (words : List (List Item)) → StandsAt whole at (dated_stubs latency place all w words) → (j : ℕ) (x : Dated) → slice_get (dated_stubs latency place all w words) j ≡ Some x → FromStub whole all w at words j x
  in_stubs whole all w at [] h j x e = absurd (cc)
  in_stubs whole all w at (word ∷ words) h j x e =
      let here = dated_word_stubs place (left_before latency all (suc w)) word in
      let more = at + length (word_stubs (λ b. 0) word) in
      let others = dated_stubs latency place all (w + 1) words in
      let rest = stands_moved whole (at + length here) more others (ap (λ t. at + t) (dated_word_stubs_size place (left_before latency all (suc w)) word)) (stands_back whole at here others h) in
      by (in_parts here others j x e) (λ k u. in_stubs whole all (w + 1) more words rest k x u)
    where
      by : InParts (dated_word_stubs place (left_before latency all (suc w)) word) (dated_stubs latency place all (w + 1) words) j x → ((k : ℕ) → slice_get (dated_stubs latency place all (w + 1) words) k ≡ Some x → FromStub whole all (w + 1) (at + length (word_stubs (λ b. 0) word)) words k x) → FromStub whole all w at (word ∷ words) j x
      by (in_front u) go =
          let stood = stands_front whole at (dated_word_stubs place (left_before latency all (suc w)) word) (dated_stubs latency place all (w + 1) words) h in
          record { k = 0; number = w; word = word; start = at; i = j; has = refl; numbered = omega arith; planned = λ r. refl; behind = refl; split = in_word_stubs whole place (left_before latency all (suc w)) at word stood j x u }
      by (in_back k b u) go =
          let r = go k u in
          let n = dated_word_stubs_size place (left_before latency all (suc w)) word in
          let c = r.behind in
          let d = r.numbered in
          record { k = suc r.k; number = r.number; word = r.word; start = r.start; i = r.i; has = r.has; numbered = omega arith; planned = r.planned; behind = omega arith; split = r.split }

  record InRegion (r p : ℕ) (gs : List Region) (j : ℕ) (x : Dated) : Type 0 where
    i : ℕ
    number : ℕ
    start : ℕ
    g : Region
    k : ℕ
    has : slice_get gs i ≡ Some g
    numbered : number ≡ r + i
    starts : start ≡ p + region_place gs i
    behind : j ≡ region_place gs i + k
    is : slice_get (dated_region latency place number start g) k ≡ Some x

  in_regions : (r p : ℕ) (gs : List Region) (j : ℕ) (x : Dated) → slice_get (dated_all latency place r p gs) j ≡ Some x → InRegion r p gs j x
  in_regions r p [] j x e = absurd (cc)
  in_regions r p (g ∷ gs) j x e =
      by (in_parts (dated_region latency place r p g) (dated_all latency place (r + 1) (p + region_size g) gs) j x e) (λ k u. in_regions (r + 1) (p + region_size g) gs k x u)
    where
      by : InParts (dated_region latency place r p g) (dated_all latency place (r + 1) (p + region_size g) gs) j x → ((k : ℕ) → slice_get (dated_all latency place (r + 1) (p + region_size g) gs) k ≡ Some x → InRegion (r + 1) (p + region_size g) gs k x) → InRegion r p (g ∷ gs) j x
      by (in_front u) go = record { i = 0; number = r; start = p; g = g; k = j; has = refl; numbered = omega arith; starts = omega arith; behind = omega arith; is = u }
      by (in_back k b u) go =
          let q = go k u in
          let n = dated_region_size latency place r p g in
          let c = q.numbered in
          let d = q.starts in
          let f = q.behind in
          record { i = suc q.i; number = q.number; start = q.start; g = q.g; k = q.k; has = q.has; numbered = omega arith; starts = omega arith; behind = omega arith; is = q.is }

module _ (latency : Op → ℕ) (m : MixedGraph) where
  abbrev D : List Dated
  D = dated latency m

  abbrev pub begins_at : ℕ → ℕ
  begins_at r = region_place m.regions r

  -- the empty cycles before the exit of a region, or behind a split
  pub data DrainOf (p n : ℕ) (f : ℕ → ℕ) : Type 0 where
    at_exit : (r : ℕ) (g : Region) → slice_get m.regions r ≡ Some g → p ≡ begins_at r + length g.words → g.drain ≡ suc n → f ≡ left_before latency g.words (length g.words) → DrainOf p n f
    at_split : (r w at test : ℕ) (y : Bool) (e : Edge) (g : Region) (word : List Item) → slice_get m.regions r ≡ Some g → slice_get g.words w ≡ Some word →
        slice_get D (begins_at r + w) ≡ Some (record { word = Planned r w (laid at word); left = left_before latency g.words w }) → IsIn (Split test y e (suc n)) word → IsIn (LaidSplit test y p) (laid at word) → f ≡ left_before latency g.words (suc w) → DrainOf p n f

  -- what stands at place p
  pub data Kind (p : ℕ) (x : Dated) : Type 0 where
    plans : (r w : ℕ) (g : Region) (word : List Item) → slice_get m.regions r ≡ Some g → slice_get g.words w ≡ Some word → p ≡ begins_at r + w → Kind p x
    drains : (n : ℕ) (f : ℕ → ℕ) (y : Dated) → x ≡ record { word = Drain (suc n); left = f } → slice_get D (suc p) ≡ Some y → ((v : ℕ) → y.left v ≡ 0) → DrainOf p n f → Kind p x
    jumps : (e : Edge) → IsEdge m e → x ≡ landed (Transfer (place_of m e.to)) → Kind p x
    chooses : (r test c d : ℕ) (g : Region) (y : Dated) → slice_get m.regions r ≡ Some g → g.last ≡ Branches test c d → x ≡ landed (Choice test (place_of m c)) → slice_get D (suc p) ≡ Some y → Kind p x
    calls : (r f next : ℕ) (arguments : List Operand) (result : Option ℕ) (g : Region) (y : Dated) → slice_get m.regions r ≡ Some g → g.last ≡ Calling f arguments result next → x ≡ landed (Call f arguments result) → slice_get D (suc p) ≡ Some y → Kind p x
    returns : (r : ℕ) (a : Operand) (g : Region) → slice_get m.regions r ≡ Some g → g.last ≡ Returning a → x ≡ landed (Return a) → Kind p x
    ends : (k : Trap) → x ≡ landed (Ends k) → Kind p x

  -- a word by which a region is left
  leaving : (r : ℕ) (g : Region) → slice_get m.regions r ≡ Some g → (q p j : ℕ) (x : Dated) (last : Exit) → g.last ≡ last → StandsAt D q (map landed (leave_words (place_of m) last)) → p ≡ q + j → slice_get (map landed (leave_words (place_of m) last)) j ≡ Some x → Kind p x
  leaving r g e q p zero x (Goto c) is h b u = jumps (edge g.from c) (of_last r g e refl (subst (λ z. IsIn c (targets_of z)) (sym is) (inl refl))) (cc)
  leaving r g e q p (suc j) x (Goto c) is h b u = absurd (cc)
  leaving r g e q p zero x (Branches test c d) is h b u = chooses r test c d g (landed (Transfer (place_of m d))) e is (cc) (let z : suc p ≡ q + 1 = omega arith in ap (slice_get D) z ∙ h.item 1 (landed (Transfer (place_of m d))) refl)
  leaving r g e q p (suc zero) x (Branches test c d) is h b u = jumps (edge g.from d) (of_last r g e refl (subst (λ z. IsIn d (targets_of z)) (sym is) (inr (inl refl)))) (cc)
  leaving r g e q p (suc (suc j)) x (Branches test c d) is h b u = absurd (cc)
  leaving r g e q p zero x (Calling f arguments result next) is h b u = calls r f next arguments result g (landed (Transfer (place_of m next))) e is (cc) (let z : suc p ≡ q + 1 = omega arith in ap (slice_get D) z ∙ h.item 1 (landed (Transfer (place_of m next))) refl)
  leaving r g e q p (suc zero) x (Calling f arguments result next) is h b u = jumps (edge g.from next) (of_last r g e refl (subst (λ z. IsIn next (targets_of z)) (sym is) (inl refl))) (cc)
  leaving r g e q p (suc (suc j)) x (Calling f arguments result next) is h b u = absurd (cc)
  leaving r g e q p zero x (Returning a) is h b u = returns r a g e is (cc)
  leaving r g e q p (suc j) x (Returning a) is h b u = absurd (cc)
  leaving r g e q p zero x (Ending k) is h b u = ends k (cc)
  leaving r g e q p (suc j) x (Ending k) is h b u = absurd (cc)

  -- the first word by which a region is left
  pub first_leave : (last : Exit) → (y : Dated) × (slice_get (map landed (leave_words (place_of m) last)) 0 ≡ Some y) × ((v : ℕ) → y.left v ≡ 0)
  first_leave (Goto c) = (landed (Transfer (place_of m c)), refl, λ v. refl)
  first_leave (Branches test c d) = (landed (Choice test (place_of m c)), refl, λ v. refl)
  first_leave (Calling f arguments result next) = (landed (Call f arguments result), refl, λ v. refl)
  first_leave (Returning a) = (landed (Return a), refl, λ v. refl)
  first_leave (Ending k) = (landed (Ends k), refl, λ v. refl)

  exits : (r : ℕ) (g : Region) → slice_get m.regions r ≡ Some g → (n : ℕ) → g.drain ≡ n → (q p k : ℕ) (x : Dated) → q ≡ begins_at r + length g.words → StandsAt D q (waiting n (left_before latency g.words (length g.words)) ++ map landed (leave_words (place_of m) g.last)) →
      p ≡ q + k → slice_get (waiting n (left_before latency g.words (length g.words)) ++ map landed (leave_words (place_of m) g.last)) k ≡ Some x → Kind p x
  exits r g e zero d q p k x a h b u = leaving r g e q p k x g.last refl h b u
  exits r g e (suc n) d q p zero x a h b u =
      let f = first_leave g.last in
      let z : suc p ≡ q + 1 = omega arith in
      drains n (left_before latency g.words (length g.words)) f.0 (cc) (ap (slice_get D) z ∙ h.item 1 f.0 f.1) f.2 (at_exit r g e (omega arith) d refl)
  exits r g e (suc n) d q p (suc k) x a h b u =
      leaving r g e (suc q) p k x g.last refl
      (record { item = λ i y t. let z : suc q + i ≡ q + suc i = omega arith in ap (slice_get D) z ∙ h.item (suc i) y t })
      (omega arith) u

  parts : (r w at test q p i : ℕ) (y : Bool) (e : Edge) (d : ℕ) (g : Region) (word : List Item) (x : Dated) → slice_get m.regions r ≡ Some g → slice_get g.words w ≡ Some word →
      slice_get D (begins_at r + w) ≡ Some (record { word = Planned r w (laid at word); left = left_before latency g.words w }) → IsIn (Split test y e d) word → IsIn (LaidSplit test y q) (laid at word) →
      StandsAt D q (dated_stub (place_of m) (left_before latency g.words (suc w)) (Split test y e d)) → p ≡ q + i → slice_get (dated_stub (place_of m) (left_before latency g.words (suc w)) (Split test y e d)) i ≡ Some x → Kind p x
  parts r w at test q p zero y e zero g word x er ew planned has lays h b u = jumps e (of_split r w test zero y g word er ew has) (cc)
  parts r w at test q p (suc i) y e zero g word x er ew planned has lays h b u = absurd (cc)
  parts r w at test q p zero y e (suc n) g word x er ew planned has lays h b u =
      let z : suc p ≡ q + 1 = omega arith in
      let c : q ≡ p = omega arith in
      drains n (left_before latency g.words (suc w)) (landed (Transfer (place_of m e.to))) (cc) (ap (slice_get D) z ∙ h.item 1 (landed (Transfer (place_of m e.to))) refl) (λ v. refl)
      (at_split r w at test y e g word er ew planned has (subst (λ t. IsIn (LaidSplit test y t) (laid at word)) c lays) refl)
  parts r w at test q p (suc zero) y e (suc n) g word x er ew planned has lays h b u = jumps e (of_split r w test (suc n) y g word er ew has) (cc)
  parts r w at test q p (suc (suc i)) y e (suc n) g word x er ew planned has lays h b u = absurd (cc)

  region_kind : (r : ℕ) (g : Region) (p k : ℕ) (x : Dated) → slice_get m.regions r ≡ Some g → p ≡ begins_at r + k → slice_get (dated_region latency (place_of m) r (begins_at r) g) k ≡ Some x → Kind p x
  region_kind r g p k x e b u = by (in_parts words (exit ++ ways) k x u)
    where
      behind : ℕ
      behind = begins_at r + length g.words + length (exit_words (place_of m) g)

      words : List Dated
      words = dated_words latency r g.words 0 behind g.words

      exit : List Dated
      exit = dated_exit latency (place_of m) g

      ways : List Dated
      ways = dated_stubs latency (place_of m) g.words 0 g.words

      at : RegionAt latency (place_of m) D r (begins_at r) g
      at = region_stands latency m r g e

      size : length words ≡ length g.words
      size = dated_words_size latency (place_of m) r g.words 0 behind g.words

      rest : (i : ℕ) → k ≡ length words + i → InParts exit ways i x → Kind p x
      rest i c (in_front f) = exits r g e g.drain refl (begins_at r + length g.words) p i x refl at.exit (let s = size in omega arith) f
      rest i c (in_back j d f) =
          let s = size in
          let t : length exit ≡ length (exit_words (place_of m) g) = dated_exit_size latency (place_of m) g ∙ exit_size (λ z. 0) (place_of m) g in
          let way = in_stubs latency (place_of m) D g.words 0 behind g.words (stands_moved D at.at behind ways at.behind at.stubs) j x f in
          let n : way.number ≡ way.k = let a = way.numbered in omega arith in
          let has : slice_get g.words way.number ≡ Some way.word = ap (slice_get g.words) n ∙ way.has in
          let stood = at.words.item way.k (record { word = Planned r way.number (laid way.start way.word); left = left_before latency g.words way.number })
          (ap (λ z. slice_get (dated_words latency r g.words 0 z g.words) way.k) at.behind ∙ way.planned r) in
          let planned : slice_get D (begins_at r + way.number) ≡ Some (record { word = Planned r way.number (laid way.start way.word); left = left_before latency g.words way.number }) = ap (λ z. slice_get D (begins_at r + z)) n ∙ stood in
          let u = way.split in
          let b1 = way.behind in
          let b2 = u.behind in
          parts r way.number way.start u.test u.q p u.i u.y u.edge u.drain g way.word x e has planned u.has u.lays u.stands (omega arith) u.is

      by : InParts words (exit ++ ways) k x → Kind p x
      by (in_front f) =
          let lt = slice_get_within words k x f in
          let s = size in
          let w = get_some g.words k (omega arith) in
          plans r k g w.0 e w.1 b
      by (in_back i c f) = rest i c (in_parts exit ways i x f)

  pub kind_of : (p : ℕ) (x : Dated) → slice_get D p ≡ Some x → Kind p x
  kind_of p x e =
      let r = in_regions latency (place_of m) 0 0 m.regions p x e in
      let a : r.number ≡ r.i = let z = r.numbered in omega arith in
      let b : r.start ≡ begins_at r.i = let z = r.starts in omega arith in
      region_kind r.i r.g p r.k x r.has r.behind (ap (λ z. slice_get (dated_region latency (place_of m) z (begins_at r.i) r.g) r.k) (sym a) ∙ ap (λ z. slice_get (dated_region latency (place_of m) r.number z r.g) r.k) (sym b) ∙ r.is)
