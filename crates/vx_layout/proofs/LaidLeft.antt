-- How many cycles writes may still need at the places of a layout, where the words of its regions meet their times.
use Rattle.std.proofs.Common.{◌≡◌, ℕ, zero, suc, ◌+◌, ◌<◌, ◌≤◌, max, Bool, true, false, Option, Some, None, List, [], ◌∷◌, length, slice_get, refl, sym, ap, ◌∙◌, ⊎_elim, inl, inr, arith}
use Rattle.std.specs.Prelude.{◌⊎◌, ◌==◌, if◌then◌else◌}
use Rattle.std.proofs.lemmas.Bool.{eqb-true, eq-eqb, cases_lt}
use Rattle.vx_flow.specs.declared.graph.Op.{Op}
use Rattle.vx_flow.specs.declared.graph.Edge.{Edge}
use Rattle.vx_flow.specs.Effects.{IsIn, writes}
use Rattle.vx_mixed.specs.declared.region.Item.{Item}
use Rattle.vx_mixed.specs.declared.region.Item.TheVariants.{Plain, Split}
use Rattle.vx_mixed.specs.declared.region.Region.{Region}
use Rattle.vx_mixed.specs.Settled.{WritesIn, InTime}
use Rattle.vx_layout.proofs.DatedWords.{lands_in, given_in, given_at, left_before}

pub max_is : (a b : ℕ) → (max a b ≡ a) ⊎ (max a b ≡ b)
max_is a b = ⊎_elim (λ l. let q : max a b ≡ b = omega arith in inr q) (λ g. let q : max a b ≡ a = omega arith in inl q) (cases_lt a b)

lands_cases : (us : List ℕ) (l v : ℕ) → (lands_in us l v ≡ 0) ⊎ (IsIn v us × (lands_in us l v ≡ l))
lands_cases [] l v = inl refl
lands_cases (u ∷ us) l v = by (u == v) refl (lands_cases us l v)
  where
    by : (b : Bool) → (u == v) ≡ b → (lands_in us l v ≡ 0) ⊎ (IsIn v us × (lands_in us l v ≡ l)) → ((if b then l else lands_in us l v) ≡ 0) ⊎ (IsIn v (u ∷ us) × ((if b then l else lands_in us l v) ≡ l))
    by true e rest = inr (inl (sym (eqb-true u v e)), refl)
    by false e (inl z) = inl z
    by false e (inr z) = inr (inr z.0, z.1)

lands_full : (us : List ℕ) (l v : ℕ) → IsIn v us → lands_in us l v ≡ l
lands_full [] l v h = absurd h
lands_full (u ∷ us) l v (inl e) = ap (λ b. if b then l else lands_in us l v) (eq-eqb u v (sym e))
lands_full (u ∷ us) l v (inr h) = by (u == v) (lands_full us l v h)
  where
    by : (b : Bool) → lands_in us l v ≡ l → (if b then l else lands_in us l v) ≡ l
    by true e = refl
    by false e = e

module _ (latency : Op → ℕ) where
  -- an operation of a word that writes v with the word's latency
  pub record Giver (word : List Item) (v : ℕ) : Type 0 where
    pub op : Op
    pub cluster : ℕ
    pub has : IsIn (Plain op cluster) word
    pub makes : IsIn v (writes op)
    pub lasts : given_in latency word v ≡ latency op

  pub given_cases : (word : List Item) (v : ℕ) → (given_in latency word v ≡ 0) ⊎ Giver word v
  given_cases [] v = inl refl
  given_cases (Split p y e d ∷ items) v =
      ⊎_elim (λ z. inl z) (λ r. inr (record { op = r.op; cluster = r.cluster; has = inr r.has; makes = r.makes; lasts = r.lasts })) (given_cases items v)
  given_cases (Plain op cluster ∷ items) v = by (max_is (lands_in (writes op) (latency op) v) (given_in latency items v)) (lands_cases (writes op) (latency op) v) (given_cases items v)
    where
      a : ℕ
      a = lands_in (writes op) (latency op) v

      b : ℕ
      b = given_in latency items v

      by : (max a b ≡ a) ⊎ (max a b ≡ b) → (a ≡ 0) ⊎ (IsIn v (writes op) × (a ≡ latency op)) → (b ≡ 0) ⊎ Giver items v → (max a b ≡ 0) ⊎ Giver (Plain op cluster ∷ items) v
      by (inl e) (inl z) rest = inl (e ∙ z)
      by (inl e) (inr z) rest = inr (record { op = op; cluster = cluster; has = inl refl; makes = z.0; lasts = e ∙ z.1 })
      by (inr e) first (inl z) = inl (e ∙ z)
      by (inr e) first (inr r) = inr (record { op = r.op; cluster = r.cluster; has = inr r.has; makes = r.makes; lasts = e ∙ r.lasts })

  pub given_covers : (word : List Item) (v : ℕ) (op : Op) (cluster : ℕ) → IsIn (Plain op cluster) word → IsIn v (writes op) → latency op ≤ given_in latency word v
  given_covers [] v op cluster h w = absurd h
  given_covers (Split p y e d ∷ items) v op cluster (inl f) w = absurd (cc)
  given_covers (Split p y e d ∷ items) v op cluster (inr h) w = given_covers items v op cluster h w
  given_covers (Plain o c ∷ items) v op cluster (inl e) w =
      let a : op ≡ o = cc in
      let f : lands_in (writes o) (latency o) v ≡ latency op = ap (λ z. lands_in (writes z) (latency z) v) (sym a) ∙ lands_full (writes op) (latency op) v w in
      omega arith
  given_covers (Plain o c ∷ items) v op cluster (inr h) w = let r = given_covers items v op cluster h w in omega arith

  -- where the writes of the words before word t have landed by a cycle, nothing is left for it
  pub lands_by : (words : List (List Item)) (t limit v : ℕ) → ((i l : ℕ) → i < t → WritesIn latency words i v l → i + l ≤ limit) → t ≤ limit → t + left_before latency words t v ≤ limit
  lands_by words zero limit v h le = le
  lands_by words (suc t) limit v h le =
      let before = lands_by words t limit v (λ i l lt w. h i l (omega arith) w) (omega arith) in
      let here : t + given_at latency (slice_get words t) v ≤ limit = by (slice_get words t) refl in
      omega arith
    where
      by : (o : Option (List Item)) → slice_get words t ≡ o → t + given_at latency o v ≤ limit
      by None e = omega arith
      by (Some word) e =
          ⊎_elim
          (λ z. omega arith)
          (λ (r : Giver word v). let w = h t (latency r.op) (omega arith) (word, r.op, r.cluster, e, r.has, r.makes, refl) in let f = r.lasts in omega arith)
          (given_cases word v)

  module _ (g : Region) (times : InTime latency g) where
    pub none_at_end : (v : ℕ) → left_before latency g.words (length g.words) v ≤ g.drain
    none_at_end v =
        let r = lands_by g.words (length g.words) (length g.words + g.drain) v (λ i l lt w. times.last i v l w) (omega arith) in
        omega arith

    pub none_at_split : (w p d : ℕ) (e : Edge) (y : Bool) (word : List Item) (v : ℕ) → slice_get g.words w ≡ Some word → IsIn (Split p y e d) word → left_before latency g.words (suc w) v ≤ d
    none_at_split w p d e y word v has i =
        let r = lands_by g.words (suc w) (w + 1 + d) v (λ j l lt wr. times.splits j w v l p d e y word (omega arith) wr has i) (omega arith) in
        omega arith

    pub none_where_named : (w v : ℕ) → ((i l : ℕ) → i < w → WritesIn latency g.words i v l → i + l ≤ w) → left_before latency g.words w v ≡ 0
    none_where_named w v h = let r = lands_by g.words w w v h (omega arith) in omega arith
