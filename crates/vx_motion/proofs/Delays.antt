-- What met delays give orders the items in time.
use Rattle.std.proofs.Common.{◌≡◌, ℕ, zero, suc, ◌<◌, ◌≤◌, Bool, true, false, Option, Some, None, List, [], ◌∷◌, length, refl, sym, ◌∙◌, subst, ⊎_elim, arith}
use Rattle.std.specs.Prelude.{◌⊎◌}
use Rattle.std.proofs.lemmas.Bool.{cases_lt}
use Rattle.vx_flow.specs.declared.graph.Op.TheVariants.{Load, Store, More, Input, Text, Decimal}
use Rattle.vx_flow.specs.Effects.{State, Setting, held, cell_in, cell_of, row_of, loaded, IsIn, Location, Of, Cell}
use Rattle.vx_mixed.specs.declared.region.Item.{Item}
use Rattle.vx_mixed.specs.declared.region.Item.TheVariants.{Plain, Split}
use Rattle.vx_mixed.specs.Live.{item_reads, item_writes}
use Rattle.vx_base.specs.Schedule.{Delayed}
use Rattle.vx_motion.specs.Items.{item_takes, item_gives, Reads, Writes, Marked, as_it_is, dismissible, split, Safe}
use Rattle.vx_motion.specs.Trace.{nth, order}
use Rattle.vx_motion.specs.Facts.{RowFacts, IsSplit, IsFirm, Harmless}
use Rattle.vx_motion.proofs.Effect.{cell_named}
use Rattle.vx_motion.proofs.OrderShape.{inert_reads, inert_writes}
use Rattle.vx_motion.proofs.Passing.{Passes}

pub IsValue : Location → Type 0
IsValue l = (v : ℕ) × (l ≡ Of v)

pub takes_no_value : (setting : Setting) (s : State) (i : Item) (l : Location) (v : ℕ) → item_takes setting s i l → l ≡ Of v → ⊥
takes_no_value setting s (Plain (Load w a p d) cluster) l v k e = let h = cell_named (setting.spot a) (cell_of setting s a p) l k in let q : Of v ≡ Cell (setting.spot a) h.0 = sym e ∙ h.2 in cc
takes_no_value setting s (Plain (More w) cluster) l v h e = cc
takes_no_value setting s (Plain (Input w) cluster) l v h e = cc
takes_no_value setting s (Plain (Text n) cluster) l v h e = cc
takes_no_value setting s (Plain (Decimal x) cluster) l v h e = cc
takes_no_value setting s (Plain op cluster) l v h e = h
takes_no_value setting s (Split p y edge d) l v h e = h

pub gives_no_value : (setting : Setting) (s : State) (i : Item) (l : Location) (v : ℕ) → item_gives setting s i l → l ≡ Of v → ⊥
gives_no_value setting s (Plain (Store a p x) cluster) l v k e = let h = cell_named (setting.spot a) (cell_of setting s a p) l k in let q : Of v ≡ Cell (setting.spot a) h.0 = sym e ∙ h.2 in cc
gives_no_value setting s (Plain (Input w) cluster) l v h e = cc
gives_no_value setting s (Plain (Text n) cluster) l v h e = cc
gives_no_value setting s (Plain (Decimal x) cluster) l v h e = cc
gives_no_value setting s (Plain op cluster) l v h e = h
gives_no_value setting s (Split p y edge d) l v h e = h

pub gives_firm : (setting : Setting) (s : State) (i : Item) (l : Location) → item_gives setting s i l → IsFirm i
gives_firm setting s (Plain (Store a p x) cluster) l h = tt
gives_firm setting s (Plain (Input w) cluster) l h = tt
gives_firm setting s (Plain (Text n) cluster) l h = tt
gives_firm setting s (Plain (Decimal x) cluster) l h = tt
gives_firm setting s (Plain op cluster) l h = h
gives_firm setting s (Split p y edge d) l h = h

same_value : (l : Location) (v u : ℕ) → l ≡ Of v → l ≡ Of u → u ≡ v
same_value l v u e f = let q : Of u ≡ Of v = sym f ∙ e in cc

module _ (setting : Setting) (is : List Item) (word : ℕ → ℕ) (mark : ℕ → Item) (latency : Item → ℕ) (last : ℕ) (After : ℕ → ℕ → Type 0) (facts : RowFacts setting is word mark latency last After) (s : State) where
  abbrev R : ℕ → Location → Type 0
  R k l = Reads setting (order setting is s k) (nth is k) l

  abbrev W : ℕ → Location → Type 0
  W k l = Writes setting (order setting is s k) (nth is k) l

  pub delayed : Delayed R W word
  delayed = record {
    flow = λ i o l lt wr rd.
        ⊎_elim
        (λ a. ⊎_elim
        (λ b. let f = facts.flow i o a.0 lt a.1 (subst (λ z. IsIn z (item_reads (nth is o))) (same_value l a.0 b.0 a.2 b.2) b.1) in let t = facts.takes_time i a.0 a.1 in omega arith)
        (λ b. absurd (takes_no_value setting (order setting is s o) (nth is o) l a.0 b a.2))
        rd)
        (λ a. ⊎_elim (λ b. absurd (gives_no_value setting (order setting is s i) (nth is i) l b.0 a b.2)) (λ b. facts.cell_flow s i o l lt a b) rd)
        wr;
    anti = λ o k l lt rd wr.
        ⊎_elim
        (λ a. ⊎_elim
        (λ b. facts.anti o k a.0 lt a.1 (subst (λ z. IsIn z (item_writes (nth is k))) (same_value l a.0 b.0 a.2 b.2) b.1))
        (λ b. absurd (gives_no_value setting (order setting is s k) (nth is k) l a.0 b a.2))
        wr)
        (λ a. ⊎_elim (λ b. absurd (takes_no_value setting (order setting is s o) (nth is o) l b.0 a b.2)) (λ b. facts.cell_anti s o k l lt a b) wr)
        rd;
    output = λ i k l lt wr wr'.
        ⊎_elim
        (λ a. ⊎_elim
        (λ b. let f = facts.output i k a.0 lt a.1 (subst (λ z. IsIn z (item_writes (nth is k))) (same_value l a.0 b.0 a.2 b.2) b.1) in let t = facts.takes_time i a.0 a.1 in omega arith)
        (λ b. absurd (gives_no_value setting (order setting is s k) (nth is k) l a.0 b a.2))
        wr')
        (λ a. ⊎_elim (λ b. absurd (gives_no_value setting (order setting is s i) (nth is i) l b.0 a b.2)) (λ b. facts.cell_output s i k l lt a b) wr')
        wr;
  }

pub nth_past : (is : List Item) (k : ℕ) → length is ≤ k → nth is k ≡ nth [] 0
nth_past [] k h = refl
nth_past (i ∷ is) zero h = absurd (omega arith)
nth_past (i ∷ is) (suc k) h = nth_past is k (omega arith)

-- a split stands in the trace
pub split_in_trace : (is : List Item) (k : ℕ) → IsSplit (nth is k) → k < length is
split_in_trace is k h = ⊎_elim (λ a. a) (λ a. absurd (subst IsSplit (nth_past is k a) h)) (cases_lt k (length is))

-- what is read or written stands in the trace
pub in_trace : (setting : Setting) (is : List Item) (s : State) (k : ℕ) (l : Location) → (Reads setting s (nth is k) l ⊎ Writes setting s (nth is k) l) → k < length is
in_trace setting is s k l h =
    ⊎_elim
    (λ a. a)
    (λ a. let e = nth_past is k a in
    absurd (⊎_elim (λ r. inert_reads setting s l (subst (λ i. Reads setting s i l) e r)) (λ w. inert_writes setting s l (subst (λ i. Writes setting s i l) e w)) h))
    (cases_lt k (length is))

pub harmless_is_safe : (setting : Setting) (s : State) (i : Item) → Harmless i → Safe setting s i
harmless_is_safe setting s (Plain (Load v a p d) cluster) h = by (cell_in (length (row_of s (setting.spot a))) (held s p)) d h
  where
    by : (o : Option ℕ) (d : Bool) → d ≡ true → (t : State) × (loaded s v (row_of s (setting.spot a)) o d ≡ Some t)
    by None true e = (_, refl)
    by None false e = cc
    by (Some i) d e = (_, refl)
harmless_is_safe setting s (Plain (Store a p x) cluster) h = absurd h
harmless_is_safe setting s (Plain (Input v) cluster) h = absurd h
harmless_is_safe setting s (Plain (Decimal x) cluster) h = absurd h
harmless_is_safe setting s (Plain op cluster) h = (_, refl)
harmless_is_safe setting s (Split p y edge d) h = (s, refl)

pub passes_is_safe : (setting : Setting) (s : State) (i : Item) → Passes setting s i → Safe setting s i
passes_is_safe setting s (Plain op cluster) h = h
passes_is_safe setting s (Split p y edge d) h = (s, refl)

pub marked_is_safe : (setting : Setting) (s : State) (i i' : Item) → Marked i i' → Safe setting s i → Safe setting s i'
marked_is_safe setting s i i' as_it_is h = h
marked_is_safe setting s i i' (dismissible {v} {a} {cluster' = cluster} {p = p}) h = harmless_is_safe setting s (Plain (Load v a p true) cluster) refl
marked_is_safe setting s i i' split h = (s, refl)

pub split_is_safe : (setting : Setting) (s : State) (i i' : Item) → Marked i i' → IsSplit i → Safe setting s i'
split_is_safe setting s i i' (as_it_is {op}) h = absurd h
split_is_safe setting s i i' dismissible h = absurd h
split_is_safe setting s i i' split h = (s, refl)
