-- The sum that sinks is a replacement.
use Rattle.std.proofs.Common.{◌≡◌, ℕ, zero, suc, ◌+◌, ◌<◌, ◌≤◌, Bool, true, false, List, [], ◌∷◌, refl, sym, ◌∙◌, subst, ⊎_elim, inl, inr, arith}
use Rattle.std.specs.Prelude.{◌⊎◌, nat_eq, nat_lt, ◌||◌}
use Rattle.std.proofs.lemmas.Bool.{and_parts, or_cases, eqb-true}
use Rattle.vx_flow.specs.declared.graph.Operand.TheVariants.{Held}
use Rattle.vx_flow.specs.Effects.{State, Setting, IsIn, Location}
use Rattle.vx_mixed.specs.declared.region.Item.{Item}
use Rattle.vx_mixed.specs.declared.region.Item.TheVariants.{Plain, Split}
use Rattle.vx_flow.specs.declared.graph.Exit.TheVariants.{Return}
use Rattle.vx_mixed.specs.Live.{item_reads, item_writes}
use Rattle.vx_flow.specs.declared.graph.Edge.{Edge}
use Rattle.vx_flow.specs.Walk.{edge}
use Rattle.vx_motion.specs.Items.{item_gives, Marked, as_it_is, split}
use Rattle.vx_motion.specs.Trace.{nth, order, inert, AfterOf}
use Rattle.vx_mixed.specs.Path.{ends, on_yes}
use Rattle.vx_motion.specs.Facts.{RowFacts, IsSplit, IsFirm, Harmless, copies}
use Rattle.vx_mixed.specs.Way.{item_latency, Clustered, return, LeadsIn, LeadsOut, at_once, by_made}
use Rattle.vx_motion.specs.Unchanged.{Outside, block}
use Rattle.vx_motion.specs.Replaced.{Join, Replaced}
use Rattle.vx_motion.specs.Sinking.{sum, old, new, region, meet_old, meet_new, pairs, latency, SumSinks}
use Rattle.vx_motion.proofs.OrderShape.{inert_writes}
use Rattle.vx_motion.proofs.Hops.{alike_same}
use Rattle.vx_motion.proofs.Joins.{replacement_law}

items : List Item
items = Plain sum 0 ∷ Split 6 false (edge 0 2) 0 ∷ []

abbrev word : ℕ → ℕ
word zero = 1
word (suc zero) = 0
word (suc (suc k)) = 3

abbrev mark : ℕ → Item
mark zero = Plain sum 0
mark (suc zero) = Split 6 false (edge 0 3) 0
mark (suc (suc k)) = inert

the_facts : (setting : Setting) → RowFacts setting items word mark (item_latency latency) 2 (AfterOf old items)
unfolding items
the_facts setting = record {
  inside = inside;
  beyond = beyond;
  marked = marked;
  takes_time = time;
  flow = flow;
  anti = anti;
  output = output;
  cell_flow = λ s i o l lt a b. absurd (gives s i l a);
  cell_anti = λ s o k l lt a b. absurd (gives s k l b);
  cell_output = λ s i k l lt a b. absurd (gives s i l a);
  splits = λ i k lt a b. split_order i k lt a b;
  held = held;
  kept = kept;
  early = early;
}
  where
    inside : (k : ℕ) → k < 2 → word k < 2
    inside zero h = omega arith
    inside (suc zero) h = omega arith
    inside (suc (suc k)) h = absurd (omega arith)

    beyond : (k : ℕ) → 2 ≤ k → 2 < word k
    beyond zero h = absurd (omega arith)
    beyond (suc zero) h = absurd (omega arith)
    beyond (suc (suc k)) h = omega arith

    marked : (k : ℕ) → Marked (nth (Plain sum 0 ∷ Split 6 false (edge 0 2) 0 ∷ []) k) (mark k)
    marked zero = as_it_is
    marked (suc zero) = split
    marked (suc (suc k)) = as_it_is

    time : (i v : ℕ) → IsIn v (item_writes (nth (Plain sum 0 ∷ Split 6 false (edge 0 2) 0 ∷ []) i)) → 1 ≤ item_latency latency (nth (Plain sum 0 ∷ Split 6 false (edge 0 2) 0 ∷ []) i)
    time zero v h = omega arith
    time (suc zero) v h = absurd h
    time (suc (suc k)) v h = absurd h

    gives : (s : State) (k : ℕ) (l : Location) → item_gives setting (order setting (Plain sum 0 ∷ Split 6 false (edge 0 2) 0 ∷ []) s k) (nth (Plain sum 0 ∷ Split 6 false (edge 0 2) 0 ∷ []) k) l → ⊥
    gives s zero l h = h
    gives s (suc zero) l h = h
    gives s (suc (suc k)) l h = inert_writes setting (order setting (Plain sum 0 ∷ Split 6 false (edge 0 2) 0 ∷ []) s (suc (suc k))) l (inr h)

    flow : (i o v : ℕ) → i < o → IsIn v (item_writes (nth (Plain sum 0 ∷ Split 6 false (edge 0 2) 0 ∷ []) i)) → IsIn v (item_reads (nth (Plain sum 0 ∷ Split 6 false (edge 0 2) 0 ∷ []) o)) → word i + item_latency latency (nth (Plain sum 0 ∷ Split 6 false (edge 0 2) 0 ∷ []) i) ≤ word o
    flow zero zero v lt w r = absurd (omega arith)
    flow zero (suc zero) v lt (inl w) (inl r) = absurd (omega arith)
    flow zero (suc zero) v lt (inl w) (inr r) = absurd r
    flow zero (suc zero) v lt (inr w) r = absurd w
    flow zero (suc (suc k)) v lt w r = absurd r
    flow (suc zero) o v lt w r = absurd w
    flow (suc (suc k)) o v lt w r = absurd w

    anti : (o k v : ℕ) → o < k → IsIn v (item_reads (nth (Plain sum 0 ∷ Split 6 false (edge 0 2) 0 ∷ []) o)) → IsIn v (item_writes (nth (Plain sum 0 ∷ Split 6 false (edge 0 2) 0 ∷ []) k)) → word o ≤ word k
    anti o zero v lt r w = absurd (omega arith)
    anti o (suc zero) v lt r w = absurd w
    anti o (suc (suc k)) v lt r w = absurd w

    output : (i k v : ℕ) → i < k → IsIn v (item_writes (nth (Plain sum 0 ∷ Split 6 false (edge 0 2) 0 ∷ []) i)) → IsIn v (item_writes (nth (Plain sum 0 ∷ Split 6 false (edge 0 2) 0 ∷ []) k)) → word i + item_latency latency (nth (Plain sum 0 ∷ Split 6 false (edge 0 2) 0 ∷ []) i) ≤ word k
    output i zero v lt a b = absurd (omega arith)
    output i (suc zero) v lt a b = absurd b
    output i (suc (suc k)) v lt a b = absurd b

    split_order : (i k : ℕ) → i < k → IsSplit (nth (Plain sum 0 ∷ Split 6 false (edge 0 2) 0 ∷ []) i) → IsSplit (nth (Plain sum 0 ∷ Split 6 false (edge 0 2) 0 ∷ []) k) → word i ≤ word k
    split_order zero k lt a b = absurd a
    split_order (suc zero) k lt a b = omega arith
    split_order (suc (suc i)) k lt a b = absurd a

    held : (e k : ℕ) → e < k → IsSplit (nth (Plain sum 0 ∷ Split 6 false (edge 0 2) 0 ∷ []) e) → IsFirm (nth (Plain sum 0 ∷ Split 6 false (edge 0 2) 0 ∷ []) k) → word e < word k
    held zero k lt a b = absurd a
    held (suc zero) zero lt a b = absurd b
    held (suc zero) (suc zero) lt a b = absurd b
    held (suc zero) (suc (suc k)) lt a b = omega arith
    held (suc (suc e)) k lt a b = absurd a

    kept : (e k v : ℕ) → e < k → IsSplit (nth (Plain sum 0 ∷ Split 6 false (edge 0 2) 0 ∷ []) e) → AfterOf old (Plain sum 0 ∷ Split 6 false (edge 0 2) 0 ∷ []) e v → IsIn v (item_writes (nth (Plain sum 0 ∷ Split 6 false (edge 0 2) 0 ∷ []) k)) → word e < word k
    kept e zero v lt a l b = absurd (omega arith)
    kept e (suc zero) v lt a l b = absurd b
    kept e (suc (suc k)) v lt a l b = absurd b

    early : (e k : ℕ) → e < k → IsSplit (nth (Plain sum 0 ∷ Split 6 false (edge 0 2) 0 ∷ []) e) → word k ≤ word e → Harmless (mark k)
    early zero k lt a h = absurd a
    early (suc zero) zero lt a h = tt
    early (suc zero) (suc zero) lt a h = tt
    early (suc zero) (suc (suc k)) lt a h = absurd (omega arith)
    early (suc (suc e)) k lt a h = absurd a

-- nothing was inserted
as_it_stands : (setting : Setting) → Clustered setting old items items 1 (Return (Held 1))
as_it_stands setting = record { leaves_alike = λ s h e n. (h, e, alike_same old h n); alive = λ v a. a }

replaced : Replaced latency old new meet_old meet_new pairs
unfolding items
replaced = record {
  begins = refl;
  start = 0;
  items = items;
  end = 1;
  exit = Return (Held 1);
  plain = items;
  clustered = λ setting apart. as_it_stands setting;
  path = on_yes 6 1 2 (sum ∷ []) [] refl refl refl refl (ends [] refl refl refl (λ c l. absurd l));
  word = word;
  mark = mark;
  n = 0;
  reg = region;
  is_region = refl;
  words = refl;
  facts = λ setting apart. the_facts setting;
  drained = record { splits = drains; last = lasts };
  loads = λ v a p d. refl;
  leaves = leaves;
  last_exit = return;
  last_meets = λ c l. absurd l;
  entrances = entrances;
}
  where
    drains : (k e p d : ℕ) (off : Edge) (y : Bool) → mark e ≡ Split p y off d → word k ≤ word e → word k + item_latency latency (nth (Plain sum 0 ∷ Split 6 false (edge 0 2) 0 ∷ []) k) ≤ word e + 1 + d
    drains zero zero p d off y m h = absurd (cc)
    drains zero (suc zero) p d off y m h = absurd (omega arith)
    drains zero (suc (suc e)) p d off y m h = absurd (cc)
    drains (suc zero) zero p d off y m h = absurd (cc)
    drains (suc zero) (suc zero) p d off y m h = omega arith
    drains (suc zero) (suc (suc e)) p d off y m h = absurd (cc)
    drains (suc (suc k)) zero p d off y m h = absurd (cc)
    drains (suc (suc k)) (suc zero) p d off y m h = absurd (omega arith)
    drains (suc (suc k)) (suc (suc e)) p d off y m h = absurd (cc)

    lasts : (k : ℕ) → k < 2 → word k + item_latency latency (nth (Plain sum 0 ∷ Split 6 false (edge 0 2) 0 ∷ []) k) ≤ 2 + 2
    lasts zero h = omega arith
    lasts (suc zero) h = omega arith
    lasts (suc (suc k)) h = absurd (omega arith)

    leaves : (e p d g : ℕ) (y : Bool) (off off' : Edge) → nth (Plain sum 0 ∷ Split 6 false (edge 0 2) 0 ∷ []) e ≡ Split p y off d → mark e ≡ Split p y off' g → LeadsOut new meet_new pairs (copies (λ k. nat_lt (word e) (word k)) (nth (Plain sum 0 ∷ Split 6 false (edge 0 2) 0 ∷ [])) 0 e) off'.from off'.to off.to
    leaves zero p d g y off off' at_e m = absurd (cc)
    leaves (suc (suc e)) p d g y off off' at_e m = absurd (cc)
    leaves (suc zero) p d g y off off' at_e m =
        let eo : edge 0 2 ≡ off = cc in
        let en : edge 0 3 ≡ off' = cc in
        let there : LeadsOut new meet_new pairs (sum ∷ []) 0 3 2 = by_made 2 refl refl refl refl in
        subst (λ (z : Edge). LeadsOut new meet_new pairs (sum ∷ []) z.from z.to off.to) en (subst (λ (z : Edge). LeadsOut new meet_new pairs (sum ∷ []) 0 3 z.to) eo there)

    entrances : (b b' : ℕ) → pairs b b' ≡ true → ((b ≡ 0) × LeadsIn new meet_new 0 0 (copies (λ k. nat_lt (word k) 0) mark 0 2) b') ⊎ (Join latency old new meet_old meet_new (Plain sum 0 ∷ Split 6 false (edge 0 2) 0 ∷ []) 1 (Return (Held 1)) word mark 0 region b b' ⊎ Outside latency old new meet_old meet_new pairs b b')
    entrances b b' e =
        let q = and_parts (nat_eq b b') (nat_eq b 0 || nat_eq b 2) e in
        let same : b ≡ b' = eqb-true b b' q.0 in
        ⊎_elim
        (λ z. let e0 : b ≡ 0 = eqb-true b 0 z in inl (e0, subst (λ y. LeadsIn new meet_new 0 0 [] y) (sym e0 ∙ same) (at_once refl refl)))
        (λ z. let e2 : b ≡ 2 = eqb-true b 2 z in
        let there : Outside latency old new meet_old meet_new pairs 2 2 = block [] (Return (Held 1)) (Return (Held 1)) refl refl return (λ c l. absurd l) (λ c l. absurd l) in
        inr (inr (subst (λ y. Outside latency old new meet_old meet_new pairs b y) (sym e2 ∙ same) (subst (λ y. Outside latency old new meet_old meet_new pairs y 2) (sym e2) there))))
        (or_cases (nat_eq b 0) (nat_eq b 2) q.1)

pub sum_sinks : SumSinks
sum_sinks = replacement_law latency old new meet_old meet_new pairs replaced
