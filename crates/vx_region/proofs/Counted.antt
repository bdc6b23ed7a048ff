-- The blocks in no region before and after a step, counted exactly.
use Rattle.std.proofs.Common.{◌≡◌, ◌⊎◌, inl, inr, ℕ, zero, suc, ◌+◌, ◌<◌, ◌≤◌, Bool, true, false, Option, Some, None, List, [], ◌∷◌, ◌++◌, length, map, slice_get, refl, sym, ap, ◌∙◌, subst, arith}
use Rattle.std.specs.Prelude.{◌==◌, ◌||◌, if◌then◌else◌}
use Rattle.std.specs.List.{list_any}
use Rattle.std.proofs.lemmas.Bool.{eq-eqb, eqb-true, ne_eqb, cases_eq, cases_lt}
use Rattle.std.proofs.lemmas.Option.{slice_get_within}
use Rattle.vx_flow.specs.Effects.{IsIn}
use Rattle.vx_mixed.specs.declared.region.Node.{Node}
use Rattle.vx_mixed.specs.declared.region.Node.TheVariants.{Unused, Enters, Inner}
use Rattle.vx_mixed.specs.declared.mixed.MixedGraph.{MixedGraph}
use Rattle.vx_mixed.specs.declared.replacement.Replacement.{Replacement}
use Rattle.vx_mixed.specs.Next.{nodes_from, trace_node, made_node, entered_at, rejoin_at, renamed_node, new_end}
use Rattle.vx_mixed.specs.Settled.{NoTwice}
use Rattle.vx_region.specs.Ending.{is_unused, unused_in, BlocksAreCounted}
use Rattle.vx_region.proofs.Falls.{unused_append, unused_made}

abbrev one_if : Bool → ℕ
one_if true = 1
one_if false = 0

-- how many of so many numbers from b on are in the list
abbrev hits : List ℕ → ℕ → ℕ → ℕ
hits bs b zero = 0
hits bs b (suc n) = one_if (list_any (λ c. c == b) bs) + hits bs (b + 1) n

none_hit : (b n : ℕ) → hits [] b n ≡ 0
none_hit b zero = refl
none_hit b (suc n) = let h = none_hit (b + 1) n in omega (arith, h)

past : (x : ℕ) (xs : List ℕ) (b n : ℕ) → x < b → hits (x ∷ xs) b n ≡ hits xs b n
past x xs b zero lt = refl
past x xs b (suc n) lt =
    let h : hits (x ∷ xs) (b + 1) n ≡ hits xs (b + 1) n = past x xs (b + 1) n (omega (arith, lt)) in
    let e : one_if ((x == b) || list_any (λ c. c == b) xs) ≡ one_if (list_any (λ c. c == b) xs) = ap (λ z. one_if (z || list_any (λ c. c == b) xs)) (ne_eqb x b (λ q. omega (arith, lt, q))) in
    omega (arith, h, e)

not_among : (b : ℕ) (xs : List ℕ) → (IsIn b xs → ⊥) → list_any (λ c. c == b) xs ≡ false
not_among b [] n = refl
not_among b (x ∷ xs) n = ap (λ z. z || list_any (λ c. c == b) xs) (ne_eqb x b (λ q. n (inl (sym q)))) ∙ not_among b xs (λ i. n (inr i))

is_among : (b : ℕ) (xs : List ℕ) → list_any (λ c. c == b) xs ≡ true → IsIn b xs
is_among b [] e = absurd (cc)
is_among b (x ∷ xs) e = by (x == b) refl (is_among b xs)
  where
    by : (z : Bool) → (x == b) ≡ z → (list_any (λ c. c == b) xs ≡ true → IsIn b xs) → IsIn b (x ∷ xs)
    by true q more = inl (sym (eqb-true x b q))
    by false q more = inr (more (sym (ap (λ z. z || list_any (λ c. c == b) xs) q) ∙ e))

one_more_hit : (x : ℕ) (xs : List ℕ) (b n : ℕ) → (IsIn x xs → ⊥) → b ≤ x → x < b + n → hits (x ∷ xs) b n ≡ 1 + hits xs b n
one_more_hit x xs b zero other le lt = absurd (omega (arith, le, lt))
one_more_hit x xs b (suc n) other le lt = by (cases_eq x b) (one_more_hit x xs (b + 1) n other)
  where
    by : (x ≡ b) ⊎ (x ≡ b → ⊥) → (b + 1 ≤ x → x < b + 1 + n → hits (x ∷ xs) (b + 1) n ≡ 1 + hits xs (b + 1) n) → hits (x ∷ xs) b (suc n) ≡ 1 + hits xs b (suc n)
    by (inl q) more =
        let h : hits (x ∷ xs) (b + 1) n ≡ hits xs (b + 1) n = past x xs (b + 1) n (omega (arith, q)) in
        let e : one_if ((x == b) || list_any (λ c. c == b) xs) ≡ 1 = ap (λ z. one_if (z || list_any (λ c. c == b) xs)) (eq-eqb x b q) in
        let f : one_if (list_any (λ c. c == b) xs) ≡ 0 = ap one_if (not_among b xs (subst (λ z. IsIn z xs → ⊥) q other)) in
        omega (arith, h, e, f)
    by (inr n_eq) more =
        let apart : b + 1 ≤ x = elim (cases_eq x b) [ inl q ↦ absurd (n_eq q) | inr r ↦ further x b le r ] in
        let h : hits (x ∷ xs) (b + 1) n ≡ 1 + hits xs (b + 1) n = more apart (omega (arith, lt)) in
        let e : one_if ((x == b) || list_any (λ c. c == b) xs) ≡ one_if (list_any (λ c. c == b) xs) = ap (λ z. one_if (z || list_any (λ c. c == b) xs)) (ne_eqb x b n_eq) in
        omega (arith, h, e)
      where
        further : (x b : ℕ) → b ≤ x → (x ≡ b → ⊥) → b + 1 ≤ x
        further x b le r = elim (cases_lt b x) [ inl l ↦ omega (arith, l) | inr g ↦ absurd (r (omega (arith, le, g))) ]

all_hit : (xs : List ℕ) (n : ℕ) → NoTwice xs → ((x : ℕ) → IsIn x xs → x < n) → hits xs 0 n ≡ length xs
all_hit [] n once low = none_hit 0 n
all_hit (x ∷ xs) n once low =
    let h : hits (x ∷ xs) 0 n ≡ 1 + hits xs 0 n = one_more_hit x xs 0 n once.0 (omega arith) (let l : x < n = low x (inl refl) in omega (arith, l)) in
    let rest : hits xs 0 n ≡ length xs = all_hit xs n once.1 (λ y i. low y (inr i)) in
    omega (arith, h, rest)

module _ (m : MixedGraph) (r : Replacement) where
  same_unused : (to : ℕ → ℕ → ℕ) (b : ℕ) (node : Node) → is_unused (renamed_node to b node) ≡ is_unused node
  same_unused to b (Unused block) = refl
  same_unused to b (Enters g w) = refl
  same_unused to b Inner = refl

  entered_none : (g : ℕ) (o : Option ℕ) → is_unused (entered_at g o) ≡ 0
  entered_none g None = refl
  entered_none g (Some w) = refl

  -- a block of the trace is used, the others stay as they are
  here : (blocks : List ℕ) (b : ℕ) (node : Node) → (list_any (λ c. c == b) blocks ≡ true → is_unused node ≡ 1) → is_unused (trace_node m r blocks b node) + one_if (list_any (λ c. c == b) blocks) ≡ is_unused node
  here [] b node is = let e = same_unused (new_end m r.made) b node in omega (arith, e)
  here (first ∷ others) b node is = by (first == b) (list_any (λ c. c == b) others) is
    where
      by : (x y : Bool) → ((x || y) ≡ true → is_unused node ≡ 1) →
          is_unused (if x then Enters (length m.regions) 0 else if y then entered_at (length m.regions) (rejoin_at r.trace.joins r.rejoins b) else renamed_node (new_end m r.made) b node) + one_if (x || y) ≡ is_unused node
      by true y is = let e = is refl in omega (arith, e)
      by false true is = let e = is refl in let z = entered_none (length m.regions) (rejoin_at r.trace.joins r.rejoins b) in omega (arith, e, z)
      by false false is = let e = same_unused (new_end m r.made) b node in omega (arith, e)

  counted : (b : ℕ) (nodes : List Node) → ((k : ℕ) (node : Node) → slice_get nodes k ≡ Some node → list_any (λ c. c == b + k) r.trace.blocks ≡ true → is_unused node ≡ 1) →
      unused_in (nodes_from m r b nodes) + hits r.trace.blocks b (length nodes) ≡ unused_in nodes
  counted b [] is = omega arith
  counted b (node ∷ nodes) is =
      let n : b + 0 ≡ b = omega arith in
      let h : is_unused (trace_node m r r.trace.blocks b node) + one_if (list_any (λ c. c == b) r.trace.blocks) ≡ is_unused node = here r.trace.blocks b node (λ e. is 0 node refl (ap (λ z. list_any (λ c. c == z) r.trace.blocks) n ∙ e)) in
      let rest : unused_in (nodes_from m r (b + 1) nodes) + hits r.trace.blocks (b + 1) (length nodes) ≡ unused_in nodes = counted (b + 1) nodes (λ k x at e. later k x at e) in
      omega (arith, h, rest)
    where
      later : (k : ℕ) (x : Node) → slice_get nodes k ≡ Some x → list_any (λ c. c == b + 1 + k) r.trace.blocks ≡ true → is_unused x ≡ 1
      later k x at e = let n : b + suc k ≡ b + 1 + k = omega arith in is (suc k) x at (ap (λ z. list_any (λ c. c == z) r.trace.blocks) n ∙ e)

pub blocks_are_counted : BlocksAreCounted
blocks_are_counted m r can =
    let all : unused_in (nodes_from m r 0 m.nodes) + hits r.trace.blocks 0 (length m.nodes) ≡ unused_in m.nodes = counted m r 0 m.nodes is_one in
    let hit : hits r.trace.blocks 0 (length m.nodes) ≡ length r.trace.blocks = all_hit r.trace.blocks (length m.nodes) can.once (λ b i. let u = can.unused b i in slice_get_within m.nodes b (Unused u.0) u.1) in
    let parts : unused_in (nodes_from m r 0 m.nodes ++ map made_node r.made) ≡ unused_in (nodes_from m r 0 m.nodes) + unused_in (map made_node r.made) = unused_append (nodes_from m r 0 m.nodes) (map made_node r.made) in
    let made : unused_in (map made_node r.made) ≡ length r.made = unused_made r.made in
    omega (arith, all, hit, parts, made)
  where
    is_one : (k : ℕ) (node : Node) → slice_get m.nodes k ≡ Some node → list_any (λ c. c == 0 + k) r.trace.blocks ≡ true → is_unused node ≡ 1
    is_one k node at e =
        let n : 0 + k ≡ k = omega arith in
        let u = can.unused k (subst (λ z. IsIn z r.trace.blocks) n (is_among (0 + k) r.trace.blocks e)) in
        let q : Some node ≡ Some (Unused u.0) = sym at ∙ u.1 in
        let s : node ≡ Unused u.0 = cc in
        ap is_unused s
