-- Lists that grow by one item or by the items of one block, and what is left of the list that they are made from.
use Rattle.std.proofs.Common.{◌≡◌, ◌<◌, ◌≤◌, ◌+◌, ◌^◌, ◌∙◌, ℕ, true, Some, slice_get, List, [], ◌∷◌, ◌++◌, length, map, take, drop, get_or, sym, ap, arith, append_assoc}
use Rattle.std.specs.Prelude.{if◌then◌else◌, Option, None, replicate}
use Rattle.std.proofs.lemmas.Bool.{eq-eqb, ne_eqb}
use Rattle.std.proofs.lemmas.List.{map_more, take_more}
use Rattle.vx_flow.specs.declared.trace.TraceOp.{TraceOp}
use Rattle.vx_mixed.specs.declared.mixed.MixedGraph.{MixedGraph}
use Rattle.vx_mixed.specs.TraceOf.{block_at, block_ops, clusters_of, split_behind, trace_fixed, trace_ops}
use Rattle.vx_flow.proofs.IndexSteps.{get_some}
use Rattle.vx_mixed.proofs.RouteSteps.{left_from}
use Rattle.vx_replace.specs.TraceLists.{block_fixed, has_split}

pub mapped_more : {A B : Type 0} (f : A → B) (xs : List A) (i : ℕ) (d : A) (now next : List B) (y : B) → i < length xs → now ≡ map f (take i xs) → next ≡ now ++ y ∷ [] → y ≡ f (get_or xs i d) → next ≡ map f (take (i + 1) xs)
mapped_more f xs i d now next y h e n s = n ∙ ap (λ l. l ++ y ∷ []) e ∙ ap (λ z. map f (take i xs) ++ z ∷ []) s ∙ sym (map_more f xs i d h)

-- behind a list that was there before
pub mapped_behind : {A B : Type 0} (f : A → B) (before : List B) (xs : List A) (i : ℕ) (d : A) (now next : List B) (y : B) → i < length xs → now ≡ before ++ map f (take i xs) → next ≡ now ++ y ∷ [] → y ≡ f (get_or xs i d) → next ≡ before ++ map f (take (i + 1) xs)
mapped_behind f before xs i d now next y h e n s =
    n
    ∙ ap (λ l. l ++ y ∷ []) e
    ∙ append_assoc before (map f (take i xs)) (y ∷ [])
    ∙ ap (λ l. before ++ l) (ap (λ z. map f (take i xs) ++ z ∷ []) s ∙ sym (map_more f xs i d h))

module _ (m : MixedGraph) where
  pub ops_more : (live : ℕ → List ℕ) (blocks rest : List ℕ) (i : ℕ) (now next all : List TraceOp) → i < length blocks → rest ≡ drop (i + 1) blocks → next ≡ now ++ block_ops m live (get_or blocks i 0) rest → now ++ trace_ops m live (drop i blocks) ≡ all → next ++ trace_ops m live (drop (i + 1) blocks) ≡ all
  ops_more live blocks rest i now next all h r n e =
      let b = get_or blocks i 0 in
      let later = drop (i + 1) blocks in
      ap (λ l. l ++ trace_ops m live later) (n ∙ ap (λ l. now ++ block_ops m live b l) r)
      ∙ append_assoc now (block_ops m live b later) (trace_ops m live later)
      ∙ ap (λ l. now ++ trace_ops m live l) (sym (left_from blocks i 0 h))
      ∙ e

  pub fixed_more : (live : ℕ → List ℕ) (blocks rest : List ℕ) (i : ℕ) (now next all : List (Option ℕ)) → i < length blocks → rest ≡ drop (i + 1) blocks → next ≡ now ++ block_fixed m live (get_or blocks i 0) rest → now ++ trace_fixed m live (drop i blocks) ≡ all →
      next ++ trace_fixed m live (drop (i + 1) blocks) ≡ all
  fixed_more live blocks rest i now next all h r n e =
      let b = get_or blocks i 0 in
      let later = drop (i + 1) blocks in
      let clusters = clusters_of (length (block_at m b).ops) (slice_get m.origins b) in
      let splits : List (Option ℕ) = replicate (length (split_behind live b (block_at m b).exit later)) None in
      ap (λ l. l ++ trace_fixed m live later) (n ∙ ap (λ l. now ++ block_fixed m live b l) r)
      ∙ append_assoc now (block_fixed m live b later) (trace_fixed m live later)
      ∙ ap (λ l. now ++ l) (append_assoc clusters splits (trace_fixed m live later))
      ∙ ap (λ l. now ++ trace_fixed m live l) (sym (left_from blocks i 0 h))
      ∙ e

  abbrev splits_there : List ℕ → ℕ → List ℕ → ℕ
  splits_there blocks i rest = length (split_behind (λ c. []) (get_or blocks i 0) (block_at m (get_or blocks i 0)).exit rest)

  pub split_here : (blocks rest : List ℕ) (i n : ℕ) → i < length blocks → rest ≡ drop (i + 1) blocks → n ≡ splits_there blocks i rest → 0 < n → has_split m (drop i blocks) ≡ true
  split_here blocks rest i n h r e some =
      let same : n ≡ splits_there blocks i (drop (i + 1) blocks) = e ∙ ap (splits_there blocks i) r in
      ap (has_split m) (left_from blocks i 0 h)
      ∙ ap (λ b. if b then has_split m (drop (i + 1) blocks) else true) (ne_eqb (splits_there blocks i (drop (i + 1) blocks)) 0 (λ z. omega (arith, some, same, z)))

  pub no_split_here : (blocks rest : List ℕ) (i n : ℕ) → i < length blocks → rest ≡ drop (i + 1) blocks → n ≡ splits_there blocks i rest → n ≤ 0 → has_split m (drop i blocks) ≡ has_split m (drop (i + 1) blocks)
  no_split_here blocks rest i n h r e none =
      let same : n ≡ splits_there blocks i (drop (i + 1) blocks) = e ∙ ap (splits_there blocks i) r in
      ap (has_split m) (left_from blocks i 0 h)
      ∙ ap (λ b. if b then has_split m (drop (i + 1) blocks) else true) (eq-eqb (splits_there blocks i (drop (i + 1) blocks)) 0 (omega (arith, none, same)))

-- the items themselves
pub taken_behind : {A : Type 0} (before xs : List A) (i : ℕ) (d : A) (now next : List A) (y : A) → i < length xs → now ≡ before ++ take i xs → next ≡ now ++ y ∷ [] → y ≡ get_or xs i d → next ≡ before ++ take (i + 1) xs
taken_behind before xs i d now next y h e n s =
    n
    ∙ ap (λ l. l ++ y ∷ []) e
    ∙ append_assoc before (take i xs) (y ∷ [])
    ∙ ap (λ l. before ++ l) (ap (λ z. take i xs ++ z ∷ []) s ∙ sym (take_more xs i d h))

-- what stands at a place, where the list and the item are told by other names
pub stands_at : {A : Type 0} (xs ys : List A) (i : ℕ) (x y : A) → xs ≡ ys → i < length xs → x ≡ get_or xs i x → x ≡ y → slice_get ys i ≡ Some y
stands_at xs ys i x y s h e t = ap (λ l. slice_get l i) (sym s) ∙ get_some xs i x h e ∙ ap Some t

-- blocks that have numbers
pub few_blocks : (nodes made n k top : ℕ) → n ≡ nodes → k ≡ made → top ≡ 4294967295 → n + k ≤ top → nodes + made < 2 ^ 32
few_blocks nodes made n k top a b c h = omega (arith, a, b, c, h)
