-- The items of a trace as they are placed in words.
use Rattle.std.proofs.Common.{◌≡◌, ℕ, zero, suc, ◌+◌, ◌<◌, ◌≤◌, Bool, true, false, Some, List, [], ◌∷◌, cond, length, map, drop, slice_get, slice_index_or, refl, sym, ap, ◌∙◌, subst, inl, inr, arith}
use Rattle.std.specs.Prelude.{◌⊎◌, ◌==◌, nat_eq, nat_le, if◌then◌else◌}
use Rattle.std.specs.List.{filter, list_any}
use Rattle.std.proofs.lemmas.Bool.{le-leb}
use Rattle.vx_flow.specs.declared.graph.Edge.{Edge}
use Rattle.vx_flow.specs.declared.graph.Op.{Op}
use Rattle.vx_flow.specs.declared.graph.Op.TheVariants.{Load}
use Rattle.vx_flow.specs.declared.graph.Operand.{Operand}
use Rattle.vx_flow.specs.declared.trace.TraceOp.{TraceOp}
use Rattle.vx_flow.specs.declared.trace.TraceOp.TheVariants.{Plain as TracePlain, Split as TraceSplit}
use Rattle.vx_flow.specs.Effects.{IsIn, dismissed}
use Rattle.vx_flow.specs.Walk.{numbers}
use Rattle.vx_flow.proofs.SoundLists.{any_of}
use Rattle.vx_mixed.specs.declared.region.Item.{Item}
use Rattle.vx_mixed.specs.declared.region.Item.TheVariants.{Plain, Split}
use Rattle.vx_motion.specs.Items.{Marked, as_it_is, dismissible, split}
use Rattle.vx_motion.specs.Trace.{nth}
use Rattle.vx_motion.specs.Facts.{IsSplit, places, words_from}
use Rattle.vx_mixed.specs.Next.{InWord, freed, placed, in_word}
use Rattle.vx_mixed.specs.TraceItems.{items_of}

pub length_items : (ops : List TraceOp) (cs : List ℕ) → length (items_of ops cs) ≡ length ops
length_items [] cs = refl
length_items (op ∷ ops) [] = ap suc (length_items ops [])
length_items (op ∷ ops) (c ∷ cs) = ap suc (length_items ops cs)

abbrev pub marks : (ℕ → ℕ → ℕ) → List TraceOp → (cs ws ds above : List ℕ) → List Item
marks to ops cs ws ds above = map (λ (i : InWord). i.item) (placed to ops cs ws ds above)

-- words

module _ (W : ℕ → ℕ) (M : ℕ → Item) (w : ℕ) where
  row_step : (v : ℕ) (item : Item) (rest : List InWord) (n k : ℕ) → W k ≡ v → M k ≡ item → in_word rest w ≡ map M (places W w (suc k) n) → in_word (record { word = v; item = item } ∷ rest) w ≡ map M (places W w k (suc n))
  row_step v item rest n k e f h =
      by (nat_eq v w) ∙ ap (λ z. map M (cond (nat_eq z w) (k ∷ places W w (suc k) n) (places W w (suc k) n))) (sym e)
    where
      by : (b : Bool) → map (λ (i : InWord). i.item) (if b then record { word = v; item = item } ∷ filter (λ (i : InWord). i.word == w) rest else filter (λ (i : InWord). i.word == w) rest) ≡ map M (cond b (k ∷ places W w (suc k) n) (places W w (suc k) n))
      by true = ap (λ z. z ∷ in_word rest w) (sym f) ∙ ap (λ z. M k ∷ z) h
      by false = h

  pub row_is : (to : ℕ → ℕ → ℕ) (ops : List TraceOp) (cs ws ds above : List ℕ) (other k : ℕ) → length cs ≡ length ops → length ws ≡ length ops → ((j : ℕ) → j < length ops → W (k + j) ≡ slice_index_or ws j other) → ((j : ℕ) → j < length ops → M (k + j) ≡ nth (marks to ops cs ws ds above) j) →
      in_word (placed to ops cs ws ds above) w ≡ map M (places W w k (length ops))
  row_is to [] cs ws ds above other k e f hw hm = refl
  row_is to (TracePlain op ∷ ops) [] ws ds above other k e f hw hm = absurd (omega arith)
  row_is to (TraceSplit p y edge live ∷ ops) [] ws ds above other k e f hw hm = absurd (omega arith)
  row_is to (TracePlain op ∷ ops) (c ∷ cs) [] ds above other k e f hw hm = absurd (omega arith)
  row_is to (TraceSplit p y edge live ∷ ops) (c ∷ cs) [] ds above other k e f hw hm = absurd (omega arith)
  row_is to (TracePlain op ∷ ops) (c ∷ cs) (v ∷ ws) ds above other k e f hw hm =
      let z : k ≡ k + 0 = omega arith in
      let rest = row_is to ops cs ws ds above other (suc k) (omega arith) (omega arith)
      (λ j lt. let q : suc k + j ≡ k + suc j = omega arith in ap W q ∙ hw (suc j) (omega arith))
      (λ j lt. let q : suc k + j ≡ k + suc j = omega arith in ap M q ∙ hm (suc j) (omega arith)) in
      row_step v (Plain (freed v above op) c) (placed to ops cs ws ds above) (length ops) k (ap W z ∙ hw 0 (omega arith)) (ap M z ∙ hm 0 (omega arith)) rest
  row_is to (TraceSplit p y edge live ∷ ops) (c ∷ cs) (v ∷ ws) ds above other k e f hw hm =
      let z : k ≡ k + 0 = omega arith in
      let rest = row_is to ops cs ws (drop 1 ds) (v ∷ above) other (suc k) (omega arith) (omega arith)
      (λ j lt. let q : suc k + j ≡ k + suc j = omega arith in ap W q ∙ hw (suc j) (omega arith))
      (λ j lt. let q : suc k + j ≡ k + suc j = omega arith in ap M q ∙ hm (suc j) (omega arith)) in
      row_step v (Split p y (record edge { to = to edge.from edge.to }) (slice_index_or ds 0 0)) (placed to ops cs ws (drop 1 ds) (v ∷ above)) (length ops) k (ap W z ∙ hw 0 (omega arith)) (ap M z ∙ hm 0 (omega arith)) rest

pub words_are : (f : ℕ → List Item) (g : ℕ → List Item) → ((w : ℕ) → f w ≡ g w) → (n w : ℕ) → map f (numbers w n) ≡ words_from g w n
words_are f g h zero w = refl
words_are f g h (suc n) w = let z : w + 1 ≡ suc w = omega arith in ap (λ y. f w ∷ map f (numbers y n)) z ∙ ap (λ y. y ∷ map f (numbers (suc w) n)) (h w) ∙ ap (λ y. g w ∷ y) (words_are f g h n (suc w))

pub numbers_many : (n w : ℕ) → length (numbers w n) ≡ n
numbers_many zero w = refl
numbers_many (suc n) w = ap suc (numbers_many n (w + 1))

-- marks

marked_freed : (b : Bool) (op : Op) (c : ℕ) → Marked (Plain op c) (Plain (if b then dismissed op else op) c)
marked_freed false op c = as_it_is
marked_freed true (Load v a p d) c = dismissible
marked_freed true op c = as_it_is

pub marked_at : (to : ℕ → ℕ → ℕ) (ops : List TraceOp) (cs ws ds above : List ℕ) → length cs ≡ length ops → length ws ≡ length ops → (k : ℕ) → Marked (nth (items_of ops cs) k) (nth (marks to ops cs ws ds above) k)
marked_at to [] cs ws ds above e f k = as_it_is
marked_at to (TracePlain op ∷ ops) [] ws ds above e f k = absurd (omega arith)
marked_at to (TraceSplit p y edge live ∷ ops) [] ws ds above e f k = absurd (omega arith)
marked_at to (TracePlain op ∷ ops) (c ∷ cs) [] ds above e f k = absurd (omega arith)
marked_at to (TraceSplit p y edge live ∷ ops) (c ∷ cs) [] ds above e f k = absurd (omega arith)
marked_at to (TracePlain op ∷ ops) (c ∷ cs) (w ∷ ws) ds above e f zero = marked_freed (list_any (λ s. nat_le w s) above) op c
marked_at to (TracePlain op ∷ ops) (c ∷ cs) (w ∷ ws) ds above e f (suc k) = marked_at to ops cs ws ds above (omega arith) (omega arith) k
marked_at to (TraceSplit p y edge live ∷ ops) (c ∷ cs) (w ∷ ws) ds above e f zero = split
marked_at to (TraceSplit p y edge live ∷ ops) (c ∷ cs) (w ∷ ws) ds above e f (suc k) = marked_at to ops cs ws (drop 1 ds) (w ∷ above) (omega arith) (omega arith) k

-- a load not behind a split that stood above it is dismissible

any_above : (w s : ℕ) (above : List ℕ) → IsIn s above → w ≤ s → list_any (λ s. nat_le w s) above ≡ true
any_above w s above h le = any_of (λ s. nat_le w s) above s h (le-leb w s le)

dismissed_load : (op : Op) (v a c c' : ℕ) (p : Operand) (d : Bool) → Plain (dismissed op) c ≡ Plain (Load v a p d) c' → d ≡ true
dismissed_load (Load v a p d) v' a' c c' p' d' e = let q : Load v a p true ≡ Load v' a' p' d' = cc in cc
dismissed_load op v' a' c c' p' d' e = absurd cc

-- the word of a split that stood above, or the one at place e
abbrev Above : List TraceOp → (cs ws above : List ℕ) (other s k : ℕ) → Type 0
Above ops cs ws above other s k = IsIn s above ⊎ ((e : ℕ) × (e < k) × IsSplit (nth (items_of ops cs) e) × (s ≡ slice_index_or ws e other))

above_on : (op : TraceOp) (ops : List TraceOp) (c : ℕ) (cs : List ℕ) (w : ℕ) (ws above above' : List ℕ) (other s k : ℕ) → ((x : ℕ) → IsIn x above → IsIn x above') → (IsSplit (nth (items_of (op ∷ ops) (c ∷ cs)) 0) → IsIn w above') → Above (op ∷ ops) (c ∷ cs) (w ∷ ws) above other s (suc k) → Above ops cs ws above' other s k
above_on op ops c cs w ws above above' other s k keep first (inl h) = inl (keep s h)
above_on op ops c cs w ws above above' other s k keep first (inr (zero, lt, sp, e)) = inl (subst (λ z. IsIn z above') (sym e) (first sp))
above_on op ops c cs w ws above above' other s k keep first (inr (suc e, lt, sp, q)) = inr (e, omega arith, sp, q)

pub freed_at : (to : ℕ → ℕ → ℕ) (ops : List TraceOp) (cs ws ds above : List ℕ) (other s k v a c : ℕ) (p : Operand) (d : Bool) → length cs ≡ length ops → length ws ≡ length ops → Above ops cs ws above other s k → k < length ops → slice_index_or ws k other ≤ s → nth (marks to ops cs ws ds above) k ≡ Plain (Load v a p d) c → d ≡ true
freed_at to [] cs ws ds above other s k v a c p d e f h lt le m = absurd (omega arith)
freed_at to (TracePlain op ∷ ops) [] ws ds above other s k v a c p d e f h lt le m = absurd (omega arith)
freed_at to (TraceSplit q y edge live ∷ ops) [] ws ds above other s k v a c p d e f h lt le m = absurd (omega arith)
freed_at to (TracePlain op ∷ ops) (x ∷ cs) [] ds above other s k v a c p d e f h lt le m = absurd (omega arith)
freed_at to (TraceSplit q y edge live ∷ ops) (x ∷ cs) [] ds above other s k v a c p d e f h lt le m = absurd (omega arith)
freed_at to (TracePlain op ∷ ops) (x ∷ cs) (w ∷ ws) ds above other s zero v a c p d e f (inl h) lt le m =
    dismissed_load op v a x c p d (ap (λ b. Plain (if b then dismissed op else op) x) (sym (any_above w s above h le)) ∙ m)
freed_at to (TracePlain op ∷ ops) (x ∷ cs) (w ∷ ws) ds above other s zero v a c p d e f (inr h) lt le m = absurd (let z = h.1 in omega arith)
freed_at to (TraceSplit q y edge live ∷ ops) (x ∷ cs) (w ∷ ws) ds above other s zero v a c p d e f h lt le m = absurd (cc)
freed_at to (TracePlain op ∷ ops) (x ∷ cs) (w ∷ ws) ds above other s (suc k) v a c p d e f h lt le m =
    freed_at to ops cs ws ds above other s k v a c p d (omega arith) (omega arith) (above_on (TracePlain op) ops x cs w ws above above other s k (λ y i. i) (λ sp. absurd sp) h) (omega arith) le m
freed_at to (TraceSplit q y edge live ∷ ops) (x ∷ cs) (w ∷ ws) ds above other s (suc k) v a c p d e f h lt le m =
    freed_at to ops cs ws (drop 1 ds) (w ∷ above) other s k v a c p d (omega arith) (omega arith) (above_on (TraceSplit q y edge live) ops x cs w ws above (w ∷ above) other s k (λ y i. inr i) (λ sp. inl refl) h) (omega arith) le m

-- splits

pub split_at : (ops : List TraceOp) (cs : List ℕ) (k p d : ℕ) (y : Bool) (edge : Edge) → nth (items_of ops cs) k ≡ Split p y edge d → (live : List ℕ) × (slice_get ops k ≡ Some (TraceSplit p y edge live))
split_at [] cs k p d y edge e = absurd (cc)
split_at (TracePlain op ∷ ops) [] zero p d y edge e = absurd (cc)
split_at (TracePlain op ∷ ops) (c ∷ cs) zero p d y edge e = absurd (cc)
split_at (TraceSplit q u other live ∷ ops) [] zero p d y edge e = (live, (let a : q ≡ p = cc in let b : u ≡ y = cc in let h : other ≡ edge = cc in ap (λ z. Some (TraceSplit z u other live)) a ∙ ap (λ z. Some (TraceSplit p z other live)) b ∙ ap (λ z. Some (TraceSplit p y z live)) h))
split_at (TraceSplit q u other live ∷ ops) (c ∷ cs) zero p d y edge e = (live, (let a : q ≡ p = cc in let b : u ≡ y = cc in let h : other ≡ edge = cc in ap (λ z. Some (TraceSplit z u other live)) a ∙ ap (λ z. Some (TraceSplit p z other live)) b ∙ ap (λ z. Some (TraceSplit p y z live)) h))
split_at (TracePlain op ∷ ops) [] (suc k) p d y edge e = split_at ops [] k p d y edge e
split_at (TracePlain op ∷ ops) (c ∷ cs) (suc k) p d y edge e = split_at ops cs k p d y edge e
split_at (TraceSplit q u other live ∷ ops) [] (suc k) p d y edge e = split_at ops [] k p d y edge e
split_at (TraceSplit q u other live ∷ ops) (c ∷ cs) (suc k) p d y edge e = split_at ops cs k p d y edge e

pub split_placed : (to : ℕ → ℕ → ℕ) (ops : List TraceOp) (cs ws ds above : List ℕ) (k p d g : ℕ) (y : Bool) (edge edge' : Edge) → length cs ≡ length ops → length ws ≡ length ops → nth (items_of ops cs) k ≡ Split p y edge d → nth (marks to ops cs ws ds above) k ≡ Split p y edge' g → edge' ≡ record edge { to = to edge.from edge.to }
split_placed to [] cs ws ds above k p d g y edge edge' l f e m = absurd (cc)
split_placed to (TracePlain op ∷ ops) [] ws ds above k p d g y edge edge' l f e m = absurd (omega arith)
split_placed to (TraceSplit q u other live ∷ ops) [] ws ds above k p d g y edge edge' l f e m = absurd (omega arith)
split_placed to (TracePlain op ∷ ops) (c ∷ cs) [] ds above k p d g y edge edge' l f e m = absurd (omega arith)
split_placed to (TraceSplit q u other live ∷ ops) (c ∷ cs) [] ds above k p d g y edge edge' l f e m = absurd (omega arith)
split_placed to (TracePlain op ∷ ops) (c ∷ cs) (w ∷ ws) ds above zero p d g y edge edge' l f e m = absurd (cc)
split_placed to (TraceSplit q u other live ∷ ops) (c ∷ cs) (w ∷ ws) ds above zero p d g y edge edge' l f e m =
    let a : other ≡ edge = cc in
    let b : edge' ≡ record other { to = to other.from other.to } = cc in
    b ∙ ap (λ (z : Edge). record z { to = to z.from z.to }) a
split_placed to (TracePlain op ∷ ops) (c ∷ cs) (w ∷ ws) ds above (suc k) p d g y edge edge' l f e m = split_placed to ops cs ws ds above k p d g y edge edge' (omega arith) (omega arith) e m
split_placed to (TraceSplit q u other live ∷ ops) (c ∷ cs) (w ∷ ws) ds above (suc k) p d g y edge edge' l f e m = split_placed to ops cs ws (drop 1 ds) (w ∷ above) k p d g y edge edge' (omega arith) (omega arith) e m
