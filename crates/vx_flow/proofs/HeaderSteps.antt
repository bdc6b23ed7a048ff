-- The blocks to which edges lead, by marks.
use Rattle.std.proofs.Common.{◌≡◌, inl, inr, ℕ, zero, suc, ◌+◌, ◌<◌, ◌≤◌, Bool, true, false, ◌==◌, ◌||◌, cond, List, [], ◌∷◌, ◌++◌, length, slice_set, refl, sym, ap, subst, ◌∙◌, arith, append-nil}
use Rattle.std.specs.List.{list_any, filter}
use Rattle.std.proofs.lemmas.Bool.Decides.{eqb_tells}
use Rattle.vx_flow.specs.declared.graph.Graph.{Graph}
use Rattle.vx_flow.specs.declared.graph.Edge.{Edge}
use Rattle.vx_flow.specs.Rows.{is_marked}
use Rattle.vx_flow.specs.Walk.{BackEdges, Headers, numbers}
use Rattle.vx_flow.specs.Walking.{MarksTargets}
use Rattle.vx_tables.proofs.Marks.{length_set, set_self}

-- marks of the targets of edges

set_other : (marks : List Bool) (to b : ℕ) → (to ≡ b → ⊥) → is_marked (slice_set marks to true) b ≡ is_marked marks b
set_other [] to b n = refl
set_other (x ∷ marks) zero zero n = absurd (n refl)
set_other (x ∷ marks) zero (suc b) n = refl
set_other (x ∷ marks) (suc to) zero n = refl
set_other (x ∷ marks) (suc to) (suc b) n = set_other marks to b (λ e. n (ap suc e))

mark_one : (marks : List Bool) (to b : ℕ) → b < length marks → is_marked (slice_set marks to true) b ≡ ((to == b) || is_marked marks b)
mark_one marks to b h = elim (eqb_tells to b) [
  | inl e ↦
      let q : to ≡ b = e.1 in
      let k : to < length marks = omega arith in
      subst (λ y. is_marked (slice_set marks to true) y ≡ ((to == b) || is_marked marks b)) q (set_self marks to k ∙ ap (λ t. t || is_marked marks b) (sym e.0))
  | inr e ↦ set_other marks to b e.1 ∙ ap (λ t. t || is_marked marks b) (sym e.0)
]

-- the marks are those of the edges so far, and the edges that are left
pub record Targets (marks : List Bool) (edges todo : List Edge) (n : ℕ) : Type 0 where
  pub len : length marks ≡ n
  pub so_far : (b : ℕ) → b < n → (is_marked marks b || list_any (λ e. e.to == b) todo) ≡ list_any (λ e. e.to == b) edges

or_left_swap : (a b c : Bool) → ((a || b) || c) ≡ (b || (a || c))
or_left_swap true true c = refl
or_left_swap true false c = refl
or_left_swap false b c = refl

pub targets_step : (marks : List Bool) (edges todo : List Edge) (n : ℕ) (e : Edge) → Targets marks edges (e ∷ todo) n → Targets (slice_set marks e.to true) edges todo n
targets_step marks edges todo n e s = record {
  len = length_set marks e.to ∙ s.len;
  so_far = λ b h.
      let k : b < length marks = subst (λ m. b < m) (sym s.len) h in
      ap (λ y. y || list_any (λ x. x.to == b) todo) (mark_one marks e.to b k) ∙ or_left_swap (e.to == b) (is_marked marks b) (list_any (λ x. x.to == b) todo) ∙ s.so_far b h;
}

or_none : (a : Bool) → (a || false) ≡ a
or_none true = refl
or_none false = refl

not_true : (a : Bool) → (a ≡ true → ⊥) → a ≡ false
not_true true h = absurd (h refl)
not_true false h = refl

pub targets_first : (marks : List Bool) (edges : List Edge) → ((b : ℕ) → is_marked marks b ≡ true → ⊥) → Targets marks edges edges (length marks)
targets_first marks edges n = record { len = refl; so_far = λ b h. ap (λ y. y || list_any (λ e. e.to == b) edges) (not_true (is_marked marks b) (n b)) }

pub targets_last : (marks : List Bool) (edges : List Edge) (n : ℕ) → Targets marks edges [] n → MarksTargets marks edges n
targets_last marks edges n s b h = sym (or_none (is_marked marks b)) ∙ s.so_far b h

-- numbers that pass a test

cons_or : (t : Bool) (x : ℕ) (l m : List ℕ) → cond t (x ∷ (l ++ m)) (l ++ m) ≡ cond t (x ∷ l) l ++ m
cons_or true x l m = refl
cons_or false x l m = refl

filter_suc : (p : ℕ → Bool) (b n : ℕ) → filter p (numbers b (suc n)) ≡ filter p (numbers b n) ++ cond (p (b + n)) ((b + n) ∷ []) []
filter_suc p b zero = let z : b ≡ b + 0 = omega arith in ap (λ k. cond (p k) (k ∷ []) []) z
filter_suc p b (suc n) =
    let z : b + 1 + n ≡ b + suc n = omega arith in
    let r = filter_suc p (b + 1) n ∙ ap (λ k. filter p (numbers (b + 1) n) ++ cond (p k) (k ∷ []) []) z in
    ap (λ l. cond (p b) (b ∷ l) l) r ∙ cons_or (p b) b (filter p (numbers (b + 1) n)) (cond (p (b + suc n)) ((b + suc n) ∷ []) [])

pub filter_more : (p : ℕ → Bool) (n : ℕ) → filter p (numbers 0 (n + 1)) ≡ filter p (numbers 0 n) ++ cond (p n) (n ∷ []) []
filter_more p n =
    let a : suc n ≡ n + 1 = omega arith in
    let z : 0 + n ≡ n = omega arith in
    subst (λ k. filter p (numbers 0 k) ≡ filter p (numbers 0 n) ++ cond (p n) (n ∷ []) []) a (filter_suc p 0 n ∙ ap (λ k. filter p (numbers 0 n) ++ cond (p k) (k ∷ []) []) z)

pub marked_next : (marks : List Bool) (found new : List ℕ) (n : ℕ) → found ≡ filter (λ b. is_marked marks b) (numbers 0 n) → is_marked marks n ≡ true → new ≡ found ++ n ∷ [] → new ≡ filter (λ b. is_marked marks b) (numbers 0 (n + 1))
marked_next marks found new n e t q = q ∙ ap (λ l. l ++ n ∷ []) e ∙ ap (λ s. filter (λ b. is_marked marks b) (numbers 0 n) ++ cond s (n ∷ []) []) (sym t) ∙ sym (filter_more (λ b. is_marked marks b) n)

pub unmarked_next : (marks : List Bool) (found : List ℕ) (n : ℕ) → found ≡ filter (λ b. is_marked marks b) (numbers 0 n) → is_marked marks n ≡ false → found ≡ filter (λ b. is_marked marks b) (numbers 0 (n + 1))
unmarked_next marks found n e t = e ∙ sym (append-nil (filter (λ b. is_marked marks b) (numbers 0 n))) ∙ ap (λ s. filter (λ b. is_marked marks b) (numbers 0 n) ++ cond s (n ∷ []) []) (sym t) ∙ sym (filter_more (λ b. is_marked marks b) n)

filter_same : (p q : ℕ → Bool) (b k n : ℕ) → ((x : ℕ) → x < n → p x ≡ q x) → b + k ≤ n → filter p (numbers b k) ≡ filter q (numbers b k)
filter_same p q b zero n h l = refl
filter_same p q b (suc k) n h l = let e = h b (omega arith) in let r = filter_same p q (b + 1) k n h (omega arith) in ap (λ t. cond t (b ∷ filter p (numbers (b + 1) k)) (filter p (numbers (b + 1) k))) e ∙ ap (λ l. cond (q b) (b ∷ l) l) r

pub headers_found : (g : Graph) (back : List Edge) (marks : List Bool) (headers : List ℕ) → BackEdges g back → MarksTargets marks back (length g.blocks) → headers ≡ filter (λ b. is_marked marks b) (numbers 0 (length g.blocks)) → Headers g headers
headers_found g back marks headers e m h = record {
  back = back;
  edges = e;
  targets = h ∙ filter_same (λ b. is_marked marks b) (λ b. list_any (λ x. x.to == b) back) 0 (length g.blocks) (length g.blocks) m (omega arith);
}

pub headers_by : (g : Graph) (back edges : List Edge) (marks row : List Bool) (headers : List ℕ) (n m : ℕ) → BackEdges g back → edges ≡ back → n ≡ length g.blocks → MarksTargets marks edges n → row ≡ marks → m ≡ length g.blocks → headers ≡ filter (λ b. is_marked row b) (numbers 0 m) → Headers g headers
headers_by g back edges marks row headers n m e a l t r k h =
    let u : MarksTargets marks back (length g.blocks) = subst (λ x. MarksTargets marks x (length g.blocks)) a (subst (λ x. MarksTargets marks edges x) l t) in
    headers_found g back marks headers e u (h ∙ ap (λ x. filter (λ b. is_marked x b) (numbers 0 m)) r ∙ ap (λ x. filter (λ b. is_marked marks b) (numbers 0 x)) k)
