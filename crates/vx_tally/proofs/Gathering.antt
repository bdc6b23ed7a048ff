-- The counts of entries, gathered entry by entry.
use Rattle.std.proofs.Common.{◌≡◌, ◌+◌, ◌<◌, ℕ, zero, suc, Bool, true, false, cond, ◌==◌, ◌&&◌, List, [], ◌∷◌, ◌++◌, length, take, slice_index_or, refl, sym, ap, subst, ◌∙◌, add-zero, arith}
use Rattle.std.proofs.lemmas.List.{take_more, take_all, length-take, get_or_default}
use lib.Dec.{eqb-zero-suc, eqb-suc-zero, eqb-suc-suc}
use Rattle.vx_flow.specs.Meaning.{AtBlock, AlongEdge}
use Rattle.vx_profile.specs.declared.counts.Counts.{Counts}
use Rattle.vx_tally.specs.declared.tally.Entry.{Entry}
use Rattle.vx_profile.specs.Counts.{block_count, edge_count, MoreTimes}
use Rattle.vx_tally.specs.Tally.{never, taken, entry_at, MoreByEntry, MoreByRow, MoreByRows}

-- an entry

both_edges : (t r s : Bool) (old a b m n : ℕ) → a ≡ old + cond (t && r) m 0 → b ≡ a + cond (t && s) n 0 → b ≡ old + cond t (cond r m 0 + cond s n 0) 0
both_edges true r s old a b m n h k = omega (arith, h, k)
both_edges false r s old a b m n h k = omega (arith, h, k)

pub entry_gathered : (a b c d : Counts) (f n : ℕ) (e : Entry) → MoreTimes a b (AtBlock f n) e.passed → MoreTimes b c (AlongEdge f n e.first.to) e.first.times → MoreTimes c d (AlongEdge f n e.second.to) e.second.times → MoreByEntry a d f n e
entry_gathered a b c d f n e p q r = record {
  blocks = λ g m. let x = p.blocks g m in let y = q.blocks g m in let z = r.blocks g m in omega (arith, x, y, z);
  edges = λ g m t.
      let x : edge_count b g m t ≡ edge_count a g m t = p.edges g m t ∙ add-zero (edge_count a g m t) in
      both_edges ((f == g) && (n == m)) (e.first.to == t) (e.second.to == t) (edge_count a g m t) (edge_count c g m t) (edge_count d g m t) e.first.times e.second.times
      (q.edges g m t ∙ ap (λ k. k + cond ((f == g) && (n == m) && (e.first.to == t)) e.first.times 0) x) (r.edges g m t);
}

-- one item more

zero_and : (a b : ℕ) → a ≡ 0 → b ≡ a + b
zero_and a b e = omega (arith, e)

pushed : {X : Type 0} (h : X → ℕ) (d : X) → h d ≡ 0 → (xs : List X) (x : X) (i : ℕ) → h (slice_index_or (xs ++ x ∷ []) i d) ≡ h (slice_index_or xs i d) + cond (length xs == i) (h x) 0
pushed h d z [] x zero = zero_and (h d) (h x) z
pushed h d z [] x (suc i) = sym (add-zero (h d)) ∙ ap (λ t. h d + cond t (h x) 0) (sym (eqb-zero-suc i))
pushed h d z (y ∷ ys) x zero = sym (add-zero (h y)) ∙ ap (λ t. h y + cond t (h x) 0) (sym (eqb-suc-zero (length ys)))
pushed h d z (y ∷ ys) x (suc i) = pushed h d z ys x i ∙ ap (λ t. h (slice_index_or ys i d) + cond t (h x) 0) (sym (eqb-suc-suc (length ys) i))

further : {X : Type 0} (h : X → ℕ) (d : X) → h d ≡ 0 → (xs : List X) (x : X) (i j : ℕ) → i < length xs → x ≡ slice_index_or xs i d → h (slice_index_or (take (i + 1) xs) j d) ≡ h (slice_index_or (take i xs) j d) + cond (i == j) (h x) 0
further h d z xs x i j less is =
    let n : length (take i xs) ≡ i = let l = length-take i xs in omega (arith, l, less) in
    ap (λ ys. h (slice_index_or ys j d)) (take_more xs i d less ∙ ap (λ y. take i xs ++ y ∷ []) (sym is))
    ∙ pushed h d z (take i xs) x j
    ∙ ap (λ k. h (slice_index_or (take i xs) j d) + cond (k == j) (h x) 0) n

no_edges : (t : Bool) → cond t 0 0 + cond t 0 0 ≡ 0
no_edges true = refl
no_edges false = refl

pub never_taken : (d : ℕ) → taken never d ≡ 0
never_taken d = no_edges (0 == d)

-- a row

turn : (s t : Bool) (old a b x y more : ℕ) → a ≡ old + cond s x 0 → b ≡ a + cond (s && t) more 0 → y ≡ x + cond t more 0 → b ≡ old + cond s y 0
turn true t old a b x y more h k l = omega (arith, h, k, l)
turn false t old a b x y more h k l = omega (arith, h, k, l)

nothing : (s : Bool) (n x : ℕ) → x ≡ 0 → n ≡ n + cond s x 0
nothing true n x e = omega (arith, e)
nothing false n x e = omega arith

pub row_none : (a : Counts) (f : ℕ) (row : List Entry) → MoreByRow a a f (take 0 row)
row_none a f row = record { blocks = λ g c. nothing (f == g) (block_count a g c) 0 refl; edges = λ g c d. nothing (f == g) (edge_count a g c d) (taken never d) (never_taken d) }

pub row_more : (old a b : Counts) (f i : ℕ) (row : List Entry) → i < length row → MoreByRow old a f (take i row) → MoreByEntry a b f i (entry_at row i) → MoreByRow old b f (take (i + 1) row)
row_more old a b f i row less h k = let e = entry_at row i in record {
  blocks = λ g c. turn (f == g) (i == c) (block_count old g c) (block_count a g c) (block_count b g c) (entry_at (take i row) c).passed (entry_at (take (i + 1) row) c).passed e.passed
      (h.blocks g c) (k.blocks g c) (further (λ x. x.passed) never refl row e i c less refl);
  edges = λ g c d. turn (f == g) (i == c) (edge_count old g c d) (edge_count a g c d) (edge_count b g c d) (taken (entry_at (take i row) c) d) (taken (entry_at (take (i + 1) row) c) d) (taken e d)
      (h.edges g c d) (k.edges g c d) (further (λ x. taken x d) never (never_taken d) row e i c less refl);
}

pub row_all : (a b : Counts) (f i : ℕ) (row : List Entry) → i ≡ length row → MoreByRow a b f (take i row) → MoreByRow a b f row
row_all a b f i row e h = subst (MoreByRow a b f) (ap (λ n. take n row) e ∙ take_all (length row) row (omega arith)) h

-- all rows

pub rows_none : (a : Counts) (rows : List (List Entry)) → MoreByRows a a (take 0 rows)
rows_none a rows = record { blocks = λ g c. sym (add-zero (block_count a g c)); edges = λ g c d. let z = never_taken d in omega (arith, z) }

pub rows_more : (old a b : Counts) (i : ℕ) (rows : List (List Entry)) (row : List Entry) → i < length rows → row ≡ slice_index_or rows i row → MoreByRows old a (take i rows) → MoreByRow a b i row → MoreByRows old b (take (i + 1) rows)
rows_more old a b i rows row less at h k = let is = at ∙ get_or_default rows i row [] less in record {
  blocks = λ g c.
      let more = further (λ x. (entry_at x c).passed) [] refl rows row i g less is in
      let x = h.blocks g c in
      let y = k.blocks g c in
      omega (arith, more, x, y);
  edges = λ g c d.
      let more = further (λ x. taken (entry_at x c) d) [] (never_taken d) rows row i g less is in
      let x = h.edges g c d in
      let y = k.edges g c d in
      omega (arith, more, x, y);
}

pub rows_all : (a b : Counts) (i : ℕ) (rows : List (List Entry)) → i ≡ length rows → MoreByRows a b (take i rows) → MoreByRows a b rows
rows_all a b i rows e h = subst (MoreByRows a b) (ap (λ n. take n rows) e ∙ take_all (length rows) rows (omega arith)) h
