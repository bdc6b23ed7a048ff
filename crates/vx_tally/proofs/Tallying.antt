-- Entries of blocks: what one more visit and one more entry come to.
use Rattle.std.proofs.Common.{◌≡◌, ◌≢◌, ◌+◌, ◌<◌, ℕ, zero, suc, Bool, true, false, cond, ◌==◌, ◌&&◌, List, [], ◌∷◌, length, map, replicate, slice_set, slice_index_or, refl, sym, ap, ◌∙◌, add-zero, arith}
use Rattle.std.proofs.lemmas.Bool.{and_parts, eqb-true, eq-eqb}
use Rattle.std.proofs.lemmas.List.{get_or-set_same, get_or-set_other}
use Rattle.std.specs.List.{count_by}
use Rattle.vx_flow.specs.Meaning.{Visit, AtBlock, AlongEdge}
use Rattle.vx_flow.specs.declared.graph.Graph.{Graph}
use Rattle.vx_tally.specs.declared.tally.Entry.{Entry}
use Rattle.vx_tally.specs.declared.tally.Tally.{Tally}
use Rattle.vx_profile.specs.Counts.{block_count, edge_count, is_block, is_edge, CountsMore, CountsOf}
use Rattle.vx_tally.specs.Tally.{never, empty_row, taken, entry_at, entry_in, block_times, edge_times, IsThere, TallyOf, TallyMore}
use Rattle.vx_profile.proofs.Counting.{count_one}

-- what is replaced

row_set : {A : Type 0} (xs : List A) (i j : ℕ) (x d : A) → i < length xs → slice_index_or (slice_set xs i x) j d ≡ cond (i == j) x (slice_index_or xs j d)
row_set xs i j x d h = by (i == j) refl
  where
    by : (b : Bool) → (i == j) ≡ b → slice_index_or (slice_set xs i x) j d ≡ cond (i == j) x (slice_index_or xs j d)
    by true e =
        let k : i ≡ j = eqb-true i j e in
        ap (λ n. slice_index_or (slice_set xs i x) n d) (sym k) ∙ get_or-set_same xs i x d h ∙ sym (ap (λ b. cond b x (slice_index_or xs j d)) e)
    by false e =
        let k : j ≢ i = λ q. let f : (i == j) ≡ true = eq-eqb i j (sym q) in absurd cc in
        get_or-set_other xs i j x d k ∙ sym (ap (λ b. cond b x (slice_index_or xs j d)) e)

abbrev replaced : List (List Entry) → (f b : ℕ) → Entry → List (List Entry)
replaced rows f b e = slice_set rows f (slice_set (slice_index_or rows f []) b e)

entry_set : (rows : List (List Entry)) (f b : ℕ) (e : Entry) (g c : ℕ) → f < length rows → b < length (slice_index_or rows f []) → entry_in (replaced rows f b e) g c ≡ cond ((f == g) && (b == c)) e (entry_in rows g c)
entry_set rows f b e g c h k = ap (λ row. entry_at row c) (row_set rows f g (slice_set (slice_index_or rows f []) b e) [] h) ∙ by (f == g) refl
  where
    by : (t : Bool) → (f == g) ≡ t → entry_at (cond t (slice_set (slice_index_or rows f []) b e) (slice_index_or rows g [])) c ≡ cond (t && (b == c)) e (entry_in rows g c)
    by true q = row_set (slice_index_or rows f []) b c e never k ∙ ap (λ n. cond (b == c) e (entry_in rows n c)) (eqb-true f g q)
    by false q = refl

same_entry : (rows : List (List Entry)) (f b g c : ℕ) → ((f == g) && (b == c)) ≡ true → entry_in rows f b ≡ entry_in rows g c
same_entry rows f b g c t = let (k, l) = and_parts (f == g) (b == c) t in ap (λ n. entry_in rows n b) (eqb-true f g k) ∙ ap (λ n. entry_in rows g n) (eqb-true b c l)

-- one more visit

passed_more : (t : Bool) (e there : Entry) → (t ≡ true → e.passed ≡ there.passed + 1) → (cond t e there).passed ≡ there.passed + cond t 1 0
passed_more true e there h = h refl
passed_more false e there h = sym (add-zero there.passed)

passed_same : (t : Bool) (e there : Entry) → (t ≡ true → e.passed ≡ there.passed) → (cond t e there).passed ≡ there.passed
passed_same true e there h = h refl
passed_same false e there h = refl

taken_more : (t s : Bool) (e there : Entry) (d : ℕ) → (t ≡ true → taken e d ≡ taken there d + cond s 1 0) → taken (cond t e there) d ≡ taken there d + cond (t && s) 1 0
taken_more true s e there d h = h refl
taken_more false s e there d h = sym (add-zero (taken there d))

taken_same : (t : Bool) (e there : Entry) (d : ℕ) → (t ≡ true → taken e d ≡ taken there d) → taken (cond t e there) d ≡ taken there d
taken_same true e there d h = h refl
taken_same false e there d h = refl

-- a tally of which an entry was replaced
pub record IsReplaced (old new : Tally) (f b : ℕ) (e : Entry) : Type 0 where
  pub rows : new.rows.items ≡ replaced old.rows.items f b e
  pub rest : new.rest ≡ old.rest

pub tally_block_added : (old new : Tally) (f b : ℕ) (e there : Entry) → IsThere old.rows.items f b there → e.passed ≡ there.passed + 1 → ((d : ℕ) → taken e d ≡ taken there d) → IsReplaced old new f b e → TallyMore old new (AtBlock f b ∷ [])
tally_block_added old new f b e there is p q r = record { blocks = λ g c. blocks g c; edges = λ g c d. edges g c d }
  where
    rows : List (List Entry)
    rows = old.rows.items

    at : (g c : ℕ) → entry_in new.rows.items g c ≡ cond ((f == g) && (b == c)) e (entry_in rows g c)
    at g c = ap (λ rs. entry_in rs g c) r.rows ∙ entry_set rows f b e g c is.function is.block

    blocks : (g c : ℕ) → block_times new g c ≡ block_times old g c + count_by (is_block g c) (AtBlock f b ∷ [])
    blocks g c =
        let t = (f == g) && (b == c) in
        let rest : block_count new.rest g c ≡ block_count old.rest g c = ap (λ x. block_count x g c) r.rest in
        let more : (entry_in new.rows.items g c).passed ≡ (entry_in rows g c).passed + cond t 1 0 =
        ap (λ x. x.passed) (at g c) ∙ passed_more t e (entry_in rows g c) (λ h. p ∙ ap (λ x. x.passed + 1) (is.is ∙ same_entry rows f b g c h)) in
        let one : cond t 1 0 ≡ count_by (is_block g c) (AtBlock f b ∷ []) = count_one (is_block g c) (AtBlock f b) in
        omega (arith, rest, more, one)

    edges : (g c d : ℕ) → edge_times new g c d ≡ edge_times old g c d + count_by (is_edge g c d) (AtBlock f b ∷ [])
    edges g c d =
        let t = (f == g) && (b == c) in
        let rest : edge_count new.rest g c d ≡ edge_count old.rest g c d = ap (λ x. edge_count x g c d) r.rest in
        let same : taken (entry_in new.rows.items g c) d ≡ taken (entry_in rows g c) d =
        ap (λ x. taken x d) (at g c) ∙ taken_same t e (entry_in rows g c) d (λ h. q d ∙ ap (λ x. taken x d) (is.is ∙ same_entry rows f b g c h)) in
        let none : 0 ≡ count_by (is_edge g c d) (AtBlock f b ∷ []) = count_one (is_edge g c d) (AtBlock f b) in
        omega (arith, rest, same, none)

pub tally_edge_added : (old new : Tally) (f b to : ℕ) (e there : Entry) → IsThere old.rows.items f b there → e.passed ≡ there.passed → ((d : ℕ) → taken e d ≡ taken there d + cond (to == d) 1 0) → IsReplaced old new f b e → TallyMore old new (AlongEdge f b to ∷ [])
tally_edge_added old new f b to e there is p q r = record { blocks = λ g c. blocks g c; edges = λ g c d. edges g c d }
  where
    rows : List (List Entry)
    rows = old.rows.items

    at : (g c : ℕ) → entry_in new.rows.items g c ≡ cond ((f == g) && (b == c)) e (entry_in rows g c)
    at g c = ap (λ rs. entry_in rs g c) r.rows ∙ entry_set rows f b e g c is.function is.block

    blocks : (g c : ℕ) → block_times new g c ≡ block_times old g c + count_by (is_block g c) (AlongEdge f b to ∷ [])
    blocks g c =
        let t = (f == g) && (b == c) in
        let rest : block_count new.rest g c ≡ block_count old.rest g c = ap (λ x. block_count x g c) r.rest in
        let same : (entry_in new.rows.items g c).passed ≡ (entry_in rows g c).passed =
        ap (λ x. x.passed) (at g c) ∙ passed_same t e (entry_in rows g c) (λ h. p ∙ ap (λ x. x.passed) (is.is ∙ same_entry rows f b g c h)) in
        let none : 0 ≡ count_by (is_block g c) (AlongEdge f b to ∷ []) = count_one (is_block g c) (AlongEdge f b to) in
        omega (arith, rest, same, none)

    edges : (g c d : ℕ) → edge_times new g c d ≡ edge_times old g c d + count_by (is_edge g c d) (AlongEdge f b to ∷ [])
    edges g c d =
        let t = (f == g) && (b == c) in
        let rest : edge_count new.rest g c d ≡ edge_count old.rest g c d = ap (λ x. edge_count x g c d) r.rest in
        let more : taken (entry_in new.rows.items g c) d ≡ taken (entry_in rows g c) d + cond (t && (to == d)) 1 0 =
        ap (λ x. taken x d) (at g c) ∙ taken_more t (to == d) e (entry_in rows g c) d (λ h. q d ∙ ap (λ x. taken x d + cond (to == d) 1 0) (is.is ∙ same_entry rows f b g c h)) in
        let one : cond (t && (to == d)) 1 0 ≡ count_by (is_edge g c d) (AlongEdge f b to ∷ []) = count_one (is_edge g c d) (AlongEdge f b to) in
        omega (arith, rest, more, one)

-- what is counted beside the entries
pub rest_more : (old new : Tally) (visits : List Visit) → new.rows ≡ old.rows → CountsMore old.rest new.rest visits → TallyMore old new visits
rest_more old new visits same more = record {
  blocks = λ f b.
      let rows : (entry_in new.rows.items f b).passed ≡ (entry_in old.rows.items f b).passed = ap (λ rs. (entry_in rs.items f b).passed) same in
      let rest = more.blocks f b in
      omega (arith, rows, rest);
  edges = λ f b d.
      let rows : taken (entry_in new.rows.items f b) d ≡ taken (entry_in old.rows.items f b) d = ap (λ rs. taken (entry_in rs.items f b) d) same in
      let rest = more.edges f b d in
      omega (arith, rows, rest);
}

-- nothing was passed

never_in : (n b : ℕ) → entry_at (replicate n never) b ≡ never
never_in zero b = refl
never_in (suc n) zero = refl
never_in (suc n) (suc b) = never_in n b

no_entry : (b : ℕ) → entry_at [] b ≡ never
no_entry b = refl

empty_in : (graphs : List Graph) (f b : ℕ) → entry_in (map empty_row graphs) f b ≡ never
empty_in [] f b = refl
empty_in (g ∷ gs) zero b = never_in (length g.blocks) b
empty_in (g ∷ gs) (suc f) b = empty_in gs f b

pub tally_empty : (graphs : List Graph) (t : Tally) → t.rows.items ≡ map empty_row graphs → CountsOf t.rest [] → TallyOf t []
tally_empty graphs t is none = record {
  blocks = λ f b.
      let rows : (entry_in t.rows.items f b).passed ≡ 0 = ap (λ rs. (entry_in rs f b).passed) is ∙ ap (λ e. e.passed) (empty_in graphs f b) in
      let rest = none.blocks f b in
      omega (arith, rows, rest);
  edges = λ f b d.
      let zero_times : taken never d ≡ 0 = by (0 == d) in
      let rows : taken (entry_in t.rows.items f b) d ≡ 0 = ap (λ rs. taken (entry_in rs f b) d) is ∙ ap (λ e. taken e d) (empty_in graphs f b) ∙ zero_times in
      let rest = none.edges f b d in
      omega (arith, rows, rest);
}
  where
    by : (t : Bool) → cond t 0 0 + cond t 0 0 ≡ 0
    by true = refl
    by false = refl
