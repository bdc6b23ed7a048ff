-- The rows that are written give the counts that they are written of.
use Rattle.std.proofs.Common.{◌≡◌, ℕ, Bool, true, false, cond, ◌==◌, ◌&&◌, List, [], ◌∷◌, ◌++◌, map, Some, refl, sym, ap, subst, ◌∙◌, arith}
use Rattle.std.specs.Prelude.{nat_lt}
use Rattle.std.specs.Option.{unwrap_or}
use Rattle.std.specs.List.{AllByRecursion, filter, flat_map, IsDistinct}
use Rattle.std.specs.List.Sorted.{IsStrictlySortedBy}
use Rattle.std.specs.Map.{keys_of, lookup}
use Rattle.std.specs.declared.cmp.Ordering.{Ordering}
use Rattle.std.specs.Ordering.{eq_by_cmp}
use Rattle.std.specs.Cmp.{IsTotalOrder}
use Rattle.std.specs.BTreeMap.{BTreeMap, is_at, IsOrdered}
use Rattle.std.proofs.lemmas.Bool.Decides.{nat_tests}
use Rattle.std.proofs.lemmas.Cmp.{eq_by_cmp_equiv, nat_cmp_total, on_total, then_total}
use Rattle.std.proofs.lemmas.List.Concat.{flat_map-append}
use Rattle.std.proofs.lemmas.Map.{NonePasses}
use Rattle.std.proofs.lemmas.Map.Entries.{none_past_head}
use Rattle.std.proofs.lemmas.Map.Keys.{IsDistinct-from_sorted, IsDistinct-tail}
use Rattle.vx_flow.specs.Meaning.{Visit, AtBlock, AlongEdge}
use Rattle.vx_profile.specs.declared.counts.Counts.{Counts}
use Rattle.vx_profile.specs.Counts.{Pair, Triple, pair_cmp, triple_cmp, is_block, is_edge}
use Rattle.vx_profile.specs.Text.{header, Row, row_text, Fits, last_count, GivenBy, Spells, block_row, edge_row, is_passed, rows_of, counts_text}
use Rattle.vx_profile.proofs.Counting.{at_pair, at_triple}

last_both : (test : Visit → Bool) (n : ℕ) (xs ys : List Row) → last_count test n (xs ++ ys) ≡ last_count test (last_count test n xs) ys
last_both test n [] ys = refl
last_both test n (x ∷ xs) ys = last_both test (cond (test x.visit) x.count n) xs ys

fits_both : (xs ys : List Row) → AllByRecursion Fits xs → AllByRecursion Fits ys → AllByRecursion Fits (xs ++ ys)
fits_both [] ys f g = g
fits_both (x ∷ xs) ys f g = (f.0, fits_both xs ys f.1 g)

-- the rows of entries, for keys that name blocks or edges
abbrev entry_row : {K : Type 0} → (K → Visit) → K × ℕ → Row
entry_row visit e = record { visit = visit e.0; count = e.1 }

abbrev entry_rows : {K : Type 0} → (K → Visit) → List (K × ℕ) → List Row
entry_rows visit es = filter is_passed (map (entry_row visit) es)

-- where no key passes the test
last_none : {K : Type 0} (visit : K → Visit) (test : Visit → Bool) (n : ℕ) (es : List (K × ℕ)) → NonePasses (λ k. test (visit k)) es → last_count test n (entry_rows visit es) ≡ n
last_none visit test n [] none = refl
last_none visit test n (e ∷ es) none = by (nat_lt 0 e.1) refl (last_none visit test n es none.1)
  where
    by : (b : Bool) → nat_lt 0 e.1 ≡ b → last_count test n (entry_rows visit es) ≡ n → last_count test n (entry_rows visit (e ∷ es)) ≡ n
    by true is again =
        ap (λ p. last_count test n (cond p (entry_row visit e ∷ entry_rows visit es) (entry_rows visit es))) is
        ∙ ap (λ t. last_count test (cond t e.1 n) (entry_rows visit es)) none.0 ∙ again
    by false is again = ap (λ p. last_count test n (cond p (entry_row visit e ∷ entry_rows visit es) (entry_rows visit es))) is ∙ again

-- where each key is there once at most, the count is that of the entry that is found
last_found : {K : Type 0} (visit : K → Visit) (test : Visit → Bool) (eq : K → K → Bool) (q : K) → ((k : K) → test (visit k) ≡ eq q k)
    → ((e : K × ℕ) (es : List (K × ℕ)) → IsDistinct eq (keys_of (e ∷ es)) → eq q e.0 ≡ true → NonePasses (eq q) es)
    → (es : List (K × ℕ)) → IsDistinct eq (keys_of es) → last_count test 0 (entry_rows visit es) ≡ unwrap_or (lookup (eq q) es) 0
last_found visit test eq q same past [] distinct = refl
last_found {K = K} visit test eq q same past (e ∷ es) distinct = by (eq q e.0) refl (nat_lt 0 e.1) refl (last_found visit test eq q same past es (IsDistinct-tail eq e.0 (keys_of es) distinct))
  where
    none_visits : (xs : List (K × ℕ)) → NonePasses (eq q) xs → NonePasses (λ k. test (visit k)) xs
    none_visits [] none = tt
    none_visits (x ∷ xs) none = (same x.0 ∙ none.0, none_visits xs none.1)

    zero_count : nat_lt 0 e.1 ≡ false → 0 ≡ e.1
    zero_count is = grind (arith, nat_tests)

    first : (passed here : Bool) → nat_lt 0 e.1 ≡ passed → eq q e.0 ≡ here
        → last_count test 0 (entry_rows visit (e ∷ es)) ≡ cond passed (last_count test (cond here e.1 0) (entry_rows visit es)) (last_count test 0 (entry_rows visit es))
    first true here is at =
        ap (λ p. last_count test 0 (cond p (entry_row visit e ∷ entry_rows visit es) (entry_rows visit es))) is
        ∙ ap (λ t. last_count test (cond t e.1 0) (entry_rows visit es)) (same e.0 ∙ at)
    first false here is at = ap (λ p. last_count test 0 (cond p (entry_row visit e ∷ entry_rows visit es) (entry_rows visit es))) is

    found : (here : Bool) → eq q e.0 ≡ here → unwrap_or (lookup (eq q) (e ∷ es)) 0 ≡ unwrap_or (cond here (Some e.1) (lookup (eq q) es)) 0
    found here at = ap (λ t. unwrap_or (cond t (Some e.1) (lookup (eq q) es)) 0) at

    by : (here : Bool) → eq q e.0 ≡ here → (passed : Bool) → nat_lt 0 e.1 ≡ passed → last_count test 0 (entry_rows visit es) ≡ unwrap_or (lookup (eq q) es) 0
        → last_count test 0 (entry_rows visit (e ∷ es)) ≡ unwrap_or (lookup (eq q) (e ∷ es)) 0
    by true at true is again = first true true is at ∙ last_none visit test e.1 es (none_visits es (past e es distinct at)) ∙ sym (found true at)
    by true at false is again = first false true is at ∙ last_none visit test 0 es (none_visits es (past e es distinct at)) ∙ zero_count is ∙ sym (found true at)
    by false at true is again = first true false is at ∙ again ∙ sym (found false at)
    by false at false is again = first false false is at ∙ again ∙ sym (found false at)

last_sorted : {K : Type 0} (visit : K → Visit) (test : Visit → Bool) (cmp : K → K → Ordering) (total : IsTotalOrder cmp) (q : K) → ((k : K) → test (visit k) ≡ is_at (cmp q) k)
    → (es : List (K × ℕ)) → IsStrictlySortedBy cmp (keys_of es) → last_count test 0 (entry_rows visit es) ≡ unwrap_or (lookup (is_at (cmp q)) es) 0
last_sorted visit test cmp total q same es sorted =
    last_found visit test (eq_by_cmp cmp) q same (λ e rest distinct at. none_past_head (eq_by_cmp_equiv total) q e rest distinct at) es (IsDistinct-from_sorted cmp (keys_of es) sorted)

pairs_total : IsTotalOrder pair_cmp
pairs_total = then_total (on_total (λ (x : Pair). x.0) nat_cmp_total) (on_total (λ (x : Pair). x.1) nat_cmp_total)

triples_total : IsTotalOrder triple_cmp
triples_total = then_total (then_total (on_total (λ (x : Triple). x.0) nat_cmp_total) (on_total (λ (x : Triple). x.1) nat_cmp_total)) (on_total (λ (x : Triple). x.2) nat_cmp_total)

abbrev at_block : Pair → Visit
at_block p = AtBlock p.0 p.1

abbrev along_edge : Triple → Visit
along_edge p = AlongEdge p.0 p.1 p.2

pub flip_two : (a b c d : ℕ) → ((a == c) && (b == d)) ≡ ((c == a) && (d == b))
flip_two a b c d = grind (arith, nat_tests)

pub flip_three : (a b t c d u : ℕ) → ((a == c) && (b == d) && (t == u)) ≡ ((c == a) && (d == b) && (u == t))
flip_three a b t c d u = grind (arith, nat_tests)

none_at_blocks : (f b d : ℕ) (es : List (Pair × ℕ)) → NonePasses (λ k. is_edge f b d (at_block k)) es
none_at_blocks f b d [] = tt
none_at_blocks f b d (e ∷ es) = (refl, none_at_blocks f b d es)

none_along_edges : (f b : ℕ) (es : List (Triple × ℕ)) → NonePasses (λ k. is_block f b (along_edge k)) es
none_along_edges f b [] = tt
none_along_edges f b (e ∷ es) = (refl, none_along_edges f b es)

pub given_by_rows : (c : Counts) → IsOrdered pair_cmp c.blocks → IsOrdered triple_cmp c.edges → GivenBy c (rows_of c)
given_by_rows c blocks edges = record {
  blocks = λ f b. sym (
      last_both (is_block f b) 0 (entry_rows at_block c.blocks.entries) (entry_rows along_edge c.edges.entries)
      ∙ last_none along_edge (is_block f b) (last_count (is_block f b) 0 (entry_rows at_block c.blocks.entries)) c.edges.entries (none_along_edges f b c.edges.entries)
      ∙ last_sorted at_block (is_block f b) pair_cmp pairs_total (f, b) (λ k. flip_two k.0 k.1 f b ∙ sym (at_pair f b k.0 k.1)) c.blocks.entries blocks);
  edges = λ f b d. sym (
      last_both (is_edge f b d) 0 (entry_rows at_block c.blocks.entries) (entry_rows along_edge c.edges.entries)
      ∙ ap (λ n. last_count (is_edge f b d) n (entry_rows along_edge c.edges.entries)) (last_none at_block (is_edge f b d) 0 c.blocks.entries (none_at_blocks f b d c.blocks.entries))
      ∙ last_sorted along_edge (is_edge f b d) triple_cmp triples_total (f, b, d) (λ k. flip_three k.0 k.1 k.2 f b d ∙ sym (at_triple f b d k.0 k.1 k.2)) c.edges.entries edges);
}

pub written_is_spelled : (text : List ℕ) (c : Counts) → text ≡ counts_text c → AllByRecursion Fits (filter is_passed (map block_row c.blocks.entries)) → AllByRecursion Fits (filter is_passed (map edge_row c.edges.entries))
    → IsOrdered pair_cmp c.blocks → IsOrdered triple_cmp c.edges → Spells text c
written_is_spelled text c is f g blocks edges = record {
  rows = rows_of c;
  fit = fits_both (filter is_passed (map block_row c.blocks.entries)) (filter is_passed (map edge_row c.edges.entries)) f g;
  text = is;
  given = given_by_rows c blocks edges;
}

-- the text after each piece that is pushed
pub record Pushed (blocks : BTreeMap Pair ℕ) (edges : BTreeMap Triple ℕ) (start front middle text : List ℕ) : Type 0 where
  pub none : start ≡ []
  pub first : front ≡ start ++ header
  pub block_text : middle ≡ front ++ flat_map row_text (filter is_passed (map block_row blocks.entries))
  pub edge_text : text ≡ middle ++ flat_map row_text (filter is_passed (map edge_row edges.entries))
  pub blocks_fit : AllByRecursion Fits (filter is_passed (map block_row blocks.entries))
  pub edges_fit : AllByRecursion Fits (filter is_passed (map edge_row edges.entries))
  pub blocks_ordered : IsOrdered pair_cmp blocks
  pub edges_ordered : IsOrdered triple_cmp edges

same_counts : (c : Counts) (blocks : BTreeMap Pair ℕ) (edges : BTreeMap Triple ℕ) → blocks ≡ c.blocks → edges ≡ c.edges → record { blocks = blocks; edges = edges } ≡ c
same_counts c blocks edges is_blocks is_edges = ap (λ m. record { blocks = m; edges = edges }) is_blocks ∙ ap (λ m. record { blocks = c.blocks; edges = m }) is_edges

pub pushed_is_text : (c : Counts) (blocks : BTreeMap Pair ℕ) (edges : BTreeMap Triple ℕ) (start front middle text : List ℕ) → Pushed blocks edges start front middle text
    → blocks ≡ c.blocks → edges ≡ c.edges → text ≡ counts_text c
pushed_is_text c blocks edges start front middle text p is_blocks is_edges =
    let bs = filter is_passed (map block_row blocks.entries) in
    let es = filter is_passed (map edge_row edges.entries) in
    let begun : front ≡ header = p.first ∙ ap (λ t. t ++ header) p.none in
    let whole : text ≡ counts_text (record { blocks = blocks; edges = edges }) =
    p.edge_text ∙ ap (λ t. t ++ flat_map row_text es) (p.block_text ∙ ap (λ t. t ++ flat_map row_text bs) begun)
    ∙ ap (λ t. header ++ t) (sym (flat_map-append row_text bs es)) in
    whole ∙ ap counts_text (same_counts c blocks edges is_blocks is_edges)

pub pushed_is_spelled : (c : Counts) (blocks : BTreeMap Pair ℕ) (edges : BTreeMap Triple ℕ) (start front middle text : List ℕ) → Pushed blocks edges start front middle text
    → blocks ≡ c.blocks → edges ≡ c.edges → Spells text c
pushed_is_spelled c blocks edges start front middle text p is_blocks is_edges =
    let counts : Counts = record { blocks = blocks; edges = edges } in
    let whole : text ≡ counts_text counts = pushed_is_text counts blocks edges start front middle text p refl refl in
    subst (λ d. Spells text d) (same_counts c blocks edges is_blocks is_edges) (written_is_spelled text counts whole p.blocks_fit p.edges_fit p.blocks_ordered p.edges_ordered)
