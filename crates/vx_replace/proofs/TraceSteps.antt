-- One more block of the lists of a trace.
use Rattle.std.proofs.Common.{◌≡◌, ℕ, zero, suc, ◌+◌, ◌-◌, ◌<◌, ◌≤◌, Bool, true, false, ◌&&◌, Some, List, [], ◌∷◌, ◌++◌, cond, length, take, drop, slice_index_or, slice_set, get_or, refl, sym, ap, ◌∙◌, subst, inl, inr, arith, append-nil, eqb-true}
use Rattle.std.specs.Prelude.{◌==◌, not, if◌then◌else◌}
use Rattle.std.specs.List.{filter}
use Rattle.std.proofs.lemmas.Bool.{ne_eqb}
use Rattle.std.proofs.lemmas.List.Elements.{filter-append}
use Rattle.vx_flow.specs.declared.graph.Edge.{Edge}
use Rattle.vx_flow.specs.declared.trace.Join.{Join}
use Rattle.vx_flow.specs.Effects.{IsIn}
use Rattle.vx_flow.specs.Walk.{edge}
use Rattle.vx_mixed.specs.declared.mixed.MixedGraph.{MixedGraph}
use Rattle.vx_mixed.specs.FromGraph.{same_edge}
use Rattle.vx_replace.specs.TraceLists.{Entering, marked}
use Rattle.vx_mixed.specs.TraceOf.{block_ops, joined, joins_behind, trace_joins}
use Rattle.vx_mixed.specs.Next.{rejoin_at}
use Rattle.vx_mixed.proofs.RouteSteps.{one_more, left_at, left_from}

-- the edges that lead to some blocks

abbrev mark_at : List Bool → ℕ → Bool
mark_at marks c = slice_index_or marks c true

set_keeps : (marks : List Bool) (b c : ℕ) → mark_at marks c ≡ true → mark_at (slice_set marks b true) c ≡ true
set_keeps [] b c h = h
set_keeps (m ∷ marks) zero zero h = refl
set_keeps (m ∷ marks) zero (suc c) h = h
set_keeps (m ∷ marks) (suc b) zero h = h
set_keeps (m ∷ marks) (suc b) (suc c) h = set_keeps marks b c h

set_marks : (marks : List Bool) (b : ℕ) → mark_at (slice_set marks b true) b ≡ true
set_marks [] b = refl
set_marks (m ∷ marks) zero = refl
set_marks (m ∷ marks) (suc b) = set_marks marks b

marked_keeps : (bs : List ℕ) (marks : List Bool) (c : ℕ) → mark_at marks c ≡ true → mark_at (marked bs marks) c ≡ true
marked_keeps [] marks c h = h
marked_keeps (b ∷ bs) marks c h = marked_keeps bs (slice_set marks b true) c (set_keeps marks b c h)

pub marks_all : (bs : List ℕ) (marks : List Bool) (c : ℕ) → IsIn c bs → slice_index_or (marked bs marks) c true ≡ true
marks_all [] marks c h = absurd h
marks_all (b ∷ bs) marks c (inl e) = marked_keeps bs (slice_set marks b true) c (subst (λ z. mark_at (slice_set marks b true) z ≡ true) (sym e) (set_marks marks b))
marks_all (b ∷ bs) marks c (inr h) = marks_all bs (slice_set marks b true) c h

-- what passes the second test passes the first
filter_within : (p q : Edge → Bool) → ((e : Edge) → q e ≡ true → p e ≡ true) → (xs : List Edge) → filter q (filter p xs) ≡ filter q xs
filter_within p q h [] = refl
filter_within p q h (x ∷ xs) = by (p x) (h x) (filter_within p q h xs)
  where
    none : (b : Bool) → (b ≡ true → false ≡ true) → filter q xs ≡ cond b (x ∷ filter q xs) (filter q xs)
    none false n = refl
    none true n = let e : false ≡ true = n refl in absurd (cc)

    by : (a : Bool) → (q x ≡ true → a ≡ true) → filter q (filter p xs) ≡ filter q xs → filter q (cond a (x ∷ filter p xs) (filter p xs)) ≡ cond (q x) (x ∷ filter q xs) (filter q xs)
    by true n e = ap (λ l. cond (q x) (x ∷ l) l) e
    by false n e = e ∙ none (q x) n

pub entering_by : (marks : List Bool) (blocks : List ℕ) (edges into : List Edge) → ((c : ℕ) → IsIn c blocks → slice_index_or marks c true ≡ true) → into ≡ filter (λ (e : Edge). slice_index_or marks e.to true) edges → Entering edges blocks into
entering_by marks blocks edges into all is c h =
    ap (filter (λ (e : Edge). e.to == c)) is
    ∙ filter_within (λ (e : Edge). mark_at marks e.to) (λ (e : Edge). e.to == c) (λ e t. subst (λ z. mark_at marks z ≡ true) (sym (eqb-true e.to c t)) (all c h)) edges

filter_two : {A : Type 0} (p q : A → Bool) (xs : List A) → filter q (filter p xs) ≡ filter (λ x. p x && q x) xs
filter_two p q [] = refl
filter_two p q (x ∷ xs) = by (p x) (q x) (filter_two p q xs)
  where
    by : (a b : Bool) → filter q (filter p xs) ≡ filter (λ x. p x && q x) xs → filter q (cond a (x ∷ filter p xs) (filter p xs)) ≡ cond (a && q x) (x ∷ filter (λ x. p x && q x) xs) (filter (λ x. p x && q x) xs)
    by false b h = h
    by true b h = ap (λ l. cond (q x) (x ∷ l) l) h

pub take_more : {A : Type 0} (xs : List A) (i : ℕ) (d : A) → i < length xs → take (i + 1) xs ≡ take i xs ++ get_or xs i d ∷ []
take_more [] i d h = absurd (omega arith)
take_more (x ∷ xs) zero d h = refl
take_more (x ∷ xs) (suc i) d h = let z : suc (i + 1) ≡ suc i + 1 = omega arith in ap (λ k. take k (x ∷ xs)) (sym z) ∙ ap (λ l. x ∷ l) (take_more xs i d (omega arith))

kept_or_not : (p : Edge → Bool) (xs : List Edge) (x : Edge) → filter p (xs ++ x ∷ []) ≡ (if p x then filter p xs ++ x ∷ [] else filter p xs)
kept_or_not p xs x = filter-append p xs (x ∷ []) ∙ by (p x)
  where
    by : (b : Bool) → filter p xs ++ cond b (x ∷ []) [] ≡ (if b then filter p xs ++ x ∷ [] else filter p xs)
    by true = refl
    by false = append-nil (filter p xs)

pub others_more : (p : Edge → Bool) (edges : List Edge) (i : ℕ) (d : Edge) (now next : List Edge) → i < length edges → now ≡ filter p (take i edges) → next ≡ (if p (get_or edges i d) then now ++ get_or edges i d ∷ [] else now) → next ≡ filter p (take (i + 1) edges)
others_more p edges i d now next h e n =
    let x = get_or edges i d in
    n ∙ ap (λ l. if p x then l ++ x ∷ [] else l) e ∙ sym (kept_or_not p (take i edges) x) ∙ ap (filter p) (sym (take_more edges i d h))

-- joins

pub others_are : (edges entering : List Edge) (before b : ℕ) → filter (λ (e : Edge). e.to == b) entering ≡ filter (λ (e : Edge). e.to == b) edges →
    filter (λ (e : Edge). (e.to == b) && not (same_edge e (edge before b))) entering ≡ filter (λ (e : Edge). (e.to == b) && not (same_edge e (edge before b))) edges
others_are edges entering before b same =
    sym (filter_two (λ (e : Edge). e.to == b) (λ e. not (same_edge e (edge before b))) entering)
    ∙ ap (filter (λ (e : Edge). not (same_edge e (edge before b)))) same
    ∙ filter_two (λ (e : Edge). e.to == b) (λ e. not (same_edge e (edge before b))) edges

pub no_join : (place b : ℕ) (es : List Edge) → (length es == 0) ≡ true → joined place b es ≡ []
no_join place b [] h = refl
no_join place b (e ∷ es) h = let z = eqb-true (length (e ∷ es)) 0 h in absurd (omega arith)

pub one_join : (place b : ℕ) (es : List Edge) → (length es == 0) ≡ false → joined place b es ≡ record { place = place; block = b; edges = es } ∷ []
one_join place b [] h = absurd (cc)
one_join place b (e ∷ es) h = refl

pub joins_more : (m : MixedGraph) (live : ℕ → List ℕ) (edges : List Edge) (before place first above next i : ℕ) (blocks rest : List ℕ) (now later : List Join) → i < length blocks →
    now ++ joins_behind m live edges before place (drop i blocks) ≡ joins_behind m live edges first above blocks →
    later ≡ now ++ joined place (get_or blocks i 0) (filter (λ (e : Edge). (e.to == get_or blocks i 0) && not (same_edge e (edge before (get_or blocks i 0)))) edges) →
    rest ≡ drop (i + 1) blocks → next ≡ place + length (block_ops m live (get_or blocks i 0) rest) →
    later ++ joins_behind m live edges (get_or blocks i 0) next (drop (i + 1) blocks) ≡ joins_behind m live edges first above blocks
joins_more m live edges before place first above next i blocks rest now later h inv push r n =
    let b = get_or blocks i 0 in
    let part = joined place b (filter (λ (e : Edge). (e.to == b) && not (same_edge e (edge before b))) edges) in
    let to : next ≡ place + length (block_ops m live b (drop (i + 1) blocks)) = n ∙ ap (λ l. place + length (block_ops m live b l)) r in
    let e : joins_behind m live edges before place (drop i blocks) ≡ part ++ joins_behind m live edges b next (drop (i + 1) blocks) =
    ap (joins_behind m live edges before place) (left_from blocks i 0 h) ∙ ap (λ k. part ++ joins_behind m live edges b k (drop (i + 1) blocks)) (sym to) in
    one_more now later part (joins_behind m live edges before place (drop i blocks)) (joins_behind m live edges b next (drop (i + 1) blocks)) (joins_behind m live edges first above blocks) inv e push

take_all : {A : Type 0} (xs : List A) → take (length xs) xs ≡ xs
take_all [] = refl
take_all (x ∷ xs) = ap (λ l. x ∷ l) (take_all xs)

pub joins_at_first : (m : MixedGraph) (live : ℕ → List ℕ) (edges : List Edge) (blocks : List ℕ) (place : ℕ) → 1 ≤ length blocks →
    place ≡ 0 + length (block_ops m live (get_or blocks 0 0) (take (length blocks - 1) (drop 1 blocks))) →
    joins_behind m live edges (get_or blocks 0 0) place (take (length blocks - 1) (drop 1 blocks)) ≡ trace_joins m live edges blocks
joins_at_first m live edges [] place h e = absurd (omega arith)
joins_at_first m live edges (b ∷ blocks) place h e =
    let n : suc (length blocks) - 1 ≡ length blocks = omega arith in
    let rest : take (suc (length blocks) - 1) blocks ≡ blocks = ap (λ k. take k blocks) n ∙ take_all blocks in
    let at : place ≡ 0 + length (block_ops m live b blocks) = e ∙ ap (λ l. 0 + length (block_ops m live b l)) rest in
    let z : place ≡ length (block_ops m live b blocks) = omega (arith, at) in
    ap (joins_behind m live edges b place) rest ∙ ap (λ k. joins_behind m live edges b k blocks) z

-- a join that is at another block is passed
pub rejoin_more : (js : List Join) (ws : List ℕ) (i b : ℕ) (j : Join) → i < length js → j ≡ get_or js i j → i < length ws → (j.block ≡ b → ⊥) → rejoin_at (drop i js) (drop i ws) b ≡ rejoin_at (drop (i + 1) js) (drop (i + 1) ws) b
rejoin_more js ws i b j h e k n =
    ap (λ l. rejoin_at l (drop i ws) b) (left_at js i j h e)
    ∙ ap (λ l. rejoin_at (j ∷ drop (i + 1) js) l b) (left_from ws i 0 k)
    ∙ ap (λ t. if t then Some (get_or ws i 0) else rejoin_at (drop (i + 1) js) (drop (i + 1) ws) b) (ne_eqb j.block b n)
