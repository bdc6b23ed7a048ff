-- One more item in its word.
use Rattle.std.proofs.Common.{◌≡◌, ℕ, zero, suc, ◌+◌, ◌<◌, ◌≤◌, Bool, true, false, List, [], ◌∷◌, ◌++◌, length, map, take, drop, slice_index_or, slice_set, get_or, refl, sym, ap, ◌∙◌, subst, ⊎_elim, inl, inr, arith, append_assoc, append-nil}
use Rattle.std.specs.Prelude.{◌==◌, ◌||◌, nat_lt, nat_le, if◌then◌else◌, replicate}
use Rattle.std.specs.List.{list_any, filter}
use Rattle.std.proofs.lemmas.Bool.{cases_eq, cases_lt, eq-eqb, ne_eqb, lt-ltb, le-ltb, le-leb, lt-leb}
use Rattle.std.proofs.lemmas.List.{length-set}
use Rattle.vx_flow.specs.declared.trace.TraceOp.{TraceOp}
use Rattle.vx_flow.specs.declared.trace.TraceOp.TheVariants.{Plain as TracePlain, Split as TraceSplit}
use Rattle.vx_flow.specs.Effects.{IsIn, dismissed}
use Rattle.vx_flow.specs.Rows.{row_at}
use Rattle.vx_flow.specs.Walk.{numbers}
use Rattle.vx_flow.proofs.Members.{set_there}
use Rattle.vx_mixed.specs.declared.region.Item.{Item}
use Rattle.vx_mixed.specs.declared.region.Item.TheVariants.{Plain, Split}
use Rattle.vx_mixed.specs.declared.mixed.MixedGraph.{MixedGraph}
use Rattle.vx_mixed.specs.declared.replacement.Replacement.{Replacement}
use Rattle.vx_mixed.specs.Next.{InWord, new_end, freed, placed, in_word, last_of, new_region}
use Rattle.vx_replace.specs.Placing.{placed_item, drains_behind, bound_behind, placed_by}
use Rattle.vx_mixed.proofs.RouteSteps.{left_at, left_from, none_left}
use Rattle.vx_replace.proofs.TraceSteps.{take_more}

set_elsewhere : {A : Type 0} (rows : List (List A)) (p c : ℕ) (x : List A) → (p ≡ c → ⊥) → row_at (slice_set rows p x) c ≡ row_at rows c
set_elsewhere [] p c x n = refl
set_elsewhere (r ∷ rows) zero zero x n = absurd (n refl)
set_elsewhere (r ∷ rows) zero (suc c) x n = refl
set_elsewhere (r ∷ rows) (suc p) zero x n = refl
set_elsewhere (r ∷ rows) (suc p) (suc c) x n = set_elsewhere rows p c x (λ e. n (ap suc e))

-- the bound stands for the words of the splits above

abbrev Stands_for : List ℕ → ℕ → Type 0
Stands_for above b = (w : ℕ) → list_any (λ s. nat_le w s) above ≡ nat_lt w b

stands_more : (above : List ℕ) (b w : ℕ) → Stands_for above b → Stands_for (w ∷ above) (if nat_lt w b then b else w + 1)
stands_more above b w h v = ap (λ t. nat_le v w || t) (h v) ∙ ⊎_elim low high (cases_lt w b)
  where
    low : w < b → (nat_le v w || nat_lt v b) ≡ nat_lt v (if nat_lt w b then b else w + 1)
    low l =
        ⊎_elim
        (λ a. ap (λ t. t || nat_lt v b) (lt-leb v w a) ∙ ap (λ t. nat_lt v (if t then b else w + 1)) (sym (lt-ltb w b l)))
        (λ a. let k : v < b = omega arith in let e : v ≤ w = omega arith in ap (λ t. t || nat_lt v b) (le-leb v w e) ∙ sym (lt-ltb v b k) ∙ ap (λ t. nat_lt v (if t then b else w + 1)) (sym (lt-ltb w b l)))
        (cases_lt w v)

    high : b ≤ w → (nat_le v w || nat_lt v b) ≡ nat_lt v (if nat_lt w b then b else w + 1)
    high l =
        ⊎_elim
        (λ a. let k : b ≤ v = omega arith in let e : w + 1 ≤ v = omega arith in
        ap (λ t. t || nat_lt v b) (lt-leb v w a) ∙ le-ltb v b k ∙ sym (le-ltb v (w + 1) e) ∙ ap (λ t. nat_lt v (if t then b else w + 1)) (sym (le-ltb w b l)))
        (λ a. let e : v ≤ w = omega arith in let k : v < w + 1 = omega arith in
        ap (λ t. t || nat_lt v b) (le-leb v w e) ∙ sym (lt-ltb v (w + 1) k) ∙ ap (λ t. nat_lt v (if t then b else w + 1)) (sym (le-ltb w b l)))
        (cases_lt w v)

placed_alike : (to : ℕ → ℕ → ℕ) (ops : List TraceOp) (cs ws ds above : List ℕ) (b : ℕ) → Stands_for above b → placed_by to ops cs ws ds b ≡ placed to ops cs ws ds above
placed_alike to [] cs ws ds above b h = refl
placed_alike to (op ∷ ops) [] ws ds above b h = refl
placed_alike to (op ∷ ops) (c ∷ cs) [] ds above b h = refl
placed_alike to (TracePlain op ∷ ops) (c ∷ cs) (w ∷ ws) ds above b h =
    ap (λ t. record { word = w; item = Plain (if t then dismissed op else op) c } ∷ placed_by to ops cs ws ds b) (sym (h w))
    ∙ ap (λ l. record { word = w; item = Plain (freed w above op) c } ∷ l) (placed_alike to ops cs ws ds above b h)
placed_alike to (TraceSplit p y e live ∷ ops) (c ∷ cs) (w ∷ ws) ds above b h =
    ap (λ l. record { word = w; item = Split p y (record e { to = to e.from e.to }) (slice_index_or ds 0 0) } ∷ l) (placed_alike to ops cs ws (drop 1 ds) (w ∷ above) (if nat_lt w b then b else w + 1) (stands_more above b w h))

-- words

next_in_word : (x : InWord) (xs : List InWord) (w : ℕ) → in_word (x ∷ xs) w ≡ (if x.word == w then x.item ∷ in_word xs w else in_word xs w)
next_in_word x xs w = by (x.word == w)
  where
    by : (t : Bool) → map (λ (i : InWord). i.item) (if t then x ∷ filter (λ (i : InWord). i.word == w) xs else filter (λ (i : InWord). i.word == w) xs) ≡ (if t then x.item ∷ in_word xs w else in_word xs w)
    by true = refl
    by false = refl

put_one : (rows : List (List Item)) (x : InWord) (xs : List InWord) (all : ℕ → List Item) → x.word < length rows → ((w : ℕ) → row_at rows w ++ in_word (x ∷ xs) w ≡ all w) →
    (w : ℕ) → row_at (slice_set rows x.word (row_at rows x.word ++ x.item ∷ [])) w ++ in_word xs w ≡ all w
put_one rows x xs all low h w =
    ⊎_elim
    (λ e. subst (λ v. row_at (slice_set rows x.word (row_at rows x.word ++ x.item ∷ [])) v ++ in_word xs v ≡ all v) e
    (ap (λ l. l ++ in_word xs x.word) (set_there rows x.word (row_at rows x.word ++ x.item ∷ []) low)
    ∙ append_assoc (row_at rows x.word) (x.item ∷ []) (in_word xs x.word)
    ∙ ap (λ l. row_at rows x.word ++ l) (sym (next_in_word x xs x.word ∙ ap (λ t. if t then x.item ∷ in_word xs x.word else in_word xs x.word) (eq-eqb x.word x.word refl)))
    ∙ h x.word))
    (λ n.
    ap (λ l. l ++ in_word xs w) (set_elsewhere rows x.word w (row_at rows x.word ++ x.item ∷ []) n)
    ∙ ap (λ l. row_at rows w ++ l) (sym (next_in_word x xs w ∙ ap (λ t. if t then x.item ∷ in_word xs w else in_word xs w) (ne_eqb x.word w n)))
    ∙ h w)
    (cases_eq x.word w)

-- the words so far, and what is still to be put in them
pub record Filled (to : ℕ → ℕ → ℕ) (ops : List TraceOp) (cs ws ds : List ℕ) (size i splits bound : ℕ) (rows : List (List Item)) : Type 0 where
  pub size_is : length rows ≡ size
  pub rest : (w : ℕ) → row_at rows w ++ in_word (placed_by to (drop i ops) (drop i cs) (drop i ws) (drop splits ds) bound) w ≡ in_word (placed_by to ops cs ws ds 0) w

empty_row : (n w : ℕ) → row_at (replicate {A = List Item} n []) w ≡ []
empty_row zero w = refl
empty_row (suc n) zero = refl
empty_row (suc n) (suc w) = empty_row n w

empty_length : (n : ℕ) → length (replicate {A = List Item} n []) ≡ n
empty_length zero = refl
empty_length (suc n) = ap suc (empty_length n)

pub none_filled : (to : ℕ → ℕ → ℕ) (ops : List TraceOp) (cs ws ds : List ℕ) (size : ℕ) (rows : List (List Item)) → rows ≡ replicate size [] → Filled to ops cs ws ds size 0 0 0 rows
none_filled to ops cs ws ds size rows e = record {
  size_is = ap length e ∙ empty_length size;
  rest = λ w. ap (λ l. row_at l w ++ in_word (placed_by to ops cs ws ds 0) w) e ∙ ap (λ l. l ++ in_word (placed_by to ops cs ws ds 0) w) (empty_row size w);
}

first_drain : (ds : List ℕ) (n : ℕ) → slice_index_or (drop n ds) 0 0 ≡ slice_index_or ds n 0
first_drain ds zero = refl
first_drain [] (suc n) = refl
first_drain (d ∷ ds) (suc n) = first_drain ds n

drop_none : (k : ℕ) → drop {A = ℕ} k [] ≡ []
drop_none zero = refl
drop_none (suc k) = refl

drop_more : (ds : List ℕ) (n k : ℕ) → drop k (drop n ds) ≡ drop (n + k) ds
drop_more ds zero k = let z : k ≡ 0 + k = omega arith in ap (λ j. drop j ds) z
drop_more [] (suc n) k = drop_none k ∙ sym (drop_none (suc n + k))
drop_more (d ∷ ds) (suc n) k = let z : suc (n + k) ≡ suc n + k = omega arith in drop_more ds n k ∙ ap (λ j. drop j (d ∷ ds)) z

pub filled_more : (to : ℕ → ℕ → ℕ) (ops : List TraceOp) (cs ws ds : List ℕ) (size i splits bound more next : ℕ) (op : TraceOp) (item : Item) (rows later : List (List Item)) →
    i < length ops → op ≡ get_or ops i op → i < length cs → i < length ws → get_or ws i 0 < size →
    item ≡ placed_item to op (get_or cs i 0) (get_or ws i 0) (slice_index_or ds splits 0) bound →
    later ≡ slice_set rows (get_or ws i 0) (row_at rows (get_or ws i 0) ++ item ∷ []) →
    ((drains : List ℕ) → drop more drains ≡ drains_behind op drains) → next ≡ bound_behind op (get_or ws i 0) bound →
    Filled to ops cs ws ds size i splits bound rows → Filled to ops cs ws ds size (i + 1) (splits + more) next later
filled_more to ops cs ws ds size i splits bound more next op item rows later lo is lc lw low item_is put behind next_is f =
    let c = get_or cs i 0 in
    let w = get_or ws i 0 in
    let d = slice_index_or (drop splits ds) 0 0 in
    let x : InWord = record { word = w; item = placed_item to op c w d bound } in
    let tail = placed_by to (drop (i + 1) ops) (drop (i + 1) cs) (drop (i + 1) ws) (drains_behind op (drop splits ds)) (bound_behind op w bound) in
    let here : placed_by to (drop i ops) (drop i cs) (drop i ws) (drop splits ds) bound ≡ x ∷ tail =
    ap (λ l. placed_by to l (drop i cs) (drop i ws) (drop splits ds) bound) (left_at ops i op lo is)
    ∙ ap (λ l. placed_by to (op ∷ drop (i + 1) ops) l (drop i ws) (drop splits ds) bound) (left_from cs i 0 lc)
    ∙ ap (λ l. placed_by to (op ∷ drop (i + 1) ops) (c ∷ drop (i + 1) cs) l (drop splits ds) bound) (left_from ws i 0 lw) in
    let in_rows : w < length rows = subst (λ n. w < n) (sym f.size_is) low in
    let same : item ≡ x.item = item_is ∙ ap (λ n. placed_item to op c w n bound) (sym (first_drain ds splits)) in
    let now = put_one rows x tail (λ v. in_word (placed_by to ops cs ws ds 0) v) in_rows (λ v. ap (λ l. row_at rows v ++ in_word l v) (sym here) ∙ f.rest v) in
    let set : later ≡ slice_set rows w (row_at rows w ++ x.item ∷ []) = put ∙ ap (λ z. slice_set rows w (row_at rows w ++ z ∷ [])) same in
    let tail_is : placed_by to (drop (i + 1) ops) (drop (i + 1) cs) (drop (i + 1) ws) (drop (splits + more) ds) next ≡ tail =
    ap (λ l. placed_by to (drop (i + 1) ops) (drop (i + 1) cs) (drop (i + 1) ws) l next) (sym (drop_more ds splits more) ∙ behind (drop splits ds))
    ∙ ap (λ n. placed_by to (drop (i + 1) ops) (drop (i + 1) cs) (drop (i + 1) ws) (drains_behind op (drop splits ds)) n) next_is in
    record {
      size_is = ap length put ∙ length-set rows w (row_at rows w ++ item ∷ []) ∙ f.size_is;
      rest = λ v. ap (λ l. row_at l v ++ in_word (placed_by to (drop (i + 1) ops) (drop (i + 1) cs) (drop (i + 1) ws) (drop (splits + more) ds) next) v) set
          ∙ ap (λ l. row_at (slice_set rows w (row_at rows w ++ x.item ∷ [])) v ++ in_word l v) tail_is
          ∙ now v;
    }

rows_are : (f : ℕ → List Item) (n b : ℕ) (rows : List (List Item)) → length rows ≡ n → ((w : ℕ) → row_at rows w ≡ f (b + w)) → rows ≡ map f (numbers b n)
rows_are f zero b [] e h = refl
rows_are f zero b (r ∷ rows) e h = absurd (omega arith)
rows_are f (suc n) b [] e h = absurd (omega arith)
rows_are f (suc n) b (r ∷ rows) e h =
    let z : b + 0 ≡ b = omega arith in
    ap (λ l. l ∷ rows) (h 0 ∙ ap f z)
    ∙ ap (λ l. f b ∷ l) (rows_are f n (b + 1) rows (omega arith) (λ w. let k : b + suc w ≡ b + 1 + w = omega arith in h (suc w) ∙ ap f k))

pub all_filled : (m : MixedGraph) (r : Replacement) (i splits bound : ℕ) (rows : List (List Item)) → length r.trace.ops ≤ i → Filled (new_end m r.made) r.trace.ops r.clusters r.words r.drains r.length i splits bound rows → rows ≡ (new_region m r).words
all_filled m r i splits bound rows h f =
    let to = new_end m r.made in
    rows_are (in_word (placed to r.trace.ops r.clusters r.words r.drains [])) r.length 0 rows f.size_is
    (λ w. let z : w ≡ 0 + w = omega arith in
    sym (append-nil (row_at rows w))
    ∙ ap (λ l. row_at rows w ++ in_word (placed_by to l (drop i r.clusters) (drop i r.words) (drop splits r.drains) bound) w) (sym (none_left r.trace.ops i h))
    ∙ f.rest w
    ∙ ap (λ l. in_word l w) (placed_alike to r.trace.ops r.clusters r.words r.drains [] 0 (λ v. sym (le-ltb v 0 (omega arith))))
    ∙ ap (in_word (placed to r.trace.ops r.clusters r.words r.drains [])) z)

pub at_in : (xs : List ℕ) (i : ℕ) → i < length xs → IsIn (get_or xs i 0) xs
at_in [] i h = absurd (omega arith)
at_in (x ∷ xs) zero h = inl refl
at_in (x ∷ xs) (suc i) h = inr (at_in xs i (omega arith))

-- the last of some blocks and one more

last_added : (xs : List ℕ) (x : ℕ) → last_of (xs ++ x ∷ []) ≡ x
last_added [] x = refl
last_added (y ∷ []) x = refl
last_added (y ∷ z ∷ xs) x = last_added (z ∷ xs) x

pub last_more : (xs : List ℕ) (i : ℕ) → i < length xs → get_or xs i 0 ≡ last_of (take (i + 1) xs)
last_more xs i h = sym (ap last_of (take_more xs i 0 h) ∙ last_added (take i xs) (get_or xs i 0))
