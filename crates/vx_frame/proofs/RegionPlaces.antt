-- The lists of the places of all regions have at each word's number where its operations stand.
use Rattle.std.proofs.Common.{◌≡◌, ◌⊎◌, inl, inr, ◌<◌, ◌≤◌, ℕ, zero, suc, ◌+◌, Bool, true, false, Some, None, List, [], ◌∷◌, ◌++◌, length, map, take, slice_get, slice_index_or, slice_set, refl, sym, ap, ◌∙◌, subst, arith, append_assoc, append-nil, length-append}
use Rattle.std.specs.Prelude.{if◌then◌else◌, replicate}
use Rattle.std.specs.List.{filter}
use Rattle.std.proofs.lemmas.Bool.{cases_eq, eq-eqb, ne_eqb}
use Rattle.std.proofs.lemmas.List.{length-map, length-set}
use Rattle.vx_flow.specs.Rows.{row_at}
use Rattle.vx_flow.specs.Walk.{numbers}
use Rattle.vx_flow.proofs.Members.{set_there, set_elsewhere}
use Rattle.vx_mixed.specs.declared.layout.Laid.{Laid}
use Rattle.vx_mixed.specs.declared.layout.VirtualWord.{VirtualWord}
use Rattle.vx_mixed.specs.declared.layout.VirtualWord.TheVariants.{Planned}
use Rattle.vx_mixed.specs.declared.layout.VWords.{VWords}
use Rattle.vx_mixed.specs.LaidSettled.{laid_reads}
use Rattle.vx_layout.specs.Numbered.{is_word_of, words_in, IsNumbered}
use Rattle.vx_target.specs.declared.finished.TracePlaces.{TracePlaces}
use Rattle.vx_slots.specs.declared.program.FunctionPlaces.{FunctionPlaces}
use Rattle.vx_target.specs.Target.{Target, before, word_words}
use Rattle.vx_target.specs.PlacesIn.{regions_before, no_words, places_in}
use Rattle.vx_target.specs.Places.{ArePlaces, plan_place}
use Rattle.vx_frame.specs.Placing.{all_places, functions_begin, functions_end, laid_begin, mark_of, marks_from, places_at, spots_of, standing, starts_from}
use Rattle.vx_frame.specs.Regions.{Noted, all_traces, mark_in, marks_in, rows_of, traced}
use Rattle.vx_slots.specs.Seen.{no_layout, no_places}
use Rattle.vx_frame.proofs.Lengths.{before_same}
use Rattle.vx_frame.proofs.Standing.{place_in}

-- a mark more

pub noted_there : (r w mark : ℕ) (items : List Laid) (old new : List (List ℕ)) → r < length old → new ≡ slice_set old r (row_at old r ++ mark ∷ []) → Noted (Planned r w items) mark old new
noted_there r w mark items old new less e = record {
  size = ap length e ∙ length-set old r (row_at old r ++ mark ∷ []);
  each = λ s low. ap (λ rows. row_at rows s) e ∙ by s (cases_eq r s);
}
  where
    by : (s : ℕ) → (r ≡ s) ⊎ (r ≡ s → ⊥) → row_at (slice_set old r (row_at old r ++ mark ∷ [])) s ≡ row_at old s ++ mark_in s (Planned r w items) mark
    by s (inl q) =
        subst (λ z. row_at (slice_set old r (row_at old r ++ mark ∷ [])) z ≡ row_at old z ++ mark_in z (Planned r w items) mark) q
        (set_there old r (row_at old r ++ mark ∷ []) less ∙ ap (λ b. row_at old r ++ (if b then mark ∷ [] else [])) (sym (eq-eqb r r refl)))
    by s (inr n) =
        set_elsewhere old r (row_at old r ++ mark ∷ []) s (λ q. n (sym q)) ∙ sym (append-nil (row_at old s)) ∙ ap (λ b. row_at old s ++ (if b then mark ∷ [] else [])) (sym (ne_eqb r s n))

-- a word that is of none of the regions
pub noted_beyond : (word : VirtualWord) (mark : ℕ) (rows : List (List ℕ)) → ((r : ℕ) → r < length rows → is_word_of r word ≡ false) → Noted word mark rows rows
noted_beyond word mark rows none = record {
  size = refl;
  each = λ r low. sym (append-nil (row_at rows r)) ∙ ap (λ b. row_at rows r ++ (if b then mark ∷ [] else [])) (sym (none r low));
}

pub noted_past : (r w mark : ℕ) (items : List Laid) (rows : List (List ℕ)) → length rows ≤ r → Noted (Planned r w items) mark rows rows
noted_past r w mark items rows past = noted_beyond (Planned r w items) mark rows (λ s low. ne_eqb r s (λ e. omega arith))

-- the rows of a layout

pub record Notes (marks : List ℕ) (l : VWords) (p : ℕ) (rest : List VirtualWord) (rows : List (List ℕ)) : Type 0 where
  pub size : length rows ≡ l.regions
  pub each : (r : ℕ) → r < l.regions → row_at rows r ++ marks_in marks r p rest ≡ marks_in marks r 0 l.words

empty_row : (n r : ℕ) → row_at (replicate {A = List ℕ} n []) r ≡ []
empty_row zero r = refl
empty_row (suc n) zero = refl
empty_row (suc n) (suc r) = empty_row n r

empty_length : (n : ℕ) → length (replicate {A = List ℕ} n []) ≡ n
empty_length zero = refl
empty_length (suc n) = ap suc (empty_length n)

pub notes_first : (marks : List ℕ) (l : VWords) (rows : List (List ℕ)) (words : List VirtualWord) → rows ≡ replicate l.regions [] → words ≡ l.words → Notes marks l 0 words rows
notes_first marks l rows words e w = record {
  size = ap length e ∙ empty_length l.regions;
  each = λ r low. ap (λ ws. row_at rows r ++ marks_in marks r 0 ws) w ∙ ap (λ z. row_at z r ++ marks_in marks r 0 l.words) e ∙ ap (λ z. z ++ marks_in marks r 0 l.words) (empty_row l.regions r);
}

pub notes_next : (marks : List ℕ) (l : VWords) (p q m : ℕ) (word : VirtualWord) (rest : List VirtualWord) (rows more : List (List ℕ)) → Notes marks l p (word ∷ rest) rows → m ≡ slice_index_or marks p 0 → Noted word m rows more → q ≡ p + 1 → Notes marks l q rest more
notes_next marks l p q m word rest rows more notes is noted e = record {
  size = noted.size ∙ notes.size;
  each = λ r low.
      let below : r < length rows = subst (λ n. r < n) (sym notes.size) low in
      let s : q ≡ suc p = omega arith in
      ap (λ n. row_at more r ++ marks_in marks r n rest) s
      ∙ ap (λ z. z ++ marks_in marks r (suc p) rest) (noted.each r below ∙ ap (λ n. row_at rows r ++ mark_in r word n) is)
      ∙ append_assoc (row_at rows r) (mark_in r word (slice_index_or marks p 0)) (marks_in marks r (suc p) rest)
      ∙ notes.each r low;
}

rows_are : (f : ℕ → List ℕ) (n b : ℕ) (rows : List (List ℕ)) → length rows ≡ n → ((r : ℕ) → r < n → row_at rows r ≡ f (b + r)) → rows ≡ map f (numbers b n)
rows_are f zero b [] e h = refl
rows_are f zero b (r ∷ rows) e h = absurd (omega arith)
rows_are f (suc n) b [] e h = absurd (omega arith)
rows_are f (suc n) b (r ∷ rows) e h =
    let z : b + 0 ≡ b = omega arith in
    ap (λ l. l ∷ rows) (h 0 (omega arith) ∙ ap f z)
    ∙ ap (λ l. f b ∷ l) (rows_are f n (b + 1) rows (omega arith) (λ w less. let k : b + suc w ≡ b + 1 + w = omega arith in h (suc w) (omega arith) ∙ ap f k))

pub notes_are : (marks : List ℕ) (l : VWords) (p : ℕ) (rest : List VirtualWord) (rows : List (List ℕ)) → length rest ≡ 0 → Notes marks l p rest rows → rows ≡ rows_of marks l
notes_are marks l p (word ∷ rest) rows none notes = absurd (omega arith)
notes_are marks l p [] rows none notes =
    rows_are (λ r. marks_in marks r 0 l.words) l.regions 0 rows notes.size
    (λ r low. let z : r ≡ 0 + r = omega arith in sym (append-nil (row_at rows r)) ∙ notes.each r low ∙ ap (λ s. marks_in marks s 0 l.words) z)

-- the lists of all layouts

pub traces_next : (places : List FunctionPlaces) (f g : ℕ) (l : VWords) (rest all : List VWords) (rows : List (List ℕ)) (marks : List ℕ) (regions more : List TracePlaces) →
    regions ++ all_traces places f (l ∷ rest) ≡ all_traces places 0 all → marks ≡ (slice_index_or places f no_places).marks → rows ≡ rows_of marks l → more ≡ regions ++ map traced rows → g ≡ f + 1 → more ++ all_traces places g rest ≡ all_traces places 0 all
traces_next places f g l rest all rows marks regions more h m r e s =
    let z : g ≡ suc f = omega arith in
    let here : map traced rows ≡ map traced (rows_of (slice_index_or places f no_places).marks l) = ap (map traced) (r ∙ ap (λ ms. rows_of ms l) m) in
    ap (λ n. more ++ all_traces places n rest) z
    ∙ ap (λ xs. xs ++ all_traces places (suc f) rest) (e ∙ ap (λ xs. regions ++ xs) here)
    ∙ append_assoc regions (map traced (rows_of (slice_index_or places f no_places).marks l)) (all_traces places (suc f) rest)
    ∙ h

pub traces_are : (places : List FunctionPlaces) (f : ℕ) (all : List VWords) (regions : List TracePlaces) → regions ++ all_traces places f [] ≡ all_traces places 0 all → regions ≡ all_traces places 0 all
traces_are places f all regions h = sym (append-nil regions) ∙ h

-- what stands where in them

numbers_many : (b n : ℕ) → length (numbers b n) ≡ n
numbers_many b zero = refl
numbers_many b (suc n) = ap suc (numbers_many (b + 1) n)

traces_many : (marks : List ℕ) (l : VWords) → length (map traced (rows_of marks l)) ≡ l.regions
traces_many marks l = length-map (rows_of marks l) traced ∙ length-map (numbers 0 l.regions) (λ r. marks_in marks r 0 l.words) ∙ numbers_many 0 l.regions

index_mapped : (f : ℕ → List ℕ) (b n r : ℕ) (rest : List TracePlaces) → r < n → slice_index_or (map traced (map f (numbers b n)) ++ rest) r no_words ≡ traced (f (b + r))
index_mapped f b zero r rest less = absurd (omega arith)
index_mapped f b (suc n) zero rest less = let z : b ≡ b + 0 = omega arith in ap (λ k. traced (f k)) z
index_mapped f b (suc n) (suc r) rest less = let z : b + 1 + r ≡ b + suc r = omega arith in index_mapped f (b + 1) n r rest (omega arith) ∙ ap (λ k. traced (f k)) z

index_behind : (xs ys : List TracePlaces) (n k : ℕ) → length xs ≡ n → slice_index_or (xs ++ ys) (n + k) no_words ≡ slice_index_or ys k no_words
index_behind [] ys n k e = let z : n + k ≡ k = omega arith in ap (λ j. slice_index_or ys j no_words) z
index_behind (x ∷ xs) ys zero k e = absurd (omega arith)
index_behind (x ∷ xs) ys (suc n) k e = let z : suc n + k ≡ suc (n + k) = omega arith in ap (λ j. slice_index_or (x ∷ (xs ++ ys)) j no_words) z ∙ index_behind xs ys n k (omega arith)

all_many : (places : List FunctionPlaces) (k : ℕ) (ls : List VWords) → length (all_traces places k ls) ≡ regions_before ls (length ls)
all_many places k [] = refl
all_many places k (l ∷ ls) =
    let marks = (slice_index_or places k no_places).marks in
    let a = length-append (map traced (rows_of marks l)) (all_traces places (suc k) ls) in
    let b = traces_many marks l in
    let c = all_many places (suc k) ls in
    omega arith

trace_is : (places : List FunctionPlaces) (k : ℕ) (ls : List VWords) (f r : ℕ) → f < length ls → r < (slice_index_or ls f no_layout).regions →
    slice_index_or (all_traces places k ls) (regions_before ls f + r) no_words ≡ traced (marks_in (slice_index_or places (k + f) no_places).marks r 0 (slice_index_or ls f no_layout).words)
trace_is places k [] f r less low = absurd (omega arith)
trace_is places k (l ∷ ls) zero r less low =
    let z : 0 + r ≡ r = omega arith in
    let y : k ≡ k + 0 = omega arith in
    let marks = (slice_index_or places k no_places).marks in
    ap (λ j. slice_index_or (map traced (rows_of marks l) ++ all_traces places (suc k) ls) j no_words) z
    ∙ index_mapped (λ s. marks_in marks s 0 l.words) 0 l.regions r (all_traces places (suc k) ls) low
    ∙ ap (λ s. traced (marks_in marks s 0 l.words)) z
    ∙ ap (λ j. traced (marks_in (slice_index_or places j no_places).marks r 0 l.words)) y
trace_is places k (l ∷ ls) (suc f) r less low =
    let marks = (slice_index_or places k no_places).marks in
    let z : l.regions + regions_before ls f + r ≡ l.regions + (regions_before ls f + r) = omega arith in
    let y : suc k + f ≡ k + suc f = omega arith in
    ap (λ j. slice_index_or (map traced (rows_of marks l) ++ all_traces places (suc k) ls) j no_words) z
    ∙ index_behind (map traced (rows_of marks l)) (all_traces places (suc k) ls) l.regions (regions_before ls f + r) (traces_many marks l)
    ∙ trace_is places (suc k) ls f r (omega arith) low
    ∙ ap (λ j. traced (marks_in (slice_index_or places j no_places).marks r 0 (slice_index_or ls f no_layout).words)) y

-- the marks of a region

taken_length : (marks : List ℕ) (r p : ℕ) (word : VirtualWord) (words : List VirtualWord) (b : Bool) → is_word_of r word ≡ b → length (marks_in marks r (suc p) words) ≡ words_in r words → length (marks_in marks r p (word ∷ words)) ≡ words_in r (word ∷ words)
taken_length marks r p word words true e h =
    ap (λ c. length ((if c then slice_index_or marks p 0 ∷ [] else []) ++ marks_in marks r (suc p) words)) e ∙ ap suc h ∙ sym (ap (λ c. length (if c then word ∷ filter (is_word_of r) words else filter (is_word_of r) words)) e)
taken_length marks r p word words false e h =
    ap (λ c. length ((if c then slice_index_or marks p 0 ∷ [] else []) ++ marks_in marks r (suc p) words)) e ∙ h ∙ sym (ap (λ c. length (if c then word ∷ filter (is_word_of r) words else filter (is_word_of r) words)) e)

marks_many : (marks : List ℕ) (r p : ℕ) (words : List VirtualWord) → length (marks_in marks r p words) ≡ words_in r words
marks_many marks r p [] = refl
marks_many marks r p (word ∷ words) = taken_length marks r p word words (is_word_of r word) refl (marks_many marks r (suc p) words)

-- behind as many marks as words of the region stand before a place is the mark of its word
mark_get : (marks : List ℕ) (r p i w : ℕ) (items : List Laid) (words : List VirtualWord) → slice_get words i ≡ Some (Planned r w items) → slice_get (marks_in marks r p words) (words_in r (take i words)) ≡ Some (slice_index_or marks (p + i) 0)
mark_get marks r p i w items [] e = absurd (cc)
mark_get marks r p zero w items (word ∷ words) e =
    let is : word ≡ Planned r w items = cc in
    let t : is_word_of r word ≡ true = ap (is_word_of r) is ∙ eq-eqb r r refl in
    let z : p ≡ p + 0 = omega arith in
    ap (λ c. slice_get ((if c then slice_index_or marks p 0 ∷ [] else []) ++ marks_in marks r (suc p) words) 0) t ∙ ap (λ k. Some (slice_index_or marks k 0)) z
mark_get marks r p (suc i) w items (word ∷ words) e =
    let y : suc p + i ≡ p + suc i = omega arith in
    by (is_word_of r word) refl ∙ mark_get marks r (suc p) i w items words e ∙ ap (λ k. Some (slice_index_or marks k 0)) y
  where
    by : (b : Bool) → is_word_of r word ≡ b → slice_get (marks_in marks r p (word ∷ words)) (words_in r (take (suc i) (word ∷ words))) ≡ slice_get (marks_in marks r (suc p) words) (words_in r (take i words))
    by true t =
        ap (λ c. slice_get ((if c then slice_index_or marks p 0 ∷ [] else []) ++ marks_in marks r (suc p) words) (length (if c then word ∷ filter (is_word_of r) (take i words) else filter (is_word_of r) (take i words)))) t
    by false t =
        ap (λ c. slice_get ((if c then slice_index_or marks p 0 ∷ [] else []) ++ marks_in marks r (suc p) words) (length (if c then word ∷ filter (is_word_of r) (take i words) else filter (is_word_of r) (take i words)))) t

-- a mark is where the operations of a planned word stand

plans_mark : (T : Target) (f p q : ℕ) (words : List VirtualWord) (i r w : ℕ) (items : List Laid) → slice_get words i ≡ Some (Planned r w items) → slice_index_or (marks_from T f q p words) i 0 ≡ slice_index_or (starts_from T f q p words) i 0 + length (before T f (laid_reads items))
plans_mark T f p q [] i r w items h = absurd (let e : None ≡ Some (Planned r w items) = h in cc)
plans_mark T f p q (word ∷ words) zero r w items h =
    let k : Some word ≡ Some (Planned r w items) = h in
    let e : word ≡ Planned r w items = cc in
    ap (mark_of T f q p) e
plans_mark T f p q (word ∷ words) (suc i) r w items h = plans_mark T f (suc p) (q + length (word_words T f p word)) words i r w items h

module _ (T : Target) (main n : ℕ) where
  abbrev Places : List FunctionPlaces
  Places = all_places T (functions_begin T main) 0 n

  abbrev U : Target
  U = standing T main n

  plan_mark : (f p r w : ℕ) (items : List Laid) → f < n → slice_get (T.layout f).words p ≡ Some (Planned r w items) → slice_index_or (slice_index_or Places f no_places).marks p 0 ≡ plan_place U f p items
  plan_mark f p r w items lt h =
      let q = functions_begin T main in
      let s = spots_of Places (functions_end T main n) in
      let k = place_in T q 0 n f lt in
      let z : 0 + f ≡ f = omega arith in
      let x : slice_index_or Places f no_places ≡ places_at T f k.0 = k.1 ∙ ap (λ j. places_at T j k.0) z in
      ap (λ y. slice_index_or y.marks p 0) x
      ∙ plans_mark T f 0 (laid_begin T f k.0) (T.layout f).words p r w items h
      ∙ ap (λ y. slice_index_or y.starts p 0 + length (before T f (laid_reads items))) (sym x)
      ∙ ap (λ ws. slice_index_or (slice_index_or Places f no_places).starts p 0 + length ws) (sym (before_same T s f (laid_reads items)))

  pub are_places : (ls : List VWords) → length ls ≡ n → ((f : ℕ) → T.layout f ≡ slice_index_or ls f no_layout) → ((f : ℕ) → f < n → IsNumbered (T.layout f)) → ArePlaces U ls (all_traces Places 0 ls)
  are_places ls many layouts numbered = record {
    regions = all_many Places 0 ls;
    words = λ f r lt low. ap length (in_region f r lt low) ∙ marks_many (slice_index_or Places f no_places).marks r 0 (T.layout f).words;
    each = λ f p r w items lt h.
        let below : f < n = subst (λ k. f < k) many lt in
        let number = numbered f below in
        let z : 0 + p ≡ p = omega arith in
        ap (λ xs. slice_get xs w) (in_region f r lt (number.region p r w items h))
        ∙ ap (slice_get (marks_in (slice_index_or Places f no_places).marks r 0 (T.layout f).words)) (number.word p r w items h)
        ∙ mark_get (slice_index_or Places f no_places).marks r 0 p w items (T.layout f).words h
        ∙ ap (λ k. Some (slice_index_or (slice_index_or Places f no_places).marks k 0)) z
        ∙ ap Some (plan_mark f p r w items below h);
  }
    where
      in_region : (f r : ℕ) → f < length ls → r < (T.layout f).regions → places_in (all_traces Places 0 ls) ls f r ≡ marks_in (slice_index_or Places f no_places).marks r 0 (T.layout f).words
      in_region f r lt low =
          let z : 0 + f ≡ f = omega arith in
          let low' : r < (slice_index_or ls f no_layout).regions = subst (λ (l : VWords). r < l.regions) (layouts f) low in
          ap (λ (x : TracePlaces). x.places) (trace_is Places 0 ls f r lt low')
          ∙ ap (λ k. marks_in (slice_index_or Places k no_places).marks r 0 (slice_index_or ls f no_layout).words) z
          ∙ ap (λ (l : VWords). marks_in (slice_index_or Places f no_places).marks r 0 l.words) (sym (layouts f))
