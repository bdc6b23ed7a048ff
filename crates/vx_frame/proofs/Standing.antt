-- The places that were found are those at which the words stand.
use Rattle.std.proofs.Common.{◌≡◌, ◌⊎◌, inl, inr, ◌<◌, ◌≤◌, ℕ, zero, suc, ◌+◌, Option, Some, None, List, [], ◌∷◌, ◌++◌, length, slice_get, slice_index_or, refl, sym, ap, subst, ◌∙◌, arith, length-append}
use Rattle.std.specs.Prelude.{if◌then◌else◌}
use Rattle.vx_flow.specs.declared.graph.Operand.{Operand}
use Rattle.vx_mixed.specs.declared.layout.Laid.{Laid}
use Rattle.vx_mixed.specs.declared.layout.Laid.TheVariants.{Plain, Split}
use Rattle.vx_mixed.specs.declared.layout.VirtualWord.{VirtualWord}
use Rattle.vx_mixed.specs.declared.layout.VirtualWord.TheVariants.{Planned, Drain, Transfer, Choice, Call as Calls, Return as Returns, Ends}
use Rattle.vx_mixed.specs.LaidSettled.{laid_reads, laid_writes, laid_ways}
use Rattle.vx_mixed.specs.Settled.{NoTwice}
use Rattle.vx_flow.specs.Effects.{IsIn}
use Rattle.vx_slots.specs.declared.program.FunctionPlaces.{FunctionPlaces}
use Rattle.vx_slots.specs.declared.program.SplitLanding.{SplitLanding}
use Rattle.vx_target.specs.Target.{Target, one as single, slotted, word_words, call_words, entry_words, start_words}
use Rattle.vx_target.specs.Placed.{Labelled, Depth, PlacedAt, laid_pieces, landing_of, item_landings, word_landings, landing_pieces, function_pieces, functions_pieces, all_pieces, words_of, IsPlaced}
use Rattle.std.proofs.lemmas.Bool.{cases_lt, eq-eqb, ne_eqb}
use Rattle.vx_frame.specs.Placing.{Spots, at_spots, WaysDiffer, starts_from, word_spots, landings_from, mark_of, marks_from, laid_begin, landings_begin, places_at, all_places, spots_of, functions_begin, functions_end, standing}
use Rattle.vx_slots.specs.Seen.{landed, no_places}
use Rattle.vx_carry.specs.Landings.{item_spots}
use Rattle.vx_base.specs.declared.outcome.Trap.TheVariants.{Depth as ByDepth}
use Rattle.vx_isa.specs.declared.operation.Operation.TheVariants.{EndByTrap}
use Rattle.vx_isa.specs.declared.program.Word.{Word}
use Rattle.vx_frame.proofs.Emitting.{words_of_append}
use Rattle.vx_frame.proofs.Lengths.{before_same, landing_of_length, call_length, entry_length, start_length, word_length, word_landings_length}

placed_append : (T : Target) (q : ℕ) (xs ys : List Labelled) → PlacedAt T q xs → PlacedAt T (q + length (words_of xs)) ys → PlacedAt T q (xs ++ ys)
placed_append T q [] ys a b = let z : q + 0 ≡ q = omega arith in subst (λ n. PlacedAt T n ys) z b
placed_append T q (x ∷ xs) ys a b =
    let l = length-append x.words (words_of xs) in
    let z : q + length (x.words ++ words_of xs) ≡ q + length x.words + length (words_of xs) = omega arith in
    (a.0, placed_append T (q + length x.words) xs ys a.1 (subst (λ n. PlacedAt T n ys) z b))

laid_placed : (T : Target) (s : Spots) (f p q : ℕ) (words : List VirtualWord) → ((i : ℕ) → s.starts f (p + i) ≡ slice_index_or (starts_from T f q p words) i 0) → PlacedAt (at_spots T s) q (laid_pieces (at_spots T s) f p words)
laid_placed T s f p q [] h = let z : p ≡ p + 0 = omega arith in (ap (s.starts f) z ∙ h 0, tt)
laid_placed T s f p q (word ∷ words) h =
    let z : p ≡ p + 0 = omega arith in
    let n = q + length (word_words T f p word) in
    let l : n ≡ q + length (word_words (at_spots T s) f p word) = ap (λ k. q + k) (sym (word_length T s f p word)) in
    (ap (s.starts f) z ∙ h 0, subst (λ k. PlacedAt (at_spots T s) k (laid_pieces (at_spots T s) f (suc p) words)) l (laid_placed T s f (suc p) n words (λ i. let y : suc p + i ≡ p + suc i = omega arith in ap (s.starts f) y ∙ h (suc i))))

-- landings

landed_here : (to q : ℕ) (xs : List SplitLanding) → landed (record { to = to; at = q } ∷ xs) to ≡ q
landed_here to q xs = ap (λ b. if b then q else landed xs to) (eq-eqb to to refl)

landed_past : (to q other : ℕ) (xs : List SplitLanding) → (to ≡ other → ⊥) → landed (record { to = to; at = q } ∷ xs) other ≡ landed xs other
landed_past to q other xs differ = ap (λ b. if b then q else landed xs other) (ne_eqb to other differ)

landing_of_placed : (T : Target) (f p q : ℕ) (items : List Laid) (scratch : List ℕ) (to : ℕ) → T.landing f p to ≡ q → PlacedAt T q (landing_of T f p items scratch to)
landing_of_placed T f p q items [] to h = tt
landing_of_placed T f p q items (v ∷ vs) to h = (h, tt)

-- each split that is left has its landing where it was noted
item_landings_placed : (T : Target) (s : Spots) (f p q : ℕ) (items rest : List Laid) → ((to : ℕ) → IsIn to (laid_ways rest) → s.landing f p to ≡ landed (item_spots T f p q items rest) to) → NoTwice (laid_ways rest) → PlacedAt (at_spots T s) q (item_landings (at_spots T s) f p items rest)
item_landings_placed T s f p q items [] h differ = tt
item_landings_placed T s f p q items (Plain op cluster ∷ rest) h differ = item_landings_placed T s f p q items rest h differ
item_landings_placed T s f p q items (Split test y to ∷ rest) h differ =
    let U = at_spots T s in
    let scratch = slotted T f (laid_writes items) in
    let here = landing_of U f p items scratch to in
    let n = q + length (words_of (landing_of T f p items scratch to)) in
    let more : List SplitLanding = item_spots T f p n items rest in
    let l : n ≡ q + length (words_of here) = ap (λ k. q + k) (sym (landing_of_length T s f p items scratch to)) in
    let first : s.landing f p to ≡ q = h to (inl refl) ∙ landed_here to q more in
    let next : PlacedAt U n (item_landings U f p items rest) = item_landings_placed T s f p n items rest (λ other i. h other (inr i) ∙ landed_past to q other more (λ e. differ.0 (subst (λ k. IsIn k (laid_ways rest)) (sym e) i))) differ.1 in
    placed_append U q here (item_landings U f p items rest) (landing_of_placed U f p q items scratch to first) (subst (λ k. PlacedAt U k (item_landings U f p items rest)) l next)

word_landings_placed : (T : Target) (s : Spots) (f p q : ℕ) (word : VirtualWord) → ((to : ℕ) → s.landing f p to ≡ landed (word_spots T f p q word) to) → ((r w : ℕ) (items : List Laid) → word ≡ Planned r w items → NoTwice (laid_ways items)) → PlacedAt (at_spots T s) q (word_landings (at_spots T s) f p word)
word_landings_placed T s f p q (Planned r w items) h differ = item_landings_placed T s f p q items items (λ to i. h to) (differ r w items refl)
word_landings_placed T s f p q (Drain n) h differ = tt
word_landings_placed T s f p q (Transfer to) h differ = tt
word_landings_placed T s f p q (Choice test to) h differ = tt
word_landings_placed T s f p q (Calls g arguments result) h differ = tt
word_landings_placed T s f p q (Returns x) h differ = tt
word_landings_placed T s f p q (Ends k) h differ = tt

landings_placed : (T : Target) (s : Spots) (f p q : ℕ) (words : List VirtualWord) → ((i to : ℕ) → s.landing f (p + i) to ≡ landed (slice_index_or (landings_from T f q p words) i []) to) → WaysDiffer words → PlacedAt (at_spots T s) q (landing_pieces (at_spots T s) f p words)
landings_placed T s f p q [] h differ = tt
landings_placed T s f p q (word ∷ words) h differ =
    let U = at_spots T s in
    let z : p ≡ p + 0 = omega arith in
    let here = words_of (word_landings T f p word) in
    let l : q + length here ≡ q + length (words_of (word_landings U f p word)) = ap (λ k. q + k) (sym (word_landings_length T s f p word)) in
    let next : PlacedAt U (q + length here) (landing_pieces U f (suc p) words) = landings_placed T s f (suc p) (q + length here) words (λ i to. let y : suc p + i ≡ p + suc i = omega arith in ap (λ k. s.landing f k to) y ∙ h (suc i) to) (λ i r w items e. differ (suc i) r w items e) in
    placed_append U q (word_landings U f p word) (landing_pieces U f (suc p) words)
    (word_landings_placed T s f p q word (λ to. ap (λ k. s.landing f k to) z ∙ h 0 to) (λ r w items e. differ 0 r w items (ap Some e)))
    (subst (λ k. PlacedAt U k (landing_pieces U f (suc p) words)) l next)

-- functions

laid_length : (T : Target) (s : Spots) (f p : ℕ) (words : List VirtualWord) → length (words_of (laid_pieces (at_spots T s) f p words)) ≡ length (words_of (laid_pieces T f p words))
laid_length T s f p [] = refl
laid_length T s f p (word ∷ words) =
    let U = at_spots T s in
    let a = length-append (word_words U f p word) (words_of (laid_pieces U f (suc p) words)) in
    let b = length-append (word_words T f p word) (words_of (laid_pieces T f (suc p) words)) in
    let c = word_length T s f p word in
    let d = laid_length T s f (suc p) words in
    omega arith

landings_length : (T : Target) (s : Spots) (f p : ℕ) (words : List VirtualWord) → length (words_of (landing_pieces (at_spots T s) f p words)) ≡ length (words_of (landing_pieces T f p words))
landings_length T s f p [] = refl
landings_length T s f p (word ∷ words) =
    let U = at_spots T s in
    let x = ap length (words_of_append (word_landings U f p word) (landing_pieces U f (suc p) words)) in
    let y = ap length (words_of_append (word_landings T f p word) (landing_pieces T f (suc p) words)) in
    let a = length-append (words_of (word_landings U f p word)) (words_of (landing_pieces U f (suc p) words)) in
    let b = length-append (words_of (word_landings T f p word)) (words_of (landing_pieces T f (suc p) words)) in
    let c = word_landings_length T s f p word in
    let d = landings_length T s f (suc p) words in
    omega arith

function_length : (T : Target) (s : Spots) (f : ℕ) → length (words_of (function_pieces (at_spots T s) f)) ≡ length (words_of (function_pieces T f))
function_length T s f =
    let U = at_spots T s in
    let ws = (T.layout f).words in
    let x = ap length (words_of_append (laid_pieces U f 0 ws) (landing_pieces U f 0 ws)) in
    let y = ap length (words_of_append (laid_pieces T f 0 ws) (landing_pieces T f 0 ws)) in
    let a = length-append (words_of (laid_pieces U f 0 ws)) (words_of (landing_pieces U f 0 ws)) in
    let b = length-append (words_of (laid_pieces T f 0 ws)) (words_of (landing_pieces T f 0 ws)) in
    let c = laid_length T s f 0 ws in
    let d = landings_length T s f 0 ws in
    let e = entry_length T s f in
    let g = length-append (entry_words U f) (words_of (laid_pieces U f 0 ws ++ landing_pieces U f 0 ws)) in
    let k = length-append (entry_words T f) (words_of (laid_pieces T f 0 ws ++ landing_pieces T f 0 ws)) in
    omega arith

functions_length : (T : Target) (s : Spots) (f n : ℕ) → length (words_of (functions_pieces (at_spots T s) f n)) ≡ length (words_of (functions_pieces T f n))
functions_length T s f zero = refl
functions_length T s f (suc n) =
    let U = at_spots T s in
    let x = ap length (words_of_append (function_pieces U f) (functions_pieces U (suc f) n)) in
    let y = ap length (words_of_append (function_pieces T f) (functions_pieces T (suc f) n)) in
    let a = length-append (words_of (function_pieces U f)) (words_of (functions_pieces U (suc f) n)) in
    let b = length-append (words_of (function_pieces T f)) (words_of (functions_pieces T (suc f) n)) in
    let c = function_length T s f in
    let d = functions_length T s (suc f) n in
    omega arith

-- the places of a function are those of a record
record IsSpot (s : Spots) (f : ℕ) (x : FunctionPlaces) : Type 0 where
  pub entry : s.entry f ≡ x.entry
  pub starts : (p : ℕ) → s.starts f p ≡ slice_index_or x.starts p 0
  pub landing : (p to : ℕ) → s.landing f p to ≡ landed (slice_index_or x.landings p []) to
  pub back : (p : ℕ) → s.back f p ≡ slice_index_or x.marks p 0

function_placed : (T : Target) (s : Spots) (f q : ℕ) → IsSpot s f (places_at T f q) → WaysDiffer (T.layout f).words → PlacedAt (at_spots T s) q (function_pieces (at_spots T s) f)
function_placed T s f q h differ =
    let U = at_spots T s in
    let ws = (T.layout f).words in
    let zero_first : (i : ℕ) → 0 + i ≡ i = λ i. omega arith in
    let laid : PlacedAt U (laid_begin T f q) (laid_pieces U f 0 ws) = laid_placed T s f 0 (laid_begin T f q) ws (λ i. ap (s.starts f) (zero_first i) ∙ h.starts i) in
    let arrived : PlacedAt U (landings_begin T f q) (landing_pieces U f 0 ws) = landings_placed T s f 0 (landings_begin T f q) ws (λ i to. ap (λ k. s.landing f k to) (zero_first i) ∙ h.landing i to) differ in
    let a : laid_begin T f q + length (words_of (laid_pieces T f 0 ws)) ≡ laid_begin T f q + length (words_of (laid_pieces U f 0 ws)) = ap (λ k. laid_begin T f q + k) (sym (laid_length T s f 0 ws)) in
    let both : PlacedAt U (laid_begin T f q) (laid_pieces U f 0 ws ++ landing_pieces U f 0 ws) = placed_append U (laid_begin T f q) (laid_pieces U f 0 ws) (landing_pieces U f 0 ws) laid (subst (λ k. PlacedAt U k (landing_pieces U f 0 ws)) a arrived) in
    let e : laid_begin T f q ≡ q + length (entry_words U f) = ap (λ k. q + k) (sym (entry_length T s f)) in
    (h.entry, subst (λ k. PlacedAt U k (laid_pieces U f 0 ws ++ landing_pieces U f 0 ws)) e both)

functions_placed : (T : Target) (s : Spots) (q f n : ℕ) → ((i : ℕ) → i < n → IsSpot s (f + i) (slice_index_or (all_places T q f n) i no_places)) → ((i : ℕ) → i < n → WaysDiffer (T.layout (f + i)).words) → PlacedAt (at_spots T s) q (functions_pieces (at_spots T s) f n)
functions_placed T s q f zero h differ = tt
functions_placed T s q f (suc n) h differ =
    let U = at_spots T s in
    let z : f + 0 ≡ f = omega arith in
    let first : IsSpot s f (places_at T f q) = subst (λ k. IsSpot s k (places_at T f q)) z (h 0 (omega arith)) in
    let first_differ : WaysDiffer (T.layout f).words = subst (λ k. WaysDiffer (T.layout k).words) z (differ 0 (omega arith)) in
    let l : q + length (words_of (function_pieces T f)) ≡ q + length (words_of (function_pieces U f)) = ap (λ k. q + k) (sym (function_length T s f)) in
    let rest : PlacedAt U (q + length (words_of (function_pieces T f))) (functions_pieces U (suc f) n) = functions_placed T s (q + length (words_of (function_pieces T f))) (suc f) n (λ i lt. let y : f + suc i ≡ suc f + i = omega arith in subst (λ k. IsSpot s k (slice_index_or (all_places T (q + length (words_of (function_pieces T f))) (suc f) n) i no_places)) y (h (suc i) (omega arith))) (λ i lt. let y : f + suc i ≡ suc f + i = omega arith in subst (λ k. WaysDiffer (T.layout k).words) y (differ (suc i) (omega arith))) in
    placed_append U q (function_pieces U f) (functions_pieces U (suc f) n) (function_placed T s f q first first_differ) (subst (λ k. PlacedAt U k (functions_pieces U (suc f) n)) l rest)

-- a program

pub program_placed : (T : Target) (main n : ℕ) → ((f : ℕ) → f < n → WaysDiffer (T.layout f).words) → PlacedAt (standing T main n) 0 (all_pieces (standing T main n) main n)
program_placed T main n differ =
    let q = functions_begin T main in
    let s = spots_of (all_places T q 0 n) (functions_end T main n) in
    let U = at_spots T s in
    let zero_first : (i : ℕ) → i ≡ 0 + i = λ i. omega arith in
    let functions : PlacedAt U q (functions_pieces U 0 n) = functions_placed T s q 0 n (λ i lt. subst (λ k. IsSpot s k (slice_index_or (all_places T q 0 n) i no_places)) (zero_first i) (record { entry = refl; starts = λ p. refl; landing = λ p to. refl; back = λ p. refl })) (λ i lt. subst (λ k. WaysDiffer (T.layout k).words) (zero_first i) (differ i lt)) in
    let trap : functions_end T main n ≡ q + length (words_of (functions_pieces U 0 n)) = ap (λ k. q + k) (sym (functions_length T s 0 n)) in
    let begin : q ≡ 0 + length (start_words U main) = (let a = start_length T s main in omega arith) in
    (refl, subst (λ k. PlacedAt U k (functions_pieces U 0 n ++ record { label = Depth; words = one_word } ∷ [])) begin (placed_append U q (functions_pieces U 0 n) (record { label = Depth; words = one_word } ∷ []) functions (trap, tt)))
  where
    one_word : List Word
    one_word = single (EndByTrap ByDepth) ∷ []

-- calls

calls_back : (T : Target) (f p q : ℕ) (words : List VirtualWord) (i g : ℕ) (arguments : List Operand) (result : Option ℕ) → slice_get words i ≡ Some (Calls g arguments result) → slice_index_or (marks_from T f q p words) i 0 ≡ slice_index_or (starts_from T f q p words) i 0 + length (call_words T f (p + i) g arguments)
calls_back T f p q [] i g arguments result h = absurd (let e : None ≡ Some (Calls g arguments result) = h in cc)
calls_back T f p q (word ∷ words) zero g arguments result h =
    let k : Some word ≡ Some (Calls g arguments result) = h in
    let e : word ≡ Calls g arguments result = cc in
    let z : p ≡ p + 0 = omega arith in
    subst (λ w. mark_of T f q p w ≡ q + length (call_words T f (p + 0) g arguments)) (sym e) (ap (λ j. q + length (call_words T f j g arguments)) z)
calls_back T f p q (word ∷ words) (suc i) g arguments result h =
    let y : suc p + i ≡ p + suc i = omega arith in
    calls_back T f (suc p) (q + length (word_words T f p word)) words i g arguments result h ∙ ap (λ j. slice_index_or (starts_from T f (q + length (word_words T f p word)) (suc p) words) i 0 + length (call_words T f j g arguments)) y

pub place_in : (T : Target) (q f n i : ℕ) → i < n → (k : ℕ) × (slice_index_or (all_places T q f n) i no_places ≡ places_at T (f + i) k)
place_in T q f zero i lt = absurd (omega arith)
place_in T q f (suc n) zero lt = let z : f ≡ f + 0 = omega arith in (q, ap (λ j. places_at T j q) z)
place_in T q f (suc n) (suc i) lt =
    let r = place_in T (q + length (words_of (function_pieces T f))) (suc f) n i (omega arith) in
    let y : suc f + i ≡ f + suc i = omega arith in
    (r.0, r.1 ∙ ap (λ j. places_at T j r.0) y)

one_back : (T : Target) (main n f p g : ℕ) (arguments : List Operand) (result : Option ℕ) → f < n → slice_get (T.layout f).words p ≡ Some (Calls g arguments result) → (standing T main n).back f p ≡ (standing T main n).starts f p + length (call_words (standing T main n) f p g arguments)
one_back T main n f p g arguments result lt h =
    let q = functions_begin T main in
    let s = spots_of (all_places T q 0 n) (functions_end T main n) in
    let r = place_in T q 0 n f lt in
    let z : 0 + f ≡ f = omega arith in
    let x : slice_index_or (all_places T q 0 n) f no_places ≡ places_at T f r.0 = r.1 ∙ ap (λ j. places_at T j r.0) z in
    let first : 0 + p ≡ p = omega arith in
    let c = calls_back T f 0 (laid_begin T f r.0) (T.layout f).words p g arguments result h in
    ap (λ y. slice_index_or y.marks p 0) x ∙ c
    ∙ ap (λ y. slice_index_or y.starts p 0 + length (call_words T f (0 + p) g arguments)) (sym x)
    ∙ ap (λ j. slice_index_or (slice_index_or (all_places T q 0 n) f no_places).starts p 0 + length (call_words T f j g arguments)) first
    ∙ ap (λ k. slice_index_or (slice_index_or (all_places T q 0 n) f no_places).starts p 0 + k) (sym (call_length T s f p g arguments))

pub program_stands : (T : Target) (main n : ℕ) (words : List Word) → ((f : ℕ) → f < n → WaysDiffer (T.layout f).words) → ((f : ℕ) → n ≤ f → (T.layout f).words ≡ []) → words ≡ words_of (all_pieces (standing T main n) main n) → IsPlaced (standing T main n) main n words
program_stands T main n words differ none is = record { is = is; places = program_placed T main n differ; backs = λ f p g arguments result h. by f p g arguments result h (cases_lt f n) }
  where
    by : (f p g : ℕ) (arguments : List Operand) (result : Option ℕ) → slice_get (T.layout f).words p ≡ Some (Calls g arguments result) → (f < n) ⊎ (n ≤ f) → (standing T main n).back f p ≡ (standing T main n).starts f p + length (call_words (standing T main n) f p g arguments)
    by f p g arguments result h (inl lt) = one_back T main n f p g arguments result lt h
    by f p g arguments result h (inr ge) = absurd (let e : slice_get [] p ≡ Some (Calls g arguments result) = subst (λ xs. slice_get xs p ≡ Some (Calls g arguments result)) (none f ge) h in cc)

-- a second pass over the places that the first one found
pub second_pass : (T U : Target) (main n trap : ℕ) (places : List FunctionPlaces) (words : List Word) → ((f : ℕ) → f < n → WaysDiffer (T.layout f).words) → ((f : ℕ) → n ≤ f → (T.layout f).words ≡ []) → places ≡ all_places T (functions_begin T main) 0 n → trap ≡ functions_end T main n → U ≡ at_spots T (spots_of places trap) → words ≡ words_of (all_pieces U main n) → IsPlaced (standing T main n) main n words
second_pass T U main n trap places words differ none a b u w =
    program_stands T main n words differ none (w ∙ ap (λ V. words_of (all_pieces V main n)) u ∙ ap (λ xs. words_of (all_pieces (at_spots T (spots_of xs trap)) main n)) a ∙ ap (λ k. words_of (all_pieces (at_spots T (spots_of (all_places T (functions_begin T main) 0 n) k)) main n)) b)

-- a second pass finds the same places

starts_same : (T : Target) (s : Spots) (f q p : ℕ) (words : List VirtualWord) → starts_from (at_spots T s) f q p words ≡ starts_from T f q p words
starts_same T s f q p [] = refl
starts_same T s f q p (word ∷ words) =
    ap (λ k. q ∷ starts_from (at_spots T s) f (q + k) (suc p) words) (word_length T s f p word)
    ∙ ap (λ xs. q ∷ xs) (starts_same T s f (q + length (word_words T f p word)) (suc p) words)

items_found : (T : Target) (s : Spots) (f p q : ℕ) (items rest : List Laid) → item_spots (at_spots T s) f p q items rest ≡ item_spots T f p q items rest
items_found T s f p q items [] = refl
items_found T s f p q items (Plain op cluster ∷ rest) = items_found T s f p q items rest
items_found T s f p q items (Split test y to ∷ rest) =
    let scratch = slotted T f (laid_writes items) in
    let here : SplitLanding = record { to = to; at = q } in
    ap (λ k. here ∷ item_spots (at_spots T s) f p (q + k) items rest) (landing_of_length T s f p items scratch to)
    ∙ ap (λ xs. here ∷ xs) (items_found T s f p (q + length (words_of (landing_of T f p items scratch to))) items rest)

found_there : (T : Target) (s : Spots) (f p q : ℕ) (word : VirtualWord) → word_spots (at_spots T s) f p q word ≡ word_spots T f p q word
found_there T s f p q (Planned r w items) = items_found T s f p q items items
found_there T s f p q (Drain n) = refl
found_there T s f p q (Transfer to) = refl
found_there T s f p q (Choice test to) = refl
found_there T s f p q (Calls g arguments result) = refl
found_there T s f p q (Returns x) = refl
found_there T s f p q (Ends k) = refl

found_landings : (T : Target) (s : Spots) (f q p : ℕ) (words : List VirtualWord) → landings_from (at_spots T s) f q p words ≡ landings_from T f q p words
found_landings T s f q p [] = refl
found_landings T s f q p (word ∷ words) =
    let U = at_spots T s in
    ap (λ xs. xs ∷ landings_from U f (q + length (words_of (word_landings U f p word))) (suc p) words) (found_there T s f p q word)
    ∙ ap (λ k. word_spots T f p q word ∷ landings_from U f (q + k) (suc p) words) (word_landings_length T s f p word)
    ∙ ap (λ xs. word_spots T f p q word ∷ xs) (found_landings T s f (q + length (words_of (word_landings T f p word))) (suc p) words)

mark_same : (T : Target) (s : Spots) (f q p : ℕ) (word : VirtualWord) → mark_of (at_spots T s) f q p word ≡ mark_of T f q p word
mark_same T s f q p (Planned r w items) = ap (λ xs. q + length xs) (before_same T s f (laid_reads items))
mark_same T s f q p (Drain n) = refl
mark_same T s f q p (Transfer to) = refl
mark_same T s f q p (Choice test to) = refl
mark_same T s f q p (Calls g arguments result) = ap (λ k. q + k) (call_length T s f p g arguments)
mark_same T s f q p (Returns x) = refl
mark_same T s f q p (Ends k) = refl

marks_same : (T : Target) (s : Spots) (f q p : ℕ) (words : List VirtualWord) → marks_from (at_spots T s) f q p words ≡ marks_from T f q p words
marks_same T s f q p [] = refl
marks_same T s f q p (word ∷ words) =
    let U = at_spots T s in
    ap (λ m. m ∷ marks_from U f (q + length (word_words U f p word)) (suc p) words) (mark_same T s f q p word)
    ∙ ap (λ k. mark_of T f q p word ∷ marks_from U f (q + k) (suc p) words) (word_length T s f p word)
    ∙ ap (λ xs. mark_of T f q p word ∷ xs) (marks_same T s f (q + length (word_words T f p word)) (suc p) words)

places_same : (T : Target) (s : Spots) (f q : ℕ) → places_at (at_spots T s) f q ≡ places_at T f q
places_same T s f q =
    let U = at_spots T s in
    let ws = (T.layout f).words in
    let b : laid_begin U f q ≡ laid_begin T f q = ap (λ k. q + k) (entry_length T s f) in
    let l : landings_begin U f q ≡ landings_begin T f q = ap (λ k. k + length (words_of (laid_pieces U f 0 ws))) b ∙ ap (λ k. laid_begin T f q + k) (laid_length T s f 0 ws) in
    let starts : starts_from U f (laid_begin U f q) 0 ws ≡ starts_from T f (laid_begin T f q) 0 ws = ap (λ k. starts_from U f k 0 ws) b ∙ starts_same T s f (laid_begin T f q) 0 ws in
    let landings : landings_from U f (landings_begin U f q) 0 ws ≡ landings_from T f (landings_begin T f q) 0 ws = ap (λ k. landings_from U f k 0 ws) l ∙ found_landings T s f (landings_begin T f q) 0 ws in
    let marks : marks_from U f (laid_begin U f q) 0 ws ≡ marks_from T f (laid_begin T f q) 0 ws = ap (λ k. marks_from U f k 0 ws) b ∙ marks_same T s f (laid_begin T f q) 0 ws in
    λ i. record { entry = q; starts = starts i; landings = landings i; marks = marks i }

all_same : (T : Target) (s : Spots) (q f n : ℕ) → all_places (at_spots T s) q f n ≡ all_places T q f n
all_same T s q f zero = refl
all_same T s q f (suc n) =
    let U = at_spots T s in
    ap (λ x. x ∷ all_places U (q + length (words_of (function_pieces U f))) (suc f) n) (places_same T s f q)
    ∙ ap (λ k. places_at T f q ∷ all_places U (q + k) (suc f) n) (function_length T s f)
    ∙ ap (λ xs. places_at T f q ∷ xs) (all_same T s (q + length (words_of (function_pieces T f))) (suc f) n)

pub second_places : (T U : Target) (s : Spots) (main n : ℕ) (places : List FunctionPlaces) → U ≡ at_spots T s → places ≡ all_places U (length (start_words U main)) 0 n → places ≡ all_places T (functions_begin T main) 0 n
second_places T U s main n places u e =
    e
    ∙ ap (λ V. all_places V (length (start_words V main)) 0 n) u
    ∙ ap (λ k. all_places (at_spots T s) k 0 n) (start_length T s main)
    ∙ all_same T s (functions_begin T main) 0 n
