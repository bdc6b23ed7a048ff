-- The steps by which words are put together: one word or function more.
use Rattle.std.proofs.Common.{◌≡◌, ◌<◌, ℕ, zero, suc, ◌+◌, ◌-◌, subst, List, [], ◌∷◌, ◌++◌, length, refl, sym, ap, ◌∙◌, arith, append_assoc, length-append, append-nil}
use Rattle.vx_isa.specs.declared.program.Word.{Word}
use Rattle.vx_mixed.specs.declared.layout.VirtualWord.{VirtualWord}
use Rattle.vx_slots.specs.declared.program.FunctionPlaces.{FunctionPlaces}
use Rattle.vx_slots.specs.declared.program.SplitLanding.{SplitLanding}
use Rattle.vx_base.specs.declared.outcome.Trap.TheVariants.{Depth as ByDepth}
use Rattle.vx_isa.specs.declared.operation.Operation.TheVariants.{EndByTrap}
use Rattle.vx_target.specs.Target.{Target, word_words, entry_words, start_words, one}
use Rattle.vx_target.specs.Placed.{laid_pieces, landing_pieces, word_landings, function_pieces, functions_pieces, all_pieces, Labelled, Depth, words_of}
use Rattle.vx_frame.specs.Placing.{starts_from, word_spots, landings_from, mark_of, marks_from, laid_begin, landings_begin, places_at, all_places, functions_end}

-- pieces

pub words_of_append : (xs ys : List Labelled) → words_of (xs ++ ys) ≡ words_of xs ++ words_of ys
words_of_append [] ys = refl
words_of_append (x ∷ xs) ys = ap (λ z. x.words ++ z) (words_of_append xs ys) ∙ sym (append_assoc x.words (words_of xs) (words_of ys))

-- the words of a layout, as far as they are put together, where the words that are left come to the rest
pub record Emits (T : Target) (f : ℕ) (all : List VirtualWord) (first words : List Word) (starts marks : List ℕ) (p : ℕ) (rest : List VirtualWord) : Type 0 where
  pub words_are : first ++ words_of (laid_pieces T f 0 all) ≡ words ++ words_of (laid_pieces T f p rest)
  pub starts_are : starts_from T f (length first) 0 all ≡ starts ++ starts_from T f (length words) p rest
  pub marks_are : marks_from T f (length first) 0 all ≡ marks ++ marks_from T f (length words) p rest

pub emits_first : (T : Target) (f : ℕ) (all : List VirtualWord) (first : List Word) → Emits T f all first first [] [] 0 all
emits_first T f all first = record { words_are = refl; starts_are = refl; marks_are = refl }

pub emits_next : (T : Target) (f p m : ℕ) (all rest : List VirtualWord) (word : VirtualWord) (first words more : List Word) (starts marks : List ℕ) → Emits T f all first words starts marks p (word ∷ rest) → more ≡ words ++ word_words T f p word → m ≡ mark_of T f (length words) p word → Emits T f all first more (starts ++ length words ∷ []) (marks ++ m ∷ []) (p + 1) rest
emits_next T f p m all rest word first words more starts marks e w k =
    let here = word_words T f p word in
    let s : suc p ≡ p + 1 = omega arith in
    let n : length more ≡ length words + length here = ap length w ∙ length-append words here in
    record {
      words_are = e.words_are ∙ sym (append_assoc words here (words_of (laid_pieces T f (suc p) rest))) ∙ ap (λ z. z ++ words_of (laid_pieces T f (suc p) rest)) (sym w) ∙ ap (λ i. more ++ words_of (laid_pieces T f i rest)) s;
      starts_are = e.starts_are ∙ ap (λ i. starts ++ length words ∷ starts_from T f i (suc p) rest) (sym n) ∙ ap (λ i. starts ++ length words ∷ starts_from T f (length more) i rest) s ∙ sym (append_assoc starts (length words ∷ []) (starts_from T f (length more) (p + 1) rest));
      marks_are = e.marks_are ∙ ap (λ i. marks ++ i ∷ marks_from T f (length words + length here) (suc p) rest) (sym k) ∙ ap (λ i. marks ++ m ∷ marks_from T f i (suc p) rest) (sym n) ∙ ap (λ i. marks ++ m ∷ marks_from T f (length more) i rest) s ∙ sym (append_assoc marks (m ∷ []) (marks_from T f (length more) (p + 1) rest));
    }

-- one word more, as the steps of the loop give it
pub emits_turn : (T : Target) (f p q m begin : ℕ) (all left rest : List VirtualWord) (word : VirtualWord) (first words more : List Word) (starts marks new_starts new_marks : List ℕ) → Emits T f all first words starts marks p left → left ≡ word ∷ rest → more ≡ words ++ word_words T f p word → m ≡ mark_of T f (length words) p word → begin ≡ length words → new_starts ≡ starts ++ begin ∷ [] → new_marks ≡ marks ++ m ∷ [] → q ≡ p + 1 → Emits T f all first more new_starts new_marks q rest
emits_turn T f p q m begin all left rest word first words more starts marks new_starts new_marks e l w k b x y z =
    let here : Emits T f all first words starts marks p (word ∷ rest) = subst (λ ws. Emits T f all first words starts marks p ws) l e in
    let next : Emits T f all first more (starts ++ length words ∷ []) (marks ++ m ∷ []) (p + 1) rest = emits_next T f p m all rest word first words more starts marks here w k in
    let by_starts : Emits T f all first more new_starts (marks ++ m ∷ []) (p + 1) rest = subst (λ xs. Emits T f all first more xs (marks ++ m ∷ []) (p + 1) rest) (sym (x ∙ ap (λ n. starts ++ n ∷ []) b)) next in
    let by_marks : Emits T f all first more new_starts new_marks (p + 1) rest = subst (λ xs. Emits T f all first more new_starts xs (p + 1) rest) (sym y) by_starts in
    subst (λ i. Emits T f all first more new_starts new_marks i rest) (sym z) by_marks

pub emits_none : (T : Target) (f : ℕ) (all : List VirtualWord) (first : List Word) (starts marks : List ℕ) → starts ≡ [] → marks ≡ [] → Emits T f all first first starts marks 0 all
emits_none T f all first starts marks s m = subst (λ xs. Emits T f all first first xs marks 0 all) (sym s) (subst (λ xs. Emits T f all first first [] xs 0 all) (sym m) (emits_first T f all first))

pub emits_words : (T : Target) (f p : ℕ) (all : List VirtualWord) (first words : List Word) (starts marks : List ℕ) → Emits T f all first words starts marks p [] → words ≡ first ++ words_of (laid_pieces T f 0 all)
emits_words T f p all first words starts marks e = sym (append-nil words) ∙ sym e.words_are

pub emits_starts : (T : Target) (f p : ℕ) (all : List VirtualWord) (first words : List Word) (starts marks : List ℕ) → Emits T f all first words starts marks p [] → starts ++ length words ∷ [] ≡ starts_from T f (length first) 0 all
emits_starts T f p all first words starts marks e = sym e.starts_are

pub emits_marks : (T : Target) (f p : ℕ) (all : List VirtualWord) (first words : List Word) (starts marks : List ℕ) → Emits T f all first words starts marks p [] → marks ≡ marks_from T f (length first) 0 all
emits_marks T f p all first words starts marks e = sym (append-nil marks) ∙ sym e.marks_are

-- the landings of a layout
pub record Lands (T : Target) (f : ℕ) (all : List VirtualWord) (first words : List Word) (landings : List (List SplitLanding)) (p : ℕ) (rest : List VirtualWord) : Type 0 where
  pub words_are : first ++ words_of (landing_pieces T f 0 all) ≡ words ++ words_of (landing_pieces T f p rest)
  pub landings_are : landings_from T f (length first) 0 all ≡ landings ++ landings_from T f (length words) p rest

pub lands_first : (T : Target) (f : ℕ) (all : List VirtualWord) (first : List Word) → Lands T f all first first [] 0 all
lands_first T f all first = record { words_are = refl; landings_are = refl }

pub lands_next : (T : Target) (f p : ℕ) (all rest : List VirtualWord) (word : VirtualWord) (first words more : List Word) (landings : List (List SplitLanding)) → Lands T f all first words landings p (word ∷ rest) → more ≡ words ++ words_of (word_landings T f p word) → Lands T f all first more (landings ++ word_spots T f p (length words) word ∷ []) (p + 1) rest
lands_next T f p all rest word first words more landings e w =
    let here = words_of (word_landings T f p word) in
    let s : suc p ≡ p + 1 = omega arith in
    let n : length more ≡ length words + length here = ap length w ∙ length-append words here in
    record {
      words_are = e.words_are ∙ ap (λ z. words ++ z) (words_of_append (word_landings T f p word) (landing_pieces T f (suc p) rest)) ∙ sym (append_assoc words here (words_of (landing_pieces T f (suc p) rest))) ∙ ap (λ z. z ++ words_of (landing_pieces T f (suc p) rest)) (sym w) ∙ ap (λ i. more ++ words_of (landing_pieces T f i rest)) s;
      landings_are = e.landings_are ∙ ap (λ i. landings ++ word_spots T f p (length words) word ∷ landings_from T f i (suc p) rest) (sym n) ∙ ap (λ i. landings ++ word_spots T f p (length words) word ∷ landings_from T f (length more) i rest) s ∙ sym (append_assoc landings (word_spots T f p (length words) word ∷ []) (landings_from T f (length more) (p + 1) rest));
    }

-- one word more, as the steps of the loop give it
pub lands_turn : (T : Target) (f p q : ℕ) (spots : List SplitLanding) (all left rest : List VirtualWord) (word : VirtualWord) (first words more : List Word) (landings new : List (List SplitLanding)) → Lands T f all first words landings p left → left ≡ word ∷ rest → more ≡ words ++ words_of (word_landings T f p word) → spots ≡ word_spots T f p (length words) word → new ≡ landings ++ spots ∷ [] → q ≡ p + 1 → Lands T f all first more new q rest
lands_turn T f p q spots all left rest word first words more landings new e l w b x z =
    let here : Lands T f all first words landings p (word ∷ rest) = subst (λ ws. Lands T f all first words landings p ws) l e in
    let next : Lands T f all first more (landings ++ word_spots T f p (length words) word ∷ []) (p + 1) rest = lands_next T f p all rest word first words more landings here w in
    let by_landings : Lands T f all first more new (p + 1) rest = subst (λ xs. Lands T f all first more xs (p + 1) rest) (sym (x ∙ ap (λ n. landings ++ n ∷ []) b)) next in
    subst (λ i. Lands T f all first more new i rest) (sym z) by_landings

pub lands_words : (T : Target) (f p : ℕ) (all : List VirtualWord) (first words : List Word) (landings : List (List SplitLanding)) → Lands T f all first words landings p [] → words ≡ first ++ words_of (landing_pieces T f 0 all)
lands_words T f p all first words landings e = sym (append-nil words) ∙ sym e.words_are

pub lands_landings : (T : Target) (f p : ℕ) (all : List VirtualWord) (first words : List Word) (landings : List (List SplitLanding)) → Lands T f all first words landings p [] → landings ≡ landings_from T f (length first) 0 all
lands_landings T f p all first words landings e = sym (append-nil landings) ∙ sym e.landings_are

-- functions
pub record Gives (T : Target) (n : ℕ) (first words : List Word) (places : List FunctionPlaces) (f left : ℕ) : Type 0 where
  pub words_are : first ++ words_of (functions_pieces T 0 n) ≡ words ++ words_of (functions_pieces T f left)
  pub places_are : all_places T (length first) 0 n ≡ places ++ all_places T (length words) f left

pub gives_first : (T : Target) (n : ℕ) (first : List Word) → Gives T n first first [] 0 n
gives_first T n first = record { words_are = refl; places_are = refl }

pub gives_next : (T : Target) (n f left : ℕ) (first words more : List Word) (places : List FunctionPlaces) → Gives T n first words places f (suc left) → more ≡ words ++ words_of (function_pieces T f) → Gives T n first more (places ++ places_at T f (length words) ∷ []) (f + 1) left
gives_next T n f left first words more places e w =
    let here = words_of (function_pieces T f) in
    let s : suc f ≡ f + 1 = omega arith in
    let k : length more ≡ length words + length here = ap length w ∙ length-append words here in
    record {
      words_are = e.words_are ∙ ap (λ z. words ++ z) (words_of_append (function_pieces T f) (functions_pieces T (suc f) left)) ∙ sym (append_assoc words here (words_of (functions_pieces T (suc f) left))) ∙ ap (λ z. z ++ words_of (functions_pieces T (suc f) left)) (sym w) ∙ ap (λ i. more ++ words_of (functions_pieces T i left)) s;
      places_are = e.places_are ∙ ap (λ i. places ++ places_at T f (length words) ∷ all_places T i (suc f) left) (sym k) ∙ ap (λ i. places ++ places_at T f (length words) ∷ all_places T (length more) i left) s ∙ sym (append_assoc places (places_at T f (length words) ∷ []) (all_places T (length more) (f + 1) left));
    }

pub gives_turn : (T : Target) (n f g left : ℕ) (first words more : List Word) (places new : List FunctionPlaces) (found : FunctionPlaces) → Gives T n first words places f left → 0 < left → more ≡ words ++ words_of (function_pieces T f) → found ≡ places_at T f (length words) → new ≡ places ++ found ∷ [] → g ≡ f + 1 → Gives T n first more new g (left - 1)
gives_turn T n f g zero first words more places new found e h w x y z = absurd (omega arith)
gives_turn T n f g (suc k) first words more places new found e h w x y z =
    let r : suc k - 1 ≡ k = omega arith in
    let made : Gives T n first more (places ++ places_at T f (length words) ∷ []) (f + 1) k = gives_next T n f k first words more places e w in
    let here : new ≡ places ++ places_at T f (length words) ∷ [] = y ∙ ap (λ v. places ++ v ∷ []) x in
    let first_part : Gives T n first more new (f + 1) k = subst (λ xs. Gives T n first more xs (f + 1) k) (sym here) made in
    let second_part : Gives T n first more new g k = subst (λ i. Gives T n first more new i k) (sym z) first_part in
    subst (λ j. Gives T n first more new g j) (sym r) second_part

pub gives_words : (T : Target) (n f : ℕ) (first words : List Word) (places : List FunctionPlaces) → Gives T n first words places f 0 → words ≡ first ++ words_of (functions_pieces T 0 n)
gives_words T n f first words places e = sym (append-nil words) ∙ sym e.words_are

pub gives_places : (T : Target) (n f : ℕ) (first words : List Word) (places : List FunctionPlaces) → Gives T n first words places f 0 → places ≡ all_places T (length first) 0 n
gives_places T n f first words places e = sym (append-nil places) ∙ sym e.places_are

-- a function: its entry, its layout and its landings
pub function_words : (T : Target) (f : ℕ) (first entered laid landed : List Word) → entered ≡ first ++ entry_words T f → laid ≡ entered ++ words_of (laid_pieces T f 0 (T.layout f).words) → landed ≡ laid ++ words_of (landing_pieces T f 0 (T.layout f).words) → landed ≡ first ++ words_of (function_pieces T f)
function_words T f first entered laid landed a b c =
    let en = entry_words T f in
    let la = words_of (laid_pieces T f 0 (T.layout f).words) in
    let ln = words_of (landing_pieces T f 0 (T.layout f).words) in
    c ∙ ap (λ z. z ++ ln) (b ∙ ap (λ z. z ++ la) a) ∙ ap (λ z. z ++ ln) (append_assoc first en la) ∙ append_assoc first (en ++ la) ln ∙ ap (λ z. first ++ z) (append_assoc en la ln) ∙ ap (λ z. first ++ (en ++ z)) (sym (words_of_append (laid_pieces T f 0 (T.layout f).words) (landing_pieces T f 0 (T.layout f).words)))

pub places_are_at : (T : Target) (f : ℕ) (first entered laid : List Word) (x : FunctionPlaces) → entered ≡ first ++ entry_words T f → laid ≡ entered ++ words_of (laid_pieces T f 0 (T.layout f).words) → x.entry ≡ length first → x.starts ≡ starts_from T f (length entered) 0 (T.layout f).words → x.landings ≡ landings_from T f (length laid) 0 (T.layout f).words → x.marks ≡ marks_from T f (length entered) 0 (T.layout f).words → x ≡ places_at T f (length first)
places_are_at T f first entered laid x a b e s l m =
    let ws = (T.layout f).words in
    let n : length entered ≡ length first + length (entry_words T f) = ap length a ∙ length-append first (entry_words T f) in
    let k : length laid ≡ length first + length (entry_words T f) + length (words_of (laid_pieces T f 0 ws)) = ap length b ∙ length-append entered (words_of (laid_pieces T f 0 ws)) ∙ ap (λ z. z + length (words_of (laid_pieces T f 0 ws))) n in
    let s1 : x.starts ≡ starts_from T f (laid_begin T f (length first)) 0 ws = s ∙ ap (λ q. starts_from T f q 0 ws) n in
    let l1 : x.landings ≡ landings_from T f (landings_begin T f (length first)) 0 ws = l ∙ ap (λ q. landings_from T f q 0 ws) k in
    let m1 : x.marks ≡ marks_from T f (laid_begin T f (length first)) 0 ws = m ∙ ap (λ q. marks_from T f q 0 ws) n in
    λ i. record { entry = e i; starts = s1 i; landings = l1 i; marks = m1 i }

-- a program: its start, its functions and the trap
pub program_words : (T : Target) (main n : ℕ) (started given ended : List Word) → started ≡ start_words T main → given ≡ started ++ words_of (functions_pieces T 0 n) → ended ≡ given ++ one (EndByTrap ByDepth) ∷ [] → ended ≡ words_of (all_pieces T main n)
program_words T main n started given ended a b c =
    let fs = words_of (functions_pieces T 0 n) in
    let en = one (EndByTrap ByDepth) ∷ [] in
    c ∙ ap (λ z. z ++ en) (b ∙ ap (λ z. z ++ fs) a) ∙ append_assoc (start_words T main) fs en ∙ ap (λ z. start_words T main ++ z) (sym (words_of_append (functions_pieces T 0 n) (record { label = Depth; words = en } ∷ [])))

pub trap_is : (T : Target) (main n k : ℕ) (started given : List Word) → started ≡ start_words T main → given ≡ started ++ words_of (functions_pieces T 0 n) → k ≡ length given → k ≡ functions_end T main n
trap_is T main n k started given a b c = c ∙ ap length (b ∙ ap (λ z. z ++ words_of (functions_pieces T 0 n)) a) ∙ length-append (start_words T main) (words_of (functions_pieces T 0 n))
