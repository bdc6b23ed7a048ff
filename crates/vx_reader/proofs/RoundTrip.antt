-- The text of a sound program is read as that program.
use Rattle.std.proofs.Common.{◌≡◌, ℕ, suc, ◌+◌, ◌-◌, ◌%◌, ◌^◌, ◌<◌, ◌≤◌, ℤ, Bool, true, false, cond, ◌&&◌, ◌||◌, List, [], ◌∷◌, ◌++◌, length, get_or, take, map, Option, Some, None, Result, Ok, Err, refl, sym, ap, subst, ◌∙◌, ◌⊎◌, inl, inr, append_assoc, arith}
use Rattle.std.specs.Prelude.{decimal, nat_eq, nat_lt, nat_le, codes, if◌then◌else◌}
use Rattle.std.specs.List.{flat_map, list_all, list_any, ends_with}
use Rattle.std.specs.Option.{option_map_or}
use Rattle.std.proofs.lemmas.Slice.Eq.{ends_is}
use Rattle.std.proofs.lemmas.Bool.Decides.{Decides-eqb}
use Rattle.std.proofs.lemmas.Bool.{eq-eqb}
use Rattle.std.proofs.lemmas.List.{append-nil, length-append, take_at}
use Rattle.std.proofs.lemmas.List.Folds.{list_any-append, list_all-append}
use Rattle.std.proofs.lemmas.Grind.{flat_map-append}
use Rattle.std.proofs.lemmas.List.Sums.{sum_by-cons, sum_by-append}
use borrow.Author.Tests.{eqb-true, leb-true, ltb-true}
use Rattle.vx_isa.specs.declared.operation.Operation.{Operation}
use Rattle.vx_isa.specs.declared.operation.Operation.TheVariants.{Goto, BranchOn, Call}
use Rattle.vx_isa.specs.declared.program.Word.{Word}
use Rattle.vx_isa.specs.declared.program.WordProgram.{WordProgram}
use Rattle.vx_isa.specs.Operations.{cluster_of}
use Rattle.vx_isa.specs.Sound.{is_version, is_start, is_not_zero, is_sound_word, is_sound_operation, is_sound}
use Rattle.vx_reader.specs.declared.before.Stage.TheVariants.{Version, Memory, WordEnd, Label}
use Rattle.vx_reader.specs.declared.before.Before.{Before}
use Rattle.vx_words.specs.Spelling.{line, version_text, start_line, start_text, text_line, quoted_text, word_lines, words_from, label_line, place_text, idle_text, operation_text, body_text, names, is_named, spelling, Spells}
use Rattle.vx_isa.specs.Range.{fits_signed, fits_operation, is_in_range}
use Rattle.vx_reader.specs.Steps.{beginning}
use Rattle.vx_reader.specs.declared.fault.WordsFault.{WordsFault}
use Rattle.vx_reader.specs.Text.{Reads, text_fault, fault_in, Fault, lines, is_not_feed, is_word_end, word_count, line_operation, line_names, marks_from, run_lines, ended, end_bytes, reading}
use Rattle.vx_reader.proofs.Numbers.{both_true}
use Rattle.vx_reader.proofs.LineLemmas.{unlines}
use Rattle.vx_reader.proofs.Advance.{least_behind, shape}
use Rattle.vx_reader.proofs.ReadLemmas.{or_nothing, marks_at, front_of, reading_spells}
use Rattle.vx_reader.proofs.OperationsAgain.{operation_again}
use Rattle.vx_reader.proofs.LinesAgain.{IsLine, version_is_line, cluster_bound, operation_is_line, start_is_line, memory_is_line, place_is_line, idle_is_line, quoted_is_line, lines_again}
use Rattle.vx_reader.proofs.ProgramAgain.{Leads, stay, follow, first_then, text_stage, one_or_two, version_taken, memory_taken, start_leads, text_leads}
use Rattle.vx_reader.proofs.WordsAgain.{no_operations, operation_bytes, operation_begins, own_lines, word_of, opens, word_leads, word_stage, word_stage_more, word_stage_between, word_stage_label, label_taken}

-- the lines of words from place p on
abbrev pub lines_of_words : List Word → ℕ → List Word → List (List ℕ)
lines_of_words all p [] = []
lines_of_words all p (w ∷ ws) = (if is_named all p then place_text p ∷ [] else []) ++ own_lines w.ops w.idle ++ lines_of_words all (p + 1) ws

-- a place that is named fits 32 bits
named_fits_operation : (p : ℕ) (op : Operation) → fits_operation op ≡ true → names p op ≡ true → p ≤ 4294967295
named_fits_operation p (Goto q) f e = let h : q ≡ p = eqb-true _ _ e in let le : q ≤ 4294967295 = leb-true _ _ f in omega (arith, h, le)
named_fits_operation p (BranchOn t at_one q) f e = let h : q ≡ p = eqb-true _ _ e in let le : q ≤ 4294967295 = leb-true _ _ f in omega (arith, h, le)
named_fits_operation p (Call q) f e = let h : q ≡ p = eqb-true _ _ e in let le : q ≤ 4294967295 = leb-true _ _ f in omega (arith, h, le)
named_fits_operation p op f e = absurd (let no : false ≡ true = e in cc)

either : (a b : Bool) → (a || b) ≡ true → (a ≡ true) ⊎ (b ≡ true)
either true b e = inl refl
either false b e = inr e

named_fits_operations : (p : ℕ) (ops : List Operation) → list_all fits_operation ops ≡ true → list_any (names p) ops ≡ true → p ≤ 4294967295
named_fits_operations p [] f e = absurd (let no : false ≡ true = e in cc)
named_fits_operations p (op ∷ ops) f e =
    let g = both_true (fits_operation op) (list_all fits_operation ops) f in
    elim (either (names p op) (list_any (names p) ops) e) [ inl x ↦ named_fits_operation p op g.0 x | inr x ↦ named_fits_operations p ops g.1 x ]

named_fits : (p : ℕ) (ws : List Word) → list_all (λ (v : Word). list_all fits_operation v.ops) ws ≡ true → is_named ws p ≡ true → p ≤ 4294967295
named_fits p [] f e = absurd (let no : false ≡ true = e in cc)
named_fits p (w ∷ ws) f e =
    let g = both_true (list_all fits_operation w.ops) (list_all (λ (v : Word). list_all fits_operation v.ops) ws) f in
    elim (either (list_any (names p) w.ops) (is_named ws p) e) [ inl x ↦ named_fits_operations p w.ops g.0 x | inr x ↦ named_fits p ws g.1 x ]

-- words

abbrev fits_words : List Word → Bool
fits_words ws = list_all (λ (v : Word). list_all fits_operation v.ops) ws

word_by : (marks : List Bool) (total v m l : ℕ) (st : List (ℕ × ℤ)) (ts : List (List ℕ)) (all done : List Word) (w : Word) (named : Bool) → is_named all (length done) ≡ named
    → get_or marks (length done) false ≡ is_named all (length done) → fits_words all ≡ true → is_sound_word total (length ts) w ≡ true → list_all fits_operation w.ops ≡ true
    → Leads marks total (shape (word_stage ts done) v m l st ts done [] 0) ((if is_named all (length done) then place_text (length done) ∷ [] else []) ++ own_lines w.ops w.idle) (shape WordEnd v m l st ts (done ++ w ∷ []) [] 0)
word_by marks total v m l st ts all done w true named here fa e f =
    let small : length done ≤ 4294967295 = named_fits (length done) all fa named in
    let label = label_taken marks total v m l st ts done small (here ∙ named) in
    let behind = word_leads marks total v m l st ts done Label w.ops w.idle refl e f in
    let whole : Leads marks total (shape (word_stage ts done) v m l st ts done [] 0) (place_text (length done) ∷ own_lines w.ops w.idle) (shape WordEnd v m l st ts (done ++ w ∷ []) [] 0) =
    first_then marks total (shape (word_stage ts done) v m l st ts done [] 0) (shape Label v m l st ts done [] 0) (shape WordEnd v m l st ts (done ++ w ∷ []) [] 0) (place_text (length done)) (own_lines w.ops w.idle) label behind in
    subst (λ c. Leads marks total (shape (word_stage ts done) v m l st ts done [] 0) ((if c then place_text (length done) ∷ [] else []) ++ own_lines w.ops w.idle) (shape WordEnd v m l st ts (done ++ w ∷ []) [] 0)) (sym named) whole
word_by marks total v m l st ts all done w false named here fa e f =
    let unmarked : get_or marks (length done) false ≡ false = here ∙ named in
    let open_here : opens marks (word_stage ts done) done ≡ true = rw (word_stage_label ts done, word_stage_between ts done, unmarked) refl in
    let whole = word_leads marks total v m l st ts done (word_stage ts done) w.ops w.idle open_here e f in
    subst (λ c. Leads marks total (shape (word_stage ts done) v m l st ts done [] 0) ((if c then place_text (length done) ∷ [] else []) ++ own_lines w.ops w.idle) (shape WordEnd v m l st ts (done ++ w ∷ []) [] 0)) (sym named) whole

words_lead : (marks : List Bool) (total v m l : ℕ) (st : List (ℕ × ℤ)) (ts : List (List ℕ)) (all done rest : List Word)
    → ((q : ℕ) → q < length rest → get_or marks (length done + q) false ≡ is_named all (length done + q)) → fits_words all ≡ true
    → list_all (is_sound_word total (length ts)) rest ≡ true → fits_words rest ≡ true
    → Leads marks total (shape (word_stage ts done) v m l st ts done [] 0) (lines_of_words all (length done) rest) (shape (word_stage ts (done ++ rest)) v m l st ts (done ++ rest) [] 0)
words_lead marks total v m l st ts all done [] same fa e f =
    subst (λ x. Leads marks total (shape (word_stage ts done) v m l st ts done [] 0) [] (shape (word_stage ts x) v m l st ts x [] 0)) (sym (append-nil done)) (stay marks total (shape (word_stage ts done) v m l st ts done [] 0))
words_lead marks total v m l st ts all done (w ∷ ws) same fa e f =
    let x = both_true (is_sound_word total (length ts) w) (list_all (is_sound_word total (length ts)) ws) e in
    let y = both_true (list_all fits_operation w.ops) (fits_words ws) f in
    let p = length done in
    let zero-is : p + 0 ≡ p = omega arith in
    let here : get_or marks p false ≡ is_named all p = subst (λ k. get_or marks k false ≡ is_named all k) zero-is (same 0 (omega arith)) in
    let next : ℕ = length (done ++ w ∷ []) in
    let next-is : length (done ++ w ∷ []) ≡ p + 1 = length-append done (w ∷ []) in
    let there : (q : ℕ) → q < length ws → get_or marks (length (done ++ w ∷ []) + q) false ≡ is_named all (length (done ++ w ∷ []) + q) =
    λ q lt. subst (λ k. get_or marks k false ≡ is_named all k) (let h : p + suc q ≡ length (done ++ w ∷ []) + q = omega (arith, next-is) in h) (same (suc q) (omega arith)) in
    let rest = words_lead marks total v m l st ts all (done ++ w ∷ []) ws there fa x.1 y.1 in
    let along = subst (λ x. Leads marks total (shape (word_stage ts (done ++ w ∷ [])) v m l st ts (done ++ w ∷ []) [] 0) (lines_of_words all (length (done ++ w ∷ [])) ws) (shape (word_stage ts x) v m l st ts x [] 0)) (append_assoc done (w ∷ []) ws) rest in
    let placed = subst (λ k. Leads marks total (shape (word_stage ts (done ++ w ∷ [])) v m l st ts (done ++ w ∷ []) [] 0) (lines_of_words all k ws) (shape (word_stage ts (done ++ w ∷ ws)) v m l st ts (done ++ w ∷ ws) [] 0)) next-is along in
    let staged = subst (λ stage. Leads marks total (shape stage v m l st ts (done ++ w ∷ []) [] 0) (lines_of_words all (p + 1) ws) (shape (word_stage ts (done ++ w ∷ ws)) v m l st ts (done ++ w ∷ ws) [] 0)) (word_stage_more ts done w) placed in
    let one : Leads marks total (shape (word_stage ts done) v m l st ts done [] 0) ((if is_named all p then place_text p ∷ [] else []) ++ own_lines w.ops w.idle) (shape WordEnd v m l st ts (done ++ w ∷ []) [] 0) =
    word_by marks total v m l st ts all done w (is_named all p) refl here fa x.0 y.0 in
    follow marks total (shape (word_stage ts done) v m l st ts done [] 0) (shape WordEnd v m l st ts (done ++ w ∷ []) [] 0) (shape (word_stage ts (done ++ w ∷ ws)) v m l st ts (done ++ w ∷ ws) [] 0)
    ((if is_named all p then place_text p ∷ [] else []) ++ own_lines w.ops w.idle) (lines_of_words all (p + 1) ws) one staged

-- what lines say: which places they name, how many words they end, and that none holds a line feed

pub record Says (ls : List (List ℕ)) (f : ℕ → Bool) (n : ℕ) : Type 0 where
  pub named : (p : ℕ) → list_any (line_names p) ls ≡ f p
  pub count : word_count ls ≡ n
  pub plain : list_all (list_all is_not_feed) ls ≡ true

abbrev nothing : ℕ → Bool
nothing p = false

abbrev one_of : Bool → ℕ
one_of b = if b then 1 else 0

says_none : Says [] nothing 0
says_none = record { named = λ p. refl; count = refl; plain = refl }

says_more : (l : List ℕ) (ls : List (List ℕ)) (f g : ℕ → Bool) (b : Bool) (n : ℕ) → ((p : ℕ) → line_names p l ≡ f p) → is_word_end l ≡ b → IsLine l → Says ls g n → Says (l ∷ ls) (λ p. f p || g p) (one_of b + n)
says_more l ls f g b n named ending plain rest = record {
  named = λ p. rw (named p, rest.named p) refl;
  count = sum_by-cons (λ x. cond (is_word_end x) 1 0) l ls ∙ rw (ending, rest.count) refl;
  plain = rw (plain, rest.plain) refl;
}

says_append : (a b : List (List ℕ)) (f g : ℕ → Bool) (n k : ℕ) → Says a f n → Says b g k → Says (a ++ b) (λ p. f p || g p) (n + k)
says_append a b f g n k x y = record {
  named = λ p. list_any-append (line_names p) a b ∙ rw (x.named p, y.named p) refl;
  count = sum_by-append (λ l. cond (is_word_end l) 1 0) a b ∙ rw (x.count, y.count) refl;
  plain = list_all-append (list_all is_not_feed) a b ∙ rw (x.plain, y.plain) refl;
}

says_as : (ls : List (List ℕ)) (f g : ℕ → Bool) (n k : ℕ) → ((p : ℕ) → f p ≡ g p) → n ≡ k → Says ls f n → Says ls g k
says_as ls f g n k same count x = record { named = λ p. x.named p ∙ same p; count = x.count ∙ count; plain = x.plain }

zero_more : (n : ℕ) → 0 + n ≡ n
zero_more n = omega arith

quiet_more : (l : List ℕ) (ls : List (List ℕ)) (g : ℕ → Bool) (n : ℕ) → ((p : ℕ) → line_names p l ≡ false) → is_word_end l ≡ false → IsLine l → Says ls g n → Says (l ∷ ls) g n
quiet_more l ls g n named ending plain rest = says_as (l ∷ ls) (λ p. false || g p) g (0 + n) n (λ p. refl) (zero_more n) (says_more l ls nothing g false n named ending plain rest)

start_says : (m l : ℕ) (st : List (ℕ × ℤ)) → m ≤ 134217728 → is_start m l st ≡ true → list_all (λ (e : ℕ × ℤ). fits_signed e.1) st ≡ true → Says (map start_text st) nothing 0
unfolding line_operation
start_says m l [] small e f = says_none
start_says m l (x ∷ xs) small e f =
    let a = both_true (nat_le l x.0 && nat_eq (x.0 % 4) 0 && nat_lt x.0 m && is_not_zero x.1) (is_start m (x.0 + 1) xs) e in
    let b = both_true (nat_le l x.0 && nat_eq (x.0 % 4) 0 && nat_lt x.0 m) (is_not_zero x.1) a.0 in
    let c = both_true (nat_le l x.0 && nat_eq (x.0 % 4) 0) (nat_lt x.0 m) b.0 in
    let lt : x.0 < m = ltb-true _ _ c.1 in
    let g = both_true (fits_signed x.1) (list_all (λ (e : ℕ × ℤ). fits_signed e.1) xs) f in
    quiet_more (start_text x) (map start_text xs) nothing 0 (λ p. refl) refl (start_is_line x (omega arith) g.0) (start_says m (x.0 + 1) xs small a.1 g.1)

texts_say : (ts : List (List ℕ)) → list_all (list_all (λ c. nat_lt c 256)) ts ≡ true → Says (map quoted_text ts) nothing 0
unfolding line_operation
texts_say [] f = says_none
texts_say (b ∷ bs) f =
    let g = both_true (list_all (λ c. nat_lt c 256) b) (list_all (list_all (λ c. nat_lt c 256)) bs) f in
    quiet_more (quoted_text b) (map quoted_text bs) nothing 0 (λ p. refl) refl (quoted_is_line b g.0) (texts_say bs g.1)

abbrev found : Operation → Option Operation
found op = Some op

operation_found : (total texts : ℕ) (op : Operation) → is_sound_operation total texts op ≡ true → fits_operation op ≡ true → line_operation (operation_text op) ≡ found op
unfolding line_operation
operation_found total texts op e f =
    let k = cluster_of op in
    let same : 48 + k - 48 ≡ k = omega arith in
    ap line_operation (operation_bytes total texts op e)
    ∙ rw (operation_begins k (body_text op) (cluster_bound total texts op e), same, operation_again total texts op e f, eq-eqb k k refl) refl

operation_ends_none : (total texts : ℕ) (op : Operation) → is_sound_operation total texts op ≡ true → is_word_end (operation_text op) ≡ false
operation_ends_none total texts op e = ap is_word_end (operation_bytes total texts op e)

operations_say : (total texts : ℕ) (ops : List Operation) → list_all (is_sound_operation total texts) ops ≡ true → list_all fits_operation ops ≡ true → Says (map operation_text ops) (λ p. list_any (names p) ops) 0
operations_say total texts [] e f = says_none
operations_say total texts (op ∷ ops) e f =
    let x = both_true (is_sound_operation total texts op) (list_all (is_sound_operation total texts) ops) e in
    let y = both_true (fits_operation op) (list_all fits_operation ops) f in
    let one : (p : ℕ) → line_names p (operation_text op) ≡ names p op = λ p. ap (λ (o : Option Operation). option_map_or (names p) o false) (operation_found total texts op x.0 y.0) in
    says_as (map operation_text (op ∷ ops)) (λ p. names p op || list_any (names p) ops) (λ p. list_any (names p) (op ∷ ops)) (0 + 0) 0 (λ p. refl) refl
    (says_more (operation_text op) (map operation_text ops) (λ p. names p op) (λ p. list_any (names p) ops) false 0 one (operation_ends_none total texts op x.0) (operation_is_line total texts op x.0 y.0)
    (operations_say total texts ops x.1 y.1))

end_says : Says (codes ";;" ∷ []) nothing 1
unfolding line_operation
end_says = record { named = λ p. refl; count = refl; plain = refl }

own_say_by : (total texts : ℕ) (ops : List Operation) (n : ℕ) (z : Bool) → nat_eq n 0 ≡ z → is_sound_word total texts (word_of ops n) ≡ true → list_all fits_operation ops ≡ true
    → Says (own_lines ops n) (λ p. list_any (names p) ops) 1
unfolding line_operation
own_say_by total texts ops n true z e f =
    let x = both_true (nat_le n 255 && (nat_eq n 0 || nat_eq (length ops) 0)) (list_all (is_sound_operation total texts) ops) e in
    let whole = says_append (map operation_text ops) (codes ";;" ∷ []) (λ p. list_any (names p) ops) nothing 0 1 (operations_say total texts ops x.1 f) end_says in
    let mine = says_as (map operation_text ops ++ codes ";;" ∷ []) (λ p. list_any (names p) ops || false) (λ p. list_any (names p) ops) (0 + 1) 1 (λ p. or_nothing (list_any (names p) ops)) refl whole in
    subst (λ c. Says ((if c then map operation_text ops else idle_text n ∷ []) ++ codes ";;" ∷ []) (λ p. list_any (names p) ops) 1) (sym z) mine
own_say_by total texts ops n false z e f =
    let x = both_true (nat_le n 255 && (nat_eq n 0 || nat_eq (length ops) 0)) (list_all (is_sound_operation total texts) ops) e in
    let y = both_true (nat_le n 255) (nat_eq n 0 || nat_eq (length ops) 0) x.0 in
    let le : n ≤ 255 = leb-true _ _ y.0 in
    let none : nat_eq (length ops) 0 ≡ true = rw z at y.1 in
    let whole : Says (idle_text n ∷ codes ";;" ∷ []) nothing 1 = quiet_more (idle_text n) (codes ";;" ∷ []) nothing 1 (λ p. refl) refl (idle_is_line n (omega arith)) end_says in
    let mine = says_as (idle_text n ∷ codes ";;" ∷ []) nothing (λ p. list_any (names p) ops) 1 1 (λ p. sym (ap (list_any (names p)) (no_operations ops none))) refl whole in
    subst (λ c. Says ((if c then map operation_text ops else idle_text n ∷ []) ++ codes ";;" ∷ []) (λ p. list_any (names p) ops) 1) (sym z) mine

label_says : (all : List Word) (p : ℕ) (b : Bool) → is_named all p ≡ b → fits_words all ≡ true → Says (if is_named all p then place_text p ∷ [] else []) nothing 0
unfolding line_operation
label_says all p true e f =
    let le = named_fits p all f e in
    subst (λ c. Says (if c then place_text p ∷ [] else []) nothing 0) (sym e) (quiet_more (place_text p) [] nothing 0 (λ q. refl) refl (place_is_line p (omega arith)) says_none)
label_says all p false e f = subst (λ c. Says (if c then place_text p ∷ [] else []) nothing 0) (sym e) says_none

words_say : (total texts : ℕ) (all : List Word) (p : ℕ) (ws : List Word) → fits_words all ≡ true → list_all (is_sound_word total texts) ws ≡ true → fits_words ws ≡ true → Says (lines_of_words all p ws) (λ q. is_named ws q) (length ws)
words_say total texts all p [] fa e f = says_none
words_say total texts all p (w ∷ ws) fa e f =
    let x = both_true (is_sound_word total texts w) (list_all (is_sound_word total texts) ws) e in
    let y = both_true (list_all fits_operation w.ops) (fits_words ws) f in
    let front = says_append (if is_named all p then place_text p ∷ [] else []) (own_lines w.ops w.idle) nothing (λ q. list_any (names q) w.ops) 0 1
    (label_says all p (is_named all p) refl fa) (own_say_by total texts w.ops w.idle (nat_eq w.idle 0) refl x.0 y.0) in
    let whole = says_append ((if is_named all p then place_text p ∷ [] else []) ++ own_lines w.ops w.idle) (lines_of_words all (p + 1) ws) (λ q. false || list_any (names q) w.ops) (λ q. is_named ws q) (0 + 1) (length ws)
    front (words_say total texts all (p + 1) ws fa x.1 y.1) in
    says_as (lines_of_words all p (w ∷ ws)) (λ q. (false || list_any (names q) w.ops) || is_named ws q) (λ q. is_named (w ∷ ws) q) (0 + 1 + length ws) (length (w ∷ ws)) (λ q. refl) (omega arith) whole

-- the lines of a program

abbrev lines_of : WordProgram → List (List ℕ)
lines_of w = version_text w.version ∷ (codes ".memory " ++ decimal w.memory) ∷ ((map start_text w.start ++ map quoted_text w.texts) ++ lines_of_words w.words 0 w.words)

joined_map : {X : Type 0} (f : X → List ℕ) (xs : List X) → unlines (map f xs) ≡ flat_map (λ x. line (f x)) xs
joined_map f [] = refl
joined_map f (x ∷ xs) = ap (λ t. line (f x) ++ t) (joined_map f xs)

joined_own : (ops : List Operation) (n : ℕ) (z : Bool) → nat_eq n 0 ≡ z → unlines (own_lines ops n) ≡ word_lines (word_of ops n)
joined_own ops n true z =
    rw z (flat_map-append line (map operation_text ops) (codes ";;" ∷ []) ∙ ap (λ t. t ++ line (codes ";;")) (joined_map operation_text ops))
joined_own ops n false z = rw z refl

joined_label : (b : Bool) (p : ℕ) → unlines (if b then place_text p ∷ [] else []) ≡ (if b then label_line p else [])
joined_label true p = append-nil (label_line p)
joined_label false p = refl

joined_words : (all : List Word) (p : ℕ) (ws : List Word) → unlines (lines_of_words all p ws) ≡ words_from all p ws
joined_words all p [] = refl
joined_words all p (w ∷ ws) =
    let L : List (List ℕ) = if is_named all p then place_text p ∷ [] else [] in
    let one : unlines ((if is_named all p then place_text p ∷ [] else []) ++ own_lines w.ops w.idle) ≡ (if is_named all p then label_line p else []) ++ word_lines w =
    flat_map-append line (if is_named all p then place_text p ∷ [] else []) (own_lines w.ops w.idle)
    ∙ ap (λ t. t ++ unlines (own_lines w.ops w.idle)) (joined_label (is_named all p) p)
    ∙ ap (λ t. (if is_named all p then label_line p else []) ++ t) (joined_own w.ops w.idle (nat_eq w.idle 0) refl) in
    flat_map-append line ((if is_named all p then place_text p ∷ [] else []) ++ own_lines w.ops w.idle) (lines_of_words all (p + 1) ws)
    ∙ ap (λ t. t ++ unlines (lines_of_words all (p + 1) ws)) one
    ∙ ap (λ t. ((if is_named all p then label_line p else []) ++ word_lines w) ++ t) (joined_words all (p + 1) ws)

regroup_program : (a b S T W E : List ℕ) → (a ++ (b ++ ((S ++ T) ++ W))) ++ E ≡ ((((a ++ b) ++ S) ++ T) ++ W) ++ E
regroup_program a b S T W E = simp append_assoc

spelled_by_lines : (w : WordProgram) → unlines (lines_of w) ++ line (codes ".end") ≡ spelling w
spelled_by_lines w =
    let S = map start_text w.start in
    let T = map quoted_text w.texts in
    let W = lines_of_words w.words 0 w.words in
    let middle : unlines ((S ++ T) ++ W) ≡ (flat_map start_line w.start ++ flat_map text_line w.texts) ++ words_from w.words 0 w.words =
    flat_map-append line (S ++ T) W
    ∙ ap (λ t. t ++ unlines W) (flat_map-append line S T ∙ ap (λ t. t ++ unlines T) (joined_map start_text w.start) ∙ ap (λ t. flat_map start_line w.start ++ t) (joined_map quoted_text w.texts))
    ∙ ap (λ t. (flat_map start_line w.start ++ flat_map text_line w.texts) ++ t) (joined_words w.words 0 w.words) in
    ap (λ t. (line (version_text w.version) ++ (line (codes ".memory " ++ decimal w.memory) ++ t)) ++ line (codes ".end")) middle
    ∙ regroup_program (line (version_text w.version)) (line (codes ".memory " ++ decimal w.memory)) (flat_map start_line w.start) (flat_map text_line w.texts) (words_from w.words 0 w.words) (line (codes ".end"))

-- what is asked of a program, part by part
pub record IsFit (w : WordProgram) : Type 0 where
  pub version : is_version w.version ≡ true
  pub whole : nat_eq (w.memory % 4) 0 ≡ true
  pub small : nat_le w.memory 134217728 ≡ true
  pub start : is_start w.memory 0 w.start ≡ true
  pub words : list_all (is_sound_word (length w.words) (length w.texts)) w.words ≡ true
  pub start_fits : list_all (λ (e : ℕ × ℤ). fits_signed e.1) w.start ≡ true
  pub texts_fit : list_all (list_all (λ c. nat_lt c 256)) w.texts ≡ true
  pub words_fit : fits_words w.words ≡ true

fit_parts : (w : WordProgram) → is_sound w ≡ true → is_in_range w ≡ true → IsFit w
fit_parts w e f =
    let a = both_true (is_version w.version && nat_eq (w.memory % 4) 0 && nat_le w.memory 134217728 && is_start w.memory 0 w.start) (list_all (is_sound_word (length w.words) (length w.texts)) w.words) e in
    let b = both_true (is_version w.version && nat_eq (w.memory % 4) 0 && nat_le w.memory 134217728) (is_start w.memory 0 w.start) a.0 in
    let c = both_true (is_version w.version && nat_eq (w.memory % 4) 0) (nat_le w.memory 134217728) b.0 in
    let d = both_true (is_version w.version) (nat_eq (w.memory % 4) 0) c.0 in
    let x = both_true (list_all (λ (e : ℕ × ℤ). fits_signed e.1) w.start && list_all (list_all (λ c. nat_lt c 256)) w.texts) (fits_words w.words) f in
    let y = both_true (list_all (λ (e : ℕ × ℤ). fits_signed e.1) w.start) (list_all (list_all (λ c. nat_lt c 256)) w.texts) x.0 in
    record { version = d.0; whole = d.1; small = c.1; start = b.1; words = a.1; start_fits = y.0; texts_fit = y.1; words_fit = x.1 }

version_small : (v : ℕ) → is_version v ≡ true → v < 2 ^ 64
version_small v known = elim (one_or_two v known) [ inl e ↦ omega (arith, e) | inr e ↦ omega (arith, e) ]

program_says : (w : WordProgram) → IsFit w → Says (lines_of w) (λ p. is_named w.words p) (length w.words)
unfolding line_operation
program_says w fit =
    let small : w.memory ≤ 134217728 = leb-true _ _ fit.small in
    let S = map start_text w.start in
    let T = map quoted_text w.texts in
    let W = lines_of_words w.words 0 w.words in
    let front = says_append S T nothing nothing 0 0 (start_says w.memory 0 w.start small fit.start fit.start_fits) (texts_say w.texts fit.texts_fit) in
    let rest = says_append (S ++ T) W (λ p. false || false) (λ p. is_named w.words p) (0 + 0) (length w.words) front (words_say (length w.words) (length w.texts) w.words 0 w.words fit.words_fit fit.words fit.words_fit) in
    let plain = says_as ((S ++ T) ++ W) (λ p. (false || false) || is_named w.words p) (λ p. is_named w.words p) (0 + 0 + length w.words) (length w.words) (λ p. refl) (zero_more (length w.words)) rest in
    let one = quiet_more (codes ".memory " ++ decimal w.memory) ((S ++ T) ++ W) (λ p. is_named w.words p) (length w.words) (λ p. refl) refl (memory_is_line w.memory (omega arith)) plain in
    quiet_more (version_text w.version) ((codes ".memory " ++ decimal w.memory) ∷ ((S ++ T) ++ W)) (λ p. is_named w.words p) (length w.words) (λ p. refl) refl (version_is_line w.version (version_small w.version fit.version)) one

abbrev last_state : WordProgram → Before
last_state w = shape (word_stage w.texts w.words) w.version w.memory (least_behind 0 w.start) w.start w.texts w.words [] 0

program_leads : (w : WordProgram) → IsFit w → Says (lines_of w) (λ p. is_named w.words p) (length w.words)
    → Leads (marks_from 0 (word_count (lines_of w) + 1) (lines_of w)) (word_count (lines_of w)) beginning (lines_of w) (last_state w)
program_leads w fit says =
    let total = word_count (lines_of w) in
    let marks = marks_from 0 (total + 1) (lines_of w) in
    let v = w.version in
    let m = w.memory in
    let l = least_behind 0 w.start in
    let small : m ≤ 134217728 = leb-true _ _ fit.small in
    let count : total ≡ length w.words = says.count in
    let sound : list_all (is_sound_word total (length w.texts)) w.words ≡ true = subst (λ k. list_all (is_sound_word k (length w.texts)) w.words ≡ true) (sym count) fit.words in
    let marked : (q : ℕ) → q < length w.words → get_or marks (0 + q) false ≡ is_named w.words (0 + q) =
    λ q lt. ap (λ k. get_or marks k false) (zero_more q) ∙ marks_at 0 (total + 1) (lines_of w) q (omega (arith, count)) ∙ says.named (0 + q) in
    let starts = start_leads marks total v m 0 [] w.start small fit.start fit.start_fits in
    let texts = text_leads marks total v m l w.start [] w.texts fit.texts_fit in
    let words = words_lead marks total v m l w.start w.texts w.words [] w.words marked fit.words_fit sound fit.words_fit in
    let S = map start_text w.start in
    let T = map quoted_text w.texts in
    let W = lines_of_words w.words 0 w.words in
    let at_memory = shape Memory v m 0 [] [] [] [] 0 in
    let at_texts = shape Memory v m l w.start [] [] [] 0 in
    let at_words = shape (text_stage w.texts) v m l w.start w.texts [] [] 0 in
    let header_texts = follow marks total at_memory at_texts at_words S T starts texts in
    let rest = follow marks total at_memory at_words (last_state w) (S ++ T) W header_texts words in
    let second = first_then marks total (shape Version v 0 0 [] [] [] [] 0) at_memory (last_state w) (codes ".memory " ++ decimal m) ((S ++ T) ++ W) (memory_taken marks total v m fit.whole fit.small) rest in
    first_then marks total beginning (shape Version v 0 0 [] [] [] [] 0) (last_state w) (version_text w.version) ((codes ".memory " ++ decimal m) ∷ ((S ++ T) ++ W)) (version_taken marks total v fit.version) second

-- the last byte of joined lines
last_feed : (l : List ℕ) (ls : List (List ℕ)) → (xs : List ℕ) × (unlines (l ∷ ls) ≡ xs ++ 10 ∷ [])
last_feed l [] = (l, append-nil (line l))
last_feed l (k ∷ ks) = let a = last_feed k ks in (line l ++ a.0, ap (λ t. line l ++ t) a.1 ∙ sym (append_assoc (line l) a.0 (10 ∷ [])))

abbrev read_lines : List (List ℕ) → Result WordProgram Fault
read_lines ls = ended (length ls + 1) (run_lines (marks_from 0 (word_count ls + 1) ls) (word_count ls) 1 beginning ls)

lines_read : (w : WordProgram) → IsFit w → read_lines (lines_of w) ≡ Ok w
lines_read w fit =
    let says = program_says w fit in
    let leads = program_leads w fit says 1 [] in
    let ls = lines_of w in
    let run : run_lines (marks_from 0 (word_count ls + 1) ls) (word_count ls) 1 beginning ls ≡ Ok (last_state w) =
    ap (run_lines (marks_from 0 (word_count ls + 1) ls) (word_count ls) 1 beginning) (sym (append-nil ls)) ∙ leads.1 in
    ap (ended (length ls + 1)) run ∙ rw (word_stage_between w.texts w.words) refl

ends_there : (bytes xs : List ℕ) → bytes ≡ xs ++ end_bytes → ends_with nat_eq bytes end_bytes ≡ true
ends_there bytes xs e = (ends_is Decides-eqb bytes end_bytes (ends_with nat_eq bytes end_bytes) refl).1 xs e

reading_lines : (bytes front : List ℕ) → bytes ≡ front ++ line (codes ".end") → ends_with nat_eq bytes end_bytes ≡ true → reading bytes ≡ read_lines (lines front)
unfolding reading
reading_lines bytes front e ends =
    let long : length bytes ≡ length front + 5 = ap length e ∙ length-append front (line (codes ".end")) in
    let five : length bytes - 5 ≡ length front = omega (arith, long) in
    let same : front_of bytes ≡ front = ap (λ n. take n bytes) five ∙ ap (take (length front)) e ∙ take_at front (line (codes ".end")) (length front) refl in
    rw ends (ap (λ x. read_lines (lines x)) same)

pub reading_again : (w : WordProgram) → is_sound w ≡ true → is_in_range w ≡ true → reading (spelling w) ≡ Ok w
reading_again w e f =
    let fit = fit_parts w e f in
    let says = program_says w fit in
    let front = unlines (lines_of w) in
    let split : spelling w ≡ front ++ line (codes ".end") = sym (spelled_by_lines w) in
    let feed = last_feed (version_text w.version) ((codes ".memory " ++ decimal w.memory) ∷ ((map start_text w.start ++ map quoted_text w.texts) ++ lines_of_words w.words 0 w.words)) in
    let whole : spelling w ≡ feed.0 ++ end_bytes = split ∙ ap (λ x. x ++ line (codes ".end")) feed.1 ∙ append_assoc feed.0 (10 ∷ []) (line (codes ".end")) in
    reading_lines (spelling w) front split (ends_there (spelling w) feed.0 whole) ∙ ap read_lines (lines_again (lines_of w) says.plain) ∙ lines_read w fit

-- the laws

abbrev read : WordProgram → Result WordProgram Fault
read w = Ok w

same_program : (v w : WordProgram) → read v ≡ read w → v ≡ w
same_program v w e = cc

pub spelling_injective : (v w : WordProgram) → is_sound v ≡ true → is_sound w ≡ true → is_in_range v ≡ true → is_in_range w ≡ true → spelling v ≡ spelling w → v ≡ w
spelling_injective v w a b c d e = same_program v w (sym (reading_again v a c) ∙ ap reading e ∙ reading_again w b d)

pub read_of_spelled : (bytes : List ℕ) (w : WordProgram) → Spells bytes w → is_in_range w ≡ true → reading bytes ≡ Ok w
read_of_spelled bytes w spells f = ap reading spells.1 ∙ reading_again w spells.0 f

pub no_fault_of_spelled : (bytes : List ℕ) (w : WordProgram) → Spells bytes w → is_in_range w ≡ true → text_fault bytes ≡ None
no_fault_of_spelled bytes w spells f = ap fault_in (read_of_spelled bytes w spells f)

pub spelled_of_no_fault : (bytes : List ℕ) → length bytes < 2 ^ 32 → text_fault bytes ≡ None → (w : WordProgram) × Spells bytes w
spelled_of_no_fault bytes small e = spelled_by bytes small (reading bytes) refl e
  where
    spelled_by : (bytes : List ℕ) → length bytes < 2 ^ 32 → (r : Result WordProgram Fault) → reading bytes ≡ r → fault_in r ≡ None → (w : WordProgram) × Spells bytes w
    spelled_by bytes small (Ok w) h e = (w, reading_spells bytes w small h)
    spelled_by bytes small (Err f) h e = absurd cc

pub only_spelled : (bytes : List ℕ) (r : Result WordProgram WordsFault) → Reads (λ (w : WordProgram). w) r (reading bytes) → (w : WordProgram) → Spells bytes w → is_in_range w ≡ true → Reads (λ (p : WordProgram). p) r (Ok w)
only_spelled bytes r e w spells f = subst (Reads (λ (p : WordProgram). p) r) (read_of_spelled bytes w spells f) e
