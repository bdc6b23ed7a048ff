-- Each kind of line that is taken adds its text to what stood before.
use Rattle.std.proofs.Common.{◌≡◌, ℕ, suc, ◌+◌, ◌%◌, ◌^◌, ◌<◌, ◌≤◌, ℤ, Bool, true, false, ◌&&◌, ◌||◌, List, [], ◌∷◌, ◌++◌, length, get_or, take, drop, Result, Ok, Err, refl, sym, ap, subst, ◌∙◌, append_assoc, arith}
use Rattle.std.specs.Prelude.{decimal, nat_eq, nat_lt, nat_le, codes, if◌then◌else◌, not}
use Rattle.std.specs.Fmt.{digits}
use Rattle.std.specs.List.{flat_map, list_all, prefix_len}
use Rattle.std.specs.Str.{bytes_eq}
use Rattle.std.proofs.lemmas.Slice.Eq.{bytes_eq-Decides}
use Rattle.std.proofs.lemmas.Grind.{flat_map-append}
use Rattle.std.proofs.lemmas.List.{append-nil}
use Rattle.std.proofs.lemmas.Fmt.{decimal-digits_value}
use borrow.Author.Tests.{ltb-true, leb-true, eqb-true}
use Rattle.std.proofs.lemmas.Bool.{ltb-false, le-leb}
use Rattle.std.proofs.lemmas.Bool.Decides.{nat_tests}
use Rattle.std.proofs.lemmas.List.{length-take, length-drop}
use Rattle.vx_reader.specs.Fields.{is_digit}
use Rattle.vx_isa.specs.declared.operation.Operation.{Operation}
use Rattle.vx_isa.specs.declared.program.Word.{Word}
use Rattle.vx_isa.specs.Sound.{is_version, is_start, is_sound_word, is_sound_operation, is_not_zero}
use Rattle.vx_reader.specs.declared.before.Stage.TheVariants.{Version, Memory, Texts, WordEnd, Label, Operations, Idle}
use Rattle.vx_reader.specs.declared.before.Before.{Before}
use Rattle.vx_words.specs.Spelling.{line, version_text, header, start_line, start_text, text_line, quoted_text, word_lines, label_line, place_text, operation_line, operation_text, idle_text}
use Rattle.vx_reader.specs.Fields.{number_at}
use Rattle.vx_reader.specs.Reading.{is_number, is_field}
use Rattle.vx_isa.specs.Operations.{cluster_of}
use Rattle.vx_reader.specs.Reading.{has_operands, texts_named, operation_of}
use Rattle.vx_reader.proofs.OperationLemmas.{body_spelled, operation_spelled, sound_operation}
use Rattle.vx_reader.specs.Steps.{is_beyond, begins_word, is_operations_stage, operation_by_stage, operation_added, operation_step, is_operation_line, line_cluster}
use Rattle.vx_reader.specs.Steps.{beginning, accepted, value_from, is_size, entry_at, unquoted, is_version_line, version_of, version_step, memory_step, start_step, text_step, label_stood, label_by, label_step, idle_step, word_end_step}
use Rattle.vx_reader.proofs.Numbers.{own, both_true, is_number_digits}
use Rattle.vx_reader.proofs.LineLemmas.{field_then}
use Rattle.vx_reader.proofs.Advance.{words_by, label_at, body, so_far, least_behind, Parts, shape, Good, at_version, at_memory, at_texts, at_word_end, at_label, at_operations, at_idle, by_cases, Extends, accepted_ok}

abbrev refused : ℕ → Result Before ℕ
refused code = Err code

abbrev taken : Before → Result Before ℕ
taken t = Ok t

never : {A : Type 0} (code : ℕ) (t : Before) → refused code ≡ taken t → A
never code t e = absurd cc

is_same_text : (xs ys : List ℕ) → bytes_eq xs ys ≡ true → xs ≡ ys
is_same_text xs ys e = (bytes_eq-Decides xs ys).0 e

all_true : (a b : Bool) → a ≡ true → b ≡ true → (a && b) ≡ true
all_true a b e h = rw (e, h) refl

all_more : {X : Type 0} (p : X → Bool) (xs : List X) (x : X) → list_all p xs ≡ true → p x ≡ true → list_all p (xs ++ x ∷ []) ≡ true
all_more p [] x e h = rw h refl
all_more p (y ∷ ys) x e h = let b = both_true (p y) (list_all p ys) e in rw (b.0) (all_more p ys x b.1 h)

start_more : (m l : ℕ) (st : List (ℕ × ℤ)) (e : ℕ × ℤ) → is_start m l st ≡ true → nat_le (least_behind l st) e.0 ≡ true → nat_eq (e.0 % 4) 0 ≡ true
    → nat_lt e.0 m ≡ true → is_not_zero e.1 ≡ true → is_start m l (st ++ e ∷ []) ≡ true
start_more m l [] e h a b c d = rw (a, b, c, d) refl
start_more m l (p ∷ ps) e h a b c d =
    let front : Bool = nat_le l p.0 && nat_eq (p.0 % 4) 0 && nat_lt p.0 m && is_not_zero p.1 in
    let split = both_true (nat_le l p.0 && nat_eq (p.0 % 4) 0 && nat_lt p.0 m && is_not_zero p.1) (is_start m (p.0 + 1) ps) h in
    all_true (nat_le l p.0 && nat_eq (p.0 % 4) 0 && nat_lt p.0 m && is_not_zero p.1) (is_start m (p.0 + 1) (ps ++ e ∷ [])) split.0 (start_more m (p.0 + 1) ps e split.1 a b c d)

least_more : (l : ℕ) (st : List (ℕ × ℤ)) (e : ℕ × ℤ) → least_behind l (st ++ e ∷ []) ≡ e.0 + 1
least_more l [] e = refl
least_more l (p ∷ ps) e = least_more (p.0 + 1) ps e

words_more : (marks : List Bool) (p : ℕ) (ws : List Word) (w : Word) → words_by marks p (ws ++ w ∷ []) ≡ words_by marks p ws ++ (label_at marks (p + length ws) ++ word_lines w)
words_more marks p [] w = let e : p + 0 ≡ p = omega arith in rw e (append-nil (label_at marks p ++ word_lines w))
words_more marks p (v ∷ vs) w =
    let e : p + suc (length vs) ≡ p + 1 + length vs = omega arith in
    rw (e, words_more marks (p + 1) vs w) (sym (append_assoc (label_at marks p ++ word_lines v) (words_by marks (p + 1) vs) (label_at marks (p + 1 + length vs) ++ word_lines w)))

-- the version

-- the versions, each with its line
pub first_version : version_text 1 ≡ codes ".vexwords 1"
unfolding digits
first_version = refl

pub second_version : version_text 2 ≡ codes ".vexwords 2"
unfolding digits
second_version = refl

either_line : (b c : Bool) → (b || c) ≡ true → c ≡ false → b ≡ true
either_line true c e f = refl
either_line false c e f = sym f ∙ e

-- the line of a version is the text of the version that it says
pub version_written : (text : List ℕ) → is_version_line text ≡ true → (text ≡ version_text (version_of text)) × (is_version (version_of text) ≡ true)
version_written text e = written_by (bytes_eq text (codes ".vexwords 2")) refl
  where
    written_by : (b : Bool) → bytes_eq text (codes ".vexwords 2") ≡ b → (text ≡ version_text (if b then 2 else 1)) × (is_version (if b then 2 else 1) ≡ true)
    written_by true t = (is_same_text text (codes ".vexwords 2") t ∙ sym second_version, refl)
    written_by false t =
        let first = either_line (bytes_eq text (codes ".vexwords 1")) (bytes_eq text (codes ".vexwords 2")) e t in
        (is_same_text text (codes ".vexwords 1") first ∙ sym first_version, refl)

pub version_extends : (marks : List Bool) (total : ℕ) (text : List ℕ) (t : Before) (s : Before) → Good marks total s → version_step s text ≡ Ok t → Extends marks total s text t
unfolding version_step
version_extends marks total text t s = by_cases marks total (λ s. version_step s text ≡ Ok t → Extends marks total s text t) s (record {
  start = λ h.
      let a = accepted_ok (is_version_line text) (record beginning { stage = Version; version = version_of text }) t h in
      let b = version_written text a.0 in
      subst (Extends marks total beginning text) a.1 (record { spelled = ap line (sym b.0); good = at_version (version_of text) b.1 refl; words = refl; ops = refl });
  version = λ v known h. never 5 t h;
  memory = λ v m l st parts h. never 5 t h;
  texts = λ v m l st ts parts h. never 5 t h;
  word_end = λ v m l st ts ws parts h. never 5 t h;
  label = λ v m l st ts ws parts marked h. never 5 t h;
  operations = λ v m l st ts ws ops parts all h. never 5 t h;
  idle = λ v m l st ts ws n parts low high h. never 5 t h;
})

-- the size of the memory

two_tests : (b c : Bool) (x t : Before) → (if b then refused 6 else accepted c x) ≡ taken t → (b ≡ false) × (c ≡ true) × (x ≡ t)
two_tests true c x t e = absurd cc
two_tests false c x t e = let a = accepted_ok c x t e in (refl, a.0, a.1)

size_written : (digits : List ℕ) → is_size digits ≡ true → value_from 0 digits < 2 ^ 64 → decimal (value_from 0 digits) ≡ digits
size_written digits size small =
    let number : is_number digits ≡ true = (both_true (is_number digits) (nat_eq (value_from 0 digits % 4) 0) size).0 in
    let all = is_number_digits digits number in
    let parts = both_true (list_all is_digit digits && nat_lt 0 (length digits)) (not (nat_eq (get_or digits 0 0) 48) || nat_eq (length digits) 1) number in
    let some : 0 < length digits = ltb-true _ _ (both_true (list_all is_digit digits) (nat_lt 0 (length digits)) parts.0).1 in
    let first : get_or digits 0 0 ≡ 48 → length digits ≡ 1 = λ z. grind (arith, nat_tests, z, parts.1) in
    decimal-digits_value own digits all some first small

-- a field of seven letters, and what stands behind its blank
seven_then : (text name : List ℕ) → length name ≡ 7 → take (prefix_len is_field text) text ≡ name → 0 < length (drop 8 text) → text ≡ name ++ 32 ∷ drop 8 text
seven_then text name seven field some =
    let n = prefix_len is_field text in
    let n-is : prefix_len is_field text ≡ 7 = omega (arith, ap length field, length-take n text, length-drop 8 text) in
    let some2 : 0 < length (drop (n + 1) text) = subst (λ k. 0 < length (drop (k + 1) text)) (sym n-is) some in
    field_then text some2 ∙ rw (field, n-is) refl

is_number_some : (digits : List ℕ) → is_number digits ≡ true → 0 < length digits
is_number_some digits number = ltb-true _ _ (both_true (list_all is_digit digits) (nat_lt 0 (length digits)) (both_true (list_all is_digit digits && nat_lt 0 (length digits)) (not (nat_eq (get_or digits 0 0) 48) || nat_eq (length digits) 1) number).0).1

three_nils : (H : List ℕ) → ((H ++ []) ++ []) ++ [] ≡ H
three_nils H = simp append-nil

regroup_start : (H A X : List ℕ) → ((H ++ (A ++ (X ++ []))) ++ []) ++ [] ≡ (((H ++ A) ++ []) ++ []) ++ X
regroup_start H A X = simp (append_assoc, append-nil)

regroup_text : (H B X : List ℕ) → (H ++ (B ++ (X ++ []))) ++ [] ≡ ((H ++ B) ++ []) ++ X
regroup_text H B X = simp (append_assoc, append-nil)

memory_text : (marks : List Bool) (v m : ℕ) (digits text : List ℕ) → decimal m ≡ digits → text ≡ codes ".memory" ++ 32 ∷ digits
    → body marks v m [] [] [] ≡ line (version_text v) ++ line text
memory_text marks v m digits text written split =
    three_nils (header v m) ∙ ap (λ x. line (version_text v) ++ line x) (ap (λ d. codes ".memory " ++ d) written ∙ sym split)

start_body : (marks : List Bool) (v m : ℕ) (st : List (ℕ × ℤ)) (e : ℕ × ℤ) → body marks v m (st ++ e ∷ []) [] [] ≡ body marks v m st [] [] ++ start_line e
start_body marks v m st e =
    ap (λ A. header v m ++ A ++ [] ++ []) (flat_map-append start_line st (e ∷ [])) ∙ regroup_start (header v m) (flat_map start_line st) (start_line e)

text_body : (marks : List Bool) (v m : ℕ) (st : List (ℕ × ℤ)) (ts : List (List ℕ)) (bytes : List ℕ) → body marks v m st (ts ++ bytes ∷ []) [] ≡ body marks v m st ts [] ++ text_line bytes
text_body marks v m st ts bytes =
    ap (λ B. header v m ++ flat_map start_line st ++ B ++ []) (flat_map-append text_line ts (bytes ∷ []))
    ∙ regroup_text (header v m ++ flat_map start_line st) (flat_map text_line ts) (text_line bytes)

word_body : (marks : List Bool) (v m : ℕ) (st : List (ℕ × ℤ)) (ts : List (List ℕ)) (ws : List Word) (w : Word)
    → body marks v m st ts (ws ++ w ∷ []) ≡ body marks v m st ts ws ++ (label_at marks (length ws) ++ word_lines w)
word_body marks v m st ts ws w =
    let e : 0 + length ws ≡ length ws = omega arith in
    let more : words_by marks 0 (ws ++ w ∷ []) ≡ words_by marks 0 ws ++ (label_at marks (length ws) ++ word_lines w) =
    words_more marks 0 ws w ∙ ap (λ k. words_by marks 0 ws ++ (label_at marks k ++ word_lines w)) e in
    ap (λ C. header v m ++ flat_map start_line st ++ flat_map text_line ts ++ C) more
    ∙ sym (append_assoc (header v m ++ flat_map start_line st ++ flat_map text_line ts) (words_by marks 0 ws) (label_at marks (length ws) ++ word_lines w))

pub memory_extends : (marks : List Bool) (total : ℕ) (text : List ℕ) (t : Before) (s : Before) → Good marks total s → take (prefix_len is_field text) text ≡ codes ".memory"
    → memory_step s (drop 8 text) ≡ Ok t → Extends marks total s text t
unfolding memory_step
memory_extends marks total text t s good field = by_cases marks total (λ s. memory_step s (drop 8 text) ≡ Ok t → Extends marks total s text t) s (record {
  start = λ h.
      let digits = drop 8 text in
      let a = two_tests (is_size digits && nat_lt 134217728 (value_from 0 digits)) (is_size digits && false) (record beginning { stage = Memory; memory = value_from 0 digits }) t h in
      let b = both_true (is_size digits) false a.1 in
      absurd (let no : false ≡ true = b.1 in cc);
  version = λ v known h.
      let digits = drop 8 text in
      let a = two_tests (is_size digits && nat_lt 134217728 (value_from 0 digits)) (is_size digits && true) (shape Memory v (value_from 0 digits) 0 [] [] [] [] 0) t h in
      let size : is_size digits ≡ true = (both_true (is_size digits) true a.1).0 in
      let whole : nat_eq (value_from 0 digits % 4) 0 ≡ true = (both_true (is_number digits) (nat_eq (value_from 0 digits % 4) 0) size).1 in
      let near : nat_lt 134217728 (value_from 0 digits) ≡ false = rw size at a.0 in
      let bound : value_from 0 digits ≤ 134217728 = ltb-false _ _ near in
      let written : decimal (value_from 0 digits) ≡ digits = size_written digits size (omega arith) in
      let some : 0 < length digits = is_number_some digits (both_true (is_number digits) (nat_eq (value_from 0 digits % 4) 0) size).0 in
      let split : text ≡ codes ".memory" ++ 32 ∷ digits = seven_then text (codes ".memory") refl field some in
      let parts : Parts total v (value_from 0 digits) 0 [] [] [] = record { version = known; whole = whole; small = le-leb _ _ bound; start = refl; least = refl; words = refl } in
      subst (Extends marks total (shape Version v 0 0 [] [] [] [] 0) text) a.2 (record {
        spelled = memory_text marks v (value_from 0 digits) digits text written split;
        good = at_memory v (value_from 0 digits) 0 [] parts refl;
        words = refl;
        ops = refl;
      });
  memory = λ v m l st parts h. never 5 t h;
  texts = λ v m l st ts parts h. never 5 t h;
  word_end = λ v m l st ts ws parts h. never 5 t h;
  label = λ v m l st ts ws parts marked h. never 5 t h;
  operations = λ v m l st ts ws ops parts all h. never 5 t h;
  idle = λ v m l st ts ws n parts low high h. never 5 t h;
}) good

-- a word of the memory

pub start_extends : (marks : List Bool) (total : ℕ) (text : List ℕ) (t : Before) (s : Before) → Good marks total s → start_step s text ≡ Ok t → Extends marks total s text t
unfolding start_step
start_extends marks total text t s = by_cases marks total (λ s. start_step s text ≡ Ok t → Extends marks total s text t) s (record {
  start = λ h. never 1 t h;
  version = λ v known h. never 1 t h;
  memory = λ v m l st parts h.
      let e = entry_at text in
      let a = accepted_ok (nat_le l e.0 && nat_eq (e.0 % 4) 0 && nat_lt e.0 m && is_not_zero e.1 && bytes_eq (start_text e) text) (shape Memory v m (e.0 + 1) (st ++ e ∷ []) [] [] [] 0) t h in
      let b1 = both_true (nat_le l e.0 && nat_eq (e.0 % 4) 0 && nat_lt e.0 m && is_not_zero e.1) (bytes_eq (start_text e) text) a.0 in
      let b2 = both_true (nat_le l e.0 && nat_eq (e.0 % 4) 0 && nat_lt e.0 m) (is_not_zero e.1) b1.0 in
      let b3 = both_true (nat_le l e.0 && nat_eq (e.0 % 4) 0) (nat_lt e.0 m) b2.0 in
      let b4 = both_true (nat_le l e.0) (nat_eq (e.0 % 4) 0) b3.0 in
      let least : nat_le (least_behind 0 st) e.0 ≡ true = rw parts.least b4.0 in
      let more : Parts total v m (e.0 + 1) (st ++ e ∷ []) [] [] = record { version = parts.version; whole = parts.whole; small = parts.small; start = start_more m 0 st e parts.start least b4.1 b3.1 b2.1; least = least_more 0 st e; words = refl } in
      let same : start_text e ≡ text = is_same_text (start_text e) text b1.1 in
      subst (Extends marks total (shape Memory v m l st [] [] [] 0) text) a.1 (record {
        spelled = subst (λ x. body marks v m (st ++ e ∷ []) [] [] ≡ body marks v m st [] [] ++ line x) same (start_body marks v m st e);
        good = at_memory v m (e.0 + 1) (st ++ e ∷ []) more refl;
        words = refl;
        ops = refl;
      });
  texts = λ v m l st ts parts h. never 1 t h;
  word_end = λ v m l st ts ws parts h. never 1 t h;
  label = λ v m l st ts ws parts marked h. never 1 t h;
  operations = λ v m l st ts ws ops parts all h. never 1 t h;
  idle = λ v m l st ts ws n parts low high h. never 1 t h;
})

-- a text

text_from : (marks : List Bool) (total v m l : ℕ) (st : List (ℕ × ℤ)) (ts : List (List ℕ)) (text : List ℕ) (s t : Before) → Parts total v m l st ts []
    → s.words ≡ [] → s.ops ≡ [] → so_far marks s ≡ body marks v m st ts []
    → accepted (bytes_eq (quoted_text (unquoted text)) text) (shape Texts v m l st (ts ++ unquoted text ∷ []) [] [] 0) ≡ Ok t → Extends marks total s text t
text_from marks total v m l st ts text s t parts words ops before h =
    let bytes = unquoted text in
    let a = accepted_ok (bytes_eq (quoted_text bytes) text) (shape Texts v m l st (ts ++ bytes ∷ []) [] [] 0) t h in
    let same : quoted_text bytes ≡ text = is_same_text (quoted_text bytes) text a.0 in
    let more : Parts total v m l st (ts ++ bytes ∷ []) [] = record { version = parts.version; whole = parts.whole; small = parts.small; start = parts.start; least = parts.least; words = refl } in
    subst (Extends marks total s text) a.1 (record {
      spelled = subst (λ x. body marks v m st (ts ++ bytes ∷ []) [] ≡ so_far marks s ++ line x) same (rw before (text_body marks v m st ts bytes));
      good = at_texts v m l st (ts ++ bytes ∷ []) more refl;
      words = sym words;
      ops = sym ops;
    })

pub text_extends : (marks : List Bool) (total : ℕ) (text : List ℕ) (t : Before) (s : Before) → Good marks total s → text_step s text ≡ Ok t → Extends marks total s text t
unfolding text_step
text_extends marks total text t s = by_cases marks total (λ s. text_step s text ≡ Ok t → Extends marks total s text t) s (record {
  start = λ h. never 1 t h;
  version = λ v known h. never 1 t h;
  memory = λ v m l st parts h. text_from marks total v m l st [] text (shape Memory v m l st [] [] [] 0) t parts refl refl refl h;
  texts = λ v m l st ts parts h. text_from marks total v m l st ts text (shape Texts v m l st ts [] [] 0) t parts refl refl refl h;
  word_end = λ v m l st ts ws parts h. never 1 t h;
  label = λ v m l st ts ws parts marked h. never 1 t h;
  operations = λ v m l st ts ws ops parts all h. never 1 t h;
  idle = λ v m l st ts ws n parts low high h. never 1 t h;
})

-- a label

not_stood : (b c : Bool) (x t : Before) → (if b then refused 5 else accepted c x) ≡ taken t → (c ≡ true) × (x ≡ t)
not_stood true c x t e = absurd cc
not_stood false c x t e = accepted_ok c x t e

no_label : (b : Bool) (t : Before) → (if b then refused 5 else refused 1) ≡ taken t → ⊥
no_label true t e = cc
no_label false t e = cc

label_from : (marks : List Bool) (total v m l : ℕ) (st : List (ℕ × ℤ)) (ts : List (List ℕ)) (ws : List Word) (p : ℕ) (text : List ℕ) (stood : Bool) (s t : Before) → Parts total v m l st ts ws
    → s.words ≡ ws → s.ops ≡ [] → so_far marks s ≡ body marks v m st ts ws → place_text p ≡ text
    → (if stood then refused 5 else accepted (nat_eq p (length ws) && get_or marks (length ws) false) (shape Label v m l st ts ws [] 0)) ≡ taken t
    → Extends marks total s text t
label_from marks total v m l st ts ws p text stood s t parts words ops before same h =
    let a = not_stood stood (nat_eq p (length ws) && get_or marks (length ws) false) (shape Label v m l st ts ws [] 0) t h in
    let b = both_true (nat_eq p (length ws)) (get_or marks (length ws) false) a.0 in
    let here : p ≡ length ws = eqb-true _ _ b.0 in
    subst (Extends marks total s text) a.1 (record {
      spelled = subst (λ x. body marks v m st ts ws ++ label_line (length ws) ≡ so_far marks s ++ line x) same
          (rw before (ap (λ k. body marks v m st ts ws ++ label_line k) (sym here)));
      good = at_label v m l st ts ws parts b.1 refl;
      words = sym words;
      ops = sym ops;
    })

label_by_extends : (marks : List Bool) (total p : ℕ) (text : List ℕ) (t : Before) (s : Before) → Good marks total s → place_text p ≡ text → label_by marks s p ≡ Ok t → Extends marks total s text t
unfolding label_by
label_by_extends marks total p text t s good same = by_cases marks total (λ s. label_by marks s p ≡ Ok t → Extends marks total s text t) s (record {
  start = λ h. absurd (no_label (label_stood marks beginning p) t h);
  version = λ v known h. absurd (no_label (label_stood marks (shape Version v 0 0 [] [] [] [] 0) p) t h);
  memory = λ v m l st parts h. label_from marks total v m l st [] [] p text (label_stood marks (shape Memory v m l st [] [] [] 0) p) (shape Memory v m l st [] [] [] 0) t parts refl refl refl same h;
  texts = λ v m l st ts parts h. label_from marks total v m l st ts [] p text (label_stood marks (shape Texts v m l st ts [] [] 0) p) (shape Texts v m l st ts [] [] 0) t parts refl refl refl same h;
  word_end = λ v m l st ts ws parts h. label_from marks total v m l st ts ws p text (label_stood marks (shape WordEnd v m l st ts ws [] 0) p) (shape WordEnd v m l st ts ws [] 0) t parts refl refl refl same h;
  label = λ v m l st ts ws parts marked h. absurd (no_label (label_stood marks (shape Label v m l st ts ws [] 0) p) t h);
  operations = λ v m l st ts ws ops parts all h. absurd (no_label (label_stood marks (shape Operations v m l st ts ws ops 0) p) t h);
  idle = λ v m l st ts ws n parts low high h. absurd (no_label (label_stood marks (shape Idle v m l st ts ws [] n) p) t h);
}) good

tested : (b : Bool) (r : Result Before ℕ) (t : Before) → (if b then r else refused 1) ≡ taken t → (b ≡ true) × (r ≡ taken t)
tested true r t e = (refl, e)
tested false r t e = absurd cc

pub label_extends : (marks : List Bool) (total : ℕ) (text : List ℕ) (t : Before) (s : Before) → Good marks total s → label_step marks s text ≡ Ok t → Extends marks total s text t
unfolding label_step
label_extends marks total text t s good h =
    let p = (number_at (drop 1 text)).0 in
    let b = tested (bytes_eq (place_text p) text) (label_by marks s p) t h in
    label_by_extends marks total p text t s good (is_same_text (place_text p) text b.0) b.1

-- an empty time

marked_label : (marks : List Bool) (p : ℕ) → get_or marks p false ≡ true → label_at marks p ≡ label_line p
marked_label marks p e = rw e refl

unmarked_label : (marks : List Bool) (p : ℕ) → not (get_or marks p false) ≡ true → label_at marks p ≡ []
unmarked_label marks p e = unmarked_by marks p (get_or marks p false) refl e
  where
    unmarked_by : (marks : List Bool) (p : ℕ) (b : Bool) → get_or marks p false ≡ b → not b ≡ true → label_at marks p ≡ []
    unmarked_by marks p true e h = absurd cc
    unmarked_by marks p false e h = rw e refl

idle_from : (marks : List Bool) (total v m l : ℕ) (st : List (ℕ × ℤ)) (ts : List (List ℕ)) (ws : List Word) (n : ℕ) (text : List ℕ) (begins : Bool) (s t : Before) → Parts total v m l st ts ws
    → s.words ≡ ws → s.ops ≡ [] → (begins ≡ true → so_far marks s ≡ body marks v m st ts ws ++ label_at marks (length ws))
    → accepted (begins && nat_le 1 n && nat_le n 255 && bytes_eq (idle_text n) text) (shape Idle v m l st ts ws [] n) ≡ Ok t
    → Extends marks total s text t
idle_from marks total v m l st ts ws n text begins s t parts words ops before h =
    let a = accepted_ok (begins && nat_le 1 n && nat_le n 255 && bytes_eq (idle_text n) text) (shape Idle v m l st ts ws [] n) t h in
    let b1 = both_true (begins && nat_le 1 n && nat_le n 255) (bytes_eq (idle_text n) text) a.0 in
    let b2 = both_true (begins && nat_le 1 n) (nat_le n 255) b1.0 in
    let b3 = both_true begins (nat_le 1 n) b2.0 in
    let same : idle_text n ≡ text = is_same_text (idle_text n) text b1.1 in
    subst (Extends marks total s text) a.1 (record {
      spelled = subst (λ x. body marks v m st ts ws ++ (label_at marks (length ws) ++ line (idle_text n)) ≡ so_far marks s ++ line x) same
          (rw (before b3.0) (sym (append_assoc (body marks v m st ts ws) (label_at marks (length ws)) (line (idle_text n)))));
      good = at_idle v m l st ts ws n parts b3.1 b2.1 refl;
      words = sym words;
      ops = sym ops;
    })

-- behind no label, where none stands
unlabelled : (marks : List Bool) (p : ℕ) (text : List ℕ) → not (get_or marks p false) ≡ true → text ≡ text ++ label_at marks p
unlabelled marks p text e = rw (unmarked_label marks p e) (sym (append-nil text))

labelled : (marks : List Bool) (p : ℕ) (text : List ℕ) → get_or marks p false ≡ true → text ++ label_line p ≡ text ++ label_at marks p
labelled marks p text e = ap (λ x. text ++ x) (sym (marked_label marks p e))

pub idle_extends : (marks : List Bool) (total : ℕ) (text : List ℕ) (t : Before) (s : Before) → Good marks total s → idle_step marks s text ≡ Ok t → Extends marks total s text t
unfolding idle_step
idle_extends marks total text t s = by_cases marks total (λ s. idle_step marks s text ≡ Ok t → Extends marks total s text t) s (record {
  start = λ h. never 1 t h;
  version = λ v known h. never 1 t h;
  memory = λ v m l st parts h. idle_from marks total v m l st [] [] (number_at (drop 5 text)).0 text (not (get_or marks 0 false)) (shape Memory v m l st [] [] [] 0) t parts refl refl (unlabelled marks 0 (body marks v m st [] [])) h;
  texts = λ v m l st ts parts h. idle_from marks total v m l st ts [] (number_at (drop 5 text)).0 text (not (get_or marks 0 false)) (shape Texts v m l st ts [] [] 0) t parts refl refl (unlabelled marks 0 (body marks v m st ts [])) h;
  word_end = λ v m l st ts ws parts h. idle_from marks total v m l st ts ws (number_at (drop 5 text)).0 text (not (get_or marks (length ws) false)) (shape WordEnd v m l st ts ws [] 0) t parts refl refl (unlabelled marks (length ws) (body marks v m st ts ws)) h;
  label = λ v m l st ts ws parts marked h. idle_from marks total v m l st ts ws (number_at (drop 5 text)).0 text true (shape Label v m l st ts ws [] 0) t parts refl refl (λ _. labelled marks (length ws) (body marks v m st ts ws) marked) h;
  operations = λ v m l st ts ws ops parts all h. never 1 t h;
  idle = λ v m l st ts ws n parts low high h. never 1 t h;
})

-- the end of a word

pub record Ends (marks : List Bool) (total : ℕ) (s t : Before) : Type 0 where
  pub spelled : so_far marks t ≡ so_far marks s ++ line (codes ";;")
  pub good : Good marks total t
  pub words : t.words ≡ s.words ++ record { ops = s.ops; idle = s.idle } ∷ []
  pub ops : t.ops ≡ []

or_false : (b : Bool) → (b || false) ≡ true → b ≡ true
or_false true e = refl
or_false false e = absurd cc

or_true : (b : Bool) → (b || true) ≡ true
or_true true = refl
or_true false = refl

idle_sound : (total texts n : ℕ) → nat_le n 255 ≡ true → is_sound_word total texts (record { ops = []; idle = n }) ≡ true
idle_sound total texts n high = rw high (rw (or_true (nat_eq n 0)) refl)

not_zero : (n : ℕ) → nat_le 1 n ≡ true → nat_eq n 0 ≡ false
not_zero n e = let le : 1 ≤ n = leb-true _ _ e in grind (arith, nat_tests)

word_end_from : (marks : List Bool) (total v m l : ℕ) (st : List (ℕ × ℤ)) (ts : List (List ℕ)) (ws : List Word) (ops : List Operation) (n : ℕ) (begins : Bool) (s t : Before) → Parts total v m l st ts ws
    → is_sound_word total (length ts) (record { ops = ops; idle = n }) ≡ true → s.words ≡ ws → s.ops ≡ ops → s.idle ≡ n
    → (begins ≡ true → body marks v m st ts ws ++ (label_at marks (length ws) ++ word_lines (record { ops = ops; idle = n })) ≡ so_far marks s ++ line (codes ";;"))
    → accepted begins (shape WordEnd v m l st ts (ws ++ record { ops = ops; idle = n } ∷ []) [] 0) ≡ Ok t
    → Ends marks total s t
word_end_from marks total v m l st ts ws ops n begins s t parts sound words same_ops same_idle before h =
    let w : Word = record { ops = ops; idle = n } in
    let a = accepted_ok begins (shape WordEnd v m l st ts (ws ++ w ∷ []) [] 0) t h in
    let more : Parts total v m l st ts (ws ++ w ∷ []) = record { version = parts.version; whole = parts.whole; small = parts.small; start = parts.start; least = parts.least; words = all_more (is_sound_word total (length ts)) ws w parts.words sound } in
    subst (Ends marks total s) a.1 (record {
      spelled = word_body marks v m st ts ws w ∙ before a.0;
      good = at_word_end v m l st ts (ws ++ w ∷ []) more refl;
      words = rw (words, same_ops, same_idle) refl;
      ops = refl;
    })

abbrev end_line : List ℕ
end_line = line (codes ";;")

-- the four texts before the end of a word
end_unlabelled : (marks : List Bool) (p : ℕ) (B : List ℕ) → not (get_or marks p false) ≡ true → B ++ (label_at marks p ++ ([] ++ end_line)) ≡ B ++ end_line
end_unlabelled marks p B e = rw (unmarked_label marks p e) refl

end_labelled : (marks : List Bool) (p : ℕ) (B : List ℕ) → get_or marks p false ≡ true → B ++ (label_at marks p ++ ([] ++ end_line)) ≡ (B ++ label_line p) ++ end_line
end_labelled marks p B e = rw (marked_label marks p e) (sym (append_assoc B (label_line p) end_line))

end_regrouped : (B L X : List ℕ) → B ++ (L ++ (X ++ end_line)) ≡ (B ++ (L ++ X)) ++ end_line
end_regrouped B L X = simp append_assoc

pub word_end_extends : (marks : List Bool) (total : ℕ) (t : Before) (s : Before) → Good marks total s → word_end_step marks s ≡ Ok t → Ends marks total s t
unfolding word_end_step
word_end_extends marks total t s = by_cases marks total (λ s. word_end_step marks s ≡ Ok t → Ends marks total s t) s (record {
  start = λ h. never 1 t h;
  version = λ v known h. never 1 t h;
  memory = λ v m l st parts h. word_end_from marks total v m l st [] [] [] 0 ((not (get_or marks 0 false) || false) || false) (shape Memory v m l st [] [] [] 0) t parts refl refl refl refl
      (λ e. end_unlabelled marks 0 (body marks v m st [] []) (or_false _ (or_false _ e))) h;
  texts = λ v m l st ts parts h. word_end_from marks total v m l st ts [] [] 0 ((not (get_or marks 0 false) || false) || false) (shape Texts v m l st ts [] [] 0) t parts refl refl refl refl
      (λ e. end_unlabelled marks 0 (body marks v m st ts []) (or_false _ (or_false _ e))) h;
  word_end = λ v m l st ts ws parts h. word_end_from marks total v m l st ts ws [] 0 ((not (get_or marks (length ws) false) || false) || false) (shape WordEnd v m l st ts ws [] 0) t parts refl refl refl refl
      (λ e. end_unlabelled marks (length ws) (body marks v m st ts ws) (or_false _ (or_false _ e))) h;
  label = λ v m l st ts ws parts marked h. word_end_from marks total v m l st ts ws [] 0 true (shape Label v m l st ts ws [] 0) t parts refl refl refl refl
      (λ _. end_labelled marks (length ws) (body marks v m st ts ws) marked) h;
  operations = λ v m l st ts ws ops parts all h. word_end_from marks total v m l st ts ws ops 0 true (shape Operations v m l st ts ws ops 0) t parts all refl refl refl
      (λ _. end_regrouped (body marks v m st ts ws) (label_at marks (length ws)) (flat_map operation_line ops)) h;
  idle = λ v m l st ts ws n parts low high h. word_end_from marks total v m l st ts ws [] n true (shape Idle v m l st ts ws [] n) t parts (idle_sound total (length ts) n high) refl refl refl
      (λ _. rw (not_zero n low) (end_regrouped (body marks v m st ts ws) (label_at marks (length ws)) (line (idle_text n)))) h;
})

-- an operation

pub record Adds (marks : List Bool) (total : ℕ) (s : Before) (op : Operation) (text : List ℕ) (t : Before) : Type 0 where
  pub spelled : so_far marks t ≡ so_far marks s ++ line text
  pub good : Good marks total t
  pub words : t.words ≡ s.words
  pub ops : t.ops ≡ s.ops ++ op ∷ []

three_tests : (b c d : Bool) (x t : Before) → (if b then refused 3 else (if c then refused 4 else accepted d x)) ≡ taken t → (b ≡ false) × (c ≡ false) × (d ≡ true) × (x ≡ t)
three_tests true c d x t e = absurd cc
three_tests false true d x t e = absurd cc
three_tests false false d x t e = let a = accepted_ok d x t e in (refl, refl, a.0, a.1)

-- what is known of the operation and its line
pub record IsRead (total k : ℕ) (op : Operation) (text : List ℕ) : Type 0 where
  pub formed : has_operands op ≡ true
  pub spelled : nat_eq k (cluster_of op) ≡ true → is_beyond total op ≡ false → operation_text op ≡ text

regroup_operations : (B L X Y : List ℕ) → B ++ (L ++ (X ++ (Y ++ []))) ≡ (B ++ (L ++ X)) ++ Y
regroup_operations B L X Y = simp (append_assoc, append-nil)

operations_more : (B L : List ℕ) (ops : List Operation) (op : Operation) → B ++ (L ++ flat_map operation_line (ops ++ op ∷ [])) ≡ (B ++ (L ++ flat_map operation_line ops)) ++ operation_line op
operations_more B L ops op =
    ap (λ x. B ++ (L ++ x)) (flat_map-append operation_line ops (op ∷ [])) ∙ regroup_operations B L (flat_map operation_line ops) (operation_line op)

operation_from : (marks : List Bool) (total v m l : ℕ) (st : List (ℕ × ℤ)) (ts : List (List ℕ)) (ws : List Word) (ops : List Operation) (k : ℕ) (op : Operation) (text : List ℕ) (begins : Bool) (s t : Before)
    → Parts total v m l st ts ws → list_all (is_sound_operation total (length ts)) ops ≡ true → s.words ≡ ws → s.ops ≡ ops → IsRead total k op text
    → (begins ≡ true → body marks v m st ts ws ++ (label_at marks (length ws) ++ flat_map operation_line ops) ≡ so_far marks s)
    → (if nat_lt (length ts) (texts_named op) then refused 3 else (if is_beyond total op then refused 4 else accepted (nat_eq k (cluster_of op) && begins) (shape Operations v m l st ts ws (ops ++ op ∷ []) 0))) ≡ taken t
    → Adds marks total s op text t
operation_from marks total v m l st ts ws ops k op text begins s t parts all words same_ops read before h =
    let a = three_tests (nat_lt (length ts) (texts_named op)) (is_beyond total op) (nat_eq k (cluster_of op) && begins) (shape Operations v m l st ts ws (ops ++ op ∷ []) 0) t h in
    let b = both_true (nat_eq k (cluster_of op)) begins a.2 in
    let sound : is_sound_operation total (length ts) op ≡ true = sound_operation total (length ts) op read.formed a.0 a.1 in
    let same : operation_text op ≡ text = read.spelled b.0 a.1 in
    subst (Adds marks total s op text) a.3 (record {
      spelled = subst (λ x. body marks v m st ts ws ++ (label_at marks (length ws) ++ flat_map operation_line (ops ++ op ∷ [])) ≡ so_far marks s ++ line x) same
          (operations_more (body marks v m st ts ws) (label_at marks (length ws)) ops op ∙ ap (λ x. x ++ operation_line op) (before b.1));
      good = at_operations v m l st ts ws (ops ++ op ∷ []) parts (all_more (is_sound_operation total (length ts)) ops op all sound) refl;
      words = sym words;
      ops = rw same_ops refl;
    })

abbrev begins_unlabelled : (marks : List Bool) (p : ℕ) (B : List ℕ) → (not (get_or marks p false) || false) ≡ true → B ++ (label_at marks p ++ []) ≡ B
begins_unlabelled marks p B e = rw (unmarked_label marks p (or_false _ e)) (append-nil B)

begins_labelled : (marks : List Bool) (p : ℕ) (B : List ℕ) → get_or marks p false ≡ true → B ++ (label_at marks p ++ []) ≡ B ++ label_line p
begins_labelled marks p B e = rw (marked_label marks p e) (ap (λ x. B ++ x) (append-nil (label_line p)))

no_operation : (b c d : Bool) (x t : Before) → (if b then refused 3 else (if c then refused 4 else accepted (d && false) x)) ≡ taken t → ⊥
no_operation b c d x t e = let a = three_tests b c (d && false) x t e in let no : false ≡ true = (both_true d false a.2).1 in cc

not_beyond : (marks : List Bool) (total k : ℕ) (op : Operation) (s t : Before) → operation_by_stage marks total s k op ≡ taken t → (is_beyond total op ≡ false) × (nat_eq k (cluster_of op) ≡ true)
unfolding operation_by_stage
not_beyond marks total k op s t h =
    let a = three_tests (nat_lt (length s.texts) (texts_named op)) (is_beyond total op) (nat_eq k (cluster_of op) && (begins_word marks s || is_operations_stage s.stage)) (record s { stage = Operations; ops = s.ops ++ op ∷ [] }) t h in
    (a.1, (both_true (nat_eq k (cluster_of op)) (begins_word marks s || is_operations_stage s.stage) a.2).0)

operation_by_stage_adds : (marks : List Bool) (total k : ℕ) (op : Operation) (text : List ℕ) (t : Before) (s : Before) → Good marks total s → IsRead total k op text → operation_by_stage marks total s k op ≡ Ok t
    → Adds marks total s op text t
unfolding operation_by_stage
operation_by_stage_adds marks total k op text t s good read = by_cases marks total (λ s. operation_by_stage marks total s k op ≡ Ok t → Adds marks total s op text t) s (record {
  start = λ h. absurd (no_operation (nat_lt 0 (texts_named op)) (is_beyond total op) (nat_eq k (cluster_of op)) (record beginning { stage = Operations; ops = op ∷ [] }) t h);
  version = λ v known h. absurd (no_operation (nat_lt 0 (texts_named op)) (is_beyond total op) (nat_eq k (cluster_of op)) (shape Operations v 0 0 [] [] [] (op ∷ []) 0) t h);
  memory = λ v m l st parts h. operation_from marks total v m l st [] [] [] k op text (not (get_or marks 0 false) || false) (shape Memory v m l st [] [] [] 0) t parts refl refl refl read
      (begins_unlabelled marks 0 (body marks v m st [] [])) h;
  texts = λ v m l st ts parts h. operation_from marks total v m l st ts [] [] k op text (not (get_or marks 0 false) || false) (shape Texts v m l st ts [] [] 0) t parts refl refl refl read
      (begins_unlabelled marks 0 (body marks v m st ts [])) h;
  word_end = λ v m l st ts ws parts h. operation_from marks total v m l st ts ws [] k op text (not (get_or marks (length ws) false) || false) (shape WordEnd v m l st ts ws [] 0) t parts refl refl refl read
      (begins_unlabelled marks (length ws) (body marks v m st ts ws)) h;
  label = λ v m l st ts ws parts marked h. operation_from marks total v m l st ts ws [] k op text true (shape Label v m l st ts ws [] 0) t parts refl refl refl read
      (λ _. begins_labelled marks (length ws) (body marks v m st ts ws) marked) h;
  operations = λ v m l st ts ws ops parts all h. operation_from marks total v m l st ts ws ops k op text true (shape Operations v m l st ts ws ops 0) t parts all refl refl read (λ _. refl) h;
  idle = λ v m l st ts ws n parts low high h. absurd (no_operation (nat_lt (length ts) (texts_named op)) (is_beyond total op) (nat_eq k (cluster_of op)) (shape Operations v m l st ts ws (op ∷ []) n) t h);
}) good

abbrev found : Operation → Result Operation ℕ
found op = Ok op

added : (marks : List Bool) (total k : ℕ) (r : Result Operation ℕ) (s t : Before) → operation_added marks total s k r ≡ Ok t → (op : Operation) × (r ≡ found op) × (operation_by_stage marks total s k op ≡ taken t)
added marks total k (Ok op) s t e = (op, refl, e)
added marks total k (Err code) s t e = never code t e

pub operation_adds : (marks : List Bool) (total : ℕ) (text : List ℕ) (t : Before) (s : Before) → Good marks total s → total ≤ 4294967295 → is_operation_line text ≡ true
    → operation_step marks total s (line_cluster text) (drop 3 text) ≡ Ok t
    → (op : Operation) × (operation_of (line_cluster text) (drop 3 text) ≡ found op) × (nat_eq (line_cluster text) (cluster_of op) ≡ true) × Adds marks total s op text t
unfolding operation_step
operation_adds marks total text t s good le e h =
    let k = line_cluster text in
    let a = added marks total k (operation_of k (drop 3 text)) s t h in
    let op = a.0 in
    let beyond = not_beyond marks total k op s t a.2 in
    let read : IsRead total k op text = record {
      formed = (body_spelled total k (drop 3 text) op a.1 beyond.0 le).1;
      spelled = λ same b. operation_spelled total text op e a.1 same b le;
    } in
    (op, a.1, beyond.1, operation_by_stage_adds marks total k op text t s good read a.2)
