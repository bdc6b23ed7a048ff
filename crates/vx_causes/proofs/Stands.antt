-- What a reader's state says of the lines before it, where none of them is faulty.
use Rattle.std.proofs.Common.{◌≡◌, ◌⊎◌, inl, inr, ℕ, ◌+◌, ◌<◌, ◌≤◌, ℤ, Bool, true, false, ◌&&◌, ◌||◌, List, [], ◌∷◌, ◌++◌, length, get_or, refl, sym, ap, subst, ◌∙◌, arith}
use Rattle.std.specs.Prelude.{nat_eq, nat_lt, not}
use Rattle.std.proofs.lemmas.Bool.{lt-ltb, eq-eqb, cases_lt}
use Rattle.std.proofs.lemmas.Bool.Decides.{nat_tests}
use borrow.Author.Tests.{eqb-true, ltb-true}
use Rattle.vx_isa.specs.declared.operation.Operation.{Operation}
use Rattle.vx_reader.specs.declared.before.Stage.{Stage}
use Rattle.vx_reader.specs.declared.before.Stage.TheVariants.{Start as AtStart, Version as AtVersion, Memory as AtMemory, Texts as AtTexts, WordEnd as AtWordEnd, Label as AtLabel, Operations as AtOperations, Idle as AtIdle}
use Rattle.vx_reader.specs.declared.before.Before.{Before}
use Rattle.vx_words.specs.Spelling.{place_text}
use Rattle.vx_reader.specs.Steps.{is_start_stage, is_version_stage, is_memory_stage, is_text_stage, is_between_words, is_label_stage, is_operations_stage, is_idle_stage, is_marked, begins_word, label_stood}
use Rattle.vx_reader.specs.Text.{word_count, is_word_end}
use Rattle.vx_reader.proofs.Numbers.{both_true}
use Rattle.vx_causes.specs.Lines.{Version, Memory, Start, Quoted, Label, Operates, Idle, WordEnd, text_of, IsLast, IsAmong, IsNamed, is_quoted, text_count, BehindVersion, InMemory, behind_size, behind_start, TextsBegin, behind_memory, behind_text, IsBetweenWords, behind_texts, behind_word, BeginsWord, behind_label, unnamed}
use Rattle.vx_causes.proofs.Lasts.{initial, last_initial, is_last_initial, among_more, among_last, among_split, one_of, word_count_more, text_count_more}

-- the whole text, and what a reader found of it beforehand
pub record Setting (all : List (List ℕ)) (marks : List Bool) (total : ℕ) : Type 0 where
  pub total_is : word_count all ≡ total
  pub small : total < 4294967295
  pub marked : (p : ℕ) → p ≤ total → get_or marks p false ≡ true → IsNamed all p
  pub named : (p : ℕ) → p ≤ total → IsNamed all p → get_or marks p false ≡ true

-- the last line, by the stage
abbrev pub At : Stage → ℕ → List (List ℕ) → Type 0
At AtStart least before = (before ≡ []) × (least ≡ 0)
At AtVersion least before = BehindVersion before × (least ≡ 0)
At AtMemory least before =
    ((n : ℕ) × IsLast before (Memory n) × (least ≡ 0))
    ⊎ ((entry : ℕ × ℤ) × IsLast before (Start entry) × (least ≡ entry.0 + 1) × (entry.0 ≤ 4294967295))
At AtTexts least before = (bytes : List ℕ) × IsLast before (Quoted bytes)
At AtWordEnd least before = IsLast before WordEnd
At AtLabel least before = (p : ℕ) × IsLast before (Label p)
At AtOperations least before = (op : Operation) × IsLast before (Operates op)
At AtIdle least before = (n : ℕ) × IsLast before (Idle n)

-- the labels before are those of the marked places below b
pub record Labels (marks : List Bool) (before : List (List ℕ)) (b : ℕ) : Type 0 where
  pub labels : (text : List ℕ) → IsAmong text before → initial text ≡ 76 → (p : ℕ) × (text ≡ place_text p) × (get_or marks p false ≡ true) × (p < b)
  pub stood : (p : ℕ) → get_or marks p false ≡ true → p < b → IsAmong (place_text p) before

-- 1 where a word is begun
abbrev pub begun : Stage → ℕ
begun AtLabel = 1
begun AtOperations = 1
begun AtIdle = 1
begun stage = 0

-- the size of the memory stood before
abbrev pub is_open : Stage → Bool
is_open AtStart = false
is_open AtVersion = false
is_open stage = true

pub record Stands (marks : List Bool) (before : List (List ℕ)) (s : Before) : Type 0 where
  pub last : At s.stage s.least before
  pub words : length s.words ≡ word_count before
  pub texts : length s.texts ≡ text_count before
  pub version_stood : is_start_stage s.stage ≡ false → (v : ℕ) × IsAmong (text_of (Version v)) before
  pub memory_stood : is_open s.stage ≡ true → IsAmong (text_of (Memory s.memory)) before
  pub memory_only : (n : ℕ) → n ≤ 134217728 → IsAmong (text_of (Memory n)) before → n ≡ s.memory
  pub memory_small : s.memory ≤ 134217728
  pub labels : Labels marks before (length s.words + begun s.stage)

-- stages by the first letter of the last line

abbrev pub memory_initial : ℕ → Bool
memory_initial n = nat_eq n 109 || nat_eq n 119

abbrev pub texts_initial : ℕ → Bool
texts_initial n = memory_initial n || nat_eq n 116

abbrev pub between_initial : ℕ → Bool
between_initial n = texts_initial n || nat_eq n 59

-- what each stage is asked, asked of the first letter of the last line
pub record ByInitial (stage : Stage) (n : ℕ) : Type 0 where
  pub between : is_between_words stage ≡ between_initial n
  pub texts : is_text_stage stage ≡ texts_initial n
  pub memory : is_memory_stage stage ≡ memory_initial n
  pub version : is_version_stage stage ≡ nat_eq n 118
  pub label : is_label_stage stage ≡ nat_eq n 76
  pub operations : is_operations_stage stage ≡ nat_eq n 99
  pub idle : is_idle_stage stage ≡ nat_eq n 120

at_literal : (stage : Stage) (n k : ℕ) → n ≡ k → ByInitial stage k → ByInitial stage n
at_literal stage n k e x = subst (ByInitial stage) (sym e) x

pub by_initial : (stage : Stage) (least : ℕ) (before : List (List ℕ)) → At stage least before → ByInitial stage (last_initial before)
by_initial AtStart least before x = at_literal AtStart (last_initial before) 0 (ap last_initial x.0) (record { between = refl; texts = refl; memory = refl; version = refl; label = refl; operations = refl; idle = refl })
by_initial AtVersion least before x = at_literal AtVersion (last_initial before) 118 (ap last_initial x.0.is) (record { between = refl; texts = refl; memory = refl; version = refl; label = refl; operations = refl; idle = refl })
by_initial AtMemory least before (inl x) = at_literal AtMemory (last_initial before) 109 (is_last_initial before (Memory x.0) x.1) (record { between = refl; texts = refl; memory = refl; version = refl; label = refl; operations = refl; idle = refl })
by_initial AtMemory least before (inr x) = at_literal AtMemory (last_initial before) 119 (is_last_initial before (Start x.0) x.1) (record { between = refl; texts = refl; memory = refl; version = refl; label = refl; operations = refl; idle = refl })
by_initial AtTexts least before x = at_literal AtTexts (last_initial before) 116 (is_last_initial before (Quoted x.0) x.1) (record { between = refl; texts = refl; memory = refl; version = refl; label = refl; operations = refl; idle = refl })
by_initial AtWordEnd least before x = at_literal AtWordEnd (last_initial before) 59 (is_last_initial before WordEnd x) (record { between = refl; texts = refl; memory = refl; version = refl; label = refl; operations = refl; idle = refl })
by_initial AtLabel least before x = at_literal AtLabel (last_initial before) 76 (is_last_initial before (Label x.0) x.1) (record { between = refl; texts = refl; memory = refl; version = refl; label = refl; operations = refl; idle = refl })
by_initial AtOperations least before x = at_literal AtOperations (last_initial before) 99 (is_last_initial before (Operates x.0) x.1) (record { between = refl; texts = refl; memory = refl; version = refl; label = refl; operations = refl; idle = refl })
by_initial AtIdle least before x = at_literal AtIdle (last_initial before) 120 (is_last_initial before (Idle x.0) x.1) (record { between = refl; texts = refl; memory = refl; version = refl; label = refl; operations = refl; idle = refl })

in_memory_initial : (before : List (List ℕ)) → InMemory before → memory_initial (last_initial before) ≡ true
in_memory_initial before (behind_size n x) = ap memory_initial (is_last_initial before (Memory n) x)
in_memory_initial before (behind_start e x) = ap memory_initial (is_last_initial before (Start e) x)

pub or_left : (a b : Bool) → a ≡ true → (a || b) ≡ true
or_left a b e = rw e refl

pub or_right : (a b : Bool) → b ≡ true → (a || b) ≡ true
or_right true b e = refl
or_right false b e = e

texts_begin_initial : (before : List (List ℕ)) → TextsBegin before → texts_initial (last_initial before) ≡ true
texts_begin_initial before (behind_memory x) = or_left (memory_initial (last_initial before)) (nat_eq (last_initial before) 116) (in_memory_initial before x)
texts_begin_initial before (behind_text bytes x) = ap texts_initial (is_last_initial before (Quoted bytes) x)

between_words_initial : (before : List (List ℕ)) → IsBetweenWords before → between_initial (last_initial before) ≡ true
between_words_initial before (behind_texts x) = or_left (texts_initial (last_initial before)) (nat_eq (last_initial before) 59) (texts_begin_initial before x)
between_words_initial before (behind_word x) = ap between_initial (is_last_initial before WordEnd x)

-- a stage, and what the lines say

pub no_test : {A : Type 0} → false ≡ true → A
no_test e = absurd (let never : false ≡ true = e in cc)

in_memory_at : (stage : Stage) (least : ℕ) (before : List (List ℕ)) → At stage least before → is_memory_stage stage ≡ true → InMemory before
in_memory_at AtMemory least before (inl x) e = behind_size x.0 x.1
in_memory_at AtMemory least before (inr x) e = behind_start x.0 x.1
in_memory_at stage least before x e = no_test e

pub texts_begin_at : (stage : Stage) (least : ℕ) (before : List (List ℕ)) → At stage least before → is_text_stage stage ≡ true → TextsBegin before
texts_begin_at AtMemory least before x e = behind_memory (in_memory_at AtMemory least before x refl)
texts_begin_at AtTexts least before x e = behind_text x.0 x.1
texts_begin_at stage least before x e = no_test e

pub between_at : (stage : Stage) (least : ℕ) (before : List (List ℕ)) → At stage least before → is_between_words stage ≡ true → IsBetweenWords before
between_at AtMemory least before x e = behind_texts (texts_begin_at AtMemory least before x refl)
between_at AtTexts least before x e = behind_texts (texts_begin_at AtTexts least before x refl)
between_at AtWordEnd least before x e = behind_word x
between_at stage least before x e = no_test e

label_at : (stage : Stage) (least : ℕ) (before : List (List ℕ)) → At stage least before → is_label_stage stage ≡ true → (p : ℕ) × IsLast before (Label p)
label_at AtLabel least before x e = x
label_at stage least before x e = no_test e

pub operations_at : (stage : Stage) (least : ℕ) (before : List (List ℕ)) → At stage least before → is_operations_stage stage ≡ true → (op : Operation) × IsLast before (Operates op)
operations_at AtOperations least before x e = x
operations_at stage least before x e = no_test e

pub idle_at : (stage : Stage) (least : ℕ) (before : List (List ℕ)) → At stage least before → is_idle_stage stage ≡ true → (n : ℕ) × IsLast before (Idle n)
idle_at AtIdle least before x e = x
idle_at stage least before x e = no_test e

pub start_at : (stage : Stage) (least : ℕ) (before : List (List ℕ)) → At stage least before → is_start_stage stage ≡ true → before ≡ []
start_at AtStart least before x e = x.0
start_at stage least before x e = no_test e

pub version_at : (stage : Stage) (least : ℕ) (before : List (List ℕ)) → At stage least before → is_version_stage stage ≡ true → BehindVersion before
version_at AtVersion least before x e = x.0
version_at stage least before x e = no_test e

pub start_back : (stage : Stage) (least : ℕ) (before : List (List ℕ)) → At stage least before → before ≡ [] → is_start_stage stage ≡ true
start_back AtStart least before x e = refl
start_back AtVersion least before x e = absurd (let h = sym x.0.is ∙ e in cc)
start_back AtMemory least before (inl x) e = absurd (let h : 0 ≡ 109 = sym (ap last_initial e) ∙ is_last_initial before (Memory x.0) x.1 in omega (arith, h))
start_back AtMemory least before (inr x) e = absurd (let h : 0 ≡ 119 = sym (ap last_initial e) ∙ is_last_initial before (Start x.0) x.1 in omega (arith, h))
start_back AtTexts least before x e = absurd (let h : 0 ≡ 116 = sym (ap last_initial e) ∙ is_last_initial before (Quoted x.0) x.1 in omega (arith, h))
start_back AtWordEnd least before x e = absurd (let h : 0 ≡ 59 = sym (ap last_initial e) ∙ is_last_initial before WordEnd x in omega (arith, h))
start_back AtLabel least before x e = absurd (let h : 0 ≡ 76 = sym (ap last_initial e) ∙ is_last_initial before (Label x.0) x.1 in omega (arith, h))
start_back AtOperations least before x e = absurd (let h : 0 ≡ 99 = sym (ap last_initial e) ∙ is_last_initial before (Operates x.0) x.1 in omega (arith, h))
start_back AtIdle least before x e = absurd (let h : 0 ≡ 120 = sym (ap last_initial e) ∙ is_last_initial before (Idle x.0) x.1 in omega (arith, h))

-- open stages

pub open_between : (stage : Stage) → is_between_words stage ≡ true → is_open stage ≡ true
open_between AtStart e = e
open_between AtVersion e = e
open_between stage e = refl

pub open_texts : (stage : Stage) → is_text_stage stage ≡ true → is_open stage ≡ true
open_texts AtStart e = e
open_texts AtVersion e = e
open_texts stage e = refl

pub open_memory : (stage : Stage) → is_memory_stage stage ≡ true → is_open stage ≡ true
open_memory AtStart e = e
open_memory AtVersion e = e
open_memory stage e = refl

pub open_begun : (stage : Stage) → begun stage ≡ 1 → is_open stage ≡ true
open_begun AtStart e = absurd (omega (arith, e))
open_begun AtVersion e = absurd (omega (arith, e))
open_begun stage e = refl

pub open_no_start : (stage : Stage) → is_open stage ≡ true → is_start_stage stage ≡ false
open_no_start AtStart e = no_test e
open_no_start stage e = refl

pub not_header : (stage : Stage) → is_start_stage stage ≡ false → is_version_stage stage ≡ false → is_open stage ≡ true
not_header AtStart e f = absurd (let never : true ≡ false = e in cc)
not_header AtVersion e f = absurd (let never : true ≡ false = f in cc)
not_header stage e f = refl

pub label_begun : (stage : Stage) → is_label_stage stage ≡ true → begun stage ≡ 1
label_begun AtLabel e = refl
label_begun stage e = no_test e

pub operations_begun : (stage : Stage) → is_operations_stage stage ≡ true → begun stage ≡ 1
operations_begun AtOperations e = refl
operations_begun stage e = no_test e

pub idle_begun : (stage : Stage) → is_idle_stage stage ≡ true → begun stage ≡ 1
idle_begun AtIdle e = refl
idle_begun stage e = no_test e

pub between_begun : (stage : Stage) → is_between_words stage ≡ true → begun stage ≡ 0
between_begun AtLabel e = no_test e
between_begun AtOperations e = no_test e
between_begun AtIdle e = no_test e
between_begun stage e = refl

-- a label stood before where its place is marked and below the words so far

abbrev pub begun_test : Stage → Bool
begun_test stage = is_label_stage stage || is_operations_stage stage || is_idle_stage stage

begun_tests : (stage : Stage) → ((begun_test stage ≡ true) × (begun stage ≡ 1)) ⊎ ((begun_test stage ≡ false) × (begun stage ≡ 0))
begun_tests AtLabel = inl (refl, refl)
begun_tests AtOperations = inl (refl, refl)
begun_tests AtIdle = inl (refl, refl)
begun_tests stage = inr (refl, refl)

pub stood_told : (marks : List Bool) (s : Before) (p : ℕ) → label_stood marks s p ≡ true → (get_or marks p false ≡ true) × (p < length s.words + begun s.stage)
stood_told marks s p e =
    let b = both_true (get_or marks p false) (nat_lt p (length s.words) || (nat_eq p (length s.words) && begun_test s.stage)) e in
    (b.0, below_by (nat_lt p (length s.words)) refl b.1)
  where
    here : (p n : ℕ) (stage : Stage) → (nat_eq p n && begun_test stage) ≡ true → p < n + begun stage
    here p n stage h =
        let x = both_true (nat_eq p n) (begun_test stage) h in
        let same : p ≡ n = eqb-true _ _ x.0 in
        elim (begun_tests stage) [
          | inl y ↦ (let one = y.1 in omega (arith, same, one))
          | inr y ↦ no_test (sym y.0 ∙ x.1)
        ]

    below_by : (c : Bool) → nat_lt p (length s.words) ≡ c → (nat_lt p (length s.words) || (nat_eq p (length s.words) && begun_test s.stage)) ≡ true → p < length s.words + begun s.stage
    below_by true t h = let lt : p < length s.words = ltb-true _ _ t in omega (arith, lt)
    below_by false t h = here p (length s.words) s.stage (rw t at h)

pub told_stood : (marks : List Bool) (s : Before) (p : ℕ) → get_or marks p false ≡ true → p < length s.words + begun s.stage → label_stood marks s p ≡ true
told_stood marks s p m lt = rw m (by_order (cases_lt p (length s.words)))
  where
    tests : (stage : Stage) (n : ℕ) → p < n + begun stage → n ≤ p → (nat_lt p n || (nat_eq p n && begun_test stage)) ≡ true
    tests stage n lt le =
        elim (begun_tests stage) [
          | inl y ↦ (let one = y.1 in let same : p ≡ n = omega (arith, lt, le, one) in let never : nat_lt p n ≡ false = grind (arith, nat_tests) in rw (never, eq-eqb p n same, y.0) refl)
          | inr y ↦ (let none = y.1 in absurd (omega (arith, lt, le, none)))
        ]

    by_order : (p < length s.words) ⊎ (length s.words ≤ p) → (nat_lt p (length s.words) || (nat_eq p (length s.words) && begun_test s.stage)) ≡ true
    by_order (inl low) = rw (lt-ltb _ _ low) refl
    by_order (inr high) = tests s.stage (length s.words) lt high

-- labels behind one more line

no_label : (marks : List Bool) (before : List (List ℕ)) (text : List ℕ) (b c : ℕ) → b ≤ c → Labels marks before b → (initial text ≡ 76 → ⊥)
    → (x : List ℕ) → IsAmong x (before ++ text ∷ []) → initial x ≡ 76 → (p : ℕ) × (x ≡ place_text p) × (get_or marks p false ≡ true) × (p < c)
no_label marks before text b c le ls never x among e =
    elim (among_split x before text among) [
      | inl h ↦ (let y = ls.labels x h e in let lt = y.3 in (y.0, y.1, y.2, omega (arith, lt, le)))
      | inr h ↦ absurd (never (sym (ap initial h) ∙ e))
    ]

pub labels_same : (marks : List Bool) (before : List (List ℕ)) (text : List ℕ) (b : ℕ) → Labels marks before b → (initial text ≡ 76 → ⊥) → Labels marks (before ++ text ∷ []) b
labels_same marks before text b ls never = record {
  labels = no_label marks before text b b (omega arith) ls never;
  stood = λ p m lt. among_more (place_text p) before text (ls.stood p m lt);
}

pub labels_skip : (marks : List Bool) (before : List (List ℕ)) (text : List ℕ) (b : ℕ) → Labels marks before b → (initial text ≡ 76 → ⊥) → get_or marks b false ≡ false → Labels marks (before ++ text ∷ []) (b + 1)
labels_skip marks before text b ls never unmarked = record {
  labels = no_label marks before text b (b + 1) (omega arith) ls never;
  stood = λ p m lt. among_more (place_text p) before text (stood_by p m lt (cases_lt p b));
}
  where
    stood_by : (p : ℕ) → get_or marks p false ≡ true → p < b + 1 → (p < b) ⊎ (b ≤ p) → IsAmong (place_text p) before
    stood_by p m lt (inl low) = ls.stood p m low
    stood_by p m lt (inr high) =
        let same : p ≡ b = omega (arith, lt, high) in
        no_test (sym unmarked ∙ ap (λ k. get_or marks k false) (sym same) ∙ m)

pub labels_more : (marks : List Bool) (before : List (List ℕ)) (text : List ℕ) (b : ℕ) → Labels marks before b → text ≡ place_text b → get_or marks b false ≡ true → Labels marks (before ++ text ∷ []) (b + 1)
labels_more marks before text b ls is marked = record {
  labels = λ x among e. elim (among_split x before text among) [
    | inl h ↦ (let y = ls.labels x h e in let lt = y.3 in (y.0, y.1, y.2, omega (arith, lt)))
    | inr h ↦ (b, h ∙ is, marked, omega arith)
  ];
  stood = λ p m lt. stood_by p m lt (cases_lt p b);
}
  where
    stood_by : (p : ℕ) → get_or marks p false ≡ true → p < b + 1 → (p < b) ⊎ (b ≤ p) → IsAmong (place_text p) (before ++ text ∷ [])
    stood_by p m lt (inl low) = among_more (place_text p) before text (ls.stood p m low)
    stood_by p m lt (inr high) = let same : p ≡ b = omega (arith, lt, high) in among_last (place_text p) before text (ap place_text same ∙ sym is)

-- a version that stood before still does
pub version_more : (before : List (List ℕ)) (text : List ℕ) → (v : ℕ) × IsAmong (text_of (Version v)) before → (v : ℕ) × IsAmong (text_of (Version v)) (before ++ text ∷ [])
version_more before text x = (x.0, among_more (text_of (Version x.0)) before text x.1)

-- one more line behind the header
pub stands_more : (marks : List Bool) (before : List (List ℕ)) (s : Before) (text : List ℕ) (t : Before) → Stands marks before s → is_open s.stage ≡ true → t.memory ≡ s.memory
    → (initial text ≡ 109 → ⊥) → At t.stage t.least (before ++ text ∷ []) → length t.words ≡ length s.words + one_of (is_word_end text)
    → length t.texts ≡ length s.texts + one_of (is_quoted text) → Labels marks (before ++ text ∷ []) (length t.words + begun t.stage) → Stands marks (before ++ text ∷ []) t
stands_more marks before s text t st opened memory never last words texts labels = record {
  last = last;
  words = words ∙ ap (λ k. k + one_of (is_word_end text)) st.words ∙ sym (word_count_more before text);
  texts = texts ∙ ap (λ k. k + one_of (is_quoted text)) st.texts ∙ sym (text_count_more before text);
  version_stood = λ _. version_more before text (st.version_stood (open_no_start s.stage opened));
  memory_stood = λ _. subst (λ m. IsAmong (text_of (Memory m)) (before ++ text ∷ [])) (sym memory) (among_more (text_of (Memory s.memory)) before text (st.memory_stood opened));
  memory_only = λ n le among. elim (among_split (text_of (Memory n)) before text among) [
    | inl h ↦ st.memory_only n le h ∙ sym memory
    | inr h ↦ absurd (never (sym (ap initial h)))
  ];
  memory_small = subst (λ m. m ≤ 134217728) (sym memory) st.memory_small;
  labels = labels;
}

-- where a word begins

bool_cases : (b : Bool) → (b ≡ true) ⊎ (b ≡ false)
bool_cases true = inl refl
bool_cases false = inr refl

pub either_true : (a b : Bool) → (a || b) ≡ true → (a ≡ true) ⊎ (b ≡ true)
either_true true b e = inl refl
either_true false b e = inr e

pub not_true : (b : Bool) → not b ≡ true → b ≡ false
not_true true e = absurd cc
not_true false e = refl

pub begins_told : (all : List (List ℕ)) (marks : List Bool) (total : ℕ) (before : List (List ℕ)) (s : Before) → Setting all marks total → Stands marks before s → word_count before ≤ total
    → begins_word marks s ≡ true → BeginsWord all before
begins_told all marks total before s set st le e =
    elim (either_true (is_label_stage s.stage) (is_between_words s.stage && not (is_marked marks s)) e) [
      | inl x ↦ (let y = label_at s.stage s.least before st.last x in behind_label y.0 y.1)
      | inr x ↦ (let y = both_true (is_between_words s.stage) (not (is_marked marks s)) x in
          unnamed (between_at s.stage s.least before st.last y.0)
          (λ named. no_test (sym (not_true (is_marked marks s) y.1) ∙ ap (λ k. get_or marks k false) st.words ∙ set.named (word_count before) le named)))
    ]

pub told_begins : (all : List (List ℕ)) (marks : List Bool) (total : ℕ) (before : List (List ℕ)) (s : Before) → Setting all marks total → Stands marks before s → word_count before ≤ total
    → BeginsWord all before → begins_word marks s ≡ true
told_begins all marks total before s set st le (behind_label p x) =
    let is : is_label_stage s.stage ≡ true = (by_initial s.stage s.least before st.last).label ∙ ap (λ n. nat_eq n 76) (is_last_initial before (Label p) x) in
    rw is refl
told_begins all marks total before s set st le (unnamed x never) =
    let is : is_between_words s.stage ≡ true = (by_initial s.stage s.least before st.last).between ∙ between_words_initial before x in
    let free : is_marked marks s ≡ false =
    elim (bool_cases (is_marked marks s)) [
      | inl m ↦ absurd (never (set.marked (word_count before) le (ap (λ k. get_or marks k false) (sym st.words) ∙ m)))
      | inr m ↦ m
    ] in
    rw (is, free) (or_true (is_label_stage s.stage))
  where
    or_true : (b : Bool) → (b || true) ≡ true
    or_true true = refl
    or_true false = refl

pub told_between : (marks : List Bool) (before : List (List ℕ)) (s : Before) → Stands marks before s → IsBetweenWords before → is_between_words s.stage ≡ true
told_between marks before s st x = (by_initial s.stage s.least before st.last).between ∙ between_words_initial before x

pub told_texts : (marks : List Bool) (before : List (List ℕ)) (s : Before) → Stands marks before s → TextsBegin before → is_text_stage s.stage ≡ true
told_texts marks before s st x = (by_initial s.stage s.least before st.last).texts ∙ texts_begin_initial before x

-- the labels behind a line of a word
pub word_labels : (marks : List Bool) (before : List (List ℕ)) (s : Before) (text : List ℕ) → Stands marks before s → (initial text ≡ 76 → ⊥)
    → (begins_word marks s || is_operations_stage s.stage || is_idle_stage s.stage) ≡ true → Labels marks (before ++ text ∷ []) (length s.words + 1)
word_labels marks before s text st never e =
    elim (either_true (begins_word marks s || is_operations_stage s.stage) (is_idle_stage s.stage) e) [
      | inl x ↦ elim (either_true (begins_word marks s) (is_operations_stage s.stage) x) [
        | inl y ↦ elim (either_true (is_label_stage s.stage) (is_between_words s.stage && not (is_marked marks s)) y) [
          | inl z ↦ begun_by (label_begun s.stage z)
          | inr z ↦ (let w = both_true (is_between_words s.stage) (not (is_marked marks s)) z in free_by (between_begun s.stage w.0) (not_true (is_marked marks s) w.1))
        ]
        | inr y ↦ begun_by (operations_begun s.stage y)
      ]
      | inr x ↦ begun_by (idle_begun s.stage x)
    ]
  where
    begun_by : begun s.stage ≡ 1 → Labels marks (before ++ text ∷ []) (length s.words + 1)
    begun_by one = labels_same marks before text (length s.words + 1) (subst (λ k. Labels marks before (length s.words + k)) one st.labels) never

    free_by : begun s.stage ≡ 0 → get_or marks (length s.words) false ≡ false → Labels marks (before ++ text ∷ []) (length s.words + 1)
    free_by none free =
        let here : length s.words + begun s.stage ≡ length s.words = omega (arith, none) in
        labels_skip marks before text (length s.words) (subst (Labels marks before) here st.labels) never free

pub word_open : (marks : List Bool) (s : Before) → (begins_word marks s || is_operations_stage s.stage || is_idle_stage s.stage) ≡ true → is_open s.stage ≡ true
word_open marks s e =
    elim (either_true (begins_word marks s || is_operations_stage s.stage) (is_idle_stage s.stage) e) [
      | inl x ↦ elim (either_true (begins_word marks s) (is_operations_stage s.stage) x) [
        | inl y ↦ elim (either_true (is_label_stage s.stage) (is_between_words s.stage && not (is_marked marks s)) y) [
          | inl z ↦ open_begun s.stage (label_begun s.stage z)
          | inr z ↦ open_between s.stage (both_true (is_between_words s.stage) (not (is_marked marks s)) z).0
        ]
        | inr y ↦ open_begun s.stage (operations_begun s.stage y)
      ]
      | inr x ↦ open_begun s.stage (idle_begun s.stage x)
    ]
