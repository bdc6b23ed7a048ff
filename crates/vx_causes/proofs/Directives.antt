-- The lines before the words: what a reader does with each, and the cause where it refuses it.
use Rattle.std.proofs.Common.{◌≡◌, inl, inr, ℕ, zero, ◌+◌, ◌-◌, ◌*◌, ◌%◌, ◌<◌, ◌≤◌, ℤ, pos, Bool, true, false, ◌&&◌, List, [], ◌∷◌, ◌++◌, length, get_or, take, drop, Result, Ok, Err, refl, sym, ap, subst, ◌∙◌, append_assoc, arith}
use Rattle.std.specs.Prelude.{◌≢◌, All, codes, decimal, nat_eq, nat_lt, nat_le, not, if◌then◌else◌}
use Rattle.std.specs.List.{list_all, flat_map}
use Rattle.std.specs.Fmt.{signed_decimal}
use Rattle.std.specs.Str.{bytes_eq}
use Rattle.std.proofs.lemmas.Bool.{lt-ltb, le-leb, eq-eqb, and_from}
use Rattle.std.proofs.lemmas.List.{append-nil, length-append, take_at}
use Rattle.std.proofs.lemmas.List.Elements.{All-cons, All-head, All-tail, All-nil}
use borrow.Author.Tests.{eqb-true, leb-true, ltb-true}
use Rattle.vx_isa.specs.Sound.{is_not_zero}
use Rattle.vx_isa.specs.Range.{fits_signed}
use Rattle.vx_reader.specs.declared.before.Stage.{Stage}
use Rattle.vx_reader.specs.declared.before.Stage.TheVariants.{Memory as AtMemory, Texts as AtTexts}
use Rattle.vx_reader.specs.declared.before.Before.{Before}
use Rattle.vx_reader.specs.declared.quoted.Escape.TheVariants.{Plain}
use Rattle.vx_words.specs.Spelling.{start_text, quoted_text, byte_text, is_plain}
use Rattle.vx_reader.specs.Fields.{number_at, signed_at}
use Rattle.vx_reader.specs.Steps.{accepted, is_memory_stage, is_text_stage, start_step, text_step, entry_at, is_entry, unquoted, unquoted_from, hexadecimal_value}
use Rattle.vx_reader.specs.Text.{word_count, is_word_end}
use Rattle.vx_reader.proofs.Numbers.{both_true}
use Rattle.vx_reader.proofs.FieldsAgain.{number_read, signed_read}
use Rattle.vx_reader.proofs.LinesAgain.{quoted_again}
use Rattle.vx_reader.proofs.OperationsAgain.{same_text}
use Rattle.vx_causes.specs.Lines.{Line, Memory, Start, Quoted, text_of, is_quoted, IsAscending, lowest, higher, StartStands, MayStand}
use Rattle.vx_causes.specs.Causes.{Cause, BadLine, code_of, Applies, FirstCause}
use Rattle.vx_causes.proofs.Sorts.{Kind, AStart, AText, kind, told, ends_by, quoted_by, ends_kind, quoted_kind, Own, bad_line, bad_alone, none_applies, is_quiet, quiet_absent, same_bytes}
use Rattle.vx_causes.proofs.Lasts.{initial, last_initial, is_last_initial, behind, same_last, one_of}
use Rattle.vx_causes.proofs.Stands.{Setting, At, Labels, begun, Stands, by_initial, memory_initial, texts_begin_at, open_texts, open_memory, labels_same, stands_more, told_texts, no_test}
use Rattle.vx_causes.proofs.Operations.{signed_fits}

-- a line is taken, and no cause applies; or it is refused, for its first cause
abbrev pub Judged : (all : List (List ℕ)) (marks : List Bool) (before : List (List ℕ)) (text : List ℕ) → Result Before ℕ → Type 0
Judged all marks before text (Ok t) = ((cause : Cause) → Applies cause all before text → ⊥) × Stands marks (before ++ text ∷ []) t
Judged all marks before text (Err code) = (cause : Cause) × (code_of cause ≡ code) × FirstCause all before text cause

-- what is known where a line is read
pub record Here (all : List (List ℕ)) (marks : List Bool) (total : ℕ) (before : List (List ℕ)) (s : Before) : Type 0 where
  pub set : Setting all marks total
  pub stands : Stands marks before s
  pub few : word_count before ≤ total
  pub more : length all ≡ length before + 1 → ⊥

pub accepted_by : (all : List (List ℕ)) (marks : List Bool) (before : List (List ℕ)) (text : List ℕ) (b : Bool) (t : Before)
    → (b ≡ true → Judged all marks before text (Ok t)) → (b ≡ false → FirstCause all before text BadLine) → Judged all marks before text (accepted b t)
accepted_by all marks before text true t takes never = takes refl
accepted_by all marks before text false t takes never = (BadLine, refl, never refl)

pub chosen_by : (all : List (List ℕ)) (marks : List Bool) (before : List (List ℕ)) (text : List ℕ) (b : Bool) (x y : Result Before ℕ)
    → (b ≡ true → Judged all marks before text x) → (b ≡ false → Judged all marks before text y) → Judged all marks before text (if b then x else y)
chosen_by all marks before text true x y takes never = takes refl
chosen_by all marks before text false x y takes never = never refl

-- a line that is taken
pub record Accepts (all : List (List ℕ)) (marks : List Bool) (before : List (List ℕ)) (text : List ℕ) (t : Before) : Type 0 where
  pub line : Line
  pub may : MayStand all before line
  pub is : text ≡ text_of line
  pub stands : Stands marks (before ++ text ∷ []) t

pub quiet_judged : (all : List (List ℕ)) (marks : List Bool) (before : List (List ℕ)) (text : List ℕ) (k : Kind) (b : Bool) (t : Before) → kind text ≡ k → is_quiet k ≡ true → (length all ≡ length before + 1 → ⊥)
    → (b ≡ true → Accepts all marks before text t) → (Own k all before text → b ≡ true) → Judged all marks before text (accepted b t)
quiet_judged all marks before text k b t e quiet more takes back =
    let a = quiet_absent before text k e quiet in
    accepted_by all marks before text b t
    (λ h. let x = takes h in (none_applies all before text x.line a x.may x.is, x.stands))
    (λ h. bad_alone all before text a (bad_line all before text k e more (λ own. no_test (sym h ∙ back own))))

pub no_more_words : (text : List ℕ) (k : Kind) (n : ℕ) → kind text ≡ k → ends_kind k ≡ false → n ≡ n + one_of (is_word_end text)
no_more_words text k n e never = let none : is_word_end text ≡ false = ends_by text k (told text k e) ∙ never in rw none (omega arith)

pub no_more_texts : (text : List ℕ) (k : Kind) (n : ℕ) → kind text ≡ k → quoted_kind k ≡ false → n ≡ n + one_of (is_quoted text)
no_more_texts text k n e never = let none : is_quoted text ≡ false = quoted_by text k (told text k e) ∙ never in rw none (omega arith)

pub other_initial : (text : List ℕ) (n k : ℕ) → initial text ≡ n → (n ≡ k → ⊥) → initial text ≡ k → ⊥
other_initial text n k e never h = never (sym e ∙ h)

-- a word of the memory

regroup_start : (A B C D : List ℕ) → ((A ++ B) ++ C) ++ D ≡ A ++ (B ++ (C ++ D))
regroup_start A B C D = simp append_assoc

start_regrouped : (entry : ℕ × ℤ) → start_text entry ≡ codes ".word " ++ (decimal entry.0 ++ (codes " = " ++ signed_decimal entry.1))
start_regrouped entry = regroup_start (codes ".word ") (decimal entry.0) (codes " = ") (signed_decimal entry.1)

address_read : (entry : ℕ × ℤ) → entry.0 ≤ 4294967295 → number_at (drop 6 (start_text entry)) ≡ (entry.0, codes " = " ++ signed_decimal entry.1)
address_read entry le = ap (λ x. number_at (drop 6 x)) (start_regrouped entry) ∙ number_read entry.0 (codes " = " ++ signed_decimal entry.1) le refl

entry_again : (entry : ℕ × ℤ) → entry.0 ≤ 4294967295 → fits_signed entry.1 ≡ true → entry_at (start_text entry) ≡ entry
unfolding entry_at
entry_again entry le fits =
    let value : signed_at (signed_decimal entry.1) ≡ (entry.1, []) = ap signed_at (sym (append-nil (signed_decimal entry.1))) ∙ signed_read entry.1 [] fits tt in
    rw (address_read entry le, value) refl

entry_fits : (text : List ℕ) → fits_signed (entry_at text).1 ≡ true
unfolding entry_at
entry_fits text = signed_fits (drop 3 (number_at (drop 6 text)).1)

memory_stage_is : (stage : Stage) → is_memory_stage stage ≡ true → stage ≡ AtMemory
memory_stage_is AtMemory e = refl
memory_stage_is stage e = no_test e

ascending_at : (stage : Stage) (least address : ℕ) (before : List (List ℕ)) → At stage least before → is_memory_stage stage ≡ true → least ≤ address → IsAscending before address
ascending_at AtMemory least address before (inl x) e le = lowest x.0 x.1
ascending_at AtMemory least address before (inr x) e le = let is = x.2 in higher x.0 x.1 (omega (arith, is, le))
ascending_at stage least address before x e le = no_test e

ascending_initial : (before : List (List ℕ)) (address : ℕ) → IsAscending before address → memory_initial (last_initial before) ≡ true
ascending_initial before address (lowest n x) = ap memory_initial (is_last_initial before (Memory n) x)
ascending_initial before address (higher e x lt) = ap memory_initial (is_last_initial before (Start e) x)

same_address : (a b : ℕ × ℤ) → a.0 ≤ 4294967295 → b.0 ≤ 4294967295 → start_text a ≡ start_text b → a.0 ≡ b.0
same_address a b la lb e =
    sym (ap (λ (x : ℕ × List ℕ). x.0) (address_read a la)) ∙ ap (λ x. (number_at (drop 6 x)).0) e ∙ ap (λ (x : ℕ × List ℕ). x.0) (address_read b lb)

least_at : (least address : ℕ) (before : List (List ℕ)) → At AtMemory least before → IsAscending before address → address ≤ 134217728 → least ≤ address
least_at least address before (inl x) up small = let none = x.2 in omega (arith, none)
least_at least address before (inr x) (lowest n y) small =
    absurd (let h : 119 ≡ 109 = sym (is_last_initial before (Start x.0) x.1) ∙ is_last_initial before (Memory n) y in omega (arith, h))
least_at least address before (inr x) (higher e y lt) small =
    let same : start_text x.0 ≡ start_text e = same_last x.1.front y.front (start_text x.0) (start_text e) (sym x.1.is ∙ y.is) in
    let near = x.3 in
    let address_is : x.0.0 ≡ e.0 = same_address x.0 e near (omega (arith, lt, small)) same in
    let is = x.2 in
    omega (arith, is, address_is, lt)

not_zero_test : (v : ℤ) → is_not_zero v ≡ true → v ≢ pos 0
not_zero_test v e h = no_test (sym (ap is_not_zero h) ∙ e)

test_not_zero : (v : ℤ) → v ≢ pos 0 → is_not_zero v ≡ true
test_not_zero (pos zero) never = absurd (never refl)
test_not_zero v never = refl

pub start_judged : (all : List (List ℕ)) (marks : List Bool) (total : ℕ) (before : List (List ℕ)) (s : Before) (text : List ℕ) → Here all marks total before s → kind text ≡ AStart
    → Judged all marks before text (start_step s text)
unfolding start_step
start_judged all marks total before s text here e =
    let st = here.stands in
    let entry = entry_at text in
    quiet_judged all marks before text AStart (is_entry s entry && bytes_eq (start_text entry) text) (record s { start = s.start ++ entry ∷ []; least = entry.0 + 1 }) e refl here.more
    (λ h. accepts st h) (λ x. back st x.0 x.1 x.2)
  where
    accepts : Stands marks before s → (is_entry s (entry_at text) && bytes_eq (start_text (entry_at text)) text) ≡ true
        → Accepts all marks before text (record s { start = s.start ++ entry_at text ∷ []; least = (entry_at text).0 + 1 })
    accepts st h =
        let entry = entry_at text in
        let a = both_true (is_entry s entry) (bytes_eq (start_text entry) text) h in
        let b = both_true (is_memory_stage s.stage && nat_le s.least entry.0 && nat_eq (entry.0 % 4) 0 && nat_lt entry.0 s.memory) (is_not_zero entry.1) a.0 in
        let c = both_true (is_memory_stage s.stage && nat_le s.least entry.0 && nat_eq (entry.0 % 4) 0) (nat_lt entry.0 s.memory) b.0 in
        let d = both_true (is_memory_stage s.stage && nat_le s.least entry.0) (nat_eq (entry.0 % 4) 0) c.0 in
        let f = both_true (is_memory_stage s.stage) (nat_le s.least entry.0) d.0 in
        let same : text ≡ start_text entry = sym (same_bytes (start_text entry) text a.1) in
        let opened = open_memory s.stage f.0 in
        let below : entry.0 < s.memory = ltb-true _ _ c.1 in
        let small = st.memory_small in
        let t : Before = record s { start = s.start ++ entry ∷ []; least = entry.0 + 1 } in
        let first : initial text ≡ 119 = ap initial same in
        let last : At AtMemory (entry.0 + 1) (before ++ text ∷ []) = inr (entry, behind before text (Start entry) same, refl, omega (arith, below, small)) in
        record {
          line = Start entry;
          may = record {
            ascending = ascending_at s.stage s.least entry.0 before st.last f.0 (leb-true _ _ f.1);
            size = s.memory;
            memory = st.memory_stood opened;
            small = small;
            multiple = eqb-true _ _ d.1;
            below = below;
            not_zero = not_zero_test entry.1 b.1;
            fits = entry_fits text;
          };
          is = same;
          stands = stands_more marks before s text (record s { start = s.start ++ entry ∷ []; least = entry.0 + 1 }) st opened refl (other_initial text 119 109 first (λ z. omega (arith, z)))
              (subst (λ stage. At stage (entry.0 + 1) (before ++ text ∷ [])) (sym (memory_stage_is s.stage f.0)) last)
              (no_more_words text AStart (length s.words) e refl) (no_more_texts text AStart (length s.texts) e refl)
              (labels_same marks before text (length s.words + begun s.stage) st.labels (other_initial text 119 76 first (λ z. omega (arith, z))));
        }

    back : Stands marks before s → (entry : ℕ × ℤ) → StartStands before entry → text ≡ start_text entry → (is_entry s (entry_at text) && bytes_eq (start_text (entry_at text)) text) ≡ true
    back st entry x same =
        let size_is : x.size ≡ s.memory = st.memory_only x.size x.small x.memory in
        let below = x.below in
        let bound = x.small in
        let again : entry_at text ≡ entry = ap entry_at same ∙ entry_again entry (omega (arith, below, bound)) x.fits in
        let stage_is : is_memory_stage s.stage ≡ true = (by_initial s.stage s.least before st.last).memory ∙ ascending_initial before entry.0 x.ascending in
        let last : At AtMemory s.least before = subst (λ stage. At stage s.least before) (memory_stage_is s.stage stage_is) st.last in
        let least : s.least ≤ entry.0 = least_at s.least entry.0 before last x.ascending (omega (arith, below, bound)) in
        let inside : entry.0 < s.memory = omega (arith, below, size_is) in
        let spelled : bytes_eq (start_text entry) text ≡ true = ap (bytes_eq (start_text entry)) same ∙ same_text (start_text entry) in
        and_from _ _ (ap (is_entry s) again ∙ rw (stage_is, le-leb _ _ least, eq-eqb (entry.0 % 4) 0 x.multiple, lt-ltb _ _ inside, test_not_zero entry.1 x.not_zero) refl)
        (ap (λ y. bytes_eq (start_text y) text) again ∙ spelled)

-- a text

all_small : (bs : List ℕ) → list_all (λ b. nat_lt b 256) bs ≡ true → All (λ b. b < 256) bs
all_small [] e = All-nil (λ b. b < 256)
all_small (b ∷ bs) e =
    let x = both_true (nat_lt b 256) (list_all (λ b. nat_lt b 256) bs) e in
    All-cons (λ b. b < 256) b bs (ltb-true _ _ x.0) (all_small bs x.1)

small_all : (bs : List ℕ) → All (λ b. b < 256) bs → list_all (λ b. nat_lt b 256) bs ≡ true
small_all [] h = refl
small_all (b ∷ bs) h = rw (lt-ltb b 256 (All-head (λ b. b < 256) b bs h)) (small_all bs (All-tail (λ b. b < 256) b bs h))

plain_small : (b : ℕ) → is_plain b ≡ true → (b < 256) × (nat_eq b 92 ≡ false)
plain_small b e =
    let x = both_true (nat_le 32 b && nat_le b 126 && not (nat_eq b 34)) (not (nat_eq b 92)) e in
    let y = both_true (nat_le 32 b && nat_le b 126) (not (nat_eq b 34)) x.0 in
    let z = both_true (nat_le 32 b) (nat_le b 126) y.0 in
    let le : b ≤ 126 = leb-true _ _ z.1 in
    (omega (arith, le), no_true (nat_eq b 92) x.1)
  where
    no_true : (c : Bool) → not c ≡ true → c ≡ false
    no_true true h = absurd cc
    no_true false h = refl

abbrev Small : List ℕ → Type 0
Small bs = list_all (λ b. nat_lt b 256) bs ≡ true

abbrev joined : List ℕ → List ℕ
joined bs = flat_map byte_text bs

small_plain : (c : ℕ) (cs : List ℕ) (b : Bool) → is_plain c ≡ b → nat_eq c 92 ≡ false → joined (unquoted_from Plain (c ∷ cs)) ≡ c ∷ cs → (joined (unquoted_from Plain cs) ≡ cs → Small (unquoted_from Plain cs))
    → Small (unquoted_from Plain (c ∷ cs))
small_plain c cs true p never e again =
    let h : c ∷ joined (unquoted_from Plain cs) ≡ c ∷ cs = rw (never, p) at e in
    let small = (plain_small c p).0 in
    rw (never, lt-ltb c 256 small) (again (ap (drop 1) h))
small_plain c cs false p never e again =
    absurd (let h = rw (never, p) at e in
    let same : 92 ≡ c = ap (λ x. get_or x 0 0) h in
    no_test (sym never ∙ eq-eqb c 92 (sym same)))

abbrev pair_value : ℕ → ℕ → ℕ
pair_value e f = 16 * hexadecimal_value e + hexadecimal_value f

pair_small : (e f : ℕ) → pair_value e f < 256
pair_small e f = omega arith

small_escape : (c d e f : ℕ) (cs : List ℕ) (b : Bool) → is_plain (pair_value e f) ≡ b → c ≡ 92 → joined (unquoted_from Plain (92 ∷ d ∷ e ∷ f ∷ cs)) ≡ 92 ∷ d ∷ e ∷ f ∷ cs
    → (joined (unquoted_from Plain cs) ≡ cs → Small (unquoted_from Plain cs)) → Small (unquoted_from Plain (92 ∷ d ∷ e ∷ f ∷ cs))
small_escape c d e f cs true p is h again =
    absurd (let k = rw p at h in
    let same : pair_value e f ≡ 92 = ap (λ x. get_or x 0 0) k in
    no_test (sym (plain_small (pair_value e f) p).1 ∙ eq-eqb (pair_value e f) 92 same))
small_escape c d e f cs false p is h again =
    let k = rw p at h in
    rw (lt-ltb (pair_value e f) 256 (pair_small e f)) (again (ap (drop 4) k))

small_from : (cs : List ℕ) → joined (unquoted_from Plain cs) ≡ cs → Small (unquoted_from Plain cs)
small_from [] e = refl
small_from (c ∷ []) e = one (nat_eq c 92) refl e
  where
    one : (b : Bool) → nat_eq c 92 ≡ b → joined (unquoted_from Plain (c ∷ [])) ≡ c ∷ [] → Small (unquoted_from Plain (c ∷ []))
    one true t e = rw t refl
    one false t e = small_plain c [] (is_plain c) refl t e (λ h. refl)
small_from (c ∷ d ∷ []) e = two (nat_eq c 92) refl e (small_from (d ∷ []))
  where
    two : (b : Bool) → nat_eq c 92 ≡ b → joined (unquoted_from Plain (c ∷ d ∷ [])) ≡ c ∷ d ∷ [] → (joined (unquoted_from Plain (d ∷ [])) ≡ d ∷ [] → Small (unquoted_from Plain (d ∷ []))) → Small (unquoted_from Plain (c ∷ d ∷ []))
    two true t e again = rw t refl
    two false t e again = small_plain c (d ∷ []) (is_plain c) refl t e again
small_from (c ∷ d ∷ f ∷ []) e = three (nat_eq c 92) refl e (small_from (d ∷ f ∷ []))
  where
    three : (b : Bool) → nat_eq c 92 ≡ b → joined (unquoted_from Plain (c ∷ d ∷ f ∷ [])) ≡ c ∷ d ∷ f ∷ [] → (joined (unquoted_from Plain (d ∷ f ∷ [])) ≡ d ∷ f ∷ [] → Small (unquoted_from Plain (d ∷ f ∷ [])))
        → Small (unquoted_from Plain (c ∷ d ∷ f ∷ []))
    three true t e again = rw t refl
    three false t e again = small_plain c (d ∷ f ∷ []) (is_plain c) refl t e again
small_from (c ∷ d ∷ f ∷ g ∷ cs) e = four (nat_eq c 92) refl e (small_from (d ∷ f ∷ g ∷ cs)) (small_from cs)
  where
    four : (b : Bool) → nat_eq c 92 ≡ b → joined (unquoted_from Plain (c ∷ d ∷ f ∷ g ∷ cs)) ≡ c ∷ d ∷ f ∷ g ∷ cs
        → (joined (unquoted_from Plain (d ∷ f ∷ g ∷ cs)) ≡ d ∷ f ∷ g ∷ cs → Small (unquoted_from Plain (d ∷ f ∷ g ∷ cs))) → (joined (unquoted_from Plain cs) ≡ cs → Small (unquoted_from Plain cs))
        → Small (unquoted_from Plain (c ∷ d ∷ f ∷ g ∷ cs))
    four true t e again far =
        let is : c ≡ 92 = eqb-true _ _ t in
        let e2 : joined (unquoted_from Plain (92 ∷ d ∷ f ∷ g ∷ cs)) ≡ 92 ∷ d ∷ f ∷ g ∷ cs = subst (λ x. joined (unquoted_from Plain (x ∷ d ∷ f ∷ g ∷ cs)) ≡ x ∷ d ∷ f ∷ g ∷ cs) is e in
        subst (λ x. Small (unquoted_from Plain (x ∷ d ∷ f ∷ g ∷ cs))) (sym is) (small_escape c d f g cs (is_plain (pair_value f g)) refl is e2 far)
    four false t e again far = small_plain c (d ∷ f ∷ g ∷ cs) (is_plain c) refl t e again

unquoted_small : (text : List ℕ) → quoted_text (unquoted text) ≡ text → Small (unquoted text)
unfolding unquoted
unquoted_small text e =
    let Q = joined (unquoted text) in
    let rest_is : drop 7 text ≡ Q ++ codes "\"" = sym (ap (drop 7) e) in
    let long : length (Q ++ codes "\"") - 1 ≡ length Q = omega (arith, length-append Q (codes "\"")) in
    let inner : take (length (drop 7 text) - 1) (drop 7 text) ≡ Q =
    ap (λ x. take (length x - 1) x) rest_is ∙ ap (λ n. take n (Q ++ codes "\"")) long ∙ take_at Q (codes "\"") (length Q) refl in
    small_from (take (length (drop 7 text) - 1) (drop 7 text)) (sym inner)

text_stage_begun : (stage : Stage) → is_text_stage stage ≡ true → begun stage ≡ 0
text_stage_begun AtMemory e = refl
text_stage_begun AtTexts e = refl
text_stage_begun stage e = no_test e

pub text_judged : (all : List (List ℕ)) (marks : List Bool) (total : ℕ) (before : List (List ℕ)) (s : Before) (text : List ℕ) → Here all marks total before s → kind text ≡ AText
    → Judged all marks before text (text_step s text)
unfolding text_step
text_judged all marks total before s text here e =
    let st = here.stands in
    let bytes = unquoted text in
    quiet_judged all marks before text AText (is_text_stage s.stage && bytes_eq (quoted_text bytes) text) (record s { stage = AtTexts; texts = s.texts ++ bytes ∷ [] }) e refl here.more
    (λ h. accepts st h) (λ x. back st x.0 x.1 x.2)
  where
    accepts : Stands marks before s → (is_text_stage s.stage && bytes_eq (quoted_text (unquoted text)) text) ≡ true
        → Accepts all marks before text (record s { stage = AtTexts; texts = s.texts ++ unquoted text ∷ [] })
    accepts st h =
        let bytes = unquoted text in
        let a = both_true (is_text_stage s.stage) (bytes_eq (quoted_text bytes) text) h in
        let same : text ≡ quoted_text bytes = sym (same_bytes (quoted_text bytes) text a.1) in
        let first : initial text ≡ 116 = ap initial same in
        let none = text_stage_begun s.stage a.0 in
        let bound : length s.words + begun s.stage ≡ length s.words + 0 = ap (λ k. length s.words + k) none in
        let quoted : is_quoted text ≡ true = quoted_by text AText (told text AText e) in
        record {
          line = Quoted bytes;
          may = (all_small bytes (unquoted_small text (sym same)), texts_begin_at s.stage s.least before st.last a.0);
          is = same;
          stands = stands_more marks before s text (record s { stage = AtTexts; texts = s.texts ++ bytes ∷ [] }) st (open_texts s.stage a.0) refl (other_initial text 116 109 first (λ z. omega (arith, z)))
              (bytes, behind before text (Quoted bytes) same)
              (no_more_words text AText (length s.words) e refl) (length-append s.texts (bytes ∷ []) ∙ ap (λ b. length s.texts + one_of b) (sym quoted))
              (labels_same marks before text (length s.words + 0) (subst (Labels marks before) bound st.labels) (other_initial text 116 76 first (λ z. omega (arith, z))));
        }

    back : Stands marks before s → (bytes : List ℕ) → MayStand all before (Quoted bytes) → text ≡ quoted_text bytes → (is_text_stage s.stage && bytes_eq (quoted_text (unquoted text)) text) ≡ true
    back st bytes m same =
        let again : unquoted text ≡ bytes = ap unquoted same ∙ quoted_again bytes (small_all bytes m.0) in
        let spelled : bytes_eq (quoted_text bytes) text ≡ true = ap (bytes_eq (quoted_text bytes)) same ∙ same_text (quoted_text bytes) in
        and_from _ _ (told_texts marks before s st m.1) (ap (λ y. bytes_eq (quoted_text y) text) again ∙ spelled)
