-- The first two lines: what a reader does with each, and the cause where it refuses it.
use Rattle.std.proofs.Common.{◌≡◌, ◌⊎◌, inl, inr, ℕ, ◌+◌, ◌%◌, ◌^◌, ◌<◌, ◌≤◌, Bool, true, false, ◌&&◌, ◌||◌, List, [], ◌∷◌, ◌++◌, length, get_or, drop, Ok, Err, refl, sym, ap, subst, ◌∙◌, arith}
use Rattle.std.specs.Prelude.{codes, decimal, nat_eq, nat_lt, not, if◌then◌else◌}
use Rattle.std.specs.Fmt.{digits}
use Rattle.std.specs.List.{list_all}
use Rattle.std.proofs.lemmas.Bool.{lt-ltb, eq-eqb, and_from}
use Rattle.std.proofs.lemmas.Bool.Decides.{nat_tests}
use Rattle.std.proofs.lemmas.Fmt.{decimal-digits_value, decimal_injective, digits_value-decimal}
use borrow.Author.Tests.{eqb-true, ltb-true, ltb-false}
use Rattle.vx_reader.specs.declared.before.Stage.{Stage}
use Rattle.vx_reader.specs.declared.before.Stage.TheVariants.{Start as AtStart, Version as AtVersion, Memory as AtMemory}
use Rattle.vx_reader.specs.declared.before.Before.{Before}
use Rattle.vx_words.specs.Spelling.{version_text}
use Rattle.vx_reader.specs.Fields.{is_digit}
use Rattle.vx_reader.specs.Reading.{is_number}
use Rattle.vx_reader.specs.Steps.{accepted, is_start_stage, is_version_stage, is_version_line, version_of, version_step, memory_step, is_size, value_from}
use Rattle.vx_reader.specs.Text.{is_word_end}
use Rattle.vx_reader.proofs.Numbers.{own, both_true, is_number_digits}
use Rattle.vx_reader.proofs.FieldsAgain.{decimal_is_number}
use Rattle.vx_reader.proofs.StepLemmas.{version_written}
use Rattle.vx_reader.proofs.ProgramAgain.{one_or_two}
use Rattle.vx_causes.specs.Lines.{Version, Memory, text_of, IsVersion, BehindVersion, IsAmong, first_field, is_quoted, MayStand}
use Rattle.vx_causes.specs.Causes.{Cause, Repeated, MemoryTooLarge, UnknownOperation, BadOperand, UnknownLabel, BadLine, rank, Applies, FirstCause, FieldStood, IsRepeated, version, memory, label, IsTooLarge, OnCluster}
use Rattle.vx_causes.proofs.Sorts.{Kind, AnOperation, AVersion, AMemory, Another, kind, told, version_kind, label_kind, cluster_kind, large_kind, bad_line, Absent, bad_alone, none_applies, first_repeated, by_field}
use Rattle.vx_causes.proofs.Lasts.{initial, last_initial, behind, among_last, among_split, word_count_more, text_count_more, one_of}
use Rattle.vx_causes.proofs.Stands.{At, Labels, begun, Stands, by_initial, start_at, version_at, version_more, not_header, labels_same, either_true, no_test}
use Rattle.vx_causes.proofs.Operations.{value_is}
use Rattle.vx_causes.proofs.Directives.{Judged, Here, accepted_by, chosen_by, no_more_words, no_more_texts, other_initial}

other_kind : {A : Type 0} (text : List ℕ) (k j : Kind) (apart : Kind → Bool) → kind text ≡ k → kind text ≡ j → apart k ≡ true → apart j ≡ false → A
other_kind text k j apart e f takes never = no_test (sym never ∙ ap apart (sym f ∙ e) ∙ takes)

abbrev is_version_kind : Kind → Bool
is_version_kind AVersion = true
is_version_kind k = false

abbrev is_memory_kind : Kind → Bool
is_memory_kind AMemory = true
is_memory_kind k = false

-- nothing stood before
nothing_stood : (before : List (List ℕ)) (text : List ℕ) → before ≡ [] → FieldStood before text → ⊥
nothing_stood before text e x = subst (IsAmong x.other) e x.stood

start_begun : (stage : Stage) → is_start_stage stage ≡ true → begun stage ≡ 0
start_begun AtStart e = refl
start_begun stage e = no_test e

version_begun : (stage : Stage) → is_version_stage stage ≡ true → begun stage ≡ 0
version_begun AtVersion e = refl
version_begun stage e = no_test e

-- the version

version_absent : (before : List (List ℕ)) (text : List ℕ) → kind text ≡ AVersion → before ≡ [] → Absent before text
version_absent before text e none = record {
  repeated = stood;
  large = λ x. other_kind text AVersion AMemory is_version_kind e (large_kind text x) refl refl;
  cluster = λ rest x. other_kind text AVersion AnOperation is_version_kind e (cluster_kind text rest x) refl refl;
}
  where
    stood : IsRepeated before text → ⊥
    stood (version f x) = nothing_stood before text none x
    stood (memory f x) = nothing_stood before text none x
    stood (label p f x) = subst (IsAmong text) none x

first_spelled : is_version_line (version_text 1) ≡ true
unfolding digits
first_spelled = refl

second_spelled : is_version_line (version_text 2) ≡ true
unfolding digits
second_spelled = refl

-- the text of a version is its line
version_spelled : (v : ℕ) → IsVersion v → is_version_line (version_text v) ≡ true
version_spelled v (inl e) = ap (λ n. is_version_line (version_text n)) e ∙ first_spelled
version_spelled v (inr e) = ap (λ n. is_version_line (version_text n)) e ∙ second_spelled

pub version_judged : (all : List (List ℕ)) (marks : List Bool) (total : ℕ) (before : List (List ℕ)) (s : Before) (text : List ℕ) → Here all marks total before s → kind text ≡ AVersion
    → Judged all marks before text (version_step s text)
unfolding version_step
version_judged all marks total before s text here e =
    let st = here.stands in
    chosen_by all marks before text (is_start_stage s.stage) (accepted (is_version_line text) (record s { stage = AtVersion; version = version_of text })) (Err 5)
    (λ h. accepted_by all marks before text (is_version_line text) (record s { stage = AtVersion; version = version_of text }) (λ t. accepts st h t) (λ t. refuses st h t))
    (λ h. (Repeated, refl, first_repeated all before text (version (told text AVersion e) (stood_version st h))))
  where
    stood_version : Stands marks before s → is_start_stage s.stage ≡ false → FieldStood before text
    stood_version st h = let x = st.version_stood h in record { other = text_of (Version x.0); stood = x.1; same = sym (told text AVersion e) }

    accepts : Stands marks before s → is_start_stage s.stage ≡ true → is_version_line text ≡ true → Judged all marks before text (Ok (record s { stage = AtVersion; version = version_of text }))
    accepts st h t =
        let none = start_at s.stage s.least before st.last h in
        let v = version_of text in
        let written = version_written text t in
        let known : IsVersion v = one_or_two v written.1 in
        let same : text ≡ text_of (Version v) = written.0 in
        let first : initial text ≡ 118 = ap initial same in
        let least : s.least ≡ 0 = least_of s.stage s.least before st.last h in
        let bound : length s.words + begun s.stage ≡ length s.words + 0 = ap (λ k. length s.words + k) (start_begun s.stage h) in (
          none_applies all before text (Version v) (version_absent before text e none) (none, known) same,
          record {
            last = (record { number = v; known = known; is = ap (λ x. x ++ text ∷ []) none ∙ ap (λ x. x ∷ []) same }, least);
            words = no_more_words text AVersion (length s.words) e refl ∙ ap (λ k. k + one_of (is_word_end text)) st.words ∙ sym (word_count_more before text);
            texts = no_more_texts text AVersion (length s.texts) e refl ∙ ap (λ k. k + one_of (is_quoted text)) st.texts ∙ sym (text_count_more before text);
            version_stood = λ _. (v, among_last (text_of (Version v)) before text (sym same));
            memory_stood = λ never. no_test never;
            memory_only = λ n le among. elim (among_split (text_of (Memory n)) before text among) [
              | inl x ↦ st.memory_only n le x
              | inr x ↦ absurd (other_initial text 118 109 first (λ z. omega (arith, z)) (sym (ap initial x)))
            ];
            memory_small = st.memory_small;
            labels = labels_same marks before text (length s.words + 0) (subst (Labels marks before) bound st.labels) (other_initial text 118 76 first (λ z. omega (arith, z)));
          },
        )
      where
        least_of : (stage : Stage) (least : ℕ) (before : List (List ℕ)) → At stage least before → is_start_stage stage ≡ true → least ≡ 0
        least_of AtStart least before x e = x.1
        least_of stage least before x e = no_test e

    refuses : Stands marks before s → is_start_stage s.stage ≡ true → is_version_line text ≡ false → FirstCause all before text BadLine
    refuses st h t =
        let none = start_at s.stage s.least before st.last h in
        bad_alone all before text (version_absent before text e none)
        (bad_line all before text AVersion e here.more (λ own. no_test (sym t ∙ ap is_version_line own.2 ∙ version_spelled own.0 own.1.1)))

-- the size of the memory

size_written : (digits : List ℕ) → is_number digits ≡ true → value_from 0 digits < 2 ^ 64 → decimal (value_from 0 digits) ≡ digits
size_written digits number small =
    let all = is_number_digits digits number in
    let parts = both_true (list_all is_digit digits && nat_lt 0 (length digits)) (not (nat_eq (get_or digits 0 0) 48) || nat_eq (length digits) 1) number in
    let some : 0 < length digits = ltb-true _ _ (both_true (list_all is_digit digits) (nat_lt 0 (length digits)) parts.0).1 in
    let first : get_or digits 0 0 ≡ 48 → length digits ≡ 1 = λ z. grind (arith, nat_tests, z, parts.1) in
    decimal-digits_value own digits all some first small

large_test : (text digits : List ℕ) → drop 8 text ≡ digits → IsTooLarge text → (is_size digits && nat_lt 134217728 (value_from 0 digits)) ≡ true
large_test text digits d x =
    let same : digits ≡ x.digits = sym d ∙ ap (drop 8) x.is in
    let value = value_is x.digits x.number in
    let whole : value_from 0 x.digits % 4 ≡ 0 = ap (λ n. n % 4) value ∙ x.multiple in
    let large = x.large in
    let far : 134217728 < value_from 0 x.digits = omega (arith, large, value) in
    ap (λ y. is_size y && nat_lt 134217728 (value_from 0 y)) same ∙ rw (x.number, eq-eqb (value_from 0 x.digits % 4) 0 whole, lt-ltb _ _ far) refl

-- where nothing or the version stood before
memory_not_stood : (before : List (List ℕ)) (text : List ℕ) → (before ≡ []) ⊎ BehindVersion before → kind text ≡ AMemory → IsRepeated before text → ⊥
memory_not_stood before text w e (version f x) = other_kind text AMemory AVersion is_memory_kind e (version_kind text f) refl refl
memory_not_stood before text w e (label p f x) = other_kind text AMemory Another is_memory_kind e (ap kind f ∙ label_kind (decimal p ++ codes ":")) refl refl
memory_not_stood before text (inl none) e (memory f x) = nothing_stood before text none x
memory_not_stood before text (inr one) e (memory f x) = alone x.other (subst (IsAmong x.other) one.is x.stood) (x.same ∙ f)
  where
    alone : (other : List ℕ) → IsAmong other (text_of (Version one.number) ∷ []) → first_field other ≡ codes ".memory" → ⊥
    alone other (inl is) same = let h : codes ".vexwords" ≡ codes ".memory" = ap first_field (sym is) ∙ same in cc
    alone other (inr never) same = never

not_on_cluster : (text rest : List ℕ) → kind text ≡ AMemory → OnCluster text rest → ⊥
not_on_cluster text rest e x = other_kind text AMemory AnOperation is_memory_kind e (cluster_kind text rest x) refl refl

-- a text of this field whose number is one
memory_split : (text : List ℕ) → first_field text ≡ codes ".memory" → is_number (drop 8 text) ≡ true → text ≡ codes ".memory " ++ drop 8 text
memory_split text f number =
    elim (by_field text (codes ".memory") f) [
      | inl x ↦ no_test (sym (ap (λ y. is_number (drop 8 y)) x) ∙ number)
      | inr x ↦ x.1 ∙ ap (λ y. codes ".memory " ++ y) (sym (ap (drop 8) x.1))
    ]

memory_absent : (before : List (List ℕ)) (text : List ℕ) → kind text ≡ AMemory → (before ≡ []) ⊎ BehindVersion before → (is_size (drop 8 text) && nat_lt 134217728 (value_from 0 (drop 8 text))) ≡ false → Absent before text
memory_absent before text e w near = record {
  repeated = memory_not_stood before text w e;
  large = λ x. no_test (sym near ∙ large_test text (drop 8 text) refl x);
  cluster = λ rest x. not_on_cluster text rest e x;
}

size_too_large : (all before : List (List ℕ)) (text : List ℕ) → kind text ≡ AMemory → (before ≡ []) ⊎ BehindVersion before
    → (is_size (drop 8 text) && nat_lt 134217728 (value_from 0 (drop 8 text))) ≡ true → FirstCause all before text MemoryTooLarge
size_too_large all before text e w h =
    let digits = drop 8 text in
    let a = both_true (is_size digits) (nat_lt 134217728 (value_from 0 digits)) h in
    let b = both_true (is_number digits) (nat_eq (value_from 0 digits % 4) 0) a.0 in
    let value = value_is digits b.0 in
    let whole : value_from 0 digits % 4 ≡ 0 = eqb-true _ _ b.1 in
    let large : 134217728 < value_from 0 digits = ltb-true _ _ a.1 in
    record {
      applies = record {
        digits = digits;
        is = memory_split text (told text AMemory e) b.0;
        number = b.0;
        multiple = sym (ap (λ n. n % 4) value) ∙ whole;
        large = omega (arith, large, value);
      };
      first = earlier;
    }
  where
    earlier : (other : Cause) → rank other < 1 → Applies other all before text → ⊥
    earlier Repeated lt x = memory_not_stood before text w e x
    earlier MemoryTooLarge lt x = omega (arith, lt)
    earlier UnknownOperation lt x = omega (arith, lt)
    earlier BadOperand lt x = omega (arith, lt)
    earlier UnknownLabel lt x = omega (arith, lt)
    earlier BadLine lt x = omega (arith, lt)

least_behind_version : (stage : Stage) (least : ℕ) (before : List (List ℕ)) → At stage least before → is_version_stage stage ≡ true → least ≡ 0
least_behind_version AtVersion least before x e = x.1
least_behind_version stage least before x e = no_test e

memory_accepts : (all : List (List ℕ)) (marks : List Bool) (before : List (List ℕ)) (s : Before) (text : List ℕ) → Stands marks before s → kind text ≡ AMemory
    → (is_size (drop 8 text) && nat_lt 134217728 (value_from 0 (drop 8 text))) ≡ false → (is_size (drop 8 text) && is_version_stage s.stage) ≡ true
    → Judged all marks before text (Ok (record s { stage = AtMemory; memory = value_from 0 (drop 8 text) }))
memory_accepts all marks before s text st e near h =
    let digits = drop 8 text in
    let n = value_from 0 digits in
    let a = both_true (is_size digits) (is_version_stage s.stage) h in
    let b = both_true (is_number digits) (nat_eq (n % 4) 0) a.0 in
    let only = version_at s.stage s.least before st.last a.1 in
    let low : nat_lt 134217728 n ≡ false = (let k = rw a.0 at near in k) in
    let small : n ≤ 134217728 = ltb-false _ _ low in
    let written : decimal n ≡ digits = size_written digits b.0 (omega (arith, small)) in
    let same : text ≡ text_of (Memory n) = memory_split text (told text AMemory e) b.0 ∙ ap (λ y. codes ".memory " ++ y) (sym written) in
    let first : initial text ≡ 109 = ap initial same in
    let least : s.least ≡ 0 = least_behind_version s.stage s.least before st.last a.1 in
    let bound : length s.words + begun s.stage ≡ length s.words + 0 = ap (λ k. length s.words + k) (version_begun s.stage a.1) in
    let started : is_start_stage s.stage ≡ false = no_start s.stage a.1 in (
      none_applies all before text (Memory n) (memory_absent before text e (inr only) near) (only, eqb-true _ _ b.1, small) same,
      record {
        last = inl (n, behind before text (Memory n) same, least);
        words = no_more_words text AMemory (length s.words) e refl ∙ ap (λ k. k + one_of (is_word_end text)) st.words ∙ sym (word_count_more before text);
        texts = no_more_texts text AMemory (length s.texts) e refl ∙ ap (λ k. k + one_of (is_quoted text)) st.texts ∙ sym (text_count_more before text);
        version_stood = λ _. version_more before text (st.version_stood started);
        memory_stood = λ _. among_last (text_of (Memory n)) before text (sym same);
        memory_only = λ m le among. elim (among_split (text_of (Memory m)) before text among) [
          | inl x ↦ absurd (alone only.number m (subst (IsAmong (text_of (Memory m))) only.is x))
          | inr x ↦ decimal_injective m n (omega (arith, le)) (omega (arith, small)) (ap (drop 8) (x ∙ same))
        ];
        memory_small = small;
        labels = labels_same marks before text (length s.words + 0) (subst (Labels marks before) bound st.labels) (other_initial text 109 76 first (λ z. omega (arith, z)));
      },
    )
  where
    no_start : (stage : Stage) → is_version_stage stage ≡ true → is_start_stage stage ≡ false
    no_start AtVersion e = refl
    no_start stage e = no_test e

    alone : (v m : ℕ) → IsAmong (text_of (Memory m)) (text_of (Version v) ∷ []) → ⊥
    alone v m (inl is) = let h : 109 ≡ 118 = ap initial is in omega (arith, h)
    alone v m (inr never) = never

memory_refuses : (all : List (List ℕ)) (marks : List Bool) (before : List (List ℕ)) (s : Before) (text : List ℕ) → Stands marks before s → kind text ≡ AMemory → (before ≡ []) ⊎ BehindVersion before
    → (length all ≡ length before + 1 → ⊥) → (is_size (drop 8 text) && nat_lt 134217728 (value_from 0 (drop 8 text))) ≡ false → (is_size (drop 8 text) && is_version_stage s.stage) ≡ false → FirstCause all before text BadLine
memory_refuses all marks before s text st e w more near h =
    bad_alone all before text (memory_absent before text e w near)
    (bad_line all before text AMemory e more (λ own. no_test (sym h ∙ fits own.0 own.1 own.2)))
  where
    fits : (n : ℕ) → MayStand all before (Memory n) → text ≡ text_of (Memory n) → (is_size (drop 8 text) && is_version_stage s.stage) ≡ true
    fits n m same =
        let small = m.2 in
        let digits : drop 8 text ≡ decimal n = ap (drop 8) same in
        let value : value_from 0 (decimal n) ≡ n = digits_value-decimal own n (omega (arith, small)) in
        let whole : value_from 0 (decimal n) % 4 ≡ 0 = ap (λ k. k % 4) value ∙ m.1 in
        let size : is_size (drop 8 text) ≡ true = ap is_size digits ∙ rw (decimal_is_number n (omega (arith, small)), eq-eqb (value_from 0 (decimal n) % 4) 0 whole) refl in
        let stage : is_version_stage s.stage ≡ true = (by_initial s.stage s.least before st.last).version ∙ ap (λ x. nat_eq (last_initial x) 118) m.0.is in
        and_from _ _ size stage

pub memory_judged : (all : List (List ℕ)) (marks : List Bool) (total : ℕ) (before : List (List ℕ)) (s : Before) (text : List ℕ) → Here all marks total before s → kind text ≡ AMemory
    → Judged all marks before text (memory_step s (drop 8 text))
unfolding memory_step
memory_judged all marks total before s text here e =
    let st = here.stands in
    let digits = drop 8 text in
    let t : Before = record s { stage = AtMemory; memory = value_from 0 digits } in
    chosen_by all marks before text (is_start_stage s.stage || is_version_stage s.stage)
    (if is_size digits && nat_lt 134217728 (value_from 0 digits) then Err 6 else accepted (is_size digits && is_version_stage s.stage) (record s { stage = AtMemory; memory = value_from 0 digits })) (Err 5)
    (λ h. let w = where_at st h in
    chosen_by all marks before text (is_size digits && nat_lt 134217728 (value_from 0 digits)) (Err 6) (accepted (is_size digits && is_version_stage s.stage) (record s { stage = AtMemory; memory = value_from 0 digits }))
    (λ far. (MemoryTooLarge, refl, size_too_large all before text e w far))
    (λ near. accepted_by all marks before text (is_size digits && is_version_stage s.stage) (record s { stage = AtMemory; memory = value_from 0 digits })
    (λ f. memory_accepts all marks before s text st e near f) (λ f. memory_refuses all marks before s text st e w here.more near f)))
    (λ h. let b = neither (is_start_stage s.stage) (is_version_stage s.stage) h in (
      Repeated,
      refl,
      first_repeated all before text (memory (told text AMemory e)
          (record { other = text_of (Memory s.memory); stood = st.memory_stood (not_header s.stage b.0 b.1); same = sym (told text AMemory e) })),
    ))
  where
    where_at : Stands marks before s → (is_start_stage s.stage || is_version_stage s.stage) ≡ true → (before ≡ []) ⊎ BehindVersion before
    where_at st h = elim (either_true (is_start_stage s.stage) (is_version_stage s.stage) h) [
      | inl x ↦ inl (start_at s.stage s.least before st.last x)
      | inr x ↦ inr (version_at s.stage s.least before st.last x)
    ]

    neither : (a b : Bool) → (a || b) ≡ false → (a ≡ false) × (b ≡ false)
    neither true b h = absurd (let never : true ≡ false = h in cc)
    neither false b h = (refl, h)
