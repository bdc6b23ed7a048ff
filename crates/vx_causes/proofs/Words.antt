-- The lines of words, operations aside: what a reader does with each, and the cause where it refuses it.
use Rattle.std.proofs.Common.{◌≡◌, inl, inr, ℕ, ◌+◌, ◌<◌, ◌≤◌, Bool, true, false, ◌&&◌, ◌||◌, List, [], ◌∷◌, ◌++◌, length, get_or, drop, Ok, Err, refl, sym, ap, subst, ◌∙◌, arith}
use Rattle.std.specs.Prelude.{codes, decimal, nat_eq, nat_le}
use Rattle.std.specs.Str.{bytes_eq}
use Rattle.std.proofs.lemmas.Bool.{le-leb, eq-eqb, and_from}
use Rattle.std.proofs.lemmas.List.{append-nil, length-append}
use borrow.Author.Tests.{eqb-true, leb-true}
use Rattle.vx_isa.specs.declared.program.Word.{Word}
use Rattle.vx_reader.specs.declared.before.Stage.{Stage}
use Rattle.vx_reader.specs.declared.before.Stage.TheVariants.{WordEnd as AtWordEnd, Label as AtLabel, Idle as AtIdle}
use Rattle.vx_reader.specs.declared.before.Before.{Before}
use Rattle.vx_words.specs.Spelling.{place_text, idle_text}
use Rattle.vx_reader.specs.Fields.{number_at}
use Rattle.vx_reader.specs.Steps.{accepted, is_between_words, is_operations_stage, is_idle_stage, is_marked, begins_word, label_stood, label_by, label_step, idle_step, word_end_step}
use Rattle.vx_reader.specs.Text.{word_count, is_word_end}
use Rattle.vx_reader.proofs.Numbers.{both_true}
use Rattle.vx_reader.proofs.FieldsAgain.{number_read}
use Rattle.vx_reader.proofs.OperationsAgain.{same_text}
use Rattle.vx_causes.specs.Lines.{Label, Operates, Idle, WordEnd, IsAmong, WordEnds, empty, behind_operation, behind_idle, MayStand}
use Rattle.vx_causes.specs.Causes.{Repeated, BadLine, FirstCause, IsRepeated, version, memory, label}
use Rattle.vx_causes.proofs.Sorts.{Kind, AnOperation, AnEnd, AVersion, AMemory, AnIdle, Another, kind, told, ends_by, version_kind, memory_kind, cluster_kind, large_kind, bad_line, Absent, bad_alone, none_applies, first_repeated, same_bytes}
use Rattle.vx_causes.proofs.Lasts.{initial, is_last_initial, behind, one_of}
use Rattle.vx_causes.proofs.Stands.{Labels, begun, Stands, by_initial, between_at, operations_at, idle_at, open_between, between_begun, stood_told, told_stood, labels_more, stands_more, begins_told, told_begins, told_between, word_labels, word_open, either_true, no_test, or_left, or_right}
use Rattle.vx_causes.proofs.Directives.{Judged, Here, Accepts, accepted_by, chosen_by, quiet_judged, no_more_words, no_more_texts, other_initial}

-- an empty time

idle_read : (n : ℕ) → n ≤ 255 → (number_at (drop 5 (idle_text n))).0 ≡ n
idle_read n le = ap (λ (x : ℕ × List ℕ). x.0) (ap number_at (sym (append-nil (decimal n))) ∙ number_read n [] (omega (arith, le)) tt)

pub idle_judged : (all : List (List ℕ)) (marks : List Bool) (total : ℕ) (before : List (List ℕ)) (s : Before) (text : List ℕ) → Here all marks total before s → kind text ≡ AnIdle
    → Judged all marks before text (idle_step marks s text)
unfolding idle_step
idle_judged all marks total before s text here e =
    let n = (number_at (drop 5 text)).0 in
    quiet_judged all marks before text AnIdle (begins_word marks s && nat_le 1 n && nat_le n 255 && bytes_eq (idle_text n) text) (record s { stage = AtIdle; idle = n }) e refl here.more
    (λ h. accepts here h) (λ x. back here x.0 x.1 x.2)
  where
    accepts : Here all marks total before s → (begins_word marks s && nat_le 1 (number_at (drop 5 text)).0 && nat_le (number_at (drop 5 text)).0 255 && bytes_eq (idle_text (number_at (drop 5 text)).0) text) ≡ true
        → Accepts all marks before text (record s { stage = AtIdle; idle = (number_at (drop 5 text)).0 })
    accepts here h =
        let st = here.stands in
        let n = (number_at (drop 5 text)).0 in
        let a = both_true (begins_word marks s && nat_le 1 n && nat_le n 255) (bytes_eq (idle_text n) text) h in
        let b = both_true (begins_word marks s && nat_le 1 n) (nat_le n 255) a.0 in
        let c = both_true (begins_word marks s) (nat_le 1 n) b.0 in
        let same : text ≡ idle_text n = sym (same_bytes (idle_text n) text a.1) in
        let first : initial text ≡ 120 = ap initial same in
        let within : (begins_word marks s || is_operations_stage s.stage || is_idle_stage s.stage) ≡ true = or_left _ _ (or_left _ _ c.0) in
        record {
          line = Idle n;
          may = (begins_told all marks total before s here.set st here.few c.0, leb-true _ _ c.1, leb-true _ _ b.1);
          is = same;
          stands = stands_more marks before s text (record s { stage = AtIdle; idle = n }) st (word_open marks s within) refl (other_initial text 120 109 first (λ z. omega (arith, z)))
              (n, behind before text (Idle n) same)
              (no_more_words text AnIdle (length s.words) e refl) (no_more_texts text AnIdle (length s.texts) e refl)
              (word_labels marks before s text st (other_initial text 120 76 first (λ z. omega (arith, z))) within);
        }

    back : Here all marks total before s → (n : ℕ) → MayStand all before (Idle n) → text ≡ idle_text n
        → (begins_word marks s && nat_le 1 (number_at (drop 5 text)).0 && nat_le (number_at (drop 5 text)).0 255 && bytes_eq (idle_text (number_at (drop 5 text)).0) text) ≡ true
    back here n m same =
        let high = m.2 in
        let again : (number_at (drop 5 text)).0 ≡ n = ap (λ x. (number_at (drop 5 x)).0) same ∙ idle_read n high in
        let begins = told_begins all marks total before s here.set here.stands here.few m.0 in
        let spelled : bytes_eq (idle_text n) text ≡ true = ap (bytes_eq (idle_text n)) same ∙ same_text (idle_text n) in
        and_from _ _ (ap (λ k. begins_word marks s && nat_le 1 k && nat_le k 255) again ∙ rw (begins, le-leb 1 n m.1, le-leb n 255 high) refl)
        (ap (λ k. bytes_eq (idle_text k) text) again ∙ spelled)

-- the end of a word

word_ends_at : (all : List (List ℕ)) (marks : List Bool) (total : ℕ) (before : List (List ℕ)) (s : Before) → Here all marks total before s
    → (begins_word marks s || is_operations_stage s.stage || is_idle_stage s.stage) ≡ true → WordEnds all before
word_ends_at all marks total before s here e =
    elim (either_true (begins_word marks s || is_operations_stage s.stage) (is_idle_stage s.stage) e) [
      | inl x ↦ elim (either_true (begins_word marks s) (is_operations_stage s.stage) x) [
        | inl y ↦ empty (begins_told all marks total before s here.set here.stands here.few y)
        | inr y ↦ (let o = operations_at s.stage s.least before here.stands.last y in behind_operation o.0 o.1)
      ]
      | inr x ↦ (let i = idle_at s.stage s.least before here.stands.last x in behind_idle i.0 i.1)
    ]

word_ends_back : (all : List (List ℕ)) (marks : List Bool) (total : ℕ) (before : List (List ℕ)) (s : Before) → Here all marks total before s → WordEnds all before
    → (begins_word marks s || is_operations_stage s.stage || is_idle_stage s.stage) ≡ true
word_ends_back all marks total before s here (empty x) =
    or_left (begins_word marks s || is_operations_stage s.stage) (is_idle_stage s.stage) (or_left (begins_word marks s) (is_operations_stage s.stage) (told_begins all marks total before s here.set here.stands here.few x))
word_ends_back all marks total before s here (behind_operation op x) =
    let is : is_operations_stage s.stage ≡ true = (by_initial s.stage s.least before here.stands.last).operations ∙ ap (λ n. nat_eq n 99) (is_last_initial before (Operates op) x) in
    or_left (begins_word marks s || is_operations_stage s.stage) (is_idle_stage s.stage) (or_right (begins_word marks s) (is_operations_stage s.stage) is)
word_ends_back all marks total before s here (behind_idle n x) =
    let is : is_idle_stage s.stage ≡ true = (by_initial s.stage s.least before here.stands.last).idle ∙ ap (λ n. nat_eq n 120) (is_last_initial before (Idle n) x) in
    or_right (begins_word marks s || is_operations_stage s.stage) (is_idle_stage s.stage) is

pub word_end_judged : (all : List (List ℕ)) (marks : List Bool) (total : ℕ) (before : List (List ℕ)) (s : Before) (text : List ℕ) → Here all marks total before s → kind text ≡ AnEnd
    → Judged all marks before text (word_end_step marks s)
unfolding word_end_step
word_end_judged all marks total before s text here e =
    quiet_judged all marks before text AnEnd (begins_word marks s || is_operations_stage s.stage || is_idle_stage s.stage)
    (record s { stage = AtWordEnd; words = s.words ++ record { ops = s.ops; idle = s.idle } ∷ []; ops = []; idle = 0 }) e refl here.more
    (λ h. accepts here h) (λ x. word_ends_back all marks total before s here x)
  where
    accepts : Here all marks total before s → (begins_word marks s || is_operations_stage s.stage || is_idle_stage s.stage) ≡ true
        → Accepts all marks before text (record s { stage = AtWordEnd; words = s.words ++ record { ops = s.ops; idle = s.idle } ∷ []; ops = []; idle = 0 })
    accepts here h =
        let st = here.stands in
        let same : text ≡ codes ";;" = told text AnEnd e in
        let first : initial text ≡ 59 = ap initial same in
        let w : Word = record { ops = s.ops; idle = s.idle } in
        let longer : length (s.words ++ w ∷ []) ≡ length s.words + 1 = length-append s.words (w ∷ []) in
        let ends : is_word_end text ≡ true = ends_by text AnEnd (told text AnEnd e) in
        let bound : length s.words + 1 ≡ length (s.words ++ w ∷ []) + 0 = omega (arith, longer) in
        let labels = word_labels marks before s text st (other_initial text 59 76 first (λ z. omega (arith, z))) h in
        record {
          line = WordEnd;
          may = word_ends_at all marks total before s here h;
          is = same;
          stands = stands_more marks before s text (record s { stage = AtWordEnd; words = s.words ++ record { ops = s.ops; idle = s.idle } ∷ []; ops = []; idle = 0 }) st (word_open marks s h) refl
              (other_initial text 59 109 first (λ z. omega (arith, z)))
              (behind before text WordEnd same)
              (longer ∙ ap (λ b. length s.words + one_of b) (sym ends)) (no_more_texts text AnEnd (length s.texts) e refl)
              (subst (Labels marks (before ++ text ∷ [])) bound labels);
        }

-- a label

label_read : (p : ℕ) → p ≤ 4294967295 → (number_at (drop 1 (place_text p))).0 ≡ p
label_read p le = ap (λ (x : ℕ × List ℕ). x.0) (number_read p (codes ":") le refl)

abbrev is_other_kind : Kind → Bool
is_other_kind Another = true
is_other_kind k = false

another : {A : Type 0} (text : List ℕ) (j : Kind) → kind text ≡ Another → kind text ≡ j → is_other_kind j ≡ false → A
another text j e f never = no_test (sym never ∙ ap is_other_kind (sym f ∙ e))

-- no label of the text stood before
label_absent : (marks : List Bool) (before : List (List ℕ)) (s : Before) (text : List ℕ) → Stands marks before s → kind text ≡ Another
    → ((p : ℕ) → text ≡ place_text p → get_or marks p false ≡ true → p < length s.words + begun s.stage → ⊥) → Absent before text
label_absent marks before s text st e none = record {
  repeated = stood st none;
  large = λ x. another text AMemory e (large_kind text x) refl;
  cluster = λ rest x. another text AnOperation e (cluster_kind text rest x) refl;
}
  where
    stood : Stands marks before s → ((p : ℕ) → text ≡ place_text p → get_or marks p false ≡ true → p < length s.words + begun s.stage → ⊥) → IsRepeated before text → ⊥
    stood st none (version f x) = another text AVersion e (version_kind text f) refl
    stood st none (memory f x) = another text AMemory e (memory_kind text f) refl
    stood st none (label p f x) = let y = st.labels.labels text x (ap initial f) in none y.0 y.1 y.2 y.3

bound_small : (all : List (List ℕ)) (marks : List Bool) (total : ℕ) (before : List (List ℕ)) (s : Before) (p : ℕ) → Here all marks total before s → p < length s.words + begun s.stage → p ≤ 4294967295
bound_small all marks total before s p here lt =
    let words = here.stands.words in
    let few = here.few in
    let small = here.set.small in
    let one : begun s.stage ≤ 1 = begun_small s.stage in
    omega (arith, lt, words, few, small, one)
  where
    begun_small : (stage : Stage) → begun stage ≤ 1
    begun_small AtLabel = omega arith
    begun_small stage = omega arith

spelled_place : (text : List ℕ) (p : ℕ) → p ≤ 4294967295 → text ≡ place_text p → (number_at (drop 1 text)).0 ≡ p
spelled_place text p le e = ap (λ x. (number_at (drop 1 x)).0) e ∙ label_read p le

-- the text is no label of a place that is in reach
not_spelled : (text : List ℕ) (p : ℕ) → bytes_eq (place_text (number_at (drop 1 text)).0) text ≡ false → p ≤ 4294967295 → text ≡ place_text p → ⊥
not_spelled text p never le e =
    let read : (number_at (drop 1 text)).0 ≡ p = spelled_place text p le e in
    let same : bytes_eq (place_text (number_at (drop 1 text)).0) text ≡ true = ap (λ k. bytes_eq (place_text k) text) read ∙ ap (bytes_eq (place_text p)) e ∙ same_text (place_text p) in
    no_test (sym never ∙ same)

unspelled_judged : (all : List (List ℕ)) (marks : List Bool) (total : ℕ) (before : List (List ℕ)) (s : Before) (text : List ℕ) → Here all marks total before s → kind text ≡ Another
    → bytes_eq (place_text (number_at (drop 1 text)).0) text ≡ false → FirstCause all before text BadLine
unspelled_judged all marks total before s text here e never =
    let few = here.few in
    let small = here.set.small in
    bad_alone all before text (label_absent marks before s text here.stands e (λ p is m lt. not_spelled text p never (bound_small all marks total before s p here lt) is))
    (bad_line all before text Another e here.more (λ own. let at : own.0 ≡ word_count before = own.1.1 in not_spelled text own.0 never (omega (arith, at, few, small)) own.2))

abbrev read_place : List ℕ → ℕ
read_place text = (number_at (drop 1 text)).0

fresh_judged : (all : List (List ℕ)) (marks : List Bool) (total : ℕ) (before : List (List ℕ)) (s : Before) (text : List ℕ) (p : ℕ) → Here all marks total before s → kind text ≡ Another
    → text ≡ place_text p → read_place text ≡ p → label_stood marks s p ≡ false
    → Judged all marks before text (accepted (is_between_words s.stage && nat_eq p (length s.words) && is_marked marks s) (record s { stage = AtLabel }))
fresh_judged all marks total before s text p here e is read fresh =
    let a = label_absent marks before s text here.stands e (λ q same m lt. stood here q same m lt) in
    accepted_by all marks before text (is_between_words s.stage && nat_eq p (length s.words) && is_marked marks s) (record s { stage = AtLabel })
    (λ h. accepts here a h) (λ h. bad_alone all before text a (bad_line all before text Another e here.more (λ own. no_test (sym h ∙ back here own.0 own.1 own.2))))
  where
    stood : Here all marks total before s → (q : ℕ) → text ≡ place_text q → get_or marks q false ≡ true → q < length s.words + begun s.stage → ⊥
    stood here q same m lt =
        let here_is : q ≡ p = sym (spelled_place text q (bound_small all marks total before s q here lt) same) ∙ read in
        no_test (sym fresh ∙ ap (label_stood marks s) (sym here_is) ∙ told_stood marks s q m lt)

    accepts : Here all marks total before s → Absent before text → (is_between_words s.stage && nat_eq p (length s.words) && is_marked marks s) ≡ true → Judged all marks before text (Ok (record s { stage = AtLabel }))
    accepts here a h =
        let st = here.stands in
        let b = both_true (is_between_words s.stage && nat_eq p (length s.words)) (is_marked marks s) h in
        let c = both_true (is_between_words s.stage) (nat_eq p (length s.words)) b.0 in
        let place : p ≡ length s.words = eqb-true _ _ c.1 in
        let count : p ≡ word_count before = place ∙ st.words in
        let few = here.few in
        let marked : get_or marks p false ≡ true = ap (λ k. get_or marks k false) place ∙ b.1 in
        let first : initial text ≡ 76 = ap initial is in
        let none = between_begun s.stage c.0 in
        let bound : length s.words + begun s.stage ≡ length s.words = omega (arith, none) in (
          none_applies all before text (Label p) a (between_at s.stage s.least before st.last c.0, count, here.set.marked p (omega (arith, count, few)) marked) is,
          stands_more marks before s text (record s { stage = AtLabel }) st (open_between s.stage c.0) refl (other_initial text 76 109 first (λ z. omega (arith, z)))
              (p, behind before text (Label p) is) (no_more_words text Another (length s.words) e refl) (no_more_texts text Another (length s.texts) e refl)
              (labels_more marks before text (length s.words) (subst (Labels marks before) bound st.labels) (is ∙ ap place_text place) b.1),
        )

    back : Here all marks total before s → (q : ℕ) → MayStand all before (Label q) → text ≡ place_text q → (is_between_words s.stage && nat_eq p (length s.words) && is_marked marks s) ≡ true
    back here q m same =
        let st = here.stands in
        let few = here.few in
        let small = here.set.small in
        let count : q ≡ word_count before = m.1 in
        let place : p ≡ length s.words = sym read ∙ spelled_place text q (omega (arith, count, few, small)) same ∙ count ∙ sym st.words in
        let marked : is_marked marks s ≡ true = ap (λ k. get_or marks k false) (st.words ∙ sym count) ∙ here.set.named q (omega (arith, count, few)) m.2 in
        rw (told_between marks before s st m.0, eq-eqb p (length s.words) place, marked) refl

spelled_judged : (all : List (List ℕ)) (marks : List Bool) (total : ℕ) (before : List (List ℕ)) (s : Before) (text : List ℕ) (p : ℕ) → Here all marks total before s → kind text ≡ Another
    → text ≡ place_text p → read_place text ≡ p → Judged all marks before text (label_by marks s p)
unfolding label_by
spelled_judged all marks total before s text p here e is read =
    chosen_by all marks before text (label_stood marks s p) (Err 5) (accepted (is_between_words s.stage && nat_eq p (length s.words) && is_marked marks s) (record s { stage = AtLabel }))
    (λ h. let b = stood_told marks s p h in
    (Repeated, refl, first_repeated all before text (label p is (subst (λ x. IsAmong x before) (sym is) (here.stands.labels.stood p b.0 b.1)))))
    (λ h. fresh_judged all marks total before s text p here e is read h)

pub label_judged : (all : List (List ℕ)) (marks : List Bool) (total : ℕ) (before : List (List ℕ)) (s : Before) (text : List ℕ) → Here all marks total before s → kind text ≡ Another
    → Judged all marks before text (label_step marks s text)
unfolding label_step
label_judged all marks total before s text here e =
    let p = (number_at (drop 1 text)).0 in
    chosen_by all marks before text (bytes_eq (place_text p) text) (label_by marks s p) (Err 1)
    (λ h. spelled_judged all marks total before s text p here e (sym (same_bytes (place_text p) text h)) refl)
    (λ h. (BadLine, refl, unspelled_judged all marks total before s text here e h))
