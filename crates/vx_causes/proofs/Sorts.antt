-- Which kind of line a text is, by the tests by which a reader tells them apart.
use Rattle.std.proofs.Common.{◌≡◌, ◌⊎◌, inl, inr, ℕ, suc, ◌+◌, ◌<◌, ◌≤◌, ℤ, Bool, true, false, List, [], ◌∷◌, ◌++◌, length, drop, Result, refl, sym, ap, subst, ◌∙◌, arith}
use Rattle.std.specs.Prelude.{codes, decimal, nat_eq, if◌then◌else◌}
use Rattle.std.specs.List.{prefix_len}
use Rattle.std.specs.Str.{bytes_eq}
use Rattle.std.proofs.lemmas.Slice.Eq.{bytes_eq-Decides}
use Rattle.std.proofs.lemmas.Fmt.{decimal_digit}
use borrow.Author.Tests.{eqb-true}
use Rattle.vx_isa.specs.declared.operation.Operation.{Operation}
use Rattle.vx_isa.specs.Operations.{cluster_of}
use Rattle.vx_reader.specs.declared.before.Before.{Before}
use Rattle.vx_words.specs.Spelling.{target_of, body_text, operation_text, place_text, start_text, quoted_text, idle_text}
use Rattle.vx_reader.specs.Reading.{has_operands, texts_named}
use Rattle.std.specs.Prelude.{unwrap_or}
use Rattle.vx_reader.specs.Steps.{is_operation_line, line_cluster, step, operation_step, word_end_step, version_step, memory_step, start_step, text_step, idle_step, label_step}
use Rattle.vx_reader.specs.Text.{is_word_end}
use Rattle.vx_reader.proofs.OperationLemmas.{three_bytes}
use Rattle.vx_reader.proofs.WordsAgain.{operation_bytes, operation_begins}
use Rattle.vx_reader.proofs.LinesAgain.{cluster_bound}
use Rattle.vx_causes.specs.Lines.{Line, Version, Memory, Start, Quoted, Label, Operates, Idle, WordEnd, End, text_of, is_no_blank, first_field, is_quoted, MayStand}
use Rattle.vx_causes.specs.Causes.{Cause, Repeated, MemoryTooLarge, UnknownOperation, BadOperand, UnknownLabel, BadLine, rank, Applies, FirstCause, IsRepeated, version, memory, label, IsTooLarge, OnCluster}

pub same_bytes : (xs ys : List ℕ) → bytes_eq xs ys ≡ true → xs ≡ ys
same_bytes xs ys e = (bytes_eq-Decides xs ys).0 e

-- a first field, and what stands behind it

pub field_cons : (c : ℕ) (cs : List ℕ) → nat_eq c 32 ≡ false → first_field (c ∷ cs) ≡ c ∷ first_field cs
field_cons c cs e = let one : 1 + prefix_len is_no_blank cs ≡ suc (prefix_len is_no_blank cs) = omega arith in rw (e, one) refl

abbrev FieldThen : (text name : List ℕ) → Type 0
FieldThen text name = (text ≡ name) ⊎ ((rest : List ℕ) × (text ≡ name ++ 32 ∷ rest))

by_field_at : (c : ℕ) (cs : List ℕ) (b : Bool) → nat_eq c 32 ≡ b → FieldThen cs (first_field cs) → FieldThen (c ∷ cs) (first_field (c ∷ cs))
by_field_at c cs true t h =
    let none : first_field (c ∷ cs) ≡ [] = rw t refl in
    inr (cs, ap (λ k. k ∷ cs) (eqb-true c 32 t) ∙ ap (λ x. x ++ 32 ∷ cs) (sym none))
by_field_at c cs false t (inl e) = inl (ap (λ x. c ∷ x) e ∙ sym (field_cons c cs t))
by_field_at c cs false t (inr e) = inr (e.0, ap (λ x. c ∷ x) e.1 ∙ ap (λ x. x ++ 32 ∷ e.0) (sym (field_cons c cs t)))

by_own_field : (text : List ℕ) → FieldThen text (first_field text)
by_own_field [] = inl refl
by_own_field (c ∷ cs) = by_field_at c cs (nat_eq c 32) refl (by_own_field cs)

-- a text with this first field is that field, or goes on with a blank
pub by_field : (text name : List ℕ) → first_field text ≡ name → (text ≡ name) ⊎ ((rest : List ℕ) × (text ≡ name ++ 32 ∷ rest))
by_field text name e = subst (FieldThen text) e (by_own_field text)

-- kinds

pub data Kind : Type 0 where
  AnOperation : Kind
  AnEnd : Kind
  AVersion : Kind
  AMemory : Kind
  AStart : Kind
  AText : Kind
  AnIdle : Kind
  Another : Kind

abbrev pub kind_by : (a b c d e f g : Bool) → Kind
kind_by a b c d e f g =
    if a then AnOperation
    else (if b then AnEnd else (if c then AVersion else (if d then AMemory else (if e then AStart else (if f then AText else (if g then AnIdle else Another))))))

abbrev field_is : List ℕ → List ℕ → Bool
field_is text name = bytes_eq (first_field text) name

abbrev pub kind : List ℕ → Kind
kind text =
    kind_by (is_operation_line text) (is_word_end text) (field_is text (codes ".vexwords")) (field_is text (codes ".memory"))
    (field_is text (codes ".word")) (field_is text (codes ".text")) (field_is text (codes "xnop"))

abbrev pub outcome : Kind → List Bool → ℕ → Before → List ℕ → Result Before ℕ
outcome AnOperation marks total s text = operation_step marks total s (line_cluster text) (drop 3 text)
outcome AnEnd marks total s text = word_end_step marks s
outcome AVersion marks total s text = version_step s text
outcome AMemory marks total s text = memory_step s (drop 8 text)
outcome AStart marks total s text = start_step s text
outcome AText marks total s text = text_step s text
outcome AnIdle marks total s text = idle_step marks s text
outcome Another marks total s text = label_step marks s text

outcome_by : (a b c d e f g : Bool) (marks : List Bool) (total : ℕ) (s : Before) (text : List ℕ) → outcome (kind_by a b c d e f g) marks total s text
    ≡ (if a then operation_step marks total s (line_cluster text) (drop 3 text)
    else (if b then word_end_step marks s
    else (if c then version_step s text
    else (if d then memory_step s (drop 8 text)
    else (if e then start_step s text
    else (if f then text_step s text
    else (if g then idle_step marks s text
    else label_step marks s text)))))))
outcome_by true b c d e f g marks total s text = refl
outcome_by false true c d e f g marks total s text = refl
outcome_by false false true d e f g marks total s text = refl
outcome_by false false false true e f g marks total s text = refl
outcome_by false false false false true f g marks total s text = refl
outcome_by false false false false false true g marks total s text = refl
outcome_by false false false false false false true marks total s text = refl
outcome_by false false false false false false false marks total s text = refl

pub step_is : (marks : List Bool) (total : ℕ) (s : Before) (text : List ℕ) → outcome (kind text) marks total s text ≡ step marks total s text
unfolding step
step_is marks total s text =
    outcome_by (is_operation_line text) (is_word_end text) (field_is text (codes ".vexwords")) (field_is text (codes ".memory"))
    (field_is text (codes ".word")) (field_is text (codes ".text")) (field_is text (codes "xnop")) marks total s text

-- what the kind tells
abbrev pub Told : Kind → List ℕ → Type 0
Told AnOperation text = is_operation_line text ≡ true
Told AnEnd text = text ≡ codes ";;"
Told AVersion text = first_field text ≡ codes ".vexwords"
Told AMemory text = first_field text ≡ codes ".memory"
Told AStart text = first_field text ≡ codes ".word"
Told AText text = first_field text ≡ codes ".text"
Told AnIdle text = first_field text ≡ codes "xnop"
Told Another text = (is_word_end text ≡ false) × (is_quoted text ≡ false)

told_by : (text : List ℕ) (a b c d e f g : Bool) → is_operation_line text ≡ a → is_word_end text ≡ b → field_is text (codes ".vexwords") ≡ c → field_is text (codes ".memory") ≡ d
    → field_is text (codes ".word") ≡ e → field_is text (codes ".text") ≡ f → field_is text (codes "xnop") ≡ g → Told (kind_by a b c d e f g) text
told_by text true b c d e f g ta tb tc td te tf tg = ta
told_by text false true c d e f g ta tb tc td te tf tg = same_bytes text (codes ";;") tb
told_by text false false true d e f g ta tb tc td te tf tg = same_bytes (first_field text) (codes ".vexwords") tc
told_by text false false false true e f g ta tb tc td te tf tg = same_bytes (first_field text) (codes ".memory") td
told_by text false false false false true f g ta tb tc td te tf tg = same_bytes (first_field text) (codes ".word") te
told_by text false false false false false true g ta tb tc td te tf tg = same_bytes (first_field text) (codes ".text") tf
told_by text false false false false false false true ta tb tc td te tf tg = same_bytes (first_field text) (codes "xnop") tg
told_by text false false false false false false false ta tb tc td te tf tg = (tb, tf)

pub told : (text : List ℕ) (k : Kind) → kind text ≡ k → Told k text
told text k e =
    subst (λ x. Told x text) e
    (told_by text (is_operation_line text) (is_word_end text) (field_is text (codes ".vexwords")) (field_is text (codes ".memory"))
    (field_is text (codes ".word")) (field_is text (codes ".text")) (field_is text (codes "xnop")) refl refl refl refl refl refl refl)

abbrev pub ends_kind : Kind → Bool
ends_kind AnEnd = true
ends_kind k = false

abbrev pub quoted_kind : Kind → Bool
quoted_kind AText = true
quoted_kind k = false

field_no_end : (text name : List ℕ) → first_field text ≡ name → is_word_end name ≡ false → ((rest : List ℕ) → is_word_end (name ++ 32 ∷ rest) ≡ false) → is_word_end text ≡ false
field_no_end text name e alone more =
    elim (by_field text name e) [ inl x ↦ ap is_word_end x ∙ alone | inr x ↦ ap is_word_end x.1 ∙ more x.0 ]

pub ends_by : (text : List ℕ) (k : Kind) → Told k text → is_word_end text ≡ ends_kind k
ends_by text AnOperation e = ap is_word_end (three_bytes text e)
ends_by text AnEnd e = ap is_word_end e
ends_by text AVersion e = field_no_end text (codes ".vexwords") e refl (λ rest. refl)
ends_by text AMemory e = field_no_end text (codes ".memory") e refl (λ rest. refl)
ends_by text AStart e = field_no_end text (codes ".word") e refl (λ rest. refl)
ends_by text AText e = field_no_end text (codes ".text") e refl (λ rest. refl)
ends_by text AnIdle e = field_no_end text (codes "xnop") e refl (λ rest. refl)
ends_by text Another e = e.0

operation_not_quoted : (c : ℕ) (rest : List ℕ) → is_quoted (99 ∷ c ∷ 32 ∷ rest) ≡ false
operation_not_quoted c rest = ap (λ x. bytes_eq x (codes ".text")) (field_cons 99 (c ∷ 32 ∷ rest) refl)

pub quoted_by : (text : List ℕ) (k : Kind) → Told k text → is_quoted text ≡ quoted_kind k
quoted_by text AnOperation e = ap is_quoted (three_bytes text e) ∙ operation_not_quoted _ _
quoted_by text AnEnd e = ap is_quoted e
quoted_by text AVersion e = ap (λ x. bytes_eq x (codes ".text")) e
quoted_by text AMemory e = ap (λ x. bytes_eq x (codes ".text")) e
quoted_by text AStart e = ap (λ x. bytes_eq x (codes ".text")) e
quoted_by text AText e = ap (λ x. bytes_eq x (codes ".text")) e
quoted_by text AnIdle e = ap (λ x. bytes_eq x (codes ".text")) e
quoted_by text Another e = e.1

-- the kinds of texts with a field

kind_by_field : (text name : List ℕ) (k : Kind) → first_field text ≡ name → kind name ≡ k → ((rest : List ℕ) → kind (name ++ 32 ∷ rest) ≡ k) → kind text ≡ k
kind_by_field text name k e alone more =
    elim (by_field text name e) [ inl x ↦ ap kind x ∙ alone | inr x ↦ ap kind x.1 ∙ more x.0 ]

pub version_kind : (text : List ℕ) → first_field text ≡ codes ".vexwords" → kind text ≡ AVersion
version_kind text e = kind_by_field text (codes ".vexwords") AVersion e refl (λ rest. refl)

pub memory_kind : (text : List ℕ) → first_field text ≡ codes ".memory" → kind text ≡ AMemory
memory_kind text e = kind_by_field text (codes ".memory") AMemory e refl (λ rest. refl)

pub label_kind : (xs : List ℕ) → kind (76 ∷ xs) ≡ Another
label_kind xs = rw (field_cons 76 xs refl) refl

pub operation_bytes_kind : (k : ℕ) (rest : List ℕ) → k ≤ 3 → kind (99 ∷ (48 + k) ∷ 32 ∷ rest) ≡ AnOperation
operation_bytes_kind k rest le = rw (operation_begins k rest le) refl

pub on_cluster_bytes : (text rest : List ℕ) (on : OnCluster text rest) → text ≡ 99 ∷ (48 + on.cluster) ∷ 32 ∷ rest
on_cluster_bytes text rest on = let small = on.small in let digit = decimal_digit on.cluster (omega (arith, small)) in on.is ∙ rw digit refl

pub cluster_kind : (text rest : List ℕ) → OnCluster text rest → kind text ≡ AnOperation
cluster_kind text rest on = ap kind (on_cluster_bytes text rest on) ∙ operation_bytes_kind on.cluster rest on.small

pub large_kind : (text : List ℕ) → IsTooLarge text → kind text ≡ AMemory
large_kind text x = ap kind x.is

-- the kinds of lines

abbrev pub line_kind : Line → Kind
line_kind (Version v) = AVersion
line_kind (Memory n) = AMemory
line_kind (Start entry) = AStart
line_kind (Quoted bytes) = AText
line_kind (Label p) = Another
line_kind (Operates op) = AnOperation
line_kind (Idle n) = AnIdle
line_kind WordEnd = AnEnd
line_kind End = Another

pub spelled_bytes : (op : Operation) → has_operands op ≡ true → operation_text op ≡ 99 ∷ (48 + cluster_of op) ∷ 32 ∷ body_text op
unfolding has_operands
spelled_bytes op e = operation_bytes (unwrap_or (target_of op) 0 + 1) (texts_named op) op e

pub spelled_cluster : (op : Operation) → has_operands op ≡ true → cluster_of op ≤ 3
unfolding has_operands
spelled_cluster op e = cluster_bound (unwrap_or (target_of op) 0 + 1) (texts_named op) op e

operation_kind : (op : Operation) → has_operands op ≡ true → kind (operation_text op) ≡ AnOperation
operation_kind op e = ap kind (spelled_bytes op e) ∙ operation_bytes_kind (cluster_of op) (body_text op) (spelled_cluster op e)

-- what a line of the kind of a text is that may stand there
abbrev pub Own : Kind → (all before : List (List ℕ)) → List ℕ → Type 0
Own AnOperation all before text = (op : Operation) × MayStand all before (Operates op) × (text ≡ operation_text op)
Own AnEnd all before text = MayStand all before WordEnd
Own AVersion all before text = (v : ℕ) × MayStand all before (Version v) × (text ≡ text_of (Version v))
Own AMemory all before text = (n : ℕ) × MayStand all before (Memory n) × (text ≡ text_of (Memory n))
Own AStart all before text = (entry : ℕ × ℤ) × MayStand all before (Start entry) × (text ≡ start_text entry)
Own AText all before text = (bytes : List ℕ) × MayStand all before (Quoted bytes) × (text ≡ quoted_text bytes)
Own AnIdle all before text = (n : ℕ) × MayStand all before (Idle n) × (text ≡ idle_text n)
Own Another all before text = (p : ℕ) × MayStand all before (Label p) × (text ≡ place_text p)

own_line : (all before : List (List ℕ)) (text : List ℕ) (l : Line) → (length all ≡ length before + 1 → ⊥) → MayStand all before l → text ≡ text_of l → Own (kind text) all before text
own_line all before text (Version v) more m e = subst (λ k. Own k all before text) (sym (ap kind e)) (v, m, e)
own_line all before text (Memory n) more m e = subst (λ k. Own k all before text) (sym (ap kind e)) (n, m, e)
own_line all before text (Start entry) more m e = subst (λ k. Own k all before text) (sym (ap kind e)) (entry, m, e)
own_line all before text (Quoted bytes) more m e = subst (λ k. Own k all before text) (sym (ap kind e)) (bytes, m, e)
own_line all before text (Label p) more m e = subst (λ k. Own k all before text) (sym (ap kind e ∙ label_kind (decimal p ++ codes ":"))) (p, m, e)
own_line all before text (Operates op) more m e = subst (λ k. Own k all before text) (sym (ap kind e ∙ operation_kind op m.0.operands)) (op, m, e)
own_line all before text (Idle n) more m e = subst (λ k. Own k all before text) (sym (ap kind e)) (n, m, e)
own_line all before text WordEnd more m e = subst (λ k. Own k all before text) (sym (ap kind e)) m
own_line all before text End more m e = absurd (more m.1)

-- no line of its kind may stand there
pub bad_line : (all before : List (List ℕ)) (text : List ℕ) (k : Kind) → kind text ≡ k → (length all ≡ length before + 1 → ⊥) → (Own k all before text → ⊥) → Applies BadLine all before text
bad_line all before text k e more never = λ l m same. never (subst (λ x. Own x all before text) e (own_line all before text l more m same))

-- causes that a text does not have

pub record Absent (before : List (List ℕ)) (text : List ℕ) : Type 0 where
  pub repeated : IsRepeated before text → ⊥
  pub large : IsTooLarge text → ⊥
  pub cluster : (rest : List ℕ) → OnCluster text rest → ⊥

pub bad_alone : (all before : List (List ℕ)) (text : List ℕ) → Absent before text → Applies BadLine all before text → FirstCause all before text BadLine
bad_alone all before text a b = record { applies = b; first = earlier a }
  where
    earlier : Absent before text → (other : Cause) → rank other < 5 → Applies other all before text → ⊥
    earlier a Repeated lt x = a.repeated x
    earlier a MemoryTooLarge lt x = a.large x
    earlier a UnknownOperation lt x = a.cluster x.0 x.1
    earlier a BadOperand lt x = a.cluster x.0 x.1
    earlier a UnknownLabel lt x = a.cluster x.0 x.1
    earlier a BadLine lt x = omega (arith, lt)

pub none_applies : (all before : List (List ℕ)) (text : List ℕ) (l : Line) → Absent before text → MayStand all before l → text ≡ text_of l → (cause : Cause) → Applies cause all before text → ⊥
none_applies all before text l a m e Repeated x = a.repeated x
none_applies all before text l a m e MemoryTooLarge x = a.large x
none_applies all before text l a m e UnknownOperation x = a.cluster x.0 x.1
none_applies all before text l a m e BadOperand x = a.cluster x.0 x.1
none_applies all before text l a m e UnknownLabel x = a.cluster x.0 x.1
none_applies all before text l a m e BadLine x = x l m e

pub first_repeated : (all before : List (List ℕ)) (text : List ℕ) → IsRepeated before text → FirstCause all before text Repeated
first_repeated all before text x = record { applies = x; first = λ other lt y. omega (arith, lt) }

abbrev pub is_quiet : Kind → Bool
is_quiet AnEnd = true
is_quiet AStart = true
is_quiet AText = true
is_quiet AnIdle = true
is_quiet k = false

loud : (text : List ℕ) (k j : Kind) → kind text ≡ k → is_quiet k ≡ true → kind text ≡ j → is_quiet j ≡ false → ⊥
loud text k j e quiet h never = let same : true ≡ false = sym quiet ∙ ap is_quiet (sym e ∙ h) ∙ never in cc

pub quiet_absent : (before : List (List ℕ)) (text : List ℕ) (k : Kind) → kind text ≡ k → is_quiet k ≡ true → Absent before text
quiet_absent before text k e quiet = record {
  repeated = stood;
  large = λ x. loud text k AMemory e quiet (large_kind text x) refl;
  cluster = λ rest x. loud text k AnOperation e quiet (cluster_kind text rest x) refl;
}
  where
    stood : IsRepeated before text → ⊥
    stood (version f x) = loud text k AVersion e quiet (version_kind text f) refl
    stood (memory f x) = loud text k AMemory e quiet (memory_kind text f) refl
    stood (label p f x) = loud text k Another e quiet (ap kind f ∙ label_kind (decimal p ++ codes ":")) refl
