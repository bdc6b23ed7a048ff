-- The lines of a text one after the other: a reader stops at the first faulty one, for its first cause.
use Rattle.std.proofs.Common.{◌≡◌, ◌⊎◌, inl, inr, ℕ, ◌+◌, ◌-◌, ◌<◌, ◌≤◌, Bool, true, false, List, [], ◌∷◌, ◌++◌, length, get_or, drop, Option, Some, None, Result, Ok, Err, refl, sym, ap, subst, ◌∙◌, append_assoc, arith}
use Rattle.std.specs.Prelude.{codes, nat_eq, nat_le, unwrap_or, if◌then◌else◌}
use Rattle.std.specs.List.{list_any}
use Rattle.std.specs.Option.{option_map_or}
use Rattle.std.proofs.lemmas.Bool.{eq-eqb}
use Rattle.std.proofs.lemmas.Bool.Decides.{nat_tests}
use Rattle.std.proofs.lemmas.List.{append-nil, length-append}
use Rattle.std.proofs.lemmas.List.Sums.{sum_by-append}
use borrow.Author.Tests.{eqb-true}
use Rattle.vx_isa.specs.declared.operation.Operation.{Operation}
use Rattle.vx_isa.specs.declared.program.WordProgram.{WordProgram}
use Rattle.vx_isa.specs.Operations.{cluster_of}
use Rattle.vx_reader.specs.declared.before.Before.{Before}
use Rattle.vx_words.specs.Spelling.{target_of, body_text, operation_text, names}
use Rattle.vx_reader.specs.Reading.{has_operands, texts_named, operation_of}
use Rattle.vx_reader.specs.Steps.{beginning, is_between_words, is_operation_line, line_cluster, is_beyond, step}
use Rattle.vx_reader.specs.Text.{Fault, is_word_end, word_count, on_its_cluster, line_operation, line_names, marks_from, followed, run_lines, program_of, ended}
use Rattle.vx_reader.proofs.ReadLemmas.{marks_at}
use Rattle.vx_reader.proofs.OperationLemmas.{operation_spelled}
use Rattle.vx_reader.proofs.OperationsAgain.{operation_again}
use Rattle.vx_reader.proofs.WordsAgain.{operation_begins}
use Rattle.vx_causes.specs.Lines.{Version, Memory, Start, Quoted, Label, Operates, Idle, WordEnd, End, IsSpellable, IsAmong, IsNamed, IsBetweenWords}
use Rattle.vx_causes.specs.Causes.{Cause, BadLine, code_of, Applies, FirstCause, AreFaultless, IsRepeated, version, memory, label}
use Rattle.vx_causes.proofs.Sorts.{Kind, AnOperation, AnEnd, AVersion, AMemory, AStart, AText, AnIdle, Another, kind, outcome, step_is, spelled_bytes, spelled_cluster, Absent, bad_alone, none_applies}
use Rattle.vx_causes.proofs.Lasts.{initial, among_left, among_either, one_of}
use Rattle.vx_causes.proofs.Stands.{Setting, Stands, between_at, told_between, either_true, no_test, or_left, or_right}
use Rattle.vx_causes.proofs.Operations.{taken_of}
use Rattle.vx_causes.proofs.Directives.{Judged, Here, start_judged, text_judged}
use Rattle.vx_causes.proofs.Header.{version_judged, memory_judged}
use Rattle.vx_causes.proofs.Words.{idle_judged, word_end_judged, label_judged}
use Rattle.vx_causes.proofs.OperationStep.{operation_judged}

-- one line

outcome_judged : (all : List (List ℕ)) (marks : List Bool) (total : ℕ) (before : List (List ℕ)) (s : Before) (text : List ℕ) → Here all marks total before s → (k : Kind) → kind text ≡ k
    → Judged all marks before text (outcome k marks total s text)
outcome_judged all marks total before s text here AnOperation e = operation_judged all marks total before s text here e
outcome_judged all marks total before s text here AnEnd e = word_end_judged all marks total before s text here e
outcome_judged all marks total before s text here AVersion e = version_judged all marks total before s text here e
outcome_judged all marks total before s text here AMemory e = memory_judged all marks total before s text here e
outcome_judged all marks total before s text here AStart e = start_judged all marks total before s text here e
outcome_judged all marks total before s text here AText e = text_judged all marks total before s text here e
outcome_judged all marks total before s text here AnIdle e = idle_judged all marks total before s text here e
outcome_judged all marks total before s text here Another e = label_judged all marks total before s text here e

step_judged : (all : List (List ℕ)) (marks : List Bool) (total : ℕ) (before : List (List ℕ)) (s : Before) (text : List ℕ) → Here all marks total before s → Judged all marks before text (step marks total s text)
step_judged all marks total before s text here =
    subst (Judged all marks before text) (step_is marks total s text) (outcome_judged all marks total before s text here (kind text) refl)

-- lines without a fault

abbrev Split : (a b : List (List ℕ)) (x y : List ℕ) (c : List (List ℕ)) → Type 0
Split a b x y c = ((a ≡ b) × (x ≡ y)) ⊎ ((d : List (List ℕ)) × (a ≡ b ++ y ∷ d))

-- the last line of a list is that which was asked for, or that one stands before it
snoc_split : (a b : List (List ℕ)) (x y : List ℕ) (c : List (List ℕ)) → a ++ x ∷ [] ≡ b ++ y ∷ c → Split a b x y c
snoc_split [] [] x y c e = inl (refl, cc)
snoc_split [] (m ∷ []) x y c e = absurd cc
snoc_split [] (m ∷ n ∷ ms) x y c e = absurd cc
snoc_split (l ∷ ls) [] x y c e = let h : l ≡ y = cc in inr (ls, ap (λ z. z ∷ ls) h)
snoc_split (l ∷ ls) (m ∷ ms) x y c e =
    let h : l ≡ m = cc in
    let t : ls ++ x ∷ [] ≡ ms ++ y ∷ c = cc in
    elim (snoc_split ls ms x y c t) [
      | inl z ↦ inl ((λ i. h i ∷ z.0 i), z.1)
      | inr z ↦ inr (z.0, λ i. h i ∷ z.1 i)
    ]

pub faultless_none : (all : List (List ℕ)) → AreFaultless all []
faultless_none all [] text behind e cause x = cc
faultless_none all (b ∷ bs) text behind e cause x = cc

faultless_more : (all before : List (List ℕ)) (text : List ℕ) → AreFaultless all before → ((cause : Cause) → Applies cause all before text → ⊥) → AreFaultless all (before ++ text ∷ [])
faultless_more all before text f one b t behind e cause x =
    elim (snoc_split before b text t behind e) [
      | inl z ↦ one cause (subst (λ y. Applies cause all y text) (sym z.0) (subst (Applies cause all b) (sym z.1) x))
      | inr z ↦ f b t z.0 z.1 cause x
    ]

-- the first faulty one of lines
pub record Faulty (all : List (List ℕ)) (fault : Fault) : Type 0 where
  pub before : List (List ℕ)
  pub text : List ℕ
  pub behind : List (List ℕ)
  pub split : all ≡ before ++ text ∷ behind
  pub faultless : AreFaultless all before
  pub cause : Cause
  pub first : FirstCause all before text cause
  pub fault_is : fault ≡ record { code = code_of cause; line = length before + 1 }

-- what lines come to: a state that stands for them, where none is faulty, or the first faulty one
abbrev pub Outcome : (all : List (List ℕ)) (marks : List Bool) (before : List (List ℕ)) → Result Before Fault → Type 0
Outcome all marks before (Ok t) = AreFaultless all before × Stands marks before t
Outcome all marks before (Err f) = Faulty all f

word_count_append : (a b : List (List ℕ)) → word_count (a ++ b) ≡ word_count a + word_count b
word_count_append a b = sum_by-append (λ l. one_of (is_word_end l)) a b

pub runs : (all : List (List ℕ)) (marks : List Bool) (total : ℕ) (ls : List (List ℕ)) (last : List ℕ) (n : ℕ) (before : List (List ℕ)) (s : Before) → Setting all marks total
    → AreFaultless all before → Stands marks before s → all ≡ before ++ (ls ++ last ∷ []) → n ≡ length before + 1 → Outcome all marks (before ++ ls) (run_lines marks total n s ls)
runs all marks total [] last n before s set f st e count = subst (λ x. AreFaultless all x × Stands marks x s) (sym (append-nil before)) (f, st)
runs all marks total (l ∷ ls) last n before s set f st e count =
    let few : word_count before ≤ total = (let sum = ap word_count e ∙ word_count_append before (l ∷ (ls ++ last ∷ [])) in let is = set.total_is in omega (arith, sum, is)) in
    let long : length all ≡ length before + (length ls + 2) = ap length e ∙ length-append before (l ∷ (ls ++ last ∷ [])) ∙ (let h = length-append ls (last ∷ []) in omega (arith, h)) in
    let here : Here all marks total before s = record { set = set; stands = st; few = few; more = λ same. omega (arith, same, long) } in
    let split : all ≡ (before ++ l ∷ []) ++ (ls ++ last ∷ []) = e ∙ sym (append_assoc before (l ∷ []) (ls ++ last ∷ [])) in
    let next_count : n + 1 ≡ length (before ++ l ∷ []) + 1 = (let h = length-append before (l ∷ []) in omega (arith, h, count)) in
    let rest : (t : Before) → AreFaultless all (before ++ l ∷ []) → Stands marks (before ++ l ∷ []) t → Outcome all marks (before ++ (l ∷ ls)) (run_lines marks total (n + 1) t ls) =
    λ t g tt2. subst (λ x. Outcome all marks x (run_lines marks total (n + 1) t ls)) (append_assoc before (l ∷ []) ls) (runs all marks total ls last (n + 1) (before ++ l ∷ []) t set g tt2 split next_count) in
    one_line_of all marks total n before l ls last s here f e count rest
  where
    one_line_of : (all : List (List ℕ)) (marks : List Bool) (total n : ℕ) (before : List (List ℕ)) (l : List ℕ) (ls : List (List ℕ)) (last : List ℕ) (s : Before) → Here all marks total before s
        → AreFaultless all before → all ≡ before ++ (l ∷ (ls ++ last ∷ [])) → n ≡ length before + 1
        → ((t : Before) → AreFaultless all (before ++ l ∷ []) → Stands marks (before ++ l ∷ []) t → Outcome all marks (before ++ (l ∷ ls)) (run_lines marks total (n + 1) t ls))
        → Outcome all marks (before ++ (l ∷ ls)) (followed n (step marks total s l) (λ t. run_lines marks total (n + 1) t ls))
    one_line_of all marks total n before l ls last s here f e count rest = by_result (step marks total s l) (step_judged all marks total before s l here)
      where
        by_result : (r : Result Before ℕ) → Judged all marks before l r → Outcome all marks (before ++ (l ∷ ls)) (followed n r (λ t. run_lines marks total (n + 1) t ls))
        by_result (Ok t) j = rest t (faultless_more all before l f j.0) j.1
        by_result (Err code) j = record {
          before = before;
          text = l;
          behind = ls ++ last ∷ [];
          split = e;
          faultless = f;
          cause = j.0;
          first = j.2;
          fault_is = λ i. record { code = sym j.1 i; line = count i };
        }

-- the last line

end_absent : (before : List (List ℕ)) → Absent before (codes ".end")
end_absent before = record {
  repeated = stood;
  large = λ x. let h : 101 ≡ 109 = ap initial x.is in omega (arith, h);
  cluster = λ rest x. let h : 101 ≡ 99 = ap initial x.is in omega (arith, h);
}
  where
    stood : IsRepeated before (codes ".end") → ⊥
    stood (version f x) = let h : codes ".end" ≡ codes ".vexwords" = f in cc
    stood (memory f x) = let h : codes ".end" ≡ codes ".memory" = f in cc
    stood (label p f x) = let h : 101 ≡ 76 = ap initial f in omega (arith, h)

end_bad : (all before : List (List ℕ)) → (IsBetweenWords before → ⊥) → Applies BadLine all before (codes ".end")
end_bad all before never (Version v) m e = let h : 101 ≡ 118 = ap initial e in omega (arith, h)
end_bad all before never (Memory n) m e = let h : 101 ≡ 109 = ap initial e in omega (arith, h)
end_bad all before never (Start entry) m e = let h : 101 ≡ 119 = ap initial e in omega (arith, h)
end_bad all before never (Quoted bytes) m e = let h : 101 ≡ 116 = ap initial e in omega (arith, h)
end_bad all before never (Label p) m e = let h : 101 ≡ 76 = ap initial e in omega (arith, h)
end_bad all before never (Operates op) m e = let h : 101 ≡ 99 = ap initial e in omega (arith, h)
end_bad all before never (Idle n) m e = let h : 101 ≡ 120 = ap initial e in omega (arith, h)
end_bad all before never WordEnd m e = let h : 101 ≡ 59 = ap initial e in omega (arith, h)
end_bad all before never End m e = never m.0

-- what a reader answers of all lines
abbrev pub Verdict : (all : List (List ℕ)) → Result WordProgram Fault → Type 0
Verdict all (Ok w) = AreFaultless all all
Verdict all (Err f) = Faulty all f

pub end_verdict : (all : List (List ℕ)) (marks : List Bool) (ls : List (List ℕ)) (r : Result Before Fault) → all ≡ ls ++ codes ".end" ∷ [] → Outcome all marks ls r → Verdict all (ended (length ls + 1) r)
end_verdict all marks ls (Err f) e x = x
end_verdict all marks ls (Ok t) e x = by_stage (is_between_words t.stage) refl
  where
    count : length all ≡ length ls + 1
    count = ap length e ∙ length-append ls (codes ".end" ∷ [])

    by_stage : (b : Bool) → is_between_words t.stage ≡ b → Verdict all (if b then Ok (program_of t) else Err (record { code = 1; line = length ls + 1 }))
    by_stage true b =
        subst (λ y. AreFaultless all y) (sym e)
        (faultless_more all ls (codes ".end") x.0
        (none_applies all ls (codes ".end") End (end_absent ls) (between_at t.stage t.least ls x.1.last b, count) refl))
    by_stage false b = record {
      before = ls;
      text = codes ".end";
      behind = [];
      split = e;
      faultless = x.0;
      cause = BadLine;
      first = bad_alone all ls (codes ".end") (end_absent ls) (end_bad all ls (λ between. no_test (sym b ∙ told_between marks ls t x.1 between)));
      fault_is = refl;
    }

-- marks

pub stands_first : (marks : List Bool) → Stands marks [] beginning
stands_first marks = record {
  last = (refl, refl);
  words = refl;
  texts = refl;
  version_stood = λ e. absurd (let never : true ≡ false = e in cc);
  memory_stood = λ e. no_test e;
  memory_only = λ n le x. absurd x;
  memory_small = omega arith;
  labels = record { labels = λ text x e. absurd x; stood = λ p m lt. absurd (omega (arith, lt)) };
}

target_named : (p : ℕ) (o : Option ℕ) → option_map_or (λ q. nat_eq q p) o false ≡ true → o ≡ Some p
target_named p None e = no_test e
target_named p (Some q) e = ap (λ k. Some k) (eqb-true q p e)

-- a line that is an operation
pub record LineReads (text : List ℕ) (op : Operation) : Type 0 where
  pub line : is_operation_line text ≡ true
  pub read : operation_of (line_cluster text) (drop 3 text) ≡ Ok op
  pub cluster : nat_eq (line_cluster text) (cluster_of op) ≡ true

abbrev read_as : Operation → Result Operation ℕ
read_as op = Ok op

on_cluster_is : (k : ℕ) (r : Result Operation ℕ) (op : Operation) → on_its_cluster k r ≡ Some op → (r ≡ Ok op) × (nat_eq k (cluster_of op) ≡ true)
on_cluster_is k (Err code) op e = absurd cc
on_cluster_is k (Ok x) op e = cluster_by (nat_eq k (cluster_of x)) refl e
  where
    cluster_by : (b : Bool) → nat_eq k (cluster_of x) ≡ b → (if b then Some x else None) ≡ Some op → (read_as x ≡ read_as op) × (nat_eq k (cluster_of op) ≡ true)
    cluster_by true b h = let same : x ≡ op = cc in (ap read_as same, ap (λ y. nat_eq k (cluster_of y)) (sym same) ∙ b)
    cluster_by false b h = absurd cc

line_reads : (text : List ℕ) (op : Operation) → line_operation text ≡ Some op → LineReads text op
unfolding line_operation
line_reads text op e = line_by (is_operation_line text) refl e
  where
    line_by : (b : Bool) → is_operation_line text ≡ b → (if b then on_its_cluster (line_cluster text) (operation_of (line_cluster text) (drop 3 text)) else None) ≡ Some op → LineReads text op
    line_by true b h = let x = on_cluster_is (line_cluster text) (operation_of (line_cluster text) (drop 3 text)) op h in record { line = b; read = x.0; cluster = x.1 }
    line_by false b h = absurd cc

-- a line that names a place is the text of an operation that does
pub record NamedBy (text : List ℕ) (p : ℕ) : Type 0 where
  pub op : Operation
  pub spellable : IsSpellable op
  pub is : operation_text op ≡ text
  pub names : target_of op ≡ Some p

named_by : (p : ℕ) (text : List ℕ) → p < 4294967295 → line_names p text ≡ true → NamedBy text p
named_by p text small e = name_by (line_operation text) refl e
  where
    name_by : (o : Option Operation) → line_operation text ≡ o → option_map_or (names p) o false ≡ true → NamedBy text p
    name_by None is h = no_test h
    name_by (Some op) is h =
        let r = line_reads text op is in
        let target : target_of op ≡ Some p = target_named p (target_of op) h in
        let near : is_beyond (p + 1) op ≡ false = ap (λ t. option_map_or (λ q. nat_le (p + 1) q) t false) target ∙ (let low : nat_le (p + 1) p ≡ false = grind (arith, nat_tests) in low) in
        let t = taken_of (line_cluster text) (drop 3 text) op r.read in
        record { op = op; spellable = record { operands = t.operands; numbers = t.fits }; is = operation_spelled (p + 1) text op r.line r.read r.cluster near (omega (arith, small)); names = target }

any_named : (p : ℕ) (ls : List (List ℕ)) → p < 4294967295 → list_any (line_names p) ls ≡ true → IsNamed ls p
any_named p [] small e = no_test e
any_named p (l ∷ ls) small e =
    elim (either_true (line_names p l) (list_any (line_names p) ls) e) [
      | inl x ↦ (let n = named_by p l small x in record { op = n.op; spellable = n.spellable; stands = inl n.is; names = n.names })
      | inr x ↦ (let n = any_named p ls small x in record { op = n.op; spellable = n.spellable; stands = inr n.stands; names = n.names })
    ]

spelled_operation : (op : Operation) → IsSpellable op → line_operation (operation_text op) ≡ Some op
unfolding line_operation has_operands
spelled_operation op x =
    let k = cluster_of op in
    let same : 48 + k - 48 ≡ k = omega arith in
    let again = operation_again (unwrap_or (target_of op) 0 + 1) (texts_named op) op x.operands x.numbers in
    ap line_operation (spelled_bytes op x.operands) ∙ rw (operation_begins k (body_text op) (spelled_cluster op x.operands), same, again, eq-eqb k k refl) refl

names_line : (p : ℕ) (op : Operation) → IsSpellable op → target_of op ≡ Some p → line_names p (operation_text op) ≡ true
names_line p op x e =
    ap (λ o. option_map_or (names p) o false) (spelled_operation op x) ∙ ap (λ t. option_map_or (λ q. nat_eq q p) t false) e ∙ eq-eqb p p refl

among_any : (p : ℕ) (x : List ℕ) (ls : List (List ℕ)) → line_names p x ≡ true → IsAmong x ls → list_any (line_names p) ls ≡ true
among_any p x [] e h = absurd h
among_any p x (l ∷ ls) e (inl is) = or_left (line_names p l) (list_any (line_names p) ls) (ap (line_names p) (sym is) ∙ e)
among_any p x (l ∷ ls) e (inr h) = or_right (line_names p l) (list_any (line_names p) ls) (among_any p x ls e h)

pub setting_of : (ls : List (List ℕ)) → word_count ls < 4294967295 → Setting (ls ++ codes ".end" ∷ []) (marks_from 0 (word_count ls + 1) ls) (word_count ls)
setting_of ls small = record {
  total_is = word_count_append ls (codes ".end" ∷ []) ∙ add_none (word_count ls);
  small = small;
  marked = λ p le m. let n = any_named p ls (omega (arith, le, small)) (sym (mark p le) ∙ m) in record { op = n.op; spellable = n.spellable; stands = among_left (operation_text n.op) ls (codes ".end" ∷ []) n.stands; names = n.names };
  named = λ p le n. mark p le ∙ among_any p (operation_text n.op) ls (names_line p n.op n.spellable n.names) (inside n.op n.stands);
}
  where
    add_none : (n : ℕ) → n + 0 ≡ n
    add_none n = omega arith

    mark : (p : ℕ) → p ≤ word_count ls → get_or (marks_from 0 (word_count ls + 1) ls) p false ≡ list_any (line_names p) ls
    mark p le = marks_at 0 (word_count ls + 1) ls p (omega (arith, le)) ∙ ap (λ k. list_any (line_names k) ls) (let h : 0 + p ≡ p = omega arith in h)

    inside : (op : Operation) → IsAmong (operation_text op) (ls ++ codes ".end" ∷ []) → IsAmong (operation_text op) ls
    inside op h = elim (among_either (operation_text op) ls (codes ".end" ∷ []) h) [ inl x ↦ x | inr x ↦ absurd (alone x) ]
      where
        alone : IsAmong (operation_text op) (codes ".end" ∷ []) → ⊥
        alone (inl e) = let k : 99 ≡ 101 = ap initial e in omega (arith, k)
        alone (inr never) = never
