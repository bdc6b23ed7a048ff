-- What a reader finds in a text is its fault, and the fault of a text is what a reader finds.
use Rattle.std.proofs.Common.{◌≡◌, ◌⊎◌, inl, inr, ℕ, ◌+◌, ◌-◌, ◌^◌, ◌<◌, Bool, true, false, List, [], ◌∷◌, ◌++◌, length, take, Some, None, Result, Ok, Err, refl, sym, ap, subst, ◌∙◌, arith}
use Rattle.std.specs.Prelude.{All, codes, nat_eq, if◌then◌else◌}
use Rattle.std.specs.List.{list_all, flat_map, ends_with}
use Rattle.std.proofs.lemmas.Slice.Eq.{ends_is}
use Rattle.std.proofs.lemmas.Bool.Decides.{Decides-eqb}
use Rattle.std.proofs.lemmas.Bool.{cases_lt}
use Rattle.std.proofs.lemmas.List.{append-nil, length-append}
use Rattle.std.proofs.lemmas.List.Elements.{All-cons, All-head, All-tail, All-nil}
use Rattle.std.proofs.lemmas.List.Sums.{count_by-le-length}
use Rattle.std.proofs.lemmas.Grind.{flat_map-append}
use Rattle.vx_isa.specs.declared.program.WordProgram.{WordProgram}
use Rattle.vx_words.specs.Spelling.{line}
use Rattle.vx_reader.specs.Steps.{beginning}
use Rattle.vx_reader.specs.Text.{Fault, lines, cons_first, is_not_feed, is_word_end, word_count, marks_from, run_lines, end_bytes, reading, fault_in, text_fault}
use Rattle.vx_reader.proofs.Numbers.{both_true}
use Rattle.vx_reader.proofs.LineLemmas.{unlines, length_lines}
use Rattle.vx_reader.proofs.ReadLemmas.{front_of, ends_front}
use Rattle.vx_reader.proofs.LinesAgain.{lines_again}
use Rattle.vx_causes.specs.Causes.{Cause, Repeated, MemoryTooLarge, UnknownOperation, BadOperand, UnknownLabel, BadLine, code_of, rank, FirstCause, AreLines, EndsWell, FirstFaulty, IsFault, no_end, faulty}
use Rattle.vx_causes.specs.Laws.{FoundIsFault, FaultIsFound}
use Rattle.vx_causes.proofs.Stands.{no_test}
use Rattle.vx_causes.proofs.Found.{Faulty, Verdict, end_verdict, runs, faultless_none, stands_first, setting_of}

-- lines without line feeds

all_tests : {X : Type 0} (p : X → Bool) (xs : List X) → list_all p xs ≡ true → All (λ x. p x ≡ true) xs
all_tests p [] e = All-nil (λ x. p x ≡ true)
all_tests p (x ∷ xs) e = let b = both_true (p x) (list_all p xs) e in All-cons (λ y. p y ≡ true) x xs b.0 (all_tests p xs b.1)

tests_all : {X : Type 0} (p : X → Bool) (xs : List X) → All (λ x. p x ≡ true) xs → list_all p xs ≡ true
tests_all p [] h = refl
tests_all p (x ∷ xs) h = rw (All-head (λ y. p y ≡ true) x xs h) (tests_all p xs (All-tail (λ y. p y ≡ true) x xs h))

abbrev plain_line : List ℕ → Bool
plain_line l = list_all is_not_feed l

plain_first : (c : ℕ) (ls : List (List ℕ)) → nat_eq c 10 ≡ false → list_all plain_line ls ≡ true → list_all plain_line (cons_first c ls) ≡ true
plain_first c [] t e = rw t refl
plain_first c (l ∷ ls) t e = rw t e

plain_lines_by : (c : ℕ) (cs : List ℕ) (b : Bool) → nat_eq c 10 ≡ b → list_all plain_line (lines cs) ≡ true → list_all plain_line (lines (c ∷ cs)) ≡ true
plain_lines_by c cs true t e = rw t e
plain_lines_by c cs false t e = rw t (plain_first c (lines cs) t e)

plain_lines : (text : List ℕ) → list_all plain_line (lines text) ≡ true
plain_lines [] = refl
plain_lines (c ∷ cs) = plain_lines_by c cs (nat_eq c 10) refl (plain_lines cs)

-- the lines of bytes are these
same_lines : (bytes : List ℕ) (all : List (List ℕ)) → AreLines bytes all → lines bytes ≡ all
same_lines bytes all x = ap lines x.is ∙ lines_again all (tests_all plain_line all x.whole)

-- a text that ends well

ends_well : (bytes : List ℕ) → ends_with nat_eq bytes end_bytes ≡ true → EndsWell bytes
ends_well bytes e = record { front = take (length bytes - 6) bytes; is = (ends_is Decides-eqb bytes end_bytes (ends_with nat_eq bytes end_bytes) refl).0 e }

well_ends : (bytes : List ℕ) → EndsWell bytes → ends_with nat_eq bytes end_bytes ≡ true
well_ends bytes x = (ends_is Decides-eqb bytes end_bytes (ends_with nat_eq bytes end_bytes) refl).1 x.front x.is

abbrev lines_of : List ℕ → List (List ℕ)
lines_of bytes = lines (front_of bytes) ++ codes ".end" ∷ []

list_all_more : (ls : List (List ℕ)) (l : List ℕ) → list_all plain_line ls ≡ true → plain_line l ≡ true → list_all plain_line (ls ++ l ∷ []) ≡ true
list_all_more [] l e h = rw h refl
list_all_more (k ∷ ks) l e h = let b = both_true (plain_line k) (list_all plain_line ks) e in rw (b.0) (list_all_more ks l b.1 h)

are_lines : (bytes : List ℕ) → ends_with nat_eq bytes end_bytes ≡ true → AreLines bytes (lines_of bytes)
are_lines bytes e =
    let x = ends_front bytes e in
    let ls = lines (front_of bytes) in
    let joined : flat_map line (ls ++ codes ".end" ∷ []) ≡ unlines ls ++ (line (codes ".end") ++ []) = flat_map-append line ls (codes ".end" ∷ []) in
    record {
      is = x.0 ∙ ap (λ y. y ++ line (codes ".end")) (sym x.1) ∙ ap (λ y. unlines ls ++ y) (sym (append-nil (line (codes ".end")))) ∙ sym joined;
      whole = all_tests plain_line (lines_of bytes) (list_all_more ls (codes ".end") (plain_lines (front_of bytes)) refl);
    }

few_words : (bytes : List ℕ) → length bytes < 2 ^ 32 → ends_with nat_eq bytes end_bytes ≡ true → word_count (lines (front_of bytes)) < 4294967295
few_words bytes small e =
    let front = front_of bytes in
    let long = ap length (ends_front bytes e).0 ∙ length-append (front_of bytes) (line (codes ".end")) in
    let few = count_by-le-length is_word_end (lines front) in
    let short = length_lines front in
    omega (arith, long, few, short, small)

-- what a reader answers of a text that ends well
read_verdict : (bytes : List ℕ) → length bytes < 2 ^ 32 → ends_with nat_eq bytes end_bytes ≡ true → Verdict (lines_of bytes) (reading bytes)
unfolding reading
read_verdict bytes small e =
    let ls = lines (front_of bytes) in
    let total = word_count ls in
    let marks = marks_from 0 (total + 1) ls in
    let set = setting_of ls (few_words bytes small e) in
    let outcome = runs (lines_of bytes) marks total ls (codes ".end") 1 [] beginning set (faultless_none (lines_of bytes)) (stands_first marks) refl refl in
    rw e (end_verdict (lines_of bytes) marks ls (run_lines marks total 1 beginning ls) refl outcome)

unended : (bytes : List ℕ) → ends_with nat_eq bytes end_bytes ≡ false → reading bytes ≡ Err (record { code = 7; line = 0 })
unfolding reading
unended bytes e = rw e refl

-- a text has one fault

abbrev Splits : (a : List (List ℕ)) (x : List ℕ) (b : List (List ℕ)) (y : List ℕ) → Type 0
Splits a x b y = ((a ≡ b) × (x ≡ y)) ⊎ (((e : List (List ℕ)) × (b ≡ a ++ x ∷ e)) ⊎ ((e : List (List ℕ)) × (a ≡ b ++ y ∷ e)))

splits : (a : List (List ℕ)) (x : List ℕ) (c b : List (List ℕ)) (y : List ℕ) (d : List (List ℕ)) → a ++ x ∷ c ≡ b ++ y ∷ d → Splits a x b y
splits [] x c [] y d e = inl (refl, cc)
splits [] x c (m ∷ ms) y d e = let h : m ≡ x = cc in inr (inl (ms, ap (λ z. z ∷ ms) h))
splits (l ∷ ls) x c [] y d e = let h : l ≡ y = cc in inr (inr (ls, ap (λ z. z ∷ ls) h))
splits (l ∷ ls) x c (m ∷ ms) y d e =
    let h : l ≡ m = cc in
    let t : ls ++ x ∷ c ≡ ms ++ y ∷ d = cc in
    elim (splits ls x c ms y d t) [
      | inl z ↦ inl ((λ i. h i ∷ z.0 i), z.1)
      | inr (inl z) ↦ inr (inl (z.0, λ i. sym h i ∷ z.1 i))
      | inr (inr z) ↦ inr (inr (z.0, λ i. h i ∷ z.1 i))
    ]

abbrev code_by : ℕ → ℕ
code_by r = if nat_eq r 0 then 5 else (if nat_eq r 1 then 6 else (if nat_eq r 2 then 2 else (if nat_eq r 3 then 3 else (if nat_eq r 4 then 4 else 1))))

code_of_rank : (cause : Cause) → code_of cause ≡ code_by (rank cause)
code_of_rank Repeated = refl
code_of_rank MemoryTooLarge = refl
code_of_rank UnknownOperation = refl
code_of_rank BadOperand = refl
code_of_rank UnknownLabel = refl
code_of_rank BadLine = refl

one_cause : (all before : List (List ℕ)) (text : List ℕ) (c d : Cause) → FirstCause all before text c → FirstCause all before text d → code_of c ≡ code_of d
one_cause all before text c d x y = code_of_rank c ∙ ap code_by same ∙ sym (code_of_rank d)
  where
    same : rank c ≡ rank d
    same = elim (cases_lt (rank c) (rank d)) [
      | inl lt ↦ absurd (y.first c lt x.applies)
      | inr le ↦ elim (cases_lt (rank d) (rank c)) [
        | inl lt ↦ absurd (x.first d lt y.applies)
        | inr ge ↦ omega (arith, le, ge)
      ]
    ]

one_fault : (all : List (List ℕ)) (f g : Fault) → Faulty all f → Faulty all g → f ≡ g
one_fault all f g x y =
    elim (splits x.before x.text x.behind y.before y.text y.behind (sym x.split ∙ y.split)) [
      | inl s ↦ (let moved : FirstCause all x.before x.text y.cause =
          subst (λ b. FirstCause all b x.text y.cause) (sym s.0) (subst (λ t. FirstCause all y.before t y.cause) (sym s.1) y.first) in
          let code = one_cause all x.before x.text x.cause y.cause x.first moved in
          x.fault_is ∙ (λ i. record { code = code i; line = length (s.0 i) + 1 }) ∙ sym y.fault_is)
      | inr (inl s) ↦ absurd (y.faultless x.before x.text s.0 s.1 x.cause x.first.applies)
      | inr (inr s) ↦ absurd (x.faultless y.before y.text s.0 s.1 y.cause y.first.applies)
    ]

faulty_of : (bytes : List ℕ) (fault : Fault) (all : List (List ℕ)) → AreLines bytes all → FirstFaulty bytes fault → Faulty all fault
faulty_of bytes fault all lines_are x =
    subst (λ ls. Faulty ls fault) (sym (same_lines bytes x.all x.lines) ∙ same_lines bytes all lines_are)
    (record { before = x.before; text = x.text; behind = x.behind; split = x.split; faultless = x.faultless; cause = x.cause; first = x.first; fault_is = x.fault_is })

first_faulty : (bytes : List ℕ) (fault : Fault) (all : List (List ℕ)) → EndsWell bytes → AreLines bytes all → Faulty all fault → FirstFaulty bytes fault
first_faulty bytes fault all ends lines_are x = record {
  ends = ends;
  all = all;
  lines = lines_are;
  before = x.before;
  text = x.text;
  behind = x.behind;
  split = x.split;
  faultless = x.faultless;
  cause = x.cause;
  first = x.first;
  fault_is = x.fault_is;
}

-- the laws

pub found_is_fault : FoundIsFault
found_is_fault bytes small fault found = found_by (ends_with nat_eq bytes end_bytes) refl
  where
    read_by : (r : Result WordProgram Fault) → reading bytes ≡ r → Verdict (lines_of bytes) r → ends_with nat_eq bytes end_bytes ≡ true → IsFault bytes fault
    read_by (Ok w) is v e = absurd (let h : fault_in (reading bytes) ≡ None = ap fault_in is in let k : None ≡ Some fault = sym h ∙ found in cc)
    read_by (Err f) is v e =
        let k : Some f ≡ Some fault = sym (ap fault_in is) ∙ found in
        let same : f ≡ fault = cc in
        faulty (first_faulty bytes fault (lines_of bytes) (ends_well bytes e) (are_lines bytes e) (subst (Faulty (lines_of bytes)) same v))

    found_by : (b : Bool) → ends_with nat_eq bytes end_bytes ≡ b → IsFault bytes fault
    found_by true e = read_by (reading bytes) refl (read_verdict bytes small e) e
    found_by false e =
        let k : Some (record { code = 7; line = 0 }) ≡ Some fault = sym (ap fault_in (unended bytes e)) ∙ found in
        no_end (λ well. no_test (sym e ∙ well_ends bytes well)) (let same : fault ≡ record { code = 7; line = 0 } = cc in same)

pub every_fault_found : FaultIsFound
every_fault_found bytes small fault (no_end never is) = unread (ends_with nat_eq bytes end_bytes) refl
  where
    unread : (b : Bool) → ends_with nat_eq bytes end_bytes ≡ b → text_fault bytes ≡ Some fault
    unread true e = absurd (never (ends_well bytes e))
    unread false e = ap fault_in (unended bytes e) ∙ ap (λ f. Some f) (sym is)
every_fault_found bytes small fault (faulty x) =
    let e = well_ends bytes x.ends in
    let here = faulty_of bytes fault (lines_of bytes) (are_lines bytes e) x in
    read_by (reading bytes) refl (read_verdict bytes small e) here
  where
    read_by : (r : Result WordProgram Fault) → reading bytes ≡ r → Verdict (lines_of bytes) r → Faulty (lines_of bytes) fault → text_fault bytes ≡ Some fault
    read_by (Ok w) is v here = absurd (v here.before here.text here.behind here.split here.cause here.first.applies)
    read_by (Err f) is v here = ap fault_in is ∙ ap (λ g. Some g) (one_fault (lines_of bytes) f fault v here)
