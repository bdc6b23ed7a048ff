-- A text that is read is the text of the program that it gives.
use Rattle.std.proofs.Common.{◌≡◌, ℕ, zero, suc, ◌+◌, ◌-◌, ◌^◌, ◌<◌, ◌≤◌, ℤ, Bool, true, false, cond, ◌||◌, List, [], ◌∷◌, ◌++◌, length, get_or, take, drop, Option, Some, None, Result, Ok, Err, refl, sym, ap, subst, ◌∙◌, ◌⊎◌, inl, inr, append_assoc, arith}
use Rattle.std.specs.Prelude.{nat_eq, codes, if◌then◌else◌}
use Rattle.std.specs.List.{flat_map, list_any, prefix_len, ends_with}
use Rattle.std.specs.Str.{bytes_eq}
use Rattle.std.proofs.lemmas.Slice.Eq.{bytes_eq-Decides, ends_is}
use Rattle.std.proofs.lemmas.Bool.Decides.{Decides-eqb}
use Rattle.std.proofs.lemmas.List.{append-nil, length-append, length-take, take_at}
use Rattle.std.proofs.lemmas.List.Folds.{list_any-append}
use Rattle.std.proofs.lemmas.List.Sums.{sum_by-cons, count_by-le-length}
use Rattle.vx_isa.specs.declared.operation.Operation.{Operation}
use Rattle.vx_isa.specs.declared.program.Word.{Word}
use Rattle.vx_isa.specs.declared.program.WordProgram.{WordProgram}
use Rattle.vx_isa.specs.Operations.{cluster_of}
use Rattle.vx_isa.specs.Sound.{is_sound}
use Rattle.vx_reader.specs.declared.before.Before.{Before}
use Rattle.vx_words.specs.Spelling.{line, header, start_line, text_line, words_from, names, is_named, Spells}
use Rattle.vx_reader.specs.Reading.{is_field, operation_of}
use Rattle.vx_reader.specs.Steps.{beginning, is_between_words, is_operation_line, line_cluster, operation_step, word_end_step, version_step, memory_step, start_step, text_step, idle_step, label_step, step}
use Rattle.std.specs.Prelude.{IfOk}
use Rattle.vx_reader.specs.declared.fault.WordsFault.{WordsFault}
use Rattle.vx_reader.specs.Text.{Reads, Fault, lines, is_word_end, word_count, line_operation, line_names, marks_from, followed, run_lines, program_of, ended, end_bytes, reading}
use Rattle.vx_reader.proofs.LineLemmas.{unlines, lines_joined, length_lines}
use Rattle.vx_reader.proofs.Advance.{words_by, body, so_far, Parts, Good, at_start, by_cases, Extends}
use Rattle.vx_reader.proofs.OperationLemmas.{three_bytes}
use Rattle.vx_reader.proofs.StepLemmas.{Ends, Adds, version_extends, memory_extends, start_extends, text_extends, idle_extends, label_extends, word_end_extends, operation_adds}

-- the operations so far name the place
abbrev pub state_names : ℕ → Before → Bool
state_names p s = is_named s.words p || list_any (names p) s.ops

pub record Advances (marks : List Bool) (total : ℕ) (s : Before) (text : List ℕ) (t : Before) : Type 0 where
  pub spelled : so_far marks t ≡ so_far marks s ++ line text
  pub good : Good marks total t
  pub names : (p : ℕ) → state_names p t ≡ (state_names p s || line_names p text)
  pub count : length t.words ≡ length s.words + (if is_word_end text then 1 else 0)

pub or_nothing : (b : Bool) → (b || false) ≡ b
or_nothing true = refl
or_nothing false = refl

pub or_assoc : (a b c : Bool) → ((a || b) || c) ≡ (a || (b || c))
or_assoc true b c = refl
or_assoc false b c = refl

-- a line that begins with no cluster names nothing
names_nothing : (p : ℕ) (text : List ℕ) → is_operation_line text ≡ false → line_names p text ≡ false
unfolding line_operation
names_nothing p text e = rw e refl

from_extends : (marks : List Bool) (total : ℕ) (s : Before) (text : List ℕ) (t : Before) → is_operation_line text ≡ false → is_word_end text ≡ false → Extends marks total s text t → Advances marks total s text t
from_extends marks total s text t plain going x = record {
  spelled = x.spelled;
  good = x.good;
  names = λ p. rw (names_nothing p text plain, x.words, x.ops) (sym (or_nothing (state_names p s)));
  count = rw (going, x.words) (omega arith);
}

abbrev no_ops : Option Operation
no_ops = None

from_ends : (marks : List Bool) (total : ℕ) (s : Before) (text : List ℕ) (t : Before) → is_operation_line text ≡ false → is_word_end text ≡ true → text ≡ codes ";;" → Ends marks total s t → Advances marks total s text t
from_ends marks total s text t plain ending same x = record {
  spelled = x.spelled ∙ ap (λ l. so_far marks s ++ line l) (sym same);
  good = x.good;
  names = λ p. rw (names_nothing p text plain, x.words, x.ops)
      (or_nothing (is_named (s.words ++ record { ops = s.ops; idle = s.idle } ∷ []) p)
      ∙ list_any-append (λ w. list_any (names p) w.ops) s.words (record { ops = s.ops; idle = s.idle } ∷ [])
      ∙ ap (λ b. is_named s.words p || b) (or_nothing (list_any (names p) s.ops))
      ∙ sym (or_nothing (state_names p s)));
  count = rw (ending, x.words) (length-append s.words (record { ops = s.ops; idle = s.idle } ∷ []));
}

abbrev found : Operation → Result Operation ℕ
found op = Ok op

line_operation_is : (text : List ℕ) (op : Operation) → is_operation_line text ≡ true → operation_of (line_cluster text) (drop 3 text) ≡ found op → nat_eq (line_cluster text) (cluster_of op) ≡ true
    → line_operation text ≡ Some op
unfolding line_operation
line_operation_is text op e f g = rw (e, f, g) refl

no_word_end : (text : List ℕ) → is_operation_line text ≡ true → is_word_end text ≡ false
no_word_end text e = rw (three_bytes text e) refl

from_adds : (marks : List Bool) (total : ℕ) (s : Before) (text : List ℕ) (op : Operation) (t : Before) → is_operation_line text ≡ true → line_operation text ≡ Some op → Adds marks total s op text t → Advances marks total s text t
from_adds marks total s text op t e found x = record {
  spelled = x.spelled;
  good = x.good;
  names = λ p. rw (found, x.words, x.ops, list_any-append (names p) s.ops (op ∷ []), or_nothing (names p op)) (sym (or_assoc (is_named s.words p) (list_any (names p) s.ops) (names p op)));
  count = rw (no_word_end text e, x.words) (omega arith);
}

-- which line it is

abbrev taken : Before → Result Before ℕ
taken t = Ok t

choice : (b : Bool) (x y : Result Before ℕ) (t : Before) → (if b then x else y) ≡ taken t → ((b ≡ true) × (x ≡ taken t)) ⊎ ((b ≡ false) × (y ≡ taken t))
choice true x y t e = inl (refl, e)
choice false x y t e = inr (refl, e)

is_same_text : (xs ys : List ℕ) → bytes_eq xs ys ≡ true → xs ≡ ys
is_same_text xs ys e = (bytes_eq-Decides xs ys).0 e

abbrev field_of : List ℕ → List ℕ
field_of text = take (prefix_len is_field text) text

abbrev idle_or_label : List Bool → Before → List ℕ → Result Before ℕ
idle_or_label marks s text = if bytes_eq (field_of text) (codes "xnop") then idle_step marks s text else label_step marks s text

abbrev text_or : List Bool → Before → List ℕ → Result Before ℕ
text_or marks s text = if bytes_eq (field_of text) (codes ".text") then text_step s text else idle_or_label marks s text

abbrev start_or : List Bool → Before → List ℕ → Result Before ℕ
start_or marks s text = if bytes_eq (field_of text) (codes ".word") then start_step s text else text_or marks s text

abbrev memory_or : List Bool → Before → List ℕ → Result Before ℕ
memory_or marks s text = if bytes_eq (field_of text) (codes ".memory") then memory_step s (drop 8 text) else start_or marks s text

abbrev version_or : List Bool → Before → List ℕ → Result Before ℕ
version_or marks s text = if bytes_eq (field_of text) (codes ".vexwords") then version_step s text else memory_or marks s text

abbrev end_or : List Bool → Before → List ℕ → Result Before ℕ
end_or marks s text = if is_word_end text then word_end_step marks s else version_or marks s text

step_is : (marks : List Bool) (total : ℕ) (s : Before) (text : List ℕ) → step marks total s text ≡ (if is_operation_line text then operation_step marks total s (line_cluster text) (drop 3 text) else end_or marks s text)
unfolding step
step_is marks total s text = refl

idle_or_label_extends : (marks : List Bool) (total : ℕ) (s : Before) (text : List ℕ) (t : Before) → Good marks total s → idle_or_label marks s text ≡ taken t → Extends marks total s text t
idle_or_label_extends marks total s text t good h =
    elim (choice (bytes_eq (field_of text) (codes "xnop")) (idle_step marks s text) (label_step marks s text) t h) [
      | inl x ↦ idle_extends marks total text t s good x.1
      | inr x ↦ label_extends marks total text t s good x.1
    ]

text_or_extends : (marks : List Bool) (total : ℕ) (s : Before) (text : List ℕ) (t : Before) → Good marks total s → text_or marks s text ≡ taken t → Extends marks total s text t
text_or_extends marks total s text t good h =
    elim (choice (bytes_eq (field_of text) (codes ".text")) (text_step s text) (idle_or_label marks s text) t h) [
      | inl x ↦ text_extends marks total text t s good x.1
      | inr x ↦ idle_or_label_extends marks total s text t good x.1
    ]

start_or_extends : (marks : List Bool) (total : ℕ) (s : Before) (text : List ℕ) (t : Before) → Good marks total s → start_or marks s text ≡ taken t → Extends marks total s text t
start_or_extends marks total s text t good h =
    elim (choice (bytes_eq (field_of text) (codes ".word")) (start_step s text) (text_or marks s text) t h) [
      | inl x ↦ start_extends marks total text t s good x.1
      | inr x ↦ text_or_extends marks total s text t good x.1
    ]

memory_or_extends : (marks : List Bool) (total : ℕ) (s : Before) (text : List ℕ) (t : Before) → Good marks total s → memory_or marks s text ≡ taken t → Extends marks total s text t
memory_or_extends marks total s text t good h =
    elim (choice (bytes_eq (field_of text) (codes ".memory")) (memory_step s (drop 8 text)) (start_or marks s text) t h) [
      | inl x ↦ memory_extends marks total text t s good (is_same_text (field_of text) (codes ".memory") x.0) x.1
      | inr x ↦ start_or_extends marks total s text t good x.1
    ]

version_or_extends : (marks : List Bool) (total : ℕ) (s : Before) (text : List ℕ) (t : Before) → Good marks total s → version_or marks s text ≡ taken t → Extends marks total s text t
version_or_extends marks total s text t good h =
    elim (choice (bytes_eq (field_of text) (codes ".vexwords")) (version_step s text) (memory_or marks s text) t h) [
      | inl x ↦ version_extends marks total text t s good x.1
      | inr x ↦ memory_or_extends marks total s text t good x.1
    ]

end_or_advances : (marks : List Bool) (total : ℕ) (s : Before) (text : List ℕ) (t : Before) → Good marks total s → is_operation_line text ≡ false → end_or marks s text ≡ taken t → Advances marks total s text t
end_or_advances marks total s text t good plain h =
    elim (choice (is_word_end text) (word_end_step marks s) (version_or marks s text) t h) [
      | inl x ↦ from_ends marks total s text t plain x.0 (is_same_text text (codes ";;") x.0) (word_end_extends marks total t s good x.1)
      | inr x ↦ from_extends marks total s text t plain x.0 (version_or_extends marks total s text t good x.1)
    ]

operation_advances : (marks : List Bool) (total : ℕ) (s : Before) (text : List ℕ) (t : Before) → Good marks total s → total ≤ 4294967295 → is_operation_line text ≡ true
    → operation_step marks total s (line_cluster text) (drop 3 text) ≡ taken t → Advances marks total s text t
operation_advances marks total s text t good le e h =
    let a = operation_adds marks total text t s good le e h in
    from_adds marks total s text a.0 t e (line_operation_is text a.0 e a.1 a.2) a.3

step_advances : (marks : List Bool) (total : ℕ) (s : Before) (text : List ℕ) (t : Before) → Good marks total s → total ≤ 4294967295 → step marks total s text ≡ taken t → Advances marks total s text t
step_advances marks total s text t good le h =
    elim (choice (is_operation_line text) (operation_step marks total s (line_cluster text) (drop 3 text)) (end_or marks s text) t (sym (step_is marks total s text) ∙ h)) [
      | inl x ↦ operation_advances marks total s text t good le x.0 x.1
      | inr x ↦ end_or_advances marks total s text t good x.0 x.1
    ]

-- all lines

pub record Runs (marks : List Bool) (total : ℕ) (s : Before) (ls : List (List ℕ)) (t : Before) : Type 0 where
  pub spelled : so_far marks t ≡ so_far marks s ++ unlines ls
  pub good : Good marks total t
  pub names : (p : ℕ) → state_names p t ≡ (state_names p s || list_any (line_names p) ls)
  pub count : length t.words ≡ length s.words + word_count ls

abbrev reached : Before → Result Before Fault
reached t = Ok t

next : (n : ℕ) (r : Result Before ℕ) (f : Before → Result Before Fault) (t : Before) → followed n r f ≡ reached t → (u : Before) × (r ≡ taken u) × (f u ≡ reached t)
next n (Ok u) f t e = (u, refl, e)
next n (Err code) f t e = absurd cc

same_state : (s t : Before) → reached s ≡ reached t → s ≡ t
same_state s t e = cc

one_more : (a b : ℕ) (x : Bool) (n : ℕ) → a ≡ b + (if x then 1 else 0) → a + n ≡ b + ((if x then 1 else 0) + n)
one_more a b x n e = omega (arith, e)

run_advances : (marks : List Bool) (total : ℕ) (ls : List (List ℕ)) (n : ℕ) (s t : Before) → Good marks total s → total ≤ 4294967295 → run_lines marks total n s ls ≡ reached t → Runs marks total s ls t
run_advances marks total [] n s t good le h = subst (Runs marks total s []) (same_state s t h) (record {
  spelled = sym (append-nil (so_far marks s));
  good = good;
  names = λ p. sym (or_nothing (state_names p s));
  count = omega arith;
})
run_advances marks total (l ∷ ls) n s t good le h =
    let a = next n (step marks total s l) (λ u. run_lines marks total (n + 1) u ls) t h in
    let one = step_advances marks total s l a.0 good le a.1 in
    let rest = run_advances marks total ls (n + 1) a.0 t one.good le a.2 in
    record {
      spelled = rest.spelled ∙ ap (λ x. x ++ unlines ls) one.spelled ∙ append_assoc (so_far marks s) (line l) (unlines ls);
      good = rest.good;
      names = λ p. rest.names p ∙ ap (λ b. b || list_any (line_names p) ls) (one.names p) ∙ or_assoc (state_names p s) (line_names p l) (list_any (line_names p) ls);
      count = rest.count ∙ one_more (length a.0.words) (length s.words) (is_word_end l) (word_count ls) one.count
          ∙ ap (λ k. length s.words + k) (sym (sum_by-cons (λ x. cond (is_word_end x) 1 0) l ls));
    }

-- the words with labels by marks are the words with the labels that they name
words_same : (marks : List Bool) (all : List Word) (p : ℕ) (ws : List Word) → ((q : ℕ) → q < length ws → get_or marks (p + q) false ≡ is_named all (p + q))
    → words_by marks p ws ≡ words_from all p ws
words_same marks all p [] same = refl
words_same marks all p (w ∷ ws) same =
    let zero-is : p + 0 ≡ p = omega arith in
    let here : get_or marks p false ≡ is_named all p = subst (λ k. get_or marks k false ≡ is_named all k) zero-is (same 0 (omega arith)) in
    let rest : words_by marks (p + 1) ws ≡ words_from all (p + 1) ws = words_same marks all (p + 1) ws
    (λ q lt. subst (λ k. get_or marks k false ≡ is_named all k) (let e : p + suc q ≡ p + 1 + q = omega arith in e) (same (suc q) (omega arith))) in
    rw (here, rest) refl

-- a mark says whether a line names its place
pub marks_at : (p n : ℕ) (ls : List (List ℕ)) (q : ℕ) → q < n → get_or (marks_from p n ls) q false ≡ list_any (line_names (p + q)) ls
marks_at p zero ls q lt = absurd (omega arith)
marks_at p (suc n) ls zero lt = let e : p + 0 ≡ p = omega arith in rw e refl
marks_at p (suc n) ls (suc q) lt = let e : p + suc q ≡ p + 1 + q = omega arith in rw e (marks_at (p + 1) n ls q (omega arith))

pub record Finished (marks : List Bool) (total : ℕ) (t : Before) : Type 0 where
  pub spelled : so_far marks t ≡ body marks t.version t.memory t.start t.texts t.words
  pub ops : t.ops ≡ []
  pub parts : Parts total t.version t.memory t.least t.start t.texts t.words

finished : (marks : List Bool) (total : ℕ) (t : Before) → Good marks total t → is_between_words t.stage ≡ true → Finished marks total t
finished marks total t = by_cases marks total (λ t. is_between_words t.stage ≡ true → Finished marks total t) t (record {
  start = λ h. absurd (let no : false ≡ true = h in cc);
  version = λ v known h. absurd (let no : false ≡ true = h in cc);
  memory = λ v m l st parts h. record { spelled = refl; ops = refl; parts = parts };
  texts = λ v m l st ts parts h. record { spelled = refl; ops = refl; parts = parts };
  word_end = λ v m l st ts ws parts h. record { spelled = refl; ops = refl; parts = parts };
  label = λ v m l st ts ws parts marked h. absurd (let no : false ≡ true = h in cc);
  operations = λ v m l st ts ws ops parts all h. absurd (let no : false ≡ true = h in cc);
  idle = λ v m l st ts ws n parts low high h. absurd (let no : false ≡ true = h in cc);
})

sound_parts : (total v m l : ℕ) (st : List (ℕ × ℤ)) (ts : List (List ℕ)) (ws : List Word) → Parts total v m l st ts ws → total ≡ length ws
    → is_sound (record { version = v; memory = m; start = st; texts = ts; words = ws }) ≡ true
sound_parts total v m l st ts ws parts count = rw (parts.version, parts.whole, parts.small, parts.start, ← count, parts.words) refl

mark_is_name : (ls : List (List ℕ)) (total : ℕ) (t : Before) (q : ℕ) → q < total → state_names (0 + q) t ≡ (state_names (0 + q) beginning || list_any (line_names (0 + q)) ls) → t.ops ≡ []
    → get_or (marks_from 0 (total + 1) ls) (0 + q) false ≡ is_named t.words (0 + q)
mark_is_name ls total t q lt named ops =
    let e : 0 + q ≡ q = omega arith in
    let mark : get_or (marks_from 0 (total + 1) ls) (0 + q) false ≡ list_any (line_names (0 + q)) ls = ap (λ k. get_or (marks_from 0 (total + 1) ls) k false) e ∙ marks_at 0 (total + 1) ls q (omega arith) in
    let alone : state_names (0 + q) t ≡ is_named t.words (0 + q) = ap (λ (ops : List Operation). is_named t.words (0 + q) || list_any (names (0 + q)) ops) ops ∙ or_nothing (is_named t.words (0 + q)) in
    mark ∙ sym named ∙ alone

-- a text whose lines lead here is that of the program
lines_spell : (ls : List (List ℕ)) (front : List ℕ) (t : Before) → unlines ls ≡ front → is_between_words t.stage ≡ true
    → Runs (marks_from 0 (word_count ls + 1) ls) (word_count ls) beginning ls t → Spells (front ++ line (codes ".end")) (program_of t)
lines_spell ls front t joined between runs =
    let total = word_count ls in
    let marks = marks_from 0 (total + 1) ls in
    let f = finished marks total t runs.good between in
    let count : total ≡ length t.words = let h = runs.count in omega (arith, h) in
    let named : (q : ℕ) → q < length t.words → get_or marks (0 + q) false ≡ is_named t.words (0 + q) =
    λ q lt. mark_is_name ls total t q (omega (arith, count)) (runs.names (0 + q)) f.ops in
    let words : words_by marks 0 t.words ≡ words_from t.words 0 t.words = words_same marks t.words 0 t.words named in
    let text : body marks t.version t.memory t.start t.texts t.words ≡ front = sym f.spelled ∙ runs.spelled ∙ joined in
    let whole : header t.version t.memory ++ flat_map start_line t.start ++ flat_map text_line t.texts ++ words_from t.words 0 t.words ≡ front =
    ap (λ x. header t.version t.memory ++ flat_map start_line t.start ++ flat_map text_line t.texts ++ x) (sym words) ∙ text in
    (sound_parts total t.version t.memory t.least t.start t.texts t.words f.parts count, ap (λ x. x ++ line (codes ".end")) (sym whole))

abbrev read : WordProgram → Result WordProgram Fault
read w = Ok w

not_read : (n : ℕ) (t : Before) (w : WordProgram) → is_between_words t.stage ≡ false → ended n (Ok t) ≡ read w → ⊥
not_read n t w b e = let h = rw b at e in cc

end_of_run : (n : ℕ) (r : Result Before Fault) (w : WordProgram) → ended n r ≡ read w → (t : Before) × (r ≡ reached t) × (is_between_words t.stage ≡ true) × (program_of t ≡ w)
end_of_run n (Ok t) w e = end_by (is_between_words t.stage) refl e
  where
    end_by : (b : Bool) → is_between_words t.stage ≡ b → ended n (Ok t) ≡ read w → (u : Before) × (reached t ≡ reached u) × (is_between_words u.stage ≡ true) × (program_of u ≡ w)
    end_by true b e = (t, refl, b, let h : read (program_of t) ≡ read w = rw b at e in cc)
    end_by false b e = absurd (let h : ended n (Ok t) ≡ read w = e in not_read n t w b h)
end_of_run n (Err f) w e = absurd cc

tested_text : (b : Bool) (x y : Result WordProgram Fault) (w : WordProgram) → (if b then x else y) ≡ read w → y ≡ Err (record { code = 7; line = 0 }) → (b ≡ true) × (x ≡ read w)
tested_text true x y w e f = (refl, e)
tested_text false x y w e f = absurd cc

abbrev pub front_of : List ℕ → List ℕ
front_of bytes = take (length bytes - 5) bytes

-- the front of a text that ends with its last line
pub ends_front : (bytes : List ℕ) → ends_with nat_eq bytes end_bytes ≡ true
    → (bytes ≡ front_of bytes ++ line (codes ".end")) × (unlines (lines (front_of bytes)) ≡ front_of bytes)
ends_front bytes e =
    let xs = take (length bytes - 6) bytes in
    let split : bytes ≡ xs ++ end_bytes = (ends_is Decides-eqb bytes end_bytes (ends_with nat_eq bytes end_bytes) refl).0 e in
    let regrouped : bytes ≡ (xs ++ 10 ∷ []) ++ line (codes ".end") = split ∙ sym (append_assoc xs (10 ∷ []) (line (codes ".end"))) in
    let long : length bytes ≡ length (xs ++ 10 ∷ []) + 5 = ap length regrouped ∙ length-append (xs ++ 10 ∷ []) (line (codes ".end")) in
    let five : length bytes - 5 ≡ length (xs ++ 10 ∷ []) = omega (arith, long) in
    let front : front_of bytes ≡ xs ++ 10 ∷ [] =
    ap (λ n. take n bytes) five ∙ ap (take (length (xs ++ 10 ∷ []))) regrouped ∙ take_at (xs ++ 10 ∷ []) (line (codes ".end")) (length (xs ++ 10 ∷ [])) refl in
    (regrouped ∙ ap (λ x. x ++ line (codes ".end")) (sym front), ap (λ x. unlines (lines x)) front ∙ lines_joined xs ∙ sym front)

pub reading_spells : (bytes : List ℕ) (w : WordProgram) → length bytes < 2 ^ 32 → reading bytes ≡ Ok w → Spells bytes w
unfolding reading
reading_spells bytes w small e =
    let front = front_of bytes in
    let ls = lines front in
    let total = word_count ls in
    let marks = marks_from 0 (total + 1) ls in
    let a = tested_text (ends_with nat_eq bytes end_bytes) (ended (length ls + 1) (run_lines marks total 1 beginning ls)) (Err (record { code = 7; line = 0 })) w e refl in
    let b = end_of_run (length ls + 1) (run_lines marks total 1 beginning ls) w a.1 in
    let split = ends_front bytes a.0 in
    let few : total ≤ length ls = count_by-le-length is_word_end ls in
    let bound : total ≤ 4294967295 = omega (arith, few, length_lines front, length-take (length bytes - 5) bytes) in
    let runs = run_advances marks total ls 1 beginning b.0 (at_start refl) bound b.1 in
    let spells = lines_spell ls front b.0 split.1 b.2 runs in
    let along : Spells bytes (program_of b.0) = subst (λ x. Spells x (program_of b.0)) (sym split.0) spells in
    subst (λ v. Spells bytes v) b.3 along

-- what a reader that gives what reading gives answers
pub spells_if_read : (bytes : List ℕ) (r : Result WordProgram WordsFault) → IfOk r (λ _. length bytes < 2 ^ 32) → Reads (λ (w : WordProgram). w) r (reading bytes) → IfOk r (λ w. Spells bytes w)
spells_if_read bytes (Ok w) small e = reading_spells bytes w small e
spells_if_read bytes (Err f) small e = tt
