-- What a step comes to, by what its tests answer.
use Rattle.std.proofs.Common.{◌≡◌, ◌≢◌, ◌∙◌, ℕ, ◌+◌, ◌-◌, ◌*◌, ◌<◌, ◌≤◌, ◌%◌, ◌==◌, min, Bool, true, false, cond, ◌&&◌, ◌||◌, List, [], ◌∷◌, ◌++◌, length, take, drop, get_or, Option, Some, None, Result, Ok, Err, refl, ap, sym, subst, arith}
use Rattle.std.specs.Prelude.{ℤ, IfOk, codes, nat_eq, nat_le, nat_lt, if◌then◌else◌}
use Rattle.std.specs.List.{ends_with, find, list_any, prefix_len}
use Rattle.std.specs.Option.{option_map_or}
use Rattle.std.specs.Str.{bytes_eq}
use Rattle.std.proofs.lemmas.Bool.{and_from}
use Rattle.std.proofs.lemmas.Bool.Decides.{nat_tests}
use Rattle.std.proofs.lemmas.List.Sums.{sum_by-cons}
use Rattle.std.proofs.lemmas.List.{append_assoc, append-nil, at_drop_more, at_drop_all, length-append, length-take, length-drop, nil_from_length}
use Rattle.vx_isa.specs.declared.operation.Operation.{Operation}
use Rattle.vx_isa.specs.declared.program.Word.{Word}
use Rattle.vx_words.specs.Spelling.{start_text, quoted_text, idle_text, place_text}
use Rattle.vx_reader.specs.declared.before.Before.{Before}
use Rattle.vx_reader.specs.declared.before.Stage.TheVariants.{Texts, WordEnd, Label, Operations, Idle}
use Rattle.vx_reader.specs.declared.quoted.Escape.{Escape}
use Rattle.vx_reader.specs.declared.quoted.Escape.TheVariants.{Plain, Backslash, FirstDigit, LastDigit}
use Rattle.vx_reader.specs.Fields.{is_digit, number_at, number_from}
use Rattle.vx_reader.specs.declared.fault.LineFault.{LineFault}
use Rattle.vx_reader.specs.declared.form.Form.{Form}
use Rattle.vx_reader.specs.Forms.{form_of, candidate}
use Rattle.vx_reader.specs.Reading.{Gives, is_field, has_form, has_operands, operation_by, operation_of, texts_named}
use Rattle.vx_isa.specs.Operations.{cluster_of}
use Rattle.vx_reader.specs.Text.{Fault, end_bytes, ended, followed, is_word_end, line_operation, lines, marks_from, on_its_cluster, reading, run_lines, word_count}
use Rattle.vx_reader.specs.Steps.{beginning, is_between_words, is_marked, label_stood, label_by, label_step, is_beyond, operation_added, operation_by_stage, operation_step, is_operation_line, line_cluster, version_step, memory_step, step, accepted, entry_at, is_entry, start_step, unquoted, is_text_stage, text_step, begins_word, idle_step, is_operations_stage, is_idle_stage, word_end_step, next_escape, complete_byte, IsDigitValue, unquoted_from}

accepted_yes : (fits : Bool) (s : Before) → fits ≡ true → accepted fits s ≡ Ok s
accepted_yes true s holds = refl
accepted_yes false s holds = absurd cc

accepted_no : (fits : Bool) (s : Before) → fits ≡ false → accepted fits s ≡ Err 1
accepted_no true s fails = absurd cc
accepted_no false s fails = refl

pub when_true : {A : Type 0} (b : Bool) (x y : A) → b ≡ true → (if b then x else y) ≡ x
when_true b x y is = rw is refl

pub when_false : {A : Type 0} (b : Bool) (x y : A) → b ≡ false → (if b then x else y) ≡ y
when_false b x y is = rw is refl

-- a word of the memory

pub start_yes : (s : Before) (text : List ℕ) (entry : ℕ × ℤ) (start : List (ℕ × ℤ)) → entry ≡ entry_at text → is_entry s entry ≡ true → bytes_eq (start_text entry) text ≡ true → start ≡ s.start ++ entry ∷ []
    → start_step s text ≡ Ok (record s { start = start; least = entry.0 + 1 })
unfolding start_step
start_yes s text entry start is fits same put =
    let next : List (ℕ × ℤ) → Before = λ l. record s { start = l; least = entry.0 + 1 } in
    subst (λ (e : ℕ × ℤ). accepted (is_entry s e && bytes_eq (start_text e) text) (record s { start = s.start ++ e ∷ []; least = e.0 + 1 }) ≡ Ok (next start)) is
    (accepted_yes (is_entry s entry && bytes_eq (start_text entry) text) (next (s.start ++ entry ∷ [])) (and_from _ _ fits same) ∙ ap (λ l. Ok (next l)) (sym put))

pub start_no : (s : Before) (text : List ℕ) (entry : ℕ × ℤ) → entry ≡ entry_at text → (is_entry s entry && bytes_eq (start_text entry) text) ≡ false → start_step s text ≡ Err 1
unfolding start_step
start_no s text entry is fails =
    subst (λ (e : ℕ × ℤ). accepted (is_entry s e && bytes_eq (start_text e) text) (record s { start = s.start ++ e ∷ []; least = e.0 + 1 }) ≡ Err 1) is
    (accepted_no (is_entry s entry && bytes_eq (start_text entry) text) (record s { start = s.start ++ entry ∷ []; least = entry.0 + 1 }) fails)

-- a text

pub text_yes : (s : Before) (text bytes : List ℕ) (texts : List (List ℕ)) → bytes ≡ unquoted text → is_text_stage s.stage ≡ true → bytes_eq (quoted_text bytes) text ≡ true → texts ≡ s.texts ++ bytes ∷ []
    → text_step s text ≡ Ok (record s { stage = Texts; texts = texts })
unfolding text_step
text_yes s text bytes texts is fits same put =
    let next : List (List ℕ) → Before = λ l. record s { stage = Texts; texts = l } in
    subst (λ (b : List ℕ). accepted (is_text_stage s.stage && bytes_eq (quoted_text b) text) (record s { stage = Texts; texts = s.texts ++ b ∷ [] }) ≡ Ok (next texts)) is
    (accepted_yes (is_text_stage s.stage && bytes_eq (quoted_text bytes) text) (next (s.texts ++ bytes ∷ [])) (and_from _ _ fits same) ∙ ap (λ l. Ok (next l)) (sym put))

pub text_no : (s : Before) (text bytes : List ℕ) → bytes ≡ unquoted text → (is_text_stage s.stage && bytes_eq (quoted_text bytes) text) ≡ false → text_step s text ≡ Err 1
unfolding text_step
text_no s text bytes is fails =
    subst (λ (b : List ℕ). accepted (is_text_stage s.stage && bytes_eq (quoted_text b) text) (record s { stage = Texts; texts = s.texts ++ b ∷ [] }) ≡ Err 1) is
    (accepted_no (is_text_stage s.stage && bytes_eq (quoted_text bytes) text) (record s { stage = Texts; texts = s.texts ++ bytes ∷ [] }) fails)

-- an empty time

pub idle_yes : (marks : List Bool) (s : Before) (text : List ℕ) (n : ℕ) → n ≡ (number_at (drop 5 text)).0 → begins_word marks s ≡ true → 1 ≤ n → n ≤ 255 → bytes_eq (idle_text n) text ≡ true
    → idle_step marks s text ≡ Ok (record s { stage = Idle; idle = n })
unfolding idle_step
idle_yes marks s text n is begins least most same =
    let low : nat_le 1 n ≡ true = grind (arith, nat_tests, least) in
    let high : nat_le n 255 ≡ true = grind (arith, nat_tests, most) in
    subst (λ k. accepted (begins_word marks s && nat_le 1 k && nat_le k 255 && bytes_eq (idle_text k) text) (record s { stage = Idle; idle = k }) ≡ Ok (record s { stage = Idle; idle = n })) is
    (accepted_yes (begins_word marks s && nat_le 1 n && nat_le n 255 && bytes_eq (idle_text n) text) (record s { stage = Idle; idle = n }) (and_from _ _ (and_from _ _ (and_from _ _ begins low) high) same))

pub idle_no : (marks : List Bool) (s : Before) (text : List ℕ) (n : ℕ) → n ≡ (number_at (drop 5 text)).0 → (begins_word marks s && nat_le 1 n && nat_le n 255 && bytes_eq (idle_text n) text) ≡ false → idle_step marks s text ≡ Err 1
unfolding idle_step
idle_no marks s text n is fails =
    subst (λ k. accepted (begins_word marks s && nat_le 1 k && nat_le k 255 && bytes_eq (idle_text k) text) (record s { stage = Idle; idle = k }) ≡ Err 1) is
    (accepted_no (begins_word marks s && nat_le 1 n && nat_le n 255 && bytes_eq (idle_text n) text) (record s { stage = Idle; idle = n }) fails)

pub not_least : (n : ℕ) → n < 1 → nat_le 1 n ≡ false
not_least n lt = grind (arith, nat_tests, lt)

pub not_most : (n : ℕ) → 255 < n → nat_le n 255 ≡ false
not_most n lt = grind (arith, nat_tests, lt)

-- a label

pub label_before : (marks : List Bool) (s : Before) (p : ℕ) → label_stood marks s p ≡ true → label_by marks s p ≡ Err 5
unfolding label_by
label_before marks s p stood = when_true _ _ _ stood

pub label_yes : (marks : List Bool) (s : Before) (p here : ℕ) → label_stood marks s p ≡ false → is_between_words s.stage ≡ true → p ≡ here → here ≡ length s.words → get_or marks here false ≡ true
    → label_by marks s p ≡ Ok (record s { stage = Label })
unfolding label_by
label_yes marks s p here new between at is marked =
    let same : (p == length s.words) ≡ true = grind (arith, nat_tests, at, is) in
    when_false _ _ _ new ∙ accepted_yes (is_between_words s.stage && (p == length s.words) && is_marked marks s) (record s { stage = Label }) (and_from _ _ (and_from _ _ between same) (ap (λ k. get_or marks k false) (sym is) ∙ marked))

pub label_no : (marks : List Bool) (s : Before) (p : ℕ) → label_stood marks s p ≡ false → (is_between_words s.stage && (p == length s.words) && is_marked marks s) ≡ false → label_by marks s p ≡ Err 1
unfolding label_by
label_no marks s p new fails = when_false _ _ _ new ∙ accepted_no (is_between_words s.stage && (p == length s.words) && is_marked marks s) (record s { stage = Label }) fails

pub other_number : (m n : ℕ) → m ≢ n → (m == n) ≡ false
other_number m n other = grind (arith, nat_tests, other)

-- the end of a word

pub word_end_yes : (marks : List Bool) (s : Before) (words : List Word) (ops : List Operation) → (begins_word marks s || is_operations_stage s.stage || is_idle_stage s.stage) ≡ true
    → words ≡ s.words ++ record { ops = s.ops; idle = s.idle } ∷ [] → ops ≡ [] → word_end_step marks s ≡ Ok (record s { stage = WordEnd; words = words; ops = ops; idle = 0 })
unfolding word_end_step
word_end_yes marks s words ops fits put empty =
    let next : List Word → List Operation → Before = λ ws os. record s { stage = WordEnd; words = ws; ops = os; idle = 0 } in
    accepted_yes (begins_word marks s || is_operations_stage s.stage || is_idle_stage s.stage) (next (s.words ++ record { ops = s.ops; idle = s.idle } ∷ []) []) fits ∙ (λ k. Ok (next (sym put k) (sym empty k)))

pub neither : (x y : Bool) → x ≡ false → y ≡ false → (x || y) ≡ false
neither true y e f = absurd cc
neither false y e f = f

pub word_end_no : (marks : List Bool) (s : Before) → begins_word marks s ≡ false → is_operations_stage s.stage ≡ false → is_idle_stage s.stage ≡ false → word_end_step marks s ≡ Err 1
unfolding word_end_step
word_end_no marks s begins operations idle =
    accepted_no (begins_word marks s || is_operations_stage s.stage || is_idle_stage s.stage) (record s { stage = WordEnd; words = s.words ++ record { ops = s.ops; idle = s.idle } ∷ []; ops = []; idle = 0 })
    (neither _ _ (neither _ _ begins operations) idle)

-- the bytes of a quoted text

below_16 : (n : ℕ) → n % 16 < 16
below_16 n = omega arith

pub digit_next : (e : Escape) (c : ℕ) → IsDigitValue (next_escape e c)
digit_next Plain c = by (c == 92)
  where
    by : (b : Bool) → IsDigitValue (if b then Backslash else Plain)
    by true = tt
    by false = tt
digit_next Backslash c = tt
digit_next FirstDigit c = below_16 _
digit_next (LastDigit high) c = tt

module _ (text out : List ℕ) (e : Escape) (i : ℕ) (whole : List ℕ) (so_far : out ++ unquoted_from e (drop i text) ≡ whole) where
  pub unquoted_more : (next : Escape) (now : List ℕ) → next ≡ next_escape e (get_or text i 0) → now ≡ out ++ complete_byte e (get_or text i 0) → i < length text → now ++ unquoted_from next (drop (i + 1) text) ≡ whole
  unquoted_more next now is put lt =
      let c = get_or text i 0 in
      let rest = drop (i + 1) text in
      (λ k. put k ++ unquoted_from (is k) rest) ∙ append_assoc out (complete_byte e c) (unquoted_from (next_escape e c) rest) ∙ ap (λ l. out ++ l) (sym (at_drop_more (unquoted_from e) text i 0 lt)) ∙ so_far

  pub unquoted_all : length text ≤ i → out ≡ whole
  unquoted_all le = sym (append-nil out) ∙ sym (at_drop_all (λ l. out ++ unquoted_from e l) text i le) ∙ so_far

pub unquoted_is : (line rest inner bytes : List ℕ) → rest ≡ drop 7 line → inner ≡ take (length rest - 1) rest → bytes ≡ unquoted_from Plain inner → bytes ≡ unquoted line
unfolding unquoted
unquoted_is line rest inner bytes behind within is = is ∙ ap (unquoted_from Plain) (within ∙ ap (λ r. take (length r - 1) r) behind)

-- one digit more of a number, and its end at another byte and behind the last

pub number_more : (text : List ℕ) (most value next place : ℕ) (whole : ℕ × List ℕ) → number_from most value (drop place text) ≡ whole → next ≡ min (10 * value + (get_or text place 0 - 48)) most
    → is_digit (get_or text place 0) ≡ true → place < length text → number_from most next (drop (place + 1) text) ≡ whole
number_more text most value next place whole so_far is digit lt =
    let c = get_or text place 0 in
    let rest = drop (place + 1) text in
    let capped : next ≡ min most (10 * value + (c - 48)) = omega (arith, is) in
    let on : number_from most value (c ∷ rest) ≡ number_from most (min most (10 * value + (c - 48))) rest = rw digit refl in
    ap (λ n. number_from most n rest) capped ∙ sym on ∙ sym (at_drop_more (number_from most value) text place 0 lt) ∙ so_far

pub number_stop : (text : List ℕ) (most value place : ℕ) (whole : ℕ × List ℕ) → number_from most value (drop place text) ≡ whole → is_digit (get_or text place 0) ≡ false → place < length text
    → (value, drop place text) ≡ whole
number_stop text most value place whole so_far other lt =
    let c = get_or text place 0 in
    let rest = drop (place + 1) text in
    let on : number_from most value (c ∷ rest) ≡ (value, c ∷ rest) = rw other refl in
    at_drop_more (λ l. (value, l)) text place 0 lt ∙ sym on ∙ sym (at_drop_more (number_from most value) text place 0 lt) ∙ so_far

pub number_end : (text : List ℕ) (most value place : ℕ) (whole : ℕ × List ℕ) → number_from most value (drop place text) ≡ whole → length text ≤ place → (value, []) ≡ whole
number_end text most value place whole so_far le = sym (at_drop_all (number_from most value) text place le) ∙ so_far

-- the first form that passes a test, looked for form by form

module _ (p : Form → Bool) (forms : List Form) (i : ℕ) where
  pub form_on : (d : Form) → i < length forms → find p (drop i forms) ≡ find p forms → p (get_or forms i d) ≡ false → find p (drop (i + 1) forms) ≡ find p forms
  form_on d lt so_far fails = sym (at_drop_more (find p) forms i d lt ∙ ap (λ t. cond t (Some (get_or forms i d)) (find p (drop (i + 1) forms))) fails) ∙ so_far

  pub form_here : (d : Form) → i < length forms → find p (drop i forms) ≡ find p forms → p (get_or forms i d) ≡ true → Some (get_or forms i d) ≡ find p forms
  form_here d lt so_far passes = sym (at_drop_more (find p) forms i d lt ∙ ap (λ t. cond t (Some (get_or forms i d)) (find p (drop (i + 1) forms))) passes) ∙ so_far

  pub form_none : length forms ≤ i → find p (drop i forms) ≡ find p forms → None ≡ find p forms
  form_none le so_far = sym (at_drop_all (find p) forms i le) ∙ so_far

-- marks that are written over stay as many

pub marks_kept : (n total : ℕ) (xs ys : List Bool) → n ≡ length ys → n ≡ total + 1 → length (take n (xs ++ drop (length xs) ys)) ≡ total + 1
marks_kept n total xs ys long is =
    omega (arith, long, is, length-take n (xs ++ drop (length xs) ys), length-append xs (drop (length xs) ys), length-drop (length xs) ys)

-- an operation

module _ (marks : List Bool) (total : ℕ) (s : Before) (k : ℕ) (op : Operation) (few : texts_named op ≤ length s.texts) where
  known : nat_lt (length s.texts) (texts_named op) ≡ false
  known = grind (arith, nat_tests, few)

  pub stage_beyond : is_beyond total op ≡ true → operation_by_stage marks total s k op ≡ Err 4
  unfolding operation_by_stage
  stage_beyond beyond = when_false _ _ _ known ∙ when_true _ _ _ beyond

  pub stage_yes : is_beyond total op ≡ false → k ≡ cluster_of op → (begins_word marks s || is_operations_stage s.stage) ≡ true
      → operation_by_stage marks total s k op ≡ Ok (record s { stage = Operations; ops = s.ops ++ op ∷ [] })
  unfolding operation_by_stage
  stage_yes within on stands =
      let same : (k == cluster_of op) ≡ true = grind (arith, nat_tests, on) in
      when_false _ _ _ known ∙ when_false _ _ _ within
      ∙ accepted_yes ((k == cluster_of op) && (begins_word marks s || is_operations_stage s.stage)) (record s { stage = Operations; ops = s.ops ++ op ∷ [] }) (and_from _ _ same stands)

  pub stage_no : is_beyond total op ≡ false → ((k == cluster_of op) && (begins_word marks s || is_operations_stage s.stage)) ≡ false → operation_by_stage marks total s k op ≡ Err 1
  unfolding operation_by_stage
  stage_no within fails =
      when_false _ _ _ known ∙ when_false _ _ _ within
      ∙ accepted_no ((k == cluster_of op) && (begins_word marks s || is_operations_stage s.stage)) (record s { stage = Operations; ops = s.ops ++ op ∷ [] }) fails

pub read_by : (k : ℕ) (text : List ℕ) (end : ℕ) (form : Form) (op : Operation) → end ≡ prefix_len is_field text → form_of (take end text) ≡ Some form → op ≡ candidate k form (drop (end + 1) text) → operation_of k text ≡ operation_by (Some op) text
unfolding operation_of
read_by k text end form op is named made =
    subst (λ n. operation_by (option_map_or (λ f. Some (candidate k f (drop (n + 1) text))) (form_of (take n text)) None) text ≡ operation_by (Some op) text) is
    (ap (λ o. operation_by (option_map_or (λ f. Some (candidate k f (drop (end + 1) text))) o None) text) named ∙ ap (λ o. operation_by (Some o) text) (sym made))

pub operation_yes : (op : Operation) (text : List ℕ) → has_form op text ≡ true → has_operands op ≡ true → operation_by (Some op) text ≡ Ok op
unfolding operation_by
operation_yes op text form operands = when_true _ _ _ (and_from _ _ form operands)

pub operation_no : (op : Operation) (text : List ℕ) → (has_form op text && has_operands op) ≡ false → operation_by (Some op) text ≡ Err 3
unfolding operation_by
operation_no op text fails = when_false _ _ _ fails

-- which step a line takes

pub no_operation : (text : List ℕ) (r : Option ℕ) → r ≡ (if is_operation_line text then Some (line_cluster text) else None) → ((k : ℕ) → r ≡ Some k → ⊥) → is_operation_line text ≡ false
no_operation text r is not_some = by (is_operation_line text) is
  where
    by : (b : Bool) → r ≡ (if b then Some (line_cluster text) else None) → b ≡ false
    by true e = absurd (not_some (line_cluster text) e)
    by false e = refl

module _ (marks : List Bool) (total : ℕ) (s : Before) (text : List ℕ) (n : ℕ) (is : n ≡ prefix_len is_field text) (plain : is_operation_line text ≡ false) (goes_on : bytes_eq text (codes ";;") ≡ false) where
  pub by_version : bytes_eq (take n text) (codes ".vexwords") ≡ true → step marks total s text ≡ version_step s text
  unfolding step
  by_version a = rw (plain, goes_on, sym is, a) refl

  pub by_memory : bytes_eq (take n text) (codes ".vexwords") ≡ false → bytes_eq (take n text) (codes ".memory") ≡ true → step marks total s text ≡ memory_step s (drop 8 text)
  unfolding step
  by_memory a b = rw (plain, goes_on, sym is, a, b) refl

  pub by_start : bytes_eq (take n text) (codes ".vexwords") ≡ false → bytes_eq (take n text) (codes ".memory") ≡ false → bytes_eq (take n text) (codes ".word") ≡ true → step marks total s text ≡ start_step s text
  unfolding step
  by_start a b c = rw (plain, goes_on, sym is, a, b, c) refl

  pub by_text : bytes_eq (take n text) (codes ".vexwords") ≡ false → bytes_eq (take n text) (codes ".memory") ≡ false → bytes_eq (take n text) (codes ".word") ≡ false → bytes_eq (take n text) (codes ".text") ≡ true
      → step marks total s text ≡ text_step s text
  unfolding step
  by_text a b c d = rw (plain, goes_on, sym is, a, b, c, d) refl

  pub by_idle : bytes_eq (take n text) (codes ".vexwords") ≡ false → bytes_eq (take n text) (codes ".memory") ≡ false → bytes_eq (take n text) (codes ".word") ≡ false → bytes_eq (take n text) (codes ".text") ≡ false
      → bytes_eq (take n text) (codes "xnop") ≡ true → step marks total s text ≡ idle_step marks s text
  unfolding step
  by_idle a b c d e = rw (plain, goes_on, sym is, a, b, c, d, e) refl

  pub by_label : bytes_eq (take n text) (codes ".vexwords") ≡ false → bytes_eq (take n text) (codes ".memory") ≡ false → bytes_eq (take n text) (codes ".word") ≡ false → bytes_eq (take n text) (codes ".text") ≡ false
      → bytes_eq (take n text) (codes "xnop") ≡ false → step marks total s text ≡ label_step marks s text
  unfolding step
  by_label a b c d e = rw (plain, goes_on, sym is, a, b, c, d, e) refl

pub gives_as : {X Y : Type 0} (view : X → Y) (result : Result X LineFault) (r q : Result Y ℕ) → q ≡ r → Gives view result r → Gives view result q
gives_as view result r q is gives = subst (Gives view result) (sym is) gives

-- the lines one by one

module _ (marks : List Bool) (total number : ℕ) (s : Before) (rest : List ℕ) (whole : Result Before Fault) (same : run_lines marks total number s (lines rest) ≡ whole) where
  pub lines_more : (line after : List ℕ) (next : Before) → lines rest ≡ line ∷ lines after → step marks total s line ≡ Ok next → run_lines marks total (number + 1) next (lines after) ≡ whole
  lines_more line after next first on = sym (ap (λ r. followed number r (λ t. run_lines marks total (number + 1) t (lines after))) on) ∙ ap (λ l. run_lines marks total number s l) (sym first) ∙ same

  pub lines_done : length rest ≡ 0 → whole ≡ Ok s
  lines_done none = sym same ∙ ap (λ (l : List ℕ). run_lines marks total number s (lines l)) (nil_from_length rest none)

pub count_more : (number whole : ℕ) (rest line after : List ℕ) → number + length (lines rest) ≡ whole → lines rest ≡ line ∷ lines after → number + 1 + length (lines after) ≡ whole
count_more number whole rest line after count first = omega (arith, count, ap (λ (l : List (List ℕ)). length l) first)

pub count_done : (number whole : ℕ) (rest : List ℕ) → number + length (lines rest) ≡ whole → length rest ≡ 0 → number ≡ whole
count_done number whole rest count none = omega (arith, count, ap (λ (l : List ℕ). length (lines l)) (nil_from_length rest none))

pub room_more : (number whole : ℕ) (rest after : List ℕ) → number + length rest ≤ whole → length after < length rest → number + 1 + length after ≤ whole
room_more number whole rest after room shorter = omega (arith, room, shorter)

pub words_more : (count whole : ℕ) (rest line after : List ℕ) → count + word_count (lines rest) ≡ whole → lines rest ≡ line ∷ lines after → is_word_end line ≡ true → count + 1 + word_count (lines after) ≡ whole
words_more count whole rest line after so_far first ends =
    let more : word_count (lines rest) ≡ 1 + word_count (lines after) = ap word_count first ∙ sum_by-cons (λ l. cond (is_word_end l) 1 0) line (lines after) ∙ ap (λ b. cond b 1 0 + word_count (lines after)) ends in
    omega (arith, so_far, more)

-- the operation of a line

pub same_number : (m n : ℕ) → m ≡ n → (m == n) ≡ true
same_number m n same = grind (arith, nat_tests, same)

pub line_operation_is : (text : List ℕ) (k : ℕ) (r : Result Operation ℕ) → Some k ≡ (if is_operation_line text then Some (line_cluster text) else None) → operation_of k (drop 3 text) ≡ r → line_operation text ≡ on_its_cluster k r
unfolding line_operation
line_operation_is text k r some read = by (is_operation_line text) refl some
  where
    by : (b : Bool) → is_operation_line text ≡ b → Some k ≡ (if b then Some (line_cluster text) else None) → (if is_operation_line text then on_its_cluster (line_cluster text) (operation_of (line_cluster text) (drop 3 text)) else None) ≡ on_its_cluster k r
    by true is e =
        let same : k ≡ line_cluster text = cc in
        when_true _ _ _ is ∙ ap (λ n. on_its_cluster n (operation_of n (drop 3 text))) (sym same) ∙ ap (on_its_cluster k) read
    by false is e = absurd cc

pub label_other : (marks : List Bool) (s : Before) (text : List ℕ) (p : ℕ) → p ≡ (number_at (drop 1 text)).0 → bytes_eq (place_text p) text ≡ false → label_step marks s text ≡ Err 1
unfolding label_step
label_other marks s text p is other = subst (λ k. (if bytes_eq (place_text k) text then label_by marks s k else Err 1) ≡ Err 1) is (when_false _ _ _ other)

pub operation_on : (marks : List Bool) (total : ℕ) (s : Before) (k : ℕ) (text : List ℕ) (op : Operation) → operation_of k text ≡ Ok op → operation_step marks total s k text ≡ operation_by_stage marks total s k op
unfolding operation_step
operation_on marks total s k text op read = ap (operation_added marks total s k) read

-- the marks of all lines, and the whole text

or_false : (b : Bool) → (b || false) ≡ b
or_false true = refl
or_false false = refl

pub marks_done : (b whole : Bool) (f : List ℕ → Bool) (rest : List ℕ) → length rest ≡ 0 → (b || list_any f (lines rest)) ≡ whole → b ≡ whole
marks_done b whole f rest none same = sym (or_false b) ∙ ap (λ (l : List ℕ). b || list_any f (lines l)) (sym (nil_from_length rest none)) ∙ same

pub if_ok : {T E P : Type 0} (result : Result T E) → P → IfOk result (λ x. P)
if_ok (Ok x) p = p
if_ok (Err e) p = tt

pub reading_is : (bytes : List ℕ) (marks : List Bool) (total number : ℕ) (s : Before) → ends_with nat_eq bytes end_bytes ≡ true → marks ≡ marks_from 0 (total + 1) (lines (take (length bytes - 5) bytes)) → total ≡ word_count (lines (take (length bytes - 5) bytes))
    → run_lines marks total 1 beginning (lines (take (length bytes - 5) bytes)) ≡ Ok s → number ≡ length (lines (take (length bytes - 5) bytes)) + 1 → ended number (Ok s) ≡ reading bytes
unfolding reading
reading_is bytes marks total number s ends marked count ran numbered =
    let ls = lines (take (length bytes - 5) bytes) in
    sym (when_true _ _ _ ends ∙ ap (λ n. ended (length ls + 1) (run_lines (marks_from 0 (n + 1) ls) n 1 beginning ls)) (sym count) ∙ ap (λ m. ended (length ls + 1) (run_lines m total 1 beginning ls)) (sym marked)
    ∙ ap (ended (length ls + 1)) ran ∙ ap (λ n. ended n (Ok s)) (sym numbered))
