-- Words that are written are read again.
use Rattle.std.proofs.Common.{◌≡◌, ℕ, suc, ◌+◌, ◌-◌, ◌<◌, ◌≤◌, ℤ, Bool, true, false, ◌&&◌, ◌||◌, List, [], ◌∷◌, ◌++◌, length, get_or, take, drop, map, Ok, refl, sym, ap, subst, ◌∙◌, append_assoc, arith}
use Rattle.std.specs.Prelude.{decimal, nat_eq, nat_lt, nat_le, codes, if◌then◌else◌, not}
use Rattle.std.specs.List.{list_all, prefix_len}
use Rattle.std.proofs.lemmas.Bool.Decides.{nat_tests}
use Rattle.std.proofs.lemmas.Bool.{le-leb, eq-eqb}
use Rattle.std.proofs.lemmas.List.{append-nil}
use Rattle.std.proofs.lemmas.Fmt.{decimal_digit}
use borrow.Author.Tests.{eqb-true, leb-true, ltb-true}
use Rattle.vx_isa.specs.declared.operation.Operation.{Operation}
use Rattle.vx_isa.specs.declared.operation.Operation.TheVariants.{OutText, Goto, BranchOn, Call}
use Rattle.vx_isa.specs.declared.program.Word.{Word}
use Rattle.vx_isa.specs.Operations.{cluster_of}
use Rattle.vx_isa.specs.Sound.{is_sound_word, is_sound_operation}
use Rattle.vx_reader.specs.declared.before.Stage.{Stage}
use Rattle.vx_reader.specs.declared.before.Stage.TheVariants.{WordEnd, Label, Operations, Idle}
use Rattle.vx_reader.specs.declared.before.Before.{Before}
use Rattle.vx_words.specs.Spelling.{place_text, idle_text, operation_text, body_text}
use Rattle.vx_reader.specs.Fields.{number_at}
use Rattle.vx_isa.specs.Range.{fits_operation}
use Rattle.vx_reader.specs.Reading.{is_field, texts_named}
use Rattle.vx_reader.specs.Steps.{begins_word, is_between_words, is_operations_stage, is_idle_stage, is_label_stage, is_beyond, is_operation_line, operation_by_stage, operation_step, word_end_step, idle_step, label_by, label_step, step}
use Rattle.vx_reader.proofs.Numbers.{both_true}
use Rattle.vx_reader.proofs.Advance.{shape}
use Rattle.vx_reader.proofs.FieldsAgain.{number_read}
use Rattle.vx_reader.proofs.OperationsAgain.{operation_again, same_text}
use Rattle.vx_reader.proofs.LinesAgain.{cluster_bound}
use Rattle.vx_reader.proofs.ProgramAgain.{Leads, stay, one_step, follow, first_then, text_stage}

-- the line of an operation

below_nothing : (n : ℕ) → nat_lt n 0 ≡ false
below_nothing n = grind (arith, nat_tests)

texts_there : (total texts : ℕ) (op : Operation) → is_sound_operation total texts op ≡ true → nat_lt texts (texts_named op) ≡ false
texts_there total texts (OutText n) e = let h : n < texts = ltb-true _ _ e in grind (arith, nat_tests)
texts_there total texts op e = below_nothing texts

place_there : (total texts : ℕ) (op : Operation) → is_sound_operation total texts op ≡ true → is_beyond total op ≡ false
place_there total texts (Goto p) e = let h : p < total = ltb-true _ _ e in grind (arith, nat_tests)
place_there total texts (BranchOn t at_one p) e = let h : p < total = ltb-true _ _ (both_true (nat_le t 7) (nat_lt p total) e).1 in grind (arith, nat_tests)
place_there total texts (Call p) e = let h : p < total = ltb-true _ _ e in grind (arith, nat_tests)
place_there total texts op e = refl

pub operation_bytes : (total texts : ℕ) (op : Operation) → is_sound_operation total texts op ≡ true → operation_text op ≡ 99 ∷ (48 + cluster_of op) ∷ 32 ∷ body_text op
operation_bytes total texts op e = let k = cluster_bound total texts op e in rw (decimal_digit (cluster_of op) (omega arith)) refl

pub operation_begins : (k : ℕ) (body : List ℕ) → k ≤ 3 → is_operation_line (99 ∷ (48 + k) ∷ 32 ∷ body) ≡ true
operation_begins k body le = rw (le-leb 48 (48 + k) (omega arith), le-leb (48 + k) 51 (omega arith)) refl

operation_dispatch : (marks : List Bool) (total texts : ℕ) (s : Before) (op : Operation) → is_sound_operation total texts op ≡ true
    → step marks total s (operation_text op) ≡ operation_step marks total s (cluster_of op) (body_text op)
unfolding step
operation_dispatch marks total texts s op e =
    let k = cluster_of op in
    let same : 48 + k - 48 ≡ k = omega arith in
    ap (step marks total s) (operation_bytes total texts op e) ∙ rw (operation_begins k (body_text op) (cluster_bound total texts op e), same) refl

operation_taken : (marks : List Bool) (total : ℕ) (s : Before) (op : Operation) → is_sound_operation total (length s.texts) op ≡ true → fits_operation op ≡ true
    → (begins_word marks s || is_operations_stage s.stage) ≡ true → step marks total s (operation_text op) ≡ Ok (record s { stage = Operations; ops = s.ops ++ op ∷ [] })
unfolding operation_step operation_by_stage
operation_taken marks total s op e f begins =
    operation_dispatch marks total (length s.texts) s op e
    ∙ rw (operation_again total (length s.texts) op e f, texts_there total (length s.texts) op e, place_there total (length s.texts) op e, eq-eqb (cluster_of op) (cluster_of op) refl, begins) refl

abbrev pub op_stage : Stage → List Operation → Stage
op_stage b [] = b
op_stage b (o ∷ os) = Operations

abbrev pub opens : List Bool → Stage → List Word → Bool
opens marks b ws = is_label_stage b || (is_between_words b && not (get_or marks (length ws) false))

op_stage_more : (b : Stage) (ops : List Operation) (op : Operation) → op_stage b (ops ++ op ∷ []) ≡ Operations
op_stage_more b [] op = refl
op_stage_more b (o ∷ os) op = refl

op_stage_opens : (marks : List Bool) (b : Stage) (ws : List Word) (ops : List Operation) → opens marks b ws ≡ true → (opens marks (op_stage b ops) ws || is_operations_stage (op_stage b ops)) ≡ true
op_stage_opens marks b ws [] e = rw e refl
op_stage_opens marks b ws (o ∷ os) e = refl

operations_lead : (marks : List Bool) (total v m l : ℕ) (st : List (ℕ × ℤ)) (ts : List (List ℕ)) (ws : List Word) (b : Stage) (done rest : List Operation) → opens marks b ws ≡ true
    → list_all (is_sound_operation total (length ts)) rest ≡ true → list_all fits_operation rest ≡ true
    → Leads marks total (shape (op_stage b done) v m l st ts ws done 0) (map operation_text rest) (shape (op_stage b (done ++ rest)) v m l st ts ws (done ++ rest) 0)
operations_lead marks total v m l st ts ws b done [] o e f =
    subst (λ x. Leads marks total (shape (op_stage b done) v m l st ts ws done 0) [] (shape (op_stage b x) v m l st ts ws x 0)) (sym (append-nil done)) (stay marks total (shape (op_stage b done) v m l st ts ws done 0))
operations_lead marks total v m l st ts ws b done (op ∷ ops) o e f =
    let x = both_true (is_sound_operation total (length ts) op) (list_all (is_sound_operation total (length ts)) ops) e in
    let y = both_true (fits_operation op) (list_all fits_operation ops) f in
    let here = shape (op_stage b done) v m l st ts ws done 0 in
    let next = shape (op_stage b (done ++ op ∷ [])) v m l st ts ws (done ++ op ∷ []) 0 in
    let one : step marks total here (operation_text op) ≡ Ok next =
    operation_taken marks total here op x.0 y.0 (op_stage_opens marks b ws done o) ∙ ap (λ (stage : Stage). Ok (shape stage v m l st ts ws (done ++ op ∷ []) 0)) (sym (op_stage_more b done op)) in
    let rest = operations_lead marks total v m l st ts ws b (done ++ op ∷ []) ops o x.1 y.1 in
    let along = subst (λ w. Leads marks total next (map operation_text ops) (shape (op_stage b w) v m l st ts ws w 0)) (append_assoc done (op ∷ []) ops) rest in
    first_then marks total here next (shape (op_stage b (done ++ op ∷ ops)) v m l st ts ws (done ++ op ∷ ops) 0) (operation_text op) (map operation_text ops) one along

-- a word

end_dispatch : (marks : List Bool) (total : ℕ) (s : Before) → step marks total s (codes ";;") ≡ word_end_step marks s
unfolding step
end_dispatch marks total s = refl

end_taken : (marks : List Bool) (total : ℕ) (s : Before) → (begins_word marks s || is_operations_stage s.stage || is_idle_stage s.stage) ≡ true
    → step marks total s (codes ";;") ≡ Ok (record s { stage = WordEnd; words = s.words ++ record { ops = s.ops; idle = s.idle } ∷ []; ops = []; idle = 0 })
unfolding word_end_step
end_taken marks total s e = end_dispatch marks total s ∙ rw e refl

idle_dispatch : (marks : List Bool) (total : ℕ) (s : Before) (n : ℕ) → step marks total s (idle_text n) ≡ idle_step marks s (idle_text n)
unfolding step
idle_dispatch marks total s n = refl

idle_taken : (marks : List Bool) (total : ℕ) (s : Before) (n : ℕ) → begins_word marks s ≡ true → nat_le 1 n ≡ true → nat_le n 255 ≡ true
    → step marks total s (idle_text n) ≡ Ok (record s { stage = Idle; idle = n })
unfolding idle_step
idle_taken marks total s n begins low high =
    let le : n ≤ 255 = leb-true _ _ high in
    let read : number_at (drop 5 (idle_text n)) ≡ (n, []) = ap number_at (sym (append-nil (decimal n))) ∙ number_read n [] (omega arith) tt in
    idle_dispatch marks total s n ∙ rw (read, begins, low, high, same_text (idle_text n)) refl

abbrev pub own_lines : List Operation → ℕ → List (List ℕ)
own_lines ops n = (if nat_eq n 0 then map operation_text ops else idle_text n ∷ []) ++ codes ";;" ∷ []

or_left : (a b : Bool) → a ≡ true → (a || b) ≡ true
or_left a b e = rw e refl

abbrev pub word_of : List Operation → ℕ → Word
word_of ops n = record { ops = ops; idle = n }

pub no_operations : (ops : List Operation) → nat_eq (length ops) 0 ≡ true → ops ≡ []
no_operations [] e = refl
no_operations (o ∷ os) e = absurd (let h : suc (length os) ≡ 0 = eqb-true _ _ e in omega (arith, h))

word_leads_by : (marks : List Bool) (total v m l : ℕ) (st : List (ℕ × ℤ)) (ts : List (List ℕ)) (ws : List Word) (b : Stage) (ops : List Operation) (n : ℕ) (z : Bool) → nat_eq n 0 ≡ z → opens marks b ws ≡ true
    → is_sound_word total (length ts) (word_of ops n) ≡ true → list_all fits_operation ops ≡ true
    → Leads marks total (shape b v m l st ts ws [] 0) (own_lines ops n) (shape WordEnd v m l st ts (ws ++ word_of ops n ∷ []) [] 0)
word_leads_by marks total v m l st ts ws b ops n true z o e f =
    let x = both_true (nat_le n 255 && (nat_eq n 0 || nat_eq (length ops) 0)) (list_all (is_sound_operation total (length ts)) ops) e in
    let n-is : n ≡ 0 = eqb-true _ _ z in
    let middle = shape (op_stage b ops) v m l st ts ws ops 0 in
    let run : Leads marks total (shape b v m l st ts ws [] 0) (map operation_text ops) middle = operations_lead marks total v m l st ts ws b [] ops o x.1 f in
    let ending : step marks total middle (codes ";;") ≡ Ok (shape WordEnd v m l st ts (ws ++ word_of ops 0 ∷ []) [] 0) =
    end_taken marks total middle (or_left (begins_word marks middle || is_operations_stage middle.stage) (is_idle_stage middle.stage) (op_stage_opens marks b ws ops o)) in
    let whole = follow marks total (shape b v m l st ts ws [] 0) middle (shape WordEnd v m l st ts (ws ++ word_of ops 0 ∷ []) [] 0) (map operation_text ops) (codes ";;" ∷ []) run
    (one_step marks total middle (codes ";;") (shape WordEnd v m l st ts (ws ++ word_of ops 0 ∷ []) [] 0) ending) in
    subst (λ k. Leads marks total (shape b v m l st ts ws [] 0) (own_lines ops k) (shape WordEnd v m l st ts (ws ++ word_of ops k ∷ []) [] 0)) (sym n-is) whole
word_leads_by marks total v m l st ts ws b ops n false z o e f =
    let x = both_true (nat_le n 255 && (nat_eq n 0 || nat_eq (length ops) 0)) (list_all (is_sound_operation total (length ts)) ops) e in
    let y = both_true (nat_le n 255) (nat_eq n 0 || nat_eq (length ops) 0) x.0 in
    let none : nat_eq (length ops) 0 ≡ true = rw z at y.1 in
    let ops-is : ops ≡ [] = no_operations ops none in
    let low : nat_le 1 n ≡ true = grind (arith, nat_tests) in
    let idle : step marks total (shape b v m l st ts ws [] 0) (idle_text n) ≡ Ok (shape Idle v m l st ts ws [] n) = idle_taken marks total (shape b v m l st ts ws [] 0) n o low y.0 in
    let ending : step marks total (shape Idle v m l st ts ws [] n) (codes ";;") ≡ Ok (shape WordEnd v m l st ts (ws ++ word_of [] n ∷ []) [] 0) = end_taken marks total (shape Idle v m l st ts ws [] n) refl in
    let whole : Leads marks total (shape b v m l st ts ws [] 0) (idle_text n ∷ codes ";;" ∷ []) (shape WordEnd v m l st ts (ws ++ word_of [] n ∷ []) [] 0) =
    first_then marks total (shape b v m l st ts ws [] 0) (shape Idle v m l st ts ws [] n) (shape WordEnd v m l st ts (ws ++ word_of [] n ∷ []) [] 0) (idle_text n) (codes ";;" ∷ []) idle
    (one_step marks total (shape Idle v m l st ts ws [] n) (codes ";;") (shape WordEnd v m l st ts (ws ++ word_of [] n ∷ []) [] 0) ending) in
    let lines_are : own_lines [] n ≡ idle_text n ∷ codes ";;" ∷ [] = rw z refl in
    let one : Leads marks total (shape b v m l st ts ws [] 0) (own_lines [] n) (shape WordEnd v m l st ts (ws ++ word_of [] n ∷ []) [] 0) =
    subst (λ ls. Leads marks total (shape b v m l st ts ws [] 0) ls (shape WordEnd v m l st ts (ws ++ word_of [] n ∷ []) [] 0)) (sym lines_are) whole in
    subst (λ os. Leads marks total (shape b v m l st ts ws [] 0) (own_lines os n) (shape WordEnd v m l st ts (ws ++ word_of os n ∷ []) [] 0)) (sym ops-is) one

pub word_leads : (marks : List Bool) (total v m l : ℕ) (st : List (ℕ × ℤ)) (ts : List (List ℕ)) (ws : List Word) (b : Stage) (ops : List Operation) (n : ℕ) → opens marks b ws ≡ true
    → is_sound_word total (length ts) (word_of ops n) ≡ true → list_all fits_operation ops ≡ true
    → Leads marks total (shape b v m l st ts ws [] 0) (own_lines ops n) (shape WordEnd v m l st ts (ws ++ word_of ops n ∷ []) [] 0)
word_leads marks total v m l st ts ws b ops n o e f = word_leads_by marks total v m l st ts ws b ops n (nat_eq n 0) refl o e f

-- a label

abbrev pub word_stage : List (List ℕ) → List Word → Stage
word_stage ts [] = text_stage ts
word_stage ts (w ∷ ws) = WordEnd

pub word_stage_more : (ts : List (List ℕ)) (ws : List Word) (w : Word) → word_stage ts (ws ++ w ∷ []) ≡ WordEnd
word_stage_more ts [] w = refl
word_stage_more ts (v ∷ vs) w = refl

pub word_stage_between : (ts : List (List ℕ)) (ws : List Word) → is_between_words (word_stage ts ws) ≡ true
word_stage_between [] [] = refl
word_stage_between (t ∷ ts) [] = refl
word_stage_between ts (w ∷ ws) = refl

word_stage_begun : (ts : List (List ℕ)) (ws : List Word) → (is_label_stage (word_stage ts ws) || is_operations_stage (word_stage ts ws) || is_idle_stage (word_stage ts ws)) ≡ false
word_stage_begun [] [] = refl
word_stage_begun (t ∷ ts) [] = refl
word_stage_begun ts (w ∷ ws) = refl

pub word_stage_label : (ts : List (List ℕ)) (ws : List Word) → is_label_stage (word_stage ts ws) ≡ false
word_stage_label [] [] = refl
word_stage_label (t ∷ ts) [] = refl
word_stage_label ts (w ∷ ws) = refl

field_of_label : (xs : List ℕ) → take (prefix_len is_field (76 ∷ xs)) (76 ∷ xs) ≡ 76 ∷ take (prefix_len is_field xs) xs
field_of_label xs = let e : 1 + prefix_len is_field xs ≡ suc (prefix_len is_field xs) = omega arith in rw e refl

label_dispatch : (marks : List Bool) (total : ℕ) (s : Before) (xs : List ℕ) → step marks total s (76 ∷ xs) ≡ label_step marks s (76 ∷ xs)
unfolding step
label_dispatch marks total s xs = rw (field_of_label xs) refl

below_itself : (n : ℕ) → nat_lt n n ≡ false
below_itself n = grind (arith, nat_tests)

pub label_taken : (marks : List Bool) (total v m l : ℕ) (st : List (ℕ × ℤ)) (ts : List (List ℕ)) (ws : List Word) → length ws ≤ 4294967295 → get_or marks (length ws) false ≡ true
    → step marks total (shape (word_stage ts ws) v m l st ts ws [] 0) (place_text (length ws)) ≡ Ok (shape Label v m l st ts ws [] 0)
unfolding label_step label_by
label_taken marks total v m l st ts ws small marked =
    let p = length ws in
    let read : number_at (drop 1 (place_text p)) ≡ (p, codes ":") = number_read p (codes ":") small refl in
    label_dispatch marks total (shape (word_stage ts ws) v m l st ts ws [] 0) (decimal p ++ codes ":")
    ∙ rw (read, same_text (place_text p), marked, below_itself p, eq-eqb p p refl, word_stage_begun ts ws, word_stage_between ts ws) refl
