-- The line of an operation: what a reader does with it, and the cause where it refuses it.
use Rattle.std.proofs.Common.{◌≡◌, ◌⊎◌, inl, inr, ℕ, ◌+◌, ◌-◌, ◌<◌, ◌≤◌, Bool, true, false, ◌&&◌, ◌||◌, List, [], ◌∷◌, ◌++◌, length, drop, Some, None, Result, Ok, Err, refl, sym, ap, subst, ◌∙◌, arith}
use Rattle.std.specs.Prelude.{codes, decimal, nat_eq, nat_lt, nat_le, if◌then◌else◌}
use Rattle.std.specs.Option.{option_map_or}
use Rattle.std.proofs.lemmas.Bool.{le-leb, eq-eqb}
use borrow.Author.Tests.{leb-true, ltb-true, ltb-false}
use Rattle.vx_isa.specs.declared.operation.Operation.{Operation}
use Rattle.vx_isa.specs.declared.operation.Operation.TheVariants.{Compute, Move, Select, Load, Store, OutText}
use Rattle.vx_isa.specs.Operations.{cluster_of}
use Rattle.vx_reader.specs.declared.before.Stage.TheVariants.{Operations as AtOperations}
use Rattle.vx_reader.specs.declared.before.Before.{Before}
use Rattle.vx_words.specs.Spelling.{target_of, body_text, operation_text}
use Rattle.vx_reader.specs.Fields.{number_at}
use Rattle.vx_reader.specs.Reading.{texts_named, operation_of}
use Rattle.vx_reader.specs.Steps.{accepted, is_operations_stage, is_idle_stage, begins_word, is_beyond, is_operation_line, line_cluster, operation_by_stage, operation_added, operation_step}
use Rattle.vx_reader.specs.Text.{word_count}
use Rattle.vx_reader.proofs.Numbers.{both_true}
use Rattle.vx_reader.proofs.OperationLemmas.{operation_spelled}
use Rattle.vx_causes.specs.Lines.{Line, Operates, text_of, IsSpellable, text_count, OperationStands, begins, goes_on, MayStand}
use Rattle.vx_causes.specs.Causes.{Cause, Repeated, MemoryTooLarge, UnknownOperation, BadOperand, UnknownLabel, BadLine, rank, Applies, FirstCause, IsRepeated, version, memory, label, IsTooLarge, OnCluster, IsKnown, IsOperation, NamesNoText, HasForm, NamesNoPlace}
use Rattle.vx_causes.proofs.Sorts.{Kind, AnOperation, AVersion, AMemory, Another, kind, told, version_kind, memory_kind, label_kind, large_kind, bad_line, spelled_bytes, spelled_cluster}
use Rattle.vx_causes.proofs.Lasts.{initial, is_last_initial, behind}
use Rattle.vx_causes.proofs.Stands.{by_initial, operations_at, stands_more, begins_told, told_begins, word_labels, word_open, either_true, no_test, or_left, or_right}
use Rattle.vx_causes.proofs.Operations.{Read, unknown, unfit, reads, read_cases, Shape, plain, jump, Taken, taken_of, shape_form, spelled_read, place_read, form_read, beyond_value, value_beyond, line_cluster_small, on_cluster, on_cluster_rest, moved}
use Rattle.vx_causes.proofs.Directives.{Judged, Here, accepted_by, chosen_by, no_more_words, no_more_texts, other_initial}

abbrev is_operation_kind : Kind → Bool
is_operation_kind AnOperation = true
is_operation_kind k = false

another : {A : Type 0} (text : List ℕ) (j : Kind) → kind text ≡ AnOperation → kind text ≡ j → is_operation_kind j ≡ false → A
another text j e f never = no_test (sym never ∙ ap is_operation_kind (sym f ∙ e))

not_repeated : (before : List (List ℕ)) (text : List ℕ) → kind text ≡ AnOperation → IsRepeated before text → ⊥
not_repeated before text e (version f x) = another text AVersion e (version_kind text f) refl
not_repeated before text e (memory f x) = another text AMemory e (memory_kind text f) refl
not_repeated before text e (label p f x) = another text Another e (ap kind f ∙ label_kind (decimal p ++ codes ":")) refl

not_large : (text : List ℕ) → kind text ≡ AnOperation → IsTooLarge text → ⊥
not_large text e x = another text AMemory e (large_kind text x) refl

-- the causes of a line that has the form of an operation, said of what stands behind its cluster

pub record Behind (all before : List (List ℕ)) (text rest : List ℕ) : Type 0 where
  pub kind_is : kind text ≡ AnOperation
  pub on : OnCluster text rest
  pub only : (other : List ℕ) → OnCluster text other → other ≡ rest

pub behind_cluster : (all before : List (List ℕ)) (text : List ℕ) → kind text ≡ AnOperation → Behind all before text (drop 3 text)
behind_cluster all before text e = record { kind_is = e; on = on_cluster text (told text AnOperation e); only = on_cluster_rest text }

first_unknown : (all before : List (List ℕ)) (text rest : List ℕ) → Behind all before text rest → (IsKnown rest → ⊥) → FirstCause all before text UnknownOperation
first_unknown all before text rest b never = record { applies = (rest, b.on, never); first = earlier b }
  where
    earlier : Behind all before text rest → (other : Cause) → rank other < 2 → Applies other all before text → ⊥
    earlier b Repeated lt x = not_repeated before text b.kind_is x
    earlier b MemoryTooLarge lt x = not_large text b.kind_is x
    earlier b UnknownOperation lt x = omega (arith, lt)
    earlier b BadOperand lt x = omega (arith, lt)
    earlier b UnknownLabel lt x = omega (arith, lt)
    earlier b BadLine lt x = omega (arith, lt)

not_unknown : (all before : List (List ℕ)) (text rest : List ℕ) → Behind all before text rest → IsKnown rest → Applies UnknownOperation all before text → ⊥
not_unknown all before text rest b known x = x.2 (subst IsKnown (sym (b.only x.0 x.1)) known)

first_operand : (all before : List (List ℕ)) (text rest : List ℕ) → Behind all before text rest → IsKnown rest → (HasForm rest → ⊥) ⊎ NamesNoText before rest → FirstCause all before text BadOperand
first_operand all before text rest b known never = record { applies = (rest, b.on, known, never); first = earlier b }
  where
    earlier : Behind all before text rest → (other : Cause) → rank other < 3 → Applies other all before text → ⊥
    earlier b Repeated lt x = not_repeated before text b.kind_is x
    earlier b MemoryTooLarge lt x = not_large text b.kind_is x
    earlier b UnknownOperation lt x = not_unknown all before text rest b known x
    earlier b BadOperand lt x = omega (arith, lt)
    earlier b UnknownLabel lt x = omega (arith, lt)
    earlier b BadLine lt x = omega (arith, lt)

-- the operands are of the form, and a text that it names is there
pub record Fits (before : List (List ℕ)) (rest : List ℕ) : Type 0 where
  pub known : IsKnown rest
  pub form : HasForm rest
  pub text_there : NamesNoText before rest → ⊥

not_operand : (all before : List (List ℕ)) (text rest : List ℕ) → Behind all before text rest → Fits before rest → Applies BadOperand all before text → ⊥
not_operand all before text rest b f x = by x.3 (b.only x.0 x.1)
  where
    by : (HasForm x.0 → ⊥) ⊎ NamesNoText before x.0 → x.0 ≡ rest → ⊥
    by (inl never) is = never (subst HasForm (sym is) f.form)
    by (inr y) is = f.text_there (subst (NamesNoText before) is y)

first_label : (all before : List (List ℕ)) (text rest : List ℕ) → Behind all before text rest → Fits before rest → NamesNoPlace all rest → FirstCause all before text UnknownLabel
first_label all before text rest b f never = record { applies = (rest, b.on, never); first = earlier b f }
  where
    earlier : Behind all before text rest → Fits before rest → (other : Cause) → rank other < 4 → Applies other all before text → ⊥
    earlier b f Repeated lt x = not_repeated before text b.kind_is x
    earlier b f MemoryTooLarge lt x = not_large text b.kind_is x
    earlier b f UnknownOperation lt x = not_unknown all before text rest b f.known x
    earlier b f BadOperand lt x = not_operand all before text rest b f x
    earlier b f UnknownLabel lt x = omega (arith, lt)
    earlier b f BadLine lt x = omega (arith, lt)

not_label : (all before : List (List ℕ)) (text rest : List ℕ) → Behind all before text rest → (NamesNoPlace all rest → ⊥) → Applies UnknownLabel all before text → ⊥
not_label all before text rest b never x = never (subst (NamesNoPlace all) (b.only x.0 x.1) x.2)

first_bad : (all before : List (List ℕ)) (text rest : List ℕ) → Behind all before text rest → Fits before rest → (NamesNoPlace all rest → ⊥) → Applies BadLine all before text → FirstCause all before text BadLine
first_bad all before text rest b f never bad = record { applies = bad; first = earlier b f never }
  where
    earlier : Behind all before text rest → Fits before rest → (NamesNoPlace all rest → ⊥) → (other : Cause) → rank other < 5 → Applies other all before text → ⊥
    earlier b f never Repeated lt x = not_repeated before text b.kind_is x
    earlier b f never MemoryTooLarge lt x = not_large text b.kind_is x
    earlier b f never UnknownOperation lt x = not_unknown all before text rest b f.known x
    earlier b f never BadOperand lt x = not_operand all before text rest b f x
    earlier b f never UnknownLabel lt x = not_label all before text rest b never x
    earlier b f never BadLine lt x = omega (arith, lt)

no_cause : (all before : List (List ℕ)) (text rest : List ℕ) (l : Line) → Behind all before text rest → Fits before rest → (NamesNoPlace all rest → ⊥) → MayStand all before l → text ≡ text_of l
    → (cause : Cause) → Applies cause all before text → ⊥
no_cause all before text rest l b f never m e Repeated x = not_repeated before text b.kind_is x
no_cause all before text rest l b f never m e MemoryTooLarge x = not_large text b.kind_is x
no_cause all before text rest l b f never m e UnknownOperation x = not_unknown all before text rest b f.known x
no_cause all before text rest l b f never m e BadOperand x = not_operand all before text rest b f x
no_cause all before text rest l b f never m e UnknownLabel x = not_label all before text rest b never x
no_cause all before text rest l b f never m e BadLine x = x l m e

-- an operation that is read

abbrev found : Operation → Result Operation ℕ
found op = Ok op

same_read : (k : ℕ) (rest : List ℕ) (op other : Operation) → operation_of k rest ≡ Ok op → operation_of k rest ≡ Ok other → op ≡ other
same_read k rest op other e f = let h : found op ≡ found other = sym e ∙ f in cc

text_named : (k : ℕ) (before : List (List ℕ)) (s : Before) (rest : List ℕ) (op : Operation) → k ≤ 3 → length s.texts ≡ text_count before → operation_of k rest ≡ Ok op
    → nat_lt (length s.texts) (texts_named op) ≡ false → NamesNoText before rest → ⊥
text_named k before s rest op le count e there x =
    let is : op ≡ OutText x.number = same_read k rest op (OutText x.number) e (spelled_read k rest (OutText x.number) le x.is) in
    let test : nat_lt (length s.texts) (x.number + 1) ≡ false = ap (λ o. nat_lt (length s.texts) (texts_named o)) (sym is) ∙ there in
    let enough : x.number + 1 ≤ length s.texts = ltb-false _ _ test in
    let missing = x.missing in
    omega (arith, enough, missing, count)

no_target : (total : ℕ) (op : Operation) → target_of op ≡ None → is_beyond total op ≡ false
no_target total op e = ap (λ t. option_map_or (λ p. nat_le total p) t false) e

some_target : (total p : ℕ) (op : Operation) → target_of op ≡ Some p → is_beyond total op ≡ nat_le total p
some_target total p op e = ap (λ t. option_map_or (λ p. nat_le total p) t false) e

place_beyond : (all : List (List ℕ)) (total : ℕ) (rest : List ℕ) (op : Operation) → word_count all ≡ total → total < 4294967295 → Shape rest op → is_beyond total op ≡ true → NamesNoPlace all rest
place_beyond all total rest op is small (plain none x) e = no_test (sym (no_target total op none) ∙ e)
place_beyond all total rest op is small (jump place n t) e =
    let far : total ≤ (number_at n.digits).0 = leb-true _ _ (sym (some_target total (number_at n.digits).0 op t) ∙ e) in
    let value = beyond_value total n.digits n.number (omega (arith, small)) far in
    let place_is = n.value in
    record { place = place; names = n; missing = omega (arith, is, value, place_is) }

place_within : (all : List (List ℕ)) (total k : ℕ) (rest : List ℕ) (op : Operation) → word_count all ≡ total → total < 4294967295 → operation_of k rest ≡ Ok op → is_beyond total op ≡ false → NamesNoPlace all rest → ⊥
place_within all total k rest op is small e near x =
    let r = place_read k rest x.place x.names in
    let same : r.op ≡ op = same_read k rest r.op op r.read e in
    let target : target_of op ≡ Some (number_at x.names.digits).0 = ap target_of (sym same) ∙ r.target in
    let place_is = x.names.value in
    let missing = x.missing in
    let far : total ≤ (number_at x.names.digits).0 = value_beyond total x.names.digits x.names.number (omega (arith, small)) (omega (arith, is, place_is, missing)) in
    no_test (sym near ∙ some_target total (number_at x.names.digits).0 op target ∙ le-leb _ _ far)

out_text : (rest : List ℕ) (n : ℕ) (op : Operation) → Shape rest op → n < texts_named op → (m : ℕ) × (op ≡ OutText m) × (texts_named op ≡ m + 1) × IsOperation rest (OutText m)
out_text rest n (OutText m) (plain none x) lt = (m, refl, refl, x)
out_text rest n (OutText m) (jump place y t) lt = absurd cc
out_text rest n op x lt = absurd (omega (arith, lt))

missing_text : (before : List (List ℕ)) (s : Before) (rest : List ℕ) (op : Operation) → length s.texts ≡ text_count before → Shape rest op → nat_lt (length s.texts) (texts_named op) ≡ true → NamesNoText before rest
missing_text before s rest op count x e =
    let lt : length s.texts < texts_named op = ltb-true _ _ e in
    let o = out_text rest (length s.texts) op x lt in
    let named = o.2 in
    record { number = o.0; is = o.3; missing = omega (arith, lt, named, count) }

stands_at : (all : List (List ℕ)) (marks : List Bool) (total : ℕ) (before : List (List ℕ)) (s : Before) → Here all marks total before s → (begins_word marks s || is_operations_stage s.stage) ≡ true → OperationStands all before
stands_at all marks total before s here e =
    elim (either_true (begins_word marks s) (is_operations_stage s.stage) e) [
      | inl x ↦ begins (begins_told all marks total before s here.set here.stands here.few x)
      | inr x ↦ (let o = operations_at s.stage s.least before here.stands.last x in goes_on o.0 o.1)
    ]

stands_back : (all : List (List ℕ)) (marks : List Bool) (total : ℕ) (before : List (List ℕ)) (s : Before) → Here all marks total before s → OperationStands all before → (begins_word marks s || is_operations_stage s.stage) ≡ true
stands_back all marks total before s here (begins x) = or_left (begins_word marks s) (is_operations_stage s.stage) (told_begins all marks total before s here.set here.stands here.few x)
stands_back all marks total before s here (goes_on op x) =
    or_right (begins_word marks s) (is_operations_stage s.stage) ((by_initial s.stage s.least before here.stands.last).operations ∙ ap (λ n. nat_eq n 99) (is_last_initial before (Operates op) x))

-- the operation of a line that may stand there is the one that is read
own_read : (text : List ℕ) (op other : Operation) → is_operation_line text ≡ true → operation_of (line_cluster text) (drop 3 text) ≡ Ok op → IsSpellable other → text ≡ operation_text other
    → (op ≡ other) × (line_cluster text ≡ cluster_of other)
own_read text op other line e x is =
    let bytes : text ≡ 99 ∷ (48 + cluster_of other) ∷ 32 ∷ body_text other = is ∙ spelled_bytes other x.operands in
    let small = spelled_cluster other x.operands in
    let cluster : line_cluster text ≡ cluster_of other = ap line_cluster bytes ∙ (let h : 48 + cluster_of other - 48 ≡ cluster_of other = omega arith in h) in
    let read = spelled_read (cluster_of other) (body_text other) other small (record { spellable = x; is = refl }) in
    let here : operation_of (line_cluster text) (drop 3 text) ≡ Ok (moved (cluster_of other) other) = (λ i. operation_of (cluster i) (drop 3 (bytes i))) ∙ read in
    (same_read (line_cluster text) (drop 3 text) op (moved (cluster_of other) other) e here ∙ moved_itself other, cluster)
  where
    moved_itself : (op : Operation) → moved (cluster_of op) op ≡ op
    moved_itself (Compute k code to a b) = refl
    moved_itself (Move k to a) = refl
    moved_itself (Select k to t a b) = refl
    moved_itself (Load k to o r d) = refl
    moved_itself (Store k o r a) = refl
    moved_itself op = refl

read_judged : (all : List (List ℕ)) (marks : List Bool) (total : ℕ) (before : List (List ℕ)) (s : Before) (text : List ℕ) (op : Operation) → Here all marks total before s → kind text ≡ AnOperation
    → IsKnown (drop 3 text) → operation_of (line_cluster text) (drop 3 text) ≡ Ok op → nat_lt (length s.texts) (texts_named op) ≡ false → is_beyond total op ≡ false
    → Judged all marks before text (accepted (nat_eq (line_cluster text) (cluster_of op) && (begins_word marks s || is_operations_stage s.stage)) (record s { stage = AtOperations; ops = s.ops ++ op ∷ [] }))
read_judged all marks total before s text op here e known read there near =
    let line = told text AnOperation e in
    let k = line_cluster text in
    let rest = drop 3 text in
    let st = here.stands in
    let b = behind_cluster all before text e in
    let t = taken_of k rest op read in
    let f : Fits before rest = record { known = known; form = shape_form rest op t.shape; text_there = text_named k before s rest op (line_cluster_small text line) st.texts read there } in
    let never = place_within all total k rest op here.set.total_is here.set.small read near in
    accepted_by all marks before text (nat_eq k (cluster_of op) && (begins_word marks s || is_operations_stage s.stage)) (record s { stage = AtOperations; ops = s.ops ++ op ∷ [] })
    (λ h. accepts here line b t f never h) (λ h. first_bad all before text rest b f never (bad_line all before text AnOperation e here.more (λ own. no_test (sym h ∙ back here line own.0 own.1 own.2))))
  where
    accepts : Here all marks total before s → is_operation_line text ≡ true → Behind all before text (drop 3 text) → Taken (drop 3 text) op → Fits before (drop 3 text) → (NamesNoPlace all (drop 3 text) → ⊥)
        → (nat_eq (line_cluster text) (cluster_of op) && (begins_word marks s || is_operations_stage s.stage)) ≡ true → Judged all marks before text (Ok (record s { stage = AtOperations; ops = s.ops ++ op ∷ [] }))
    accepts here line b t f never h =
        let st = here.stands in
        let small = here.set.small in
        let a = both_true (nat_eq (line_cluster text) (cluster_of op)) (begins_word marks s || is_operations_stage s.stage) h in
        let same : text ≡ operation_text op = sym (operation_spelled total text op line read a.0 near (omega (arith, small))) in
        let first : initial text ≡ 99 = ap initial same in
        let within : (begins_word marks s || is_operations_stage s.stage || is_idle_stage s.stage) ≡ true = or_left (begins_word marks s || is_operations_stage s.stage) (is_idle_stage s.stage) a.1 in (
          no_cause all before text (drop 3 text) (Operates op) b f never (record { operands = t.operands; numbers = t.fits }, stands_at all marks total before s here a.1) same,
          stands_more marks before s text (record s { stage = AtOperations; ops = s.ops ++ op ∷ [] }) st (word_open marks s within) refl (other_initial text 99 109 first (λ z. omega (arith, z)))
              (op, behind before text (Operates op) same) (no_more_words text AnOperation (length s.words) e refl) (no_more_texts text AnOperation (length s.texts) e refl)
              (word_labels marks before s text st (other_initial text 99 76 first (λ z. omega (arith, z))) within),
        )

    back : Here all marks total before s → is_operation_line text ≡ true → (other : Operation) → MayStand all before (Operates other) → text ≡ operation_text other
        → (nat_eq (line_cluster text) (cluster_of op) && (begins_word marks s || is_operations_stage s.stage)) ≡ true
    back here line other m is =
        let o = own_read text op other line read m.0 is in
        let same : line_cluster text ≡ cluster_of op = o.1 ∙ ap cluster_of (sym o.0) in
        rw (eq-eqb (line_cluster text) (cluster_of op) same) (stands_back all marks total before s here m.1)

staged_judged : (all : List (List ℕ)) (marks : List Bool) (total : ℕ) (before : List (List ℕ)) (s : Before) (text : List ℕ) (op : Operation) → Here all marks total before s → kind text ≡ AnOperation
    → IsKnown (drop 3 text) → operation_of (line_cluster text) (drop 3 text) ≡ Ok op → Judged all marks before text (operation_by_stage marks total s (line_cluster text) op)
unfolding operation_by_stage
staged_judged all marks total before s text op here e known read =
    let k = line_cluster text in
    let rest = drop 3 text in
    let line = told text AnOperation e in
    let b = behind_cluster all before text e in
    let t = taken_of k rest op read in
    let last = accepted (nat_eq k (cluster_of op) && (begins_word marks s || is_operations_stage s.stage)) (record s { stage = AtOperations; ops = s.ops ++ op ∷ [] }) in
    chosen_by all marks before text (nat_lt (length s.texts) (texts_named op)) (Err 3) (if is_beyond total op then Err 4 else last)
    (λ h. (BadOperand, refl, first_operand all before text rest b known (inr (missing_text before s rest op here.stands.texts t.shape h))))
    (λ there. chosen_by all marks before text (is_beyond total op) (Err 4) last
    (λ h. (
      UnknownLabel,
      refl,
      first_label all before text rest b
          (record { known = known; form = shape_form rest op t.shape; text_there = text_named k before s rest op (line_cluster_small text line) here.stands.texts read there })
          (place_beyond all total rest op here.set.total_is here.set.small t.shape h),
    ))
    (λ near. read_judged all marks total before s text op here e known read there near))

abbrev lost : ℕ → Result Operation ℕ
lost code = Err code

pub operation_judged : (all : List (List ℕ)) (marks : List Bool) (total : ℕ) (before : List (List ℕ)) (s : Before) (text : List ℕ) → Here all marks total before s → kind text ≡ AnOperation
    → Judged all marks before text (operation_step marks total s (line_cluster text) (drop 3 text))
unfolding operation_step
operation_judged all marks total before s text here e = judged_by here (read_cases (line_cluster text) (drop 3 text))
  where
    not_formed : is_operation_line text ≡ true → operation_of (line_cluster text) (drop 3 text) ≡ Err 3 → HasForm (drop 3 text) → ⊥
    not_formed line is x = let r = form_read (line_cluster text) (drop 3 text) (line_cluster_small text line) x in let h : found r.0 ≡ lost 3 = sym r.1 ∙ is in cc

    judged_by : Here all marks total before s → Read (line_cluster text) (drop 3 text) → Judged all marks before text (operation_added marks total s (line_cluster text) (operation_of (line_cluster text) (drop 3 text)))
    judged_by here (unknown never is) =
        subst (λ r. Judged all marks before text (operation_added marks total s (line_cluster text) r)) (sym is) (UnknownOperation, refl, first_unknown all before text (drop 3 text) (behind_cluster all before text e) never)
    judged_by here (unfit known is) =
        subst (λ r. Judged all marks before text (operation_added marks total s (line_cluster text) r)) (sym is)
        (BadOperand, refl, first_operand all before text (drop 3 text) (behind_cluster all before text e) known (inl (not_formed (told text AnOperation e) is)))
    judged_by here (reads known op is) =
        subst (λ r. Judged all marks before text (operation_added marks total s (line_cluster text) r)) (sym is) (staged_judged all marks total before s text op here e known is)
