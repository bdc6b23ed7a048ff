-- A program that is written is read again.
use Rattle.std.proofs.Common.{◌≡◌, ◌⊎◌, inl, inr, ℕ, ◌+◌, ◌%◌, ◌<◌, ◌≤◌, ℤ, Bool, true, false, ◌&&◌, ◌||◌, List, [], ◌∷◌, ◌++◌, drop, map, Ok, refl, sym, ap, subst, ◌∙◌, append_assoc, arith}
use Rattle.std.specs.Prelude.{decimal, nat_eq, nat_lt, nat_le, codes}
use Rattle.std.specs.Fmt.{digits, signed_decimal}
use Rattle.std.specs.List.{list_all}
use Rattle.std.proofs.lemmas.Bool.Decides.{nat_tests}
use Rattle.std.proofs.lemmas.List.{append-nil}
use Rattle.std.proofs.lemmas.Fmt.{digits_value-decimal}
use borrow.Author.Tests.{eqb-true, leb-true, ltb-true}
use Rattle.vx_isa.specs.Sound.{is_version, is_start, is_not_zero}
use Rattle.vx_reader.specs.declared.before.Stage.{Stage}
use Rattle.vx_reader.specs.declared.before.Stage.TheVariants.{Version, Memory, Texts}
use Rattle.vx_reader.specs.declared.before.Before.{Before}
use Rattle.vx_words.specs.Spelling.{version_text, start_text, quoted_text}
use Rattle.vx_reader.specs.Fields.{number_at, signed_at}
use Rattle.vx_isa.specs.Range.{fits_signed}
use Rattle.vx_reader.specs.Steps.{beginning, value_from, is_size, entry_at, is_text_stage, version_step, memory_step, start_step, text_step, step}
use Rattle.vx_reader.specs.Text.{run_lines}
use Rattle.vx_reader.proofs.Numbers.{own, both_true}
use Rattle.vx_reader.proofs.Advance.{least_behind, shape}
use Rattle.vx_reader.proofs.FieldsAgain.{number_read, signed_read, decimal_is_number}
use Rattle.vx_reader.proofs.OperationsAgain.{same_text}
use Rattle.vx_reader.proofs.LinesAgain.{quoted_again}

-- the lines lead from one state to another, whatever follows them
abbrev pub Leads : List Bool → ℕ → Before → List (List ℕ) → Before → Type 0
Leads marks total s ls t = (n : ℕ) (more : List (List ℕ)) → (k : ℕ) × (run_lines marks total n s (ls ++ more) ≡ run_lines marks total k t more)

pub stay : (marks : List Bool) (total : ℕ) (s : Before) → Leads marks total s [] s
stay marks total s n more = (n, refl)

pub one_step : (marks : List Bool) (total : ℕ) (s : Before) (l : List ℕ) (t : Before) → step marks total s l ≡ Ok t → Leads marks total s (l ∷ []) t
one_step marks total s l t e n more = (n + 1, rw e refl)

pub follow : (marks : List Bool) (total : ℕ) (s u t : Before) (a b : List (List ℕ)) → Leads marks total s a u → Leads marks total u b t → Leads marks total s (a ++ b) t
follow marks total s u t a b f g n more =
    let one = f n (b ++ more) in
    let two = g one.0 more in
    (two.0, ap (run_lines marks total n s) (append_assoc a b more) ∙ one.1 ∙ two.1)

pub first_then : (marks : List Bool) (total : ℕ) (s u t : Before) (l : List ℕ) (ls : List (List ℕ)) → step marks total s l ≡ Ok u → Leads marks total u ls t → Leads marks total s (l ∷ ls) t
first_then marks total s u t l ls e g = follow marks total s u t (l ∷ []) ls (one_step marks total s l u e) g

-- the header

-- there are two versions
pub one_or_two : (v : ℕ) → is_version v ≡ true → (v ≡ 1) ⊎ (v ≡ 2)
one_or_two v e = first_by (nat_eq v 1) refl e
  where
    first_by : (b : Bool) → nat_eq v 1 ≡ b → (b || nat_eq v 2) ≡ true → (v ≡ 1) ⊎ (v ≡ 2)
    first_by true t h = inl (eqb-true _ _ t)
    first_by false t h = inr (eqb-true _ _ h)

first_taken : (marks : List Bool) (total : ℕ) → step marks total beginning (version_text 1) ≡ Ok (shape Version 1 0 0 [] [] [] [] 0)
unfolding step version_step digits
first_taken marks total = refl

second_taken : (marks : List Bool) (total : ℕ) → step marks total beginning (version_text 2) ≡ Ok (shape Version 2 0 0 [] [] [] [] 0)
unfolding step version_step digits
second_taken marks total = refl

pub version_taken : (marks : List Bool) (total v : ℕ) → is_version v ≡ true → step marks total beginning (version_text v) ≡ Ok (shape Version v 0 0 [] [] [] [] 0)
version_taken marks total v known =
    elim (one_or_two v known) [
      | inl e ↦ subst (λ n. step marks total beginning (version_text n) ≡ Ok (shape Version n 0 0 [] [] [] [] 0)) (sym e) (first_taken marks total)
      | inr e ↦ subst (λ n. step marks total beginning (version_text n) ≡ Ok (shape Version n 0 0 [] [] [] [] 0)) (sym e) (second_taken marks total)
    ]

pub memory_taken : (marks : List Bool) (total v m : ℕ) → nat_eq (m % 4) 0 ≡ true → nat_le m 134217728 ≡ true
    → step marks total (shape Version v 0 0 [] [] [] [] 0) (codes ".memory " ++ decimal m) ≡ Ok (shape Memory v m 0 [] [] [] [] 0)
unfolding step memory_step
memory_taken marks total v m whole small =
    let le : m ≤ 134217728 = leb-true _ _ small in
    let value : value_from 0 (decimal m) ≡ m = digits_value-decimal own m (omega arith) in
    let size : is_size (decimal m) ≡ true = rw (value, decimal_is_number m (omega arith), whole) refl in
    let near : nat_lt 134217728 (value_from 0 (decimal m)) ≡ false = rw value (let h : nat_lt 134217728 m ≡ false = grind (arith, nat_tests) in h) in
    rw (size, near, value) refl

-- the memory

regroup_entry : (A V : List ℕ) → ((codes ".word " ++ A) ++ codes " = ") ++ V ≡ codes ".word " ++ (A ++ (codes " = " ++ V))
regroup_entry A V = simp append_assoc

entry_again : (e : ℕ × ℤ) → e.0 ≤ 4294967295 → fits_signed e.1 ≡ true → entry_at (start_text e) ≡ e
unfolding entry_at
entry_again e small fits =
    let one : number_at (drop 6 (start_text e)) ≡ (e.0, codes " = " ++ signed_decimal e.1) =
    ap (λ t. number_at (drop 6 t)) (regroup_entry (decimal e.0) (signed_decimal e.1)) ∙ number_read e.0 (codes " = " ++ signed_decimal e.1) small refl in
    let two : signed_at (signed_decimal e.1) ≡ (e.1, []) = ap signed_at (sym (append-nil (signed_decimal e.1))) ∙ signed_read e.1 [] fits tt in
    rw (one, two) refl

start_dispatch : (marks : List Bool) (total : ℕ) (s : Before) (e : ℕ × ℤ) → step marks total s (start_text e) ≡ start_step s (start_text e)
unfolding step
start_dispatch marks total s e = refl

start_taken : (marks : List Bool) (total v m l : ℕ) (st : List (ℕ × ℤ)) (e : ℕ × ℤ) → m ≤ 134217728 → nat_le l e.0 ≡ true → nat_eq (e.0 % 4) 0 ≡ true → nat_lt e.0 m ≡ true → is_not_zero e.1 ≡ true → fits_signed e.1 ≡ true
    → step marks total (shape Memory v m l st [] [] [] 0) (start_text e) ≡ Ok (shape Memory v m (e.0 + 1) (st ++ e ∷ []) [] [] [] 0)
unfolding start_step
start_taken marks total v m l st e small a b c d fits =
    let lt : e.0 < m = ltb-true _ _ c in
    let again : entry_at (start_text e) ≡ e = entry_again e (omega arith) fits in
    start_dispatch marks total (shape Memory v m l st [] [] [] 0) e ∙ rw (again, a, b, c, d, same_text (start_text e)) refl

pub start_leads : (marks : List Bool) (total v m l : ℕ) (st rest : List (ℕ × ℤ)) → m ≤ 134217728 → is_start m l rest ≡ true → list_all (λ (e : ℕ × ℤ). fits_signed e.1) rest ≡ true
    → Leads marks total (shape Memory v m l st [] [] [] 0) (map start_text rest) (shape Memory v m (least_behind l rest) (st ++ rest) [] [] [] 0)
start_leads marks total v m l st [] small e f = subst (λ x. Leads marks total (shape Memory v m l st [] [] [] 0) [] (shape Memory v m l x [] [] [] 0)) (sym (append-nil st)) (stay marks total (shape Memory v m l st [] [] [] 0))
start_leads marks total v m l st (p ∷ ps) small e f =
    let x = both_true (nat_le l p.0 && nat_eq (p.0 % 4) 0 && nat_lt p.0 m && is_not_zero p.1) (is_start m (p.0 + 1) ps) e in
    let y = both_true (nat_le l p.0 && nat_eq (p.0 % 4) 0 && nat_lt p.0 m) (is_not_zero p.1) x.0 in
    let z = both_true (nat_le l p.0 && nat_eq (p.0 % 4) 0) (nat_lt p.0 m) y.0 in
    let u = both_true (nat_le l p.0) (nat_eq (p.0 % 4) 0) z.0 in
    let g = both_true (fits_signed p.1) (list_all (λ (e : ℕ × ℤ). fits_signed e.1) ps) f in
    let rest = start_leads marks total v m (p.0 + 1) (st ++ p ∷ []) ps small x.1 g.1 in
    let along = subst (λ w. Leads marks total (shape Memory v m (p.0 + 1) (st ++ p ∷ []) [] [] [] 0) (map start_text ps) (shape Memory v m (least_behind (p.0 + 1) ps) w [] [] [] 0)) (append_assoc st (p ∷ []) ps) rest in
    first_then marks total (shape Memory v m l st [] [] [] 0) (shape Memory v m (p.0 + 1) (st ++ p ∷ []) [] [] [] 0) (shape Memory v m (least_behind (p.0 + 1) ps) (st ++ p ∷ ps) [] [] [] 0) (start_text p) (map start_text ps)
    (start_taken marks total v m l st p small u.0 u.1 z.1 y.1 g.0) along

-- the texts

abbrev pub text_stage : List (List ℕ) → Stage
text_stage [] = Memory
text_stage (t ∷ ts) = Texts

text_stage_more : (ts : List (List ℕ)) (b : List ℕ) → text_stage (ts ++ b ∷ []) ≡ Texts
text_stage_more [] b = refl
text_stage_more (t ∷ ts) b = refl

text_stage_is : (ts : List (List ℕ)) → is_text_stage (text_stage ts) ≡ true
text_stage_is [] = refl
text_stage_is (t ∷ ts) = refl

text_dispatch : (marks : List Bool) (total : ℕ) (s : Before) (b : List ℕ) → step marks total s (quoted_text b) ≡ text_step s (quoted_text b)
unfolding step
text_dispatch marks total s b = refl

text_taken : (marks : List Bool) (total v m l : ℕ) (st : List (ℕ × ℤ)) (ts : List (List ℕ)) (b : List ℕ) → list_all (λ c. nat_lt c 256) b ≡ true
    → step marks total (shape (text_stage ts) v m l st ts [] [] 0) (quoted_text b) ≡ Ok (shape (text_stage (ts ++ b ∷ [])) v m l st (ts ++ b ∷ []) [] [] 0)
unfolding text_step
text_taken marks total v m l st ts b fits =
    text_dispatch marks total (shape (text_stage ts) v m l st ts [] [] 0) b ∙ rw (text_stage_is ts, quoted_again b fits, same_text (quoted_text b), text_stage_more ts b) refl

pub text_leads : (marks : List Bool) (total v m l : ℕ) (st : List (ℕ × ℤ)) (ts rest : List (List ℕ)) → list_all (list_all (λ c. nat_lt c 256)) rest ≡ true
    → Leads marks total (shape (text_stage ts) v m l st ts [] [] 0) (map quoted_text rest) (shape (text_stage (ts ++ rest)) v m l st (ts ++ rest) [] [] 0)
text_leads marks total v m l st ts [] f = subst (λ x. Leads marks total (shape (text_stage ts) v m l st ts [] [] 0) [] (shape (text_stage x) v m l st x [] [] 0)) (sym (append-nil ts)) (stay marks total (shape (text_stage ts) v m l st ts [] [] 0))
text_leads marks total v m l st ts (b ∷ bs) f =
    let g = both_true (list_all (λ c. nat_lt c 256) b) (list_all (list_all (λ c. nat_lt c 256)) bs) f in
    let rest = text_leads marks total v m l st (ts ++ b ∷ []) bs g.1 in
    let along = subst (λ w. Leads marks total (shape (text_stage (ts ++ b ∷ [])) v m l st (ts ++ b ∷ []) [] [] 0) (map quoted_text bs) (shape (text_stage w) v m l st w [] [] 0)) (append_assoc ts (b ∷ []) bs) rest in
    first_then marks total (shape (text_stage ts) v m l st ts [] [] 0) (shape (text_stage (ts ++ b ∷ [])) v m l st (ts ++ b ∷ []) [] [] 0) (shape (text_stage (ts ++ b ∷ bs)) v m l st (ts ++ b ∷ bs) [] [] 0) (quoted_text b) (map quoted_text bs)
    (text_taken marks total v m l st ts b g.0) along
