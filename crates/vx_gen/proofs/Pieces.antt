-- Texts that are put piece after piece, and what is put in a loop.
use Rattle.std.proofs.Common.{◌≡◌, ℕ, ◌+◌, ◌-◌, ◌<◌, ◌≤◌, List, [], ◌++◌, length, drop, get_or, ap, sym, ◌∙◌, arith, append_assoc, append-nil}
use Rattle.std.specs.Prelude.{codes, decimal}
use Rattle.std.proofs.lemmas.List.{drop_all, drop_more}
use Rattle.vx_gen.specs.Program.{Maker, Puts, filled, statements, opening, closing, function, function_count, functions, arguments, printed, call_line, call_lines, main_opening, main_text, array, program_text}

pub behind : (old one two a b : List ℕ) → one ≡ old ++ a → two ≡ one ++ b → two ≡ old ++ (a ++ b)
behind old one two a b f s = s ∙ ap (λ l. l ++ b) f ∙ append_assoc old a b

put_last : (old one a b : List ℕ) → one ≡ old ++ a → one ++ b ≡ old ++ (a ++ b)
put_last old one a b f = ap (λ l. l ++ b) f ∙ append_assoc old a b

-- forms

pub letter_text :
    (letter : ℕ → Maker) (form : List ℕ) (i d x next : ℕ) (out after whole : List ℕ) → i < length form → Puts (letter (get_or form i d) x) out after next
    → out ++ (filled letter (drop i form) x).text ≡ whole → after ++ (filled letter (drop (i + 1) form) next).text ≡ whole
letter_text letter form i d x next out after whole h p e =
    let here = letter (get_or form i d) x in
    let more = drop (i + 1) form in
    ap (λ (n : ℕ). after ++ (filled letter more n).text) p.state
    ∙ ap (λ (l : List ℕ). l ++ (filled letter more here.state).text) p.text
    ∙ append_assoc out here.text (filled letter more here.state).text
    ∙ ap (λ (l : List ℕ). out ++ (filled letter l x).text) (sym (drop_more form i d h))
    ∙ e

pub letter_state :
    (letter : ℕ → Maker) (form : List ℕ) (i d x next end : ℕ) (out after : List ℕ) → i < length form → Puts (letter (get_or form i d) x) out after next
    → (filled letter (drop i form) x).state ≡ end → (filled letter (drop (i + 1) form) next).state ≡ end
letter_state letter form i d x next end out after h p e =
    ap (λ (n : ℕ). (filled letter (drop (i + 1) form) n).state) p.state ∙ ap (λ (l : List ℕ). (filled letter l x).state) (sym (drop_more form i d h)) ∙ e

pub letters_text : (letter : ℕ → Maker) (form : List ℕ) (i x : ℕ) (out whole : List ℕ) → length form ≤ i → out ++ (filled letter (drop i form) x).text ≡ whole → out ≡ whole
letters_text letter form i x out whole h e = sym (append-nil out) ∙ ap (λ (l : List ℕ). out ++ (filled letter l x).text) (sym (drop_all i form h)) ∙ e

pub letters_state : (letter : ℕ → Maker) (form : List ℕ) (i x end : ℕ) → length form ≤ i → (filled letter (drop i form) x).state ≡ end → x ≡ end
letters_state letter form i x end h e = ap (λ (l : List ℕ). (filled letter l x).state) (sym (drop_all i form h)) ∙ e

-- the last turn of a loop that counts

none_left : (j k : ℕ) → k ≤ j → 0 ≡ k - j
none_left j k h = omega arith

pub all_statements_text : (j k x : ℕ) (out whole : List ℕ) → k ≤ j → out ++ (statements (k - j) x).text ≡ whole → out ≡ whole
all_statements_text j k x out whole h e = sym (append-nil out) ∙ ap (λ (n : ℕ). out ++ (statements n x).text) (none_left j k h) ∙ e

pub all_statements_state : (j k x end : ℕ) → k ≤ j → (statements (k - j) x).state ≡ end → x ≡ end
all_statements_state j k x end h e = ap (λ (n : ℕ). (statements n x).state) (none_left j k h) ∙ e

pub all_functions_text : (size j k x : ℕ) (out whole : List ℕ) → k ≤ j → out ++ (functions size j (k - j) x).text ≡ whole → out ≡ whole
all_functions_text size j k x out whole h e = sym (append-nil out) ∙ ap (λ (n : ℕ). out ++ (functions size j n x).text) (none_left j k h) ∙ e

pub all_functions_state : (size j k x end : ℕ) → k ≤ j → (functions size j (k - j) x).state ≡ end → x ≡ end
all_functions_state size j k x end h e = ap (λ (n : ℕ). (functions size j n x).state) (none_left j k h) ∙ e

pub all_calls : (j k : ℕ) (out whole : List ℕ) → k ≤ j → out ++ call_lines j (k - j) ≡ whole → out ≡ whole
all_calls j k out whole h e = sym (append-nil out) ∙ ap (λ (n : ℕ). out ++ call_lines j n) (none_left j k h) ∙ e

-- functions and main

pub opened : (j : ℕ) (old one two : List ℕ) → one ≡ old ++ codes "int f" → two ≡ one ++ decimal j → two ++ codes "(int p, int q) {\nint i;\nint a = p;\nint b = q;\nint c = 1;\nint d = 2;\n" ≡ old ++ opening j
unfolding opening
opened j old one two f s = put_last old two (codes "int f" ++ decimal j) _ (behind old one two (codes "int f") (decimal j) f s)

pub whole_function : (j n x next : ℕ) (old one two three : List ℕ) → one ≡ old ++ opening j → Puts (statements n x) one two next → three ≡ two ++ closing → Puts (function j n x) old three next
unfolding function
whole_function j n x next old one two three f p s = record { text = behind old two three (opening j ++ (statements n x).text) closing (behind old one two (opening j) (statements n x).text f p.text) s; state = p.state }

pub all_arguments :
    (j : ℕ) (old one two three four : List ℕ) → one ≡ old ++ codes "(" → two ≡ one ++ decimal (j + 1) → three ≡ two ++ codes ", " → four ≡ three ++ decimal (j + 2)
    → four ++ codes ")" ≡ old ++ arguments j
all_arguments j old one two three four a b c d =
    let first = codes "(" ++ decimal (j + 1) in
    put_last old four (first ++ codes ", " ++ decimal (j + 2)) (codes ")")
    (behind old three four (first ++ codes ", ") (decimal (j + 2)) (behind old two three first (codes ", ") (behind old one two (codes "(") (decimal (j + 1)) a b) c) d)

pub whole_call : (j : ℕ) (old one two three : List ℕ) → one ≡ old ++ printed → two ≡ one ++ decimal j → three ≡ two ++ arguments j → three ++ codes ");\n" ≡ old ++ call_line j
whole_call j old one two three a b c =
    put_last old three (printed ++ decimal j ++ arguments j) (codes ");\n") (behind old two three (printed ++ decimal j) (arguments j) (behind old one two printed (decimal j) a b) c)

pub whole_main : (size count : ℕ) (old one two : List ℕ) → one ≡ old ++ main_opening → two ≡ one ++ call_lines 0 count → count ≡ function_count size → two ++ codes "return 0;\n}\n" ≡ old ++ main_text size
whole_main size count old one two a b n =
    put_last old two (main_opening ++ call_lines 0 (function_count size)) (codes "return 0;\n}\n")
    (behind old one two main_opening (call_lines 0 (function_count size)) a (b ∙ ap (λ (k : ℕ). one ++ call_lines 0 k) n))

pub whole_program :
    (seed size count next : ℕ) (empty one two three : List ℕ) → empty ≡ [] → one ≡ empty ++ array → Puts (functions size 0 count seed) one two next → count ≡ function_count size → three ≡ two ++ main_text size
    → three ≡ program_text seed size
whole_program seed size count next empty one two three none a p n m =
    let made = (functions size 0 (function_count size) seed).text in
    behind empty two three (array ++ made) (main_text size)
    (behind empty one two array made a (p.text ∙ ap (λ (k : ℕ). one ++ (functions size 0 k seed).text) n)) m
    ∙ ap (λ (l : List ℕ). l ++ program_text seed size) none
