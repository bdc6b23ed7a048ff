-- The tokens of a generated source.
use Rattle.std.proofs.Common.{◌≡◌, ℕ, zero, suc, ◌+◌, ◌-◌, ◌*◌, ◌<◌, ◌≤◌, min, pos, List, [], ◌∷◌, ◌++◌, length, codes, refl, sym, ap, subst, ◌∙◌, arith, append_assoc, append-nil}
use Rattle.std.specs.Prelude.{decimal}
use Rattle.vx_ast.specs.declared.token.Token.{Token}
use Rattle.vx_ast.specs.declared.token.TokenKind.TheVariants as kinds
use Rattle.vx_ast.specs.Tokens.{first_piece, word_piece, keyword_of, mark_piece, mark_at, decimal_piece, string_piece, quoted_piece, before_quote, before_bad_escape, escapes_read, token_at, LexesFrom, Lexes}
use Rattle.vx_gen.specs.Program as gen
use Rattle.vx_gen.specs.Program.{statements, function, functions, arguments, printed, call_line, call_lines, main_opening, main_text, array, program_text, function_count}
use Rattle.vx_generated.proofs.Forms as forms
use Rattle.vx_generated.proofs.Forms.{Bit, Spelt, spelt, Line, word_int, word_void, word_return, space, line_end, comma, semicolon, bracket, bracket_end, opening, closing, brace, brace_end, digit, tokens_of, text_of}
use Rattle.vx_generated.proofs.Spelling.{Tokens, Lexed, Spells, bits_tokens, followed, of_bits, of_both}
use Rattle.vx_generated.proofs.Texts.{lines_text, lines_tokens, DrawnLines, lines_drawn, lines_spell}
use Rattle.vx_generated.proofs.Functions.{function_name, open_bits, close_bits, function_tokens}
use Rattle.vx_generated.proofs.Numbers.{number_bit, first_digit, other_digits, name_reads, number_cut, number_plain, number_comma, number_closing}

open_lexed : (j : ℕ) (after : List ℕ) → j < 100 → Lexed after (open_bits j)
unfolding first_piece word_piece keyword_of mark_piece mark_at decimal_piece string_piece quoted_piece before_quote before_bad_escape escapes_read
open_lexed j after h = (Lexed.token refl refl (Lexed.blank refl (Lexed.token (name_reads j h _) refl (Lexed.token refl refl (Lexed.token refl refl (Lexed.blank refl (Lexed.token refl refl (Lexed.token refl refl (Lexed.blank refl (Lexed.token refl refl (Lexed.blank refl (Lexed.token refl refl (Lexed.token refl refl (Lexed.blank refl (Lexed.token refl refl (Lexed.end (Lexed.token refl refl (Lexed.blank refl (Lexed.token refl refl (Lexed.token refl refl (Lexed.end (Lexed.token refl refl (Lexed.blank refl (Lexed.token refl refl (Lexed.blank refl (Lexed.token refl refl (Lexed.blank refl (Lexed.token refl refl (Lexed.token refl refl (Lexed.end (Lexed.token refl refl (Lexed.blank refl (Lexed.token refl refl (Lexed.blank refl (Lexed.token refl refl (Lexed.blank refl (Lexed.token refl refl (Lexed.token refl refl (Lexed.end (Lexed.token refl refl (Lexed.blank refl (Lexed.token refl refl (Lexed.blank refl (Lexed.token refl refl (Lexed.blank refl (Lexed.token refl refl (Lexed.token refl refl (Lexed.end (Lexed.token refl refl (Lexed.blank refl (Lexed.token refl refl (Lexed.blank refl (Lexed.token refl refl (Lexed.blank refl (Lexed.token refl refl (Lexed.token refl refl (Lexed.end Lexed.done)))))))))))))))))))))))))))))))))))))))))))))))))))))))))

close_lexed : (after : List ℕ) → Lexed after close_bits
unfolding first_piece word_piece keyword_of mark_piece mark_at decimal_piece string_piece quoted_piece before_quote before_bad_escape escapes_read
close_lexed after = (Lexed.token refl refl (Lexed.blank refl (Lexed.token refl refl (Lexed.blank refl (Lexed.token refl refl (Lexed.blank refl (Lexed.token refl refl (Lexed.blank refl (Lexed.token refl refl (Lexed.blank refl (Lexed.token refl refl (Lexed.blank refl (Lexed.token refl refl (Lexed.blank refl (Lexed.token refl refl (Lexed.token refl refl (Lexed.end (Lexed.token refl refl (Lexed.end Lexed.done)))))))))))))))))))

-- functions

abbrev pub function_text : ℕ → List Line → List ℕ
function_text j ls = text_of (open_bits j) ++ (lines_text ls ++ text_of close_bits)

function_spells : (j : ℕ) (ls : List Line) (after : List ℕ) → j < 100 → Spells after (function_text j ls) (function_tokens j ls)
function_spells j ls after h =
    of_both after (text_of (open_bits j)) (lines_text ls ++ text_of close_bits) (bits_tokens (open_bits j)) (followed (lines_text ls) (lines_tokens ls) (bits_tokens close_bits))
    (of_bits ((lines_text ls ++ text_of close_bits) ++ after) (open_bits j) (open_lexed j ((lines_text ls ++ text_of close_bits) ++ after) h))
    (of_both after (lines_text ls) (text_of close_bits) (lines_tokens ls) (bits_tokens close_bits) (lines_spell ls (text_of close_bits ++ after)) (of_bits after close_bits (close_lexed after)))

function_is : (j n x : ℕ) (ls : List Line) → (statements n x).text ≡ lines_text ls → (function j n x).text ≡ function_text j ls
unfolding function gen.opening gen.closing
function_is j n x ls e = append_assoc (text_of (open_bits j)) (statements n x).text (text_of close_bits) ∙ ap (λ (l : List ℕ). text_of (open_bits j) ++ (l ++ text_of close_bits)) e

abbrev pub functions_text : ℕ → List (List Line) → List ℕ
functions_text j [] = []
functions_text j (ls ∷ lss) = function_text j ls ++ functions_text (j + 1) lss

abbrev pub functions_tokens : ℕ → List (List Line) → Tokens
functions_tokens j [] bytes place rest = rest
functions_tokens j (ls ∷ lss) bytes place rest = followed (function_text j ls) (function_tokens j ls) (functions_tokens (j + 1) lss) bytes place rest

functions_spell : (j : ℕ) (lss : List (List Line)) (after : List ℕ) → j + length lss ≤ 100 → Spells after (functions_text j lss) (functions_tokens j lss)
functions_spell j [] after h = record { lexed = λ bytes place rest e l. let same : place + 0 ≡ place = omega arith in subst (λ (n : ℕ). LexesFrom bytes n rest) same l }
functions_spell j (ls ∷ lss) after h =
    of_both after (function_text j ls) (functions_text (j + 1) lss) (function_tokens j ls) (functions_tokens (j + 1) lss)
    (function_spells j ls (functions_text (j + 1) lss ++ after) (omega (arith, h))) (functions_spell (j + 1) lss after (omega (arith, h)))

-- of at most 100 lines each
pub data Few : List (List Line) → Type 0 where
  no_lists : Few []
  with_list : {ls : List Line} {lss : List (List Line)} → length ls ≤ 100 → Few lss → Few (ls ∷ lss)

pub record DrawnFunctions (size j k x : ℕ) : Type 0 where
  pub lists : List (List Line)
  pub count : length lists ≡ k
  pub few : Few lists
  pub text : (functions size j k x).text ≡ functions_text j lists

pub functions_drawn : (size j k x : ℕ) → DrawnFunctions size j k x
functions_drawn size j zero x = record { lists = []; count = refl; few = no_lists; text = refl }
functions_drawn size j (suc k) x =
    let n : ℕ = min 100 (size - 100 * j) in
    let here : DrawnLines n x = lines_drawn n x in
    let next : ℕ = (function j n x).state in
    let more : DrawnFunctions size (j + 1) k next = functions_drawn size (j + 1) k next in
    let is : length here.lines ≡ n = here.count in
    record {
      lists = here.lines ∷ more.lists;
      count = ap (λ (m : ℕ). suc m) more.count;
      few = with_list (omega (arith, is)) more.few;
      text = ap (λ (t : List ℕ). t ++ (functions size (j + 1) k next).text) (function_is j n x here.lines here.text) ∙ ap (λ (t : List ℕ). function_text j here.lines ++ t) more.text;
    }

-- main

abbrev pub call_bits : ℕ → List Bit
call_bits j = forms.named (codes "printf") ∷ opening ∷ spelt (kinds.Text (codes "%d\n")) (codes "\"%d\\n\"") ∷ comma ∷ space ∷ Spelt (kinds.Name (function_name j)) 102 (decimal j) ∷ opening ∷ number_bit (j + 1) ∷ comma ∷ space ∷ number_bit (j + 2) ∷ closing ∷ closing ∷ semicolon ∷ line_end ∷ []

abbrev pub main_bits : List Bit
main_bits = word_int ∷ space ∷ forms.named (codes "main") ∷ opening ∷ word_void ∷ closing ∷ space ∷ brace ∷ line_end ∷ []

abbrev pub main_end : List Bit
main_end = word_return ∷ space ∷ digit 0 ∷ semicolon ∷ line_end ∷ brace_end ∷ line_end ∷ []

abbrev pub calls_text : (j k : ℕ) → List ℕ
calls_text j zero = []
calls_text j (suc k) = text_of (call_bits j) ++ calls_text (j + 1) k

abbrev pub calls_tokens : (j k : ℕ) → Tokens
calls_tokens j zero bytes place rest = rest
calls_tokens j (suc k) bytes place rest = followed (text_of (call_bits j)) (bits_tokens (call_bits j)) (calls_tokens (j + 1) k) bytes place rest

call_lexed : (j : ℕ) (after : List ℕ) → j < 100 → Lexed after (call_bits j)
unfolding first_piece word_piece keyword_of mark_piece mark_at decimal_piece string_piece quoted_piece before_quote before_bad_escape escapes_read
call_lexed j after h = (Lexed.token refl refl (Lexed.token refl refl (Lexed.token refl refl (Lexed.token refl refl (Lexed.blank refl (Lexed.token (name_reads j h _) refl (Lexed.token refl refl (Lexed.token (number_comma (j + 1) (omega (arith, h)) _) (number_plain (j + 1) (omega (arith, h))) (Lexed.token refl refl (Lexed.blank (number_plain (j + 2) (omega (arith, h))) (Lexed.token (number_closing (j + 2) (omega (arith, h)) _) (number_plain (j + 2) (omega (arith, h))) (Lexed.token refl refl (Lexed.token refl refl (Lexed.token refl refl (Lexed.end Lexed.done)))))))))))))))

calls_spell : (j k : ℕ) (after : List ℕ) → j + k ≤ 100 → Spells after (calls_text j k) (calls_tokens j k)
calls_spell j zero after h = record { lexed = λ bytes place rest e l. let same : place + 0 ≡ place = omega arith in subst (λ (n : ℕ). LexesFrom bytes n rest) same l }
calls_spell j (suc k) after h =
    of_both after (text_of (call_bits j)) (calls_text (j + 1) k) (bits_tokens (call_bits j)) (calls_tokens (j + 1) k)
    (of_bits (calls_text (j + 1) k ++ after) (call_bits j) (call_lexed j (calls_text (j + 1) k ++ after) (omega (arith, h)))) (calls_spell (j + 1) k after (omega (arith, h)))

main_lexed : (after : List ℕ) → Lexed after main_bits
unfolding first_piece word_piece keyword_of mark_piece mark_at decimal_piece string_piece quoted_piece before_quote before_bad_escape escapes_read
main_lexed after = (Lexed.token refl refl (Lexed.blank refl (Lexed.token refl refl (Lexed.token refl refl (Lexed.token refl refl (Lexed.token refl refl (Lexed.blank refl (Lexed.token refl refl (Lexed.end Lexed.done)))))))))

main_end_lexed : (after : List ℕ) → Lexed after main_end
unfolding first_piece word_piece keyword_of mark_piece mark_at decimal_piece string_piece quoted_piece before_quote before_bad_escape escapes_read
main_end_lexed after = (Lexed.token refl refl (Lexed.blank refl (Lexed.token refl refl (Lexed.token refl refl (Lexed.end (Lexed.token refl refl (Lexed.end Lexed.done)))))))

regrouped : (a b c d e f : List ℕ) → (a ++ (40 ∷ (((b ++ c) ++ d) ++ e))) ++ f ≡ a ++ (40 ∷ (b ++ (c ++ (d ++ (e ++ f)))))
regrouped a b c d e f =
    append_assoc a (40 ∷ (((b ++ c) ++ d) ++ e)) f
    ∙ ap (λ (l : List ℕ). a ++ (40 ∷ l)) (append_assoc ((b ++ c) ++ d) e f ∙ append_assoc (b ++ c) d (e ++ f) ∙ append_assoc b c (d ++ (e ++ f)))

call_is : (j : ℕ) → j < 100 → call_line j ≡ text_of (call_bits j)
unfolding printed
call_is j h =
    ap (λ (l : List ℕ). printed ++ l) (regrouped (decimal j) (decimal (j + 1)) (codes ", ") (decimal (j + 2)) (codes ")") (codes ");\n"))
    ∙ ap (λ (l : List ℕ). printed ++ (decimal j ++ (40 ∷ (l ++ (codes ", " ++ (decimal (j + 2) ++ (codes ")" ++ codes ");\n"))))))) (number_cut (j + 1) (omega (arith, h)))
    ∙ ap (λ (l : List ℕ). printed ++ (decimal j ++ (40 ∷ ((first_digit (j + 1) ∷ other_digits (j + 1)) ++ (codes ", " ++ (l ++ (codes ")" ++ codes ");\n"))))))) (number_cut (j + 2) (omega (arith, h)))

calls_are : (j k : ℕ) → j + k ≤ 100 → call_lines j k ≡ calls_text j k
calls_are j zero h = refl
calls_are j (suc k) h = ap (λ (l : List ℕ). l ++ call_lines (j + 1) k) (call_is j (omega (arith, h))) ∙ ap (λ (l : List ℕ). text_of (call_bits j) ++ l) (calls_are (j + 1) k (omega (arith, h)))

-- the whole

abbrev pub array_bits : List Bit
array_bits = word_int ∷ space ∷ forms.named (codes "m") ∷ bracket ∷ spelt (kinds.Number (pos 16)) (codes "16") ∷ bracket_end ∷ semicolon ∷ line_end ∷ []

array_lexed : (after : List ℕ) → Lexed after array_bits
unfolding first_piece word_piece keyword_of mark_piece mark_at decimal_piece string_piece quoted_piece before_quote before_bad_escape escapes_read
array_lexed after = (Lexed.token refl refl (Lexed.blank refl (Lexed.token refl refl (Lexed.token refl refl (Lexed.token refl refl (Lexed.token refl refl (Lexed.token refl refl (Lexed.end Lexed.done))))))))

abbrev pub source_text : (k : ℕ) → List (List Line) → List ℕ
source_text k lss = text_of array_bits ++ (functions_text 0 lss ++ (text_of main_bits ++ (calls_text 0 k ++ text_of main_end)))

abbrev pub main_tokens : ℕ → Tokens
main_tokens k = followed (text_of main_bits) (bits_tokens main_bits) (followed (calls_text 0 k) (calls_tokens 0 k) (bits_tokens main_end))

abbrev pub source_tokens : (k : ℕ) → List (List Line) → Tokens
source_tokens k lss = followed (text_of array_bits) (bits_tokens array_bits) (followed (functions_text 0 lss) (functions_tokens 0 lss) (main_tokens k))

source_spells : (k : ℕ) (lss : List (List Line)) → k ≤ 100 → length lss ≤ 100 → Spells [] (source_text k lss) (source_tokens k lss)
source_spells k lss few short =
    of_both [] (text_of array_bits) (functions_text 0 lss ++ (text_of main_bits ++ (calls_text 0 k ++ text_of main_end))) (bits_tokens array_bits) (followed (functions_text 0 lss) (functions_tokens 0 lss) (main_tokens k))
    (of_bits _ array_bits (array_lexed _))
    (of_both [] (functions_text 0 lss) (text_of main_bits ++ (calls_text 0 k ++ text_of main_end)) (functions_tokens 0 lss) (main_tokens k)
    (functions_spell 0 lss _ (omega (arith, short)))
    (of_both [] (text_of main_bits) (calls_text 0 k ++ text_of main_end) (bits_tokens main_bits) (followed (calls_text 0 k) (calls_tokens 0 k) (bits_tokens main_end))
    (of_bits _ main_bits (main_lexed _))
    (of_both [] (calls_text 0 k) (text_of main_end) (calls_tokens 0 k) (bits_tokens main_end) (calls_spell 0 k _ (omega (arith, few))) (of_bits [] main_end (main_end_lexed [])))))

-- the tokens of a source, with the end token
abbrev pub all_tokens : (bytes : List ℕ) (k : ℕ) → List (List Line) → List Token
all_tokens bytes k lss = source_tokens k lss bytes 0 (token_at bytes kinds.End (length bytes) 0 ∷ [])

source_lexes : (k : ℕ) (lss : List (List Line)) → k ≤ 100 → length lss ≤ 100 → (bytes : List ℕ) → bytes ≡ source_text k lss → Lexes bytes (all_tokens bytes k lss)
source_lexes k lss few short bytes is =
    let end : 0 + length (source_text k lss) ≡ length bytes = let e : length bytes ≡ length (source_text k lss) = ap (λ (l : List ℕ). length l) is in omega (arith, e) in
    (source_spells k lss few short).lexed bytes 0 (token_at bytes kinds.End (length bytes) 0 ∷ []) (is ∙ sym (append-nil (source_text k lss)))
    (subst (λ (n : ℕ). LexesFrom bytes n (token_at bytes kinds.End (length bytes) 0 ∷ [])) (sym end) (LexesFrom.end refl))

source_is : (seed size : ℕ) → size ≤ 10000 → (d : DrawnFunctions size 0 (function_count size) seed) → program_text seed size ≡ source_text (function_count size) d.lists
unfolding array main_opening
source_is seed size h d =
    let few : 0 + function_count size ≤ 100 = omega (arith, h) in
    append_assoc (text_of array_bits) (functions size 0 (function_count size) seed).text (main_text size)
    ∙ ap (λ (l : List ℕ). text_of array_bits ++ (l ++ main_text size)) d.text
    ∙ ap (λ (l : List ℕ). text_of array_bits ++ (functions_text 0 d.lists ++ l)) (append_assoc (text_of main_bits) (call_lines 0 (function_count size)) (text_of main_end)
    ∙ ap (λ (l : List ℕ). text_of main_bits ++ (l ++ text_of main_end)) (calls_are 0 (function_count size) few))

-- each generated source has tokens: those of its functions, and main
pub record DrawnSource (seed size : ℕ) : Type 0 where
  pub lists : List (List Line)
  pub count : length lists ≡ function_count size
  pub few : Few lists
  pub lexes : Lexes (program_text seed size) (all_tokens (program_text seed size) (function_count size) lists)

pub source_drawn : (seed size : ℕ) → size ≤ 10000 → DrawnSource seed size
source_drawn seed size h =
    let d : DrawnFunctions size 0 (function_count size) seed = functions_drawn size 0 (function_count size) seed in
    let few : function_count size ≤ 100 = omega (arith, h) in
    let is : length d.lists ≡ function_count size = d.count in
    record { lists = d.lists; count = d.count; few = d.few; lexes = source_lexes (function_count size) d.lists few (omega (arith, is, few)) (program_text seed size) (source_is seed size h d) }
