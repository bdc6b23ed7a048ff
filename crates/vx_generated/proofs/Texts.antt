-- What is drawn is a list of lines.
use Rattle.std.proofs.Common.{◌≡◌, ℕ, zero, suc, ◌+◌, ◌<◌, List, [], ◌∷◌, ◌++◌, length, refl, ap, subst, ◌∙◌, arith}
use Rattle.vx_gen.specs.Program.{filled, form_at, next_state, drawn, variable, in_expression, expression_forms, expression, in_statement, statement_forms, statement, statements}
use Rattle.vx_generated.proofs.Forms.{Variable, InA, InB, InC, InD, byte_of, Drawn, Sum, Thrice, Quotient, Remainder, Half, Alone, Line, Set, Store, Load, IfLess, Repeat, IfMore, pieces_of, text_of, line_text}
use Rattle.vx_generated.proofs.Spelling.{Tokens, Spells, followed, of_both}
use Rattle.vx_generated.proofs.Lines.{line_tokens, line_spells}
use Rattle.vx_ast.specs.Tokens.{LexesFrom}

abbrev variable_of : ℕ → Variable
variable_of zero = InA
variable_of (suc zero) = InB
variable_of (suc (suc zero)) = InC
variable_of (suc (suc (suc n))) = InD

byte_drawn : (n : ℕ) → n < 4 → 97 + n ≡ byte_of (variable_of n)
byte_drawn zero h = refl
byte_drawn (suc zero) h = refl
byte_drawn (suc (suc zero)) h = refl
byte_drawn (suc (suc (suc zero))) h = refl
byte_drawn (suc (suc (suc (suc n)))) h = absurd (omega arith)

drawn_below4 : (x : ℕ) → drawn 4 x < 4
unfolding drawn
drawn_below4 x = omega arith

drawn_below5 : (x : ℕ) → drawn 5 x < 5
unfolding drawn
drawn_below5 x = omega arith

drawn_below6 : (x : ℕ) → drawn 6 x < 6
unfolding drawn
drawn_below6 x = omega arith

abbrev at : ℕ → Variable
at x = variable_of (drawn 4 x)

variable_text : (x : ℕ) → (variable x).text ≡ byte_of (at x) ∷ []
unfolding variable
variable_text x = ap (λ (b : ℕ). b ∷ []) (byte_drawn (drawn 4 x) (drawn_below4 x))

abbrev after : ℕ → ℕ
after x = (variable x).state

expression_by : (k y : ℕ) → k < 5 → (e : Drawn) × ((filled in_expression (form_at expression_forms k) y).text ≡ text_of (pieces_of (Alone e)))
unfolding in_expression expression_forms
expression_by zero y h = (Sum (at y) (at (after y)), rw (variable_text y) (rw (variable_text (after y)) refl))
expression_by (suc zero) y h = (Thrice (at y) (at (after y)), rw (variable_text y) (rw (variable_text (after y)) refl))
expression_by (suc (suc zero)) y h = (Quotient (at y) (at (after y)), rw (variable_text y) (rw (variable_text (after y)) refl))
expression_by (suc (suc (suc zero))) y h = (Remainder (at y) (at (after y)), rw (variable_text y) (rw (variable_text (after y)) refl))
expression_by (suc (suc (suc (suc zero)))) y h = (Half (at y) (at (after y)), rw (variable_text y) (rw (variable_text (after y)) refl))
expression_by (suc (suc (suc (suc (suc k))))) y h = absurd (omega arith)

expression_text : (x : ℕ) → (e : Drawn) × ((expression x).text ≡ text_of (pieces_of (Alone e)))
unfolding expression
expression_text x = expression_by (drawn 5 x) (next_state x) (drawn_below5 x)

statement_by : (k y : ℕ) → k < 6 → (l : Line) × ((filled in_statement (form_at statement_forms k) y).text ≡ line_text l)
unfolding in_expression in_statement statement_forms
statement_by zero y h =
    let e = expression_text (after y) in
    (Set (at y) e.0, rw (variable_text y) (rw e.1 refl))
statement_by (suc zero) y h =
    let e = expression_text (after y) in
    (Store (at y) e.0, rw (variable_text y) (rw e.1 refl))
statement_by (suc (suc zero)) y h = (Load (at y) (at (after y)), rw (variable_text y) (rw (variable_text (after y)) refl))
statement_by (suc (suc (suc zero))) y h =
    let e = expression_text (after (after (after y))) in
    (IfLess (at y) (at (after y)) (at (after (after y))) e.0, rw (variable_text y) (rw (variable_text (after y)) (rw (variable_text (after (after y))) (rw e.1 refl))))
statement_by (suc (suc (suc (suc zero)))) y h =
    let e = expression_text (after (after y)) in
    (Repeat (at y) (at (after y)) e.0, rw (variable_text y) (rw (variable_text (after y)) (rw e.1 refl)))
statement_by (suc (suc (suc (suc (suc zero))))) y h =
    let z : ℕ = after (after (after y)) in
    let e = expression_text z in
    let w : ℕ = (expression z).state in
    let f = expression_text (after w) in
    (IfMore (at y) (at (after y)) (at (after (after y))) e.0 (at w) f.0, rw (variable_text y) (rw (variable_text (after y)) (rw (variable_text (after (after y))) (rw e.1 (rw (variable_text w) (rw f.1 refl))))))
statement_by (suc (suc (suc (suc (suc (suc k)))))) y h = absurd (omega arith)

statement_text : (x : ℕ) → (l : Line) × ((statement x).text ≡ line_text l)
unfolding statement
statement_text x = statement_by (drawn 6 x) (next_state x) (drawn_below6 x)

abbrev pub lines_text : List Line → List ℕ
lines_text [] = []
lines_text (l ∷ ls) = line_text l ++ lines_text ls

pub record DrawnLines (n x : ℕ) : Type 0 where
  pub lines : List Line
  pub count : length lines ≡ n
  pub text : (statements n x).text ≡ lines_text lines

pub lines_drawn : (n x : ℕ) → DrawnLines n x
lines_drawn zero x = record { lines = []; count = refl; text = refl }
lines_drawn (suc n) x =
    let l = statement_text x in
    let more : DrawnLines n (statement x).state = lines_drawn n (statement x).state in
    record {
      lines = l.0 ∷ more.lines;
      count = let e : length more.lines ≡ n = more.count in ap (λ (k : ℕ). suc k) e;
      text = ap (λ (t : List ℕ). t ++ (statements n (statement x).state).text) l.1 ∙ ap (λ (t : List ℕ). line_text l.0 ++ t) more.text;
    }

abbrev pub lines_tokens : List Line → Tokens
lines_tokens [] bytes place rest = rest
lines_tokens (l ∷ ls) bytes place rest = followed (line_text l) (line_tokens l) (lines_tokens ls) bytes place rest

pub lines_spell : (ls : List Line) (behind : List ℕ) → Spells behind (lines_text ls) (lines_tokens ls)
lines_spell [] behind = record { lexed = λ bytes place rest e l. let same : place + 0 ≡ place = omega arith in subst (λ (n : ℕ). LexesFrom bytes n rest) same l }
lines_spell (l ∷ ls) behind = of_both behind (line_text l) (lines_text ls) (line_tokens l) (lines_tokens ls) (line_spells l (lines_text ls ++ behind)) (lines_spell ls behind)
