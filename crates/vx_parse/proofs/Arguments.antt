-- Rows of arguments, part by part.
use Rattle.std.proofs.Common.{◌≡◌, ◌≤◌, ◌<◌, ◌+◌, ℕ, max, List, [], ◌∷◌, ◌++◌, length, drop, Some, refl, sym, ap, ◌∙◌, subst, arith, append_assoc, append-nil}
use Rattle.vx_ast.specs.declared.syntax.Argument.{Argument}
use Rattle.vx_ast.specs.declared.syntax.Expression.{Expression}
use Rattle.vx_ast.specs.declared.token.Mark.TheVariants as marks
use Rattle.vx_ast.specs.declared.token.TokenKind.{TokenKind}
use Rattle.vx_ast.specs.declared.token.TokenKind.TheVariants as kinds
use Rattle.vx_ast.specs.declared.token.Token.{Token}
use Rattle.vx_ast.specs.Tree.{One}
use Rattle.vx_ast.specs.Syntax as syntax
use Rattle.vx_ast.specs.SyntaxView.{phrase_of, row_in}
use Rattle.vx_ast.specs.Phrases as phrases
use Rattle.vx_ast.specs.Phrases.{Phrase, Arguments, MoreExpressions, A, mark, parts_of, Derivation, Leaf, Node, NoMore, Then, Is, nothing}
use Rattle.vx_ast.specs.Derivations.{first_place, expression_of, arguments_of, arguments_in, depth_behind}
use Rattle.vx_parse.specs.declared.stop.Stop.{Stop}
use Rattle.vx_parse.specs.declared.expression.Operand.{Operand}
use Rattle.vx_parse.specs.declared.expression.Operands.{Operands}
use Rattle.vx_parse.specs.Reading.{next_kind, next_place, Ended, Stops, IsOperand, AreOperands, AreMore}
use Rattle.vx_parse.proofs.Tokens.{passes_mark}
use Rattle.vx_parse.proofs.Depths.{none_depth, then_depth, beside, is_plain_row}
use Rattle.vx_parse.proofs.Steps.{and_then, node, stops_first, stops_after, stops_quiet, Opens, stops_opened, opened}
use Rattle.vx_parse.proofs.Expressions.{same_next, empty_depth, alone_depth, operand_bound, pair_depth}
use Rattle.vx_parse.proofs.Leads.{begins_at}
use Rattle.vx_parse.proofs.Rows.{Gathers}

no_arguments_parts : {k : TokenKind} → k ≡ kinds.Mark marks.CloseParenthesis → parts_of Arguments k ≡ Some []
unfolding parts_of
no_arguments_parts e = ap (parts_of Arguments) e

arguments_parts : (k : TokenKind) → (k ≡ kinds.Mark marks.CloseParenthesis → ⊥) → parts_of Arguments k ≡ Some (A phrases.Expression ∷ A MoreExpressions ∷ [])
unfolding parts_of
arguments_parts (kinds.Mark marks.CloseParenthesis) h = absurd (h refl)
arguments_parts k h = refl

more_parts : {k : TokenKind} → k ≡ kinds.Mark marks.Comma → parts_of MoreExpressions k ≡ Some (mark marks.Comma ∷ A phrases.Expression ∷ A MoreExpressions ∷ [])
unfolding parts_of
more_parts e = ap (parts_of MoreExpressions) e

no_more_parts : (k : TokenKind) → (k ≡ kinds.Mark marks.Comma → ⊥) → parts_of MoreExpressions k ≡ Some []
unfolding parts_of
no_more_parts (kinds.Mark marks.Comma) h = absurd (h refl)
no_more_parts k h = refl

empty_tree : (p : Phrase) → arguments_of (Node p NoMore) ≡ syntax.NoMore
unfolding arguments_of arguments_in
empty_tree p = refl

first_tree : (p : Phrase) (x y : Derivation One) → arguments_of (Node p (Then x (Then y NoMore))) ≡ syntax.Then (first_place x) (expression_of x) (arguments_of y)
unfolding arguments_of arguments_in
first_tree p x y = refl

next_tree : (p : Phrase) (t x y : Derivation One) → arguments_of (Node p (Then t (Then x (Then y NoMore)))) ≡ syntax.Then (first_place x) (expression_of x) (arguments_of y)
unfolding arguments_of arguments_in
next_tree p t x y = refl

pub no_arguments : (ts : List Token) (i k : ℕ) (r : Operands) → i < length ts → k ≤ 200 → next_kind (drop i ts) ≡ kinds.Mark marks.CloseParenthesis → r.arguments.items ≡ [] → r.height ≡ 0 → r.next ≡ i
    → AreOperands Arguments ts i k r
no_arguments ts i k r h l e x z n =
    let d = empty_depth Arguments refl refl in
    record {
      derivation = Node Arguments NoMore;
      is = same_next ts (sym n) (node ts i h (no_arguments_parts e) nothing);
      tree = empty_tree Arguments ∙ sym (ap row_in x);
      height = d ∙ sym z;
      shallow = omega arith;
      further = omega arith;
      within = omega arith;
    }

pub first_stops : (ts : List Token) (i k : ℕ) (s : Stop) → i < length ts → (next_kind (drop i ts) ≡ kinds.Mark marks.CloseParenthesis → ⊥) → Stops (A phrases.Expression ∷ []) (drop i ts) ts k 0 s → Stops (A Arguments ∷ []) (drop i ts) ts k 0 s
first_stops ts i k s h n w =
    stops_quiet Arguments (A phrases.Expression ∷ A MoreExpressions ∷ []) ts i k s refl refl h (arguments_parts (next_kind (drop i ts)) n) (stops_first (A phrases.Expression) (A MoreExpressions ∷ []) (drop i ts) ts k 0 s w)

pub others_stop : (ts : List Token) (i k : ℕ) (first : Operand) (s : Stop) → i < length ts → (next_kind (drop i ts) ≡ kinds.Mark marks.CloseParenthesis → ⊥) → IsOperand phrases.Expression ts i k first
    → Stops (A MoreExpressions ∷ []) (drop first.next ts) ts k 0 s → Stops (A Arguments ∷ []) (drop i ts) ts k 0 s
others_stop ts i k first s h n a w =
    stops_quiet Arguments (A phrases.Expression ∷ A MoreExpressions ∷ []) ts i k s refl refl h (arguments_parts (next_kind (drop i ts)) n) (stops_after (A MoreExpressions ∷ []) ts k s a.is (operand_bound a) refl w)

-- an argument stands where its expression begins
pub argument_tree : {ts : List Token} {i k : ℕ} {r : Operand} (a : IsOperand phrases.Expression ts i k r) (argument : Argument) (rest : Derivation One) (row : List Argument) → i < length ts → argument.place ≡ next_place (drop i ts) → argument.expression ≡ r.expression
    → arguments_of rest ≡ row_in row → syntax.Then (first_place a.derivation) (expression_of a.derivation) (arguments_of rest) ≡ row_in (argument ∷ row)
argument_tree {ts} {i} a argument rest row h p e q =
    let x = a.derivation in
    let place : first_place x ≡ argument.place = begins_at ts i tt h a.is ∙ sym p in
    let value : expression_of x ≡ phrase_of argument.expression = a.tree ∙ sym (ap phrase_of e) in
    ap (λ z. syntax.Then z (expression_of x) (arguments_of rest)) place ∙ ap (λ z. syntax.Then argument.place z (arguments_of rest)) value ∙ ap (λ z. syntax.Then argument.place (phrase_of argument.expression) z) q

pub arguments_are : (ts : List Token) (i k : ℕ) (first : Operand) (argument : Argument) (before r : Operands) → i < length ts → (next_kind (drop i ts) ≡ kinds.Mark marks.CloseParenthesis → ⊥) → IsOperand phrases.Expression ts i k first
    → argument.place ≡ next_place (drop i ts) → argument.expression ≡ first.expression → before.arguments.items ≡ argument ∷ [] → before.height ≡ first.height → before.next ≡ first.next → AreMore before ts k r → AreOperands Arguments ts i k r
arguments_are ts i k first argument before r h n a p v e f g b =
    let x = a.derivation in let y = b.derivation in
    let mid : Is (A MoreExpressions ∷ []) (drop first.next ts) (Then y NoMore) (drop r.next ts) = subst (λ z. Is (A MoreExpressions ∷ []) (drop z ts) (Then y NoMore) (drop r.next ts)) g b.is in
    let items : r.arguments.items ≡ argument ∷ b.more = b.joined ∙ ap (λ (l : List Argument). l ++ b.more) e in
    let t1 = argument_tree a argument y b.more h p v b.tree in
    let c = pair_depth Arguments x y refl refl in
    let d0 = beside (is_plain_row refl b.is) (depth_behind 0 x) in let d1 = then_depth (depth_behind 0 x) y NoMore in let d2 = none_depth (depth_behind (depth_behind 0 x) y) in let d3 = alone_depth y in
    let f1 = a.height in let f2 = b.height in let g1 = a.further in let g2 = b.further in
    record {
      derivation = Node Arguments (Then x (Then y NoMore));
      is = node ts i h (arguments_parts (next_kind (drop i ts)) n) (and_then a.is mid);
      tree = first_tree Arguments x y ∙ t1 ∙ sym (ap row_in items);
      height = omega arith;
      shallow = b.shallow;
      further = omega arith;
      within = b.within;
    }

-- more expressions

pub gathered : (before : Operands) (ts : List Token) (k : ℕ) (all : Operands) → Gathers before ts k all → (next_kind (drop all.next ts) ≡ kinds.Mark marks.Comma → ⊥) → AreMore before ts k all
gathered before ts k all g n =
    let d = empty_depth MoreExpressions refl refl in
    let w = g.whole (Node MoreExpressions NoMore) (drop all.next ts) [] (node ts all.next g.within (no_more_parts (next_kind (drop all.next ts)) n) nothing) (empty_tree MoreExpressions) in
    let e = w.depth in
    record { derivation = w.derivation; is = w.is; more = g.more; joined = g.joined; tree = w.tree ∙ ap row_in (append-nil g.more); height = omega arith; shallow = g.shallow; further = g.further; within = g.within }

pub comma_opens : (ts : List Token) (i : ℕ) → Ended ts → i < length ts → next_kind (drop i ts) ≡ kinds.Mark marks.Comma → Opens MoreExpressions (mark marks.Comma) (A phrases.Expression ∷ A MoreExpressions ∷ []) ts i (i + 1) 0
comma_opens ts i e h k = record { passed = passes_mark ts i marks.Comma e h k; here = h; parts = more_parts k; counts = λ d. refl; plain = refl }

plus_none : (k : ℕ) → k ≡ k + 0
plus_none k = omega arith

pub next_stops : (ts : List Token) (i k : ℕ) (s : Stop) → Opens MoreExpressions (mark marks.Comma) (A phrases.Expression ∷ A MoreExpressions ∷ []) ts i (i + 1) 0 → Stops (A phrases.Expression ∷ []) (drop (i + 1) ts) ts k 0 s
    → Stops (A MoreExpressions ∷ []) (drop i ts) ts k 0 s
next_stops ts i k s o w =
    stops_opened k s o (subst (λ n. Stops (A phrases.Expression ∷ A MoreExpressions ∷ []) (drop (i + 1) ts) ts n 0 s) (plus_none k) (stops_first (A phrases.Expression) (A MoreExpressions ∷ []) (drop (i + 1) ts) ts k 0 s w))

later_stops : (ts : List Token) (i k : ℕ) (next : Operand) (s : Stop) → Opens MoreExpressions (mark marks.Comma) (A phrases.Expression ∷ A MoreExpressions ∷ []) ts i (i + 1) 0 → IsOperand phrases.Expression ts (i + 1) k next
    → Stops (A MoreExpressions ∷ []) (drop next.next ts) ts k 0 s → Stops (A MoreExpressions ∷ []) (drop i ts) ts k 0 s
later_stops ts i k next s o a w =
    stops_opened k s o (subst (λ n. Stops (A phrases.Expression ∷ A MoreExpressions ∷ []) (drop (i + 1) ts) ts n 0 s) (plus_none k) (stops_after (A MoreExpressions ∷ []) ts k s a.is (operand_bound a) refl w))

pub gathers_more : (before : Operands) (ts : List Token) (k : ℕ) (all new : Operands) (next : Operand) (argument : Argument) → Ended ts → Gathers before ts k all → next_kind (drop all.next ts) ≡ kinds.Mark marks.Comma
    → IsOperand phrases.Expression ts (all.next + 1) k next → argument.place ≡ next_place (drop (all.next + 1) ts) → argument.expression ≡ next.expression → new.arguments.items ≡ all.arguments.items ++ (argument ∷ []) → new.height ≡ max all.height next.height → new.next ≡ next.next
    → Gathers before ts k new
gathers_more before ts k all new next argument e g c a p v items height n =
    let o = comma_opens ts all.next e g.within c in
    let x = a.derivation in let t = o.passed.token in
    let f = a.further in let s1 = a.shallow in let s2 = g.shallow in let g1 = g.further in let w1 = a.within in
    record {
      more = g.more ++ (argument ∷ []);
      joined = items ∙ ap (λ (l : List Argument). l ++ (argument ∷ [])) g.joined ∙ append_assoc before.arguments.items g.more (argument ∷ []);
      whole = λ d rest ys i tree.
          let j : Is (A MoreExpressions ∷ []) (drop next.next ts) (Then d NoMore) rest = subst (λ z. Is (A MoreExpressions ∷ []) (drop z ts) (Then d NoMore) rest) n i in
          let inner = opened o (and_then a.is j) in
          let t1 = argument_tree a argument d ys o.passed.within p v tree in
          let w = g.whole (Node MoreExpressions (Then (Leaf t) (Then x (Then d NoMore)))) rest (argument ∷ ys) inner.is (next_tree MoreExpressions (Leaf t) x d ∙ t1) in
          let d0 = inner.depth in let d1 = then_depth 0 x (Then d NoMore) in let d2 = beside (is_plain_row refl j) (depth_behind 0 x) in let d3 = alone_depth d in let d4 = w.depth in let d5 = a.height in
          record { derivation = w.derivation; is = w.is; tree = w.tree ∙ ap row_in (sym (append_assoc g.more (argument ∷ []) ys)); depth = omega arith };
      stops = λ s w. g.stops s (later_stops ts all.next k next s o a (subst (λ z. Stops (A MoreExpressions ∷ []) (drop z ts) ts k 0 s) n w));
      shallow = omega arith;
      further = omega arith;
      within = omega arith;
    }

pub operands_bound : {p : Phrase} {ts : List Token} {i k : ℕ} {r : Operands} → (a : AreOperands p ts i k r) → k + depth_behind 0 a.derivation ≤ 200
operands_bound a = let e = a.height in let f = a.shallow in omega arith
