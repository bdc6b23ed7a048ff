-- The whole unrolled program: each name is in force and of its kind.
use Rattle.std.proofs.Common.{◌≡◌, ℕ, zero, suc, Bool, true, false, ◌&&◌, List, Option, Some, None, slice_get, refl, sym, ap, ◌∙◌}
use Rattle.vx_ast.specs.declared.tree.Gives.{Gives}
use Rattle.vx_ast.specs.declared.tree.Gives.TheVariants.{Int as GivesInt, Nothing as GivesNothing}
use Rattle.vx_ast.specs.declared.tree.Takes.{Takes}
use Rattle.vx_ast.specs.Tree.{Shape, One, Tree, Literal, Local, Global, Element, Unary, Binary, Both, Either, Choice, Apply, ReadInt, MoreInput, NoMore, Then, Hand, Place, InLocal, InGlobal, InElement, Action, Evaluate, Assign, Compound, Increase, Decrease, Code, Nothing, Seq, Empty, Block, Clear, Declare, ClearArray, Simply, Head, Print, If, IfElse, While, DoWhile, For, Break, Continue, Return, ReturnValue, Function, Program}
use Rattle.vx_ast.specs.Accepted.{Scope, row_length, has_numbers, takes_of_row, can_call, gives_int, is_format, numbers_of, suits, suits_place, suits_whole, suits_action, suits_test, suits_code, scope_after, in_force_at_start}
use Rattle.std.specs.Prelude.{nat_eq}
use Rattle.vx_unroll.specs.Laws.{Unrolls, AllUnroll, NoneLeft, AndMore}
use Rattle.vx_unroll.proofs.Suited.{suits_unrolled}

and_same : {a b c d : Bool} → a ≡ c → b ≡ d → (a && b) ≡ (c && d)
and_same {a} {b} {c} {d} e h = ap (λ (x : Bool). x && b) e ∙ ap (λ (x : Bool). c && x) h

call_same : {k : ℕ} {fs gs : List Function} → AllUnroll k fs gs → (wanted : Gives → Bool) (takes : List Takes) (i : ℕ) → can_call wanted takes (slice_get fs i) ≡ can_call wanted takes (slice_get gs i)
call_same NoneLeft wanted takes i = refl
call_same (AndMore f body fs gs u all) wanted takes zero = refl
call_same (AndMore f body fs gs u all) wanted takes (suc i) = call_same all wanted takes i

module _ (k : ℕ) (p : Program) (functions : List Function) (all : AllUnroll k p.functions functions) where
  abbrev after : Program
  after = record p { functions = functions }

  suits_same : {shape : Shape} (sc : Scope) (e : Tree shape) → suits p sc e ≡ suits after sc e
  suits_same sc (Literal z) = refl
  suits_same sc (Local x) = refl
  suits_same sc (Global a) = refl
  suits_same sc (Element a i) = and_same refl (suits_same sc i)
  suits_same sc (Unary operator a) = suits_same sc a
  suits_same sc (Binary operator a b) = and_same (suits_same sc a) (suits_same sc b)
  suits_same sc (Both a b) = and_same (suits_same sc a) (suits_same sc b)
  suits_same sc (Either a b) = and_same (suits_same sc a) (suits_same sc b)
  suits_same sc (Choice c a b) = and_same (suits_same sc c) (and_same (suits_same sc a) (suits_same sc b))
  suits_same sc (Apply f row) = and_same (call_same all gives_int (takes_of_row row) f) (suits_same sc row)
  suits_same sc ReadInt = refl
  suits_same sc MoreInput = refl
  suits_same sc NoMore = refl
  suits_same sc (Then a rest) = and_same (suits_same sc a) (suits_same sc rest)
  suits_same sc (Hand a rest) = and_same refl (suits_same sc rest)

  whole_same : (sc : Scope) (e : Tree One) → suits_whole p sc e ≡ suits_whole after sc e
  whole_same sc (Apply f row) = and_same (call_same all (λ gives. true) (takes_of_row row) f) (suits_same sc row)
  whole_same sc (Literal z) = refl
  whole_same sc (Local x) = refl
  whole_same sc (Global a) = refl
  whole_same sc (Element a i) = suits_same sc (Element a i)
  whole_same sc (Unary operator a) = suits_same sc a
  whole_same sc (Binary operator a b) = suits_same sc (Binary operator a b)
  whole_same sc (Both a b) = suits_same sc (Both a b)
  whole_same sc (Either a b) = suits_same sc (Either a b)
  whole_same sc (Choice c a b) = suits_same sc (Choice c a b)
  whole_same sc ReadInt = refl
  whole_same sc MoreInput = refl

  place_same : (sc : Scope) (t : Place) → suits_place p sc t ≡ suits_place after sc t
  place_same sc (InLocal x) = refl
  place_same sc (InGlobal a) = refl
  place_same sc (InElement a i) = and_same refl (suits_same sc i)

  action_same : (sc : Scope) (a : Action) → suits_action p sc a ≡ suits_action after sc a
  action_same sc (Evaluate e) = whole_same sc e
  action_same sc (Assign t e) = and_same (place_same sc t) (suits_same sc e)
  action_same sc (Compound t operator e) = and_same (place_same sc t) (suits_same sc e)
  action_same sc (Increase t) = place_same sc t
  action_same sc (Decrease t) = place_same sc t

  test_same : (sc : Scope) (test : Option (Tree One)) → suits_test p sc test ≡ suits_test after sc test
  test_same sc None = refl
  test_same sc (Some e) = suits_same sc e

  value_same : (gives : Gives) (loops : Bool) (sc : Scope) (e : Tree One) → suits_code p gives loops sc (ReturnValue e) ≡ suits_code after gives loops sc (ReturnValue e)
  value_same GivesInt loops sc e = suits_same sc e
  value_same GivesNothing loops sc e = refl

  return_same : (gives : Gives) (loops : Bool) (sc : Scope) → suits_code p gives loops sc Return ≡ suits_code after gives loops sc Return
  return_same GivesInt loops sc = refl
  return_same GivesNothing loops sc = refl

  code_same : (gives : Gives) (loops : Bool) (sc : Scope) (c : Code) → suits_code p gives loops sc c ≡ suits_code after gives loops sc c
  code_same gives loops sc Nothing = refl
  code_same gives loops sc (Seq a b) = and_same (code_same gives loops sc a) (code_same gives loops (scope_after a sc) b)
  code_same gives loops sc Empty = refl
  code_same gives loops sc (Block a) = code_same gives loops sc a
  code_same gives loops sc (Clear x) = refl
  code_same gives loops sc (Declare x e) = suits_same sc e
  code_same gives loops sc (ClearArray a) = refl
  code_same gives loops sc (Simply a) = action_same sc a
  code_same gives loops sc (Head a) = action_same sc a
  code_same gives loops sc (Print format row) = and_same {a = is_format format && (nat_eq (numbers_of format) (row_length row) && has_numbers row)} refl (suits_same sc row)
  code_same gives loops sc (If e a) = and_same (suits_same sc e) (code_same gives loops sc a)
  code_same gives loops sc (IfElse e a b) = and_same (suits_same sc e) (and_same (code_same gives loops sc a) (code_same gives loops sc b))
  code_same gives loops sc (While e a) = and_same (suits_same sc e) (code_same gives true sc a)
  code_same gives loops sc (DoWhile a e) = and_same (code_same gives true sc a) (suits_same sc e)
  code_same gives loops sc (For first test step a) =
      and_same (code_same gives loops sc first) (and_same (test_same (scope_after first sc) test) (and_same (code_same gives loops (scope_after first sc) step) (code_same gives true (scope_after first sc) a)))
  code_same gives loops sc Break = refl
  code_same gives loops sc Continue = refl
  code_same gives loops sc Return = return_same gives loops sc
  code_same gives loops sc (ReturnValue e) = value_same gives loops sc e

  -- a function's body in the program behind
  pub body_suits : (f : Function) (body : Code) → Unrolls k f.body body → suits_code p f.gives false (in_force_at_start p f) f.body ≡ true → suits_code after f.gives false (in_force_at_start p f) body ≡ true
  body_suits f body u e = sym (code_same f.gives false (in_force_at_start p f) body) ∙ suits_unrolled p f.gives u false (in_force_at_start p f) e
