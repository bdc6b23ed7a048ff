-- Each name in unrolled code is in force and of its kind, as before.
use Rattle.std.proofs.Common.{◌≡◌, ℕ, zero, suc, Bool, true, false, ◌&&◌, Option, Some, None, refl, sym, ap, ◌∙◌, subst}
use Rattle.vx_ast.specs.declared.tree.Gives.{Gives}
use Rattle.vx_ast.specs.Tree.{One, Tree, Action, Code, Block, Program}
use Rattle.vx_ast.specs.Accepted.{Scope, suits, suits_action, suits_test, suits_code, scope_after}
use Rattle.vx_unroll.specs.Unrolling.{block_of, step_before, test_before, turns_of}
use Rattle.vx_unroll.specs.Laws.{step_code, Unrolls, Kept, InSeq, InBlock, InIf, InIfElse, InWhile, InDoWhile, InFor, AWhile, AFor}

both : (a b : Bool) → a ≡ true → b ≡ true → (a && b) ≡ true
both true b e h = h
both false b e h = e

one : (a b : Bool) → (a && b) ≡ true → a ≡ true
one true b e = refl
one false b e = e

two : (a b : Bool) → (a && b) ≡ true → b ≡ true
two true b e = e
two false b e = let h : false ≡ true = e in cc

and_true : (b : Bool) → (b && true) ≡ b
and_true true = refl
and_true false = refl

module _ (p : Program) (gives : Gives) where
  suits_step : (loops : Bool) (sc : Scope) (step : Option Action) (rest : Code) → suits_code p gives loops sc (step_code step) ≡ true → suits_code p gives true sc rest ≡ true → suits_code p gives true sc (step_before step rest) ≡ true
  suits_step loops sc None rest e h = h
  suits_step loops sc (Some s) rest e h = both (suits_action p sc s) (suits_code p gives true sc rest) e h

  suits_tested : (sc : Scope) (test : Option (Tree One)) (rest : Code) → suits_test p sc test ≡ true → suits_code p gives true sc rest ≡ true → suits_code p gives true sc (test_before test rest) ≡ true
  suits_tested sc None rest e h = h
  suits_tested sc (Some c) rest e h = both (suits p sc c && true) (suits_code p gives true sc rest) (both (suits p sc c) true e refl) h

  suits_block : (loops : Bool) (sc : Scope) (a : Code) → suits_code p gives loops sc (block_of a) ≡ suits_code p gives loops sc a
  suits_block loops sc (Block a) = refl
  suits_block loops sc a = and_true (suits_code p gives loops sc a)

  block_scope : (sc : Scope) (a : Code) → scope_after (block_of a) sc ≡ sc
  block_scope sc (Block a) = refl
  block_scope sc a = refl

  suits_turns : (loops : Bool) (sc : Scope) (test : Option (Tree One)) (step : Option Action) (a : Code) (k : ℕ) → suits_test p sc test ≡ true → suits_code p gives loops sc (step_code step) ≡ true → suits_code p gives true sc a ≡ true → suits_code p gives true sc (turns_of k test step a) ≡ true
  suits_turns loops sc test step a zero t s h = both (suits_code p gives true sc (block_of a)) true (suits_block true sc a ∙ h) refl
  suits_turns loops sc test step a (suc k) t s h =
      both (suits_code p gives true sc (block_of a)) (suits_code p gives true (scope_after (block_of a) sc) (step_before step (test_before test (turns_of k test step a)))) (suits_block true sc a ∙ h)
      (subst (λ (z : Scope). suits_code p gives true z (step_before step (test_before test (turns_of k test step a))) ≡ true) (sym (block_scope sc a))
      (suits_step loops sc step (test_before test (turns_of k test step a)) s (suits_tested sc test (turns_of k test step a) t (suits_turns loops sc test step a k t s h))))

  after_same : {k : ℕ} {c d : Code} → Unrolls k c d → (sc : Scope) → scope_after c sc ≡ scope_after d sc
  after_same (Kept c) sc = refl
  after_same (InSeq a b c d u v) sc = ap (λ (x : Scope). scope_after b x) (after_same u sc) ∙ after_same v (scope_after c sc)
  after_same (InBlock a c u) sc = refl
  after_same (InIf e a c u) sc = refl
  after_same (InIfElse e a b c d u v) sc = refl
  after_same (InWhile e a c u) sc = refl
  after_same (InDoWhile e a c u) sc = refl
  after_same (InFor first test step a c u) sc = refl
  after_same (AWhile e a) sc = refl
  after_same (AFor first test step a) sc = refl

  pub suits_unrolled : {k : ℕ} {c d : Code} → Unrolls k c d → (loops : Bool) (sc : Scope) → suits_code p gives loops sc c ≡ true → suits_code p gives loops sc d ≡ true
  suits_unrolled (Kept c) loops sc e = e
  suits_unrolled (InSeq a b c d u v) loops sc e =
      let x = one (suits_code p gives loops sc a) (suits_code p gives loops (scope_after a sc) b) e in
      let y = two (suits_code p gives loops sc a) (suits_code p gives loops (scope_after a sc) b) e in
      both (suits_code p gives loops sc c) (suits_code p gives loops (scope_after c sc) d) (suits_unrolled u loops sc x)
      (suits_unrolled v loops (scope_after c sc) (subst (λ (z : Scope). suits_code p gives loops z b ≡ true) (after_same u sc) y))
  suits_unrolled (InBlock a c u) loops sc e = suits_unrolled u loops sc e
  suits_unrolled (InIf t a c u) loops sc e = both (suits p sc t) (suits_code p gives loops sc c) (one (suits p sc t) (suits_code p gives loops sc a) e) (suits_unrolled u loops sc (two (suits p sc t) (suits_code p gives loops sc a) e))
  suits_unrolled (InIfElse t a b c d u v) loops sc e =
      let x = two (suits p sc t) (suits_code p gives loops sc a && suits_code p gives loops sc b) e in
      both (suits p sc t) (suits_code p gives loops sc c && suits_code p gives loops sc d) (one (suits p sc t) (suits_code p gives loops sc a && suits_code p gives loops sc b) e)
      (both (suits_code p gives loops sc c) (suits_code p gives loops sc d) (suits_unrolled u loops sc (one (suits_code p gives loops sc a) (suits_code p gives loops sc b) x)) (suits_unrolled v loops sc (two (suits_code p gives loops sc a) (suits_code p gives loops sc b) x)))
  suits_unrolled (InWhile t a c u) loops sc e = both (suits p sc t) (suits_code p gives true sc c) (one (suits p sc t) (suits_code p gives true sc a) e) (suits_unrolled u true sc (two (suits p sc t) (suits_code p gives true sc a) e))
  suits_unrolled (InDoWhile t a c u) loops sc e = both (suits_code p gives true sc c) (suits p sc t) (suits_unrolled u true sc (one (suits_code p gives true sc a) (suits p sc t) e)) (two (suits_code p gives true sc a) (suits p sc t) e)
  suits_unrolled (InFor first test step a c u) loops sc e =
      let inner : Scope = scope_after first sc in
      let last : Bool = suits_code p gives loops inner step && suits_code p gives true inner a in
      let x = two (suits_code p gives loops sc first) (suits_test p inner test && last) e in
      let y = two (suits_test p inner test) last x in
      both (suits_code p gives loops sc first) (suits_test p inner test && (suits_code p gives loops inner step && suits_code p gives true inner c)) (one (suits_code p gives loops sc first) (suits_test p inner test && last) e)
      (both (suits_test p inner test) (suits_code p gives loops inner step && suits_code p gives true inner c) (one (suits_test p inner test) last x)
      (both (suits_code p gives loops inner step) (suits_code p gives true inner c) (one (suits_code p gives loops inner step) (suits_code p gives true inner a) y) (suits_unrolled u true inner (two (suits_code p gives loops inner step) (suits_code p gives true inner a) y))))
  suits_unrolled {k} (AWhile t a) loops sc e =
      let x = one (suits p sc t) (suits_code p gives true sc a) e in
      both (suits p sc t) (suits_code p gives true sc (turns_of k (Some t) None a)) x (suits_turns true sc (Some t) None a k x refl (two (suits p sc t) (suits_code p gives true sc a) e))
  suits_unrolled {k} (AFor first test step a) loops sc e =
      let inner : Scope = scope_after first sc in
      let st : Bool = suits_code p gives loops inner (step_code step) in
      let last : Bool = st && suits_code p gives true inner a in
      let x = two (suits_code p gives loops sc first) (suits_test p inner test && last) e in
      let y = two (suits_test p inner test) last x in
      let t = one (suits_test p inner test) last x in
      let s = one st (suits_code p gives true inner a) y in
      both (suits_code p gives loops sc first) (suits_test p inner test && (st && suits_code p gives true inner (turns_of k test step a))) (one (suits_code p gives loops sc first) (suits_test p inner test && last) e)
      (both (suits_test p inner test) (st && suits_code p gives true inner (turns_of k test step a)) t
      (both st (suits_code p gives true inner (turns_of k test step a)) s (suits_turns loops inner test step a k t s (two st (suits_code p gives true inner a) y))))
