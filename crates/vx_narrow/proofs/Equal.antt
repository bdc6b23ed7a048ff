-- Equal expressions: what the tests say.
use Rattle.std.proofs.Common.{◌≡◌, ℕ, ◌==◌, Bool, true, false, ◌&&◌, ◌||◌, List, [], ◌∷◌, Option, Some, refl, sym, ap, ◌∙◌}
use Rattle.std.proofs.lemmas.Bool.{eqb-true, false≢true}
use Rattle.vx_base.proofs.ArithmeticLaws.{equal-true}
use Rattle.vx_base.specs.declared.arithmetic.Compare.{Compare}
use Rattle.vx_base.specs.declared.arithmetic.Compare.TheVariants.{Eq, Ne, Lt, Le, Gt, Ge, Ltu, Geu}
use Rattle.vx_base.specs.declared.arithmetic.Code.{Code}
use Rattle.vx_base.specs.declared.arithmetic.Code.TheVariants.{Add, Sub, And, Or, Xor, Shl, Shr, Shru, Sh2add, Max, Min, Mov, ToGeneral, ToBranch, Mpylu, Mpyhs, Div, Rem}
use Rattle.vx_flow.specs.declared.graph.Operand.{Operand}
use Rattle.vx_flow.specs.declared.graph.Operand.TheVariants.{Held, Number}
use Rattle.vx_flow.specs.Effects.{Content, computed}
use Rattle.vx_claims.specs.declared.fact.Fact.{Fact}
use Rattle.vx_claims.specs.declared.fact.Fact.TheVariants.{Between, Congruent, Equals, Never}
use Rattle.vx_claims.specs.Facts.{content, Holds, AllHold, same_compare, same_code, same_operand, is_claimed, has_equals, found_if, found}
use Rattle.vx_narrow.proofs.Ranges.{and_one, and_two}

compare_is : (c d : Compare) → same_compare c d ≡ true → c ≡ d
compare_is Eq Eq e = refl
compare_is Ne Ne e = refl
compare_is Lt Lt e = refl
compare_is Le Le e = refl
compare_is Gt Gt e = refl
compare_is Ge Ge e = refl
compare_is Ltu Ltu e = refl
compare_is Geu Geu e = refl
compare_is c d e = absurd (false≢true e)

pub code_is : (c d : Code) → same_code c d ≡ true → c ≡ d
code_is Add Add e = refl
code_is Sub Sub e = refl
code_is And And e = refl
code_is Or Or e = refl
code_is Xor Xor e = refl
code_is Shl Shl e = refl
code_is Shr Shr e = refl
code_is Shru Shru e = refl
code_is Sh2add Sh2add e = refl
code_is Max Max e = refl
code_is Min Min e = refl
code_is Mov Mov e = refl
code_is Mpylu Mpylu e = refl
code_is Mpyhs Mpyhs e = refl
code_is Div Div e = refl
code_is Rem Rem e = refl
code_is (ToGeneral c) (ToGeneral d) e = ap ToGeneral (compare_is c d e)
code_is (ToBranch c) (ToBranch d) e = ap ToBranch (compare_is c d e)
code_is c d e = absurd (false≢true e)

pub operand_is : (x y : Operand) → same_operand x y ≡ true → x ≡ y
operand_is (Held u) (Held v) e = ap Held (eqb-true u v e)
operand_is (Number m) (Number n) e = ap Number (equal-true m n e)
operand_is x y e = absurd (false≢true e)

module _ (values : ℕ → Content) where
  same_holds : (u v : ℕ) (c d : Code) (a b a' b' : Operand) → u ≡ v → c ≡ d → a ≡ a' → b ≡ b' → Holds values (Equals u c a b) → Holds values (Equals v d a' b')
  same_holds u v c d a b a' b' p q r s h =
      sym (ap values p) ∙ h ∙ ap (λ k. computed k (content values a) (content values b)) q ∙ ap (λ x. computed d (content values x) (content values b)) r ∙ ap (λ x. computed d (content values a') (content values x)) s

  claimed_holds : (v : ℕ) (code : Code) (a b : Operand) (f : Fact) → is_claimed v code a b f ≡ true → Holds values f → Holds values (Equals v code a b)
  claimed_holds v code a b (Between u i) e h = absurd (cc)
  claimed_holds v code a b (Congruent u c) e h = absurd (cc)
  claimed_holds v code a b Never e h = absurd h
  claimed_holds v code a b (Equals u c x y) e h =
      let e1 = and_one ((u == v) && same_code c code) (same_operand x a && same_operand y b) e in
      let e2 = and_two ((u == v) && same_code c code) (same_operand x a && same_operand y b) e in
      same_holds u v c code x y a b (eqb-true u v (and_one (u == v) (same_code c code) e1)) (code_is c code (and_two (u == v) (same_code c code) e1))
      (operand_is x a (and_one (same_operand x a) (same_operand y b) e2)) (operand_is y b (and_two (same_operand x a) (same_operand y b) e2)) h

  or_either : {X : Type 0} (s t : Bool) → (s || t) ≡ true → (s ≡ true → X) → (t ≡ true → X) → X
  or_either true t e h k = h refl
  or_either false t e h k = k e

  pub has_holds : (fs : List Fact) (v : ℕ) (code : Code) (a b : Operand) → AllHold values fs → has_equals fs v code a b ≡ true → Holds values (Equals v code a b)
  has_holds [] v code a b h e = absurd (cc)
  has_holds (f ∷ fs) v code a b h e = or_either (is_claimed v code a b f) (has_equals fs v code a b) e (λ q. claimed_holds v code a b f q h.0) (λ q. has_holds fs v code a b h.1 q)

  found_by : (t : Bool) (u w : ℕ) (o : Option ℕ) (c : Content) → found_if t u o ≡ Some w → (t ≡ true → values u ≡ c) → (o ≡ Some w → values w ≡ c) → values w ≡ c
  found_by true u w o c e h k = let q : u ≡ w = cc in sym (ap values q) ∙ h refl
  found_by false u w o c e h k = k e

  pub found_holds : (fs : List Fact) (code : Code) (a b : Operand) (w : ℕ) → AllHold values fs → found fs code a b ≡ Some w → values w ≡ computed code (content values a) (content values b)
  found_holds [] code a b w h e = absurd (cc)
  found_holds (Between u i ∷ fs) code a b w h e = found_holds fs code a b w h.1 e
  found_holds (Congruent u c ∷ fs) code a b w h e = found_holds fs code a b w h.1 e
  found_holds (Never ∷ fs) code a b w h e = absurd h.0
  found_holds (Equals u c x y ∷ fs) code a b w h e =
      found_by (same_code c code && (same_operand x a && same_operand y b)) u w (found fs code a b) (computed code (content values a) (content values b)) e
      (λ t. let t1 = and_one (same_code c code) (same_operand x a && same_operand y b) t in
      let t2 = and_two (same_code c code) (same_operand x a && same_operand y b) t in
      same_holds u u c code x y a b refl (code_is c code t1) (operand_is x a (and_one (same_operand x a) (same_operand y b) t2)) (operand_is y b (and_two (same_operand x a) (same_operand y b) t2)) h.0)
      (found_holds fs code a b w h.1)
