-- A value that no fact links with others is no low half of a product.
use Rattle.std.proofs.Common.{◌≡◌, ℕ, Bool, true, false, ◌&&◌, ◌||◌, ◌==◌, List, [], ◌∷◌, None, refl, ap, ◌∙◌}
use Rattle.std.specs.List.{list_any}
use Rattle.std.proofs.lemmas.Bool.{true≢false}
use Rattle.vx_base.specs.declared.arithmetic.Code.{Code}
use Rattle.vx_base.specs.declared.arithmetic.Code.TheVariants.{Add, Sub, And, Or, Xor, Shl, Shr, Shru, Sh2add, Max, Min, Mov, ToGeneral, ToBranch, Mpylu, Mpyhs, Div, Rem}
use Rattle.vx_flow.specs.declared.graph.Operand.{Operand}
use Rattle.vx_claims.specs.declared.fact.Fact.{Fact}
use Rattle.vx_claims.specs.declared.fact.Fact.TheVariants.{Between, Congruent, Equals, Never}
use Rattle.vx_claims.specs.Marking.{is_link, links}
use Rattle.vx_narrow.specs.Shortening.{factors_if, factors_of, is_low}

first_fails : (x y : Bool) → (x || y) ≡ false → x ≡ false
first_fails true y h = h
first_fails false y h = refl

second_fails : (x y : Bool) → (x || y) ≡ false → y ≡ false
second_fails true y h = absurd (true≢false h)
second_fails false y h = h

no_low : (v u : ℕ) (code : Code) (b : Operand) → (is_link code b && (u == v)) ≡ false → is_low v u code ≡ false
no_low v u Mpylu b h = h
no_low v u Mov b h = refl
no_low v u Add b h = refl
no_low v u Sub b h = refl
no_low v u And b h = refl
no_low v u Or b h = refl
no_low v u Xor b h = refl
no_low v u Shl b h = refl
no_low v u Shr b h = refl
no_low v u Shru b h = refl
no_low v u Sh2add b h = refl
no_low v u Max b h = refl
no_low v u Min b h = refl
no_low v u (ToGeneral c) b h = refl
no_low v u (ToBranch c) b h = refl
no_low v u Mpyhs b h = refl
no_low v u Div b h = refl
no_low v u Rem b h = refl

pub unlinked_factors : (fs : List Fact) (v : ℕ) → list_any (links v) fs ≡ false → factors_of fs v ≡ None
unlinked_factors [] v h = refl
unlinked_factors (Between u i ∷ fs) v h = unlinked_factors fs v (second_fails (u == v) (list_any (links v) fs) h)
unlinked_factors (Congruent u c ∷ fs) v h = unlinked_factors fs v (second_fails (u == v) (list_any (links v) fs) h)
unlinked_factors (Never ∷ fs) v h = unlinked_factors fs v h
unlinked_factors (Equals u code a b ∷ fs) v h =
    let t : is_low v u code ≡ false = no_low v u code b (first_fails (is_link code b && (u == v)) (list_any (links v) fs) h) in
    ap (λ (s : Bool). factors_if s a b (factors_of fs v)) t ∙ unlinked_factors fs v (second_fails (is_link code b && (u == v)) (list_any (links v) fs) h)
