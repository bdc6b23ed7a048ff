-- A mask that looks further back lets through what the mask it stands for does.
use Rattle.std.proofs.Common.{◌≡◌, ℕ, zero, suc, ◌^◌, ◌<◌, ◌==◌, Bool, true, false, ℤ, pos, bit_and, bit_or, bit_xor, List, [], ◌∷◌, Option, Some, None, refl, sym, ap, ◌∙◌, subst, arith, lit<}
use Rattle.std.specs.Ordering.{int_eq}
use Rattle.std.proofs.Math.Nat.{mod-eq_of_lt}
use Rattle.std.proofs.lemmas.Nat.{and_le_l, and_comm, or_comm, xor_comm, and_assoc, and_or_apart, and_xor_apart, or_of_32, xor_of_32}
use Rattle.std.proofs.lemmas.Bool.{eqb-true}
use Rattle.vx_base.specs.Arithmetic.{wrap, unsigned, value_of, and_of, or_of, xor_of}
use Rattle.vx_base.specs.declared.arithmetic.Code.{Code}
use Rattle.vx_base.specs.declared.arithmetic.Code.TheVariants.{And, Or, Xor}
use Rattle.vx_base.proofs.WrapLaws.{unsigned_below, unsigned-wrap, unsigned-pos}
use Rattle.vx_base.proofs.ArithmeticLaws.{equal-true}
use Rattle.vx_flow.specs.declared.graph.Operand.{Operand}
use Rattle.vx_flow.specs.declared.graph.Operand.TheVariants.{Held, Number, Stack}
use Rattle.vx_flow.specs.declared.graph.Op.{Op}
use Rattle.vx_flow.specs.declared.graph.Op.TheVariants.{Compute}
use Rattle.vx_flow.specs.Effects.{Content, State, Setting, computed, with_value, effect}
use Rattle.vx_claims.specs.declared.fact.Fact.{Fact}
use Rattle.vx_claims.specs.declared.fact.Fact.TheVariants.{Between, Congruent, Equals, Never}
use Rattle.vx_claims.specs.Facts.{content, Holds, AllHold}
use Rattle.vx_narrow.specs.declared.one_mask.Masked.{Masked}
use Rattle.vx_narrow.specs.Masking.{masked_of, mask_if, mask_behind, with_mask, masked_with, found_or, found_if, behind_of, masked_or, far_behind, mask_as, far_mask}

-- ---- bits

bits_of_small : (n : ℕ) → n < 2 ^ 32 → unsigned (wrap (pos n)) ≡ n
bits_of_small n h = unsigned-wrap (pos n) ∙ unsigned-pos n ∙ mod-eq_of_lt h

bits_and : (a b : ℤ) → unsigned (and_of a b) ≡ bit_and (unsigned a) (unsigned b)
unfolding and_of
bits_and a b = bits_of_small (bit_and (unsigned a) (unsigned b)) (omega (arith, and_le_l (unsigned a) (unsigned b), unsigned_below a))

bits_or : (a b : ℤ) → unsigned (or_of a b) ≡ bit_or (unsigned a) (unsigned b)
unfolding or_of
bits_or a b = bits_of_small (bit_or (unsigned a) (unsigned b)) (or_of_32 (unsigned a) (unsigned b) (unsigned_below a) (unsigned_below b))

bits_xor : (a b : ℤ) → unsigned (xor_of a b) ≡ bit_xor (unsigned a) (unsigned b)
unfolding xor_of
bits_xor a b = bits_of_small (bit_xor (unsigned a) (unsigned b)) (xor_of_32 (unsigned a) (unsigned b) (unsigned_below a) (unsigned_below b))

-- numbers of which a mask lets through the same bits
same_bits : (a b m n : ℤ) → bit_and (unsigned a) (unsigned m) ≡ bit_and (unsigned b) (unsigned n) → and_of a m ≡ and_of b n
unfolding and_of
same_bits a b m n e = ap (λ k. wrap (pos k)) e

none_through : (c m : ℤ) → int_eq (value_of And c m) (pos 0) ≡ true → bit_and (unsigned c) (unsigned m) ≡ 0
none_through c m e = sym (bits_and c m) ∙ ap unsigned (equal-true (and_of c m) (pos 0) e) ∙ unsigned-pos 0

behind_and : (z c m : ℤ) → and_of (and_of z c) m ≡ and_of z (and_of c m)
behind_and z c m =
    same_bits (and_of z c) z m (and_of c m)
    (ap (λ k. bit_and k (unsigned m)) (bits_and z c) ∙ and_assoc (unsigned m) (unsigned z) (unsigned c) ∙ sym (ap (bit_and (unsigned z)) (bits_and c m)))

behind_or : (z c m : ℤ) → int_eq (value_of And c m) (pos 0) ≡ true → and_of (or_of z c) m ≡ and_of z m
behind_or z c m e =
    same_bits (or_of z c) z m m (ap (λ k. bit_and k (unsigned m)) (bits_or z c) ∙ and_or_apart (unsigned m) (unsigned z) (unsigned c) (none_through c m e))

behind_xor : (z c m : ℤ) → int_eq (value_of And c m) (pos 0) ≡ true → and_of (xor_of z c) m ≡ and_of z m
behind_xor z c m e =
    same_bits (xor_of z c) z m m (ap (λ k. bit_and k (unsigned m)) (bits_xor z c) ∙ and_xor_apart (unsigned m) (unsigned z) (unsigned c) (none_through c m e))

-- ---- the mask behind

if_is : (t : Bool) (m k : ℤ) → mask_if t m ≡ Some k → (t ≡ true) × (m ≡ k)
if_is true m k e = (refl, cc)
if_is false m k e = absurd (cc)

behind_is : (code : Code) (z c m k : ℤ) → mask_behind code c m ≡ Some k → and_of (value_of code z c) m ≡ and_of z k
behind_is And z c m k e = let q : value_of And c m ≡ k = cc in behind_and z c m ∙ ap (and_of z) q
behind_is Or z c m k e = let h = if_is (int_eq (value_of And c m) (pos 0)) m k e in behind_or z c m h.0 ∙ ap (and_of z) h.1
behind_is Xor z c m k e = let h = if_is (int_eq (value_of And c m) (pos 0)) m k e in behind_xor z c m h.0 ∙ ap (and_of z) h.1
behind_is code z c m k e = absurd (cc)

turned : (code : Code) (z c m k : ℤ) → mask_behind code c m ≡ Some k → value_of code c z ≡ value_of code z c
unfolding and_of or_of xor_of
turned And z c m k e = ap (λ n. wrap (pos n)) (and_comm (unsigned c) (unsigned z))
turned Or z c m k e = ap (λ n. wrap (pos n)) (or_comm (unsigned c) (unsigned z))
turned Xor z c m k e = ap (λ n. wrap (pos n)) (xor_comm (unsigned c) (unsigned z))
turned code z c m k e = absurd (cc)

abbrev under : Content → ℤ → Content
under y m = computed And y (Some m)

through_right : (code : Code) (y : Content) (c m k : ℤ) → mask_behind code c m ≡ Some k → under (computed code y (Some c)) m ≡ under y k
through_right And None c m k e = refl
through_right And (Some z) c m k e = ap Some (behind_is And z c m k e)
through_right Or None c m k e = refl
through_right Or (Some z) c m k e = ap Some (behind_is Or z c m k e)
through_right Xor None c m k e = refl
through_right Xor (Some z) c m k e = ap Some (behind_is Xor z c m k e)
through_right code y c m k e = absurd (cc)

through_left : (code : Code) (y : Content) (c m k : ℤ) → mask_behind code c m ≡ Some k → under (computed code (Some c) y) m ≡ under y k
through_left And None c m k e = refl
through_left And (Some z) c m k e = ap Some (ap (λ n. and_of n m) (turned And z c m k e) ∙ behind_is And z c m k e)
through_left Or None c m k e = refl
through_left Or (Some z) c m k e = ap Some (ap (λ n. and_of n m) (turned Or z c m k e) ∙ behind_is Or z c m k e)
through_left Xor None c m k e = refl
through_left Xor (Some z) c m k e = ap Some (ap (λ n. and_of n m) (turned Xor z c m k e) ∙ behind_is Xor z c m k e)
through_left code y c m k e = absurd (cc)

-- ---- what a fact tells

module _ (values : ℕ → Content) where
  -- mask m of content y is what x stands for
  abbrev Is : Content → ℤ → Masked → Type 0
  Is y m x = under y m ≡ under (values x.value) x.number

  with_is : (u : ℕ) (o : Option ℤ) (y : Content) (m : ℤ) (x : Masked) → with_mask u o ≡ Some x → ((k : ℤ) → o ≡ Some k → under y m ≡ under (values u) k) → Is y m x
  with_is u None y m x e h = absurd (cc)
  with_is u (Some k) y m x e h = let made : Masked = record { value = u; number = k } in let is : made ≡ x = cc in subst (λ (z : Masked). under y m ≡ under (values z.value) z.number) is (h k refl)

  operands_tell : (code : Code) (a b : Operand) (m : ℤ) (x : Masked) → masked_with (masked_of a b) code m ≡ Some x → Is (computed code (content values a) (content values b)) m x
  operands_tell code (Held u) (Number c) m x e = with_is u (mask_behind code c m) (computed code (values u) (Some c)) m x e (λ k q. through_right code (values u) c m k q)
  operands_tell code (Number c) (Held u) m x e = with_is u (mask_behind code c m) (computed code (Some c) (values u)) m x e (λ k q. through_left code (values u) c m k q)
  operands_tell code (Held u) (Held w) m x e = absurd (cc)
  operands_tell code (Held u) Stack m x e = absurd (cc)
  operands_tell code (Number c) (Number d) m x e = absurd (cc)
  operands_tell code (Number c) Stack m x e = absurd (cc)
  operands_tell code Stack b m x e = absurd (cc)

  behind_tells : (fs : List Fact) (u : ℕ) (m : ℤ) (x : Masked) → AllHold values fs → behind_of fs u m ≡ Some x → Is (values u) m x
  behind_tells [] u m x h e = absurd (cc)
  behind_tells (Between w i ∷ fs) u m x h e = behind_tells fs u m x h.1 e
  behind_tells (Congruent w c ∷ fs) u m x h e = behind_tells fs u m x h.1 e
  behind_tells (Never ∷ fs) u m x h e = absurd h.0
  behind_tells (Equals w code a b ∷ fs) u m x h e = by (w == u) (masked_with (masked_of a b) code m) refl refl e (λ r. behind_tells fs u m x h.1 r)
    where
      by : (t : Bool) (o : Option Masked) → (w == u) ≡ t → masked_with (masked_of a b) code m ≡ o → found_if t o (behind_of fs u m) ≡ Some x → (behind_of fs u m ≡ Some x → Is (values u) m x) → Is (values u) m x
      by false o q p r k = k r
      by true None q p r k = k r
      by true (Some y) q p r k =
          let is : y ≡ x = cc in
          let same : values u ≡ computed code (content values a) (content values b) = sym (ap values (eqb-true w u q)) ∙ h.0 in
          subst (λ z. Is z m x) (sym same) (operands_tell code a b m x (p ∙ ap Some is))

  once_is : (fs : List Fact) (x : Masked) → AllHold values fs → under (values x.value) x.number ≡ under (values (masked_or (behind_of fs x.value x.number) x).value) (masked_or (behind_of fs x.value x.number) x).number
  once_is fs x h = by (behind_of fs x.value x.number) refl
    where
      by : (o : Option Masked) → behind_of fs x.value x.number ≡ o → under (values x.value) x.number ≡ under (values (masked_or o x).value) (masked_or o x).number
      by None q = refl
      by (Some y) q = behind_tells fs x.value x.number y h q

  far_is : (n : ℕ) (fs : List Fact) (x : Masked) → AllHold values fs → under (values x.value) x.number ≡ under (values (far_behind n fs x).value) (far_behind n fs x).number
  far_is zero fs x h = refl
  far_is (suc n) fs x h = once_is fs x h ∙ far_is n fs (masked_or (behind_of fs x.value x.number) x) h

-- ---- operations

pub masked_same : (setting : Setting) (s : State) (fs : List Fact) → AllHold s.values fs → (v : ℕ) (a b : Operand) → effect setting s (far_mask fs v a b) s ≡ effect setting s (Compute And v a b) s
masked_same setting s fs h v (Held u) (Number m) = ap (λ y. Some (with_value s v y)) (sym (far_is s.values 4 fs (record { value = u; number = m }) h))
masked_same setting s fs h v (Held u) (Held w) = refl
masked_same setting s fs h v (Held u) Stack = refl
masked_same setting s fs h v (Number c) b = refl
masked_same setting s fs h v Stack b = refl
