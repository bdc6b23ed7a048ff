-- The arrays of a function to which arrays of its callers were passed stand apart: those that were passed in front of its own, which
-- stand one behind the other, and no two of its own at one spot.
use Rattle.std.proofs.Common.{◌≡◌, ℕ, zero, suc, ◌+◌, ◌-◌, ◌<◌, ◌≤◌, Bool, true, false, ◌==◌, Some, None, Option, List, [], ◌∷◌, slice_get, slice_index_or, refl, sym, ap, subst, ◌∙◌, ⊎_elim, eq-eqb, arith}
use Rattle.std.specs.Prelude.{◌&&◌, not, if◌then◌else◌}
use Rattle.std.proofs.lemmas.Bool.{cases_lt, lt-ltb, le-ltb, false≢true}
use Rattle.vx_flow.specs.declared.graph.Array.{Array}
use Rattle.vx_flow.specs.Sound.{is_given, has_base, is_own_array}
use Rattle.vx_flow.specs.Apart.{array_of, array_in, StandApart, GlobalsFirst, Aligned, PassedBelow}
use Rattle.vx_flow.specs.Meaning.{spot_in, spot_behind}

-- ---- behind the globals

given_at : (passed : List (Option ℕ)) (base j k : ℕ) → slice_index_or passed j None ≡ Some k → spot_behind passed base j ≡ k
given_at [] base j k e = absurd (cc)
given_at (Some s ∷ rest) base zero k e = cc
given_at (Some s ∷ rest) base (suc j) k e = given_at rest base j k e
given_at (None ∷ rest) base zero k e = absurd (cc)
given_at (None ∷ rest) base (suc j) k e = given_at rest (base + 1) j k e

own_from : (passed : List (Option ℕ)) (base j : ℕ) → slice_index_or passed j None ≡ None → base ≤ spot_behind passed base j
own_from [] base j e = omega arith
own_from (Some s ∷ rest) base zero e = absurd (cc)
own_from (Some s ∷ rest) base (suc j) e = own_from rest base j e
own_from (None ∷ rest) base zero e = omega arith
own_from (None ∷ rest) base (suc j) e = let h = own_from rest (base + 1) j e in omega arith

own_differ : (passed : List (Option ℕ)) (base j k : ℕ) → slice_index_or passed j None ≡ None → slice_index_or passed k None ≡ None → spot_behind passed base j ≡ spot_behind passed base k → j ≡ k
own_differ [] base j k e f q = omega arith
own_differ (Some s ∷ rest) base zero k e f q = absurd (cc)
own_differ (Some s ∷ rest) base (suc j) zero e f q = absurd (cc)
own_differ (Some s ∷ rest) base (suc j) (suc k) e f q = ap suc (own_differ rest base j k e f q)
own_differ (None ∷ rest) base zero zero e f q = refl
own_differ (None ∷ rest) base zero (suc k) e f q = absurd (let h = own_from rest (base + 1) k f in omega arith)
own_differ (None ∷ rest) base (suc j) zero e f q = absurd (let h = own_from rest (base + 1) j e in omega arith)
own_differ (None ∷ rest) base (suc j) (suc k) e f q = ap suc (own_differ rest (base + 1) j k e f q)

no_spot : (o : Option ℕ) → is_given o ≡ false → o ≡ None
no_spot None h = refl
no_spot (Some k) h = absurd (cc)

a_spot : (o : Option ℕ) → is_given o ≡ true → (k : ℕ) × (o ≡ Some k)
a_spot None h = absurd (cc)
a_spot (Some k) h = (k, refl)

named_is : (a : ℕ) (o : Option Array) → (array_of a o).named ≡ a
named_is a None = refl
named_is a (Some array) = refl

-- ---- tests

own_parts : (global given : Bool) → (not global && not given) ≡ true → (global ≡ false) × (given ≡ false)
own_parts true given h = absurd (false≢true h)
own_parts false true h = absurd (false≢true h)
own_parts false false h = (refl, refl)

unequal : (m n : ℕ) → not (m == n) ≡ true → m ≡ n → ⊥
unequal m n h e = false≢true (ap not (sym (eq-eqb m n e)) ∙ h)

-- ---- all

module _ (arrays : List Array) (globals base : ℕ) (passed : List (Option ℕ)) (first : GlobalsFirst globals arrays) (le : globals ≤ base) (below : PassedBelow base passed) (aligned : Aligned globals arrays passed) where
  abbrev Spot : ℕ → ℕ
  Spot a = spot_in globals passed base a

  abbrev The : ℕ → Array
  The a = array_in arrays a

  at_global : (a : ℕ) → a < globals → Spot a ≡ a
  at_global a h = ap (λ z. if z then a else spot_behind passed base (a - globals)) (lt-ltb a globals h)

  at_behind : (a : ℕ) → globals ≤ a → Spot a ≡ spot_behind passed base (a - globals)
  at_behind a h = ap (λ z. if z then a else spot_behind passed base (a - globals)) (le-ltb a globals h)

  slot_is : (a : ℕ) → globals ≤ a → has_base (The a) ≡ is_given (slice_index_or passed (a - globals) None)
  slot_is a h = let e : globals + (a - globals) ≡ a = omega arith in subst (λ b. has_base (The b) ≡ is_given (slice_index_or passed (a - globals) None)) e (aligned (a - globals))

  no_slot : (a : ℕ) → globals ≤ a → has_base (The a) ≡ false → slice_index_or passed (a - globals) None ≡ None
  no_slot a h e = no_spot (slice_index_or passed (a - globals) None) (sym (slot_is a h) ∙ e)

  -- an array with a base stands in front of the function's own
  given_low : (a : ℕ) → has_base (The a) ≡ true → Spot a < base
  given_low a e = ⊎_elim
      (λ la. let q = at_global a la in omega arith)
      (λ ga.
      let o = a_spot (slice_index_or passed (a - globals) None) (sym (slot_is a ga) ∙ e) in
      let q = at_behind a ga ∙ given_at passed base (a - globals) o.0 o.1 in
      let l = below (a - globals) o.0 o.1 in
      omega arith)
      (cases_lt a globals)

  -- an own one does not
  own_high : (b : ℕ) → is_own_array (The b) ≡ true → base ≤ Spot b
  own_high b h = ⊎_elim
      (λ lb. absurd (false≢true (sym (own_parts (The b).global (has_base (The b)) h).0 ∙ first b lb)))
      (λ gb.
      let q = at_behind b gb in
      let l = own_from passed base (b - globals) (no_slot b gb (own_parts (The b).global (has_base (The b)) h).1) in
      omega arith)
      (cases_lt b globals)

  -- arrays without a base at one spot are one
  bare_same : (a b : ℕ) → has_base (The a) ≡ false → has_base (The b) ≡ false → Spot a ≡ Spot b → a ≡ b
  bare_same a b e f q = ⊎_elim
      (λ la. ⊎_elim
      (λ lb. sym (at_global a la) ∙ q ∙ at_global b lb)
      (λ gb. absurd (let r = at_global a la in let s = at_behind b gb in let l = own_from passed base (b - globals) (no_slot b gb f) in omega arith))
      (cases_lt b globals))
      (λ ga. ⊎_elim
      (λ lb. absurd (let r = at_behind a ga in let s = at_global b lb in let l = own_from passed base (a - globals) (no_slot a ga e) in omega arith))
      (λ gb. let same = own_differ passed base (a - globals) (b - globals) (no_slot a ga e) (no_slot b gb f) (sym (at_behind a ga) ∙ q ∙ at_behind b gb) in omega arith)
      (cases_lt b globals))
      (cases_lt a globals)

  pub passed_apart : StandApart arrays Spot
  passed_apart a b two q = by (has_base (The a)) (has_base (The b)) refl refl two
    where
      by : (s t : Bool) → has_base (The a) ≡ s → has_base (The b) ≡ t → (if s then is_own_array (The b) else if t then is_own_array (The a) else not ((The a).named == (The b).named)) ≡ true → ⊥
      by true t e f h = let low = given_low a e in let high = own_high b h in omega arith
      by false true e f h = let low = given_low b f in let high = own_high a h in omega arith
      by false false e f h = unequal (The a).named (The b).named h (named_is a (slice_get arrays a) ∙ bare_same a b e f q ∙ sym (named_is b (slice_get arrays b)))
