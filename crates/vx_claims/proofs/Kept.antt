-- What is known behind an operation, as it is kept in place.
use Rattle.std.proofs.Common.{◌≡◌, ℕ, zero, suc, ◌≤◌, Bool, true, false, ◌||◌, ◌==◌, pos, List, [], ◌∷◌, ◌++◌, ◌-◌, length, take, refl, sym, ap, ◌∙◌, arith}
use Rattle.std.specs.List.{list_any}
use Rattle.std.proofs.lemmas.List.{append_assoc}
use Rattle.std.proofs.lemmas.Bool.{false≢true}
use Rattle.vx_base.specs.declared.arithmetic.Code.{Code}
use Rattle.vx_flow.specs.declared.graph.Operand.{Operand}
use Rattle.vx_flow.specs.declared.graph.Op.{Op}
use Rattle.vx_flow.specs.declared.graph.Op.TheVariants.{Compute, Select, Place, Load, Store, More, Input, Text, Decimal, Across, Base, PlaceIn}
use Rattle.vx_flow.specs.Operands.{written_by}
use Rattle.vx_flow.specs.Sound.{is_value}
use Rattle.vx_claims.specs.declared.intervals.Interval.{Interval}
use Rattle.vx_claims.specs.declared.residues.Residue.{Residue}
use Rattle.vx_claims.specs.declared.fact.Fact.{Fact}
use Rattle.vx_claims.specs.declared.fact.Fact.TheVariants.{Between, Congruent, Equals, Never}
use Rattle.vx_claims.specs.declared.access.Access.{Access}
use Rattle.vx_claims.specs.Facts.{range_of, times_if, bit, computed_within, computed_residue, is_full, is_single, names, kept_if, without, without_written, equals_if, between_unless, lies_in, congruent_unless, agrees_in, stands_in, after}
use Rattle.vx_claims.specs.Accesses.{place_known}
use Rattle.vx_claims.specs.Forming.{after_known, facts_if, is_test, most_equals, newest, said_unless, same_form}
use Rattle.vx_claims.specs.Keeping.{all_said, has_more, said_by}

pub lies_before : (v : ℕ) (i : Interval) (a b : List Fact) → lies_in v i (a ++ b) ≡ lies_in v i a ++ b
lies_before v i a b = by (is_full i)
  where
    by : (says_nothing : Bool) → between_unless says_nothing v i (a ++ b) ≡ between_unless says_nothing v i a ++ b
    by true = refl
    by false = refl

agrees_before : (v : ℕ) (i : Interval) (c : Residue) (a b : List Fact) → agrees_in v i c (a ++ b) ≡ agrees_in v i c a ++ b
agrees_before v i c a b = by ((c.places == 0) || is_single i)
  where
    by : (says_nothing : Bool) → congruent_unless says_nothing v c (a ++ b) ≡ congruent_unless says_nothing v c a ++ b
    by true = refl
    by false = refl

pub stands_before : (v : ℕ) (i : Interval) (c : Residue) (a b : List Fact) → stands_in v i c (a ++ b) ≡ stands_in v i c a ++ b
stands_before v i c a b = ap (lies_in v i) (agrees_before v i c a b) ∙ lies_before v i (agrees_in v i c a) b

-- where a value lies, put at the end of a list, and then what its low bits are
pub stands_put : (v : ℕ) (i : Interval) (c : Residue) (list lies new : List Fact) → lies ≡ list ++ lies_in v i [] → new ≡ lies ++ agrees_in v i c [] → new ≡ list ++ stands_in v i c []
stands_put v i c list lies new h n =
    n ∙ ap (λ x. x ++ agrees_in v i c []) h ∙ append_assoc list (lies_in v i []) (agrees_in v i c []) ∙ ap (λ x. list ++ x) (sym (lies_before v i [] (agrees_in v i c [])))

after_parts : (fs : List Fact) (op : Op) → after fs op ≡ said_by fs op ++ without_written (written_by op) fs
after_parts fs (Compute code v a b) = stands_before v (computed_within fs code a b) (computed_residue fs code a b) (equals_if (is_value v a || is_value v b) v code a b) (without v fs)
after_parts fs (Select v p a b) = refl
after_parts fs (Place v a i) = lies_before v (times_if true (range_of fs i) (pos 4)) [] (without v fs)
after_parts fs (Load v a p dismissible) = refl
after_parts fs (Store a p x) = refl
after_parts fs (More v) = lies_before v bit [] (without v fs)
after_parts fs (Input v) = refl
after_parts fs (Text n) = refl
after_parts fs (Decimal x) = refl
after_parts fs (Across v u) = refl
after_parts fs (Base v a x) = refl
after_parts fs (PlaceIn v a u i) = refl

pub known_parts : (fs : List Fact) (xs : List Access) (op op' : Op) → newest most_equals (all_said fs xs op op' ++ without_written (written_by op') fs) ≡ after_known fs xs op op'
known_parts fs xs op op' =
    let p : List Fact = place_known xs op' in
    let s : List Fact = said_unless (same_form op op') fs op in
    let w : List Fact = said_by fs op' in
    let l : List Fact = without_written (written_by op') fs in
    let inner : (s ++ w) ++ l ≡ s ++ after fs op' = append_assoc s w l ∙ ap (λ x. s ++ x) (sym (after_parts fs op')) in
    let outer : (p ++ (s ++ w)) ++ l ≡ p ++ (s ++ after fs op') = append_assoc p (s ++ w) l ∙ ap (λ x. p ++ x) inner in
    ap (newest most_equals) outer

-- what is put at the end of a list for a computation in the words it had
pub said_computed : (list stands fs : List Fact) (t : Bool) (op : Op) (code : Code) (v : ℕ) (a b : Operand) → op ≡ Compute code v a b → t ≡ false → stands ≡ list ++ stands_in v (computed_within fs code a b) (computed_residue fs code a b) [] →
    stands ++ facts_if (is_test code) (equals_if (is_value v a || is_value v b) v code a b) ≡ list ++ said_unless t fs op
said_computed list stands fs t op code v a b is f h =
    let e : List Fact = facts_if (is_test code) (equals_if (is_value v a || is_value v b) v code a b) in
    let i : Interval = computed_within fs code a b in
    let c : Residue = computed_residue fs code a b in
    ap (λ x. x ++ e) h ∙ append_assoc list (stands_in v i c []) e ∙ ap (λ x. list ++ x) (sym (stands_before v i c [] e))
    ∙ ap (λ x. list ++ said_unless false fs x) (sym is) ∙ ap (λ x. list ++ said_unless x fs op) (sym f)

-- what is put at the end of a list for a computation
pub said_pushed : (list stands new fs : List Fact) (code : Code) (v : ℕ) (a b : Operand) → stands ≡ list ++ stands_in v (computed_within fs code a b) (computed_residue fs code a b) [] → (is_value v a || is_value v b) ≡ false → new ≡ stands ++ Equals v code a b ∷ [] → new ≡ list ++ said_by fs (Compute code v a b)
said_pushed list stands new fs code v a b h f n =
    let e : List Fact = equals_if (is_value v a || is_value v b) v code a b in
    let i : Interval = computed_within fs code a b in
    let c : Residue = computed_residue fs code a b in
    n ∙ ap (λ t. stands ++ equals_if t v code a b) (sym f) ∙ ap (λ x. x ++ e) h ∙ append_assoc list (stands_in v i c []) e ∙ ap (λ x. list ++ x) (sym (stands_before v i c [] e))

-- ---- where there is nothing to forget

pub none_named : (v : ℕ) (fs : List Fact) → list_any (names v) fs ≡ false → fs ≡ without v fs
none_named v [] h = refl
none_named v (f ∷ fs) h = by (names v f) h (none_named v fs)
  where
    by : (named : Bool) → (named || list_any (names v) fs) ≡ false → (list_any (names v) fs ≡ false → fs ≡ without v fs) → f ∷ fs ≡ kept_if named f (without v fs)
    by true e k = absurd (false≢true (sym e))
    by false e k = ap (λ x. f ∷ x) (k e)

-- ---- the newest facts

pub few_facts : (left : ℕ) (fs : List Fact) → length fs ≤ left → has_more left fs ≡ false
few_facts left [] h = refl
few_facts left (Between v i ∷ fs) h = few_facts left fs (omega (arith, h))
few_facts left (Congruent v c ∷ fs) h = few_facts left fs (omega (arith, h))
few_facts left (Never ∷ fs) h = few_facts left fs (omega (arith, h))
few_facts zero (Equals v code a b ∷ fs) h = absurd (omega (arith, h))
few_facts (suc left) (Equals v code a b ∷ fs) h = few_facts left fs (omega (arith, h))

pub all_kept : (left : ℕ) (fs : List Fact) → has_more left fs ≡ false → fs ≡ newest left fs
all_kept left [] h = refl
all_kept left (Between v i ∷ fs) h = ap (λ x. Between v i ∷ x) (all_kept left fs h)
all_kept left (Congruent v c ∷ fs) h = ap (λ x. Congruent v c ∷ x) (all_kept left fs h)
all_kept left (Never ∷ fs) h = ap (λ x. Never ∷ x) (all_kept left fs h)
all_kept zero (Equals v code a b ∷ fs) h = absurd (false≢true (sym h))
all_kept (suc left) (Equals v code a b ∷ fs) h = ap (λ x. Equals v code a b ∷ x) (all_kept left fs h)

last_cut : (left : ℕ) (fs : List Fact) (last : Fact) → has_more left (fs ++ last ∷ []) ≡ true → has_more left fs ≡ false → fs ≡ newest left (fs ++ last ∷ [])
last_cut left [] (Between v i) m h = absurd (false≢true m)
last_cut left [] (Congruent v c) m h = absurd (false≢true m)
last_cut left [] Never m h = absurd (false≢true m)
last_cut zero [] (Equals v code a b) m h = refl
last_cut (suc left) [] (Equals v code a b) m h = absurd (false≢true m)
last_cut left (Between v i ∷ fs) last m h = ap (λ x. Between v i ∷ x) (last_cut left fs last m h)
last_cut left (Congruent v c ∷ fs) last m h = ap (λ x. Congruent v c ∷ x) (last_cut left fs last m h)
last_cut left (Never ∷ fs) last m h = ap (λ x. Never ∷ x) (last_cut left fs last m h)
last_cut zero (Equals v code a b ∷ fs) last m h = absurd (false≢true (sym h))
last_cut (suc left) (Equals v code a b ∷ fs) last m h = ap (λ x. Equals v code a b ∷ x) (last_cut left fs last m h)

front_last : (f : Fact) (fs : List Fact) → (last : Fact) × (f ∷ fs ≡ take (length fs) (f ∷ fs) ++ last ∷ [])
front_last f [] = (f, refl)
front_last f (g ∷ gs) =
    let r = front_last g gs in
    (r.0, ap (λ x. f ∷ x) r.1)

pub front_kept : (left : ℕ) (fs : List Fact) → has_more left fs ≡ true → has_more left (take (length fs - 1) fs) ≡ false → take (length fs - 1) fs ≡ newest left fs
front_kept left [] m h = absurd (false≢true m)
front_kept left (f ∷ fs) m h =
    let n : length (f ∷ fs) - 1 ≡ length fs = omega arith in
    let front : List Fact = take (length fs) (f ∷ fs) in
    let r = front_last f fs in
    let cut : front ≡ newest left (front ++ r.0 ∷ []) = last_cut left front r.0 (ap (has_more left) (sym r.1) ∙ m) (ap (λ (k : ℕ). has_more left (take k (f ∷ fs))) (sym n) ∙ h) in
    ap (λ (k : ℕ). take k (f ∷ fs)) n ∙ cut ∙ ap (newest left) (sym r.1)

pub front_is_kept : (left : ℕ) (fs new : List Fact) → new ≡ take (length fs - 1) fs → has_more left fs ≡ true → has_more left (take (length fs - 1) fs) ≡ false → new ≡ newest left fs
front_is_kept left fs new e m h = e ∙ front_kept left fs m h
