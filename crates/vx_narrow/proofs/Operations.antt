-- Operations: facts carried through one hold behind it, and numbers of 32 bits stay such.
use Rattle.std.proofs.Common.{◌≡◌, ℕ, zero, suc, ◌<◌, ◌==◌, Bool, true, false, cond, ◌||◌, ℤ, pos, ◌*ℤ◌, int_le, List, [], ◌∷◌, ◌++◌, take, slice_index_or, slice_set, Option, Some, None, refl, sym, ap, ◌∙◌, subst}
use Rattle.std.proofs.lemmas.Bool.{eq-eqb, ltb-true}
use Rattle.vx_base.specs.Arithmetic.{wrap, product_of, one_if}
use Rattle.vx_base.specs.declared.arithmetic.Code.{Code}
use Rattle.vx_base.proofs.WrapLaws.{wrap_fits}
use Rattle.vx_flow.specs.declared.graph.Operand.{Operand}
use Rattle.vx_flow.specs.declared.graph.Operand.TheVariants.{Held, Number, Stack}
use Rattle.vx_flow.specs.declared.graph.Op.{Op}
use Rattle.vx_flow.specs.declared.graph.Op.TheVariants.{Compute, Select, Place, Load, Store, More, Input, Text, Decimal, Across, Base, PlaceIn}
use Rattle.vx_flow.specs.Effects.{Content, State, Setting, held, computed, chosen, is_one, is_left, place_of, place_by, row_of, cell_of, loaded, stored, next_input, printed, with_value, effect}
use Rattle.vx_flow.specs.Sound.{is_value}
use Rattle.vx_claims.specs.declared.intervals.Interval.{Interval}
use Rattle.vx_claims.specs.declared.residues.Residue.{Residue}
use Rattle.vx_claims.specs.declared.fact.Fact.{Fact}
use Rattle.vx_claims.specs.declared.fact.Fact.TheVariants.{Between, Congruent, Equals, Never}
use Rattle.vx_claims.specs.Facts.{least, greatest, full, Within, content, Holds, AllHold, range_of, times_if, bit, computed_within, computed_residue, names, kept_if, without, equals_if, is_full, is_single, between_unless, lies_in, congruent_unless, agrees_in, stands_in, after}
use Rattle.vx_narrow.specs.Checking.{is_number, most_arrays, has_number, has_numbers}
use Rattle.vx_narrow.proofs.Ranges.{number_within, and_one, and_two, le_holds, Fit, computed_fits, range_of_holds, bit_holds, times_holds, computed_holds}
use Rattle.vx_claims.specs.Residues.{Agrees}
use Rattle.vx_narrow.proofs.Residues.{computed_residue_holds}
use Rattle.std.proofs.Math.IntN.{*ℤ_comm}
use Rattle.vx_narrow.proofs.Tests.{append_holds}

-- ---- numbers of 32 bits

pub number_fits : (n : ℤ) → is_number n ≡ true → Within full (Some n)
number_fits n e = (le_holds least n (and_one (int_le least n) (int_le n greatest) e), le_holds n greatest (and_two (int_le least n) (int_le n greatest) e))

pub content_fits : (values : ℕ → Content) (x : Operand) → Fit values → has_number x ≡ true → Within full (content values x)
content_fits values (Held v) fit e = fit v
content_fits values (Number n) fit e = number_fits n e
content_fits values Stack fit e = tt

pub held_is : (s : State) (x : Operand) → held s x ≡ content s.values x
held_is s (Held v) = refl
held_is s (Number n) = refl
held_is s Stack = refl

pub held_fits : (s : State) (x : Operand) → Fit s.values → has_number x ≡ true → Within full (held s x)
held_fits s x fit e = subst (Within full) (sym (held_is s x)) (content_fits s.values x fit e)

abbrev pub RowsFit : List (List Content) → Type 0
RowsFit xs = (p j : ℕ) → Within full (slice_index_or (slice_index_or xs p []) j None)

abbrev pub NumbersFit : List ℤ → Type 0
NumbersFit [] = Unit {0}
NumbersFit (n ∷ ns) = Within full (Some n) × NumbersFit ns

pub record StateFit (s : State) : Type 0 where
  pub values : Fit s.values
  pub rows : RowsFit s.arrays
  pub input : NumbersFit s.input

set_words : (xs : List Content) (i : ℕ) (v : Content) → Within full v → ((j : ℕ) → Within full (slice_index_or xs j None)) → (j : ℕ) → Within full (slice_index_or (slice_set xs i v) j None)
set_words [] i v f r j = r j
set_words (x ∷ xs) zero v f r zero = f
set_words (x ∷ xs) zero v f r (suc j) = r (suc j)
set_words (x ∷ xs) (suc i) v f r zero = r zero
set_words (x ∷ xs) (suc i) v f r (suc j) = set_words xs i v f (λ k. r (suc k)) j

set_rows : (xs : List (List Content)) (a : ℕ) (row : List Content) → ((j : ℕ) → Within full (slice_index_or row j None)) → RowsFit xs → RowsFit (slice_set xs a row)
set_rows [] a row f r p j = r p j
set_rows (x ∷ xs) zero row f r zero j = f j
set_rows (x ∷ xs) zero row f r (suc p) j = r (suc p) j
set_rows (x ∷ xs) (suc a) row f r zero j = r zero j
set_rows (x ∷ xs) (suc a) row f r (suc p) j = set_rows xs a row f (λ q k. r (suc q) k) p j

pub rows_append : (xs ys : List (List Content)) → RowsFit xs → RowsFit ys → RowsFit (xs ++ ys)
rows_append [] ys f g p j = g p j
rows_append (x ∷ xs) ys f g zero j = f zero j
rows_append (x ∷ xs) ys f g (suc p) j = rows_append xs ys (λ q k. f (suc q) k) g p j

pub rows_take : (n : ℕ) (xs : List (List Content)) → RowsFit xs → RowsFit (take n xs)
rows_take zero [] f p j = tt
rows_take zero (x ∷ xs) f p j = tt
rows_take (suc n) [] f p j = tt
rows_take (suc n) (x ∷ xs) f zero j = f zero j
rows_take (suc n) (x ∷ xs) f (suc p) j = rows_take n xs (λ q k. f (suc q) k) p j

pub or_one : (a b : Bool) → (a || b) ≡ false → a ≡ false
or_one true b e = e
or_one false b e = refl

pub or_two : (a b : Bool) → (a || b) ≡ false → b ≡ false
or_two true b e = absurd (cc)
or_two false b e = e

-- ---- a value that is written

abbrev pub written : ℕ → Content → (ℕ → Content) → ℕ → Content
written v x values u = cond (u == v) x (values u)

module _ (values : ℕ → Content) (v : ℕ) (x : Content) where
  other : (u : ℕ) → (u == v) ≡ false → written v x values u ≡ values u
  other u e = ap (λ t. cond t x (values u)) e

  itself : written v x values v ≡ x
  itself = let e : (v == v) ≡ true = eq-eqb v v refl in ap (λ t. cond t x (values v)) e

  content_other : (a : Operand) → is_value v a ≡ false → content (written v x values) a ≡ content values a
  content_other (Held u) e = other u e
  content_other (Number n) e = refl
  content_other Stack e = refl

  other_holds : (f : Fact) → names v f ≡ false → Holds values f → Holds (written v x values) f
  other_holds (Between u i) e h = subst (Within i) (sym (other u e)) h
  other_holds (Congruent u c) e h = subst (Agrees c) (sym (other u e)) h
  other_holds Never e h = absurd h
  other_holds (Equals u code a b) e h =
      let e1 = or_one (u == v) (is_value v a || is_value v b) e in
      let e2 = or_two (u == v) (is_value v a || is_value v b) e in
      other u e1 ∙ h ∙ sym (ap (λ c. computed code c (content (written v x values) b)) (content_other a (or_one (is_value v a) (is_value v b) e2)) ∙ ap (λ c. computed code (content values a) c) (content_other b (or_two (is_value v a) (is_value v b) e2)))

  kept_holds : (t : Bool) (f : Fact) (fs : List Fact) → (t ≡ false → Holds (written v x values) f) → AllHold (written v x values) fs → AllHold (written v x values) (kept_if t f fs)
  kept_holds true f fs h k = k
  kept_holds false f fs h k = (h refl, k)

  pub without_holds : (fs : List Fact) → AllHold values fs → AllHold (written v x values) (without v fs)
  without_holds [] h = tt
  without_holds (f ∷ fs) h = kept_holds (names v f) f (without v fs) (λ e. other_holds f e h.0) (without_holds fs h.1)

  equals_holds : (t : Bool) (code : Code) (a b : Operand) → (t ≡ false → Holds (written v x values) (Equals v code a b)) → AllHold (written v x values) (equals_if t v code a b)
  equals_holds true code a b h = tt
  equals_holds false code a b h = (h refl, tt)

  new_equals : (code : Code) (a b : Operand) → x ≡ computed code (content values a) (content values b) → (is_value v a || is_value v b) ≡ false → Holds (written v x values) (Equals v code a b)
  new_equals code a b h e =
      itself ∙ h ∙ sym (ap (λ c. computed code c (content (written v x values) b)) (content_other a (or_one (is_value v a) (is_value v b) e)) ∙ ap (λ c. computed code (content values a) c) (content_other b (or_two (is_value v a) (is_value v b) e)))

  new_between : (i : Interval) → Within i x → Within i (written v x values v)
  new_between i h = subst (Within i) (sym itself) h

  pub written_fits : Fit values → Within full x → Fit (written v x values)
  written_fits fit f u = by (u == v)
    where
      by : (t : Bool) → Within full (cond t x (values u))
      by true = f
      by false = fit u

  pub lies_hold : (i : Interval) (fs : List Fact) → Within i x → AllHold (written v x values) fs → AllHold (written v x values) (lies_in v i fs)
  lies_hold i fs h k = by (is_full i)
    where
      by : (t : Bool) → AllHold (written v x values) (between_unless t v i fs)
      by true = k
      by false = (new_between i h, k)

  agree_hold : (i : Interval) (c : Residue) (fs : List Fact) → Agrees c x → AllHold (written v x values) fs → AllHold (written v x values) (agrees_in v i c fs)
  agree_hold i c fs h k = by ((c.places == 0) || is_single i)
    where
      by : (t : Bool) → AllHold (written v x values) (congruent_unless t v c fs)
      by true = k
      by false = (subst (Agrees c) (sym itself) h, k)

  pub computed_new : (fs : List Fact) (code : Code) (a b : Operand) → Fit values → AllHold values fs → Within full (content values a) → Within full (content values b) → x ≡ computed code (content values a) (content values b) →
      AllHold (written v x values) (stands_in v (computed_within fs code a b) (computed_residue fs code a b) (equals_if (is_value v a || is_value v b) v code a b ++ without v fs))
  computed_new fs code a b fit h p q e =
      let i : Interval = computed_within fs code a b in
      let c : Residue = computed_residue fs code a b in
      let rest : List Fact = equals_if (is_value v a || is_value v b) v code a b ++ without v fs in
      lies_hold i (agrees_in v i c rest)
      (subst (Within i) (sym e)
      (computed_holds code (range_of fs a) (range_of fs b) (content values a) (content values b) (range_of_holds values fs a fit h) (range_of_holds values fs b fit h) p q))
      (agree_hold i c rest (subst (Agrees c) (sym e) (computed_residue_holds values fs code a b fit h))
      (append_holds (written v x values) (equals_if (is_value v a || is_value v b) v code a b) (without v fs) (equals_holds (is_value v a || is_value v b) code a b (new_equals code a b e)) (without_holds fs h)))

-- ---- states

pub record Good (fs : List Fact) (s : State) : Type 0 where
  pub facts : AllHold s.values fs
  pub fits : StateFit s

abbrev pub Keeps : List Fact → Option State → Type 0
Keeps fs None = Unit {0}
Keeps fs (Some t) = Good fs t

writes_good : (s : State) (v : ℕ) (x : Content) (gs : List Fact) → StateFit s → Within full x → AllHold (written v x s.values) gs → Good gs (with_value s v x)
writes_good s v x gs f w h = record { facts = h; fits = record { values = written_fits s.values v x f.values w; rows = f.rows; input = f.input } }

unknown_good : (s : State) (v : ℕ) (x : Content) (fs : List Fact) → Good fs s → Within full x → Good (without v fs) (with_value s v x)
unknown_good s v x fs g w = writes_good s v x (without v fs) g.fits w (without_holds s.values v x fs g.facts)

product_fits : (a b : ℤ) → Within full (Some (product_of a b))
unfolding product_of
product_fits a b = number_within _ (wrap_fits (a *ℤ b))

place_within : (i : Interval) (x : Content) → Within i x → Within (times_if true i (pos 4)) (place_of x)
unfolding product_of
place_within i None h = tt
place_within i (Some n) h = subst (λ z. Within (times_if true i (pos 4)) (Some (wrap z))) (*ℤ_comm n (pos 4)) (times_holds i n 4 h)

place_fits : (x : Content) → Within full (place_of x)
place_fits None = tt
place_fits (Some n) = product_fits (pos 4) n

place_by_fits : (b x : Content) → Within full (place_by b x)
place_by_fits None x = tt
place_by_fits (Some k) x = place_fits x

chosen_fits : (p a b : Content) → Within full a → Within full b → Within full (chosen p a b)
chosen_fits None a b f g = tt
chosen_fits (Some z) a b f g = by (is_one z)
  where
    by : (t : Bool) → Within full (cond t a b)
    by true = f
    by false = g

loaded_good : (s : State) (v : ℕ) (row : List Content) (o : Option ℕ) (d : Bool) (fs : List Fact) → Good fs s → ((j : ℕ) → Within full (slice_index_or row j None)) → Keeps (without v fs) (loaded s v row o d)
loaded_good s v row None true fs g r = unknown_good s v None fs g tt
loaded_good s v row None false fs g r = tt
loaded_good s v row (Some i) d fs g r = unknown_good s v _ fs g (r i)

stored_good : (s : State) (a : ℕ) (o : Option ℕ) (x : Content) (fs : List Fact) → Good fs s → Within full x → Keeps fs (stored s a o x)
stored_good s a None x fs g w = tt
stored_good s a (Some i) None fs g w = tt
stored_good s a (Some i) (Some n) fs g w = record { facts = g.facts; fits = record { values = g.fits.values; rows = set_rows s.arrays a _ (set_words (row_of s a) i (Some n) w (g.fits.rows a)) g.fits.rows; input = g.fits.input } }

input_good : (s : State) (v : ℕ) (ns : List ℤ) (fs : List Fact) → Good fs s → NumbersFit ns → Keeps (without v fs) (next_input s v ns)
input_good s v [] fs g f = tt
input_good s v (n ∷ ns) fs g f =
    let h = unknown_good s v (Some n) fs g f.0 in
    record { facts = h.facts; fits = record { values = h.fits.values; rows = h.fits.rows; input = f.1 } }

same_values : (s t : State) (fs : List Fact) → Good fs s → t.values ≡ s.values → t.arrays ≡ s.arrays → t.input ≡ s.input → Good fs t
same_values s t fs g p q r = record {
  facts = subst (λ w. AllHold w fs) (sym p) g.facts;
  fits = record { values = subst Fit (sym p) g.fits.values; rows = subst RowsFit (sym q) g.fits.rows; input = subst NumbersFit (sym r) g.fits.input };
}

printed_good : (s : State) (x : Content) (fs : List Fact) → Good fs s → Keeps fs (printed s s.out x)
printed_good s None fs g = tt
printed_good s (Some n) fs g = same_values s _ fs g refl refl refl

-- where each of so many arrays stands is a number of 32 bits
abbrev pub SpotsFit : Setting → Type 0
SpotsFit setting = (a : ℕ) → a < most_arrays → Within full (Some (pos (setting.spot a)))

-- what the operation reads has 32 bits, and where an array stands whose base it is
abbrev pub OpFits : Setting → (ℕ → Content) → Op → Type 0
OpFits setting values (Compute code v a b) = Within full (content values a) × Within full (content values b)
OpFits setting values (Select v p a b) = Within full (content values a) × Within full (content values b)
OpFits setting values (Place v a i) = Unit {0}
OpFits setting values (Load v a p d) = Unit {0}
OpFits setting values (Store a p x) = Within full (content values x)
OpFits setting values (More v) = Unit {0}
OpFits setting values (Input v) = Unit {0}
OpFits setting values (Text n) = Unit {0}
OpFits setting values (Decimal x) = Unit {0}
OpFits setting values (Across v u) = Unit {0}
OpFits setting values (Base v a x) = Within full (Some (pos (setting.spot a)))
OpFits setting values (PlaceIn v a u i) = Unit {0}

pub numbers_fit : (setting : Setting) (values : ℕ → Content) (op : Op) → SpotsFit setting → Fit values → has_numbers op ≡ true → OpFits setting values op
numbers_fit setting values (Compute code v a b) spots fit e = (content_fits values a fit (and_one (has_number a) (has_number b) e), content_fits values b fit (and_two (has_number a) (has_number b) e))
numbers_fit setting values (Select v p a b) spots fit e = (content_fits values a fit (and_one (has_number a) (has_number b) e), content_fits values b fit (and_two (has_number a) (has_number b) e))
numbers_fit setting values (Place v a i) spots fit e = tt
numbers_fit setting values (Load v a p d) spots fit e = tt
numbers_fit setting values (Store a p x) spots fit e = content_fits values x fit e
numbers_fit setting values (More v) spots fit e = tt
numbers_fit setting values (Input v) spots fit e = tt
numbers_fit setting values (Text n) spots fit e = tt
numbers_fit setting values (Decimal x) spots fit e = tt
numbers_fit setting values (Across v u) spots fit e = tt
numbers_fit setting values (Base v a x) spots fit e = spots a (ltb-true a most_arrays e)
numbers_fit setting values (PlaceIn v a u i) spots fit e = tt

pub op_good : (setting : Setting) (s : State) (fs : List Fact) (op : Op) → OpFits setting s.values op → Good fs s → Keeps (after fs op) (effect setting s op s)
op_good setting s fs (Compute code v a b) e g =
    let is : computed code (held s a) (held s b) ≡ computed code (content s.values a) (content s.values b) = ap (λ c. computed code c (held s b)) (held_is s a) ∙ ap (λ c. computed code (content s.values a) c) (held_is s b) in
    writes_good s v (computed code (held s a) (held s b)) _ g.fits (computed_fits code (held s a) (held s b) (subst (Within full) (sym (held_is s a)) e.0) (subst (Within full) (sym (held_is s b)) e.1))
    (computed_new s.values v (computed code (held s a) (held s b)) fs code a b g.fits.values g.facts e.0 e.1 is)
op_good setting s fs (Select v p a b) e g =
    unknown_good s v _ fs g (chosen_fits (s.values p) (held s a) (held s b) (subst (Within full) (sym (held_is s a)) e.0) (subst (Within full) (sym (held_is s b)) e.1))
op_good setting s fs (Place v a i) e g =
    let i4 = times_if true (range_of fs i) (pos 4) in
    writes_good s v (place_of (held s i)) _ g.fits (place_fits (held s i))
    (lies_hold s.values v (place_of (held s i)) i4 (without v fs) (place_within (range_of fs i) (held s i) (subst (Within (range_of fs i)) (sym (held_is s i)) (range_of_holds s.values fs i g.fits.values g.facts)))
    (without_holds s.values v (place_of (held s i)) fs g.facts))
op_good setting s fs (Load v a p d) e g = loaded_good s v (row_of s (setting.spot a)) (cell_of setting s a p) d fs g (g.fits.rows (setting.spot a))
op_good setting s fs (Store a p x) e g = stored_good s (setting.spot a) (cell_of setting s a p) (held s x) fs g (subst (Within full) (sym (held_is s x)) e)
op_good setting s fs (More v) e g =
    writes_good s v (Some (one_if (is_left s.input))) _ g.fits (bit_full (is_left s.input)) (lies_hold s.values v (Some (one_if (is_left s.input))) bit (without v fs) (bit_holds (is_left s.input)) (without_holds s.values v (Some (one_if (is_left s.input))) fs g.facts))
  where
    bit_full : (t : Bool) → Within full (Some (one_if t))
    bit_full true = number_fits (pos 1) refl
    bit_full false = number_fits (pos 0) refl
op_good setting s fs (Input v) e g = input_good s v s.input fs g g.fits.input
op_good setting s fs (Text n) e g = same_values s _ fs g refl refl refl
op_good setting s fs (Decimal x) e g = printed_good s (held s x) fs g
op_good setting s fs (Across v u) e g = unknown_good s v _ fs g (g.fits.values u)
op_good setting s fs (Base v a x) e g = unknown_good s v (Some (pos (setting.spot a))) fs g e
op_good setting s fs (PlaceIn v a u i) e g = unknown_good s v (place_by (s.values u) (held s i)) fs g (place_by_fits (s.values u) (held s i))
