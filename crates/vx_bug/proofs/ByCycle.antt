-- Bookings by cycles, and the first cycle that is free.
use Rattle.std.proofs.Common.{◌≡◌, ◌<◌, ◌≤◌, ◌⊎◌, inl, inr, ◌+◌, ◌-◌, ◌==◌, ◌&&◌, cond, refl, sym, ◌∙◌, ap, arith, subst, Bool, true, false, nat_lt, if◌then◌else◌, ℕ, zero, suc, List, [], ◌∷◌, ◌++◌, length, drop, count_by, slice_set}
use Rattle.std.proofs.lemmas.Bool.{cases_eq, eqb-true, eq-eqb}
use Rattle.std.proofs.lemmas.List.{get_or_past, get_or-drop, get_or-set_same, get_or-set_other}
use Rattle.std.proofs.lemmas.List.Sums.{sum_by-append, sum_by-cons}
use Rattle.vx_isa.specs.declared.operation.UnitKind.{UnitKind}
use Rattle.vx_isa.specs.Numbers.{Numbers}
use Rattle.vx_machine.specs.Resources.{units_of}
use Rattle.vx_bug.specs.declared.bookings.Booking.{Booking}
use Rattle.vx_bug.specs.declared.bookings.Resource.TheVariants.{IssueSlot, UnitOf}
use Rattle.vx_bug.specs.Booked.{row_at, AreRows}
use Rattle.vx_bug.specs.Clusters.{is_free, first_free}
use Rattle.vx_bug.specs.Ledgers.{takes, is_left}

-- rows

pub empty_row : (rows : List (List Booking)) (cycle : ℕ) → row_at (rows ++ [] ∷ []) cycle ≡ row_at rows cycle
empty_row [] zero = refl
empty_row [] (suc cycle) = refl
empty_row (row ∷ rows) zero = refl
empty_row (row ∷ rows) (suc cycle) = empty_row rows cycle

pub no_rows : (rows : List (List Booking)) (bookings : List Booking) → rows ≡ [] → bookings ≡ [] → AreRows rows bookings
no_rows rows bookings e f p cycle =
    let none : length rows ≡ 0 = ap length e in
    ap (count_by p) (get_or_past rows cycle [] (omega (arith, none))) ∙ sym (ap (count_by (λ (b : Booking). (b.cycle == cycle) && p b)) f)

pub same_rows : (rows others : List (List Booking)) (bookings : List Booking) → AreRows rows bookings → ((cycle : ℕ) → row_at others cycle ≡ row_at rows cycle) → AreRows others bookings
same_rows rows others bookings are same p cycle = ap (count_by p) (same cycle) ∙ are p cycle

differ : (a b : ℕ) → (a ≡ b → ⊥) → (a == b) ≡ false
differ a b h = by (a == b) refl
  where
    by : (x : Bool) → (a == b) ≡ x → (a == b) ≡ false
    by true e = absurd (h (eqb-true a b e))
    by false e = e

module _ (rows others : List (List Booking)) (bookings : List Booking) (b : Booking) (are : AreRows rows bookings) (here : row_at others b.cycle ≡ row_at rows b.cycle ++ b ∷ []) (elsewhere : (cycle : ℕ) → (cycle ≡ b.cycle → ⊥) → row_at others cycle ≡ row_at rows cycle) where
  abbrev mark : Bool → ℕ
  mark x = cond x 1 0

  abbrev stands : (Booking → Bool) → ℕ → Booking → Bool
  stands p cycle x = (x.cycle == cycle) && p x

  more : (p : Booking → Bool) (cycle : ℕ) → count_by (stands p cycle) (b ∷ bookings) ≡ mark (stands p cycle b) + count_by (stands p cycle) bookings
  more p cycle = sum_by-cons (λ (x : Booking). cond (stands p cycle x) 1 0) b bookings

  longer : (p : Booking → Bool) → count_by p (row_at others b.cycle) ≡ count_by p (row_at rows b.cycle) + mark (p b)
  longer p =
      let both : count_by p (row_at rows b.cycle ++ b ∷ []) ≡ count_by p (row_at rows b.cycle) + count_by p (b ∷ []) = sum_by-append (λ (x : Booking). cond (p x) 1 0) (row_at rows b.cycle) (b ∷ []) in
      let one : count_by p (b ∷ []) ≡ mark (p b) + count_by p [] = sum_by-cons (λ (x : Booking). cond (p x) 1 0) b [] in
      let none : count_by p [] ≡ 0 = refl in
      ap (count_by p) here ∙ omega (arith, both, one, none)

  in_its_row : (p : Booking → Bool) → count_by p (row_at others b.cycle) ≡ count_by (stands p b.cycle) (b ∷ bookings)
  in_its_row p =
      let stands_here : mark (stands p b.cycle b) ≡ mark (p b) = ap (λ x. mark (x && p b)) (eq-eqb b.cycle b.cycle refl) in
      let long = longer p in
      let all = more p b.cycle in
      let before = are p b.cycle in
      omega (arith, stands_here, long, all, before)

  in_another : (p : Booking → Bool) (cycle : ℕ) → (cycle ≡ b.cycle → ⊥) → count_by p (row_at others cycle) ≡ count_by (stands p cycle) (b ∷ bookings)
  in_another p cycle other =
      let not_here : mark (stands p cycle b) ≡ 0 = ap (λ x. mark (x && p b)) (differ b.cycle cycle (λ e. other (sym e))) in
      let same : count_by p (row_at others cycle) ≡ count_by p (row_at rows cycle) = ap (count_by p) (elsewhere cycle other) in
      let all = more p cycle in
      let before = are p cycle in
      omega (arith, not_here, same, all, before)

  booked : AreRows others (b ∷ bookings)
  booked p cycle = by (cases_eq cycle b.cycle)
    where
      by : (cycle ≡ b.cycle) ⊎ (cycle ≡ b.cycle → ⊥) → count_by p (row_at others cycle) ≡ count_by (stands p cycle) (b ∷ bookings)
      by (inl e) = subst (λ c. count_by p (row_at others c) ≡ count_by (stands p c) (b ∷ bookings)) (sym e) (in_its_row p)
      by (inr other) = in_another p cycle other

pub one_more_row : (rows reached : List (List Booking)) (bookings : List Booking) (b : Booking) (cycle : ℕ) → AreRows rows bookings → cycle ≡ b.cycle → cycle < length reached → ((other : ℕ) → row_at reached other ≡ row_at rows other)
    → AreRows (slice_set reached cycle (row_at reached cycle ++ b ∷ [])) (b ∷ bookings)
one_more_row rows reached bookings b cycle are e inside same =
    booked reached (slice_set reached cycle (row_at reached cycle ++ b ∷ [])) bookings b (same_rows rows reached bookings are same)
    (subst (λ c. row_at (slice_set reached cycle (row_at reached cycle ++ b ∷ [])) c ≡ row_at reached c ++ b ∷ []) e (get_or-set_same reached cycle (row_at reached cycle ++ b ∷ []) [] inside))
    (λ other apart. get_or-set_other reached cycle other (row_at reached cycle ++ b ∷ []) [] (λ h. apart (h ∙ e)))

-- the first cycle that is free

left_is_free : (m : Numbers) (rows : List (List Booking)) (bookings : List Booking) (cluster : ℕ) (unit : UnitKind) → AreRows rows bookings → (cycle : ℕ) → is_free m bookings cluster unit cycle ≡ is_left m cluster unit (row_at rows cycle)
left_is_free m rows bookings cluster unit are cycle =
    ap (λ x. nat_lt x m.issue && nat_lt (count_by (λ (b : Booking). (b.cycle == cycle) && takes cluster (UnitOf unit) b) bookings) (units_of m unit)) (sym (are (takes cluster IssueSlot) cycle))
    ∙ ap (λ x. nat_lt (count_by (takes cluster IssueSlot) (row_at rows cycle)) m.issue && nat_lt x (units_of m unit)) (sym (are (takes cluster (UnitOf unit)) cycle))

pub first_passed : (free : ℕ → Bool) (n w : ℕ) → w < n → free w ≡ false → first_free (n - w) free w ≡ first_free (n - (w + 1)) free (w + 1)
first_passed free n w h e =
    let k : n - w ≡ suc (n - (w + 1)) = omega (arith, h) in
    ap (λ x. first_free x free w) k ∙ ap (λ b. if b then w else first_free (n - (w + 1)) free (w + 1)) e

pub first_found : (free : ℕ → Bool) (n w : ℕ) → w < n → free w ≡ true → first_free (n - w) free w ≡ w
first_found free n w h e =
    let k : n - w ≡ suc (n - (w + 1)) = omega (arith, h) in
    ap (λ x. first_free x free w) k ∙ ap (λ b. if b then w else first_free (n - (w + 1)) free (w + 1)) e

pub first_last : (free : ℕ → Bool) (n w : ℕ) → n ≤ w → first_free (n - w) free w ≡ w
first_last free n w h = let k : n - w ≡ 0 = omega (arith, h) in ap (λ x. first_free x free w) k

shifted : (free vacant : ℕ → Bool) (from n k : ℕ) → ((j : ℕ) → free (from + j) ≡ vacant j) → first_free n free (from + k) ≡ from + first_free n vacant k
shifted free vacant from zero k h = refl
shifted free vacant from (suc n) k h = by (vacant k) refl (shifted free vacant from n (k + 1) h)
  where
    by : (b : Bool) → vacant k ≡ b → first_free n free (from + (k + 1)) ≡ from + first_free n vacant (k + 1) → first_free (suc n) free (from + k) ≡ from + first_free (suc n) vacant k
    by true e more =
        ap (λ x. if x then from + k else first_free n free (from + k + 1)) (h k ∙ e)
        ∙ sym (ap (λ x. from + (if x then k else first_free n vacant (k + 1))) e)
    by false e more =
        let next : from + k + 1 ≡ from + (k + 1) = omega arith in
        ap (λ x. if x then from + k else first_free n free (from + k + 1)) (h k ∙ e)
        ∙ ap (first_free n free) next ∙ more
        ∙ sym (ap (λ x. from + (if x then k else first_free n vacant (k + 1))) e)

pub first_open_free : (m : Numbers) (rows behind : List (List Booking)) (bookings : List Booking) (cluster : ℕ) (unit : UnitKind) (from wait cycle : ℕ) → AreRows rows bookings → behind ≡ drop from rows
    → wait ≡ first_free (length bookings) (λ w. is_left m cluster unit (row_at behind w)) 0 → cycle ≡ from + wait → cycle ≡ first_free (length bookings) (is_free m bookings cluster unit) from
first_open_free m rows behind bookings cluster unit from wait cycle are e f g =
    let vacant : ℕ → Bool = λ w. is_left m cluster unit (row_at behind w) in
    let zero_more : from + 0 ≡ from = omega arith in
    g ∙ ap (λ x. from + x) f
    ∙ sym (shifted (is_free m bookings cluster unit) vacant from (length bookings) 0 (λ j. left_is_free m rows bookings cluster unit are (from + j) ∙ ap (is_left m cluster unit) (sym (ap (λ rs. row_at rs j) e ∙ get_or-drop from rows j []))))
    ∙ ap (first_free (length bookings) (is_free m bookings cluster unit)) zero_more
