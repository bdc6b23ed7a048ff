-- Estimates by the places of their operations.
use Rattle.std.proofs.Common.{◌≡◌, ◌<◌, ◌⊎◌, inl, inr, ◌==◌, refl, sym, ◌∙◌, ap, arith, if◌then◌else◌, ℕ, zero, suc, List, [], ◌∷◌, ◌++◌, length, reverse, slice_set}
use Rattle.std.proofs.lemmas.Bool.{cases_eq, eq-eqb, ne_eqb}
use Rattle.std.proofs.lemmas.List.{get_or_past, get_or-set_same, get_or-set_other, reverse-append}
use Rattle.vx_bug.specs.declared.bookings.Booking.{Booking}
use Rattle.vx_bug.specs.Booked.{estimate_at, AreEstimates}
use Rattle.vx_bug.specs.Clusters.{estimate_in}

pub latest_first : (bookings more : List Booking) (b : Booking) → more ≡ bookings ++ b ∷ [] → reverse more ≡ b ∷ reverse bookings
latest_first bookings more b e = ap reverse e ∙ reverse-append bookings (b ∷ [])

pub longer_estimates : (estimates : List ℕ) (place : ℕ) → estimate_at (estimates ++ 0 ∷ []) place ≡ estimate_at estimates place
longer_estimates [] zero = refl
longer_estimates [] (suc place) = refl
longer_estimates (n ∷ estimates) zero = refl
longer_estimates (n ∷ estimates) (suc place) = longer_estimates estimates place

pub no_estimates : (estimates : List ℕ) (bookings : List Booking) → estimates ≡ [] → bookings ≡ [] → AreEstimates estimates (reverse bookings)
no_estimates estimates bookings e f place = ap (λ es. estimate_at es place) e ∙ get_or_past [] place 0 (omega arith) ∙ sym (ap (λ bs. estimate_in (reverse bs) place) f)

pub same_estimates : (estimates others : List ℕ) (bookings : List Booking) → AreEstimates estimates bookings → ((place : ℕ) → estimate_at others place ≡ estimate_at estimates place) → AreEstimates others bookings
same_estimates estimates others bookings are same place = same place ∙ are place

pub one_more_estimate : (estimates reached : List ℕ) (bookings : List Booking) (b : Booking) → AreEstimates estimates bookings → b.place < length reached → ((place : ℕ) → estimate_at reached place ≡ estimate_at estimates place)
    → AreEstimates (slice_set reached b.place b.estimate) (b ∷ bookings)
one_more_estimate estimates reached bookings b are inside same place = by (cases_eq place b.place)
  where
    by : (place ≡ b.place) ⊎ (place ≡ b.place → ⊥) → estimate_at (slice_set reached b.place b.estimate) place ≡ (if b.place == place then b.estimate else estimate_in bookings place)
    by (inl e) = ap (estimate_at (slice_set reached b.place b.estimate)) e ∙ get_or-set_same reached b.place b.estimate 0 inside ∙ sym (ap (λ x. if x then b.estimate else estimate_in bookings place) (eq-eqb b.place place (sym e)))
    by (inr differs) = get_or-set_other reached b.place place b.estimate 0 differs ∙ same place ∙ are place ∙ sym (ap (λ x. if x then b.estimate else estimate_in bookings place) (ne_eqb b.place place (λ e. differs (sym e))))
