-- Each place of the trace is listed.
use Rattle.std.proofs.Common.{◌≡◌, ◌<◌, inl, inr, ⊎_elim, ◌||◌, refl, sym, ◌∙◌, ap, arith, subst, Bool, true, false, nat_eq, if◌then◌else◌, ℕ, zero, suc, Some, List, [], ◌∷◌, ◌++◌, length, reverse, slice_get}
use Rattle.std.specs.List.{list_any}
use Rattle.std.proofs.lemmas.Bool.{eqb-true, false≢true}
use Rattle.std.proofs.lemmas.List.{reverse-append}
use Rattle.vx_flow.specs.declared.trace.Trace.{Trace}
use Rattle.vx_flow.specs.Effects.{IsIn}
use Rattle.vx_flow.specs.Walk.{numbers}
use Rattle.vx_bug.specs.Clusters.{writers_of, visit_each, visit, listed}
use Rattle.vx_bug.proofs.Best.{numbers_in}
use Rattle.vx_bug.proofs.Listing.{append_in_left, append_in_right}

in_any : (x : ℕ) (xs : List ℕ) → list_any (nat_eq x) xs ≡ true → IsIn x xs
in_any x [] e = absurd (false≢true e)
in_any x (y ∷ ys) e = by (nat_eq x y) refl (in_any x ys)
  where
    by : (b : Bool) → nat_eq x y ≡ b → (list_any (nat_eq x) ys ≡ true → IsIn x ys) → IsIn x (y ∷ ys)
    by true q more = inl (eqb-true x y q)
    by false q more = inr (more (sym (ap (λ b. b || list_any (nat_eq x) ys) q) ∙ e))

in_reverse : (x : ℕ) (xs : List ℕ) → IsIn x xs → IsIn x (reverse xs)
in_reverse x [] h = h
in_reverse x (y ∷ ys) h =
    let e : reverse (y ∷ ys) ≡ reverse ys ++ y ∷ [] = reverse-append (y ∷ []) ys in
    subst (λ zs. IsIn x zs) (sym e) (⊎_elim (λ q. append_in_right x (reverse ys) (y ∷ []) (inl q)) (λ i. append_in_left x (reverse ys) (y ∷ []) (in_reverse x ys i)) h)

-- a visit takes nothing away

abbrev Keeps : (ℕ → List ℕ → List ℕ) → Type 0
Keeps f = (i : ℕ) (l : List ℕ) (x : ℕ) → IsIn x l → IsIn x (f i l)

each_keeps : (f : ℕ → List ℕ → List ℕ) → Keeps f → (is l : List ℕ) (x : ℕ) → IsIn x l → IsIn x (visit_each f is l)
each_keeps f keeps [] l x h = h
each_keeps f keeps (i ∷ is) l x h = each_keeps f keeps is (f i l) x (keeps i l x h)

keeps_none : (t : Trace) → Keeps (visit zero t)
unfolding visit
keeps_none t i l x h = h

keeps_by : (t : Trace) (d i : ℕ) (l : List ℕ) (x : ℕ) → Keeps (visit d t) → (b : Bool) → IsIn x l → IsIn x (if b then l else visit_each (visit d t) (writers_of t i (slice_get t.ops i)) l ++ i ∷ [])
keeps_by t d i l x keeps true h = h
keeps_by t d i l x keeps false h =
    append_in_left x (visit_each (visit d t) (writers_of t i (slice_get t.ops i)) l) (i ∷ []) (each_keeps (visit d t) keeps (writers_of t i (slice_get t.ops i)) l x h)

keeps_more : (t : Trace) (d : ℕ) → Keeps (visit d t) → Keeps (visit (suc d) t)
unfolding visit
keeps_more t d keeps i l x h = keeps_by t d i l x keeps (list_any (nat_eq i) l) h

keeps : (t : Trace) (d : ℕ) → Keeps (visit d t)
keeps t zero = keeps_none t
keeps t (suc d) = keeps_more t d (keeps t d)

-- and lists its place

lists_by : (t : Trace) (d i : ℕ) (l : List ℕ) (b : Bool) → list_any (nat_eq i) l ≡ b → IsIn i (if b then l else visit_each (visit d t) (writers_of t i (slice_get t.ops i)) l ++ i ∷ [])
lists_by t d i l true e = in_any i l e
lists_by t d i l false e = append_in_right i (visit_each (visit d t) (writers_of t i (slice_get t.ops i)) l) (i ∷ []) (inl refl)

lists : (t : Trace) (d i : ℕ) (l : List ℕ) → IsIn i (visit (suc d) t i l)
unfolding visit
lists t d i l = lists_by t d i l (list_any (nat_eq i) l) refl

each_lists : (f : ℕ → List ℕ → List ℕ) → Keeps f → ((i : ℕ) (l : List ℕ) → IsIn i (f i l)) → (is l : List ℕ) (x : ℕ) → IsIn x is → IsIn x (visit_each f is l)
each_lists f keeps has [] l x h = absurd h
each_lists f keeps has (i ∷ is) l x h = ⊎_elim
    (λ e. each_keeps f keeps is (f i l) x (subst (λ j. IsIn j (f i l)) (sym e) (has i l)))
    (λ k. each_lists f keeps has is (f i l) x k)
    h

pub listed_all : (t : Trace) (i : ℕ) → i < length t.ops → IsIn i (listed t)
listed_all t i h =
    each_lists (visit (suc (length t.ops)) t) (keeps t (suc (length t.ops))) (λ j l. lists t (length t.ops) j l) (reverse (numbers 0 (length t.ops))) [] i
    (in_reverse i (numbers 0 (length t.ops)) (numbers_in 0 (length t.ops) i (omega arith) (omega (arith, h))))

-- where it is listed
pub got_at : (xs : List ℕ) (x : ℕ) → IsIn x xs → (k : ℕ) × (slice_get xs k ≡ Some x)
got_at [] x h = absurd h
got_at (y ∷ ys) x h = ⊎_elim (λ e. (0, ap Some (sym e))) (λ i. let r = got_at ys x i in (suc r.0, r.1)) h
