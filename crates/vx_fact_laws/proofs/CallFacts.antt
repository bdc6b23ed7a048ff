-- Facts are sound over calls: at the entry of what is called, and behind it.
use Rattle.std.proofs.Common.{◌≡◌, inl, inr, refl, zero, suc, ◌==◌, if◌then◌else◌, ◌++◌, ℕ, Bool, true, false, ℤ, Option, Some, None, List, [], ◌∷◌, map, subst}
use Rattle.std.specs.Prelude.{slice_index_or, take}
use Rattle.vx_flow.specs.declared.graph.Operand.{Operand}
use Rattle.vx_flow.specs.Effects.{Content, State, Setting, IsIn, held}
use Rattle.vx_flow.specs.Meaning.{known, with_front, at_entry, entered, undefined, with_result}
use Rattle.vx_claims.specs.declared.intervals.Interval.{Interval}
use Rattle.vx_claims.specs.declared.access.Access.{Access}
use Rattle.vx_claims.specs.declared.fact.Fact.{Fact}
use Rattle.vx_claims.specs.Facts.{full, Within, AllHold, range_of, names, kept_if, without, is_full, between_unless}
use Rattle.vx_claims.specs.Claims.{is_inside}
use Rattle.vx_narrow.specs.Checking.{are_passed, lie_in}
use Rattle.vx_narrow.proofs.Ranges.{and_one, and_two}
use Rattle.vx_narrow.proofs.Operations.{without_holds, lies_hold}
use Rattle.vx_fact_laws.specs.FactLaws.{Describe, EntryLaw, EnteredLaw, ReturnLaw, ReturnedLaw}
use Rattle.vx_fact_laws.proofs.FactSteps.{range_law, inside_holds}

-- each number lies in the interval of its place
abbrev NumbersWithin : List ℤ → List Interval → Type 0
NumbersWithin [] is = Unit {0}
NumbersWithin (n ∷ ns) [] = Unit {0}
NumbersWithin (n ∷ ns) (i ∷ is) = Within i (Some n) × NumbersWithin ns is

abbrev KnownWithin : Option (List ℤ) → List Interval → Type 0
KnownWithin None is = Unit {0}
KnownWithin (Some ns) is = NumbersWithin ns is

none_given : (o : Option (List ℤ)) → KnownWithin o []
none_given None = tt
none_given (Some []) = tt
none_given (Some (n ∷ ns)) = tt

front_within : (n : ℤ) (o : Option (List ℤ)) (i : Interval) (is : List Interval) → Within i (Some n) → KnownWithin o is → KnownWithin (with_front n o) (i ∷ is)
front_within n None i is w k = tt
front_within n (Some ns) i is w k = (w, k)

within_step : (x : Content) (xs : List Content) (i : Interval) (is : List Interval) → Within i x → KnownWithin (known xs) is → KnownWithin (known (x ∷ xs)) (i ∷ is)
within_step None xs i is w k = tt
within_step (Some n) xs i is w k = front_within n (known xs) i is w k

passed_within : (setting : Setting) (s : State) (fs : List Fact) (xs : List Access) (arguments : List Operand) (is : List Interval) → Describe setting fs xs s → are_passed fs arguments is ≡ true → KnownWithin (known (map (held s) arguments)) is
passed_within setting s fs xs [] is d e = tt
passed_within setting s fs xs (x ∷ rest) [] d e = none_given (known (map (held s) (x ∷ rest)))
passed_within setting s fs xs (x ∷ rest) (i ∷ is) d e =
    let one : Bool = is_inside (range_of fs x) i in
    let two : Bool = are_passed fs rest is in
    within_step (held s x) (map (held s) rest) i is (inside_holds (range_of fs x) i (held s x) (and_one one two e) (range_law setting s fs xs x d).0) (passed_within setting s fs xs rest is d (and_two one two e))

fewer_hold : (values : ℕ → Content) (v : ℕ) (fs : List Fact) → AllHold values fs → AllHold values (without v fs)
fewer_hold values v [] h = tt
fewer_hold values v (f ∷ fs) h = by (names v f) (fewer_hold values v fs h.1)
  where
    by : (t : Bool) → AllHold values (without v fs) → AllHold values (kept_if t f (without v fs))
    by true k = k
    by false k = (h.0, k)

-- what holds no number lies in every interval
unknown_hold : (qs : List ℕ) (is : List Interval) → AllHold (λ v. None) (lie_in qs is)
unknown_hold [] is = tt
unknown_hold (q ∷ qs) [] = tt
unknown_hold (q ∷ qs) (i ∷ is) = by (is_full i) (fewer_hold (λ v. None) q (lie_in qs is) (unknown_hold qs is))
  where
    by : (t : Bool) → AllHold (λ v. None) (without q (lie_in qs is)) → AllHold (λ v. None) (between_unless t q i (without q (lie_in qs is)))
    by true k = k
    by false k = (tt, k)

entry_holds : (qs : List ℕ) (is : List Interval) (ns : List ℤ) → NumbersWithin ns is → AllHold (at_entry qs ns) (lie_in qs is)
entry_holds [] is ns w = tt
entry_holds (q ∷ qs) [] ns w = tt
entry_holds (q ∷ qs) (i ∷ is) [] w = unknown_hold (q ∷ qs) (i ∷ is)
entry_holds (q ∷ qs) (i ∷ is) (n ∷ ns) w = lies_hold (at_entry qs ns) q (Some n) i (without q (lie_in qs is)) w.0 (without_holds (at_entry qs ns) q (Some n) (lie_in qs is) (entry_holds qs is ns w.1))

pub entry_law : EntryLaw
entry_law setting s fs xs arguments is parameters numbers d e k = entry_holds parameters is numbers (subst (λ (o : Option (List ℤ)). KnownWithin o is) k (passed_within setting s fs xs arguments is d e))

pub return_law : ReturnLaw
return_law values fs None n h = h
return_law values fs (Some r) n h = without_holds values r (Some n) fs h

-- ---- states

abbrev Fits : List Content → Type 0
Fits row = (i : ℕ) → Within full (slice_index_or row i None)

abbrev AllFit : List (List Content) → Type 0
AllFit rows = (a : ℕ) → Fits (slice_index_or rows a [])

undefined_fits : (n : ℕ) → Fits (undefined n)
undefined_fits zero i = tt
undefined_fits (suc n) zero = tt
undefined_fits (suc n) (suc i) = undefined_fits n i

none_fit : AllFit []
none_fit a i = tt

more_fit : (row : List Content) (rows : List (List Content)) → Fits row → AllFit rows → AllFit (row ∷ rows)
more_fit row rows f g zero = f
more_fit row rows f g (suc a) = g a

rest_fit : (row : List Content) (rows : List (List Content)) → AllFit (row ∷ rows) → AllFit rows
rest_fit row rows f a = f (suc a)

own_fit : (own : List ℕ) → AllFit (map undefined own)
own_fit [] = none_fit
own_fit (n ∷ own) = more_fit (undefined n) (map undefined own) (undefined_fits n) (own_fit own)

both_fit : (rows more : List (List Content)) → AllFit rows → AllFit more → AllFit (rows ++ more)
both_fit [] more f g = g
both_fit (row ∷ rows) more f g = more_fit row (rows ++ more) (f 0) (both_fit rows more (rest_fit row rows f) g)

some_fit : (n : ℕ) (rows : List (List Content)) → AllFit rows → AllFit (take n rows)
some_fit zero rows f = none_fit
some_fit (suc n) [] f = none_fit
some_fit (suc n) (row ∷ rows) f = more_fit row (take n rows) (f 0) (some_fit n rows (rest_fit row rows f))

passed_fit : (qs : List ℕ) (ns : List ℤ) → ((n : ℤ) → IsIn n ns → Within full (Some n)) → (v : ℕ) → Within full (at_entry qs ns v)
passed_fit [] ns h v = tt
passed_fit (q ∷ qs) [] h v = tt
passed_fit (q ∷ qs) (n ∷ ns) h v = by (v == q) (passed_fit qs ns (λ m i. h m (inr i)) v)
  where
    by : (t : Bool) → Within full (at_entry qs ns v) → Within full (if t then Some n else at_entry qs ns v)
    by true k = h n (inl refl)
    by false k = k

pub entered_law : EnteredLaw
entered_law setting inner s fs xs arguments is body numbers d e k h =
    record {
      facts = entry_law setting s fs xs arguments is body.parameters numbers d e k;
      accesses = tt;
      numbers = record { values = passed_fit body.parameters numbers h; words = both_fit s.arrays (map undefined body.own) d.numbers.words (own_fit body.own); input = d.numbers.input };
    }

back_fits : (values : ℕ → Content) (result : Option ℕ) (n : ℤ) → ((v : ℕ) → Within full (values v)) → Within full (Some n) → (v : ℕ) → Within full (with_result values result n v)
back_fits values None n f w v = f v
back_fits values (Some r) n f w v = by (v == r)
  where
    by : (t : Bool) → Within full (if t then Some n else values v)
    by true = w
    by false = f v

pub returned_law : ReturnedLaw
returned_law setting s u fs xs result n base d h w =
    record {
      facts = return_law s.values fs result n d.facts;
      accesses = tt;
      numbers = record { values = back_fits s.values result n d.numbers.values w; words = some_fit base u.arrays h.words; input = h.input };
    }
