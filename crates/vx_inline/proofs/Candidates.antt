-- Which sites are permitted, and which are candidates, by what is found and tested.
use Rattle.std.proofs.Common.{◌≡◌, ◌↔◌, ℕ, ◌+◌, Bool, true, false, ◌<◌, ◌≤◌, nat_lt, ltb-true, ltb-false, List, length, Option, Some, None, refl, sym, ap, ◌∙◌, subst, arith, IsTrue}
use Rattle.std.proofs.lemmas.Bool.{false≢true}
use Rattle.std.proofs.lemmas.Option.{slice_get_within}
use Rattle.vx_flow.specs.declared.graph.Flow.{Flow}
use Rattle.vx_flow.specs.Live.{IsLive}
use Rattle.vx_flow.specs.Rows.{is_marked, lives, row_at}
use Rattle.vx_flow.specs.Sound.{HasExit}
use Rattle.vx_flow.specs.declared.graph.Exit.TheVariants.{Call}
use Rattle.vx_profile.specs.declared.counts.Counts.{Counts}
use Rattle.vx_inline.specs.declared.site.Site.{Site}
use Rattle.vx_inline.specs.Choosing.{IsCandidate, exceeds, NoneIsWorthIt, MayBeBetter}
use Rattle.vx_inline.specs.Finding.{call_in}
use Rattle.vx_inline.specs.Fitting.{fits, has_few}
use Rattle.vx_inline.specs.Inlined.{TheCall, CallAt, Reaches, calls, through, Permitted}
use Rattle.vx_inline.specs.Keeping.{Knows}
use Rattle.vx_inline.specs.declared.known.Known.{Known}
use Rattle.vx_inline.specs.Permitting.{StandsApart, Entered, HasEnough, MayInline}
use Rattle.vx_inline.specs.Values.{has_values}
use Rattle.vx_inline.proofs.Depth.{get_in}
use Rattle.vx_inline.proofs.Finds.{call_there, call_found, CallFound}
use Rattle.vx_inline.proofs.Fits.{may_be, is_so, few_in_words, few_as_test}
use Rattle.vx_inline.proofs.Frees.{enough_exact}

-- ---- permitted

permitted_call : (flow : Flow) (site : Site) (c : CallAt flow site) → MayInline flow site.function c.parts → Permitted flow site
permitted_call flow site c m = record { call = c; free = m.enough.free; permitted = is_so flow site c m }

pub permitted_found : (flow : Flow) (site : Site) (c : TheCall) → call_in flow site ≡ Some c → MayInline flow site.function c ↔ Permitted flow site
permitted_found flow site c e = (there, back)
  where
    there : MayInline flow site.function c → Permitted flow site
    there m = let w : CallFound flow site c = call_found flow site c e in permitted_call flow site w.call (subst (MayInline flow site.function) (sym w.is) m)

    back : Permitted flow site → MayInline flow site.function c
    back p =
        let q : Option.Some p.call.parts ≡ Some c = sym (call_there flow site p.call) ∙ e in
        let is : p.call.parts ≡ c = cc in
        subst (MayInline flow site.function) is (may_be flow site p.call p.free p.permitted)

pub permitted_none : (flow : Flow) (site : Site) → call_in flow site ≡ None → Permitted flow site → ⊥
permitted_none flow site e p = let q : Option.Some p.call.parts ≡ None = sym (call_there flow site p.call) ∙ e in cc

-- ---- apart, where rows list what is reached

caller_low : (flow : Flow) (f g : ℕ) → Reaches flow f g → f < length flow.functions
caller_low flow f g (calls k) = slice_get_within flow.functions f k.graph k.is
caller_low flow f g (through k r) = slice_get_within flow.functions f k.graph k.is

pub apart_by : (flow : Flow) (rows : List (List ℕ)) (count f : ℕ) → ((g h : ℕ) → IsTrue (lives rows g h) ↔ Reaches flow g h) → count ≡ length flow.functions → lives rows f f ≡ false → (Entered rows count f → ⊥) → StandsApart flow f
apart_by flow rows count f exact n alone none = record {
  alone = λ o. false≢true (sym alone ∙ (exact f f).1 o);
  apart = λ g o r. none (record { other = g; below = (let l : g < length flow.functions = caller_low flow g g o in omega (arith, l, n)); cycle = (exact g g).1 o; reaches = (exact g f).1 r });
}

pub not_apart : (flow : Flow) (rows : List (List ℕ)) (count f : ℕ) → ((g h : ℕ) → IsTrue (lives rows g h) ↔ Reaches flow g h) → (lives rows f f ≡ false → Entered rows count f) → StandsApart flow f → ⊥
not_apart flow rows count f exact either s = by (lives rows f f) refl
  where
    by : (t : Bool) → lives rows f f ≡ t → ⊥
    by true e = s.alone ((exact f f).0 e)
    by false e = let w : Entered rows count f = either e in s.apart w.other ((exact w.other w.other).0 w.cycle) ((exact w.other f).0 w.reaches)

-- ---- candidates

pub candidate_by : (flow : Flow) (most : ℕ) (site : Site) (c : TheCall) → call_in flow site ≡ Some c → MayInline flow site.function c → has_few most c.callee.blocks ≡ true → IsCandidate flow most site
candidate_by flow most site c e m few =
    let w : CallFound flow site c = call_found flow site c e in
    let k : MayInline flow site.function w.call.parts = subst (MayInline flow site.function) (sym w.is) m in
    record { call = w.call; free = k.enough.free; permitted = is_so flow site w.call k; few = few_in_words w.call.parts.callee.blocks most (ap (λ (x : TheCall). has_few most x.callee.blocks) w.is ∙ few) }

pub record MayBeCandidate (flow : Flow) (most : ℕ) (site : Site) (c : TheCall) : Type 0 where
  pub may : MayInline flow site.function c
  pub few : has_few most c.callee.blocks ≡ true

pub candidate_may : (flow : Flow) (most : ℕ) (site : Site) (c : TheCall) → call_in flow site ≡ Some c → IsCandidate flow most site → MayBeCandidate flow most site c
candidate_may flow most site c e k =
    let q : Option.Some k.call.parts ≡ Some c = sym (call_there flow site k.call) ∙ e in
    let is : k.call.parts ≡ c = cc in
    record { may = subst (MayInline flow site.function) is (may_be flow site k.call k.free k.permitted); few = subst (λ (x : TheCall). has_few most x.callee.blocks ≡ true) is (few_as_test k.call.parts.callee.blocks most k.few) }

pub no_candidate : (flow : Flow) (most : ℕ) (site : Site) → call_in flow site ≡ None → IsCandidate flow most site → ⊥
no_candidate flow most site e k = let q : Option.Some k.call.parts ≡ None = sym (call_there flow site k.call) ∙ e in cc

pub apart_candidate : (flow : Flow) (most : ℕ) (site : Site) → IsCandidate flow most site → StandsApart flow site.function
apart_candidate flow most site k = (may_be flow site k.call k.free k.permitted).apart

-- ---- with the values that are free

module _ (flow : Flow) (counts : Counts) (most : ℕ) (best : Option Site) (site : Site) (c : TheCall) (has : Bool) (apart : StandsApart flow site.function) (m : MayBeBetter flow counts most best site c) (room : IsTrue has ↔ HasEnough c) where
  pub candidate_with : has ≡ true → IsCandidate flow most site
  candidate_with h = candidate_by flow most site c m.is (record { fits = m.fits; apart = apart; enough = room.0 h }) m.few

  pub none_with : has ≡ false → NoneIsWorthIt flow counts most best site
  none_with h k e =
      let w : MayBeCandidate flow most site c = candidate_may flow most site c m.is k in
      false≢true (sym h ∙ room.1 w.may.enough)

-- ---- by what is known

module _ (flow : Flow) (site : Site) (c : TheCall) (known : Known) (knows : Knows flow known) (e : call_in flow site ≡ Some c) where
  -- what is live behind the call
  pub behind_known : (v : ℕ) → IsTrue (lives (row_at known.live.items site.function) c.next v) ↔ IsLive c.caller c.next v
  behind_known =
      let w : CallFound flow site c = call_found flow site c e in
      let p : TheCall = w.call.parts in
      let here : HasExit p.caller (Call p.called p.arguments p.result p.next) = record { block = p.block; has = get_in p.caller.blocks site.block p.block w.call.is_block; ends = sym w.call.ends } in
      subst (λ (x : TheCall). (v : ℕ) → IsTrue (lives (row_at known.live.items site.function) x.next v) ↔ IsLive x.caller x.next v) w.is (knows.live site.function p.caller w.call.is_caller p.called p.next p.arguments p.result here)

  pub enough_known : (rows : List (List ℕ)) (has : Bool) → row_at known.live.items site.function ≡ rows → has ≡ has_values rows c → IsTrue has ↔ HasEnough c
  enough_known rows has r h =
      subst (λ t. IsTrue t ↔ HasEnough c) (sym h) (enough_exact rows c (subst (λ (l : List (List ℕ)). (v : ℕ) → IsTrue (lives l c.next v) ↔ IsLive c.caller c.next v) r behind_known))

  pub apart_known : is_marked known.apart.items site.function ≡ true → StandsApart flow site.function
  apart_known t =
      let w : CallFound flow site c = call_found flow site c e in
      (knows.apart site.function (slice_get_within flow.functions site.function w.call.parts.caller w.call.is_caller)).0 t

-- ---- what each test comes to

pub permitted_by : (flow : Flow) (site : Site) (c : TheCall) (may : Bool) → call_in flow site ≡ Some c → IsTrue may ↔ MayInline flow site.function c → IsTrue may ↔ Permitted flow site
permitted_by flow site c may e h = let w = permitted_found flow site c e in (λ t. w.0 (h.0 t), λ p. h.1 (w.1 p))

pub permitted_not : (flow : Flow) (site : Site) → call_in flow site ≡ None → IsTrue false ↔ Permitted flow site
permitted_not flow site e = (λ t. absurd (false≢true t), λ p. absurd (permitted_none flow site e p))

pub not_fitting : (flow : Flow) (f : ℕ) (c : TheCall) → fits c ≡ false → IsTrue false ↔ MayInline flow f c
not_fitting flow f c e = (λ t. absurd (false≢true t), λ m. absurd (false≢true (sym e ∙ m.fits)))

pub not_apart_may : (flow : Flow) (f : ℕ) (c : TheCall) (apart : Bool) → apart ≡ false → IsTrue apart ↔ StandsApart flow f → IsTrue false ↔ MayInline flow f c
not_apart_may flow f c apart e h = (λ t. absurd (false≢true t), λ m. absurd (false≢true (sym e ∙ h.1 m.apart)))

pub all_may : (flow : Flow) (f : ℕ) (c : TheCall) (apart has : Bool) → fits c ≡ true → apart ≡ true → IsTrue apart ↔ StandsApart flow f → IsTrue has ↔ HasEnough c → IsTrue has ↔ MayInline flow f c
all_may flow f c apart has e a h k = (λ t. record { fits = e; apart = h.0 a; enough = k.0 t }, λ m. k.1 m.enough)

pub apart_tested : (flow : Flow) (rows : List (List ℕ)) (count f : ℕ) (apart : Bool) → ((g h : ℕ) → IsTrue (lives rows g h) ↔ Reaches flow g h) → count ≡ length flow.functions →
    (apart ≡ true → lives rows f f ≡ false) → (apart ≡ true → Entered rows count f → ⊥) → (apart ≡ false → lives rows f f ≡ false → Entered rows count f) → IsTrue apart ↔ StandsApart flow f
apart_tested flow rows count f apart exact n alone none either = (λ t. apart_by flow rows count f exact n (alone t) (none t), λ s. back apart refl s)
  where
    back : (t : Bool) → apart ≡ t → StandsApart flow f → apart ≡ true
    back true e s = e
    back false e s = absurd (not_apart flow rows count f exact (either e) s)

pub enough_by : (rows : List (List ℕ)) (c : TheCall) (has : Bool) → ((b v : ℕ) → IsTrue (lives rows b v) ↔ IsLive c.caller b v) → has ≡ has_values rows c → IsTrue has ↔ HasEnough c
enough_by rows c has exact e = subst (λ t. IsTrue t ↔ HasEnough c) (sym e) (enough_exact rows c (λ v. exact c.next v))

-- a call that is worth it, or none

pub worth_found : (flow : Flow) (counts : Counts) (most : ℕ) (best : Option Site) (site : Site) (c : TheCall) → call_in flow site ≡ Some c → fits c ≡ true → has_few most c.callee.blocks ≡ true → exceeds counts best site ≡ true → MayBeBetter flow counts most best site c
worth_found flow counts most best site c e f few x = record { is = e; fits = f; few = few; exceeds = x }

pub worth_less : (flow : Flow) (counts : Counts) (most : ℕ) (best : Option Site) (site : Site) → exceeds counts best site ≡ false → NoneIsWorthIt flow counts most best site
worth_less flow counts most best site e k h = false≢true (sym e ∙ h)

pub worth_none : (flow : Flow) (counts : Counts) (most : ℕ) (best : Option Site) (site : Site) → call_in flow site ≡ None → NoneIsWorthIt flow counts most best site
worth_none flow counts most best site e k h = no_candidate flow most site e k

pub worth_unfit : (flow : Flow) (counts : Counts) (most : ℕ) (best : Option Site) (site : Site) (c : TheCall) → call_in flow site ≡ Some c → fits c ≡ false → NoneIsWorthIt flow counts most best site
worth_unfit flow counts most best site c e f k h = false≢true (sym f ∙ (candidate_may flow most site c e k).may.fits)

pub worth_many : (flow : Flow) (counts : Counts) (most : ℕ) (best : Option Site) (site : Site) (c : TheCall) → call_in flow site ≡ Some c → has_few most c.callee.blocks ≡ false → NoneIsWorthIt flow counts most best site
worth_many flow counts most best site c e f k h = false≢true (sym f ∙ (candidate_may flow most site c e k).few)

-- no function so far is on a cycle and reaches f, and one is

pub none_entered : (rows : List (List ℕ)) (count f i : ℕ) → count ≤ i → ((g : ℕ) → g < i → lives rows g g ≡ true → lives rows g f ≡ true → ⊥) → Entered rows count f → ⊥
none_entered rows count f i l h w = let k : w.other < count = w.below in h w.other (omega (arith, k, l)) w.cycle w.reaches

pub one_entered : (rows : List (List ℕ)) (count f g : ℕ) → g < count → lives rows g g ≡ true → lives rows g f ≡ true → Entered rows count f
one_entered rows count f g l c r = record { other = g; below = l; cycle = c; reaches = r }

pub none_next : (rows : List (List ℕ)) (f i : ℕ) → ((g : ℕ) → g < i → lives rows g g ≡ true → lives rows g f ≡ true → ⊥) → (lives rows i i ≡ true → lives rows i f ≡ true → ⊥) → (g : ℕ) → g < i + 1 → lives rows g g ≡ true → lives rows g f ≡ true → ⊥
none_next rows f i h n g l c r = by (nat_lt g i) refl
  where
    by : (t : Bool) → nat_lt g i ≡ t → ⊥
    by true e = h g (ltb-true g i e) c r
    by false e =
        let m : i ≤ g = ltb-false g i e in
        let q : g ≡ i = omega (arith, l, m) in
        n (subst (λ j. lives rows j j ≡ true) q c) (subst (λ j. lives rows j f ≡ true) q r)
