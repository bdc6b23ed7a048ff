-- Runs: checked facts hold wherever a block is entered.
use Rattle.std.proofs.Common.{◌≡◌, inl, inr, ℕ, zero, suc, ◌==◌, ◌+◌, Bool, true, false, ◌&&◌, ◌||◌, cond, ℤ, pos, int_le, nat_le, List, [], ◌∷◌, length, map, take, replicate, slice_get, slice_set, slice_index_or, Option, Some, None, refl, sym, subst, arith}
use Rattle.std.specs.List.{list_all}
use Rattle.std.specs.Option.{option_map}
use Rattle.std.proofs.lemmas.Int.{ints}
use Rattle.vx_base.specs.Arithmetic.{IsNumber}
use Rattle.vx_base.specs.Outcome.{Step, On, Over}
use Rattle.vx_flow.specs.declared.graph.Operand.{Operand}
use Rattle.vx_flow.specs.declared.graph.Operand.TheVariants.{Held}
use Rattle.vx_flow.specs.declared.graph.Array.{Array}
use Rattle.vx_flow.specs.declared.graph.Op.{Op}
use Rattle.vx_flow.specs.declared.graph.Exit.{Exit}
use Rattle.vx_flow.specs.declared.graph.Exit.TheVariants.{Goto, Split, Call, Return, Ends}
use Rattle.vx_flow.specs.declared.graph.Block.{Block}
use Rattle.vx_flow.specs.declared.graph.Graph.{Graph}
use Rattle.vx_flow.specs.declared.graph.Global.{Global}
use Rattle.vx_flow.specs.declared.graph.Flow.{Flow}
use Rattle.vx_flow.specs.Apart.{StandApart}
use Rattle.vx_flow.specs.Effects.{Content, State, Setting, IsIn, held, is_one, effect}
use Rattle.vx_flow.specs.Meaning.{Hop, Arrives, Calls, Leaves, Stops, Wrong, known, with_front, by_test, calls, leaves, leave, and_then, block_hop, hop_of, Body, Frame, Active, deepest, undefined, at_entry, entered, spots_for, enters_with, enters, with_result, returned, waits, after_hop, body_hop, hop, next, body_of, program_of, setting_with, setting_of, words_at_start, globals_at_start, entered_or, start}
use Rattle.vx_claims.specs.declared.claim.Claim.{Claim}
use Rattle.vx_claims.specs.declared.intervals.Interval.{Interval}
use Rattle.vx_claims.specs.declared.fact.Fact.{Fact}
use Rattle.vx_claims.specs.declared.fact.Fact.TheVariants.{Between, Congruent, Equals, Never}
use Rattle.vx_claims.specs.Facts.{full, Within, AllHold, range_of, residue_of, names, kept_if, without, without_written, is_full, between_unless, on_side, decided}
use Rattle.vx_claims.specs.declared.access.Access.{Access}
use Rattle.vx_claims.specs.Accesses.{AllTell, tell, accessed}
use Rattle.vx_claims.specs.Forming.{form, after_known, after_from, accessed_from, after_all, accessed_all}
use Rattle.vx_narrow.specs.Checking.{is_number, has_number, has_numbers, are_given, are_given_behind, is_against, are_given_on, are_passed, lie_in, is_entry_checked, parameters_of, is_exit_checked, is_left_checked, is_block_checked, Checked, Leads, FactsHold}
use Rattle.vx_claims.specs.Claims.{is_inside, is_never, gives, give}
use Rattle.vx_narrow.proofs.Congruences.{implied_holds}
use Rattle.vx_narrow.proofs.Ranges.{number_within, and_one, and_two, le_holds, Fit, range_of_holds, residue_of_holds}
use Rattle.vx_narrow.proofs.Equal.{has_holds}
use Rattle.vx_narrow.proofs.Tests.{side_holds, decided_side}
use Rattle.vx_narrow.proofs.Operations.{SpotsFit, number_fits, held_is, held_fits, RowsFit, NumbersFit, StateFit, rows_append, rows_take, without_holds, lies_hold, written_fits, Good}
use Rattle.vx_narrow.proofs.Behind.{Known, KeepsKnown, Claimed, form_known}
use Rattle.vx_narrow.proofs.Accesses.{tell_holds}
use Rattle.vx_shape.proofs.Sizes.{Sized, next_sized, start_sized}
use Rattle.vx_narrow.proofs.Spots.{Roomy, next_roomy, start_roomy, roomy_fits}

-- ---- claims

inside_holds : (i j : Interval) (c : Content) → is_inside i j ≡ true → Within i c → Within j c
inside_holds i j None e h = tt
inside_holds i j (Some z) e h =
    let l = le_holds j.low i.low (and_one (int_le j.low i.low) (int_le i.high j.high) e) in
    let g = le_holds i.high j.high (and_two (int_le j.low i.low) (int_le i.high j.high) e) in
    (omega (arith, ints, l, h.0), omega (arith, ints, g, h.1))

gives_holds : (values : ℕ → Content) (fs : List Fact) (f : Fact) → Fit values → AllHold values fs → gives fs f ≡ true → AllHold values (f ∷ [])
gives_holds values fs (Between v i) fit h e = (inside_holds (range_of fs (Held v)) i (values v) e (range_of_holds values fs (Held v) fit h), tt)
gives_holds values fs (Congruent v c) fit h e = (implied_holds (residue_of fs (Held v)) c (values v) e (residue_of_holds values fs (Held v) fit h), tt)
gives_holds values fs (Equals v code a b) fit h e = (has_holds values fs v code a b h e, tt)
gives_holds values fs Never fit h e = absurd (cc)

give_holds : (values : ℕ → Content) (fs claims : List Fact) → Fit values → AllHold values fs → give fs claims ≡ true → AllHold values claims
give_holds values fs [] fit h e = tt
give_holds values fs (f ∷ gs) fit h e = ((gives_holds values fs f fit h (and_one (gives fs f) (give fs gs) e)).0, give_holds values fs gs fit h (and_two (gives fs f) (give fs gs) e))

given_good : (setting : Setting) (s : State) (fs : List Fact) (xs : List Access) (claim : Claim) → Good fs s → AllTell setting s xs → are_given fs xs claim ≡ true → Claimed setting claim s
given_good setting s fs xs claim g h e = record {
  good = record { facts = give_holds s.values fs claim.facts g.fits.values g.facts (and_one (give fs claim.facts) (tell xs claim.accesses) e); fits = g.fits };
  tell = tell_holds setting s xs claim.accesses h (and_two (give fs claim.facts) (tell xs claim.accesses) e);
}

-- facts that hold do not say that no run comes to them
never_holds : (values : ℕ → Content) (fs : List Fact) → AllHold values fs → is_never fs ≡ false
never_holds values [] h = refl
never_holds values (Between v i ∷ fs) h = never_holds values fs h.1
never_holds values (Congruent v c ∷ fs) h = never_holds values fs h.1
never_holds values (Equals v code a b ∷ fs) h = never_holds values fs h.1
never_holds values (Never ∷ fs) h = absurd h.0

second_of : (a b : Bool) → a ≡ false → (a || b) ≡ true → b ≡ true
second_of true b e h = absurd (cc)
second_of false b e h = h

not_against : (answer : Bool) (o : Option Bool) → ((t : Bool) → o ≡ Some t → t ≡ answer) → is_against answer o ≡ false
not_against true None h = refl
not_against false None h = refl
not_against true (Some true) h = refl
not_against true (Some false) h = let e : false ≡ true = h false refl in absurd (cc)
not_against false (Some true) h = let e : true ≡ false = h true refl in absurd (cc)
not_against false (Some false) h = refl

-- ---- arguments

-- each number lies in the interval of its place
abbrev NumbersWithin : List ℤ → List Interval → Type 0
NumbersWithin [] is = Unit {0}
NumbersWithin (n ∷ ns) [] = Unit {0}
NumbersWithin (n ∷ ns) (i ∷ is) = Within i (Some n) × NumbersWithin ns is

abbrev KnownWithin : Option (List ℤ) → List Interval → Type 0
KnownWithin None is = Unit {0}
KnownWithin (Some ns) is = NumbersWithin ns is

none_given : (o : Option (List ℤ)) → KnownWithin o []
none_given None = tt
none_given (Some []) = tt
none_given (Some (n ∷ ns)) = tt

front_within : (n : ℤ) (o : Option (List ℤ)) (i : Interval) (is : List Interval) → Within i (Some n) → KnownWithin o is → KnownWithin (with_front n o) (i ∷ is)
front_within n None i is w k = tt
front_within n (Some ns) i is w k = (w, k)

within_step : (x : Content) (xs : List Content) (i : Interval) (is : List Interval) → Within i x → KnownWithin (known xs) is → KnownWithin (known (x ∷ xs)) (i ∷ is)
within_step None xs i is w k = tt
within_step (Some n) xs i is w k = front_within n (known xs) i is w k

operand_within : (s : State) (fs : List Fact) (x : Operand) (i : Interval) → Good fs s → is_inside (range_of fs x) i ≡ true → Within i (held s x)
operand_within s fs x i g e = inside_holds (range_of fs x) i (held s x) e (subst (Within (range_of fs x)) (sym (held_is s x)) (range_of_holds s.values fs x g.fits.values g.facts))

passed_within : (s : State) (fs : List Fact) (xs : List Operand) (is : List Interval) → Good fs s → are_passed fs xs is ≡ true → KnownWithin (known (map (held s) xs)) is
passed_within s fs [] is g e = tt
passed_within s fs (x ∷ xs) [] g e = none_given (known (map (held s) (x ∷ xs)))
passed_within s fs (x ∷ xs) (i ∷ is) g e =
    let one = is_inside (range_of fs x) i in
    let two = are_passed fs xs is in
    within_step (held s x) (map (held s) xs) i is (operand_within s fs x i g (and_one one two e)) (passed_within s fs xs is g (and_two one two e))

fewer_hold : (values : ℕ → Content) (v : ℕ) (fs : List Fact) → AllHold values fs → AllHold values (without v fs)
fewer_hold values v [] h = tt
fewer_hold values v (f ∷ fs) h = by (names v f) (fewer_hold values v fs h.1)
  where
    by : (t : Bool) → AllHold values (without v fs) → AllHold values (kept_if t f (without v fs))
    by true k = k
    by false k = (h.0, k)

-- what holds no number lies in every interval
unknown_hold : (qs : List ℕ) (is : List Interval) → AllHold (λ v. None) (lie_in qs is)
unknown_hold [] is = tt
unknown_hold (q ∷ qs) [] = tt
unknown_hold (q ∷ qs) (i ∷ is) = by (is_full i) (fewer_hold (λ v. None) q (lie_in qs is) (unknown_hold qs is))
  where
    by : (t : Bool) → AllHold (λ v. None) (without q (lie_in qs is)) → AllHold (λ v. None) (between_unless t q i (without q (lie_in qs is)))
    by true k = k
    by false k = (tt, k)

entry_holds : (qs : List ℕ) (is : List Interval) (ns : List ℤ) → NumbersWithin ns is → AllHold (at_entry qs ns) (lie_in qs is)
entry_holds [] is ns w = tt
entry_holds (q ∷ qs) [] ns w = tt
entry_holds (q ∷ qs) (i ∷ is) [] w = unknown_hold (q ∷ qs) (i ∷ is)
entry_holds (q ∷ qs) (i ∷ is) (n ∷ ns) w = lies_hold (at_entry qs ns) q (Some n) i (without q (lie_in qs is)) w.0 (without_holds (at_entry qs ns) q (Some n) (lie_in qs is) (entry_holds qs is ns w.1))

-- ---- exits

abbrev IsResumed : Claim → (ℕ → Content) → Option ℕ → Type 0
IsResumed claim values result = ((n : ℤ) → Within full (Some n) → AllHold (with_result values result n) claim.facts) × (tell [] claim.accesses ≡ true)

abbrev HopGood : (ℕ → List Interval) → (ℕ → Claim) → Setting → Hop → Type 0
HopGood given claims setting (Arrives from to t) = Claimed setting (claims to) t
HopGood given claims setting (Calls g arguments result from to t) = NumbersFit arguments × NumbersWithin arguments (given g) × StateFit t × IsResumed (claims to) t.values result
HopGood given claims setting (Leaves n t) = Within full (Some n) × StateFit t
HopGood given claims setting (Stops k t) = Unit {0}
HopGood given claims setting Wrong = Unit {0}

test_good : (given : ℕ → List Interval) (claims : ℕ → Claim) (setting : Setting) (x : Content) (a b : Hop) → ((z : ℤ) → x ≡ Some z → is_one z ≡ true → HopGood given claims setting a) → ((z : ℤ) → x ≡ Some z → is_one z ≡ false → HopGood given claims setting b) → HopGood given claims setting (by_test x a b)
test_good given claims setting None a b h k = tt
test_good given claims setting (Some z) a b h k = by (is_one z) refl
  where
    by : (t : Bool) → is_one z ≡ t → HopGood given claims setting (cond t a b)
    by true e = h z refl e
    by false e = k z refl e

abbrev KnownFit : Option (List ℤ) → Type 0
KnownFit None = Unit {0}
KnownFit (Some ns) = NumbersFit ns

front_fit : (n : ℤ) (o : Option (List ℤ)) → Within full (Some n) → KnownFit o → KnownFit (with_front n o)
front_fit n None f k = tt
front_fit n (Some ns) f k = (f, k)

known_step : (x : Content) (xs : List Content) → Within full x → KnownFit (known xs) → KnownFit (known (x ∷ xs))
known_step None xs f k = tt
known_step (Some n) xs f k = front_fit n (known xs) f k

known_fit : (s : State) (xs : List Operand) → Fit s.values → list_all has_number xs ≡ true → KnownFit (known (map (held s) xs))
known_fit s [] fit e = tt
known_fit s (x ∷ xs) fit e = known_step (held s x) (map (held s) xs) (held_fits s x fit (and_one (has_number x) (list_all has_number xs) e)) (known_fit s xs fit (and_two (has_number x) (list_all has_number xs) e))

result_holds : (values : ℕ → Content) (result : Option ℕ) (n : ℤ) (fs : List Fact) → AllHold values fs → AllHold (with_result values result n) (without_written result fs)
result_holds values None n fs h = h
result_holds values (Some r) n fs h = without_holds values r (Some n) fs h

pub result_fits : (values : ℕ → Content) (result : Option ℕ) (n : ℤ) → Fit values → Within full (Some n) → Fit (with_result values result n)
result_fits values None n fit f = fit
result_fits values (Some r) n fit f = written_fits values r (Some n) fit f

calls_good : (given : ℕ → List Interval) (claims : ℕ → Claim) (setting : Setting) (g : ℕ) (o : Option (List ℤ)) (result : Option ℕ) (b to : ℕ) (s : State) (fs : List Fact) → Good fs s → KnownFit o → KnownWithin o (given g) → are_given_behind (without_written result fs) (claims to) ≡ true → HopGood given claims setting (calls g o result b to s)
calls_good given claims setting g None result b to s fs good k w e = tt
calls_good given claims setting g (Some ns) result b to s fs good k w e =
    let behind = without_written result fs in
    let e1 = and_one (give behind (claims to).facts) (tell [] (claims to).accesses) e in
    let resumed : IsResumed (claims to) s.values result =
    ((λ n f. give_holds (with_result s.values result n) behind (claims to).facts (result_fits s.values result n good.fits.values f) (result_holds s.values result n fs good.facts) e1), and_two (give behind (claims to).facts) (tell [] (claims to).accesses) e) in
    (k, w, good.fits, resumed)

leaves_good : (given : ℕ → List Interval) (claims : ℕ → Claim) (setting : Setting) (x : Content) (s : State) → Within full x → StateFit s → HopGood given claims setting (leaves x s)
leaves_good given claims setting None s f g = tt
leaves_good given claims setting (Some n) s f g = (f, g)

side_good : (setting : Setting) (s : State) (fs : List Fact) (xs : List Access) (p : ℕ) (z : ℤ) (answer : Bool) (claim : Claim) → Good fs s → AllTell setting s xs → s.values p ≡ Some z → is_one z ≡ answer → are_given_on answer fs xs p claim ≡ true → Claimed setting claim s
side_good setting s fs xs p z answer claim g h is q e =
    let there : List Fact = on_side fs answer p in
    let led : is_against answer (decided fs p) ≡ false = not_against answer (decided fs p) (λ t d. decided_side s.values g.fits.values fs g.facts p z answer t is q d) in
    given_good setting s there xs claim (record { facts = side_holds s.values g.fits.values fs g.facts p z answer is q; fits = g.fits }) h (second_of (is_against answer (decided fs p)) (are_given there xs claim) led e)

leave_good : (given : ℕ → List Interval) (claims : ℕ → Claim) (setting : Setting) (b : ℕ) (exit : Exit) (s : State) (fs : List Fact) (xs : List Access) → Good fs s → AllTell setting s xs → is_exit_checked given claims fs xs exit ≡ true → HopGood given claims setting (leave b exit s)
leave_good given claims setting b (Goto c) s fs xs g h e = given_good setting s fs xs (claims c) g h e
leave_good given claims setting b (Split p c d) s fs xs g h e =
    let one = are_given_on true fs xs p (claims c) in
    let two = are_given_on false fs xs p (claims d) in
    test_good given claims setting (s.values p) (Arrives b c s) (Arrives b d s)
    (λ z is q. side_good setting s fs xs p z true (claims c) g h is q (and_one one two e))
    (λ z is q. side_good setting s fs xs p z false (claims d) g h is q (and_two one two e))
leave_good given claims setting b (Call f arguments result to) s fs xs g h e =
    let one = list_all has_number arguments in
    let two = are_passed fs arguments (given f) in
    let three = are_given_behind (without_written result fs) (claims to) in
    let rest = and_two one (two && three) e in
    calls_good given claims setting f (known (map (held s) arguments)) result b to s fs g (known_fit s arguments g.fits.values (and_one one (two && three) e)) (passed_within s fs arguments (given f) g (and_one two three rest)) (and_two two three rest)
leave_good given claims setting b (Return x) s fs xs g h e = leaves_good given claims setting (held s x) s (held_fits s x g.fits.values e) g.fits
leave_good given claims setting b (Ends k) s fs xs g h e = tt

-- ---- blocks

then_good : (given : ℕ → List Interval) (claims : ℕ → Claim) (setting : Setting) (fs : List Fact) (xs : List Access) (o : Option State) (f : State → Hop) → KeepsKnown setting fs xs o → ((t : State) → Known setting fs xs t → HopGood given claims setting (f t)) → HopGood given claims setting (and_then o f)
then_good given claims setting fs xs None f k h = tt
then_good given claims setting fs xs (Some t) f k h = h t k

ops_good : (arrays : List Array) (given : ℕ → List Interval) (claims : ℕ → Claim) (setting : Setting) → StandApart arrays setting.spot → SpotsFit setting → (b : ℕ) (ops : List Op) (exit : Exit) (fs : List Fact) (xs : List Access) (s : State) → Known setting fs xs s → list_all has_numbers ops ≡ true →
    is_left_checked given claims (after_from arrays fs xs ops) (accessed_from arrays fs xs ops) exit ≡ true → HopGood given claims setting (block_hop setting b ops exit s)
ops_good arrays given claims setting apart spots b [] exit fs xs s k n e = leave_good given claims setting b exit s fs xs k.good k.tell (second_of (is_never fs) (is_exit_checked given claims fs xs exit) (never_holds s.values fs k.good.facts) e)
ops_good arrays given claims setting apart spots b (op ∷ ops) exit fs xs s k n e =
    let fs' = after_known fs xs op (form fs xs op) in
    let xs' = accessed arrays xs (form fs xs op) in
    then_good given claims setting fs' xs' (effect setting s op s) (block_hop setting b ops exit) (form_known arrays setting apart spots s fs xs op (and_one (has_numbers op) (list_all has_numbers ops) n) k)
    (λ t h. ops_good arrays given claims setting apart spots b ops exit fs' xs' t h (and_two (has_numbers op) (list_all has_numbers ops) n) e)

block_good : (arrays : List Array) (given : ℕ → List Interval) (claims : ℕ → Claim) (setting : Setting) → StandApart arrays setting.spot → SpotsFit setting → (b : ℕ) (block : Block) (s : State) → Claimed setting (claims b) s → is_block_checked arrays given claims b block ≡ true → HopGood given claims setting (hop_of setting b (Some block) s)
block_good arrays given claims setting apart spots b block s k e =
    let one = list_all has_numbers block.ops in
    let two = is_left_checked given claims (after_all arrays (claims b) block.ops) (accessed_all arrays (claims b) block.ops) block.exit in
    ops_good arrays given claims setting apart spots b block.ops block.exit (claims b).facts (claims b).accesses s k (and_one one two e) (and_two one two e)

-- ---- programs

module _ (flow : Flow) (given : ℕ → List Interval) (claims : ℕ → ℕ → Claim) (checked : Checked flow given claims) where
  abbrev pub FramesGood : List Frame → Type 0
  FramesGood [] = Unit {0}
  FramesGood (f ∷ fs) = Fit f.values × IsResumed (claims f.function f.next) f.values f.result × FramesGood fs

  abbrev pub ClaimedAt : Active → Type 0
  ClaimedAt r = Claimed (setting_with (program_of flow) r.passed r.base) (claims r.function r.block) r.state

  pub record ActiveGood (r : Active) : Type 0 where
    pub known : ClaimedAt r
    pub frames : FramesGood r.waiting
    pub sized : Sized flow r
    pub roomy : Roomy flow checked.first checked.few r

  record StandsGood (r : Active) : Type 0 where
    known : ClaimedAt r
    frames : FramesGood r.waiting

  abbrev StepGood : Step Active → Type 0
  StepGood (On q) = StandsGood q
  StepGood (Over o) = Unit {0}

  hop_good : (r : Active) → ActiveGood r → HopGood given (claims r.function) (setting_with (program_of flow) r.passed r.base) (hop (program_of flow) r)
  hop_good r a = by (slice_get flow.functions r.function) refl
    where
      inner : (g : Graph) → slice_get flow.functions r.function ≡ Some g → (o : Option Block) → slice_get g.blocks r.block ≡ o → HopGood given (claims r.function) (setting_with (program_of flow) r.passed r.base) (hop_of (setting_with (program_of flow) r.passed r.base) r.block o r.state)
      inner g e None q = tt
      inner g e (Some block) q = block_good g.arrays given (claims r.function) (setting_with (program_of flow) r.passed r.base) (a.sized.apart g e) (roomy_fits flow checked.first checked.few r a.roomy g e) r.block block r.state a.known (checked.blocks r.function r.block g block e q)

      by : (o : Option Graph) → slice_get flow.functions r.function ≡ o → HopGood given (claims r.function) (setting_with (program_of flow) r.passed r.base) (body_hop (program_of flow) r (option_map (body_of (length flow.globals)) o))
      by None e = tt
      by (Some g) e = inner g e (slice_get g.blocks r.block) refl

  undefined_fits : (n j : ℕ) → Within full (slice_index_or (replicate n None) j None)
  undefined_fits zero j = tt
  undefined_fits (suc n) zero = tt
  undefined_fits (suc n) (suc j) = undefined_fits n j

  own_fit : (ns : List ℕ) → RowsFit (map undefined ns)
  own_fit [] p j = tt
  own_fit (n ∷ ns) zero j = undefined_fits n j
  own_fit (n ∷ ns) (suc p) j = own_fit ns p j

  entry_fits : (qs : List ℕ) (ns : List ℤ) → NumbersFit ns → Fit (at_entry qs ns)
  entry_fits [] ns f v = tt
  entry_fits (q ∷ qs) [] f v = tt
  entry_fits (q ∷ qs) (n ∷ ns) f v = by (v == q) (entry_fits qs ns f.1 v)
    where
      by : (t : Bool) → Within full (at_entry qs ns v) → Within full (cond t (Some n) (at_entry qs ns v))
      by true h = f.0
      by false h = h

  entered_good : (g : ℕ) (body : Body) (ns : List ℤ) (s : State) (setting : Setting) → is_entry_checked (given g) body.parameters (claims g 0) ≡ true → NumbersFit ns → NumbersWithin ns (given g) → StateFit s → Claimed setting (claims g 0) (entered body ns s)
  entered_good g body ns s setting e f w k =
      let t = entered body ns s in
      let fits : StateFit t = record { values = entry_fits body.parameters ns f; rows = rows_append s.arrays (map undefined body.own) k.rows (own_fit body.own); input = k.input } in
      given_good setting t (lie_in body.parameters (given g)) [] (claims g 0) (record { facts = entry_holds body.parameters (given g) ns w; fits = fits }) tt e

  abbrev body_by : Option Graph → Option Body
  body_by o = option_map (body_of (length flow.globals)) o

  enters_good : (g : ℕ) (o : Option Graph) (ns : List ℤ) (s : State) (fs : List Frame) → is_entry_checked (given g) (parameters_of o) (claims g 0) ≡ true → NumbersFit ns → NumbersWithin ns (given g) → StateFit s → FramesGood fs → StepGood (enters g (body_by o) ns s fs)
  enters_good g None ns s fs e f w k h = tt
  enters_good g (Some graph) ns s fs e f w k h = by (spots_for (body_by (Some graph)) ns s)
    where
      by : (spots : Option (List (Option ℕ))) → StepGood (enters_with g (body_by (Some graph)) ns s fs spots)
      by None = tt
      by (Some passed) = record { known = entered_good g (body_of (length flow.globals) graph) ns s (setting_with (program_of flow) passed (length s.arrays)) e f w k; frames = h }

  returned_good : (n : ℤ) (s : State) (base : ℕ) (fs : List Frame) → Within full (Some n) → StateFit s → FramesGood fs → StepGood (returned n s base fs)
  returned_good n s base [] f k h = tt
  returned_good n s base (g ∷ fs) f k h =
      let t : State = record s { values = with_result g.values g.result n; arrays = take base s.arrays } in
      let setting : Setting = setting_with (program_of flow) g.passed g.base in
      record {
        known = record {
          good = record { facts = h.1.0 n f; fits = record { values = result_fits g.values g.result n h.0 f; rows = rows_take base s.arrays k.rows; input = k.input } };
          tell = tell_holds setting t [] (claims g.function g.next).accesses tt h.1.1;
        };
        frames = h.2;
      }

  cond_good : (t : Bool) (a b : Step Active) → StepGood a → StepGood b → StepGood (cond t a b)
  cond_good true a b h k = h
  cond_good false a b h k = k

  after_good : (r : Active) (h : Hop) → ActiveGood r → HopGood given (claims r.function) (setting_with (program_of flow) r.passed r.base) h → StepGood (after_hop (program_of flow) r h)
  after_good r (Arrives from to s) a k = record { known = k; frames = a.frames }
  after_good r (Calls g ns result from to s) a k =
      let p = program_of flow in
      cond_good (nat_le deepest (length r.waiting + 1)) _ (enters g (p.body g) ns s (waits r result from to s ∷ r.waiting)) tt
      (enters_good g (slice_get flow.functions g) ns s (waits r result from to s ∷ r.waiting) (checked.entries g) k.0 k.1 k.2 (k.2.values, k.3, a.frames))
  after_good r (Leaves n s) a k = returned_good n s r.base r.waiting k.0 k.1 a.frames
  after_good r (Stops t s) a k = tt
  after_good r Wrong a k = tt

  step_good : (r q : Active) (x : Step Active) → StepGood x → x ≡ On q → StandsGood q
  step_good r q x k e = subst StepGood e k

  pub next_good : (r q : Active) → ActiveGood r → next (program_of flow) r ≡ On q → ActiveGood q
  next_good r q a e =
      let k = step_good r q (next (program_of flow) r) (after_good r (hop (program_of flow) r) a (hop_good r a)) e in
      record { known = k.known; frames = k.frames; sized = next_sized flow checked.first r q a.sized e; roomy = next_roomy flow checked.first checked.few r q a.roomy e }

  leads_good : (n : ℕ) (r q : Active) → ActiveGood r → Leads flow n r q → ActiveGood q
  leads_good zero r q a l = subst ActiveGood l a
  leads_good (suc n) r q a l = leads_good n l.0 q (next_good r l.0 a l.1) l.2

  -- the start

  zeros_fit : (n j : ℕ) → Within full (slice_index_or (replicate n (Some (pos 0))) j None)
  zeros_fit zero j = tt
  zeros_fit (suc n) zero = number_fits (pos 0) refl
  zeros_fit (suc n) (suc j) = zeros_fit n j

  set_first : (xs : List Content) (c : Content) → Within full c → ((j : ℕ) → Within full (slice_index_or xs j None)) → (j : ℕ) → Within full (slice_index_or (slice_set xs 0 c) j None)
  set_first [] c f h j = h j
  set_first (x ∷ xs) c f h zero = f
  set_first (x ∷ xs) c f h (suc j) = h (suc j)

  globals_fit : (gs : List Global) → list_all (λ (g : Global). is_number g.first) gs ≡ true → RowsFit (map words_at_start gs)
  globals_fit [] e p j = tt
  globals_fit (g ∷ gs) e zero j = set_first (replicate g.words (Some (pos 0))) (Some g.first) (number_fits g.first (and_one (is_number g.first) (list_all (λ (g : Global). is_number g.first) gs) e)) (zeros_fit g.words) j
  globals_fit (g ∷ gs) e (suc p) j = globals_fit gs (and_two (is_number g.first) (list_all (λ (g : Global). is_number g.first) gs) e) p j

  input_fits : (ns : List ℤ) → ((n : ℤ) → IsIn n ns → IsNumber n) → NumbersFit ns
  input_fits [] h = tt
  input_fits (n ∷ ns) h = (number_within n (h n (inl refl)), input_fits ns (λ m i. h m (inr i)))

  start_fits : (input : List ℤ) → ((n : ℤ) → IsIn n input → IsNumber n) → StateFit (globals_at_start flow input)
  start_fits input h = record { values = λ v. tt; rows = globals_fit flow.globals checked.globals; input = input_fits input h }

  start_by : (o : Option Graph) (input : List ℤ) (setting : Setting) → is_entry_checked (given flow.main) (parameters_of o) (claims flow.main 0) ≡ true → ((n : ℤ) → IsIn n input → IsNumber n) → Claimed setting (claims flow.main 0) (entered_or (body_by o) (globals_at_start flow input))
  start_by None input setting e h = given_good setting (globals_at_start flow input) [] [] (claims flow.main 0) (record { facts = tt; fits = start_fits input h }) tt e
  start_by (Some graph) input setting e h = entered_good flow.main (body_of (length flow.globals) graph) [] (globals_at_start flow input) setting e tt tt (start_fits input h)

  pub start_good : (input : List ℤ) → ((n : ℤ) → IsIn n input → IsNumber n) → ActiveGood (start flow input)
  start_good input h = let p = program_of flow in record { known = start_by (slice_get flow.functions flow.main) input (setting_of p (start flow input).base) (checked.entries flow.main) h; frames = tt; sized = start_sized flow input; roomy = start_roomy flow checked.first checked.few input }

  pub reached_good : (input : List ℤ) → ((n : ℤ) → IsIn n input → IsNumber n) → (n : ℕ) (r : Active) → Leads flow n (start flow input) r → ActiveGood r
  reached_good input h n r l = leads_good n (start flow input) r (start_good input h) l

pub facts_hold : FactsHold
facts_hold flow given claims checked input h n r l = (reached_good flow given claims checked input h n r l).known.good.facts
