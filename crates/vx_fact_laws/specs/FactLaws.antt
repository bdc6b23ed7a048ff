-- Which states facts describe, and that what the analysis makes of facts is sound.
use Rattle.std.specs.Prelude.{◌≡◌, ◌<◌, ℕ, Bool, true, ℤ, pos, Option, Some, None, List, [], ◌∷◌, map, slice_index_or, take}
use Rattle.std.specs.List.{list_all}
use Rattle.vx_flow.specs.declared.graph.Operand.{Operand}
use Rattle.vx_flow.specs.declared.graph.Op.{Op}
use Rattle.vx_flow.specs.declared.graph.Array.{Array}
use Rattle.vx_flow.specs.Apart.{StandApart}
use Rattle.vx_flow.specs.Effects.{Content, State, Setting, IsIn, held, is_one, row_of, effect}
use Rattle.vx_flow.specs.Meaning.{Body, known, at_entry, entered, with_result}
use Rattle.vx_claims.specs.declared.intervals.Interval.{Interval}
use Rattle.vx_claims.specs.declared.access.Access.{Access}
use Rattle.vx_claims.specs.declared.claim.Claim.{Claim}
use Rattle.vx_claims.specs.declared.fact.Fact.{Fact}
use Rattle.vx_claims.specs.Residues.{Agrees}
use Rattle.vx_claims.specs.Facts.{full, Within, AllHold, range_of, residue_of, without_written, on_side, decided}
use Rattle.vx_claims.specs.Accesses.{AllTell, accessed, tell}
use Rattle.vx_claims.specs.Forming.{form, after_known, after_from, accessed_from}
use Rattle.vx_claims.specs.Claims.{is_never, give}
use Rattle.vx_narrow.specs.Shortening.{shortened}
use Rattle.vx_narrow.specs.Checking.{most_arrays, has_numbers, are_passed, lie_in}

-- each number of a state has 32 bits: those of its values, of the words of its arrays and of the input that is left
pub record HasNumbers (s : State) : Type 0 where
  pub values : (v : ℕ) → Within full (s.values v)
  pub words : (a i : ℕ) → Within full (slice_index_or (row_of s a) i None)
  pub input : (n : ℤ) → IsIn n s.input → Within full (Some n)

-- where each array stands that a function may have is a number of 32 bits
abbrev pub StandLow : (ℕ → ℕ) → Type 0
StandLow spot = (a : ℕ) → a < most_arrays → Within full (Some (pos (spot a)))

-- the facts hold of the values of the state, and the accesses tell the truth of its arrays, and its numbers have 32 bits: the states
-- that they stand for (their concretization: Cousot and Cousot, 1977)
pub record Describe (setting : Setting) (fs : List Fact) (xs : List Access) (s : State) : Type 0 where
  pub facts : AllHold s.values fs
  pub accesses : AllTell setting s xs
  pub numbers : HasNumbers s

-- the transfer function is sound: where facts and accesses describe the state before an operation, those told behind it describe
-- the state behind it
abbrev pub BehindLaw : Type 0
BehindLaw =
    (arrays : List Array) (setting : Setting) → StandApart arrays setting.spot → StandLow setting.spot → (s t : State) (fs : List Fact) (xs : List Access) (op : Op) → has_numbers op ≡ true → Describe setting fs xs s →
    effect setting s op s ≡ Some t → Describe setting (after_known fs xs op (form fs xs op)) (accessed arrays xs (form fs xs op)) t

-- of the accesses alone, whatever the operation reads
abbrev pub AccessLaw : Type 0
AccessLaw = (arrays : List Array) (setting : Setting) → StandApart arrays setting.spot → (s t : State) (xs : List Access) (op : Op) → AllTell setting s xs → effect setting s op s ≡ Some t → AllTell setting t (accessed arrays xs op)

-- operations one after the other lead from a state to another
abbrev pub OpsLead : Setting → List Op → State → State → Type 0
OpsLead setting [] s t = s ≡ t
OpsLead setting (op ∷ ops) s t = (u : State) × (effect setting s op s ≡ Some u) × OpsLead setting ops u t

-- so is that of a block: behind operations that lead to a state, what is told there describes it
abbrev pub BlockLaw : Type 0
BlockLaw =
    (arrays : List Array) (setting : Setting) → StandApart arrays setting.spot → StandLow setting.spot → (s t : State) (fs : List Fact) (xs : List Access) (ops : List Op) → list_all has_numbers ops ≡ true → Describe setting fs xs s →
    OpsLead setting ops s t → Describe setting (after_from arrays fs xs ops) (accessed_from arrays fs xs ops) t

-- so is that of a split: on the side that the number of its test takes, what is told there describes the state
abbrev pub SideLaw : Type 0
SideLaw = (setting : Setting) (s : State) (fs : List Fact) (xs : List Access) (p : ℕ) (z : ℤ) → Describe setting fs xs s → s.values p ≡ Some z → Describe setting (on_side fs (is_one z) p) xs s

-- so is that of a call: where by the facts each argument lies in the interval of its place, the parameters lie there at the entry
abbrev pub EntryLaw : Type 0
EntryLaw =
    (setting : Setting) (s : State) (fs : List Fact) (xs : List Access) (arguments : List Operand) (is : List Interval) (parameters : List ℕ) (numbers : List ℤ) → Describe setting fs xs s → are_passed fs arguments is ≡ true →
    known (map (held s) arguments) ≡ Some numbers → AllHold (at_entry parameters numbers) (lie_in parameters is)

-- the state there is then described by that alone: nothing is known of arrays
abbrev pub EnteredLaw : Type 0
EnteredLaw =
    (setting inner : Setting) (s : State) (fs : List Fact) (xs : List Access) (arguments : List Operand) (is : List Interval) (body : Body) (numbers : List ℤ) → Describe setting fs xs s → are_passed fs arguments is ≡ true →
    known (map (held s) arguments) ≡ Some numbers → ((n : ℤ) → IsIn n numbers → Within full (Some n)) → Describe inner (lie_in body.parameters is) [] (entered body numbers s)

-- and behind it, whatever number it gives, the facts hold that do not name its result
abbrev pub ReturnLaw : Type 0
ReturnLaw = (values : ℕ → Content) (fs : List Fact) (result : Option ℕ) (n : ℤ) → AllHold values fs → AllHold (with_result values result n) (without_written result fs)

-- where s is the state at the call, and u the one in which it ends, they describe the state that the caller goes on with
abbrev pub ReturnedLaw : Type 0
ReturnedLaw =
    (setting : Setting) (s u : State) (fs : List Fact) (xs : List Access) (result : Option ℕ) (n : ℤ) (base : ℕ) → Describe setting fs xs s → HasNumbers u → Within full (Some n) →
    Describe setting (without_written result fs) [] (record u { values = with_result s.values result n; arrays = take base u.arrays })

-- the order is sound: a claim that facts and accesses give describes each state that they describe
abbrev pub GivenLaw : Type 0
GivenLaw =
    (setting : Setting) (s : State) (fs : List Fact) (xs : List Access) (claim : Claim) → Describe setting fs xs s → give fs claim.facts ≡ true → tell xs claim.accesses ≡ true → Describe setting claim.facts claim.accesses s

-- facts that say that no run comes there describe no state
abbrev pub NeverLaw : Type 0
NeverLaw = (setting : Setting) (s : State) (fs : List Fact) (xs : List Access) → Describe setting fs xs s → is_never fs ≡ true → ⊥

-- what an operand holds lies in the interval that facts give, and has the low bits that they give
abbrev pub RangeLaw : Type 0
RangeLaw = (setting : Setting) (s : State) (fs : List Fact) (xs : List Access) (x : Operand) → Describe setting fs xs s → Within (range_of fs x) (held s x) × Agrees (residue_of fs x) (held s x)

-- a test that facts decide comes out so, where it is a number
abbrev pub DecidedLaw : Type 0
DecidedLaw = (setting : Setting) (s : State) (fs : List Fact) (xs : List Access) (p : ℕ) (z : ℤ) (answer : Bool) → Describe setting fs xs s → s.values p ≡ Some z → decided fs p ≡ Some answer → is_one z ≡ answer

-- in the form that facts and accesses give it, an operation with a meaning does the same
abbrev pub FormLaw : Type 0
FormLaw =
    (setting : Setting) → StandLow setting.spot → (s t : State) (fs : List Fact) (xs : List Access) (op : Op) → has_numbers op ≡ true → Describe setting fs xs s → effect setting s op s ≡ Some t → effect setting s (form fs xs op) s ≡ Some t

-- in one operation for two half products and their sum, or with a mask of one further behind, it does too
abbrev pub ShortenedLaw : Type 0
ShortenedLaw = (setting : Setting) (s : State) (fs : List Fact) (xs : List Access) (op : Op) → Describe setting fs xs s → effect setting s (shortened fs op) s ≡ effect setting s op s
