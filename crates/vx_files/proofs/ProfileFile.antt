-- What the reading of a profile's file says of its counts.
use Rattle.std.proofs.Common.{◌≡◌, ◌∙◌, ◌≢◌, ◌⊎◌, inl, inr, ℕ, ◌+◌, List, [], ◌∷◌, ◌++◌, length, length-append, Option, Some, None, IfSome, MatchOption, refl, sym, ap, subst, arith}
use Rattle.std.specs.Prelude.{Vec, ◌≤◌, ◌<◌, ◌^◌}
use Rattle.std.specs.List.{flat_map}
use Rattle.std.specs.declared.alloc.Global.{Global}
use Rattle.std.proofs.lemmas.Bool.{ltb-true}
use Rattle.vx_io.specs.Outside.{Files}
use Rattle.vx_io.specs.Reading.{ReadsFile}
use Rattle.vx_io.specs.declared.whole_file.FileRead.TheVariants.{Whole, TooLong as FileTooLong}
use Rattle.vx_io.specs.declared.role.Role.TheVariants.{Profile as TheProfile}
use Rattle.vx_profile.specs.declared.counts.Counts.{Counts}
use Rattle.vx_profile.specs.declared.fault.ProfileFault.{ProfileFault}
use Rattle.vx_profile.specs.declared.fault.ProfileFault.TheVariants.{BadLine, CountTooLarge, NoMemory as NoRoomForCounts}
use Rattle.vx_flow.specs.Meaning.{Visit, AtBlock, AlongEdge}
use Rattle.vx_profile.specs.Text.{Row, Reaches, FaultAt, Spells, header, row_text}
use Rattle.vx_profile.proofs.Once.{spelled_without_fault, fault_once}
use Rattle.vx_status.specs.declared.status.Status.{Status}
use Rattle.vx_status.specs.declared.status.Status.TheVariants.{Limit, Profile, NoFile, NoMemory}
use Rattle.vx_files.specs.Held.{most_profile_bytes, HoldsCounts, status_of_profile, BadProfile, NoCountsIn, AreCounts, ProfileStands, RefusesProfile}
use Rattle.vx_files.specs.Effects.{Effect, ReadsRose, SameFiles, OfFile, ProfileAnswers}
use Rattle.vx_files.proofs.WholeFile.{Unread}

-- the lines of few bytes are few

row_has : (row : Row) → 0 < length (row_text row)
row_has row = by row.visit row.count
  where
    by : (v : Visit) (n : ℕ) → 0 < length (row_text (record { visit = v; count = n }))
    by (AtBlock f b) n = omega arith
    by (AlongEdge f b c) n = omega arith

rows_have : (rows : List Row) → length rows ≤ length (flat_map row_text rows)
rows_have [] = omega arith
rows_have (row ∷ rows) =
    let a : length (row_text row ++ flat_map row_text rows) ≡ length (row_text row) + length (flat_map row_text rows) = length-append (row_text row) (flat_map row_text rows) in
    let b = row_has row in
    let c = rows_have rows in
    omega (arith, a, b, c)

reached : (bytes : List ℕ) (line : ℕ) (rest : List ℕ) → Reaches bytes line rest → line ≤ length bytes + 2
reached bytes line rest r =
    let a : length bytes ≡ length ((header ++ flat_map row_text r.before) ++ rest) = ap (λ (xs : List ℕ). length xs) r.text in
    let b : length ((header ++ flat_map row_text r.before) ++ rest) ≡ length (header ++ flat_map row_text r.before) + length rest = length-append (header ++ flat_map row_text r.before) rest in
    let c : length (header ++ flat_map row_text r.before) ≡ length header + length (flat_map row_text r.before) = length-append header (flat_map row_text r.before) in
    let d = rows_have r.before in
    let e : line ≡ length r.before + 2 = r.number in
    omega (arith, a, b, c, d, e)

below : (high bound n : ℕ) → high < bound → n ≤ high → n < bound
below high bound n less is = omega (arith, less, is)

few_lines : (n line : ℕ) → n ≤ 16777216 → line ≤ n + 2 → line ≤ 16777218
few_lines n line few le = omega (arith, few, le)

fits : (n line : ℕ) → n ≤ 16777216 → line ≤ n + 2 → line < 2 ^ 32
fits n line few le = below 16777218 (2 ^ 32) line (ltb-true _ _ refl) (few_lines n line few le)

first_line : (n line : ℕ) → line ≡ 1 → line ≤ n + 2
first_line n line is = omega (arith, is)

bad_line_fits : (bytes : List ℕ) (line : ℕ) → length bytes ≤ 16777216 → FaultAt bytes (BadLine line) → line < 2 ^ 32
bad_line_fits bytes line short (inl first) = fits (length bytes) line short (first_line (length bytes) line first.0)
bad_line_fits bytes line short (inr later) = fits (length bytes) line short (reached bytes line later.0 later.1)

large_count_fits : (bytes : List ℕ) (line : ℕ) → length bytes ≤ 16777216 → FaultAt bytes (CountTooLarge line) → line < 2 ^ 32
large_count_fits bytes line short f = fits (length bytes) line short (reached bytes line f.0 f.1)

-- a fault that is one of these, and was the first

pub bad_line_named : (bytes : List ℕ) (fault : ProfileFault) (line : ℕ) → length bytes ≤ 16777216 → fault ≡ BadLine line → (fault ≢ NoRoomForCounts → FaultAt bytes fault) → line < 2 ^ 32
bad_line_named bytes fault line short is first = bad_line_fits bytes line short (subst (FaultAt bytes) is (first (λ e. cc)))

pub large_count_named : (bytes : List ℕ) (fault : ProfileFault) (line : ℕ) → length bytes ≤ 16777216 → fault ≡ CountTooLarge line → (fault ≢ NoRoomForCounts → FaultAt bytes fault) → line < 2 ^ 32
large_count_named bytes fault line short is first = large_count_fits bytes line short (subst (FaultAt bytes) is (first (λ e. cc)))

-- a fault and its status

pub bad_profile : (bytes : List ℕ) (fault : ProfileFault) (status : Status) → length bytes ≤ 16777216 → (fault ≢ NoRoomForCounts → FaultAt bytes fault) → status ≡ status_of_profile fault →
    (status ≡ NoMemory) ⊎ BadProfile bytes status
bad_profile bytes (BadLine line) status short first is = inr (record { short = short; fault = BadLine line; first_bad = first (λ e. cc); status_is = is })
bad_profile bytes (CountTooLarge line) status short first is = inr (record { short = short; fault = CountTooLarge line; first_bad = first (λ e. cc); status_is = is })
bad_profile bytes NoRoomForCounts status short first is = inl is

-- a file that was read whole, one that is too long, and one that is not there

pub spelled : (b : Option Files) (name : List ℕ) (bytes : Vec ℕ Global) (counts : Counts) → IfSome b (λ held. ReadsFile held name 16777216 (Whole bytes)) → Spells bytes.items counts →
    IfSome b (λ held. HoldsCounts held name counts)
spelled None name bytes counts h s = tt
spelled (Some held) name bytes counts h s = record {
  content = h.content;
  holds = h.holds;
  short = h.answers.1;
  spells = subst (λ content. Spells content counts) h.answers.0 s;
}

bad_in : (b : Option Files) (name : List ℕ) (bytes : Vec ℕ Global) (status : Status) → IfSome b (λ held. ReadsFile held name 16777216 (Whole bytes)) → BadProfile bytes.items status →
    OfFile b (λ held. NoCountsIn (held name) status) (λ content. BadProfile content status)
bad_in None name bytes status h bad = (bytes.items, bad)
bad_in (Some held) name bytes status h bad =
    subst (λ o. NoCountsIn o status) (sym h.holds) (inr (subst (λ content. BadProfile content status) h.answers.0 bad))

refused_by : (name : List ℕ) (bytes : Vec ℕ Global) (e : Effect) (fault : ProfileFault) (status : Status) → SameFiles e → IfSome e.before (λ held. ReadsFile held name 16777216 (Whole bytes)) →
    BadProfile bytes.items status → status ≡ status_of_profile fault → ProfileAnswers (Some name) e status
refused_by name bytes e (BadLine line) status same h bad is =
    subst (ProfileAnswers (Some name) e) (sym is) (same, bad_in e.before name bytes (Profile 1 line) h (subst (BadProfile bytes.items) is bad))
refused_by name bytes e (CountTooLarge line) status same h bad is =
    subst (ProfileAnswers (Some name) e) (sym is) (same, bad_in e.before name bytes (Profile 2 line) h (subst (BadProfile bytes.items) is bad))
refused_by name bytes e NoRoomForCounts status same h bad is = subst (ProfileAnswers (Some name) e) (sym is) same

pub refused : (name : List ℕ) (bytes : Vec ℕ Global) (e : Effect) (status : Status) → SameFiles e → IfSome e.before (λ held. ReadsFile held name 16777216 (Whole bytes)) →
    ((status ≡ NoMemory) ⊎ BadProfile bytes.items status) → ProfileAnswers (Some name) e status
refused name bytes e status same h (inl memory) = subst (ProfileAnswers (Some name) e) (sym memory) same
refused name bytes e status same h (inr bad) = refused_by name bytes e bad.fault status same h bad bad.status_is

long_in : (b : Option Files) (name : List ℕ) → IfSome b (λ held. ReadsFile held name 16777216 FileTooLong) → IfSome b (λ held. NoCountsIn (held name) (Limit 10 16777217))
long_in None name h = tt
long_in (Some held) name h = subst (λ o. NoCountsIn o (Limit 10 16777217)) (sym h.holds) (inl (record { long = h.answers; status_is = refl }))

pub too_long : (name : List ℕ) (e : Effect) → SameFiles e → IfSome e.before (λ held. ReadsFile held name 16777216 FileTooLong) → ProfileAnswers (Some name) e (Limit 10 16777217)
too_long name e same h = (refl, refl, same, long_in e.before name h)

missing_in : (b : Option Files) (name : List ℕ) (Rises : Type 0) → MatchOption b Rises (λ held. held name ≡ None) → MatchOption b Rises (λ held. NoCountsIn (held name) (NoFile TheProfile))
missing_in None name Rises h = h
missing_in (Some held) name Rises h = subst (λ o. NoCountsIn o (NoFile TheProfile)) (sym h) refl

pub missing : (name : List ℕ) (e : Effect) → SameFiles e → MatchOption e.before (ReadsRose e) (λ held. held name ≡ None) → ProfileAnswers (Some name) e (NoFile TheProfile)
missing name e same h = (refl, same, missing_in e.before name (ReadsRose e) h)

pub unread : (name : List ℕ) (e : Effect) (status : Status) → SameFiles e → Unread TheProfile 16777216 (Limit 10 16777217) name e status → ProfileAnswers (Some name) e status
unread name e status same (inl memory) = subst (ProfileAnswers (Some name) e) (sym memory) same
unread name e status same (inr (inl failed)) = subst (ProfileAnswers (Some name) e) (sym failed.0) (refl, same, failed.1)
unread name e status same (inr (inr (inl absent))) = subst (ProfileAnswers (Some name) e) (sym absent.0) (missing name e same absent.1)
unread name e status same (inr (inr (inr long))) = subst (ProfileAnswers (Some name) e) (sym long.0) (too_long name e same long.1)

-- the counts of a command

pub stands : (profile : Option (List ℕ)) (b : Option Files) (counts : Counts) → IfSome b (λ held. AreCounts held profile counts) → IfSome b (λ held. ProfileStands held profile)
stands profile None counts h = tt
stands profile (Some held) counts h = record { counts = counts; are = h }

-- a profile stands or is refused, for one cause

same_content : (o : Option (List ℕ)) (content other : List ℕ) → o ≡ Some content → o ≡ Some other → content ≡ other
same_content o content other a b = cc

not_spelled : (o : Option (List ℕ)) (counts : Counts) (content : List ℕ) (status : Status) → o ≡ Some content → length content ≤ most_profile_bytes → Spells content counts → NoCountsIn o status → ⊥
not_spelled None counts content status holds short spells r = cc
not_spelled (Some bytes) counts content status holds short spells (inl long) =
    let is : bytes ≡ content = cc in
    let more : most_profile_bytes < length content = subst (λ z. most_profile_bytes < length z) is long.long in
    omega (arith, short, more)
not_spelled (Some bytes) counts content status holds short spells (inr bad) =
    let is : bytes ≡ content = cc in
    spelled_without_fault content counts bad.fault spells (subst (λ z. FaultAt z bad.fault) is bad.first_bad)

not_both_in : (held : Files) (profile : Option (List ℕ)) (counts : Counts) (status : Status) → AreCounts held profile counts → RefusesProfile held profile status → ⊥
not_both_in held None counts status k r = r
not_both_in held (Some name) counts status k r = not_spelled (held name) counts k.content status k.holds k.short k.spells r

pub not_both_profiles : (held : Files) (profile : Option (List ℕ)) (status : Status) → ProfileStands held profile → RefusesProfile held profile status → ⊥
not_both_profiles held profile status k r = not_both_in held profile k.counts status k.are r

one_status : (o : Option (List ℕ)) (a b : Status) → NoCountsIn o a → NoCountsIn o b → a ≡ b
one_status None a b x y = x ∙ sym y
one_status (Some content) a b (inl x) (inl y) = x.status_is ∙ sym y.status_is
one_status (Some content) a b (inl x) (inr y) = let more = x.long in let few = y.short in absurd (omega (arith, more, few))
one_status (Some content) a b (inr x) (inl y) = let few = x.short in let more = y.long in absurd (omega (arith, more, few))
one_status (Some content) a b (inr x) (inr y) = x.status_is ∙ ap status_of_profile (fault_once content x.fault y.fault x.first_bad y.first_bad) ∙ sym y.status_is

pub one_profile_status : (held : Files) (profile : Option (List ℕ)) (a b : Status) → RefusesProfile held profile a → RefusesProfile held profile b → a ≡ b
one_profile_status held None a b x y = absurd x
one_profile_status held (Some name) a b x y = one_status (held name) a b x y
