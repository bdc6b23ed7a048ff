-- What the reading of an input's file says of its numbers.
use Rattle.std.proofs.Common.{◌≡◌, ◌⊎◌, inl, inr, ℕ, ℤ, List, length, Option, Some, None, Result, Ok, Err, IfSome, MatchOption, refl, sym, subst, ap}
use Rattle.std.specs.Prelude.{Vec, ◌≤◌}
use Rattle.std.specs.declared.alloc.Global.{Global}
use Rattle.vx_io.specs.Outside.{Files}
use Rattle.vx_io.specs.Reading.{ReadsFile}
use Rattle.vx_io.specs.declared.whole_file.FileRead.TheVariants.{Whole, TooLong as FileTooLong}
use Rattle.vx_io.specs.declared.role.Role.TheVariants.{Input as TheInput}
use Rattle.vx_status.specs.declared.status.Status.{Status}
use Rattle.vx_status.specs.declared.status.Status.TheVariants.{Limit, NoFile, Input, NoMemory}
use Rattle.vx_files.specs.Held.{input_as, input_found}
use Rattle.vx_files.specs.Effects.{Effect, ReadsRose, SameFiles, InputAnswers}
use Rattle.vx_files.specs.InputText.{input_reading}
use Rattle.vx_files.proofs.WholeFile.{Unread, whole, whole_or, too_long, missing}

input_whole : (b : Option Files) (name : List ℕ) (bytes : Vec ℕ Global) (r : Result (List ℤ) Status) → IfSome b (λ held. ReadsFile held name 16777216 (Whole bytes)) → input_as (input_reading bytes.items) ≡ r →
    IfSome b (λ held. input_found held (Some name) ≡ r)
input_whole b name bytes r h is = whole TheInput 16777216 (Limit 12 16777217) (λ content. input_as (input_reading content)) b name bytes r h is

pub input_read : (b : Option Files) (name : List ℕ) (bytes : Vec ℕ Global) (numbers : List ℤ) → IfSome b (λ held. ReadsFile held name 16777216 (Whole bytes)) → input_reading bytes.items ≡ Ok numbers →
    IfSome b (λ held. input_found held (Some name) ≡ Ok numbers)
input_read b name bytes numbers h is = input_whole b name bytes (Ok numbers) h (ap input_as is)

input_fault : (name : List ℕ) (bytes : Vec ℕ Global) (e : Effect) (r : Result (List ℤ) ℕ) (status : Status) → length bytes.items ≤ 16777216 → SameFiles e → input_reading bytes.items ≡ r → input_as r ≡ Err status →
    IfSome e.before (λ held. ReadsFile held name 16777216 (Whole bytes)) → InputAnswers (Some name) e status
input_fault name bytes e (Ok numbers) status short same is bad h = absurd cc
input_fault name bytes e (Err place) status short same is bad h =
    let is_input : Input place ≡ status = cc in
    subst (InputAnswers (Some name) e) is_input (same, whole_or TheInput 16777216 (Limit 12 16777217) (λ content. input_as (input_reading content)) e.before name bytes (Err (Input place)) short h (ap input_as is))

pub input_refused : (name : List ℕ) (bytes : Vec ℕ Global) (e : Effect) (status : Status) → length bytes.items ≤ 16777216 → SameFiles e → IfSome e.before (λ held. ReadsFile held name 16777216 (Whole bytes)) →
    ((status ≡ NoMemory) ⊎ (input_as (input_reading bytes.items) ≡ Err status)) → InputAnswers (Some name) e status
input_refused name bytes e status short same h (inl memory) = subst (InputAnswers (Some name) e) (sym memory) same
input_refused name bytes e status short same h (inr bad) = input_fault name bytes e (input_reading bytes.items) status short same refl bad h

pub input_long : (name : List ℕ) (e : Effect) → SameFiles e → IfSome e.before (λ held. ReadsFile held name 16777216 FileTooLong) → InputAnswers (Some name) e (Limit 12 16777217)
input_long name e same h = (refl, refl, same, too_long TheInput 16777216 (Limit 12 16777217) (λ content. input_as (input_reading content)) e.before name h)

pub input_missing : (name : List ℕ) (e : Effect) → SameFiles e → MatchOption e.before (ReadsRose e) (λ held. held name ≡ None) → InputAnswers (Some name) e (NoFile TheInput)
input_missing name e same h = (refl, same, missing TheInput 16777216 (Limit 12 16777217) (λ content. input_as (input_reading content)) e.before name (ReadsRose e) h)

pub input_unread : (name : List ℕ) (e : Effect) (status : Status) → SameFiles e → Unread TheInput 16777216 (Limit 12 16777217) name e status → InputAnswers (Some name) e status
input_unread name e status same (inl memory) = subst (InputAnswers (Some name) e) (sym memory) same
input_unread name e status same (inr (inl failed)) = subst (InputAnswers (Some name) e) (sym failed.0) (refl, same, failed.1)
input_unread name e status same (inr (inr (inl absent))) = subst (InputAnswers (Some name) e) (sym absent.0) (input_missing name e same absent.1)
input_unread name e status same (inr (inr (inr long))) = subst (InputAnswers (Some name) e) (sym long.0) (input_long name e same long.1)
