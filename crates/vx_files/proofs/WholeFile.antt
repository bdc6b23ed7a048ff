-- A file that was read whole, one that is too long, and one that is not there.
use Rattle.std.proofs.Common.{◌≡◌, ◌∙◌, ◌⊎◌, ℕ, Bool, true, false, nat_le, List, length, Option, Some, None, Result, Err, IfSome, MatchOption, refl, sym, ap, arith}
use Rattle.std.specs.Prelude.{Vec, ◌≤◌, ◌<◌}
use Rattle.std.specs.declared.alloc.Global.{Global}
use Rattle.std.proofs.lemmas.Bool.{leb-true, le-leb}
use Rattle.vx_io.specs.Outside.{Files}
use Rattle.vx_io.specs.Reading.{ReadsFile}
use Rattle.vx_io.specs.declared.whole_file.FileRead.TheVariants.{Whole, TooLong as FileTooLong}
use Rattle.vx_io.specs.declared.role.Role.{Role}
use Rattle.vx_status.specs.declared.status.Status.{Status}
use Rattle.vx_status.specs.declared.status.Status.TheVariants.{NoFile, ReadFault, NoMemory}
use Rattle.vx_files.specs.Held.{file_in}
use Rattle.vx_files.specs.Effects.{Effect, OfFile, ReadsRose}

module _ {A : Type 0} (role : Role) (most : ℕ) (long : Status) (read : List ℕ → Result A Status) where
  short_in : (content : List ℕ) → length content ≤ most → file_in role most long read (Some content) ≡ read content
  short_in content le = rw (le-leb (length content) most le) refl

  long_in : (content : List ℕ) → most < length content → file_in role most long read (Some content) ≡ Err long
  long_in content more = by (nat_le (length content) most) refl
    where
      by : (b : Bool) → nat_le (length content) most ≡ b → file_in role most long read (Some content) ≡ Err long
      by true is = let le = leb-true (length content) most is in absurd (omega arith)
      by false is = rw is refl

  pub whole : (b : Option Files) (name : List ℕ) (bytes : Vec ℕ Global) (r : Result A Status) → IfSome b (λ held. ReadsFile held name most (Whole bytes)) → read bytes.items ≡ r →
      IfSome b (λ held. file_in role most long read (held name) ≡ r)
  whole None name bytes r h is = tt
  whole (Some held) name bytes r h is = ap (file_in role most long read) h.holds ∙ short_in h.content h.answers.1 ∙ ap read (sym h.answers.0) ∙ is

  pub whole_or : (b : Option Files) (name : List ℕ) (bytes : Vec ℕ Global) (r : Result A Status) → length bytes.items ≤ most → IfSome b (λ held. ReadsFile held name most (Whole bytes)) →
      read bytes.items ≡ r → OfFile b (λ held. file_in role most long read (held name) ≡ r) (λ content. file_in role most long read (Some content) ≡ r)
  whole_or None name bytes r short h is = (bytes.items, short_in bytes.items short ∙ is)
  whole_or (Some held) name bytes r short h is = whole (Some held) name bytes r h is

  pub too_long : (b : Option Files) (name : List ℕ) → IfSome b (λ held. ReadsFile held name most FileTooLong) → IfSome b (λ held. file_in role most long read (held name) ≡ Err long)
  too_long None name h = tt
  too_long (Some held) name h = ap (file_in role most long read) h.holds ∙ long_in h.content h.answers

  pub missing : (b : Option Files) (name : List ℕ) (Rises : Type 0) → MatchOption b Rises (λ held. held name ≡ None) → MatchOption b Rises (λ held. file_in role most long read (held name) ≡ Err (NoFile role))
  missing None name Rises h = h
  missing (Some held) name Rises h = ap (file_in role most long read) h

-- why there are no bytes of a file: memory is wanted, or it cannot be read, is not there or is too long
abbrev pub Unread : Role → (most : ℕ) → (long : Status) → (name : List ℕ) → Effect → Status → Type 0
Unread role most long name e status = (status ≡ NoMemory) ⊎ (((status ≡ ReadFault role) × ReadsRose e) ⊎ (((status ≡ NoFile role) × MatchOption e.before (ReadsRose e) (λ held. held name ≡ None)) ⊎ ((status ≡ long) × IfSome e.before (λ held. ReadsFile held name most FileTooLong))))
