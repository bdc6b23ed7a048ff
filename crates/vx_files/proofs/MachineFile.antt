-- What the reading of a description's file says of the machine that it describes.
use Rattle.std.proofs.Common.{◌≡◌, ◌∙◌, inl, inr, ℕ, Bool, true, false, nat_le, List, length, Option, Some, None, Ok, IfSome, MatchOption, refl, sym, subst, ap, arith}
use Rattle.std.specs.Prelude.{Vec, ◌≤◌, ◌<◌}
use Rattle.std.specs.declared.alloc.Global.{Global}
use Rattle.std.proofs.lemmas.Bool.{leb-true, le-leb}
use Rattle.vx_io.specs.Outside.{Files}
use Rattle.vx_io.specs.Reading.{ReadsFile}
use Rattle.vx_io.specs.declared.whole_file.FileRead.TheVariants.{Whole, TooLong as FileTooLong}
use Rattle.vx_io.specs.declared.role.Role.TheVariants.{Machine as TheMachine}
use Rattle.vx_isa.specs.Numbers.{Numbers, vex}
use Rattle.vx_machine.specs.declared.description.MachineFault.TheVariants.{Bad}
use Rattle.vx_machine.specs.Descriptions.{reading}
use Rattle.vx_status.specs.declared.status.Status.{Status}
use Rattle.vx_status.specs.declared.status.Status.TheVariants.{Done, Trapped, Usage, Source, Limit, Words, Profile, Machine, NoFile, ReadFault, WriteFault, Stopped, Input, Stuck, NoMemory, NotStrict}
use Rattle.vx_files.specs.Held.{most_description_bytes, MachineFound, Is, Refused, TooLong, Missing, found_by, found_in, machine_found, RefusesDescription}
use Rattle.vx_files.specs.Effects.{Effect, ReadsRose, SameFiles, OfFile, MachineAnswers}
use Rattle.vx_files.proofs.WholeFile.{Unread}

short_found : (content : List ℕ) (found : MachineFound) → length content ≤ most_description_bytes → found_by (reading content) ≡ found → found_in (Some content) ≡ found
short_found content found le is = rw (le-leb (length content) most_description_bytes le) is

long_found : (content : List ℕ) → most_description_bytes < length content → found_in (Some content) ≡ TooLong
long_found content more = by (nat_le (length content) most_description_bytes) refl
  where
    by : (b : Bool) → nat_le (length content) most_description_bytes ≡ b → found_in (Some content) ≡ TooLong
    by true is = let le = leb-true (length content) most_description_bytes is in absurd (omega arith)
    by false is = rw is refl

whole_found : (held : Files) (name : List ℕ) (bytes : Vec ℕ Global) (found : MachineFound) → ReadsFile held name most_description_bytes (Whole bytes) → found_by (reading bytes.items) ≡ found →
    machine_found held (Some name) ≡ found
whole_found held name bytes found h is = ap found_in h.holds ∙ short_found h.content found h.answers.1 (ap (λ b. found_by (reading b)) (sym h.answers.0) ∙ is)

found_whole : (b : Option Files) (name : List ℕ) (bytes : Vec ℕ Global) (found : MachineFound) → IfSome b (λ held. ReadsFile held name most_description_bytes (Whole bytes)) →
    found_by (reading bytes.items) ≡ found → IfSome b (λ held. machine_found held (Some name) ≡ found)
found_whole None name bytes found h is = tt
found_whole (Some held) name bytes found h is = whole_found held name bytes found h is

pub described : (b : Option Files) (name : List ℕ) (bytes : Vec ℕ Global) (machine : Numbers) → IfSome b (λ held. ReadsFile held name most_description_bytes (Whole bytes)) →
    reading bytes.items ≡ Ok machine → IfSome b (λ held. machine_found held (Some name) ≡ Is machine)
described b name bytes machine h is = found_whole b name bytes (Is machine) h (ap found_by is)

fault_found : (b : Option Files) (name : List ℕ) (bytes : Vec ℕ Global) (found : MachineFound) → length bytes.items ≤ most_description_bytes →
    IfSome b (λ held. ReadsFile held name most_description_bytes (Whole bytes)) → found_by (reading bytes.items) ≡ found →
    OfFile b (λ held. machine_found held (Some name) ≡ found) (λ content. found_in (Some content) ≡ found)
fault_found None name bytes found short h is = (bytes.items, short_found bytes.items found short is)
fault_found (Some held) name bytes found short h is = whole_found held name bytes found h is

pub undescribed : (name : List ℕ) (bytes : Vec ℕ Global) (e : Effect) (status : Status) → length bytes.items ≤ most_description_bytes → IfSome e.before (λ held. ReadsFile held name most_description_bytes (Whole bytes)) → SameFiles e →
    RefusesDescription bytes.items status → MachineAnswers (Some name) e status
undescribed name bytes e Done short h same r = absurd r
undescribed name bytes e Usage short h same r = absurd r
undescribed name bytes e (Trapped trap) short h same r = absurd r
undescribed name bytes e (Words code line) short h same r = absurd r
undescribed name bytes e (Profile code line) short h same r = absurd r
undescribed name bytes e Stopped short h same r = absurd r
undescribed name bytes e (Input place) short h same r = absurd r
undescribed name bytes e (Stuck reason place) short h same r = absurd r
undescribed name bytes e (NotStrict breach place) short h same r = absurd r
undescribed name bytes e (Source code line column) short h same r = absurd r
undescribed name bytes e (Limit number count) short h same r = absurd r
undescribed name bytes e (Machine code field) short h same r = (same, fault_found e.before name bytes (Refused (Bad code field)) short h (ap found_by r))
undescribed name bytes e (NoFile role) short h same r = absurd r
undescribed name bytes e (ReadFault role) short h same r = absurd r
undescribed name bytes e WriteFault short h same r = absurd r
undescribed name bytes e NoMemory short h same r = same

pub too_long : (b : Option Files) (name : List ℕ) → IfSome b (λ held. ReadsFile held name most_description_bytes FileTooLong) → IfSome b (λ held. machine_found held (Some name) ≡ TooLong)
too_long None name h = tt
too_long (Some held) name h = ap found_in h.holds ∙ long_found h.content h.answers

pub no_description : (b : Option Files) (name : List ℕ) (Rises : Type 0) → MatchOption b Rises (λ held. held name ≡ None) → MatchOption b Rises (λ held. machine_found held (Some name) ≡ Missing)
no_description None name Rises h = h
no_description (Some held) name Rises h = ap found_in h

pub default_machine : (b : Option Files) (machine : Numbers) → machine ≡ vex 1 → IfSome b (λ held. machine_found held None ≡ Is machine)
default_machine None machine is = tt
default_machine (Some held) machine is = ap Is (sym is)

pub machine_unread : (name : List ℕ) (e : Effect) (status : Status) → SameFiles e → Unread TheMachine 65536 (Limit 11 65537) name e status → MachineAnswers (Some name) e status
machine_unread name e status same (inl memory) = subst (MachineAnswers (Some name) e) (sym memory) same
machine_unread name e status same (inr (inl failed)) = subst (MachineAnswers (Some name) e) (sym failed.0) (refl, same, failed.1)
machine_unread name e status same (inr (inr (inl absent))) = subst (MachineAnswers (Some name) e) (sym absent.0) (refl, same, no_description e.before name (ReadsRose e) absent.1)
machine_unread name e status same (inr (inr (inr long))) = subst (MachineAnswers (Some name) e) (sym long.0) (refl, refl, same, too_long e.before name long.1)
