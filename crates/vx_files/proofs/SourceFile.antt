-- What the reading of a source's file says of its program.
use Rattle.std.proofs.Common.{◌≡◌, ◌∙◌, ◌⊎◌, inl, inr, ℕ, List, Option, Some, None, IfSome, refl, sym, ap, subst, arith}
use Rattle.std.specs.Prelude.{◌<◌, ◌≤◌, suc, length, replicate, Vec}
use Rattle.std.specs.declared.alloc.Global.{Global}
use Rattle.std.proofs.lemmas.List.{length-replicate}
use Rattle.vx_io.specs.Outside.{Files}
use Rattle.vx_ast.specs.Tree.{Program}
use Rattle.vx_ast.specs.Reads.{most_bytes, Reads, too_long}
use Rattle.vx_io.specs.Reading.{ReadsFile}
use Rattle.vx_io.specs.declared.whole_file.FileRead.TheVariants.{Whole, TooLong as FileTooLong}
use Rattle.vx_io.specs.declared.role.Role.TheVariants.{Source as TheSource}
use Rattle.vx_status.specs.declared.status.Status.{Status}
use Rattle.vx_status.specs.declared.status.Status.TheVariants.{Source, Limit, NoMemory}
use Rattle.vx_files.specs.Held.{HoldsSource, HoldsProgram, RefusesSource, Refuses}
use Rattle.vx_files.specs.Effects.{Effect, SameFiles, OfFile, SourceAnswers}
use Rattle.vx_files.proofs.WholeFile.{Unread}

refuses_in : (source content : List ℕ) (status : Status) (b : Option Files) → IfSome b (λ held. HoldsSource held source content) → RefusesSource content status →
    OfFile b (λ held. Refuses held source status) (λ bytes. RefusesSource bytes status)
refuses_in source content status None h r = (content, r)
refuses_in source content status (Some held) h r = record { content = content; holds = h.holds; refused = r }

pub holds_in : (source content : List ℕ) (program : Program) (b : Option Files) → IfSome b (λ held. HoldsSource held source content) → Reads content program → IfSome b (λ held. HoldsProgram held source program)
holds_in source content program None h reads = tt
holds_in source content program (Some held) h reads = record { content = content; holds = h.holds; reads = reads }

refused : (source content : List ℕ) (e : Effect) (status : Status) → IfSome e.before (λ held. HoldsSource held source content) → SameFiles e → RefusesSource content status → SourceAnswers source e status
refused source content e (Source code line column) h same r = (same, refuses_in source content (Source code line column) e.before h r)
refused source content e (Limit number count) h same r = (same, refuses_in source content (Limit number count) e.before h r)
refused source content e status h same r = absurd r

pub unread : (source content : List ℕ) (e : Effect) (status : Status) → IfSome e.before (λ held. HoldsSource held source content) → SameFiles e →
    ((status ≡ NoMemory) ⊎ RefusesSource content status) → SourceAnswers source e status
unread source content e status h same (inl is) = subst (SourceAnswers source e) (sym is) same
unread source content e status h same (inr why) = refused source content e status h same why

-- some bytes are more than so many
more_than : (n : ℕ) → (content : List ℕ) × (n < length content)
more_than n =
    let byte : ℕ = 0 in
    let long : length (replicate (suc n) byte) ≡ suc n = length-replicate (suc n) byte in
    (replicate (suc n) byte, omega (arith, long))

long_in : (source : List ℕ) (b : Option Files) → IfSome b (λ held. ReadsFile held source most_bytes FileTooLong) →
    OfFile b (λ held. Refuses held source (Limit 1 1048577)) (λ bytes. RefusesSource bytes (Limit 1 1048577))
long_in source None h = let long = more_than most_bytes in (long.0, too_long long.1)
long_in source (Some held) h = record { content = h.content; holds = h.holds; refused = too_long h.answers }

pub long_source : (source : List ℕ) (e : Effect) → IfSome e.before (λ held. ReadsFile held source most_bytes FileTooLong) → SameFiles e → SourceAnswers source e (Limit 1 1048577)
long_source source e h same = (same, long_in source e.before h)

pub source_unread : (source : List ℕ) (e : Effect) (status : Status) → SameFiles e → Unread TheSource most_bytes (Limit 1 1048577) source e status → SourceAnswers source e status
source_unread source e status same (inl memory) = subst (SourceAnswers source e) (sym memory) same
source_unread source e status same (inr (inl failed)) = subst (SourceAnswers source e) (sym failed.0) (refl, same, failed.1)
source_unread source e status same (inr (inr (inl absent))) = subst (SourceAnswers source e) (sym absent.0) (refl, same, absent.1)
source_unread source e status same (inr (inr (inr long))) = subst (SourceAnswers source e) (sym long.0) (long_source source e long.1 same)

-- a file that was read whole holds the bytes
pub source_held : (source : List ℕ) (bytes : Vec ℕ Global) (b : Option Files) → IfSome b (λ held. ReadsFile held source most_bytes (Whole bytes)) → IfSome b (λ held. HoldsSource held source bytes.items)
source_held source bytes None h = tt
source_held source bytes (Some held) h = record { holds = h.holds ∙ ap Some (sym h.answers.0); short = subst (λ (content : List ℕ). length content ≤ most_bytes) (sym h.answers.0) h.answers.1 }
