-- What is said of files that are told; and a source's file is one of accepted, refused and missing.
use Rattle.std.proofs.Common.{◌≡◌, ℕ, List, Option, Some, None, IfSome, MatchOption, subst, ap}
use Rattle.vx_io.specs.Outside.{Files}
use Rattle.vx_ast.specs.declared.fault.SourceFault.{SourceFault}
use Rattle.vx_ast.specs.declared.fault.SourceFault.TheVariants.{Bad as BadSource, Limit as OverLimit}
use Rattle.vx_ast.specs.Tree.{Program}
use Rattle.vx_status.specs.declared.status.Status.{Status}
use Rattle.vx_status.specs.declared.status.Status.TheVariants.{Source, Limit}
use Rattle.vx_ast.specs.Reads.{Reads, Refusal}
use Rattle.vx_files.proofs.SourceLaws.{never_both, one_refusal}
use Rattle.vx_files.specs.Held.{Accepts, status_of, RefusesSource, Refuses}
use Rattle.vx_files.specs.Effects.{OfFile}

pub same_content : (o : Option (List ℕ)) (content other : List ℕ) → o ≡ Some content → o ≡ Some other → content ≡ other
same_content o content other a b = cc

pub not_missing : (o : Option (List ℕ)) (content : List ℕ) → o ≡ Some content → o ≡ None → ⊥
not_missing o content a b = cc

pub told : (P : Files → Type 0) (b : Option Files) (held : Files) → b ≡ Some held → IfSome b P → P held
told P b held is h = subst (λ o. IfSome o P) is h

pub told_or : (Q : Type 0) (P : Files → Type 0) (b : Option Files) (held : Files) → b ≡ Some held → MatchOption b Q P → P held
told_or Q P b held is h = subst (λ o. MatchOption o Q P) is h

pub told_of : (P : Files → Type 0) (Q : List ℕ → Type 0) (b : Option Files) (held : Files) → b ≡ Some held → OfFile b P Q → P held
told_of P Q b held is h = subst (λ o. OfFile o P Q) is h

pub refused_told : (source : List ℕ) (status : Status) (b : Option Files) (held : Files) → b ≡ Some held →
    OfFile b (λ h. Refuses h source status) (λ bytes. RefusesSource bytes status) → Refuses held source status
refused_told source status b held is h = told_of (λ k. Refuses k source status) (λ bytes. RefusesSource bytes status) b held is h

pub never_refused : (content : List ℕ) (program : Program) (status : Status) → Reads content program → RefusesSource content status → ⊥
never_refused content program (Source code line column) reads r = never_both content program (BadSource code line column) reads r
never_refused content program (Limit number count) reads r = never_both content program (OverLimit number count) reads r
never_refused content program status reads r = r

pub not_both : (held : Files) (source : List ℕ) (status : Status) → Accepts held source → Refuses held source status → ⊥
not_both held source status a r =
    never_refused r.content a.program status (subst (λ bytes. Reads bytes a.program) (same_content (held source) a.is.content r.content a.is.holds r.holds) a.is.reads) r.refused

-- a source with a fault or over a limit

pub one_status : (content : List ℕ) (fault : SourceFault) (status : Status) → Refusal content fault → RefusesSource content status → status ≡ status_of fault
one_status content fault (Source code line column) f r = ap status_of (one_refusal content (BadSource code line column) fault r f)
one_status content fault (Limit number count) f r = ap status_of (one_refusal content (OverLimit number count) fault r f)
one_status content fault status f r = absurd r

pub not_faulty : (held : Files) (source content : List ℕ) (fault : SourceFault) → held source ≡ Some content → Refusal content fault → Accepts held source → ⊥
not_faulty held source content fault holds f a =
    never_both content a.program fault (subst (λ bytes. Reads bytes a.program) (same_content (held source) a.is.content content a.is.holds holds) a.is.reads) f
