-- No generated source is refused, so its reading fails for want of memory alone.
use Rattle.std.proofs.Common.{◌≡◌, ◌⊎◌, inl, inr, ℕ, Bool, true, false, List, ◌≤◌, subst}
use Rattle.vx_ast.specs.declared.fault.SourceFault.TheVariants.{Bad as BadSource, Limit as OverLimit}
use Rattle.vx_gen.specs.Program.{program_text}
use Rattle.vx_status.specs.declared.status.Status.{Status}
use Rattle.vx_status.specs.declared.status.Status.TheVariants.{Done, Trapped, Usage, Source, Limit, Words, Profile, Machine, NoFile, ReadFault, WriteFault, Stopped, Input, Stuck, NoMemory, NotStrict}
use Rattle.vx_files.specs.Held.{RefusesSource}
use Rattle.vx_generated.proofs.Refused.{never_refused}

no_reason : (seed size : ℕ) (status : Status) → size ≤ 10000 → RefusesSource (program_text seed size) status → ⊥
no_reason seed size (Source code line column) h r = never_refused seed size h (BadSource code line column) r
no_reason seed size (Limit number count) h r = never_refused seed size h (OverLimit number count) r
no_reason seed size Done h r = r
no_reason seed size (Trapped trap) h r = r
no_reason seed size Usage h r = r
no_reason seed size (Words code line) h r = r
no_reason seed size (Profile code line) h r = r
no_reason seed size (Machine code field) h r = r
no_reason seed size (NoFile role) h r = r
no_reason seed size (ReadFault role) h r = r
no_reason seed size WriteFault h r = r
no_reason seed size Stopped h r = r
no_reason seed size (Input place) h r = r
no_reason seed size (Stuck reason place) h r = r
no_reason seed size (NotStrict breach place) h r = r
no_reason seed size NoMemory h r = r

pub only_memory : (seed size : ℕ) (bytes : List ℕ) (status : Status) → size ≤ 10000 → bytes ≡ program_text seed size → (status ≡ NoMemory) ⊎ RefusesSource bytes status → status ≡ NoMemory
only_memory seed size bytes status h is (inl e) = e
only_memory seed size bytes status h is (inr r) = absurd (no_reason seed size status h (subst (λ (b : List ℕ). RefusesSource b status) is r))

pub never_both : (b : Bool) → b ≡ true → b ≡ false → ⊥
never_both true h k = cc
never_both false h k = cc
