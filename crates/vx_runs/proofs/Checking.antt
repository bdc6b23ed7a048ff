-- The answers of `check` from those of its steps, and what they exclude where nothing fails.
use Rattle.std.proofs.Common.{◌≡◌, ◌⊎◌, inl, inr, ℕ, true, false, Option, Some, None, Ok, IfSome, refl, sym, subst, ◌∙◌}
use Rattle.vx_io.specs.Outside.{Files}
use Rattle.vx_words.specs.Spelling.{Spells}
use Rattle.vx_check.specs.Checked.{Checks}
use Rattle.vx_check.specs.declared.verdict.Verdict.{Verdict}
use Rattle.vx_check.specs.declared.verdict.Verdict.TheVariants.{Yes, Unfit as UnfitAt, Pending as PendingAt}
use Rattle.vx_status.specs.declared.status.Breach.{Breach}
use Rattle.vx_status.specs.declared.status.Breach.TheVariants.{Unfit, Pending}
use Rattle.vx_status.specs.declared.status.Status.{Status}
use Rattle.vx_status.specs.declared.status.Status.TheVariants.{Done, WriteFault, NoMemory, NotStrict}
use Rattle.vx_command.specs.Command.{Checking}
use Rattle.vx_files.specs.Held.{DefaultUnless}
use Rattle.vx_files.specs.Effects.{Effect, ReadsRose}
use Rattle.vx_runs.specs.Simulated.{Loaded, loading, is_named, Stops, Streams, OutRose}
use Rattle.vx_runs.specs.Checking.{verdict_of, status_of_verdict, puts_strict, Checked, CheckingAnswers, CheckAnswers, CheckDue, CheckCompletes, PutsVerdict, whole, cut, broken, LoadedChecked}
use Rattle.vx_runs.proofs.Simulating.{stops_held}
use Rattle.vx_runs.proofs.Told.{told}

-- the putting of what is found

pub puts_yes : (verdict : Verdict) (s : Streams) (status : Status) → verdict ≡ Yes → PutsVerdict Yes s status → PutsVerdict verdict s status
puts_yes verdict s status is puts = subst (λ v. PutsVerdict v s status) (sym is) puts

-- a status with which the line of a strict program is put, or is not

pub wanted_put : (P : Type 0) (status : Status) → puts_strict status ≡ true → puts_strict status ≡ false → P
wanted_put P status wanted not = let both : true ≡ false = sym wanted ∙ not in absurd cc

-- what was read is checked

module _ (asked : Checking) (x : Loaded) (e : Effect) (s : Streams)
    (loads : IfSome e.before (λ held. loading held asked.words asked.machine None ≡ Ok x))
    (spells : IfSome e.before (λ held. IfSome (held asked.words) (λ content. Spells content x.program)))
    (machine_is : DefaultUnless asked.machine x.machine) where
  found_so : (verdict other : Verdict) → verdict ≡ other → Checks x.machine x.program verdict → Checked asked e other
  found_so verdict other same checks = record { loaded = x; loads = loads; spells = spells; machine_is = machine_is; checks = subst (Checks x.machine x.program) same checks }

  found : (verdict : Verdict) (status : Status) → Checks x.machine x.program verdict → PutsVerdict verdict s status → CheckingAnswers asked e s status
  found verdict status checks (whole is done put) = subst (CheckingAnswers asked e s) (sym done) (found_so verdict Yes is checks, put)
  found verdict status checks (cut is fault rose front) = subst (CheckingAnswers asked e s) (sym fault) (found_so verdict Yes is checks, rose, front)
  found verdict status checks (broken breach place is same) = subst (CheckingAnswers asked e s) (sym same) (found_so verdict (verdict_of breach place) is checks)

  pub checked_answers : (status : Status) → LoadedChecked x s status → CheckingAnswers asked e s status
  checked_answers status (inl memory) = subst (CheckingAnswers asked e s) (sym memory) tt
  checked_answers status (inr h) = found h.0 status h.1 h.2

-- the reading of the files stops the command

stops_check : (asked : Checking) (e : Effect) (s : Streams) (status : Status) → Stops (is_named asked.machine None) (λ held. loading held asked.words asked.machine None) e status → CheckingAnswers asked e s status
stops_check asked e s Done a = absurd a
stops_check asked e s WriteFault a = absurd a
stops_check asked e s (NotStrict breach place) a = absurd a
stops_check asked e s status a = a

pub check_stopped : (asked : Checking) (e : Effect) (s : Streams) (status other : Status) → other ≡ status → Stops (is_named asked.machine None) (λ held. loading held asked.words asked.machine None) e status →
    CheckingAnswers asked e s other
check_stopped asked e s status other same a = subst (CheckingAnswers asked e s) (sym same) (stops_check asked e s status a)

-- where nothing fails

module _ (asked : Checking) (e : Effect) (s : Streams) (held : Files) (is : e.before ≡ Some held) (quiet_reads : ReadsRose e → ⊥) (quiet_out : OutRose s → ⊥) where
  abbrev Dues : Status → Type 0
  Dues status = CheckDue (loading held asked.words asked.machine None) status ⊎ (status ≡ NoMemory)

  due_found : (verdict : Verdict) → Checked asked e verdict → Dues (status_of_verdict verdict)
  due_found verdict c =
      let loads : loading held asked.words asked.machine None ≡ Ok c.loaded = told (λ h. loading h asked.words asked.machine None ≡ Ok c.loaded) e.before held is c.loads in
      inl (subst (λ r. CheckDue r (status_of_verdict verdict)) (sym loads) (verdict, c.checks, refl))

  due_broken : (breach : Breach) (place : ℕ) → Checked asked e (verdict_of breach place) → Dues (NotStrict breach place)
  due_broken Unfit place c = due_found (UnfitAt place) c
  due_broken Pending place c = due_found (PendingAt place) c

  due_stop : (status : Status) → Stops (is_named asked.machine None) (λ h. loading h asked.words asked.machine None) e status → Dues status
  due_stop status a = elim (stops_held (is_named asked.machine None) (λ h. loading h asked.words asked.machine None) e held is quiet_reads status a) [
    | inl why ↦ inl (subst (λ r. CheckDue r status) (sym why) refl)
    | inr memory ↦ inr memory
  ]

  dues : (status : Status) → CheckingAnswers asked e s status → Dues status
  dues Done a = due_found Yes a.0
  dues WriteFault a = absurd (quiet_out a.1)
  dues (NotStrict breach place) a = due_broken breach place a
  dues status a = due_stop status a

complete_in : (asked : Checking) (e : Effect) (s : Streams) (status : Status) (b : Option Files) → e.before ≡ b → (ReadsRose e → ⊥) → (OutRose s → ⊥) → CheckingAnswers asked e s status →
    IfSome b (λ held. CheckDue (loading held asked.words asked.machine None) status ⊎ (status ≡ NoMemory))
complete_in asked e s status None is quiet_reads quiet_out a = tt
complete_in asked e s status (Some held) is quiet_reads quiet_out a = dues asked e s held is quiet_reads quiet_out status a

pub check_completes : (asked : Checking) (e : Effect) (s : Streams) (status : Status) → CheckAnswers asked e s status → CheckCompletes asked e s status
check_completes asked e s status a = λ quiet_reads quiet_out. complete_in asked e s status e.before refl quiet_reads quiet_out a.1
