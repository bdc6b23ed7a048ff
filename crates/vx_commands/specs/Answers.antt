-- What each answer of the top call says of the words, the files and the counts of faults, before the call and after it.
use Rattle.std.specs.Prelude.{◌≡◌, ◌⊎◌, ℕ, List, true, is_some, Option, Some, None, IfSome, IsSomeAnd}
use Rattle.vx_io.specs.Outside.{Files, held_with, ReplacesPartly}
use Rattle.vx_isa.specs.declared.program.WordProgram.{WordProgram}
use Rattle.vx_isa.specs.Numbers.{Numbers}
use Rattle.vx_machine.specs.declared.description.MachineFault.TheVariants.{Bad}
use Rattle.vx_profile.specs.declared.counts.Counts.{Counts}
use Rattle.vx_ast.specs.Tree.{Program}
use Rattle.vx_io.specs.declared.role.Role.{Role}
use Rattle.vx_io.specs.declared.role.Role.TheVariants.{Source as TheSource, Profile as TheProfile, Machine as TheMachine}
use Rattle.vx_ast.specs.Reads.{Refusal}
use Rattle.vx_ast.specs.declared.fault.SourceFault.{SourceFault}
use Rattle.vx_status.specs.declared.status.Status.{Status}
use Rattle.vx_status.specs.declared.status.Status.TheVariants.{Done, Trapped, Usage, Source, Limit, Words, Profile, Machine, NoFile, ReadFault, WriteFault, Stopped, Input, Stuck, NoMemory, NotStrict}
use Rattle.vx_command.specs.Command.{Compilation}
use Rattle.vx_compiled.specs.Compiled.{Compiled}
use Rattle.vx_compiled.specs.Faithful.{Faithful}
use Rattle.vx_report.specs.declared.plan.Plan.{Plan}
use Rattle.vx_report.specs.Report.{names_of, report_text}
use Rattle.vx_words.specs.Spelling.{Spells}
use Rattle.vx_files.specs.Held.{HoldsProgram, Accepts, status_of, AreCounts, ProfileStands, RefusesProfile, Is, Refused, TooLong, Missing, machine_found}
use Rattle.vx_files.specs.Effects.{Effect, ReplacesRose, SameFiles, SourceAnswers, ProfileAnswers, MachineAnswers}
use Rattle.vx_runs.specs.Writing.{ReportAnswers}
use Rattle.vx_unroll.specs.Unrolling.{UnrolledBy}
use Rattle.vx_rewrite.specs.Rewritten.{Rewritten}

-- the texts of a compiled program: the one spells its words, the other is the report of their plan
pub record TextsOf (program : Program) (counts : Counts) (machine : Numbers) (growth : ℕ) (inline select : Option ℕ) (text report : List ℕ) : Type 0 where
  pub words : WordProgram
  pub plan : Plan
  pub compiled : Compiled program counts machine growth words plan
  pub rewritten : Rewritten program inline select compiled.flow
  pub spells : Spells text words
  pub reports : report ≡ report_text plan (names_of program)

-- the texts of what the source's file reads as, with its loops unrolled, calls inlined and diamonds converted as asked, compiled by
-- the profile, for the machine and with the growth of the command
pub record Compiles (asked : Compilation) (held : Files) (text report : List ℕ) : Type 0 where
  pub program : Program
  pub holds : HoldsProgram held asked.source program
  pub counts : Counts
  pub counted : AreCounts held asked.profile counts
  pub numbers : Numbers
  pub machine_is : machine_found held asked.machine ≡ Is numbers
  pub unrolled : Program
  pub turns : UnrolledBy asked.rewriting.unroll program unrolled
  pub texts : TextsOf unrolled counts numbers asked.growth asked.rewriting.inline asked.rewriting.select text report
  -- the words do what the source does
  pub faithful : Faithful program numbers texts.words
  -- the report's functions have their names in the source
  pub names : names_of unrolled ≡ names_of program

-- the files once the report is put under its name, where one is asked
abbrev pub with_report : Option (List ℕ) → (report : List ℕ) → Files → Files
with_report None report held = held
with_report (Some name) report held = held_with name report held

-- the output's file holds the text of the words, and then the report's file the report: where both have one name, that file
-- holds the report; every other file is as before
pub record Writes (asked : Compilation) (held : Files) (after : Option Files) : Type 0 where
  pub text : List ℕ
  pub report : List ℕ
  pub compiles : Compiles asked held text report
  pub written : after ≡ Some (with_report asked.report report (held_with asked.out text held))

-- the same without the report that is asked
pub record WritesWords (asked : Compilation) (held : Files) (after : Option Files) : Type 0 where
  pub text : List ℕ
  pub report : List ℕ
  pub compiles : Compiles asked held text report
  pub wanted : is_some asked.report ≡ true
  pub written : after ≡ Some (held_with asked.out text held)

-- the report that is asked was to be put into these files, and its file holds what it held in them, or a front of the report
abbrev pub ReportsPartly : Option (List ℕ) → (report : List ℕ) → Files → (after : Option Files) → Type 0
ReportsPartly None report held after = ⊥
ReportsPartly (Some name) report held after = ReplacesPartly (Some held) after name report

-- the output's file holds what it held before, or a front of the text; or it holds the text, and the report is put in part
pub record WritesPartly (asked : Compilation) (held : Files) (after : Option Files) : Type 0 where
  pub text : List ℕ
  pub report : List ℕ
  pub compiles : Compiles asked held text report
  pub partly : ReplacesPartly (Some held) after asked.out text ⊎ ReportsPartly asked.report report (held_with asked.out text held) after

-- the profile of a command is looked at only where one is named and the source is accepted
pub record StopsAtProfile (source : List ℕ) (profile : Option (List ℕ)) (e : Effect) (status : Status) : Type 0 where
  pub named : is_some profile ≡ true
  pub accepted : IfSome e.before (λ held. Accepts held source)
  pub answers : ProfileAnswers profile e status

-- the machine of a command is looked at only where one is named, the source is accepted and the profile stands
pub record StopsAtMachine (source : List ℕ) (profile machine : Option (List ℕ)) (e : Effect) (status : Status) : Type 0 where
  pub named : is_some machine ≡ true
  pub accepted : IfSome e.before (λ held. Accepts held source)
  pub profiled : IfSome e.before (λ held. ProfileStands held profile)
  pub answers : MachineAnswers machine e status

-- a file that is missing or cannot be read is the source's; the profile's once the source is accepted; or the machine's
-- once the profile stands too
abbrev pub FileAnswers : Role → (source : List ℕ) → (profile machine : Option (List ℕ)) → Effect → Status → Type 0
FileAnswers TheSource source profile machine e status = SourceAnswers source e status
FileAnswers TheProfile source profile machine e status = StopsAtProfile source profile e status
FileAnswers TheMachine source profile machine e status = StopsAtMachine source profile machine e status
FileAnswers role source profile machine e status = ⊥

abbrev pub CompileAnswers : Compilation → Effect → Status → Type 0
CompileAnswers asked e Done = IfSome e.before (λ held. Writes asked held e.after)
CompileAnswers asked e (Trapped trap) = ⊥
CompileAnswers asked e Usage = ⊥
CompileAnswers asked e (Source code line column) = SourceAnswers asked.source e (Source code line column)
CompileAnswers asked e (Limit number count) =
    SourceAnswers asked.source e (Limit number count) ⊎ StopsAtProfile asked.source asked.profile e (Limit number count) ⊎ StopsAtMachine asked.source asked.profile asked.machine e (Limit number count)
CompileAnswers asked e (Words code line) = ⊥
CompileAnswers asked e (Profile code line) = StopsAtProfile asked.source asked.profile e (Profile code line)
CompileAnswers asked e (Machine code field) = StopsAtMachine asked.source asked.profile asked.machine e (Machine code field)
CompileAnswers asked e (NoFile role) = FileAnswers role asked.source asked.profile asked.machine e (NoFile role)
CompileAnswers asked e (ReadFault role) = FileAnswers role asked.source asked.profile asked.machine e (ReadFault role)
CompileAnswers asked e WriteFault = ReplacesRose e × IfSome e.before (λ held. WritesPartly asked held e.after)
CompileAnswers asked e Stopped = ⊥
CompileAnswers asked e (Input place) = ⊥
CompileAnswers asked e (Stuck reason place) = ⊥
CompileAnswers asked e (NotStrict breach place) = ⊥
CompileAnswers asked e NoMemory = SameFiles e ⊎ IsSomeAnd e.before (λ held. WritesWords asked held e.after)

-- the texts of a program for a machine were to replace files
pub record PutsTexts (program : Program) (counts : Counts) (machine : Numbers) (growth : ℕ) (inline select : Option ℕ) (out : List ℕ) (name : Option (List ℕ)) (e : Effect) (status : Status) : Type 0 where
  pub text : List ℕ
  pub report : List ℕ
  pub texts : TextsOf program counts machine growth inline select text report
  pub answers : ReportAnswers out text name report e status

-- no machine stands, and the status says why
pub record NoMachine (machine : Option (List ℕ)) (e : Effect) (status : Status) : Type 0 where
  pub named : is_some machine ≡ true
  pub answers : MachineAnswers machine e status

-- a machine stands, and the texts of the program for it were to replace files, or memory was wanted
pub record ForMachine (program : Program) (counts : Counts) (asked : Compilation) (e : Effect) (status : Status) : Type 0 where
  pub numbers : Numbers
  pub machine_is : IfSome e.before (λ held. machine_found held asked.machine ≡ Is numbers)
  pub answers : ((status ≡ NoMemory) × SameFiles e) ⊎ PutsTexts program counts numbers asked.growth asked.rewriting.inline asked.rewriting.select asked.out asked.report e status

-- what the writing of a program's texts says, by these counts
abbrev pub MachineOrTexts : Program → Counts → Compilation → Effect → Status → Type 0
MachineOrTexts program counts asked e status = NoMachine asked.machine e status ⊎ ForMachine program counts asked e status

-- no profile stands, and the status says why
pub record NoProfile (profile : Option (List ℕ)) (e : Effect) (status : Status) : Type 0 where
  pub named : is_some profile ≡ true
  pub answers : ProfileAnswers profile e status

-- a profile stands, and texts were to be written by it
pub record ByProfile (program : Program) (asked : Compilation) (e : Effect) (status : Status) : Type 0 where
  pub counts : Counts
  pub counted : IfSome e.before (λ held. AreCounts held asked.profile counts)
  pub answers : MachineOrTexts program counts asked e status

-- what the writing of a program's texts says
abbrev pub ProgramAnswers : Program → Compilation → Effect → Status → Type 0
ProgramAnswers program asked e status = NoProfile asked.profile e status ⊎ ByProfile program asked e status

-- which statuses can come where nothing fails: want of memory is the one free answer
pub record CompileEnds (asked : Compilation) (held : Files) (status : Status) : Type 0 where
  pub accepted : Accepts held asked.source → ProfileStands held asked.profile → (numbers : Numbers) → machine_found held asked.machine ≡ Is numbers → (status ≡ Done) ⊎ (status ≡ NoMemory)
  pub refused : (content : List ℕ) (fault : SourceFault) → held asked.source ≡ Some content → Refusal content fault → (status ≡ status_of fault) ⊎ (status ≡ NoMemory)
  pub missing : held asked.source ≡ None → (status ≡ NoFile TheSource) ⊎ (status ≡ NoMemory)
  -- the profile's file is missing, too long, or no profile
  pub no_profile : Accepts held asked.source → (why : Status) → RefusesProfile held asked.profile why → (status ≡ why) ⊎ (status ≡ NoMemory)
  pub machine_refused : Accepts held asked.source → ProfileStands held asked.profile → (code field : ℕ) → machine_found held asked.machine ≡ Refused (Bad code field) → (status ≡ Machine code field) ⊎ (status ≡ NoMemory)
  pub machine_too_long : Accepts held asked.source → ProfileStands held asked.profile → machine_found held asked.machine ≡ TooLong → (status ≡ Limit 11 65537) ⊎ (status ≡ NoMemory)
  pub machine_missing : Accepts held asked.source → ProfileStands held asked.profile → machine_found held asked.machine ≡ Missing → (status ≡ NoFile TheMachine) ⊎ (status ≡ NoMemory)
