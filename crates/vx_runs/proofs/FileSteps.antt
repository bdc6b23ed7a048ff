-- What the reading of the files of a run says, step by step.
use Rattle.std.proofs.Common.{◌≡◌, ◌∙◌, ◌⊎◌, inl, inr, ℕ, ℤ, Bool, true, List, length, is_some, Option, Some, None, option_map, Result, Ok, Err, IfSome, MatchOption, refl, sym, subst, ap, arith}
use Rattle.std.specs.Prelude.{Vec, ◌≤◌}
use Rattle.std.specs.declared.alloc.Global.{Global}
use Rattle.vx_io.specs.Outside.{Files}
use Rattle.vx_io.specs.Reading.{ReadsFile}
use Rattle.vx_io.specs.declared.whole_file.FileRead.TheVariants.{Whole, TooLong as FileTooLong}
use Rattle.vx_io.specs.declared.role.Role.{Role}
use Rattle.vx_io.specs.declared.role.Role.TheVariants.{Source as TheSource, Words as TheWords, Profile as TheProfile, Machine as TheMachine, Input as TheInput}
use Rattle.vx_isa.specs.declared.program.WordProgram.{WordProgram}
use Rattle.vx_isa.specs.Numbers.{Numbers}
use Rattle.vx_machine.specs.declared.description.MachineFault.TheVariants.{Bad}
use Rattle.vx_words.specs.Spelling.{Spells}
use Rattle.vx_reader.specs.Text.{Fault, reading}
use Rattle.vx_status.specs.declared.status.Status.{Status}
use Rattle.vx_status.specs.declared.status.Status.TheVariants.{Done, Trapped, Usage, Source, Limit, Words, Profile, Machine, NoFile, ReadFault, WriteFault, Stopped, Input, Stuck, NoMemory, NotStrict}
use Rattle.vx_files.specs.Held.{MachineFound, Is, Refused, TooLong, Missing, found_in, machine_found, input_found}
use Rattle.vx_files.specs.Effects.{Effect, ReadsRose, OfFile, MachineAnswers, InputAnswers}
use Rattle.vx_runs.specs.Simulated.{words_as, words_in, machine_as, Loaded, with_input, loading_input, loading_machine, loading, is_named, Stops}
use Rattle.vx_runs.proofs.Since.{Since}
use Rattle.vx_runs.proofs.Simulating.{stops_on}
use Rattle.vx_files.proofs.WholeFile.{whole_or, too_long}

pub spells_in : (b : Option Files) (name : List ℕ) (most : ℕ) (bytes : Vec ℕ Global) (program : WordProgram) → IfSome b (λ held. ReadsFile held name most (Whole bytes)) → Spells bytes.items program →
    IfSome b (λ held. IfSome (held name) (λ content. Spells content program))
spells_in None name most bytes program h s = tt
spells_in (Some held) name most bytes program h s =
    subst (λ o. IfSome o (λ content. Spells content program)) (sym h.holds) (subst (λ content. Spells content program) h.answers.0 s)

-- a text that is refused

module _ (named : Role → Bool) (name : List ℕ) (bytes : Vec ℕ Global) (e : Effect) where
  words_fault : (r : Result WordProgram Fault) (status : Status) → length bytes.items ≤ 536870912 → reading bytes.items ≡ r → words_as r ≡ Err status → IfSome e.before (λ held. ReadsFile held name 536870912 (Whole bytes)) →
      Stops named (λ held. words_in (held name)) e status
  words_fault (Ok program) status short is bad h = absurd cc
  words_fault (Err fault) status short is bad h =
      let same : Words fault.code fault.line ≡ status = cc in
      subst (Stops named (λ held. words_in (held name)) e) same
      (whole_or TheWords 536870912 (Limit 9 536870913) (λ content. words_as (reading content)) e.before name bytes (Err (Words fault.code fault.line)) short h (ap words_as is))

  pub words_refused : (status : Status) → length bytes.items ≤ 536870912 → IfSome e.before (λ held. ReadsFile held name 536870912 (Whole bytes)) → ((status ≡ NoMemory) ⊎ (words_as (reading bytes.items) ≡ Err status)) →
      Stops named (λ held. words_in (held name)) e status
  words_refused status short h (inl memory) = subst (Stops named (λ held. words_in (held name)) e) (sym memory) tt
  words_refused status short h (inr bad) = words_fault (reading bytes.items) status short refl bad h

pub words_long : (named : Role → Bool) (name : List ℕ) (e : Effect) → named TheWords ≡ true → IfSome e.before (λ held. ReadsFile held name 536870912 FileTooLong) →
    Stops named (λ held. words_in (held name)) e (Limit 9 536870913)
words_long named name e among h =
    (record { role = TheWords; among = among; status_is = refl }, too_long TheWords 536870912 (Limit 9 536870913) (λ content. words_as (reading content)) e.before name h)

-- an input

abbrev InputStops : (input : Option (List ℕ)) → Effect → Status → Type 0
InputStops input e status = Stops (is_named None input) (λ held. input_found held input) e status

pub input_answers_stop : (input : Option (List ℕ)) (e : Effect) (status : Status) → is_some input ≡ true → InputAnswers input e status → InputStops input e status
input_answers_stop input e Done named a = absurd a
input_answers_stop input e (Trapped trap) named a = absurd a
input_answers_stop input e Usage named a = absurd a
input_answers_stop input e (Source code line column) named a = absurd a
input_answers_stop input e (Limit number count) named a =
    let same : Limit 12 16777217 ≡ Limit number count = same_limit number count a.0 a.1 in
    subst (InputStops input e) same (record { role = TheInput; among = named; status_is = refl }, a.3)
  where
    same_limit : (number count : ℕ) → number ≡ 12 → count ≡ 16777217 → Limit 12 16777217 ≡ Limit number count
    same_limit number count a b = cc
input_answers_stop input e (Words code line) named a = absurd a
input_answers_stop input e (Profile code line) named a = absurd a
input_answers_stop input e (Machine code field) named a = absurd a
input_answers_stop input e (NoFile role) named a = subst (λ r. InputStops input e (NoFile r)) (sym a.0) (named, a.2)
input_answers_stop input e (ReadFault role) named a = subst (λ r. InputStops input e (ReadFault r)) (sym a.0) (named, a.2)
input_answers_stop input e WriteFault named a = absurd a
input_answers_stop input e Stopped named a = absurd a
input_answers_stop input e (Input place) named a = (named, a.1)
input_answers_stop input e (Stuck reason place) named a = absurd a
input_answers_stop input e (NotStrict breach place) named a = absurd a
input_answers_stop input e NoMemory named a = tt

-- the machine's answers

machine_told : (machine : Option (List ℕ)) (found : MachineFound) (b : Option Files) (r : Result Numbers Status) → IfSome b (λ held. machine_found held machine ≡ found) → machine_as found ≡ r →
    IfSome b (λ held. machine_as (machine_found held machine) ≡ r)
machine_told machine found None r h is = tt
machine_told machine found (Some held) r h is = ap machine_as h ∙ is

machine_missing : (machine : Option (List ℕ)) (Rises : Type 0) (b : Option Files) → MatchOption b Rises (λ held. machine_found held machine ≡ Missing) →
    MatchOption b Rises (λ held. machine_as (machine_found held machine) ≡ Err (NoFile TheMachine))
machine_missing machine Rises None h = h
machine_missing machine Rises (Some held) h = ap machine_as h

machine_refused : (machine : Option (List ℕ)) (code field : ℕ) (b : Option Files) →
    OfFile b (λ held. machine_found held machine ≡ Refused (Bad code field)) (λ content. found_in (Some content) ≡ Refused (Bad code field)) →
    OfFile b (λ held. machine_as (machine_found held machine) ≡ Err (Machine code field)) (λ content. found_in (Some content) ≡ Refused (Bad code field))
machine_refused machine code field None h = h
machine_refused machine code field (Some held) h = ap machine_as h

abbrev MachineStops : (machine : Option (List ℕ)) → Effect → Status → Type 0
MachineStops machine e status = Stops (is_named machine None) (λ held. machine_as (machine_found held machine)) e status

pub machine_stops : (machine : Option (List ℕ)) (e : Effect) (status : Status) → is_some machine ≡ true → MachineAnswers machine e status → MachineStops machine e status
machine_stops machine e Done named a = absurd a
machine_stops machine e (Trapped trap) named a = absurd a
machine_stops machine e Usage named a = absurd a
machine_stops machine e (Source code line column) named a = absurd a
machine_stops machine e (Limit number count) named a =
    let same : Limit 11 65537 ≡ Limit number count = same_limit number count a.0 a.1 in
    subst (MachineStops machine e) same (record { role = TheMachine; among = named; status_is = refl }, machine_told machine TooLong e.before (Err (Limit 11 65537)) a.3 refl)
  where
    same_limit : (number count : ℕ) → number ≡ 11 → count ≡ 65537 → Limit 11 65537 ≡ Limit number count
    same_limit number count a b = cc
machine_stops machine e (Words code line) named a = absurd a
machine_stops machine e (Profile code line) named a = absurd a
machine_stops machine e (Machine code field) named a = (named, machine_refused machine code field e.before a.1)
machine_stops machine e (NoFile role) named a =
    subst (λ r. MachineStops machine e (NoFile r)) (sym a.0) (named, machine_missing machine (ReadsRose e) e.before a.2)
machine_stops machine e (ReadFault role) named a = subst (λ r. MachineStops machine e (ReadFault r)) (sym a.0) (named, a.2)
machine_stops machine e WriteFault named a = absurd a
machine_stops machine e Stopped named a = absurd a
machine_stops machine e (Input place) named a = absurd a
machine_stops machine e (Stuck reason place) named a = absurd a
machine_stops machine e (NotStrict breach place) named a = absurd a
machine_stops machine e NoMemory named a = tt

-- one step after the other

pub since_self : (e : Effect) → Since e e
since_self e = record { before = refl; after = refl; reads = omega arith; reads_after = refl; replaces = omega arith; replaces_after = refl }

names_input : (machine input : Option (List ℕ)) (role : Role) → is_named None input role ≡ true → is_named machine input role ≡ true
names_input machine input TheSource h = h
names_input machine input TheWords h = h
names_input machine input TheProfile h = h
names_input machine input TheMachine h = absurd cc
names_input machine input TheInput h = h

names_machine : (machine input : Option (List ℕ)) (role : Role) → is_named machine None role ≡ true → is_named machine input role ≡ true
names_machine machine input TheSource h = h
names_machine machine input TheWords h = h
names_machine machine input TheProfile h = h
names_machine machine input TheMachine h = h
names_machine machine input TheInput h = absurd cc

names_words : (machine input : Option (List ℕ)) (role : Role) → is_named None None role ≡ true → is_named machine input role ≡ true
names_words machine input TheSource h = h
names_words machine input TheWords h = h
names_words machine input TheProfile h = h
names_words machine input TheMachine h = absurd cc
names_words machine input TheInput h = absurd cc

pub input_loaded : (b : Option Files) (program : WordProgram) (machine : Numbers) (input : Option (List ℕ)) (numbers : List ℤ) → IfSome b (λ held. input_found held input ≡ Ok numbers) →
    IfSome b (λ held. loading_input held program machine input ≡ Ok (with_input program machine numbers))
input_loaded None program machine input numbers h = tt
input_loaded (Some held) program machine input numbers h = rw h refl

pub input_stops : (program : WordProgram) (machine : Numbers) (input : Option (List ℕ)) (e : Effect) (status : Status) → Stops (is_named None input) (λ held. input_found held input) e status →
    Stops (is_named None input) (λ held. loading_input held program machine input) e status
input_stops program machine input e status a =
    stops_on (is_named None input) (is_named None input) (λ held. input_found held input) (λ held. loading_input held program machine input) e e (λ role h. h) (since_self e)
    (λ held is why h. rw h refl) status a

at_told : (P : Files → Type 0) (b : Option Files) (held : Files) → b ≡ Some held → IfSome b P → P held
at_told P b held is h = subst (λ o. IfSome o P) is h

pub machine_loaded : (b c : Option Files) (program : WordProgram) (machine input : Option (List ℕ)) (numbers : Numbers) (x : Loaded) → c ≡ b → IfSome b (λ held. machine_found held machine ≡ Is numbers) →
    IfSome c (λ held. loading_input held program numbers input ≡ Ok x) → IfSome b (λ held. loading_machine held program machine input ≡ Ok x)
machine_loaded None c program machine input numbers x same h more = tt
machine_loaded (Some held) c program machine input numbers x same h more = rw h (at_told (λ held. loading_input held program numbers input ≡ Ok x) c held same more)

pub after_machine : (program : WordProgram) (machine input : Option (List ℕ)) (numbers : Numbers) (e f : Effect) (status : Status) → Since e f → IfSome f.before (λ held. machine_found held machine ≡ Is numbers) →
    Stops (is_named None input) (λ held. loading_input held program numbers input) e status → Stops (is_named machine input) (λ held. loading_machine held program machine input) f status
after_machine program machine input numbers e f status since h a =
    stops_on (is_named None input) (is_named machine input) (λ held. loading_input held program numbers input) (λ held. loading_machine held program machine input) e f (names_input machine input) since
    (λ held is why stop. let there : machine_found held machine ≡ Is numbers = at_told (λ k. machine_found k machine ≡ Is numbers) f.before held is h in rw there stop) status a

pub at_machine : (program : WordProgram) (machine input : Option (List ℕ)) (e : Effect) (status : Status) → is_some machine ≡ true → MachineAnswers machine e status →
    Stops (is_named machine input) (λ held. loading_machine held program machine input) e status
at_machine program machine input e status named a =
    stops_on (is_named machine None) (is_named machine input) (λ held. machine_as (machine_found held machine)) (λ held. loading_machine held program machine input) e e (names_machine machine input) (since_self e)
    (λ held is why stop. rw stop refl) status (machine_stops machine e status named a)

pub still_some : {A B : Type 0} (f : A → B) (o : Option A) → is_some o ≡ true → is_some (option_map f o) ≡ true
still_some f None named = named
still_some f (Some x) named = refl

pub words_loaded : (b c : Option Files) (words : List ℕ) (machine input : Option (List ℕ)) (program : WordProgram) (x : Loaded) → c ≡ b → IfSome b (λ held. words_in (held words) ≡ Ok program) →
    IfSome c (λ held. loading_machine held program machine input ≡ Ok x) → IfSome b (λ held. loading held words machine input ≡ Ok x)
words_loaded None c words machine input program x same h more = tt
words_loaded (Some held) c words machine input program x same h more = rw h (at_told (λ held. loading_machine held program machine input ≡ Ok x) c held same more)

pub after_words : (words : List ℕ) (machine input : Option (List ℕ)) (program : WordProgram) (e f : Effect) (status : Status) → Since e f → IfSome f.before (λ held. words_in (held words) ≡ Ok program) →
    Stops (is_named machine input) (λ held. loading_machine held program machine input) e status → Stops (is_named machine input) (λ held. loading held words machine input) f status
after_words words machine input program e f status since h a =
    stops_on (is_named machine input) (is_named machine input) (λ held. loading_machine held program machine input) (λ held. loading held words machine input) e f (λ role n. n) since
    (λ held is why stop. let there : words_in (held words) ≡ Ok program = at_told (λ k. words_in (k words) ≡ Ok program) f.before held is h in rw there stop) status a

pub at_words : (words : List ℕ) (machine input : Option (List ℕ)) (e : Effect) (status : Status) → Stops (is_named None None) (λ held. words_in (held words)) e status →
    Stops (is_named machine input) (λ held. loading held words machine input) e status
at_words words machine input e status a =
    stops_on (is_named None None) (is_named machine input) (λ held. words_in (held words)) (λ held. loading held words machine input) e e (names_words machine input) (since_self e)
    (λ held is why stop. rw stop refl) status a
