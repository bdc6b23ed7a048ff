-- What is read and compiled for an execution, from its last step to its first: each finds what the steps behind it left.
use Rattle.std.specs.Prelude.{◌≡◌, ℕ, ℤ, List, Option, None, Ok, IfSome}
use Rattle.vx_io.specs.Outside.{Files}
use Rattle.vx_isa.specs.Numbers.{Numbers}
use Rattle.vx_ast.specs.Tree.{Program}
use Rattle.vx_profile.specs.declared.counts.Counts.{Counts}
use Rattle.vx_files.specs.Held.{EmptyUnless, Is, ProfileStands, input_found, machine_found}
use Rattle.vx_compiled.specs.Sized.{IsCompiled}
use Rattle.vx_runs.specs.Simulated.{AreDefaults, Loaded}
use Rattle.vx_commands.specs.Executed.{CompiledBy}

-- words that are compiled from a program by counts, for a machine and beside an input
pub record LoadedWords (p : Program) (counts : Counts) (growth : ℕ) (inline select : Option ℕ) (machine : Numbers) (input : List ℤ) (x : Loaded) : Type 0 where
  pub machine_is : x.machine ≡ machine
  pub input_is : x.input ≡ input
  pub compiled : IsCompiled p counts x.machine growth inline select x.program

-- and beside the input that is found in the files
pub record LoadedInput (p : Program) (counts : Counts) (growth : ℕ) (inline select : Option ℕ) (machine : Numbers) (told : Option Files) (input : Option (List ℕ)) (x : Loaded) : Type 0 where
  pub machine_is : x.machine ≡ machine
  pub input_is : IfSome told (λ held. input_found held input ≡ Ok x.input)
  pub unnamed : EmptyUnless input x.input
  pub compiled : IsCompiled p counts x.machine growth inline select x.program

-- and for the machine that is found there
pub record LoadedMachine (p : Program) (counts : Counts) (growth : ℕ) (inline select : Option ℕ) (told : Option Files) (machine input : Option (List ℕ)) (x : Loaded) : Type 0 where
  pub machine_is : IfSome told (λ held. machine_found held machine ≡ Is x.machine)
  pub input_is : IfSome told (λ held. input_found held input ≡ Ok x.input)
  pub defaults : AreDefaults machine input x
  pub compiled : IsCompiled p counts x.machine growth inline select x.program

-- and by the profile that stands there
pub record LoadedProfile (p : Program) (growth : ℕ) (inline select : Option ℕ) (told : Option Files) (profile machine input : Option (List ℕ)) (x : Loaded) : Type 0 where
  pub profiled : IfSome told (λ held. ProfileStands held profile)
  pub machine_is : IfSome told (λ held. machine_found held machine ≡ Is x.machine)
  pub input_is : IfSome told (λ held. input_found held input ≡ Ok x.input)
  pub defaults : AreDefaults machine input x
  pub by : CompiledBy told profile growth None inline select p x.machine x.program
