-- Which command a word names, and what the words behind it ask for.
use Rattle.std.specs.Prelude.{◌≡◌, ℕ, List, Bool, true, false, Option, None}
use Rattle.vx_command.specs.Command.{Command, check_of, command_named, compile_of, exec_of, is_command, profile_of, sim_of, soak_of}
use Rattle.vx_runs.specs.declared.names.Named.{Named}
use Rattle.vx_runs.specs.declared.names.Named.TheVariants.{Compile, Sim, Exec, Profile, Soak, Check, Nothing}

-- what the words behind a name ask for
abbrev pub asked_by : Named → List (List ℕ) → Option Command
asked_by Compile words = compile_of words
asked_by Sim words = sim_of words
asked_by Exec words = exec_of words
asked_by Profile words = profile_of words
asked_by Soak words = soak_of words
asked_by Check words = check_of words
asked_by Nothing words = None

abbrev pub names_one : Named → Bool
names_one Nothing = false
names_one other = true

-- this is the command of a name
pub record IsNamed (name : List ℕ) (named : Named) : Type 0 where
  pub known : is_command name ≡ names_one named
  pub asks : (words : List (List ℕ)) → command_named name words ≡ asked_by named words
