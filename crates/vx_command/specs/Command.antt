-- What the words of a command line ask for. The second word names the command; the other words are those of one
-- simple command of clap, and what it finds there is what is meant.
use Rattle.std.specs.Prelude.{ℕ, List, [], ◌∷◌, Bool, true, false, ◌||◌, Option, Some, None, codes, unwrap_or, option_and_then, option_map, if◌then◌else◌}
use Rattle.std.specs.Str.{bytes_eq}
use Rattle.std.specs.Str.Parse.{digits_value, without_leading_plus}
use Rattle.clap.specs.Walk.{Rule, Row, first_of}
use Rattle.clap.specs.Simple.{App, new_app, new_rule, with_rule, matches_of}
use Rattle.clap.specs.Faults.{fault_of}
use Rattle.clap.specs.Kinds.{Kinds}
use Rattle.clap.specs.ValueTests.{is_unsigned_in}
use Rattle.clap.specs.declared.builder.action.ArgAction.TheVariants.{Set}
use Rattle.clap.specs.declared.builder.value_parser.ValueParser.TheVariants.{Unsigned}

-- what a simulation is asked for
pub record Simulation : Type 0 where
  -- the file of the words
  pub words : List ℕ
  -- the files of the machine's description and of the input
  pub machine : Option (List ℕ)
  pub input : Option (List ℕ)
  -- the most words that are issued
  pub budget : ℕ
  -- the names of the timing and of the probe
  pub timing : List ℕ
  pub probe : Option (List ℕ)

-- what is asked of a program before its words are planned
pub record Rewriting : Type 0 where
  -- how many turns of its loops are taken together
  pub unroll : Option ℕ
  -- how many operations a callee may have whose calls are inlined
  pub inline : Option ℕ
  -- how many operations the sides of a split may have that become choices
  pub select : Option ℕ

-- what an execution is asked for
pub record Execution : Type 0 where
  -- the file of the source
  pub source : List ℕ
  -- how many operations may be copied
  pub growth : ℕ
  -- what is rewritten
  pub rewriting : Rewriting
  -- the files of the profile, of the machine's description and of the input
  pub profile : Option (List ℕ)
  pub machine : Option (List ℕ)
  pub input : Option (List ℕ)
  -- the most words that are issued
  pub budget : ℕ
  -- the names of the timing and of the probe
  pub timing : List ℕ
  pub probe : Option (List ℕ)

-- what a compilation is asked for
pub record Compilation : Type 0 where
  -- the file of the source, and the file that its words go to
  pub source : List ℕ
  pub out : List ℕ
  -- the files of the profile and of the machine's description
  pub profile : Option (List ℕ)
  pub machine : Option (List ℕ)
  -- how many operations may be copied
  pub growth : ℕ
  -- what is rewritten
  pub rewriting : Rewriting
  -- the file that the report goes to
  pub report : Option (List ℕ)

-- what a profiling is asked for
pub record Profiling : Type 0 where
  -- the file of the source
  pub source : List ℕ
  -- the file of the input
  pub input : Option (List ℕ)
  -- the most blocks that are run
  pub blocks : ℕ
  -- what is rewritten before its blocks are counted
  pub rewriting : Rewriting

-- what a soak run is asked for
pub record Soaking : Type 0 where
  -- where the draws begin
  pub seed : ℕ
  -- how many statements are made
  pub size : ℕ

-- what a check is asked for
pub record Checking : Type 0 where
  -- the file of the words
  pub words : List ℕ
  -- the file of the machine's description
  pub machine : Option (List ℕ)

pub data Command : Type 0 where
  -- the words of the source go to a file, and the report of their plan to another, where one is named; their traces are picked by
  -- the profile of a file, or by no counts, and they are for the machine that a file describes, or the default one
  Compile : Compilation → Command
  -- the words of a file are run
  Simulate : Simulation → Command
  -- the words of the source are run
  Execute : Execution → Command
  -- the blocks and edges of a run of the source are counted
  Count : Profiling → Command
  -- a source is made, and its words are run
  Soak : Soaking → Command
  -- the words of a file are checked for the machine that a file describes, or the default one
  Check : Checking → Command

-- a word that has to be there
abbrev pub required_word : List ℕ → Rule
required_word name = record (new_rule name) { action = Some Set; required = true }

-- `--name VALUE`, which is given once or not at all
abbrev pub option_word : List ℕ → Rule
option_word name = record (new_rule name) { long = Some name; action = Some Set }

-- `--name N`, N from low to high, which is given once or not at all
abbrev pub number_word : List ℕ → (low high : ℕ) → Rule
number_word name low high = record (option_word name) { parser = Some (Unsigned low high) }

-- the number of such an option, or the other one where there is no text of it
abbrev pub number_in : (low high other : ℕ) → Option (List ℕ) → Option ℕ
number_in low high other None = Some other
number_in low high other (Some text) = if is_unsigned_in low high text then Some (digits_value 10 (without_leading_plus text)) else None

-- `--growth G`
abbrev pub growth_word : Rule
growth_word = number_word (codes "growth") 0 1000000

-- how many operations may be copied
abbrev pub growth_of : Option (List ℕ) → Option ℕ
growth_of text = number_in 0 1000000 4000 text

-- the number of an option that may be left out: nothing where it is, and no answer where the text is no such number
abbrev pub number_or_none : (low high : ℕ) → Option (List ℕ) → Option (Option ℕ)
number_or_none low high None = Some None
number_or_none low high (Some text) = option_map Some (number_in low high low (Some text))

-- `--unroll K`
abbrev pub unroll_word : Rule
unroll_word = number_word (codes "unroll") 2 8

-- `--select N`
abbrev pub select_word : Rule
select_word = number_word (codes "select") 1 16

-- `--inline N`
abbrev pub inline_word : Rule
inline_word = number_word (codes "inline") 1 4000

-- after the words of a command `[--unroll K] [--select N]`
abbrev pub with_rewriting_options : App → App
with_rewriting_options app = with_rule (with_rule app unroll_word) select_word

-- what is asked to be rewritten, where no number is out of its range
abbrev pub rewriting_by : (unroll inline select : Option (Option ℕ)) → Option Rewriting
rewriting_by (Some unroll) (Some inline) (Some select) = Some (record { unroll = unroll; inline = inline; select = select })
rewriting_by unroll inline select = None

-- and by what was found; where a command does not have an option, nothing is found of it
abbrev pub rewriting_of : List Row → Option Rewriting
rewriting_of rows = rewriting_by (number_or_none 2 8 (first_of (codes "unroll") rows)) (number_or_none 1 4000 (first_of (codes "inline") rows)) (number_or_none 1 16 (first_of (codes "select") rows))

-- after the words of a command `[--profile P] [--machine M] [--growth G] [--unroll K] [--select N] [--inline N]`
abbrev pub with_compiling_options : App → App
with_compiling_options app =
    with_rule (with_rewriting_options (with_rule (with_rule (with_rule app (option_word (codes "profile"))) (option_word (codes "machine"))) growth_word)) inline_word

-- `compile SRC OUT [--profile P] [--machine M] [--growth G] [--unroll K] [--select N] [--inline N] [--report R]`
unfoldable pub compile_app : App
compile_app =
    with_rule (with_compiling_options (with_rule (with_rule (new_app (codes "compile")) (required_word (codes "SRC"))) (required_word (codes "OUT"))))
    (option_word (codes "report"))

-- the command of what was found: a word that has to be there is
abbrev pub compile_found : List Row → ℕ → Rewriting → Command
compile_found rows growth rewriting = Compile (record {
  source = unwrap_or (first_of (codes "SRC") rows) [];
  out = unwrap_or (first_of (codes "OUT") rows) [];
  profile = first_of (codes "profile") rows;
  machine = first_of (codes "machine") rows;
  growth = growth;
  rewriting = rewriting;
  report = first_of (codes "report") rows;
})

-- the command, where nothing is refused and the numbers are such
abbrev pub compile_unless : Kinds → List Row → Option Command
compile_unless [] rows = option_and_then (λ growth. option_map (compile_found rows growth) (rewriting_of rows)) (growth_of (first_of (codes "growth") rows))
compile_unless (kind ∷ kinds) rows = None

-- what the words of `compile` ask for, the program's name first; nothing where clap refuses them
unfoldable pub compile_of : List (List ℕ) → Option Command
compile_of words = compile_unless (fault_of compile_app words) (matches_of compile_app words)

-- `NAME FILE`
abbrev pub file_app : (name file : List ℕ) → App
file_app name file = with_rule (new_app name) (required_word file)

-- after the words of a command `[--input I] [--words N] [--timing T] [--probe B]`
abbrev pub with_run_options : App → App
with_run_options app =
    with_rule (with_rule (with_rule (with_rule app (option_word (codes "input"))) (number_word (codes "words") 1 1000000000000))
    (option_word (codes "timing"))) (option_word (codes "probe"))

-- `sim WORDS [--machine M]` with these options
unfoldable pub sim_app : App
sim_app = with_run_options (with_rule (file_app (codes "sim") (codes "WORDS")) (option_word (codes "machine")))

-- `exec SRC [--profile P] [--machine M] [--growth G] [--unroll K] [--select N] [--inline N]` with these options
unfoldable pub exec_app : App
exec_app = with_run_options (with_compiling_options (file_app (codes "exec") (codes "SRC")))

-- how many words are issued, or blocks are run, at most
abbrev pub budget_of : Option (List ℕ) → Option ℕ
budget_of text = number_in 1 1000000000000 1000000000 text

-- how a command is made of what was found: its file, the other files, the number of words, the names of the boxes
abbrev pub Makes : Type 0
Makes = (file : List ℕ) (machine input : Option (List ℕ)) (budget : ℕ) (timing : List ℕ) (probe : Option (List ℕ)) → Command

abbrev pub simulates : Makes
simulates file machine input budget timing probe = Simulate (record { words = file; machine = machine; input = input; budget = budget; timing = timing; probe = probe })

abbrev pub executes : (profile : Option (List ℕ)) (growth : ℕ) → Rewriting → Makes
executes profile growth rewriting file machine input budget timing probe =
    Execute (record { source = file; growth = growth; rewriting = rewriting; profile = profile; machine = machine; input = input; budget = budget; timing = timing; probe = probe })

abbrev pub run_within : Makes → (file : List ℕ) → List Row → ℕ → Command
run_within makes file rows budget =
    makes (unwrap_or (first_of file rows) []) (first_of (codes "machine") rows) (first_of (codes "input") rows) budget
    (unwrap_or (first_of (codes "timing") rows) (codes "late")) (first_of (codes "probe") rows)

abbrev pub run_unless : Makes → (file : List ℕ) → Kinds → List Row → Option Command
run_unless makes file [] rows = option_map (run_within makes file rows) (budget_of (first_of (codes "words") rows))
run_unless makes file (kind ∷ kinds) rows = None

abbrev pub sim_unless : Kinds → List Row → Option Command
sim_unless kinds rows = run_unless simulates (codes "WORDS") kinds rows

abbrev pub exec_unless : Kinds → List Row → Option Command
exec_unless kinds rows =
    option_and_then (λ growth. option_and_then (λ rewriting. run_unless (executes (first_of (codes "profile") rows) growth rewriting) (codes "SRC") kinds rows) (rewriting_of rows)) (growth_of (first_of (codes "growth") rows))

-- what the words of `sim` ask for, the program's name first; nothing where clap refuses them
unfoldable pub sim_of : List (List ℕ) → Option Command
sim_of words = sim_unless (fault_of sim_app words) (matches_of sim_app words)

-- what the words of `exec` ask for, the program's name first; nothing where clap refuses them
unfoldable pub exec_of : List (List ℕ) → Option Command
exec_of words = exec_unless (fault_of exec_app words) (matches_of exec_app words)

-- `profile SRC [--input I] [--blocks N] [--unroll K] [--select N]`
unfoldable pub profile_app : App
profile_app = with_rewriting_options (with_rule (with_rule (file_app (codes "profile") (codes "SRC")) (option_word (codes "input"))) (number_word (codes "blocks") 1 1000000000000))

abbrev pub profile_found : List Row → ℕ → Rewriting → Command
profile_found rows blocks rewriting = Count (record { source = unwrap_or (first_of (codes "SRC") rows) []; input = first_of (codes "input") rows; blocks = blocks; rewriting = rewriting })

abbrev pub profile_unless : Kinds → List Row → Option Command
profile_unless [] rows = option_and_then (λ blocks. option_map (profile_found rows blocks) (rewriting_of rows)) (budget_of (first_of (codes "blocks") rows))
profile_unless (kind ∷ kinds) rows = None

-- what the words of `profile` ask for, the program's name first; nothing where clap refuses them
unfoldable pub profile_of : List (List ℕ) → Option Command
profile_of words = profile_unless (fault_of profile_app words) (matches_of profile_app words)

-- a word that has to be there, a number from low to high
abbrev pub required_number : List ℕ → (low high : ℕ) → Rule
required_number name low high = record (required_word name) { parser = Some (Unsigned low high) }

-- `soak SEED SIZE`
unfoldable pub soak_app : App
soak_app = with_rule (with_rule (new_app (codes "soak")) (required_number (codes "SEED") 0 1000000000)) (required_number (codes "SIZE") 1 10000)

-- the two numbers, where both have a text of one
abbrev pub soak_found : (seed size : Option ℕ) → Option Command
soak_found (Some seed) (Some size) = Some (Soak (record { seed = seed; size = size }))
soak_found seed size = None

abbrev pub soak_unless : Kinds → List Row → Option Command
soak_unless [] rows = soak_found (number_in 0 1000000000 0 (first_of (codes "SEED") rows)) (number_in 1 10000 1 (first_of (codes "SIZE") rows))
soak_unless (kind ∷ kinds) rows = None

-- what the words of `soak` ask for, the program's name first; nothing where clap refuses them
unfoldable pub soak_of : List (List ℕ) → Option Command
soak_of words = soak_unless (fault_of soak_app words) (matches_of soak_app words)

-- `check WORDS [--machine M]`
unfoldable pub check_app : App
check_app = with_rule (file_app (codes "check") (codes "WORDS")) (option_word (codes "machine"))

abbrev pub check_found : List Row → Command
check_found rows = Check (record { words = unwrap_or (first_of (codes "WORDS") rows) []; machine = first_of (codes "machine") rows })

abbrev pub check_unless : Kinds → List Row → Option Command
check_unless [] rows = Some (check_found rows)
check_unless (kind ∷ kinds) rows = None

-- what the words of `check` ask for, the program's name first; nothing where clap refuses them
unfoldable pub check_of : List (List ℕ) → Option Command
check_of words = check_unless (fault_of check_app words) (matches_of check_app words)

abbrev pub command_named : List ℕ → List (List ℕ) → Option Command
command_named name words =
    if bytes_eq name (codes "compile") then compile_of words
    else if bytes_eq name (codes "sim") then sim_of words
    else if bytes_eq name (codes "exec") then exec_of words
    else if bytes_eq name (codes "profile") then profile_of words
    else if bytes_eq name (codes "soak") then soak_of words
    else if bytes_eq name (codes "check") then check_of words
    else None

abbrev pub command_of : List (List ℕ) → Option Command
command_of (program ∷ name ∷ words) = command_named name (program ∷ words)
command_of words = None

-- a command has this name
abbrev pub is_command : (name : List ℕ) → Bool
is_command name =
    bytes_eq name (codes "compile") || bytes_eq name (codes "sim") || bytes_eq name (codes "exec") || bytes_eq name (codes "profile") || bytes_eq name (codes "soak")
    || bytes_eq name (codes "check")

-- the second word names a command
abbrev pub names_command : List (List ℕ) → Bool
names_command (program ∷ name ∷ words) = is_command name
names_command words = false
