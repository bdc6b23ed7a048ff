-- What clap finds in the words of `profile`, as the definition of the command says it, and worked words.
use Rattle.std.proofs.Common.{◌≡◌, ◌≢◌, ◌∙◌, ℕ, true, List, [], ◌∷◌, Option, Some, None, refl, subst, ap}
use Rattle.std.specs.Prelude.{codes, unwrap_or}
use Rattle.clap.specs.Walk.{Row, rows_of}
use Rattle.clap.specs.Matches.{first_value}
use Rattle.clap.specs.Simple.{App, is_simple, matches_of}
use Rattle.clap.specs.Faults.{fault_of, is_simple_and_free}
use Rattle.clap.specs.Kinds.{Kinds}
use Rattle.clap.specs.declared.parser.matches.Found.{Found}
use Rattle.clap.proofs.OnLiterals.{clap_on_literals}
use Rattle.vx_command.specs.Command.{Command, Count, Rewriting, budget_of, profile_app, profile_found, profile_unless, profile_of, command_of, rewriting_of}
use Rattle.vx_command.proofs.CommandWords.{both_found, first_of_rows, no_number_found, no_rewriting_found}

pub profile_is_simple : is_simple profile_app ≡ true
unfolding profile_app
profile_is_simple = refl

pub profile_is_free : is_simple_and_free profile_app ≡ true
unfolding profile_app
profile_is_free = refl

unless_rows : (kinds : Kinds) (rows found : List Row) → kinds ≡ [] → found ≡ rows → profile_unless kinds rows ≡ profile_unless [] found
unless_rows kinds rows found none same = rw (none, same) refl

unless_none : (kinds : Kinds) (rows : List Row) → kinds ≢ [] → profile_unless kinds rows ≡ None
unless_none [] rows some = absurd (some refl)
unless_none (kind ∷ kinds) rows some = refl

module _ (app : App) (is : app ≡ profile_app) (words : List (List ℕ)) where
  pub profile_taken : (found : List Row) → fault_of app words ≡ [] → found ≡ matches_of app words → profile_of words ≡ profile_unless [] found
  unfolding profile_of
  profile_taken found none same =
      unless_rows (fault_of profile_app words) (matches_of profile_app words) found (subst (λ (a : App). fault_of a words ≡ []) is none) (subst (λ (a : App). found ≡ matches_of a words) is same)

  pub profile_refused : fault_of app words ≢ [] → profile_of words ≡ None
  unfolding profile_of
  profile_refused some = unless_none (fault_of profile_app words) (matches_of profile_app words) (subst (λ (a : App). fault_of a words ≢ []) is some)

module _ (f : Found) where
  pub found_is : (source : List ℕ) (input : Option (List ℕ)) (blocks : ℕ) (rewriting : Rewriting) → source ≡ unwrap_or (first_value f (codes "SRC")) [] → input ≡ first_value f (codes "input") →
      Count (record { source = source; input = input; blocks = blocks; rewriting = rewriting }) ≡ profile_found (rows_of f) blocks rewriting
  found_is source input blocks rewriting a b = rw (a, b, first_of_rows f (codes "SRC"), first_of_rows f (codes "input")) refl

  pub all_found : (blocks : ℕ) (rewriting : Rewriting) (command : Command) → Some blocks ≡ budget_of (first_value f (codes "blocks")) → Some rewriting ≡ rewriting_of (rows_of f) → command ≡ profile_found (rows_of f) blocks rewriting →
      Some command ≡ profile_unless [] (rows_of f)
  all_found blocks rewriting command n w is = ap Some is ∙ both_found (profile_found (rows_of f)) blocks rewriting _ _ (n ∙ ap budget_of (first_of_rows f (codes "blocks"))) w

  pub no_blocks_found : None ≡ budget_of (first_value f (codes "blocks")) → None ≡ profile_unless [] (rows_of f)
  no_blocks_found n = no_number_found (profile_found (rows_of f)) _ _ (n ∙ ap budget_of (first_of_rows f (codes "blocks")))

  pub none_found : (blocks : ℕ) → Some blocks ≡ budget_of (first_value f (codes "blocks")) → None ≡ rewriting_of (rows_of f) → None ≡ profile_unless [] (rows_of f)
  none_found blocks n w = no_rewriting_found (profile_found (rows_of f)) blocks _ _ (n ∙ ap budget_of (first_of_rows f (codes "blocks"))) w

-- worked words

abbrev turns : Option ℕ → Rewriting
turns unroll = record { unroll = unroll; inline = None; select = None }

plain : command_of (codes "vexc" ∷ codes "profile" ∷ codes "a.c" ∷ []) ≡ Some (Count (record { source = codes "a.c"; input = None; blocks = 1000000000; rewriting = turns None }))
unfolding clap_on_literals profile_app profile_of
plain = refl

with_all : command_of (codes "vexc" ∷ codes "profile" ∷ codes "--blocks=7" ∷ codes "a.c" ∷ codes "--input" ∷ codes "i" ∷ []) ≡ Some (Count (record { source = codes "a.c"; input = Some (codes "i"); blocks = 7; rewriting = turns None }))
unfolding clap_on_literals profile_app profile_of
with_all = refl

no_blocks : command_of (codes "vexc" ∷ codes "profile" ∷ codes "a.c" ∷ codes "--blocks" ∷ codes "0" ∷ []) ≡ None
unfolding clap_on_literals profile_app profile_of
no_blocks = refl

most_blocks : command_of (codes "vexc" ∷ codes "profile" ∷ codes "a.c" ∷ codes "--blocks" ∷ codes "1000000000000" ∷ []) ≡ Some (Count (record { source = codes "a.c"; input = None; blocks = 1000000000000; rewriting = turns None }))
unfolding clap_on_literals profile_app profile_of
most_blocks = refl

too_many_blocks : command_of (codes "vexc" ∷ codes "profile" ∷ codes "a.c" ∷ codes "--blocks" ∷ codes "1000000000001" ∷ []) ≡ None
unfolding clap_on_literals profile_app profile_of
too_many_blocks = refl

no_machine : command_of (codes "vexc" ∷ codes "profile" ∷ codes "a.c" ∷ codes "--machine" ∷ codes "m" ∷ []) ≡ None
unfolding clap_on_literals profile_app profile_of
no_machine = refl

some_turns : command_of (codes "vexc" ∷ codes "profile" ∷ codes "a.c" ∷ codes "--unroll" ∷ codes "8" ∷ codes "--blocks=7" ∷ []) ≡ Some (Count (record { source = codes "a.c"; input = None; blocks = 7; rewriting = turns (Some 8) }))
unfolding clap_on_literals profile_app profile_of
some_turns = refl

too_few_turns : command_of (codes "vexc" ∷ codes "profile" ∷ codes "a.c" ∷ codes "--unroll=1" ∷ []) ≡ None
unfolding clap_on_literals profile_app profile_of
too_few_turns = refl

turns_twice : command_of (codes "vexc" ∷ codes "profile" ∷ codes "a.c" ∷ codes "--unroll=2" ∷ codes "--unroll=2" ∷ []) ≡ None
unfolding clap_on_literals profile_app profile_of
turns_twice = refl

some_choices : command_of (codes "vexc" ∷ codes "profile" ∷ codes "a.c" ∷ codes "--select=4" ∷ codes "--unroll=2" ∷ []) ≡
    Some (Count (record { source = codes "a.c"; input = None; blocks = 1000000000; rewriting = record { unroll = Some 2; inline = None; select = Some 4 } }))
unfolding clap_on_literals profile_app profile_of
some_choices = refl

no_inlining : command_of (codes "vexc" ∷ codes "profile" ∷ codes "a.c" ∷ codes "--inline=4" ∷ []) ≡ None
unfolding clap_on_literals profile_app profile_of
no_inlining = refl
