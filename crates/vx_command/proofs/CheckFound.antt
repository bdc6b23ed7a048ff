-- What clap finds in the words of `check`, as the definition of the command says it, and worked words.
use Rattle.std.proofs.Common.{◌≡◌, ◌≢◌, ℕ, true, List, [], ◌∷◌, Option, Some, None, refl, subst}
use Rattle.std.specs.Prelude.{codes, unwrap_or}
use Rattle.clap.specs.Walk.{Row, rows_of}
use Rattle.clap.specs.Matches.{first_value}
use Rattle.clap.specs.Simple.{App, is_simple, matches_of}
use Rattle.clap.specs.Faults.{fault_of, is_simple_and_free}
use Rattle.clap.specs.Kinds.{Kinds}
use Rattle.clap.specs.declared.parser.matches.Found.{Found}
use Rattle.clap.proofs.OnLiterals.{clap_on_literals}
use Rattle.vx_command.specs.Command.{Check, check_app, check_found, check_unless, check_of, command_of}
use Rattle.vx_command.proofs.CommandWords.{first_of_rows}

pub check_is_simple : is_simple check_app ≡ true
unfolding check_app
check_is_simple = refl

pub check_is_free : is_simple_and_free check_app ≡ true
unfolding check_app
check_is_free = refl

unless_rows : (kinds : Kinds) (rows found : List Row) → kinds ≡ [] → found ≡ rows → check_unless kinds rows ≡ Some (check_found found)
unless_rows kinds rows found none same = rw (none, same) refl

unless_none : (kinds : Kinds) (rows : List Row) → kinds ≢ [] → check_unless kinds rows ≡ None
unless_none [] rows some = absurd (some refl)
unless_none (kind ∷ kinds) rows some = refl

module _ (app : App) (is : app ≡ check_app) (words : List (List ℕ)) where
  pub check_taken : (found : List Row) → fault_of app words ≡ [] → found ≡ matches_of app words → check_of words ≡ Some (check_found found)
  unfolding check_of
  check_taken found none same = unless_rows (fault_of check_app words) (matches_of check_app words) found (subst (λ (a : App). fault_of a words ≡ []) is none) (subst (λ (a : App). found ≡ matches_of a words) is same)

  pub check_refused : fault_of app words ≢ [] → check_of words ≡ None
  unfolding check_of
  check_refused some = unless_none (fault_of check_app words) (matches_of check_app words) (subst (λ (a : App). fault_of a words ≢ []) is some)

pub found_is : (f : Found) (words : List ℕ) (machine : Option (List ℕ)) → words ≡ unwrap_or (first_value f (codes "WORDS")) [] → machine ≡ first_value f (codes "machine") →
    Check (record { words = words; machine = machine }) ≡ check_found (rows_of f)
found_is f words machine a b = rw (a, b, first_of_rows f (codes "WORDS"), first_of_rows f (codes "machine")) refl

-- worked words

plain : command_of (codes "vexc" ∷ codes "check" ∷ codes "w" ∷ []) ≡ Some (Check (record { words = codes "w"; machine = None }))
unfolding clap_on_literals check_app check_of
plain = refl

with_machine : command_of (codes "vexc" ∷ codes "check" ∷ codes "--machine" ∷ codes "m" ∷ codes "w" ∷ []) ≡ Some (Check (record { words = codes "w"; machine = Some (codes "m") }))
unfolding clap_on_literals check_app check_of
with_machine = refl

no_file : command_of (codes "vexc" ∷ codes "check" ∷ codes "--machine=m" ∷ []) ≡ None
unfolding clap_on_literals check_app check_of
no_file = refl

two_files : command_of (codes "vexc" ∷ codes "check" ∷ codes "w" ∷ codes "x" ∷ []) ≡ None
unfolding clap_on_literals check_app check_of
two_files = refl

no_input : command_of (codes "vexc" ∷ codes "check" ∷ codes "w" ∷ codes "--input" ∷ codes "i" ∷ []) ≡ None
unfolding clap_on_literals check_app check_of
no_input = refl

no_turns : command_of (codes "vexc" ∷ codes "check" ∷ codes "w" ∷ codes "--unroll=4" ∷ []) ≡ None
unfolding clap_on_literals check_app check_of
no_turns = refl
