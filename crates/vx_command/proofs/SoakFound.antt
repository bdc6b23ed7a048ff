-- What clap finds in the words of `soak`, as the definition of the command says it.
use Rattle.std.proofs.Common.{◌≡◌, ◌≢◌, ◌∙◌, ℕ, true, false, List, [], ◌∷◌, Option, Some, None, option_map, refl, subst, ap}
use Rattle.std.specs.Prelude.{codes}
use Rattle.std.specs.Str.{bytes_eq}
use Rattle.clap.specs.Walk.{Row, first_of, rows_of}
use Rattle.clap.specs.Matches.{first_value}
use Rattle.clap.specs.Simple.{App, is_simple, matches_of}
use Rattle.clap.specs.Faults.{fault_of, is_simple_and_free}
use Rattle.clap.specs.Kinds.{Kinds}
use Rattle.clap.specs.declared.parser.matches.Found.{Found}
use Rattle.vx_command.specs.Command.{Command, Soak, number_in, soak_app, soak_found, soak_unless, soak_of, command_named}
use Rattle.vx_command.proofs.CommandWords.{first_of_rows}

pub soak_is_simple : is_simple soak_app ≡ true
unfolding soak_app
soak_is_simple = refl

pub soak_is_free : is_simple_and_free soak_app ≡ true
unfolding soak_app
soak_is_free = refl

unless_rows : (kinds : Kinds) (rows found : List Row) → kinds ≡ [] → found ≡ rows → soak_unless kinds rows ≡ soak_unless [] found
unless_rows kinds rows found none same = rw (none, same) refl

unless_none : (kinds : Kinds) (rows : List Row) → kinds ≢ [] → soak_unless kinds rows ≡ None
unless_none [] rows some = absurd (some refl)
unless_none (kind ∷ kinds) rows some = refl

module _ (app : App) (is : app ≡ soak_app) (words : List (List ℕ)) where
  pub soak_taken : (found : List Row) → fault_of app words ≡ [] → found ≡ matches_of app words → soak_of words ≡ soak_unless [] found
  unfolding soak_of
  soak_taken found none same = unless_rows (fault_of soak_app words) (matches_of soak_app words) found (subst (λ (a : App). fault_of a words ≡ []) is none) (subst (λ (a : App). found ≡ matches_of a words) is same)

  pub soak_refused : fault_of app words ≢ [] → soak_of words ≡ None
  unfolding soak_of
  soak_refused some = unless_none (fault_of soak_app words) (matches_of soak_app words) (subst (λ (a : App). fault_of a words ≢ []) is some)

-- the two numbers

of_size : (seed : ℕ) (size : Option ℕ) → option_map (λ n. Soak (record { seed = seed; size = n })) size ≡ soak_found (Some seed) size
of_size seed None = refl
of_size seed (Some size) = refl

of_none : (size : Option ℕ) → None ≡ soak_found None size
of_none None = refl
of_none (Some size) = refl

module _ (f : Found) where
  pub size_found : (seed : ℕ) (size : Option ℕ) → size ≡ number_in 1 10000 1 (first_value f (codes "SIZE")) →
      option_map (λ n. Soak (record { seed = seed; size = n })) size ≡ soak_found (Some seed) (number_in 1 10000 1 (first_of (codes "SIZE") (rows_of f)))
  size_found seed size is = of_size seed size ∙ ap (soak_found (Some seed)) (is ∙ ap (number_in 1 10000 1) (first_of_rows f (codes "SIZE")))

  abbrev beside : Option ℕ → Option Command
  beside seed = soak_found seed (number_in 1 10000 1 (first_of (codes "SIZE") (rows_of f)))

  at_seed : (seed : Option ℕ) → seed ≡ number_in 0 1000000000 0 (first_value f (codes "SEED")) → beside seed ≡ soak_unless [] (rows_of f)
  at_seed seed is = ap beside (is ∙ ap (number_in 0 1000000000 0) (first_of_rows f (codes "SEED")))

  pub seed_found : (seed : ℕ) (command : Option Command) → Some seed ≡ number_in 0 1000000000 0 (first_value f (codes "SEED")) → command ≡ beside (Some seed) → command ≡ soak_unless [] (rows_of f)
  seed_found seed command is with_it = with_it ∙ at_seed (Some seed) is

  pub no_seed : None ≡ number_in 0 1000000000 0 (first_value f (codes "SEED")) → None ≡ soak_unless [] (rows_of f)
  no_seed is = of_none (number_in 1 10000 1 (first_of (codes "SIZE") (rows_of f))) ∙ at_seed None is

-- the command of this name
pub named_soak : (name : List ℕ) (words : List (List ℕ)) → bytes_eq name (codes "compile") ≡ false → bytes_eq name (codes "sim") ≡ false → bytes_eq name (codes "exec") ≡ false → bytes_eq name (codes "profile") ≡ false →
    bytes_eq name (codes "soak") ≡ true → command_named name words ≡ soak_of words
named_soak name words compile sim exec profile soak = rw (compile, sim, exec, profile, soak) refl
