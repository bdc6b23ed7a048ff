-- What clap finds in the words of `sim` and of `exec`, as the definitions of the commands say it.
use Rattle.std.proofs.Common.{◌≡◌, ◌≢◌, ◌∙◌, ◌≤◌, ℕ, Bool, true, false, List, [], ◌∷◌, Option, Some, None, option_map, MatchOption, Result, Ok, Err, refl, sym, subst, ap, arith}
use Rattle.std.proofs.lemmas.Bool.{ltb-true}
use Rattle.std.specs.Prelude.{◌<◌, ◌^◌, codes, option_and_then, unwrap_or}
use Rattle.std.specs.Str.Parse.{ParsesUnsigned, digits_value, without_leading_plus}
use Rattle.clap.specs.Walk.{Row, first_of, rows_of}
use Rattle.clap.specs.Matches.{first_value}
use Rattle.clap.specs.Simple.{App, is_simple, matches_of}
use Rattle.clap.specs.Faults.{fault_of, is_simple_and_free}
use Rattle.clap.specs.Kinds.{Kinds}
use Rattle.clap.specs.ValueTests.{is_unsigned_in}
use Rattle.clap.specs.declared.builder.value_parser.ValueParser.TheVariants.{Unsigned}
use Rattle.clap.specs.declared.parser.matches.Found.{Found}
use Rattle.clap.proofs.ValueTestLemmas.{accepts-Accepts, Accepts-accepts}
use Rattle.vx_command.specs.Command.{Command, Makes, Rewriting, simulates, executes, sim_app, exec_app, sim_of, exec_of, sim_unless, exec_unless, run_unless, run_within, budget_of, growth_of, number_in, rewriting_of}
use Rattle.vx_command.proofs.CommandWords.{first_of_rows}

pub sim_is_simple : is_simple sim_app ≡ true
unfolding sim_app
sim_is_simple = refl

pub sim_is_free : is_simple_and_free sim_app ≡ true
unfolding sim_app
sim_is_free = refl

pub exec_is_simple : is_simple exec_app ≡ true
unfolding exec_app
exec_is_simple = refl

pub exec_is_free : is_simple_and_free exec_app ≡ true
unfolding exec_app
exec_is_free = refl

-- a number from low to high, as a text of so many bits is read

abbrev pub IsWithin : (low high : ℕ) → ℕ → Option ℕ → Type 0
IsWithin low high number o = MatchOption o (low ≤ number → number ≤ high → ⊥) (λ n. (n ≡ number) × (low ≤ number) × (number ≤ high))

same_ok : {E : Type 0} (n m : ℕ) (r : Result ℕ E) → r ≡ Ok n → r ≡ Ok m → n ≡ m
same_ok n m r a b = cc

not_both : {E : Type 0} (n : ℕ) (e : E) (r : Result ℕ E) → r ≡ Ok n → r ≡ Err e → ⊥
not_both n e r a b = cc

module _ (bits low high other : ℕ) (fits : (n : ℕ) → n ≤ high → n < 2 ^ bits) (wide : (n : ℕ) → n ≤ high → n < 2 ^ 64) {E : Type 0} (text : List ℕ) where
  number_read : (n : ℕ) (r : Result ℕ E) → ParsesUnsigned bits 10 text r → r ≡ Ok n → low ≤ n → n ≤ high → Some n ≡ number_in low high other (Some text)
  number_read n (Err e) h is at_least at_most = absurd cc
  number_read n (Ok m) h is at_least at_most =
      let same : m ≡ n = cc in
      let value : n ≡ digits_value 10 (without_leading_plus text) = sym same ∙ h.1 in
      let least : low ≤ digits_value 10 (without_leading_plus text) = subst (λ k. low ≤ k) value at_least in
      let most : digits_value 10 (without_leading_plus text) ≤ high = subst (λ k. k ≤ high) value at_most in
      let in_range : is_unsigned_in low high text ≡ true = Accepts-accepts false (Unsigned low high) text (h.0.0, wide _ most, least, most) in
      rw in_range (ap Some value)

  no_number_by : (r : Result ℕ E) (b : Bool) → is_unsigned_in low high text ≡ b → ParsesUnsigned bits 10 text r → ((n : ℕ) → r ≡ Ok n → low ≤ n → n ≤ high → ⊥) → None ≡ number_in low high other (Some text)
  no_number_by r false is h none = rw is refl
  no_number_by (Ok m) true is h none =
      let t = accepts-Accepts false (Unsigned low high) text is in
      absurd (none m refl (subst (λ k. low ≤ k) (sym h.1) t.2) (subst (λ k. k ≤ high) (sym h.1) t.3))
  no_number_by (Err e) true is h none =
      let t = accepts-Accepts false (Unsigned low high) text is in
      absurd (h (t.0, fits _ t.3))

  no_number : (r : Result ℕ E) → ParsesUnsigned bits 10 text r → ((n : ℕ) → r ≡ Ok n → low ≤ n → n ≤ high → ⊥) → None ≡ number_in low high other (Some text)
  no_number r h none = no_number_by r (is_unsigned_in low high text) refl h none

  pub number_within : (number : ℕ) (r : Result ℕ E) (o : Option ℕ) → ParsesUnsigned bits 10 text r → r ≡ Ok number → IsWithin low high number o → o ≡ number_in low high other (Some text)
  number_within number r (Some n) h is h2 = ap Some h2.0 ∙ number_read number r h is h2.1 h2.2
  number_within number r None h is h2 = no_number r h (λ n e at_least at_most. let same : n ≡ number = same_ok n number r e is in h2 (subst (λ k. low ≤ k) same at_least) (subst (λ k. k ≤ high) same at_most))

  pub number_none : (e : E) (r : Result ℕ E) → ParsesUnsigned bits 10 text r → r ≡ Err e → None ≡ number_in low high other (Some text)
  number_none e r h is = no_number r h (λ n x at_least at_most. not_both n e r x is)

pub below : (high bound n : ℕ) → high < bound → n ≤ high → n < bound
below high bound n less is = omega (arith, less, is)

pub most_words_fit : (n : ℕ) → n ≤ 1000000000000 → n < 2 ^ 64
most_words_fit n is = below 1000000000000 (2 ^ 64) n (ltb-true _ _ refl) is

pub most_growth_fits : (n : ℕ) → n ≤ 1000000 → n < 2 ^ 32
most_growth_fits n is = below 1000000 (2 ^ 32) n (ltb-true _ _ refl) is

pub most_growth_is_wide : (n : ℕ) → n ≤ 1000000 → n < 2 ^ 64
most_growth_is_wide n is = below 1000000 (2 ^ 64) n (ltb-true _ _ refl) is

-- what was found

pub words_are : (makes : Makes) (f : Found) (file name : List ℕ) (machine input : Option (List ℕ)) (budget : ℕ) (timing : List ℕ) (probe : Option (List ℕ)) →
    name ≡ unwrap_or (first_value f file) [] → machine ≡ first_value f (codes "machine") → input ≡ first_value f (codes "input") →
    timing ≡ unwrap_or (first_value f (codes "timing")) (codes "late") → probe ≡ first_value f (codes "probe") →
    Some budget ≡ budget_of (first_value f (codes "words")) → Some (makes name machine input budget timing probe) ≡ run_unless makes file [] (rows_of f)
words_are makes f file name machine input budget timing probe a b c d e is =
    let within : makes name machine input budget timing probe ≡ run_within makes file (rows_of f) budget =
    rw (sym (first_of_rows f file), sym (first_of_rows f (codes "machine")), sym (first_of_rows f (codes "input")), sym (first_of_rows f (codes "timing")), sym (first_of_rows f (codes "probe")), sym a, sym b, sym c, sym d, sym e) refl in
    ap Some within ∙ ap (option_map (run_within makes file (rows_of f))) (is ∙ ap budget_of (first_of_rows f (codes "words")))

pub no_words : (makes : Makes) (f : Found) (file : List ℕ) → None ≡ budget_of (first_value f (codes "words")) → None ≡ run_unless makes file [] (rows_of f)
no_words makes f file none = ap (option_map (run_within makes file (rows_of f))) (none ∙ ap budget_of (first_of_rows f (codes "words")))

-- what was found by `sim`

unless_rows : (kinds : Kinds) (rows found : List Row) → kinds ≡ [] → found ≡ rows → sim_unless kinds rows ≡ sim_unless [] found
unless_rows kinds rows found none same = rw (none, same) refl

unless_none : (makes : Makes) (file : List ℕ) (kinds : Kinds) (rows : List Row) → kinds ≢ [] → run_unless makes file kinds rows ≡ None
unless_none makes file [] rows some = absurd (some refl)
unless_none makes file (kind ∷ kinds) rows some = refl

module _ (app : App) (is : app ≡ sim_app) (words : List (List ℕ)) where
  pub sim_taken : (found : List Row) → fault_of app words ≡ [] → found ≡ matches_of app words → sim_of words ≡ sim_unless [] found
  unfolding sim_of
  sim_taken found none same = unless_rows (fault_of sim_app words) (matches_of sim_app words) found (subst (λ (a : App). fault_of a words ≡ []) is none) (subst (λ (a : App). found ≡ matches_of a words) is same)

  pub sim_refused : fault_of app words ≢ [] → sim_of words ≡ None
  unfolding sim_of
  sim_refused some = unless_none simulates (codes "WORDS") (fault_of sim_app words) (matches_of sim_app words) (subst (λ (a : App). fault_of a words ≢ []) is some)

-- what was found by `exec`

exec_rows : (kinds : Kinds) (rows found : List Row) → kinds ≡ [] → found ≡ rows → exec_unless kinds rows ≡ exec_unless [] found
exec_rows kinds rows found none same = rw (none, same) refl

exec_none : (profile : Option (List ℕ)) (growth : Option ℕ) (rewriting : Option Rewriting) (kinds : Kinds) (rows : List Row) → kinds ≢ [] →
    option_and_then (λ growth. option_and_then (λ rewriting. run_unless (executes profile growth rewriting) (codes "SRC") kinds rows) rewriting) growth ≡ None
exec_none profile None rewriting kinds rows some = refl
exec_none profile (Some growth) None kinds rows some = refl
exec_none profile (Some growth) (Some rewriting) kinds rows some = unless_none (executes profile growth rewriting) (codes "SRC") kinds rows some

module _ (app : App) (is : app ≡ exec_app) (words : List (List ℕ)) where
  pub exec_taken : (found : List Row) → fault_of app words ≡ [] → found ≡ matches_of app words → exec_of words ≡ exec_unless [] found
  unfolding exec_of
  exec_taken found none same = exec_rows (fault_of exec_app words) (matches_of exec_app words) found (subst (λ (a : App). fault_of a words ≡ []) is none) (subst (λ (a : App). found ≡ matches_of a words) is same)

  pub exec_refused : fault_of app words ≢ [] → exec_of words ≡ None
  unfolding exec_of
  exec_refused some = exec_none (first_of (codes "profile") (matches_of exec_app words)) (growth_of (first_of (codes "growth") (matches_of exec_app words))) (rewriting_of (matches_of exec_app words)) (fault_of exec_app words) (matches_of exec_app words) (subst (λ (a : App). fault_of a words ≢ []) is some)

module _ (f : Found) where
  abbrev grown : (profile : Option (List ℕ)) → ℕ → Rewriting → Option Command
  grown profile growth rewriting = run_unless (executes profile growth rewriting) (codes "SRC") [] (rows_of f)

  abbrev from : Option Rewriting → Option ℕ → Option Command
  from rewriting growth = option_and_then (λ n. option_and_then (grown (first_of (codes "profile") (rows_of f)) n) rewriting) growth

  at_both : (growth : Option ℕ) (rewriting : Option Rewriting) → growth ≡ growth_of (first_value f (codes "growth")) → rewriting ≡ rewriting_of (rows_of f) → from rewriting growth ≡ exec_unless [] (rows_of f)
  at_both growth rewriting g w = ap (from rewriting) (g ∙ ap growth_of (first_of_rows f (codes "growth"))) ∙ ap (λ o. from o (growth_of (first_of (codes "growth") (rows_of f)))) w

  pub with_both : (profile : Option (List ℕ)) (growth : ℕ) (rewriting : Rewriting) (command : Option Command) → profile ≡ first_value f (codes "profile") → Some growth ≡ growth_of (first_value f (codes "growth")) →
      Some rewriting ≡ rewriting_of (rows_of f) → command ≡ grown profile growth rewriting → command ≡ exec_unless [] (rows_of f)
  with_both profile growth rewriting command p g w run = run ∙ ap (λ o. grown o growth rewriting) (p ∙ first_of_rows f (codes "profile")) ∙ at_both (Some growth) (Some rewriting) g w

  pub no_growth : None ≡ growth_of (first_value f (codes "growth")) → None ≡ exec_unless [] (rows_of f)
  no_growth g = at_both None (rewriting_of (rows_of f)) g refl

  pub no_rewriting : (growth : ℕ) → Some growth ≡ growth_of (first_value f (codes "growth")) → None ≡ rewriting_of (rows_of f) → None ≡ exec_unless [] (rows_of f)
  no_rewriting growth g w = at_both (Some growth) None g w
