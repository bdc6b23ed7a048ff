-- What clap finds in the words of a command, as the definition of the command says it.
use Rattle.std.proofs.Common.{◌≡◌, ◌≢◌, ◌∙◌, ℕ, Bool, true, false, List, [], ◌∷◌, map, Option, Some, None, option_map, refl, subst, ap}
use Rattle.std.specs.Prelude.{codes, find, option_and_then, slice_get, unwrap_or}
use Rattle.std.specs.Borrow.{Bor}
use Rattle.std.specs.Str.{bytes_eq}
use Rattle.clap.specs.Facts.{Entry}
use Rattle.clap.specs.Walk.{Row, row_of, first_of, rows_of}
use Rattle.clap.specs.Matches.{first_value}
use Rattle.clap.specs.Simple.{App, is_simple, matches_of}
use Rattle.clap.specs.Faults.{fault_of, is_simple_and_free}
use Rattle.clap.specs.Kinds.{Kinds, IsAmong}
use Rattle.clap.specs.declared.error.kind.ErrorKind.{ErrorKind}
use Rattle.clap.specs.declared.parser.matches.Found.{Found}
use Rattle.vx_command.specs.Command.{Command, Compile, Rewriting, compile_app, compile_found, compile_unless, compile_of, growth_of, number_or_none, rewriting_by, rewriting_of}

-- the first value of an id, read from the entries or from their rows

first_text : (vs : List (Bor (List ℕ))) → option_map (λ s. s.now) (slice_get vs 0) ≡ slice_get (map (λ s. s.now) vs) 0
first_text [] = refl
first_text (v ∷ vs) = refl

first_in : (es : List Entry) (id : List ℕ) →
    option_and_then (λ a. option_map (λ s. s.now) (slice_get a.vals.items 0)) (option_map (λ e. e.1) (find (λ e. bytes_eq e.0.now id) es)) ≡ first_of id (map row_of es)
first_in [] id = refl
first_in (e ∷ es) id = by (bytes_eq e.0.now id) refl (first_in es id)
  where
    by : (b : Bool) → bytes_eq e.0.now id ≡ b →
        option_and_then (λ a. option_map (λ s. s.now) (slice_get a.vals.items 0)) (option_map (λ x. x.1) (find (λ x. bytes_eq x.0.now id) es)) ≡ first_of id (map row_of es) →
        option_and_then (λ a. option_map (λ s. s.now) (slice_get a.vals.items 0)) (option_map (λ x. x.1) (find (λ x. bytes_eq x.0.now id) (e ∷ es))) ≡ first_of id (map row_of (e ∷ es))
    by true is more = rw is (first_text e.1.vals.items)
    by false is more = rw is more

pub first_of_rows : (f : Found) (id : List ℕ) → first_value f id ≡ first_of id (rows_of f)
first_of_rows f id = first_in f.entries.items id

pub compile_is_simple : is_simple compile_app ≡ true
unfolding compile_app
compile_is_simple = refl

pub compile_is_free : is_simple_and_free compile_app ≡ true
unfolding compile_app
compile_is_free = refl

pub fault_then : (kinds : Kinds) (k : ErrorKind) → IsAmong k kinds → kinds ≢ []
fault_then [] k h is = h
fault_then (other ∷ more) k h is = absurd cc

unless_rows : (kinds : Kinds) (rows found : List Row) → kinds ≡ [] → found ≡ rows → compile_unless kinds rows ≡ compile_unless [] found
unless_rows kinds rows found none same = rw (none, same) refl

unless_none : (kinds : Kinds) (rows : List Row) → kinds ≢ [] → compile_unless kinds rows ≡ None
unless_none [] rows some = absurd (some refl)
unless_none (kind ∷ kinds) rows some = refl

module _ (app : App) (is : app ≡ compile_app) (words : List (List ℕ)) where
  pub taken : (found : List Row) → fault_of app words ≡ [] → found ≡ matches_of app words → compile_of words ≡ compile_unless [] found
  unfolding compile_of
  taken found none same = unless_rows (fault_of compile_app words) (matches_of compile_app words) found (subst (λ (a : App). fault_of a words ≡ []) is none) (subst (λ (a : App). found ≡ matches_of a words) is same)

  pub refused : fault_of app words ≢ [] → compile_of words ≡ None
  unfolding compile_of
  refused some = unless_none (fault_of compile_app words) (matches_of compile_app words) (subst (λ (a : App). fault_of a words ≢ []) is some)

-- two numbers of the words, or what is rewritten, where one of them is none

module _ (make : ℕ → Rewriting → Command) where
  abbrev found_with : Option Rewriting → Option ℕ → Option Command
  found_with rewriting number = option_and_then (λ n. option_map (make n) rewriting) number

  pub both_found : (n : ℕ) (w : Rewriting) (number : Option ℕ) (rewriting : Option Rewriting) → Some n ≡ number → Some w ≡ rewriting → Some (make n w) ≡ found_with rewriting number
  both_found n w number rewriting a b = ap (option_map (make n)) b ∙ ap (found_with rewriting) a

  pub no_number_found : (number : Option ℕ) (rewriting : Option Rewriting) → None ≡ number → None ≡ found_with rewriting number
  no_number_found number rewriting a = ap (found_with rewriting) a

  pub no_rewriting_found : (n : ℕ) (number : Option ℕ) (rewriting : Option Rewriting) → Some n ≡ number → None ≡ rewriting → None ≡ found_with rewriting number
  no_rewriting_found n number rewriting a b = ap (option_map (make n)) b ∙ ap (found_with rewriting) a

-- what is rewritten
pub rewriting_is : (f : Found) (unroll inline select : Option (Option ℕ)) → unroll ≡ number_or_none 2 8 (first_value f (codes "unroll")) → inline ≡ number_or_none 1 4000 (first_value f (codes "inline")) →
    select ≡ number_or_none 1 16 (first_value f (codes "select")) → rewriting_by unroll inline select ≡ rewriting_of (rows_of f)
rewriting_is f unroll inline select u i s =
    ap (λ o. rewriting_by o inline select) (u ∙ ap (number_or_none 2 8) (first_of_rows f (codes "unroll")))
    ∙ ap (λ o. rewriting_by (number_or_none 2 8 (first_of (codes "unroll") (rows_of f))) o select) (i ∙ ap (number_or_none 1 4000) (first_of_rows f (codes "inline")))
    ∙ ap (rewriting_by (number_or_none 2 8 (first_of (codes "unroll") (rows_of f))) (number_or_none 1 4000 (first_of (codes "inline") (rows_of f)))) (s ∙ ap (number_or_none 1 16) (first_of_rows f (codes "select")))

module _ (f : Found) where
  pub found_is : (s o : List ℕ) (p m r : Option (List ℕ)) (growth : ℕ) (rewriting : Rewriting) → s ≡ unwrap_or (first_value f (codes "SRC")) [] → o ≡ unwrap_or (first_value f (codes "OUT")) [] →
      p ≡ first_value f (codes "profile") → m ≡ first_value f (codes "machine") → r ≡ first_value f (codes "report") →
      Compile (record { source = s; out = o; profile = p; machine = m; growth = growth; rewriting = rewriting; report = r }) ≡ compile_found (rows_of f) growth rewriting
  found_is s o p m r growth rewriting a b d c t =
      rw (a, b, d, c, t, first_of_rows f (codes "SRC"), first_of_rows f (codes "OUT"), first_of_rows f (codes "profile"), first_of_rows f (codes "machine"), first_of_rows f (codes "report")) refl

  pub all_found : (growth : ℕ) (rewriting : Rewriting) (command : Command) → Some growth ≡ growth_of (first_value f (codes "growth")) → Some rewriting ≡ rewriting_of (rows_of f) → command ≡ compile_found (rows_of f) growth rewriting →
      Some command ≡ compile_unless [] (rows_of f)
  all_found growth rewriting command g w is = ap Some is ∙ both_found (compile_found (rows_of f)) growth rewriting _ _ (g ∙ ap growth_of (first_of_rows f (codes "growth"))) w

  pub no_growth_found : None ≡ growth_of (first_value f (codes "growth")) → None ≡ compile_unless [] (rows_of f)
  no_growth_found g = no_number_found (compile_found (rows_of f)) _ _ (g ∙ ap growth_of (first_of_rows f (codes "growth")))

  pub none_found : (growth : ℕ) → Some growth ≡ growth_of (first_value f (codes "growth")) → None ≡ rewriting_of (rows_of f) → None ≡ compile_unless [] (rows_of f)
  none_found growth g w = no_rewriting_found (compile_found (rows_of f)) growth _ _ (g ∙ ap growth_of (first_of_rows f (codes "growth"))) w
