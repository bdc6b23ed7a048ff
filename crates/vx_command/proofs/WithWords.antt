-- The words of a command, each with the fields that it sets, and one after the other.
use Rattle.std.proofs.Common.{◌≡◌, ◌∙◌, ◌<◌, ◌+◌, ◌++◌, ◌∷◌, ℕ, true, List, [], Some, length, take, get_or, refl, sym, ap}
use Rattle.std.proofs.lemmas.List.{take_more}
use Rattle.std.specs.Borrow.{Bor}
use Rattle.clap.specs.Walk.{Rule, rule_of}
use Rattle.clap.specs.Simple.{App, new_rule, with_rule}
use Rattle.clap.specs.declared.builder.action.ArgAction.TheVariants.{Set}
use Rattle.clap.specs.declared.builder.arg.Arg.{Arg}
use Rattle.clap.specs.declared.builder.value_parser.ValueParser.{ValueParser}
use Rattle.clap.specs.declared.builder.value_parser.ValueParser.TheVariants.{Unsigned}
use Rattle.vx_command.specs.Words.{rule_of_word, with_words}
use Rattle.vx_command.specs.declared.options.Word.{Word}

-- what a word sets

module _ (name help : Bor (List ℕ)) (a b c : Arg) (rule : rule_of a ≡ new_rule name.now) (action : b ≡ record a { action = Some Set }) (helped : c ≡ record b { help = Some help }) where
  set : rule_of c ≡ record (new_rule name.now) { action = Some Set }
  set =
      let last : rule_of c ≡ rule_of b = ap {A = Arg} rule_of helped in
      let first : rule_of b ≡ record (rule_of a) { action = Some Set } = ap {A = Arg} rule_of action in
      last ∙ first ∙ ap (λ (r : Rule). record r { action = Some Set }) rule

  pub required_is : (d : Arg) → d ≡ record c { required = true } → rule_of d ≡ record (new_rule name.now) { action = Some Set; required = true }
  required_is d required =
      let last : rule_of d ≡ record (rule_of c) { required = true } = ap {A = Arg} rule_of required in
      last ∙ ap (λ (r : Rule). record r { required = true }) set

  pub option_is : (d : Arg) → d ≡ record c { long = Some name } → rule_of d ≡ record (new_rule name.now) { long = Some name.now; action = Some Set }
  option_is d long =
      let last : rule_of d ≡ record (rule_of c) { long = Some name.now } = ap {A = Arg} rule_of long in
      last ∙ ap (λ (r : Rule). record r { long = Some name.now }) set

-- a word that is a number
pub numbered : (rule : Rule) (low high : ℕ) (a b : Arg) (parser : ValueParser) → rule_of a ≡ rule → b ≡ record a { value_parser = b.value_parser } → b.value_parser ≡ Some parser → parser ≡ Unsigned low high →
    rule_of b ≡ record rule { parser = Some (Unsigned low high) }
numbered rule low high a b parser before others given is =
    let first : rule_of b ≡ record (rule_of a) { parser = b.value_parser } = ap {A = Arg} rule_of others in
    first ∙ ap (λ (r : Rule). record r { parser = b.value_parser }) before ∙ ap (λ p. record rule { parser = p }) (given ∙ ap Some is)

behind : (app : App) (words : List Word) (word : Word) → with_words app (words ++ word ∷ []) ≡ with_rule (with_words app words) (rule_of_word word)
behind app [] word = refl
behind app (first ∷ words) word = behind (with_rule app (rule_of_word first)) words word

pub one_more : (app made whole : App) (words : List Word) (i : ℕ) (other : Word) → i < length words → made ≡ with_words app (take i words) → whole ≡ with_rule made (rule_of_word (get_or words i other)) →
    whole ≡ with_words app (take (i + 1) words)
one_more app made whole words i other below before last =
    let word : Word = get_or words i other in
    let here : with_words app (take (i + 1) words) ≡ with_rule (with_words app (take i words)) (rule_of_word word) = ap (with_words app) (take_more words i other below) ∙ behind app (take i words) word in
    last ∙ ap (λ a. with_rule a (rule_of_word word)) before ∙ sym here
