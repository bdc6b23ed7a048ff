-- The rules of words and options, as the code lists them for a command.
use Rattle.std.specs.Prelude.{ℕ, List, [], ◌∷◌}
use Rattle.clap.specs.Walk.{Rule}
use Rattle.clap.specs.Simple.{App, with_rule}
use Rattle.vx_command.specs.Command.{required_word, required_number, option_word, number_word}
use Rattle.vx_command.specs.declared.options.Kind.{Kind}
use Rattle.vx_command.specs.declared.options.Kind.TheVariants.{Required, RequiredNumber, Optional, Number}
use Rattle.vx_command.specs.declared.options.Word.{Word}

abbrev pub rule_of_kind : (name : List ℕ) → Kind → Rule
rule_of_kind name Required = required_word name
rule_of_kind name (RequiredNumber low high) = required_number name low high
rule_of_kind name Optional = option_word name
rule_of_kind name (Number low high) = number_word name low high

abbrev pub rule_of_word : Word → Rule
rule_of_word word = rule_of_kind word.name.now word.kind

-- after the words of a command these, one after the other
abbrev pub with_words : App → List Word → App
with_words app [] = app
with_words app (word ∷ words) = with_words (with_rule app (rule_of_word word)) words
