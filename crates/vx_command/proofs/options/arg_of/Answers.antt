-- The rule of each kind of word.
use Rattle.std.proofs.Common.{◌∙◌, ap, sym}
use Rattle.vx_command.specs.Words.{rule_of_kind}
use Rattle.vx_command.proofs.WithWords.{numbered, option_is, required_is}
use Rattle.vx_command.proofs.options.arg_of.Goals as goal

pub returns-in-Required-clause-rule : goal.returns-in-Required-clause-rule
returns-in-Required-clause-rule c =
    required_is c.args.word.now.name c.args.word.now.help c.new.result c.action.result c.help-arg.result c.new.ensures.rule c.action.ensures c.help-arg.ensures c.required.result c.required.ensures ∙ sym (ap (rule_of_kind c.args.word.now.name.now) c.in-Required.is)

pub returns-in-RequiredNumber-clause-rule : goal.returns-in-RequiredNumber-clause-rule
returns-in-RequiredNumber-clause-rule c =
    let read = c.value_parser.ensures in
    let word = required_is c.args.word.now.name c.args.word.now.help c.new.result c.action.result c.help-arg.result c.new.ensures.rule c.action.ensures c.help-arg.ensures c.required-in-RequiredNumber.result c.required-in-RequiredNumber.ensures in
    numbered _ _ _ _ c.value_parser.result _ word read.others read.given.1 read.given.2 ∙ sym (ap (rule_of_kind c.args.word.now.name.now) c.in-RequiredNumber.is)

pub returns-in-Optional-clause-rule : goal.returns-in-Optional-clause-rule
returns-in-Optional-clause-rule c =
    option_is c.args.word.now.name c.args.word.now.help c.new.result c.action.result c.help-arg.result c.new.ensures.rule c.action.ensures c.help-arg.ensures c.long.result c.long.ensures ∙ sym (ap (rule_of_kind c.args.word.now.name.now) c.in-Optional.is)

pub returns-in-Number-clause-rule : goal.returns-in-Number-clause-rule
returns-in-Number-clause-rule c =
    let read = c.value_parser-in-Number.ensures in
    let word = option_is c.args.word.now.name c.args.word.now.help c.new.result c.action.result c.help-arg.result c.new.ensures.rule c.action.ensures c.help-arg.ensures c.long-in-Number.result c.long-in-Number.ensures in
    numbered _ _ _ _ c.value_parser-in-Number.result _ word read.others read.given.1 read.given.2 ∙ sym (ap (rule_of_kind c.args.word.now.name.now) c.in-Number.is)
