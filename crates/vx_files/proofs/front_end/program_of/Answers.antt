-- The refusal of each pass is that of the source.
use Rattle.std.proofs.Common.{◌≡◌, ◌⊎◌, rules, sym, subst}
use Rattle.std.proofs.lemmas.Result.{IfErr-weaker}
use Rattle.vx_ast.specs.declared.fault.SourceFault.TheVariants.{NoMemory}
use Rattle.vx_ast.specs.SyntaxView.{program_of}
use Rattle.vx_ast.specs.Reads.{Refusal, Missuits}
use Rattle.vx_parse.specs.Reading.{Ended}
use Rattle.vx_files.proofs.Refusing.{refused_tokens, refused_grammar, refused_names, ended}
use Rattle.vx_files.proofs.front_end.program_of.Goals as goal

pub returns-in_err-all-clause-refused : goal.returns-in_err-all-clause-refused
returns-in_err-all-clause-refused c =
    let fault = c.in_err-all.field-0.0 in
    let h : (fault ≡ NoMemory) ⊎ Refusal c.args.bytes.now fault = refused_tokens c.args.bytes.now fault c.requires c.in_err-all.ensures.fault in
    search rules

pub parse-requires : goal.parse-requires
parse-requires c = subst Ended (sym c.as_slice.ensures.value) (ended c.args.bytes.now c.in_ok-all.all.items c.in_ok-all.ensures.ok)

pub returns-in_err-tree-clause-refused : goal.returns-in_err-tree-clause-refused
returns-in_err-tree-clause-refused c =
    let fault = c.in_err-tree.field-0.0 in
    let h : (fault ≡ NoMemory) ⊎ Refusal c.args.bytes.now fault =
    refused_grammar c.args.bytes.now c.in_ok-all.all.items fault c.requires c.in_ok-all.ensures.ok (rw c.as_slice.ensures.value at c.in_err-tree.ensures.refused) in
    search rules

pub returns-clause-refused : goal.returns-clause-refused
returns-clause-refused c =
    let tree = c.in_ok-tree.tree in
    IfErr-weaker c.check.result (λ fault. (fault ≡ NoMemory) ⊎ Missuits (program_of tree) fault) _
    (λ fault why. refused_names c.args.bytes.now c.in_ok-all.all.items (program_of tree) fault c.requires c.in_ok-all.ensures.ok (rw c.as_slice.ensures.value at c.in_ok-tree.ensures.program) why)
    c.check.ensures.refused
