use Rattle.std.proofs.Common.{ap, sym, ◌∙◌, if◌then◌else◌, List, ℕ, Some}
use Rattle.vx_ast.specs.Scopes.{same_name}
use Rattle.vx_names.specs.Entries.{entry_of}
use Rattle.vx_names.proofs.Passing.{entry, known_repeated, known_new, sees_still, sees_one_more}
use Rattle.vx_names.proofs.names.pass_name.Goals as goal

pub returns-in-Some-clause-known : goal.returns-in-Some-clause-known
returns-in-Some-clause-known c = λ x.
    known_repeated c.args.above c.args.names.now c.index-names-above.result c.requires.there c.index-names-above.is (λ y. entry_of y c.args.table.now.entries.entries) (λ y. entry_of y c.args.seen.now.entries.entries) c.in-Some.field-0 c.requires.known c.requires.sees
    (sym (ap (λ (z : List ℕ). entry_of z c.args.seen.now.entries.entries) c.as_slice.ensures) ∙ sym c.look.ensures ∙ c.in-Some.is) x

pub returns-in-Some-clause-sees : goal.returns-in-Some-clause-sees
returns-in-Some-clause-sees c =
    sees_still c.args.above c.args.names.now c.index-names-above.result c.requires.there c.index-names-above.is (λ y. entry_of y c.args.seen.now.entries.entries) c.in-Some.field-0 c.requires.sees
    (sym (ap (λ (z : List ℕ). entry_of z c.args.seen.now.entries.entries) c.as_slice.ensures) ∙ sym c.look.ensures ∙ c.in-Some.is)

pub returns-in_ok-put-in-None-2-clause-known : goal.returns-in_ok-put-in-None-2-clause-known
returns-in_ok-put-in-None-2-clause-known c = λ x.
    known_new c.args.above c.args.names.now c.index-names-above.result c.requires.there c.index-names-above.is (λ y. entry_of y c.args.table.now.entries.entries) (λ y. entry_of y c.put-in-None.new.self.entries.entries) (λ y. entry_of y c.args.seen.now.entries.entries) c.requires.known c.requires.sees
    (sym (ap (λ (z : List ℕ). entry_of z c.args.seen.now.entries.entries) c.as_slice.ensures) ∙ sym c.look.ensures ∙ c.in-None.is)
    (λ y. c.in_ok-put-in-None-2.ensures.ok y ∙ ap (λ (z : List ℕ). if same_name y z then Some (entry c.index-names-above.result).meant else entry_of y c.args.table.now.entries.entries) c.as_slice-in-None-2.ensures) x

pub returns-in_ok-put-in-None-2-clause-sees : goal.returns-in_ok-put-in-None-2-clause-sees
returns-in_ok-put-in-None-2-clause-sees c =
    sees_one_more c.args.above c.args.names.now c.index-names-above.result c.requires.there c.index-names-above.is (λ y. entry_of y c.args.seen.now.entries.entries) (λ y. entry_of y c.put.new.self.entries.entries) c.requires.sees
    (sym (ap (λ (z : List ℕ). entry_of z c.args.seen.now.entries.entries) c.as_slice.ensures) ∙ sym c.look.ensures ∙ c.in-None.is)
    (λ y. c.in_ok-put-in-None.ensures.ok y ∙ ap (λ (z : List ℕ). if same_name y z then Some (entry c.index-names-above.result).meant else entry_of y c.args.seen.now.entries.entries) c.as_slice-in-None.ensures)
