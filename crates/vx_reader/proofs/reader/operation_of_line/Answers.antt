-- What the reading of the operation gives, where it is on its cluster.
use Rattle.std.proofs.Common.{◌∙◌, Err, Ok, ap, sym, subst}
use Rattle.vx_reader.specs.Reading.{Fails, operation_of}
use Rattle.vx_reader.proofs.Taken.{line_operation_is, other_number, same_number, when_false, when_true}
use Rattle.vx_reader.proofs.reader.operation_of_line.Goals as goal

pub returns-then-stands : goal.returns-then-stands
returns-then-stands c = sym (line_operation_is c.args.line.now c.in-Some.cluster (Ok c.in-Ok.operation) (sym c.in-Some.is ∙ c.cluster_of_line.ensures) (ap (operation_of c.in-Some.cluster) (sym c.skip.ensures) ∙ c.in-Ok.ensures) ∙ when_true _ _ _ (same_number _ _ (c.if-stands.true ∙ c.cluster.ensures)))

pub returns-else-stands : goal.returns-else-stands
returns-else-stands c = sym (line_operation_is c.args.line.now c.in-Some.cluster (Ok c.in-Ok.operation) (sym c.in-Some.is ∙ c.cluster_of_line.ensures) (ap (operation_of c.in-Some.cluster) (sym c.skip.ensures) ∙ c.in-Ok.ensures) ∙ when_false _ _ _ (other_number _ _ (λ same. c.if-stands.false (same ∙ sym c.cluster.ensures))))

pub returns-in-Err-Code : goal.returns-in-Err-Code
returns-in-Err-Code c =
    let fails = subst (λ e. Fails e (operation_of c.in-Some.cluster c.skip.result.now)) c.in-Err-Code.field-0-is c.in-Err-Code.ensures in
    sym (line_operation_is c.args.line.now c.in-Some.cluster (Err c.in-Err-Code.field-0-0) (sym c.in-Some.is ∙ c.cluster_of_line.ensures) (ap (operation_of c.in-Some.cluster) (sym c.skip.ensures) ∙ fails))
