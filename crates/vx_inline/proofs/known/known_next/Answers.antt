use Rattle.std.proofs.lemmas.Result.{IfOk-weaker}
use Rattle.vx_inline.proofs.KnownStays.{knows_kept}
use Rattle.vx_inline.proofs.known.known_next.Goals as goal

pub returns-then-stays : goal.returns-then-stays
returns-then-stays c = λ flow site i sound same keeps knows. knows_kept flow c.args.new.now site i sound c.args.known (keeps c.if-stays.true) knows

pub returns-else-stays : goal.returns-else-stays
returns-else-stays c = IfOk-weaker c.anew.result _ _ (λ next h flow site i sound same keeps knows. h flow site i sound same knows) c.anew.ensures
