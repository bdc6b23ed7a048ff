-- Unrolling where it is asked: what holds of the unrolled program, and of the program as it was.
use Rattle.std.proofs.Common.{◌≡◌, Some, None, sym, subst, ap}
use Rattle.vx_base.specs.Outcome.{Same}
use Rattle.vx_base.proofs.Same.{same_self}
use Rattle.vx_ast.specs.Meaning.{source}
use Rattle.vx_unroll.specs.Laws.{names, UnrolledByIsSame, NamesStayBy}
use Rattle.vx_unroll.proofs.Unrolled.{unrolled_is_same}
use Rattle.vx_unroll.proofs.Accepting.{names_stay}

pub unrolled_by_is_same : UnrolledByIsSame
unrolled_by_is_same None p q is input = subst (λ r. Same (source p input) (source r input)) (sym is) (same_self (source p input))
unrolled_by_is_same (Some k) p q is input = subst (λ r. Same (source p input) (source r input)) (sym is) (unrolled_is_same k p input)

pub names_stay_by : NamesStayBy
names_stay_by None p q is = ap names is
names_stay_by (Some k) p q is = subst (λ r. names r ≡ names p) (sym is) (names_stay k p)
