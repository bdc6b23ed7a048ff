-- The tasks that are left of a visit: what they do, of which the last one is done first, and a weight that each turn lessens.
use Rattle.std.specs.Prelude.{◌+◌, ◌*◌, ◌++◌, ℕ, zero, suc, List, [], ◌∷◌}
use Rattle.vx_flow.specs.declared.trace.Trace.{Trace}
use Rattle.vx_bug.specs.declared.order.Task.{Task}
use Rattle.vx_bug.specs.declared.order.Task.TheVariants.{Enter, Leave}
use Rattle.vx_bug.specs.Clusters.{visit}

-- what is listed once a task is done
abbrev pub done : Trace → Task → List ℕ → List ℕ
done t (Enter depth i) listed = visit depth t i listed
done t (Leave i) listed = listed ++ i ∷ []

-- and once all are, the last of them first
abbrev pub all_done : Trace → List Task → List ℕ → List ℕ
all_done t [] listed = listed
all_done t (task ∷ tasks) listed = done t task (all_done t tasks listed)

-- the visits of places, so that the first of them is done first
abbrev pub entries : (depth : ℕ) → (places : List ℕ) → List Task
entries depth [] = []
entries depth (i ∷ is) = entries depth is ++ Enter depth i ∷ []

-- more turns than a visit takes: it leaves its place, and three operands have at most so many writers
abbrev pub turns : (depth : ℕ) → ℕ
turns zero = 1
turns (suc depth) = 2 + 3 * turns depth

abbrev pub weight : Task → ℕ
weight (Enter depth i) = turns depth
weight (Leave i) = 1

abbrev pub all_weight : List Task → ℕ
all_weight [] = 0
all_weight (task ∷ tasks) = weight task + all_weight tasks
