-- What an operation does to a state where it stands elsewhere than in trace order.
use Rattle.std.specs.Prelude.{◌≡◌}
use Rattle.vx_flow.specs.Effects.{State, Location, at}
use Rattle.vx_motion.specs.Items.{Fine}
use Rattle.vx_mixed.specs.Agree.{SameShape}

-- u' is u with what the operation does in trace order, where s becomes t
pub record Does (writes : Location → Type 0) (t u u' : State) : Type 0 where
  pub written : (l : Location) → writes l → Fine l (at t l) (at u' l)
  pub other : (l : Location) → (writes l → ⊥) → at u' l ≡ at u l
  pub shape : SameShape u u'
