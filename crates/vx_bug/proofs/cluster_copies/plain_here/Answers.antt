use Rattle.std.proofs.Common.{◌≡◌, ◌∙◌, ap, sym, refl, ℕ}
use Rattle.vx_flow.specs.declared.graph.Operand.{Operand}
use Rattle.vx_flow.specs.declared.graph.Op.{Op}
use Rattle.vx_flow.specs.declared.graph.Op.TheVariants.{Compute, Select, Place, Load, Store, More, Input, Text, Decimal, Across, Base, PlaceIn}
use Rattle.vx_flow.specs.Operands.{first_operand, second_operand, with_two, with_operands, with_value_in}
use Rattle.vx_bug.specs.Copies.{here, renamed}
use Rattle.vx_bug.specs.Ledgers.{homes_in}
use Rattle.vx_bug.proofs.cluster_copies.plain_here.Goals as goal

-- but for a place by a base the operands are all that is renamed
operands_alone : (to : ℕ → ℕ) (op : Op) → ((v a u : ℕ) (i : Operand) → op ≡ PlaceIn v a u i → ⊥) → with_operands (with_value_in to) op ≡ renamed to op
operands_alone to (Compute code v a b) other = refl
operands_alone to (Select v p a b) other = refl
operands_alone to (Place v a i) other = refl
operands_alone to (Load v a p dismissible) other = refl
operands_alone to (Store a p x) other = refl
operands_alone to (More v) other = refl
operands_alone to (Input v) other = refl
operands_alone to (Text n) other = refl
operands_alone to (Decimal x) other = refl
operands_alone to (Across v u) other = refl
operands_alone to (Base v a x) other = refl
operands_alone to (PlaceIn v a u i) other = absurd (other v a u i refl)

renamed_by : (to : ℕ → ℕ) (op made : Op) (first second x y : Operand) → made ≡ with_two op x y → x ≡ with_value_in to first → y ≡ with_value_in to second →
    first ≡ first_operand op → second ≡ second_operand op → ((v a u : ℕ) (i : Operand) → op ≡ PlaceIn v a u i → ⊥) → made ≡ renamed to op
renamed_by to op made first second x y e f g h k other =
    e ∙ ap (λ z. with_two op z y) (f ∙ ap (with_value_in to) h) ∙ ap (λ z. with_two op (with_value_in to (first_operand op)) z) (g ∙ ap (with_value_in to) k) ∙ operands_alone to op other

pub returns-in_ok-second-in_default : goal.returns-in_ok-second-in_default
returns-in_ok-second-in_default c =
    let site = c.args.site.now in
    renamed_by (here site.values (homes_in site.homes.now) site.cluster) c.args.op.now c.with_two.result c.first_operand.result c.second_operand.result c.in_ok-first-in_default.first c.in_ok-second-in_default.second
    c.with_two.ensures c.in_ok-first-in_default.ensures c.in_ok-second-in_default.ensures c.first_operand.ensures c.second_operand.ensures c.in_default.not-PlaceIn
