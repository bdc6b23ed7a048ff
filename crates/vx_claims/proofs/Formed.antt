-- An operation in another form: one that computes nothing takes other operands in place of its own.
use Rattle.std.proofs.Common.{◌≡◌, ℕ, List, refl, ap, ◌∙◌}
use Rattle.vx_base.specs.declared.arithmetic.Code.{Code}
use Rattle.vx_flow.specs.declared.graph.Operand.{Operand}
use Rattle.vx_flow.specs.declared.graph.Op.{Op}
use Rattle.vx_flow.specs.declared.graph.Op.TheVariants.{Compute, Select, Place, Load, Store, More, Input, Text, Decimal, Across, Base, PlaceIn}
use Rattle.vx_flow.specs.Operands.{first_operand, second_operand, with_two, with_operands}
use Rattle.vx_claims.specs.declared.fact.Fact.{Fact}
use Rattle.vx_claims.specs.Forming.{read, formed}

formed_is : (fs : List Fact) (op : Op) → ((code : Code) (v : ℕ) (a b : Operand) → op ≡ Compute code v a b → ⊥) → with_operands (read fs) op ≡ formed fs op
formed_is fs (Compute code v a b) n = absurd (n code v a b refl)
formed_is fs (Select v p a b) n = refl
formed_is fs (Place v a i) n = refl
formed_is fs (Load v a p dismissible) n = refl
formed_is fs (Store a p x) n = refl
formed_is fs (More v) n = refl
formed_is fs (Input v) n = refl
formed_is fs (Text n) m = refl
formed_is fs (Decimal x) n = refl
formed_is fs (Across v u) n = refl
formed_is fs (Base v a x) n = refl
formed_is fs (PlaceIn v a u i) n = refl

pub formed_by : (fs : List Fact) (op result : Op) (x y : Operand) → result ≡ with_two op x y → x ≡ read fs (first_operand op) → y ≡ read fs (second_operand op) → ((code : Code) (v : ℕ) (a b : Operand) → op ≡ Compute code v a b → ⊥) → result ≡ formed fs op
formed_by fs op result x y e p q n = e ∙ ap (λ z. with_two op z y) p ∙ ap (λ z. with_two op (read fs (first_operand op)) z) q ∙ formed_is fs op n
