-- Agreement of states, place by place.
use Rattle.std.proofs.Common.{◌≡◌, ℕ, None, [], length, slice_index_or, refl, ap}
use Rattle.std.proofs.lemmas.List.{ext_get_or}
use Rattle.vx_flow.specs.Effects.{State, row_of, Location, Of, Cell, TheInput, TheOutput, Holds, Left, Printed, at}
use Rattle.vx_mixed.specs.Agree.{SameWorld, Agree, SameShape}
use Rattle.vx_motion.specs.Items.{Fine}
use Rattle.vx_motion.proofs.Step.{cell}
use Rattle.vx_motion.proofs.Effect.{grows, fine, left_inj, printed_inj, holds_inj}

pub shape_of_world : (s t : State) → SameWorld s t → SameShape s t
shape_of_world s t w = record { arrays = ap length w.arrays; rows = λ a. ap (λ z. length (slice_index_or z a [])) w.arrays }

pub fine_of_agree : (L : ℕ → Type 0) (s t : State) → Agree L s t → (l : Location) → ((v : ℕ) → l ≡ Of v → L v) → Fine l (at s l) (at t l)
fine_of_agree L s t a (Of v) w = fine v (s.values v) (t.values v) (λ n e. a.values v n (w v refl) e)
fine_of_agree L s t a (Cell x i) w = ap (λ z. Holds (slice_index_or (slice_index_or z x []) i None)) a.world.arrays
fine_of_agree L s t a TheInput w = ap Left a.world.input
fine_of_agree L s t a TheOutput w = ap Printed a.world.out

pub agree_of_fine : (L : ℕ → Type 0) (s t : State) → SameShape s t → ((a i : ℕ) → Fine (Cell a i) (at s (Cell a i)) (at t (Cell a i))) → Fine TheInput (at s TheInput) (at t TheInput) → Fine TheOutput (at s TheOutput) (at t TheOutput) → ((v : ℕ) → L v → Fine (Of v) (at s (Of v)) (at t (Of v))) → Agree L s t
agree_of_fine L s t shape cells input out values = record {
  world = record {
    arrays = ext_get_or [] t.arrays s.arrays shape.arrays (λ a lt. ext_get_or None (row_of t a) (row_of s a) (shape.rows a) (λ i lt'. holds_inj (cell t a i) (cell s a i) (cells a i)));
    input = left_inj t.input s.input input;
    out = printed_inj t.out s.out out;
  };
  values = λ v n l e. grows v (s.values v) (t.values v) (values v l) n e;
}
