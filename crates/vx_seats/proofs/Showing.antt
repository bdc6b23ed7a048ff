-- What is shown by seats stays so where functions are entered and return, and a base can be passed on.
use Rattle.std.proofs.Common.{◌≡◌, ◌<◌, ◌*◌, ℕ, ℤ, pos, List, ◌∷◌, sym, ap, ◌∙◌, arith}
use Rattle.vx_base.specs.Arithmetic.{sum_of}
use Rattle.vx_flow.specs.declared.graph.Global.{Global}
use Rattle.vx_target.specs.Target.{Target}
use Rattle.vx_target.specs.Tied.{Stacked, seat}
use Rattle.vx_target.proofs.SeatRoom.{seat_before}
use Rattle.vx_seats.specs.Shown.{AnyKind, Itself, InFrame, InGiven, GivenBase, AnyBase, IsShownBy, ShownLaw, IsPassed, PassedLaw}

-- by seats that are the same in front of the end
shown_by : (seats seats' spot : ℕ → ℕ) (end sp : ℕ) → ((k : ℕ) → k < end → seats' k ≡ seats k) → (kind : AnyKind) (n x : ℤ) → IsShownBy seats spot end sp kind n x → IsShownBy seats' spot end sp kind n x
shown_by seats seats' spot end sp same Itself n x h = h
shown_by seats seats' spot end sp same InFrame n x h = h
shown_by seats seats' spot end sp same (InGiven a) n x h = (h.0, h.1 ∙ ap (λ z. sum_of n (pos (4 * z))) (sym (same (spot a) h.0)))
shown_by seats seats' spot end sp same (GivenBase a) n x h = (h.0, h.1, h.2 ∙ ap (λ z. pos (4 * z)) (sym (same (spot a) h.0)))
shown_by seats seats' spot end sp same AnyBase n x h = (h.0, h.1, h.2, h.3 ∙ ap (λ z. pos (4 * z)) (sym (same h.0 h.1)))

pub shown_law : ShownLaw
shown_law T globals y stack spot end sp kind n x le = record {
  there = shown_by (λ k. seat T globals stack k) (λ k. seat T globals (y ∷ stack) k) spot end sp (λ k lt. seat_before T globals y stack k (omega arith)) kind n x;
  back = shown_by (λ k. seat T globals (y ∷ stack) k) (λ k. seat T globals stack k) spot end sp (λ k lt. sym (seat_before T globals y stack k (omega arith))) kind n x;
}

passed_row : (T : Target) (globals : List Global) (y : Stacked) (stack : List Stacked) (row : ℕ) (n x : ℤ) → row < y.base → n ≡ pos row → x ≡ pos (4 * seat T globals stack row) → IsPassed T globals y stack n x
passed_row T globals y stack row n x lt is shows = record {
  row = row;
  is = is;
  front = lt;
  shown = λ given a behind sp e le. (
    (let g : given a ≡ row = e in omega arith),
    is ∙ ap pos (sym e),
    shows ∙ ap (λ z. pos (4 * z)) (sym (seat_before T globals y stack row lt)) ∙ ap (λ k. pos (4 * seat T globals (y ∷ stack) k)) (sym e),
  );
}

pub passed_law : PassedLaw
passed_law T globals y stack spot end sp Itself n x le is h = absurd is
passed_law T globals y stack spot end sp InFrame n x le is h = absurd is
passed_law T globals y stack spot end sp (InGiven a) n x le is h = absurd is
passed_law T globals y stack spot end sp (GivenBase a) n x le is h = passed_row T globals y stack (spot a) n x (let l = h.0 in omega arith) h.1 h.2
passed_law T globals y stack spot end sp AnyBase n x le is h = passed_row T globals y stack h.0 n x (let l = h.1 in omega arith) h.2 h.3
