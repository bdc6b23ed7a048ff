-- The output of a program of graphs only grows, and a segment of a graph is a number of its steps.
use Rattle.std.proofs.Common.{◌≡◌, ℕ, suc, Bool, Option, Some, None, List, length, slice_get, refl, ap, ◌∙◌, subst}
use Rattle.std.specs.Option.{option_map}
use Rattle.vx_base.proofs.Runs.{Grows, Reach}
use Rattle.vx_flow.specs.declared.graph.Op.{Op}
use Rattle.vx_flow.specs.declared.graph.Flow.{Flow}
use Rattle.vx_flow.specs.Effects.{State}
use Rattle.vx_flow.specs.Meaning.{Hop, Arrives, Program, Active, setting_with, after_hop, body_hop, next}
use Rattle.vx_mixed.specs.declared.mixed.MixedGraph.{MixedGraph}
use Rattle.vx_mixed.specs.Meaning.{hop}
use Rattle.vx_mixed.specs.Agree.{Segment, last, on}
use Rattle.vx_mixed.specs.Program.{body_of, program_of}
use Rattle.vx_mixed.proofs.ProgramGrows.{program_grows}
use Rattle.vx_mixed.proofs.Keeps.{Good, HopGood, hop_good}

module _ (flow : Flow) (times : List ℕ) (latency : Op → ℕ) (ms : List MixedGraph) where
  abbrev pub P : Program
  P = program_of flow times latency ms

  abbrev pub G : ℕ
  G = length flow.globals

  abbrev pub out_of : Active → List ℕ
  out_of r = r.state.out

  abbrev at_hop : Active → Option MixedGraph → Hop
  at_hop r o = body_hop P r (option_map (body_of G times latency) o)

  hop_grown : (r : Active) (o : Option MixedGraph) → HopGood r.state.out (length r.state.arrays) (at_hop r o)
  hop_grown r None = tt
  hop_grown r (Some m) = hop_good (setting_with P r.passed r.base) times latency m r.block r.state

  pub grows : Grows (next P) out_of
  grows = program_grows P (λ r. hop_grown r (slice_get ms r.function))

  -- the active function at another place
  abbrev pub moved : Active → ℕ → State → Active
  moved n b s = record n { block = b; state = s }

  -- a segment is a number of steps and a last hop, which leaves ars many arrays
  pub record Inside (n : Active) (b : ℕ) (s : State) (h : Hop) : Type 0 where
    pub count : ℕ
    pub place : ℕ
    pub state : State
    pub reach : Reach (next P) count (moved n b s) (moved n place state)
    pub ends : next P (moved n place state) ≡ after_hop P (moved n place state) h
    pub out : List ℕ
    pub good : HopGood out (length s.arrays) h

  step_is : (n : Active) (m : MixedGraph) (b : ℕ) (s : State) (h : Hop) → slice_get ms n.function ≡ Some m → hop (setting_with P n.passed n.base) times latency m b s ≡ h → next P (moved n b s) ≡ after_hop P (moved n b s) h
  step_is n m b s h e r = ap (λ o. after_hop P (moved n b s) (at_hop (moved n b s) o)) e ∙ ap (after_hop P (moved n b s)) r

  pub inside : (n : Active) (m : MixedGraph) (meet : ℕ → ℕ → Bool) (b : ℕ) (s : State) (h : Hop) → slice_get ms n.function ≡ Some m → Segment (hop (setting_with P n.passed n.base) times latency m) meet b s h → Inside n b s h
  inside n m meet b s h e (last r v) = record {
    count = 0;
    place = b;
    state = s;
    reach = refl;
    ends = step_is n m b s h e r;
    out = s.out;
    good = subst (HopGood s.out (length s.arrays)) r (hop_good (setting_with P n.passed n.base) times latency m b s);
  }
  inside n m meet b s h e (on {from = c} {to = d} {t = t} r q more) =
      let i = inside n m meet d t h e more in
      let kept : Good s.out (length s.arrays) t = subst (HopGood s.out (length s.arrays)) r (hop_good (setting_with P n.passed n.base) times latency m b s) in
      record {
        count = suc i.count;
        place = i.place;
        state = i.state;
        reach = (moved n d t, step_is n m b s (Arrives c d t) e r, i.reach);
        ends = i.ends;
        out = i.out;
        good = subst (λ z. HopGood i.out z h) kept.1 i.good;
      }
