-- Over values, transfers one after the other lead to the place past them: steps that change nothing but the place.
use Rattle.std.proofs.Common.{◌≡◌, ◌+◌, ℕ, suc, Some, List, length, refl, ap, ◌∙◌}
use Rattle.std.specs.Prelude.{slice_get}
use Rattle.vx_base.specs.Outcome.{On}
use Rattle.vx_base.proofs.Runs.{Reach, reach_on, reach_one, run_reach}
use Rattle.vx_flow.specs.declared.graph.Flow.{Flow}
use Rattle.vx_flow.specs.Meaning.{Active, setting_with, body_hop, after_hop, next, program_run}
use Rattle.vx_mixed.specs.declared.layout.VirtualWord.TheVariants.{Transfer}
use Rattle.vx_mixed.specs.declared.layout.VWords.{VWords}
use Rattle.vx_layout.specs.Laid.{some_word_hop, laid_body, laid_program}
use Rattle.vx_regs.specs.Intervals.{IsLive, beyond}
use Rattle.vx_target.specs.Target.{Target, most_transfers, past}
use Rattle.vx_target.specs.Tied.{IsFunction}
use Rattle.vx_target.proofs.Frames.{past_keeps}

-- steps over values, as bounds of runs
pub steps_on : (flow : Flow) (ls : List VWords) (k : ℕ) (r s : Active) → Reach (next (laid_program flow ls)) k r s → (n : ℕ) → program_run (laid_program flow ls) (k + n) r ≡ program_run (laid_program flow ls) n s
steps_on flow ls k r s reach n = run_reach (next (laid_program flow ls)) (λ q. q.state.out) k n r s reach

pub one_on : (flow : Flow) (ls : List VWords) (r s : Active) → next (laid_program flow ls) r ≡ On s → (n : ℕ) → program_run (laid_program flow ls) (1 + n) r ≡ program_run (laid_program flow ls) n s
one_on flow ls r s step n = steps_on flow ls 1 r s (reach_one (next (laid_program flow ls)) r s step) n

module _ (T : Target) (flow : Flow) (ls : List VWords) (r : Active) (is : IsFunction T flow ls r.function) where
  abbrev At : ℕ → Active
  At d = record r { block = suc d }

  -- from one place of the layout to another one, with nothing written
  pub record Led (q d : ℕ) : Type 0 where
    pub steps : ℕ
    pub over_values : Reach (next (laid_program flow ls)) steps (At q) (At d)
    pub live : (v : ℕ) → IsLive (T.layout r.function) d v → IsLive (T.layout r.function) q v

  transferred : (q d : ℕ) → slice_get (T.layout r.function).words q ≡ Some (Transfer d) → next (laid_program flow ls) (At q) ≡ On (At d)
  transferred q d e = ap (after_hop (laid_program flow ls) (At q))
      (ap (body_hop (laid_program flow ls) (At q)) (ap (λ g. laid_body (length flow.globals) g (slice_get ls r.function)) is.graph ∙ ap (λ l. laid_body (length flow.globals) (Some (T.graph r.function)) l) is.layout)
      ∙ ap (λ x. some_word_hop (setting_with (laid_program flow ls) r.passed r.base) q x r.state) e)

  led_on : (q d to : ℕ) → slice_get (T.layout r.function).words d ≡ Some (Transfer to) → Led q d → Led q to
  led_on q d to e h = record {
    steps = h.steps + 1;
    over_values = reach_on (next (laid_program flow ls)) h.steps 1 (At q) (At d) (At to) h.over_values (reach_one (next (laid_program flow ls)) (At d) (At to) (transferred d to e));
    live = λ v k. h.live v (beyond e (λ i. i) refl k);
  }

  led_from : (q d : ℕ) → Led q d → Led q (past T r.function d)
  led_from q d h = past_keeps (T.layout r.function).words (Led q) (led_on q) most_transfers d h

  stays_there : (q : ℕ) → Led q q
  stays_there q = record { steps = 0; over_values = refl; live = λ v k. k }

  pub led_past : (q : ℕ) → Led q (past T r.function q)
  led_past q = led_from q q (stays_there q)

  -- and from a transfer past where it goes
  pub led_beyond : (q d : ℕ) → slice_get (T.layout r.function).words q ≡ Some (Transfer d) → Led q (past T r.function d)
  led_beyond q d e = led_from q d (led_on q q d e (stays_there q))
