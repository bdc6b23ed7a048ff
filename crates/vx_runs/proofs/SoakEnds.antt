-- How a run of `soak` ends, and what is put of it.
use Rattle.std.proofs.Common.{◌≡◌, ◌∙◌, ℕ, ℤ, false, List, [], length, Option, Some, refl, sym, subst, ap}
use Rattle.vx_base.specs.Outcome.{output_of}
use Rattle.vx_io.specs.Outside.{with_bytes}
use Rattle.vx_probe.specs.Times.{Times}
use Rattle.vx_probe.specs.Watch.{Watch}
use Rattle.vx_sim.specs.Ran.{is_fault}
use Rattle.vx_sim.specs.declared.ended.Ended.{Ended}
use Rattle.vx_sim.specs.declared.ended.Ended.TheVariants.{Halted}
use Rattle.vx_status.specs.declared.status.Status.{Status}
use Rattle.vx_runs.specs.Ending.{RunOf}
use Rattle.vx_runs.specs.Simulated.{Loaded, Streams, outcome_within, events_within}
use Rattle.vx_runs.specs.Summary.{byte_sum, soak_budget, RunEndsSo, PutsEnd}

same_bytes : (told : Option (List ℕ)) (bytes out : List ℕ) → told ≡ Some bytes → told ≡ Some out → bytes ≡ out
same_bytes told bytes out a b = cc

pub run_ends : (x : Loaded) (times : Times) (ended : Ended) (issued sum : ℕ) (watches watches' : List Watch) (before bytes : List ℕ) →
    RunOf x times soak_budget watches watches' (Some before) (Some bytes) ended → before ≡ [] → (is_fault ended ≡ false → issued ≡ length (events_within x times soak_budget)) → sum ≡ byte_sum bytes →
    is_fault ended ≡ false → RunEndsSo x times ended issued sum
run_ends x times ended issued sum watches watches' before bytes r empty counted summed no_fault =
    let done = r.whole no_fault in
    let out : List ℕ = output_of (outcome_within x times soak_budget) in
    let put : Some bytes ≡ with_bytes (Some []) out = done.put ∙ ap (λ b. with_bytes (Some b) out) empty in
    let same : bytes ≡ out = same_bytes (Some bytes) bytes out refl put in
    record { out = out; outcome = done.outcome; issued_is = counted no_fault; sum_is = summed ∙ ap byte_sum same }

-- what is put of an end

pub put_halted : (ended : Ended) (z : ℤ) (line put : List ℕ) (s : Streams) (status : Status) → ended ≡ Halted z → put ≡ line → ((n : ℤ) → PutsEnd (Halted n) put s status) → PutsEnd ended line s status
put_halted ended z line put s status is same puts = subst (λ e. PutsEnd e line s status) (sym is) (subst (λ l. PutsEnd (Halted z) l s status) same (puts z))
