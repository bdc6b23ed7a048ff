-- The path of a run, and the tally of it.
use Rattle.std.proofs.Common.{◌≡◌, ◌↔◌, ℕ, zero, suc, ◌+◌, ◌-◌, ℤ, Bool, true, cond, List, [], ◌∷◌, ◌++◌, length, slice_get, Option, Some, None, refl, sym, ap, subst, ◌∙◌, arith}
use Rattle.std.proofs.lemmas.Bool.{false≢true}
use Rattle.std.proofs.lemmas.List.Sums.{sum_by-append}
use Rattle.std.specs.List.{count_by}
use Rattle.vx_base.specs.Outcome.{Outcome, IsOver, Step, On, Over}
use Rattle.vx_flow.specs.Effects.{State}
use Rattle.vx_flow.specs.Meaning.{Visit, AtBlock, AlongEdge, Frame, Active, Program, edge_back, edge_taken, hop, next, path_then, program_path, program_run, program_of, start, graph_run, graph_path}
use Rattle.vx_flow.specs.declared.graph.Flow.{Flow}
use Rattle.vx_tally.specs.declared.machine.Waiting.{Waiting}
use Rattle.vx_tally.specs.declared.machine.Machine.{Machine}
use Rattle.vx_tally.specs.declared.ends.Left.{Left}
use Rattle.vx_tally.specs.declared.ends.Left.TheVariants.{Arrives, Calls, Leaves, Stops, Wrong}
use Rattle.vx_tally.specs.declared.ends.Ending.{Ending}
use Rattle.vx_profile.specs.Counts.{is_block, is_edge}
use Rattle.vx_tally.specs.declared.tally.Tally.{Tally}
use Rattle.vx_tally.specs.Tally.{TallyOf, TallyMore}
use Rattle.vx_tally.specs.Machine.{hop_from, visits, taken_by, frame_of, stacked, ended, IsStep, IsOutcome}

-- more visits

count_both : {A : Type 0} (p : A → Bool) (xs ys : List A) → count_by p (xs ++ ys) ≡ count_by p xs + count_by p ys
count_both p xs ys = sum_by-append (λ x. cond (p x) 1 0) xs ys

pub counts_both : (a b c : Tally) (xs ys : List Visit) → TallyMore a b xs → TallyMore b c ys → TallyMore a c (xs ++ ys)
counts_both a b c xs ys h k = record {
  blocks = λ f n. let p = h.blocks f n in let q = k.blocks f n in let s = count_both (is_block f n) xs ys in omega arith;
  edges = λ f n m. let p = h.edges f n m in let q = k.edges f n m in let s = count_both (is_edge f n m) xs ys in omega arith;
}

pub counted_all : (a b : Tally) (xs ys : List Visit) → TallyOf a xs → TallyMore a b ys → TallyOf b (xs ++ ys)
counted_all a b xs ys h k = record {
  blocks = λ f n. let p = h.blocks f n in let q = k.blocks f n in let s = count_both (is_block f n) xs ys in omega arith;
  edges = λ f n m. let p = h.edges f n m in let q = k.edges f n m in let s = count_both (is_edge f n m) xs ys in omega arith;
}

-- the edge that is taken

pub taken_is : (r : Active) (s : State) (left : Left) → edge_taken r (hop_from r.block s left) ≡ taken_by r.function r.block r.waiting left
taken_is r s (Arrives c) = refl
taken_is r s (Calls g arguments result to) = refl
taken_is r s (Leaves n) = refl
taken_is r s (Stops k) = refl
taken_is r s Wrong = refl

last_waits : (below : List Frame) (ws : List Waiting) (i : ℕ) (w : Waiting) → slice_get ws i ≡ Some w → length ws ≡ i + 1 → edge_back (stacked below ws) ≡ AlongEdge w.function w.from w.next ∷ []
last_waits below [] i w e n = absurd (cc)
last_waits below (u ∷ []) zero w e n = let q : u ≡ w = cc in ap (λ x. AlongEdge x.function x.from x.next ∷ []) q
last_waits below (u ∷ []) (suc i) w e n = absurd (omega arith)
last_waits below (u ∷ v ∷ ws) zero w e n = absurd (omega arith)
last_waits below (u ∷ v ∷ ws) (suc i) w e n = last_waits (frame_of u ∷ below) (v ∷ ws) i w e (omega arith)

edge_back_is : (ws : List Waiting) (i : ℕ) (w : Waiting) → slice_get ws i ≡ Some w → length ws ≡ i + 1 → edge_back (stacked [] ws) ≡ AlongEdge w.function w.from w.next ∷ []
edge_back_is ws i w e n = last_waits [] ws i w e n

pub edge_back_last : (ws : List Waiting) (w : Waiting) → slice_get ws (length ws - 1) ≡ Some w → edge_back (stacked [] ws) ≡ AlongEdge w.function w.from w.next ∷ []
edge_back_last [] w e = absurd (cc)
edge_back_last (u ∷ us) w e = edge_back_is (u ∷ us) (length (u ∷ us) - 1) w e (omega arith)

-- paths

pub path_on : (p : Program) (n k : ℕ) (r s : Active) → n ≡ suc k → next p r ≡ On s → program_path p n r ≡ visits p r ++ program_path p k s
path_on p n k r s e f = ap (λ m. program_path p m r) e ∙ ap (λ x. AtBlock r.function r.block ∷ (edge_taken r (hop p r) ++ path_then (program_path p k) x)) f

append_none : {A : Type 0} (xs : List A) → xs ++ [] ≡ xs
append_none [] = refl
append_none (x ∷ xs) = ap (λ ys. x ∷ ys) (append_none xs)

pub path_over : (p : Program) (n k : ℕ) (r : Active) (o : Outcome) → n ≡ suc k → next p r ≡ Over o → program_path p n r ≡ visits p r
path_over p n k r o e f =
    ap (λ m. program_path p m r) e ∙ ap (λ x. AtBlock r.function r.block ∷ (edge_taken r (hop p r) ++ path_then (program_path p k) x)) f ∙ append_none (visits p r)

pub path_none : (p : Program) (n : ℕ) (r : Active) → n ≡ 0 → program_path p n r ≡ []
path_none p n r e = ap (λ m. program_path p m r) e

-- a run that is counted: what was passed so far, and what is left of the path
pub record Counted (p : Program) (path : List Visit) (tally : Tally) (left : ℕ) (r : Active) : Type 0 where
  pub passed : List Visit
  pub counted : TallyOf tally passed
  pub whole : path ≡ passed ++ program_path p left r

append_three : {A : Type 0} (xs ys zs : List A) → xs ++ (ys ++ zs) ≡ (xs ++ ys) ++ zs
append_three [] ys zs = refl
append_three (x ∷ xs) ys zs = ap (λ l. x ∷ l) (append_three xs ys zs)

pub run_begun : (flow : Flow) (input : List ℤ) (n m : ℕ) (r : Active) → r ≡ start flow input → m ≡ n → graph_run flow input n ≡ program_run (program_of flow) m r
run_begun flow input n m r e f = ap (program_run (program_of flow) n) (sym e) ∙ ap (λ k. program_run (program_of flow) k r) (sym f)

pub path_begun : (flow : Flow) (input : List ℤ) (n m : ℕ) (r : Active) (a : Tally) → TallyOf a [] → r ≡ start flow input → m ≡ n → Counted (program_of flow) (graph_path flow input n) a m r
path_begun flow input n m r a h e f = record {
  passed = [];
  counted = h;
  whole = ap (program_path (program_of flow) n) (sym e) ∙ ap (λ k. program_path (program_of flow) k r) (sym f);
}

-- a step that ends the run
pub record OverAt (step : Step Active) : Type 0 where
  pub outcome : Outcome
  pub is : step ≡ Over outcome

over_by : (how : Ending) (step : Step Active) (m : Machine) → IsStep (Some how) step m → OverAt step
over_by (Ending.Ends n) step m h = record { outcome = Outcome.Ends n m.storage.out.items; is = h }
over_by (Ending.Traps k) step m h = record { outcome = Outcome.Traps k m.storage.out.items; is = h }
over_by Ending.Wrong step m h = let (out, e) = h in record { outcome = Outcome.Wrong out; is = e }

pub over_at : (ending : Option Ending) (how : Ending) (step : Step Active) (m : Machine) → ending ≡ Some how → IsStep ending step m → OverAt step
over_at ending how step m e h = over_by how step m (subst (λ x. IsStep x step m) e h)

pub counted_on : (p : Program) (path : List Visit) (a b : Tally) (n k : ℕ) (r s : Active) → Counted p path a n r → TallyMore a b (visits p r) → n ≡ suc k → next p r ≡ On s → Counted p path b k s
counted_on p path a b n k r s h m e f = record {
  passed = h.passed ++ visits p r;
  counted = counted_all a b h.passed (visits p r) h.counted m;
  whole = h.whole ∙ ap (λ l. h.passed ++ l) (path_on p n k r s e f) ∙ append_three h.passed (visits p r) (program_path p k s);
}

pub counted_over : (p : Program) (path : List Visit) (a b : Tally) (n k : ℕ) (r : Active) (o : Outcome) → Counted p path a n r → TallyMore a b (visits p r) → n ≡ suc k → next p r ≡ Over o → TallyOf b path
counted_over p path a b n k r o h m e f =
    subst (TallyOf b) (sym (h.whole ∙ ap (λ l. h.passed ++ l) (path_over p n k r o e f))) (counted_all a b h.passed (visits p r) h.counted m)

pub counted_end : (p : Program) (path : List Visit) (a : Tally) (n : ℕ) (r : Active) → Counted p path a n r → n ≡ 0 → TallyOf a path
counted_end p path a n r h e = subst (TallyOf a) (sym (h.whole ∙ ap (λ l. h.passed ++ l) (path_none p n r e) ∙ append_none h.passed)) h.counted

-- whether the run is over

pub over_is : (e : Option Ending) (out : List ℕ) (o : Outcome) → IsOutcome e out o → (ended e ≡ true) ↔ IsOver o
over_is None out o h = (λ t. absurd (false≢true t), λ v. absurd (subst IsOver h v))
over_is (Some (Ending.Ends n)) out o h = (λ t. subst IsOver (sym h) tt, λ v. refl)
over_is (Some (Ending.Traps k)) out o h = (λ t. subst IsOver (sym h) tt, λ v. refl)
over_is (Some Ending.Wrong) out o h = let (other, e) = h in (λ t. absurd (false≢true t), λ v. absurd (subst IsOver e v))
