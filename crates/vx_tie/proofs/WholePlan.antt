-- A program that is finished from spaced layouts carries its plan.
use Rattle.std.proofs.Common.{◌≡◌, ◌<◌, ◌≤◌, ◌⊎◌, inl, inr, ⊎_elim, ◌+◌, ℕ, zero, suc, Some, List, [], ◌∷◌, length, refl, sym, ap, ◌∙◌, subst, arith}
use Rattle.std.specs.Prelude.{slice_get}
use Rattle.vx_flow.specs.declared.graph.Flow.{Flow}
use Rattle.vx_flow.specs.Sound.{SoundFlow, is_sound_flow}
use Rattle.vx_flow.proofs.SoundFlowLaw.{told}
use Rattle.vx_isa.specs.declared.operation.Operation.{Operation}
use Rattle.vx_isa.specs.declared.program.Word.{Word}
use Rattle.vx_isa.specs.Machine.{cycles_of}
use Rattle.vx_isa.specs.Numbers.{Numbers}
use Rattle.vx_isa.specs.Paths.{WordAt}
use Rattle.vx_mixed.specs.declared.layout.VWords.{VWords}
use Rattle.vx_regs.specs.declared.map.RegMap.{RegMap}
use Rattle.vx_target.specs.declared.finished.Finished.{Finished}
use Rattle.vx_target.specs.Target.{Target, most_transfers, plan_word}
use Rattle.vx_target.specs.Carried.{Carries}
use Rattle.vx_target.specs.Finish.{Finishes}
use Rattle.vx_target.specs.Places.{plan_place}
use Rattle.vx_target.proofs.Beside.{turn_is}
use Rattle.vx_target.proofs.Frames.{past_keeps}
use Rattle.vx_tie.specs.Plans.{by_transfer, IsEntrance, IsOther, loads_slot, stores_slot, picks_number, tests_number, moves, tests_depth, leaves_by_depth, leaves_or_lowers, moves_stacks, calls, stores_slot_and_calls, takes_link, stores_link, loads_link, moves_and_loads_link, gives_link, returns, moves_and_returns, sets_stacks, calls_first, halts, traps, traps_depth, idles, goes, branches, goes_out, IsPlanPlace, IsIdle, cycles_at, cycles_from, CarriesPlan, AreSpaced}
use Rattle.vx_tie.specs.PlanLaws.{PlanLaw, TurnLaw}
use Rattle.vx_tie.proofs.EachWord.{IsPlannedAt, word_kind, plan_stands}
use Rattle.vx_tie.proofs.PlanWords.{plan_word_is}
use Rattle.vx_tie.proofs.IdleWords.{Operates, Busy, busy_beside}

no_op : (ops : List Operation) → Operates ops → ops ≡ [] → ⊥
no_op [] h e = h
no_op (op ∷ ops) h e = absurd (cc)

pub turn_law : TurnLaw
turn_law T f p q h =
    let a = turn_is T f p (slice_get (T.layout f).words p) q h in
    subst (IsEntrance (T.layout f)) (sym a.2) (past_keeps (T.layout f).words (IsEntrance (T.layout f)) (λ d to e k. by_transfer d e) most_transfers a.0 (by_transfer p a.1))

module _ (T : Target) (count q : ℕ) where
  -- one that has no operation is a pause, or moves the stack pointers of no clusters
  short : (word : Word) → IsOther T count q word → word.ops ≡ [] → cycles_of word ≤ 16
  short word (loads_slot f v up to lt n h) e = absurd (cc)
  short word (stores_slot f v k from lt n) e = absurd (cc)
  short word (picks_number f v b lt n h i) e = absurd (cc)
  short word (tests_number f v b lt n h i) e = absurd (cc)
  short word (moves k to from) e = absurd (cc)
  short word (tests_depth h) e = absurd (cc)
  short word (leaves_by_depth h) e = absurd (cc)
  short word (leaves_or_lowers h) e = absurd (cc)
  short word (moves_stacks z h i) e = omega arith
  short word (calls h) e = absurd (cc)
  short word (stores_slot_and_calls h v k from n) e = absurd (cc)
  short word (takes_link h) e = absurd (cc)
  short word (stores_link h) e = absurd (cc)
  short word (loads_link h) e = absurd (cc)
  short word (moves_and_loads_link from h) e = absurd (cc)
  short word (gives_link h) e = absurd (cc)
  short word (returns h) e = absurd (cc)
  short word (moves_and_returns from h) e = absurd (cc)
  short word (sets_stacks h) e = omega arith
  short word (calls_first f lt h) e = absurd (cc)
  short word (halts h) e = absurd (cc)
  short word (traps f p k lt h i) e = absurd (cc)
  short word (traps_depth h) e = absurd (cc)
  short word (idles n le) e = omega arith
  short word (goes f p lt t) e = absurd (cc)
  short word (branches f p b lt t) e = absurd (cc)
  short word (goes_out f p lt t) e = absurd (cc)

module _ (m : Numbers) (flow : Flow) (ls : List VWords) (maps : List RegMap) (x : Finished) (finishes : Finishes m flow ls maps x) (sound : SoundFlow flow) (spaced : AreSpaced ls) where
  abbrev T : Target
  T = finishes.finished.target

  c : Carries T flow ls x.program
  c = finishes.finished.carries

  abbrev Place : ℕ → Type 0
  Place q = IsPlanPlace T ls x.places q

  below : (f : ℕ) → f < length ls → f < length flow.functions
  below f lt = subst (λ n. f < n) finishes.functions lt

  named : (q : ℕ) → IsPlannedAt T (length flow.functions) q → Place q
  named q h =
      let lt : h.function < length ls = subst (λ n. h.function < n) (sym finishes.functions) h.low in
      record { function = h.function; place = h.place; region = h.region; number = h.number; items = h.items; below = lt; planned = h.planned; at = finishes.places.each h.function h.place h.region h.number h.items lt h.planned ∙ ap Some h.at }

  others : (q : ℕ) (word : Word) → WordAt x.program q word → Place q ⊎ IsOther T (length ls) q word
  others q word at = ⊎_elim (λ here. inl (named q here)) (λ other. inr (subst (λ n. IsOther T n q word) (sym finishes.functions) other)) (word_kind T flow ls x.program sound c spaced q word at)

  abbrev Idle : ℕ → Type 0
  Idle q = IsIdle T ls x.places x.program q

  not_busy : (q : ℕ) (i : Idle q) → Busy T (length flow.functions) q i.word → ⊥
  not_busy q i h = ⊎_elim (λ p. i.other (named q p)) (λ o. no_op i.word.ops o i.empty) h

  one_idle : (q : ℕ) → Idle q → cycles_at (slice_get x.program.words q) ≤ 16
  one_idle q i = subst (λ o. cycles_at o ≤ 16) (sym i.at) (⊎_elim (λ p. absurd (i.other p)) (λ o. short T (length ls) q i.word o i.empty) (others q i.word i.at))

  idle : (q n : ℕ) → ((i : ℕ) → i < n → Idle (q + i)) → cycles_from x.program.words q n ≤ 16
  idle q zero h = omega arith
  idle q (suc zero) h =
      let z : q + 0 ≡ q = omega arith in
      let few : cycles_at (slice_get x.program.words q) ≤ 16 = one_idle q (subst Idle z (h 0 (omega arith))) in
      let all : cycles_at (slice_get x.program.words q) + 0 ≤ 16 = omega arith in all
  idle q (suc (suc n)) h =
      let z : q + 0 ≡ q = omega arith in
      let y : q + 1 ≡ suc q = omega arith in
      let first : Idle q = subst Idle z (h 0 (omega arith)) in
      let second : Idle (suc q) = subst Idle y (h 1 (omega arith)) in
      absurd (⊎_elim (λ b. not_busy q first b) (λ b. not_busy (suc q) second b) (busy_beside T flow ls x.program c spaced q first.word second.word first.at second.at))

  carries_plan : CarriesPlan T ls x.places x.program
  carries_plan = record {
    planned = λ f p r i items lt e. (plan_place T f p items, plan_word T f p items, finishes.places.each f p r i items lt e, plan_stands T flow ls x.program sound c spaced f p r i items (below f lt) e, plan_word_is T f p items);
    others = others;
    idle = idle;
  }

pub plan_law : PlanLaw
plan_law m flow ls maps x finishes sound spaced = carries_plan m flow ls maps x finishes ((told flow (is_sound_flow flow) refl).0 sound) spaced
