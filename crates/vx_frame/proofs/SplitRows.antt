-- Worked rows: a word that leaves a result for a slot and has two splits. Each of them has a landing of its own: a pause, a store
-- and the way out.
use Rattle.std.proofs.Common.{◌≡◌, ◌+◌, ℕ, zero, suc, true, false, List, [], ◌∷◌, length, refl, subst, inl, inr, arith}
use Rattle.vx_flow.specs.Effects.{IsIn}
use Rattle.vx_flow.specs.declared.graph.Bank.TheVariants.{General}
use Rattle.vx_flow.specs.declared.graph.Op.TheVariants.{More}
use Rattle.vx_isa.specs.Numbers.{vex}
use Rattle.vx_mixed.specs.LaidSettled.{laid_ways}
use Rattle.vx_mixed.specs.Settled.{NoTwice}
use Rattle.vx_mixed.specs.declared.layout.Laid.{Laid}
use Rattle.vx_mixed.specs.declared.layout.Laid.TheVariants.{Plain, Split}
use Rattle.vx_mixed.specs.declared.layout.VirtualWord.{VirtualWord}
use Rattle.vx_mixed.specs.declared.layout.VirtualWord.TheVariants.{Planned, Transfer, Ends}
use Rattle.vx_base.specs.declared.outcome.Trap.TheVariants.{Depth}
use Rattle.vx_slots.specs.declared.program.SplitLanding.{SplitLanding}
use Rattle.vx_target.specs.Target.{Target}
use Rattle.vx_target.specs.Placed.{PlacedAt, all_pieces, landing_pieces, words_of}
use Rattle.vx_frame.specs.Placing.{WaysDiffer, landings_from, standing, word_spots}
use Rattle.vx_slots.specs.Seen.{landed, no_graph, no_map}
use Rattle.vx_frame.proofs.Standing.{program_placed}

-- value 0 is written, the splits test values 1 and 2, and no value has a register
abbrev items : List Laid
items = Plain (More 0) 0 ∷ Split 1 true 2 ∷ Split 2 false 3 ∷ []

abbrev laid : List VirtualWord
laid = Planned 0 0 items ∷ Ends Depth ∷ Transfer 1 ∷ Transfer 1 ∷ []

abbrev target : Target
target = record {
  machine = vex 1;
  graph = λ f. no_graph;
  layout = λ f. record { banks = General ∷ []; homes = record { clusters = [] }; words = laid; entry = 0; regions = 1 };
  maps = λ f. no_map;
  globals = 0;
  frame = 1;
  slot = λ f v. 0;
  array_at = λ f a. 0;
  saved = λ f p. [];
  brought = λ f. [];
  entry = λ f. 0;
  starts = λ f p. 0;
  landing = λ f p to. 0;
  back = λ f p. 0;
  depth_trap = 0;
}

abbrev spot : (to at : ℕ) → SplitLanding
spot to at = record { to = to; at = at }

two_landings : word_spots target 0 0 100 (Planned 0 0 items) ≡ spot 2 100 ∷ spot 3 103 ∷ []
two_landings = refl

their_words : length (words_of (landing_pieces target 0 0 laid)) ≡ 6
their_words = refl

each_its_own : landings_from target 0 100 0 laid ≡ (spot 2 100 ∷ spot 3 103 ∷ []) ∷ [] ∷ [] ∷ [] ∷ []
each_its_own = refl

second : landed (word_spots target 0 0 100 (Planned 0 0 items)) 3 ≡ 103
second = refl

-- the law places both as it stands

apart : IsIn {A = ℕ} 2 (3 ∷ []) → ⊥
apart (inl e) = absurd (omega arith)
apart (inr i) = i

ways_differ : WaysDiffer laid
ways_differ zero r w xs e =
    let a : Planned 0 0 items ≡ Planned r w xs = cc in
    let b : items ≡ xs = cc in
    subst (λ (z : List Laid). NoTwice (laid_ways z)) b (apart, ((λ i. i), tt))
ways_differ (suc zero) r w xs e = absurd (cc)
ways_differ (suc (suc zero)) r w xs e = absurd (cc)
ways_differ (suc (suc (suc zero))) r w xs e = absurd (cc)
ways_differ (suc (suc (suc (suc p)))) r w xs e = absurd (cc)

placed : PlacedAt (standing target 0 1) 0 (all_pieces (standing target 0 1) 0 1)
placed = program_placed target 0 1 (λ f lt. ways_differ)

three_words_on : (standing target 0 1).landing 0 0 3 ≡ (standing target 0 1).landing 0 0 2 + 3
three_words_on = refl
