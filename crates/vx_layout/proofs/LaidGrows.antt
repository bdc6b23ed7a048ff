-- A word of a layout only adds to the output, and leaves as many arrays as there were; so does a program of layouts.
use Rattle.std.proofs.Common.{◌≡◌, ℕ, zero, suc, Option, Some, None, List, [], ◌∷◌, length, slice_get, map, refl, subst}
use Rattle.vx_base.proofs.Runs.{Grows}
use Rattle.vx_base.proofs.Same.{begins_self}
use Rattle.vx_flow.specs.declared.graph.Graph.{Graph}
use Rattle.vx_flow.specs.declared.graph.Flow.{Flow}
use Rattle.vx_flow.specs.Effects.{State, Setting, effect, held}
use Rattle.vx_flow.specs.Meaning.{known, and_then, Active, setting_with, body_hop, next}
use Rattle.vx_mixed.specs.declared.region.Item.{Item}
use Rattle.vx_mixed.specs.declared.region.Item.TheVariants.{Plain as PlainItem, Split as SplitItem}
use Rattle.vx_mixed.specs.declared.layout.Laid.{Laid}
use Rattle.vx_mixed.specs.declared.layout.Laid.TheVariants.{Plain, Split}
use Rattle.vx_mixed.specs.declared.layout.VirtualWord.{VirtualWord}
use Rattle.vx_mixed.specs.declared.layout.VirtualWord.TheVariants.{Planned, Drain, Transfer, Choice, Call, Return, Ends}
use Rattle.vx_mixed.specs.declared.layout.VWords.{VWords}
use Rattle.vx_mixed.specs.Meaning.{into, word_effect}
use Rattle.vx_layout.specs.Laid.{laid_effect, laid_next, moves, moves_to, word_hop, some_word_hop, laid_hop, laid_body, laid_program}
use Rattle.vx_mixed.proofs.Shape.{word_kept}
use Rattle.vx_mixed.proofs.ProgramGrows.{program_grows}
use Rattle.vx_mixed.proofs.Keeps.{Good, HopGood, both_parts, test_good, calls_good, leaves_good, then_good, word_grows}

abbrev as_items : List Laid → List Item
as_items [] = []
as_items (Plain op cluster ∷ items) = PlainItem op cluster ∷ as_items items
as_items (Split p y q ∷ items) = SplitItem p y (record { from = 0; to = 0 }) 0 ∷ as_items items

effect_as : (setting : Setting) (s : State) (items : List Laid) (t : State) → word_effect setting s (as_items items) t ≡ laid_effect setting s items t
effect_as setting s [] t = refl
effect_as setting s (Plain op cluster ∷ items) t = by (effect setting s op t) (effect_as setting s items)
  where
    by : (o : Option State) → ((u : State) → word_effect setting s (as_items items) u ≡ laid_effect setting s items u) → into o (word_effect setting s (as_items items)) ≡ into o (laid_effect setting s items)
    by None h = refl
    by (Some u) h = h u
effect_as setting s (Split p y q ∷ items) t = effect_as setting s items t

module _ (xs : List ℕ) (n : ℕ) where
  moves_good : (p : ℕ) (o : Option ℕ) (t : State) → Good xs n t → HopGood xs n (moves_to p o t)
  moves_good p None t h = tt
  moves_good p (Some q) t h = h

  word_good : (setting : Setting) (p : ℕ) (word : VirtualWord) (s : State) → Good xs n s → HopGood xs n (word_hop setting p word s)
  word_good setting p (Planned r w items) s h =
      let o = word_effect setting s (as_items items) s in
      let q = laid_next s (suc p) items in
      subst (λ z. HopGood xs n (and_then z (moves_to p q))) (effect_as setting s items s)
      (then_good xs n o (moves_to p q) (both_parts xs n s o (word_grows xs n setting s (as_items items) s h.0 h.0) (word_kept setting s s (as_items items)) h.1) (moves_good p q))
  word_good setting p (Drain k) s h = h
  word_good setting p (Transfer q) s h = h
  word_good setting p (Choice test q) s h = test_good xs n (s.values test) (moves p q s) (moves p (suc p) s) h h
  word_good setting p (Call g arguments result) s h = calls_good xs n g (known (map (held s) arguments)) result (suc p) (suc (suc p)) s h
  word_good setting p (Return x) s h = leaves_good xs n (held s x) s h
  word_good setting p (Ends k) s h = h

  some_word_good : (setting : Setting) (p : ℕ) (o : Option VirtualWord) (s : State) → Good xs n s → HopGood xs n (some_word_hop setting p o s)
  some_word_good setting p None s h = tt
  some_word_good setting p (Some word) s h = word_good setting p word s h

  hop_good : (setting : Setting) (l : VWords) (b : ℕ) (s : State) → Good xs n s → HopGood xs n (laid_hop setting l b s)
  hop_good setting l zero s h = h
  hop_good setting l (suc p) s h = some_word_good setting p (slice_get l.words p) s h

module _ (flow : Flow) (ls : List VWords) where
  at_body : (r : Active) (graph : Option Graph) (l : Option VWords) → HopGood r.state.out (length r.state.arrays) (body_hop (laid_program flow ls) r (laid_body (length flow.globals) graph l))
  at_body r None l = tt
  at_body r (Some graph) None = tt
  at_body r (Some graph) (Some l) = hop_good r.state.out (length r.state.arrays) (setting_with (laid_program flow ls) r.passed r.base) l r.block r.state (begins_self r.state.out, refl)

  pub laid_grows : Grows (next (laid_program flow ls)) (λ r. r.state.out)
  laid_grows = program_grows (laid_program flow ls) (λ r. at_body r (slice_get flow.functions r.function) (slice_get ls r.function))
