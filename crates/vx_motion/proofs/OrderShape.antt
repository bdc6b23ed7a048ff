-- In trace order too the arrays keep their lengths, and what an item does not write stays.
use Rattle.std.proofs.Common.{◌≡◌, ℕ, zero, suc, Option, Some, None, List, [], ◌∷◌, length, refl, sym, ap, ◌∙◌, inl, inr}
use Rattle.vx_flow.specs.Effects.{State, Setting, calm_effect, without_meaning, dismissed, cell_in, row_of, effect, IsCell, WritesAt, Location, Of, Cell, TheInput, TheOutput, at, state_or}
use Rattle.vx_flow.specs.declared.graph.Op.{Op}
use Rattle.vx_flow.specs.declared.graph.Op.TheVariants.{Load, Input}
use Rattle.vx_mixed.specs.declared.region.Item.{Item}
use Rattle.vx_mixed.specs.declared.region.Item.TheVariants.{Plain, Split}
use Rattle.vx_mixed.specs.Meaning.{word_effect}
use Rattle.vx_motion.specs.Items.{Fine, item_effect, calm, Reads, Writes, Marked, as_it_is, dismissible}
use Rattle.vx_mixed.specs.Agree.{SameShape}
use Rattle.vx_motion.specs.Trace.{inert, nth, order}
use Rattle.vx_motion.proofs.Effect.{value_else}
use Rattle.vx_mixed.proofs.Contents.{same_shape, none_is}
use Rattle.vx_motion.proofs.Step.{step}
use Rattle.vx_motion.proofs.Timetable.{in_words}
use Rattle.vx_mixed.proofs.Shape.{shape_trans, Kept, value_kept, effect_kept, word_kept}

pub shape_sym : (s t : State) → SameShape s t → SameShape t s
shape_sym s t h = record { arrays = sym h.arrays; rows = λ a. sym (h.rows a) }

pub item_kept : (setting : Setting) (σ u : State) (i : Item) → Kept u (item_effect setting σ i u)
item_kept setting σ u (Plain op cluster) = effect_kept setting σ u op
item_kept setting σ u (Split p y edge d) = same_shape u

or_kept : (u v : State) (o : Option State) → SameShape u v → Kept u o → SameShape u (state_or v o)
or_kept u v None h k = h
or_kept u v (Some t) h k = k

without_kept : (op : Op) (s : State) → SameShape s (without_meaning op s)
without_kept (Input v) s = value_kept s v None
without_kept op s = same_shape s

pub calm_shape : (setting : Setting) (s : State) (i : Item) → SameShape s (calm setting s i)
calm_shape setting s (Plain op cluster) = or_kept s (without_meaning op s) (effect setting s (dismissed op) s) (without_kept op s) (effect_kept setting s s (dismissed op))
calm_shape setting s (Split p y edge d) = same_shape s

pub order_shape : (setting : Setting) (is : List Item) (s : State) (k : ℕ) → SameShape s (order setting is s k)
order_shape setting is s zero = same_shape s
order_shape setting [] s (suc k) = same_shape s
order_shape setting (i ∷ is) s (suc k) = shape_trans s (calm setting s i) (order setting is (calm setting s i) k) (calm_shape setting s i) (order_shape setting is (calm setting s i) k)

pub words_shape : (setting : Setting) (words : ℕ → List Item) (t : State) (w : ℕ) → SameShape t (in_words setting words t w)
words_shape setting words t zero = same_shape t
words_shape setting words t (suc w) =
    let σ = in_words setting words t w in
    shape_trans t σ (in_words setting words t (suc w)) (words_shape setting words t w) (or_kept σ σ (word_effect setting σ (words w) σ) (same_shape σ) (word_kept setting σ σ (words w)))

-- one more place of the trace
pub order_next : (setting : Setting) (is : List Item) (s : State) (k : ℕ) → order setting is s (suc k) ≡ calm setting (order setting is s k) (nth is k)
order_next setting [] s zero = refl
order_next setting [] s (suc k) = refl
order_next setting (i ∷ is) s zero = refl
order_next setting (i ∷ is) s (suc k) = order_next setting is (calm setting s i) k

fine_same : (l : Location) (s : State) → Fine l (at s l) (at s l)
fine_same (Of v) s = λ n e. e
fine_same (Cell a i) s = refl
fine_same TheInput s = refl
fine_same TheOutput s = refl

-- what an operation does not write stays, in trace order
calm_other : (setting : Setting) (s : State) (op : Op) (l : Location) → (WritesAt setting s op l → ⊥) → at (calm_effect setting s op s) l ≡ at s l
calm_other setting s op l n = by (effect setting s (dismissed op) s) refl
  where
    all_marked : (op : Op) → Marked (Plain op 0) (Plain (dismissed op) 0)
    all_marked (Load v a p d) = dismissible
    all_marked op = as_it_is

    without : (op : Op) → (WritesAt setting s op l → ⊥) → at (without_meaning op s) l ≡ at s l
    without (Input v) m = value_else s v None l (λ e. m (inl (v, inl refl, e)))
    without op m = refl

    by : (o : Option State) → effect setting s (dismissed op) s ≡ o → at (state_or (without_meaning op s) o) l ≡ at s l
    by None e = without op n
    by (Some t) e =
        let r = step setting s s s (same_shape s) (same_shape s) (Plain op 0) (Plain (dismissed op) 0) (all_marked op) (t, e) (λ m h. fine_same m s) in
        let same : Some (r.0) ≡ Some t = sym r.1 ∙ e in
        let same' : r.0 ≡ t = cc in
        ap (λ z. at z l) (sym same') ∙ r.2.other l n

-- so does what an item does not
pub calm_frame : (setting : Setting) (s : State) (i : Item) (l : Location) → (Writes setting s i l → ⊥) → at (calm setting s i) l ≡ at s l
calm_frame setting s (Plain op cluster) l n = calm_other setting s op l n
calm_frame setting s (Split p y edge d) l n = refl

-- nothing stands past the end
pub inert_reads : (setting : Setting) (s : State) (l : Location) → Reads setting s inert l → ⊥
inert_reads setting s l (inl h) = h.1
inert_reads setting s l (inr h) = h

pub inert_writes : (setting : Setting) (s : State) (l : Location) → Writes setting s inert l → ⊥
inert_writes setting s l (inl h) = h.1
inert_writes setting s l (inr h) = by (cell_in (length (row_of s (setting.spot 0))) None) refl h
  where
    by : (o : Option ℕ) → cell_in (length (row_of s (setting.spot 0))) None ≡ o → IsCell (setting.spot 0) o l → ⊥
    by None e k = k
    by (Some i) e k = none_is e
