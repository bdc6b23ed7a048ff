-- No operation changes the lengths of the arrays, and no word does.
use Rattle.std.proofs.Common.{ℕ, ℤ, Bool, true, false, Option, Some, None, List, [], ◌∷◌, length, slice_index_or, slice_set, refl, sym, ap, ◌∙◌, ⊎_elim, length-set}
use Rattle.std.proofs.lemmas.Bool.{cases_eq, cases_lt}
use Rattle.std.proofs.lemmas.List.{get_or-set_same, get_or-set_other, set_past}
use Rattle.vx_flow.specs.Effects.{Content, State, Setting, held, cell_in, row_of, with_value, with_cell, loaded, stored, next_input, printed, effect}
use Rattle.vx_flow.specs.declared.graph.Op.{Op}
use Rattle.vx_flow.specs.declared.graph.Op.TheVariants.{Load, Store, Input, Text, Decimal}
use Rattle.vx_mixed.specs.declared.region.Item.{Item}
use Rattle.vx_mixed.specs.declared.region.Item.TheVariants.{Plain, Split}
use Rattle.vx_mixed.specs.Meaning.{word_effect, into}
use Rattle.vx_mixed.specs.Agree.{SameShape}
use Rattle.vx_mixed.proofs.Contents.{same_shape}

pub shape_trans : (s t u : State) → SameShape s t → SameShape t u → SameShape s u
shape_trans s t u h k = record { arrays = k.arrays ∙ h.arrays; rows = λ a. k.rows a ∙ h.rows a }

abbrev pub Kept : State → Option State → Type 0
Kept u None = Unit {0}
Kept u (Some t) = SameShape u t

pub value_kept : (u : State) (v : ℕ) (x : Content) → SameShape u (with_value u v x)
value_kept u v x = record { arrays = refl; rows = λ a. refl }

cell_kept : (u : State) (a i : ℕ) (x : Content) → SameShape u (with_cell u a i x)
cell_kept u a i x = record {
  arrays = length-set u.arrays a (slice_set (row_of u a) i x);
  rows = λ b.
      ⊎_elim
      (λ e. ⊎_elim
      (λ lt. ap (λ c. length (row_of (with_cell u a i x) c)) e ∙ ap length (get_or-set_same u.arrays a (slice_set (row_of u a) i x) [] lt) ∙ length-set (row_of u a) i x ∙ ap (λ c. length (row_of u c)) (sym e))
      (λ ge. ap (λ r. length (slice_index_or r b [])) (set_past u.arrays a (slice_set (row_of u a) i x) ge))
      (cases_lt a (length u.arrays)))
      (λ n. ap length (get_or-set_other u.arrays a b (slice_set (row_of u a) i x) [] n))
      (cases_eq b a);
}

pub effect_kept : (setting : Setting) (σ u : State) (op : Op) → Kept u (effect setting σ op u)
effect_kept setting σ u (Load v a p d) = by (cell_in (length (row_of σ (setting.spot a))) (held σ p)) d
  where
    by : (o : Option ℕ) (d : Bool) → Kept u (loaded u v (row_of σ (setting.spot a)) o d)
    by None true = value_kept u v None
    by None false = tt
    by (Some i) d = value_kept u v _
effect_kept setting σ u (Store a p x) = by (cell_in (length (row_of σ (setting.spot a))) (held σ p)) (held σ x)
  where
    by : (o : Option ℕ) (y : Content) → Kept u (stored u (setting.spot a) o y)
    by None y = tt
    by (Some i) None = tt
    by (Some i) (Some n) = cell_kept u (setting.spot a) i (Some n)
effect_kept setting σ u (Input v) = by σ.input
  where
    by : (ns : List ℤ) → Kept u (next_input u v ns)
    by [] = tt
    by (n ∷ ns) = record { arrays = refl; rows = λ a. refl }
effect_kept setting σ u (Text n) = record { arrays = refl; rows = λ a. refl }
effect_kept setting σ u (Decimal x) = by (held σ x)
  where
    by : (y : Content) → Kept u (printed u σ.out y)
    by None = tt
    by (Some n) = record { arrays = refl; rows = λ a. refl }
effect_kept setting σ u op = value_kept u _ _

pub word_kept : (setting : Setting) (σ u : State) (is : List Item) → Kept u (word_effect setting σ is u)
word_kept setting σ u [] = same_shape u
word_kept setting σ u (Plain op cluster ∷ is) = by (effect setting σ op u) (effect_kept setting σ u op) (λ t. word_kept setting σ t is)
  where
    further : (t : State) → SameShape u t → (o : Option State) → Kept t o → Kept u o
    further t k None h = tt
    further t k (Some z) h = shape_trans u t z k h

    by : (o : Option State) → Kept u o → ((t : State) → Kept t (word_effect setting σ is t)) → Kept u (into o (word_effect setting σ is))
    by None k rest = tt
    by (Some t) k rest = further t k (word_effect setting σ is t) (rest t)
word_kept setting σ u (Split p y edge d ∷ is) = word_kept setting σ u is
