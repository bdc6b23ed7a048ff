-- What is kept of the operations of a trace that stand above a place.
use Rattle.std.specs.Prelude.{◌≡◌, ◌≤◌, ℕ, Bool, false, nat_lt, nat_eq, Option, Some, None, List, [], ◌∷◌, ◌++◌, drop, length, is_some, slice_get}
use Rattle.std.specs.List.{list_any}
use Rattle.std.specs.Map.{lookup}
use Rattle.vx_flow.specs.declared.trace.Join.{Join}
use Rattle.vx_flow.specs.declared.trace.Trace.{Trace}
use Rattle.vx_flow.specs.declared.trace.TraceOp.{TraceOp}
use Rattle.vx_linear.specs.declared.form.Form.{Form}
use Rattle.vx_linear.specs.declared.linear.Linear.{Linear}
use Rattle.vx_linear.specs.declared.known_values.Known.{Known}
use Rattle.vx_linear.specs.declared.passed.Passed.{Passed}
use Rattle.vx_linear.specs.Followed.{forms_from, forms_of}
use Rattle.vx_linear.specs.Writers.{writer, has_join, made_at, index_there}

-- the value that is written, if one is
abbrev pub is_target : ℕ → Option ℕ → Bool
is_target v None = false
is_target v (Some w) = list_any (nat_eq v) (w ∷ [])

-- the numbers that have an entry are the places of the joins
abbrev pub JoinsAre : List Join → List (ℕ × ℕ) → Type 0
JoinsAre joins entries = (p : ℕ) → is_some (lookup (nat_eq p) entries) ≡ list_any (λ j. nat_eq j.place p) joins

-- what each operation above place i makes, and the index of the place that it makes; where each value was written last;
-- and where the last join stands, 0 where none does
pub record Passes (t : Trace) (i : ℕ) (p : Passed) : Type 0 where
  pub made : (j : ℕ) (k : Known) → slice_get p.knowns j ≡ Some k → k ≡ made_at t j
  pub indices : (j : ℕ) (a : Linear) → slice_get p.indices j ≡ Some a → a ≡ index_there t j (slice_get t.ops j)
  pub all_made : length p.knowns ≡ i
  pub all_indices : length p.indices ≡ i
  pub writers : (v : ℕ) → lookup (nat_eq v) p.writers.entries.entries ≡ writer t.ops i v
  pub join : (j : ℕ) → j ≤ i → has_join t.joins j i ≡ nat_lt j p.join

-- so many operations are followed: what is kept of them, their forms, and the operations behind them
pub record IsFollowed (t : Trace) (p : Passed) (found : List (Option Form)) (left : List TraceOp) : Type 0 where
  pub passed : Passes t (length found) p
  pub forms : found ++ forms_from t (length found) left ≡ forms_of t
  pub rest : drop (length found) t.ops ≡ left
