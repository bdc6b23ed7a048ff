-- How the nodes where a value is live are found: nodes are marked, first those with a route that reads the value before
-- writing it, then each with a route that does nothing to the value and leads to a marked one.
use Rattle.std.specs.Prelude.{◌≡◌, ◌⊎◌, ◌==◌, ◌<◌, ◌&&◌, ℕ, Bool, true, false, if◌then◌else◌, List, [], ◌∷◌, ◌++◌, Option, Some, None, slice_get, slice_index_or, slice_set}
use Rattle.std.specs.List.{list_any}
use Rattle.vx_flow.specs.declared.routes.Route.{Route}
use Rattle.vx_flow.specs.Effects.{IsIn}
use Rattle.vx_flow.specs.Live.{first_touch, LiveOn}
use Rattle.vx_flow.specs.Rows.{is_marked, row_at}

-- every route begins at one of the first n nodes
abbrev pub BeginWithin : ℕ → List Route → Type 0
BeginWithin n routes = (i : ℕ) (r : Route) → slice_get routes i ≡ Some r → r.from < n

-- each route is listed under the nodes to which it leads
abbrev pub EnteringFound : List Route → List (List ℕ) → Type 0
EnteringFound routes entering = (i c : ℕ) (r : Route) → slice_get routes i ≡ Some r → IsIn c r.to → IsIn i (row_at entering c)

-- each route is listed under the values that it reads first
abbrev pub ReadersFound : List Route → List (List ℕ) → Type 0
ReadersFound routes readers = (i v : ℕ) (r : Route) → slice_get routes i ≡ Some r → first_touch v r.touches ≡ Some true → IsIn i (row_at readers v)

-- the mark beside a value; 0 where there is none yet
abbrev pub mark_at : List ℕ → ℕ → ℕ
mark_at marks v = slice_index_or marks v 0

-- a mark is put beside a value, and those of all others are as they were
pub record MarkPut (value mark : ℕ) (before after : List ℕ) : Type 0 where
  pub there : mark_at after value ≡ mark
  pub elsewhere : (v : ℕ) → (v ≡ value → ⊥) → mark_at after v ≡ mark_at before v

-- a node is marked once, and then pends until the routes that lead to it have been looked at

abbrev pub marked_row : List Bool → ℕ → List Bool
marked_row row node = if is_marked row node then row else slice_set row node true

abbrev pub marked_pending : List Bool → List ℕ → ℕ → List ℕ
marked_pending row pending node = if is_marked row node then pending else pending ++ node ∷ []

abbrev pub is_read : Option Bool → Bool
is_read None = false
is_read (Some reads) = reads

abbrev pub is_untouched : Option Bool → Bool
is_untouched None = true
is_untouched (Some reads) = false

-- the route reads v before writing it
abbrev pub starts : Route → ℕ → Bool
starts r v = is_read (first_touch v r.touches)

-- the route does nothing to v and leads to the node
abbrev pub passes : Route → ℕ → ℕ → Bool
passes r v node = list_any (λ u. u == node) r.to && is_untouched (first_touch v r.touches)

abbrev pub row_started : Option Route → ℕ → List Bool → List Bool
row_started None v row = row
row_started (Some r) v row = if starts r v then marked_row row r.from else row

abbrev pub pending_started : Option Route → ℕ → List Bool → List ℕ → List ℕ
pending_started None v row pending = pending
pending_started (Some r) v row pending = if starts r v then marked_pending row pending r.from else pending

abbrev pub row_passed : Option Route → ℕ → ℕ → List Bool → List Bool
row_passed None v node row = row
row_passed (Some r) v node row = if passes r v node then marked_row row r.from else row

abbrev pub pending_passed : Option Route → ℕ → ℕ → List Bool → List ℕ → List ℕ
pending_passed None v node row pending = pending
pending_passed (Some r) v node row pending = if passes r v node then marked_pending row pending r.from else pending

-- all that is marked is live, and what reads v first is marked, but for the routes that are still to do
pub record Starting (routes : List Route) (v : ℕ) (todo : List ℕ) (row : List Bool) (pending : List ℕ) : Type 0 where
  pub sound : (b : ℕ) → is_marked row b ≡ true → LiveOn routes b v
  pub pends : (b : ℕ) → is_marked row b ≡ true → IsIn b pending
  pub marked : (b : ℕ) → IsIn b pending → is_marked row b ≡ true
  pub started : (i : ℕ) (r : Route) → slice_get routes i ≡ Some r → first_touch v r.touches ≡ Some true → (is_marked row r.from ≡ true) ⊎ IsIn i todo

-- besides, where a route that does nothing to v leads to a marked node, its beginning is marked, but for the nodes that
-- pend, and for the routes to one node that are still to do
pub record Closing (routes : List Route) (v : ℕ) (node : ℕ) (todo : List ℕ) (row : List Bool) (pending : List ℕ) : Type 0 where
  pub sound : (b : ℕ) → is_marked row b ≡ true → LiveOn routes b v
  pub marked : (b : ℕ) → IsIn b pending → is_marked row b ≡ true
  pub node_marked : (i : ℕ) → IsIn i todo → is_marked row node ≡ true
  pub started : (i : ℕ) (r : Route) → slice_get routes i ≡ Some r → first_touch v r.touches ≡ Some true → is_marked row r.from ≡ true
  pub closed : (i c : ℕ) (r : Route) → slice_get routes i ≡ Some r → IsIn c r.to → first_touch v r.touches ≡ None → is_marked row c ≡ true →
      (is_marked row r.from ≡ true) ⊎ (IsIn c pending ⊎ ((c ≡ node) × IsIn i todo))

-- no mark is taken away, what pends goes on pending, and what is marked anew pends
pub record Spreads (row after : List Bool) (pending later : List ℕ) : Type 0 where
  pub keeps : (b : ℕ) → is_marked row b ≡ true → is_marked after b ≡ true
  pub anew : (b : ℕ) → is_marked after b ≡ true → (is_marked row b ≡ true) ⊎ IsIn b later
  pub pends : (b : ℕ) → IsIn b pending → IsIn b later

-- a value is put at the end of the row of each marked node, and the rows of all others are as they were
pub record PutUnder (value : ℕ) (marks : List Bool) (before after : List (List ℕ)) : Type 0 where
  pub marked : (b : ℕ) → is_marked marks b ≡ true → row_at after b ≡ row_at before b ++ value ∷ []
  pub unmarked : (b : ℕ) → is_marked marks b ≡ false → row_at after b ≡ row_at before b

abbrev pub cleared_row : List Bool → ℕ → List Bool
cleared_row row node = if is_marked row node then slice_set row node false else row
