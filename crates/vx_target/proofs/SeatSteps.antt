-- Steps of a run keep rows seated.
use Rattle.std.proofs.Common.{◌≡◌, ◌<◌, ◌≤◌, ◌⊎◌, inl, inr, ◌+◌, ◌-◌, ◌*◌, ℕ, zero, suc, ℤ, Option, Some, None, List, [], ◌∷◌, ◌++◌, length, length-append, map, take, replicate, refl, sym, ap, ◌∙◌, subst, arith}
use Rattle.std.specs.Prelude.{slice_get, slice_index_or}
use Rattle.std.proofs.lemmas.List.{length-replicate, length-take-le, get_or_append_left, get_or-append-add, get_or-take}
use Rattle.vx_flow.specs.declared.graph.Array.{Array}
use Rattle.vx_flow.specs.declared.graph.Global.{Global}
use Rattle.vx_flow.specs.declared.graph.Flow.{Flow}
use Rattle.vx_flow.specs.Effects.{Content, IsIn}
use Rattle.vx_flow.specs.Meaning.{undefined, own_of}
use Rattle.vx_isa.specs.declared.program.WordProgram.{WordProgram}
use Rattle.vx_isa.specs.Machine.{stored}
use Rattle.vx_mixed.specs.declared.layout.VWords.{VWords}
use Rattle.vx_target.specs.Target.{Target}
use Rattle.vx_target.specs.Tied.{IsFunction, Stacked, WasPassed, HasCell, IsStack, Sized, Seated, seat, own_arrays, row_in, word_at}
use Rattle.vx_target.specs.Frames.{IsSaved}
use Rattle.vx_target.specs.Carried.{Carries}
use Rattle.vx_target.specs.Seats.{HasFrames}
use Rattle.vx_target.proofs.Cells.{SameShape, row_there, set_cell, set_shape, store_known}
use Rattle.vx_target.proofs.Frames.{get_below}
use Rattle.vx_target.proofs.Owned.{own_count, own_row}
use Rattle.vx_target.proofs.SeatRoom.{own_or_before, seat_before, globals_first, own_low}

-- rows as long as others are sized as they are

pub sized_as : (T : Target) (globals : List Global) (stack : List Stacked) (rows rows' : List (List Content)) → SameShape rows rows' → Sized T globals stack rows → Sized T globals stack rows'
sized_as T globals stack rows rows' shape s = record { global = λ k x e. shape.each k ∙ s.global k x e; own = λ x j a array i own has. shape.each (x.base + j) ∙ s.own x j a array i own has }

-- what changes no word of a row keeps rows seated
pub seated_on : (T : Target) (globals : List Global) (stack : List Stacked) (rows : List (List Content)) (memory memory' : ℕ → ℤ) → ((k i : ℕ) → HasCell rows k i → word_at memory' (seat T globals stack k + i) ≡ word_at memory (seat T globals stack k + i)) → Seated T globals stack rows memory → Seated T globals stack rows memory'
seated_on T globals stack rows memory memory' same s = record { sized = s.sized; known = λ k i n has e. same k i has ∙ s.known k i n has e }

-- rows of what is entered

-- nothing is known of a row that is entered
undefined_unknown : (words : List ℕ) (k i : ℕ) (n : ℤ) → slice_index_or (row_in (map undefined words) k) i None ≡ Some n → ⊥
undefined_unknown [] k i n e = absurd (cc)
undefined_unknown (w ∷ ws) zero i n e = none w i e
  where
    none : (w i : ℕ) → slice_index_or (replicate w None) i None ≡ Some n → ⊥
    none zero i e = absurd (cc)
    none (suc w) zero e = absurd (cc)
    none (suc w) (suc i) e = none w i e
undefined_unknown (w ∷ ws) (suc k) i n e = undefined_unknown ws k i n e

pub row_left : (xs ys : List (List Content)) (k : ℕ) → k < length xs → row_in (xs ++ ys) k ≡ row_in xs k
row_left xs ys k lt = get_or_append_left xs ys [] k lt

pub row_right : (xs ys : List (List Content)) (k : ℕ) → row_in (xs ++ ys) (length xs + k) ≡ row_in ys k
row_right xs ys k = get_or-append-add xs ys k []

-- a store to word i of row k at the row's seat keeps rows seated
pub seated_store : (T : Target) (globals : List Global) (stack : List Stacked) (rows : List (List Content)) (memory : ℕ → ℤ) (k i : ℕ) (n : ℤ) → HasCell rows k i →
    ((l j : ℕ) → HasCell rows l j → seat T globals stack l + j ≡ seat T globals stack k + i → (l ≡ k) × (j ≡ i)) → Seated T globals stack rows memory → Seated T globals stack (set_cell rows k i (Some n)) (stored memory (4 * (seat T globals stack k + i)) n)
seated_store T globals stack rows memory k i n has apart s = record {
  sized = sized_as T globals stack rows (set_cell rows k i (Some n)) (set_shape rows k i (Some n) has) s.sized;
  known = λ l j z there e.
      (let q = (set_shape rows k i (Some n) has).each l in
      store_known rows rows (λ y. seat T globals stack y) memory k i n (record { count = refl; each = λ y. refl }) has apart s.known l j z (omega arith) e);
}

module _ (T : Target) (flow : Flow) (ls : List VWords) where
  abbrev Globals : ℕ
  Globals = length flow.globals

  -- a function is entered: its own arrays are the rows behind those that were there

  abbrev pub New : (g : ℕ) → List (List Content)
  New g = map undefined (own_of Globals (T.graph g))

  abbrev pub Entered : (g from : ℕ) → (passed : List (Option ℕ)) → List (List Content) → Stacked
  Entered g from passed rows = record { function = g; frame = from; passed = passed; base = length rows }

  pub entered_stack : (stack : List Stacked) (from : ℕ) (rows : List (List Content)) (g : ℕ) (passed : List (Option ℕ)) → IsFunction T flow ls g → WasPassed T Globals (Entered g from passed rows) → IsStack T flow ls (from + T.frame) (length rows) stack → IsStack T flow ls from (length (rows ++ New g)) (Entered g from passed rows ∷ stack)
  entered_stack stack from rows g passed is was stacked = (is, refl, (let a = length-append rows (New g) in let b = own_count T Globals g in omega arith), was, stacked)

  pub entered_seated : (stack : List Stacked) (from : ℕ) (rows : List (List Content)) (memory : ℕ → ℤ) (g frame : ℕ) (passed : List (Option ℕ)) → IsStack T flow ls from (length rows) stack → Seated T flow.globals stack rows memory →
      Seated T flow.globals (Entered g frame passed rows ∷ stack) (rows ++ New g) memory
  entered_seated stack from rows memory g frame passed stacked s = record {
    sized = record { global = sized_global; own = sized_own };
    known = λ k i n has e. by k i n has e (own_or_before (length rows) k);
  }
    where
      sized_global : (k : ℕ) (x : Global) → slice_get flow.globals k ≡ Some x → length (row_in (rows ++ New g) k) ≡ x.words
      sized_global k x e = ap length (row_left rows (New g) k (let b = get_below flow.globals k x e in let f = globals_first T flow ls stack from (length rows) stacked in omega arith)) ∙ s.sized.global k x e

      sized_own : (x : Stacked) (j a : ℕ) (array : Array) → IsIn x (Entered g frame passed rows ∷ stack) → slice_get (own_arrays T Globals x.function) j ≡ Some a → slice_get (T.graph x.function).arrays a ≡ Some array → length (row_in (rows ++ New g) (x.base + j)) ≡ array.words
      sized_own x j a array (inl q) own has = subst (λ (y : Stacked). slice_get (own_arrays T Globals y.function) j ≡ Some a → slice_get (T.graph y.function).arrays a ≡ Some array → length (row_in (rows ++ New g) (y.base + j)) ≡ array.words) (sym q) here own has
        where
          here : slice_get (own_arrays T Globals g) j ≡ Some a → slice_get (T.graph g).arrays a ≡ Some array → length (row_in (rows ++ New g) (length rows + j)) ≡ array.words
          here o h = ap length (row_right rows (New g) j ∙ own_row T Globals g j a array o h) ∙ length-replicate array.words None
      sized_own x j a array (inr i) own has = ap length (row_left rows (New g) (x.base + j) (own_low T flow ls stack from (length rows) stacked x i j a own)) ∙ s.sized.own x j a array i own has

      by : (k i : ℕ) (n : ℤ) → HasCell (rows ++ New g) k i → slice_index_or (row_in (rows ++ New g) k) i None ≡ Some n → (length rows ≤ k) ⊎ (k < length rows) → word_at memory (seat T flow.globals (Entered g frame passed rows ∷ stack) k + i) ≡ n
      by k i n has e (inl le) =
          let q : length rows + (k - length rows) ≡ k = omega arith in
          absurd (undefined_unknown (own_of Globals (T.graph g)) (k - length rows) i n (ap (λ r. slice_index_or r i None) (sym (row_right rows (New g) (k - length rows)) ∙ ap (row_in (rows ++ New g)) q) ∙ e))
      by k i n has e (inr lt) =
          let q = row_left rows (New g) k lt in
          ap (λ y. word_at memory (y + i)) (seat_before T flow.globals (Entered g frame passed rows) stack k lt) ∙ s.known k i n (subst (λ (r : List Content). i < length r) q has) (ap (λ r. slice_index_or r i None) (sym q) ∙ e)

  -- it returns, and its rows go

  module _ (x : Stacked) (stack : List Stacked) (from : ℕ) (rows : List (List Content)) (stacked : IsStack T flow ls from (length rows) (x ∷ stack)) where
    pub returned_count : length (take x.base rows) ≡ x.base
    returned_count = length-take-le x.base rows (let l = stacked.2 in omega arith)

    pub returned_stack : IsStack T flow ls (from + T.frame) (length (take x.base rows)) stack
    returned_stack = subst (λ c. IsStack T flow ls (from + T.frame) c stack) (sym returned_count) stacked.4

    pub returned_seated : (memory : ℕ → ℤ) → Seated T flow.globals (x ∷ stack) rows memory → Seated T flow.globals stack (take x.base rows) memory
    returned_seated memory s = record {
      sized = record {
        global = λ k y e. ap length (same k (let b = get_below flow.globals k y e in let f = globals_first T flow ls stack (from + T.frame) x.base stacked.4 in omega arith)) ∙ s.sized.global k y e;
        own = λ y j a array i own has. ap length (same (y.base + j) (own_low T flow ls stack (from + T.frame) x.base stacked.4 y i j a own)) ∙ s.sized.own y j a array (inr i) own has;
      };
      known = λ k i n has e.
          (let low : k < x.base = (let t = row_there (take x.base rows) k i has in let c = returned_count in omega arith) in
          let q = same k low in
          ap (λ z. word_at memory (z + i)) (sym (seat_before T flow.globals x stack k low)) ∙ s.known k i n (subst (λ (r : List Content). i < length r) q has) (ap (λ r. slice_index_or r i None) (sym q) ∙ e));
    }
      where
        same : (k : ℕ) → k < x.base → row_in (take x.base rows) k ≡ row_in rows k
        same k lt = get_or-take x.base rows k [] lt

-- what carries a program has its frames
pub frames_of : (T : Target) (flow : Flow) (ls : List VWords) (w : WordProgram) → Carries T flow ls w → HasFrames T flow ls
frames_of T flow ls w carries = record { some = carries.some_frame; globals = carries.globals; each = λ f is. (carries.functions f (get_below flow.functions f (T.graph f) is.graph)).framed }

pub saved_of : (T : Target) (flow : Flow) (ls : List VWords) (w : WordProgram) → Carries T flow ls w → (f : ℕ) → IsFunction T flow ls f → IsSaved T f
saved_of T flow ls w carries f is = (carries.functions f (get_below flow.functions f (T.graph f) is.graph)).saved
