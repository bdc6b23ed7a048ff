-- Rows of words: empty rows change nothing, and an item is put behind one row.
use Rattle.std.proofs.Common.{◌≡◌, ℕ, zero, suc, ◌<◌, ◌≤◌, ◌⊎◌, inl, inr, ◌+◌, Bool, true, false, Option, Some, None, List, [], ◌∷◌, ◌++◌, length, get_or, slice_get, slice_index_or, slice_set, sym, ◌∙◌, refl, ap, subst, arith}
use Rattle.std.proofs.lemmas.Bool.{cases_eq}
use Rattle.std.proofs.lemmas.List.{get_or-set_same, get_or-set_other, get_or_past}
use Rattle.std.proofs.lemmas.Option.{slice_get-get_or}
use Rattle.vx_flow.specs.declared.trace.Clustered.{Clustered}
use Rattle.vx_flow.specs.declared.trace.Homes.{Homes}
use Rattle.vx_flow.specs.declared.trace.TraceOp.{TraceOp}
use Rattle.vx_isa.specs.Numbers.{Numbers}
use Rattle.vx_room.specs.declared.items.ClusteredItem.{ClusteredItem}
use Rattle.vx_room.specs.declared.items.Item.{Item}
use Rattle.vx_room.specs.Items.{item_of}
use Rattle.vx_room.specs.Room.{has_room}
use Rattle.vx_sched.specs.Placement.{item_there}
use Rattle.vx_sched.specs.Filling.{word_in, AreWithout, row_of, IsFirstWith, Puts, IsItem}

pub empty_row : (rows : List (List ClusteredItem)) (v : ℕ) → row_of (rows ++ [] ∷ []) v ≡ row_of rows v
empty_row [] zero = refl
empty_row [] (suc v) = refl
empty_row (row ∷ rows) zero = refl
empty_row (row ∷ rows) (suc v) = empty_row rows v

-- the words from the ready one up to this one have no room
pub record NoneUpTo (m : Numbers) (homes : Homes) (rows : List (List ClusteredItem)) (item : ClusteredItem) (ready w : ℕ) : Type 0 where
  pub from : ready ≤ w
  pub tight : (v : ℕ) → ready ≤ v → v < w → has_room m homes (row_of rows v ++ item ∷ []) ≡ false

module _ (m : Numbers) (homes : Homes) (rows : List (List ClusteredItem)) (item : ClusteredItem) (ready : ℕ) where
  pub none_up_to : NoneUpTo m homes rows item ready ready
  none_up_to = record { from = omega arith; tight = λ v l u. absurd (omega (arith, l, u)) }

  pub one_more : (w : ℕ) (fits : Bool) → NoneUpTo m homes rows item ready w → fits ≡ has_room m homes (row_of rows w ++ item ∷ []) → fits ≡ false → NoneUpTo m homes rows item ready (w + 1)
  one_more w fits so is e = record { from = let l = so.from in omega (arith, l); tight = λ v l u. by v l (cases_eq v w) u }
    where
      by : (v : ℕ) → ready ≤ v → (v ≡ w) ⊎ (v ≡ w → ⊥) → v < w + 1 → has_room m homes (row_of rows v ++ item ∷ []) ≡ false
      by v l (inl same) u = subst (λ x. has_room m homes (row_of rows x ++ item ∷ []) ≡ false) (sym same) (sym is ∙ e)
      by v l (inr other) u = so.tight v l (omega (arith, u, other))

  pub found : (w : ℕ) (fits : Bool) → NoneUpTo m homes rows item ready w → fits ≡ has_room m homes (row_of rows w ++ item ∷ []) → fits ≡ true → IsFirstWith m homes rows item ready w
  found w fits so is e = record { from = so.from; room = sym is ∙ e; tight = so.tight }

  pub past_all : (w : ℕ) → NoneUpTo m homes rows item ready w → length rows ≤ w → has_room m homes (item ∷ []) ≡ true → IsFirstWith m homes rows item ready w
  past_all w so past alone = record { from = so.from; room = subst (λ row. has_room m homes (row ++ item ∷ []) ≡ true) (sym (get_or_past rows w [] past)) alone; tight = so.tight }

pub puts : (rows reached : List (List ClusteredItem)) (w : ℕ) (item : ClusteredItem) → w < length reached → ((v : ℕ) → row_of reached v ≡ row_of rows v) → Puts rows (slice_set reached w (row_of reached w ++ item ∷ [])) w item
puts rows reached w item inside same = record {
  here = get_or-set_same reached w (row_of reached w ++ item ∷ []) [] inside ∙ ap (λ row. row ++ item ∷ []) (same w);
  elsewhere = λ v other. get_or-set_other reached w v (row_of reached w ++ item ∷ []) [] other ∙ same v;
}

-- what is read of two lists is the item at a place
pub item_there_is : (c : Clustered) (clusters : List ℕ) (ops : List TraceOp) (place : ℕ) (op : TraceOp) (item : Item) → place < length c.trace.ops → clusters ≡ c.clusters → ops ≡ c.trace.ops → op ≡ get_or ops place op → item ≡ item_of op → IsItem c place (record { cluster = get_or clusters place 0; item = item })
item_there_is c clusters ops place op item inside e f g h =
    let there : slice_get c.trace.ops place ≡ Some op = slice_get-get_or c.trace.ops place op inside ∙ ap (λ os. Some (get_or os place op)) (sym f) ∙ ap Some (sym g) in
    let here : item_there (slice_index_or c.clusters place 0) (slice_get c.trace.ops place) ≡ item_there (slice_index_or c.clusters place 0) (Some op) = ap (item_there (slice_index_or c.clusters place 0)) there in
    let read : item_there (slice_index_or c.clusters place 0) (Some op) ≡ record { cluster = get_or clusters place 0; item = item_of op } ∷ [] = ap (λ ks. record { cluster = get_or ks place 0; item = item_of op } ∷ []) (sym e) in
    here ∙ read ∙ ap (λ i. record { cluster = get_or clusters place 0; item = i } ∷ []) (sym h)

-- as many words without a value, and one more
pub one_more_without : (words others : List (Option ℕ)) → AreWithout (length words) words → others ≡ words ++ None ∷ [] → AreWithout (length others) others
one_more_without words others so e = record { each = refl; without = λ i. ap (λ ws. word_in ws i) e ∙ none_behind words i ∙ so.without i }
  where
    none_behind : (words : List (Option ℕ)) (i : ℕ) → word_in (words ++ None ∷ []) i ≡ word_in words i
    none_behind [] zero = refl
    none_behind [] (suc i) = refl
    none_behind (w ∷ ws) zero = refl
    none_behind (w ∷ ws) (suc i) = none_behind ws i
