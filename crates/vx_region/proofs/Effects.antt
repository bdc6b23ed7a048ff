-- One operation that reads the same contents in two states.
use Rattle.std.proofs.Common.{◌≡◌, inl, inr, refl, sym, ◌∙◌, ap, subst, Bool, true, false, if◌then◌else◌, nat_eq, ℕ, ℤ, pos, Option, Some, None, List, [], ◌∷◌, ◌++◌, length, map, slice_set, slice_index_or}
use Rattle.std.specs.List.{list_any}
use Rattle.vx_base.specs.Arithmetic.{value_of, one_if}
use Rattle.vx_base.specs.declared.arithmetic.Code.{Code}
use Rattle.vx_flow.specs.declared.graph.Operand.{Operand}
use Rattle.vx_flow.specs.declared.graph.Operand.TheVariants.{Held, Number, Stack}
use Rattle.vx_flow.specs.declared.graph.Op.{Op}
use Rattle.vx_flow.specs.declared.graph.Op.TheVariants.{Compute, Select, Place, Load, Store, More, Input, Text, Decimal, Across, Base, PlaceIn}
use Rattle.vx_flow.specs.declared.trace.TraceOp.{TraceOp}
use Rattle.vx_flow.specs.declared.trace.TraceOp.TheVariants.{Plain, Split}
use Rattle.vx_flow.specs.Effects.{Content, State, Setting, IsIn, held, is_unary, both, computed, chosen, place_of, place_by, row_of, cell_in, cell_of, is_left, text_at, with_value, with_cell, loaded, stored, next_input, printed, state_or, effect, calm_effect, value_in, reads, writes}
use Rattle.vx_flow.specs.Operands.{first_operand, second_operand, with_two, with_value_in}
use Rattle.vx_flow.specs.Agree.{SameWorld}
use Rattle.vx_linear.specs.InOrder.{in_order}
use Rattle.vx_linear.proofs.InOrder.{with_value_kept, with_value_there}
use Rattle.vx_dep.specs.Delays.{reads_of, writes_of}
use Rattle.vx_bug.specs.Clusters.{general_reads, is_across}
use Rattle.vx_bug.specs.Copies.{renamed, renamed_op}
use Rattle.vx_region.proofs.Renamed.{values_renamed}
use Rattle.vx_region.specs.Beside.{SameReads, SameReadsOf, executes, tests}

-- what is written is the same, all else stays
pub record Moved (written : List ℕ) (s s' t t' : State) : Type 0 where
  pub same : (u : ℕ) → list_any (nat_eq u) written ≡ true → t'.values u ≡ t.values u
  pub kept : (u : ℕ) → list_any (nat_eq u) written ≡ false → t.values u ≡ s.values u
  pub kept_there : (u : ℕ) → list_any (nat_eq u) written ≡ false → t'.values u ≡ s'.values u
  pub world : SameWorld t t'

moved_value : (s s' : State) (w : ℕ) (x x' : Content) → SameWorld s s' → x' ≡ x → Moved (w ∷ []) s s' (with_value s w x) (with_value s' w x')
moved_value s s' w x x' world e = record {
  same = λ u h. with_value_there s' w u x' h ∙ e ∙ sym (with_value_there s w u x h);
  kept = λ u h. with_value_kept s w u x h;
  kept_there = λ u h. with_value_kept s' w u x' h;
  world = record { arrays = world.arrays; input = world.input; out = world.out };
}

stays : (s s' : State) → SameWorld s s' → Moved [] s s' s s'
stays s s' world = record { same = λ u h. let e : false ≡ true = h in absurd cc; kept = λ u h. refl; kept_there = λ u h. refl; world = world }

abbrev pub After : (written : List ℕ) → (s s' : State) → Option State → Option State → Type 0
After written s s' None None = Unit {0}
After written s s' None (Some t') = ⊥
After written s s' (Some t) None = ⊥
After written s s' (Some t) (Some t') = Moved written s s' t t'

-- what is chosen

chosen_same : (p a b p' a' b' : Content) → p' ≡ p → a' ≡ a → b' ≡ b → chosen p' a' b' ≡ chosen p a b
chosen_same p a b p' a' b' x y z = ap (λ i. chosen i a' b') x ∙ ap (λ i. chosen p i b') y ∙ ap (λ i. chosen p a i) z

row_same : (s s' : State) (k : ℕ) → SameWorld s s' → row_of s' k ≡ row_of s k
row_same s s' k w = ap (λ r. slice_index_or r k []) w.arrays

cell_same : (setting : Setting) (s s' : State) (a : ℕ) (p p' : Operand) → SameWorld s s' → held s' p' ≡ held s p → cell_of setting s' a p' ≡ cell_of setting s a p
cell_same setting s s' a p p' w e = ap (λ r. cell_in (length r) (held s' p')) (row_same s s' (setting.spot a) w) ∙ ap (λ h. cell_in (length (row_of s (setting.spot a))) h) e

-- loads and stores

loaded_one : (s s' : State) (v : ℕ) (row : List Content) (i : Option ℕ) (d : Bool) → SameWorld s s' → After (v ∷ []) s s' (loaded s v row i d) (loaded s' v row i d)
loaded_one s s' v row None true w = moved_value s s' v None None w refl
loaded_one s s' v row None false w = tt
loaded_one s s' v row (Some i) d w = moved_value s s' v (slice_index_or row i None) (slice_index_or row i None) w refl

loaded_after : (s s' : State) (v : ℕ) (row row' : List Content) (i i' : Option ℕ) (d : Bool) → SameWorld s s' → row' ≡ row → i' ≡ i → After (v ∷ []) s s' (loaded s v row i d) (loaded s' v row' i' d)
loaded_after s s' v row row' i i' d w p q =
    subst (λ r. After (v ∷ []) s s' (loaded s v row i d) (loaded s' v r i' d)) (sym p) (subst (λ j. After (v ∷ []) s s' (loaded s v row i d) (loaded s' v row j d)) (sym q) (loaded_one s s' v row i d w))

loaded_calm : (s s' : State) (v : ℕ) (row : List Content) (i : Option ℕ) → SameWorld s s' → Moved (v ∷ []) s s' (state_or s (loaded s v row i true)) (state_or s' (loaded s' v row i true))
loaded_calm s s' v row None w = moved_value s s' v None None w refl
loaded_calm s s' v row (Some i) w = moved_value s s' v (slice_index_or row i None) (slice_index_or row i None) w refl

loaded_calm_after : (s s' : State) (v : ℕ) (row row' : List Content) (i i' : Option ℕ) → SameWorld s s' → row' ≡ row → i' ≡ i → Moved (v ∷ []) s s' (state_or s (loaded s v row i true)) (state_or s' (loaded s' v row' i' true))
loaded_calm_after s s' v row row' i i' w p q =
    subst (λ r. Moved (v ∷ []) s s' (state_or s (loaded s v row i true)) (state_or s' (loaded s' v r i' true))) (sym p)
    (subst (λ j. Moved (v ∷ []) s s' (state_or s (loaded s v row i true)) (state_or s' (loaded s' v row j true))) (sym q) (loaded_calm s s' v row i w))

cell_written : (s s' : State) (a i : ℕ) (x : Content) → SameWorld s s' → Moved [] s s' (with_cell s a i x) (with_cell s' a i x)
cell_written s s' a i x w = record {
  same = λ u h. let e : false ≡ true = h in absurd cc;
  kept = λ u h. refl;
  kept_there = λ u h. refl;
  world = record { arrays = ap (λ r. slice_set r a (slice_set (slice_index_or r a []) i x)) w.arrays; input = w.input; out = w.out };
}

stored_one : (s s' : State) (a : ℕ) (i : Option ℕ) (x : Content) → SameWorld s s' → After [] s s' (stored s a i x) (stored s' a i x)
stored_one s s' a None x w = tt
stored_one s s' a (Some i) None w = tt
stored_one s s' a (Some i) (Some n) w = cell_written s s' a i (Some n) w

stored_after : (s s' : State) (a : ℕ) (i i' : Option ℕ) (x x' : Content) → SameWorld s s' → i' ≡ i → x' ≡ x → After [] s s' (stored s a i x) (stored s' a i' x')
stored_after s s' a i i' x x' w p q = subst (λ j. After [] s s' (stored s a i x) (stored s' a j x')) (sym p) (subst (λ y. After [] s s' (stored s a i x) (stored s' a i y)) (sym q) (stored_one s s' a i x w))

input_after : (s s' : State) (v : ℕ) (ns : List ℤ) → SameWorld s s' → After (v ∷ []) s s' (next_input s v ns) (next_input s' v ns)
input_after s s' v [] w = tt
input_after s s' v (n ∷ ns) w = let m : Moved (v ∷ []) s s' (with_value s v (Some n)) (with_value s' v (Some n)) = moved_value s s' v (Some n) (Some n) w refl in
    record { same = m.same; kept = m.kept; kept_there = m.kept_there; world = record { arrays = w.arrays; input = refl; out = w.out } }

input_calm : (s s' : State) (v : ℕ) (ns : List ℤ) → SameWorld s s' → Moved (v ∷ []) s s' (state_or (with_value s v None) (next_input s v ns)) (state_or (with_value s' v None) (next_input s' v ns))
input_calm s s' v [] w = moved_value s s' v None None w refl
input_calm s s' v (n ∷ ns) w = input_after s s' v (n ∷ ns) w

printed_one : (s s' : State) (out : List ℕ) (x : Content) → SameWorld s s' → After [] s s' (printed s out x) (printed s' out x)
printed_one s s' out None w = tt
printed_one s s' out (Some n) w = record { same = λ u h. let e : false ≡ true = h in absurd cc; kept = λ u h. refl; kept_there = λ u h. refl; world = record { arrays = w.arrays; input = w.input; out = refl } }

printed_after : (s s' : State) (x x' : Content) → SameWorld s s' → x' ≡ x → After [] s s' (printed s s.out x) (printed s' s'.out x')
printed_after s s' x x' w q = subst (λ o. After [] s s' (printed s s.out x) (printed s' o x')) (sym w.out) (subst (λ y. After [] s s' (printed s s.out x) (printed s' s.out y)) (sym q) (printed_one s s' s.out x w))

-- in calm order only a store and a printing come to nothing
calm_or : (s s' : State) (o o' : Option State) → SameWorld s s' → After [] s s' o o' → Moved [] s s' (state_or s o) (state_or s' o')
calm_or s s' None None w m = stays s s' w
calm_or s s' None (Some t') w m = absurd m
calm_or s s' (Some t) None w m = absurd m
calm_or s s' (Some t) (Some t') w m = m

-- what is read, from what both states hold

one_held : (s s' : State) (to : ℕ → ℕ) (x : Operand) → map s'.values (value_in (with_value_in to x)) ≡ map s.values (value_in x) → held s' (with_value_in to x) ≡ held s x
one_held s s' to (Held v) e = let f : s'.values (to v) ∷ [] ≡ s.values v ∷ [] = e in cc
one_held s s' to (Number n) e = refl
one_held s s' to Stack e = refl

two_held : (s s' : State) (to : ℕ → ℕ) (a b : Operand) → map s'.values (value_in (with_value_in to a) ++ value_in (with_value_in to b)) ≡ map s.values (value_in a ++ value_in b) →
    (held s' (with_value_in to a) ≡ held s a) × (held s' (with_value_in to b) ≡ held s b)
two_held s s' to (Held v) b e =
    let f : s'.values (to v) ∷ map s'.values (value_in (with_value_in to b)) ≡ s.values v ∷ map s.values (value_in b) = e in
    let first : s'.values (to v) ≡ s.values v = cc in
    let others : map s'.values (value_in (with_value_in to b)) ≡ map s.values (value_in b) = cc in
    (first, one_held s s' to b others)
two_held s s' to (Number n) b e = (refl, one_held s s' to b e)
two_held s s' to Stack b e = (refl, one_held s s' to b e)

computed_held : (code : Code) (s s' : State) (to : ℕ → ℕ) (a b : Operand) →
    map s'.values (if is_unary code then value_in (with_value_in to a) else value_in (with_value_in to a) ++ value_in (if is_unary code then b else with_value_in to b)) ≡ map s.values (if is_unary code then value_in a else value_in a ++ value_in b) →
    computed code (held s' (with_value_in to a)) (held s' (if is_unary code then b else with_value_in to b)) ≡ computed code (held s a) (held s b)
computed_held code s s' to a b = by (is_unary code)
  where
    by : (u : Bool) → map s'.values (if u then value_in (with_value_in to a) else value_in (with_value_in to a) ++ value_in (if u then b else with_value_in to b)) ≡ map s.values (if u then value_in a else value_in a ++ value_in b) →
        (if u then held s' (with_value_in to a) else both (value_of code) (held s' (with_value_in to a)) (held s' (if u then b else with_value_in to b))) ≡ (if u then held s a else both (value_of code) (held s a) (held s b))
    by true e = one_held s s' to a e
    by false e =
        let p = two_held s s' to a b e in
        ap (λ z. both (value_of code) z (held s' (with_value_in to b))) p.0 ∙ ap (λ z. both (value_of code) (held s a) z) p.1

-- all operations

abbrev Contents : (s s' : State) → (to : ℕ → ℕ) → Op → Type 0
Contents s s' to op = map s'.values (reads (renamed to op)) ≡ map s.values (reads op)

renamed_effects : (setting : Setting) (s s' : State) (to : ℕ → ℕ) (op : Op) → Contents s s' to op → SameWorld s s' → After (writes op) s s' (effect setting s op s) (effect setting s' (renamed to op) s')
renamed_effects setting s s' to (Compute code v a b) e w =
    moved_value s s' v (computed code (held s a) (held s b)) (computed code (held s' (with_value_in to a)) (held s' (if is_unary code then b else with_value_in to b))) w (computed_held code s s' to a b e)
renamed_effects setting s s' to (Select v p a b) e w =
    let f : s'.values p ∷ map s'.values (value_in (with_value_in to a) ++ value_in (with_value_in to b)) ≡ s.values p ∷ map s.values (value_in a ++ value_in b) = e in
    let test : s'.values p ≡ s.values p = cc in
    let others : map s'.values (value_in (with_value_in to a) ++ value_in (with_value_in to b)) ≡ map s.values (value_in a ++ value_in b) = cc in
    let held_both = two_held s s' to a b others in
    moved_value s s' v (chosen (s.values p) (held s a) (held s b)) (chosen (s'.values p) (held s' (with_value_in to a)) (held s' (with_value_in to b))) w
    (chosen_same (s.values p) (held s a) (held s b) (s'.values p) (held s' (with_value_in to a)) (held s' (with_value_in to b)) test held_both.0 held_both.1)
renamed_effects setting s s' to (Place v a i) e w = moved_value s s' v (place_of (held s i)) (place_of (held s' (with_value_in to i))) w (ap place_of (one_held s s' to i e))
renamed_effects setting s s' to (Load v a p dismissible) e w =
    loaded_after s s' v (row_of s (setting.spot a)) (row_of s' (setting.spot a)) (cell_of setting s a p) (cell_of setting s' a (with_value_in to p)) dismissible w (row_same s s' (setting.spot a) w) (cell_same setting s s' a p (with_value_in to p) w (one_held s s' to p e))
renamed_effects setting s s' to (Store a p x) e w =
    let held_both = two_held s s' to p x e in
    stored_after s s' (setting.spot a) (cell_of setting s a p) (cell_of setting s' a (with_value_in to p)) (held s x) (held s' (with_value_in to x)) w (cell_same setting s s' a p (with_value_in to p) w held_both.0) held_both.1
renamed_effects setting s s' to (More v) e w = moved_value s s' v (Some (one_if (is_left s.input))) (Some (one_if (is_left s'.input))) w (ap (λ ns. Some (one_if (is_left ns))) w.input)
renamed_effects setting s s' to (Input v) e w = subst (λ ns. After (v ∷ []) s s' (next_input s v s.input) (next_input s' v ns)) (sym w.input) (input_after s s' v s.input w)
renamed_effects setting s s' to (Text n) e w = record { same = λ u h. let f : false ≡ true = h in absurd cc; kept = λ u h. refl; kept_there = λ u h. refl; world = record { arrays = w.arrays; input = w.input; out = ap (λ o. o ++ text_at setting n) w.out } }
renamed_effects setting s s' to (Decimal x) e w = printed_after s s' (held s x) (held s' (with_value_in to x)) w (one_held s s' to x e)
renamed_effects setting s s' to (Across v u) e w = let f : s'.values u ∷ [] ≡ s.values u ∷ [] = e in let same : s'.values u ≡ s.values u = cc in moved_value s s' v (s.values u) (s'.values u) w same
renamed_effects setting s s' to (Base v a x) e w = moved_value s s' v (Some (pos (setting.spot a))) (Some (pos (setting.spot a))) w refl
renamed_effects setting s s' to (PlaceIn v a u i) e w =
    let p = two_held s s' to i (Held u) e in
    moved_value s s' v (place_by (s.values u) (held s i)) (place_by (s'.values (to u)) (held s' (with_value_in to i))) w
    (ap (λ z. place_by z (held s' (with_value_in to i))) p.1 ∙ ap (λ z. place_by (s.values u) z) p.0)

renamed_calm : (setting : Setting) (s s' : State) (to : ℕ → ℕ) (op : Op) → Contents s s' to op → SameWorld s s' → Moved (writes op) s s' (calm_effect setting s op s) (calm_effect setting s' (renamed to op) s')
renamed_calm setting s s' to (Load v a p dismissible) e w =
    loaded_calm_after s s' v (row_of s (setting.spot a)) (row_of s' (setting.spot a)) (cell_of setting s a p) (cell_of setting s' a (with_value_in to p)) w (row_same s s' (setting.spot a) w) (cell_same setting s s' a p (with_value_in to p) w (one_held s s' to p e))
renamed_calm setting s s' to (Store a p x) e w = calm_or s s' (effect setting s (Store a p x) s) (effect setting s' (renamed to (Store a p x)) s') w (renamed_effects setting s s' to (Store a p x) e w)
renamed_calm setting s s' to (Input v) e w = subst (λ ns. Moved (v ∷ []) s s' (state_or (with_value s v None) (next_input s v s.input)) (state_or (with_value s' v None) (next_input s' v ns))) (sym w.input) (input_calm s s' v s.input w)
renamed_calm setting s s' to (Decimal x) e w = calm_or s s' (effect setting s (Decimal x) s) (effect setting s' (renamed to (Decimal x)) s') w (renamed_effects setting s s' to (Decimal x) e w)
renamed_calm setting s s' to op e w = renamed_effects setting s s' to op e w

contents_of : (s s' : State) (op op' : Op) (r : SameReads s s' op op') → Contents s s' r.to op
contents_of s s' op op' r = ap (λ o. map s'.values (reads o)) (sym r.is) ∙ r.contents

pub effects : (setting : Setting) (s s' : State) (op op' : Op) → SameReads s s' op op' → SameWorld s s' → After (writes op) s s' (effect setting s op s) (effect setting s' op' s')
effects setting s s' op op' r w = subst (λ o. After (writes op) s s' (effect setting s op s) (effect setting s' o s')) (sym r.is) (renamed_effects setting s s' r.to op (contents_of s s' op op' r) w)

pub calm_effects : (setting : Setting) (s s' : State) (op op' : Op) → SameReads s s' op op' → SameWorld s s' → Moved (writes op) s s' (calm_effect setting s op s) (calm_effect setting s' op' s')
calm_effects setting s s' op op' r w = subst (λ o. Moved (writes op) s s' (calm_effect setting s op s) (calm_effect setting s' o s')) (sym r.is) (renamed_calm setting s s' r.to op (contents_of s s' op op' r) w)

pub in_orders : (setting : Setting) (s s' : State) (op op' : TraceOp) → SameReadsOf s s' op op' → SameWorld s s' → Moved (writes_of op) s s' (in_order setting s op) (in_order setting s' op')
in_orders setting s s' one other (executes {op} {op'} r) w = calm_effects setting s s' op op' r w
in_orders setting s s' one other (tests {op} {op'} {p} {y} {edge} {live} r e e') w =
    subst (λ o. Moved (writes_of o) s s' (in_order setting s o) (in_order setting s' op')) (sym e) (subst (λ o. Moved [] s s' s (in_order setting s' o)) (sym e') (stays s s' w))

-- an operation, and the one with other operands, read the same where their operands hold the same

abbrev Same : (s s' : State) → (to : ℕ → ℕ) → List ℕ → Type 0
Same s s' to vs = (v : ℕ) → IsIn v vs → s'.values (to v) ≡ s.values v

all_same : (s s' : State) (to : ℕ → ℕ) (vs : List ℕ) → Same s s' to vs → map s'.values (map to vs) ≡ map s.values vs
all_same s s' to [] h = refl
all_same s s' to (v ∷ vs) h = ap (λ c. c ∷ map s'.values (map to vs)) (h v (inl refl)) ∙ ap (λ cs. s.values v ∷ cs) (all_same s s' to vs (λ u i. h u (inr i)))

general_same : (s s' : State) (to : ℕ → ℕ) (op : TraceOp) → is_across op ≡ false → Same s s' to (general_reads op) → map s'.values (general_reads (renamed_op to op)) ≡ map s.values (general_reads op)
general_same s s' to op n h = ap (map s'.values) (values_renamed to op n) ∙ all_same s s' to (general_reads op) h

same_contents : (s s' : State) (to : ℕ → ℕ) (op : Op) → Same s s' to (general_reads (Plain op)) → Same s s' (λ v. v) (reads op) → Contents s s' to op
same_contents s s' to (Select v p a b) h g =
    ap (λ c. c ∷ map s'.values (value_in (with_value_in to a) ++ value_in (with_value_in to b))) (g p (inl refl)) ∙ ap (λ cs. s.values p ∷ cs) (general_same s s' to (Plain (Select v p a b)) refl h)
same_contents s s' to (Across v u) h g = ap (λ c. c ∷ []) (g u (inl refl))
same_contents s s' to op h g = general_same s s' to (Plain op) refl h

pub renamed_reads : (s s' : State) (to : ℕ → ℕ) (op : TraceOp) → Same s s' to (general_reads op) → Same s s' (λ v. v) (reads_of op) → SameReadsOf s s' op (renamed_op to op)
renamed_reads s s' to (Plain op) h g = executes (record { to = to; is = refl; contents = same_contents s s' to op h g })
renamed_reads s s' to (Split p y edge live) h g = tests (g p (inl refl)) refl refl

-- the operation itself

itself : (x : Operand) → with_value_in (λ v. v) x ≡ x
itself (Held v) = refl
itself (Number n) = refl
itself Stack = refl

right_itself : (u : Bool) (x : Operand) → (if u then x else with_value_in (λ v. v) x) ≡ x
right_itself true x = refl
right_itself false x = itself x

op_itself : (op : Op) → op ≡ renamed (λ v. v) op
op_itself (Compute code v a b) = sym (ap (λ x. Compute code v x (if is_unary code then b else with_value_in (λ w. w) b)) (itself a) ∙ ap (λ x. Compute code v a x) (right_itself (is_unary code) b))
op_itself (PlaceIn v a u i) = sym (ap (λ x. PlaceIn v a u x) (itself i))
op_itself op = sym (ap (λ x. with_two op x (with_value_in (λ v. v) (second_operand op))) (itself (first_operand op)) ∙ ap (λ x. with_two op (first_operand op) x) (itself (second_operand op)))

same_values : (s s' : State) (vs : List ℕ) → Same s s' (λ v. v) vs → map s'.values vs ≡ map s.values vs
same_values s s' [] h = refl
same_values s s' (v ∷ vs) h = ap (λ c. c ∷ map s'.values vs) (h v (inl refl)) ∙ ap (λ cs. s.values v ∷ cs) (same_values s s' vs (λ u i. h u (inr i)))

pub same_reads : (s s' : State) (op : TraceOp) → Same s s' (λ v. v) (reads_of op) → SameReadsOf s s' op op
same_reads s s' (Plain op) g = executes (record { to = λ v. v; is = op_itself op; contents = same_values s s' (reads op) g })
same_reads s s' (Split p y edge live) g = tests (g p (inl refl)) refl refl
