-- Two operations that do not touch each other, one after the other, and the other way round.
use Rattle.std.proofs.Common.{◌≡◌, inl, inr, ℕ, zero, suc, ◌==◌, ◌&&◌, Bool, true, false, cond, ℤ, pos, List, [], ◌∷◌, ◌++◌, length, slice_index_or, slice_set, Option, Some, None, refl, sym, ap, ◌∙◌, subst, eq-eqb}
use Rattle.std.proofs.lemmas.Bool.{and_parts, false≢true, eqb-true, eqb-false, ne_eqb}
use Rattle.std.specs.List.{list_all}
use Rattle.std.specs.Option.{is_some}
use Rattle.std.specs.Prelude.{not}
use Rattle.std.specs.Fmt.{signed_decimal}
use Rattle.vx_base.specs.Arithmetic.{value_of, one_if}
use Rattle.vx_flow.specs.declared.graph.Operand.{Operand}
use Rattle.vx_flow.specs.declared.graph.Operand.TheVariants.{Held, Number, Stack}
use Rattle.vx_flow.specs.declared.graph.Op.{Op}
use Rattle.vx_flow.specs.declared.graph.Array.{Array}
use Rattle.vx_flow.specs.declared.graph.Op.TheVariants.{Compute, Select, Place, Load, Store, More, Input, Text, Decimal, Across, Base, PlaceIn}
use Rattle.vx_flow.specs.Effects.{Content, State, Setting, IsIn, held, is_unary, both, computed, chosen, place_of, place_by, row_of, cell_in, cell_of, is_left, text_at, with_value, with_cell, loaded, stored, next_input, printed, effect, value_in, reads, writes}
use Rattle.vx_flow.specs.Apart.{array_in, are_apart as are_apart_arrays, AreApart, StandApart}
use Rattle.vx_flow.specs.Agree.{SameWorld, Agree}
use Rattle.vx_flow.proofs.EffectsAlike.{Refined, Done, effect_alike}
use Rattle.vx_flow.proofs.Members.{in_left, in_right}
use Rattle.vx_flow.proofs.SoundLists.{all_in, not_both}
use Rattle.vx_raise.specs.Raising.{result_of}
use Rattle.vx_raise.specs.Exchanging.{are_apart, loaded_from, stored_to, meet, may_pass}

some_is : (s t : State) → Option.Some s ≡ Some t → s ≡ t
some_is s t e = cc

-- ---- what an operation leaves as it was

pub record Keeps (setting : Setting) (op : Op) (t t' : State) : Type 0 where
  pub values : (u : ℕ) → (IsIn u (writes op) → ⊥) → t'.values u ≡ t.values u
  -- the words of each row to which it stores nothing
  pub rows : (k : ℕ) → ((a : ℕ) → stored_to op ≡ Some a → setting.spot a ≡ k → ⊥) → row_of t' k ≡ row_of t k

other_row : {A : Type 0} (xs : List A) (i j : ℕ) (v d : A) → (i ≡ j → ⊥) → slice_index_or (slice_set xs i v) j d ≡ slice_index_or xs j d
other_row [] i j v d n = refl
other_row (x ∷ xs) zero zero v d n = absurd (n refl)
other_row (x ∷ xs) zero (suc j) v d n = refl
other_row (x ∷ xs) (suc i) zero v d n = refl
other_row (x ∷ xs) (suc i) (suc j) v d n = other_row xs i j v d (λ e. n (ap suc e))

unwritten : (t : State) (v : ℕ) (x : Content) (u : ℕ) → (IsIn u (v ∷ []) → ⊥) → (with_value t v x).values u ≡ t.values u
unwritten t v x u k = ap (λ q. cond q x (t.values u)) (ne_eqb u v (λ e. k (inl e)))

value_keeps : (setting : Setting) (op : Op) (t t' : State) (v : ℕ) (x : Content) → writes op ≡ v ∷ [] → Some (with_value t v x) ≡ Some t' → Keeps setting op t t'
value_keeps setting op t t' v x w e =
    subst (Keeps setting op t) (some_is (with_value t v x) t' e) (record { values = λ u k. unwritten t v x u (λ m. k (subst (IsIn u) (sym w) m)); rows = λ k n. refl })

load_keeps : (setting : Setting) (op : Op) (t t' : State) (v : ℕ) (row : List Content) (i : Option ℕ) (dismissible : Bool) → writes op ≡ v ∷ [] → loaded t v row i dismissible ≡ Some t' → Keeps setting op t t'
load_keeps setting op t t' v row None true w e = value_keeps setting op t t' v None w e
load_keeps setting op t t' v row None false w e = absurd (cc)
load_keeps setting op t t' v row (Some i) dismissible w e = value_keeps setting op t t' v (slice_index_or row i None) w e

store_keeps : (setting : Setting) (op : Op) (t t' : State) (a : ℕ) (i : Option ℕ) (x : Content) → stored_to op ≡ Some a → stored t (setting.spot a) i x ≡ Some t' → Keeps setting op t t'
store_keeps setting op t t' a None x q e = absurd (cc)
store_keeps setting op t t' a (Some i) None q e = absurd (cc)
store_keeps setting op t t' a (Some i) (Some n) q e =
    let spot : ℕ = setting.spot a in
    subst (Keeps setting op t) (some_is (with_cell t spot i (Some n)) t' e)
    (record { values = λ u k. refl; rows = λ k far. other_row t.arrays spot k (slice_set (row_of t spot) i (Some n)) [] (far a q) })

input_keeps : (setting : Setting) (op : Op) (t t' : State) (v : ℕ) (ns : List ℤ) → writes op ≡ v ∷ [] → next_input t v ns ≡ Some t' → Keeps setting op t t'
input_keeps setting op t t' v [] w e = absurd (cc)
input_keeps setting op t t' v (n ∷ ns) w e =
    let u : State = record (with_value t v (Some n)) { input = ns } in
    subst (Keeps setting op t) (some_is u t' e) (record { values = λ u k. unwritten t v (Some n) u (λ m. k (subst (IsIn u) (sym w) m)); rows = λ k n. refl })

out_keeps : (setting : Setting) (op : Op) (t t' : State) (out : List ℕ) → Some (record t { out = out }) ≡ Some t' → Keeps setting op t t'
out_keeps setting op t t' out e = subst (Keeps setting op t) (some_is (record t { out = out }) t' e) (record { values = λ u k. refl; rows = λ k n. refl })

print_keeps : (setting : Setting) (op : Op) (t t' : State) (out : List ℕ) (x : Content) → printed t out x ≡ Some t' → Keeps setting op t t'
print_keeps setting op t t' out None e = absurd (cc)
print_keeps setting op t t' out (Some n) e = out_keeps setting op t t' (out ++ signed_decimal n) e

pub keeps : (setting : Setting) (op : Op) (s t t' : State) → effect setting s op t ≡ Some t' → Keeps setting op t t'
keeps setting (Compute code v a b) s t t' e = value_keeps setting (Compute code v a b) t t' v (computed code (held s a) (held s b)) refl e
keeps setting (Select v p a b) s t t' e = value_keeps setting (Select v p a b) t t' v (chosen (s.values p) (held s a) (held s b)) refl e
keeps setting (Place v a i) s t t' e = value_keeps setting (Place v a i) t t' v (place_of (held s i)) refl e
keeps setting (Load v a p dismissible) s t t' e = load_keeps setting (Load v a p dismissible) t t' v (row_of s (setting.spot a)) (cell_of setting s a p) dismissible refl e
keeps setting (Store a p x) s t t' e = store_keeps setting (Store a p x) t t' a (cell_of setting s a p) (held s x) refl e
keeps setting (More v) s t t' e = value_keeps setting (More v) t t' v (Some (one_if (is_left s.input))) refl e
keeps setting (Input v) s t t' e = input_keeps setting (Input v) t t' v s.input refl e
keeps setting (Text n) s t t' e = out_keeps setting (Text n) t t' (s.out ++ text_at setting n) e
keeps setting (Decimal x) s t t' e = print_keeps setting (Decimal x) t t' s.out (held s x) e
keeps setting (Across v u) s t t' e = value_keeps setting (Across v u) t t' v (s.values u) refl e
keeps setting (Base v a x) s t t' e = value_keeps setting (Base v a x) t t' v (Some (pos (setting.spot a))) refl e
keeps setting (PlaceIn v a u i) s t t' e = value_keeps setting (PlaceIn v a u i) t t' v (place_by (s.values u) (held s i)) refl e

-- ---- an operation that only writes a value, in two states that agree on what it reads

-- it writes the same onto each
pub record Both (setting : Setting) (y : Op) (v : ℕ) (s s1 s2 : State) : Type 0 where
  pub content : Content
  pub late : with_value s1 v content ≡ s2
  pub early : effect setting s y s ≡ Some (with_value s v content)

held_same : (s s1 : State) (x : Operand) → ((u : ℕ) → IsIn u (value_in x) → s1.values u ≡ s.values u) → held s1 x ≡ held s x
held_same s s1 (Held v) k = k v (inl refl)
held_same s s1 (Number n) k = refl
held_same s s1 Stack k = refl

computed_same : (unary : Bool) (f : ℤ → ℤ → ℤ) (s s1 : State) (a b : Operand) → ((u : ℕ) → IsIn u (cond unary (value_in a) (value_in a ++ value_in b)) → s1.values u ≡ s.values u) →
    cond unary (held s1 a) (both f (held s1 a) (held s1 b)) ≡ cond unary (held s a) (both f (held s a) (held s b))
computed_same true f s s1 a b k = held_same s s1 a k
computed_same false f s s1 a b k =
    ap (λ q. both f q (held s1 b)) (held_same s s1 a (λ u m. k u (in_left u (value_in a) (value_in b) m))) ∙ ap (both f (held s a)) (held_same s s1 b (λ u m. k u (in_right u (value_in a) (value_in b) m)))

chosen_same : (s s1 : State) (p : ℕ) (a b : Operand) → ((u : ℕ) → IsIn u (p ∷ (value_in a ++ value_in b)) → s1.values u ≡ s.values u) →
    chosen (s1.values p) (held s1 a) (held s1 b) ≡ chosen (s.values p) (held s a) (held s b)
chosen_same s s1 p a b k =
    ap (λ q. chosen q (held s1 a) (held s1 b)) (k p (inl refl)) ∙
    (ap (λ q. chosen (s.values p) q (held s1 b)) (held_same s s1 a (λ u m. k u (inr (in_left u (value_in a) (value_in b) m)))) ∙
    ap (chosen (s.values p) (held s a)) (held_same s s1 b (λ u m. k u (inr (in_right u (value_in a) (value_in b) m)))))

value_both : (setting : Setting) (y : Op) (v : ℕ) (s s1 s2 : State) (x x1 : Content) → x1 ≡ x → effect setting s y s ≡ Some (with_value s v x) → Some (with_value s1 v x1) ≡ Some s2 → Both setting y v s s1 s2
value_both setting y v s s1 s2 x x1 q d e = record { content = x1; late = some_is (with_value s1 v x1) s2 e; early = d ∙ ap (λ z. Some (with_value s v z)) (sym q) }

load_both : (setting : Setting) (y : Op) (v : ℕ) (s s1 s2 : State) (row : List Content) (i : Option ℕ) (dismissible : Bool) → effect setting s y s ≡ loaded s v row i dismissible → loaded s1 v row i dismissible ≡ Some s2 → Both setting y v s s1 s2
load_both setting y v s s1 s2 row None true d e = value_both setting y v s s1 s2 None None refl d e
load_both setting y v s s1 s2 row None false d e = absurd (cc)
load_both setting y v s s1 s2 row (Some i) dismissible d e = value_both setting y v s s1 s2 (slice_index_or row i None) (slice_index_or row i None) refl d e

both_of : (setting : Setting) (y : Op) (v : ℕ) (s s1 s2 : State) → result_of y ≡ Some v → ((u : ℕ) → IsIn u (reads y) → s1.values u ≡ s.values u) → ((a : ℕ) → loaded_from y ≡ Some a → row_of s1 (setting.spot a) ≡ row_of s (setting.spot a)) → effect setting s1 y s1 ≡ Some s2 → Both setting y v s s1 s2
both_of setting (Compute code w a b) v s s1 s2 r k l e =
    let q : w ≡ v = cc in
    subst (λ u. Both setting (Compute code w a b) u s s1 s2) q (value_both setting (Compute code w a b) w s s1 s2 (computed code (held s a) (held s b)) (computed code (held s1 a) (held s1 b)) (computed_same (is_unary code) (value_of code) s s1 a b k) refl e)
both_of setting (Select w p a b) v s s1 s2 r k l e =
    let q : w ≡ v = cc in
    subst (λ u. Both setting (Select w p a b) u s s1 s2) q (value_both setting (Select w p a b) w s s1 s2 (chosen (s.values p) (held s a) (held s b)) (chosen (s1.values p) (held s1 a) (held s1 b)) (chosen_same s s1 p a b k) refl e)
both_of setting (Place w a i) v s s1 s2 r k l e =
    let q : w ≡ v = cc in
    subst (λ u. Both setting (Place w a i) u s s1 s2) q (value_both setting (Place w a i) w s s1 s2 (place_of (held s i)) (place_of (held s1 i)) (ap place_of (held_same s s1 i k)) refl e)
both_of setting (Load w a p dismissible) v s s1 s2 r k l e =
    let q : w ≡ v = cc in
    let row : List Content = row_of s1 (setting.spot a) in
    let rows : row_of s (setting.spot a) ≡ row = sym (l a refl) in
    let d : effect setting s (Load w a p dismissible) s ≡ loaded s w row (cell_in (length row) (held s1 p)) dismissible =
    ap (λ z. loaded s w z (cell_in (length z) (held s p)) dismissible) rows ∙ ap (λ z. loaded s w row (cell_in (length row) z) dismissible) (sym (held_same s s1 p k)) in
    subst (λ u. Both setting (Load w a p dismissible) u s s1 s2) q (load_both setting (Load w a p dismissible) w s s1 s2 row (cell_in (length row) (held s1 p)) dismissible d e)
both_of setting (Store a p x) v s s1 s2 r k l e = absurd (cc)
both_of setting (More u) v s s1 s2 r k l e = absurd (cc)
both_of setting (Input u) v s s1 s2 r k l e = absurd (cc)
both_of setting (Text n) v s s1 s2 r k l e = absurd (cc)
both_of setting (Decimal x) v s s1 s2 r k l e = absurd (cc)
both_of setting (Across u w) v s s1 s2 r k l e = absurd (cc)
both_of setting (Base w a x) v s s1 s2 r k l e =
    let q : w ≡ v = cc in
    subst (λ u. Both setting (Base w a x) u s s1 s2) q (value_both setting (Base w a x) w s s1 s2 (Some (pos (setting.spot a))) (Some (pos (setting.spot a))) refl refl e)
both_of setting (PlaceIn w a b i) v s s1 s2 r k l e =
    let q : w ≡ v = cc in
    let base : s1.values b ≡ s.values b = k b (in_right b (value_in i) (b ∷ []) (inl refl)) in
    let index : held s1 i ≡ held s i = held_same s s1 i (λ u m. k u (in_left u (value_in i) (b ∷ []) m)) in
    subst (λ u. Both setting (PlaceIn w a b i) u s s1 s2) q
    (value_both setting (PlaceIn w a b i) w s s1 s2 (place_by (s.values b) (held s i)) (place_by (s1.values b) (held s1 i)) (ap (λ x. place_by x (held s1 i)) base ∙ ap (place_by (s.values b)) index) refl e)

pub result_written : (y : Op) (v : ℕ) → result_of y ≡ Some v → writes y ≡ v ∷ []
result_written (Compute code w a b) v r = let q : w ≡ v = cc in ap (λ u. u ∷ []) q
result_written (Select w p a b) v r = let q : w ≡ v = cc in ap (λ u. u ∷ []) q
result_written (Place w a i) v r = let q : w ≡ v = cc in ap (λ u. u ∷ []) q
result_written (Load w a p dismissible) v r = let q : w ≡ v = cc in ap (λ u. u ∷ []) q
result_written (Store a p x) v r = absurd (cc)
result_written (More u) v r = absurd (cc)
result_written (Input u) v r = absurd (cc)
result_written (Text n) v r = absurd (cc)
result_written (Decimal x) v r = absurd (cc)
result_written (Across u w) v r = absurd (cc)
result_written (Base w a x) v r = let q : w ≡ v = cc in ap (λ u. u ∷ []) q
result_written (PlaceIn w a u i) v r = let q : w ≡ v = cc in ap (λ u. u ∷ []) q

-- ---- what the test says

apart : (vs ws : List ℕ) → are_apart vs ws ≡ true → (v w : ℕ) → IsIn v vs → IsIn w ws → w ≡ v → ⊥
apart vs ws h v w m n e =
    let one : list_all (λ w. not (w == v)) ws ≡ true = all_in (λ v. list_all (λ w. not (w == v)) ws) vs v h m in
    not_both (w == v) (eq-eqb w v e) (all_in (λ w. not (w == v)) ws w one n)

pub record Apart (arrays : List Array) (x y : Op) : Type 0 where
  pub value : ℕ
  pub result : result_of y ≡ Some value
  pub unread : IsIn value (reads x) → ⊥
  pub unwritten : IsIn value (writes x) → ⊥
  pub kept : (u : ℕ) → IsIn u (reads y) → IsIn u (writes x) → ⊥
  pub memory : (a b : ℕ) → loaded_from y ≡ Some a → stored_to x ≡ Some b → AreApart (array_in arrays a) (array_in arrays b)

twice_not : (b : Bool) → not (not b) ≡ true → b ≡ true
twice_not true h = refl
twice_not false h = absurd (false≢true h)

unmet : (arrays : List Array) (o p : Option ℕ) → not (meet arrays o p) ≡ true → (a b : ℕ) → o ≡ Some a → p ≡ Some b → AreApart (array_in arrays a) (array_in arrays b)
unmet arrays None p h a b e f = absurd (cc)
unmet arrays (Some c) None h a b e f = absurd (cc)
unmet arrays (Some c) (Some d) h a b e f =
    let p : c ≡ a = cc in
    let q : d ≡ b = cc in
    subst (λ z. AreApart (array_in arrays a) (array_in arrays z)) q (subst (λ z. AreApart (array_in arrays z) (array_in arrays d)) p (twice_not (are_apart_arrays (array_in arrays c) (array_in arrays d)) h))

pub apart_of : (arrays : List Array) (x y : Op) → may_pass arrays x y ≡ true → Apart arrays x y
apart_of arrays x y h = by (result_of y) refl h
  where
    by : (o : Option ℕ) → result_of y ≡ o → (is_some o && are_apart (writes y) (reads x) && are_apart (writes y) (writes x) && are_apart (writes x) (reads y) && not (meet arrays (loaded_from y) (stored_to x))) ≡ true → Apart arrays x y
    by None r h = absurd (false≢true h)
    by (Some v) r h =
        let memory = and_parts (are_apart (writes y) (reads x) && are_apart (writes y) (writes x) && are_apart (writes x) (reads y)) (not (meet arrays (loaded_from y) (stored_to x))) h in
        let kept = and_parts (are_apart (writes y) (reads x) && are_apart (writes y) (writes x)) (are_apart (writes x) (reads y)) memory.0 in
        let value = and_parts (are_apart (writes y) (reads x)) (are_apart (writes y) (writes x)) kept.0 in
        let m : IsIn v (writes y) = subst (IsIn v) (sym (result_written y v r)) (inl refl) in
        record {
          value = v;
          result = r;
          unread = λ n. apart (writes y) (reads x) value.0 v v m n refl;
          unwritten = λ n. apart (writes y) (writes x) value.1 v v m n refl;
          kept = λ u n w. apart (writes x) (reads y) kept.1 u u w n refl;
          memory = λ a b e f. unmet arrays (loaded_from y) (stored_to x) memory.1 a b e f;
        }

-- ---- the other way round

abbrev pub Always : ℕ → Type 0
Always v = Unit {0}

pub agree_then : (s t u : State) → Agree Always s t → Agree Always t u → Agree Always s u
agree_then s t u a b = record {
  world = record { arrays = b.world.arrays ∙ a.world.arrays; input = b.world.input ∙ a.world.input; out = b.world.out ∙ a.world.out };
  values = λ v n l e. b.values v n l (a.values v n l e);
}

pub record Turned (setting : Setting) (x y : Op) (s s2 : State) : Type 0 where
  pub between : State
  pub after : State
  pub first : effect setting s y s ≡ Some between
  pub second : effect setting between x between ≡ Some after
  pub agree : Agree Always s2 after

pub turned : (arrays : List Array) (setting : Setting) (x y : Op) (s s1 s2 : State) → StandApart arrays setting.spot → may_pass arrays x y ≡ true → effect setting s x s ≡ Some s1 → effect setting s1 y s1 ≡ Some s2 → Turned setting x y s s2
turned arrays setting x y s s1 s2 stand h e d =
    let apart : Apart arrays x y = apart_of arrays x y h in
    let kept : Keeps setting x s s1 = keeps setting x s s s1 e in
    let both : Both setting y apart.value s s1 s2 =
    both_of setting y apart.value s s1 s2 apart.result (λ u m. kept.values u (apart.kept u m)) (λ a l. kept.rows (setting.spot a) (λ b w q. stand a b (apart.memory a b l w) (sym q))) d in
    by apart.value both.content both.late both.early apart.unread apart.unwritten
  where
    by : (v : ℕ) (c : Content) → with_value s1 v c ≡ s2 → effect setting s y s ≡ Some (with_value s v c) → (IsIn v (reads x) → ⊥) → (IsIn v (writes x) → ⊥) → Turned setting x y s s2
    by v c late early unread unwritten =
        let t : State = with_value s v c in
        let others : (u : ℕ) → (u ≡ v → ⊥) → Refined (s.values u) (t.values u) = λ u k n f. ap (λ q. cond q c (s.values u)) (ne_eqb u v k) ∙ f in
        let world : SameWorld s t = record { arrays = refl; input = refl; out = refl } in
        let done : Done (λ u. u ≡ v → ⊥) s1 (effect setting t x t) =
        effect_alike (λ u. u ≡ v → ⊥) setting x s t s t s1 world world (λ u m. others u (λ q. unread (subst (λ z. IsIn z (reads x)) q m))) (λ u l k. others u l) e in
        let there : done.state.values v ≡ c = (keeps setting x t t done.state done.is).values v unwritten ∙ ap (λ q. cond q c (s.values v)) (eq-eqb v v refl) in
        record {
          between = t;
          after = done.state;
          first = early;
          second = done.is;
          agree = subst (λ z. Agree Always z done.state) late (record { world = record { arrays = done.agree.world.arrays; input = done.agree.world.input; out = done.agree.world.out }; values = λ u n l f. value done.state v c there (λ u n k g. done.agree.values u n k g) u n (u == v) refl f });
        }
      where
        value : (z : State) (v : ℕ) (c : Content) → z.values v ≡ c → ((u : ℕ) (n : ℤ) → (u ≡ v → ⊥) → s1.values u ≡ Some n → z.values u ≡ Some n) → (u : ℕ) (n : ℤ) (q : Bool) → (u == v) ≡ q → cond q c (s1.values u) ≡ Some n → z.values u ≡ Some n
        value z v c there k u n true q f = ap z.values (eqb-true u v q) ∙ (there ∙ f)
        value z v c there k u n false q f = k u n (eqb-false u v q) f
