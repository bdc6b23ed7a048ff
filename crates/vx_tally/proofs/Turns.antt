-- One turn of a loop over a list, and its end.
use Rattle.std.proofs.Common.{◌≡◌, ℕ, zero, suc, ◌+◌, ◌-◌, ◌<◌, ◌≤◌, ℤ, pos, Bool, true, false, ltb, ltb-true, ltb-false, List, [], ◌∷◌, ◌++◌, length, map, drop, take, get_or, replicate, slice_get, slice_set, Option, Some, None, refl, sym, ap, ◌∙◌, append-nil, append_assoc, arith}
use Rattle.std.proofs.lemmas.List.{drop_all, drop_more, map_more}
use Rattle.std.proofs.lemmas.Option.{slice_get-get_or, slice_get_past}
use Rattle.vx_flow.specs.declared.graph.Global.{Global}
use Rattle.vx_flow.specs.declared.graph.Op.{Op}
use Rattle.vx_flow.specs.declared.graph.Operand.{Operand}
use Rattle.vx_flow.specs.Effects.{Content, State, Setting, effect, held}
use Rattle.vx_flow.specs.Meaning.{known, spot_behind, with_front, words_at_start}
use Rattle.vx_tally.specs.Storage.{came, and_after, effects}
use Rattle.vx_tally.proofs.Running.{with_all}

-- what a slice of the list says of a place

pub found_at : {A : Type 0} (xs ys : List A) (i : ℕ) (x : A) → xs ≡ ys → true ≡ ltb i (length xs) → x ≡ get_or xs i x → slice_get ys i ≡ Some x
found_at xs ys i x e h k = ap (λ z. slice_get z i) (sym e) ∙ slice_get-get_or xs i x (ltb-true _ _ (sym h)) ∙ ap Some (sym k)

pub absent_at : {A : Type 0} (xs ys : List A) (i : ℕ) → xs ≡ ys → false ≡ ltb i (length xs) → slice_get ys i ≡ None
absent_at xs ys i e h = ap (λ z. slice_get z i) (sym e) ∙ slice_get_past xs i (ltb-false _ _ (sym h))

-- places behind the first one

pub behind_passed : (spot : ℕ) (rest : List (Option ℕ)) (base place : ℕ) → (place ≡ 0 → ⊥) → spot_behind rest base (place - 1) ≡ spot_behind (Some spot ∷ rest) base place
behind_passed spot rest base zero h = absurd (h refl)
behind_passed spot rest base (suc k) h = let e : suc k - 1 ≡ k = omega arith in ap (spot_behind rest base) e

pub behind_own : (rest : List (Option ℕ)) (base place : ℕ) → (place ≡ 0 → ⊥) → spot_behind rest (base + 1) (place - 1) ≡ spot_behind (None ∷ rest) base place
behind_own rest base zero h = absurd (h refl)
behind_own rest base (suc k) h = let e : suc k - 1 ≡ k = omega arith in ap (spot_behind rest (base + 1)) e

-- numbers that operands are

all_front : (ns : List ℤ) (n : ℤ) (o : Option (List ℤ)) → with_all ns (with_front n o) ≡ with_all (ns ++ n ∷ []) o
all_front ns n None = refl
all_front ns n (Some ms) = ap Some (sym (append_assoc ns (n ∷ []) ms))

pub known_turn : (s : State) (xs : List Operand) (i : ℕ) (d : Operand) (x : Content) (n : ℤ) (ns ms : List ℤ) (o : Option (List ℤ)) → i < length xs → o ≡ with_all ns (known (map (held s) (drop i xs))) → x ≡ held s (get_or xs i d) → x ≡ Some n → ms ≡ ns ++ n ∷ [] →
    o ≡ with_all ms (known (map (held s) (drop (i + 1) xs)))
known_turn s xs i d x n ns ms o lt e h k p =
    e ∙ ap (λ ys. with_all ns (known (map (held s) ys))) (drop_more xs i d lt) ∙ ap (λ y. with_all ns (known (y ∷ map (held s) (drop (i + 1) xs)))) (sym h ∙ k)
    ∙ all_front ns n (known (map (held s) (drop (i + 1) xs))) ∙ ap (λ q. with_all q (known (map (held s) (drop (i + 1) xs)))) (sym p)

pub known_none : (s : State) (xs : List Operand) (i : ℕ) (d : Operand) (x : Content) (ns : List ℤ) (o : Option (List ℤ)) → i < length xs → o ≡ with_all ns (known (map (held s) (drop i xs))) → x ≡ held s (get_or xs i d) → x ≡ None → o ≡ None
known_none s xs i d x ns o lt e h k =
    e ∙ ap (λ ys. with_all ns (known (map (held s) ys))) (drop_more xs i d lt) ∙ ap (λ y. with_all ns (known (y ∷ map (held s) (drop (i + 1) xs)))) (sym h ∙ k)

pub known_all : (s : State) (xs : List Operand) (i : ℕ) (ns : List ℤ) (o : Option (List ℤ)) → length xs ≤ i → o ≡ with_all ns (known (map (held s) (drop i xs))) → o ≡ Some ns
known_all s xs i ns o le e = e ∙ ap (λ ys. with_all ns (known (map (held s) ys))) (drop_all i xs le) ∙ ap Some (append-nil ns)

-- operations

pub effects_turn : (setting : Setting) (o : Option State) (s t : State) (ops : List Op) (i : ℕ) (d : Op) (done : Bool) → i < length ops → o ≡ effects setting s (drop i ops) → effect setting s (get_or ops i d) s ≡ came done t → done ≡ true → o ≡ effects setting t (drop (i + 1) ops)
effects_turn setting o s t ops i d done lt e h k =
    e ∙ ap (effects setting s) (drop_more ops i d lt) ∙ ap (λ q. and_after q (λ u. effects setting u (drop (i + 1) ops))) (h ∙ ap (λ b. came b t) k)

pub effects_stop : (setting : Setting) (o : Option State) (s t : State) (ops : List Op) (i : ℕ) (d : Op) (done : Bool) → i < length ops → o ≡ effects setting s (drop i ops) → effect setting s (get_or ops i d) s ≡ came done t → done ≡ false → o ≡ None
effects_stop setting o s t ops i d done lt e h k =
    e ∙ ap (effects setting s) (drop_more ops i d lt) ∙ ap (λ q. and_after q (λ u. effects setting u (drop (i + 1) ops))) (h ∙ ap (λ b. came b t) k)

pub effects_end : (setting : Setting) (o : Option State) (s : State) (ops : List Op) (i : ℕ) → length ops ≤ i → o ≡ effects setting s (drop i ops) → o ≡ Some s
effects_end setting o s ops i le e = e ∙ ap (effects setting s) (drop_all i ops le)

-- arrays

pub globals_turn : (globals : List Global) (i : ℕ) (d : Global) (rows : List (List Content)) (cells now : List Content) → i < length globals → rows ≡ map words_at_start (take i globals) → cells ≡ replicate (get_or globals i d).words (Some (pos 0)) →
    now ≡ slice_set cells 0 (Some (get_or globals i d).first) → rows ++ now ∷ [] ≡ map words_at_start (take (i + 1) globals)
globals_turn globals i d rows cells now lt e h k =
    ap (λ r. r ++ now ∷ []) e ∙ ap (λ c. map words_at_start (take i globals) ++ c ∷ []) (k ∙ ap (λ c. slice_set c 0 (Some (get_or globals i d).first)) h)
    ∙ sym (map_more words_at_start globals i d lt)
