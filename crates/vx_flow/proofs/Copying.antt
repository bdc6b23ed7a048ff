-- Lists that grow by one item in each turn of a loop, or are looked through.
use Rattle.std.proofs.Common.{◌≡◌, ℕ, ◌+◌, ◌<◌, ◌==◌, ◌||◌, Bool, true, false, List, [], ◌∷◌, ◌++◌, length, take, get_or, sym, ap, ◌∙◌, append_assoc, append-nil}
use Rattle.std.specs.List.{flat_map, list_any}
use Rattle.std.proofs.lemmas.List.{take_more, map-append}
use Rattle.std.proofs.lemmas.List.Folds.{list_any_more, list_any_at}
use Rattle.std.proofs.lemmas.Grind.{flat_map-append}
use Rattle.vx_flow.specs.Live.{reading, touch}
use Rattle.vx_flow.specs.declared.graph.Edge.{Edge}
use Rattle.vx_flow.specs.declared.routes.Touch.{Touch}
use Rattle.vx_flow.specs.declared.trace.TraceOp.{TraceOp}
use Rattle.vx_flow.specs.declared.trace.TraceOp.TheVariants.{Split}

pub copied_more : {X : Type 0} (xs copies new : List X) (copy d : X) (i : ℕ) → i < length xs → copies ≡ take i xs → new ≡ copies ++ copy ∷ [] → copy ≡ get_or xs i d → new ≡ take (i + 1) xs
copied_more xs copies new copy d i h so_far more same = more ∙ ap (λ l. l ++ copy ∷ []) so_far ∙ ap (λ x. take i xs ++ x ∷ []) same ∙ sym (take_more xs i d h)

pub split_copied : (op : TraceOp) (test : ℕ) (leaves : Bool) (edge : Edge) (live copy : List ℕ) → op ≡ Split test leaves edge live → copy ≡ live → Split test leaves edge copy ≡ op
split_copied op test leaves edge live copy is same = ap (λ (z : List ℕ). Split test leaves edge z) same ∙ sym is

-- what each item gives, one item more

flat_more : {X Y : Type 0} (f : X → List Y) (xs : List X) (d : X) (i : ℕ) → i < length xs → flat_map f (take i xs) ++ f (get_or xs i d) ≡ flat_map f (take (i + 1) xs)
flat_more f xs d i h =
    ap (λ l. flat_map f (take i xs) ++ l) (sym (append-nil (f (get_or xs i d)))) ∙ sym (flat_map-append f (take i xs) (get_or xs i d ∷ [])) ∙ ap (flat_map f) (sym (take_more xs i d h))

pub mapped_more : {X Y : Type 0} (f : X → List Y) (xs : List X) (old list new : List Y) (d : X) (i : ℕ) → i < length xs → list ≡ old ++ flat_map f (take i xs) → new ≡ list ++ f (get_or xs i d) → new ≡ old ++ flat_map f (take (i + 1) xs)
mapped_more f xs old list new d i h so_far more = more ∙ ap (λ l. l ++ f (get_or xs i d)) so_far ∙ append_assoc old (flat_map f (take i xs)) (f (get_or xs i d)) ∙ ap (λ l. old ++ l) (flat_more f xs d i h)

pub read_more : {X : Type 0} (f : X → List ℕ) (xs : List X) (old list new : List Touch) (d : X) (i : ℕ) → i < length xs → list ≡ old ++ reading (flat_map f (take i xs)) → new ≡ list ++ reading (f (get_or xs i d)) → new ≡ old ++ reading (flat_map f (take (i + 1) xs))
read_more f xs old list new d i h so_far more =
    more ∙ ap (λ l. l ++ reading (f (get_or xs i d))) so_far ∙ append_assoc old (reading (flat_map f (take i xs))) (reading (f (get_or xs i d)))
    ∙ ap (λ l. old ++ l) (sym (map-append (touch true) (flat_map f (take i xs)) (f (get_or xs i d))))
    ∙ ap (λ l. old ++ reading l) (flat_more f xs d i h)

-- whether a number is among those of a list, one more looked at

pub none_more : (node : ℕ) (xs : List ℕ) (i d : ℕ) → i < length xs → list_any (λ u. u == node) (take i xs) ≡ false → (get_or xs i d == node) ≡ false → list_any (λ u. u == node) (take (i + 1) xs) ≡ false
none_more node xs i d h so_far other = list_any_more (λ u. u == node) xs i d h ∙ ap (λ b. b || (get_or xs i d == node)) so_far ∙ other

pub one_found : (node : ℕ) (xs : List ℕ) (i d : ℕ) → i < length xs → (get_or xs i d == node) ≡ true → true ≡ list_any (λ u. u == node) xs
one_found node xs i d h same = sym (list_any_at (λ u. u == node) xs i d h same)
