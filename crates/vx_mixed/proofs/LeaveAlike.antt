-- Exits to blocks that correspond leave alike, from states that agree on what is live.
use Rattle.std.proofs.Common.{◌≡◌, ℕ, ℤ, flat_map, Bool, true, false, Option, Some, None, List, [], ◌∷◌, refl, sym, ap, ◌∙◌, subst, inl, inr, map}
use Rattle.std.specs.Prelude.{if◌then◌else◌}
use Rattle.vx_flow.specs.Effects.{Content, State, is_one, held, value_in, IsIn}
use Rattle.vx_flow.specs.declared.graph.Operand.{Operand}
use Rattle.vx_flow.specs.declared.graph.Exit.{Exit}
use Rattle.vx_flow.specs.declared.graph.Exit.TheVariants.{Call}
use Rattle.vx_mixed.specs.declared.mixed.MixedGraph.{MixedGraph}
use Rattle.vx_flow.specs.Meaning.{Arrives, Calls, Leaves, leave, by_test, calls, leaves, known, with_front}
use Rattle.vx_mixed.specs.Agree.{SameWorld, Alike, not_the_result}
use Rattle.vx_mixed.specs.Alive.{AtEnd}
use Rattle.vx_mixed.specs.Way.{Renamed, goto, branch, call, return, stop}
use Rattle.vx_flow.specs.Sound.{results_of_exit}
use Rattle.vx_mixed.proofs.Contents.{Grows, none_is, grows_held, in_append}

-- an exit, where what it reads and what is live behind it agree
operands_known : (s t : State) (vs : List Operand) → ((v : ℕ) → IsIn v (flat_map value_in vs) → Grows (s.values v) (t.values v)) → (ns : List ℤ) → known (map (held s) vs) ≡ Some ns → known (map (held t) vs) ≡ Some ns
operands_known s t [] g ns e = e
operands_known s t (x ∷ vs) g ns e = by (held s x) (grows_held s t x (λ v h. g v (in_append v (value_in x) (flat_map value_in vs) (inl h)))) e (λ ms f. operands_known s t vs (λ v h. g v (in_append v (value_in x) (flat_map value_in vs) (inr h))) ms f)
  where
    at_rest : (n : ℤ) → (o : Option (List ℤ)) → with_front n o ≡ Some ns → ((ms : List ℤ) → o ≡ Some ms → known (map (held t) vs) ≡ Some ms) → with_front n (known (map (held t) vs)) ≡ Some ns
    at_rest n None f go = none_is f
    at_rest n (Some ms) f go = ap (with_front n) (go ms refl) ∙ f

    by : (v : Content) → Grows v (held t x) → known (v ∷ map (held s) vs) ≡ Some ns → ((ms : List ℤ) → known (map (held s) vs) ≡ Some ms → known (map (held t) vs) ≡ Some ms) → known (held t x ∷ map (held t) vs) ≡ Some ns
    by None h f go = none_is f
    by (Some n) h f go = ap (λ z. known (z ∷ map (held t) vs)) (h n refl) ∙ at_rest n (known (map (held s) vs)) f go

result_or : (result : Option ℕ) (v : ℕ) (g : ℕ) (args : List Operand) (next : ℕ) → not_the_result result v → IsIn v (results_of_exit (Call g args result next)) → ⊥
result_or None v g args next n h = h
result_or (Some r) v g args next n (inl h) = n h
result_or (Some r) v g args next n (inr h) = h

pub leave_alike : (old : MixedGraph) (pairs : ℕ → ℕ → Bool) (b b' : ℕ) (x x' : Exit) → Renamed pairs x x' → (s t : State) → SameWorld s t → ((v : ℕ) → AtEnd old x v → Grows (s.values v) (t.values v)) → Alike old pairs (leave b x s) (leave b' x' t)
leave_alike old pairs b b' x x' (goto {c} {c'} p) s t w g = (p, record { world = w; values = λ v n l e. g v (inr (c, inl refl, (λ z. z), l)) n e })
leave_alike old pairs b b' x x' (branch {p} {c} {c'} {d} {d'} pc pd) s t w g = by (s.values p) (g p (inl (inl refl)))
  where
    to : (z z' : ℕ) → pairs z z' ≡ true → IsIn z (c ∷ d ∷ []) → Alike old pairs (Arrives b z s) (Arrives b' z' t)
    to z z' pz h = (pz, record { world = w; values = λ v n l e. g v (inr (z, h, (λ q. q), l)) n e })

    way : (one : Bool) → Alike old pairs (if one then Arrives b c s else Arrives b d s) (if one then Arrives b' c' t else Arrives b' d' t)
    way true = to c c' pc (inl refl)
    way false = to d d' pd (inr (inl refl))

    by : (v : Content) → Grows v (t.values p) → Alike old pairs (by_test v (Arrives b c s) (Arrives b d s)) (by_test (t.values p) (Arrives b' c' t) (Arrives b' d' t))
    by None f = tt
    by (Some z) f = subst (λ y. Alike old pairs (by_test (Some z) (Arrives b c s) (Arrives b d s)) (by_test y (Arrives b' c' t) (Arrives b' d' t))) (sym (f z refl)) (way (is_one z))
leave_alike old pairs b b' x x' (call {g = f} {next = next} {next' = next'} {args = args} {result = result} p) s t w g = by (known (map (held s) args)) (operands_known s t args (λ v h. g v (inl h)))
  where
    by : (o : Option (List ℤ)) → ((ns : List ℤ) → o ≡ Some ns → known (map (held t) args) ≡ Some ns) → Alike old pairs (calls f o result b next s) (calls f (known (map (held t) args)) result b' next' t)
    by None h = tt
    by (Some ns) h = subst (λ z. Alike old pairs (Calls f ns result b next s) (calls f z result b' next' t)) (sym (h ns refl)) (refl, refl, refl, p, record { world = w; values = λ v n l e. g v (inr (next, inl refl, result_or result v f args next l.1, l.0)) n e })
leave_alike old pairs b b' x x' (return {x = y}) s t w g = by (held s y) (grows_held s t y (λ v h. g v (inl h)))
  where
    by : (v : Content) → Grows v (held t y) → Alike old pairs (leaves v s) (leaves (held t y) t)
    by None h = tt
    by (Some n) h = subst (λ z. Alike old pairs (Leaves n s) (leaves z t)) (sym (h n refl)) (refl, w)
leave_alike old pairs b b' x x' (stop {k}) s t w g = (refl, w)
