-- Hops from states that know more, and exits to blocks that correspond.
use Rattle.std.proofs.Common.{◌≡◌, ℕ, ℤ, Bool, true, false, Option, Some, None, List, refl, sym, ◌∙◌, subst, inl, inr, map}
use Rattle.std.specs.Prelude.{if◌then◌else◌}
use Rattle.std.proofs.lemmas.Bool.{eqb-true, eq-eqb}
use Rattle.vx_flow.specs.Effects.{Content, State, is_one, held, IsIn}
use Rattle.vx_flow.specs.declared.graph.Exit.{Exit}
use Rattle.vx_flow.specs.declared.graph.Exit.TheVariants.{Goto, Split as Branch, Call, Return, Ends}
use Rattle.vx_mixed.specs.declared.mixed.MixedGraph.{MixedGraph}
use Rattle.vx_flow.specs.Meaning.{Hop, Arrives, Calls, Leaves, Stops, Wrong, leave, by_test, calls, leaves, known}
use Rattle.vx_mixed.specs.Agree.{EndsAt, SameWorld, Agree, Alike, not_the_result}
use Rattle.vx_mixed.specs.Live.{Live}
use Rattle.vx_flow.specs.Sound.{targets_of}
use Rattle.vx_mixed.specs.Meaning.{is_same}

pub world_trans : (s t u : State) → SameWorld s t → SameWorld t u → SameWorld s u
world_trans s t u a b = record { arrays = b.arrays ∙ a.arrays; input = b.input ∙ a.input; out = b.out ∙ a.out }

agree_trans : (L : ℕ → Type 0) (s t u : State) → Agree L s t → Agree L t u → Agree L s u
agree_trans L s t u a b = record { world = world_trans s t u a.world b.world; values = λ v n l e. b.values v n l (a.values v n l e) }

pub alike_trans : (old : MixedGraph) (pairs : ℕ → ℕ → Bool) (f g h : Hop) → (f ≡ Wrong → ⊥) → Alike old is_same f g → Alike old pairs g h → Alike old pairs f h
alike_trans old pairs (Arrives b1 c1 s) (Arrives b2 c2 t) (Arrives b3 c3 u) n a r = (let e : c1 ≡ c2 = eqb-true c1 c2 a.0 in (subst (λ z. pairs z c3 ≡ true) (sym e) r.0, agree_trans (Live old c1) s t u a.1 (subst (λ z. Agree (Live old z) t u) (sym e) r.1)))
alike_trans old pairs (Arrives b1 c1 s) (Arrives b2 c2 t) (Calls g3 args3 result3 from3 next3 u) n a r = absurd r
alike_trans old pairs (Arrives b1 c1 s) (Arrives b2 c2 t) (Leaves k3 u) n a r = absurd r
alike_trans old pairs (Arrives b1 c1 s) (Arrives b2 c2 t) (Stops k3 u) n a r = absurd r
alike_trans old pairs (Arrives b1 c1 s) (Arrives b2 c2 t) Wrong n a r = absurd r
alike_trans old pairs (Arrives b1 c1 s) (Calls g2 args2 result2 from2 next2 t) h n a r = absurd a
alike_trans old pairs (Arrives b1 c1 s) (Leaves k2 t) h n a r = absurd a
alike_trans old pairs (Arrives b1 c1 s) (Stops k2 t) h n a r = absurd a
alike_trans old pairs (Arrives b1 c1 s) Wrong h n a r = absurd a
alike_trans old pairs (Calls g1 args1 result1 from1 next1 s) (Arrives b2 c2 t) h n a r = absurd a
alike_trans old pairs (Calls g1 args1 result1 from1 next1 s) (Calls g2 args2 result2 from2 next2 t) (Arrives b3 c3 u) n a r = absurd r
alike_trans old pairs (Calls g1 args1 result1 from1 next1 s) (Calls g2 args2 result2 from2 next2 t) (Calls g3 args3 result3 from3 next3 u) n a r = (let e : next1 ≡ next2 = eqb-true next1 next2 a.3 in (r.0 ∙ a.0, r.1 ∙ a.1, r.2 ∙ a.2, subst (λ z. pairs z next3 ≡ true) (sym e) r.3, agree_trans (λ v. Live old next1 v × not_the_result result1 v) s t u a.4 (subst (λ z. Agree (λ v. Live old z v × not_the_result result1 v) t u) (sym e) (subst (λ z. Agree (λ v. Live old next2 v × not_the_result z v) t u) a.2 r.4))))
alike_trans old pairs (Calls g1 args1 result1 from1 next1 s) (Calls g2 args2 result2 from2 next2 t) (Leaves k3 u) n a r = absurd r
alike_trans old pairs (Calls g1 args1 result1 from1 next1 s) (Calls g2 args2 result2 from2 next2 t) (Stops k3 u) n a r = absurd r
alike_trans old pairs (Calls g1 args1 result1 from1 next1 s) (Calls g2 args2 result2 from2 next2 t) Wrong n a r = absurd r
alike_trans old pairs (Calls g1 args1 result1 from1 next1 s) (Leaves k2 t) h n a r = absurd a
alike_trans old pairs (Calls g1 args1 result1 from1 next1 s) (Stops k2 t) h n a r = absurd a
alike_trans old pairs (Calls g1 args1 result1 from1 next1 s) Wrong h n a r = absurd a
alike_trans old pairs (Leaves k1 s) (Arrives b2 c2 t) h n a r = absurd a
alike_trans old pairs (Leaves k1 s) (Calls g2 args2 result2 from2 next2 t) h n a r = absurd a
alike_trans old pairs (Leaves k1 s) (Leaves k2 t) (Arrives b3 c3 u) n a r = absurd r
alike_trans old pairs (Leaves k1 s) (Leaves k2 t) (Calls g3 args3 result3 from3 next3 u) n a r = absurd r
alike_trans old pairs (Leaves k1 s) (Leaves k2 t) (Leaves k3 u) n a r = (r.0 ∙ a.0, world_trans s t u a.1 r.1)
alike_trans old pairs (Leaves k1 s) (Leaves k2 t) (Stops k3 u) n a r = absurd r
alike_trans old pairs (Leaves k1 s) (Leaves k2 t) Wrong n a r = absurd r
alike_trans old pairs (Leaves k1 s) (Stops k2 t) h n a r = absurd a
alike_trans old pairs (Leaves k1 s) Wrong h n a r = absurd a
alike_trans old pairs (Stops k1 s) (Arrives b2 c2 t) h n a r = absurd a
alike_trans old pairs (Stops k1 s) (Calls g2 args2 result2 from2 next2 t) h n a r = absurd a
alike_trans old pairs (Stops k1 s) (Leaves k2 t) h n a r = absurd a
alike_trans old pairs (Stops k1 s) (Stops k2 t) (Arrives b3 c3 u) n a r = absurd r
alike_trans old pairs (Stops k1 s) (Stops k2 t) (Calls g3 args3 result3 from3 next3 u) n a r = absurd r
alike_trans old pairs (Stops k1 s) (Stops k2 t) (Leaves k3 u) n a r = absurd r
alike_trans old pairs (Stops k1 s) (Stops k2 t) (Stops k3 u) n a r = (r.0 ∙ a.0, world_trans s t u a.1 r.1)
alike_trans old pairs (Stops k1 s) (Stops k2 t) Wrong n a r = absurd r
alike_trans old pairs (Stops k1 s) Wrong h n a r = absurd a
alike_trans old pairs Wrong g h n a r = tt

pub alike_same : (old : MixedGraph) (f : Hop) → (f ≡ Wrong → ⊥) → Alike old is_same f f
alike_same old Wrong n = tt
alike_same old (Arrives b c s) n = (eq-eqb c c refl, record { world = record { arrays = refl; input = refl; out = refl }; values = λ v m l e. e })
alike_same old (Calls g args result from next s) n = (refl, refl, refl, eq-eqb next next refl, record { world = record { arrays = refl; input = refl; out = refl }; values = λ v m l e. e })
alike_same old (Leaves k s) n = (refl, record { arrays = refl; input = refl; out = refl })
alike_same old (Stops k s) n = (refl, record { arrays = refl; input = refl; out = refl })

-- an exit arrives by its own edges
pub exit_ends : (meet : ℕ → ℕ → Bool) (b : ℕ) (x : Exit) (s : State) → ((c : ℕ) → IsIn c (targets_of x) → meet b c ≡ true) → EndsAt meet (leave b x s)
exit_ends meet b (Goto c) s h = h c (inl refl)
exit_ends meet b (Branch p c d) s h = by (s.values p)
  where
    way : (one : Bool) → EndsAt meet (if one then Arrives b c s else Arrives b d s)
    way true = h c (inl refl)
    way false = h d (inr (inl refl))

    by : (v : Content) → EndsAt meet (by_test v (Arrives b c s) (Arrives b d s))
    by None = tt
    by (Some z) = way (is_one z)
exit_ends meet b (Call g args result next) s h = by (known (map (held s) args))
  where
    by : (o : Option (List ℤ)) → EndsAt meet (calls g o result b next s)
    by None = tt
    by (Some ns) = tt
exit_ends meet b (Return x) s h = by (held s x)
  where
    by : (v : Content) → EndsAt meet (leaves v s)
    by None = tt
    by (Some n) = tt
exit_ends meet b (Ends k) s h = tt

-- what is like a hop that is not wrong is not wrong
pub not_wrong : (old : MixedGraph) (pairs : ℕ → ℕ → Bool) (f g : Hop) → (f ≡ Wrong → ⊥) → Alike old pairs f g → g ≡ Wrong → ⊥
not_wrong old pairs Wrong g n a e = n refl
not_wrong old pairs (Arrives b c s) g n a e = subst (λ z. Alike old pairs (Arrives b c s) z) e a
not_wrong old pairs (Calls f args result from next s) g n a e = subst (λ z. Alike old pairs (Calls f args result from next s) z) e a
not_wrong old pairs (Leaves k s) g n a e = subst (λ z. Alike old pairs (Leaves k s) z) e a
not_wrong old pairs (Stops k s) g n a e = subst (λ z. Alike old pairs (Stops k s) z) e a
