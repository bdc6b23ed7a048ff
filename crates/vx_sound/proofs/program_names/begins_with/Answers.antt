use Rattle.std.proofs.Common.{◌≡◌, ℕ, zero, suc, ◌+◌, ◌-◌, ◌<◌, ◌≤◌, Bool, List, [], ◌∷◌, length, take, drop, get_or, true, false, refl, ap, sym, ◌∙◌, arith}
use Rattle.vx_flow.specs.declared.graph.Array.{Array}
use Rattle.vx_flow.specs.declared.graph.Global.{Global}
use Rattle.std.specs.Prelude.{◌&&◌}
use Rattle.std.proofs.lemmas.List.{drop_more, take_rest}
use Rattle.vx_flow.specs.Sound.{begins_with, is_global}
use Rattle.vx_sound.proofs.program_names.begins_with.Goals as goal

-- a global without an array
none_left : (gs : List Global) (i : ℕ) (xs : List Array) → i < length gs → length xs < 1 → begins_with (drop i gs) xs ≡ false
none_left [] i xs h k = absurd (omega arith)
none_left (g ∷ gs) i (x ∷ xs) h k = absurd (omega arith)
none_left (g ∷ gs) zero [] h k = refl
none_left (g ∷ gs) (suc i) [] h k = none_left gs i [] (omega arith) k

pub returns-in-empty : goal.returns-in-empty
returns-in-empty c = sym (c.loop-global.invariant ∙ none_left c.args.globals.now c.loop-global.global-index c.loop-global.left.now c.loop-global-test.true c.in-empty.len_below)

-- the next global, and the array that stands for it
next : (gs : List Global) (i : ℕ) (d : Global) (xs : List Array) (x : Array) → i < length gs → 1 ≤ length xs → begins_with (drop i gs) xs ≡ (is_global (get_or gs i d).words (get_or xs 0 x) && begins_with (drop (i + 1) gs) (drop 1 xs))
next gs i d [] x lt more = absurd (omega arith)
next gs i d (y ∷ xs) x lt more = ap (λ z. begins_with z (y ∷ xs)) (drop_more gs i d lt)

next_not : (gs : List Global) (i : ℕ) (d : Global) (xs : List Array) (x : Array) (b whole : Bool) → whole ≡ begins_with (drop i gs) xs → i < length gs → 1 ≤ length xs → b ≡ is_global (get_or gs i d).words (get_or xs 0 x) → b ≡ false → false ≡ whole
next_not gs i d xs x b whole e lt more h k = sym (e ∙ next gs i d xs x lt more ∙ ap (λ z. z && begins_with (drop (i + 1) gs) (drop 1 xs)) (sym h ∙ k))

next_more : (gs : List Global) (i : ℕ) (d : Global) (xs : List Array) (x : Array) (b whole : Bool) → whole ≡ begins_with (drop i gs) xs → i < length gs → 1 ≤ length xs → b ≡ is_global (get_or gs i d).words (get_or xs 0 x) → b ≡ true → whole ≡ begins_with (drop (i + 1) gs) (take (length xs - 1) (drop 1 xs))
next_more gs i d xs x b whole e lt more h k = e ∙ next gs i d xs x lt more ∙ ap (λ z. z && begins_with (drop (i + 1) gs) (drop 1 xs)) (sym h ∙ k) ∙ ap (begins_with (drop (i + 1) gs)) (sym (take_rest xs 1))

pub returns-then-not-is_global : goal.returns-then-not-is_global
returns-then-not-is_global c = next_not c.args.globals.now c.loop-global.global-index _ c.loop-global.left.now _ c.is_global.result _ c.loop-global.invariant c.loop-global-test.true c.in-len1-up.len_at_least c.is_global.ensures c.if-not-is_global.true

pub loop-global-preserved : goal.loop-global-preserved
loop-global-preserved c = next_more c.args.globals.now c.loop-global.global-index _ c.loop-global.left.now _ c.is_global.result _ c.loop-global.invariant c.loop-global-test.true c.in-len1-up.len_at_least c.is_global.ensures c.if-not-is_global.false
