-- Probes that are shown an event, one after another.
use Rattle.std.proofs.Common.{◌≡◌, ℕ, zero, suc, ◌+◌, ◌<◌, List, [], ◌∷◌, ◌++◌, length, map, take, drop, set, get_or, ap, ◌∙◌, arith}
use Rattle.vx_probe.specs.Watch.{Watch}

one_more : {A : Type 0} (items : List A) (watch : A → Watch) (f : Watch → Watch) (ws : List Watch) (i : ℕ) (d new : A) → i < length items → map watch items ≡ map f (take i ws) ++ drop i ws → watch new ≡ f (watch (get_or items i d))
    → map watch (set items i new) ≡ map f (take (suc i) ws) ++ drop (suc i) ws
one_more [] watch f ws i d new lt so_far e = absurd (omega arith)
one_more (a ∷ items) watch f [] zero d new lt so_far e = absurd (cc)
one_more (a ∷ items) watch f [] (suc i) d new lt so_far e = absurd (cc)
one_more (a ∷ items) watch f (w ∷ ws) zero d new lt so_far e = let x : watch a ≡ w = cc in let y : map watch items ≡ ws = cc in let z : watch new ≡ f w = e ∙ ap f x in cc
one_more (a ∷ items) watch f (w ∷ ws) (suc i) d new lt so_far e =
    let x : watch a ≡ f w = cc in
    let y : map watch items ≡ map f (take i ws) ++ drop i ws = cc in
    let z = one_more items watch f ws i d new (omega arith) y e in
    cc

pub shown_more : {A : Type 0} (items : List A) (watch : A → Watch) (f : Watch → Watch) (ws : List Watch) (i : ℕ) (d new : A) → i < length items → map watch items ≡ map f (take i ws) ++ drop i ws → watch new ≡ f (watch (get_or items i d))
    → map watch (set items i new) ≡ map f (take (i + 1) ws) ++ drop (i + 1) ws
shown_more items watch f ws i d new lt so_far e = let s : suc i ≡ i + 1 = omega arith in one_more items watch f ws i d new lt so_far e ∙ ap (λ n. map f (take n ws) ++ drop n ws) s
