-- Without the copy on the off-trace edge the meaning is lost.
use Rattle.std.proofs.Common.{◌≡◌, ℕ, ℤ, pos, true, false, Some, None, [], ◌∷◌, cond, refl, sym, ap, ◌∙◌, subst, inl}
use Rattle.std.specs.Prelude.{nat_eq}
use Rattle.vx_base.specs.Arithmetic.{sum_of}
use Rattle.vx_flow.specs.Effects.{State, Setting, with_value}
use Rattle.vx_flow.specs.declared.graph.Operand.TheVariants.{Held}
use Rattle.vx_flow.specs.declared.graph.Exit.TheVariants.{Return}
use Rattle.vx_flow.specs.Meaning.{Hop, Arrives, Wrong}
use Rattle.vx_flow.proofs.Apart.{itself_apart}
use Rattle.vx_mixed.specs.Meaning.{hop}
use Rattle.vx_mixed.specs.Agree.{Segment, last, on, EndsAt, Agree, Alike}
use Rattle.vx_mixed.specs.Live.{Live, here, through_block}
use Rattle.vx_motion.specs.Sinking.{old, without_copy, meet_new, pairs, latency, RefusedWithoutCopy}

abbrev setting : Setting
setting = record { spot = λ a. a; texts = [] }

abbrev six : ℤ
six = sum_of (pos 1) (pos 5)

abbrev s : State
s = record { values = λ v. cond (nat_eq v 6) (Some (pos 0)) (cond (nat_eq v 2) (Some (pos 1)) None); arrays = []; input = []; out = [] }

abbrev H : ℕ → State → Hop
H = hop setting (1 ∷ []) latency without_copy

abbrev Like : Hop → Type 0
Like h = Alike old pairs (Arrives 0 2 (with_value s 1 (Some six))) h

live : Live old 2 1
live = here {p = record { words = []; exit = Return (Held 1) }} (through_block refl) (inl refl)

at_two : Like (Arrives 3 2 s) → ⊥
at_two a = let e = a.1.values 1 six live refl in cc

from_three : (u : State) (h : Hop) → u ≡ s → Segment H meet_new 3 u h → Like h → ⊥
from_three u h e (last r end) a = at_two (subst Like (sym r ∙ ap (λ z. Arrives 3 2 z) e) a)
from_three u h e (on {from = p} {to = q} {t = t} r inner rest) a =
    let f : Arrives 3 2 u ≡ Arrives p q t = r in
    let ep : p ≡ 3 = cc in
    let eq : q ≡ 2 = cc in
    let m : meet_new 3 2 ≡ false = subst (λ z. meet_new 3 z ≡ false) eq (subst (λ z. meet_new z q ≡ false) ep inner) in
    cc

from_zero : (u : State) (h : Hop) → u ≡ s → Segment H meet_new 0 u h → Like h → ⊥
from_zero u h e (last r end) a =
    let f : Arrives 0 3 s ≡ h = ap (H 0) (sym e) ∙ r in
    let m : meet_new 0 3 ≡ true = subst (EndsAt meet_new) (sym f) end in
    cc
from_zero u h e (on {from = p} {to = q} {t = t} r inner rest) a =
    let f : Arrives 0 3 s ≡ Arrives p q t = ap (H 0) (sym e) ∙ r in
    let eq : q ≡ 3 = cc in
    let et : t ≡ s = cc in
    from_three t h et (subst (λ z. Segment H meet_new z t h) eq rest) a

pub refused : RefusedWithoutCopy
refused same =
    let agree : Agree (Live old 0) s s = record { world = record { arrays = refl; input = refl; out = refl }; values = λ v n l e. e } in
    let r = same.leads setting (1 ∷ []) (1 ∷ []) 0 0 s s (Arrives 0 2 (with_value s 1 (Some six))) (itself_apart old.arrays) (λ e. let z : 1 ∷ [] ≡ [] = e in cc) (λ e. let z : 1 ∷ [] ≡ [] = e in cc) refl agree (last refl refl) (λ (e : Arrives 0 2 (with_value s 1 (Some six)) ≡ Wrong). cc) in
    from_zero s r.0 refl r.1 r.2
