-- The first word that the delays of an operation allow, by the list of those that it has to stand behind.
use Rattle.std.proofs.Common.{◌≡◌, ℕ, ◌<◌, ◌≤◌, ◌⊎◌, inl, inr, ◌+◌, max, List, [], ◌∷◌, Option, Some, None, sym, ◌∙◌, refl, ap, subst, arith}
use Rattle.std.proofs.lemmas.Bool.{cases_lt}
use Rattle.std.proofs.lemmas.Option.{same_Some, none-some}
use Rattle.vx_flow.specs.declared.trace.Trace.{Trace}
use Rattle.vx_flow.specs.Effects.{IsIn}
use Rattle.vx_isa.specs.Numbers.{Numbers}
use Rattle.vx_dep.specs.declared.mode.Mode.{Mode}
use Rattle.vx_dep.specs.declared.earlier.Earlier.{Earlier}
use Rattle.vx_dep.specs.Delays.{Applies}
use Rattle.vx_dep.specs.Earlier.{AreEarlier}
use Rattle.vx_sched.specs.Filling.{word_in, later_of, ready_over, IsReadySoFar}

-- the operations of a list that have words are waited for
record AreMet (words : List (Option ℕ)) (before after : ℕ) (list : List Earlier) : Type 0 where
  stays : before ≤ after
  met : (e : Earlier) (w : ℕ) → IsIn e list → word_in words e.place ≡ Some w → w + e.delay ≤ after
  reached : (after ≡ before) ⊎ ((e : Earlier) × (w : ℕ) × IsIn e list × (word_in words e.place ≡ Some w) × (after ≡ w + e.delay))

module _ (words : List (Option ℕ)) where
  abbrev one_word : Earlier → Option ℕ
  one_word e = word_in words e.place

  without : (ready after : ℕ) (e : Earlier) (es : List Earlier) → one_word e ≡ None → AreMet words ready after es → AreMet words ready after (e ∷ es)
  without ready after e es f more = record { stays = more.stays; met = met; reached = reached more.reached }
    where
      met : (x : Earlier) (w : ℕ) → IsIn x (e ∷ es) → one_word x ≡ Some w → w + x.delay ≤ after
      met x w (inl same) g = absurd (none-some w (sym f ∙ ap one_word (sym same) ∙ g))
      met x w (inr there) g = more.met x w there g

      reached : (after ≡ ready) ⊎ ((x : Earlier) × (w : ℕ) × IsIn x es × (one_word x ≡ Some w) × (after ≡ w + x.delay)) → (after ≡ ready) ⊎ ((x : Earlier) × (w : ℕ) × IsIn x (e ∷ es) × (one_word x ≡ Some w) × (after ≡ w + x.delay))
      reached (inl h) = inl h
      reached (inr (x, w, there, g, h)) = inr (x, w, inr there, g, h)

  with_word : (ready u after : ℕ) (e : Earlier) (es : List Earlier) → one_word e ≡ Some u → AreMet words (max ready (u + e.delay)) after es → AreMet words ready after (e ∷ es)
  with_word ready u after e es f more = record { stays = let s = more.stays in omega (arith, s); met = met; reached = reached more.reached (cases_lt ready (u + e.delay)) }
    where
      met : (x : Earlier) (w : ℕ) → IsIn x (e ∷ es) → one_word x ≡ Some w → w + x.delay ≤ after
      met x w (inl same) g =
          let v : w ≡ u = same_Some w u (sym g ∙ ap one_word same ∙ f) in
          let d : x.delay ≡ e.delay = ap (λ (y : Earlier). y.delay) same in
          let s = more.stays in
          omega (arith, v, d, s)
      met x w (inr there) g = more.met x w there g

      reached : (after ≡ max ready (u + e.delay)) ⊎ ((x : Earlier) × (w : ℕ) × IsIn x es × (one_word x ≡ Some w) × (after ≡ w + x.delay)) → (ready < u + e.delay) ⊎ (u + e.delay ≤ ready) → (after ≡ ready) ⊎ ((x : Earlier) × (w : ℕ) × IsIn x (e ∷ es) × (one_word x ≡ Some w) × (after ≡ w + x.delay))
      reached (inl h) (inl less) = inr (e, u, inl refl, f, omega (arith, h, less))
      reached (inl h) (inr more) = inl (omega (arith, h, more))
      reached (inr (x, w, there, g, h)) any = inr (x, w, inr there, g, h)

  all_met : (ready : ℕ) (list : List Earlier) → AreMet words ready (ready_over words ready list) list
  all_met ready [] = record { stays = omega arith; met = λ e w i. absurd i; reached = inl refl }
  all_met ready (e ∷ es) = by (one_word e) refl (all_met (later_of ready (one_word e) e.delay) es)
    where
      by : (o : Option ℕ) → one_word e ≡ o → AreMet words (later_of ready o e.delay) (ready_over words (later_of ready o e.delay) es) es → AreMet words ready (ready_over words (later_of ready o e.delay) es) (e ∷ es)
      by None f more = without ready (ready_over words ready es) e es f more
      by (Some u) f more = with_word ready u (ready_over words (max ready (u + e.delay)) es) e es f more

pub ready_is : (m : Numbers) (mode : Mode) (t : Trace) (words : List (Option ℕ)) (o ready : ℕ) (list : List Earlier) → AreEarlier m mode t o o list → ready ≡ ready_over words 0 list → IsReadySoFar m mode t words o o ready
ready_is m mode t words o ready list earlier e = subst (IsReadySoFar m mode t words o o) (sym e) (record { met = met; reached = reached (all_met words 0 list).reached })
  where
    met : (i delay w : ℕ) → i < o → Applies m mode t i o delay → word_in words i ≡ Some w → w + delay ≤ ready_over words 0 list
    met i d w l a f =
        let is = earlier.whole i d l a in
        let v = (all_met words 0 list).met is.entry w is.is (ap (word_in words) is.place ∙ f) in
        let z = is.delay in
        omega (arith, v, z)

    reached : (ready_over words 0 list ≡ 0) ⊎ ((x : Earlier) × (w : ℕ) × IsIn x list × (word_in words x.place ≡ Some w) × (ready_over words 0 list ≡ w + x.delay)) → (ready_over words 0 list ≡ 0) ⊎ ((i : ℕ) × (delay : ℕ) × (w : ℕ) × Applies m mode t i o delay × (word_in words i ≡ Some w) × (ready_over words 0 list ≡ w + delay))
    reached (inl h) = inl h
    reached (inr (x, w, there, g, h)) = inr (x.place, x.delay, w, (earlier.sound x there).applies, g, h)
