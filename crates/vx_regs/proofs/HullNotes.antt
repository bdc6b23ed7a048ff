-- Notes of places, one after the other.
use Rattle.std.proofs.Common.{◌≡◌, ◌≢◌, ◌⊎◌, ◌<◌, ◌≤◌, ◌==◌, ℕ, zero, suc, Bool, true, false, Option, Some, None, List, [], ◌∷◌, ◌++◌, length, inl, inr, sym, ap, subst, refl, arith, ◌∙◌, nat_lt, lt-ltb}
use Rattle.std.specs.Prelude.{if◌then◌else◌, slice_set}
use Rattle.std.proofs.lemmas.Bool.{cases_lt, ltb-true}
use Rattle.std.proofs.lemmas.Bool.Decides.{eqb_tells}
use Rattle.std.proofs.lemmas.List.{get_or-set_same, get_or-set_other}
use Rattle.vx_regs.specs.declared.hulls.Hull.{Hull}
use Rattle.vx_regs.specs.Hulls.{At, AtEdge, Notes, Spanned, greater, hull_at, lesser, widened}

-- what is not below is at or above
leb-of : (a b : ℕ) → nat_lt a b ≡ false → b ≤ a
leb-of a b e = by (cases_lt a b)
  where
    by : (a < b) ⊎ (b ≤ a) → b ≤ a
    by (inl h) = absurd (let f : true ≡ false = sym (lt-ltb a b h) ∙ e in cc)
    by (inr h) = h

pub same_longer : (xs : List (Option Hull)) (v : ℕ) → hull_at (xs ++ (None ∷ [])) v ≡ hull_at xs v
same_longer [] zero = refl
same_longer [] (suc v) = refl
same_longer (x ∷ xs) zero = refl
same_longer (x ∷ xs) (suc v) = same_longer xs v

some_is : {A : Type 0} {x y : A} → Some x ≡ Some y → x ≡ y
some_is e = cc

-- a hull with one place more

record Widened (h : Option Hull) (place : ℕ) (w : Hull) : Type 0 where
  pub below : w.from ≤ place
  pub above : place ≤ w.to
  pub lower : (old : Hull) → h ≡ Some old → w.from ≤ old.from
  pub higher : (old : Hull) → h ≡ Some old → old.to ≤ w.to
  pub first : (w.from ≡ place) ⊎ ((old : Hull) × (h ≡ Some old) × (old.from ≡ w.from))
  pub last : (w.to ≡ place) ⊎ ((old : Hull) × (h ≡ Some old) × (old.to ≡ w.to))

lesser_is : (a b : ℕ) → (lesser a b ≤ a) × (lesser a b ≤ b) × ((lesser a b ≡ a) ⊎ (b ≡ lesser a b))
lesser_is a b = by (nat_lt a b) refl
  where
    by : (x : Bool) → nat_lt a b ≡ x → ((if x then a else b) ≤ a) × ((if x then a else b) ≤ b) × (((if x then a else b) ≡ a) ⊎ (b ≡ (if x then a else b)))
    by true e = let h : a < b = ltb-true a b e in (omega arith, omega arith, inl refl)
    by false e = let h : b ≤ a = leb-of a b e in (h, omega arith, inr refl)

greater_is : (a b : ℕ) → (a ≤ greater a b) × (b ≤ greater a b) × ((greater a b ≡ a) ⊎ (b ≡ greater a b))
greater_is a b = by (nat_lt b a) refl
  where
    by : (x : Bool) → nat_lt b a ≡ x → (a ≤ (if x then a else b)) × (b ≤ (if x then a else b)) × (((if x then a else b) ≡ a) ⊎ (b ≡ (if x then a else b)))
    by true e = let h : b < a = ltb-true b a e in (omega arith, omega arith, inl refl)
    by false e = let h : a ≤ b = leb-of b a e in (h, omega arith, inr refl)

widened_is : (h : Option Hull) (place : ℕ) → Widened h place (widened h place)
widened_is None place = record {
  below = let g : place ≤ place = omega arith in g;
  above = let g : place ≤ place = omega arith in g;
  lower = λ old e. absurd (let f : None ≡ Some old = e in cc);
  higher = λ old e. absurd (let f : None ≡ Some old = e in cc);
  first = inl refl;
  last = inl refl;
}
widened_is (Some h) place =
    let a = lesser_is place h.from in
    let b = greater_is place h.to in
    record {
      below = a.0;
      above = b.0;
      lower = λ old e. let g : h ≡ old = some_is e in subst (λ z. lesser place h.from ≤ z.from) g a.1;
      higher = λ old e. let g : h ≡ old = some_is e in subst (λ z. z.to ≤ greater place h.to) g b.1;
      first = low a.2;
      last = high b.2;
    }
  where
    low : (lesser place h.from ≡ place) ⊎ (h.from ≡ lesser place h.from) → (lesser place h.from ≡ place) ⊎ ((old : Hull) × (Some h ≡ Some old) × (old.from ≡ lesser place h.from))
    low (inl e) = inl e
    low (inr e) = inr (h, refl, e)

    high : (greater place h.to ≡ place) ⊎ (h.to ≡ greater place h.to) → (greater place h.to ≡ place) ⊎ ((old : Hull) × (Some h ≡ Some old) × (old.to ≡ greater place h.to))
    high (inl e) = inl e
    high (inr e) = inr (h, refl, e)

-- one note

same_or : (a b : ℕ) → (a ≡ b) ⊎ (a ≢ b)
same_or a b = by (eqb_tells a b)
  where
    by : (((a == b) ≡ true) × (a ≡ b)) ⊎ (((a == b) ≡ false) × (a ≡ b → ⊥)) → (a ≡ b) ⊎ (a ≢ b)
    by (inl g) = inl g.1
    by (inr g) = inr g.1

pub noted_one : (old between new : List (Option Hull)) (v place : ℕ) (h : Option Hull) → v < length between → ((u : ℕ) → hull_at between u ≡ hull_at old u) → h ≡ hull_at between v → new ≡ slice_set between v (Some (widened h place)) → Notes (At v place) old new
noted_one old between new v place h room same is e = subst (Notes (At v place) old) (sym e) (record {
  more = λ u p n. now u p n.0 n.1;
  kept = λ u p s. keep u p s (same_or u v);
  only = λ u p a. back u p a (same_or u v);
})
  where
    w : Widened h place (widened h place)
    w = widened_is h place

    there : hull_at (slice_set between v (Some (widened h place))) v ≡ Some (widened h place)
    there = get_or-set_same between v (Some (widened h place)) None room

    else_ : (u : ℕ) → u ≢ v → hull_at (slice_set between v (Some (widened h place))) u ≡ hull_at old u
    else_ u ne = get_or-set_other between v u (Some (widened h place)) None ne ∙ same u

    was : hull_at old v ≡ h
    was = sym (same v) ∙ sym is

    now : (u p : ℕ) → u ≡ v → p ≡ place → Spanned (slice_set between v (Some (widened h place))) u p
    now u p a b = subst (λ z. Spanned (slice_set between v (Some (widened h place))) z p) (sym a) (subst (Spanned (slice_set between v (Some (widened h place))) v) (sym b)
        (record { hull = widened h place; is = there; below = w.below; above = w.above }))

    keep : (u p : ℕ) → Spanned old u p → (u ≡ v) ⊎ (u ≢ v) → Spanned (slice_set between v (Some (widened h place))) u p
    keep u p s (inl a) =
        let f : h ≡ Some s.hull = sym was ∙ ap (hull_at old) (sym a) ∙ s.is in
        let x = w.lower s.hull f in
        let y = w.higher s.hull f in
        let b = s.below in
        let c = s.above in
        record { hull = widened h place; is = ap (hull_at (slice_set between v (Some (widened h place)))) a ∙ there; below = omega arith; above = omega arith }
    keep u p s (inr ne) = record { hull = s.hull; is = else_ u ne ∙ s.is; below = s.below; above = s.above }

    first : (p : ℕ) → (widened h place).from ≡ p → ((widened h place).from ≡ place) ⊎ ((o : Hull) × (h ≡ Some o) × (o.from ≡ (widened h place).from)) → (p ≡ place) ⊎ AtEdge old v p
    first p e (inl a) = inl (sym e ∙ a)
    first p e (inr b) = inr (record { hull = b.0; is = was ∙ b.1; edge = inl (b.2 ∙ e) })

    last : (p : ℕ) → (widened h place).to ≡ p → ((widened h place).to ≡ place) ⊎ ((o : Hull) × (h ≡ Some o) × (o.to ≡ (widened h place).to)) → (p ≡ place) ⊎ AtEdge old v p
    last p e (inl a) = inl (sym e ∙ a)
    last p e (inr b) = inr (record { hull = b.0; is = was ∙ b.1; edge = inr (b.2 ∙ e) })

    edges : (p : ℕ) (x : Hull) → widened h place ≡ x → (x.from ≡ p) ⊎ (x.to ≡ p) → (p ≡ place) ⊎ AtEdge old v p
    edges p x f (inl a) = first p (ap (λ z. z.from) f ∙ a) w.first
    edges p x f (inr a) = last p (ap (λ z. z.to) f ∙ a) w.last

    at : (u p : ℕ) → u ≡ v → (p ≡ place) ⊎ AtEdge old v p → ((u ≡ v) × (p ≡ place)) ⊎ AtEdge old u p
    at u p e (inl a) = inl (e, a)
    at u p e (inr b) = inr (subst (λ z. AtEdge old z p) (sym e) b)

    back : (u p : ℕ) → AtEdge (slice_set between v (Some (widened h place))) u p → (u ≡ v) ⊎ (u ≢ v) → ((u ≡ v) × (p ≡ place)) ⊎ AtEdge old u p
    back u p a (inl e) = at u p e (edges p a.hull (some_is (sym there ∙ ap (hull_at (slice_set between v (Some (widened h place)))) (sym e) ∙ a.is)) a.edge)
    back u p a (inr ne) = inr (record { hull = a.hull; is = sym (else_ u ne) ∙ a.is; edge = a.edge })

-- notes of nothing, of both, and of the same

pub notes_none : (noted : ℕ → ℕ → Type 0) (a : List (Option Hull)) → ((v p : ℕ) → noted v p → ⊥) → Notes noted a a
notes_none noted a none = record { more = λ v p n. absurd (none v p n); kept = λ v p s. s; only = λ v p e. inr e }

pub notes_both : (one other noted : ℕ → ℕ → Type 0) (a b c : List (Option Hull)) → ((v p : ℕ) → noted v p → one v p ⊎ other v p) → ((v p : ℕ) → one v p → noted v p) → ((v p : ℕ) → other v p → noted v p) → Notes one a b → Notes other b c → Notes noted a c
notes_both one other noted a b c split left right n m = record {
  more = λ v p i. by v p (split v p i);
  kept = λ v p s. m.kept v p (n.kept v p s);
  only = λ v p e. back v p (m.only v p e);
}
  where
    by : (v p : ℕ) → one v p ⊎ other v p → Spanned c v p
    by v p (inl i) = m.kept v p (n.more v p i)
    by v p (inr i) = m.more v p i

    deeper : (v p : ℕ) → one v p ⊎ AtEdge a v p → noted v p ⊎ AtEdge a v p
    deeper v p (inl i) = inl (left v p i)
    deeper v p (inr e) = inr e

    back : (v p : ℕ) → other v p ⊎ AtEdge b v p → noted v p ⊎ AtEdge a v p
    back v p (inl i) = inl (right v p i)
    back v p (inr e) = deeper v p (n.only v p e)

pub notes_same : (one noted : ℕ → ℕ → Type 0) (a b : List (Option Hull)) → ((v p : ℕ) → noted v p → one v p) → ((v p : ℕ) → one v p → noted v p) → Notes one a b → Notes noted a b
notes_same one noted a b there back n = record { more = λ v p i. n.more v p (there v p i); kept = n.kept; only = λ v p e. by v p (n.only v p e) }
  where
    by : (v p : ℕ) → one v p ⊎ AtEdge a v p → noted v p ⊎ AtEdge a v p
    by v p (inl i) = inl (back v p i)
    by v p (inr e) = inr e
