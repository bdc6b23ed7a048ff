-- What standing says of two states: a number in the old one is the same number at its name in the new one.
use Rattle.std.proofs.Common.{◌≡◌, ℕ, ◌==◌, Bool, true, false, cond, ℤ, List, [], ◌∷◌, Option, Some, None, refl, sym, ◌∙◌, subst, eq-eqb}
use Rattle.std.proofs.lemmas.Bool.{and_parts, false≢true, eqb-true}
use Rattle.std.specs.Prelude.{◌&&◌, not}
use Rattle.std.specs.List.{list_all}
use Rattle.vx_flow.specs.Effects.{Content}
use Rattle.vx_flow.specs.Meaning.{at_entry, with_result}
use Rattle.vx_flow.proofs.EffectsAlike.{Refined}
use Rattle.vx_rename.specs.declared.names.Name.{Name}
use Rattle.vx_rename.specs.declared.names.BlockNames.{BlockNames}
use Rattle.vx_rename.specs.Renaming.{Standing, nowhere, place, clear, put, put_if, forget, place_all, starting, renamed_result, carries, enters_at}

abbrev pub Tied : Standing → (ℕ → Content) → (ℕ → Content) → Type 0
Tied n x y = (v : ℕ) → n.stands v ≡ true → Refined (x v) (y (n.name v))

pub refined_itself : (x : Content) → Refined x x
refined_itself x n e = e

-- v stands at w too where it is refined there and no other old value changed
pub tied_place : (n : Standing) (v w : ℕ) (x y x' : ℕ → Content) → Tied n x y → Refined (x' v) (y w) → ((u : ℕ) → (u == v) ≡ false → Refined (x' u) (x u)) → Tied (place n v w) x' y
tied_place n v w x y x' tied there old u h = by (u == v) refl h
  where
    by : (a : Bool) → (u == v) ≡ a → cond a true (n.stands u) ≡ true → Refined (x' u) (y (cond a w (n.name u)))
    by true q k = subst (λ z. Refined (x' z) (y w)) (sym (eqb-true u v q)) there
    by false q k = λ m e. tied u k m (old u q m e)

-- w alone changed
tied_clear : (n : Standing) (w : ℕ) (x y y' : ℕ → Content) → Tied n x y → ((z : ℕ) → (z == w) ≡ false → Refined (y z) (y' z)) → Tied (clear n w) x y'
tied_clear n w x y y' tied new u h = by (n.name u == w) refl h
  where
    by : (a : Bool) → (n.name u == w) ≡ a → cond a false (n.stands u) ≡ true → Refined (x u) (y' (n.name u))
    by true q k = absurd (false≢true k)
    by false q k = λ m e. new (n.name u) q m (tied u k m e)

-- v stands at w where it is refined there and nothing else changed
pub tied_put : (n : Standing) (v w : ℕ) (x y x' y' : ℕ → Content) → Tied n x y → Refined (x' v) (y' w) → ((u : ℕ) → (u == v) ≡ false → Refined (x' u) (x u)) → ((z : ℕ) → (z == w) ≡ false → Refined (y z) (y' z)) → Tied (put n v w) x' y'
tied_put n v w x y x' y' tied there old new = tied_place (clear n w) v w x y' x' (tied_clear n w x y y' tied new) there old

pub tied_here : (n : Standing) (v w : ℕ) (x y : ℕ → Content) → Tied n x y → Refined (x v) (y w) → Tied (place n v w) x y
tied_here n v w x y tied there = tied_place n v w x y x tied there (λ u q m e. e)

pub written_there : (v u : ℕ) (a b : Content) (same : Bool) → same ≡ true → Refined (cond same a b) a
written_there v u a b true q m e = e
written_there v u a b false q m e = absurd (false≢true q)

there_written : (a b : Content) (same : Bool) → same ≡ true → Refined a (cond same a b)
there_written a b true q m e = e
there_written a b false q m e = absurd (false≢true q)

pub elsewhere_read : (a b : Content) (same : Bool) → same ≡ false → Refined (cond same a b) b
elsewhere_read a b true q m e = absurd (false≢true (sym q))
elsewhere_read a b false q m e = e

elsewhere_written : (a b : Content) (same : Bool) → same ≡ false → Refined b (cond same a b)
elsewhere_written a b true q m e = absurd (false≢true (sym q))
elsewhere_written a b false q m e = e

-- v is written, and so is its new name
pub tied_written : (n : Standing) (v w : ℕ) (x y : ℕ → Content) (a b : Content) → Tied n x y → Refined a b → Tied (put n v w) (λ u. cond (u == v) a (x u)) (λ u. cond (u == w) b (y u))
tied_written n v w x y a b tied r =
    tied_put n v w x y (λ u. cond (u == v) a (x u)) (λ u. cond (u == w) b (y u)) tied
    (λ m e. there_written b (y w) (w == w) (eq-eqb w w refl) m (r m (written_there v v a (x v) (v == v) (eq-eqb v v refl) m e)))
    (λ u q. elsewhere_read a (x u) (u == v) q)
    (λ z q. elsewhere_written b (y z) (z == w) q)

pub tied_result : (n : Standing) (result : Option ℕ) (w : ℕ) (x y : ℕ → Content) (k : ℤ) → Tied n x y → Tied (put_if n result w) (with_result x result k) (with_result y (renamed_result w result) k)
tied_result n None w x y k tied = tied
tied_result n (Some v) w x y k tied = tied_written n v w x y (Some k) (Some k) tied (refined_itself (Some k))

-- v was written in the old state alone, and stands nowhere
pub tied_forgotten : (n : Standing) (v : ℕ) (x y x' : ℕ → Content) → Tied n x y → ((u : ℕ) → (u == v) ≡ false → x' u ≡ x u) → Tied (forget n v) x' y
tied_forgotten n v x y x' tied same u h = by (u == v) refl h
  where
    by : (a : Bool) → (u == v) ≡ a → cond a false (n.stands u) ≡ true → Refined (x' u) (y (n.name u))
    by true q k = absurd (false≢true k)
    by false q k = λ m e. tied u k m (sym (same u q) ∙ e)

-- ---- at the start of a block

-- each of these old values is at its name
abbrev pub AllAt : List Name → (ℕ → Content) → (ℕ → Content) → Type 0
AllAt [] x y = Unit {0}
AllAt (p ∷ ps) x y = Refined (x p.old) (y p.new) × AllAt ps x y

pub carried : (n : Standing) (xs : List Name) (x y : ℕ → Content) → Tied n x y → carries n xs ≡ true → AllAt xs x y
carried n [] x y tied h = tt
carried n (p ∷ ps) x y tied h =
    let both = and_parts _ _ h in
    let one = and_parts (n.stands p.old) (n.name p.old == p.new) both.0 in
    (subst (λ w. Refined (x p.old) (y w)) (eqb-true (n.name p.old) p.new one.1) (tied p.old one.0), carried n ps x y tied both.1)

place_all_tied : (n : Standing) (xs : List Name) (x y : ℕ → Content) → Tied n x y → AllAt xs x y → Tied (place_all n xs) x y
place_all_tied n [] x y tied h = tied
place_all_tied n (p ∷ ps) x y tied h = place_all_tied (place n p.old p.new) ps x y (tied_here n p.old p.new x y tied h.0) h.1

pub start_tied : (n : ℕ → ℕ) (names : BlockNames) (x y : ℕ → Content) → AllAt names.start x y → Tied (starting n names) x y
start_tied n names x y h = place_all_tied (nowhere n) names.start x y (λ v e. absurd (false≢true e)) h

-- ---- at the entry

not_true : (b : Bool) → not b ≡ true → b ≡ false
not_true true h = absurd (false≢true h)
not_true false h = refl

entry_refined : (old new : List ℕ) (ns : List ℤ) (v w : ℕ) → enters_at old new v w ≡ true → Refined (at_entry old ns v) (at_entry new ns w)
entry_refined [] new ns v w h m e = absurd (cc)
entry_refined (q ∷ qs) [] ns v w h m e = absurd (false≢true h)
entry_refined (q ∷ qs) (r ∷ rs) [] v w h m e = absurd (cc)
entry_refined (q ∷ qs) (r ∷ rs) (n ∷ ns) v w h m e = by (v == q) (w == r) h e (λ k. entry_refined qs rs ns v w k)
  where
    by : (a b : Bool) → cond a b (not b && enters_at qs rs v w) ≡ true → cond a (Some n) (at_entry qs ns v) ≡ Some m → (enters_at qs rs v w ≡ true → Refined (at_entry qs ns v) (at_entry rs ns w)) → cond b (Some n) (at_entry rs ns w) ≡ Some m
    by true true k f rec = f
    by true false k f rec = absurd (false≢true k)
    by false true k f rec = absurd (false≢true k)
    by false false k f rec = rec k m f

pub entry_at : (xs : List Name) (old new : List ℕ) (ns : List ℤ) → list_all (λ (p : Name). enters_at old new p.old p.new) xs ≡ true → AllAt xs (at_entry old ns) (at_entry new ns)
entry_at [] old new ns h = tt
entry_at (p ∷ ps) old new ns h =
    let both = and_parts _ _ h in
    (entry_refined old new ns p.old p.new both.0, entry_at ps old new ns both.1)
