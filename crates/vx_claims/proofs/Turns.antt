-- A list whose items are tested one after the other: the next one passes, or it does not.
use Rattle.std.proofs.Common.{◌≡◌, ◌==◌, ℕ, ◌+◌, ◌<◌, Bool, true, false, ◌&&◌, ◌||◌, List, [], ◌∷◌, ◌++◌, length, take, drop, get_or, refl, ap, sym, ◌∙◌}
use Rattle.std.specs.List.{list_all, list_any}
use Rattle.std.proofs.lemmas.List.{append_assoc, at_drop_more}
use Rattle.std.proofs.lemmas.List.Folds.{list_all_at, list_all_more, list_any_at, list_any_more}
use Rattle.vx_claims.specs.declared.fact.Fact.{Fact}
use Rattle.vx_claims.specs.declared.fact.Fact.TheVariants.{Between, Congruent, Equals, Never}
use Rattle.vx_claims.specs.declared.access.Access.{Access}
use Rattle.vx_claims.specs.Facts.{kept_if, learned, learned_if, names, without}
use Rattle.vx_flow.specs.declared.graph.Array.{Array}
use Rattle.vx_claims.specs.Accesses.{mentions, touches, unless, unmentioned, untouched}

module _ {X : Type 0} (p : X → Bool) (xs : List X) (i : ℕ) (d : X) (b : Bool) (inside : i < length xs) where
  pub passed_more : list_all p (take i xs) ≡ true → b ≡ p (get_or xs i d) → b ≡ true → list_all p (take (i + 1) xs) ≡ true
  passed_more all is one = list_all_more p xs i d inside ∙ ap (λ z. z && p (get_or xs i d)) all ∙ sym is ∙ one

  pub not_passed : b ≡ p (get_or xs i d) → b ≡ false → false ≡ list_all p xs
  not_passed is none = sym (list_all_at p xs i d inside (sym is ∙ none))

  pub named_more : list_any p (take i xs) ≡ false → b ≡ p (get_or xs i d) → b ≡ false → list_any p (take (i + 1) xs) ≡ false
  named_more none is this = list_any_more p xs i d inside ∙ ap (λ z. z || p (get_or xs i d)) none ∙ sym is ∙ this

  pub one_named : b ≡ p (get_or xs i d) → b ≡ true → true ≡ list_any p xs
  one_named is one = sym (list_any_at p xs i d inside (sym is ∙ one))

-- ---- what is put at the end of a list, item by item

pub kept_turn : {X : Type 0} (f : List X → List X) (start list new all : List X) (i : ℕ) (d : X) → i < length all → list ++ f (drop i all) ≡ start → f (get_or all i d ∷ drop (i + 1) all) ≡ get_or all i d ∷ f (drop (i + 1) all) →
    new ≡ list ++ get_or all i d ∷ [] → new ++ f (drop (i + 1) all) ≡ start
kept_turn f start list new all i d n so e p =
    ap (λ l. l ++ f (drop (i + 1) all)) p ∙ append_assoc list (get_or all i d ∷ []) (f (drop (i + 1) all)) ∙ ap (λ l. list ++ l) (sym e)
    ∙ sym (at_drop_more (λ l. list ++ f l) all i d n) ∙ so

pub passed_turn : {X : Type 0} (f : List X → List X) (start list new all : List X) (i : ℕ) (d : X) → i < length all → list ++ f (drop i all) ≡ start → f (get_or all i d ∷ drop (i + 1) all) ≡ f (drop (i + 1) all) →
    new ≡ list → new ++ f (drop (i + 1) all) ≡ start
passed_turn f start list new all i d n so e p =
    ap (λ l. l ++ f (drop (i + 1) all)) p ∙ ap (λ l. list ++ l) (sym e)
    ∙ sym (at_drop_more (λ l. list ++ f l) all i d n) ∙ so

pub unmentioned_kept : (v : ℕ) (x : Access) (xs : List Access) → mentions v x ≡ false → unmentioned v (x ∷ xs) ≡ x ∷ unmentioned v xs
unmentioned_kept v x xs e = ap (λ (b : Bool). unless b x (unmentioned v xs)) e

pub unmentioned_passed : (v : ℕ) (x : Access) (xs : List Access) → mentions v x ≡ true → unmentioned v (x ∷ xs) ≡ unmentioned v xs
unmentioned_passed v x xs e = ap (λ (b : Bool). unless b x (unmentioned v xs)) e

pub untouched_kept : (arrays : List Array) (a : ℕ) (x : Access) (xs : List Access) → touches arrays a x ≡ false → untouched arrays a (x ∷ xs) ≡ x ∷ untouched arrays a xs
untouched_kept arrays a x xs e = ap (λ (b : Bool). unless b x (untouched arrays a xs)) e

pub untouched_passed : (arrays : List Array) (a : ℕ) (x : Access) (xs : List Access) → touches arrays a x ≡ true → untouched arrays a (x ∷ xs) ≡ untouched arrays a xs
untouched_passed arrays a x xs e = ap (λ (b : Bool). unless b x (untouched arrays a xs)) e

pub without_kept : (v : ℕ) (f : Fact) (fs : List Fact) → names v f ≡ false → without v (f ∷ fs) ≡ f ∷ without v fs
without_kept v f fs e = ap (λ (b : Bool). kept_if b f (without v fs)) e

pub without_passed : (v : ℕ) (f : Fact) (fs : List Fact) → names v f ≡ true → without v (f ∷ fs) ≡ without v fs
without_passed v f fs e = ap (λ (b : Bool). kept_if b f (without v fs)) e

pub learned_front : (all : List Fact) (answer : Bool) (p : ℕ) (f : Fact) (fs : List Fact) → learned all answer p (f ∷ fs) ≡ learned all answer p (f ∷ []) ++ learned all answer p fs
learned_front all answer p (Between u i) fs = refl
learned_front all answer p (Congruent u c) fs = refl
learned_front all answer p Never fs = refl
learned_front all answer p (Equals u code a b) fs = sym (append_assoc (learned_if (u == p) all answer code a b) [] (learned all answer p fs))

pub learned_turn : (all start list new : List Fact) (answer : Bool) (p i : ℕ) (d : Fact) → i < length all → list ++ learned all answer p (drop i all) ≡ start → new ≡ list ++ learned all answer p (get_or all i d ∷ []) →
    new ++ learned all answer p (drop (i + 1) all) ≡ start
learned_turn all start list new answer p i d n so e =
    let one = learned all answer p (get_or all i d ∷ []) in
    let later = learned all answer p (drop (i + 1) all) in
    ap (λ l. l ++ later) e ∙ append_assoc list one later ∙ ap (λ l. list ++ l) (sym (learned_front all answer p (get_or all i d) (drop (i + 1) all)))
    ∙ sym (at_drop_more (λ l. list ++ learned all answer p l) all i d n) ∙ so
