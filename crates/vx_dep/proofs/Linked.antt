-- Places are put at the ends of chains, and what was put stays so.
use Rattle.std.proofs.Common.{◌≡◌, ◌<◌, ◌≤◌, ◌⊎◌, inl, inr, ◌+◌, ℕ, zero, suc, refl, sym, ◌∙◌, ap, arith, subst, Some, slice_get, slice_set, length, List, [], ◌∷◌, ◌++◌}
use Rattle.std.proofs.lemmas.Bool.{cases_eq}
use Rattle.std.proofs.lemmas.List.{length-append, get_or_past, get_or-set_same, get_or-set_other}
use Rattle.vx_dep.specs.declared.links.Link.{Link}
use Rattle.vx_dep.specs.Links.{head_at, OnChain, here, there, AreBefore, AreHeads, IsPut, PutsStay}

-- entries

still_there : (links more : List Link) (k : ℕ) (l : Link) → slice_get links k ≡ Some l → slice_get (links ++ more) k ≡ Some l
still_there [] more k l e = absurd cc
still_there (x ∷ links) more zero l e = e
still_there (x ∷ links) more (suc k) l e = still_there links more k l e

last_there : (links : List Link) (l : Link) → slice_get (links ++ l ∷ []) (length links) ≡ Some l
last_there [] l = refl
last_there (x ∷ links) l = last_there links l

longer : (links : List Link) (l x : Link) (k : ℕ) → slice_get (links ++ l ∷ []) k ≡ Some x → (slice_get links k ≡ Some x) ⊎ ((k ≡ length links) × (x ≡ l))
longer [] l x zero e = let h : x ≡ l = cc in inr (refl, h)
longer [] l x (suc k) e = absurd cc
longer (y ∷ links) l x zero e = inl e
longer (y ∷ links) l x (suc k) e = by (longer links l x k e)
  where
    by : (slice_get links k ≡ Some x) ⊎ ((k ≡ length links) × (x ≡ l)) → (slice_get links k ≡ Some x) ⊎ ((suc k ≡ suc (length links)) × (x ≡ l))
    by (inl h) = inl h
    by (inr (h, i)) = inr (ap suc h, i)

-- the entry before one was put before it

pub none_before : (links : List Link) → links ≡ [] → AreBefore links
none_before links e = subst AreBefore (sym e) (λ k l h. absurd cc)

pub one_before : (links others : List Link) (l : Link) → AreBefore links → l.before ≤ length links → others ≡ links ++ l ∷ [] → AreBefore others
one_before links others l so least e = subst AreBefore (sym e) (λ k x h. by k x (longer links l x k h))
  where
    by : (k : ℕ) (x : Link) → (slice_get links k ≡ Some x) ⊎ ((k ≡ length links) × (x ≡ l)) → x.before ≤ k
    by k x (inl h) = so k x h
    by k x (inr (h, i)) = let f : x.before ≡ l.before = ap (λ (y : Link). y.before) i in omega (arith, f, h, least)

-- heads

pub no_heads : (heads : List ℕ) (links : List Link) → heads ≡ [] → AreHeads heads links
no_heads heads links e row = let f : head_at heads row ≡ 0 = ap (λ hs. head_at hs row) e ∙ none row in omega (arith, f)
  where
    none : (row : ℕ) → head_at [] row ≡ 0
    none row = get_or_past [] row 0 (omega arith)

pub same_heads : (heads others : List ℕ) (links : List Link) → AreHeads heads links → ((row : ℕ) → head_at others row ≡ head_at heads row) → AreHeads others links
same_heads heads others links so same row = let f = same row in let l = so row in omega (arith, f, l)

pub more_heads : (heads : List ℕ) (links others : List Link) (l : Link) → AreHeads heads links → others ≡ links ++ l ∷ [] → AreHeads heads others
more_heads heads links others l so e row = let n = ap length e in let m = length-append links (l ∷ []) in let k = so row in omega (arith, n, m, k)

pub set_heads : (heads : List ℕ) (links : List Link) (row n : ℕ) → AreHeads heads links → row < length heads → n ≡ length links → AreHeads (slice_set heads row n) links
set_heads heads links row n so inside e other = by (cases_eq other row)
  where
    by : (other ≡ row) ⊎ (other ≡ row → ⊥) → head_at (slice_set heads row n) other ≤ length links
    by (inl same) = let h = get_or-set_same heads row n 0 inside in let f : head_at (slice_set heads row n) other ≡ head_at (slice_set heads row n) row = ap (head_at (slice_set heads row n)) same in omega (arith, h, f, e)
    by (inr differs) = let h = get_or-set_other heads row other n 0 differs in let l = so other in omega (arith, h, l)

pub longer_head : (heads : List ℕ) (row : ℕ) → head_at (heads ++ 0 ∷ []) row ≡ head_at heads row
longer_head [] zero = refl
longer_head [] (suc row) = refl
longer_head (h ∷ heads) zero = refl
longer_head (h ∷ heads) (suc row) = longer_head heads row

-- chains

still_on : (links more : List Link) (i at : ℕ) → OnChain links i at → OnChain (links ++ more) i at
still_on links more i at (here _ k l e f g) = here at k l e (still_there links more k l f) g
still_on links more i at (there _ k l e f rest) = there at k l e (still_there links more k l f) (still_on links more i l.before rest)

-- a place is put at the end of a chain of which this was the last entry
module _ (heads reached : List ℕ) (links others : List Link) (row place n : ℕ) (same : (other : ℕ) → head_at reached other ≡ head_at heads other) (inside : row < length reached) (e : others ≡ links ++ record { place = place; before = head_at reached row } ∷ []) (count : n ≡ length others) where
  abbrev new : Link
  new = record { place = place; before = head_at reached row }

  long : n ≡ length links + 1
  long = count ∙ ap length e ∙ length-append links (new ∷ [])

  at_row : head_at (slice_set reached row n) row ≡ n
  at_row = get_or-set_same reached row n 0 inside

  there_now : slice_get others (length links) ≡ Some new
  there_now = ap (λ ls. slice_get ls (length links)) e ∙ last_there links new

  pub is_put : IsPut (slice_set reached row n) others row place
  is_put = subst (OnChain others place) (sym at_row) (here n (length links) new long there_now refl)

  on_more : (i at : ℕ) → OnChain links i at → OnChain others i at
  on_more i at on = subst (λ ls. OnChain ls i at) (sym e) (still_on links (new ∷ []) i at on)

  pub puts_stay : PutsStay heads links (slice_set reached row n) others
  puts_stay other i on = by (cases_eq other row)
    where
      before : OnChain others i (head_at reached other)
      before = subst (OnChain others i) (sym (same other)) (on_more i (head_at heads other) on)

      by : (other ≡ row) ⊎ (other ≡ row → ⊥) → IsPut (slice_set reached row n) others other i
      by (inr differs) = subst (OnChain others i) (sym (get_or-set_other reached row other n 0 differs)) before
      by (inl f) = subst (λ r. IsPut (slice_set reached row n) others r i) (sym f)
          (subst (OnChain others i) (sym at_row) (there n (length links) new long there_now (subst (λ r. OnChain others i (head_at reached r)) f before)))

-- a walk along a chain

-- what is in the chain that ends with an entry is the entry's place, or in the chain before it
pub first_or_before : (links : List Link) (i at k : ℕ) (l : Link) → at ≡ k + 1 → slice_get links k ≡ Some l → OnChain links i at → (i ≡ l.place) ⊎ OnChain links i l.before
first_or_before links i at k l e f (here _ j x g h p) = let s : j ≡ k = omega (arith, e, g) in let t : Some x ≡ Some l = sym h ∙ ap (slice_get links) s ∙ f in let u : x ≡ l = cc in inl (p ∙ ap (λ (y : Link). y.place) u)
first_or_before links i at k l e f (there _ j x g h rest) = let s : j ≡ k = omega (arith, e, g) in let t : Some x ≡ Some l = sym h ∙ ap (slice_get links) s ∙ f in let u : x ≡ l = cc in inr (subst (λ (y : Link). OnChain links i y.before) u rest)

pub none_on : (links : List Link) (i at : ℕ) → at ≡ 0 → OnChain links i at → ⊥
none_on links i at z (here _ k l e f g) = omega (arith, z, e)
none_on links i at z (there _ k l e f rest) = omega (arith, z, e)
