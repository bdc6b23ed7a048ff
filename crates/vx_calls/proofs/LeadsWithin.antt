-- Whether every word of a list leads to one of it, by a test that computes.
use Rattle.std.proofs.Common.{◌≡◌, ℕ, zero, suc, ◌+◌, ◌<◌, Bool, true, false, ◌&&◌, Some, List, [], ◌∷◌, length, slice_get, refl, sym, ap, subst, inl, inr, arith}
use Rattle.std.specs.Prelude.{nat_lt}
use Rattle.std.proofs.lemmas.Bool.{ltb-true}
use Rattle.vx_flow.specs.Effects.{IsIn}
use Rattle.vx_mixed.specs.declared.layout.Laid.{Laid}
use Rattle.vx_mixed.specs.declared.layout.Laid.TheVariants.{Plain, Split}
use Rattle.vx_mixed.specs.declared.layout.VirtualWord.{VirtualWord}
use Rattle.vx_mixed.specs.declared.layout.VirtualWord.TheVariants.{Planned, Drain, Transfer, Choice, Call, Return, Ends}
use Rattle.vx_mixed.specs.declared.layout.VWords.{VWords}
use Rattle.vx_mixed.specs.LaidSettled.{LeadsTo}
use Rattle.vx_regs.proofs.NodeMarks.{Inside}
use Rattle.vx_calls.specs.LoopExample.{loop_words}

abbrev items_within : ℕ → List Laid → Bool
items_within n [] = true
items_within n (Plain op cluster ∷ items) = items_within n items
items_within n (Split test y to ∷ items) = nat_lt to n && items_within n items

abbrev word_within : ℕ → (next : ℕ) → VirtualWord → Bool
word_within n next (Planned r w items) = nat_lt next n && items_within n items
word_within n next (Drain c) = nat_lt next n
word_within n next (Transfer to) = nat_lt to n
word_within n next (Choice test to) = nat_lt to n && nat_lt next n
word_within n next (Call g arguments result) = nat_lt next n
word_within n next (Return x) = true
word_within n next (Ends k) = true

abbrev pub words_within : ℕ → (place : ℕ) → List VirtualWord → Bool
words_within n place [] = true
words_within n place (word ∷ words) = word_within n (suc place) word && words_within n (suc place) words

both : (a b : Bool) → (a && b) ≡ true → (a ≡ true) × (b ≡ true)
both true b h = (refl, h)
both false b h = absurd (cc)

below : (q n : ℕ) → nat_lt q n ≡ true → q < n
below q n h = ltb-true q n h

split_below : (n : ℕ) (items : List Laid) (test q : ℕ) (y : Bool) → items_within n items ≡ true → IsIn (Split test y q) items → q < n
split_below n [] test q y h m = absurd m
split_below n (Plain op cluster ∷ items) test q y h (inl e) = absurd (cc)
split_below n (Plain op cluster ∷ items) test q y h (inr m) = split_below n items test q y h m
split_below n (Split t z to ∷ items) test q y h (inl e) =
    let b = both (nat_lt to n) (items_within n items) h in
    let k : q ≡ to = cc in
    subst (λ i. i < n) (sym k) (below to n b.0)
split_below n (Split t z to ∷ items) test q y h (inr m) = let b = both (nat_lt to n) (items_within n items) h in split_below n items test q y b.1 m

word_below : (n p q : ℕ) (word : VirtualWord) → word_within n (suc p) word ≡ true → LeadsTo p word q → q < n
word_below n p q (Planned r w items) h (inl e) = let b = both (nat_lt (suc p) n) (items_within n items) h in subst (λ i. i < n) (sym e) (below (suc p) n b.0)
word_below n p q (Planned r w items) h (inr s) = let b = both (nat_lt (suc p) n) (items_within n items) h in split_below n items s.0 q s.1 b.1 s.2
word_below n p q (Drain c) h e = subst (λ i. i < n) (sym e) (below (suc p) n h)
word_below n p q (Transfer to) h e = subst (λ i. i < n) (sym e) (below to n h)
word_below n p q (Choice test to) h (inl e) = let b = both (nat_lt to n) (nat_lt (suc p) n) h in subst (λ i. i < n) (sym e) (below to n b.0)
word_below n p q (Choice test to) h (inr e) = let b = both (nat_lt to n) (nat_lt (suc p) n) h in subst (λ i. i < n) (sym e) (below (suc p) n b.1)
word_below n p q (Call g arguments result) h e = subst (λ i. i < n) (sym e) (below (suc p) n h)
word_below n p q (Return x) h e = absurd e
word_below n p q (Ends k) h e = absurd e

words_below : (n place : ℕ) (words : List VirtualWord) → words_within n place words ≡ true → (i q : ℕ) (word : VirtualWord) → slice_get words i ≡ Some word → LeadsTo (place + i) word q → q < n
words_below n place [] h i q word at t = absurd (cc)
words_below n place (w ∷ words) h zero q word at t =
    let b = both (word_within n (suc place) w) (words_within n (suc place) words) h in
    let e : word ≡ w = cc in
    let z : place + 0 ≡ place = omega arith in
    word_below n place q w b.0 (subst (λ x. LeadsTo place x q) e (subst (λ k. LeadsTo k word q) z t))
words_below n place (w ∷ words) h (suc i) q word at t =
    let b = both (word_within n (suc place) w) (words_within n (suc place) words) h in
    let z : place + suc i ≡ suc place + i = omega arith in
    words_below n (suc place) words b.1 i q word at (subst (λ k. LeadsTo k word q) z t)

pub leads_within : (words : List VirtualWord) → words_within (length words) 0 words ≡ true → (p q : ℕ) (word : VirtualWord) → slice_get words p ≡ Some word → LeadsTo p word q → q < length words
leads_within words h p q word at t = let z : p ≡ 0 + p = omega arith in words_below (length words) 0 words h p q word at (subst (λ k. LeadsTo k word q) z t)

-- the example

pub loop_inside : (l : VWords) → l.words ≡ loop_words → Inside l
loop_inside l e = subst (λ ws. (p q : ℕ) (word : VirtualWord) → slice_get ws p ≡ Some word → LeadsTo p word q → q < length ws) (sym e) (leads_within loop_words refl)

pub loop_entered : (l : VWords) → l.words ≡ loop_words → l.entry ≡ 0 → l.entry < length l.words
loop_entered l e z = let n : length l.words ≡ 6 = ap length e in omega arith
