-- The planned words of the layout of a graph are numbered: region by region, and in each from 0 on.
use Rattle.std.proofs.Common.{◌≡◌, ℕ, zero, suc, ◌+◌, ◌<◌, true, false, Some, List, [], ◌∷◌, ◌++◌, length, take, slice_get, refl, sym, ap, ◌∙◌, subst, ⊎_elim, arith, append_assoc}
use Rattle.std.specs.Prelude.{◌==◌, if◌then◌else◌}
use Rattle.std.specs.List.{filter}
use Rattle.std.proofs.lemmas.Bool.{cases_eq, eq-eqb, ne_eqb}
use Rattle.vx_flow.specs.declared.graph.Exit.{Exit}
use Rattle.vx_flow.specs.declared.graph.Exit.TheVariants.{Goto, Split as Branches, Call as Calling, Return as Returning, Ends as Ending}
use Rattle.vx_mixed.specs.declared.region.Item.{Item}
use Rattle.vx_mixed.specs.declared.region.Item.TheVariants.{Plain, Split}
use Rattle.vx_mixed.specs.declared.region.Region.{Region}
use Rattle.vx_mixed.specs.declared.layout.Laid.{Laid}
use Rattle.vx_mixed.specs.declared.layout.VirtualWord.{VirtualWord}
use Rattle.vx_mixed.specs.declared.layout.VirtualWord.TheVariants.{Planned, Transfer}
use Rattle.vx_mixed.specs.declared.mixed.MixedGraph.{MixedGraph}
use Rattle.vx_mixed.specs.Layout.{drain_words, leave_words, stub, word_stubs, stubs, exit_words, laid, laid_words, region_size, place_of, all_words, layout_of}
use Rattle.vx_layout.specs.Numbered.{is_word_of, words_in, IsNumbered}

-- so many words of each region stand before some others, which are numbered from there on, and are words of regions below one
record Goes (from : ℕ → ℕ) (end : ℕ) (words : List VirtualWord) : Type 0 where
  pub region : (p r w : ℕ) (items : List Laid) → slice_get words p ≡ Some (Planned r w items) → r < end
  pub word : (p r w : ℕ) (items : List Laid) → slice_get words p ≡ Some (Planned r w items) → w ≡ from r + words_in r (take p words)

abbrev IsOther : VirtualWord → Type 0
IsOther word = (r : ℕ) → is_word_of r word ≡ false

not_planned : (word : VirtualWord) (r w : ℕ) (items : List Laid) → IsOther word → Some word ≡ Some (Planned r w items) → ⊥
not_planned word r w items other e =
    let a : word ≡ Planned r w items = cc in
    let b : (r == r) ≡ false = sym (ap (is_word_of r) a) ∙ other r in
    let c : true ≡ false = sym (eq-eqb r r refl) ∙ b in cc

-- one word less
counted_other : (r : ℕ) (word : VirtualWord) (words : List VirtualWord) → is_word_of r word ≡ false → words_in r (word ∷ words) ≡ words_in r words
counted_other r word words e = ap (λ b. length (if b then word ∷ filter (is_word_of r) words else filter (is_word_of r) words)) e

counted_one : (r : ℕ) (word : VirtualWord) (words : List VirtualWord) → is_word_of r word ≡ true → words_in r (word ∷ words) ≡ suc (words_in r words)
counted_one r word words e = ap (λ b. length (if b then word ∷ filter (is_word_of r) words else filter (is_word_of r) words)) e

goes_none : (from : ℕ → ℕ) (end : ℕ) → Goes from end []
goes_none from end = record { region = λ p r w items e. absurd (cc); word = λ p r w items e. absurd (cc) }

goes_other : (from : ℕ → ℕ) (end : ℕ) (word : VirtualWord) (words : List VirtualWord) → IsOther word → Goes from end words → Goes from end (word ∷ words)
goes_other from end word words other goes = record { region = region; word = number }
  where
    region : (p r w : ℕ) (items : List Laid) → slice_get (word ∷ words) p ≡ Some (Planned r w items) → r < end
    region zero r w items e = absurd (not_planned word r w items other e)
    region (suc p) r w items e = goes.region p r w items e

    number : (p r w : ℕ) (items : List Laid) → slice_get (word ∷ words) p ≡ Some (Planned r w items) → w ≡ from r + words_in r (take p (word ∷ words))
    number zero r w items e = absurd (not_planned word r w items other e)
    number (suc p) r w items e = goes.word p r w items e ∙ ap (λ n. from r + n) (sym (counted_other r word (take p words) (other r)))

abbrev bumped : ℕ → (ℕ → ℕ) → ℕ → ℕ
bumped s from r = if s == r then suc (from r) else from r

bumped_there : (s : ℕ) (from : ℕ → ℕ) → bumped s from s ≡ suc (from s)
bumped_there s from = ap (λ b. if b then suc (from s) else from s) (eq-eqb s s refl)

bumped_else : (s r : ℕ) (from : ℕ → ℕ) → (s ≡ r → ⊥) → bumped s from r ≡ from r
bumped_else s r from n = ap (λ b. if b then suc (from r) else from r) (ne_eqb s r n)

goes_planned : (from : ℕ → ℕ) (end s v : ℕ) (its : List Laid) (words : List VirtualWord) → s < end → v ≡ from s → Goes (bumped s from) end words → Goes from end (Planned s v its ∷ words)
goes_planned from end s v its words low is goes = record { region = region; word = number }
  where
    region : (p r w : ℕ) (items : List Laid) → slice_get (Planned s v its ∷ words) p ≡ Some (Planned r w items) → r < end
    region zero r w items e = let a : s ≡ r = cc in subst (λ z. z < end) a low
    region (suc p) r w items e = goes.region p r w items e

    number : (p r w : ℕ) (items : List Laid) → slice_get (Planned s v its ∷ words) p ≡ Some (Planned r w items) → w ≡ from r + words_in r (take p (Planned s v its ∷ words))
    number zero r w items e =
        let a : s ≡ r = cc in
        let b : v ≡ w = cc in
        let c : from r + 0 ≡ from r = omega arith in
        sym b ∙ is ∙ ap from a ∙ sym c
    number (suc p) r w items e =
        let rest = take p words in
        let m = goes.word p r w items e in
        ⊎_elim
        (λ q. let a : bumped s from r ≡ suc (from r) = subst (λ z. bumped s from z ≡ suc (from z)) q (bumped_there s from) in
        let b : words_in r (Planned s v its ∷ rest) ≡ suc (words_in r rest) = counted_one r (Planned s v its) rest (eq-eqb s r q) in
        omega arith)
        (λ n. let a : bumped s from r ≡ from r = bumped_else s r from n in
        let b : words_in r (Planned s v its ∷ rest) ≡ words_in r rest = counted_other r (Planned s v its) rest (ne_eqb s r n) in
        omega arith)
        (cases_eq s r)

-- words that are not planned

abbrev AreOthers : List VirtualWord → Type 0
AreOthers [] = Unit {0}
AreOthers (word ∷ words) = IsOther word × AreOthers words

others_both : (xs ys : List VirtualWord) → AreOthers xs → AreOthers ys → AreOthers (xs ++ ys)
others_both [] ys a b = b
others_both (x ∷ xs) ys a b = (a.0, others_both xs ys a.1 b)

goes_others : (from : ℕ → ℕ) (end : ℕ) (xs ys : List VirtualWord) → AreOthers xs → Goes from end ys → Goes from end (xs ++ ys)
goes_others from end [] ys a goes = goes
goes_others from end (x ∷ xs) ys a goes = goes_other from end x (xs ++ ys) a.0 (goes_others from end xs ys a.1 goes)

drain_others : (n : ℕ) → AreOthers (drain_words n)
drain_others zero = tt
drain_others (suc n) = (λ r. refl, tt)

leave_others : (place : ℕ → ℕ) (x : Exit) → AreOthers (leave_words place x)
leave_others place (Goto c) = (λ r. refl, tt)
leave_others place (Branches p c d) = (λ r. refl, (λ r. refl, tt))
leave_others place (Calling g arguments result next) = (λ r. refl, (λ r. refl, tt))
leave_others place (Returning x) = (λ r. refl, tt)
leave_others place (Ending k) = (λ r. refl, tt)

stub_others : (place : ℕ → ℕ) (item : Item) → AreOthers (stub place item)
stub_others place (Plain op cluster) = tt
stub_others place (Split p y e d) = others_both (drain_words d) (Transfer (place e.to) ∷ []) (drain_others d) (λ r. refl, tt)

word_stub_others : (place : ℕ → ℕ) (word : List Item) → AreOthers (word_stubs place word)
word_stub_others place [] = tt
word_stub_others place (item ∷ items) = others_both (stub place item) (word_stubs place items) (stub_others place item) (word_stub_others place items)

stubs_others : (place : ℕ → ℕ) (words : List (List Item)) → AreOthers (stubs place words)
stubs_others place [] = tt
stubs_others place (word ∷ words) = others_both (word_stubs place word) (stubs place words) (word_stub_others place word) (stubs_others place words)

exit_others : (place : ℕ → ℕ) (g : Region) → AreOthers (exit_words place g)
exit_others place g = others_both (drain_words g.drain) (leave_words place g.last) (drain_others g.drain) (leave_others place g.last)

-- regions

abbrev NoneFrom : (ℕ → ℕ) → ℕ → Type 0
NoneFrom from r = (s : ℕ) → r < s → from s ≡ 0

none_bumped : (from : ℕ → ℕ) (r : ℕ) → NoneFrom from r → NoneFrom (bumped r from) r
none_bumped from r none s less = bumped_else r s from (λ e. omega arith) ∙ none s less

goes_words : (from : ℕ → ℕ) (end r w at : ℕ) (list : List (List Item)) (rest : List VirtualWord) → r < end → w ≡ from r → NoneFrom from r → ((after : ℕ → ℕ) → NoneFrom after r → Goes after end rest) → Goes from end (laid_words r w at list ++ rest)
goes_words from end r w at [] rest low is none goes = goes from none
goes_words from end r w at (word ∷ list) rest low is none goes =
    let next : w + 1 ≡ bumped r from r = (let a = bumped_there r from in omega arith) in
    goes_planned from end r w (laid at word) (laid_words r (w + 1) (at + length (word_stubs (λ b. 0) word)) list ++ rest) low is
    (goes_words (bumped r from) end r (w + 1) (at + length (word_stubs (λ b. 0) word)) list rest low next (none_bumped from r none) goes)

goes_all : (m : MixedGraph) (from : ℕ → ℕ) (end r at : ℕ) (gs : List Region) → r + length gs ≡ end → ((s : ℕ) → r < suc s → from s ≡ 0) → Goes from end (all_words m r at gs)
goes_all m from end r at [] e none = goes_none from end
goes_all m from end r at (g ∷ gs) e none =
    let place = place_of m in
    let first = laid_words r 0 (at + length g.words + length (exit_words place g)) g.words in
    let behind = exit_words place g ++ stubs place g.words in
    let rest = all_words m (r + 1) (at + region_size g) gs in
    let low : r < end = omega arith in
    let others : AreOthers behind = others_both (exit_words place g) (stubs place g.words) (exit_others place g) (stubs_others place g.words) in
    let made : Goes from end (first ++ (behind ++ rest)) =
    goes_words from end r 0 (at + length g.words + length (exit_words place g)) g.words (behind ++ rest) low (sym (none r (omega arith))) (λ s less. none s (omega arith))
    (λ after left. goes_others after end behind rest others (goes_all m after end (r + 1) (at + region_size g) gs (omega arith) (λ s less. left s (omega arith)))) in
    subst (Goes from end) (sym (append_assoc first behind rest)) made

pub layout_numbered : (m : MixedGraph) → IsNumbered (layout_of m)
layout_numbered m =
    let goes = goes_all m (λ s. 0) (length m.regions) 0 0 m.regions (omega arith) (λ s less. refl) in
    record {
      region = goes.region;
      word = λ p r w items e. let z : 0 + words_in r (take p (layout_of m).words) ≡ words_in r (take p (layout_of m).words) = omega arith in goes.word p r w items e ∙ z;
    }
