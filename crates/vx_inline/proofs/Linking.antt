-- Edges that get blocks of their own, one exit at a time; and how many blocks lead to one.
use Rattle.std.proofs.Common.{◌≡◌, inl, inr, ℕ, zero, suc, ◌+◌, ◌-◌, ◌<◌, ◌≤◌, ◌^◌, nat_lt, Bool, true, false, cond, ◌==◌, List, [], ◌∷◌, ◌++◌, length, map, take, drop, take-append-drop, get_or, drop-cons, append_assoc, slice_get, slice_index_or, Some, refl, sym, ap, ◌∙◌, arith, eq-eqb, eqb-true, ltb-true, ltb-false}
use Rattle.std.proofs.lemmas.Bool.{false≢true}
use Rattle.std.proofs.lemmas.Option.{slice_get_within}
use Rattle.std.specs.List.{filter}
use Rattle.vx_flow.specs.declared.graph.Op.{Op}
use Rattle.vx_flow.specs.declared.graph.Exit.{Exit}
use Rattle.vx_flow.specs.declared.graph.Exit.TheVariants.{Goto, Split, Call, Return, Ends}
use Rattle.vx_flow.specs.declared.graph.Block.{Block}
use Rattle.vx_flow.specs.declared.graph.Edge.{Edge}
use Rattle.vx_flow.specs.Sound.{Leads, targets_of}
use Rattle.vx_flow.specs.Walk.{ascending, edge}
use Rattle.vx_flow.proofs.ClosingSteps.{any_in, in_any}
use Rattle.vx_shape.specs.Origins.{AreOrigins, NoteIsTrue, HasTwo, IsNoted}
use Rattle.vx_inline.specs.Inlined.{is_among, entries, behind, critical, relinked, relinked_exit, sides, with_edges}
use Rattle.vx_inline.specs.Linking.{crossing, is_entered_twice, split_sides}
use Rattle.vx_inline.proofs.Edges.{filter_one}

pub crossing_cons : (blocks : List Block) (b c d : ℕ) → crossing blocks b (c ∷ d ∷ []) ≡ crossing blocks b (c ∷ []) ++ crossing blocks b (d ∷ [])
crossing_cons blocks b c d = by (nat_lt 1 (entries blocks c))
  where
    by : (t : Bool) → map (edge b) (cond t (c ∷ filter (λ c. nat_lt 1 (entries blocks c)) (d ∷ [])) (filter (λ c. nat_lt 1 (entries blocks c)) (d ∷ []))) ≡ map (edge b) (cond t (c ∷ []) []) ++ crossing blocks b (d ∷ [])
    by true = refl
    by false = refl

-- the two sides, the lower one first
pub sides_up : (c d : ℕ) → (c == d) ≡ false → nat_lt c d ≡ true → split_sides c d ≡ c ∷ d ∷ []
sides_up c d e l = ap (λ t. cond t [] (ascending c d)) e ∙ ap (λ t. cond t (c ∷ []) (cond (nat_lt c d) (c ∷ d ∷ []) (d ∷ c ∷ []))) e ∙ ap (λ t. cond t (c ∷ d ∷ []) (d ∷ c ∷ [])) l

pub sides_down : (c d : ℕ) → (c == d) ≡ false → nat_lt c d ≡ false → split_sides c d ≡ d ∷ c ∷ []
sides_down c d e l = ap (λ t. cond t [] (ascending c d)) e ∙ ap (λ t. cond t (c ∷ []) (cond (nat_lt c d) (c ∷ d ∷ []) (d ∷ c ∷ []))) e ∙ ap (λ t. cond t (c ∷ d ∷ []) (d ∷ c ∷ [])) l

pub sides_none : (c d : ℕ) → (c == d) ≡ true → split_sides c d ≡ []
sides_none c d e = ap (λ t. cond t [] (ascending c d)) e

-- ---- few of a list pass a test where they all stand at one place

filter_none : {A : Type 0} (p : A → Bool) (xs : List A) → ((j : ℕ) (y : A) → slice_get xs j ≡ Some y → p y ≡ true → ⊥) → length (filter p xs) ≡ 0
filter_none p [] n = refl
filter_none p (x ∷ xs) n = by (p x) refl (filter_none p xs (λ j y e h. n (suc j) y e h))
  where
    by : (t : Bool) → p x ≡ t → length (filter p xs) ≡ 0 → length (cond t (x ∷ filter p xs) (filter p xs)) ≡ 0
    by true e k = absurd (n 0 x refl e)
    by false e k = k

filter_few : {A : Type 0} (p : A → Bool) (xs : List A) → ((i j : ℕ) (x y : A) → slice_get xs i ≡ Some x → slice_get xs j ≡ Some y → p x ≡ true → p y ≡ true → i ≡ j) → length (filter p xs) ≤ 1
filter_few p [] h = omega arith
filter_few p (x ∷ xs) h = by (p x) refl (filter_few p xs (λ i j y z e f a b. (let k : suc i ≡ suc j = h (suc i) (suc j) y z e f a b in omega (arith, k))))
  where
    by : (t : Bool) → p x ≡ t → length (filter p xs) ≤ 1 → length (cond t (x ∷ filter p xs) (filter p xs)) ≤ 1
    by true e k =
        let none : length (filter p xs) ≡ 0 = filter_none p xs (λ j y f a. (let q : 0 ≡ suc j = h 0 (suc j) x y refl f e a in omega (arith, q))) in
        omega (arith, none)
    by false e k = k

or_there : (xs : List ℕ) (i x d : ℕ) → slice_get xs i ≡ Some x → slice_index_or xs i d ≡ x
or_there [] i x d e = absurd (cc)
or_there (y ∷ ys) zero x d e = cc
or_there (y ∷ ys) (suc i) x d e = or_there ys i x d e

module _ (blocks : List Block) (origins : List ℕ) (few : length blocks < 2 ^ 32) (are : AreOrigins blocks origins) (c o : ℕ) (is : slice_get origins c ≡ Some o) where
  low : c < length blocks
  low = let l : c < length origins = slice_get_within origins c o is in let n : length origins ≡ length blocks = are.count in omega (arith, l, n)

  noted_is : slice_index_or origins c 0 ≡ o
  noted_is = or_there origins c o 0 is

  two : HasTwo blocks (length blocks) c → nat_lt 1 (entries blocks c) ≡ true
  two h = by (nat_lt 1 (entries blocks c)) refl
    where
      lead : Leads blocks h.one c
      lead = h.from_one.1

      other : Leads blocks h.other c
      other = h.from_other.1

      by : (t : Bool) → nat_lt 1 (entries blocks c) ≡ t → t ≡ true
      by true e = refl
      by false e =
          absurd (h.differ (filter_one (λ block. is_among (targets_of block.exit) c) blocks h.one h.other lead.block other.block lead.has other.has
          (in_any c (targets_of lead.block.exit) lead.leads) (in_any c (targets_of other.block.exit) other.leads) (ltb-false 1 (entries blocks c) e)))

  many_two : o ≡ length blocks → nat_lt 1 (entries blocks c) ≡ true
  many_two q = by (are.told c low)
    where
      all : slice_index_or origins c 0 ≡ length blocks
      all = noted_is ∙ q

      by : NoteIsTrue blocks (length blocks) (length blocks) c (slice_index_or origins c 0) → nat_lt 1 (entries blocks c) ≡ true
      by (inl e) = let f : length blocks < 2 ^ 32 = few in let k : length blocks ≡ 2 ^ 64 - 1 = sym all ∙ e in absurd (omega (arith, f, k))
      by (inr (inl l)) = let k : slice_index_or origins c 0 < length blocks = l.0 in absurd (omega (arith, k, all))
      by (inr (inr h)) = two h.1

  one_few : (o ≡ length blocks → ⊥) → entries blocks c ≤ 1
  one_few n = filter_few (λ block. is_among (targets_of block.exit) c) blocks (λ i j x y e f a b. sym (from i x e a) ∙ from j y f b)
    where
      from : (i : ℕ) (x : Block) → slice_get blocks i ≡ Some x → is_among (targets_of x.exit) c ≡ true → o ≡ i
      from i x e a = by (are.noted i c x e (any_in c (targets_of x.exit) a) low)
        where
          by : IsNoted origins i c → o ≡ i
          by (inl q) = sym noted_is ∙ q
          by (inr q) = absurd (n (sym noted_is ∙ q ∙ are.count))

  pub entered_where_many : (o == length blocks) ≡ is_entered_twice blocks c
  entered_where_many = by (o == length blocks) refl
    where
      by : (t : Bool) → (o == length blocks) ≡ t → t ≡ nat_lt 1 (entries blocks c)
      by true e = sym (many_two (eqb-true o (length blocks) e))
      by false e = not_two (nat_lt 1 (entries blocks c)) refl
        where
          not_two : (t : Bool) → nat_lt 1 (entries blocks c) ≡ t → false ≡ t
          not_two true h = let l : 1 < entries blocks c = ltb-true 1 (entries blocks c) h in let k : entries blocks c ≤ 1 = one_few (λ q. false≢true (sym e ∙ eq-eqb o (length blocks) q)) in absurd (omega (arith, l, k))
          not_two false h = refl

-- ---- one block more

at_next : {X Y : Type 0} (F : List X → Y) (xs : List X) (i : ℕ) (d : X) → i < length xs → d ≡ get_or xs i d → F (drop i xs) ≡ F (d ∷ drop (i + 1) xs)
at_next F xs i d l e =
    let a : suc i ≡ i + 1 = omega arith in
    ap F (drop-cons xs i d l) ∙ ap (λ x. F (x ∷ drop (suc i) xs)) (sym e) ∙ ap (λ k. F (d ∷ drop k xs)) a

pub critical_next : (all blocks : List Block) (i : ℕ) (d : Block) (now new target : List Edge) → i < length blocks → d ≡ get_or blocks i d → now ++ critical all i (drop i blocks) ≡ target → new ≡ now ++ crossing all i (sides d.exit) → new ++ critical all (i + 1) (drop (i + 1) blocks) ≡ target
critical_next all blocks i d now new target l e h n =
    let a : suc i ≡ i + 1 = omega arith in
    ap (λ x. x ++ critical all (i + 1) (drop (i + 1) blocks)) n ∙ append_assoc now (crossing all i (sides d.exit)) (critical all (i + 1) (drop (i + 1) blocks)) ∙
    ap (λ x. now ++ x) (ap (λ k. crossing all i (sides d.exit) ++ critical all k (drop (i + 1) blocks)) (sym a) ∙ sym (at_next (critical all i) blocks i d l e)) ∙ h

pub relinked_next : (place : ℕ) (es : List Edge) (blocks : List Block) (i : ℕ) (d : Block) (exit : Exit) (ops : List Op) (now new target : List Block) → i < length blocks → d ≡ get_or blocks i d → now ++ relinked place es i (drop i blocks) ≡ target → exit ≡ relinked_exit place es i d.exit → ops ≡ d.ops →
    new ≡ now ++ record { ops = ops; exit = exit } ∷ [] → new ++ relinked place es (i + 1) (drop (i + 1) blocks) ≡ target
relinked_next place es blocks i d exit ops now new target l e h x o n =
    let a : suc i ≡ i + 1 = omega arith in
    ap (λ y. y ++ relinked place es (i + 1) (drop (i + 1) blocks)) n ∙ append_assoc now (record { ops = ops; exit = exit } ∷ []) (relinked place es (i + 1) (drop (i + 1) blocks)) ∙
    ap (λ y. now ++ (record { ops = ops; exit = y } ∷ relinked place es (i + 1) (drop (i + 1) blocks))) x ∙
    ap (λ y. now ++ (record { ops = y; exit = relinked_exit place es i d.exit } ∷ relinked place es (i + 1) (drop (i + 1) blocks))) o ∙
    ap (λ k. now ++ (record d { exit = relinked_exit place es i d.exit } ∷ relinked place es k (drop (i + 1) blocks))) (sym a) ∙ ap (λ y. now ++ y) (sym (at_next (relinked place es i) blocks i d l e)) ∙ h

-- ---- where no edge gets a block, blocks stay as they are

behind_none : (place c : ℕ) → behind place 0 c ≡ c
behind_none place c = by (nat_lt c place)
  where
    by : (t : Bool) → cond t c (c + 0) ≡ c
    by true = refl
    by false = omega arith

exit_stays : (place b : ℕ) (exit : Exit) → relinked_exit place [] b exit ≡ exit
exit_stays place b (Goto c) = ap Goto (behind_none place c)
exit_stays place b (Split p c d) = ap (λ x. Split p x (behind place 0 d)) (behind_none place c) ∙ ap (λ x. Split p c x) (behind_none place d)
exit_stays place b (Call f arguments result c) = ap (λ x. Call f arguments result x) (behind_none place c)
exit_stays place b (Return x) = refl
exit_stays place b (Ends k) = refl

blocks_stay : (place b : ℕ) (blocks : List Block) → relinked place [] b blocks ≡ blocks
blocks_stay place b [] = refl
blocks_stay place b (block ∷ blocks) = ap (λ x. record block { exit = x } ∷ relinked place [] (suc b) blocks) (exit_stays place b block.exit) ∙ ap (λ l. block ∷ l) (blocks_stay place (suc b) blocks)

pub no_edges : (place : ℕ) (es : List Edge) (blocks : List Block) → length es ≡ 0 → blocks ≡ with_edges place es blocks
no_edges place [] blocks e = sym (ap (λ l. l ++ drop place blocks) (blocks_stay place 0 (take place blocks)) ∙ take-append-drop place blocks)
no_edges place (x ∷ es) blocks e = absurd (omega (arith, e))
