-- The finished blocks stand where they were made, and the trap blocks behind them.
use Rattle.std.proofs.Common.{◌≡◌, ◌⊎◌, ℕ, zero, suc, ◌+◌, ◌-◌, ◌<◌, ◌≤◌, Bool, true, false, ◌||◌, List, [], ◌∷◌, ◌++◌, length, map, drop, get_or, not, Option, Some, None, refl, sym, ap, ◌∙◌, subst, inl, inr, arith, append_assoc}
use Rattle.std.specs.Prelude.{slice_get, if◌then◌else◌}
use Rattle.std.specs.List.{list_any}
use Rattle.std.proofs.lemmas.Bool.{cases_lt, eqb-true}
use Rattle.std.proofs.lemmas.List.{length-append, length-map}
use Rattle.std.proofs.lemmas.List.Sums.{prefix_len-drop_all, prefix_len-le-length}
use Rattle.std.proofs.lemmas.Option.{slice_get_within}
use Rattle.vx_base.specs.declared.outcome.Trap.{Trap}
use Rattle.vx_base.specs.declared.outcome.Trap.TheVariants.{Divide, Index, Input, Depth}
use Rattle.vx_flow.specs.declared.graph.Exit.{Exit}
use Rattle.vx_flow.specs.declared.graph.Exit.TheVariants.{Goto, Split, Call, Return, Ends}
use Rattle.vx_flow.specs.declared.graph.Block.{Block}
use Rattle.vx_lower.specs.Holds.{same, on, jump}
use Rattle.vx_lower.specs.Builds.{Stands}
use Rattle.vx_lower.specs.Finished.{TrapsAt, TrapsLast, AreShort, WereShort, IsUsed, number_of, is_kind, exit_traps, traps_by, where_used, kinds_in, place_in, settled_exit, settled, trap_block, finished}
use Rattle.vx_lower.specs.Shape.{Settled}
use Rattle.vx_lower.proofs.Places.{get_front}

-- kinds

kind_is : (k j : Trap) → number_of k ≡ number_of j → k ≡ j
kind_is Divide Divide e = refl
kind_is Divide Index e = absurd (omega arith)
kind_is Divide Input e = absurd (omega arith)
kind_is Divide Depth e = absurd (omega arith)
kind_is Index Divide e = absurd (omega arith)
kind_is Index Index e = refl
kind_is Index Input e = absurd (omega arith)
kind_is Index Depth e = absurd (omega arith)
kind_is Input Divide e = absurd (omega arith)
kind_is Input Index e = absurd (omega arith)
kind_is Input Input e = refl
kind_is Input Depth e = absurd (omega arith)
kind_is Depth Divide e = absurd (omega arith)
kind_is Depth Index e = absurd (omega arith)
kind_is Depth Input e = absurd (omega arith)
kind_is Depth Depth e = refl

same_kind : (k j : Trap) → is_kind k j ≡ true → k ≡ j
same_kind k j e = kind_is k j (eqb-true (number_of k) (number_of j) e)

is_itself : (k : Trap) → is_kind k k ≡ true
is_itself Divide = refl
is_itself Index = refl
is_itself Input = refl
is_itself Depth = refl

-- four parts behind each other
pub four_more : (a b c d : List Trap) (e0 e1 e2 e3 e4 : List Trap) → e0 ≡ [] → e1 ≡ e0 ++ a → e2 ≡ e1 ++ b → e3 ≡ e2 ++ c → e4 ≡ e3 ++ d → e4 ≡ a ++ (b ++ (c ++ d))
four_more a b c d e0 e1 e2 e3 e4 h0 h1 h2 h3 h4 =
    let k1 : e1 ≡ a = h1 ∙ ap (λ z. z ++ a) h0 in
    let k2 : e2 ≡ a ++ b = h2 ∙ ap (λ z. z ++ b) k1 in
    let k3 : e3 ≡ a ++ (b ++ c) = h3 ∙ ap (λ z. z ++ c) k2 ∙ append_assoc a b c in
    h4 ∙ ap (λ z. z ++ d) k3 ∙ append_assoc a (b ++ c) d ∙ ap (λ z. a ++ z) (append_assoc b c d)

-- a trap at a place among kinds
record IsAt (kinds : List Trap) (k : Trap) : Type 0 where
  pub place : ℕ
  pub has : slice_get kinds place ≡ Some k

-- each kind stands once
abbrev Once : List Trap → Type 0
Once kinds = (i j : ℕ) (k : Trap) → slice_get kinds i ≡ Some k → slice_get kinds j ≡ Some k → i ≡ j

none_is : {A : Type 0} {x : A} → None ≡ Some x → ⊥
none_is e = cc

at_front : (xs ys : List Trap) (k : Trap) → IsAt xs k → IsAt (xs ++ ys) k
at_front xs ys k x = record { place = x.place; has = get_front xs ys x.place (slice_get_within xs x.place k x.has) ∙ x.has }

at_behind : (xs ys : List Trap) (k : Trap) → IsAt ys k → IsAt (xs ++ ys) k
at_behind [] ys k y = y
at_behind (x ∷ xs) ys k y = let z = at_behind xs ys k y in record { place = suc z.place; has = z.has }

either_at : (xs ys : List Trap) (k : Trap) → IsAt (xs ++ ys) k → IsAt xs k ⊎ IsAt ys k
either_at [] ys k z = inr z
either_at (x ∷ xs) ys k z = by (either_at xs ys k) z.place z.has
  where
    by : (IsAt (xs ++ ys) k → IsAt xs k ⊎ IsAt ys k) → (i : ℕ) → slice_get (x ∷ (xs ++ ys)) i ≡ Some k → IsAt (x ∷ xs) k ⊎ IsAt ys k
    by go zero e = inl (record { place = 0; has = e })
    by go (suc i) e = elim (go (record { place = i; has = e })) [
      | inl a ↦ inl (record { place = suc a.place; has = a.has })
      | inr b ↦ inr b
    ]

-- kinds with growing numbers, from a first one on
abbrev Growing : ℕ → List Trap → Type 0
Growing lo [] = Unit {0}
Growing lo (k ∷ kinds) = (lo ≤ number_of k) × Growing (suc (number_of k)) kinds

growing_less : (lo hi : ℕ) (kinds : List Trap) → lo ≤ hi → Growing hi kinds → Growing lo kinds
growing_less lo hi [] h g = tt
growing_less lo hi (k ∷ kinds) h g = let a = g.0 in (omega arith, g.1)

growing_from : (lo : ℕ) (kinds : List Trap) (i : ℕ) (k : Trap) → Growing lo kinds → slice_get kinds i ≡ Some k → lo ≤ number_of k
growing_from lo [] i k g e = absurd (none_is e)
growing_from lo (j ∷ kinds) zero k g e = let is : j ≡ k = cc in subst (λ z. lo ≤ number_of z) is g.0
growing_from lo (j ∷ kinds) (suc i) k g e = let a = g.0 in let b = growing_from (suc (number_of j)) kinds i k g.1 e in omega arith

growing_once : (lo : ℕ) (kinds : List Trap) → Growing lo kinds → Once kinds
growing_once lo [] g i j k e f = absurd (none_is e)
growing_once lo (x ∷ kinds) g zero zero k e f = refl
growing_once lo (x ∷ kinds) g zero (suc j) k e f = let is : x ≡ k = cc in let a = growing_from (suc (number_of x)) kinds j k g.1 f in let b = ap number_of is in absurd (omega arith)
growing_once lo (x ∷ kinds) g (suc i) zero k e f = let is : x ≡ k = cc in let a = growing_from (suc (number_of x)) kinds i k g.1 e in let b = ap number_of is in absurd (omega arith)
growing_once lo (x ∷ kinds) g (suc i) (suc j) k e f = ap suc (growing_once (suc (number_of x)) kinds g.1 i j k e f)

abbrev when : Bool → Trap → List Trap
when true k = k ∷ []
when false k = []

growing_when : (b : Bool) (lo : ℕ) (k : Trap) (kinds : List Trap) → lo ≤ number_of k → Growing (suc (number_of k)) kinds → Growing lo (when b k ++ kinds)
growing_when true lo k kinds h g = (h, g)
growing_when false lo k kinds h g = growing_less lo (suc (number_of k)) kinds (omega arith) g

growing_last : (b : Bool) (lo : ℕ) (k : Trap) → lo ≤ number_of k → Growing lo (when b k)
growing_last true lo k h = (h, tt)
growing_last false lo k h = tt

-- there are four kinds

few_of_kind : (slots : List (Option Block)) (k : Trap) → length (where_used slots k) ≤ 1
few_of_kind slots k = by (list_any (traps_by k) slots)
  where
    by : (b : Bool) → length (if b then k ∷ [] else []) ≤ 1
    by true = omega arith
    by false = omega arith

pub few_kinds : (slots : List (Option Block)) (kinds : List Trap) → kinds ≡ kinds_in slots → length kinds ≤ 4
few_kinds slots kinds e =
    let a = where_used slots Divide in
    let b = where_used slots Index in
    let c = where_used slots Input in
    let d = where_used slots Depth in
    let all : length kinds ≡ length a + length (b ++ (c ++ d)) = ap length e ∙ length-append a (b ++ (c ++ d)) in
    let three : length (b ++ (c ++ d)) ≡ length b + length (c ++ d) = length-append b (c ++ d) in
    let two : length (c ++ d) ≡ length c + length d = length-append c d in
    let one : length a ≤ 1 = few_of_kind slots Divide in
    let other : length b ≤ 1 = few_of_kind slots Index in
    let third : length c ≤ 1 = few_of_kind slots Input in
    let fourth : length d ≤ 1 = few_of_kind slots Depth in
    omega (arith, all, three, two, one, other, third, fourth)

when_used : (slots : List (Option Block)) (k : Trap) → where_used slots k ≡ when (list_any (traps_by k) slots) k
when_used slots k = by (list_any (traps_by k) slots) refl
  where
    by : (b : Bool) → list_any (traps_by k) slots ≡ b → where_used slots k ≡ when (list_any (traps_by k) slots) k
    by true e = grind arith
    by false e = grind arith

module _ (slots : List (Option Block)) where
  abbrev is_in : Trap → Bool
  is_in k = list_any (traps_by k) slots

  kinds_when : kinds_in slots ≡ when (is_in Divide) Divide ++ (when (is_in Index) Index ++ (when (is_in Input) Input ++ when (is_in Depth) Depth))
  kinds_when =
      ap (λ z. z ++ (where_used slots Index ++ (where_used slots Input ++ where_used slots Depth))) (when_used slots Divide)
      ∙ ap (λ z. when (is_in Divide) Divide ++ (z ++ (where_used slots Input ++ where_used slots Depth))) (when_used slots Index)
      ∙ ap (λ z. when (is_in Divide) Divide ++ (when (is_in Index) Index ++ (z ++ where_used slots Depth))) (when_used slots Input)
      ∙ ap (λ z. when (is_in Divide) Divide ++ (when (is_in Index) Index ++ (when (is_in Input) Input ++ z))) (when_used slots Depth)

  kinds_once : Once (kinds_in slots)
  kinds_once =
      let g4 : Growing 3 (when (is_in Depth) Depth) = growing_last (is_in Depth) 3 Depth (omega arith) in
      let g3 : Growing 2 (when (is_in Input) Input ++ when (is_in Depth) Depth) = growing_when (is_in Input) 2 Input (when (is_in Depth) Depth) (omega arith) g4 in
      let g2 : Growing 1 (when (is_in Index) Index ++ (when (is_in Input) Input ++ when (is_in Depth) Depth)) = growing_when (is_in Index) 1 Index (when (is_in Input) Input ++ when (is_in Depth) Depth) (omega arith) g3 in
      let g1 : Growing 0 (when (is_in Divide) Divide ++ (when (is_in Index) Index ++ (when (is_in Input) Input ++ when (is_in Depth) Depth))) = growing_when (is_in Divide) 0 Divide (when (is_in Index) Index ++ (when (is_in Input) Input ++ when (is_in Depth) Depth)) (omega arith) g2 in
      growing_once 0 (kinds_in slots) (subst (Growing 0) (sym kinds_when) g1)

  -- a kind that is used has its place
  here : (k : Trap) → is_in k ≡ true → IsAt (where_used slots k) k
  here k e = subst (λ z. IsAt z k) (sym (when_used slots k ∙ ap (λ b. when b k) e)) (record { place = 0; has = refl })

  used_at : (k : Trap) → is_in k ≡ true → IsAt (kinds_in slots) k
  used_at Divide e = at_front (where_used slots Divide) (where_used slots Index ++ (where_used slots Input ++ where_used slots Depth)) Divide (here Divide e)
  used_at Index e = at_behind (where_used slots Divide) (where_used slots Index ++ (where_used slots Input ++ where_used slots Depth)) Index (at_front (where_used slots Index) (where_used slots Input ++ where_used slots Depth) Index (here Index e))
  used_at Input e = at_behind (where_used slots Divide) (where_used slots Index ++ (where_used slots Input ++ where_used slots Depth)) Input (at_behind (where_used slots Index) (where_used slots Input ++ where_used slots Depth) Input (at_front (where_used slots Input) (where_used slots Depth) Input (here Input e)))
  used_at Depth e = at_behind (where_used slots Divide) (where_used slots Index ++ (where_used slots Input ++ where_used slots Depth)) Depth (at_behind (where_used slots Index) (where_used slots Input ++ where_used slots Depth) Depth (at_behind (where_used slots Input) (where_used slots Depth) Depth (here Depth e)))

  -- a kind that has a place is used
  there : (j k : Trap) → IsAt (where_used slots j) k → is_in k ≡ true
  there j k x = by (is_in j) refl (subst (λ z. IsAt z k) (when_used slots j) x)
    where
      by : (b : Bool) → is_in j ≡ b → IsAt (when (is_in j) j) k → is_in k ≡ true
      by true e y = one (subst (λ b. IsAt (when b j) k) e y).place (subst (λ b. IsAt (when b j) k) e y).has e
        where
          one : (i : ℕ) → slice_get (j ∷ []) i ≡ Some k → is_in j ≡ true → is_in k ≡ true
          one zero h e = let is : j ≡ k = cc in subst (λ z. is_in z ≡ true) is e
          one (suc i) h e = absurd (none_is h)
      by false e y = absurd (none_is (subst (λ b. IsAt (when b j) k) e y).has)

  at_used : (k : Trap) → IsAt (kinds_in slots) k → is_in k ≡ true
  at_used k x = elim (either_at (where_used slots Divide) (where_used slots Index ++ (where_used slots Input ++ where_used slots Depth)) k x) [
    | inl a ↦ there Divide k a
    | inr y ↦ elim (either_at (where_used slots Index) (where_used slots Input ++ where_used slots Depth) k y) [
      | inl b ↦ there Index k b
      | inr z ↦ elim (either_at (where_used slots Input) (where_used slots Depth) k z) [
        | inl c ↦ there Input k c
        | inr d ↦ there Depth k d
      ]
    ]
  ]

-- slots

exit_is : (k : Trap) (e : Exit) → exit_traps k e ≡ true → e ≡ Ends k
exit_is k (Goto c) t = absurd (cc)
exit_is k (Split v y z) t = absurd (cc)
exit_is k (Call f os r next) t = absurd (cc)
exit_is k (Return o) t = absurd (cc)
exit_is k (Ends j) t = ap Ends (same_kind j k t)

one_of : (a b : Bool) → (a || b) ≡ true → (a ≡ true) ⊎ (b ≡ true)
one_of true b e = inl refl
one_of false b e = inr e

second_of : (a b : Bool) → b ≡ true → (a || b) ≡ true
second_of true b e = refl
second_of false b e = e

first_of_two : (a b : Bool) → a ≡ true → (a || b) ≡ true
first_of_two true b e = refl
first_of_two false b e = absurd (cc)

slot_used : (k : Trap) (slot : Option Block) → traps_by k slot ≡ true → (block : Block) × (slot ≡ Some block) × (block.exit ≡ Ends k)
slot_used k None e = absurd (cc)
slot_used k (Some block) e = (block, refl, exit_is k block.exit e)

any_used : (slots : List (Option Block)) (k : Trap) → list_any (traps_by k) slots ≡ true → IsUsed slots k
any_used [] k e = absurd (cc)
any_used (s ∷ slots) k e = elim (one_of (traps_by k s) (list_any (traps_by k) slots) e) [
  | inl a ↦ let x = slot_used k s a in record { place = 0; block = x.0; has = ap Some x.1; ends = x.2 }
  | inr b ↦ let y = any_used slots k b in record { place = suc y.place; block = y.block; has = y.has; ends = y.ends }
]

used_any : (slots : List (Option Block)) (n : ℕ) (block : Block) (k : Trap) → slice_get slots n ≡ Some (Some block) → block.exit ≡ Ends k → list_any (traps_by k) slots ≡ true
used_any [] n block k e x = absurd (cc)
used_any (s ∷ slots) zero block k e x =
    let is : s ≡ Some block = cc in
    first_of_two (traps_by k s) (list_any (traps_by k) slots) (ap (traps_by k) is ∙ ap (exit_traps k) x ∙ is_itself k)
used_any (s ∷ slots) (suc n) block k e x = second_of (traps_by k s) (list_any (traps_by k) slots) (used_any slots n block k e x)

-- the place of a kind

abbrev or_zero : Bool → ℕ → ℕ
or_zero true n = 0
or_zero false n = suc n

place_is : (j : Trap) (kinds : List Trap) (k : Trap) → place_in (j ∷ kinds) k ≡ or_zero (is_kind j k) (place_in kinds k)
place_is j kinds k = by (is_kind j k) refl
  where
    by : (b : Bool) → is_kind j k ≡ b → place_in (j ∷ kinds) k ≡ or_zero (is_kind j k) (place_in kinds k)
    by true e = grind arith
    by false e = grind arith

place_at : (kinds : List Trap) (k : Trap) → IsAt kinds k → slice_get kinds (place_in kinds k) ≡ Some k
place_at [] k x = absurd (none_is x.has)
place_at (j ∷ kinds) k x = by (place_at kinds k) (is_kind j k) refl x.place x.has
  where
    by : (IsAt kinds k → slice_get kinds (place_in kinds k) ≡ Some k) → (b : Bool) → is_kind j k ≡ b → (i : ℕ) → slice_get (j ∷ kinds) i ≡ Some k → slice_get (j ∷ kinds) (place_in (j ∷ kinds) k) ≡ Some k
    by go true e i h = ap (slice_get (j ∷ kinds)) (place_is j kinds k ∙ ap (λ b. or_zero b (place_in kinds k)) e) ∙ ap Some (same_kind j k e)
    by go false e zero h = let is : j ≡ k = cc in let t : false ≡ true = sym e ∙ ap (λ z. is_kind z k) is ∙ is_itself k in absurd (cc)
    by go false e (suc i) h = ap (slice_get (j ∷ kinds)) (place_is j kinds k ∙ ap (λ b. or_zero b (place_in kinds k)) e) ∙ go (record { place = i; has = h })

-- a loop that looks for the place of a kind

place_here : (kinds : List Trap) (k d : Trap) (i : ℕ) (b : Bool) → i < length kinds → b ≡ is_kind (get_or kinds i d) k → place_in (drop i kinds) k ≡ or_zero b (place_in (drop (i + 1) kinds) k)
place_here [] k d i b h t = absurd (omega arith)
place_here (y ∷ kinds) k d zero b h t =
    let one : suc 0 ≡ 0 + 1 = omega arith in
    place_is y kinds k ∙ ap (λ x. or_zero x (place_in kinds k)) (sym t) ∙ ap (λ n. or_zero b (place_in (drop n (y ∷ kinds)) k)) one
place_here (y ∷ kinds) k d (suc i) b h t =
    let more : suc (i + 1) ≡ suc i + 1 = omega arith in
    place_here kinds k d i b (omega arith) t ∙ ap (λ n. or_zero b (place_in (drop n (y ∷ kinds)) k)) more

pub place_next : (kinds : List Trap) (k d : Trap) (place i : ℕ) (b : Bool) → i < length kinds → b ≡ is_kind (get_or kinds i d) k → b ≡ false → (place ≡ i) × (place_in kinds k ≡ i + place_in (drop i kinds) k) → (place + 1 ≡ i + 1) × (place_in kinds k ≡ i + 1 + place_in (drop (i + 1) kinds) k)
place_next kinds k d place i b h t f x =
    let here : place_in (drop i kinds) k ≡ suc (place_in (drop (i + 1) kinds) k) = place_here kinds k d i b h t ∙ ap (λ z. or_zero z (place_in (drop (i + 1) kinds) k)) f in
    let so : place_in kinds k ≡ i + place_in (drop i kinds) k = x.1 in
    (ap (λ n. n + 1) x.0, omega arith)

pub place_found : (kinds : List Trap) (k d : Trap) (place i : ℕ) (b : Bool) → i < length kinds → b ≡ is_kind (get_or kinds i d) k → b ≡ true → (place ≡ i) × (place_in kinds k ≡ i + place_in (drop i kinds) k) → place ≡ place_in kinds k
place_found kinds k d place i b h t f x =
    let here : place_in (drop i kinds) k ≡ 0 = place_here kinds k d i b h t ∙ ap (λ z. or_zero z (place_in (drop (i + 1) kinds) k)) f in
    let at : place ≡ i = x.0 in
    let so : place_in kinds k ≡ i + place_in (drop i kinds) k = x.1 in
    omega arith

pub place_none : (kinds : List Trap) (k : Trap) (place i : ℕ) → length kinds ≤ i → (place ≡ i) × (place_in kinds k ≡ i + place_in (drop i kinds) k) → place ≡ place_in kinds k
place_none kinds k place i h x =
    let none : place_in (drop i kinds) k ≡ 0 = prefix_len-drop_all (λ j. not (is_kind j k)) kinds i h in
    let at : place ≡ i = x.0 in
    let so : place_in kinds k ≡ i + place_in (drop i kinds) k = x.1 in
    omega arith

pub place_within : (kinds : List Trap) (k : Trap) (place : ℕ) → place ≡ place_in kinds k → place ≤ length kinds
place_within kinds k place e = subst (λ n. n ≤ length kinds) (sym e) (prefix_len-le-length (λ j. not (is_kind j k)) kinds)

-- finished blocks

behind : {A : Type 0} (xs ys : List A) (i : ℕ) → slice_get (xs ++ ys) (length xs + i) ≡ slice_get ys i
behind [] ys i = let e : 0 + i ≡ i = omega arith in ap (slice_get ys) e
behind (x ∷ xs) ys i = let e : suc (length xs) + i ≡ suc (length xs + i) = omega arith in ap (slice_get (x ∷ (xs ++ ys))) e ∙ behind xs ys i

none_traps : (n : ℕ) (kinds : List Trap) (block : Block) (k : Trap) (e : Exit) → block.exit ≡ e → (settled_exit n kinds block e).exit ≡ Ends k → ⊥
none_traps n kinds block k (Goto c) e t = let w : Goto c ≡ Ends k = sym e ∙ t in cc
none_traps n kinds block k (Split v y z) e t = let w : Split v y z ≡ Ends k = sym e ∙ t in cc
none_traps n kinds block k (Call f os r next) e t = let w : Call f os r next ≡ Ends k = sym e ∙ t in cc
none_traps n kinds block k (Return o) e t = let w : Return o ≡ Ends k = sym e ∙ t in cc
none_traps n kinds block k (Ends j) e t = cc

slot_traps : (n : ℕ) (kinds : List Trap) (slot : Option Block) (k : Trap) → (settled n kinds slot).exit ≡ Ends k → ⊥
slot_traps n kinds None k t = cc
slot_traps n kinds (Some block) k t = none_traps n kinds block k block.exit refl t

abbrev over : {A B : Type 0} → (A → B) → Option A → Option B
over f None = None
over f (Some x) = Some (f x)

get_map : {A B : Type 0} (f : A → B) (xs : List A) (i : ℕ) → slice_get (map f xs) i ≡ over f (slice_get xs i)
get_map f [] i = refl
get_map f (x ∷ xs) zero = refl
get_map f (x ∷ xs) (suc i) = get_map f xs i

-- an item of a list that was mapped
pub got_map : {A B : Type 0} (f : A → B) (xs : List A) (i : ℕ) (y : B) → slice_get (map f xs) i ≡ Some y → (x : A) × (slice_get xs i ≡ Some x) × (f x ≡ y)
got_map f [] i y e = absurd (none_is e)
got_map f (x ∷ xs) zero y e = let is : f x ≡ y = cc in (x, refl, is)
got_map f (x ∷ xs) (suc i) y e = got_map f xs i y e

length_both : {A : Type 0} (xs ys : List A) → length (xs ++ ys) ≡ length xs + length ys
length_both [] ys = omega arith
length_both (x ∷ xs) ys = let e = length_both xs ys in omega arith

is_there : {A : Type 0} (xs : List A) (i : ℕ) → i < length xs → (x : A) × (slice_get xs i ≡ Some x)
is_there [] i h = absurd (omega arith)
is_there (x ∷ xs) zero h = (x, refl)
is_there (x ∷ xs) (suc i) h = is_there xs i (omega arith)

module _ (slots : List (Option Block)) where
  abbrev B : List Block
  B = finished slots

  abbrev kinds : List Trap
  kinds = kinds_in slots

  abbrev fronts : List Block
  fronts = map (settled (length slots) kinds) slots

  fronts_length : length fronts ≡ length slots
  fronts_length = length-map slots (settled (length slots) kinds)

  trap_there : (i : ℕ) (k : Trap) → slice_get kinds i ≡ Some k → slice_get B (length slots + i) ≡ Some (trap_block k)
  trap_there i k e =
      ap (λ n. slice_get B (n + i)) (sym fronts_length) ∙ behind fronts (map trap_block kinds) i ∙ get_map trap_block kinds i ∙ ap (over trap_block) e

  slot_there : (n : ℕ) (block : Block) → slice_get slots n ≡ Some (Some block) → slice_get B n ≡ Some (settled_exit (length slots) kinds block block.exit)
  slot_there n block e =
      let w = slice_get_within slots n (Some block) e in
      let l = fronts_length in
      get_front fronts (map trap_block kinds) n (omega arith) ∙ get_map (settled (length slots) kinds) slots n ∙ ap (over (settled (length slots) kinds)) e

  stands_by : (n : ℕ) (block : Block) (e : Exit) → block.exit ≡ e → slice_get slots n ≡ Some (Some block) → slice_get B n ≡ Some (settled_exit (length slots) kinds block e) → Stands B n block e
  stands_by n block (Goto c) x e s = s
  stands_by n block (Split v y z) x e s = s
  stands_by n block (Call f os r next) x e s = s
  stands_by n block (Return o) x e s = s
  stands_by n block (Ends k) x e s =
      let is = used_at slots k (used_any slots n block k e x) in
      (jump (length slots + place_in kinds k), s, on (length slots + place_in kinds k) (trap_block k) refl (trap_there (place_in kinds k) k (place_at kinds k is)) (same refl))

  pub finished_stands : (n : ℕ) (block : Block) → slice_get slots n ≡ Some (Some block) → Stands B n block block.exit
  finished_stands n block e = stands_by n block block.exit refl e (slot_there n block e)

  -- where a trap block stands
  record Trapped (b : ℕ) (k : Trap) (block : Block) : Type 0 where
    pub place : ℕ
    pub at : b ≡ length slots + place
    pub has : slice_get kinds place ≡ Some k
    pub is : trap_block k ≡ block

  trapped : (b : ℕ) (k : Trap) → (t : TrapsAt B b k) → Trapped b k t.block
  trapped b k t = elim (cases_lt b (length slots)) [
    | inl h ↦
        let l = fronts_length in
        let e : slice_get fronts b ≡ Some t.block = sym (get_front fronts (map trap_block kinds) b (omega arith)) ∙ t.has in
        let x = got_map (settled (length slots) kinds) slots b t.block e in
        absurd (slot_traps (length slots) kinds x.0 k (ap (λ z. z.exit) x.2 ∙ t.ends))
    | inr h ↦
        let i = b - length slots in
        let at : b ≡ length slots + i = omega arith in
        let e : slice_get (map trap_block kinds) i ≡ Some t.block = sym (ap (λ n. slice_get B (n + i)) (sym fronts_length) ∙ behind fronts (map trap_block kinds) i) ∙ sym (ap (slice_get B) at) ∙ t.has in
        let x = got_map trap_block kinds i t.block e in
        let same_exit : Ends x.0 ≡ Ends k = ap (λ z. z.exit) x.2 ∙ t.ends in
        let same_one : x.0 ≡ k = cc in
        record { place = i; at = at; has = x.1 ∙ ap Some same_one; is = ap trap_block (sym same_one) ∙ x.2 }
  ]

  pub finished_traps : TrapsLast B
  finished_traps = record {
    empty = λ b k t. let x = trapped b k t in sym (ap (λ z. z.ops) x.is);
    alone = λ b c k t u. let x = trapped b k t in let y = trapped c k u in x.at ∙ ap (λ i. length slots + i) (kinds_once slots x.place y.place k x.has y.has) ∙ sym y.at;
    last = λ b c k t h w.
        let x = trapped b k t in
        let a = x.at in
        let l = fronts_length in
        let m = length-map kinds trap_block in
        let n = length_both fronts (map trap_block kinds) in
        let i = c - length slots in
        let at : c ≡ length slots + i = omega arith in
        let k = is_there kinds i (omega arith) in
        (k.0, record { block = trap_block k.0; has = ap (slice_get B) at ∙ trap_there i k.0 k.1; ends = refl });
  }

  pub finished_used : (b : ℕ) (k : Trap) → TrapsAt B b k → IsUsed slots k
  finished_used b k t = let x = trapped b k t in any_used slots k (at_used slots k (record { place = x.place; has = x.has }))

  exit_short : (block : Block) (e : Exit) → length block.ops ≤ 512 → length (settled_exit (length slots) kinds block e).ops ≤ 512
  exit_short block (Goto c) h = h
  exit_short block (Split v y z) h = h
  exit_short block (Call f os r next) h = h
  exit_short block (Return o) h = h
  exit_short block (Ends k) h = omega arith

  slot_short : WereShort slots → (n : ℕ) (slot : Option Block) → slice_get slots n ≡ Some slot → length (settled (length slots) kinds slot).ops ≤ 512
  slot_short s n None e = omega arith
  slot_short s n (Some block) e = exit_short block block.exit (s.short n block e)

  pub finished_short : WereShort slots → AreShort B
  finished_short s = record { short = λ b block e. by b block e (cases_lt b (length slots)) }
    where
      by : (b : ℕ) (block : Block) → slice_get B b ≡ Some block → (b < length slots) ⊎ (length slots ≤ b) → length block.ops ≤ 512
      by b block e (inl h) =
          let l = fronts_length in
          let f : slice_get fronts b ≡ Some block = sym (get_front fronts (map trap_block kinds) b (omega arith)) ∙ e in
          let x = got_map (settled (length slots) kinds) slots b block f in
          subst (λ z. length z.ops ≤ 512) x.2 (slot_short s b x.0 x.1)
      by b block e (inr h) =
          let i = b - length slots in
          let at : b ≡ length slots + i = omega arith in
          let f : slice_get (map trap_block kinds) i ≡ Some block = sym (ap (λ n. slice_get B (n + i)) (sym fronts_length) ∙ behind fronts (map trap_block kinds) i) ∙ sym (ap (slice_get B) at) ∙ e in
          let x = got_map trap_block kinds i block f in
          subst (λ z. length z.ops ≤ 512) x.2 (omega arith)

  stays_exit : (block : Block) (e : Exit) → ((trap : Trap) → e ≡ Ends trap → ⊥) → settled_exit (length slots) kinds block e ≡ block
  stays_exit block (Goto c) n = refl
  stays_exit block (Split v y z) n = refl
  stays_exit block (Call f os r next) n = refl
  stays_exit block (Return o) n = refl
  stays_exit block (Ends k) n = absurd (n k refl)

  pub finished_settled : Settled slots B
  finished_settled =
      let l = fronts_length in
      let m = length-map kinds trap_block in
      let n = length_both fronts (map trap_block kinds) in
      record {
        longer = omega arith;
        waits = λ i e. let w = slice_get_within slots i None e in get_front fronts (map trap_block kinds) i (omega arith) ∙ get_map (settled (length slots) kinds) slots i ∙ ap (over (settled (length slots) kinds)) e;
        stays = λ i x e n. slot_there i x e ∙ ap Some (stays_exit x x.exit n);
        stops = λ i x trap e q.
            let is = used_at slots trap (used_any slots i x trap e q) in
            let w = slice_get_within kinds (place_in kinds trap) trap (place_at kinds trap is) in
            (length slots + place_in kinds trap, omega arith, omega arith, slot_there i x e ∙ ap (λ z. Some (settled_exit (length slots) kinds x z)) q);
        behind = λ i x h e.
            let j = i - length slots in
            let at : i ≡ length slots + j = omega arith in
            let f : slice_get (map trap_block kinds) j ≡ Some x = sym (ap (λ n. slice_get B (n + j)) (sym fronts_length) ∙ behind fronts (map trap_block kinds) j) ∙ sym (ap (slice_get B) at) ∙ e in
            let y = got_map trap_block kinds j x f in
            (y.0, sym y.2);
      }
