-- The values that a graph names, as they are listed.
use Rattle.std.proofs.Common.{◌≡◌, ℕ, zero, suc, ◌+◌, ◌<◌, ◌≤◌, Bool, true, false, cond, not, nat_le, ◌&&◌, List, [], ◌∷◌, ◌++◌, ◌-◌, length, slice_get, take, Option, refl, sym, ap, ◌∙◌, arith, append-nil, append_assoc}
use Rattle.std.proofs.lemmas.Bool.{le-leb, leb-true, leb-false}
use Rattle.std.proofs.lemmas.List.{length-append, length-take-le, take_all}
use Rattle.std.proofs.Math.Seq.{take-append_seam}
use Rattle.std.specs.List.{filter}
use Rattle.vx_flow.specs.declared.graph.Bank.{Bank}
use Rattle.vx_flow.specs.declared.graph.Bank.TheVariants.{General, Branch}
use Rattle.vx_flow.specs.declared.graph.Op.{Op}
use Rattle.vx_flow.specs.declared.graph.Graph.{Graph}
use Rattle.vx_flow.specs.Effects.{writes}
use Rattle.vx_flow.specs.Operands.{value_list, written_by}
use Rattle.vx_flow.specs.Rows.{is_marked}
use Rattle.vx_flow.specs.Sound.{is_bank}
use Rattle.vx_flow.specs.Walk.{numbers}
use Rattle.vx_flow.proofs.HeaderSteps.{filter_more}
use Rattle.vx_flow.proofs.OperandLaws.{writes_listed}
use Rattle.vx_inline.specs.Inlined.{TheCall, is_among, names, named}
use Rattle.vx_inline.specs.declared.by_bank.ByBank.{ByBank}
use Rattle.vx_inline.specs.Values.{is_listed, kept, first_free, free_of, is_enough, has_values, of_bank}

pub written_added : (op : Op) (w : Option ℕ) (old new : List ℕ) → w ≡ written_by op → new ≡ old ++ value_list w → new ≡ old ++ writes op
written_added op w old new e q = q ∙ ap (λ l. old ++ l) (writes_listed op w e)

pub filter_same : (p q : ℕ → Bool) (b k n : ℕ) → ((x : ℕ) → x < n → p x ≡ q x) → b + k ≤ n → filter p (numbers b k) ≡ filter q (numbers b k)
filter_same p q b zero n h l = refl
filter_same p q b (suc k) n h l =
    let e = h b (omega arith) in
    let r = filter_same p q (b + 1) k n h (omega arith) in
    ap (λ t. cond t (b ∷ filter p (numbers (b + 1) k)) (filter p (numbers (b + 1) k))) e ∙ ap (λ l. cond (q b) (b ∷ l) l) r

-- where the names are marked
pub listed_named : (g : Graph) (marks : List Bool) (n : ℕ) (bank : Bank) → n ≡ length g.banks → ((v : ℕ) → v < n → is_marked marks v ≡ is_among (names g) v) →
    filter (is_listed g.banks marks true bank) (numbers 0 (length g.banks)) ≡ named g bank
listed_named g marks n bank e h =
    filter_same (is_listed g.banks marks true bank) (λ v. is_bank bank (slice_get g.banks v) && is_among (names g) v) 0 (length g.banks) (length g.banks)
    (λ v l. ap (λ t. is_bank bank (slice_get g.banks v) && t) (h v (let k : v < length g.banks = l in omega (arith, k, e)))) (omega arith)

-- where those are marked that are not free
pub listed_free : (rows : List (List ℕ)) (c : TheCall) (marks : List Bool) (n : ℕ) (bank : Bank) → n ≡ length c.caller.banks → ((v : ℕ) → v < n → is_marked marks v ≡ is_among (kept rows c) v) →
    filter (is_listed c.caller.banks marks false bank) (numbers 0 (length c.caller.banks)) ≡ free_of rows c bank
listed_free rows c marks n bank e h =
    filter_same (is_listed c.caller.banks marks false bank) (λ v. is_bank bank (slice_get c.caller.banks v) && not (is_among (kept rows c) v)) 0 (length c.caller.banks) (length c.caller.banks)
    (λ v l. ap (λ t. is_bank bank (slice_get c.caller.banks v) && not t) (h v (let k : v < length c.caller.banks = l in omega (arith, k, e)))) (omega arith)

-- one number more

pub next_in : (p : ℕ → Bool) (found new : List ℕ) (n : ℕ) → found ≡ filter p (numbers 0 n) → p n ≡ true → new ≡ found ++ n ∷ [] → new ≡ filter p (numbers 0 (n + 1))
next_in p found new n e t q = q ∙ ap (λ l. l ++ n ∷ []) e ∙ ap (λ s. filter p (numbers 0 n) ++ cond s (n ∷ []) []) (sym t) ∙ sym (filter_more p n)

pub next_out : (p : ℕ → Bool) (found : List ℕ) (n : ℕ) → found ≡ filter p (numbers 0 n) → p n ≡ false → found ≡ filter p (numbers 0 (n + 1))
next_out p found n e t = e ∙ sym (append-nil (filter p (numbers 0 n))) ∙ ap (λ s. filter p (numbers 0 n) ++ cond s (n ∷ []) []) (sym t) ∙ sym (filter_more p n)

-- the first ones

filter_front : (p : ℕ → Bool) (n d : ℕ) → (rest : List ℕ) × (filter p (numbers 0 (n + d)) ≡ filter p (numbers 0 n) ++ rest)
filter_front p n zero = let z : n + 0 ≡ n = omega arith in ([], ap (λ k. filter p (numbers 0 k)) z ∙ sym (append-nil (filter p (numbers 0 n))))
filter_front p n (suc d) =
    let w : (rest : List ℕ) × (filter p (numbers 0 (n + d)) ≡ filter p (numbers 0 n) ++ rest) = filter_front p n d in
    let more : List ℕ = cond (p (n + d)) ((n + d) ∷ []) [] in
    let z : n + suc d ≡ n + d + 1 = omega arith in
    (w.0 ++ more, ap (λ k. filter p (numbers 0 k)) z ∙ filter_more p (n + d) ∙ ap (λ l. l ++ more) w.1 ∙ append_assoc (filter p (numbers 0 n)) w.0 more)

pub first_full : (p : ℕ → Bool) (found : List ℕ) (n count most : ℕ) → found ≡ filter p (numbers 0 n) → length found ≤ most → most ≤ length found → n ≤ count → found ≡ take most (filter p (numbers 0 count))
first_full p found n count most e l m low =
    let w : (rest : List ℕ) × (filter p (numbers 0 (n + (count - n))) ≡ filter p (numbers 0 n) ++ rest) = filter_front p n (count - n) in
    let z : n + (count - n) ≡ count = omega (arith, low) in
    let q : length found ≡ most = omega (arith, l, m) in
    sym (ap (λ k. take most (filter p (numbers 0 k))) (sym z) ∙ ap (take most) w.1 ∙ ap (λ l. take most (l ++ w.0)) (sym e) ∙ ap (λ k. take k (found ++ w.0)) (sym q) ∙ take-append_seam found w.0)

pub first_all : (p : ℕ → Bool) (found : List ℕ) (n count most : ℕ) → found ≡ filter p (numbers 0 n) → length found ≤ most → n ≡ count → found ≡ take most (filter p (numbers 0 count))
first_all p found n count most e l q = sym (take_all most found l) ∙ ap (take most) (e ∙ ap (λ k. filter p (numbers 0 k)) q)

pub first_next : (p : ℕ → Bool) (found new : List ℕ) (n : ℕ) → found ≡ filter p (numbers 0 n) → new ≡ found ++ cond (p n) (n ∷ []) [] → new ≡ filter p (numbers 0 (n + 1))
first_next p found new n e q = q ∙ ap (λ l. l ++ cond (p n) (n ∷ []) []) e ∙ sym (filter_more p n)

pub few_next : (found new : List ℕ) (n most : ℕ) (t : Bool) → length found < most → new ≡ found ++ cond t (n ∷ []) [] → length new ≤ most
few_next found new n most t l q =
    let a : length new ≡ length found + length (cond t (n ∷ []) []) = ap (λ (x : List ℕ). length x) q ∙ length-append found (cond t (n ∷ []) []) in
    let b : length (cond t (n ∷ []) []) ≤ 1 = one t in
    omega (arith, a, b, l)
  where
    one : (t : Bool) → length (cond t (n ∷ []) []) ≤ 1
    one true = omega arith
    one false = omega arith

enough_first : (n : ℕ) (xs : List ℕ) → nat_le n (length (take n xs)) ≡ nat_le n (length xs)
enough_first n xs = by (nat_le n (length xs)) refl
  where
    by : (t : Bool) → nat_le n (length xs) ≡ t → nat_le n (length (take n xs)) ≡ t
    by true e = ap (nat_le n) (length-take-le n xs (leb-true n (length xs) e)) ∙ le-leb n n (omega arith)
    by false e = ap (λ l. nat_le n (length l)) (take_all n xs (omega (arith, short))) ∙ e
      where
        short : length xs < n
        short = leb-false n (length xs) e

-- by bank

pub both_listed : (banks : List Bank) (marks : List Bool) (marked : Bool) (general branch : List ℕ) → general ≡ filter (is_listed banks marks marked General) (numbers 0 (length banks)) → branch ≡ filter (is_listed banks marks marked Branch) (numbers 0 (length banks)) →
    (bank : Bank) → of_bank (record { general = general; branch = branch }) bank ≡ filter (is_listed banks marks marked bank) (numbers 0 (length banks))
both_listed banks marks marked general branch e q General = e
both_listed banks marks marked general branch e q Branch = q

pub named_by : (g : Graph) (list row : List ℕ) (marks shown : List Bool) (banks : List Bank) (count : ℕ) (values : ByBank) → list ≡ names g → row ≡ list → count ≡ length g.banks → ((v : ℕ) → v < count → is_marked marks v ≡ is_among row v) → banks ≡ g.banks → shown ≡ marks →
    ((bank : Bank) → of_bank values bank ≡ filter (is_listed banks shown true bank) (numbers 0 (length banks))) → (bank : Bank) → of_bank values bank ≡ named g bank
named_by g list row marks shown banks count values e r n h b s k bank =
    k bank ∙ ap (λ l. filter (is_listed l shown true bank) (numbers 0 (length l))) b ∙ ap (λ m. filter (is_listed g.banks m true bank) (numbers 0 (length g.banks))) s ∙
    listed_named g marks count bank n (λ v l. h v l ∙ ap (λ x. is_among x v) (r ∙ e))

pub both_first : (banks : List Bank) (marks : List Bool) (others : ByBank) (general branch : List ℕ) → general ≡ take (length others.general) (filter (is_listed banks marks false General) (numbers 0 (length banks))) →
    branch ≡ take (length others.branch) (filter (is_listed banks marks false Branch) (numbers 0 (length banks))) → (bank : Bank) → of_bank (record { general = general; branch = branch }) bank ≡ take (length (of_bank others bank)) (filter (is_listed banks marks false bank) (numbers 0 (length banks)))
both_first banks marks others general branch e q General = e
both_first banks marks others general branch e q Branch = q

pub free_by : (rows : List (List ℕ)) (c : TheCall) (list row : List ℕ) (marks shown : List Bool) (banks : List Bank) (count : ℕ) (others values : ByBank) → list ≡ kept rows c → row ≡ list → count ≡ length c.caller.banks → ((v : ℕ) → v < count → is_marked marks v ≡ is_among row v) → banks ≡ c.caller.banks →
    shown ≡ marks → ((bank : Bank) → of_bank values bank ≡ take (length (of_bank others bank)) (filter (is_listed banks shown false bank) (numbers 0 (length banks)))) → (bank : Bank) → of_bank values bank ≡ first_free rows c others bank
free_by rows c list row marks shown banks count others values e r n h b s k bank =
    k bank ∙
    ap (take (length (of_bank others bank)))
    (ap (λ l. filter (is_listed l shown false bank) (numbers 0 (length l))) b ∙ ap (λ m. filter (is_listed c.caller.banks m false bank) (numbers 0 (length c.caller.banks))) s ∙
    listed_free rows c marks count bank n (λ v l. h v l ∙ ap (λ x. is_among x v) (r ∙ e)))

-- there are enough of both banks
pub both_enough : (rows : List (List ℕ)) (c : TheCall) (free named_ones : ByBank) → ((bank : Bank) → of_bank free bank ≡ first_free rows c named_ones bank) → ((bank : Bank) → of_bank named_ones bank ≡ named c.callee bank) →
    (nat_le (length named_ones.general) (length free.general) && nat_le (length named_ones.branch) (length free.branch)) ≡ has_values rows c
both_enough rows c free named_ones f n =
    ap (λ l. nat_le (length named_ones.general) (length l) && nat_le (length named_ones.branch) (length free.branch)) (f General) ∙
    ap (λ l. nat_le (length named_ones.general) (length (take (length named_ones.general) (free_of rows c General))) && nat_le (length named_ones.branch) (length l)) (f Branch) ∙
    ap (λ t. t && nat_le (length named_ones.branch) (length (take (length named_ones.branch) (free_of rows c Branch)))) (enough_first (length named_ones.general) (free_of rows c General)) ∙
    ap (λ t. nat_le (length named_ones.general) (length (free_of rows c General)) && t) (enough_first (length named_ones.branch) (free_of rows c Branch)) ∙
    ap (λ l. nat_le (length l) (length (free_of rows c General)) && nat_le (length named_ones.branch) (length (free_of rows c Branch))) (n General) ∙
    ap (λ l. is_enough rows c General && nat_le (length l) (length (free_of rows c Branch))) (n Branch)
