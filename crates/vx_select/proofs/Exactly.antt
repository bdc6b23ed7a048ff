-- Graphs with exactly so many values: each is padded, is bounded, and a flow of them is sound and stays one of its program.
use Rattle.std.proofs.Common.{◌≡◌, ℕ, zero, suc, ◌+◌, ◌-◌, ◌*◌, ◌≤◌, Bool, true, false, cond, List, [], ◌∷◌, ◌++◌, replicate, slice_get, Some, refl, sym, ap, subst, ◌∙◌, arith}
use Rattle.std.specs.Prelude.{count_by}
use Rattle.std.specs.Option.{option_map}
use Rattle.std.proofs.lemmas.Option.{slice_get-map}
use Rattle.std.proofs.lemmas.List.{append_assoc}
use Rattle.std.proofs.lemmas.List.Recursion.{is_count_by}
use Rattle.vx_ast.specs.Tree.{Program}
use Rattle.vx_ast.specs.Accepted.{function_nodes}
use Rattle.vx_flow.specs.declared.graph.Bank.{Bank}
use Rattle.vx_flow.specs.declared.graph.Bank.TheVariants.{General, Branch}
use Rattle.vx_flow.specs.declared.graph.Graph.{Graph}
use Rattle.vx_flow.specs.declared.graph.Flow.{Flow}
use Rattle.vx_flow.specs.Sound.{is_sound_flow}
use Rattle.vx_flow.proofs.SoundFlowLaw.{flow_is, flow_of}
use Rattle.vx_lower.specs.FlowOf.{is_general, is_branch, FlowOf}
use Rattle.vx_shape.specs.Flows.{with_graphs, Each}
use Rattle.vx_select.specs.Padding.{Padded, AreBounded, lacking, all_padded_to, AreWithin, EachPaddedTo, FlowPadded, AreSizes}
use Rattle.vx_select.proofs.Kept.{new_sound}
use Rattle.vx_select.proofs.PaddedFlow.{kept, padded_stays}

-- ---- counts

abbrev counted : (Bank → Bool) → List Bank → ℕ
counted p [] = 0
counted p (x ∷ xs) = cond (p x) (1 + counted p xs) (counted p xs)

counted_is : (p : Bank → Bool) (xs : List Bank) → counted p xs ≡ count_by p xs
counted_is p xs = is_count_by (counted p) p refl (λ y ys. refl) xs

counted_append : (p : Bank → Bool) (xs ys : List Bank) → counted p (xs ++ ys) ≡ counted p xs + counted p ys
counted_append p [] ys = let z : 0 + counted p ys ≡ counted p ys = omega arith in sym z
counted_append p (x ∷ xs) ys = by (p x) (counted p (xs ++ ys)) (counted p xs) (counted_append p xs ys)
  where
    by : (b : Bool) (m n : ℕ) → m ≡ n + counted p ys → cond b (1 + m) m ≡ cond b (1 + n) n + counted p ys
    by true m n h = omega arith
    by false m n h = h

counted_all : (p : Bank → Bool) (x : Bank) (n : ℕ) → p x ≡ true → counted p (replicate n x) ≡ n
counted_all p x zero e = refl
counted_all p x (suc n) e = let h : 1 + n ≡ suc n = omega arith in ap (λ b. cond b (1 + counted p (replicate n x)) (counted p (replicate n x))) e ∙ ap (λ k. 1 + k) (counted_all p x n e) ∙ h

counted_none : (p : Bank → Bool) (x : Bank) (n : ℕ) → p x ≡ false → counted p (replicate n x) ≡ 0
counted_none p x zero e = refl
counted_none p x (suc n) e = ap (λ b. cond b (1 + counted p (replicate n x)) (counted p (replicate n x))) e ∙ counted_none p x n e

both_counted : (p : Bank → Bool) (banks : List Bank) (m n : ℕ) → counted p (banks ++ (replicate m General ++ replicate n Branch)) ≡ counted p banks + (counted p (replicate m General) + counted p (replicate n Branch))
both_counted p banks m n = counted_append p banks (replicate m General ++ replicate n Branch) ∙ ap (λ k. counted p banks + k) (counted_append p (replicate m General) (replicate n Branch))

fill_first : (a x y t c : ℕ) → a ≡ c → x ≡ t - c → y ≡ 0 → c ≤ t → a + (x + y) ≡ t
fill_first a x y t c p q r h = omega arith

fill_last : (a x y t c : ℕ) → a ≡ c → x ≡ 0 → y ≡ t - c → c ≤ t → a + (x + y) ≡ t
fill_last a x y t c p q r h = omega arith

pub lacking_is : (n x y : ℕ) (banks one two : List Bank) → x ≡ 3 * n - count_by is_general banks → y ≡ 2 * n - count_by is_branch banks → one ≡ banks ++ replicate x General → two ≡ one ++ replicate y Branch → two ≡ banks ++ lacking n banks
lacking_is n x y banks one two p q r s =
    s ∙ ap (λ l. l ++ replicate y Branch) r ∙ append_assoc banks (replicate x General) (replicate y Branch) ∙ ap (λ k. banks ++ (replicate k General ++ replicate y Branch)) p
    ∙ ap (λ k. banks ++ (replicate (3 * n - count_by is_general banks) General ++ replicate k Branch)) q

abbrev first_lack : ℕ → List Bank → ℕ
first_lack n banks = 3 * n - count_by is_general banks

abbrev last_lack : ℕ → List Bank → ℕ
last_lack n banks = 2 * n - count_by is_branch banks

to_generals : (n : ℕ) (banks : List Bank) → count_by is_general banks ≤ 3 * n → count_by is_general (banks ++ lacking n banks) ≡ 3 * n
to_generals n banks h =
    sym (counted_is is_general (banks ++ lacking n banks)) ∙ both_counted is_general banks (first_lack n banks) (last_lack n banks)
    ∙ fill_first (counted is_general banks) (counted is_general (replicate (first_lack n banks) General)) (counted is_general (replicate (last_lack n banks) Branch)) (3 * n) (count_by is_general banks) (counted_is is_general banks)
    (counted_all is_general General (first_lack n banks) refl) (counted_none is_general Branch (last_lack n banks) refl) h

to_branches : (n : ℕ) (banks : List Bank) → count_by is_branch banks ≤ 2 * n → count_by is_branch (banks ++ lacking n banks) ≡ 2 * n
to_branches n banks h =
    sym (counted_is is_branch (banks ++ lacking n banks)) ∙ both_counted is_branch banks (first_lack n banks) (last_lack n banks)
    ∙ fill_last (counted is_branch banks) (counted is_branch (replicate (first_lack n banks) General)) (counted is_branch (replicate (last_lack n banks) Branch)) (2 * n) (count_by is_branch banks) (counted_is is_branch banks)
    (counted_none is_branch General (first_lack n banks) refl) (counted_all is_branch Branch (last_lack n banks) refl) h

-- ---- each graph

each_exactly : (sizes : List ℕ) (gs : List Graph) → AreWithin sizes gs → EachPaddedTo sizes gs (all_padded_to sizes gs)
each_exactly [] [] w = tt
each_exactly [] (g ∷ gs) w = absurd w
each_exactly (n ∷ ns) [] w = absurd w
each_exactly (n ∷ ns) (g ∷ gs) w = (record { is = refl; generals = to_generals n g.banks w.0.0; branches = to_branches n g.banks w.0.1 }, each_exactly ns gs w.1)

each_padded : (sizes : List ℕ) (gs hs : List Graph) → EachPaddedTo sizes gs hs → Each Padded gs hs
each_padded [] [] [] e = tt
each_padded [] [] (h ∷ hs) e = absurd e
each_padded [] (g ∷ gs) hs e = absurd e
each_padded (n ∷ ns) [] hs e = absurd e
each_padded (n ∷ ns) (g ∷ gs) [] e = absurd e
each_padded (n ∷ ns) (g ∷ gs) (h ∷ hs) e = (record { more = lacking n g.banks; is = e.0.is }, each_padded ns gs hs e.1)

at_size : (sizes : List ℕ) (gs hs : List Graph) (f : ℕ) (n : ℕ) (h : Graph) → EachPaddedTo sizes gs hs → slice_get sizes f ≡ Some n → slice_get hs f ≡ Some h → (count_by is_general h.banks ≡ 3 * n) × (count_by is_branch h.banks ≡ 2 * n)
at_size [] [] [] f n h e p q = absurd (cc)
at_size [] [] (x ∷ hs) f n h e p q = absurd e
at_size [] (g ∷ gs) hs f n h e p q = absurd e
at_size (m ∷ ns) [] hs f n h e p q = absurd e
at_size (m ∷ ns) (g ∷ gs) [] f n h e p q = absurd e
at_size (m ∷ ns) (g ∷ gs) (x ∷ hs) zero n h e p q =
    let a : m ≡ n = cc in
    let b : x ≡ h = cc in
    (ap (λ (z : Graph). count_by is_general z.banks) (sym b) ∙ e.0.generals ∙ ap (λ k. 3 * k) a, ap (λ (z : Graph). count_by is_branch z.banks) (sym b) ∙ e.0.branches ∙ ap (λ k. 2 * k) a)
at_size (m ∷ ns) (g ∷ gs) (x ∷ hs) (suc f) n h e p q = at_size ns gs hs f n h e.1 p q

bounded : (p : Program) (sizes : List ℕ) (gs hs : List Graph) → AreSizes p sizes → EachPaddedTo sizes gs hs → AreBounded p hs
bounded p sizes gs hs s e f function h a b =
    let n : slice_get sizes f ≡ Some (function_nodes function) = ap (λ l. slice_get l f) s ∙ slice_get-map function_nodes p.functions f ∙ ap (option_map function_nodes) a in
    let c = at_size sizes gs hs f (function_nodes function) h e n b in
    let c0 = c.0 in
    let c1 = c.1 in
    (omega arith, omega arith)

-- ---- the flow

module _ (flow new : Flow) (sizes : List ℕ) (within : AreWithin sizes flow.functions) (made : new ≡ with_graphs flow (all_padded_to sizes flow.functions)) where
  abbrev hs : List Graph
  hs = all_padded_to sizes flow.functions

  functions_are : new.functions ≡ hs
  functions_are = ap (λ (f : Flow). f.functions) made

  pub flow_padded : FlowPadded sizes flow new
  flow_padded = record { each = subst (EachPaddedTo sizes flow.functions) (sym functions_are) (each_exactly sizes flow.functions within); is = made ∙ ap (with_graphs flow) (sym functions_are) }

  pub flow_stays : (p : Program) → AreSizes p sizes → FlowOf p flow → FlowOf p new
  flow_stays p s o =
      let e = each_exactly sizes flow.functions within in
      subst (FlowOf p) (sym made) (padded_stays p flow hs (each_padded sizes flow.functions hs e) (bounded p sizes flow.functions hs s e) o)

  pub flow_sound : is_sound_flow flow ≡ true → is_sound_flow new ≡ true
  flow_sound h = subst (λ (f : Flow). is_sound_flow f ≡ true) (sym made) (flow_of (with_graphs flow hs) (new_sound Padded kept flow hs (each_padded sizes flow.functions hs (each_exactly sizes flow.functions within)) (flow_is flow h)))
