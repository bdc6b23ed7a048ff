-- A flow of a program stays one where each of its graphs is narrowed by claims of its own.
use Rattle.std.proofs.Common.{◌≡◌, ℕ, zero, suc, ◌+◌, ◌<◌, ◌≤◌, true, List, [], ◌∷◌, ◌++◌, length, take, get_or, slice_get, Option, Some, None, IfSome, refl, sym, ap, ◌∙◌, subst, arith}
use Rattle.vx_flow.specs.declared.graph.Array.{Array}
use Rattle.vx_flow.specs.declared.graph.Block.{Block}
use Rattle.vx_flow.specs.declared.graph.Graph.{Graph}
use Rattle.vx_flow.specs.declared.graph.Flow.{Flow}
use Rattle.vx_flow.specs.Sound.{is_sound_flow}
use Rattle.vx_lower.specs.FlowOf.{FlowOf}
use Rattle.vx_claims.specs.declared.claim.Claim.{Claim}
use Rattle.vx_claims.specs.declared.intervals.Interval.{Interval}
use Rattle.vx_narrow.specs.Checking.{Checked, most_arrays, parameters_of, is_entry_checked, is_block_checked}
use Rattle.vx_claims.specs.Claims.{nothing}
use Rattle.vx_narrow.specs.Rewriting.{narrowed_graph, narrowed_functions, narrowed_from, narrowed}
use Rattle.vx_claims.specs.Claims.{listed_claims}
use Rattle.vx_flow.specs.Apart.{HasGlobalsFirst}
use Rattle.vx_flow.proofs.Entering.{globals_first}
use Rattle.vx_flow.proofs.SoundFlowLaw.{flow_is}
use Rattle.vx_narrow.specs.Narrowing.{are_blocks_checked, are_numbers, GraphNarrowed, GraphsNarrowed, NarrowedGraphsRun, NarrowedWith, NarrowedStays}
use Rattle.vx_shape.specs.Flows.{with_graphs, FlowStays}
use Rattle.vx_narrow.proofs.Ranges.{and_one, and_two}
use Rattle.vx_narrow.proofs.NarrowRuns.{narrowed_runs}
use Rattle.vx_narrow.proofs.Stays.{stays_flow}
use Rattle.vx_flow.specs.Meaning.{graph_run}

-- ---- blocks

checked_from : (arrays : List Array) (given : ℕ → List Interval) (claims : ℕ → Claim) (n : ℕ) (blocks : List Block) → are_blocks_checked arrays given claims n blocks ≡ true → (i : ℕ) (block : Block) → slice_get blocks i ≡ Some block → is_block_checked arrays given claims (n + i) block ≡ true
checked_from arrays given claims n [] h i block e = absurd (cc)
checked_from arrays given claims n (k ∷ ks) h zero block e =
    let q : k ≡ block = cc in
    let z : n ≡ n + 0 = omega arith in
    subst (λ m. is_block_checked arrays given claims m block ≡ true) z (subst (λ (x : Block). is_block_checked arrays given claims n x ≡ true) q (and_one (is_block_checked arrays given claims n k) (are_blocks_checked arrays given claims (n + 1) ks) h))
checked_from arrays given claims n (k ∷ ks) h (suc i) block e =
    let z : (n + 1) + i ≡ n + suc i = omega arith in
    subst (λ m. is_block_checked arrays given claims m block ≡ true) z (checked_from arrays given claims (n + 1) ks (and_two (is_block_checked arrays given claims n k) (are_blocks_checked arrays given claims (n + 1) ks) h) i block e)

pub checked_at : (arrays : List Array) (given : ℕ → List Interval) (claims : ℕ → Claim) (blocks : List Block) → are_blocks_checked arrays given claims 0 blocks ≡ true → (i : ℕ) (block : Block) → slice_get blocks i ≡ Some block → is_block_checked arrays given claims i block ≡ true
checked_at arrays given claims blocks h i block e =
    let z : 0 + i ≡ i = omega arith in
    subst (λ m. is_block_checked arrays given claims m block ≡ true) z (checked_from arrays given claims 0 blocks h i block e)

pub graph_by_table : (given : ℕ → List Interval) (f : ℕ) (table : List Claim) (g h : Graph) → length g.arrays ≤ most_arrays → is_entry_checked (given f) g.parameters (listed_claims table 0) ≡ true → are_blocks_checked g.arrays given (listed_claims table) 0 g.blocks ≡ true → h ≡ narrowed_graph (listed_claims table) g → GraphNarrowed given f g h
graph_by_table given f table g h few e c n = record { claims = listed_claims table; few = few; entry = e; blocks = checked_at g.arrays given (listed_claims table) g.blocks c; narrowed = n }

pub with_blocks_is : (claims : ℕ → Claim) (g h : Graph) (blocks : List Block) → blocks ≡ narrowed_from g.arrays claims 0 g.blocks → h ≡ record g { blocks = blocks } → h ≡ narrowed_graph claims g
with_blocks_is claims g h blocks e q = q ∙ ap (λ bs. record g { blocks = bs }) e

-- ---- graphs

pub graphs_more : (given : ℕ → List Interval) (f : ℕ) (gs hs : List Graph) (g h : Graph) → NarrowedWith given f gs hs → GraphNarrowed given (f + length gs) g h → NarrowedWith given f (gs ++ g ∷ []) (hs ++ h ∷ [])
graphs_more given f [] [] g h s t = let e : f + 0 ≡ f = omega arith in (subst (λ n. GraphNarrowed given n g h) e t, tt)
graphs_more given f [] (y ∷ ys) g h s t = absurd s
graphs_more given f (x ∷ xs) [] g h s t = absurd s
graphs_more given f (x ∷ xs) (y ∷ ys) g h s t = let e : f + suc (length xs) ≡ f + 1 + length xs = omega arith in (s.0, graphs_more given (f + 1) xs ys g h s.1 (subst (λ n. GraphNarrowed given n g h) e t))

take_more : {A : Type 0} (xs : List A) (i : ℕ) (x : A) → i < length xs → x ≡ get_or xs i x → take (suc i) xs ≡ take i xs ++ x ∷ []
take_more [] i x h e = absurd (omega arith)
take_more (y ∷ ys) zero x h e = ap (λ z. z ∷ []) (sym e)
take_more (y ∷ ys) (suc i) x h e = ap (λ l. y ∷ l) (take_more ys i x (omega arith) e)

taken : {A : Type 0} (xs : List A) (i : ℕ) → i < length xs → i ≡ 0 + length (take i xs)
taken [] i h = absurd (omega arith)
taken (y ∷ ys) zero h = refl
taken (y ∷ ys) (suc i) h = let e = taken ys i (omega arith) in omega arith

pub graphs_next : (given : ℕ → List Interval) (gs hs : List Graph) (i : ℕ) (g h : Graph) → i < length gs → g ≡ get_or gs i g → NarrowedWith given 0 (take i gs) hs → GraphNarrowed given i g h → NarrowedWith given 0 (take (i + 1) gs) (hs ++ h ∷ [])
graphs_next given gs hs i g h l e s t =
    let a : suc i ≡ i + 1 = omega arith in
    let q : take i gs ++ g ∷ [] ≡ take (i + 1) gs = sym (take_more gs i g l e) ∙ ap (λ j. take j gs) a in
    subst (λ k. NarrowedWith given 0 k (hs ++ h ∷ [])) q (graphs_more given 0 (take i gs) hs g h s (subst (λ n. GraphNarrowed given n g h) (taken gs i l) t))

-- ---- the claims of all graphs

abbrev first_then : (ℕ → Claim) → (ℕ → ℕ → Claim) → ℕ → ℕ → Claim
first_then one others zero = one
first_then one others (suc f) = others f

abbrev claims_by : (given : ℕ → List Interval) (f : ℕ) (gs hs : List Graph) → NarrowedWith given f gs hs → ℕ → ℕ → Claim
claims_by given f [] [] s = λ n b. nothing
claims_by given f [] (h ∷ hs) s = λ n b. nothing
claims_by given f (g ∷ gs) [] s = λ n b. nothing
claims_by given f (g ∷ gs) (h ∷ hs) s = first_then s.0.claims (claims_by given (f + 1) gs hs s.1)

entries_by : (given : ℕ → List Interval) (f : ℕ) (gs hs : List Graph) (s : NarrowedWith given f gs hs) (n : ℕ) → is_entry_checked (given (f + n)) (parameters_of (slice_get gs n)) (claims_by given f gs hs s n 0) ≡ true
entries_by given f [] [] s n = refl
entries_by given f [] (h ∷ hs) s n = absurd s
entries_by given f (g ∷ gs) [] s n = absurd s
entries_by given f (g ∷ gs) (h ∷ hs) s zero = let e : f ≡ f + 0 = omega arith in subst (λ k. is_entry_checked (given k) g.parameters (s.0.claims 0) ≡ true) e s.0.entry
entries_by given f (g ∷ gs) (h ∷ hs) s (suc n) =
    let e : f + 1 + n ≡ f + suc n = omega arith in
    subst (λ k. is_entry_checked (given k) (parameters_of (slice_get gs n)) (claims_by given (f + 1) gs hs s.1 n 0) ≡ true) e (entries_by given (f + 1) gs hs s.1 n)

blocks_by : (given : ℕ → List Interval) (f : ℕ) (gs hs : List Graph) (s : NarrowedWith given f gs hs) (n b : ℕ) (g : Graph) (block : Block) → slice_get gs n ≡ Some g → slice_get g.blocks b ≡ Some block → is_block_checked g.arrays given (claims_by given f gs hs s n) b block ≡ true
blocks_by given f [] [] s n b g block e q = absurd (cc)
blocks_by given f [] (h ∷ hs) s n b g block e q = absurd s
blocks_by given f (x ∷ gs) [] s n b g block e q = absurd s
blocks_by given f (x ∷ gs) (h ∷ hs) s zero b g block e q =
    let i : g ≡ x = cc in
    subst (λ (y : Graph). is_block_checked y.arrays given s.0.claims b block ≡ true) (sym i) (s.0.blocks b block (subst (λ (y : Graph). slice_get y.blocks b ≡ Some block) i q))
blocks_by given f (x ∷ gs) (h ∷ hs) s (suc n) b g block e q = blocks_by given (f + 1) gs hs s.1 n b g block e q

few_by : (given : ℕ → List Interval) (f : ℕ) (gs hs : List Graph) (s : NarrowedWith given f gs hs) (n : ℕ) (g : Graph) → slice_get gs n ≡ Some g → length g.arrays ≤ most_arrays
few_by given f [] [] s n g e = absurd (cc)
few_by given f [] (h ∷ hs) s n g e = absurd s
few_by given f (x ∷ gs) [] s n g e = absurd s
few_by given f (x ∷ gs) (h ∷ hs) s zero g e = let i : x ≡ g = cc in subst (λ (y : Graph). length y.arrays ≤ most_arrays) i s.0.few
few_by given f (x ∷ gs) (h ∷ hs) s (suc n) g e = few_by given (f + 1) gs hs s.1 n g e

shifted : (claims : ℕ → ℕ → Claim) (f : ℕ) (gs : List Graph) → narrowed_functions claims (f + 1) gs ≡ narrowed_functions (λ n. claims (suc n)) f gs
shifted claims f [] = refl
shifted claims f (g ∷ gs) =
    let a : f + 1 ≡ suc f = omega arith in
    ap (λ n. narrowed_graph (claims n) g ∷ narrowed_functions claims (f + 1 + 1) gs) a ∙ ap (λ l. narrowed_graph (claims (suc f)) g ∷ l) (shifted claims (f + 1) gs)

functions_by : (given : ℕ → List Interval) (f : ℕ) (gs hs : List Graph) (s : NarrowedWith given f gs hs) → narrowed_functions (claims_by given f gs hs s) 0 gs ≡ hs
functions_by given f [] [] s = refl
functions_by given f [] (h ∷ hs) s = absurd s
functions_by given f (g ∷ gs) [] s = absurd s
functions_by given f (g ∷ gs) (h ∷ hs) s =
    ap (λ x. x ∷ narrowed_functions (claims_by given f (g ∷ gs) (h ∷ hs) s) 1 gs) (sym s.0.narrowed) ∙ ap (λ l. h ∷ l) (shifted (claims_by given f (g ∷ gs) (h ∷ hs) s) 0 gs ∙ functions_by given (f + 1) gs hs s.1)

-- claims with which all graphs pass, and by which they are narrowed
record Passes (flow : Flow) (graphs : List Graph) : Type 0 where
  pub given : ℕ → List Interval
  pub claims : ℕ → ℕ → Claim
  pub checked : Checked flow given claims
  pub is : narrowed claims flow ≡ with_graphs flow graphs

passes : (flow : Flow) (graphs : List Graph) → GraphsNarrowed flow.functions graphs → are_numbers flow.globals ≡ true → HasGlobalsFirst flow → Passes flow graphs
passes flow graphs by numbers first =
    let given = by.0 in
    let s : NarrowedWith given 0 flow.functions graphs = by.1 in
    let claims : ℕ → ℕ → Claim = claims_by given 0 flow.functions graphs s in
    let entries : (f : ℕ) → is_entry_checked (given f) (parameters_of (slice_get flow.functions f)) (claims f 0) ≡ true =
    λ f. (let e : 0 + f ≡ f = omega arith in subst (λ n. is_entry_checked (given n) (parameters_of (slice_get flow.functions f)) (claims f 0) ≡ true) e (entries_by given 0 flow.functions graphs s f)) in
    record {
      given = given;
      claims = claims;
      checked = record { entries = entries; blocks = blocks_by given 0 flow.functions graphs s; globals = numbers; first = first; few = few_by given 0 flow.functions graphs s };
      is = ap (with_graphs flow) (functions_by given 0 flow.functions graphs s);
    }

pub narrowed_stays : NarrowedStays
narrowed_stays flow graphs by numbers sound p o =
    let k = passes flow graphs by numbers (globals_first flow (flow_is flow o.sound)) in
    subst (FlowOf p) k.is (stays_flow p flow k.given k.claims k.checked o (subst (λ f. is_sound_flow f ≡ true) (sym k.is) sound))

pub narrowed_graphs_run : NarrowedGraphsRun
narrowed_graphs_run flow graphs by numbers first input ns never n =
    let k = passes flow graphs by numbers first in
    ap (λ f. graph_run f input n) (sym k.is) ∙ narrowed_runs flow k.given k.claims k.checked input ns never n

pub once_stays : (flow new : Flow) (graphs : List Graph) → GraphsNarrowed flow.functions graphs → are_numbers flow.globals ≡ true → new ≡ with_graphs flow graphs → is_sound_flow new ≡ true → FlowStays flow new
once_stays flow new graphs s numbers e sound p o =
    let t : is_sound_flow (with_graphs flow graphs) ≡ true = subst (λ f. is_sound_flow f ≡ true) e sound in
    subst (FlowOf p) (sym e) (narrowed_stays flow graphs s numbers t p o)

pub some_given : (given : ℕ → List Interval) (gs : List Graph) (found : Option (List Graph)) → IfSome found (λ made. NarrowedWith given 0 gs made) → IfSome found (λ made. GraphsNarrowed gs made)
some_given given gs None h = h
some_given given gs (Some made) h = (given, h)
