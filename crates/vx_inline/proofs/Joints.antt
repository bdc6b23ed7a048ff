-- What comes into a caller, as it is made; and that the flow with it is the one with the call inlined.
use Rattle.std.proofs.Common.{◌≡◌, ◌↔◌, ◌<◌, ◌≤◌, ℕ, zero, suc, ◌+◌, Bool, true, false, cond, ◌==◌, List, [], ◌∷◌, ◌++◌, length, map, take, drop, get_or, set, slice_get, slice_set, Option, Some, refl, sym, ap, ◌∙◌, subst, arith, eqb-true, IsTrue}
use Rattle.std.specs.List.{filter}
use Rattle.vx_base.specs.declared.outcome.Trap.{Trap}
use Rattle.vx_flow.specs.declared.graph.Bank.{Bank}
use Rattle.vx_flow.specs.declared.graph.Block.{Block}
use Rattle.vx_flow.specs.declared.graph.Exit.TheVariants.{Goto}
use Rattle.vx_flow.specs.declared.graph.Flow.{Flow}
use Rattle.vx_flow.specs.declared.graph.Graph.{Graph}
use Rattle.vx_flow.specs.declared.graph.Op.{Op}
use Rattle.vx_flow.specs.Live.{IsLive}
use Rattle.vx_flow.specs.Rows.{lives}
use Rattle.vx_inline.specs.declared.by_bank.ByBank.{ByBank}
use Rattle.vx_inline.specs.declared.joint.Joint.{Joint}
use Rattle.vx_inline.specs.declared.places.Places.{Places}
use Rattle.vx_inline.specs.declared.site.Site.{Site}
use Rattle.vx_inline.specs.Finding.{call_in}
use Rattle.vx_inline.specs.Inlined.{TheCall, Inlined, AreFree, Permitted, bank_of, beside, named, taken, placed, copied, moves_in, entering, stayed, stayed_all, is_plain, callers_plain, all_plain, all_kinds, caller_at, callee_at, inlined_blocks}
use Rattle.vx_inline.specs.Inlining.{linked_by, with_graph}
use Rattle.vx_inline.specs.Keeping.{KnowsSite}
use Rattle.vx_inline.specs.Placing.{place_in}
use Rattle.vx_inline.specs.Splicing.{AreWithJoint, IsJoint, IsJointAt, IsWithJoint, added, joined_graph, placed_block, placed_from, trap_block, with_joint}
use Rattle.vx_inline.specs.Values.{of_bank, first_free, free_of}
use Rattle.vx_inline.proofs.Finds.{call_there, call_found, CallFound}
use Rattle.vx_inline.proofs.Frees.{free_exact}
use Rattle.vx_inline.proofs.One.{frees_same}

-- ---- as it is made

copies_same : (c : TheCall) (to : ℕ → ℕ) (at copy : ℕ → ℕ) (kinds : List Trap) → ((b : ℕ) → at b ≡ caller_at c b) → ((b : ℕ) → copy b ≡ callee_at c b) → kinds ≡ all_kinds c →
    filter is_plain (map (copied copy to c.result (at c.next)) c.callee.blocks) ++ map trap_block kinds ≡ added c to
copies_same c to at copy kinds a p k =
    (λ i. filter is_plain (map (copied (λ b. p b i) to c.result (a c.next i)) c.callee.blocks) ++ map trap_block kinds) ∙ ap (λ ks. filter is_plain (map (copied (callee_at c) to c.result (caller_at c c.next)) c.callee.blocks) ++ map trap_block ks) k

pub is_joint : (c : TheCall) (to : ℕ → ℕ) (at copy : Places) (kinds : List Trap) (moves : List Op) (more : List Block) (first all callers : ℕ) → callers ≡ callers_plain c → all ≡ all_plain c → kinds ≡ all_kinds c →
    ((b : ℕ) → place_in at b ≡ placed 0 all kinds c.caller.blocks b) → ((b : ℕ) → place_in copy b ≡ placed callers all kinds c.callee.blocks b) → moves ≡ moves_in to c.callee.parameters c.arguments → first ≡ place_in copy 0 →
    more ≡ filter is_plain (map (copied (place_in copy) to c.result (place_in at c.next)) c.callee.blocks) ++ map trap_block kinds → IsJoint c to (record { at = at; moves = moves; first = first; more = more; all = all })
is_joint c to at copy kinds moves more first all callers n m k p q r f e =
    let a : (b : ℕ) → place_in at b ≡ caller_at c b = λ b. p b ∙ ap (λ x. placed 0 x kinds c.caller.blocks b) m ∙ ap (λ ks. placed 0 (all_plain c) ks c.caller.blocks b) k in
    let d : (b : ℕ) → place_in copy b ≡ callee_at c b = λ b. q b ∙ ap (λ x. placed x all kinds c.callee.blocks b) n ∙ ap (λ x. placed (callers_plain c) x kinds c.callee.blocks b) m ∙ ap (λ ks. placed (callers_plain c) (all_plain c) ks c.callee.blocks b) k in
    record { at = a; moves = r; first = f ∙ d 0; more = e ∙ copies_same c to (place_in at) (place_in copy) kinds a d k; all = m }

-- whichever way the taken values are told
pub joint_same : (c : TheCall) (to other : ℕ → ℕ) (joint : Joint) → ((v : ℕ) → to v ≡ other v) → IsJoint c to joint → IsJoint c other joint
joint_same c to other joint h j = subst (λ f. IsJoint c f joint) (λ i. λ v. h v i) j

-- of the free values as many matter as the callee names
beside_first : (xs ys : List ℕ) (v : ℕ) → beside xs (take (length xs) ys) v ≡ beside xs ys v
beside_first [] ys v = refl
beside_first (x ∷ xs) [] v = refl
beside_first (x ∷ xs) (y ∷ ys) v = ap (λ z. cond (v == x) y z) (beside_first xs ys v)

pub any_free : (rows : List (List ℕ)) (c : TheCall) (names_by values : ByBank) (joint : Joint) → ((v : ℕ) → IsTrue (lives rows c.next v) ↔ IsLive c.caller c.next v) → ((bank : Bank) → of_bank names_by bank ≡ named c.callee bank) → ((bank : Bank) → of_bank values bank ≡ first_free rows c names_by bank) →
    IsJoint c (taken c.callee (of_bank values)) joint → (free : Bank → List ℕ) → ((bank : Bank) → AreFree c bank (free bank)) → IsJoint c (taken c.callee free) joint
any_free rows c names_by values joint exact n h j free are =
    let each : (bank : Bank) → free_of rows c bank ≡ free bank = λ bank. frees_same c bank (free_of rows c bank) (free bank) (free_exact rows c exact bank) (are bank) in
    let first : (bank : Bank) → of_bank values bank ≡ take (length (named c.callee bank)) (free bank) = λ bank. h bank ∙ ap (λ l. take (length l) (free_of rows c bank)) (n bank) ∙ ap (take (length (named c.callee bank))) (each bank) in
    let at : (bank : Bank) (v : ℕ) → beside (named c.callee bank) (of_bank values bank) v ≡ beside (named c.callee bank) (free bank) v = λ bank v. ap (λ l. beside (named c.callee bank) l v) (first bank) ∙ beside_first (named c.callee bank) (free bank) v in
    joint_same c (taken c.callee (of_bank values)) (taken c.callee free) joint (λ v. at (bank_of (slice_get c.callee.banks v)) v) j

pub joint_found : (flow : Flow) (site : Site) (c : TheCall) (joint : Joint) → call_in flow site ≡ Some c → ((free : Bank → List ℕ) → ((bank : Bank) → AreFree c bank (free bank)) → IsJoint c (taken c.callee free) joint) → IsJointAt flow site joint
joint_found flow site c joint e j d free p =
    let q : Option.Some d.parts ≡ Some c = sym (call_there flow site d) ∙ e in
    let is : d.parts ≡ c = cc in
    subst (λ (x : TheCall). IsJoint x (taken x.callee free) joint) (sym is) (j free (subst (λ (x : TheCall). (bank : Bank) → AreFree x bank (free bank)) is p.are_free))

-- ---- the blocks of the caller

-- those up to block i are placed, the others are as they were
placed_set : (joint : Joint) (site b : ℕ) (blocks : List Block) (i : ℕ) (z new : Block) → i < length blocks → new ≡ placed_block joint site (b + i) (get_or (placed_from joint site b (take i blocks) ++ drop i blocks) i z) →
    set (placed_from joint site b (take i blocks) ++ drop i blocks) i new ≡ placed_from joint site b (take (suc i) blocks) ++ drop (suc i) blocks
placed_set joint site b [] i z new l e = absurd (omega (arith, l))
placed_set joint site b (x ∷ xs) zero z new l e = let q : b + 0 ≡ b = omega arith in ap (λ y. y ∷ xs) (e ∙ ap (λ k. placed_block joint site k x) q)
placed_set joint site b (x ∷ xs) (suc i) z new l e =
    let q : b + suc i ≡ suc b + i = omega arith in
    let low : i < length xs = omega (arith, l) in
    ap (λ ys. placed_block joint site b x ∷ ys) (placed_set joint site (suc b) xs i z new low (e ∙ ap (λ k. placed_block joint site k (get_or (placed_from joint site (suc b) (take i xs) ++ drop i xs) i z)) q))

pub placed_next : (joint : Joint) (site place : ℕ) (blocks now : List Block) (i : ℕ) (z new : Block) → place ≡ i → length now ≡ length blocks → i < length now → now ≡ placed_from joint site 0 (take i blocks) ++ drop i blocks → new ≡ placed_block joint site place (get_or now i z) →
    set now i new ≡ placed_from joint site 0 (take (i + 1) blocks) ++ drop (i + 1) blocks
placed_next joint site place blocks now i z new p n l h e =
    let q : suc i ≡ i + 1 = omega arith in
    let low : i < length blocks = omega (arith, l, n) in
    let at : place ≡ 0 + i = omega (arith, p) in
    ap (λ ys. set ys i new) h ∙ placed_set joint site 0 blocks i z new low (e ∙ ap (λ k. placed_block joint site k (get_or now i z)) at ∙ ap (λ ys. placed_block joint site (0 + i) (get_or ys i z)) h) ∙ ap (λ k. placed_from joint site 0 (take k blocks) ++ drop k blocks) q

placed_done : (joint : Joint) (site b : ℕ) (blocks : List Block) (i : ℕ) → length blocks ≤ i → placed_from joint site b (take i blocks) ++ drop i blocks ≡ placed_from joint site b blocks
placed_done joint site b [] zero l = refl
placed_done joint site b [] (suc i) l = refl
placed_done joint site b (x ∷ xs) zero l = absurd (omega (arith, l))
placed_done joint site b (x ∷ xs) (suc i) l = let m : length xs ≤ i = omega (arith, l) in ap (λ ys. placed_block joint site b x ∷ ys) (placed_done joint site (suc b) xs i m)

pub placed_last : (joint : Joint) (site : ℕ) (blocks now : List Block) (i : ℕ) → length blocks ≤ i → now ≡ placed_from joint site 0 (take i blocks) ++ drop i blocks → now ≡ placed_from joint site 0 blocks
placed_last joint site blocks now i l h = h ∙ placed_done joint site 0 blocks i l

-- ---- the flow with the call inlined

module _ (c : TheCall) (site : ℕ) (to : ℕ → ℕ) (joint : Joint) (j : IsJoint c to joint) where
  abbrev enter : Block
  enter = entering to c.callee.parameters c.arguments (callee_at c 0) c.block.ops

  places : place_in joint.at ≡ caller_at c
  places = λ i. λ b. j.at b i

  -- a block of the caller, where the one that calls is known
  one_placed : (b : ℕ) (block : Block) → ((b ≡ site) → block ≡ c.block) → placed_block joint site b block ≡ cond (b == site) enter (stayed (caller_at c) block)
  one_placed b block here = by (b == site) refl
    where
      by : (t : Bool) → (b == site) ≡ t → cond t (record { ops = block.ops ++ joint.moves; exit = Goto joint.first }) (stayed (place_in joint.at) block) ≡ cond t enter (stayed (caller_at c) block)
      by true q =
          let is : block ≡ c.block = here (eqb-true b site q) in
          ap (λ (z : Block). record { ops = z.ops ++ joint.moves; exit = Goto joint.first }) is ∙ ap (λ m. record { ops = c.block.ops ++ m; exit = Goto joint.first }) j.moves ∙
          ap (λ f. record { ops = c.block.ops ++ moves_in to c.callee.parameters c.arguments; exit = Goto f }) j.first
      by false q = ap (λ f. stayed f block) places

  all_placed : (b : ℕ) (blocks : List Block) → ((k : ℕ) (block : Block) → slice_get blocks k ≡ Some block → b + k ≡ site → block ≡ c.block) → placed_from joint site b blocks ≡ stayed_all (caller_at c) enter site b blocks
  all_placed b [] here = refl
  all_placed b (block ∷ blocks) here =
      let first : placed_block joint site b block ≡ cond (b == site) enter (stayed (caller_at c) block) = one_placed b block (λ e. here 0 block refl (omega (arith, e))) in
      let rest : placed_from joint site (suc b) blocks ≡ stayed_all (caller_at c) enter site (suc b) blocks = all_placed (suc b) blocks (λ k x h e. here (suc k) x h (omega (arith, e))) in
      ap (λ x. x ∷ placed_from joint site (suc b) blocks) first ∙ ap (λ l. cond (b == site) enter (stayed (caller_at c) block) ∷ l) rest

  pub blocks_joined : slice_get c.caller.blocks site ≡ Some c.block → (free : Bank → List ℕ) → to ≡ taken c.callee free → with_joint joint site c.caller.blocks ≡ inlined_blocks c site free
  blocks_joined e free t =
      let row : placed_from joint site 0 c.caller.blocks ≡ stayed_all (caller_at c) enter site 0 c.caller.blocks =
      all_placed 0 c.caller.blocks (λ k block h q. (let z : k ≡ site = omega (arith, q) in let both : Option.Some block ≡ Some c.block = sym h ∙ ap (slice_get c.caller.blocks) z ∙ e in cc)) in
      ap (λ n. linked_by n (filter is_plain (placed_from joint site 0 c.caller.blocks) ++ joint.more)) j.all ∙
      ap (λ r. linked_by (all_plain c) (filter is_plain r ++ joint.more)) row ∙ ap (λ m. linked_by (all_plain c) (filter is_plain (stayed_all (caller_at c) enter site 0 c.caller.blocks) ++ m)) j.more ∙
      ap (λ f. linked_by (all_plain c) (filter is_plain (stayed_all (caller_at c) (entering f c.callee.parameters c.arguments (callee_at c 0) c.block.ops) site 0 c.caller.blocks) ++ added c f)) t

pub is_inlined : (flow new : Flow) (site : Site) (joint : Joint) → Permitted flow site → IsJointAt flow site joint → IsWithJoint flow site joint new → Inlined flow site new
is_inlined flow new site joint p j w =
    let c = p.call in
    record {
      call = c;
      free = p.free;
      permitted = p.permitted;
      is = w c.parts.caller c.is_caller ∙ ap (λ bs. with_graph flow site.function (record c.parts.caller { blocks = bs })) (blocks_joined c.parts site.block (taken c.parts.callee p.free) joint (j c p.free p.permitted) c.is_block p.free refl);
    }

pub with_joint_there : (graphs new : List Graph) (site : Site) (joint : Joint) (graph : Graph) → slice_get graphs site.function ≡ Some graph → new ≡ slice_set graphs site.function (joined_graph joint site graph) → AreWithJoint graphs site joint new
with_joint_there graphs new site joint graph e h other k =
    let both : Option.Some graph ≡ Some other = sym e ∙ k in
    let is : graph ≡ other = cc in
    h ∙ ap (λ g. slice_set graphs site.function (joined_graph joint site g)) is

-- what is live behind the call that is found

pub behind_found : (flow : Flow) (site : Site) (c : TheCall) (rows : List (List ℕ)) → KnowsSite flow site rows → call_in flow site ≡ Some c → (v : ℕ) → IsTrue (lives rows c.next v) ↔ IsLive c.caller c.next v
behind_found flow site c rows k e =
    let w : CallFound flow site c = call_found flow site c e in
    subst (λ (x : TheCall). (v : ℕ) → IsTrue (lives rows x.next v) ↔ IsLive x.caller x.next v) w.is (k w.call)

pub found_behind : (flow : Flow) (site : Site) (c : TheCall) (rows : List (List ℕ)) → call_in flow site ≡ Some c → ((b v : ℕ) → IsTrue (lives rows b v) ↔ IsLive c.caller b v) → KnowsSite flow site rows
found_behind flow site c rows e exact d v =
    let q : Option.Some d.parts ≡ Some c = sym (call_there flow site d) ∙ e in
    let is : c ≡ d.parts = cc in
    subst (λ (x : TheCall). IsTrue (lives rows x.next v) ↔ IsLive x.caller x.next v) is (exact c.next v)
