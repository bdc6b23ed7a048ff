-- A sound graph without regions is tidy and settled.
use Rattle.std.proofs.Common.{◌≡◌, ℕ, zero, suc, ◌<◌, Bool, true, false, ◌&&◌, Option, Some, None, List, [], ◌∷◌, ◌++◌, length, map, flat_map, slice_get, sym, ap, ◌∙◌, subst, ⊎_elim, inl, inr, arith}
use Rattle.std.specs.Prelude.{nat_lt, if◌then◌else◌}
use Rattle.std.specs.List.{list_all}
use Rattle.std.specs.Option.{option_map}
use Rattle.std.proofs.lemmas.Option.{slice_get-map}
use Rattle.std.proofs.lemmas.Bool.{and_parts, lt-ltb}
use Rattle.vx_base.specs.declared.arithmetic.Code.{Code}
use Rattle.vx_base.specs.declared.arithmetic.Code.TheVariants.{Mov}
use Rattle.vx_flow.specs.declared.graph.Bank.{Bank}
use Rattle.vx_flow.specs.declared.graph.Bank.TheVariants.{General, Branch}
use Rattle.vx_flow.specs.declared.graph.Block.{Block}
use Rattle.vx_flow.specs.declared.graph.Exit.{Exit}
use Rattle.vx_flow.specs.declared.graph.Exit.TheVariants.{Goto, Split as Branches, Call, Return, Ends}
use Rattle.vx_flow.specs.declared.graph.Graph.{Graph}
use Rattle.vx_flow.specs.declared.graph.Op.{Op}
use Rattle.vx_flow.specs.declared.graph.Op.TheVariants.{Compute, Select, Place, Load, Store, Decimal, Across, PlaceIn}
use Rattle.vx_flow.specs.declared.graph.Operand.{Operand}
use Rattle.vx_flow.specs.declared.graph.Operand.TheVariants.{Held, Number, Stack}
use Rattle.vx_flow.specs.Effects.{IsIn, is_unary, value_in, reads}
use Rattle.vx_flow.specs.Live.{reads_of_exit}
use Rattle.vx_flow.specs.Sound.{is_bank, is_general, is_branch, is_operand, is_right, is_written, is_sound_operation, is_sound_exit, is_sound_in, is_sound_block, is_sound, is_based, is_kept, is_access_placed, is_array_kept, is_general_or_none}
use Rattle.vx_flow.proofs.Members.{in_either}
use Rattle.vx_mixed.specs.declared.region.Node.TheVariants.{Unused, Enters}
use Rattle.vx_mixed.specs.declared.region.Region.{Region}
use Rattle.vx_mixed.specs.declared.mixed.MixedGraph.{MixedGraph}
use Rattle.vx_mixed.specs.Live.{single, Live, here, beyond, Passage, IsPassage, through_block, by_split, to_the_end, ReadsFirst}
use Rattle.vx_mixed.specs.Settled.{is_copy}
use Rattle.vx_mixed.specs.FromGraph.{OfGraph}
use Rattle.vx_mixed.specs.Begins.{BeginsTidy, BeginsSettled}
use Rattle.vx_mixed.proofs.Alive.{in_whole}

-- a value that has a bank is one of the graph's
pub bank_below : (banks : List Bank) (v : ℕ) (bank : Bank) → is_bank bank (slice_get banks v) ≡ true → v < length banks
bank_below [] v General h = absurd (cc)
bank_below [] v Branch h = absurd (cc)
bank_below (b ∷ banks) zero bank h = omega arith
bank_below (b ∷ banks) (suc v) bank h = let r = bank_below banks v bank h in omega arith

module _ (banks : List Bank) where
  abbrev pub Below : List ℕ → Type 0
  Below vs = (v : ℕ) → IsIn v vs → v < length banks

  operand_below : (x : Operand) → is_operand banks x ≡ true → Below (value_in x)
  operand_below (Held u) h v (inl e) = subst (λ z. z < length banks) (sym e) (bank_below banks u General h)
  operand_below (Held u) h v (inr q) = absurd q
  operand_below (Number n) h v q = absurd q
  operand_below Stack h v q = absurd q

  pub both_below : (xs ys : List ℕ) → Below xs → Below ys → Below (xs ++ ys)
  both_below xs ys f g v h = ⊎_elim (λ a. f v a) (λ a. g v a) (in_either v xs ys h)

  right_below : (code : Code) (a b : Operand) → Below (value_in a) → is_right banks code b ≡ true → Below (if is_unary code then value_in a else value_in a ++ value_in b)
  right_below Mov a b f h = f
  right_below code a b f h = both_below (value_in a) (value_in b) f (operand_below b h)

  branch_below : (p : ℕ) → is_branch banks p ≡ true → Below (p ∷ [])
  branch_below p h v (inl e) = subst (λ z. z < length banks) (sym e) (bank_below banks p Branch h)
  branch_below p h v (inr q) = absurd q

  general_below : (u : ℕ) → is_general banks u ≡ true → Below (u ∷ [])
  general_below u h v (inl e) = subst (λ z. z < length banks) (sym e) (bank_below banks u General h)
  general_below u h v (inr q) = absurd q

  pub op_below : (arrays : ℕ) (op : Op) → is_sound_operation banks arrays op ≡ true → Below (reads op)
  op_below n (Compute code v a b) h =
      let x = and_parts (is_written banks code v && is_operand banks a) (is_right banks code b) h in
      let y = and_parts (is_written banks code v) (is_operand banks a) x.0 in
      right_below code a b (operand_below a y.1) x.1
  op_below n (Select v p a b) h =
      let x = and_parts (is_general banks v && is_branch banks p && is_operand banks a) (is_operand banks b) h in
      let y = and_parts (is_general banks v && is_branch banks p) (is_operand banks a) x.0 in
      let z = and_parts (is_general banks v) (is_branch banks p) y.0 in
      both_below (p ∷ []) (value_in a ++ value_in b) (branch_below p z.1) (both_below (value_in a) (value_in b) (operand_below a y.1) (operand_below b x.1))
  op_below n (Place v a i) h = operand_below i (and_parts (is_general banks v && nat_lt a n) (is_operand banks i) h).1
  op_below n (Load v a p d) h = operand_below p (and_parts (is_general banks v && nat_lt a n) (is_operand banks p) h).1
  op_below n (Store a p x) h =
      let y = and_parts (nat_lt a n && is_operand banks p) (is_operand banks x) h in
      let z = and_parts (nat_lt a n) (is_operand banks p) y.0 in
      both_below (value_in p) (value_in x) (operand_below p z.1) (operand_below x y.1)
  op_below n (Decimal x) h = operand_below x h
  op_below n (Across v u) h = absurd (cc)
  op_below n (PlaceIn v a u i) h =
      let x = and_parts (is_general banks v && nat_lt a n && is_general banks u) (is_operand banks i) h in
      let y = and_parts (is_general banks v && nat_lt a n) (is_general banks u) x.0 in
      both_below (value_in i) (u ∷ []) (operand_below i x.1) (general_below u y.1)
  op_below n op h = λ u q. absurd q

  operands_below : (xs : List Operand) → list_all (is_operand banks) xs ≡ true → Below (flat_map value_in xs)
  operands_below [] h = λ v q. absurd q
  operands_below (x ∷ xs) h = let y = and_parts (is_operand banks x) (list_all (is_operand banks) xs) h in both_below (value_in x) (flat_map value_in xs) (operand_below x y.0) (operands_below xs y.1)

  pub exit_below : (blocks : ℕ) (x : Exit) → is_sound_exit banks blocks x ≡ true → Below (reads_of_exit x)
  exit_below n (Goto c) h = λ v q. absurd q
  exit_below n (Branches p c d) h = branch_below p (and_parts (is_branch banks p) (nat_lt c n) (and_parts (is_branch banks p && nat_lt c n) (nat_lt d n) h).0).0
  exit_below n (Call g arguments result next) h =
      operands_below arguments (and_parts (list_all (is_operand banks) arguments) (is_general_or_none banks result) (and_parts (list_all (is_operand banks) arguments && is_general_or_none banks result) (nat_lt next n) h).0).0
  exit_below n (Return x) h = operand_below x h
  exit_below n (Ends k) h = λ v q. absurd q

pub all_in : {A : Type 0} (p : A → Bool) (xs : List A) (x : A) → list_all p xs ≡ true → IsIn x xs → p x ≡ true
all_in p [] x h q = absurd q
all_in p (y ∷ ys) x h (inl e) = ap p e ∙ (and_parts (p y) (list_all p ys) h).0
all_in p (y ∷ ys) x h (inr q) = all_in p ys x (and_parts (p y) (list_all p ys) h).1 q

-- of the tests of an operation the first one, and of those of a graph that of its blocks

pub sound_op : (graph : Graph) (op : Op) → is_sound_in graph op ≡ true → is_sound_operation graph.banks (length graph.arrays) op ≡ true
sound_op graph op h =
    let x = and_parts (is_sound_operation graph.banks (length graph.arrays) op && is_based graph.arrays op && is_kept graph op) (is_access_placed graph op) h in
    let y = and_parts (is_sound_operation graph.banks (length graph.arrays) op && is_based graph.arrays op) (is_kept graph op) x.0 in
    (and_parts (is_sound_operation graph.banks (length graph.arrays) op) (is_based graph.arrays op) y.0).0

pub sound_blocks : (graph : Graph) → is_sound graph ≡ true → list_all (is_sound_block graph) graph.blocks ≡ true
sound_blocks graph h =
    let x = and_parts (list_all (is_general graph.banks) graph.parameters && list_all (is_sound_block graph) graph.blocks) (list_all (is_array_kept graph) graph.arrays) h in
    (and_parts (list_all (is_general graph.banks) graph.parameters) (list_all (is_sound_block graph) graph.blocks) x.0).1

-- what a block of the graph reads first is a value of it
block_below : (graph : Graph) (ops : List Op) (x : Exit) → list_all (is_sound_in graph) ops ≡ true → is_sound_exit graph.banks (length graph.blocks) x ≡ true → (v : ℕ) → ReadsFirst (map single ops) x v → v < length graph.banks
block_below graph [] x all last v h = exit_below graph.banks (length graph.blocks) x last v h
block_below graph (op ∷ ops) x all last v h =
    let y = and_parts (is_sound_in graph op) (list_all (is_sound_in graph) ops) all in
    ⊎_elim (λ a. op_below graph.banks (length graph.arrays) op (sound_op graph op y.0) v (in_whole v (reads op) a)) (λ a. block_below graph ops x y.1 last v a.1) h

pub get_in : {A : Type 0} (p : A → Bool) (xs : List A) (i : ℕ) (x : A) → list_all p xs ≡ true → slice_get xs i ≡ Some x → p x ≡ true
get_in p [] i x h e = absurd (cc)
get_in p (y ∷ ys) zero x h e = let q : y ≡ x = cc in subst (λ z. p z ≡ true) q (and_parts (p y) (list_all p ys) h).0
get_in p (y ∷ ys) (suc i) x h e = get_in p ys i x (and_parts (p y) (list_all p ys) h).1 e

module _ (graph : Graph) (m : MixedGraph) (sound : is_sound graph ≡ true) (is : OfGraph graph m) where
  pub node_is : (b : ℕ) → slice_get m.nodes b ≡ option_map Unused (slice_get graph.blocks b)
  node_is b = ap (λ z. slice_get z b) is.nodes ∙ slice_get-map Unused graph.blocks b

  pub is_block : (o : Option Block) (k : Block) → option_map Unused o ≡ Some (Unused k) → o ≡ Some k
  is_block None k e = absurd (cc)
  is_block (Some b) k e = let q : b ≡ k = cc in ap Some q

  pub no_entry : (o : Option Block) (r w : ℕ) → option_map Unused o ≡ Some (Enters r w) → ⊥
  no_entry None r w e = cc
  no_entry (Some b) r w e = cc

  passage_below : (b v : ℕ) (p : Passage) → IsPassage m b p → ReadsFirst p.words p.exit v → v < length graph.banks
  passage_below b v p (through_block {block = k} e) h =
      let there : slice_get graph.blocks b ≡ Some k = is_block (slice_get graph.blocks b) k (sym (node_is b) ∙ e) in
      let s : is_sound_block graph k ≡ true = get_in (is_sound_block graph) graph.blocks b k (sound_blocks graph sound) there in
      let y = and_parts (list_all (is_sound_in graph) k.ops) (is_sound_exit graph.banks (length graph.blocks) k.exit) s in
      block_below graph k.ops k.exit y.0 y.1 v h
  passage_below b v p (by_split {r = r} w j q d e y word node reg le at sp) h = absurd (no_entry (slice_get graph.blocks b) r w (sym (node_is b) ∙ node))
  passage_below b v p (to_the_end {r = r} {w = w} node reg) h = absurd (no_entry (slice_get graph.blocks b) r w (sym (node_is b) ∙ node))

  live_below : {b v : ℕ} → Live m b v → v < length graph.banks
  live_below {b} {v} (here {p = p} way h) = passage_below b v p way h
  live_below {b} {v} (beyond way un nr leads rest) = live_below rest

pub begins_tidy : BeginsTidy
begins_tidy graph m sound is b v start made copy live =
    let below : v < length m.banks = subst (λ z. v < length z) (sym is.banks) (live_below graph m sound is live) in
    let no : is_copy (length m.banks) v ≡ false = ap (λ z. if z then false else true) (lt-ltb v (length m.banks) below) in
    absurd (let q : true ≡ false = sym copy ∙ no in cc)

pub no_region : {A : Type 0} (graph : Graph) (m : MixedGraph) → OfGraph graph m → (r : ℕ) (g : Region) → slice_get m.regions r ≡ Some g → A
no_region graph m is r g e = absurd (let q : None ≡ Some g = sym (ap (λ z. slice_get z r) is.regions) ∙ e in cc)

pub begins_settled : BeginsSettled
begins_settled graph m is room latency = record {
  fits = λ r i g word e at. no_region graph m is r g e;
  clusters = λ r g e. no_region graph m is r g e;
  times = λ r g e. no_region graph m is r g e;
}
