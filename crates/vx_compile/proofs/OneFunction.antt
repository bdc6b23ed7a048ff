-- The layout of a function: its values are those of a sound graph, with their copies to other clusters of the machine, so it can be
-- finished.
use Rattle.std.proofs.Common.{◌≡◌, ◌⊎◌, inl, inr, ℕ, suc, ◌<◌, ◌≤◌, Bool, true, false, List, [], ◌∷◌, ◌++◌, length, map, Option, Some, None, refl, sym, ap, ◌∙◌, subst, arith}
use Rattle.std.specs.Prelude.{◌*◌, ◌/◌, ◌-◌, ◌+◌, slice_get, nat_lt, if◌then◌else◌}
use Rattle.std.proofs.Math.Nat.{mul_comm, div-lt_iff_lt-mul}
use Rattle.std.specs.List.{flat_map}
use Rattle.std.proofs.lemmas.Bool.{cases_lt}
use Rattle.std.proofs.lemmas.List.{length-map}
use Rattle.std.proofs.lemmas.Option.{slice_get_within}
use Rattle.vx_flow.specs.declared.graph.Bank.TheVariants.{General, Branch}
use Rattle.vx_flow.specs.declared.graph.Graph.{Graph}
use Rattle.vx_flow.specs.declared.graph.Op.{Op}
use Rattle.vx_flow.specs.declared.graph.Operand.{Operand}
use Rattle.vx_flow.specs.declared.graph.Operand.TheVariants.{Held, Number, Stack}
use Rattle.vx_flow.specs.declared.graph.Exit.TheVariants.{Split as Branches, Call as Calls, Return as Returns}
use Rattle.vx_flow.specs.Effects.{IsIn, reads, writes, value_in}
use Rattle.vx_flow.specs.Sound.{Sound, HasExit}
use Rattle.vx_flow.proofs.SoundLaw.{sound_is}
use Rattle.vx_isa.proofs.Ranges.{ranges}
use Rattle.vx_isa.specs.Numbers.{Numbers, IsMachine}
use Rattle.vx_room.specs.declared.items.ClusteredItem.{ClusteredItem}
use Rattle.vx_room.specs.Items.{latency_of_op}
use Rattle.vx_room.specs.Room.{has_room}
use Rattle.vx_mixed.specs.declared.region.Item.{Item}
use Rattle.vx_mixed.specs.declared.region.Item.TheVariants.{Plain as PlainItem, Split as SplitItem}
use Rattle.vx_mixed.specs.declared.mixed.MixedGraph.{MixedGraph}
use Rattle.vx_mixed.specs.declared.layout.Laid.{Laid}
use Rattle.vx_mixed.specs.declared.layout.Laid.TheVariants.{Plain, Split}
use Rattle.vx_mixed.specs.declared.layout.VirtualWord.{VirtualWord}
use Rattle.vx_mixed.specs.declared.layout.VirtualWord.TheVariants.{Planned, Drain, Transfer, Choice, Call, Return, Ends}
use Rattle.vx_mixed.specs.declared.layout.VWords.{VWords}
use Rattle.vx_mixed.specs.declared.region.Node.{Node}
use Rattle.vx_mixed.specs.declared.region.Node.TheVariants.{Unused}
use Rattle.vx_mixed.specs.FromGraph.{FromGraph}
use Rattle.vx_mixed.specs.Layout.{layout_of}
use Rattle.vx_layout.specs.LayoutLaws.{AreItems, SameRoom, LaidOut, LayoutSettles, LayoutComesFromGraph}
use Rattle.vx_mixed.specs.LaidSettled.{item_reads, item_writes, or_zero, home_in, Plans, Pends, written, later, SettledLayout}
use Rattle.vx_layout.specs.Brief.{LayoutIsBrief, IsBriefLayout}
use Rattle.vx_layout.specs.Origins.{Parts, CallsAs, LaidFromGraph}
use Rattle.vx_mixed.specs.Settled.{has_home}
use Rattle.vx_mixed.specs.Valid.{IsOp, region_op, names_of}
use Rattle.vx_layout.proofs.LaidSources.{plain_from, plan_of}
use Rattle.vx_region.specs.Regions.{item_in, room_in, IsCopyAway, OnMachine, IsGraphOf}
use Rattle.vx_region.proofs.ClusteredOps.{value_below}
use Rattle.vx_regs.specs.Intervals.{word_reads, word_writes, result_of, IsLive, here, beyond, IsBusy, is_live, is_named, is_pending}
use Rattle.vx_target.specs.Carried.{item_of_laid, room_of}
use Rattle.vx_compile.specs.Stages.{IsLayoutOf}

-- room

same_item : (x : Laid) (y : Item) (xs : List Laid) (ys : List Item) → AreItems (x ∷ xs) (y ∷ ys) → item_of_laid x ≡ item_in y
same_item (Plain op cluster) (PlainItem op' cluster') xs ys h = let a : op ≡ op' = h.0.0 in let b : cluster ≡ cluster' = h.0.1 in cc
same_item (Split p y q) (SplitItem p' y' e d) xs ys h = let a : p ≡ p' = h.0.0 in cc
same_item (Plain op cluster) (SplitItem p' y' e d) xs ys h = absurd h.0
same_item (Split p y q) (PlainItem op' cluster') xs ys h = absurd h.0

same_items : (xs : List Laid) (ys : List Item) → AreItems xs ys → map item_of_laid xs ≡ map item_in ys
same_items [] [] h = refl
same_items (x ∷ xs) (y ∷ ys) h = ap (λ z. z ∷ map item_of_laid xs) (same_item x y xs ys h) ∙ ap (λ z. item_in y ∷ z) (same_items xs ys h.1)
same_items [] (y ∷ ys) h = absurd h
same_items (x ∷ xs) [] h = absurd h

pub same_room : (m : Numbers) → SameRoom (room_in m) (room_of m)
same_room m homes word items h = ap (λ (z : List ClusteredItem). has_room m (record { clusters = homes }) z) (same_items items word h)

-- members

in_parts : {A : Type 0} (x : A) (xs ys : List A) → IsIn x (xs ++ ys) → IsIn x xs ⊎ IsIn x ys
in_parts x [] ys h = inr h
in_parts x (y ∷ xs) ys (inl e) = inl (inl e)
in_parts x (y ∷ xs) ys (inr h) = elim (in_parts x xs ys h) [
  | inl a ↦ inl (inr a)
  | inr b ↦ inr b
]

in_left : {A : Type 0} (x : A) (xs ys : List A) → IsIn x xs → IsIn x (xs ++ ys)
in_left x [] ys h = absurd h
in_left x (y ∷ xs) ys (inl e) = inl e
in_left x (y ∷ xs) ys (inr h) = inr (in_left x xs ys h)

in_right : {A : Type 0} (x : A) (xs ys : List A) → IsIn x ys → IsIn x (xs ++ ys)
in_right x [] ys h = h
in_right x (y ∷ xs) ys h = inr (in_right x xs ys h)

in_some : {A B : Type 0} (f : A → List B) (x : B) (xs : List A) → IsIn x (flat_map f xs) → (y : A) × IsIn y xs × IsIn x (f y)
in_some f x [] h = absurd h
in_some f x (y ∷ ys) h = elim (in_parts x (f y) (flat_map f ys) h) [
  | inl a ↦ (y, inl refl, a)
  | inr b ↦ let r = in_some f x ys b in (r.0, inr r.1, r.2)
]

-- the values of a layout are those of the graph

module _ (machine : Numbers) (graph : Graph) (latency : Op → ℕ) (m : MixedGraph) (sound : Sound graph) (on : OnMachine machine m) (banks : m.banks ≡ graph.banks) (code : LaidFromGraph graph (layout_of m)) where
  -- a value, or a copy of one to a cluster of the machine
  abbrev Bound : ℕ
  Bound = (machine.clusters + 1) * length m.banks

  -- and of copies only those to other clusters than that of the value
  abbrev Named : ℕ → Type 0
  Named v = (v < Bound) × (length m.banks ≤ v → IsCopyAway m.banks m.homes.clusters v)

  has : (v : ℕ) → v < length graph.banks → Named v
  has v h = let lt : v < length m.banks = subst (λ z. v < length z) (sym banks) h in (value_below (length m.banks) v machine.clusters lt, λ le. absurd (omega (arith, lt, le)))

  tested : (test : ℕ) → Parts graph test → Named test
  tested test h = has test (slice_get_within graph.banks test Branch (sound.exit_tests (Branches test h.yes h.no) test h.has (inl refl)))

  op_has : (p cluster v : ℕ) (op : Op) (items : List Laid) → Plans (layout_of m) p items → IsIn (Plain op cluster) items → IsIn v (names_of op) → Named v
  op_has p cluster v op items plans at names =
      let plan = plan_of latency m p items plans in
      let at' : IsIn (PlainItem op cluster) plan.word = plain_from plan.stands.at plan.word op cluster (subst (λ z. IsIn (Plain op cluster) z) plan.is at) in
      let is : IsOp m op = region_op plan.region plan.number cluster plan.g plan.word plan.has_region plan.has_word at' in
      (on.values op v is names, on.copied_away op v is names)

  item_reads_has : (p v : ℕ) (item : Laid) (items : List Laid) → Plans (layout_of m) p items → IsIn item items → IsIn v (item_reads item) → Named v
  item_reads_has p v (Plain op cluster) items plans at names = op_has p cluster v op items plans at (in_left v (reads op) (writes op) names)
  item_reads_has p v (Split test y q) items plans at (inl e) = subst (λ z. Named z) (sym e) (tested test (code.splits p test q y items plans at))
  item_reads_has p v (Split test y q) items plans at (inr h) = absurd h

  item_writes_has : (p v : ℕ) (item : Laid) (items : List Laid) → Plans (layout_of m) p items → IsIn item items → IsIn v (item_writes item) → Named v
  item_writes_has p v (Plain op cluster) items plans at names = op_has p cluster v op items plans at (in_right v (reads op) (writes op) names)
  item_writes_has p v (Split test y q) items plans at h = absurd h

  operand_has : (v : ℕ) (x : Operand) → ((u : ℕ) → x ≡ Held u → Named u) → IsIn v (value_in x) → Named v
  operand_has v (Held u) h (inl e) = subst (λ z. Named z) (sym e) (h u refl)
  operand_has v (Held u) h (inr z) = absurd z
  operand_has v (Number n) h z = absurd z
  operand_has v Stack h z = absurd z

  argument_has : (g : ℕ) (arguments : List Operand) (result : Option ℕ) (x : Operand) (u : ℕ) → CallsAs graph g arguments result → IsIn x arguments → x ≡ Held u → Named u
  argument_has g arguments result x u calls at is =
      has u (slice_get_within graph.banks u General (sound.exit_operands (Calls g arguments result calls.next) (Held u) calls.has (subst (λ z. IsIn z arguments) is at)))

  result_has : (g v : ℕ) (arguments : List Operand) (result : Option ℕ) → CallsAs graph g arguments result → IsIn v (result_of result) → Named v
  result_has g v arguments None calls h = absurd h
  result_has g v arguments (Some u) calls h = has v (slice_get_within graph.banks v General (sound.exit_results (Calls g arguments (Some u) calls.next) v calls.has h))

  reads_has : (p v : ℕ) (word : VirtualWord) → slice_get (layout_of m).words p ≡ Some word → IsIn v (word_reads word) → Named v
  reads_has p v (Planned r w items) e h = let s = in_some item_reads v items h in item_reads_has p v s.0 items (r, w, e) s.1 s.2
  reads_has p v (Drain n) e h = absurd h
  reads_has p v (Transfer q) e h = absurd h
  reads_has p v (Choice test q) e (inl is) = subst (λ z. Named z) (sym is) (tested test (code.choices p test q e))
  reads_has p v (Choice test q) e (inr h) = absurd h
  reads_has p v (Call g arguments result) e h =
      let calls = code.calls p g arguments result e in
      let s = in_some value_in v arguments h in
      operand_has v s.0 (λ u is. argument_has g arguments result s.0 u calls s.1 is) s.2
  reads_has p v (Return x) e h =
      let at : HasExit graph (Returns x) = code.returns p x e in
      operand_has v x (λ u is. has u (slice_get_within graph.banks u General (sound.exit_operands (Returns x) (Held u) at (inl (sym is))))) h
  reads_has p v (Ends k) e h = absurd h

  writes_has : (p v : ℕ) (word : VirtualWord) → slice_get (layout_of m).words p ≡ Some word → IsIn v (word_writes word) → Named v
  writes_has p v (Planned r w items) e h = let s = in_some item_writes v items h in item_writes_has p v s.0 items (r, w, e) s.1 s.2
  writes_has p v (Drain n) e h = absurd h
  writes_has p v (Transfer q) e h = absurd h
  writes_has p v (Choice test q) e h = absurd h
  writes_has p v (Call g arguments result) e h = result_has g v arguments result (code.calls p g arguments result e) h
  writes_has p v (Return x) e h = absurd h
  writes_has p v (Ends k) e h = absurd h

  live_has : (p v : ℕ) → IsLive (layout_of m) p v → Named v
  live_has p v (here {word} e h) = reads_has p v word e h
  live_has p v (beyond {q} e h leads live) = live_has q v live

  pending_has : (p v left : ℕ) → Pends latency (layout_of m) p v left → Named v
  pending_has p v left (written {p = at} {r} {w} {items} op cluster e item writes_it leads) = op_has at cluster v op items (r, w, e) item (in_right v (reads op) (writes op) writes_it)
  pending_has p v left (later {q} at n word pends e leads) = pending_has at v n pends

  pub busy_has : (p v : ℕ) → IsBusy latency (layout_of m) p v → Named v
  busy_has p v (is_live live) = live_has p v live
  busy_has p v (is_named {word} e h) = elim (in_parts v (word_reads word) (word_writes word) h) [
    | inl a ↦ reads_has p v word e a
    | inr b ↦ writes_has p v word e b
  ]
  busy_has p v (is_pending {left} pends) = pending_has p v (suc left) pends

  home_there : 0 < machine.clusters → (o : Option ℕ) → ((k : ℕ) → o ≡ Some k → k < machine.clusters) → or_zero o < machine.clusters
  home_there some None h = some
  home_there some (Some k) h = h k refl

  pub home_is_there : 0 < machine.clusters → (v : ℕ) → v < Bound → home_in (layout_of m) v < machine.clusters
  home_is_there some v h = by (nat_lt v (length m.banks))
    where
      positive : (0 < length m.banks) ⊎ (length m.banks ≤ 0) → 0 < length m.banks
      positive (inl lt) = lt
      positive (inr le) = let z : length m.banks ≡ 0 = omega (arith, le) in let e : (machine.clusters + 1) * length m.banks ≡ 0 = ap (λ n. (machine.clusters + 1) * n) z ∙ mul_comm (machine.clusters + 1) 0 ∙ omega arith in absurd (omega (arith, h, e))

      copied : v / length m.banks - 1 < machine.clusters
      copied = let l : v / length m.banks < machine.clusters + 1 = (div-lt_iff_lt-mul {k = length m.banks} {x = v} {y = machine.clusters + 1} (positive (cases_lt 0 (length m.banks)))).1 h in omega (arith, l, some)

      by : (b : Bool) → (if b then or_zero (has_home m.homes.clusters v) else v / length m.banks - 1) < machine.clusters
      by true = home_there some (has_home m.homes.clusters v) (on.homes v)
      by false = copied

-- a graph begins with a node for each block

pub same_count : (graph : Graph) (m : MixedGraph) → FromGraph graph m → length m.nodes ≡ length graph.blocks
same_count graph m from = ap (λ (nodes : List Node). length nodes) from.blocks.nodes ∙ length-map graph.blocks Unused

-- a machine has a cluster

some_cluster : (m : Numbers) → IsMachine m → 0 < m.clusters
some_cluster m h = let e = (ranges m h).clusters.least in omega (arith, e)

-- what a layout has that can be finished

pub record Finishable (machine : Numbers) (graph : Graph) (l : VWords) : Type 0 where
  pub settled : SettledLayout (room_of machine) (latency_of_op machine) l
  pub brief : IsBriefLayout l
  pub code : LaidFromGraph graph l
  pub homes : (p v : ℕ) → IsBusy (latency_of_op machine) l p v → home_in l v < machine.clusters
  pub values : (v : ℕ) → v < length l.banks → home_in l v < machine.clusters
  pub copies : (p v : ℕ) → IsBusy (latency_of_op machine) l p v → length l.banks ≤ v → IsCopyAway l.banks l.homes.clusters v

-- from the laws of layouts
module _ (settles : LayoutSettles) (comes : LayoutComesFromGraph) (is_brief : LayoutIsBrief) where
  of_done : (machine : Numbers) (graph : Graph) (m : MixedGraph) → IsMachine machine → 0 < length m.nodes → IsGraphOf machine graph m → LaidOut m (layout_of m) → Finishable machine graph (layout_of m)
  of_done machine graph m works some is laid =
      let latency : Op → ℕ = latency_of_op machine in
      let code : LaidFromGraph graph (layout_of m) = comes graph m (layout_of m) laid is.code in
      let sound : Sound graph = sound_is graph is.sound in
      let zero_there : 0 < machine.clusters = some_cluster machine works in
      record {
        settled = settles m (layout_of m) latency (room_in machine) (room_of machine) some laid (same_room machine) is.settled;
        brief = is_brief m (layout_of m) laid is.brief;
        code = code;
        homes = λ p v busy. home_is_there machine graph latency m sound is.on is.code.banks code zero_there v (busy_has machine graph latency m sound is.on is.code.banks code p v busy).0;
        values = λ v lt. home_is_there machine graph latency m sound is.on is.code.banks code zero_there v (value_below (length m.banks) v machine.clusters lt);
        copies = λ p v busy. (busy_has machine graph latency m sound is.on is.code.banks code p v busy).1;
      }

  pub finishable : (machine : Numbers) (function : ℕ) (graph : Graph) (l : VWords) → IsMachine machine → IsLayoutOf machine function graph l → Finishable machine graph l
  finishable machine function graph l works h =
      subst (Finishable machine graph) (sym h.is) (of_done machine graph h.done works h.some h.replaced.is (record { valid = h.valid; done = h.replaced.done; is = refl }))
