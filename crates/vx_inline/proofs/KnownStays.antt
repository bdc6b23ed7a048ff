-- What is known of a flow is known of it still with a call inlined.
use Rattle.std.proofs.Common.{◌≡◌, ◌⊎◌, ◌↔◌, inl, inr, ℕ, zero, suc, ◌+◌, ◌<◌, ◌≤◌, Bool, true, false, cond, ◌==◌, List, [], ◌∷◌, ◌++◌, length, map, slice_get, slice_set, get_or, not, drop, Option, Some, refl, sym, ap, ◌∙◌, subst, eq-eqb, eqb-true, lt-ltb, ltb-true, arith, IsTrue}
use Rattle.std.proofs.lemmas.Bool.{false≢true}
use Rattle.std.proofs.lemmas.Option.{slice_get_within}
use Rattle.vx_flow.specs.declared.graph.Bank.{Bank}
use Rattle.vx_flow.specs.declared.graph.Operand.{Operand}
use Rattle.vx_flow.specs.declared.graph.Exit.{Exit}
use Rattle.vx_flow.specs.declared.graph.Exit.TheVariants.{Goto, Split, Call, Return, Ends}
use Rattle.vx_flow.specs.declared.graph.Block.{Block}
use Rattle.vx_flow.specs.declared.graph.Graph.{Graph}
use Rattle.vx_flow.specs.declared.graph.Flow.{Flow}
use Rattle.vx_flow.specs.declared.graph.Edge.{Edge}
use Rattle.vx_flow.specs.Effects.{IsIn}
use Rattle.vx_flow.specs.Live.{IsLive}
use Rattle.vx_flow.specs.Rows.{is_marked, lives, row_at}
use Rattle.vx_flow.proofs.Members.{set_there}
use Rattle.vx_flow.specs.Sound.{HasExit, SoundFlow, targets_of}
use Rattle.vx_flow.proofs.SoundLists.{all_in}
use Rattle.vx_lower.proofs.Places.{set_other, set_length}
use Rattle.vx_inline.specs.declared.site.Site.{Site}
use Rattle.vx_inline.specs.Counts.{is_call}
use Rattle.vx_inline.specs.Fitting.{calls_nothing, is_calling}
use Rattle.vx_inline.specs.Finding.{call_in}
use Rattle.vx_inline.specs.Inlined.{TheCall, CallAt, CallsTo, Inlined, IsPermitted, OnCycle, Reaches, is_plain, moved, critical, behind, relinked_exit, all_plain, caller_at, callee_at, joined, taken, inlined_blocks}
use Rattle.vx_inline.specs.Keeping.{Passes, IsSiteBare, KnowsBare, KnowsBehind, KnowsLive, KnowsApart, KnowsSite, Knows, KeepsKnown, KeepsSite, LiveFor, NextKnown, front_of, returns_below, calls_stay}
use Rattle.vx_inline.specs.declared.known.Known.{Known}
use Rattle.vx_inline.specs.Permitting.{HasEnough, StandsApart}
use Rattle.vx_inline.specs.Values.{has_values, is_bare}
use Rattle.vx_inline.proofs.BareBlocks.{bare_inlined}
use Rattle.vx_inline.proofs.Candidates.{behind_known, enough_known}
use Rattle.vx_inline.proofs.Finds.{CallFound, call_found, call_there}
use Rattle.vx_inline.proofs.Counts.{linked_calls, copied_calls, callee_calls_none}
use Rattle.vx_inline.proofs.Depth.{get_in}
use Rattle.vx_inline.proofs.Edges.{in_there, Kept, AnEdge, ATrap, from_where}
use Rattle.vx_inline.proofs.FlowSound.{graph_from}
use Rattle.vx_inline.proofs.Joining.{caller_place, caller_low}
use Rattle.vx_inline.proofs.JoinedShape.{From, FromPlain, FromTrap, of_caller, of_call, of_callee, from_row, tail_kind, caller_target, rowed}
use Rattle.vx_inline.proofs.LiveStays.{live_stays}
use Rattle.vx_inline.proofs.Rests.{all_before}
use Rattle.vx_inline.proofs.Splicing.{at_next}

-- ---- blocks before the first trap block

pub front_plain : (xs : List Block) (j : ℕ) (x : Block) → j < front_of xs → slice_get xs j ≡ Some x → is_plain x ≡ true
front_plain [] j x l e = absurd (cc)
front_plain (y ∷ ys) j x l e = by (is_plain y) refl l (front_plain ys)
  where
    at : (i : ℕ) → slice_get (y ∷ ys) i ≡ Some x → is_plain y ≡ true → ((k : ℕ) (z : Block) → k < front_of ys → slice_get ys k ≡ Some z → is_plain z ≡ true) → i < 1 + front_of ys → is_plain x ≡ true
    at zero h p rec l = let q : y ≡ x = cc in ap is_plain (sym q) ∙ p
    at (suc i) h p rec l = rec i x (omega (arith, l)) h

    by : (t : Bool) → is_plain y ≡ t → j < cond t (1 + front_of ys) 0 → ((k : ℕ) (z : Block) → k < front_of ys → slice_get ys k ≡ Some z → is_plain z ≡ true) → is_plain x ≡ true
    by true p l rec = at j e p rec l
    by false p l rec = absurd (omega (arith, l))

-- one block more
pub front_next : (blocks : List Block) (i n more : ℕ) (d : Block) → i < length blocks → d ≡ get_or blocks i d → is_plain d ≡ true → n + front_of (drop i blocks) ≡ front_of blocks → more ≡ n + 1 → more + front_of (drop (i + 1) blocks) ≡ front_of blocks
front_next blocks i n more d l e p h q =
    let a : front_of (drop i blocks) ≡ front_of (d ∷ drop (i + 1) blocks) = at_next front_of blocks i d l e in
    let b : front_of (d ∷ drop (i + 1) blocks) ≡ 1 + front_of (drop (i + 1) blocks) = ap (λ t. cond t (1 + front_of (drop (i + 1) blocks)) 0) p in
    omega (arith, a, b, h, q)

pub front_stops : (blocks : List Block) (i n : ℕ) (d : Block) → i < length blocks → d ≡ get_or blocks i d → is_plain d ≡ false → n + front_of (drop i blocks) ≡ front_of blocks → n ≡ front_of blocks
front_stops blocks i n d l e p h =
    let a : front_of (drop i blocks) ≡ front_of (d ∷ drop (i + 1) blocks) = at_next front_of blocks i d l e in
    let b : front_of (d ∷ drop (i + 1) blocks) ≡ 0 = ap (λ t. cond t (1 + front_of (drop (i + 1) blocks)) 0) p in
    omega (arith, a, b, h)

module _ (flow : Flow) (site : Site) (c : CallAt flow site) (free : Bank → List ℕ) (permitted : IsPermitted flow site c free) (sound : SoundFlow flow) where
  abbrev A : List Block
  A = c.parts.caller.blocks

  abbrev m : ℕ
  m = all_plain c.parts

  abbrev S : List Block
  S = joined c.parts site.block free

  abbrev es : List Edge
  es = critical S 0 S

  abbrev F : List Block
  F = inlined_blocks c.parts site.block free

  abbrev G : Graph
  G = record c.parts.caller { blocks = F }

  abbrev at0 : ℕ → ℕ
  at0 = caller_at c.parts

  abbrev at : ℕ → ℕ
  at b = behind m (length es) (at0 b)

  -- a call of the new graph is one of the caller, but for where it returns to
  record CallFrom (f next : ℕ) (arguments : List Operand) (result : Option ℕ) : Type 0 where
    old : ℕ
    has : HasExit c.parts.caller (Call f arguments result old)
    is : next ≡ at old

  call_moved : (x : ℕ) (f next : ℕ) (arguments : List Operand) (result : Option ℕ) (exit : Exit) → HasExit c.parts.caller exit → relinked_exit m es x (moved at0 exit) ≡ Call f arguments result next → CallFrom f next arguments result
  call_moved x f next xs result (Goto d) h e = absurd (cc)
  call_moved x f next xs result (Split p d k) h e = absurd (cc)
  call_moved x f next xs result (Call g ys w d) h e =
      let a : g ≡ f = cc in
      let b : ys ≡ xs = cc in
      let r : w ≡ result = cc in
      let n : at d ≡ next = cc in
      record { old = d; has = subst (λ z. HasExit c.parts.caller (Call z xs result d)) a (subst (λ z. HasExit c.parts.caller (Call g z result d)) b (subst (λ z. HasExit c.parts.caller (Call g ys z d)) r h)); is = sym n }
  call_moved x f next xs result (Return v) h e = absurd (cc)
  call_moved x f next xs result (Ends k) h e = absurd (cc)

  no_call : (exit : Exit) (f next : ℕ) (arguments : List Operand) (result : Option ℕ) → is_call exit ≡ false → exit ≡ Call f arguments result next → ⊥
  no_call exit f next xs result h e = false≢true (sym h ∙ ap is_call e)

  call_from : (f next : ℕ) (arguments : List Operand) (result : Option ℕ) → HasExit G (Call f arguments result next) → CallFrom f next arguments result
  call_from f next xs result h = by (from_where m S (rowed flow site c free permitted sound) i.0 h.block i.1)
    where
      i : (j : ℕ) × (slice_get F j ≡ Some h.block)
      i = in_there F h.block h.has

      from_plain : (x : ℕ) (block : Block) → From flow site c free permitted sound block → relinked_exit m es x block.exit ≡ Call f xs result next → CallFrom f next xs result
      from_plain x block (of_caller b w g q) e =
          call_moved x f next xs result w.exit (record { block = w; has = get_in A b w g; ends = refl }) (sym (ap (λ (z : Block). relinked_exit m es x z.exit) q) ∙ e)
      from_plain x block (of_call q) e = absurd (no_call (relinked_exit m es x block.exit) f next xs result (linked_calls m es x block.exit ∙ ap (λ (z : Block). is_call z.exit) q) e)
      from_plain x block (of_callee b w g q) e =
          absurd (no_call (relinked_exit m es x block.exit) f next xs result
          (linked_calls m es x block.exit ∙ ap (λ (z : Block). is_call z.exit) q ∙
          copied_calls (callee_at c.parts) (taken c.parts.callee free) c.parts.result (at0 c.parts.next) w (callee_calls_none flow site c free permitted w (get_in c.parts.callee.blocks b w g))) e)

      in_row : (x : ℕ) (old : Block) → FromPlain flow site c free permitted sound old ⊎ FromTrap flow site c free permitted sound x old → relinked_exit m es x old.exit ≡ Call f xs result next → CallFrom f next xs result
      in_row x old (inl r) e = from_plain x old r.from e
      in_row x old (inr t) e = absurd (no_call (relinked_exit m es x old.exit) f next xs result (linked_calls m es x old.exit ∙ ap (λ (z : Block). is_call z.exit) t.is) e)

      by : Kept m S (rowed flow site c free permitted sound) i.0 h.block ⊎ (AnEdge m S (rowed flow site c free permitted sound) i.0 h.block ⊎ ATrap m S (rowed flow site c free permitted sound) i.0 h.block) → CallFrom f next xs result
      by (inl r) = in_row i.0 r.old (from_row flow site c free permitted sound i.0 r.old r.has) (sym (ap (λ (z : Block). z.exit) r.is) ∙ sym h.ends)
      by (inr (inl r)) = absurd (no_call h.block.exit f next xs result (ap (λ (z : Block). is_call z.exit) r.is) (sym h.ends))
      by (inr (inr r)) = let t = tail_kind flow site c free permitted sound r.j h.block r.has in absurd (no_call h.block.exit f next xs result (ap (λ (z : Block). is_call z.exit) t.2) (sym h.ends))

  place_stays : (b : ℕ) (block : Block) → slice_get A b ≡ Some block → is_plain block ≡ true → ((j : ℕ) (x : Block) → j < b → slice_get A j ≡ Some x → is_plain x ≡ true) → at b ≡ b
  place_stays b block e p all =
      let q : at0 b ≡ b = caller_place flow site c free permitted sound b block e p ∙ all_before A b block e all in
      let l : at0 b < m = caller_low flow site c free permitted sound b block e p in
      ap (λ t. cond t (at0 b) (at0 b + length es)) (lt-ltb (at0 b) m l) ∙ q

  record StandsStill (old : ℕ) : Type 0 where
    block : Block
    has : slice_get A old ≡ Some block
    still : at old ≡ old

  behind_call : (f old : ℕ) (arguments : List Operand) (result : Option ℕ) → calls_stay A ≡ true → HasExit c.parts.caller (Call f arguments result old) → StandsStill old
  behind_call f old xs result s h =
      let below : returns_below (front_of A) h.block.exit ≡ true = all_in (λ (block : Block). returns_below (front_of A) block.exit) A h.block s h.has in
      let l : old < front_of A = ltb-true old (front_of A) (ap (returns_below (front_of A)) h.ends ∙ below) in
      let i : (j : ℕ) × (slice_get A j ≡ Some h.block) = in_there A h.block h.has in
      let t : (z : Block) × (slice_get A old ≡ Some z) = caller_target flow site c free permitted sound i.0 old h.block i.1 (subst (λ x. IsIn old (targets_of x)) h.ends (inl refl)) in
      record { block = t.0; has = t.1; still = place_stays old t.0 t.1 (front_plain A old t.0 l t.1) (λ j x k e. front_plain A j x (omega (arith, k, l)) e) }

  pub behind_stays : Passes c.parts.callee → calls_stay c.parts.caller.blocks ≡ true → (rows : List (List ℕ)) → KnowsBehind c.parts.caller rows → KnowsBehind (record c.parts.caller { blocks = inlined_blocks c.parts site.block free }) rows
  behind_stays passes s rows k f next xs result h v =
      let o : CallFrom f next xs result = call_from f next xs result h in
      let w : StandsStill o.old = behind_call f o.old xs result s o.has in
      let n : next ≡ o.old = o.is ∙ w.still in
      let a : IsTrue (lives rows o.old v) ↔ IsLive c.parts.caller o.old v = k f o.old xs result o.has v in
      let b : IsLive G (at o.old) v ↔ IsLive c.parts.caller o.old v = live_stays flow site c free permitted sound passes o.old v w.block w.has in
      ((λ t. subst (λ z. IsLive G z v) (sym o.is) (b.1 (a.0 (subst (λ z. lives rows z v ≡ true) n t)))), (λ l. subst (λ z. lives rows z v ≡ true) (sym n) (a.1 (b.0 (subst (λ z. IsLive G z v) o.is l)))))

  pub call_old : (f g next : ℕ) (arguments : List Operand) (result : Option ℕ) → HasExit (record c.parts.caller { blocks = inlined_blocks c.parts site.block free }) (Call g arguments result next) → f ≡ site.function → CallsTo flow f g
  call_old f g next xs result h e =
      let o : CallFrom g next xs result = call_from g next xs result h in
      record { graph = c.parts.caller; is = ap (slice_get flow.functions) e ∙ c.is_caller; arguments = xs; result = result; next = o.old; has = o.has }

-- ---- marks

marked_there : (marks : List Bool) (f : ℕ) (is : Bool) → is_marked (slice_set marks f is) f ≡ true → is ≡ true
marked_there [] f is e = absurd (false≢true e)
marked_there (m ∷ ms) zero is e = e
marked_there (m ∷ ms) (suc f) is e = marked_there ms f is e

marked_other : (marks : List Bool) (f g : ℕ) (is : Bool) → (g ≡ f → ⊥) → is_marked (slice_set marks f is) g ≡ is_marked marks g
marked_other [] f g is n = refl
marked_other (m ∷ ms) zero zero is n = absurd (n refl)
marked_other (m ∷ ms) zero (suc g) is n = refl
marked_other (m ∷ ms) (suc f) zero is n = refl
marked_other (m ∷ ms) (suc f) (suc g) is n = marked_other ms f g is (λ e. n (ap suc e))

-- ---- rows

other_row : {X : Type 0} (rows : List (List X)) (p q : ℕ) (x : List X) → (q ≡ p → ⊥) → row_at (slice_set rows p x) q ≡ row_at rows q
other_row [] p q x n = refl
other_row (r ∷ rows) zero zero x n = absurd (n refl)
other_row (r ∷ rows) zero (suc q) x n = refl
other_row (r ∷ rows) (suc p) zero x n = refl
other_row (r ∷ rows) (suc p) (suc q) x n = other_row rows p q x (λ e. n (ap suc e))

module _ (flow new : Flow) (site : Site) (i : Inlined flow site new) (sound : SoundFlow flow) where
  abbrev after : Graph
  after = record i.call.parts.caller { blocks = inlined_blocks i.call.parts site.block i.free }

  new_from : (f : ℕ) (g : Graph) → slice_get new.functions f ≡ Some g → (slice_get flow.functions f ≡ Some g) ⊎ ((f ≡ site.function) × (g ≡ record i.call.parts.caller { blocks = inlined_blocks i.call.parts site.block i.free }))
  new_from f g e = graph_from flow site i.call i.free i.permitted sound f g (sym (ap (λ (x : Flow). slice_get x.functions f) i.is) ∙ e)

  other_graph : (f : ℕ) → (f ≡ site.function → ⊥) → slice_get new.functions f ≡ slice_get flow.functions f
  other_graph f n = ap (λ (x : Flow). slice_get x.functions f) i.is ∙ set_other flow.functions site.function f after n

  pub live_kept : (live : List (List (List ℕ))) → Passes i.call.parts.callee → calls_stay i.call.parts.caller.blocks ≡ true → KnowsLive flow live → KnowsLive new live
  live_kept live passes s k f g e = by (new_from f g e)
    where
      by : (slice_get flow.functions f ≡ Some g) ⊎ ((f ≡ site.function) × (g ≡ after)) → KnowsBehind g (row_at live f)
      by (inl h) = k f g h
      by (inr h) =
          subst (λ z. KnowsBehind z (row_at live f)) (sym h.1)
          (behind_stays flow site i.call i.free i.permitted sound passes s (row_at live f) (k f i.call.parts.caller (ap (slice_get flow.functions) h.0 ∙ i.call.is_caller)))

  pub live_anew : (live : List (List (List ℕ))) (rows : List (List ℕ)) (graph : Graph) → site.function < length live → slice_get new.functions site.function ≡ Some graph → KnowsBehind graph rows → KnowsLive flow live → KnowsLive new (slice_set live site.function rows)
  live_anew live rows graph l here exact k f g e = by (f == site.function) refl
    where
      by : (t : Bool) → (f == site.function) ≡ t → KnowsBehind g (row_at (slice_set live site.function rows) f)
      by true q =
          let same : f ≡ site.function = eqb-true f site.function q in
          let both : Option.Some graph ≡ Some g = sym here ∙ ap (slice_get new.functions) (sym same) ∙ e in
          let is : graph ≡ g = cc in
          let row : rows ≡ row_at (slice_set live site.function rows) f = sym (ap (row_at (slice_set live site.function rows)) same ∙ set_there live site.function rows l) in
          subst (KnowsBehind g) row (subst (λ z. KnowsBehind z rows) is exact)
      by false q =
          let n : f ≡ site.function → ⊥ = λ j. false≢true (sym q ∙ eq-eqb f site.function j) in
          subst (KnowsBehind g) (sym (other_row live site.function f rows n)) (k f g (sym (other_graph f n) ∙ e))

  -- ---- places of arrays that are no globals

  pub bare_kept : (bare : List Bool) → is_bare i.call.parts.caller.arrays i.call.parts.callee.blocks ≡ true → KnowsBare flow bare → KnowsBare new bare
  bare_kept bare more k f g e t = by (new_from f g e)
    where
      by : (slice_get flow.functions f ≡ Some g) ⊎ ((f ≡ site.function) × (g ≡ after)) → is_bare g.arrays g.blocks ≡ true
      by (inl h) = k f g h t
      by (inr h) =
          let own : is_bare i.call.parts.caller.arrays i.call.parts.caller.blocks ≡ true = k f i.call.parts.caller (ap (slice_get flow.functions) h.0 ∙ i.call.is_caller) t in
          subst (λ (z : Graph). is_bare z.arrays z.blocks ≡ true) (sym h.1) (bare_inlined i.call.parts site.block i.free i.call.is_block own more)

  pub bare_anew : (bare : List Bool) (is : Bool) (graph : Graph) → slice_get new.functions site.function ≡ Some graph → is ≡ is_bare graph.arrays graph.blocks → KnowsBare flow bare → KnowsBare new (slice_set bare site.function is)
  bare_anew bare is graph here q k f g e t = by (f == site.function) refl
    where
      by : (u : Bool) → (f == site.function) ≡ u → is_bare g.arrays g.blocks ≡ true
      by true z =
          let same : f ≡ site.function = eqb-true f site.function z in
          let both : Option.Some graph ≡ Some g = sym here ∙ ap (slice_get new.functions) (sym same) ∙ e in
          let one : graph ≡ g = cc in
          let told : is ≡ true = marked_there bare site.function is (sym (ap (is_marked (slice_set bare site.function is)) same) ∙ t) in
          subst (λ (x : Graph). is_bare x.arrays x.blocks ≡ true) one (sym q ∙ told)
      by false z =
          let n : f ≡ site.function → ⊥ = λ j. false≢true (sym z ∙ eq-eqb f site.function j) in
          k f g (sym (other_graph f n) ∙ e) (sym (marked_other bare site.function f is n) ∙ t)

  -- ---- cycles of calls

  fewer : (f g : ℕ) → CallsTo new f g → CallsTo flow f g
  fewer f g k = by (new_from f k.graph k.is)
    where
      by : (slice_get flow.functions f ≡ Some k.graph) ⊎ ((f ≡ site.function) × (k.graph ≡ after)) → CallsTo flow f g
      by (inl h) = record { graph = k.graph; is = h; arguments = k.arguments; result = k.result; next = k.next; has = k.has }
      by (inr h) = call_old flow site i.call i.free i.permitted sound f g k.next k.arguments k.result (subst (λ z. HasExit z (Call g k.arguments k.result k.next)) h.1 k.has) h.0

  others : (f g : ℕ) → (f ≡ site.function → ⊥) → CallsTo flow f g → CallsTo new f g
  others f g n k = record { graph = k.graph; is = other_graph f n ∙ k.is; arguments = k.arguments; result = k.result; next = k.next; has = k.has }

  down : (f g : ℕ) → Reaches new f g → Reaches flow f g
  down f g (Reaches.calls k) = Reaches.calls (fewer f g k)
  down f g (Reaches.through {g = h} k r) = Reaches.through (fewer f h k) (down h g r)

  -- what is reached is reached still, but for what the caller or a function that reaches it does
  up : (f g : ℕ) → Reaches flow f g → Reaches new f g ⊎ ((f ≡ site.function) ⊎ Reaches flow f site.function)
  up f g (Reaches.calls k) = by (f == site.function) refl
    where
      by : (t : Bool) → (f == site.function) ≡ t → Reaches new f g ⊎ ((f ≡ site.function) ⊎ Reaches flow f site.function)
      by true q = inr (inl (eqb-true f site.function q))
      by false q = inl (Reaches.calls (others f g (λ j. false≢true (sym q ∙ eq-eqb f site.function j)) k))
  up f g (Reaches.through {g = h} k r) = by (f == site.function) refl (up h g r)
    where
      by : (t : Bool) → (f == site.function) ≡ t → Reaches new h g ⊎ ((h ≡ site.function) ⊎ Reaches flow h site.function) → Reaches new f g ⊎ ((f ≡ site.function) ⊎ Reaches flow f site.function)
      by true q s = inr (inl (eqb-true f site.function q))
      by false q (inl s) = inl (Reaches.through (others f h (λ j. false≢true (sym q ∙ eq-eqb f site.function j)) k) s)
      by false q (inr (inl e)) = inr (inr (Reaches.calls (subst (CallsTo flow f) e k)))
      by false q (inr (inr s)) = inr (inr (Reaches.through k s))

  on_cycle_still : (f : ℕ) → OnCycle flow f → OnCycle new f
  on_cycle_still f o = by (up f f o)
    where
      by : Reaches new f f ⊎ ((f ≡ site.function) ⊎ Reaches flow f site.function) → OnCycle new f
      by (inl r) = r
      by (inr (inl e)) = absurd (i.permitted.alone (subst (OnCycle flow) e o))
      by (inr (inr r)) = absurd (i.permitted.apart f o r)

  apart_there : (f : ℕ) → StandsApart flow f → StandsApart new f
  apart_there f s = record { alone = λ o. s.alone (down f f o); apart = λ g o r. s.apart g (down g g o) (down g f r) }

  apart_back : (f : ℕ) → StandsApart new f → StandsApart flow f
  apart_back f s = record { alone = λ o. s.alone (on_cycle_still f o); apart = λ g o r. by g o (up g f r) }
    where
      by : (g : ℕ) → OnCycle flow g → Reaches new g f ⊎ ((g ≡ site.function) ⊎ Reaches flow g site.function) → ⊥
      by g o (inl r) = s.apart g (on_cycle_still g o) r
      by g o (inr (inl e)) = i.permitted.alone (subst (OnCycle flow) e o)
      by g o (inr (inr r)) = i.permitted.apart g o r

  pub functions_stay : length new.functions ≡ length flow.functions
  functions_stay = ap (λ (x : Flow). length x.functions) i.is ∙ set_length flow.functions site.function after

  pub apart_kept : (apart : List Bool) → KnowsApart flow apart → KnowsApart new apart
  apart_kept apart k f l =
      let n : length new.functions ≡ length flow.functions = functions_stay in
      let w = k f (omega (arith, l, n)) in
      ((λ t. apart_there f (w.0 t)), (λ s. w.1 (apart_back f s)))

  -- ---- all that is known

  pub knows_kept : (known : Known) → KeepsSite flow site → Knows flow known → Knows new known
  knows_kept known s k =
      let n : length new.functions ≡ length flow.functions = functions_stay in
      let w : KeepsKnown i.call.parts = s i.call in
      record { apart = apart_kept known.apart.items k.apart; live = live_kept known.live.items w.passes w.stay k.live; bare = bare_kept known.bare.items w.bare k.bare; count = k.count ∙ sym n }

  pub knows_anew : (known next : Known) (rows : List (List ℕ)) (is : Bool) (graph : Graph) → slice_get new.functions site.function ≡ Some graph → KnowsBehind graph rows → is ≡ is_bare graph.arrays graph.blocks → next.apart ≡ known.apart →
      next.live.items ≡ slice_set known.live.items site.function rows → next.bare.items ≡ slice_set known.bare.items site.function is → Knows flow known → Knows new next
  knows_anew known next rows is graph e b q a l h k =
      let n : length new.functions ≡ length flow.functions = functions_stay in
      let c : length known.live.items ≡ length flow.functions = k.count in
      let low : site.function < length new.functions = slice_get_within new.functions site.function graph e in
      record {
        apart = subst (λ x. KnowsApart new x.items) (sym a) (apart_kept known.apart.items k.apart);
        live = subst (KnowsLive new) (sym l) (live_anew known.live.items rows graph (omega (arith, low, n, c)) e b k.live);
        bare = subst (KnowsBare new) (sym h) (bare_anew known.bare.items is graph e q k.bare);
        count = ap length l ∙ set_length known.live.items site.function rows ∙ c ∙ sym n;
      }

-- ---- at first

pub knows_nothing : (g : Graph) (rows : List (List ℕ)) → calls_nothing g.blocks ≡ true → KnowsBehind g rows
knows_nothing g rows e f next xs result h v = absurd (by (is_calling h.block) (all_in (λ block. not (is_calling block)) g.blocks h.block e h.has) (ap is_call (sym h.ends)))
  where
    by : (t : Bool) → not t ≡ true → t ≡ true → ⊥
    by true p q = false≢true p
    by false p q = false≢true q

pub knows_all : (g : Graph) (rows : List (List ℕ)) → ((b v : ℕ) → IsTrue (lives rows b v) ↔ IsLive g b v) → KnowsBehind g rows
knows_all g rows exact f next xs result h v = exact next v

-- ---- one function more

-- of so many it is known whether they stand apart
pub record ApartSoFar (flow : Flow) (apart : List Bool) (f : ℕ) : Type 0 where
  pub count : length apart ≡ f
  pub known : (g : ℕ) → g < f → (is_marked apart g ≡ true) ↔ StandsApart flow g

pub apart_first : (flow : Flow) → ApartSoFar flow [] 0
apart_first flow = record { count = refl; known = λ g l. absurd (omega (arith, l)) }

pub apart_next : (flow : Flow) (apart new : List Bool) (f : ℕ) (is : Bool) → ApartSoFar flow apart f → IsTrue is ↔ StandsApart flow f → new ≡ apart ++ is ∷ [] → ApartSoFar flow new (f + 1)
apart_next flow apart new f is k h q = record { count = (let n : length apart ≡ f = k.count in ap length q ∙ longer_by apart ∙ ap (λ m. m + 1) n); known = λ g l. subst (λ z. (is_marked z g ≡ true) ↔ StandsApart flow g) (sym q) (more g l) }
  where
    longer_by : (xs : List Bool) → length (xs ++ is ∷ []) ≡ length xs + 1
    longer_by [] = refl
    longer_by (x ∷ xs) = let e : length (xs ++ is ∷ []) ≡ length xs + 1 = longer_by xs in omega (arith, e)

    front : (xs : List Bool) (j : ℕ) → j < length xs → is_marked (xs ++ is ∷ []) j ≡ is_marked xs j
    front [] j low = absurd (omega (arith, low))
    front (x ∷ xs) zero low = refl
    front (x ∷ xs) (suc j) low = front xs j (omega (arith, low))

    last : (xs : List Bool) → is_marked (xs ++ is ∷ []) (length xs) ≡ is
    last [] = refl
    last (x ∷ xs) = last xs

    more : (g : ℕ) → g < f + 1 → (is_marked (apart ++ is ∷ []) g ≡ true) ↔ StandsApart flow g
    more g l = by (g == f) refl
      where
        by : (t : Bool) → (g == f) ≡ t → (is_marked (apart ++ is ∷ []) g ≡ true) ↔ StandsApart flow g
        by true q =
            let same : g ≡ f = eqb-true g f q in
            let e : is_marked (apart ++ is ∷ []) g ≡ is = ap (is_marked (apart ++ is ∷ [])) (same ∙ sym k.count) ∙ last apart in
            ((λ t. subst (StandsApart flow) (sym same) (h.0 (sym e ∙ t))), (λ s. e ∙ h.1 (subst (StandsApart flow) same s)))
        by false q =
            let o : g ≡ f → ⊥ = λ j. false≢true (sym q ∙ eq-eqb g f j) in
            let low : g < f = grind (arith, l, o) in
            let n : length apart ≡ f = k.count in
            let e : is_marked (apart ++ is ∷ []) g ≡ is_marked apart g = front apart g (omega (arith, low, n)) in
            let w = k.known g low in
            ((λ t. w.0 (sym e ∙ t)), (λ s. e ∙ w.1 s))

pub apart_last : (flow : Flow) (apart : List Bool) (f : ℕ) → ApartSoFar flow apart f → f ≡ length flow.functions → KnowsApart flow apart
apart_last flow apart f k e g l = k.known g (omega (arith, l, e))

drop_get : (graphs : List Graph) (n : ℕ) (g : Graph) (todo : List Graph) → drop n graphs ≡ g ∷ todo → (slice_get graphs n ≡ Some g) × (drop (suc n) graphs ≡ todo) × (suc n ≤ length graphs)
drop_get [] zero g todo e = absurd (cc)
drop_get [] (suc n) g todo e = absurd (cc)
drop_get (x ∷ xs) zero g todo e = (let a : x ≡ g = cc in let b : xs ≡ todo = cc in (ap Some a, b, omega arith))
drop_get (x ∷ xs) (suc n) g todo e = let w = drop_get xs n g todo e in let l : suc n ≤ length xs = w.2 in (w.0, w.1, omega (arith, l))

drop_none : (graphs : List Graph) (n : ℕ) → drop n graphs ≡ [] → length graphs ≤ n
drop_none [] n e = omega arith
drop_none (x ∷ xs) zero e = absurd (cc)
drop_none (x ∷ xs) (suc n) e = let l : length xs ≤ n = drop_none xs n e in omega (arith, l)

longer_row : (live : List (List (List ℕ))) (rows : List (List ℕ)) → length (live ++ rows ∷ []) ≡ suc (length live)
longer_row [] rows = refl
longer_row (x ∷ xs) rows = ap suc (longer_row xs rows)

front_row : (live : List (List (List ℕ))) (rows : List (List ℕ)) (f : ℕ) → f < length live → row_at (live ++ rows ∷ []) f ≡ row_at live f
front_row [] rows f l = absurd (omega (arith, l))
front_row (x ∷ xs) rows zero l = refl
front_row (x ∷ xs) rows (suc f) l = front_row xs rows f (omega (arith, l))

last_row : (live : List (List (List ℕ))) (rows : List (List ℕ)) → row_at (live ++ rows ∷ []) (length live) ≡ rows
last_row [] rows = refl
last_row (x ∷ xs) rows = last_row xs rows

pub live_first : (graphs : List Graph) → LiveFor graphs [] graphs
live_first graphs = record { rest = refl; few = omega arith; known = λ f g l e. absurd (omega (arith, l)) }

live_more : (graphs todo : List Graph) (live new : List (List (List ℕ))) (graph : Graph) (rows : List (List ℕ)) → LiveFor graphs live (graph ∷ todo) → KnowsBehind graph rows → new ≡ live ++ rows ∷ [] → LiveFor graphs new todo
live_more graphs todo live new graph rows k h q =
    let w = drop_get graphs (length live) graph todo k.rest in
    let n : length new ≡ suc (length live) = ap length q ∙ longer_row live rows in
    let low : suc (length live) ≤ length graphs = w.2 in
    record { rest = ap (λ m. drop m graphs) n ∙ w.1; few = omega (arith, n, low); known = λ f g l e. subst (λ z. KnowsBehind g (row_at z f)) (sym q) (by w.0 f g (omega (arith, l, n)) e (f == length live) refl) }
  where
    by : slice_get graphs (length live) ≡ Some graph → (f : ℕ) (g : Graph) → f < suc (length live) → slice_get graphs f ≡ Some g → (t : Bool) → (f == length live) ≡ t → KnowsBehind g (row_at (live ++ rows ∷ []) f)
    by here f g l e true t =
        let same : f ≡ length live = eqb-true f (length live) t in
        let both : Option.Some graph ≡ Some g = sym here ∙ ap (slice_get graphs) (sym same) ∙ e in
        let is : graph ≡ g = cc in
        subst (KnowsBehind g) (sym (ap (row_at (live ++ rows ∷ [])) same ∙ last_row live rows)) (subst (λ z. KnowsBehind z rows) is h)
    by here f g l e false t =
        let o : f ≡ length live → ⊥ = λ j. false≢true (sym t ∙ eq-eqb f (length live) j) in
        let low : f < length live = grind (arith, l, o) in
        subst (KnowsBehind g) (sym (front_row live rows f low)) (k.known f g low e)

pub live_next : (graphs : List Graph) (live new : List (List (List ℕ))) (i : ℕ) (graph : Graph) (rows : List (List ℕ)) → i < length graphs → graph ≡ get_or graphs i graph → LiveFor graphs live (drop i graphs) → KnowsBehind graph rows → new ≡ live ++ rows ∷ [] → LiveFor graphs new (drop (i + 1) graphs)
live_next graphs live new i graph rows l e k h q =
    let a : drop i graphs ≡ graph ∷ drop (i + 1) graphs = at_next (λ gs. gs) graphs i graph l e in
    live_more graphs (drop (i + 1) graphs) live new graph rows (subst (LiveFor graphs live) a k) h q

drop_past : (graphs : List Graph) (i : ℕ) → length graphs ≤ i → drop i graphs ≡ []
drop_past [] zero l = refl
drop_past [] (suc i) l = refl
drop_past (x ∷ xs) zero l = absurd (omega (arith, l))
drop_past (x ∷ xs) (suc i) l = drop_past xs i (omega (arith, l))

pub live_done : (graphs : List Graph) (live : List (List (List ℕ))) (i : ℕ) → LiveFor graphs live (drop i graphs) → length graphs ≤ i → LiveFor graphs live []
live_done graphs live i k l = subst (LiveFor graphs live) (drop_past graphs i l) k

bare_first : (graphs : List Graph) (f : ℕ) (g : Graph) → slice_get graphs f ≡ Some g → is_marked (map (λ (x : Graph). is_bare x.arrays x.blocks) graphs) f ≡ true → is_bare g.arrays g.blocks ≡ true
bare_first [] f g e t = absurd (cc)
bare_first (x ∷ xs) zero g e t = let q : x ≡ g = cc in sym (ap (λ (z : Graph). is_bare z.arrays z.blocks) q) ∙ t
bare_first (x ∷ xs) (suc f) g e t = bare_first xs f g e t

pub knows_first : (flow : Flow) (known : Known) (graphs : List Graph) → graphs ≡ flow.functions → KnowsApart flow known.apart.items → LiveFor graphs known.live.items [] → known.bare.items ≡ map (λ (g : Graph). is_bare g.arrays g.blocks) graphs → Knows flow known
knows_first flow known graphs e a k b =
    let n : length graphs ≤ length known.live.items = drop_none graphs (length known.live.items) k.rest in
    let m : length known.live.items ≤ length graphs = k.few in
    let c : length known.live.items ≡ length graphs = omega (arith, n, m) in
    record {
      apart = a;
      live = λ f g h. known_at f g (sym (ap (λ z. slice_get z f) (sym e)) ∙ h);
      bare = λ f g h t. bare_first graphs f g (ap (λ z. slice_get z f) e ∙ h) (sym (ap (λ z. is_marked z f) b) ∙ t);
      count = c ∙ ap length e;
    }
  where
    known_at : (f : ℕ) (g : Graph) → slice_get graphs f ≡ Some g → KnowsBehind g (row_at known.live.items f)
    known_at f g h =
        let l : f < length graphs = slice_get_within graphs f g h in
        let n : length graphs ≤ length known.live.items = drop_none graphs (length known.live.items) k.rest in
        k.known f g (omega (arith, l, n)) h

-- ---- rows that are read

row_there : {X : Type 0} (rows : List (List X)) (f : ℕ) (row : List X) → slice_get rows f ≡ Some row → row_at rows f ≡ row
row_there [] f row e = absurd (cc)
row_there (r ∷ rs) zero row e = cc
row_there (r ∷ rs) (suc f) row e = row_there rs f row e

pub room_known : (flow : Flow) (site : Site) (c : TheCall) (known : Known) (rows : List (List ℕ)) (has : Bool) → Knows flow known → call_in flow site ≡ Some c → slice_get known.live.items site.function ≡ Some rows → has ≡ has_values rows c → IsTrue has ↔ HasEnough c
room_known flow site c known rows has k e r h = enough_known flow site c known k e rows has (row_there known.live.items site.function rows r) h

pub site_known : (flow : Flow) (site : Site) (known : Known) (rows : List (List ℕ)) → Knows flow known → slice_get known.live.items site.function ≡ Some rows → KnowsSite flow site rows
site_known flow site known rows k r c v =
    let w = behind_known flow site c.parts known k (call_there flow site c) v in
    let q : row_at known.live.items site.function ≡ rows = row_there known.live.items site.function rows r in
    ((λ t. w.0 (ap (λ z. lives z c.parts.next v) q ∙ t)), (λ l. sym (ap (λ z. lives z c.parts.next v) q) ∙ w.1 l))

pub anew_known : (new : Flow) (known next : Known) (f : ℕ) (rows : List (List ℕ)) (is : Bool) (graph : Graph) → slice_get new.functions f ≡ Some graph → KnowsBehind graph rows → is ≡ is_bare graph.arrays graph.blocks → next.apart ≡ known.apart →
    next.live.items ≡ slice_set known.live.items f rows → next.bare.items ≡ slice_set known.bare.items f is → NextKnown new f known next
anew_known new known next f rows is graph e b q a l h = λ flow site i sound same k.
    knows_anew flow new site i sound known next rows is graph (ap (slice_get new.functions) same ∙ e) b q a (l ∙ ap (λ z. slice_set known.live.items z rows) (sym same)) (h ∙ ap (λ z. slice_set known.bare.items z is) (sym same)) k

-- ---- whether the caller of a site is bare

pub site_bare : (flow : Flow) (site : Site) (known : Known) (bare : Bool) → Knows flow known → bare ≡ is_marked known.bare.items site.function → IsSiteBare flow site bare
site_bare flow site known bare k e t c = k.bare site.function c.parts.caller c.is_caller (sym e ∙ t)

pub call_bare : (flow : Flow) (site : Site) (c : TheCall) (bare : Bool) → call_in flow site ≡ Some c → IsSiteBare flow site bare → bare ≡ true → is_bare c.caller.arrays c.caller.blocks ≡ true
call_bare flow site c bare e h t = let w : CallFound flow site c = call_found flow site c e in subst (λ (x : TheCall). is_bare x.caller.arrays x.caller.blocks ≡ true) w.is (h t w.call)
