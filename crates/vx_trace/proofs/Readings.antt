-- What the readings of a graph tell.
use Rattle.std.proofs.Common.{◌≡◌, ◌⊎◌, inl, inr, ◌==◌, ◌&&◌, ◌||◌, eqb-true, eq-eqb, ℕ, zero, suc, ◌+◌, ◌-◌, ◌<◌, ◌≤◌, Bool, true, false, Option, Some, None, List, [], ◌∷◌, length, slice_get, refl, sym, ap, subst, ◌∙◌, arith}
use Rattle.std.specs.List.{list_any}
use Rattle.std.proofs.lemmas.Option.{slice_get_past}
use Rattle.vx_flow.specs.declared.graph.Block.{Block}
use Rattle.vx_flow.specs.declared.graph.Edge.{Edge}
use Rattle.vx_flow.specs.declared.graph.Exit.{Exit}
use Rattle.vx_flow.specs.declared.graph.Exit.TheVariants.{Goto}
use Rattle.vx_flow.specs.Effects.{IsIn}
use Rattle.vx_flow.proofs.IndexSteps.{get_below}
use Rattle.vx_mixed.specs.declared.region.Node.{Node}
use Rattle.vx_mixed.specs.declared.region.Node.TheVariants.{Unused, Enters, Inner}
use Rattle.vx_mixed.specs.declared.mixed.MixedGraph.{MixedGraph}
use Rattle.vx_mixed.specs.Edges.{IsEdge, of_block, of_split, of_last}
use Rattle.vx_mixed.specs.FromGraph.{same_edge, unused_in}
use Rattle.vx_mixed.specs.TraceOf.{EndsWithCall, block_at, block_or_none}
use Rattle.vx_mixed.specs.Valid.{Valid, is_entrance, is_in_region}
use Rattle.vx_trace.specs.Picked.{IsUnused, made_later, made_on, counted_after, edge_or}

-- tests

pub or_cases : (a b : Bool) → (a || b) ≡ true → (a ≡ true) ⊎ (b ≡ true)
or_cases true b h = inl refl
or_cases false b h = inr h

pub or_left : (a b : Bool) → a ≡ true → (a || b) ≡ true
or_left true b h = refl
or_left false b h = absurd (cc)

pub or_right : (a b : Bool) → b ≡ true → (a || b) ≡ true
or_right true b h = refl
or_right false b h = h

and_left : (a b : Bool) → (a && b) ≡ true → a ≡ true
and_left true b h = refl
and_left false b h = h

and_right : (a b : Bool) → (a && b) ≡ true → b ≡ true
and_right true b h = h
and_right false b h = absurd (cc)

pub and_both : (a b : Bool) → a ≡ true → b ≡ true → (a && b) ≡ true
and_both true b p q = q
and_both false b p q = p

-- unused blocks

pub unused_node : (node : Option Node) (block : Block) → unused_in node ≡ Some block → node ≡ Some (Unused block)
unused_node None block e = absurd (cc)
unused_node (Some (Unused k)) block e = let q : k ≡ block = cc in ap (λ z. Some (Unused z)) q
unused_node (Some (Enters r w)) block e = absurd (cc)
unused_node (Some Inner) block e = absurd (cc)

pub is_unused_at : (m : MixedGraph) (b : ℕ) (block : Block) → unused_in (slice_get m.nodes b) ≡ Some block → IsUnused m b
is_unused_at m b block e = (block, unused_node (slice_get m.nodes b) block e)

pub not_unused : (m : MixedGraph) (b : ℕ) → unused_in (slice_get m.nodes b) ≡ None → IsUnused m b → ⊥
not_unused m b e u = let q : unused_in (slice_get m.nodes b) ≡ Some u.0 = ap unused_in u.1 in cc

pub unused_below : (m : MixedGraph) (b : ℕ) → IsUnused m b → b < length m.nodes
unused_below m b u = get_below m.nodes b (Unused u.0) u.1

pub past_unused : (m : MixedGraph) (b : ℕ) → length m.nodes ≤ b → IsUnused m b → ⊥
past_unused m b h u = let k = unused_below m b u in omega arith

block_here : (node : Option Node) (block : Block) → Some block ≡ unused_in node → block_or_none node ≡ block
block_here node block e = ap block_or_none (unused_node node block (sym e))

pub block_is : (m : MixedGraph) (b : ℕ) (block : Block) → Some block ≡ unused_in (slice_get m.nodes b) → block_at m b ≡ block
block_is m b block e = block_here (slice_get m.nodes b) block e

no_block_here : (node : Option Node) → None ≡ unused_in node → block_or_none node ≡ record { ops = []; exit = Goto 0 }
no_block_here None e = refl
no_block_here (Some (Unused k)) e = absurd (cc)
no_block_here (Some (Enters r w)) e = refl
no_block_here (Some Inner) e = refl

pub no_block : (m : MixedGraph) (b : ℕ) → None ≡ unused_in (slice_get m.nodes b) → block_at m b ≡ record { ops = []; exit = Goto 0 }
no_block m b e = no_block_here (slice_get m.nodes b) e

pub no_block_past : (m : MixedGraph) (b : ℕ) → length m.nodes ≤ b → block_at m b ≡ record { ops = []; exit = Goto 0 }
no_block_past m b h = ap block_or_none (slice_get_past m.nodes b h)

pub calls_so : (m : MixedGraph) (b : ℕ) (block : Block) (exit : Exit) → Some block ≡ unused_in (slice_get m.nodes b) → exit ≡ block.exit → EndsWithCall exit → EndsWithCall (block_at m b).exit
calls_so m b block exit at is h = subst EndsWithCall (is ∙ ap (λ (z : Block). z.exit) (sym (block_is m b block at))) h

pub calls_only : (m : MixedGraph) (b : ℕ) (block : Block) (exit : Exit) → Some block ≡ unused_in (slice_get m.nodes b) → exit ≡ block.exit → EndsWithCall (block_at m b).exit → EndsWithCall exit
calls_only m b block exit at is h = subst EndsWithCall (ap (λ (z : Block). z.exit) (block_is m b block at) ∙ sym is) h

pub no_call : (m : MixedGraph) (b : ℕ) → block_at m b ≡ record { ops = []; exit = Goto 0 } → EndsWithCall (block_at m b).exit → ⊥
no_call m b is h = subst (λ (z : Block). EndsWithCall z.exit) is h

-- edges

entrance_below : (nodes : List Node) (b : ℕ) → is_entrance (slice_get nodes b) ≡ true → b < length nodes
entrance_below [] b e = absurd (cc)
entrance_below (n ∷ nodes) zero e = omega arith
entrance_below (n ∷ nodes) (suc b) e = let h = entrance_below nodes b e in omega arith

region_below : (nodes : List Node) (b : ℕ) → is_in_region (slice_get nodes b) ≡ true → b < length nodes
region_below [] b e = absurd (cc)
region_below (n ∷ nodes) zero e = omega arith
region_below (n ∷ nodes) (suc b) e = let h = region_below nodes b e in omega arith

pub target_within : (m : MixedGraph) (e : Edge) → Valid m → IsEdge m e → e.to < length m.nodes
target_within m e valid h = entrance_below m.nodes e.to (valid.leads e h)

pub source_within : (m : MixedGraph) (e : Edge) → Valid m → IsEdge m e → e.from < length m.nodes
source_within m e valid (of_block {block = block} at to) = get_below m.nodes e.from (Unused block) at
source_within m e valid (of_split r j p d y g word at has stands) = region_below m.nodes e.from (valid.splits_from r j p d y e g word at has stands)
source_within m e valid (of_last r g at from to) = subst (λ z. z < length m.nodes) (sym from) (region_below m.nodes g.from (valid.last_from r g at))

-- counts

pub counted_stays : (n : ℕ) (m : MixedGraph) (e : Edge) → made_later e (made_on m e.from) (made_on m e.to) ≡ None → counted_after n m e ≡ e
counted_stays zero m e h = refl
counted_stays (suc n) m e h = ap (λ z. counted_after n m (edge_or z e)) h ∙ counted_stays n m e h

pub counted_step : (n s : ℕ) (m : MixedGraph) (e on whole : Edge) → s < n → Some on ≡ made_later e (made_on m e.from) (made_on m e.to) → counted_after (n - s) m e ≡ whole → counted_after (n - (s + 1)) m on ≡ whole
counted_step n s m e on whole h is so =
    let k : n - s ≡ suc (n - (s + 1)) = omega arith in
    ap (λ z. counted_after (n - (s + 1)) m (edge_or z e)) is ∙ ap (λ z. counted_after z m e) (sym k) ∙ so

pub counted_here : (n : ℕ) (m : MixedGraph) (e whole : Edge) → None ≡ made_later e (made_on m e.from) (made_on m e.to) → counted_after n m e ≡ whole → e ≡ whole
counted_here n m e whole is so = sym (counted_stays n m e (sym is)) ∙ so

pub counted_all : (n s : ℕ) (m : MixedGraph) (e whole : Edge) → n ≤ s → counted_after (n - s) m e ≡ whole → e ≡ whole
counted_all n s m e whole h so = let k : zero ≡ n - s = omega arith in ap (λ z. counted_after z m e) k ∙ so

-- back edges

same_edge_is : (e f : Edge) → same_edge e f ≡ true → f ≡ e
same_edge_is e f h =
    let p : e.from ≡ f.from = eqb-true e.from f.from (and_left (e.from == f.from) (e.to == f.to) h) in
    let q : e.to ≡ f.to = eqb-true e.to f.to (and_right (e.from == f.from) (e.to == f.to) h) in
    sym (λ i. record { from = p i; to = q i })

same_edge_self : (e f : Edge) → e ≡ f → same_edge f e ≡ true
same_edge_self e f q = and_both (f.from == e.from) (f.to == e.to) (eq-eqb f.from e.from (sym (ap (λ (z : Edge). z.from) q))) (eq-eqb f.to e.to (sym (ap (λ (z : Edge). z.to) q)))

pub back_in : (e : Edge) (es : List Edge) → list_any (λ f. same_edge f e) es ≡ true → IsIn e es
back_in e [] h = absurd (cc)
back_in e (f ∷ es) h = elim (or_cases (same_edge f e) (list_any (λ g. same_edge g e) es) h) [ inl q ↦ inl (same_edge_is f e q) | inr k ↦ inr (back_in e es k) ]

pub in_back : (e : Edge) (es : List Edge) → IsIn e es → list_any (λ f. same_edge f e) es ≡ true
in_back e [] h = absurd h
in_back e (f ∷ es) (inl q) = or_left (same_edge f e) (list_any (λ g. same_edge g e) es) (same_edge_self e f q)
in_back e (f ∷ es) (inr k) = or_right (same_edge f e) (list_any (λ g. same_edge g e) es) (in_back e es k)

-- a test that is made otherwise
pub never : (r t : Bool) → r ≡ t → r ≡ false → t ≡ true → ⊥
never r t e f h = let k : true ≡ false = sym h ∙ sym e ∙ f in cc
