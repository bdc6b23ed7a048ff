-- A flow whose graphs were exchanged for others that are sound, and call and print what the old ones do, is sound.
use Rattle.std.proofs.Common.{◌≡◌, ℕ, ◌<◌, List, length, slice_get, Option, Some, None, refl, sym, ap, subst, ◌∙◌}
use Rattle.vx_flow.specs.declared.graph.Operand.{Operand}
use Rattle.vx_flow.specs.declared.graph.Op.TheVariants.{Text}
use Rattle.vx_flow.specs.declared.graph.Exit.TheVariants.{Call}
use Rattle.vx_flow.specs.declared.graph.Array.{Array}
use Rattle.vx_flow.specs.declared.graph.Graph.{Graph}
use Rattle.vx_flow.specs.declared.graph.Flow.{Flow}
use Rattle.vx_flow.specs.Effects.{IsIn}
use Rattle.vx_flow.specs.Sound.{base_at, HasOperation, HasExit, IsBase, Callable, IsBaseOperand, base, IsGivenBase, HasGlobal, Sound, SoundFlow}
use Rattle.vx_shape.specs.Flows.{with_graphs, Each}
use Rattle.vx_shape.proofs.Pairs.{At, each_at}
use Rattle.vx_select.proofs.Joined.{get_in}
use Rattle.vx_select.proofs.Sounds.{in_get}

-- what a flow asks of a graph that stands in place of another
pub record Keeps (old new : Graph) : Type 0 where
  pub parameters : new.parameters ≡ old.parameters
  pub arrays : new.arrays ≡ old.arrays
  pub sound : Sound new
  pub some : 0 < length old.blocks → 0 < length new.blocks
  pub texts : (n : ℕ) → HasOperation new (Text n) → HasOperation old (Text n)
  pub calls : (f next : ℕ) (arguments : List Operand) (result : Option ℕ) → HasExit new (Call f arguments result next) → (c : ℕ) × HasExit old (Call f arguments result c)
  pub bases : (v : ℕ) → IsBase new v → IsBase old v
  pub bases_stay : (v : ℕ) → IsBase old v → IsBase new v

pub keeps_itself : (g : Graph) → Sound g → Keeps g g
keeps_itself g s = record {
  parameters = refl;
  arrays = refl;
  sound = s;
  some = λ h. h;
  texts = λ n at. at;
  calls = λ f next arguments result at. (next, at);
  bases = λ v b. b;
  bases_stay = λ v b. b;
}

pub keeps_on : (x y z : Graph) → Keeps x y → Keeps y z → Keeps x z
keeps_on x y z a b = record {
  parameters = b.parameters ∙ a.parameters;
  arrays = b.arrays ∙ a.arrays;
  sound = b.sound;
  some = λ h. b.some (a.some h);
  texts = λ n at. a.texts n (b.texts n at);
  calls = λ f next arguments result at. (let c = b.calls f next arguments result at in a.calls f c.0 arguments result c.1);
  bases = λ v k. a.bases v (b.bases v k);
  bases_stay = λ v k. b.bases_stay v (a.bases_stay v k);
}

-- what is handed over is a base, and what is a given base, in both graphs

operand_was : (x : Operand) (old new : Graph) → Keeps old new → IsBaseOperand new x → IsBaseOperand old x
operand_was x old new k (base {v} b) = base (k.bases v b)

operand_stays : (x : Operand) (old new : Graph) → Keeps old new → IsBaseOperand old x → IsBaseOperand new x
operand_stays x old new k (base {v} b) = base (k.bases_stay v b)

given_was : (p : ℕ) (old new : Graph) → Keeps old new → IsGivenBase new p → IsGivenBase old p
given_was p old new k b = record { array = b.array; base = subst (λ (l : List Array). base_at l b.array ≡ Some p) k.arrays b.base }

given_stays : (p : ℕ) (old new : Graph) → Keeps old new → IsGivenBase old p → IsGivenBase new p
given_stays p old new k b = record { array = b.array; base = subst (λ (l : List Array). base_at l b.array ≡ Some p) (sym k.arrays) b.base }

module _ (R : Graph → Graph → Type 0) (kept : (g h : Graph) → Sound g → R g h → Keeps g h) (old : Flow) (graphs : List Graph) (each : Each R old.functions graphs) (s : SoundFlow old) where
  abbrev new : Flow
  new = with_graphs old graphs

  -- a graph of the new flow, and the one that it came from
  pub record Came (f : ℕ) (h : Graph) : Type 0 where
    pub graph : Graph
    pub is : slice_get old.functions f ≡ Some graph
    pub keeps : Keeps graph h
    pub related : R graph h

  came_by : (f : ℕ) (h : Graph) (o q : Option Graph) → slice_get old.functions f ≡ o → slice_get graphs f ≡ q → At R o q → q ≡ Some h → Came f h
  came_by f h None None e d a r = absurd (cc)
  came_by f h None (Some y) e d a r = absurd a
  came_by f h (Some x) None e d a r = absurd (cc)
  came_by f h (Some x) (Some y) e d a r =
      let q : y ≡ h = cc in
      let related : R x h = subst (R x) q a in
      record { graph = x; is = e; keeps = kept x h (s.graphs x (get_in old.functions f x e)) related; related = related }

  pub came : (f : ℕ) (h : Graph) → slice_get graphs f ≡ Some h → Came f h
  came f h e = came_by f h (slice_get old.functions f) (slice_get graphs f) refl refl (each_at R old.functions graphs each f) e

  came_in : (h : Graph) → IsIn h graphs → (f : ℕ) × Came f h
  came_in h m = let p = in_get graphs h m in (p.place, came p.place h p.is)

  old_in : (f : ℕ) (h : Graph) → (o : Came f h) → IsIn o.graph old.functions
  old_in f h o = get_in old.functions f o.graph o.is

  -- what is called is there
  there : (f count : ℕ) → Callable old f count → Callable new f count
  there f count c = by (slice_get graphs f) refl
    where
      at : At R (slice_get old.functions f) (slice_get graphs f)
      at = each_at R old.functions graphs each f

      by : (q : Option Graph) → slice_get graphs f ≡ q → Callable new f count
      by None e = absurd (no_pair (slice_get old.functions f) (slice_get graphs f) c.is e at)
        where
          no_pair : (o q : Option Graph) → o ≡ Some c.graph → q ≡ None → At R o q → ⊥
          no_pair None None a b k = cc
          no_pair None (Some y) a b k = k
          no_pair (Some x) None a b k = k
          no_pair (Some x) (Some y) a b k = cc
      by (Some h) e =
          let o = came f h e in
          let q : slice_get old.functions f ≡ Some c.graph = c.is in
          let r : slice_get old.functions f ≡ Some o.graph = o.is in
          let same : o.graph ≡ c.graph = cc in
          record { graph = h; is = e; parameters = ap (λ (l : List ℕ). length l) o.keeps.parameters ∙ ap (λ (x : Graph). length x.parameters) same ∙ c.parameters }

  pub new_sound : SoundFlow new
  new_sound = record {
    graphs = λ g m. let o = (came_in g m).1 in o.keeps.sound;
    blocks = λ g m. let o = (came_in g m).1 in o.keeps.some (s.blocks o.graph (old_in (came_in g m).0 g o));
    parameters = λ g i j v m below e f.
        let o = (came_in g m).1 in
        s.parameters o.graph i j v (old_in (came_in g m).0 g o) below (subst (λ (l : List ℕ). slice_get l i ≡ Some v) o.keeps.parameters e) (subst (λ (l : List ℕ). slice_get l j ≡ Some v) o.keeps.parameters f);
    main = there old.main 0 s.main;
    calls = λ g f next arguments result m at.
        let o = (came_in g m).1 in
        let c = o.keeps.calls f next arguments result at in
        there f (length arguments) (s.calls o.graph f c.0 arguments result (old_in (came_in g m).0 g o) c.1);
    handed = λ g h f next k p arguments result x m at e a q.
        let o = (came_in g m).1 in
        let c = o.keeps.calls f next arguments result at in
        let to = came f h e in
        let t = s.handed o.graph to.graph f c.0 k p arguments result x (old_in (came_in g m).0 g o) c.1 to.is a (subst (λ (l : List ℕ). slice_get l k ≡ Some p) to.keeps.parameters q) in
        (λ b. given_stays p to.graph h to.keeps (t.0 (operand_was x o.graph g o.keeps b)), λ b. operand_stays x o.graph g o.keeps (t.1 (given_was p to.graph h to.keeps b)));
    texts = λ g n m at. let o = (came_in g m).1 in s.texts o.graph n (old_in (came_in g m).0 g o) (o.keeps.texts n at);
    globals = λ g i x m e. let o = (came_in g m).1 in subst (λ (l : List Array). HasGlobal l i x.words) (sym o.keeps.arrays) (s.globals o.graph i x (old_in (came_in g m).0 g o) e);
    own = λ g i array m e far. let o = (came_in g m).1 in s.own o.graph i array (old_in (came_in g m).0 g o) (subst (λ (l : List Array). slice_get l i ≡ Some array) o.keeps.arrays e) far;
  }
