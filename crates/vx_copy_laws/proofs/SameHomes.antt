-- Homes that agree on the values of the function's graph: operations without a cluster of their own read no others, so that the same
-- copies are needed.
use Rattle.std.proofs.Common.{◌≡◌, ◌<◌, inl, inr, refl, sym, ◌∙◌, ap, subst, Bool, true, false, if◌then◌else◌, ℕ, Option, None, List, [], ◌∷◌, ◌++◌, slice_index_or}
use Rattle.vx_base.specs.declared.arithmetic.Code.{Code}
use Rattle.vx_flow.specs.declared.graph.Operand.{Operand}
use Rattle.vx_flow.specs.declared.graph.Operand.TheVariants.{Held, Number, Stack}
use Rattle.vx_flow.specs.declared.graph.Op.TheVariants.{Compute, Select, Store, Across, PlaceIn}
use Rattle.vx_flow.specs.declared.trace.TraceOp.{TraceOp}
use Rattle.vx_flow.specs.declared.trace.TraceOp.TheVariants.{Plain, Split}
use Rattle.vx_flow.specs.declared.trace.Trace.{Trace}
use Rattle.vx_flow.specs.declared.trace.Clustered.{Clustered}
use Rattle.vx_flow.specs.Effects.{IsIn, is_unary, value_in}
use Rattle.vx_flow.specs.Operands.{with_value_in, first_operand, second_operand, with_two}
use Rattle.vx_room.specs.Room.{home_of}
use Rattle.vx_dep.specs.Delays.{Stands, reads_of}
use Rattle.vx_bug.specs.Clusters.{general_reads}
use Rattle.vx_bug.specs.Copies.{copy_of, is_away, reads_copies, renamed_op, here}
use Rattle.vx_bug.specs.Assigned.{last_books}
use Rattle.vx_bug.specs.CanAssign.{ValuesAreThere}
use Rattle.vx_bug.proofs.Listing.{append_in_left, append_in_right}
use Rattle.vx_bug.proofs.Making.{reading_is_none}
use Rattle.vx_copy_laws.specs.CopyStands.{ReadsAway, IsServed, CopyStands, StandsAt, CopiesStand}
use Rattle.vx_copy_laws.specs.CopyLaws.{AssignedLaw}
use Rattle.vx_copy_laws.proofs.Standing.{copies_law}

-- general values are among those that are read

general_in : (op : TraceOp) (x : ℕ) → IsIn x (general_reads op) → IsIn x (reads_of op)
general_in (Split test leaves_when edge live) x h = absurd h
general_in (Plain (Select v test a b)) x h = inr h
general_in (Plain op) x h = h

-- an operation with other operands, by functions that agree on what it reads

module _ (f g : ℕ → ℕ) where
  same_operand : (a : Operand) → ((v : ℕ) → IsIn v (value_in a) → f v ≡ g v) → with_value_in f a ≡ with_value_in g a
  same_operand (Held v) e = ap Held (e v (inl refl))
  same_operand (Number n) e = refl
  same_operand Stack e = refl

  same_two : {A : Type 0} (make : Operand → Operand → A) (a b : Operand) → ((v : ℕ) → IsIn v (value_in a ++ value_in b) → f v ≡ g v) → make (with_value_in f a) (with_value_in f b) ≡ make (with_value_in g a) (with_value_in g b)
  same_two make a b e =
      ap (λ x. make x (with_value_in f b)) (same_operand a (λ v i. e v (append_in_left v (value_in a) (value_in b) i)))
      ∙ ap (λ y. make (with_value_in g a) y) (same_operand b (λ v i. e v (append_in_right v (value_in a) (value_in b) i)))

  same_computed : (code : Code) (v : ℕ) (a b : Operand) (u : Bool) → is_unary code ≡ u → ((x : ℕ) → IsIn x (if u then value_in a else value_in a ++ value_in b) → f x ≡ g x) →
      Compute code v (with_value_in f a) (if u then b else with_value_in f b) ≡ Compute code v (with_value_in g a) (if u then b else with_value_in g b)
  same_computed code v a b true q e = ap (λ x. Compute code v x b) (same_operand a e)
  same_computed code v a b false q e = same_two (λ x y. Compute code v x y) a b e

  same_renamed : (op : TraceOp) → ((v : ℕ) → IsIn v (general_reads op) → f v ≡ g v) → renamed_op f op ≡ renamed_op g op
  same_renamed (Split test leaves_when edge live) e = refl
  same_renamed (Plain (Compute code v a b)) e = ap Plain (same_computed code v a b (is_unary code) refl e)
  same_renamed (Plain (Select v test a b)) e = ap Plain (same_two (λ x y. Select v test x y) a b e)
  same_renamed (Plain (Store a p y)) e = ap Plain (same_two (λ x z. Store a x z) p y e)
  same_renamed (Plain (Across v u)) e = refl
  same_renamed (Plain (PlaceIn v a u i)) e =
      ap (λ x. Plain (PlaceIn v a x (with_value_in f i))) (e u (append_in_right u (value_in i) (u ∷ []) (inl refl)))
      ∙ ap (λ x. Plain (PlaceIn v a (g u) x)) (same_operand i (λ v k. e v (append_in_left v (value_in i) (u ∷ []) k)))
  same_renamed (Plain op) e = ap (λ x. Plain (with_two op x (second_operand op))) (same_operand (first_operand op) e)

-- homes that agree

abbrev SameHomes : (values : ℕ) → (h k : ℕ → Option ℕ) → Type 0
SameHomes values h k = (v : ℕ) → v < values → h v ≡ k v

same_back : (values : ℕ) (one two : ℕ → Option ℕ) → SameHomes values one two → SameHomes values two one
same_back values one two same v l = sym (same v l)

module _ (t : Trace) (chosen : List ℕ) (there : ValuesAreThere t) where
  away_to : (one two : ℕ → Option ℕ) → SameHomes t.values one two → (i v k : ℕ) → ReadsAway t one chosen i v k → ReadsAway t two chosen i v k
  away_to one two same i v k r =
      let few : v < t.values = there.reads i r.op v r.stands r.no_compensation (general_in r.op v r.reads) in
      record { op = r.op; stands = r.stands; takes = r.takes; no_compensation = r.no_compensation; no_copy = r.no_copy; reads = r.reads; home = r.home; lives = sym (same v few) ∙ r.lives; elsewhere = r.elsewhere }

  served_to : (one two : ℕ → Option ℕ) → SameHomes t.values one two → (i v k : ℕ) → IsServed t one chosen i v k → IsServed t two chosen i v k
  served_to one two same i v k s = record { reader = s.reader; above = s.above; reads = away_to one two same s.reader v k s.reads; no_join = s.no_join; no_writer = s.no_writer }

  stands_to : (one two : ℕ → Option ℕ) → SameHomes t.values one two → (i v k : ℕ) → CopyStands t one chosen i v k → CopyStands t two chosen i v k
  stands_to one two same i v k s = record { reads = away_to one two same i v k s.reads; first = λ r. s.first (served_to two one (same_back t.values one two same) i v k r) }

  read_to : (one two : ℕ → Option ℕ) → SameHomes t.values one two → (i k : ℕ) (op : TraceOp) → Stands t i op → (b : Bool) → reads_copies (slice_index_or t.fixed i None) op ≡ b →
      (if b then renamed_op (here t.values one k) op else op) ≡ (if b then renamed_op (here t.values two k) op else op)
  read_to one two same i k op s true e =
      let free = (reading_is_none (slice_index_or t.fixed i None) op e).0 in
      same_renamed (here t.values one k) (here t.values two k) op (λ v h.
      let few : v < t.values = there.reads i op v s free (general_in op v h) in
      ap (λ o. if is_away o k then copy_of t.values v k else v) (same v few))
  read_to one two same i k op s false e = refl

  pub to_homes : (one two : ℕ → Option ℕ) → SameHomes t.values one two → (c : Clustered) → CopiesStand t one chosen c → CopiesStand t two chosen c
  to_homes one two same c a = record {
    place = a.place;
    front = a.front;
    begins = a.begins;
    ascends = a.ascends;
    follows = a.follows;
    ends = a.ends;
    clusters_end = a.clusters_end;
    fixed_end = a.fixed_end;
    operation = λ i k op s e. subst (λ o. StandsAt c (a.place i) (record { op = o; cluster = k; fixed = slice_index_or t.fixed i None })) (read_to one two same i k op s (reads_copies (slice_index_or t.fixed i None) op) refl) (a.operation i k op s e);
    needed = λ i v k s. a.needed i v k (stands_to two one (same_back t.values one two same) i v k s);
    no_other = λ i v k h. stands_to one two same i v k (a.no_other i v k h);
    copies_alone = a.copies_alone;
    once = a.once;
    in_order = a.in_order;
    joins = a.joins;
    unchanged = a.unchanged;
  }

-- what is assigned

pub assigned_law : AssignedLaw
assigned_law m t homes r w there a =
    let laid = copies_law t (last_books m t homes r).homes r.chosen a.each_chosen w.each_fixed in
    to_homes t r.chosen there (last_books m t homes r).homes (home_of r.homes) (λ v l. sym (a.homes_of_values v l)) r.clustered
    (subst (λ c. CopiesStand t (last_books m t homes r).homes r.chosen c) (sym a.clustered) laid)
