-- What is live at a block of the caller of an inlined call is live there still, and nothing else, where the callee passes.
use Rattle.std.proofs.Common.{◌≡◌, ◌⊎◌, ◌↔◌, inl, inr, ℕ, Bool, true, false, ◌==◌, List, [], ◌∷◌, ◌++◌, length, map, slice_get, Option, Some, None, refl, sym, ap, ◌∙◌, subst, eq-eqb, eqb-true, arith}
use Rattle.std.proofs.lemmas.Bool.{false≢true}
use Rattle.std.specs.List.{flat_map}
use Rattle.vx_flow.specs.declared.graph.Bank.{Bank}
use Rattle.vx_flow.specs.declared.graph.Operand.{Operand}
use Rattle.vx_flow.specs.declared.graph.Op.{Op}
use Rattle.vx_flow.specs.declared.graph.Op.TheVariants.{Compute, Select, Place, Base, PlaceIn, Load, Store, More, Input, Text, Decimal, Across}
use Rattle.vx_flow.specs.declared.graph.Exit.{Exit}
use Rattle.vx_flow.specs.declared.graph.Exit.TheVariants.{Goto, Split, Call, Return, Ends}
use Rattle.vx_flow.specs.declared.graph.Block.{Block}
use Rattle.vx_flow.specs.declared.graph.Graph.{Graph}
use Rattle.vx_flow.specs.declared.graph.Flow.{Flow}
use Rattle.vx_flow.specs.declared.graph.Edge.{Edge}
use Rattle.vx_flow.specs.Effects.{IsIn, value_in, writes}
use Rattle.vx_flow.specs.Live.{IsLive, ReadsFirst, NeverWrites, reads_of_exit}
use Rattle.vx_flow.specs.Operands.{with_value_in, with_values}
use Rattle.vx_flow.specs.Sound.{HasOperation, HasExit, SoundFlow, Callable, targets_of, results_of_exit}
use Rattle.vx_flow.proofs.Members.{in_left, in_right, in_either}
use Rattle.vx_inline.specs.declared.site.Site.{Site}
use Rattle.vx_inline.specs.Inlined.{CallAt, IsPermitted, IsFree, taken, names, moves_in, moves_out, critical, behind, all_plain, caller_at, callee_at, joined, inlined_blocks}
use Rattle.vx_inline.specs.Joined.{ComesTo, Follows, Copies, Stays, Stands, Enters}
use Rattle.vx_inline.specs.Keeping.{Returns, Passes}
use Rattle.vx_inline.proofs.Depth.{get_in}
use Rattle.vx_inline.proofs.Joining.{block_is, stays as the_stays, enters as the_enters, stands as the_stands}
use Rattle.vx_inline.proofs.JoinedShape.{caller_target as the_caller_target, callee_target as the_callee_target, next_there as the_next_there, callee_first as the_callee_first}
use Rattle.vx_inline.proofs.Renamed.{reads_named, writes_named, exit_reads_named, value_renamed, reads_renamed, writes_renamed}
use Rattle.vx_inline.proofs.Taking.{is_free}

-- ---- operations, with others behind them or another exit

reads_with : (ops : List Op) (e f : Exit) (v : ℕ) → (IsIn v (reads_of_exit e) → IsIn v (reads_of_exit f)) → ReadsFirst ops e v → ReadsFirst ops f v
reads_with [] e f v k h = k h
reads_with (op ∷ ops) e f v k (inl m) = inl m
reads_with (op ∷ ops) e f v k (inr h) = inr (h.0, reads_with ops e f v k h.1)

never_with : (ops : List Op) (e f : Exit) (v : ℕ) → (IsIn v (results_of_exit f) → IsIn v (results_of_exit e)) → NeverWrites ops e v → NeverWrites ops f v
never_with [] e f v k h = λ m. h (k m)
never_with (op ∷ ops) e f v k h = (h.0, never_with ops e f v k h.1)

reads_front : (ops more : List Op) (e f : Exit) (v : ℕ) → (ReadsFirst more e v → IsIn v (reads_of_exit f)) → ReadsFirst (ops ++ more) e v → ReadsFirst ops f v
reads_front [] more e f v k h = k h
reads_front (op ∷ ops) more e f v k (inl m) = inl m
reads_front (op ∷ ops) more e f v k (inr h) = inr (h.0, reads_front ops more e f v k h.1)

reads_longer : (ops more : List Op) (e f : Exit) (v : ℕ) → (IsIn v (reads_of_exit f) → ReadsFirst more e v) → ReadsFirst ops f v → ReadsFirst (ops ++ more) e v
reads_longer [] more e f v k h = k h
reads_longer (op ∷ ops) more e f v k (inl m) = inl m
reads_longer (op ∷ ops) more e f v k (inr h) = inr (h.0, reads_longer ops more e f v k h.1)

never_rest : (ops more : List Op) (e : Exit) (v : ℕ) → NeverWrites (ops ++ more) e v → NeverWrites more e v
never_rest [] more e v h = h
never_rest (op ∷ ops) more e v h = never_rest ops more e v h.1

never_front : (ops more : List Op) (e f : Exit) (v : ℕ) → (IsIn v (results_of_exit f) → ⊥) → NeverWrites (ops ++ more) e v → NeverWrites ops f v
never_front [] more e f v k h = k
never_front (op ∷ ops) more e f v k h = (h.0, never_front ops more e f v k h.1)

never_longer : (ops more : List Op) (e f : Exit) (v : ℕ) → NeverWrites more e v → NeverWrites ops f v → NeverWrites (ops ++ more) e v
never_longer [] more e f v k h = k
never_longer (op ∷ ops) more e f v k h = (h.0, never_longer ops more e f v k h.1)

never_result : (ops : List Op) (e : Exit) (v : ℕ) → NeverWrites ops e v → IsIn v (results_of_exit e) → ⊥
never_result [] e v h m = h m
never_result (op ∷ ops) e v h m = never_result ops e v h.1 m

-- ---- the moves of arguments and of a result

module _ (to : ℕ → ℕ) where
  moves_read : (qs : List ℕ) (xs : List Operand) (d v : ℕ) → ReadsFirst (moves_in to qs xs) (Goto d) v → IsIn v (flat_map value_in xs)
  moves_read [] xs d v h = absurd h
  moves_read (q ∷ qs) [] d v h = absurd h
  moves_read (q ∷ qs) (x ∷ xs) d v (inl m) = in_left v (value_in x) (flat_map value_in xs) m
  moves_read (q ∷ qs) (x ∷ xs) d v (inr h) = in_right v (value_in x) (flat_map value_in xs) (moves_read qs xs d v h.1)

  read_moves : (qs : List ℕ) (xs : List Operand) (d v : ℕ) → length qs ≡ length xs → ((q : ℕ) → IsIn q qs → v ≡ to q → ⊥) → IsIn v (flat_map value_in xs) → ReadsFirst (moves_in to qs xs) (Goto d) v
  read_moves qs [] d v l n m = absurd m
  read_moves [] (x ∷ xs) d v l n m = absurd (omega (arith, l))
  read_moves (q ∷ qs) (x ∷ xs) d v l n m = by (in_either v (value_in x) (flat_map value_in xs) m) (read_moves qs xs d v (omega (arith, l)) (λ p k. n p (inr k)))
    where
      other : IsIn v (to q ∷ []) → ⊥
      other (inl e) = n q (inl refl) e
      other (inr z) = z

      by : IsIn v (value_in x) ⊎ IsIn v (flat_map value_in xs) → (IsIn v (flat_map value_in xs) → ReadsFirst (moves_in to qs xs) (Goto d) v) → ReadsFirst (moves_in to (q ∷ qs) (x ∷ xs)) (Goto d) v
      by (inl k) r = inl k
      by (inr k) r = inr (other, r k)

  never_moves : (qs : List ℕ) (xs : List Operand) (d v : ℕ) → ((q : ℕ) → IsIn q qs → v ≡ to q → ⊥) → NeverWrites (moves_in to qs xs) (Goto d) v
  never_moves [] xs d v n = λ m. m
  never_moves (q ∷ qs) [] d v n = λ m. m
  never_moves (q ∷ qs) (x ∷ xs) d v n = (other, never_moves qs xs d v (λ p k. n p (inr k)))
    where
      other : IsIn v (to q ∷ []) → ⊥
      other (inl e) = n q (inl refl) e
      other (inr z) = z

  moves_write : (qs : List ℕ) (xs : List Operand) (d u : ℕ) → length qs ≡ length xs → IsIn u qs → NeverWrites (moves_in to qs xs) (Goto d) (to u) → ⊥
  moves_write [] xs d u l m h = m
  moves_write (q ∷ qs) [] d u l m h = absurd (omega (arith, l))
  moves_write (q ∷ qs) (x ∷ xs) d u l (inl e) h = h.0 (inl (ap to e))
  moves_write (q ∷ qs) (x ∷ xs) d u l (inr m) h = moves_write qs xs d u (omega (arith, l)) m h.1

  out_read : (result : Option ℕ) (x : Operand) (d v : ℕ) → ReadsFirst (moves_out result (with_value_in to x)) (Goto d) v → (u : ℕ) × IsIn u (value_in x) × (v ≡ to u)
  out_read None x d v h = absurd h
  out_read (Some w) x d v (inl m) = value_renamed to x v m
  out_read (Some w) x d v (inr h) = absurd h.1

out_never : (result : Option ℕ) (x : Operand) (d v : ℕ) → NeverWrites (moves_out result x) (Goto d) v → result ≡ Some v → ⊥
out_never None x d v h e = absurd (cc)
out_never (Some w) x d v h e = let q : w ≡ v = cc in h.0 (inl (sym q))

never_out : (result : Option ℕ) (x : Operand) (d v : ℕ) → (result ≡ Some v → ⊥) → NeverWrites (moves_out result x) (Goto d) v
never_out None x d v n = λ m. m
never_out (Some w) x d v n = (other, λ m. m)
  where
    other : IsIn v (w ∷ []) → ⊥
    other (inl e) = n (ap Some (sym e))
    other (inr z) = z

-- ---- operations with other values

writes_there : (to : ℕ → ℕ) (op : Op) (u : ℕ) → IsIn u (writes op) → IsIn (to u) (writes (with_values to op))
writes_there to (Compute code w a b) u (inl e) = inl (ap to e)
writes_there to (Compute code w a b) u (inr z) = absurd z
writes_there to (Select w p a b) u (inl e) = inl (ap to e)
writes_there to (Select w p a b) u (inr z) = absurd z
writes_there to (Place w a i) u (inl e) = inl (ap to e)
writes_there to (Place w a i) u (inr z) = absurd z
writes_there to (Base w a x) u (inl e) = inl (ap to e)
writes_there to (Base w a x) u (inr z) = absurd z
writes_there to (PlaceIn w a b i) u (inl e) = inl (ap to e)
writes_there to (PlaceIn w a b i) u (inr z) = absurd z
writes_there to (Load w a p d) u (inl e) = inl (ap to e)
writes_there to (Load w a p d) u (inr z) = absurd z
writes_there to (Store a p x) u m = absurd m
writes_there to (More w) u (inl e) = inl (ap to e)
writes_there to (More w) u (inr z) = absurd z
writes_there to (Input w) u (inl e) = inl (ap to e)
writes_there to (Input w) u (inr z) = absurd z
writes_there to (Text n) u m = absurd m
writes_there to (Decimal x) u m = absurd m
writes_there to (Across w y) u (inl e) = inl (ap to e)
writes_there to (Across w y) u (inr z) = absurd z

module _ (g : Graph) (to : ℕ → ℕ) where
  -- a value that a copy reads is taken by one that the operations read
  pub record ReadAs (ops : List Op) (exit : Exit) (v : ℕ) : Type 0 where
    pub value : ℕ
    pub is : v ≡ to value
    pub named : IsIn value (names g)
    pub reads : ReadsFirst ops exit value

  reads_copied : (ops more : List Op) (e exit : Exit) (v : ℕ) → ((op : Op) → IsIn op ops → HasOperation g op) → (ReadsFirst more e v → ReadAs [] exit v) → ReadsFirst (map (with_values to) ops ++ more) e v → ReadAs ops exit v
  reads_copied [] more e exit v all k h = k h
  reads_copied (op ∷ ops) more e exit v all k (inl m) =
      let r = reads_renamed to op v m in
      record { value = r.0; is = r.2; named = reads_named g op r.0 (all op (inl refl)) r.1; reads = inl r.1 }
  reads_copied (op ∷ ops) more e exit v all k (inr h) =
      let r : ReadAs ops exit v = reads_copied ops more e exit v (λ o i. all o (inr i)) k h.1 in
      record { value = r.value; is = r.is; named = r.named; reads = inr ((λ w. h.0 (subst (λ z. IsIn z (writes (with_values to op))) (sym r.is) (writes_there to op r.value w))), r.reads) }

  never_copied : (ops more : List Op) (e exit : Exit) (v u : ℕ) → v ≡ to u → (IsIn u (results_of_exit exit) → ⊥) → NeverWrites (map (with_values to) ops ++ more) e v → NeverWrites ops exit u
  never_copied [] more e exit v u is k h = k
  never_copied (op ∷ ops) more e exit v u is k h = ((λ w. h.0 (subst (λ z. IsIn z (writes (with_values to op))) (sym is) (writes_there to op u w))), never_copied ops more e exit v u is k h.1)

  -- a value that none takes is never written
  never_taken : (ops more : List Op) (e : Exit) (v : ℕ) → ((op : Op) → IsIn op ops → HasOperation g op) → ((u : ℕ) → IsIn u (names g) → v ≡ to u → ⊥) → NeverWrites more e v → NeverWrites (map (with_values to) ops ++ more) e v
  never_taken [] more e v all n k = k
  never_taken (op ∷ ops) more e v all n k =
      ((λ m. (let r = writes_renamed to op v m in n r.0 (writes_named g op r.0 (all op (inl refl)) r.1) r.2)), never_taken ops more e v (λ o i. all o (inr i)) n k)

-- ---- exits that follow others

module _ (blocks : List Block) (at : ℕ → ℕ) where
  follows_reads : (e f : Exit) → Follows blocks at e f → reads_of_exit f ≡ reads_of_exit e
  follows_reads (Goto c) f h = ap reads_of_exit h
  follows_reads (Split p c d) f h = ap reads_of_exit h.4
  follows_reads (Call g xs r c) f h = ap reads_of_exit h
  follows_reads (Return x) f h = ap reads_of_exit h
  follows_reads (Ends k) f h = ap reads_of_exit h

  same_result : (g c : ℕ) (xs : List Operand) (r : Option ℕ) → results_of_exit (Call g xs r (at c)) ≡ results_of_exit (Call g xs r c)
  same_result g c xs None = refl
  same_result g c xs (Some v) = refl

  follows_results : (e f : Exit) → Follows blocks at e f → results_of_exit f ≡ results_of_exit e
  follows_results (Goto c) f h = ap results_of_exit h
  follows_results (Split p c d) f h = ap results_of_exit h.4
  follows_results (Call g xs r c) f h = ap results_of_exit h ∙ same_result g c xs r
  follows_results (Return x) f h = ap results_of_exit h
  follows_results (Ends k) f h = ap results_of_exit h

  -- a target of the one, by way of which the other comes to y
  pub record ByWay (place : ℕ → ℕ) (exit : Exit) (y : ℕ) : Type 0 where
    pub target : ℕ
    pub leads : IsIn target (targets_of exit)
    pub comes : ComesTo blocks y (place target)

  one_way : (place : ℕ → ℕ) (exit : Exit) (c y : ℕ) → IsIn c (targets_of exit) → IsIn y (place c ∷ []) → ByWay place exit y
  one_way place exit c y m (inl e) = record { target = c; leads = m; comes = inl e }
  one_way place exit c y m (inr z) = absurd z

  two_ways : (place : ℕ → ℕ) (p c d y z w : ℕ) → ComesTo blocks y (place c) → ComesTo blocks z (place d) → IsIn w (y ∷ z ∷ []) → ByWay place (Split p c d) w
  two_ways place p c d y z w k l (inl e) = record { target = c; leads = inl refl; comes = subst (λ i. ComesTo blocks i (place c)) (sym e) k }
  two_ways place p c d y z w k l (inr (inl e)) = record { target = d; leads = inr (inl refl); comes = subst (λ i. ComesTo blocks i (place d)) (sym e) l }
  two_ways place p c d y z w k l (inr (inr i)) = absurd i

  follows_back : (e f : Exit) (y : ℕ) → Follows blocks at e f → IsIn y (targets_of f) → ByWay at e y
  follows_back (Goto c) f y h m = one_way at (Goto c) c y (inl refl) (subst (λ x. IsIn y (targets_of x)) h m)
  follows_back (Split p c d) f y h m = two_ways at p c d h.0 h.1 y h.2 h.3 (subst (λ x. IsIn y (targets_of x)) h.4 m)
  follows_back (Call g xs r c) f y h m = one_way at (Call g xs r c) c y (inl refl) (subst (λ x. IsIn y (targets_of x)) h m)
  follows_back (Return x) f y h m = absurd (subst (λ x. IsIn y (targets_of x)) h m)
  follows_back (Ends k) f y h m = absurd (subst (λ x. IsIn y (targets_of x)) h m)

  -- a target of the new exit, which comes to where one of the old exit stands
  pub record Onward (place : ℕ → ℕ) (f : Exit) (c : ℕ) : Type 0 where
    pub target : ℕ
    pub leads : IsIn target (targets_of f)
    pub comes : ComesTo blocks target (place c)

  one_onward : (place : ℕ → ℕ) (f : Exit) (b c y : ℕ) → IsIn y (targets_of f) → y ≡ place b → IsIn c (b ∷ []) → Onward place f c
  one_onward place f b c y m h (inl e) = record { target = y; leads = m; comes = inl (h ∙ ap place (sym e)) }
  one_onward place f b c y m h (inr z) = absurd z

  two_onward : (place : ℕ → ℕ) (f : Exit) (p a b c y z : ℕ) → f ≡ Split p y z → ComesTo blocks y (place a) → ComesTo blocks z (place b) → IsIn c (a ∷ b ∷ []) → Onward place f c
  two_onward place f p a b c y z h k l (inl e) = record { target = y; leads = subst (λ x. IsIn y (targets_of x)) (sym h) (inl refl); comes = subst (λ i. ComesTo blocks y (place i)) (sym e) k }
  two_onward place f p a b c y z h k l (inr (inl e)) = record { target = z; leads = subst (λ x. IsIn z (targets_of x)) (sym h) (inr (inl refl)); comes = subst (λ i. ComesTo blocks z (place i)) (sym e) l }
  two_onward place f p a b c y z h k l (inr (inr i)) = absurd i

  follows_on : (e f : Exit) (c : ℕ) → Follows blocks at e f → IsIn c (targets_of e) → Onward at f c
  follows_on (Goto b) f c h m = one_onward at f b c (at b) (subst (λ x. IsIn (at b) (targets_of x)) (sym h) (inl refl)) refl m
  follows_on (Split p a b) f c h m = two_onward at f p a b c h.0 h.1 h.4 h.2 h.3 m
  follows_on (Call g xs r b) f c h m = one_onward at f b c (at b) (subst (λ x. IsIn (at b) (targets_of x)) (sym h) (inl refl)) refl m
  follows_on (Return x) f c h m = absurd m
  follows_on (Ends k) f c h m = absurd m

module _ (g : Graph) (blocks : List Block) (copy to : ℕ → ℕ) (result : Option ℕ) (back : ℕ) where
  copies_read : (exit : Exit) (more : List Op) (e : Exit) (v : ℕ) → HasExit g exit → Copies blocks copy to result back exit more e → ReadsFirst more e v → ReadAs g to [] exit v
  copies_read (Goto c) more e v at h r = absurd (subst (λ x. IsIn v (reads_of_exit x)) h.1 (subst (λ ops. ReadsFirst ops e v) h.0 r))
  copies_read (Split p c d) more e v at h r = by (subst (λ x. IsIn v (reads_of_exit x)) h.5 (subst (λ ops. ReadsFirst ops e v) h.2 r))
    where
      by : IsIn v (to p ∷ []) → ReadAs g to [] (Split p c d) v
      by (inl i) = record { value = p; is = i; named = exit_reads_named g (Split p c d) p at (inl refl); reads = inl refl }
      by (inr z) = absurd z
  copies_read (Call f xs w c) more e v at h r = absurd h
  copies_read (Return x) more e v at h r =
      let k = out_read to result x back v (subst (λ f. ReadsFirst (moves_out result (with_value_in to x)) f v) h.1 (subst (λ ops. ReadsFirst ops e v) h.0 r)) in
      record { value = k.0; is = k.2; named = exit_reads_named g (Return x) k.0 at k.1; reads = k.1 }
  copies_read (Ends k) more e v at h r = absurd (subst (λ x. IsIn v (reads_of_exit x)) h.1 (subst (λ ops. ReadsFirst ops e v) h.0 r))

  -- the copy goes back to the caller
  pub record GoesBack (more : List Op) (e : Exit) (y : ℕ) : Type 0 where
    pub operand : Operand
    pub moves : more ≡ moves_out result operand
    pub goes : e ≡ Goto back
    pub there : y ≡ back

  copies_back : (exit : Exit) (more : List Op) (e : Exit) (y : ℕ) → Copies blocks copy to result back exit more e → IsIn y (targets_of e) → ByWay blocks copy copy exit y ⊎ GoesBack more e y
  copies_back (Goto c) more e y h m = inl (one_way blocks copy copy (Goto c) c y (inl refl) (subst (λ x. IsIn y (targets_of x)) h.1 m))
  copies_back (Split p c d) more e y h m = inl (two_ways blocks copy copy p c d h.0 h.1 y h.3 h.4 (subst (λ x. IsIn y (targets_of x)) h.5 m))
  copies_back (Call f xs w c) more e y h m = absurd h
  copies_back (Return x) more e y h m = by (subst (λ x. IsIn y (targets_of x)) h.1 m)
    where
      by : IsIn y (back ∷ []) → ByWay blocks copy copy (Return x) y ⊎ GoesBack more e y
      by (inl i) = inr (record { operand = with_value_in to x; moves = h.0; goes = h.1; there = i })
      by (inr z) = absurd z
  copies_back (Ends k) more e y h m = absurd (subst (λ x. IsIn y (targets_of x)) h.1 m)

  copies_on : (exit : Exit) (more : List Op) (e : Exit) (c : ℕ) → Copies blocks copy to result back exit more e → IsIn c (targets_of exit) → Onward blocks copy copy e c
  copies_on (Goto b) more e c h m = one_onward blocks copy copy e b c (copy b) (subst (λ x. IsIn (copy b) (targets_of x)) (sym h.1) (inl refl)) refl m
  copies_on (Split p a b) more e c h m = two_onward blocks copy copy e (to p) a b c h.0 h.1 h.5 h.3 h.4 m
  copies_on (Call f xs w b) more e c h m = absurd h
  copies_on (Return x) more e c h m = absurd m
  copies_on (Ends k) more e c h m = absurd m

  -- no result but that of the call is written on the way
  copies_never : (exit : Exit) (more : List Op) (e : Exit) (v : ℕ) → Copies blocks copy to result back exit more e → (result ≡ Some v → ⊥) → NeverWrites more e v
  copies_never (Goto c) more e v h n = subst (λ ops. NeverWrites ops e v) (sym h.0) (subst (λ x. IsIn v (results_of_exit x) → ⊥) (sym h.1) (λ m. m))
  copies_never (Split p c d) more e v h n = subst (λ ops. NeverWrites ops e v) (sym h.2) (subst (λ x. IsIn v (results_of_exit x) → ⊥) (sym h.5) (λ m. m))
  copies_never (Call f xs w c) more e v h n = absurd h
  copies_never (Return x) more e v h n = subst (λ ops. NeverWrites ops e v) (sym h.0) (subst (λ f. NeverWrites (moves_out result (with_value_in to x)) f v) (sym h.1) (never_out result (with_value_in to x) back v n))
  copies_never (Ends k) more e v h n = subst (λ ops. NeverWrites ops e v) (sym h.0) (subst (λ x. IsIn v (results_of_exit x) → ⊥) (sym h.1) (λ m. m))

-- ---- the graph with the call inlined

call_never : (ops : List Op) (f : ℕ) (xs : List Operand) (result : Option ℕ) (next v : ℕ) → NeverWrites ops (Call f xs result next) v → result ≡ Some v → ⊥
call_never ops f xs None next v h e = absurd (cc)
call_never ops f xs (Some w) next v h e = let q : w ≡ v = cc in never_result ops (Call f xs (Some w) next) v h (inl (sym q))

never_call : (f : ℕ) (xs : List Operand) (result : Option ℕ) (next v : ℕ) → (result ≡ Some v → ⊥) → IsIn v (results_of_exit (Call f xs result next)) → ⊥
never_call f xs None next v n m = m
never_call f xs (Some w) next v n (inl e) = n (ap Some (sym e))
never_call f xs (Some w) next v n (inr z) = z

module _ (flow : Flow) (site : Site) (c : CallAt flow site) (free : Bank → List ℕ) (permitted : IsPermitted flow site c free) (sound : SoundFlow flow) where
  abbrev A : List Block
  A = c.parts.caller.blocks

  abbrev B : List Block
  B = c.parts.callee.blocks

  abbrev m : ℕ
  m = all_plain c.parts

  abbrev to : ℕ → ℕ
  to = taken c.parts.callee free

  abbrev S : List Block
  S = joined c.parts site.block free

  abbrev es : List Edge
  es = critical S 0 S

  abbrev F : List Block
  F = inlined_blocks c.parts site.block free

  abbrev G : Graph
  G = record c.parts.caller { blocks = F }

  abbrev at : ℕ → ℕ
  at b = behind m (length es) (caller_at c.parts b)

  abbrev copy : ℕ → ℕ
  copy b = behind m (length es) (callee_at c.parts b)

  abbrev moves : List Op
  moves = moves_in to c.parts.callee.parameters c.parts.arguments

  stays : (b : ℕ) (block : Block) → (b ≡ site.block → ⊥) → slice_get A b ≡ Some block → Stays F at block (at b)
  stays = the_stays flow site c free permitted sound

  enters : Enters F (c.parts.block.ops ++ moves) (copy 0) (at site.block)
  enters = the_enters flow site c free permitted sound

  stands : (d : ℕ) (block : Block) → slice_get B d ≡ Some block → Stands F copy to c.parts.result (at c.parts.next) block (copy d)
  stands = the_stands flow site c free permitted sound

  caller_target : (b d : ℕ) (x : Block) → slice_get A b ≡ Some x → IsIn d (targets_of x.exit) → (z : Block) × (slice_get A d ≡ Some z)
  caller_target = the_caller_target flow site c free permitted sound

  callee_target : (b d : ℕ) (x : Block) → slice_get B b ≡ Some x → IsIn d (targets_of x.exit) → (z : Block) × (slice_get B d ≡ Some z)
  callee_target = the_callee_target flow site c free permitted sound

  next_there : IsIn c.parts.next (targets_of c.parts.block.exit)
  next_there = the_next_there flow site c free permitted sound

  free_value : (u : ℕ) → IsIn u (names c.parts.callee) → IsFree c.parts (to u)
  free_value = is_free flow site c free permitted (sound.graphs c.parts.callee (get_in flow.functions c.parts.called c.parts.callee c.is_callee))

  call_here : HasExit c.parts.caller (Call c.parts.called c.parts.arguments c.parts.result c.parts.next)
  call_here = record { block = c.parts.block; has = get_in A site.block c.parts.block c.is_block; ends = sym c.ends }

  parameters_many : length c.parts.callee.parameters ≡ length c.parts.arguments
  parameters_many =
      let k : Callable flow c.parts.called (length c.parts.arguments) =
      sound.calls c.parts.caller c.parts.called c.parts.next c.parts.arguments c.parts.result (get_in flow.functions site.function c.parts.caller c.is_caller) call_here in
      let same : Option.Some k.graph ≡ Some c.parts.callee = sym k.is ∙ c.is_callee in
      let is : k.graph ≡ c.parts.callee = cc in
      ap (λ (g : Graph). length g.parameters) (sym is) ∙ k.parameters

  parameter_named : (q : ℕ) → IsIn q c.parts.callee.parameters → IsIn q (names c.parts.callee)
  parameter_named q k = in_left q c.parts.callee.parameters _ k

  ops_there : (d : ℕ) (block : Block) → slice_get B d ≡ Some block → (op : Op) → IsIn op block.ops → HasOperation c.parts.callee op
  ops_there d block e op k = record { block = block; has = get_in B d block e; stands = k }

  exit_there : (d : ℕ) (block : Block) → slice_get B d ≡ Some block → HasExit c.parts.callee block.exit
  exit_there d block e = record { block = block; has = get_in B d block e; ends = refl }

  -- the callee writes no result of a call
  no_result : (exit : Exit) (u : ℕ) → HasExit c.parts.callee exit → IsIn u (results_of_exit exit) → ⊥
  no_result (Goto d) u h k = k
  no_result (Split p d f) u h k = k
  no_result (Call f xs None d) u h k = k
  no_result (Call f xs (Some w) d) u h k = permitted.calls_none f d xs (Some w) h
  no_result (Return x) u h k = k
  no_result (Ends t) u h k = k

  -- ---- from the new graph to the old ones

  -- a place of the new graph stands for a block of the caller, or for one of the callee
  data Where (x : ℕ) : Type 0 where
    of_caller : (b : ℕ) (block : Block) → slice_get A b ≡ Some block → ComesTo F x (at b) → Where x
    of_callee : (d : ℕ) (block : Block) → slice_get B d ≡ Some block → ComesTo F x (copy d) → Where x

  record LiveThere (d v : ℕ) : Type 0 where
    value : ℕ
    is : v ≡ to value
    named : IsIn value (names c.parts.callee)
    live : IsLive c.parts.callee d value

  -- what is live at a copy is live behind the call, or taken by what is live at the block of the callee
  abbrev Found : {x : ℕ} → Where x → ℕ → Type 0
  Found (of_caller b block e k) v = IsLive c.parts.caller b v
  Found (of_callee d block e k) v = (IsLive c.parts.caller c.parts.next v × (c.parts.result ≡ Some v → ⊥)) ⊎ LiveThere d v

  not_goto : (x c v : ℕ) (into : Block) → slice_get F x ≡ Some into → slice_get F x ≡ Some (record { ops = []; exit = Goto c }) → ReadsFirst into.ops into.exit v → ⊥
  not_goto x c v into e h r =
      let is : into ≡ record { ops = []; exit = Goto c } = block_is into (record { ops = []; exit = Goto c }) (sym e ∙ h) in
      subst (λ (z : Block). ReadsFirst z.ops z.exit v) is r

  read_caller : (b v : ℕ) (block : Block) → slice_get A b ≡ Some block → (into : Block) → slice_get F (at b) ≡ Some into → ReadsFirst into.ops into.exit v → ReadsFirst block.ops block.exit v
  read_caller b v block e into h r = by (b == site.block) refl
    where
      by : (t : Bool) → (b == site.block) ≡ t → ReadsFirst block.ops block.exit v
      by true q =
          let n : b ≡ site.block = eqb-true b site.block q in
          let is : c.parts.block ≡ block = block_is c.parts.block block (sym c.is_block ∙ ap (slice_get A) (sym n) ∙ e) in
          let new : into ≡ enters.into = block_is into enters.into (sym h ∙ ap (λ i. slice_get F (at i)) n ∙ enters.is) in
          let r1 : ReadsFirst enters.into.ops enters.into.exit v = subst (λ (z : Block). ReadsFirst z.ops z.exit v) new r in
          let r2 : ReadsFirst (c.parts.block.ops ++ moves) enters.into.exit v = subst (λ ops. ReadsFirst ops enters.into.exit v) enters.does r1 in
          let r3 : ReadsFirst (c.parts.block.ops ++ moves) (Goto (copy 0)) v = subst (λ x. ReadsFirst (c.parts.block.ops ++ moves) x v) enters.leads r2 in
          let r4 : ReadsFirst c.parts.block.ops (Call c.parts.called c.parts.arguments c.parts.result c.parts.next) v =
          reads_front c.parts.block.ops moves (Goto (copy 0)) (Call c.parts.called c.parts.arguments c.parts.result c.parts.next) v (moves_read to c.parts.callee.parameters c.parts.arguments (copy 0) v) r3 in
          subst (λ (z : Block). ReadsFirst z.ops z.exit v) is (subst (λ x. ReadsFirst c.parts.block.ops x v) (sym c.ends) r4)
      by false q =
          let s : Stays F at block (at b) = stays b block (λ i. false≢true (sym q ∙ eq-eqb b site.block i)) e in
          let new : into ≡ s.into = block_is into s.into (sym h ∙ s.is) in
          let r1 : ReadsFirst s.into.ops s.into.exit v = subst (λ (z : Block). ReadsFirst z.ops z.exit v) new r in
          let r2 : ReadsFirst block.ops s.into.exit v = subst (λ ops. ReadsFirst ops s.into.exit v) s.ops r1 in
          reads_with block.ops s.into.exit block.exit v (λ k. subst (λ l. IsIn v l) (follows_reads F at block.exit s.into.exit s.follows) k) r2

  read_callee : (d v : ℕ) (block : Block) → slice_get B d ≡ Some block → (into : Block) → slice_get F (copy d) ≡ Some into → ReadsFirst into.ops into.exit v → LiveThere d v
  read_callee d v block e into h r =
      let s : Stands F copy to c.parts.result (at c.parts.next) block (copy d) = stands d block e in
      let new : into ≡ s.into = block_is into s.into (sym h ∙ s.is) in
      let r1 : ReadsFirst s.into.ops s.into.exit v = subst (λ (z : Block). ReadsFirst z.ops z.exit v) new r in
      let r2 : ReadsFirst (map (with_values to) block.ops ++ s.more) s.into.exit v = subst (λ ops. ReadsFirst ops s.into.exit v) s.ops r1 in
      let k : ReadAs c.parts.callee to block.ops block.exit v =
      reads_copied c.parts.callee to block.ops s.more s.into.exit block.exit v (ops_there d block e)
      (copies_read c.parts.callee F copy to c.parts.result (at c.parts.next) block.exit s.more s.into.exit v (exit_there d block e) s.copies) r2 in
      record { value = k.value; is = k.is; named = k.named; live = IsLive.here e k.reads }

  stop : (x v : ℕ) (into : Block) → slice_get F x ≡ Some into → ReadsFirst into.ops into.exit v → (w : Where x) → Found w v
  stop x v into h r (of_caller b block e (inl i)) = IsLive.here e (read_caller b v block e into (ap (slice_get F) (sym i) ∙ h) r)
  stop x v into h r (of_caller b block e (inr g)) = absurd (not_goto x (at b) v into h g r)
  stop x v into h r (of_callee d block e (inl i)) = inr (read_callee d v block e into (ap (slice_get F) (sym i) ∙ h) r)
  stop x v into h r (of_callee d block e (inr g)) = absurd (not_goto x (copy d) v into h g r)

  goto_target : (x c y : ℕ) (into : Block) → slice_get F x ≡ Some into → slice_get F x ≡ Some (record { ops = []; exit = Goto c }) → IsIn y (targets_of into.exit) → y ≡ c
  goto_target x c y into e h k =
      let is : into ≡ record { ops = []; exit = Goto c } = block_is into (record { ops = []; exit = Goto c }) (sym e ∙ h) in
      one (subst (λ (z : Block). IsIn y (targets_of z.exit)) is k)
    where
      one : IsIn y (c ∷ []) → y ≡ c
      one (inl i) = i
      one (inr z) = absurd z

  module _ (passes : Passes c.parts.callee) where
    on_caller : (b v y : ℕ) (block : Block) → slice_get A b ≡ Some block → (into : Block) → slice_get F (at b) ≡ Some into → NeverWrites into.ops into.exit v → IsIn y (targets_of into.exit) → ((w : Where y) → Found w v) → IsLive c.parts.caller b v
    on_caller b v y block e into h n k rec = by (b == site.block) refl
      where
        in_callee : c.parts.block ≡ block → NeverWrites (c.parts.block.ops ++ moves) (Goto (copy 0)) v → (IsLive c.parts.caller c.parts.next v × (c.parts.result ≡ Some v → ⊥)) ⊎ LiveThere 0 v → IsLive c.parts.caller b v
        in_callee is n1 (inl r) =
            let n2 : NeverWrites c.parts.block.ops (Call c.parts.called c.parts.arguments c.parts.result c.parts.next) v =
            never_front c.parts.block.ops moves (Goto (copy 0)) (Call c.parts.called c.parts.arguments c.parts.result c.parts.next) v (never_call c.parts.called c.parts.arguments c.parts.result c.parts.next v r.1) n1 in
            let n3 : NeverWrites c.parts.block.ops c.parts.block.exit v = subst (λ x. NeverWrites c.parts.block.ops x v) (sym c.ends) n2 in
            IsLive.beyond e (subst (λ (z : Block). NeverWrites z.ops z.exit v) is n3) (subst (λ (z : Block). IsIn c.parts.next (targets_of z.exit)) is next_there) r.0
        in_callee is n1 (inr r) =
            let parameter : IsIn r.value c.parts.callee.parameters = passes.closed r.value r.live in
            let rest : NeverWrites moves (Goto (copy 0)) v = never_rest c.parts.block.ops moves (Goto (copy 0)) v n1 in
            absurd (moves_write to c.parts.callee.parameters c.parts.arguments (copy 0) r.value parameters_many parameter (subst (λ z. NeverWrites moves (Goto (copy 0)) z) r.is rest))

        one : (z : ℕ) → IsIn y (z ∷ []) → y ≡ z
        one z (inl i) = i
        one z (inr i) = absurd i

        by : (t : Bool) → (b == site.block) ≡ t → IsLive c.parts.caller b v
        by true q =
            let i : b ≡ site.block = eqb-true b site.block q in
            let is : c.parts.block ≡ block = block_is c.parts.block block (sym c.is_block ∙ ap (slice_get A) (sym i) ∙ e) in
            let new : into ≡ enters.into = block_is into enters.into (sym h ∙ ap (λ j. slice_get F (at j)) i ∙ enters.is) in
            let n1 : NeverWrites enters.into.ops enters.into.exit v = subst (λ (z : Block). NeverWrites z.ops z.exit v) new n in
            let n2 : NeverWrites (c.parts.block.ops ++ moves) enters.into.exit v = subst (λ ops. NeverWrites ops enters.into.exit v) enters.does n1 in
            let n3 : NeverWrites (c.parts.block.ops ++ moves) (Goto (copy 0)) v = subst (λ x. NeverWrites (c.parts.block.ops ++ moves) x v) enters.leads n2 in
            let k1 : IsIn y (targets_of (Goto (copy 0))) = subst (λ x. IsIn y (targets_of x)) enters.leads (subst (λ (z : Block). IsIn y (targets_of z.exit)) new k) in
            let first = the_callee_first flow site c free permitted sound in
            in_callee is n3 (rec (of_callee 0 first.0 first.1 (inl (one (copy 0) k1))))
        by false q =
            let s : Stays F at block (at b) = stays b block (λ i. false≢true (sym q ∙ eq-eqb b site.block i)) e in
            let new : into ≡ s.into = block_is into s.into (sym h ∙ s.is) in
            let n1 : NeverWrites s.into.ops s.into.exit v = subst (λ (z : Block). NeverWrites z.ops z.exit v) new n in
            let n2 : NeverWrites block.ops s.into.exit v = subst (λ ops. NeverWrites ops s.into.exit v) s.ops n1 in
            let n3 : NeverWrites block.ops block.exit v = never_with block.ops s.into.exit block.exit v (λ k. subst (λ l. IsIn v l) (sym (follows_results F at block.exit s.into.exit s.follows)) k) n2 in
            let w : ByWay F at at block.exit y = follows_back F at block.exit s.into.exit y s.follows (subst (λ (z : Block). IsIn y (targets_of z.exit)) new k) in
            let t = caller_target b w.target block e w.leads in
            IsLive.beyond e n3 w.leads (rec (of_caller w.target t.0 t.1 w.comes))

    on_callee : (d v y : ℕ) (block : Block) → slice_get B d ≡ Some block → (into : Block) → slice_get F (copy d) ≡ Some into → NeverWrites into.ops into.exit v → IsIn y (targets_of into.exit) → ((w : Where y) → Found w v) →
        (IsLive c.parts.caller c.parts.next v × (c.parts.result ≡ Some v → ⊥)) ⊎ LiveThere d v
    on_callee d v y block e into h n k rec =
        let s : Stands F copy to c.parts.result (at c.parts.next) block (copy d) = stands d block e in
        let new : into ≡ s.into = block_is into s.into (sym h ∙ s.is) in
        let n1 : NeverWrites s.into.ops s.into.exit v = subst (λ (z : Block). NeverWrites z.ops z.exit v) new n in
        let n2 : NeverWrites (map (with_values to) block.ops ++ s.more) s.into.exit v = subst (λ ops. NeverWrites ops s.into.exit v) s.ops n1 in
        by s.more s.into.exit n2 (copies_back c.parts.callee F copy to c.parts.result (at c.parts.next) block.exit s.more s.into.exit y s.copies (subst (λ (z : Block). IsIn y (targets_of z.exit)) new k))
      where
        further : (more : List Op) (f : Exit) → NeverWrites (map (with_values to) block.ops ++ more) f v → (t : ℕ) → IsIn t (targets_of block.exit) → (IsLive c.parts.caller c.parts.next v × (c.parts.result ≡ Some v → ⊥)) ⊎ LiveThere t v →
            (IsLive c.parts.caller c.parts.next v × (c.parts.result ≡ Some v → ⊥)) ⊎ LiveThere d v
        further more f n2 t l (inl r) = inl r
        further more f n2 t l (inr r) =
            let n3 : NeverWrites block.ops block.exit r.value = never_copied c.parts.callee to block.ops more f block.exit v r.value r.is (no_result block.exit r.value (exit_there d block e)) n2 in
            inr (record { value = r.value; is = r.is; named = r.named; live = IsLive.beyond e n3 l r.live })

        by : (more : List Op) (f : Exit) → NeverWrites (map (with_values to) block.ops ++ more) f v → ByWay F copy copy block.exit y ⊎ GoesBack c.parts.callee F copy to c.parts.result (at c.parts.next) more f y →
            (IsLive c.parts.caller c.parts.next v × (c.parts.result ≡ Some v → ⊥)) ⊎ LiveThere d v
        by more f n2 (inl w) = let t = callee_target d w.target block e w.leads in further more f n2 w.target w.leads (rec (of_callee w.target t.0 t.1 w.comes))
        by more f n2 (inr g) =
            let t = caller_target site.block c.parts.next c.parts.block c.is_block next_there in
            let n3 : NeverWrites more f v = never_rest (map (with_values to) block.ops) more f v n2 in
            let n4 : NeverWrites (moves_out c.parts.result g.operand) f v = subst (λ ops. NeverWrites ops f v) g.moves n3 in
            let n5 : NeverWrites (moves_out c.parts.result g.operand) (Goto (at c.parts.next)) v = subst (λ x. NeverWrites (moves_out c.parts.result g.operand) x v) g.goes n4 in
            inl (rec (of_caller c.parts.next t.0 t.1 (inl g.there)), out_never c.parts.result g.operand (at c.parts.next) v n5)

    onward : (x v : ℕ) (into : Block) → slice_get F x ≡ Some into → NeverWrites into.ops into.exit v → (y : ℕ) → IsIn y (targets_of into.exit) → ((w : Where y) → Found w v) → (w : Where x) → Found w v
    onward x v into h n y k rec (of_caller b block e (inl i)) = on_caller b v y block e into (ap (slice_get F) (sym i) ∙ h) n k rec
    onward x v into h n y k rec (of_caller b block e (inr g)) = rec (of_caller b block e (inl (goto_target x (at b) y into h g k)))
    onward x v into h n y k rec (of_callee d block e (inl i)) = on_callee d v y block e into (ap (slice_get F) (sym i) ∙ h) n k rec
    onward x v into h n y k rec (of_callee d block e (inr g)) = rec (of_callee d block e (inl (goto_target x (copy d) y into h g k)))

    back : (x v : ℕ) → IsLive G x v → (w : Where x) → Found w v
    back x v (IsLive.here {block = into} h r) w = stop x v into h r w
    back x v (IsLive.beyond {c = y} {block = into} h n k l) w = onward x v into h n y k (back y v l) w

    -- ---- from the caller to the new graph

    by_edge : (y b v : ℕ) → ComesTo F y b → IsLive G b v → IsLive G y v
    by_edge y b v (inl e) l = subst (λ z. IsLive G z v) (sym e) l
    by_edge y b v (inr e) l = IsLive.beyond e (λ m. m) (inl refl) l

    through : (d v : ℕ) → Returns c.parts.callee d → IsLive G (at c.parts.next) v → ((u : ℕ) → IsIn u (names c.parts.callee) → v ≡ to u → ⊥) → (c.parts.result ≡ Some v → ⊥) → IsLive G (copy d) v
    through d v (Returns.here {block = block} {x = x} e r) l n k =
        let s : Stands F copy to c.parts.result (at c.parts.next) block (copy d) = stands d block e in
        let cs : Copies F copy to c.parts.result (at c.parts.next) (Return x) s.more s.into.exit = subst (λ f. Copies F copy to c.parts.result (at c.parts.next) f s.more s.into.exit) r s.copies in
        let n1 : NeverWrites (map (with_values to) block.ops ++ s.more) s.into.exit v =
        never_taken c.parts.callee to block.ops s.more s.into.exit v (ops_there d block e) n (copies_never c.parts.callee F copy to c.parts.result (at c.parts.next) (Return x) s.more s.into.exit v cs k) in
        IsLive.beyond s.is (subst (λ ops. NeverWrites ops s.into.exit v) (sym s.ops) n1) (subst (λ f. IsIn (at c.parts.next) (targets_of f)) (sym cs.1) (inl refl)) l
    through d v (Returns.beyond {c = t} {block = block} e i r) l n k =
        let s : Stands F copy to c.parts.result (at c.parts.next) block (copy d) = stands d block e in
        let n1 : NeverWrites (map (with_values to) block.ops ++ s.more) s.into.exit v =
        never_taken c.parts.callee to block.ops s.more s.into.exit v (ops_there d block e) n (copies_never c.parts.callee F copy to c.parts.result (at c.parts.next) block.exit s.more s.into.exit v s.copies k) in
        let w : Onward F copy copy s.into.exit t = copies_on c.parts.callee F copy to c.parts.result (at c.parts.next) block.exit s.more s.into.exit t s.copies i in
        IsLive.beyond s.is (subst (λ ops. NeverWrites ops s.into.exit v) (sym s.ops) n1) w.leads (by_edge w.target (copy t) v w.comes (through t v r l n k))

    stop_on : (b v : ℕ) (block : Block) → slice_get A b ≡ Some block → ReadsFirst block.ops block.exit v → IsLive G (at b) v
    stop_on b v block e r = by (b == site.block) refl
      where
        by : (t : Bool) → (b == site.block) ≡ t → IsLive G (at b) v
        by true q =
            let i : b ≡ site.block = eqb-true b site.block q in
            let is : block ≡ c.parts.block = block_is block c.parts.block (sym e ∙ ap (slice_get A) i ∙ c.is_block) in
            let r1 : ReadsFirst c.parts.block.ops c.parts.block.exit v = subst (λ (z : Block). ReadsFirst z.ops z.exit v) is r in
            let r2 : ReadsFirst c.parts.block.ops (Call c.parts.called c.parts.arguments c.parts.result c.parts.next) v = subst (λ x. ReadsFirst c.parts.block.ops x v) c.ends r1 in
            let r3 : ReadsFirst (c.parts.block.ops ++ moves) (Goto (copy 0)) v =
            reads_longer c.parts.block.ops moves (Goto (copy 0)) (Call c.parts.called c.parts.arguments c.parts.result c.parts.next) v
            (λ k. read_moves to c.parts.callee.parameters c.parts.arguments (copy 0) v parameters_many (λ u j w. (free_value u (parameter_named u j)).argument (subst (λ z. IsIn z (flat_map value_in c.parts.arguments)) w k)) k) r2 in
            let r4 : ReadsFirst enters.into.ops enters.into.exit v =
            subst (λ ops. ReadsFirst ops enters.into.exit v) (sym enters.does) (subst (λ x. ReadsFirst (c.parts.block.ops ++ moves) x v) (sym enters.leads) r3) in
            subst (λ z. IsLive G (at z) v) (sym i) (IsLive.here enters.is r4)
        by false q =
            let s : Stays F at block (at b) = stays b block (λ i. false≢true (sym q ∙ eq-eqb b site.block i)) e in
            let r1 : ReadsFirst block.ops s.into.exit v = reads_with block.ops block.exit s.into.exit v (λ k. subst (λ l. IsIn v l) (sym (follows_reads F at block.exit s.into.exit s.follows)) k) r in
            IsLive.here s.is (subst (λ ops. ReadsFirst ops s.into.exit v) (sym s.ops) r1)

    step_on : (b d v : ℕ) (block : Block) → slice_get A b ≡ Some block → NeverWrites block.ops block.exit v → IsIn d (targets_of block.exit) → IsLive c.parts.caller d v → IsLive G (at d) v → IsLive G (at b) v
    step_on b d v block e n k old l = by (b == site.block) refl
      where
        one : (z : ℕ) → IsIn d (z ∷ []) → d ≡ z
        one z (inl i) = i
        one z (inr i) = absurd i

        by : (t : Bool) → (b == site.block) ≡ t → IsLive G (at b) v
        by true q =
            let i : b ≡ site.block = eqb-true b site.block q in
            let is : block ≡ c.parts.block = block_is block c.parts.block (sym e ∙ ap (slice_get A) i ∙ c.is_block) in
            let n1 : NeverWrites c.parts.block.ops c.parts.block.exit v = subst (λ (z : Block). NeverWrites z.ops z.exit v) is n in
            let n2 : NeverWrites c.parts.block.ops (Call c.parts.called c.parts.arguments c.parts.result c.parts.next) v = subst (λ x. NeverWrites c.parts.block.ops x v) c.ends n1 in
            let result : c.parts.result ≡ Some v → ⊥ = call_never c.parts.block.ops c.parts.called c.parts.arguments c.parts.result c.parts.next v n2 in
            let k1 : IsIn d (targets_of (Call c.parts.called c.parts.arguments c.parts.result c.parts.next)) = subst (λ x. IsIn d (targets_of x)) c.ends (subst (λ (z : Block). IsIn d (targets_of z.exit)) is k) in
            let next : d ≡ c.parts.next = one c.parts.next k1 in
            let untaken : (u : ℕ) → IsIn u (names c.parts.callee) → v ≡ to u → ⊥ = λ u j w. (free_value u j).dead (subst (λ z. IsLive c.parts.caller c.parts.next z) w (subst (λ z. IsLive c.parts.caller z v) next old)) in
            let l1 : IsLive G (copy 0) v = through 0 v passes.returns (subst (λ z. IsLive G (at z) v) next l) untaken result in
            let n3 : NeverWrites (c.parts.block.ops ++ moves) (Goto (copy 0)) v =
            never_longer c.parts.block.ops moves (Goto (copy 0)) (Call c.parts.called c.parts.arguments c.parts.result c.parts.next) v
            (never_moves to c.parts.callee.parameters c.parts.arguments (copy 0) v (λ u j. untaken u (parameter_named u j))) n2 in
            let n4 : NeverWrites enters.into.ops enters.into.exit v =
            subst (λ ops. NeverWrites ops enters.into.exit v) (sym enters.does) (subst (λ x. NeverWrites (c.parts.block.ops ++ moves) x v) (sym enters.leads) n3) in
            subst (λ z. IsLive G (at z) v) (sym i) (IsLive.beyond enters.is n4 (subst (λ x. IsIn (copy 0) (targets_of x)) (sym enters.leads) (inl refl)) l1)
        by false q =
            let s : Stays F at block (at b) = stays b block (λ i. false≢true (sym q ∙ eq-eqb b site.block i)) e in
            let n1 : NeverWrites block.ops s.into.exit v = never_with block.ops block.exit s.into.exit v (λ k. subst (λ l. IsIn v l) (follows_results F at block.exit s.into.exit s.follows) k) n in
            let w : Onward F at at s.into.exit d = follows_on F at block.exit s.into.exit d s.follows k in
            IsLive.beyond s.is (subst (λ ops. NeverWrites ops s.into.exit v) (sym s.ops) n1) w.leads (by_edge w.target (at d) v w.comes l)

    forth : (b v : ℕ) → IsLive c.parts.caller b v → IsLive G (at b) v
    forth b v (IsLive.here {block = block} e r) = stop_on b v block e r
    forth b v (IsLive.beyond {c = d} {block = block} e n k l) = step_on b d v block e n k l (forth d v l)

    pub live_stays : (b v : ℕ) (block : Block) → slice_get c.parts.caller.blocks b ≡ Some block →
        IsLive (record c.parts.caller { blocks = inlined_blocks c.parts site.block free }) (behind (all_plain c.parts) (length (critical (joined c.parts site.block free) 0 (joined c.parts site.block free))) (caller_at c.parts b)) v ↔ IsLive c.parts.caller b v
    live_stays b v block e = ((λ l. back (at b) v l (of_caller b block e (inl refl))), forth b v)
