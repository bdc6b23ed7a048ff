-- A block leaves states that agree on what is live at its start alike.
use Rattle.std.proofs.Common.{◌≡◌, ◌⊎◌, inl, inr, ℕ, ℤ, true, false, cond, List, [], ◌∷◌, map, slice_get, Option, Some, None, refl, sym, ap, subst}
use Rattle.vx_flow.specs.declared.graph.Operand.{Operand}
use Rattle.vx_flow.specs.declared.graph.Op.{Op}
use Rattle.vx_flow.specs.declared.graph.Exit.{Exit}
use Rattle.vx_flow.specs.declared.graph.Exit.TheVariants.{Goto, Split, Call, Return, Ends}
use Rattle.vx_flow.specs.declared.graph.Block.{Block}
use Rattle.vx_flow.specs.declared.graph.Graph.{Graph}
use Rattle.vx_flow.specs.Effects.{Content, State, Setting, IsIn, held, is_one, effect, writes}
use Rattle.vx_flow.specs.Meaning.{Hop, Arrives, Calls, Leaves, known, by_test, calls, leaves, leave, and_then, block_hop, hop_of}
use Rattle.vx_flow.specs.Sound.{targets_of, results_of_exit}
use Rattle.vx_flow.specs.Live.{IsLive, here, beyond, ReadsFirst, NeverWrites}
use Rattle.vx_flow.specs.Agree.{SameWorld, Agree, Alike}
use Rattle.vx_flow.specs.Laws.{HopsLeaveAlike}
use Rattle.vx_flow.proofs.EffectsAlike.{Refined, held_refined, known_refined, Done, effect_alike}

-- v is live before these operations and the exit: they read it first, or leave it and it is live where they lead

pub record LiveBeyond (g : Graph) (ops : List Op) (exit : Exit) (v : ℕ) : Type 0 where
  pub unwritten : NeverWrites ops exit v
  pub target : ℕ
  pub leads : IsIn target (targets_of exit)
  pub live : IsLive g target v

abbrev pub LiveIn : Graph → List Op → Exit → ℕ → Type 0
LiveIn g ops exit v = ReadsFirst ops exit v ⊎ LiveBeyond g ops exit v

live_later : (g : Graph) (op : Op) (ops : List Op) (exit : Exit) (v : ℕ) → LiveIn g ops exit v → (IsIn v (writes op) → ⊥) → LiveIn g (op ∷ ops) exit v
live_later g op ops exit v (inl r) k = inl (inr (k, r))
live_later g op ops exit v (inr b) k = inr (record { unwritten = (k, b.unwritten); target = b.target; leads = b.leads; live = b.live })

live_at : (g : Graph) (b : ℕ) (block : Block) (v : ℕ) → slice_get g.blocks b ≡ Some block → LiveIn g block.ops block.exit v → IsLive g b v
live_at g b block v e (inl r) = here e r
live_at g b block v e (inr l) = beyond e l.unwritten l.leads l.live

pub weaken : (more fewer : ℕ → Type 0) (s t : State) → Agree more s t → ((v : ℕ) → fewer v → more v) → Agree fewer s t
weaken more fewer s t a f = record { world = a.world; values = λ v n l e. a.values v n (f v l) e }

module _ (meets : ℕ → ℕ → Type 0) (meets_itself : (c : ℕ) → meets c c) (g : Graph) where
  -- exits

  test_alike : (x y : Content) (a b a' b' : Hop) → Refined x y → Alike meets (IsLive g) a a' → Alike meets (IsLive g) b b' → Alike meets (IsLive g) (by_test x a b) (by_test y a' b')
  test_alike None y a b a' b' r h k = tt
  test_alike (Some z) y a b a' b' r h k =
      subst (λ q. Alike meets (IsLive g) (by_test (Some z) a b) (by_test q a' b')) (sym (r z refl)) (elim (is_one z) as (λ one. Alike meets (IsLive g) (cond one a b) (cond one a' b')) [ true ↦ h | false ↦ k ])

  edge_alike : (exit : Exit) (b c : ℕ) (s t : State) → Agree (LiveIn g [] exit) s t → IsIn c (targets_of exit) → ((v : ℕ) → IsIn v (results_of_exit exit) → ⊥) → Alike meets (IsLive g) (Arrives b c s) (Arrives b c t)
  edge_alike exit b c s t a m k = (meets_itself c, weaken (LiveIn g [] exit) (IsLive g c) s t a (λ v l. inr (record { unwritten = k v; target = c; leads = m; live = l })))

  no_result : (f : ℕ) (arguments : List Operand) (result : Option ℕ) (next v : ℕ) → (result ≡ Some v → ⊥) → IsIn v (results_of_exit (Call f arguments result next)) → ⊥
  no_result f arguments None next v k m = m
  no_result f arguments (Some r) next v k (inl e) = k (ap Some (sym e))
  no_result f arguments (Some r) next v k (inr z) = z

  call_alike : (f : ℕ) (arguments : List Operand) (result : Option ℕ) (next b : ℕ) (s t : State) (o o' : Option (List ℤ)) → Agree (LiveIn g [] (Call f arguments result next)) s t → ((ns : List ℤ) → o ≡ Some ns → o' ≡ Some ns) →
      Alike meets (IsLive g) (calls f o result b next s) (calls f o' result b next t)
  call_alike f arguments result next b s t None o' a k = tt
  call_alike f arguments result next b s t (Some ns) o' a k =
      subst (λ q. Alike meets (IsLive g) (Calls f ns result b next s) (calls f q result b next t)) (sym (k ns refl)) (
        refl,
        refl,
        refl,
        meets_itself next,
        weaken (LiveIn g [] (Call f arguments result next)) (λ v. IsLive g next v × (result ≡ Some v → ⊥)) s t a
            (λ v l. inr (record { unwritten = no_result f arguments result next v l.1; target = next; leads = inl refl; live = l.0 })),
      )

  leaves_alike : (x y : Content) (s t : State) → SameWorld s t → Refined x y → Alike meets (IsLive g) (leaves x s) (leaves y t)
  leaves_alike None y s t w r = tt
  leaves_alike (Some n) y s t w r = subst (λ q. Alike meets (IsLive g) (Leaves n s) (leaves q t)) (sym (r n refl)) (refl, w)

  exit_alike : (b : ℕ) (exit : Exit) (s t : State) → Agree (LiveIn g [] exit) s t → Alike meets (IsLive g) (leave b exit s) (leave b exit t)
  exit_alike b (Goto c) s t a = edge_alike (Goto c) b c s t a (inl refl) (λ v m. m)
  exit_alike b (Split p c d) s t a =
      test_alike (s.values p) (t.values p) (Arrives b c s) (Arrives b d s) (Arrives b c t) (Arrives b d t) (λ n e. a.values p n (inl (inl refl)) e)
      (edge_alike (Split p c d) b c s t a (inl refl) (λ v m. m))
      (edge_alike (Split p c d) b d s t a (inr (inl refl)) (λ v m. m))
  exit_alike b (Call f arguments result next) s t a =
      call_alike f arguments result next b s t (known (map (held s) arguments)) (known (map (held t) arguments)) a (known_refined s t arguments (λ v m n e. a.values v n (inl m) e))
  exit_alike b (Return x) s t a = leaves_alike (held s x) (held t x) s t a.world (held_refined s t x (λ v m n e. a.values v n (inl m) e))
  exit_alike b (Ends k) s t a = (refl, a.world)

  -- operations, and then the exit

  then_alike : (lives : ℕ → Type 0) (o o' : Option State) (f : State → Hop) → ((s' : State) → o ≡ Some s' → Done lives s' o') → ((s' t' : State) → Agree lives s' t' → Alike meets (IsLive g) (f s') (f t')) → Alike meets (IsLive g) (and_then o f) (and_then o' f)
  then_alike lives None o' f d k = tt
  then_alike lives (Some s') o' f d k = let done = d s' refl in subst (λ q. Alike meets (IsLive g) (f s') (and_then q f)) (sym done.is) (k s' done.state done.agree)

  block_alike : (setting : Setting) (b : ℕ) (ops : List Op) (exit : Exit) (s t : State) → Agree (LiveIn g ops exit) s t → Alike meets (IsLive g) (block_hop setting b ops exit s) (block_hop setting b ops exit t)
  block_alike setting b [] exit s t a = exit_alike b exit s t a
  block_alike setting b (op ∷ ops) exit s t a =
      then_alike (LiveIn g ops exit) (effect setting s op s) (effect setting t op t) (block_hop setting b ops exit)
      (λ s' e. effect_alike (LiveIn g ops exit) setting op s t s t s' a.world a.world (λ v m n f. a.values v n (inl (inl m)) f) (λ v l k n f. a.values v n (live_later g op ops exit v l k) f) e)
      (λ s' t' more. block_alike setting b ops exit s' t' more)

  hop_alike : (setting : Setting) (b : ℕ) (o : Option Block) (s t : State) → slice_get g.blocks b ≡ o → Agree (IsLive g b) s t → Alike meets (IsLive g) (hop_of setting b o s) (hop_of setting b o t)
  hop_alike setting b None s t e a = tt
  hop_alike setting b (Some block) s t e a = block_alike setting b block.ops block.exit s t (weaken (IsLive g b) (LiveIn g block.ops block.exit) s t a (λ v l. live_at g b block v e l))

pub hops_leave_alike : HopsLeaveAlike
hops_leave_alike g setting b s t a = hop_alike (λ c d. c ≡ d) (λ c. refl) g setting b (slice_get g.blocks b) s t refl a
