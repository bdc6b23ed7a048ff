-- Words of calls, returns and entries that begin with nothing in flight meet nothing in flight.
use Rattle.std.proofs.Common.{◌≡◌, ◌≢◌, ◌≤◌, ⊎_elim, ◌+◌, ◌-◌, ◌==◌, ◌&&◌, ℕ, zero, suc, ℤ, pos, neg_ℤ, Bool, true, false, Option, Some, None, List, [], ◌∷◌, ◌++◌, append_assoc, map, refl, sym, ap, ◌∙◌, subst, arith}
use Rattle.std.specs.Prelude.{if◌then◌else◌, max}
use Rattle.std.proofs.lemmas.Bool.{and_parts, eqb-true}
use Rattle.vx_base.specs.declared.arithmetic.Code.TheVariants.{Add, ToBranch}
use Rattle.vx_base.specs.declared.arithmetic.Compare.TheVariants.{Ltu, Ne}
use Rattle.vx_base.specs.declared.outcome.Trap.{Trap}
use Rattle.vx_base.proofs.Pieces.{raised, cold}
use Rattle.vx_flow.specs.declared.graph.Operand.{Operand}
use Rattle.vx_flow.specs.declared.graph.Operand.TheVariants.{Held as HeldValue, Number as AsNumber, Stack}
use Rattle.vx_flow.specs.Effects.{IsIn}
use Rattle.vx_flow.specs.Walk.{numbers}
use Rattle.vx_isa.specs.declared.operation.Register.{Register}
use Rattle.vx_isa.specs.declared.operation.Register.TheVariants.{General as InGeneral, Branch as InBranch}
use Rattle.vx_isa.specs.declared.operation.Source.{Source}
use Rattle.vx_isa.specs.declared.operation.Source.TheVariants.{Held, Number}
use Rattle.vx_isa.specs.declared.operation.GeneralRegister.{GeneralRegister}
use Rattle.vx_isa.specs.declared.operation.Operation.{Operation}
use Rattle.vx_isa.specs.declared.operation.Operation.TheVariants.{Compute, Move, Load, Store, Goto, BranchOn, Call, Return, ToLink, EndByTrap, Halt}
use Rattle.vx_isa.specs.declared.program.Word.{Word}
use Rattle.vx_isa.specs.Fits.{destinations, fits}
use Rattle.vx_isa.specs.Operations.{same, latency_of}
use Rattle.vx_target.specs.Target.{Target, answer, general, general_of, branch_of, register_of, stack_on, home, holds_branch, is_slotted, kept, parameters_of, one, together, pause, latest, in_flight, settled, load_slot, on_clusters, move_stack, leave_or_lower, fetch_words, fetched, cluster_of_operand, passes, calls_beside, store_or_call, argument_words, save_words, result_words, call_words, is_caller, answer_words, last_beside, leave_words, return_words, start_words, bytes, first_frame}
use Rattle.vx_tie.proofs.Early.{falls, Jumps, Touches, hits}
use Rattle.vx_target.proofs.Pauses.{flight_append, flight_pause}
use Rattle.vx_tie.proofs.SaveHeats.{tested, saves_late}
use Rattle.vx_tie.proofs.Heats.{lift, lift_most, raised_bound, stays, FineWords, word_fine, wait_fine, stop_fine}

module _ (T : Target) (heat : ℕ → Register → ℕ) where
  abbrev pub Fine : (Register → ℕ) → List Word → (Register → ℕ) → Type 0
  Fine h ws e = FineWords T.machine heat h ws e

  -- a word, and a pause in which its results land
  settle_in : (k : ℕ) (ops : List Operation) (rest : List Word) (e : Register → ℕ) → latest T.machine ops ≤ k + 1 → falls ops ≡ true → ((q : ℕ) → Jumps ops q → ⊥) → Fine cold rest e → Fine cold (record { ops = ops; idle = 0 } ∷ (pause k ++ rest)) e
  settle_in k ops rest e long fall none f =
      let n : ℕ = max 0 (latest T.machine ops) - 1 in
      word_fine T.machine heat 0 cold cold [] ops (pause k ++ rest) e fall (stays 1 cold) (λ q r j. absurd (none q j)) (λ r t. refl)
      (wait_fine T.machine heat n k cold cold (destinations ops ++ []) rest e (omega arith) (stays k cold) f)

  -- and no longer
  pub settle : (ops : List Operation) (rest : List Word) (e : Register → ℕ) → falls ops ≡ true → ((q : ℕ) → Jumps ops q → ⊥) → Fine cold rest e → Fine cold (record { ops = ops; idle = 0 } ∷ (pause (in_flight T.machine 0 (record { ops = ops; idle = 0 } ∷ [])) ++ rest)) e
  settle ops rest e fall none f = settle_in (in_flight T.machine 0 (record { ops = ops; idle = 0 } ∷ [])) ops rest e (omega arith) fall none f

  -- a word without results
  pass : (op : Operation) (rest : List Word) (e : Register → ℕ) → destinations (op ∷ []) ≡ [] → falls (op ∷ []) ≡ true → ((q : ℕ) → Jumps (op ∷ []) q → ⊥) → Fine cold rest e → Fine cold (one op ∷ rest) e
  pass op rest e no_ fall none f = word_fine T.machine heat 0 cold cold [] (op ∷ []) rest e fall (stays 1 cold) (λ q r j. absurd (none q j)) (λ r t. refl) (subst (λ ds. Fine (lift (max 0 (latest T.machine (op ∷ [])) - 1) cold (ds ++ [])) rest e) (sym no_) f)

  -- the branch of a call to its trap
  branch_fine : (t q : ℕ) (y : Bool) (rest : List Word) (e : Register → ℕ) → Fine cold rest e → Fine cold (one (BranchOn t y q) ∷ rest) e
  branch_fine t q y rest e f = word_fine T.machine heat 0 cold cold [] (BranchOn t y q ∷ []) rest e refl (stays 1 cold) (λ p r j. omega arith) (λ r t. refl) f

  pub jump_fine : (q : ℕ) (rest : List Word) (e : Register → ℕ) → Fine cold rest e → Fine cold (one (Goto q) ∷ rest) e
  jump_fine q rest e f = stop_fine T.machine heat cold (Goto q ∷ []) rest e refl (λ p r j. omega arith) refl (λ r t. refl) f

  call_fine : (q : ℕ) (rest : List Word) (e : Register → ℕ) → Fine cold rest e → Fine cold (one (Call q) ∷ rest) e
  call_fine q rest e f = stop_fine T.machine heat cold (Call q ∷ []) rest e refl (λ p r j. omega arith) refl (λ r t. refl) f

  go_back_fine : (rest : List Word) (e : Register → ℕ) → Fine cold rest e → Fine cold (one Return ∷ rest) e
  go_back_fine rest e f = stop_fine T.machine heat cold (Return ∷ []) rest e refl (λ p r j. omega arith) refl (λ r t. refl) f

  pub ends_fine : (k : Trap) (rest : List Word) (e : Register → ℕ) → Fine cold rest e → Fine cold (one (EndByTrap k) ∷ rest) e
  ends_fine k rest e f = stop_fine T.machine heat cold (EndByTrap k ∷ []) rest e refl (λ p r j. absurd j) refl (λ r t. refl) f

  halt_fine : (a : Source) (rest : List Word) (e : Register → ℕ) → Fine cold rest e → Fine cold (one (Halt a) ∷ rest) e
  halt_fine a rest e f = stop_fine T.machine heat cold (Halt a ∷ []) rest e refl (λ p r j. absurd j) refl (λ r t. refl) f

  pub nothing_fine : (e : Register → ℕ) → Fine cold [] e
  nothing_fine e = λ r. omega arith

  pub store_fine : (k : ℕ) (o : ℤ) (r : GeneralRegister) (a : Source) (rest : List Word) (e : Register → ℕ) → Fine cold rest e → Fine cold (one (Store k o r a) ∷ rest) e
  store_fine k o r a rest e f = pass (Store k o r a) rest e refl refl (λ q j. j) f

  -- operands

  fetch_one : (f up v : ℕ) (names : List ℕ) (rest : List Word) (e : Register → ℕ) → Fine cold rest e → Fine cold (load_slot T f up v (general_of T f names v) (branch_of T f names v) ++ (pause (in_flight T.machine 0 (load_slot T f up v (general_of T f names v) (branch_of T f names v))) ++ rest)) e
  fetch_one f up v names rest e more = by (holds_branch T f v)
    where
      Words : Bool → List Word
      Words b =
          if b
          then settled T (one (Load 0 answer (bytes (up + T.slot f v)) (stack_on 0) false) ∷ []) ++ one (Compute 0 (ToBranch Ne) (InBranch (record { cluster = 0; number = branch_of T f names v })) (Held answer) (Number (pos 0))) ∷ []
          else one (Load (home T f v) (general_of T f names v) (bytes (up + T.slot f v)) (stack_on (home T f v)) false) ∷ []

      by : (b : Bool) → Fine cold (Words b ++ (pause (in_flight T.machine 0 (Words b)) ++ rest)) e
      by true =
          let first : Operation = Load 0 answer (bytes (up + T.slot f v)) (stack_on 0) false in
          let test : Operation = Compute 0 (ToBranch Ne) (InBranch (record { cluster = 0; number = branch_of T f names v })) (Held answer) (Number (pos 0)) in
          let n : ℕ = in_flight T.machine 0 (one first ∷ []) in
          let k : ℕ = in_flight T.machine 0 (Words true) in
          let all : k ≡ max (n - n) (latest T.machine (test ∷ [])) - 1 = flight_append T.machine n (pause n) (one test ∷ []) ∙ ap (λ z. max z (latest T.machine (test ∷ [])) - 1) (flight_pause T.machine n n) in
          subst (λ ws. Fine cold (one first ∷ ws) e) (sym (append_assoc (pause n) (one test ∷ []) (pause k ++ rest)))
          (settle (first ∷ []) (one test ∷ (pause k ++ rest)) e refl (λ q j. j) (settle_in k (test ∷ []) rest e (omega arith) refl (λ q j. j) more))
      by false = settle (Load (home T f v) (general_of T f names v) (bytes (up + T.slot f v)) (stack_on (home T f v)) false ∷ []) rest e refl (λ q j. j) more

  pub fetch_fine : (f up : ℕ) (x : Operand) (rest : List Word) (e : Register → ℕ) → Fine cold rest e → Fine cold (fetch_words T f up x ++ rest) e
  fetch_fine f up (HeldValue v) rest e more = by (is_slotted (kept T f v))
    where
      by : (b : Bool) → Fine cold ((if b then settled T (load_slot T f up v (general_of T f (v ∷ []) v) (branch_of T f (v ∷ []) v)) else []) ++ rest) e
      by true =
          let words : List Word = load_slot T f up v (general_of T f (v ∷ []) v) (branch_of T f (v ∷ []) v) in
          subst (λ ws. Fine cold ws e) (sym (append_assoc words (pause (in_flight T.machine 0 words)) rest)) (fetch_one f up v (v ∷ []) rest e more)
      by false = more
  fetch_fine f up (AsNumber n) rest e more = more
  fetch_fine f up Stack rest e more = more

  pub arguments_fine : (f g : ℕ) (vs : List ℕ) (xs : List Operand) (e : Register → ℕ) → Fine cold (argument_words T f g vs xs) e
  arguments_fine f g [] xs e = call_fine (T.entry g) [] e (nothing_fine e)
  arguments_fine f g (v ∷ vs) [] e = call_fine (T.entry g) [] e (nothing_fine e)
  arguments_fine f g (v ∷ vs) (x ∷ xs) e = fetch_fine f T.frame x (store_or_call T g vs (passes T f g v x) (argument_words T f g vs xs)) e (by (calls_beside T g vs (passes T f g v x)) (arguments_fine f g vs xs e))
    where
      by : (b : Bool) → Fine cold (argument_words T f g vs xs) e → Fine cold (if b then record { ops = passes T f g v x ∷ Call (T.entry g) ∷ []; idle = 0 } ∷ [] else one (passes T f g v x) ∷ argument_words T f g vs xs) e
      by true h = stop_fine T.machine heat cold (passes T f g v x ∷ Call (T.entry g) ∷ []) [] e refl (λ p r j. omega arith) refl (λ r t. refl) (nothing_fine e)
      by false h = store_fine (cluster_of_operand T f x) (bytes (T.slot g v)) (stack_on (cluster_of_operand T f x)) (fetched T f x) (argument_words T f g vs xs) e h

  pub result_fine : (f : ℕ) (result : Option ℕ) (rest : List Word) (e : Register → ℕ) → Fine cold rest e → Fine cold (result_words T f result ++ rest) e
  result_fine f None rest e more = more
  result_fine f (Some v) rest e more = by (is_slotted (kept T f v))
    where
      by : (b : Bool) → Fine cold ((if b then one (Store 0 (bytes (T.slot f v)) (stack_on 0) (Held answer)) ∷ [] else settled T (one (Move (home T f v) (general_of T f (v ∷ []) v) (Held answer)) ∷ [])) ++ rest) e
      by true = store_fine 0 (bytes (T.slot f v)) (stack_on 0) (Held answer) rest e more
      by false = settle (Move (home T f v) (general_of T f (v ∷ []) v) (Held answer) ∷ []) rest e refl (λ q j. j) more

  -- the words that move the stack pointers

  spread_falls : (g : ℕ → Operation) → ((k : ℕ) (ops : List Operation) → falls (g k ∷ ops) ≡ falls ops) → (j n : ℕ) → falls (map g (numbers j n)) ≡ true
  spread_falls g h j zero = refl
  spread_falls g h j (suc n) = h j (map g (numbers (j + 1) n)) ∙ spread_falls g h (j + 1) n

  spread_jumps : (g : ℕ → Operation) → ((k q : ℕ) (ops : List Operation) → Jumps (g k ∷ ops) q → Jumps ops q) → (j n q : ℕ) → Jumps (map g (numbers j n)) q → ⊥
  spread_jumps g h j zero q x = x
  spread_jumps g h j (suc n) q x = spread_jumps g h (j + 1) n q (h j q (map g (numbers (j + 1) n)) x)

  pub move_fine : (z : ℤ) (rest : List Word) (e : Register → ℕ) → Fine cold rest e → Fine cold (move_stack T z ++ rest) e
  move_fine z rest e more =
      let g : ℕ → Operation = λ k. Compute k Add (InGeneral (stack_on k)) (Held (stack_on k)) (Number z) in
      settle (on_clusters T.machine.clusters g) rest e (spread_falls g (λ k ops. refl) 0 T.machine.clusters) (λ q j. spread_jumps g (λ k q ops x. x) 0 T.machine.clusters q j) more

  -- and those that leave by the depth before, or in one word with it

  latest_spread : (g : ℕ → Operation) (l : ℕ) → ((k : ℕ) → latency_of T.machine (g k) ≡ l) → (j n : ℕ) → latest T.machine (map g (numbers j n)) ≤ l
  latest_spread g l h j zero = omega arith
  latest_spread g l h j (suc n) = let a = h j in let b = latest_spread g l h (j + 1) n in omega arith

  lower_fine : (rest : List Word) (e : Register → ℕ) → Fine cold rest e → Fine cold (leave_or_lower T ++ rest) e
  lower_fine rest e more = by ((T.machine.latency_alu == 1) && fits T.machine Beside) refl
    where
      g : ℕ → Operation
      g k = Compute k Add (InGeneral (stack_on k)) (Held (stack_on k)) (Number (neg_ℤ (bytes T.frame)))

      Beside : List Operation
      Beside = BranchOn 0 true T.depth_trap ∷ on_clusters T.machine.clusters g

      by : (b : Bool) → ((T.machine.latency_alu == 1) && fits T.machine Beside) ≡ b → Fine cold ((if b then record { ops = Beside; idle = 0 } ∷ [] else one (BranchOn 0 true T.depth_trap) ∷ move_stack T (neg_ℤ (bytes T.frame))) ++ rest) e
      by true t =
          let once : T.machine.latency_alu ≡ 1 = eqb-true T.machine.latency_alu 1 (and_parts _ _ t).0 in
          let short : latest T.machine (on_clusters T.machine.clusters g) ≤ 1 = latest_spread g 1 (λ k. once) 0 T.machine.clusters in
          let whole : latest T.machine Beside ≡ max 0 (latest T.machine (on_clusters T.machine.clusters g)) = refl in
          let n : ℕ = max 0 (latest T.machine Beside) - 1 in
          let none : n ≤ 0 = omega arith in
          word_fine T.machine heat 0 cold cold [] Beside rest e (spread_falls g (λ k ops. refl) 0 T.machine.clusters) (stays 1 cold)
          (λ q r j. (let a : lift n cold (destinations Beside ++ []) r ≤ max 0 n = lift_most n cold (destinations Beside ++ []) r in omega arith)) (λ r t. refl)
          (wait_fine T.machine heat n 0 cold cold (destinations Beside ++ []) rest e none (stays 0 cold) more)
      by false t = branch_fine 0 T.depth_trap true (move_stack T (neg_ℤ (bytes T.frame)) ++ rest) e (move_fine (neg_ℤ (bytes T.frame)) rest e more)

  -- pieces

  pub start_fine : (main : ℕ) (e : Register → ℕ) → Fine cold (start_words T main) e
  start_fine main e =
      let g : ℕ → Operation = λ k. Move k (stack_on k) (Number (bytes (first_frame T))) in
      let rest : List Word = one (Call (T.entry main)) ∷ one (Halt (Held answer)) ∷ [] in
      settle (on_clusters T.machine.clusters g) rest e (spread_falls g (λ k ops. refl) 0 T.machine.clusters) (λ q j. spread_jumps g (λ k q ops x. x) 0 T.machine.clusters q j)
      (call_fine (T.entry main) (one (Halt (Held answer)) ∷ []) e (halt_fine (Held answer) [] e (nothing_fine e)))

  -- the depth is tested while values are saved, which are in other registers than the test
  pub call_words_fine : (f p g : ℕ) (xs : List Operand) (e : Register → ℕ) → ((v : ℕ) → IsIn v (T.saved f p) → register_of T f (T.saved f p) v ≢ tested) → Fine cold (call_words T f p g xs) e
  call_words_fine f p g xs e others =
      let w3 : List Word = argument_words T f g (parameters_of T g) xs in
      let w1 : List Word = leave_or_lower T ++ w3 in
      let test : Operation = Compute 0 (ToBranch Ltu) (InBranch (record { cluster = 0; number = 0 })) (Held (stack_on 0)) (Number (bytes (T.globals + T.frame))) in
      let saves : List Word = save_words T f (T.saved f p) in
      let t : ℕ = max 0 (latest T.machine (test ∷ [])) - 1 in
      subst (λ ws. Fine cold (one test ∷ ws) e) (sym (append_assoc saves (pause (in_flight T.machine t saves)) w1))
      (word_fine T.machine heat 0 cold cold [] (test ∷ []) (saves ++ (pause (in_flight T.machine t saves) ++ w1)) e refl (stays 1 cold) (λ q r j. absurd j) (λ r t. refl)
      (saves_late T heat f (T.saved f p) t (T.saved f p) w1 e others
      (lower_fine w3 e (arguments_fine f g (parameters_of T g) xs e))))

  -- the link is loaded while the answer may be in flight
  one_by_one : (f : ℕ) (x : Operand) (rest : List Word) (e : Register → ℕ) → Fine cold rest e → Fine cold ((settled T (one (Move 0 answer (fetched T f x)) ∷ one (Load 0 (general 0 3) (pos 0) (stack_on 0) false) ∷ []) ++ settled T (one (ToLink (Held (general 0 3))) ∷ [])) ++ rest) e
  one_by_one f x rest e more =
      let links : List Word = settled T (one (ToLink (Held (general 0 3))) ∷ []) in
      let w2 : List Word = links ++ rest in
      let load : Operation = Load 0 (general 0 3) (pos 0) (stack_on 0) false in
      let move : Operation = Move 0 answer (fetched T f x) in
      let answered : List Register = InGeneral answer ∷ [] in
      let k : ℕ = max 0 (latest T.machine (move ∷ [])) - 1 in
      let n : ℕ = in_flight T.machine 0 (one move ∷ one load ∷ []) in
      let off : (r : Register) → Touches (load ∷ []) r → lift k cold answered r ≡ 0 = λ r t. ⊎_elim
      (λ i. ⊎_elim (λ q. subst (λ y. lift k cold answered y ≡ 0) (sym q) refl) (λ z. absurd z) i)
      (λ i. ⊎_elim (λ q. subst (λ y. lift k cold answered y ≡ 0) (sym q) refl) (λ z. absurd z) i) t.0 in
      subst (λ ws. Fine cold (one move ∷ one load ∷ ws) e) (sym (append_assoc (pause n) links rest))
      (word_fine T.machine heat 0 cold cold [] (move ∷ []) (one load ∷ (pause n ++ w2)) e refl (stays 1 cold) (λ q r j. absurd j) (λ r t. refl)
      (word_fine T.machine heat k cold cold answered (load ∷ []) (pause n ++ w2) e refl (stays 1 cold) (λ q r j. absurd j) off
      (wait_fine T.machine heat n n cold cold (InGeneral (general 0 3) ∷ answered) w2 e (omega arith) (stays n cold)
      (settle (ToLink (Held (general 0 3)) ∷ []) rest e refl (λ q j. j) more))))

  loaded_fine : (f : ℕ) (x : Operand) (rest : List Word) (e : Register → ℕ) → Fine cold rest e → Fine cold ((settled T (together T.machine (Move 0 answer (fetched T f x)) (Load 0 (general 0 3) (pos 0) (stack_on 0) false)) ++ settled T (one (ToLink (Held (general 0 3))) ∷ [])) ++ rest) e
  loaded_fine f x rest e more = by (fits T.machine (Move 0 answer (fetched T f x) ∷ Load 0 (general 0 3) (pos 0) (stack_on 0) false ∷ []))
    where
      by : (b : Bool) → Fine cold ((settled T (if b then record { ops = Move 0 answer (fetched T f x) ∷ Load 0 (general 0 3) (pos 0) (stack_on 0) false ∷ []; idle = 0 } ∷ [] else one (Move 0 answer (fetched T f x)) ∷ one (Load 0 (general 0 3) (pos 0) (stack_on 0) false) ∷ []) ++ settled T (one (ToLink (Held (general 0 3))) ∷ [])) ++ rest) e
      by true =
          let ops : List Operation = Move 0 answer (fetched T f x) ∷ Load 0 (general 0 3) (pos 0) (stack_on 0) false ∷ [] in
          let word : Word = record { ops = ops; idle = 0 } in
          let links : List Word = settled T (one (ToLink (Held (general 0 3))) ∷ []) in
          subst (λ ws. Fine cold (word ∷ ws) e) (sym (append_assoc (pause (in_flight T.machine 0 (word ∷ []))) links rest))
          (settle ops (links ++ rest) e refl (λ q j. j) (settle (ToLink (Held (general 0 3)) ∷ []) rest e refl (λ q j. j) more))
      by false = one_by_one f x rest e more

  -- what is moved in the word that returns has landed by the next word
  module _ (f : ℕ) (x : Operand) where
    abbrev Moves : Operation
    Moves = Move 0 answer (fetched T f x)

    landed : latency_of T.machine Moves ≡ 1 → (r : Register) → raised same (hits T.machine (Moves ∷ Return ∷ [])) cold r ≤ 1
    landed once r = raised_bound (hits T.machine (Moves ∷ Return ∷ [])) cold (λ s. 1) (λ s. omega arith) (λ y i. ⊎_elim (λ q. (let z : y.latency ≡ latency_of T.machine Moves = ap (λ h. h.latency) q in omega arith)) (λ k. absurd k) i) r

    jumps_late : latency_of T.machine Moves ≡ 1 → (q : ℕ) (r : Register) → raised same (hits T.machine (Moves ∷ Return ∷ [])) cold r - 1 ≤ heat q r
    jumps_late once q r = let a = landed once r in omega arith

    beside_fine : (e : Register → ℕ) → Fine cold (last_beside T Moves Return) e
    beside_fine e = by ((latency_of T.machine Moves == 1) && fits T.machine (Moves ∷ Return ∷ [])) refl
      where
        by : (b : Bool) → ((latency_of T.machine Moves == 1) && fits T.machine (Moves ∷ Return ∷ [])) ≡ b → Fine cold (if b then record { ops = Moves ∷ Return ∷ []; idle = 0 } ∷ [] else settled T (one Moves ∷ []) ++ one Return ∷ []) e
        by true t =
            let once : latency_of T.machine Moves ≡ 1 = eqb-true (latency_of T.machine Moves) 1 (and_parts _ _ t).0 in
            ((λ r s. refl), (λ q r j. jumps_late once q r), nothing_fine e)
        by false t = settle (Moves ∷ []) (one Return ∷ []) e refl (λ q j. j) (go_back_fine [] e (nothing_fine e))

  leave_fine : (f : ℕ) (x : Operand) (e : Register → ℕ) → Fine cold (leave_words T f x) e
  leave_fine f x e = by (is_caller T f)
    where
      by : (b : Bool) → Fine cold (if b then answer_words T f x ++ one Return ∷ [] else last_beside T (Move 0 answer (fetched T f x)) Return) e
      by true = loaded_fine f x (one Return ∷ []) e (go_back_fine [] e (nothing_fine e))
      by false = beside_fine f x e

  pub return_fine : (f : ℕ) (x : Operand) (e : Register → ℕ) → Fine cold (return_words T f x) e
  return_fine f x e = fetch_fine f 0 x (leave_words T f x) e (leave_fine f x e)
