-- Worked rows: words that read or write a register early on a path, and the same words with a pause that is long enough. Loads
-- take 3 cycles, products 2.
use Rattle.std.proofs.Common.{◌≡◌, ◌≤◌, inl, inr, ⊎_elim, ◌-◌, ℕ, pos, Bool, true, false, cond, List, [], ◌∷◌, refl, arith}
use Rattle.std.specs.Prelude.{max}
use Rattle.vx_base.specs.declared.arithmetic.Code.TheVariants.{Mpylu}
use Rattle.vx_base.specs.Paths.{here, first, more}
use Rattle.vx_base.proofs.Pieces.{cold, look_up, heats_of, Piece, Joined}
use Rattle.vx_isa.specs.declared.operation.Register.{Register}
use Rattle.vx_isa.specs.declared.operation.Register.TheVariants.{General}
use Rattle.vx_isa.specs.declared.operation.Source.TheVariants.{Held, Number}
use Rattle.vx_isa.specs.declared.operation.Operation.{Operation}
use Rattle.vx_isa.specs.declared.operation.Operation.TheVariants.{Compute, Load, Store, BranchOn, Halt}
use Rattle.vx_isa.specs.declared.program.Word.{Word}
use Rattle.vx_isa.specs.declared.program.WordProgram.{WordProgram}
use Rattle.vx_isa.specs.Numbers.{vex}
use Rattle.vx_isa.specs.Operations.{same}
use Rattle.vx_isa.specs.Paths.{NeverReadsEarly, NeverWritesEarly}
use Rattle.vx_target.specs.Target.{general, stack_on, one, waits, in_flight}
use Rattle.vx_tie.proofs.Early.{words_kind, pieces_late}

abbrev program : List Word → WordProgram
program ws = record { version = 1; memory = 0; start = []; texts = []; words = ws }

abbrev in_general : ℕ → Register
in_general n = General (general 0 n)

abbrev load : ℕ → Operation
load n = Load 0 (general 0 n) (pos 0) (stack_on 0) false

abbrev store : ℕ → Operation
store n = Store 0 (pos 0) (stack_on 0) (Held (general 0 n))

abbrev product : ℕ → Operation
product n = Compute 0 Mpylu (in_general n) (Number (pos 2)) (Number (pos 3))

abbrev halt : Operation
halt = Halt (Number (pos 0))

-- a value is reloaded without a pause, and stored at the next word
reloaded : NeverReadsEarly (vex 1) (program (one (load 11) ∷ one (store 11) ∷ [])) → ⊥
reloaded never =
    let h : 3 ≤ 1 = never 0 1 (in_general 11) 3 1 here (one (load 11), load 11, refl, inl refl, refl, refl, refl, refl) (first (one (load 11), one (store 11), refl, refl, refl)) (one (store 11), refl, inr (inl refl), refl) in
    omega arith

-- a result in a scratch register is stored before it has landed
stored : NeverReadsEarly (vex 1) (program (one (product 3) ∷ one (store 3) ∷ [])) → ⊥
stored never =
    let h : 2 ≤ 1 = never 0 1 (in_general 3) 2 1 here (one (product 3), product 3, refl, inl refl, refl, refl, refl, refl) (first (one (product 3), one (store 3), refl, refl, refl)) (one (store 3), refl, inr (inl refl), refl) in
    omega arith

-- a pause that is one cycle too short
too_short : NeverReadsEarly (vex 1) (program (one (load 11) ∷ waits 1 ∷ one (store 11) ∷ [])) → ⊥
too_short never =
    let h : 3 ≤ 2 = never 0 2 (in_general 11) 3 2 here (one (load 11), load 11, refl, inl refl, refl, refl, refl, refl)
    (more (first (one (load 11), waits 1, refl, refl, refl)) (waits 1, one (store 11), refl, refl, refl)) (one (store 11), refl, inr (inl refl), refl) in
    omega arith

-- a word of two branches leads to both their places: that of the second one reads early what is loaded beside them
abbrev branches : Word
branches = record { ops = load 11 ∷ BranchOn 0 true 1 ∷ BranchOn 1 true 2 ∷ []; idle = 0 }

second_branch : NeverReadsEarly (vex 1) (record (program (branches ∷ one halt ∷ one (store 11) ∷ [])) { version = 2 }) → ⊥
second_branch never =
    let h : 3 ≤ 1 = never 0 2 (in_general 11) 3 1 here (branches, load 11, refl, inl refl, refl, refl, refl, refl) (first (branches, one (store 11), refl, refl, inr (inl refl))) (one (store 11), refl, inr (inl refl), refl) in
    omega arith

-- two operands share a scratch register, or a value is loaded twice: the second load writes while the first is in flight
loaded_twice : NeverWritesEarly (vex 1) (program (one (load 3) ∷ one (load 3) ∷ [])) → ⊥
loaded_twice never =
    let h : 3 ≤ 1 = never 0 1 (in_general 3) 3 1 here (one (load 3), load 3, refl, inl refl, refl, refl, refl, refl) (first (one (load 3), one (load 3), refl, refl, refl)) (one (load 3), refl, inl refl, refl) in
    omega arith

-- a pause that is long enough
abbrev waited_words : List Word
waited_words = one (load 11) ∷ waits 2 ∷ one (store 11) ∷ one halt ∷ []

abbrev waited_pieces : List (Piece Word Register)
waited_pieces = record { start = cold; words = waited_words } ∷ []

waited : NeverReadsEarly (vex 1) (program waited_words)
waited = (pieces_late (vex 1) (program waited_words) waited_pieces refl joined).0
  where
    landed : (b : Bool) → (cond b (max 0 3) 0 - 1) - 2 ≡ 0
    landed true = refl
    landed false = refl

    joined : Joined (words_kind (vex 1)) (look_up (heats_of (words_kind (vex 1)) waited_pieces)) 0 waited_pieces
    joined = (
      (
        λ r t. refl,
        λ q r j. absurd j,
        (
          λ r t. ⊎_elim (λ i. absurd i) (λ i. absurd i) t.0,
          λ q r j. absurd j,
          (
            λ r t. landed (same r (in_general 11)),
            λ q r j. absurd j,
            (λ r t. ⊎_elim (λ i. absurd i) (λ i. absurd i) t.0, λ q r j. absurd j, λ r. omega arith),
          ),
        ),
      ),
      tt,
    )

-- how long the writes of words are in flight behind them: of a load 2 cycles, of a product 1, of a store none

load_flies : in_flight (vex 1) 0 (one (load 11) ∷ []) ≡ 2
load_flies = refl

product_flies : in_flight (vex 1) 0 (one (product 3) ∷ []) ≡ 1
product_flies = refl

store_flies : in_flight (vex 1) 0 (one (store 11) ∷ []) ≡ 0
store_flies = refl

loads_fly : in_flight (vex 1) 0 (one (load 11) ∷ one (load 12) ∷ []) ≡ 2
loads_fly = refl

product_covers : in_flight (vex 1) 0 (one (load 11) ∷ one (product 3) ∷ []) ≡ 1
product_covers = refl

pause_lands : in_flight (vex 1) 0 (one (load 11) ∷ waits 2 ∷ []) ≡ 0
pause_lands = refl
