-- How long the writes of words are in flight: never as long as the greatest latency of a machine, which is 16 at most.
use Rattle.std.proofs.Common.{◌≡◌, ◌≤◌, ⊎_elim, ◌+◌, ◌-◌, ℕ, zero, suc, Bool, true, false, Option, List, [], ◌∷◌, ◌++◌, refl, subst, arith}
use Rattle.std.specs.Prelude.{if◌then◌else◌, max}
use Rattle.vx_flow.specs.declared.graph.Op.{Op}
use Rattle.vx_flow.specs.Effects.{IsIn, writes}
use Rattle.vx_isa.specs.declared.operation.Register.{Register}
use Rattle.vx_isa.specs.declared.operation.Operation.{Operation}
use Rattle.vx_isa.specs.declared.operation.Operation.TheVariants.{Compute, Move, Select, Load, Store, Input, More, OutText, OutDecimal, OutByte, Goto, BranchOn, Call, Return, FromLink, ToLink, EndByTrap, Halt}
use Rattle.vx_isa.specs.declared.program.Word.{Word}
use Rattle.vx_isa.specs.Numbers.{Numbers, IsMachine}
use Rattle.vx_isa.specs.Operations.{comes_from, destination_of, latency_of}
use Rattle.vx_isa.specs.Machine.{cycles_of}
use Rattle.vx_room.proofs.Latencies.{few_cycles}
use Rattle.vx_isa.proofs.Ranges.{Ranges, ranges, code_range, move_range}
use Rattle.vx_room.specs.Items.{latency_of_op}
use Rattle.vx_mixed.specs.declared.layout.Laid.{Laid}
use Rattle.vx_mixed.specs.declared.layout.Laid.TheVariants.{Plain, Split}
use Rattle.vx_target.specs.Target.{Target, kept, is_slotted, slotted, register_of, latest, in_flight, pause, if_any, slots_in_flight, is_to, landing_of, flight, time_to, wanted}
use Rattle.vx_target.proofs.Word.{slotted_in}

-- words one behind the other
pub flight_append : (m : Numbers) (n : ℕ) (a b : List Word) → in_flight m n (a ++ b) ≡ in_flight m (in_flight m n a) b
flight_append m n [] b = refl
flight_append m n (w ∷ a) b = flight_append m (max n (latest m w.ops) - cycles_of w) a b

-- a pause of so many cycles
pub flight_pause : (m : Numbers) (n k : ℕ) → in_flight m n (pause k) ≡ n - k
flight_pause m n zero = omega arith
flight_pause m n (suc k) = omega arith

-- no latency is more than 16

few_of : (m : Numbers) → Ranges m → (op : Operation) → latency_of m op ≤ 16
few_of m q (Compute k code to a b) = (code_range m q code).most
few_of m q (Move k to a) = (move_range m q (comes_from k a)).most
few_of m q (Select k to u a b) = q.alu.most
few_of m q (Load k to o r d) = q.load.most
few_of m q (Input to) = q.load.most
few_of m q (More to) = q.load.most
few_of m q (Call p) = omega arith
few_of m q (FromLink to) = q.alu.most
few_of m q (ToLink a) = q.alu.most
few_of m q (Store k o r a) = omega arith
few_of m q (OutText n) = omega arith
few_of m q (OutDecimal a) = omega arith
few_of m q (OutByte a) = omega arith
few_of m q (Goto p) = omega arith
few_of m q (BranchOn u w p) = omega arith
few_of m q Return = omega arith
few_of m q (EndByTrap k) = omega arith
few_of m q (Halt a) = omega arith

module _ (m : Numbers) (is_one : IsMachine m) where
  latest_few : (ops : List Operation) → latest m ops ≤ 16
  latest_few [] = omega arith
  latest_few (op ∷ ops) = let a = few_of m (ranges m is_one) op in let b = latest_few ops in omega arith

  pub flight_few : (n : ℕ) (ws : List Word) → n ≤ 16 → in_flight m n ws ≤ 16
  flight_few n [] le = le
  flight_few n (w ∷ ws) le = flight_few (max n (latest m w.ops) - cycles_of w) ws (let a = latest_few w.ops in omega arith)

-- nor is one register in flight for longer

landing_latest : (m : Numbers) (r : Register) (ops : List Operation) → landing_of m r ops ≤ latest m ops
landing_latest m r [] = omega arith
landing_latest m r (op ∷ ops) = let a = landing_latest m r ops in let b = by (is_to r (destination_of op)) in omega arith
  where
    by : (t : Bool) → (if t then latency_of m op else 0) ≤ latency_of m op
    by true = omega arith
    by false = omega arith

flight_within : (m : Numbers) (r : Register) (n k : ℕ) (ws : List Word) → n ≤ k → flight m r n ws ≤ in_flight m k ws
flight_within m r n k [] le = le
flight_within m r n k (w ∷ ws) le = flight_within m r (max n (landing_of m r w.ops) - cycles_of w) (max k (latest m w.ops) - cycles_of w) ws (let a = landing_latest m r w.ops in omega arith)

wanted_within : (T : Target) (f : ℕ) (next : Option ℕ) (q : ℕ) (vs : List ℕ) (ws : List Word) → wanted T f next q vs ws ≤ in_flight T.machine 0 ws
wanted_within T f next q [] ws = omega arith
wanted_within T f next q (v ∷ vs) ws =
    let r : Register = register_of T f (v ∷ []) v in
    let a = flight_within T.machine r 0 0 ws (omega arith) in
    let b = wanted_within T f next q vs ws in omega arith

pub wanted_few : (T : Target) → IsMachine T.machine → (f : ℕ) (next : Option ℕ) (q : ℕ) (vs : List ℕ) (ws : List Word) → wanted T f next q vs ws ≤ 16
wanted_few T is_one f next q vs ws = let a = wanted_within T f next q vs ws in let b = flight_few T.machine is_one 0 ws (omega arith) in omega arith

-- what is loaded is waited for until it may be named
pub wanted_covers : (T : Target) (f : ℕ) (next : Option ℕ) (q : ℕ) (vs : List ℕ) (ws : List Word) (v : ℕ) → IsIn v vs → flight T.machine (register_of T f (v ∷ []) v) 0 ws - time_to T f next q (register_of T f (v ∷ []) v) ≤ wanted T f next q vs ws
wanted_covers T f next q [] ws v i = absurd i
wanted_covers T f next q (u ∷ vs) ws v i = ⊎_elim
    (λ e. subst (λ z. flight T.machine (register_of T f (v ∷ []) v) 0 ws - time_to T f next q (register_of T f (v ∷ []) v) ≤ wanted T f next q (z ∷ vs) ws) e (omega arith))
    (λ j. let a = wanted_covers T f next q vs ws v j in omega arith) i

-- results that go to slots

any_few : (vs : List ℕ) (n most : ℕ) → n ≤ most → if_any vs n ≤ most
any_few [] n most le = omega arith
any_few (v ∷ vs) n most le = le

pub slots_few : (T : Target) → IsMachine T.machine → (f : ℕ) (items : List Laid) → slots_in_flight T f items ≤ 16
slots_few T is_one f [] = omega arith
slots_few T is_one f (Plain op k ∷ items) =
    let l : latency_of_op T.machine op - 1 ≤ 16 = (let x = few_cycles T.machine is_one op in omega arith) in
    let a = any_few (slotted T f (writes op)) (latency_of_op T.machine op - 1) 16 l in
    let b = slots_few T is_one f items in omega arith
slots_few T is_one f (Split test y q ∷ items) = slots_few T is_one f items

any_some : (vs : List ℕ) (n v : ℕ) → IsIn v vs → if_any vs n ≡ n
any_some [] n v i = absurd i
any_some (u ∷ vs) n v i = refl

-- each of them has landed by then
pub slots_land : (T : Target) (f v : ℕ) (op : Op) (k : ℕ) (items : List Laid) → IsIn (Plain op k) items → IsIn v (writes op) → is_slotted (kept T f v) ≡ true → latency_of_op T.machine op ≤ slots_in_flight T f items + 1
slots_land T f v op k [] i w s = absurd i
slots_land T f v op k (x ∷ items) i w s = ⊎_elim
    (λ e. subst (λ y. latency_of_op T.machine op ≤ slots_in_flight T f (y ∷ items) + 1) e (
    let a = any_some (slotted T f (writes op)) (latency_of_op T.machine op - 1) v (slotted_in T f v (writes op) w s) in
    let q : slots_in_flight T f (Plain op k ∷ items) ≡ max (if_any (slotted T f (writes op)) (latency_of_op T.machine op - 1)) (slots_in_flight T f items) = refl in omega arith))
    (λ j. let a = slots_land T f v op k items j w s in let b = more x in omega arith)
    i
  where
    more : (y : Laid) → slots_in_flight T f items ≤ slots_in_flight T f (y ∷ items)
    more (Plain o c) = omega arith
    more (Split test y q) = omega arith
