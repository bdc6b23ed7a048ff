-- On a machine no write takes more than 15 cycles behind the one after its word.
use Rattle.std.proofs.Common.{◌≡◌, inl, inr, ℕ, ◌+◌, ◌-◌, ◌≤◌, Bool, true, false, List, [], ◌∷◌, map, refl, arith}
use Rattle.std.specs.Prelude.{nat_le, nat_lt, if◌then◌else◌}
use Rattle.std.proofs.Math.Nat.{max-le}
use Rattle.std.proofs.lemmas.Bool.{leb-true, ltb-true}
use Rattle.vx_flow.specs.declared.trace.TraceOp.{TraceOp}
use Rattle.vx_flow.specs.declared.trace.TraceOp.TheVariants.{Plain as TracePlain, Split as TraceSplit}
use Rattle.vx_flow.specs.declared.trace.Placed.{Placed}
use Rattle.vx_flow.specs.Effects.{IsIn}
use Rattle.vx_isa.specs.Numbers.{Numbers, IsMachine}
use Rattle.vx_room.proofs.Latencies.{few_cycles}
use Rattle.vx_layout.specs.Brief.{most_drain}
use Rattle.vx_dep.specs.Delays.{latency_of}
use Rattle.vx_dep.specs.Compensation.{greatest, left_at, all_left_at, drain_at}

latency_high : (m : Numbers) → IsMachine m → (op : TraceOp) → latency_of m op ≤ 16
latency_high m one (TracePlain op) = few_cycles m one op
latency_high m one (TraceSplit p y e live) = omega arith

left_low : (m : Numbers) → IsMachine m → (end word : ℕ) (op : TraceOp) → left_at m end word op ≤ 15
left_low m one end word op = by (nat_lt word end) refl
  where
    by : (b : Bool) → nat_lt word end ≡ b → (if b then (word + latency_of m op) - end else 0) ≤ 15
    by true e = let lt = ltb-true word end e in let h = latency_high m one op in omega (arith, lt, h)
    by false e = omega arith

-- nothing is left of a result whose word stands far above
pub far_back : (m : Numbers) (end word : ℕ) (op : TraceOp) → IsMachine m → nat_le (word + 16) end ≡ true → 0 ≡ left_at m end word op
far_back m end word op one far = by (nat_lt word end)
  where
    by : (b : Bool) → 0 ≡ (if b then (word + latency_of m op) - end else 0)
    by true = let h = latency_high m one op in let l = leb-true (word + 16) end far in omega (arith, h, l)
    by false = refl

all_low : (m : Numbers) → IsMachine m → (end : ℕ) (words : List ℕ) (ops : List TraceOp) → greatest (all_left_at m end words ops) ≤ 15
all_low m one end words [] = omega arith
all_low m one end [] (op ∷ ops) = omega arith
all_low m one end (word ∷ words) (op ∷ ops) = max-le {a = left_at m end word op} {b = greatest (all_left_at m end words ops)} {k = 15} (left_low m one end word op) (all_low m one end words ops)

pub drain_low : (m : Numbers) → IsMachine m → (p : Placed) (end : ℕ) → drain_at m p end ≤ most_drain
drain_low m one p end = all_low m one end p.words p.clustered.trace.ops

pub mapped_low : {A : Type 0} (f : A → ℕ) (k : ℕ) → ((x : A) → f x ≤ k) → (xs : List A) (d : ℕ) → IsIn d (map f xs) → d ≤ k
mapped_low f k h [] d i = absurd i
mapped_low f k h (x ∷ xs) d (inl e) = let l = h x in omega (arith, l, e)
mapped_low f k h (x ∷ xs) d (inr i) = mapped_low f k h xs d i
