-- What is left of a cluster, one by one or all at once.
use Rattle.std.proofs.Common.{◌≡◌, ℕ, ◌+◌, ◌-◌, ◌<◌, Bool, ◌&&◌, true, false, nat_le, List, [], ◌∷◌, drop, get_or, length, refl, sym, ap, ◌∙◌, arith}
use Rattle.std.proofs.lemmas.Bool.{false≢true}
use Rattle.std.proofs.lemmas.Bool.Decides.{nat_tests}
use Rattle.std.proofs.lemmas.List.{drop_more}
use Rattle.std.proofs.Math.Dec.{leb-zero}
use Rattle.vx_isa.specs.declared.operation.Operation.{Operation}
use Rattle.vx_isa.specs.Numbers.{Numbers}
use Rattle.vx_isa.specs.Operations.{reads_of, list_of, destination_of}
use Rattle.vx_isa.specs.Fits.{fits_cluster, takes_read_port, takes_write_port}
use Rattle.vx_isa.proofs.Lists.{count_by-append}
use Rattle.vx_isa.proofs.FitsLaw.{six_parts, six_together}
use Rattle.vx_machine.specs.declared.left.Left.{Left}
use Rattle.vx_machine.specs.Left.{limits, covers, less, fits_left, need_of, total}

-- what is taken is the sum of two

pub record Sums (n t c : Left) : Type 0 where
  pub slots : c.slots ≡ n.slots + t.slots
  pub alus : c.alus ≡ n.alus + t.alus
  pub multipliers : c.multipliers ≡ n.multipliers + t.multipliers
  pub memory_units : c.memory_units ≡ n.memory_units + t.memory_units
  pub read_ports : c.read_ports ≡ n.read_ports + t.read_ports
  pub write_ports : c.write_ports ≡ n.write_ports + t.write_ports

le_more : (c a b l : ℕ) → c ≡ a + b → nat_le a l ≡ true → nat_le c l ≡ nat_le b (l - a)
le_more c a b l sum fits = grind (arith, nat_tests)

le_part : (c a b l : ℕ) → c ≡ a + b → nat_le c l ≡ true → nat_le a l ≡ true
le_part c a b l sum fits = grind (arith, nat_tests)

covers_sum : (l n t c : Left) → Sums n t c → covers l n ≡ true → covers l c ≡ covers (less l n) t
covers_sum l n t c s fits =
    let p = six_parts _ _ _ _ _ _ fits in
    rw (le_more c.slots n.slots t.slots l.slots s.slots p.one, le_more c.alus n.alus t.alus l.alus s.alus p.two, le_more c.multipliers n.multipliers t.multipliers l.multipliers s.multipliers p.three, le_more c.memory_units n.memory_units t.memory_units l.memory_units s.memory_units p.four, le_more c.read_ports n.read_ports t.read_ports l.read_ports s.read_ports p.five, le_more c.write_ports n.write_ports t.write_ports l.write_ports s.write_ports p.six) refl

covers_part : (l n t c : Left) → Sums n t c → covers l c ≡ true → covers l n ≡ true
covers_part l n t c s fits =
    let p = six_parts _ _ _ _ _ _ fits in
    six_together _ _ _ _ _ _ (record {
      one = le_part c.slots n.slots t.slots l.slots s.slots p.one;
      two = le_part c.alus n.alus t.alus l.alus s.alus p.two;
      three = le_part c.multipliers n.multipliers t.multipliers l.multipliers s.multipliers p.three;
      four = le_part c.memory_units n.memory_units t.memory_units l.memory_units s.memory_units p.four;
      five = le_part c.read_ports n.read_ports t.read_ports l.read_ports s.read_ports p.five;
      six = le_part c.write_ports n.write_ports t.write_ports l.write_ports s.write_ports p.six;
    })

fails_by : (l n t c : Left) (b : Bool) → Sums n t c → covers l n ≡ false → covers l c ≡ b → covers l c ≡ false
fails_by l n t c true s short whole = absurd (false≢true (sym short ∙ covers_part l n t c s whole))
fails_by l n t c false s short whole = whole

-- one by one or all at once

by_first : {X : Type 0} (takes : X → Left) (total : List X → Left) (l : Left) (x : X) (xs : List X) (b : Bool) → Sums (takes x) (total xs) (total (x ∷ xs)) → covers l (takes x) ≡ b
    → covers (less l (takes x)) (total xs) ≡ fits_left takes (less l (takes x)) xs
    → covers l (total (x ∷ xs)) ≡ (b && fits_left takes (less l (takes x)) xs)
by_first takes total l x xs true s fits more = covers_sum l (takes x) (total xs) (total (x ∷ xs)) s fits ∙ more
by_first takes total l x xs false s short more = fails_by l (takes x) (total xs) (total (x ∷ xs)) _ s short refl

pub fits_at_once : {X : Type 0} (takes : X → Left) (total : List X → Left) → ((x : X) (xs : List X) → Sums (takes x) (total xs) (total (x ∷ xs))) → ((l : Left) → covers l (total []) ≡ true)
    → (l : Left) (xs : List X) → covers l (total xs) ≡ fits_left takes l xs
fits_at_once takes total sums none l [] = none l
fits_at_once takes total sums none l (x ∷ xs) = by_first takes total l x xs (covers l (takes x)) (sums x xs) refl (fits_at_once takes total sums none (less l (takes x)) xs)

-- one more, in a loop

pub one_more : {X : Type 0} (takes : X → Left) (l need next : Left) (xs : List X) (i : ℕ) (d : X) (b o : Bool) → i < length xs → o ≡ fits_left takes l (drop i xs) → need ≡ takes (get_or xs i d) → b ≡ covers l need → b ≡ true → next ≡ less l need →
    o ≡ fits_left takes next (drop (i + 1) xs)
one_more takes l need next xs i d b o lt e h c t n =
    e ∙ ap (fits_left takes l) (drop_more xs i d lt) ∙ ap (λ z. covers l z && fits_left takes (less l z) (drop (i + 1) xs)) (sym h)
    ∙ ap (λ z. z && fits_left takes (less l need) (drop (i + 1) xs)) (sym c ∙ t) ∙ ap (λ z. fits_left takes z (drop (i + 1) xs)) (sym n)

pub one_over : {X : Type 0} (takes : X → Left) (l need : Left) (xs : List X) (i : ℕ) (d : X) (b o : Bool) → i < length xs → o ≡ fits_left takes l (drop i xs) → need ≡ takes (get_or xs i d) → b ≡ covers l need → b ≡ false → false ≡ o
one_over takes l need xs i d b o lt e h c t =
    sym (e ∙ ap (fits_left takes l) (drop_more xs i d lt) ∙ ap (λ z. covers l z && fits_left takes (less l z) (drop (i + 1) xs)) (sym h)
    ∙ ap (λ z. z && fits_left takes (less l need) (drop (i + 1) xs)) (sym c ∙ t))

-- of operations

op_sums : (k : ℕ) (op : Operation) (ops : List Operation) → Sums (need_of k op) (total k ops) (total k (op ∷ ops))
op_sums k op ops = record {
  slots = count_by-append _ (op ∷ []) ops;
  alus = count_by-append _ (op ∷ []) ops;
  multipliers = count_by-append _ (op ∷ []) ops;
  memory_units = count_by-append _ (op ∷ []) ops;
  read_ports = count_by-append (takes_read_port k) (reads_of op) _;
  write_ports = count_by-append (takes_write_port k) (list_of (destination_of op)) _;
}

no_ops : (k : ℕ) (l : Left) → covers l (total k []) ≡ true
no_ops k l = rw (leb-zero l.slots, leb-zero l.alus, leb-zero l.multipliers, leb-zero l.memory_units, leb-zero l.read_ports, leb-zero l.write_ports) refl

pub fits_by : (m : Numbers) (ops : List Operation) (k : ℕ) → fits_cluster m ops k ≡ fits_left (need_of k) (limits m) ops
fits_by m ops k = fits_at_once (need_of k) (total k) (op_sums k) (no_ops k) (limits m) ops
