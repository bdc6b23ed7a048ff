-- Steps of the test for room: what an item takes of a cluster, and what is left of it.
use Rattle.std.proofs.Common.{◌≡◌, ℕ, suc, ◌+◌, Bool, ◌&&◌, ◌||◌, ◌==◌, true, false, if◌then◌else◌, List, [], ◌∷◌, map, Option, ◌∙◌, refl, count_by, arith}
use Rattle.std.proofs.lemmas.Bool.Decides.{nat_tests}
use Rattle.std.proofs.Math.Dec.{leb-zero}
use Rattle.std.specs.List.{list_all, flat_map, filter}
use Rattle.vx_isa.proofs.Lists.{count_by-append, count_by-cons}
use Rattle.vx_flow.specs.declared.trace.Homes.{Homes}
use Rattle.vx_isa.specs.Numbers.{Numbers}
use Rattle.vx_room.specs.declared.items.ClusteredItem.{ClusteredItem}
use Rattle.vx_machine.specs.declared.left.Left.{Left}
use Rattle.vx_room.specs.Items.{takes_port, general_reads}
use Rattle.vx_room.specs.Room.{is_at, source_of, read_clusters, reads_at, has_room_at}
use Rattle.vx_machine.specs.Left.{limits, covers, fits_left}
use Rattle.vx_machine.proofs.LeftSteps.{Sums, fits_at_once}
use Rattle.vx_room.specs.Left.{total, need_of}

count_yes : {X : Type 0} (q : X → Bool) (y : X) (ys : List X) → q y ≡ true → count_by q (y ∷ ys) ≡ suc (count_by q ys)
count_yes q y ys h = count_by-cons q y ys ∙ rw h (omega arith)

count_no : {X : Type 0} (q : X → Bool) (y : X) (ys : List X) → q y ≡ false → count_by q (y ∷ ys) ≡ count_by q ys
count_no q y ys h = count_by-cons q y ys ∙ rw h (omega arith)

-- all reads of an item are of one cluster

not_zero : (n : ℕ) → (suc n == 0) ≡ false
not_zero n = grind (arith, nat_tests)

absorbs : (a b : Bool) → (b && (a || b)) ≡ b
absorbs true true = refl
absorbs true false = refl
absorbs false true = refl
absorbs false false = refl

pass_by : {X Y : Type 0} (p : Y → Bool) (s : Y) (q : X → Bool) (y : X) (ys : List X) (b : Bool) → q y ≡ b
    → list_all p (map (λ z. s) (filter q ys)) ≡ ((count_by q ys == 0) || p s)
    → list_all p (map (λ z. s) (filter q (y ∷ ys))) ≡ ((count_by q (y ∷ ys) == 0) || p s)
pass_by p s q y ys true h more = rw (count_yes q y ys h, h, not_zero (count_by q ys), more) (absorbs (count_by q ys == 0) (p s))
pass_by p s q y ys false h more = rw (count_no q y ys h, h) more

pass_one : {X Y : Type 0} (p : Y → Bool) (s : Y) (q : X → Bool) (ys : List X) → list_all p (map (λ y. s) (filter q ys)) ≡ ((count_by q ys == 0) || p s)
pass_one p s q [] = refl
pass_one p s q (y ∷ ys) = pass_by p s q y ys (q y) refl (pass_one p s q ys)

count_step : {X Y : Type 0} (p : Y → Bool) (s : Y) (q : X → Bool) (y : X) (ys : List X) (a b : Bool) → p s ≡ a → q y ≡ b
    → count_by p (map (λ z. s) (filter q ys)) ≡ (if p s then count_by q ys else 0)
    → count_by p (map (λ z. s) (filter q (y ∷ ys))) ≡ (if p s then count_by q (y ∷ ys) else 0)
count_step p s q y ys true true e h more = rw (count_yes q y ys h, h, count_yes p s (map (λ z. s) (filter q ys)) e, more, e) refl
count_step p s q y ys false true e h more = rw (h, count_no p s (map (λ z. s) (filter q ys)) e, more, e) refl
count_step p s q y ys true false e h more = rw (count_no q y ys h, h, more, e) refl
count_step p s q y ys false false e h more = rw (h, more, e) refl

none_if : (b : Bool) → ◌≡◌ {A = ℕ} 0 (if b then 0 else 0)
none_if true = refl
none_if false = refl

count_one : {X Y : Type 0} (p : Y → Bool) (s : Y) (q : X → Bool) (ys : List X) → count_by p (map (λ y. s) (filter q ys)) ≡ (if p s then count_by q ys else 0)
count_one p s q [] = none_if (p s)
count_one p s q (y ∷ ys) = count_step p s q y ys (p s) (q y) refl refl (count_one p s q ys)

pub reads_pass : (p : Option ℕ → Bool) (homes : Homes) (x : ClusteredItem)
    → list_all p (read_clusters homes x) ≡ ((count_by takes_port (general_reads x.item) == 0) || p (source_of homes x))
reads_pass p homes x = pass_one p (source_of homes x) takes_port (general_reads x.item)

pub reads_at_one : (homes : Homes) (k : ℕ) (x : ClusteredItem)
    → reads_at homes k (x ∷ []) ≡ (if is_at k (source_of homes x) then count_by takes_port (general_reads x.item) else 0)
reads_at_one homes k x = count_by-append (is_at k) (read_clusters homes x) [] ∙ rw (count_one (is_at k) (source_of homes x) takes_port (general_reads x.item)) (omega arith)

-- what is taken is the sum of what each item takes

reads_sum : (homes : Homes) (k : ℕ) (x : ClusteredItem) (xs : List ClusteredItem) → reads_at homes k (x ∷ xs) ≡ reads_at homes k (x ∷ []) + reads_at homes k xs
reads_sum homes k x xs =
    let whole = count_by-append (is_at k) (read_clusters homes x) (flat_map (read_clusters homes) xs) in
    let one = count_by-append (is_at k) (read_clusters homes x) [] in
    omega arith

sums : (homes : Homes) (k : ℕ) (x : ClusteredItem) (xs : List ClusteredItem) → Sums (need_of homes k x) (total homes k xs) (total homes k (x ∷ xs))
sums homes k x xs = record {
  slots = count_by-append _ (x ∷ []) xs;
  alus = count_by-append _ (x ∷ []) xs;
  multipliers = count_by-append _ (x ∷ []) xs;
  memory_units = count_by-append _ (x ∷ []) xs;
  read_ports = reads_sum homes k x xs;
  write_ports = count_by-append _ (x ∷ []) xs;
}

covers_none : (homes : Homes) (k : ℕ) (l : Left) → covers l (total homes k []) ≡ true
covers_none homes k l = rw (leb-zero l.slots, leb-zero l.alus, leb-zero l.multipliers, leb-zero l.memory_units, leb-zero l.read_ports, leb-zero l.write_ports) refl

pub room_by : (m : Numbers) (homes : Homes) (xs : List ClusteredItem) (k : ℕ) → has_room_at m homes xs k ≡ fits_left (need_of homes k) (limits m) xs
room_by m homes xs k = fits_at_once (need_of homes k) (total homes k) (sums homes k) (covers_none homes k) (limits m) xs
