-- What stands at the front of a text of lines, read from the left.
use Rattle.std.specs.Prelude.{◌≡◌, ℕ, ◌+◌, ◌-◌, ◌*◌, ◌^◌, Bool, ◌&&◌, ◌||◌, ◌==◌, not, nat_lt, nat_le, slice_index, if◌then◌else◌, List, [], ◌∷◌, length, take, drop, Option, Some, None, codes}
use Rattle.std.specs.List.{prefix_len}
use Rattle.std.specs.Str.{bytes_eq}
use Rattle.vx_flow.specs.Meaning.{Visit, AtBlock, AlongEdge}
use Rattle.vx_profile.specs.declared.passed.Passed.{Passed}
use Rattle.vx_profile.specs.declared.passed.Passed.TheVariants.{Block, Edge}

-- what a function returned, seen by view, is what is read
abbrev pub Gives : {X Y : Type 0} → (X → Y) → Option X → Option Y → Type 0
Gives view (Some x) read = read ≡ Some (view x)
Gives view None read = read ≡ None

infixl 10 ◌>>=◌
abbrev pub ◌>>=◌ : {X Y : Type 0} → Option X → (X → Option Y) → Option Y
None >>= f = None
(Some x) >>= f = f x

abbrev pub visit_of : Passed → Visit
visit_of (Block f b) = AtBlock f b
visit_of (Edge f b c) = AlongEdge f b c

abbrev pub is_digit : ℕ → Bool
is_digit c = nat_le 48 c && nat_le c 57

-- the value of digits behind digits of value n
abbrev pub value_from : ℕ → List ℕ → ℕ
value_from n [] = n
value_from n (c ∷ cs) = value_from (10 * n + (c - 48)) cs

-- digits are a number: there are some, and no zero leads them
abbrev pub is_number : List ℕ → Bool
is_number digits = nat_lt 0 (length digits) && (not (slice_index digits 0 == 48) || (length digits == 1))

-- nothing for what is not below the bound
abbrev pub below : (bound n : ℕ) → Option ℕ
below bound n = if nat_lt n bound then Some n else None

-- what stands behind a front, where the text begins with it
unfoldable pub behind : (front text : List ℕ) → Option (List ℕ)
behind front text = if bytes_eq (take (length front) text) front then Some (drop (length front) text) else None

-- a number, where it is below 2 ^ 64, and what stands behind it
unfoldable pub number_at : List ℕ → Option (Option ℕ × List ℕ)
number_at text =
    let n = prefix_len is_digit text in
    if is_number (take n text) then Some (below (2 ^ 64) (value_from 0 (take n text)), drop n text) else None

-- a number below 2 ^ 32, and what stands behind its blank
unfoldable pub name_at : List ℕ → Option (ℕ × List ℕ)
name_at text = do
  n ← number_at text
  rest ← behind (codes " ") n.1
  value ← n.0
  name ← below (2 ^ 32) value
  Some (name, rest)

unfoldable pub block_at : List ℕ → Option (Visit × List ℕ)
block_at text = do
  names ← behind (codes "block ") text
  f ← name_at names
  b ← name_at f.1
  Some (AtBlock f.0 b.0, b.1)

unfoldable pub edge_at : List ℕ → Option (Visit × List ℕ)
edge_at text = do
  names ← behind (codes "edge ") text
  f ← name_at names
  b ← name_at f.1
  c ← name_at b.1
  Some (AlongEdge f.0 b.0 c.0, c.1)

abbrev pub first_of : {X : Type 0} → Option X → Option X → Option X
first_of (Some x) other = Some x
first_of None other = other

unfoldable pub visit_at : List ℕ → Option (Visit × List ℕ)
visit_at text = first_of (block_at text) (edge_at text)

-- a line of a profile: what it names, its count where it is below 2 ^ 64, and what stands behind it
unfoldable pub row_at : List ℕ → Option (Visit × Option ℕ × List ℕ)
row_at text = do
  v ← visit_at text
  n ← number_at v.1
  rest ← behind (codes "\n") n.1
  Some (v.0, n.0, rest)
