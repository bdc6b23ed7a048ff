-- What is asked of a pair of operations first: whether anything but their kinds counts for the delay.
use Rattle.std.specs.Prelude.{◌&&◌, ◌||◌, not, ℕ, Bool, nat_eq, nat_lt, if◌then◌else◌, Option, Some, None}
use Rattle.vx_dep.specs.declared.mode.Mode.{Mode}
use Rattle.vx_dep.specs.declared.keys.Key.{Key}
use Rattle.vx_dep.specs.declared.tables.Standing.{Standing}
use Rattle.vx_dep.specs.Rows.{is_barred}

-- the number of a value, another one where there is none
abbrev pub named : (none : ℕ) → Option ℕ → ℕ
named none None = none
named none (Some v) = v

-- numbers of values that no operation names may stand for none: then more is taken to be shared, and never less
abbrev pub key_of : Standing → Key
key_of s = record {
  written = named 4294967294 s.traits.written;
  first = named 4294967295 s.traits.reads.first;
  second = named 4294967295 s.traits.reads.second;
  third = named 4294967295 s.traits.reads.third;
  joined = s.joined;
  is_access = s.traits.is_access;
  is_store = s.traits.is_store;
  is_observable = s.traits.is_observable;
  leaves = s.traits.leaves;
}

abbrev pub is_read : ℕ → Key → Bool
is_read v k = (nat_eq v k.first || nat_eq v k.second) || nat_eq v k.third

-- both write one value, or one of them reads what the other one writes
abbrev pub share_value : Key → Key → Bool
share_value a b = (nat_eq a.written b.written || is_read a.written b) || is_read b.written a

-- both access an array, and one of them stores
abbrev pub access_both : Key → Key → Bool
access_both a b = (a.is_access && b.is_access) && (a.is_store || b.is_store)

-- of two operations, the upper one first, the kinds alone count
abbrev pub are_apart : Key → Key → Bool
are_apart a b = not ((a.leaves || share_value a b) || access_both a b)

-- the delay of two such operations
abbrev pub apart_delay_of : Mode → Key → Key → (joined : Bool) → Option ℕ
apart_delay_of mode a b joined =
    if (a.is_observable && b.is_observable) || (joined && ((b.is_observable || b.leaves) || is_barred mode)) then Some 1 else (if b.leaves && (a.is_observable || is_barred mode) then Some 0 else None)

-- a lower operation has no delay behind any from a place on that is apart from it
abbrev pub can_pass : Mode → Key → (from : ℕ) → Bool
can_pass mode b from = not ((b.is_observable || b.leaves) || (is_barred mode && nat_lt from b.joined))
