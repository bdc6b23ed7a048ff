-- The worked rows.
use Rattle.std.proofs.Common.{◌≡◌, ◌<◌, inl, ⊎_elim, refl, sym, arith, subst, ℕ, zero, suc, pos, Some, [], ◌∷◌, slice_get}
use Rattle.vx_flow.specs.declared.graph.Operand.TheVariants.{Number}
use Rattle.vx_flow.specs.declared.trace.TraceOp.{TraceOp}
use Rattle.vx_flow.specs.Effects.{IsIn}
use Rattle.vx_room.specs.Room.{home_of}
use Rattle.vx_dep.specs.Delays.{writes_of}
use Rattle.vx_bug.specs.CanAssign.{IsFree}
use Rattle.vx_bug.specs.ClustersExample.{sum, uses, crossed, joined_at}
use Rattle.vx_copy_laws.specs.CopyStands.{ReadsAway, WriterBetween, IsServed}
use Rattle.vx_copy_laws.specs.CopiesExample.{rewritten, changed, compensated, CopiesExample}

-- v1 is read on cluster 0

abbrev Apart : (m n : ℕ) → Type 0
Apart m n = m ≡ n → ⊥

one_is_away : Apart 1 0
one_is_away e = omega (arith, e)

first_reads : ReadsAway (uses []) (home_of crossed) (0 ∷ 0 ∷ []) 0 1 0
first_reads = record { op = sum 2 1 (Number (pos 1)); stands = refl; takes = refl; no_compensation = refl; no_copy = refl; reads = inl refl; home = 1; lives = refl; elsewhere = one_is_away }

second_reads : ReadsAway (uses []) (home_of crossed) (0 ∷ 0 ∷ []) 1 1 0
second_reads = record { op = sum 3 1 (Number (pos 2)); stands = refl; takes = refl; no_compensation = refl; no_copy = refl; reads = inl refl; home = 1; lives = refl; elsewhere = one_is_away }

below_join_reads : ReadsAway (uses (joined_at 1 ∷ [])) (home_of crossed) (0 ∷ 0 ∷ []) 1 1 0
below_join_reads = record { op = sum 3 1 (Number (pos 2)); stands = refl; takes = refl; no_compensation = refl; no_copy = refl; reads = inl refl; home = 1; lives = refl; elsewhere = one_is_away }

behind_writer_reads : ReadsAway rewritten (home_of crossed) (0 ∷ 1 ∷ 0 ∷ []) 2 1 0
behind_writer_reads = record { op = sum 3 1 (Number (pos 3)); stands = refl; takes = refl; no_compensation = refl; no_copy = refl; reads = inl refl; home = 1; lives = refl; elsewhere = one_is_away }

behind_itself_reads : ReadsAway changed (home_of crossed) (0 ∷ 0 ∷ []) 1 1 0
behind_itself_reads = record { op = sum 3 1 (Number (pos 2)); stands = refl; takes = refl; no_compensation = refl; no_copy = refl; reads = inl refl; home = 1; lives = refl; elsewhere = one_is_away }

beside_compensation_reads : ReadsAway compensated (home_of crossed) (0 ∷ 0 ∷ []) 1 1 0
beside_compensation_reads = record { op = sum 3 1 (Number (pos 2)); stands = refl; takes = refl; no_compensation = refl; no_copy = refl; reads = inl refl; home = 1; lives = refl; elsewhere = one_is_away }

-- one that was copied as compensation reads nothing away
compensation_reads_none : ReadsAway compensated (home_of crossed) (0 ∷ 0 ∷ []) 0 1 0 → ⊥
compensation_reads_none r = let e : IsFree compensated 0 = r.no_compensation in absurd (cc)

-- the second operation is served by the copy of the first

first_writes_two : (w : WriterBetween (uses []) 1 0 1) → ⊥
first_writes_two w = by w.place w.op w.stands w.above w.writes
  where
    by : (p : ℕ) (op : TraceOp) → slice_get (uses []).ops p ≡ Some op → p < 1 → IsIn 1 (writes_of op) → ⊥
    by zero op e l i =
        let q : sum 2 1 (Number (pos 1)) ≡ op = cc in
        ⊎_elim (λ f. omega (arith, f)) (λ n. n) (subst (λ o. IsIn 1 (writes_of o)) (sym q) i)
    by (suc p) op e l i = omega (arith, l)

second_served : IsServed (uses []) (home_of crossed) (0 ∷ 0 ∷ []) 1 1 0
second_served = record { reader = 0; above = omega arith; reads = first_reads; no_join = λ j. j.is; no_writer = first_writes_two }

pub example : CopiesExample
example = record {
  first = record { reads = first_reads; first = λ s. let u = s.above in omega (arith, u) };
  served = λ s. s.first second_served;
  joined = record { reads = below_join_reads; first = λ s. let u = s.above in s.no_join (record { join = joined_at 1; is = inl refl; above = u; below = omega arith }) };
  written = record { reads = behind_writer_reads; first = behind_writer };
  at_home = λ s. home_is_one s.reads;
  ops = refl;
  rewritten_itself = record {
    reads = behind_itself_reads;
    first = λ s. let u = s.above in s.no_writer (record { place = 0; op = sum 1 1 (Number (pos 1)); stands = refl; from = omega (arith, u); above = omega arith; writes = inl refl });
  };
  ops_changed = refl;
  none_needed = λ s. compensation_reads_none s.reads;
  not_served = record { reads = beside_compensation_reads; first = λ s. not_by s.reader s.above s.reads };
  ops_compensated = refl;
  both = refl;
}
  where
    behind_writer : IsServed rewritten (home_of crossed) (0 ∷ 1 ∷ 0 ∷ []) 2 1 0 → ⊥
    behind_writer s = by s.reader s.above s.reads s.no_writer
      where
        by : (r : ℕ) → r < 2 → ReadsAway rewritten (home_of crossed) (0 ∷ 1 ∷ 0 ∷ []) r 1 0 → (WriterBetween rewritten 1 r 2 → ⊥) → ⊥
        by r l reads none = none (record { place = 1; op = sum 1 1 (Number (pos 2)); stands = refl; from = omega (arith, l); above = omega arith; writes = inl refl })

    not_by : (r : ℕ) → r < 1 → ReadsAway compensated (home_of crossed) (0 ∷ 0 ∷ []) r 1 0 → ⊥
    not_by zero l reads = compensation_reads_none reads
    not_by (suc r) l reads = omega (arith, l)

    home_is_one : ReadsAway rewritten (home_of crossed) (0 ∷ 1 ∷ 0 ∷ []) 1 1 1 → ⊥
    home_is_one r =
        let e : home_of crossed 1 ≡ Some r.home = r.lives in
        let f : r.home ≡ 1 = cc in
        r.elsewhere f
