-- A call, looked at from an earlier moment.
use Rattle.std.proofs.Common.{◌≡◌, inl, inr, ℕ, List, Option, Some, None, IfSome, MatchOption, refl, sym, subst, ◌∙◌, arith}
use Rattle.std.specs.Prelude.{◌≤◌}
use Rattle.vx_io.specs.Outside.{Files, Rose}
use Rattle.vx_files.specs.Effects.{Effect, ReadsRose, ReplacesRose, SameFiles, OfFile}

pub rose_since : (before mid after : ℕ) → before ≤ mid → Rose mid after → Rose before after
rose_since before mid after le (inl more) = inl (omega arith)
rose_since before mid after le (inr most) = inr most

-- the same call, looked at from an earlier moment from which on no file has changed
pub record Since (e f : Effect) : Type 0 where
  pub before : f.before ≡ e.before
  pub after : f.after ≡ e.after
  pub reads : f.reads_before ≤ e.reads_before
  pub reads_after : f.reads_after ≡ e.reads_after
  pub replaces : f.replaces_before ≤ e.replaces_before
  pub replaces_after : f.replaces_after ≡ e.replaces_after

-- a call behind one that only read files
pub since_read : (before mid after : Option Files) (a b c k l m : ℕ) → mid ≡ before → a ≤ b → k ≤ l →
    Since (record { before = mid; after = after; reads_before = b; reads_after = c; replaces_before = l; replaces_after = m })
    (record { before = before; after = after; reads_before = a; reads_after = c; replaces_before = k; replaces_after = m })
since_read before mid after a b c k l m same reads replaces = record {
  before = sym same;
  after = refl;
  reads = reads;
  reads_after = refl;
  replaces = replaces;
  replaces_after = refl;
}

pub same_since : (e f : Effect) → Since e f → SameFiles e → SameFiles f
same_since e f s same = s.after ∙ same ∙ sym s.before

pub reads_since : (e f : Effect) → Since e f → ReadsRose e → ReadsRose f
reads_since e f s rose = rose_since f.reads_before e.reads_before f.reads_after s.reads (subst (λ n. Rose e.reads_before n) (sym s.reads_after) rose)

pub replaces_since : (e f : Effect) → Since e f → ReplacesRose e → ReplacesRose f
replaces_since e f s rose = rose_since f.replaces_before e.replaces_before f.replaces_after s.replaces (subst (λ n. Rose e.replaces_before n) (sym s.replaces_after) rose)

pub told_since : (e f : Effect) (P : Files → Type 0) → Since e f → IfSome e.before P → IfSome f.before P
told_since e f P s h = subst (λ b. IfSome b P) (sym s.before) h

pub said_since : (e f : Effect) (P : Files → Type 0) (Q : List ℕ → Type 0) → Since e f → OfFile e.before P Q → OfFile f.before P Q
said_since e f P Q s h = subst (λ b. OfFile b P Q) (sym s.before) h

pub missing_since : (e f : Effect) (P : Files → Type 0) (b : Option Files) → Since e f → MatchOption b (ReadsRose e) P → MatchOption b (ReadsRose f) P
missing_since e f P None s h = reads_since e f s h
missing_since e f P (Some held) s h = h
