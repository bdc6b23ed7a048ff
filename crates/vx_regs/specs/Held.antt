-- Which of the holders of registers goes on to a place, and which outlasts the others.
use Rattle.std.specs.Prelude.{◌≡◌, ◌<◌, ◌==◌, ◌&&◌, ◌||◌, ℕ, Bool, false, if◌then◌else◌, nat_lt, nat_le, Option, Some, None, List}
use Rattle.vx_regs.specs.declared.scan.Last.{Last}
use Rattle.vx_regs.specs.declared.spans.Span.{Span}
use Rattle.vx_regs.specs.Spans.{Holds, Outlasts}

abbrev pub goes_on : Option Span → ℕ → Bool
goes_on None place = false
goes_on (Some s) place = nat_le place s.to

abbrev pub outlasts : Span → Span → Bool
outlasts s t = nat_lt t.to s.to || ((t.to == s.to) && nat_lt s.value t.value)

abbrev pub later : Last → ℕ → Option Span → Last
later last register None = last
later last register (Some s) = if outlasts s last.span then record { register = Some register; span = s } else last

-- of the holders of the first registers and a new span this is the one that none of them outlasts
pub record IsLast (held : List (Option Span)) (span : Span) (count : ℕ) (last : Last) : Type 0 where
  pub own : last.register ≡ None → last.span ≡ span
  pub holds : (i : ℕ) → last.register ≡ Some i → Holds held i last.span
  pub longer : (i : ℕ) → last.register ≡ Some i → Outlasts last.span span
  pub none : (j : ℕ) (s : Span) → j < count → Holds held j s → Outlasts s last.span → ⊥
