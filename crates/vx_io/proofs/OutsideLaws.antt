-- Laws of what a call leaves in files, sinks and counts.
use Rattle.std.proofs.Common.{◌≡◌, ℕ, true, List, None, Some, refl, ap, sym, ◌∙◌, arith, inl, inr, append_assoc, eq-or-lt_of_le}
use Rattle.std.specs.Str.{bytes_eq}
use Rattle.std.proofs.lemmas.Bool.{cases_Bool}
use Rattle.std.proofs.lemmas.Slice.Eq.{bytes_eq-Decides}
use Rattle.vx_io.specs.Outside.{ReplacedHolds, OthersStay, PiecesJoin, RoseThroughout}

pub replaced_holds : ReplacedHolds
replaced_holds name bytes held = let same : bytes_eq name name ≡ true = (bytes_eq-Decides name name).1 refl in rw same refl

pub others_stay : OthersStay
others_stay name bytes held other differ =
    elim (cases_Bool (bytes_eq other name)) [
      | inl same ↦ absurd (differ ((bytes_eq-Decides other name).0 same))
      | inr unlike ↦ rw unlike refl
    ]

pub pieces_join : PiecesJoin
pieces_join None front back = refl
pieces_join (Some bytes) front back = ap (λ (all : List ℕ). Some all) (append_assoc bytes front back)

pub rose_throughout : RoseThroughout
rose_throughout first before after last earlier grows later (inl rose) = inl (omega arith)
rose_throughout first before after last earlier grows later (inr greatest) =
    elim (eq-or-lt_of_le later) [
      | inl same ↦ inr (sym same ∙ greatest)
      | inr more ↦ inl (omega arith)
    ]
