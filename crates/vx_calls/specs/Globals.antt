-- Where the globals of a program stand in memory, one after the other, and the words of it that do not start as 0.
use Rattle.std.specs.Prelude.{◌&&◌, ◌+◌, ◌*◌, nat_lt, if◌then◌else◌, ℕ, ℤ, Bool, List, [], ◌∷◌, ◌++◌, length}
use Rattle.vx_flow.specs.declared.graph.Global.{Global}
use Rattle.vx_isa.specs.Sound.{is_not_zero}
use Rattle.vx_target.specs.Tied.{words_before}

-- where each begins, the first of them at a word
abbrev pub begins_from : ℕ → List Global → List ℕ
begins_from n [] = []
begins_from n (g ∷ gs) = n ∷ begins_from (n + g.words) gs

abbrev pub words_in : List Global → ℕ
words_in gs = words_before gs (length gs)

-- a global has a first word that does not start as 0
abbrev pub is_set : Global → Bool
is_set g = nat_lt 0 g.words && is_not_zero g.first

-- that word of a global that begins at a word, with its address in bytes
abbrev pub first_from : ℕ → Global → List (ℕ × ℤ)
first_from n g = if is_set g then (4 * n, g.first) ∷ [] else []

abbrev pub firsts_from : ℕ → List Global → List (ℕ × ℤ)
firsts_from n [] = []
firsts_from n (g ∷ gs) = first_from n g ++ firsts_from (n + g.words) gs
