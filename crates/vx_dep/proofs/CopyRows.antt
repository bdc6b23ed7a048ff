-- Worked rows of what a placement owes, from the words of its operations.
use Rattle.std.proofs.Common.{◌≡◌, ℕ, refl, List, [], ◌∷◌}
use Rattle.vx_dep.specs.Compensation.{copies_at_split, rejoin_word, copies_at_join}

-- an `if` without `else`: two operations, the split, an operation, the join, two operations
abbrev if_words : List ℕ
if_words = 0 ∷ 0 ∷ 2 ∷ 3 ∷ 1 ∷ 4 ∷ []

-- nothing that stood above the split is behind it
nothing_sinks : copies_at_split if_words 2 ≡ []
nothing_sinks = refl

-- the join is entered behind all that stood above it; what stood below it and is placed before is copied
rejoins_at_4 : rejoin_word if_words 4 ≡ 4
rejoins_at_4 = refl

the_product_is_copied : copies_at_join if_words 4 ≡ 4 ∷ []
the_product_is_copied = refl

-- with its last block behind the trace the join is the end of the trace
abbrev behind_words : List ℕ
behind_words = 0 ∷ 0 ∷ 2 ∷ 3 ∷ 1 ∷ []

rejoins_at_the_end : rejoin_word behind_words 4 ≡ 4
rejoins_at_the_end = refl

copied_at_the_end : copies_at_join behind_words 4 ≡ 4 ∷ []
copied_at_the_end = refl

-- sinking: the third operation is placed behind the split at place 3
abbrev sinking_words : List ℕ
sinking_words = 0 ∷ 1 ∷ 4 ∷ 2 ∷ 3 ∷ 5 ∷ 6 ∷ []

the_third_sinks : copies_at_split sinking_words 3 ≡ 2 ∷ []
the_third_sinks = refl

sinking_rejoins : rejoin_word sinking_words 5 ≡ 5
sinking_rejoins = refl

nothing_rises : copies_at_join sinking_words 5 ≡ []
nothing_rises = refl
