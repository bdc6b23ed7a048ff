-- Worked rows of the placement of small traces.
use Rattle.std.proofs.Common.{◌≡◌, ℕ, pos, refl, true, false, None, List, [], ◌∷◌, slice_index_or}
use Rattle.vx_base.specs.declared.arithmetic.Code.TheVariants.{ToBranch}
use Rattle.vx_base.specs.declared.arithmetic.Compare.TheVariants.{Lt}
use Rattle.vx_flow.specs.declared.graph.Operand.TheVariants.{Held, Number}
use Rattle.vx_flow.specs.declared.graph.Op.TheVariants.{Compute}
use Rattle.vx_flow.specs.declared.trace.TraceOp.{TraceOp}
use Rattle.vx_flow.specs.declared.trace.TraceOp.TheVariants.{Plain, Split}
use Rattle.vx_flow.specs.declared.trace.Clustered.{Clustered}
use Rattle.vx_flow.specs.declared.trace.Homes.{Homes}
use Rattle.vx_isa.specs.Numbers.{Numbers, vex}
use Rattle.vx_room.specs.Room.{has_room}
use Rattle.vx_sched.specs.Placement.{comes_before, items_at, places_in, with_earlier, length_of}

-- an `if` without `else`: two operations, the split, an operation, the join, two operations
abbrev if_heights : ℕ → ℕ
if_heights i = slice_index_or (3 ∷ 4 ∷ 2 ∷ 1 ∷ 2 ∷ 0 ∷ []) i 0

abbrev if_words : List ℕ
if_words = 0 ∷ 0 ∷ 2 ∷ 3 ∷ 1 ∷ 4 ∷ []

-- the compare comes before the sum above it, the split before the product of the same height
higher_first : comes_before if_heights 1 0 ≡ true
higher_first = refl

lower_last : comes_before if_heights 0 1 ≡ false
lower_last = refl

level_in_order : comes_before if_heights 2 4 ≡ true
level_in_order = refl

level_not_in_turn : comes_before if_heights 4 2 ≡ false
level_not_in_turn = refl

not_before_itself : comes_before if_heights 3 3 ≡ false
not_before_itself = refl

two_in_word_0 : places_in if_words 0 ≡ 0 ∷ 1 ∷ []
two_in_word_0 = refl

none_in_word_5 : places_in if_words 5 ≡ []
none_in_word_5 = refl

-- the product is tried beside both operations of word 0, the compare beside none
product_beside_two : with_earlier if_heights if_words 0 4 ≡ 4 ∷ 0 ∷ 1 ∷ []
product_beside_two = refl

compare_alone : with_earlier if_heights if_words 0 1 ≡ 1 ∷ []
compare_alone = refl

five_words : length_of if_words ≡ 5
five_words = refl

seven_words_barred : length_of (0 ∷ 0 ∷ 2 ∷ 3 ∷ 4 ∷ 6 ∷ []) ≡ 7
seven_words_barred = refl

no_words : length_of [] ≡ 0
no_words = refl

-- two compares and the splits on both, each of which leaves for a block of its own: p8 = v1 < 10; p9 = v2 < 10

abbrev below_ten : (to left : ℕ) → TraceOp
below_ten to left = Plain (Compute (ToBranch Lt) to (Held left) (Number (pos 10)))

abbrev split_on : (test from to : ℕ) → TraceOp
split_on test from to = Split test true (record { from = from; to = to }) []

abbrev two_splits : Clustered
two_splits = record {
  trace = record {
    function = 0;
    blocks = 0 ∷ 1 ∷ 2 ∷ [];
    ops = below_ten 8 1 ∷ below_ten 9 2 ∷ split_on 8 0 3 ∷ split_on 9 1 4 ∷ [];
    fixed = None ∷ None ∷ None ∷ None ∷ [];
    joins = [];
    values = 10;
    arrays = [];
  };
  clusters = 0 ∷ 0 ∷ 0 ∷ 0 ∷ [];
}

abbrev nowhere : Homes
nowhere = record { clusters = [] }

abbrev of_two : Numbers
of_two = record (vex 1) { branches = 2 }

-- where a word has two branches both are in word 2, in the order of the trace

abbrev words_of_two : List ℕ
words_of_two = 0 ∷ 0 ∷ 2 ∷ 2 ∷ []

both_in_word_2 : places_in words_of_two 2 ≡ 2 ∷ 3 ∷ []
both_in_word_2 = refl

both_have_room : has_room of_two nowhere (items_at two_splits (places_in words_of_two 2)) ≡ true
both_have_room = refl

three_words : length_of words_of_two ≡ 3
three_words = refl

-- where it has one, the second split has no room beside the first

second_has_no_room : has_room (vex 1) nowhere (items_at two_splits (places_in words_of_two 2)) ≡ false
second_has_no_room = refl

four_words : length_of (0 ∷ 0 ∷ 2 ∷ 3 ∷ []) ≡ 4
four_words = refl
