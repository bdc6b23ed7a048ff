-- The texts that are worked by hand.
use Rattle.std.proofs.Common.{◌≡◌, ℕ, Bool, true, false, cond, ◌==◌, ◌&&◌, List, [], ◌∷◌, ◌++◌, map, Some, None, refl, ap, ◌∙◌, arith}
use Rattle.std.specs.Prelude.{codes}
use Rattle.std.specs.Option.{unwrap_or}
use Rattle.std.specs.List.{AllByRecursion, filter, flat_map}
use Rattle.std.specs.Map.{lookup}
use Rattle.std.specs.BTreeMap.{is_at}
use Rattle.vx_flow.specs.Meaning.{AtBlock, AlongEdge}
use Rattle.vx_profile.specs.declared.counts.Counts.{Counts}
use Rattle.vx_profile.specs.Counts.{pair_cmp, triple_cmp}
use Rattle.vx_profile.specs.Reading.{behind, number_at, name_at, block_at, edge_at, visit_at, row_at}
use Rattle.vx_profile.specs.Text.{header, number_text, Row, row_text, Fits, GivenBy, Spells, Reaches, block_row, edge_row, is_passed, counts_text}
use Rattle.vx_profile.specs.TextExample.{Holds, TextExample}
use Rattle.vx_profile.proofs.Counting.{at_pair, at_triple}
use Rattle.vx_profile.proofs.Progress.{bad_header, bad_row, large_row}
use Rattle.vx_profile.proofs.Writing.{flip_two, flip_three}

second : (c : ℕ) (rest : List ℕ) → Reaches (header ++ c ∷ rest) 2 (c ∷ rest)
second c rest = record { before = []; fit = tt; text = refl; some = λ e. absurd cc; number = refl }

no_header : behind header [] ≡ None
unfolding behind
no_header = refl

no_feed : behind header (codes "profile 1") ≡ None
unfolding behind
no_feed = refl

unended_row : row_at (codes "block 0 0 1") ≡ None
unfolding row_at visit_at block_at edge_at name_at number_at behind
unended_row = refl

zero_row : row_at (codes "block 00 0 1\n") ≡ None
unfolding row_at visit_at block_at edge_at name_at number_at behind
zero_row = refl

large_block_row : row_at (codes "block 0 4294967296 18446744073709551616\n") ≡ None
unfolding row_at visit_at block_at edge_at name_at number_at behind
large_block_row = refl

short_row : row_at (codes "edge 0 0 1\n") ≡ None
unfolding row_at visit_at block_at edge_at name_at number_at behind
short_row = refl

third : Reaches (codes "profile 1\nblock 0 0 1\nedge 0 0 1\n") 3 (codes "edge 0 0 1\n")
unfolding number_text
third = record {
  before = record { visit = AtBlock 0 0; count = 1 } ∷ [];
  fit = (((omega arith, omega arith), omega arith), tt);
  text = refl;
  some = λ e. absurd cc;
  number = refl;
}

counted_row : row_at (codes "block 0 0 18446744073709551616\n") ≡ Some (AtBlock 0 0, None, [])
unfolding row_at visit_at block_at edge_at name_at number_at behind
counted_row = refl

nothing_given : (c : Counts) → Holds c [] [] → Spells (codes "profile 1\n") c
nothing_given c holds = record {
  rows = [];
  fit = tt;
  text = refl;
  given = record {
    blocks = λ f b. ap (λ es. unwrap_or (lookup (is_at (pair_cmp (f, b))) es) 0) holds.0;
    edges = λ f b d. ap (λ es. unwrap_or (lookup (is_at (triple_cmp (f, b, d))) es) 0) holds.1;
  };
}

last_of_two : (here : Bool) (m n : ℕ) → unwrap_or (cond here (Some n) None) 0 ≡ cond here n (cond here m 0)
last_of_two true m n = refl
last_of_two false m n = refl

last_of_one : (here : Bool) (n : ℕ) → unwrap_or (cond here (Some n) None) 0 ≡ cond here n 0
last_of_one true n = refl
last_of_one false n = refl

replaced_rows : List Row
replaced_rows = record { visit = AlongEdge 0 0 1; count = 2 } ∷ record { visit = AtBlock 3 1; count = 3 } ∷ record { visit = AtBlock 3 1; count = 5 } ∷ []

replaced_fit : AllByRecursion Fits replaced_rows
unfolding replaced_rows
replaced_fit = (((omega arith, omega arith, omega arith), omega arith), (((omega arith, omega arith), omega arith), (((omega arith, omega arith), omega arith), tt)))

replaced_text : codes "profile 1\nedge 0 0 1 2\nblock 3 1 3\nblock 3 1 5\n" ≡ header ++ flat_map row_text replaced_rows
unfolding replaced_rows number_text
replaced_text = refl

replaced_given : (c : Counts) → Holds c (((3, 1), 5) ∷ []) (((0, 0, 1), 2) ∷ []) → GivenBy c replaced_rows
unfolding replaced_rows
replaced_given c holds = record {
  blocks = λ f b.
      ap (λ es. unwrap_or (lookup (is_at (pair_cmp (f, b))) es) 0) holds.0
      ∙ ap (λ here. unwrap_or (cond here (Some 5) None) 0) (at_pair f b 3 1 ∙ flip_two f b 3 1)
      ∙ last_of_two ((3 == f) && (1 == b)) 3 5;
  edges = λ f b d.
      ap (λ es. unwrap_or (lookup (is_at (triple_cmp (f, b, d))) es) 0) holds.1
      ∙ ap (λ here. unwrap_or (cond here (Some 2) None) 0) (at_triple f b d 0 0 1 ∙ flip_three f b d 0 0 1)
      ∙ last_of_one ((0 == f) && (0 == b) && (1 == d)) 2;
}

written_rows : (c : Counts) → Holds c (((0, 0), 2) ∷ ((0, 1), 0) ∷ ((1, 0), 10) ∷ []) (((0, 0, 1), 2) ∷ []) → counts_text c ≡ codes "profile 1\nblock 0 0 2\nblock 1 0 10\nedge 0 0 1 2\n"
unfolding number_text
written_rows c holds =
    ap (λ es. header ++ flat_map row_text (filter is_passed (map block_row es) ++ filter is_passed (map edge_row c.edges.entries))) holds.0
    ∙ ap (λ es. header ++ flat_map row_text (filter is_passed (map block_row (((0, 0), 2) ∷ ((0, 1), 0) ∷ ((1, 0), 10) ∷ [])) ++ filter is_passed (map edge_row es))) holds.1

pub text_example : TextExample
text_example = record {
  nothing = nothing_given;
  replaced = λ c holds. record { rows = replaced_rows; fit = replaced_fit; text = replaced_text; given = replaced_given c holds };
  empty = bad_header [] no_header;
  unended_header = bad_header (codes "profile 1") no_feed;
  unended = bad_row (codes "profile 1\nblock 0 0 1") (codes "block 0 0 1") 2 (second 98 (codes "lock 0 0 1")) unended_row;
  leading_zero = bad_row (codes "profile 1\nblock 00 0 1\n") (codes "block 00 0 1\n") 2 (second 98 (codes "lock 00 0 1\n")) zero_row;
  large_block = bad_row (codes "profile 1\nblock 0 4294967296 18446744073709551616\n") (codes "block 0 4294967296 18446744073709551616\n") 2 (second 98 (codes "lock 0 4294967296 18446744073709551616\n")) large_block_row;
  no_target = bad_row (codes "profile 1\nblock 0 0 1\nedge 0 0 1\n") (codes "edge 0 0 1\n") 3 third short_row;
  large_count = large_row (codes "profile 1\nblock 0 0 18446744073709551616\n") (codes "block 0 0 18446744073709551616\n") [] 2 (AtBlock 0 0) (second 98 (codes "lock 0 0 18446744073709551616\n")) counted_row;
  written = written_rows;
}
