-- The text of a report, version 1: how each trace of a program was placed, in the order of the plan, then how many values are kept
-- in slots and how many operations were copied. Every line ends with one line feed, and its fields stand apart by one blank.
use Rattle.std.specs.Prelude.{ℕ, ◌+◌, List, [], ◌∷◌, ◌++◌, Option, Some, None, map, slice_get, codes, decimal}
use Rattle.std.specs.List.{flat_map}
use Rattle.vx_ast.specs.Tree.{Function, Program}
use Rattle.vx_flow.specs.declared.trace.TraceOp.{TraceOp}
use Rattle.vx_dep.specs.declared.copies.EdgeCopies.{EdgeCopies}
use Rattle.vx_dep.specs.declared.copies.Rejoin.{Rejoin}
use Rattle.vx_dep.specs.declared.mode.Mode.{Mode}
use Rattle.vx_dep.specs.declared.mode.Mode.TheVariants.{Free, Barred}
use Rattle.vx_dep.specs.Compensation.{word_at}
use Rattle.vx_target.specs.declared.finished.TracePlaces.{TracePlaces}
use Rattle.vx_region.specs.declared.trace_plan.TracePlan.{TracePlan}
use Rattle.vx_report.specs.declared.plan.Plan.{Plan}

-- numbers

abbrev pub behind_blank : ℕ → List ℕ
behind_blank n = codes " " ++ decimal n

abbrev pub list_text : List ℕ → List ℕ
list_text ns = flat_map behind_blank ns

-- a line of a word and numbers; without numbers it ends behind the word
abbrev pub numbers_line : (word : List ℕ) → List ℕ → List ℕ
numbers_line word ns = word ++ list_text ns ++ codes "\n"

-- names

abbrev pub names_of : Program → List (List ℕ)
names_of p = map (λ (f : Function). f.name) p.functions

abbrev pub name_in : Option (List ℕ) → List ℕ
name_in None = []
name_in (Some name) = name

abbrev pub name_at : List (List ℕ) → ℕ → List ℕ
name_at names f = name_in (slice_get names f)

-- a trace

abbrev pub mode_text : Mode → List ℕ
mode_text Free = codes "free"
mode_text Barred = codes "barred"

-- its number in the whole plan, its function, how often its seed was passed, its mode, and how many words it takes
abbrev pub seed_text : ℕ → (name : List ℕ) → TracePlan → List ℕ
seed_text i name t =
    codes "trace " ++ decimal i ++ codes " function " ++ name ++ codes " count " ++ decimal t.count ++ codes " mode " ++ mode_text t.mode ++ codes " words " ++ decimal t.placed.length ++ codes "\n"

abbrev pub op_line : (place word cluster : ℕ) → List ℕ
op_line place word cluster = codes "op " ++ decimal place ++ codes " word " ++ decimal word ++ codes " cluster " ++ decimal cluster ++ codes "\n"

-- each operation of the clustered trace, of which the first stands at this place
abbrev pub ops_text : (words clusters : List ℕ) → ℕ → List TraceOp → List ℕ
ops_text words clusters place [] = []
ops_text words clusters place (op ∷ ops) = op_line place (word_at words place) (word_at clusters place) ++ ops_text words clusters (place + 1) ops

-- the place of the split, and those of the operations that are copied onto its edge
abbrev pub split_line : EdgeCopies → List ℕ
split_line x = codes "split " ++ decimal x.split ++ numbers_line (codes " copies") x.copies

-- the block of the join, the word at which its edges enter, and the places of the operations that are copied onto them
abbrev pub join_line : Rejoin → List ℕ
join_line x = codes "join " ++ decimal x.block ++ codes " rejoin " ++ decimal x.word ++ numbers_line (codes " copies") x.copies

abbrev pub placed_text : TracePlan → List ℕ
placed_text t =
    numbers_line (codes "blocks") t.blocks ++ ops_text t.placed.words t.placed.clustered.clusters 0 t.placed.clustered.trace.ops
    ++ flat_map split_line t.splits ++ flat_map join_line t.rejoins

-- and where its words stand in the program of words
abbrev pub trace_text : ℕ → (name : List ℕ) → TracePlan → (places : List ℕ) → List ℕ
trace_text i name t places = seed_text i name t ++ placed_text t ++ numbers_line (codes "places") places

-- all traces

abbrev pub places_in : Option TracePlaces → List ℕ
places_in None = []
places_in (Some trace) = trace.places

abbrev pub places_at : List TracePlaces → ℕ → List ℕ
places_at places i = places_in (slice_get places i)

-- of which the first has this number
abbrev pub traces_text : (names : List (List ℕ)) → List TracePlaces → ℕ → List TracePlan → List ℕ
traces_text names places i [] = []
traces_text names places i (t ∷ ts) = trace_text i (name_at names t.function) t (places_at places i) ++ traces_text names places (i + 1) ts

abbrev pub sums_text : (spilled copies : ℕ) → List ℕ
sums_text spilled copies = codes "spilled " ++ decimal spilled ++ codes "\ncopies " ++ decimal copies ++ codes "\nend\n"

-- the report of a plan, with the names of the functions in the order of their numbers
abbrev pub report_text : Plan → (names : List (List ℕ)) → List ℕ
report_text plan names = codes "plan 1\n" ++ traces_text names plan.places 0 plan.traces ++ sums_text plan.spilled plan.copies
