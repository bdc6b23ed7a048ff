-- The shape of the graph of a function of an accepted program, and how many values it has.
use Rattle.std.specs.Prelude.{◌≡◌, ℕ, suc, ◌+◌, ◌*◌, ◌<◌, ◌≤◌, true, List, length, map, count_by, Some, slice_get}
use Rattle.vx_ast.specs.Accepted.{code_nodes, function_nodes, scalars_of, numbers_taken, arrays_taken}
use Rattle.vx_ast.specs.Tree.{Function, Program}
use Rattle.vx_flow.specs.declared.graph.Graph.{Graph}
use Rattle.vx_flow.specs.Sound.{are_distinct, begins_with}
use Rattle.vx_lower.specs.FlowOf.{is_general, is_branch}
use Rattle.vx_lower.specs.LoweredGraphs.{NamedByNumber}
use Rattle.vx_lower.specs.declared.seen.Seen.TheVariants.{Handed}
use Rattle.vx_lower.specs.Seen.{Sees, seen_at}
use Rattle.vx_lower.specs.Lowered.{global_of, sees_of, first_value}
use Rattle.vx_lower.specs.Named.{Known, CodeNamed}
use Rattle.vx_lower.specs.Fits.{Role, Shaped}
use Rattle.vx_lower.specs.Shape.{finally, WellShaped}
use Rattle.vx_lower.specs.declared.builder.Builder.{Builder}

-- the values of an array parameter: where it stands, and behind it how many words it has
abbrev pub IsPair : Function → (base size : ℕ) → Type 0
IsPair f base size = (j : ℕ) × (j < arrays_taken f) × (base ≡ f.scalars + 2 * j) × (size ≡ suc (f.scalars + 2 * j))

-- what is known in a function of a program
abbrev pub known_of : (p : Program) (f : Function) → Known (sees_of p f)
known_of p f = record { parameters = map (λ g. g.takes) p.functions }

-- what a function's body names is there, and its scalars are its parameters and no more than those that it declares
pub record FunctionNamed (p : Program) (f : Function) : Type 0 where
  pub named : CodeNamed (known_of p f) f.body
  pub parameters : f.parameters ≤ f.scalars
  pub counts : f.parameters ≡ numbers_taken f
  pub scalars : f.scalars ≤ f.parameters + length (scalars_of f.body)

-- a whole body, whose last block returns
pub record BodyShape {words : Sees} (k : Known words) (f : Function) (texts : ℕ) (b : Builder) : Type 0 where
  pub roles : List Role
  pub last : Builder
  pub shaped : Shaped k texts roles last
  pub is : b ≡ finally last
  pub general_values : count_by is_general b.banks + length (scalars_of f.body) ≤ first_value f + 3 * code_nodes f.body
  pub branch_values : count_by is_branch b.banks ≤ 2 * code_nodes f.body

-- the function sees its scalars, and the values of what is handed over stand behind them, each in one place
pub record WordsFit (words : Sees) (f : Function) : Type 0 where
  pub scalars : words.scalars ≡ f.scalars
  pub handed : (a : ℕ) (base size : ℕ) → seen_at words a ≡ Handed base size → (slice_get words.arrays a ≡ Some (Handed base size)) × IsPair f base size
  pub all : (j : ℕ) → j < arrays_taken f → (a : ℕ) × (slice_get words.arrays a ≡ Some (Handed (f.scalars + 2 * j) (suc (f.scalars + 2 * j))))

abbrev pub BodyWell : (words : Sees) → Function → Builder → (after : List (List ℕ)) → Type 0
BodyWell words f b after = (k : Known words) → WordsFit words f → CodeNamed k f.body → BodyShape k f (length after) b

-- the graph of a function
pub record GraphShape (p : Program) (f : Function) (g : Graph) (texts : ℕ) : Type 0 where
  pub shape : WellShaped (known_of p f) texts g
  pub general_values : count_by is_general g.banks ≤ 3 * function_nodes f
  pub branch_values : count_by is_branch g.banks ≤ 2 * function_nodes f
  pub distinct : are_distinct g.parameters ≡ true
  pub globals : begins_with (map global_of p.globals) g.arrays ≡ true
  pub named : NamedByNumber g

abbrev pub GraphWell : Program → Function → Graph → (after : List (List ℕ)) → Type 0
GraphWell p f g after = FunctionNamed p f → GraphShape p f g (length after)

-- the graphs of functions
abbrev pub GraphsWell : Program → List Function → List Graph → (after : List (List ℕ)) → Type 0
GraphsWell p fs gs after = (i : ℕ) (f : Function) (g : Graph) → slice_get fs i ≡ Some f → slice_get gs i ≡ Some g → GraphWell p f g after
