-- What functions that are laid out as words do, with every write landing at the next word. The word at place p is the block
-- p + 1 of the run, and block 0 is the start of the function.
use Rattle.std.specs.Prelude.{ℕ, zero, suc, ℤ, Option, Some, None, List, [], ◌∷◌, length, map, slice_get}
use Rattle.vx_base.specs.Outcome.{Outcome}
use Rattle.vx_flow.specs.declared.graph.Graph.{Graph}
use Rattle.vx_flow.specs.declared.graph.Flow.{Flow}
use Rattle.vx_flow.specs.Effects.{State, Setting, held, effect}
use Rattle.vx_flow.specs.Meaning.{Hop, Arrives, Stops, Wrong, known, by_test, calls, leaves, and_then, Body, Program, bases_of, own_of, at_start, globals_at_start, program_run}
use Rattle.vx_mixed.specs.declared.layout.Laid.{Laid}
use Rattle.vx_mixed.specs.declared.layout.Laid.TheVariants.{Plain, Split}
use Rattle.vx_mixed.specs.declared.layout.VirtualWord.{VirtualWord}
use Rattle.vx_mixed.specs.declared.layout.VirtualWord.TheVariants.{Planned, Drain, Transfer, Choice, Call, Return, Ends}
use Rattle.vx_mixed.specs.declared.layout.VWords.{VWords}
use Rattle.vx_mixed.specs.Meaning.{into, leaves_on, picked}

-- the operations of a word all read in s
abbrev pub laid_effect : Setting → State → List Laid → State → Option State
laid_effect setting s [] t = Some t
laid_effect setting s (Plain op cluster ∷ items) t = into (effect setting s op t) (laid_effect setting s items)
laid_effect setting s (Split p y q ∷ items) t = laid_effect setting s items t

-- the place of the first split that is taken, else the next one; none where a test is undefined
abbrev pub laid_next : State → (next : ℕ) → List Laid → Option ℕ
laid_next s next [] = Some next
laid_next s next (Plain op cluster ∷ items) = laid_next s next items
laid_next s next (Split p y q ∷ items) = picked (leaves_on (s.values p) y) None (Some q) (laid_next s next items)

-- from the word at one place to that at another
abbrev pub moves : (from to : ℕ) → State → Hop
moves p q s = Arrives (suc p) (suc q) s

abbrev pub moves_to : (from : ℕ) → Option ℕ → State → Hop
moves_to p None s = Wrong
moves_to p (Some q) s = moves p q s

-- the word at place p; a call goes on with the next word
abbrev pub word_hop : Setting → (place : ℕ) → VirtualWord → State → Hop
word_hop setting p (Planned r w items) s = and_then (laid_effect setting s items s) (moves_to p (laid_next s (suc p) items))
word_hop setting p (Drain n) s = moves p (suc p) s
word_hop setting p (Transfer q) s = moves p q s
word_hop setting p (Choice test q) s = by_test (s.values test) (moves p q s) (moves p (suc p) s)
word_hop setting p (Call g arguments result) s = calls g (known (map (held s) arguments)) result (suc p) (suc (suc p)) s
word_hop setting p (Return x) s = leaves (held s x) s
word_hop setting p (Ends k) s = Stops k s

abbrev pub some_word_hop : Setting → ℕ → Option VirtualWord → State → Hop
some_word_hop setting p None s = Wrong
some_word_hop setting p (Some word) s = word_hop setting p word s

abbrev pub laid_hop : Setting → VWords → (block : ℕ) → State → Hop
laid_hop setting l zero s = Arrives 0 (suc l.entry) s
laid_hop setting l (suc p) s = some_word_hop setting p (slice_get l.words p) s

-- programs

-- the layout of a function's graph as the run of a program needs it
abbrev pub laid_body : (globals : ℕ) → Option Graph → Option VWords → Option Body
laid_body globals None l = None
laid_body globals (Some graph) None = None
laid_body globals (Some graph) (Some l) = Some (record { parameters = graph.parameters; bases = bases_of globals graph; own = own_of globals graph; hop = λ setting b s. laid_hop setting l b s })

-- the program of a flow with these layouts in place of its graphs
abbrev pub laid_program : Flow → List VWords → Program
laid_program flow ls = record { globals = length flow.globals; texts = flow.texts; body = λ f. laid_body (length flow.globals) (slice_get flow.functions f) (slice_get ls f) }

-- what it does with an input, in at most so many words
abbrev pub laid_run : Flow → List VWords → List ℤ → ℕ → Outcome
laid_run flow ls input n = program_run (laid_program flow ls) n (at_start (laid_program flow ls) flow.main (globals_at_start flow input))
