-- What stood before a line, as a text and as a part of a program; each line that is taken adds its text to it.
use Rattle.std.proofs.Common.{◌≡◌, ℕ, ◌+◌, ◌%◌, ℤ, Bool, true, false, List, [], ◌∷◌, ◌++◌, length, get_or, Ok, refl, sym, subst}
use Rattle.std.specs.Prelude.{nat_eq, nat_le, if◌then◌else◌}
use Rattle.std.specs.List.{flat_map, list_all}
use Rattle.vx_isa.specs.declared.operation.Operation.{Operation}
use Rattle.vx_isa.specs.declared.program.Word.{Word}
use Rattle.vx_isa.specs.Sound.{is_version, is_start, is_sound_word, is_sound_operation}
use Rattle.vx_reader.specs.declared.before.Stage.{Stage}
use Rattle.vx_reader.specs.declared.before.Stage.TheVariants.{Start, Version, Memory, Texts, WordEnd, Label, Operations, Idle}
use Rattle.vx_reader.specs.declared.before.Before.{Before}
use Rattle.vx_words.specs.Spelling.{line, version_text, header, start_line, text_line, word_lines, label_line, operation_line, idle_text}
use Rattle.vx_reader.specs.Steps.{beginning, accepted}

-- the words from place p on, with labels where marks say so
abbrev pub words_by : List Bool → ℕ → List Word → List ℕ
words_by marks p [] = []
words_by marks p (w ∷ ws) = (if get_or marks p false then label_line p else []) ++ word_lines w ++ words_by marks (p + 1) ws

abbrev pub label_at : List Bool → ℕ → List ℕ
label_at marks p = if get_or marks p false then label_line p else []

abbrev pub body : List Bool → ℕ → ℕ → List (ℕ × ℤ) → List (List ℕ) → List Word → List ℕ
body marks v m st ts ws = header v m ++ flat_map start_line st ++ flat_map text_line ts ++ words_by marks 0 ws

-- the text of what stood before
abbrev pub text_by : List Bool → Stage → Before → List ℕ
text_by marks Start s = []
text_by marks Version s = line (version_text s.version)
text_by marks Memory s = body marks s.version s.memory s.start s.texts s.words
text_by marks Texts s = body marks s.version s.memory s.start s.texts s.words
text_by marks WordEnd s = body marks s.version s.memory s.start s.texts s.words
text_by marks Label s = body marks s.version s.memory s.start s.texts s.words ++ label_line (length s.words)
text_by marks Operations s = body marks s.version s.memory s.start s.texts s.words ++ (label_at marks (length s.words) ++ flat_map operation_line s.ops)
text_by marks Idle s = body marks s.version s.memory s.start s.texts s.words ++ (label_at marks (length s.words) ++ line (idle_text s.idle))

abbrev pub so_far : List Bool → Before → List ℕ
so_far marks s = text_by marks s.stage s

-- the least address behind entries
abbrev pub least_behind : ℕ → List (ℕ × ℤ) → ℕ
least_behind l [] = l
least_behind l (p ∷ ps) = least_behind (p.0 + 1) ps

pub record Parts (total v m l : ℕ) (st : List (ℕ × ℤ)) (ts : List (List ℕ)) (ws : List Word) : Type 0 where
  pub version : is_version v ≡ true
  pub whole : nat_eq (m % 4) 0 ≡ true
  pub small : nat_le m 134217728 ≡ true
  pub start : is_start m 0 st ≡ true
  pub least : least_behind 0 st ≡ l
  pub words : list_all (is_sound_word total (length ts)) ws ≡ true

abbrev pub shape : Stage → ℕ → ℕ → ℕ → List (ℕ × ℤ) → List (List ℕ) → List Word → List Operation → ℕ → Before
shape stage v m l st ts ws ops n = record { stage = stage; version = v; memory = m; start = st; least = l; texts = ts; words = ws; ops = ops; idle = n }

-- what stood before is a part of a sound program
pub data Good (marks : List Bool) (total : ℕ) (s : Before) : Type 0 where
  at_start : s ≡ beginning → Good marks total s
  at_version : (v : ℕ) → is_version v ≡ true → s ≡ shape Version v 0 0 [] [] [] [] 0 → Good marks total s
  at_memory : (v m l : ℕ) (st : List (ℕ × ℤ)) → Parts total v m l st [] [] → s ≡ shape Memory v m l st [] [] [] 0 → Good marks total s
  at_texts : (v m l : ℕ) (st : List (ℕ × ℤ)) (ts : List (List ℕ)) → Parts total v m l st ts [] → s ≡ shape Texts v m l st ts [] [] 0 → Good marks total s
  at_word_end : (v m l : ℕ) (st : List (ℕ × ℤ)) (ts : List (List ℕ)) (ws : List Word) → Parts total v m l st ts ws → s ≡ shape WordEnd v m l st ts ws [] 0 → Good marks total s
  at_label : (v m l : ℕ) (st : List (ℕ × ℤ)) (ts : List (List ℕ)) (ws : List Word) → Parts total v m l st ts ws → get_or marks (length ws) false ≡ true
      → s ≡ shape Label v m l st ts ws [] 0 → Good marks total s
  at_operations : (v m l : ℕ) (st : List (ℕ × ℤ)) (ts : List (List ℕ)) (ws : List Word) (ops : List Operation) → Parts total v m l st ts ws
      → list_all (is_sound_operation total (length ts)) ops ≡ true → s ≡ shape Operations v m l st ts ws ops 0 → Good marks total s
  at_idle : (v m l : ℕ) (st : List (ℕ × ℤ)) (ts : List (List ℕ)) (ws : List Word) (n : ℕ) → Parts total v m l st ts ws → nat_le 1 n ≡ true → nat_le n 255 ≡ true
      → s ≡ shape Idle v m l st ts ws [] n → Good marks total s

-- cases of what stood before
pub record Cases (marks : List Bool) (total : ℕ) (P : Before → Type 0) : Type 0 where
  pub start : P beginning
  pub version : (v : ℕ) → is_version v ≡ true → P (shape Version v 0 0 [] [] [] [] 0)
  pub memory : (v m l : ℕ) (st : List (ℕ × ℤ)) → Parts total v m l st [] [] → P (shape Memory v m l st [] [] [] 0)
  pub texts : (v m l : ℕ) (st : List (ℕ × ℤ)) (ts : List (List ℕ)) → Parts total v m l st ts [] → P (shape Texts v m l st ts [] [] 0)
  pub word_end : (v m l : ℕ) (st : List (ℕ × ℤ)) (ts : List (List ℕ)) (ws : List Word) → Parts total v m l st ts ws → P (shape WordEnd v m l st ts ws [] 0)
  pub label : (v m l : ℕ) (st : List (ℕ × ℤ)) (ts : List (List ℕ)) (ws : List Word) → Parts total v m l st ts ws → get_or marks (length ws) false ≡ true → P (shape Label v m l st ts ws [] 0)
  pub operations : (v m l : ℕ) (st : List (ℕ × ℤ)) (ts : List (List ℕ)) (ws : List Word) (ops : List Operation) → Parts total v m l st ts ws
      → list_all (is_sound_operation total (length ts)) ops ≡ true → P (shape Operations v m l st ts ws ops 0)
  pub idle : (v m l : ℕ) (st : List (ℕ × ℤ)) (ts : List (List ℕ)) (ws : List Word) (n : ℕ) → Parts total v m l st ts ws → nat_le 1 n ≡ true → nat_le n 255 ≡ true
      → P (shape Idle v m l st ts ws [] n)

pub by_cases : (marks : List Bool) (total : ℕ) (P : Before → Type 0) (s : Before) → Cases marks total P → Good marks total s → P s
by_cases marks total P s k (at_start e) = subst P (sym e) k.start
by_cases marks total P s k (at_version v known e) = subst P (sym e) (k.version v known)
by_cases marks total P s k (at_memory v m l st parts e) = subst P (sym e) (k.memory v m l st parts)
by_cases marks total P s k (at_texts v m l st ts parts e) = subst P (sym e) (k.texts v m l st ts parts)
by_cases marks total P s k (at_word_end v m l st ts ws parts e) = subst P (sym e) (k.word_end v m l st ts ws parts)
by_cases marks total P s k (at_label v m l st ts ws parts marked e) = subst P (sym e) (k.label v m l st ts ws parts marked)
by_cases marks total P s k (at_operations v m l st ts ws ops parts all e) = subst P (sym e) (k.operations v m l st ts ws ops parts all)
by_cases marks total P s k (at_idle v m l st ts ws n parts low high e) = subst P (sym e) (k.idle v m l st ts ws n parts low high)

-- the line adds its text, and names nothing
pub record Extends (marks : List Bool) (total : ℕ) (s : Before) (text : List ℕ) (t : Before) : Type 0 where
  pub spelled : so_far marks t ≡ so_far marks s ++ line text
  pub good : Good marks total t
  pub words : t.words ≡ s.words
  pub ops : t.ops ≡ s.ops

pub accepted_ok : (b : Bool) (x t : Before) → accepted b x ≡ Ok t → (b ≡ true) × (x ≡ t)
accepted_ok true x t e = (refl, cc)
accepted_ok false x t e = absurd cc
