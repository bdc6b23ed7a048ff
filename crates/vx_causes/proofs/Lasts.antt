-- Lists of lines: the last one by its first letter, which ones are among them, and how many of a sort.
use Rattle.std.proofs.Common.{◌≡◌, ◌⊎◌, inl, inr, ℕ, ◌+◌, Bool, cond, List, [], ◌∷◌, ◌++◌, refl, ap, ◌∙◌}
use Rattle.std.specs.Prelude.{nat_eq, if◌then◌else◌}
use Rattle.std.proofs.lemmas.List.Sums.{sum_by_push}
use Rattle.vx_reader.specs.Text.{word_count, is_word_end}
use Rattle.vx_causes.specs.Lines.{Line, Version, Memory, Start, Quoted, Label, Operates, Idle, WordEnd, End, text_of, IsLast, IsAmong, is_quoted, text_count}

-- the first letter of a line, behind a point

abbrev second : List ℕ → ℕ
second [] = 0
second (c ∷ cs) = c

abbrev pub initial : List ℕ → ℕ
initial [] = 0
initial (c ∷ cs) = if nat_eq c 46 then second cs else c

abbrev last_from : List ℕ → List (List ℕ) → ℕ
last_from l [] = initial l
last_from l (m ∷ ms) = last_from m ms

abbrev pub last_initial : List (List ℕ) → ℕ
last_initial [] = 0
last_initial (l ∷ ls) = last_from l ls

last_from_more : (l : List ℕ) (front : List (List ℕ)) (t : List ℕ) → last_from l (front ++ t ∷ []) ≡ initial t
last_from_more l [] t = refl
last_from_more l (m ∷ ms) t = last_from_more m ms t

last_of : (front : List (List ℕ)) (t : List ℕ) → last_initial (front ++ t ∷ []) ≡ initial t
last_of [] t = refl
last_of (l ∷ ls) t = last_from_more l ls t

abbrev pub line_initial : Line → ℕ
line_initial (Version v) = 118
line_initial (Memory n) = 109
line_initial (Start entry) = 119
line_initial (Quoted bytes) = 116
line_initial (Label p) = 76
line_initial (Operates op) = 99
line_initial (Idle n) = 120
line_initial WordEnd = 59
line_initial End = 101

pub initial_of : (l : Line) → initial (text_of l) ≡ line_initial l
initial_of (Version v) = refl
initial_of (Memory n) = refl
initial_of (Start entry) = refl
initial_of (Quoted bytes) = refl
initial_of (Label p) = refl
initial_of (Operates op) = refl
initial_of (Idle n) = refl
initial_of WordEnd = refl
initial_of End = refl

pub is_last_initial : (before : List (List ℕ)) (l : Line) → IsLast before l → last_initial before ≡ line_initial l
is_last_initial before l x = ap last_initial x.is ∙ last_of x.front (text_of l) ∙ initial_of l

pub behind : (before : List (List ℕ)) (text : List ℕ) (l : Line) → text ≡ text_of l → IsLast (before ++ text ∷ []) l
behind before text l e = record { front = before; is = ap (λ x. before ++ x ∷ []) e }

-- the last lines of two lists that are the same
pub same_last : (a b : List (List ℕ)) (x y : List ℕ) → a ++ x ∷ [] ≡ b ++ y ∷ [] → x ≡ y
same_last [] [] x y e = cc
same_last [] (m ∷ []) x y e = absurd cc
same_last [] (m ∷ n ∷ ms) x y e = absurd cc
same_last (l ∷ []) [] x y e = absurd cc
same_last (l ∷ k ∷ ls) [] x y e = absurd cc
same_last (l ∷ ls) (m ∷ ms) x y e = let h : ls ++ x ∷ [] ≡ ms ++ y ∷ [] = cc in same_last ls ms x y h

-- among lines

pub among_left : (x : List ℕ) (a b : List (List ℕ)) → IsAmong x a → IsAmong x (a ++ b)
among_left x [] b h = absurd h
among_left x (l ∷ ls) b (inl e) = inl e
among_left x (l ∷ ls) b (inr h) = inr (among_left x ls b h)

pub among_right : (x : List ℕ) (a b : List (List ℕ)) → IsAmong x b → IsAmong x (a ++ b)
among_right x [] b h = h
among_right x (l ∷ ls) b h = inr (among_right x ls b h)

pub among_either : (x : List ℕ) (a b : List (List ℕ)) → IsAmong x (a ++ b) → IsAmong x a ⊎ IsAmong x b
among_either x [] b h = inr h
among_either x (l ∷ ls) b (inl e) = inl (inl e)
among_either x (l ∷ ls) b (inr h) = elim (among_either x ls b h) [ inl y ↦ inl (inr y) | inr y ↦ inr y ]

pub among_more : (x : List ℕ) (a : List (List ℕ)) (l : List ℕ) → IsAmong x a → IsAmong x (a ++ l ∷ [])
among_more x a l h = among_left x a (l ∷ []) h

pub among_last : (x : List ℕ) (a : List (List ℕ)) (l : List ℕ) → x ≡ l → IsAmong x (a ++ l ∷ [])
among_last x a l e = among_right x a (l ∷ []) (inl e)

pub among_split : (x : List ℕ) (a : List (List ℕ)) (l : List ℕ) → IsAmong x (a ++ l ∷ []) → IsAmong x a ⊎ (x ≡ l)
among_split x a l h = elim (among_either x a (l ∷ []) h) [ inl y ↦ inl y | inr y ↦ inr (alone y) ]
  where
    alone : IsAmong x (l ∷ []) → x ≡ l
    alone (inl e) = e
    alone (inr n) = absurd n

-- counts

abbrev pub one_of : Bool → ℕ
one_of b = cond b 1 0

pub word_count_more : (ls : List (List ℕ)) (l : List ℕ) → word_count (ls ++ l ∷ []) ≡ word_count ls + one_of (is_word_end l)
word_count_more ls l = sum_by_push (λ x. cond (is_word_end x) 1 0) ls l

pub text_count_more : (ls : List (List ℕ)) (l : List ℕ) → text_count (ls ++ l ∷ []) ≡ text_count ls + one_of (is_quoted l)
text_count_more ls l = sum_by_push (λ x. cond (is_quoted x) 1 0) ls l
