-- What a sound program says of one of its words.
use Rattle.std.proofs.Common.{◌≡◌, ℕ, zero, suc, ◌≤◌, ◌<◌, Bool, true, false, ◌&&◌, not, if◌then◌else◌, Option, Some, None, List, [], ◌∷◌, map, length, slice_get, get_or, refl, sym, ap, subst, ◌∙◌, arith, nat_lt, ltb-true, ltb-false}
use Rattle.std.specs.List.{list_all, list_any}
use Rattle.vx_base.specs.declared.arithmetic.Code.{Code}
use Rattle.vx_base.specs.declared.arithmetic.Code.TheVariants.{Add, Sub, And, Or, Xor, Shl, Shr, Shru, Sh2add, Max, Min, Mov, ToGeneral, ToBranch, Mpylu, Mpyhs, Div, Rem}
use Rattle.vx_base.specs.declared.outcome.Reason.{Reason}
use Rattle.vx_base.specs.declared.outcome.Reason.TheVariants.{BadWord, Overfull, BadAddress, NoInputLeft}
use Rattle.vx_isa.specs.declared.operation.Register.{Register}
use Rattle.vx_isa.specs.declared.operation.Register.TheVariants.{General, Branch, Link}
use Rattle.vx_isa.specs.declared.operation.Operation.{Operation}
use Rattle.vx_isa.specs.declared.operation.Operation.TheVariants.{Compute, Move, Select, Load, Store, Input, More, OutText, OutDecimal, OutByte, Goto, BranchOn, Call, Return, FromLink, ToLink, EndByTrap, Halt}
use Rattle.vx_isa.specs.declared.program.Word.{Word}
use Rattle.vx_isa.specs.declared.program.WordProgram.{WordProgram}
use Rattle.vx_isa.specs.Numbers.{Numbers}
use Rattle.vx_isa.specs.Fits.{is_bad_word, fits}
use Rattle.vx_isa.specs.Sound.{can_name, can_name_branch, can_spell, is_destination, is_sound_operation, is_sound_word, is_sound}
use Rattle.vx_isa.specs.Machine.{State, has_bad_address, takes_input, is_left, stuck_by}
use Rattle.vx_sim.specs.Named.{is_register, names_register}
use Rattle.vx_sim.specs.Room.{widest}
use Rattle.vx_sim.specs.Shapes.{unfit_of, width_by, shape_of, stuck_here}
use Rattle.vx_sim.specs.declared.shape.Shape.{Shape}

pub and_left : (a b : Bool) → (a && b) ≡ true → a ≡ true
and_left true b e = refl
and_left false b e = e

and_right : (a b : Bool) → (a && b) ≡ true → b ≡ true
and_right true b e = e
and_right false b e = absurd (cc)

and_true : (a : Bool) → a ≡ true → (a && true) ≡ true
and_true a e = ap (λ b. b && true) e

-- the destination of a sound computation
named_by : (code : Code) (to : Register) → is_destination code to ≡ true → is_register to ≡ true
named_by Mov to e = absurd (cc)
named_by (ToBranch c) (General r) e = absurd (cc)
named_by (ToBranch c) (Branch r) e = e
named_by (ToBranch c) Link e = absurd (cc)
named_by Add (General r) e = e
named_by Add (Branch r) e = absurd (cc)
named_by Add Link e = absurd (cc)
named_by Sub (General r) e = e
named_by Sub (Branch r) e = absurd (cc)
named_by Sub Link e = absurd (cc)
named_by And (General r) e = e
named_by And (Branch r) e = absurd (cc)
named_by And Link e = absurd (cc)
named_by Or (General r) e = e
named_by Or (Branch r) e = absurd (cc)
named_by Or Link e = absurd (cc)
named_by Xor (General r) e = e
named_by Xor (Branch r) e = absurd (cc)
named_by Xor Link e = absurd (cc)
named_by Shl (General r) e = e
named_by Shl (Branch r) e = absurd (cc)
named_by Shl Link e = absurd (cc)
named_by Shr (General r) e = e
named_by Shr (Branch r) e = absurd (cc)
named_by Shr Link e = absurd (cc)
named_by Shru (General r) e = e
named_by Shru (Branch r) e = absurd (cc)
named_by Shru Link e = absurd (cc)
named_by Sh2add (General r) e = e
named_by Sh2add (Branch r) e = absurd (cc)
named_by Sh2add Link e = absurd (cc)
named_by Max (General r) e = e
named_by Max (Branch r) e = absurd (cc)
named_by Max Link e = absurd (cc)
named_by Min (General r) e = e
named_by Min (Branch r) e = absurd (cc)
named_by Min Link e = absurd (cc)
named_by (ToGeneral c) (General r) e = e
named_by (ToGeneral c) (Branch r) e = absurd (cc)
named_by (ToGeneral c) Link e = absurd (cc)
named_by Mpylu (General r) e = e
named_by Mpylu (Branch r) e = absurd (cc)
named_by Mpylu Link e = absurd (cc)
named_by Mpyhs (General r) e = e
named_by Mpyhs (Branch r) e = absurd (cc)
named_by Mpyhs Link e = absurd (cc)
named_by Div (General r) e = e
named_by Div (Branch r) e = absurd (cc)
named_by Div Link e = absurd (cc)
named_by Rem (General r) e = e
named_by Rem (Branch r) e = absurd (cc)
named_by Rem Link e = absurd (cc)

-- a sound operation writes a register that a text can name
names_it : (n t : ℕ) (op : Operation) → is_sound_operation n t op ≡ true → names_register op ≡ true
names_it n t (Compute k code to a b) e =
    let e1 = and_left _ (can_spell b) e in
    let e2 = and_left _ (can_spell a) e1 in
    and_true (is_register to) (named_by code to (and_right _ _ e2))
names_it n t (Move k to a) e = let e1 = and_left _ (can_spell a) e in and_true (can_name to) (and_right _ _ e1)
names_it n t (Select k to u a b) e =
    let e1 = and_left _ (can_spell b) e in
    let e2 = and_left _ (can_spell a) e1 in
    let e3 = and_left _ (can_name_branch u) e2 in
    and_true (can_name to) (and_right _ _ e3)
names_it n t (Load k to o r d) e = let e1 = and_left _ (can_name r) e in and_true (can_name to) (and_right _ _ e1)
names_it n t (Store k o r a) e = refl
names_it n t (Input to) e = and_true (can_name to) e
names_it n t (More to) e = and_true (can_name to) e
names_it n t (OutText k) e = refl
names_it n t (OutDecimal a) e = refl
names_it n t (OutByte a) e = refl
names_it n t (Goto p) e = refl
names_it n t (BranchOn u w p) e = refl
names_it n t (Call p) e = refl
names_it n t Return e = refl
names_it n t (FromLink to) e = and_true (can_name to) e
names_it n t (ToLink a) e = refl
names_it n t (EndByTrap k) e = refl
names_it n t (Halt a) e = refl

names_all : (n t : ℕ) (ops : List Operation) → list_all (is_sound_operation n t) ops ≡ true → list_all names_register ops ≡ true
names_all n t [] e = refl
names_all n t (op ∷ ops) e =
    let a = names_it n t op (and_left _ (list_all (is_sound_operation n t) ops) e) in
    let b = names_all n t ops (and_right (is_sound_operation n t op) _ e) in
    ap (λ x. x && list_all names_register ops) a ∙ b

word_in : (p : Word → Bool) (ws : List Word) (i : ℕ) (word : Word) → list_all p ws ≡ true → slice_get ws i ≡ Some word → p word ≡ true
word_in p [] i word all e = absurd (cc)
word_in p (w ∷ ws) zero word all e = let h : w ≡ word = cc in sym (ap p h) ∙ and_left (p w) (list_all p ws) all
word_in p (w ∷ ws) (suc i) word all e = word_in p ws i word (and_right (p w) _ all) e

-- each word of a sound program writes registers that a text can name
pub names_at : (w : WordProgram) (i : ℕ) (word : Word) → is_sound w ≡ true → slice_get w.words i ≡ Some word → list_all names_register word.ops ≡ true
names_at w i word sound e =
    let all = and_right _ (list_all (is_sound_word (length w.words) (length w.texts)) w.words) sound in
    let one = word_in (is_sound_word (length w.words) (length w.texts)) w.words i word all e in
    names_all (length w.words) (length w.texts) word.ops (and_right _ (list_all (is_sound_operation (length w.words) (length w.texts)) word.ops) one)

-- no word that is not unfit is wider than the widest

widest_in : (f : Word → Shape) (ws : List Word) (i : ℕ) (word : Word) → slice_get ws i ≡ Some word → (f word).width ≤ widest (map f ws)
widest_in f [] i word e = absurd (cc)
widest_in f (w ∷ ws) zero word e = let h : w ≡ word = cc in let l : (f w).width ≡ (f word).width = ap (λ (x : Word). (f x).width) h in omega (arith, l)
widest_in f (w ∷ ws) (suc i) word e = let l = widest_in f ws i word e in omega (arith, l)

unfit_by : (m : Numbers) (w : WordProgram) (s : State) (ops : List Operation) → stuck_by m w s ops ≡ None → unfit_of m ops ≡ None
unfit_by m w s ops = by (is_bad_word m ops) (fits m ops)
  where
    by : (a b : Bool) → (if a then Some BadWord else if not b then Some Overfull else stuck_here w s ops) ≡ None → (if a then Some BadWord else if not b then Some Overfull else None) ≡ None
    by true b e = absurd (cc)
    by false false e = absurd (cc)
    by false true e = refl

pub widest_at : (m : Numbers) (w : WordProgram) (s : State) (i : ℕ) (word : Word) (shapes : List Shape) → shapes ≡ map (shape_of m) w.words → slice_get w.words i ≡ Some word → stuck_by m w s word.ops ≡ None → length word.ops ≤ widest shapes
widest_at m w s i word shapes are at free =
    let l = widest_in (shape_of m) w.words i word at in
    let e : (shape_of m word).width ≡ length word.ops = ap (λ (why : Option Reason). width_by why word.ops) (unfit_by m w s word.ops free) in
    let n : widest shapes ≡ widest (map (shape_of m) w.words) = ap widest are in
    omega (arith, l, e, n)

pub place_below : (ws : List Word) (i : ℕ) (word : Word) → slice_get ws i ≡ Some word → i < length ws
place_below [] i word e = absurd (cc)
place_below (w ∷ ws) zero word e = omega arith
place_below (w ∷ ws) (suc i) word e = let l = place_below ws i word e in omega (arith, l)

-- a word that is not stuck has no bad address
good_when : (a b c d : Bool) → (if a then Some BadWord else if b then Some Overfull else if c then Some BadAddress else if d then Some NoInputLeft else None) ≡ None → c ≡ false
good_when true b c d e = absurd (cc)
good_when false true c d e = absurd (cc)
good_when false false true d e = absurd (cc)
good_when false false false d e = refl

pub has_good_addresses : (m : Numbers) (w : WordProgram) (s : State) (ops : List Operation) → stuck_by m w s ops ≡ None → list_any (has_bad_address w.memory s) ops ≡ false
has_good_addresses m w s ops e = good_when (is_bad_word m ops) (not (fits m ops)) (list_any (has_bad_address w.memory s) ops) (list_any takes_input ops && not (is_left s.input)) e

-- the item at a place
item_at : {A : Type 0} (xs : List A) (i : ℕ) (d : A) → i < length xs → slice_get xs i ≡ Some (get_or xs i d)
item_at [] i d lt = absurd (omega arith)
item_at (x ∷ xs) zero d lt = refl
item_at (x ∷ xs) (suc i) d lt = item_at xs i d (omega arith)

-- what is found of each word is there for the word at a place

shape_there : (f : Word → Shape) (ws : List Word) (i : ℕ) (word : Word) (d : Shape) → slice_get ws i ≡ Some word → get_or (map f ws) i d ≡ f word
shape_there f [] i word d e = absurd (cc)
shape_there f (w ∷ ws) zero word d e = let h : w ≡ word = cc in ap f h
shape_there f (w ∷ ws) (suc i) word d e = shape_there f ws i word d e

shape_below : (f : Word → Shape) (ws : List Word) (i : ℕ) (word : Word) → slice_get ws i ≡ Some word → i < length (map f ws)
shape_below f [] i word e = absurd (cc)
shape_below f (w ∷ ws) zero word e = omega arith
shape_below f (w ∷ ws) (suc i) word e = let l = shape_below f ws i word e in omega (arith, l)

pub found : (m : Numbers) (ws : List Word) (i : ℕ) (word : Word) (shapes : List Shape) (shape : Shape) → shape ≡ get_or shapes i shape → shapes ≡ map (shape_of m) ws → slice_get ws i ≡ Some word → shape ≡ shape_of m word
found m ws i word shapes shape here are at = here ∙ ap (λ (xs : List Shape). get_or xs i shape) are ∙ shape_there (shape_of m) ws i word shape at

pub found_below : (m : Numbers) (ws : List Word) (i : ℕ) (word : Word) (shapes : List Shape) → shapes ≡ map (shape_of m) ws → slice_get ws i ≡ Some word → i < length shapes
found_below m ws i word shapes are at = subst (λ (xs : List Shape). i < length xs) (sym are) (shape_below (shape_of m) ws i word at)

-- a word is stuck by what it is, or else by where the simulator stands
pub stuck_as : (m : Numbers) (w : WordProgram) (s : State) (word : Word) (shape : Shape) (here : Option Reason) → shape ≡ shape_of m word → shape.unfit ≡ None → here ≡ stuck_here w s word.ops → here ≡ stuck_by m w s word.ops
stuck_as m w s word shape here is free e = e ∙ by (is_bad_word m word.ops) (fits m word.ops) (sym (ap (λ (x : Shape). x.unfit) is) ∙ free)
  where
    by : (a b : Bool) → (if a then Some BadWord else if not b then Some Overfull else None) ≡ None → stuck_here w s word.ops ≡ (if a then Some BadWord else if not b then Some Overfull else stuck_here w s word.ops)
    by true b f = absurd (cc)
    by false false f = absurd (cc)
    by false true f = refl

pub stuck_unfit : (m : Numbers) (w : WordProgram) (s : State) (word : Word) (shape : Shape) (why : Reason) → shape ≡ shape_of m word → shape.unfit ≡ Some why → Some why ≡ stuck_by m w s word.ops
stuck_unfit m w s word shape why is unfit = by (is_bad_word m word.ops) (fits m word.ops) (sym (ap (λ (x : Shape). x.unfit) is) ∙ unfit)
  where
    by : (a b : Bool) → (if a then Some BadWord else if not b then Some Overfull else None) ≡ Some why → Some why ≡ (if a then Some BadWord else if not b then Some Overfull else stuck_here w s word.ops)
    by true b f = sym f
    by false false f = sym f
    by false true f = absurd (cc)

-- the item that is found at a place of the list that the code holds
pub item_here : {A : Type 0} (xs items : List A) (i : ℕ) (x : A) → items ≡ xs → nat_lt i (length items) ≡ true → x ≡ get_or items i x → slice_get xs i ≡ Some x
item_here xs items i x same there is = ap (λ ys. slice_get ys i) (sym same) ∙ item_at items i x (ltb-true i (length items) there) ∙ ap (λ y. Some y) (sym is)

-- there is no item at a place behind the last one

none_past : {A : Type 0} (xs : List A) (i : ℕ) → length xs ≤ i → slice_get xs i ≡ None
none_past [] i le = refl
none_past (x ∷ xs) zero le = absurd (omega arith)
none_past (x ∷ xs) (suc i) le = none_past xs i (omega arith)

pub none_here : {A : Type 0} (xs items : List A) (i : ℕ) → items ≡ xs → nat_lt i (length items) ≡ false → slice_get xs i ≡ None
none_here xs items i same past = ap (λ ys. slice_get ys i) (sym same) ∙ none_past items i (ltb-false i (length items) past)
