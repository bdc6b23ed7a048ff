-- Bytes put in several pieces.
use Rattle.std.proofs.Common.{◌≡◌, ◌<◌, ◌≤◌, ℕ, zero, suc, true, false, List, [], ◌∷◌, ◌++◌, length, map, take, get_or, Option, Some, None, Result, Ok, Err, refl, sym, subst, ap, ◌∙◌, append_assoc, append-nil, arith}
use Rattle.std.specs.Prelude.{is_err}
use Rattle.std.specs.List.{flat_map}
use Rattle.vx_io.specs.Outside.{PutsFront, with_bytes}
use Rattle.vx_io.proofs.OutsideLaws.{rose_throughout}
use Rattle.vx_base.proofs.Same.{begins_self}
use Rattle.vx_status.specs.Status.{Adds, Puts, Tells}

pub with_both : (told : Option (List ℕ)) (xs ys : List ℕ) → with_bytes (with_bytes told xs) ys ≡ with_bytes told (xs ++ ys)
with_both None xs ys = refl
with_both (Some bytes) xs ys = ap Some (append_assoc bytes xs ys)

pub with_none : (told : Option (List ℕ)) → told ≡ with_bytes told []
with_none None = refl
with_none (Some bytes) = ap Some (sym (append-nil bytes))

pub appends_on : {a b c : Option (List ℕ)} {f g h : ℕ} → Adds a b f g → Adds b c g h → Adds a c f h
appends_on {a} {b} {c} {f} {g} {h} x y = record {
  more = x.more ++ y.more;
  is = y.is ∙ ap (λ told. with_bytes told y.more) x.is ∙ with_both a x.more y.more;
  never_fall = let first = x.never_fall in let second = y.never_fall in omega arith;
}

-- several pieces that are put whole, or of which one fails

pub front_on : (xs ys : List ℕ) {a b : Option (List ℕ)} → PutsFront a b xs → PutsFront a b (xs ++ ys)
front_on xs ys x = record {
  front = x.front;
  begins = record { rest = x.begins.rest ++ ys; is = ap (λ l. l ++ ys) x.begins.is ∙ append_assoc x.front x.begins.rest ys };
  put = x.put;
}

pub front_behind : (a b c : Option (List ℕ)) (xs ys : List ℕ) → b ≡ with_bytes a xs → PutsFront b c ys → PutsFront a c (xs ++ ys)
front_behind a b c xs ys first y = record {
  front = xs ++ y.front;
  begins = record { rest = y.begins.rest; is = ap (λ l. xs ++ l) y.begins.is ∙ sym (append_assoc xs y.front y.begins.rest) };
  put = y.put ∙ ap (λ told. with_bytes told y.front) first ∙ with_both a xs y.front;
}

-- a piece fails, and none behind it is put
pub cut_before : {T E : Type 0} {e : E} (xs ys : List ℕ) {a b : Option (List ℕ)} {f g : ℕ} → Puts {T = T} {E = E} (Err e) xs a b f g → Puts {T = T} {E = E} (Err e) (xs ++ ys) a b f g
cut_before xs ys x = record { all = tt; part = front_on xs ys x.part; failed = x.failed; never_fall = x.never_fall }

-- a piece behind one that is put whole
pub puts_behind : {T E : Type 0} {t : T} (r : Result T E) (xs ys : List ℕ) {a b c : Option (List ℕ)} {f g h : ℕ} → Puts {T = T} {E = E} (Ok t) xs a b f g → Puts r ys b c g h → Puts r (xs ++ ys) a c f h
puts_behind (Ok v) xs ys {a} {b} {c} {f} {g} {h} x y = record {
  all = y.all ∙ ap (λ told. with_bytes told ys) x.all ∙ with_both a xs ys;
  part = tt;
  failed = tt;
  never_fall = let first = x.never_fall in let second = y.never_fall in omega arith;
}
puts_behind (Err e) xs ys {a} {b} {c} {f} {g} {h} x y = record {
  all = tt;
  part = front_behind a b c xs ys x.all y.part;
  failed = rose_throughout f g h h x.never_fall y.never_fall (omega arith) y.failed;
  never_fall = let first = x.never_fall in let second = y.never_fall in omega arith;
}

-- the fault of a piece is the answer
pub fails : {T E U F : Type 0} {e : E} (r : Result U F) (line : List ℕ) {a b : Option (List ℕ)} {f g : ℕ} → is_err r ≡ true → Puts {T = T} {E = E} (Err e) line a b f g → Puts r line a b f g
fails (Ok v) line is x = let wrong : false ≡ true = is in absurd cc
fails (Err u) line is x = record { all = tt; part = x.part; failed = x.failed; never_fall = x.never_fall }

-- what is put is another line, where the two are one
pub puts_as : {T E : Type 0} {r : Result T E} {xs ys : List ℕ} {a b : Option (List ℕ)} {f g : ℕ} → xs ≡ ys → Puts r xs a b f g → Puts r ys a b f g
puts_as {r = r} {a = a} {b = b} {f = f} {g = g} same x = subst (λ l. Puts r l a b f g) same x

-- the pieces of a list, the one at a place and those before it

pieces_at : {X Y : Type 0} (f : Y → List ℕ) (g : X → Y) (xs : List X) (i : ℕ) (x : X) → i < length xs → x ≡ get_or xs i x → (rest : List ℕ) × (flat_map f (map g xs) ≡ flat_map f (map g (take i xs)) ++ f (g x) ++ rest)
pieces_at f g [] i x below is = absurd (omega arith)
pieces_at f g (y ∷ ys) zero x below is = (flat_map f (map g ys), ap (λ z. f (g z) ++ flat_map f (map g ys)) (sym is))
pieces_at f g (y ∷ ys) (suc i) x below is =
    let later = pieces_at f g ys i x (omega arith) is in
    let before : List ℕ = flat_map f (map g (take i ys)) in
    (later.0, ap (λ l. f (g y) ++ l) later.1 ∙ sym (append_assoc (f (g y)) (before ++ f (g x)) later.0) ∙ ap (λ l. l ++ later.0) (sym (append_assoc (f (g y)) before (f (g x)))))

pub pieces_cut : {X Y E U F : Type 0} {e : E} (r : Result U F) (f : Y → List ℕ) (g : X → Y) (xs : List X) (i : ℕ) (x : X) {a b c : Option (List ℕ)} {h j k : ℕ} → i < length xs → x ≡ get_or xs i x → is_err r ≡ true →
    b ≡ with_bytes a (flat_map f (map g (take i xs))) → h ≤ j → Puts {T = Unit {0}} {E = E} (Err e) (f (g x)) b c j k → Puts r (flat_map f (map g xs)) a c h k
pieces_cut {X} {Y} {E} {U} {F} {e} r f g xs i x {a} {b} {c} {h} {j} {k} below is wrong told le p =
    let split = pieces_at f g xs i x below is in
    let before : List ℕ = flat_map f (map g (take i xs)) in
    let first : Puts {T = Unit {0}} {E = E} (Ok tt) before a b h j = record { all = told; part = tt; failed = tt; never_fall = le } in
    let all : Puts {T = Unit {0}} {E = E} (Err e) (before ++ f (g x) ++ split.0) a c h k = cut_before (before ++ f (g x)) split.0 (puts_behind (Err e) before (f (g x)) first p) in
    subst (λ l. Puts r l a c h k) (sym split.1) (fails r (before ++ f (g x) ++ split.0) wrong all)

pub puts_nothing : {T E : Type 0} {t : T} (a : Option (List ℕ)) (f : ℕ) → Puts {T = T} {E = E} (Ok t) [] a a f f
puts_nothing a f = record { all = with_none a; part = tt; failed = tt; never_fall = omega arith }

-- what is told where the result of a putting is let go

pub tells_of : {T E : Type 0} (r : Result T E) (line : List ℕ) {a b : Option (List ℕ)} {f g : ℕ} → Puts r line a b f g → Tells line a b f g
tells_of (Ok t) line x = record { part = record { front = line; begins = begins_self line; put = x.all }; whole = λ quiet. x.all; never_fall = x.never_fall }
tells_of (Err e) line x = record { part = x.part; whole = λ quiet. absurd (quiet x.failed); never_fall = x.never_fall }

pub tells_nothing : (a : Option (List ℕ)) (f : ℕ) → Tells [] a a f f
tells_nothing a f = record { part = record { front = []; begins = begins_self []; put = with_none a }; whole = λ quiet. with_none a; never_fall = omega arith }

pub adds_told : (line : List ℕ) {a b : Option (List ℕ)} {f g : ℕ} → Tells line a b f g → Adds a b f g
adds_told line x = record { more = x.part.front; is = x.part.put; never_fall = x.never_fall }

pub adds_put : {T E : Type 0} (r : Result T E) (line : List ℕ) {a b : Option (List ℕ)} {f g : ℕ} → Puts r line a b f g → Adds a b f g
adds_put (Ok t) line x = record { more = line; is = x.all; never_fall = x.never_fall }
adds_put (Err e) line x = record { more = x.part.front; is = x.part.put; never_fall = x.never_fall }
