-- The code of a print.
use Rattle.std.proofs.Common.{◌≡◌, ℕ, zero, suc, ◌+◌, ◌<◌, ◌≤◌, Bool, true, false, ◌==◌, List, [], ◌∷◌, ◌++◌, length, drop, get_or, Some, refl, sym, ap, ◌∙◌, subst, arith, append_assoc, append-nil}
use Rattle.std.specs.Prelude.{if◌then◌else◌, slice_get}
use Rattle.std.proofs.lemmas.Bool.{eqb-true}
use Rattle.vx_ast.specs.Meaning.{Piece, AByte, ANumber, pieces_of, directive_of}
use Rattle.vx_flow.specs.declared.graph.Operand.{Operand}
use Rattle.vx_flow.specs.declared.graph.Op.TheVariants.{Text, Decimal}
use Rattle.vx_lower.specs.Holds.{same}
use Rattle.vx_lower.specs.Does.{done, number, bytes}
use Rattle.vx_lower.specs.Builds.{Ready, Puts}
use Rattle.vx_lower.specs.Makes.{Begins, bytes_of, left_of, to_show, numbers_in, Shifts, Showed}
use Rattle.vx_lower.specs.declared.builder.Builder.{Builder}
use Rattle.vx_lower.specs.declared.prints.Format.{Format}
use Rattle.vx_lower.proofs.Building.{grows_self, grows_on, finishes_back}

pub begins_self : (ts : List (List ℕ)) → Begins ts ts
begins_self ts = record { more = []; is = sym (append-nil ts) }

pub begins_on : (a b c : List (List ℕ)) → Begins a b → Begins b c → Begins a c
begins_on a b c x y = record { more = x.more ++ y.more; is = y.is ∙ ap (λ z. z ++ y.more) x.is ∙ append_assoc a x.more y.more }

-- a number of bytes has no number
no_numbers : (text : List ℕ) (ps : List Piece) → numbers_in (bytes_of text ++ ps) ≡ numbers_in ps
no_numbers [] ps = refl
no_numbers (b ∷ text) ps = no_numbers text ps

pub shifts_self : (ps : List Piece) (os : List Operand) (b : Builder) (ts : List (List ℕ)) → Ready b → Shifts ps os ps os b b ts ts
shifts_self ps os b ts r = record { grows = grows_self b r; texts = begins_self ts; enough = λ h. h; code = λ h B texts m g f o. record { start = m; opens = o; holds = λ q s. s } }

pub shifts_on : (p0 p1 p2 : List Piece) (o0 o1 o2 : List Operand) (b0 b1 b2 : Builder) (t0 t1 t2 : List (List ℕ)) → Ready b0 → Shifts p0 o0 p1 o1 b0 b1 t0 t1 → Shifts p1 o1 p2 o2 b1 b2 t1 t2 → Shifts p0 o0 p2 o2 b0 b2 t0 t2
shifts_on p0 p1 p2 o0 o1 o2 b0 b1 b2 t0 t1 t2 r x y =
    record {
      grows = grows_on b0 b1 b2 r x.grows y.grows;
      texts = begins_on t0 t1 t2 x.texts y.texts;
      enough = λ h. y.enough (x.enough h);
      code = λ h B texts m g f o.
          let s2 = y.code (x.enough h) B texts m g f o in
          let s1 = x.code h B texts s2.start (begins_on t1 t2 texts y.texts g) (finishes_back B b1 b2 x.grows.ready y.grows f) s2.opens in
          record { start = s1.start; opens = s1.opens; holds = λ q s. s1.holds q (s2.holds q s) };
    }

pub shifts_as : (p0 p1 q0 q1 : List Piece) (o0 o1 : List Operand) (b0 b1 : Builder) (t0 t1 : List (List ℕ)) → p0 ≡ q0 → p1 ≡ q1 → Shifts p0 o0 p1 o1 b0 b1 t0 t1 → Shifts q0 o0 q1 o1 b0 b1 t0 t1
shifts_as p0 p1 q0 q1 o0 o1 b0 b1 t0 t1 e f s = subst (λ z. Shifts q0 o0 z o1 b0 b1 t0 t1) f (subst (λ z. Shifts z o0 p1 o1 b0 b1 t0 t1) e s)

-- a text of the program
pub shifts_text : (text : List ℕ) (n : ℕ) (ps : List Piece) (os : List Operand) (b0 b1 : Builder) (t0 t1 : List (List ℕ)) → n ≡ length t0 → t1 ≡ t0 ++ text ∷ [] → (Ready b0 → Puts (Text n) b0 b1) → Ready b0 → Shifts (bytes_of text ++ ps) os ps os b0 b1 t0 t1
shifts_text text n ps os b0 b1 t0 t1 en et p r =
    let x = p r in
    record {
      grows = x.grows;
      texts = record { more = text ∷ []; is = et };
      enough = λ h. let e = no_numbers text ps in omega arith;
      code = λ h B texts m g f o.
          let s = x.step B m f o in
          let at : slice_get texts n ≡ Some text = ap (λ z. slice_get z n) (g.is ∙ ap (λ z. z ++ g.more) et ∙ append_assoc t0 (text ∷ []) g.more) ∙ ap (slice_get (t0 ++ (text ∷ g.more))) en ∙ get_middle t0 text g.more in
          record { start = s.start; opens = s.opens; holds = λ q w. bytes n text at s.holds w };
    }
  where
    get_middle : (xs : List (List ℕ)) (x : List ℕ) (ys : List (List ℕ)) → slice_get (xs ++ (x ∷ ys)) (length xs) ≡ Some x
    get_middle [] x ys = refl
    get_middle (y ∷ xs) x ys = get_middle xs x ys

-- a number
pub drop_next : {A : Type 0} (xs : List A) (i : ℕ) (x d : A) → i < length xs → x ≡ get_or xs i d → drop i xs ≡ x ∷ drop (i + 1) xs
drop_next [] i x d h e = absurd (omega arith)
drop_next (y ∷ xs) zero x d h e = let k : suc zero ≡ zero + 1 = omega arith in ap (λ z. z ∷ xs) (sym e) ∙ ap (λ n. x ∷ drop n (y ∷ xs)) k
drop_next (y ∷ xs) (suc i) x d h e = let k : suc (i + 1) ≡ suc i + 1 = omega arith in drop_next xs i x d (omega arith) e ∙ ap (λ n. x ∷ drop n (y ∷ xs)) k

length_drop : {A : Type 0} (xs : List A) (i : ℕ) → length xs ≤ i → drop i xs ≡ []
length_drop [] zero h = refl
length_drop [] (suc i) h = refl
length_drop (x ∷ xs) zero h = absurd (omega arith)
length_drop (x ∷ xs) (suc i) h = length_drop xs i (omega arith)

one_number : (ps : List Piece) → numbers_in (ANumber ∷ ps) ≡ suc (numbers_in ps)
one_number ps = refl

pub shifts_number : (o : Operand) (ps : List Piece) (os left : List Operand) (b0 b1 : Builder) (ts : List (List ℕ)) → os ≡ o ∷ left → (Ready b0 → Puts (Decimal o) b0 b1) → Ready b0 → Shifts (ANumber ∷ ps) os ps left b0 b1 ts ts
shifts_number o ps os left b0 b1 ts e p r = subst (λ z. Shifts (ANumber ∷ ps) z ps left b0 b1 ts ts) (sym e) (
    let x = p r in
    record {
      grows = x.grows;
      texts = begins_self ts;
      enough = λ h. let e = one_number ps in omega arith;
      code = λ h B texts m g f w.
          let s = x.step B m f w in
          record { start = s.start; opens = s.opens; holds = λ q k. number s.holds k };
    })

-- where no argument is left, there was a number too many
pub shifts_nothing : (ps : List Piece) (os : List Operand) (n : ℕ) (b : Builder) (ts : List (List ℕ)) → length os ≤ n → Ready b → Shifts (ANumber ∷ ps) (drop n os) ps (drop n os) b b ts ts
shifts_nothing ps os n b ts le r =
    let e : length (drop n os) ≡ 0 = ap length (length_drop os n le) in
    record {
      grows = grows_self b r;
      texts = begins_self ts;
      enough = λ h. let k = one_number ps in absurd (omega arith);
      code = λ h B texts m g f w. let k = one_number ps in absurd (omega arith);
    }

-- the end
pub showed : (ps : List Piece) (os left : List Operand) (b0 b1 : Builder) (t0 t1 : List (List ℕ)) → (Ready b0 → Shifts ps os [] left b0 b1 t0 t1) → Ready b0 → Showed ps os b0 b1 t0 t1
showed ps os left b0 b1 t0 t1 x r =
    let k = x r in
    record {
      grows = k.grows;
      texts = k.texts;
      code = λ h B texts q g f o. let s = k.code h B texts q g f o in record { start = s.start; opens = s.opens; holds = s.holds q (done (same refl)) };
    }

-- bytes that are only read
pub bytes_more : (text : List ℕ) (b : ℕ) (ps : List Piece) → bytes_of text ++ (AByte b ∷ ps) ≡ bytes_of (text ++ b ∷ []) ++ ps
bytes_more [] b ps = refl
bytes_more (c ∷ text) b ps = ap (λ z. AByte c ∷ z) (bytes_more text b ps)

other_byte : (a b : ℕ) → (a ≡ b → ⊥) → (a == b) ≡ false
other_byte a b n = by (a == b) refl
  where
    by : (t : Bool) → (a == b) ≡ t → t ≡ false
    by true e = absurd (n (eqb-true a b e))
    by false e = refl

pub byte_read : (f : Format) (text : List ℕ) (byte : ℕ) (bs : List ℕ) (os : List Operand) (b : Builder) (ts : List (List ℕ)) → f.directive ≡ false → (byte ≡ 37 → ⊥) → text ≡ f.text ++ byte ∷ [] → Ready b →
    Shifts (to_show f (byte ∷ bs)) (drop f.next os) (to_show (record f { text = text }) bs) (drop f.next os) b b ts ts
byte_read f text byte bs os b ts d n e r =
    shifts_as (to_show f (byte ∷ bs)) (to_show f (byte ∷ bs)) (to_show f (byte ∷ bs)) (to_show (record f { text = text }) bs) (drop f.next os) (drop f.next os) b b ts ts refl
    (ap (λ z. bytes_of f.text ++ left_of z (byte ∷ bs)) d ∙ ap (λ z. bytes_of f.text ++ (if z then directive_of bs else (AByte byte ∷ pieces_of bs))) (other_byte byte 37 n)
    ∙ bytes_more f.text byte (pieces_of bs) ∙ ap (λ z. bytes_of z ++ pieces_of bs) (sym e) ∙ ap (λ z. bytes_of text ++ left_of z bs) (sym d))
    (shifts_self (to_show f (byte ∷ bs)) (drop f.next os) b ts r)

pub byte_escaped : (f : Format) (text : List ℕ) (byte : ℕ) (bs : List ℕ) (os : List Operand) (b : Builder) (ts : List (List ℕ)) → f.directive ≡ true → (byte ≡ 100 → ⊥) → text ≡ f.text ++ byte ∷ [] → Ready b →
    Shifts (to_show f (byte ∷ bs)) (drop f.next os) (to_show (record { text = text; directive = false; next = f.next }) bs) (drop f.next os) b b ts ts
byte_escaped f text byte bs os b ts d n e r =
    shifts_as (to_show f (byte ∷ bs)) (to_show f (byte ∷ bs)) (to_show f (byte ∷ bs)) (to_show (record { text = text; directive = false; next = f.next }) bs) (drop f.next os) (drop f.next os) b b ts ts refl
    (ap (λ z. bytes_of f.text ++ left_of z (byte ∷ bs)) d ∙ ap (λ z. bytes_of f.text ++ ((if z then ANumber else AByte byte) ∷ pieces_of bs)) (other_byte byte 100 n)
    ∙ bytes_more f.text byte (pieces_of bs) ∙ ap (λ z. bytes_of z ++ pieces_of bs) (sym e))
    (shifts_self (to_show f (byte ∷ bs)) (drop f.next os) b ts r)

pub percent_read : (f : Format) (byte : ℕ) (bs : List ℕ) (os : List Operand) (b : Builder) (ts : List (List ℕ)) → f.directive ≡ false → byte ≡ 37 → Ready b →
    Shifts (to_show f (byte ∷ bs)) (drop f.next os) (to_show (record f { directive = true }) bs) (drop f.next os) b b ts ts
percent_read f byte bs os b ts d e r =
    shifts_as (to_show f (byte ∷ bs)) (to_show f (byte ∷ bs)) (to_show f (byte ∷ bs)) (to_show (record f { directive = true }) bs) (drop f.next os) (drop f.next os) b b ts ts refl
    (ap (λ z. bytes_of f.text ++ left_of z (byte ∷ bs)) d ∙ ap (λ z. bytes_of f.text ++ pieces_of (z ∷ bs)) e)
    (shifts_self (to_show f (byte ∷ bs)) (drop f.next os) b ts r)

-- a directive that is whole
decimal_piece : (byte : ℕ) (bs : List ℕ) → byte ≡ 100 → directive_of (byte ∷ bs) ≡ ANumber ∷ pieces_of bs
decimal_piece byte bs e = ap (λ z. directive_of (z ∷ bs)) e

pub byte_decimal : (f g : Format) (n byte : ℕ) (bs : List ℕ) (os : List Operand) (b0 b1 b2 : Builder) (t0 t1 : List (List ℕ)) → f.directive ≡ true → byte ≡ 100 → g ≡ record f { text = [] } → (Ready b0 → (ps : List Piece) (os : List Operand) → Shifts (bytes_of f.text ++ ps) os ps os b0 b1 t0 t1) → (Ready b1 → (ps : List Piece) (ts : List (List ℕ)) → Shifts (ANumber ∷ ps) (drop g.next os) ps (drop n os) b1 b2 ts ts) → Ready b0 → Shifts (to_show f (byte ∷ bs)) (drop f.next os) (to_show (record { text = g.text; directive = false; next = n }) bs) (drop n os) b0 b2 t0 t1
byte_decimal f g n byte bs os b0 b1 b2 t0 t1 d e eg tx nm r =
    let x = tx r (ANumber ∷ pieces_of bs) (drop f.next os) in
    let y = subst (λ z. Shifts (ANumber ∷ pieces_of bs) (drop z os) (pieces_of bs) (drop n os) b1 b2 t1 t1) (ap (λ z. z.next) eg) (nm x.grows.ready (pieces_of bs) t1) in
    let both = shifts_on (bytes_of f.text ++ (ANumber ∷ pieces_of bs)) (ANumber ∷ pieces_of bs) (pieces_of bs) (drop f.next os) (drop f.next os) (drop n os) b0 b1 b2 t0 t1 t1 r x y in
    shifts_as (bytes_of f.text ++ (ANumber ∷ pieces_of bs)) (pieces_of bs) (to_show f (byte ∷ bs)) (to_show (record { text = g.text; directive = false; next = n }) bs) (drop f.next os) (drop n os) b0 b2 t0 t1
    (ap (λ z. bytes_of f.text ++ z) (sym (decimal_piece byte bs e)) ∙ ap (λ z. bytes_of f.text ++ left_of z (byte ∷ bs)) (sym d))
    (ap (λ z. bytes_of z.text ++ pieces_of bs) (sym eg)) both

-- the bytes of a format, one after the other
pub show_more : (bytes : List ℕ) (i byte d : ℕ) (os : List Operand) (f g : Format) (b0 b1 b2 : Builder) (t0 t1 t2 : List (List ℕ)) → i < length bytes → byte ≡ get_or bytes i d → (Ready b0 → Shifts (pieces_of bytes) os (to_show f (drop i bytes)) (drop f.next os) b0 b1 t0 t1) → (Ready b1 → (bs : List ℕ) → Shifts (to_show f (byte ∷ bs)) (drop f.next os) (to_show g bs) (drop g.next os) b1 b2 t1 t2) → Ready b0 → Shifts (pieces_of bytes) os (to_show g (drop (i + 1) bytes)) (drop g.next os) b0 b2 t0 t2
show_more fmt i byte d os f g b0 b1 b2 t0 t1 t2 h e inv step r =
    let x = inv r in
    let y = step x.grows.ready (drop (i + 1) fmt) in
    let z = subst (λ w. Shifts (to_show f w) (drop f.next os) (to_show g (drop (i + 1) fmt)) (drop g.next os) b1 b2 t1 t2) (sym (drop_next fmt i byte d h e)) y in
    shifts_on (pieces_of fmt) (to_show f (drop i fmt)) (to_show g (drop (i + 1) fmt)) os (drop f.next os) (drop g.next os) b0 b1 b2 t0 t1 t2 r x z

nothing_left : (t : Bool) → left_of t [] ≡ []
nothing_left true = refl
nothing_left false = refl

pub show_whole : (bytes : List ℕ) (i : ℕ) (os : List Operand) (f : Format) (b0 b1 b2 : Builder) (t0 t1 t2 : List (List ℕ)) → length bytes ≤ i → (Ready b0 → Shifts (pieces_of bytes) os (to_show f (drop i bytes)) (drop f.next os) b0 b1 t0 t1) → (Ready b1 → (ps : List Piece) (os : List Operand) → Shifts (bytes_of f.text ++ ps) os ps os b1 b2 t1 t2) → Ready b0 → Showed (pieces_of bytes) os b0 b2 t0 t2
show_whole fmt i os f b0 b1 b2 t0 t1 t2 h inv last r =
    let x = inv r in
    let y = last x.grows.ready [] (drop f.next os) in
    let e : to_show f (drop i fmt) ≡ bytes_of f.text ++ [] = ap (to_show f) (length_drop fmt i h) ∙ ap (λ z. bytes_of f.text ++ z) (nothing_left f.directive) in
    let x2 = subst (λ z. Shifts (pieces_of fmt) os z (drop f.next os) b0 b1 t0 t1) e x in
    showed (pieces_of fmt) os (drop f.next os) b0 b2 t0 t2 (λ r. shifts_on (pieces_of fmt) (bytes_of f.text ++ []) [] os (drop f.next os) (drop f.next os) b0 b1 b2 t0 t1 t2 r x2 y) r
