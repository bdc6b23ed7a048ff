-- How far the reading of a file has come: what was read is a front of what the name holds.
use Rattle.std.proofs.Common.{◌≡◌, ◌<◌, ◌≤◌, ◌+◌, ℕ, List, [], ◌++◌, length, take, drop, Option, None, Some, refl, ap, sym, ◌∙◌, arith, append_assoc, append-nil, length-append, length-take-le, subst, inl, inr, Vec}
use Rattle.std.specs.Prelude.{IfSome, MatchOption}
use Rattle.std.specs.declared.alloc.Global.{Global}
use Rattle.std.proofs.lemmas.List.{nil_from_length}
use Rattle.std.proofs.Math.Seq.{drop-append_seam}
use Rattle.vx_base.specs.Outcome.{Begins}
use Rattle.vx_io.specs.Outside.{Files, ReadsAt, Rose}
use Rattle.vx_io.specs.declared.whole_file.FileRead.TheVariants.{Whole, TooLong}
use Rattle.vx_io.specs.Reading.{ReadsFile}

pub record FileSoFar (told : Option Files) (name done : List ℕ) : Type 0 where
  pub front : (held : Files) → told ≡ Some held → (text : List ℕ) → held name ≡ Some text → Begins done text

-- at first nothing is read
pub FileSoFar-start : (told : Option Files) (name : List ℕ) → FileSoFar told name []
FileSoFar-start told name = record { front = λ held tells text holds. record { rest = text; is = refl } }

-- what the name holds, after a read behind what was read: that, the bytes read, and a rest
pub text_read : (held : Files) (name done buffer : List ℕ) (count : ℕ) (at : ReadsAt held name (length done) count buffer) → Begins done at.content → at.content ≡ done ++ (take count buffer ++ at.rest)
text_read held name done buffer count at begins =
    begins.is ∙ ap (λ (xs : List ℕ). done ++ xs) (sym (drop-append_seam done begins.rest) ∙ ap (λ (xs : List ℕ). drop (length done) xs) (sym begins.is) ∙ at.bytes)

same_text : (found : Option (List ℕ)) (a b : List ℕ) → found ≡ Some a → found ≡ Some b → a ≡ b
same_text found a b one other = let e = sym one ∙ other in cc

-- after a read behind what was read
pub FileSoFar-more : (told : Option Files) (name done buffer : List ℕ) (count : ℕ) → FileSoFar told name done → IfSome told (λ held. ReadsAt held name (length done) count buffer) → FileSoFar told name (done ++ take count buffer)
FileSoFar-more None name done buffer count so_far read = record { front = λ held tells text holds. absurd (cc) }
FileSoFar-more (Some files) name done buffer count so_far read = record {
  front = λ held tells text holds.
      let begins : Begins done read.content = so_far.front files refl read.content read.holds in
      let same : files name ≡ held name = cc in
      let e : text ≡ read.content = same_text (files name) text read.content (same ∙ holds) read.holds in
      record { rest = read.rest; is = e ∙ text_read files name done buffer count read begins ∙ sym (append_assoc done (take count buffer) read.rest) };
}

-- a read of the same files, at the same place
pub reads_along : (told now : Option Files) (name buffer : List ℕ) (place length count : ℕ) → now ≡ told → place ≡ length → IfSome now (λ held. ReadsAt held name place count buffer) → IfSome told (λ held. ReadsAt held name length count buffer)
reads_along told now name buffer place length count same at read =
    let P : Option Files → Type 0 = λ files. IfSome files (λ held. ReadsAt held name length count buffer) in
    let Q : ℕ → Type 0 = λ from. IfSome now (λ held. ReadsAt held name from count buffer) in
    subst P same (subst Q at read)

-- how long what was read is then
pub length_read : (old new buffer : List ℕ) (count : ℕ) → new ≡ old ++ take count buffer → count ≤ length buffer → length new ≡ length old + count
length_read old new buffer count is room =
    let longer = ap (λ (xs : List ℕ). length xs) is in
    omega (arith, longer, length-append old (take count buffer), length-take-le count buffer room)

-- a read that gives nothing: the file is read
pub ReadsFile-whole : (told : Option Files) (name buffer : List ℕ) (bytes : Vec ℕ Global) (count most : ℕ) → FileSoFar told name bytes.items → IfSome told (λ held. ReadsAt held name (length bytes.items) count buffer) → count ≡ 0 → 0 < length buffer → length bytes.items ≤ most → IfSome told (λ held. ReadsFile held name most (Whole bytes))
ReadsFile-whole None name buffer bytes count most so_far read none room within = tt
ReadsFile-whole (Some files) name buffer bytes count most so_far read none room within =
    let done = bytes.items in
    let begins : Begins done read.content = so_far.front files refl read.content read.holds in
    let short : length read.content ≤ length done = read.end none room in
    let nothing : length begins.rest ≡ 0 = omega (arith, ap (λ (xs : List ℕ). length xs) begins.is, length-append done begins.rest) in
    let whole : done ≡ read.content = sym (begins.is ∙ ap (λ (xs : List ℕ). done ++ xs) (nil_from_length begins.rest nothing) ∙ append-nil done) in
    record { content = read.content; holds = read.holds; answers = (whole, omega (arith, ap (λ (xs : List ℕ). length xs) whole)) }

-- a read that leads past the bound
pub ReadsFile-too_long : (told : Option Files) (name done buffer : List ℕ) (count most : ℕ) → FileSoFar told name done → IfSome told (λ held. ReadsAt held name (length done) count buffer) → count ≤ length buffer → most < length done + count → IfSome told (λ held. ReadsFile held name most TooLong)
ReadsFile-too_long None name done buffer count most so_far read room past = tt
ReadsFile-too_long (Some files) name done buffer count most so_far read room past =
    let begins : Begins done read.content = so_far.front files refl read.content read.holds in
    let text = ap (λ (xs : List ℕ). length xs) (text_read files name done buffer count read begins) in
    record { content = read.content; holds = read.holds; answers = omega (arith, text, length-append done (take count buffer ++ read.rest), length-append (take count buffer) read.rest, length-take-le count buffer room) }

-- a count that rose over a later call has risen over all
pub Rose-since : (first before after : ℕ) → first ≤ before → before ≤ after → Rose before after → Rose first after
Rose-since first before after earlier later (inl rose) = inl (omega arith)
Rose-since first before after earlier later (inr greatest) = inr greatest

pub no_file-since : (told : Option Files) (name : List ℕ) (first before after : ℕ) → first ≤ before → before ≤ after → MatchOption told (Rose before after) (λ held. held name ≡ None) → MatchOption told (Rose first after) (λ held. held name ≡ None)
no_file-since None name first before after earlier later rose = Rose-since first before after earlier later rose
no_file-since (Some held) name first before after earlier later missing = missing
