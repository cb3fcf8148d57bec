-- Bytes that go piece by piece.
use Rattle.std.proofs.Common.{◌≡◌, ℕ, ◌+◌, ◌-◌, List, ◌++◌, length, take, drop, sym, ap, ◌∙◌, subst, arith, append_assoc, length-append, take-append-drop, take-add}
use Rattle.std.proofs.lemmas.List.{take_rest, drop-drop}
use Rattle.std.proofs.Math.Seq.{take-append_seam}
use Rattle.std.specs.declared.option.Option.{Option}
use Rattle.std.specs.declared.option.Option.TheVariants.{None, Some}
use Rattle.std.specs.declared.result.Result.{Result}
use Rattle.std.specs.declared.result.Result.TheVariants.{Ok, Err}
use Rattle.std.specs.Io.KnownBytes.{Appends, Consumes, Keeps, ReadConsumes}
use Rattle.std.proofs.KnownBytes.{Appends-kept, Consumes-trans}
use Rattle.device.specs.Reread.{ReadsFrom}
use Rattle.device.specs.Transfer.{ReadBehind, TookBeginning}

-- what is done grows by a piece of the rest, and the rest is what follows the piece
pub goes_on : (all done rest : List ℕ) (n : ℕ) → all ≡ done ++ rest → all ≡ (done ++ take n rest) ++ take (length rest - n) (drop n rest)
goes_on all done rest n e =
    e ∙ ap (λ l. done ++ l) (sym (take-append-drop n rest)) ∙ sym (append_assoc done (take n rest) (drop n rest))
    ∙ ap (λ l. (done ++ take n rest) ++ l) (sym (take_rest rest n))

-- what was taken before a failure is a prefix
pub stays_beginning : (a b c : Option (List ℕ)) (all done rest : List ℕ) → all ≡ done ++ rest → Appends a b done → Keeps b c → TookBeginning a c all
stays_beginning a b c all done rest e taken kept =
    let front : take (length done) all ≡ done = ap (take (length done)) e ∙ take-append_seam done rest in
    (length done, omega (arith, ap length e, length-append done rest), subst (Appends a c) (sym front) (Appends-kept a b c done taken kept))

-- a buffer filled up to f, and then by n bytes more
pub filled_by : (a b c : Option (List ℕ)) (old room new : List ℕ) (f n : ℕ) → take f room ≡ take f old → take f new ≡ take f room
    → Consumes a b (take f old) → Consumes b c (take n (drop f new)) → Consumes a c (take (f + n) new)
filled_by a b c old room new f n kept front before read =
    subst (Consumes a c) (sym (take-add f n new))
    (Consumes-trans a b c (take f new) (take n (drop f new)) (subst (Consumes a b) (sym (front ∙ kept)) before) read)

-- a buffer filled up to f after the bytes in front, and then by n bytes more
pub behind_by : (a b c : Option (List ℕ)) (front old room new : List ℕ) (f n : ℕ) → take f room ≡ take f old → take f new ≡ take f room
    → ReadBehind a b front (take f old) → Consumes b c (take n (drop f new)) → ReadBehind a c front (take (f + n) new)
behind_by a b c front old room new f n kept same before read =
    let (rest, split, consumed) = before in
    let piece = take n (drop f new) in
    let all : take (f + n) new ≡ front ++ (rest ++ piece) =
    take-add f n new ∙ ap (λ l. l ++ piece) (same ∙ kept ∙ split) ∙ append_assoc front rest piece in
    (rest ++ piece, all, Consumes-trans a b c rest piece consumed read)

-- a buffer filled from an offset on up to f, and then by n bytes more, while the device holds the same
pub filled_from : (before now : Option (List ℕ)) (offset f n : ℕ) (old new : List ℕ) → Keeps before now → take f new ≡ take f old
    → ReadsFrom before offset f old → ReadsFrom now (offset + f) n (drop f new) → ReadsFrom before offset (f + n) new
filled_from None now offset f n old new kept front done read = tt
filled_from (Some held) None offset f n old new kept front done read = absurd kept
filled_from (Some held) (Some same) offset f n old new kept front done read =
    let rest = drop offset held in
    let behind : take n (drop f new) ≡ take n (drop f rest) = read ∙ ap (λ l. take n (drop (offset + f) l)) kept ∙ ap (take n) (sym (drop-drop f offset held)) in
    take-add f n new ∙ ap (λ l. l ++ take n (drop f new)) (front ∙ done) ∙ ap (λ l. take f rest ++ l) behind ∙ sym (take-add f n rest)

-- a reading of a device whose bytes are not known
pub reads_unknown : {E : Type 0} (result : Result ℕ E) (buffer : List ℕ) → ReadConsumes None None result buffer
reads_unknown (Ok n) buffer = (tt, λ ends room. tt)
reads_unknown (Err e) buffer = tt
