-- The bytes of a log that were read in two parts.
use Rattle.std.proofs.Common.{◌≡◌, ℕ, ◌+◌, ◌-◌, ◌≤◌, List, ◌++◌, length, take, drop, Ok, Err, Option, sym, ap, ap₂, subst, ◌∙◌, arith, inl, inr, length-append}
use Rattle.std.specs.Prelude.{min, OnOk, Result}
use Rattle.std.proofs.lemmas.List.{append-nil, take_at, drop_at, take_all, length-take, take-append-le}
use Rattle.std.proofs.Math.Seq.{take-append-add}
use Rattle.std.proofs.lemmas.Bool.Decides.{leb_tells}
use Rattle.std.specs.Io.KnownBytes.{Consumes, IsAtEnd}
use Rattle.std.proofs.KnownBytes.{Consumes-trans}
use Rattle.device.specs.Transfer.{ReadBehind}
use Rattle.page.specs.declared.fault.Fault.{Fault}
use Rattle.wal.specs.Frames.{Fails}
use Rattle.log_laws.specs.Records.{LogContent}
use Rattle.wal.specs.Reads.{Cause}
use Rattle.wal.proofs.Causes.{no_fault_of_a_log}
use Rattle.recovery.specs.LogText.{CameAfter}
use Rattle.recovery.specs.Recovery.{ReadsAs}
use Rattle.recovery.specs.Devices.{Gave}
use Rattle.recovery.proofs.Decoded.{gave_all}

-- bytes that are not a log are read as none
pub no_log : (text : List ℕ) (e : Fault) → Cause text e → ReadsAs text (Err e)
no_log text e cause = record {
  found = tt;
  only = λ log torn reads. subst (λ f. Fails {Y = LogContent × ℕ} f (Ok (log, torn))) (sym (no_fault_of_a_log text log torn reads e cause)) tt;
  fault = cause;
}

-- what was read after the first bytes
pub behind_room : {D : Type 0} (left : D → Option (List ℕ)) (a b : D) (n : ℕ) (old new : List ℕ) → n ≤ length old → ReadBehind (left a) (left b) (take n old) new
    → (take n new ≡ take n old) × CameAfter left a b n new
behind_room left a b n old new within (rest, is, read) =
    let long : length (take n old) ≡ n = omega (arith, length-take n old, within) in (
      ap (take n) is ∙ take_at (take n old) rest n long,
      record {
        read = subst (Consumes (left a) (left b)) (sym (ap (drop n) is ∙ drop_at (take n old) rest n long)) read;
        within = omega (arith, ap length is, length-append (take n old) rest, long);
      },
    )

-- all that a source had, in two reads
pub gave_both : (a b c : Option (List ℕ)) (first rest text : List ℕ) → Consumes a b first → Consumes b c rest → IsAtEnd c → text ≡ first ++ rest → Gave a text
gave_both a b c first rest text one two end is = subst (Gave a) (sym is) (gave_all a c (first ++ rest) (Consumes-trans a b c first rest one two) end)

-- all bytes without the last, if they are in two parts
pub kept_is : (front back : List ℕ) (torn n m k : ℕ) → n ≡ length front → m ≡ min n (torn - length back) → k ≡ length back - torn
    → take (n - m) front ++ take k back ≡ take (length (front ++ back) - torn) (front ++ back)
kept_is front back torn n m k long less rest =
    elim (leb_tells torn (length back)) [
      | inl p ↦
          (let all : length front + (length back - torn) ≡ length (front ++ back) - torn = omega (arith, p.1, length-append front back) in
          ap₂ (λ (a b : List ℕ). a ++ b) (take_all (n - m) front (omega (arith, long, less, p.1))) (ap (λ j. take j back) rest)
          ∙ sym (take-append-add front back (length back - torn))
          ∙ ap (λ j. take j (front ++ back)) all)
      | inr p ↦
          (let none : k ≡ 0 = omega (arith, rest, p.1) in
          let all : n - m ≡ length (front ++ back) - torn = omega (arith, long, less, p.1, length-append front back) in
          ap (λ j. take (n - m) front ++ take j back) none
          ∙ append-nil (take (n - m) front)
          ∙ ap (λ j. take j front) all
          ∙ sym (take-append-le (length (front ++ back) - torn) front back (omega (arith, p.1, length-append front back))))
    ]

-- what holds for a result
pub at_ok : {A P : Type 0} {x : A} (r : Result A Fault) → r ≡ Ok x → OnOk r P → P
at_ok (Ok y) e h = h
at_ok (Err f) e h = absurd cc
