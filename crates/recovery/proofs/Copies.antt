-- A log that is copied piece by piece: what is written of it, and what a fault leaves.
use Rattle.std.proofs.Common.{ℕ, ◌≡◌, ◌+◌, ◌≤◌, List, ◌++◌, take, drop, Option, ap, ap₂, sym, subst, ◌∙◌, arith, take-take, take-append-drop}
use Rattle.std.proofs.KnownBytes.{Appends-trans}
use Rattle.std.proofs.lemmas.List.{drop-take}
use Rattle.std.specs.Io.KnownBytes.{Appends}
use Rattle.page.specs.declared.fault.Fault.{Fault}
use Rattle.device.specs.Transfer.{TookBeginning}
use Rattle.page.specs.declared.fault.Fault.TheVariants.{ReadLog, BadLsn}
use Rattle.recovery.specs.Copying.{IsOfCopying, IsOfRereading}
use Rattle.recovery.proofs.Delivered.{behind_front}
use Rattle.recovery.proofs.Taken.{begins_longer}

-- PIECES
-- the bytes up to an offset, and a piece after them
pub piece_more : (offset n : ℕ) (text : List ℕ) → take offset text ++ take n (drop offset text) ≡ take (offset + n) text
piece_more offset n text =
    ap₂ (λ (a b : List ℕ). a ++ b) (sym (take-take offset (offset + n) text (omega arith))) (sym (drop-take offset n text))
    ∙ take-append-drop offset (take (offset + n) text)

module _ (before between after : Option (List ℕ)) (offset n : ℕ) (text : List ℕ) (came : Appends before between (take offset text)) where
  -- are copied
  pub copied_more : Appends between after (take n (drop offset text)) → Appends before after (take (offset + n) text)
  copied_more more = subst (Appends before after) (piece_more offset n text) (Appends-trans before between after _ _ came more)

  -- or, after a fault, a prefix of all that is to be copied
  pub copied_part : (kept : ℕ) → offset + n ≤ kept → TookBeginning between after (take n (drop offset text)) → TookBeginning before after (take kept text)
  copied_part kept le took =
      let upto = take (offset + n) text in
      let some : TookBeginning before after upto = subst (TookBeginning before after) (piece_more offset n text) (behind_front before between after (take offset text) (take n (drop offset text)) came took) in
      let all : upto ++ drop (offset + n) (take kept text) ≡ take kept text =
      ap (λ (t : List ℕ). t ++ drop (offset + n) (take kept text)) (sym (take-take (offset + n) kept text le)) ∙ take-append-drop (offset + n) (take kept text) in
      subst (TookBeginning before after) all (begins_longer before after upto (drop (offset + n) (take kept text)) some)

-- ERRORS: what is read again to be copied
pub of_copying : (e : Fault) → IsOfRereading e → IsOfCopying e
of_copying ReadLog h = tt
of_copying (BadLsn offset) h = tt
of_copying e h = absurd h
