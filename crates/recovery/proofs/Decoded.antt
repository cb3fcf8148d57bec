-- A store whose bytes come piece by piece: what the decoder of all of them returns.
use Rattle.std.proofs.Common.{◌≡◌, ℕ, List, [], Result, Ok, Option, refl, subst}
use Rattle.std.specs.Prelude.{IfOk, OnOk, IfErr, MatchResult}
use Rattle.std.proofs.lemmas.Result.{IfOk-at_ok}
use Rattle.std.specs.Io.KnownBytes.{Consumes, IsAtEnd}
use Rattle.std.proofs.KnownBytes.{Consumes-all}
use Rattle.page.specs.declared.fault.Fault.{Fault}
use Rattle.page.specs.declared.fault.Fault.TheVariants.{NoResource}
use Rattle.page.specs.Store.{StoreContent}
use Rattle.page.specs.File.{SpellsStore, StoreFault}
use Rattle.recovery.specs.declared.store_pieces.DecodedStore.{DecodedStore}
use Rattle.recovery.specs.Recovery.{Decodes}
use Rattle.recovery.specs.Devices.{Gave, SourcesGave}

-- WHAT A SOURCE GAVE
-- all that it had left, if it is at its end
pub gave_all : (a b : Option (List ℕ)) (bytes : List ℕ) → Consumes a b bytes → IsAtEnd b → Gave a bytes
gave_all a b bytes read end = Consumes-all a b bytes [] bytes read end refl

-- the bytes of both sources: those of a log, and what was read of a store encodes what the result says
pub both_read : {log_left left : Option (List ℕ)} {log : List ℕ} {answer : Result DecodedStore Fault} (found : DecodedStore) → Gave log_left log → answer ≡ Ok found
    → IfOk answer (λ d. (text : List ℕ) × Gave left text × Decodes text d.store) → (text : List ℕ) × SourcesGave log_left left log text × Decodes text found.store
both_read {log_left} {left} {log} {answer} found gave was read =
    let (text, store_gave, decodes) = IfOk-at_ok (λ d. (text : List ℕ) × Gave left text × Decodes text d.store) was read in
    (text, record { log_read = gave; store_read = store_gave }, decodes)

-- a source that was read is at its end
pub at_end : {T : Type 0} (left : Option (List ℕ)) (answer : Result T Fault) (found : T) → answer ≡ Ok found → OnOk answer (IsAtEnd left) → IsAtEnd left
at_end left answer found was end = subst (λ r. OnOk r (IsAtEnd left)) was end

-- THE RESULT of a reader to which these bytes came
pub decodes_by : (came text : List ℕ) (answer : Result StoreContent Fault) → came ≡ text → IfOk answer (SpellsStore came) → ((store : StoreContent) → SpellsStore came store → MatchResult answer (λ read. read ≡ store) (λ e. e ≡ NoResource)) → IfErr answer (StoreFault came) → Decodes text answer
decodes_by came text answer same found only fault =
    subst (λ t. Decodes t answer) same (record { found = found; only = only; fault = fault })
