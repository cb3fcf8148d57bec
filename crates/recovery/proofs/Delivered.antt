-- A recovery over devices: what was read, what is written, and its errors.
use Rattle.std.proofs.Common.{ℕ, ◌≡◌, ◌+◌, ◌⊎◌, List, ◌++◌, length, take, Option, Some, None, Result, Err, sym, subst, ap, ◌∙◌, arith, inl, inr, length-append}
use Rattle.std.proofs.Math.Seq.{take-append-add}
use Rattle.std.proofs.KnownBytes.{Appends-trans, Keeps-refl}
use Rattle.std.specs.Io.KnownBytes.{Appends}
use Rattle.page.specs.declared.fault.Fault.{Fault}
use Rattle.page.specs.declared.fault.Fault.TheVariants.{NoResource, ReadLog, ReadStore, WriteLog, WriteStore, BadWorkers, BadParting}
use Rattle.page.specs.File.{SpellsStore, store_text}
use Rattle.wal.specs.Reads.{Reads, log_text}
use Rattle.log_laws.specs.Meaning.{BasePages}
use Rattle.log_laws.specs.Theorems.{GoesOn}
use Rattle.wal.proofs.CutBytes.{cuts_settle}
use Rattle.device.specs.declared.traits.Sink.{Ghosts as Sink}
use Rattle.device.specs.Transfer.{TookBeginning}
use Rattle.restart.specs.declared.options.Options.{Options}
use Rattle.recovery.specs.declared.log_text.LogText.{LogText}
use Rattle.recovery.specs.declared.recovery.Remade.{Remade}
use Rattle.recovery.specs.Text.{ReportContent}
use Rattle.recovery.specs.LogText.{kept_of, text_of}
use Rattle.recovery.specs.Recovery.{Recovers, Recovered, AreLawful, AreCut, LawfulInput, RecoveryCause, log_with}
use Rattle.recovery.specs.Devices.{AreRemade, Gave, IsRemadeLawful, SourcesGave, Makes, Leaves, FailsOnlyWith, IsFaultOf, IsOut, DeviceCause, Delivers, Completes, IsOfNoSink, IsResourceOrDevice}
use Rattle.std.proofs.lemmas.Option.{same_Some}

-- if the bytes of a source are known, they are what was read
pub told : (left : Option (List ℕ)) (bytes known : List ℕ) → Gave left bytes → left ≡ Some known → bytes ≡ known
told None bytes known gave e = absurd (cc)
told (Some xs) bytes known gave e = gave ∙ same_Some _ _ e

-- what is made of what was read, if these bytes are kept of the log
module _ (text : LogText) (made : Remade) (kept : List ℕ) (is : kept ≡ kept_of text made.report.torn) where
  abbrev pub makes : {log_left store_left : Option (List ℕ)} → AreRemade log_left store_left (text, made) → Makes log_left store_left
  makes found = record {
    log = text_of text;
    store = found.store;
    new_log = log_with kept made;
    new_store = store_text made.store;
    report = made.report;
    are_read = found.are_read;
    recovers = subst (λ k. Recovers (text_of text) found.store (log_with k made) (store_text made.store) made.report) (sym is) found.remakes;
  }

  pub recovered : (x : LawfulInput) → IsRemadeLawful x (text, made) → Recovered x.base x.bytes.decoded.read x.bytes.decoded.before (log_with kept made) (store_text made.store) made.report
  recovered x restores = subst (λ k. Recovered x.base x.bytes.decoded.read x.bytes.decoded.before (log_with k made) (store_text made.store) made.report) (sym is) restores

-- and if the sources are known to hold lawful bytes, it is lawful
abbrev pub told_lawful : {base : BasePages} {log_left store_left : Option (List ℕ)} (log store log_text store_text : List ℕ) → SourcesGave log_left store_left log store
    → log_left ≡ Some log_text → store_left ≡ Some store_text → AreLawful base log_text store_text → AreLawful base log store
told_lawful {base} {log_left} {store_left} log store log_text store_text read tells_log tells_store bytes = record {
  decoded = record {
    read = bytes.decoded.read;
    torn = bytes.decoded.torn;
    before = bytes.decoded.before;
    reads = subst (λ l. Reads l bytes.decoded.read bytes.decoded.torn) (sym (told log_left log log_text read.log_read tells_log)) bytes.decoded.reads;
    spells = subst (λ s. SpellsStore s bytes.decoded.before) (sym (told store_left store store_text read.store_read tells_store)) bytes.decoded.spells;
  };
  lawful = bytes.lawful;
}

-- an error of the bytes is an error over the devices
pub device_cause : (log_left store_left : Option (List ℕ)) (options : Options) (log store : List ℕ) (e : Fault) → SourcesGave log_left store_left log store → RecoveryCause log store options e → DeviceCause log_left store_left options e
device_cause log_left store_left options log store NoResource read h = tt
device_cause log_left store_left options log store ReadLog read h = tt
device_cause log_left store_left options log store ReadStore read h = tt
device_cause log_left store_left options log store WriteLog read h = tt
device_cause log_left store_left options log store WriteStore read h = tt
device_cause log_left store_left options log store BadWorkers read h = h
device_cause log_left store_left options log store BadParting read h = h
device_cause log_left store_left options log store e read h = (log, store, read, h)

-- and it is no sink's
pub never_sink : (log store : List ℕ) (options : Options) (e : Fault) → RecoveryCause log store options e → IsOfNoSink e
never_sink log store options WriteLog h =
    elim h.1 [
      | inl i ↦ i.behind.fault
      | inr i ↦ elim i [ inl j ↦ j.3 | inr j ↦ j.1.1.holds ]
    ]
never_sink log store options WriteStore h =
    elim h.1 [
      | inl i ↦ i.behind.fault
      | inr i ↦ elim i [ inl j ↦ j.3 | inr j ↦ j.1.1.holds ]
    ]
never_sink log store options e h = tt

-- the fault of a source, or a lack of memory, as the first reading tells it
pub of_source : (own e : Fault) → (own ≡ ReadLog) ⊎ (own ≡ ReadStore) → IsFaultOf own e → (e ≡ ReadLog) ⊎ IsFaultOf ReadStore e
of_source own e (inl log) (inl none) = inr (inl none)
of_source own e (inl log) (inr is) = inl (is ∙ log)
of_source own e (inr store) (inl none) = inr (inl none)
of_source own e (inr store) (inr is) = inr (inr (is ∙ store))

-- a fault that is passed on blames the same device
pub blamed_on : {T U : Type 0} (own e : Fault) (before after : ℕ) (first : Result T Fault) (then : Result U Fault) → first ≡ Err e → then ≡ Err e
    → FailsOnlyWith own first before after → FailsOnlyWith own then before after
blamed_on own e before after first then is_first is_then found = record {
  blamed = λ is. found.blamed (cc);
  innocent = λ other. found.innocent (λ is. other (cc));
}

-- after a fault of no sink nothing is written
pub nothing_out : {L S : Type 0} (out_log : Sink L) (a : L) (out_store : Sink S) (b : S) (log_left store_left : Option (List ℕ)) (e : Fault)
    → IsOfNoSink e → IsOut out_log a a out_store b b log_left store_left e
nothing_out out_log a out_store b log_left store_left WriteLog h = absurd h
nothing_out out_log a out_store b log_left store_left WriteStore h = absurd h
nothing_out out_log a out_store b log_left store_left e h = (Keeps-refl (out_log.taken a), Keeps-refl (out_store.taken b))

pub is_resource : (e : Fault) → e ≡ NoResource → IsResourceOrDevice e
is_resource e alone = subst IsResourceOrDevice (sym alone) tt

-- what a fault of a sink leaves is written
pub left_out : {L S : Type 0} (log : Sink L) (a b : L) (store : Sink S) (c d : S) {log_left store_left : Option (List ℕ)} (made : Makes log_left store_left) (e : Fault)
    → Leaves log a b store c d made.new_log made.new_store e → IsOut log a b store c d log_left store_left e
left_out log a b store c d made WriteLog h = (made, h)
left_out log a b store c d made WriteStore h = (made, h)
left_out log a b store c d made e h = absurd h

-- A LOG IN TWO PIECES
-- the first piece with a prefix of the second is a prefix of both
pub behind_front : (before between after : Option (List ℕ)) (front back : List ℕ) → Appends before between front → TookBeginning between after back → TookBeginning before after (front ++ back)
behind_front before between after front back out (count, within, taken) =
    (length front + count, omega (arith, within, length-append front back), subst (Appends before after) (sym (take-append-add front back count)) (Appends-trans before between after front (take count back) out taken))

-- AFTER AN INTERRUPTION
module _ {base : BasePages} {log store : List ℕ} (bytes : AreCut base log store) where
  pub goes_on : GoesOn base bytes.first.decoded.read bytes.first.decoded.before bytes.cut.whole bytes.left
  goes_on =
      cuts_settle base bytes.first.decoded.read bytes.first.decoded.before bytes.first_log bytes.first.decoded.torn log bytes.left
      bytes.first.decoded.reads bytes.first.decoded.spells.fits.numbered bytes.spells.fits.numbered bytes.first.lawful bytes.cut

  -- what an interrupted restart leaves is lawful
  abbrev pub cut_lawful : AreLawful base log store
  cut_lawful = record {
    decoded = record { read = bytes.cut.whole; torn = bytes.cut.torn; before = bytes.left; reads = bytes.cut.reads; spells = bytes.spells };
    lawful = goes_on.lawful;
  }

  -- and what a restart on it writes is what the first would have written
  pub completed : {L S : Type 0} (out_log : Sink L) (a b : L) (out_store : Sink S) (c d : S) (report : ReportContent)
      → Delivers out_log a b out_store c d (record { base = base; log = log; store = store; bytes = cut_lawful }) report
      → Completes out_log a b out_store c d (record { base = base; log = bytes.first_log; store = bytes.first_store; bytes = bytes.first })
  completed out_log a b out_store c d report out = record {
    log_out = subst (Appends (out_log.taken a) (out_log.taken b)) (out.recovered.log_is ∙ ap log_text goes_on.same_log) out.log_out;
    store_out = subst (Appends (out_store.taken c) (out_store.taken d)) (out.recovered.store_is ∙ ap store_text goes_on.same_store) out.store_out;
  }
