-- A recovery in pieces: what is made of the log and the store, and what a fault leaves.
use Rattle.std.proofs.Common.{ℕ, ◌≡◌, ◌-◌, ◌⊎◌, List, ◌++◌, length, take, drop, Option, Some, Ok, Err, Result, refl, sym, ap, subst, ◌∙◌, inl, inr, append_assoc, take-append-drop}
use Rattle.std.specs.Prelude.{IfErr, IfOk}
use Rattle.std.specs.Option.{ForSome}
use Rattle.std.specs.Io.KnownBytes.{Appends, Keeps}
use Rattle.page.specs.declared.fault.Fault.{Fault}
use Rattle.page.specs.declared.fault.Fault.TheVariants.{ReadLog, ReadStore, WriteLog, WriteStore}
use Rattle.page.specs.File.{store_text}
use Rattle.log_laws.specs.Meaning.{BasePages}
use Rattle.wal.specs.Reads.{log_text}
use Rattle.wal.proofs.Whole.{one_reading}
use Rattle.device.specs.declared.traits.Sink.{Ghosts as Sink}
use Rattle.device.specs.Transfer.{TookBeginning}
use Rattle.restart.specs.declared.options.Options.{Options}
use Rattle.restart.specs.Options.{AreInRange}
use Rattle.recovery.specs.declared.by_pieces.Made.{Made}
use Rattle.recovery.specs.declared.by_pieces.Continuation.{Continuation}
use Rattle.recovery.specs.declared.store_changes.DecodedLsns.{DecodedLsns}
use Rattle.recovery.specs.declared.new_log.NewLog.{Ghosts as NewLog}
use Rattle.recovery.specs.Text.{ReportContent}
use Rattle.recovery.specs.Recovery.{AreCut, AreLawful, Recovered, Recovers}
use Rattle.recovery.specs.Devices.{AreCutOf, DeviceCause, IsFaultOf, IsOfNoSink, IsResourceOrDevice, OnceRead}
use Rattle.recovery.specs.StoreChanges.{AreDecodedLsns, DecodesLsns}
use Rattle.recovery.specs.ByPieces.{AreMade, ForLawfulTexts, IsCauseOf, IsMade, IsMadeLawful, IsMadeRead, MeasuresLog, TextsCause, continued_log, store_made}
use Rattle.recovery.specs.NewLogs.{AreCompleted, AreDelivered, AreLeft, IsResumable, Prepares}
use Rattle.recovery.proofs.Bytes.{kept_text}
use Rattle.recovery.proofs.ByPieces.{by_device, of_log}
use Rattle.recovery.proofs.Delivered.{cut_lawful, goes_on}
use Rattle.recovery.proofs.Resuming.{cut_of}
use Rattle.recovery.proofs.StoreAgain.{both_give, decoded_lsns}

-- THE NEW LOG is what is kept and the frames
pub copy_is : (log : List ℕ) (made : Continuation) → MeasuresLog log made → continued_log log made ≡ take made.kept log ++ made.frames.items
copy_is log made measured = ap (λ n. take n log ++ made.frames.items) (sym measured.kept_is)

module _ (log store : List ℕ) (x : Made) (is : IsMade log store x) where
  -- what is made of both
  abbrev pub prepared : Prepares (Some log) (Some store)
  prepared = record {
    log = log;
    store = store;
    kept = x.log.kept;
    frames = x.log.frames.items;
    new_store = store_made x is.remakes.recovers.0;
    report = x.log.report;
    are_read = record { log_read = refl; store_read = refl };
    kept_is = is.measures.kept_is;
    recovers = subst (λ l. Recovers log store l (store_made x is.remakes.recovers.0) x.log.report) (copy_is log x.log is.measures) is.remakes.recovers.2;
  }

  -- and of lawful input
  module _ {base : BasePages} (bytes : AreLawful base log store) where
    pub restored : Recovered base bytes.decoded.read bytes.decoded.before (take x.log.kept log ++ x.log.frames.items) (store_made x (is.restores base bytes).0) x.log.report
    restored = subst (λ l. Recovered base bytes.decoded.read bytes.decoded.before l (store_made x (is.restores base bytes).0) x.log.report) (copy_is log x.log is.measures) (is.restores base bytes).2

    -- what is kept is all but the torn tail
    pub kept_is : take x.log.kept log ≡ log_text bytes.decoded.read
    kept_is =
        let recovers = is.remakes.recovers.2 in
        let one = one_reading log recovers.decoded.read bytes.decoded.read recovers.decoded.torn bytes.decoded.torn recovers.decoded.reads bytes.decoded.reads in
        let torn : x.log.kept ≡ length log - bytes.decoded.torn =
        is.measures.kept_is ∙ ap (λ (r : ReportContent). length log - r.torn) recovers.report_is ∙ ap (λ t. length log - t) one.1 in
        ap (λ n. take n log) torn ∙ kept_text log bytes.decoded.read bytes.decoded.torn bytes.decoded.reads

    -- and with a prefix of the frames it is a cut
    pub cuts : (n : ℕ) → AreCutOf base bytes.decoded.read bytes.decoded.before (take x.log.kept log ++ take n x.log.frames.items) store
    cuts n =
        let front = take x.log.kept log in
        let frames = x.log.frames.items in
        cut_of bytes (front ++ frames) restored.reads (front ++ take n frames) (take n frames) (drop n frames) (ap (λ (t : List ℕ). t ++ take n frames) kept_is)
        (ap (λ (t : List ℕ). front ++ t) (sym (take-append-drop n frames)) ∙ sym (append_assoc front (take n frames) (drop n frames)))

    pub resumable : {N : Type 0} (new_log : NewLog N) (a b : N) (e : Fault) → new_log.leaves a b log x.log.kept x.log.frames.items e ⊎ new_log.holds a b log x.log.kept x.log.frames.items
        → IsResumable new_log a b (record { base = base; log = log; store = store; bytes = bytes }) e
    resumable new_log a b e left = record { kept = x.log.kept; frames = x.log.frames.items; kept_is = kept_is; cuts = cuts; left = left }

-- WHAT IS READ of both devices, and what is made of it
module _ (log_held store_held : Option (List ℕ)) (found : DecodedLsns) (read : AreDecodedLsns store_held found) where
  pub are_made : (answer : Result Made Fault) → IfOk answer (IsMadeRead log_held found.store) → IfOk answer (λ x. ForSome log_held (λ text. MeasuresLog text x.log))
      → IsMadeLawful log_held (λ store _. DecodesLsns store found.store) answer → IfOk answer (AreMade log_held store_held)
  are_made (Ok x) answer measured lawful = λ log store is tells.
      let decodes = decoded_lsns store_held found store tells read in
      record { remakes = answer log store is decodes; measures = measured log is; restores = λ base bytes. lawful base log store bytes is decodes }
  are_made (Err e) answer measured lawful = tt

  pub made_lawful : (answer : Result Made Fault) → IsMadeLawful log_held (λ store _. DecodesLsns store found.store) answer
      → IfErr answer (λ e. ForLawfulTexts log_held store_held (IsResourceOrDevice e))
  made_lawful (Ok x) lawful = tt
  made_lawful (Err e) lawful = λ base log store is tells bytes. of_log e (lawful base log store bytes is (decoded_lsns store_held found store tells read))

  pub made_cause : (e : Fault) → IsCauseOf log_held (λ text. DecodesLsns text found.store) e → (options : Options) → AreInRange options → TextsCause log_held store_held options e
  made_cause e fault options range = λ log store is tells.
      by_device (Some store) options log store e (both_give log store) (fault log store options is (decoded_lsns store_held found store tells read) range)

-- THE FIRST READING of the store: why it ends with a fault
module _ (e : Fault) where
  pub first_resource : (e ≡ ReadLog) ⊎ IsFaultOf ReadStore e → IsResourceOrDevice e
  first_resource (inl own) = subst IsResourceOrDevice (sym own) tt
  first_resource (inr (inl none)) = subst IsResourceOrDevice (sym none) tt
  first_resource (inr (inr own)) = subst IsResourceOrDevice (sym own) tt

  pub first_cause : (log_left store_left : Option (List ℕ)) (options : Options) → (e ≡ ReadLog) ⊎ IsFaultOf ReadStore e → DeviceCause log_left store_left options e
  first_cause log_left store_left options (inl own) = subst (DeviceCause log_left store_left options) (sym own) tt
  first_cause log_left store_left options (inr (inl none)) = subst (DeviceCause log_left store_left options) (sym none) tt
  first_cause log_left store_left options (inr (inr own)) = subst (DeviceCause log_left store_left options) (sym own) tt

  pub first_no_sink : (e ≡ ReadLog) ⊎ IsFaultOf ReadStore e → IsOfNoSink e
  first_no_sink (inl own) = subst IsOfNoSink (sym own) tt
  first_no_sink (inr (inl none)) = subst IsOfNoSink (sym none) tt
  first_no_sink (inr (inr own)) = subst IsOfNoSink (sym own) tt

  pub first_read : (P : Type 0) → (e ≡ ReadLog) ⊎ IsFaultOf ReadStore e → OnceRead P e
  first_read P (inl own) = subst (OnceRead P) (sym own) (λ after. absurd after)
  first_read P (inr (inl none)) = subst (OnceRead P) (sym none) (λ after. absurd after)
  first_read P (inr (inr own)) = subst (OnceRead P) (sym own) (λ after. absurd after)

-- WHILE THE NEW LOG IS WRITTEN, the fault is one of the devices
module _ (e : Fault) where
  pub log_resource : (e ≡ ReadLog) ⊎ (e ≡ WriteLog) → IsResourceOrDevice e
  log_resource (inl own) = subst IsResourceOrDevice (sym own) tt
  log_resource (inr own) = subst IsResourceOrDevice (sym own) tt

  pub log_device : (log_left store_left : Option (List ℕ)) (options : Options) → (e ≡ ReadLog) ⊎ (e ≡ WriteLog) → DeviceCause log_left store_left options e
  log_device log_left store_left options (inl own) = subst (DeviceCause log_left store_left options) (sym own) tt
  log_device log_left store_left options (inr own) = subst (DeviceCause log_left store_left options) (sym own) tt

  -- while the new store is
  pub store_resource : (e ≡ ReadStore) ⊎ (e ≡ WriteStore) → IsResourceOrDevice e
  store_resource (inl own) = subst IsResourceOrDevice (sym own) tt
  store_resource (inr own) = subst IsResourceOrDevice (sym own) tt

  pub store_device : (log_left store_left : Option (List ℕ)) (options : Options) → (e ≡ ReadStore) ⊎ (e ≡ WriteStore) → DeviceCause log_left store_left options e
  store_device log_left store_left options (inl own) = subst (DeviceCause log_left store_left options) (sym own) tt
  store_device log_left store_left options (inr own) = subst (DeviceCause log_left store_left options) (sym own) tt

module _ {N S : Type 0} (new_log : NewLog N) (a b : N) (store : Sink S) (c d : S) {log_held store_held : Option (List ℕ)} (made : Prepares log_held store_held) (e : Fault) where
  pub log_left : (e ≡ ReadLog) ⊎ (e ≡ WriteLog) → new_log.leaves a b made.log made.kept made.frames e → Keeps (store.taken c) (store.taken d) → AreLeft new_log a b store c d log_held store_held e
  log_left (inl own) left same =
      subst (AreLeft new_log a b store c d log_held store_held) (sym own)
      (inr (made, subst (new_log.leaves a b made.log made.kept made.frames) own left, same))
  log_left (inr own) left same =
      subst (AreLeft new_log a b store c d log_held store_held) (sym own)
      (made, subst (new_log.leaves a b made.log made.kept made.frames) own left, same)

  pub store_left : (e ≡ ReadStore) ⊎ (e ≡ WriteStore) → new_log.holds a b made.log made.kept made.frames → TookBeginning (store.taken c) (store.taken d) made.new_store → AreLeft new_log a b store c d log_held store_held e
  store_left (inl own) held took = subst (AreLeft new_log a b store c d log_held store_held) (sym own) (inr (made, held, took))
  store_left (inr own) held took = subst (AreLeft new_log a b store c d log_held store_held) (sym own) (made, held, took)

-- AFTER AN INTERRUPTION all is as the first restart would have left it
pub all_completed : {N S : Type 0} (new_log : NewLog N) (a b : N) (store : Sink S) (c d : S) {base : BasePages} {log store_bytes : List ℕ} (bytes : AreCut base log store_bytes) (report : ReportContent)
    → AreDelivered new_log a b store c d (record { base = base; log = log; store = store_bytes; bytes = cut_lawful bytes }) report
    → AreCompleted new_log a b store c d log (record { base = base; log = bytes.first_log; store = bytes.first_store; bytes = bytes.first })
all_completed new_log a b store c d bytes report out =
    let on = goes_on bytes in
    record {
      kept = out.kept;
      frames = out.frames;
      log_is = out.recovered.log_is ∙ ap log_text on.same_log;
      log_out = out.log_out;
      store_out = subst (Appends (store.taken c) (store.taken d)) (out.recovered.store_is ∙ ap store_text on.same_store) out.store_out;
    }
