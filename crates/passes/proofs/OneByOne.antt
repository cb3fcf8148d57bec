-- The records of a piece, taken one after another.
use Rattle.std.proofs.Common.{◌≡◌, ℕ, suc, ◌+◌, ◌≤◌, List, [], ◌∷◌, ◌++◌, length, take, drop, map, Some, sym, ap, subst, ◌∙◌, append_assoc, arith, ◌-◌, length-append}
use Rattle.std.proofs.lemmas.List.{append-nil, length-map, map_push, length-take}
use Rattle.std.proofs.Math.Seq.{take-append-add}
use Rattle.std.proofs.Common.{take-take}
use Rattle.page.specs.declared.fault.Fault.{Fault}
use Rattle.log_laws.specs.declared.start.LogStart.{LogStart}
use Rattle.log_laws.specs.declared.start.LogStart.TheVariants.{Version2}
use Rattle.log_laws.specs.Records.{LogRecord, lsn_before, LogContent, History, start, ◌▸◌, history, last_lsn, base_lsn, record_at, ◌⧺◌}
use Rattle.log_laws.proofs.Histories.{base_of_log, base_within, first_more, history_push, record_last, record_older, size_of_log}
use Rattle.wal.specs.Frames.{record_of}
use Rattle.wal.proofs.FirstFrames.{frames_of}
use Rattle.wal.specs.Reads.{Reads}
use Rattle.wal.specs.Headers.{header_of}
use Rattle.wal.specs.declared.glance.Glance.{Glance}
use Rattle.wal.specs.Glances.{IsGlanceBehind}
use Rattle.wal.specs.declared.sizes.TheConstants.{LARGEST_BASE, BASED_HEADER_BYTES}
use Rattle.wal.proofs.Headers.{header_length}
use Rattle.tables.specs.Pieces.{IsPieceOf}
use Rattle.pieces.specs.declared.mark.Mark.{Mark}
use Rattle.pieces.specs.Pieces.{IsMark, piece_text, ContinuesEach, ContinuesLog}
use Rattle.pieces.proofs.Pieces.{goes_on}
use Rattle.pieces.proofs.Beginnings.{pieces_belong}
use Rattle.passes.specs.declared.pass.Pass.{Ghosts as Pass}
use Rattle.passes.specs.Pieces.{IsNextRecord, PassesOver, StopsIn, one_record}
use Rattle.passes.proofs.ReadForward.{ends_with_piece, goes_on_at}
use Rattle.passes.proofs.Reached.{base_is}

-- A PIECE WITH ONE MORE RECORD: without it, and the record by itself
module _ (whole : History) (log : LogContent) (r : LogRecord) (own : IsPieceOf whole (history (log ⧺ r ∷ []))) where
  longer : IsPieceOf whole (history log ▸ r)
  longer = subst (IsPieceOf whole) (history_push log r) own

  front_of : IsPieceOf whole (history log)
  front_of = record {
    low = longer.low;
    high = omega (arith, longer.high);
    each = λ lsn above below. sym (record_older (history log) r lsn below) ∙ longer.each lsn above (omega (arith, below));
  }

  last_of : IsPieceOf whole (history (one_record (last_lsn (history log)) r))
  last_of =
      let n = last_lsn (history log) in
      record {
        low = omega (arith, longer.low, base_within (history log));
        high = longer.high;
        each = λ lsn above below.
            let at : lsn ≡ suc n = omega (arith, above, below) in
            ap (record_at (start n ▸ r)) at ∙ record_last (start n) r ∙ sym (record_last (history log) r) ∙ ap (record_at (history log ▸ r)) (sym at)
            ∙ longer.each lsn (omega (arith, above, base_within (history log))) (omega (arith, below));
      }

-- it begins where the log before it ends
begins_at : (before log : LogContent) (r : LogRecord) → last_lsn (history before) ≡ base_lsn (history (log ⧺ r ∷ [])) → last_lsn (history before) ≡ base_lsn (history log)
begins_at before log r at = at ∙ base_of_log (log ⧺ r ∷ []) ∙ sym (base_of_log log)

module _ {P : Type 0} (pass : Pass P) where
  -- TAKEN: none
  pub passes_none : ((scan : P) (whole before : LogContent) → pass.passes scan scan whole before before) → (scan : P) (log : LogContent) → log.records ≡ [] → PassesOver pass.passes scan scan log
  passes_none begins scan log none whole before own at =
      subst (pass.passes scan scan whole before)
      (ap (λ (rs : List LogRecord). record { begins = before.begins; records = rs }) (sym (ap (λ (rs : List LogRecord). before.records ++ rs) none ∙ append-nil before.records)))
      (begins scan whole before)

  -- one more
  pub passes_more : ((old now new : P) (whole before between after : LogContent) → pass.passes old now whole before between → pass.passes now new whole between after → pass.passes old new whole before after)
      → (old now new : P) (log : LogContent) (r : LogRecord) → PassesOver pass.passes old now log → PassesOver pass.passes now new (one_record (last_lsn (history log)) r) → PassesOver pass.passes old new (log ⧺ r ∷ [])
  passes_more on old now new log r so_far next whole before own at =
      let begun = begins_at before log r at in
      let between = before ⧺ log.records in
      subst (pass.passes old new whole before)
      (ap (λ (rs : List LogRecord). record { begins = before.begins; records = rs }) (append_assoc before.records log.records (r ∷ [])))
      (on old now new whole before between (between ⧺ r ∷ []) (so_far whole before (front_of (history whole) log r own) begun)
      (next whole between (last_of (history whole) log r own) (ends_with_piece before log begun)))

  -- or a fault at one more
  pub stops_more : ((old now : P) (whole before between : LogContent) (e : Fault) → pass.passes old now whole before between → pass.stops now whole between e → pass.stops old whole before e)
      → (old now : P) (log : LogContent) (r : LogRecord) (e : Fault) → PassesOver pass.passes old now log → StopsIn pass.stops now (one_record (last_lsn (history log)) r) e → StopsIn pass.stops old (log ⧺ r ∷ []) e
  stops_more later old now log r e so_far stop whole before own at =
      let begun = begins_at before log r at in
      let between = before ⧺ log.records in
      later old now whole before between e (so_far whole before (front_of (history whole) log r own) begun)
      (stop whole between (last_of (history whole) log r own) (ends_with_piece before log begun))

-- THE FRAMES of a piece: one more, and the LSN of the last record
pub frames_push : (begins : LogStart) (bytes offsets : List ℕ) (end : ℕ) (r : LogRecord) → record_of bytes end ≡ r → frames_of begins bytes (offsets ++ end ∷ []) ≡ frames_of begins bytes offsets ⧺ r ∷ []
frames_push begins bytes offsets end r is =
    ap (λ (rs : List LogRecord). record { begins = begins; records = rs })
    (map_push (record_of bytes) offsets end ∙ ap (λ (x : LogRecord). map (record_of bytes) offsets ++ x ∷ []) is)

pub last_frame : (begins : LogStart) (bytes offsets : List ℕ) → last_lsn (history (frames_of begins bytes offsets)) ≡ lsn_before begins + length offsets
last_frame begins bytes offsets = size_of_log (frames_of begins bytes offsets) ∙ ap (λ n. lsn_before begins + n) (length-map offsets (record_of bytes))

-- A RECORD BY ITSELF is that of the log at its LSN, and the only one of its piece
pub there_in : (whole : History) (lsn : ℕ) (r : LogRecord) → IsPieceOf whole (history (one_record lsn r)) → record_at whole (lsn + 1) ≡ Some r
there_in whole lsn r own = sym (own.each (lsn + 1) (omega arith) (omega arith)) ∙ ap (record_at (start lsn ▸ r)) (omega arith) ∙ record_last (start lsn) r

pub seen_behind : (lsn : ℕ) (glance : Glance) (body : List ℕ) (r : LogRecord) → IsNextRecord lsn glance body r → IsGlanceBehind (history (one_record lsn r)) lsn glance
seen_behind lsn glance body r next =
    let there : record_at (start lsn ▸ r) (lsn + 1) ≡ Some r = ap (record_at (start lsn ▸ r)) (omega arith) ∙ record_last (start lsn) r in
    record { entry = r; there = there; seen_of = next.seen_of; fits = next.fits; next = first_more (start lsn ▸ r) lsn r there }

-- with it a log ends one LSN later
pub ends_one_later : (before : LogContent) (lsn : ℕ) (r : LogRecord) → last_lsn (history before) ≡ lsn → last_lsn (history (before ⧺ r ∷ [])) ≡ lsn + 1
ends_one_later before lsn r at = ap last_lsn (history_push before r) ∙ omega (arith, at)

-- WHAT WAS READ of a piece continues each log before its mark
pub continues_each : (mark : Mark) (bytes : List ℕ) (piece : LogContent) (torn : ℕ) → mark.lsn ≤ LARGEST_BASE → Reads bytes piece torn → ContinuesEach bytes mark piece torn
continues_each mark bytes piece torn low reads text before count own is = goes_on text before mark own bytes count low is piece torn reads

-- the first bytes of a piece are one too
pub front_is : (text bytes : List ℕ) (mark : Mark) (count front : ℕ) → bytes ≡ piece_text text mark count → BASED_HEADER_BYTES ≤ front → front ≤ length bytes → take front bytes ≡ piece_text text mark (front - BASED_HEADER_BYTES)
front_is text bytes mark count front is some within =
    let header = header_of (Version2 mark.lsn) in
    let rest = take count (drop mark.offset text) in
    let size : length header ≡ BASED_HEADER_BYTES = header_length (Version2 mark.lsn) in
    let less : front - BASED_HEADER_BYTES ≤ count = omega (arith, within, ap (λ (t : List ℕ). length t) is, length-append header rest, size, length-take count (drop mark.offset text)) in
    ap (take front) is
    ∙ ap (λ n. take n (header ++ rest)) (omega (arith, some, size))
    ∙ take-append-add header rest (front - BASED_HEADER_BYTES)
    ∙ ap (λ (t : List ℕ). header ++ t) (take-take (front - BASED_HEADER_BYTES) count (drop mark.offset text) less)

-- and the log that they read as is one of the whole log
module _ (text bytes : List ℕ) (whole before front : LogContent) (mark : Mark) (torn count left : ℕ) (low : mark.lsn ≤ LARGEST_BASE) (reads : Reads text whole torn) (own : IsMark text before mark)
    (is : bytes ≡ piece_text text mark count) (read : Reads bytes front left) where
  continues : ContinuesLog text before mark (length bytes - BASED_HEADER_BYTES) front left
  continues = goes_on text before mark own bytes count low is front left read

  pub belongs : IsPieceOf (history whole) (history front)
  belongs = pieces_belong text whole torn before mark (length bytes - BASED_HEADER_BYTES) front left reads own continues

  pub follows : last_lsn (history before) ≡ base_lsn (history front)
  follows = goes_on_at text before front mark own (base_is text before mark (length bytes - BASED_HEADER_BYTES) left front continues)
