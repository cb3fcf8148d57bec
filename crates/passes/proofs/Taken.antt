-- A piece whose frames are read while a pass takes their records: what was taken so far.
use Rattle.std.proofs.Common.{◌≡◌, ℕ, ◌+◌, ◌-◌, ◌^◌, ◌<◌, ◌≤◌, List, [], ◌∷◌, ◌++◌, length, take, drop, Some, None, Ok, Err, Result, Option, refl, sym, ap, ap₂, subst, ◌∙◌, arith, length-append}
use Rattle.std.proofs.lemmas.List.{append-nil, length-drop, take-append-drop}
use Rattle.page.proofs.BigEndian.{AreBytes}
use Rattle.page.specs.declared.fault.Fault.{Fault}
use Rattle.page.specs.declared.fault.Fault.TheVariants.{NoResource}
use Rattle.log_laws.specs.declared.start.LogStart.TheVariants.{Version2}
use Rattle.log_laws.specs.Records.{LogRecord, LogContent, history, last_lsn, ◌⧺◌}
use Rattle.wal.specs.declared.glance.Glance.{Glance}
use Rattle.wal.specs.declared.stretch.Stretch.{Stretch}
use Rattle.wal.specs.declared.sizes.TheConstants.{BASED_HEADER_BYTES, LARGEST_BASE}
use Rattle.wal.specs.Headers.{header_of, start_at}
use Rattle.wal.specs.Frames.{Fails, next_at}
use Rattle.wal.specs.Reads.{Cause, Reads}
use Rattle.wal.specs.Glances.{glance_of, seen_in}
use Rattle.wal.specs.Reading.{body_at}
use Rattle.wal.specs.Stretches.{AreFirst}
use Rattle.wal.proofs.FirstFrames.{NextRecord, cut_reads, first_empty, first_more, first_reads, first_record, frames_of, seen_fault, seen_frame, seen_none}
use Rattle.wal.proofs.Fronts.{first_cause}
use Rattle.wal.proofs.Headers.{start_again}
use Rattle.pieces.specs.declared.mark.Mark.{Mark}
use Rattle.passes.specs.declared.pass.Pass.{Ghosts as Pass}
use Rattle.passes.specs.Passes.{ReadsOver, StopsInFront}
use Rattle.passes.specs.Pieces.{HasNextRecord, IsNextRecord, PassesOver, PassesRecord, StopsAtRecord, StopsIn, one_record}
use Rattle.passes.proofs.OneByOne.{frames_push, last_frame, passes_more, passes_none, stops_more}

-- the frames at these offsets, after the header of a piece that follows a mark
abbrev pub stretch_to : Mark → (offsets : List ℕ) → (end : ℕ) → Stretch
stretch_to mark offsets end = record { lsn = mark.lsn + 1; begin = BASED_HEADER_BYTES; offsets = offsets; end = end }

abbrev pub records_to : Mark → (bytes offsets : List ℕ) → LogContent
records_to mark bytes offsets = frames_of (Version2 mark.lsn) bytes offsets

-- a pass has taken the records of the frames up to an offset, the last of which has this LSN
pub record HasTakenTo {P : Type 0} (pass : Pass P) (mark : Mark) (bytes : List ℕ) (old now : P) (lsn end : ℕ) : Type 0 where
  pub offsets : List ℕ
  pub frames : AreFirst (Version2 mark.lsn) bytes (stretch_to mark offsets end)
  pub number : lsn ≡ mark.lsn + length offsets
  pub taken : PassesOver pass.passes old now (records_to mark bytes offsets)

-- the header of the piece
header_there : (mark : Mark) (bytes : List ℕ) → mark.lsn ≤ LARGEST_BASE → take BASED_HEADER_BYTES bytes ≡ header_of (Version2 mark.lsn) → start_at bytes ≡ Some (Version2 mark.lsn)
header_there mark bytes low is =
    let text : bytes ≡ header_of (Version2 mark.lsn) ++ drop BASED_HEADER_BYTES bytes = sym (take-append-drop BASED_HEADER_BYTES bytes) ∙ ap (λ (t : List ℕ). t ++ drop BASED_HEADER_BYTES bytes) is in
    ap start_at text ∙ start_again (Version2 mark.lsn) (drop BASED_HEADER_BYTES bytes) low

fails_so : (e : Fault) (next : Result (Option (LogRecord × ℕ)) Fault) → next ≡ Err e → Fails e next
fails_so NoResource next is = tt
fails_so e next is = is

module _ {P : Type 0} (pass : Pass P) (mark : Mark) (bytes : List ℕ) (fits : AreBytes bytes) (short : length bytes < 2 ^ 63) where
  -- none
  pub taken_none : ((scan : P) (whole before : LogContent) → pass.passes scan scan whole before before) → (scan : P) → mark.lsn ≤ LARGEST_BASE → take BASED_HEADER_BYTES bytes ≡ header_of (Version2 mark.lsn)
      → HasTakenTo pass mark bytes scan scan mark.lsn BASED_HEADER_BYTES
  taken_none begins scan low is = record {
    offsets = [];
    frames = first_empty (Version2 mark.lsn) bytes fits (header_there mark bytes low is);
    number = omega arith;
    taken = passes_none pass begins scan (records_to mark bytes []) refl;
  }

  module _ (old now : P) (lsn end : ℕ) (so_far : HasTakenTo pass mark bytes old now lsn end) where
    abbrev stretch : Stretch
    stretch = stretch_to mark so_far.offsets end

    -- the next frame has the LSN after the last
    next_lsn : lsn + 1 ≡ stretch.lsn + length so_far.offsets
    next_lsn = omega (arith, so_far.number)

    last_is : last_lsn (history (records_to mark bytes so_far.offsets)) ≡ lsn
    last_is = last_frame (Version2 mark.lsn) bytes so_far.offsets ∙ sym so_far.number

    -- WHAT IS SEEN at the front of the rest
    module _ (rest : List ℕ) (back : rest ≡ drop end bytes) where
      -- no frame
      pub taken_all : seen_in (next_at (lsn + 1) end rest) ≡ Ok None → ReadsOver pass bytes old now lsn (length rest)
      taken_all seen =
          let none : next_at (stretch.lsn + length so_far.offsets) end (drop end bytes) ≡ Ok None = ap₂ (λ n (t : List ℕ). next_at n end t) (sym next_lsn) (sym back) ∙ seen_none (next_at (lsn + 1) end rest) seen in (
            records_to mark bytes so_far.offsets,
            subst (Reads bytes (records_to mark bytes so_far.offsets)) (sym (ap length back ∙ length-drop end bytes)) (first_reads (Version2 mark.lsn) bytes stretch fits short so_far.frames none),
            last_is,
            so_far.taken,
          )

      -- a fault
      pub taken_cause : (e : Fault) → seen_in (next_at (lsn + 1) end rest) ≡ Err e → Cause bytes e
      taken_cause e seen =
          let wrong : next_at (stretch.lsn + length so_far.offsets) end (drop end bytes) ≡ Err e = ap₂ (λ n (t : List ℕ). next_at n end t) (sym next_lsn) (sym back) ∙ seen_fault (next_at (lsn + 1) end rest) e seen in
          subst (λ t. Cause t e) (append-nil bytes) (first_cause (Version2 mark.lsn) bytes [] stretch e fits short so_far.frames (fails_so e _ wrong))

      -- a frame
      module _ (size : ℕ) (glance : Glance) (seen : seen_in (next_at (lsn + 1) end rest) ≡ Ok (Some (size, glance))) where
        one : (r : LogRecord) × (next_at (lsn + 1) end rest ≡ Ok (Some (r, size))) × (glance ≡ glance_of r)
        one = seen_frame (next_at (lsn + 1) end rest) size glance seen

        abbrev r : LogRecord
        r = one.0

        here : next_at (stretch.lsn + length so_far.offsets) end (drop end bytes) ≡ Ok (Some (r, size))
        here = ap₂ (λ n (t : List ℕ). next_at n end t) (sym next_lsn) (sym back) ∙ one.1

        next_record : NextRecord bytes stretch r size
        next_record = first_record (Version2 mark.lsn) bytes stretch r size fits so_far.frames here

        pub sized : (13 ≤ size) × (end + size ≤ length bytes) × (size ≤ length rest)
        sized = (next_record.long, next_record.room, omega (arith, next_record.room, ap length back, length-drop end bytes))

        frames_more : AreFirst (Version2 mark.lsn) bytes (stretch_to mark (so_far.offsets ++ end ∷ []) (end + size))
        frames_more = first_more (Version2 mark.lsn) bytes stretch r size so_far.frames here

        records_more : records_to mark bytes (so_far.offsets ++ end ∷ []) ≡ records_to mark bytes so_far.offsets ⧺ r ∷ []
        records_more = frames_push (Version2 mark.lsn) bytes so_far.offsets end r next_record.there

        -- with this body
        module _ (body : List ℕ) (own : body ≡ take (size - 4) (drop 4 rest)) where
          is_next : IsNextRecord lsn glance body r
          is_next = record {
            spelled = ap body_at (own ∙ ap (λ (t : List ℕ). take (size - 4) (drop 4 t)) back) ∙ next_record.spelled ∙ ap (λ n. Some (r, n)) (sym next_lsn);
            seen_of = one.2;
            fits = next_record.fits;
          }

          pub has_next : HasNextRecord lsn glance body
          has_next = (r, is_next)

          -- its record is taken
          pub taken_more : ((old now new : P) (whole before between after : LogContent) → pass.passes old now whole before between → pass.passes now new whole between after → pass.passes old new whole before after)
              → (new : P) → PassesRecord pass.passes now new lsn glance body → HasTakenTo pass mark bytes old new (lsn + 1) (end + size)
          taken_more on new next = record {
            offsets = so_far.offsets ++ end ∷ [];
            frames = frames_more;
            number = omega (arith, so_far.number, length-append so_far.offsets (end ∷ []));
            taken = subst (PassesOver pass.passes old new) (sym records_more)
                (passes_more pass on old now new (records_to mark bytes so_far.offsets) r so_far.taken
                (subst (λ n. PassesOver pass.passes now new (one_record n r)) (sym last_is) (next r is_next)));
          }

          -- or the pass has a fault at it
          pub stops_there : ((old now : P) (whole before between : LogContent) (e : Fault) → pass.passes old now whole before between → pass.stops now whole between e → pass.stops old whole before e)
              → (e : Fault) → StopsAtRecord pass.stops now lsn glance body e → StopsInFront pass bytes old e
          stops_there later e stop = (
            end + size,
            records_to mark bytes (so_far.offsets ++ end ∷ []),
            omega (arith, frames_more.frames.long),
            next_record.room,
            cut_reads (Version2 mark.lsn) bytes (stretch_to mark (so_far.offsets ++ end ∷ []) (end + size)) fits short frames_more,
            subst (λ log. StopsIn pass.stops old log e) (sym records_more)
                (stops_more pass later old now (records_to mark bytes so_far.offsets) r e so_far.taken
                (subst (λ n. StopsIn pass.stops now (one_record n r) e) (sym last_is) (stop r is_next))),
          )
