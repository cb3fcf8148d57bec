use Rattle.std.proofs.Common.{◌≡◌, ◌+◌, ◌++◌, List, length, drop, None, Ok, ap, ap₂, subst, sym, ◌∙◌, length-append, arith}
use Rattle.std.proofs.lemmas.List.{length-map}
use Rattle.std.proofs.lemmas.Result.{err_from_is_err_and}
use Rattle.wal.specs.Frames.{record_of, next_at, Fails}
use Rattle.log_laws.specs.Records.{LogRecord}
use Rattle.wal.specs.Stretches.{records_of}
use Rattle.wal.proofs.Headers.{header_taken, at_least}
use Rattle.wal.proofs.Whole.{lsn_behind, offset_behind, log_ends, log_fails}
use Rattle.wal.proofs.Stretches.{begun, lsn_is, offset_is, frames_places}
use Rattle.wal.proofs.log.log_of.Goals as goal

pub returns-in_err-torn : goal.returns-in_err-torn
returns-in_err-torn c =
    let exit = err_from_is_err_and c.from_residual.result c.from_residual.ensures.1 in
    let front = c.args.front.now in
    let back = c.args.back.now in
    let first = c.args.first in
    let second = c.args.second in
    let all = begun c.args.begins front back first second (λ i. omega (arith, c.type_inv.front i)) (λ i. omega (arith, c.type_inv.back i)) c.requires.short c.requires.first c.requires.second in
    let records = records_of front first back second in
    let tail = drop second.end back in
    let number : second.lsn + c.len.result ≡ lsn_behind c.args.begins records = ap (λ n. second.lsn + n) c.len.ensures ∙ sym (lsn_is c.args.begins front back first second c.requires.first c.requires.second) in
    let place : length front + second.end ≡ offset_behind c.args.begins records = sym (offset_is c.args.begins front back first second all c.requires.second) in
    rw (exit.1, exit.2)
    (log_fails (front ++ back) c.args.begins records tail c.in_err-torn.field-0.0 all
    (subst (λ n. Fails c.in_err-torn.field-0.0 (next_at n (offset_behind c.args.begins records) tail)) number (subst (λ o. Fails c.in_err-torn.field-0.0 (next_at (second.lsn + c.len.result) o tail)) place c.in_err-torn.ensures.fault)))

pub new-requires : goal.new-requires
new-requires c = frames_places c.args.front.now c.args.first.lsn c.args.first.begin c.args.first.offsets c.args.first.end c.requires.first.first.frames.frames

pub new-requires-2 : goal.new-requires-2
new-requires-2 c = frames_places c.args.back.now c.args.second.lsn c.args.second.begin c.args.second.offsets c.args.second.end c.requires.second.frames.frames

pub invariant_of-log : goal.invariant_of-log
invariant_of-log c =
    let header = header_taken c.args.front.now c.args.begins (λ i. omega (arith, c.type_inv.front i)) c.requires.first.first.starts in
    record {
      starts = header.fits;
      room =
          omega (arith, c.requires.short, length-append c.new.result c.new-2.result, ap length c.new.ensures, ap length c.new-2.ensures, length-map c.args.first.offsets (record_of c.args.front.now), length-map c.args.second.offsets (record_of c.args.back.now), c.requires.first.first.frames.long, c.requires.first.first.frames.room, c.requires.first.first.begin, at_least c.args.begins, c.requires.second.frames.long, c.requires.second.frames.room);
    }

pub returns : goal.returns
returns c =
    let front = c.args.front.now in
    let back = c.args.back.now in
    let begins = c.args.begins in
    let first = c.args.first in
    let second = c.args.second in
    let all = begun begins front back first second (λ i. omega (arith, c.type_inv.front i)) (λ i. omega (arith, c.type_inv.back i)) c.requires.short c.requires.first c.requires.second in
    let records = records_of front first back second in
    let tail = drop second.end back in
    let number : second.lsn + c.len.result ≡ lsn_behind begins records = ap (λ n. second.lsn + n) c.len.ensures ∙ sym (lsn_is begins front back first second c.requires.first c.requires.second) in
    let place : length front + second.end ≡ offset_behind begins records = sym (offset_is begins front back first second all c.requires.second) in
    let ends : next_at (lsn_behind begins records) (offset_behind begins records) tail ≡ Ok None =
    subst (λ n. next_at n (offset_behind begins records) tail ≡ Ok None) number (subst (λ o. next_at (second.lsn + c.len.result) o tail ≡ Ok None) place c.in_ok-torn.ensures.torn.0) in
    log_ends (front ++ back) begins records tail all ends
    ∙ ap (λ n. Ok (record { begins = begins; records = records }, n)) c.in_ok-torn.ensures.torn.1
    ∙ ap (λ (rs : List LogRecord). Ok (record { begins = begins; records = rs }, c.in_ok-torn.torn)) (ap₂ (λ (a b : List LogRecord). a ++ b) (sym c.new.ensures) (sym c.new-2.ensures))
