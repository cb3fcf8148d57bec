use Rattle.std.proofs.Common.{ℕ, suc, ◌≡◌, ◌+◌, ◌++◌, ◌∙◌, ap, sym, refl, subst, arith}
use Rattle.std.proofs.KnownBytes.{Appends-kept, Appends-nil, Appends-trans}
use Rattle.std.specs.Io.KnownBytes.{Appends, Keeps}
use Rattle.wal.specs.Content.{shown}
use Rattle.log_laws.specs.Records.{history, first, last_lsn}
use Rattle.log_laws.proofs.Histories.{first_all, first_at_base, size_of_first}
use Rattle.dump.specs.LogLines.{place_behind, record_lines, line_if_asked}
use Rattle.std.proofs.lemmas.Result.{err_from_is_err_and}
use Rattle.dump.proofs.Memory.{if_memory_weaker}
use Rattle.dump.proofs.Places.{place_within}
use Rattle.dump.proofs.log_lines.print_records.Goals as goal

pub loop-lsn-init : goal.loop-lsn-init
loop-lsn-init g c =
    let none = first_at_base (history c.args.log.now) c.base-lsn.result c.base-lsn.ensures.is in
    record {
      printed = subst (λ log. Appends (g.W.Write.contents c.args.out.now) (g.W.Write.contents c.args.out.now) (record_lines c.args.style c.args.choice.now c.args.header log)) (sym none) (Appends-nil (g.W.Write.contents c.args.out.now));
      style = refl;
      at = ap (place_behind c.args.header) (sym none);
    }

pub overflow_add-place : goal.overflow_add-place
overflow_add-place g c =
    let log = history c.args.log.now in
    let lsn = c.loop-lsn.lsn in
    let before = first lsn log in
    let next = ap (place_behind c.args.header) c.after-view.ensures.next in
    omega (arith, place_within c.args.header (lsn + 1) log, next, c.frame_bytes-place.ensures (suc (last_lsn before)), c.loop-lsn.invariant.at, c.requires)

pub loop-lsn-preserved : goal.loop-lsn-preserved
loop-lsn-preserved g c =
    let log = history c.args.log.now in
    let lsn = c.loop-lsn.lsn in
    let before = first lsn log in
    let r = shown c.after-view.result in
    let size : last_lsn before ≡ lsn = size_of_first lsn log (omega (arith, c.base-lsn.ensures.is)) (omega (arith, c.last-lsn-end.ensures)) in
    let own : lsn + 1 ≡ suc (last_lsn before) = omega (arith, size) in
    let lines = record_lines c.args.style c.args.choice.now c.args.header in
    let line = line_if_asked c.args.style c.args.choice.now c.loop-lsn.place (lsn + 1) r in
    let printed = subst (λ style. Appends (g.W.Write.contents c.loop-lsn.out) (g.W.Write.contents c.print_record.new.out) (line_if_asked style c.args.choice.now c.loop-lsn.place (lsn + 1) r)) c.loop-lsn.invariant.style c.in_ok-print_record.ensures.printed in
    let both = Appends-trans _ _ _ (lines before) line c.loop-lsn.invariant.printed printed in
    let is : lines before ++ line ≡ lines (first (lsn + 1) log) =
    ap (λ place. lines before ++ line_if_asked c.args.style c.args.choice.now place (lsn + 1) r) c.loop-lsn.invariant.at
    ∙ ap (λ n. lines before ++ line_if_asked c.args.style c.args.choice.now (place_behind c.args.header before) n r) own
    ∙ ap lines (sym c.after-view.ensures.next) in
    record {
      printed = subst (Appends (g.W.Write.contents c.args.out.now) (g.W.Write.contents c.print_record.new.out)) is both;
      style = c.in_ok-print_record.ensures.style ∙ c.loop-lsn.invariant.style;
      at = omega (arith, c.loop-lsn.invariant.at, c.frame_bytes-place.ensures (suc (last_lsn before)), ap (place_behind c.args.header) c.after-view.ensures.next);
    }

pub returns-clause-printed : goal.returns-clause-printed
returns-clause-printed g c =
    let log = history c.args.log.now in
    let all = first_all c.loop-lsn.lsn log (omega (arith, c.last-lsn-end.ensures)) in
    subst (λ log. Appends (g.W.Write.contents c.args.out.now) (g.W.Write.contents c.loop-lsn.out) (record_lines c.args.style c.args.choice.now c.args.header log)) all c.loop-lsn.invariant.printed

pub returns-clause-behind : goal.returns-clause-behind
returns-clause-behind g c =
    let log = history c.args.log.now in
    c.loop-lsn.invariant.at ∙ ap (place_behind c.args.header) (first_all c.loop-lsn.lsn log (omega (arith, c.last-lsn-end.ensures)))

pub returns-in_err-print_record-clause-so_far : goal.returns-in_err-print_record-clause-so_far
returns-in_err-print_record-clause-so_far g c =
    let exit = err_from_is_err_and c.from_residual.result c.from_residual.ensures.1 in
    let lines = λ (lsn : ℕ). record_lines c.args.style c.args.choice.now c.args.header (first lsn (history c.args.log.now)) in
    let so_far : Keeps (g.W.Write.contents c.loop-lsn.out) (g.W.Write.contents c.print_record.new.out)
    → (lsn : ℕ) × Appends (g.W.Write.contents c.args.out.now) (g.W.Write.contents c.print_record.new.out) (lines lsn) =
    λ kept. (c.loop-lsn.lsn, Appends-kept _ _ _ (lines c.loop-lsn.lsn) c.loop-lsn.invariant.printed kept) in
    rw (exit.1, exit.2) (if_memory_weaker _ _ _ so_far c.in_err-print_record.ensures.kept)
