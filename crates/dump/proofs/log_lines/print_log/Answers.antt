use Rattle.std.proofs.Common.{ℕ, List, ◌≡◌, ◌++◌, ◌∙◌, ap, ap₂, inr, sym, subst, arith}
use Rattle.std.proofs.lemmas.Result.{err_from_is_err_and, on_ok_weaker, IfErr-weaker}
use Rattle.std.proofs.KnownBytes.{Appends-kept, Appends-trans}
use Rattle.std.specs.Io.KnownBytes.{Appends, Keeps}
use Rattle.wal.specs.Headers.{header_bytes}
use Rattle.log_laws.specs.Records.{history, first, last_lsn}
use Rattle.log_laws.proofs.Histories.{first_all}
use Rattle.dump.specs.LogLines.{PrintsBeginning, log_line, place_behind, record_lines, torn_line}
use Rattle.dump.proofs.Memory.{if_memory_weaker}
use Rattle.dump.proofs.Places.{place_behind_all}
use Rattle.dump.proofs.log_lines.print_log.Goals as goal

pub print_records-requires : goal.print_records-requires
print_records-requires g c =
    let header = c.header_bytes-header.ensures ∙ ap header_bytes c.start-start.ensures in
    let same = ap (λ n. place_behind n (history c.args.log.now)) header in
    omega (arith, place_behind_all c.args.bytes.now c.args.log.now c.args.torn c.requires, same)

pub returns-clause-printed : goal.returns-clause-printed
returns-clause-printed g c =
    let log = c.args.log.now in
    let choice = c.args.choice.now in
    let style = c.args.style in
    let lines = λ (n : ℕ). record_lines style choice n (history log) in
    let torn = λ (place : ℕ). torn_line style place c.args.torn in
    let begins = c.start-start.ensures in
    let header : c.header_bytes-header.result ≡ header_bytes log.begins = c.header_bytes-header.ensures ∙ ap header_bytes begins in
    let end = c.in_ok-end.ensures.behind ∙ ap (λ n. place_behind n (history log)) header in
    let first_line = ap (log_line style) begins in
    on_ok_weaker c.print_torn_tail.result (λ last.
    subst (Appends (g.W.Write.contents c.args.out.now) (g.W.Write.contents c.print_torn_tail.new.out))
    (ap (λ (l : List ℕ). (l ++ lines c.header_bytes-header.result) ++ torn c.in_ok-end.end) (c.deref.ensures.value ∙ c.in_ok-put_start.ensures ∙ ap (λ (l : List ℕ). l ++ log_line style c.start-start.result) c.new-line.ensures.items ∙ first_line)
    ∙ ap₂ (λ n place. (log_line style log.begins ++ lines n) ++ torn place) header end)
    (Appends-trans _ _ _ _ _ (Appends-trans _ _ _ _ _ c.in_ok-write_all.ensures.bytes c.in_ok-end.ensures.printed) last)) c.print_torn_tail.ensures.printed

pub returns-in_err-end-clause-so_far : goal.returns-in_err-end-clause-so_far
returns-in_err-end-clause-so_far g c =
    let log = c.args.log.now in
    let lines = λ (n : ℕ) (lsn : ℕ). record_lines c.args.style c.args.choice.now n (first lsn (history log)) in
    let exit = err_from_is_err_and c.from_residual-in_err-end.result c.from_residual-in_err-end.ensures.1 in
    let begins = c.start-start.ensures in
    let header : c.header_bytes-header.result ≡ header_bytes log.begins = c.header_bytes-header.ensures ∙ ap header_bytes begins in
    let line : c.deref.result.now ≡ log_line c.args.style log.begins =
    c.deref.ensures.value ∙ c.in_ok-put_start.ensures ∙ ap (λ (l : List ℕ). l ++ log_line c.args.style c.start-start.result) c.new-line.ensures.items ∙ ap (log_line c.args.style) begins in
    let so_far : (lsn : ℕ) × Appends (g.W.Write.contents c.write_all.new.self) (g.W.Write.contents c.print_records.new.out) (lines c.header_bytes-header.result lsn)
    → PrintsBeginning c.args.style c.args.choice.now log (g.W.Write.contents c.args.out.now) (g.W.Write.contents c.print_records.new.out) =
    λ some. inr (
      some.0,
      subst (Appends (g.W.Write.contents c.args.out.now) (g.W.Write.contents c.print_records.new.out))
          (ap₂ (λ (l : List ℕ) n. l ++ lines n some.0) line header)
          (Appends-trans _ _ _ _ _ c.in_ok-write_all.ensures.bytes some.1),
    ) in
    rw (exit.1, exit.2) (if_memory_weaker _ _ _ so_far c.in_err-end.ensures.so_far)

pub returns-clause-so_far : goal.returns-clause-so_far
returns-clause-so_far g c =
    let log = c.args.log.now in
    let last = last_lsn (history log) in
    let lines = λ (n : ℕ) (lsn : ℕ). record_lines c.args.style c.args.choice.now n (first lsn (history log)) in
    let begins = c.start-start.ensures in
    let header : c.header_bytes-header.result ≡ header_bytes log.begins = c.header_bytes-header.ensures ∙ ap header_bytes begins in
    let line : c.deref.result.now ≡ log_line c.args.style log.begins =
    c.deref.ensures.value ∙ c.in_ok-put_start.ensures ∙ ap (λ (l : List ℕ). l ++ log_line c.args.style c.start-start.result) c.new-line.ensures.items ∙ ap (log_line c.args.style) begins in
    let all : record_lines c.args.style c.args.choice.now c.header_bytes-header.result (history log) ≡ lines c.header_bytes-header.result last =
    ap (record_lines c.args.style c.args.choice.now c.header_bytes-header.result) (sym (first_all last (history log) (omega arith))) in
    let out : Appends (g.W.Write.contents c.args.out.now) (g.W.Write.contents c.print_records.new.out) (log_line c.args.style log.begins ++ lines (header_bytes log.begins) last) =
    subst (Appends (g.W.Write.contents c.args.out.now) (g.W.Write.contents c.print_records.new.out))
    (ap (λ (l : List ℕ). c.deref.result.now ++ l) all ∙ ap₂ (λ (l : List ℕ) n. l ++ lines n last) line header)
    (Appends-trans _ _ _ _ _ c.in_ok-write_all.ensures.bytes c.in_ok-end.ensures.printed) in
    let so_far : Keeps (g.W.Write.contents c.print_records.new.out) (g.W.Write.contents c.print_torn_tail.new.out)
    → PrintsBeginning c.args.style c.args.choice.now log (g.W.Write.contents c.args.out.now) (g.W.Write.contents c.print_torn_tail.new.out) =
    λ kept. inr (last, Appends-kept _ _ _ (log_line c.args.style log.begins ++ lines (header_bytes log.begins) last) out kept) in
    IfErr-weaker c.print_torn_tail.result _ _ (λ e kept. if_memory_weaker _ _ e so_far kept) c.print_torn_tail.ensures.kept
