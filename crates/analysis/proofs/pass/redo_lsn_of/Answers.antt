use Rattle.std.proofs.Common.{ℕ, map, max, sym, ap, ◌∙◌}
use Rattle.std.proofs.lemmas.List.{map_push}
use denote.Bor.{Bor}
use Rattle.analysis.specs.Tables.{redo_lsn_of}
use Rattle.analysis.specs.Steps.{lower}
use Rattle.analysis.proofs.Smallest.{redo_lsn_of-push}
use Rattle.analysis.proofs.pass.redo_lsn_of.Goals as goal

pub loop-rec_lsn-preserved : goal.loop-rec_lsn-preserved
loop-rec_lsn-preserved c =
    let read : Bor ℕ × Bor ℕ → ℕ × ℕ = λ e. (e.0.now, e.1.now) in
    c.lower-smallest.ensures
    ∙ ap (λ n. lower n (max c.args.first c.in-Some.rec_lsn.now)) c.loop-rec_lsn.invariant
    ∙ sym (redo_lsn_of-push c.args.first (map read c.loop-rec_lsn.yielded) (c.in-Some.field-0-0.now, c.in-Some.rec_lsn.now) c.requires)
    ∙ ap (redo_lsn_of c.args.first) (sym (map_push read c.loop-rec_lsn.yielded (c.in-Some.field-0-0, c.in-Some.rec_lsn)))
