use Rattle.std.proofs.Common.{◌++◌, List, ℕ, length, drop, take, ap, ap₂, sym, subst, ◌∙◌, append_assoc, take-append-drop}
use Rattle.std.proofs.lemmas.Result.{IfOk-at_ok, IfErr-at_err}
use Rattle.wal.specs.Reads.{Cause}
use Rattle.wal.specs.Stretches.{BeginsCut, BeginsLog}
use Rattle.recovery.proofs.log_text.text_in_parts.Goals as goal
use Rattle.wal.specs.declared.sizes.TheConstants.{LONGEST_FRAME}

pub returns-in-Ok-clause-text : goal.returns-in-Ok-clause-text
returns-in-Ok-clause-text c =
    let front = c.args.front.items in
    let end = c.in-Ok.first.end in
    let rest = drop LONGEST_FRAME c.args.back.items in
    ap₂ (λ (a b : List ℕ). a ++ b) c.move_rest-from.ensures.front c.move_rest-from.ensures.back
    ∙ sym (append_assoc (take end front) (drop end front) rest)
    ∙ ap (λ (t : List ℕ). t ++ rest) (take-append-drop end front)

pub returns-in-Ok-clause-is : goal.returns-in-Ok-clause-is
returns-in-Ok-clause-is c =
    let cut = IfOk-at_ok (BeginsCut c.args.front.items) c.in-Ok.is c.requires.frames in
    record {
      within = c.move_rest-from.ensures.within;
      is = (subst (λ (t : List ℕ). BeginsLog t c.in-Ok.first) (sym c.move_rest-from.ensures.front) cut.0, cut.1 ∙ ap length (sym c.move_rest-from.ensures.front));
    }

pub returns-in-Err-clause-is : goal.returns-in-Err-clause-is
returns-in-Err-clause-is c =
    record {
      within = c.requires.room;
      is = IfErr-at_err (λ e. (more : List ℕ) → Cause (c.args.front.items ++ more) e) c.in-Err.is c.requires.no_log (drop LONGEST_FRAME c.args.back.items);
    }
