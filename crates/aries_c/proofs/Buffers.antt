-- What a recovery left at the front of its caller's buffers is what it made.
use Rattle.std.proofs.Common.{◌≡◌, ℕ, ◌-◌, List, ◌++◌, length, take, drop, sym, ap, ap₂, ◌∙◌, refl}
use Rattle.std.proofs.lemmas.List.{take_at}
use Rattle.recovery.specs.declared.recovery.Recovery.{Recovery}
use Rattle.recovery.specs.Text.{ReportContent}
use Rattle.recovery.specs.Recovery.{new_log as log_made}
use Rattle.aries_c.specs.declared.recovered.Recovered.{Recovered}
use Rattle.aries_c.specs.Recovered.{log_in_buffers, report_told}

pub taken_front : (text before after : List ℕ) (n : ℕ) → n ≡ length text → after ≡ text ++ drop (length text) before → take n after ≡ text
taken_front text before after n long is = ap (λ m. take m after) long ∙ ap (take (length text)) is ∙ take_at text (drop (length text) before) (length text) refl

module _ (log : List ℕ) (x : Recovery) (made : Recovered) (kept : x.kept.now ≡ take (length log - x.report.torn) log) (report : x.report ≡ report_told made x.report.in_doubt) where
  kept_told : take (length log - made.torn) log ≡ x.kept.now
  kept_told = ap (λ (r : ReportContent). take (length log - r.torn) log) (sym report) ∙ sym kept

  pub log_told : (tail : List ℕ) → take made.tail_length tail ≡ x.frames.items → log_in_buffers log tail made ≡ log_made x
  log_told tail is = ap₂ (λ (a b : List ℕ). a ++ b) kept_told is
