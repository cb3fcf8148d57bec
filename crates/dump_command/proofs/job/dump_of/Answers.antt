use Rattle.std.proofs.Common.{◌∙◌, ap, sym, inl, inr, Some}
use Rattle.std.proofs.lemmas.Result.{IfErr-weaker, IfOk-weaker}
use Rattle.clap.specs.Words.{Text}
use Rattle.words.proofs.Parses.{entered, error_made, fails_by_memory, faultless, given}
use Rattle.dump_command.specs.Job.{NamesFile, GivesNumbers}
use Rattle.dump_command.specs.Line.{dump_line}
use Rattle.dump_command.proofs.Lines.{is_free-dump_line, is_simple-dump_line, job_command}
use Rattle.dump_command.proofs.job.dump_of.Goals as goal

pub returns-in-log-clause-file : goal.returns-in-log-clause-file
returns-in-log-clause-file c =
    let found = c.in-Some in
    IfOk-weaker c.log_job.result _ _ (λ job names. given c.in_ok-matches.matches _ _ dump_line _ _ (λ p. NamesFile p.0 p.1 job) is_simple-dump_line
    c.in_ok-command.ensures c.in_ok-matches.ensures.ok.2 (sym found.ensures.name ∙ ap (λ (name : Text). Some name) c.in-log.is)
    (sym found.ensures.rows) names) c.log_job.ensures.file

pub returns-in-log-clause-numbers : goal.returns-in-log-clause-numbers
returns-in-log-clause-numbers c =
    let found = c.in-Some in
    IfOk-weaker c.log_job.result _ _ (λ job gives. given c.in_ok-matches.matches _ _ dump_line _ _ (λ p. GivesNumbers p.1 job) is_simple-dump_line
    c.in_ok-command.ensures c.in_ok-matches.ensures.ok.2 (sym found.ensures.name) (sym found.ensures.rows) gives) c.log_job.ensures.numbers

pub returns-in-store-clause-file : goal.returns-in-store-clause-file
returns-in-store-clause-file c =
    let found = c.in-Some in
    IfOk-weaker c.store_job.result _ _ (λ job names. given c.in_ok-matches.matches _ _ dump_line _ _ (λ p. NamesFile p.0 p.1 job) is_simple-dump_line
    c.in_ok-command.ensures c.in_ok-matches.ensures.ok.2 (sym found.ensures.name ∙ ap (λ (name : Text). Some name) c.in-store.is)
    (sym found.ensures.rows) names) c.store_job.ensures.file

pub returns-in-store-clause-numbers : goal.returns-in-store-clause-numbers
returns-in-store-clause-numbers c =
    let found = c.in-Some in
    IfOk-weaker c.store_job.result _ _ (λ job gives. given c.in_ok-matches.matches _ _ dump_line _ _ (λ p. GivesNumbers p.1 job) is_simple-dump_line
    c.in_ok-command.ensures c.in_ok-matches.ensures.ok.2 (sym found.ensures.name) (sym found.ensures.rows) gives) c.store_job.ensures.numbers

pub returns-in_err-matches-clause-refused : goal.returns-in_err-matches-clause-refused
returns-in_err-matches-clause-refused c =
    error_made c.from_residual-in_err-matches.result _ _ (λ refusal made job asks. made
    (fails_by_memory _ dump_line _ _ is_free-dump_line c.in_ok-command.ensures c.in_err-matches.ensures.kinds asks.0)) c.from_residual-in_err-matches.ensures.1

pub returns-in-log-clause-faultless : goal.returns-in-log-clause-faultless
returns-in-log-clause-faultless c =
    IfOk-weaker c.log_job.result _ _ (λ job names. faultless _ dump_line _ is_free-dump_line c.in_ok-command.ensures c.in_ok-matches.ensures.kinds) c.log_job.ensures.file

pub returns-in-store-clause-faultless : goal.returns-in-store-clause-faultless
returns-in-store-clause-faultless c =
    IfOk-weaker c.store_job.result _ _ (λ job names. faultless _ dump_line _ is_free-dump_line c.in_ok-command.ensures c.in_ok-matches.ensures.kinds) c.store_job.ensures.file

pub returns-in-log-clause-refused : goal.returns-in-log-clause-refused
returns-in-log-clause-refused c =
    let found = c.in-Some in
    IfErr-weaker c.log_job.result _ _ (λ refusal none job asks. none job (entered c.in_ok-matches.matches _ _ dump_line _ _ (λ p. NamesFile p.0 p.1 job) is_simple-dump_line
    c.in_ok-command.ensures c.in_ok-matches.ensures.ok.2 (sym found.ensures.name ∙ ap (λ (name : Text). Some name) c.in-log.is)
    (sym found.ensures.rows) asks.1)) c.log_job.ensures.refused

pub returns-in-store-clause-refused : goal.returns-in-store-clause-refused
returns-in-store-clause-refused c =
    let found = c.in-Some in
    IfErr-weaker c.store_job.result _ _ (λ refusal none job asks. none job (entered c.in_ok-matches.matches _ _ dump_line _ _ (λ p. NamesFile p.0 p.1 job) is_simple-dump_line
    c.in_ok-command.ensures c.in_ok-matches.ensures.ok.2 (sym found.ensures.name ∙ ap (λ (name : Text). Some name) c.in-store.is)
    (sym found.ensures.rows) asks.1)) c.store_job.ensures.refused

pub returns-in_default-clause-refused : goal.returns-in_default-clause-refused
returns-in_default-clause-refused c job asks =
    absurd (job_command c.in_ok-matches.matches _ _ job _ c.in_ok-command.ensures c.in_ok-matches.ensures.ok.2 (sym c.in_default.ensures.name) asks.1)

pub returns-clause-refused : goal.returns-clause-refused
returns-clause-refused c job asks =
    let named = job_command c.in_ok-matches.matches _ _ job _ c.in_ok-command.ensures c.in_ok-matches.ensures.ok.2 (sym c.in-Some.ensures.name) asks.1 in
    elim named [
      | inl is ↦ absurd (c.in_default-name.not-log is)
      | inr is ↦ absurd (c.in_default-name.not-store is)
    ]
