use Rattle.std.proofs.Common.{codes, sym}
use Rattle.std.proofs.lemmas.Result.{IfErr-weaker, IfOk-weaker}
use Rattle.command.specs.Job.{NamesFiles, GivesNumbers, verbose_of}
use Rattle.words.proofs.Parses.{entered, error_made, fails_by_memory, faultless, given}
use Rattle.words.specs.Flags.{IsFlagOf}
use Rattle.command.specs.Line.{aries_line}
use Rattle.command.proofs.Lines.{is_free-aries_line, is_simple-aries_line, job_command}
use Rattle.command.proofs.job.command_of.Goals as goal

pub returns-clause-files : goal.returns-clause-files
returns-clause-files c =
    let found = c.in-Some in
    IfOk-weaker c.job_of.result _ _ (λ job asks. given c.in_ok-matches.matches _ _ aries_line _ _ (λ p. NamesFiles p.0 p.1 job) is_simple-aries_line
    c.in_ok-command.ensures c.in_ok-matches.ensures.ok.2 (sym found.ensures.name) (sym found.ensures.rows) asks) c.job_of.ensures.files

pub returns-clause-numbers : goal.returns-clause-numbers
returns-clause-numbers c =
    let found = c.in-Some in
    IfOk-weaker c.job_of.result _ _ (λ job asks. given c.in_ok-matches.matches _ _ aries_line _ _ (λ p. GivesNumbers p.1 job) is_simple-aries_line
    c.in_ok-command.ensures c.in_ok-matches.ensures.ok.2 (sym found.ensures.name) (sym found.ensures.rows) asks) c.job_of.ensures.numbers

pub returns-in_err-matches-clause-refused : goal.returns-in_err-matches-clause-refused
returns-in_err-matches-clause-refused c =
    error_made c.from_residual-in_err-matches.result _ _ (λ refusal made job asks. made
    (fails_by_memory _ aries_line _ _ is_free-aries_line c.in_ok-command.ensures c.in_err-matches.ensures.kinds asks.0)) c.from_residual-in_err-matches.ensures.1

pub returns-clause-verbose : goal.returns-clause-verbose
returns-clause-verbose c =
    let found = c.in-Some in
    IfOk-weaker c.job_of.result _ _ (λ job asks. given c.in_ok-matches.matches _ _ aries_line _ _ (λ p. IsFlagOf p.1 (codes "verbose") (verbose_of job)) is_simple-aries_line
    c.in_ok-command.ensures c.in_ok-matches.ensures.ok.2 (sym found.ensures.name) (sym found.ensures.rows) asks) c.job_of.ensures.verbose

pub returns-clause-faultless : goal.returns-clause-faultless
returns-clause-faultless c =
    IfOk-weaker c.job_of.result _ _ (λ job ranges. faultless _ aries_line _ is_free-aries_line c.in_ok-command.ensures c.in_ok-matches.ensures.kinds) c.job_of.ensures.ranges

pub returns-clause-refused : goal.returns-clause-refused
returns-clause-refused c =
    let found = c.in-Some in
    IfErr-weaker c.job_of.result _ _ (λ refusal none job asks. none job (entered c.in_ok-matches.matches _ _ aries_line _ _ (λ p. NamesFiles p.0 p.1 job) is_simple-aries_line
    c.in_ok-command.ensures c.in_ok-matches.ensures.ok.2 (sym found.ensures.name) (sym found.ensures.rows) asks.1)) c.job_of.ensures.refused

pub returns-in_default-clause-refused : goal.returns-in_default-clause-refused
returns-in_default-clause-refused c job asks =
    absurd (job_command c.in_ok-matches.matches _ _ job _ c.in_ok-command.ensures c.in_ok-matches.ensures.ok.2 (sym c.in_default.ensures.name) asks.1)
