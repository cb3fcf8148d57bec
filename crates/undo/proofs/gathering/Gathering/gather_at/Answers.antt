use Rattle.std.proofs.Common.{◌≡◌, Some, None, sym, ap, ◌∙◌, arith}
use Rattle.std.specs.Prelude.{option_map}
use Rattle.std.proofs.lemmas.Result.{on_ok_weaker}
use Rattle.wal.specs.Content.{content, shown}
use Rattle.log_laws.specs.Records.{LogRecord, history, record_at}
use Rattle.log_laws.proofs.Histories.{record_above, record_within}
use Rattle.undo.specs.Rollback.{hop_of}
use Rattle.undo.specs.Enough.{sends}
use Rattle.undo.specs.Wants.{wants_in}
use Rattle.undo.proofs.Gathers.{dropped, kept_on, nowhere}
use Rattle.undo.proofs.gathering.Gathering.gather_at.Goals as goal

pub returns-in_default-clause-gathered : goal.returns-in_default-clause-gathered
returns-in_default-clause-gathered c = λ whole losers same far.
    let none : record_at whole c.args.want.lsn ≡ None = sym same ∙ sym c.get.ensures.found ∙ ap (option_map shown) c.in_default.is in
    dropped whole (history c.args.self.now.gathered) losers c.args.want (wants_in c.args.self.now.wants) far (ap (hop_of c.args.want.tx) none)

pub returns-in_default-next_of-clause-gathered : goal.returns-in_default-next_of-clause-gathered
returns-in_default-next_of-clause-gathered c = λ whole losers same far.
    let there : record_at whole c.args.want.lsn ≡ Some (shown c.in-Some.view) = sym same ∙ sym c.in-Some.ensures.found in
    dropped whole (history c.args.self.now.gathered) losers c.args.want (wants_in c.args.self.now.wants) far
    (nowhere c.args.want.tx (record_at whole c.args.want.lsn) (ap (sends c.args.want.tx) there ∙ sym c.next_of.ensures ∙ c.in_default-next_of.is))

pub returns-then-not-has-clause-gathered : goal.returns-then-not-has-clause-gathered
returns-then-not-has-clause-gathered c = λ whole losers same far.
    let there : record_at whole c.args.want.lsn ≡ Some (shown c.in-Some.view) = sym same ∙ sym c.in-Some.ensures.found in
    absurd
    (let has = c.has.ensures.1 (omega (arith, record_above whole c.args.want.lsn (shown c.in-Some.view) there, far.base), omega (arith, record_within whole c.args.want.lsn (shown c.in-Some.view) there, far.last)) in
    cc)

pub returns-clause-gathered : goal.returns-clause-gathered
returns-clause-gathered c =
    on_ok_weaker c.go_on.result
    (λ wants whole losers same far.
    let there : record_at whole c.args.want.lsn ≡ Some (shown c.in-Some.view) = sym same ∙ sym c.in-Some.ensures.found in
    let is : content c.in_ok-link.link ≡ shown c.in-Some.view = c.in_ok-link.ensures.ok in
    let sent : sends c.args.want.tx (Some (content c.in_ok-link.link)) ≡ Some c.in-Some-next_of.next = ap (λ (r : LogRecord). sends c.args.want.tx (Some r)) is ∙ sym c.next_of.ensures ∙ c.in-Some-next_of.is in
    rw c.go_on.ensures.same
    (kept_on whole (history c.args.self.now.gathered) losers c.args.want (wants_in c.args.self.now.wants) far (history c.keep.new.self) (wants_in c.go_on.new.self.wants) (content c.in_ok-link.link) c.in-Some-next_of.next
    (there ∙ ap (λ (r : LogRecord). Some r) (sym is)) sent c.in_ok-keep.ensures.base c.in_ok-keep.ensures.last c.in_ok-keep.ensures.kept wants))
    c.go_on.ensures.wants
