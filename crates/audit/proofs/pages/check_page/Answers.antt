use Rattle.std.proofs.Common.{refl, arith}
use Rattle.std.proofs.lemmas.Bool.{iff_false}
use Rattle.log_laws.specs.Records.{history}
use Rattle.log_laws.specs.Pages.{base_pages}
use Rattle.log_laws.proofs.Histories.{size_of_log}
use Rattle.audit.proofs.PageImages.{left_slots, slots_left}
use Rattle.audit.proofs.pages.check_page.Goals as goal

pub returns-then-page-last-clause-err : goal.returns-then-page-last-clause-err
returns-then-page-last-clause-err c = λ keeps. (refl, omega (arith, size_of_log c.args.log.now))

pub returns-then-not-lsn_is_on-clause-err : goal.returns-then-not-lsn_is_on-clause-err
returns-then-not-lsn_is_on-clause-err c = λ keeps. (refl, omega (arith, size_of_log c.args.log.now), λ law. iff_false c.lsn_is_on.ensures c.if-not-lsn_is_on.true law.on_page)

pub returns-then-not-slots_are_left-clause-err : goal.returns-then-not-slots_are_left-clause-err
returns-then-not-slots_are_left-clause-err c = λ keeps. (
  refl,
  omega (arith, size_of_log c.args.log.now),
  λ law. iff_false c.slots_are_left.ensures.all c.if-not-slots_are_left.true (slots_left (base_pages c.args.base.now) (history c.args.log.now) c.args.writers.now c.args.page.now keeps law.slots_are),
)

pub returns-clause-ok : goal.returns-clause-ok
returns-clause-ok c = λ keeps. record {
  within = omega (arith, size_of_log c.args.log.now);
  on_page = c.lsn_is_on.ensures.0 c.if-not-lsn_is_on.false;
  slots_are = left_slots (base_pages c.args.base.now) (history c.args.log.now) c.args.writers.now c.args.page.now keeps c.slots_are_left.ensures.count (c.slots_are_left.ensures.all.0 c.if-not-slots_are_left.false);
}
