use Rattle.std.proofs.Common.{◌<◌, ◌∙◌, List, length, get_or, sym, ap, subst, arith}
use Rattle.journal.specs.declared.entries.PageEntry.{PageEntry}
use Rattle.journal.specs.declared.owned.Journal.TheInside.{Inside}
use Rattle.journal.specs.Arrays.{page_of}
use Rattle.journal.specs.JournalState.{Keeps}
use Rattle.journal.specs.Owned.{seen}
use Rattle.journal.proofs.Kept.{journal_of}
use Rattle.journal.proofs.Journals.{no_page, is_current}
use Rattle.journal.proofs.owned.Journal.page.Goals as goal

pub returns-clause-current : goal.returns-clause-current
returns-clause-current c = λ base run k.
    let a : Inside = c.self.inside in
    let k' : Keeps base run (seen a) = subst (Keeps base run) (sym c.self.view_is) k in
    let same = c.as_slice-pages.ensures.value in
    let there : c.args.number < length a.pages.items = (let e = ap length same in omega (arith, e, c.if-number-pages.false)) in
    is_current base run a.head a.transactions.items a.pages.items a.pending.items (journal_of base run a c.self.invariant k') c.args.number c.page.result there (c.page.ensures ∙ ap (λ (xs : List PageEntry). page_of (get_or xs c.args.number no_page).page) same)
