-- The dirty pages that redo needed are all, if redo has found each page.
use Rattle.std.proofs.Common.{ℕ, ◌≡◌, List, Option, Some, None, true, eqb-true, sym, ap, subst, arith}
use Rattle.std.specs.Prelude.{option_map}
use Rattle.log_laws.specs.Records.{LogRecord, LogContent, history}
use Rattle.log_laws.specs.Meaning.{Change, change_of, is_on, is_on_page}
use Rattle.analysis.specs.Tables.{AreDirtyPagesOf, AreBelow, ServesRedo}
use Rattle.redo.specs.Changes.{page_named}
use Rattle.redo.specs.Redone.{AllExist}

named : (r : LogRecord) (page : ℕ) → is_on page r ≡ true → page_named r ≡ Some page
named r page on = by_change (change_of r) on
  where
    by_change : (o : Option Change) → is_on_page page o ≡ true → option_map (λ (x : ℕ × ℕ). x.0) (option_map (λ (c : Change). (c.page, c.slot)) o) ≡ Some page
    by_change None on = absurd cc
    by_change (Some c) on = ap (λ n. Some n) (eqb-true c.page page on)

pub served : (log : LogContent) (m count : ℕ) (found : List (ℕ × ℕ)) (redo_lsn : ℕ) → ServesRedo log m count found redo_lsn → AllExist log count redo_lsn → AreDirtyPagesOf log m found redo_lsn
served log m count found redo_lsn serves exist =
    let below : AreBelow count redo_lsn (history log) = λ lsn r page some from there on. exist lsn r ((λ zero. omega (arith, zero, some)), from) there page (named r page on) in
    subst (λ dirty. AreDirtyPagesOf log m dirty redo_lsn) (sym (serves.is_whole below)) serves.are
