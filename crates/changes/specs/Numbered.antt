-- Pages at their numbers, as those that a restart changes show them (own).
use Rattle.std.specs.Prelude.{List}
use Rattle.page.specs.declared.page.Page.{Page}
use Rattle.page.specs.Store.{AreNumbered}
use Rattle.changes.specs.declared.pages.Pages.{Ghosts as Pages}

-- pages that are at their numbers stay so
abbrev pub StayNumbered : {P : Type 0} → (pages : Pages P) → (old new : P) → Type 0
StayNumbered pages old new = (stored given : List Page) → pages.shows old stored given → AreNumbered given → (after : List Page) × pages.shows new stored after × AreNumbered after
