use Rattle.std.proofs.Common.{◌≡◌, ◌+◌, ◌<◌, List, [], ◌∷◌, ◌++◌, All, Some, cond, map, length, sym, ap, ◌∙◌, subst, arith}
use Rattle.std.proofs.lemmas.Result.{err_from_is_err_and}
use Rattle.log_laws.specs.Records.{◌▸◌, LogContent, history, last_lsn, record_at, first}
use Rattle.wal.specs.Glances.{IsGlanceBehind}
use Rattle.redo.specs.Notes.{notes_at}
use Rattle.redo.specs.declared.note.Note.{Note}
use Rattle.redo.specs.Parted.{PartedContent}
use Rattle.redo.specs.Parting.{PartingContent}
use Rattle.redo.specs.Changes.{NamesBelow, on_part, lsn_in, IsNote}
use Rattle.redo.specs.Routes.{NoteFault}
use Rattle.redo.proofs.Reading.{written_back}
use Rattle.redo.proofs.Routes.{exist_none}
use Rattle.redo.proofs.Noting.{none_noted, one_noted, exist_more, refused}
use Rattle.redo.proofs.route.route_through.Goals as goal

pub loop-lsn-init : goal.loop-lsn-init
loop-lsn-init c =
    let parted = c.args.parted.now in
    let input = parted.input in
    let made = c.in_ok-lists.ensures in (
      made.count ∙ (c.parts-parts.ensures.parts ∙ (ap (λ p. p.parting.now.parts) c.parted-inside.view_is ∙ ap (λ p. p.parting.parts) c.parted.view_is)),
      (λ part lt. ap (map lsn_in) (made.empty part) ∙ sym (none_noted input parted.parting.part_of c.args.from part c.requires.begun)),
      exist_none input.log (length input.images) c.args.from,
      (λ part lt. subst (All (IsNote (history input.log) parted.parting.place_of)) (sym (made.empty part)) (λ k d less. absurd (omega arith))),
    )

pub returns-in_err-put_note-clause-fault : goal.returns-in_err-put_note-clause-fault
returns-in_err-put_note-clause-fault c =
    let exit = err_from_is_err_and c.from_residual-in_err-put_note.result c.from_residual-in_err-put_note.ensures.1 in
    let parted = c.args.parted.now in
    let input = parted.input in
    let upto = c.loop-lsn.lsn in
    let fault = c.in_err-put_note.field-0.0 in
    let read = ap (λ p. p.input.log) c.parted-inside.view_is ∙ ap (λ p. p.input.log) c.parted.view_is in
    let dealt_as = ap (λ p. p.parting.now) c.parted-inside.view_is ∙ ap (λ p. p.parting) c.parted.view_is in
    let glance = subst (λ (log : LogContent). IsGlanceBehind (history log) upto c.glance_after-glance.result) read c.glance_after-glance.ensures in
    let r = glance.entry in
    let lt : upto < last_lsn (history input.log) = omega (arith, c.loop-lsn-test.true, c.requires.within) in
    let at : record_at (history input.log) (upto + 1) ≡ Some r = glance.there in
    let dealt = subst (λ (p : PartedContent). length p.parting.part_of ≡ length p.input.images) c.parted.view_is c.parted.invariant in
    let cause : NoteFault (length parted.parting.part_of) (upto + 1) r fault = subst (λ (p : PartingContent). NoteFault (length p.part_of) (upto + 1) r fault) dealt_as (c.in_err-put_note.ensures.fault r glance.seen_of) in
    rw (exit.1, exit.2) (refused input c.args.from upto r c.requires.begun c.loop-lsn.auto.lsn lt at (length parted.parting.part_of) c.args.to fault dealt c.loop-lsn-test.true c.loop-lsn.invariant.2 cause)

pub loop-lsn-preserved : goal.loop-lsn-preserved
loop-lsn-preserved c =
    let parted = c.args.parted.now in
    let input = parted.input in
    let part_of = parted.parting.part_of in
    let upto = c.loop-lsn.lsn in
    let read = ap (λ p. p.input.log) c.parted-inside.view_is ∙ ap (λ p. p.input.log) c.parted.view_is in
    let dealt_as = ap (λ p. p.parting.now) c.parted-inside.view_is ∙ ap (λ p. p.parting) c.parted.view_is in
    let glance = subst (λ (log : LogContent). IsGlanceBehind (history log) upto c.glance_after-glance.result) read c.glance_after-glance.ensures in
    let r = glance.entry in
    let seen = glance.seen_of in
    let lt : upto < last_lsn (history input.log) = omega (arith, c.loop-lsn-test.true, c.requires.within) in
    let at : record_at (history input.log) (upto + 1) ≡ Some r = glance.there in
    let dealt = subst (λ (p : PartedContent). length p.parting.part_of ≡ length p.input.images) c.parted.view_is c.parted.invariant in
    let old = c.loop-lsn.invariant in
    let items = c.loop-lsn.lists.items in
    let given = c.deref_mut.result.now in
    let lists = c.put_note.new.lists in
    let put = c.in_ok-put_note.ensures in
    let lent : given ≡ items = c.deref_mut.ensures.value in
    let count : length lists ≡ c.loop-lsn.lists.len = omega (arith, put.count, ap (λ (xs : List (List Note)). length xs) lent, c.loop-lsn.lists.ok.0) in
    let same = written_back c.loop-lsn.lists.len items lists count in
    let next : first (upto + 1) (history input.log) ≡ first upto (history input.log) ▸ r = glance.next in
    let below : NamesBelow (length input.images) r = subst (λ n. NamesBelow n r) dealt (subst (λ (p : PartingContent). NamesBelow (length p.part_of) r) dealt_as (put.exists r seen)) in (
      ap (λ (xs : List (List Note)). length xs) same ∙ (count ∙ omega (arith, c.loop-lsn.lists.ok.0, old.0)),
      (λ part less.
          let own : map lsn_in (notes_at lists part) ≡ cond (on_part part_of part r) (map lsn_in (notes_at given part) ++ (upto + 1) ∷ []) (map lsn_in (notes_at given part)) =
          subst (λ (p : PartingContent). map lsn_in (notes_at lists part) ≡ cond (on_part p.part_of part r) (map lsn_in (notes_at given part) ++ (upto + 1) ∷ []) (map lsn_in (notes_at given part))) dealt_as (put.lsns r seen part) in
          let noted : map lsn_in (notes_at lists part) ≡ cond (on_part part_of part r) (map lsn_in (notes_at items part) ++ (upto + 1) ∷ []) (map lsn_in (notes_at items part)) =
          own ∙ ap (λ (xs : List (List Note)). cond (on_part part_of part r) (map lsn_in (notes_at xs part) ++ (upto + 1) ∷ []) (map lsn_in (notes_at xs part))) lent in
          ap (λ (xs : List (List Note)). map lsn_in (notes_at xs part)) same
          ∙ one_noted input c.args.from upto r c.requires.begun c.loop-lsn.auto.lsn lt at part_of part (map lsn_in (notes_at items part)) (map lsn_in (notes_at lists part)) next noted (old.1 part less)),
      exist_more input c.args.from upto r c.requires.begun c.loop-lsn.auto.lsn lt at below old.2,
      (λ part less.
          let log = history input.log in
          let before : All (IsNote log parted.parting.place_of) (notes_at given part) = subst (λ (xs : List (List Note)). All (IsNote log parted.parting.place_of) (notes_at xs part)) (sym lent) (old.3 part less) in
          let keeps : All (IsNote log parted.parting.place_of) (notes_at given part) → All (IsNote log parted.parting.place_of) (notes_at lists part) =
          subst (λ (p : PartingContent). All (IsNote log p.place_of) (notes_at given part) → All (IsNote log p.place_of) (notes_at lists part)) dealt_as (put.notes log r seen at part) in
          subst (λ (xs : List (List Note)). All (IsNote log parted.parting.place_of) (notes_at xs part)) (sym same) (keeps before)),
    )

pub put_note-requires-clause-seen : goal.put_note-requires-clause-seen
put_note-requires-clause-seen c = record { entry = c.glance_after-glance.ensures.entry; seen = c.glance_after-glance.ensures.seen_of; fits = c.glance_after-glance.ensures.fits }
