use Rattle.std.proofs.Common.{◌≡◌, ◌++◌, ◌∷◌, [], ◌<◌, List, length, get_or, set, Some, map, refl, sym, ap, ◌∙◌, subst, arith}
use Rattle.std.proofs.lemmas.List.{map_push, length-map}
use Rattle.page.specs.Image.{Image}
use Rattle.page.specs.declared.page.Page.{Page}
use Rattle.changes.specs.Changes.{page_put}
use Rattle.log_laws.specs.Records.{LogRecord, Compensation, history}
use Rattle.wal.specs.Content.{shown}
use Rattle.log_laws.proofs.Histories.{size_of_log}
use Rattle.undo.specs.declared.appended.Appended.TheVariants as brief
use Rattle.undo.specs.Appended.{clr_of, record_of, appended_records}
use Rattle.undo.specs.Undone.{undone_page}
use Rattle.undo.proofs.Effects.{Puts}
use Rattle.undo.proofs.UndonePages.{put_undone}
use Rattle.undo.proofs.rollback.compensate.Goals as goal

blank : Page
blank = record { number = 0; lsn = 0; slots = [] }

pub returns-clause-put : goal.returns-clause-put
returns-clause-put g c = λ stored given numbered shows.
    let log = history c.args.log.now in
    let u = c.in-Some-Update in
    let value : Image = c.value_of.result in
    let old = appended_records log c.args.appended.now.items in
    let before = map (undone_page log old) given in
    let r : LogRecord = Compensation (record { tx = u.field-0-0; prev = c.args.last; page = u.page; slot = u.slot; undo_next = u.prev; image = value }) in
    let puts : Puts r u.page u.slot value = record { writes_is = λ p s. refl; on_is = λ p. refl; image_is = refl } in
    let is : record_of log (brief.Compensation c.args.update_lsn c.args.last) ≡ r =
    ap (clr_of c.args.last) (sym u.ensures.found) ∙ ap (λ v. clr_of c.args.last (Some (shown v))) u.field-0-is
    ∙ ap (λ v. Compensation (record { tx = u.field-0-0; prev = c.args.last; page = u.page; slot = u.slot; undo_next = u.prev; image = v })) (sym c.value_of.ensures) in
    let pushed : appended_records log c.push.new.self.items ≡ old ++ r ∷ [] =
    ap (appended_records log) c.in_ok-push.ensures.items ∙ map_push (record_of log) c.args.appended.now.items _ ∙ ap (λ x. old ++ x ∷ []) is in
    let within : u.page < length before = omega (arith, c.if-page-len.false, c.len.ensures, g.met.P.Pages.counted c.args.pages.now stored before shows) in
    let after : set before u.page (page_put u.slot c.args.lsn value (get_or before u.page blank)) ≡ map (undone_page log (appended_records log c.push.new.self.items)) given =
    put_undone log old r given u.page u.slot c.args.lsn value before blank (page_put u.slot c.args.lsn value (get_or before u.page blank)) puts numbered within (length-map given (undone_page log old))
    (omega (arith, c.requires.lsn, size_of_log c.args.log.now, length-map c.args.appended.now.items (record_of log), c.args.appended.now.ok.0)) refl refl
    ∙ ap (λ appended. map (undone_page log appended) given) (sym pushed) in
    subst (λ (pages : List Page). g.P.Pages.shows c.put.new.self stored pages) after (c.in_ok-put.ensures.put stored before blank shows)
