use Rattle.std.proofs.Common.{◌≡◌, ◌+◌, ◌-◌, ℕ, List, Ok, Some, None, Option, drop, length, length-take, refl, sym, ap, subst, ◌∙◌, arith}
use Rattle.std.specs.Prelude.{is_some, option_map}
use Rattle.std.proofs.lemmas.Option.{same_Some}
use Rattle.page.proofs.BigEndian.{AreBytes, AreBytes-drop}
use Rattle.log_laws.specs.Records.{LogRecord}
use Rattle.wal.specs.Spelling.{Fits}
use Rattle.wal.specs.Content.{shown}
use Rattle.wal.specs.Frames.{next_at}
use Rattle.wal.proofs.Loop.{next_is}
use Rattle.wal.proofs.Whole.{found_frame}
use Rattle.cursor.proofs.Marks.{here}
use Rattle.cursor.proofs.reading.view_after.Goals as goal

pub split_at-requires-2 : goal.split_at-requires-2
split_at-requires-2 c =
    let is = here (c.args.mark.lsn + 1) c.args.mark.offset c.args.size (drop c.args.mark.offset c.args.bytes.now) (drop 4 (drop c.args.mark.offset c.args.bytes.now)) refl c.requires.there in
    omega (arith, is.long, ap length c.split_at.ensures.back)

pub slice_bounds-body_view-count : goal.slice_bounds-body_view-count
slice_bounds-body_view-count c =
    let is = here (c.args.mark.lsn + 1) c.args.mark.offset c.args.size (drop c.args.mark.offset c.args.bytes.now) (drop 4 (drop c.args.mark.offset c.args.bytes.now)) refl c.requires.there in
    is.low

pub slice_bounds-body_view-length : goal.slice_bounds-body_view-length
slice_bounds-body_view-length c =
    let body : List ℕ = c.split_at-2.result.1.now in
    let is = here (c.args.mark.lsn + 1) c.args.mark.offset c.args.size (drop c.args.mark.offset c.args.bytes.now) body (c.split_at-2.ensures.back ∙ ap (drop 4) c.split_at.ensures.back) c.requires.there in
    omega (arith, is.room, length-take (c.args.size - 4) body)

pub body_view-requires : goal.body_view-requires
body_view-requires c = λ some.
    let body : List ℕ = c.split_at-2.result.1.now in
    let is = here (c.args.mark.lsn + 1) c.args.mark.offset c.args.size (drop c.args.mark.offset c.args.bytes.now) body (c.split_at-2.ensures.back ∙ ap (drop 4) c.split_at.ensures.back) c.requires.there in
    ap (λ (o : Option (LogRecord × ℕ)). is_some o) is.spelled

pub unreachable-requires : goal.unreachable-requires
unreachable-requires c =
    let body : List ℕ = c.split_at-2.result.1.now in
    let is = here (c.args.mark.lsn + 1) c.args.mark.offset c.args.size (drop c.args.mark.offset c.args.bytes.now) body (c.split_at-2.ensures.back ∙ ap (drop 4) c.split_at.ensures.back) c.requires.there in
    let none : ◌≡◌ {A = Option LogRecord} None (Some is.content) =
    ap (option_map shown) (sym c.in-None.is) ∙ c.body_view.ensures ∙ ap (λ (o : Option (LogRecord × ℕ)). option_map (λ x. x.0) o) is.spelled in
    absurd cc

pub returns-clause-record : goal.returns-clause-record
returns-clause-record c =
    let body : List ℕ = c.split_at-2.result.1.now in
    let is = here (c.args.mark.lsn + 1) c.args.mark.offset c.args.size (drop c.args.mark.offset c.args.bytes.now) body (c.split_at-2.ensures.back ∙ ap (drop 4) c.split_at.ensures.back) c.requires.there in
    let same : ◌≡◌ {A = Option LogRecord} (Some (shown c.in-Some.view)) (Some is.content) =
    ap (option_map shown) (sym c.in-Some.is) ∙ c.body_view.ensures ∙ ap (λ (o : Option (LogRecord × ℕ)). option_map (λ x. x.0) o) is.spelled in
    subst (λ r. next_at (c.args.mark.lsn + 1) c.args.mark.offset (drop c.args.mark.offset c.args.bytes.now) ≡ Ok (Some (r, c.args.size))) (sym (same_Some (shown c.in-Some.view) is.content same)) is.next

pub returns-clause-fits : goal.returns-clause-fits
returns-clause-fits c =
    let body : List ℕ = c.split_at-2.result.1.now in
    let frame : List ℕ = drop c.args.mark.offset c.args.bytes.now in
    let lsn = c.args.mark.lsn + 1 in
    let bytes_fit : AreBytes c.args.bytes.now = λ i. omega (arith, c.type_inv.bytes i) in
    let is = here lsn c.args.mark.offset c.args.size frame body (c.split_at-2.ensures.back ∙ ap (drop 4) c.split_at.ensures.back) c.requires.there in
    let one = found_frame lsn frame is.content c.args.size (AreBytes-drop c.args.mark.offset c.args.bytes.now bytes_fit) (next_is lsn c.args.mark.offset frame is.content c.args.size is.next) in
    let same : ◌≡◌ {A = Option LogRecord} (Some (shown c.in-Some.view)) (Some is.content) =
    ap (option_map shown) (sym c.in-Some.is) ∙ c.body_view.ensures ∙ ap (λ (o : Option (LogRecord × ℕ)). option_map (λ x. x.0) o) is.spelled in
    subst Fits (sym (same_Some (shown c.in-Some.view) is.content same)) one.1
