use Rattle.std.proofs.Common.{◌≡◌, Some, None, get_or, map, sym, ap, subst, ◌∙◌, arith}
use Rattle.std.specs.Prelude.{unwrap_or}
use Rattle.std.proofs.lemmas.List.{get_or-map, length-map}
use Rattle.wal.specs.Content.{content}
use Rattle.wal.specs.Spelling.{Fits}
use Rattle.log_laws.specs.Records.{LogRecord, Update, Compensation, CheckpointBegin, history, record_at}
use Rattle.undo.specs.Gathered.{link_in, place_of}
use Rattle.undo.proofs.Chains.{place_of-lookup, kept_here, kept_nowhere, gathered_at, gathered_none, gathered_past}
use Rattle.undo.proofs.gathered.Gathered.get.Goals.{then-lsn-self-via-then-lsn-self, then-lsn-self-via-else-lsn-self+then-lsn-self-2}
use Rattle.undo.proofs.gathered.Gathered.get.Goals as goal

pub returns-then-lsn-self-clause-found : goal.returns-then-lsn-self-clause-found
returns-then-lsn-self-clause-found c =
    let links = map content c.self.inside.records.items in
    elim c.then-lsn-self.branch [
      | then-lsn-self-via-then-lsn-self w ↦ sym (gathered_none c.self.inside.base c.self.inside.count c.self.inside.places.entries links c.args.lsn w.if-lsn-self.true) ∙ ap (λ l. record_at (history l) c.args.lsn) c.self.view_is
      | then-lsn-self-via-else-lsn-self+then-lsn-self-2 w ↦
          sym (gathered_past c.self.inside.base c.self.inside.count c.self.inside.places.entries links c.args.lsn (omega (arith, w.if-lsn-self-2.true, w.if-lsn-self.false))) ∙ ap (λ l. record_at (history l) c.args.lsn) c.self.view_is
    ]

placed : (c : goal.After-row_known-1) → place_of c.args.lsn c.self.inside.places.entries ≡ Some c.in-Some.place.now
placed c = place_of-lookup c.args.lsn c.self.inside.places.entries ∙ sym c.in-Some.ensures.value

pub index-requires : goal.index-requires
index-requires c = omega (arith, c.self.invariant.placed c.args.lsn c.in-Some.place.now (placed c), length-map c.self.inside.records.items content, c.self.inside.records.ok.0)

fits_link : (r : LogRecord) → Fits r → Fits (link_in r)
fits_link (Update u) h = h
fits_link (Compensation u) h = h
fits_link _ h = tt

pub returns-in-Some-clause-found : goal.returns-in-Some-clause-found
returns-in-Some-clause-found c =
    let links = map content c.self.inside.records.items in
    let place = c.in-Some.place.now in
    let is_placed : place_of c.args.lsn c.self.inside.places.entries ≡ Some place = place_of-lookup c.args.lsn c.self.inside.places.entries ∙ sym c.in-Some.ensures.value in
    let within = c.self.invariant.placed c.args.lsn place is_placed in
    let there : content c.index.result.now ≡ get_or links place CheckpointBegin =
    ap content c.index.ensures ∙ sym (get_or-map content c.self.inside.records.items place c.index.result.now CheckpointBegin (omega (arith, within, length-map c.self.inside.records.items content))) in
    ap (λ r. Some r) (c.view_of.ensures ∙ ap link_in there)
    ∙ ap (λ o. Some (unwrap_or o CheckpointBegin)) (sym (kept_here c.self.inside.places.entries links c.args.lsn place CheckpointBegin is_placed within))
    ∙ sym (gathered_at c.self.inside.base c.self.inside.count c.self.inside.places.entries links c.args.lsn c.if-lsn-self.false (omega (arith, c.if-lsn-self.false, c.if-lsn-self-2.false)))
    ∙ ap (λ l. record_at (history l) c.args.lsn) c.self.view_is

pub returns-in-Some-clause-fits : goal.returns-in-Some-clause-fits
returns-in-Some-clause-fits c =
    let links = map content c.self.inside.records.items in
    let place = c.in-Some.place.now in
    let is_placed : place_of c.args.lsn c.self.inside.places.entries ≡ Some place = place_of-lookup c.args.lsn c.self.inside.places.entries ∙ sym c.in-Some.ensures.value in
    let within = c.self.invariant.placed c.args.lsn place is_placed in
    let there : content c.index.result.now ≡ get_or links place CheckpointBegin =
    ap content c.index.ensures ∙ sym (get_or-map content c.self.inside.records.items place c.index.result.now CheckpointBegin (omega (arith, within, length-map c.self.inside.records.items content))) in
    subst Fits (sym c.view_of.ensures) (fits_link (content c.index.result.now) (subst Fits (sym there) (c.self.invariant.fits place CheckpointBegin within)))

pub returns-in-None-clause-found : goal.returns-in-None-clause-found
returns-in-None-clause-found c =
    let links = map content c.self.inside.records.items in
    let nowhere : place_of c.args.lsn c.self.inside.places.entries ≡ None = place_of-lookup c.args.lsn c.self.inside.places.entries ∙ sym c.in-None.ensures.value in
    ap (λ o. Some (unwrap_or o CheckpointBegin)) (sym (kept_nowhere c.self.inside.places.entries links c.args.lsn nowhere))
    ∙ sym (gathered_at c.self.inside.base c.self.inside.count c.self.inside.places.entries links c.args.lsn c.if-lsn-self.false (omega (arith, c.if-lsn-self.false, c.if-lsn-self-2.false)))
    ∙ ap (λ l. record_at (history l) c.args.lsn) c.self.view_is
