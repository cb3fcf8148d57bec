-- One page among those of a part, changed in its place.
use Rattle.std.proofs.Common.{◌≡◌, ◌≢◌, ℕ, ◌<◌, List, [], ◌∷◌, Some, map, length, get_or, set, sym, ap, ◌∙◌, inl, inr, arith}
use Rattle.std.specs.List.{slice_get}
use Rattle.std.proofs.lemmas.Bool.{cases_eq}
use Rattle.std.proofs.lemmas.List.{ext_get_or, get_or-set_same, get_or-set_other, length-set, length-map, get_or-map}
use Rattle.std.proofs.lemmas.Option.{slice_get-get_or, slice_get_within, get_or_from_slice_get}
use Rattle.page.specs.Image.{Image}
use Rattle.log_laws.specs.Records.{LogRecord}
use Rattle.redo.specs.Changes.{RedoPage, page_named, put, advance}
use Rattle.redo.specs.Routes.{StandsAlone}
use Rattle.redo.specs.Parts.{numbers_of}
use Rattle.redo.proofs.Reading.{get_same}
use Rattle.redo.proofs.Advance.{advance_elsewhere}

-- the place is that of one of the pages
pub alone_within : (place_of : List ℕ) (ps : List RedoPage) (page : ℕ) (alone : StandsAlone place_of (numbers_of ps) page) → alone.place < length ps
alone_within place_of ps page alone = omega (arith, slice_get_within (numbers_of ps) alone.place page alone.there, length-map ps (λ (p : RedoPage). p.page.number))

-- a change of one page at its place is a change of all that leaves the others
pub set_alone : (f : RedoPage → RedoPage) (place_of : List ℕ) (ps : List RedoPage) (page : ℕ) (alone : StandsAlone place_of (numbers_of ps) page) (place : ℕ) (new d : RedoPage)
    → ((p : RedoPage) → p.page.number ≢ page → f p ≡ p) → place ≡ alone.place → new ≡ f (get_or ps place d) → set ps place new ≡ map f ps
set_alone f place_of ps page alone place new d others at is =
    ext_get_or d (set ps place new) (map f ps) (length-set ps place new ∙ sym (length-map ps f))
    (λ k lt.
    let below : k < length ps = omega (arith, length-set ps place new) in
    elim (cases_eq k place) [
      | inl e ↦
          (ap (λ i. get_or (set ps place new) i d) e
          ∙ (get_or-set_same ps place new d (omega (arith, alone_within place_of ps page alone))
          ∙ (is ∙ (ap (λ i. f (get_or ps i d)) (sym e) ∙ sym (get_or-map f ps k d d below)))))
      | inr ne ↦
          (let other : (get_or ps k d).page.number ≢ page =
          λ e. ne (alone.only k (slice_get-get_or (numbers_of ps) k page (omega (arith, length-map ps (λ (p : RedoPage). p.page.number))) ∙ ap Some (get_or-map (λ (p : RedoPage). p.page.number) ps k d page below ∙ e)) ∙ sym at) in
          get_or-set_other ps place k new d ne ∙ (sym (others (get_or ps k d) other) ∙ sym (get_or-map f ps k d d below)))
    ])

-- the same for the update or CLR of a page that is at no other place
pub put_alone : (redo_lsn lsn slot : ℕ) (value : Image) (r : LogRecord) (place_of : List ℕ) (ps new : List RedoPage) (page place : ℕ) (alone : StandsAlone place_of (numbers_of ps) page)
    → slice_get place_of page ≡ Some place → page_named r ≡ Some page → ((p : RedoPage) → page ≡ p.page.number → advance redo_lsn lsn r p ≡ put redo_lsn lsn slot value p)
    → ((d : RedoPage) → new ≡ set ps place (put redo_lsn lsn slot value (get_or ps place d))) → new ≡ map (advance redo_lsn lsn r) ps
put_alone redo_lsn lsn slot value r place_of [] new page place alone noted names does is = absurd (let lt = alone_within place_of [] page alone in omega arith)
put_alone redo_lsn lsn slot value r place_of (q ∷ qs) new page place alone noted names does is =
    let ps = q ∷ qs in
    let at : place ≡ alone.place = get_same place_of page place alone.place noted alone.noted in
    let number : page ≡ (get_or ps place q).page.number =
    sym (get_or_from_slice_get (numbers_of ps) alone.place page page alone.there)
    ∙ (get_or-map (λ (p : RedoPage). p.page.number) ps alone.place q page (alone_within place_of ps page alone) ∙ ap (λ k. (get_or ps k q).page.number) (sym at)) in
    is q
    ∙ set_alone (advance redo_lsn lsn r) place_of ps page alone place (put redo_lsn lsn slot value (get_or ps place q)) q
    (λ p other. advance_elsewhere redo_lsn lsn r p (λ named e f. other (f ∙ sym (named_once names e)))) at (sym (does (get_or ps place q) number))
  where
    named_once : {a b : ℕ} → page_named r ≡ Some a → page_named r ≡ Some b → a ≡ b
    named_once e f = cc
