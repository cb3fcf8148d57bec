-- The pages of a part: record by record, and at the end.
use Rattle.std.proofs.Common.{◌≡◌, ℕ, suc, ◌+◌, ◌<◌, ◌≤◌, List, [], ◌∷◌, ◌++◌, All, Option, Some, None, map, take, length, get_or, refl, sym, ap, ap₂, ◌∙◌, arith, ◌^◌, replicate}
use Rattle.std.specs.List.{fold, slice_get}
use Rattle.std.proofs.lemmas.List.{length-map, get_or-map, get_or_default}
use Rattle.std.proofs.lemmas.List.Sums.{fold_push}
use Rattle.std.proofs.lemmas.Option.{slice_get-get_or, slice_get_within, get_or_from_slice_get}
use Rattle.std.proofs.lemmas.Simd.{map-map}
use Rattle.std.proofs.Math.Seq.{take-suc}
use mathlib.Core.Path.{fun_ext}
use Rattle.page.specs.Store.{AreNumbered}
use Rattle.log_laws.specs.Records.{LogRecord, History, history, record_at, last_lsn, first}
use Rattle.log_laws.proofs.Histories.{first_all}
use Rattle.redo.specs.Changes.{RedoPage, advance_by, step}
use Rattle.redo.specs.Parted.{PartedContent}
use Rattle.redo.specs.Parts.{redo_page_in, image_at, numbers_of, IsUpTo, IsWhollyRedone, HasPart}
use Rattle.redo.proofs.Advance.{advance_number, advance_count}
use Rattle.redo.proofs.Replay.{image_number, member_image}
use Rattle.page.specs.declared.profile.TheConstants.{SLOTS}

-- RECORD BY RECORD
step_number : (log : History) (redo_lsn lsn : ℕ) (p : RedoPage) → (step log redo_lsn p lsn).page.number ≡ p.page.number
step_number log redo_lsn lsn p = by (record_at log lsn)
  where
    by : (o : Option LogRecord) → (advance_by redo_lsn lsn o p).page.number ≡ p.page.number
    by None = refl
    by (Some r) = advance_number redo_lsn lsn r p

step_count : (log : History) (redo_lsn lsn : ℕ) (p : RedoPage) → (step log redo_lsn p lsn).applied ≤ suc p.applied
step_count log redo_lsn lsn p = by (record_at log lsn)
  where
    by : (o : Option LogRecord) → (advance_by redo_lsn lsn o p).applied ≤ suc p.applied
    by None = omega arith
    by (Some r) = advance_count redo_lsn lsn r p

pub step_numbers : (log : History) (redo_lsn lsn : ℕ) (ps : List RedoPage) → numbers_of (map (λ p. step log redo_lsn p lsn) ps) ≡ numbers_of ps
step_numbers log redo_lsn lsn [] = refl
step_numbers log redo_lsn lsn (p ∷ ps) = ap₂ (λ x xs. x ∷ xs) (step_number log redo_lsn lsn p) (step_numbers log redo_lsn lsn ps)

pub step_room : (log : History) (redo_lsn lsn bound n : ℕ) (ps : List RedoPage) → All (λ p. p.applied + suc n < bound) ps → All (λ p. p.applied + n < bound) (map (λ p. step log redo_lsn p lsn) ps)
step_room log redo_lsn lsn bound n ps room k d lt =
    let below : k < length ps = omega (arith, lt, length-map ps (λ p. step log redo_lsn p lsn)) in
    let is : get_or (map (λ p. step log redo_lsn p lsn) ps) k d ≡ step log redo_lsn (get_or ps k d) lsn = get_or-map (λ p. step log redo_lsn p lsn) ps k d d below in
    omega (arith, ap (λ (p : RedoPage). p.applied) is, step_count log redo_lsn lsn (get_or ps k d), room k d below)

-- no record yet
pub fold_none : (log : History) (redo_lsn : ℕ) (ps : List RedoPage) → ps ≡ map (λ p. fold (step log redo_lsn) p []) ps
fold_none log redo_lsn [] = refl
fold_none log redo_lsn (p ∷ ps) = ap (λ xs. p ∷ xs) (fold_none log redo_lsn ps)

-- one more
pub fold_next : (log : History) (redo_lsn : ℕ) (lsns : List ℕ) (i lsn : ℕ) (old ps new : List RedoPage) → i < length lsns → lsn ≡ get_or lsns i 0 → ps ≡ map (λ p. fold (step log redo_lsn) p (take i lsns)) old
    → new ≡ map (λ p. step log redo_lsn p lsn) ps → new ≡ map (λ p. fold (step log redo_lsn) p (take (i + 1) lsns)) old
fold_next log redo_lsn lsns i lsn old ps new lt at before is =
    let f = step log redo_lsn in
    let count : i + 1 ≡ suc i = omega arith in
    let more : take (i + 1) lsns ≡ take i lsns ++ lsn ∷ [] = ap (λ n. take n lsns) count ∙ (take-suc lsns i 0 lt ∙ ap (λ x. take i lsns ++ x ∷ []) (sym at)) in
    is
    ∙ (ap (map (λ p. f p lsn)) before
    ∙ (map-map (λ p. f p lsn) (λ p. fold f p (take i lsns)) old
    ∙ ap (λ (g : RedoPage → RedoPage). map g old) (fun_ext (λ p. sym (ap (fold f p) more ∙ fold_push f p (take i lsns) lsn)))))

-- AT THE END
module _ (parted : PartedContent) (part : ℕ) (numbered : AreNumbered parted.input.images) (dealt : length parted.parting.part_of ≡ length parted.input.images) (fits : last_lsn (history parted.input.log) < 2 ^ 64) where
  pub all_done : (ps : List RedoPage) → IsUpTo parted part (last_lsn (history parted.input.log)) ps → All (IsWhollyRedone parted.input) ps
  all_done ps up k d lt =
      let at : ℕ → RedoPage = λ number. redo_page_in parted.input (first (last_lsn (history parted.input.log)) (history parted.input.log)) (image_at parted.input.images number) in
      let below : k < length up.members = omega (arith, lt, ap length up.redone, length-map up.members at) in
      let m = get_or up.members k 0 in
      let is : get_or ps k d ≡ at m = ap (λ xs. get_or xs k d) up.redone ∙ get_or-map at up.members k 0 d below in
      let within = (member_image parted part numbered dealt fits up.members up.are k 0 below).0 in
      let number : (get_or ps k d).page.number ≡ m = ap (λ (p : RedoPage). p.page.number) is ∙ image_number parted.input.images m numbered within in
      record {
        image = image_at parted.input.images m;
        there = ap (slice_get parted.input.images) number ∙ slice_get-get_or parted.input.images m (image_at parted.input.images m) within
            ∙ ap Some (get_or_default parted.input.images m (image_at parted.input.images m) (record { number = m; lsn = 0; slots = replicate SLOTS None }) within);
        redone = is ∙ ap (λ h. redo_page_in parted.input h (image_at parted.input.images m)) (first_all (last_lsn (history parted.input.log)) (history parted.input.log) (omega arith));
      }

  pub all_there : (n : ℕ) (ps : List RedoPage) → IsUpTo parted part n ps → HasPart parted.parting part ps
  all_there n ps up page given =
      let at : ℕ → RedoPage = λ number. redo_page_in parted.input (first n (history parted.input.log)) (image_at parted.input.images number) in
      let member = up.are.found page (omega (arith, slice_get_within parted.parting.part_of page part given, up.all)) given in
      let lt = slice_get_within up.members member.place page member.there in
      let is : get_or ps member.place (at page) ≡ at page =
      ap (λ xs. get_or xs member.place (at page)) up.redone ∙ (get_or-map at up.members member.place page (at page) lt ∙ ap at (get_or_from_slice_get up.members member.place page page member.there)) in
      record {
        place = member.place;
        redo_page = at page;
        there = slice_get-get_or ps member.place (at page) (omega (arith, lt, ap length up.redone, length-map up.members at)) ∙ ap Some is;
        number = image_number parted.input.images page numbered (omega (arith, slice_get_within parted.parting.part_of page part given, dealt));
      }
