-- No record is applied to two pages.
use Rattle.std.proofs.Common.{◌≡◌, ℕ, suc, ◌+◌, ◌<◌, ◌≤◌, true, false, ◌&&◌, List, [], ◌∷◌, map, sum, length, get_or, refl, sym, ◌∙◌, inl, inr, arith, eqb-true}
use Rattle.std.proofs.lemmas.Bool.{cases_Bool, cond_both, false_from_ne_true, false≢true}
use Rattle.std.proofs.lemmas.List.Sums.{sum-map}
use Rattle.std.proofs.lemmas.List.Recursion.{is_sum_by}
use Rattle.page.specs.declared.page.Page.{Page}
use Rattle.page.specs.Store.{AreNumbered}
use Rattle.log_laws.specs.Records.{LogRecord, Update, Compensation, History, start, ◌▸◌, last_lsn}
use Rattle.log_laws.specs.Meaning.{is_on}
use Rattle.log_laws.specs.Redo.{is_redone, rec_lsn_of, applied}

-- a record is on one page at most
on_one : (r : LogRecord) (p q : ℕ) → is_on p r ≡ true → is_on q r ≡ true → p ≡ q
on_one (Update u) p q e f = sym (eqb-true u.page p e) ∙ eqb-true u.page q f
on_one (Compensation c) p q e f = sym (eqb-true c.page p e) ∙ eqb-true c.page q f
on_one r p q e f = absurd (false≢true e)

-- the sum of what the pages have
abbrev total : (Page → ℕ) → List Page → ℕ
total f [] = 0
total f (image ∷ images) = f image + total f images

module _ (dirty : List (ℕ × ℕ)) (redo_lsn : ℕ) where
  -- how many records of a log are applied to an image
  count : History → Page → ℕ
  count log image = applied (rec_lsn_of image.number dirty) redo_lsn image log

  -- pages with these numbers
  AreFrom : ℕ → List Page → Type 0
  AreFrom a images = (i : ℕ) (d : Page) → i < length images → (get_or images i d).number ≡ a + i

  tail_from : (a : ℕ) (image : Page) (images : List Page) → AreFrom a (image ∷ images) → AreFrom (suc a) images
  unfolding AreFrom
  tail_from a image images from i d lt = from (suc i) d (omega arith) ∙ omega arith

  same_count : (log : History) (r : LogRecord) (image : Page) → is_on image.number r ≡ false → count (log ▸ r) image ≡ count log image
  unfolding count
  same_count log r image off = rw off refl

  one_count : (log : History) (r : LogRecord) (image : Page) → count (log ▸ r) image ≤ suc (count log image)
  unfolding count
  one_count log r image =
      cond_both (is_on image.number r && is_redone (rec_lsn_of image.number dirty) redo_lsn image.lsn (suc (last_lsn log))) (suc (count log image)) (count log image) (λ n. n ≤ suc (count log image)) (λ _. omega arith) (λ _. omega arith)

  none_more : (log : History) (r : LogRecord) (p a : ℕ) (images : List Page) → is_on p r ≡ true → p < a → AreFrom a images → total (count (log ▸ r)) images ≡ total (count log) images
  unfolding AreFrom
  none_more log r p a [] on less from = refl
  none_more log r p a (image ∷ images) on less from =
      let number : image.number ≡ a = from 0 image (omega arith) ∙ omega arith in
      let off : is_on image.number r ≡ false = false_from_ne_true (is_on image.number r) (λ e. (let same = on_one r p image.number on e in omega arith)) in
      let rest = none_more log r p (suc a) images on (omega arith) (tail_from a image images from) in
      omega (arith, same_count log r image off, rest)

  one_more : (log : History) (r : LogRecord) (a : ℕ) (images : List Page) → AreFrom a images → total (count (log ▸ r)) images ≤ suc (total (count log) images)
  unfolding AreFrom
  one_more log r a [] from = omega arith
  one_more log r a (image ∷ images) from =
      let number : image.number ≡ a = from 0 image (omega arith) ∙ omega arith in
      elim (cases_Bool (is_on image.number r)) [
        | inl on ↦ omega (arith, one_count log r image, none_more log r image.number (suc a) images on (omega arith) (tail_from a image images from))
        | inr off ↦ omega (arith, same_count log r image off, one_more log r (suc a) images (tail_from a image images from))
      ]

  none_yet : (base : ℕ) (images : List Page) → total (count (start base)) images ≤ 0
  unfolding count
  none_yet base [] = omega arith
  none_yet base (image ∷ images) = omega (arith, none_yet base images)

  within : (log : History) (images : List Page) → AreFrom 0 images → total (count log) images ≤ last_lsn log
  within (start base) images from = omega (arith, none_yet base images)
  within (log ▸ r) images from = omega (arith, within log images from, one_more log r 0 images from)

-- all pages together have at most as many records as the log
pub applied_once : (dirty : List (ℕ × ℕ)) (redo_lsn : ℕ) (log : History) (images : List Page) → AreNumbered images → sum (map (λ image. applied (rec_lsn_of image.number dirty) redo_lsn image log) images) ≤ last_lsn log
unfolding count AreFrom
applied_once dirty redo_lsn log images numbered =
    let f : Page → ℕ = λ image. applied (rec_lsn_of image.number dirty) redo_lsn image log in
    let few : total f images ≤ last_lsn log = within dirty redo_lsn log images (λ i d lt. numbered.at_place i d lt ∙ omega arith) in
    omega (arith, few, sum-map f images, is_sum_by (total f) f refl (λ x xs. refl) images)
