-- Counting CLRs and ends among records in compact form.
use Rattle.std.proofs.Common.{ℕ, ◌≡◌, ◌+◌, ◌<◌, ◌++◌, Bool, true, false, List, [], ◌∷◌, Option, Some, length, take, get_or, refl, subst, ap, ◌∙◌, arith, inl, inr}
use Rattle.std.specs.Prelude.{filter}
use Rattle.std.proofs.lemmas.Bool.{cases_Bool}
use Rattle.std.proofs.lemmas.List.{take_more, map_push}
use Rattle.log_laws.specs.Records.{LogRecord, Update, LogContent, history, record_at}
use Rattle.log_laws.specs.Tail.{is_clr, is_end}
use Rattle.undo.specs.declared.appended.Appended.{Appended}
use Rattle.undo.specs.declared.appended.Appended.TheVariants as brief
use Rattle.undo.specs.Appended.{IsUpdate, HasUpdate, HaveUpdates, clr_of, record_of, appended_records}
use Rattle.restart.specs.Restart.{clrs_in, ends_in}

-- for these records and one more
count_more : (kind : LogRecord → Bool) (xs : List LogRecord) (x : LogRecord) → length (filter kind (xs ++ x ∷ [])) ≡ length (filter kind xs) + length (filter kind (x ∷ []))
count_more kind [] x = omega arith
count_more kind (y ∷ ys) x =
    let rest = count_more kind ys x in
    elim (cases_Bool (kind y)) [
      | inl i ↦ rw i (omega (arith, rest))
      | inr i ↦ rw i (omega (arith, rest))
    ]

-- and of the first records in compact form, and the next one
told_more : (kind : LogRecord → Bool) (log : LogContent) (told : List Appended) (i : ℕ) (d x : Appended) → i < length told → get_or told i d ≡ x
    → length (filter kind (appended_records (history log) (take (i + 1) told))) ≡ length (filter kind (appended_records (history log) (take i told))) + length (filter kind (record_of (history log) x ∷ []))
told_more kind log told i d x lt is =
    ap (λ xs. length (filter kind (appended_records (history log) xs))) (take_more told i d lt ∙ ap (λ y. take i told ++ y ∷ []) is)
    ∙ ap (λ rs. length (filter kind rs)) (map_push (record_of (history log)) (take i told) x)
    ∙ count_more kind (appended_records (history log) (take i told)) (record_of (history log) x)

-- the CLR of an update is a CLR, and not an end
is_one : (last : ℕ) (r : Option LogRecord) → IsUpdate r → (is_clr (clr_of last r) ≡ true) × (is_end (clr_of last r) ≡ false)
is_one last (Some (Update u)) h = (refl, refl)
is_one last _ h = absurd h

-- ONE MORE
-- a CLR
pub one_clr : (log : LogContent) (told : List Appended) (i : ℕ) (d : Appended) (update prev : ℕ) → i < length told → get_or told i d ≡ brief.Compensation update prev → HaveUpdates log told
    → (clrs_in (appended_records (history log) (take (i + 1) told)) ≡ clrs_in (appended_records (history log) (take i told)) + 1) × (ends_in (appended_records (history log) (take (i + 1) told)) ≡ ends_in (appended_records (history log) (take i told)))
one_clr log told i d update prev lt is are =
    let one = is_one prev (record_at (history log) update) (subst (HasUpdate log) is (are i d lt)) in
    let r : LogRecord = clr_of prev (record_at (history log) update) in
    let clrs : length (filter is_clr (r ∷ [])) ≡ 1 = rw one.0 refl in
    let ends : length (filter is_end (r ∷ [])) ≡ 0 = rw one.1 refl in (
      told_more is_clr log told i d (brief.Compensation update prev) lt is ∙ ap (λ n. clrs_in (appended_records (history log) (take i told)) + n) clrs,
      told_more is_end log told i d (brief.Compensation update prev) lt is ∙ ap (λ n. ends_in (appended_records (history log) (take i told)) + n) ends ∙ omega arith,
    )

-- an end
pub one_end : (log : LogContent) (told : List Appended) (i : ℕ) (d : Appended) (tx prev : ℕ) → i < length told → get_or told i d ≡ brief.End tx prev
    → (clrs_in (appended_records (history log) (take (i + 1) told)) ≡ clrs_in (appended_records (history log) (take i told))) × (ends_in (appended_records (history log) (take (i + 1) told)) ≡ ends_in (appended_records (history log) (take i told)) + 1)
one_end log told i d tx prev lt is = (
  told_more is_clr log told i d (brief.End tx prev) lt is ∙ omega arith,
  told_more is_end log told i d (brief.End tx prev) lt is,
)
