-- The records of a log of which some are kept.
use Rattle.std.proofs.Common.{ℕ, suc, ◌≡◌, ◌+◌, ◌-◌, ◌<◌, ◌≤◌, cond, eqb, ne_eqb, List, [], ◌∷◌, ◌++◌, length, get_or, Option, Some, None, refl, subst, sym, ap, ◌∙◌, inl, inr, arith, length-append}
use mathlib.Core.Path.{fun_ext}
use Rattle.std.specs.Prelude.{Bool, map, option_map, unwrap_or}
use Rattle.std.specs.List.{range_with_len, slice_get}
use Rattle.std.specs.Map.{lookup}
use Rattle.std.specs.Ordering.{is_eq, nat_cmp}
use Rattle.std.proofs.lemmas.Bool.{cases_Bool, cases_lt}
use Rattle.std.proofs.lemmas.Option.{same_Some, slice_get-get_or}
use Rattle.std.proofs.lemmas.List.{get_or_append_left}
use Rattle.std.proofs.Math.Seq.{get_or-append_seam}
use Rattle.wal.specs.Reading.{◌>>=◌}
use Rattle.std.proofs.lemmas.List.FromFn.{get_or-map-range_with_len, length-map-range_with_len}
use Rattle.log_laws.specs.declared.start.LogStart.TheVariants.{Version2}
use Rattle.log_laws.specs.Records.{LogRecord, LogContent, CheckpointBegin, history, last_lsn, base_lsn, record_at}
use Rattle.wal.proofs.Entries.{is_eq-nat_cmp}
use Rattle.log_laws.proofs.Histories.{record_item, record_none, size_of_log, base_of_log}
use Rattle.undo.specs.Gathered.{link_in, place_of, kept_at, gathered_log, IsPassedOver}

-- a place, as the map finds it
pub place_of-lookup : (lsn : ℕ) (places : List (ℕ × ℕ)) → place_of lsn places ≡ lookup (λ k. is_eq (nat_cmp lsn k)) places
place_of-lookup lsn places = ap (λ (test : ℕ → Bool). lookup test places) (fun_ext (λ k. sym (is_eq-nat_cmp lsn k)))

-- one place changed
pub place_of-changed : (n lsn : ℕ) (old new : List (ℕ × ℕ)) (w : Option ℕ) → lookup (λ k. is_eq (nat_cmp n k)) new ≡ cond (is_eq (nat_cmp lsn n)) w (lookup (λ k. is_eq (nat_cmp n k)) old)
    → place_of n new ≡ cond (eqb lsn n) w (place_of n old)
place_of-changed n lsn old new w e =
    place_of-lookup n new ∙ e ∙ ap (λ b. cond b w (lookup (λ k. is_eq (nat_cmp n k)) old)) (is_eq-nat_cmp lsn n) ∙ ap (λ o. cond (eqb lsn n) w o) (sym (place_of-lookup n old))

-- what is kept at a place
pub kept_here : (places : List (ℕ × ℕ)) (links : List LogRecord) (lsn place : ℕ) (d : LogRecord) → place_of lsn places ≡ Some place → place < length links → kept_at places links lsn ≡ Some (link_in (get_or links place d))
kept_here places links lsn place d there within =
    ap (λ o. o >>= λ p. option_map link_in (slice_get links p)) there ∙ ap (option_map link_in) (slice_get-get_or links place d within)

pub kept_nowhere : (places : List (ℕ × ℕ)) (links : List LogRecord) (lsn : ℕ) → place_of lsn places ≡ None → kept_at places links lsn ≡ None
kept_nowhere places links lsn none = ap (λ o. o >>= λ p. option_map link_in (slice_get links p)) none

-- one more link, which no place has yet
pub kept_before : (places : List (ℕ × ℕ)) (links : List LogRecord) (x : LogRecord) (n : ℕ) → ((place : ℕ) → place_of n places ≡ Some place → place < length links) → kept_at places (links ++ x ∷ []) n ≡ kept_at places links n
kept_before places links x n placed = by_place (place_of n places) refl
  where
    by_place : (o : Option ℕ) → place_of n places ≡ o → kept_at places (links ++ x ∷ []) n ≡ kept_at places links n
    by_place None e = kept_nowhere places (links ++ x ∷ []) n e ∙ sym (kept_nowhere places links n e)
    by_place (Some place) e =
        (let within = placed place e in
        kept_here places (links ++ x ∷ []) n place x e (omega (arith, within, length-append links (x ∷ [])))
        ∙ ap (λ r. Some (link_in r)) (get_or_append_left links (x ∷ []) x place within)
        ∙ sym (kept_here places links n place x e within))

-- and then a place
pub kept_more : (old new : List (ℕ × ℕ)) (links : List LogRecord) (x : LogRecord) (lsn n : ℕ) → ((place : ℕ) → place_of n old ≡ Some place → place < length links) → place_of n new ≡ cond (eqb lsn n) (Some (length links)) (place_of n old)
    → kept_at new (links ++ x ∷ []) n ≡ cond (eqb lsn n) (Some (link_in x)) (kept_at old links n)
kept_more old new links x lsn n placed changed =
    elim (cases_Bool (eqb lsn n)) [
      | inl e ↦
          rw e
          (kept_here new (links ++ x ∷ []) n (length links) x (changed ∙ ap (λ b. cond b (Some (length links)) (place_of n old)) e) (omega (arith, length-append links (x ∷ [])))
          ∙ ap (λ r. Some (link_in r)) (get_or-append_seam links x [] x))
      | inr e ↦
          (let same : place_of n new ≡ place_of n old = changed ∙ ap (λ b. cond b (Some (length links)) (place_of n old)) e in
          rw e (ap (λ o. o >>= λ p. option_map link_in (slice_get (links ++ x ∷ []) p)) same ∙ kept_before old links x n placed))
    ]

pub placed_more : (old new : List (ℕ × ℕ)) (links : List LogRecord) (x : LogRecord) (lsn n place : ℕ) → ((p : ℕ) → place_of n old ≡ Some p → p < length links) → place_of n new ≡ cond (eqb lsn n) (Some (length links)) (place_of n old)
    → place_of n new ≡ Some place → place < length (links ++ x ∷ [])
placed_more old new links x lsn n place placed changed there =
    elim (cases_Bool (eqb lsn n)) [
      | inl e ↦
          (let is : length links ≡ place = same_Some (length links) place (sym (changed ∙ ap (λ b. cond b (Some (length links)) (place_of n old)) e) ∙ there) in
          omega (arith, is, length-append links (x ∷ [])))
      | inr e ↦
          (let before = placed place (sym (changed ∙ ap (λ b. cond b (Some (length links)) (place_of n old)) e) ∙ there) in
          omega (arith, before, length-append links (x ∷ [])))
    ]

-- the log has as many records as the count says
module _ (base count : ℕ) (places : List (ℕ × ℕ)) (links : List LogRecord) where
  pub gathered_last : last_lsn (history (gathered_log base count places links)) ≡ base + count
  gathered_last = size_of_log (gathered_log base count places links) ∙ ap (λ n. base + n) (length-map-range_with_len (λ n. unwrap_or (kept_at places links n) CheckpointBegin) (suc base) count)

  pub gathered_base : base_lsn (history (gathered_log base count places links)) ≡ base
  gathered_base = base_of_log (gathered_log base count places links)

  pub gathered_length : length (gathered_log base count places links).records ≡ count
  gathered_length = length-map-range_with_len (λ n. unwrap_or (kept_at places links n) CheckpointBegin) (suc base) count

  pub gathered_at : (lsn : ℕ) → base < lsn → lsn ≤ base + count → record_at (history (gathered_log base count places links)) lsn ≡ Some (unwrap_or (kept_at places links lsn) CheckpointBegin)
  gathered_at lsn from to =
      let i = lsn - suc base in
      let log = gathered_log base count places links in
      ap (record_at (history log)) (omega (arith, from))
      ∙ record_item log i CheckpointBegin (omega (arith, gathered_length, from, to))
      ∙ ap (λ (r : LogRecord). Some r) (get_or-map-range_with_len (λ n. unwrap_or (kept_at places links n) CheckpointBegin) (suc base) count i lsn CheckpointBegin (omega (arith, from, to)) (omega (arith, from)))

  pub gathered_none : (lsn : ℕ) → (lsn ≤ base) → record_at (history (gathered_log base count places links)) lsn ≡ None
  gathered_none lsn le = record_none (history (gathered_log base count places links)) lsn (inl (omega (arith, le, gathered_base)))

  pub gathered_past : (lsn : ℕ) → base + count < lsn → record_at (history (gathered_log base count places links)) lsn ≡ None
  gathered_past lsn lt = record_none (history (gathered_log base count places links)) lsn (inr (omega (arith, lt, gathered_last)))

-- one more record is kept
pub gathered_more : (base count lsn n : ℕ) (old new : List (ℕ × ℕ)) (links : List LogRecord) (x : LogRecord) → base < lsn → lsn ≤ base + count
    → kept_at new (links ++ x ∷ []) n ≡ cond (eqb lsn n) (Some (link_in x)) (kept_at old links n)
    → record_at (history (gathered_log base count new (links ++ x ∷ []))) n ≡ cond (eqb lsn n) (Some (link_in x)) (record_at (history (gathered_log base count old links)) n)
gathered_more base count lsn n old new links x from to kept =
    elim (cases_lt base n) [
      | inl above ↦
          elim (cases_lt (base + count) n) [
            | inl past ↦ rw (ne_eqb lsn n (λ e. omega (arith, e, to, past))) (gathered_past base count new (links ++ x ∷ []) n past ∙ sym (gathered_past base count old links n past))
            | inr within ↦
                gathered_at base count new (links ++ x ∷ []) n above within ∙ ap (λ o. Some (unwrap_or o CheckpointBegin)) kept
                ∙ elim (cases_Bool (eqb lsn n)) [
                  | inl e ↦ rw e refl
                  | inr e ↦ rw e (sym (gathered_at base count old links n above within))
                ]
          ]
      | inr below ↦ rw (ne_eqb lsn n (λ e. omega (arith, e, from, below))) (gathered_none base count new (links ++ x ∷ []) n below ∙ sym (gathered_none base count old links n below))
    ]

-- a link at no place changes nothing
pub gathered_same : (base count : ℕ) (places : List (ℕ × ℕ)) (links : List LogRecord) (x : LogRecord) → ((n place : ℕ) → place_of n places ≡ Some place → place < length links)
    → gathered_log base count places (links ++ x ∷ []) ≡ gathered_log base count places links
gathered_same base count places links x placed =
    let made : (ℕ → LogRecord) → LogContent = λ each. record { begins = Version2 base; records = map each (range_with_len (suc base) count) } in
    ap made (fun_ext (λ n. ap (λ o. unwrap_or o CheckpointBegin) (kept_before places links x n (placed n))))

-- none is kept at first
pub none_kept : (base count lsn : ℕ) (places : List (ℕ × ℕ)) (links : List LogRecord) → places ≡ [] → IsPassedOver (record_at (history (gathered_log base count places links)) lsn)
none_kept base count lsn places links none =
    elim (cases_lt base lsn) [
      | inl above ↦
          elim (cases_lt (base + count) lsn) [
            | inl past ↦ subst IsPassedOver (sym (gathered_past base count places links lsn past)) tt
            | inr within ↦
                subst IsPassedOver
                (sym (gathered_at base count places links lsn above within ∙ ap (λ o. Some (unwrap_or o CheckpointBegin)) (kept_nowhere places links lsn (ap (place_of lsn) none)))) tt
          ]
      | inr below ↦ subst IsPassedOver (sym (gathered_none base count places links lsn below)) tt
    ]
