-- A log's tail has at most twice as many bytes as its records: a CLR and an end after it take at most twice the bytes of the update that is
-- undone, and an end by itself takes at most the bytes of any record of its transaction.
use Rattle.std.proofs.Common.{ℕ, suc, zero, ◌≡◌, ◌≢◌, ◌+◌, ◌*◌, ◌≤◌, Bool, true, false, cond, ◌&&◌, ◌||◌, eqb, List, [], ◌∷◌, ◌++◌, Some, None, length, map, refl, sym, ap, ◌∙◌, inl, inr, arith, length-append, ne_eqb, eq-eqb}
use Rattle.std.specs.Prelude.{filter, flat_map}
use Rattle.std.specs.Int.{w64, to_be_bytes}
use Rattle.std.proofs.lemmas.Bool.{cases_Bool, cases_eq, false≢true}
use Rattle.page.specs.Image.{Image}
use Rattle.log_laws.specs.Records.{UpdateRecord, CompensationRecord, PlainRecord, LogRecord, Update, Compensation, Commit, Abort, End, Prepare, CheckpointBegin, CheckpointEnd, History, start, ◌▸◌, ◌▸▸◌, last_lsn, LogContent, history, lsn_before}
use Rattle.log_laws.specs.Meaning.{owner, is_owned_by, is_of, has, is_loser, last_of}
use Rattle.wal.specs.Spelling.{image, plain, update, compensation, fields, frame}
use Rattle.wal.specs.Reads.{spellings}
use Rattle.log_laws.specs.Tail.{Action, Finish, Undo, tx_for, record_for, records_for, is_empty, is_among, is_lowest, updates_where, is_stacked, undo_of, numbers_from, above_all, losers_of, left_of, left_to_do, tail_of}
use Rattle.log_laws.proofs.Filters.{numbers_same}
use Rattle.log_laws.proofs.Steps.{loser_has}

-- BYTES
-- how many bytes the frame of a record takes
size : LogRecord → ℕ
size r = 13 + length (fields r)

frame_size : (r : LogRecord) (lsn : ℕ) → length (frame r lsn) ≡ size r
unfolding size
frame_size r lsn = omega (arith, length-append (to_be_bytes w64 lsn) (fields r))

sizes : List LogRecord → ℕ
sizes [] = 0
sizes (r ∷ rs) = size r + sizes rs

spellings_size : (lsn : ℕ) (rs : List LogRecord) → length (spellings lsn rs) ≡ sizes rs
unfolding sizes
spellings_size lsn [] = refl
spellings_size lsn (r ∷ rs) = omega (arith, length-append (frame r lsn) (spellings (lsn + 1) rs), frame_size r lsn, spellings_size (lsn + 1) rs)

-- of all records of a log
bytes : History → ℕ
bytes (start _) = 0
bytes (log ▸ r) = bytes log + size r

bytes_after : (log : History) (rs : List LogRecord) → bytes (log ▸▸ rs) ≡ bytes log + sizes rs
unfolding bytes sizes
bytes_after log [] = omega arith
bytes_after log (r ∷ rs) = omega (arith, bytes_after (log ▸ r) rs)

-- of some kinds
some_image : (i : Image) → 1 ≤ length (image i)
some_image None = omega arith
some_image (Some value) = omega arith

plain_size : (r : PlainRecord) → length (plain r) ≡ 12
plain_size r = refl

update_size : (u : UpdateRecord) → length (update u) ≡ 17 + length (image u.before) + length (image u.after)
update_size u = omega (arith, length-append (image u.before) (image u.after))

compensation_size : (c : CompensationRecord) → length (compensation c) ≡ 25 + length (image c.image)
compensation_size c = omega arith

-- any record of a transaction takes at least as many bytes as an end
size_of_owned : (t : ℕ) (r : LogRecord) → is_of t r ≡ true → 25 ≤ size r
unfolding size
size_of_owned t (Update u) e = omega (arith, update_size u, some_image u.before, some_image u.after)
size_of_owned t (Compensation c) e = omega (arith, compensation_size c)
size_of_owned t (Commit r) e = omega (arith, plain_size r)
size_of_owned t (Abort r) e = omega (arith, plain_size r)
size_of_owned t (End r) e = omega (arith, plain_size r)
size_of_owned t (Prepare r) e = omega (arith, plain_size r)
size_of_owned t CheckpointBegin e = absurd (false≢true e)
size_of_owned t (CheckpointEnd begin transactions dirty) e = absurd (false≢true e)

-- of what is to be done
work : Action → ℕ
work (Finish t) = 25
work (Undo u) = 38 + length (image u.before)

works : List Action → ℕ
works [] = 0
works (a ∷ actions) = work a + works actions

work_size : (last : ℕ → ℕ) (a : Action) → size (record_for last a) ≡ work a
unfolding size work
work_size last (Finish t) = omega (arith, plain_size (record { tx = t; prev = last t }))
work_size last (Undo u) = omega (arith, compensation_size (record { tx = u.tx; prev = last u.tx; page = u.page; slot = u.slot; undo_next = u.prev; image = u.before }))

works_size : (last : ℕ → ℕ) (lsn : ℕ) (actions : List Action) → sizes (records_for last lsn actions) ≡ works actions
unfolding sizes works
works_size last lsn [] = refl
works_size last lsn (a ∷ actions) = omega (arith, work_size last a, works_size (λ t. cond (eqb (tx_for a) t) lsn (last t)) (suc lsn) actions)

works_append : (xs ys : List Action) → works (xs ++ ys) ≡ works xs + works ys
unfolding works
works_append [] ys = omega arith
works_append (a ∷ xs) ys = omega (arith, works_append xs ys)

ends_size : (ts : List ℕ) → works (map Finish ts) ≡ 25 * length ts
unfolding works work
ends_size [] = refl
ends_size (t ∷ ts) = omega (arith, ends_size ts)

-- NUMBERS THAT PASS A TEST
none_pass : (p : ℕ → Bool) (xs : List ℕ) → ((x : ℕ) → p x ≡ false) → length (filter p xs) ≡ 0
none_pass p [] h = refl
none_pass p (x ∷ xs) h = rw (h x) (none_pass p xs h)

-- if one more may pass, there is at most one more
one_more : (p q : ℕ → Bool) (n k t : ℕ) → ((x : ℕ) → x ≢ t → q x ≡ p x) → length (filter q (numbers_from n k)) ≤ suc (length (filter p (numbers_from n k)))
one_more p q n zero t h = omega arith
one_more p q n (suc k) t h =
    elim (cases_eq n t) [
      | inl j ↦
          (let same : filter q (numbers_from (suc n) k) ≡ filter p (numbers_from (suc n) k) = numbers_same p q (suc n) k (λ x o. h x (λ z. omega (arith, j, o, z))) in
          let few = ap (λ (xs : List ℕ). length xs) same in
          elim (cases_Bool (q n)) [
            | inl i ↦ elim (cases_Bool (p n)) [ inl l ↦ rw (i, l) (omega (arith, few)) | inr l ↦ rw (i, l) (omega (arith, few)) ]
            | inr i ↦ elim (cases_Bool (p n)) [ inl l ↦ rw (i, l) (omega (arith, few)) | inr l ↦ rw (i, l) (omega (arith, few)) ]
          ])
      | inr j ↦
          (let rest = one_more p q (suc n) k t h in
          let same = h n j in
          elim (cases_Bool (p n)) [
            | inl i ↦ (let f : q n ≡ true = same ∙ i in rw (i, f) (omega (arith, rest)))
            | inr i ↦ (let f : q n ≡ false = same ∙ i in rw (i, f) rest)
          ])
    ]

-- if all that pass the second test pass the third too, at most as many pass the first and second as the first and third
both_pass : (e p r : ℕ → Bool) (xs : List ℕ) → ((t : ℕ) → p t ≡ true → r t ≡ true) → length (filter e (filter p xs)) ≤ length (filter (λ t. e t && r t) xs)
both_pass e p r [] h = omega arith
both_pass e p r (x ∷ xs) h =
    let rest = both_pass e p r xs h in
    elim (cases_Bool (p x)) [
      | inl i ↦
          (let j = h x i in
          elim (cases_Bool (e x)) [
            | inl l ↦ rw (i, j, l) (omega (arith, rest))
            | inr l ↦ rw (i, j, l) rest
          ])
      | inr i ↦ elim (cases_Bool (e x && r x)) [ inl l ↦ rw (i, l) (omega (arith, rest)) | inr l ↦ rw (i, l) rest ]
    ]

-- WHAT IS TO BE DONE, RECORD BY RECORD
module _ (stack : ℕ → List ℕ) (k : ℕ) where
  -- whether a transaction has nothing on its stack, and a record
  idles : History → ℕ → Bool
  idles log t = is_empty (stack t) && has (is_of t) log

  -- the bytes of the CLRs and ends of what is on the stacks, and an end for each such transaction
  due : History → ℕ
  due log = works (flat_map (undo_of stack) (updates_where (is_stacked stack) log)) + 25 * length (filter (idles log) (numbers_from 0 k))

  -- one more record of this transaction, or of none
  idles_more : (log : History) (r : LogRecord) (t : ℕ) → ((x : ℕ) → x ≢ t → is_of x r ≡ false) → length (filter (idles (log ▸ r)) (numbers_from 0 k)) ≤ suc (length (filter (idles log) (numbers_from 0 k)))
  unfolding idles
  idles_more log r t others = one_more (idles log) (idles (log ▸ r)) 0 k t (λ x ne. ap (λ b. is_empty (stack x) && (b || has (is_of x) log)) (others x ne))

  idles_same : (log : History) (r : LogRecord) → ((x : ℕ) → is_empty (stack x) ≡ true → is_of x r ≡ false) → length (filter (idles (log ▸ r)) (numbers_from 0 k)) ≡ length (filter (idles log) (numbers_from 0 k))
  unfolding idles
  idles_same log r none = ap (λ (xs : List ℕ). length xs)
      (numbers_same (idles log) (idles (log ▸ r)) 0 k
      (λ x _. elim (cases_Bool (is_empty (stack x))) [
        | inl i ↦ ap (λ b. is_empty (stack x) && (b || has (is_of x) log)) (none x i)
        | inr i ↦ rw i refl
      ]))

  -- a record of t that is not an update on its stack
  owned : (log : History) (r : LogRecord) (t : ℕ) → owner r ≡ Some t
      → works (flat_map (undo_of stack) (updates_where (is_stacked stack) (log ▸ r))) ≡ works (flat_map (undo_of stack) (updates_where (is_stacked stack) log)) → due (log ▸ r) ≤ due log + 2 * size r
  unfolding due
  owned log r t own same =
      let others : (x : ℕ) → x ≢ t → is_of x r ≡ false = λ x ne. ap (is_owned_by x) own ∙ ne_eqb t x (λ e. ne (sym e)) in
      let here : is_of t r ≡ true = ap (is_owned_by t) own ∙ eq-eqb t t refl in
      omega (arith, same, idles_more log r t others, size_of_owned t r here)

  -- a record of none
  unowned : (log : History) (r : LogRecord) → owner r ≡ None
      → works (flat_map (undo_of stack) (updates_where (is_stacked stack) (log ▸ r))) ≡ works (flat_map (undo_of stack) (updates_where (is_stacked stack) log)) → due (log ▸ r) ≤ due log + 2 * size r
  unfolding due
  unowned log r own same = omega (arith, same, idles_same log r (λ x _. ap (is_owned_by x) own))

  not_empty : (n : ℕ) (xs : List ℕ) → is_among n xs ≡ true → is_empty xs ≡ false
  not_empty n [] e = absurd (false≢true e)
  not_empty n (x ∷ xs) e = refl

  undone_size : (lsn : ℕ) (u : UpdateRecord) → works (undo_of stack (lsn, u)) ≤ 2 * size (Update u)
  unfolding works work size
  undone_size lsn u =
      let sized = update_size u in
      elim (cases_Bool (is_lowest lsn (stack u.tx))) [
        | inl i ↦ rw i (omega (arith, sized, some_image u.before, some_image u.after))
        | inr i ↦ rw i (omega (arith, sized, some_image u.before, some_image u.after))
      ]

  -- an update on its transaction's stack
  stacked : (log : History) (u : UpdateRecord) → is_stacked stack (suc (last_lsn log)) u ≡ true → due (log ▸ Update u) ≤ due log + 2 * size (Update u)
  unfolding due
  stacked log u on =
      let lsn = suc (last_lsn log) in
      let older = updates_where (is_stacked stack) log in
      let more : works (flat_map (undo_of stack) (updates_where (is_stacked stack) (log ▸ Update u))) ≡ works (undo_of stack (lsn, u)) + works (flat_map (undo_of stack) older) =
      ap (λ b. works (flat_map (undo_of stack) (cond b ((lsn, u) ∷ older) older))) on ∙ works_append (undo_of stack (lsn, u)) (flat_map (undo_of stack) older) in
      let busy : (x : ℕ) → is_empty (stack x) ≡ true → is_of x (Update u) ≡ false =
      λ x empty. ne_eqb u.tx x (λ e. false≢true (sym (not_empty lsn (stack u.tx) on) ∙ (ap (λ t. is_empty (stack t)) e ∙ empty))) in
      omega (arith, more, undone_size lsn u, idles_same log (Update u) busy)

  one_record : (log : History) (r : LogRecord) → due (log ▸ r) ≤ due log + 2 * size r
  one_record log (Update u) =
      elim (cases_Bool (is_stacked stack (suc (last_lsn log)) u)) [
        | inl on ↦ stacked log u on
        | inr off ↦ owned log (Update u) u.tx refl (ap (λ b. works (flat_map (undo_of stack) (cond b ((suc (last_lsn log), u) ∷ updates_where (is_stacked stack) log) (updates_where (is_stacked stack) log)))) off)
      ]
  one_record log (Compensation c) = owned log (Compensation c) c.tx refl refl
  one_record log (Commit r) = owned log (Commit r) r.tx refl refl
  one_record log (Abort r) = owned log (Abort r) r.tx refl refl
  one_record log (End r) = owned log (End r) r.tx refl refl
  one_record log (Prepare r) = owned log (Prepare r) r.tx refl refl
  one_record log CheckpointBegin = unowned log CheckpointBegin refl refl
  one_record log (CheckpointEnd begin transactions dirty) = unowned log (CheckpointEnd begin transactions dirty) refl refl

  due_few : (log : History) → due log ≤ 2 * bytes log
  unfolding due idles bytes works
  due_few (start base) = omega (arith, none_pass (idles (start base)) (numbers_from 0 k) (λ x. elim (cases_Bool (is_empty (stack x))) [ inl i ↦ rw i refl | inr i ↦ rw i refl ]))
  due_few (log ▸ r) = omega (arith, one_record log r, due_few log)

-- THE TAIL
pub tail_short : (log : LogContent) (lsn : ℕ) → length (spellings lsn (tail_of log)) ≤ 2 * length (spellings (lsn_before log.begins + 1) log.records)
unfolding due idles bytes
tail_short log lsn =
    let h = history log in
    let stack = left_of h in
    let k = above_all h in
    let idle : ℕ → Bool = λ t. is_empty (stack t) in
    let done = flat_map (undo_of stack) (updates_where (is_stacked stack) h) in
    let parts : works (left_to_do h) ≡ 25 * length (filter idle (losers_of h)) + works done = works_append (map Finish (filter idle (losers_of h))) done ∙ ap (λ n. n + works done) (ends_size (filter idle (losers_of h))) in
    let few = both_pass idle (λ t. is_loser t h) (λ t. has (is_of t) h) (numbers_from 0 k) (λ t l. loser_has t h l) in
    omega (
      arith,
      parts,
      few,
      due_few stack k h,
      spellings_size lsn (tail_of log),
      works_size (λ t. last_of t h) (suc (last_lsn h)) (left_to_do h),
      spellings_size (lsn_before log.begins + 1) log.records,
      bytes_after (start (lsn_before log.begins)) log.records,
    )
