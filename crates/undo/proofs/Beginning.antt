-- A rollback at its start: the losers are resolved one after the other.
use Rattle.std.specs.Prelude.{All, filter, ⊤}
use Rattle.std.proofs.Common.{ℕ, suc, ◌≡◌, ◌≢◌, ◌+◌, ◌⊎◌, Bool, true, false, cond, List, [], ◌∷◌, ◌++◌, append-nil, length, map, Option, Some, None, refl, sym, ap, ap₂, ◌∙◌, subst, inl, inr, arith, eq-eqb, ne_eqb, eqb-true, eqb, ltb, zero, ◌<◌, ◌≤◌}
use Rattle.std.proofs.lemmas.Bool.{cases_Bool, cases_eq, cond_both, ltb-true, ltb-false, false≢true, or_cases, or_parts, or_left, or_right, both_ways}
use Rattle.std.proofs.lemmas.List.Elements.{All-nil, All-cons}
use Rattle.page.specs.declared.fault.Fault.{Fault}
use Rattle.page.specs.declared.fault.Fault.TheVariants.{NoResource, BrokenChain}
use Rattle.log_laws.specs.Records.{TableEntry, tx_in, LogRecord, Update, End, History, last_lsn, record_at, first}
use Rattle.log_laws.specs.Hops.{hops}
use Rattle.log_laws.specs.Tail.{Action, Finish, tx_for, record_for, records_for, is_among, is_empty}
use Rattle.log_laws.specs.Store.{NamesPages}
use Rattle.log_laws.specs.Undo.{entry_for, walk_of, last_in}
use Rattle.log_laws.proofs.Actions.{AllFor}
use Rattle.undo.specs.declared.losers.Loser.{Loser}
use Rattle.undo.specs.Undone.{EndsBadly, last_met, lowest, UndoFault}
use Rattle.undo.specs.Turns.{Waiting}
use Rattle.undo.specs.Rollback.{AreOthers, walk_from, WalkFault, Ends, Stays, Resolved, Waits, IsDone, IsWaiting, undos, RollbackInvariant}
use Rattle.undo.proofs.Begun.{met_by, last_by, meets_nothing, end_of, AreEnds, Begun}
use Rattle.undo.proofs.Lowest.{lowest_most}
use Rattle.undo.proofs.Rolling.{update_within, last_within}
use Rattle.log_laws.proofs.Histories.{first_all, record_within}
use Rattle.wal.proofs.Entries.{AreDistinct, Rise, entry_own, none_for}

-- WHAT IS WRITTEN OF TWO LISTS
after : (ℕ → ℕ) → ℕ → List Action → ℕ → ℕ
after f n [] = f
after f n (a ∷ actions) = after (λ t. cond (eqb (tx_for a) t) n (f t)) (suc n) actions

records_for-append : (f : ℕ → ℕ) (n : ℕ) (xs ys : List Action) → records_for f n (xs ++ ys) ≡ records_for f n xs ++ records_for (after f n xs) (n + length xs) ys
unfolding after
records_for-append f n [] ys = ap (λ m. records_for f m ys) (omega arith)
records_for-append f n (a ∷ xs) ys =
    ap (λ rs. record_for f a ∷ rs)
    (records_for-append (λ t. cond (eqb (tx_for a) t) n (f t)) (suc n) xs ys
    ∙ ap (λ m. records_for (λ t. cond (eqb (tx_for a) t) n (f t)) (suc n) xs ++ records_for (after (λ t. cond (eqb (tx_for a) t) n (f t)) (suc n) xs) m ys) (omega arith))

length-records_for : (f : ℕ → ℕ) (n : ℕ) (xs : List Action) → length (records_for f n xs) ≡ length xs
length-records_for f n [] = refl
length-records_for f n (a ∷ xs) = ap suc (length-records_for (λ t. cond (eqb (tx_for a) t) n (f t)) (suc n) xs)

after_other : (f : ℕ → ℕ) (n : ℕ) (xs : List Action) (t : ℕ) → AllFor (λ x. eqb x t ≡ false) xs → after f n xs t ≡ f t
unfolding after
after_other f n [] t h = refl
after_other f n (a ∷ xs) t h =
    after_other (λ x. cond (eqb (tx_for a) x) n (f x)) (suc n) xs t h.1 ∙ ap (λ b. cond b n (f t)) h.0

-- THE ENDS THAT COME FIRST
abbrev EachEntry : (TableEntry → Type 0) → List TableEntry → Type 0
EachEntry P [] = ⊤
EachEntry P (e ∷ es) = P e × EachEntry P es

EachEntry-more : (P Q : TableEntry → Type 0) (es : List TableEntry) → ((e : TableEntry) → P e → Q e) → EachEntry P es → EachEntry Q es
EachEntry-more P Q [] h a = tt
EachEntry-more P Q (e ∷ es) h a = (h e a.0, EachEntry-more P Q es h a.1)

EachEntry-both : (P Q : TableEntry → Type 0) (es : List TableEntry) → EachEntry P es → EachEntry Q es → EachEntry (λ e. P e × Q e) es
EachEntry-both P Q [] a b = tt
EachEntry-both P Q (e ∷ es) a b = ((a.0, b.0), EachEntry-both P Q es a.1 b.1)

-- each entry is of another transaction than one that has no entry
of_another : (t : ℕ) (es : List TableEntry) → is_among t (map tx_in es) ≡ false → EachEntry (λ e. eqb t e.tx ≡ false) es
of_another t [] h = tt
of_another t (e ∷ es) h = (let (a, b) = or_parts (eqb t e.tx) (is_among t (map tx_in es)) h in (a, of_another t es b))

own_entries : (es : List TableEntry) → AreDistinct (map tx_in es) → EachEntry (λ e. entry_for e.tx es ≡ Some e) es
own_entries [] d = tt
own_entries (x ∷ es) d = (
  ap (λ b. cond b (Some x) (entry_for x.tx es)) (eq-eqb x.tx x.tx refl),
  EachEntry-more (λ e. (eqb x.tx e.tx ≡ false) × (entry_for e.tx es ≡ Some e)) (λ e. entry_for e.tx (x ∷ es) ≡ Some e) es
      (λ e h. ap (λ b. cond b (Some x) (entry_for e.tx es)) h.0 ∙ h.1)
      (EachEntry-both (λ e. eqb x.tx e.tx ≡ false) (λ e. entry_for e.tx es ≡ Some e) es (of_another x.tx es d.0) (own_entries es d.1)),
)

ends_are : (f : ℕ → ℕ) (n : ℕ) (p : ℕ → Bool) (q : TableEntry → Bool) (es : List TableEntry) → AreDistinct (map tx_in es) → EachEntry (λ e. (p e.tx ≡ q e) × (f e.tx ≡ e.last)) es
    → records_for f n (map Finish (filter p (map tx_in es))) ≡ map end_of (filter q es)
ends_are f n p q [] d h = refl
ends_are f n p q (x ∷ es) d h =
    elim (cases_Bool (q x)) [
      | inl e ↦
          (let g : ℕ → ℕ = λ t. cond (eqb x.tx t) n (f t) in
          let rest : EachEntry (λ e. (p e.tx ≡ q e) × (g e.tx ≡ e.last)) es =
          EachEntry-more (λ e. (eqb x.tx e.tx ≡ false) × ((p e.tx ≡ q e) × (f e.tx ≡ e.last))) (λ e. (p e.tx ≡ q e) × (g e.tx ≡ e.last)) es
          (λ y k. (k.1.0, ap (λ b. cond b n (f y.tx)) k.0 ∙ k.1.1))
          (EachEntry-both (λ e. eqb x.tx e.tx ≡ false) (λ e. (p e.tx ≡ q e) × (f e.tx ≡ e.last)) es (of_another x.tx es d.0) h.1) in
          let a : filter p (map tx_in (x ∷ es)) ≡ x.tx ∷ filter p (map tx_in es) = ap (λ b. cond b (x.tx ∷ filter p (map tx_in es)) (filter p (map tx_in es))) (h.0.0 ∙ e) in
          let b : filter q (x ∷ es) ≡ x ∷ filter q es = rw e in
          ap (λ ts. records_for f n (map Finish ts)) a
          ∙ ap₂ (λ m rs. End (record { tx = x.tx; prev = m }) ∷ rs) h.0.1 (ends_are g (suc n) p q es d.1 rest)
          ∙ sym (ap (map end_of) b))
      | inr e ↦
          (let a : filter p (map tx_in (x ∷ es)) ≡ filter p (map tx_in es) = ap (λ b. cond b (x.tx ∷ filter p (map tx_in es)) (filter p (map tx_in es))) (h.0.0 ∙ e) in
          let b : filter q (x ∷ es) ≡ filter q es = rw e in
          ap (λ ts. records_for f n (map Finish ts)) a ∙ ends_are f n p q es d.1 h.1 ∙ sym (ap (map end_of) b))
    ]

idle_others : (p : ℕ → Bool) (t : ℕ) → p t ≡ false → (ts : List ℕ) → AllFor (λ x. eqb x t ≡ false) (map Finish (filter p ts))
idle_others p t h [] = tt
idle_others p t h (x ∷ ts) =
    cond_both (p x) (x ∷ filter p ts) (filter p ts) (λ xs. AllFor (λ y. eqb y t ≡ false) (map Finish xs))
    (λ e. (ne_eqb x t (λ i. both_ways (p t) h (ap p (sym i) ∙ e)), idle_others p t h ts))
    (λ _. idle_others p t h ts)

-- ALL LOSERS HAVE BEEN RESOLVED
pub begun_rolls : (log : History) (losers : List TableEntry) (at : Waiting) (appended : List LogRecord) → AreDistinct (map tx_in losers) → Begun log losers losers at appended
    → (count : ℕ) → RollbackInvariant log losers count at appended
begun_rolls log losers at appended distinct b count = record {
  left = met_by log losers;
  last = after (last_by losers) n0 idles;
  whole =
      ap₂ (λ rs m. rs ++ records_for (after (last_by losers) n0 idles) m (undos (met_by log losers) log)) (b.ends ∙ sym ends) len
      ∙ sym (records_for-append (last_by losers) n0 idles (undos (met_by log losers) log));
  waits = λ n l e.
      (let w = b.waits n l e in
      let some : is_empty (met_by log losers l.tx) ≡ false = ap is_empty w.left_is in
      record {
        is_update = w.is_update;
        left_is = w.left_is;
        last_is = after_other (last_by losers) n0 idles l.tx (idle_others (λ t. is_empty (met_by log losers t)) l.tx some (map tx_in losers)) ∙ w.last_is;
        ends = w.ends;
        met = w.met;
      });
  each = λ t. by_entry t (entry_for t losers) refl;
  met = λ t n h. inl h;
}
  where
    n0 : ℕ
    n0 = suc (last_lsn log)

    idles : List Action
    idles = map Finish (filter (λ t. is_empty (met_by log losers t)) (map tx_in losers))

    ends : records_for (last_by losers) n0 idles ≡ map end_of (filter (meets_nothing log) losers)
    ends =
        ends_are (last_by losers) n0 (λ t. is_empty (met_by log losers t)) (meets_nothing log) losers distinct
        (EachEntry-more (λ e. entry_for e.tx losers ≡ Some e) (λ e. (is_empty (met_by log losers e.tx) ≡ meets_nothing log e) × (last_by losers e.tx ≡ e.last)) losers
        (λ e k. (ap (λ o. is_empty (walk_of log o).met) k, ap last_in k)) (own_entries losers distinct))

    len : suc (last_lsn log + length appended) ≡ n0 + length idles
    len = (let e : length appended ≡ length idles = ap length (b.ends ∙ sym ends) ∙ length-records_for (last_by losers) n0 idles in ap (λ k. suc (last_lsn log + k)) e ∙ omega arith)

    by_entry : (t : ℕ) (o : Option TableEntry) → entry_for t losers ≡ o → IsDone log losers (met_by log losers) t ⊎ IsWaiting at t
    by_entry t None e = inl (record { nothing = ap (λ x. (walk_of log x).met) e; ends = ap (λ x. (walk_of log x).ends) e })
    by_entry t (Some x) e = b.each t (entry_own t x losers e).1

-- ONE MORE IS RESOLVED
ends_more : (log : History) (es : List TableEntry) (e : TableEntry) → map end_of (filter (meets_nothing log) (es ++ e ∷ [])) ≡ map end_of (filter (meets_nothing log) es) ++ cond (meets_nothing log e) (end_of e ∷ []) []
ends_more log [] e = by_test (meets_nothing log e)
  where
    by_test : (c : Bool) → map end_of (cond c (e ∷ []) []) ≡ cond c (end_of e ∷ []) []
    by_test true = refl
    by_test false = refl
ends_more log (x ∷ es) e =
    elim (cases_Bool (meets_nothing log x)) [
      | inl i ↦ rw i (ap (λ rs. end_of x ∷ rs) (ends_more log es e))
      | inr i ↦ rw i (ends_more log es e)
    ]

among_longer : (t : ℕ) (es : List TableEntry) (e : TableEntry) → is_among t (map tx_in es) ≡ true → is_among t (map tx_in (es ++ e ∷ [])) ≡ true
among_longer t [] e h = absurd (false≢true h)
among_longer t (x ∷ es) e h =
    elim (or_cases (eqb t x.tx) (is_among t (map tx_in es)) h) [
      | inl i ↦ or_left (eqb t x.tx) (is_among t (map tx_in (es ++ e ∷ []))) i
      | inr i ↦ or_right (eqb t x.tx) (is_among t (map tx_in (es ++ e ∷ []))) (among_longer t es e i)
    ]

among_last : (t : ℕ) (es : List TableEntry) (e : TableEntry) → t ≡ e.tx → is_among t (map tx_in (es ++ e ∷ [])) ≡ true
among_last t [] e i = or_left (eqb t e.tx) false (eq-eqb t e.tx i)
among_last t (x ∷ es) e i = or_right (eqb t x.tx) (is_among t (map tx_in (es ++ e ∷ []))) (among_last t es e i)

among_more : (t : ℕ) (es : List TableEntry) (e : TableEntry) → is_among t (map tx_in (es ++ e ∷ [])) ≡ true → (is_among t (map tx_in es) ≡ true) ⊎ (t ≡ e.tx)
among_more t [] e h =
    elim (or_cases (eqb t e.tx) false h) [
      | inl i ↦ inr (eqb-true t e.tx i)
      | inr i ↦ absurd (false≢true i)
    ]
among_more t (x ∷ es) e h =
    elim (or_cases (eqb t x.tx) (is_among t (map tx_in (es ++ e ∷ []))) h) [
      | inl i ↦ inl (or_left (eqb t x.tx) (is_among t (map tx_in es)) i)
      | inr i ↦
          elim (among_more t es e i) [
            | inl j ↦ inl (or_right (eqb t x.tx) (is_among t (map tx_in es)) j)
            | inr j ↦ inr j
          ]
    ]

module _ (log : History) (losers done : List TableEntry) (at new : Waiting) (appended after_ : List LogRecord) (end : ℕ) (at_end : end ≡ last_lsn log + 1) (e : TableEntry) (own : entry_for e.tx losers ≡ Some e)
    (b : Begun log losers done at appended) where
  abbrev loser : Loser
  loser = record { tx = e.tx; last = e.last }

  walk_is : walk_from log e.tx end e.undo_next ≡ walk_of log (entry_for e.tx losers)
  walk_is =
      ap (λ n. hops e.tx (first n log) e.undo_next) (omega (arith, at_end)) ∙ ap (λ h. hops e.tx h e.undo_next) (first_all (last_lsn log) log (omega arith))
      ∙ sym (ap (walk_of log) own)

  own_walk : (hops e.tx log e.undo_next).met ≡ met_by log losers e.tx
  own_walk = sym (ap (λ o. (walk_of log o).met) own)

  -- those of the losers resolved before that walk badly have met an update
  module _ (earlier : (t : ℕ) (x : TableEntry) → t < e.tx → entry_for t losers ≡ Some x → is_among t (map tx_in done) ≡ true) where
    met_before : (t : ℕ) → t < e.tx → EndsBadly log losers t → last_met log losers t ≤ last_lsn log
    met_before t lt bad = by_entry (entry_for t losers) refl
      where
        by_entry : (o : Option TableEntry) → entry_for t losers ≡ o → last_met log losers t ≤ last_lsn log
        by_entry None none = absurd (bad (ap (λ x. (walk_of log x).ends) none))
        by_entry (Some x) some =
            elim (b.each t (earlier t x lt some)) [
              | inl d ↦ absurd (bad d.ends)
              | inr p ↦
                  (let w = b.waits p.update_lsn p.loser p.there in
                  subst (λ k. last_met log losers k ≤ last_lsn log) p.own
                  (omega (arith, last_within log losers (met_by log losers) (last_by losers) p.update_lsn p.loser w, update_within log p.loser.tx p.update_lsn w.is_update)))
            ]

    pub broken_start : (count : ℕ) (f : Fault) → WalkFault (walk_from log e.tx end e.undo_next) f → UndoFault log losers count f
    broken_start count NoResource h = tt
    broken_start count (BrokenChain n) h =
        let walk = sym walk_is ∙ h.1 in
        let none_met : last_met log losers e.tx ≡ suc (last_lsn log) = ap (λ w. lowest (suc (last_lsn log)) w.met) walk in
        record {
          loser = e.tx;
          ends = ap (λ w. w.ends) walk;
          bad = h.0;
          behind = λ lsn u le m. absurd (omega (arith, record_within log lsn (Update u) m.found, le, none_met));
          first = λ t bad.
              elim (cases_Bool (ltb t e.tx)) [
                | inl i ↦ inl (omega (arith, met_before t (ltb-true t e.tx i) bad, none_met))
                | inr i ↦
                    elim (cases_eq (last_met log losers t) (suc (last_lsn log))) [
                      | inl j ↦ inr (j ∙ sym none_met, omega (arith, ltb-false t e.tx i))
                      | inr j ↦ inl (omega (arith, lowest_most (suc (last_lsn log)) (walk_of log (entry_for t losers)).met, j, none_met))
                    ]
              ];
        }
    broken_start count _ h = absurd h

  ended_more : Ends log loser end e.undo_next at new appended after_ → Begun log losers (done ++ e ∷ []) new after_
  ended_more s = record {
    ends =
        (let i : meets_nothing log e ≡ true = ap is_empty own_walk ∙ ap (λ w. is_empty w.met) (sym walk_is ∙ s.nothing) in
        s.appended ∙ ap (λ rs. rs ++ end_of e ∷ []) b.ends
        ∙ sym (ends_more log done e ∙ ap (λ c. map end_of (filter (meets_nothing log) done) ++ cond c (end_of e ∷ []) []) i));
    waits = λ n l there. b.waits n l (sym (s.waiting n) ∙ there);
    known = λ n l there. among_longer l.tx done e (b.known n l (sym (s.waiting n) ∙ there));
    each = λ t h.
        elim (among_more t done e h) [
          | inl i ↦
              elim (b.each t i) [
                | inl d ↦ inl d
                | inr p ↦ inr (record { update_lsn = p.update_lsn; loser = p.loser; there = s.waiting p.update_lsn ∙ p.there; own = p.own })
              ]
          | inr i ↦
              inl (record {
                nothing = ap (met_by log losers) i ∙ ap (λ w. w.met) (sym walk_is ∙ s.nothing);
                ends = ap (λ x. (walk_of log (entry_for x losers)).ends) i ∙ ap (λ w. w.ends) (sym walk_is ∙ s.nothing);
              })
        ];
  }

  stayed_more : Stays log loser end e.undo_next at new appended after_ → Begun log losers (done ++ e ∷ []) new after_
  stayed_more s = record {
    ends =
        (let i : meets_nothing log e ≡ false = ap is_empty own_walk ∙ ap (λ w. is_empty w.met) (sym walk_is ∙ s.meets.goes_on) in
        s.appended ∙ b.ends ∙ sym (append-nil (map end_of (filter (meets_nothing log) done)))
        ∙ sym (ends_more log done e ∙ ap (λ c. map end_of (filter (meets_nothing log) done) ++ cond c (end_of e ∷ []) []) i));
    waits = λ n l there.
        elim (cases_eq n s.update_lsn) [
          | inl i ↦
              (let f : Some loser ≡ Some l = sym here ∙ ap new (sym i) ∙ there in
              let g : ◌≡◌ {A = Loser} loser l = cc in
              subst (λ k. Waits log losers (met_by log losers) (last_by losers) k l) (sym i) (subst (λ x. Waits log losers (met_by log losers) (last_by losers) s.update_lsn x) g waits_here))
          | inr d ↦ b.waits n l (sym (elsewhere n d) ∙ there)
        ];
    known = λ n l there.
        elim (cases_eq n s.update_lsn) [
          | inl i ↦
              (let f : Some loser ≡ Some l = sym here ∙ ap new (sym i) ∙ there in
              let g : ◌≡◌ {A = Loser} loser l = cc in
              among_last l.tx done e (sym (ap (λ x. x.tx) g)))
          | inr d ↦ among_longer l.tx done e (b.known n l (sym (elsewhere n d) ∙ there))
        ];
    each = λ t h.
        elim (among_more t done e h) [
          | inl i ↦
              elim (b.each t i) [
                | inl d ↦ inl d
                | inr p ↦
                    elim (cases_eq p.update_lsn s.update_lsn) [
                      | inl j ↦
                          (let w = b.waits p.update_lsn p.loser p.there in
                          let f : record_at log p.update_lsn ≡ Some (Update w.is_update.update) = w.is_update.found in
                          let g : record_at log p.update_lsn ≡ Some (Update s.meets.is_update.update) = ap (record_at log) j ∙ s.meets.is_update.found in
                          let k : w.is_update.update ≡ s.meets.is_update.update = cc in
                          inr (record { update_lsn = s.update_lsn; loser = loser; there = here; own = sym s.meets.is_update.own ∙ ap (λ x. x.tx) (sym k) ∙ w.is_update.own ∙ p.own }))
                      | inr j ↦ inr (record { update_lsn = p.update_lsn; loser = p.loser; there = elsewhere p.update_lsn j ∙ p.there; own = p.own })
                    ]
              ]
          | inr i ↦ inr (record { update_lsn = s.update_lsn; loser = loser; there = here; own = sym i })
        ];
  }
    where
      here : new s.update_lsn ≡ Some loser
      here = s.waiting s.update_lsn ∙ ap (λ c. cond c (Some loser) (at s.update_lsn)) (eq-eqb s.update_lsn s.update_lsn refl)

      elsewhere : (n : ℕ) → n ≢ s.update_lsn → new n ≡ at n
      elsewhere n d = s.waiting n ∙ ap (λ c. cond c (Some loser) (at n)) (ne_eqb s.update_lsn n (λ i. d (sym i)))

      waits_here : Waits log losers (met_by log losers) (last_by losers) s.update_lsn loser
      waits_here = record {
        is_update = s.meets.is_update;
        left_is = ap (λ w. w.met) (sym walk_is ∙ s.meets.goes_on);
        last_is = ap last_in own;
        ends = ap (λ w. w.ends) (sym s.meets.goes_on ∙ walk_is);
        met = λ n h. h;
      }

  pub begun_more : Resolved log loser end e.undo_next at new appended after_ → Begun log losers (done ++ e ∷ []) new after_
  begun_more resolved = elim resolved [ inl s ↦ ended_more s | inr s ↦ stayed_more s ]

-- in a table with ascending numbers, a smaller number comes earlier
pub stands_earlier : (bound : ℕ) (done rest : List TableEntry) (e : TableEntry) → Rise bound (done ++ e ∷ rest)
    → (t : ℕ) (x : TableEntry) → t < e.tx → entry_for t (done ++ e ∷ rest) ≡ Some x → is_among t (map tx_in done) ≡ true
stands_earlier bound [] rest e rises t x lt some =
    absurd (let f : None ≡ Some x = sym (none_for e.tx t (e ∷ rest) (omega arith, rises.1) lt) ∙ some in cc)
stands_earlier bound (d ∷ done) rest e rises t x lt some =
    elim (cases_eq d.tx t) [
      | inl i ↦ or_left (eqb t d.tx) (is_among t (map tx_in done)) (eq-eqb t d.tx (sym i))
      | inr i ↦
          or_right (eqb t d.tx) (is_among t (map tx_in done))
          (stands_earlier (suc d.tx) done rest e rises.1 t x lt (sym (ap (λ c. cond c (Some d) (entry_for t (done ++ e ∷ rest))) (ne_eqb d.tx t i)) ∙ some))
    ]

-- those that come earlier have smaller numbers
earlier_below : (bound : ℕ) (done rest : List TableEntry) (e : TableEntry) → Rise bound (done ++ e ∷ rest) → (t : ℕ) → is_among t (map tx_in done) ≡ true → (bound ≤ t) × (t < e.tx)
earlier_below bound [] rest e rises t h = absurd (false≢true h)
earlier_below bound (d ∷ done) rest e rises t h =
    elim (or_cases (eqb t d.tx) (is_among t (map tx_in done)) h) [
      | inl i ↦ (omega (arith, eqb-true t d.tx i, rises.0), omega (arith, eqb-true t d.tx i, rise_least (suc d.tx) done rest e rises.1))
      | inr i ↦ (let r = earlier_below (suc d.tx) done rest e rises.1 t i in (omega (arith, r.0, rises.0), r.1))
    ]
  where
    rise_least : (low : ℕ) (front back : List TableEntry) (x : TableEntry) → Rise low (front ++ x ∷ back) → low ≤ x.tx
    rise_least low [] back x r = r.0
    rise_least low (f ∷ front) back x r = omega (arith, r.0, rise_least (suc f.tx) front back x r.1)

-- so those that wait are others than the next one
pub begun_others : (log : History) (losers done rest : List TableEntry) (e : TableEntry) (at : Waiting) (appended : List LogRecord) → Begun log losers done at appended → Rise 0 (done ++ e ∷ rest) → AreOthers e.tx at
begun_others log losers done rest e at appended b rises n l there same = omega (arith, same, (earlier_below 0 done rest e rises l.tx (b.known n l there)).1)

-- ONLY ENDS
pub are_ends : (es : List TableEntry) → AreEnds (map end_of es)
are_ends [] = tt
are_ends (e ∷ es) = are_ends es

pub ends_name_no_page : (count : ℕ) (rs : List LogRecord) → AreEnds rs → All (NamesPages count) rs
ends_name_no_page count [] h = All-nil (NamesPages count)
ends_name_no_page count (End s ∷ rs) h = All-cons (NamesPages count) (End s) rs tt (ends_name_no_page count rs h)
ends_name_no_page count (_ ∷ rs) h = absurd h

-- if 0 has no entry, a transaction with an entry is not 0
pub some_tx : (t : ℕ) (e : TableEntry) (losers : List TableEntry) → entry_for 0 losers ≡ None → entry_for t losers ≡ Some e → 0 < t
some_tx zero e losers none some = absurd (let f : None ≡ Some e = sym none ∙ some in cc)
some_tx (suc t) e losers none some = omega arith
