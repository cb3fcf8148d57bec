-- A rollback in progress, after one more update.
use Rattle.std.specs.Prelude.{flat_map, All, map}
use Rattle.std.proofs.Common.{append_assoc, append-nil, length-append, ℕ, suc, ◌≡◌, ◌≢◌, ◌+◌, ◌⊎◌, ◌<◌, ◌≤◌, true, false, cond, List, [], ◌∷◌, ◌++◌, length, Some, None, refl, sym, ap, ap₂, ◌∙◌, subst, inl, inr, arith, eq-eqb, ne_eqb, eqb-true, eqb}
use Rattle.std.proofs.lemmas.List.Elements.{All-push}
use Rattle.std.proofs.lemmas.Bool.{cases_eq, false≢true, or_cases, or_left, or_right, both_ways}
use Rattle.page.specs.declared.page.Page.{Page}
use Rattle.page.specs.declared.fault.Fault.{Fault}
use Rattle.page.specs.declared.fault.Fault.TheVariants.{NoResource, NoSuchPage, BrokenChain}
use Rattle.log_laws.specs.Records.{TableEntry, UpdateRecord, PlainRecord, LogRecord, Update, Compensation, End, History, last_lsn, record_at, base_lsn}
use Rattle.log_laws.specs.Tail.{Action, Finish, Undo, tx_for, record_for, records_for, undo_of, updates_where, is_stacked, is_among, is_empty}
use Rattle.log_laws.specs.Store.{NamesPages}
use Rattle.log_laws.specs.Undo.{entry_for, walk_of, undone_by}
use Rattle.log_laws.proofs.Histories.{record_within, record_above}
use Rattle.log_laws.proofs.Stacks.{Falls, Falls-more, Falls-among, IsUpdateOf}
use Rattle.log_laws.proofs.Filters.{leading, no_update}
use Rattle.log_laws.proofs.Rollback.{AreStacks, on_top, taken_off}
use Rattle.undo.specs.declared.losers.Loser.{Loser}
use Rattle.undo.specs.Undone.{NoBadHop, undone_page, MetExist, EndsBadly, last_met, UndoFault}
use Rattle.undo.specs.Turns.{Waiting, Taken}
use Rattle.undo.specs.Rollback.{walk_from, WalkFault, IsUpdateAt, Ends, Stays, Resolved, WaitBelow, Waits, IsDone, IsWaiting, undos, IsPassed, RollbackInvariant, CompensationFault}
use Rattle.undo.proofs.Lowest.{lowest_among, lowest_least}
use Rattle.undo.proofs.Meeting.{walk_falls, walk_found}
use Rattle.undo.proofs.Placed.{left_below}
use Rattle.undo.proofs.UndonePages.{idle_undone, end_idle}

-- A LOSER AT ITS PLACE
pub update_above : (log : History) (t n : ℕ) → IsUpdateAt log t n → base_lsn log < n
update_above log t n u = record_above log n (Update u.update) u.found

pub update_positive : (log : History) (t n : ℕ) → IsUpdateAt log t n → 0 < n
update_positive log t n u = omega (arith, update_above log t n u)

pub update_within : (log : History) (t n : ℕ) → IsUpdateAt log t n → n ≤ last_lsn log
update_within log t n u = record_within log n (Update u.update) u.found

module _ (log : History) (losers : List TableEntry) (left : ℕ → List ℕ) (last : ℕ → ℕ) (n : ℕ) (l : Loser) (w : Waits log losers left last n l) where
  rest_falls : Falls n (walk_from log l.tx n w.is_update.update.prev).met
  rest_falls = walk_falls log l.tx n w.is_update.update.prev (update_positive log l.tx n w.is_update)

  left_falls : Falls (suc n) (left l.tx)
  left_falls = subst (λ ns. Falls (suc n) ns) (sym w.left_is) (omega arith, rest_falls)

  left_found : (m : ℕ) → is_among m (left l.tx) ≡ true → IsUpdateOf l.tx log m
  left_found m h =
      elim (or_cases (eqb m n) (is_among m (walk_from log l.tx n w.is_update.update.prev).met) (ap (is_among m) (sym w.left_is) ∙ h)) [
        | inl e ↦ (w.is_update.update, ap (record_at log) (eqb-true m n e) ∙ w.is_update.found, w.is_update.own)
        | inr e ↦ walk_found log l.tx n w.is_update.update.prev m e
      ]

  left_most : (m : ℕ) → is_among m (left l.tx) ≡ true → m ≤ n
  left_most m h = omega (arith, Falls-among (suc n) m (left l.tx) left_falls h)

  -- it has met the update at which it waits
  update_met : is_among n (walk_of log (entry_for l.tx losers)).met ≡ true
  update_met =
      w.met n
      (ap (is_among n) w.left_is ∙ or_left (eqb n n) (is_among n (walk_from log l.tx n w.is_update.update.prev).met) (eq-eqb n n refl))

  pub last_within : last_met log losers l.tx ≤ n
  last_within = lowest_among (suc (last_lsn log)) n (walk_of log (entry_for l.tx losers)).met update_met

pub stacks : (log : History) (losers : List TableEntry) (count : ℕ) (at : Waiting) (appended : List LogRecord) (r : RollbackInvariant log losers count at appended) → AreStacks r.left log
stacks log losers count at appended r = record { falls = falls; found = found }
  where
    falls : (t : ℕ) → Falls (suc (last_lsn log)) (r.left t)
    falls t =
        elim (r.each t) [
          | inl d ↦ subst (λ ns. Falls (suc (last_lsn log)) ns) (sym d.nothing) tt
          | inr p ↦
              (let w = r.waits p.update_lsn p.loser p.there in
              subst (λ x. Falls (suc (last_lsn log)) (r.left x)) p.own
              (Falls-more (suc p.update_lsn) (suc (last_lsn log)) (r.left p.loser.tx) (omega (arith, update_within log p.loser.tx p.update_lsn w.is_update)) (left_falls log losers r.left r.last p.update_lsn p.loser w)))
        ]

    found : (t n : ℕ) → is_among n (r.left t) ≡ true → IsUpdateOf t log n
    found t n h =
        elim (r.each t) [
          | inl d ↦ absurd (false≢true (sym (ap (is_among n) d.nothing) ∙ h))
          | inr p ↦
              (let w = r.waits p.update_lsn p.loser p.there in
              subst (λ x. IsUpdateOf x log n) p.own (left_found log losers r.left r.last p.update_lsn p.loser w n (ap (λ x. is_among n (r.left x)) p.own ∙ h)))
        ]

-- THE NEWEST PLACE IS FIRST
top_first : (stack : ℕ → List ℕ) (log : History) (n : ℕ) (u : UpdateRecord) → record_at log n ≡ Some (Update u) → is_stacked stack n u ≡ true
    → ((m : ℕ) (w : UpdateRecord) → is_stacked stack m w ≡ true → m ≤ n) → (ps : List (ℕ × UpdateRecord)) × (updates_where (is_stacked stack) log ≡ (n, u) ∷ ps)
top_first stack log n u found h most = by_updates (updates_where (is_stacked stack) log) refl
  where
    by_updates : (ps : List (ℕ × UpdateRecord)) → updates_where (is_stacked stack) log ≡ ps → (qs : List (ℕ × UpdateRecord)) × (updates_where (is_stacked stack) log ≡ (n, u) ∷ qs)
    by_updates [] e = absurd (both_ways (is_stacked stack n u) (no_update (is_stacked stack) log n u e found) h)
    by_updates (p ∷ ps) e =
        (let l = leading (is_stacked stack) log p ps e in
        let a : p.0 ≤ n = most p.0 p.1 l.passes in
        let b : n ≤ p.0 = l.highest n u found h in
        let i : p.0 ≡ n = omega arith in
        let f : record_at log n ≡ Some (Update p.1) = ap (record_at log) (sym i) ∙ l.found in
        let j : p.1 ≡ u = cc (f, found) in
        (ps, e ∙ ap₂ (λ x y. (x, y) ∷ ps) i j))

-- WHAT IS OWED
abbrev owed : History → (ℕ → ℕ) → List LogRecord → List Action → List LogRecord
owed log last appended actions = appended ++ records_for last (suc (last_lsn log + length appended)) actions

owed_less : (log : History) (last : ℕ → ℕ) (appended : List LogRecord) (a : Action) (actions : List Action)
    → owed log last appended (a ∷ actions) ≡ owed log (λ t. cond (eqb (tx_for a) t) (suc (last_lsn log + length appended)) (last t)) (appended ++ record_for last a ∷ []) actions
owed_less log last appended a actions =
    let n : suc (suc (last_lsn log + length appended)) ≡ suc (last_lsn log + length (appended ++ record_for last a ∷ [])) = omega (arith, length-append appended (record_for last a ∷ [])) in
    sym (append_assoc appended (record_for last a ∷ []) (records_for (λ t. cond (eqb (tx_for a) t) (suc (last_lsn log + length appended)) (last t)) (suc (suc (last_lsn log + length appended))) actions))
    ∙ ap (λ m. (appended ++ record_for last a ∷ []) ++ records_for (λ t. cond (eqb (tx_for a) t) (suc (last_lsn log + length appended)) (last t)) m actions) n

-- ONE UPDATE IS UNDONE
module _ (log : History) (losers : List TableEntry) (count : ℕ) (at rest : Waiting) (appended : List LogRecord) (update_lsn : ℕ) (l : Loser) (taken : Taken update_lsn l at rest)
    (r : RollbackInvariant log losers count at appended) (u : UpdateRecord) (there : record_at log update_lsn ≡ Some (Update u)) (exists : u.page < count) where
  waited : Waits log losers r.left r.last update_lsn l
  waited = r.waits update_lsn l taken.there

  same : u ≡ waited.is_update.update
  same = (let f : record_at log update_lsn ≡ Some (Update waited.is_update.update) = waited.is_update.found in cc)

  own : u.tx ≡ l.tx
  own = ap (λ x. x.tx) same ∙ waited.is_update.own

  abbrev below : List ℕ
  below = (walk_from log l.tx update_lsn u.prev).met

  top : r.left u.tx ≡ update_lsn ∷ below
  top = ap r.left own ∙ waited.left_is ∙ ap (λ x. update_lsn ∷ (walk_from log l.tx update_lsn x.prev).met) (sym same)

  abbrev left' : ℕ → List ℕ
  left' t = cond (eqb u.tx t) below (r.left t)

  own_left : left' u.tx ≡ below
  own_left = (let e : eqb u.tx u.tx ≡ true = eq-eqb u.tx u.tx refl in ap (λ b. cond b below (r.left u.tx)) e)

  loser_left : left' l.tx ≡ below
  loser_left = ap left' (sym own) ∙ own_left

  other_left : (t : ℕ) → t ≢ u.tx → left' t ≡ r.left t
  other_left t n = (let e : eqb u.tx t ≡ false = ne_eqb u.tx t (λ i. n (sym i)) in ap (λ b. cond b below (r.left t)) e)

  most : (m : ℕ) (v : UpdateRecord) → is_stacked r.left m v ≡ true → m ≤ update_lsn
  most m v h =
      elim (r.each v.tx) [
        | inl d ↦ absurd (false≢true (sym (ap (is_among m) d.nothing) ∙ h))
        | inr p ↦
            (let w = r.waits p.update_lsn p.loser p.there in
            omega (arith, taken.newest p.update_lsn p.loser p.there, left_most log losers r.left r.last p.update_lsn p.loser w m (ap (λ x. is_among m (r.left x)) p.own ∙ h)))
      ]

  undo_first : undos r.left log ≡ Undo u ∷ (cond (is_empty below) (Finish u.tx ∷ []) [] ++ undos left' log)
  undo_first =
      let stacked : is_stacked r.left update_lsn u ≡ true = ap (is_among update_lsn) top ∙ or_left (eqb update_lsn update_lsn) (is_among update_lsn below) (eq-eqb update_lsn update_lsn refl) in
      let (ps, e) = top_first r.left log update_lsn u there stacked most in
      let o = on_top r.left log (stacks log losers count at appended r) (update_lsn, u) ps e in
      let both : update_lsn ∷ o.below ≡ update_lsn ∷ below = sym o.top ∙ top in
      let b : o.below ≡ below = cc in
      taken_off r.left left' log (update_lsn, u) ps e o (own_left ∙ sym b) other_left
      ∙ ap (λ ns. Undo u ∷ (cond (is_empty ns) (Finish u.tx ∷ []) [] ++ undos left' log)) b

  -- the others wait where they did
  others_wait : (last' : ℕ → ℕ) → ((t : ℕ) → t ≢ u.tx → last' t ≡ r.last t) → (n : ℕ) (m : Loser) → at n ≡ Some m → n ≢ update_lsn → Waits log losers left' last' n m
  others_wait last' same_last n m e d =
      let w = r.waits n m e in
      let other : m.tx ≢ u.tx =
      λ i. (let f : n ∷ (walk_from log m.tx n w.is_update.update.prev).met ≡ update_lsn ∷ below = sym w.left_is ∙ ap r.left i ∙ top in
      let g : n ≡ update_lsn = cc in d g) in
      record {
        is_update = w.is_update;
        left_is = other_left m.tx other ∙ w.left_is;
        last_is = same_last m.tx other ∙ w.last_is;
        ends = w.ends;
        met = λ k i. w.met k (ap (is_among k) (sym (other_left m.tx other)) ∙ i);
      }

  rest_there : (n : ℕ) (m : Loser) → rest n ≡ Some m → (at n ≡ Some m) × (n ≢ update_lsn)
  rest_there n m e =
      let d : n ≢ update_lsn = λ i. (let f : None ≡ Some m = sym taken.gone ∙ ap rest (sym i) ∙ e in cc) in
      (sym (taken.others n d) ∙ e, d)

  other_waits : (t : ℕ) (p : IsWaiting at t) → t ≢ u.tx → rest p.update_lsn ≡ Some p.loser
  other_waits t p d =
      taken.others p.update_lsn (λ i. (let f : Some p.loser ≡ Some l = sym p.there ∙ ap at i ∙ taken.there in
      let g : p.loser ≡ l = cc in
      d (sym p.own ∙ ap (λ x. x.tx) g ∙ sym own)))
      ∙ p.there

  -- what was met is left, or passed now
  still_met : (new : Waiting) → WaitBelow update_lsn new → (t n : ℕ) → is_among n (walk_of log (entry_for t losers)).met ≡ true → (is_among n (left' t) ≡ true) ⊎ IsPassed log count new n
  still_met new low t n h =
      elim (r.met t n h) [
        | inl i ↦
            elim (cases_eq t u.tx) [
              | inl e ↦
                  elim (or_cases (eqb n update_lsn) (is_among n below) (ap (is_among n) (sym top ∙ ap r.left (sym e)) ∙ i)) [
                    | inl j ↦
                        (let here : n ≡ update_lsn = eqb-true n update_lsn j in
                        inr (record {
                          above = λ m x waits. omega (arith, low m x waits, here);
                          exists = λ v found.
                              (let f : record_at log update_lsn ≡ Some (Update v) = ap (record_at log) (sym here) ∙ found in
                              let k : v ≡ u = cc in
                              subst (λ (x : UpdateRecord). x.page < count) (sym k) exists);
                        }))
                    | inr j ↦ inl (ap (is_among n) (ap left' e ∙ own_left) ∙ j)
                  ]
              | inr d ↦ inl (ap (is_among n) (other_left t d) ∙ i)
            ]
        | inr p ↦ inr (record { above = λ m x waits. omega (arith, low m x waits, p.above update_lsn l taken.there); exists = p.exists })
      ]

  ends_is : (walk_from log l.tx update_lsn u.prev).ends ≡ (walk_of log (entry_for l.tx losers)).ends
  ends_is = ap (λ x. (walk_from log l.tx update_lsn x.prev).ends) same ∙ waited.ends

  -- what is written
  abbrev lsn : ℕ
  lsn = suc (last_lsn log + length appended)

  abbrev clr : LogRecord
  clr = record_for (λ _. l.last) (Undo u)

  abbrev last₁ : ℕ → ℕ
  last₁ t = cond (eqb u.tx t) lsn (r.last t)

  abbrev last₂ : ℕ → ℕ
  last₂ t = cond (eqb u.tx t) (suc (last_lsn log + length (appended ++ clr ∷ []))) (last₁ t)

  clr_is : record_for r.last (Undo u) ≡ clr
  clr_is = ap (λ n. Compensation (record { tx = u.tx; prev = n; page = u.page; slot = u.slot; undo_next = u.prev; image = u.before })) (ap r.last own ∙ waited.last_is)

  whole₁ : owed log last₁ (appended ++ clr ∷ []) (cond (is_empty below) (Finish u.tx ∷ []) [] ++ undos left' log) ≡ undone_by log losers
  whole₁ =
      ap (λ x. owed log last₁ (appended ++ x ∷ []) (cond (is_empty below) (Finish u.tx ∷ []) [] ++ undos left' log)) (sym clr_is)
      ∙ sym (owed_less log r.last appended (Undo u) (cond (is_empty below) (Finish u.tx ∷ []) [] ++ undos left' log))
      ∙ ap (owed log r.last appended) (sym undo_first) ∙ r.whole

  -- if more is left
  module _ (new : Waiting) (after : List LogRecord) (s : Stays log (record { tx = l.tx; last = lsn }) update_lsn u.prev rest new (appended ++ clr ∷ []) after) where
    met_is : below ≡ s.update_lsn ∷ (walk_from log l.tx s.update_lsn s.meets.is_update.update.prev).met
    met_is = ap (λ w. w.met) s.meets.goes_on

    here : new s.update_lsn ≡ Some (record { tx = l.tx; last = lsn })
    here = s.waiting s.update_lsn ∙ (let e : eqb s.update_lsn s.update_lsn ≡ true = eq-eqb s.update_lsn s.update_lsn refl in ap (λ b. cond b (Some (record { tx = l.tx; last = lsn })) (rest s.update_lsn)) e)

    elsewhere : (n : ℕ) → n ≢ s.update_lsn → new n ≡ rest n
    elsewhere n d = s.waiting n ∙ (let e : eqb s.update_lsn n ≡ false = ne_eqb s.update_lsn n (λ i. d (sym i)) in ap (λ b. cond b (Some (record { tx = l.tx; last = lsn })) (rest n)) e)

    own_last : last₁ l.tx ≡ lsn
    own_last = ap last₁ (sym own) ∙ (let e : eqb u.tx u.tx ≡ true = eq-eqb u.tx u.tx refl in ap (λ b. cond b lsn (r.last u.tx)) e)

    waits_here : Waits log losers left' last₁ s.update_lsn (record { tx = l.tx; last = lsn })
    waits_here = record {
      is_update = s.meets.is_update;
      left_is = loser_left ∙ met_is;
      last_is = own_last;
      ends = sym (ap (λ w. w.ends) s.meets.goes_on) ∙ ends_is;
      met = λ k i. waited.met k
          (ap (is_among k) (sym (ap r.left own) ∙ top) ∙ or_right (eqb k update_lsn) (is_among k below) (ap (is_among k) (sym loser_left) ∙ i));
    }

    stays_below : WaitBelow update_lsn new
    stays_below n m e =
        elim (cases_eq n s.update_lsn) [
          | inl i ↦ omega (arith, s.meets.below, i)
          | inr d ↦ left_below update_lsn l at rest taken n m (sym (elsewhere n d) ∙ e)
        ]

    pub stays_rolling : RollbackInvariant log losers count new after
    stays_rolling = record {
      left = left';
      last = last₁;
      whole =
          (let open_still : is_empty below ≡ false = ap is_empty met_is in
          ap (λ xs. owed log last₁ xs (undos left' log)) s.appended
          ∙ ap (λ b. owed log last₁ (appended ++ clr ∷ []) (cond b (Finish u.tx ∷ []) [] ++ undos left' log)) (sym open_still)
          ∙ whole₁);
      waits = λ n m e.
          elim (cases_eq n s.update_lsn) [
            | inl i ↦
                (let f : Some (record { tx = l.tx; last = lsn }) ≡ Some m = sym here ∙ ap new (sym i) ∙ e in
                let g : ◌≡◌ {A = Loser} (record { tx = l.tx; last = lsn }) m = cc in
                subst (λ k. Waits log losers left' last₁ k m) (sym i) (subst (λ x. Waits log losers left' last₁ s.update_lsn x) g waits_here))
            | inr d ↦
                (let (e', d') = rest_there n m (sym (elsewhere n d) ∙ e) in
                others_wait last₁ (λ t x. (let f : eqb u.tx t ≡ false = ne_eqb u.tx t (λ i. x (sym i)) in ap (λ b. cond b lsn (r.last t)) f)) n m e' d')
          ];
      each = λ t.
          elim (cases_eq t u.tx) [
            | inl i ↦ inr (record { update_lsn = s.update_lsn; loser = record { tx = l.tx; last = lsn }; there = here; own = sym own ∙ sym i })
            | inr d ↦
                elim (r.each t) [
                  | inl x ↦ inl (record { nothing = other_left t d ∙ x.nothing; ends = x.ends })
                  | inr p ↦
                      (let e' : rest p.update_lsn ≡ Some p.loser = other_waits t p d in
                      let apart : p.update_lsn ≢ s.update_lsn =
                      λ i. (let w = r.waits p.update_lsn p.loser p.there in
                      let f : record_at log p.update_lsn ≡ Some (Update w.is_update.update) = w.is_update.found in
                      let g : record_at log p.update_lsn ≡ Some (Update s.meets.is_update.update) = ap (record_at log) i ∙ s.meets.is_update.found in
                      let j : w.is_update.update ≡ s.meets.is_update.update = cc in
                      d (sym p.own ∙ sym w.is_update.own ∙ ap (λ x. x.tx) j ∙ s.meets.is_update.own ∙ sym own)) in
                      inr (record { update_lsn = p.update_lsn; loser = p.loser; there = elsewhere p.update_lsn apart ∙ e'; own = p.own }))
                ]
          ];
      met = still_met new stays_below;
    }

  -- if nothing is left
  module _ (new : Waiting) (after : List LogRecord) (s : Ends log (record { tx = l.tx; last = lsn }) update_lsn u.prev rest new (appended ++ clr ∷ []) after) where
    none_left : below ≡ []
    none_left = ap (λ w. w.met) s.nothing

    end_is : record_for last₁ (Finish u.tx) ≡ End (record { tx = l.tx; prev = lsn })
    end_is =
        (let e : eqb u.tx u.tx ≡ true = eq-eqb u.tx u.tx refl in
        ap₂ (λ t n. End (record { tx = t; prev = n })) own (ap (λ b. cond b lsn (r.last u.tx)) e))

    pub ends_rolling : RollbackInvariant log losers count new after
    ends_rolling = record {
      left = left';
      last = last₂;
      whole =
          (let over : is_empty below ≡ true = ap is_empty none_left in
          ap (λ xs. owed log last₂ xs (undos left' log)) s.appended
          ∙ ap (λ x. owed log last₂ ((appended ++ clr ∷ []) ++ x ∷ []) (undos left' log)) (sym end_is)
          ∙ sym (owed_less log last₁ (appended ++ clr ∷ []) (Finish u.tx) (undos left' log))
          ∙ ap (λ b. owed log last₁ (appended ++ clr ∷ []) (cond b (Finish u.tx ∷ []) [] ++ undos left' log)) (sym over)
          ∙ whole₁);
      waits = λ n m e.
          (let (e', d') = rest_there n m (sym (s.waiting n) ∙ e) in
          others_wait last₂
          (λ t x. (let f : eqb u.tx t ≡ false = ne_eqb u.tx t (λ i. x (sym i)) in
          ap (λ b. cond b (suc (last_lsn log + length (appended ++ clr ∷ []))) (cond b lsn (r.last t))) f)) n m e' d');
      each = λ t.
          elim (cases_eq t u.tx) [
            | inl i ↦
                inl (record {
                  nothing = ap left' i ∙ own_left ∙ none_left;
                  ends = ap (λ x. (walk_of log (entry_for x losers)).ends) (i ∙ own) ∙ sym ends_is ∙ ap (λ w. w.ends) s.nothing;
                })
            | inr d ↦
                elim (r.each t) [
                  | inl x ↦ inl (record { nothing = other_left t d ∙ x.nothing; ends = x.ends })
                  | inr p ↦ inr (record { update_lsn = p.update_lsn; loser = p.loser; there = s.waiting p.update_lsn ∙ other_waits t p d; own = p.own })
                ]
          ];
      met = still_met new (λ n m e. left_below update_lsn l at rest taken n m (sym (s.waiting n) ∙ e));
    }

  pub undone_rolling : (new : Waiting) (n prev : ℕ) (middle after : List LogRecord) → n ≡ lsn → prev ≡ u.prev → middle ≡ appended ++ clr ∷ []
      → Resolved log (record { tx = l.tx; last = n }) update_lsn prev rest new middle after → RollbackInvariant log losers count new after
  undone_rolling new n prev middle after at_lsn goes_on is resolved =
      let to_prev : Resolved log (record { tx = l.tx; last = n }) update_lsn u.prev rest new middle after =
      subst (λ k. Resolved log (record { tx = l.tx; last = n }) update_lsn k rest new middle after) goes_on resolved in
      let with_clr : Resolved log (record { tx = l.tx; last = n }) update_lsn u.prev rest new (appended ++ clr ∷ []) after =
      subst (λ m. Resolved log (record { tx = l.tx; last = n }) update_lsn u.prev rest new m after) is to_prev in
      elim (subst (λ k. Resolved log (record { tx = l.tx; last = k }) update_lsn u.prev rest new (appended ++ clr ∷ []) after) at_lsn with_clr) [
        | inl e ↦ ends_rolling new after e
        | inr s ↦ stays_rolling new after s
      ]

-- WHY IT ENDS EARLY
module _ (log : History) (losers : List TableEntry) (count : ℕ) (at rest : Waiting) (appended : List LogRecord) (update_lsn : ℕ) (l : Loser) (taken : Taken update_lsn l at rest) (r : RollbackInvariant log losers count at appended) where
  is_update : Waits log losers r.left r.last update_lsn l
  is_update = r.waits update_lsn l taken.there

  -- a walk that ends badly has not ended yet
  waits_still : (t : ℕ) → EndsBadly log losers t → IsWaiting at t
  waits_still t bad = elim (r.each t) [ inl d ↦ absurd (bad d.ends) | inr p ↦ p ]

  last_low : (t : ℕ) (p : IsWaiting at t) → last_met log losers t ≤ p.update_lsn
  last_low t p = subst (λ x. last_met log losers x ≤ p.update_lsn) p.own (last_within log losers r.left r.last p.update_lsn p.loser (r.waits p.update_lsn p.loser p.there))

  -- what is met after that update was undone
  behind_update : MetExist log losers count (suc update_lsn)
  behind_update n u le m =
      elim (r.met m.loser n m.met) [
        | inl i ↦
            elim (r.each m.loser) [
              | inl d ↦ absurd (false≢true (sym (ap (is_among n) d.nothing) ∙ i))
              | inr p ↦
                  (let w = r.waits p.update_lsn p.loser p.there in
                  let most : n ≤ p.update_lsn = left_most log losers r.left r.last p.update_lsn p.loser w n (ap (λ x. is_among n (r.left x)) p.own ∙ i) in
                  absurd (omega (arith, le, most, taken.newest p.update_lsn p.loser p.there)))
            ]
        | inr p ↦ p.exists u m.found
      ]

  pub missing_page : (e : Fault) → CompensationFault log update_lsn count e → UndoFault log losers count e
  missing_page NoResource h = tt
  missing_page (NoSuchPage n) h = record {
    update = is_update.is_update.update;
    is_met = record {
      loser = l.tx;
      met = ap (λ k. is_among k (walk_of log (entry_for l.tx losers)).met) h.0 ∙ update_met log losers r.left r.last update_lsn l is_update;
      found = ap (record_at log) h.0 ∙ is_update.is_update.found;
    };
    missing = h.1 is_update.is_update.update is_update.is_update.found;
    behind = λ m u le. behind_update m u (omega (arith, le, h.0));
    none_broken = λ t bad. (let p = waits_still t bad in omega (arith, last_low t p, taken.newest p.update_lsn p.loser p.there, h.0));
  }
  missing_page _ h = absurd h

  module _ (u : UpdateRecord) (there : record_at log update_lsn ≡ Some (Update u)) (exists : u.page < count) where
    -- if the walk ends after this update, it is the last that was met
    last_here : (walk_from log l.tx update_lsn u.prev).met ≡ [] → update_lsn ≤ last_met log losers l.tx
    last_here nothing =
        lowest_least update_lsn (suc (last_lsn log)) (walk_of log (entry_for l.tx losers)).met (omega (arith, update_within log l.tx update_lsn is_update.is_update))
        (λ n h. elim (r.met l.tx n h) [
          | inl i ↦
              (let only : r.left l.tx ≡ update_lsn ∷ [] =
              sym (ap r.left (own log losers count at rest appended update_lsn l taken r u there exists)) ∙ top log losers count at rest appended update_lsn l taken r u there exists ∙ ap (λ ns. update_lsn ∷ ns) nothing in
              elim (or_cases (eqb n update_lsn) (is_among n []) (ap (is_among n) (sym only) ∙ i)) [
                | inl j ↦ omega (arith, eqb-true n update_lsn j)
                | inr j ↦ absurd (false≢true j)
              ])
          | inr p ↦ omega (arith, p.above update_lsn l taken.there)
        ])

    pub broken_walk : (prev : ℕ) → prev ≡ u.prev → (e : Fault) → WalkFault (walk_from log l.tx update_lsn prev) e → UndoFault log losers count e
    broken_walk prev is NoResource h = tt
    broken_walk prev is (BrokenChain n) h =
        let walk = ap (walk_from log l.tx update_lsn) (sym is) ∙ h.1 in
        let last : update_lsn ≤ last_met log losers l.tx = last_here (ap (λ w. w.met) walk) in
        record {
          loser = l.tx;
          ends = sym (ends_is log losers count at rest appended update_lsn l taken r u there exists) ∙ ap (λ w. w.ends) walk;
          bad = h.0;
          behind = λ m v le is_met.
              elim (cases_eq m update_lsn) [
                | inl i ↦
                    (let f : record_at log update_lsn ≡ Some (Update v) = ap (record_at log) (sym i) ∙ is_met.found in
                    let k : v ≡ u = cc in
                    subst (λ (x : UpdateRecord). x.page < count) (sym k) exists)
                | inr d ↦ behind_update m v (omega (arith, le, last, d)) is_met
              ];
          first = λ t bad.
              elim (cases_eq t l.tx) [
                | inl i ↦ inr (ap (last_met log losers) i, omega (arith, i))
                | inr d ↦
                    (let p = waits_still t bad in
                    let apart : p.update_lsn ≢ update_lsn =
                    λ i. (let f : Some p.loser ≡ Some l = sym p.there ∙ ap at i ∙ taken.there in
                    let g : p.loser ≡ l = cc in
                    d (sym p.own ∙ ap (λ x. x.tx) g)) in
                    inl (omega (arith, last_low t p, taken.newest p.update_lsn p.loser p.there, apart, last)))
              ];
        }
    broken_walk prev is _ h = absurd h

-- WHAT IS APPENDED
-- a CLR on a page below the count, and perhaps an end
pub pages_named : (log : History) (count : ℕ) (l : Loser) (from to : ℕ) (old new : Waiting) (u : UpdateRecord) (last : ℕ) (before middle after : List LogRecord) → u.page < count
    → middle ≡ before ++ record_for (λ _. last) (Undo u) ∷ [] → Resolved log l from to old new middle after → All (NamesPages count) before → All (NamesPages count) after
pages_named log count l from to old new u last before middle after exists is resolved all =
    let here : All (NamesPages count) middle = subst (All (NamesPages count)) (sym is) (All-push (NamesPages count) before (record_for (λ _. last) (Undo u)) all exists) in
    elim resolved [
      | inl e ↦ subst (All (NamesPages count)) (sym e.appended) (All-push (NamesPages count) middle (End (record { tx = l.tx; prev = l.last })) here tt)
      | inr s ↦ subst (All (NamesPages count)) (sym s.appended) here
    ]

-- an end changes no page
pub pages_kept : (log : History) (l : Loser) (from to : ℕ) (old new : Waiting) (before after : List LogRecord) (given pages : List Page) → Resolved log l from to old new before after
    → pages ≡ map (undone_page log before) given → pages ≡ map (undone_page log after) given
pages_kept log l from to old new before after given pages resolved same =
    elim resolved [
      | inl e ↦
          (let s : PlainRecord = record { tx = l.tx; prev = l.last } in
          same ∙ idle_undone log before (End s) given (end_idle s) ∙ ap (λ xs. map (undone_page log xs) given) (sym e.appended))
      | inr s ↦ same ∙ ap (λ xs. map (undone_page log xs) given) (sym s.appended)
    ]

-- NOTHING IS LEFT
-- if no loser waits, all have ended
module _ (log : History) (losers : List TableEntry) (count : ℕ) (at : Waiting) (appended : List LogRecord) (r : RollbackInvariant log losers count at appended) (none : (n : ℕ) → at n ≡ None) where
  each_done : (t : ℕ) → IsDone log losers r.left t
  each_done t =
      elim (r.each t) [
        | inl d ↦ d
        | inr p ↦ absurd (let e : None ≡ Some p.loser = sym (none p.update_lsn) ∙ p.there in cc)
      ]

  nothing_stacked : updates_where (is_stacked r.left) log ≡ []
  nothing_stacked = by_updates (updates_where (is_stacked r.left) log) refl
    where
      by_updates : (ps : List (ℕ × UpdateRecord)) → updates_where (is_stacked r.left) log ≡ ps → updates_where (is_stacked r.left) log ≡ []
      by_updates [] e = e
      by_updates (p ∷ ps) e = absurd (let l = leading (is_stacked r.left) log p ps e in false≢true (sym (ap (is_among p.0) (each_done p.1.tx).nothing) ∙ l.passes))

  pub all_appended : appended ≡ undone_by log losers
  all_appended =
      sym (append-nil appended)
      ∙ sym (ap (λ ps. appended ++ records_for r.last (suc (last_lsn log + length appended)) (flat_map (undo_of r.left) ps)) nothing_stacked)
      ∙ r.whole

  pub all_end : NoBadHop log losers
  all_end t = (each_done t).ends

  pub all_exist : MetExist log losers count 0
  all_exist n u le m =
      elim (r.met m.loser n m.met) [
        | inl i ↦ absurd (false≢true (sym (ap (is_among n) (each_done m.loser).nothing) ∙ i))
        | inr p ↦ p.exists u m.found
      ]
