-- The walk of a transaction meets its pending updates.
use Rattle.std.proofs.Common.{ℕ, suc, ◌≡◌, ◌≤◌, true, false, ◌||◌, List, [], ◌∷◌, drop, Option, Some, None, refl, sym, ap, ap₂, ◌∙◌, subst, inl, inr, arith, eq-eqb, ne_eqb, eqb-true, eqb}
use Rattle.std.specs.Prelude.{option_map, unwrap_or}
use Rattle.std.proofs.lemmas.Bool.{cases_Bool, or_parts, or_from}
use Rattle.log_laws.specs.Records.{UpdateRecord, CompensationRecord, LogRecord, Update, Compensation, Commit, Abort, End, Prepare, History, start, ◌▸◌, last_lsn, record_at}
use Rattle.log_laws.specs.Meaning.{BasePages, pending, undo_next_of, last_of, finished, aborted, committed, ended, prepared}
use Rattle.log_laws.specs.Laws.{Obeys, IsLawful}
use Rattle.log_laws.specs.Hops.{sent_on, hops, meet}
use Rattle.log_laws.proofs.Histories.{record_last, record_more}

-- sent to the LSN n, t meets these updates and then ends well
abbrev pub Walks : ℕ → History → ℕ → List ℕ → Type 0
Walks t log n ms = hops t log n ≡ record { met = ms; ends = 0 }

-- a walk that is not sent to the last record
pub hops_other : (t : ℕ) (log : History) (r : LogRecord) (n : ℕ) → eqb n (suc (last_lsn log)) ≡ false → hops t (log ▸ r) n ≡ hops t log n
hops_other t log (Update u) n e = rw e
hops_other t log r n e = rw e

-- a walk sent into the log before
hops_older : (t : ℕ) (log : History) (r : LogRecord) (n : ℕ) → n ≤ last_lsn log → hops t (log ▸ r) n ≡ hops t log n
hops_older t log r n h = hops_other t log r n (ne_eqb n (suc (last_lsn log)) (λ e. omega arith))

-- a walk that ends well was sent to a record of the log, or nowhere
ends_within : (t : ℕ) (log : History) (n : ℕ) → (hops t log n).ends ≡ 0 → n ≤ last_lsn log
ends_within t (start _) n h = omega (arith, h)
ends_within t (log ▸ r) n h =
    elim (cases_Bool (eqb n (suc (last_lsn log)))) [
      | inl e ↦ omega (arith, eqb-true n (suc (last_lsn log)) e)
      | inr e ↦ omega (arith, ends_within t log n (sym (ap (λ w. w.ends) (hops_other t log r n e)) ∙ h))
    ]

-- a good walk starts in the log
walk_within : (t : ℕ) (log : History) (n : ℕ) (ms : List ℕ) → Walks t log n ms → n ≤ last_lsn log
walk_within t log n ms w = ends_within t log n (ap (λ w. w.ends) w)

-- a longer log leads the walk the same way
walk_more : (t : ℕ) (log : History) (r : LogRecord) (n : ℕ) (ms : List ℕ) → Walks t log n ms → Walks t (log ▸ r) n ms
walk_more t log r n ms w = hops_older t log r n (walk_within t log n ms w) ∙ w

-- from an update on
walk_from_update : (t : ℕ) (log : History) (u : UpdateRecord) → eqb u.tx t ≡ true → hops t (log ▸ Update u) (suc (last_lsn log)) ≡ meet (suc (last_lsn log)) (hops t log u.prev)
walk_from_update t log u e = rw (eq-eqb (suc (last_lsn log)) (suc (last_lsn log)) refl, e)

-- from a CLR on
walk_from_compensation : (t : ℕ) (log : History) (c : CompensationRecord) → eqb c.tx t ≡ true → hops t (log ▸ Compensation c) (suc (last_lsn log)) ≡ hops t log c.undo_next
walk_from_compensation t log c e = rw (eq-eqb (suc (last_lsn log)) (suc (last_lsn log)) refl, e)

-- the first update that a walk meets, and the walk from there
pub record Meets (t : ℕ) (log : History) (m : ℕ) (ms : List ℕ) : Type 0 where
  pub update : UpdateRecord
  pub found : record_at log m ≡ Some (Update update)
  pub goes_on : Walks t log update.prev ms

Meets-more : (t : ℕ) (log : History) (r : LogRecord) (m : ℕ) (ms : List ℕ) → Meets t log m ms → Meets t (log ▸ r) m ms
Meets-more t log r m ms p = record { update = p.update; found = record_more log r m (Update p.update) p.found; goes_on = walk_more t log r p.update.prev ms p.goes_on }

-- what the first update that is met determines
pub first_met : (t : ℕ) (log : History) (n m : ℕ) (ms : List ℕ) → Walks t log n (m ∷ ms) → Meets t log m ms
first_met t (start _) n m ms w = absurd (let e : [] ≡ m ∷ ms = ap (λ w. w.met) w in cc)
first_met t (log ▸ Update u) n m ms w =
    elim (cases_Bool (eqb n (suc (last_lsn log)))) [
      | inl e ↦
          elim (cases_Bool (eqb u.tx t)) [
            | inl o ↦
                (let w' : meet n (hops t log u.prev) ≡ record { met = m ∷ ms; ends = 0 } = rw (e, o) at w in
                let i : n ∷ (hops t log u.prev).met ≡ m ∷ ms = ap (λ w. w.met) w' in
                let j : (hops t log u.prev).ends ≡ 0 = ap (λ w. w.ends) w' in
                let k : n ≡ m = cc in
                let l : (hops t log u.prev).met ≡ ms = cc in
                let g : Walks t log u.prev ms = ap₂ (λ x y. record { met = x; ends = y }) l j in
                record {
                  update = u;
                  found = ap (record_at (log ▸ Update u)) (sym k ∙ eqb-true n (suc (last_lsn log)) e) ∙ record_last log (Update u);
                  goes_on = walk_more t log (Update u) u.prev ms g;
                })
            | inr o ↦ absurd (let e' : [] ≡ m ∷ ms = ap (λ w. w.met) (rw (e, o) at w) in cc)
          ]
      | inr e ↦ Meets-more t log (Update u) m ms (first_met t log n m ms (rw e at w))
    ]
first_met t (log ▸ r) n m ms w =
    elim (cases_Bool (eqb n (suc (last_lsn log)))) [
      | inl e ↦ by_sent (sent_on t r) (λ next. first_met t log next m ms) (rw e at w)
      | inr e ↦ Meets-more t log r m ms (first_met t log n m ms (rw e at w))
    ]
  where
    by_sent : (o : Option ℕ) → ((next : ℕ) → Walks t log next (m ∷ ms) → Meets t log m ms) → unwrap_or (option_map (λ next. hops t log next) o) (record { met = []; ends = n }) ≡ record { met = m ∷ ms; ends = 0 } → Meets t (log ▸ r) m ms
    by_sent None older w = absurd (let e : [] ≡ m ∷ ms = ap (λ w. w.met) w in cc)
    by_sent (Some next) older w = Meets-more t log r m ms (older next w)

-- what is known of the walks of t in a lawful log
pub record Leads (t : ℕ) (log : History) : Type 0 where
  pub undo_next : Walks t log (undo_next_of t log) (pending t log)
  pub last : finished t log ≡ false → aborted t log ≡ false → prepared t log ≡ false → Walks t log (last_of t log) (pending t log)

-- the same walk under other names
walks_at : (t : ℕ) (log : History) (n m : ℕ) (ms ns : List ℕ) → n ≡ m → ms ≡ ns → Walks t log m ns → Walks t log n ms
walks_at t log n m ms ns e f w = ap (hops t log) e ∙ w ∙ ap (λ x. record { met = x; ends = 0 }) (sym f)

-- an update of the transaction itself
leads_own_update : (base : BasePages) (log : History) (u : UpdateRecord) → Leads u.tx log → Obeys base log (Update u) → Leads u.tx (log ▸ Update u)
leads_own_update base log u h o =
    let own : eqb u.tx u.tx ≡ true = eq-eqb u.tx u.tx refl in
    let before : Walks u.tx log u.prev (pending u.tx log) = ap (hops u.tx log) o.chain ∙ h.last o.finish.0 o.finish.1 o.finish.2 in
    let all : Walks u.tx (log ▸ Update u) (suc (last_lsn log)) (suc (last_lsn log) ∷ pending u.tx log) = walk_from_update u.tx log u own ∙ ap (meet (suc (last_lsn log))) before in
    let u_is : undo_next_of u.tx (log ▸ Update u) ≡ suc (last_lsn log) = rw own in
    let l_is : last_of u.tx (log ▸ Update u) ≡ suc (last_lsn log) = rw own in
    let p_is : pending u.tx (log ▸ Update u) ≡ suc (last_lsn log) ∷ pending u.tx log = rw own in
    record {
      undo_next = walks_at u.tx (log ▸ Update u) _ _ _ _ u_is p_is all;
      last = λ _ _ _. walks_at u.tx (log ▸ Update u) _ _ _ _ l_is p_is all;
    }

-- a CLR of the transaction itself
leads_own_compensation : (base : BasePages) (log : History) (c : CompensationRecord) → Leads c.tx log → Obeys base log (Compensation c) → Leads c.tx (log ▸ Compensation c)
leads_own_compensation base log c h o =
    let own : eqb c.tx c.tx ≡ true = eq-eqb c.tx c.tx refl in
    let k = o.compensation in
    let w : Walks c.tx log (undo_next_of c.tx log) (k.lsn ∷ k.below) = h.undo_next ∙ ap (λ ms. record { met = ms; ends = 0 }) k.newest in
    let f = first_met c.tx log (undo_next_of c.tx log) k.lsn k.below w in
    let e : f.update ≡ k.update = cc (f.found, k.found) in
    let p : c.undo_next ≡ f.update.prev = k.undo_next ∙ sym (ap (λ u. u.prev) e) in
    let d : drop 1 (pending c.tx log) ≡ k.below = ap (drop 1) k.newest in
    let g : Walks c.tx log c.undo_next (drop 1 (pending c.tx log)) = ap (hops c.tx log) p ∙ f.goes_on ∙ ap (λ ms. record { met = ms; ends = 0 }) (sym d) in
    let u_is : undo_next_of c.tx (log ▸ Compensation c) ≡ c.undo_next = rw own in
    let l_is : last_of c.tx (log ▸ Compensation c) ≡ suc (last_lsn log) = rw own in
    let p_is : pending c.tx (log ▸ Compensation c) ≡ drop 1 (pending c.tx log) = rw own in
    record {
      undo_next = walks_at c.tx (log ▸ Compensation c) _ _ _ _ u_is p_is (walk_more c.tx log (Compensation c) c.undo_next (drop 1 (pending c.tx log)) g);
      last = λ _ _ _. walks_at c.tx (log ▸ Compensation c) _ _ _ _ l_is p_is (walk_from_compensation c.tx log c own ∙ g);
    }

-- a record that does not change any of it
leads_same : (t : ℕ) (log : History) (r : LogRecord) → undo_next_of t (log ▸ r) ≡ undo_next_of t log → pending t (log ▸ r) ≡ pending t log
    → (finished t (log ▸ r) ≡ false → aborted t (log ▸ r) ≡ false → prepared t (log ▸ r) ≡ false
    → (finished t log ≡ false) × (aborted t log ≡ false) × (prepared t log ≡ false) × (last_of t (log ▸ r) ≡ last_of t log))
    → Leads t log → Leads t (log ▸ r)
leads_same t log r u p f h =
    record {
      undo_next = rw (u, p) (walk_more t log r (undo_next_of t log) (pending t log) h.undo_next);
      last = λ x y z. (let (a, b, c, l) = f x y z in rw (l, p) (walk_more t log r (last_of t log) (pending t log) (h.last a b c)));
    }

-- in a lawful log the walks lead to what is pending
pub leads : (base : BasePages) (log : History) → IsLawful base log → (t : ℕ) → Leads t log
leads base (start _) h t = record { undo_next = refl; last = λ _ _ _. refl }
leads base (log ▸ Update u) h t =
    elim (cases_Bool (eqb u.tx t)) [
      | inl e ↦ subst (λ x. Leads x (log ▸ Update u)) (eqb-true u.tx t e) (leads_own_update base log u (leads base log h.0 u.tx) h.1)
      | inr e ↦ leads_same t log (Update u) (rw e) (rw e) (λ a b c. (a, b, c, rw e)) (leads base log h.0 t)
    ]
leads base (log ▸ Compensation c) h t =
    elim (cases_Bool (eqb c.tx t)) [
      | inl e ↦ subst (λ x. Leads x (log ▸ Compensation c)) (eqb-true c.tx t e) (leads_own_compensation base log c (leads base log h.0 c.tx) h.1)
      | inr e ↦ leads_same t log (Compensation c) (rw e) (rw e) (λ a b c. (a, b, c, rw e)) (leads base log h.0 t)
    ]
leads base (log ▸ Commit s) h t =
    leads_same t log (Commit s) refl refl
    (λ a b c.
    let (x, y) = or_parts (eqb s.tx t || committed t log) (ended t log) a in
    let (v, w) = or_parts (eqb s.tx t) (committed t log) x in
    (or_from (committed t log) (ended t log) w y, b, c, rw v))
    (leads base log h.0 t)
leads base (log ▸ Abort s) h t =
    leads_same t log (Abort s) refl refl (λ a b c. let (x, y) = or_parts (eqb s.tx t) (aborted t log) b in (a, y, c, rw x)) (leads base log h.0 t)
leads base (log ▸ End s) h t =
    leads_same t log (End s) refl refl
    (λ a b c.
    let (x, y) = or_parts (committed t log) (eqb s.tx t || ended t log) a in
    let (v, w) = or_parts (eqb s.tx t) (ended t log) y in
    (or_from (committed t log) (ended t log) x w, b, c, rw v))
    (leads base log h.0 t)
leads base (log ▸ Prepare s) h t =
    leads_same t log (Prepare s) refl refl (λ a b c. let (x, y) = or_parts (eqb s.tx t) (prepared t log) c in (a, b, y, rw x)) (leads base log h.0 t)
leads base (log ▸ r) h t = leads_same t log r refl refl (λ a b c. (a, b, c, refl)) (leads base log h.0 t)

-- the updates that the hops of a transaction meet are its pending ones, and no hop is bad
pub walk_meets_pending : (base : BasePages) (log : History) (t : ℕ) → IsLawful base log → hops t log (undo_next_of t log) ≡ record { met = pending t log; ends = 0 }
walk_meets_pending base log t h = (leads base log h t).undo_next
