-- What is kept of one transaction, after one more record.
use Rattle.std.proofs.Common.{◌≡◌, ◌≢◌, ◌+◌, ◌&&◌, not, ℕ, suc, Bool, true, false, List, [], ◌∷◌, ◌++◌, drop, map, Some, refl, sym, ap, subst, ◌∙◌, arith, eqb, eq-eqb, ne_eqb, length}
use Rattle.std.specs.Prelude.{All, reverse}
use Rattle.std.proofs.lemmas.Bool.{and_right}
use lib.ListN.{length-reverse}
use Rattle.std.proofs.lemmas.List.{map_push, reverse-append, length-map}
use Rattle.std.proofs.lemmas.List.Elements.{All-push, All-pop, All-weaker}
use Rattle.log_laws.specs.declared.state.State.TheVariants.{Active, Prepared, Aborting}
use Rattle.wal.specs.declared.record.Entry.{Entry}
use Rattle.log_laws.specs.Records.{UpdateRecord, CompensationRecord, PlainRecord, LogRecord, Update, Compensation, Commit, Abort, End, Prepare, CheckpointBegin, CheckpointEnd, History, start, ◌▸◌, last_lsn, record_at}
use Rattle.log_laws.specs.Meaning.{BasePages, undo_next_of, is_of, aborted, prepared, in_doubt, is_unfinished, state_at, state_by, pending}
use Rattle.log_laws.specs.Laws.{Compensates, IsLawful}
use Rattle.log_laws.specs.Hops.{Walk, hops}
use Rattle.log_laws.proofs.Walks.{hops_other, walk_meets_pending}
use Rattle.log_laws.proofs.Histories.{record_last, record_more}
use Rattle.journal.specs.Transactions.{Pending}
use Rattle.journal.specs.Transactions.{Transaction}
use Rattle.journal.specs.Transactions.{IsPending, lsn_in, IsTransaction}

-- STATES
by_active : (a p : Bool) → state_by a p ≡ Active → (a ≡ false) × (p ≡ false)
by_active true p e = absurd (cc)
by_active false true e = absurd (cc)
by_active false false e = (refl, refl)

by_unprepared : (a p : Bool) → state_by a p ≢ Prepared → (p && not a) ≡ false
by_unprepared true true n = refl
by_unprepared true false n = refl
by_unprepared false true n = absurd (n refl)
by_unprepared false false n = refl

by_unaborted : (a p : Bool) → state_by a p ≢ Aborting → a ≡ false
by_unaborted true p n = absurd (n refl)
by_unaborted false p n = refl

pub active_flags : (t : ℕ) (log : History) → state_at t log ≡ Active → (aborted t log ≡ false) × (prepared t log ≡ false)
active_flags t log e = by_active (aborted t log) (prepared t log) e

pub unprepared_flags : (t : ℕ) (log : History) → state_at t log ≢ Prepared → in_doubt t log ≡ false
unprepared_flags t log n = and_right (is_unfinished t log) (prepared t log && not (aborted t log)) (by_unprepared (aborted t log) (prepared t log) n)

pub unaborted_flags : (t : ℕ) (log : History) → state_at t log ≢ Aborting → aborted t log ≡ false
unaborted_flags t log n = by_unaborted (aborted t log) (prepared t log) n

-- PENDING UPDATES
pub pending_more : (log : History) (r : LogRecord) (t : ℕ) (p : Pending) → IsPending log t p → IsPending (log ▸ r) t p
pending_more log r t p h =
    record { after = h.after; found = record_more log r p.lsn (Update (record { tx = t; prev = p.prev; page = p.page; slot = p.slot; before = p.before; after = h.after })) h.found }

pub all_more : (log : History) (r : LogRecord) (t : ℕ) (ps : List Pending) → All (IsPending log t) ps → All (IsPending (log ▸ r) t) ps
all_more log r t ps h = All-weaker (IsPending log t) (IsPending (log ▸ r) t) (pending_more log r t) ps h

pub stack_push : (ps : List Pending) (p : Pending) → reverse (map lsn_in (ps ++ p ∷ [])) ≡ p.lsn ∷ reverse (map lsn_in ps)
stack_push ps p = ap (λ (xs : List ℕ). reverse xs) (map_push lsn_in ps p) ∙ reverse-append (map lsn_in ps) (p.lsn ∷ [])

-- AFTER A RECORD OF ANOTHER TRANSACTION
pub transaction_other : (t : ℕ) (log : History) (r : LogRecord) (x : Transaction) → is_of t r ≡ false → IsTransaction log t x → IsTransaction (log ▸ r) t x
transaction_other t log (Update u) x e h =
    record { unfinished = h.unfinished; state = h.state; last = rw e h.last; undo_next = rw e h.undo_next; stack = rw e h.stack; found = all_more log (Update u) t x.pending h.found }
transaction_other t log (Compensation u) x e h =
    record { unfinished = h.unfinished; state = h.state; last = rw e h.last; undo_next = rw e h.undo_next; stack = rw e h.stack; found = all_more log (Compensation u) t x.pending h.found }
transaction_other t log (Commit u) x e h =
    record { unfinished = rw e h.unfinished; state = h.state; last = rw e h.last; undo_next = h.undo_next; stack = h.stack; found = all_more log (Commit u) t x.pending h.found }
transaction_other t log (Abort u) x e h =
    record { unfinished = h.unfinished; state = rw e h.state; last = rw e h.last; undo_next = h.undo_next; stack = h.stack; found = all_more log (Abort u) t x.pending h.found }
transaction_other t log (End u) x e h =
    record { unfinished = rw e h.unfinished; state = h.state; last = rw e h.last; undo_next = h.undo_next; stack = h.stack; found = all_more log (End u) t x.pending h.found }
transaction_other t log (Prepare u) x e h =
    record { unfinished = h.unfinished; state = rw e h.state; last = rw e h.last; undo_next = h.undo_next; stack = h.stack; found = all_more log (Prepare u) t x.pending h.found }
transaction_other t log CheckpointBegin x e h =
    record { unfinished = h.unfinished; state = h.state; last = h.last; undo_next = h.undo_next; stack = h.stack; found = all_more log CheckpointBegin t x.pending h.found }
transaction_other t log (CheckpointEnd begin ts d) x e h =
    record { unfinished = h.unfinished; state = h.state; last = h.last; undo_next = h.undo_next; stack = h.stack; found = all_more log (CheckpointEnd begin ts d) t x.pending h.found }

-- AFTER A RECORD OF ITS OWN
module _ (log : History) (lsn : ℕ) (at : last_lsn log + 1 ≡ lsn) (x y : Transaction) where
  next_is : lsn ≡ suc (last_lsn log)
  next_is = omega (arith, at)

  abbrev noted : UpdateRecord → Pending
  noted u = record { lsn = lsn; prev = u.prev; page = u.page; slot = u.slot; before = u.before }

  pub transaction_updates : (u : UpdateRecord) → x.entry.state ≡ Active → y.entry ≡ record { state = Active; last = lsn; undo_next = lsn } → y.pending ≡ x.pending ++ noted u ∷ [] → IsTransaction log u.tx x → IsTransaction (log ▸ Update u) u.tx y
  transaction_updates u active entry items h =
      let own : eqb u.tx u.tx ≡ true = eq-eqb u.tx u.tx refl in
      let all : All (IsPending (log ▸ Update u) u.tx) x.pending = all_more log (Update u) u.tx x.pending h.found in
      let here : IsPending (log ▸ Update u) u.tx (noted u) =
      record { after = u.after; found = ap (record_at (log ▸ Update u)) next_is ∙ record_last log (Update u) } in
      let top : reverse (map lsn_in y.pending) ≡ suc (last_lsn log) ∷ pending u.tx log =
      ap (λ (ps : List Pending). reverse (map lsn_in ps)) items ∙ stack_push x.pending (noted u) ∙ ap (λ n. n ∷ reverse (map lsn_in x.pending)) next_is ∙ ap (λ (ns : List ℕ). suc (last_lsn log) ∷ ns) (sym h.stack) in
      record {
        unfinished = h.unfinished;
        state = ap (λ (e : Entry). e.state) entry ∙ sym active ∙ h.state;
        last = rw own (ap (λ (e : Entry). e.last) entry ∙ next_is);
        undo_next = rw own (ap (λ (e : Entry). e.undo_next) entry ∙ next_is);
        stack = rw own (sym top);
        found = subst (All (IsPending (log ▸ Update u) u.tx)) (sym items) (All-push (IsPending (log ▸ Update u) u.tx) x.pending (noted u) all here);
      }

  pub transaction_undoes : (c : CompensationRecord) (p : Pending) → y.entry ≡ record { state = x.entry.state; last = lsn; undo_next = c.undo_next } → x.pending ≡ y.pending ++ p ∷ [] → IsTransaction log c.tx x → IsTransaction (log ▸ Compensation c) c.tx y
  transaction_undoes c p entry items h =
      let own : eqb c.tx c.tx ≡ true = eq-eqb c.tx c.tx refl in
      let popped : All (IsPending log c.tx) y.pending = (All-pop (IsPending log c.tx) x.pending y.pending (Some p) items h.found).0 in
      let stacked : pending c.tx log ≡ p.lsn ∷ reverse (map lsn_in y.pending) = h.stack ∙ ap (λ (ps : List Pending). reverse (map lsn_in ps)) items ∙ stack_push y.pending p in
      record {
        unfinished = h.unfinished;
        state = ap (λ (e : Entry). e.state) entry ∙ h.state;
        last = rw own (ap (λ (e : Entry). e.last) entry ∙ next_is);
        undo_next = rw own (ap (λ (e : Entry). e.undo_next) entry);
        stack = rw own (ap (drop 1) stacked);
        found = all_more log (Compensation c) c.tx y.pending popped;
      }

  pub transaction_aborts : (s : PlainRecord) → y.entry ≡ record { state = Aborting; last = lsn; undo_next = x.entry.undo_next } → y.pending ≡ x.pending → IsTransaction log s.tx x → IsTransaction (log ▸ Abort s) s.tx y
  transaction_aborts s entry items h =
      let own : eqb s.tx s.tx ≡ true = eq-eqb s.tx s.tx refl in
      record {
        unfinished = h.unfinished;
        state = rw own (ap (λ (e : Entry). e.state) entry);
        last = rw own (ap (λ (e : Entry). e.last) entry ∙ next_is);
        undo_next = ap (λ (e : Entry). e.undo_next) entry ∙ h.undo_next;
        stack = h.stack ∙ ap (λ (ps : List Pending). reverse (map lsn_in ps)) (sym items);
        found = subst (All (IsPending (log ▸ Abort s) s.tx)) (sym items) (all_more log (Abort s) s.tx x.pending h.found);
      }

  pub transaction_prepares : (s : PlainRecord) → x.entry.state ≡ Active → y.entry ≡ record { state = Prepared; last = lsn; undo_next = x.entry.undo_next } → y.pending ≡ x.pending → IsTransaction log s.tx x → IsTransaction (log ▸ Prepare s) s.tx y
  transaction_prepares s active entry items h =
      let own : eqb s.tx s.tx ≡ true = eq-eqb s.tx s.tx refl in
      let calm : aborted s.tx log ≡ false = (active_flags s.tx log (sym h.state ∙ active)).0 in
      record {
        unfinished = h.unfinished;
        state = rw (calm, own) (ap (λ (e : Entry). e.state) entry);
        last = rw own (ap (λ (e : Entry). e.last) entry ∙ next_is);
        undo_next = ap (λ (e : Entry). e.undo_next) entry ∙ h.undo_next;
        stack = h.stack ∙ ap (λ (ps : List Pending). reverse (map lsn_in ps)) (sym items);
        found = subst (All (IsPending (log ▸ Prepare s) s.tx)) (sym items) (all_more log (Prepare s) s.tx x.pending h.found);
      }

-- THE NEWEST PENDING UPDATE is what a CLR undoes
pub newest_compensates : (log : History) (t : ℕ) (x : Transaction) (below : List Pending) (p : Pending) (c : CompensationRecord) → x.pending ≡ below ++ p ∷ [] → c.tx ≡ t → c.page ≡ p.page → c.slot ≡ p.slot → c.image ≡ p.before → c.undo_next ≡ p.prev
    → IsTransaction log t x → Compensates log c
newest_compensates log t x below p c items own page slot image undo_next h =
    let found : IsPending log t p = (All-pop (IsPending log t) x.pending below (Some p) items h.found).1 in
    let stacked : pending t log ≡ p.lsn ∷ reverse (map lsn_in below) = h.stack ∙ ap (λ (ps : List Pending). reverse (map lsn_in ps)) items ∙ stack_push below p in
    record {
      lsn = p.lsn;
      below = reverse (map lsn_in below);
      update = record { tx = t; prev = p.prev; page = p.page; slot = p.slot; before = p.before; after = found.after };
      newest = ap (λ k. pending k log) own ∙ stacked;
      found = found.found;
      page = page;
      slot = slot;
      image = image;
      undo_next = undo_next;
    }

pub none_pending : (log : History) (t : ℕ) (x : Transaction) → x.pending ≡ [] → IsTransaction log t x → pending t log ≡ []
none_pending log t x items h = h.stack ∙ ap (λ (ps : List Pending). reverse (map lsn_in ps)) items

-- a walk that begins at 0 meets nothing
nowhere : (t : ℕ) (log : History) → hops t log 0 ≡ record { met = []; ends = 0 }
nowhere t (start _) = refl
nowhere t (log ▸ r) = hops_other t log r 0 (ne_eqb 0 (suc (last_lsn log)) (λ e. omega (arith, e))) ∙ nowhere t log

no_items : (ps : List Pending) → reverse (map lsn_in ps) ≡ [] → ps ≡ []
no_items [] e = refl
no_items (p ∷ ps) e =
    let n : length (reverse (map lsn_in (p ∷ ps))) ≡ 0 = ap length e in
    absurd (omega (arith, n, length-reverse (map lsn_in (p ∷ ps)), length-map (p ∷ ps) lsn_in))

-- if its UndoNxtLSN is 0, it has nothing to undo
pub none_by_hops : (base : BasePages) (log : History) → IsLawful base log → (t : ℕ) (x : Transaction) → IsTransaction log t x → x.entry.undo_next ≡ 0 → x.pending ≡ []
none_by_hops base log lawful t x h zero =
    let to : undo_next_of t log ≡ 0 = sym h.undo_next ∙ zero in
    let walk = sym (walk_meets_pending base log t lawful) ∙ ap (hops t log) to ∙ nowhere t log in
    let none : pending t log ≡ [] = ap (λ (w : Walk). w.met) walk in
    no_items x.pending (sym h.stack ∙ none)
