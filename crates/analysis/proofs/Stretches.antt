-- What a stretch of the log does to the transaction table, record by record, and joined to the table before it.
use Rattle.std.proofs.Common.{ℕ, zero, suc, ◌≡◌, ◌≤◌, ◌<◌, ◌+◌, Bool, true, false, ◌||◌, ◌&&◌, cond, eqb, eq-eqb, ne_eqb, List, [], ◌∷◌, ◌++◌, map, take, length, get_or, Option, Some, None, refl, sym, ap, ap₂, ◌∙◌, arith, inl, inr}
use Rattle.std.proofs.Math.Bool.{or-false, or-true}
use Rattle.std.proofs.lemmas.Bool.{cases_Bool, cases_eq}
use Rattle.std.proofs.lemmas.List.{take_more}
use Rattle.std.proofs.lemmas.List.Recursion.{or_push}
use Rattle.log_laws.specs.declared.state.State.{State}
use Rattle.log_laws.specs.declared.state.State.TheVariants.{Active, Prepared, Aborting}
use Rattle.log_laws.specs.Records.{TableEntry, LogRecord, History, start, ◌▸◌, ◌▸▸◌, last_lsn}
use Rattle.log_laws.specs.Tail.{is_among}
use Rattle.tables.proofs.Lookups.{eqb-sym}
use Rattle.wal.specs.declared.record.Entry.{Entry}
use Rattle.wal.specs.Content.{entry_of}
use Rattle.wal.proofs.Entries.{Rise}
use Rattle.wal.specs.declared.glance.Glance.{Glance}
use Rattle.wal.specs.declared.glance.Glance.TheVariants as seen
use Rattle.analysis.specs.Tables.{analysed_entry, entry_at}
use Rattle.analysis.specs.Steps.{prepared_from, state_in, undo_next_of_entry, entry_after, entry_seen}
use Rattle.analysis.specs.Stretch.{Stretch, state_joined, with_nothing_to_undo, base_left, entry_joined, entry_behind, AddsRecord, DescribesRecord, finish_seen, undoes_last_seen, StretchesGoOn}
use Rattle.analysis.proofs.Scanned.{saying, entry_more, entry_next, entry_glanced}
use Rattle.analysis.proofs.Passing.{entries_go_on}

-- JOINED STATES
joined_active : (base : State) → state_joined Active base ≡ base
joined_active Active = refl
joined_active Prepared = refl
joined_active Aborting = refl

joined_prepared : (own base : State) → state_joined (prepared_from own) base ≡ prepared_from (state_joined own base)
joined_prepared Active Active = refl
joined_prepared Active Prepared = refl
joined_prepared Active Aborting = refl
joined_prepared Prepared Active = refl
joined_prepared Prepared Prepared = refl
joined_prepared Prepared Aborting = refl
joined_prepared Aborting base = refl

-- what the joined entry has as state and undo-next
state_in-joined : (t : ℕ) (own base : Option TableEntry) → state_in (entry_joined t own base) ≡ state_joined (state_in own) (state_in base)
state_in-joined t None base = sym (joined_active (state_in base))
state_in-joined t (Some e) base = refl

undo_next-joined : (t : ℕ) (own base : Option TableEntry) → undo_next_of_entry (entry_joined t own base) ≡ cond (eqb (undo_next_of_entry own) 0) (undo_next_of_entry base) (undo_next_of_entry own)
undo_next-joined t None base = refl
undo_next-joined t (Some e) base = refl

-- WHAT COUNTS OF THE BASE
left_same : (finished undone : Bool) (base : Option TableEntry) → base_left (finished || false) (undone || false) base ≡ base_left finished undone base
left_same finished undone base = ap₂ (λ f u. base_left f u base) (or-false finished) (or-false undone)

nothing_state : (base : Option TableEntry) → state_in (with_nothing_to_undo base) ≡ state_in base
nothing_state None = refl
nothing_state (Some e) = refl

pub nothing_undo_next : (base : Option TableEntry) → undo_next_of_entry (with_nothing_to_undo base) ≡ 0
nothing_undo_next None = refl
nothing_undo_next (Some e) = refl

pub left_state : (finished undone : Bool) (base : Option TableEntry) → state_in (base_left finished true base) ≡ state_in (base_left finished undone base)
left_state true undone base = refl
left_state false true base = refl
left_state false false base = nothing_state base

left_undo_next : (finished : Bool) (base : Option TableEntry) → undo_next_of_entry (base_left finished true base) ≡ 0
left_undo_next true base = refl
left_undo_next false base = nothing_undo_next base

-- ONE MORE RECORD
-- an update, or a CLR that sends undo on
sets_undo_next : (t tx lsn n : ℕ) (own base : Option TableEntry) → eqb n 0 ≡ false
    → entry_joined t (cond (eqb tx t) (saying t (state_in own) lsn n) own) base ≡ cond (eqb tx t) (saying t (state_in (entry_joined t own base)) lsn n) (entry_joined t own base)
sets_undo_next t tx lsn n own base some =
    elim (cases_Bool (eqb tx t)) [
      | inl i ↦ rw i (ap₂ (λ s k. saying t s lsn k) (sym (state_in-joined t own base)) (ap (λ b. cond b (undo_next_of_entry base) n) some))
      | inr i ↦ rw i refl
    ]

-- a CLR that ends undo
ends_undo : (t tx lsn : ℕ) (own base : Option TableEntry) (f u : Bool)
    → entry_joined t (cond (eqb tx t) (saying t (state_in own) lsn 0) own) (base_left (f || false) (u || eqb tx t) base)
    ≡ cond (eqb tx t) (saying t (state_in (entry_joined t own (base_left f u base))) lsn 0) (entry_joined t own (base_left f u base))
ends_undo t tx lsn own base f u =
    elim (cases_Bool (eqb tx t)) [
      | inl i ↦
          rw (i, or-false f, or-true u)
          (ap₂ (λ s k. saying t s lsn k) (ap (state_joined (state_in own)) (left_state f u base) ∙ sym (state_in-joined t own (base_left f u base))) (left_undo_next f base))
      | inr i ↦ rw (i, or-false f, or-false u) refl
    ]

finishes : (t tx : ℕ) (own base : Option TableEntry) (f u : Bool)
    → entry_joined t (cond (eqb tx t) None own) (base_left (f || eqb tx t) (u || false) base) ≡ cond (eqb tx t) None (entry_joined t own (base_left f u base))
finishes t tx own base f u =
    elim (cases_Bool (eqb tx t)) [
      | inl i ↦ rw (i, or-true f) refl
      | inr i ↦ rw (i, or-false f, or-false u) refl
    ]

aborts : (t tx lsn : ℕ) (own base : Option TableEntry)
    → entry_joined t (cond (eqb tx t) (saying t Aborting lsn (undo_next_of_entry own)) own) base
    ≡ cond (eqb tx t) (saying t Aborting lsn (undo_next_of_entry (entry_joined t own base))) (entry_joined t own base)
aborts t tx lsn own base =
    elim (cases_Bool (eqb tx t)) [
      | inl i ↦ rw i (ap (saying t Aborting lsn) (sym (undo_next-joined t own base)))
      | inr i ↦ rw i refl
    ]

prepares : (t tx lsn : ℕ) (own base : Option TableEntry)
    → entry_joined t (cond (eqb tx t) (saying t (prepared_from (state_in own)) lsn (undo_next_of_entry own)) own) base
    ≡ cond (eqb tx t) (saying t (prepared_from (state_in (entry_joined t own base))) lsn (undo_next_of_entry (entry_joined t own base))) (entry_joined t own base)
prepares t tx lsn own base =
    elim (cases_Bool (eqb tx t)) [
      | inl i ↦
          rw i
          (ap₂ (λ s k. saying t s lsn k) (joined_prepared (state_in own) (state_in base) ∙ ap prepared_from (sym (state_in-joined t own base))) (sym (undo_next-joined t own base)))
      | inr i ↦ rw i refl
    ]

joined_more : (lsn t : ℕ) (g : Glance) (own base : Option TableEntry) (f u : Bool) → eqb lsn 0 ≡ false
    → entry_joined t (entry_seen lsn g t own) (base_left (f || finish_seen g t) (u || undoes_last_seen g t) base) ≡ entry_seen lsn g t (entry_joined t own (base_left f u base))
joined_more lsn t (seen.Update tx page slot) own base f u some =
    ap (entry_joined t (entry_seen lsn (seen.Update tx page slot) t own)) (left_same f u base) ∙ sets_undo_next t tx lsn lsn own (base_left f u base) some
joined_more lsn t (seen.Compensation tx page slot zero) own base f u some = ends_undo t tx lsn own base f u
joined_more lsn t (seen.Compensation tx page slot (suc n)) own base f u some =
    let more : eqb (suc n) 0 ≡ false = ne_eqb (suc n) 0 (λ e. omega (arith, e)) in
    ap (λ b. entry_joined t (entry_seen lsn (seen.Compensation tx page slot (suc n)) t own) (base_left (f || false) (u || (b && eqb tx t)) base)) more
    ∙ ap (entry_joined t (entry_seen lsn (seen.Compensation tx page slot (suc n)) t own)) (left_same f u base) ∙ sets_undo_next t tx lsn (suc n) own (base_left f u base) more
joined_more lsn t (seen.Commit tx) own base f u some = finishes t tx own base f u
joined_more lsn t (seen.Abort tx) own base f u some =
    ap (entry_joined t (entry_seen lsn (seen.Abort tx) t own)) (left_same f u base) ∙ aborts t tx lsn own (base_left f u base)
joined_more lsn t (seen.End tx) own base f u some = finishes t tx own base f u
joined_more lsn t (seen.Prepare tx) own base f u some =
    ap (entry_joined t (entry_seen lsn (seen.Prepare tx) t own)) (left_same f u base) ∙ prepares t tx lsn own (base_left f u base)
joined_more lsn t seen.Checkpoint own base f u some = ap (entry_joined t own) (left_same f u base)

-- the same of what was found
pub found_more : (lsn t : ℕ) (g : Glance) (old new : Stretch) (base : Option TableEntry) → eqb lsn 0 ≡ false
    → entry_at t new.entries ≡ entry_seen lsn g t (entry_at t old.entries)
    → is_among t new.finished ≡ (is_among t old.finished || finish_seen g t)
    → is_among t new.undone ≡ (is_among t old.undone || undoes_last_seen g t)
    → entry_behind t new base ≡ entry_seen lsn g t (entry_behind t old base)
found_more lsn t g old new base some entries finished undone =
    ap₂ (entry_joined t) entries (ap₂ (λ f u. base_left f u base) finished undone)
    ∙ joined_more lsn t g (entry_at t old.entries) base (is_among t old.finished) (is_among t old.undone) some

pub describes_more : (lsn : ℕ) (g : Glance) (old new : Stretch) → AddsRecord lsn g old new → DescribesRecord lsn g old new
describes_more lsn g old new step log r is at describes t base =
    entry_next t 0 base _ _ log r lsn (omega arith) at (describes t base) (entry_glanced lsn t r g _ _ is (step t base))

-- AFTER A LOG
-- the records of a stretch all come after m
same_after : (t m : ℕ) (base : Option TableEntry) (log : History) (records : List LogRecord) → m ≤ last_lsn log
    → analysed_entry t m base log ≡ analysed_entry t 0 base log → analysed_entry t m base (log ▸▸ records) ≡ analysed_entry t 0 base (log ▸▸ records)
same_after t m base log [] le same = same
same_after t m base log (r ∷ records) le same =
    same_after t m base (log ▸ r) records (omega (arith, le))
    (entry_more t m base log r le ∙ ap (entry_after (suc (last_lsn log)) r t) same ∙ sym (entry_more t 0 base log r (omega arith)))

pub stretches_go_on : StretchesGoOn
stretches_go_on t m base log records stretch le describes =
    let before = analysed_entry t m base log in
    entries_go_on t m base log records ∙ same_after t m before (start (last_lsn log)) records le refl ∙ sym (describes t before)

-- NO ENTRY after a stretch that has none, if there is none before it
left_none : (finished undone : Bool) → base_left finished undone None ≡ None
left_none true undone = refl
left_none false true = refl
left_none false false = refl

pub none_behind : (t : ℕ) (stretch : Stretch) → entry_at t stretch.entries ≡ None → entry_behind t stretch None ≡ None
none_behind t stretch none = ap₂ (entry_joined t) none (left_none (is_among t stretch.finished) (is_among t stretch.undone))

-- and only then
pub none_joined : (t : ℕ) (own base : Option TableEntry) → entry_joined t own base ≡ None → own ≡ None
none_joined t None base none = refl
none_joined t (Some e) base none = absurd cc

-- LISTS OF TRANSACTIONS
-- one more
pub among_push : (t tx : ℕ) (listed : List ℕ) → is_among t (listed ++ tx ∷ []) ≡ (is_among t listed || eqb tx t)
among_push t tx listed = or_push (is_among t) (λ n. eqb t n) refl (λ n ns. refl) listed tx ∙ ap (λ b. is_among t listed || b) (eqb-sym t tx)

pub among_next : (t i d : ℕ) (listed : List ℕ) → i < length listed → is_among t (take (i + 1) listed) ≡ (is_among t (take i listed) || eqb (get_or listed i d) t)
among_next t i d listed lt = ap (is_among t) (take_more listed i d lt) ∙ among_push t (get_or listed i d) (take i listed)

-- what is done to each of them
pub removed_more : (own among : Bool) (first : Option TableEntry) → cond own None (cond among None first) ≡ cond (among || own) None first
removed_more true true first = refl
removed_more true false first = refl
removed_more false true first = refl
removed_more false false first = refl

nothing_twice : (base : Option TableEntry) → with_nothing_to_undo (with_nothing_to_undo base) ≡ with_nothing_to_undo base
nothing_twice None = refl
nothing_twice (Some e) = refl

pub nothing_more : (own among : Bool) (first : Option TableEntry)
    → cond own (with_nothing_to_undo (cond among (with_nothing_to_undo first) first)) (cond among (with_nothing_to_undo first) first) ≡ cond (among || own) (with_nothing_to_undo first) first
nothing_more true true first = nothing_twice first
nothing_more true false first = refl
nothing_more false true first = refl
nothing_more false false first = refl

pub left_then : (finished undone : Bool) (base : Option TableEntry) → cond undone (with_nothing_to_undo (cond finished None base)) (cond finished None base) ≡ base_left finished undone base
left_then true true base = refl
left_then true false base = refl
left_then false true base = refl
left_then false false base = refl

-- WHAT IS PUT FOR ONE TRANSACTION, by what the table has
pub nothing_kept : (t tx : ℕ) (old : Entry) (now : ℕ → Option TableEntry) → now tx ≡ Some (entry_of (tx, old))
    → cond (eqb tx t) (saying t old.state old.last 0) (now t) ≡ cond (eqb tx t) (with_nothing_to_undo (now t)) (now t)
nothing_kept t tx old now is =
    elim (cases_eq tx t) [
      | inl e ↦
          (let here : with_nothing_to_undo (now t) ≡ saying t old.state old.last 0 =
          ap (λ n. with_nothing_to_undo (now n)) (sym e) ∙ ap with_nothing_to_undo is ∙ ap (λ n. saying n old.state old.last 0) e in
          rw (eq-eqb tx t e) (sym here))
      | inr ne ↦ rw (ne_eqb tx t ne) refl
    ]

pub nothing_absent : (t tx : ℕ) (now : ℕ → Option TableEntry) → now tx ≡ None → now t ≡ cond (eqb tx t) (with_nothing_to_undo (now t)) (now t)
nothing_absent t tx now none =
    elim (cases_eq tx t) [
      | inl e ↦ (let absent : now t ≡ None = ap now (sym e) ∙ none in rw (eq-eqb tx t e, absent) refl)
      | inr ne ↦ rw (ne_eqb tx t ne) refl
    ]

pub joined_kept : (t tx : ℕ) (own : Entry) (state : State) (undo_next : ℕ) (now : ℕ → Option TableEntry)
    → state ≡ state_joined own.state (state_in (now tx)) → undo_next ≡ cond (eqb own.undo_next 0) (undo_next_of_entry (now tx)) own.undo_next
    → cond (eqb tx t) (saying t state own.last undo_next) (now t) ≡ cond (eqb tx t) (entry_joined tx (Some (entry_of (tx, own))) (now t)) (now t)
joined_kept t tx own state undo_next now is_state is_undo_next =
    elim (cases_eq tx t) [
      | inl e ↦
          rw (eq-eqb tx t e)
          (ap₂ (λ s n. saying t s own.last n) (is_state ∙ ap (λ n. state_joined own.state (state_in (now n))) e)
          (is_undo_next ∙ ap (λ n. cond (eqb own.undo_next 0) (undo_next_of_entry (now n)) own.undo_next) e)
          ∙ ap (λ n. entry_joined n (Some (entry_of (n, own))) (now t)) (sym e))
      | inr ne ↦ rw (ne_eqb tx t ne) refl
    ]

-- THE ENTRIES OF A MAP, one after the other
-- the number of an entry is above those in front of it
number_above : (b tx : ℕ) (own : Entry) (done rest : List (ℕ × Entry)) → Rise b (map entry_of (done ++ (tx, own) ∷ rest)) → b ≤ tx
number_above b tx own [] rest r = r.0
number_above b tx own (e ∷ done) rest r = (let above = number_above (suc e.0) tx own done rest r.1 in omega (arith, r.0, above))

pub none_in_front : (b tx : ℕ) (own : Entry) (done rest : List (ℕ × Entry)) → Rise b (map entry_of (done ++ (tx, own) ∷ rest)) → entry_at tx done ≡ None
none_in_front b tx own [] rest r = refl
none_in_front b tx own (e ∷ done) rest r =
    let above = number_above (suc e.0) tx own done rest r.1 in
    ap (λ c. cond c (Some (entry_of e)) (entry_at tx done)) (ne_eqb e.0 tx (λ i. omega (arith, i, above))) ∙ none_in_front (suc e.0) tx own done rest r.1

entry_push : (t tx : ℕ) (own : Entry) (done : List (ℕ × Entry)) → entry_at tx done ≡ None → entry_at t (done ++ (tx, own) ∷ []) ≡ cond (eqb tx t) (Some (entry_of (t, own))) (entry_at t done)
entry_push t tx own [] none =
    elim (cases_eq tx t) [
      | inl i ↦ rw (eq-eqb tx t i) (ap (λ n. Some (entry_of (n, own))) i)
      | inr ne ↦ rw (ne_eqb tx t ne) refl
    ]
entry_push t tx own (e ∷ done) none =
    elim (cases_eq e.0 tx) [
      | inl i ↦ absurd (let some = sym (ap (λ c. cond c (Some (entry_of e)) (entry_at tx done)) (eq-eqb e.0 tx i)) ∙ none in cc)
      | inr ne ↦
          (let later : entry_at tx done ≡ None = sym (ap (λ c. cond c (Some (entry_of e)) (entry_at tx done)) (ne_eqb e.0 tx ne)) ∙ none in
          elim (cases_eq e.0 t) [
            | inl i ↦ rw (eq-eqb e.0 t i, ne_eqb tx t (λ j. ne (i ∙ sym j))) refl
            | inr other ↦ rw (ne_eqb e.0 t other) (entry_push t tx own done later)
          ])
    ]

-- one more of them is joined
pub joined_next : (t tx : ℕ) (own : Entry) (done : List (ℕ × Entry)) (first : Option TableEntry) (now : ℕ → Option TableEntry) → entry_at tx done ≡ None
    → now t ≡ entry_joined t (entry_at t done) first
    → cond (eqb tx t) (entry_joined tx (Some (entry_of (tx, own))) (now t)) (now t) ≡ entry_joined t (entry_at t (done ++ (tx, own) ∷ [])) first
joined_next t tx own done first now none is =
    elim (cases_eq tx t) [
      | inl i ↦
          (let absent : entry_at t done ≡ None = ap (λ n. entry_at n done) (sym i) ∙ none in
          let before : now t ≡ first = is ∙ ap (λ o. entry_joined t o first) absent in
          let pushed : entry_at t (done ++ (tx, own) ∷ []) ≡ Some (entry_of (t, own)) = entry_push t tx own done none ∙ ap (λ c. cond c (Some (entry_of (t, own))) (entry_at t done)) (eq-eqb tx t i) in
          ap (λ c. cond c (entry_joined tx (Some (entry_of (tx, own))) (now t)) (now t)) (eq-eqb tx t i)
          ∙ ap (λ n. entry_joined n (Some (entry_of (n, own))) (now t)) i ∙ ap (entry_joined t (Some (entry_of (t, own)))) before ∙ ap (λ o. entry_joined t o first) (sym pushed))
      | inr ne ↦
          (let pushed : entry_at t (done ++ (tx, own) ∷ []) ≡ entry_at t done = entry_push t tx own done none ∙ ap (λ c. cond c (Some (entry_of (t, own))) (entry_at t done)) (ne_eqb tx t ne) in
          ap (λ c. cond c (entry_joined tx (Some (entry_of (tx, own))) (now t)) (now t)) (ne_eqb tx t ne) ∙ is ∙ ap (λ o. entry_joined t o first) (sym pushed))
    ]
