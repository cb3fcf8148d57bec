-- The holder of a cell: the transaction of its last update or CLR, until that transaction finishes.
use Rattle.std.proofs.Common.{ℕ, suc, ◌≡◌, Bool, true, false, cond, ◌||◌, ◌&&◌, not, Option, Some, None, refl, sym, ap, ap₂, ◌∙◌, inl, inr, eq-eqb, eqb-true, eqb}
use Rattle.std.proofs.lemmas.Bool.{true_from_ne_false, cases_Bool, false≢true, eqb-false, or_left, or_right, or_parts, or_from, both_ways, and_parts, and_from, and_left, and_right, not-true}
use Rattle.log_laws.specs.Records.{UpdateRecord, CompensationRecord, LogRecord, Update, Compensation, Commit, End, History, start, ◌▸◌, last_lsn, record_at}
use Rattle.log_laws.specs.Meaning.{BasePages, pending, finished, committed, ended, is_unfinished, is_of, touches, writes, has, owner, is_owned_by, last_writer}
use Rattle.log_laws.specs.Laws.{IsLawful, Compensates, Strictness}
use Rattle.log_laws.specs.Tail.{is_among}
use Rattle.log_laws.proofs.Stacks.{pending_found}

-- FACTS OF `has`
pub found_has : (test : LogRecord → Bool) (log : History) (n : ℕ) (x : LogRecord) → record_at log n ≡ Some x → test x ≡ true → has test log ≡ true
found_has test (start _) n x f h = absurd (cc)
found_has test (log ▸ r) n x f h =
    elim (cases_Bool (eqb n (suc (last_lsn log)))) [
      | inl e ↦
          (let g : Some r ≡ Some x = rw e at f in
          let i : r ≡ x = cc in
          or_left (test r) (has test log) (ap test i ∙ h))
      | inr e ↦ or_right (test r) (has test log) (found_has test log n x (rw e at f) h)
    ]

-- the cell of the update on top of the pending ones is touched
pub compensated_touches : (log : History) (c : CompensationRecord) → Compensates log c → touches c.tx c.page c.slot log ≡ true
compensated_touches log c k =
    let among : is_among k.lsn (pending c.tx log) ≡ true = ap (is_among k.lsn) k.newest ∙ or_left (eqb k.lsn k.lsn) (is_among k.lsn k.below) (eq-eqb k.lsn k.lsn refl) in
    let (u, found, own) = pending_found c.tx log k.lsn among in
    let same : u ≡ k.update = cc (found, k.found) in
    found_has (λ r. is_of c.tx r && writes c.page c.slot r) log k.lsn (Update u) found
    (and_from (eqb u.tx c.tx) (eqb u.page c.page && eqb u.slot c.slot) (eq-eqb u.tx c.tx own)
    (and_from (eqb u.page c.page) (eqb u.slot c.slot) (eq-eqb u.page c.page (ap (λ x. x.page) same ∙ sym k.page)) (eq-eqb u.slot c.slot (ap (λ x. x.slot) same ∙ sym k.slot))))

-- an unfinished transaction has a record, and has not finished
pub unfinished_has : (t : ℕ) (log : History) → is_unfinished t log ≡ true → has (is_of t) log ≡ true
unfinished_has t log h = (and_parts (has (is_of t) log) (not (finished t log)) h).0

pub unfinished_open : (t : ℕ) (log : History) → is_unfinished t log ≡ true → finished t log ≡ false
unfinished_open t log h = not-true (finished t log) (and_parts (has (is_of t) log) (not (finished t log)) h).1

-- HOLDERS
abbrev pub release : ℕ → Option ℕ → Option ℕ
release t None = None
release t (Some h) = cond (eqb t h) None (Some h)

abbrev pub holder : ℕ → ℕ → History → Option ℕ
holder page slot (start _) = None
holder page slot (log ▸ Update u) = cond (eqb u.page page && eqb u.slot slot) (Some u.tx) (holder page slot log)
holder page slot (log ▸ Compensation c) = cond (eqb c.page page && eqb c.slot slot) (Some c.tx) (holder page slot log)
holder page slot (log ▸ Commit s) = release s.tx (holder page slot log)
holder page slot (log ▸ End s) = release s.tx (holder page slot log)
holder page slot (log ▸ _) = holder page slot log

-- a transaction that still holds the cell is not the one that finished
pub release_keeps : (t h : ℕ) (o : Option ℕ) → release t o ≡ Some h → (eqb t h ≡ false) × (o ≡ Some h)
release_keeps t h None e = absurd (cc)
release_keeps t h (Some g) e =
    elim (cases_Bool (eqb t g)) [
      | inl i ↦ absurd (let e' : None ≡ Some h = rw i at e in cc)
      | inr i ↦
          (let e' : Some g ≡ Some h = rw i at e in
          let j : g ≡ h = cc in
          (ap (eqb t) (sym j) ∙ i, e'))
    ]

-- and another transaction still holds it
pub release_other : (t h : ℕ) (o : Option ℕ) → eqb t h ≡ false → o ≡ Some h → release t o ≡ Some h
release_other t h o i e = ap (release t) e ∙ rw i

-- the holder of a cell has not finished, and has touched it
abbrev pub Held : ℕ → ℕ → ℕ → History → Type 0
Held t page slot log = (finished t log ≡ false) × (touches t page slot log ≡ true)

-- a record that does not finish the holder does not change that
Held-more : (t page slot : ℕ) (log : History) (r : LogRecord) → finished t (log ▸ r) ≡ finished t log → Held t page slot log → Held t page slot (log ▸ r)
Held-more t page slot log r f h = (f ∙ h.0, or_right (is_of t r && writes page slot r) (touches t page slot log) h.1)

-- a record in the cell is a touch of its transaction
own_touches : (t tx page slot : ℕ) (on : Bool) (rest : Bool) → tx ≡ t → on ≡ true → ((eqb tx t && on) || rest) ≡ true
own_touches t tx page slot on rest e h = or_left (eqb tx t && on) rest (and_from (eqb tx t) on (eq-eqb tx t e) h)

-- what the holder of a cell is
pub held : (base : BasePages) (log : History) → IsLawful base log → (page slot t : ℕ) → holder page slot log ≡ Some t → Held t page slot log
held base (start _) h page slot t e = absurd (cc)
held base (log ▸ Update u) h page slot t e =
    elim (cases_Bool (eqb u.page page && eqb u.slot slot)) [
      | inl on ↦
          (let e' : Some u.tx ≡ Some t = rw on at e in
          let i : u.tx ≡ t = cc in
          (ap (λ x. finished x log) (sym i) ∙ h.1.finish.0, own_touches t u.tx page slot (eqb u.page page && eqb u.slot slot) (touches t page slot log) i on))
      | inr on ↦ Held-more t page slot log (Update u) refl (held base log h.0 page slot t (rw on at e))
    ]
held base (log ▸ Compensation c) h page slot t e =
    elim (cases_Bool (eqb c.page page && eqb c.slot slot)) [
      | inl on ↦
          (let e' : Some c.tx ≡ Some t = rw on at e in
          let i : c.tx ≡ t = cc in
          (ap (λ x. finished x log) (sym i) ∙ h.1.finish.0, own_touches t c.tx page slot (eqb c.page page && eqb c.slot slot) (touches t page slot log) i on))
      | inr on ↦ Held-more t page slot log (Compensation c) refl (held base log h.0 page slot t (rw on at e))
    ]
held base (log ▸ Commit s) h page slot t e =
    let (i, j) = release_keeps s.tx t (holder page slot log) e in
    Held-more t page slot log (Commit s) (rw i) (held base log h.0 page slot t j)
held base (log ▸ End s) h page slot t e =
    let (i, j) = release_keeps s.tx t (holder page slot log) e in
    Held-more t page slot log (End s) (rw i) (held base log h.0 page slot t j)
held base (log ▸ r) h page slot t e = Held-more t page slot log r refl (held base log h.0 page slot t e)

-- an unfinished transaction that has touched a cell holds it
older_touch : (a b rest : Bool) → (a && b) ≡ false → ((a && b) || rest) ≡ true → rest ≡ true
older_touch a b rest e h = rw e at h

-- strictness: at most one unfinished transaction has touched a cell
pub holds : (base : BasePages) (log : History) → IsLawful base log → (page slot t : ℕ) → touches t page slot log ≡ true → finished t log ≡ false → holder page slot log ≡ Some t
holds base (start _) h page slot t w f = absurd (false≢true w)
holds base (log ▸ Update u) h page slot t w f =
    elim (cases_Bool (eqb u.page page && eqb u.slot slot)) [
      | inl on ↦
          elim (cases_Bool (eqb u.tx t)) [
            | inl e ↦ rw on (ap Some (eqb-true u.tx t e))
            | inr e ↦
                (let w' : touches t page slot log ≡ true = older_touch (eqb u.tx t) (eqb u.page page && eqb u.slot slot) (touches t page slot log) (and_left (eqb u.tx t) (eqb u.page page && eqb u.slot slot) e) w in
                let (p, s) = and_parts (eqb u.page page) (eqb u.slot slot) on in
                let w'' : touches t u.page u.slot log ≡ true = ap₂ (λ x y. touches t x y log) (eqb-true u.page page p) (eqb-true u.slot slot s) ∙ w' in
                absurd (both_ways (finished t log) f (h.1.strict t (λ i. eqb-false u.tx t e (sym i)) w'')))
          ]
      | inr on ↦
          rw on (holds base log h.0 page slot t (older_touch (eqb u.tx t) (eqb u.page page && eqb u.slot slot) (touches t page slot log) (and_right (eqb u.tx t) (eqb u.page page && eqb u.slot slot) on) w) f)
    ]
holds base (log ▸ Compensation c) h page slot t w f =
    elim (cases_Bool (eqb c.page page && eqb c.slot slot)) [
      | inl on ↦
          elim (cases_Bool (eqb c.tx t)) [
            | inl e ↦ rw on (ap Some (eqb-true c.tx t e))
            | inr e ↦
                (let w' : touches t page slot log ≡ true = older_touch (eqb c.tx t) (eqb c.page page && eqb c.slot slot) (touches t page slot log) (and_left (eqb c.tx t) (eqb c.page page && eqb c.slot slot) e) w in
                let (p, s) = and_parts (eqb c.page page) (eqb c.slot slot) on in
                let v : touches c.tx page slot log ≡ true = sym (ap₂ (λ x y. touches c.tx x y log) (eqb-true c.page page p) (eqb-true c.slot slot s)) ∙ compensated_touches log c h.1.compensation in
                let a : holder page slot log ≡ Some t = holds base log h.0 page slot t w' f in
                let b : holder page slot log ≡ Some c.tx = holds base log h.0 page slot c.tx v h.1.finish.0 in
                let i : c.tx ≡ t = cc in
                absurd (eqb-false c.tx t e i))
          ]
      | inr on ↦
          rw on (holds base log h.0 page slot t (older_touch (eqb c.tx t) (eqb c.page page && eqb c.slot slot) (touches t page slot log) (and_right (eqb c.tx t) (eqb c.page page && eqb c.slot slot) on) w) f)
    ]
holds base (log ▸ Commit s) h page slot t w f =
    let (x, y) = or_parts (eqb s.tx t || committed t log) (ended t log) f in
    let (v, z) = or_parts (eqb s.tx t) (committed t log) x in
    release_other s.tx t (holder page slot log) v
    (holds base log h.0 page slot t (older_touch (eqb s.tx t) false (touches t page slot log) (and_right (eqb s.tx t) false refl) w) (or_from (committed t log) (ended t log) z y))
holds base (log ▸ End s) h page slot t w f =
    let (x, y) = or_parts (committed t log) (eqb s.tx t || ended t log) f in
    let (v, z) = or_parts (eqb s.tx t) (ended t log) y in
    release_other s.tx t (holder page slot log) v
    (holds base log h.0 page slot t (older_touch (eqb s.tx t) false (touches t page slot log) (and_right (eqb s.tx t) false refl) w) (or_from (committed t log) (ended t log) x z))
holds base (log ▸ r) h page slot t w f = holds base log h.0 page slot t (older_touch (is_of t r) false (touches t page slot log) (and_right (is_of t r) false refl) w) f

-- STRICTNESS BY THE HOLDER: a checker that keeps the holder of each cell decides it
pub strict_from_holder : (base : BasePages) (log : History) → IsLawful base log → (u : UpdateRecord) → ((t : ℕ) → holder u.page u.slot log ≡ Some t → t ≡ u.tx) → Strictness log (Update u)
strict_from_holder base log h u free other n w =
    true_from_ne_false (finished other log) (λ f. n (free other (holds base log h u.page u.slot other w f)))

-- THE LAST WRITER
-- the last writer of a cell has touched it
pub last_touches : (page slot t : ℕ) (log : History) → last_writer page slot log ≡ Some t → touches t page slot log ≡ true
last_touches page slot t (start _) h = absurd (cc)
last_touches page slot t (log ▸ r) h =
    elim (cases_Bool (writes page slot r)) [
      | inl e ↦
          (let own : owner r ≡ Some t = rw e at h in
          let is : is_of t r ≡ true = ap (is_owned_by t) own ∙ eq-eqb t t refl in
          or_left (is_of t r && writes page slot r) (touches t page slot log) (and_from (is_of t r) (writes page slot r) is e))
      | inr e ↦ or_right (is_of t r && writes page slot r) (touches t page slot log) (last_touches page slot t log (rw e at h))
    ]

-- the holder of a cell is its last writer
pub holder_wrote : (page slot t : ℕ) (log : History) → holder page slot log ≡ Some t → last_writer page slot log ≡ Some t
holder_wrote page slot t (start _) h = absurd (cc)
holder_wrote page slot t (log ▸ Update u) h =
    elim (cases_Bool (eqb u.page page && eqb u.slot slot)) [
      | inl e ↦ (let own : Some u.tx ≡ Some t = rw e at h in rw e own)
      | inr e ↦ rw e (holder_wrote page slot t log (rw e at h))
    ]
holder_wrote page slot t (log ▸ Compensation c) h =
    elim (cases_Bool (eqb c.page page && eqb c.slot slot)) [
      | inl e ↦ (let own : Some c.tx ≡ Some t = rw e at h in rw e own)
      | inr e ↦ rw e (holder_wrote page slot t log (rw e at h))
    ]
holder_wrote page slot t (log ▸ Commit s) h = holder_wrote page slot t log (release_keeps s.tx t (holder page slot log) h).1
holder_wrote page slot t (log ▸ End s) h = holder_wrote page slot t log (release_keeps s.tx t (holder page slot log) h).1
holder_wrote page slot t (log ▸ r) h = holder_wrote page slot t log h
