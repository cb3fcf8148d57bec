-- The status of an unfinished transaction after one more record.
use Rattle.std.proofs.Common.{◌≡◌, ◌+◌, ◌≤◌, ℕ, zero, suc, true, false, List, [], ◌∷◌, ◌++◌, length, get_or, drop, refl, sym, ap, subst, ◌∙◌, arith, eqb, eq-eqb, length-append, ◌-◌, ◌<◌, ◌⊎◌, inl, inr}
use Rattle.std.proofs.Math.Seq.{get_or-append_seam}
use Rattle.std.proofs.lemmas.List.{get_or_append_left}
use Rattle.log_laws.proofs.Histories.{last_other}
use Rattle.log_laws.specs.Records.{UpdateRecord, CompensationRecord, PlainRecord, LogRecord, Update, Compensation, Commit, Abort, End, Prepare, History, ◌▸◌, last_lsn, base_lsn}
use Rattle.log_laws.specs.Meaning.{is_of, pending}
use Rattle.audit.specs.declared.status.Status.{Status}
use Rattle.audit.specs.Statuses.{under, Linked, IsStatusOf, after}

under_more : (base : ℕ) (links : List ℕ) (x n : ℕ) → (n ≡ 0) ⊎ (base < n) → n ≤ base + length links → under base (links ++ x ∷ []) n ≡ under base links n
under_more base links x zero some h = refl
under_more base links x (suc n) some h = get_or_append_left links (x ∷ []) 0 (suc n - base - 1) (elim some [ inl z ↦ absurd (omega (arith, z)) | inr l ↦ omega (arith, l, h) ])

pub linked_more : (base : ℕ) (links : List ℕ) (x : ℕ) (ns : List ℕ) (top : ℕ) → Linked base links ns top → Linked base (links ++ x ∷ []) ns top
linked_more base links x [] top h = h
linked_more base links x (n ∷ ns) top h =
    let above : base < n = h.1 in
    let room : n ≤ base + length links = h.2 in
    let room' : n ≤ base + length (links ++ x ∷ []) = omega (arith, length-append links (x ∷ [])) in
    let below : Linked base (links ++ x ∷ []) ns (under base links n) = linked_more base links x ns (under base links n) h.3 in
    (h.0, h.1, room', subst (λ k. Linked base (links ++ x ∷ []) ns k) (sym (under_more base links x n (inr above) room)) below)

-- the top is taken off
pub linked_drop : (base : ℕ) (links : List ℕ) (ns : List ℕ) (top : ℕ) → Linked base links ns top → Linked base links (drop 1 ns) (under base links top)
linked_drop base links [] top h = ap (under base links) h
linked_drop base links (n ∷ ns) top h = subst (λ k. Linked base links ns (under base links k)) (sym h.0) h.3

-- an LSN is put on top
pub linked_push : (base : ℕ) (links : List ℕ) (ns : List ℕ) (top m : ℕ) → base + length links ≡ m → Linked base links ns top → Linked base (links ++ top ∷ []) (suc m ∷ ns) (suc m)
linked_push base links ns top m e h =
    let place : suc m - base - 1 ≡ length links = omega (arith, e) in
    let at : under base (links ++ top ∷ []) (suc m) ≡ top = ap (λ k. get_or (links ++ top ∷ []) k 0) place ∙ get_or-append_seam links top [] 0 in
    let room : suc m ≤ base + length (links ++ top ∷ []) = omega (arith, e, length-append links (top ∷ [])) in
    (refl, omega (arith, e), room, subst (λ k. Linked base (links ++ top ∷ []) ns k) (sym at) (linked_more base links top ns top h))

-- a record of another transaction changes nothing
pub stands_other : (links : List ℕ) (x t : ℕ) (log : History) (r : LogRecord) (s : Status) → is_of t r ≡ false → IsStatusOf links t log s → IsStatusOf (links ++ x ∷ []) t (log ▸ r) s
stands_other links x t log (Update u) s e h =
    record { unfinished = h.unfinished; last = rw e h.last; undo_next = rw e h.undo_next; aborted = h.aborted; prepared = h.prepared; pending = rw e (linked_more (base_lsn log) links x (pending t log) s.newest h.pending) }
stands_other links x t log (Compensation u) s e h =
    record { unfinished = h.unfinished; last = rw e h.last; undo_next = rw e h.undo_next; aborted = h.aborted; prepared = h.prepared; pending = rw e (linked_more (base_lsn log) links x (pending t log) s.newest h.pending) }
stands_other links x t log (Commit u) s e h =
    record { unfinished = rw e h.unfinished; last = rw e h.last; undo_next = h.undo_next; aborted = h.aborted; prepared = h.prepared; pending = linked_more (base_lsn log) links x (pending t log) s.newest h.pending }
stands_other links x t log (Abort u) s e h =
    record { unfinished = h.unfinished; last = rw e h.last; undo_next = h.undo_next; aborted = rw e h.aborted; prepared = h.prepared; pending = linked_more (base_lsn log) links x (pending t log) s.newest h.pending }
stands_other links x t log (End u) s e h =
    record { unfinished = rw e h.unfinished; last = rw e h.last; undo_next = h.undo_next; aborted = h.aborted; prepared = h.prepared; pending = linked_more (base_lsn log) links x (pending t log) s.newest h.pending }
stands_other links x t log (Prepare u) s e h =
    record { unfinished = h.unfinished; last = rw e h.last; undo_next = h.undo_next; aborted = h.aborted; prepared = rw e h.prepared; pending = linked_more (base_lsn log) links x (pending t log) s.newest h.pending }
stands_other links x t log r s e h =
    record { unfinished = h.unfinished; last = h.last ∙ sym (last_other t log r e); undo_next = h.undo_next; aborted = h.aborted; prepared = h.prepared; pending = linked_more (base_lsn log) links x (pending t log) s.newest h.pending }

-- the status after a record of its own that does not finish it
module _ (links : List ℕ) (log : History) (s : Status) (lsn below : ℕ) (at : last_lsn log + 1 ≡ lsn) (len : base_lsn log + length links ≡ last_lsn log) where
  next_is : lsn ≡ suc (last_lsn log)
  next_is = omega (arith, at)

  pub stands_update : (u : UpdateRecord) → IsStatusOf links u.tx log s → IsStatusOf (links ++ s.newest ∷ []) u.tx (log ▸ Update u) (after (Update u) lsn below s)
  stands_update u h =
      let e : eqb u.tx u.tx ≡ true = eq-eqb u.tx u.tx refl in
      let p : Linked (base_lsn log) (links ++ s.newest ∷ []) (suc (last_lsn log) ∷ pending u.tx log) lsn = subst (λ k. Linked (base_lsn log) (links ++ s.newest ∷ []) (suc (last_lsn log) ∷ pending u.tx log) k) (sym next_is) (linked_push (base_lsn log) links (pending u.tx log) s.newest (last_lsn log) len h.pending) in
      record { unfinished = h.unfinished; last = rw e next_is; undo_next = rw e next_is; aborted = h.aborted; prepared = h.prepared; pending = rw e p }

  pub stands_compensation : (c : CompensationRecord) → below ≡ under (base_lsn log) links s.newest → IsStatusOf links c.tx log s → IsStatusOf (links ++ s.newest ∷ []) c.tx (log ▸ Compensation c) (after (Compensation c) lsn below s)
  stands_compensation c b h =
      let e : eqb c.tx c.tx ≡ true = eq-eqb c.tx c.tx refl in
      let p : Linked (base_lsn log) links (drop 1 (pending c.tx log)) below = subst (λ k. Linked (base_lsn log) links (drop 1 (pending c.tx log)) k) (sym b) (linked_drop (base_lsn log) links (pending c.tx log) s.newest h.pending) in
      record { unfinished = h.unfinished; last = rw e next_is; undo_next = rw e refl; aborted = h.aborted; prepared = h.prepared; pending = rw e (linked_more (base_lsn log) links s.newest (drop 1 (pending c.tx log)) below p) }

  pub stands_abort : (c : PlainRecord) → IsStatusOf links c.tx log s → IsStatusOf (links ++ s.newest ∷ []) c.tx (log ▸ Abort c) (after (Abort c) lsn below s)
  stands_abort c h =
      let e : eqb c.tx c.tx ≡ true = eq-eqb c.tx c.tx refl in
      record { unfinished = h.unfinished; last = rw e next_is; undo_next = h.undo_next; aborted = rw e refl; prepared = h.prepared; pending = linked_more (base_lsn log) links s.newest (pending c.tx log) s.newest h.pending }

  pub stands_prepare : (c : PlainRecord) → IsStatusOf links c.tx log s → IsStatusOf (links ++ s.newest ∷ []) c.tx (log ▸ Prepare c) (after (Prepare c) lsn below s)
  stands_prepare c h =
      let e : eqb c.tx c.tx ≡ true = eq-eqb c.tx c.tx refl in
      record { unfinished = h.unfinished; last = rw e next_is; undo_next = h.undo_next; aborted = h.aborted; prepared = rw e refl; pending = linked_more (base_lsn log) links s.newest (pending c.tx log) s.newest h.pending }
