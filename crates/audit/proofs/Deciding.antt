-- The laws of a record, decided by what an audit keeps.
use Rattle.std.proofs.Common.{◌≡◌, ◌<◌, ◌≤◌, not, ℕ, Bool, true, false, List, [], ◌∷◌, length, Option, Some, None, refl, sym, ap, subst, ◌∙◌, inl, inr, arith, ◌+◌}
use Rattle.std.proofs.lemmas.Bool.{cases_eq, both_ways}
use Rattle.log_laws.specs.Records.{UpdateRecord, CompensationRecord, LogRecord, Update, Compensation, History, history, last_lsn, record_at, LogContent, base_lsn}
use Rattle.log_laws.specs.Meaning.{BasePages, pending, finished, last_writer}
use Rattle.log_laws.specs.Laws.{IsLawful, FinishLaw, Compensates, Strictness}
use Rattle.log_laws.proofs.Histories.{record_none}
use Rattle.log_laws.proofs.Holders.{held, strict_from_holder, last_touches, holder_wrote}
use Rattle.log_laws.proofs.Restored.{touches_has}
use Rattle.audit.specs.declared.status.Status.{Status}
use Rattle.audit.specs.declared.standing.Finish.{Finish}
use Rattle.audit.specs.declared.standing.Standing.{Standing}
use Rattle.audit.specs.declared.standing.Standing.TheVariants.{Unfinished, Finished}
use Rattle.audit.specs.Statuses.{Linked, IsStatusOf}
use Rattle.audit.specs.Standings.{IsStandingOf, newest_of, standing_by}
use Rattle.audit.specs.Passing.{Begins, IsUpdateUndoneBy, IsFreeFor}
use Rattle.audit.proofs.StandingAfter.{finished_so}
use Rattle.audit.proofs.Unfinished.{absent_finished, present_unfinished}

-- COMPENSATION
-- the record at an LSN is what a CLR undoes
abbrev pub HasUndone : LogContent → CompensationRecord → ℕ → Type 0
HasUndone content c newest = (r : LogRecord) × (record_at (history content) newest ≡ Some r) × IsUpdateUndoneBy r c.page c.slot c.undo_next c.image

module _ (content : LogContent) (log : History) (links : List ℕ) (c : CompensationRecord) (s : Status) (begins : Begins log content) (len : base_lsn log + length links ≡ last_lsn log) (h : IsStatusOf links c.tx log s) where
  by_record : (r : LogRecord) (n : ℕ) (ns : List ℕ) → pending c.tx log ≡ n ∷ ns → record_at log n ≡ Some r → IsUpdateUndoneBy r c.page c.slot c.undo_next c.image → Compensates log c
  by_record (Update u) n ns p found h =
      record { lsn = n; below = ns; update = u; newest = p; found = found; page = h.0; slot = h.1; image = h.3; undo_next = h.2 }
  by_record r n ns p found h = absurd h

  by_stack : (stack : List ℕ) → pending c.tx log ≡ stack → Linked (base_lsn log) links stack s.newest → HasUndone content c s.newest → Compensates log c
  by_stack [] p l u =
      (let none : record_at (history content) s.newest ≡ None = ap (record_at (history content)) l ∙ record_none (history content) 0 (inl (omega arith)) in
      let some : record_at (history content) s.newest ≡ Some u.0 = u.1 in
      absurd (cc))
  by_stack (n ∷ ns) p l u =
      let e : s.newest ≡ n = l.0 in
      let room : n ≤ base_lsn log + length links = l.2 in
      let found : record_at log n ≡ Some u.0 = sym (begins n (omega arith)) ∙ ap (record_at (history content)) (sym e) ∙ u.1 in
      by_record u.0 n ns p found u.2

  undone_compensates : HasUndone content c s.newest → Compensates log c
  undone_compensates = by_stack (pending c.tx log) refl h.pending

  compensates_undone : Compensates log c → HasUndone content c s.newest
  compensates_undone k =
      let l : Linked (base_lsn log) links (k.lsn ∷ k.below) s.newest = subst (λ x. Linked (base_lsn log) links x s.newest) k.newest h.pending in
      let room : k.lsn ≤ base_lsn log + length links = l.2 in
      let found : record_at (history content) s.newest ≡ Some (Update k.update) = ap (record_at (history content)) l.0 ∙ begins k.lsn (omega arith) ∙ k.found in
      (Update k.update, found, (k.page, k.slot, k.undo_next, k.image))

-- an end without a commit finds an empty stack
empty_stack : (base : ℕ) (links stack : List ℕ) (top : ℕ) → Linked base links stack top → top ≡ 0 → stack ≡ []
empty_stack base links [] top l e = refl
empty_stack base links (n ∷ ns) top l e = absurd (let a : top ≡ n = l.0 in let b : base < n = l.1 in omega arith)

end_allowed : (links : List ℕ) (t : ℕ) (log : History) (s : Status) → IsStatusOf links t log s → s.newest ≡ 0 → pending t log ≡ []
end_allowed links t log s h e = empty_stack (base_lsn log) links (pending t log) s.newest h.pending e

end_needs : (links : List ℕ) (t : ℕ) (log : History) (s : Status) → IsStatusOf links t log s → pending t log ≡ [] → s.newest ≡ 0
end_needs links t log s h e = (let l : Linked (base_lsn log) links [] s.newest = subst (λ x. Linked (base_lsn log) links x s.newest) e h.pending in l)

-- a CLR or an end that keeps the law of finish, decided by the standing of its transaction
pub clr_decided : (content : LogContent) (log : History) (links : List ℕ) (c : CompensationRecord) (standing : Standing) → Begins log content → base_lsn log + length links ≡ last_lsn log
    → IsStandingOf links c.tx log standing → FinishLaw log (Compensation c)
    → (HasUndone content c (newest_of standing) → Compensates log c) × (Compensates log c → HasUndone content c (newest_of standing))
clr_decided content log links c (Unfinished s) begins len h law = (undone_compensates content log links c s begins len h, compensates_undone content log links c s begins len h)
clr_decided content log links c (Finished finish) begins len h law = absurd (both_ways (finished c.tx log) law.0 (finished_so c.tx log finish h))

pub end_decided : (links : List ℕ) (t : ℕ) (log : History) (standing : Standing) → IsStandingOf links t log standing → finished t log ≡ false
    → (newest_of standing ≡ 0 → pending t log ≡ []) × (pending t log ≡ [] → newest_of standing ≡ 0)
end_decided links t log (Unfinished s) h unfinished = (end_allowed links t log s h, end_needs links t log s h)
end_decided links t log (Finished finish) h unfinished = absurd (both_ways (finished t log) unfinished (finished_so t log finish h))

-- STRICTNESS
module _ (base : BasePages) (log : History) (lawful : IsLawful base log) (links : List ℕ) (unfinished : ℕ → Option Status) (finish : ℕ → Option Finish) (stands : (t : ℕ) → IsStandingOf links t log (standing_by (unfinished t) (finish t))) (u : UpdateRecord) where
  pub free_strict : (o : Option ℕ) → last_writer u.page u.slot log ≡ o → IsFreeFor unfinished o u.tx → Strictness log (Update u)
  free_strict None e f = strict_from_holder base log lawful u (λ t held_by. let p : last_writer u.page u.slot log ≡ Some t = holder_wrote u.page u.slot t log held_by in absurd (cc))
  free_strict (Some w) e f =
      strict_from_holder base log lawful u
      (λ t held_by.
      let p : last_writer u.page u.slot log ≡ Some t = holder_wrote u.page u.slot t log held_by in
      let same : w ≡ t = cc in
      let holds = held base log lawful u.page u.slot t held_by in
      elim f [
        | inl i ↦ sym same ∙ i
        | inr i ↦
            (let absent : IsStandingOf links t log (standing_by None (finish t)) = subst (λ s. IsStandingOf links t log (standing_by s (finish t))) (ap unfinished (sym same) ∙ i) (stands t) in
            absurd (both_ways (finished t log) holds.0 (absent_finished links t log (finish t) absent (touches_has t u.page u.slot log holds.1))))
      ])

  pub strict_free : (o : Option ℕ) → last_writer u.page u.slot log ≡ o → Strictness log (Update u) → IsFreeFor unfinished o u.tx
  strict_free None e s = tt
  strict_free (Some w) e s =
      elim (cases_eq w u.tx) [
        | inl i ↦ inl i
        | inr n ↦ inr (present_unfinished links w log (unfinished w) (finish w) (stands w) (s w n (last_touches u.page u.slot w log e)))
      ]

-- FINISH
not_is : (a b : Bool) → a ≡ b → (not a ≡ true → b ≡ false) × (b ≡ false → not a ≡ true)
not_is true true e = (λ h. absurd (cc), λ h. absurd (cc))
not_is true false e = absurd (cc)
not_is false true e = absurd (cc)
not_is false false e = (λ h. refl, λ h. refl)

-- if the first of two is false, the second decides whether both are
pub neither : (a b x y : Bool) → a ≡ x → b ≡ y → a ≡ false
    → (not b ≡ true → (x ≡ false) × (y ≡ false)) × ((x ≡ false) × (y ≡ false) → not b ≡ true)
neither a b x y e f n = (λ k. (sym e ∙ n, (not_is b y f).0 k), λ p. (not_is b y f).1 p.1)
