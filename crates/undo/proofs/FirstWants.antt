-- The losers of the tables continue at their UndoNxtLSNs, if the log has records there.
use Rattle.std.proofs.Common.{ℕ, suc, ◌≡◌, ◌⊎◌, ◌<◌, ◌+◌, ◌++◌, List, [], ◌∷◌, get_or, Option, Some, None, cond, eq-eqb, ne_eqb, refl, subst, sym, ap, ◌∙◌, inl, inr, arith}
use Rattle.std.specs.Prelude.{All}
use Rattle.std.proofs.lemmas.Bool.{cases_eq, cases_lt}
use Rattle.std.proofs.lemmas.Option.{same_Some}
use Rattle.std.proofs.lemmas.List.Sorted.{Contains-permutation}
use Rattle.std.proofs.lemmas.List.Elements.{All-push, All-tail}
use Rattle.log_laws.specs.Records.{TableEntry, LogRecord, Update, Compensation, History, base_lsn, last_lsn, record_at}
use Rattle.log_laws.specs.Undo.{entry_for}
use Rattle.log_laws.proofs.Histories.{record_none}
use Rattle.wal.proofs.Entries.{entry_own}
use Rattle.undo.specs.declared.want.Want.{Want}
use Rattle.undo.specs.Rollback.{hop_of}
use Rattle.undo.specs.Gathered.{IsPassedOver}
use Rattle.undo.specs.Enough.{IsFound, sends}
use Rattle.undo.specs.Gathering.{ContinuesAt, MayWant, AreGatheredSoFar}

-- it continues, or the log, which ends at this LSN, has nothing there
abbrev pub Waits : (last : ℕ) → List Want → TableEntry → Type 0
Waits last wants e = ContinuesAt wants e.tx e.undo_next ⊎ ((e.undo_next ≡ 0) ⊎ (last < e.undo_next))

-- a transaction that continued still does
still_waits : (last t from lsn : ℕ) (old new : List Want) (e : TableEntry) → MayWant t from lsn old new → Waits last old e → Waits last new e
still_waits last t from lsn old new e (inl none) waits = subst (λ ws. Waits last ws e) (sym none.0) waits
still_waits last t from lsn old new e (inr moved) (inl wanted) =
    inl (Contains-permutation (record { lsn = lsn; tx = t } ∷ old) new (record { lsn = e.undo_next; tx = e.tx }) moved (suc wanted.0, omega (arith, wanted.1), wanted.2))
still_waits last t from lsn old new e (inr moved) (inr none) = inr none

this_waits : (last : ℕ) (old new : List Want) (e : TableEntry) → MayWant e.tx (last + 1) e.undo_next old new → Waits last new e
this_waits last old new e (inl none) =
    elim none.1 [
      | inl past ↦
          elim (cases_lt last e.undo_next) [
            | inl lt ↦ inr (inr lt)
            | inr le ↦ absurd (past (omega (arith, le)))
          ]
      | inr is ↦ inr (inl is)
    ]
this_waits last old new e (inr moved) = inl (Contains-permutation (record { lsn = e.undo_next; tx = e.tx } ∷ old) new (record { lsn = e.undo_next; tx = e.tx }) moved (0, omega arith, refl))

-- one more loser
pub one_waits : (last : ℕ) (old new : List Want) (done : List TableEntry) (e : TableEntry) → MayWant e.tx (last + 1) e.undo_next old new → All (Waits last old) done → All (Waits last new) (done ++ e ∷ [])
one_waits last old new done e may waits =
    All-push (Waits last new) done e (λ k d lt. still_waits last e.tx (last + 1) e.undo_next old new (get_or done k d) may (waits k d lt)) (this_waits last old new e may)

-- an entry that is found has what all have
entry_has : (P : TableEntry → Type 0) (t : ℕ) (e : TableEntry) (es : List TableEntry) → All P es → entry_for t es ≡ Some e → P e
entry_has P t e [] all h = absurd cc
entry_has P t e (x ∷ es) all h =
    elim (cases_eq x.tx t) [
      | inl i ↦ subst P (same_Some x e (sym (ap (λ b. cond b (Some x) (entry_for t es)) (eq-eqb x.tx t i)) ∙ h)) (all 0 x (omega arith))
      | inr d ↦ entry_has P t e es (All-tail P x es all) (sym (ap (λ b. cond b (Some x) (entry_for t es)) (ne_eqb x.tx t d)) ∙ h)
    ]

sends_none : (t : ℕ) (o : Option LogRecord) → IsPassedOver o → sends t o ≡ None
sends_none t None passed = refl
sends_none t (Some (Update u)) passed = absurd passed
sends_none t (Some (Compensation c)) passed = absurd passed
sends_none t (Some _) passed = refl

-- a gathering at its start
pub begun : (whole some : History) (losers : List TableEntry) (wants : List Want) → base_lsn some ≡ base_lsn whole → last_lsn some ≡ last_lsn whole → ((lsn : ℕ) → IsPassedOver (record_at some lsn))
    → All (Waits (last_lsn whole) wants) losers → AreGatheredSoFar whole some losers wants
begun whole some losers wants base last none waits = record {
  base = base;
  last = last;
  each = λ lsn. inr (none lsn);
  begin = λ t e own. begins t e (entry_own t e losers own).0 (entry_has (Waits (last_lsn whole) wants) t e losers waits own);
  go_on = λ t lsn next e own sent lt. absurd (let f : None ≡ Some next = sym (sends_none t (record_at some lsn) (none lsn)) ∙ sent in cc);
}
  where
    begins : (t : ℕ) (e : TableEntry) → e.tx ≡ t → Waits (last_lsn whole) wants e → IsFound whole some t e.undo_next ⊎ ContinuesAt wants t e.undo_next
    begins t e is (inl wanted) = inr (subst (λ x. ContinuesAt wants x e.undo_next) is wanted)
    begins t e is (inr (inl is_0)) = inl (inr (ap (hop_of t) (record_none whole e.undo_next (inl (omega (arith, is_0))))))
    begins t e is (inr (inr past)) = inl (inr (ap (hop_of t) (record_none whole e.undo_next (inr past))))
