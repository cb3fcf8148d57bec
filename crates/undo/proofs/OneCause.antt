-- Undo has at most one error, and none if it succeeds.
use Rattle.std.proofs.Common.{◌≡◌, ◌<◌, ℕ, List, refl, sym, ap, ◌∙◌, inl, inr, arith}
use Rattle.page.specs.declared.fault.Fault.TheVariants.{NoResource, NoSuchPage, BrokenChain}
use Rattle.log_laws.specs.Records.{TableEntry, History}
use Rattle.log_laws.specs.Undo.{entry_for, walk_of}
use Rattle.undo.specs.Undone.{EndsBadly, MeetsMissing, Breaks, OneUndoFault, NoFaultOfUndo}

module _ (log : History) (losers : List TableEntry) (count : ℕ) where
  not_behind : (n m : ℕ) → MeetsMissing log losers count n → MeetsMissing log losers count m → n < m → ⊥
  not_behind n m a b lt = (let exists : b.update.page < count = a.behind m b.update lt b.is_met in omega (arith, exists, b.missing))

  one_missing : (n m : ℕ) → MeetsMissing log losers count n → MeetsMissing log losers count m → n ≡ m
  one_missing n m a b = omega (arith, not_behind n m a b, not_behind m n b a)

  ends_badly : (n : ℕ) (b : Breaks log losers count n) → EndsBadly log losers b.loser
  ends_badly n b well = b.bad (sym b.ends ∙ well)

  not_both : (n m : ℕ) → MeetsMissing log losers count n → Breaks log losers count m → ⊥
  not_both n m a b =
      (let exists : a.update.page < count = b.behind n a.update (a.none_broken b.loser (ends_badly m b)) a.is_met in
      omega (arith, exists, a.missing))

  one_loser : (n m : ℕ) (a : Breaks log losers count n) (b : Breaks log losers count m) → a.loser ≡ b.loser
  one_loser n m a b =
      elim (a.first b.loser (ends_badly m b)) [
        | inl p ↦ elim (b.first a.loser (ends_badly n a)) [ inl q ↦ absurd (omega (arith, p, q)) | inr q ↦ absurd (omega (arith, p, q.0)) ]
        | inr p ↦ elim (b.first a.loser (ends_badly n a)) [ inl q ↦ absurd (omega (arith, p.0, q)) | inr q ↦ omega (arith, p.1, q.1) ]
      ]

  one_break : (n m : ℕ) → Breaks log losers count n → Breaks log losers count m → n ≡ m
  one_break n m a b = sym a.ends ∙ ap (λ t. (walk_of log (entry_for t losers)).ends) (one_loser n m a b) ∙ b.ends

pub one_undo_fault : OneUndoFault
one_undo_fault log losers count NoResource e some other x y = absurd (some refl)
one_undo_fault log losers count (NoSuchPage n) NoResource some other x y = absurd (other refl)
one_undo_fault log losers count (NoSuchPage n) (NoSuchPage m) some other x y = ap (λ k. NoSuchPage k) (one_missing log losers count n m x y)
one_undo_fault log losers count (NoSuchPage n) (BrokenChain m) some other x y = absurd (not_both log losers count n m x y)
one_undo_fault log losers count (NoSuchPage n) _ some other x y = absurd y
one_undo_fault log losers count (BrokenChain n) NoResource some other x y = absurd (other refl)
one_undo_fault log losers count (BrokenChain n) (NoSuchPage m) some other x y = absurd (not_both log losers count m n y x)
one_undo_fault log losers count (BrokenChain n) (BrokenChain m) some other x y = ap (λ k. BrokenChain k) (one_break log losers count n m x y)
one_undo_fault log losers count (BrokenChain n) _ some other x y = absurd y
one_undo_fault log losers count _ e some other x y = absurd x

pub no_fault_of_undo : NoFaultOfUndo
no_fault_of_undo log losers count ends exist NoResource x = refl
no_fault_of_undo log losers count ends exist (NoSuchPage n) x =
    absurd (let exists : x.update.page < count = exist n x.update (omega arith) x.is_met in omega (arith, exists, x.missing))
no_fault_of_undo log losers count ends exist (BrokenChain n) x = absurd (ends_badly log losers count n x (ends x.loser))
no_fault_of_undo log losers count ends exist _ x = absurd x
