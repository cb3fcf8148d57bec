-- The tables of a lawful log and its store are true.
use Rattle.std.proofs.Common.{ℕ, ◌≡◌, ◌≤◌, ne_eqb, List, [], get_or, Option, Some, None, refl, sym, ap, ◌∙◌, subst, arith, inl, inr}
use Rattle.std.specs.Prelude.{All}
use Rattle.std.proofs.lemmas.Bool.{cases_eq}
use Rattle.page.specs.declared.page.Page.{Page}
use Rattle.page.specs.Store.{StoreContent}
use Rattle.log_laws.specs.Meaning.{BasePages}
use Rattle.log_laws.specs.Records.{TableEntry, LogRecord, History, LogContent, history, last_lsn, record_at, first}
use Rattle.log_laws.specs.Redo.{rec_lsn_of}
use Rattle.log_laws.specs.Checkpoint.{checkpoint_at, true_table, DirtyLaw, CheckpointLaw}
use Rattle.log_laws.specs.Store.{Lawful}
use Rattle.log_laws.proofs.Histories.{record_none, first_none}
use Rattle.log_laws.proofs.Checkpoints.{checkpoint_within}
use Rattle.log_laws.proofs.Undone.{true_entry_for}
use Rattle.wal.proofs.Entries.{same_table, true_table_rises}
use Rattle.log_laws.specs.Undo.{entry_for}
use Rattle.log_laws.specs.Theorems.{IsReached}
use Rattle.tables.specs.Tables.{TablesContent}
use Rattle.analysis.specs.Tables.{base_of, analysed_entry, AreTablesOf}
use Rattle.tables.specs.Lawful.{unfinished_entry, AreTrue}
use Rattle.analysis.proofs.Analysed.{analysis_is_true}
use Rattle.analysis.proofs.Covered.{covered}
use Rattle.analysis.proofs.Rising.{rise_from_0}

-- THE BASE of a lawful pair is true
pub record IsTrueBase (log : History) (pages : List Page) (m : ℕ) (transactions : List TableEntry) (dirty : List (ℕ × ℕ)) : Type 0 where
  pub within : m ≤ last_lsn log
  pub entries : (t : ℕ) → entry_for t transactions ≡ unfinished_entry (first m log) t
  pub pages_are : All (λ page. DirtyLaw log m page.number page.lsn (rec_lsn_of page.number dirty)) pages

no_base : (log : History) (pages : List Page) → IsTrueBase log pages 0 [] []
no_base log pages = record {
  within = omega arith;
  entries = λ t. sym (ap (λ x. unfinished_entry x t) (first_none log));
  pages_are = λ i d lt. record { range = λ rec_lsn e. absurd cc; covers = λ lsn r le e on. absurd (nothing lsn r le e) };
}
  where
    nothing : (lsn : ℕ) (r : LogRecord) → lsn ≤ 0 → record_at log lsn ≡ Some r → ⊥
    nothing lsn r le e = (let none : record_at log lsn ≡ None = record_none log lsn (inl (omega arith)) in let f : None ≡ Some r = sym none ∙ e in cc)

-- the two tables of a base
abbrev pub both : List TableEntry → List (ℕ × ℕ) → Option (List TableEntry × List (ℕ × ℕ))
both transactions dirty = Some (transactions, dirty)

pub pair_is : (a b : List TableEntry) (c d : List (ℕ × ℕ)) → both a c ≡ both b d → (a ≡ b) × (c ≡ d)
pair_is a b c d e =
    let p : ◌≡◌ {A = List TableEntry × List (ℕ × ℕ)} (a, c) (b, d) = cc in
    (ap (λ x. x.0) p, ap (λ x. x.1) p)

pub base_is : (log : History) (m : ℕ) → (m ≡ 0 → ⊥) → base_of m log ≡ checkpoint_at m log
base_is log m some = rw (ne_eqb m 0 some) refl

pub true_base : (log : History) (pages : List Page) (m : ℕ) (transactions : List TableEntry) (dirty : List (ℕ × ℕ)) → CheckpointLaw log pages m → base_of m log ≡ Some (transactions, dirty) → IsTrueBase log pages m transactions dirty
true_base log pages m transactions dirty law e =
    elim (cases_eq m 0) [
      | inl z ↦
          (let none : both [] [] ≡ both transactions dirty = sym (ap (λ n. base_of n log) z) ∙ e in
          let p = pair_is [] transactions [] dirty none in
          subst (λ n. IsTrueBase log pages n transactions dirty) (sym z) (subst (λ ts. IsTrueBase log pages 0 ts dirty) p.0 (subst (λ d. IsTrueBase log pages 0 [] d) p.1 (no_base log pages))))
      | inr some ↦
          elim law [
            | inl z ↦ absurd (some z)
            | inr tables ↦
                (let there : both tables.transactions tables.dirty ≡ both transactions dirty = sym (base_is log m some ∙ tables.named) ∙ e in
                let p = pair_is tables.transactions transactions tables.dirty dirty there in
                record {
                  within = checkpoint_within m log (tables.transactions, tables.dirty) tables.named;
                  entries = λ t. ap (entry_for t) (sym p.0 ∙ tables.transactions_are) ∙ true_entry_for (first m log) t;
                  pages_are = subst (λ d. All (λ page. DirtyLaw log m page.number page.lsn (rec_lsn_of page.number d)) pages) p.1 tables.dirty_are;
                })
          ]
    ]

pub tables_true : (over : BasePages) (log : LogContent) (store : StoreContent) (tables : TablesContent) → Lawful over log store → AreTablesOf log store.master tables → AreTrue log store tables
tables_true over content store tables lawful are =
    let log = history content in
    let base = true_base log store.pages store.master are.transactions are.dirty lawful.checkpoint are.base in
    record {
      unfinished = same_table 0 tables.transactions (true_table log) (rise_from_0 tables.transactions are.entries_rise) (true_table_rises log)
          (λ t. are.entries t ∙ ap (λ o. analysed_entry t store.master o log) (base.entries t) ∙ analysis_is_true over log t store.master lawful.log base.within
          ∙ sym (true_entry_for log t));
      reaches = λ i d lt lsn r found on later.
          let image = get_or store.pages i d in
          subst (λ n. IsReached (rec_lsn_of image.number tables.dirty) n lsn) (sym are.redo_lsn)
          (covered log store.master image.number image.lsn (rec_lsn_of image.number are.dirty) tables.dirty (base.pages_are i d lt) (are.pages image.number) lsn r found on later);
    }
