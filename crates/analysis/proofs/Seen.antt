-- What a scan for the tables of a checkpoint has seen, record after record.
use Rattle.std.proofs.Common.{ℕ, suc, ◌≡◌, ◌+◌, ◌<◌, ◌≤◌, true, false, ◌||◌, ◌&&◌, cond, eq-eqb, ne_eqb, List, [], ◌∷◌, Option, Some, None, refl, sym, ap, ap₂, ◌∙◌, subst, arith}
use Rattle.std.specs.Prelude.{is_some, option_map, IfSome, IfNone}
use Rattle.std.specs.BTreeMap.{BTreeMap}
use Rattle.std.proofs.lemmas.Bool.{cond_both, le-leb}
use Rattle.wal.specs.declared.record.Entry.{Entry}
use Rattle.log_laws.specs.declared.start.LogStart.TheVariants.{Version2}
use Rattle.log_laws.specs.Records.{TableEntry, LogRecord, CheckpointEnd, History, start, ◌▸◌, ◌▸▸◌, LogContent, last_lsn, base_lsn, record_at}
use Rattle.log_laws.specs.Redo.{rec_lsn_of}
use Rattle.log_laws.specs.Checkpoint.{first_end, is_begin}
use Rattle.log_laws.proofs.Histories.{record_above, record_within}
use Rattle.log_laws.proofs.Checkpoints.{first_end_none}
use Rattle.analysis.specs.Tables.{base_of, entry_at, IsBase}
use Rattle.analysis.specs.Passing.{CheckpointSoFar, HasSeen, IsEnd}
use Rattle.analysis.proofs.Truth.{base_is}
use Rattle.analysis.proofs.Ends.{base_stays, met}

-- both tables
abbrev pub Both : Type 0
Both = List (ℕ × Entry) × List (ℕ × ℕ)

abbrev pub Maps : Type 0
Maps = BTreeMap ℕ Entry × BTreeMap ℕ ℕ

abbrev pub both : Maps → Both
both x = (x.0.entries, x.1.entries)

pub some_both : (o : Option Maps) → is_some (option_map both o) ≡ is_some o
some_both None = refl
some_both (Some x) = refl

-- what is found
abbrev Holds : ℕ → History → Both → Type 0
Holds m log x = IsBase m log x.0 x.1 × (entry_at 0 x.0 ≡ None)

none_is_some : {X A : Type 0} {x : A} → None ≡ Some x → X
none_is_some e = absurd cc

found_it : (m : ℕ) (log : History) (scan : CheckpointSoFar) (x : Both) → scan.master ≡ m → scan.found ≡ Some x → Holds m log x → HasSeen m log scan
found_it m log scan x own is holds = record {
  master = own;
  found = subst (λ o. IfSome o (Holds m log)) (sym is) holds;
  missing = λ none. none_is_some (sym none ∙ is);
  begins = λ none. none_is_some (sym none ∙ is);
}

not_yet : (m : ℕ) (log : History) (scan : CheckpointSoFar) → scan.master ≡ m → scan.found ≡ None → base_of m log ≡ None → scan.begins ≡ is_begin (record_at log m) → HasSeen m log scan
not_yet m log scan own is none begins = record {
  master = own;
  found = subst (λ o. IfSome o (Holds m log)) (sym is) tt;
  missing = λ _. none;
  begins = λ _. begins;
}

-- AT FIRST, if the record at m is still to come
pub empty_base : (m : ℕ) (log : History) (scan : CheckpointSoFar) (x : Maps) → scan.master ≡ m → scan.found ≡ Some (both x) → m ≡ 0 → x.0.entries ≡ [] → x.1.entries ≡ [] → HasSeen m log scan
empty_base m log scan x own is zero transactions pages =
    found_it m log scan (both x) own is (
      record {
        transactions = [];
        dirty = [];
        base = ap (λ n. base_of n log) zero;
        entries_are = λ t. ap (λ (es : List (ℕ × Entry)). entry_at t es) transactions;
        pages_are = λ p. ap (λ (es : List (ℕ × ℕ)). rec_lsn_of p es) pages;
      },
      ap (λ (es : List (ℕ × Entry)). entry_at 0 es) transactions,
    )

pub none_met : (m : ℕ) (log : History) (scan : CheckpointSoFar) → scan.master ≡ m → scan.found ≡ None → scan.begins ≡ false → (m ≡ 0 → ⊥) → record_at log m ≡ None → HasSeen m log scan
none_met m log scan own is begins some none =
    not_yet m log scan own is (base_is log m some ∙ ap (λ o. cond (is_begin o) (first_end m log) None) none) (begins ∙ sym (ap is_begin none))

-- MORE RECORDS
-- what is found stays
pub stays_found : (m : ℕ) (log : History) (records : List LogRecord) (scan : CheckpointSoFar) → is_some scan.found ≡ true → HasSeen m log scan → HasSeen m (log ▸▸ records) scan
stays_found m log records scan some seen = by_found scan.found refl some
  where
    by_found : (o : Option Both) → scan.found ≡ o → is_some o ≡ true → HasSeen m (log ▸▸ records) scan
    by_found None is s = absurd cc
    by_found (Some x) is s =
        (let holds : Holds m log x = subst (λ o. IfSome o (Holds m log)) is seen.found in
        found_it m (log ▸▸ records) scan x seen.master is (
          record {
            transactions = holds.0.transactions;
            dirty = holds.0.dirty;
            base = base_stays m log records (holds.0.transactions, holds.0.dirty) holds.0.base;
            entries_are = holds.0.entries_are;
            pages_are = holds.0.pages_are;
          },
          holds.1,
        ))

is_none : (o : Option Both) → is_some o ≡ false → o ≡ None
is_none None e = refl
is_none (Some x) e = absurd cc

-- where the begin record of the master is
begin_at : (m : ℕ) (log : History) → is_begin (record_at log m) ≡ true → (base_lsn log < m) × (m ≤ last_lsn log)
begin_at m log begins = by (record_at log m) refl begins
  where
    by : (o : Option LogRecord) → record_at log m ≡ o → is_begin o ≡ true → (base_lsn log < m) × (m ≤ last_lsn log)
    by None is begin = absurd cc
    by (Some r) is begin = (record_above log m r is, record_within log m r is)

-- by itself, a record is at the LSN after the one it comes after
pub begin_here : (m lsn : ℕ) (r : LogRecord) → lsn + 1 ≡ m → is_begin (record_at (start lsn ▸ r) m) ≡ is_begin (Some r)
begin_here m lsn r at = ap (λ b. is_begin (cond b (Some r) None)) (eq-eqb m (suc lsn) (omega (arith, at)))

pub begin_elsewhere : (m lsn : ℕ) (r : LogRecord) → (lsn + 1 ≡ m → ⊥) → is_begin (record_at (start lsn ▸ r) m) ≡ false
begin_elsewhere m lsn r other = ap (λ b. is_begin (cond b (Some r) None)) (ne_eqb m (suc lsn) (λ e. other (omega (arith, e))))

pub end_here : (m lsn begin : ℕ) (ts : List TableEntry) (d : List (ℕ × ℕ)) (r : LogRecord) → r ≡ CheckpointEnd begin ts d → begin ≡ m → m ≤ lsn → first_end m (start lsn ▸ r) ≡ Some (ts, d)
end_here m lsn begin ts d r is own le = ap (λ x. first_end m (start lsn ▸ x)) is ∙ ap₂ (λ a b. cond (a && b) (Some (ts, d)) None) (eq-eqb begin m own) (le-leb m lsn le)

module _ (m lsn : ℕ) (log : History) (r : LogRecord) (scan new : CheckpointSoFar) (at : last_lsn log ≡ lsn) (no_tables : is_some scan.found ≡ false) (same : new.master ≡ scan.master) (seen : HasSeen m log scan) where
  -- the record by itself
  piece : LogContent
  piece = record { begins = Version2 lsn; records = r ∷ [] }

  -- if the begin record was not found before
  pub begun_now : scan.begins ≡ false → new.found ≡ scan.found → new.begins ≡ is_begin (record_at (start lsn ▸ r) scan.master) → HasSeen m (log ▸ r) new
  unfolding piece
  begun_now not_begun kept begins =
      let none = is_none scan.found no_tables in
      let here : new.begins ≡ is_begin (record_at (start lsn ▸ r) m) = begins ∙ ap (λ n. is_begin (record_at (start lsn ▸ r) n)) seen.master in
      let k = met m log piece scan.begins new.begins at (seen.missing none) (seen.begins none) (here ∙ sym (ap (λ b. b || is_begin (record_at (start lsn ▸ r) m)) not_begun)) in
      let no_end : cond new.begins (first_end m (start lsn ▸ r)) None ≡ None =
      cond_both new.begins (first_end m (start lsn ▸ r)) None (λ o. o ≡ None) (λ yes. first_end_none m (start lsn ▸ r) (omega (arith, (begin_at m (start lsn ▸ r) (sym here ∙ yes)).0))) (λ _. refl) in
      not_yet m (log ▸ r) new (same ∙ seen.master) (kept ∙ none) (k.base ∙ no_end) k.begin

  -- if it was: the tables of the record
  pub met_now : (found : Option Maps) → scan.begins ≡ true → new.begins ≡ scan.begins → new.found ≡ option_map both found
      → IfSome found (λ x. (n : ℕ) → scan.master ≤ n → IsEnd scan.master (start n ▸ r) x.0.entries x.1.entries) → IfNone found ((n : ℕ) → first_end scan.master (start n ▸ r) ≡ None)
      → HasSeen m (log ▸ r) new
  unfolding piece
  met_now found begun begins shows some none =
      let missed = is_none scan.found no_tables in
      let k = met m log piece scan.begins true at (seen.missing missed) (seen.begins missed) (sym (ap (λ b. b || is_begin (record_at (start lsn ▸ r) m)) begun)) in
      let within : scan.master ≤ lsn = omega (arith, (begin_at m log (sym (seen.begins missed) ∙ begun)).1, seen.master, at) in
      by_end found shows some none within (k.base ∙ ap (λ n. first_end n (start lsn ▸ r)) (sym seen.master)) k.begin
    where
      by_end : (o : Option Maps) → new.found ≡ option_map both o → IfSome o (λ x. (n : ℕ) → scan.master ≤ n → IsEnd scan.master (start n ▸ r) x.0.entries x.1.entries)
          → IfNone o ((n : ℕ) → first_end scan.master (start n ▸ r) ≡ None) → scan.master ≤ lsn
          → base_of m (log ▸ r) ≡ first_end scan.master (start lsn ▸ r) → true ≡ is_begin (record_at (log ▸ r) m) → HasSeen m (log ▸ r) new
      by_end None is some none within base there = not_yet m (log ▸ r) new (same ∙ seen.master) is (base ∙ none lsn) (begins ∙ begun ∙ there)
      by_end (Some x) is end none within base there =
          (let e = end lsn within in
          found_it m (log ▸ r) new (both x) (same ∙ seen.master) is (
            record {
              transactions = e.transactions;
              dirty = e.dirty;
              base = base ∙ e.end;
              entries_are = e.entries_are;
              pages_are = e.pages_are;
            },
            e.no_transaction_0,
          ))
