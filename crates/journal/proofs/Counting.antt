-- How many transactions a log that is gone through has unfinished, by the arrays.
use Rattle.std.proofs.Common.{◌≡◌, ◌≢◌, ◌<◌, ◌≤◌, not, ℕ, suc, true, false, List, [], length, get_or, take, Some, refl, sym, ap, subst, ◌∙◌, inl, inr, arith, eqb, eq-eqb, ne_eqb}
use Rattle.std.specs.Prelude.{All, ◌⊎◌, ⊤}
use Rattle.std.specs.List.{insert}
use Rattle.std.proofs.lemmas.Bool.{or_left, and_from}
use Rattle.std.proofs.lemmas.List.{length-take-le}
use Rattle.std.proofs.lemmas.List.Edits.{length-insert}
use Rattle.page.specs.declared.profile.TheConstants.{TRANSACTIONS}
use Rattle.page.specs.declared.page.Page.{Page}
use Rattle.page.specs.Store.{StoreContent}
use Rattle.log_laws.specs.Records.{LogRecord, LogContent, History, ◌▸◌, history, first}
use Rattle.log_laws.specs.Meaning.{BasePages, owner, is_of, is_owned_by, has, finished, is_unfinished}
use Rattle.journal.specs.declared.entries.TransactionEntry.{TransactionEntry}
use Rattle.journal.specs.declared.entries.PendingEntry.{PendingEntry}
use Rattle.journal.specs.Transactions.{IsTransaction}
use Rattle.journal.specs.Opened.{AreTooMany, unfinished_count, pending_count, largest_number, HasPageBehind, OpenRefused}
use Rattle.journal.specs.declared.refusal.Refusal.{Refusal}
use Rattle.journal.specs.declared.refusal.Refusal.TheVariants.{TooManyTransactions, NoPendingRoom, BadArrays, NothingToUndo, PageBehind, NoNumber}
use Rattle.journal.specs.Runs.{MayOpen}
use Rattle.journal.specs.PageStates.{PageState, IsOneBehind}
use Rattle.journal.proofs.Beginnings.{has_in_first}
use Rattle.journal.proofs.Writers.{current_page}
use Rattle.journal.specs.Scan.{IsScan, fresh, IsNoteRefusal, NoteRefused}
use Rattle.journal.proofs.Transactions.{transaction_other}
use Rattle.journal.proofs.Tables.{standing, kept_at, rises_insert, All-insert}
use Rattle.journal.proofs.Counted.{counted, place_among}
use Rattle.journal.proofs.Scanned.{recorded_more}

module _ (log : History) (next : ℕ) (ts : List TransactionEntry) (n : ℕ) (ps : List PendingEntry) (m : ℕ) (room : n ≤ length ts) (h : IsScan log next ts n ps m) where
  abbrev es : List TransactionEntry
  es = take n ts

  abbrev xs : List PendingEntry
  xs = take m ps

  size : length es ≡ n
  size = length-take-le n ts room

  its : (i : ℕ) (d : TransactionEntry) → i < length es → IsTransaction log (get_or es i d).tx (standing (get_or es i d) xs)
  its i d l = h.standing.each (get_or es i d).tx (standing (get_or es i d) xs) (kept_at es xs i d (get_or es i d).tx h.used.table.rising l refl)

  pub scan_count : n ≤ unfinished_count log
  scan_count =
      let each : All (λ (e : TransactionEntry). is_unfinished e.tx log ≡ true) es =
      λ i d l. and_from (has (is_of (get_or es i d).tx) log) (not (finished (get_or es i d).tx log)) (h.recorded i d l) (ap not (its i d l).unfinished) in
      let all = counted log es h.used.table.rising each in
      omega (arith, all, size)

  -- AFTER A RECORD of a stranger, which goes on
  module _ (r : LogRecord) (tx : ℕ) (owned : owner r ≡ Some tx) (going : finished tx (log ▸ r) ≡ false) (stranger : All (λ (e : TransactionEntry). e.tx ≢ tx) es) where
    abbrev IsGoing : TransactionEntry → Type 0
    IsGoing e = is_unfinished e.tx (log ▸ r) ≡ true

    of : (t : ℕ) → is_of t r ≡ eqb tx t
    of t = ap (is_owned_by t) owned

    old : All IsGoing es
    old i d l =
        let e : TransactionEntry = get_or es i d in
        let other : is_of e.tx r ≡ false = of e.tx ∙ ne_eqb tx e.tx (λ z. stranger i d l (sym z)) in
        and_from (has (is_of e.tx) (log ▸ r)) (not (finished e.tx (log ▸ r))) (recorded_more log r es h.recorded i d l) (ap not (transaction_other e.tx log r (standing e xs) other (its i d l)).unfinished)

    new : IsGoing (fresh tx)
    new = and_from (has (is_of tx) (log ▸ r)) (not (finished tx (log ▸ r))) (or_left (is_of tx r) (has (is_of tx) log) (of tx ∙ eq-eqb tx tx refl)) (ap not going)

    pub one_more : suc n ≤ unfinished_count (log ▸ r)
    one_more =
        let at = place_among es tx h.used.table.rising stranger in
        let rising = rises_insert es at.0 (fresh tx) at.1 at.2 at.3 h.used.table.rising in
        let all = counted (log ▸ r) (insert es at.0 (fresh tx)) rising (All-insert IsGoing es at.0 (fresh tx) new old) in
        let long = length-insert es at.0 (fresh tx) at.1 in
        omega (arith, all, long, size)

    pub too_many : (TRANSACTIONS ≤ n) ⊎ (length ts ≤ n) → AreTooMany (log ▸ r) (length ts)
    too_many full = elim full [ inl le ↦ inl (omega (arith, le, one_more)) | inr le ↦ inr (omega (arith, le, one_more)) ]

-- WHY A LOG IS NOT GONE ON WITH
pub note_kept : (log : History) (images : List Page) (e : Refusal) → IsNoteRefusal e → HasPageBehind log images e
note_kept log images TooManyTransactions k = tt
note_kept log images NoPendingRoom k = tt
note_kept log images BadArrays k = tt
note_kept log images NothingToUndo k = tt
note_kept log images e k = absurd k

-- a page is behind
abbrev pub IsBehindAt : Refusal → Type 0
IsBehindAt (PageBehind number) = ⊤
IsBehindAt _ = ⊥

pub one_behind : (base_lsn : ℕ) (ps : List PageState) (e : Refusal) → IsOneBehind base_lsn ps e → IsBehindAt e
one_behind base_lsn ps (PageBehind number) b = tt
one_behind base_lsn ps e b = absurd b

module _ (log : LogContent) (store : StoreContent) (transactions pages pending : ℕ) where
  pub noted_refused : (lsn : ℕ) (so_far : History) → first lsn (history log) ≡ so_far → (e : Refusal) → NoteRefused so_far transactions pending e → OpenRefused log store transactions pages pending e
  noted_refused lsn so_far is TooManyTransactions r = (lsn, subst (λ l. AreTooMany l transactions) (sym is) r)
  noted_refused lsn so_far is NoPendingRoom r = (lsn, subst (λ l. pending < pending_count l) (sym is) r)
  noted_refused lsn so_far is e r = absurd r

  pub number_refused : (lsn : ℕ) (so_far : History) (r : LogRecord) → first lsn (history log) ≡ so_far ▸ r → owner r ≡ Some largest_number → OpenRefused log store transactions pages pending NoNumber
  number_refused lsn so_far r is owned =
      has_in_first (is_of largest_number) lsn (history log)
      (ap (has (is_of largest_number)) is ∙ or_left (is_of largest_number r) (has (is_of largest_number) so_far) (ap (is_owned_by largest_number) owned ∙ eq-eqb largest_number largest_number refl))

  pub behind_refused : (base : BasePages) → MayOpen base log store → (e : Refusal) → IsBehindAt e → HasPageBehind (history log) store.pages e → OpenRefused log store transactions pages pending e
  behind_refused base h (PageBehind number) k b = (let blank : Page = record { number = 0; lsn = 0; slots = [] } in b.1 blank (current_page base log store h number blank b.0))
  behind_refused base h e k b = absurd k
