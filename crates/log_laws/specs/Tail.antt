-- What a restart appends to a log. ARIES, section 6.3 (undo pass). Two things are own: the ends of losers with nothing pending come first,
-- in ascending order of number, and LSNs are counted.
use Rattle.std.specs.Prelude.{ℕ, suc, zero, List, [], ◌∷◌, ◌++◌, Bool, true, false, ◌||◌, ◌==◌, if◌then◌else◌, map, filter, flat_map, max, Option, Some, None}
use Rattle.log_laws.specs.Records.{UpdateRecord, LogRecord, Update, Compensation, End, History, start, ◌▸◌, LogContent, history, ◌⧺◌, last_lsn}
use Rattle.log_laws.specs.Meaning.{owner, is_unfinished, in_doubt, is_loser, pending, last_of}

-- WHAT IS WRITTEN
-- the end of a transaction, or the CLR of an update
pub data Action : Type 0 where
  Finish : ℕ → Action
  Undo : UpdateRecord → Action

abbrev pub tx_for : Action → ℕ
tx_for (Finish t) = t
tx_for (Undo u) = u.tx

-- the record of an action, if `last` gives the last record of each transaction
abbrev pub record_for : (ℕ → ℕ) → Action → LogRecord
record_for last (Finish t) = End (record { tx = t; prev = last t })
record_for last (Undo u) =
    Compensation
    (record {
      tx = u.tx;
      prev = last u.tx;
      page = u.page;
      slot = u.slot;
      undo_next = u.prev;
      image = u.before;
    })

-- the records of these actions from an LSN on: PrevLSN is the LSN of the transaction's record before
abbrev pub records_for : (ℕ → ℕ) → ℕ → List Action → List LogRecord
records_for last lsn [] = []
records_for last lsn (a ∷ actions) =
    record_for last a ∷ records_for (λ t. if tx_for a == t then lsn else last t) (suc lsn) actions

-- whether it is a CLR, and whether it is an end
abbrev pub is_clr : LogRecord → Bool
is_clr (Compensation c) = true
is_clr _ = false

abbrev pub is_end : LogRecord → Bool
is_end (End s) = true
is_end _ = false

-- HOW LOSERS ARE ROLLED BACK
abbrev pub is_empty : List ℕ → Bool
is_empty [] = true
is_empty (x ∷ xs) = false

abbrev pub is_among : ℕ → List ℕ → Bool
is_among n [] = false
is_among n (m ∷ ms) = n == m || is_among n ms

abbrev pub is_lowest : ℕ → List ℕ → Bool
is_lowest n [] = false
is_lowest n (m ∷ []) = n == m
is_lowest n (m ∷ k ∷ ms) = is_lowest n (k ∷ ms)

-- the chosen updates of the log with their LSNs, in descending LSN
abbrev pub updates_where : (ℕ → UpdateRecord → Bool) → History → List (ℕ × UpdateRecord)
updates_where chosen (start _) = []
updates_where chosen (log ▸ Update u) =
    if chosen (suc (last_lsn log)) u then (suc (last_lsn log), u) ∷ updates_where chosen log else updates_where chosen log
updates_where chosen (log ▸ _) = updates_where chosen log

-- the updates on the stacks, which hold the LSNs that each transaction has to undo
abbrev pub is_stacked : (ℕ → List ℕ) → ℕ → UpdateRecord → Bool
is_stacked stack lsn u = is_among lsn (stack u.tx)

-- the CLR of such an update; after the CLR of a transaction's lowest update, its end
abbrev pub undo_of : (ℕ → List ℕ) → ℕ × UpdateRecord → List Action
undo_of stack p = Undo p.1 ∷ (if is_lowest p.0 (stack p.1.tx) then Finish p.1.tx ∷ [] else [])

-- First an end for each loser with nothing on its stack; then the CLRs of all updates on the stacks, in descending LSN.
abbrev pub rollback : List ℕ → (ℕ → List ℕ) → History → List Action
rollback losers stack log =
    map Finish (filter (λ t. is_empty (stack t)) losers)
    ++ flat_map (undo_of stack) (updates_where (is_stacked stack) log)

-- THE TAIL
-- k numbers from n on
abbrev pub numbers_from : ℕ → ℕ → List ℕ
numbers_from n zero = []
numbers_from n (suc k) = n ∷ numbers_from (suc n) k

abbrev pub number_or_0 : Option ℕ → ℕ
number_or_0 None = 0
number_or_0 (Some t) = t

-- its transaction's number, 0 for none
abbrev pub tx_of : LogRecord → ℕ
tx_of r = number_or_0 (owner r)

-- a number above those of all transactions of the log
abbrev pub above_all : History → ℕ
above_all (start _) = 0
above_all (log ▸ r) = max (suc (tx_of r)) (above_all log)

-- the chosen transactions of the log, in ascending order of number
abbrev pub transactions_of : (ℕ → Bool) → History → List ℕ
transactions_of chosen log = filter chosen (numbers_from 0 (above_all log))

abbrev pub unfinished_of : History → List ℕ
unfinished_of log = transactions_of (λ t. is_unfinished t log) log

abbrev pub in_doubt_of : History → List ℕ
in_doubt_of log = transactions_of (λ t. in_doubt t log) log

abbrev pub losers_of : History → List ℕ
losers_of log = transactions_of (λ t. is_loser t log) log

-- a loser's pending updates
abbrev pub left_of : History → ℕ → List ℕ
left_of log t = if is_loser t log then pending t log else []

abbrev pub left_to_do : History → List Action
left_to_do log = rollback (losers_of log) (left_of log) log

-- TAIL. The losers of the log are rolled back, and these records are written after it.
abbrev pub tail : History → List LogRecord
tail log = records_for (λ t. last_of t log) (suc (last_lsn log)) (left_to_do log)

-- the tail of this log
abbrev pub tail_of : LogContent → List LogRecord
tail_of log = tail (history log)

-- the log and its tail
abbrev pub with_tail : LogContent → LogContent
with_tail log = log ⧺ tail_of log
