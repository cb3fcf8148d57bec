-- How many transactions are unfinished, and how many of their updates are pending, against a table of them.
use Rattle.std.proofs.Common.{◌≡◌, ◌≢◌, ◌<◌, ◌≤◌, ◌+◌, not, ℕ, zero, suc, Bool, true, List, [], ◌∷◌, length, get_or, take, drop, refl, sym, ap, ◌∙◌, inl, inr, arith, eqb, eq-eqb, eqb-true}
use Rattle.std.specs.Prelude.{All, filter}
use Rattle.std.specs.List.{sum_by}
use Rattle.std.proofs.lemmas.Bool.{cases_Bool, cases_eq, cases_lt, or_cases, and_parts, both_ways}
use Rattle.std.proofs.lemmas.List.Elements.{All-nil, All-cons, All-head, All-tail, All-weaker}
use Rattle.std.proofs.lemmas.List.Sums.{sum_by-cons}
use Rattle.log_laws.specs.Records.{History}
use Rattle.log_laws.specs.Meaning.{is_of, has, finished, is_unfinished, pending}
use Rattle.log_laws.specs.Tail.{numbers_from, above_all}
use Rattle.log_laws.proofs.Filters.{tx_below}
use Rattle.journal.specs.declared.entries.TransactionEntry.{TransactionEntry}
use Rattle.journal.specs.declared.entries.PendingEntry.{PendingEntry}
use Rattle.journal.specs.Arrays.{is_by, pending_of, Ascends, is_live, AllLive}
use Rattle.journal.specs.Opened.{unfinished_count, pending_count}
use Rattle.journal.proofs.Tables.{live_cons, live_nil}
use Rattle.journal.proofs.Owed.{own_count, other_same}

-- NUMBERS that pass a test, in rising order, are among those that pass it from one on
chosen_less : (p : ℕ → Bool) (f : ℕ → ℕ) (k a : ℕ) (es : List TransactionEntry) → Ascends es → All (λ (e : TransactionEntry). a ≤ e.tx) es → All (λ (e : TransactionEntry). e.tx < a + k) es → All (λ (e : TransactionEntry). p e.tx ≡ true) es
    → sum_by (λ (e : TransactionEntry). f e.tx) es ≤ sum_by f (filter p (numbers_from a k))
chosen_less p f k a [] rising low high pass = omega arith
chosen_less p f zero a (e ∷ es) rising low high pass =
    absurd (let l : a ≤ e.tx = All-head (λ (x : TransactionEntry). a ≤ x.tx) e es low in let h : e.tx < a + zero = All-head (λ (x : TransactionEntry). x.tx < a + zero) e es high in omega (arith, l, h))
chosen_less p f (suc k) a (e ∷ es) rising low high pass =
    let l : a ≤ e.tx = All-head (λ (x : TransactionEntry). a ≤ x.tx) e es low in
    let on : p e.tx ≡ true = All-head (λ (x : TransactionEntry). p x.tx ≡ true) e es pass in
    let less : All (λ (x : TransactionEntry). x.tx < suc a + k) (e ∷ es) = All-weaker (λ (x : TransactionEntry). x.tx < a + suc k) (λ (x : TransactionEntry). x.tx < suc a + k) (λ x h. omega (arith, h)) (e ∷ es) high in
    elim (cases_eq e.tx a) [
      | inl same ↦
          (let here : p a ≡ true = ap p (sym same) ∙ on in
          let rest =
          chosen_less p f k (suc a) es rising.1 (All-weaker (λ (x : TransactionEntry). e.tx < x.tx) (λ (x : TransactionEntry). suc a ≤ x.tx) (λ x h. omega (arith, h, same)) es rising.0)
          (All-tail (λ (x : TransactionEntry). x.tx < suc a + k) e es less) (All-tail (λ (x : TransactionEntry). p x.tx ≡ true) e es pass) in
          let first : f e.tx ≡ f a = ap f same in
          let at : filter p (numbers_from a (suc k)) ≡ a ∷ filter p (numbers_from (suc a) k) = rw here refl in
          let whole = ap (sum_by f) at in
          omega (arith, rest, first, whole, sum_by-cons f a (filter p (numbers_from (suc a) k)), sum_by-cons (λ (x : TransactionEntry). f x.tx) e es))
      | inr other ↦
          (let over : e.tx ≢ a = other in
          let higher : All (λ (x : TransactionEntry). suc a ≤ x.tx) (e ∷ es) =
          All-cons (λ (x : TransactionEntry). suc a ≤ x.tx) e es (omega (arith, l, over)) (All-weaker (λ (x : TransactionEntry). e.tx < x.tx) (λ (x : TransactionEntry). suc a ≤ x.tx) (λ x h. omega (arith, h, l)) es rising.0) in
          let rest = chosen_less p f k (suc a) (e ∷ es) rising higher less pass in
          elim (cases_Bool (p a)) [
            | inl i ↦
                (let at : filter p (numbers_from a (suc k)) ≡ a ∷ filter p (numbers_from (suc a) k) = rw i refl in
                let whole = ap (sum_by f) at in
                omega (arith, rest, whole, sum_by-cons f a (filter p (numbers_from (suc a) k))))
            | inr i ↦
                (let at : filter p (numbers_from a (suc k)) ≡ filter p (numbers_from (suc a) k) = rw i refl in
                let whole = ap (sum_by f) at in
                omega (arith, rest, whole))
          ])
    ]

ones : {X : Type 0} (xs : List X) → sum_by (λ x. 1) xs ≡ length xs
ones [] = refl
ones {X} (x ∷ xs) = (let rest = ones xs in omega (arith, rest, sum_by-cons {X = X} (λ x. 1) x xs))

-- WHO IS UNFINISHED, in rising order, is counted
module _ (log : History) (es : List TransactionEntry) (rising : Ascends es) (each : All (λ (e : TransactionEntry). is_unfinished e.tx log ≡ true) es) where
  low : All (λ (e : TransactionEntry). 0 ≤ e.tx) es
  low i d l = omega arith

  high : All (λ (e : TransactionEntry). e.tx < 0 + above_all log) es
  high i d l =
      let there : has (is_of (get_or es i d).tx) log ≡ true = (and_parts (has (is_of (get_or es i d).tx) log) (not (finished (get_or es i d).tx log)) (each i d l)).0 in
      (let less = tx_below (get_or es i d).tx log there in omega (arith, less))

  pub counted : length es ≤ unfinished_count log
  unfolding unfinished_count
  counted =
      let all = chosen_less (λ t. is_unfinished t log) (λ t. 1) (above_all log) 0 es rising low high each in
      let a = ones es in
      let b = ones (filter (λ t. is_unfinished t log) (numbers_from 0 (above_all log))) in
      omega (arith, all, a, b)

  pub summed : sum_by (λ (e : TransactionEntry). length (pending e.tx log)) es ≤ pending_count log
  unfolding pending_count
  summed = chosen_less (λ t. is_unfinished t log) (λ t. length (pending t log)) (above_all log) 0 es rising low high each

-- A STRANGER has a place among them
pub place_among : (es : List TransactionEntry) (tx : ℕ) → Ascends es → All (λ (e : TransactionEntry). e.tx ≢ tx) es
    → (i : ℕ) × (i ≤ length es) × All (λ (e : TransactionEntry). e.tx < tx) (take i es) × All (λ (e : TransactionEntry). tx < e.tx) (drop i es)
place_among [] tx rising none = (0, omega arith, All-nil (λ (e : TransactionEntry). e.tx < tx), All-nil (λ (e : TransactionEntry). tx < e.tx))
place_among (e ∷ es) tx rising none =
    let other : e.tx ≢ tx = All-head (λ (x : TransactionEntry). x.tx ≢ tx) e es none in
    elim (cases_lt e.tx tx) [
      | inl less ↦
          (let rest = place_among es tx rising.1 (All-tail (λ (x : TransactionEntry). x.tx ≢ tx) e es none) in
          (suc rest.0, omega (arith, rest.1), All-cons (λ (x : TransactionEntry). x.tx < tx) e (take rest.0 es) less rest.2, rest.3))
      | inr le ↦
          (let over : tx < e.tx = omega (arith, le, other) in (
            0,
            omega arith,
            All-nil (λ (x : TransactionEntry). x.tx < tx),
            All-cons (λ (x : TransactionEntry). tx < x.tx) e es over (All-weaker (λ (x : TransactionEntry). e.tx < x.tx) (λ (x : TransactionEntry). tx < x.tx) (λ x h. omega (arith, h, over)) es rising.0),
          ))
    ]

-- SUMS
pub sum_more : (f g : TransactionEntry → ℕ) (es : List TransactionEntry) → All (λ (e : TransactionEntry). f e ≤ g e) es → sum_by f es ≤ sum_by g es
sum_more f g [] all = omega arith
sum_more f g (e ∷ es) all =
    (let here : f e ≤ g e = All-head (λ (x : TransactionEntry). f x ≤ g x) e es all in let rest = sum_more f g es (All-tail (λ (x : TransactionEntry). f x ≤ g x) e es all) in omega (arith, here, rest, sum_by-cons f e es, sum_by-cons g e es))

pub sum_one_more : (f g : TransactionEntry → ℕ) (es : List TransactionEntry) (i : ℕ) (d : TransactionEntry) → i < length es → f (get_or es i d) + 1 ≤ g (get_or es i d) → All (λ (e : TransactionEntry). f e ≤ g e) es → sum_by f es + 1 ≤ sum_by g es
sum_one_more f g [] i d lt more all = absurd (omega (arith, lt))
sum_one_more f g (e ∷ es) zero d lt more all = (let rest = sum_more f g es (All-tail (λ (x : TransactionEntry). f x ≤ g x) e es all) in omega (arith, more, rest, sum_by-cons f e es, sum_by-cons g e es))
sum_one_more f g (e ∷ es) (suc i) d lt more all =
    let here : f e ≤ g e = All-head (λ (x : TransactionEntry). f x ≤ g x) e es all in
    let rest = sum_one_more f g es i d (omega (arith, lt)) more (All-tail (λ (x : TransactionEntry). f x ≤ g x) e es all) in
    omega (arith, here, rest, sum_by-cons f e es, sum_by-cons g e es)

-- UPDATES of transactions that are listed
live_rest : (e : TransactionEntry) (es : List TransactionEntry) (xs : List PendingEntry) → AllLive (e ∷ es) xs → AllLive es (filter (λ (p : PendingEntry). not (is_by e.tx p)) xs)
live_rest e es [] all = All-nil (λ (p : PendingEntry). is_live es p ≡ true)
live_rest e es (p ∷ xs) all =
    let rest = live_rest e es xs (All-tail (λ (q : PendingEntry). is_live (e ∷ es) q ≡ true) p xs all) in
    let one : is_live (e ∷ es) p ≡ true = All-head (λ (q : PendingEntry). is_live (e ∷ es) q ≡ true) p xs all in
    elim (cases_Bool (eqb p.tx e.tx)) [
      | inl own ↦ rw own rest
      | inr off ↦
          (let here : is_live es p ≡ true =
          elim (or_cases (eqb e.tx p.tx) (is_live es p) (sym (live_cons e es p) ∙ one)) [
            | inl i ↦ absurd (let same : e.tx ≡ p.tx = eqb-true e.tx p.tx i in let other : eqb p.tx e.tx ≡ true = ap (λ n. eqb n e.tx) (sym same) ∙ own_eq e.tx in both_ways (eqb p.tx e.tx) off other)
            | inr i ↦ i
          ] in
          rw off (All-cons (λ (q : PendingEntry). is_live es q ≡ true) p (filter (λ (q : PendingEntry). not (is_by e.tx q)) xs) here rest))
    ]
  where
    own_eq : (n : ℕ) → eqb n n ≡ true
    own_eq n = eq-eqb n n refl

pub live_total : (es : List TransactionEntry) (xs : List PendingEntry) → Ascends es → AllLive es xs → length xs ≤ sum_by (λ (e : TransactionEntry). length (pending_of e.tx xs)) es
live_total [] [] rising all = omega arith
live_total [] (p ∷ xs) rising all = absurd (let on : is_live [] p ≡ true = All-head (λ (q : PendingEntry). is_live [] q ≡ true) p xs all in both_ways (is_live [] p) (live_nil p) on)
live_total (e ∷ es) xs rising all =
    let left : List PendingEntry = filter (λ (p : PendingEntry). not (is_by e.tx p)) xs in
    let rest = live_total es left rising.1 (live_rest e es xs all) in
    let own = own_count e.tx xs in
    let same =
    sum_more (λ (f : TransactionEntry). length (pending_of f.tx left)) (λ (f : TransactionEntry). length (pending_of f.tx xs)) es
    (λ k f l.
    (let other = other_same e.tx (get_or es k f).tx (λ z. (let less : e.tx < (get_or es k f).tx = rising.0 k f l in omega (arith, less, z))) xs in
    let sizes = ap length other in
    omega (arith, sizes))) in
    omega (arith, rest, own, same, sum_by-cons (λ (f : TransactionEntry). length (pending_of f.tx xs)) e es)
